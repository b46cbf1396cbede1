use Rattle.std.proofs.Common.{arith, refl}
use Rattle.bufr_text.proofs.PushLemmas.{◌⨾◌, nothing_pushed, retold}
use Rattle.bufr_text.proofs.NumberLemmas.{padded_two, padded_four}
use Rattle.bufr_text.proofs.ls.push_time.Goals as goal

pub returns : goal.returns
returns g c =
    let h = c.head-head.result in
    let year = padded_four h.year (omega arith) in
    let month = padded_two h.month (omega arith) in
    let day = padded_two h.day (omega arith) in
    let hour = padded_two h.hour (omega arith) in
    let minute = padded_two h.minute (omega arith) in
    let second = padded_two h.second (omega arith) in
    rw (← c.head-head.ensures)
    (retold c.push_array.ensures (rw (
      year,
      month,
      day,
      hour,
      minute,
      second,
      c.pair-y1.ensures.tens,
      c.pair-y1.ensures.ones,
      c.pair-y3.ensures.tens,
      c.pair-y3.ensures.ones,
      c.pair-m1.ensures.tens,
      c.pair-m1.ensures.ones,
      c.pair-d1.ensures.tens,
      c.pair-d1.ensures.ones,
      c.pair-h1.ensures.tens,
      c.pair-h1.ensures.ones,
      c.pair-n1.ensures.tens,
      c.pair-n1.ensures.ones,
      c.pair-s1.ensures.tens,
      c.pair-s1.ensures.ones,
      c.from-2.ensures,
      c.from-3.ensures,
      c.from-4.ensures,
      c.from-5.ensures,
      c.from-6.ensures,
      c.from-7.ensures,
      c.from-8.ensures,
    ) refl))

pub returns-then-head-gt9999 : goal.returns-then-head-gt9999
returns-then-head-gt9999 g c =
    rw (
      ← c.head-head.ensures,
      ← c.from.ensures,
      ← c.from-then-head-gt9999.ensures,
      ← c.from-then-head-gt9999-2.ensures,
      ← c.from-then-head-gt9999-3.ensures,
      ← c.from-then-head-gt9999-4.ensures,
      ← c.from-then-head-gt9999-5.ensures,
    )
    (c.push.ensures ⨾ (c.push_padded.ensures ⨾ (c.push-then-head-gt9999.ensures ⨾
    (c.push_padded-then-head-gt9999.ensures ⨾ (c.push-then-head-gt9999-2.ensures ⨾
    (c.push_padded-then-head-gt9999-2.ensures ⨾ (c.push-then-head-gt9999-3.ensures ⨾
    (c.push_padded-then-head-gt9999-3.ensures ⨾ (c.push-then-head-gt9999-4.ensures ⨾
    (c.push_padded-then-head-gt9999-4.ensures ⨾ (c.push-then-head-gt9999-5.ensures ⨾ (c.push_padded-then-head-gt9999-5.ensures ⨾ nothing_pushed))))))))))))
