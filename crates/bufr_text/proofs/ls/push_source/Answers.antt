use Rattle.bufr_text.proofs.PushLemmas.{◌⨾◌, nothing_pushed}
use Rattle.bufr_text.proofs.ls.push_source.Goals as goal

pub returns : goal.returns
returns g c =
    rw (
      ← c.head-head.ensures,
      ← c.length.ensures,
      ← c.from.ensures,
      ← c.from-2.ensures,
      ← c.from-3.ensures,
      ← c.from-4.ensures,
      ← c.from-5.ensures,
      ← c.from-6.ensures,
      ← c.from-7.ensures,
      ← c.from-8.ensures,
      ← c.from-9.ensures,
      ← c.from-10.ensures,
    )
    (c.push_named.ensures ⨾ (c.push_named-2.ensures ⨾ (c.push_named-3.ensures ⨾ (c.push_named-4.ensures ⨾ (c.push_named-5.ensures ⨾ (c.push_named-6.ensures
    ⨾ (c.push_named-7.ensures ⨾ (c.push_named-8.ensures ⨾ (c.push_named-9.ensures ⨾ (c.push_named-10.ensures ⨾ (c.push_named-11.ensures ⨾ (c.push_named-12.ensures ⨾ nothing_pushed))))))))))))
