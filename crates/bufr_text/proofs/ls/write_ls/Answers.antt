use Rattle.std.proofs.Common.{◌∙◌, ap, length, refl, rules}
use Rattle.bufr_text.proofs.PushLemmas.{all_written, line-pushed, ◌⨾◌, retold, is_some-map}
use Rattle.bufr_text.proofs.NumberLemmas.{flag_digit}
use Rattle.bufr_text.proofs.ls.write_ls.Goals as goal

pub returns-clause-writes : goal.returns-clause-writes
returns-clause-writes g c =
    let before = c.new-line.ensures in
    let count = c.len.ensures ∙ ap length c.descriptors.ensures in
    all_written tt (line-pushed c.args.offset c.args.message.now c.push_source.ensures c.push_time.ensures
    (retold (c.push_named.ensures ⨾ (c.push_array.ensures ⨾ (c.push_named-2.ensures ⨾ c.push.ensures)))
    (rw (← c.subsets.ensures, ← c.observed.ensures, ← c.compressed.ensures, ← c.section2.ensures, is_some-map, ← c.is_some.ensures, ← count)
    (rw (
      c.from.ensures,
      flag_digit c.observed.result c.from-2.result c.from-2.ensures,
      flag_digit c.compressed.result c.from-3.result c.from-3.ensures,
      flag_digit c.is_some.result c.from-4.result c.from-4.ensures,
    ) refl))))
    c.flush_buf.ensures.pushes before.status before.held c.flush_buf.ensures.none before.taken (search rules) c.status-outcome.ensures
