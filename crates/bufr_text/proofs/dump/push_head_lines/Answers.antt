use Rattle.std.proofs.Common.{◌∙◌, ◌++◌, ap, codes, refl, sym, is_some}
use Rattle.bufr_text.specs.Prelude.{Pushes, header_of, keys}
use Rattle.bufr_text.proofs.PushLemmas.{header_text, is_some-map, head-is, header-lines, section2-or, ◌⨾◌, nothing_pushed, retold}
use Rattle.std.specs.Int.{from_bool}
use Rattle.bufr_text.proofs.dump.push_head_lines.Goals as goal

pub returns : goal.returns
unfolding keys header_text
returns g c =
    let observed = c.from-17.ensures ∙ ap from_bool c.observed.ensures in
    let compressed = c.from-18.ensures ∙ ap from_bool c.compressed.ensures in
    let optional = c.from-19.ensures ∙ ap from_bool (c.is_some.ensures ∙ sym (is_some-map (λ s. s.now) c.section2.result) ∙ ap is_some c.section2.ensures) in
    let keys : Pushes c.push.new.self (header_text 0 (header_of c.args.message.now)) c.push_named-20.new.self =
    rw (
      ← c.head-head.ensures,
      ← c.from.ensures,
      ← c.from-2.ensures,
      ← c.from-3.ensures,
      ← c.from-4.ensures,
      ← c.from-5.ensures,
      ← c.from-6.ensures,
      ← c.from-7.ensures,
      ← c.from-8.ensures,
      ← c.from-9.ensures,
      ← c.from-10.ensures,
      ← c.from-11.ensures,
      ← c.from-12.ensures,
      ← c.from-13.ensures,
      ← c.from-14.ensures,
      ← c.from-15.ensures,
      ← c.from-16.ensures,
      ← observed,
      ← compressed,
      ← optional,
      ← c.subsets.ensures,
      ← c.from-20.ensures,
    )
    (c.push_named.ensures ⨾ (c.push_named-2.ensures ⨾ (c.push_named-3.ensures ⨾ (c.push_named-4.ensures ⨾ (c.push_named-5.ensures ⨾ (c.push_named-6.ensures ⨾ (
    c.push_named-7.ensures ⨾ (c.push_named-8.ensures ⨾ (c.push_named-9.ensures ⨾ (c.push_named-10.ensures ⨾ (c.push_named-11.ensures ⨾ (c.push_named-12.ensures ⨾ (
    c.push_named-13.ensures ⨾ (c.push_named-14.ensures ⨾ (c.push_named-15.ensures ⨾ (c.push_named-16.ensures ⨾ (c.push_named-17.ensures ⨾ (
    c.push_named-18.ensures ⨾ (c.push_named-19.ensures ⨾ (c.push_named-20.ensures ⨾ nothing_pushed)))))))))))))))))))) in
    let header = retold (c.push.ensures ⨾ (keys ⨾ c.push-2.ensures)) (ap (λ l. codes "message" ++ l) (sym (header-lines 0 (header_of c.args.message.now)))) in
    let section2 = section2-or (λ s. s.now) c.section2-2.result _ c.unwrap_or.result c.args.message.now.section2 c.section2-2.ensures c.unwrap_or.ensures refl in
    retold (header ⨾ (rw c.local1.ensures at c.push_octet_lines.ensures ⨾ (rw section2 at c.push_octet_lines-2.ensures ⨾ c.push_descriptor_lines.ensures))) (head-is c.args.message.now)
