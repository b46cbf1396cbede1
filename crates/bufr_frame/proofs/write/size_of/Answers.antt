use Rattle.std.proofs.Common.{rules, ◌≡◌, ◌≤◌, false, subst, sym}
use Rattle.std.specs.Option.{option_map}
use Rattle.bufr_frame.specs.Prelude.{MessageParts, min_section_1, parts_of, max_octets}
use Rattle.bufr_frame.proofs.LayoutLemmas.{message_size_is}
use Rattle.bufr_frame.proofs.write.size_of.Goals as goal

pub returns-then-size-gt-MAX_OCTETS-clause-lengths : goal.returns-then-size-gt-MAX_OCTETS-clause-lengths
unfolding min_section_1
returns-then-size-gt-MAX_OCTETS-clause-lengths c = search rules

pub returns-then-size-gt-MAX_OCTETS-clause-size : goal.returns-then-size-gt-MAX_OCTETS-clause-size
returns-then-size-gt-MAX_OCTETS-clause-size c =
    let p : MessageParts = parts_of c.args.local1.now (option_map (λ s. s.now) c.args.section2) c.args.descriptors.now 0 false false c.args.payload.now in
    subst (λ n. n ≤ max_octets → ⊥) (sym (message_size_is c.args.edition p)) (returns-then-size-gt-MAX_OCTETS-clause-lengths c)

pub returns-else-size-gt-MAX_OCTETS-clause-lengths : goal.returns-else-size-gt-MAX_OCTETS-clause-lengths
unfolding min_section_1
returns-else-size-gt-MAX_OCTETS-clause-lengths c = search rules

pub returns-else-size-gt-MAX_OCTETS-clause-size : goal.returns-else-size-gt-MAX_OCTETS-clause-size
returns-else-size-gt-MAX_OCTETS-clause-size c =
    let p : MessageParts = parts_of c.args.local1.now (option_map (λ s. s.now) c.args.section2) c.args.descriptors.now 0 false false c.args.payload.now in
    subst (λ n. (n ≤ max_octets) × (c.saturating_add-size.result ≡ n)) (sym (message_size_is c.args.edition p)) (returns-else-size-gt-MAX_OCTETS-clause-lengths c)
