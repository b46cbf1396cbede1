use Rattle.std.proofs.Common.{refl, length, arith}
use Rattle.bufr_fill.specs.Prelude.{draft, number_token, entries_stored, Holds}
use Rattle.bufr_bits.specs.Prelude.{short_text}
use Rattle.bufr_fill.proofs.EntryLemmas.{entries-more, stored-push, ends_after_item}
use Rattle.bufr_fill.proofs.draft.Entries.push_decimal.Goals as goal

pub invariant_of-self-2 : goal.invariant_of-self-2
invariant_of-self-2 c =
    let d = c.self.inside in
    let n = length d.octets.items in
    let item = draft c.args.line c.args.fxy (number_token (short_text c.args.number)) in
    let stored = stored-push n n d.kept.items c.push.new.self.items _ c.self.invariant.0 c.self.invariant.1 c.in_ok-push.ensures.items (omega arith) tt in
    let entries = entries-more d.octets.items d.kept.items c.push.new.self.items _ (Holds item) c.in_ok-push.ensures.items refl in
    (stored.0, stored.1, ends_after_item (entries_stored d.octets.items d.kept.items) _ d.ends.items item c.self.invariant.2 entries)
