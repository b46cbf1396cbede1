use Rattle.std.proofs.Common.{◌∷◌, [], ◌++◌, ap, ◌∙◌, length, refl, arith}
use Rattle.bufr_fill.specs.Prelude.{Ends, entries_stored}
use Rattle.bufr_fill.proofs.EntryLemmas.{entries-more, stored-push, length-entries, ends_after_end}
use Rattle.bufr_fill.proofs.draft.Entries.push_end.Goals as goal

pub invariant_of-self-2 : goal.invariant_of-self-2
invariant_of-self-2 c =
    let d = c.self.inside in
    let n = length d.octets.items in
    let index = c.len-index.result in
    let stored = stored-push n n d.kept.items c.push.new.self.items _ c.self.invariant.0 c.self.invariant.1 c.in_ok-push.ensures.items (omega arith) tt in
    let entries = entries-more d.octets.items d.kept.items c.push.new.self.items _ (Ends c.args.line) c.in_ok-push.ensures.items refl in
    let grown = c.push_reserved.ensures.items ∙ ap (λ l. l ++ index ∷ []) c.in_ok-reserve.ensures.items in (
      stored.0,
      stored.1,
      ends_after_end (entries_stored d.octets.items d.kept.items) _ d.ends.items c.push_reserved.new.self.items c.args.line index c.self.invariant.2 entries
          (omega (arith, c.len-index.ensures, length-entries d.octets.items d.kept.items)) grown,
    )
