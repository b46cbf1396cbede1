use Rattle.std.proofs.Common.{List, ◌≡◌, ◌≤◌, [], ◌∷◌, ◌++◌, ap, ◌∙◌, rules, arith, length-append, length, Some}
use Rattle.bufr_fill.specs.declared.draft.StoredEntry.{StoredEntry}
use Rattle.bufr_fill.specs.Prelude.{DraftEntry, Holds, draft, draft_in, entries_stored}
use Rattle.bufr_fill.proofs.EntryLemmas.{entries-push, stored-push, ends_after_item}
use Rattle.bufr_fill.proofs.draft.Entries.push_item.Goals as goal

pub returns-clause-item : goal.returns-clause-item
returns-clause-item c =
    let d = c.self.inside in
    let one : StoredEntry = record { line = c.args.item.line; start = c.len-start.result; end = c.len-end.result; fxy = c.args.item.fxy; kind = Some c.parts_of-kind.result.0 } in
    let kept : c.push_reserved.new.self.items ≡ d.kept.items ++ one ∷ [] = c.push_reserved.ensures.items ∙ ap (λ l. l ++ one ∷ []) c.in_ok-reserve.ensures.items in
    entries-push d.octets.items c.parts_of-kind.result.1.now c.extend_from_slice.new.self.items d.kept.items c.push_reserved.new.self.items one (Holds (draft_in c.args.item)) c.self.invariant.0
    c.in_ok-extend_from_slice.ensures.items kept (search rules) (search rules) (ap (λ v. Holds (draft c.args.item.line c.args.item.fxy v)) (c.parts_of-kind.ensures.is _))
    ∙ ap (λ (entries : List DraftEntry). entries ++ Holds (draft_in c.args.item) ∷ []) c.self.view_is

pub invariant_of-self-2 : goal.invariant_of-self-2
invariant_of-self-2 c =
    let d = c.self.inside in
    let new = c.extend_from_slice.new.self.items in
    let one : StoredEntry = record { line = c.args.item.line; start = c.len-start.result; end = c.len-end.result; fxy = c.args.item.fxy; kind = Some c.parts_of-kind.result.0 } in
    let kept : c.push_reserved.new.self.items ≡ d.kept.items ++ one ∷ [] = c.push_reserved.ensures.items ∙ ap (λ l. l ++ one ∷ []) c.in_ok-reserve.ensures.items in
    let more : length d.octets.items ≤ length new = omega (arith, ap length c.in_ok-extend_from_slice.ensures.items, length-append d.octets.items c.parts_of-kind.result.1.now) in
    let from : one.start ≡ length d.octets.items = search rules in
    let to : one.end ≡ length new = search rules in
    let stored = stored-push (length d.octets.items) (length new) d.kept.items c.push_reserved.new.self.items one c.self.invariant.0 c.self.invariant.1 kept (omega (arith, from, to, more))
    (c.parts_of-kind.ensures.inside (length new) one.start one.end (omega (arith, from, to, more)) (omega (arith, to))) in
    let entries = entries-push d.octets.items c.parts_of-kind.result.1.now new d.kept.items c.push_reserved.new.self.items one (Holds (draft_in c.args.item)) c.self.invariant.0
    c.in_ok-extend_from_slice.ensures.items kept from to (ap (λ v. Holds (draft c.args.item.line c.args.item.fxy v)) (c.parts_of-kind.ensures.is _)) in
    (stored.0, stored.1, ends_after_item (entries_stored d.octets.items d.kept.items) _ d.ends.items (draft_in c.args.item) c.self.invariant.2 entries)
