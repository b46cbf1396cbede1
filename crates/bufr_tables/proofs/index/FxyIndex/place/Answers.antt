use Rattle.std.proofs.Common.{◌≡◌, ◌∙◌, arith, get_or}
use Rattle.std.proofs.lemmas.List.{get_or_read}
use Rattle.bufr_tables.proofs.TableBLemmas.{mark-inside}
use Rattle.bufr_tables.proofs.index.FxyIndex.place.Goals as goal

pub returns-in_default-clause-inside : goal.returns-in_default-clause-inside
returns-in_default-clause-inside c =
    let dir = c.self.invariant in
    let marks = c.self.inside.marks.items in
    let read : c.index.result.now ≡ get_or marks c.args.key 0 = get_or_read marks c.args.key _ (omega (arith, dir.size)) c.index.ensures 0 in
    let mark = read ∙ dir.marks c.args.key c.requires in
    rw (← c.self.view_is, c.from.ensures) (mark-inside c.self.inside.keys.items c.args.key _ mark (λ none. absurd (omega arith)))
