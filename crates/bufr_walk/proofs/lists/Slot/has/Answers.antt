use Rattle.std.proofs.Common.{◌≡◌, true, sym, ◌∙◌}
use Rattle.std.proofs.lemmas.Slice.Eq.{slice_eq-Decides}
use Rattle.std.proofs.lemmas.Bool.Decides.{Decides-eqb}
use Rattle.bufr_tables.specs.contracts.fxy.FxyPartialEq.TheImpl as same
use Rattle.bufr_walk.proofs.lists.Slot.has.Goals as goal

pub returns-clause-same : goal.returns-clause-same
returns-clause-same c is =
    let decides = slice_eq-Decides {E = (same.ghosts).eq} (λ a b. Decides-eqb a b) c.as_slice.result.now c.args.descriptors.now _ c.eq.ensures in
    sym c.as_slice.ensures.value ∙ decides.0 is

pub returns-clause-other : goal.returns-clause-other
returns-clause-other c is =
    let decides = slice_eq-Decides {E = (same.ghosts).eq} (λ a b. Decides-eqb a b) c.as_slice.result.now c.args.descriptors.now _ c.eq.ensures in
    λ e. let kept : c.eq.result ≡ true = decides.1 (c.as_slice.ensures.value ∙ e) in cc
