use Rattle.bufr_walk.specs.Prelude.{packed_calls, Sofar}
use Rattle.bufr_walk.proofs.PackedShowing.{subsets_left}
use Rattle.bufr_walk.proofs.compressed.PackedItems.show_all.Given as goal

abbrev pub invariant-subsets : goal.invariant-subsets
invariant-subsets g l = Sofar g.V.Visitor.sees l.fn.visitor (packed_calls l.self) l.visitor (subsets_left g.V.Visitor.sees l.self l.subset)
