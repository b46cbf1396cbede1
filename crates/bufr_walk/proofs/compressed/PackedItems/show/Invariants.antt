use Rattle.bufr_walk.specs.Prelude.{range_calls, Sofar}
use Rattle.bufr_walk.proofs.compressed.PackedItems.show.Given as goal

abbrev pub invariant-items : goal.invariant-items
invariant-items g l = Sofar g.V.Visitor.sees l.fn.visitor (range_calls l.self l.subset l.from l.to) l.visitor (range_calls l.self l.subset l.index l.to)
