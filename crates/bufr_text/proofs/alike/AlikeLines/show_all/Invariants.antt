use Rattle.bufr_walk.specs.Prelude.{packed_calls, Sofar}
use Rattle.bufr_walk.proofs.PackedShowing.{subsets_left}
use Rattle.bufr_text.specs.Prelude.{PushesCall}
use Rattle.bufr_text.proofs.alike.AlikeLines.show_all.Given as goal

abbrev pub invariant-subsets : goal.invariant-subsets
invariant-subsets g l = Sofar PushesCall l.fn.lines (packed_calls l.items) l.lines (subsets_left PushesCall l.items l.subset)
