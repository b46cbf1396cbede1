use Rattle.std.proofs.Common.{◌≡◌, ◌<◌, length}
use Rattle.bufr_walk.specs.Prelude.{begin, Rest, unroll}
use Rattle.bufr_walk.proofs.WalkProgress.{IsAtCell, weight, HasWalked}
use Rattle.bufr_walk.proofs.walker.walk_with.Given as goal

abbrev pub invariant-turns : goal.invariant-turns
invariant-turns g l =
    (l.cache ≡ l.fn.cache)
    × ((left : Rest → Rest) × IsAtCell l.cells l.index l.open_groups.items left
    × HasWalked g.S.Fields.takes l.fn.cache (unroll l.fn.template) left begin l.fn.fields l.fn.steps l.in_force l.fields l.steps)
    × (l.index < length l.cells)

abbrev pub decreases-turns : goal.decreases-turns
decreases-turns g l = weight l.cells l.index l.open_groups.items
