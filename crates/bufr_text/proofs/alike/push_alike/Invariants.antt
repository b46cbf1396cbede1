use Rattle.std.proofs.Common.{◌-◌, length}
use Rattle.bufr_text.specs.Prelude.{PushesAlike}
use Rattle.bufr_text.proofs.alike.push_alike.Given as goal

abbrev pub invariant-items : goal.invariant-items
invariant-items l = PushesAlike l.items l.from l.to l.fn.lines l.lines

abbrev pub decreases-items : goal.decreases-items
decreases-items l = length l.items.items - l.to
