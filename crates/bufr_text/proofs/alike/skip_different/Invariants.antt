use Rattle.std.proofs.Common.{◌<◌, ◌≤◌, ◌-◌, length}
use Rattle.bufr_text.proofs.alike.skip_different.Given as goal

abbrev pub invariant-items : goal.invariant-items
invariant-items l = record {
  more : l.from < l.to;
  within : l.to ≤ length l.items.items;
}

abbrev pub decreases-items : goal.decreases-items
decreases-items l = length l.items.items - l.to
