use Rattle.std.proofs.Common.{◌≡◌, ◌-◌, [], length}
use Rattle.bufr_text.proofs.AlikeLemmas.{GatheredSoFar}
use Rattle.bufr_text.proofs.alike.AlikeLines.gather_items.Given as goal

abbrev pub invariant-stretches : goal.invariant-stretches
invariant-stretches l = record {
  gathered : GatheredSoFar l.items l.lines l.at l.self.stretches.items;
  text : l.self.text.items ≡ [];
}

abbrev pub decreases-stretches : goal.decreases-stretches
decreases-stretches l = length l.items.items - l.at
