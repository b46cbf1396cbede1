use Rattle.std.proofs.Common.{length, ◌-◌}
use Rattle.bufr_text.proofs.ItemLemmas.{IsTokenTo}
use Rattle.bufr_text.proofs.line.token.Given as goal

abbrev pub invariant-loop-at : goal.invariant-loop-at
invariant-loop-at l = IsTokenTo l.text l.at

abbrev pub decreases-loop-at : goal.decreases-loop-at
decreases-loop-at l = length l.text - l.at
