use Rattle.std.proofs.Common.{◌-◌, length}
use Rattle.bufr_text.proofs.ItemLemmas.{IsUnquoting}
use Rattle.bufr_text.proofs.line.decode_quoted.Given as goal

abbrev pub invariant-loop-at : goal.invariant-loop-at
invariant-loop-at l = IsUnquoting l.text l.out l.count l.at

abbrev pub decreases-loop-at : goal.decreases-loop-at
decreases-loop-at l = length l.text - l.at
