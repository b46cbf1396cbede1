use Rattle.std.proofs.Common.{length, ◌-◌, ◌*◌}
use Rattle.bufr_text.proofs.ItemLemmas.{IsDescribing}
use Rattle.bufr_text.proofs.header.describe.Given as goal

abbrev pub invariant-loop-count : goal.invariant-loop-count
invariant-loop-count l = IsDescribing l.text l.out l.count

abbrev pub decreases-loop-count : goal.decreases-loop-count
decreases-loop-count l = length l.text - 7 * l.count
