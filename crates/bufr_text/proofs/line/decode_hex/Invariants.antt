use Rattle.std.proofs.Common.{length, ◌-◌, ◌*◌}
use Rattle.bufr_text.proofs.ItemLemmas.{IsUnhexing}
use Rattle.bufr_text.proofs.line.decode_hex.Given as goal

abbrev pub invariant-loop-count : goal.invariant-loop-count
invariant-loop-count l = IsUnhexing l.text l.out l.count

abbrev pub decreases-loop-count : goal.decreases-loop-count
decreases-loop-count l = length l.text - 2 * l.count
