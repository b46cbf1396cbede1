use Rattle.std.proofs.Common.{◌≡◌, ◌≤◌, ◌+◌, ◌*◌, length}
use Rattle.bufr_bits.specs.Prelude.{bits_at, are_all_ones}
use Rattle.bufr_bits.proofs.bit_slice.BitSlice.all_ones.Given as goal

abbrev pub invariant-loop-left : goal.invariant-loop-left
invariant-loop-left l = record {
  inside : l.from + l.left ≤ 8 * length l.self.octets.now;
  so_far : are_all_ones (bits_at l.self.octets.now l.at l.width) ≡ are_all_ones (bits_at l.self.octets.now l.from l.left);
}

abbrev pub decreases-loop-left : goal.decreases-loop-left
decreases-loop-left l = l.left
