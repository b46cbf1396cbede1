use Rattle.std.proofs.Common.{◌-◌, ◌≡◌, ◌≤◌, ◌+◌, ◌*◌, length}
use Rattle.bufr_bits.specs.Prelude.{number_of, bits_at}
use Rattle.bufr_bits.proofs.bit_slice.BitSlice.by_octets.Given as goal

abbrev pub invariant-loop-done : goal.invariant-loop-done
invariant-loop-done l = record {
  within : l.done ≤ l.width;
  inside : l.at + l.width ≤ 8 * length l.self.octets.now;
  so_far : l.value ≡ number_of (bits_at l.self.octets.now l.at l.done);
}

abbrev pub decreases-loop-done : goal.decreases-loop-done
decreases-loop-done l = l.width - l.done
