use Rattle.std.proofs.Common.{◌≡◌, ◌+◌, ◌-◌, ◌*◌, drop}
use Rattle.bufr_bits.specs.Prelude.{bits_of, bits_at, octets_of}
use Rattle.bufr_walk.specs.Prelude.{numbers, are_valid}
use Rattle.bufr_walk.proofs.compressed.are_number_increments_valid.Given as goal

abbrev pub invariant-loop-subset : goal.invariant-loop-subset
invariant-loop-subset l = record {
  increment_at : l.increment_at ≡ l.at + (l.spec.width + 6) + l.subset * l.k;
  sofar : are_valid (numbers l.spec.width l.spec.may_be_missing) l.k l.subsets (bits_at (octets_of l.bits) l.at l.spec.width) (drop (l.at + (l.spec.width + 6)) (bits_of (octets_of l.bits)))
      ≡ are_valid (numbers l.spec.width l.spec.may_be_missing) l.k (l.subsets - l.subset) (bits_at (octets_of l.bits) l.at l.spec.width) (drop l.increment_at (bits_of (octets_of l.bits)));
}
