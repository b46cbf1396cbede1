use Rattle.std.proofs.Common.{◌==◌, ◌≡◌, ◌+◌, ◌-◌, ◌*◌, drop}
use Rattle.bufr_bits.specs.Prelude.{bits_of, number_of, octets_of}
use Rattle.std.specs.List.{list_all}
use Rattle.bufr_walk.specs.Prelude.{increments}
use Rattle.bufr_walk.proofs.compressed.are_equal.Given as goal

abbrev pub invariant-loop-subset : goal.invariant-loop-subset
invariant-loop-subset l = record {
  increment_at : l.increment_at ≡ l.at + l.subset * l.k;
  sofar : list_all (λ i. number_of i == l.first) (increments l.subsets l.k (drop l.at (bits_of (octets_of l.bits))))
      ≡ list_all (λ i. number_of i == l.first) (increments (l.subsets - l.subset) l.k (drop l.increment_at (bits_of (octets_of l.bits))));
}
