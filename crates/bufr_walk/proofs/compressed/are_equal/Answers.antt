use Rattle.std.proofs.Common.{arith, ◌==◌, ◌-◌, ◌+◌, sym}
use Rattle.bufr_bits.specs.Prelude.{bits_of, number_of, octets_of}
use Rattle.bufr_walk.proofs.PackedLemmas.{passes_next, fails_next, is_first, is_other}
use Rattle.bufr_walk.proofs.compressed.are_equal.Goals as goal

pub returns-then-increment-first : goal.returns-then-increment-first
returns-then-increment-first c =
    sym (fails_next (λ i. number_of i == c.args.first) (c.args.subsets - c.loop-subset.subset) (c.args.subsets - (c.loop-subset.subset + 1)) c.args.k c.loop-subset.increment_at
    (bits_of (octets_of c.args.bits.now)) _ (omega arith) c.loop-subset.invariant.sofar (is_other _ _ _ c.number_at-increment.ensures.value c.if-increment-first.true))

pub loop-subset-preserved : goal.loop-subset-preserved
loop-subset-preserved c = record {
  increment_at = omega arith;
  sofar = passes_next (λ i. number_of i == c.args.first) (c.args.subsets - c.loop-subset.subset) (c.args.subsets - (c.loop-subset.subset + 1)) c.args.k c.loop-subset.increment_at _
      (bits_of (octets_of c.args.bits.now)) _ (omega arith) (omega arith) c.loop-subset.invariant.sofar (is_first _ _ _ c.number_at-increment.ensures.value c.if-increment-first.false);
}
