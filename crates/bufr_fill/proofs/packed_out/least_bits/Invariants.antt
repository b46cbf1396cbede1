use Rattle.std.proofs.Common.{◌≡◌}
use Rattle.bufr_fill.specs.Prelude.{least_from}
use Rattle.bufr_fill.proofs.packed_out.least_bits.Given as goal

abbrev pub invariant-loop-k : goal.invariant-loop-k
invariant-loop-k l = least_from l.may_be_missing l.spread 1 ≡ least_from l.may_be_missing l.spread l.k
