use Rattle.std.proofs.Common.{◌≡◌, ◌-◌, length, take}
use Rattle.bufr_fill.specs.Prelude.{trimmed}
use Rattle.bufr_fill.proofs.packed_out.trimmed_len.Given as goal

abbrev pub invariant-loop-spaces : goal.invariant-loop-spaces
invariant-loop-spaces l = trimmed (take (length l.octets - l.spaces) l.octets) ≡ trimmed l.octets
