use Rattle.std.proofs.Common.{◌≡◌, ◌≤◌, ◌-◌, ◌++◌, drop, length, take}
use Rattle.bufr_text.specs.Prelude.{quoted}
use Rattle.bufr_text.proofs.line_writer.fill_run.Given as goal

-- The octets before index `len` were copied. None of them needs an escape.
abbrev pub invariant-loop-len : goal.invariant-loop-len
invariant-loop-len l = record {
  within : l.len ≤ length l.octets;
  room : l.len ≤ length l.free;
  copied : take l.len l.free ≡ take l.len l.octets;
  plain : quoted l.octets ≡ take l.len l.octets ++ quoted (drop l.len l.octets);
}

abbrev pub decreases-loop-len : goal.decreases-loop-len
decreases-loop-len l = length l.octets - l.len
