use Rattle.std.proofs.Common.{◌≡◌, ◌≤◌, ◌-◌, ◌++◌, drop, length, take}
use Rattle.bufr_text.specs.Prelude.{quoted}
use Rattle.bufr_text.proofs.line_writer.fill_text.Given as goal

-- The text of the octets before index `taken` was copied.
abbrev pub invariant-loop-taken : goal.invariant-loop-taken
invariant-loop-taken l = record {
  within : l.taken ≤ length l.octets;
  room : l.len ≤ length l.free;
  text : quoted l.octets ≡ take l.len l.free ++ quoted (drop l.taken l.octets);
}

abbrev pub decreases-loop-taken : goal.decreases-loop-taken
decreases-loop-taken l = length l.octets - l.taken
