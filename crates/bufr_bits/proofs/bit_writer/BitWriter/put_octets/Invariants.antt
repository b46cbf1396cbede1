use Rattle.std.proofs.Common.{◌≡◌, ◌≤◌, ◌+◌, ◌*◌, ◌++◌, take}
use Rattle.bufr_bits.specs.Prelude.{bits_of}
use Rattle.bufr_bits.proofs.bit_writer.BitWriter.put_octets.Given as goal

abbrev pub invariant-loop-octet : goal.invariant-loop-octet
invariant-loop-octet l = record {
  bits : l.self.bits ≡ l.fn.self.bits ++ bits_of (take l.octet-index l.octets);
  room : l.fn.self.room ≤ l.self.room + 8 * l.octet-index;
}
