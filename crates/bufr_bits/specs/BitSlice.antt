-- Only contracts need this file. The octets of a bit slice.
use Rattle.std.specs.Prelude.{ℕ, List}
use Rattle.bufr_bits.specs.declared.bit_slice.BitSlice.{BitSlice}

-- the octets that a bit slice refers to
abbrev pub octets_of : BitSlice → List ℕ
octets_of s = s.octets.now
