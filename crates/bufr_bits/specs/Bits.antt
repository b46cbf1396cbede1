-- Conversions between octets, bits and numbers, most significant bit first (FM 94 BUFR).
-- Cited by public contracts.
use Rattle.std.specs.Prelude.{ℕ, zero, suc, ◌+◌, ◌-◌, ◌*◌, ◌^◌, ◌/◌, ◌%◌, ◌==◌, Bool, false, if◌then◌else◌, List, [], ◌∷◌, ◌++◌, take, drop, replicate, ◌≡◌, ◌<◌, ◌≤◌, length, min}
use Rattle.std.specs.List.{list_all}

abbrev pub bits_of_octet : ℕ → List Bool
bits_of_octet n =
    (n / 128 % 2 == 1) ∷ (n / 64 % 2 == 1) ∷ (n / 32 % 2 == 1) ∷ (n / 16 % 2 == 1)
    ∷ (n / 8 % 2 == 1) ∷ (n / 4 % 2 == 1) ∷ (n / 2 % 2 == 1) ∷ (n % 2 == 1) ∷ []

-- the bits of all octets, in order
-- rule: bit-order
unfoldable pub bits_of : List ℕ → List Bool
bits_of [] = []
bits_of (octet ∷ more) = bits_of_octet octet ++ bits_of more

-- the number that results from appending the given bits to the binary digits of n
abbrev pub number_after_bits : ℕ → List Bool → ℕ
number_after_bits n [] = n
number_after_bits n (bit ∷ bits) = number_after_bits (2 * n + (if bit then 1 else 0)) bits

-- the unsigned number that the bits represent
-- rule: field-number
abbrev pub number_of : List Bool → ℕ
number_of bits = number_after_bits 0 bits

-- the `width` bits that begin at bit index `at` (counted from 0), or fewer if the octets end first
-- rule: field-number
abbrev pub bits_at : (octets : List ℕ) (at width : ℕ) → List Bool
bits_at octets at width = take width (drop at (bits_of octets))

abbrev pub are_all_ones : List Bool → Bool
are_all_ones bits = list_all (λ bit. bit) bits

-- the low `width` bits of a number, most significant first
unfoldable pub bits_in : (value width : ℕ) → List Bool
bits_in value zero = []
bits_in value (suc width) = (value / 2 ^ width % 2 == 1) ∷ bits_in value width

-- the zero bits that pad `length` bits to a whole number of octets
abbrev pub padding : (length : ℕ) → List Bool
padding length = replicate ((8 - length % 8) % 8) false

-- ---- Eight octets read as one number (not part of FM 94 BUFR).

-- `window` is the number stored in the eight octets that begin at index `first`.
pub record IsWindow (window first : ℕ) (octets : List ℕ) : Type 0 where
  pub within : first + 8 ≤ length octets
  pub small : window < 2 ^ 64
  pub bits : bits_of (take 8 (drop first octets)) ≡ bits_in window 64

-- ---- A bit writer, which stores whole octets in a buffer and the remaining bits as a number.

-- the model of a bit writer, with the bits written so far and the number of bits that still fit
pub record BitWriterModel : Type 0 where
  pub bits : List Bool
  pub room : ℕ

-- the number of bits that still fit in a `capacity`-octet buffer after `len` octets and `count`
-- bits have been written; the total is limited to 2^63 bits
abbrev pub room_after : (len capacity count : ℕ) → ℕ
room_after len capacity count = min (8 * capacity) (2 ^ 63) - (8 * len + count)

-- `last` contains the `count` bits that follow the `len` whole octets, and has space for `free`
-- more bits. `count + free` is less than 64, and the buffer has room for that many bits after the
-- whole octets. At most 2^63 bits have been written.
pub record IsWriting (len capacity last count free : ℕ) : Type 0 where
  pub few : count + free < 64
  pub low : last < 2 ^ count
  pub fits : 8 * len + count ≤ 2 ^ 63
  pub room : 8 * len + count + free ≤ 8 * capacity
