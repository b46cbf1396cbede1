-- Numbers stored in octets, with the most significant octet first (FM 94 BUFR). Indices are counted
-- from 0.
-- Cited by public contracts.
use Rattle.std.specs.Prelude.{ℕ, ◌+◌, ◌*◌, ◌/◌, ◌%◌, List, [], ◌∷◌, ◌++◌, slice_index}
use Rattle.bufr_frame.specs.declared.message.Words.{Words}

-- the number in the three octets that begin at index p
abbrev pub u24_at : List ℕ → ℕ → ℕ
u24_at m p = 65536 * slice_index m p + 256 * slice_index m (p + 1) + slice_index m (p + 2)

abbrev pub u16_at : List ℕ → ℕ → ℕ
u16_at m p = 256 * slice_index m p + slice_index m (p + 1)

-- the two-octet numbers in a list of octets, such as the descriptors in section 3; a single octet
-- at the end is ignored (our choice)
-- rule: descriptors-of-section-3
abbrev pub words : List ℕ → List ℕ
words [] = []
words (a ∷ []) = []
words (a ∷ b ∷ more) = (256 * a + b) ∷ words more

-- the three octets that store a number below 2^24
abbrev pub three_octets : ℕ → List ℕ
three_octets n = n / 65536 ∷ n / 256 % 256 ∷ n % 256 ∷ []

abbrev pub two_octets : ℕ → List ℕ
two_octets n = n / 256 ∷ n % 256 ∷ []

-- the octets that store a list of numbers below 2^16, two octets for each number
abbrev pub octets_of_words : List ℕ → List ℕ
octets_of_words [] = []
octets_of_words (word ∷ more) = two_octets word ++ octets_of_words more

-- ---- The words that an iterator has not returned yet.

abbrev pub words_left : Words → List ℕ
words_left w = words w.octets.now
