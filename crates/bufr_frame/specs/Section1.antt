-- The values in section 1, and the octets in which each edition stores them (FM 94 BUFR, section
-- 1).
-- Cited by public contracts.
use Rattle.std.specs.Prelude.{ℕ, ◌+◌, ◌==◌, ◌||◌, Bool, List, [], ◌∷◌, ◌++◌, slice_index, if◌then◌else◌}
use Rattle.bufr_frame.specs.Octets.{u16_at, two_octets}
use Rattle.bufr_frame.specs.declared.section1.Head.{Head}

-- whether an edition is supported (only editions 3 and 4 are)
-- rule: edition-first
abbrev pub is_edition : ℕ → Bool
is_edition edition = (edition == 3) || (edition == 4)

-- the edition of a message, which is stored in octet 8 of section 0
abbrev pub edition_of : List ℕ → ℕ
edition_of m = slice_index m 7

-- octet n (counted from 1) of section 1, which follows the 8 octets of section 0
abbrev pub octet_at : List ℕ → (n : ℕ) → ℕ
octet_at m n = slice_index m (7 + n)

-- the minimum length of section 1, which is its length without octets for local use
-- rule: local-use, length-under-least
unfoldable pub min_section_1 : (edition : ℕ) → ℕ
min_section_1 edition = if edition == 3 then 17 else 22

-- the flags in section 1, which are stored in octet 8 in edition 3 and in octet 10 in edition 4
abbrev pub flags_of : List ℕ → ℕ
flags_of m = octet_at m (if edition_of m == 3 then 8 else 10)

-- where section 1 stores a value (in octet n, in octets n and n + 1, or nowhere)
pub data HeadOctets : Type 0 where
  OneOctet : (n : ℕ) → HeadOctets
  TwoOctets : (n : ℕ) → HeadOctets
  NoOctets : HeadOctets

-- The head of a message in the given edition; `value key in_4 in_3` gives each of the other values.
-- The number `key` is the index of the value's line in the header of a dump (the edition has index
-- 0). The value is stored in the octets `in_4` in edition 4 and in the octets `in_3` in edition 3.
-- This definition is used for the values in a message (`head_of`), for the values in a dump
-- (`header_in`), and for the maximum values (`greatest_values`). In edition 3, the year is the year
-- of the century, as in the message (our choice).
-- rule: section-1-of-edition-3, section-1-of-edition-4, year-of-the-century, edition-3-lacks
-- rule: listing-of-edition-3, odd-values-kept
abbrev pub head_by : (edition : ℕ) → (value : (key : ℕ) → (in_4 in_3 : HeadOctets) → ℕ) → Head
head_by edition value = record {
  edition = edition;
  master = value 1 (OneOctet 4) (OneOctet 4);
  centre = value 2 (TwoOctets 5) (OneOctet 6);
  subcentre = value 3 (TwoOctets 7) (OneOctet 5);
  update = value 4 (OneOctet 9) (OneOctet 7);
  category = value 5 (OneOctet 11) (OneOctet 9);
  subcategory = value 6 (OneOctet 12) (OneOctet 10);
  local_subcategory = value 7 (OneOctet 13) NoOctets;
  master_version = value 8 (OneOctet 14) (OneOctet 11);
  local_version = value 9 (OneOctet 15) (OneOctet 12);
  year = value 10 (TwoOctets 16) (OneOctet 13);
  month = value 11 (OneOctet 18) (OneOctet 14);
  day = value 12 (OneOctet 19) (OneOctet 15);
  hour = value 13 (OneOctet 20) (OneOctet 16);
  minute = value 14 (OneOctet 21) (OneOctet 17);
  second = value 15 (OneOctet 22) NoOctets;
}

-- the value in the given octets of section 1, or 0 if the edition does not store it
abbrev pub value_at : List ℕ → HeadOctets → ℕ
value_at m (OneOctet n) = octet_at m n
value_at m (TwoOctets n) = u16_at m (7 + n)
value_at m NoOctets = 0

-- the greatest value that fits in the given octets
abbrev pub greatest : HeadOctets → ℕ
greatest (OneOctet n) = 255
greatest (TwoOctets n) = 65535
greatest NoOctets = 0

-- the edition of a message and the values in its section 1
abbrev pub head_of : List ℕ → Head
head_of m = head_by (edition_of m)
    (λ key in_4 in_3. value_at m (if edition_of m == 3 then in_3 else in_4))

-- section 1 in edition 3, from octet 4 on, without the octets for local use
-- rule: section-1-of-edition-3, year-of-the-century
abbrev pub octets_3 : Head → (flags : ℕ) → List ℕ
octets_3 h flags =
    h.master ∷ h.subcentre ∷ h.centre ∷ h.update ∷ flags ∷ h.category ∷ h.subcategory
    ∷ h.master_version ∷ h.local_version ∷ h.year ∷ h.month ∷ h.day ∷ h.hour ∷ h.minute ∷ []

-- section 1 in edition 4, from octet 4 on, without the octets for local use
-- rule: section-1-of-edition-4
abbrev pub octets_4 : Head → (flags : ℕ) → List ℕ
octets_4 h flags =
    h.master ∷ two_octets h.centre ++ two_octets h.subcentre ++ h.update ∷ flags ∷ h.category
    ∷ h.subcategory ∷ h.local_subcategory ∷ h.master_version ∷ h.local_version ∷ two_octets h.year
    ++ h.month ∷ h.day ∷ h.hour ∷ h.minute ∷ h.second ∷ []

-- the values of section 1 in a head, in the order of their keys
abbrev pub values_of : Head → List ℕ
values_of h =
    h.master ∷ h.centre ∷ h.subcentre ∷ h.update ∷ h.category ∷ h.subcategory
    ∷ h.local_subcategory ∷ h.master_version ∷ h.local_version ∷ h.year ∷ h.month ∷ h.day
    ∷ h.hour ∷ h.minute ∷ h.second ∷ []

-- the maximum values that an edition allows, in the order of `values_of`
-- rule: reading-header-ranges
abbrev pub greatest_values : (edition : ℕ) → List ℕ
greatest_values edition =
    values_of (head_by edition (λ key in_4 in_3. greatest (if edition == 3 then in_3 else in_4)))
