-- The octets of an edition 3 or 4 message (FM 94 BUFR, sections 0 to 5). Each section is as short
-- as its content allows, and reserved bits are 0; these are our choices.
-- Cited by public contracts.
use Rattle.std.specs.Prelude.{◌≡◌, ℕ, ◌≤◌, ◌+◌, ◌*◌, ◌==◌, nat_le, ◌&&◌, ◌||◌, Bool, true, List, [], ◌∷◌, ◌++◌, Option, Some, None, length, codes, is_some, slice_index, if◌then◌else◌}
use Rattle.bufr_frame.specs.Octets.{three_octets, two_octets, octets_of_words}
use Rattle.bufr_frame.specs.Section1.{is_edition, min_section_1, octets_3, octets_4, values_of, greatest_values}
use Rattle.bufr_frame.specs.Sections.{Sections, is_padded}
use Rattle.bufr_frame.specs.declared.section1.Head.{Head}

-- the parts of a message other than its head (the edition and the values of section 1)
pub record MessageParts : Type 0 where
  pub local1 : List ℕ
  pub section2 : Option (List ℕ)
  pub descriptors : List ℕ
  pub subsets : ℕ
  pub observed : Bool
  pub compressed : Bool
  pub payload : List ℕ

-- the parts of a message that are passed to `write_message` as arguments
abbrev pub parts_of : List ℕ → Option (List ℕ) → List ℕ → ℕ
    → (observed compressed : Bool) → List ℕ → MessageParts
parts_of local1 section2 descriptors subsets observed compressed payload =
    record {
      local1 = local1;
      section2 = section2;
      descriptors = descriptors;
      subsets = subsets;
      observed = observed;
      compressed = compressed;
      payload = payload;
    }

-- The content of section 3 or 4 after the first `prefix` octets. In edition 3, a zero octet is
-- appended if the section's length would otherwise be odd.
-- rule: least-lengths, writes-no-pad-octet, writes-even-sections
abbrev pub with_even_length : (edition prefix : ℕ) → List ℕ → List ℕ
with_even_length edition prefix octets =
    if is_padded edition (prefix + length octets) then octets ++ 0 ∷ [] else octets

-- the maximum length of a message, which is 2^24 - 1 because the length is stored in three octets
-- rule: greatest-length
abbrev pub max_octets : ℕ
max_octets = 16777215

-- the maximum number of padding octets that rewriting can add to a message, which is 2 in edition 3
-- and 0 in edition 4
-- rule: becomes-canonical, encode-may-grow
abbrev pub max_extra_octets : (edition : ℕ) → ℕ
max_extra_octets edition = if edition == 3 then 2 else 0

-- section 0, which consists of `BUFR`, the length of the message, and the edition
-- rule: section-0
abbrev pub section0_octets : (size edition : ℕ) → List ℕ
section0_octets size edition = codes "BUFR" ++ three_octets size ++ edition ∷ []

-- Whether a head (the edition and the values of section 1) can be written. In edition 3, the
-- centre, the sub-centre and the year are stored in one octet each, and the local sub-category and
-- the seconds are not stored.
abbrev pub is_writable : Head → Bool
is_writable h =
    (h.edition == 4) || ((h.edition == 3) && (nat_le h.centre 255 && (nat_le h.subcentre 255
    && (nat_le h.year 255 && (nat_le h.local_subcategory 0 && nat_le h.second 0)))))

-- The head's edition is supported, and each value fits in the octets that store it.
pub record IsFitting (h : Head) : Type 0 where
  pub edition : is_edition h.edition ≡ true
  pub fits : (i : ℕ) → slice_index (values_of h) i ≤ slice_index (greatest_values h.edition) i

-- section 1 from octet 4 on, without the octets for local use; bit 1 of the flags (value 128) is
-- set if section 2 is present
-- rule: section-2-flag
abbrev pub head_octets : Head → (optional : Bool) → List ℕ
head_octets h optional =
    let flags = if optional then 128 else 0 in
    if h.edition == 3 then octets_3 h flags else octets_4 h flags

-- section 1, which consists of its length, its fixed fields, and the octets for local use
-- rule: sections-1-and-2-as-given
abbrev pub section1_octets : Head → List ℕ → (optional : Bool) → List ℕ
section1_octets h local1 optional =
    three_octets (min_section_1 h.edition + length local1) ++ head_octets h optional ++ local1

-- section 4, which consists of its length, a reserved octet, and the payload
-- rule: section-4
abbrev pub section4_octets : List ℕ → List ℕ
section4_octets payload = three_octets (4 + length payload) ++ 0 ∷ payload

-- section 2, which has the same layout as section 4, or an empty list if section 2 is absent
-- rule: section-2, sections-1-and-2-as-given
abbrev pub section2_octets : Option (List ℕ) → List ℕ
section2_octets None = []
section2_octets (Some octets) = section4_octets octets

-- octet 7 of section 3, in which bit 1 (value 128) is set for observed data and bit 2 (value 64)
-- for compressed data
-- rule: reserved-zero
abbrev pub data_flags : (observed compressed : Bool) → ℕ
data_flags observed compressed = (if observed then 128 else 0) + (if compressed then 64 else 0)

-- section 3, which consists of its length, a reserved octet, the number of subsets, the flags, and
-- `content` (the descriptors and their padding)
-- rule: section-3, reserved-zero, writes-no-pad-octet
abbrev pub section3_octets : List ℕ → (subsets flags : ℕ) → List ℕ
section3_octets content subsets flags =
    three_octets (7 + length content) ++ 0 ∷ two_octets subsets ++ flags ∷ content

-- the length of a message with the given parts, including sections 0 and 5
abbrev pub message_size : (edition : ℕ) → MessageParts → ℕ
message_size edition p =
    8 + (min_section_1 edition + length p.local1) + length (section2_octets p.section2)
    + (7 + length (with_even_length edition 7 (octets_of_words p.descriptors)))
    + (4 + length (with_even_length edition 4 p.payload)) + 4

-- the octets of a message, section by section
-- rule: section-5
abbrev pub message_octets : Head → MessageParts → List ℕ
message_octets h p =
    section0_octets (message_size h.edition p) h.edition
    ++ (section1_octets h p.local1 (is_some p.section2)
    ++ (section2_octets p.section2 ++ (section3_octets (with_even_length h.edition 7
    (octets_of_words p.descriptors)) p.subsets (data_flags p.observed p.compressed)
    ++ (section4_octets (with_even_length h.edition 4 p.payload) ++ codes "7777"))))

-- the sections of a message with the given parts; in edition 3, the payload may end with a padding
-- octet
abbrev pub sections_from : Head → MessageParts → Sections
sections_from h p = record {
  head = h;
  local1 = p.local1;
  section2 = p.section2;
  descriptors = p.descriptors;
  subsets = p.subsets;
  observed = p.observed;
  compressed = p.compressed;
  payload = with_even_length h.edition 4 p.payload;
  size = message_size h.edition p;
}

-- the parts of a message, taken from its sections
abbrev pub parts_in : Sections → MessageParts
parts_in s = parts_of s.local1 s.section2 s.descriptors s.subsets s.observed s.compressed s.payload

-- ---- The computed length of a message. Only private functions and `laws.rt` use this length.

-- the length of section 3 or 4, including its padding
-- rule: least-lengths
abbrev pub even_size : (edition size : ℕ) → ℕ
even_size edition size = if is_padded edition size then size + 1 else size

-- the given octets, followed by a zero octet if `pads` is true
abbrev pub with_pad_octet : (pads : Bool) → List ℕ → List ℕ
with_pad_octet pads octets = if pads then octets ++ 0 ∷ [] else octets

-- the length of a message, computed from the lengths of its parts
abbrev pub size_from : (edition local1 : ℕ) → Option (List ℕ) → (descriptors payload : ℕ) → ℕ
size_from edition local1 section2 descriptors payload =
    8 + (min_section_1 edition + local1) + length (section2_octets section2)
    + even_size edition (7 + 2 * descriptors) + even_size edition (4 + payload) + 4
