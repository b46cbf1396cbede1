-- The sections of a message, or the first fault (FM 94 BUFR, sections 0 to 5). Indices in a message
-- are counted from 0, and octets in a section from 1. Our choices are to ignore reserved bits, to
-- ignore the bits after the data (which remain in `payload`), and to accept sections of odd length
-- in edition 3.
-- Cited by public contracts.
use Rattle.std.specs.Prelude.{ℕ, ◌+◌, ◌-◌, ◌%◌, ◌==◌, ◌&&◌, ◌||◌, Bool, not, nat_lt, nat_le, List, Option, Some, None, Result, Ok, Err, length, slice_index, slice_range, if◌then◌else◌, ◌≡◌, ◌<◌, true, All, take, drop, codes}
use Rattle.bufr_bits.specs.Prelude.{◌>>=◌}
use Rattle.bufr_frame.specs.Octets.{u24_at, u16_at, words}
use Rattle.bufr_frame.specs.Section1.{is_edition, edition_of, min_section_1, flags_of, head_of}
use Rattle.bufr_frame.specs.declared.section1.Head.{Head}
use Rattle.bufr_frame.specs.declared.fault.SectionFault.{SectionFault}
use Rattle.bufr_frame.specs.declared.fault.SectionFault.TheVariants.{Edition, SectionShort, SectionPast, SectionsEnd, Edition3Long}

-- the parts of a message
pub record Sections : Type 0 where
  pub head : Head
  -- the octets for local use in section 1
  pub local1 : List ℕ
  -- section 2 from octet 5 on, if it is present
  pub section2 : Option (List ℕ)
  -- the descriptors in section 3, as two-octet numbers
  pub descriptors : List ℕ
  pub subsets : ℕ
  pub observed : Bool
  pub compressed : Bool
  -- section 4 from octet 5 on
  pub payload : List ℕ
  -- the length of the message, in octets
  pub size : ℕ

-- The index just after section k, or the first fault in that section. Section k begins at index p.
-- The three length octets must precede section 5 (the last four octets), the length must be at
-- least `least`, and the section must not extend into section 5. The checks are made in order.
-- rule: odd-sections-read, length-past-end, length-under-least, section-past-end
-- rule: order-of-sections
unfoldable pub section_end : List ℕ → (k least p : ℕ) → Result ℕ SectionFault
section_end m k least p =
    if nat_lt (length m - 4) (p + 3) then Err (SectionPast k)
    else if nat_lt (u24_at m p) least then Err (SectionShort k)
    else if nat_lt (length m - 4) (p + u24_at m p) then Err (SectionPast k)
    else Ok (p + u24_at m p)

-- Whether section 3 or 4 is padded with a zero octet when it is written, given its unpadded length.
-- FM 94 requires even section lengths in edition 3. Sections 1 and 2 are not padded (our choice),
-- because a padding octet would be read back as an octet for local use. Therefore, an edition 3
-- message does not conform to FM 94 if section 1 or 2 has an odd length. Without octets for local
-- use, section 1 has 17 octets in edition 3, so a message without these octets does not conform.
abbrev pub is_padded : (edition size : ℕ) → Bool
is_padded edition size = (edition == 3) && (size % 2 == 1)

-- whether section 2 is present, as indicated by bit 1 of the flags in section 1
-- rule: section-2-flag
abbrev pub has_section2 : List ℕ → Bool
has_section2 m = nat_le 128 (flags_of m)

-- the parts of a message whose sections 1 to 4 end at indices p1 to p4; if section 2 is absent, p2
-- equals p1
-- rule: local-use, section-2, section-3, section-4, reserved-ignored
abbrev pub parts : List ℕ → (p1 p2 p3 p4 : ℕ) → Sections
parts m p1 p2 p3 p4 = record {
  head = head_of m;
  local1 = slice_range m (8 + min_section_1 (edition_of m)) p1;
  section2 = if has_section2 m then Some (slice_range m (p1 + 4) p2) else None;
  descriptors = words (slice_range m (p2 + 7) p3);
  subsets = u16_at m (p2 + 4);
  observed = nat_le 128 (slice_index m (p2 + 6));
  compressed = nat_le 64 (slice_index m (p2 + 6) % 128);
  payload = slice_range m (p3 + 4) p4;
  size = length m;
}

-- Whether an edition 3 message is rejected (our choice) because encoding its dump might result in
-- more than 2^24 - 1 octets. Encoding adds a padding octet to section 3 or 4 if its length is odd,
-- but does not make the message longer in any other way. For simplicity, the limit is 2^24 - 3
-- octets even if only one of the two sections has an odd length.
-- rule: edition-3-length
abbrev pub is_long_edition_3 : List ℕ → (p2 p3 p4 : ℕ) → Bool
is_long_edition_3 m p2 p3 p4 =
    nat_lt 16777213 (length m)
    && (is_padded (edition_of m) (p3 - p2) || is_padded (edition_of m) (p4 - p3))

-- the parts of a message, or a fault if section 4 does not end directly before the last four octets
-- or if the message is too long for edition 3
-- rule: section-4-end, order-of-sections
abbrev pub parts_if_end_matches : List ℕ → (p1 p2 p3 p4 : ℕ) → Result Sections SectionFault
parts_if_end_matches m p1 p2 p3 p4 =
    if not (p4 == (length m - 4)) then Err SectionsEnd
    else if is_long_edition_3 m p2 p3 p4 then Err Edition3Long
    else Ok (parts m p1 p2 p3 p4)

-- The sections of a message, or the first fault. The edition is checked first, then sections 1 to 4
-- in order, then the end of section 4, and finally the length of an edition 3 message. Sections 2
-- and 4 must have at least 4 octets, and section 3 at least 7.
-- rule: edition-first, sections-in-order, order-of-sections
unfoldable pub sections_of : List ℕ → Result Sections SectionFault
sections_of m = if not (is_edition (edition_of m)) then Err (Edition (edition_of m)) else do
  p1 ← section_end m 1 (min_section_1 (edition_of m)) 8
  p2 ← (if has_section2 m then section_end m 2 4 p1 else Ok p1)
  p3 ← section_end m 3 7 p2
  p4 ← section_end m 4 4 p3
  parts_if_end_matches m p1 p2 p3 p4

-- ---- Messages in the form that `write_message` produces.

-- the index at which section 2 (or section 3, if section 2 is absent) begins
abbrev pub section2_begins : List ℕ → ℕ
section2_begins m = 8 + u24_at m 8

-- the index at which section 3 begins
abbrev pub section3_begins : List ℕ → ℕ
section3_begins m =
    if has_section2 m then section2_begins m + u24_at m (section2_begins m) else section2_begins m

-- the index at which section 4 begins
abbrev pub section4_begins : List ℕ → ℕ
section4_begins m = section3_begins m + u24_at m (section3_begins m)

-- The octets m form a message that a finder can return, with all reserved octets and bits set to
-- zero. In edition 4, section 3 has no padding octet. In edition 3, the lengths of sections 3 and 4
-- are even, and the padding octet of section 3 is zero.
-- rule: canonical
pub record IsPlain (m : List ℕ) : Type 0 where
  pub octets : All (λ octet. octet < 256) m
  pub word : take 4 m ≡ codes "BUFR"
  pub size : u24_at m 4 ≡ length m
  pub flags : flags_of m % 128 ≡ 0
  pub section2 : has_section2 m ≡ true → slice_index m (section2_begins m + 3) ≡ 0
  pub section3 : slice_index m (section3_begins m + 3) ≡ 0
  pub whole : edition_of m ≡ 4 → u24_at m (section3_begins m) % 2 ≡ 1
  pub data_flags : slice_index m (section3_begins m + 6) % 64 ≡ 0
  pub section4 : slice_index m (section4_begins m + 3) ≡ 0
  pub end : drop (length m - 4) m ≡ codes "7777"
  pub even3 : edition_of m ≡ 3 → u24_at m (section3_begins m) % 2 ≡ 0
  pub left_over : edition_of m ≡ 3 → slice_index m (section4_begins m - 1) ≡ 0
  pub even4 : edition_of m ≡ 3 → u24_at m (section4_begins m) % 2 ≡ 0
