-- Worked examples, computed from the definitions.
use Rattle.std.proofs.Common.{◌≡◌, ℕ, zero, suc, Bool, true, false, List, [], ◌∷◌, ◌++◌, refl, take, length, codes, Option, Some, None, Ok, Err, slice_set, ◌==◌, ◌&&◌, ◌+◌}
use Rattle.bufr_frame.specs.Prelude.{min_section_1, StreamEvent, FrameAt, StrayAt, scan, scan_from, open_scan, longest_of, first_event, sections_of, section_end, Sections, MessageParts, parts_of, parts_in, message_octets, is_writable, Head}
use Rattle.bufr_frame.specs.declared.fault.Cause.TheVariants.{Cut, ShortLength, NoEnd}
use Rattle.bufr_frame.specs.declared.fault.SectionFault.TheVariants.{Edition, SectionShort, SectionPast, SectionsEnd}

-- a message with one block number, 48 octets
abbrev one_block_number : List ℕ
one_block_number = 0x42 ∷ 0x55 ∷ 0x46 ∷ 0x52 ∷ 0x00 ∷ 0x00 ∷ 0x30 ∷ 0x04 ∷
    0x00 ∷ 0x00 ∷ 0x16 ∷ 0x00 ∷ 0x00 ∷ 0x62 ∷ 0x00 ∷ 0x00 ∷ 0x00 ∷ 0x00 ∷ 0x00 ∷ 0x00 ∷ 0x00 ∷ 0x0E ∷ 0x00 ∷ 0x07 ∷ 0xE8 ∷ 0x01 ∷ 0x02 ∷ 0x03 ∷ 0x04 ∷ 0x05 ∷
    0x00 ∷ 0x00 ∷ 0x09 ∷ 0x00 ∷ 0x00 ∷ 0x01 ∷ 0x80 ∷ 0x01 ∷ 0x01 ∷
    0x00 ∷ 0x00 ∷ 0x05 ∷ 0x00 ∷ 0x14 ∷
    0x37 ∷ 0x37 ∷ 0x37 ∷ 0x37 ∷ []

-- a message with local use and a section 2, 56 octets
abbrev local_use : List ℕ
local_use = 0x42 ∷ 0x55 ∷ 0x46 ∷ 0x52 ∷ 0x00 ∷ 0x00 ∷ 0x38 ∷ 0x04 ∷
    0x00 ∷ 0x00 ∷ 0x18 ∷ 0x00 ∷ 0x00 ∷ 0x62 ∷ 0x00 ∷ 0x00 ∷ 0x00 ∷ 0x80 ∷ 0x00 ∷ 0x00 ∷ 0x00 ∷ 0x0E ∷ 0x00 ∷ 0x07 ∷ 0xE8 ∷ 0x01 ∷ 0x02 ∷ 0x03 ∷ 0x04 ∷ 0x05 ∷ 0xAB ∷ 0xCD ∷
    0x00 ∷ 0x00 ∷ 0x06 ∷ 0x00 ∷ 0x01 ∷ 0x02 ∷
    0x00 ∷ 0x00 ∷ 0x09 ∷ 0x00 ∷ 0x00 ∷ 0x01 ∷ 0x80 ∷ 0x01 ∷ 0x01 ∷
    0x00 ∷ 0x00 ∷ 0x05 ∷ 0x00 ∷ 0x14 ∷
    0x37 ∷ 0x37 ∷ 0x37 ∷ 0x37 ∷ []

-- an edition 3 message, 46 octets
abbrev edition_3 : List ℕ
edition_3 = 0x42 ∷ 0x55 ∷ 0x46 ∷ 0x52 ∷ 0x00 ∷ 0x00 ∷ 0x2E ∷ 0x03 ∷
    0x00 ∷ 0x00 ∷ 0x12 ∷ 0x00 ∷ 0x00 ∷ 0x62 ∷ 0x00 ∷ 0x00 ∷ 0x00 ∷ 0x00 ∷ 0x0E ∷ 0x00 ∷ 0x18 ∷ 0x01 ∷ 0x02 ∷ 0x03 ∷ 0x04 ∷ 0x00 ∷
    0x00 ∷ 0x00 ∷ 0x0A ∷ 0x00 ∷ 0x00 ∷ 0x01 ∷ 0x80 ∷ 0x01 ∷ 0x01 ∷ 0x00 ∷
    0x00 ∷ 0x00 ∷ 0x06 ∷ 0x00 ∷ 0x14 ∷ 0x00 ∷
    0x37 ∷ 0x37 ∷ 0x37 ∷ 0x37 ∷ []

-- the same with odd sections 3 and 4, 44 octets
abbrev edition_3_odd : List ℕ
edition_3_odd = 0x42 ∷ 0x55 ∷ 0x46 ∷ 0x52 ∷ 0x00 ∷ 0x00 ∷ 0x2C ∷ 0x03 ∷
    0x00 ∷ 0x00 ∷ 0x12 ∷ 0x00 ∷ 0x00 ∷ 0x62 ∷ 0x00 ∷ 0x00 ∷ 0x00 ∷ 0x00 ∷ 0x0E ∷ 0x00 ∷ 0x18 ∷ 0x01 ∷ 0x02 ∷ 0x03 ∷ 0x04 ∷ 0x00 ∷
    0x00 ∷ 0x00 ∷ 0x09 ∷ 0x00 ∷ 0x00 ∷ 0x01 ∷ 0x80 ∷ 0x01 ∷ 0x01 ∷
    0x00 ∷ 0x00 ∷ 0x05 ∷ 0x00 ∷ 0x14 ∷
    0x37 ∷ 0x37 ∷ 0x37 ∷ 0x37 ∷ []

abbrev head_of_edition_3 : Head
head_of_edition_3 = record {
  edition = 3;
  master = 0;
  centre = 98;
  subcentre = 0;
  update = 0;
  category = 0;
  subcategory = 0;
  local_subcategory = 0;
  master_version = 14;
  local_version = 0;
  year = 24;
  month = 1;
  day = 2;
  hour = 3;
  minute = 4;
  second = 0;
}

abbrev sections_of_edition_3 : (payload : List ℕ) → ℕ → Sections
sections_of_edition_3 payload size = record {
  head = head_of_edition_3;
  local1 = 0 ∷ [];
  section2 = None;
  descriptors = 257 ∷ [];
  subsets = 1;
  observed = true;
  compressed = false;
  payload = payload;
  size = size;
}

abbrev the_head : Head
the_head = record {
  edition = 4;
  master = 0;
  centre = 98;
  subcentre = 0;
  update = 0;
  category = 0;
  subcategory = 0;
  local_subcategory = 0;
  master_version = 14;
  local_version = 0;
  year = 2024;
  month = 1;
  day = 2;
  hour = 3;
  minute = 4;
  second = 5;
}

abbrev the_parts : List ℕ → Option (List ℕ) → MessageParts
the_parts local1 section2 = parts_of local1 section2 (257 ∷ []) 1 true false (0x14 ∷ [])

abbrev the_sections : List ℕ → Option (List ℕ) → ℕ → Sections
the_sections local1 section2 size = record {
  head = the_head;
  local1 = local1;
  section2 = section2;
  descriptors = 257 ∷ [];
  subsets = 1;
  observed = true;
  compressed = false;
  payload = 0x14 ∷ [];
  size = size;
}

-- rule: section-0, section-5, reserved-zero, writes-no-pad-octet, sections-1-and-2-as-given
-- rule: least-lengths, becomes-canonical
written :
    (message_octets the_head (the_parts [] None) ≡ one_block_number)
    × (message_octets the_head (parts_in (the_sections [] None 48)) ≡ one_block_number)
    × (message_octets the_head (the_parts (0xAB ∷ 0xCD ∷ []) (Some (1 ∷ 2 ∷ []))) ≡ local_use)
    × (message_octets head_of_edition_3 (parts_in (sections_of_edition_3 (0x14 ∷ []) 44)) ≡ edition_3)
    × (message_octets head_of_edition_3 (parts_in (sections_of_edition_3 (0x14 ∷ 0 ∷ []) 46)) ≡ edition_3)
unfolding min_section_1
written = (refl, refl, refl, refl, refl)

-- rule: section-1-of-edition-4, section-3, section-4, section-2-flag, local-use, section-2
-- rule: sections-in-order, section-1-of-edition-3, descriptors-of-section-3, edition-3-lacks
-- rule: year-of-the-century, odd-sections-read, reserved-ignored
sections :
    (sections_of one_block_number ≡ Ok (the_sections [] None 48))
    × (sections_of local_use ≡ Ok (the_sections (0xAB ∷ 0xCD ∷ []) (Some (1 ∷ 2 ∷ [])) 56))
    × (sections_of edition_3 ≡ Ok (sections_of_edition_3 (0x14 ∷ 0 ∷ []) 46))
    -- Odd sections are accepted, although sections are written even.
    × (sections_of edition_3_odd ≡ Ok (sections_of_edition_3 (0x14 ∷ []) 44))
    -- A reserved bit makes no difference.
    × (sections_of (slice_set one_block_number 36 129) ≡ Ok (the_sections [] None 48))
unfolding sections_of section_end min_section_1
sections = (refl, refl, refl, refl, refl)

-- Edition 4 octets, read as edition 3, give other values and five octets of local use.
abbrev head_by_edition_3 : Head
head_by_edition_3 = record {
  edition = 3;
  master = 0;
  centre = 98;
  subcentre = 0;
  update = 0;
  category = 0;
  subcategory = 0;
  local_subcategory = 0;
  master_version = 0;
  local_version = 0;
  year = 0;
  month = 14;
  day = 0;
  hour = 7;
  minute = 232;
  second = 0;
}

-- rule: odd-values-kept
by-edition-3 : sections_of (slice_set one_block_number 7 3) ≡ Ok (record {
  head = head_by_edition_3;
  local1 = 1 ∷ 2 ∷ 3 ∷ 4 ∷ 5 ∷ [];
  section2 = None;
  descriptors = 257 ∷ [];
  subsets = 1;
  observed = true;
  compressed = false;
  payload = 0x14 ∷ [];
  size = 48;
})
unfolding sections_of section_end min_section_1
by-edition-3 = refl

-- values that cannot be written in edition 3
writable :
    (is_writable (record head_of_edition_3 { centre = 256 }) ≡ false)
    × (is_writable (record head_of_edition_3 { second = 5 }) ≡ false)
writable = (refl, refl)

-- The section faults: another edition, a section that is too short, a section past the end, and
-- sections that do not end at the last four octets.
-- rule: edition-first, length-under-least, section-past-end, section-4-end, length-past-end
section-faults :
    (sections_of (slice_set one_block_number 7 2) ≡ Err (Edition 2))
    × (sections_of (slice_set one_block_number 10 21) ≡ Err (SectionShort 1))
    × (sections_of (slice_set one_block_number 10 40) ≡ Err (SectionPast 1))
    × (sections_of (slice_set one_block_number 41 4) ≡ Err SectionsEnd)
    × (sections_of (slice_set (slice_set one_block_number 17 128) 32 3) ≡ Err (SectionShort 2))
    × (sections_of (slice_set (slice_set one_block_number 17 128) 32 15) ≡ Err (SectionPast 2))
    × (sections_of (slice_set one_block_number 32 6) ≡ Err (SectionShort 3))
    -- After a section 1 of 34 octets, the length of section 3 overlaps the last four octets.
    × (sections_of (slice_set one_block_number 10 34) ≡ Err (SectionPast 3))
    × (sections_of (slice_set one_block_number 41 3) ≡ Err (SectionShort 4))
    × (sections_of (slice_set one_block_number 41 6) ≡ Err (SectionPast 4))
    -- In edition 3, a section 1 of 16 octets is too short, and its flags can announce a section 2.
    × (sections_of (slice_set edition_3 10 16) ≡ Err (SectionShort 1))
    × (sections_of (slice_set (slice_set edition_3 15 128) 28 30) ≡ Err (SectionPast 2))
unfolding sections_of section_end min_section_1
section-faults = (refl, refl, refl, refl, refl, refl, refl, refl, refl, refl, refl, refl)

-- The events: one message, two messages, a message without `7777`, a stray `BUFR` before a message,
-- a length under 12, and input that ends early.
-- rule: frame, stray-no-end, after-a-stray, stray-short-length, stray-cut, input-ends-early
-- rule: input-without-bufr, output-waits
events :
    (scan one_block_number ≡ FrameAt 0 one_block_number ∷ [])
    × (scan (one_block_number ++ one_block_number) ≡ FrameAt 0 one_block_number ∷ FrameAt 48 one_block_number ∷ [])
    × (scan (slice_set one_block_number 47 54) ≡ StrayAt 0 NoEnd ∷ [])
    × (scan (codes "BUFR" ++ 0 ∷ 0 ∷ 64 ∷ 4 ∷ one_block_number ++ 0 ∷ 0 ∷ 0 ∷ 0 ∷ 0 ∷ 0 ∷ 0 ∷ 0 ∷ []) ≡ StrayAt 0 NoEnd ∷ FrameAt 8 one_block_number ∷ [])
    × (scan (codes "BUFR" ++ 0 ∷ 0 ∷ 11 ∷ 4 ∷ codes "abcd") ≡ StrayAt 0 ShortLength ∷ [])
    × (scan (codes "BUFR" ++ 0 ∷ 0 ∷ 11 ∷ 4 ∷ codes "ab") ≡ StrayAt 0 Cut ∷ [])
    × (scan (take 47 one_block_number) ≡ StrayAt 0 Cut ∷ [])
    × (scan (take 4 one_block_number) ≡ StrayAt 0 Cut ∷ [])
    × (scan (take 3 one_block_number) ≡ [])
    × (open_scan (one_block_number ++ take 47 one_block_number) ≡ FrameAt 0 one_block_number ∷ [])
unfolding scan_from
events = (refl, refl, refl, refl, refl, refl, refl, refl, refl, refl)

-- `BUFR`, repeated n times: 4,096 octets for n = 1,024
abbrev words_only : ℕ → List ℕ
words_only zero = []
words_only (suc n) = codes "BUFR" ++ words_only n

abbrev are_cut : ℕ → List StreamEvent → Bool
are_cut at [] = true
are_cut at (StrayAt offset Cut ∷ more) = (offset == at) && are_cut (at + 4) more
are_cut at (event ∷ more) = false

-- rule: after-a-stray
words-only :
    (length (scan (words_only 1024)) ≡ 1024)
    × (are_cut 0 (scan (words_only 1024)) ≡ true)
unfolding scan_from
words-only = (refl, refl)

-- `BUFR` every eight octets, each with a declared length of 64: the last seven are cut.
abbrev stating_64 : ℕ → List ℕ
stating_64 zero = []
stating_64 (suc n) = codes "BUFR" ++ 0 ∷ 0 ∷ 64 ∷ 4 ∷ stating_64 n

abbrev no_ends : (at n : ℕ) → List StreamEvent → List StreamEvent
no_ends at zero more = more
no_ends at (suc n) more = StrayAt at NoEnd ∷ no_ends (at + 8) n more

abbrev cuts : (at n : ℕ) → List StreamEvent
cuts at zero = []
cuts at (suc n) = StrayAt at Cut ∷ cuts (at + 8) n

-- rule: first-bufr
stating-events :
    (scan (stating_64 16) ≡ no_ends 0 9 (cuts 72 7))
    × (open_scan (stating_64 16) ≡ no_ends 0 9 [])
    × (longest_of 0 (stating_64 16) (scan (stating_64 16)) ≡ 64)
    -- an interrupted run: the events of the first 58 octets, then the scan after them
    × (open_scan (one_block_number ++ take 10 one_block_number) ≡ FrameAt 0 one_block_number ∷ [])
    × (scan (one_block_number ++ one_block_number) ≡ FrameAt 0 one_block_number ∷ scan_from 0 48 one_block_number)
    -- the greatest length: of a message, of a message before a `BUFR` that is not yet certain, and
    -- of a `BUFR` without a length
    × (longest_of 0 one_block_number (scan one_block_number) ≡ 48)
    × (longest_of 0 (one_block_number ++ codes "BUFR" ++ 0 ∷ 1 ∷ 0 ∷ 4 ∷ []) (FrameAt 0 one_block_number ∷ first_event (scan_from 0 48 (codes "BUFR" ++ 0 ∷ 1 ∷ 0 ∷ 4 ∷ []))) ≡ 256)
    × (longest_of 0 (codes "BUFR") (scan (codes "BUFR")) ≡ 0)
    -- the strays of the worked streams, and lengths under 12
    × (scan (codes "BUFR" ++ 0 ∷ 0 ∷ 64 ∷ 4 ∷ one_block_number ++ codes "xyBUF" ++ one_block_number ++ codes "BUFR" ++ 0 ∷ 0 ∷ 11 ∷ 4 ∷ codes "abcBUFR")
    ≡ StrayAt 0 NoEnd ∷ FrameAt 8 one_block_number ∷ FrameAt 61 one_block_number ∷ StrayAt 109 ShortLength ∷ StrayAt 120 Cut ∷ [])
unfolding scan_from
stating-events = (refl, refl, refl, refl, refl, refl, refl, refl, refl)
