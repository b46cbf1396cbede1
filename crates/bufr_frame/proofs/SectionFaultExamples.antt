-- Worked examples of the faults of sections. Each bound is shown from both sides. If two faults
-- meet, the example shows which one is reported.
use Rattle.std.proofs.Common.{◌≡◌, ℕ, ◌+◌, ◌-◌, Bool, true, false, List, [], ◌∷◌, ◌++◌, length, replicate, codes, slice_set, Result, Ok, Err, refl}
use Rattle.bufr_bits.specs.Prelude.{◌>>=◌}
use Rattle.bufr_frame.specs.Prelude.{min_section_1, sections_of, section_end, three_octets, edition_of, parts_if_end_matches, is_long_edition_3, is_writable, greatest_values, max_octets, max_reads, Head}
use Rattle.bufr_frame.specs.declared.fault.SectionFault.{SectionFault}
use Rattle.bufr_frame.specs.declared.fault.SectionFault.TheVariants.{Edition, SectionShort, SectionPast, SectionsEnd}

-- a message with these octets between section 0 and the last four octets
message : (edition : ℕ) → List ℕ → List ℕ
message edition octets = codes "BUFR" ++ three_octets (12 + length octets) ++ edition ∷ octets ++ codes "7777"

-- the length of a message whose sections can be read, or the first fault
taken : List ℕ → Result ℕ SectionFault
unfolding sections_of section_end min_section_1
taken m = sections_of m >>= λ s. Ok s.size

of_edition_4 : List ℕ → Result ℕ SectionFault
unfolding message taken
of_edition_4 octets = taken (message 4 octets)

of_edition_3 : List ℕ → Result ℕ SectionFault
unfolding message taken
of_edition_3 octets = taken (message 3 octets)

-- a section with this declared length, and this number of octets
section : (stated octets : ℕ) → List ℕ
section stated octets = three_octets stated ++ replicate (octets - 3) 0

-- section 1 of edition 4, with the flag for a section 2
flagged : List ℕ
unfolding section
flagged = slice_set (section 22 22) 9 128

-- ---- The edition: 3 or 4.

-- rule: edition-first
editions :
    (taken (message 3 (section 17 17 ++ section 7 7 ++ section 4 4)) ≡ Ok 40)
    × (taken (message 4 (section 22 22 ++ section 7 7 ++ section 4 4)) ≡ Ok 45)
    × (taken (message 2 (section 22 22 ++ section 7 7 ++ section 4 4)) ≡ Err (Edition 2))
    × (taken (message 5 (section 22 22 ++ section 7 7 ++ section 4 4)) ≡ Err (Edition 5))
    × (taken (message 0 (section 22 22 ++ section 7 7 ++ section 4 4)) ≡ Err (Edition 0))
    × (taken (message 255 (section 22 22 ++ section 7 7 ++ section 4 4)) ≡ Err (Edition 255))
unfolding message section taken
editions = (refl, refl, refl, refl, refl, refl)

-- The edition is checked before the sections.
-- rule: edition-first, order-of-sections
edition-before-sections :
    (taken (message 2 []) ≡ Err (Edition 2))
    × (taken (message 5 (section 21 21 ++ section 7 7 ++ section 4 4)) ≡ Err (Edition 5))
    × (taken (message 5 (section 22 22 ++ section 7 7 ++ section 5 4)) ≡ Err (Edition 5))
    × (taken (message 5 (section 22 22 ++ section 7 7 ++ section 4 5)) ≡ Err (Edition 5))
unfolding message section taken
edition-before-sections = (refl, refl, refl, refl)

-- ---- The least lengths: 22 or 17, 4, 7 and 4 octets.

-- rule: length-under-least
least-of-section-1 :
    (of_edition_4 (section 22 22 ++ section 7 7 ++ section 4 4) ≡ Ok 45)
    × (of_edition_4 (section 21 21 ++ section 7 7 ++ section 4 4) ≡ Err (SectionShort 1))
    × (of_edition_3 (section 17 17 ++ section 7 7 ++ section 4 4) ≡ Ok 40)
    × (of_edition_3 (section 16 16 ++ section 7 7 ++ section 4 4) ≡ Err (SectionShort 1))
unfolding of_edition_4 of_edition_3 section
least-of-section-1 = (refl, refl, refl, refl)

-- rule: length-under-least
least-of-section-2 :
    (of_edition_4 (flagged ++ section 4 4 ++ section 7 7 ++ section 4 4) ≡ Ok 49)
    × (of_edition_4 (flagged ++ section 3 3 ++ section 7 7 ++ section 4 4) ≡ Err (SectionShort 2))
unfolding of_edition_4 section flagged
least-of-section-2 = (refl, refl)

-- rule: length-under-least
least-of-section-3 :
    (of_edition_4 (section 22 22 ++ section 7 7 ++ section 4 4) ≡ Ok 45)
    × (of_edition_4 (section 22 22 ++ section 6 6 ++ section 4 4) ≡ Err (SectionShort 3))
unfolding of_edition_4 section
least-of-section-3 = (refl, refl)

-- rule: length-under-least
least-of-section-4 :
    (of_edition_4 (section 22 22 ++ section 7 7 ++ section 4 4) ≡ Ok 45)
    × (of_edition_4 (section 22 22 ++ section 7 7 ++ section 3 3) ≡ Err (SectionShort 4))
unfolding of_edition_4 section
least-of-section-4 = (refl, refl)

-- ---- The three octets of a length come before the last four octets of the message.

-- rule: length-past-end
length-of-section-1 :
    (of_edition_4 [] ≡ Err (SectionPast 1))
    × (of_edition_4 (0 ∷ 0 ∷ []) ≡ Err (SectionPast 1))
    × (of_edition_4 (section 21 3) ≡ Err (SectionShort 1))
unfolding of_edition_4 section
length-of-section-1 = (refl, refl, refl)

-- rule: length-past-end
length-of-section-2 :
    (of_edition_4 flagged ≡ Err (SectionPast 2))
    × (of_edition_4 (flagged ++ 0 ∷ 0 ∷ []) ≡ Err (SectionPast 2))
    × (of_edition_4 (flagged ++ section 3 3) ≡ Err (SectionShort 2))
unfolding of_edition_4 section flagged
length-of-section-2 = (refl, refl, refl)

-- rule: length-past-end
length-of-section-3 :
    (of_edition_4 (section 22 22) ≡ Err (SectionPast 3))
    × (of_edition_4 (section 22 22 ++ 0 ∷ 0 ∷ []) ≡ Err (SectionPast 3))
    × (of_edition_4 (section 22 22 ++ section 6 3) ≡ Err (SectionShort 3))
unfolding of_edition_4 section
length-of-section-3 = (refl, refl, refl)

-- rule: length-past-end
length-of-section-4 :
    (of_edition_4 (section 22 22 ++ section 7 7) ≡ Err (SectionPast 4))
    × (of_edition_4 (section 22 22 ++ section 7 7 ++ 0 ∷ 0 ∷ []) ≡ Err (SectionPast 4))
    × (of_edition_4 (section 22 22 ++ section 7 7 ++ section 3 3) ≡ Err (SectionShort 4))
unfolding of_edition_4 section
length-of-section-4 = (refl, refl, refl)

-- ---- A section ends where the last four octets begin, or before.

-- rule: section-past-end
end-of-section-1 :
    (of_edition_4 (section 22 22) ≡ Err (SectionPast 3))
    × (of_edition_4 (section 23 22) ≡ Err (SectionPast 1))
    × (of_edition_3 (section 18 17) ≡ Err (SectionPast 1))
unfolding of_edition_4 of_edition_3 section
end-of-section-1 = (refl, refl, refl)

-- rule: section-past-end
end-of-section-2 :
    (of_edition_4 (flagged ++ section 4 4) ≡ Err (SectionPast 3))
    × (of_edition_4 (flagged ++ section 5 4) ≡ Err (SectionPast 2))
unfolding of_edition_4 section flagged
end-of-section-2 = (refl, refl)

-- rule: section-past-end
end-of-section-3 :
    (of_edition_4 (section 22 22 ++ section 7 7) ≡ Err (SectionPast 4))
    × (of_edition_4 (section 22 22 ++ section 8 7) ≡ Err (SectionPast 3))
unfolding of_edition_4 section
end-of-section-3 = (refl, refl)

-- rule: section-past-end, section-4-end
end-of-section-4 :
    (of_edition_4 (section 22 22 ++ section 7 7 ++ section 5 5) ≡ Ok 46)
    × (of_edition_4 (section 22 22 ++ section 7 7 ++ section 6 5) ≡ Err (SectionPast 4))
    × (of_edition_4 (section 22 22 ++ section 7 7 ++ section 4 5) ≡ Err SectionsEnd)
unfolding of_edition_4 section
end-of-section-4 = (refl, refl, refl)

-- ---- Section 2 is present if bit 1 of the flags is set: octet 10 of section 1, or 8 in edition 3.

-- rule: section-2-flag
flags-of-section-1 :
    (of_edition_4 (slice_set (section 22 22) 9 127 ++ section 7 7 ++ section 4 4) ≡ Ok 45)
    × (of_edition_4 (slice_set (section 22 22) 9 128 ++ section 7 7 ++ section 4 4) ≡ Err (SectionShort 3))
    × (of_edition_3 (slice_set (section 17 17) 7 127 ++ section 7 7 ++ section 4 4) ≡ Ok 40)
    × (of_edition_3 (slice_set (section 17 17) 7 128 ++ section 7 7 ++ section 4 4) ≡ Err (SectionShort 3))
unfolding of_edition_4 of_edition_3 section
flags-of-section-1 = (refl, refl, refl, refl)

-- ---- Flags of section 3: bit 1 is observed, bit 2 compressed.

-- whether the data are observed, and whether they are compressed, by these flags
flags : ℕ → Result (Bool × Bool) SectionFault
unfolding message section sections_of section_end min_section_1
flags octet =
    sections_of (message 4 (section 22 22 ++ slice_set (section 7 7) 6 octet ++ section 4 4))
    >>= λ s. Ok (s.observed, s.compressed)

-- rule: section-3, reserved-ignored
flags-of-section-3 :
    (flags 63 ≡ Ok (false, false))
    × (flags 64 ≡ Ok (false, true))
    × (flags 127 ≡ Ok (false, true))
    × (flags 128 ≡ Ok (true, false))
    × (flags 191 ≡ Ok (true, false))
    × (flags 192 ≡ Ok (true, true))
unfolding flags
flags-of-section-3 = (refl, refl, refl, refl, refl, refl)

-- ---- Two faults: for each section in turn, the octets of its length, its least length and its end
-- are checked. Then comes fault 13, and fault 14 is last.

-- The last four octets are never part of a length.
-- rule: order-of-sections
length-octets-before-least :
    (taken (codes "BUFR" ++ 0 ∷ 0 ∷ 14 ∷ 4 ∷ replicate 6 0) ≡ Err (SectionPast 1))
    × (taken (codes "BUFR" ++ 0 ∷ 0 ∷ 36 ∷ 4 ∷ section 22 22 ++ replicate 6 0) ≡ Err (SectionPast 3))
unfolding taken section
length-octets-before-least = (refl, refl)

-- rule: order-of-sections
least-before-end :
    (of_edition_4 (section 21 3) ≡ Err (SectionShort 1))
    × (of_edition_4 (section 22 22 ++ section 6 5) ≡ Err (SectionShort 3))
unfolding of_edition_4 section
least-before-end = (refl, refl)

-- rule: order-of-sections
first-section-before-others :
    (of_edition_4 (section 21 22 ++ section 6 6 ++ section 3 3) ≡ Err (SectionShort 1))
    × (of_edition_4 (flagged ++ section 3 4 ++ section 6 6 ++ section 3 3) ≡ Err (SectionShort 2))
    × (of_edition_4 (section 22 22 ++ section 6 7 ++ section 3 3) ≡ Err (SectionShort 3))
unfolding of_edition_4 section flagged
first-section-before-others = (refl, refl, refl)

-- rule: order-of-sections
section-4-before-end :
    (of_edition_4 (section 22 22 ++ section 7 7 ++ section 3 4) ≡ Err (SectionShort 4))
    × (of_edition_4 (section 22 22 ++ section 7 7 ++ section 6 4) ≡ Err (SectionPast 4))
unfolding of_edition_4 section
section-4-before-end = (refl, refl)

-- ---- In edition 3, a message of more than 16,777,213 octets has no section 3 or 4 of odd length.

-- rule: edition-3-length
long-with-odd-section-3 : (m : List ℕ) → edition_of m ≡ 3 → length m ≡ 16777214 → is_long_edition_3 m 26 35 16777210 ≡ true
long-with-odd-section-3 m of-3 long = simp (long, of-3) refl

-- rule: edition-3-length
long-with-even-section-4 : (m : List ℕ) → edition_of m ≡ 3 → length m ≡ 16777215 → is_long_edition_3 m 26 35 16777211 ≡ true
long-with-even-section-4 m of-3 long = simp (long, of-3) refl

-- rule: edition-3-length
long-with-odd-section-4 : (m : List ℕ) → edition_of m ≡ 3 → length m ≡ 16777215 → is_long_edition_3 m 26 36 16777211 ≡ true
long-with-odd-section-4 m of-3 long = simp (long, of-3) refl

-- accepted: even sections, a message that is one octet shorter, and edition 4
-- rule: edition-3-length
long-with-even-sections : (m : List ℕ) → edition_of m ≡ 3 → length m ≡ 16777214 → is_long_edition_3 m 26 36 16777210 ≡ false
long-with-even-sections m of-3 long = simp (long, of-3) refl

-- rule: edition-3-length
not-so-long : (m : List ℕ) → edition_of m ≡ 3 → length m ≡ 16777213 → is_long_edition_3 m 26 35 16777209 ≡ false
not-so-long m of-3 long = simp long refl

-- rule: edition-3-length
long-of-edition-4 : (m : List ℕ) → edition_of m ≡ 4 → length m ≡ 16777214 → is_long_edition_3 m 30 39 16777210 ≡ false
long-of-edition-4 m of-4 long = simp (long, of-4) refl

-- Fault 13 is checked before fault 14.
-- rule: order-of-sections
end-before-long : (m : List ℕ) → edition_of m ≡ 3 → length m ≡ 16777214 → parts_if_end_matches m 26 26 35 16777209 ≡ Err SectionsEnd
end-before-long m of-3 long = simp long refl

-- ---- The greatest values of section 1, in the order of the header lines after `edition`.

-- rule: reading-header-ranges
greatest-of-edition-4 : greatest_values 4 ≡ 255 ∷ 65535 ∷ 65535 ∷ 255 ∷ 255 ∷ 255 ∷ 255 ∷ 255 ∷ 255 ∷ 65535 ∷ 255 ∷ 255 ∷ 255 ∷ 255 ∷ 255 ∷ []
greatest-of-edition-4 = refl

-- rule: reading-header-ranges
greatest-of-edition-3 : greatest_values 3 ≡ 255 ∷ 255 ∷ 255 ∷ 255 ∷ 255 ∷ 255 ∷ 0 ∷ 255 ∷ 255 ∷ 255 ∷ 255 ∷ 255 ∷ 255 ∷ 255 ∷ 0 ∷ []
greatest-of-edition-3 = refl

-- a head with the greatest values of edition 3
abbrev greatest_head : Head
greatest_head = record {
  edition = 3;
  master = 255;
  centre = 255;
  subcentre = 255;
  update = 255;
  category = 255;
  subcategory = 255;
  local_subcategory = 0;
  master_version = 255;
  local_version = 255;
  year = 255;
  month = 255;
  day = 255;
  hour = 255;
  minute = 255;
  second = 0;
}

heads-that-can-be-written :
    (is_writable greatest_head ≡ true)
    × (is_writable (record greatest_head { centre = 256 }) ≡ false)
    × (is_writable (record greatest_head { subcentre = 256 }) ≡ false)
    × (is_writable (record greatest_head { year = 256 }) ≡ false)
    × (is_writable (record greatest_head { local_subcategory = 1 }) ≡ false)
    × (is_writable (record greatest_head { second = 1 }) ≡ false)
    × (is_writable (record greatest_head { edition = 4; centre = 65535; second = 255 }) ≡ true)
    × (is_writable (record greatest_head { edition = 2 }) ≡ false)
    × (is_writable (record greatest_head { edition = 5 }) ≡ false)
heads-that-can-be-written = (refl, refl, refl, refl, refl, refl, refl, refl, refl)

-- ---- The longest message that is written: its length is declared in three octets.

-- rule: greatest-length
longest-message : (three_octets max_octets ≡ 255 ∷ 255 ∷ 255 ∷ []) × (max_octets ≡ 16777215)
longest-message = (refl, refl)

-- ---- At most 2^32 reads of one input.

-- rule: fault-72
reads-of-an-input : max_reads ≡ 4294967296
reads-of-an-input = refl
