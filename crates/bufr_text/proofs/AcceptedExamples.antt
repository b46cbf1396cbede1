-- Worked examples of accepted messages, for the laws about messages that are encoded again. Some of
-- these messages are canonical.
use Rattle.std.proofs.Common.{◌≡◌, ◌∙◌, ℕ, zero, suc, ◌<◌, false, true, List, [], ◌∷◌, ◌++◌, length, None, Ok, Err, refl, ap, arith, codes, pos, ◌&&◌, ◌||◌, ◌-◌, ◌==◌, if◌then◌else◌, nat_lt, not, slice_set}
use Rattle.std.specs.List.{All, AllByRecursion}
use Rattle.bufr_bits.specs.Prelude.{bits_of, bits_in}
use Rattle.bufr_tables.specs.declared.table_b.Kind.TheVariants as kind
use Rattle.bufr_tables.specs.Prelude.{part_of, level, inner_of, tree_of, Row, element, bare}
use Rattle.bufr_frame.specs.declared.section1.Head.{Head}
use Rattle.bufr_frame.specs.declared.fault.SectionFault.TheVariants.{Edition3Long, SectionsEnd}
use Rattle.bufr_frame.specs.Prelude.{min_section_1, max_octets, size_from, three_octets, u24_at, IsPlain, Sections, sections_of, section_end, parts, parts_if_end_matches, edition_of, is_long_edition_3, is_padded}
use Rattle.bufr_walk.specs.declared.spec.Role.TheVariants as role
use Rattle.bufr_walk.specs.Prelude.{number, missing, next_item, Values, apart, together}
use Rattle.bufr_text.specs.Prelude.{IsCanonical, IsAccepted}

-- If all octets are below 256, so is the octet at each index.
all_of : (xs : List ℕ) → AllByRecursion (λ octet. octet < 256) xs → All (λ octet. octet < 256) xs
all_of [] small k d within = absurd (omega (arith, within))
all_of (x ∷ xs) small zero d within = small.0
all_of (x ∷ xs) small (suc k) d within = all_of xs small.1 k d (omega (arith, within))

-- a table with a block number and a temperature
the_table : List Row
the_table =
    record { fxy = 257; name = codes "WMO BLOCK NUMBER"; unit = codes "Numeric"; kind = kind.Numeric; scale = pos 0; reference = pos 0; width = 7 }
    ∷ record { fxy = 3173; name = codes "AIR TEMPERATURE"; unit = codes "K"; kind = kind.Numeric; scale = pos 2; reference = pos 0; width = 16 }
    ∷ []

the_head : Head
the_head = record {
  edition = 4;
  master = 0;
  centre = 98;
  subcentre = 0;
  update = 0;
  category = 0;
  subcategory = 0;
  local_subcategory = 0;
  master_version = 14;
  local_version = 0;
  year = 2024;
  month = 1;
  day = 2;
  hour = 3;
  minute = 4;
  second = 5;
}

-- an edition 4 message of this size, with these octets as sections 3 and 4
message : (size : ℕ) → List ℕ → List ℕ
message size sections = codes "BUFR" ++ 0 ∷ 0 ∷ size ∷ 4
    ∷ 0 ∷ 0 ∷ 0x16 ∷ 0 ∷ 0 ∷ 0x62 ∷ 0 ∷ 0 ∷ 0 ∷ 0 ∷ 0 ∷ 0 ∷ 0 ∷ 0x0E ∷ 0 ∷ 0x07 ∷ 0xE8 ∷ 1 ∷ 2 ∷ 3 ∷ 4 ∷ 5
    ∷ sections ++ codes "7777"

-- a message with a block number in the first seven bits of this payload octet
one_block_number : (payload : ℕ) → List ℕ
unfolding message min_section_1
one_block_number payload = message 48 (0 ∷ 0 ∷ 9 ∷ 0 ∷ 0 ∷ 1 ∷ 0x80 ∷ 1 ∷ 1 ∷ 0 ∷ 0 ∷ 5 ∷ 0 ∷ payload ∷ [])

its_sections : (payload : ℕ) → Sections
unfolding the_head min_section_1
its_sections payload = record { head = the_head; local1 = []; section2 = None; descriptors = 257 ∷ []; subsets = 1; observed = true; compressed = false; payload = payload ∷ []; size = 48 }

block_number : Values
block_number = apart ((record {
  spec = record { fxy = 257; role = role.Element; kind = kind.Numeric; width = 7; scale = pos 0; reference = pos 0; may_be_missing = true; listed = true };
  content = number 10;
} ∷ []) ∷ [])

-- The reading uses seven bits of the payload.
block_accepted : IsAccepted the_table [] (one_block_number 0x14) (its_sections 0x14) (element 257 bare) block_number 7
unfolding the_table the_head message one_block_number its_sections block_number sections_of section_end min_section_1 tree_of level part_of inner_of next_item bits_of bits_in
block_accepted = record {
  octets = search arith;
  few = omega arith;
  sections = refl;
  expands = refl;
  read = record { none = refl; values_are = refl; left = refl; within = omega arith };
}

-- rule: canonical
block_canonical : IsCanonical (one_block_number 0x14) (its_sections 0x14) block_number 7
unfolding the_head message one_block_number its_sections block_number bits_of bits_in min_section_1
block_canonical = record {
  plain = record {
    octets = all_of (one_block_number 0x14) (search arith);
    word = refl;
    size = refl;
    flags = refl;
    section2 = λ e. absurd cc;
    section3 = refl;
    whole = λ e. refl;
    data_flags = refl;
    section4 = refl;
    end = refl;
    even3 = λ e. absurd cc;
    left_over = λ e. absurd cc;
    even4 = λ e. absurd cc;
  };
  least = refl;
  bits = (λ h. h, tt);
}

-- If the bit after the data is 1, the message is accepted, but it is not canonical.
-- rule: bits-left-over
bit_after_accepted : IsAccepted the_table [] (one_block_number 0x15) (its_sections 0x15) (element 257 bare) block_number 7
unfolding the_table the_head message one_block_number its_sections block_number sections_of section_end min_section_1 tree_of level part_of inner_of next_item bits_of bits_in
bit_after_accepted = record {
  octets = search arith;
  few = omega arith;
  sections = refl;
  expands = refl;
  read = record { none = refl; values_are = refl; left = refl; within = omega arith };
}

-- rule: canonical
bit_after_is_not_canonical : IsCanonical (one_block_number 0x15) (its_sections 0x15) block_number 7 → ⊥
unfolding its_sections the_head bits_of min_section_1
bit_after_is_not_canonical c = let with_bit : List ℕ = 0x15 ∷ [] in let without : List ℕ = 0x14 ∷ [] in let e : with_bit ≡ without = c.least in cc

-- a temperature that is missing in the second of two subsets: a 16-bit base, k = 1, and two 1-bit
-- increments
two_temperatures : List ℕ
unfolding message min_section_1
two_temperatures = message 50 (0 ∷ 0 ∷ 9 ∷ 0 ∷ 0 ∷ 2 ∷ 0xC0 ∷ 0x0C ∷ 0x65 ∷ 0 ∷ 0 ∷ 7 ∷ 0 ∷ 0x70 ∷ 0x8F ∷ 5 ∷ [])

their_sections : Sections
unfolding the_head min_section_1
their_sections = record { head = the_head; local1 = []; section2 = None; descriptors = 3173 ∷ []; subsets = 2; observed = true; compressed = true; payload = 0x70 ∷ 0x8F ∷ 5 ∷ []; size = 50 }

temperatures : Values
temperatures = together (record {
  spec = record { fxy = 3173; role = role.Element; kind = kind.Numeric; width = 16; scale = pos 2; reference = pos 0; may_be_missing = true; listed = true };
  content = number 28815 ∷ missing ∷ [];
} ∷ [])

temperatures_accepted : IsAccepted the_table [] two_temperatures their_sections (element 3173 bare) temperatures 24
unfolding the_table the_head message two_temperatures their_sections temperatures sections_of section_end min_section_1 tree_of level part_of inner_of next_item bits_of bits_in
temperatures_accepted = record {
  octets = search arith;
  few = omega arith;
  sections = refl;
  expands = refl;
  read = record { none = refl; values_are = refl; left = refl; within = omega arith };
}

temperatures_canonical : IsCanonical two_temperatures their_sections temperatures 24
unfolding the_head message two_temperatures their_sections temperatures bits_of bits_in min_section_1
temperatures_canonical = record {
  plain = record {
    octets = all_of two_temperatures (search arith);
    word = refl;
    size = refl;
    flags = refl;
    section2 = λ e. absurd cc;
    section3 = refl;
    whole = λ e. refl;
    data_flags = refl;
    section4 = refl;
    end = refl;
    even3 = λ e. absurd cc;
    left_over = λ e. absurd cc;
    even4 = λ e. absurd cc;
  };
  least = refl;
  bits = (bits_of (0x70 ∷ 0x8F ∷ 5 ∷ []), [], refl, refl, refl);
}

-- ---- Edition 3.

-- a block number in an edition 3 message, whose sections have an even number of octets: the last
-- octet of section 3 is left over, and one octet comes after the data
edition_3 : (left_over last : ℕ) → List ℕ
edition_3 left_over last = codes "BUFR" ++ 0 ∷ 0 ∷ 46 ∷ 3
    ∷ 0 ∷ 0 ∷ 0x12 ∷ 0 ∷ 0 ∷ 0x62 ∷ 0 ∷ 0 ∷ 0 ∷ 0 ∷ 0x0E ∷ 0 ∷ 0x18 ∷ 1 ∷ 2 ∷ 3 ∷ 4 ∷ 0
    ∷ 0 ∷ 0 ∷ 10 ∷ 0 ∷ 0 ∷ 1 ∷ 0x80 ∷ 1 ∷ 1 ∷ left_over
    ∷ 0 ∷ 0 ∷ 6 ∷ 0 ∷ 0x14 ∷ last
    ∷ codes "7777"

sections_of_3 : (last : ℕ) → Sections
sections_of_3 last = record {
  head = record {
    edition = 3;
    master = 0;
    centre = 98;
    subcentre = 0;
    update = 0;
    category = 0;
    subcategory = 0;
    local_subcategory = 0;
    master_version = 14;
    local_version = 0;
    year = 24;
    month = 1;
    day = 2;
    hour = 3;
    minute = 4;
    second = 0;
  };
  local1 = 0 ∷ [];
  section2 = None;
  descriptors = 257 ∷ [];
  subsets = 1;
  observed = true;
  compressed = false;
  payload = 0x14 ∷ last ∷ [];
  size = 46;
}

-- The message is accepted even if these two octets are not zero.
edition_3_accepted : IsAccepted the_table [] (edition_3 1 1) (sections_of_3 1) (element 257 bare) block_number 7
unfolding the_table edition_3 sections_of_3 block_number sections_of section_end min_section_1 tree_of level part_of inner_of next_item bits_of bits_in
edition_3_accepted = record {
  octets = search arith;
  few = omega arith;
  sections = refl;
  expands = refl;
  read = record { none = refl; values_are = refl; left = refl; within = omega arith };
}

edition_3_plain : IsPlain (edition_3 0 0)
unfolding edition_3 min_section_1
edition_3_plain = record {
  octets = all_of (edition_3 0 0) (search arith);
  word = refl;
  size = refl;
  flags = refl;
  section2 = λ e. absurd cc;
  section3 = refl;
  whole = λ e. absurd cc;
  data_flags = refl;
  section4 = refl;
  end = refl;
  even3 = λ e. refl;
  left_over = λ e. refl;
  even4 = λ e. refl;
}

-- rule: canonical
edition_3_canonical : IsCanonical (edition_3 0 0) (sections_of_3 0) block_number 7
unfolding edition_3 sections_of_3 block_number bits_of bits_in min_section_1
edition_3_canonical = record { plain = edition_3_plain; least = refl; bits = (λ h. h, tt) }

-- The octet that is left over in section 3 of a plain message is zero. In a canonical message, so
-- is the octet after the data.
-- rule: canonical
left_over_is_not_plain : IsPlain (edition_3 1 0) → ⊥
unfolding edition_3 min_section_1
left_over_is_not_plain p = let e : suc zero ≡ zero = p.left_over refl in cc

octet_after_is_not_canonical : IsCanonical (edition_3 0 1) (sections_of_3 1) block_number 7 → ⊥
unfolding sections_of_3 bits_of min_section_1
octet_after_is_not_canonical c = let with_one : List ℕ = 0x14 ∷ 1 ∷ [] in let with_zero : List ℕ = 0x14 ∷ 0 ∷ [] in let e : with_one ≡ with_zero = c.least in cc

-- A message is not plain if its section 3 has an odd number of octets.
odd_is_not_plain : IsPlain (slice_set (edition_3 0 0) 28 9) → ⊥
unfolding edition_3 min_section_1
odd_is_not_plain p = let e : suc zero ≡ zero = p.even3 refl in cc

-- ---- The maximum length.

-- Three octets can state the maximum length. A message with 16,777,170 octets for local use has
-- this length.
greatest_stated : three_octets max_octets ≡ 255 ∷ 255 ∷ 255 ∷ []
greatest_stated = refl

greatest_read : u24_at (255 ∷ 255 ∷ 255 ∷ []) 0 ≡ max_octets
greatest_read = refl

-- rule: greatest-length
greatest_written : size_from 4 16777170 None 0 0 ≡ max_octets
unfolding min_section_1
greatest_written = refl

-- An edition 3 message of 16,777,214 octets is rejected if its section 3 is odd, because the
-- message with even sections might be longer than the maximum. It is not rejected if it is one
-- octet shorter, or if its sections are even.
-- rule: edition-3-length
long_refused : (m : List ℕ) → edition_of m ≡ 3 → length m ≡ 16777214 → parts_if_end_matches m 26 26 35 16777210 ≡ Err Edition3Long
long_refused m of_3 long =
    ap (λ n. if not (16777210 == (n - 4)) then Err SectionsEnd else if nat_lt 16777213 n
    && (is_padded (edition_of m) 9 || is_padded (edition_of m) 16777175) then Err Edition3Long else Ok (parts m 26 26 35 16777210)) long
    ∙ ap (λ n. if is_padded n 9 || is_padded n 16777175 then Err Edition3Long else Ok (parts m 26 26 35 16777210)) of_3

shorter_not_long : (m : List ℕ) → edition_of m ≡ 3 → length m ≡ 16777213 → is_long_edition_3 m 26 35 16777209 ≡ false
shorter_not_long m of_3 long = ap (λ n. nat_lt 16777213 n && (is_padded (edition_of m) 9 || is_padded (edition_of m) 16777174)) long

even_not_long : (m : List ℕ) → edition_of m ≡ 3 → length m ≡ 16777214 → is_long_edition_3 m 26 36 16777210 ≡ false
even_not_long m of_3 long =
    ap (λ n. nat_lt 16777213 n && (is_padded (edition_of m) 10 || is_padded (edition_of m) 16777174)) long
    ∙ ap (λ n. is_padded n 10 || is_padded n 16777174) of_3
