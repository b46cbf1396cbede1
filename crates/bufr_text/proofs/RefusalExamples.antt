-- Worked examples of lines and documents that are rejected. Each bound is shown from both sides. If
-- a line or a document has two faults, the example shows which one is reported.
use Rattle.std.proofs.Common.{◌≡◌, ◌+◌, ◌++◌, ℕ, Bool, true, false, List, [], ◌∷◌, map, replicate, Result, Ok, Err, refl, codes}
use Rattle.bufr_bits.specs.Prelude.{decimal_value_of}
use Rattle.bufr_frame.specs.declared.section1.Head.{Head}
use Rattle.bufr_frame.specs.Prelude.{MessageParts, message_octets, message_size}
use Rattle.bufr_tables.specs.Prelude.{part_of, level, inner_of, tree_of}
use Rattle.bufr_tables.specs.declared.fault.TemplateFault.TheVariants as template
use Rattle.bufr_walk.specs.Prelude.{next_item}
use Rattle.bufr_fill.specs.Prelude.{number_token, text_form, missing_form, reference_token, Ends}
use Rattle.bufr_fill.specs.declared.fault.ItemFault.TheVariants as wrong
use Rattle.bufr_text.specs.declared.document.LineGroup.TheVariants as group
use Rattle.bufr_text.specs.declared.fault.DocumentFault.TheVariants as fault
use Rattle.bufr_text.specs.Prelude.{leasts, mosts, in_range, without_prefix, hex_read, hex_text, fxy_read, descriptors_read, descriptors_text, quoted_read, is_hashed, Line, Header, Local1, Section2, Descriptors, SubsetLine, ItemLine, Invalid, keys, value_read, worded, line_of, read_line, ParseResult, Refused, NotAllowed, SubsetCount, HeaderRange, line_step, parse_lines, lines_of, documents_of, Document, blank, Heading, BeforeSubsets, open_documents_of, split_of, parse_open_lines, text_of_lines, DocumentFault, encoding_of, encoding_in, message_of}
use Rattle.bufr_text.proofs.EncodingExamples.{listed, table, document, number}

-- ---- The meaning of one line, with octets on both sides of each range.

said : List (List ℕ) → List Line
unfolding line_of worded without_prefix fxy_read value_read quoted_read is_hashed keys hex_read descriptors_read
said lines = map read_line lines

-- The hexadecimal digits are 0 to 9, A to F, and a to f.
-- rule: reading-hexadecimal
hexadecimal_digits :
    (said (map (λ c. codes "local1 0" ++ c ∷ []) (47 ∷ 48 ∷ 57 ∷ 58 ∷ 64 ∷ 65 ∷ 70 ∷ 71 ∷ 96 ∷ 97 ∷ 102 ∷ 103 ∷ []))
    ≡ Invalid ∷ Local1 (0 ∷ []) ∷ Local1 (9 ∷ []) ∷ Invalid ∷ Invalid ∷ Local1 (10 ∷ []) ∷ Local1 (15 ∷ []) ∷ Invalid ∷ Invalid ∷ Local1 (10 ∷ []) ∷ Local1 (15 ∷ []) ∷ Invalid ∷ [])
    × (said (map (λ c. codes "section2 " ++ c ∷ 48 ∷ []) (47 ∷ 48 ∷ 57 ∷ 58 ∷ 64 ∷ 65 ∷ 70 ∷ 71 ∷ 96 ∷ 97 ∷ 102 ∷ 103 ∷ []))
    ≡ Invalid ∷ Section2 (0 ∷ []) ∷ Section2 (144 ∷ []) ∷ Invalid ∷ Invalid ∷ Section2 (160 ∷ []) ∷ Section2 (240 ∷ []) ∷ Invalid ∷ Invalid ∷ Section2 (160 ∷ []) ∷ Section2 (240 ∷ []) ∷ Invalid ∷ [])
unfolding said
hexadecimal_digits = (refl, refl)

-- A line of octets has 1 to 32 of them, and a line of descriptors 1 to 8.
-- rule: reading-long-lists, reading-hexadecimal
most_of_a_line :
    (said (map (λ n. codes "local1 " ++ hex_text (replicate n 1)) (0 ∷ 1 ∷ 32 ∷ 33 ∷ [])) ≡ Invalid ∷ Local1 (1 ∷ []) ∷ Local1 (replicate 32 1) ∷ Invalid ∷ [])
    × (said (map (λ n. codes "section2 " ++ hex_text (replicate n 1)) (0 ∷ 1 ∷ 32 ∷ 33 ∷ [])) ≡ Invalid ∷ Section2 (1 ∷ []) ∷ Section2 (replicate 32 1) ∷ Invalid ∷ [])
    × (said (map (λ n. codes "descriptors" ++ descriptors_text (replicate n 257)) (0 ∷ 1 ∷ 8 ∷ 9 ∷ [])) ≡ Invalid ∷ Descriptors (257 ∷ []) ∷ Descriptors (replicate 8 257) ∷ Invalid ∷ [])
unfolding said hex_text descriptors_text
most_of_a_line = (refl, refl, refl)

-- In a quoted text, any octet from space to tilde represents itself, except a quote and a
-- backslash.
-- rule: reading-quoted
octets_of_a_text : said (map (λ c. codes "205001 " ++ 34 ∷ c ∷ 34 ∷ []) (31 ∷ 32 ∷ 33 ∷ 34 ∷ 35 ∷ 91 ∷ 92 ∷ 93 ∷ 126 ∷ 127 ∷ 255 ∷ []))
    ≡ Invalid ∷ ItemLine 0x8501 (text_form (32 ∷ [])) ∷ ItemLine 0x8501 (text_form (33 ∷ [])) ∷ Invalid ∷ ItemLine 0x8501 (text_form (35 ∷ [])) ∷ ItemLine 0x8501 (text_form (91 ∷ []))
    ∷ Invalid ∷ ItemLine 0x8501 (text_form (93 ∷ [])) ∷ ItemLine 0x8501 (text_form (126 ∷ [])) ∷ Invalid ∷ Invalid ∷ []
unfolding said
octets_of_a_text = refl

-- An escape is a backslash, followed by a quote, a backslash, or `x` and two hexadecimal digits in
-- upper case. Fails if a lower-case digit, a single digit or another letter is accepted.
-- rule: reading-quoted
escapes_of_a_text :
    (said (map (λ c. codes "205001 " ++ 34 ∷ 92 ∷ codes "x0" ++ c ∷ 34 ∷ []) (47 ∷ 48 ∷ 57 ∷ 58 ∷ 64 ∷ 65 ∷ 70 ∷ 71 ∷ 97 ∷ 102 ∷ []))
    ≡ Invalid ∷ ItemLine 0x8501 (text_form (0 ∷ [])) ∷ ItemLine 0x8501 (text_form (9 ∷ [])) ∷ Invalid ∷ Invalid ∷ ItemLine 0x8501 (text_form (10 ∷ [])) ∷ ItemLine 0x8501 (text_form (15 ∷ []))
    ∷ Invalid
    ∷ Invalid ∷ Invalid ∷ [])
    × (said (map (λ octets. codes "205001 " ++ 34 ∷ 92 ∷ octets ++ 34 ∷ []) ((34 ∷ []) ∷ (92 ∷ []) ∷ codes "X41" ∷ codes "x4" ∷ codes "x" ∷ codes "y41" ∷ []))
    ≡ ItemLine 0x8501 (text_form (34 ∷ [])) ∷ ItemLine 0x8501 (text_form (92 ∷ [])) ∷ Invalid ∷ Invalid ∷ Invalid ∷ Invalid ∷ [])
unfolding said
escapes_of_a_text = (refl, refl)

-- A number token consists of digits, minus signs and points.
-- rule: reading-number
octets_of_a_number :
    (said (map (λ c. codes "001001 " ++ c ∷ []) (44 ∷ 45 ∷ 46 ∷ 47 ∷ 48 ∷ 57 ∷ 58 ∷ []))
    ≡ Invalid ∷ ItemLine 257 (number_token (45 ∷ [])) ∷ ItemLine 257 (number_token (46 ∷ [])) ∷ Invalid ∷ ItemLine 257 (number_token (48 ∷ [])) ∷ ItemLine 257 (number_token (57 ∷ [])) ∷ Invalid ∷ [])
    × (said (map (λ c. codes "001001 1" ++ c ∷ []) (44 ∷ 45 ∷ 46 ∷ 47 ∷ 48 ∷ 57 ∷ 58 ∷ []))
    ≡ Invalid ∷ ItemLine 257 (number_token (49 ∷ 45 ∷ [])) ∷ ItemLine 257 (number_token (49 ∷ 46 ∷ [])) ∷ Invalid ∷ ItemLine 257 (number_token (49 ∷ 48 ∷ []))
    ∷ ItemLine 257 (number_token (49 ∷ 57 ∷ []))
    ∷ Invalid ∷ [])
unfolding said
octets_of_a_number = (refl, refl)

-- An `R` line has only a number as its value, after one space.
-- rule: reading-reference, reading-after-a-value
lines_of_references : said (codes "R 012101 -400" ∷ codes "R 012101 -400  # x" ∷ codes "R 012101 MISSING" ∷ (codes "R 012101 " ++ 34 ∷ 65 ∷ 34 ∷ []) ∷ codes "R 012101 -400 x" ∷ codes "R  012101 -400"
    ∷ codes "R 012101  -400" ∷ codes "R 01210 1" ∷ codes "R" ∷ codes "R 012101 " ∷ [])
    ≡ ItemLine 3173 (reference_token (codes "-400")) ∷ ItemLine 3173 (reference_token (codes "-400")) ∷ replicate 8 Invalid
unfolding said
lines_of_references = refl

-- After a value, only a comment is allowed, with at least one space before its `#`. Fails if a
-- comment is rejected after a reference, `MISSING` or a text, or if the space is not required.
-- rule: reading-after-a-value
after_a_value :
    (said (codes "001001 MISSING # x" ∷ codes "001001 MISSING#" ∷ codes "001001 MISSING " ∷ codes "001001 MISSINGS" ∷ codes "001001 MISSIN" ∷ codes "001001 missing"
    ∷ (codes "205001 " ++ 34 ∷ 65 ∷ 34 ∷ codes " #") ∷ (codes "205001 " ++ 34 ∷ 65 ∷ 34 ∷ codes "#") ∷ [])
    ≡ ItemLine 257 missing_form ∷ Invalid ∷ Invalid ∷ Invalid ∷ Invalid ∷ Invalid ∷ ItemLine 0x8501 (text_form (65 ∷ [])) ∷ Invalid ∷ [])
    × (said (codes "R 012101 1 #" ∷ codes "R 012101 1#" ∷ codes "R 012101 1 " ∷ []) ≡ ItemLine 3173 (reference_token (codes "1")) ∷ Invalid ∷ Invalid ∷ [])
unfolding said
after_a_value = (refl, refl)

-- The number of a header line, or of a `subset` line, has at least one digit, and comes after one
-- space. All numbers above 65,535 are read as 65,536.
-- rule: reading-header-number
numbers_of_the_header :
    (said (map (λ c. codes "year " ++ c ∷ []) (47 ∷ 48 ∷ 57 ∷ 58 ∷ [])) ≡ Invalid ∷ Header 10 0 ∷ Header 10 9 ∷ Invalid ∷ [])
    × (said (codes "year" ∷ codes "year " ∷ codes "year  1" ∷ codes "year 1 " ∷ codes "year -1" ∷ codes "year 1.0" ∷ codes "Year 1" ∷ codes "year 1 # x" ∷ []) ≡ replicate 8 Invalid)
    × (said (codes "year 0002024" ∷ codes "year 65535" ∷ codes "year 65536" ∷ codes "year 65537" ∷ []) ≡ Header 10 2024 ∷ Header 10 65535 ∷ Header 10 65536 ∷ Header 10 65536 ∷ [])
    × (said (map (λ c. codes "subset " ++ c ∷ []) (47 ∷ 48 ∷ 57 ∷ 58 ∷ [])) ≡ Invalid ∷ SubsetLine 0 ∷ SubsetLine 9 ∷ Invalid ∷ [])
unfolding said
numbers_of_the_header = (refl, refl, refl, refl)

-- ---- The ranges of the header.

-- whether each value is in the range of its key, and whether the next number is; the first value
-- has this key
bounds : (edition key : ℕ) → List ℕ → List (Bool × Bool)
unfolding leasts mosts
bounds edition key [] = []
bounds edition key (value ∷ more) = (in_range edition key value, in_range edition key (value + 1)) ∷ bounds edition (key + 1) more

-- For each edition, the greatest value of every key is in range, and the next number is not. 0 is
-- in range for every key except `edition`.
-- rule: reading-header-ranges
greatest_of_the_header :
    (bounds 4 0 (4 ∷ 255 ∷ 65535 ∷ 65535 ∷ 255 ∷ 255 ∷ 255 ∷ 255 ∷ 255 ∷ 255 ∷ 65535 ∷ 255 ∷ 255 ∷ 255 ∷ 255 ∷ 255 ∷ 1 ∷ 1 ∷ 1 ∷ 65535 ∷ []) ≡ replicate 20 (true, false))
    × (bounds 3 0 (4 ∷ 255 ∷ 255 ∷ 255 ∷ 255 ∷ 255 ∷ 255 ∷ 0 ∷ 255 ∷ 255 ∷ 255 ∷ 255 ∷ 255 ∷ 255 ∷ 255 ∷ 0 ∷ 1 ∷ 1 ∷ 1 ∷ 65535 ∷ []) ≡ replicate 20 (true, false))
    × (bounds 4 1 (replicate 19 0) ≡ replicate 19 (true, true))
    × (bounds 4 0 (2 ∷ []) ≡ (false, true) ∷ [])
unfolding bounds
greatest_of_the_header = (refl, refl, refl, refl)

-- ---- The order of lines.

-- the documents in these lines
documents_in : List (List ℕ) → List ParseResult
unfolding line_of worded without_prefix fxy_read value_read quoted_read is_hashed keys leasts mosts hex_read descriptors_read parse_lines lines_of split_of line_step
documents_in lines = documents_of (text_of_lines lines)

-- the results of these lines and an invalid line after a header; the first line is line 22
after_header : (optional subsets : ℕ) → List (List ℕ) → List ParseResult
unfolding line_of worded without_prefix fxy_read value_read quoted_read is_hashed keys leasts mosts hex_read descriptors_read parse_lines line_step
after_header optional subsets lines = parse_lines 22 (
  BeforeSubsets group.Local1,
  record (blank 1) { header = 4 ∷ 0 ∷ 98 ∷ 0 ∷ 0 ∷ 0 ∷ 0 ∷ 0 ∷ 14 ∷ 0 ∷ 2024 ∷ 1 ∷ 2 ∷ 3 ∷ 4 ∷ 5 ∷ 1 ∷ 0 ∷ optional ∷ subsets ∷ [] },
) (lines ++ codes "x" ∷ [])

abbrev line_at : ℕ → List ParseResult
line_at n = Refused n NotAllowed ∷ []

abbrev count_at : ℕ → List ParseResult
count_at n = Refused n SubsetCount ∷ []

abbrev range_at : ℕ → List ParseResult
range_at n = Refused n HeaderRange ∷ []

-- the results of these lines and an invalid line after the `compressed` line; the first line is
-- line 20
late_header : List (List ℕ) → List ParseResult
unfolding line_of worded without_prefix fxy_read value_read quoted_read is_hashed keys leasts mosts hex_read descriptors_read parse_lines line_step
late_header lines = parse_lines 20 (Heading, record (blank 1) { header = 4 ∷ 0 ∷ 98 ∷ 0 ∷ 0 ∷ 0 ∷ 0 ∷ 0 ∷ 14 ∷ 0 ∷ 2024 ∷ 1 ∷ 2 ∷ 3 ∷ 4 ∷ 5 ∷ 1 ∷ 0 ∷ [] }) (lines ++ codes "x" ∷ [])

-- The header ends with the `subsets` line, and not before.
-- rule: reading-header-order, fault-61
end_of_the_header :
    map late_header ((codes "optional 1" ∷ codes "subsets 65535" ∷ codes "local1 01" ∷ []) ∷ (codes "optional 0" ∷ codes "local1 01" ∷ []) ∷ (codes "optional 0" ∷ codes "end" ∷ [])
    ∷ (codes "optional 0" ∷ codes "subsets 1" ∷ codes "subsets 1" ∷ [])
    ∷ (codes "subsets 1" ∷ []) ∷ (codes "optional 2" ∷ []) ∷ (codes "optional 0" ∷ codes "subsets 65536" ∷ []) ∷ [])
    ≡ line_at 23 ∷ line_at 21 ∷ line_at 21 ∷ line_at 22 ∷ line_at 20 ∷ range_at 20 ∷ range_at 21 ∷ []
unfolding late_header
end_of_the_header = refl

-- Octets for local use, octets of section 2, descriptors and subsets come in this order, each on
-- any number of lines. Fails if one of them is accepted too late, or if its second line is
-- rejected.
-- rule: reading-section2, reading-long-lists, fault-50
kinds_in_order :
    (after_header 1 1 (codes "local1 01" ∷ codes "local1 01" ∷ codes "section2 01" ∷ codes "section2 01" ∷ codes "descriptors 001001" ∷ codes "descriptors 001001" ∷ codes "subset 1"
    ∷ codes "001001 1" ∷ codes "R 012101 1" ∷ []) ≡ line_at 31)
    × (map (after_header 1 1) ((codes "section2 01" ∷ codes "local1 01" ∷ []) ∷ (codes "descriptors 001001" ∷ codes "local1 01" ∷ []) ∷ (codes "descriptors 001001" ∷ codes "section2 01" ∷ [])
    ∷ (codes "subset 1" ∷ codes "local1 01" ∷ []) ∷ (codes "subset 1" ∷ codes "section2 01" ∷ []) ∷ (codes "subset 1" ∷ codes "descriptors 001001" ∷ []) ∷ []) ≡ replicate 6 (line_at 23))
unfolding after_header
kinds_in_order = (refl, refl)

-- Octets of section 2 are allowed only if `optional` is 1.
-- rule: reading-section2
section2_by_the_flag : (after_header 0 1 (codes "section2 01" ∷ []) ≡ line_at 22) × (after_header 1 1 (codes "section2 01" ∷ []) ≡ line_at 23)
    × (after_header 0 1 (codes "local1 01" ∷ []) ≡ line_at 23)
unfolding after_header
section2_by_the_flag = (refl, refl, refl)

-- Items are allowed only after a `subset` line. After the header, neither header lines nor
-- `message` are allowed.
-- rule: fault-50
lines_out_of_place :
    (map (λ line. after_header 1 1 (line ∷ [])) (codes "001001 1" ∷ codes "R 012101 1" ∷ codes "message" ∷ codes "edition 4" ∷ codes "subsets 1" ∷ []) ≡ replicate 5 (line_at 22))
    × (map (λ line. after_header 1 1 (codes "subset 1" ∷ line ∷ [])) (codes "message" ∷ codes "edition 4" ∷ codes "subsets 1" ∷ []) ≡ replicate 3 (line_at 23))
unfolding after_header
lines_out_of_place = (refl, refl)

-- A subset has the next number, which is at most the number of subsets. At `end`, no subset may be
-- missing. Fails if a number may be skipped or is not compared with `subsets`, or if too few
-- subsets are accepted.
-- rule: fault-57, reading-subsets
numbers_of_subsets :
    (map (λ line. after_header 0 1 (line ∷ [])) (codes "subset 0" ∷ codes "subset 01" ∷ codes "subset 2" ∷ codes "end" ∷ []) ≡ count_at 22 ∷ line_at 23 ∷ count_at 22 ∷ count_at 22 ∷ [])
    × (map (λ line. after_header 0 3 (codes "subset 1" ∷ line ∷ [])) (codes "subset 1" ∷ codes "subset 2" ∷ codes "subset 3" ∷ codes "end" ∷ [])
    ≡ count_at 23 ∷ line_at 24 ∷ count_at 23 ∷ count_at 23 ∷ [])
    × (after_header 0 2 (codes "subset 2" ∷ []) ≡ count_at 22)
    × (after_header 0 1 (codes "subset 1" ∷ codes "subset 2" ∷ []) ≡ count_at 23)
    × (map (λ line. after_header 0 0 (line ∷ [])) (codes "subset 0" ∷ codes "subset 1" ∷ []) ≡ count_at 22 ∷ count_at 22 ∷ [])
    × (map (λ line. after_header 0 65535 (line ∷ [])) (codes "subset 1" ∷ codes "subset 65536" ∷ codes "subset 99999999999" ∷ []) ≡ line_at 23 ∷ count_at 22 ∷ count_at 22 ∷ [])
unfolding after_header
numbers_of_subsets = (refl, refl, refl, refl, refl, refl)

-- ---- If a line has two faults, 50 is reported before 61 and 57.

-- An invalid line is reported before a wrong subset count.
-- rule: fault-order-of-a-line
line_before_count :
    (map (λ line. after_header 0 1 (line ∷ [])) (codes "subset 2 " ∷ codes "subset -1" ∷ codes "subset" ∷ codes "end " ∷ codes "end # x" ∷ []) ≡ replicate 5 (line_at 22))
    × (map (λ line. after_header 0 2 (codes "subset 1" ∷ line ∷ [])) (codes "subset 3x" ∷ codes "end " ∷ []) ≡ replicate 2 (line_at 23))
    × (map documents_in ((codes "subset 7" ∷ []) ∷ (codes "end" ∷ []) ∷ []) ≡ replicate 2 (line_at 1))
    × (map (λ line. documents_in (codes "message" ∷ codes "edition 4" ∷ line ∷ [])) (codes "subset 7" ∷ codes "end" ∷ []) ≡ replicate 2 (line_at 3))
unfolding after_header documents_in
line_before_count = (refl, refl, refl, refl)

-- An invalid line, or a key that is not the next one, is reported before a value out of range.
-- rule: fault-order-of-a-line, reading-header-order
line_before_range :
    (map (λ line. documents_in (codes "message" ∷ line ∷ [])) (codes "edition 5 " ∷ codes "edition x" ∷ codes "master 256" ∷ codes "edition 2" ∷ codes "edition 3" ∷ codes "edition 4"
    ∷ codes "edition 5" ∷ [])
    ≡ line_at 2 ∷ line_at 2 ∷ line_at 2 ∷ range_at 2 ∷ line_at 3 ∷ line_at 3 ∷ range_at 2 ∷ [])
    × (map (λ line. documents_in (codes "message" ∷ codes "edition 4" ∷ line ∷ []))
    (codes "edition 9" ∷ codes "centre 65536" ∷ codes "master 256 # x" ∷ codes "master 255" ∷ codes "master 256" ∷ codes "master 99999999999999999999999" ∷ [])
    ≡ line_at 3 ∷ line_at 3 ∷ line_at 3 ∷ line_at 4 ∷ range_at 3 ∷ range_at 3 ∷ [])
    × (documents_in (codes "edition 5" ∷ []) ≡ line_at 1)
    × (after_header 0 1 (codes "centre 65536" ∷ []) ≡ line_at 22)
unfolding after_header documents_in
line_before_range = (refl, refl, refl, refl)

-- ---- Long lines, and the end of a text.

-- A line has at most 4,096 octets, with or without a line feed after it, even if it is a comment. A
-- longer line is rejected before its end is known.
-- rule: reading-longest-line
longest_line :
    (documents_of (35 ∷ replicate 4095 120) ≡ [])
    × (documents_of (35 ∷ replicate 4096 120) ≡ line_at 1)
    × (open_documents_of (replicate 4096 120) ≡ [])
    × (open_documents_of (replicate 4097 120) ≡ line_at 1)
unfolding line_of parse_lines lines_of line_step parse_open_lines split_of
longest_line = (refl, refl, refl, refl)

-- A text may end only between documents. Otherwise, the fault is at the line after the last one.
-- After an invalid line, nothing more is reported.
-- rule: input-ends-early, fault-50
where_a_text_ends :
    (map documents_of ([] ∷ codes "\n" ∷ codes "# x" ∷ codes "message" ∷ codes "message\n" ∷ codes "message\nedition 4\n" ∷ codes "message\nedition 4\n# x" ∷ codes "message\nx\ny\n"
    ∷ codes "message \n" ∷ codes "messages\n" ∷ [])
    ≡ [] ∷ [] ∷ [] ∷ line_at 2 ∷ line_at 2 ∷ line_at 3 ∷ line_at 4 ∷ line_at 2 ∷ line_at 1 ∷ line_at 1 ∷ [])
    × (map open_documents_of (codes "message" ∷ codes "message\nedition 4\n" ∷ codes "message\nedition 4\nx" ∷ codes "message\nx\n" ∷ []) ≡ [] ∷ [] ∷ [] ∷ line_at 2 ∷ [])
unfolding line_of worded without_prefix fxy_read value_read quoted_read is_hashed keys leasts mosts hex_read descriptors_read parse_lines lines_of line_step
    parse_open_lines split_of
where_a_text_ends = (refl, refl)

-- ---- If a document has two faults, 56 is reported before a fault of an item, and 60 last.

encoded : Document → Result (List ℕ) DocumentFault
unfolding table document number encoding_in tree_of level part_of inner_of next_item decimal_value_of
encoded d = encoding_of table [] d

-- The template is checked first, and then the items, however many octets for local use there are.
-- rule: fault-56-first-60-last
template_then_items : (octets : List ℕ)
    → (encoded (record (document 0 1 (0x0101 ∷ 0x0102 ∷ []) (number 24 0x0101 (codes "127") ∷ Ends 25 ∷ [])) { local1 = octets }) ≡ Err (fault.Template 1 (template.UnknownElement 0x0102)))
    × (encoded (record (document 0 1 (0x8179 ∷ 0x0101 ∷ 0x0102 ∷ []) (Ends 24 ∷ [])) { local1 = octets }) ≡ Err (fault.Template 1 (template.UnknownElement 0x0102)))
    × (encoded (record (document 0 1 (0x0101 ∷ []) (number 24 0x0101 (codes "127") ∷ Ends 25 ∷ [])) { local1 = octets }) ≡ Err (fault.Item 24 wrong.OutOfRange))
    × (encoded (record (document 0 0 (0x0102 ∷ []) []) { local1 = octets }) ≡ Err (fault.Template 1 (template.UnknownElement 0x0102)))
unfolding encoded document number listed
template_then_items octets = (refl, refl, refl, refl)

-- If two subsets of plain data have a fault, that of the first one is reported.
first_subset_refused :
    encoded (document 0 2 (0x0101 ∷ []) (number 24 0x0101 (codes "127") ∷ Ends 25 ∷ number 26 0x0101 (codes "127") ∷ Ends 27 ∷ [])) ≡ Err (fault.Item 24 wrong.OutOfRange)
unfolding encoded document number listed
first_subset_refused = refl

-- A message of 16,777,215 octets is written, and one of 16,777,216 is too long.
-- rule: fault-60
greatest_length : (line : ℕ) (head : Head) (parts : MessageParts)
    → (message_size head.edition parts ≡ 16777215 → message_of line head parts ≡ Ok (message_octets head parts))
    × (message_size head.edition parts ≡ 16777216 → message_of line head parts ≡ Err (fault.TooLong line))
greatest_length line head parts = (λ is. rw is refl, λ is. rw is refl)
