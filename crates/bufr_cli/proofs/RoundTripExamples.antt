-- Worked examples of streams that are dumped and encoded again, and of texts in the normal
-- spelling.
use Rattle.std.proofs.Common.{◌≡◌, ℕ, List, [], ◌∷◌, ◌++◌, refl, codes, pos, slice_set}
use Rattle.std.specs.Fmt.{digits}
use Rattle.bufr_bits.specs.Prelude.{bits_of, bits_in, decimal_value_of, decimal_text_of, unsigned_text}
use Rattle.bufr_frame.specs.Prelude.{min_section_1, scan_from, sections_of, section_end}
use Rattle.bufr_tables.specs.Prelude.{tree_of, inner_of, level, part_of, Row}
use Rattle.bufr_tables.specs.declared.table_b.Kind.TheVariants.{Numeric}
use Rattle.bufr_walk.specs.Prelude.{next_item}
use Rattle.bufr_text.specs.Prelude.{leasts, mosts, lines_of, parse_lines, line_step, documents_of, encoding_in, without_prefix, descriptors_read, fxy_read, hex_read, is_hashed, quoted_read, descriptors_text, hex_text, runs_after, keys, line_of, value_read, worded, header_lines, subset_lines, split_of}
use Rattle.bufr_cli.specs.Prelude.{up_to_refused, accepted_messages, dumped, longer_by, rebuilt, normal_texts}
use Rattle.bufr_cli.proofs.Examples.{edition_3, one_block_number}
use Rattle.bufr_text.specs.declared.encode.Form.TheVariants.{AsWritten}

-- a stray, a message, a message of another edition, and a message of another centre
abbrev stream : List ℕ
stream = codes "BUFR" ++ 0 ∷ 0 ∷ 64 ∷ 4 ∷ (one_block_number ++ (slice_set one_block_number 7 2 ++ slice_set one_block_number 13 99))

-- a table of one element
abbrev pub blocks : List Row
blocks = record { fxy = 257; name = codes "WMO BLOCK NUMBER"; unit = codes "Numeric"; kind = Numeric; scale = pos 0; reference = pos 0; width = 7 } ∷ []

-- Events with faults are not accepted messages. The others are in the order of the stream.
accepted-among : accepted_messages blocks [] stream ≡ one_block_number ∷ slice_set one_block_number 13 99 ∷ []
unfolding scan_from sections_of section_end min_section_1 tree_of inner_of level part_of next_item bits_of header_lines subset_lines runs_after hex_text descriptors_text keys leasts mosts
    decimal_text_of unsigned_text digits
accepted-among = refl

-- An edition 3 message with an odd section 3 or an odd section 4 may grow by two octets. One with
-- even sections may not, and neither may an edition 4 message.
-- rule: encode-may-grow
grown : longer_by (slice_set edition_3 28 9 ∷ one_block_number ∷ slice_set edition_3 38 5 ∷ edition_3 ∷ []) ≡ 4
grown = refl

-- the dump text of the first message
abbrev text : List ℕ
text = codes "message\nedition 4\nmaster 0\ncentre 98\nsubcentre 0\nupdate 0\ncategory 0\nsubcategory 0\nlocalsubcategory 0\nmasterversion 14\nlocalversion 0\nyear 2024\nmonth 1\nday 2\nhour 3\nminute 4\nsecond 5\nobserved 1\ncompressed 0\noptional 0\nsubsets 1\ndescriptors 001001\nsubset 1\n001001 10  # WMO BLOCK NUMBER [Numeric]\nend\n"

-- The output does not contain any fault lines.
output-alone : dumped blocks [] (codes "BUFR" ++ 0 ∷ 0 ∷ 64 ∷ 4 ∷ (one_block_number ++ slice_set one_block_number 7 2)) ≡ text
unfolding scan_from sections_of section_end min_section_1 tree_of inner_of level part_of next_item bits_of header_lines subset_lines runs_after hex_text descriptors_text keys leasts mosts
    decimal_text_of unsigned_text digits
output-alone = refl

-- A message is rebuilt from its text.
built-of-its-text : rebuilt blocks [] one_block_number ≡ one_block_number
unfolding scan_from sections_of section_end min_section_1 tree_of inner_of level part_of next_item bits_of header_lines subset_lines runs_after hex_text descriptors_text keys leasts mosts
    decimal_text_of unsigned_text digits up_to_refused parse_lines lines_of split_of line_step line_of worded without_prefix descriptors_read fxy_read value_read
    quoted_read
    hex_read is_hashed encoding_in decimal_value_of bits_in
built-of-its-text = refl

-- ---- Texts that were written by hand, in the normal spelling.

-- a document of this edition, with this text after its descriptors
abbrev by_hand : (edition rest : List ℕ) → List ℕ
by_hand edition rest =
    codes "message\nedition " ++ (edition
    ++ (codes "\nmaster 0\ncentre 98\nsubcentre 0\nupdate 0\ncategory 0\nsubcategory 0\nlocalsubcategory 0\nmasterversion 14\nlocalversion 0\nyear 2024\nmonth 1\nday 2\nhour 3\nminute 4\nsecond 5\nobserved 1\ncompressed 0\noptional 0\nsubsets 1\ndescriptors 001001\n"
    ++ rest))

-- Comments, an empty line, zeros and a point are removed, the comment of the item is added, and the
-- second `end` is refused.
one-before-a-refused-line : normal_texts AsWritten blocks [] (documents_of (codes "# by hand\n" ++ by_hand (codes "04") (codes "\nsubset 01\n001001 010.0  # changed\nend\nend\n")))
    ≡ by_hand (codes "4") (codes "subset 1\n001001 10  # WMO BLOCK NUMBER [Numeric]\nend\n") ∷ []
unfolding normal_texts parse_lines lines_of split_of line_step line_of worded keys leasts mosts without_prefix descriptors_read fxy_read value_read quoted_read hex_read
    is_hashed encoding_in min_section_1 tree_of level part_of inner_of next_item decimal_value_of bits_of bits_in header_lines runs_after hex_text descriptors_text digits decimal_text_of unsigned_text
one-before-a-refused-line = refl

-- 200 does not fit in seven bits, so the document is refused and has no normal text.
none-of-a-refused-document : normal_texts AsWritten blocks [] (documents_of (by_hand (codes "4") (codes "subset 1\n001001 200\nend\n"))) ≡ []
unfolding normal_texts parse_lines lines_of split_of line_step line_of worded keys leasts mosts without_prefix descriptors_read fxy_read value_read quoted_read hex_read
    is_hashed encoding_in min_section_1 tree_of level part_of inner_of next_item decimal_value_of
none-of-a-refused-document = refl
