-- The pieces of a dump, computed on worked examples.
use Rattle.std.proofs.Common.{◌≡◌, List, [], ◌∷◌, refl, codes, pos, ℕ, ◌++◌, slice_set, take}
use Rattle.std.specs.Fmt.{digits}
use Rattle.bufr_bits.specs.Prelude.{bits_of, decimal_text_of, unsigned_text}
use Rattle.bufr_frame.specs.Prelude.{min_section_1, FrameAt, StrayAt, sections_of, section_end}
use Rattle.bufr_frame.specs.declared.fault.Cause.TheVariants.{Cut}
use Rattle.bufr_tables.specs.Prelude.{tree_of, inner_of, level, part_of, Row}
use Rattle.bufr_tables.specs.declared.table_b.Kind.TheVariants.{Numeric}
use Rattle.bufr_walk.specs.Prelude.{next_item}
use Rattle.bufr_text.specs.Prelude.{leasts, mosts, header_lines, subset_lines, descriptors_text, hex_text, runs_after, keys}
use Rattle.bufr_cli.specs.Prelude.{dump_piece, OnOutput, OnErrors}
use Rattle.bufr_cli.proofs.Examples.{one_block_number}

-- a table of one element
abbrev blocks : List Row
blocks = record { fxy = 257; name = codes "WMO BLOCK NUMBER"; unit = codes "Numeric"; kind = Numeric; scale = pos 0; reference = pos 0; width = 7 } ∷ []

-- a stray, a message of another edition, and an element that is missing from the table
-- rule: one-fault-a-message
stray-piece : dump_piece blocks [] (StrayAt 4 Cut) ≡ OnErrors (codes "offset 4: 1 cut\n")
unfolding digits
stray-piece = refl

edition-piece : dump_piece blocks [] (FrameAt 0 (slice_set one_block_number 7 2)) ≡ OnErrors (codes "offset 0: 10 edition 2\n")
unfolding sections_of section_end min_section_1 digits
edition-piece = refl

-- rule: list-before-data
unknown-piece : dump_piece [] [] (FrameAt 48 one_block_number) ≡ OnErrors (codes "offset 48: 20 unknown element 001001\n")
unfolding sections_of section_end min_section_1 tree_of inner_of level part_of digits
unknown-piece = refl

-- The data are read: seven bits are the number 10, and one bit is left over.
read-piece : dump_piece blocks [] (FrameAt 0 one_block_number)
    ≡ OnOutput (codes "message\nedition 4\nmaster 0\ncentre 98\nsubcentre 0\nupdate 0\ncategory 0\nsubcategory 0\nlocalsubcategory 0\nmasterversion 14\nlocalversion 0\nyear 2024\nmonth 1\nday 2\nhour 3\nminute 4\nsecond 5\nobserved 1\ncompressed 0\noptional 0\nsubsets 1\ndescriptors 001001\nsubset 1\n001001 10  # WMO BLOCK NUMBER [Numeric]\nend\n")
unfolding sections_of section_end min_section_1 tree_of inner_of level part_of next_item bits_of header_lines subset_lines runs_after hex_text descriptors_text keys leasts mosts
    decimal_text_of unsigned_text digits
read-piece = refl

-- the same message without data, which is refused at its first item
abbrev without_data : List ℕ
without_data = slice_set (take 39 one_block_number) 6 47 ++ 0 ∷ 0 ∷ 4 ∷ 0 ∷ 55 ∷ 55 ∷ 55 ∷ 55 ∷ []

-- rule: refused-messages-write-nothing
refused-piece : dump_piece blocks [] (FrameAt 0 without_data) ≡ OnErrors (codes "offset 0: 30 data end at subset 1 descriptor 001001 bit 0\n")
unfolding sections_of section_end min_section_1 tree_of inner_of level part_of next_item bits_of digits
refused-piece = refl
