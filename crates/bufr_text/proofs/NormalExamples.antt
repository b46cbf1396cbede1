-- Worked examples of the normal text of documents.
use Rattle.std.proofs.Common.{◌≡◌, ℕ, List, [], ◌∷◌, refl, codes, ℤ, pos}
use Rattle.std.specs.Fmt.{digits}
use Rattle.bufr_bits.specs.Prelude.{decimal_text_of, unsigned_text, decimal_value_of}
use Rattle.bufr_tables.specs.declared.table_b.Kind.{Kind}
use Rattle.bufr_tables.specs.declared.table_b.Kind.TheVariants as kind
use Rattle.bufr_tables.specs.Prelude.{Row, Tree, bare, element, operator, delayed}
use Rattle.bufr_walk.specs.Prelude.{next_item}
use Rattle.bufr_fill.specs.Prelude.{draft, text_form, reference_token, DraftEntry, Holds, Ends, subsets_of}
use Rattle.bufr_text.specs.Prelude.{leasts, mosts, Form, Document, header_lines, text_of_lines, runs_after, hex_text, descriptors_text, quoted, keys, header_as, normal_subsets, normal}
use Rattle.bufr_text.specs.declared.encode.Form.TheVariants.{AsWritten, Plain, Compressed}
use Rattle.bufr_text.proofs.EncodingExamples.{document, number, missing}

unfoldable listed : (fxy : ℕ) → (name unit : List ℕ) → Kind → (scale : ℤ) → (width : ℕ) → Row
listed fxy name unit k scale width = record { fxy = fxy; name = name; unit = unit; kind = k; scale = scale; reference = pos 0; width = width }

-- a table with a block number, a name of four octets, a temperature and a factor
unfoldable table : List Row
unfolding listed
table =
    listed 257 (codes "WMO BLOCK NUMBER") (codes "Numeric") kind.Numeric (pos 0) 7
    ∷ listed 271 (codes "NAME") (codes "CCITT IA5") kind.Character (pos 0) 32
    ∷ listed 3173 (codes "AIR TEMPERATURE") (codes "K") kind.Numeric (pos 2) 16
    ∷ listed 7937 (codes "FACTOR") (codes "Numeric") kind.Numeric (pos 0) 8
    ∷ []

-- the normal text of the subsets, without the lines before them and the `end` line
unfoldable items_in : Tree → List DraftEntry → List ℕ
unfolding table next_item
items_in tree entries = text_of_lines (normal_subsets table (next_item table tree) 1 (subsets_of entries))

unfoldable parse_lines : Form → Tree → Document → List ℕ
unfolding table next_item
parse_lines form tree d = normal form table tree d

-- The leading zero, the point and the zero after it are removed, and the comment is added.
point_and_zeros : parse_lines AsWritten (element 257 bare) (document 0 1 (257 ∷ []) (number 24 257 (codes "010.0") ∷ Ends 25 ∷ []))
    ≡ codes "message\nedition 4\nmaster 0\ncentre 98\nsubcentre 0\nupdate 0\ncategory 0\nsubcategory 0\nlocalsubcategory 0\nmasterversion 14\nlocalversion 0\nyear 2024\nmonth 1\nday 2\nhour 3\nminute 4\nsecond 5\nobserved 1\ncompressed 0\noptional 0\nsubsets 1\ndescriptors 001001\nsubset 1\n001001 10  # WMO BLOCK NUMBER [Numeric]\nend\n"
unfolding parse_lines document number keys leasts mosts header_lines runs_after hex_text descriptors_text digits decimal_text_of unsigned_text decimal_value_of
point_and_zeros = refl

-- The form determines the compression flag.
compressed_flag : header_as Compressed (1 ∷ 2 ∷ 3 ∷ 4 ∷ 5 ∷ 6 ∷ 7 ∷ 8 ∷ 9 ∷ 10 ∷ 11 ∷ 12 ∷ 13 ∷ 14 ∷ 15 ∷ 16 ∷ 17 ∷ 0 ∷ 19 ∷ 20 ∷ [])
    ≡ 1 ∷ 2 ∷ 3 ∷ 4 ∷ 5 ∷ 6 ∷ 7 ∷ 8 ∷ 9 ∷ 10 ∷ 11 ∷ 12 ∷ 13 ∷ 14 ∷ 15 ∷ 16 ∷ 17 ∷ 1 ∷ 19 ∷ 20 ∷ []
compressed_flag = refl

plain_flag : header_as Plain (1 ∷ 2 ∷ 3 ∷ 4 ∷ 5 ∷ 6 ∷ 7 ∷ 8 ∷ 9 ∷ 10 ∷ 11 ∷ 12 ∷ 13 ∷ 14 ∷ 15 ∷ 16 ∷ 17 ∷ 1 ∷ 19 ∷ 20 ∷ [])
    ≡ 1 ∷ 2 ∷ 3 ∷ 4 ∷ 5 ∷ 6 ∷ 7 ∷ 8 ∷ 9 ∷ 10 ∷ 11 ∷ 12 ∷ 13 ∷ 14 ∷ 15 ∷ 16 ∷ 17 ∷ 0 ∷ 19 ∷ 20 ∷ []
plain_flag = refl

normal_texts :
    -- Numbers have as many decimal places as their scale, and no leading zeros. Texts are padded
    -- with spaces.
    (items_in (element 3173 bare) (number 24 3173 (codes "0288.1") ∷ Ends 25 ∷ missing 26 3173 ∷ Ends 27 ∷ [])
    ≡ codes "subset 1\n012101 288.10  # AIR TEMPERATURE [K]\nsubset 2\n012101 MISSING  # AIR TEMPERATURE [K]\n")
    × (items_in (element 3173 bare) (number 24 3173 (codes "-0") ∷ Ends 25 ∷ []) ≡ codes "subset 1\n012101 0.00  # AIR TEMPERATURE [K]\n")
    × (items_in (element 271 bare) (Holds (draft 24 271 (text_form (codes "AB"))) ∷ Ends 25 ∷ []) ≡ codes "subset 1\n001015 \"AB  \"  # NAME [CCITT IA5]\n")
    -- The factor determines how many items follow.
    × (items_in (delayed 7937 (element 257 bare) bare) (number 24 7937 (codes "02") ∷ number 25 257 (codes "1.0") ∷ number 26 257 (codes "2") ∷ Ends 27 ∷ [])
    ≡ codes "subset 1\n031001 2  # FACTOR [Numeric]\n001001 1  # WMO BLOCK NUMBER [Numeric]\n001001 2  # WMO BLOCK NUMBER [Numeric]\n")
    -- 2 03 010: a redefined reference is written as a whole number
    × (items_in (operator 0x830A (element 3173 (operator 0x83FF bare))) (Holds (draft 24 3173 (reference_token (codes "-400.0"))) ∷ Ends 25 ∷ []) ≡ codes "subset 1\nR 012101 -400\n")
unfolding items_in number missing digits decimal_text_of unsigned_text decimal_value_of quoted
normal_texts = (refl, refl, refl, refl, refl)
