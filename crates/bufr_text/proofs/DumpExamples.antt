-- Worked examples of dump texts, computed from the definitions.
use Rattle.std.proofs.Common.{◌≡◌, ℕ, true, false, List, [], ◌∷◌, ◌++◌, refl, codes, Bool, Result, Ok, Err, ℤ, pos, negsuc, map, replicate}
use Rattle.std.specs.Fmt.{digits}
use Rattle.bufr_bits.specs.Prelude.{decimal_text_of, unsigned_text}
use Rattle.bufr_tables.specs.declared.table_b.Kind.{Kind}
use Rattle.bufr_tables.specs.declared.table_b.Kind.TheVariants as kind
use Rattle.bufr_tables.specs.Prelude.{Row}
use Rattle.bufr_frame.specs.Prelude.{min_section_1, Sections, sections_of, section_end}
use Rattle.bufr_frame.specs.declared.fault.SectionFault.{SectionFault}
use Rattle.bufr_walk.specs.declared.spec.Role.{Role}
use Rattle.bufr_walk.specs.declared.spec.Role.TheVariants as role
use Rattle.bufr_walk.specs.Prelude.{FieldSpec, Content, number, text, missing, reference, view_of, Item, Values, apart, together}
use Rattle.bufr_text.specs.Prelude.{leasts, mosts, runs_after, runs_of, hex_text, descriptors_text, quoted, keys, header_lines, local1_line, descriptors_line, subset_lines, dump_text_of, item_text, text_of_lines, dump_items}

unfoldable listed : (fxy : ℕ) → (name unit : List ℕ) → Kind → (width : ℕ) → Row
listed fxy name unit k width = record { fxy = fxy; name = name; unit = unit; kind = k; scale = pos 0; reference = pos 0; width = width }

-- block number, name, latitude, temperature, present weather and factor; the examples do not use
-- the scales, references and widths of these rows, because their specs have their own
unfoldable table : List Row
unfolding listed
table =
    listed 257 (codes "WMO BLOCK NUMBER") (codes "Numeric") kind.Numeric 7
    ∷ listed 271 (codes "STATION OR SITE NAME") (codes "CCITT IA5") kind.Character 160
    ∷ listed 1282 (codes "LATITUDE (COARSE ACCURACY)") (codes "degree") kind.Numeric 15
    ∷ listed 3173 (codes "AIR TEMPERATURE") (codes "K") kind.Numeric 16
    ∷ listed 5123 (codes "PRESENT WEATHER") (codes "Code table") kind.Coded 9
    ∷ listed 7937 (codes "DELAYED DESCRIPTOR REPLICATION FACTOR") (codes "Numeric") kind.Numeric 8
    ∷ []

-- the spec of a field with this scale and reference; the flag says whether the field was read by
-- its row
abbrev asked : (fxy : ℕ) → Role → Kind → (scale base : ℤ) → Bool → FieldSpec
asked fxy r k scale base listed = record { fxy = fxy; role = r; kind = k; width = 16; scale = scale; reference = base; may_be_missing = true; listed = listed }

-- the line of an item with this spec and content
unfoldable line : FieldSpec → Content → List ℕ
unfolding table
line spec content = item_text (view_of table spec content)

-- the dump text of a message with these values; empty if the message is invalid
abbrev text_in : Result Sections SectionFault → Values → List ℕ
text_in (Ok s) values = dump_text_of s (dump_items table s.subsets values)
text_in (Err why) values = []

unfoldable dumped : List ℕ → Values → List ℕ
unfolding table sections_of section_end min_section_1
dumped octets values = text_in (sections_of octets) values

item : {C : Type 0} → FieldSpec → C → Item C
item spec content = record { spec = spec; content = content }

block_number : Item Content
unfolding item
block_number = item (asked 257 role.Element kind.Numeric (pos 0) (pos 0) true) (number 10)

temperatures : Item (List Content)
unfolding item
temperatures = item (asked 3173 role.Element kind.Numeric (pos 2) (pos 0) true) (number 28815 ∷ missing ∷ [])

-- rule: text-comment, text-number, text-reference, text-missing, text-no-comment, text-inserted
-- rule: text-escapes, text-quoted, text-lines-in-order, text-header, text-subset, text-section2
-- rule: text-hexadecimal, text-local1, text-descriptors
texts_dumped :
    (line (asked 257 role.Element kind.Numeric (pos 0) (pos 0) true) (number 10) ≡ codes "001001 10  # WMO BLOCK NUMBER [Numeric]")
    -- Zeros at the end are kept.
    × (line (asked 3173 role.Element kind.Numeric (pos 2) (pos 0) true) (number 28800) ≡ codes "012101 288.00  # AIR TEMPERATURE [K]")
    × (line (asked 7937 role.Factor kind.Numeric (pos 0) (pos 0) true) (number 2) ≡ codes "031001 2  # DELAYED DESCRIPTOR REPLICATION FACTOR [Numeric]")
    -- A redefined reference has the mark `R` and no comment.
    × (line (asked 3173 role.Reference kind.Numeric (pos 0) (pos 0) false) (reference (negsuc 399)) ≡ codes "R 012101 -400")
    × (line (asked 3173 role.Element kind.Numeric (pos 2) (negsuc 399) true) (number 28815) ≡ codes "012101 284.15  # AIR TEMPERATURE [K]")
    × (line (asked 1282 role.Element kind.Numeric (pos 2) (negsuc 8999) true) (number 8995) ≡ codes "005002 -0.05  # LATITUDE (COARSE ACCURACY) [degree]")
    -- a negative scale
    × (line (asked 3173 role.Element kind.Numeric (negsuc 1) (pos 0) true) (number 288) ≡ codes "012101 28800  # AIR TEMPERATURE [K]")
    × (line (asked 5123 role.Element kind.Coded (pos 0) (pos 0) true) (number 5) ≡ codes "020003 5  # PRESENT WEATHER [Code table]")
    -- A missing item also has a comment.
    × (line (asked 3173 role.Element kind.Numeric (pos 2) (pos 0) true) (missing) ≡ codes "012101 MISSING  # AIR TEMPERATURE [K]")
    -- An element without a row has no comment. Neither has an element that was read with another
    -- width.
    × (line (asked 16383 role.Element kind.Numeric (pos 0) (pos 0) false) (number 245) ≡ codes "063255 245")
    × (line (asked 257 role.Element kind.Numeric (pos 0) (pos 0) false) (number 245) ≡ codes "001001 245")
    -- a quote, a backslash, and octets that are not printed
    × (line (asked 34052 role.Inserted kind.Character (pos 0) (pos 0) false) (text (34 ∷ 92 ∷ 10 ∷ 254 ∷ [])) ≡ codes "205004 \"\\\"\\\\\\x0A\\xFE\"")
    -- Spaces at the end are kept.
    × (line (asked 271 role.Element kind.Character (pos 0) (pos 0) true) (text (codes "ABC " ++ replicate 3 32)) ≡ codes "001015 \"ABC    \"  # STATION OR SITE NAME [CCITT IA5]")
    × (line (asked 34052 role.Inserted kind.Character (pos 0) (pos 0) false) (text (31 ∷ 32 ∷ 126 ∷ 127 ∷ [])) ≡ codes "205004 \"\\x1F ~\\x7F\"")
    -- a message of 48 octets with one block number, and the 25 lines of its dump text
    × (dumped
    (0x42 ∷ 0x55 ∷ 0x46 ∷ 0x52 ∷ 0x00 ∷ 0x00 ∷ 0x30 ∷ 0x04 ∷
    0x00 ∷ 0x00 ∷ 0x16 ∷ 0x00 ∷ 0x00 ∷ 0x62 ∷ 0x00 ∷ 0x00 ∷ 0x00 ∷ 0x00 ∷ 0x00 ∷ 0x00 ∷ 0x00 ∷ 0x0E ∷ 0x00 ∷ 0x07 ∷ 0xE8 ∷ 0x01 ∷ 0x02 ∷ 0x03 ∷ 0x04 ∷ 0x05 ∷
    0x00 ∷ 0x00 ∷ 0x09 ∷ 0x00 ∷ 0x00 ∷ 0x01 ∷ 0x80 ∷ 0x01 ∷ 0x01 ∷
    0x00 ∷ 0x00 ∷ 0x05 ∷ 0x00 ∷ 0x14 ∷
    0x37 ∷ 0x37 ∷ 0x37 ∷ 0x37 ∷ []) (apart ((block_number ∷ []) ∷ []))
    ≡ codes "message\nedition 4\nmaster 0\ncentre 98\nsubcentre 0\nupdate 0\ncategory 0\nsubcategory 0\nlocalsubcategory 0\nmasterversion 14\nlocalversion 0\nyear 2024\nmonth 1\nday 2\nhour 3\nminute 4\nsecond 5\nobserved 1\ncompressed 0\noptional 0\nsubsets 1\ndescriptors 001001\nsubset 1\n001001 10  # WMO BLOCK NUMBER [Numeric]\nend\n")
    -- compressed data: each subset has its own value
    × (dumped
    (0x42 ∷ 0x55 ∷ 0x46 ∷ 0x52 ∷ 0x00 ∷ 0x00 ∷ 0x32 ∷ 0x04 ∷
    0x00 ∷ 0x00 ∷ 0x16 ∷ 0x00 ∷ 0x00 ∷ 0x62 ∷ 0x00 ∷ 0x00 ∷ 0x00 ∷ 0x00 ∷ 0x00 ∷ 0x00 ∷ 0x00 ∷ 0x0E ∷ 0x00 ∷ 0x07 ∷ 0xE8 ∷ 0x01 ∷ 0x02 ∷ 0x03 ∷ 0x04 ∷ 0x05 ∷
    0x00 ∷ 0x00 ∷ 0x09 ∷ 0x00 ∷ 0x00 ∷ 0x02 ∷ 0xC0 ∷ 0x0C ∷ 0x65 ∷
    0x00 ∷ 0x00 ∷ 0x07 ∷ 0x00 ∷ 0x70 ∷ 0x8F ∷ 0x05 ∷
    0x37 ∷ 0x37 ∷ 0x37 ∷ 0x37 ∷ []) (together (temperatures ∷ []))
    ≡ codes "message\nedition 4\nmaster 0\ncentre 98\nsubcentre 0\nupdate 0\ncategory 0\nsubcategory 0\nlocalsubcategory 0\nmasterversion 14\nlocalversion 0\nyear 2024\nmonth 1\nday 2\nhour 3\nminute 4\nsecond 5\nobserved 1\ncompressed 1\noptional 0\nsubsets 2\ndescriptors 012101\nsubset 1\n012101 288.15  # AIR TEMPERATURE [K]\nsubset 2\n012101 MISSING  # AIR TEMPERATURE [K]\nend\n")
    -- octets for local use in section 1, and a section 2
    × (dumped
    (0x42 ∷ 0x55 ∷ 0x46 ∷ 0x52 ∷ 0x00 ∷ 0x00 ∷ 0x38 ∷ 0x04 ∷
    0x00 ∷ 0x00 ∷ 0x18 ∷ 0x00 ∷ 0x00 ∷ 0x62 ∷ 0x00 ∷ 0x00 ∷ 0x00 ∷ 0x80 ∷ 0x00 ∷ 0x00 ∷ 0x00 ∷ 0x0E ∷ 0x00 ∷ 0x07 ∷ 0xE8 ∷ 0x01 ∷ 0x02 ∷ 0x03 ∷ 0x04 ∷ 0x05 ∷ 0xAB ∷ 0xCD ∷
    0x00 ∷ 0x00 ∷ 0x06 ∷ 0x00 ∷ 0x01 ∷ 0x02 ∷
    0x00 ∷ 0x00 ∷ 0x09 ∷ 0x00 ∷ 0x00 ∷ 0x01 ∷ 0x80 ∷ 0x01 ∷ 0x01 ∷
    0x00 ∷ 0x00 ∷ 0x05 ∷ 0x00 ∷ 0x14 ∷
    0x37 ∷ 0x37 ∷ 0x37 ∷ 0x37 ∷ []) (apart ((block_number ∷ []) ∷ []))
    ≡ codes "message\nedition 4\nmaster 0\ncentre 98\nsubcentre 0\nupdate 0\ncategory 0\nsubcategory 0\nlocalsubcategory 0\nmasterversion 14\nlocalversion 0\nyear 2024\nmonth 1\nday 2\nhour 3\nminute 4\nsecond 5\nobserved 1\ncompressed 0\noptional 1\nsubsets 1\nlocal1 ABCD\nsection2 0102\ndescriptors 001001\nsubset 1\n001001 10  # WMO BLOCK NUMBER [Numeric]\nend\n")
    -- There are no items if there are no subsets.
    × (dumped
    (0x42 ∷ 0x55 ∷ 0x46 ∷ 0x52 ∷ 0x00 ∷ 0x00 ∷ 0x2F ∷ 0x04 ∷
    0x00 ∷ 0x00 ∷ 0x16 ∷ 0x00 ∷ 0x00 ∷ 0x62 ∷ 0x00 ∷ 0x00 ∷ 0x00 ∷ 0x00 ∷ 0x00 ∷ 0x00 ∷ 0x00 ∷ 0x0E ∷ 0x00 ∷ 0x07 ∷ 0xE8 ∷ 0x01 ∷ 0x02 ∷ 0x03 ∷ 0x04 ∷ 0x05 ∷
    0x00 ∷ 0x00 ∷ 0x09 ∷ 0x00 ∷ 0x00 ∷ 0x00 ∷ 0x80 ∷ 0x01 ∷ 0x01 ∷
    0x00 ∷ 0x00 ∷ 0x04 ∷ 0x00 ∷
    0x37 ∷ 0x37 ∷ 0x37 ∷ 0x37 ∷ []) (apart [])
    ≡ codes "message\nedition 4\nmaster 0\ncentre 98\nsubcentre 0\nupdate 0\ncategory 0\nsubcategory 0\nlocalsubcategory 0\nmasterversion 14\nlocalversion 0\nyear 2024\nmonth 1\nday 2\nhour 3\nminute 4\nsecond 5\nobserved 1\ncompressed 0\noptional 0\nsubsets 0\ndescriptors 001001\nend\n")
    -- 33 octets, or nine descriptors, are written on two lines.
    × (text_of_lines (map local1_line (runs_of 32 (replicate 33 171)) ++ map descriptors_line (runs_of 8 (replicate 9 257)))
    ≡ codes "local1 ABABABABABABABABABABABABABABABABABABABABABABABABABABABABABABABAB\nlocal1 AB\ndescriptors 001001 001001 001001 001001 001001 001001 001001 001001\ndescriptors 001001\n")
unfolding line digits decimal_text_of unsigned_text quoted dumped block_number item table keys leasts mosts header_lines subset_lines runs_after hex_text descriptors_text temperatures
texts_dumped = (refl, refl, refl, refl, refl, refl, refl, refl, refl, refl, refl, refl, refl, refl, refl, refl, refl, refl, refl)
