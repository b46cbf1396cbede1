-- Worked examples of the faults of a table. Each bound of a record is shown from both sides. If two
-- faults meet, the example shows which one is reported.
use Rattle.std.proofs.Common.{◌≡◌, ℕ, true, false, List, [], ◌∷◌, ◌++◌, length, replicate, codes, Some, None, is_some, Result, Ok, Err, refl, pos, negsuc}
use Rattle.std.specs.Prelude.{⊤}
use Rattle.csv.specs.Machine.{next_record}
use Rattle.csv.specs.Reading.{records_from, strip_bom}
use Rattle.csv.specs.Records.{field_at}
use Rattle.bufr_tables.specs.Prelude.{fxy_of, begins_with, kind_of, i64_of, natural_of, records_of, table_from, table_of, ◌>>=◌}
use Rattle.bufr_tables.specs.TableB as b
use Rattle.bufr_tables.specs.TableD as d
use Rattle.bufr_tables.specs.declared.fault.TableFault.{TableFault}
use Rattle.bufr_tables.specs.declared.fault.TableFault.TheVariants.{Header, Row, Duplicate, TableSize, Csv}
use Rattle.bufr_tables.specs.declared.table_b.Kind.TheVariants.{Character, Coded, Numeric}

-- the definitions that the examples unfold
unfoldable on_literals : ⊤
unfolding next_record records_from strip_bom field_at begins_with kind_of i64_of natural_of table_from table_of b.element_of b.plain_of b.scale_of b.width_of b.is_valid_factor b.row_of
    b.with_record_b d.sequence_of d.member_of d.added d.with_record_d
on_literals = tt

-- the number of elements in a text of Table B, or its fault
table_b : List ℕ → Result ℕ TableFault
unfolding on_literals
table_b text = b.table_b_of (records_of text) >>= λ rows. Ok (length rows)

-- the number of sequences in a text of Table D, or its fault, without a search for cycles
table_d : List ℕ → Result ℕ TableFault
unfolding on_literals
table_d text = d.table_d_of (records_of text) >>= λ sequences. Ok (length sequences)

-- the same for the records after the header
rows_b : List ℕ → Result ℕ TableFault
unfolding table_b
rows_b text = table_b (codes "fxy,name,unit,scale,reference,width\n" ++ text)

rows_d : List ℕ → Result ℕ TableFault
unfolding table_d
rows_d text = table_d (codes "fxy,member\n" ++ text)

-- ---- The header.

-- rule: fault-40
headers-of-b :
    (table_b (codes "fxy,name,unit,scale,reference,width\n") ≡ Ok 0)
    × (table_b [] ≡ Err Header)
    × (table_b (codes "\n") ≡ Err Header)
    × (table_b (codes "fxy,name,unit,scale,reference\n") ≡ Err Header)
    × (table_b (codes "fxy,name,unit,scale,reference,width,\n") ≡ Err Header)
    × (table_b (codes "fxy,name,unit,scale,reference,Width\n") ≡ Err Header)
    × (table_b (codes "fxy,name,unit,scale,width,reference\n") ≡ Err Header)
    × (table_b (codes "fxy,name,unit,scale,reference, width\n") ≡ Err Header)
    × (table_b (codes "001001,A,K,0,0,7\n") ≡ Err Header)
unfolding table_b
headers-of-b = (refl, refl, refl, refl, refl, refl, refl, refl, refl)

-- rule: fault-40
headers-of-d :
    (table_d (codes "fxy,member\n") ≡ Ok 0)
    × (table_d [] ≡ Err Header)
    × (table_d (codes "fxy\n") ≡ Err Header)
    × (table_d (codes "fxy,member,\n") ≡ Err Header)
    × (table_d (codes "fxy,members\n") ≡ Err Header)
    × (table_d (codes "300001,001001\n") ≡ Err Header)
unfolding table_d
headers-of-d = (refl, refl, refl, refl, refl, refl)

-- ---- The number of fields.

-- rule: fault-45
fields-of-a-record :
    (rows_b (codes "001001,A,K,0,0,7\n") ≡ Ok 1)
    × (rows_b (codes "001001,A,K,0,0\n") ≡ Err Csv)
    × (rows_b (codes "001001,A,K,0,0,7,\n") ≡ Err Csv)
    × (rows_d (codes "300001,001001\n") ≡ Ok 1)
    × (rows_d (codes "300001\n") ≡ Err Csv)
    × (rows_d (codes "300001,001001,\n") ≡ Err Csv)
unfolding rows_b rows_d
fields-of-a-record = (refl, refl, refl, refl, refl, refl)

-- ---- Descriptors: six digits, F at most 3, X at most 63, Y at most 255.

-- rule: descriptor-fxy, reading-descriptor
descriptors-that-fit :
    (fxy_of (codes "363255") ≡ Some 65535)
    × (fxy_of (codes "000000") ≡ Some 0)
    × (fxy_of (codes "463255") ≡ None)
    × (fxy_of (codes "364255") ≡ None)
    × (fxy_of (codes "363256") ≡ None)
    × (fxy_of (codes "300900") ≡ None)
descriptors-that-fit = (refl, refl, refl, refl, refl, refl)

-- rule: descriptor-fxy, reading-descriptor
digits-of-a-descriptor :
    (fxy_of [] ≡ None)
    × (fxy_of (codes "01210") ≡ None)
    × (fxy_of (codes "0121010") ≡ None)
    × (fxy_of (codes "01210/") ≡ None)
    × (fxy_of (codes "01210:") ≡ None)
    × (fxy_of (codes "/01001") ≡ None)
    × (fxy_of (codes "-01001") ≡ None)
    × (fxy_of (codes " 01001") ≡ None)
digits-of-a-descriptor = (refl, refl, refl, refl, refl, refl, refl, refl)

-- F is 0 in Table B and 3 in Table D; a member may have any F.
-- rule: fault-41-of-table-b
descriptors-of-b :
    (rows_b (codes "000000,A,K,0,0,7\n063255,A,K,0,0,7\n") ≡ Ok 2)
    × (rows_b (codes "101001,A,K,0,0,7\n") ≡ Err (Row 2))
    × (rows_b (codes "201001,A,K,0,0,7\n") ≡ Err (Row 2))
    × (rows_b (codes "301001,A,K,0,0,7\n") ≡ Err (Row 2))
    × (rows_b (codes "064001,A,K,0,0,7\n") ≡ Err (Row 2))
unfolding rows_b
descriptors-of-b = (refl, refl, refl, refl, refl)

-- rule: fault-41-of-table-d
descriptors-of-d :
    (rows_d (codes "300000,001001\n363255,001001\n") ≡ Ok 2)
    × (rows_d (codes "200001,001001\n") ≡ Err (Row 2))
    × (rows_d (codes "100001,001001\n") ≡ Err (Row 2))
    × (rows_d (codes "000001,001001\n") ≡ Err (Row 2))
    × (rows_d (codes "400001,001001\n") ≡ Err (Row 2))
    × (rows_d (codes "364001,001001\n") ≡ Err (Row 2))
unfolding rows_d
descriptors-of-d = (refl, refl, refl, refl, refl, refl)

-- rule: fault-41-of-table-d
members-of-d :
    (rows_d (codes "300001,000000\n300001,163255\n300001,263255\n300001,363255\n") ≡ Ok 1)
    × (rows_d (codes "300001,400000\n") ≡ Err (Row 2))
    × (rows_d (codes "300001,01001\n") ≡ Err (Row 2))
    × (rows_d (codes "300001,\n") ≡ Err (Row 2))
unfolding rows_d
members-of-d = (refl, refl, refl, refl)

-- ---- Names and units: at most 512 octets, none of them a control character.

-- rule: fault-41-of-table-b
lengths-of-names :
    (is_some (b.plain_of (replicate 512 120)) ≡ true)
    × (is_some (b.plain_of (replicate 513 120)) ≡ false)
    × (is_some (b.plain_of []) ≡ true)
unfolding on_literals
lengths-of-names = (refl, refl, refl)

-- rule: fault-41-of-table-b
octets-of-names :
    (rows_b (codes "001001," ++ 32 ∷ 126 ∷ 128 ∷ 255 ∷ codes ",K,0,0,7\n") ≡ Ok 1)
    × (rows_b (codes "001001," ++ 31 ∷ codes ",K,0,0,7\n") ≡ Err (Row 2))
    × (rows_b (codes "001001," ++ 127 ∷ codes ",K,0,0,7\n") ≡ Err (Row 2))
    × (rows_b (codes "001001,A" ++ 9 ∷ codes "B,K,0,0,7\n") ≡ Err (Row 2))
unfolding rows_b
octets-of-names = (refl, refl, refl, refl)

-- rule: fault-41-of-table-b
octets-of-units :
    (rows_b (codes "001001,A," ++ 32 ∷ 126 ∷ 128 ∷ 255 ∷ codes ",0,0,7\n") ≡ Ok 1)
    × (rows_b (codes "001001,A," ++ 31 ∷ codes ",0,0,7\n") ≡ Err (Row 2))
    × (rows_b (codes "001001,A," ++ 127 ∷ codes ",0,0,7\n") ≡ Err (Row 2))
unfolding rows_b
octets-of-units = (refl, refl, refl)

-- ---- Scale, reference and width.

-- an optional minus sign and at least one digit
-- rule: fault-41-of-table-b
numbers-of-a-row :
    (i64_of (codes "0") ≡ Some (pos 0))
    × (i64_of (codes "-9") ≡ Some (negsuc 8))
    × (i64_of (codes "0007") ≡ Some (pos 7))
    × (i64_of [] ≡ None)
    × (i64_of (codes "-") ≡ None)
    × (i64_of (codes "--1") ≡ None)
    × (i64_of (codes "+7") ≡ None)
    × (i64_of (codes " 7") ≡ None)
    × (i64_of (codes "7 ") ≡ None)
    × (i64_of (codes "1.0") ≡ None)
unfolding on_literals
numbers-of-a-row = (refl, refl, refl, refl, refl, refl, refl, refl, refl, refl)

-- rule: fault-41-of-table-b
scales :
    (rows_b (codes "001001,A,K,127,0,7\n") ≡ Ok 1)
    × (rows_b (codes "001001,A,K,-127,0,7\n") ≡ Ok 1)
    × (rows_b (codes "001001,A,K,128,0,7\n") ≡ Err (Row 2))
    × (rows_b (codes "001001,A,K,-128,0,7\n") ≡ Err (Row 2))
    × (rows_b (codes "001001,A,CCITT IA5,128,0,8\n") ≡ Err (Row 2))
unfolding rows_b
scales = (refl, refl, refl, refl, refl)

-- rule: fault-41-of-table-b
references :
    (rows_b (codes "001001,A,K,0,9223372036854775807,7\n") ≡ Ok 1)
    × (rows_b (codes "001001,A,K,0,-9223372036854775808,7\n") ≡ Ok 1)
    × (rows_b (codes "001001,A,K,0,9223372036854775808,7\n") ≡ Err (Row 2))
    × (rows_b (codes "001001,A,K,0,-9223372036854775809,7\n") ≡ Err (Row 2))
    × (rows_b (codes "001001,A,CCITT IA5,0,x,8\n") ≡ Err (Row 2))
unfolding rows_b
references = (refl, refl, refl, refl, refl)

-- rule: fault-41-of-table-b
widths-of-numbers :
    (rows_b (codes "001001,A,K,0,0,1\n") ≡ Ok 1)
    × (rows_b (codes "001001,A,K,0,0,63\n") ≡ Ok 1)
    × (rows_b (codes "001001,A,K,0,0,0\n") ≡ Err (Row 2))
    × (rows_b (codes "001001,A,K,0,0,-7\n") ≡ Err (Row 2))
    × (rows_b (codes "001001,A,K,0,0,64\n") ≡ Err (Row 2))
unfolding rows_b
widths-of-numbers = (refl, refl, refl, refl, refl)

-- rule: fault-41-of-table-b
widths-of-figures :
    (rows_b (codes "001001,A,Code table,0,0,1\n") ≡ Ok 1)
    × (rows_b (codes "001001,A,Flag table,0,0,63\n") ≡ Ok 1)
    × (rows_b (codes "001001,A,Code table,0,0,0\n") ≡ Err (Row 2))
    × (rows_b (codes "001001,A,Flag table,0,0,64\n") ≡ Err (Row 2))
unfolding rows_b
widths-of-figures = (refl, refl, refl, refl)

-- 1 to 255 whole octets
-- rule: fault-41-of-table-b
widths-of-texts :
    (rows_b (codes "001001,A,CCITT IA5,0,0,8\n") ≡ Ok 1)
    × (rows_b (codes "001001,A,CCITT IA5,0,0,2040\n") ≡ Ok 1)
    × (rows_b (codes "001001,A,CCITT IA5,0,0,0\n") ≡ Err (Row 2))
    × (rows_b (codes "001001,A,CCITT IA5,0,0,-8\n") ≡ Err (Row 2))
    × (rows_b (codes "001001,A,CCITT IA5,0,0,2048\n") ≡ Err (Row 2))
    × (rows_b (codes "001001,A,CCITT IA5,0,0,12\n") ≡ Err (Row 2))
    × (rows_b (codes "001001,A,CCITT IA5,0,0,9\n") ≡ Err (Row 2))
    × (rows_b (codes "001001,A,CCITT IA5,0,0,15\n") ≡ Err (Row 2))
unfolding rows_b
widths-of-texts = (refl, refl, refl, refl, refl, refl, refl, refl)

-- The whole unit decides whether an element is text. Its first words decide whether it is coded.
-- rule: kind-by-unit
kinds-of-units :
    (kind_of (codes "CCITT IA5") ≡ Character)
    × (kind_of (codes "ccitt ia5") ≡ Character)
    × (kind_of (codes "CCITT IA5 ") ≡ Numeric)
    × (kind_of (codes "CCITT IA") ≡ Numeric)
    × (kind_of (codes "Code table") ≡ Coded)
    × (kind_of (codes "CODE TABLE 4") ≡ Coded)
    × (kind_of (codes "Code tabl") ≡ Numeric)
    × (kind_of (codes " Code table") ≡ Numeric)
unfolding on_literals
kinds-of-units = (refl, refl, refl, refl, refl, refl, refl, refl)

-- rule: kind-by-unit
kinds-of-figures :
    (kind_of (codes "Flag table") ≡ Coded)
    × (kind_of (codes "flag tables") ≡ Coded)
    × (kind_of (codes "Flag tabl") ≡ Numeric)
    × (kind_of (codes "Common code table") ≡ Coded)
    × (kind_of (codes "common code table C-1") ≡ Coded)
    × (kind_of (codes "Common code tabl") ≡ Numeric)
    × (kind_of [] ≡ Numeric)
unfolding on_literals
kinds-of-figures = (refl, refl, refl, refl, refl, refl, refl)

-- ---- The rows of the factors: 0 31 000, 0 31 001 and 0 31 002.

-- rule: fault-41-of-table-b
widths-of-factors :
    (rows_b (codes "031000,A,K,0,0,1\n031001,A,K,0,0,8\n031002,A,K,0,0,16\n031003,A,K,0,0,9\n") ≡ Ok 4)
    × (rows_b (codes "031000,A,K,0,0,2\n") ≡ Err (Row 2))
    × (rows_b (codes "031001,A,K,0,0,7\n") ≡ Err (Row 2))
    × (rows_b (codes "031001,A,K,0,0,9\n") ≡ Err (Row 2))
    × (rows_b (codes "031002,A,K,0,0,15\n") ≡ Err (Row 2))
    × (rows_b (codes "031002,A,K,0,0,17\n") ≡ Err (Row 2))
    × (rows_b (codes "030001,A,K,0,0,7\n032001,A,K,0,0,7\n") ≡ Ok 2)
unfolding rows_b
widths-of-factors = (refl, refl, refl, refl, refl, refl, refl)

-- Scale and reference are zero, and a factor is not text.
-- rule: fault-41-of-table-b
rows-of-factors :
    (rows_b (codes "031001,A,Code table,0,0,8\n") ≡ Ok 1)
    × (rows_b (codes "031001,A,K,-0,-0,8\n") ≡ Ok 1)
    × (rows_b (codes "031001,A,K,1,0,8\n") ≡ Err (Row 2))
    × (rows_b (codes "031001,A,K,-1,0,8\n") ≡ Err (Row 2))
    × (rows_b (codes "031001,A,K,0,1,8\n") ≡ Err (Row 2))
    × (rows_b (codes "031001,A,K,0,-1,8\n") ≡ Err (Row 2))
    × (rows_b (codes "031001,A,CCITT IA5,0,0,8\n") ≡ Err (Row 2))
    × (rows_b (codes "031003,A,K,1,1,8\n") ≡ Ok 1)
unfolding rows_b
rows-of-factors = (refl, refl, refl, refl, refl, refl, refl, refl)

-- ---- A second row of an element, and a second run of rows of a sequence.

-- rule: fault-42
elements-twice :
    (rows_b (codes "001001,A,K,0,0,7\n001002,A,K,0,0,7\n") ≡ Ok 2)
    × (rows_b (codes "001002,A,K,0,0,7\n001001,A,K,0,0,7\n") ≡ Ok 2)
    × (rows_b (codes "001001,A,K,0,0,7\n001001,B,m,1,1,9\n") ≡ Err (Duplicate 0x0101))
    × (rows_b (codes "001001,A,K,0,0,7\n001002,A,K,0,0,7\n001001,A,K,0,0,7\n") ≡ Err (Duplicate 0x0101))
    × (rows_b (codes "001001,A,K,0,0,7\n001002,A,K,0,0,7\n001002,A,K,0,0,7\n") ≡ Err (Duplicate 0x0102))
unfolding rows_b
elements-twice = (refl, refl, refl, refl, refl)

-- rule: fault-42
runs-twice :
    (rows_d (codes "300001,001001\n300001,001001\n300002,001001\n") ≡ Ok 2)
    × (rows_d (codes "300001,001001\n300002,001001\n300001,001002\n") ≡ Err (Duplicate 0xC001))
unfolding rows_d
runs-twice = (refl, refl)

-- ---- At most 65,536 rows of Table D: the last of them is record 65,537.

-- rule: fault-44
rows-of-d :
    (d.with_record_d 65537 [] (codes "300001" ∷ codes "001001" ∷ []) ≡ Ok (record { fxy = 0xC001; members = 0x0101 ∷ [] } ∷ []))
    × (d.with_record_d 65538 [] (codes "300001" ∷ codes "001001" ∷ []) ≡ Err TableSize)
unfolding on_literals
rows-of-d = (refl, refl)

-- ---- Two faults in one record: 45, then 41, then 42, then 44.

-- rule: order-in-a-record
fields-before-row :
    (rows_b (codes "101001,A,K,0,0\n") ≡ Err Csv)
    × (rows_b (codes "001001,A,K,0,0,64,\n") ≡ Err Csv)
    × (rows_d (codes "x\n") ≡ Err Csv)
    × (rows_d (codes "300001,x,\n") ≡ Err Csv)
unfolding rows_b rows_d
fields-before-row = (refl, refl, refl, refl)

-- rule: order-in-a-record
fields-before-duplicate :
    (rows_b (codes "001001,A,K,0,0,7\n001001,A,K,0,0,7,\n") ≡ Err Csv)
    × (rows_d (codes "300001,001001\n300002,001001\n300001,001001,\n") ≡ Err Csv)
unfolding rows_b rows_d
fields-before-duplicate = (refl, refl)

-- rule: order-in-a-record
row-before-duplicate :
    (rows_b (codes "001001,A,K,0,0,7\n001001,A,K,0,0,64\n") ≡ Err (Row 3))
    × (rows_d (codes "300001,001001\n300002,001001\n300001,x\n") ≡ Err (Row 4))
unfolding rows_b rows_d
row-before-duplicate = (refl, refl)

-- a table with the sequences 3 00 001 and 3 00 002, to which the records are added
abbrev two_sequences : List d.Sequence
two_sequences = record { fxy = 0xC001; members = 0x0101 ∷ [] } ∷ record { fxy = 0xC002; members = 0x0101 ∷ [] } ∷ []

-- rule: order-in-a-record
others-before-size :
    (d.with_record_d 65538 two_sequences (codes "300003" ∷ codes "001001" ∷ []) ≡ Err TableSize)
    × (d.with_record_d 65538 two_sequences (codes "300003" ∷ []) ≡ Err Csv)
    × (d.with_record_d 65538 two_sequences (codes "300003" ∷ codes "x" ∷ []) ≡ Err (Row 65538))
    × (d.with_record_d 65538 two_sequences (codes "300001" ∷ codes "001001" ∷ []) ≡ Err (Duplicate 0xC001))
unfolding on_literals
others-before-size = (refl, refl, refl, refl)

-- ---- Faults in several records: the header is checked first, then each record. An empty line is
-- not a record.

-- rule: first-record-decides
first-record-at-fault :
    (table_b (codes "fxy,name,unit,scale,reference,Width\n001001,A\n") ≡ Err Header)
    × (rows_b (codes "001001,A,K,0,0,64\n001001,A\n") ≡ Err (Row 2))
    × (rows_b (codes "001001,A\n001001,A,K,0,0,64\n") ≡ Err Csv)
    × (rows_b (codes "001001,A,K,0,0,7\n001001,A,K,0,0,7\n001002,A,K,0,0,64\n") ≡ Err (Duplicate 0x0101))
    × (rows_b (codes "001001,A,K,0,0,7\n\n\n001002,A,K,0,0,x\n") ≡ Err (Row 3))
    × (rows_d (codes "300001,x\n300001\n") ≡ Err (Row 2))
unfolding table_b rows_b rows_d
first-record-at-fault = (refl, refl, refl, refl, refl, refl)

-- The search for cycles comes last: an invalid record after the rows of a cycle is reported.
-- rule: fault-43-last
records-before-cycle :
    (rows_d (codes "300001,300001\n") ≡ Ok 1)
    × (rows_d (codes "300001,300001\n300002,x\n") ≡ Err (Row 3))
    × (rows_d (codes "300001,300001\n300002\n") ≡ Err Csv)
    × (rows_d (codes "300001,300001\n300002,001001\n300001,001001\n") ≡ Err (Duplicate 0xC001))
unfolding rows_d
records-before-cycle = (refl, refl, refl, refl)
