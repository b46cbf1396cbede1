-- Worked examples, computed from the definitions.
use Rattle.std.proofs.Common.{◌≡◌, ℕ, ◌∷◌, [], ◌++◌, List, codes, refl, Some, None, Ok, Err, pos, negsuc, arith, lit<}
use Rattle.std.specs.Prelude.{⊤}
use Rattle.csv.specs.Machine.{next_record}
use Rattle.csv.specs.Reading.{records_from, strip_bom}
use Rattle.csv.specs.Records.{field_at}
use Rattle.bufr_tables.specs.Prelude.{IsFirstCycle, Leads, one, more, fxy_of, fxy_text, begins_with, kind_of, i64_of, natural_of, records_of, table_from, table_of}
use Rattle.bufr_tables.specs.TableB as b
use Rattle.bufr_tables.specs.TableD as d
use Rattle.bufr_tables.specs.declared.fault.TableFault.TheVariants.{Header, Row, Duplicate, TableSize, Csv}
use Rattle.bufr_tables.specs.declared.table_b.Kind.TheVariants.{Character, Coded, Numeric}

-- the definitions that the examples unfold
unfoldable on_literals : ⊤
unfolding next_record records_from strip_bom field_at begins_with kind_of i64_of natural_of table_from table_of b.element_of b.plain_of b.scale_of b.width_of b.is_valid_factor b.row_of
    b.with_record_b d.sequence_of d.member_of d.added d.with_record_d
on_literals = tt

-- rule: descriptor-fxy
descriptors :
    (fxy_text 0x0C65 ≡ codes "012101")
    × (fxy_of (codes "012101") ≡ Some 0x0C65)
    × (fxy_of (codes "363255") ≡ Some 0xFFFF)
    × (fxy_of (codes "064001") ≡ None)
    × (fxy_of (codes "01210") ≡ None)
descriptors = (refl, refl, refl, refl, refl)

-- rule: kind-by-unit
kinds :
    (kind_of (codes "ccitt ia5") ≡ Character)
    × (kind_of (codes "Code table 0 20 003") ≡ Coded)
    × (kind_of (codes "K") ≡ Numeric)
unfolding on_literals
kinds = (refl, refl, refl)

numbers :
    (i64_of (codes "-0") ≡ Some (pos 0))
    × (i64_of (codes "-9223372036854775808") ≡ Some (negsuc 9223372036854775807))
    × (i64_of (codes "-9223372036854775809") ≡ None)
    × (i64_of (codes "+7") ≡ None)
unfolding on_literals
numbers = (refl, refl, refl, refl)

-- the header of Table B
abbrev header_b : List ℕ
header_b = codes "fxy,name,unit,scale,reference,width\n"

two-elements : b.table_b_of (records_of (header_b ++ codes "005002,LATITUDE (COARSE ACCURACY),degree,2,-9000,15\n001015,STATION OR SITE NAME,CCITT IA5,0,0,160\n"))
    ≡ Ok (
    record { fxy = 0x0502; name = codes "LATITUDE (COARSE ACCURACY)"; unit = codes "degree"; kind = Numeric; scale = pos 2; reference = negsuc 8999; width = 15 }
    ∷ record { fxy = 0x010F; name = codes "STATION OR SITE NAME"; unit = codes "CCITT IA5"; kind = Character; scale = pos 0; reference = pos 0; width = 160 }
    ∷ []
    )
unfolding on_literals
two-elements = refl

-- rule: fault-40, fault-45, fault-41-of-table-b, fault-42
faults-b :
    (b.table_b_of (records_of []) ≡ Err Header)
    × (b.table_b_of (records_of (header_b ++ codes "001001,A,K,0,0\n")) ≡ Err Csv)
    × (b.table_b_of (records_of (header_b ++ codes "001001,A,K,0,0,64\n")) ≡ Err (Row 2))
    × (b.table_b_of (records_of (header_b ++ codes "001001,A,ccitt ia5,0,0,12\n")) ≡ Err (Row 2))
    × (b.table_b_of (records_of (header_b ++ codes "001001,\"A\nB\",K,0,0,7\n")) ≡ Err (Row 2))
    × (b.table_b_of (records_of (header_b ++ codes "001001,A,K,0,0,7\n001001,A,K,0,0,7\n")) ≡ Err (Duplicate 0x0101))
    × (b.table_b_of (records_of (header_b ++ codes "031002,A,Numeric,0,0,8\n")) ≡ Err (Row 2))
unfolding on_literals
faults-b = (refl, refl, refl, refl, refl, refl, refl)

-- the header of Table D
abbrev header_d : List ℕ
header_d = codes "fxy,member\n"

one-sequence : d.table_d_of (records_of (header_d ++ codes "360192,001001\n360192,012101\n")) ≡ Ok (record { fxy = 0xFCC0; members = 0x0101 ∷ 0x0C65 ∷ [] } ∷ [])
unfolding on_literals
one-sequence = refl

-- rule: fault-42, fault-43-last, fault-44
faults-d :
    (d.table_d_of (records_of (header_d ++ codes "300001,300002\n300002,300001\n300001,001001\n")) ≡ Err (Duplicate 0xC001))
    × (d.with_record_d 65537 [] (codes "300001" ∷ codes "001001" ∷ []) ≡ Ok (record { fxy = 0xC001; members = 0x0101 ∷ [] } ∷ []))
    × (d.with_record_d 65538 [] (codes "300001" ∷ codes "001001" ∷ []) ≡ Err TableSize)
unfolding on_literals
faults-d = (refl, refl, refl)

-- two sequences that contain each other; the one that is first in the file is reported
abbrev circle : List d.Sequence
circle = record { fxy = 0xC001; members = 0xC002 ∷ [] } ∷ record { fxy = 0xC002; members = 0xC001 ∷ [] } ∷ []

circle-read : d.table_d_of (records_of (header_d ++ codes "300001,300002\n300002,300001\n")) ≡ Ok circle
unfolding on_literals
circle-read = refl

there : Leads circle 0xC001 0xC002
there = ((0, lit< tt, refl), refl)

back : Leads circle 0xC002 0xC001
back = ((0, lit< tt, refl), refl)

-- rule: fault-43
circle-named : IsFirstCycle circle 0xC001
circle-named = (more there (one back), λ k e below. absurd (omega arith))
