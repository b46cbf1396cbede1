-- Worked examples of data that are refused. Each bound is shown from both sides. If an item has two
-- faults, the example shows which one is reported.
use Rattle.std.proofs.Common.{◌≡◌, ◌==◌, ℕ, List, [], ◌∷◌, if◌then◌else◌, map, replicate, pos, Result, Ok, Err, Some, refl}
use Rattle.bufr_bits.specs.Prelude.{bits_of}
use Rattle.bufr_tables.specs.Prelude.{Tree, bare, element, operator, fixed, delayed, f_of}
use Rattle.bufr_walk.specs.Prelude.{Taken, TurnRefusal, Stop, Next, take_next, at_end, astray, refused, next_item, shown_number, shown_text, shown_missing, packed, reading, would_be_many, place_at, EndsPass}
use Rattle.bufr_walk.specs.declared.spec.TurnRefusal.TheVariants as refusal
use Rattle.bufr_walk.specs.declared.spec.Taken.TheVariants as taken
use Rattle.bufr_walk.specs.declared.walker.WalkStop.TheVariants as stops
use Rattle.bufr_walk.specs.declared.fault.DataFault.TheVariants as wrong
use Rattle.bufr_walk.proofs.ExampleTables.{fxy, table, done, walk_fault, field_fault, one, together, gives}

-- a template of these elements and operators
unfoldable pub chain : List ℕ → Tree
chain [] = bare
chain (d ∷ more) = if f_of d == 2 then operator d (chain more) else element d (chain more)

-- ---- Widths.

width_in : Next → Result ℕ TurnRefusal
width_in (take_next spec) = Ok spec.width
width_in at_end = Ok 0
width_in astray = Ok 0
width_in (refused why) = Err why

-- the width of the field that comes next after these answers, or 0 at the end, or the refusal
next_width : Tree → List Taken → Result ℕ TurnRefusal
unfolding table next_item width_in
next_width tree answers = width_in (next_item table tree answers)

-- the width of the first field
width : List ℕ → Result ℕ TurnRefusal
unfolding next_width chain
width list = next_width (chain list) []

-- 2 01 Y adds Y - 128 to the 7 bits of 001001, and the sum must be 1 to 63. The example fails if a
-- bound is different, or if a negative sum is not refused.
-- rule: 2-01-y, widths
changed_widths : map (λ y. width (fxy 2 1 y ∷ fxy 0 1 1 ∷ [])) (0 ∷ 1 ∷ 121 ∷ 122 ∷ 127 ∷ 128 ∷ 129 ∷ 184 ∷ 185 ∷ 255 ∷ [])
    ≡ Ok 7 ∷ Err (refusal.Width 257) ∷ Err (refusal.Width 257) ∷ Ok 1 ∷ Ok 6 ∷ Ok 7 ∷ Ok 8 ∷ Ok 63 ∷ Err (refusal.Width 257) ∷ Err (refusal.Width 257) ∷ []
unfolding width fxy
changed_widths = refl

-- 2 07 Y adds (10 Y + 2) / 3 bits, rounded down. The example fails if the number is rounded
-- differently, or if the bound is different.
-- rule: 2-07-y, widths
precise_widths : map (λ y. width (fxy 2 7 y ∷ fxy 0 1 1 ∷ [])) (0 ∷ 1 ∷ 2 ∷ 3 ∷ 4 ∷ 5 ∷ 15 ∷ 16 ∷ 17 ∷ 18 ∷ [])
    ≡ Ok 7 ∷ Ok 11 ∷ Ok 14 ∷ Ok 17 ∷ Ok 21 ∷ Ok 24 ∷ Ok 57 ∷ Ok 61 ∷ Err (refusal.Width 257) ∷ Err (refusal.Width 257) ∷ []
unfolding width fxy
precise_widths = refl

-- 2 07 018 adds 60 bits, so 2 01 Y may subtract more bits than the element has. The example fails
-- if one sum is refused, or replaced by zero, before the other is formed.
-- rule: 2-01-2-02-2-07-add-up, widths
added_widths : map (λ y. width (fxy 2 7 18 ∷ fxy 2 1 y ∷ fxy 0 1 1 ∷ [])) (61 ∷ 62 ∷ 100 ∷ 124 ∷ 125 ∷ [])
    ≡ Err (refusal.Width 257) ∷ Ok 1 ∷ Ok 39 ∷ Ok 63 ∷ Err (refusal.Width 257) ∷ []
unfolding width fxy
added_widths = refl

-- 2 06 Y gives 1 to 63 bits, whatever 2 01 Y changes. It also applies to a text, unless the text
-- has the same width in Table B. The example fails if a bound is different, or if a change affects
-- the given width.
-- rule: 2-06-y, 2-06-y-other-width, 2-06-y-width-of-table-b, widths
given_widths :
    (map (λ y. width (fxy 2 6 y ∷ fxy 0 1 1 ∷ [])) (1 ∷ 63 ∷ 64 ∷ 255 ∷ []) ≡ Ok 1 ∷ Ok 63 ∷ Err (refusal.Width 257) ∷ Err (refusal.Width 257) ∷ [])
    × (map (λ y. width (fxy 2 1 100 ∷ fxy 2 6 y ∷ fxy 0 1 1 ∷ [])) (1 ∷ 63 ∷ 64 ∷ []) ≡ Ok 1 ∷ Ok 63 ∷ Err (refusal.Width 257) ∷ [])
    × (map (λ y. width (fxy 2 6 y ∷ fxy 0 1 15 ∷ [])) (63 ∷ 64 ∷ 159 ∷ 160 ∷ 161 ∷ []) ≡ Ok 63 ∷ Err (refusal.Width 271) ∷ Err (refusal.Width 271) ∷ Ok 160 ∷ Err (refusal.Width 271) ∷ [])
unfolding width fxy
given_widths = (refl, refl, refl)

-- These bounds do not apply to a text, which may have 255 octets. 2 01 Y does not affect an element
-- of a code table, a redefined reference or a factor, but it affects other elements of class 31.
-- rule: 2-08-y, 2-05-y, figures-unchanged, new-reference, factor-by-entry
other_widths :
    (map (λ y. width (fxy 2 1 185 ∷ fxy 2 8 y ∷ fxy 0 1 15 ∷ [])) (0 ∷ 1 ∷ 8 ∷ 255 ∷ []) ≡ Ok 160 ∷ Ok 8 ∷ Ok 64 ∷ Ok 2040 ∷ [])
    × (map (λ y. width (fxy 2 1 121 ∷ fxy 2 5 y ∷ [])) (1 ∷ 255 ∷ []) ≡ Ok 8 ∷ Ok 2040 ∷ [])
    × (width (fxy 2 1 255 ∷ fxy 2 7 18 ∷ fxy 0 20 3 ∷ []) ≡ Ok 9)
    × (map (λ y. width (fxy 2 1 121 ∷ fxy 2 3 y ∷ fxy 0 1 1 ∷ [])) (1 ∷ 63 ∷ []) ≡ Ok 1 ∷ Ok 63 ∷ [])
    × (next_width (operator (fxy 2 1 120) (delayed (fxy 0 31 1) bare bare)) [] ≡ Ok 8)
    × (width (fxy 2 1 120 ∷ fxy 0 31 1 ∷ []) ≡ Err (refusal.Width 7937))
unfolding width next_width fxy
other_widths = (refl, refl, refl, refl, refl, refl)

-- ---- What is allowed while references are being redefined.

-- The only operator that is allowed is 2 03 255. Other operators with Y = 255 are not allowed, nor
-- are those that would cancel a change. The example fails if X or Y alone decides, or if 2 03 001
-- redefines nothing.
-- rule: defining-no-other-operator, defining-no-inserted-text
operators_while_defining :
    (map (λ d. width (fxy 2 3 10 ∷ d ∷ fxy 0 1 1 ∷ []))
    (fxy 2 1 0 ∷ fxy 2 1 255 ∷ fxy 2 2 0 ∷ fxy 2 2 255 ∷ fxy 2 3 0 ∷ fxy 2 3 1 ∷ fxy 2 3 63 ∷ fxy 2 5 1 ∷ fxy 2 5 255 ∷ fxy 2 6 1 ∷ fxy 2 6 255 ∷ fxy 2 7 0 ∷ fxy 2 7 18 ∷ fxy 2 8 0 ∷ fxy 2 8 255 ∷ [])
    ≡ map (λ d. Err (refusal.Defining d))
    (fxy 2 1 0 ∷ fxy 2 1 255 ∷ fxy 2 2 0 ∷ fxy 2 2 255 ∷ fxy 2 3 0 ∷ fxy 2 3 1 ∷ fxy 2 3 63 ∷ fxy 2 5 1 ∷ fxy 2 5 255 ∷ fxy 2 6 1 ∷ fxy 2 6 255 ∷ fxy 2 7 0 ∷ fxy 2 7 18 ∷ fxy 2 8 0 ∷ fxy 2 8 255
    ∷ []))
    × (map (λ y. width (fxy 2 3 y ∷ fxy 2 1 129 ∷ fxy 0 1 1 ∷ [])) (0 ∷ 1 ∷ 63 ∷ 255 ∷ []) ≡ Ok 8 ∷ Err (refusal.Defining (fxy 2 1 129)) ∷ Err (refusal.Defining (fxy 2 1 129)) ∷ Ok 8 ∷ [])
    × (width (fxy 2 3 10 ∷ fxy 2 3 255 ∷ fxy 2 1 129 ∷ fxy 0 1 1 ∷ []) ≡ Ok 8)
unfolding width fxy
operators_while_defining = (refl, refl, refl)

-- Elements other than texts are allowed, including those of class 31 and of code tables, but a
-- factor is not. The example fails if the class decides, or if a text of class 31 is allowed.
-- rule: defining-no-text, defining-no-delayed-group, defining-fixed-groups
elements_while_defining :
    (map (λ d. width (fxy 2 3 10 ∷ d ∷ [])) (fxy 0 1 1 ∷ fxy 0 20 3 ∷ fxy 0 31 1 ∷ fxy 0 31 21 ∷ []) ≡ Ok 10 ∷ Ok 10 ∷ Ok 10 ∷ Ok 10 ∷ [])
    × (map (λ d. width (fxy 2 3 10 ∷ d ∷ [])) (fxy 0 1 15 ∷ fxy 0 31 250 ∷ []) ≡ Err (refusal.Defining 271) ∷ Err (refusal.Defining 8186) ∷ [])
    × (next_width (operator (fxy 2 3 10) (delayed (fxy 0 31 1) bare bare)) [] ≡ Err (refusal.Defining 7937))
    × (next_width (operator (fxy 2 3 10) (fixed 2 (element (fxy 0 1 1) bare) bare)) [] ≡ Ok 10)
unfolding width next_width fxy
elements_while_defining = (refl, refl, refl, refl)

-- The first refused turn counts, even after the last item. The example fails if the width of a
-- later element is refused first, if an operator is refused only at the next item, or if the
-- template ends before it.
-- rule: fault-32-before-31
first_refused_turn :
    (width (fxy 2 3 10 ∷ fxy 2 1 121 ∷ fxy 0 1 1 ∷ []) ≡ Err (refusal.Defining (fxy 2 1 121)))
    × (width (fxy 2 1 121 ∷ fxy 0 1 1 ∷ fxy 2 3 10 ∷ fxy 0 1 15 ∷ []) ≡ Err (refusal.Width 257))
    × (width (fxy 2 1 121 ∷ fxy 2 3 10 ∷ fxy 0 1 15 ∷ []) ≡ Err (refusal.Defining 271))
    × (next_width (chain (fxy 2 3 10 ∷ fxy 0 1 1 ∷ fxy 2 8 0 ∷ [])) (taken.Reference (pos 0) ∷ []) ≡ Err (refusal.Defining (fxy 2 8 0)))
    × (next_width (chain (fxy 2 3 10 ∷ fxy 0 1 1 ∷ fxy 2 3 255 ∷ [])) (taken.Reference (pos 0) ∷ []) ≡ Ok 0)
unfolding width next_width chain fxy
first_refused_turn = (refl, refl, refl, refl, refl)

-- ---- The end of the data.

-- A field may end where the data end, but one bit less is a fault. The example fails if the bound
-- is different.
-- rule: field-past-end
one_bit_short :
    (one (chain (fxy 0 31 0 ∷ fxy 0 1 1 ∷ [])) (10 ∷ [])
    ≡ gives ((7936, shown_number (pos 0) (pos 0)) ∷ (257, shown_number (pos 10) (pos 0)) ∷ []) (done 0 3))
    × (one (chain (fxy 0 31 0 ∷ fxy 0 31 0 ∷ fxy 0 1 1 ∷ [])) (128 ∷ [])
    ≡ gives ((7936, shown_number (pos 1) (pos 0)) ∷ (7936, shown_number (pos 0) (pos 0)) ∷ []) (field_fault 257 wrong.DataEnd 6 3))
unfolding one gives chain fxy
one_bit_short = (refl, refl)

-- The same is true for a text of 255 octets, and for one that 2 05 Y inserts. The example fails if
-- their width is different.
-- rule: field-past-end, 2-08-y, 2-05-y
one_octet_short :
    (one (chain (fxy 2 8 255 ∷ fxy 0 1 15 ∷ [])) (replicate 255 65) ≡ gives ((271, shown_text (replicate 255 65)) ∷ []) (done 0 3))
    × (one (chain (fxy 2 8 255 ∷ fxy 0 1 15 ∷ [])) (replicate 254 65) ≡ gives [] (field_fault 271 wrong.DataEnd 2032 2))
    × (one (chain (fxy 2 5 255 ∷ [])) (replicate 255 65) ≡ gives ((34303, shown_text (replicate 255 65)) ∷ []) (done 0 2))
    × (one (chain (fxy 2 5 255 ∷ [])) (replicate 254 65) ≡ gives [] (field_fault 34303 wrong.DataEnd 2032 1))
unfolding one gives chain fxy
one_octet_short = (refl, refl, refl, refl)

-- Increments may end where the data end, but one bit less is a fault.
-- rule: compressed-item, compressed-increments-there
one_bit_of_an_increment_short :
    (together 3 (chain (fxy 0 1 1 ∷ [])) (20 ∷ 8 ∷ [])
    ≡ gives ((257, shown_number (pos 10) (pos 0) ∷ shown_number (pos 10) (pos 0) ∷ shown_number (pos 10) (pos 0) ∷ []) ∷ []) (done 0 2))
    × (together 2 (chain (fxy 0 1 1 ∷ [])) (20 ∷ 16 ∷ []) ≡ gives [] (field_fault 257 wrong.DataEnd 16 1))
unfolding together gives chain fxy
one_bit_of_an_increment_short = (refl, refl)

-- ---- Increments, factors and missing values.

-- For a text of two octets, k may be 2 but not 3. A factor may not differ in the third subset,
-- either. The example fails if the bound is different, or if only two subsets are compared.
-- rule: compressed-text-past-width, compressed-factors
increments_refused :
    (together 1 (chain (fxy 2 5 2 ∷ [])) (0 ∷ 0 ∷ 9 ∷ 5 ∷ 8 ∷ []) ≡ gives ((34050, shown_text (65 ∷ 66 ∷ []) ∷ []) ∷ []) (done 2 2))
    × (together 1 (chain (fxy 2 5 2 ∷ [])) (0 ∷ 0 ∷ 13 ∷ 5 ∷ 8 ∷ 0 ∷ []) ≡ gives [] (field_fault 34050 wrong.Increment 48 1))
    × (together 3 (delayed (fxy 0 31 1) (element (fxy 0 1 1) bare) bare) (1 ∷ 4 ∷ 128 ∷ []) ≡ gives [] (field_fault 7937 wrong.UnequalFactor 24 2))
unfolding together gives chain fxy
increments_refused = (refl, refl, refl)

-- Elements of classes 30 and 32 may be missing, those of class 31 may not. The example fails if an
-- adjacent class is taken for class 31.
-- rule: class-31-never-missing, 2-06-y-of-class-31
classes_beside_31 : one (chain (fxy 2 6 4 ∷ fxy 0 30 1 ∷ fxy 2 6 4 ∷ fxy 0 31 3 ∷ fxy 2 6 4 ∷ fxy 0 32 1 ∷ [])) (255 ∷ 240 ∷ [])
    ≡ gives ((7681, shown_missing) ∷ (7939, shown_number (pos 15) (pos 0)) ∷ (8193, shown_missing) ∷ []) (done 4 7)
unfolding one gives chain fxy
classes_beside_31 = refl

-- ---- If an item has two faults, the first of these is reported: 32, 31, 35, 30, 34, 33.

-- Fault 32 comes before 30, 34 and 33: a text without data, a text with too many octets, and a
-- factor whose counts differ.
-- rule: compressed-fault-order, fault-32-before-31
defining_is_first :
    (one (chain (fxy 2 3 10 ∷ fxy 0 1 15 ∷ [])) [] ≡ gives [] (walk_fault (refusal.Defining 271) 0 2))
    × (together 2 (chain (fxy 2 3 10 ∷ fxy 2 5 1 ∷ [])) (0 ∷ 8 ∷ 0 ∷ 0 ∷ 0 ∷ 0 ∷ []) ≡ gives [] (walk_fault (refusal.Defining 34049) 48 2))
    × (together 2 (operator (fxy 2 3 10) (delayed (fxy 0 31 1) (element (fxy 0 1 1) bare) bare)) (1 ∷ 5 ∷ []) ≡ gives [] (walk_fault (refusal.Defining 7937) 16 3))
unfolding one together gives chain fxy
defining_is_first = (refl, refl, refl)

-- Fault 31 comes before 30 and 34: no data, and an increment past 64 bits.
-- rule: compressed-fault-order
width_before_the_data :
    (together 2 (chain (fxy 2 6 64 ∷ fxy 0 1 1 ∷ [])) [] ≡ gives [] (walk_fault (refusal.Width 257) 0 2))
    × (together 2 (chain (fxy 2 6 64 ∷ fxy 0 1 1 ∷ [])) (255 ∷ 255 ∷ 255 ∷ 255 ∷ 255 ∷ 255 ∷ 255 ∷ 254 ∷ 10 ∷ 0 ∷ []) ≡ gives [] (walk_fault (refusal.Width 257) 80 2))
unfolding together gives chain fxy
width_before_the_data = (refl, refl)

-- A pass over these octets of two subsets stops for this reason, if `items` items of 65,535 subsets
-- were read before.
stops_at : (items : ℕ) → Tree → List ℕ → Stop → Type 0
unfolding table next_item bits_of
stops_at items tree octets why = EndsPass (reading (packed 2) (would_be_many 65535)) (next_item table tree []) (place_at items (bits_of octets)) (Some why)

-- Fault 35 comes before 30, 34 and 33: data with 65,535 subsets may have 2,048 items, but one more
-- is too many.
-- rule: compressed-fault-order, too-many-values
too_many_is_before_the_fields :
    stops_at 2047 (element (fxy 0 1 1) bare) [] (stops.Field (wrong.DataEnd 257))
    × stops_at 2048 (element (fxy 0 1 1) bare) [] (stops.Field (wrong.TooManyValues 257))
    × stops_at 2047 (element (fxy 0 1 1) bare) (252 ∷ 17 ∷ 0 ∷ []) (stops.Field (wrong.Increment 257))
    × stops_at 2048 (element (fxy 0 1 1) bare) (252 ∷ 17 ∷ 0 ∷ []) (stops.Field (wrong.TooManyValues 257))
    × stops_at 2047 (delayed (fxy 0 31 1) bare bare) (1 ∷ 5 ∷ []) (stops.Field (wrong.UnequalFactor 7937))
    × stops_at 2048 (delayed (fxy 0 31 1) bare bare) (1 ∷ 5 ∷ []) (stops.Field (wrong.TooManyValues 7937))
unfolding stops_at fxy
too_many_is_before_the_fields = (refl, refl, refl, refl, refl, refl)

-- Fault 34 comes before 33, and 30 before both: a factor whose counts differ, with one of them past
-- the width.
-- rule: fault-30-before-34, fault-34-before-33
faults_of_a_factor : map (λ octets. together 2 (delayed (fxy 0 31 1) (element (fxy 0 1 1) bare) bare) octets) ((1 ∷ 5 ∷ []) ∷ (255 ∷ 5 ∷ []) ∷ (255 ∷ 9 ∷ []) ∷ [])
    ≡ map (λ why. gives [] (field_fault 7937 why 16 2)) (wrong.UnequalFactor ∷ wrong.Increment ∷ wrong.DataEnd ∷ [])
unfolding together gives fxy
faults_of_a_factor = refl
