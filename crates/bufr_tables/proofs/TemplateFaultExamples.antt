-- Worked examples of the faults of a template. Each bound is shown from both sides. If two faults
-- meet, the example shows which one is reported.
use Rattle.std.proofs.Common.{◌≡◌, ℕ, zero, suc, ◌+◌, ◌*◌, ◌/◌, ◌%◌, ◌==◌, ◌&&◌, Bool, true, false, if◌then◌else◌, List, [], ◌∷◌, ◌++◌, map, length, replicate, Option, Some, None, Result, Ok, Err, is_ok, refl}
use Rattle.std.specs.Prelude.{nat_le}
use Rattle.bufr_tables.specs.Prelude.{TemplateFault, Tree, places, depth, Tables, tree_of, inner_of, level, part_of, f_of, x_of, y_of, ◌>>=◌}
use Rattle.bufr_tables.specs.declared.fault.TemplateFault.TheVariants.{UnknownElement, UnknownSequence, Operator, GroupShape, NoFactor, EmptyGroup, Depth, TemplateSize, LocalShape}

-- the descriptor whose six digits write this number: 101000 is 1 01 000, and 31001 is 0 31 001
word : ℕ → ℕ
word digits = digits / 100000 * 16384 + (digits / 1000 % 100 * 256 + digits % 1000)

is_one_of : List ℕ → ℕ → Bool
is_one_of [] d = false
is_one_of (e ∷ es) d = if d == e then true else is_one_of es d

-- a group that passes once over a whole list
group : List ℕ → List ℕ
group list = (100001 + 1000 * length list) ∷ list

-- n such groups, nested
groups : ℕ → List ℕ → List ℕ
groups zero inside = inside
groups (suc n) inside = group (groups n inside)

-- The sequences. 3 00 Y contains the next sequence twice, up to 3 00 015, which contains 0 01 001
-- twice: it has 2 ^ (16 - Y) elements. 3 01 Y contains the next sequence, up to 3 01 033, which
-- contains 0 01 001. Likewise 3 02 Y and 3 03 Y, up to 3 02 016 with 16 groups and 3 03 016 with
-- 17 groups.
members : ℕ → Option (List ℕ)
unfolding word group groups
members d =
    if d == word 306001 then Some (map word (1001 ∷ []))
    else if d == word 360192 then Some (map word (1001 ∷ 12101 ∷ []))
    else if d == word 304001 then Some (map word (206012 ∷ []))
    else if d == word 304002 then Some (map word (102001 ∷ 1001 ∷ []))
    else if d == word 304003 then Some (map word (201132 ∷ []))
    else if d == word 302016 then Some (map word (groups 16 (1001 ∷ [])))
    else if d == word 303016 then Some (map word (groups 17 (1001 ∷ [])))
    else if d == word 301033 then Some (map word (1001 ∷ []))
    else if d == word 300015 then Some (map word (1001 ∷ 1001 ∷ []))
    else if (f_of d == 3) && (x_of d == 0) && nat_le (y_of d) 15 then Some ((d + 1) ∷ (d + 1) ∷ [])
    else if (f_of d == 3) && nat_le 1 (x_of d) && nat_le (x_of d) 3 && nat_le (y_of d) 33 then Some ((d + 1) ∷ [])
    else None

tables : Tables
unfolding word is_one_of
tables = record {
  known = is_one_of (map word (1001 ∷ 1015 ∷ 6001 ∷ 12101 ∷ 20003 ∷ 31000 ∷ 31001 ∷ 31002 ∷ 31003 ∷ 31011 ∷ 31012 ∷ []));
  members = members;
}

-- the same sequences, with a Table B that lacks the factors
no_factors : Tables
unfolding word
no_factors = record { known = λ d. d == word 1001; members = members }

-- the tree that a list of descriptors defines, or its fault
means_by : Tables → List ℕ → Result Tree TemplateFault
unfolding word is_one_of group groups members tables no_factors tree_of inner_of level part_of
means_by by list = tree_of by (map word list)

means : List ℕ → Result Tree TemplateFault
unfolding means_by
means list = means_by tables list

-- the same, if this many places are used and this many groups and sequences may still be opened
after_by : Tables → (places room : ℕ) → List ℕ → Result Tree TemplateFault
unfolding word is_one_of group groups members tables no_factors inner_of level part_of
after_by by places room list = level by (inner_of by room) false 0 places (map word list)

after : (places room : ℕ) → List ℕ → Result Tree TemplateFault
unfolding after_by
after places room list = after_by tables places room list

-- the same, if all places are used
at_full : List ℕ → Result Tree TemplateFault
unfolding after
at_full list = after 65535 32 list

-- the places and the depth of the template
measures : List ℕ → Result (ℕ × ℕ) TemplateFault
measures list = means list >>= λ t. Ok (places t, depth t)

accepts : List ℕ → Bool
accepts list = is_ok (means list)

-- ---- Operators and their operands.

-- consecutive numbers
numbers : ℕ → ℕ → List ℕ
numbers from zero = []
numbers from (suc more) = from ∷ numbers (from + 1) more

-- the given operands that operator 2 X may have if an element follows
allowed : ℕ → List ℕ → List ℕ
allowed x [] = []
allowed x (y ∷ ys) =
    if is_ok (means ((200000 + 1000 * x + y) ∷ 1001 ∷ [])) then y ∷ allowed x ys else allowed x ys

-- all operands that operator 2 X may have
operands : ℕ → List ℕ
operands x = allowed x (numbers 0 256)

-- rule: operators-known, fault-22
operands-of-changes :
    (operands 1 ≡ numbers 0 256)
    × (operands 2 ≡ numbers 0 256)
    × (operands 8 ≡ numbers 0 256)
unfolding numbers allowed operands means
operands-of-changes = (refl, refl, refl)

-- rule: operators-known, fault-22
operands-of-references : operands 3 ≡ numbers 0 64 ++ 255 ∷ []
unfolding numbers allowed operands means
operands-of-references = refl

-- rule: operators-known, fault-22
operands-of-widths : (operands 5 ≡ numbers 1 255) × (operands 6 ≡ numbers 1 255)
unfolding numbers allowed operands means
operands-of-widths = (refl, refl)

-- rule: operators-known, fault-22
operands-of-precisions : operands 7 ≡ numbers 0 19
unfolding numbers allowed operands means
operands-of-precisions = refl

-- the given operators that may have one of the operands 0, 1, 18, 63 and 255
known-operators : List ℕ → List ℕ
known-operators [] = []
known-operators (x ∷ xs) =
    if length (allowed x (0 ∷ 1 ∷ 18 ∷ 63 ∷ 255 ∷ [])) == 0 then known-operators xs
    else x ∷ known-operators xs

-- rule: operators-known, fault-22
operators-there-are : known-operators (numbers 0 64) ≡ 1 ∷ 2 ∷ 3 ∷ 5 ∷ 6 ∷ 7 ∷ 8 ∷ []
unfolding numbers allowed known-operators means
operators-there-are = refl

-- ---- Elements are in Table B, or the operator before them gives their width.

-- rule: fault-20, 2-06-y-unknown-element
elements-known :
    (accepts (12101 ∷ []) ≡ true)
    × (means (12102 ∷ []) ≡ Err (UnknownElement (word 12102)))
    × (accepts (206012 ∷ 12102 ∷ []) ≡ true)
    × (means (206012 ∷ 12102 ∷ 12102 ∷ []) ≡ Err (UnknownElement (word 12102)))
    × (means (201012 ∷ 12102 ∷ []) ≡ Err (UnknownElement (word 12102)))
unfolding accepts means
elements-known = (refl, refl, refl, refl, refl)

-- An element follows 2 06 Y in the same list.
-- rule: fault-28, 2-06-y-before-an-element
widths-before-elements :
    (accepts (206012 ∷ 1001 ∷ []) ≡ true)
    × (means (206012 ∷ []) ≡ Err (LocalShape (word 206012)))
    × (means (206012 ∷ 101001 ∷ 1001 ∷ []) ≡ Err (LocalShape (word 206012)))
    × (means (206012 ∷ 206012 ∷ 1001 ∷ []) ≡ Err (LocalShape (word 206012)))
    × (means (206012 ∷ 360192 ∷ []) ≡ Err (LocalShape (word 206012)))
    -- last in a group, and last in a sequence
    × (means (101002 ∷ 206012 ∷ 1001 ∷ []) ≡ Err (LocalShape (word 206012)))
    × (means (304001 ∷ 1001 ∷ []) ≡ Err (LocalShape (word 206012)))
unfolding accepts means
widths-before-elements = (refl, refl, refl, refl, refl, refl, refl)

-- No other descriptor with X = 06 gives a width.
-- rule: fault-20, 2-06-y-unknown-element
widths-of-the-next :
    (means (6001 ∷ 12102 ∷ []) ≡ Err (UnknownElement (word 12102)))
    × (means (306001 ∷ 12102 ∷ []) ≡ Err (UnknownElement (word 12102)))
    × (means (106001 ∷ replicate 6 1001 ++ 12102 ∷ []) ≡ Err (UnknownElement (word 12102)))
unfolding means
widths-of-the-next = (refl, refl, refl)

-- ---- Replications: X, the factor, and the remaining descriptors.

-- rule: fault-23
groups-of-none :
    (accepts (101002 ∷ 1001 ∷ []) ≡ true)
    × (means (100002 ∷ 1001 ∷ []) ≡ Err (GroupShape (word 100002)))
    × (means (100000 ∷ 31001 ∷ 1001 ∷ []) ≡ Err (GroupShape (word 100000)))
unfolding accepts means
groups-of-none = (refl, refl, refl)

-- Only 0 31 000, 0 31 001 and 0 31 002 are factors, though Table B has others of class 31.
-- rule: fault-24, delayed-replication
factors-there-are :
    (accepts (101000 ∷ 31000 ∷ 1001 ∷ []) ≡ true)
    × (accepts (101000 ∷ 31001 ∷ 1001 ∷ []) ≡ true)
    × (accepts (101000 ∷ 31002 ∷ 1001 ∷ []) ≡ true)
    × (means (101000 ∷ 31003 ∷ 1001 ∷ []) ≡ Err (NoFactor (word 101000)))
    × (means (101000 ∷ 31011 ∷ 1001 ∷ []) ≡ Err (NoFactor (word 101000)))
    × (means (101000 ∷ 31012 ∷ 1001 ∷ []) ≡ Err (NoFactor (word 101000)))
    × (means (101000 ∷ 1001 ∷ 1001 ∷ []) ≡ Err (NoFactor (word 101000)))
unfolding accepts means
factors-there-are = (refl, refl, refl, refl, refl, refl, refl)

-- A factor must follow, with F = 0 and class 31.
-- rule: fault-24, delayed-replication
factors-by-class :
    (means (101000 ∷ 30001 ∷ 1001 ∷ []) ≡ Err (NoFactor (word 101000)))
    × (means (101000 ∷ 32001 ∷ 1001 ∷ []) ≡ Err (NoFactor (word 101000)))
    × (means (101000 ∷ 131001 ∷ 1001 ∷ []) ≡ Err (NoFactor (word 101000)))
    × (means (101000 ∷ 231001 ∷ 1001 ∷ []) ≡ Err (NoFactor (word 101000)))
    × (means (101000 ∷ 331001 ∷ 1001 ∷ []) ≡ Err (NoFactor (word 101000)))
    × (means (101000 ∷ []) ≡ Err (NoFactor (word 101000)))
unfolding means
factors-by-class = (refl, refl, refl, refl, refl, refl)

-- rule: fault-20
factors-in-table-b :
    (accepts (101000 ∷ 31001 ∷ 1001 ∷ []) ≡ true)
    × (means_by no_factors (101000 ∷ 31001 ∷ 1001 ∷ []) ≡ Err (UnknownElement (word 31001)))
unfolding accepts means means_by
factors-in-table-b = (refl, refl)

-- X descriptors must remain in the list, the sequence or the group, not counting the factor.
-- rule: fault-23, replication-in-one-list, delayed-replication
descriptors-left :
    (accepts (102002 ∷ 1001 ∷ 1001 ∷ []) ≡ true)
    × (means (102002 ∷ 1001 ∷ []) ≡ Err (GroupShape (word 102002)))
    × (means (102000 ∷ 31001 ∷ 1001 ∷ []) ≡ Err (GroupShape (word 102000)))
    × (means (101000 ∷ 31001 ∷ []) ≡ Err (GroupShape (word 101000)))
    × (means (304002 ∷ 1001 ∷ []) ≡ Err (GroupShape (word 102001)))
    × (means (102002 ∷ 102002 ∷ 1001 ∷ 1001 ∷ []) ≡ Err (GroupShape (word 102002)))
    × (accepts (163001 ∷ replicate 63 1001) ≡ true)
    × (means (163001 ∷ replicate 62 1001) ≡ Err (GroupShape (word 163001)))
unfolding accepts means
descriptors-left = (refl, refl, refl, refl, refl, refl, refl, refl)

-- ---- Sequences are in Table D.

-- rule: fault-21
sequences-known :
    (accepts (301033 ∷ []) ≡ true)
    × (means (301034 ∷ []) ≡ Err (UnknownSequence (word 301034)))
unfolding accepts means
sequences-known = (refl, refl)

-- ---- At most 32 groups and sequences are open at the same time.

-- rule: fault-26
groups-open :
    (measures (groups 32 (1001 ∷ [])) ≡ Ok (66, 32))
    × (means (groups 33 (1001 ∷ [])) ≡ Err (Depth (word 101001)))
unfolding means measures group groups
groups-open = (refl, refl)

-- rule: fault-26
delayed-groups-open :
    (accepts (groups 31 (101000 ∷ 31001 ∷ 1001 ∷ [])) ≡ true)
    × (means (groups 32 (101000 ∷ 31001 ∷ 1001 ∷ [])) ≡ Err (Depth (word 101000)))
unfolding accepts means group groups
delayed-groups-open = (refl, refl)

-- Sequences do not count towards the depth of a template.
-- rule: fault-26
sequences-open :
    (measures (301002 ∷ []) ≡ Ok (2, 0))
    × (means (301001 ∷ []) ≡ Err (Depth (word 301033)))
unfolding means measures
sequences-open = (refl, refl)

-- 16 sequences around 16 or 17 groups, and 16 groups around 16 or 17 sequences
-- rule: fault-26
both-open :
    (measures (302001 ∷ []) ≡ Ok (34, 16))
    × (means (303001 ∷ []) ≡ Err (Depth (word 101001)))
    × (measures (groups 16 (301018 ∷ [])) ≡ Ok (34, 16))
    × (means (groups 16 (301017 ∷ [])) ≡ Err (Depth (word 301033)))
unfolding means measures group groups
both-open = (refl, refl, refl, refl)

-- A group or sequence that has ended is no longer open.
-- rule: fault-26
open-one-after-another : accepts (groups 32 (1001 ∷ []) ++ groups 32 (1001 ∷ []) ++ 301002 ∷ 301002 ∷ []) ≡ true
unfolding accepts means group groups
open-one-after-another = refl

-- ---- At most 65,535 places: one for each element and operator, two more for each fixed group and
-- three for each delayed one, and one for the end.

-- 65,534 elements fit; one more does not.
-- rule: fault-27
elements-that-fit : measures (numbers 300001 15) ≡ Ok (65535, 0)
unfolding means measures numbers
elements-that-fit = refl

-- rule: fault-27
elements-too-many : measures (numbers 300001 15 ++ 1001 ∷ []) ≡ Err (TemplateSize (word 1001))
unfolding means measures numbers
elements-too-many = refl

-- rule: fault-27
places-of-operators :
    (is_ok (after 65534 32 (201000 ∷ [])) ≡ true)
    × (after 65535 32 (201000 ∷ []) ≡ Err (TemplateSize (word 201000)))
    × (after 65534 32 (206012 ∷ 1001 ∷ []) ≡ Err (TemplateSize (word 1001)))
unfolding after
places-of-operators = (refl, refl, refl)

-- rule: fault-27
places-of-fixed-groups :
    (is_ok (after 65532 32 (101002 ∷ 1001 ∷ [])) ≡ true)
    × (after 65533 32 (101002 ∷ 1001 ∷ []) ≡ Err (TemplateSize (word 1001)))
    × (after 65534 32 (101002 ∷ 1001 ∷ []) ≡ Err (TemplateSize (word 101002)))
unfolding after
places-of-fixed-groups = (refl, refl, refl)

-- rule: fault-27
places-of-delayed-groups :
    (is_ok (after 65531 32 (101000 ∷ 31001 ∷ 1001 ∷ [])) ≡ true)
    × (after 65532 32 (101000 ∷ 31001 ∷ 1001 ∷ []) ≡ Err (TemplateSize (word 1001)))
    × (after 65533 32 (101000 ∷ 31001 ∷ 1001 ∷ []) ≡ Err (TemplateSize (word 101000)))
unfolding after
places-of-delayed-groups = (refl, refl, refl)

-- A sequence itself takes no place.
-- rule: fault-27
places-of-sequences :
    (is_ok (after 65533 32 (360192 ∷ [])) ≡ true)
    × (after 65534 32 (360192 ∷ []) ≡ Err (TemplateSize (word 12101)))
    × (is_ok (after 65534 32 (301002 ∷ [])) ≡ true)
    × (after 65535 32 (301002 ∷ []) ≡ Err (TemplateSize (word 1001)))
unfolding after
places-of-sequences = (refl, refl, refl, refl)

-- ---- Each group takes bits, and so does the whole list.

-- rule: fault-25, groups-take-bits
groups-that-take-none :
    (means (101255 ∷ 201000 ∷ []) ≡ Err (EmptyGroup (word 101255)))
    × (means (101000 ∷ 31001 ∷ 201000 ∷ []) ≡ Err (EmptyGroup (word 101000)))
    × (means (102002 ∷ 101003 ∷ 201000 ∷ []) ≡ Err (EmptyGroup (word 101003)))
    × (means (101002 ∷ 304003 ∷ 1001 ∷ []) ≡ Err (EmptyGroup (word 101002)))
unfolding means
groups-that-take-none = (refl, refl, refl, refl)

-- Elements, inserted texts and delayed groups take bits, and so does a fixed group of these.
-- rule: fault-25, groups-take-bits
groups-that-take-some :
    (accepts (101002 ∷ 1001 ∷ []) ≡ true)
    × (accepts (102002 ∷ 201000 ∷ 1001 ∷ []) ≡ true)
    × (accepts (101002 ∷ 205001 ∷ []) ≡ true)
    × (accepts (103002 ∷ 101000 ∷ 31001 ∷ 1001 ∷ []) ≡ true)
    × (accepts (102002 ∷ 101002 ∷ 205001 ∷ []) ≡ true)
    × (accepts (205001 ∷ []) ≡ true)
    × (accepts (102002 ∷ 206012 ∷ 12102 ∷ []) ≡ true)
unfolding accepts means
groups-that-take-some = (refl, refl, refl, refl, refl, refl, refl)

-- The fault of a whole list names the first descriptor of the list.
-- rule: fault-25, groups-take-bits
lists-that-take-none :
    (means (201000 ∷ []) ≡ Err (EmptyGroup (word 201000)))
    × (means (202000 ∷ 201000 ∷ []) ≡ Err (EmptyGroup (word 202000)))
    × (means (304003 ∷ []) ≡ Err (EmptyGroup (word 304003)))
    × (means [] ≡ Err (EmptyGroup 0))
unfolding means
lists-that-take-none = (refl, refl, refl, refl)

-- ---- Two faults at one replication: 23 for X = 0, then 24, then 20, then 23 for too few
-- descriptors, then 26, then 27.

-- rule: order-at-a-replication
no-descriptors-before-no-factor :
    (means (100000 ∷ []) ≡ Err (GroupShape (word 100000)))
    × (means (100000 ∷ 1001 ∷ []) ≡ Err (GroupShape (word 100000)))
unfolding means
no-descriptors-before-no-factor = (refl, refl)

-- rule: order-at-a-replication
no-descriptors-before-unknown-factor : means_by no_factors (100000 ∷ 31001 ∷ 1001 ∷ []) ≡ Err (GroupShape (word 100000))
unfolding means_by
no-descriptors-before-unknown-factor = refl

-- rule: order-at-a-replication
no-descriptors-before-depth : means (groups 32 (100001 ∷ 1001 ∷ [])) ≡ Err (GroupShape (word 100001))
unfolding means group groups
no-descriptors-before-depth = refl

-- rule: order-at-a-replication
no-descriptors-before-size : at_full (100002 ∷ 1001 ∷ []) ≡ Err (GroupShape (word 100002))
unfolding at_full
no-descriptors-before-size = refl

-- rule: order-at-a-replication
no-factor-before-unknown-factor :
    (means (101000 ∷ 63255 ∷ 1001 ∷ []) ≡ Err (NoFactor (word 101000)))
    × (means_by no_factors (101000 ∷ 31011 ∷ 1001 ∷ []) ≡ Err (NoFactor (word 101000)))
unfolding means means_by
no-factor-before-unknown-factor = (refl, refl)

-- rule: order-at-a-replication
no-factor-before-too-few :
    (means (102000 ∷ 1001 ∷ 1001 ∷ []) ≡ Err (NoFactor (word 102000)))
    × (means (101000 ∷ 1001 ∷ []) ≡ Err (NoFactor (word 101000)))
unfolding means
no-factor-before-too-few = (refl, refl)

-- rule: order-at-a-replication
no-factor-before-depth :
    (means (groups 32 (101000 ∷ 1001 ∷ 1001 ∷ [])) ≡ Err (NoFactor (word 101000)))
    × (means (groups 32 (101000 ∷ [])) ≡ Err (NoFactor (word 101000)))
unfolding means group groups
no-factor-before-depth = (refl, refl)

-- rule: order-at-a-replication
no-factor-before-size :
    (at_full (101000 ∷ 1001 ∷ 1001 ∷ []) ≡ Err (NoFactor (word 101000)))
    × (at_full (101000 ∷ []) ≡ Err (NoFactor (word 101000)))
unfolding at_full
no-factor-before-size = (refl, refl)

-- rule: order-at-a-replication
unknown-factor-before-too-few : means_by no_factors (105000 ∷ 31001 ∷ 1001 ∷ []) ≡ Err (UnknownElement (word 31001))
unfolding means_by
unknown-factor-before-too-few = refl

-- rule: order-at-a-replication
unknown-factor-before-depth : means_by no_factors (groups 32 (101000 ∷ 31001 ∷ 1001 ∷ [])) ≡ Err (UnknownElement (word 31001))
unfolding means_by group groups
unknown-factor-before-depth = refl

-- rule: order-at-a-replication
unknown-factor-before-size : after_by no_factors 65535 32 (101000 ∷ 31001 ∷ 1001 ∷ []) ≡ Err (UnknownElement (word 31001))
unfolding after_by
unknown-factor-before-size = refl

-- rule: order-at-a-replication
too-few-before-depth : means (groups 32 (102001 ∷ 1001 ∷ [])) ≡ Err (GroupShape (word 102001))
unfolding means group groups
too-few-before-depth = refl

-- rule: order-at-a-replication
too-few-before-size : at_full (102002 ∷ 1001 ∷ []) ≡ Err (GroupShape (word 102002))
unfolding at_full
too-few-before-size = refl

-- rule: order-at-a-replication
depth-before-size : after 65535 0 (101002 ∷ 1001 ∷ []) ≡ Err (Depth (word 101002))
unfolding after
depth-before-size = refl

-- ---- Two faults at one sequence: 21, then 26.

-- rule: order-at-a-sequence
unknown-sequence-before-depth : means (groups 32 (300099 ∷ [])) ≡ Err (UnknownSequence (word 300099))
unfolding means group groups
unknown-sequence-before-depth = refl

-- A sequence takes no place, so it never causes fault 27.
-- rule: order-at-a-sequence
sequences-at-full :
    (at_full (300099 ∷ []) ≡ Err (UnknownSequence (word 300099)))
    × (after 65535 0 (360192 ∷ []) ≡ Err (Depth (word 360192)))
unfolding at_full after
sequences-at-full = (refl, refl)

-- ---- Two faults at one element: 20, then 27.

-- rule: order-at-an-element
unknown-element-before-size : at_full (12102 ∷ []) ≡ Err (UnknownElement (word 12102))
unfolding at_full
unknown-element-before-size = refl

-- ---- Two faults at one operator: 22, then 28, then 27.

-- rule: order-at-an-operator
operator-before-its-element :
    (means (206000 ∷ 201000 ∷ []) ≡ Err (Operator (word 206000)))
    × (means (206000 ∷ []) ≡ Err (Operator (word 206000)))
unfolding means
operator-before-its-element = (refl, refl)

-- rule: order-at-an-operator
operator-before-size : at_full (204001 ∷ []) ≡ Err (Operator (word 204001))
unfolding at_full
operator-before-size = refl

-- rule: order-at-an-operator
no-element-before-size : at_full (206012 ∷ 201000 ∷ []) ≡ Err (LocalShape (word 206012))
unfolding at_full
no-element-before-size = refl

-- ---- Faults at several descriptors: the first is reported, depth first and from left to right.

-- A replication is checked before its body, and its body before the descriptors that follow.
-- rule: first-descriptor-decides
first-from-the-left :
    (means (12102 ∷ 204001 ∷ []) ≡ Err (UnknownElement (word 12102)))
    × (means (204001 ∷ 12102 ∷ []) ≡ Err (Operator (word 204001)))
    × (means (103001 ∷ 12102 ∷ []) ≡ Err (GroupShape (word 103001)))
    × (means (101001 ∷ 12102 ∷ 204001 ∷ []) ≡ Err (UnknownElement (word 12102)))
    × (means (304001 ∷ 12102 ∷ []) ≡ Err (LocalShape (word 206012)))
unfolding means
first-from-the-left = (refl, refl, refl, refl, refl)

-- The depth and the places of a group are checked before its body.
-- rule: first-descriptor-decides
group-before-its-body :
    (at_full (101002 ∷ 12102 ∷ []) ≡ Err (TemplateSize (word 101002)))
    × (after 65535 0 (101002 ∷ 12102 ∷ []) ≡ Err (Depth (word 101002)))
unfolding at_full after
group-before-its-body = (refl, refl)

-- Fault 25 is checked at the end of a group's body, and at the end for the whole list.
-- rule: first-descriptor-decides
empty-when-done :
    (means (102001 ∷ 201000 ∷ 12102 ∷ []) ≡ Err (UnknownElement (word 12102)))
    × (means (101002 ∷ 201000 ∷ 12102 ∷ []) ≡ Err (EmptyGroup (word 101002)))
    × (means (102002 ∷ 101003 ∷ 201000 ∷ 204001 ∷ []) ≡ Err (EmptyGroup (word 101003)))
    × (means (201000 ∷ 300099 ∷ []) ≡ Err (UnknownSequence (word 300099)))
    × (means (201000 ∷ 101002 ∷ 202000 ∷ []) ≡ Err (EmptyGroup (word 101002)))
unfolding means
empty-when-done = (refl, refl, refl, refl, refl)
