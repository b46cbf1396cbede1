-- Worked examples of readings and texts, computed from the definitions.
use Rattle.bufr_walk.specs.Pass.{reading_in}
use Rattle.std.proofs.Common.{◌≡◌, ℕ, zero, suc, true, false, map, List, [], ◌∷◌, pos, negsuc, refl, None}
use Rattle.bufr_bits.specs.Prelude.{bits_of}
use Rattle.bufr_tables.specs.Prelude.{Tree, bare, element, operator, delayed}
use Rattle.bufr_walk.specs.Prelude.{FieldSpec, Content, number, text, missing, reference, same, shown_number, shown_text, shown_missing, shown_reference, next_item, Item, apart}
use Rattle.bufr_walk.proofs.ExampleTables.{fxy, table, done, walk_fault, field_fault, one, together, gives}
use Rattle.bufr_tables.specs.declared.table_b.Kind.TheVariants as kind
use Rattle.bufr_walk.specs.declared.spec.TurnRefusal.TheVariants as refusal
use Rattle.bufr_walk.specs.declared.spec.Role.TheVariants as role
use Rattle.bufr_walk.specs.declared.fault.DataFault.TheVariants as wrong

-- Two contents are the same if they have the same kind and the same value.
contents_compared : map (λ c. same c (number 2)) (number 2 ∷ number 3 ∷ missing ∷ []) ≡ true ∷ false ∷ false ∷ []
contents_compared = refl

texts_compared : map (same (text (65 ∷ 66 ∷ []))) (text (65 ∷ 66 ∷ []) ∷ text (65 ∷ 67 ∷ []) ∷ text (65 ∷ []) ∷ []) ≡ true ∷ false ∷ false ∷ []
texts_compared = refl

references_compared : map (same (reference (pos 1))) (reference (pos 1) ∷ reference (pos 2) ∷ reference (negsuc 0) ∷ []) ≡ true ∷ false ∷ false ∷ []
references_compared = refl

one_temperature : one (element (fxy 0 12 101) bare) (112 ∷ 143 ∷ []) ≡ gives ((3173, shown_number (pos 28815) (pos 2)) ∷ []) (done 0 2)
unfolding one gives fxy
one_temperature = refl

-- rule: missing
one_temperature_missing : one (element (fxy 0 12 101) bare) (255 ∷ 255 ∷ []) ≡ gives ((3173, shown_missing) ∷ []) (done 0 2)
unfolding one gives fxy
one_temperature_missing = refl

delayed_blocks : Tree
unfolding fxy
delayed_blocks = delayed (fxy 0 31 1) (element (fxy 0 1 1) bare) bare

-- rule: passes-by-count
delayed_twice :
    (one delayed_blocks (2 ∷ 20 ∷ 44 ∷ []) ≡ gives ((7937, shown_number (pos 2) (pos 0)) ∷ (257, shown_number (pos 10) (pos 0)) ∷ (257, shown_number (pos 11) (pos 0)) ∷ []) (done 2 7))
    × (one delayed_blocks (0 ∷ []) ≡ gives ((7937, shown_number (pos 0) (pos 0)) ∷ []) (done 0 3))
unfolding one gives delayed_blocks
delayed_twice = (refl, refl)

-- The data end at bit 22 of 24.
-- rule: field-past-end
delayed_past_the_end : one delayed_blocks (255 ∷ 20 ∷ 44 ∷ []) ≡ gives ((7937, shown_number (pos 255) (pos 0)) ∷ (257, shown_number (pos 10) (pos 0)) ∷ (257, shown_number (pos 11) (pos 0)) ∷ [])
    (field_fault 257 wrong.DataEnd 2 7)
unfolding one gives delayed_blocks
delayed_past_the_end = refl

short_factor : one (delayed (fxy 0 31 0) (element (fxy 0 1 1) bare) bare) (138 ∷ []) ≡ gives ((7936, shown_number (pos 1) (pos 0)) ∷ (257, shown_number (pos 10) (pos 0)) ∷ []) (done 0 5)
unfolding one gives fxy
short_factor = refl

-- rule: 2-01-y, 2-02-y, cancel-2-01-and-2-02
width_and_scale_changed : one
    (operator (fxy 2 1 132) (operator (fxy 2 2 129) (element (fxy 0 12 101) (operator (fxy 2 1 0) (operator (fxy 2 2 0) (element (fxy 0 12 101) bare))))))
    (70 ∷ 89 ∷ 151 ∷ 8 ∷ 240 ∷ []) ≡ gives ((3173, shown_number (pos 288153) (pos 3)) ∷ (3173, shown_number (pos 28815) (pos 2)) ∷ []) (done 4 7)
unfolding one gives fxy
width_and_scale_changed = refl

-- rule: 2-03-y, new-reference-of-quantities
redefined_reference : one
    (operator (fxy 2 3 10) (element (fxy 0 12 101) (operator (fxy 2 3 255) (element (fxy 0 12 101) bare))))
    (228 ∷ 28 ∷ 35 ∷ 192 ∷ []) ≡ gives ((3173, shown_reference (negsuc 399)) ∷ (3173, shown_number (pos 28415) (pos 2)) ∷ []) (done 6 5)
unfolding one gives fxy
redefined_reference = refl

-- rule: 2-07-y
increased_precision :
    (one (operator (fxy 2 7 1) (element (fxy 0 12 101) (element (fxy 0 20 3) bare))) (70 ∷ 89 ∷ 144 ∷ 40 ∷ [])
    ≡ gives ((3173, shown_number (pos 288153) (pos 3)) ∷ (5123, shown_number (pos 5) (pos 0)) ∷ []) (done 3 4))
    × (one (operator (fxy 2 1 121) (element (fxy 0 1 1) bare)) (0 ∷ []) ≡ gives [] (walk_fault (refusal.Width 257) 8 2))
unfolding one gives fxy
increased_precision = (refl, refl)

-- rule: 2-01-y
width_of_one :
    (one (operator (fxy 2 1 122) (element (fxy 0 1 1) bare)) (0 ∷ []) ≡ gives ((257, shown_number (pos 0) (pos 0)) ∷ []) (done 7 3))
    × (one (operator (fxy 2 1 122) (element (fxy 0 1 1) bare)) (128 ∷ []) ≡ gives ((257, shown_missing) ∷ []) (done 7 3))
unfolding one gives fxy
width_of_one = (refl, refl)

-- rule: 2-06-y
local_descriptor : one (operator (fxy 2 6 12) (element (fxy 0 63 255) bare)) (15 ∷ 80 ∷ []) ≡ gives ((16383, shown_number (pos 245) (pos 0)) ∷ []) (done 4 3)
unfolding one gives fxy
local_descriptor = refl

-- rule: 2-05-y
inserted_text : one (operator (fxy 2 5 4) bare) (34 ∷ 92 ∷ 10 ∷ 254 ∷ []) ≡ gives ((34052, shown_text (34 ∷ 92 ∷ 10 ∷ 254 ∷ [])) ∷ []) (done 0 2)
unfolding one gives fxy
inserted_text = refl

-- rule: value
negative_latitude : one (element (fxy 0 5 2) bare) (70 ∷ 70 ∷ []) ≡ gives ((1282, shown_number (negsuc 4) (pos 2)) ∷ []) (done 1 2)
unfolding one gives fxy
negative_latitude = refl

-- rule: defining-no-text
defining_text : one (operator (fxy 2 3 10) (element (fxy 0 1 15) bare)) (0 ∷ 0 ∷ []) ≡ gives [] (walk_fault (refusal.Defining 271) 16 2)
unfolding one gives fxy
defining_text = refl

-- rule: 2-08-y
text_width_changed : one (operator (fxy 2 8 3) (element (fxy 0 1 15) bare)) (65 ∷ 66 ∷ 67 ∷ []) ≡ gives ((271, shown_text (65 ∷ 66 ∷ 67 ∷ [])) ∷ []) (done 0 3)
unfolding one gives fxy
text_width_changed = refl

-- rule: compressed-item
compressed_missing : together 2 (element (fxy 0 12 101) bare) (112 ∷ 143 ∷ 5 ∷ []) ≡ gives ((3173, shown_number (pos 28815) (pos 2) ∷ shown_missing ∷ []) ∷ []) (done 0 2)
unfolding together gives fxy
compressed_missing = refl

zeros : ℕ → List ℕ → List ℕ
zeros zero more = more
zeros (suc n) more = 0 ∷ zeros n more

spaces : ℕ → List ℕ
spaces zero = []
spaces (suc n) = 32 ∷ spaces n

compressed_name :
    (together 2 (element (fxy 0 1 15) bare) (zeros 20 (17 ∷ 5 ∷ 9 ∷ 12 ∷ 131 ∷ 255 ∷ 255 ∷ 255 ∷ 252 ∷ []))
    ≡ gives ((271, shown_text (65 ∷ 66 ∷ 67 ∷ spaces 17) ∷ shown_missing ∷ []) ∷ []) (done 2 2))
    × (together 2 (element (fxy 0 1 15) bare) (zeros 20 (13 ∷ 5 ∷ 9 ∷ 15 ∷ 255 ∷ 255 ∷ 252 ∷ []))
    ≡ gives ((271, shown_text (65 ∷ 66 ∷ 67 ∷ spaces 17) ∷ shown_missing ∷ []) ∷ []) (done 2 2))
unfolding together gives fxy zeros spaces
compressed_name = (refl, refl)

-- rule: compressed-factors
factors_differ : together 2 delayed_blocks (1 ∷ 5 ∷ []) ≡ gives [] (field_fault 7937 wrong.UnequalFactor 16 2)
unfolding together gives delayed_blocks
factors_differ = refl

-- rule: compressed-past-width
increment_past_the_width : together 2 (element (fxy 0 1 1) bare) (252 ∷ 17 ∷ 0 ∷ []) ≡ gives [] (field_fault 257 wrong.Increment 24 1)
unfolding together gives fxy
increment_past_the_width = refl

-- rule: compressed-sum-of-ones
increment_to_all_ones : together 2 (element (fxy 0 1 1) bare) (252 ∷ 16 ∷ 128 ∷ []) ≡ gives ((257, shown_number (pos 126) (pos 0) ∷ shown_missing ∷ []) ∷ []) (done 7 2)
unfolding together gives fxy
increment_to_all_ones = refl

-- rule: reads-minus-zero
minus_zero : one
    (operator (fxy 2 3 10) (element (fxy 0 12 101) (operator (fxy 2 3 255) (element (fxy 0 12 101) bare))))
    (128 ∷ 28 ∷ 35 ∷ 192 ∷ []) ≡ gives ((3173, shown_reference (pos 0)) ∷ (3173, shown_number (pos 28815) (pos 2)) ∷ []) (done 6 5)
unfolding one gives fxy
minus_zero = refl

-- two subsets, each from the beginning of the template
widened_again : Tree
unfolding fxy
widened_again = element (fxy 0 12 101) (operator (fxy 2 1 132) bare)

as_quantity : FieldSpec
as_quantity = record { fxy = 3173; role = role.Element; kind = kind.Numeric; width = 16; scale = pos 2; reference = pos 0; may_be_missing = true; listed = true }

at_288_15 : Item Content
at_288_15 = record { spec = as_quantity; content = number 28815 }

each_from_the_beginning : reading_in (next_item table widened_again) false 2 (bits_of (112 ∷ 143 ∷ 112 ∷ 143 ∷ []))
    ≡ record { values = apart ((at_288_15 ∷ []) ∷ (at_288_15 ∷ []) ∷ []); stop = None; subset = 2; left = [] }
unfolding table widened_again as_quantity at_288_15 next_item bits_of
each_from_the_beginning = refl

-- A width that 2 06 Y gives applies to one descriptor only.
-- rule: 2-06-y-used-up
given_width_is_used_up : one (operator (fxy 2 6 12) (element (fxy 0 63 255) (element (fxy 0 1 1) bare))) (15 ∷ 81 ∷ 64 ∷ [])
    ≡ gives ((16383, shown_number (pos 245) (pos 0)) ∷ (257, shown_number (pos 10) (pos 0)) ∷ []) (done 5 4)
unfolding one gives fxy
given_width_is_used_up = refl

-- A redefined reference applies to an element of a code table, but no other change does. 2 03 000
-- cancels it.
-- rule: new-reference-of-figures
figures_take_a_reference : one
    (operator (fxy 2 7 1) (operator (fxy 2 1 132) (operator (fxy 2 3 10) (element (fxy 0 20 3) (operator (fxy 2 3 255) (element (fxy 0 20 3) (operator (fxy 2 3 0) (element (fxy 0 20 3) bare))))))))
    (228 ∷ 0 ∷ 160 ∷ 80 ∷ []) ≡ gives ((5123, shown_reference (negsuc 399)) ∷ (5123, shown_number (negsuc 394) (pos 0)) ∷ (5123, shown_number (pos 5) (pos 0)) ∷ []) (done 4 9)
unfolding one gives fxy
figures_take_a_reference = refl

-- An element of a code table in class 31 is never missing.
-- rule: class-31-never-missing
figures_never_missing : one (operator (fxy 2 1 132) (element (fxy 0 31 21) bare)) (252 ∷ []) ≡ gives ((7957, shown_number (pos 63) (pos 0)) ∷ []) (done 2 3)
unfolding one gives fxy
figures_never_missing = refl

-- An inserted text of all ones is missing.
-- rule: missing-inserted-text
inserted_missing : one (operator (fxy 2 5 1) bare) (255 ∷ []) ≡ gives ((34049, shown_missing) ∷ []) (done 0 2)
unfolding one gives fxy
inserted_missing = refl

-- If the base is all ones, all subsets are missing, and the increments are skipped.
base_missing : together 2 (element (fxy 0 1 1) bare) (254 ∷ 16 ∷ 128 ∷ []) ≡ gives ((257, shown_missing ∷ shown_missing ∷ []) ∷ []) (done 7 2)
unfolding together gives fxy
base_missing = refl

-- In class 31, a base of all ones is a number.
base_never_missing : together 2 (element (fxy 0 31 21) bare) (252 ∷ 16 ∷ []) ≡ gives ((7957, shown_number (pos 63) (pos 0) ∷ shown_number (pos 63) (pos 0) ∷ []) ∷ []) (done 2 2)
unfolding together gives fxy
base_never_missing = refl

-- In class 31, an increment of all ones is a number, too.
increment_never_missing : together 2 (element (fxy 0 31 21) bare) (20 ∷ 44 ∷ []) ≡ gives ((7957, shown_number (pos 8) (pos 0) ∷ shown_number (pos 5) (pos 0) ∷ []) ∷ []) (done 0 2)
unfolding together gives fxy
increment_never_missing = refl

-- In class 31, a sum of all ones is a number, too.
sum_never_missing : together 2 (element (fxy 0 31 21) bare) (248 ∷ 36 ∷ []) ≡ gives ((7957, shown_number (pos 63) (pos 0) ∷ shown_number (pos 62) (pos 0) ∷ []) ∷ []) (done 0 2)
unfolding together gives fxy
sum_never_missing = refl

-- In class 31, a sum past the width is still a fault.
sum_past_the_width : together 2 (element (fxy 0 31 21) bare) (248 ∷ 40 ∷ []) ≡ gives [] (field_fault 7957 wrong.Increment 16 1)
unfolding together gives fxy
sum_past_the_width = refl

-- The value of k exceeds the length of the text.
octets_past_the_text : together 2 (operator (fxy 2 5 1) bare) (0 ∷ 8 ∷ 0 ∷ 0 ∷ 0 ∷ 0 ∷ []) ≡ gives [] (field_fault 34049 wrong.Increment 48 1)
unfolding together gives fxy
octets_past_the_text = refl

-- The end of the data is reported first.
octets_past_the_end : together 2 (operator (fxy 2 5 1) bare) (0 ∷ 8 ∷ []) ≡ gives [] (field_fault 34049 wrong.DataEnd 16 1)
unfolding together gives fxy
octets_past_the_end = refl

-- A factor may have increments if all of its counts are equal.
factor_with_increments : together 2 delayed_blocks (1 ∷ 4 ∷ 20 ∷ 0 ∷ [])
    ≡ gives ((7937, shown_number (pos 1) (pos 0) ∷ shown_number (pos 1) (pos 0) ∷ []) ∷ (257, shown_number (pos 10) (pos 0) ∷ shown_number (pos 10) (pos 0) ∷ []) ∷ []) (done 3 5)
unfolding together gives delayed_blocks
factor_with_increments = refl

-- A redefined reference is the same in all subsets.
-- rule: compressed-equal
reference_together : together 2 (operator (fxy 2 3 10) (element (fxy 0 12 101) bare)) (228 ∷ 0 ∷ []) ≡ gives ((3173, shown_reference (negsuc 399) ∷ shown_reference (negsuc 399) ∷ []) ∷ []) (done 0 3)
unfolding together gives fxy
reference_together = refl

-- rule: compressed-references
reference_with_increments : together 2 (operator (fxy 2 3 10) (element (fxy 0 12 101) bare)) (228 ∷ 1 ∷ []) ≡ gives [] (field_fault 3173 wrong.Increment 16 2)
unfolding together gives fxy
reference_with_increments = refl

-- ---- Worked examples of texts (2 05, 2 08), computed from the definitions.

-- A text is missing only if all of its octets are 255, even if 2 05 Y inserts it. The example fails
-- if such a text is shown.
text_missing : one (operator (fxy 2 8 2) (element (fxy 0 1 15) (operator (fxy 2 5 2) (operator (fxy 2 5 2) bare)))) (255 ∷ 255 ∷ 255 ∷ 255 ∷ 255 ∷ 254 ∷ [])
    ≡ gives ((271, shown_missing) ∷ (34050, shown_missing) ∷ (34050, shown_text (255 ∷ 254 ∷ [])) ∷ []) (done 0 5)
unfolding one gives fxy
text_missing = refl

-- A text of class 31 may be missing. The example fails if its class makes it a text of 255.
-- rule: class-31-never-missing
text_of_class_31 : one (element (fxy 0 31 250) bare) (255 ∷ [])
    ≡ gives ((8186, shown_missing) ∷ []) (done 0 2)
unfolding one gives fxy
text_of_class_31 = refl

-- Texts are not affected by changes of width or precision. The example fails if such a change
-- affects a text of Table B, an inserted text, or a text after 2 08 Y.
texts_unchanged : one (operator (fxy 2 1 136) (operator (fxy 2 2 129) (operator (fxy 2 7 1) (element (fxy 0 31 250) (operator (fxy 2 5 1) (operator (fxy 2 8 1) (element (fxy 0 1 15) bare)))))))
    (65 ∷ 66 ∷ 67 ∷ [])
    ≡ gives ((8186, shown_text (65 ∷ [])) ∷ (34049, shown_text (66 ∷ [])) ∷ (271, shown_text (67 ∷ [])) ∷ []) (done 0 8)
unfolding one gives fxy
texts_unchanged = refl

-- An inserted text has its own width. The example fails if 2 08 Y affects it.
inserted_width_alone : one (operator (fxy 2 8 3) (operator (fxy 2 5 2) bare)) (65 ∷ 66 ∷ [])
    ≡ gives ((34050, shown_text (65 ∷ 66 ∷ [])) ∷ []) (done 0 3)
unfolding one gives fxy
inserted_width_alone = refl

-- A later 2 08 Y replaces an earlier one, and 2 08 000 cancels it. The example fails if the widths
-- are added up, or if 2 08 000 is ignored.
-- rule: cancel-2-07-and-2-08
text_width_cancelled : one (operator (fxy 2 8 5) (operator (fxy 2 8 3) (element (fxy 0 1 15) (operator (fxy 2 8 0) (element (fxy 0 1 15) bare)))))
    (88 ∷ 89 ∷ 90 ∷ 48 ∷ 49 ∷ 50 ∷ 51 ∷ 52 ∷ 53 ∷ 54 ∷ 55 ∷ 56 ∷ 57 ∷ 65 ∷ 66 ∷ 67 ∷ 68 ∷ 69 ∷ 70 ∷ 71 ∷ 72 ∷ 73 ∷ 74 ∷ [])
    ≡ gives ((271, shown_text (88 ∷ 89 ∷ 90 ∷ [])) ∷ (271, shown_text (48 ∷ 49 ∷ 50 ∷ 51 ∷ 52 ∷ 53 ∷ 54 ∷ 55 ∷ 56 ∷ 57 ∷ 65 ∷ 66 ∷ 67 ∷ 68 ∷ 69 ∷ 70 ∷ 71 ∷ 72 ∷ 73 ∷ 74 ∷ [])) ∷ []) (done 0 6)
unfolding one gives fxy
text_width_cancelled = refl
