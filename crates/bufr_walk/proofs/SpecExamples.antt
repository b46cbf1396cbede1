-- Worked examples of fields with operators in effect (2 01 to 2 03, 2 06, 2 07), computed from the
-- definitions.
use Rattle.std.proofs.Common.{◌≡◌, [], ◌∷◌, pos, negsuc, refl, true, false, List}
use Rattle.bufr_tables.specs.Prelude.{bare, element, operator, delayed, fixed, Tree}
use Rattle.bufr_walk.specs.Prelude.{shown_number, shown_reference, shown_text, shown_missing, FieldSpec, Taken, take_next, next_item}
use Rattle.bufr_walk.proofs.ExampleTables.{fxy, done, walk_fault, one, gives, table}
use Rattle.bufr_walk.specs.declared.spec.TurnRefusal.TheVariants as refusal
use Rattle.bufr_tables.specs.declared.table_b.Kind.TheVariants as kind
use Rattle.bufr_walk.specs.declared.spec.Role.TheVariants as role
use Rattle.bufr_walk.specs.declared.spec.Taken.TheVariants as taken

-- Changes of width, scale and precision are added up, and precision also multiplies the reference
-- of Table B. The example fails if only one of them counts, or if the reference is unchanged.
-- rule: 2-01-2-02-2-07-add-up
changes_add : one (operator (fxy 2 1 130) (operator (fxy 2 2 129) (operator (fxy 2 7 2) (element (fxy 0 5 2) bare)))) (13 ∷ 185 ∷ 172 ∷ [])
    ≡ gives ((1282, shown_number (negsuc 499) (pos 5)) ∷ []) (done 0 5)
unfolding one gives fxy
changes_add = refl

-- A later change replaces an earlier one. The example fails if two changes by the same operator are
-- added up.
-- rule: later-operator-replaces
later_change_replaces : one (operator (fxy 2 1 130) (operator (fxy 2 2 130)
    (operator (fxy 2 7 2) (operator (fxy 2 1 132) (operator (fxy 2 2 129) (operator (fxy 2 7 1) (element (fxy 0 12 101) bare))))))) (43 ∷ 247 ∷ 250 ∷ [])
    ≡ gives ((3173, shown_number (pos 2881530) (pos 4)) ∷ []) (done 0 8)
unfolding one gives fxy
later_change_replaces = refl

-- 2 07 000 cancels a change of precision, and Y = 128 changes nothing. The example fails if 2 07
-- 000 is ignored, or if 2 01 128 changes the width.
-- rule: cancel-2-07-and-2-08
changes_cancelled : one (operator (fxy 2 7 1) (operator (fxy 2 7 0) (operator (fxy 2 1 128) (operator (fxy 2 2 128) (element (fxy 0 12 101) bare))))) (112 ∷ 143 ∷ [])
    ≡ gives ((3173, shown_number (pos 28815) (pos 2)) ∷ []) (done 0 6)
unfolding one gives fxy
changes_cancelled = refl

-- A scale may become negative. The example fails if it stops at zero.
-- rule: 2-02-y
scale_below_zero : one (operator (fxy 2 2 125) (element (fxy 0 12 101) bare)) (112 ∷ 143 ∷ [])
    ≡ gives ((3173, shown_number (pos 28815) (negsuc 0)) ∷ []) (done 0 3)
unfolding one gives fxy
scale_below_zero = refl

-- An element of a code table keeps its width, scale and reference. The example fails if a change of
-- scale, width or precision affects it, or if its scale and reference are zero.
-- rule: figures-unchanged
figures_unchanged : one (operator (fxy 2 1 130) (operator (fxy 2 2 129) (operator (fxy 2 7 2) (element (fxy 0 20 3) (element (fxy 0 20 4) bare))))) (2 ∷ 138 ∷ [])
    ≡ gives ((5123, shown_number (pos 5) (pos 0)) ∷ (5124, shown_number (pos 2) (pos 1)) ∷ []) (done 1 6)
unfolding one gives fxy
figures_unchanged = refl

-- A width of 63 bits is allowed and one of 64 bits is not, whatever causes it. A width below zero
-- is refused, just as zero is. The example fails if the bound is different, if only a width after 2
-- 01 Y is checked, or if the end of the data is reported first.
-- rule: widths
width_of_63 :
    (one (operator (fxy 2 1 184) (element (fxy 0 1 1) bare)) (0 ∷ 0 ∷ 0 ∷ 0 ∷ 0 ∷ 0 ∷ 0 ∷ 20 ∷ [])
    ≡ gives ((257, shown_number (pos 10) (pos 0)) ∷ []) (done 1 3))
    × (one (operator (fxy 2 1 185) (element (fxy 0 1 1) bare)) (0 ∷ 0 ∷ 0 ∷ 0 ∷ 0 ∷ 0 ∷ 0 ∷ 20 ∷ [])
    ≡ gives [] (walk_fault (refusal.Width 257) 64 2))
    × (one (operator (fxy 2 7 17) (element (fxy 0 1 1) bare)) []
    ≡ gives [] (walk_fault (refusal.Width 257) 0 2))
    × (one (operator (fxy 2 1 1) (element (fxy 0 1 1) bare)) (20 ∷ [])
    ≡ gives [] (walk_fault (refusal.Width 257) 8 2))
unfolding one gives fxy
width_of_63 = (refl, refl, refl, refl)

-- Elements of class 31 that are not factors are changed like any other quantity, and all ones is a
-- number. The example fails if the class makes a change ineffective, or if all ones means missing.
class_31_all_ones : one (element (fxy 0 31 1) (operator (fxy 2 1 130) (operator (fxy 2 2 129) (operator (fxy 2 7 1) (element (fxy 0 31 1) bare))))) (255 ∷ 255 ∷ 252 ∷ [])
    ≡ gives ((7937, shown_number (pos 255) (pos 0)) ∷ (7937, shown_number (pos 16383) (pos 2)) ∷ []) (done 2 6)
unfolding one gives fxy
class_31_all_ones = refl

-- A factor is read by its row alone, and a redefined reference applies only to its own element. The
-- example fails if a change, a precision or a redefined reference affects a factor, if 2 01, 2 02
-- and 2 07 are not added up, if Y = 0 is ignored, or if 001001 has the reference of 031001.
-- rule: factor-by-entry
factor_by_its_row : one (operator (fxy 2 3 10) (element (fxy 0 31 1)
    (operator (fxy 2 3 255) (operator (fxy 2 1 130) (operator (fxy 2 2 129)
    (operator (fxy 2 7 1) (element (fxy 0 31 1) (delayed (fxy 0 31 1) (operator (fxy 2 1 0) (operator (fxy 2 2 0) (operator (fxy 2 7 0) (element (fxy 0 1 1) bare)))) bare))))))))
    (128 ∷ 128 ∷ 70 ∷ 2 ∷ 20 ∷ 44 ∷ [])
    ≡ gives ((7937, shown_reference (negsuc 1)) ∷ (7937, shown_number (pos 50) (pos 2)) ∷ (7937, shown_number (pos 2) (pos 0)) ∷ (257, shown_number (pos 10) (pos 0))
    ∷ (257, shown_number (pos 11) (pos 0)) ∷ []) (done 2 20)
unfolding one gives fxy
factor_by_its_row = refl

-- ---- Worked examples of redefined references (2 03), and of what is allowed while references are
-- being redefined, computed from the definitions.

-- Precision also multiplies a redefined reference. The example fails if the reference is added
-- unchanged.
-- rule: 2-07-y-of-a-new-reference
precision_of_a_reference : one (operator (fxy 2 1 132) (operator (fxy 2 7 1) (operator (fxy 2 3 10) (element (fxy 0 12 101) (operator (fxy 2 3 255) (element (fxy 0 12 101) bare))))))
    (228 ∷ 1 ∷ 29 ∷ 78 ∷ 64 ∷ [])
    ≡ gives ((3173, shown_reference (negsuc 399)) ∷ (3173, shown_number (pos 288153) (pos 3)) ∷ []) (done 6 7)
unfolding one gives fxy
precision_of_a_reference = refl

-- A redefined reference has the width that 2 03 Y gives, whatever else is in effect. The example
-- fails if a change of width affects it.
reference_width_alone : one (operator (fxy 2 1 121) (operator (fxy 2 3 10) (element (fxy 0 1 1) (operator (fxy 2 3 255) (operator (fxy 2 1 0) (element (fxy 0 1 1) bare)))))) (228 ∷ 5 ∷ 0 ∷ [])
    ≡ gives ((257, shown_reference (negsuc 399)) ∷ (257, shown_number (negsuc 389) (pos 0)) ∷ []) (done 7 7)
unfolding one gives fxy
reference_width_alone = refl

-- A redefined reference of all ones is the least number. If it has one bit, this bit is its sign,
-- and if it has 63 bits, none is lost. The example fails if a redefined reference may be missing,
-- if it is in two's complement, or if it has fewer bits.
-- rule: new-reference
reference_of_all_ones :
    (one (operator (fxy 2 3 10) (element (fxy 0 12 101) (operator (fxy 2 3 255) (element (fxy 0 12 101) bare)))) (255 ∷ 220 ∷ 35 ∷ 192 ∷ [])
    ≡ gives ((3173, shown_reference (negsuc 510)) ∷ (3173, shown_number (pos 28304) (pos 2)) ∷ []) (done 6 5))
    × (one (operator (fxy 2 3 1) (element (fxy 0 12 101) (operator (fxy 2 3 255) (element (fxy 0 12 101) bare)))) (184 ∷ 71 ∷ 128 ∷ [])
    ≡ gives ((3173, shown_reference (pos 0)) ∷ (3173, shown_number (pos 28815) (pos 2)) ∷ []) (done 7 5))
    × (one (operator (fxy 2 3 63) (element (fxy 0 1 1) bare)) (255 ∷ 255 ∷ 255 ∷ 255 ∷ 255 ∷ 255 ∷ 255 ∷ 255 ∷ [])
    ≡ gives ((257, shown_reference (negsuc 4611686018427387902)) ∷ []) (done 1 3))
unfolding one gives fxy
reference_of_all_ones = (refl, refl, refl)

-- 2 03 000 cancels all redefined references, including those of quantities. The example fails if
-- one of them is still in effect.
-- rule: 2-03-000
references_dropped : one (operator (fxy 2 3 10) (element (fxy 0 12 101) (element (fxy 0 1 1) (operator (fxy 2 3 255) (operator (fxy 2 3 0) (element (fxy 0 12 101) (element (fxy 0 1 1) bare)))))))
    (228 ∷ 0 ∷ 87 ∷ 8 ∷ 241 ∷ 64 ∷ [])
    ≡ gives ((3173, shown_reference (negsuc 399)) ∷ (257, shown_reference (pos 5)) ∷ (3173, shown_number (pos 28815) (pos 2)) ∷ (257, shown_number (pos 10) (pos 0)) ∷ []) (done 5 8)
unfolding one gives fxy
references_dropped = refl

-- Another 2 03 Y does not cancel the earlier redefined references, and each of them applies to its
-- own element. The example fails if 2 03 008 cancels them, or if one reference applies to every
-- element.
-- rule: 2-03-y-again
references_kept : one (operator (fxy 2 3 10) (element (fxy 0 12 101)
    (operator (fxy 2 3 255) (operator (fxy 2 3 8) (element (fxy 0 1 1) (operator (fxy 2 3 255) (element (fxy 0 12 101) (element (fxy 0 1 1) bare)))))))) (228 ∷ 1 ∷ 92 ∷ 35 ∷ 197 ∷ 0 ∷ [])
    ≡ gives ((3173, shown_reference (negsuc 399)) ∷ (257, shown_reference (pos 5)) ∷ (3173, shown_number (pos 28415) (pos 2)) ∷ (257, shown_number (pos 15) (pos 0)) ∷ []) (done 7 9)
unfolding one gives fxy
references_kept = refl

-- The last redefined reference of an element counts. The example fails if the first one does.
-- rule: last-reference-counts
latest_reference : one (operator (fxy 2 3 10) (element (fxy 0 12 101) (element (fxy 0 12 101) (operator (fxy 2 3 255) (element (fxy 0 12 101) bare))))) (228 ∷ 6 ∷ 71 ∷ 8 ∷ 240 ∷ [])
    ≡ gives ((3173, shown_reference (negsuc 399)) ∷ (3173, shown_reference (pos 100)) ∷ (3173, shown_number (pos 28915) (pos 2)) ∷ []) (done 4 6)
unfolding one gives fxy
latest_reference = refl

-- 2 03 255 has no effect if no references are being redefined, and the template may end while they
-- are. The example fails if either is a fault.
-- rule: 2-03-255-alone
no_definitions_to_end :
    (one (operator (fxy 2 3 255) (element (fxy 0 1 1) bare)) (20 ∷ [])
    ≡ gives ((257, shown_number (pos 10) (pos 0)) ∷ []) (done 1 3))
    × (one (operator (fxy 2 3 10) (element (fxy 0 12 101) bare)) (228 ∷ 0 ∷ [])
    ≡ gives ((3173, shown_reference (negsuc 399)) ∷ []) (done 6 3))
unfolding one gives fxy
no_definitions_to_end = (refl, refl)

-- A group with a fixed number of passes is allowed while references are being redefined, and it may
-- contain 2 03 255. The example fails if the group is a fault, or if the end of a pass or group
-- restores the operators before it.
-- rule: defining-fixed-groups
defining_passes_a_group :
    (one (operator (fxy 2 3 10) (fixed 2 (element (fxy 0 12 101) (element (fxy 0 20 3) bare)) (operator (fxy 2 3 255) (element (fxy 0 12 101) bare)))) (228 ∷ 0 ∷ 25 ∷ 146 ∷ 2 ∷ 112 ∷ 143 ∷ [])
    ≡ gives ((3173, shown_reference (negsuc 399)) ∷ (5123, shown_reference (pos 1)) ∷ (3173, shown_reference (negsuc 99)) ∷ (5123, shown_reference (negsuc 1))
    ∷ (3173, shown_number (pos 28715) (pos 2)) ∷ []) (done 0 11))
    × (one (operator (fxy 2 3 10) (fixed 2 (element (fxy 0 12 101) (operator (fxy 2 3 255) bare)) bare)) (228 ∷ 28 ∷ 35 ∷ 192 ∷ [])
    ≡ gives ((3173, shown_reference (negsuc 399)) ∷ (3173, shown_number (pos 28415) (pos 2)) ∷ []) (done 6 9))
unfolding one gives fxy
defining_passes_a_group = (refl, refl)

-- While references are being redefined, no change of width, scale, precision or text width is
-- allowed, even after the last reference. The example fails if such an operator is accepted.
-- rule: defining-no-other-operator
width_while_defining :
    (one (operator (fxy 2 3 10) (element (fxy 0 12 101) (operator (fxy 2 1 132) bare))) (228 ∷ 0 ∷ [])
    ≡ gives ((3173, shown_reference (negsuc 399)) ∷ []) (walk_fault (refusal.Defining 33156) 6 3))
    × (one (operator (fxy 2 3 10) (element (fxy 0 12 101) (operator (fxy 2 2 129) bare))) (228 ∷ 0 ∷ [])
    ≡ gives ((3173, shown_reference (negsuc 399)) ∷ []) (walk_fault (refusal.Defining 33409) 6 3))
    × (one (operator (fxy 2 3 10) (element (fxy 0 12 101) (operator (fxy 2 7 1) bare))) (228 ∷ 0 ∷ [])
    ≡ gives ((3173, shown_reference (negsuc 399)) ∷ []) (walk_fault (refusal.Defining 34561) 6 3))
    × (one (operator (fxy 2 3 10) (element (fxy 0 12 101) (operator (fxy 2 8 3) bare))) (228 ∷ 0 ∷ [])
    ≡ gives ((3173, shown_reference (negsuc 399)) ∷ []) (walk_fault (refusal.Defining 34819) 6 3))
unfolding one gives fxy
width_while_defining = (refl, refl, refl, refl)

-- Another 2 03 Y and 2 03 000 are not allowed, either. The example fails if 2 03 008 or 2 03 000 is
-- accepted.
-- rule: defining-no-other-operator
defining_again :
    (one (operator (fxy 2 3 10) (fixed 2 (element (fxy 0 12 101) (operator (fxy 2 3 8) bare)) bare)) (228 ∷ 0 ∷ [])
    ≡ gives ((3173, shown_reference (negsuc 399)) ∷ []) (walk_fault (refusal.Defining 33544) 6 4))
    × (one (operator (fxy 2 3 10) (fixed 2 (element (fxy 0 12 101) (operator (fxy 2 3 0) bare)) bare)) (228 ∷ 0 ∷ [])
    ≡ gives ((3173, shown_reference (negsuc 399)) ∷ []) (walk_fault (refusal.Defining 33536) 6 4))
unfolding one gives fxy
defining_again = (refl, refl)

-- 2 06 Y is not allowed, either. It is refused before its width is checked. The example fails if
-- the fault is at 063255, or if the fault is the width.
-- rule: fault-32-before-31
defining_given : one (operator (fxy 2 3 10) (fixed 2 (operator (fxy 2 6 64) (element (fxy 0 63 255) bare)) bare)) []
    ≡ gives [] (walk_fault (refusal.Defining 34368) 0 3)
unfolding one gives fxy
defining_given = refl

-- An inserted text is not allowed, nor is a factor. The fault is at the factor, not at its group.
-- The example fails if either is read, or if the fault is at the group.
-- rule: defining-no-inserted-text
defining_inserted : one (operator (fxy 2 3 10) (fixed 2 (operator (fxy 2 5 1) bare) bare)) (65 ∷ 66 ∷ [])
    ≡ gives [] (walk_fault (refusal.Defining 34049) 16 3)
unfolding one gives fxy
defining_inserted = refl

-- rule: defining-no-delayed-group
defining_delayed : one (operator (fxy 2 3 10) (fixed 2 (delayed (fxy 0 31 1) (element (fxy 0 1 1) bare) bare) bare)) (2 ∷ 20 ∷ 44 ∷ [])
    ≡ gives [] (walk_fault (refusal.Defining 7937) 24 4)
unfolding one gives fxy
defining_delayed = refl

-- ---- Worked examples of widths that 2 06 Y gives, computed from the definitions.

-- If 2 06 Y gives the same width as Table B, the element is read by its row alone: as a quantity,
-- an element of a code table, or a text. The width applies only to this element. The example fails
-- if the changes, redefined references or text width in effect apply to it, if it is read as an
-- unsigned number, or if the next element is read by its row alone as well.
-- rule: 2-06-y-width-of-table-b
given_table_width :
    (one (operator (fxy 2 3 10) (element (fxy 0 12 101) (operator (fxy 2 3 255)
    (operator (fxy 2 1 132) (operator (fxy 2 2 129) (operator (fxy 2 7 1) (operator (fxy 2 6 16) (element (fxy 0 12 101) (element (fxy 0 12 101) bare)))))))))
    (228 ∷ 28 ∷ 35 ∷ 203 ∷ 1 ∷ 223 ∷ 0 ∷ [])
    ≡ gives ((3173, shown_reference (negsuc 399)) ∷ (3173, shown_number (pos 28815) (pos 2)) ∷ (3173, shown_number (pos 2881500) (pos 4)) ∷ []) (done 6 10))
    × (one (operator (fxy 2 3 10) (element (fxy 0 20 3) (operator (fxy 2 3 255) (operator (fxy 2 6 9) (element (fxy 0 20 3) (element (fxy 0 20 3) bare)))))) (228 ∷ 0 ∷ 160 ∷ 80 ∷ [])
    ≡ gives ((5123, shown_reference (negsuc 399)) ∷ (5123, shown_number (pos 5) (pos 0)) ∷ (5123, shown_number (negsuc 394) (pos 0)) ∷ []) (done 4 7))
    × (one (operator (fxy 2 8 3) (operator (fxy 2 6 160) (element (fxy 0 1 15) (element (fxy 0 1 15) bare))))
    (48 ∷ 49 ∷ 50 ∷ 51 ∷ 52 ∷ 53 ∷ 54 ∷ 55 ∷ 56 ∷ 57 ∷ 65 ∷ 66 ∷ 67 ∷ 68 ∷ 69 ∷ 70 ∷ 71 ∷ 72 ∷ 73 ∷ 74 ∷ 88 ∷ 89 ∷ 90 ∷ [])
    ≡ gives ((271, shown_text (48 ∷ 49 ∷ 50 ∷ 51 ∷ 52 ∷ 53 ∷ 54 ∷ 55 ∷ 56 ∷ 57 ∷ 65 ∷ 66 ∷ 67 ∷ 68 ∷ 69 ∷ 70 ∷ 71 ∷ 72 ∷ 73 ∷ 74 ∷ [])) ∷ (271, shown_text (88 ∷ 89 ∷ 90 ∷ [])) ∷ []) (done 0 5))
unfolding one gives fxy
given_table_width = (refl, refl, refl)

-- If 2 06 Y gives a width other than that of Table B, the element is an unsigned number with scale
-- and reference zero, and no operator applies. The example fails if a scale, a reference, a change
-- or a redefined reference applies, or if a text is read as a text.
-- rule: 2-06-y-other-width
given_other_width :
    (one (operator (fxy 2 3 10) (element (fxy 0 5 2) (operator (fxy 2 3 255)
    (operator (fxy 2 1 132) (operator (fxy 2 2 129) (operator (fxy 2 7 1) (operator (fxy 2 6 12) (element (fxy 0 5 2) bare)))))))) (228 ∷ 3 ∷ 212 ∷ [])
    ≡ gives ((1282, shown_reference (negsuc 399)) ∷ (1282, shown_number (pos 245) (pos 0)) ∷ []) (done 2 9))
    × (one (operator (fxy 2 6 16) (element (fxy 0 1 15) bare)) (65 ∷ 66 ∷ [])
    ≡ gives ((271, shown_number (pos 16706) (pos 0)) ∷ []) (done 0 3))
unfolding one gives fxy
given_other_width = (refl, refl)

-- If 2 06 Y gives the width, all ones means missing, whether or not Table B has the element. The
-- example fails if all ones is a number.
given_missing : one (operator (fxy 2 6 12) (element (fxy 0 63 255) (operator (fxy 2 6 12) (element (fxy 0 12 101) bare)))) (255 ∷ 255 ∷ 255 ∷ [])
    ≡ gives ((16383, shown_missing) ∷ (3173, shown_missing) ∷ []) (done 0 5)
unfolding one gives fxy
given_missing = refl

-- In class 31, this is not so. The example fails if all ones means missing there.
-- rule: 2-06-y-of-class-31
given_class_31 : one (operator (fxy 2 6 12) (element (fxy 0 31 21) (operator (fxy 2 6 4) (element (fxy 0 31 255) bare)))) (255 ∷ 255 ∷ [])
    ≡ gives ((7957, shown_number (pos 4095) (pos 0)) ∷ (8191, shown_number (pos 15) (pos 0)) ∷ []) (done 0 5)
unfolding one gives fxy
given_class_31 = refl

-- 2 06 Y may give a number 63 bits, but not 64. This is checked before the data are, and also if a
-- text is read as a number. The example fails if the bound is different, or if the end of the data
-- is reported first.
given_63 :
    (one (operator (fxy 2 6 63) (element (fxy 0 63 255) bare)) (0 ∷ 0 ∷ 0 ∷ 0 ∷ 0 ∷ 0 ∷ 0 ∷ 21 ∷ [])
    ≡ gives ((16383, shown_number (pos 10) (pos 0)) ∷ []) (done 1 3))
    × (one (operator (fxy 2 6 64) (element (fxy 0 63 255) bare)) []
    ≡ gives [] (walk_fault (refusal.Width 16383) 0 2))
    × (one (operator (fxy 2 6 64) (element (fxy 0 63 255) bare)) (0 ∷ 0 ∷ 0 ∷ 0 ∷ 0 ∷ 0 ∷ 0 ∷ 0 ∷ [])
    ≡ gives [] (walk_fault (refusal.Width 16383) 64 2))
    × (one (operator (fxy 2 6 128) (element (fxy 0 1 15) bare)) (0 ∷ 0 ∷ 0 ∷ 0 ∷ 0 ∷ 0 ∷ 0 ∷ 0 ∷ 0 ∷ 0 ∷ 0 ∷ 0 ∷ 0 ∷ 0 ∷ 0 ∷ 0 ∷ [])
    ≡ gives [] (walk_fault (refusal.Width 271) 128 2))
unfolding one gives fxy
given_63 = (refl, refl, refl, refl)

-- Worked examples of the fields of a walk: role, kind, width, scale and reference, whether all ones
-- means missing, and whether the field is listed (read by its row of Table B).

-- This field comes next after these answers.
abbrev asks : Tree → List Taken → FieldSpec → Type 0
asks tree answers spec = next_item table tree answers ≡ take_next spec

-- A quantity and an element of a code table are listed and may be missing, but operators in effect
-- change only the quantity. The example fails if the other element loses its kind, scale or
-- reference.
quantity_asked :
    (asks (operator (fxy 2 1 132) (operator (fxy 2 2 129) (operator (fxy 2 7 1) (element (fxy 0 5 2) bare)))) []
    (record { fxy = 1282; role = role.Element; kind = kind.Numeric; width = 23; scale = pos 4; reference = negsuc 89999; may_be_missing = true; listed = true }))
    × (asks (operator (fxy 2 1 130) (operator (fxy 2 2 129) (operator (fxy 2 7 2) (element (fxy 0 20 4) bare)))) []
    (record { fxy = 5124; role = role.Element; kind = kind.Coded; width = 6; scale = pos 1; reference = negsuc 2; may_be_missing = true; listed = true }))
    × (asks (operator (fxy 2 3 10) (element (fxy 0 5 2) (operator (fxy 2 3 255) (operator (fxy 2 7 2) (element (fxy 0 5 2) bare))))) (taken.Reference (negsuc 399) ∷ [])
    (record { fxy = 1282; role = role.Element; kind = kind.Numeric; width = 22; scale = pos 4; reference = negsuc 39999; may_be_missing = true; listed = true }))
unfolding table next_item fxy
quantity_asked = (refl, refl, refl)

-- In class 31, quantities and elements of code tables are never missing, but texts may be. The
-- example fails if the class makes a difference for a text, or none for the other elements.
figure_of_class_31_asked :
    (asks (operator (fxy 2 1 132) (operator (fxy 2 2 129) (operator (fxy 2 7 1) (element (fxy 0 31 21) bare)))) []
    (record { fxy = 7957; role = role.Element; kind = kind.Coded; width = 6; scale = pos 0; reference = pos 0; may_be_missing = false; listed = true }))
    × (asks (operator (fxy 2 1 130) (element (fxy 0 31 1) bare)) []
    (record { fxy = 7937; role = role.Element; kind = kind.Numeric; width = 10; scale = pos 0; reference = pos 0; may_be_missing = false; listed = true }))
    × (asks (element (fxy 0 31 250) bare) [] (record { fxy = 8186; role = role.Element; kind = kind.Character; width = 8; scale = pos 0; reference = pos 0; may_be_missing = true; listed = true }))
unfolding table next_item fxy
figure_of_class_31_asked = (refl, refl, refl)

-- If 2 06 Y gives the same width as Table B, the element is listed and has the kind of its row. The
-- example fails if it is an unsigned number, or if another operator affects it.
given_table_width_asked :
    (asks (operator (fxy 2 1 132) (operator (fxy 2 2 129) (operator (fxy 2 7 1) (operator (fxy 2 6 16) (element (fxy 0 12 101) bare))))) []
    (record { fxy = 3173; role = role.Element; kind = kind.Numeric; width = 16; scale = pos 2; reference = pos 0; may_be_missing = true; listed = true }))
    × (asks (operator (fxy 2 1 132) (operator (fxy 2 6 9) (element (fxy 0 20 3) bare))) []
    (record { fxy = 5123; role = role.Element; kind = kind.Coded; width = 9; scale = pos 0; reference = pos 0; may_be_missing = true; listed = true }))
    × (asks (operator (fxy 2 8 3) (operator (fxy 2 6 160) (element (fxy 0 1 15) bare))) []
    (record { fxy = 271; role = role.Element; kind = kind.Character; width = 160; scale = pos 0; reference = pos 0; may_be_missing = true; listed = true }))
unfolding table next_item fxy
given_table_width_asked = (refl, refl, refl)

-- If 2 06 Y gives another width, the element is an unsigned number that is not listed. In class 31,
-- it is never missing. The example fails if the element has the unit of its row.
given_other_width_asked :
    (asks (operator (fxy 2 6 12) (element (fxy 0 5 2) bare)) [] (record {
      fxy = 1282;
      role = role.Element;
      kind = kind.Numeric;
      width = 12;
      scale = pos 0;
      reference = pos 0;
      may_be_missing = true;
      listed = false;
    }))
    × (asks (operator (fxy 2 6 12) (element (fxy 0 63 255) bare)) []
    (record { fxy = 16383; role = role.Element; kind = kind.Numeric; width = 12; scale = pos 0; reference = pos 0; may_be_missing = true; listed = false }))
    × (asks (operator (fxy 2 6 12) (element (fxy 0 20 3) bare)) []
    (record { fxy = 5123; role = role.Element; kind = kind.Numeric; width = 12; scale = pos 0; reference = pos 0; may_be_missing = true; listed = false }))
    × (asks (operator (fxy 2 6 16) (element (fxy 0 1 15) bare)) []
    (record { fxy = 271; role = role.Element; kind = kind.Numeric; width = 16; scale = pos 0; reference = pos 0; may_be_missing = true; listed = false }))
    × (asks (operator (fxy 2 6 12) (element (fxy 0 31 21) bare)) []
    (record { fxy = 7957; role = role.Element; kind = kind.Numeric; width = 12; scale = pos 0; reference = pos 0; may_be_missing = false; listed = false }))
unfolding table next_item fxy
given_other_width_asked = (refl, refl, refl, refl, refl)

-- A factor is listed, is read by its row alone, and is never missing, even inside a group and after
-- one. The example fails if a change of width affects it, or if it has the role of an element.
factor_asked :
    (asks (operator (fxy 2 1 132) (delayed (fxy 0 31 1) (element (fxy 0 1 1) bare) bare)) []
    (record { fxy = 7937; role = role.Factor; kind = kind.Numeric; width = 8; scale = pos 0; reference = pos 0; may_be_missing = false; listed = true }))
    × (asks (delayed (fxy 0 31 1) (delayed (fxy 0 31 0) (element (fxy 0 1 1) bare) bare) bare) (taken.Count 1 ∷ [])
    (record { fxy = 7936; role = role.Factor; kind = kind.Numeric; width = 1; scale = pos 0; reference = pos 0; may_be_missing = false; listed = true }))
    × (asks (delayed (fxy 0 31 1) (element (fxy 0 1 1) bare) (delayed (fxy 0 31 2) bare bare)) (taken.Count 1 ∷ taken.Plain ∷ [])
    (record { fxy = 7938; role = role.Factor; kind = kind.Numeric; width = 16; scale = pos 0; reference = pos 0; may_be_missing = false; listed = true }))
unfolding table next_item fxy
factor_asked = (refl, refl, refl)

-- A redefined reference has the width that 2 03 Y gives, is not listed, and is never missing. The
-- example fails if a change affects it, or if it may be missing.
reference_asked : asks (operator (fxy 2 1 132) (operator (fxy 2 7 1) (operator (fxy 2 3 10) (element (fxy 0 20 3) bare)))) []
    (record { fxy = 5123; role = role.Reference; kind = kind.Numeric; width = 10; scale = pos 0; reference = pos 0; may_be_missing = false; listed = false })
unfolding table next_item fxy
reference_asked = refl

-- A text of Table B is listed and has the text width in effect. An inserted text is not listed and
-- has its own width. The example fails if one is taken for the other.
text_asked :
    (asks (operator (fxy 2 8 3) (element (fxy 0 1 15) bare)) [] (record {
      fxy = 271;
      role = role.Element;
      kind = kind.Character;
      width = 24;
      scale = pos 0;
      reference = pos 0;
      may_be_missing = true;
      listed = true;
    }))
    × (asks (operator (fxy 2 8 3) (operator (fxy 2 5 4) bare)) [] (record {
      fxy = 34052;
      role = role.Inserted;
      kind = kind.Character;
      width = 32;
      scale = pos 0;
      reference = pos 0;
      may_be_missing = true;
      listed = false;
    }))
unfolding table next_item fxy
text_asked = (refl, refl)
