-- Worked examples of compressed data, computed from the definitions.
use Rattle.std.proofs.Common.{◌≡◌, ◌*◌, ◌+◌, ◌++◌, ap, arith, ℕ, zero, suc, true, false, [], ◌∷◌, Some, None, pos, negsuc, refl, nat_lt, List}
use Rattle.bufr_tables.specs.Prelude.{bare, element, operator, delayed}
use Rattle.bufr_walk.specs.declared.spec.TurnRefusal.TheVariants as refusal
use Rattle.bufr_walk.specs.declared.spec.Taken.TheVariants as taken
use Rattle.bufr_walk.specs.Prelude.{Content, next_item, shown_number, shown_text, shown_missing, shown_reference, packed, max_values, Passing, EndsPass, Place, Stop, reading, place_at, would_be_many, PackedValues, items_between, IsSameInAll, range_calls, packed_calls, packed_values, IsPackedOf, read_by, data_in, unsigned_field, number, timed, item_call, subset_call, view, Item}
use Rattle.bufr_walk.specs.declared.walker.WalkStop.TheVariants as stops
use Rattle.bufr_walk.specs.declared.fault.DataFault.TheVariants as wrong
use Rattle.bufr_walk.proofs.ExampleTables.{fxy, table, done, walk_fault, field_fault, together, gives}

-- If the base is all ones, the item is missing in all subsets, whatever the increments are, but the
-- increments must be present. The example fails if the base is read as a number, if an increment
-- past the width is a fault, if the increments are read as the next item, or if they may be absent.
-- rule: compressed-all-missing
base_of_all_ones :
    (together 2 (element (fxy 0 12 101) (element (fxy 0 1 1) bare)) (255 ∷ 255 ∷ 9 ∷ 5 ∷ 0 ∷ [])
    ≡ gives ((3173, shown_missing ∷ shown_missing ∷ []) ∷ (257, shown_number (pos 10) (pos 0) ∷ shown_number (pos 10) (pos 0) ∷ []) ∷ []) (done 1 3))
    × (together 2 (element (fxy 0 12 101) bare) (255 ∷ 255 ∷ 0 ∷ [])
    ≡ gives ((3173, shown_missing ∷ shown_missing ∷ []) ∷ []) (done 2 2))
unfolding together gives fxy
base_of_all_ones = (refl, refl)

-- rule: compressed-increments-there
base_of_all_ones_data_end : together 2 (element (fxy 0 12 101) bare) (255 ∷ 255 ∷ 128 ∷ [])
    ≡ gives [] (field_fault 3173 wrong.DataEnd 24 1)
unfolding together gives fxy
base_of_all_ones_data_end = refl

-- An increment of all ones means missing, whatever the sum is, even if it has more bits than the
-- item. The example fails if the sum or the number of bits is a fault.
-- rule: compressed-missing-increment
increment_of_all_ones :
    (together 2 (element (fxy 0 1 1) bare) (252 ∷ 17 ∷ 128 ∷ [])
    ≡ gives ((257, shown_number (pos 126) (pos 0) ∷ shown_missing ∷ []) ∷ []) (done 7 2))
    × (together 2 (element (fxy 0 1 1) bare) (10 ∷ 80 ∷ 7 ∷ 255 ∷ 128 ∷ [])
    ≡ gives ((257, shown_number (pos 8) (pos 0) ∷ shown_missing ∷ []) ∷ []) (done 7 2))
unfolding together gives fxy
increment_of_all_ones = (refl, refl)

-- If an increment is absent, the data end. The example fails if an invalid increment before it is
-- reported instead.
increment_data_end : together 3 (element (fxy 0 1 1) bare) (252 ∷ 20 ∷ [])
    ≡ gives [] (field_fault 257 wrong.DataEnd 16 1)
unfolding together gives fxy
increment_data_end = refl

-- In class 31, a base, an increment or a sum of all ones is a number, and a sum past the width is a
-- fault. The example fails if one of these numbers is missing, or if the sum wraps around.
-- rule: compressed-class-31
class_31_together :
    (together 2 (element (fxy 0 31 1) (element (fxy 0 31 1) (element (fxy 0 31 1) (element (fxy 0 31 21) bare)))) (255 ∷ 4 ∷ 250 ∷ 11 ∷ 127 ∷ 129 ∷ 127 ∷ 0 ∷ [])
    ≡ gives ((7937, shown_number (pos 255) (pos 0) ∷ shown_number (pos 255) (pos 0) ∷ []) ∷ (7937, shown_number (pos 253) (pos 0) ∷ shown_number (pos 251) (pos 0) ∷ [])
    ∷ (7937, shown_number (pos 254) (pos 0) ∷ shown_number (pos 255) (pos 0) ∷ []) ∷ (7957, shown_number (pos 63) (pos 0) ∷ shown_number (pos 63) (pos 0) ∷ []) ∷ []) (done 2 5))
    × (together 2 (element (fxy 0 31 1) bare) (255 ∷ 5 ∷ [])
    ≡ gives [] (field_fault 7937 wrong.Increment 16 1))
unfolding together gives fxy
class_31_together = (refl, refl)

-- Data of a single subset may be compressed, too, with an increment for this subset. The example
-- fails if they are read as plain data.
one_subset_together : together 1 (element (fxy 0 1 1) bare) (20 ∷ 18 ∷ []) ≡ gives ((257, shown_number (pos 11) (pos 0) ∷ []) ∷ []) (done 1 2)
unfolding together gives fxy
one_subset_together = refl

-- Operators have the same effect on compressed data as on plain data. The example fails if a change
-- is not in effect, or if a text is read while references are being redefined.
changes_together :
    (together 2 (operator (fxy 2 3 10) (element (fxy 0 5 2) (operator (fxy 2 3 255) (operator (fxy 2 1 130) (operator (fxy 2 2 129) (operator (fxy 2 7 1) (element (fxy 0 5 2) bare)))))))
    (228 ∷ 0 ∷ 0 ∷ 125 ∷ 0 ∷ 76 ∷ [])
    ≡ gives ((1282, shown_reference (negsuc 399) ∷ shown_reference (negsuc 399) ∷ []) ∷ (1282, shown_number (pos 1) (pos 4) ∷ shown_number (pos 2) (pos 4) ∷ []) ∷ []) (done 1 8))
    × (together 2 (operator (fxy 2 3 10) (element (fxy 0 1 15) bare)) []
    ≡ gives [] (walk_fault (refusal.Defining 271) 0 2))
unfolding together gives fxy
changes_together = (refl, refl)

-- A text has k octets, followed by spaces. The example fails if the text is cut off or padded with
-- zeros, if the base is its beginning, or if k counts bits.
texts_of_one_base : together 2 (operator (fxy 2 5 2) (operator (fxy 2 5 2) bare)) (65 ∷ 66 ∷ 3 ∷ 255 ∷ 252 ∷ 0 ∷ [])
    ≡ gives ((34050, shown_text (65 ∷ 66 ∷ []) ∷ shown_text (65 ∷ 66 ∷ []) ∷ []) ∷ (34050, shown_missing ∷ shown_missing ∷ []) ∷ []) (done 4 3)
unfolding together gives fxy
texts_of_one_base = refl

-- rule: compressed-text
texts_of_one_octet : together 2 (operator (fxy 2 5 2) bare) (88 ∷ 89 ∷ 5 ∷ 5 ∷ 8 ∷ [])
    ≡ gives ((34050, shown_text (65 ∷ 32 ∷ []) ∷ shown_text (66 ∷ 32 ∷ []) ∷ []) ∷ []) (done 2 2)
unfolding together gives fxy
texts_of_one_octet = refl

-- A text is missing only if all of its octets are 255. If k is not 0, the base is ignored. The
-- example fails if a shorter text of 255s is shown, if as many octets as the item has are a fault,
-- or if a base of all ones makes all subsets missing.
-- rule: compressed-text-base
text_of_255 : together 2 (operator (fxy 2 5 2) bare) (255 ∷ 255 ∷ 11 ∷ 255 ∷ 255 ∷ 255 ∷ 248 ∷ [])
    ≡ gives ((34050, shown_missing ∷ shown_text (255 ∷ 254 ∷ []) ∷ []) ∷ []) (done 2 2)
unfolding together gives fxy
text_of_255 = refl

-- rule: compressed-text-missing
text_of_255_shorter : together 2 (operator (fxy 2 5 2) bare) (0 ∷ 0 ∷ 7 ∷ 253 ∷ 4 ∷ [])
    ≡ gives ((34050, shown_missing ∷ shown_text (65 ∷ 32 ∷ []) ∷ []) ∷ []) (done 2 2)
unfolding together gives fxy
text_of_255_shorter = refl

-- If k exceeds the length of the text, it is a fault, but the end of the data is reported first.
-- The example fails if the octets are accepted, or if the faults are in the other order.
-- rule: compressed-text-past-width
text_octets_over_the_width : together 2 (operator (fxy 2 5 2) bare) (0 ∷ 0 ∷ 12 ∷ 0 ∷ 0 ∷ 0 ∷ 0 ∷ 0 ∷ 0 ∷ [])
    ≡ gives [] (field_fault 34050 wrong.Increment 72 1)
unfolding together gives fxy
text_octets_over_the_width = refl

-- rule: fault-30-before-34
text_octets_past_the_data : together 2 (operator (fxy 2 5 2) bare) (0 ∷ 0 ∷ 12 ∷ [])
    ≡ gives [] (field_fault 34050 wrong.DataEnd 24 1)
unfolding together gives fxy
text_octets_past_the_data = refl

-- A factor may have increments if all of its counts are equal, and a count may be all ones. The
-- example fails if increments are a fault, if the base alone is the count, or if all ones means
-- missing.
-- rule: compressed-factors
factor_with_increments :
    (together 2 (delayed (fxy 0 31 1) (element (fxy 0 1 1) bare) bare) (1 ∷ 12 ∷ 145 ∷ 64 ∷ 11 ∷ 0 ∷ [])
    ≡ gives ((7937, shown_number (pos 2) (pos 0) ∷ shown_number (pos 2) (pos 0) ∷ []) ∷ (257, shown_number (pos 10) (pos 0) ∷ shown_number (pos 10) (pos 0) ∷ [])
    ∷ (257, shown_number (pos 11) (pos 0) ∷ shown_number (pos 11) (pos 0) ∷ []) ∷ []) (done 2 7))
    × (together 2 (delayed (fxy 0 31 0) (element (fxy 0 1 1) bare) bare) (3 ∷ 138 ∷ 0 ∷ [])
    ≡ gives ((7936, shown_number (pos 1) (pos 0) ∷ shown_number (pos 1) (pos 0) ∷ []) ∷ (257, shown_number (pos 10) (pos 0) ∷ shown_number (pos 10) (pos 0) ∷ []) ∷ []) (done 2 5))
    × (together 2 (delayed (fxy 0 31 0) (element (fxy 0 1 1) bare) bare) (128 ∷ 40 ∷ 0 ∷ [])
    ≡ gives ((7936, shown_number (pos 1) (pos 0) ∷ shown_number (pos 1) (pos 0) ∷ []) ∷ (257, shown_number (pos 10) (pos 0) ∷ shown_number (pos 10) (pos 0) ∷ []) ∷ []) (done 4 5))
unfolding together gives fxy
factor_with_increments = (refl, refl, refl)

-- For a factor, too, the end of the data is reported first, and then a sum past the width. The
-- example fails if the counts are compared before that.
factor_data_end : together 2 (delayed (fxy 0 31 1) (element (fxy 0 1 1) bare) bare) (1 ∷ 241 ∷ [])
    ≡ gives [] (field_fault 7937 wrong.DataEnd 16 2)
unfolding together gives fxy
factor_data_end = refl

-- rule: fault-34-before-33
factor_past_the_width : together 2 (delayed (fxy 0 31 1) (element (fxy 0 1 1) bare) bare) (255 ∷ 5 ∷ [])
    ≡ gives [] (field_fault 7937 wrong.Increment 16 2)
unfolding together gives fxy
factor_past_the_width = refl

-- A redefined reference has no increments and is never missing. The example fails if increments are
-- read or skipped, if the end of the data is reported before them, or if all ones means missing.
reference_together :
    (together 2 (operator (fxy 2 3 10) (element (fxy 0 12 101) (operator (fxy 2 3 255) (element (fxy 0 12 101) bare)))) (228 ∷ 0 ∷ 112 ∷ 143 ∷ 5 ∷ [])
    ≡ gives ((3173, shown_reference (negsuc 399) ∷ shown_reference (negsuc 399) ∷ []) ∷ (3173, shown_number (pos 28415) (pos 2) ∷ shown_missing ∷ []) ∷ []) (done 0 5))
    × (together 2 (operator (fxy 2 3 10) (element (fxy 0 12 101) bare)) (228 ∷ 1 ∷ [])
    ≡ gives [] (field_fault 3173 wrong.Increment 16 2))
    × (together 2 (operator (fxy 2 3 11) (element (fxy 0 12 101) bare)) (255 ∷ 255 ∷ [])
    ≡ gives [] (field_fault 3173 wrong.DataEnd 16 2))
    × (together 2 (operator (fxy 2 3 10) (element (fxy 0 12 101) bare)) (255 ∷ 192 ∷ [])
    ≡ gives ((3173, shown_reference (negsuc 510) ∷ shown_reference (negsuc 510) ∷ []) ∷ []) (done 0 3))
unfolding together gives fxy
reference_together = (refl, refl, refl, refl)

-- the reading of data with the largest number of subsets
abbrev full : Passing Place (List Content) Stop
full = reading (packed 65535) (would_be_many 65535)

-- More than 134,217,728 values are too many. They are counted before an item is read, and after the
-- walk has accepted it. The example fails if the end of the data is reported first, if a refused
-- width, or a text while references are being redefined, is reported later, or if the limit is
-- different.
-- rule: compressed-fault-order
too_many_before_the_data_end :
    EndsPass full (next_item table (element (fxy 0 12 101) bare) []) (place_at 2048 []) (Some (stops.Field (wrong.TooManyValues 3173)))
    × EndsPass (reading (packed 2) (would_be_many 65535)) (next_item table (element (fxy 0 12 101) bare) []) (place_at 2047 []) (Some (stops.Field (wrong.DataEnd 3173)))
    × EndsPass full (next_item table (operator (fxy 2 1 121) (element (fxy 0 1 1) bare)) []) (place_at 2048 []) (Some (stops.Width 257))
    × EndsPass full (next_item table (operator (fxy 2 3 10) (element (fxy 0 1 15) bare)) []) (place_at 2048 []) (Some (stops.Defining 271))
    × EndsPass full (next_item table (element (fxy 0 12 101) bare) (taken.Plain ∷ [])) (place_at 2048 []) None
unfolding table next_item fxy
too_many_before_the_data_end = (refl, refl, refl, refl, refl)

-- rule: too-many-values
just_not_too_many :
    (nat_lt max_values (4096 * 32768) ≡ false)
    × (nat_lt max_values (4096 * 32768 + 1) ≡ true)
just_not_too_many = (refl, refl)

-- ---- How compressed data are shown.

-- one item that is the same in both subsets, and one that is not
abbrev two_items : PackedValues
two_items = record {
  table = [];
  subsets = 2;
  items = record { spec = unsigned_field 257 7; content = number 1 ∷ number 1 ∷ [] } ∷ record { spec = unsigned_field 258 7; content = number 2 ∷ number 3 ∷ [] } ∷ [];
}

-- The example fails if indices count from 1, or if the item before the second index is left out.
between_indices : (items_between two_items 1 1 2 ≡ record { spec = unsigned_field 258 7; content = number 3 } ∷ []) × (items_between two_items 1 1 1 ≡ [])
between_indices = (refl, refl)

-- The first item is the same in all subsets, the second one is not. The example fails if only one
-- subset is examined.
alike_or_not : IsSameInAll two_items 0 × (IsSameInAll two_items 1 → ⊥)
alike_or_not = (alike, λ h. other (h 1 (omega arith)))
  where
    alike : IsSameInAll two_items 0
    alike zero below = refl
    alike (suc zero) below = refl
    alike (suc (suc j)) below = absurd (omega (arith, below))

    raw_in : Content → ℕ
    raw_in (number raw) = raw
    raw_in _ = 0

    counts : List (Item Content) → ℕ
    counts [] = 0
    counts (i ∷ items) = raw_in i.content

    other : items_between two_items 1 1 2 ≡ items_between two_items 0 1 2 → ⊥
    other e = let same : 3 ≡ 2 = ap counts e in omega (arith, same)

calls_of_two : (range_calls two_items 1 0 2 ≡ timed 0 (item_call (view 257 None (shown_number (pos 1) (pos 0)))) ∷ timed 0 (item_call (view 258 None (shown_number (pos 3) (pos 0)))) ∷ [])
    × (packed_calls two_items ≡ timed 0 (subset_call 1) ∷ range_calls two_items 0 0 2 ++ timed 0 (subset_call 2) ∷ range_calls two_items 1 0 2)
calls_of_two = (refl, refl)

-- If there are no subsets, nothing is read or stored.
packed_of_none : IsPackedOf (packed_values [] [] 0 []) (read_by [] bare (data_in true 0 []) 0 0)
packed_of_none = record { table = refl; subsets = refl; values = refl }
