-- Worked examples of groups, of several subsets, and of data that end too early, computed from the
-- definitions.
use Rattle.bufr_walk.specs.Pass.{reading_in}
use Rattle.std.proofs.Common.{◌≡◌, ℕ, Bool, true, false, List, [], ◌∷◌, pos, negsuc, refl, take, drop, None}
use Rattle.bufr_bits.specs.Prelude.{bits_of}
use Rattle.bufr_tables.specs.declared.table_b.Kind.TheVariants as kind
use Rattle.bufr_tables.specs.Prelude.{Tree, bare, element, operator, fixed, delayed}
use Rattle.bufr_walk.specs.declared.spec.Role.TheVariants as role
use Rattle.bufr_walk.specs.Prelude.{next_item, counted_item, Content, reference, number, text, shown_number, shown_text, shown_reference, Item, turns_in, apart, answer_of}
use Rattle.bufr_walk.proofs.ExampleTables.{fxy, table, done, field_fault, one, two, gives}
use Rattle.bufr_walk.specs.declared.fault.DataFault.TheVariants as wrong

-- An operator in a group stays in effect in the next pass. The example fails if the end of a pass
-- cancels a change, if the group has only one pass, or if turns are counted differently.
fixed_group : one (fixed 2 (element (fxy 0 1 1) (operator (fxy 2 1 129) bare)) bare) (20 ∷ 22 ∷ [])
    ≡ gives ((257, shown_number (pos 10) (pos 0)) ∷ (257, shown_number (pos 11) (pos 0)) ∷ []) (done 1 8)
unfolding one gives fxy
fixed_group = refl

-- The counts are in the order of the data, and an inner group has a new count in each pass of the
-- outer group. A group without passes has no counts inside it. The example fails if the counts of
-- inner and outer groups are confused, or if one count serves all passes.
group_in_a_group :
    (one (delayed (fxy 0 31 1) (delayed (fxy 0 31 1) (element (fxy 0 1 1) bare) bare) bare) (2 ∷ 1 ∷ 20 ∷ 4 ∷ 44 ∷ 96 ∷ [])
    ≡ gives ((7937, shown_number (pos 2) (pos 0)) ∷ (7937, shown_number (pos 1) (pos 0)) ∷ (257, shown_number (pos 10) (pos 0)) ∷ (7937, shown_number (pos 2) (pos 0))
    ∷ (257, shown_number (pos 11) (pos 0)) ∷ (257, shown_number (pos 12) (pos 0)) ∷ []) (done 3 15))
    × (one (delayed (fxy 0 31 1) (element (fxy 0 1 1) bare) (delayed (fxy 0 31 0) (element (fxy 0 12 101) bare) bare)) (1 ∷ 21 ∷ 112 ∷ 143 ∷ [])
    ≡ gives ((7937, shown_number (pos 1) (pos 0)) ∷ (257, shown_number (pos 10) (pos 0)) ∷ (7936, shown_number (pos 1) (pos 0)) ∷ (3173, shown_number (pos 28815) (pos 2)) ∷ []) (done 0 9))
    × (one (delayed (fxy 0 31 1) (delayed (fxy 0 31 1) (element (fxy 0 1 1) bare) bare) (element (fxy 0 1 1) bare)) (0 ∷ 20 ∷ [])
    ≡ gives ((7937, shown_number (pos 0) (pos 0)) ∷ (257, shown_number (pos 10) (pos 0)) ∷ []) (done 1 4))
unfolding one gives fxy
group_in_a_group = (refl, refl, refl)

-- The data may end at a factor, or at the first or the last item of a group. The example fails if
-- an earlier item is dropped, or if the location is different.
data_end_at_a_factor :
    (one (delayed (fxy 0 31 1) (element (fxy 0 1 1) bare) bare) [] ≡ gives [] (field_fault 7937 wrong.DataEnd 0 2))
    × (one (delayed (fxy 0 31 1) (element (fxy 0 1 1) bare) bare) (2 ∷ []) ≡ gives ((7937, shown_number (pos 2) (pos 0)) ∷ []) (field_fault 257 wrong.DataEnd 0 3))
    × (one (delayed (fxy 0 31 1) (element (fxy 0 1 1) bare) bare) (2 ∷ 20 ∷ [])
    ≡ gives ((7937, shown_number (pos 2) (pos 0)) ∷ (257, shown_number (pos 10) (pos 0)) ∷ []) (field_fault 257 wrong.DataEnd 1 5))
unfolding one gives fxy
data_end_at_a_factor = (refl, refl, refl)

-- Operators are in effect until the end of their subset. The example fails if a width, a scale, a
-- precision or a redefined reference is still in effect in the next subset.
changed_after : Tree
unfolding fxy
changed_after = element (fxy 0 12 101) (operator (fxy 2 1 132) (operator (fxy 2 2 129) (operator (fxy 2 7 1) (operator (fxy 2 3 10) (element (fxy 0 12 101) (operator (fxy 2 3 255) bare))))))

-- rule: operators-end-with-subset
changes_end_with_the_subset : two changed_after (112 ∷ 143 ∷ 228 ∷ 28 ∷ 35 ∷ 249 ∷ 0 ∷ [])
    ≡ gives ((3173, shown_number (pos 28815) (pos 2)) ∷ (3173, shown_reference (negsuc 399)) ∷ []) (done 30 8)
    ∷ gives ((3173, shown_number (pos 28815) (pos 2)) ∷ (3173, shown_reference (negsuc 399)) ∷ []) (done 4 8) ∷ []
unfolding two gives changed_after
changes_end_with_the_subset = refl

-- This includes the redefinition of references. The example fails if references are still being
-- redefined when the next subset begins.
defining_after : Tree
unfolding fxy
defining_after = element (fxy 0 1 1) (operator (fxy 2 3 10) (element (fxy 0 1 1) bare))

-- rule: operators-end-with-subset
definitions_end_with_the_subset : two defining_after (21 ∷ 200 ∷ 10 ∷ 228 ∷ 0 ∷ [])
    ≡ gives ((257, shown_number (pos 10) (pos 0)) ∷ (257, shown_reference (negsuc 399)) ∷ []) (done 23 4)
    ∷ gives ((257, shown_number (pos 10) (pos 0)) ∷ (257, shown_reference (negsuc 399)) ∷ []) (done 6 4) ∷ []
unfolding two gives defining_after
definitions_end_with_the_subset = refl

-- It also includes the width of texts. The example fails if the second text has two octets.
text_width_after : Tree
unfolding fxy
text_width_after = element (fxy 0 31 250) (operator (fxy 2 8 2) bare)

text_width_ends_with_the_subset : two text_width_after (65 ∷ 66 ∷ [])
    ≡ gives ((8186, shown_text (65 ∷ [])) ∷ []) (done 8 3) ∷ gives ((8186, shown_text (66 ∷ [])) ∷ []) (done 0 3) ∷ []
unfolding two gives text_width_after
text_width_ends_with_the_subset = refl

-- The data may end in a later subset. The example fails if the bit after the first subset is read
-- as a second one.
data_end_in_second_subset : two (element (fxy 0 1 1) bare) (20 ∷ []) ≡ gives ((257, shown_number (pos 10) (pos 0)) ∷ []) (done 1 2) ∷ gives [] (field_fault 257 wrong.DataEnd 1 1) ∷ []
unfolding two gives fxy
data_end_in_second_subset = refl

-- the same data, for the definition that reads all subsets
data_of_two : List Bool
unfolding bits_of
data_of_two = take 52 (bits_of (112 ∷ 143 ∷ 228 ∷ 28 ∷ 35 ∷ 249 ∷ 0 ∷ []))

at_288_15 : Item Content
at_288_15 = record {
  spec = record { fxy = 3173; role = role.Element; kind = kind.Numeric; width = 16; scale = pos 2; reference = pos 0; may_be_missing = true; listed = true };
  content = number 28815;
}

minus_400 : ℕ → Item Content
minus_400 fxy = record {
  spec = record { fxy = fxy; role = role.Reference; kind = kind.Numeric; width = 10; scale = pos 0; reference = pos 0; may_be_missing = false; listed = false };
  content = reference (negsuc 399);
}

-- rule: subsets-without-padding
reading_of_changes : reading_in (next_item table changed_after) false 2 data_of_two
    ≡ record { values = apart ((at_288_15 ∷ minus_400 3173 ∷ []) ∷ (at_288_15 ∷ minus_400 3173 ∷ []) ∷ []); stop = None; subset = 2; left = [] }
unfolding table changed_after at_288_15 minus_400 next_item data_of_two
reading_of_changes = refl

block_10 : Item Content
block_10 = record {
  spec = record { fxy = 257; role = role.Element; kind = kind.Numeric; width = 7; scale = pos 0; reference = pos 0; may_be_missing = true; listed = true };
  content = number 10;
}

data_of_definitions : List Bool
unfolding bits_of
data_of_definitions = bits_of (21 ∷ 200 ∷ 10 ∷ 228 ∷ 0 ∷ [])

reading_of_definitions : reading_in (next_item table defining_after) false 2 data_of_definitions
    ≡ record { values = apart ((block_10 ∷ minus_400 257 ∷ []) ∷ (block_10 ∷ minus_400 257 ∷ []) ∷ []); stop = None; subset = 2; left = drop 34 data_of_definitions }
unfolding table defining_after block_10 minus_400 next_item data_of_definitions
reading_of_definitions = refl

letter : ℕ → Item Content
letter octet = record {
  spec = record { fxy = 8186; role = role.Element; kind = kind.Character; width = 8; scale = pos 0; reference = pos 0; may_be_missing = true; listed = true };
  content = text (octet ∷ []);
}

-- rule: subsets-without-padding
reading_of_letters : reading_in (next_item table text_width_after) false 2 (bits_of (65 ∷ 66 ∷ []))
    ≡ record { values = apart ((letter 65 ∷ []) ∷ (letter 66 ∷ []) ∷ []); stop = None; subset = 2; left = [] }
unfolding table text_width_after letter next_item bits_of
reading_of_letters = refl

-- The turns of all subsets are added up. The example fails if each subset is counted separately.
turns_of_both : turns_in answer_of (counted_item table changed_after) ((at_288_15 ∷ minus_400 3173 ∷ []) ∷ (at_288_15 ∷ minus_400 3173 ∷ []) ∷ []) ≡ 16
unfolding table changed_after at_288_15 minus_400 next_item
turns_of_both = refl
