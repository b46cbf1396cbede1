-- Worked examples of writing compressed data.
use Rattle.std.proofs.Common.{◌≡◌, Bool, [], ◌∷◌, ◌++◌, replicate, Ok, Err, pos, refl, codes, take}
use Rattle.bufr_bits.specs.Prelude.{bits_of, bits_in, decimal_value_of}
use Rattle.bufr_tables.specs.declared.table_b.Kind.TheVariants as kind
use Rattle.bufr_walk.specs.declared.spec.TurnRefusal.TheVariants as refusal
use Rattle.bufr_walk.specs.declared.spec.Role.TheVariants as role
use Rattle.bufr_walk.specs.Prelude.{FieldSpec, number, missing, found, packed_field}
use Rattle.bufr_tables.specs.Prelude.{bare, operator}
use Rattle.bufr_fill.specs.Prelude.{draft, text_form, missing_form, reference_token, subset, at_line, item_too_many, too_many_values, walk_refused, item_row, pack_across, packed_filler, k_of, packing}
use Rattle.bufr_fill.specs.declared.fault.ItemFault.TheVariants as wrong
use Rattle.bufr_fill.proofs.ExampleTables.{temperature, block, coded_spec, name, four_letters, delayed_blocks, redefined, width_of_none, numbered, packed_to_bits, ok_bits, zeros, letters}
use Rattle.bufr_fill.specs.declared.fault.Expected.TheVariants as expected

missing_written : packed_to_bits temperature (subset (numbered 24 3173 (codes "288.15") ∷ []) 25 ∷ subset (draft 26 3173 missing_form ∷ []) 27 ∷ []) ≡ ok_bits (112 ∷ 143 ∷ 5 ∷ []) 24
unfolding packed_to_bits ok_bits temperature decimal_value_of bits_in
missing_written = refl

-- rule: packs-all-missing
all_missing : packed_to_bits temperature (subset (draft 24 3173 missing_form ∷ []) 25 ∷ subset (draft 26 3173 missing_form ∷ []) 27 ∷ []) ≡ ok_bits (255 ∷ 255 ∷ 0 ∷ []) 22
unfolding packed_to_bits ok_bits temperature bits_in
all_missing = refl

-- rule: packs-equal
equal_written : packed_to_bits temperature (subset (numbered 24 3173 (codes "288.15") ∷ []) 25 ∷ subset (numbered 26 3173 (codes "288.15") ∷ []) 27 ∷ []) ≡ ok_bits (112 ∷ 143 ∷ 0 ∷ []) 22
unfolding packed_to_bits ok_bits temperature decimal_value_of bits_in
equal_written = refl

-- With k = 1, the second number would read as missing.
-- rule: packs-numbers
differing_written : packed_to_bits temperature (subset (numbered 24 3173 (codes "288.15") ∷ []) 25 ∷ subset (numbered 26 3173 (codes "288.16") ∷ []) 27 ∷ []) ≡ ok_bits (112 ∷ 143 ∷ 8 ∷ 64 ∷ []) 26
unfolding packed_to_bits ok_bits temperature decimal_value_of bits_in
differing_written = refl

-- The base is the least number, wherever it occurs.
-- rule: packs-numbers
least_is_second : packed_to_bits temperature (subset (numbered 24 3173 (codes "288.16") ∷ []) 25 ∷ subset (numbered 26 3173 (codes "288.15") ∷ []) 27 ∷ []) ≡ ok_bits (112 ∷ 143 ∷ 9 ∷ 0 ∷ []) 26
unfolding packed_to_bits ok_bits temperature decimal_value_of bits_in
least_is_second = refl

-- If the first value is missing, it is not the base.
missing_first : packed_to_bits block (subset (draft 24 257 missing_form ∷ []) 25 ∷ subset (numbered 26 257 (codes "10") ∷ []) 27 ∷ []) ≡ ok_bits (20 ∷ 12 ∷ []) 15
unfolding packed_to_bits ok_bits block decimal_value_of bits_in
missing_first = refl

-- If a number is never missing, an increment may be all ones.
-- rule: packs-class-31
figures_written : packed_to_bits coded_spec (subset (numbered 24 7957 (codes "5") ∷ []) 25 ∷ subset (numbered 26 7957 (codes "6") ∷ []) 27 ∷ []) ≡ ok_bits (20 ∷ 20 ∷ []) 14
unfolding packed_to_bits ok_bits coded_spec decimal_value_of bits_in
figures_written = refl

-- rule: packs-texts
name_written : packed_to_bits name (subset (draft 24 271 (text_form (codes "ABC")) ∷ []) 25 ∷ subset (draft 26 271 missing_form ∷ []) 27 ∷ [])
    ≡ ok_bits (zeros 20 (13 ∷ 5 ∷ 9 ∷ 15 ∷ 255 ∷ 255 ∷ 252 ∷ [])) 214
unfolding packed_to_bits ok_bits zeros name bits_in bits_of
name_written = refl

-- rule: packs-equal
names_equal : packed_to_bits four_letters (subset (draft 24 34052 (text_form (codes "AB")) ∷ []) 25 ∷ subset (draft 26 34052 (text_form (codes "AB  ")) ∷ []) 27 ∷ [])
    ≡ ok_bits (65 ∷ 66 ∷ 32 ∷ 32 ∷ 0 ∷ []) 38
unfolding packed_to_bits ok_bits four_letters bits_in bits_of
names_equal = refl

-- With k = 1, the first text would read as missing.
-- rule: packs-texts-not-missing
text_that_begins_with_ones : packed_to_bits four_letters (subset (draft 24 34052 (text_form (255 ∷ [])) ∷ []) 25 ∷ subset (draft 26 34052 (text_form (codes "B")) ∷ []) 27 ∷ [])
    ≡ ok_bits (zeros 4 (11 ∷ 252 ∷ 129 ∷ 8 ∷ 128 ∷ [])) 70
unfolding packed_to_bits ok_bits zeros four_letters bits_in bits_of
text_that_begins_with_ones = refl

-- Texts of 64 octets may differ in octet 63, but not in octet 64.
texts_of_63 : packed_to_bits (operator 34112 bare) (subset (draft 24 34112 (text_form (letters 62 65)) ∷ []) 25 ∷ subset (draft 26 34112 (text_form (letters 62 66)) ∷ []) 27 ∷ [])
    ≡ Ok (replicate 512 Bool.false ++ (bits_in 63 6 ++ bits_of (letters 62 65 ++ letters 62 66)))
unfolding packed_to_bits letters bits_in bits_of
texts_of_63 = refl

-- rule: fault-59
texts_too_long_apart : packed_to_bits (operator 34112 bare) (subset (draft 24 34112 (text_form (letters 63 65)) ∷ []) 25 ∷ subset (draft 26 34112 (text_form (letters 63 66)) ∷ []) 27 ∷ [])
    ≡ Err (at_line 24 wrong.Increment)
unfolding packed_to_bits letters bits_in
texts_too_long_apart = refl

-- The fault is at the first subset whose factor is not that of subset 1.
-- rule: fault-58
factors_unequal : packed_to_bits delayed_blocks
    (subset (numbered 24 7937 (codes "0") ∷ []) 25 ∷ subset (numbered 26 7937 (codes "0") ∷ []) 27 ∷ subset (numbered 28 7937 (codes "1") ∷ numbered 29 257 (codes "1") ∷ []) 30 ∷ [])
    ≡ Err (at_line 28 wrong.UnequalFactor)
unfolding packed_to_bits delayed_blocks decimal_value_of bits_in
factors_unequal = refl

-- rule: packs-factors-and-references
blocks_written : packed_to_bits delayed_blocks
    (subset (numbered 24 7937 (codes "1") ∷ numbered 25 257 (codes "10") ∷ []) 26 ∷ subset (numbered 27 7937 (codes "1") ∷ numbered 28 257 (codes "10") ∷ []) 29 ∷ [])
    ≡ ok_bits (1 ∷ 0 ∷ 80 ∷ 0 ∷ []) 27
unfolding packed_to_bits ok_bits delayed_blocks decimal_value_of bits_in
blocks_written = refl

-- rule: packs-factors-and-references
references_equal : packed_to_bits redefined
    (subset (draft 24 3173 (reference_token (codes "-400")) ∷ numbered 25 3173 (codes "284.15") ∷ []) 26
    ∷ subset (draft 27 3173 (reference_token (codes "-400")) ∷ numbered 28 3173 (codes "284.15") ∷ []) 29 ∷ [])
    ≡ ok_bits (228 ∷ 0 ∷ 112 ∷ 143 ∷ 0 ∷ []) 38
unfolding packed_to_bits ok_bits redefined decimal_value_of bits_in
references_equal = refl

-- rule: fault-59
references_differ : packed_to_bits redefined
    (subset (draft 24 3173 (reference_token (codes "-400")) ∷ []) 26 ∷ subset (draft 27 3173 (reference_token (codes "400")) ∷ []) 29 ∷ []) ≡ Err (at_line 24 wrong.Increment)
unfolding packed_to_bits redefined decimal_value_of bits_in
references_differ = refl

-- The items of all subsets are checked before their contents are packed.
-- rule: fault-order-of-subsets
second_at_fault : packed_to_bits delayed_blocks (subset (numbered 24 7937 (codes "0") ∷ []) 25 ∷ subset (numbered 26 7937 (codes "1") ∷ []) 27 ∷ subset (numbered 28 7937 (codes "1.5") ∷ []) 29 ∷ [])
    ≡ Err (at_line 28 wrong.Number)
unfolding packed_to_bits delayed_blocks decimal_value_of bits_in
second_at_fault = refl

-- rule: fault-order-of-subsets
first_goes_before : packed_to_bits temperature (subset (numbered 24 3173 (codes "655.35") ∷ []) 25 ∷ subset (numbered 26 257 (codes "1") ∷ []) 27 ∷ []) ≡ Err (at_line 24 wrong.OutOfRange)
unfolding packed_to_bits temperature decimal_value_of
first_goes_before = refl

item_left_out : packed_to_bits temperature (subset (numbered 24 3173 (codes "1") ∷ []) 25 ∷ subset [] 26 ∷ []) ≡ Err (at_line 26 (wrong.WrongDescriptor (expected.Item 3173)))
unfolding packed_to_bits temperature decimal_value_of bits_in
item_left_out = refl

none_left : packed_to_bits temperature (subset [] 25 ∷ subset [] 26 ∷ []) ≡ Err (at_line 25 (wrong.WrongDescriptor (expected.Item 3173)))
unfolding packed_to_bits temperature
none_left = refl

item_too_many_in_the_second : packed_to_bits temperature
    (subset (numbered 24 3173 (codes "1") ∷ []) 25 ∷ subset (numbered 26 3173 (codes "1") ∷ numbered 27 3173 (codes "1") ∷ []) 28 ∷ []) ≡ Err (at_line 27 item_too_many)
unfolding packed_to_bits temperature decimal_value_of bits_in
item_too_many_in_the_second = refl

-- A refusal of the walk is on the line of the first subset's next item, or of its end.
width_refused : packed_to_bits width_of_none (subset [] 25 ∷ subset (numbered 26 257 (codes "0") ∷ []) 27 ∷ []) ≡ Err (at_line 25 (walk_refused (refusal.Width 257)))
unfolding packed_to_bits width_of_none
width_refused = refl

no_subsets : packed_to_bits width_of_none [] ≡ Ok []
unfolding packed_to_bits
no_subsets = refl

as_quantity : FieldSpec
as_quantity = record { fxy = 3173; role = role.Element; kind = kind.Numeric; width = 16; scale = pos 2; reference = pos 0; may_be_missing = Bool.true; listed = Bool.true }

-- 134,217,728 values are allowed, but one more is not, and this is reported before a wrong
-- descriptor.
last_value : pack_across as_quantity (item_row 67108863 (subset [] 25 ∷ subset [] 26 ∷ [])) ≡ Err (at_line 25 (wrong.WrongDescriptor (expected.Item 3173)))
unfolding as_quantity
last_value = refl

-- rule: fault-62
values_too_many :
    (pack_across as_quantity (item_row 67108864 (subset [] 25 ∷ subset [] 26 ∷ [])) ≡ Err (at_line 25 (too_many_values 3173)))
    × ((packed_filler 25 Bool.true).none_left as_quantity ≡ at_line 25 (too_many_values 3173))
unfolding as_quantity
values_too_many = (refl, refl)

-- Two temperatures are packed with k = 2. Bits with k = 3, or with a lower base, read as the same
-- temperatures.
least_k_packed : packing as_quantity (number 28815 ∷ number 28816 ∷ []) ≡ Ok (take 26 (bits_of (112 ∷ 143 ∷ 8 ∷ 64 ∷ [])))
unfolding as_quantity bits_in bits_of
least_k_packed = refl

least_k_reported :
    (k_of as_quantity (bits_of (112 ∷ 143 ∷ 8 ∷ 64 ∷ [])) ≡ 2)
    × (packed_field 2 as_quantity (take 28 (bits_of (112 ∷ 143 ∷ 12 ∷ 16 ∷ []))) ≡ Ok (found (number 28815 ∷ number 28816 ∷ []) []))
    × (k_of as_quantity (take 28 (bits_of (112 ∷ 143 ∷ 12 ∷ 16 ∷ []))) ≡ 3)
    × (packed_field 2 as_quantity (take 26 (bits_of (112 ∷ 142 ∷ 9 ∷ 128 ∷ []))) ≡ Ok (found (number 28815 ∷ number 28816 ∷ []) []))
unfolding as_quantity bits_of
least_k_reported = (refl, refl, refl, refl)

-- With k = 1, the second temperature is missing.
lesser_k_read : packed_field 2 as_quantity (take 24 (bits_of (112 ∷ 143 ∷ 5 ∷ []))) ≡ Ok (found (number 28815 ∷ missing ∷ []) [])
unfolding as_quantity bits_of
lesser_k_read = refl
