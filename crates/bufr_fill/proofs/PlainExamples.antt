-- Worked examples of writing plain data.
use Rattle.std.proofs.Common.{◌≡◌, [], ◌∷◌, Err, refl, codes}
use Rattle.bufr_bits.specs.Prelude.{bits_of, bits_in, decimal_value_of}
use Rattle.bufr_walk.specs.declared.spec.TurnRefusal.TheVariants as refusal
use Rattle.bufr_fill.specs.Prelude.{draft, text_form, missing_form, reference_token, subset, subsets_of, Holds, Ends, at_line, item_too_many, walk_refused}
use Rattle.bufr_fill.specs.declared.fault.ItemFault.TheVariants as wrong
use Rattle.bufr_fill.proofs.ExampleTables.{temperature, latitude, coded_spec, four_letters, delayed_blocks, redefined, width_of_none, numbered, plain_bits, ok_bits}
use Rattle.bufr_fill.specs.declared.fault.Expected.TheVariants as expected

-- the greatest number that does not read as missing
temperature_written : plain_bits temperature (subset (numbered 24 3173 (codes "655.34") ∷ []) 25 ∷ []) ≡ ok_bits (255 ∷ 254 ∷ []) 16
unfolding plain_bits ok_bits temperature decimal_value_of bits_in
temperature_written = refl

-- rule: fault-53
temperature_would_be_missing : plain_bits temperature (subset (numbered 24 3173 (codes "655.35") ∷ []) 25 ∷ []) ≡ Err (at_line 24 wrong.OutOfRange)
unfolding plain_bits temperature decimal_value_of
temperature_would_be_missing = refl

-- rule: fault-52
temperature_inexact : plain_bits temperature (subset (numbered 24 3173 (codes "288.155") ∷ []) 25 ∷ []) ≡ Err (at_line 24 wrong.Number)
unfolding plain_bits temperature decimal_value_of
temperature_inexact = refl

-- If a number is not whole and also too great, the first of these faults is reported.
-- rule: fault-order-of-an-item
temperature_inexact_and_great : plain_bits temperature (subset (numbered 24 3173 (codes "700.155") ∷ []) 25 ∷ []) ≡ Err (at_line 24 wrong.Number)
unfolding plain_bits temperature decimal_value_of
temperature_inexact_and_great = refl

-- rule: fault-52
no_decimal : plain_bits temperature (subset (numbered 24 3173 (codes "2-8") ∷ []) 25 ∷ []) ≡ Err (at_line 24 wrong.Number)
unfolding plain_bits temperature decimal_value_of
no_decimal = refl

-- A number of more than 127 bits is out of range.
number_too_great : plain_bits temperature (subset (numbered 24 3173 (codes "9999999999999999999999999999999999999999") ∷ []) 25 ∷ []) ≡ Err (at_line 24 wrong.OutOfRange)
unfolding plain_bits temperature decimal_value_of
number_too_great = refl

temperature_missing : plain_bits temperature (subset (draft 24 3173 missing_form ∷ []) 25 ∷ []) ≡ ok_bits (255 ∷ 255 ∷ []) 16
unfolding plain_bits ok_bits temperature
temperature_missing = refl

-- rule: fault-52
text_for_a_number : plain_bits temperature (subset (draft 24 3173 (text_form (codes "28815")) ∷ []) 25 ∷ []) ≡ Err (at_line 24 wrong.Number)
unfolding plain_bits temperature
text_for_a_number = refl

-- The reference is subtracted.
negative_latitude : plain_bits latitude (subset (numbered 24 1282 (codes "-0.05") ∷ []) 25 ∷ []) ≡ ok_bits (70 ∷ 70 ∷ []) 15
unfolding plain_bits ok_bits latitude decimal_value_of bits_in
negative_latitude = refl

-- rule: fault-53
under_the_reference : plain_bits latitude (subset (numbered 24 1282 (codes "-90.01") ∷ []) 25 ∷ []) ≡ Err (at_line 24 wrong.OutOfRange)
unfolding plain_bits latitude decimal_value_of
under_the_reference = refl

-- In class 31, all ones is a number, and a number is never missing.
figure_of_all_ones : plain_bits coded_spec (subset (numbered 24 7957 (codes "63") ∷ []) 25 ∷ []) ≡ ok_bits (252 ∷ []) 6
unfolding plain_bits ok_bits coded_spec decimal_value_of bits_in
figure_of_all_ones = refl

-- rule: fault-55
figure_missing : plain_bits coded_spec (subset (draft 24 7957 missing_form ∷ []) 25 ∷ []) ≡ Err (at_line 24 wrong.MissingForbidden)
unfolding plain_bits coded_spec
figure_missing = refl

-- rule: fault-55
factor_missing : plain_bits delayed_blocks (subset (draft 24 7937 missing_form ∷ []) 25 ∷ []) ≡ Err (at_line 24 wrong.MissingForbidden)
unfolding plain_bits delayed_blocks
factor_missing = refl

blocks_written : plain_bits delayed_blocks (subset (numbered 24 7937 (codes "2") ∷ numbered 25 257 (codes "10") ∷ numbered 26 257 (codes "11") ∷ []) 27 ∷ []) ≡ ok_bits (2 ∷ 20 ∷ 44 ∷ []) 22
unfolding plain_bits ok_bits delayed_blocks decimal_value_of bits_in
blocks_written = refl

-- A short text is padded with spaces.
-- rule: fault-54
text_written :
    (plain_bits four_letters (subset (draft 24 34052 (text_form (codes "AB")) ∷ []) 25 ∷ []) ≡ ok_bits (65 ∷ 66 ∷ 32 ∷ 32 ∷ []) 32)
    × (plain_bits four_letters (subset (draft 24 34052 missing_form ∷ []) 25 ∷ []) ≡ ok_bits (255 ∷ 255 ∷ 255 ∷ 255 ∷ []) 32)
unfolding plain_bits ok_bits four_letters bits_of
text_written = (refl, refl)

number_for_a_text : plain_bits four_letters (subset (numbered 24 34052 (codes "1") ∷ []) 25 ∷ []) ≡ Err (at_line 24 wrong.Number)
unfolding plain_bits four_letters
number_for_a_text = refl

-- rule: fault-53
text_would_be_missing : plain_bits four_letters (subset (draft 24 34052 (text_form (255 ∷ 255 ∷ 255 ∷ 255 ∷ [])) ∷ []) 25 ∷ []) ≡ Err (at_line 24 wrong.OutOfRange)
unfolding plain_bits four_letters
text_would_be_missing = refl

-- Three octets of 255 and a space do not read as missing.
text_of_some_ones : plain_bits four_letters (subset (draft 24 34052 (text_form (255 ∷ 255 ∷ 255 ∷ [])) ∷ []) 25 ∷ []) ≡ ok_bits (255 ∷ 255 ∷ 255 ∷ 32 ∷ []) 32
unfolding plain_bits ok_bits four_letters bits_of
text_of_some_ones = refl

-- A text that is too long is reported as such, even if it would also read as missing.
-- rule: fault-54, fault-order-of-an-item
text_too_long : plain_bits four_letters (subset (draft 24 34052 (text_form (255 ∷ 255 ∷ 255 ∷ 255 ∷ 255 ∷ [])) ∷ []) 25 ∷ []) ≡ Err (at_line 24 wrong.TextLong)
unfolding plain_bits four_letters
text_too_long = refl

-- A redefined reference is written as a sign and a magnitude.
reference_written : plain_bits redefined (subset (draft 24 3173 (reference_token (codes "-400")) ∷ numbered 25 3173 (codes "284.15") ∷ []) 26 ∷ []) ≡ ok_bits (228 ∷ 28 ∷ 35 ∷ 192 ∷ []) 26
unfolding plain_bits ok_bits redefined decimal_value_of bits_in
reference_written = refl

-- Zero has the plus sign.
-- rule: writes-plus-zero
minus_zero : plain_bits redefined (subset (draft 24 3173 (reference_token (codes "-0")) ∷ numbered 25 3173 (codes "288.15") ∷ []) 26 ∷ []) ≡ ok_bits (0 ∷ 28 ∷ 35 ∷ 192 ∷ []) 26
unfolding plain_bits ok_bits redefined decimal_value_of bits_in
minus_zero = refl

reference_too_great : plain_bits redefined (subset (draft 24 3173 (reference_token (codes "512")) ∷ []) 26 ∷ []) ≡ Err (at_line 24 wrong.OutOfRange)
unfolding plain_bits redefined decimal_value_of
reference_too_great = refl

-- A redefined reference is whole, whatever the scale of its element is.
reference_inexact : plain_bits redefined (subset (draft 24 3173 (reference_token (codes "-4.5")) ∷ []) 26 ∷ []) ≡ Err (at_line 24 wrong.Number)
unfolding plain_bits redefined decimal_value_of
reference_inexact = refl

-- rule: fault-51
number_for_a_reference : plain_bits redefined (subset (numbered 24 3173 (codes "-400") ∷ []) 26 ∷ []) ≡ Err (at_line 24 (wrong.WrongDescriptor (expected.Reference 3173)))
unfolding plain_bits redefined
number_for_a_reference = refl

reference_for_a_number : plain_bits temperature (subset (draft 24 3173 (reference_token (codes "1")) ∷ []) 25 ∷ []) ≡ Err (at_line 24 (wrong.WrongDescriptor (expected.Item 3173)))
unfolding plain_bits temperature
reference_for_a_number = refl

-- A wrong descriptor is reported before the fault of the value.
-- rule: fault-51, fault-order-of-an-item
other_descriptor :
    (plain_bits temperature (subset (numbered 24 257 (codes "1-") ∷ []) 25 ∷ []) ≡ Err (at_line 24 (wrong.WrongDescriptor (expected.Item 3173))))
    × (plain_bits temperature (subset [] 24 ∷ []) ≡ Err (at_line 24 (wrong.WrongDescriptor (expected.Item 3173))))
unfolding plain_bits temperature
other_descriptor = (refl, refl)

-- rule: fault-51
second_item : plain_bits temperature (subset (numbered 24 3173 (codes "1") ∷ numbered 25 3173 (codes "1") ∷ []) 26 ∷ []) ≡ Err (at_line 25 item_too_many)
unfolding plain_bits temperature decimal_value_of bits_in
second_item = refl

-- A refusal of the walk is reported before a wrong descriptor, and before the end of the subset.
-- rule: fault-62, fault-62-first
width_refused :
    (plain_bits width_of_none (subset (numbered 24 3173 (codes "0") ∷ []) 25 ∷ []) ≡ Err (at_line 24 (walk_refused (refusal.Width 257))))
    × (plain_bits width_of_none (subset [] 25 ∷ []) ≡ Err (at_line 25 (walk_refused (refusal.Width 257))))
unfolding plain_bits width_of_none
width_refused = (refl, refl)

-- Each subset begins where the previous one ends, with no bits between them.
two_subsets : plain_bits latitude (subset (numbered 24 1282 (codes "-0.05") ∷ []) 25 ∷ subset (numbered 26 1282 (codes "-90") ∷ []) 27 ∷ []) ≡ ok_bits (70 ∷ 70 ∷ 0 ∷ 0 ∷ []) 30
unfolding plain_bits ok_bits latitude decimal_value_of bits_in
two_subsets = refl

-- The first fault in the order of the subsets is reported.
fault_of_the_second : plain_bits temperature (subset (numbered 24 3173 (codes "1") ∷ []) 25 ∷ subset [] 26 ∷ []) ≡ Err (at_line 26 (wrong.WrongDescriptor (expected.Item 3173)))
unfolding plain_bits temperature decimal_value_of bits_in
fault_of_the_second = refl

-- Entries are split at the lines that end subsets.
entries_cut : subsets_of (Holds (numbered 24 3173 (codes "1")) ∷ Ends 25 ∷ Ends 26 ∷ Holds (numbered 27 3173 (codes "2")) ∷ Ends 28 ∷ [])
    ≡ subset (numbered 24 3173 (codes "1") ∷ []) 25 ∷ subset [] 26 ∷ subset (numbered 27 3173 (codes "2") ∷ []) 28 ∷ []
entries_cut = refl
