-- Worked examples of what an encoder refuses. Each bound is shown from both sides. If an item has
-- two faults, the example shows which one is reported. The least k is shown on both sides of each
-- step.
use Rattle.std.proofs.Common.{◌≡◌, ◌+◌, ◌++◌, ℕ, Bool, List, [], ◌∷◌, map, replicate, Option, Some, None, Result, Ok, Err, pos, refl, codes}
use Rattle.bufr_bits.specs.Prelude.{bits_of, bits_in, decimal_value_of}
use Rattle.bufr_tables.specs.declared.table_b.Kind.TheVariants as kind
use Rattle.bufr_tables.specs.Prelude.{Tree, bare, element, operator, delayed}
use Rattle.bufr_walk.specs.declared.spec.TurnRefusal.TheVariants as refusal
use Rattle.bufr_walk.specs.declared.spec.Role.TheVariants as role
use Rattle.bufr_walk.specs.Prelude.{FieldSpec, Content, number, text, missing}
use Rattle.bufr_fill.specs.Prelude.{Kind, Role, DraftValue, DraftFault, ItemFault, Subset, draft, number_token, text_form, missing_form, reference_token, subset, at_line, too_many_values, walk_refused, pack_across, packing, k_of}
use Rattle.bufr_fill.specs.declared.fault.ItemFault.TheVariants as wrong
use Rattle.bufr_fill.specs.declared.fault.Expected.TheVariants as expected
use Rattle.bufr_fill.proofs.ExampleTables.{fxy, temperature, block, latitude, coded_spec, name, four_letters, delayed_blocks, numbered, plain_bits, packed_to_bits}

-- ---- One item, on line 24 of a document whose only subset ends on line 25.

fault_in : Result (List Bool) DraftFault → Option DraftFault
fault_in (Ok bits) = None
fault_in (Err why) = Some why

-- why an item cannot be written as the first field of a template, or `None`
fault_of : Tree → (fxy : ℕ) → DraftValue → Option DraftFault
unfolding fault_in plain_bits decimal_value_of
fault_of tree fxy value = fault_in (plain_bits tree (subset (draft 24 fxy value ∷ []) 25 ∷ []))

abbrev at_24 : ItemFault → Option DraftFault
at_24 why = Some (at_line 24 why)

abbrev expects : (fxy : ℕ) → Option DraftFault
expects fxy = at_24 (wrong.WrongDescriptor (expected.Item fxy))

-- 012101 has 16 bits and scale 2, and its greatest number reads as missing. 005002 has 15 bits and
-- the reference -9000. The example fails if a bound is different at either end.
-- rule: fault-53
quantities_out_of_range :
    (map (λ digits. fault_of temperature 3173 (number_token digits)) (codes "0" ∷ codes "-0" ∷ codes "-0.01" ∷ codes "655.34" ∷ codes "655.35" ∷ codes "655.36" ∷ [])
    ≡ None ∷ None ∷ at_24 wrong.OutOfRange ∷ None ∷ at_24 wrong.OutOfRange ∷ at_24 wrong.OutOfRange ∷ [])
    × (map (λ digits. fault_of latitude 1282 (number_token digits)) (codes "-90" ∷ codes "-90.01" ∷ codes "237.66" ∷ codes "237.67" ∷ [])
    ≡ None ∷ at_24 wrong.OutOfRange ∷ None ∷ at_24 wrong.OutOfRange ∷ [])
unfolding fault_of temperature latitude
quantities_out_of_range = (refl, refl)

-- If two subsets of plain data have a fault, that of the first one is reported.
first_subset_refused :
    fault_in (plain_bits block (subset (draft 24 257 (number_token (codes "127")) ∷ []) 25 ∷ subset (draft 26 257 (number_token (codes "127")) ∷ []) 27 ∷ [])) ≡ at_24 wrong.OutOfRange
unfolding fault_in plain_bits decimal_value_of block
first_subset_refused = refl

-- In class 31, all ones is a number. The example fails if it is out of range, or if a greater
-- number is accepted.
-- rule: fault-53
class_31_out_of_range :
    (map (λ digits. fault_of coded_spec 7957 (number_token digits)) (codes "0" ∷ codes "-1" ∷ codes "63" ∷ codes "64" ∷ []) ≡ None ∷ at_24 wrong.OutOfRange ∷ None ∷ at_24 wrong.OutOfRange ∷ [])
    × (map (λ digits. fault_of (delayed (fxy 0 31 0) bare bare) 7936 (number_token digits)) (codes "-1" ∷ codes "0" ∷ codes "1" ∷ codes "2" ∷ [])
    ≡ at_24 wrong.OutOfRange ∷ None ∷ None ∷ at_24 wrong.OutOfRange ∷ [])
    × (map (λ digits. fault_of (delayed (fxy 0 31 1) bare bare) 7937 (number_token digits)) (codes "-1" ∷ codes "0" ∷ codes "255" ∷ codes "256" ∷ [])
    ≡ at_24 wrong.OutOfRange ∷ None ∷ None ∷ at_24 wrong.OutOfRange ∷ [])
unfolding fault_of coded_spec fxy
class_31_out_of_range = (refl, refl, refl)

-- the greatest 63-bit numbers, if all ones means missing and if it does not
-- rule: fault-53
greatest_of_63_bits :
    (map (λ digits. fault_of (operator (fxy 2 6 63) block) 257 (number_token digits)) (codes "9223372036854775806" ∷ codes "9223372036854775807" ∷ []) ≡ None ∷ at_24 wrong.OutOfRange ∷ [])
    × (map (λ digits. fault_of (operator (fxy 2 6 63) coded_spec) 7957 (number_token digits)) (codes "9223372036854775807" ∷ codes "9223372036854775808" ∷ []) ≡ None ∷ at_24 wrong.OutOfRange ∷ [])
unfolding fault_of block coded_spec fxy
greatest_of_63_bits = (refl, refl)

-- A redefined reference of Y bits has a sign and a magnitude of Y - 1 bits, and all ones is a
-- number. The example fails if it is in two's complement, or if all ones is refused.
-- rule: fault-53
references_out_of_range :
    (map (λ digits. fault_of (operator (fxy 2 3 10) temperature) 3173 (reference_token digits)) (codes "511" ∷ codes "512" ∷ codes "-511" ∷ codes "-512" ∷ [])
    ≡ None ∷ at_24 wrong.OutOfRange ∷ None ∷ at_24 wrong.OutOfRange ∷ [])
    × (map (λ digits. fault_of (operator (fxy 2 3 1) temperature) 3173 (reference_token digits)) (codes "0" ∷ codes "-0" ∷ codes "1" ∷ codes "-1" ∷ [])
    ≡ None ∷ None ∷ at_24 wrong.OutOfRange ∷ at_24 wrong.OutOfRange ∷ [])
    × (map (λ digits. fault_of (operator (fxy 2 3 63) temperature) 3173 (reference_token digits)) (codes "4611686018427387903" ∷ codes "-4611686018427387904" ∷ [])
    ≡ None ∷ at_24 wrong.OutOfRange ∷ [])
unfolding fault_of temperature fxy
references_out_of_range = (refl, refl, refl)

-- A text has at most the octets of its field, whether 2 05 Y, 2 08 Y or Table B gives the width. An
-- empty text is written as spaces.
-- rule: fault-54
texts_too_long :
    (map (λ octets. fault_of four_letters 34052 (text_form octets)) ([] ∷ replicate 4 65 ∷ replicate 5 65 ∷ []) ≡ None ∷ None ∷ at_24 wrong.TextLong ∷ [])
    × (map (λ octets. fault_of name 271 (text_form octets)) (replicate 20 65 ∷ replicate 21 65 ∷ []) ≡ None ∷ at_24 wrong.TextLong ∷ [])
    × (map (λ octets. fault_of (operator (fxy 2 8 3) name) 271 (text_form octets)) (replicate 3 65 ∷ replicate 4 65 ∷ []) ≡ None ∷ at_24 wrong.TextLong ∷ [])
    × (map (λ octets. fault_of (operator (fxy 2 5 255) bare) 34303 (text_form octets)) (replicate 255 65 ∷ replicate 256 65 ∷ []) ≡ None ∷ at_24 wrong.TextLong ∷ [])
unfolding fault_of four_letters name fxy
texts_too_long = (refl, refl, refl, refl)

-- A text whose octets are all 255 would read as missing. One with an octet of 254 or a space does
-- not.
-- rule: fault-53
texts_that_read_as_missing : map (λ octets. fault_of four_letters 34052 (text_form octets)) (replicate 4 255 ∷ replicate 3 255 ∷ (replicate 3 255 ++ 254 ∷ []) ∷ [])
    ≡ at_24 wrong.OutOfRange ∷ None ∷ None ∷ []
unfolding fault_of four_letters
texts_that_read_as_missing = refl

-- In class 31, a number is never missing, whether its width comes from its row or from 2 06 Y, nor
-- is a factor. Texts may be missing, and so may elements of classes 30 and 32.
-- rule: fault-55
missing_or_not :
    (map (λ d. fault_of (operator (fxy 2 6 4) (element d bare)) d missing_form) (fxy 0 30 1 ∷ fxy 0 31 3 ∷ fxy 0 32 1 ∷ []) ≡ None ∷ at_24 wrong.MissingForbidden ∷ None ∷ [])
    × (fault_of coded_spec 7957 missing_form ≡ at_24 wrong.MissingForbidden)
    × (fault_of (delayed (fxy 0 31 1) bare bare) 7937 missing_form ≡ at_24 wrong.MissingForbidden)
    × (fault_of name 271 missing_form ≡ None)
    × (fault_of four_letters 34052 missing_form ≡ None)
unfolding fault_of coded_spec name four_letters fxy
missing_or_not = (refl, refl, refl, refl, refl)

-- ---- If an item has two faults, the first of these is reported: 62, 51, 52, 55, 54, 53.

-- Fault 62 comes before 51, 52 and 53 (after 2 01 Y), before 55 (after 2 06 Y), and before 54
-- (after 2 03 Y).
-- rule: fault-62-first, fault-order-of-an-item
walk_is_first :
    (map (fault_of (operator (fxy 2 1 121) block) 257) (text_form (codes "A") ∷ number_token (codes "0.5") ∷ number_token (codes "999") ∷ []) ≡ replicate 3 (at_24 (walk_refused (refusal.Width 257))))
    × (fault_of (operator (fxy 2 1 121) block) 3173 (number_token (codes "1")) ≡ at_24 (walk_refused (refusal.Width 257)))
    × (fault_of (operator (fxy 2 6 64) coded_spec) 7957 missing_form ≡ at_24 (walk_refused (refusal.Width 7957)))
    × (fault_of (operator (fxy 2 3 10) name) 271 (text_form (replicate 21 65)) ≡ at_24 (walk_refused (refusal.Defining 271)))
unfolding fault_of block coded_spec name fxy
walk_is_first = (refl, refl, refl, refl)

-- Fault 51 comes before 52, 55, 54 and 53.
-- rule: fault-51, fault-order-of-an-item
descriptor_is_second :
    (map (fault_of temperature 257) (text_form (codes "A") ∷ number_token (codes "0.005") ∷ number_token (codes "-1") ∷ []) ≡ replicate 3 (expects 3173))
    × (fault_of coded_spec 257 missing_form ≡ expects 7957)
    × (fault_of four_letters 271 (text_form (replicate 5 65)) ≡ expects 34052)
    × (fault_of four_letters 271 (text_form (replicate 4 255)) ≡ expects 34052)
unfolding fault_of temperature coded_spec four_letters
descriptor_is_second = (refl, refl, refl, refl)

-- This is also true of the mark of a redefined reference, which comes before 52, 53 and 55. The
-- example fails if the number is checked first.
-- rule: fault-51, fault-order-of-an-item
mark_is_second :
    (map (fault_of (operator (fxy 2 3 10) temperature) 3173) (missing_form ∷ text_form (codes "A") ∷ number_token (codes "512") ∷ number_token (codes "1") ∷ [])
    ≡ replicate 4 (at_24 (wrong.WrongDescriptor (expected.Reference 3173))))
    × (map (fault_of temperature 3173) (reference_token (codes "0.005") ∷ reference_token (codes "-1") ∷ reference_token (codes "1") ∷ []) ≡ replicate 3 (expects 3173))
    × (fault_of coded_spec 7957 (reference_token (codes "64")) ≡ expects 7957)
unfolding fault_of temperature coded_spec fxy
mark_is_second = (refl, refl, refl)

-- Fault 52 comes before 54 and 53: a long text or one of octets 255 for a number, a number for a
-- text, and numbers that are not whole at their scale, however large they are.
-- rule: fault-52, fault-order-of-an-item
kind_is_before_range :
    (map (fault_of temperature 3173) (text_form (replicate 256 65) ∷ text_form (replicate 2 255) ∷ number_token (codes "655.355") ∷ number_token (codes "-0.001")
    ∷ number_token (replicate 40 57 ++ codes ".155") ∷ []) ≡ replicate 5 (at_24 wrong.Number))
    × (fault_of temperature 3173 (number_token (replicate 40 57)) ≡ at_24 wrong.OutOfRange)
    × (fault_of temperature 3173 (number_token (replicate 40 57 ++ codes "-")) ≡ at_24 wrong.Number)
    × (fault_of four_letters 34052 (number_token (codes "12345")) ≡ at_24 wrong.Number)
    × (fault_of (operator (fxy 2 3 10) temperature) 3173 (reference_token (codes "512.5")) ≡ at_24 wrong.Number)
unfolding fault_of temperature four_letters fxy
kind_is_before_range = (refl, refl, refl, refl, refl)

-- Fault 54 comes before 53: five octets of 255 for a text of four.
-- rule: fault-54, fault-order-of-an-item
length_is_before_missing : map (λ octets. fault_of four_letters 34052 (text_form octets)) (replicate 5 255 ∷ replicate 4 255 ∷ []) ≡ at_24 wrong.TextLong ∷ at_24 wrong.OutOfRange ∷ []
unfolding fault_of four_letters
length_is_before_missing = refl

-- ---- The items of a subset, and of all subsets.

two_blocks : Tree
unfolding fxy
two_blocks = element (fxy 0 1 1) (element (fxy 0 1 1) bare)

-- an item that does not fit, as the second item of subset 1, and another one as the first item of
-- subset 2
late_and_early : List Subset
late_and_early = subset (numbered 24 257 (codes "1") ∷ numbered 25 257 (codes "127") ∷ []) 26 ∷ subset (numbered 27 257 (codes "0.5") ∷ numbered 28 257 (codes "1") ∷ []) 29 ∷ []

-- Plain data are checked subset by subset, compressed data item by item.
-- rule: fault-order-of-subsets
by_subset_or_by_item :
    (plain_bits two_blocks late_and_early ≡ Err (at_line 25 wrong.OutOfRange))
    × (packed_to_bits two_blocks late_and_early ≡ Err (at_line 27 wrong.Number))
unfolding plain_bits packed_to_bits two_blocks late_and_early decimal_value_of bits_in
by_subset_or_by_item = (refl, refl)

-- If an item is left out, the fault is on the line that ends its subset. An item too many is
-- reported after all other faults. The example fails if the number of items is checked before the
-- items.
-- rule: fault-51
too_few_and_too_many :
    (plain_bits two_blocks (subset (numbered 24 257 (codes "1") ∷ []) 25 ∷ []) ≡ Err (at_line 25 (wrong.WrongDescriptor (expected.Item 257))))
    × (plain_bits block (subset (numbered 24 257 (codes "127") ∷ numbered 25 257 (codes "1") ∷ []) 26 ∷ []) ≡ Err (at_line 24 wrong.OutOfRange))
    × (packed_to_bits block (subset (numbered 24 257 (codes "1") ∷ numbered 25 257 (codes "1") ∷ []) 26 ∷ subset (numbered 27 257 (codes "127") ∷ []) 28 ∷ []) ≡ Err (at_line 27 wrong.OutOfRange))
    × (packed_to_bits block (subset [] 24 ∷ subset (numbered 25 257 (codes "1") ∷ numbered 26 257 (codes "1") ∷ []) 27 ∷ []) ≡ Err (at_line 24 (wrong.WrongDescriptor (expected.Item 257))))
unfolding plain_bits packed_to_bits two_blocks block decimal_value_of bits_in
too_few_and_too_many = (refl, refl, refl, refl)

-- If an operator after the last item is refused, this is reported before an item too many, on the
-- line of this item.
-- rule: fault-62-first, fault-51
walk_before_an_item_too_many :
    (plain_bits (operator (fxy 2 3 10) (element (fxy 0 12 101) (operator (fxy 2 8 0) bare))) (subset (draft 24 3173 (reference_token (codes "1")) ∷ numbered 25 3173 (codes "1") ∷ []) 26 ∷ [])
    ≡ Err (at_line 25 (walk_refused (refusal.Defining (fxy 2 8 0)))))
    × (packed_to_bits (operator (fxy 2 3 10) (element (fxy 0 12 101) (operator (fxy 2 8 0) bare))) (subset (draft 24 3173 (reference_token (codes "1")) ∷ []) 25 ∷ [])
    ≡ Err (at_line 25 (walk_refused (refusal.Defining (fxy 2 8 0)))))
unfolding plain_bits packed_to_bits decimal_value_of bits_in fxy
walk_before_an_item_too_many = (refl, refl)

-- ---- Faults 58 and 59 come last, after the faults of every subset. Fault 62 comes before them.

-- two subsets of one item each, from line 24 on
abbrev each : (fxy : ℕ) → DraftValue → DraftValue → List Subset
each fxy a b = subset (draft 24 fxy a ∷ []) 25 ∷ subset (draft 26 fxy b ∷ []) 27 ∷ []

-- the same with a third subset, whose item may have another descriptor
abbrev with_third : (fxy : ℕ) → DraftValue → List Subset → List Subset
with_third fxy c subsets = subsets ++ subset (draft 28 fxy c ∷ []) 29 ∷ []

-- The factors 0 and 1 cause fault 58, unless the third subset has a fault of its own: 51, 52, 55 or
-- 53.
-- rule: fault-58, fault-order-of-subsets
factors_differ_last :
    (packed_to_bits delayed_blocks (each 7937 (number_token (codes "0")) (number_token (codes "1"))) ≡ Err (at_line 26 wrong.UnequalFactor))
    × (map (λ c. packed_to_bits delayed_blocks (with_third 7937 c (each 7937 (number_token (codes "0")) (number_token (codes "1")))))
    (number_token (codes "0") ∷ number_token (codes "0.5") ∷ missing_form ∷ number_token (codes "256") ∷ [])
    ≡ Err (at_line 26 wrong.UnequalFactor) ∷ Err (at_line 28 wrong.Number) ∷ Err (at_line 28 wrong.MissingForbidden) ∷ Err (at_line 28 wrong.OutOfRange) ∷ [])
    × (packed_to_bits delayed_blocks (with_third 257 (number_token (codes "0")) (each 7937 (number_token (codes "0")) (number_token (codes "1"))))
    ≡ Err (at_line 28 (wrong.WrongDescriptor (expected.Item 7937))))
unfolding packed_to_bits delayed_blocks decimal_value_of bits_in
factors_differ_last = (refl, refl, refl)

-- References that differ cause fault 59, at subset 1, unless the third subset has a fault of its
-- own.
-- rule: fault-59, fault-order-of-subsets
references_differ_last :
    (packed_to_bits (operator (fxy 2 3 10) temperature) (each 3173 (reference_token (codes "1")) (reference_token (codes "2"))) ≡ Err (at_line 24 wrong.Increment))
    × (map (λ c. packed_to_bits (operator (fxy 2 3 10) temperature) (with_third 3173 c (each 3173 (reference_token (codes "1")) (reference_token (codes "2")))))
    (reference_token (codes "1") ∷ reference_token (codes "1.5") ∷ reference_token (codes "512") ∷ missing_form ∷ [])
    ≡ Err (at_line 24 wrong.Increment) ∷ Err (at_line 28 wrong.Number) ∷ Err (at_line 28 wrong.OutOfRange) ∷ Err (at_line 28 (wrong.WrongDescriptor (expected.Reference 3173))) ∷ [])
unfolding packed_to_bits temperature decimal_value_of bits_in fxy
references_differ_last = (refl, refl)

-- Texts that differ in octet 64 cause fault 59, unless the third text is too long (54) or reads as
-- missing (53).
-- rule: fault-59, fault-order-of-subsets
texts_differ_last : map (λ c. packed_to_bits (operator (fxy 2 5 64) bare) (with_third 34112 (text_form c) (each 34112 (text_form (replicate 64 65)) (text_form (replicate 63 65)))))
    (replicate 64 65 ∷ replicate 65 65 ∷ replicate 64 255 ∷ [])
    ≡ Err (at_line 24 wrong.Increment) ∷ Err (at_line 28 wrong.TextLong) ∷ Err (at_line 28 wrong.OutOfRange) ∷ []
unfolding packed_to_bits fxy
texts_differ_last = refl

-- Fault 62 comes before 58 and 59, on the line of subset 1.
-- rule: fault-62-first
walk_before_packing :
    (packed_to_bits (operator (fxy 2 3 10) delayed_blocks) (each 7937 (number_token (codes "0")) (number_token (codes "1"))) ≡ Err (at_line 24 (walk_refused (refusal.Defining 7937))))
    × (packed_to_bits (operator (fxy 2 3 10) (operator (fxy 2 5 64) bare)) (each 34112 (text_form (replicate 64 65)) (text_form (replicate 63 65)))
    ≡ Err (at_line 24 (walk_refused (refusal.Defining 34112))))
unfolding packed_to_bits delayed_blocks fxy
walk_before_packing = (refl, refl)

-- an 8-bit field that is never missing
asked : Role → FieldSpec
asked r = record { fxy = 7937; role = r; kind = kind.Numeric; width = 8; scale = pos 0; reference = pos 0; may_be_missing = Bool.false; listed = Bool.true }

-- a row at an index, with the items of two subsets, whose numbers differ
at_index : ℕ → Role → (fxy : ℕ) → Result Bool DraftFault
unfolding asked decimal_value_of
at_index n r d = only (pack_across (asked r) (record {
  index = n;
  cells = record { draft = Some (draft 24 d (number_token (codes "1"))); end_line = 25 }
      ∷ record { draft = Some (draft 26 d (number_token (codes "2"))); end_line = 27 } ∷ [];
}))
  where
    only : {A : Type 0} → Result A DraftFault → Result Bool DraftFault
    only (Ok a) = Ok Bool.true
    only (Err why) = Err why

-- 134,217,728 values are not too many, but one more is, and this is reported before 51 and 58.
-- rule: fault-62, fault-62-first
too_many_values_first :
    (at_index 67108863 role.Element 7937 ≡ Ok Bool.true)
    × (at_index 67108864 role.Element 7937 ≡ Err (at_line 24 (too_many_values 7937)))
    × (at_index 67108863 role.Element 257 ≡ Err (at_line 24 (wrong.WrongDescriptor (expected.Item 7937))))
    × (at_index 67108864 role.Element 257 ≡ Err (at_line 24 (too_many_values 7937)))
    × (at_index 67108863 role.Factor 7937 ≡ Err (at_line 26 wrong.UnequalFactor))
    × (at_index 67108864 role.Factor 7937 ≡ Err (at_line 24 (too_many_values 7937)))
unfolding at_index bits_in
too_many_values_first = (refl, refl, refl, refl, refl, refl)

-- ---- The least k.

-- the k of packed contents, or 64 if they cannot be packed
k_in : FieldSpec → Result (List Bool) ItemFault → ℕ
k_in spec (Ok bits) = k_of spec bits
k_in spec (Err why) = 64

least : FieldSpec → List Content → ℕ
unfolding k_in bits_in bits_of
least spec contents = k_in spec (packing spec contents)

field : Kind → (width : ℕ) → (may_be_missing : Bool) → FieldSpec
field k w m = record { fxy = 257; role = role.Element; kind = k; width = w; scale = pos 0; reference = pos 0; may_be_missing = m; listed = Bool.true }

-- An increment of all ones means missing, so 1 and 2 need two bits, 3 needs three, and 7 needs
-- four. The example fails if an increment may be all ones, or if the greatest number below all ones
-- is refused.
-- rule: packs-numbers
least_of_numbers :
    (map (λ n. least (field kind.Numeric 16 Bool.true) (number 0 ∷ number n ∷ [])) (0 ∷ 1 ∷ 2 ∷ 3 ∷ 6 ∷ 7 ∷ 14 ∷ 15 ∷ []) ≡ 0 ∷ 2 ∷ 2 ∷ 3 ∷ 3 ∷ 4 ∷ 4 ∷ 5 ∷ [])
    × (map (λ n. least (field kind.Numeric 16 Bool.true) (number 9 ∷ missing ∷ number (9 + n) ∷ [])) (0 ∷ 1 ∷ 2 ∷ 3 ∷ []) ≡ 1 ∷ 2 ∷ 2 ∷ 3 ∷ [])
unfolding least field
least_of_numbers = (refl, refl)

-- If a number is never missing, an increment may be all ones.
-- rule: packs-class-31
least_of_class_31 : map (λ n. least (field kind.Numeric 16 Bool.false) (number 0 ∷ number n ∷ [])) (0 ∷ 1 ∷ 2 ∷ 3 ∷ 4 ∷ 7 ∷ 8 ∷ []) ≡ 0 ∷ 1 ∷ 2 ∷ 2 ∷ 3 ∷ 3 ∷ 4 ∷ []
unfolding least field
least_of_class_31 = refl

-- the widest range of numbers: 63 bits
-- rule: packs-numbers, packs-class-31
least_of_63_bits :
    (least (field kind.Numeric 63 Bool.true) (number 0 ∷ number 9223372036854775806 ∷ []) ≡ 63)
    × (least (field kind.Numeric 63 Bool.false) (number 0 ∷ number 9223372036854775807 ∷ []) ≡ 63)
unfolding least field
least_of_63_bits = (refl, refl)

-- For texts, k is the least number of octets, at least 1, with which no text loses anything but
-- trailing spaces, and none has only octets of 255. The example fails if a text of spaces needs no
-- octets, or if a text that begins with octets of 255 becomes missing.
-- rule: packs-texts, packs-texts-not-missing
least_of_texts :
    (map (λ octets. least (field kind.Character 32 Bool.true) (text (codes "AA  ") ∷ text octets ∷ [])) (codes "AA  " ∷ codes "    " ∷ codes "AB  " ∷ codes "ABC " ∷ codes "ABCD" ∷ codes "   D" ∷ [])
    ≡ 0 ∷ 2 ∷ 2 ∷ 3 ∷ 4 ∷ 4 ∷ [])
    × (map (λ octets. least (field kind.Character 32 Bool.true) (missing ∷ text octets ∷ []))
    (codes "    " ∷ codes "A   " ∷ (255 ∷ codes "   ") ∷ (255 ∷ 255 ∷ codes "  ") ∷ (255 ∷ 255 ∷ 255 ∷ codes " ") ∷ (255 ∷ 254 ∷ codes "  ") ∷ []) ≡ 1 ∷ 1 ∷ 2 ∷ 3 ∷ 4 ∷ 2 ∷ [])
unfolding least field
least_of_texts = (refl, refl)
