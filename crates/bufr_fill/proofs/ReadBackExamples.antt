-- Worked examples of the contents of drafts, and of the normal form of an item.
use Rattle.std.proofs.Common.{◌≡◌, ℕ, ℤ, pos, true, [], ◌∷◌, Err, refl, arith, codes}
use Rattle.std.specs.Fmt.{digits}
use Rattle.bufr_bits.specs.Prelude.{decimal_text_of, unsigned_text, decimal_value_of}
use Rattle.bufr_tables.specs.declared.table_b.Kind.TheVariants as kind
use Rattle.bufr_walk.specs.declared.spec.Role.TheVariants as role
use Rattle.bufr_walk.specs.Prelude.{FieldSpec, Content, number, text, missing, reference, Item, subsets_from}
use Rattle.bufr_fill.specs.Prelude.{Role, Kind, AllAlike, HasOctets, AllHaveOctets, IsSpecified, AreSpecified, draft, number_token, text_form, missing_form, reference_token, subset, content_of, normal_form}
use Rattle.bufr_fill.specs.declared.fault.ItemFault.TheVariants as wrong

-- fields: a 7-bit number, a 16-bit number with two decimal places, a text of four octets, and a
-- 10-bit redefined reference
abbrev asked_as : Role → Kind → (width : ℕ) → (scale : ℤ) → FieldSpec
asked_as r k w s = record { fxy = 257; role = r; kind = k; width = w; scale = s; reference = pos 0; may_be_missing = true; listed = true }

abbrev block : FieldSpec
block = asked_as role.Element kind.Numeric 7 (pos 0)

abbrev temperature : FieldSpec
temperature = asked_as role.Element kind.Numeric 16 (pos 2)

abbrev letters : FieldSpec
letters = asked_as role.Element kind.Character 32 (pos 0)

abbrev redefining : FieldSpec
redefining = asked_as role.Reference kind.Numeric 10 (pos 0)

abbrev item : FieldSpec → Content → Item Content
item spec content = record { spec = spec; content = content }

-- ---- The content of an item.

point_and_zero :
    (IsSpecified (item block (number 1)) (draft 24 257 (number_token (codes "1.0"))))
    × (IsSpecified (item block (number 0)) (draft 24 257 (number_token (codes "-0"))))
    × (IsSpecified (item temperature (number 1250)) (draft 24 257 (number_token (codes "0012.5000"))))
    × (IsSpecified (item block (number 126)) (draft 24 257 (number_token (codes "126"))))
unfolding decimal_value_of
point_and_zero = (refl, refl, refl, refl)

-- All ones would read as missing.
one_above : content_of block (draft 24 257 (number_token (codes "127"))) ≡ Err wrong.OutOfRange
unfolding decimal_value_of
one_above = refl

short_text :
    (IsSpecified (item letters (text (codes "AB  "))) (draft 24 257 (text_form (codes "AB"))))
    × (content_of letters (draft 24 257 (text_form (codes "ABCDE"))) ≡ Err wrong.TextLong)
    × (IsSpecified (item temperature missing) (draft 24 257 missing_form))
short_text = (refl, refl, refl)

minus_zero_reference : IsSpecified (item redefining (reference (pos 0))) (draft 24 257 (reference_token (codes "-0.0")))
unfolding decimal_value_of
minus_zero_reference = refl

-- ---- All items, one by one.

two_subsets : AreSpecified ((item block (number 1) ∷ []) ∷ (item block missing ∷ []) ∷ [])
    (subset (draft 24 257 (number_token (codes "1.0")) ∷ []) 25 ∷ subset (draft 26 257 missing_form ∷ []) 27 ∷ [])
unfolding decimal_value_of
two_subsets = ((refl, tt), ((refl, tt), tt))

two_together : AreSpecified (subsets_from 2 0 (record { spec = block; content = number 1 ∷ missing ∷ [] } ∷ []))
    (subset (draft 24 257 (number_token (codes "1.0")) ∷ []) 25 ∷ subset (draft 26 257 missing_form ∷ []) 27 ∷ [])
unfolding decimal_value_of
two_together = ((refl, tt), ((refl, tt), tt))

of_octets : AllHaveOctets (subset (draft 24 257 (text_form (65 ∷ 255 ∷ [])) ∷ draft 25 257 missing_form ∷ []) 26 ∷ [])
of_octets = (((omega arith, (omega arith, tt)), (tt, tt)), tt)

no_octet : HasOctets (text_form (256 ∷ [])) → ⊥
no_octet h = omega (arith, h.0)

-- ---- The normal form.

one : normal_form block (number_token (codes "1.0")) ≡ number_token (codes "1")
unfolding decimal_value_of decimal_text_of unsigned_text digits
one = refl

zero :
    (normal_form temperature (number_token (codes "-0")) ≡ number_token (codes "0.00"))
    × (normal_form temperature (number_token (codes "0012.5000")) ≡ number_token (codes "12.50"))
unfolding decimal_value_of decimal_text_of unsigned_text digits
zero = (refl, refl)

padded :
    (normal_form letters (text_form (codes "AB")) ≡ text_form (codes "AB  "))
    × (normal_form temperature missing_form ≡ missing_form)
padded = (refl, refl)

whole_reference : normal_form redefining (reference_token (codes "-007.0")) ≡ reference_token (codes "-7")
unfolding decimal_value_of decimal_text_of unsigned_text digits
whole_reference = refl

-- ---- Drafts with the same contents.

on_other_lines : AllAlike (subset (draft 24 257 (number_token (codes "10")) ∷ []) 25 ∷ []) (subset (draft 34 257 (number_token (codes "10")) ∷ []) 36 ∷ [])
on_other_lines = ((λ spec. refl, tt), tt)

one_subset_more : AllAlike [] (subset [] 24 ∷ []) → ⊥
one_subset_more h = h
