-- The items that are read have valid fields, and the content of each item fits its field.
use Rattle.std.proofs.lemmas.Grind.{common_steps}
use Rattle.std.proofs.Common.{◌≡◌, ℕ, ◌-◌, ◌^◌, ◌≤◌, Bool, List, [], ◌∷◌, Ok, arith, pow_mono, ◌/◌, true, false, not, ◌++◌, length, replicate, Result, Err, refl, sym, subst, ℤ, pos, negsuc, nat_abs, ◌-ℤ◌, ◌==◌, nat_lt, if◌then◌else◌, rules}
use Rattle.bufr_fill.proofs.PackedBack.{AreOctets-append, AreOctets-spaces}
use Rattle.bufr_fill.proofs.FieldLemmas.{same_ok}
use Rattle.std.proofs.lemmas.Bool.{ltb-false, ltb-true}
use Rattle.bufr_tables.specs.Prelude.{is_character}
use Rattle.bufr_walk.specs.Prelude.{FieldSpec, IsSpec, HasWidth, HasRole, is_reference, Content, number, text, missing, reference, answer_by_role, answer_of, found, plain_field, packed_field, answer_first, Course, Item, DataCoding, ReadsItems, after}
use Rattle.bufr_fill.specs.Prelude.{Role, Kind, FitsRole, AreOctets, FitsNumber, FitsText, FitsReference, FitsKind, Fits, HasOctets, DraftValue, Draft, is_marked, raw_within, raw_of, reference_of, text_within, content_by_form, is_of, wrong_for, content_of, raw_limit}
use Rattle.bufr_fill.specs.declared.fault.ItemFault.TheVariants as wrong
use Rattle.bufr_walk.proofs.NextField.{IsGoodCourse}
use Rattle.bufr_walk.specs.Prelude.{IsField, IsWithin}
use Rattle.bufr_fill.proofs.PlainLaws.{AllFields, plain_read}
use Rattle.bufr_fill.proofs.PackedLaws.{packed_again}
use Rattle.std.specs.List.{list_all}
use Rattle.std.proofs.lemmas.List.{length-append, length-replicate}
use Rattle.bufr_bits.proofs.DecimalLemmas.{and_second}
use Rattle.bufr_bits.specs.declared.decimal.NumberFault.{NumberFault}
use Rattle.bufr_tables.specs.declared.table_b.Kind.TheVariants as kind
use Rattle.bufr_walk.specs.declared.spec.Role.TheVariants as role

narrow : (k : Kind) (w : ℕ) → HasWidth k w → k ≡ kind.Numeric → w ≤ 63
narrow kind.Character w h e = absurd cc
narrow k w h e = h.1

pub answer_within : (r : Role) (spec : FieldSpec) (c : Content) → IsSpec spec → HasRole r spec.kind spec.may_be_missing → FitsRole r spec c → IsWithin (answer_by_role r c)
answer_within role.Reference spec (reference v) good hr h =
    let n : spec.width - 1 ≤ 63 = omega (arith, narrow spec.kind spec.width good.width hr.0) in
    let p : 2 ^ (spec.width - 1) ≤ 2 ^ 63 = pow_mono n in
    omega (arith, p, h)
answer_within role.Reference spec c good hr h = absurd h
answer_within role.Factor spec (number raw) good hr h = tt
answer_within role.Factor spec (text octets) good hr h = tt
answer_within role.Factor spec missing good hr h = tt
answer_within role.Factor spec (reference value) good hr h = tt
answer_within r spec c good hr h = tt

module _ {C : Type 0} (form : DataCoding C) (gives : (spec : FieldSpec) (c : C) (bits mid : List Bool) → IsSpec spec → form.field spec bits ≡ Ok (found c mid) → IsWithin (form.gives spec c)) where
  -- Items that are read have valid fields.
  pub fields_of_reads : (course : Course) (items : List (Item C)) (bits suffix : List Bool) → IsGoodCourse course → ReadsItems form course items bits suffix → AllFields items
  fields_of_reads course [] bits suffix good h = tt
  fields_of_reads course (i ∷ items) bits suffix good h =
      let here : IsField i.spec = good [] i.spec tt h.1 in
      let within : IsWithin (form.gives i.spec i.content) = gives i.spec i.content bits h.0 here.spec h.2 in
      (here, fields_of_reads (after form course i) items h.0 suffix (λ answers spec w e. good (form.gives i.spec i.content ∷ answers) spec (within, w) e) h.3)

pub plain_gives : (spec : FieldSpec) (c : Content) (bits mid : List Bool) → IsSpec spec → plain_field spec bits ≡ Ok (found c mid) → IsWithin (answer_of spec c)
plain_gives spec c bits mid good e = answer_within spec.role spec c good good.role (plain_read spec good bits mid c e).0

pub packed_gives : (n : ℕ) (spec : FieldSpec) (cs : List Content) (bits mid : List Bool) → IsSpec spec → packed_field n spec bits ≡ Ok (found cs mid) → IsWithin (answer_first spec cs)
packed_gives n spec [] bits mid good e = tt
packed_gives n spec (c ∷ cs) bits mid good e = answer_within spec.role spec c good good.role (packed_again n spec good c cs bits mid e).2.fits.0

-- ---- The content of an item fits its field.

module _ (m : Bool) (w : ℕ) (c : Content) where
  number_test : (raw : ℕ) (b : Bool) → nat_lt raw (raw_limit m w) ≡ b → (if b then Ok (number raw) else Err wrong.OutOfRange) ≡ Ok c → FitsNumber m w c
  number_test raw true p e = grind (arith, common_steps, same_ok, ltb-true)
  number_test raw false p e = cc

  number_fits : (v : ℤ) → raw_within m w v ≡ Ok c → FitsNumber m w c
  number_fits (pos raw) e = number_test raw (nat_lt raw (raw_limit m w)) refl e
  number_fits (negsuc n) e = cc

  missing_test : (b : Bool) → m ≡ b → (if b then Ok missing else Err wrong.MissingForbidden) ≡ Ok c → (m ≡ true) × (c ≡ missing)
  missing_test true p e = (p, sym (same_ok missing c e))
  missing_test false p e = cc

  missing_fits : (k : Kind) → (if m then Ok missing else Err wrong.MissingForbidden) ≡ Ok c → FitsKind k m w c
  missing_fits kind.Character e = search (rules, missing_test)
  missing_fits k e = subst (FitsNumber m w) (sym (missing_test m refl e).1) (missing_test m refl e).0

text_fits : (count : ℕ) (octets : List ℕ) (c : Content) → AreOctets octets → text_within count octets ≡ Ok c → FitsText count c
text_fits count octets c h e = by_tests (nat_lt count (length octets)) (list_all (λ octet. octet == 255) (octets ++ replicate (count - length octets) 32)) refl refl e
  where
    by_tests : (a b : Bool) → nat_lt count (length octets) ≡ a → list_all (λ octet. octet == 255) (octets ++ replicate (count - length octets) 32) ≡ b
        → (if a then Err wrong.TextLong else if b then Err wrong.OutOfRange else Ok (text (octets ++ replicate (count - length octets) 32))) ≡ Ok c → FitsText count c
    by_tests true b p q r = cc
    by_tests false true p q r = cc
    by_tests false false p q r =
        let short : length octets ≤ count = ltb-false count (length octets) p in
        let whole = octets ++ replicate (count - length octets) 32 in
        let size : length whole ≡ count = omega (arith, short, length-append octets (replicate (count - length octets) 32), length-replicate {A = ℕ} (count - length octets) 32) in
        subst (FitsText count) (same_ok (text whole) c r) (size, AreOctets-append octets (replicate (count - length octets) 32) h (AreOctets-spaces (count - length octets)), q)

module _ (spec : FieldSpec) (c : Content) where
  raw_fits : (r : Result ℤ NumberFault) → raw_of spec r ≡ Ok c → FitsNumber spec.may_be_missing spec.width c
  raw_fits (Ok v) e = number_fits spec.may_be_missing spec.width c (v -ℤ spec.reference) e
  raw_fits (Err why) e = cc

  reference_test : (v : ℤ) (b : Bool) → nat_lt (nat_abs v) (2 ^ (spec.width - 1)) ≡ b → (if b then Ok (reference v) else Err wrong.OutOfRange) ≡ Ok c → FitsReference spec.width c
  reference_test v true p e = search (rules, same_ok, ltb-true)
  reference_test v false p e = cc

  reference_fits : (r : Result ℤ NumberFault) → reference_of spec r ≡ Ok c → FitsReference spec.width c
  reference_fits (Ok v) e = reference_test v (nat_lt (nat_abs v) (2 ^ (spec.width - 1))) refl e
  reference_fits (Err why) e = cc

  number_kind : (k : Kind) (r : Result ℤ NumberFault) → (if is_character k then Err wrong.Number else raw_of spec r) ≡ Ok c → FitsKind k spec.may_be_missing spec.width c
  number_kind kind.Character r e = cc
  number_kind k r e = raw_fits r e

  text_kind : (k : Kind) (octets : List ℕ) → AreOctets octets → (if is_character k then text_within (spec.width / 8) octets else Err wrong.Number) ≡ Ok c → FitsKind k spec.may_be_missing spec.width c
  text_kind kind.Character octets h e = text_fits (spec.width / 8) octets c h e
  text_kind kind.Coded octets h e = cc
  text_kind kind.Numeric octets h e = cc

  kind_form : (f : DraftValue) → HasOctets f → not (is_marked f) ≡ true → content_by_form f spec ≡ Ok c → FitsKind spec.kind spec.may_be_missing spec.width c
  kind_form f h p e = search (rules, number_kind, text_kind, missing_fits)

  role_form : (r : Role) (f : DraftValue) → HasOctets f → (if is_reference r then is_marked f else not (is_marked f)) ≡ true → content_by_form f spec ≡ Ok c → FitsRole r spec c
  role_form r f h p e = search (rules, kind_form, reference_fits)

  by_draft : (d : Draft) → HasOctets d.form → (b : Bool) → is_of spec d ≡ b → (if b then content_by_form d.form spec else Err (wrong_for spec)) ≡ Ok c → Fits spec c
  by_draft d h true p e = search (rules, role_form, and_second)
  by_draft d h false p e = cc

-- If a draft has a content in a field, the content fits the field.
pub draft_fits : (spec : FieldSpec) (d : Draft) (c : Content) → HasOctets d.form → content_of spec d ≡ Ok c → Fits spec c
draft_fits spec d c h e = by_draft spec c d h (is_of spec d) refl e
