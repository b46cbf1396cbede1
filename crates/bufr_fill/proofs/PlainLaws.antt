-- A plain field that was read is written from the item in its dump, and read back.
use Rattle.std.proofs.lemmas.Grind.{common_steps}
use Rattle.std.proofs.lemmas.Bool.{le-ltb, lt-ltb}
use Rattle.bufr_walk.specs.Prelude.{FieldSpec, IsSpec, IsField, HasWidth, HasRole, HasMissing, is_reference, Content, found, number, text, missing, reference, content_by, coding_by, content_in, bits_for, plain_field, signed_by, sign_bit, max_values, Item, DataCoding, ReadsItems, answers_in, after, Course, take_next, at_end}
use Rattle.bufr_fill.specs.Prelude.{Role, Kind, Draft, DraftValue, number_token, text_form, missing_form, reference_token, draft_value_of, content_of, content_by_form, raw_within, raw_of, reference_of, text_within, is_marked, wrong_for, IsMinusZero, is_of, decimal_again, normal_form, raw_limit, ItemRow, written_item, Filler, fill, with_bits_before, AreDrafts, row_contents, FitsText, FitsKind, FitsRole, Fits}
use Rattle.bufr_fill.specs.declared.fault.ItemFault.TheVariants as wrong
use Rattle.bufr_fill.proofs.FillSteps.{fill_more, fill_end}
use Rattle.std.proofs.Common.{Bool, ◌++◌, Ok, refl, ◌∙◌, ap, arith, append_assoc, suc, ◌-◌, ◌^◌, ◌<◌, true, false, not, replicate, Err, ℤ, pos, negsuc, ◌+ℤ◌, ◌-ℤ◌, nat_abs, pow_mono, take, drop, Result, zero, neg_ℤ, ◌≡◌, ℕ, ◌+◌, ◌*◌, ◌≤◌, List, [], ◌∷◌, length, nat_lt, if◌then◌else◌, unsigned_abs, flat_map, rules}
use Rattle.std.proofs.lemmas.List.{length-append, drop_at, length-drop}
use Rattle.std.specs.List.{AllByRecursion}
use Rattle.std.proofs.lemmas.Int.{ints}
use lib.Signed.{mag}
use Rattle.bufr_bits.specs.Prelude.{decimal_text_of, decimal_value_of, bits_in, number_of, are_all_ones}
use Rattle.bufr_bits.proofs.DecimalLemmas.{reads_back, and_first, and_second}
use Rattle.bufr_tables.specs.Prelude.{is_character}
use Rattle.bufr_bits.proofs.BitLemmas.{length-bits_in, bits_in-zero}
use Rattle.bufr_fill.proofs.FieldLemmas.{coded, coding_is, kind_back, kind_length, kind_fits, signed_back, signed_below, bits_again, octet_bits_again, same_ok}
use Rattle.bufr_bits.specs.declared.decimal.NumberFault.{NumberFault}
use Rattle.bufr_tables.specs.declared.table_b.Kind.TheVariants as kind
use Rattle.bufr_walk.specs.declared.spec.Role.TheVariants as role
use Rattle.bufr_walk.specs.declared.fault.DataFault.TheVariants as data_fault

-- Properties of lists in the lemmas about round trips: the field of each item, the number of its
-- contents, and its row.

-- Each item has a valid field.
abbrev pub AllFields : {C : Type 0} → List (Item C) → Type 0
AllFields {C} items = AllByRecursion (λ (i : Item C). IsField i.spec) items

-- Each item has n contents.
abbrev pub HaveContents : ℕ → List (Item (List Content)) → Type 0
HaveContents n items = AllByRecursion (λ (i : Item (List Content)). length i.content ≡ n) items

-- An item of compressed data has the contents of a row, up to which there are not too many values.
pub record IsSaidRow (i : Item (List Content)) (a : ItemRow) : Type 0 where
  pub contents : row_contents i.spec a.cells ≡ Ok i.content
  pub few : (a.index + 1) * length a.cells ≤ max_values

-- the bits of an item of plain data
abbrev pub item_bits : Item Content → List Bool
item_bits i = bits_for i.spec.width i.content

-- ---- Data that were read are written so that they read back the same, in no more bits.

-- An item that was read is written so that it reads back the same, in no more bits.
pub record IsRewritten {C D E : Type 0} (form : DataCoding C) (filler : Filler D C E) (i : Item C) (d : D) (out bits mid : List Bool) : Type 0 where
  pub fills : filler.fills i.spec d ≡ Ok (written_item i.content out)
  pub again : (more : List Bool) → form.field i.spec (out ++ more) ≡ Ok (found i.content more)
  pub short : length out + length mid ≤ length bits

-- the same for all items
pub record AreRewritten {C D E : Type 0} (form : DataCoding C) (filler : Filler D C E) (course : Course) (items : List (Item C)) (ds : List D) (out bits suffix : List Bool) : Type 0 where
  pub fills : fill filler course ds ≡ Ok out
  pub again : (more : List Bool) → ReadsItems form course items (out ++ more) more
  pub short : length out + length suffix ≤ length bits

module _ {C D E : Type 0} (form : DataCoding C) (filler : Filler D C E) (same_answer : (spec : FieldSpec) (c : C) → filler.gives spec c ≡ form.gives spec c) where
  -- The bits of all items are those of the first one, followed by those of the others.
  pub join : (course : Course) (i : Item C) (d : D) (ds : List D) (w out : List Bool) → course [] ≡ take_next i.spec → filler.fills i.spec d ≡ Ok (written_item i.content w)
      → fill filler (after form course i) ds ≡ Ok out → fill filler course (d ∷ ds) ≡ Ok (w ++ out)
  join course i d ds w out next fills rest =
      fill_more filler course d ds i.spec (Ok (written_item i.content w)) next fills
      ∙ ap (λ t. with_bits_before filler w (fill filler (λ answers. course (t ∷ answers)) ds)) (same_answer i.spec i.content)
      ∙ ap (with_bits_before filler w) rest

module _ {C D E : Type 0} (form : DataCoding C) (filler : Filler D C E) (of_item : Item C → D → Type 0) (bits_of_item : Item C → List Bool)
    (same_answer : (spec : FieldSpec) (c : C) → filler.gives spec c ≡ form.gives spec c)
    (one : (i : Item C) (d : D) (bits mid : List Bool) → IsSpec i.spec → of_item i d → form.field i.spec bits ≡ Ok (found i.content mid)
    → IsRewritten form filler i d (bits_of_item i) bits mid) where
  pub rewritten : (course : Course) (items : List (Item C)) (ds : List D) (bits suffix : List Bool) → AllFields items → AreDrafts of_item items ds → ReadsItems form course items bits suffix
      → course (answers_in form.gives items) ≡ at_end → AreRewritten form filler course items ds (flat_map bits_of_item items) bits suffix
  rewritten course [] [] bits suffix fields drafts h end = record { fills = fill_end filler course end; again = λ more. refl; short = omega (arith, ap length h) }
  rewritten course (i ∷ items) (d ∷ ds) bits suffix fields drafts h end =
      let mid = h.0 in
      let first = bits_of_item i in
      let others = flat_map bits_of_item items in
      let here = one i d bits mid fields.0.spec drafts.0 h.2 in
      let rest = rewritten (after form course i) items ds mid suffix fields.1 drafts.1 h.3 end in
      record {
        fills = join form filler same_answer course i d ds first others h.1 here.fills rest.fills;
        again = λ more. (
          others ++ more,
          h.1,
          rw (append_assoc first others more) (here.again (others ++ more)),
          rest.again more,
        );
        short = omega (arith, here.short, rest.short, length-append first others);
      }
  rewritten course items ds bits suffix fields drafts h end = absurd drafts

-- ---- The item that a dump writes for a content has this content.

sum_within : (raw : ℕ) (z : ℤ) → raw < 2 ^ 63 → unsigned_abs z ≤ 2 ^ 125 → mag (pos raw +ℤ z) < 2 ^ 127
sum_within raw (pos r) h g = omega arith
sum_within raw (negsuc r) h g = grind arith

minus_back : (raw : ℕ) (z : ℤ) → (pos raw +ℤ z) -ℤ z ≡ pos raw
minus_back raw z = omega (arith, ints)

top_most : (m : Bool) (w raw : ℕ) → w ≤ 63 → raw < raw_limit m w → raw < 2 ^ 63
top_most true w raw h g = let p : 2 ^ w ≤ 2 ^ 63 = pow_mono h in omega arith
top_most false w raw h g = let p : 2 ^ w ≤ 2 ^ 63 = pow_mono h in omega arith

module _ (spec : FieldSpec) (good : IsSpec spec) where
  -- the content of a number
  raw_again : (raw : ℕ) → spec.width ≤ 63 → raw < raw_limit spec.may_be_missing spec.width
      → raw_of spec (decimal_value_of (decimal_text_of (pos raw +ℤ spec.reference) spec.scale) spec.scale) ≡ Ok (number raw)
  raw_again raw narrow h = cc (
    reads_back (pos raw +ℤ spec.reference) spec.scale (sum_within raw spec.reference (top_most spec.may_be_missing spec.width raw narrow h) good.reference),
    minus_back raw spec.reference,
    lt-ltb raw (raw_limit spec.may_be_missing spec.width) h,
  )

  -- the content of a text
  text_again : (count : ℕ) (octets : List ℕ) → FitsText count (text octets) → text_within count octets ≡ Ok (text octets)
  text_again count octets h = grind (arith, common_steps)

  as_number : (raw : ℕ) → is_character spec.kind ≡ false → content_by_form (draft_value_of spec (number raw)) spec
      ≡ raw_of spec (decimal_value_of (decimal_text_of (pos raw +ℤ spec.reference) spec.scale) spec.scale)
  as_number raw e = rw e

  missing_again : (m : Bool) → m ≡ true → (if m then Ok missing else Err wrong.MissingForbidden) ≡ Ok missing
  missing_again m e = rw e

  kind_again : (k : Kind) (c : Content) → HasWidth k spec.width → HasMissing k spec.may_be_missing → FitsKind k spec.may_be_missing spec.width c → k ≡ spec.kind
      → content_by_form (draft_value_of spec c) spec ≡ Ok c
  kind_again k c hw hm h q = search (rules, raw_again)

  reference_again : (v : ℤ) → 1 ≤ spec.width → spec.width ≤ 63 → nat_abs v < 2 ^ (spec.width - 1) → reference_of spec (decimal_value_of (decimal_text_of v (pos 0)) (pos 0)) ≡ Ok (reference v)
  reference_again v least most h =
      let narrow : spec.width - 1 ≤ 62 = omega arith in
      let p : 2 ^ (spec.width - 1) ≤ 2 ^ 62 = pow_mono narrow in
      search (rules, reads_back, mag)

  numeric_width : (k : Kind) → HasWidth k spec.width → k ≡ kind.Numeric → (1 ≤ spec.width) × (spec.width ≤ 63)
  numeric_width kind.Character h e = absurd cc
  numeric_width k h e = h

  role_again : (r : Role) (c : Content) → HasRole r spec.kind spec.may_be_missing → FitsRole r spec c → content_by_form (draft_value_of spec c) spec ≡ Ok c
  role_again r c hr h = search (rules, reference_again, kind_again)

  mark_kind : (k : Kind) (m : Bool) (w : ℕ) (c : Content) → FitsKind k m w c → is_marked (draft_value_of spec c) ≡ false
  mark_kind kind.Character m w (reference v) h = absurd h
  mark_kind k m w (reference v) h = absurd h
  mark_kind k m w c h = refl

  marked : (r : Role) (c : Content) → FitsRole r spec c → (if is_reference r then is_marked (draft_value_of spec c) else not (is_marked (draft_value_of spec c))) ≡ true
  marked role.Reference (reference v) h = refl
  marked role.Reference c h = absurd h
  marked r c h = ap not (mark_kind spec.kind spec.may_be_missing spec.width c h)

  -- The item has this content, whatever its line is.
  pub draft_again : (line : ℕ) (c : Content) → Fits spec c → content_of spec (record { line = line; fxy = spec.fxy; form = draft_value_of spec c }) ≡ Ok c
  draft_again line c h = search (rules, role_again)

pub width_least : (k : Kind) (w : ℕ) → HasWidth k w → 1 ≤ w
width_least kind.Character w h = omega (arith, h.0)
width_least k w h = h.0

module _ (spec : FieldSpec) (good : IsSpec spec) where
  role_back : (r : Role) (c : Content) → FitsRole r spec c → content_by (coding_by r spec.kind spec) (bits_for spec.width c) ≡ c
  role_back r c h = search (rules, signed_back, coding_is, kind_back)

  -- If a content fits, its bits have this content.
  pub content_back : (c : Content) → Fits spec c → content_in spec (bits_for spec.width c) ≡ c
  content_back c h = role_back spec.role c h

  role_length : (r : Role) (c : Content) → FitsRole r spec c → length (bits_for spec.width c) ≡ spec.width
  role_length r c h = search (rules, length-bits_in, kind_length)

  pub content_length : (c : Content) → Fits spec c → length (bits_for spec.width c) ≡ spec.width
  content_length c h = role_length spec.role c h

  role_fits : (r : Role) (bits : List Bool) → length bits ≡ spec.width → FitsRole r spec (content_by (coding_by r spec.kind spec) bits)
  role_fits r bits l = search (rules, signed_below, coding_is, kind_fits)

  -- The content of any bits of this width fits the field.
  pub content_fits : (bits : List Bool) → length bits ≡ spec.width → Fits spec (content_in spec bits)
  content_fits bits l = role_fits spec.role bits l

  -- A content that fits is read back from its bits, whatever follows them.
  pub plain_again : (c : Content) → Fits spec c → (more : List Bool) → plain_field spec (bits_for spec.width c ++ more) ≡ Ok (found c more)
  plain_again c h more = grind (arith, common_steps, content_length, le-ltb, drop_at, content_back)

  by_end : (b : Bool) (bits mid : List Bool) (c : Content) → b ≡ nat_lt (length bits) spec.width
      → (if b then Err (data_fault.DataEnd spec.fxy) else Ok (found (content_in spec (take spec.width bits)) (drop spec.width bits))) ≡ Ok (found c mid)
      → Fits spec c × (spec.width + length mid ≤ length bits)
  by_end b bits mid c t e = search (rules, content_fits, length-drop)

  -- A content that was read fits, and all of its bits were present.
  pub plain_read : (bits mid : List Bool) (c : Content) → plain_field spec bits ≡ Ok (found c mid) → Fits spec c × (spec.width + length mid ≤ length bits)
  plain_read bits mid c e = by_end (nat_lt (length bits) spec.width) bits mid c refl e

pub same_draft : (spec : FieldSpec) (c : Content) (d : Draft) → (d.fxy ≡ spec.fxy) × (d.form ≡ draft_value_of spec c) → d ≡ record { line = d.line; fxy = spec.fxy; form = draft_value_of spec c }
same_draft spec c d h = λ j. record { line = d.line; fxy = h.0 j; form = h.1 j }

-- ---- A plain field is written with the bits that were read, unless a redefined reference is minus
-- zero.

ones_are : (bits : List Bool) → are_all_ones bits ≡ true → replicate (length bits) true ≡ bits
ones_are [] h = refl
ones_are (b ∷ bits) h = cc (and_first b (are_all_ones bits) h, ones_are bits (and_second b (are_all_ones bits) h))

number_same : (w : ℕ) (bits : List Bool) → length bits ≡ w → bits_in (number_of bits) w ≡ bits
number_same w bits e = cc (e, bits_again bits)

chosen_same : (b : Bool) (w : ℕ) (c : Content) (bits : List Bool) → (b ≡ true → replicate w true ≡ bits) → bits_for w c ≡ bits → bits_for w (if b then missing else c) ≡ bits
chosen_same true w c bits h g = h refl
chosen_same false w c bits h g = g

ones_same : (w : ℕ) (bits : List Bool) → length bits ≡ w → are_all_ones bits ≡ true → replicate w true ≡ bits
ones_same w bits l e = cc (l, ones_are bits e)

kind_same : (m : Bool) (k : Kind) (w : ℕ) (bits : List Bool) → length bits ≡ w → HasWidth k w → bits_for w (content_by (coded k w m) bits) ≡ bits
kind_same m k w bits l h = search (rules, ones_same, octet_bits_again, number_same)

zeros_are : (bits : List Bool) → number_of bits ≡ 0 → bits ≡ replicate (length bits) false
zeros_are bits e = cc (bits_again bits, bits_in-zero (length bits))

negative_same : (n : ℕ) (bits : List Bool) (w : ℕ) → number_of bits ≡ n → length bits ≡ w - 1 → (true ∷ bits ≡ true ∷ replicate (length bits) false → ⊥)
    → sign_bit (neg_ℤ (pos n)) ∷ bits_in (nat_abs (neg_ℤ (pos n))) (w - 1) ≡ true ∷ bits
negative_same zero bits w e l h = absurd (h (ap (λ xs. true ∷ xs) (zeros_are bits e)))
negative_same (suc n) bits w e l h = cc (e, number_same (w - 1) bits l)

signed_same : (bits : List Bool) (w : ℕ) → length bits ≡ w → 1 ≤ w → (bits ≡ true ∷ replicate (length bits - 1) false → ⊥)
    → sign_bit (signed_by bits) ∷ bits_in (nat_abs (signed_by bits)) (w - 1) ≡ bits
signed_same bits w l h g = search (rules, number_same, negative_same)

role_same : (r : Role) (spec : FieldSpec) → IsSpec spec → (bits : List Bool) → length bits ≡ spec.width → (IsMinusZero r bits → ⊥)
    → bits_for spec.width (content_by (coding_by r spec.kind spec) bits) ≡ bits
role_same r spec good bits l h = search (rules, signed_same, coding_is, kind_same)

pub same_bits : (spec : FieldSpec) → IsSpec spec → (bits : List Bool) → length bits ≡ spec.width → (IsMinusZero spec.role bits → ⊥) → bits_for spec.width (content_in spec bits) ≡ bits
same_bits spec good bits l h = role_same spec.role spec good bits l h

-- ---- The normal form of an item.

sum_back : (v r z : ℤ) → v -ℤ r ≡ z → v ≡ z +ℤ r
sum_back v r z e = omega (arith, ints)

module _ (spec : FieldSpec) (c : Content) where
  raw_normal : (v z : ℤ) → v -ℤ spec.reference ≡ z → raw_within spec.may_be_missing spec.width z ≡ Ok c → number_token (decimal_text_of v spec.scale) ≡ draft_value_of spec c
  raw_normal v z q e = grind (arith, common_steps)

  number_normal : (digits : List ℕ) (r : Result ℤ NumberFault) → raw_of spec r ≡ Ok c → number_token (decimal_again digits spec.scale r) ≡ draft_value_of spec c
  number_normal digits (Ok v) e = raw_normal v (v -ℤ spec.reference) refl e
  number_normal digits (Err why) e = cc

  number_kind : (b : Bool) (digits : List ℕ) (r : Result ℤ NumberFault) → (if b then Err wrong.Number else raw_of spec r) ≡ Ok c
      → number_token (decimal_again digits spec.scale r) ≡ draft_value_of spec c
  number_kind true digits r e = cc
  number_kind false digits r e = number_normal digits r e

  reference_normal : (digits : List ℕ) (r : Result ℤ NumberFault) → reference_of spec r ≡ Ok c → reference_token (decimal_again digits (pos 0) r) ≡ draft_value_of spec c
  reference_normal digits r e = search rules

  text_normal : (a b k : Bool) (whole : List ℕ) → (if k then (if a then Err wrong.TextLong else if b then Err wrong.OutOfRange else Ok (text whole)) else Err wrong.Number) ≡ Ok c
      → text_form whole ≡ draft_value_of spec c
  text_normal a b k whole e = search rules

  missing_normal : (b : Bool) → (if b then Ok missing else Err wrong.MissingForbidden) ≡ Ok c → missing_form ≡ draft_value_of spec c
  missing_normal true e = search (rules, same_ok)
  missing_normal false e = cc

  form_normal : (f : DraftValue) → content_by_form f spec ≡ Ok c → normal_form spec f ≡ draft_value_of spec c
  form_normal f e = grind arith

  by_draft : (d : Draft) (b : Bool) → (if b then content_by_form d.form spec else Err (wrong_for spec)) ≡ Ok c → normal_form spec d.form ≡ draft_value_of spec c
  by_draft d true e = form_normal d.form e
  by_draft d false e = cc

-- The normal form of a draft is the value that a dump writes for its content.
pub normal_dumped : (spec : FieldSpec) (d : Draft) (c : Content) → content_of spec d ≡ Ok c → normal_form spec d.form ≡ draft_value_of spec c
normal_dumped spec d c e = by_draft spec c d (is_of spec d) e

-- A draft that has a content in a field has the descriptor of this field.
pub said_fxy : (spec : FieldSpec) (d : Draft) (c : Content) → content_of spec d ≡ Ok c → d.fxy ≡ spec.fxy
said_fxy spec d c e = grind arith
