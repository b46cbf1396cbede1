-- Each spec that the code builds is valid.
use Rattle.std.proofs.lemmas.Grind.{common_steps}
use Rattle.std.proofs.Common.{◌≡◌, ℕ, ◌*◌, ◌≤◌, ◌^◌, Bool, true, false, List, [], ◌∷◌, ◌++◌, ◌+◌, ◌<◌, length, drop, get_or, sym, subst, refl, arith, ◌∙◌, ap, ℤ, pos, ◌*ℤ◌, ◌==◌, nat_le, if◌then◌else◌, nat_lt, cond, Some, ◌%◌, unsigned_abs}
use Rattle.std.proofs.lemmas.Bool.{eqb-true}
use Rattle.std.proofs.lemmas.List.{drop_more}
use Rattle.std.proofs.lemmas.Int.{unsigned_abs-mul}
use Rattle.std.proofs.Math.Nat.{mul-le-mul_left, mul-le-mul_right, pow-le-pow_right}
use Rattle.std.proofs.lemmas.Bool.Decides.{nat_tests}
use Rattle.bufr_tables.specs.Prelude.{x_of, y_of, is_legal_operator, has_legal_operand, is_inserted_text, is_character, Row}
use Rattle.std.specs.Ordering.{nat_cmp, is_eq, match_ordering}
use Rattle.std.specs.declared.cmp.Ordering.TheVariants.{Less, Equal, Greater}
use Rattle.std.specs.BTreeMap.{insert_entry, is_at}
use Rattle.std.specs.Map.{lookup}
use Rattle.std.specs.Option.{unwrap_or}
use Rattle.std.specs.Cmp.{unsigned_tied}
use Rattle.bufr_walk.specs.Prelude.{Kind, Redefined, current_reference, redefined, with_reference, with_all, last_of, known_by, text_spec, Role, FieldSpec, IsSpec, HasWidth, HasRole, HasMissing, is_reference, number_field, OperatorModel, is_defining, new_reference_spec, spec_by_kind, if_valid_width, factor_field}
use Rattle.bufr_tables.specs.declared.table_b.Kind.TheVariants as kind
use Rattle.bufr_walk.specs.declared.references.NewReference.{NewReference}
use Rattle.bufr_walk.specs.declared.spec.NumberParts.{NumberParts}
use Rattle.bufr_walk.specs.declared.spec.Role.TheVariants as role
use Rattle.bufr_walk.specs.declared.spec.TurnRefusal.TheVariants as refusal
use Rattle.bufr_walk.specs.declared.spec.TurnRefusal.{TurnRefusal}
use Rattle.bufr_bits.specs.Prelude.{◌>>=◌}
use Rattle.std.specs.Prelude.{Option, Result, ok_or}
use Rattle.bufr_walk.proofs.PlainLemmas.{is_reference_role, numeric_width}

-- the spec of an element that does not follow 2 06 Y, given its row
abbrev pub listed_by : Option Row → OperatorModel → ℕ → Result FieldSpec TurnRefusal
listed_by o s fxy = ok_or o (refusal.Width fxy) >>= λ row. if is_defining s then new_reference_spec row.kind s fxy else spec_by_kind row.kind s row

-- the spec of a factor, given its row
abbrev pub factor_by : Option Row → ℕ → Result FieldSpec TurnRefusal
factor_by o fxy = ok_or o (refusal.Width fxy) >>= λ row. if_valid_width (factor_field row fxy)

number_width : (k : Kind) (w : ℕ) → is_character k ≡ false → 1 ≤ w → w ≤ 63 → HasWidth k w
number_width kind.Character w e some most = absurd cc
number_width kind.Coded w e some most = (some, most)
number_width kind.Numeric w e some most = (some, most)

number_missing : (k : Kind) (m : Bool) → is_character k ≡ false → HasMissing k m
number_missing kind.Character m e = absurd cc
number_missing kind.Coded m e = tt
number_missing kind.Numeric m e = tt

pub number_good : (fxy : ℕ) (r : Role) (n : NumberParts) → is_character n.kind ≡ false → HasRole r n.kind n.may_be_missing → unsigned_abs n.scale ≤ 300 → unsigned_abs n.reference ≤ 2 ^ 125
    → 1 ≤ n.width → n.width ≤ 63 → IsSpec (number_field fxy r n)
number_good fxy r n e role small near some most =
    record { width = number_width n.kind n.width e some most; role = role; missing = number_missing n.kind n.may_be_missing e; scale = small; reference = near }

pub text_good : (r : Role) (fxy w : ℕ) (listed : Bool) → HasWidth kind.Character w → HasRole r kind.Character true → IsSpec (text_spec r fxy w listed)
text_good r fxy w listed h g = record { width = h; role = g; missing = refl; scale = omega arith; reference = omega arith }

-- An inserted text has a valid width.
pub inserted_width : (fxy : ℕ) → is_legal_operator fxy ≡ true → is_inserted_text fxy ≡ true → HasWidth kind.Character (8 * y_of fxy)
inserted_width fxy legal x = by (x_of fxy) (y_of fxy) (eqb-true (x_of fxy) 5 x) legal (omega arith)
  where
    le_from : (y : ℕ) → nat_le 1 y ≡ true → 1 ≤ y
    le_from y h = grind (arith, nat_tests)

    by : (x y : ℕ) → x ≡ 5 → has_legal_operand x y ≡ true → y ≤ 255 → HasWidth kind.Character (8 * y)
    by x y e h most = let some : 1 ≤ y = le_from y (subst (λ z. has_legal_operand z y ≡ true) e h) in (omega arith, omega arith, omega arith)

-- An entry that is inserted into the map is one more redefined reference.
pub known_more : (kept : List (ℕ × ℤ)) (fxy : ℕ) (reference : ℤ) → known_by (insert_entry nat_cmp kept fxy reference) ≡ with_reference fxy reference (known_by kept)
known_more [] fxy reference = refl
known_more (e ∷ kept) fxy reference = by (nat_lt fxy e.0) (fxy == e.0) (known_more kept fxy reference)
  where
    by : (below same : Bool) → known_by (insert_entry nat_cmp kept fxy reference) ≡ with_reference fxy reference (known_by kept)
        → known_by (match_ordering (cond below Less (cond same Equal Greater)) ((fxy, reference) ∷ e ∷ kept) ((e.0, reference) ∷ kept) (e ∷ insert_entry nat_cmp kept fxy reference))
        ≡ (if below then record { fxy = fxy; reference = reference } ∷ known_by (e ∷ kept) else if same then record { fxy = e.0; reference = reference }
        ∷ known_by kept else record { fxy = e.0; reference = e.1 } ∷ with_reference fxy reference (known_by kept))
    by true same more = refl
    by false true more = refl
    by false false more = let r : Redefined = record { fxy = e.0; reference = e.1 } in ap (λ known. r ∷ known) more

same_either_way : (a b : ℕ) → (a == b) ≡ (b == a)
same_either_way a b = grind (arith, nat_tests)

-- A lookup in the map finds the redefined reference of an element, if there is one.
pub reference_found : (kept : List (ℕ × ℤ)) (fxy : ℕ) → lookup (is_at (nat_cmp fxy)) kept ≡ redefined (known_by kept) fxy
reference_found [] fxy = refl
reference_found (e ∷ kept) fxy = by (is_eq (nat_cmp fxy e.0)) (e.0 == fxy) (unsigned_tied fxy e.0 ∙ same_either_way fxy e.0) (reference_found kept fxy)
  where
    by : (a b : Bool) → a ≡ b → lookup (is_at (nat_cmp fxy)) kept ≡ redefined (known_by kept) fxy
        → cond a (Some e.1) (lookup (is_at (nat_cmp fxy)) kept) ≡ (if b then Some e.1 else redefined (known_by kept) fxy)
    by true true q more = refl
    by false false q more = more
    by true false q more = absurd cc
    by false true q more = absurd cc

-- A redefined reference replaces the listed one.
pub current_or : (known : List Redefined) (fxy : ℕ) (listed : ℤ) → unwrap_or (redefined known fxy) listed ≡ current_reference known fxy listed
current_or [] fxy listed = refl
current_or (r ∷ known) fxy listed = by (r.fxy == fxy) (current_or known fxy listed)
  where
    by : (b : Bool) → unwrap_or (redefined known fxy) listed ≡ current_reference known fxy listed
        → unwrap_or (if b then Some r.reference else redefined known fxy) listed ≡ (if b then r.reference else current_reference known fxy listed)
    by true more = refl
    by false more = more

-- A reference that is added becomes that of its element, and no other one changes.
redefined_with : (known : List Redefined) (f : ℕ) (reference : ℤ) (fxy : ℕ) → redefined (with_reference f reference known) fxy ≡ (if f == fxy then Some reference else redefined known fxy)
redefined_with [] f reference fxy = refl
redefined_with (r ∷ known) f reference fxy = by (nat_lt f r.fxy) (f == r.fxy) refl (redefined_with known f reference fxy)
  where
    bool_clash : true ≡ false → ⊥
    bool_clash e = absurd cc

    last : (a b : Bool) → ((a ≡ true) → b ≡ false) → (if b then Some r.reference else (if a then Some reference else redefined known fxy))
        ≡ (if a then Some reference else (if b then Some r.reference else redefined known fxy))
    last true true h = absurd (bool_clash (h refl))
    last true false h = refl
    last false true h = refl
    last false false h = refl

    apart : (f == r.fxy) ≡ false → (f == fxy) ≡ true → (r.fxy == fxy) ≡ false
    apart p q = grind (arith, nat_tests)

    by : (below same : Bool) → (f == r.fxy) ≡ same → redefined (with_reference f reference known) fxy ≡ (if f == fxy then Some reference else redefined known fxy)
        → redefined (if below then record { fxy = f; reference = reference } ∷ r ∷ known else if same then record r { reference = reference } ∷ known else r ∷ with_reference f reference known) fxy
        ≡ (if f == fxy then Some reference else (if r.fxy == fxy then Some r.reference else redefined known fxy))
    by true same p more = refl
    by false true p more =
        let e : f ≡ r.fxy = eqb-true f r.fxy p in
        rw e (over (r.fxy == fxy))
      where
        over : (b : Bool) → (if b then Some reference else redefined known fxy) ≡ (if b then Some reference else (if b then Some r.reference else redefined known fxy))
        over true = refl
        over false = refl
    by false false p more = ap (λ o. if r.fxy == fxy then Some r.reference else o) more ∙ last (f == fxy) (r.fxy == fxy) (apart p)

-- The last recent reference of an element is the one that counts.
pub last_found : (recent : List NewReference) (known : List Redefined) (word : ℕ) → last_of recent word (redefined known word) ≡ redefined (with_all recent known) word
last_found [] known word = refl
last_found (n ∷ recent) known word =
    ap (last_of recent word) (sym (redefined_with known n.word n.reference word)) ∙ last_found recent (with_reference n.word n.reference known) word

-- The next recent reference is inserted into the map.
pub sorted_more : (recent : List NewReference) (i : ℕ) (d : NewReference) (kept more : List (ℕ × ℤ)) → i < length recent
    → more ≡ insert_entry nat_cmp kept (get_or recent i d).word (get_or recent i d).reference
    → with_all (drop (i + 1) recent) (known_by more) ≡ with_all (drop i recent) (known_by kept)
sorted_more recent i d kept more h e =
    let n = get_or recent i d in
    ap (λ es. with_all (drop (i + 1) recent) (known_by es)) e ∙ ap (with_all (drop (i + 1) recent)) (known_more kept n.word n.reference)
    ∙ ap (λ xs. with_all xs (known_by kept)) (sym (drop_more recent i d h))

-- A reference that is appended to the recent ones is added last.
pub all_more : (recent : List NewReference) (n : NewReference) (known : List Redefined) → with_all (recent ++ n ∷ []) known ≡ with_reference n.word n.reference (with_all recent known)
all_more [] n known = refl
all_more (m ∷ recent) n known = all_more recent n (with_reference m.word m.reference known)

pub power_small : (y : ℕ) → y ≤ 18 → 10 ^ y ≤ 10 ^ 18
power_small y h = pow-le-pow_right {n = 10} (omega arith) h

pub product_small : (r : ℤ) (y : ℕ) → unsigned_abs r ≤ 2 ^ 63 → y ≤ 18 → unsigned_abs (r *ℤ pos (10 ^ y)) ≤ 2 ^ 125
product_small r y h g = grind (arith, common_steps, unsigned_abs, pos, unsigned_abs-mul, power_small, mul-le-mul_left, mul-le-mul_right)

pub some_width : (a : FieldSpec) → IsSpec a → 1 ≤ a.width
some_width a h = grind (arith, common_steps)

pub most_width : (a : FieldSpec) → IsSpec a → a.width ≤ 2040
most_width a h = grind (arith, common_steps)

pub narrow_width : (a : FieldSpec) → IsSpec a → is_character a.kind ≡ false → a.width ≤ 63
narrow_width a h e = grind (arith, common_steps)

pub whole_width : (a : FieldSpec) → IsSpec a → is_character a.kind ≡ true → a.width % 8 ≡ 0
whole_width a h e = grind (arith, common_steps)

pub reference_width : (a : FieldSpec) → IsSpec a → is_reference a.role ≡ true → a.width ≤ 63
reference_width a h e = let r : HasRole role.Reference a.kind a.may_be_missing =
    subst (λ x. HasRole x a.kind a.may_be_missing) (is_reference_role a.role e) h.role in numeric_width a.kind a.width r.0 h.width
