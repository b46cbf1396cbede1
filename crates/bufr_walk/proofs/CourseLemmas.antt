-- Each field that comes next in a legal template takes at least one bit of the data, and the counts
-- match the factors.
use Rattle.std.proofs.Common.{◌≡◌, ℕ, zero, suc, ◌*◌, ◌≤◌, Bool, true, false, List, [], ◌∷◌, Some, Result, Ok, Err, refl, sym, ◌∙◌, ap, subst, arith, ◌+◌, ◌-◌, length, drop, take, ◌==◌, nat_le, nat_lt, if◌then◌else◌, ◌||◌, rules}
use Rattle.std.proofs.lemmas.Bool.{leb-true, ltb-false}
use Rattle.std.proofs.lemmas.Bool.Decides.{nat_tests}
use Rattle.bufr_bits.proofs.DecimalLemmas.{and_first}
use Rattle.bufr_tables.specs.Prelude.{IsLegal, is_legal_operator, Tree, bare, element, operator, fixed, delayed, is_inserted_text, Row, entry_of, allows_width}
use Rattle.bufr_walk.specs.Prelude.{Role, TurnRefusal, Taken, FieldSpec, IsFor, IsForRole, Content, answer_by_role, FieldRead, found, plain_field, packed_field, answer_first, Course, Next, take_next, astray, refused, asked, operated, ahead, counts_of, next_item, open_end, group, pass_end, operator_turn, Rest, passes, unroll, if_valid_width, numeric_spec, coded_spec, text_spec, text_width, spec_by_kind, new_reference_spec, unsigned_field, element_spec, factor_spec, inserted_spec, OperatorModel, after_operator, after_field, DataCoding, plain, packed, Kind, step_of, coding_of, contents_across, number, text, missing, reference}
use Rattle.bufr_walk.proofs.SpecLemmas.{inserted_width}
use Rattle.bufr_walk.proofs.WalkLemmas.{no_count, element_cases}
use Rattle.bufr_walk.proofs.PackedLemmas.{item_parts, some_across, neither}
use Rattle.std.proofs.lemmas.List.{length-drop, drop-drop}
use Rattle.bufr_bits.specs.Prelude.{number_of}
use Rattle.bufr_tables.specs.declared.table_b.Kind.TheVariants as kind
use Rattle.bufr_walk.specs.declared.spec.Role.TheVariants as role
use Rattle.bufr_walk.specs.declared.spec.Taken.TheVariants as taken
use Rattle.bufr_walk.specs.declared.fault.DataFault.{DataFault}

-- ---- What comes next in a template: a field takes at least one bit, and the counts match the
-- factors.

-- For the next n items, as long as each answer fits its role: each field that comes next has a
-- width, and the counts match the factors.
abbrev pub IsSane : ℕ → Course → Type 0
IsSane zero course = Unit {0}
IsSane (suc n) course =
    (course [] ≡ astray → ⊥)
    × ((spec : FieldSpec) → course [] ≡ take_next spec → (1 ≤ spec.width) × ((t : Taken) → IsFor spec t → IsSane n (λ answers. course (t ∷ answers))))

sane_same : (n : ℕ) (c d : Course) → ((answers : List Taken) → c answers ≡ d answers) → IsSane n c → IsSane n d
sane_same n c d same h = grind arith

sane_end : (n : ℕ) (c : Course) (x : Next) → c [] ≡ x → (x ≡ astray → ⊥) → ((spec : FieldSpec) → x ≡ take_next spec → ⊥) → IsSane n c
sane_end zero c x e h g = tt
sane_end (suc n) c x e h g = (λ q. h (sym e ∙ q), λ spec q. absurd (g spec (sym e ∙ q)))

-- what comes next at a field, given its spec or its refusal
abbrev first_next : Result FieldSpec TurnRefusal → Next
first_next (Ok spec) = take_next spec
first_next (Err why) = refused why

asked_first : (r : Result FieldSpec TurnRefusal) (go : Taken → List Taken → Next) → asked r go [] ≡ first_next r
asked_first (Ok spec) go = refl
asked_first (Err why) go = refl

asked_next : (r : Result FieldSpec TurnRefusal) (go : Taken → List Taken → Next) (spec : FieldSpec) (t : Taken) (answers : List Taken) → r ≡ Ok spec
    → asked r go (t ∷ answers) ≡ go t answers
asked_next (Ok s) go spec t answers e = refl
asked_next (Err why) go spec t answers e = absurd cc

same_take : (a b : FieldSpec) → take_next a ≡ take_next b → a ≡ b
same_take a b e = cc

field_sane : (n : ℕ) (r : Result FieldSpec TurnRefusal) (c : Course) → c [] ≡ first_next r → ((spec : FieldSpec) → r ≡ Ok spec → 1 ≤ spec.width)
    → ((spec : FieldSpec) → r ≡ Ok spec → (t : Taken) → IsFor spec t → (m : ℕ) → IsSane m (λ answers. c (t ∷ answers))) → IsSane n c
field_sane n r c e w h = grind arith

-- whether a field with this role returns a count
abbrev is_counting : Role → Bool
is_counting role.Element = false
is_counting role.Inserted = false
is_counting role.Factor = true
is_counting role.Reference = false

-- The field has at least one bit and returns no count.
abbrev IsUncounted : FieldSpec → Type 0
IsUncounted a = (1 ≤ a.width) × (is_counting a.role ≡ false)

same_ok : (a b : FieldSpec) → ◌≡◌ {A = Result FieldSpec TurnRefusal} (Ok a) (Ok b) → a ≡ b
same_ok a b e = cc

fitted : (a b : FieldSpec) → if_valid_width a ≡ Ok b → (a ≡ b) × (1 ≤ b.width)
fitted a b e = grind arith

fitted_uncounted : (a b : FieldSpec) → is_counting a.role ≡ false → if_valid_width a ≡ Ok b → IsUncounted b
fitted_uncounted a b h e = let f = fitted a b e in (f.1, rw (← f.0) h)

letters : (y w : ℕ) → 8 ≤ w → 1 ≤ (if y == 0 then w else 8 * y)
letters y w h = by (y == 0) refl
  where
    positive : (y : ℕ) → (y == 0) ≡ false → 1 ≤ y
    positive y e = grind (arith, nat_tests)

    by : (b : Bool) → (y == 0) ≡ b → 1 ≤ (if b then w else 8 * y)
    by true e = omega (arith, h)
    by false e = omega (arith, positive y e)

character_width : (w : ℕ) → allows_width kind.Character w ≡ true → 8 ≤ w
character_width w h = leb-true 8 w (and_first (nat_le 8 w) _ (and_first _ _ h))

kind_steps : (s : OperatorModel) (kd : Kind) (row : Row) (spec : FieldSpec) → kd ≡ row.kind → allows_width row.kind row.width ≡ true → spec_by_kind kd s row ≡ Ok spec → IsUncounted spec
kind_steps s kind.Numeric row spec q good e = fitted_uncounted (numeric_spec s row) spec refl e
kind_steps s kind.Coded row spec q good e = fitted_uncounted (coded_spec s row) spec refl e
kind_steps s kind.Character row spec q good e =
    let is : text_spec role.Element row.fxy (text_width s row.width) true ≡ spec = same_ok _ spec e in
    subst IsUncounted is (letters s.character_octets row.width (character_width row.width (ap (λ k. allows_width k row.width) q ∙ good)), refl)

defined_steps : (s : OperatorModel) (kd : Kind) (fxy : ℕ) (spec : FieldSpec) → new_reference_spec kd s fxy ≡ Ok spec → IsUncounted spec
defined_steps s kd fxy spec e = grind arith

inserted_steps : (s : OperatorModel) (fxy : ℕ) (spec : FieldSpec) → is_legal_operator fxy ≡ true → is_inserted_text fxy ≡ true → inserted_spec s fxy ≡ Ok spec → IsUncounted spec
inserted_steps s fxy spec legal x e = search (rules, same_ok, inserted_width)

module _ (table : List Row) (rows : (fxy : ℕ) (row : Row) → entry_of table fxy ≡ Some row → allows_width row.kind row.width ≡ true) where
  element_steps : (s : OperatorModel) (fxy : ℕ) (spec : FieldSpec) → element_spec table s fxy ≡ Ok spec → IsUncounted spec
  element_steps s fxy spec e =
      element_cases (IsUncounted spec) table s fxy spec (λ z row p q. kind_steps z row.kind row spec refl (rows fxy row p) q) (λ q. fitted_uncounted (unsigned_field fxy s.local_width) spec refl q)
      (λ row d q. defined_steps s row.kind fxy spec q) e

  factor_steps : (s : OperatorModel) (fxy : ℕ) (spec : FieldSpec) → factor_spec table s fxy ≡ Ok spec → (1 ≤ spec.width) × (role.Factor ≡ spec.role)
  factor_steps s fxy spec e = search (rules, fitted)

  -- A field that returns no count is sane if what follows it is.
  uncounted_goes : (r : Result FieldSpec TurnRefusal) (s : OperatorModel) (fxy : ℕ) (rest : Rest) → ((spec : FieldSpec) → r ≡ Ok spec → IsUncounted spec)
      → ((n : ℕ) (s : OperatorModel) → IsSane n (λ answers. ahead table (rest (counts_of answers)) s answers))
      → (n : ℕ) → IsSane n (λ answers. asked r (λ t more. ahead table (rest (counts_of answers)) (after_field s fxy t) more) answers)
  uncounted_goes r s fxy rest good h n =
      field_sane n r (λ answers. asked r (λ t more. ahead table (rest (counts_of answers)) (after_field s fxy t) more) answers) (asked_first r _) (λ spec e. (good spec e).0)
      (λ spec e t f m. sane_same m (λ answers. ahead table (rest (counts_of answers)) (after_field s fxy t) answers)
      (λ answers. asked r (λ u more. ahead table (rest (counts_of (t ∷ answers))) (after_field s fxy u) more) (t ∷ answers))
      (λ answers. sym (asked_next r (λ u more. ahead table (rest (counts_of (t ∷ answers))) (after_field s fxy u) more) spec t answers e
      ∙ ap (λ cs. ahead table (rest cs) (after_field s fxy t) answers)
      (no_count spec.role t answers (λ q. absurd (let c : is_counting role.Factor ≡ false = rw q at (good spec e).1 in cc)) f)))
      (h m (after_field s fxy t)))

  operated_goes : (r : Result OperatorModel TurnRefusal) (rest : Rest) → ((n : ℕ) (s : OperatorModel) → IsSane n (λ answers. ahead table (rest (counts_of answers)) s answers)) → (n : ℕ)
      → IsSane n (λ answers. operated r (λ s'. ahead table (rest (counts_of answers)) s' answers))
  operated_goes (Err why) rest h n = grind (arith, sane_end)
  operated_goes (Ok s') rest h n = search (rules, sane_same)

  operator_goes : (fxy : ℕ) (rest : Rest) → is_legal_operator fxy ≡ true → ((n : ℕ) (s : OperatorModel) → IsSane n (λ answers. ahead table (rest (counts_of answers)) s answers))
      → (n : ℕ) (s : OperatorModel) → IsSane n (λ answers. ahead table (operator_turn fxy (rest (counts_of answers))) s answers)
  operator_goes fxy rest legal h n s = by (is_inserted_text fxy) refl
    where
      by : (b : Bool) → is_inserted_text fxy ≡ b → IsSane n (λ answers. if b then asked (inserted_spec s fxy) (λ t more. ahead table (rest (counts_of answers)) (after_field s fxy t) more) answers
          else operated (after_operator s fxy) (λ s'. ahead table (rest (counts_of answers)) s' answers))
      by true p = uncounted_goes (inserted_spec s fxy) s fxy rest (λ spec e. inserted_steps s fxy spec legal p e) h n
      by false p = operated_goes (after_operator s fxy) rest h n

  passes_go : (k : ℕ) (body : Rest → Rest) (rest : Rest) → ((r : Rest) → ((n : ℕ) (s : OperatorModel) → IsSane n (λ answers. ahead table (r (counts_of answers)) s answers))
      → (n : ℕ) (s : OperatorModel) → IsSane n (λ answers. ahead table (body r (counts_of answers)) s answers))
      → ((n : ℕ) (s : OperatorModel) → IsSane n (λ answers. ahead table (rest (counts_of answers)) s answers)) → (n : ℕ) (s : OperatorModel)
      → IsSane n (λ answers. ahead table (passes k body rest (counts_of answers)) s answers)
  passes_go zero body rest f h n s = h n s
  passes_go (suc k) body rest f h n s = f (λ later. pass_end (passes k body rest later))
      (λ m z. sane_same m (λ answers. ahead table (passes k body rest (counts_of answers)) z answers) (λ answers. ahead table (pass_end (passes k body rest (counts_of answers))) z answers)
      (λ answers. refl) (passes_go k body rest f h m z)) n s

  counted_goes : (fxy : ℕ) (body more : Rest → Rest) (rest : Rest) (s : OperatorModel) (spec : FieldSpec) (t : Taken) (c : Course)
      → ((k : ℕ) (n : ℕ) (z : OperatorModel) → IsSane n (λ answers. ahead table (passes k body (more rest) (counts_of answers)) z answers))
      → role.Factor ≡ spec.role → IsFor spec t → ((k : ℕ) (answers : List Taken)
      → c (taken.Count k ∷ answers) ≡ ahead table (passes k body (more rest) (counts_of answers)) (after_field s fxy (taken.Count k)) answers)
      → (m : ℕ) → IsSane m (λ answers. c (t ∷ answers))
  counted_goes fxy body more rest s spec t c h r f e m = by t (rw r f)
    where
      by : (t : Taken) → IsForRole role.Factor t → IsSane m (λ answers. c (t ∷ answers))
      by taken.Plain g = absurd g
      by (taken.Reference z) g = absurd g
      by (taken.Count k) g = sane_same m (λ answers. ahead table (passes k body (more rest) (counts_of answers)) (after_field s fxy (taken.Count k)) answers) (λ answers. c (taken.Count k ∷ answers))
          (λ answers. sym (e k answers)) (h k m (after_field s fxy (taken.Count k)))

  unroll_goes : (tree : Tree) (rest : Rest) → IsLegal tree → ((n : ℕ) (s : OperatorModel) → IsSane n (λ answers. ahead table (rest (counts_of answers)) s answers)) → (n : ℕ) (s : OperatorModel)
      → IsSane n (λ answers. ahead table (unroll tree rest (counts_of answers)) s answers)
  unroll_goes bare rest legal h n s = h n s
  unroll_goes (element fxy more) rest legal h n s = uncounted_goes (element_spec table s fxy) s fxy (unroll more rest) (λ spec e. element_steps s fxy spec e)
      (λ m z. unroll_goes more rest legal.1 h m z) n
  unroll_goes (operator fxy more) rest legal h n s = operator_goes fxy (unroll more rest) legal.1.0 (λ m z. unroll_goes more rest legal.1.1.1 h m z) n s
  unroll_goes (fixed k body more) rest legal h n s =
      sane_same n (λ answers. ahead table (passes k (unroll body) (unroll more rest) (counts_of answers)) s answers)
      (λ answers. ahead table (group (passes k (unroll body) (unroll more rest) (counts_of answers))) s answers) (λ answers. refl)
      (passes_go k (unroll body) (unroll more rest) (λ r g i y. unroll_goes body r legal.0 g i y) (λ i y. unroll_goes more rest legal.1 h i y) n s)
  unroll_goes (delayed fxy body more) rest legal h n s =
      field_sane n (factor_spec table s fxy) (λ answers. ahead table (unroll (delayed fxy body more) rest (counts_of answers)) s answers)
      (asked_first (factor_spec table s fxy) (λ t more. ahead table open_end (after_field s fxy t) more)) (λ spec e. (factor_steps s fxy spec e).0)
      (λ spec e t f m. counted_goes fxy (unroll body) (unroll more) rest s spec t (λ answers. ahead table (unroll (delayed fxy body more) rest (counts_of answers)) s answers)
      (λ k i z. passes_go k (unroll body) (unroll more rest) (λ r g j y. unroll_goes body r legal.1.0 g j y) (λ j y. unroll_goes more rest legal.1.1 h j y) i z) (factor_steps s fxy spec e).1 f
      (λ k answers. asked_next (factor_spec table s fxy) (λ u later. ahead table (passes k (unroll body) (unroll more rest) (counts_of answers)) (after_field s fxy u) later) spec (taken.Count k)
      answers e) m)

  pub template_sane : (tree : Tree) → IsLegal tree → (n : ℕ) → IsSane n (next_item table tree)
  unfolding next_item
  template_sane tree legal n = search (rules, unroll_goes, sane_end)

-- ---- Each field that is read takes at least one bit of the data.

-- A field was read: it took at least one bit, and its answer fits its role.
pub record Forth {C : Type 0} (form : DataCoding C) (spec : FieldSpec) (bits : List Bool) (c : C) (mid : List Bool) : Type 0 where
  pub gives : IsFor spec (form.gives spec c)
  pub size : ℕ
  pub some : 1 ≤ size
  pub within : size ≤ length bits
  pub left_is : mid ≡ drop size bits

same_found : {C : Type 0} (a b : FieldRead C) → ◌≡◌ {A = Result (FieldRead C) DataFault} (Ok a) (Ok b) → a ≡ b
same_found a b e = cc

answer_for : (r : Role) (c : Content) → IsForRole r (answer_by_role r c)
answer_for role.Element c = tt
answer_for role.Inserted c = tt
answer_for role.Factor (number raw) = tt
answer_for role.Factor (text octets) = tt
answer_for role.Factor missing = tt
answer_for role.Factor (reference value) = tt
answer_for role.Reference (number raw) = tt
answer_for role.Reference (text octets) = tt
answer_for role.Reference missing = tt
answer_for role.Reference (reference value) = tt

suffix_is : {C : Type 0} (a b : C) (l m : List Bool) → ◌≡◌ {A = Result (FieldRead C) DataFault} (Ok (found a l)) (Ok (found b m)) → m ≡ l
suffix_is {C} a b l m e = search (rules, same_found)

pub plain_forth : (spec : FieldSpec) (bits : List Bool) (c : Content) (mid : List Bool) → 1 ≤ spec.width → plain_field spec bits ≡ Ok (found c mid) → Forth plain spec bits c mid
plain_forth spec bits c mid some e = search (rules, suffix_is)

first_for : (spec : FieldSpec) (cs : List Content) → (cs ≡ [] → ⊥) → IsFor spec (answer_first spec cs)
first_for spec [] h = absurd (h refl)
first_for spec (c ∷ cs) h = answer_for spec.role c

pub packed_forth : (n : ℕ) (spec : FieldSpec) (bits : List Bool) (cs : List Content) (mid : List Bool) → 1 ≤ spec.width → packed_field (suc n) spec bits ≡ Ok (found cs mid)
    → Forth (packed (suc n)) spec bits cs mid
packed_forth n spec bits cs mid some e =
    let k = number_of (take 6 (drop spec.width bits)) in
    let base = take spec.width bits in
    let suffix = drop (spec.width + 6) bits in
    let used = suc n * step_of (coding_of spec) k in
    let t = item_parts spec.fxy spec.role (nat_lt (length bits) (spec.width + 6) || nat_lt (length suffix) used) (contents_across (coding_of spec) k (suc n) base suffix) (drop used suffix) cs mid e in
    let ends = neither (nat_lt (length bits) (spec.width + 6)) (nat_lt (length suffix) used) t.0 in
    record {
      gives = first_for spec cs (λ none. some_across (coding_of spec) k n base suffix (t.1 ∙ ap Some none));
      size = spec.width + 6 + used;
      some = positive spec.width used;
      within = within (spec.width + 6) used (length bits) (length suffix) (ltb-false (length bits) (spec.width + 6) ends.0) (ltb-false (length suffix) used ends.1) (length-drop (spec.width + 6) bits);
      left_is = sym t.3 ∙ drop-drop used (spec.width + 6) bits;
    }
  where
    positive : (w x : ℕ) → 1 ≤ w + 6 + x
    positive w x = omega arith

    within : (w x all left : ℕ) → w ≤ all → x ≤ left → left ≡ all - w → w + x ≤ all
    within w x all left h g e = omega arith
