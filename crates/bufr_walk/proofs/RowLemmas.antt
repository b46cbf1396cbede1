-- If a table has the rows that a template needs, a walk over the template meets no element without
-- a row.
use Rattle.std.proofs.Common.{◌≡◌, ℕ, zero, suc, ◌<◌, ◌≤◌, ◌==◌, ◌&&◌, ◌||◌, Bool, true, false, List, [], ◌∷◌, Result, Ok, Err, refl, subst, arith, is_some, if◌then◌else◌}
use Rattle.std.proofs.lemmas.Bool.{leb-true, eqb-true}
use Rattle.bufr_tables.specs.Prelude.{x_of, y_of, f_of, IsLegal, has_legal_operand, is_legal_operator, gives_width, Tree, bare, element, operator, fixed, delayed, is_inserted_text, Row, entry_of}
use Rattle.bufr_tables.specs.Expansion.{IsKnownAfter}
use Rattle.bufr_walk.specs.Prelude.{TurnRefusal, Taken, FieldSpec, OperatorModel, Rest, unroll, passes, pass_end, after_operator, with_operator, after_field, element_spec, factor_spec, inserted_spec}
use Rattle.bufr_walk.specs.KnownRows.{IfTaken, IfApplied, HasRows}

taken : (r : Result FieldSpec TurnRefusal) (holds : Taken → List Taken → Type 0) (answers : List Taken) → ((t : Taken) (more : List Taken) → holds t more) → IfTaken r holds answers
taken (Err why) holds answers h = tt
taken (Ok spec) holds [] h = tt
taken (Ok spec) holds (t ∷ answers) h = h t answers

applied : (r : Result OperatorModel TurnRefusal) (holds : OperatorModel → Type 0) → ((s : OperatorModel) → r ≡ Ok s → holds s) → IfApplied r holds
applied (Err why) holds h = tt
applied (Ok s) holds h = h s refl

-- An element has its row, unless 2 06 Y gives its width.
has-row : (given found : Bool) (width : ℕ) → (given || found) ≡ true → (given ≡ true → 0 < width) → width ≡ 0 → found ≡ true
has-row true found width known wide none = let some = wide refl in absurd (omega arith)
has-row false found width known wide none = known

second : (a b : Bool) → (a && b) ≡ true → b ≡ true
second true b h = h
second false b h = absurd cc

-- 2 06 Y gives a width above 0.
wide-of : (s s' : OperatorModel) (x y : ℕ) (stops : Bool) (why : TurnRefusal) → x ≡ 6 → has_legal_operand x y ≡ true → (if stops then Err why else Ok (with_operator x y s)) ≡ Ok s'
    → 0 < s'.local_width
wide-of s s' x y true why six legal is = absurd cc
wide-of s s' x y false why six legal is =
    let some : 1 ≤ y = leb-true 1 y (subst (λ n. has_legal_operand n y ≡ true) six legal) in
    let same : ◌≡◌ {A = Result OperatorModel TurnRefusal} (Ok (with_operator 6 y s)) (Ok s') = subst (λ n. ◌≡◌ {A = Result OperatorModel TurnRefusal} (Ok (with_operator n y s)) (Ok s')) six is in
    let width : with_operator 6 y s ≡ s' = cc in
    subst (λ (z : OperatorModel). 0 < z.local_width) width some

wide-after : (s s' : OperatorModel) (fxy : ℕ) → is_legal_operator fxy ≡ true → gives_width fxy ≡ true → after_operator s fxy ≡ Ok s' → 0 < s'.local_width
wide-after s s' fxy legal gives is = wide-of s s' (x_of fxy) (y_of fxy) _ _ (eqb-true (x_of fxy) 6 (second (f_of fxy == 2) (x_of fxy == 6) gives)) legal is

no-text : (fxy : ℕ) → is_inserted_text fxy ≡ true → gives_width fxy ≡ true → ⊥
no-text fxy text gives =
    let five : x_of fxy ≡ 5 = eqb-true (x_of fxy) 5 text in
    let six : x_of fxy ≡ 6 = eqb-true (x_of fxy) 6 (second (f_of fxy == 2) (x_of fxy == 6) gives) in
    omega arith

module _ (table : List Row) where
  abbrev HaveRows : Rest → Type 0
  HaveRows rest = (counts : List ℕ) (s : OperatorModel) (answers : List Taken) → HasRows table (rest counts) s answers

  passes-rows : (k : ℕ) (body : Rest → Rest) (rest : Rest) → ((later : Rest) → HaveRows later → HaveRows (body later)) → HaveRows rest → HaveRows (passes k body rest)
  passes-rows zero body rest goes h counts s answers = h counts s answers
  passes-rows (suc k) body rest goes h counts s answers =
      goes (λ later. pass_end (passes k body rest later)) (λ later z more. passes-rows k body rest goes h later z more) counts s answers

  pub unroll-rows : (tree : Tree) (given : Bool) (rest : Rest) → IsLegal tree → IsKnownAfter (λ fxy. is_some (entry_of table fxy)) given tree → HaveRows rest
      → (counts : List ℕ) (s : OperatorModel) (answers : List Taken) → (given ≡ true → 0 < s.local_width) → HasRows table (unroll tree rest counts) s answers
  unroll-rows bare given rest legal known h counts s answers wide = h counts s answers
  unroll-rows (element fxy tree) given rest legal known h counts s answers wide = (
    has-row given (is_some (entry_of table fxy)) s.local_width known.0 wide,
    taken (element_spec table s fxy) (λ t more. HasRows table (unroll tree rest counts) (after_field s fxy t) more) answers
        (λ t more. unroll-rows tree false rest legal.1 known.1 h counts (after_field s fxy t) more (λ q. absurd cc)),
  )
  unroll-rows (operator fxy tree) given rest legal known h counts s answers wide = (
    λ text. taken (inserted_spec s fxy) (λ t more. HasRows table (unroll tree rest counts) (after_field s fxy t) more) answers
        (λ t more. unroll-rows tree (gives_width fxy) rest legal.1.1.1 known h counts (after_field s fxy t) more (λ gives. absurd (no-text fxy text gives))),
    λ other. applied (after_operator s fxy) (λ s'. HasRows table (unroll tree rest counts) s' answers)
        (λ s' is. unroll-rows tree (gives_width fxy) rest legal.1.1.1 known h counts s' answers (λ gives. wide-after s s' fxy legal.1.0 gives is)),
  )
  unroll-rows (fixed k body tree) given rest legal known h counts s answers wide =
      passes-rows k (unroll body) (unroll tree rest) (λ later more c z a. unroll-rows body false later legal.0 known.0 more c z a (λ q. absurd cc))
      (λ c z a. unroll-rows tree false rest legal.1 known.1 h c z a (λ q. absurd cc)) counts s answers
  unroll-rows (delayed fxy body tree) given rest legal known h [] s answers wide = (known.0, taken (factor_spec table s fxy) (λ t more. Unit {0}) answers (λ t more. tt))
  unroll-rows (delayed fxy body tree) given rest legal known h (n ∷ counts) s answers wide = (
    known.0,
    taken (factor_spec table s fxy) (λ t more. HasRows table (passes n (unroll body) (unroll tree rest) counts) (after_field s fxy t) more) answers
        (λ t more. passes-rows n (unroll body) (unroll tree rest) (λ later goes c z a. unroll-rows body false later legal.1.0 known.1.0 goes c z a (λ q. absurd cc))
        (λ c z a. unroll-rows tree false rest legal.1.1 known.1.1 h c z a (λ q. absurd cc)) counts (after_field s fxy t) more),
  )
