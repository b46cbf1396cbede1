-- The effect of each turn of a walk, and of successive walks.
use Rattle.std.proofs.lemmas.Grind.{common_steps}
use Rattle.std.proofs.Common.{◌≡◌, ℕ, ◌+◌, List, [], ◌∷◌, ◌++◌, Result, refl, sym, ◌∙◌, ap, subst, zero-add, add_assoc, arith, ◌*◌, append-nil, true, false, Option, Some, None, Ok, Err, zero, suc, ◌-◌, ◌^◌, ◌<◌, length, drop, get_or, add-zero, ◌≤◌, length-append, rules}
use Rattle.bufr_tables.specs.Prelude.{Row, entry_of, x_of, Tree, delayed, is_inserted_text, bare, element, operator, fixed, size, depth, is_legal_operator, cells_of, AreCellsOf, IsLegal}
use Rattle.bufr_walk.specs.Prelude.{Kind, Taken, Course, next_item, FieldSpec, IsFor, IsForRole, is_reference, OperatorModel, after_field, after_operator, is_defining, element_spec, factor_spec, inserted_spec, if_valid_width, spec_by_kind, new_reference_spec, numeric_spec, coded_spec, unsigned_field, begin, Rest, counts_of, finish, open_end, operator_turn, unroll, passes, turns_of, at_end, refused, TakenField, Takes, oks, answers_of, StopsWalk, ticked, Walked, TakesField, stop_by, WalkStop, Role, TurnRefusal, Next, take_next, NextTurn, CountedCourse, uncounted, counted_item}
use Rattle.bufr_walk.proofs.WalkProgress.{later, in_one_turn, counted_ahead, counted_asked, counted_operated, WalkGoes, Stops, HasWalked, StopsIn, course, tail_of, costs, owed, OpenGroup, frames_of, turns_after_pass, AllGroupsFit, IsAtNodes, IsAtCell, weight, Turned}
use Rattle.std.proofs.lemmas.List.{drop-drop}
use Rattle.bufr_tables.specs.declared.template.Cell.{Cell}
use Rattle.bufr_walk.specs.declared.walker.Frame.{Frame}
use Rattle.std.proofs.Math.Nat.{suc-mul, mul-le-mul_right}
use Rattle.bufr_tables.specs.declared.table_b.Kind.TheVariants as kind
use Rattle.bufr_walk.specs.declared.spec.Taken.TheVariants as taken
use Rattle.bufr_walk.specs.declared.spec.Role.TheVariants as role
use Rattle.bufr_walk.specs.declared.walker.WalkStop.TheVariants as stops
use Rattle.bufr_tables.specs.declared.template.Cell.TheVariants as cell

pub ticked_twice : (s t u : ℕ) → ticked (ticked s t) u ≡ ticked s (t + u)
ticked_twice s t u = omega arith

pub ticked_none : (s : ℕ) → ticked s 0 ≡ s
ticked_none s = omega arith

pub later_twice : (t u : ℕ) (a : NextTurn) → later t (later u a) ≡ later (t + u) a
later_twice t u a = rw add_assoc

pub later_none : (a : NextTurn) → later 0 a ≡ a
later_none a = rw zero-add

pub answer_then : (a b : List TakenField) (more : List Taken) → answers_of (a ++ b) ++ more ≡ answers_of a ++ (answers_of b ++ more)
answer_then [] b more = refl
answer_then (i ∷ a) b more = cc (answer_then a b more)

pub answer_both : (a b : List TakenField) → answers_of (a ++ b) ≡ answers_of a ++ answers_of b
answer_both [] b = refl
answer_both (i ∷ a) b = cc (answer_both a b)

module _ {S : Type 0} (takes : S → FieldSpec → Taken → S → Type 0) where
  -- If the same things come next on two courses, the same fields are taken.
  pub takes_same : (n m : Course) (s : S) (items : List TakenField) (s' : S) → ((more : List Taken) → n more ≡ m more) → Takes takes n s items s' → Takes takes m s items s'
  takes_same n m s items s' h w = grind arith

  -- Fields that are taken along one course, and then along the course after them, are taken in a
  -- single walk.
  pub takes_then : (n m : Course) (s : S) (a : List TakenField) (mid : S) (b : List TakenField) (s' : S) → Takes takes n s a mid
      → ((more : List Taken) → n (answers_of a ++ more) ≡ m more) → Takes takes m mid b s' → Takes takes n s (a ++ b) s'
  takes_then n m s [] mid b s' w h v = takes_same m n s b s' (λ more. sym (h more)) (subst (λ x. Takes takes m x b s') w v)
  takes_then n m s (i ∷ a) mid b s' w h v = (w.0, w.1, w.2, takes_then (λ more. n (i.taken ∷ more)) m w.0 a mid b s' w.3 h v)

module _ {S E : Type 0} (takes : S → FieldSpec → Result Taken E → S → Type 0) where
  pub goes_none : (n m : CountedCourse) (s : S) → ((more : List Taken) → n more ≡ m more) → WalkGoes takes n s 0 m s
  goes_none n m s h = record { items = []; taken = refl; leads = λ more. h more ∙ sym (later_none (m more)) }

  pub goes_then : {n m o : CountedCourse} {s mid s' : S} {t u : ℕ} → WalkGoes takes n s t m mid → WalkGoes takes m mid u o s' → WalkGoes takes n s (t + u) o s'
  goes_then {n} {m} {o} {s} {mid} {s'} {t} {u} a b = grind (arith, takes_then, answer_then)

  pub goes_stops : {n m : CountedCourse} {s mid s' : S} {t u : ℕ} {why : WalkStop E} → WalkGoes takes n s t m mid → Stops takes m mid u why s' → Stops takes n s (t + u) why s'
  goes_stops {n} {m} {s} {mid} {s'} {t} {u} {why} a b =
      let same : n (answers_of (a.items ++ b.items)) ≡ later t (m (answers_of b.items)) = ap n (answer_both a.items b.items) ∙ a.leads (answers_of b.items) in
      record {
        items = a.items ++ b.items;
        mid = b.mid;
        taken = takes_then (oks takes) (uncounted n) (uncounted m) s a.items mid b.items b.mid a.taken (λ more. ap (λ x. x.next) (a.leads more)) b.taken;
        stops = rw (ap (λ x. x.next) same) b.stops;
        turns = ap (λ x. x.turns) same ∙ ap (λ k. t + k) b.turns;
      }

  -- a turn without a field
  pub goes_turn : (n m : CountedCourse) (s : S) → ((more : List Taken) → n more ≡ later 1 (m more)) → WalkGoes takes n s 1 m s
  goes_turn n m s h = record { items = []; taken = refl; leads = h }

module _ {S E : Type 0} (takes : S → FieldSpec → Result Taken E → S → Type 0) (table : List Row) where
  pub came_none : (over left : Rest → Rest) (s : OperatorModel) (f : S) (c : ℕ) → ((rest : Rest) (counts : List ℕ) → over rest counts ≡ left rest counts) → HasWalked takes table over left s f c s f c
  came_none over left s f c e = record { turns = 0; ticks = sym (ticked_none c); way = λ rest. goes_none takes _ _ f (λ more. ap (λ ts. counted_ahead table ts s more) (e rest (counts_of more))) }

  pub came_then : {a b d : Rest → Rest} {s s1 s2 : OperatorModel} {f f1 f2 : S} {c c1 c2 : ℕ} → HasWalked takes table a b s f c s1 f1 c1 → HasWalked takes table b d s1 f1 c1 s2 f2 c2
      → HasWalked takes table a d s f c s2 f2 c2
  came_then {c = c} x y = record {
    turns = x.turns + y.turns;
    ticks = y.ticks ∙ ap (λ k. ticked k y.turns) x.ticks ∙ ticked_twice c x.turns y.turns;
    way = λ rest. goes_then takes (x.way rest) (y.way rest);
  }

  pub came_stops : {a b : Rest → Rest} {s s1 : OperatorModel} {f f1 f2 : S} {c c1 c2 : ℕ} (why : WalkStop E) → HasWalked takes table a b s f c s1 f1 c1 → StopsIn takes table b s1 f1 c1 why f2 c2
      → StopsIn takes table a s f c why f2 c2
  came_stops {c = c} why x w = record {
    turns = x.turns + w.turns;
    ticks = w.ticks ∙ ap (λ k. ticked k w.turns) x.ticks ∙ ticked_twice c x.turns w.turns;
    way = λ rest. goes_stops takes (x.way rest) (w.way rest);
  }

  -- The walk made one turn without a field.
  pub came_turn : (over left : Rest → Rest) (s : OperatorModel) (f : S) (c c' : ℕ) → c' ≡ ticked c 1
      → ((rest : Rest) (counts : List ℕ) (answers : List Taken) → counted_ahead table (over rest counts) s answers ≡ later 1 (counted_ahead table (left rest counts) s answers))
      → HasWalked takes table over left s f c s f c'
  came_turn over left s f c c' tick e = record { turns = 1; ticks = tick; way = λ rest. goes_turn takes _ _ f (λ more. e rest (counts_of more) more) }

-- ---- Walks over a single field, and over an operator.

-- the reasons why a walk stops: the fault of a field, no memory for a redefined reference, or a
-- refusal
pub stop_cases : {S E : Type 0} (takes : S → FieldSpec → Result Taken E → S → Type 0) (P : Next → WalkStop E → Type 0) (s s' : S)
    → ((spec : FieldSpec) (e : E) → takes s spec (Err e) s' → P (take_next spec) (stops.Field e)) → ((spec : FieldSpec) → spec.role ≡ role.Reference → s' ≡ s → P (take_next spec) stops.Memory)
    → ((why : TurnRefusal) → s' ≡ s → P (refused why) (stop_by why))
    → (next : Next) (why : WalkStop E) → StopsWalk takes next s why s' → P next why
stop_cases takes P s s' field short refusal next why h = grind arith

-- A field that is not a factor returns no count.
pub no_count : (r : Role) (t : Taken) (more : List Taken) → (r ≡ role.Factor → ⊥) → IsForRole r t → counts_of (t ∷ more) ≡ counts_of more
no_count r t more n h = grind arith

-- The field is not a factor.
NoFactor : FieldSpec → Type 0
NoFactor a = a.role ≡ role.Factor → ⊥

pub fitted_role : (a spec : FieldSpec) → if_valid_width a ≡ Ok spec → a.role ≡ spec.role
fitted_role a spec e = grind arith

pub kind_role : (k : Kind) (s : OperatorModel) (row : Row) (spec : FieldSpec) → spec_by_kind k s row ≡ Ok spec → role.Element ≡ spec.role
kind_role kind.Numeric s row spec e = fitted_role (numeric_spec s row) spec e
kind_role kind.Coded s row spec e = fitted_role (coded_spec s row) spec e
kind_role kind.Character s row spec e = cc

defined_role : (k : Kind) (s : OperatorModel) (fxy : ℕ) (spec : FieldSpec) → new_reference_spec k s fxy ≡ Ok spec → spec.role ≡ role.Factor → ⊥
defined_role k s fxy spec e h = grind arith

-- the cases in which an element has a spec
pub element_cases : (P : Type 0) (table : List Row) (s : OperatorModel) (fxy : ℕ) (spec : FieldSpec)
    → ((z : OperatorModel) (row : Row) → entry_of table fxy ≡ Some row → spec_by_kind row.kind z row ≡ Ok spec → P) → (if_valid_width (unsigned_field fxy s.local_width) ≡ Ok spec → P)
    → ((row : Row) → is_defining s ≡ true → new_reference_spec row.kind s fxy ≡ Ok spec → P)
    → element_spec table s fxy ≡ Ok spec → P
element_cases P table s fxy spec listed local defined e = grind arith

element_role : (table : List Row) (s : OperatorModel) (fxy : ℕ) (spec : FieldSpec) → element_spec table s fxy ≡ Ok spec → spec.role ≡ role.Factor → ⊥
element_role table s fxy spec e h =
    let none : role.Element ≡ spec.role → ⊥ = λ is. let q : role.Element ≡ role.Factor = is ∙ h in cc in
    element_cases ⊥ table s fxy spec (λ z row p q. none (kind_role row.kind z row spec q)) (λ q. none (fitted_role (unsigned_field fxy s.local_width) spec q))
    (λ row d q. defined_role row.kind s fxy spec q h) e

pub inserted_role : (s : OperatorModel) (fxy : ℕ) (spec : FieldSpec) → inserted_spec s fxy ≡ Ok spec → spec.role ≡ role.Factor → ⊥
inserted_role s fxy spec e h = grind arith

-- A field that is not a redefined reference does not change the redefined references.
pub no_reference : (r : Role) (s : OperatorModel) (fxy : ℕ) (t : Taken) → is_reference r ≡ false → IsForRole r t → record s { local_width = 0 } ≡ after_field s fxy t
no_reference r s fxy t e h = grind arith

module _ {S E : Type 0} (takes : S → FieldSpec → Result Taken E → S → Type 0) (table : List Row) where
  took_ok : (r : Result FieldSpec TurnRefusal) (f : S) (t : Taken) (f' : S) → TakesField takes r f (Ok t) f' → (spec : FieldSpec) × (r ≡ Ok spec) × takes f spec (Ok t) f' × IsFor spec t
  took_ok (Ok spec) f t f' h = (spec, refl, h.0, h.1)
  took_ok (Err why) f t f' h = absurd h

  -- The walk took a field that is not a factor.
  pub came_field : (over left : Rest → Rest) (fxy : ℕ) (s : OperatorModel) (f : S) (c : ℕ) (r : Result FieldSpec TurnRefusal) (t : Taken) (f' : S) (c' : ℕ)
      → ((rest : Rest) (counts : List ℕ) (answers : List Taken) → counted_ahead table (over rest counts) s answers
      ≡ counted_asked r (λ u more. counted_ahead table (left rest counts) (after_field s fxy u) more) answers)
      → ((spec : FieldSpec) → r ≡ Ok spec → spec.role ≡ role.Factor → ⊥) → TakesField takes r f (Ok t) f' → c' ≡ ticked c 1 → HasWalked takes table over left s f c (after_field s fxy t) f' c'
  came_field over left fxy s f c r t f' c' asks none took tick =
      let k = took_ok r f t f' took in
      let spec : FieldSpec = k.0 in
      let plain : (more : List Taken) → counts_of (t ∷ more) ≡ counts_of more = search (rules, no_count) in
      record {
        turns = 1;
        ticks = tick;
        way = λ rest. record {
          items = record { spec = spec; taken = t } ∷ [];
          taken = (f', ap (λ a. a.next) (asks rest [] [] ∙ ap (λ q. counted_asked q (λ u more. counted_ahead table (left rest []) (after_field s fxy u) more) []) k.1), k.2, refl);
          leads = λ more.
              asks rest (counts_of (t ∷ more)) (t ∷ more)
              ∙ ap (λ q. counted_asked q (λ u later_answer. counted_ahead table (left rest (counts_of (t ∷ more))) (after_field s fxy u) later_answer) (t ∷ more)) k.1
              ∙ ap (λ counts. later 1 (counted_ahead table (left rest counts) (after_field s fxy t) more)) (plain more);
        };
      }

  -- The walk entered a delayed group and took its factor.
  pub came_factor : (fxy : ℕ) (body more : Tree) (s : OperatorModel) (f : S) (c : ℕ) (r : Result FieldSpec TurnRefusal) (n : ℕ) (f' : S) (c' : ℕ) → r ≡ factor_spec table s fxy
      → TakesField takes r f (Ok (taken.Count n)) f' → c' ≡ ticked (ticked c 1) 1
      → (k : Rest → Rest) → HasWalked takes table (λ rest. unroll (delayed fxy body more) (k rest)) (λ rest. passes n (unroll body) (unroll more (k rest))) s f c (after_field s fxy (taken.Count n))
      f' c'
  came_factor fxy body more s f c r n f' c' is took tick k =
      let o = took_ok r f (taken.Count n) f' took in
      let e : factor_spec table s fxy ≡ Ok o.0 = sym is ∙ o.1 in
      record {
        turns = 2;
        ticks = tick ∙ ticked_twice c 1 1;
        way = λ rest. record {
          items = record { spec = o.0; taken = taken.Count n } ∷ [];
          taken = (f', ap (λ q. (counted_asked q (λ u answers. counted_ahead table open_end (after_field s fxy u) answers) []).next) e, o.2, refl);
          leads = λ later_answer. ap (λ q. later 1 (counted_asked q
              (λ u answers. counted_ahead table (passes n (unroll body) (unroll more (k rest)) (counts_of later_answer)) (after_field s fxy u) answers)
              (taken.Count n ∷ later_answer))) e ∙ later_twice 1 1 _;
        };
      }

  -- If a field comes next and is not taken, the walk stops there.
  stops_asked : (k : ℕ) (r : Result FieldSpec TurnRefusal) (go : Taken → List Taken → NextTurn) (f : S) (why : WalkStop E) (f' : S) (n : CountedCourse) → n [] ≡ later k (counted_asked r go [])
      → TakesField takes r f (Err why) f' → Stops takes n f (k + 1) why f'
  stops_asked k r go f why f' n h took = grind arith

  -- The walk stopped at a field that was not taken.
  pub stops_field : (over left : Rest → Rest) (fxy : ℕ) (s : OperatorModel) (f : S) (c : ℕ) (r : Result FieldSpec TurnRefusal) (why : WalkStop E) (f' : S) (c' : ℕ)
      → ((rest : Rest) (counts : List ℕ) (answers : List Taken) → counted_ahead table (over rest counts) s answers
      ≡ counted_asked r (λ u more. counted_ahead table (left rest counts) (after_field s fxy u) more) answers)
      → TakesField takes r f (Err why) f' → c' ≡ ticked c 1 → StopsIn takes table over s f c why f' c'
  stops_field over left fxy s f c r why f' c' asks took tick = grind (arith, common_steps, stops_asked, counted_ahead, later_none)

  -- The walk stopped at the factor of a delayed group.
  pub stops_factor : (fxy : ℕ) (body more : Tree) (s : OperatorModel) (f : S) (c : ℕ) (r : Result FieldSpec TurnRefusal) (why : WalkStop E) (f' : S) (c' : ℕ) → r ≡ factor_spec table s fxy
      → TakesField takes r f (Err why) f' → c' ≡ ticked (ticked c 1) 1
      → (k : Rest → Rest) → StopsIn takes table (λ rest. unroll (delayed fxy body more) (k rest)) s f c why f' c'
  stops_factor fxy body more s f c r why f' c' is took tick k = grind (arith, ticked_twice)

  -- An operator that does not insert a text changes the operators in effect.
  operator_is : (over left : Rest → Rest) (fxy : ℕ) (s : OperatorModel) → is_inserted_text fxy ≡ false → ((rest : Rest) (counts : List ℕ) → over rest counts ≡ operator_turn fxy (left rest counts))
      → (rest : Rest) (counts : List ℕ) (answers : List Taken)
      → counted_ahead table (over rest counts) s answers ≡ counted_operated (after_operator s fxy) (λ s'. counted_ahead table (left rest counts) s' answers)
  operator_is over left fxy s x is rest counts answers = rw (is, x)

  pub inserted_is : (over left : Rest → Rest) (fxy : ℕ) (s : OperatorModel) → is_inserted_text fxy ≡ true → ((rest : Rest) (counts : List ℕ) → over rest counts ≡ operator_turn fxy (left rest counts))
      → (rest : Rest) (counts : List ℕ) (answers : List Taken)
      → counted_ahead table (over rest counts) s answers ≡ counted_asked (inserted_spec s fxy) (λ t more. counted_ahead table (left rest counts) (after_field s fxy t) more) answers
  inserted_is over left fxy s x is rest counts answers = rw (is, x)

  pub came_operator : (over left : Rest → Rest) (fxy : ℕ) (s s' : OperatorModel) (f : S) (c c' : ℕ) → is_inserted_text fxy ≡ false
      → ((rest : Rest) (counts : List ℕ) → over rest counts ≡ operator_turn fxy (left rest counts)) → after_operator s fxy ≡ Ok s' → c' ≡ ticked c 1 → HasWalked takes table over left s f c s' f c'
  came_operator over left fxy s s' f c c' x is e tick = record {
    turns = 1;
    ticks = tick;
    way = λ rest. goes_turn takes _ _ f (λ more. operator_is over left fxy s x is rest (counts_of more) more
        ∙ ap (λ r. counted_operated r (λ s2. counted_ahead table (left rest (counts_of more)) s2 more)) e);
  }

  pub stops_operator : (over left : Rest → Rest) (fxy : ℕ) (s : OperatorModel) (f : S) (c c' : ℕ) (why : TurnRefusal) → is_inserted_text fxy ≡ false
      → ((rest : Rest) (counts : List ℕ) → over rest counts ≡ operator_turn fxy (left rest counts)) → after_operator s fxy ≡ Err why → c' ≡ ticked c 1
      → StopsIn takes table over s f c (stop_by why) f c'
  stops_operator over left fxy s f c c' why x is e tick = record {
    turns = 1;
    ticks = tick;
    way = λ rest.
        let h : course table (over rest) s [] ≡ in_one_turn (refused why) =
        operator_is over left fxy s x is rest [] [] ∙ ap (λ r. counted_operated r (λ s2. counted_ahead table (left rest []) s2 [])) e in
        record { items = []; mid = f; taken = refl; stops = subst (λ x. StopsWalk takes x f (stop_by why) f) (sym (ap (λ x. x.next) h)) (refl, refl); turns = ap (λ x. x.turns) h };
  }

  -- If a walk reaches the end of the template, it is complete.
  pub whole : (template : Tree) (s s' : OperatorModel) (f f' : S) (c c' c'' : ℕ) → HasWalked takes table (unroll template) (λ rest. rest) s f c s' f' c' → c'' ≡ ticked c' 1
      → Walked takes (course table (turns_of template) s) f c (Ok tt) f' c''
  whole template s s' f f' c c' c'' w tick =
      let way : WalkGoes takes (course table (turns_of template) s) f w.turns (course table (λ _. finish) s') f' = w.way (λ _. finish) in
      let last : course table (turns_of template) s (answers_of way.items) ≡ later w.turns (in_one_turn at_end) =
      ap (λ answers. course table (turns_of template) s answers) (sym (append-nil (answers_of way.items))) ∙ way.leads [] in
      (way.items, way.taken, ap (λ x. x.next) last, tick ∙ ap (λ k. ticked k 1) w.ticks ∙ ticked_twice c w.turns 1 ∙ ap (ticked c) (sym (ap (λ x. x.turns) last)))

  pub whole_stops : (template : Tree) (s : OperatorModel) (f f' : S) (c c' : ℕ) (why : WalkStop E) → StopsIn takes table (unroll template) s f c why f' c'
      → Walked takes (course table (turns_of template) s) f c (Err why) f' c'
  whole_stops template s f f' c c' why w =
      let way : Stops takes (course table (turns_of template) s) f w.turns why f' = w.way (λ _. finish) in
      (way.items, way.mid, way.taken, way.stops, w.ticks ∙ ap (ticked c) (sym way.turns))

-- An operator inserts a text if, and only if, its X is 5.
pub five_is : (fxy x : ℕ) → x ≡ x_of fxy → x ≡ 5 → is_inserted_text fxy ≡ true
five_is fxy x e h = cc

pub five_is_not : (fxy x : ℕ) → x ≡ x_of fxy → (x ≡ 5 → ⊥) → is_inserted_text fxy ≡ false
five_is_not fxy x e h = grind arith

-- ---- The maximum number of turns that are left, given the template.

skip : (a b k : ℕ) (xs ys zs : List Cell) → drop a xs ≡ ys → drop b ys ≡ zs → k ≡ a + b → drop k xs ≡ zs
skip a b k xs ys zs h g e = cc (e, drop-drop b a xs, h, g)

pub drop_head : (xs : List Cell) (p : ℕ) (y : Cell) (ys : List Cell) → drop p xs ≡ y ∷ ys → (p < length xs) × ((d : Cell) → get_or xs p d ≡ y) × (drop (p + 1) xs ≡ ys)
drop_head [] zero y ys h = cc
drop_head [] (suc p) y ys h = cc
drop_head (x ∷ xs) zero y ys h = (omega arith, λ d. cc, let e : drop 1 (x ∷ xs) ≡ xs = refl in cc)
drop_head (x ∷ xs) (suc p) y ys h = let r = drop_head xs p y ys h in (omega (arith, r.0), r.1, ap (λ k. drop k (x ∷ xs)) (let e : suc p + 1 ≡ suc (p + 1) = omega arith in e) ∙ r.2)

abbrev pub worst : Tree → ℕ
worst bare = 0
worst (element fxy more) = 1 + worst more
worst (operator fxy more) = 1 + worst more
worst (fixed n body more) = 1 + n * (1 + worst body) + worst more
worst (delayed fxy body more) = 2 + 2 ^ 64 * (1 + worst body) + worst more

pub drop_cells : (t : Tree) (at : ℕ) (tail : List Cell) → drop (size t) (cells_of t at tail) ≡ tail
drop_cells bare at tail = refl
drop_cells (element fxy more) at tail = skip 1 (size more) (1 + size more) _ (cells_of more (at + 1) tail) tail refl (drop_cells more (at + 1) tail) refl
drop_cells (operator fxy more) at tail = skip 1 (size more) (1 + size more) _ (cells_of more (at + 1) tail) tail refl (drop_cells more (at + 1) tail) refl
drop_cells (fixed n body more) at tail =
    skip 1 (size body + (1 + size more)) (2 + size body + size more) _ (cells_of body (at + 1) (cell.PassEnd ∷ cells_of more (at + 2 + size body) tail)) tail refl
    (skip (size body) (1 + size more) _ _ (cell.PassEnd ∷ cells_of more (at + 2 + size body) tail) tail (drop_cells body (at + 1) _)
    (skip 1 (size more) (1 + size more) _ (cells_of more (at + 2 + size body) tail) tail refl (drop_cells more (at + 2 + size body) tail) refl) refl)
    (omega arith)
drop_cells (delayed fxy body more) at tail =
    skip 2 (size body + (1 + size more)) (3 + size body + size more) _ (cells_of body (at + 2) (cell.PassEnd ∷ cells_of more (at + 3 + size body) tail)) tail refl
    (skip (size body) (1 + size more) _ _ (cell.PassEnd ∷ cells_of more (at + 3 + size body) tail) tail (drop_cells body (at + 2) _)
    (skip 1 (size more) (1 + size more) _ (cells_of more (at + 3 + size body) tail) tail refl (drop_cells more (at + 3 + size body) tail) refl) refl)
    (omega arith)

-- the cells after a body and the end of its pass
pub drop_body : (t : Tree) (at : ℕ) (tail : List Cell) → drop (size t + 1) (cells_of t at (cell.PassEnd ∷ tail)) ≡ tail
drop_body t at tail = skip (size t) 1 (size t + 1) _ (cell.PassEnd ∷ tail) tail (drop_cells t at (cell.PassEnd ∷ tail)) refl refl

costs_drop : (xs : List Cell) (at i : ℕ) → get_or (costs xs at) i 0 ≡ get_or (costs (drop i xs) (at + i)) 0 0
costs_drop [] at zero = refl
costs_drop [] at (suc i) = refl
costs_drop (x ∷ xs) at zero = search (rules, costs)
costs_drop (x ∷ xs) at (suc i) = costs_drop xs (at + 1) i ∙ ap (λ k. get_or (costs (drop i xs) k) 0 0) (omega arith)

-- The cost after a jump is that of the cells at its target.
jump : (xs ys : List Cell) (at after k : ℕ) → drop k xs ≡ ys → after ≡ at + k → get_or (costs xs at) (after - at) 0 ≡ get_or (costs ys after) 0 0
jump xs ys at after k h e =
    costs_drop xs at (after - at)
    ∙ ap (λ j. get_or (costs (drop j xs) (at + j)) 0 0) (omega arith)
    ∙ ap (λ z. get_or (costs z (at + k)) 0 0) h ∙ ap (λ j. get_or (costs ys j) 0 0) (sym e)

pub cost_cells : (t : Tree) (at : ℕ) (tail : List Cell) → get_or (costs (cells_of t at tail) at) 0 0 ≡ worst t + get_or (costs tail (at + size t)) 0 0
cost_cells bare at tail = ap (λ k. get_or (costs tail k) 0 0) (let e : at ≡ at + 0 = omega arith in e) ∙ sym (zero-add _)
cost_cells (element fxy more) at tail = ap (λ x. 1 + x) (cost_cells more (at + 1) tail
    ∙ ap (λ k. worst more + get_or (costs tail k) 0 0) (let e : at + 1 + size more ≡ at + (1 + size more) = omega arith in e)) ∙ sym (add_assoc 1 (worst more) _)
cost_cells (operator fxy more) at tail = ap (λ x. 1 + x) (cost_cells more (at + 1) tail
    ∙ ap (λ k. worst more + get_or (costs tail k) 0 0) (let e : at + 1 + size more ≡ at + (1 + size more) = omega arith in e)) ∙ sym (add_assoc 1 (worst more) _)
cost_cells (fixed n body more) at tail =
    let after : ℕ = at + 2 + size body in
    let cells : List Cell = cells_of body (at + 1) (cell.PassEnd ∷ cells_of more after tail) in
    let b : get_or (costs cells (at + 1)) 0 0 ≡ worst body = cost_cells body (at + 1) (cell.PassEnd ∷ cells_of more after tail) ∙ add-zero (worst body) in
    let j : get_or (costs cells (at + 1)) (after - (at + 1)) 0 ≡ worst more + get_or (costs tail (at + (2 + size body + size more))) 0 0 =
    jump cells (cells_of more after tail) (at + 1) after (size body + 1) (drop_body body (at + 1) (cells_of more after tail)) (omega arith) ∙ cost_cells more after tail
    ∙ ap (λ k. worst more + get_or (costs tail k) 0 0) (let e : after + size more ≡ at + (2 + size body + size more) = omega arith in e) in
    ap (λ x. 1 + n * (1 + x) + get_or (costs cells (at + 1)) (after - (at + 1)) 0) b ∙ ap (λ y. 1 + n * (1 + worst body) + y) j ∙ sym (add_assoc (1 + n * (1 + worst body)) (worst more) _)
cost_cells (delayed fxy body more) at tail =
    let after : ℕ = at + 3 + size body in
    let cells : List Cell = cells_of body (at + 2) (cell.PassEnd ∷ cells_of more after tail) in
    let two : at + 1 + 1 ≡ at + 2 = omega arith in
    let b : get_or (costs cells (at + 1 + 1)) 0 0 ≡ worst body = ap (λ k. get_or (costs cells k) 0 0) two ∙ cost_cells body (at + 2) (cell.PassEnd ∷ cells_of more after tail)
    ∙ add-zero (worst body) in
    let j : get_or (costs (cell.Factor fxy ∷ cells) (at + 1)) (after - (at + 1)) 0 ≡ worst more + get_or (costs tail (at + (3 + size body + size more))) 0 0 =
    jump (cell.Factor fxy ∷ cells) (cells_of more after tail) (at + 1) after (size body + 2)
    (skip 1 (size body + 1) (size body + 2) _ cells (cells_of more after tail) refl (drop_body body (at + 2) (cells_of more after tail)) (omega arith)) (omega arith) ∙ cost_cells more after tail
    ∙ ap (λ k. worst more + get_or (costs tail k) 0 0) (let e : after + size more ≡ at + (3 + size body + size more) = omega arith in e) in
    cc (b, j, add_assoc (2 + 2 ^ 64 * (1 + worst body)) (worst more) _)

-- At the end of a pass, and at the end of the template, the cost is 0.
tail_costs : (groups : List OpenGroup) (at : ℕ) → get_or (costs (tail_of groups) at) 0 0 ≡ 0
tail_costs [] at = refl
tail_costs (s ∷ outer) at = refl

-- The cost at a place is that of the nodes before which the walk is.
pub cost_here : (cells : List Cell) (place : ℕ) (more : Tree) (groups : List OpenGroup) → drop place cells ≡ cells_of more place (tail_of groups) → get_or (costs cells 0) place 0 ≡ worst more
cost_here cells place more groups h = rw (costs_drop, zero-add, h, cost_cells, tail_costs, add-zero)

pub owed_push : (cost : List ℕ) (frames : List Frame) (f : Frame) → owed cost (frames ++ f ∷ []) ≡ owed cost frames + (1 + f.left * (1 + get_or cost f.start 0) + get_or cost f.after 0)
owed_push cost [] f = omega arith
owed_push cost (g ∷ frames) f = omega (arith, owed_push cost frames f)

-- ---- The effect of each turn of the walk.

-- The first cell is that of the first node, and the other cells are those of what follows it.
abbrev pub Meets : List Cell → Tree → List OpenGroup → ℕ → Type 0
Meets [] more groups place = ⊥
Meets (cell.Element fxy ∷ cs) more groups place = (m : Tree) × (more ≡ element fxy m) × (cs ≡ cells_of m (place + 1) (tail_of groups))
Meets (cell.Operator fxy ∷ cs) more groups place = (m : Tree) × (more ≡ operator fxy m) × (cs ≡ cells_of m (place + 1) (tail_of groups))
Meets (cell.Fixed count after ∷ cs) more groups place = (body m : Tree) × (more ≡ fixed count body m) × (after ≡ place + 2 + size body)
    × (cs ≡ cells_of body (place + 1) (cell.PassEnd ∷ cells_of m (place + 2 + size body) (tail_of groups)))
Meets (cell.Delayed after ∷ cs) more groups place = (word : ℕ) × (body : Tree) × (m : Tree) × (more ≡ delayed word body m) × (after ≡ place + 3 + size body)
    × (cs ≡ cell.Factor word ∷ cells_of body (place + 2) (cell.PassEnd ∷ cells_of m (place + 3 + size body) (tail_of groups)))
Meets (cell.Factor fxy ∷ cs) more groups place = ⊥
Meets (cell.PassEnd ∷ cs) more groups place = (s : OpenGroup) × (outer : List OpenGroup) × (groups ≡ s ∷ outer) × (more ≡ bare)
Meets (cell.Finish ∷ cs) more groups place = (groups ≡ []) × (more ≡ bare)

meets : (more : Tree) (groups : List OpenGroup) (place : ℕ) → Meets (cells_of more place (tail_of groups)) more groups place
meets bare [] place = (refl, refl)
meets bare (s ∷ outer) place = (s, outer, refl, refl)
meets (element fxy m) groups place = (m, refl, refl)
meets (operator fxy m) groups place = (m, refl, refl)
meets (fixed n body m) groups place = (body, m, refl, refl, refl)
meets (delayed fxy body m) groups place = (fxy, body, m, refl, refl, refl)

spot : (cs : List Cell) (more : Tree) (groups : List OpenGroup) (place : ℕ) → Meets cs more groups place → (c : Cell) × (rest : List Cell) × (cs ≡ c ∷ rest)
spot [] more groups place h = absurd h
spot (c ∷ rest) more groups place h = (c, rest, refl)

module _ (cells : List Cell) where
  pub in_range : (place : ℕ) (stack : List Frame) (left : Rest → Rest) → IsAtCell cells place stack left → place < length cells
  in_range place stack left st = let k = spot _ st.0 st.1 place (meets st.0 st.1 place) in (drop_head cells place k.0 k.1 (st.2.here ∙ k.2)).0

  -- The walk is before the node of the cell at its place.
  pub met : (place : ℕ) (stack : List Frame) (left : Rest → Rest) (d c : Cell) (st : IsAtCell cells place stack left) → get_or cells place d ≡ c → Meets (c ∷ drop (place + 1) cells) st.0 st.1 place
  met place stack left d c st e =
      let k = spot _ st.0 st.1 place (meets st.0 st.1 place) in
      let r = drop_head cells place k.0 k.1 (st.2.here ∙ k.2) in
      rw (k.2 ∙ ap (λ x. x ∷ k.1) (sym (r.1 d) ∙ e) ∙ ap (λ xs. c ∷ xs) (sym r.2)) at (meets st.0 st.1 place)

  frames_length : (groups : List OpenGroup) → length (frames_of groups) ≡ length groups
  frames_length [] = refl
  frames_length (s ∷ outer) = simp length-append (omega (arith, frames_length outer))

  -- A group was entered, or it was skipped because it has no passes.
  pub entered : (count : ℕ) (body more : Tree) (groups : List OpenGroup) (start after next : ℕ) (stack stack' : List Frame)
      → (count ≡ 0 → (next ≡ after) × (stack' ≡ stack))
      → (0 < count → (next ≡ start) × (stack' ≡ stack ++ record { start = start; after = after; left = count - 1 } ∷ []))
      → stack ≡ frames_of groups
      → drop start cells ≡ cells_of body start (cell.PassEnd ∷ cells_of more after (tail_of groups))
      → drop after cells ≡ cells_of more after (tail_of groups)
      → length groups + 1 + depth body ≤ 32 → length groups + depth more ≤ 32
      → IsLegal body → IsLegal more → AllGroupsFit cells groups
      → (left' : Rest → Rest) × IsAtCell cells next stack' left' × ((k : Rest) (counts : List ℕ) → passes count (unroll body) (unroll more (turns_after_pass groups k)) counts ≡ left' k counts)
      × (weight cells next stack' ≡ count * (1 + worst body) + worst more + owed (costs cells 0) stack)
  entered zero body more groups start after next stack stack' none some frames h1 h2 d1 d2 k1 k2 outer =
      let e = none refl in
      let here : drop next cells ≡ cells_of more next (tail_of groups) = subst (λ p. drop p cells ≡ cells_of more p (tail_of groups)) (sym e.0) h2 in (
        λ k. unroll more (turns_after_pass groups k),
        (more, groups, record { frames = e.1 ∙ frames; here = here; deep = d2; legal = k2; outer = outer; left_is = λ k counts. refl }),
        λ k counts. refl,
        omega (arith, cost_here cells next more groups here, ap (owed (costs cells 0)) e.1),
      )
  entered (suc m) body more groups start after next stack stack' none some frames h1 h2 d1 d2 k1 k2 outer =
      let e = some (omega arith) in
      let f : Frame = record { start = start; after = after; left = m } in
      let same : stack' ≡ stack ++ f ∷ [] = e.1 ∙ ap (λ j. stack ++ (let g : Frame = record { start = start; after = after; left = j } in g) ∷ []) (let q : suc m - 1 ≡ m = omega arith in q) in
      let groups' : List OpenGroup = record { frame = f; body = body; more = more } ∷ groups in
      let here : drop next cells ≡ cells_of body next (tail_of groups') = cc in (
        λ k. unroll body (turns_after_pass groups' k),
        (body, groups', record { frames = same ∙ ap (λ fs. fs ++ f ∷ []) frames; here = here; deep = omega arith; legal = k1; outer = (h1, h2, d1, d2, k1, k2, outer); left_is = λ k counts. refl }),
        λ k counts. refl,
        omega (
          arith,
          suc-mul m (1 + worst body),
          cost_here cells next body groups' here,
          ap (λ x. m * (1 + x)) (cost_here cells start body groups' h1),
          cost_here cells after more groups h2,
          ap (owed (costs cells 0)) same,
          owed_push (costs cells 0) stack f,
        ),
      )

-- the innermost of the open groups, and those around it
pub innermost : (groups : List Frame) → 0 < length groups → (outer : List Frame) × (frame : Frame) × (groups ≡ outer ++ frame ∷ [])
innermost [] some = absurd (omega arith)
innermost (frame ∷ []) some = ([], frame, refl)
innermost (frame ∷ next ∷ more) some =
    let rest = innermost (next ∷ more) (omega arith) in
    (frame ∷ rest.0, rest.1, ap (λ l. frame ∷ l) rest.2)

-- If two lists are equal, so are their last items, and what is before these.
last_is : (A : Type 0) (xs ys : List A) (x y : A) → xs ++ x ∷ [] ≡ ys ++ y ∷ [] → (xs ≡ ys) × (x ≡ y)
last_is A xs ys x y h = grind (arith, common_steps)

module _ {S E : Type 0} (takes : S → FieldSpec → Result Taken E → S → Type 0) (table : List Row) (cells : List Cell) where
  -- A walk before these nodes is before any equal nodes.
  moved : (place : ℕ) (stack : List Frame) (left : Rest → Rest) (st : IsAtCell cells place stack left) (t : Tree) → st.0 ≡ t → IsAtNodes cells place stack left t st.1
  moved place stack left st t e = grind arith

  -- The walk advances by one cell.
  pub turn_on : (place : ℕ) (stack : List Frame) (left : Rest → Rest) (groups : List OpenGroup) (more : Tree) (before : Tree) (s s' : OperatorModel) (f f' : S) (c c' : ℕ)
      → IsAtNodes cells place stack left before groups → drop (place + 1) cells ≡ cells_of more (place + 1) (tail_of groups) → depth before ≡ depth more → worst before ≡ 1 + worst more → IsLegal more
      → HasWalked takes table (λ k. unroll before (turns_after_pass groups k)) (λ k. unroll more (turns_after_pass groups k)) s f c s' f' c'
      → Turned takes table cells left place stack s f c (Ok (Some (place + 1))) stack s' f' c'
  turn_on place stack left groups more before s s' f f' c c' at next deep cost legal came = (
    λ k. unroll more (turns_after_pass groups k),
    (more, groups, record { frames = at.frames; here = next; deep = rw (← deep) at.deep; legal = legal; outer = at.outer; left_is = λ k counts. refl }),
    came_then takes table (came_none takes table left (λ k. unroll before (turns_after_pass groups k)) s f c at.left_is) came,
    omega (arith, cost_here),
  )

  pub turn_element : (place : ℕ) (stack : List Frame) (left : Rest → Rest) (d : Cell) (fxy : ℕ) (s s' : OperatorModel) (f f' : S) (c c' : ℕ) (r : Result FieldSpec TurnRefusal) (t : Taken)
      → IsAtCell cells place stack left → get_or cells place d ≡ cell.Element fxy → r ≡ element_spec table s fxy → TakesField takes r f (Ok t) f' → c' ≡ ticked c 1 → s' ≡ after_field s fxy t
      → Turned takes table cells left place stack s f c (Ok (Some (place + 1))) stack s' f' c'
  turn_element place stack left d fxy s s' f f' c c' r t st e spec took tick answers =
      let i = met cells place stack left d (cell.Element fxy) st e in
      let at : IsAtNodes cells place stack left (element fxy i.0) st.1 = moved place stack left st _ i.1 in
      turn_on place stack left st.1 i.0 (element fxy i.0) s s' f f' c c' at i.2 refl refl at.legal.1
      (subst (λ z. HasWalked takes table (λ k. unroll (element fxy i.0) (turns_after_pass st.1 k)) (λ k. unroll i.0 (turns_after_pass st.1 k)) s f c z f' c') (sym answers)
      (came_field takes table (λ k. unroll (element fxy i.0) (turns_after_pass st.1 k)) (λ k. unroll i.0 (turns_after_pass st.1 k)) fxy s f c (element_spec table s fxy) t f' c'
      (λ rest counts answers. refl) (element_role table s fxy) (rw spec at took) tick))

  pub fail_element : (place : ℕ) (stack : List Frame) (left : Rest → Rest) (d : Cell) (fxy : ℕ) (s : OperatorModel) (f f' : S) (c c' : ℕ) (r : Result FieldSpec TurnRefusal) (why : WalkStop E)
      → IsAtCell cells place stack left → get_or cells place d ≡ cell.Element fxy → r ≡ element_spec table s fxy → TakesField takes r f (Err why) f' → c' ≡ ticked c 1
      → StopsIn takes table left s f c why f' c'
  fail_element place stack left d fxy s f f' c c' r why st e spec took tick =
      let i = met cells place stack left d (cell.Element fxy) st e in
      let at : IsAtNodes cells place stack left (element fxy i.0) st.1 = moved place stack left st _ i.1 in
      came_stops takes table why (came_none takes table left (λ k. unroll (element fxy i.0) (turns_after_pass st.1 k)) s f c at.left_is)
      (stops_field takes table (λ k. unroll (element fxy i.0) (turns_after_pass st.1 k)) (λ k. unroll i.0 (turns_after_pass st.1 k)) fxy s f c (element_spec table s fxy) why f' c'
      (λ rest counts answers. refl) (rw spec at took) tick)

  pub operator_legal : (place : ℕ) (stack : List Frame) (left : Rest → Rest) (d : Cell) (fxy : ℕ) → IsAtCell cells place stack left → get_or cells place d ≡ cell.Operator fxy
      → is_legal_operator fxy ≡ true
  operator_legal place stack left d fxy st e =
      let i = met cells place stack left d (cell.Operator fxy) st e in
      search (rules, moved)

  pub turn_inserted : (place : ℕ) (stack : List Frame) (left : Rest → Rest) (d : Cell) (fxy : ℕ) (s s' : OperatorModel) (f f' : S) (c c' : ℕ) (r : Result FieldSpec TurnRefusal) (t : Taken)
      → IsAtCell cells place stack left → get_or cells place d ≡ cell.Operator fxy → is_inserted_text fxy ≡ true → r ≡ inserted_spec s fxy → TakesField takes r f (Ok t) f' → c' ≡ ticked c 1
      → s' ≡ after_field s fxy t → Turned takes table cells left place stack s f c (Ok (Some (place + 1))) stack s' f' c'
  turn_inserted place stack left d fxy s s' f f' c c' r t st e x spec took tick answers =
      let i = met cells place stack left d (cell.Operator fxy) st e in
      let at : IsAtNodes cells place stack left (operator fxy i.0) st.1 = moved place stack left st _ i.1 in
      let over : Rest → Rest = λ k. unroll (operator fxy i.0) (turns_after_pass st.1 k) in
      let next : Rest → Rest = λ k. unroll i.0 (turns_after_pass st.1 k) in
      turn_on place stack left st.1 i.0 (operator fxy i.0) s s' f f' c c' at i.2 refl refl at.legal.1.1.1
      (subst (λ z. HasWalked takes table over next s f c z f' c') (sym answers)
      (came_field takes table over next fxy s f c (inserted_spec s fxy) t f' c' (inserted_is takes table over next fxy s x (λ rest counts. refl)) (inserted_role s fxy)
      (rw spec at took) tick))

  pub fail_inserted : (place : ℕ) (stack : List Frame) (left : Rest → Rest) (d : Cell) (fxy : ℕ) (s : OperatorModel) (f f' : S) (c c' : ℕ) (r : Result FieldSpec TurnRefusal) (why : WalkStop E)
      → IsAtCell cells place stack left → get_or cells place d ≡ cell.Operator fxy → is_inserted_text fxy ≡ true → r ≡ inserted_spec s fxy → TakesField takes r f (Err why) f' → c' ≡ ticked c 1
      → StopsIn takes table left s f c why f' c'
  fail_inserted place stack left d fxy s f f' c c' r why st e x spec took tick =
      let i = met cells place stack left d (cell.Operator fxy) st e in
      let at : IsAtNodes cells place stack left (operator fxy i.0) st.1 = moved place stack left st _ i.1 in
      let over : Rest → Rest = λ k. unroll (operator fxy i.0) (turns_after_pass st.1 k) in
      let next : Rest → Rest = λ k. unroll i.0 (turns_after_pass st.1 k) in
      came_stops takes table why (came_none takes table left over s f c at.left_is)
      (stops_field takes table over next fxy s f c (inserted_spec s fxy) why f' c' (inserted_is takes table over next fxy s x (λ rest counts. refl))
      (rw spec at took) tick)

  pub turn_operator : (place : ℕ) (stack : List Frame) (left : Rest → Rest) (d : Cell) (fxy : ℕ) (s s' : OperatorModel) (f : S) (c c' : ℕ) → IsAtCell cells place stack left
      → get_or cells place d ≡ cell.Operator fxy → is_inserted_text fxy ≡ false → after_operator s fxy ≡ Ok s' → c' ≡ ticked c 1
      → Turned takes table cells left place stack s f c (Ok (Some (place + 1))) stack s' f c'
  turn_operator place stack left d fxy s s' f c c' st e x answers tick =
      let i = met cells place stack left d (cell.Operator fxy) st e in
      let at : IsAtNodes cells place stack left (operator fxy i.0) st.1 = moved place stack left st _ i.1 in
      search (rules, turn_on, came_operator)

  pub fail_operator : (place : ℕ) (stack : List Frame) (left : Rest → Rest) (d : Cell) (fxy : ℕ) (s : OperatorModel) (f : S) (c c' : ℕ) (why : TurnRefusal) → IsAtCell cells place stack left
      → get_or cells place d ≡ cell.Operator fxy → is_inserted_text fxy ≡ false → after_operator s fxy ≡ Err why → c' ≡ ticked c 1 → StopsIn takes table left s f c (stop_by why) f c'
  fail_operator place stack left d fxy s f c c' why st e x answers tick =
      let i = met cells place stack left d (cell.Operator fxy) st e in
      let at : IsAtNodes cells place stack left (operator fxy i.0) st.1 = moved place stack left st _ i.1 in
      came_stops takes table (stop_by why) (came_none takes table left (λ k. unroll (operator fxy i.0) (turns_after_pass st.1 k)) s f c at.left_is)
      (stops_operator takes table (λ k. unroll (operator fxy i.0) (turns_after_pass st.1 k)) (λ k. unroll i.0 (turns_after_pass st.1 k)) fxy s f c c' why x (λ rest counts. refl) answers tick)

  -- the cells after a body and the end of its pass
  past_body : (start after : ℕ) (body m : Tree) (tail : List Cell) → after ≡ start + (size body + 1) → drop start cells ≡ cells_of body start (cell.PassEnd ∷ cells_of m after tail)
      → drop after cells ≡ cells_of m after tail
  past_body start after body m tail e h = cc (e, drop-drop (size body + 1) start cells, drop_body body start (cells_of m after tail))

  stack_length : (place : ℕ) (stack : List Frame) (left : Rest → Rest) (st : IsAtCell cells place stack left) → length stack ≡ length st.1
  stack_length place stack left st = ap length st.2.frames ∙ frames_length cells st.1

  pub fixed_room : (place : ℕ) (stack : List Frame) (left : Rest → Rest) (d : Cell) (count after : ℕ) → IsAtCell cells place stack left → get_or cells place d ≡ cell.Fixed count after
      → length stack < 32
  fixed_room place stack left d count after st e =
      let i = met cells place stack left d (cell.Fixed count after) st e in
      omega (arith, rw (i.2) at st.2.deep, stack_length place stack left st)

  pub delayed_room : (place : ℕ) (stack : List Frame) (left : Rest → Rest) (d : Cell) (after : ℕ) → IsAtCell cells place stack left → get_or cells place d ≡ cell.Delayed after → length stack < 32
  delayed_room place stack left d after st e =
      let i = met cells place stack left d (cell.Delayed after) st e in
      omega (arith, rw (i.3) at st.2.deep, stack_length place stack left st)

  -- The factor of a delayed replication is in the next cell.
  pub factor_next : (place : ℕ) (stack : List Frame) (left : Rest → Rest) (d : Cell) (after : ℕ) → IsAtCell cells place stack left → get_or cells place d ≡ cell.Delayed after
      → (place + 1 < length cells) × (word : ℕ) × ((d2 : Cell) → get_or cells (place + 1) d2 ≡ cell.Factor word)
  factor_next place stack left d after st e =
      let i = met cells place stack left d (cell.Delayed after) st e in
      let r = drop_head cells (place + 1) _ _ i.5 in
      (r.0, i.0, r.1)

  pub turn_fixed : (place : ℕ) (stack : List Frame) (left : Rest → Rest) (d : Cell) (count after next : ℕ) (stack' : List Frame) (s : OperatorModel) (f : S) (c c' : ℕ)
      → IsAtCell cells place stack left → get_or cells place d ≡ cell.Fixed count after
      → (count ≡ 0 → (next ≡ after) × (stack' ≡ stack)) → (0 < count → (next ≡ place + 1) × (stack' ≡ stack ++ record { start = place + 1; after = after; left = count - 1 } ∷ []))
      → c' ≡ ticked c 1 → Turned takes table cells left place stack s f c (Ok (Some next)) stack' s f c'
  turn_fixed place stack left d count after next stack' s f c c' st e none some tick =
      let i = met cells place stack left d (cell.Fixed count after) st e in
      let body : Tree = i.0 in
      let m : Tree = i.1 in
      let at : IsAtNodes cells place stack left (fixed count body m) st.1 = moved place stack left st _ i.2 in
      let h1 : drop (place + 1) cells ≡ cells_of body (place + 1) (cell.PassEnd ∷ cells_of m after (tail_of st.1)) =
      rw (← i.3) at i.4 in
      let h2 : drop after cells ≡ cells_of m after (tail_of st.1) =
      past_body (place + 1) after body m (tail_of st.1) (i.3 ∙ (omega arith)) h1 in
      let en = entered cells count body m st.1 (place + 1) after next stack stack' none some at.frames h1 h2 (omega (arith, at.deep)) (omega (arith, at.deep)) at.legal.0 at.legal.1 at.outer in (
        en.0,
        en.1,
        came_then takes table (came_none takes table left (λ k. unroll (fixed count body m) (turns_after_pass st.1 k)) s f c at.left_is)
            (came_then takes table (came_turn takes table (λ k. unroll (fixed count body m) (turns_after_pass st.1 k)) (λ k. passes count (unroll body) (unroll m (turns_after_pass st.1 k))) s f c c'
            tick (λ rest counts items. refl))
            (came_none takes table (λ k. passes count (unroll body) (unroll m (turns_after_pass st.1 k))) en.0 s f c' en.2)),
        omega (arith, en.3, cost_here),
      )

  pub turn_delayed : (place : ℕ) (stack : List Frame) (left : Rest → Rest) (d d2 : Cell) (after count next fxy : ℕ) (stack' : List Frame) (s s' : OperatorModel) (f f' : S) (c c' c'' : ℕ)
      (r : Result FieldSpec TurnRefusal) (t : Taken) → IsAtCell cells place stack left → get_or cells place d ≡ cell.Delayed after → get_or cells (place + 1) d2 ≡ cell.Factor fxy
      → r ≡ factor_spec table s fxy → TakesField takes r f (Ok t) f' → t ≡ taken.Count count → s' ≡ after_field s fxy t → count ≤ 2 ^ 64
      → (count ≡ 0 → (next ≡ after) × (stack' ≡ stack)) → (0 < count → (next ≡ place + 2) × (stack' ≡ stack ++ record { start = place + 2; after = after; left = count - 1 } ∷ []))
      → c' ≡ ticked c 1 → c'' ≡ ticked c' 1 → Turned takes table cells left place stack s f c (Ok (Some next)) stack' s' f' c''
  turn_delayed place stack left d d2 after count next fxy stack' s s' f f' c c' c'' r t st e e2 spec took is answers most none some tick tock =
      let i = met cells place stack left d (cell.Delayed after) st e in
      let body : Tree = i.1 in
      let m : Tree = i.2 in
      let head = drop_head cells (place + 1) _ _ i.5 in
      let at : IsAtNodes cells place stack left (delayed fxy body m) st.1 = moved place stack left st _ (i.3 ∙ ap (λ w. delayed w body m) (grind (arith, common_steps))) in
      let h1 : drop (place + 2) cells ≡ cells_of body (place + 2) (cell.PassEnd ∷ cells_of m after (tail_of st.1)) =
      ap (λ j. drop j cells) (let q : place + 2 ≡ place + 1 + 1 = omega arith in q) ∙ head.2 ∙ ap (λ a. cells_of body (place + 2) (cell.PassEnd ∷ cells_of m a (tail_of st.1))) (sym i.4) in
      let h2 : drop after cells ≡ cells_of m after (tail_of st.1) =
      past_body (place + 2) after body m (tail_of st.1) (i.4 ∙ (omega arith)) h1 in
      let en = entered cells count body m st.1 (place + 2) after next stack stack' none some at.frames h1 h2 (omega (arith, at.deep)) (omega (arith, at.deep)) at.legal.1.0 at.legal.1.1 at.outer in
      let set : s' ≡ after_field s fxy (taken.Count count) = answers ∙ ap (after_field s fxy) is in (
        en.0,
        en.1,
        came_then takes table (came_none takes table left (λ k. unroll (delayed fxy body m) (turns_after_pass st.1 k)) s f c at.left_is)
            (came_then takes table
            (subst (λ z. HasWalked takes table (λ k. unroll (delayed fxy body m) (turns_after_pass st.1 k)) (λ k. passes count (unroll body) (unroll m (turns_after_pass st.1 k))) s f c z f' c'')
            (sym set)
            (came_factor takes table fxy body m s f c r count f' c'' spec (subst (λ u. TakesField takes r f (Ok u) f') is took) (tock ∙ ap (λ j. ticked j 1) tick) (turns_after_pass st.1)))
            (came_none takes table (λ k. passes count (unroll body) (unroll m (turns_after_pass st.1 k))) en.0 s' f' c'' en.2)),
        omega (arith, en.3, cost_here cells place (delayed fxy body m) st.1 at.here, mul-le-mul_right (1 + worst body) most),
      )

  pub fail_delayed : (place : ℕ) (stack : List Frame) (left : Rest → Rest) (d d2 : Cell) (after fxy : ℕ) (s : OperatorModel) (f f' : S) (c c' c'' : ℕ) (r : Result FieldSpec TurnRefusal)
      (why : WalkStop E) → IsAtCell cells place stack left → get_or cells place d ≡ cell.Delayed after → get_or cells (place + 1) d2 ≡ cell.Factor fxy
      → r ≡ factor_spec table s fxy → TakesField takes r f (Err why) f' → c' ≡ ticked c 1 → c'' ≡ ticked c' 1 → StopsIn takes table left s f c why f' c''
  fail_delayed place stack left d d2 after fxy s f f' c c' c'' r why st e e2 spec took tick tock =
      let i = met cells place stack left d (cell.Delayed after) st e in
      let head = drop_head cells (place + 1) _ _ i.5 in
      let at : IsAtNodes cells place stack left (delayed fxy i.1 i.2) st.1 = moved place stack left st _ (i.3 ∙ ap (λ w. delayed w i.1 i.2) (grind (arith, common_steps))) in
      came_stops takes table why (came_none takes table left (λ k. unroll (delayed fxy i.1 i.2) (turns_after_pass st.1 k)) s f c at.left_is)
      (stops_factor takes table fxy i.1 i.2 s f c r why f' c'' spec took (tock ∙ ap (λ j. ticked j 1) tick) (turns_after_pass st.1))

  pub pass_end_open : (place : ℕ) (stack : List Frame) (left : Rest → Rest) (d : Cell) → IsAtCell cells place stack left → get_or cells place d ≡ cell.PassEnd
      → (0 < length stack) × (length stack ≤ 32)
  pass_end_open place stack left d st e =
      let i = met cells place stack left d cell.PassEnd st e in
      let more : length st.1 ≡ length (i.0 ∷ i.1) = ap length i.2 in
      (omega (arith, more, stack_length place stack left st), omega (arith, st.2.deep, stack_length place stack left st))

  pub turn_pass_end : (place : ℕ) (stack : List Frame) (left : Rest → Rest) (d : Cell) (frame : Frame) (stack1 stack' : List Frame) (next : ℕ) (s : OperatorModel) (f : S) (c c' : ℕ)
      → IsAtCell cells place stack left → get_or cells place d ≡ cell.PassEnd → stack ≡ stack1 ++ frame ∷ []
      → (frame.left ≡ 0 → (next ≡ frame.after) × (stack' ≡ stack1))
      → (0 < frame.left → (next ≡ frame.start) × (stack' ≡ stack1 ++ record { start = frame.start; after = frame.after; left = frame.left - 1 } ∷ []))
      → c' ≡ ticked c 1 → Turned takes table cells left place stack s f c (Ok (Some next)) stack' s f c'
  turn_pass_end place stack left d frame stack1 stack' next s f c c' st e popped none some tick =
      let i = met cells place stack left d cell.PassEnd st e in
      let g : OpenGroup = i.0 in
      let outer : List OpenGroup = i.1 in
      let half : IsAtNodes cells place stack left bare st.1 = moved place stack left st _ i.3 in
      let at : IsAtNodes cells place stack left bare (g ∷ outer) = subst (λ x. IsAtNodes cells place stack left bare x) i.2 half in
      let last = last_is Frame stack1 (frames_of outer) frame g.frame (sym popped ∙ at.frames) in
      let en = entered cells g.frame.left g.body g.more outer g.frame.start g.frame.after next stack1 stack'
      (subst (λ (w : Frame). w.left ≡ 0 → (next ≡ w.after) × (stack' ≡ stack1)) last.1 none)
      (rw (← last.1) some)
      last.0 at.outer.0 at.outer.1 at.outer.2 at.outer.3 at.outer.4 at.outer.5 at.outer.6 in (
        en.0,
        en.1,
        came_then takes table (came_none takes table left (λ k. turns_after_pass (g ∷ outer) k) s f c at.left_is)
            (came_then takes table (came_turn takes table (λ k. turns_after_pass (g ∷ outer) k) (λ k. passes g.frame.left (unroll g.body) (unroll g.more (turns_after_pass outer k))) s f c c' tick
            (λ rest counts items. refl))
            (came_none takes table (λ k. passes g.frame.left (unroll g.body) (unroll g.more (turns_after_pass outer k))) en.0 s f c' en.2)),
        omega (
          arith,
          en.3,
          cost_here cells place bare (g ∷ outer) at.here,
          ap (owed (costs cells 0)) (popped ∙ ap (λ w. stack1 ++ w ∷ []) last.1),
          owed_push (costs cells 0) stack1 g.frame,
          ap (λ x. g.frame.left * (1 + x)) (cost_here cells g.frame.start g.body (g ∷ outer) at.outer.0),
          cost_here,
        ),
      )

  pub turn_finish : (place : ℕ) (stack : List Frame) (left : Rest → Rest) (d : Cell) (s : OperatorModel) (f : S) (c c' : ℕ) → IsAtCell cells place stack left → get_or cells place d ≡ cell.Finish
      → c' ≡ ticked c 1 → Turned takes table cells left place stack s f c (Ok None) stack s f c'
  turn_finish place stack left d s f c c' st e tick =
      let i = met cells place stack left d cell.Finish st e in
      let at : IsAtNodes cells place stack left bare [] = search (rules, moved) in
      (at.left_is, refl, refl, tick)

-- At first, a walk is before the whole template.
pub fits_first : (cells : List Cell) (template : Tree) (stack : List Frame) → AreCellsOf cells template → stack ≡ [] → IsAtCell cells 0 stack (unroll template)
fits_first cells template stack h e = (template, [], record { frames = e; here = h.flattened; deep = omega (arith, h.shallow); legal = h.legal; outer = tt; left_is = λ k counts. refl })

module _ {S E : Type 0} (takes : S → FieldSpec → Result Taken E → S → Type 0) (table : List Row) (cells : List Cell) where
  -- If a turn ends the walk, the walk is complete.
  pub led_out : (template : Tree) (left : Rest → Rest) (place : ℕ) (stack : List Frame) (s : OperatorModel) (f0 f : S) (c0 c : ℕ) (o : Option ℕ) (stack' : List Frame) (s' : OperatorModel) (f' : S)
      (c' : ℕ) → ((next : ℕ) → o ≡ Some next → ⊥) → HasWalked takes table (unroll template) left begin f0 c0 s f c → Turned takes table cells left place stack s f c (Ok o) stack' s' f' c'
      → Walked takes (counted_item table template) f0 c0 (Ok tt) f' c'
  unfolding next_item
  led_out template left place stack s f0 f c0 c (Some next) stack' s' f' c' never came t = absurd (never next refl)
  led_out template left place stack s f0 f c0 c None stack' s' f' c' never came t =
      subst (λ g. Walked takes (course table (turns_of template) begin) f0 c0 (Ok tt) g c') (sym t.2)
      (whole takes table template begin s f0 f c0 c c' (came_then takes table came (came_none takes table left (λ rest. rest) s f c t.0)) t.3)

  -- If a turn stops the walk, the whole walk stops for the same reason.
  pub led_off : (template : Tree) (left : Rest → Rest) (s : OperatorModel) (f0 f f' : S) (c0 c c' : ℕ) (why : WalkStop E) → HasWalked takes table (unroll template) left begin f0 c0 s f c
      → StopsIn takes table left s f c why f' c' → Walked takes (counted_item table template) f0 c0 (Err why) f' c'
  unfolding next_item
  led_off template left s f0 f f' c0 c c' why came w = whole_stops takes table template begin f0 f' c0 c' why (came_stops takes table why came w)

  -- At first, a walk has made no turn.
  pub came_begun : (template : Tree) (s : OperatorModel) (f : S) (c : ℕ) → s ≡ begin → HasWalked takes table (unroll template) (unroll template) begin f c s f c
  came_begun template s f c e = grind arith
