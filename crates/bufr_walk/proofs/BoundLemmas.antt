-- Upper bounds on the numbers of items and steps of a reading, and of showing it.
use Rattle.std.proofs.lemmas.Grind.{common_steps}
use Rattle.bufr_walk.proofs.PassLemmas.{pass_at_end, next_pass}
use Rattle.bufr_walk.specs.Readers.{first_items, items_by_pass, place_at}
use Rattle.std.proofs.lemmas.List.{length-map}
use Rattle.std.proofs.Common.{◌≡◌, ℕ, zero, suc, ◌+◌, ◌-◌, ◌*◌, ◌<◌, ◌≤◌, List, ◌∷◌, length, Bool, true, false, ◌||◌, Result, Ok, Err, refl, ap, subst, arith, ◌++◌, inl, inr, sym, None, [], rules}
use Rattle.std.proofs.Math.Nat.{mul-le-mul_left}
use Rattle.bufr_tables.specs.Prelude.{Tree, bare, element, operator, fixed, delayed, size, places, consumes, is_inserted_text, Row, EveryGroupConsumes, IsSound}
use Rattle.bufr_walk.specs.Prelude.{next_item, Taken, TurnRefusal, FieldSpec, Content, OperatorModel, begin, after_operator, after_field, element_spec, factor_spec, inserted_spec, Turns, finish, operator_turn, Rest, unroll, passes, pass_end, at_end, astray, counts_of, TakenField, Takes, oks, answers_of, Walked, ticked, WalkStop, ShowFault, Call, Timed, item_calls, subset_calls, calls_for, items_called, turns_for, Shows, IsStoredReading, PaysBits, items_in, Read, course_of, Item, plain, answers_in, turns_in, apart, together, max_values, subsets_from, each_subset, without_turns, walk_shown, group, NextTurn, CountedCourse, uncounted, counted_item, after, answer_of, counted_course_of}
use Rattle.bufr_walk.specs.declared.reading.StoredItems.{StoredItems}
use Rattle.bufr_walk.specs.Pass.{values_read, calls_of, turns_shown, passes_apart, passes_together, read_pass, reading_in, stop_of}
use Rattle.bufr_walk.proofs.WalkLemmas.{stop_cases}
use Rattle.bufr_walk.proofs.WalkProgress.{in_one_turn, counted_ahead, counted_asked, counted_operated, counted_either}
use Rattle.bufr_walk.proofs.PackedShowing.{no_turns_in}

module _ (table : List Row) (n : ℕ) where
  -- The turns up to what comes next are at most `a`, plus n for each item.
  abbrev pub Bounded : ℕ → Rest → Type 0
  Bounded a rest = (counts : List ℕ) (s : OperatorModel) (items : List Taken) → (counted_ahead table (rest counts) s items).turns ≤ a + n * length items

  asked_turns : (r : Result FieldSpec TurnRefusal) (go : Taken → List Taken → NextTurn) (items : List Taken) (a : ℕ) → ((t : Taken) (more : List Taken) → (go t more).turns ≤ a + n * length more)
      → (counted_asked r go items).turns ≤ 1 + (a - n) + n * length items
  asked_turns (Err why) go items a h = omega arith
  asked_turns (Ok spec) go [] a h = omega arith
  asked_turns (Ok spec) go (t ∷ items) a h = omega arith

  operated_turns : (r : Result OperatorModel TurnRefusal) (go : OperatorModel → NextTurn) (items : List Taken) (a : ℕ) → ((s : OperatorModel) → (go s).turns ≤ a + n * length items)
      → (counted_operated r go).turns ≤ 1 + a + n * length items
  operated_turns (Err why) go items a h = omega arith
  operated_turns (Ok s) go items a h = omega (arith, h s)

  -- The turn of an operator adds 1 to the bound, whether or not the operator inserts a text.
  operator_turns : (fxy : ℕ) (s : OperatorModel) (next : Turns) (items : List Taken) (a : ℕ)
      → ((s' : OperatorModel) (more : List Taken) → (counted_ahead table next s' more).turns ≤ a + n * length more)
      → (counted_ahead table (operator_turn fxy next) s items).turns ≤ 1 + a + n * length items
  operator_turns fxy s next items a h = by (is_inserted_text fxy)
    where
      by : (b : Bool) → (counted_either b (counted_asked (inserted_spec s fxy) (λ t more. counted_ahead table next (after_field s fxy t) more) items) (counted_operated (after_operator s fxy)
          (λ s'. counted_ahead table next s' items))).turns ≤ 1 + a + n * length items
      by true = omega (arith, asked_turns (inserted_spec s fxy) (λ t more. counted_ahead table next (after_field s fxy t) more) items a (λ t more. h (after_field s fxy t) more))
      by false = operated_turns (after_operator s fxy) (λ s'. counted_ahead table next s' items) items a (λ s'. h s' items)

  operator_pays : (fxy : ℕ) (suffix : Bool) (s : OperatorModel) (next : Turns) (items : List Taken) (a z : ℕ) → a - n ≤ z
      → ((s' : OperatorModel) (more : List Taken) → (counted_ahead table next s' more).turns ≤ a + n * length more)
      → (suffix ≡ true → (s' : OperatorModel) → (counted_ahead table next s' items).turns ≤ z + n * length items) → (is_inserted_text fxy || suffix) ≡ true
      → (counted_ahead table (operator_turn fxy next) s items).turns ≤ 1 + z + n * length items
  operator_pays fxy suffix s next items a z near h g c = by (is_inserted_text fxy) c
    where
      by : (b : Bool) → (b || suffix) ≡ true → (counted_either b (counted_asked (inserted_spec s fxy) (λ t more. counted_ahead table next (after_field s fxy t) more) items)
          (counted_operated (after_operator s fxy)
          (λ s'. counted_ahead table next s' items))).turns ≤ 1 + z + n * length items
      by true q = omega (arith, near, asked_turns (inserted_spec s fxy) (λ t more. counted_ahead table next (after_field s fxy t) more) items a (λ t more. h (after_field s fxy t) more))
      by false q = operated_turns (after_operator s fxy) (λ s'. counted_ahead table next s' items) items z (λ s'. g q s')

  -- The body has at least one item, which accounts for n turns. Therefore, the body and what
  -- follows it have the bound `size body`, plus the part of `a` that exceeds n.
  abbrev pub Pays : Tree → Type 0
  Pays body = (a : ℕ) (rest : Rest) → Bounded a rest → Bounded (size body + (a - n)) (unroll body rest)

  passes_some : (body : Tree) → 1 + size body ≤ n → Pays body → (k a : ℕ) (rest : Rest) → Bounded a rest → Bounded (size body + ((1 + a) - n)) (passes (suc k) (unroll body) rest)
  passes_some body h pays zero a rest b = grind arith
  passes_some body h pays (suc k) a rest b = λ counts s items.
      omega (
        arith,
        pays (1 + (size body + ((1 + a) - n))) (λ later_counts. pass_end (passes (suc k) (unroll body) rest later_counts))
            (λ counts' s' items'. omega (arith, passes_some body h pays k a rest b counts' s' items')) counts s items,
      )

  passes_any : (body : Tree) → 1 + size body ≤ n → Pays body → (k a : ℕ) (rest : Rest) → Bounded a rest → Bounded (size body + a) (passes k (unroll body) rest)
  passes_any body h pays zero a rest b = omega arith
  passes_any body h pays (suc k) a rest b = λ counts s items. omega (arith, passes_some body h pays k a rest b counts s items)

  delayed_turns : (fxy : ℕ) (body more : Tree) (rest : Rest) (a : ℕ) → ((c : ℕ) → Bounded (size body + (size more + a)) (passes c (unroll body) (unroll more rest)))
      → (counts : List ℕ) (s : OperatorModel) (items : List Taken)
      → (counted_ahead table (unroll (delayed fxy body more) rest counts) s items).turns ≤ 3 + size body + size more + (a - n) + n * length items
  delayed_turns fxy body more rest a h [] s items =
      omega (arith, asked_turns (factor_spec table s fxy) (λ t more_items. in_one_turn astray) items 1 (λ t more_items. omega arith))
  delayed_turns fxy body more rest a h (c ∷ counts) s items =
      omega (
        arith,
        asked_turns (factor_spec table s fxy) (λ t more_items. counted_ahead table (passes c (unroll body) (unroll more rest) counts) (after_field s fxy t) more_items) items
            (size body + (size more + a)) (λ t more_items. h c counts (after_field s fxy t) more_items),
      )

  mutual
    pub bounded : (t : Tree) → size t < n → EveryGroupConsumes t → (a : ℕ) (rest : Rest) → Bounded a rest → Bounded (size t + a) (unroll t rest)
    bounded bare h g a rest b = λ counts s items. omega (arith, b counts s items)
    bounded (element fxy more) h g a rest b = λ counts s items.
        omega (
          arith,
          asked_turns (element_spec table s fxy) (λ t more_items. counted_ahead table (unroll more rest counts) (after_field s fxy t) more_items) items (size more + a)
              (λ t more_items. bounded more (omega arith) g a rest b counts (after_field s fxy t) more_items),
        )
    bounded (operator fxy more) h g a rest b = λ counts s items.
        omega (arith, operator_turns fxy s (unroll more rest counts) items (size more + a) (λ s' answers. bounded more (omega arith) g a rest b counts s' answers))
    bounded (fixed count body more) h g a rest b = λ counts s items.
        omega (arith, passes_any body (omega arith) (pays body (omega arith) g.1.1.0 g.1.0) count (size more + a) (unroll more rest) (bounded more (omega arith) g.1.1.1 a rest b) counts s items)
    bounded (delayed fxy body more) h g a rest b = λ counts s items.
        omega (
          arith,
          delayed_turns fxy body more rest a (λ c. passes_any body (omega arith) (pays body (omega arith) g.1.0 g.0) c (size more + a) (unroll more rest)
              (bounded more (omega arith) g.1.1 a rest b)) counts s items,
        )

    pub pays : (t : Tree) → size t < n → EveryGroupConsumes t → consumes t ≡ true → Pays t
    pays bare h g c a rest b = cc
    pays (element fxy more) h g c a rest b = λ counts s items.
        omega (
          arith,
          asked_turns (element_spec table s fxy) (λ t more_items. counted_ahead table (unroll more rest counts) (after_field s fxy t) more_items) items (size more + a)
              (λ t more_items. bounded more (omega arith) g a rest b counts (after_field s fxy t) more_items),
        )
    pays (operator fxy more) h g c a rest b = λ counts s items.
        omega (
          arith,
          operator_pays fxy (consumes more) s (unroll more rest counts) items (size more + a) (size more + (a - n)) (omega arith)
              (λ s' answers. bounded more (omega arith) g a rest b counts s' answers) (λ c' s'. pays more (omega arith) g c' a rest b counts s' items) c,
        )
    pays (fixed zero body more) h g c a rest b = absurd (omega arith)
    pays (fixed (suc k) body more) h g c a rest b = λ counts s items.
        omega (arith, passes_some body (omega arith) (pays body (omega arith) g.1.1.0 g.1.0) k (size more + a) (unroll more rest) (bounded more (omega arith) g.1.1.1 a rest b) counts s items)
    pays (delayed fxy body more) h g c a rest b = λ counts s items.
        omega (
          arith,
          delayed_turns fxy body more rest a (λ j. passes_any body (omega arith) (pays body (omega arith) g.1.0 g.0) j (size more + a) (unroll more rest)
              (bounded more (omega arith) g.1.1 a rest b)) counts s items,
        )

  -- If `rest` ends after these items, `rest'` has at least n more turns after them.
  abbrev Longer : Rest → Rest → Type 0
  Longer rest rest' = (counts : List ℕ) (s : OperatorModel) (items : List Taken) → (counted_ahead table (rest counts) s items).next ≡ at_end
      → (counted_ahead table (rest counts) s items).turns + n ≤ (counted_ahead table (rest' counts) s items).turns

  asked_longer : (r : Result FieldSpec TurnRefusal) (go go' : Taken → List Taken → NextTurn) (items : List Taken)
      → ((t : Taken) (more : List Taken) → (go t more).next ≡ at_end → (go t more).turns + n ≤ (go' t more).turns) → (counted_asked r go items).next ≡ at_end
      → (counted_asked r go items).turns + n ≤ (counted_asked r go' items).turns
  asked_longer (Err why) go go' items h e = cc
  asked_longer (Ok spec) go go' [] h e = cc
  asked_longer (Ok spec) go go' (t ∷ items) h e = omega (arith, h t items e)

  operated_longer : (r : Result OperatorModel TurnRefusal) (go go' : OperatorModel → NextTurn) → ((s : OperatorModel) → (go s).next ≡ at_end → (go s).turns + n ≤ (go' s).turns)
      → (counted_operated r go).next ≡ at_end → (counted_operated r go).turns + n ≤ (counted_operated r go').turns
  operated_longer (Err why) go go' h e = cc
  operated_longer (Ok s) go go' h e = omega (arith, h s e)

  operator_longer : (fxy : ℕ) (rest rest' : Rest) → Longer rest rest' → Longer (λ counts. operator_turn fxy (rest counts)) (λ counts. operator_turn fxy (rest' counts))
  operator_longer fxy rest rest' h counts s items e = by (is_inserted_text fxy) e
    where
      turn : Bool → Rest → NextTurn
      turn b rest = counted_either b (counted_asked (inserted_spec s fxy) (λ t more. counted_ahead table (rest counts) (after_field s fxy t) more) items)
          (counted_operated (after_operator s fxy) (λ s'. counted_ahead table (rest counts) s' items))

      by : (b : Bool) → (turn b rest).next ≡ at_end → (turn b rest).turns + n ≤ (turn b rest').turns
      by true q = asked_longer (inserted_spec s fxy) (λ t more. counted_ahead table (rest counts) (after_field s fxy t) more)
          (λ t more. counted_ahead table (rest' counts) (after_field s fxy t) more) items (λ t more. h counts (after_field s fxy t) more) q
      by false q = operated_longer (after_operator s fxy) (λ s'. counted_ahead table (rest counts) s' items) (λ s'. counted_ahead table (rest' counts) s' items) (λ s'. h counts s' items) q

  abbrev LongerAfter : Tree → Type 0
  LongerAfter body = (rest rest' : Rest) → Longer rest rest' → Longer (unroll body rest) (unroll body rest')

  passes_longer : (body : Tree) → LongerAfter body → (k : ℕ) (rest rest' : Rest) → Longer rest rest' → Longer (passes k (unroll body) rest) (passes k (unroll body) rest')
  passes_longer body go zero rest rest' h = h
  passes_longer body go (suc k) rest rest' h =
      go (λ counts. pass_end (passes k (unroll body) rest counts)) (λ counts. pass_end (passes k (unroll body) rest' counts))
      (λ counts s items e. omega (arith, passes_longer body go k rest rest' h counts s items e))

  delayed_longer : (fxy : ℕ) (body more : Tree) (rest rest' : Rest) → ((k : ℕ) → Longer (passes k (unroll body) (unroll more rest)) (passes k (unroll body) (unroll more rest')))
      → Longer (unroll (delayed fxy body more) rest) (unroll (delayed fxy body more) rest')
  delayed_longer fxy body more rest rest' h [] s items e =
      omega (arith, asked_longer (factor_spec table s fxy) (λ t answers. in_one_turn astray) (λ t answers. in_one_turn astray) items (λ t answers q. cc) e)
  delayed_longer fxy body more rest rest' h (k ∷ counts) s items e =
      let go : Rest → Taken → List Taken → NextTurn = λ end t answers. counted_ahead table (passes k (unroll body) (unroll more end) counts) (after_field s fxy t) answers in
      omega (arith, asked_longer (factor_spec table s fxy) (go rest) (go rest') items (λ t answers. h k counts (after_field s fxy t) answers) e)

  pub longer : (t : Tree) → LongerAfter t
  longer bare rest rest' h = h
  longer (element fxy more) rest rest' h = λ counts s items.
      asked_longer (element_spec table s fxy) (λ t answers. counted_ahead table (unroll more rest counts) (after_field s fxy t) answers)
      (λ t answers. counted_ahead table (unroll more rest' counts) (after_field s fxy t) answers) items (λ t answers. longer more rest rest' h counts (after_field s fxy t) answers)
  longer (operator fxy more) rest rest' h = operator_longer fxy (unroll more rest) (unroll more rest') (longer more rest rest' h)
  longer (fixed count body more) rest rest' h = λ counts s items e.
      omega (arith, passes_longer body (longer body) count (unroll more rest) (unroll more rest') (longer more rest rest' h) counts s items e)
  longer (delayed fxy body more) rest rest' h = grind (arith, common_steps, longer body, longer more rest rest' h, delayed_longer, passes_longer)

-- k turns without a field, and then the end of the template
abbrev groups : ℕ → Turns
groups zero = finish
groups (suc k) = group (groups k)

group_turns : (table : List Row) (k : ℕ) (s : OperatorModel) (items : List Taken) → (counted_ahead table (groups k) s items).turns ≡ k + 1
group_turns table zero s items = refl
group_turns table (suc k) s items = omega (arith, group_turns table k s items)

-- The turns up to what comes next are at most `places t` for each item, and `places t` more.
pub turns_before : (table : List Row) (t : Tree) (answers : List Taken) → IsSound t → (counted_item table t answers).turns ≤ places t * (length answers + 1)
turns_before table t answers g = omega (arith, bounded table (1 + size t) t (omega arith) g.0 1 (λ _. finish) (λ counts s items'. omega arith) (counts_of answers) begin answers)

-- If the template ends after these items, the turns are at most `places t` for each item.
pub turns_in_all : (table : List Row) (t : Tree) (answers : List Taken) → IsSound t → (counted_item table t answers).next ≡ at_end → (counted_item table t answers).turns ≤ places t * length answers
unfolding next_item
turns_in_all table t answers g e =
    let n : ℕ = 1 + size t in
    omega (
      arith,
      longer table n t (λ _. finish) (λ _. groups n) (λ counts s items q. omega (arith, group_turns table n s items)) (counts_of answers) begin answers e,
      pays table n t (omega arith) g.0 g.1 (n + 1) (λ _. groups n) (λ counts s items. omega (arith, group_turns table n s items)) (counts_of answers) begin answers,
    )

answer_length : (items : List TakenField) → length (answers_of items) ≡ length items
answer_length [] = refl
answer_length (i ∷ items) = ap suc (answer_length items)

by_bits : (n a b k : ℕ) → a + k ≤ b → n * k ≤ n * (b - a)
by_bits n a b k u = search (rules, mul-le-mul_left)

ticks_at_most : (c t c' b : ℕ) → c' ≡ ticked c t → t ≤ b → c' ≤ c + b
ticks_at_most c t c' b h u = omega arith

module _ {S E : Type 0} (takes : S → FieldSpec → Result Taken E → S → Type 0) (used : S → ℕ)
    (advances : (s : S) (spec : FieldSpec) (t : Taken) (s' : S) → takes s spec (Ok t) s' → used s < used s')
    (refuses : (s : S) (spec : FieldSpec) (e : E) (s' : S) → takes s spec (Err e) s' → used s' ≡ used s) where
  -- Each item uses at least one bit.
  items_used : (n : CountedCourse) (s : S) (items : List TakenField) (s' : S) → Takes (oks takes) (uncounted n) s items s' → used s + length items ≤ used s'
  items_used n s [] s' w = omega (arith, ap used w)
  items_used n s (i ∷ items) s' w = omega (arith, advances s i.spec i.taken w.0 w.2, items_used (λ more. n (i.taken ∷ more)) w.0 items s' w.3)

  pub steps_ok : (table : List Row) (t : Tree) (s : S) (c : ℕ) (s' : S) (c' : ℕ) → IsSound t → Walked takes (counted_item table t) s c (Ok tt) s' c' → c' ≤ c + places t * (used s' - used s)
  steps_ok table t s c s' c' sound w =
      let paid : used s + length w.0 ≤ used s' = items_used (counted_item table t) s w.0 s' w.1 in
      let turns : (counted_item table t (answers_of w.0)).turns ≤ places t * length w.0 =
      subst (λ k. (counted_item table t (answers_of w.0)).turns ≤ places t * k) (answer_length w.0) (turns_in_all table t (answers_of w.0) sound w.2) in
      let bits : places t * length w.0 ≤ places t * (used s' - used s) = by_bits (places t) (used s) (used s') (length w.0) paid in
      omega (arith, turns, bits)

  pub steps_err : (table : List Row) (t : Tree) (s : S) (c : ℕ) (why : WalkStop E) (s' : S) (c' : ℕ) → IsSound t → Walked takes (counted_item table t) s c (Err why) s' c'
      → c' ≤ c + places t * (used s' - used s + 1)
  steps_err table t s c why s' c' sound w =
      let same : used w.1 ≤ used s' = stop_cases takes (λ next y. used w.1 ≤ used s') w.1 s' (λ spec e h. omega (arith, refuses w.1 spec e s' h)) (λ spec r h. omega (arith, ap used h))
      (λ x h. omega (arith, ap used h)) (counted_item table t (answers_of w.0)).next why w.3 in
      let paid : used s + length w.0 ≤ used w.1 = items_used (counted_item table t) s w.0 w.1 w.2 in
      let turns : (counted_item table t (answers_of w.0)).turns ≤ places t * (length w.0 + 1) =
      subst (λ k. (counted_item table t (answers_of w.0)).turns ≤ places t * (k + 1)) (answer_length w.0) (turns_before table t (answers_of w.0) sound) in
      let bits : places t * (length w.0 + 1) ≤ places t * (used s' - used s + 1) = mul-le-mul_left (places t) (let h : length w.0 + 1 ≤ used s' - used s + 1 = omega (arith, same, paid) in h) in
      omega (arith, turns, bits)

-- ---- Bounds on the numbers of items and steps when a reading is shown.

-- the number of items that calls show
called_more : (a b : List Timed) → items_called (a ++ b) ≡ items_called a + items_called b
called_more [] b = omega arith
called_more (t ∷ a) b = omega (arith, called_more a b)

called_items : (table : List Row) (before : ℕ) (course : CountedCourse) (items : List (Item Content)) → items_called (item_calls table before course items) ≡ length items
called_items table before course [] = refl
called_items table before course (i ∷ items) = omega (arith, called_items table before (after plain course i) items)

called_subsets : (table : List Row) (course : CountedCourse) (before number : ℕ) (subsets : List (List (Item Content)))
    → items_called (subset_calls table course before number subsets) ≡ items_in subsets
called_subsets table course before number [] = refl
called_subsets table course before number (items ∷ subsets) =
    let suffix : List Timed = subset_calls table course (before + (course (answers_in answer_of items)).turns) (number + 1) subsets in
    omega (
      arith,
      called_more (item_calls table before course items) suffix,
      called_items,
      called_subsets table course (before + (course (answers_in answer_of items)).turns) (number + 1) subsets,
    )

-- A reading has at most `max_values` items to show.
pub few_items : (r : Read) (k : StoredItems) → IsStoredReading r k → items_called (calls_of r) ≤ max_values
few_items r k h = let v = values_read r in omega (arith, called_subsets r.table (walk_shown r v) 0 1 (each_subset r.source.subsets v), h.most)

-- The walk makes at most `most` turns before each of these calls.
abbrev AllWithin : ℕ → List Timed → Type 0
AllWithin most [] = Unit {0}
AllWithin most (t ∷ calls) = (t.turns ≤ most) × AllWithin most calls

within_more : (most : ℕ) (a b : List Timed) → AllWithin most a → AllWithin most b → AllWithin most (a ++ b)
within_more most [] b h g = g
within_more most (t ∷ a) b h g = (h.0, within_more most a b h.1 g)

ticked_most : (t most steps : ℕ) → steps ≡ ticked 0 t → t ≤ most → steps ≤ most
ticked_most t most steps e h = omega (arith, e, h)

shows_within : {S E : Type 0} (sees : S → Call → Result (Unit {0}) E → S → Type 0) (most : ℕ) (s : S) (calls : List Timed) (turns : ℕ) (r : Result (Unit {0}) (ShowFault E)) (s' : S) (steps : ℕ)
    → Shows sees s calls turns r s' steps → turns ≤ most → AllWithin most calls → steps ≤ most
shows_within sees most s [] turns (Ok u) s' steps h t g = ticked_most turns most steps h.1 t
shows_within sees most s [] turns (Err why) s' steps h t g = absurd h
shows_within sees most s (c ∷ calls) turns (Ok u) s' steps h t g = shows_within sees most h.0 calls turns (Ok tt) s' steps h.2 t g.1
shows_within sees most s (c ∷ calls) turns (Err why) s' steps h t g =
    elim h as (λ _. steps ≤ most) [ inl x ↦ ticked_most c.turns most steps x.1 g.0 | inr y ↦ shows_within sees most y.0 calls turns (Err why) s' steps y.2 t g.1 ]

gives_length : (items : List (Item Content)) → length (answers_in answer_of items) ≡ length items
gives_length items = length-map items (λ i. answer_of i.spec i.content)

-- The course continues after `done` items. The turns up to what comes next are at most n for each
-- item, and n more.
abbrev TurnsWithin : ℕ → ℕ → CountedCourse → Type 0
TurnsWithin n done course = (answers : List Taken) → (course answers).turns ≤ n * (done + length answers + 1)

split : (n a b : ℕ) → n * (a + b) ≡ n * a + n * b
split n a b = grind arith

mono : (n a b : ℕ) → a ≤ b → n * a ≤ n * b
mono n a b h = mul-le-mul_left n h

items_within : (n most : ℕ) (table : List Row) (before paid done : ℕ) (course : CountedCourse) (items : List (Item Content)) → TurnsWithin n done course → before ≤ n * paid
    → n * (paid + (done + length items)) ≤ most → AllWithin most (item_calls table before course items)
items_within n most table before paid done course [] h b m = tt
items_within n most table before paid done course (i ∷ items) h b m = (
  omega arith,
  items_within n most table before paid (done + 1) (after plain course i) items
      (λ answers. rw (← counted done (length answers)) (h (answer_of i.spec i.content ∷ answers))) b
      (rw (← moved done (length items)) m),
)
  where
    counted : (d l : ℕ) → d + suc l + 1 ≡ d + 1 + l + 1
    counted d l = omega arith

    moved : (d l : ℕ) → d + suc l ≡ d + 1 + l
    moved d l = omega arith

-- The template ends after the items of each subset.
abbrev AllEnd : CountedCourse → List (List (Item Content)) → Type 0
AllEnd course [] = Unit {0}
AllEnd course (items ∷ subsets) = ((course (answers_in answer_of items)).next ≡ at_end) × AllEnd course subsets

all_end : (course : CountedCourse) (n : ℕ) (bits : List Bool) → stop_of (passes_apart (uncounted course) n bits) ≡ None → AllEnd course (items_by_pass (passes_apart (uncounted course) n bits))
all_end course zero bits h = tt
all_end course (suc n) bits h =
    let k = next_pass (uncounted course) (suc n) n bits refl h in
    let p = read_pass plain (λ items. false) (uncounted course) bits in
    subst (λ ps. AllEnd course (items_by_pass ps)) (sym k.1)
    (pass_at_end plain (λ items. false) (suc (length bits)) (uncounted course) (place_at 0 bits) k.0, all_end course n p.state.left k.2)

subsets_within : (most : ℕ) (table : List Row) (template : Tree) (before paid number : ℕ) (subsets : List (List (Item Content))) → IsSound template
    → AllEnd (counted_item table template) subsets → before ≤ places template * paid → places template * (paid + items_in subsets) ≤ most
    → AllWithin most (subset_calls table (counted_item table template) before number subsets) × (before + turns_in answer_of (counted_item table template) subsets ≤ most)
subsets_within most table template before paid number [] sound h b m = (tt, omega (arith, b, m, mono (places template) paid (paid + 0) (omega arith)))
subsets_within most table template before paid number (items ∷ subsets) sound h b m =
    let n : ℕ = places template in
    let course : CountedCourse = counted_item table template in
    let turns : (course (answers_in answer_of items)).turns ≤ n * length items =
    subst (λ k. (course (answers_in answer_of items)).turns ≤ n * k) (gives_length items)
    (turns_in_all table template (answers_in answer_of items) sound h.0) in
    let more : before + (course (answers_in answer_of items)).turns ≤ n * (paid + length items) = omega (arith, b, turns, split n paid (length items)) in
    let rest = subsets_within most table template (before + (course (answers_in answer_of items)).turns) (paid + length items) (number + 1) subsets sound h.1 more
    (subst (λ k. n * k ≤ most) (moved paid (length items) (items_in subsets)) m) in (
      (
        omega (arith, b, m, mono n paid (paid + (length items + items_in subsets)) (omega arith)),
        within_more most (item_calls table before course items) (subset_calls table course (before + (course (answers_in answer_of items)).turns) (number + 1) subsets)
            (items_within n most table before paid 0 course items (λ answers. subst (λ k. (course answers).turns ≤ n * k) (zeroed (length answers)) (turns_before table template answers sound)) b
            (omega (arith, m, mono n (paid + (0 + length items)) (paid + (length items + items_in subsets)) (omega arith)))) rest.0,
      ),
      omega (arith, rest.1),
    )
  where
    moved : (p l t : ℕ) → p + (l + t) ≡ p + l + t
    moved p l t = omega arith

    zeroed : (l : ℕ) → l + 1 ≡ 0 + l + 1
    zeroed l = omega arith

untimed_within : (most : ℕ) (table : List Row) (before number : ℕ) (subsets : List (List (Item Content))) → before ≡ 0 → AllWithin most (subset_calls table without_turns before number subsets)
untimed_within most table before number [] none = tt
untimed_within most table before number (items ∷ subsets) none = (
  omega arith,
  within_more most (item_calls table before without_turns items) (subset_calls table without_turns (before + (without_turns (answers_in answer_of items)).turns) (number + 1) subsets) (one items)
      (untimed_within most table (before + (without_turns (answers_in answer_of items)).turns) (number + 1) subsets (omega arith)),
)
  where
    one : (items : List (Item Content)) → AllWithin most (item_calls table before without_turns items)
    one [] = tt
    one (i ∷ items) = (omega arith, one items)

-- Showing a reading takes at most `places r.template` steps for each bit.
pub steps_within : {S E : Type 0} (sees : S → Call → Result (Unit {0}) E → S → Type 0) (r : Read) (k : StoredItems) (s s' : S) (result : Result (Unit {0}) (ShowFault E)) (steps : ℕ)
    → IsSound r.template → IsStoredReading r k
    → Shows sees s (calls_of r) (turns_shown r) result s' steps → steps ≤ places r.template * r.bits
steps_within sees r k s s' result steps sound h shows = by r.source.compressed h.none h.pays shows
  where
    by : (b : Bool) → (reading_in (course_of r) b r.source.subsets r.source.bits).stop ≡ None
        → (let values = (reading_in (course_of r) b r.source.subsets r.source.bits).values in
        PaysBits values r.bits → Shows sees s (calls_for r values) (turns_for r values) result s' steps → steps ≤ places r.template * r.bits)
    by false none p w =
        let subsets = items_by_pass (passes_apart (course_of r) r.source.subsets r.source.bits) in
        let all = subsets_within (places r.template * r.bits) r.table r.template 0 0 1 subsets sound (all_end (counted_course_of r) r.source.subsets r.source.bits none) (omega arith)
        (mono (places r.template) (0 + items_in subsets) r.bits (omega arith)) in
        shows_within sees (places r.template * r.bits) s (calls_for r (apart subsets)) (turns_for r (apart subsets)) result s' steps w (omega (arith, all.1)) all.0
    by true none p w =
        let items = first_items (items_by_pass (passes_together (course_of r) r.source.subsets r.source.bits)) in
        shows_within sees (places r.template * r.bits) s (calls_for r (together items)) (turns_for r (together items)) result s' steps w
        (omega (arith, no_turns_in))
        (untimed_within (places r.template * r.bits) r.table 0 1 (subsets_from r.source.subsets 0 items) refl)
