-- Plain data: a walk over each subset makes the pass over this subset.
use Rattle.bufr_walk.proofs.PassLemmas.{Stops, runs_short}
use Rattle.std.proofs.Common.{◌≡◌, ℕ, ◌+◌, ◌-◌, ◌*◌, ◌<◌, ◌≤◌, List, ◌∷◌, ◌++◌, Bool, false, length, if◌then◌else◌, Option, Some, None, option_map, Ok, Err, suc, inl, inr, refl, sym, ◌∙◌, ap, subst, arith, length-append, length-drop, append_assoc, []}
use Rattle.std.proofs.lemmas.List.{append-nil}
use Rattle.std.specs.Prelude.{is_none, is_some}
use Rattle.bufr_bits.specs.Prelude.{bits_of}
use Rattle.bufr_walk.specs.Prelude.{FieldSpec, Taken, Content, answer_of, plain_field, Stop, WalkStop, plain, Item, answers_in, CountedCourse, uncounted, Next, take_next, at_end, ticked, Walked, Cursor, rest_of, PlainTakes, data_in, fault_at, bits_before, items_in, place_at, items_by_pass, PaysBits, Place, DataPass, reading_of, reading, EndsPass, read_pass, passes_apart, stop_of, left_after, ReadsData, turns_in, WalkFault}
use Rattle.bufr_walk.specs.Pass.{read_field, Passing, RunsShort}
use Rattle.bufr_walk.specs.declared.fault.DataFault.{DataFault}
use Rattle.bufr_walk.specs.declared.fault.DataFault.TheVariants as wrong
use Rattle.bufr_walk.specs.declared.walker.WalkStop.TheVariants as stops
use Rattle.bufr_walk.proofs.CourseLemmas.{plain_forth}
use Rattle.bufr_walk.proofs.WalkPass.{item, IsStep, Comes, whole_passes, stopped_passes}

pub ticked_more : (a b : ℕ) → ticked (ticked 0 a) b ≡ ticked 0 (a + b)
ticked_more a b = grind arith

-- ---- One subset.

-- how the pass over a subset reads
abbrev pub how : Passing Place Content Stop
how = reading plain (λ n. false)

-- The state of a walk that began at `first` matches that of its pass, after items of at least one
-- bit each.
pub record IsAt (first : Cursor) (items : List (Item Content)) (s : Cursor) (p : Place) : Type 0 where
  pub place : p ≡ place_at (length items) (rest_of s)
  pub same : s.bits ≡ first.bits
  pub pays : length items + length (rest_of s) ≤ length (rest_of first)

pub at_first : (s : Cursor) → IsAt s [] s (place_at 0 (rest_of s))
at_first s = record { place = refl; same = refl; pays = omega arith }

-- The step at a field reads it from the remaining bits.
pub step_there : (first : Cursor) (items : List (Item Content)) (s : Cursor) (spec : FieldSpec) (p : Place) → IsAt first items s p
    → how.step spec p ≡ read_field plain spec (length items) (plain_field spec (rest_of s))
step_there first items s spec p m = cc (m.place)

unfoldable pub plain_follows : (first : Cursor) (before : List (Item Content)) (s : Cursor) (spec : FieldSpec) (t : Taken) (s' : Cursor) (p : Place) → IsAt first before s p
    → PlainTakes s spec (Ok t) s' → IsStep PlainTakes how answer_of (IsAt first) before spec t s' p
plain_follows first before s spec t s' p m h = let w = plain_forth spec (rest_of s) h.content (rest_of s') h.some h.field in record {
  content = h.content;
  state = place_at (length before + 1) (rest_of s');
  step = step_there first before s spec p m ∙ ap (read_field plain spec (length before)) h.field
      ∙ ap (λ r. Ok (record { content = h.content; returned = r; state = place_at (length before + 1) (rest_of s') })) (sym h.gives);
  answer = h.gives;
  meets = record {
    place = ap (λ k. place_at k (rest_of s')) (sym (length-append before (item spec h.content ∷ [])));
    same = ap (λ c. c.bits) h.next ∙ m.same;
    pays = omega (arith, m.pays, length-append before (item spec h.content ∷ []), w.some, w.within, length-drop w.size (rest_of s), ap length w.left_is);
  };
}

-- The walk stopped for this reason, and its state matches that of its pass.
abbrev pub Fails : Cursor → List (Item Content) → Place → Next → WalkStop DataFault → Cursor → Type 0
Fails first items p next why s' = IsAt first items s' p × Stops plain (λ n. false) (λ n. false) items p next why

pub plain_fails : (first : Cursor) (items : List (Item Content)) (s : Cursor) (p : Place) (spec : FieldSpec) (e : DataFault) (s' : Cursor) → IsAt first items s p → PlainTakes s spec (Err e) s'
    → Fails first items p (take_next spec) (stops.Field e) s'
plain_fails first items s p spec e s' m h = grind arith

module _ (course : CountedCourse) (s : Cursor) (c : ℕ) (s' : Cursor) (c' : ℕ) where
  -- the progress of a walk over a subset
  abbrev pub Goes : Type 0
  Goes = Comes how answer_of course (place_at 0 (rest_of s)) c c'

  ended : Walked PlainTakes course s c (Ok tt) s' c' → (g : Goes) × IsAt s g.items s' g.state × ((course (answers_in answer_of g.items)).next ≡ at_end)
  ended = whole_passes PlainTakes how answer_of (IsAt s) (plain_follows s) course s c s' c' (place_at 0 (rest_of s)) (at_first s)

  stopped : (why : WalkStop DataFault) → Walked PlainTakes course s c (Err why) s' c' → (g : Goes) × Fails s g.items g.state (course (answers_in answer_of g.items)).next why s'
  stopped = stopped_passes PlainTakes how answer_of (IsAt s) (plain_follows s) course s c s' c' (place_at 0 (rest_of s)) (at_first s) (Fails s) (plain_fails s)
      (λ items x p spec m h. (m, inr (spec, refl, inr h, λ subset at. refl))) (λ items x p y m. (m, inl refl))

-- ---- Successive subsets.

-- The first `count` subsets were read, in at most n turns for each bit.
pub record SubsetsRead (n : ℕ) (course : CountedCourse) (bits : List Bool) (count : ℕ) (s : Cursor) (steps : ℕ) : Type 0 where
  -- the passes that read them; the passes over more subsets begin with these
  pub passes : List (DataPass Content)
  pub goes : (more : ℕ) → passes_apart (uncounted course) (count + more) bits ≡ passes ++ passes_apart (uncounted course) more (rest_of s)
  pub count_is : length passes ≡ count
  pub none : stop_of passes ≡ None
  pub left : left_after bits passes ≡ rest_of s
  pub ticks : steps ≡ ticked 0 (turns_in answer_of course (items_by_pass passes))
  pub same : s.bits ≡ bits
  pub within : s.at ≤ length bits
  pub few : steps ≤ n * s.at
  pub pays : items_in (items_by_pass passes) ≤ s.at

-- If the first passes do not stop, those after them decide.
stop_append : (a b : List (DataPass Content)) → stop_of a ≡ None → stop_of (a ++ b) ≡ stop_of b
stop_append [] b e = refl
stop_append (p ∷ a) b e = by p.stop e (λ z. stop_append a b z)
  where
    by : (o : Option Stop) → (if is_some o then o else stop_of a) ≡ None → (stop_of a ≡ None → stop_of (a ++ b) ≡ stop_of b) → (if is_some o then o else stop_of (a ++ b)) ≡ stop_of b
    by None e go = go e
    by (Some why) e go = absurd cc

left_append : (bits : List Bool) (a b : List (DataPass Content)) → left_after bits (a ++ b) ≡ left_after (left_after bits a) b
left_append bits [] b = refl
left_append bits (p ∷ a) b = left_append p.state.left a b

turns_append : (course : CountedCourse) (a : List (DataPass Content)) (p : DataPass Content)
    → turns_in answer_of course (items_by_pass (a ++ p ∷ [])) ≡ turns_in answer_of course (items_by_pass a) + (course (answers_in answer_of p.items)).turns
turns_append course [] p = omega arith
turns_append course (q ∷ a) p = omega (arith, turns_append course a p)

items_append : (a : List (DataPass Content)) (p : DataPass Content) → items_in (items_by_pass (a ++ p ∷ [])) ≡ items_in (items_by_pass a) + length p.items
items_append [] p = omega arith
items_append (q ∷ a) p = omega (arith, items_append a p)

-- At first, no subset was read.
pub none_yet : (n : ℕ) (course : CountedCourse) (bits : List Bool) (s : Cursor) (steps : ℕ) → s ≡ record { bits = bits; at = 0 } → steps ≡ 0 → SubsetsRead n course bits 0 s steps
none_yet n course bits s steps e z = record {
  passes = [];
  goes = λ more. ap (λ k. passes_apart (uncounted course) k bits) (zero_plus more) ∙ ap (passes_apart (uncounted course) more) (sym rest);
  count_is = refl;
  none = refl;
  left = sym rest;
  ticks = z ∙ ticked_none;
  same = ap (λ x. x.bits) e;
  within = omega (arith, ap (λ x. x.at) e);
  few = omega (arith, z);
  pays = omega arith;
}
  where
    rest : rest_of s ≡ bits
    rest = ap rest_of e

    zero_plus : (n : ℕ) → 0 + n ≡ n
    zero_plus n = omega arith

    ticked_none : 0 ≡ ticked 0 0
    ticked_none = grind arith

split : (n a d b : ℕ) → b ≡ a + d → n * b ≡ n * a + n * d
split n a d b e = ap (λ x. n * x) e ∙ grind arith

module _ (n : ℕ) (course : CountedCourse) (bits : List Bool) (i : ℕ) (s s' : Cursor) (c c' : ℕ) (h : SubsetsRead n course bits i s c) (within : s'.at ≤ length s'.bits) where
  module _ (g : Goes course s c s' c') (m : IsAt s g.items s' g.state) where
    -- The bits are unchanged, and each item took at least one.
    same : s'.bits ≡ bits
    same = m.same ∙ h.same

    paid : s.at + length g.items ≤ s'.at
    paid = omega (arith, m.pays, h.within, within, length-drop s.at s.bits, length-drop s'.at s'.bits, ap length m.same, ap length h.same)

    enough : length g.items < suc (length (rest_of s))
    enough = omega (arith, m.pays)

    -- The steps are the turns of all passes so far.
    ticks_are : c' ≡ ticked 0 (turns_in answer_of course (items_by_pass h.passes) + (course (answers_in answer_of g.items)).turns)
    ticks_are = g.ticks ∙ ap (λ x. ticked x (course (answers_in answer_of g.items)).turns) h.ticks
        ∙ ticked_more (turns_in answer_of course (items_by_pass h.passes)) (course (answers_in answer_of g.items)).turns

    -- the pass over this subset, with the reason why it stopped, if any
    abbrev pass : Option Stop → DataPass Content
    pass stop = record { items = g.items; state = g.state; stop = stop }

    left_is : (stop : Option Stop) → left_after bits (h.passes ++ pass stop ∷ []) ≡ rest_of s'
    left_is stop = left_append bits h.passes (pass stop ∷ []) ∙ ap (λ (p : Place). p.left) m.place

  -- One more subset was read.
  pub one_more : Walked PlainTakes course s c (Ok tt) s' c' → c' ≤ c + n * (s'.at - s.at) → SubsetsRead n course bits (i + 1) s' c'
  one_more w few =
      let e = ended course s c s' c' w in
      let g = e.0 in
      let pass : DataPass Content = record { items = g.items; state = g.state; stop = None } in
      let is : read_pass plain (λ n. false) (uncounted course) (rest_of s) ≡ pass =
      g.ends (suc (length (rest_of s))) None (enough g e.1) (subst (λ x. EndsPass how x g.state None) (sym e.2) refl) in
      record {
        passes = h.passes ++ pass ∷ [];
        goes = λ more. ap (λ k. passes_apart (uncounted course) k bits) (counted i more) ∙ h.goes (suc more)
            ∙ ap (λ (q : DataPass Content). h.passes ++ (q ∷ (if is_none q.stop then passes_apart (uncounted course) more q.state.left else []))) is
            ∙ ap (λ (p : Place). h.passes ++ (pass ∷ passes_apart (uncounted course) more p.left)) e.1.place
            ∙ sym (append_assoc h.passes (pass ∷ []) (passes_apart (uncounted course) more (rest_of s')));
        count_is = omega (arith, length-append h.passes (pass ∷ []), h.count_is);
        none = stop_append h.passes (pass ∷ []) h.none;
        left = left_is g e.1 None;
        ticks = ticks_are g e.1 ∙ ap (ticked 0) (sym (turns_append course h.passes pass));
        same = same g e.1;
        within = omega (arith, within, ap length (same g e.1));
        few = sums n s.at s'.at c c' h.few few (omega (arith, paid g e.1));
        pays = omega (arith, items_append h.passes pass, h.pays, paid g e.1);
      }
    where
      counted : (i more : ℕ) → i + 1 + more ≡ i + suc more
      counted i more = omega arith

      sums : (n a b c c' : ℕ) → c ≤ n * a → c' ≤ c + n * (b - a) → a ≤ b → c' ≤ n * b
      sums n a b c c' h g f = let e : n * b ≡ n * a + n * (b - a) = split n a (b - a) b (omega (arith, f)) in omega (arith, e, h, g)

  -- a bound on the turns up to a fault
  pub few_stopped : (subset : ℕ) (why : WalkStop DataFault) → Walked PlainTakes course s c (Err why) s' c' → c' ≤ c + n * (s'.at - s.at + 1)
      → c' ≤ n * (bits_before (fault_at why subset s'.at) (length bits) + 1)
  few_stopped subset why w few =
      let e = stopped course s c s' c' why w in
      sums n s.at s'.at c c' (bits_before (fault_at why subset s'.at) (length bits)) h.few few (omega (arith, paid e.0 e.1.0)) (at_spot why (omega (arith, within, ap length (same e.0 e.1.0))))
    where
      sums : (n a b c c' k : ℕ) → c ≤ n * a → c' ≤ c + n * (b - a + 1) → a ≤ b → b ≤ k → c' ≤ n * (k + 1)
      sums n a b c c' k h g f w =
          let e : n * (k + 1) ≡ n * a + n * (k + 1 - a) = split n a (k + 1 - a) (k + 1) (omega (arith, f, w)) in
          let d : n * (k + 1 - a) ≡ n * (b - a + 1) + n * (k - b) = split n (b - a + 1) (k - b) (k + 1 - a) (omega (arith, f, w)) in
          omega (arith, e, d, h, g)

      at_spot : (stop : Stop) → s'.at ≤ length bits → s'.at ≤ bits_before (fault_at stop subset s'.at) (length bits)
      at_spot (stops.Width f) h = omega arith
      at_spot (stops.Defining f) h = omega arith
      at_spot (stops.Field (wrong.DataEnd f)) h = omega arith
      at_spot (stops.Field (wrong.Increment f)) h = omega arith
      at_spot (stops.Field (wrong.UnequalFactor f)) h = omega arith
      at_spot (stops.Field (wrong.TooManyValues f)) h = omega arith
      at_spot (stops.Field wrong.Memory) h = h
      at_spot stops.Memory h = h

-- ---- All subsets.

here : (s : Cursor) (bits : List Bool) → s.bits ≡ bits → s.at ≤ length bits → s.at + length (rest_of s) ≡ length bits
here s bits e h = omega (arith, length-drop s.at s.bits, ap length e)

module _ (n : ℕ) (course : CountedCourse) (octets : List ℕ) (total i : ℕ) where
  abbrev all : List (DataPass Content)
  all = passes_apart (uncounted course) total (bits_of octets)

  module _ (s : Cursor) (c : ℕ) (h : SubsetsRead n course (bits_of octets) i s c) (e : i ≡ total) where
    are_all : all ≡ h.passes
    are_all = ap (λ k. passes_apart (uncounted course) k (bits_of octets)) (sym e ∙ plus_none i) ∙ h.goes 0 ∙ append-nil h.passes
      where
        plus_none : (a : ℕ) → a ≡ a + 0
        plus_none a = omega arith

    pub all_read : ReadsData course (data_in false total octets) (Ok s.at) c
    all_read = (
      ap stop_of are_all ∙ h.none,
      ap (λ (ps : List (DataPass Content)). s.at + length (left_after (bits_of octets) ps)) are_all ∙ ap (λ l. s.at + length l) h.left ∙ here s (bits_of octets) h.same h.within,
      h.ticks ∙ ap (λ (ps : List (DataPass Content)). ticked 0 (turns_in answer_of course (items_by_pass ps))) (sym are_all),
    )

    pub all_paid : PaysBits (reading_of (uncounted course) (data_in false total octets)).values s.at
    all_paid = subst (λ (ps : List (DataPass Content)). items_in (items_by_pass ps) ≤ s.at) (sym are_all) h.pays

  -- If the walk over one subset stops, the data cannot be read, for the same reason.
  pub stopped_there : (s s' : Cursor) (c c' : ℕ) (why : WalkStop DataFault) → SubsetsRead n course (bits_of octets) i s c → s'.at ≤ length s'.bits → i < total
      → Walked PlainTakes course s c (Err why) s' c' → ReadsData course (data_in false total octets) (Err (fault_at why (i + 1) s'.at)) c'
  stopped_there s s' c c' why h within more w = let e = stopped course s c s' c' why w in by e.0 e.1.0 e.1.1
    where
      bits : List Bool
      bits = bits_of octets

      Later : DataPass Content → List (DataPass Content)
      Later p = if is_none p.stop then passes_apart (uncounted course) (total - (i + 1)) p.state.left else []

      goes : all ≡ h.passes ++ (read_pass plain (λ n. false) (uncounted course) (rest_of s) ∷ Later (read_pass plain (λ n. false) (uncounted course) (rest_of s)))
      goes = ap (λ k. passes_apart (uncounted course) k (bits_of octets)) (others total i more) ∙ h.goes (suc (total - (i + 1)))
        where
          others : (total i : ℕ) → i < total → total ≡ i + suc (total - (i + 1))
          others total i h = omega (arith, h)

      place_is : (a b c : ℕ) → a + b ≡ c → c - b ≡ a
      place_is a b c e = omega (arith, e)

      by : (g : Goes course s c s' c') → IsAt s g.items s' g.state → Stops plain (λ n. false) (λ n. false) g.items g.state (course (answers_in answer_of g.items)).next why
          → ReadsData course (data_in false total octets) (Err (fault_at why (i + 1) s'.at)) c'
      by g m (inl e) =
          let pass : DataPass Content = record { items = g.items; state = g.state; stop = Some why } in
          let is : all ≡ h.passes ++ pass ∷ [] = goes ∙ ap (λ (z : DataPass Content). h.passes ++ (z ∷ Later z))
          (g.ends (suc (length (rest_of s))) (Some why) (enough n course (bits_of octets) i s s' c c' h within g m) e) in
          let same : s'.bits ≡ bits_of octets = m.same ∙ h.same in
          let at : s'.at + length (rest_of s') ≡ length (bits_of octets) = here s' (bits_of octets) same (omega (arith, within, ap length same)) in
          let count : length (h.passes ++ pass ∷ []) ≡ i + 1 = omega (arith, length-append h.passes (pass ∷ []), h.count_is) in
          let fault : Option Stop → ℕ → List Bool → Option WalkFault = λ o k l. option_map (λ w. fault_at w k (length (bits_of octets) - length l)) o in
          inl (
            ap (λ (ps : List (DataPass Content)). fault (stop_of ps) (length ps) (left_after (bits_of octets) ps)) is
                ∙ ap (λ o. fault o (length (h.passes ++ pass ∷ [])) (left_after (bits_of octets) (h.passes ++ pass ∷ []))) (stop_append h.passes (pass ∷ []) h.none)
                ∙ ap (λ k. fault (Some why) k (left_after (bits_of octets) (h.passes ++ pass ∷ []))) count
                ∙ ap (fault (Some why) (i + 1)) (left_is n course (bits_of octets) i s s' c c' h within g m (Some why))
                ∙ ap (λ b. Some (fault_at why (i + 1) b)) (place_is s'.at (length (rest_of s')) (length (bits_of octets)) at),
            ticks_are n course (bits_of octets) i s s' c c' h within g m
                ∙ ap (ticked 0) (sym (ap (λ (ps : List (DataPass Content)). turns_in answer_of course (items_by_pass ps)) is ∙ turns_append course h.passes pass)),
          )
      by g m (inr q) =
          let turns = turns_in answer_of course (items_by_pass h.passes) + (course (answers_in answer_of g.items)).turns in
          inr (
            q.3 (i + 1) s'.at,
            turns,
            subst (λ ps. RunsShort plain (λ n. false) course ps turns) (sym goes)
                (runs_short plain (λ n. false) (λ n. false) course (rest_of s) c c' g (enough n course (bits_of octets) i s s' c c' h within g m) h.passes
                (Later (read_pass plain (λ n. false) (uncounted course) (rest_of s))) q.0 q.1 q.2),
            ticks_are n course (bits_of octets) i s s' c c' h within g m,
          )
