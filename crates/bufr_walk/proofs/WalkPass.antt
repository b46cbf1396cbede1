-- If each field that a walk takes is a step of a pass, the walk makes this pass.
use Rattle.std.proofs.Common.{◌≡◌, ℕ, List, [], ◌∷◌, ◌++◌, Result, Ok, Err, Option, zero, suc, ◌+◌, ◌-◌, ◌<◌, length, refl, sym, ◌∙◌, ap, subst, arith, append_assoc, append-nil}
use Rattle.bufr_walk.specs.Prelude.{Taken, FieldSpec, TurnRefusal, WalkStop, Course, CountedCourse, uncounted, Next, take_next, at_end, refused, TakenField, Takes, oks, answers_of, Walked, ticked, Item, answers_in, stop_by, StopsWalk}
use Rattle.bufr_walk.specs.Pass.{Passing, Pass, Step, empty_pass, pass, pass_next, pass_field, EndsPass}
use Rattle.bufr_walk.specs.declared.spec.Role.TheVariants as role
use Rattle.bufr_walk.specs.declared.walker.WalkStop.TheVariants as stops
use Rattle.bufr_walk.proofs.WalkLemmas.{stop_cases}

-- an item from its parts
abbrev pub item : {C : Type 0} → FieldSpec → C → Item C
item spec content = record { spec = spec; content = content }

-- a pass with these items before its own
abbrev pub items_before : {T C E : Type 0} → List (Item C) → Pass T C E → Pass T C E
items_before items q = record q { items = items ++ q.items }

-- ---- The items of a pass up to what comes next.

module _ {T C E : Type 0} (how : Passing T C E) where
  -- The pass from p on begins with these items, and continues from `state` along the course after
  -- these answers.
  abbrev pub Passes : List Taken → Course → T → List (Item C) → T → Type 0
  Passes answers course p items state =
      (most left : ℕ) → most ≡ length items + left → pass how most course p ≡ items_before items (pass how left (λ more. course (answers ++ more)) state)

  -- If what comes next ends the pass, the pass has no more items.
  pub at_last : (next : Next) (p : T) (stop : Option E) (go : Step T C → Pass T C E) → EndsPass how next p stop → pass_next how next p go ≡ empty_pass p stop
  at_last next p stop go h = grind arith

  module _ (answers : List Taken) (course : Course) (p : T) (items : List (Item C)) (state : T) (most : ℕ) (h : Passes answers course p items state) (lt : length items < most) where
    goes_on : (go : Step T C → Pass T C E) × (pass how most course p ≡ items_before items (pass_next how (course answers) state go))
    goes_on =
        let left : ℕ = most - (length items + 1) in
        let go : Step T C → Pass T C E = λ f. pass how left (λ more. course (answers ++ f.returned ∷ more)) f.state in
        (go, h most (suc left) (omega (arith, lt)) ∙ ap (λ a. items_before items (pass_next how (course a) state go)) (append-nil answers))

    -- If what comes next ends the pass, the pass has just these items.
    pub pass_ends : (stop : Option E) → EndsPass how (course answers) state stop → pass how most course p ≡ record { items = items; state = state; stop = stop }
    pass_ends stop e =
        goes_on.1 ∙ ap (items_before items) (at_last (course answers) state stop goes_on.0 e)
        ∙ ap (λ (xs : List (Item C)). record { items = xs; state = state; stop = stop }) (append-nil items)

    -- The pass begins with these items.
    pub pass_begins : (more : List (Item C)) × ((pass how most course p).items ≡ items ++ more)
    pass_begins = ((pass_next how (course answers) state goes_on.0).items, ap (λ (q : Pass T C E). q.items) goes_on.1)

    -- If a field comes next, its item follows these items.
    pub pass_goes : (spec : FieldSpec) (f : Step T C) → course answers ≡ take_next spec → how.step spec state ≡ Ok f
        → (more : List (Item C)) × ((pass how most course p).items ≡ items ++ item spec f.content ∷ more)
    pass_goes spec f n step = (
      (goes_on.0 f).items,
      ap (λ (q : Pass T C E). q.items) goes_on.1 ∙ ap (λ n. items ++ (pass_next how n state goes_on.0).items) n ∙ ap (λ r. items ++ (pass_field how spec state r goes_on.0).items) step,
    )

  pub passes_none : (course : Course) (p : T) → Passes [] course p [] p
  passes_none course p most left e = let same : most ≡ left = omega arith in rw same

  pub passes_one : (answers : List Taken) (course : Course) (p : T) (spec : FieldSpec) (c : C) (t : Taken) (mid : T) (items : List (Item C)) (state : T) → course [] ≡ take_next spec
      → how.step spec p ≡ Ok (record { content = c; returned = t; state = mid }) → Passes answers (λ more. course (t ∷ more)) mid items state
      → Passes (t ∷ answers) course p (item spec c ∷ items) state
  passes_one answers course p spec c t mid items state n step h zero left e = absurd (omega arith)
  passes_one answers course p spec c t mid items state n step h (suc most) left e = cc (step, h most left (omega (arith, e)))

-- the progress of a walk: the items of its pass so far, and the turns up to what comes next
pub record Comes {T C E : Type 0} (how : Passing T C E) (gives : FieldSpec → C → Taken) (course : CountedCourse) (p : T) (steps steps' : ℕ) : Type 0 where
  pub items : List (Item C)
  pub state : T
  pub ticks : steps' ≡ ticked steps (course (answers_in gives items)).turns
  -- After these items, the pass ends or continues with the next field.
  pub ends : (most : ℕ) (stop : Option E) → length items < most → EndsPass how (course (answers_in gives items)).next state stop
      → pass how most (uncounted course) p ≡ record { items = items; state = state; stop = stop }
  pub begins : (most : ℕ) → length items < most → (more : List (Item C)) × ((pass how most (uncounted course) p).items ≡ items ++ more)
  pub goes : (most : ℕ) (spec : FieldSpec) (f : Step T C) → length items < most → (course (answers_in gives items)).next ≡ take_next spec → how.step spec state ≡ Ok f
      → (more : List (Item C)) × ((pass how most (uncounted course) p).items ≡ items ++ item spec f.content ∷ more)

-- ---- The pass of a walk.

-- `Meets items s p` states that the walk is in state s, and the pass in state p, after these items.
module _ {S T C E F : Type 0} (takes : S → FieldSpec → Result Taken F → S → Type 0) (how : Passing T C E) (gives : FieldSpec → C → Taken) (Meets : List (Item C) → S → T → Type 0) where
  -- The field that was taken is a step of the pass.
  pub record IsStep (before : List (Item C)) (spec : FieldSpec) (t : Taken) (s' : S) (p : T) : Type 0 where
    pub content : C
    pub state : T
    pub step : how.step spec p ≡ Ok (record { content = content; returned = t; state = state })
    pub answer : t ≡ gives spec content
    pub meets : Meets (before ++ item spec content ∷ []) s' state

  module _ (follows : (before : List (Item C)) (s : S) (spec : FieldSpec) (t : Taken) (s' : S) (p : T) → Meets before s p → takes s spec (Ok t) s' → IsStep before spec t s' p) where
    pub walk_passes : (before : List (Item C)) (course : Course) (s : S) (walked : List TakenField) (s' : S) (p : T) → Meets before s p → Takes (oks takes) course s walked s'
        → (items : List (Item C)) × (state : T) × (answers_of walked ≡ answers_in gives items) × Meets (before ++ items) s' state × Passes how (answers_of walked) course p items state
    walk_passes before course s [] s' p m h =
        ([], p, refl, subst (λ xs. Meets xs s' p) (sym (append-nil before)) (subst (λ x. Meets before x p) (sym h) m), passes_none how course p)
    walk_passes before course s (i ∷ walked) s' p m h =
        let f = follows before s i.spec i.taken h.0 p m h.2 in
        let x : Item C = item i.spec f.content in
        let rest = walk_passes (before ++ x ∷ []) (λ answers. course (i.taken ∷ answers)) h.0 walked s' f.state f.meets h.3 in (
          x ∷ rest.0,
          rest.1,
          ap (λ t. t ∷ answers_of walked) f.answer ∙ ap (λ ts. gives i.spec f.content ∷ ts) rest.2,
          subst (λ xs. Meets xs s' rest.1) (append_assoc before (x ∷ []) rest.0) rest.3,
          passes_one how (answers_of walked) course p i.spec f.content i.taken f.state rest.0 rest.1 h.1 f.step rest.4,
        )

    module _ (course : CountedCourse) (s : S) (steps : ℕ) (s' : S) (steps' : ℕ) (p : T) (first : Meets [] s p) where
      comes : (walked : List TakenField) (mid : S) → Takes (oks takes) (uncounted course) s walked mid → steps' ≡ ticked steps (course (answers_of walked)).turns
          → (c : Comes how gives course p steps steps') × Meets c.items mid c.state × ((course (answers_of walked)).next ≡ (course (answers_in gives c.items)).next)
      comes walked mid h ticks =
          let r = walk_passes [] (uncounted course) s walked mid p first h in
          let answers = answers_in gives r.0 in
          let passes : Passes how answers (uncounted course) p r.0 r.1 = subst (λ ts. Passes how ts (uncounted course) p r.0 r.1) r.2 r.4 in (
            record {
              items = r.0;
              state = r.1;
              ticks = ticks ∙ ap (λ ts. ticked steps (course ts).turns) r.2;
              ends = λ most stop lt. pass_ends how answers (uncounted course) p r.0 r.1 most passes lt stop;
              begins = λ most. pass_begins how answers (uncounted course) p r.0 r.1 most passes;
              goes = λ most spec f lt. pass_goes how answers (uncounted course) p r.0 r.1 most passes lt spec f;
            },
            r.3,
            ap (λ ts. (course ts).next) r.2,
          )

      -- If the walk completes, it makes the whole pass.
      pub whole_passes : Walked takes course s steps (Ok tt) s' steps'
          → (c : Comes how gives course p steps steps') × Meets c.items s' c.state × ((course (answers_in gives c.items)).next ≡ at_end)
      whole_passes w = let c = comes w.0 s' w.1 w.3 in (c.0, c.1, sym c.2 ∙ w.2)

      -- If the walk stops, so does the pass. `Fails` is chosen by the caller. It relates the items,
      -- the state of the pass, what comes next, why the walk stopped, and the state of the walk.
      pub stopped_passes : (Fails : List (Item C) → T → Next → WalkStop F → S → Type 0)
          → ((items : List (Item C)) (s : S) (p : T) (spec : FieldSpec) (e : F) (s' : S) → Meets items s p → takes s spec (Err e) s' → Fails items p (take_next spec) (stops.Field e) s')
          → ((items : List (Item C)) (s : S) (p : T) (spec : FieldSpec) → Meets items s p → spec.role ≡ role.Reference → Fails items p (take_next spec) stops.Memory s)
          → ((items : List (Item C)) (s : S) (p : T) (why : TurnRefusal) → Meets items s p → Fails items p (refused why) (stop_by why) s)
          → (why : WalkStop F) → Walked takes course s steps (Err why) s' steps'
          → (c : Comes how gives course p steps steps') × Fails c.items c.state (course (answers_in gives c.items)).next why s'
      stopped_passes Fails field short refuses why w =
          let c = comes w.0 w.1 w.2 w.4 in
          let items = c.0.items in
          let q = c.0.state in (
            c.0,
            stop_cases takes (λ next y. Fails items q next y s') w.1 s' (λ spec e h. field items w.1 q spec e s' c.1 h)
                (λ spec h e. subst (Fails items q (take_next spec) stops.Memory) (sym e) (short items w.1 q spec c.1 h))
                (λ x e. subst (Fails items q (refused x) (stop_by x)) (sym e) (refuses items w.1 q x c.1)) (course (answers_in gives items)).next why
                (subst (λ n. StopsWalk takes n w.1 why s') c.2 w.3),
          )
