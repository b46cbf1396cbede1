-- The items and subsets that a walk shows to a visitor.
use Rattle.std.proofs.Math.Path.{fun_ext}
use Rattle.bufr_walk.proofs.PassLemmas.{next_pass}
use Rattle.bufr_walk.proofs.PlainReading.{IsAt, plain_follows, ticked_more, how, at_first, step_there}
use Rattle.bufr_walk.proofs.WalkPass.{Comes, IsStep, item, stopped_passes, whole_passes}
use Rattle.std.proofs.lemmas.Grind.{common_steps}
use Rattle.std.proofs.Common.{suc, None, Option, append_assoc, ◌≡◌, ℕ, ◌+◌, ◌<◌, ◌≤◌, false, Bool, List, ◌∷◌, ◌++◌, length, Some, refl, sym, ◌∙◌, ap, subst, arith, ◌/◌, ◌&&◌, true, ◌⊎◌, inl, inr, take, Result, Ok, Err, ℤ, pos, ◌+ℤ◌, ◌-◌, [], rules}
use Rattle.bufr_bits.specs.Prelude.{number_of, are_all_ones}
use Rattle.bufr_walk.specs.Prelude.{Kind, Content, answer_of, content_in, octets_in, signed_by, shown_number, shown_text, shown_missing, shown_reference, shown, FieldRead, found, plain_field, FieldSpec, IsSpec, HasRole, is_reference, IsFor, is_plain, IsPlainNumber, Next, take_next, ticked, Walked, Stop, Item, plain, answers_in, turns_in, Read, course_of, IsStoredReading, Cursor, rest_of, past, IsTaken, Stage, stage, IsShown, IsUnshown, ShowingTakes, Sofar, ItemsGo, ShowFault, Role, Taken, WalkStop, Call, item_call, view_of, Timed, timed, item_calls, Shows, EndsAt, IsReferenceValue, subset_call, subset_calls, stop_by, CountedCourse, uncounted, after, counted_course_of, IsAllShown, same}
use Rattle.bufr_tables.specs.Prelude.{Row, is_character}
use Rattle.bufr_walk.specs.declared.plain.ShowStop.{ShowStop}
use Rattle.std.proofs.lemmas.Bool.Decides.{nat_tests}
use Rattle.bufr_bits.proofs.DecimalLemmas.{and_first}
use Rattle.bufr_walk.proofs.PlainLemmas.{answer_element, is_reference_role, number_said, text_said, reference_said}
use Rattle.bufr_walk.specs.declared.fault.ShowFault.TheVariants as show_fault
use Rattle.bufr_walk.specs.declared.plain.ShowStop.TheVariants as stop
use Rattle.bufr_walk.specs.declared.spec.Role.TheVariants as role
use Rattle.bufr_walk.specs.declared.walker.WalkStop.TheVariants as stops
use Rattle.bufr_walk.specs.declared.fault.DataFault.TheVariants as wrong
use Rattle.bufr_walk.specs.declared.spec.Taken.TheVariants as taken
use Rattle.std.proofs.lemmas.List.{map-append, append-nil}
use Rattle.bufr_walk.specs.Pass.{DataPass, read_pass, passes_apart, stop_of, calls_of, turns_shown, EndsPass, Place, Step, read_field}
use Rattle.bufr_walk.specs.Readers.{items_by_pass, place_at}
use Rattle.bufr_walk.specs.declared.reading.StoredItems.TheVariants as kept
use Rattle.bufr_walk.specs.declared.fault.DataFault.{DataFault}

same_found : (a b : FieldRead Content) → ◌≡◌ {A = Result (FieldRead Content) DataFault} (Ok a) (Ok b) → a ≡ b
same_found a b e = cc

-- The content of a field that was read is that of its bits.
pub content_is : (spec : FieldSpec) (bits suffix : List Bool) (c : Content) → plain_field spec bits ≡ Ok (found c suffix) → content_in spec (take spec.width bits) ≡ c
content_is spec bits suffix c h = search (rules, same_found)

-- what a field shows, by its kind and role
pub reference_shown : (spec : FieldSpec) (bits : List Bool) (z : ℤ) → is_reference spec.role ≡ true → z ≡ signed_by bits → shown_reference z ≡ shown spec (content_in spec bits)
reference_shown spec bits z e is = cc (is, reference_said spec bits (is_reference_role spec.role e))

pub missing_shown : (spec : FieldSpec) (bits : List Bool) → is_reference spec.role ≡ false → (are_all_ones bits && spec.may_be_missing) ≡ true → shown_missing ≡ shown spec (content_in spec bits)
missing_shown spec bits e m = search (rules, text_said, and_first, number_said)

pub number_shown : (spec : FieldSpec) (bits : List Bool) (raw : ℕ) → is_character spec.kind ≡ false → is_reference spec.role ≡ false → (are_all_ones bits && spec.may_be_missing) ≡ false
    → raw ≡ number_of bits → shown_number (pos raw +ℤ spec.reference) spec.scale ≡ shown spec (content_in spec bits)
number_shown spec bits raw k e m is = grind arith

text_role : (r : Role) (k : Kind) (m : Bool) → HasRole r k m → is_character k ≡ true → is_reference r ≡ false
text_role r k m h e = grind arith

pub text_shown : (spec : FieldSpec) (bits : List Bool) (octets : List ℕ) → IsSpec spec → is_character spec.kind ≡ true → are_all_ones bits ≡ false → octets ≡ octets_in (spec.width / 8) bits
    → shown_text octets ≡ shown spec (content_in spec bits)
text_shown spec bits octets h k e is = search (rules, text_said, text_role)

-- A redefined reference is shown as one.
pub reference_kept : (spec : FieldSpec) (bits : List Bool) → spec.role ≡ role.Reference → IsReferenceValue (shown spec (content_in spec bits))
reference_kept spec bits e = search (rules, reference_said)

-- The step of a pass reads the content of the next bits.
step_content : (spec : FieldSpec) (bits : List Bool) (n : ℕ) (f : Step Place Content) → ◌≡◌ {A = Result (Step Place Content) Stop} (read_field plain spec n (plain_field spec bits)) (Ok f)
    → content_in spec (take spec.width bits) ≡ f.content
step_content spec bits n f h = grind arith

-- A walk over data that were read before stopped because the visitor refused an item, or because
-- memory ran out.
abbrev pub IsEnd : {E : Type 0} → WalkStop (ShowStop E) → ShowFault E → Type 0
IsEnd (stops.Field (stop.Visitor e)) why = why ≡ show_fault.Visitor e
IsEnd stops.Memory why = why ≡ show_fault.Memory
IsEnd _ why = ⊥

module _ {V E : Type 0} (sees : V → Call → Result (Unit {0}) E → V → Type 0) where
  -- A field was shown, and the reader advanced past it.
  pub shown_here : (c c' : Cursor) (v v' : V) (table : List Row) (a b : ℕ) (spec : FieldSpec) (t : Taken) → c' ≡ past c spec → IsTaken c spec t (past c spec)
      → sees v (item_call (view_of table spec (content_in spec (take spec.width (rest_of c))))) (Ok tt) v' → IsShown sees (stage c v table a b) spec t (stage c' v' table a b)
  shown_here c c' v v' table a b spec t e h w = record {
    is_taken = rw e h;
    call = call_at c' (sym e);
    table = refl;
    names = refl;
  }
    where
      call_at : (c' : Cursor) (e : past c spec ≡ c') → sees v (item_call (view_of table spec (rw e at h).content)) (Ok tt) v'
      call_at c' e = subst (λ x. sees v (item_call (view_of table spec x)) (Ok tt) v')
          (content_is spec (rest_of c) (rest_of c') (rw e at h).content (rw e at h).field) w

  pub unshown_here : (c c' : Cursor) (v v' : V) (table : List Row) (a b : ℕ) (spec : FieldSpec) (t : Taken) (e : E) → c' ≡ c → IsTaken c spec t (past c spec)
      → sees v (item_call (view_of table spec (content_in spec (take spec.width (rest_of c))))) (Err e) v' → IsUnshown sees (stage c v table a b) spec e (stage c' v' table a b)
  unshown_here c c' v v' table a b spec t e same h w = record {
    answer = t;
    is_taken = h;
    call = rw (← content_is spec (rest_of c) (rest_of (past c spec)) h.content h.field) w;
    cursor = same;
    names = refl;
  }

  pub sofar_self : (s : V) (calls : List Timed) → Sofar sees s calls s calls
  sofar_self s calls = record { on = λ turns r s' steps h. h }

  pub sofar_then : (s s1 s2 : V) (a b c : List Timed) → Sofar sees s a s1 b → Sofar sees s1 b s2 c → Sofar sees s a s2 c
  sofar_then s s1 s2 a b c x y = record { on = λ turns r s' steps h. x.on turns r s' steps (y.on turns r s' steps h) }

  call_on : (s s1 : V) (t : Timed) (rest : List Timed) (turns : ℕ) (r : Result (Unit {0}) (ShowFault E)) (s' : V) (steps : ℕ) → sees s t.call (Ok tt) s1 → Shows sees s1 rest turns r s' steps
      → Shows sees s (t ∷ rest) turns r s' steps
  call_on s s1 t rest turns (Ok u) s' steps h w = (s1, h, w)
  call_on s s1 t rest turns (Err e) s' steps h w = inr (s1, h, w)

  -- One call was made.
  pub sofar_call : (s s1 : V) (t : Timed) (rest : List Timed) → sees s t.call (Ok tt) s1 → Sofar sees s (t ∷ rest) s1 rest
  sofar_call s s1 t rest h = record { on = λ turns r s' steps w. call_on s s1 t rest turns r s' steps h w }

-- the course after these items
abbrev beyond : CountedCourse → List (Item Content) → CountedCourse
beyond course xs answers = course (answers_in answer_of xs ++ answers)

beyond_one : (course : CountedCourse) (xs : List (Item Content)) (x : Item Content) → after plain (beyond course xs) x ≡ beyond course (xs ++ x ∷ [])
beyond_one course xs x = search (rules, fun_ext, map-append, append_assoc)

beyond_all : (course : CountedCourse) (xs : List (Item Content)) → (beyond course xs []) ≡ course (answers_in answer_of xs)
beyond_all course xs = ap course (append-nil (answers_in answer_of xs))

module _ {V E : Type 0} (sees : V → Call → Result (Unit {0}) E → V → Type 0) (table : List Row) (course : CountedCourse) where
  -- The calls for these items were made, whatever items and calls follow.
  abbrev Made : List (Item Content) → V → V → Type 0
  Made xs v s = (before : ℕ) (more : List (Item Content)) (rest : List Timed)
      → Sofar sees v (item_calls table before course (xs ++ more) ++ rest) s (item_calls table before (beyond course xs) more ++ rest)

  made_none : (v : V) → Made [] v v
  made_none v before more rest = sofar_self sees v (item_calls table before course more ++ rest)

  made_one : (xs : List (Item Content)) (spec : FieldSpec) (c : Content) (v s s' : V) → Made xs v s → sees s (item_call (view_of table spec c)) (Ok tt) s' → Made (xs ++ item spec c ∷ []) v s'
  made_one xs spec c v s s' m call before more rest =
      let x : Item Content = item spec c in
      let further : CountedCourse = after plain (beyond course xs) x in
      sofar_then sees v s s' (item_calls table before course ((xs ++ x ∷ []) ++ more) ++ rest) (item_calls table before (beyond course xs) (x ∷ more) ++ rest)
      (item_calls table before (beyond course (xs ++ x ∷ [])) more ++ rest)
      (subst (λ ys. Sofar sees v (item_calls table before course ys ++ rest) s (item_calls table before (beyond course xs) (x ∷ more) ++ rest)) (sym (append_assoc xs (x ∷ []) more))
      (m before (x ∷ more) rest))
      (subst (λ k. Sofar sees s (item_calls table before (beyond course xs) (x ∷ more) ++ rest) s' (item_calls table before k more ++ rest)) (beyond_one course xs x)
      (sofar_call sees s s' (timed (before + (beyond course xs []).turns) (item_call (view_of table spec c))) (item_calls table before further more ++ rest) call))

  module _ {S : Type 0} (on : S → Stage V) where
    abbrev pub took : S → FieldSpec → Result Taken (ShowStop E) → S → Type 0
    took s spec r t = ShowingTakes sees (on s) spec r (on t)

    -- The state of a walk that began at `first` matches that of its pass, after these items were
    -- shown.
    pub record IsShownAt (first : S) (xs : List (Item Content)) (s : S) (p : Place) : Type 0 where
      pub at : IsAt (on first).cursor xs (on s).cursor p
      pub rows : (on s).table ≡ table
      pub names : (on s).names ≡ (on first).names
      pub made : Made xs (on first).visitor (on s).visitor

    show_follows : (first : S) (before : List (Item Content)) (s : S) (spec : FieldSpec) (t : Taken) (s' : S) (p : Place) → IsShownAt first before s p → took s spec (Ok t) s'
        → IsStep took how answer_of (IsShownAt first) before spec t s' p
    unfolding plain_follows
    show_follows first before s spec t s' p m h =
        let f = plain_follows (on first).cursor before (on s).cursor spec t (on s').cursor p m.at h.is_taken in
        record {
          content = f.content;
          state = f.state;
          step = f.step;
          answer = f.answer;
          meets = record {
            at = f.meets;
            rows = h.table ∙ m.rows;
            names = h.names ∙ m.names;
            made = made_one before spec h.is_taken.content (on first).visitor (on s).visitor (on s').visitor m.made
                (subst (λ rows. sees (on s).visitor (item_call (view_of rows spec h.is_taken.content)) (Ok tt) (on s').visitor) m.rows h.call);
          };
        }

    -- The calls for these items were made, and showing ends at the call for the next item.
    abbrev EndsShowing : S → List (Item Content) → Place → Next → WalkStop (ShowStop E) → S → Type 0
    EndsShowing first xs p next why s' = (spec : FieldSpec) × (next ≡ take_next spec) × (end : ShowFault E) × IsEnd why end
        × ((f : Step Place Content) → how.step spec p ≡ Ok f → (v : V) × Made xs (on first).visitor v × EndsAt sees v (item_call (view_of table spec f.content)) end (on s').visitor)

    -- The walk stopped because its pass does, or because showing ended at a call.
    abbrev ShowFails : S → List (Item Content) → Place → Next → WalkStop (ShowStop E) → S → Type 0
    ShowFails first xs p next why s' = (length xs < suc (length (rest_of (on first).cursor))) × ((on s').names ≡ (on first).names)
        × (((stop : Stop) × EndsPass how next p (Some stop)) ⊎ EndsShowing first xs p next why s')

    enough : (first : S) (xs : List (Item Content)) (s : S) (p : Place) → IsShownAt first xs s p → length xs < suc (length (rest_of (on first).cursor))
    enough first xs s p m = omega (arith, m.at.pays)

    -- The step at a field reads the content of the remaining bits.
    item_content : (first : S) (xs : List (Item Content)) (s : S) (p : Place) (spec : FieldSpec) (f : Step Place Content) → IsShownAt first xs s p → how.step spec p ≡ Ok f
        → content_in spec (take spec.width (rest_of (on s).cursor)) ≡ f.content
    item_content first xs s p spec f m h =
        step_content spec (rest_of (on s).cursor) (length xs) f (sym (step_there (on first).cursor xs (on s).cursor spec p m.at) ∙ h)

    show_fails : (first : S) (xs : List (Item Content)) (s : S) (p : Place) (spec : FieldSpec) (e : ShowStop E) (s' : S) → IsShownAt first xs s p → took s spec (Err e) s'
        → ShowFails first xs p (take_next spec) (stops.Field e) s'
    show_fails first xs s p spec stop.DataEnd s' m h = (
      enough first xs s p m,
      ap (λ x. x.names) h.1 ∙ m.names,
      inl
          (stops.Field (wrong.DataEnd spec.fxy), step_there (on first).cursor xs (on s).cursor spec p m.at ∙ ap (read_field plain spec (length xs)) h.0),
    )
    show_fails first xs s p spec (stop.Visitor e) s' m h = (
      enough first xs s p m,
      h.names ∙ m.names,
      inr (
        spec,
        refl,
        show_fault.Visitor e,
        refl,
        λ f step. (
          (on s).visitor,
          m.made,
          subst (λ c. sees (on s).visitor (item_call (view_of table spec c)) (Err e) (on s').visitor)
              (sym (content_is spec (rest_of (on s).cursor) (rest_of (past (on s).cursor spec)) h.is_taken.content h.is_taken.field) ∙ item_content first xs s p spec f m step)
              (subst (λ rows. sees (on s).visitor (item_call (view_of rows spec h.is_taken.content)) (Err e) (on s').visitor) m.rows h.call),
        ),
      ),
    )

    show_short : (first : S) (xs : List (Item Content)) (s : S) (p : Place) (spec : FieldSpec) → IsShownAt first xs s p → spec.role ≡ role.Reference
        → ShowFails first xs p (take_next spec) stops.Memory s
    show_short first xs s p spec m h = (
      enough first xs s p m,
      m.names,
      inr (
        spec,
        refl,
        show_fault.Memory,
        refl,
        λ f step. (
          (on s).visitor,
          m.made,
          (refl, subst (λ c. IsReferenceValue (shown spec c)) (item_content first xs s p spec f m step) (reference_kept spec (take spec.width (rest_of (on s).cursor)) h)),
        ),
      ),
    )

    module _ (s : S) (c : ℕ) (s' : S) (c' : ℕ) (rows : (on s).table ≡ table) where
      abbrev first_place : Place
      first_place = place_at 0 (rest_of (on s).cursor)

      abbrev fuel : ℕ
      fuel = suc (length (rest_of (on s).cursor))

      abbrev pass : DataPass Content
      pass = read_pass plain (λ n. false) (uncounted course) (rest_of (on s).cursor)

      abbrev Goes : Type 0
      Goes = Comes how answer_of course first_place c c'

      -- All items were shown, or showing ended at one of them.
      abbrev Shown : Result (Unit {0}) (ShowFault E) → Type 0
      Shown r = ItemsGo sees table course (on s).cursor (on s).visitor c r (on s').cursor (on s').visitor c'

      starts : IsShownAt s [] s first_place
      starts = record { at = at_first (on s).cursor; rows = rows; names = refl; made = made_none (on s).visitor }

      -- If the walk completes, all items were shown.
      pub all_shown : Walked took course s c (Ok tt) s' c' → ((on s').names ≡ (on s).names) × Shown (Ok tt)
      all_shown w =
          let r = whole_passes took how answer_of (IsShownAt s) (show_follows s) course s c s' c' first_place starts w in
          let g = r.0 in
          let is : pass ≡ record { items = g.items; state = g.state; stop = None } = g.ends fuel None (omega (arith, r.1.at.pays)) (subst (λ x. EndsPass how x g.state None) (sym r.2) refl) in (
            r.1.names,
            subst (λ (p : DataPass Content). IsAllShown sees table course (on s).visitor c p (on s').cursor (on s').visitor c') (sym is) (record {
              shown = λ before more. subst (λ xs. Sofar sees (on s).visitor (item_calls table before course xs ++ more) (on s').visitor more) (append-nil g.items) (r.1.made before [] more);
              left = sym (ap (λ (q : Place). q.left) r.1.at.place);
              ticks = g.ticks;
            }),
          )

      -- a walk that stopped, although the data were read before
      module _ (why : WalkStop (ShowStop E)) (none : pass.stop ≡ None) where
        -- The pass does not stop.
        never : (g : Goes) (stop : Stop) → length g.items < fuel → EndsPass how (course (answers_in answer_of g.items)).next g.state (Some stop) → ⊥
        never g stop enough e =
            let no : ◌≡◌ {A = Option Stop} None (Some stop) = sym none ∙ ap (λ (p : DataPass Content). p.stop) (g.ends fuel (Some stop) enough e) in cc

        ends_so : (g : Goes) (spec : FieldSpec) (f : Step Place Content) (end : ShowFault E) (v : V) → length g.items < fuel → (course (answers_in answer_of g.items)).next ≡ take_next spec
            → how.step spec g.state ≡ Ok f → Made g.items (on s).visitor v → EndsAt sees v (item_call (view_of table spec f.content)) end (on s').visitor → Shown (Err end)
        ends_so g spec f end v enough n step made ends before rest turns now =
            let goes = g.goes fuel spec f enough n step in
            subst (λ xs. Shows sees (on s).visitor (item_calls table before course xs ++ rest) turns (Err end) (on s').visitor c') (sym goes.1)
            ((made before (item spec f.content ∷ goes.0) rest).on turns (Err end) (on s').visitor c' (inl (
              ends,
              g.ticks ∙ ap (λ k. ticked k (course (answers_in answer_of g.items)).turns) now ∙ ticked_more before (course (answers_in answer_of g.items)).turns
                  ∙ ap (λ a. ticked 0 (before + a.turns)) (sym (beyond_all course g.items)),
            )))

        at_call : (g : Goes) (spec : FieldSpec) (end : ShowFault E) (r : Result (Step Place Content) Stop) → length g.items < fuel → (course (answers_in answer_of g.items)).next ≡ take_next spec
            → ((f : Step Place Content) → how.step spec g.state ≡ Ok f → (v : V) × Made g.items (on s).visitor v × EndsAt sees v (item_call (view_of table spec f.content)) end (on s').visitor)
            → how.step spec g.state ≡ r → Shown (Err end)
        at_call g spec end (Err stop) enough n ends e = absurd (never g stop enough (subst (λ x. EndsPass how x g.state (Some stop)) (sym n) e))
        at_call g spec end (Ok f) enough n ends e = let k = ends f e in ends_so g spec f end k.0 enough n e k.1 k.2

        cases : (g : Goes) → length g.items < fuel → ((stop : Stop) × EndsPass how (course (answers_in answer_of g.items)).next g.state (Some stop))
            ⊎ EndsShowing s g.items g.state (course (answers_in answer_of g.items)).next why s' → (end : ShowFault E) × IsEnd why end × Shown (Err end)
        cases g enough (inl e) = absurd (never g e.0 enough e.1)
        cases g enough (inr q) = (q.2, q.3, at_call g q.0 q.2 (how.step q.0 g.state) enough q.1 q.4 refl)

        pub all_ended : Walked took course s c (Err why) s' c' → ((on s').names ≡ (on s).names) × (end : ShowFault E) × IsEnd why end × Shown (Err end)
        all_ended w =
            let r = stopped_passes took how answer_of (IsShownAt s) (show_follows s) course s c s' c' first_place starts (ShowFails s) (show_fails s) (show_short s)
            (λ xs x p y m. (enough s xs x p m, m.names, inl (stop_by y, refl))) why w in
            let k = cases r.0 r.1.0 r.1.2 in
            (r.1.1, k.0, k.1, k.2)

-- ---- Showing successive subsets.

module _ {V E : Type 0} (sees : V → Call → Result (Unit {0}) E → V → Type 0) (table : List Row) (course : CountedCourse) (n : ℕ) (bits : List Bool) where
  -- the items of the next `left` passes
  abbrev items_of : ℕ → List Bool → List (List (Item Content))
  items_of left rest = items_by_pass (passes_apart (uncounted course) left rest)

  -- the calls for all n subsets, and their turns
  abbrev all : List Timed
  all = subset_calls table course 0 1 (items_of n bits)

  abbrev all_turns : ℕ
  all_turns = turns_in answer_of course (items_of n bits)

  -- The first `done` subsets were shown.
  pub record SubsetsShown (done : ℕ) (s : V) (c : Cursor) (s' : V) (steps : ℕ) : Type 0 where
    pub before : ℕ
    pub none : stop_of (passes_apart (uncounted course) (n - done) (rest_of c)) ≡ None
    pub ticks : steps ≡ ticked 0 before
    pub total : before + turns_in answer_of course (items_of (n - done) (rest_of c)) ≡ all_turns
    pub so_far : Sofar sees s all s' (subset_calls table course before (done + 1) (items_of (n - done) (rest_of c)))

  -- At first, no subset was shown.
  pub none_shown : (s : V) (c : Cursor) (steps : ℕ) → c ≡ record { bits = bits; at = 0 } → steps ≡ 0 → stop_of (passes_apart (uncounted course) n bits) ≡ None → SubsetsShown 0 s c s steps
  none_shown s c steps first z none = search (rules, sofar_self)

  module _ (done : ℕ) (s : V) (c : Cursor) (s1 : V) (steps : ℕ) (h : SubsetsShown done s c s1 steps) (lt : done < n) where
    -- the pass over the next subset, its turns, and the subsets after it
    abbrev coming : DataPass Content
    coming = read_pass plain (λ n. false) (uncounted course) (rest_of c)

    abbrev turns : ℕ
    turns = (course (answers_in answer_of coming.items)).turns

    abbrev later : List (List (Item Content))
    later = items_of (n - (done + 1)) coming.state.left

    next : (coming.stop ≡ None) × (passes_apart (uncounted course) (n - done) (rest_of c) ≡ coming ∷ passes_apart (uncounted course) (n - (done + 1)) coming.state.left)
        × (stop_of (passes_apart (uncounted course) (n - (done + 1)) coming.state.left) ≡ None)
    next = next_pass (uncounted course) (n - done) (n - (done + 1)) (rest_of c) (omega (arith, lt)) h.none

    pub next_reads : coming.stop ≡ None
    next_reads = next.0

    so_far : Sofar sees s all s1 (subset_calls table course h.before (done + 1) (coming.items ∷ later))
    so_far = subst (λ ps. Sofar sees s all s1 (subset_calls table course h.before (done + 1) (items_by_pass ps))) next.1 h.so_far

    -- The call that begins this subset was made.
    called : (s2 : V) → sees s1 (subset_call (done + 1)) (Ok tt) s2
        → Sofar sees s all s2 (item_calls table h.before course coming.items ++ subset_calls table course (h.before + turns) (done + 1 + 1) later)
    called s2 call = sofar_then sees s s1 s2 _ _ _ so_far (sofar_call sees s1 s2 (timed h.before (subset_call (done + 1))) _ call)

    -- One more subset was shown.
    pub one_shown : (s2 s3 : V) (c' : Cursor) (steps' : ℕ) → sees s1 (subset_call (done + 1)) (Ok tt) s2 → ItemsGo sees table course c s2 steps (Ok tt) c' s3 steps'
        → SubsetsShown (done + 1) s c' s3 steps'
    one_shown s2 s3 c' steps' call g = record {
      before = h.before + turns;
      none = ap (λ l. stop_of (passes_apart (uncounted course) (n - (done + 1)) l)) g.left ∙ next.2;
      ticks = g.ticks ∙ ap (λ k. ticked k turns) h.ticks ∙ ticked_more h.before turns;
      total = ap (λ l. h.before + turns + turns_in answer_of course (items_of (n - (done + 1)) l)) g.left ∙ assoc h.before turns (turns_in answer_of course later)
          ∙ ap (λ ps. h.before + turns_in answer_of course (items_by_pass ps)) (sym next.1) ∙ h.total;
      so_far = subst (λ l. Sofar sees s all s3 (subset_calls table course (h.before + turns) (done + 1 + 1) (items_of (n - (done + 1)) l))) (sym g.left)
          (sofar_then sees s s2 s3 _ _ _ (called s2 call) (g.shown h.before (subset_calls table course (h.before + turns) (done + 1 + 1) later)));
    }
      where
        assoc : (a b c : ℕ) → a + b + c ≡ a + (b + c)
        assoc a b c = omega arith

    -- Showing ended inside this subset.
    pub ended_so : (s2 s3 : V) (c' : Cursor) (steps' : ℕ) (why : ShowFault E) → sees s1 (subset_call (done + 1)) (Ok tt) s2 → ItemsGo sees table course c s2 steps (Err why) c' s3 steps'
        → Shows sees s all all_turns (Err why) s3 steps'
    ended_so s2 s3 c' steps' why call g = (called s2 call).on all_turns (Err why) s3 steps' (g h.before _ all_turns h.ticks)

    -- The visitor refused the call that begins this subset.
    pub refused_so : (s2 : V) (e : E) → sees s1 (subset_call (done + 1)) (Err e) s2 → Shows sees s all all_turns (Err (show_fault.Visitor e)) s2 steps
    refused_so s2 e call = so_far.on all_turns (Err (show_fault.Visitor e)) s2 steps (inl (call, h.ticks))

  pub all_subsets : (done : ℕ) (s s1 : V) (c : Cursor) (steps : ℕ) → SubsetsShown done s c s1 steps → n ≤ done → Shows sees s all all_turns (Ok tt) s1 steps
  all_subsets done s s1 c steps h ge =
      let none : passes_apart (uncounted course) (n - done) (rest_of c) ≡ [] = rw none_left in
      let total : h.before + 0 ≡ all_turns = ap (λ ps. h.before + turns_in answer_of course (items_by_pass ps)) (sym none) ∙ h.total in
      (rw none at h.so_far).on all_turns (Ok tt) s1 steps
      (refl, h.ticks ∙ ap (ticked 0) (omega (arith, total)))
    where
      none_left : (n done : ℕ) → n ≤ done → n - done ≡ 0
      none_left n done h = omega (arith, h)

-- ---- Plain numbers are numbers of elements, and their magnitude is below 2^63.

-- The conditions of `is_plain`, one by one, are true for a plain field.
pub plain_is : (a : FieldSpec) → is_plain a ≡ true → IsPlainNumber a
plain_is a h = grind (arith, common_steps, nat_tests)

-- what a plain field shows
pub plain_missing : (a : FieldSpec) (bits : List Bool) → IsPlainNumber a → (are_all_ones bits && a.may_be_missing) ≡ true → shown_missing ≡ shown a (content_in a bits)
plain_missing a bits p m = missing_shown a bits (ap is_reference p.role) m

pub plain_shown : (a : FieldSpec) (bits : List Bool) (raw : ℕ) → IsPlainNumber a → (are_all_ones bits && a.may_be_missing) ≡ false → raw ≡ number_of bits
    → shown_number (pos raw +ℤ a.reference) a.scale ≡ shown a (content_in a bits)
plain_shown a bits raw p m is = number_shown a bits raw p.kind (ap is_reference p.role) m is

-- the answer of a plain field
pub plain_answer : (a : FieldSpec) (bits : List Bool) → IsPlainNumber a → taken.Plain ≡ answer_of a (content_in a bits)
plain_answer a bits p = answer_element a bits p.role

pub plain_for : (a : FieldSpec) → IsPlainNumber a → IsFor a taken.Plain
plain_for a p = grind arith

-- If all subsets of plain data were shown, the reading was shown.
pub apart_shown : {V E : Type 0} (sees : V → Call → Result (Unit {0}) E → V → Type 0) (r : Read) (v v' : V) (result : Result (Unit {0}) (ShowFault E)) (steps : ℕ) → IsStoredReading r kept.Apart
    → (let all = items_by_pass (passes_apart (course_of r) r.source.subsets r.source.bits) in
    Shows sees v (subset_calls r.table (counted_course_of r) 0 1 all) (turns_in answer_of (counted_course_of r) all) result v' steps)
    → Shows sees v (calls_of r) (turns_shown r) result v' steps
apart_shown sees r v v' result steps h shows = grind arith
