-- A pass over data reads each item where the previous one ended.
use Rattle.bufr_walk.proofs.WalkPass.{Passes, passes_none, passes_one, pass_ends, Comes}
use Rattle.std.proofs.lemmas.Bool.{ltb-false, le-ltb}
use Rattle.std.proofs.Common.{◌≡◌, ℕ, zero, suc, ◌+◌, ◌<◌, ◌≤◌, Bool, true, false, List, ◌∷◌, length, Option, Some, None, Result, Ok, Err, ◌*◌, refl, sym, ◌∙◌, ap, subst, arith, drop, length-drop, if◌then◌else◌, [], ◌⊎◌, ◌++◌}
use Rattle.bufr_tables.specs.Prelude.{Row, Tree, IsLegal}
use Rattle.bufr_walk.specs.Prelude.{FieldSpec, FieldRead, found, Course, Next, take_next, at_end, astray, refused, next_item, Item, DataCoding, plain, packed, answers_in, after, ReadsItems, Data, Stop, would_be_many, max_values, stop_by, Taken, CountedCourse, uncounted, turns_in, fault_at}
use Rattle.bufr_walk.specs.declared.walker.WalkStop.TheVariants as stops
use Rattle.bufr_walk.specs.declared.spec.Role.TheVariants as role
use Rattle.bufr_walk.specs.declared.fault.WalkFault.TheVariants as fault
use Rattle.bufr_walk.specs.declared.fault.DataFault.TheVariants as wrong
use Rattle.bufr_walk.specs.Pass.{Pass, empty_pass, item_then, pass_field, pass_next, pass, Place, read_field, reading, read_pass, DataPass, passes_apart, passes_together, stop_of, left_after, reading_in, reading_of, EndsPass, ReadsTo, RunsShort}
use Rattle.bufr_walk.specs.Readers.{place_at, items_by_pass}
use Rattle.std.proofs.lemmas.Grind.{common_steps}
use Rattle.std.proofs.lemmas.List.{drop-drop}
use Rattle.bufr_walk.proofs.CourseLemmas.{IsSane, Forth, plain_forth, packed_forth, template_sane}
use Rattle.bufr_walk.proofs.NextField.{AreRead, row_found}
use Rattle.std.specs.Prelude.{is_none}
use Rattle.bufr_walk.specs.declared.fault.DataFault.{DataFault}

none_more : (a : ℕ) → a + 0 ≡ a
none_more a = omega arith

one_more : (a b : ℕ) → a + 1 + b ≡ a + suc b
one_more a b = omega arith

-- the pass that has these items and does not stop
abbrev pub passed : {C : Type 0} → List (Item C) → List Bool → DataPass C
passed items left = record { items = items; state = place_at (0 + length items) left; stop = None }

module _ {C : Type 0} (form : DataCoding C) (many : ℕ → Bool) where
  -- If these items are read, a pass begins with them.
  reads_pass : (course : Course) (from : ℕ) (bits : List Bool) (items : List (Item C)) (left : List Bool) → ReadsItems form course items bits left
      → ((j : ℕ) → j < length items → many (from + j) ≡ false)
      → Passes (reading form many) (answers_in form.gives items) course (place_at from bits) items (place_at (from + length items) left)
  reads_pass course from bits [] left h few =
      subst (λ p. Passes (reading form many) [] course (place_at from bits) [] p) (ap (place_at from) h ∙ ap (λ k. place_at k left) (sym (none_more from)))
      (passes_none (reading form many) course (place_at from bits))
  reads_pass course from bits (x ∷ xs) left h few =
      passes_one (reading form many) (answers_in form.gives xs) course (place_at from bits) x.spec x.content (form.gives x.spec x.content) (place_at (from + 1) h.0) xs
      (place_at (from + length (x ∷ xs)) left) h.1
      (ap (λ b. if b then Err (stops.Field (wrong.TooManyValues x.spec.fxy)) else read_field form x.spec from (form.field x.spec bits)) (ap many (sym (none_more from)) ∙ few 0 (omega arith))
      ∙ ap (read_field form x.spec from) h.2)
      (subst (λ k. Passes (reading form many) (answers_in form.gives xs) (after form course x) (place_at (from + 1) h.0) xs (place_at k left)) (one_more from (length xs))
      (reads_pass (after form course x) (from + 1) h.0 xs left h.3 (λ j l. ap many (one_more from j) ∙ few (suc j) (omega arith))))

-- ---- A pass reads each item where the previous one ended.

-- Each field that is read takes at least one bit.
abbrev pub GoesForth : {C : Type 0} → DataCoding C → Type 0
GoesForth {C} form = (spec : FieldSpec) (bits : List Bool) (c : C) (mid : List Bool) → 1 ≤ spec.width → form.field spec bits ≡ Ok (found c mid) → Forth form spec bits c mid

-- `left` contains the last of these bits.
abbrev IsSuffix : (bits left : List Bool) → Type 0
IsSuffix bits left = (used : ℕ) × (used ≤ length bits) × (left ≡ drop used bits)

suffix_then : (a : ℕ) (bits mid left : List Bool) → a ≤ length bits → mid ≡ drop a bits → IsSuffix mid left → IsSuffix bits left
suffix_then a bits mid left within e (used, few, is) = (a + used, omega (arith, within, few, ap length e, length-drop a bits), is ∙ ap (drop used) e ∙ drop-drop used a bits)

module _ {C : Type 0} (form : DataCoding C) (many : ℕ → Bool) where
  -- A pass over these bits, after `from` items, reads each of its items where the previous one
  -- ended, and the bits after them are the last ones.
  abbrev ReadsSo : Course → ℕ → List Bool → Pass Place C Stop → Type 0
  ReadsSo course from bits p = ReadsTo form many course (place_at from bits) p × IsSuffix bits p.state.left

  pass_so : GoesForth form → (n : ℕ) (course : Course) (from : ℕ) (bits : List Bool) → IsSane n course → length bits < n
      → ReadsSo course from bits (pass (reading form many) n course (place_at from bits))
  pass_so forth zero course from bits sane lt = absurd (omega arith)
  pass_so forth (suc n) course from bits sane lt = by (course []) refl (λ c bs h l. pass_so forth n c (from + 1) bs h l)
    where
      at_once : (next : Next) → course [] ≡ next → (o : Option Stop) → EndsPass (reading form many) next (place_at from bits) o
          → ReadsSo course from bits (empty_pass (place_at from bits) o)
      at_once next e o h = (
        record {
          reads = refl;
          few = λ j l. absurd (omega arith);
          count = omega arith;
          ends = rw e h;
        },
        (0, omega arith, refl),
      )

      one_item : (x : Item C) (mid : List Bool) (p : Pass Place C Stop) → many from ≡ false → course [] ≡ take_next x.spec → form.field x.spec bits ≡ Ok (found x.content mid)
          → Forth form x.spec bits x.content mid → ReadsSo (after form course x) (from + 1) mid p
          → ReadsSo course from bits (item_then x.spec x.content p)
      one_item x mid p m e q w r = (
        record {
          reads = (mid, e, q, r.0.reads);
          few = few;
          count = r.0.count ∙ one_more from (length p.items);
          ends = r.0.ends;
        },
        suffix_then w.size bits mid p.state.left w.within w.left_is r.1,
      )
        where
          few : (j : ℕ) → j < suc (length p.items) → many (from + j) ≡ false
          few zero l = ap many (none_more from) ∙ m
          few (suc j) l = ap many (sym (one_more from j)) ∙ r.0.few j (omega arith)

      stepped : (spec : FieldSpec) (b : Bool) → many from ≡ b → (reading form many).step spec (place_at from bits)
          ≡ (if b then Err (stops.Field (wrong.TooManyValues spec.fxy)) else read_field form spec from (form.field spec bits))
      stepped spec b m = ap (λ b. if b then Err (stops.Field (wrong.TooManyValues spec.fxy)) else read_field form spec from (form.field spec bits)) m

      at_field : (spec : FieldSpec) → course [] ≡ take_next spec → (b : Bool) → many from ≡ b → (r : Result (FieldRead C) DataFault) → form.field spec bits ≡ r
          → ((c : Course) (bs : List Bool) → IsSane n c → length bs < n → ReadsSo c (from + 1) bs (pass (reading form many) n c (place_at (from + 1) bs)))
          → ReadsSo course from bits (pass_field (reading form many) spec (place_at from bits)
          (if b then Err (stops.Field (wrong.TooManyValues spec.fxy)) else read_field form spec from r)
          (λ f. pass (reading form many) n (λ answers. course (f.returned ∷ answers)) f.state))
      at_field spec e true m r q go = at_once (take_next spec) e (Some (stops.Field (wrong.TooManyValues spec.fxy))) (stepped spec true m)
      at_field spec e false m (Err why) q go = at_once (take_next spec) e (Some (stops.Field why)) (stepped spec false m ∙ ap (read_field form spec from) q)
      at_field spec e false m (Ok f) q go =
          let k = sane.1 spec e in
          let w = forth spec bits f.content f.suffix k.0 q in
          one_item (record { spec = spec; content = f.content }) f.suffix (pass (reading form many) n (after form course (record { spec = spec; content = f.content })) (place_at (from + 1) f.suffix))
          m e q w
          (go (after form course (record { spec = spec; content = f.content })) f.suffix (k.1 (form.gives spec f.content) w.gives)
          (omega (arith, w.some, w.within, length-drop w.size bits, ap length w.left_is)))

      by : (next : Next) → course [] ≡ next
          → ((c : Course) (bs : List Bool) → IsSane n c → length bs < n → ReadsSo c (from + 1) bs (pass (reading form many) n c (place_at (from + 1) bs)))
          → ReadsSo course from bits (pass_next (reading form many) next (place_at from bits) (λ f. pass (reading form many) n (λ answers. course (f.returned ∷ answers)) f.state))
      by at_end e go = at_once at_end e None refl
      by astray e go = absurd (sane.0 e)
      by (refused why) e go = at_once (refused why) e (Some (stop_by why)) refl
      by (take_next spec) e go = at_field spec e (many from) refl (form.field spec bits) refl go

-- A pass that does not stop reaches the end of the template.
pub pass_at_end : {C : Type 0} (form : DataCoding C) (many : ℕ → Bool) (most : ℕ) (course : Course) (p : Place) → (pass (reading form many) most course p).stop ≡ None
    → course (answers_in form.gives (pass (reading form many) most course p).items) ≡ at_end
pass_at_end form many zero course p h = absurd cc
pass_at_end {C} form many (suc most) course p h = by (course []) refl (λ t q. pass_at_end form many most (λ answers. course (t ∷ answers)) q) h
  where
    at_field : (spec : FieldSpec) (b : Bool) (r : Result (FieldRead C) DataFault)
        → ((t : Taken) (q : Place) → (let r = pass (reading form many) most (λ answers. course (t ∷ answers)) q in r.stop ≡ None → course (t ∷ answers_in form.gives r.items) ≡ at_end))
        → (let q = pass_field (reading form many) spec p (if b then Err (stops.Field (wrong.TooManyValues spec.fxy)) else read_field form spec p.items r)
        (λ f. pass (reading form many) most (λ answers. course (f.returned ∷ answers)) f.state) in
        q.stop ≡ None → course (answers_in form.gives q.items) ≡ at_end)
    at_field spec true r again h = absurd cc
    at_field spec false (Err why) again h = absurd cc
    at_field spec false (Ok f) again h = again (form.gives spec f.content) (place_at (p.items + 1) f.suffix) h

    by : (next : Next) → course [] ≡ next
        → ((t : Taken) (q : Place) → (let r = pass (reading form many) most (λ answers. course (t ∷ answers)) q in r.stop ≡ None → course (t ∷ answers_in form.gives r.items) ≡ at_end))
        → (let q = pass_next (reading form many) next p (λ f. pass (reading form many) most (λ answers. course (f.returned ∷ answers)) f.state) in
        q.stop ≡ None → course (answers_in form.gives q.items) ≡ at_end)
    by at_end e again h = e
    by astray e again h = absurd cc
    by (refused why) e again h = absurd cc
    by (take_next spec) e again h = at_field spec (many p.items) (form.field spec p.left) again h

-- If none of the passes stops, the next one does not stop, and those after it do not.
pub next_pass : (course : Course) (n left : ℕ) (bits : List Bool) → n ≡ suc left → stop_of (passes_apart course n bits) ≡ None
    → (let p = read_pass plain (λ items. false) course bits in
    (p.stop ≡ None) × (passes_apart course n bits ≡ p ∷ passes_apart course left p.state.left) × (stop_of (passes_apart course left p.state.left) ≡ None))
next_pass course n left bits one h = grind arith

-- ---- Why a walk that reads data stops.

module _ {C : Type 0} (form : DataCoding C) (many wants : ℕ → Bool) where
  -- The pass stops for the same reason, or memory ran out before the next field.
  abbrev pub Stops : List (Item C) → Place → Next → Stop → Type 0
  Stops items p next why = EndsPass (reading form many) next p (Some why)
      ⊎ ((spec : FieldSpec) × (next ≡ take_next spec) × ((wants (length items) ≡ true) ⊎ (spec.role ≡ role.Reference)) × ((subset at : ℕ) → fault_at why subset at ≡ fault.Memory))

  -- Memory ran out in the pass after `done`.
  pub runs_short : (course : CountedCourse) (bits : List Bool) (steps steps' : ℕ) (g : Comes (reading form many) form.gives course (place_at 0 bits) steps steps') → length g.items < suc (length bits)
      → (done later : List (DataPass C)) (spec : FieldSpec) → (course (answers_in form.gives g.items)).next ≡ take_next spec → (wants (length g.items) ≡ true) ⊎ (spec.role ≡ role.Reference)
      → RunsShort form wants course (done ++ read_pass form many (uncounted course) bits ∷ later) (turns_in form.gives course (items_by_pass done) + (course (answers_in form.gives g.items)).turns)
  runs_short course bits steps steps' g enough done later spec n why =
      let begins = g.begins (suc (length bits)) enough in
      grind arith

-- If the number of items is not too large, nor is any smaller number.
pub few_values : (n items j : ℕ) → items * n ≤ max_values → j < items → would_be_many n (0 + j) ≡ false
few_values n items j h lt = grind (arith, common_steps, le-ltb)

-- the converse
pub few_all : (n items : ℕ) → ((j : ℕ) → j < items → would_be_many n (0 + j) ≡ false) → items * n ≤ max_values
few_all n zero h = omega arith
few_all n (suc k) h = grind (arith, ltb-false max_values ((0 + k + 1) * n) (h k (omega arith)))

-- ---- The pass over data of a legal template is the only one that reads them.

module _ {C : Type 0} (form : DataCoding C) (forth : GoesForth form) where
  -- There are at most as many items as bits, because each item takes at least one bit.
  fits : (n : ℕ) (course : Course) (items : List (Item C)) (bits left : List Bool) → IsSane n course → length items ≤ n → ReadsItems form course items bits left → length items ≤ length bits
  fits n course [] bits left sane few h = omega arith
  fits zero course (x ∷ xs) bits left sane few h = absurd (omega (arith, few))
  fits (suc n) course (x ∷ xs) bits left sane few h =
      let w = sane.1 x.spec h.1 in
      let f = forth x.spec bits x.content h.0 w.0 h.2 in
      omega (
        arith,
        fits n (after form course x) xs h.0 left (w.1 (form.gives x.spec x.content) f.gives) (omega (arith, few)) h.3,
        f.some,
        f.within,
        length-drop f.size bits,
        ap length f.left_is,
      )

  module _ (many : ℕ → Bool) (course : Course) (sane : (m : ℕ) → IsSane m course) (bits : List Bool) where
    pub pass_reads : ReadsSo form many course 0 bits (read_pass form many course bits)
    pass_reads = pass_so form many forth (suc (length bits)) course 0 bits (sane (suc (length bits))) (omega arith)

    -- Any pass that reads the data in this way is the one that is defined.
    pub pass_only : (p : DataPass C) → ReadsTo form many course (place_at 0 bits) p → read_pass form many course bits ≡ p
    pass_only p h =
        let answers = answers_in form.gives p.items in
        pass_ends (reading form many) answers course (place_at 0 bits) p.items p.state (suc (length bits))
        (subst (λ k. Passes (reading form many) answers course (place_at 0 bits) p.items (place_at k p.state.left)) (sym h.count)
        (reads_pass form many course 0 bits p.items p.state.left h.reads h.few))
        (omega (arith, fits (length p.items) course p.items bits p.state.left (sane (length p.items)) (omega arith) h.reads))
        p.stop h.ends

    -- If items are read up to the end of the template, they are the items of the pass.
    pub pass_whole : (items : List (Item C)) (left : List Bool) → ReadsItems form course items bits left → ((j : ℕ) → j < length items → many (0 + j) ≡ false)
        → course (answers_in form.gives items) ≡ at_end → read_pass form many course bits ≡ passed items left
    pass_whole items left reads few end = pass_only (passed items left) (record {
      reads = reads;
      few = few;
      count = refl;
      ends = subst (λ n. EndsPass (reading form many) n (place_at (0 + length items) left) None) (sym end) refl;
    })

-- ---- The bits that are left after a reading are the last ones.

module _ (course : Course) (sane : (m : ℕ) → IsSane m course) where
  left_apart : (n : ℕ) (bits : List Bool) → IsSuffix bits (left_after bits (passes_apart course n bits))
  left_apart zero bits = (0, omega arith, refl)
  left_apart (suc n) bits = by (read_pass plain (λ items. false) course bits).stop (λ mid. left_apart n mid)
    where
      by : (o : Option Stop) → ((mid : List Bool) → IsSuffix mid (left_after mid (passes_apart course n mid)))
          → (let mid = (read_pass plain (λ items. false) course bits).state.left in IsSuffix bits (left_after mid (if is_none o then passes_apart course n mid else [])))
      by None rest = let s = (pass_reads plain plain_forth (λ items. false) course sane bits).1 in suffix_then s.0 bits _ _ s.1 s.2 (rest _)
      by (Some why) rest = (pass_reads plain plain_forth (λ items. false) course sane bits).1

  left_together : (n : ℕ) (bits : List Bool) → IsSuffix bits (left_after bits (passes_together course n bits))
  left_together zero bits = (0, omega arith, refl)
  left_together (suc n) bits = (pass_reads (packed (suc n)) (packed_forth n) (would_be_many (suc n)) course sane bits).1

  pub reading_left : (d : Data) → IsSuffix d.bits (reading_of course d).left
  reading_left d = by d.compressed
    where
      by : (b : Bool) → IsSuffix d.bits (reading_in course b d.subsets d.bits).left
      by false = left_apart d.subsets d.bits
      by true = left_together d.subsets d.bits

pub legal_sane : (table : List Row) (template : Tree) → AreRead table → IsLegal template → (m : ℕ) → IsSane m (next_item table template)
legal_sane table template rows legal m = template_sane table (λ fxy row e. (row_found table fxy row rows e).listed.width) template legal m
