-- A walk over compressed data reads them as defined, and stores their items.
use Rattle.bufr_walk.proofs.PassLemmas.{Stops, runs_short}
use Rattle.bufr_walk.proofs.WalkPass.{Comes, IsStep, stopped_passes, whole_passes, item}
use Rattle.std.proofs.lemmas.Grind.{common_steps}
use Rattle.std.proofs.Common.{option_map, ◌≡◌, ℕ, ◌+◌, ◌*◌, ◌<◌, ◌≤◌, Bool, true, false, List, length, take, drop, Ok, Err, sym, ◌∙◌, ap, arith, suc, ◌++◌, ◌∷◌, [], refl, zero, Result, subst, inl, inr, ◌-◌, Option, Some, None, ◌%◌, nat_lt, ◌||◌, ◌==◌, if◌then◌else◌, length-append, rules, ok_or}
use Rattle.std.proofs.lemmas.Bool.{le-ltb, lt-ltb}
use Rattle.std.proofs.lemmas.List.{length-drop, drop-drop}
use Rattle.bufr_bits.specs.Prelude.{number_of, ◌>>=◌}
use Rattle.bufr_tables.specs.Prelude.{is_character, Row, Tree}
use Rattle.bufr_walk.specs.declared.compressed.ItemBits.{ItemBits}
use Rattle.bufr_walk.specs.declared.fault.DataFault.{DataFault}
use Rattle.bufr_walk.specs.Prelude.{start_of, FieldSpec, Content, FieldRead, found, step_of, coding_of, contents_across, if_equal, answer_first, packed_field, IsSeen, IsUnseen, IsStoredReading, PackedCursor, item_at, items_at, contents_found, fits_at, packed_view, IsPackedTaken, PackedTakes, remaining_bits, new_packed_in, fault_at, IndexedItem, max_values, items_at_once, Item, packed, Data, fault_at, bits_before, KeepsValues, Stop, would_be_many, data_in, data_of, read_by, WalkStop, Next, take_next, ticked, Walked, CountedCourse, uncounted, counted_item, answers_in, Course, Taken, items_in, items_of_subset, subsets_from, view, turns_in}
use Rattle.std.specs.List.{list_all}
use Rattle.std.proofs.Math.Nat.{mul-le-mul_left}
use Rattle.bufr_frame.specs.Prelude.{Sections}
use Rattle.bufr_walk.proofs.PackedLemmas.{item_by, IsOfItem, of_item}
use Rattle.bufr_walk.specs.declared.fault.DataFault.TheVariants as wrong
use Rattle.bufr_walk.specs.declared.walker.WalkStop.TheVariants as stops
use Rattle.bufr_walk.specs.declared.reading.StoredItems.TheVariants as kept
use Rattle.bufr_walk.specs.Pass.{DataPass, passes_together, stop_of, left_after, turns_read, reading_of, ReadsData, AnswersReading, EndsPass, reading, read_field, Place, Step, read_pass, Passing, RunsShort}
use Rattle.bufr_walk.specs.Readers.{place_at, items_by_pass, first_items}

-- Compressed data were read, their items are stored, and there are not too many values.
abbrev pub IsReadAndKept : CountedCourse → Data → List IndexedItem → (used steps : ℕ) → Type 0
IsReadAndKept course d entries used steps =
    ReadsData course d (Ok used) steps × KeepsValues (kept.Together entries) d (reading_of (uncounted course) d).values × (length entries * d.subsets ≤ max_values)

-- If there are no subsets, nothing is read.
pub none_read : (course : CountedCourse) (bits : List Bool) → IsReadAndKept course (record { compressed = true; subsets = 0; bits = bits }) [] 0 0
none_read course bits = ((refl, omega arith, refl), (refl, refl), omega arith)

module _ (bits : List Bool) (at n : ℕ) (a : FieldSpec) where
  -- The k that the code reads is that of the item.
  k_here : (k : ℕ) → k ≡ number_of (take 6 (drop (at + a.width) bits)) → number_of (take 6 (drop a.width (drop at bits))) ≡ k
  k_here k is = rw (drop-drop, is)

  -- the contents of the item, given k
  abbrev across : (k : ℕ) → Option (List Content)
  across k = contents_across (coding_of a) k n (take a.width (drop at bits)) (drop (at + (a.width + 6)) bits)

  -- the item from its parts, given k
  abbrev by_parts : (k : ℕ) (suffix : List Bool) → Result (FieldRead (List Content)) DataFault
  by_parts k suffix =
      item_by a.fxy a.role (nat_lt (length (drop at bits)) (a.width + 6) || nat_lt (length suffix) (n * step_of (coding_of a) k))
      (contents_across (coding_of a) k n (take a.width (drop at bits)) suffix)
      (drop (n * step_of (coding_of a) k) suffix)

  field_is : (k : ℕ) → k ≡ number_of (take 6 (drop (at + a.width) bits)) → packed_field n a (drop at bits) ≡ by_parts k (drop (at + (a.width + 6)) bits)
  field_is k is = ap (λ x. by_parts x (drop (a.width + 6) (drop at bits))) (k_here k is) ∙ ap (by_parts k) (drop-drop (a.width + 6) at bits)

  -- The data end before the increments of the item.
  pub ends_first : (f : ℕ) → f ≡ a.fxy → at ≤ length bits → length bits < at + (a.width + 6) → IsUnseen bits at n a (wrong.DataEnd f)
  ends_first f g within short = rw (lt-ltb (length (drop at bits)) (a.width + 6) (omega (arith, length-drop at bits)), g) refl

  pub ends_after : (k size f : ℕ) → f ≡ a.fxy → at + (a.width + 6) ≤ length bits → length bits < at + size → k ≡ number_of (take 6 (drop (at + a.width) bits))
      → size ≡ a.width + 6 + n * step_of (coding_of a) k → IsUnseen bits at n a (wrong.DataEnd f)
  ends_after k size f g within short is size_is = grind (arith, common_steps, le-ltb, lt-ltb)

  -- If all bits of the item are present, only its contents can be invalid.
  whole : (k size : ℕ) → at + size ≤ length bits → k ≡ number_of (take 6 (drop (at + a.width) bits)) → size ≡ a.width + 6 + n * step_of (coding_of a) k
      → packed_field n a (drop at bits) ≡ item_by a.fxy a.role false (across k) (drop (at + size) bits)
  whole k size within is size_is =
      let suffix = drop (at + (a.width + 6)) bits in
      let s = step_of (coding_of a) k in
      let there = le-ltb (length (drop at bits)) (a.width + 6) (omega (arith, length-drop at bits)) in
      let enough = le-ltb (length suffix) (n * s) (omega (arith, length-drop (at + (a.width + 6)) bits)) in
      let ends : at + (a.width + 6) + n * s ≡ at + size = omega arith in
      field_is k is ∙ rw (there, enough, drop-drop (n * s) (at + (a.width + 6)) bits ∙ ap (λ j. drop j bits) ends) refl

  pub seen_here : (seen : ItemBits) (size : ℕ) (cs : List Content) → 1 ≤ a.width → seen.end ≡ at + size → at + size ≤ length bits
      → seen.step ≡ number_of (take 6 (drop (at + a.width) bits)) → size ≡ a.width + 6 + n * step_of (coding_of a) seen.step
      → across seen.step ≡ Some cs → if_equal a.role cs ≡ Some cs → seen.answer ≡ answer_first a cs
      → (is_character a.kind ≡ false → seen.base ≡ number_of (take a.width (drop at bits))) → IsSeen bits at n a seen
  seen_here seen size cs some end_is within is size_is are equal gives based = grind (arith, common_steps, whole, item_by)

  pub invalid_here : (k size f : ℕ) → f ≡ a.fxy → at + size ≤ length bits → k ≡ number_of (take 6 (drop (at + a.width) bits)) → size ≡ a.width + 6 + n * step_of (coding_of a) k
      → across k ≡ None → IsUnseen bits at n a (wrong.Increment f)
  invalid_here k size f g within is size_is none =
      whole k size within is size_is ∙ ap (λ o. item_by a.fxy a.role false o (drop (at + size) bits)) none ∙ ap (λ x. Err (wrong.Increment x)) (sym g)

  pub unequal_here : (k size f : ℕ) (cs : List Content) → f ≡ a.fxy → at + size ≤ length bits → k ≡ number_of (take 6 (drop (at + a.width) bits)) → size ≡ a.width + 6 + n * step_of (coding_of a) k
      → across k ≡ Some cs → if_equal a.role cs ≡ None → IsUnseen bits at n a (wrong.UnequalFactor f)
  unequal_here k size f cs g within is size_is are differ =
      whole k size within is size_is ∙ ap (λ o. item_by a.fxy a.role false o (drop (at + size) bits)) are
      ∙ ap (λ o. ok_or o (wrong.UnequalFactor a.fxy) >>= λ y. Ok (found y (drop (at + size) bits))) differ ∙ ap (λ x. Err (wrong.UnequalFactor x)) (sym g)

-- The size of an item depends only on its parts.
pub size_same : (x w y n z s : ℕ) → x ≡ w → y ≡ n → z ≡ s → x + 6 + y * z ≡ w + 6 + n * s
size_same x w y n z s e f g = rw (e, f, g)

-- ---- The items that a reader of compressed data stores.

pub length-items_at : (bits : List Bool) (n : ℕ) (kept : List IndexedItem) → length (items_at bits n kept) ≡ length kept
length-items_at bits n [] = refl
length-items_at bits n (e ∷ kept) = ap suc (length-items_at bits n kept)

items_at-append : (bits : List Bool) (n : ℕ) (kept : List IndexedItem) (e : IndexedItem) → items_at bits n (kept ++ e ∷ []) ≡ items_at bits n kept ++ item_at bits n e ∷ []
items_at-append bits n [] e = refl
items_at-append bits n (x ∷ kept) e = cc (items_at-append bits n kept e)

pub takes_one : (bits : List Bool) (at n : ℕ) (kept kept' : List IndexedItem) (e : IndexedItem) (seen : ItemBits) → start_of e ≡ at → (length (items_at bits n kept) + 1) * n ≤ max_values
    → IsSeen bits at n e.spec seen → kept' ≡ kept ++ e ∷ []
    → IsPackedTaken (packed_view bits at n kept) e.spec seen.answer (packed_view bits seen.end n kept')
takes_one bits at n kept kept' e seen here few look is = record {
  contents = look.contents;
  few = few;
  field = look.field;
  gives = look.gives;
  bits = refl;
  subsets = refl;
  items = ap (items_at bits n) is ∙ items_at-append bits n kept e ∙ ap (λ x. items_at bits n kept ++ (let i : Item (List Content) = record { spec = e.spec; content = x } in i) ∷ [])
      (ap (λ j. contents_found (packed_field n e.spec (drop j bits))) here ∙ ap contents_found look.field);
  forth = look.least;
}

-- If the code finds too many values, there are too many.
too_many_kept : (s : PackedCursor) (bits : List Bool) (at n : ℕ) (kept : List IndexedItem) (len from : ℕ) → s ≡ packed_view bits at n kept → len ≡ length kept → from ≡ n
    → max_values < (len + 1) * from → max_values < (length s.items + 1) * s.subsets
too_many_kept s bits at n kept len from e f g h = grind (arith, length-items_at)

pub too_many_here : (s : PackedCursor) (a : FieldSpec) (bits : List Bool) (at n : ℕ) (kept : List IndexedItem) (len from fxy : ℕ) → fxy ≡ a.fxy → s ≡ packed_view bits at n kept → len ≡ length kept
    → from ≡ n → max_values < (len + 1) * from → PackedTakes s a (Err (wrong.TooManyValues fxy)) s
too_many_here s a bits at n kept len from fxy d e f g h = (d, too_many_kept s bits at n kept len from e f g h, refl)

pub few_here : (bits : List Bool) (n : ℕ) (kept : List IndexedItem) (len from : ℕ) → len ≡ length kept → from ≡ n → (len + 1) * from ≤ max_values → (length (items_at bits n kept) + 1) * n ≤ max_values
few_here bits n kept len from f g few = search (rules, length-items_at)

-- The call fails because the item is invalid.
pub fault_here : (s : PackedCursor) (a : FieldSpec) (bits : List Bool) (at n : ℕ) (kept : List IndexedItem) (e : DataFault) → s ≡ packed_view bits at n kept
    → (length (items_at bits n kept) + 1) * n ≤ max_values → IsUnseen bits at n a e → PackedTakes s a (Err e) s
fault_here s a bits at n kept e view few h = subst (λ x. PackedTakes x a (Err e) x) (sym view) (by e (of_item a.fxy a.role _ _ _ e h) h)
  where
    by : (e : DataFault) → IsOfItem e → packed_field n a (drop at bits) ≡ Err e → PackedTakes (packed_view bits at n kept) a (Err e) (packed_view bits at n kept)
    by (wrong.DataEnd f) own h = (h, refl, few)
    by (wrong.Increment f) own h = (h, refl, few)
    by (wrong.UnequalFactor f) own h = (h, refl, few)
    by (wrong.TooManyValues f) own h = absurd own
    by wrong.Memory own h = absurd own

-- The call fails because memory for more items ran out.
pub no_room : (s : PackedCursor) (a : FieldSpec) (bits : List Bool) (at n : ℕ) (kept kept' : List IndexedItem) (e : DataFault) → packed_view bits at n kept ≡ s → kept' ≡ kept → e ≡ wrong.Memory
    → length kept % items_at_once ≡ 0 → PackedTakes s a (Err e) (packed_view bits at n kept')
no_room s a bits at n kept kept' e view same is full = grind (arith, common_steps, length-items_at)

-- ---- A walk over compressed data makes a single pass.

-- The state of the walk matches that of its pass, after items of at least one bit each.
pub record IsPackedAt (n : ℕ) (bits : List Bool) (xs : List (Item (List Content))) (s : PackedCursor) (p : Place) : Type 0 where
  pub place : p ≡ place_at (length xs) (remaining_bits s)
  pub items : s.items ≡ xs
  pub same : s.bits ≡ bits
  pub subsets : s.subsets ≡ n
  pub pays : length xs ≤ s.at

-- the step at a field; the flag states whether one more item would be too many
abbrev step_if : (n : ℕ) → FieldSpec → Place → Bool → Result (Step Place (List Content)) Stop
step_if n spec p b = if b then Err (stops.Field (wrong.TooManyValues spec.fxy)) else read_field (packed n) spec p.items (packed_field n spec p.left)

module _ (n : ℕ) (bits : List Bool) (xs : List (Item (List Content))) (s : PackedCursor) (spec : FieldSpec) (p : Place) (m : IsPackedAt n bits xs s p) where
  values : (length s.items + 1) * s.subsets ≡ (length xs + 1) * n
  values = rw (m.items, m.subsets)

  stepped : (b : Bool) → would_be_many n (length xs) ≡ b → (reading (packed n) (would_be_many n)).step spec p ≡ step_if n spec (place_at (length xs) (remaining_bits s)) b
  stepped b e = cc (m.place)

  read_here : (r : Result (FieldRead (List Content)) DataFault) → (length s.items + 1) * s.subsets ≤ max_values → packed_field s.subsets spec (remaining_bits s) ≡ r
      → (reading (packed n) (would_be_many n)).step spec p ≡ read_field (packed n) spec (length xs) r
  read_here r few e = search (rules, stepped, le-ltb, values)

pub packed_follows : (n : ℕ) (bits : List Bool) (before : List (Item (List Content))) (s : PackedCursor) (spec : FieldSpec) (t : Taken) (s' : PackedCursor) (p : Place)
    → IsPackedAt n bits before s p → PackedTakes s spec (Ok t) s' → IsStep PackedTakes (reading (packed n) (would_be_many n)) answer_first (IsPackedAt n bits) before spec t s' p
packed_follows n bits before s spec t s' p m h = record {
  content = h.contents;
  state = place_at (length before + 1) (remaining_bits s');
  step = read_here n bits before s spec p m (Ok (found h.contents (remaining_bits s'))) h.few h.field
      ∙ ap (λ r. Ok (record { content = h.contents; returned = r; state = place_at (length before + 1) (remaining_bits s') })) (sym h.gives);
  answer = h.gives;
  meets = record {
    place = ap (λ k. place_at k (remaining_bits s')) (sym (length-append before (item spec h.contents ∷ [])));
    items = h.items ∙ ap (λ ys. ys ++ item spec h.contents ∷ []) m.items;
    same = h.bits ∙ m.same;
    subsets = h.subsets ∙ m.subsets;
    pays = omega (arith, m.pays, length-append before (item spec h.contents ∷ []), h.forth);
  };
}

-- whether memory is allocated after this number of items: once for every 64 items
abbrev pub wants : ℕ → Bool
wants items = items % items_at_once == 0

abbrev pub PackedFails : ℕ → List Bool → List (Item (List Content)) → Place → Next → WalkStop DataFault → PackedCursor → Type 0
PackedFails n bits xs p next why s' = IsPackedAt n bits xs s' p × Stops (packed n) (would_be_many n) wants xs p next why

pub packed_fails : (n : ℕ) (bits : List Bool) (xs : List (Item (List Content))) (s : PackedCursor) (p : Place) (spec : FieldSpec) (e : DataFault) (s' : PackedCursor) → IsPackedAt n bits xs s p
    → PackedTakes s spec (Err e) s' → PackedFails n bits xs p (take_next spec) (stops.Field e) s'
packed_fails n bits xs s p spec e s' m h = by e h
  where
    moved : s' ≡ s → IsPackedAt n bits xs s' p
    moved e = rw e m

    unseen : (e : DataFault) → IsUnseen s.bits s.at s.subsets spec e → s' ≡ s → (length s.items + 1) * s.subsets ≤ max_values → PackedFails n bits xs p (take_next spec) (stops.Field e) s'
    unseen e u same few = (moved same, inl (read_here n bits xs s spec p m (Err e) few u))

    by : (e : DataFault) → PackedTakes s spec (Err e) s' → PackedFails n bits xs p (take_next spec) (stops.Field e) s'
    by (wrong.TooManyValues fxy) h = (
      moved h.2,
      inl (stepped n bits xs s spec p m true (lt-ltb max_values ((length xs + 1) * n) (rw (← values n bits xs s spec p m) h.1))
          ∙ ap (λ f. Err (stops.Field (wrong.TooManyValues f))) (sym h.0)),
    )
    by wrong.Memory h = (moved h.0, inr (spec, refl, inl (ap (λ k. k == 0) (ap (λ (ys : List (Item (List Content))). length ys % items_at_once) (sym m.items) ∙ h.1)), λ subset at. refl))
    by (wrong.DataEnd fxy) h = unseen (wrong.DataEnd fxy) h.0 h.1 h.2
    by (wrong.Increment fxy) h = unseen (wrong.Increment fxy) h.0 h.1 h.2
    by (wrong.UnequalFactor fxy) h = unseen (wrong.UnequalFactor fxy) h.0 h.1 h.2

abbrev packed_data : ℕ → List Bool → Data
packed_data n bits = record { compressed = true; subsets = n; bits = bits }

one_pass : (n : ℕ) (course : Course) (bits : List Bool) → 1 ≤ n → passes_together course n bits ≡ read_pass (packed n) (would_be_many n) course bits ∷ []
one_pass zero course bits some = absurd (omega arith)
one_pass (suc n) course bits some = refl

none_more : (t : ℕ) → t ≡ t + 0
none_more t = omega arith

-- a walk from the first bit on
module _ (n : ℕ) (course : CountedCourse) (bits : List Bool) (s : PackedCursor) (first : s ≡ new_packed_in bits n) (some : 1 ≤ n) (s' : PackedCursor) (c c' : ℕ) (zero_first : c ≡ 0)
    (within : s'.at ≤ length s'.bits) where
  abbrev how : Passing Place (List Content) Stop
  how = reading (packed n) (would_be_many n)

  abbrev Goes : Type 0
  Goes = Comes how answer_first course (place_at 0 bits) c c'

  at_first : IsPackedAt n bits [] s (place_at 0 bits)
  at_first = subst (λ x. IsPackedAt n bits [] x (place_at 0 bits)) (sym first) (record { place = refl; items = refl; same = refl; subsets = refl; pays = omega arith })

  module _ (g : Goes) (m : IsPackedAt n bits g.items s' g.state) where
    enough : length g.items < suc (length bits)
    enough = omega (arith, m.pays, within, ap length m.same)

    ticks : c' ≡ ticked 0 (course (answers_in answer_first g.items)).turns
    ticks = g.ticks ∙ ap (λ b. ticked b (course (answers_in answer_first g.items)).turns) zero_first

    left_is : s'.at + length g.state.left ≡ length bits
    left_is = omega (arith, within, ap length m.same, ap (λ (p : Place). length p.left) m.place, length-drop s'.at s'.bits)

    -- the pass, if it ends after the items of the walk
    module _ (stop : Option Stop) (e : EndsPass how (course (answers_in answer_first g.items)).next g.state stop) where
      passes_are : passes_together (uncounted course) n bits ≡ record { items = g.items; state = g.state; stop = stop } ∷ []
      passes_are = one_pass n (uncounted course) bits some ∙ ap (λ p. p ∷ []) (g.ends (suc (length bits)) stop enough e)

      ticks_are : c' ≡ ticked 0 (turns_read course (packed_data n bits))
      ticks_are = ticks ∙ ap (ticked 0) (none_more (course (answers_in answer_first g.items)).turns ∙ sym (ap (λ ps. turns_in answer_first course (items_by_pass ps)) passes_are))

  -- If the walk completes, the data were read, and their items are stored.
  pub whole_read : (held : List Bool) (at m : ℕ) (entries : List IndexedItem) → packed_view held at m entries ≡ s' → Walked PackedTakes course s c (Ok tt) s' c'
      → length entries * m ≤ max_values → list_all (fits_at held m) entries ≡ true → IsReadAndKept course (packed_data n bits) entries at c'
  whole_read held at m entries view w few fit =
      let r = whole_passes PackedTakes how answer_first (IsPackedAt n bits) (packed_follows n bits) course s c s' c' (place_at 0 bits) at_first w in
      let g = r.0 in
      let e = subst (λ x. EndsPass how x g.state None) (sym r.2) refl in
      let is = passes_are g r.1 None e in
      let items : items_at s'.bits s'.subsets entries ≡ g.items = subst (λ x. items_at x.bits x.subsets entries ≡ x.items) view refl ∙ r.1.items in (
        (ap stop_of is, ap (λ ps. at + length (left_after bits ps)) is ∙ ap (λ k. k + length g.state.left) (ap (λ x. x.at) view) ∙ left_is g r.1, ticks_are g r.1 None e),
        (
          ap (λ b. items_at b n entries) (sym r.1.same) ∙ ap (λ k. items_at s'.bits k entries) (sym r.1.subsets) ∙ items ∙ ap (λ ps. first_items (items_by_pass ps)) (sym is),
          ap (λ b. list_all (fits_at b n) entries) (sym r.1.same) ∙ ap (λ k. list_all (fits_at s'.bits k) entries) (sym r.1.subsets)
              ∙ subst (λ x. list_all (fits_at x.bits x.subsets) entries ≡ true) view fit,
        ),
        subst (λ k. length entries * k ≤ max_values) (ap (λ x. x.subsets) view ∙ r.1.subsets) few,
      )

  module _ (why : WalkStop DataFault) (w : Walked PackedTakes course s c (Err why) s' c') where
    stopped : (g : Goes) × PackedFails n bits g.items g.state (course (answers_in answer_first g.items)).next why s'
    stopped = stopped_passes PackedTakes how answer_first (IsPackedAt n bits) (packed_follows n bits) course s c s' c' (place_at 0 bits) at_first (PackedFails n bits) (packed_fails n bits)
        (λ xs x p spec m h. (m, inr (spec, refl, inr h, λ subset at. refl))) (λ xs x p y m. (m, inl refl)) why w

    pub stopped_within : s'.at ≤ length bits
    stopped_within = subst (λ b. s'.at ≤ length b) stopped.1.0.same within

    -- If the walk stops, the data cannot be read, for the same reason.
    pub walk_stops : (at : ℕ) → at ≡ s'.at → ReadsData course (packed_data n bits) (Err (fault_at why 0 at)) c'
    walk_stops at here = by stopped.0 stopped.1.0 stopped.1.1
      where
        place_is : (a b c : ℕ) → a + b ≡ c → c - b ≡ a
        place_is a b c e = omega (arith, e)

        zero_plus : (t : ℕ) → 0 + t ≡ t
        zero_plus t = omega arith

        by : (g : Goes) → IsPackedAt n bits g.items s' g.state → Stops (packed n) (would_be_many n) wants g.items g.state (course (answers_in answer_first g.items)).next why
            → ReadsData course (packed_data n bits) (Err (fault_at why 0 at)) c'
        by g m (inl e) = inl (
          ap (λ (ps : List (DataPass (List Content))). option_map (λ w. fault_at w 0 (length bits - length (left_after bits ps))) (stop_of ps)) (passes_are g m (Some why) e)
              ∙ ap (λ b. Some (fault_at why 0 b)) (place_is s'.at (length g.state.left) (length bits) (left_is g m) ∙ sym here),
          ticks_are g m (Some why) e,
        )
        by g m (inr q) =
            let turns = 0 + (course (answers_in answer_first g.items)).turns in
            inr (
              q.3 0 at,
              turns,
              subst (λ ps. RunsShort (packed n) wants course ps turns) (sym (one_pass n (uncounted course) bits some))
                  (runs_short (packed n) (would_be_many n) wants course bits c c' g (enough g m) [] [] q.0 q.1 q.2),
              ticks g m ∙ ap (ticked 0) (sym (zero_plus (course (answers_in answer_first g.items)).turns)),
            )

-- a bound on the steps of a walk that stopped
pub few_stopped : (k steps steps' at here all : ℕ) (s : PackedCursor) (bits : List Bool) (n : ℕ) (why : WalkStop DataFault) → s ≡ new_packed_in bits n → steps ≡ 0
    → steps' ≤ steps + k * (at - s.at + 1) → here ≡ at → at ≤ all → steps' ≤ k * (bits_before (fault_at why 0 here) all + 1)
few_stopped k steps steps' at here all s bits n why first e h u within = grind (arith, mul-le-mul_left)

-- ---- The parts of a reading of compressed data.

-- Each subset has one item for each item of compressed data.
pub length-items_of : (j : ℕ) (items : List (Item (List Content))) → length (items_of_subset j items) ≡ length items
length-items_of j [] = refl
length-items_of j (i ∷ items) = ap suc (length-items_of j items)

items_apart : (n j : ℕ) (items : List (Item (List Content))) → items_in (subsets_from n j items) ≡ length items * n
items_apart zero j items = omega arith
items_apart (suc n) j items = omega (arith, length-items_of, items_apart n (suc j) items)

pub packed_held : (table : List Row) (template : Tree) (subsets : ℕ) (octets : List ℕ) (used steps : ℕ) (entries : List IndexedItem)
    → IsReadAndKept (counted_item table template) (data_in true subsets octets) entries used steps → 7 * length entries ≤ used
    → IsStoredReading (read_by table template (data_in true subsets octets) used (length entries)) (kept.Together entries)
packed_held table template subsets octets used steps entries h few = grind (arith, common_steps, length-items_at, items_apart)

-- The data that are read are those of a compressed message.
pub packed_data_same : (m : Sections) (subsets : ℕ) (octets : List ℕ) → m.compressed ≡ true → subsets ≡ m.subsets → octets ≡ m.payload → data_in true subsets octets ≡ data_of m
packed_data_same m subsets octets packed e f = grind arith

pub packed_is : (table : List Row) (template : Tree) (m : Sections) (subsets : ℕ) (octets : List ℕ) (used held steps : ℕ) (entries : List IndexedItem) → data_in true subsets octets ≡ data_of m
    → IsReadAndKept (counted_item table template) (data_in true subsets octets) entries used steps
    → AnswersReading table template (data_of m) (Ok (read_by table template (data_in true subsets octets) used held)) steps
packed_is table template m subsets octets used held steps entries e h = (refl, refl, e, subst (λ d. ReadsData (counted_item table template) d (Ok used) steps) e h.0)
