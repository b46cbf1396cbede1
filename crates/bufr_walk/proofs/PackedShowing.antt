-- Showing compressed data from the items that a reading has stored.
use Rattle.std.proofs.lemmas.Grind.{common_steps}
use Rattle.std.proofs.Common.{◌≡◌, ℕ, ◌+◌, ◌-◌, ◌*◌, ◌<◌, ◌≤◌, Bool, true, false, List, ◌++◌, length, take, drop, replicate, sym, ◌∙◌, ap, arith, zero, suc, get_or, set, length-take-le, Some, Result, Ok, Err, ◌∷◌, inl, inr, refl, subst, add-one, append_assoc, ◌/◌, [], rules}
use Rattle.std.proofs.lemmas.List.{drop-drop, drop_all, get_or-take, take_all, append-nil, take_more_set, replicate-append-replicate}
use Rattle.bufr_bits.specs.Prelude.{bits_of, are_all_ones}
use Rattle.bufr_tables.specs.Prelude.{entry_of, is_character, Row}
use Rattle.bufr_walk.specs.Prelude.{start_of, IndexedItem, PackedValues, packed_values, range_calls, packed_calls, IsPackedOf, content_at, item_at, item_call, view_of, octets_in, shown_text, shown_missing, shown, Content, FieldSpec, stored_content, stored_call, IsStoredReading, held_of, fits_at, items_at, ShowFault, Sofar, Call, Timed, timed, Shows, subset_call, Item, stored_count, Read, item_calls, turns_in, subset_calls, subsets_from, items_of_subset, without_turns, answers_in, answer_of}
use Rattle.bufr_walk.proofs.PackedLemmas.{base_content, kept_parts, padded_text, text_content, text_within}
use Rattle.bufr_walk.proofs.PlainLemmas.{bits_length, octets_prefix}
use Rattle.std.specs.List.{list_all}
use Rattle.std.proofs.Math.Seq.{drop-cons}
use Rattle.bufr_bits.proofs.DecimalLemmas.{and_first, and_second}
use Rattle.bufr_walk.proofs.ShownLemmas.{sofar_self, sofar_then, sofar_call}
use Rattle.bufr_walk.specs.declared.reading.StoredItems.{StoredItems}
use Rattle.bufr_walk.specs.Pass.{values_read, calls_of, turns_shown}
use Rattle.bufr_walk.specs.declared.fault.ShowFault.TheVariants as fault

-- ---- How the texts of a stored item are shown.

-- the text that is shown, or missing
pub missing_text : (spec : FieldSpec) (count k : ℕ) (bits : List Bool) → are_all_ones (take (8 * k) bits) ≡ true → shown_missing ≡ shown spec (padded_text count k (take (8 * k) bits))
missing_text spec count k bits e = rw e

pub whole_text : (spec : FieldSpec) (count k : ℕ) (bits : List Bool) (octets : List ℕ) → are_all_ones (take (8 * k) bits) ≡ false → octets ≡ octets_in k bits ++ replicate (count - k) 32
    → shown_text octets ≡ shown spec (padded_text count k (take (8 * k) bits))
whole_text spec count k bits octets e is = grind (arith, octets_prefix)

-- The text at this bit is the content of the subset.
pub span_text : (bits : List Bool) (n : ℕ) (e : IndexedItem) (j place : ℕ) → fits_at bits n e ≡ true → 1 ≤ e.step → j < n → is_character e.spec.kind ≡ true
    → place ≡ start_of e + (e.spec.width + 6) + j * (8 * e.step)
    → padded_text (e.spec.width / 8) e.step (take (8 * e.step) (drop place bits)) ≡ stored_content bits n e j
span_text bits n e j place h some below c is =
    ap (λ bs. padded_text (e.spec.width / 8) e.step (take (8 * e.step) bs)) (ap (λ p. drop p bits) is ∙ sym (drop-drop (j * (8 * e.step)) (start_of e + (e.spec.width + 6)) bits))
    ∙ text_content bits n e j h some below c

pub span_within : (octets : List ℕ) (n : ℕ) (e : IndexedItem) (j : ℕ) → fits_at (bits_of octets) n e ≡ true → 1 ≤ e.step → j < n → is_character e.spec.kind ≡ true
    → start_of e + (e.spec.width + 6) + (j + 1) * (8 * e.step) ≤ 8 * length octets
span_within octets n e j h some below c = omega (arith, text_within (bits_of octets) n e j h some below c, bits_length)

-- The base of a stored item is inside the data.
pub base_within : (octets : List ℕ) (n : ℕ) (e : IndexedItem) → fits_at (bits_of octets) n e ≡ true → start_of e + e.spec.width ≤ 8 * length octets
base_within octets n e h = let p = kept_parts (bits_of octets) n e h in omega (arith, p.within, bits_length)

-- ---- Successive calls that show compressed data.

module _ {S E : Type 0} (sees : S → Call → Result (Unit {0}) E → S → Type 0) where
  pub all_on : (s : S) (a b : List Timed) (s1 : S) (turns : ℕ) (r : Result (Unit {0}) (ShowFault E)) (s' : S) (steps : ℕ) → Shows sees s a 0 (Ok tt) s1 0 → Shows sees s1 b turns r s' steps
      → Shows sees s (a ++ b) turns r s' steps
  all_on s [] b s1 turns r s' steps h w = grind arith
  all_on s (t ∷ a) b s1 turns (Ok u) s' steps h w = (h.0, h.1, all_on h.0 a b s1 turns (Ok u) s' steps h.2 w)
  all_on s (t ∷ a) b s1 turns (Err e) s' steps h w = inr (h.0, h.1, all_on h.0 a b s1 turns (Err e) s' steps h.2 w)

  -- If the calls in `a` were made, those in `b` are next.
  pub sofar_all : (s s1 : S) (a b : List Timed) → Shows sees s a 0 (Ok tt) s1 0 → Sofar sees s (a ++ b) s1 b
  sofar_all s s1 a b h = record { on = λ turns r s' steps w. all_on s a b s1 turns r s' steps h w }

  -- If a call in `a` is refused, the calls in `b` are not made.
  pub shows_before : (s s1 : S) (a b : List Timed) (e : ShowFault E) → Shows sees s a 0 (Err e) s1 0 → Shows sees s (a ++ b) 0 (Err e) s1 0
  shows_before s s1 [] b e h = absurd h
  shows_before s s1 (t ∷ a) b e h = elim h as (λ _. Shows sees s (t ∷ a ++ b) 0 (Err e) s1 0) [ inl x ↦ inl x | inr y ↦ inr (y.0, y.1, shows_before y.0 s1 a b e y.2) ]

pub no_turns : (items : List (Item Content)) → (without_turns (answers_in answer_of items)).turns ≡ 0
no_turns items = omega arith

pub no_turns_in : (subsets : List (List (Item Content))) → turns_in answer_of without_turns subsets ≡ 0
no_turns_in [] = refl
no_turns_in (items ∷ subsets) = omega (arith, no_turns_in subsets)

-- The items from an index on are the item at the index and those after it.
next_entry : {X : Type 0} (xs : List X) (i : ℕ) (x : X) → i < length xs → get_or xs i x ≡ x → drop i xs ≡ x ∷ drop (i + 1) xs
next_entry xs i x h e = drop-cons xs i x h ∙ ap (λ y. y ∷ drop (suc i) xs) e ∙ ap (λ j. x ∷ drop j xs) (sym (add-one i))

-- the same for items before a second index
next_between : {X : Type 0} (xs : List X) (i to : ℕ) (x : X) → i < to → to ≤ length xs → x ≡ get_or xs i x → drop i (take to xs) ≡ x ∷ drop (i + 1) (take to xs)
next_between xs i to x below within e = next_entry (take to xs) i x (omega (arith, below, length-take-le to xs within)) (get_or-take to xs i x below ∙ sym e)

-- If all entries fit, so do those from an index on, and so does the entry at the index.
pub fit_from : (bits : List Bool) (n i : ℕ) (kept : List IndexedItem) → list_all (fits_at bits n) kept ≡ true → list_all (fits_at bits n) (drop i kept) ≡ true
fit_from bits n zero [] w = w
fit_from bits n zero (k ∷ kept) w = w
fit_from bits n (suc i) [] w = w
fit_from bits n (suc i) (k ∷ kept) w = fit_from bits n i kept (and_second (fits_at bits n k) (list_all (fits_at bits n) kept) w)

pub fit_here : (bits : List Bool) (n : ℕ) (kept : List IndexedItem) (i : ℕ) (k : IndexedItem) → i < length kept → k ≡ get_or kept i k → list_all (fits_at bits n) (drop i kept) ≡ true
    → fits_at bits n k ≡ true
fit_here bits n kept i k h e w = search (rules, and_first, next_entry)

-- There is an entry at each index, and its item is at the same index of the items.
pub item_there : (kept : List IndexedItem) (i : ℕ) → i < length kept → (k : IndexedItem) × (k ≡ get_or kept i k)
item_there [] i h = absurd (omega arith)
item_there (k ∷ kept) zero h = (k, refl)
item_there (k ∷ kept) (suc i) h = item_there kept i (omega arith)

pub item_of_entry : (bits : List Bool) (n : ℕ) (kept : List IndexedItem) (i : ℕ) (k : IndexedItem) → i < length kept → k ≡ get_or kept i k
    → item_at bits n k ≡ get_or (items_at bits n kept) i (item_at bits n k)
item_of_entry bits n [] i k h e = absurd (omega arith)
item_of_entry bits n (x ∷ kept) zero k h e = ap (item_at bits n) e
item_of_entry bits n (x ∷ kept) (suc i) k h e = item_of_entry bits n kept i k (omega arith) e

pub length-items_at : (bits : List Bool) (n : ℕ) (entries : List IndexedItem) → length entries ≡ length (items_at bits n entries)
length-items_at bits n [] = refl
length-items_at bits n (e ∷ entries) = ap suc (length-items_at bits n entries)

-- There is an entry for each item.
pub entry_there : (table : List Row) (bits : List Bool) (n : ℕ) (kept : List IndexedItem) (p : PackedValues) (i : ℕ) → packed_values table bits n kept ≡ p → i < length p.items → i < length kept
entry_there table bits n kept p i e h = omega (arith, length-items_at, ap (λ q. length q.items) e)

-- An item without increments is the same in all subsets.
pub alike_entry : (bits : List Bool) (n : ℕ) (kept : List IndexedItem) (i j : ℕ) (k : IndexedItem) → list_all (fits_at bits n) kept ≡ true → i < length kept → k ≡ get_or kept i k → k.step ≡ 0
    → j < n → items_of_subset j (drop i (take (i + 1) (items_at bits n kept))) ≡ items_of_subset 0 (drop i (take (i + 1) (items_at bits n kept)))
alike_entry bits n kept i j k fit h e none below =
    let items = items_at bits n kept in
    let fits : fits_at bits n k ≡ true = fit_here bits n kept i k h e (fit_from bits n i kept fit) in
    let long : i + 1 ≤ length items = omega (arith, h, length-items_at bits n kept) in
    let is : drop i (take (i + 1) items) ≡ item_at bits n k ∷ [] =
    cc (
      next_between items i (i + 1) (item_at bits n k) (omega arith) long (item_of_entry bits n kept i k h e),
      drop_all (i + 1) (take (i + 1) items) (omega (arith, length-take-le (i + 1) items long)),
    ) in
    let same : stored_content bits n k j ≡ stored_content bits n k 0 = base_content bits n k j fits none below ∙ sym (base_content bits n k 0 fits none (omega (arith, below))) in
    cc (is, same)

-- The row that is found for a descriptor has this descriptor.
pub entry_fxy : (rows : List Row) (fxy : ℕ) (row : Row) → Some row ≡ entry_of rows fxy → row.fxy ≡ fxy
entry_fxy [] fxy row e = absurd cc
entry_fxy (r ∷ rows) fxy row e = grind (arith, entry_fxy rows fxy row)

-- the spaces after a text: none, or one more
pub pad_none : (xs : List ℕ) (n : ℕ) → xs ≡ xs ++ replicate (n - n) 32
pad_none xs n = let none : 0 ≡ n - n = omega arith in cc (append-nil xs, none)

pub pad_more : (octets prefix : List ℕ) (place from : ℕ) → place < length octets → from ≤ place → take place octets ≡ prefix ++ replicate (place - from) 32
    → take (place + 1) (set octets place 32) ≡ prefix ++ replicate (place + 1 - from) 32
pad_more octets prefix place from h order e =
    let more : place - from + 1 ≡ place + 1 - from = omega arith in
    grind (arith, common_steps, take_more_set, append_assoc, replicate-append-replicate)

-- ---- Showing the subsets of compressed data.

module _ {S E : Type 0} (sees : S → Call → Result (Unit {0}) E → S → Type 0) (p : PackedValues) (j to : ℕ) where
  -- the call that shows an item in this subset
  abbrev pub call_of_item : Item (List Content) → Call
  call_of_item item = item_call (view_of p.table item.spec (content_at j item.content))

  -- The calls from an index on are the call for the item at the index and those from the next index
  -- on.
  next_calls : (i : ℕ) (item : Item (List Content)) → i < to → to ≤ length p.items → item ≡ get_or p.items i item → range_calls p j i to ≡ timed 0 (call_of_item item) ∷ range_calls p j (i + 1) to
  next_calls i item below within e = search (rules, next_between)

  -- One more item was shown.
  pub items_go : (s s1 s2 : S) (from i : ℕ) (item : Item (List Content)) → i < to → to ≤ length p.items → item ≡ get_or p.items i item
      → Sofar sees s (range_calls p j from to) s1 (range_calls p j i to)
      → sees s1 (call_of_item item) (Ok tt) s2 → Sofar sees s (range_calls p j from to) s2 (range_calls p j (i + 1) to)
  items_go s s1 s2 from i item below within e so call =
      let so_far : Sofar sees s (range_calls p j from to) s1 (timed 0 (call_of_item item) ∷ range_calls p j (i + 1) to) =
      subst (Sofar sees s (range_calls p j from to) s1) (next_calls i item below within e) so in
      sofar_then sees s s1 s2 _ _ _ so_far (sofar_call sees s1 s2 (timed 0 (call_of_item item)) (range_calls p j (i + 1) to) call)

  -- The visitor refused an item.
  pub items_end : (s s1 s2 : S) (from i : ℕ) (item : Item (List Content)) (f : E) → i < to → to ≤ length p.items → item ≡ get_or p.items i item
      → Sofar sees s (range_calls p j from to) s1 (range_calls p j i to) → sees s1 (call_of_item item) (Err f) s2 → Shows sees s (range_calls p j from to) 0 (Err (fault.Visitor f)) s2 0
  items_end s s1 s2 from i item f below within e so call = search (rules, next_calls)

-- the same for the items of stored entries
module _ {S E : Type 0} (sees : S → Call → Result (Unit {0}) E → S → Type 0) (table : List Row) (bits : List Bool) (n : ℕ) (kept : List IndexedItem) (p : PackedValues) (j to from i : ℕ)
    (s s1 s2 : S) where
  abbrev Goes : Result (Unit {0}) E → PackedValues → Type 0
  Goes (Ok x) q = Sofar sees s (range_calls q j from to) s2 (range_calls q j (i + 1) to)
  Goes (Err f) q = Shows sees s (range_calls q j from to) 0 (Err (fault.Visitor f)) s2 0

  pub entry_goes : (r : Result (Unit {0}) E) → packed_values table bits n kept ≡ p → i < to → to ≤ length p.items → Sofar sees s (range_calls p j from to) s1 (range_calls p j i to)
      → ((k : IndexedItem) → k ≡ get_or kept i k → sees s1 (stored_call table bits n k j) r s2) → Goes r p
  entry_goes r is below within so call = subst P is (λ w z. by r call w z) within so
    where
      P : PackedValues → Type 0
      P q = to ≤ length q.items → Sofar sees s (range_calls q j from to) s1 (range_calls q j i to) → Goes r q

      there : (k : IndexedItem) × (k ≡ get_or kept i k)
      there = item_there kept i (entry_there table bits n kept p i is (omega (arith, below, within)))

      at : item_at bits n there.0 ≡ get_or (items_at bits n kept) i (item_at bits n there.0)
      at = item_of_entry bits n kept i there.0 (entry_there table bits n kept p i is (omega (arith, below, within))) there.1

      by : (r : Result (Unit {0}) E) → ((k : IndexedItem) → k ≡ get_or kept i k → sees s1 (stored_call table bits n k j) r s2) → to ≤ length (items_at bits n kept)
          → Sofar sees s (range_calls (packed_values table bits n kept) j from to) s1 (range_calls (packed_values table bits n kept) j i to) → Goes r (packed_values table bits n kept)
      by (Ok x) call w z = items_go sees (packed_values table bits n kept) j to s s1 s2 from i (item_at bits n there.0) below w at z (call there.0 there.1)
      by (Err f) call w z = items_end sees (packed_values table bits n kept) j to s s1 s2 from i (item_at bits n there.0) f below w at z (call there.0 there.1)

-- The calls for all items of a subset are those from index 0 to the last index.
pub range_of_all : (p : PackedValues) (j : ℕ) → range_calls p j 0 (length p.items) ≡ item_calls p.table 0 without_turns (items_of_subset j p.items)
range_of_all p j = search (rules, take_all)

module _ {S E : Type 0} (sees : S → Call → Result (Unit {0}) E → S → Type 0) (p : PackedValues) where
  -- the calls for one subset
  abbrev pub subset_at : ℕ → List Timed
  subset_at j = timed 0 (subset_call (j + 1)) ∷ range_calls p j 0 (length p.items)

  -- the calls for the next `left` subsets, from subset `j` on
  abbrev calls_on : (left j number : ℕ) → List Timed
  calls_on left j number = subset_calls p.table without_turns 0 number (subsets_from left j p.items)

  -- the calls for all subsets from `j` on
  abbrev pub subsets_left : ℕ → List Timed
  subsets_left j = calls_on (p.subsets - j) j (j + 1)

  pub subsets_start : (s : S) → Sofar sees s (packed_calls p) s (subsets_left 0)
  subsets_start s = search (rules, sofar_self)

  next_subset : (j : ℕ) → j < p.subsets → subsets_left j ≡ subset_at j ++ subsets_left (j + 1)
  next_subset j h = search (rules, range_of_all)

  -- One more subset was shown.
  pub subsets_go : (s s1 s2 : S) (j : ℕ) → j < p.subsets → Sofar sees s (packed_calls p) s1 (subsets_left j) → Shows sees s1 (subset_at j) 0 (Ok tt) s2 0
      → Sofar sees s (packed_calls p) s2 (subsets_left (j + 1))
  subsets_go s s1 s2 j h so shows =
      let so_far : Sofar sees s (packed_calls p) s1 (subset_at j ++ subsets_left (j + 1)) = subst (Sofar sees s (packed_calls p) s1) (next_subset j h) so in
      search (rules, sofar_then, sofar_all)

  pub subsets_end : (s s1 s2 : S) (j : ℕ) (e : ShowFault E) → j < p.subsets → Sofar sees s (packed_calls p) s1 (subsets_left j) → Shows sees s1 (subset_at j) 0 (Err e) s2 0
      → Shows sees s (packed_calls p) 0 (Err e) s2 0
  subsets_end s s1 s2 j e h so shows =
      let so_far : Sofar sees s (packed_calls p) s1 (subset_at j ++ subsets_left (j + 1)) = grind (arith, next_subset) in
      grind (arith, common_steps, shows_before)

  pub subsets_done : (s s1 : S) (j : ℕ) → p.subsets ≤ j → Sofar sees s (packed_calls p) s1 (subsets_left j) → Shows sees s (packed_calls p) 0 (Ok tt) s1 0
  subsets_done s s1 j h so = grind arith

-- ---- What a reading stores, as its users see it.

-- If compressed data were shown from the stored items, the reading was shown.
pub packed_shown : {V E : Type 0} (sees : V → Call → Result (Unit {0}) E → V → Type 0) (p : PackedValues) (r : Read) (v v' : V) (result : Result (Unit {0}) (ShowFault E)) (steps : ℕ) → IsPackedOf p r
    → steps ≡ 0 → Shows sees v (packed_calls p) 0 result v' 0 → Shows sees v (calls_of r) (turns_shown r) result v' steps
packed_shown sees p r v v' result steps h are shows = grind (arith, no_turns_in, h.values)

-- All items of compressed data are stored, and none of plain data.
pub all_kept : (r : Read) (k : StoredItems) → IsStoredReading r k → held_of k ≡ stored_count (values_read r)
all_kept r k h = search (rules, length-items_at)
