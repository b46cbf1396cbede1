-- A walk over the items of all subsets writes or refuses them as defined.
use Rattle.std.proofs.lemmas.Grind.{common_steps}
use Rattle.std.proofs.Common.{◌≡◌, ℕ, zero, suc, ◌+◌, ◌-◌, ◌<◌, Bool, List, [], ◌∷◌, ◌++◌, length, Option, Some, None, Result, Ok, Err, refl, sym, ◌∙◌, ap, subst, arith, ◌≤◌, max, slice_get, if◌then◌else◌}
use Rattle.std.proofs.lemmas.List.{append-nil}
use Rattle.bufr_walk.specs.Prelude.{FieldSpec, Content, Course, Next, take_next, at_end, astray, refused, TakenField, Takes, oks, answers_of, would_be_many}
use Rattle.bufr_walk.specs.Pass.{EndsPass}
use Rattle.bufr_fill.specs.Prelude.{packing_fault, Taken, Draft, Subset, DraftFault, at_line, too_many_values, item_too_many, walk_refused, WrittenItem, written_item, bits_of_pass, WritesDrafts, filling, Filler, item_row, cells_at, rows, most_items, item_content, row_contents, pack_across, packed_filler, ◌>>=◌, ItemRow, first_item_line, packed_data, packing, PackedOutModel, IsPacked, PackedFills, rows_left, new_packed_out, and_end, all_at_end, IsFaultHere}
use Rattle.bufr_fill.proofs.WalkLemmas.{HasFilled, walk_writes, walk_ends}
use Rattle.bufr_fill.proofs.EntryLemmas.{length-cells}
use Rattle.std.specs.Option.{option_map_or}
use Rattle.std.specs.Result.{result_map_both}

written_bits : (a b : WrittenItem (List Content)) → ◌≡◌ {A = Result (WrittenItem (List Content)) DraftFault} (Ok a) (Ok b) → a.bits ≡ b.bits
written_bits a b e = grind arith

-- If there are no subsets, nothing is written.
none_written : (spec : FieldSpec) (index : ℕ) (cs : List Content) (item : List Bool) → pack_across spec (item_row index []) ≡ Ok (written_item cs item) → item ≡ []
none_written spec index cs item e = grind arith

pub some_there : {X : Type 0} (xs : List X) (k : ℕ) (x : X) → slice_get xs k ≡ Some x → k < length xs
some_there [] k x e = absurd cc
some_there (y ∷ xs) zero x e = omega arith
some_there (y ∷ xs) (suc k) x e = omega (arith, some_there xs k x e)

-- An item that was written has an item in the first subset.
first_has_index : (spec : FieldSpec) (index : ℕ) (s : Subset) (ss : List Subset) (w : WrittenItem (List Content)) → pack_across spec (item_row index (s ∷ ss)) ≡ Ok w → index < length s.items
first_has_index spec index s ss w e = grind (arith, common_steps, some_there)

pub within : (s s' : PackedOutModel) (spec : FieldSpec) (t : Taken) → IsPacked s spec t s' → s.index < most_items s.subsets
within s s' spec t h = by s.subsets refl
  where
    by : (ss : List Subset) → s.subsets ≡ ss → s.index < most_items s.subsets
    by [] e =
        let none : h.put.item ≡ [] = none_written spec s.index h.put.contents h.put.item (ap (λ ss. pack_across spec (item_row s.index ss)) (sym e) ∙ h.put.is) in
        absurd (omega (arith, h.put.forth, ap length (h.put.bits ∙ ap (λ b. s.bits ++ b) none ∙ append-nil s.bits)))
    by (x ∷ ss) e =
        let there = first_has_index spec s.index x ss (written_item h.put.contents h.put.item) (ap (λ ss. pack_across spec (item_row s.index ss)) (sym e) ∙ h.put.is) in
        omega (arith, there, ap most_items e)

pub row_first : (n index : ℕ) (ss : List Subset) → index < n → rows (n - index) index ss ≡ item_row index ss ∷ rows (n - (index + 1)) (index + 1) ss
row_first n index ss h = let e : n - index ≡ suc (n - (index + 1)) = omega (arith, h) in ap (λ k. rows k index ss) e

-- The walk has the same subsets, and is not past the end of the longest one.
pub record Stays (first s : PackedOutModel) : Type 0 where
  pub subsets : s.subsets ≡ first.subsets
  pub within : s.index ≤ max first.index (most_items s.subsets)

pub walk_of_rows : (end : ℕ) (many : Bool) (course : Course) (s : PackedOutModel) (walked : List TakenField) (s' : PackedOutModel) → Takes (oks PackedFills) course s walked s'
    → Stays s s' × WritesDrafts (packed_filler end many) course walked s.bits s'.bits (rows_left s) (rows_left s')
walk_of_rows end many course first walked last h =
    walk_writes (packed_filler end many) rows_left (λ (p : PackedOutModel). p.bits) PackedFills (Stays first) fills first course walked last (record { subsets = refl; within = omega arith }) h
  where
    fills : (s : PackedOutModel) (spec : FieldSpec) (t : Taken) (s' : PackedOutModel) → PackedFills s spec (Ok t) s' → Stays first s
        → HasFilled (packed_filler end many) (rows_left s) s.bits spec t (rows_left s') s'.bits × Stays first s'
    fills s spec t s' h k =
        let near = within s s' spec t h in (
          record {
            draft = item_row s.index s.subsets;
            item = written_item h.put.contents h.put.item;
            here = row_first (most_items s.subsets) s.index s.subsets near ∙ ap (λ k. item_row s.index s.subsets ∷ rows (most_items s.subsets - k) k s.subsets) (sym h.index)
                ∙ ap (λ ss. item_row s.index s.subsets ∷ rows (most_items ss - s'.index) s'.index ss) (sym h.subsets);
            fills = h.put.is;
            gives = h.put.gives;
            bits = h.put.bits;
          },
          record { subsets = h.subsets ∙ k.subsets; within = omega (arith, near, h.index, ap most_items h.subsets) },
        )

-- ---- If a walk over the items of all subsets stops, its fault is that of the data.

-- ---- Indices.

none_past : (items : List Draft) (index : ℕ) → length items ≤ index → slice_get items index ≡ None
none_past [] index h = refl
none_past (x ∷ items) zero h = absurd (omega arith)
none_past (x ∷ items) (suc index) h = none_past items index (omega arith)

past_none : (items : List Draft) (index : ℕ) → slice_get items index ≡ None → length items ≤ index
past_none [] index e = omega arith
past_none (x ∷ items) zero e = absurd cc e
past_none (x ∷ items) (suc index) e = omega (arith, past_none items index e)

no_row : (index : ℕ) (ss : List Subset) → most_items ss ≤ index → rows (most_items ss - index) index ss ≡ []
no_row index ss h = grind arith

-- If all subsets end at an index, none is longer.
ends_past : (index : ℕ) (ss : List Subset) → all_at_end (cells_at index ss) ≡ Ok tt → most_items ss ≤ index
ends_past index [] e = omega arith
ends_past index (s ∷ ss) e = by (slice_get s.items index) refl e (λ e. ends_past index ss e)
  where
    by : (o : Option Draft) → slice_get s.items index ≡ o → and_end o (all_at_end (cells_at index ss)) ≡ Ok tt → (all_at_end (cells_at index ss) ≡ Ok tt → most_items ss ≤ index)
        → max (length s.items) (most_items ss) ≤ index
    by None is e g = omega (arith, past_none)
    by (Some d) is e g = absurd cc e

-- If an item is left over, the index is inside the longest subset, and the fault is on the line of
-- this item.
ends_before : (index : ℕ) (ss : List Subset) (f : DraftFault) → all_at_end (cells_at index ss) ≡ Err f → (index < most_items ss) × (f ≡ at_line (first_item_line (cells_at index ss)) item_too_many)
ends_before index [] f e = absurd cc e
ends_before index (s ∷ ss) f e = by (slice_get s.items index) refl e (λ e. ends_before index ss f e)
  where
    by : (o : Option Draft) → slice_get s.items index ≡ o → and_end o (all_at_end (cells_at index ss)) ≡ Err f
        → (all_at_end (cells_at index ss) ≡ Err f → (index < most_items ss) × (f ≡ at_line (first_item_line (cells_at index ss)) item_too_many))
        → (index < most_items (s ∷ ss)) × (f ≡ at_line (first_item_line (cells_at index (s ∷ ss))) item_too_many)
    by None is e g = let r = g e in (omega (arith, r.0), r.1 ∙ ap (λ o. at_line (option_map_or (λ (d : Draft). d.line) o (first_item_line (cells_at index ss))) item_too_many) (sym is))
    by (Some d) is e g = let same : at_line d.line item_too_many ≡ f =
        cc in (omega (arith, some_there), sym same ∙ ap (λ o. at_line (option_map_or (λ (d : Draft). d.line) o (first_item_line (cells_at index ss))) item_too_many) (sym is))

-- ---- The walk.

module _ (s : Subset) (more : List Subset) where
  abbrev pub filler : Filler ItemRow (List Content) DraftFault
  filler = packed_filler s.end_line (would_be_many (length (s ∷ more)) (most_items (s ∷ more)))

  past : (spec : FieldSpec) (index : ℕ) (f : DraftFault) (many many' : Bool) (o : Option Draft) → many ≡ many' → o ≡ None
      → (if many then Err (at_line (option_map_or (λ (d : Draft). d.line) o s.end_line) (too_many_values spec.fxy)) else
      ((item_content spec o s.end_line >>= λ first. row_contents spec (cells_at index more) >>= λ rest. Ok (first ∷ rest))
      >>= λ cs. result_map_both (written_item cs) (packing_fault cs (cells_at index (s ∷ more)))
      (packing spec cs))) ≡ Err f
      → (packed_filler s.end_line many').none_left spec ≡ f
  past spec index f many many' o a b p = grind arith

  -- The fault that comes next is that of the rows from an index on.
  stops_at : (next : Next) (index : ℕ) (bits : List Bool) (f : DraftFault) → index ≤ most_items (s ∷ more) → IsFaultHere next (record { subsets = s ∷ more; index = index; bits = bits }) f
      → (left : ℕ) → most_items (s ∷ more) - index ≡ left → EndsPass (filling filler) next (rows left index (s ∷ more)) (Some f)
  stops_at (refused why) index bits f near h zero l =
      ap Some h ∙ ap (λ o. Some (at_line (option_map_or (λ (d : Draft). d.line) o s.end_line) (walk_refused why))) (none_past s.items index (omega (arith, l, near)))
  stops_at (refused why) index bits f near h (suc k) l = ap Some h
  stops_at (take_next spec) index bits f near h zero l =
      let at : index ≡ most_items (s ∷ more) = omega (arith, l, near) in
      ap Err
      (past spec index f (would_be_many (length (cells_at index (s ∷ more))) index) (would_be_many (length (s ∷ more)) (most_items (s ∷ more))) (slice_get s.items index)
      (ap (λ n. would_be_many n index) (length-cells index (s ∷ more)) ∙ ap (λ x. would_be_many (length (s ∷ more)) x) at) (none_past s.items index (omega (arith, l, near))) h)
  stops_at (take_next spec) index bits f near h (suc k) l = ap (λ r. r >>= λ w. Ok (record { content = w; returned = filler.gives spec w.content; state = rows k (index + 1) (s ∷ more) })) h
  stops_at at_end index bits f near h zero l = absurd (omega (arith, (ends_before index (s ∷ more) f h).0, l))
  stops_at at_end index bits f near h (suc k) l = ap Some (ends_before index (s ∷ more) f h).1
  stops_at astray index bits f near h left l = absurd h

  -- If a walk over the rows of all subsets stops, its fault is the one that is defined.
  pub stops_across : (next : Next) (mid : PackedOutModel) (f : DraftFault) → Stays (new_packed_out (s ∷ more)) mid → IsFaultHere next mid f → EndsPass (filling filler) next (rows_left mid) (Some f)
  stops_across next mid f k h =
      subst (λ ss. IsFaultHere next (record { subsets = ss; index = mid.index; bits = mid.bits }) f → EndsPass (filling filler) next (rows (most_items ss - mid.index) mid.index ss) (Some f))
      (sym k.subsets)
      (λ h. stops_at next mid.index mid.bits f (omega (arith, k.within, ap most_items k.subsets)) h (most_items (s ∷ more) - mid.index) refl) h

  -- If the walk ends and no item is left over, the pass ends, too.
  pub ends_across : (mid : PackedOutModel) → all_at_end (cells_at mid.index mid.subsets) ≡ Ok tt → EndsPass (filling filler) at_end (rows_left mid) None
  ends_across mid h = simp (no_row, ends_past)

  module _ (course : Course) (walked : List TakenField) (mid : PackedOutModel) (h : Takes (oks PackedFills) course (new_packed_out (s ∷ more)) walked mid) where
    -- where the walk is, and what it has written
    pub came : Stays (new_packed_out (s ∷ more)) mid × WritesDrafts filler course walked [] mid.bits (rows (most_items (s ∷ more)) 0 (s ∷ more)) (rows_left mid)
    came =
        let w = walk_of_rows s.end_line (would_be_many (length (s ∷ more)) (most_items (s ∷ more))) course (new_packed_out (s ∷ more)) walked mid h in
        let e : most_items (s ∷ more) - 0 ≡ most_items (s ∷ more) = omega arith in
        (w.0, subst (λ k. WritesDrafts filler course walked [] mid.bits (rows k 0 (s ∷ more)) (rows_left mid)) e w.1)

pub fault_as_defined : (course : Course) (subsets : List Subset) (walked : List TakenField) (mid : PackedOutModel) (f : DraftFault) → 1 ≤ length subsets
    → Takes (oks PackedFills) course (new_packed_out subsets) walked mid → IsFaultHere (course (answers_of walked)) mid f → packed_data course subsets ≡ Err f
fault_as_defined course [] walked mid f some h x = absurd (omega (arith, some))
fault_as_defined course (s ∷ more) walked mid f some h x =
    let c = came s more course walked mid h in
    ap bits_of_pass (walk_ends (filler s more) course walked [] mid.bits (rows (most_items (s ∷ more)) 0 (s ∷ more)) (rows_left mid) (Some f) c.1
    (stops_across s more (course (answers_of walked)) mid f c.0 x))

pub written_as_defined : (course : Course) (subsets : List Subset) (walked : List TakenField) (mid : PackedOutModel) → 1 ≤ length subsets
    → Takes (oks PackedFills) course (new_packed_out subsets) walked mid → course (answers_of walked) ≡ at_end → all_at_end (cells_at mid.index mid.subsets) ≡ Ok tt
    → packed_data course subsets ≡ Ok mid.bits
written_as_defined course [] walked mid some h e x = absurd (omega (arith, some))
written_as_defined course (s ∷ more) walked mid some h e x =
    let c = came s more course walked mid h in
    ap bits_of_pass (walk_ends (filler s more) course walked [] mid.bits (rows (most_items (s ∷ more)) 0 (s ∷ more)) (rows_left mid) None c.1
    (subst (λ n. EndsPass (filling (filler s more)) n (rows_left mid) None) (sym e) (ends_across s more mid x)))
    ∙ ap Ok (sym c.1.bits)
