-- Entries that are copied so that those of a row are together.
use Rattle.std.proofs.Common.{◌≡◌, ℕ, zero, suc, ◌+◌, ◌*◌, ◌<◌, ◌≤◌, false, List, length, slice_set, refl, sym, ◌∙◌, ap, arith, Option, Some, None, ◌⊎◌, inl, inr, slice_get, subst}
use Rattle.std.proofs.Math.Nat.{mul-le-mul_right}
use Rattle.std.proofs.lemmas.Option.{slice_get_within, slice_get-get_or, get_or_from_slice_get}
use Rattle.std.proofs.lemmas.List.{get_or-set_other, get_or-set_same, length-set}
use Rattle.bufr_fill.specs.Prelude.{DraftEntry, RowCell, cells_at, subsets_of, entry_with, entry_by, entry_or_end, has_octets, has_octets_of_kind, ValueKind, AreTransposed}
use Rattle.bufr_fill.specs.declared.draft.StoredEntry.{StoredEntry}
use Rattle.bufr_fill.specs.declared.draft.ValueKind.TheVariants as kind
use Rattle.std.specs.Option.{option_map_or}

-- If the copy has no octets, it equals the entry of the subset in this row.
abbrev pub IsCopy : List DraftEntry → (row s : ℕ) → StoredEntry → Type 0
IsCopy entries row s e = (c : RowCell) → slice_get (cells_at row (subsets_of entries)) s ≡ Some c → has_octets e ≡ false
    → (octets : List ℕ) → entry_with e octets ≡ entry_or_end c.draft c.end_line

-- The entries of the subsets before `subset` were copied, and those of this subset in the rows before
-- `ahead`.
abbrev pub AreTransposedTo : List DraftEntry → (from count subset ahead : ℕ) → List StoredEntry → Type 0
AreTransposedTo entries from count subset ahead transposed = (k s : ℕ) (e : StoredEntry) → k < 8 → (s < subset) ⊎ ((s ≡ subset) × (k < ahead))
    → slice_get transposed (k * count + s) ≡ Some e → IsCopy entries (from + k) s e

-- An entry without octets is the same with any octets.
by_kind : (k : Option ValueKind) (line fxy digits : ℕ) (one other : List ℕ) → option_map_or has_octets_of_kind k false ≡ false
    → entry_by k line fxy digits one ≡ entry_by k line fxy digits other
by_kind None line fxy digits one other h = refl
by_kind (Some (kind.Decimal places negative)) line fxy digits one other h = refl
by_kind (Some kind.Missing) line fxy digits one other h = refl
by_kind (Some kind.Number) line fxy digits one other h = absurd cc
by_kind (Some kind.Text) line fxy digits one other h = absurd cc
by_kind (Some kind.Reference) line fxy digits one other h = absurd cc

pub is_copy : (entries : List DraftEntry) (row s : ℕ) (e : StoredEntry) (octets : List ℕ)
    → ((c : RowCell) → slice_get (cells_at row (subsets_of entries)) s ≡ Some c → entry_with e octets ≡ entry_or_end c.draft c.end_line) → IsCopy entries row s e
is_copy entries row s e octets found c there none any = by_kind e.kind e.line e.fxy e.start any octets none ∙ found c there

le_or_lt : (a b : ℕ) → (a ≤ b) ⊎ (b < a)
le_or_lt zero b = inl (omega arith)
le_or_lt (suc a) zero = inr (omega arith)
le_or_lt (suc a) (suc b) = by (le_or_lt a b)
  where
    by : (a ≤ b) ⊎ (b < a) → (suc a ≤ suc b) ⊎ (suc b < suc a)
    by (inl h) = inl (omega (arith, h))
    by (inr h) = inr (omega (arith, h))

-- Entries of different subsets are copied to different places.
other_place : (count k s ahead subset : ℕ) → s < subset → subset < count → k * count + s ≡ ahead * count + subset → ⊥
other_place count k s ahead subset h within e = by (le_or_lt k ahead)
  where
    by : (k ≤ ahead) ⊎ (ahead < k) → ⊥
    by (inl below) = omega (arith, mul-le-mul_right {n = ahead} count below, h, e)
    by (inr above) = omega (arith, mul-le-mul_right {m = ahead + 1} {n = k} count (omega (arith, above)), h, within, e)

-- Entries of different rows are copied to different places.
other_row : (count k ahead subset : ℕ) → k < ahead → subset < count → k * count + subset ≡ ahead * count + subset → ⊥
other_row count k ahead subset h within e = omega (arith, mul-le-mul_right {m = k + 1} {n = ahead} count (omega (arith, h)), within, e)

module _ (entries : List DraftEntry) (from count subset ahead : ℕ) (transposed : List StoredEntry) (entry : StoredEntry) (within : subset < count) (room : ahead * count + subset < length transposed)
    (before : AreTransposedTo entries from count subset ahead transposed) (now : IsCopy entries (from + ahead) subset entry) where
  -- A place that was not written has the same entry as before.
  unwritten : (i : ℕ) (e : StoredEntry) → (i ≡ ahead * count + subset → ⊥) → slice_get (slice_set transposed (ahead * count + subset) entry) i ≡ Some e → slice_get transposed i ≡ Some e
  unwritten i e apart there =
      let changed = slice_set transposed (ahead * count + subset) entry in
      let inside : i < length transposed = omega (arith, slice_get_within changed i e there, length-set transposed (ahead * count + subset) entry) in
      slice_get-get_or transposed i entry inside ∙ ap Some (sym (get_or-set_other transposed (ahead * count + subset) i entry entry apart) ∙ get_or_from_slice_get changed i e entry there)

  written : (e : StoredEntry) → slice_get (slice_set transposed (ahead * count + subset) entry) (ahead * count + subset) ≡ Some e → e ≡ entry
  written e there =
      sym (get_or_from_slice_get (slice_set transposed (ahead * count + subset) entry) (ahead * count + subset) e entry there)
      ∙ get_or-set_same transposed (ahead * count + subset) entry entry room

  pub transpose_more : AreTransposedTo entries from count subset (ahead + 1) (slice_set transposed (ahead * count + subset) entry)
  transpose_more k s e few (inl earlier) there = before k s e few (inl earlier) (unwritten (k * count + s) e (other_place count k s ahead subset earlier within) there)
  transpose_more k s e few (inr (at, next)) there = by (le_or_lt ahead k)
    where
      by : (ahead ≤ k) ⊎ (k < ahead) → IsCopy entries (from + k) s e
      by (inr earlier) =
          before k s e few (inr (at, earlier))
          (unwritten (k * count + s) e (λ same. other_row count k ahead subset earlier within (ap (λ n. k * count + n) (sym at) ∙ same)) there)
      by (inl same) =
          let row : k ≡ ahead = omega (arith, same, next) in
          let place : ahead * count + subset ≡ k * count + s = ap (λ n. n * count + subset) (sym row) ∙ ap (λ n. k * count + n) (sym at) in
          let is : e ≡ entry = written e (ap (slice_get (slice_set transposed (ahead * count + subset) entry)) place ∙ there) in
          subst (λ n. IsCopy entries (from + n) s e) (sym row) (subst (λ n. IsCopy entries (from + ahead) n e) (sym at) (subst (IsCopy entries (from + ahead) subset) (sym is) now))

row_within : (rows count k s : ℕ) → k * count + s < rows * count → k < rows
row_within rows count k s h = by (le_or_lt rows k)
  where
    by : (rows ≤ k) ⊎ (k < rows) → k < rows
    by (inl past) = absurd (omega (arith, mul-le-mul_right {m = rows} {n = k} count past, h))
    by (inr below) = below

-- After the last row of a subset, the next subset follows.
pub next_subset : (entries : List DraftEntry) (from count subset ahead rows : ℕ) (copies : List StoredEntry) → length copies ≡ rows * count → rows ≤ ahead
    → AreTransposedTo entries from count subset ahead copies → AreTransposedTo entries from count (subset + 1) 0 copies
next_subset entries from count subset ahead rows copies size past before k s e few (inr (at, none)) there = absurd (omega (arith, none))
next_subset entries from count subset ahead rows copies size past before k s e few (inl earlier) there = by (le_or_lt subset s)
  where
    by : (subset ≤ s) ⊎ (s < subset) → IsCopy entries (from + k) s e
    by (inr h) = before k s e few (inl h) there
    by (inl h) =
        let within : k < rows = row_within rows count k s (omega (arith, slice_get_within copies (k * count + s) e there, size)) in
        before k s e few (inr (omega (arith, h, earlier), omega (arith, within, past))) there

-- After the last subset, all entries were copied.
pub transposed : (entries : List DraftEntry) (from count subset : ℕ) (copies : List StoredEntry) → ((row : ℕ) → length (cells_at row (subsets_of entries)) ≡ count) → count ≤ subset
    → AreTransposedTo entries from count subset 0 copies → AreTransposed entries from count copies
transposed entries from count subset copies many all done ahead s e c few there cell =
    done ahead s e few (inl (omega (arith, slice_get_within (cells_at (from + ahead) (subsets_of entries)) s c cell, many (from + ahead), all))) there c cell
