-- Stored entries, and where the subsets among them begin and end.
use Rattle.std.proofs.lemmas.Grind.{common_steps}
use Rattle.std.proofs.Common.{◌≡◌, ℕ, zero, suc, ◌+◌, ◌-◌, ◌≤◌, ◌<◌, Bool, List, [], ◌∷◌, ◌++◌, true, false, length, drop, get_or, min, Option, Some, None, refl, sym, ◌∙◌, ap, arith, add-one, length-append, ◌/◌, Result, Ok, Err, slice_get, ◌==◌, slice_range, IfSome, rules}
use Rattle.std.proofs.Math.Seq.{drop-cons, drop-append_seam}
use Rattle.std.proofs.lemmas.List.{map-append, take_all, drop_all}
use Rattle.std.proofs.lemmas.Option.{none-some, slice_get-get_or, slice_get_within, get_or_from_slice_get}
use Rattle.bufr_fill.specs.Prelude.{ValueKind, Taken, Draft, DraftEntry, Holds, Ends, Subset, subset, prepend_to_subset, subsets_of, ItemFault, DraftFault, at_line, item_too_many, RowCell, cells_at, map_err, entry_or_end, ends_of, entry_content, is_end, value_by, entry_with, entries_stored, AreOctetsInside, IsEntryInside, AreInside, octets_stored, line_at, PlainOutModel, plain_out_model, IsFilled, IsFaultOf, IfDraftFault, after_end, FieldContent, content_of, padded_content}
use Rattle.bufr_fill.specs.declared.draft.StoredEntry.{StoredEntry}
use Rattle.bufr_walk.specs.Prelude.{FieldSpec, Content, answer_of, bits_for}
use Rattle.bufr_fill.specs.declared.fault.DraftFault.TheVariants as draft_fault

-- the index at which the entries of a subset begin, given the indices of the ends
abbrev pub begin_of : (from : ℕ) → List ℕ → (subset : ℕ) → ℕ
begin_of from ends zero = from
begin_of from [] (suc subset) = from
begin_of from (e ∷ ends) (suc subset) = begin_of (suc e) ends subset

-- the line of an entry
abbrev pub entry_line : DraftEntry → ℕ
entry_line (Holds d) = d.line
entry_line (Ends line) = line

-- The entries begin with a subset that ends at index `e`.
pub record Cut (from : ℕ) (xs : List DraftEntry) (e : ℕ) (rest : List ℕ) : Type 0 where
  pub items : List Draft
  pub line : ℕ
  pub index : e ≡ from + length items
  pub subsets : subsets_of xs ≡ subset items line ∷ subsets_of (drop (suc (length items)) xs)
  pub rest_is : rest ≡ ends_of (suc e) (drop (suc (length items)) xs)
  pub within : length items < length xs
  pub there : (j : ℕ) → slice_get xs (min (length items) j) ≡ Some (entry_or_end (slice_get items j) line)

next : (a : ℕ) → a + 1 ≡ suc a
next a = omega arith

pub cut : (from : ℕ) (xs : List DraftEntry) (e : ℕ) (rest : List ℕ) → ends_of from xs ≡ e ∷ rest → Cut from xs e rest
cut from [] e rest h = absurd cc
cut from (Ends line ∷ more) e rest h =
    let at : from ≡ e = cc in
    let suffix : ends_of (from + 1) more ≡ rest = cc in
    record {
      items = [];
      line = line;
      index = omega (arith, at);
      subsets = refl;
      rest_is = sym suffix ∙ ap (λ n. ends_of n more) (next from ∙ ap suc at);
      within = omega arith;
      there = λ j. first j;
    }
  where
    first : (j : ℕ) → slice_get (Ends line ∷ more) (min 0 j) ≡ Some (Ends line)
    first j = let m : min 0 j ≡ 0 = omega arith in ap (slice_get (Ends line ∷ more)) m
cut from (Holds d ∷ more) e rest h =
    let c = cut (from + 1) more e rest h in
    record {
      items = d ∷ c.items;
      line = c.line;
      index = omega (arith, c.index);
      subsets = ap (prepend_to_subset d) c.subsets;
      rest_is = c.rest_is;
      within = omega (arith, c.within);
      there = λ j. at c.items c.line c.there j;
    }
  where
    at : (items : List Draft) (line : ℕ) → ((j : ℕ) → slice_get more (min (length items) j) ≡ Some (entry_or_end (slice_get items j) line)) → (j : ℕ)
        → slice_get (Holds d ∷ more) (min (suc (length items)) j) ≡ Some (entry_or_end (slice_get (d ∷ items) j) line)
    at items line g zero = let m : min (suc (length items)) 0 ≡ 0 = omega arith in ap (slice_get (Holds d ∷ more)) m
    at items line g (suc j) = let m : min (suc (length items)) (suc j) ≡ suc (min (length items) j) = omega arith in ap (slice_get (Holds d ∷ more)) m ∙ g j

-- Each end is the index of an entry.
pub ends_before : (from : ℕ) (xs : List DraftEntry) (s e : ℕ) → slice_get (ends_of from xs) s ≡ Some e → e < from + length xs
ends_before from [] s e h = absurd cc
ends_before from (Holds d ∷ more) s e h = omega (arith, ends_before (from + 1) more s e h)
ends_before from (Ends line ∷ more) zero e h = let at : from ≡ e = cc in omega (arith, at)
ends_before from (Ends line ∷ more) (suc s) e h = omega (arith, ends_before (from + 1) more s e h)

slice_get-drop : {X : Type 0} (n : ℕ) (xs : List X) (k : ℕ) → slice_get (drop n xs) k ≡ slice_get xs (n + k)
slice_get-drop zero [] k = refl
slice_get-drop zero (x ∷ xs) k = let e : k ≡ 0 + k = omega arith in ap (slice_get (x ∷ xs)) e
slice_get-drop (suc n) [] k = refl
slice_get-drop (suc n) (x ∷ xs) k = let e : suc n + k ≡ suc (n + k) = omega arith in cc (slice_get-drop n xs k)

-- A subset begins after the end of the previous one.
begin_after : (from : ℕ) (ends : List ℕ) (s : ℕ) (d : ℕ) → s < length ends → begin_of from ends (suc s) ≡ suc (get_or ends s d)
begin_after from [] s d h = absurd (omega arith)
begin_after from (e ∷ ends) zero d h = refl
begin_after from (e ∷ ends) (suc s) d h = begin_after (suc e) ends s d (omega arith)

pub begin_more : (ends : List ℕ) (s : ℕ) (d : ℕ) → 1 ≤ s → s < length ends → begin_of 0 ends s ≡ get_or ends (s - 1) d + 1
begin_more ends s d some h = grind (arith, begin_after)

pub length-prepended : (d : Draft) (ss : List Subset) → length (prepend_to_subset d ss) ≡ length ss
length-prepended d [] = refl
length-prepended d (s ∷ ss) = refl

pub length-subsets : (from : ℕ) (xs : List DraftEntry) → length (subsets_of xs) ≡ length (ends_of from xs)
length-subsets from [] = refl
length-subsets from (Ends line ∷ more) = ap suc (length-subsets (from + 1) more)
length-subsets from (Holds d ∷ more) = length-prepended d (subsets_of more) ∙ length-subsets (from + 1) more

-- At this index of the subset, the entries have its item or its end.
pub record IsSubsetEnd (index s from : ℕ) (xs : List DraftEntry) (ends : List ℕ) (e : ℕ) (c : RowCell) : Type 0 where
  pub begins : from ≤ begin_of from ends s
  pub ends_at : from ≤ e
  pub there : slice_get xs (min e (begin_of from ends s + index) - from) ≡ Some (entry_or_end c.draft c.end_line)

module _ (index : ℕ) (e : ℕ) (c : RowCell) where
  some_same : (a b : RowCell) → ◌≡◌ {A = Option RowCell} (Some a) (Some b) → a ≡ b
  some_same a b e = cc

  at_first : (from : ℕ) (xs : List DraftEntry) (x : ℕ) (rest : List ℕ) → Cut from xs x rest → Some x ≡ Some e → slice_get (cells_at index (subsets_of xs)) 0 ≡ Some c
      → IsSubsetEnd index 0 from xs (x ∷ rest) e c
  at_first from xs x rest k p q =
      let same : x ≡ e = cc in
      let m : min e (from + index) - from ≡ min (length k.items) index = omega (arith, same, k.index) in
      grind arith

  further : (from : ℕ) (xs : List DraftEntry) (s x : ℕ) (rest : List ℕ) (k : Cut from xs x rest) → IsSubsetEnd index s (suc x) (drop (suc (length k.items)) xs) rest e c
      → IsSubsetEnd index (suc s) from xs (x ∷ rest) e c
  further from xs s x rest k r =
      let m : suc (length k.items) + (min e (begin_of (suc x) rest s + index) - suc x) ≡ min e (begin_of (suc x) rest s + index) - from = omega (arith, k.index, r.begins, r.ends_at) in
      record {
        begins = omega (arith, k.index, r.begins);
        ends_at = omega (arith, k.index, r.ends_at);
        there = ap (slice_get xs) (sym m) ∙ sym (slice_get-drop (suc (length k.items)) xs (min e (begin_of (suc x) rest s + index) - suc x)) ∙ r.there;
      }

  subset_end_at : (s from : ℕ) (xs : List DraftEntry) (ends : List ℕ) → ends_of from xs ≡ ends → slice_get ends s ≡ Some e → slice_get (cells_at index (subsets_of xs)) s ≡ Some c
      → IsSubsetEnd index s from xs ends e c
  subset_end_at s from xs [] p q r = absurd cc
  subset_end_at zero from xs (x ∷ rest) p q r = at_first from xs x rest (cut from xs x rest p) q r
  subset_end_at (suc s) from xs (x ∷ rest) p q r =
      let k = cut from xs x rest p in
      further from xs s x rest k (subset_end_at s (suc x) (drop (suc (length k.items)) xs) rest (sym k.rest_is) q (sym (ap (λ ss. slice_get (cells_at index ss) (suc s)) k.subsets) ∙ r))

-- The entry that the code reads is the item of the subset at this index, or its end.
pub entry_there : (index s : ℕ) (xs : List DraftEntry) (e : ℕ) (c : RowCell) → slice_get (ends_of 0 xs) s ≡ Some e → slice_get (cells_at index (subsets_of xs)) s ≡ Some c
    → slice_get xs (min e (begin_of 0 (ends_of 0 xs) s + index)) ≡ Some (entry_or_end c.draft c.end_line)
entry_there index s xs e c h g =
    let m : min e (begin_of 0 (ends_of 0 xs) s + index) - 0 ≡ min e (begin_of 0 (ends_of 0 xs) s + index) = omega arith in
    cc (m, (subset_end_at index e c s 0 xs (ends_of 0 xs) refl h g).there)

-- the same for an end that the code reads
pub end_small : (from : ℕ) (xs : List DraftEntry) (s : ℕ) (z : ℕ) → s < length (ends_of from xs) → get_or (ends_of from xs) s z < from + length xs
end_small from [] s z h = absurd (omega arith)
end_small from (Holds d ∷ more) s z h = omega (arith, end_small (from + 1) more s z h)
end_small from (Ends line ∷ more) zero z h = omega arith
end_small from (Ends line ∷ more) (suc s) z h = omega (arith, end_small (from + 1) more s z (omega arith))

-- If the code finds nothing at an index, the list is not longer than the index.
pub none_there : {X : Type 0} (xs : List X) (s : ℕ) → None ≡ slice_get xs s → length xs ≤ s
none_there [] s h = omega arith
none_there (y ∷ xs) zero h = absurd (none-some y h)
none_there (y ∷ xs) (suc s) h = omega (arith, none_there xs s h)

-- If there are no ends, there are no subsets.
pub none_end : (xs : List DraftEntry) → ends_of 0 xs ≡ [] → subsets_of xs ≡ []
none_end xs e = by (subsets_of xs) (length-subsets 0 xs ∙ ap length e)
  where
    by : (ss : List Subset) → length ss ≡ 0 → ss ≡ []
    by [] h = refl
    by (s ∷ ss) h = absurd (omega arith)

pub length-cells : (index : ℕ) (ss : List Subset) → length (cells_at index ss) ≡ length ss
length-cells index [] = refl
length-cells index (s ∷ ss) = ap suc (length-cells index ss)

pub count_cells : (index : ℕ) (xs : List DraftEntry) (ends : List ℕ) → ends ≡ ends_of 0 xs → length (cells_at index (subsets_of xs)) ≡ length ends
count_cells index xs ends e = length-cells index (subsets_of xs) ∙ length-subsets 0 xs ∙ ap length (sym e)

pub end_within : (xs : List DraftEntry) (ends : List ℕ) (s : ℕ) → ends ≡ ends_of 0 xs → s < length ends → get_or ends s 0 < length xs
end_within xs ends s e h = omega (arith, ap (λ l. get_or l s 0) e, end_small 0 xs s 0 (omega (arith, ap length e)))

-- The entry that the code finds is the one in the cell of the subset.
pub found_entry : (index s : ℕ) (xs : List DraftEntry) (ends : List ℕ) (z : ℕ) (begin : ℕ) (e : DraftEntry) → ends ≡ ends_of 0 xs → s < length ends → begin ≡ begin_of 0 ends s
    → slice_get xs (min (get_or ends s z) (begin + index)) ≡ Some e
    → (c : RowCell) → slice_get (cells_at index (subsets_of xs)) s ≡ Some c → e ≡ entry_or_end c.draft c.end_line
found_entry index s xs ends z begin e is h b found c cell = search (rules, slice_get-get_or, entry_there)

pub ends_few : (from : ℕ) (xs : List DraftEntry) → length (ends_of from xs) ≤ length xs
ends_few from [] = omega arith
ends_few from (Holds d ∷ more) = omega (arith, ends_few (from + 1) more)
ends_few from (Ends line ∷ more) = omega (arith, ends_few (from + 1) more)

pub empty_is : (xs : List ℕ) (n : ℕ) → n ≡ length xs → (n == 0) ≡ true → xs ≡ []
empty_is [] n e h = refl
empty_is (x ∷ xs) n e h = grind arith

-- ---- Entries that are stored with their octets in a block.

-- Octets that are appended to the block do not change the entries.
range-after : (xs ys : List ℕ) (j : ℕ) → j ≡ length xs + length ys → slice_range (xs ++ ys) (length xs) j ≡ ys
range-after xs ys j e = rw (drop-append_seam xs ys) (take_all (j - length xs) ys (omega arith))

value-append : (k : ValueKind) (octets more : List ℕ) (start end : ℕ) → AreOctetsInside k (length octets) start end
    → value_by k start (slice_range (octets ++ more) start end) ≡ value_by k start (slice_range octets start end)
value-append k octets more start end h = grind (arith, common_steps)

entry-append : (octets more : List ℕ) (one : StoredEntry) → IsEntryInside (length octets) one
    → entry_with one (slice_range (octets ++ more) one.start one.end) ≡ entry_with one (slice_range octets one.start one.end)
entry-append octets more one inside = search (rules, value-append)

entries-append : (octets more : List ℕ) (cells : List StoredEntry) → AreInside (length octets) cells → entries_stored (octets ++ more) cells ≡ entries_stored octets cells
entries-append octets more [] all = refl
entries-append octets more (one ∷ cells) (here, all) = rw (entry-append octets more one here, entries-append octets more cells all) refl

-- One more entry was stored, and its octets were appended to the block.
pub entries-push : (octets more new : List ℕ) (cells kept : List StoredEntry) (one : StoredEntry) (e : DraftEntry) → AreInside (length octets) cells → new ≡ octets ++ more → kept ≡ cells ++ one ∷ []
    → one.start ≡ length octets → one.end ≡ length new → entry_with one more ≡ e
    → entries_stored new kept ≡ entries_stored octets cells ++ e ∷ []
entries-push octets more new cells kept one e all is grown from at said = search (rules, length-append, range-after, map-append, entries-append)

-- Octets that are inside a block are inside a larger one, too.
inside-greater : (n n' : ℕ) (k : Option ValueKind) (start end : ℕ) → n ≤ n' → IfSome k (λ k. AreOctetsInside k n start end) → IfSome k (λ k. AreOctetsInside k n' start end)
inside-greater n n' k start end more h = grind arith

inside-push : (n n' : ℕ) (cells : List StoredEntry) (one : StoredEntry) → n ≤ n' → AreInside n cells → IsEntryInside n' one → AreInside n' (cells ++ one ∷ [])
inside-push n n' [] one more all last = (last, tt)
inside-push n n' (cell ∷ cells) one more (here, all) last = (inside-greater n n' cell.kind cell.start cell.end more here, inside-push n n' cells one more all last)

-- After one more entry is stored, the octets of all entries are still inside the block, which has
-- no others.
pub stored-push : (n n' : ℕ) (cells kept : List StoredEntry) (one : StoredEntry) → AreInside n cells → n ≡ octets_stored cells → kept ≡ cells ++ one ∷ [] → n' ≡ n + (one.end - one.start)
    → IsEntryInside n' one
    → AreInside n' kept × (n' ≡ octets_stored kept)
stored-push n n' cells kept one all stored is more last = grind (arith, common_steps, inside-push)

-- one more entry, without octets
pub entries-more : (octets : List ℕ) (cells kept : List StoredEntry) (one : StoredEntry) (e : DraftEntry) → kept ≡ cells ++ one ∷ [] → entry_with one (slice_range octets one.start one.end) ≡ e
    → entries_stored octets kept ≡ entries_stored octets cells ++ e ∷ []
entries-more octets cells kept one e is said = rw (is, map-append, said)

pub length-entries : (octets : List ℕ) (cells : List StoredEntry) → length (entries_stored octets cells) ≡ length cells
length-entries octets [] = refl
length-entries octets (one ∷ cells) = ap suc (length-entries octets cells)

-- one more item leaves the ends unchanged
ends_before_item : (from : ℕ) (xs : List DraftEntry) (d : Draft) → ends_of from (xs ++ Holds d ∷ []) ≡ ends_of from xs
ends_before_item from [] d = refl
ends_before_item from (Holds x ∷ xs) d = ends_before_item (from + 1) xs d
ends_before_item from (Ends line ∷ xs) d = ap (λ l. from ∷ l) (ends_before_item (from + 1) xs d)

pub ends_after_item : (xs ys : List DraftEntry) (ends : List ℕ) (d : Draft) → ends ≡ ends_of 0 xs → ys ≡ xs ++ Holds d ∷ [] → ends ≡ ends_of 0 ys
ends_after_item xs ys ends d before is = simp (before, ends_before_item, is)

-- one more end is the last of the ends
ends_before_end : (from : ℕ) (xs : List DraftEntry) (line n : ℕ) → n ≡ from + length xs → ends_of from (xs ++ Ends line ∷ []) ≡ ends_of from xs ++ n ∷ []
ends_before_end from [] line n e = grind arith
ends_before_end from (Holds x ∷ xs) line n e = ends_before_end (from + 1) xs line n (omega arith)
ends_before_end from (Ends end ∷ xs) line n e = ap (λ l. from ∷ l) (ends_before_end (from + 1) xs line n (omega arith))

pub ends_after_end : (xs ys : List DraftEntry) (ends new : List ℕ) (line n : ℕ) → ends ≡ ends_of 0 xs → ys ≡ xs ++ Ends line ∷ [] → n ≡ length xs → new ≡ ends ++ n ∷ [] → new ≡ ends_of 0 ys
ends_after_end xs ys ends new line n before is count grown = cc (grown, ends_before_end 0 xs line n (omega arith))

-- The line of an entry is the stored one.
pub line-is : (k : StoredEntry) (octets : List ℕ) → entry_line (entry_with k octets) ≡ k.line
line-is k octets = grind arith

-- It is also the line of entries that begin with this entry.
pub line-with : (k : StoredEntry) (octets : List ℕ) (more : List DraftEntry) → line_at (entry_with k octets ∷ more) ≡ k.line
line-with k octets more = grind arith

-- ---- One item that the code writes, in plain data.

-- The entries from an index on are the entry at the index and those after it.
pub next_there : (entries : List DraftEntry) (index : ℕ) (e : DraftEntry) → slice_get entries index ≡ Some e → drop index entries ≡ e ∷ drop (index + 1) entries
next_there entries index e here = cc (drop-cons entries index e (slice_get_within entries index e here), get_or_from_slice_get entries index e e here, add-one index)

pub filled_here : (entries : List DraftEntry) (index : ℕ) (e : DraftEntry) (spec : FieldSpec) (d : FieldContent) (t : Taken) (old new : List Bool) (s : PlainOutModel)
    → plain_out_model (drop index entries) old ≡ s → slice_get entries index ≡ Some e
    → Ok (padded_content (spec.width / 8) d) ≡ entry_content spec e → t ≡ answer_of spec (padded_content (spec.width / 8) d)
    → new ≡ old ++ bits_for spec.width (padded_content (spec.width / 8) d) → length old < length new
    → IsFilled s spec t (plain_out_model (drop (index + 1) entries) new)
filled_here entries index (Ends line) spec d t old new s view here said gives bits forth = absurd cc
filled_here entries index (Holds item) spec d t old new s view here said gives bits forth =
    rw (← view) (record {
      draft = item;
      content = padded_content (spec.width / 8) d;
      here = next_there entries index (Holds item) here;
      is = by (content_of spec item) said;
      gives = gives;
      bits = bits;
      forth = forth;
    })
  where
    by : {c : Content} (r : Result Content ItemFault) → ◌≡◌ {A = Result Content DraftFault} (Ok c) (map_err (at_line item.line) r) → r ≡ Ok c
    by (Ok x) h = cc
    by (Err why) h = absurd cc

-- If the code finds an entry, it is the first of the writer's remaining entries.
pub left_there : (entries : List DraftEntry) (index : ℕ) (old : List Bool) (s : PlainOutModel) (e : DraftEntry) → plain_out_model (drop index entries) old ≡ s → Some e ≡ slice_get entries index
    → s.left ≡ e ∷ drop (index + 1) entries
left_there entries index old s e view here = grind (arith, next_there)

pub left_none : (entries : List DraftEntry) (index : ℕ) (old : List Bool) (s : PlainOutModel) → plain_out_model (drop index entries) old ≡ s → None ≡ slice_get entries index → s.left ≡ []
left_none entries index old s view here = cc (view, drop_all index entries (none_there entries index here))

-- The fault of the next entry is the one that is defined.
pub item_fault : (spec : FieldSpec) (more : List DraftEntry) (fault : DraftFault) (e : DraftEntry) → Err fault ≡ entry_content spec e
    → IfDraftFault fault (IsFaultOf spec (e ∷ more))
item_fault spec more draft_fault.Memory e is = tt
item_fault spec more (draft_fault.Item line fault) (Ends end) is = cc
item_fault spec more (draft_fault.Item line fault) (Holds d) is = by (content_of spec d) refl is
  where
    by : (r : Result Content ItemFault) → content_of spec d ≡ r → Err (at_line line fault) ≡ map_err (at_line d.line) r
        → (why : ItemFault) × (content_of spec d ≡ Err why) × (at_line line fault ≡ at_line d.line why)
    by (Ok c) e h = absurd cc
    by (Err why) e h = (why, e, cc)

-- The end of the subset is next.
pub end_next : (entries : List DraftEntry) (index : ℕ) (old : List Bool) (s : PlainOutModel) (e : DraftEntry) → plain_out_model (drop index entries) old ≡ s → Some e ≡ slice_get entries index
    → is_end e ≡ true → after_end s.left ≡ Ok (drop (index + 1) entries)
end_next entries index old s (Ends line) view here is = ap after_end (left_there entries index old s (Ends line) view here)
end_next entries index old s (Holds d) view here is = absurd cc

-- An item is next, or there are no more entries.
pub item_next : (entries : List DraftEntry) (index : ℕ) (old : List Bool) (s : PlainOutModel) (e : DraftEntry) → plain_out_model (drop index entries) old ≡ s → Some e ≡ slice_get entries index
    → is_end e ≡ false → after_end s.left ≡ Err (at_line (line_at s.left) item_too_many)
item_next entries index old s (Ends line) view here is = absurd cc
item_next entries index old s (Holds d) view here is =
    let left = left_there entries index old s (Holds d) view here in
    ap after_end left ∙ ap (λ l. Err (at_line (line_at l) item_too_many)) (sym left)

pub none_next : (entries : List DraftEntry) (index : ℕ) (old : List Bool) (s : PlainOutModel) → plain_out_model (drop index entries) old ≡ s → None ≡ slice_get entries index
    → after_end s.left ≡ Err (at_line (line_at s.left) item_too_many)
none_next entries index old s view here =
    let left = left_none entries index old s view here in
    ap after_end left ∙ ap (λ l. Err (at_line (line_at l) item_too_many)) (sym left)
