-- How the code reads and packs one item of all subsets.
use Rattle.std.proofs.lemmas.Grind.{common_steps}
use Rattle.std.proofs.Common.{◌≡◌, ℕ, zero, suc, ◌+◌, ◌-◌, ◌*◌, ◌/◌, ◌%◌, ◌<◌, ◌≤◌, ◌&&◌, max, Bool, true, false, List, [], ◌∷◌, ◌++◌, length, take, drop, get_or, replicate, refl, sym, ◌∙◌, ap, arith, add-one, append_assoc, ℤ, Option, Some, None, Result, Ok, Err, ◌⊎◌, inl, inr, if◌then◌else◌, slice_get, ◌==◌, rules}
use Rattle.std.proofs.lemmas.Bool.{eq-eqb, le-ltb, lt-ltb, ne_eqb}
use Rattle.std.proofs.Math.Bool.{and_assoc}
use Rattle.std.specs.List.{flat_map, list_all}
use Rattle.std.proofs.Math.Nat.{mul-le-mul_right}
use Rattle.std.proofs.Math.Seq.{drop-cons}
use Rattle.std.proofs.lemmas.List.{append-nil, take-replicate, length-append, drop_all}
use Rattle.bufr_bits.specs.Prelude.{bits_of}
use Rattle.std.specs.Str.{bytes_eq}
use Rattle.bufr_fill.specs.Prelude.{packing_fault, spaced, Taken, Role, FieldContent, padded_content, IsContentOf, raw_limit, AreContentsOf, padded_contents, need_of, most_need, FitsIncrement, AreShort, least_from, entry_or_end, entry_content, and_end, all_at_end, IsPutWithin, trimmed, same, first_from, packing, packed_bits, packed_over, packed_unlike, RowCell, item_content, row_contents, first_unlike, unlike_line, cell_line, first_line, ◌>>=◌, item_row, cells_at, pack_across, written_item, Draft, DraftEntry, Holds, Ends, Subset, DraftFault, at_line, item_too_many, too_many_values, IfDraftFault, is_end}
use Rattle.bufr_fill.specs.declared.fault.ItemFault.TheVariants as wrong
use Rattle.bufr_walk.specs.Prelude.{is_reference}
use Rattle.bufr_walk.specs.Prelude.{FieldSpec, Content, reference, answer_of, bits_for, answer_first, max_values}
use Rattle.bufr_fill.proofs.EntryLemmas.{entry_line}
use Rattle.bufr_fill.proofs.LeastLemmas.{octets_self, content_self}
use Rattle.std.specs.Option.{option_map_or}
use Rattle.std.specs.Result.{result_map_both}
use Rattle.bufr_fill.specs.declared.fault.DraftFault.TheVariants as draft_fault
use Rattle.bufr_walk.specs.declared.spec.Role.TheVariants as role

-- prepends contents to a result; a fault stays
abbrev pub with_contents_before : List Content → Result (List Content) DraftFault → Result (List Content) DraftFault
with_contents_before cs (Ok more) = Ok (cs ++ more)
with_contents_before cs (Err f) = Err f

-- The first `number` cells were converted.
pub record IsGathering (count : ℕ) (spec : FieldSpec) (cells : List RowCell) (number : ℕ) (contents : List FieldContent) : Type 0 where
  pub so : row_contents spec cells ≡ with_contents_before (padded_contents count contents) (row_contents spec (drop number cells))
  pub all : AreContentsOf spec contents
  pub many : length contents ≡ number

-- the line of the first remaining cell whose content is not that of the first cell
abbrev pub unlike_from : (all left : List Content) → List RowCell → ℕ
unlike_from [] left cells = 0
unlike_from (c ∷ cs) left cells = first_unlike c left cells

-- redefined references that are equal, and those that are not
pub same_references : (a b : ℤ) → a ≡ b → true ≡ same (reference a) (reference b)
same_references a b e = sym (ap (λ x. same (reference a) (reference x)) (sym e) ∙ content_self (reference a))

pub other_references : (a b : ℤ) → (a ≡ b → ⊥) → false ≡ same (reference a) (reference b)
other_references a b h = grind arith

-- The remaining items begin with the one at the index.
pub at_next : {X : Type 0} (xs : List X) (i : ℕ) (x : X) → i < length xs → x ≡ get_or xs i x → drop i xs ≡ x ∷ drop (i + 1) xs
at_next xs i x h e = cc (drop-cons xs i x h, add-one i)

-- The octets needed so far and those needed by the remaining contents determine those needed by
-- all.
pub need_more : (ds : List FieldContent) (i : ℕ) (d : FieldContent) (most one : ℕ) → i < length ds → d ≡ get_or ds i d → max most (most_need (drop i ds)) ≡ most_need ds → one ≡ need_of d
    → max (max one most) (most_need (drop (i + 1) ds)) ≡ most_need ds
need_more ds i d most one h e inv is = omega (arith, ap most_need (at_next ds i d h e), inv, is)

pub need_done : (ds : List FieldContent) (i most : ℕ) → 1 ≤ most → length ds ≤ i → max most (most_need (drop i ds)) ≡ most_need ds → most ≡ most_need ds
need_done ds i most some h inv = omega (arith, some, ap most_need (drop_all i ds h), inv)

-- If the first k passes, it is the result.
first_here : (p : ℕ → Bool) (fuel k : ℕ) → 1 ≤ fuel → p k ≡ true → first_from p fuel k ≡ k
first_here p zero k h e = absurd (omega arith)
first_here p (suc fuel) k h e = rw e

first_later : (p : ℕ → Bool) (fuel k : ℕ) → 1 ≤ fuel → p k ≡ false → first_from p fuel k ≡ first_from p (fuel - 1) (k + 1)
first_later p fuel k h e = grind arith

pub least_here : (m : Bool) (s k : ℕ) → k < 64 → s < raw_limit m k → least_from m s k ≡ k
unfolding least_from
least_here m s k h e = omega (arith, first_here, lt-ltb)

pub least_later : (m : Bool) (s k : ℕ) → k < 64 → raw_limit m k ≤ s → least_from m s k ≡ least_from m s (k + 1)
unfolding least_from
least_later m s k h e = grind arith

pub least_end : (m : Bool) (s k : ℕ) → 64 ≤ k → least_from m s k ≡ k
unfolding least_from
least_end m s k h = grind arith

-- A text has at most 255 octets.
pub eighth_most : (w : ℕ) → w ≤ 2040 → w / 8 ≤ 255
eighth_most w h = omega arith

-- Each of the contents is one that the field can have.
pub is_content_at : (spec : FieldSpec) (ds : List FieldContent) (i : ℕ) (d : FieldContent) → i < length ds → AreContentsOf spec ds → IsContentOf spec (get_or ds i d)
is_content_at spec [] i d h all = absurd (omega arith)
is_content_at spec (x ∷ ds) zero d h all = all.0
is_content_at spec (x ∷ ds) (suc i) d h all = is_content_at spec ds i d (omega arith) all.1

pub short_at : (base k : ℕ) (ds : List FieldContent) (i : ℕ) (d : FieldContent) → i < length ds → AreShort base k ds → FitsIncrement base k (get_or ds i d)
short_at base k [] i d h s = absurd (omega arith)
short_at base k (x ∷ ds) zero d h s = s.0
short_at base k (x ∷ ds) (suc i) d h s = short_at base k ds i d (omega arith) s.1

-- The contents from an index on are the content at the index and those after it.
pub at_index : {X : Type 0} (xs : List X) (i : ℕ) (z : X) → i < length xs → drop i xs ≡ get_or xs i z ∷ drop (i + 1) xs
at_index xs i z h = drop-cons xs i z h ∙ ap (λ j. get_or xs i z ∷ drop j xs) (sym (add-one i))

pub most_some : (ds : List FieldContent) → 1 ≤ most_need ds
most_some [] = omega arith
most_some (d ∷ ds) = omega (arith, most_some ds)

-- The bits of all contents are those of the first contents, followed by those of the others.
flat_one : (f : Content → List Bool) (old now new bits rest all : List Bool) → now ++ (bits ++ rest) ≡ old ++ all → new ≡ now ++ bits → new ++ rest ≡ old ++ all
flat_one f old now new bits rest all inv is = rw (is, append_assoc, inv)

pub flat_more : (f : Content → List Bool) (count : ℕ) (old now new : List Bool) (ds : List FieldContent) (i : ℕ) (z : FieldContent) → i < length ds
    → now ++ flat_map f (padded_contents count (drop i ds)) ≡ old ++ flat_map f (padded_contents count ds) → new ≡ now ++ f (padded_content count (get_or ds i z))
    → new ++ flat_map f (padded_contents count (drop (i + 1) ds)) ≡ old ++ flat_map f (padded_contents count ds)
flat_more f count old now new ds i z h inv is = grind (arith, common_steps, flat_one, at_index)

pub flat_done : (f : Content → List Bool) (count : ℕ) (old now : List Bool) (ds : List FieldContent) (i : ℕ) → length ds ≤ i
    → now ++ flat_map f (padded_contents count (drop i ds)) ≡ old ++ flat_map f (padded_contents count ds) → now ≡ old ++ flat_map f (padded_contents count ds)
flat_done f count old now ds i h inv = cc (append-nil now, drop_all i ds h)

-- If i of n k-bit numbers were written and there is room for the others, there is room for the next
-- one and for those after it.
pub room_next : (n i k room next : ℕ) → n * k ≤ room + i * k → room ≤ next + k → n * k ≤ next + (i + 1) * k
room_next n i k room next e h = omega (arith, e, h)

pub few_bits : (n k most : ℕ) → k ≤ most → n * k ≤ most * n
few_bits n k most h = omega (arith, mul-le-mul_right n h)

-- If the next content is the same, those after it decide whether all are.
pub alike_more : (count : ℕ) (c : Content) (ds : List FieldContent) (i : ℕ) (d : FieldContent) (b : Bool) → i < length ds → d ≡ get_or ds i d
    → list_all (same c) (padded_contents count ds) ≡ list_all (same c) (padded_contents count (drop i ds)) → same c (padded_content count d) ≡ true
    → list_all (same c) (padded_contents count ds) ≡ list_all (same c) (padded_contents count (drop (i + 1) ds))
alike_more count c ds i d b h e inv is = search (rules, at_next)

pub alike_not : (count : ℕ) (c : Content) (ds : List FieldContent) (i : ℕ) (d : FieldContent) → i < length ds → d ≡ get_or ds i d
    → list_all (same c) (padded_contents count ds) ≡ list_all (same c) (padded_contents count (drop i ds)) → same c (padded_content count d) ≡ false
    → list_all (same c) (padded_contents count ds) ≡ false
alike_not count c ds i d h e inv is = search (rules, at_next)

pub alike_done : (count : ℕ) (c : Content) (ds : List FieldContent) (i : ℕ) → length ds ≤ i → list_all (same c) (padded_contents count ds) ≡ list_all (same c) (padded_contents count (drop i ds))
    → list_all (same c) (padded_contents count ds) ≡ true
alike_done count c ds i h inv = rw (inv, drop_all)

-- Octets of 0 consist of zero bits.
zeros_are : (n : ℕ) → bits_of (replicate n 0) ≡ replicate (8 * n) false
unfolding bits_of
zeros_are zero = refl
zeros_are (suc n) =
    ap (λ bs. false ∷ false ∷ false ∷ false ∷ false ∷ false ∷ false ∷ false ∷ bs) (zeros_are n)
    ∙ (let q : suc (suc (suc (suc (suc (suc (suc (suc (8 * n)))))))) ≡ 8 * suc n = omega arith in ap (λ k. replicate k false) q)

pub zero_bits : (w : ℕ) → w ≤ 2040 → w % 8 ≡ 0 → bits_of (take (w / 8) (replicate 255 0)) ≡ replicate w false
zero_bits w most whole =
    let count : w / 8 ≤ 255 = omega arith in
    let e : 8 * (w / 8) ≡ w = omega arith in
    rw (take-replicate, zeros_are, e)

-- ---- Steps of the loops over a row.

-- the cell at index j
pub record CellAt (cells : List RowCell) (j : ℕ) : Type 0 where
  pub cell : RowCell
  pub is : slice_get cells j ≡ Some cell
  pub left : drop j cells ≡ cell ∷ drop (j + 1) cells

pub cell_at : (cells : List RowCell) (j : ℕ) → j < length cells → CellAt cells j
cell_at [] j h = absurd (omega arith)
cell_at (c ∷ cells) zero h = record { cell = c; is = refl; left = refl }
cell_at (c ∷ cells) (suc j) h =
    let r = cell_at cells j (omega arith) in
    let n : suc (j + 1) ≡ suc j + 1 = omega arith in
    record { cell = r.cell; is = r.is; left = r.left ∙ ap (λ k. r.cell ∷ drop k (c ∷ cells)) n }

-- An entry has the content of its cell.
entry_same : (spec : FieldSpec) (o : Option Draft) (line : ℕ) → entry_content spec (entry_or_end o line) ≡ item_content spec o line
entry_same spec None line = refl
entry_same spec (Some d) line = refl

pub line_same : (o : Option Draft) (line : ℕ) → entry_line (entry_or_end o line) ≡ option_map_or (λ (d : Draft). d.line) o line
line_same None line = refl
line_same (Some d) line = refl

contents_more : (count : ℕ) (ds : List FieldContent) (d : FieldContent) → padded_contents count (ds ++ d ∷ []) ≡ padded_contents count ds ++ padded_content count d ∷ []
contents_more count [] d = refl
contents_more count (x ∷ ds) d = cc (contents_more count ds d)

all_more : (spec : FieldSpec) (ds : List FieldContent) (d : FieldContent) → AreContentsOf spec ds → IsContentOf spec d → AreContentsOf spec (ds ++ d ∷ [])
all_more spec [] d h g = (g, tt)
all_more spec (x ∷ ds) d h g = (h.0, all_more spec ds d h.1 g)

contents_before_more : (cs : List Content) (x : Content) (r : Result (List Content) DraftFault) → with_contents_before cs (r >>= λ rest. Ok (x ∷ rest)) ≡ with_contents_before (cs ++ x ∷ []) r
contents_before_more cs x (Ok more) = ap Ok (sym (append_assoc cs (x ∷ []) more))
contents_before_more cs x (Err f) = refl

module _ (count : ℕ) (spec : FieldSpec) (cells : List RowCell) (j : ℕ) (ds : List FieldContent) (e : DraftEntry) (inv : IsGathering count spec cells j ds) (within : j < length cells)
    (here : (c : RowCell) → slice_get cells j ≡ Some c → e ≡ entry_or_end c.draft c.end_line) where
  -- the contents of the row, given the next cell
  next_is : (k : CellAt cells j) → row_contents spec cells ≡ with_contents_before (padded_contents count ds)
      (entry_content spec e >>= λ first. row_contents spec (drop (j + 1) cells) >>= λ rest. Ok (first ∷ rest))
  next_is k =
      inv.so ∙ ap (λ cs. with_contents_before (padded_contents count ds) (row_contents spec cs)) k.left
      ∙ ap (λ r. with_contents_before (padded_contents count ds) (r >>= λ first. row_contents spec (drop (j + 1) cells) >>= λ rest. Ok (first ∷ rest)))
      (sym (entry_same spec k.cell.draft k.cell.end_line) ∙ ap (entry_content spec) (sym (here k.cell k.is)))

  pub gather_fault : (o : DraftFault) → Err o ≡ entry_content spec e → IfDraftFault o (λ f. row_contents spec cells ≡ Err f)
  gather_fault o h = search (rules, next_is, cell_at)

  pub gather_more : (d : FieldContent) → Ok (padded_content count d) ≡ entry_content spec e → IsContentOf spec d → IsGathering count spec cells (j + 1) (ds ++ d ∷ [])
  gather_more d h g = grind (arith, common_steps, next_is, cell_at, contents_before_more, contents_more, all_more)

pub gathered : (count : ℕ) (spec : FieldSpec) (cells : List RowCell) (j : ℕ) (ds : List FieldContent) → IsGathering count spec cells j ds → length cells ≤ j
    → row_contents spec cells ≡ Ok (padded_contents count ds)
gathered count spec cells j ds inv h = rw (inv.so, drop_all, append-nil)

-- whether all subsets end
pub end_item : (cells : List RowCell) (j : ℕ) (e : DraftEntry) → j < length cells → ((c : RowCell) → slice_get cells j ≡ Some c → e ≡ entry_or_end c.draft c.end_line) → is_end e ≡ false
    → all_at_end cells ≡ all_at_end (drop j cells) → all_at_end cells ≡ Err (at_line (entry_line e) item_too_many)
end_item cells j (Ends line) h here is inv = absurd cc
end_item cells j (Holds d) h here is inv = by (cell_at cells j h)
  where
    item : (o : Option Draft) (line : ℕ) → entry_or_end o line ≡ Holds d → (r : Result (Unit {0}) DraftFault) → and_end o r ≡ Err (at_line d.line item_too_many)
    item None line q r = absurd cc
    item (Some x) line q r = let same : x ≡ d = cc in ap (λ (z : Draft). Err (at_line z.line item_too_many)) same

    by : CellAt cells j → all_at_end cells ≡ Err (at_line d.line item_too_many)
    by k = inv ∙ ap all_at_end k.left ∙ item k.cell.draft k.cell.end_line (sym (here k.cell k.is)) (all_at_end (drop (j + 1) cells))

pub end_more : (cells : List RowCell) (j : ℕ) (e : DraftEntry) → j < length cells → ((c : RowCell) → slice_get cells j ≡ Some c → e ≡ entry_or_end c.draft c.end_line) → is_end e ≡ true
    → all_at_end cells ≡ all_at_end (drop j cells) → all_at_end cells ≡ all_at_end (drop (j + 1) cells)
end_more cells j (Holds d) h here is inv = absurd cc
end_more cells j (Ends line) h here is inv = by (cell_at cells j h)
  where
    ends : (o : Option Draft) (l : ℕ) → entry_or_end o l ≡ Ends line → (r : Result (Unit {0}) DraftFault) → and_end o r ≡ r
    ends None l q r = refl
    ends (Some x) l q r = absurd cc

    by : CellAt cells j → all_at_end cells ≡ all_at_end (drop (j + 1) cells)
    by k = inv ∙ ap all_at_end k.left ∙ ends k.cell.draft k.cell.end_line (sym (here k.cell k.is)) (all_at_end (drop (j + 1) cells))

pub end_done : (cells : List RowCell) (j : ℕ) → length cells ≤ j → all_at_end cells ≡ all_at_end (drop j cells) → all_at_end cells ≡ Ok tt
end_done cells j h inv = rw (inv, drop_all)

-- The line that the code finds is that of the first subset's item, or of its end.
pub first_is : (cells : List RowCell) (n : ℕ) → 0 < length cells → ((c : RowCell) → slice_get cells 0 ≡ Some c → n ≡ cell_line c) → n ≡ first_line cells
first_is [] n h here = absurd (omega arith)
first_is (c ∷ cells) n h here = here c refl

-- The first content that differs is the next one, or is among those after it.
unlike_left : (c : Content) (cs : List Content) (d : Content) (ds : List Content) (k : RowCell) (ks : List RowCell) (b : Bool) → same c d ≡ b
    → unlike_from (c ∷ cs) (d ∷ ds) (k ∷ ks) ≡ (if b then unlike_from (c ∷ cs) ds ks else cell_line k)
unlike_left c cs d ds k ks b e = rw e

first_content : (count : ℕ) (ds : List FieldContent) (z : FieldContent) → 0 < length ds → padded_contents count ds ≡ padded_content count (get_or ds 0 z) ∷ padded_contents count (drop 1 ds)
first_content count [] z h = absurd (omega arith)
first_content count (d ∷ []) z h = refl
first_content count (d ∷ x ∷ ds) z h = refl

module _ (count : ℕ) (ds : List FieldContent) (cells : List RowCell) (j : ℕ) (z : FieldContent) (within : j < length ds) (many : length cells ≡ length ds)
    (inv : unlike_line (padded_contents count ds) cells ≡ unlike_from (padded_contents count ds) (padded_contents count (drop j ds)) (drop j cells)) where
  unlike_next : (b : Bool) → same (padded_content count (get_or ds 0 z)) (padded_content count (get_or ds j z)) ≡ b → (k : CellAt cells j)
      → unlike_line (padded_contents count ds) cells ≡ (if b then unlike_from (padded_contents count ds) (padded_contents count (drop (j + 1) ds)) (drop (j + 1) cells) else cell_line k.cell)
  unlike_next b e k = grind (arith, common_steps, within)

  pub unlike_more : same (padded_content count (get_or ds 0 z)) (padded_content count (get_or ds j z)) ≡ true
      → unlike_line (padded_contents count ds) cells ≡ unlike_from (padded_contents count ds) (padded_contents count (drop (j + 1) ds)) (drop (j + 1) cells)
  unlike_more e = unlike_next true e (cell_at cells j (omega (arith, within, many)))

  pub unlike_here : same (padded_content count (get_or ds 0 z)) (padded_content count (get_or ds j z)) ≡ false → (n : ℕ) → ((c : RowCell) → slice_get cells j ≡ Some c → n ≡ cell_line c)
      → n ≡ unlike_line (padded_contents count ds) cells
  unlike_here s n here =
      let k = cell_at cells j (omega (arith, within, many)) in
      here k.cell k.is ∙ sym (unlike_next false s k)

-- ---- One item of all subsets, as the code writes it.

module _ (spec : FieldSpec) (index : ℕ) (subsets : List Subset) where
  -- If there are too many values, the item is refused.
  pub many_fault : max_values < (index + 1) * length (cells_at index subsets)
      → pack_across spec (item_row index subsets) ≡ Err (at_line (first_line (cells_at index subsets)) (too_many_values spec.fxy))
  many_fault h = rw lt-ltb

  module _ (few : (index + 1) * length (cells_at index subsets) ≤ max_values) where
    across_is : pack_across spec (item_row index subsets) ≡ (row_contents spec (cells_at index subsets)
        >>= λ cs. result_map_both (written_item cs) (packing_fault cs (cells_at index subsets)) (packing spec cs))
    across_is =
        ap (λ b. if b then Err (at_line (first_line (cells_at index subsets)) (too_many_values spec.fxy)) else
        (row_contents spec (cells_at index subsets) >>= λ cs. result_map_both (written_item cs) (packing_fault cs (cells_at index subsets)) (packing spec cs)))
        (le-ltb max_values ((index + 1) * length (cells_at index subsets)) few)

    pub put_fault : (o : DraftFault) → IfDraftFault o (λ f. row_contents spec (cells_at index subsets) ≡ Err f) → IfDraftFault o (λ f. pack_across spec (item_row index subsets) ≡ Err f)
    put_fault draft_fault.Memory h = tt
    put_fault (draft_fault.Item line fault) h = across_is ∙ ap (λ r. r >>= λ cs. result_map_both (written_item cs) (packing_fault cs (cells_at index subsets)) (packing spec cs)) h

    given : (cs : List Content) → row_contents spec (cells_at index subsets) ≡ Ok cs → pack_across spec (item_row index subsets)
        ≡ result_map_both (written_item cs) (packing_fault cs (cells_at index subsets)) (packing spec cs)
    given cs h = across_is ∙ ap (λ r. r >>= λ cs. result_map_both (written_item cs) (packing_fault cs (cells_at index subsets)) (packing spec cs)) h

    pub put_ok : (cs : List Content) (bits : List Bool) → row_contents spec (cells_at index subsets) ≡ Ok cs → packing spec cs ≡ Ok bits
        → pack_across spec (item_row index subsets) ≡ Ok (written_item cs bits)
    put_ok cs bits h e = given cs h ∙ ap (result_map_both (written_item cs) (packing_fault cs (cells_at index subsets))) e

    pub put_unequal : (cs : List Content) → row_contents spec (cells_at index subsets) ≡ Ok cs → packing spec cs ≡ Err wrong.UnequalFactor
        → pack_across spec (item_row index subsets) ≡ Err (at_line (unlike_line cs (cells_at index subsets)) wrong.UnequalFactor)
    put_unequal cs h e = given cs h ∙ ap (result_map_both (written_item cs) (packing_fault cs (cells_at index subsets))) e

    pub put_uneven : (cs : List Content) → row_contents spec (cells_at index subsets) ≡ Ok cs → packing spec cs ≡ Err wrong.Increment
        → pack_across spec (item_row index subsets) ≡ Err (at_line (first_line (cells_at index subsets)) wrong.Increment)
    put_uneven cs h e = given cs h ∙ ap (result_map_both (written_item cs) (packing_fault cs (cells_at index subsets))) e

-- The answer of an item is that of its content in the first subset.
pub answers_first : (spec : FieldSpec) (count : ℕ) (ds : List FieldContent) (z : FieldContent) (t : Taken) → 0 < length ds → t ≡ answer_of spec (padded_content count (get_or ds 0 z))
    → t ≡ answer_first spec (padded_contents count ds)
answers_first spec count [] z t h e = absurd (omega arith)
answers_first spec count (d ∷ ds) z t h e = e

-- contents that are all the same, and contents that differ
pub packed_alike : (spec : FieldSpec) (count : ℕ) (ds : List FieldContent) (z : FieldContent) → 0 < length ds → list_all (same (padded_content count (get_or ds 0 z))) (padded_contents count ds) ≡ true
    → packing spec (padded_contents count ds) ≡ Ok (packed_bits (bits_for spec.width (padded_content count (get_or ds 0 z))) 0 [])
packed_alike spec count [] z h e = absurd (omega (arith, h))
packed_alike spec count (d ∷ ds) z h e = grind (arith, content_self)

pub packed_apart : (spec : FieldSpec) (count : ℕ) (ds : List FieldContent) (z : FieldContent) → 0 < length ds → list_all (same (padded_content count (get_or ds 0 z))) (padded_contents count ds)
    ≡ false
    → packing spec (padded_contents count ds) ≡ packed_unlike spec.role spec (padded_contents count ds)
packed_apart spec count [] z h e = absurd (omega arith)
packed_apart spec count (d ∷ ds) z h e = grind (arith, content_self)

-- Contents of elements and inserted texts may differ.
pub apart_by : (spec : FieldSpec) (cs : List Content) (r : Role) → r ≡ spec.role → (r ≡ role.Element) ⊎ (r ≡ role.Inserted)
    → packed_unlike spec.role spec cs ≡ packed_over spec cs
apart_by spec cs r is (inl e) = ap (λ a. packed_unlike a spec cs) (sym is ∙ e)
apart_by spec cs r is (inr e) = ap (λ a. packed_unlike a spec cs) (sym is ∙ e)

-- The item was written, given its bits.
pub put_within : (spec : FieldSpec) (index : ℕ) (subsets : List Subset) (ds : List FieldContent) (z : FieldContent) (t : Taken) (old new bits : List Bool) (most : ℕ)
    → (index + 1) * length (cells_at index subsets) ≤ max_values
    → row_contents spec (cells_at index subsets) ≡ Ok (padded_contents (spec.width / 8) ds) → 0 < length ds → t ≡ answer_of spec (padded_content (spec.width / 8) (get_or ds 0 z))
    → packing spec (padded_contents (spec.width / 8) ds) ≡ Ok bits → new ≡ old ++ bits → length bits ≤ most → length old < length new → IsPutWithin old new spec (item_row index subsets) most t
put_within spec index subsets ds z t old new bits most few given some gives packed is fits forth = record {
  put = record {
    contents = padded_contents (spec.width / 8) ds;
    item = bits;
    is = put_ok spec index subsets few (padded_contents (spec.width / 8) ds) bits given packed;
    gives = answers_first spec (spec.width / 8) ds z t some gives;
    bits = is;
    forth = forth;
  };
  few = fits;
}

-- The item was written, given how contents that differ are packed.
pub put_packed : (spec : FieldSpec) (index : ℕ) (subsets : List Subset) (ds : List FieldContent) (z : FieldContent) (t : Taken) (old new : List Bool) (few most : ℕ)
    → (index + 1) * length (cells_at index subsets) ≤ max_values
    → row_contents spec (cells_at index subsets) ≡ Ok (padded_contents (spec.width / 8) ds) → 0 < length ds → t ≡ answer_of spec (padded_content (spec.width / 8) (get_or ds 0 z))
    → packing spec (padded_contents (spec.width / 8) ds) ≡ packed_over spec (padded_contents (spec.width / 8) ds) → few ≤ most
    → (bits : List Bool) × (packed_over spec (padded_contents (spec.width / 8) ds) ≡ Ok bits) × (new ≡ old ++ bits) × (length bits ≤ few) × (length old < length new)
    → IsPutWithin old new spec (item_row index subsets) most t
put_packed spec index subsets ds z t old new few most values given some gives apart within (bits, packed, is, fits, forth) =
    put_within spec index subsets ds z t old new bits most values given some gives (apart ∙ packed) is (omega (arith, fits, within)) forth

-- ---- Steps of the code that reads texts.

-- Two texts of the same length are equal if, and only if, their padded forms are.
pub same_spaced : (count : ℕ) (a b : List ℕ) → length a ≡ length b → bytes_eq a b ≡ bytes_eq (spaced count a) (spaced count b)
same_spaced count a b e = by a b (count - length a) e ∙ ap (λ n. bytes_eq (spaced count a) (b ++ replicate (count - n) 32)) e
  where
    by : (a b : List ℕ) (n : ℕ) → length a ≡ length b → bytes_eq a b ≡ bytes_eq (a ++ replicate n 32) (b ++ replicate n 32)
    by [] [] n e = sym (octets_self (replicate n 32))
    by [] (y ∷ ys) n e = absurd (omega arith)
    by (x ∷ xs) [] n e = absurd (omega arith)
    by (x ∷ xs) (y ∷ ys) n e = ap (λ b. (x == y) && b) (by xs ys n (omega arith))

-- A text consists of spaces if its padded form does.
all_spaces : (os : List ℕ) (n : ℕ) → list_all (λ octet. octet == 32) os ≡ bytes_eq (os ++ replicate n 32) (replicate (length os + n) 32)
all_spaces [] n = let none : n ≡ 0 + n = omega arith in cc (octets_self (replicate n 32))
all_spaces (o ∷ os) n =
    let more : suc (length os + n) ≡ suc (length os) + n = omega arith in
    cc (all_spaces os n)

-- If a text begins with another one, they have the same padded form if only spaces follow.
pub spaced_start : (count : ℕ) (whole start os rest : List ℕ) → whole ≡ start ++ rest → length start ≡ length os → length whole ≤ count
    → (bytes_eq start os && list_all (λ octet. octet == 32) rest) ≡ bytes_eq (spaced count whole) (spaced count os)
spaced_start count whole start os rest parts e few =
    let long : length whole ≡ length start + length rest = ap length parts ∙ length-append start rest in
    let n : ℕ = count - length whole in
    let left : length rest + n ≡ count - length os = omega (arith, long, e, few) in
    by start os n e ∙ ap (λ k. bytes_eq ((start ++ rest) ++ replicate n 32) (os ++ replicate k 32)) left ∙ ap (λ xs. bytes_eq (xs ++ replicate n 32) (spaced count os)) (sym parts)
  where
    by : (start os : List ℕ) (n : ℕ) → length start ≡ length os
        → (bytes_eq start os && list_all (λ octet. octet == 32) rest) ≡ bytes_eq ((start ++ rest) ++ replicate n 32) (os ++ replicate (length rest + n) 32)
    by [] [] n e = all_spaces rest n
    by [] (y ∷ ys) n e = absurd (omega arith)
    by (x ∷ xs) [] n e = absurd (omega arith)
    by (x ∷ xs) (y ∷ ys) n e = and_assoc (x == y) (bytes_eq xs ys) (list_all (λ octet. octet == 32) rest) ∙ ap (λ b. (x == y) && b) (by xs ys n (omega arith))

-- Texts can be compared in either order.
false_true : false ≡ true → ⊥
false_true e = cc

eqb_other : (x y : ℕ) → (x == y) ≡ (y == x)
eqb_other x y = search (rules, eq-eqb, ne_eqb)

pub spaced_other : (xs ys : List ℕ) → bytes_eq xs ys ≡ bytes_eq ys xs
spaced_other xs ys = search rules

-- A space at the end of a text does not change its trimmed length, but any other octet does.
trimmed_space : (b : Bool) (os : List ℕ) (n : ℕ) → trimmed os ≡ n → trimmed (os ++ 32 ∷ []) ≡ n
trimmed_space b [] n e = e
trimmed_space b (o ∷ os) n e = cc (trimmed_space b os (trimmed os) refl)

trimmed_other : (os : List ℕ) (x : ℕ) → (x ≡ 32 → ⊥) → trimmed (os ++ x ∷ []) ≡ suc (length os)
trimmed_other [] x h = rw ne_eqb
trimmed_other (o ∷ os) x h = cc (trimmed_other os x h, ne_eqb (suc (length os)) 0 (λ q. absurd (omega arith)))

take_one : (os : List ℕ) (n x z : ℕ) → n < length os → x ≡ get_or os n z → take (suc n) os ≡ take n os ++ x ∷ []
take_one [] n x z h e = absurd (omega arith)
take_one (o ∷ os) zero x z h e = ap (λ y. y ∷ []) (sym e)
take_one (o ∷ os) (suc n) x z h e = ap (λ ys. o ∷ ys) (take_one os n x z (omega arith) e)

length-take_one : (os : List ℕ) (n : ℕ) → n ≤ length os → length (take n os) ≡ n
length-take_one os zero h = refl
length-take_one [] (suc n) h = absurd (omega (arith, h))
length-take_one (o ∷ os) (suc n) h = ap suc (length-take_one os n (omega (arith, h)))

pub trimmed_here : (os : List ℕ) (spaces x z : ℕ) → spaces < length os → x ≡ get_or os (length os - 1 - spaces) z → (x ≡ 32 → ⊥) → trimmed (take (length os - spaces) os) ≡ trimmed os
    → length os - spaces ≡ trimmed os
trimmed_here os spaces x z h e other inv = grind (arith, common_steps, trimmed_other)

pub trimmed_later : (os : List ℕ) (spaces x z : ℕ) → spaces < length os → x ≡ get_or os (length os - 1 - spaces) z → x ≡ 32 → trimmed (take (length os - spaces) os) ≡ trimmed os
    → trimmed (take (length os - (spaces + 1)) os) ≡ trimmed os
trimmed_later os spaces x z h e is inv = grind (arith, common_steps, trimmed_space)

pub trimmed_all : (os : List ℕ) (spaces : ℕ) → length os ≤ spaces → trimmed (take (length os - spaces) os) ≡ trimmed os → 0 ≡ trimmed os
trimmed_all os spaces h inv = let n : 0 ≡ length os - spaces = omega arith in cc (n)

-- An element or an inserted text is not a redefined reference.
pub no_reference : (spec : FieldSpec) (r : Role) → r ≡ spec.role → (r ≡ role.Element) ⊎ (r ≡ role.Inserted) → is_reference spec.role ≡ false
no_reference spec r is (inl e) = ap is_reference (sym is ∙ e)
no_reference spec r is (inr e) = ap is_reference (sym is ∙ e)
