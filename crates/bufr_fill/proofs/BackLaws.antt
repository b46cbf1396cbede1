-- Bits that are written from drafts read back as the contents of the drafts.
use Rattle.std.proofs.lemmas.Grind.{common_steps}
use Rattle.std.proofs.Common.{◌≡◌, ℕ, zero, suc, ◌+◌, ◌*◌, ◌≤◌, Bool, true, false, List, [], ◌∷◌, ◌++◌, length, drop, Option, Some, None, Result, Ok, Err, refl, sym, ◌∙◌, ap, subst, arith, append_assoc, slice_get, if◌then◌else◌, rules}
use Rattle.bufr_fill.proofs.FieldLemmas.{same_ok}
use Rattle.bufr_fill.proofs.EntryLemmas.{length-cells}
use Rattle.std.proofs.lemmas.Bool.{ltb-false}
use Rattle.std.specs.List.{AllByRecursion}
use Rattle.bufr_tables.specs.Prelude.{IsLegal, Row, Tree}
use Rattle.bufr_walk.specs.Prelude.{FieldSpec, IsSpec, Content, bits_for, found, content_at, Course, Next, take_next, at_end, astray, refused, next_item, max_values, Item, DataCoding, plain, packed, ReadsItems, answers_in, apart, together, each_subset, items_of_subset, subsets_from, would_be_many}
use Rattle.bufr_fill.specs.Prelude.{packing_fault, Draft, Subset, ItemFault, DraftFault, at_line, too_many_values, content_of, plain_filler, RowCell, ItemRow, cells_at, rows, most_items, map_err, item_content, row_contents, pack_across, packed_filler, plain_data, packed_data, first_line, ◌>>=◌, WrittenItem, written_item, Filler, fill, with_bits_before, packing, Fits, AllFit, HasOctets, AllHaveOctets, IsSpecified, IsReadBack, data_bits, AreDrafts, AreSpecified}
use Rattle.bufr_fill.proofs.FillSteps.{filled, bits_with, fill_at}
use Rattle.bufr_walk.proofs.NextField.{AreRead, IsGoodCourse, next_field}
use Rattle.bufr_walk.specs.Prelude.{IsWithin}
use Rattle.bufr_fill.proofs.GoodReads.{draft_fits, answer_within}
use Rattle.bufr_fill.proofs.PackedLaws.{fitting_again}
use Rattle.bufr_fill.proofs.PlainLaws.{plain_again}
use Rattle.bufr_fill.proofs.ReadsLemmas.{AreReadAs, subset_then, items_read, none_read, none_read_together}
use Rattle.bufr_walk.proofs.CourseLemmas.{IsSane}
use Rattle.bufr_walk.proofs.PassLemmas.{legal_sane}
use Rattle.std.specs.Result.{result_map_both}

-- ---- Successive items.

pub record IsBack {C D : Type 0} (form : DataCoding C) (of_item : Item C → D → Type 0) (course : Course) (ds : List D) (out : List Bool) : Type 0 where
  pub items : List (Item C)
  pub said : AreDrafts of_item items ds
  pub read : (more : List Bool) → ReadsItems form course items (out ++ more) more
  pub end : course (answers_in form.gives items) ≡ at_end

-- The item that was written reads back as the content of its draft, whatever follows it.
pub record IsOneBack {C D : Type 0} (form : DataCoding C) (of_item : Item C → D → Type 0) (spec : FieldSpec) (d : D) (w : WrittenItem C) : Type 0 where
  pub said : of_item (record { spec = spec; content = w.content }) d
  pub within : IsWithin (form.gives spec w.content)
  pub read : (more : List Bool) → form.field spec (w.bits ++ more) ≡ Ok (found w.content more)

module _ {C D E : Type 0} (form : DataCoding C) (filler : Filler D C E) (of_item : Item C → D → Type 0) (HasText : D → Type 0)
    (same_answer : (spec : FieldSpec) (c : C) → filler.gives spec c ≡ form.gives spec c)
    (one : (spec : FieldSpec) (d : D) (w : WrittenItem C) → IsSpec spec → HasText d → filler.fills spec d ≡ Ok w → IsOneBack form of_item spec d w) where
  back_end : (course : Course) (out : List Bool) (n : Next) → course [] ≡ n → fill_at filler course [] n ≡ Ok out → IsBack form of_item course [] out
  back_end course out n q e = search rules

  module _ (course : Course) (d : D) (ds : List D) (out : List Bool) (good : IsGoodCourse course) (text : HasText d)
      (others : (next : Course) (rest : List Bool) → IsGoodCourse next → fill filler next ds ≡ Ok rest → IsBack form of_item next ds rest) where
    back_rest : (spec : FieldSpec) (w : WrittenItem C) → course [] ≡ take_next spec → IsOneBack form of_item spec d w → (r : Result (List Bool) E)
        → fill filler (λ answers. course (form.gives spec w.content ∷ answers)) ds ≡ r → with_bits_before filler w.bits r ≡ Ok out → IsBack form of_item course (d ∷ ds) out
    back_rest spec w q here (Err why) p e = cc
    back_rest spec w q here (Ok rest) p e =
        let suffix = others (λ answers. course (form.gives spec w.content ∷ answers)) rest (λ answers asked ws n. good (form.gives spec w.content ∷ answers) asked (here.within, ws) n) p in
        let joined : w.bits ++ rest ≡ out = same_ok (w.bits ++ rest) out e in
        record {
          items = record { spec = spec; content = w.content } ∷ suffix.items;
          said = (here.said, suffix.said);
          read = λ more.
              let turned : w.bits ++ (rest ++ more) ≡ out ++ more = sym (append_assoc w.bits rest more) ∙ ap (λ x. x ++ more) joined in
              (rest ++ more, q, subst (λ bits. form.field spec bits ≡ Ok (found w.content (rest ++ more))) turned (here.read (rest ++ more)), suffix.read more);
          end = suffix.end;
        }

    back_fill : (spec : FieldSpec) → course [] ≡ take_next spec → (r : Result (WrittenItem C) E) → filler.fills spec d ≡ r
        → filled filler spec r (λ t. fill filler (λ answers. course (t ∷ answers)) ds) ≡ Ok out → IsBack form of_item course (d ∷ ds) out
    back_fill spec q (Err why) p e = cc
    back_fill spec q (Ok w) p e =
        let here = one spec d w (good [] spec tt q).spec text p in
        back_rest spec w q here (fill filler (λ answers. course (form.gives spec w.content ∷ answers)) ds) refl
        (subst (λ t. with_bits_before filler w.bits (fill filler (λ answers. course (t ∷ answers)) ds) ≡ Ok out) (same_answer spec w.content) e)

    back_next : (n : Next) → course [] ≡ n → fill_at filler course (d ∷ ds) n ≡ Ok out → IsBack form of_item course (d ∷ ds) out
    back_next (take_next spec) q e = back_fill spec q (filler.fills spec d) refl (sym (bits_with filler course d ds spec (filler.fills spec d)) ∙ e)
    back_next at_end q e = cc
    back_next astray q e = cc
    back_next (refused why) q e = cc

  pub back : (course : Course) (ds : List D) (out : List Bool) → IsGoodCourse course → AllByRecursion HasText ds → fill filler course ds ≡ Ok out → IsBack form of_item course ds out
  back course [] out good texts e = back_end course out (course []) refl e
  back course (d ∷ ds) out good texts e = back_next course d ds out good texts.0 (λ next rest g p. back next ds rest g texts.1 p) (course []) refl e

-- ---- Plain data.

plain_one : (end_line : ℕ) (spec : FieldSpec) (d : Draft) (w : WrittenItem Content) → IsSpec spec → HasOctets d.form
    → (map_err (at_line d.line) (content_of spec d) >>= λ c. Ok (written_item c (bits_for spec.width c))) ≡ Ok w → IsOneBack plain IsSpecified spec d w
plain_one end_line spec d w good text e = by_content (content_of spec d) refl e
  where
    by_content : (r : Result Content ItemFault) → content_of spec d ≡ r → (map_err (at_line d.line) r >>= λ c. Ok (written_item c (bits_for spec.width c))) ≡ Ok w
        → IsOneBack plain IsSpecified spec d w
    by_content (Err why) p q = cc
    by_content (Ok c) p q =
        let fits : Fits spec c = draft_fits spec d c text p in
        let is : written_item c (bits_for spec.width c) ≡ w = same_ok (written_item c (bits_for spec.width c)) w q in
        rw (← is) (record { said = p; within = answer_within spec.role spec c good good.role fits; read = plain_again spec good c fits })

module _ (course : Course) (sane : (m : ℕ) → IsSane m course) (good : IsGoodCourse course) where
  plain_join : (s : Subset) (ss : List Subset) (out : List Bool) → AllByRecursion (λ (d : Draft). HasOctets d.form) s.items
      → ((rest : List Bool) → plain_data course ss ≡ Ok rest → IsReadBack course false ss rest)
      → (a b : Result (List Bool) DraftFault) → fill (plain_filler s.end_line) course s.items ≡ a → plain_data course ss ≡ b → (a >>= λ x. b >>= λ y. Ok (x ++ y)) ≡ Ok out
      → IsReadBack course false (s ∷ ss) out
  plain_join s ss out text others (Err why) b p q e = cc
  plain_join s ss out text others (Ok x) (Err why) p q e = cc
  plain_join s ss out text others (Ok x) (Ok y) p q e =
      let first = back plain (plain_filler s.end_line) IsSpecified (λ (d : Draft). HasOctets d.form) (λ spec c. refl) (plain_one s.end_line) course s.items x good text p in
      let rest = others y q in
      record {
        values = apart (first.items ∷ each_subset (length ss) rest.values);
        said = (first.said, rest.said);
        read = subst (AreReadAs course false (length (s ∷ ss)) (apart (first.items ∷ each_subset (length ss) rest.values))) (same_ok (x ++ y) out e)
            (subset_then course sane (length ss) first.items rest.values x y first.read first.end rest.read);
      }

  plain_back : (ss : List Subset) (out : List Bool) → AllHaveOctets ss → plain_data course ss ≡ Ok out → IsReadBack course false ss out
  plain_back [] out text e = record { values = apart []; said = tt; read = subst (AreReadAs course false 0 (apart [])) (same_ok [] out e) (none_read course) }
  plain_back (s ∷ ss) out text e = plain_join s ss out text.0 (λ rest q. plain_back ss rest text.1 q) (fill (plain_filler s.end_line) course s.items) (plain_data course ss) refl refl
      e

-- ---- Compressed data.

-- The content is that of the draft in this cell.
abbrev IsCellSaid : FieldSpec → Content → Option Draft → Type 0
IsCellSaid spec c None = ⊥
IsCellSaid spec c (Some d) = content_of spec d ≡ Ok c

abbrev OctetsIn : Option Draft → Type 0
OctetsIn None = Unit {0}
OctetsIn (Some d) = HasOctets d.form

-- The cells have these contents, from subset j on.
abbrev SaidFrom : ℕ → FieldSpec → List Content → List RowCell → Type 0
SaidFrom j spec cs [] = Unit {0}
SaidFrom j spec cs (cell ∷ cells) = IsCellSaid spec (content_at j cs) cell.draft × SaidFrom (suc j) spec cs cells

said_shift : (j : ℕ) (spec : FieldSpec) (c : Content) (cs : List Content) (cells : List RowCell) → SaidFrom j spec cs cells → SaidFrom (suc j) spec (c ∷ cs) cells
said_shift j spec c cs [] h = tt
said_shift j spec c cs (cell ∷ cells) h = (h.0, said_shift (suc j) spec c cs cells h.1)

cell_said : (spec : FieldSpec) (o : Option Draft) (end_line : ℕ) (c : Content) → OctetsIn o → item_content spec o end_line ≡ Ok c → IsCellSaid spec c o × Fits spec c
cell_said spec None end_line c text e = cc
cell_said spec (Some d) end_line c text e = by_content (content_of spec d) refl e
  where
    by_content : (r : Result Content ItemFault) → content_of spec d ≡ r → map_err (at_line d.line) r ≡ Ok c → (content_of spec d ≡ Ok c) × Fits spec c
    by_content (Err why) p q = cc
    by_content (Ok x) p q = let h : content_of spec d ≡ Ok c = p ∙ ap Ok (same_ok x c q) in (h, draft_fits spec d c text h)

record AreCellsSaid (spec : FieldSpec) (cells : List RowCell) (cs : List Content) : Type 0 where
  said : SaidFrom 0 spec cs cells
  fits : AllFit spec cs
  count : length cs ≡ length cells

cells_join : (spec : FieldSpec) (cell : RowCell) (cells : List RowCell) (cs : List Content) → OctetsIn cell.draft
    → ((rest : List Content) → row_contents spec cells ≡ Ok rest → AreCellsSaid spec cells rest)
    → (a : Result Content DraftFault) (b : Result (List Content) DraftFault) → item_content spec cell.draft cell.end_line ≡ a → row_contents spec cells ≡ b
    → (a >>= λ first. b >>= λ rest. Ok (first ∷ rest)) ≡ Ok cs → AreCellsSaid spec (cell ∷ cells) cs
cells_join spec cell cells cs text others (Err why) b p q e = cc
cells_join spec cell cells cs text others (Ok c) (Err why) p q e = cc
cells_join spec cell cells cs text others (Ok c) (Ok rest) p q e =
    let here = cell_said spec cell.draft cell.end_line c text p in
    let suffix = others rest q in
    subst (AreCellsSaid spec (cell ∷ cells)) (same_ok (c ∷ rest) cs e)
    (record { said = (here.0, said_shift 0 spec c rest cells suffix.said); fits = (here.1, suffix.fits); count = ap suc suffix.count })

cells_said : (spec : FieldSpec) (cells : List RowCell) (cs : List Content) → AllByRecursion (λ (cell : RowCell). OctetsIn cell.draft) cells → row_contents spec cells ≡ Ok cs
    → AreCellsSaid spec cells cs
cells_said spec [] cs text e = grind (arith, common_steps, same_ok)
cells_said spec (cell ∷ cells) cs text e = cells_join spec cell cells cs text.0 (λ rest q. cells_said spec cells rest text.1 q) (item_content spec cell.draft cell.end_line) (row_contents spec cells)
    refl refl e

-- The item has the contents of the row, up to which there are not too many values.
abbrev IsSaidAcross : ℕ → Item (List Content) → ItemRow → Type 0
IsSaidAcross n i a = SaidFrom 0 i.spec i.content a.cells × ((a.index + 1) * n ≤ max_values)

abbrev IsRowOf : ℕ → ItemRow → Type 0
IsRowOf n a = (length a.cells ≡ n) × AllByRecursion (λ (cell : RowCell). OctetsIn cell.draft) a.cells

few_of : (index n : ℕ) → would_be_many n index ≡ false → (index + 1) * n ≤ max_values
few_of index n h = ltb-false max_values ((index + 1) * n) h

packed_one : (n : ℕ) → 1 ≤ n → (spec : FieldSpec) (a : ItemRow) (w : WrittenItem (List Content)) → IsSpec spec → IsRowOf n a → pack_across spec a ≡ Ok w
    → IsOneBack (packed n) (IsSaidAcross n) spec a w
packed_one n some spec a w good row e = by_many (would_be_many (length a.cells) a.index) refl e
  where
    by_list : (cs : List Content) (bits : List Bool) → (a.index + 1) * n ≤ max_values → AreCellsSaid spec a.cells cs → packing spec cs ≡ Ok bits
        → IsOneBack (packed n) (IsSaidAcross n) spec a (written_item cs bits)
    by_list [] bits few are q = absurd (omega (arith, are.count, row.0))
    by_list (c ∷ cs) bits few are q = record {
      said = (are.said, few);
      within = answer_within spec.role spec c good good.role are.fits.0;
      read = λ more. fitting_again n spec good c cs bits more are.fits (are.count ∙ row.0) q;
    }

    by_packing : (cs : List Content) → (a.index + 1) * n ≤ max_values → AreCellsSaid spec a.cells cs → (r : Result (List Bool) ItemFault) → packing spec cs ≡ r
        → result_map_both (written_item cs) (packing_fault cs a.cells) r ≡ Ok w
        → IsOneBack (packed n) (IsSaidAcross n) spec a w
    by_packing cs few are (Ok bits) q r = subst (IsOneBack (packed n) (IsSaidAcross n) spec a) (same_ok (written_item cs bits) w r) (by_list cs bits few are q)
    by_packing cs few are (Err why) q r = cc

    by_contents : (a.index + 1) * n ≤ max_values → (r : Result (List Content) DraftFault) → row_contents spec a.cells ≡ r
        → (r >>= λ cs. result_map_both (written_item cs) (packing_fault cs a.cells) (packing spec cs)) ≡ Ok w
        → IsOneBack (packed n) (IsSaidAcross n) spec a w
    by_contents few (Err why) p q = cc
    by_contents few (Ok cs) p q = by_packing cs few (cells_said spec a.cells cs row.1 p) (packing spec cs) refl q

    by_many : (b : Bool) → would_be_many (length a.cells) a.index ≡ b → (if b then Err (at_line (first_line a.cells) (too_many_values spec.fxy)) else
        (row_contents spec a.cells >>= λ cs. result_map_both (written_item cs) (packing_fault cs a.cells) (packing spec cs))) ≡ Ok w → IsOneBack (packed n) (IsSaidAcross n) spec a w
    by_many true p q = cc
    by_many false p q = by_contents (rw (← row.0) (few_of a.index (length a.cells) p)) (row_contents spec a.cells) refl q

-- ---- Rows and subsets.

draft_octets : (ds : List Draft) (p : ℕ) → AllByRecursion (λ (d : Draft). HasOctets d.form) ds → OctetsIn (slice_get ds p)
draft_octets [] zero h = tt
draft_octets [] (suc p) h = tt
draft_octets (d ∷ ds) zero h = h.0
draft_octets (d ∷ ds) (suc p) h = draft_octets ds p h.1

cells_octets : (p : ℕ) (ss : List Subset) → AllHaveOctets ss → AllByRecursion (λ (cell : RowCell). OctetsIn cell.draft) (cells_at p ss)
cells_octets p [] h = tt
cells_octets p (s ∷ ss) h = (draft_octets s.items p h.0, cells_octets p ss h.1)

rows_octets : (n count from : ℕ) (ss : List Subset) → length ss ≡ n → AllHaveOctets ss → AllByRecursion (IsRowOf n) (rows count from ss)
rows_octets n zero from ss e h = tt
rows_octets n (suc count) from ss e h = ((length-cells from ss ∙ e, cells_octets from ss h), rows_octets n count (from + 1) ss e h)

-- The draft in a cell is the next one of its subset.
draft_next : (spec : FieldSpec) (c : Content) (ds : List Draft) (p : ℕ) → IsCellSaid spec c (slice_get ds p) → (d : Draft) × (drop p ds ≡ d ∷ drop (p + 1) ds) × (content_of spec d ≡ Ok c)
draft_next spec c [] zero h = absurd h
draft_next spec c [] (suc p) h = absurd h
draft_next spec c (d ∷ ds) zero h = (d, refl, h)
draft_next spec c (d ∷ ds) (suc p) h =
    let r = draft_next spec c ds p h in
    let q : suc (p + 1) ≡ suc p + 1 = omega arith in
    (r.0, r.1 ∙ ap (λ k. r.0 ∷ drop k (d ∷ ds)) q, r.2)

abbrev RowsSaid : ℕ → List (Item (List Content)) → List ItemRow → Type 0
RowsSaid j [] [] = Unit {0}
RowsSaid j [] (a ∷ more) = ⊥
RowsSaid j (i ∷ items) [] = ⊥
RowsSaid j (i ∷ items) (a ∷ more) = SaidFrom j i.spec i.content a.cells × RowsSaid j items more

rows_said : (n : ℕ) (items : List (Item (List Content))) (more : List ItemRow) → AreDrafts (IsSaidAcross n) items more → RowsSaid 0 items more
rows_said n [] [] h = tt
rows_said n (i ∷ items) (a ∷ more) h = (h.0.0, rows_said n items more h.1)
rows_said n items more h = absurd h

first_subset : (j count from : ℕ) (s : Subset) (ss : List Subset) (items : List (Item (List Content))) → RowsSaid j items (rows count from (s ∷ ss)) → length s.items ≤ from + count
    → AreDrafts IsSpecified (items_of_subset j items) (drop from s.items)
first_subset j zero from s ss [] h l = grind (arith, common_steps, l)
first_subset j zero from s ss (i ∷ items) h l = absurd h
first_subset j (suc count) from s ss [] h l = absurd h
first_subset j (suc count) from s ss (i ∷ items) h l =
    let g = draft_next i.spec (content_at j i.content) s.items from h.0.0 in
    subst (AreDrafts IsSpecified (items_of_subset j (i ∷ items))) (sym g.1) (g.2, first_subset j count (from + 1) s ss items h.1 (omega arith))

other_subsets : (j count from : ℕ) (s : Subset) (ss : List Subset) (items : List (Item (List Content))) → RowsSaid j items (rows count from (s ∷ ss)) → RowsSaid (suc j) items (rows count from ss)
other_subsets j zero from s ss [] h = tt
other_subsets j zero from s ss (i ∷ items) h = absurd h
other_subsets j (suc count) from s ss [] h = absurd h
other_subsets j (suc count) from s ss (i ∷ items) h = (h.0.1, other_subsets j count (from + 1) s ss items h.1)

all_subsets : (j count : ℕ) (ss : List Subset) (items : List (Item (List Content))) → RowsSaid j items (rows count 0 ss) → most_items ss ≤ count → AreSpecified (subsets_from (length ss) j items) ss
all_subsets j count [] items h l = tt
all_subsets j count (s ∷ ss) items h l = (first_subset j count 0 s ss items h (omega arith), all_subsets (suc j) count ss items (other_subsets j count 0 s ss items h) (omega arith))

few_rows : (n count from : ℕ) (ss : List Subset) (items : List (Item (List Content))) → from * n ≤ max_values → AreDrafts (IsSaidAcross n) items (rows count from ss)
    → (from + length items) * n ≤ max_values
few_rows n zero from ss [] few h = omega arith
few_rows n zero from ss (i ∷ items) few h = absurd h
few_rows n (suc count) from ss [] few h = absurd h
few_rows n (suc count) from ss (i ∷ items) few h =
    let q : from + 1 + length items ≡ from + length (i ∷ items) = omega arith in
    rw q at (few_rows n count (from + 1) ss items h.0.1 h.1)

packed_back : (table : List Row) (template : Tree) (read : AreRead table) (legal : IsLegal template) (ss : List Subset) (out : List Bool) → AllHaveOctets ss
    → packed_data (next_item table template) ss ≡ Ok out → IsReadBack (next_item table template) true ss out
packed_back table template read legal [] out text e =
    record { values = together []; said = tt; read = subst (AreReadAs (next_item table template) true 0 (together [])) (same_ok [] out e) (none_read_together (next_item table template)) }
packed_back table template read legal (s ∷ ss) out text e =
    let n = length (s ∷ ss) in
    let most = most_items (s ∷ ss) in
    let b = back (packed n) (packed_filler s.end_line (would_be_many n most)) (IsSaidAcross n) (IsRowOf n) (λ spec cs. refl) (packed_one n (omega arith)) (next_item table template)
    (rows most 0 (s ∷ ss)) out (next_field table template read legal)
    (rows_octets n most 0 (s ∷ ss) refl text) e in
    let zero_more : 0 + length b.items ≡ length b.items = omega arith in
    record {
      values = together b.items;
      said = all_subsets 0 most (s ∷ ss) b.items (rows_said n b.items (rows most 0 (s ∷ ss)) b.said) (omega arith);
      read = items_read (next_item table template) (legal_sane table template read legal) (length ss) b.items out b.read b.end
          (rw zero_more at (few_rows n most 0 (s ∷ ss) b.items (omega arith) b.said));
    }

pub read_back : (table : List Row) (template : Tree) → AreRead table → IsLegal template → (compressed : Bool) (drafts : List Subset) (bits : List Bool) → AllHaveOctets drafts
    → data_bits compressed (next_item table template) drafts ≡ Ok bits → IsReadBack (next_item table template) compressed drafts bits
read_back table template read legal true drafts bits text e = packed_back table template read legal drafts bits text e
read_back table template read legal false drafts bits text e = search (rules, plain_back, legal_sane, next_field)
