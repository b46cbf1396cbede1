-- The rows of Table B, and how the code stores them.
use Rattle.std.proofs.lemmas.Grind.{common_steps}
use Rattle.std.proofs.Common.{◌≡◌, ◌≢◌, ℕ, ◌+◌, ◌-◌, ◌<◌, ◌≤◌, Bool, true, false, List, [], ◌∷◌, ◌++◌, length, Option, Some, None, refl, sym, ap, ◌∙◌, arith, suc, eqb, option_map, get_or, set, length-append, rules, tests, append_assoc, append-nil, codes, ℤ, subst, Result, Ok, Err, cond, map, nat_eq, ◌==◌, if◌then◌else◌, IfSome, slice_range, nat_le}
use Rattle.std.specs.Str.{bytes_eq}
use Rattle.bufr_tables.proofs.RecordLemmas.{names-are}
use Rattle.std.specs.Cmp.Lexicographic.{pointwise}
use Rattle.std.specs.Int.RustNames.{unsigned_abs}
use Rattle.std.specs.List.{AllByRecursion, IsDistinct, find, list_any}
use Rattle.std.proofs.lemmas.List.{map-append, map-id}
use Rattle.std.proofs.lemmas.Map.Steps.{length-le_from_distinct_below}
use Rattle.std.proofs.lemmas.Option.{same_Some, option_and_then_some}
use Rattle.bufr_tables.specs.Prelude.{◌>>=◌, mark_of, place_of, f_of, fxy_text, key_of, ExtendsBlock, IsStored, row_parsed, stored_rows, IsRowKept, stored_row, Row, entry_of, row_comment, row_line_start, kind_of, IsRow, allows_width, element_of, is_name, plain_of, row_of, scale_of, width_of, AreRows, columns_b, table_b_of, with_record_b, i64_of, Record, field_of, only_if, table_from, table_of, TableFault}
use Rattle.bufr_tables.specs.declared.table_b.ParsedRow.{ParsedRow}
use Rattle.bufr_tables.specs.declared.table_b.Stored.{Stored}
use Rattle.bufr_tables.specs.declared.table_b.Kind.{Kind}
use Rattle.bufr_tables.specs.declared.fault.TableFault.TheVariants.{Header}

-- ---- A list of keys to which a key is added, and the number of keys.

-- A key that is not in the list is neither its first key nor among the others.
pub record Absent (k : ℕ) (keys : List ℕ) (key : ℕ) : Type 0 where
  pub first : (k == key) ≡ false
  pub rest : place_of keys key ≡ None

pub absent-parts : (k : ℕ) (keys : List ℕ) (key : ℕ) → place_of (k ∷ keys) key ≡ None → Absent k keys key
absent-parts k keys key absent = by (k == key) refl absent
  where
    none : (o : Option ℕ) → option_map {U = ℕ} suc o ≡ None → o ≡ None
    none None e = refl
    none (Some place) e = cc e

    by : (b : Bool) → (k == key) ≡ b → (if b then Some 0 else option_map suc (place_of keys key)) ≡ None → Absent k keys key
    by true e absent = cc absent
    by false e absent = record { first = e; rest = none _ absent }

-- the index of a key that is appended to a list without it
pub place_of-added : (keys : List ℕ) (key : ℕ) → place_of keys key ≡ None → place_of (keys ++ key ∷ []) key ≡ Some (length keys)
place_of-added [] key absent = let same : (key == key) ≡ true = search (rules, tests) in rw same refl
place_of-added (k ∷ keys) key absent =
    let parts = absent-parts k keys key absent in
    rw (parts.first, place_of-added keys key parts.rest) refl

-- The result for any other key is unchanged.
pub place_of-other : (keys : List ℕ) (key other : ℕ) → key ≢ other → place_of (keys ++ key ∷ []) other ≡ place_of keys other
place_of-other [] key other differ = let e : (key == other) ≡ false = search rules in rw e refl
place_of-other (k ∷ keys) key other differ = cc (place_of-other keys key other differ)

-- An index that is found is inside the list.
pub place_of-inside : (keys : List ℕ) (key : ℕ) → IfSome (place_of keys key) (λ place. place < length keys)
place_of-inside [] key = tt
place_of-inside (k ∷ keys) key = by (k == key) (place_of keys key) (place_of-inside keys key)
  where
    by : (b : Bool) (o : Option ℕ) → IfSome o (λ place. place < length keys) → IfSome (if b then Some 0 else option_map suc o) (λ place. place < suc (length keys))
    by true o h = omega arith
    by false None h = tt
    by false (Some place) h = omega arith

pub below-added : (keys : List ℕ) (key n : ℕ) → AllByRecursion (λ k. k < n) keys → key < n → AllByRecursion (λ k. k < n) (keys ++ key ∷ [])
below-added [] key n below small = (small, tt)
below-added (k ∷ keys) key n below small = (below.0, below-added keys key n below.1 small)

unlike-added : (keys : List ℕ) (k key : ℕ) → AllByRecursion (λ y. nat_eq k y ≡ false) keys → nat_eq k key ≡ false → AllByRecursion (λ y. nat_eq k y ≡ false) (keys ++ key ∷ [])
unlike-added [] k key unlike differs = (differs, tt)
unlike-added (q ∷ keys) k key unlike differs = (unlike.0, unlike-added keys k key unlike.1 differs)

pub distinct-none : IsDistinct nat_eq []
unfolding IsDistinct
distinct-none = tt

pub distinct-added : (keys : List ℕ) (key : ℕ) → IsDistinct nat_eq keys → place_of keys key ≡ None → IsDistinct nat_eq (keys ++ key ∷ [])
unfolding IsDistinct
distinct-added [] key distinct absent = (tt, tt)
distinct-added (k ∷ keys) key distinct absent =
    let parts = absent-parts k keys key absent in
    (unlike-added keys k key distinct.0 parts.first, distinct-added keys key distinct.1 parts.rest)

-- There are at most n distinct keys below n.
has-below : (keys : List ℕ) (q n : ℕ) → AllByRecursion (λ k. k < n) keys → list_any (eqb q) keys ≡ true → q < n
has-below [] q n below has = cc has
has-below (k ∷ keys) q n below has = grind (arith, has-below keys q n below.1)

pub count-below : (keys : List ℕ) (n : ℕ) → AllByRecursion (λ k. k < n) keys → IsDistinct nat_eq keys → length keys ≤ n
count-below keys n below distinct = length-le_from_distinct_below keys n distinct (λ q has. has-below keys q n below has)

-- If a key below n is missing, the list has fewer than n keys.
pub count-added : (keys : List ℕ) (key n : ℕ) → AllByRecursion (λ k. k < n) keys → IsDistinct nat_eq keys → key < n → place_of keys key ≡ None → length keys < n
count-added keys key n below distinct small absent =
    omega (arith, count-below (keys ++ key ∷ []) n (below-added keys key n below small) (distinct-added keys key distinct absent), length-append keys (key ∷ []))

-- the marks of the directory, after a key is added
pub marks-added : (keys : List ℕ) (key : ℕ) (marks : List ℕ) (n : ℕ) → length marks ≡ n → key < n → place_of keys key ≡ None
    → ((other : ℕ) → other < n → get_or marks other 0 ≡ mark_of (place_of keys other))
    → (other : ℕ) → other < n → get_or (set marks key (length keys + 1)) other 0 ≡ mark_of (place_of (keys ++ key ∷ []) other)
marks-added keys key marks n size small absent was other inside = search (rules, place_of-added, place_of-other)

-- A mark other than 0 is that of an index inside the list.
pub mark-inside : (keys : List ℕ) (key mark : ℕ) → mark ≡ mark_of (place_of keys key) → mark ≢ 0 → mark - 1 < length keys
mark-inside keys key mark is some = by (place_of keys key) (place_of-inside keys key) is
  where
    by : (o : Option ℕ) → IfSome o (λ place. place < length keys) → mark ≡ mark_of o → mark - 1 < length keys
    by None inside is = absurd (some is)
    by (Some place) inside is = omega arith

-- The directory of the keys answers a search by key among the values that `f` gives for a list.
module _ (X Y : Type 0) (f : X → Y) (p : Y → Bool) (k : X → ℕ) (key : ℕ) where
  -- The test of each value compares the key of its element.
  abbrev pub Same : List X → Type 0
  Same xs = AllByRecursion (λ x. p (f x) ≡ (k x == key)) xs

  pub find-absent : (xs : List X) → Same xs → place_of (map k xs) key ≡ None → find p (map f xs) ≡ None
  find-absent [] same absent = refl
  find-absent (x ∷ xs) same absent =
      let parts = absent-parts (k x) (map k xs) key absent in
      rw (same.0, parts.first) (find-absent xs same.1 parts.rest)

  pub place-absent : (xs : List X) → Same xs → find p (map f xs) ≡ None → place_of (map k xs) key ≡ None
  place-absent [] same absent = refl
  place-absent (x ∷ xs) same absent = by (k x == key) (rw same.0 at absent) (place-absent xs same.1)
    where
      by : (b : Bool) → cond b (Some (f x)) (find p (map f xs)) ≡ None → (find p (map f xs) ≡ None → place_of (map k xs) key ≡ None)
          → (if b then Some 0 else option_map suc (place_of (map k xs) key)) ≡ None
      by true absent more = cc absent
      by false absent more = rw (more absent) refl

  pub find-found : (xs : List X) (place : ℕ) (d : X) → Same xs → place_of (map k xs) key ≡ Some place → find p (map f xs) ≡ Some (f (get_or xs place d))
  find-found [] place d same found = cc found
  find-found (x ∷ xs) place d same found = rw same.0 (by (k x == key) (place_of (map k xs) key) refl found (λ at d. find-found xs at d same.1))
    where
      by : (b : Bool) (o : Option ℕ) → place_of (map k xs) key ≡ o → (if b then Some 0 else option_map suc o) ≡ Some place
          → ((place : ℕ) (d : X) → place_of (map k xs) key ≡ Some place → find p (map f xs) ≡ Some (f (get_or xs place d)))
          → cond b (Some (f x)) (find p (map f xs)) ≡ Some (f (get_or (x ∷ xs) place d))
      by true o e found more = rw (← same_Some _ _ found) refl
      by false None e found more = cc found
      by false (Some at) e found more = rw (← same_Some _ _ found) (more at d e)

-- ---- What Table B stores of its elements.

abbrev pub fxys_of : List Stored → List ℕ
fxys_of stored = map (λ s. s.fxy) stored

all-same : (octets : List ℕ) (fxy : ℕ) (stored : List Stored) → AllByRecursion (λ s. ((stored_row octets s).fxy == fxy) ≡ (s.fxy == fxy)) stored
all-same octets fxy [] = tt
all-same octets fxy (s ∷ stored) = (refl, all-same octets fxy stored)

-- The directory contains a descriptor if and only if the rows do.
pub entry-absent : (octets : List ℕ) (stored : List Stored) (fxy : ℕ) → place_of (fxys_of stored) fxy ≡ None → entry_of (stored_rows octets stored) fxy ≡ None
entry-absent octets stored fxy = find-absent Stored Row (stored_row octets) (λ row. row.fxy == fxy) (λ s. s.fxy) fxy stored (all-same octets fxy stored)

pub place-lacking : (octets : List ℕ) (stored : List Stored) (fxy : ℕ) → entry_of (stored_rows octets stored) fxy ≡ None → place_of (fxys_of stored) fxy ≡ None
place-lacking octets stored fxy = place-absent Stored Row (stored_row octets) (λ row. row.fxy == fxy) (λ s. s.fxy) fxy stored (all-same octets fxy stored)

pub entry-found : (octets : List ℕ) (stored : List Stored) (fxy place : ℕ) (d : Stored) → place_of (fxys_of stored) fxy ≡ Some place
    → entry_of (stored_rows octets stored) fxy ≡ Some (stored_row octets (get_or stored place d))
entry-found octets stored fxy place d = find-found Stored Row (stored_row octets) (λ row. row.fxy == fxy) (λ s. s.fxy) fxy stored place d (all-same octets fxy stored)

unlike : (a b : ℕ) → a < 16384 → 16384 ≤ b → (a == b) ≡ false
unlike a b small large = search rules

-- All rows are those of elements, so no other descriptor has a row.
pub entry-other : (octets : List ℕ) (stored : List Stored) (fxy : ℕ) → AllByRecursion (λ s. s.fxy < 16384) stored → 16384 ≤ fxy → entry_of (stored_rows octets stored) fxy ≡ None
entry-other octets [] fxy elements large = refl
entry-other octets (s ∷ stored) fxy elements large =
    let here : (s.fxy == fxy) ≡ false = unlike s.fxy fxy elements.0 large in
    rw here (entry-other octets stored fxy elements.1 large)

-- Octets that are appended to the block leave the rows unchanged.
pub range-append : (xs ys : List ℕ) (i j : ℕ) → i ≤ j → j ≤ length xs → slice_range (xs ++ ys) i j ≡ slice_range xs i j
range-append xs ys i j before inside = grind (arith, common_steps)

stored_row-append : (octets more : List ℕ) (s : Stored) → IsRowKept octets s → stored_row (octets ++ more) s ≡ stored_row octets s
stored_row-append octets more s kept = grind (arith, common_steps)

kept-append : (octets more : List ℕ) (s : Stored) → IsRowKept octets s → IsRowKept (octets ++ more) s
kept-append octets more s kept = search (rules, length-append, range-append)

pub stored_rows-append : (octets more : List ℕ) (stored : List Stored) → AllByRecursion (IsRowKept octets) stored → stored_rows (octets ++ more) stored ≡ stored_rows octets stored
stored_rows-append octets more [] kept = refl
stored_rows-append octets more (s ∷ stored) kept =
    let first = stored_row-append octets more s kept.0 in
    let rest = stored_rows-append octets more stored kept.1 in
    cc

all-kept : (octets more : List ℕ) (stored : List Stored) → AllByRecursion (IsRowKept octets) stored → AllByRecursion (IsRowKept (octets ++ more)) stored
all-kept octets more [] kept = tt
all-kept octets more (s ∷ stored) kept = (kept-append octets more s kept.0, all-kept octets more stored kept.1)

pub all-push : (P : Stored → Type 0) (stored : List Stored) (s : Stored) → AllByRecursion P stored → P s → AllByRecursion P (stored ++ s ∷ [])
all-push P [] s all here = (here, tt)
all-push P (t ∷ stored) s all here = (all.0, all-push P stored s all.1 here)

range-after : (before xs more : List ℕ) (i j : ℕ) → i ≡ length before → j ≡ i + length xs → slice_range (before ++ (xs ++ more)) i j ≡ xs
range-after before xs more i j at to = grind (arith, common_steps)

-- A row that was appended to a block can be read back.
module _ (before digits name unit : List ℕ) where
  abbrev line_started : List ℕ
  line_started = before ++ digits ++ codes " "

  abbrev pub named : List ℕ
  named = line_started ++ codes "  # " ++ name

  abbrev commented : List ℕ → List ℕ
  commented xs = xs ++ codes "  # " ++ name ++ codes " [" ++ unit ++ codes "]\n"

  abbrev pub row_pushed : List ℕ
  row_pushed = commented line_started

  grouped : (xs : List ℕ) → xs ++ name ++ codes " [" ++ unit ++ codes "]\n" ≡ xs ++ (name ++ (codes " [" ++ (unit ++ codes "]\n")))
  grouped xs = simp append_assoc

  parts : row_pushed ≡ line_started ++ commented []
  parts = simp (grouped, append_assoc)

  module _ (start middle end : ℕ) (six : length digits ≡ 6) (at : start ≡ length before) (to : middle ≡ length named) (ends : end ≡ length row_pushed) where
    after_start : start + 7 ≡ length line_started
    after_start = omega (arith, six, at, length-append (before ++ digits) (codes " "), length-append before digits)

    at_name : start + 11 ≡ length (line_started ++ codes "  # ")
    at_name = omega (arith, after_start, length-append line_started (codes "  # "))

    pub after_name : middle ≡ start + 11 + length name
    after_name = omega (arith, to, at_name, length-append (line_started ++ codes "  # ") name)

    at_unit : middle + 2 ≡ length (named ++ codes " [")
    at_unit = omega (arith, to, length-append named (codes " ["))

    pub after_unit : end ≡ middle + 4 + length unit
    after_unit = omega (arith, ends, at_unit, length-append (named ++ codes " [") unit, length-append (named ++ codes " [" ++ unit) (codes "]\n"))

    pub line_start-pushed : slice_range row_pushed start (start + 7) ≡ digits ++ codes " "
    line_start-pushed =
        let long : start + 7 ≡ start + length (digits ++ codes " ") = omega (arith, six, length-append digits (codes " ")) in
        ap (λ t. slice_range t start (start + 7)) (parts ∙ ap (λ t. t ++ commented []) (append_assoc before digits (codes " ")) ∙ append_assoc before (digits ++ codes " ") (commented []))
        ∙ range-after before (digits ++ codes " ") (commented []) start (start + 7) at long

    pub name-pushed : slice_range row_pushed (start + 11) middle ≡ name
    name-pushed =
        ap (λ t. slice_range t (start + 11) middle) (grouped (line_started ++ codes "  # "))
        ∙ range-after (line_started ++ codes "  # ") name (codes " [" ++ (unit ++ codes "]\n")) (start + 11) middle at_name after_name

    pub unit-pushed : slice_range row_pushed (middle + 2) (end - 2) ≡ unit
    unit-pushed =
        let long : end - 2 ≡ middle + 2 + length unit = omega (arith, after_unit) in
        ap (λ t. slice_range t (middle + 2) (end - 2)) (append_assoc (named ++ codes " [") unit (codes "]\n"))
        ∙ range-after (named ++ codes " [") unit (codes "]\n") (middle + 2) (end - 2) at_unit long

    pub comment-pushed : slice_range row_pushed (start + 7) end ≡ commented []
    comment-pushed =
        let long : end ≡ start + 7 + length (commented []) = omega (arith, after_start, ends, ap length parts, length-append line_started (commented [])) in
        ap (λ t. slice_range t (start + 7) end) (parts ∙ ap (λ t. line_started ++ t) (sym (append-nil (commented []))))
        ∙ range-after line_started (commented []) [] (start + 7) end after_start long

-- A row is stored if its three offsets are those of the appended text.
pub row-stored : (before : List ℕ) (row : ParsedRow) (s : Stored) (block : List ℕ) → block ≡ row_pushed before (fxy_text row.fxy) row.name.now row.unit.now
    → s.start ≡ length before → s.middle ≡ length (named before (fxy_text row.fxy) row.name.now row.unit.now) → s.end ≡ length block
    → (slice_range block (s.start + 11) s.middle ≡ row.name.now → slice_range block (s.middle + 2) (s.end - 2) ≡ row.unit.now → stored_row block s ≡ row_parsed row)
    → IsStored block row s
row-stored before row s block is at to ends says =
    let digits = fxy_text row.fxy in
    let name = row.name.now in
    let unit = row.unit.now in
    let ends : s.end ≡ length (row_pushed before digits name unit) = ends ∙ ap length is in
    let same = says (rw is (name-pushed before digits name unit s.start s.middle s.end refl at to ends)) (rw is (unit-pushed before digits name unit s.start s.middle s.end refl at to ends)) in
    let after_name = after_name before digits name unit s.start s.middle s.end refl at to ends in
    let after_unit = after_unit before digits name unit s.start s.middle s.end refl at to ends in
    record {
      same = same;
      kept = record {
        name = omega (arith, after_name);
        unit = omega (arith, after_unit);
        inside = rw is (omega (arith, ends));
        line_start = rw is (line_start-pushed before digits name unit s.start s.middle s.end refl at to ends) ∙ ap row_line_start (sym same);
        comment = rw is (comment-pushed before digits name unit s.start s.middle s.end refl at to ends) ∙ ap row_comment (sym same);
      };
    }

-- The key of an element consists of its X and Y.
pub element-key : (fxy : ℕ) → fxy < 16384 → key_of fxy ≡ fxy
element-key fxy small = omega arith

-- A descriptor that is not an element has no row.
pub entry-not_element : (octets : List ℕ) (stored : List Stored) (fxy : ℕ) → AllByRecursion (λ s. s.fxy < 16384) stored → f_of fxy ≢ 0 → entry_of (stored_rows octets stored) fxy ≡ None
entry-not_element octets stored fxy elements other = grind (arith, entry-other)

-- The row that is found is that of the element at its index.
pub entry-row : (octets : List ℕ) (stored : List Stored) (fxy place : ℕ) (s : Stored) → place_of (fxys_of stored) fxy ≡ Some place
    → s ≡ get_or stored place s → Some (stored_row octets s) ≡ entry_of (stored_rows octets stored) fxy
entry-row octets stored fxy place s found at = rw (entry-found octets stored fxy place s found, ← at) refl

-- the rows after another element is added
pub stored_rows-push : (old new : List ℕ) (stored : List Stored) (s : Stored) (row : ParsedRow) → AllByRecursion (IsRowKept old) stored → ExtendsBlock old new
    → IsStored new row s → stored_rows new (stored ++ s ∷ []) ≡ stored_rows old stored ++ row_parsed row ∷ []
stored_rows-push old new stored s row kept grows is = grind (arith, map-append, stored_rows-append)

pub kept-grown : (old new : List ℕ) (stored : List Stored) → AllByRecursion (IsRowKept old) stored → ExtendsBlock old new → AllByRecursion (IsRowKept new) stored
kept-grown old new stored kept grows = rw grows.1 (all-kept old grows.0 stored kept)

-- ---- The limits of each row of Table B.

-- a test that succeeded, and the value that follows
passed : {A P : Type 0} (test : Bool) (x y : A) → only_if test x ≡ Some y → (test ≡ true → x ≡ y → P) → P
passed true x y is go = go refl (cc is)
passed false x y is go = absurd (cc is)

name-plain : (text name : List ℕ) → plain_of text ≡ Some name → is_name name ≡ true
unfolding plain_of
name-plain text name is = passed _ text name is (λ test same. subst (λ t. is_name t ≡ true) same test)

scale-allowed : (text : List ℕ) (scale : ℤ) → scale_of text ≡ Some scale → nat_le (unsigned_abs scale) 127 ≡ true
unfolding scale_of
scale-allowed text scale is = grind arith

width-allowed : (kind : Kind) (text : List ℕ) (width : ℕ) → width_of kind text ≡ Some width → allows_width kind width ≡ true
unfolding width_of
width-allowed kind text width is = grind arith

-- The row of a record is within the limits.
pub row-limits : (r : Record) (row : Row) → row_of r ≡ Some row → IsRow row
unfolding row_of
row-limits r row is =
    option_and_then_some _ (element_of (field_of r 0)) row is (λ fxy fxy_is is.
    option_and_then_some _ (plain_of (field_of r 1)) row is (λ name name_is is.
    option_and_then_some _ (plain_of (field_of r 2)) row is (λ unit unit_is is.
    option_and_then_some _ (scale_of (field_of r 3)) row is (λ scale scale_is is.
    option_and_then_some _ (i64_of (field_of r 4)) row is (λ reference reference_is is.
    option_and_then_some _ (width_of (kind_of unit) (field_of r 5)) row is (λ width width_is is.
    passed _ _ row is (λ test same. subst IsRow same (record {
      name = name-plain (field_of r 1) name name_is;
      unit = name-plain (field_of r 2) unit unit_is;
      kind = refl;
      scale = scale-allowed (field_of r 3) scale scale_is;
      width = width-allowed (kind_of unit) (field_of r 5) width width_is;
      factor = test;
    }))))))))

-- Another row within the limits is added.
pub rows-push : (rows : List Row) (row : Row) → AllByRecursion IsRow rows → IsRow row → AllByRecursion IsRow (rows ++ row ∷ [])
rows-push [] row all here = (here, tt)
rows-push (first ∷ rows) row all here = (all.0, rows-push rows row all.1 here)

-- Rows stay within the limits when octets are appended to the block.
pub limits-grown : (old new : List ℕ) (stored : List Stored) → AllByRecursion (IsRowKept old) stored → ExtendsBlock old new → AllByRecursion IsRow (stored_rows old stored)
    → AllByRecursion IsRow (stored_rows new stored)
limits-grown old new stored kept grows all = rw (grows.1, stored_rows-append old grows.0 stored kept) all

-- A row that is found is one of the rows, so it is within the limits.
pub found-limits : (rows : List Row) (fxy : ℕ) (row : Row) → AllByRecursion IsRow rows → entry_of rows fxy ≡ Some row → IsRow row
found-limits [] fxy row all is = absurd (cc is)
found-limits (first ∷ rows) fxy row all is = by (nat_eq first.fxy fxy) is (found-limits rows fxy row all.1)
  where
    by : (b : Bool) → (if b then Some first else entry_of rows fxy) ≡ Some row → (entry_of rows fxy ≡ Some row → IsRow row) → IsRow row
    by true is next = subst IsRow (same is) all.0
      where
        same : Some first ≡ Some row → first ≡ row
        same e = cc e
    by false is next = next is

same_Ok : (x y : List Row) → ◌≡◌ {A = Result (List Row) TableFault} (Ok x) (Ok y) → x ≡ y
same_Ok x y e = cc e

-- The record adds a row.
pub record AddsRow (rows : List Row) (r : Record) (longer : List Row) : Type 0 where
  pub row : Row
  pub written : row_of r ≡ Some row
  pub added : longer ≡ rows ++ row ∷ []
  pub absent : entry_of rows row.fxy ≡ None

record-adds : (n : ℕ) (rows : List Row) (r : Record) (longer : List Row) → with_record_b n rows r ≡ Ok longer → AddsRow rows r longer
unfolding with_record_b
record-adds n rows r longer is = search (rules, same_Ok)

same-keys : (fxy : ℕ) (rows : List Row) → AllByRecursion (λ row. (row.fxy == fxy) ≡ (row.fxy == fxy)) rows
same-keys fxy [] = tt
same-keys fxy (row ∷ rows) = (refl, same-keys fxy rows)

-- the rows that the remaining records add
pub record AddRows (rows : List Row) (rs : List Record) (table : List Row) : Type 0 where
  pub more : List Row
  pub longer : table ≡ rows ++ more
  pub written : map row_of rs ≡ map Some more
  pub distinct : IsDistinct nat_eq (map (λ row. row.fxy) table)

rows-add : (n : ℕ) (rows : List Row) (rs : List Record) (table : List Row) → table_from with_record_b n rows rs ≡ Ok table → IsDistinct nat_eq (map (λ row. row.fxy) rows) → AddRows rows rs table
unfolding table_from
rows-add n rows [] table is distinct =
    let same : rows ≡ table = same_Ok _ _ is in
    record { more = []; longer = sym same ∙ sym (append-nil rows); written = refl; distinct = rw (← same) distinct }
rows-add n rows (r ∷ rs) table is distinct = by (with_record_b n rows r) refl is (λ longer. rows-add (n + 1) longer rs table)
  where
    by : (o : Result (List Row) TableFault) → with_record_b n rows r ≡ o → (o >>= (λ longer. table_from with_record_b (n + 1) longer rs)) ≡ Ok table
        → ((longer : List Row) → table_from with_record_b (n + 1) longer rs ≡ Ok table → IsDistinct nat_eq (map (λ row. row.fxy) longer) → AddRows longer rs table)
        → AddRows rows (r ∷ rs) table
    by (Err fault) e is on = cc is
    by (Ok longer) e is on =
        let adds = record-adds n rows r longer e in
        let absent = place-absent Row Row (λ row. row) (λ row. row.fxy == adds.row.fxy) (λ row. row.fxy) adds.row.fxy rows (same-keys adds.row.fxy rows) (rw map-id adds.absent) in
        let apart : IsDistinct nat_eq (map (λ (row : Row). row.fxy) longer) = rw (adds.added, map-append) (distinct-added (map (λ row. row.fxy) rows) adds.row.fxy distinct absent) in
        let rest = on longer is apart in
        record {
          more = adds.row ∷ rest.more;
          longer = rest.longer ∙ ap (λ (q : List Row). q ++ rest.more) adds.added ∙ append_assoc rows (adds.row ∷ []) rest.more;
          written = rw adds.written (ap (λ (os : List (Option Row)). Some adds.row ∷ os) rest.written);
          distinct = rest.distinct;
        }

pub rows-law : (records : List Record) (table : List Row) → table_b_of records ≡ Ok table → AreRows records table
unfolding table_of
rows-law [] table is = cc is
rows-law (first ∷ rest) table is = by (pointwise bytes_eq first columns_b) refl is
  where
    by : (b : Bool) → pointwise bytes_eq first columns_b ≡ b → (if b then table_from with_record_b 2 [] rest else Err Header) ≡ Ok table → AreRows (first ∷ rest) table
    by false e is = cc is
    by true e is =
        let add = rows-add 2 [] rest table is distinct-none in
        record { rest = rest; split = ap (λ fields. fields ∷ rest) (names-are first _ e); rows = rw add.longer add.written; distinct = add.distinct }
