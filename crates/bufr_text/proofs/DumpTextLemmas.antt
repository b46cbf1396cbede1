-- A dump text is read as the document of its message, and as nothing else.
use Rattle.std.proofs.Common.{zero, suc, ◌≡◌, ◌∙◌, ℕ, ◌+◌, ◌≤◌, ◌==◌, ◌&&◌, nat_le, Bool, true, false, List, [], ◌∷◌, ◌++◌, length, map, refl, sym, ap, arith, append_assoc, append-nil, length-append, ◌<◌, codes, Option, Some, None, slice_index, is_some, unwrap_or, rules}
use Rattle.std.specs.List.{concat, AllByRecursion}
use Rattle.std.proofs.lemmas.Bool.Decides.{nat_tests}
use Rattle.std.proofs.lemmas.List.{length-map}
use Rattle.bufr_fill.specs.Prelude.{draft, DraftEntry, Holds, Ends}
use Rattle.bufr_text.specs.Prelude.{header_in, leasts, mosts, Document, Heading, BeforeSubsets, Filling, Continues, Completes, Parsing, between, in_range, with_entry, line_step, read_line, parse_lines, lines_of, documents_of, blank, Complete, Line, MessageLine, Header, Local1, Section2, Descriptors, SubsetLine, ItemLine, EndLine, header_lines, local1_line, section2_line, descriptors_line, subset_line, subset_lines, item_text, dump_value_of, item_entries, subset_entries, IsOctet, IsDescriptorWord, IsItem, header_of, head_lines, dump_lines, dump_text_of, document_of, lines_before, IsDumpable, runs_of, runs_after, split_of, before_subsets}
use Rattle.bufr_text.specs.declared.document.LineGroup.{LineGroup}
use Rattle.bufr_text.specs.declared.document.LineGroup.TheVariants as group
use Rattle.bufr_text.proofs.HeaderLemmas.{any-edition, with_value, with_local1, with_section2, with_descriptors}
use Rattle.bufr_text.proofs.LineLemmas.{IsLineOf, header-line, local1-line, section2-line, descriptors-line, subset-line, item-line, end-line, IsRun, message-line, runs-after, concat-after, IsAbove, lines-back}
use Rattle.bufr_frame.specs.Prelude.{IsFitting, is_edition, greatest_values, values_of, Sections}
use Rattle.bufr_frame.proofs.AgainLemmas.{by-third}
use Rattle.std.specs.List.{list_all}
use Rattle.std.proofs.lemmas.Grind.{common_steps}
use Rattle.bufr_walk.specs.Prelude.{View}
use Rattle.std.specs.Int.{from_bool}

-- ---- The lines of a dump text are read as one document.

-- The line is not too long, so `read_line` returns its meaning.
said-is : (line : List ℕ) (meaning : Line) → IsLineOf line meaning → read_line line ≡ meaning
said-is line meaning h1 = grind arith

-- Reading continues after a line, or the line completes a document.
pub goes : (at : ℕ) (parsing next : Parsing) (line : List ℕ) (meaning : Line) (more : List (List ℕ)) → IsLineOf line meaning → line_step at parsing meaning ≡ (Continues next.0, next.1)
    → parse_lines at parsing (line ∷ more) ≡ parse_lines (at + 1) next more
unfolding parse_lines
goes at parsing next line meaning more is e = rw (said-is line meaning is, e) refl

pub gives : (at : ℕ) (parsing : Parsing) (d : Document) (line : List ℕ) (meaning : Line) (more : List (List ℕ)) → IsLineOf line meaning → line_step at parsing meaning ≡ (Completes, d)
    → parse_lines at parsing (line ∷ more) ≡ Complete d ∷ parse_lines (at + 1) between more
unfolding parse_lines
gives at parsing d line meaning more is e = rw (said-is line meaning is, e) refl

-- ---- The header lines.

abbrev pub with_header : Document → List ℕ → Document
with_header d values = record d { header = values }

abbrev pub InRange : (edition key : ℕ) → List ℕ → Type 0
InRange edition key [] = Unit {0}
InRange edition key (value ∷ more) = (in_range edition key value ≡ true) × (value < 65536) × InRange edition (key + 1) more

same-key : (k : ℕ) (d : Document) → k ≡ length d.header → (k == length d.header) ≡ true
same-key k d e = grind arith

not-last : (k : ℕ) → k < 19 → (k == 19) ≡ false
not-last k h = grind arith

-- The first value, which is the edition, stays the same if more values are appended.
first-stays : (xs ys : List ℕ) → 0 < length xs → slice_index (xs ++ ys) 0 ≡ slice_index xs 0
first-stays [] ys some = absurd (omega (arith, some))
first-stays (x ∷ xs) ys some = refl

ranged : (edition k value : ℕ) (d : Document) → (header_in d).head.edition ≡ edition → in_range edition k value ≡ true → in_range (header_in d).head.edition k value ≡ true
ranged edition k value d same range = rw (same, range)

run-on : (edition k : ℕ) (value : ℕ) (values : List ℕ) (d : Document) (at : ℕ) (more : List (List ℕ)) → 0 < k → k + length values ≡ 19 → k ≡ length d.header → (header_in d).head.edition ≡ edition
    → InRange edition k (value ∷ values)
    → parse_lines at (Heading, d) (header_lines k (value ∷ values) ++ more) ≡ parse_lines (at + 1 + length values) (BeforeSubsets group.Local1, with_header d (d.header ++ value ∷ values)) more
unfolding header_lines line_step
run-on edition k value [] d at more suffix count is same (range, small, rest) =
    let is_last : (k == 19) ≡ true = grind (arith, nat_tests) in
    grind (
      arith,
      goes at (Heading, d) (BeforeSubsets group.Local1, with_value d value) _ (Header k value) more (header-line k value (omega arith) small)
          (rw (same-key k d is, ranged edition k value d same range, is_last) refl),
    )
run-on edition k value (v ∷ values) d at more suffix count is same (range, small, rest) =
    goes at (Heading, d) (Heading, with_value d value) _ (Header k value) (header_lines (k + 1) (v ∷ values) ++ more) (header-line k value (omega arith) small)
    (rw (same-key k d is, ranged edition k value d same range, not-last k (omega arith)) refl)
    ∙ run-on edition (k + 1) v values (with_value d value) (at + 1) more (omega arith) (omega arith) (omega (arith, length-append d.header (value ∷ [])))
    (first-stays d.header (value ∷ []) (omega (arith, suffix, is)) ∙ same) rest
    ∙ ap (λ (t : List ℕ). parse_lines (at + 1 + 1 + length values) (BeforeSubsets group.Local1, with_header d t) more) (append_assoc d.header (value ∷ []) (v ∷ values))
    ∙ ap (λ n. parse_lines n (BeforeSubsets group.Local1, with_header d (d.header ++ value ∷ v ∷ values)) more) (omega arith)

-- The edition comes first, and its range does not depend on an edition.
pub header-run : (edition v : ℕ) (values : List ℕ) (line at : ℕ) (more : List (List ℕ)) → length values ≡ 18 → InRange edition 0 (edition ∷ v ∷ values)
    → parse_lines at (Heading, blank line) (header_lines 0 (edition ∷ v ∷ values) ++ more)
    ≡ parse_lines (at + 1 + 19) (BeforeSubsets group.Local1, with_header (blank line) (edition ∷ v ∷ values)) more
unfolding header_lines line_step
header-run edition v values line at more count (range, small, rest) =
    let d = blank line in
    let first : in_range 0 0 edition ≡ true = any-edition 0 edition edition ∙ range in
    goes at (Heading, d) (Heading, with_value d edition) _ (Header 0 edition) (header_lines 1 (v ∷ values) ++ more) (header-line 0 edition (omega arith) small) (rw first refl)
    ∙ run-on edition 1 v values (with_value d edition) (at + 1) more (omega arith) (omega (arith, count)) refl refl rest
    ∙ ap (λ n. parse_lines n (BeforeSubsets group.Local1, with_header d (edition ∷ v ∷ values)) more) (omega arith)

-- ---- The `local1`, `section2` and `descriptors` lines.

pub local1-run : (runs : List (List ℕ)) (d : Document) (at : ℕ) (more : List (List ℕ)) → AllByRecursion (IsRun IsOctet 32) runs
    → parse_lines at (BeforeSubsets group.Local1, d) (map local1_line runs ++ more) ≡ parse_lines (at + length runs) (BeforeSubsets group.Local1, with_local1 d (concat runs)) more
unfolding line_step
local1-run [] d at more all = grind (arith, common_steps, append-nil, with_local1)
local1-run (run ∷ runs) d at more (here, all) = grind (
  arith,
  common_steps,
  goes at (BeforeSubsets group.Local1, d) (BeforeSubsets group.Local1, with_local1 d run) _ (Local1 run) (map local1_line runs ++ more) (local1-line run here.all here.some here.few) refl,
  local1-run runs (with_local1 d run) (at + 1) more all,
  append_assoc d.local1 run (concat runs),
)

-- the group of lines that was read last: `next`, if there were any runs to read
pub written : (part : LineGroup) → List (List ℕ) → (next : LineGroup) → LineGroup
written part [] next = part
written part (run ∷ runs) next = next

written-again : (runs : List (List ℕ)) (next : LineGroup) → written next runs next ≡ next
unfolding written
written-again [] next = refl
written-again (run ∷ runs) next = refl

section2-step : (part : LineGroup) (d : Document) (octets : List ℕ) → (part ≡ group.Descriptors → ⊥) → (header_in d).optional ≡ true
    → before_subsets d (Section2 octets) part ≡ (Continues (BeforeSubsets group.Section2), with_section2 d octets)
section2-step group.Local1 d octets early there = rw there refl
section2-step group.Section2 d octets early there = rw there refl
section2-step group.Descriptors d octets early there = absurd (early refl)

pub section2-run : (runs : List (List ℕ)) (part : LineGroup) (d : Document) (at : ℕ) (more : List (List ℕ)) → (part ≡ group.Descriptors → ⊥) → (0 < length runs → slice_index d.header 18 ≡ 1)
    → AllByRecursion (IsRun IsOctet 32) runs
    → parse_lines at (BeforeSubsets part, d) (map section2_line runs ++ more) ≡ parse_lines (at + length runs) (BeforeSubsets (written part runs group.Section2), with_section2 d (concat runs)) more
unfolding line_step written
section2-run [] part d at more early optional all = grind (arith, common_steps, append-nil d.section2)
section2-run (run ∷ runs) part d at more early optional (here, all) =
    let there : (header_in d).optional ≡ true = grind (arith, nat_tests, optional (omega arith)) in
    goes at (BeforeSubsets part, d) (BeforeSubsets group.Section2, with_section2 d run) _ (Section2 run) (map section2_line runs ++ more) (section2-line run here.all here.some here.few)
    (section2-step part d run early there)
    ∙ section2-run runs group.Section2 (with_section2 d run) (at + 1) more (λ e. cc) (λ some. optional (omega arith)) all
    ∙ ap (λ (p : LineGroup). parse_lines (at + 1 + length runs) (BeforeSubsets p, with_section2 (with_section2 d run) (concat runs)) more) (written-again runs group.Section2)
    ∙ ap (λ (t : List ℕ). parse_lines (at + 1 + length runs) (BeforeSubsets group.Section2, record d { section2 = t }) more) (append_assoc d.section2 run (concat runs))
    ∙ ap (λ n. parse_lines n (BeforeSubsets group.Section2, with_section2 d (concat (run ∷ runs))) more) (omega arith)

pub descriptors-run : (runs : List (List ℕ)) (part : LineGroup) (d : Document) (at : ℕ) (more : List (List ℕ)) → AllByRecursion (IsRun IsDescriptorWord 8) runs
    → parse_lines at (BeforeSubsets part, d) (map descriptors_line runs ++ more)
    ≡ parse_lines (at + length runs) (BeforeSubsets (written part runs group.Descriptors), with_descriptors d (concat runs)) more
unfolding line_step written
descriptors-run [] part d at more all = grind (arith, common_steps, append-nil d.descriptors)
descriptors-run (run ∷ runs) part d at more (here, all) =
    goes at (BeforeSubsets part, d) (BeforeSubsets group.Descriptors, with_descriptors d run) _ (Descriptors run) (map descriptors_line runs ++ more)
    (descriptors-line run here.all here.some here.few) refl
    ∙ descriptors-run runs group.Descriptors (with_descriptors d run) (at + 1) more all
    ∙ ap (λ (p : LineGroup). parse_lines (at + 1 + length runs) (BeforeSubsets p, with_descriptors (with_descriptors d run) (concat runs)) more) (written-again runs group.Descriptors)
    ∙ ap (λ (t : List ℕ). parse_lines (at + 1 + length runs) (BeforeSubsets group.Descriptors, record d { descriptors = t }) more) (append_assoc d.descriptors run (concat runs))
    ∙ ap (λ n. parse_lines n (BeforeSubsets group.Descriptors, with_descriptors d (concat (run ∷ runs))) more) (omega arith)

-- ---- The lines of the subsets.

abbrev pub with_entries : Document → List DraftEntry → Document
with_entries d entries = record d { entries = d.entries ++ entries }

items-run : (items : List View) (subset : ℕ) (d : Document) (at : ℕ) (more : List (List ℕ)) → AllByRecursion IsItem items
    → parse_lines at (Filling subset, d) (map item_text items ++ more) ≡ parse_lines (at + length items) (Filling subset, with_entries d (item_entries at items)) more
unfolding line_step item_entries
items-run [] subset d at more all =
    ap (λ (t : List DraftEntry). parse_lines at (Filling subset, record d { entries = t }) more) (sym (append-nil d.entries))
    ∙ ap (λ n. parse_lines n (Filling subset, with_entries d []) more) (omega arith)
items-run (item ∷ items) subset d at more (here, all) =
    let one : DraftEntry = Holds (draft at item.fxy (dump_value_of item.value)) in
    grind (
      arith,
      goes at (Filling subset, d) (Filling subset, with_entry d one) _ (ItemLine item.fxy (dump_value_of item.value)) (map item_text items ++ more) (item-line item here)
          refl,
      items-run items subset (with_entry d one) (at + 1) more all,
      append_assoc d.entries (one ∷ []) (item_entries (at + 1) items),
    )

subset-lines-count : (n : ℕ) (items : List View) (subsets : List (List View)) → length (subset_lines n (items ∷ subsets)) ≡ 1 + length items + length (subset_lines (n + 1) subsets)
unfolding subset_lines
subset-lines-count n items subsets = omega (arith, length-append (map item_text items) (subset_lines (n + 1) subsets), length-map items item_text)

-- The `subset` line is read, and then the lines of the items.
subset-run : (items : List View) (subset : ℕ) (d : Document) (at : ℕ) (parsing : Parsing) (tail more : List (List ℕ)) → subset < 65536 → AllByRecursion IsItem items
    → line_step at parsing (SubsetLine subset) ≡ (Continues (Filling subset), d)
    → parse_lines at parsing ((subset_line subset ∷ (map item_text items ++ tail)) ++ more)
    ≡ parse_lines (at + 1 + length items) (Filling subset, with_entries d (item_entries (at + 1) items)) (tail ++ more)
subset-run items subset d at parsing tail more few all begins = cc (
  goes at parsing (Filling subset, d) _ (SubsetLine subset) ((map item_text items ++ tail) ++ more) (subset-line subset few) begins,
  append_assoc (map item_text items) tail more,
  items-run items subset d (at + 1) (tail ++ more) all,
)

subsets-run : (subsets : List (List View)) (n : ℕ) (d : Document) (at : ℕ) (more : List (List ℕ)) → n + length subsets ≡ (header_in d).subsets → (header_in d).subsets < 65536
    → AllByRecursion (λ items. AllByRecursion IsItem items) subsets
    → parse_lines at (Filling n, d) (subset_lines (n + 1) subsets ++ codes "end" ∷ more)
    ≡ Complete (with_entries d (Ends at ∷ subset_entries at subsets)) ∷ parse_lines (at + length (subset_lines (n + 1) subsets) + 1) between more
unfolding line_step subset_entries subset_lines
subsets-run [] n d at more stated few all =
    let closed : (n == (header_in d).subsets) ≡ true = grind arith in
    gives at (Filling n, d) (with_entry d (Ends at)) _ EndLine more end-line (rw closed refl)
    ∙ ap (λ k. Complete (with_entry d (Ends at)) ∷ parse_lines k between more) (omega arith)
subsets-run (items ∷ subsets) n d at more stated few (here, all) =
    let next : (n + 1 == n + 1) ≡ true = grind arith in
    let allowed : nat_le (n + 1) (header_in d).subsets ≡ true = grind arith in
    let d' = with_entry d (Ends at) in
    let own = item_entries (at + 1) items in
    let later = subset_entries (at + 1 + length items) subsets in
    let tail = subset_lines (n + 1 + 1) subsets in
    subset-run items (n + 1) d' at (Filling n, d) tail (codes "end" ∷ more) (omega (arith, stated, few)) here (rw (next, allowed) refl)
    ∙ subsets-run subsets (n + 1) (with_entries d' own) (at + 1 + length items) more (omega (arith, stated)) few all
    ∙ ap (λ (t : List DraftEntry). Complete (record d { entries = t }) ∷ parse_lines (at + 1 + length items + length tail + 1) between more)
    (append_assoc (d.entries ++ Ends at ∷ []) own (Ends (at + 1 + length items) ∷ later) ∙ append_assoc d.entries (Ends at ∷ []) (own ++ (Ends (at + 1 + length items) ∷ later)))
    ∙ ap (λ k. Complete (with_entries d (Ends at ∷ subset_entries at (items ∷ subsets))) ∷ parse_lines k between more) (omega (arith, subset-lines-count (n + 1) items subsets))

-- the lines of the subsets and the `end` line, after the lines before the subsets
pub subsets-written : (subsets : List (List View)) (part : LineGroup) (d : Document) (at : ℕ) (more : List (List ℕ)) → d.entries ≡ [] → length subsets ≡ (header_in d).subsets
    → (header_in d).subsets < 65536
    → AllByRecursion (λ items. AllByRecursion IsItem items) subsets
    → parse_lines at (BeforeSubsets part, d) (subset_lines 1 subsets ++ codes "end" ∷ more)
    ≡ Complete (with_entries d (subset_entries at subsets)) ∷ parse_lines (at + length (subset_lines 1 subsets) + 1) between more
unfolding line_step subset_entries subset_lines
subsets-written [] part d at more none stated few all =
    let closed : (0 == (header_in d).subsets) ≡ true = grind arith in
    grind (arith, gives at (BeforeSubsets part, d) d _ EndLine more end-line (rw closed refl))
subsets-written (items ∷ subsets) part d at more none stated few (here, all) =
    let allowed : nat_le 1 (header_in d).subsets ≡ true = grind arith in
    let own = item_entries (at + 1) items in
    let later = subset_entries (at + 1 + length items) subsets in
    let tail = subset_lines 2 subsets in
    subset-run items 1 d at (BeforeSubsets part, d) tail (codes "end" ∷ more) (omega arith) here (rw allowed refl)
    ∙ subsets-run subsets 1 (with_entries d own) (at + 1 + length items) more (omega arith) few all
    ∙ ap (λ (t : List DraftEntry). Complete (record d { entries = t }) ∷ parse_lines (at + 1 + length items + length tail + 1) between more)
    (append_assoc d.entries own (Ends (at + 1 + length items) ∷ later))
    ∙ ap (λ k. Complete (with_entries d (subset_entries at (items ∷ subsets))) ∷ parse_lines k between more) (omega (arith, subset-lines-count 1 items subsets))

-- ---- The header values are in range.

up_to : (least most v : ℕ) → least ≤ v → v ≤ most → (nat_le least v && nat_le v most) ≡ true
up_to least most v h k = grind arith

bit-few : (on : Bool) → from_bool on ≤ 1
bit-few true = omega arith
bit-few false = omega arith

all-few : (xs : List ℕ) (i : ℕ) → list_all (λ n. nat_le n 65535) xs ≡ true → slice_index xs i ≤ 65535
all-few [] i all = omega arith
all-few (x ∷ xs) zero all = grind arith
all-few (x ∷ xs) (suc i) all = all-few xs i (grind arith)

edition-few : (edition : ℕ) → is_edition edition ≡ true → ((nat_le 3 edition && nat_le edition 4) ≡ true) × (edition < 65536)
edition-few edition h1 = grind arith

header-fits : (s : Sections) → IsFitting s.head → s.subsets < 65536 → InRange s.head.edition 0 (header_of s)
unfolding leasts mosts
header-fits s h few =
    let vs = values_of s.head in
    let ms = greatest_values s.head.edition in
    let held : (i : ℕ) → (((nat_le 0 (slice_index vs i) && nat_le (slice_index vs i) (slice_index ms i)) ≡ true) × (slice_index vs i < 65536)) =
    λ i. (
      up_to 0 (slice_index ms i) (slice_index vs i) (omega arith) (h.fits i),
      omega (arith, h.fits i, by-third (λ l. slice_index l i ≤ 65535) s.head.edition (all-few (greatest_values 3) i refl) (all-few (greatest_values 4) i refl)),
    ) in
    let flag : (v : ℕ) → v ≤ 1 → (((nat_le 0 v && nat_le v 1) ≡ true) × (v < 65536)) = search (rules, up_to) in
    let edition = edition-few s.head.edition h.edition in (
      edition.0,
      edition.1,
      (
        (held 0).0,
        (held 0).1,
        (
          (held 1).0,
          (held 1).1,
          (
            (held 2).0,
            (held 2).1,
            (
              (held 3).0,
              (held 3).1,
              (
                (held 4).0,
                (held 4).1,
                (
                  (held 5).0,
                  (held 5).1,
                  (
                    (held 6).0,
                    (held 6).1,
                    (
                      (held 7).0,
                      (held 7).1,
                      (
                        (held 8).0,
                        (held 8).1,
                        (
                          (held 9).0,
                          (held 9).1,
                          (
                            (held 10).0,
                            (held 10).1,
                            (
                              (held 11).0,
                              (held 11).1,
                              (
                                (held 12).0,
                                (held 12).1,
                                (
                                  (held 13).0,
                                  (held 13).1,
                                  (
                                    (held 14).0,
                                    (held 14).1,
                                    (
                                      (flag (from_bool s.observed) (bit-few s.observed)).0,
                                      (flag (from_bool s.observed) (bit-few s.observed)).1,
                                      (
                                        (flag (from_bool s.compressed) (bit-few s.compressed)).0,
                                        (flag (from_bool s.compressed) (bit-few s.compressed)).1,
                                        (
                                          (flag (from_bool (is_some s.section2)) (bit-few (is_some s.section2))).0,
                                          (flag (from_bool (is_some s.section2)) (bit-few (is_some s.section2))).1,
                                          (up_to 0 65535 s.subsets (omega arith) (omega (arith, few)), few, tt),
                                        ),
                                      ),
                                    ),
                                  ),
                                ),
                              ),
                            ),
                          ),
                        ),
                      ),
                    ),
                  ),
                ),
              ),
            ),
          ),
        ),
      ),
    )

-- There are `section2` lines only if there is a section 2.
optional-there : (section2 : Option (List ℕ)) → 0 < length (runs_of 32 (unwrap_or section2 [])) → from_bool (is_some section2) ≡ 1
unfolding runs_after
optional-there None some = absurd (omega arith)
optional-there (Some octets) some = refl

-- a document with these parts
abbrev document_with : (line : ℕ) → (header local1 section2 descriptors : List ℕ) → List (List View) → (at : ℕ) → Document
document_with line header local1 section2 descriptors subsets at =
    record { line = line; header = header; local1 = local1; section2 = section2; descriptors = descriptors; entries = subset_entries at subsets }

header-tail : Sections → List ℕ
header-tail s = let h = s.head in
    h.centre ∷ h.subcentre ∷ h.update ∷ h.category ∷ h.subcategory ∷ h.local_subcategory ∷ h.master_version
    ∷ h.local_version ∷ h.year ∷ h.month ∷ h.day ∷ h.hour ∷ h.minute ∷ h.second ∷ from_bool s.observed ∷ from_bool s.compressed
    ∷ from_bool (is_some s.section2) ∷ s.subsets ∷ []

all-lines-run : (s : Sections) (subsets : List (List View)) (at : ℕ) (more : List (List ℕ)) → IsDumpable s subsets →
    let a = runs_of 32 s.local1 in
    let b = runs_of 32 (unwrap_or s.section2 []) in
    let c = runs_of 8 s.descriptors in
    let e = at + 1 + 1 + 19 + length a + length b + length c in
    parse_lines at between (codes "message" ∷ (header_lines 0 (header_of s)
    ++ (map local1_line a ++ (map section2_line b ++ (map descriptors_line c ++ (subset_lines 1 subsets ++ codes "end" ∷ more))))))
    ≡ Complete (document_with at (header_of s) (concat a) (concat b) (concat c) subsets e) ∷ parse_lines (e + length (subset_lines 1 subsets) + 1) between more
unfolding line_step header-tail
all-lines-run s subsets at more given =
    let a = runs_of 32 s.local1 in
    let b = runs_of 32 (unwrap_or s.section2 []) in
    let c = runs_of 8 s.descriptors in
    let d0 = blank at in
    let d1 : Document = record d0 { header = header_of s } in
    let d2 : Document = record d1 { local1 = concat a } in
    let d3 : Document = record d2 { section2 = concat b } in
    let d4 : Document = record d3 { descriptors = concat c } in
    let D = subset_lines 1 subsets ++ codes "end" ∷ more in
    let C = map descriptors_line c ++ D in
    let B = map section2_line b ++ C in
    let A = map local1_line a ++ B in
    goes at between (Heading, d0) (codes "message") MessageLine (header_lines 0 (header_of s) ++ A) message-line refl
    ∙ header-run s.head.edition s.head.master (header-tail s) at (at + 1) A refl (header-fits s given.head given.few)
    ∙ local1-run a d1 (at + 1 + 1 + 19) B (runs-after IsOctet 0 31 s.local1 given.local1)
    ∙ section2-run b group.Local1 d2 (at + 1 + 1 + 19 + length a) C (λ e. cc) (λ some. optional-there s.section2 some) (runs-after IsOctet 0 31 (unwrap_or s.section2 []) given.section2)
    ∙ descriptors-run c (written group.Local1 b group.Section2) d3 (at + 1 + 1 + 19 + length a + length b) D (runs-after IsDescriptorWord 0 7 s.descriptors given.descriptors)
    ∙ subsets-written subsets (written (written group.Local1 b group.Section2) c group.Descriptors) d4 (at + 1 + 1 + 19 + length a + length b + length c) more refl given.counted
    (omega (arith, given.few)) given.items

header-lines-count : (k : ℕ) (values : List ℕ) → length (header_lines k values) ≡ length values
unfolding header_lines
header-lines-count k [] = refl
header-lines-count k (v ∷ values) = omega (arith, header-lines-count (k + 1) values)

dump-lines-count : (s : Sections) (subsets : List (List View)) → length (dump_lines s subsets) ≡ lines_before s + length (subset_lines 1 subsets) + 1
dump-lines-count s subsets = grind (arith, common_steps, header-lines-count)

dump-lines-more : (s : Sections) (subsets : List (List View)) (more : List (List ℕ)) →
    dump_lines s subsets ++ more ≡ codes "message" ∷ (header_lines 0 (header_of s)
    ++ (map local1_line (runs_of 32 s.local1) ++ (map section2_line (runs_of 32 (unwrap_or s.section2 []))
    ++ (map descriptors_line (runs_of 8 s.descriptors) ++ (subset_lines 1 subsets ++ codes "end" ∷ more)))))
dump-lines-more s subsets more = grind (arith, nat_tests, common_steps)

pub dump-spells : (s : Sections) (subsets : List (List View)) (at : ℕ) (more : List (List ℕ)) → IsDumpable s subsets
    → parse_lines at between (dump_lines s subsets ++ more) ≡ Complete (document_of at s subsets) ∷ parse_lines (at + length (dump_lines s subsets)) between more
dump-spells s subsets at more given =
    let a = runs_of 32 s.local1 in
    let b = runs_of 32 (unwrap_or s.section2 []) in
    let c = runs_of 8 s.descriptors in
    let n = length (subset_lines 1 subsets) in
    let e = at + 1 + 1 + 19 + length a + length b + length c in
    let H = header_of s in
    let rest = parse_lines (e + n + 1) between more in
    ap (parse_lines at between) (dump-lines-more s subsets more)
    ∙ all-lines-run s subsets at more given
    ∙ ap (λ (t : List ℕ). Complete (document_with at H t (concat b) (concat c) subsets e) ∷ rest) (concat-after 0 31 s.local1)
    ∙ ap (λ (t : List ℕ). Complete (document_with at H s.local1 t (concat c) subsets e) ∷ rest) (concat-after 0 31 (unwrap_or s.section2 []))
    ∙ ap (λ (t : List ℕ). Complete (document_with at H s.local1 (unwrap_or s.section2 []) t subsets e) ∷ rest) (concat-after 0 7 s.descriptors)
    ∙ ap (λ (k : ℕ). Complete (document_with at H s.local1 (unwrap_or s.section2 []) s.descriptors subsets k) ∷ rest) (omega arith)
    ∙ ap (λ (k : ℕ). Complete (document_of at s subsets) ∷ parse_lines k between more) (omega (arith, dump-lines-count s subsets))

-- ---- No line of a dump text contains a line feed.

above-both : (a b : List (List ℕ)) → AllByRecursion IsAbove a → AllByRecursion IsAbove b → AllByRecursion IsAbove (a ++ b)
above-both [] b x y = y
above-both (line ∷ a) b (here, x) y = (here, above-both a b x y)

above-header : (edition k : ℕ) (values : List ℕ) → k + length values ≤ 20 → InRange edition k values → AllByRecursion IsAbove (header_lines k values)
unfolding header_lines
above-header e k [] few fits = tt
above-header e k (v ∷ values) few (range, small, fits) = ((header-line k v (omega arith) small).clean, above-header e (k + 1) values (omega arith) fits)

above-runs : (P : ℕ → Type 0) (most : ℕ) (line : List ℕ → List ℕ) (meaning : List ℕ → Line)
    (is : (xs : List ℕ) → AllByRecursion P xs → 0 < length xs → length xs ≤ most → IsLineOf (line xs) (meaning xs))
    (runs : List (List ℕ)) → AllByRecursion (IsRun P most) runs → AllByRecursion IsAbove (map line runs)
above-runs P most line meaning is [] all = tt
above-runs P most line meaning is (run ∷ runs) (here, all) = ((is run here.all here.some here.few).clean, above-runs P most line meaning is runs all)

above-items : (items : List View) → AllByRecursion IsItem items → AllByRecursion IsAbove (map item_text items)
above-items [] all = tt
above-items (item ∷ items) (here, all) = ((item-line item here).clean, above-items items all)

above-subsets : (n : ℕ) (subsets : List (List View)) → n + length subsets ≤ 65536 → AllByRecursion (λ items. AllByRecursion IsItem items) subsets → AllByRecursion IsAbove (subset_lines n subsets)
unfolding subset_lines
above-subsets n [] few all = tt
above-subsets n (items ∷ subsets) few (here, all) =
    ((subset-line n (omega arith)).clean, above-both (map item_text items) (subset_lines (n + 1) subsets) (above-items items here) (above-subsets (n + 1) subsets (omega arith) all))

above-dump : (s : Sections) (subsets : List (List View)) → IsDumpable s subsets → AllByRecursion IsAbove (dump_lines s subsets)
above-dump s subsets given =
    let a = runs_of 32 s.local1 in
    let b = runs_of 32 (unwrap_or s.section2 []) in
    let c = runs_of 8 s.descriptors in
    let e = above-both (subset_lines 1 subsets) (codes "end" ∷ []) (above-subsets 1 subsets (omega (arith, given.counted, given.few)) given.items) (end-line.clean, tt) in
    let D = subset_lines 1 subsets ++ codes "end" ∷ [] in
    let C = map descriptors_line c in
    let B = map section2_line b ++ C in
    above-both (head_lines s) D (
      message-line.clean,
      above-both (header_lines 0 (header_of s)) (map local1_line a ++ B) (above-header s.head.edition 0 (header_of s) (omega arith) (header-fits s given.head given.few))
          (above-both (map local1_line a) B (above-runs IsOctet 32 local1_line Local1 local1-line a (runs-after IsOctet 0 31 s.local1 given.local1))
          (above-both (map section2_line b) C (above-runs IsOctet 32 section2_line Section2 section2-line b (runs-after IsOctet 0 31 (unwrap_or s.section2 []) given.section2))
          (above-runs IsDescriptorWord 8 descriptors_line Descriptors descriptors-line c (runs-after IsDescriptorWord 0 7 s.descriptors given.descriptors)))),
    )
    e

-- A dump text is read as the document of its message, and reading continues between documents.
pub text-spells : (s : Sections) (subsets : List (List View)) (at : ℕ) (t : List ℕ) → IsDumpable s subsets
    → parse_lines at between (lines_of (dump_text_of s subsets ++ t)) ≡ Complete (document_of at s subsets) ∷ parse_lines (at + length (dump_lines s subsets)) between (lines_of t)
text-spells s subsets at t given = cc (lines-back (dump_lines s subsets) t (above-dump s subsets given), dump-spells s subsets at (lines_of t) given)

pub one-document : (s : Sections) (subsets : List (List View)) → IsDumpable s subsets → documents_of (dump_text_of s subsets) ≡ Complete (document_of 1 s subsets) ∷ []
unfolding parse_lines lines_of split_of
one-document s subsets given =
    ap documents_of (sym (append-nil (dump_text_of s subsets))) ∙ text-spells s subsets 1 [] given
