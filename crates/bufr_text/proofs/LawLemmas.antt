-- The results of parsing a text match its lines, and every document among them is proper.
use Rattle.std.proofs.Common.{slice_index, inl, inr, ◌⊎◌, ◌≡◌, ◌∙◌, ℕ, ◌+◌, ◌==◌, ◌&&◌, nat_le, not, Bool, true, false, if◌then◌else◌, List, [], ◌∷◌, ◌++◌, length, map, refl, sym, ap, subst, arith, append_assoc, append-nil, length-append, ◌<◌, rules}
use Rattle.std.specs.List.{concat}
use Rattle.std.proofs.lemmas.List.{map-append}
use Rattle.bufr_bits.proofs.DecimalLemmas.{and_first}
use Rattle.bufr_fill.specs.Prelude.{Draft, draft, DraftEntry, Holds, Ends}
use Rattle.bufr_text.specs.Prelude.{header_in, Document, ParserState, Between, Heading, BeforeSubsets, Filling, Stopped, LineEffect, Continues, Completes, Refuses, Parsing, LineStep, between, before_subsets, IsLineStep, NotAllowed, SubsetCount, HeaderRange, in_range, heading, beginning, closing, with_entry, line_step, read_line, parse_lines, parsing_after, reported_at, reported_at_end, lines_of, documents_of, Line, Skipped, MessageLine, Header, Local1, Section2, Descriptors, SubsetLine, ItemLine, EndLine, NumberedLine, numbered_line, prepend_line, numbered_lines, parsed_header, NumberedSubset, lines_of_subsets, first_at, entries_of_subsets, IsDocument, AreReported, IsProperlyReported, AreProper, IsBare, IsParsing}
use Rattle.bufr_text.proofs.ReaderLemmas.{stopped-reports}
use Rattle.bufr_text.specs.declared.document.LineGroup.{LineGroup}
use Rattle.bufr_text.specs.declared.document.LineGroup.TheVariants as group
use Rattle.bufr_text.proofs.HeaderLemmas.{line_step-holds, all-more, said-sound, with_value, with_local1, with_section2, with_descriptors, equal}
use Rattle.std.proofs.lemmas.Grind.{common_steps}

abbrev without_numbers : List NumberedLine → List Line
without_numbers lines = map (λ l. l.line) lines

-- the line with its number, or nothing if it is skipped
abbrev one : ℕ → Line → List NumberedLine
one at line = prepend_line at line []

onto-one : (at : ℕ) (line : Line) (more : List NumberedLine) → prepend_line at line more ≡ one at line ++ more
onto-one at Skipped more = refl
onto-one at line more = refl

-- Another value adds a header line at the end.
headers-more : (key : ℕ) (values : List ℕ) (value : ℕ) → parsed_header key (values ++ value ∷ []) ≡ parsed_header key values ++ Header (key + length values) value ∷ []
headers-more key [] value = grind arith
headers-more key (v ∷ more) value =
    let e : key + 1 + length more ≡ key + length (v ∷ more) = omega arith in
    cc (headers-more (key + 1) more value ∙ ap (λ (k : ℕ). parsed_header (key + 1) more ++ Header k value ∷ []) e)

concat-more : (xs : List (List ℕ)) (x : List ℕ) → concat (xs ++ x ∷ []) ≡ concat xs ++ x
concat-more [] x = append-nil x
concat-more (y ∷ xs) x = cc (concat-more xs x, append_assoc y (concat xs) x)

abbrev item_line : Draft → NumberedLine
item_line d = numbered_line d.line (ItemLine d.fxy d.form)

abbrev with_item : NumberedSubset → Draft → NumberedSubset
with_item part i = record { at = part.at; items = part.items ++ i ∷ [] }

abbrev bare_subset : ℕ → NumberedSubset
bare_subset at = record { at = at; items = [] }

item-more : (k : ℕ) (done : List NumberedSubset) (last : NumberedSubset) (i : Draft) → lines_of_subsets k (done ++ with_item last i ∷ []) ≡ lines_of_subsets k (done ++ last ∷ []) ++ item_line i ∷ []
item-more k [] last i = search (rules, map-append)
item-more k (part ∷ done) last i =
    ap (λ (t : List NumberedLine). numbered_line part.at (SubsetLine k) ∷ t) (ap (λ (t : List NumberedLine). map item_line part.items ++ t) (item-more (k + 1) done last i)
    ∙ sym (append_assoc (map item_line part.items) (lines_of_subsets (k + 1) (done ++ last ∷ [])) (item_line i ∷ [])))

part-more : (k : ℕ) (done : List NumberedSubset) (at : ℕ) → lines_of_subsets k (done ++ bare_subset at ∷ []) ≡ lines_of_subsets k done ++ numbered_line at (SubsetLine (k + length done)) ∷ []
part-more k [] at = grind arith
part-more k (part ∷ done) at =
    let e : k + 1 + length done ≡ k + length (part ∷ done) = omega arith in
    ap (λ (t : List NumberedLine). numbered_line part.at (SubsetLine k) ∷ t)
    (ap (λ (t : List NumberedLine). map item_line part.items ++ t) (part-more (k + 1) done at ∙ ap (λ (n : ℕ). lines_of_subsets (k + 1) done ++ numbered_line at (SubsetLine n) ∷ []) e)
    ∙ sym (append_assoc (map item_line part.items) (lines_of_subsets (k + 1) done) (numbered_line at (SubsetLine (k + length (part ∷ done))) ∷ [])))

first-more : (done : List NumberedSubset) (last : NumberedSubset) (end : ℕ) → first_at (done ++ last ∷ []) end ≡ first_at done last.at
first-more [] last end = refl
first-more (part ∷ done) last end = refl

entries-more : (done : List NumberedSubset) (last : NumberedSubset) (end : ℕ) → entries_of_subsets (done ++ last ∷ []) end ≡ (entries_of_subsets done last.at ++ map Holds last.items) ++ Ends end ∷ []
entries-more [] last end = refl
entries-more (part ∷ done) last end = grind (arith, entries-more done last end, append_assoc)

-- These lines are `message`, header lines in order, and then `local1`, `section2` and `descriptors`
-- lines in order. The document has their content.
record IsBegun (d : Document) (own : List NumberedLine) : Type 0 where
  header : List NumberedLine
  written : List NumberedLine
  local1 : List (List ℕ)
  section2 : List (List ℕ)
  descriptors : List (List ℕ)
  are : own ≡ (numbered_line d.line MessageLine ∷ header) ++ written
  in_order : without_numbers header ≡ parsed_header 0 d.header
  parts : without_numbers written ≡ map Local1 local1 ++ (map Section2 section2 ++ map Descriptors descriptors)
  local1_is : d.local1 ≡ concat local1
  section2_is : d.section2 ≡ concat section2
  descriptors_are : d.descriptors ≡ concat descriptors
  flagged : (section2 ≡ []) ⊎ (slice_index d.header 18 ≡ 1)

-- These lines are `message` and header lines in order. The document has no other content.
record IsHeading (d : Document) (own : List NumberedLine) : Type 0 where
  header : List NumberedLine
  are : own ≡ numbered_line d.line MessageLine ∷ header
  in_order : without_numbers header ≡ parsed_header 0 d.header
  bare : IsBare d

-- The lines before the subsets, up to this group of lines. Later groups have no lines yet, and the
-- document has no entries.
record IsBeforeSubsets (part : LineGroup) (d : Document) (own : List NumberedLine) : Type 0 where
  with_open_group : IsBegun d own
  before_section2 : part ≡ group.Local1 → with_open_group.section2 ≡ []
  before_descriptors : (part ≡ group.Descriptors → ⊥) → with_open_group.descriptors ≡ []
  none : d.entries ≡ []

-- The lines before the subsets, those of the complete subsets (`done`), and those of the subset
-- that is being read (`last`).
record IsFilling (subset : ℕ) (d : Document) (own : List NumberedLine) : Type 0 where
  prefix : List NumberedLine
  with_open_group : IsBegun d prefix
  done : List NumberedSubset
  last : NumberedSubset
  are : own ≡ prefix ++ lines_of_subsets 1 (done ++ last ∷ [])
  counted : subset ≡ length done + 1
  entries : d.entries ≡ entries_of_subsets done last.at ++ map Holds last.items

-- These lines of the current document lead to this state of the parser.
abbrev IsOpen : Parsing → List NumberedLine → Type 0
IsOpen (Between, d) own = own ≡ []
IsOpen (Heading, d) own = IsHeading d own
IsOpen (BeforeSubsets part, d) own = IsBeforeSubsets part d own
IsOpen (Filling subset, d) own = IsFilling subset d own
IsOpen (Stopped, d) own = ⊥

abbrev IsOpenAfter : LineStep → List NumberedLine → Type 0
IsOpenAfter (Continues state, d) own = IsOpen (state, d) own
IsOpenAfter (Completes, d) own = IsDocument d own
IsOpenAfter (Refuses fault, d) own = Unit {0}

if-open : (own : List NumberedLine) (b : Bool) (x y : LineStep) → (b ≡ true → IsOpenAfter x own) → (b ≡ false → IsOpenAfter y own) → IsOpenAfter (if b then x else y) own
if-open own true x y p q = p refl
if-open own false x y p q = q refl

if-effect : (own : List NumberedLine) (b : Bool) (x y : LineEffect) (d : Document) → (b ≡ true → IsOpenAfter (x, d) own) → (b ≡ false → IsOpenAfter (y, d) own)
    → IsOpenAfter (if b then x else y, d) own
if-effect own true x y d p q = p refl
if-effect own false x y d p q = q refl

not-false : (b : Bool) → not b ≡ false → b ≡ true
not-false true e = refl
not-false false e = absurd cc

-- A skipped line adds nothing to the lines of the document.
passed : (parsing : Parsing) (own : List NumberedLine) → IsOpen parsing own → IsOpen parsing (own ++ [])
passed parsing own is = rw (append-nil own) is

-- The header lines are still in order after a line with the next key.
in-order : (d : Document) (at key value : ℕ) (header : List NumberedLine) → key ≡ length d.header → without_numbers header ≡ parsed_header 0 d.header
    → without_numbers (header ++ numbered_line at (Header key value) ∷ []) ≡ parsed_header 0 (d.header ++ value ∷ [])
in-order d at key value header h1 h2 = grind (arith, map-append, headers-more)

heading-open : (at key value : ℕ) (d : Document) (own : List NumberedLine) → IsHeading d own → IsOpenAfter (heading d (Header key value)) (own ++ numbered_line at (Header key value) ∷ [])
heading-open at key value d own is =
    let here = own ++ numbered_line at (Header key value) ∷ [] in
    let taken : LineStep = (Continues (if key == 19 then BeforeSubsets group.Local1 else Heading), with_value d value) in
    let ranged : LineStep = if not (in_range (header_in d).head.edition key value) then (Refuses HeaderRange, d) else taken in
    if-open here (not (key == length d.header)) (Refuses NotAllowed, d) ranged (λ e. tt) (λ e.
    if-open here (not (in_range (header_in d).head.edition key value)) (Refuses HeaderRange, d) taken (λ f. tt)
    (λ f. by (key == 19) (equal key (length d.header) (not-false (key == length d.header) e))))
  where
    by : (last : Bool) → key ≡ length d.header → IsOpen (if last then BeforeSubsets group.Local1 else Heading, with_value d value) (own ++ numbered_line at (Header key value) ∷ [])
    by true same = record {
      with_open_group = record {
        header = is.header ++ numbered_line at (Header key value) ∷ [];
        written = [];
        local1 = [];
        section2 = [];
        descriptors = [];
        are = ap (λ (t : List NumberedLine). t ++ numbered_line at (Header key value) ∷ []) is.are
            ∙ sym (append-nil (numbered_line d.line MessageLine ∷ is.header ++ numbered_line at (Header key value) ∷ []));
        in_order = in-order d at key value is.header same is.in_order;
        parts = refl;
        local1_is = is.bare.local1;
        section2_is = is.bare.section2;
        descriptors_are = is.bare.descriptors;
        flagged = inl refl;
      };
      before_section2 = λ _. refl;
      before_descriptors = λ _. refl;
      none = is.bare.entries;
    }
    by false same = record {
      header = is.header ++ numbered_line at (Header key value) ∷ [];
      are = ap (λ (t : List NumberedLine). t ++ numbered_line at (Header key value) ∷ []) is.are;
      in_order = in-order d at key value is.header same is.in_order;
      bare = record { local1 = is.bare.local1; section2 = is.bare.section2; descriptors = is.bare.descriptors; entries = is.bare.entries };
    }

-- Another line before the subsets is appended to `written`.
written-more : (d : Document) (own : List NumberedLine) (b : IsBegun d own) (x : NumberedLine) → own ++ x ∷ [] ≡ (numbered_line d.line MessageLine ∷ b.header) ++ (b.written ++ x ∷ [])
written-more d own b x = rw (b.are, append_assoc)

without_numbers-more : (written : List NumberedLine) (x : NumberedLine) (lines : List Line) → without_numbers written ≡ lines → without_numbers (written ++ x ∷ []) ≡ lines ++ x.line ∷ []
without_numbers-more written x lines is = rw (map-append, is)

local1-open : (at : ℕ) (d : Document) (octets : List ℕ) (own : List NumberedLine) → IsBeforeSubsets group.Local1 d own
    → IsBeforeSubsets group.Local1 (with_local1 d octets) (own ++ numbered_line at (Local1 octets) ∷ [])
local1-open at d octets own is =
    let b = is.with_open_group in
    let none3 = is.before_descriptors (λ e. cc) in
    let before : without_numbers b.written ≡ map Local1 b.local1 = grind (arith, common_steps) in
    record {
      with_open_group = record {
        header = b.header;
        written = b.written ++ numbered_line at (Local1 octets) ∷ [];
        local1 = b.local1 ++ octets ∷ [];
        section2 = [];
        descriptors = [];
        are = written-more d own b (numbered_line at (Local1 octets));
        in_order = b.in_order;
        parts = without_numbers-more b.written (numbered_line at (Local1 octets)) (map Local1 b.local1) before ∙ sym (map-append Local1 b.local1 (octets ∷ []))
            ∙ sym (append-nil (map Local1 (b.local1 ++ octets ∷ [])));
        local1_is = ap (λ (t : List ℕ). t ++ octets) b.local1_is ∙ sym (concat-more b.local1 octets);
        section2_is = b.section2_is ∙ ap (λ (t : List (List ℕ)). concat t) (is.before_section2 refl);
        descriptors_are = b.descriptors_are ∙ ap (λ (t : List (List ℕ)). concat t) none3;
        flagged = inl refl;
      };
      before_section2 = λ _. refl;
      before_descriptors = λ _. refl;
      none = is.none;
    }

section2-open : (at : ℕ) (part : LineGroup) (d : Document) (octets : List ℕ) (own : List NumberedLine) → (part ≡ group.Descriptors → ⊥) → slice_index d.header 18 ≡ 1 → IsBeforeSubsets part d own
    → IsBeforeSubsets group.Section2 (with_section2 d octets) (own ++ numbered_line at (Section2 octets) ∷ [])
section2-open at part d octets own early flag is =
    let b = is.with_open_group in
    let none3 = is.before_descriptors early in
    let first = map Local1 b.local1 in
    let before : without_numbers b.written ≡ first ++ map Section2 b.section2 =
    b.parts ∙ ap (λ (t : List (List ℕ)). first ++ (map Section2 b.section2 ++ map Descriptors t)) none3 ∙ ap (λ (t : List Line). first ++ t) (append-nil (map Section2 b.section2)) in
    record {
      with_open_group = record {
        header = b.header;
        written = b.written ++ numbered_line at (Section2 octets) ∷ [];
        local1 = b.local1;
        section2 = b.section2 ++ octets ∷ [];
        descriptors = [];
        are = written-more d own b (numbered_line at (Section2 octets));
        in_order = b.in_order;
        parts = without_numbers-more b.written (numbered_line at (Section2 octets)) (first ++ map Section2 b.section2) before ∙ append_assoc first (map Section2 b.section2) (Section2 octets ∷ [])
            ∙ ap (λ (t : List Line). first ++ t) (sym (map-append Section2 b.section2 (octets ∷ [])) ∙ sym (append-nil (map Section2 (b.section2 ++ octets ∷ []))));
        local1_is = b.local1_is;
        section2_is = ap (λ (t : List ℕ). t ++ octets) b.section2_is ∙ sym (concat-more b.section2 octets);
        descriptors_are = b.descriptors_are ∙ ap (λ (t : List (List ℕ)). concat t) none3;
        flagged = inr flag;
      };
      before_section2 = λ e. absurd cc;
      before_descriptors = λ _. refl;
      none = is.none;
    }

descriptors-open : (at : ℕ) (part : LineGroup) (d : Document) (words : List ℕ) (own : List NumberedLine) → IsBeforeSubsets part d own
    → IsBeforeSubsets group.Descriptors (with_descriptors d words) (own ++ numbered_line at (Descriptors words) ∷ [])
descriptors-open at part d words own is =
    let b = is.with_open_group in
    let first = map Local1 b.local1 in
    let second = map Section2 b.section2 in
    record {
      with_open_group = record {
        header = b.header;
        written = b.written ++ numbered_line at (Descriptors words) ∷ [];
        local1 = b.local1;
        section2 = b.section2;
        descriptors = b.descriptors ++ words ∷ [];
        are = written-more d own b (numbered_line at (Descriptors words));
        in_order = b.in_order;
        parts = without_numbers-more b.written (numbered_line at (Descriptors words)) (first ++ (second ++ map Descriptors b.descriptors)) b.parts
            ∙ append_assoc first (second ++ map Descriptors b.descriptors) (Descriptors words ∷ [])
            ∙ ap (λ (t : List Line). first ++ t) (append_assoc second (map Descriptors b.descriptors) (Descriptors words ∷ [])
            ∙ ap (λ (t : List Line). second ++ t) (sym (map-append Descriptors b.descriptors (words ∷ []))));
        local1_is = b.local1_is;
        section2_is = b.section2_is;
        descriptors_are = ap (λ (t : List ℕ). t ++ words) b.descriptors_are ∙ sym (concat-more b.descriptors words);
        flagged = b.flagged;
      };
      before_section2 = λ e. absurd cc;
      before_descriptors = λ some. absurd (some refl);
      none = is.none;
    }

-- A subset that passes the check has the next number.
is-next : (subset read most : ℕ) → ((subset == read + 1) && nat_le subset most) ≡ true → subset ≡ read + 1
is-next subset read most e = equal subset (read + 1) (and_first (subset == read + 1) (nat_le subset most) e)

first-open : (at subset : ℕ) (part : LineGroup) (d : Document) (own : List NumberedLine) → IsBeforeSubsets part d own
    → IsOpenAfter (beginning 0 d subset, d) (own ++ numbered_line at (SubsetLine subset) ∷ [])
first-open at subset part d own is =
    if-effect (own ++ numbered_line at (SubsetLine subset) ∷ []) ((subset == 0 + 1) && nat_le subset (header_in d).subsets) (Continues (Filling subset)) (Refuses SubsetCount) d (λ e.
    let number : subset ≡ 1 = is-next subset 0 (header_in d).subsets e in record {
      prefix = own;
      with_open_group = is.with_open_group;
      done = [];
      last = bare_subset at;
      are = ap (λ (n : ℕ). own ++ numbered_line at (SubsetLine n) ∷ []) number;
      counted = number;
      entries = is.none;
    }) (λ e. tt)

none-open : (at : ℕ) (part : LineGroup) (d : Document) (own : List NumberedLine) → IsBeforeSubsets part d own → IsOpenAfter (closing 0 d, d) (own ++ numbered_line at EndLine ∷ [])
none-open at part d own is =
    let b = is.with_open_group in
    if-effect (own ++ numbered_line at EndLine ∷ []) (0 == (header_in d).subsets) Completes (Refuses SubsetCount) d (λ e. record {
      header = b.header;
      local1 = b.local1;
      section2 = b.section2;
      descriptors = b.descriptors;
      written = b.written;
      subsets = [];
      end = at;
      are = written-more d own b (numbered_line at EndLine);
      in_order = b.in_order;
      parts = b.parts;
      local1_is = b.local1_is;
      section2_is = b.section2_is;
      descriptors_are = b.descriptors_are;
      flagged = b.flagged;
      counted = equal 0 (header_in d).subsets e;
      entries = is.none;
    }) (λ e. tt)

begun-still : (d : Document) (entry : DraftEntry) (own : List NumberedLine) → IsBegun d own → IsBegun (with_entry d entry) own
begun-still d entry own h1 = grind arith

-- If the last subset ends at this line, the entries are those of all subsets.
ended-entries : (at subset : ℕ) (d : Document) (own : List NumberedLine) (is : IsFilling subset d own) → d.entries ++ Ends at ∷ [] ≡ entries_of_subsets (is.done ++ is.last ∷ []) at
ended-entries at subset d own is = rw (is.entries, entries-more)

next-open : (at subset next : ℕ) (d : Document) (own : List NumberedLine) → IsFilling subset d own
    → IsOpenAfter (beginning subset d next, with_entry d (Ends at)) (own ++ numbered_line at (SubsetLine next) ∷ [])
next-open at subset next d own is =
    let parts = is.done ++ is.last ∷ [] in
    if-effect (own ++ numbered_line at (SubsetLine next) ∷ []) ((next == subset + 1) && nat_le next (header_in d).subsets) (Continues (Filling next)) (Refuses SubsetCount) (with_entry d (Ends at))
    (λ e.
    let number : next ≡ 1 + length parts = omega (arith, is-next next subset (header_in d).subsets e, is.counted, length-append is.done (is.last ∷ [])) in record {
      prefix = is.prefix;
      with_open_group = begun-still d (Ends at) is.prefix is.with_open_group;
      done = parts;
      last = bare_subset at;
      are = ap (λ (t : List NumberedLine). t ++ numbered_line at (SubsetLine next) ∷ []) is.are ∙ append_assoc is.prefix (lines_of_subsets 1 parts) (numbered_line at (SubsetLine next) ∷ [])
          ∙ ap (λ (t : List NumberedLine). is.prefix ++ t) (ap (λ (n : ℕ). lines_of_subsets 1 parts ++ numbered_line at (SubsetLine n) ∷ []) number ∙ sym (part-more 1 parts at));
      counted = omega (arith, number);
      entries = ended-entries at subset d own is ∙ sym (append-nil (entries_of_subsets parts at));
    }) (λ e. tt)

item-open : (at subset : ℕ) (d : Document) (own : List NumberedLine) (i : Draft) → i.line ≡ at → IsFilling subset d own → IsFilling subset (with_entry d (Holds i)) (own ++ item_line i ∷ [])
item-open at subset d own i here is = record {
  prefix = is.prefix;
  with_open_group = begun-still d (Holds i) is.prefix is.with_open_group;
  done = is.done;
  last = with_item is.last i;
  are = ap (λ (t : List NumberedLine). t ++ item_line i ∷ []) is.are ∙ append_assoc is.prefix (lines_of_subsets 1 (is.done ++ is.last ∷ [])) (item_line i ∷ [])
      ∙ ap (λ (t : List NumberedLine). is.prefix ++ t) (sym (item-more 1 is.done is.last i));
  counted = is.counted;
  entries = ap (λ (t : List DraftEntry). t ++ Holds i ∷ []) is.entries ∙ append_assoc (entries_of_subsets is.done is.last.at) (map Holds is.last.items) (Holds i ∷ [])
      ∙ ap (λ (t : List DraftEntry). entries_of_subsets is.done is.last.at ++ t) (sym (map-append Holds is.last.items (i ∷ [])));
}

end-open : (at subset : ℕ) (d : Document) (own : List NumberedLine) → IsFilling subset d own → IsOpenAfter (closing subset d, with_entry d (Ends at)) (own ++ numbered_line at EndLine ∷ [])
end-open at subset d own is =
    let b = is.with_open_group in
    let parts = is.done ++ is.last ∷ [] in
    if-effect (own ++ numbered_line at EndLine ∷ []) (subset == (header_in d).subsets) Completes (Refuses SubsetCount) (with_entry d (Ends at)) (λ e. record {
      header = b.header;
      local1 = b.local1;
      section2 = b.section2;
      descriptors = b.descriptors;
      written = b.written;
      subsets = parts;
      end = at;
      are = ap (λ (t : List NumberedLine). t ++ numbered_line at EndLine ∷ [])
          (is.are ∙ ap (λ (t : List NumberedLine). t ++ lines_of_subsets 1 parts) b.are ∙ append_assoc (numbered_line d.line MessageLine ∷ b.header) b.written (lines_of_subsets 1 parts))
          ∙ append_assoc (numbered_line d.line MessageLine ∷ b.header) (b.written ++ lines_of_subsets 1 parts) (numbered_line at EndLine ∷ [])
          ∙ ap (λ (t : List NumberedLine). (numbered_line d.line MessageLine ∷ b.header) ++ t) (append_assoc b.written (lines_of_subsets 1 parts) (numbered_line at EndLine ∷ []));
      in_order = b.in_order;
      parts = b.parts;
      local1_is = b.local1_is;
      section2_is = b.section2_is;
      descriptors_are = b.descriptors_are;
      flagged = b.flagged;
      counted = omega (arith, is.counted, length-append is.done (is.last ∷ []), equal);
      entries = ended-entries at subset d own is;
    }) (λ e. tt)

by-part : (at : ℕ) (part : LineGroup) (d : Document) (octets : List ℕ) (own : List NumberedLine) → IsBeforeSubsets part d own
    → IsOpenAfter (before_subsets d (Local1 octets) part) (own ++ numbered_line at (Local1 octets) ∷ [])
by-part at group.Local1 d octets own is = local1-open at d octets own is
by-part at group.Section2 d octets own is = tt
by-part at group.Descriptors d octets own is = tt

by-flag : (at : ℕ) (part : LineGroup) (d : Document) (octets : List ℕ) (own : List NumberedLine) → (part ≡ group.Descriptors → ⊥) → IsBeforeSubsets part d own
    → IsOpenAfter (if (header_in d).optional then (Continues (BeforeSubsets group.Section2), with_section2 d octets) else (Refuses NotAllowed, d)) (own ++ numbered_line at (Section2 octets) ∷ [])
by-flag at part d octets own early is =
    if-open (own ++ numbered_line at (Section2 octets) ∷ []) (header_in d).optional (Continues (BeforeSubsets group.Section2), with_section2 d octets) (Refuses NotAllowed, d)
    (λ e. section2-open at part d octets own early (equal (slice_index d.header 18) 1 e) is) (λ e. tt)

section2-after : (at : ℕ) (part : LineGroup) (d : Document) (octets : List ℕ) (own : List NumberedLine) → IsBeforeSubsets part d own
    → IsOpenAfter (before_subsets d (Section2 octets) part) (own ++ numbered_line at (Section2 octets) ∷ [])
section2-after at group.Local1 d octets own is = by-flag at group.Local1 d octets own (λ e. cc) is
section2-after at group.Section2 d octets own is = by-flag at group.Section2 d octets own (λ e. cc) is
section2-after at group.Descriptors d octets own is = tt

-- After any line, the lines of the current document lead to the new state.
line_step-opens : (at : ℕ) (parsing : Parsing) (line : Line) (own : List NumberedLine) → IsOpen parsing own → IsOpenAfter (line_step at parsing line) (own ++ one at line)
unfolding line_step
line_step-opens at (Between, d) Skipped own is = passed (Between, d) own is
line_step-opens at (Between, d) MessageLine own is = record {
  header = [];
  are = ap (λ (t : List NumberedLine). t ++ numbered_line at MessageLine ∷ []) is;
  in_order = refl;
  bare = record { local1 = refl; section2 = refl; descriptors = refl; entries = refl };
}
line_step-opens at (Heading, d) Skipped own is = passed (Heading, d) own is
line_step-opens at (Heading, d) (Header key value) own is = heading-open at key value d own is
line_step-opens at (BeforeSubsets part, d) Skipped own is = passed (BeforeSubsets part, d) own is
line_step-opens at (BeforeSubsets part, d) (Local1 octets) own is = by-part at part d octets own is
line_step-opens at (BeforeSubsets part, d) (Section2 octets) own is = section2-after at part d octets own is
line_step-opens at (BeforeSubsets part, d) (Descriptors words) own is = descriptors-open at part d words own is
line_step-opens at (BeforeSubsets part, d) (SubsetLine subset) own is = first-open at subset part d own is
line_step-opens at (BeforeSubsets part, d) EndLine own is = none-open at part d own is
line_step-opens at (Filling subset, d) Skipped own is = passed (Filling subset, d) own is
line_step-opens at (Filling subset, d) (SubsetLine next) own is = next-open at subset next d own is
line_step-opens at (Filling subset, d) (ItemLine fxy form) own is = item-open at subset d own (draft at fxy form) refl is
line_step-opens at (Filling subset, d) EndLine own is = end-open at subset d own is
line_step-opens at (Stopped, d) line own is = absurd is
line_step-opens at parsing line own is = tt

on : (at : ℕ) (line : List ℕ) (more : List (List ℕ)) (own : List NumberedLine) → (own ++ one at (read_line line)) ++ numbered_lines (at + 1) more ≡ own ++ numbered_lines at (line ∷ more)
unfolding numbered_lines
on at line more own = grind (arith, common_steps, onto-one at (read_line line) (numbered_lines (at + 1) more))

end-reported : (at : ℕ) (parsing : Parsing) (own : List NumberedLine) → IsOpen parsing own → AreReported (own ++ []) (reported_at_end at parsing.0)
end-reported at parsing own h1 = grind arith

reported-on : (at : ℕ) (line : List ℕ) (more : List (List ℕ)) (own : List NumberedLine) (here : LineStep) → IsOpenAfter here (own ++ one at (read_line line))
    → ((next : Parsing) (own' : List NumberedLine) → IsOpen next own' → AreReported (own' ++ numbered_lines (at + 1) more) (parse_lines (at + 1) next more))
    → AreReported (own ++ numbered_lines at (line ∷ more)) (reported_at at here ++ parse_lines (at + 1) (parsing_after here) more)
reported-on at line more own (Continues state, d) opens rest = subst (λ (t : List NumberedLine). AreReported t (parse_lines (at + 1) (state, d) more)) (on at line more own)
    (rest (state, d) (own ++ one at (read_line line)) opens)
reported-on at line more own (Completes, d) is rest = (own ++ one at (read_line line), numbered_lines (at + 1) more, sym (on at line more own), is, rest between [] refl)
reported-on at line more own (Refuses fault, d) is rest = stopped-reports (at + 1) d more

lines-reported : (at : ℕ) (parsing : Parsing) (lines : List (List ℕ)) (own : List NumberedLine) → IsOpen parsing own → AreReported (own ++ numbered_lines at lines) (parse_lines at parsing lines)
unfolding parse_lines numbered_lines
lines-reported at parsing [] own is = end-reported at parsing own is
lines-reported at parsing (line ∷ more) own is = reported-on at line more own (line_step at parsing (read_line line)) (line_step-opens at parsing (read_line line) own is)
    (λ next own' opens. lines-reported (at + 1) next more own' opens)

pub text-reported : (text : List ℕ) → AreReported (numbered_lines 1 (lines_of text)) (documents_of text)
text-reported text = lines-reported 1 between (lines_of text) [] refl

-- ---- Every document of a text is proper.

end-proper : (at : ℕ) (state : ParserState) → AreProper (reported_at_end at state)
end-proper at state = grind arith

reported-proper : (at : ℕ) (here : LineStep) → IsLineStep (at + 1) here → AreProper (reported_at at here)
reported-proper at here h1 = grind arith

proper-on : (at : ℕ) (here : LineStep) (more : List (List ℕ)) → IsLineStep at here → ((next : Parsing) → IsParsing at next → AreProper (parse_lines at next more))
    → AreProper (parse_lines at (parsing_after here) more)
proper-on at (Continues state, d) more is rest = rest (state, d) is
proper-on at (Completes, d) more is rest = rest between refl
proper-on at (Refuses fault, d) more is rest = rw (stopped-reports at d more) tt

pub spelled-proper : (at : ℕ) (parsing : Parsing) (lines : List (List ℕ)) → 0 < at → IsParsing at parsing → AreProper (parse_lines at parsing lines)
unfolding parse_lines
spelled-proper at parsing [] some holds = end-proper at parsing.0
spelled-proper at parsing (line ∷ more) some holds =
    let here = line_step at parsing (read_line line) in
    let after = line_step-holds at parsing (read_line line) some (said-sound line) holds in
    all-more IsProperlyReported (reported_at at here) (parse_lines (at + 1) (parsing_after here) more) (reported-proper at here after)
    (proper-on (at + 1) here more after (λ next holds. spelled-proper (at + 1) next more (omega arith) holds))

pub ruleset proper_steps = (spelled-proper)
