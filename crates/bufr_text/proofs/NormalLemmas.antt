-- A document is encoded to a message with the same content. The dump text of this message is the
-- normal text of the document.
use Rattle.std.proofs.Common.{◌≡◌, ℕ, ◌+◌, ◌≤◌, suc, Bool, true, false, List, [], ◌∷◌, ◌++◌, length, Some, None, Result, Ok, Err, refl, sym, ◌∙◌, ap, subst, arith, zero, map, take, drop, ◌==◌, nat_lt, unwrap_or, if◌then◌else◌, codes, is_some, slice_index, rules}
use Rattle.bufr_bits.specs.Prelude.{bits_of}
use Rattle.bufr_tables.specs.declared.fault.TemplateFault.{TemplateFault}
use Rattle.bufr_tables.specs.Prelude.{tree_of, IsLegal, tables_of, Record, Row, AreRows, Sequence, Tree}
use Rattle.bufr_tables.proofs.SoundLemmas.{tree_fine}
use Rattle.bufr_frame.specs.Prelude.{with_even_length, message_octets, message_size, max_octets, sections_from, MessageParts, parts_of}
use Rattle.bufr_walk.specs.Prelude.{Content, FieldSpec, next_item, Course, Values, Item, plain, after, data_of, view_of, View, each_subset}
use Rattle.bufr_fill.specs.Prelude.{Subset, subsets_of, Draft, AreSpecified, IsSpecified, AreDrafts, content_of, HasReading}
use Rattle.bufr_fill.specs.declared.fault.DraftFault.{DraftFault}
use Rattle.bufr_fill.proofs.BackLaws.{read_back}
use Rattle.bufr_text.specs.Prelude.{header_in, mosts, Form, Document, Complete, documents_of, section2_in, ◌>>=◌, map_err, data_bits, octets_of_bits, parts_as, compressed_as, message_of, encoding_in, DocumentFault, encoding_of, header_lines, local1_line, section2_line, descriptors_line, head_lines, item_text, subset_lines, text_of_lines, dump_text_of, lines_before, document_of, IsProper, header_as, normal_head, normal_line, draft_answer, line_and, normal_items, normal_subsets, normal, AreValuesOf, IsReadAs, runs_of, items_shown, dump_items, document_fault}
use Rattle.bufr_text.proofs.DumpableLemmas.{dumpable, optional_octets}
use Rattle.bufr_walk.proofs.NextField.{table_read}
use Rattle.bufr_text.proofs.RoundTripLemmas.{same_form, bit_back, parts_back, parts_with, parts_of_document, is_message, reads_octets, all_dumped}
use Rattle.bufr_text.proofs.HeaderLemmas.{headed-fits, subsets-few, header-widest}
use Rattle.bufr_frame.specs.declared.section1.Head.{Head}
use Rattle.bufr_fill.proofs.PlainLaws.{normal_dumped, said_fxy}
use Rattle.bufr_fill.proofs.FormLaws.{Follows, AllFollow, subsets_said}
use Rattle.bufr_fill.proofs.WholeLaws.{each_count, follows, said_alike}
use Rattle.bufr_text.specs.declared.fault.DocumentFault.TheVariants as fault
use Rattle.bufr_text.specs.declared.encode.Form.TheVariants.{AsWritten, Plain, Compressed}
use Rattle.bufr_text.proofs.DumpTextLemmas.{one-document}
use Rattle.bufr_walk.specs.Reading as reading
use Rattle.std.specs.Int.{from_bool}

-- ---- The message that a document is encoded to is accepted, and has the content of the document.

pub said_length : (subsets : List (List (Item Content))) (drafts : List Subset) → AreSpecified subsets drafts → length subsets ≡ length drafts
said_length [] [] h = refl
said_length (items ∷ subsets) (s ∷ ss) h = ap suc (said_length subsets ss h.1)
said_length subsets ss h = absurd h

module _ (form : Form) (records : List Record) (table : List Row) (sequences : List Sequence) (rows : AreRows records table) (d : Document) (proper : IsProper d) (octets : List ℕ) where
  abbrev data_in : Tree → Result (List Bool) DraftFault
  data_in template = data_bits (compressed_as form d) (next_item table template) (subsets_of d.entries)

  made : (template : Tree) (bits : List Bool) → tree_of (tables_of table sequences) d.descriptors ≡ Ok template → data_in template ≡ Ok bits
      → message_size (header_in d).head.edition (parts_as (compressed_as form d) d (octets_of_bits bits)) ≤ max_octets
      → IsReadAs form table sequences d (message_octets (header_in d).head (parts_as (compressed_as form d) d (octets_of_bits bits)))
  made template bits expands fills few =
      let head = (header_in d).head in
      let payload = octets_of_bits bits in
      let parts = parts_as (compressed_as form d) d payload in
      let legal = (tree_fine (tables_of table sequences) d.descriptors template expands).legal in
      let f = read_back table template (table_read records table rows) legal (compressed_as form d) (subsets_of d.entries) bits proper.texts fills in
      let w = is_message head parts bits (headed-fits d proper.headed) proper.local1 (optional_octets (header_in d).optional d.section2 proper.section2) proper.descriptors
      (subsets-few d proper.headed) refl few in
      record {
        sections = sections_from head parts;
        template = template;
        values = f.values;
        used = length bits;
        accepted = record {
          octets = w.octets;
          few = omega (arith, w.long);
          sections = w.are;
          expands = expands;
          read = subst (λ n. HasReading (next_item table template) (record { compressed = compressed_as form d; subsets = n; bits = bits_of (with_even_length head.edition 4 payload) }) f.values
              (length bits)) proper.counted
              (reads_octets (next_item table template) (compressed_as form d) (length (subsets_of d.entries)) f.values bits f.read (with_even_length head.edition 4 payload) w.tail w.bits);
        };
        framed = w.framed;
        head = refl;
        local1 = refl;
        section2 = refl;
        descriptors = refl;
        subsets = refl;
        observed = refl;
        compressed = refl;
        said = f.said;
      }

  by_size : (template : Tree) (bits : List Bool) → tree_of (tables_of table sequences) d.descriptors ≡ Ok template → data_in template ≡ Ok bits → (b : Bool)
      → nat_lt max_octets (message_size (header_in d).head.edition (parts_as (compressed_as form d) d (octets_of_bits bits))) ≡ b
      → (if b then Err (fault.TooLong d.line) else Ok (message_octets (header_in d).head (parts_as (compressed_as form d) d (octets_of_bits bits)))) ≡ Ok octets
      → IsReadAs form table sequences d octets
  by_size template bits expands fills b p e = search (rules, made)

  by_bits : (template : Tree) → tree_of (tables_of table sequences) d.descriptors ≡ Ok template → (r : Result (List Bool) DraftFault) → data_in template ≡ r
      → (map_err document_fault r >>= λ b. message_of d.line (header_in d).head (parts_as (compressed_as form d) d (octets_of_bits b))) ≡ Ok octets → IsReadAs form table sequences d octets
  by_bits template expands r p e = search (rules, by_size)

  by_template : (r : Result Tree TemplateFault) → tree_of (tables_of table sequences) d.descriptors ≡ r
      → (map_err (fault.Template d.line) r >>= λ t. map_err document_fault (data_in t) >>= λ b. message_of d.line (header_in d).head (parts_as (compressed_as form d) d (octets_of_bits b)))
      ≡ Ok octets
      → IsReadAs form table sequences d octets
  by_template (Err why) p e = absurd cc
  by_template (Ok template) p e = by_bits template p (data_in template) refl e

  -- The message that a document is encoded to has a reading with the content of the document.
  pub encoded_read : encoding_in form table sequences d ≡ Ok octets → IsReadAs form table sequences d octets
  unfolding encoding_in
  encoded_read e = by_template (tree_of (tables_of table sequences) d.descriptors) refl e

-- ---- The lines of the subsets.

line_is : (table : List Row) (spec : FieldSpec) (d : Draft) (c : Content) → content_of spec d ≡ Ok c → normal_line table spec d ≡ item_text (view_of table spec c)
line_is table spec d c h1 = grind (arith, said_fxy, normal_dumped, same_form)

items_are : (table : List Row) (course : Course) (items : List (reading.Item Content)) (ds : List Draft) → Follows course items → AreDrafts IsSpecified items ds
    → normal_items table course ds ≡ map item_text (items_shown table items)
items_are table course [] [] f said = refl
items_are table course (i ∷ items) (d ∷ ds) f said =
    ap (λ n. line_and table n d (λ t. normal_items table (λ results. course (t ∷ results)) ds)) f.0
    ∙ ap (λ r. normal_line table i.spec d ∷ normal_items table (λ results. course (draft_answer i.spec r ∷ results)) ds) said.0
    ∙ ap (λ x. x ∷ normal_items table (after plain course i) ds) (line_is table i.spec d i.content said.0)
    ∙ ap (λ xs. item_text (view_of table i.spec i.content) ∷ xs) (items_are table (after plain course i) items ds f.3 said.1)
items_are table course items ds f said = absurd said

pub subsets_are : (table : List Row) (course : Course) (n : ℕ) (subsets : List (List (reading.Item Content))) (drafts : List Subset) → AllFollow course subsets → AreSpecified subsets drafts
    → normal_subsets table course n drafts ≡ subset_lines n (map (items_shown table) subsets)
unfolding subset_lines
subsets_are table course n [] [] f said = refl
subsets_are table course n (items ∷ subsets) (s ∷ ss) f said = cc (items_are table course items s.items f.0 said.0, subsets_are table course (n + 1) subsets ss f.1 said.1)
subsets_are table course n subsets ss f said = absurd said

-- ---- The lines before the subsets.

-- the given number of values, from an index on
abbrev values_from : (count index : ℕ) → List ℕ → List ℕ
values_from zero k xs = []
values_from (suc n) k xs = slice_index xs k ∷ values_from n (suc k) xs

values_after : (n k : ℕ) (x : ℕ) (xs : List ℕ) → values_from n (suc k) (x ∷ xs) ≡ values_from n k xs
values_after zero k x xs = refl
values_after (suc n) k x xs = cc (values_after n (suc k) x xs)

all_values : (n : ℕ) (xs : List ℕ) → length xs ≡ n → xs ≡ values_from n 0 xs
all_values zero [] h = refl
all_values zero (x ∷ xs) h = absurd (omega arith)
all_values (suc n) [] h = absurd (omega arith)
all_values (suc n) (x ∷ xs) h = let l : length xs ≡ n = omega arith in ap (λ more. x ∷ more) (all_values n xs l ∙ sym (values_after n 0 x xs))

-- A flag of 0 or 1 is unchanged after it is read as a `Bool` and written again.
flag_back : (v : ℕ) → v ≤ 1 → from_bool (v == 1) ≡ v
flag_back v h1 = grind arith

section2_flag : (b : Bool) (octets : List ℕ) → from_bool (is_some (if b then Some octets else None)) ≡ from_bool b
section2_flag true octets = refl
section2_flag false octets = refl

section2_same : (b : Bool) (octets : List ℕ) → (b ≡ false → octets ≡ []) → unwrap_or (if b then Some octets else None) [] ≡ octets
section2_same true octets h = refl
section2_same false octets h = sym (h refl)

-- the twenty header values, with these three flags
abbrev with_flags : List ℕ → (observed compressed optional : ℕ) → List ℕ
with_flags h o c s =
    slice_index h 0 ∷ slice_index h 1 ∷ slice_index h 2 ∷ slice_index h 3 ∷ slice_index h 4 ∷ slice_index h 5 ∷ slice_index h 6 ∷ slice_index h 7 ∷ slice_index h 8
    ∷ slice_index h 9 ∷ slice_index h 10 ∷ slice_index h 11 ∷ slice_index h 12 ∷ slice_index h 13 ∷ slice_index h 14 ∷ slice_index h 15 ∷ o ∷ c ∷ s ∷ slice_index h 19 ∷ []

abbrev head_with : Document → (header section2 : List ℕ) → List (List ℕ)
head_with d header section2 =
    codes "message" ∷ (header_lines 0 header ++ (map local1_line (runs_of 32 d.local1) ++ (map section2_line (runs_of 32 section2) ++ map descriptors_line (runs_of 8 d.descriptors))))

module _ (form : Form) (d : Document) (proper : IsProper d) where
  abbrev value : ℕ → ℕ
  value i = slice_index d.header i

  few : (value 16 ≤ 1) × (value 17 ≤ 1) × (value 18 ≤ 1)
  unfolding mosts
  few = (header-widest d 16 proper.headed, header-widest d 17 proper.headed, header-widest d 18 proper.headed)

  whole : d.header ≡ with_flags d.header (value 16) (value 17) (value 18)
  whole = all_values 20 d.header proper.headed.whole

  -- The form determines the compression flag.
  form_flag : (f : Form) → with_flags d.header (value 16) (from_bool (compressed_as f d)) (value 18) ≡ header_as f d.header
  form_flag AsWritten = ap (λ c. with_flags d.header (value 16) c (value 18)) (flag_back (value 17) few.1) ∙ sym whole
  form_flag Plain = ap (λ (h : List ℕ). take 17 h ++ 0 ∷ drop 18 h) (sym whole)
  form_flag Compressed = ap (λ (h : List ℕ). take 17 h ++ 1 ∷ drop 18 h) (sym whole)

  header_is : with_flags d.header (from_bool (header_in d).observed) (from_bool (compressed_as form d)) (from_bool (is_some (section2_in d))) ≡ header_as form d.header
  header_is = search (rules, flag_back, few, section2_flag, form_flag)

  -- The lines before the subsets of the dump text are those of the normal text.
  head_is : (table : List Row) (sequences : List Sequence) (octets : List ℕ) → (h : IsReadAs form table sequences d octets) → head_lines h.sections ≡ normal_head form d
  head_is table sequences octets h =
      (λ j. head_lines (record {
        head = h.head j;
        local1 = h.local1 j;
        section2 = h.section2 j;
        descriptors = h.descriptors j;
        subsets = h.subsets j;
        observed = h.observed j;
        compressed = h.compressed j;
        payload = [];
        size = 0;
      }))
      ∙ (λ j. head_with d (header_is j) (section2_same (header_in d).optional d.section2 proper.no_section2 j))

-- ---- The whole text.

module _ (form : Form) (records : List Record) (table : List Row) (sequences : List Sequence) (rows : AreRows records table) (d : Document) (octets : List ℕ)
    (h : IsReadAs form table sequences d octets) where
  legal : IsLegal h.template
  legal = (tree_fine (tables_of table sequences) h.sections.descriptors h.template h.accepted.expands).legal

  abbrev course : Course
  course = next_item table h.template

  abbrev bits : List Bool
  bits = bits_of h.sections.payload

  abbrev shown_items : List (List View)
  shown_items = dump_items table h.sections.subsets h.values

  -- Each subset of the reading follows the template.
  follow : AllFollow course (each_subset h.sections.subsets h.values)
  follow = follows table h.template (table_read records table rows) legal (data_of h.sections) h.values h.used h.accepted.read

  says : (values : Values) (drafts : List Subset) → length drafts ≡ h.sections.subsets → AreValuesOf values drafts → AreSpecified (each_subset h.sections.subsets values) drafts
  says values drafts count said = grind arith

  lines_of_items : (drafts : List Subset) → length drafts ≡ h.sections.subsets → AreValuesOf h.values drafts → subset_lines 1 shown_items ≡ normal_subsets table course 1 drafts
  lines_of_items drafts count said = search (rules, subsets_are, follow, says)

  pub dump_is_normal : IsProper d → dump_text_of h.sections shown_items ≡ normal form table h.template d
  dump_is_normal proper = grind (arith, head_is form d proper table sequences octets h, lines_of_items)

  -- ---- The document of the dump.

  module _ (at : ℕ) where
    abbrev again : Document
    again = document_of at h.sections shown_items

    abbrev drafts_again : List Subset
    drafts_again = subsets_of again.entries

    -- The drafts of the dump have the content of the reading.
    again_said : AreSpecified (each_subset h.sections.subsets h.values) drafts_again
    again_said = subsets_said course (each_subset h.sections.subsets h.values) drafts_again follow (all_dumped table (at + lines_before h.sections) h.sections.subsets h.values)

    again_count : length drafts_again ≡ h.sections.subsets
    again_count = sym (said_length (each_subset h.sections.subsets h.values) drafts_again again_said)
        ∙ each_count table h.template (table_read records table rows) legal (data_of h.sections) h.values h.used h.accepted.read

    -- The normal text of this document is the dump text itself.
    pub normal_again : normal AsWritten table h.template again ≡ dump_text_of h.sections shown_items
    normal_again = sym (ap (λ ls. text_of_lines (head_lines h.sections ++ (ls ++ codes "end" ∷ [])))
        (lines_of_items drafts_again again_count (subst (λ n. AreSpecified (each_subset n h.values) drafts_again) (sym again_count) again_said)))

    -- the message with these data bits, or the first fault
    abbrev message_with : (line : ℕ) → Head → (List ℕ → MessageParts) → Result (List Bool) DraftFault → Result (List ℕ) DocumentFault
    message_with line head parts r = map_err document_fault r >>= λ b. message_of line head (parts (octets_of_bits b))

    -- The number of the line matters only if there is a fault.
    other_line : (line : ℕ) (head : Head) (parts : List ℕ → MessageParts) (r : Result (List Bool) DraftFault) → message_with line head parts r ≡ Ok octets → message_with at head parts r ≡ Ok octets
    other_line line head parts (Err why) e = absurd cc
    other_line line head parts (Ok b) e = by (nat_lt max_octets (message_size head.edition (parts (octets_of_bits b)))) e
      where
        by : (x : Bool) → (if x then Err (fault.TooLong line) else Ok (message_octets head (parts (octets_of_bits b)))) ≡ Ok octets
            → (if x then Err (fault.TooLong at) else Ok (message_octets head (parts (octets_of_bits b)))) ≡ Ok octets
        by true q = absurd cc
        by false q = q

    abbrev parts_said : List ℕ → MessageParts
    parts_said = parts_as (compressed_as form d) d

    parts_are : (payload : List ℕ) → parts_of_document again payload ≡ parts_said payload
    unfolding parts_with
    parts_are payload = parts_back at h.sections shown_items payload ∙ (λ j. parts_of (h.local1 j) (h.section2 j) (h.descriptors j) (h.subsets j) (h.observed j) (h.compressed j) payload)

    -- Both documents have the same data bits.
    data_are : IsProper d → data_bits (compressed_as form d) course (subsets_of d.entries) ≡ data_bits (header_in again).compressed course drafts_again
    data_are proper =
        ap (λ b. data_bits b course (subsets_of d.entries)) (sym h.compressed)
        ∙ said_alike table h.template (table_read records table rows) legal (data_of h.sections) h.values h.used (subsets_of d.entries) drafts_again h.accepted.read
        (says h.values (subsets_of d.entries) (proper.counted ∙ sym h.subsets) h.said) again_said
        ∙ ap (λ b. data_bits b course drafts_again) (sym (bit_back h.sections.compressed))

    encoded_from : encoding_in form table sequences d ≡ message_with d.line (header_in d).head parts_said (data_bits (compressed_as form d) course (subsets_of d.entries))
    unfolding encoding_in
    encoded_from =
        ap (λ r. map_err (fault.Template d.line) r >>= λ t. message_with d.line (header_in d).head parts_said (data_bits (compressed_as form d) (next_item table t) (subsets_of d.entries)))
        (ap (tree_of (tables_of table sequences)) (sym h.descriptors) ∙ h.accepted.expands)

    again_from : encoding_of table sequences again ≡ message_with at h.sections.head (parts_of_document again) (data_bits (header_in again).compressed course drafts_again)
    unfolding encoding_in
    again_from = ap (λ r. map_err (fault.Template at) r >>= λ t. message_with at h.sections.head (parts_of_document again) (data_bits (header_in again).compressed (next_item table t) drafts_again))
        h.accepted.expands

    -- Both documents are encoded to the same octets.
    pub encoded_again_same : IsProper d → encoding_in form table sequences d ≡ Ok octets → encoding_of table sequences again ≡ Ok octets
    encoded_again_same proper e =
        again_from
        ∙ (λ j. message_with at (h.head j) (λ payload. parts_are payload j) (sym (data_are proper) j))
        ∙ other_line d.line (header_in d).head parts_said (data_bits (compressed_as form d) course (subsets_of d.entries)) (sym encoded_from ∙ e)

  pub one_document_again : IsProper d → documents_of (normal form table h.template d) ≡ Complete (document_of 1 h.sections shown_items) ∷ []
  one_document_again proper = cc (
    dump_is_normal proper,
    one-document h.sections shown_items
        (dumpable table sequences octets h.sections h.template h.values h.used (table_read records table rows) legal h.accepted),
  )
