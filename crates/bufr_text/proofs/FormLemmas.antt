-- The document of an accepted message is encoded in each form. The document of a canonical message
-- is encoded to the same octets.
use Rattle.std.proofs.lemmas.Bool.{ltb-false}
use Rattle.std.proofs.Common.{◌≡◌, ℕ, ◌+◌, ◌≤◌, Bool, true, false, List, [], ◌∷◌, ◌++◌, length, take, drop, map, Result, Ok, Err, refl, sym, ◌∙◌, ap, subst, arith, append_assoc, ◌⊎◌, inl, inr, ◌*◌, nat_lt, if◌then◌else◌, flat_map, Vec, IfOk, IfErr, rules}
use Rattle.bufr_bits.specs.Prelude.{bits_of}
use Rattle.bufr_tables.specs.Prelude.{Row, AreRows, Sequence, Tree, IsLegal, tables_of, Record}
use Rattle.bufr_walk.specs.Prelude.{FieldSpec, IsSpec, Content, content_in, bits_for, found, plain_field, Course, next_item, Item, plain, ReadsItems, after, apart, together, Values, max_values, data_of, View, subsets_from, each_subset}
use Rattle.bufr_fill.specs.Prelude.{IsMinusZero, rows, at_line, subsets_of, DraftEntry, IsUnlike, IsTogetherOrNot, HasReading}
use Rattle.bufr_fill.specs.declared.fault.ItemFault.{ItemFault}
use Rattle.bufr_fill.proofs.PlainLaws.{AllFields, same_bits, item_bits}
use Rattle.bufr_frame.specs.Prelude.{with_even_length, message_octets, message_size, max_octets, MessageParts, parts_of, sections_from, Sections, sections_of}
use Rattle.bufr_frame.proofs.AgainLemmas.{not-too-long, written-again}
use Rattle.bufr_frame.proofs.LayoutLemmas.{even-least, message_size_is, written-even, length-evened}
use Rattle.bufr_walk.proofs.NextField.{AreRead, table_read}
use Rattle.bufr_fill.proofs.WholeLaws.{bits_again, each_count, follows, said_again, written_apart, written_together}
use Rattle.bufr_fill.proofs.FormLaws.{subsets_said, subset_bits, row_bits}
use Rattle.bufr_text.specs.Prelude.{header_in, subset_entries, document_of, lines_before, items_shown, IsAccepted, dump_items, HaveNoMinusZero, ArePacked, AreWritten, IsCanonical, IsEncodedAgain, HasReadingIn, IsForForm, IsFormed, IsFaultIn, EncodesForm, EncodesAgain, data_bits, octets_of_bits, encoding_of, map_err, parts_as, compressed_as, message_of, encoding_in, IsDocumentRefusal, compressed_by, form_of_flag, Document, DocumentFault, Form, document_fault}
use Rattle.bufr_text.proofs.DumpableLemmas.{sections_given}
use Rattle.bufr_text.proofs.RoundTripLemmas.{all_apart, encoded_to, parts_back, parts_with, size_least, bit_back, section2_back, suffix, encoded_again, as_written, data_refused, parts_of_document, filled, is_message, reads_octets, all_dumped}
use Rattle.std.specs.Global.{Global}
use Rattle.bufr_bits.proofs.BitLemmas.{length-bits_of}
use Rattle.bufr_tables.proofs.SoundLemmas.{tree_fine}
use Rattle.bufr_frame.specs.Layout as layout
use Rattle.bufr_fill.specs.declared.fault.DraftFault.{DraftFault}
use Rattle.bufr_text.specs.declared.fault.DocumentFault.TheVariants as fault
use Rattle.bufr_text.specs.declared.encode.Form.TheVariants as form
use Rattle.std.proofs.lemmas.Grind.{common_steps}
use Rattle.bufr_fill.proofs.ReadsLemmas.{of_apart, form_is}

-- ---- A canonical message is encoded to the same octets.

-- ---- One field of plain data.

record IsTaken (spec : FieldSpec) (bits mid : List Bool) (c : Content) : Type 0 where
  is : content_in spec (take spec.width bits) ≡ c
  suffix : drop spec.width bits ≡ mid
  enough : length (take spec.width bits) ≡ spec.width

field_taken : (spec : FieldSpec) (bits mid : List Bool) (c : Content) → plain_field spec bits ≡ Ok (found c mid) → IsTaken spec bits mid c
field_taken spec bits mid c h1 = grind (arith, common_steps)

field_bits : (spec : FieldSpec) → IsSpec spec → (bits mid : List Bool) (c : Content) → IsTaken spec bits mid c → (IsMinusZero spec.role (take spec.width bits) → ⊥)
    → bits ≡ bits_for spec.width c ++ mid
field_bits spec h1 bits mid c h2 h3 = grind (arith, common_steps, same_bits)

-- ---- The items of one subset.

items_split : (course : Course) (items : List (Item Content)) (bits suffix : List Bool) → AllFields items → ReadsItems plain course items bits suffix → HaveNoMinusZero items bits
    → bits ≡ flat_map item_bits items ++ suffix
items_split course [] bits suffix fields h plus = h
items_split course (i ∷ items) bits suffix fields h plus =
    let t = field_taken i.spec bits h.0 i.content h.2 in
    let rest = items_split (after plain course i) items h.0 suffix fields.1 h.3 (subst (HaveNoMinusZero items) t.suffix plus.1) in
    grind (arith, common_steps, field_bits, append_assoc, item_bits, suffix)

-- ---- The items of all subsets.

first_zeros : (course : Course) (a b : List (Item Content)) (bits mid : List Bool) → ReadsItems plain course a bits mid → HaveNoMinusZero (a ++ b) bits → HaveNoMinusZero a bits × HaveNoMinusZero b mid
first_zeros course [] b bits mid h plus = (tt, subst (HaveNoMinusZero b) h plus)
first_zeros course (i ∷ a) b bits mid h plus =
    let t = field_taken i.spec bits h.0 i.content h.2 in
    let rest = first_zeros (after plain course i) a b h.0 mid h.3 (subst (HaveNoMinusZero (a ++ b)) t.suffix plus.1) in
    ((plus.0, subst (HaveNoMinusZero a) (sym t.suffix) rest.0), rest.1)

subset_split : (course : Course) (items : List (Item Content)) (subsets : List (List (Item Content))) (bits mid suffix : List Bool) → AllFields items → ReadsItems plain course items bits mid
    → (HaveNoMinusZero (flat_map (λ x. x) subsets) mid → mid ≡ subset_bits subsets ++ suffix) → HaveNoMinusZero (flat_map (λ x. x) (items ∷ subsets)) bits
    → bits ≡ subset_bits (items ∷ subsets) ++ suffix
subset_split course items subsets bits mid suffix fields r rest plus = search (rules, first_zeros, items_split, append_assoc)

-- ---- Compressed data.

rows_split : (items : List (Item (List Content))) (bits suffix : List Bool) → ArePacked items bits suffix → bits ≡ flat_map row_bits items ++ suffix
rows_split [] bits suffix c = c
rows_split (i ∷ items) bits suffix c = cc (c.3, rows_split items c.1 suffix c.4, append_assoc (row_bits i) (flat_map row_bits items) suffix)

-- ---- The whole message.

-- The result is these bits without the suffix.
record AreFilled (r : Result (List Bool) DraftFault) (bits suffix : List Bool) : Type 0 where
  out : List Bool
  fills : r ≡ Ok out
  splits : bits ≡ out ++ suffix

bits_split : (table : List Row) (template : Tree) (s : Sections) (values : Values) (used : ℕ) → AreRead table → IsLegal template → HasReading (next_item table template) (data_of s) values used
    → AreWritten values (bits_of s.payload) (drop used (bits_of s.payload)) → bits_of s.payload ≡ bits_again values ++ drop used (bits_of s.payload)
bits_split table template s (apart subsets) used rows legal read =
    of_apart table template rows legal (λ n subsets bits left. HaveNoMinusZero (flat_map (λ x. x) subsets) bits → bits ≡ subset_bits subsets ++ left) (λ bits plus. refl)
    (λ n items subsets bits mid left fields r end rest. subset_split (next_item table template) items subsets bits mid left fields r rest) (data_of s) subsets used read
bits_split table template s (together items) used rows legal read = rows_split items (bits_of s.payload) (drop used (bits_of s.payload))

data_filled : (table : List Row) (template : Tree) (s : Sections) (values : Values) (used at : ℕ) → AreRead table → IsLegal template
    → HasReading (next_item table template) (data_of s) values used → AreWritten values (bits_of s.payload) (drop used (bits_of s.payload))
    → AreFilled (data_bits s.compressed (next_item table template) (subsets_of (subset_entries at (dump_items table s.subsets values)))) (bits_of s.payload) (drop used (bits_of s.payload))
data_filled table template s values used at rows legal read writes =
    let drafts = subsets_of (subset_entries at (dump_items table s.subsets values)) in
    let said = subsets_said (next_item table template) (each_subset s.subsets values) drafts (follows table template rows legal (data_of s) values used read) (all_dumped table at s.subsets values) in
    let w = said_again table template rows legal (data_of s) values used drafts read said in
    record {
      out = bits_again values;
      fills = w.0.0.is ∙ ap Ok w.1;
      splits = bits_split table template s values used rows legal read writes;
    }

prefix_is : (bits out : List Bool) (used : ℕ) → used ≤ length bits → bits ≡ out ++ drop used bits → out ≡ take used bits
prefix_is bits out used h1 h2 = grind (arith, common_steps)

pub canonical_encoded : (table : List Row) (sequences : List Sequence) (m : List ℕ) (s : Sections) (template : Tree) (values : Values) (used at : ℕ) → AreRead table → IsLegal template
    → IsAccepted table sequences m s template values used → IsCanonical m s values used → encoding_of table sequences (document_of at s (dump_items table s.subsets values)) ≡ Ok m
unfolding parts_with
canonical_encoded table sequences m s template values used at rows legal a c =
    let items = dump_items table s.subsets values in
    let d = document_of at s items in
    let course = next_item table template in
    let bits = bits_of s.payload in
    let f = data_filled table template s values used (at + lines_before s) rows legal a.read c.bits in
    let edition = s.head.edition in
    let made = octets_of_bits f.out in
    let payload : s.payload ≡ with_even_length edition 4 made = cc (c.least, prefix_is bits f.out used a.read.within f.splits) in
    let same : parts_of_document d made ≡ parts_with s made = parts_back at s items made in
    let short : length made ≤ length s.payload = omega (arith, ap length payload, length-evened, even-least) in
    let most : message_size edition (parts_with s made) ≤ max_octets = size_least s made max_octets short (not-too-long m s a.sections a.few) in
    let few : message_size edition (parts_of_document d made) ≤ max_octets = subst (λ (p : layout.MessageParts). message_size edition p ≤ max_octets) (sym same) most in
    let fills : data_bits (header_in d).compressed course (subsets_of d.entries)
    ≡ Ok f.out = search (rules, bit_back) in
    encoded_to table sequences d template f.out a.expands fills few
    ∙ ap (λ (p : layout.MessageParts). Ok (message_octets s.head p)) same
    ∙ ap Ok (sym (written-even s.head s.local1 s.section2 s.descriptors s.subsets s.observed s.compressed made)
    ∙ ap (λ (o : List ℕ). message_octets s.head (parts_with s o)) (sym payload)
    ∙ written-again m s c.plain a.sections)

-- ---- The data in a form.

-- the bits that are written for a message's values in a form, and the values that are read from
-- them
record IsFilled (b : Bool) (table : List Row) (template : Tree) (s : Sections) (values : Values) (entries : List DraftEntry) : Type 0 where
  found : Values
  out : List Bool
  fills : data_bits b (next_item table template) (subsets_of entries) ≡ Ok out
  read : (octets : List ℕ) (more : List Bool) → bits_of octets ≡ out ++ more
      → HasReading (next_item table template) (record { compressed = b; subsets = s.subsets; bits = bits_of octets }) found (length out)
  each : each_subset s.subsets found ≡ each_subset s.subsets values

record IsUnfilled (table : List Row) (template : Tree) (entries : List DraftEntry) : Type 0 where
  line : ℕ
  why : ItemFault
  is : data_bits true (next_item table template) (subsets_of entries) ≡ Err (at_line line why)
  unlike : IsUnlike why

module _ (table : List Row) (template : Tree) (s : Sections) (used at : ℕ) (rows : AreRead table) (legal : IsLegal template) where
  -- The values are written in the message's own form.
  in_own_form : (b : Bool) (values : Values) → s.compressed ≡ b → HasReading (next_item table template) (data_of s) values used
      → IsFilled b table template s values (subset_entries at (dump_items table s.subsets values))
  in_own_form b values own read =
      let f = filled table template s values used at rows legal read in
      rw (← own) (record {
        found = values;
        out = f.out;
        fills = f.fills;
        read = f.read;
        each = refl;
      })

  filled_plainly : (values : Values) → HasReading (next_item table template) (data_of s) values used → IsFilled false table template s values (subset_entries at (dump_items table s.subsets values))
  filled_plainly (apart subsets) read = in_own_form false (apart subsets) (form_is (next_item table template) (data_of s) (apart subsets) used read) read
  filled_plainly (together items) read =
      let subsets = subsets_from s.subsets 0 items in
      let w = written_apart table template rows legal (data_of s) items used (subsets_of (subset_entries at (map (items_shown table) subsets))) read (all_apart table at subsets) in
      record { found = apart subsets; out = w.out; fills = w.is; read = reads_octets (next_item table template) false s.subsets (apart subsets) w.out w.again; each = refl }

  packedly : (values : Values) → length (bits_of s.payload) ≤ max_values → HasReading (next_item table template) (data_of s) values used
      → IsFilled true table template s values (subset_entries at (dump_items table s.subsets values)) ⊎ IsUnfilled table template (subset_entries at (dump_items table s.subsets values))
  packedly (together items) few read = inl (in_own_form true (together items) (form_is (next_item table template) (data_of s) (together items) used read) read)
  packedly (apart subsets) few read = by (written_together table template rows legal (data_of s) subsets used (subsets_of entries) few read (all_apart table at subsets))
    where
      entries : List DraftEntry
      entries = subset_entries at (map (items_shown table) subsets)

      count : length subsets ≡ s.subsets
      count = each_count table template rows legal (data_of s) (apart subsets) used read

      by : IsTogetherOrNot (next_item table template) subsets (subsets_of entries) → IsFilled true table template s (apart subsets) entries ⊎ IsUnfilled table template entries
      by (inr x) = inr (record { line = x.0; why = x.1; is = x.2; unlike = x.3 })
      by (inl x) = inl (record {
        found = together x.0;
        out = x.2.out;
        fills = x.2.is;
        read = reads_octets (next_item table template) true s.subsets (together x.0) x.2.out
            (λ more. subst (λ n. HasReading (next_item table template) (record { compressed = true; subsets = n; bits = x.2.out ++ more }) (together x.0) (length x.2.out)) count (x.2.again more));
        each = ap (λ n. subsets_from n 0 x.0) (sym count) ∙ x.1;
      })

-- ---- The message in a form.

unfoldable parts_for : Bool → Sections → List ℕ → MessageParts
parts_for b s payload = parts_of s.local1 s.section2 s.descriptors s.subsets s.observed b payload

parts_back_as : (form : Form) (at : ℕ) (s : Sections) (items : List (List View)) (payload : List ℕ)
    → parts_as (compressed_as form (document_of at s items)) (document_of at s items) payload ≡ parts_for (compressed_by form s.compressed) s payload
unfolding parts_for
parts_back_as form at s items payload = grind (arith, common_steps, section2_back, bit_back)

bits_few : (m : List ℕ) (s : Sections) → sections_of m ≡ Ok s → length m ≤ max_octets → length (bits_of s.payload) ≤ max_values
bits_few m s e few =
    let edition = s.head.edition in
    omega (
      arith,
      not-too-long m s e few,
      message_size_is edition (layout.parts_in s),
      length-bits_of s.payload,
      even-least edition (4 + length s.payload),
      even-least edition (7 + 2 * length s.descriptors),
    )

module _ (form : Form) (table : List Row) (sequences : List Sequence) (m : List ℕ) (s : Sections) (template : Tree) (values : Values) (used at : ℕ)
    (a : IsAccepted table sequences m s template values used) where
  -- If the message is not too long, it has the same reading.
  has_reading : (f : IsFilled (compressed_by form s.compressed) table template s values (subset_entries (at + lines_before s) (dump_items table s.subsets values)))
      → message_size s.head.edition (parts_for (compressed_by form s.compressed) s (octets_of_bits f.out)) ≤ max_octets
      → HasReadingIn form table s template values (message_octets s.head (parts_for (compressed_by form s.compressed) s (octets_of_bits f.out)))
  unfolding parts_for
  has_reading f few =
      let payload = octets_of_bits f.out in
      let parts = parts_for (compressed_by form s.compressed) s payload in
      let given = sections_given m s a.octets a.sections in
      let w = is_message s.head parts f.out given.head given.local1 given.section2 given.descriptors given.few refl few in
      record {
        few = omega (arith, w.long);
        octets = w.octets;
        framed = w.framed;
        sections = sections_from s.head parts;
        are = w.are;
        same = record { head = refl; local1 = refl; section2 = refl; descriptors = refl; subsets = refl; observed = refl; compressed = refl };
        found = f.found;
        used = length f.out;
        read = f.read (with_even_length s.head.edition 4 payload) w.tail w.bits;
        each = f.each;
        items = ap (map (items_shown table)) f.each;
      }

  abbrev encoded : Result (List ℕ) DocumentFault
  encoded = encoding_in form table sequences (document_of at s (dump_items table s.subsets values))

  -- If the data can be written, the only possible fault is the length of the message.
  written : IsForForm form (fault.TooLong at) → IsFilled (compressed_by form s.compressed) table template s values (subset_entries (at + lines_before s) (dump_items table s.subsets values))
      → IsFormed form table s template values encoded
  written long f = subst (IsFormed form table s template values) (sym is) (by (nat_lt max_octets (message_size s.head.edition parts)) refl)
    where
      d : Document
      d = document_of at s (dump_items table s.subsets values)

      parts : MessageParts
      parts = parts_for (compressed_by form s.compressed) s (octets_of_bits f.out)

      fills : data_bits (compressed_as form d) (next_item table template) (subsets_of d.entries) ≡ Ok f.out
      fills = ap (λ b. data_bits (compressed_by form b) (next_item table template) (subsets_of d.entries)) (bit_back s.compressed) ∙ f.fills

      is : encoded ≡ (if nat_lt max_octets (message_size s.head.edition parts) then Err (fault.TooLong at) else Ok (message_octets s.head parts))
      is = as_written form table sequences d template f.out (octets_of_bits f.out) a.expands fills refl
          ∙ ap (message_of at s.head) (parts_back_as form at s (dump_items table s.subsets values) (octets_of_bits f.out))

      by : (b : Bool) → nat_lt max_octets (message_size s.head.edition parts) ≡ b → IsFormed form table s template values (if b then Err (fault.TooLong at) else Ok (message_octets s.head parts))
      by true e = long
      by false e = has_reading f (ltb-false max_octets (message_size s.head.edition parts) e)

-- If the data cannot be written, the document has the fault of an item.
not_written : (table : List Row) (sequences : List Sequence) (m : List ℕ) (s : Sections) (template : Tree) (values : Values) (used at : ℕ) → IsAccepted table sequences m s template values used
    → IsUnfilled table template (subset_entries (at + lines_before s) (dump_items table s.subsets values))
    → IsFormed form.Compressed table s template values (encoding_in form.Compressed table sequences (document_of at s (dump_items table s.subsets values)))
not_written table sequences m s template values used at a f =
    let d = document_of at s (dump_items table s.subsets values) in
    let is : encoding_in form.Compressed table sequences d ≡ Err (fault.Item f.line f.why) =
    data_refused form.Compressed table sequences d template (fault.Item f.line f.why) a.expands (ap (map_err document_fault) f.is) in
    grind (arith, common_steps)

as_it_is : (table : List Row) (m : List ℕ) (s : Sections) (template : Tree) (values : Values) (used at : ℕ) (sequences : List Sequence) → length m ≤ max_octets
    → IsEncodedAgain table sequences m s template values (document_of at s (dump_items table s.subsets values))
    → IsFormed form.AsWritten table s template values (encoding_in form.AsWritten table sequences (document_of at s (dump_items table s.subsets values)))
as_it_is table m s template values used at sequences h1 h2 = grind arith

-- In each form, the document of an accepted message is encoded to a message with the same items, or
-- it has a fault that is possible in this form.
pub formed : (form : Form) (table : List Row) (sequences : List Sequence) (m : List ℕ) (s : Sections) (template : Tree) (values : Values) (used at : ℕ) → AreRead table → IsLegal template
    → IsAccepted table sequences m s template values used
    → IsFormed form table s template values (encoding_in form table sequences (document_of at s (dump_items table s.subsets values)))
formed form.AsWritten table sequences m s template values used at rows legal a =
    as_it_is table m s template values used at sequences a.few (encoded_again table sequences m s template values used at rows legal a)
formed form.Plain table sequences m s template values used at rows legal a =
    written form.Plain table sequences m s template values used at a tt (filled_plainly table template s used (at + lines_before s) rows legal values a.read)
formed form.Compressed table sequences m s template values used at rows legal a = by (packedly table template s used (at + lines_before s) rows legal values (bits_few m s a.sections a.few) a.read)
  where
    by : IsFilled true table template s values (subset_entries (at + lines_before s) (dump_items table s.subsets values))
        ⊎ IsUnfilled table template (subset_entries (at + lines_before s) (dump_items table s.subsets values))
        → IsFormed form.Compressed table s template values (encoding_in form.Compressed table sequences (document_of at s (dump_items table s.subsets values)))
    by (inl f) = written form.Compressed table sequences m s template values used at a tt f
    by (inr f) = not_written table sequences m s template values used at a f

-- ---- The faults that the code reports.

-- A fault that the code reports is possible in the form, or memory ran out.
pub answered : (form : Form) (table : List Row) (s : Sections) (template : Tree) (values : Values) (defined : Result (List ℕ) DocumentFault) (why : DocumentFault)
    → IsFormed form table s template values defined → IsDocumentRefusal why defined → IsFaultIn form why
answered form table s template values defined why h (inl out) = inl out
answered form table s template values defined why h (inr is) = grind arith

-- the same for a table that was read from records
pub formed_of : (form : Form) (records : List Record) (table : List Row) (sequences : List Sequence) (m : List ℕ) (s : Sections) (template : Tree) (values : Values) (used at : ℕ) (d : Document)
    → AreRows records table → IsAccepted table sequences m s template values used
    → d ≡ document_of at s (dump_items table s.subsets values) → IsFormed form table s template values (encoding_in form table sequences d)
formed_of form records table sequences m s template values used at d rows a same =
    subst (λ (x : Document). IsFormed form table s template values (encoding_in form table sequences x)) (sym same)
    (formed form table sequences m s template values used at (table_read records table rows) (tree_fine (tables_of table sequences) s.descriptors template a.expands).legal a)

pub form_so : (form : Form) (table : List Row) (s : Sections) (template : Tree) (values : Values) (defined : Result (List ℕ) DocumentFault) (r : Result (Vec ℕ Global) DocumentFault)
    → IfOk r (λ octets. defined ≡ Ok octets.items) → IfErr r (λ why. IsDocumentRefusal why defined)
    → IsFormed form table s template values defined → EncodesForm form table s template values r
form_so form table s template values defined r ok err h = grind arith

-- A document that can be encoded is rejected only if memory runs out.
pub memory_alone : (why : DocumentFault) (defined : Result (List ℕ) DocumentFault) (octets : List ℕ) → defined ≡ Ok octets → IsDocumentRefusal why defined → why ≡ fault.Memory
memory_alone why defined octets is (inl out) = out
memory_alone why defined octets is (inr refused) = cc

pub again_so : (table : List Row) (sequences : List Sequence) (m : List ℕ) (s : Sections) (template : Tree) (values : Values) (d : Document) (r : Result (Vec ℕ Global) DocumentFault)
    → IfOk r (λ octets. encoding_of table sequences d ≡ Ok octets.items) → IfErr r (λ why. IsDocumentRefusal why (encoding_of table sequences d))
    → IsEncodedAgain table sequences m s template values d → EncodesAgain table m s template values r
again_so table sequences m s template values d r ok err h = grind arith

-- ---- A canonical message is encoded in another form, and back to the same octets.

-- If a form is requested, the compression flag of the document makes no difference.
in_the_form : (table : List Row) (sequences : List Sequence) (at : ℕ) (s : Sections) (said flag : Bool) (items : List (List View))
    → encoding_in (form_of_flag flag) table sequences (document_of at (record s { compressed = said }) items) ≡ encoding_of table sequences (document_of at (record s { compressed = flag }) items)
unfolding encoding_in
in_the_form table sequences at s said true items = refl
in_the_form table sequences at s said false items = refl

pub canonical_back : (form : Form) (table : List Row) (sequences : List Sequence) (m : List ℕ) (s : Sections) (template : Tree) (values : Values) (used at : ℕ) (octets : List ℕ) → AreRead table
    → IsLegal template
    → IsAccepted table sequences m s template values used → IsCanonical m s values used → (again : HasReadingIn form table s template values octets)
    → encoding_in (form_of_flag s.compressed) table sequences (document_of at again.sections (dump_items table again.sections.subsets again.found)) ≡ Ok m
canonical_back form table sequences m s template values used at octets rows legal a canonical again =
    let own = form_of_flag s.compressed in
    let items = dump_items table s.subsets values in
    let same = again.same in
    ap (λ xs. encoding_in own table sequences (document_of at again.sections xs)) again.items
    ∙ (λ j. encoding_in own table sequences (document_of at (record {
      head = same.head j;
      local1 = same.local1 j;
      section2 = same.section2 j;
      descriptors = same.descriptors j;
      subsets = same.subsets j;
      observed = same.observed j;
      compressed = again.sections.compressed;
      payload = s.payload;
      size = s.size;
    }) items))
    ∙ in_the_form table sequences at s again.sections.compressed s.compressed items
    ∙ canonical_encoded table sequences m s template values used at rows legal a canonical
