-- Only contracts need this file. An accepted message, and the message that results from encoding
-- its dump.
use Rattle.std.specs.Prelude.{◌≡◌, ℕ, ◌+◌, ◌%◌, ◌≤◌, ◌==◌, ◌&&◌, ◌||◌, Bool, List, ◌∷◌, ◌++◌, length, if◌then◌else◌, Ok, Vec, Result, Err, [], take, drop, flat_map, ◌⊎◌}
use Rattle.std.specs.List.{AllByRecursion}
use Rattle.bufr_tables.specs.Prelude.{tree_of, tables_of, Row, Sequence, Tree}
use Rattle.bufr_frame.specs.Prelude.{max_octets, with_even_length, u24_at, section3_begins, section4_begins, Sections, sections_of, edition_of, IsPlain, FrameAt, scan_from}
use Rattle.bufr_walk.specs.Prelude.{next_item, data_of, Values, Item, apart, together, Content, each_subset}
use Rattle.bufr_text.specs.declared.encode.Form.{Form}
use Rattle.bufr_text.specs.declared.encode.Form.TheVariants.{AsWritten}
use Rattle.bufr_text.specs.Documents.{header_in, Document, section2_in}
use Rattle.bufr_text.specs.Dump.{dump_items, IsOctet}
use Rattle.bufr_text.specs.Encoding.{compressed_by, encoding_of, octets_of_bits, compressed_as}
use Rattle.std.specs.Global.{Global}
use Rattle.bufr_fill.specs.Prelude.{IsUnlike, AreSpecified, HasReading, IsMinusZero, packing, Subset, subsets_of}
use Rattle.bufr_text.specs.declared.fault.DocumentFault.{DocumentFault}
use Rattle.bufr_text.specs.declared.fault.DocumentFault.TheVariants as document
use Rattle.bufr_bits.specs.Prelude.{bits_of}
use Rattle.bufr_text.specs.declared.encode.Form.TheVariants as form

-- The message m is accepted with the given tables, which means that it can be split into sections,
-- its descriptors expand into a template, and its data can be read.
pub record IsAccepted (table : List Row) (sequences : List Sequence) (m : List ℕ) (s : Sections)
    (template : Tree) (values : Values) (used : ℕ) : Type 0 where
  pub octets : AllByRecursion IsOctet m
  pub few : length m ≤ max_octets
  pub sections : sections_of m ≡ Ok s
  pub expands : tree_of (tables_of table sequences) s.descriptors ≡ Ok template
  pub read : HasReading (next_item table template) (data_of s) values used

-- The sections of two messages have the same content, although their lengths and data bits may
-- differ. The second message has the compression flag that the form specifies.
pub record SaySame (form : Form) (a b : Sections) : Type 0 where
  pub head : b.head ≡ a.head
  pub local1 : b.local1 ≡ a.local1
  pub section2 : b.section2 ≡ a.section2
  pub descriptors : b.descriptors ≡ a.descriptors
  pub subsets : b.subsets ≡ a.subsets
  pub observed : b.observed ≡ a.observed
  pub compressed : b.compressed ≡ compressed_by form a.compressed

-- The maximum number of octets by which a message grows when its dump is encoded. An edition 3
-- message can grow by up to 2 octets if the length of section 3 or 4 is odd, because both lengths
-- are made even. No other message grows.
-- rule: becomes-canonical
abbrev pub extra_octets : (m : List ℕ) → ℕ
extra_octets m = if edition_of m == 3
    && (u24_at m (section3_begins m) % 2 == 1 || u24_at m (section4_begins m) % 2 == 1)
    then 2 else 0

-- The message `written` has the same content as m, whose sections are s. `written` is no longer
-- than m, except that it can be up to two octets longer in edition 3.
pub record HasSameReading (table : List Row) (m : List ℕ) (s : Sections) (template : Tree)
    (values : Values) (written : List ℕ) : Type 0 where
  pub no_longer : length written ≤ length m + extra_octets m
  pub few : length written ≤ max_octets
  pub octets : AllByRecursion IsOctet written
  -- In a stream, the octets are recognized as a single message, regardless of what follows.
  pub framed : (at : ℕ) (suffix : List ℕ) → scan_from 0 at (written ++ suffix)
      ≡ FrameAt at written ∷ scan_from 0 (at + length written) suffix
  pub sections : Sections
  pub are : sections_of written ≡ Ok sections
  pub same : SaySame AsWritten s sections
  pub used : ℕ
  pub read : HasReading (next_item table template) (data_of sections) values used

-- Encoding the document gives a message with the same content as m.
pub record IsEncodedAgain (table : List Row) (sequences : List Sequence) (m : List ℕ) (s : Sections)
    (template : Tree) (values : Values) (d : Document) : Type 0 where
  pub octets : List ℕ
  pub is : encoding_of table sequences d ≡ Ok octets
  pub same : HasSameReading table m s template values octets

-- Encoding the dump of m without changing its form gave a message with the same content, or memory
-- ran out.
abbrev pub EncodesAgain : List Row → List ℕ → Sections → Tree → Values
    → Result (Vec ℕ Global) DocumentFault → Type 0
EncodesAgain table m s template values (Ok octets) =
    HasSameReading table m s template values octets.items
EncodesAgain table m s template values (Err why) = why ≡ document.Memory

-- ---- The result of encoding the dump of an accepted message in a given form.

-- The message `written` has the given form and, except for its compression flag, the same content
-- as the message whose sections are s.
pub record HasReadingIn (form : Form) (table : List Row) (s : Sections) (template : Tree)
    (values : Values) (written : List ℕ) : Type 0 where
  pub few : length written ≤ max_octets
  pub octets : AllByRecursion IsOctet written
  -- In a stream, the octets are recognized as a single message, regardless of what follows.
  pub framed : (at : ℕ) (suffix : List ℕ) → scan_from 0 at (written ++ suffix)
      ≡ FrameAt at written ∷ scan_from 0 (at + length written) suffix
  pub sections : Sections
  pub are : sections_of written ≡ Ok sections
  pub same : SaySame form s sections
  pub found : Values
  pub used : ℕ
  pub read : HasReading (next_item table template) (data_of sections) found used
  -- Each subset has the same items in both messages.
  pub each : each_subset s.subsets found ≡ each_subset s.subsets values
  -- The dumps of both messages show the same items.
  pub items : dump_items table sections.subsets found ≡ dump_items table s.subsets values

-- If an accepted message is dumped, encoding the dump in the given form can fail with the given
-- fault. Encoding never fails in the form `AsWritten`. In the other forms, the message may be too
-- long (fault 60). In the form `Compressed`, faults 58 and 59 are also possible.
abbrev pub IsForForm : Form → DocumentFault → Type 0
IsForForm form.AsWritten why = ⊥
IsForForm form.Plain (document.TooLong line) = Unit {0}
IsForForm form.Plain why = ⊥
IsForForm form.Compressed (document.Item line why) = IsUnlike why
IsForForm form.Compressed (document.TooLong line) = Unit {0}
IsForForm form.Compressed why = ⊥

-- Encoding a message's dump in the given form gives a message with the same items or a fault that
-- is possible in that form.
abbrev pub IsFormed : Form → List Row → Sections → Tree → Values
    → Result (List ℕ) DocumentFault → Type 0
IsFormed form table s template values (Ok octets) = HasReadingIn form table s template values octets
IsFormed form table s template values (Err why) = IsForForm form why

-- The fault is either `Memory` or one that is possible in the given form.
abbrev pub IsFaultIn : Form → DocumentFault → Type 0
IsFaultIn form why = (why ≡ document.Memory) ⊎ IsForForm form why

-- Encoding a message's dump in the given form gave a message with the same items, a fault that is
-- possible in that form, or the fault `Memory`.
abbrev pub EncodesForm : Form → List Row → Sections → Tree → Values
    → Result (Vec ℕ Global) DocumentFault → Type 0
EncodesForm form table s template values (Ok octets) =
    HasReadingIn form table s template values octets.items
EncodesForm form table s template values (Err why) = IsFaultIn form why

-- ---- A message as an encoder writes it (our choice).

-- The bits begin with the fields of the given items, and no redefined reference is minus zero.
abbrev pub HaveNoMinusZero : List (Item Content) → List Bool → Type 0
HaveNoMinusZero [] bits = Unit {0}
HaveNoMinusZero (i ∷ items) bits = (IsMinusZero i.spec.role (take i.spec.width bits) → ⊥)
    × HaveNoMinusZero items (drop i.spec.width bits)

-- The bits are what an encoder writes for the given compressed items, followed by `suffix`.
abbrev pub ArePacked : List (Item (List Content)) → (bits suffix : List Bool) → Type 0
ArePacked [] bits suffix = bits ≡ suffix
ArePacked (i ∷ items) bits suffix =
    (out : List Bool) × (mid : List Bool) × (packing i.spec i.content ≡ Ok out)
    × (bits ≡ out ++ mid) × ArePacked items mid suffix

-- The data bits are exactly those that an encoder writes.
abbrev pub AreWritten : Values → (bits suffix : List Bool) → Type 0
AreWritten (apart subsets) bits suffix = HaveNoMinusZero (flat_map (λ items. items) subsets) bits
AreWritten (together items) bits suffix = ArePacked items bits suffix

-- The message is canonical, which means that its reserved octets and bits are zero, and that it has
-- no unnecessary octets. The data are padded with zero bits to whole octets and, in edition 3, to
-- an even length of section 4.
-- rule: canonical
pub record IsCanonical (m : List ℕ) (s : Sections) (values : Values) (used : ℕ) : Type 0 where
  pub plain : IsPlain m
  pub least : s.payload ≡ with_even_length s.head.edition 4
      (octets_of_bits (take used (bits_of s.payload)))
  pub bits : AreWritten values (bits_of s.payload) (drop used (bits_of s.payload))

-- ---- Reading an encoded document back yields the same content.

-- The given values are those of the items in a document's subsets.
abbrev pub AreValuesOf : Values → List Subset → Type 0
AreValuesOf values drafts = AreSpecified (each_subset (length drafts) values) drafts

-- The octets form a single message, which is accepted and has the given form. The message has the
-- content of the document and the values that the document's items specify.
pub record IsReadAs (form : Form) (table : List Row) (sequences : List Sequence) (d : Document)
    (octets : List ℕ) : Type 0 where
  pub sections : Sections
  pub template : Tree
  pub values : Values
  pub used : ℕ
  pub accepted : IsAccepted table sequences octets sections template values used
  -- In a stream, the octets are recognized as a single message, regardless of what follows.
  pub framed : (at : ℕ) (suffix : List ℕ) → scan_from 0 at (octets ++ suffix)
      ≡ FrameAt at octets ∷ scan_from 0 (at + length octets) suffix
  pub head : sections.head ≡ (header_in d).head
  pub local1 : sections.local1 ≡ d.local1
  pub section2 : sections.section2 ≡ section2_in d
  pub descriptors : sections.descriptors ≡ d.descriptors
  pub subsets : sections.subsets ≡ (header_in d).subsets
  pub observed : sections.observed ≡ (header_in d).observed
  pub compressed : sections.compressed ≡ compressed_as form d
  pub said : AreValuesOf values (subsets_of d.entries)
