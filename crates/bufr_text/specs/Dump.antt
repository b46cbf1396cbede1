-- The dump of a message, line by line, and the line that `ls` prints for a message (our choice).
-- Cited by public contracts.
use Rattle.std.specs.Prelude.{get_or, ℕ, ◌+◌, Bool, List, [], ◌∷◌, ◌++◌, length, map, flat_map, codes, decimal, Option, Some, None, is_some, unwrap_or, pos, ◌≡◌, ◌^◌, ◌<◌, ◌≤◌, true, unsigned_abs, replicate, ◌-◌}
use Rattle.bufr_bits.specs.Prelude.{decimal_text_of}
use Rattle.bufr_tables.specs.Prelude.{fxy_text, Row, is_name}
use Rattle.bufr_frame.specs.Prelude.{Sections, IsFitting, values_of}
use Rattle.bufr_fill.specs.Prelude.{DraftValue, draft, number_token, text_form, missing_form, reference_token, DraftEntry, Holds, Ends}
use Rattle.bufr_text.specs.Documents.{Document}
use Rattle.bufr_text.specs.Line.{keys, runs_of, hex_text, descriptors_text, quoted}
use Rattle.bufr_walk.specs.Prelude.{View, view_of, Content, Item, ShownValue, shown_number, shown_text, shown_missing, shown_reference, Values, each_subset}
use Rattle.std.specs.List.{concat, AllByRecursion}
use Rattle.bufr_frame.specs.declared.section1.Head.{Head}
use Rattle.std.specs.Int.{from_bool}

-- a number in decimal, with leading zeros if it has fewer than `least` digits
-- rule: listing-time
abbrev pub zero_padded : (least n : ℕ) → List ℕ
zero_padded least n = replicate (least - length (decimal n)) 48 ++ decimal n

-- the values of the header lines, in the order of `keys`
-- rule: text-header, text-header-of-edition-3
abbrev pub header_of : Sections → List ℕ
header_of s =
    s.head.edition ∷ values_of s.head ++ from_bool s.observed ∷ from_bool s.compressed
    ∷ from_bool (is_some s.section2) ∷ s.subsets ∷ []

-- the header lines for the given values of consecutive keys, starting with `key`
unfoldable pub header_lines : (key : ℕ) → List ℕ → List (List ℕ)
header_lines key [] = []
header_lines key (value ∷ more) =
    (get_or keys key [] ++ 32 ∷ decimal value) ∷ header_lines (key + 1) more

-- the `local1` line for the given local-use octets of section 1
-- rule: text-local1
abbrev pub local1_line : List ℕ → List ℕ
local1_line octets = codes "local1 " ++ hex_text octets

-- rule: text-section2
abbrev pub section2_line : List ℕ → List ℕ
section2_line octets = codes "section2 " ++ hex_text octets

-- rule: text-descriptors
abbrev pub descriptors_line : List ℕ → List ℕ
descriptors_line words = codes "descriptors" ++ descriptors_text words

-- a value as shown on its item's line
-- rule: text-number
abbrev pub dump_value_of : ShownValue → DraftValue
dump_value_of (shown_number v scale) = number_token (decimal_text_of v scale)
dump_value_of (shown_text octets) = text_form octets
dump_value_of shown_missing = missing_form
dump_value_of (shown_reference v) = reference_token (decimal_text_of v (pos 0))

-- the comment `  # NAME [UNIT]` for an item that Table B describes; other items have no comment
-- rule: text-comment, text-no-comment
abbrev pub comment_text : Option Row → List ℕ
comment_text None = []
comment_text (Some row) = concat (codes "  # " ∷ row.name ∷ codes " [" ∷ row.unit ∷ codes "]" ∷ [])

-- a descriptor and a value as shown on an item's line
-- rule: text-quoted, text-missing, text-reference, text-inserted
abbrev pub form_text : (fxy : ℕ) → DraftValue → List ℕ
form_text fxy (number_token token) = fxy_text fxy ++ 32 ∷ token
form_text fxy (text_form octets) = fxy_text fxy ++ 32 ∷ 34 ∷ quoted octets
form_text fxy missing_form = fxy_text fxy ++ 32 ∷ codes "MISSING"
form_text fxy (reference_token token) = codes "R " ++ fxy_text fxy ++ 32 ∷ token

abbrev pub item_text : View → List ℕ
item_text item = form_text item.fxy (dump_value_of item.value) ++ comment_text item.entry

-- the line that begins a subset
abbrev pub subset_line : ℕ → List ℕ
subset_line subset = codes "subset " ++ decimal subset

-- the lines of the given subsets; the first subset has number `subset`
-- rule: text-subset
unfoldable pub subset_lines : (subset : ℕ) → List (List View) → List (List ℕ)
subset_lines subset [] = []
subset_lines subset (items ∷ more) =
    subset_line subset ∷ (map item_text items ++ subset_lines (subset + 1) more)

abbrev pub head_lines : Sections → List (List ℕ)
head_lines s = codes "message" ∷ (header_lines 0 (header_of s)
    ++ (map local1_line (runs_of 32 s.local1)
    ++ (map section2_line (runs_of 32 (unwrap_or s.section2 []))
    ++ map descriptors_line (runs_of 8 s.descriptors))))

-- the lines of a message's dump, given the items of each subset
-- rule: text-lines-in-order
abbrev pub dump_lines : Sections → List (List View) → List (List ℕ)
dump_lines s subsets = head_lines s ++ (subset_lines 1 subsets ++ codes "end" ∷ [])

-- the text of the given lines, with a line feed after each
abbrev pub text_of_lines : List (List ℕ) → List ℕ
text_of_lines lines = flat_map (λ line. line ++ 10 ∷ []) lines

abbrev pub dump_text_of : Sections → List (List View) → List ℕ
dump_text_of s subsets = text_of_lines (dump_lines s subsets)

-- the entries for the given items, whose lines are consecutive and start with line `at`
unfoldable pub item_entries : (at : ℕ) → List View → List DraftEntry
item_entries at [] = []
item_entries at (item ∷ more) =
    Holds (draft at item.fxy (dump_value_of item.value)) ∷ item_entries (at + 1) more

-- the entries for the given subsets, whose lines are consecutive and start with line `at`
unfoldable pub subset_entries : (at : ℕ) → List (List View) → List DraftEntry
subset_entries at [] = []
subset_entries at (items ∷ more) = item_entries (at + 1) items
    ++ (Ends (at + 1 + length items) ∷ subset_entries (at + 1 + length items) more)

-- the number of lines before the first `subset` line in a message's dump
abbrev pub lines_before : Sections → ℕ
lines_before s = 21 + length (runs_of 32 s.local1) + length (runs_of 32 (unwrap_or s.section2 []))
    + length (runs_of 8 s.descriptors)

-- the result of parsing a message's dump that begins on line `at`
abbrev pub document_of : (at : ℕ) → Sections → List (List View) → Document
document_of at s subsets = record {
  line = at;
  header = header_of s;
  local1 = s.local1;
  section2 = unwrap_or s.section2 [];
  descriptors = s.descriptors;
  entries = subset_entries (at + lines_before s) subsets;
}

-- ---- The items read from a message, as they appear in its dump (not part of FM 94 BUFR).

-- the items of a subset, as they appear in a dump
abbrev pub items_shown : List Row → List (Item Content) → List View
items_shown table items = map (λ i. view_of table i.spec i.content) items

abbrev pub dump_items : List Row → (subsets : ℕ) → Values → List (List View)
dump_items table n values = map (items_shown table) (each_subset n values)

-- ---- Sections and items that can be dumped.

abbrev pub IsOctet : ℕ → Type 0
IsOctet c = c < 256

-- The descriptor fits in 16 bits.
abbrev pub IsDescriptorWord : ℕ → Type 0
IsDescriptorWord w = w < 65536

-- A number has at most 39 digits and a scale from -300 to 300, and a string consists of at most 255
-- octets.
abbrev pub IsValue : ShownValue → Type 0
IsValue (shown_number v scale) = (unsigned_abs v < 10 ^ 39) × (unsigned_abs scale ≤ 300)
IsValue (shown_text octets) = AllByRecursion IsOctet octets × (length octets ≤ 255)
IsValue shown_missing = Unit {0}
IsValue (shown_reference v) = unsigned_abs v < 10 ^ 39

-- If there is a comment, its name and unit are valid in Table B.
abbrev pub IsComment : Option Row → Type 0
IsComment None = Unit {0}
IsComment (Some row) = (is_name row.name ≡ true) × (is_name row.unit ≡ true)

pub record IsItem (item : View) : Type 0 where
  pub word : IsDescriptorWord item.fxy
  pub value : IsValue item.value
  pub comment : IsComment item.entry

-- A message with the given sections and subsets can be dumped. There are as many subsets as section
-- 3 declares.
pub record IsDumpable (s : Sections) (subsets : List (List View)) : Type 0 where
  pub head : IsFitting s.head
  pub local1 : AllByRecursion IsOctet s.local1
  pub section2 : AllByRecursion IsOctet (unwrap_or s.section2 [])
  pub descriptors : AllByRecursion IsDescriptorWord s.descriptors
  pub few : s.subsets < 65536
  pub counted : length subsets ≡ s.subsets
  pub items : AllByRecursion (λ items. AllByRecursion IsItem items) subsets

-- ---- The line that `ls` prints for a message.

-- the first part of the line that `ls` prints, with the message's location, origin, category and
-- tables
abbrev pub source_texts : (offset size : ℕ) → Head → List (List ℕ)
source_texts offset size h =
    codes "offset=" ∷ decimal offset ∷ codes " length=" ∷ decimal size ∷ codes " edition="
    ∷ decimal h.edition ∷ codes " centre=" ∷ decimal h.centre ∷ codes "/" ∷ decimal h.subcentre
    ∷ codes " update=" ∷ decimal h.update ∷ codes " category=" ∷ decimal h.category ∷ codes "/"
    ∷ decimal h.subcategory ∷ codes "/" ∷ decimal h.local_subcategory ∷ codes " tables="
    ∷ decimal h.master ∷ codes "/" ∷ decimal h.master_version ∷ codes "/"
    ∷ decimal h.local_version ∷ []

-- the time; in edition 3, the year is the year of the century, and the seconds are 0
abbrev pub time_texts : Head → List (List ℕ)
time_texts h =
    codes " time=" ∷ zero_padded 4 h.year ∷ codes "-" ∷ zero_padded 2 h.month ∷ codes "-" ∷ zero_padded 2 h.day ∷
    codes "T" ∷ zero_padded 2 h.hour ∷ codes ":" ∷ zero_padded 2 h.minute ∷ codes ":" ∷ zero_padded 2 h.second ∷ []

-- the last part of the line that `ls` prints, with the number of subsets, the flags (1 or 0), and
-- the number of descriptors
-- rule: listing-flags
abbrev pub counts_texts : (subsets : ℕ) (observed compressed optional : Bool)
    (descriptors : ℕ) → List (List ℕ)
counts_texts subsets observed compressed optional descriptors =
    codes " subsets=" ∷ decimal subsets ∷ codes " observed=" ∷ decimal (from_bool observed)
    ∷ codes " compressed=" ∷ decimal (from_bool compressed)
    ∷ codes " optional=" ∷ decimal (from_bool optional)
    ∷ codes " descriptors=" ∷ decimal descriptors ∷ codes "\n" ∷ []

-- the line that `ls` prints for the message at the given offset, including the line feed
-- rule: listing-line, listing-offset-and-length
abbrev pub ls_line : ℕ → Sections → List ℕ
ls_line offset s = concat (source_texts offset s.size s.head ++ (time_texts s.head
    ++ counts_texts s.subsets s.observed s.compressed (is_some s.section2) (length s.descriptors)))
