-- Only contracts need this file. How the code writes plain and compressed data, and how it finds
-- the least increment size k (our choice).
use Rattle.std.specs.Prelude.{ℕ, ◌≡◌, ◌≤◌, ◌<◌, ◌*◌, ◌^◌, Bool, List, [], ◌∷◌, ◌++◌, length, Option, Some, None, Result, Ok, Err, ◌+◌, ◌-◌, suc, ◌==◌, ◌&&◌, nat_lt, max, min, if◌then◌else◌, take, slice_get, ◌%◌, false}
use Rattle.bufr_walk.specs.declared.spec.Taken.{Taken}
use Rattle.bufr_walk.specs.Prelude.{FieldSpec, Content, answer_of, bits_for, Next, take_next, at_end, astray, refused, answer_first, max_values}
use Rattle.bufr_fill.specs.Draft.{DraftFault, Draft, DraftEntry, Holds, Ends, ItemFault, at_line, item_too_many, walk_refused, Subset, content_of, wrong_for, FieldContent, raw_limit, padded_content, IsContentOf, subsets_of, has_octets, entry_with, ends_of}
use Rattle.bufr_fill.specs.declared.fault.DraftFault.{DraftFault}
use Rattle.bufr_fill.specs.Encoding.{written_item, RowCell, ItemRow, rows, most_items, item_row, cells_at, first_line, pack_across, item_content, row_contents, first_from, Taken}
use Rattle.std.specs.List.{list_all, AllByRecursion}
use Rattle.bufr_fill.specs.declared.packed_out.NumberRange.{NumberRange}
use Rattle.bufr_fill.specs.declared.draft.StoredEntry.{StoredEntry}
use Rattle.bufr_fill.specs.declared.fault.DraftFault.TheVariants as draft_fault
use Rattle.bufr_fill.specs.declared.field_value.FieldContent.TheVariants as field_content

-- a writer of plain data, with the remaining entries and the bits written so far
pub record PlainOutModel : Type 0 where
  pub left : List DraftEntry
  pub bits : List Bool

-- a writer of plain data with the given entries and bits
abbrev pub plain_out_model : List DraftEntry → List Bool → PlainOutModel
plain_out_model left bits = record { left = left; bits = bits }

-- A writer of plain data has processed `index` of `count` entries and has written at most 2,040
-- bits per processed entry.
pub record IsPlainOut (index count bits : ℕ) : Type 0 where
  pub within : index ≤ count
  pub few : count ≤ 2 ^ 45
  pub room : bits ≤ 2040 * index

-- The next item was valid for the field and was written.
pub record IsFilled (s : PlainOutModel) (spec : FieldSpec) (t : Taken)
    (s' : PlainOutModel) : Type 0 where
  pub draft : Draft
  pub content : Content
  pub here : s.left ≡ Holds draft ∷ s'.left
  pub is : content_of spec draft ≡ Ok content
  pub gives : t ≡ answer_of spec content
  pub bits : s'.bits ≡ s.bits ++ bits_for spec.width content
  pub forth : length s.bits < length s'.bits

-- The next item is invalid or missing. If it is missing, the fault names the expected item and is
-- reported for the line that ends the subset, or for line 0 if no entries remain.
abbrev pub IsFaultOf : FieldSpec → List DraftEntry → DraftFault → Type 0
IsFaultOf spec [] f = f ≡ at_line 0 (wrong_for spec)
IsFaultOf spec (Ends line ∷ more) f = f ≡ at_line line (wrong_for spec)
IsFaultOf spec (Holds d ∷ more) f =
    (why : ItemFault) × (content_of spec d ≡ Err why) × (f ≡ at_line d.line why)

-- The fault has the property p, or it reports that memory ran out.
abbrev pub IfDraftFault : DraftFault → (DraftFault → Type 0) → Type 0
IfDraftFault (draft_fault.Item line fault) p = p (at_line line fault)
IfDraftFault draft_fault.Memory p = Unit {0}

-- A call wrote the next item, or it failed because the item is invalid or missing, or because
-- memory ran out. If the call failed, the writer is unchanged.
abbrev pub PlainFills : PlainOutModel → FieldSpec → Result Taken DraftFault → PlainOutModel → Type 0
PlainFills s spec (Ok t) s' = IsFilled s spec t s'
PlainFills s spec (Err e) s' = IfDraftFault e (IsFaultOf spec s.left) × (s' ≡ s)

-- the line number of the next entry, or 0 after the last entry
abbrev pub line_at : List DraftEntry → ℕ
line_at [] = 0
line_at (Holds d ∷ more) = d.line
line_at (Ends line ∷ more) = line

-- the entries after the end of a subset, or a fault if the next entry does not end a subset
abbrev pub after_end : List DraftEntry → Result (List DraftEntry) DraftFault
after_end [] = Err (at_line 0 item_too_many)
after_end (Holds d ∷ more) = Err (at_line d.line item_too_many)
after_end (Ends line ∷ more) = Ok more

-- A call moved past the end of a subset, or it failed because the next entry does not end a subset.
-- If the call failed, the writer is unchanged.
abbrev pub EndsSubset : PlainOutModel → Result (Unit {0}) DraftFault → PlainOutModel → Type 0
EndsSubset s (Ok _) s' = (after_end s.left ≡ Ok s'.left) × (s'.bits ≡ s.bits)
EndsSubset s (Err e) s' =
    (after_end s.left ≡ Err e) × (s' ≡ s)

-- The next item is invalid or missing, the walk rejects a descriptor, or an item follows the end of
-- the template. If the walk rejects a descriptor, the fault has the line number of the next entry.
abbrev pub IsFaultNext : Next → List DraftEntry → DraftFault → Type 0
IsFaultNext (take_next spec) left f = IsFaultOf spec left f
IsFaultNext (refused why) left f = f ≡ at_line (line_at left) (walk_refused why)
IsFaultNext at_end left f = (1 ≤ length left) × (after_end left ≡ Err f)
IsFaultNext astray left f = ⊥

-- the remaining items of the current subset
abbrev pub items_left : List DraftEntry → List Draft
items_left [] = []
items_left (Holds d ∷ more) = d ∷ items_left more
items_left (Ends line ∷ more) = []

-- the number of the line that ends the current subset, or 0 after the last subset
abbrev pub end_left : List DraftEntry → ℕ
end_left [] = 0
end_left (Holds d ∷ more) = end_left more
end_left (Ends line ∷ more) = line

-- a writer of compressed data, with the subsets, the number of rows written so far, and the bits of
-- those rows
pub record PackedOutModel : Type 0 where
  pub subsets : List Subset
  pub index : ℕ
  pub bits : List Bool

-- a writer of compressed data that has not written anything yet
abbrev pub new_packed_out : List Subset → PackedOutModel
new_packed_out subsets = record { subsets = subsets; index = 0; bits = [] }

-- The result is a new writer for the given subsets, or `None` if there are no subsets.
abbrev pub StartsPackedOut : List Subset → Option PackedOutModel → Type 0
StartsPackedOut subsets None = subsets ≡ []
StartsPackedOut subsets (Some s) = s ≡ new_packed_out subsets

-- a subset's entry in a row, which is an item or the end of the subset
abbrev pub entry_or_end : Option Draft → (end_line : ℕ) → DraftEntry
entry_or_end (Some d) end_line = Holds d
entry_or_end None end_line = Ends end_line

-- Any copies are of the eight rows starting at index `from`, stored row by row. Each copy equals
-- the original entry, unless the value is stored in the shared block.
abbrev pub AreTransposed : List DraftEntry → (from count : ℕ) → (copies : List StoredEntry) → Type 0
AreTransposed entries from count copies = (ahead s : ℕ) (e : StoredEntry) (c : RowCell)
    → ahead < 8 → slice_get copies (ahead * count + s) ≡ Some e
    → slice_get (cells_at (from + ahead) (subsets_of entries)) s ≡ Some c → has_octets e ≡ false
    → (octets : List ℕ) → entry_with e octets ≡ entry_or_end c.draft c.end_line

-- The invariant of a writer of compressed data, including its limits on bits and values. After the
-- first row of a group of eight rows, all copies belong to that group.
pub record IsPackedOut (entries : List DraftEntry) (ends : List ℕ) (copies : List StoredEntry)
    (index bits : ℕ) : Type 0 where
  pub transposed : 0 < index % 8 → AreTransposed entries (index - index % 8) (length ends) copies
  pub few : length entries ≤ 2 ^ 45
  pub ends_are : ends ≡ ends_of 0 entries
  pub some : 1 ≤ length ends
  pub room : bits ≤ 2550 * (index * length ends)
  pub values : index * length ends ≤ max_values

-- The row was packed as one item, and the item's bits were appended.
pub record IsPutAcross (old new : List Bool) (spec : FieldSpec) (a : ItemRow)
    (t : Taken) : Type 0 where
  pub contents : List Content
  pub item : List Bool
  pub is : pack_across spec a ≡ Ok (written_item contents item)
  pub gives : t ≡ answer_first spec contents
  pub bits : new ≡ old ++ item
  pub forth : length old < length new

-- The next row was written as one item.
pub record IsPacked (s : PackedOutModel) (spec : FieldSpec) (t : Taken)
    (s' : PackedOutModel) : Type 0 where
  pub put : IsPutAcross s.bits s'.bits spec (item_row s.index s.subsets) t
  pub index : s'.index ≡ s.index + 1
  pub subsets : s'.subsets ≡ s.subsets

-- A call wrote the next row as one item, or it failed because the row is invalid or memory ran out.
-- If the call failed, the writer is unchanged.
abbrev pub PackedFills : PackedOutModel → FieldSpec → Result Taken DraftFault → PackedOutModel
    → Type 0
PackedFills s spec (Ok t) s' = IsPacked s spec t s'
PackedFills s spec (Err e) s' =
    IfDraftFault e (λ f. pack_across spec (item_row s.index s.subsets) ≡ Err f)
    × (s' ≡ s)

-- the fault in a subset's extra item or, if there is none, the result for the other subsets
abbrev pub and_end : Option Draft → Result (Unit {0}) DraftFault → Result (Unit {0}) DraftFault
and_end None rest = rest
and_end (Some d) rest = Err (at_line d.line item_too_many)

-- success if no subset has an extra item; otherwise, the fault in the first extra item
abbrev pub all_at_end : List RowCell → Result (Unit {0}) DraftFault
all_at_end [] = Ok tt
all_at_end (c ∷ cells) = and_end c.draft (all_at_end cells)

-- A call succeeded if no subset has an item at the given index; otherwise, it returned the fault
-- for that item in the first subset that has one.
abbrev pub EndsAllSubsets : (index : ℕ) → List Subset → Result (Unit {0}) DraftFault → Type 0
EndsAllSubsets index subsets (Ok _) = all_at_end (cells_at index subsets) ≡ Ok tt
EndsAllSubsets index subsets (Err e) = all_at_end (cells_at index subsets) ≡ Err e

-- the number of the line with the first subset's next item or, if none remains, with its end
abbrev pub first_line_at : (index : ℕ) → List Subset → ℕ
first_line_at index subsets = first_line (cells_at index subsets)

-- the remaining rows
abbrev pub rows_left : PackedOutModel → List ItemRow
rows_left s = rows (most_items s.subsets - s.index) s.index s.subsets

-- The next row is invalid, the walk rejects a descriptor, or an item follows the end of the
-- template. A rejected descriptor is reported for the line that `first_line_at` returns.
abbrev pub IsFaultHere : Next → PackedOutModel → DraftFault → Type 0
IsFaultHere (take_next spec) s f = pack_across spec (item_row s.index s.subsets) ≡ Err f
IsFaultHere (refused why) s f = f ≡ at_line (first_line_at s.index s.subsets) (walk_refused why)
IsFaultHere at_end s f = all_at_end (cells_at s.index s.subsets) ≡ Err f
IsFaultHere astray s f = ⊥

-- ---- How the code finds the least k of an item, and which bits it writes with that k.

-- the content of a field if it is a number, and `other` otherwise
abbrev pub number_or : (other : ℕ) → FieldContent → ℕ
number_or other (field_content.Number n) = n
number_or other _ = other

-- the difference between a number and the base, or 0 if the content is not a number
abbrev pub over_of : (base : ℕ) → FieldContent → ℕ
over_of base (field_content.Number n) = n - base
over_of base _ = 0

-- the greatest difference between the base and any number in the given fields
abbrev pub spread : (base : ℕ) → List FieldContent → ℕ
spread base [] = 0
spread base (d ∷ ds) = max (over_of base d) (spread base ds)

-- the least number in the given fields, or 2^64 - 1 if no field contains a number
abbrev pub least_number : List FieldContent → ℕ
least_number [] = 18446744073709551615
least_number (d ∷ ds) = min (number_or 18446744073709551615 d) (least_number ds)

-- the least k in `from..=63` such that k bits can represent the increment `spread`, or 64 if no
-- such k exists
unfoldable pub least_from : (may_be_missing : Bool) (spread from : ℕ) → ℕ
least_from m spread from = first_from (λ k. nat_lt spread (raw_limit m k)) (64 - from) from

-- the length of a string without its trailing spaces
abbrev pub trimmed : List ℕ → ℕ
trimmed [] = 0
trimmed (o ∷ os) = if (trimmed os == 0) && (o == 32) then 0 else suc (trimmed os)

-- the number of octets needed to represent a string without its trailing spaces; one space is kept
-- if all octets before it are 255
abbrev pub need : List ℕ → ℕ
need os =
    if list_all (λ octet. octet == 255) (take (trimmed os) os) then suc (trimmed os) else trimmed os

-- the number of octets needed to represent the content of a field, or 1 if the content is not a
-- string
abbrev pub need_of : FieldContent → ℕ
need_of (field_content.Text octets) = need octets.now
need_of _ = 1

-- the greatest number of octets needed to represent any of the contents, but at least 1
abbrev pub most_need : List FieldContent → ℕ
most_need [] = 1
most_need (d ∷ ds) = max (need_of d) (most_need ds)

-- The expected bits of an item (at most `most` bits) were appended, or a fault occurred and nothing
-- was appended.
abbrev pub PacksItem : (old new : List Bool) → (expected : Result (List Bool) ItemFault)
    → (most : ℕ) → {E : Type 0} → Result (Unit {0}) E → Type 0
PacksItem old new expected most (Ok _) =
    (bits : List Bool) × (expected ≡ Ok bits) × (new ≡ old ++ bits) × (length bits ≤ most)
    × (length old < length new)
PacksItem old new expected most (Err _) = new ≡ old

-- If the content is a number, its difference from the base fits in k bits.
abbrev pub FitsIncrement : (base k : ℕ) → FieldContent → Type 0
FitsIncrement base k (field_content.Number raw) = raw - base < 2 ^ k
FitsIncrement base k _ = Unit {0}

-- The difference between each number and the base fits in k bits.
abbrev pub AreShort : (base k : ℕ) → List FieldContent → Type 0
AreShort base k ds = AllByRecursion (λ (d : FieldContent). FitsIncrement base k d) ds

-- The row was written as one item of at most `most` bits.
pub record IsPutWithin (old new : List Bool) (spec : FieldSpec) (a : ItemRow) (most : ℕ)
    (t : Taken) : Type 0 where
  pub put : IsPutAcross old new spec a t
  pub few : length put.item ≤ most

-- A call wrote the row as one item, or it failed because the row is invalid or memory ran out. If
-- the call failed, no bits were written.
abbrev pub PutAcross : (old new : List Bool) → FieldSpec → ItemRow → (most : ℕ)
    → Result Taken DraftFault → Type 0
PutAcross old new spec a most (Ok t) = IsPutWithin old new spec a most t
PutAcross old new spec a most (Err e) =
    IfDraftFault e (λ f. pack_across spec a ≡ Err f) × (new ≡ old)

-- ---- How the code reads the rows of compressed data.

-- the content that an entry specifies for a field, or a fault
abbrev pub entry_content : FieldSpec → DraftEntry → Result Content DraftFault
entry_content spec (Holds d) = item_content spec (Some d) d.line
entry_content spec (Ends line) = item_content spec None line

-- All of the contents are valid for the field.
abbrev pub AreContentsOf : FieldSpec → List FieldContent → Type 0
AreContentsOf spec ds = AllByRecursion (λ (d : FieldContent). IsContentOf spec d) ds

-- the contents of fields, with strings padded to `count` octets
abbrev pub padded_contents : (count : ℕ) → List FieldContent → List Content
padded_contents count [] = []
padded_contents count (d ∷ ds) = padded_content count d ∷ padded_contents count ds

-- The range extends from the least number among the contents to the greatest. If there are no
-- numbers, the bounds of the range are 2^64 - 1 and 0.
pub record IsRangeOf (range : NumberRange) (contents : List FieldContent) : Type 0 where
  pub least : range.least ≡ least_number contents
  pub greatest : range.greatest ≡ spread 0 contents

-- A call converted all cells and returned the least and the greatest of their numbers, or it failed
-- because a cell was invalid or memory ran out.
abbrev pub ReturnsRow : (count : ℕ) → FieldSpec → List RowCell → List FieldContent
    → Result NumberRange DraftFault → Type 0
ReturnsRow count spec cells contents (Ok range) =
    (row_contents spec cells ≡ Ok (padded_contents count contents)) × AreContentsOf spec contents
    × (length contents ≡ length cells) × IsRangeOf range contents
ReturnsRow count spec cells contents (Err e) =
    IfDraftFault e (λ f. row_contents spec cells ≡ Err f)
