-- Only contracts need this file. How the code reads and shows plain and compressed data, and what
-- it stores when it reads a message.
use Rattle.std.specs.Prelude.{ℕ, ◌≡◌, ◌≤◌, ◌+◌, Bool, List, drop, Result, Ok, Err, ◌++◌, ◌<◌, ◌*◌, ◌^◌, ◌%◌, ◌==◌, ◌&&◌, ◌||◌, true, false, [], ◌∷◌, length, take, ◌/◌, ◌-◌, map, get_or, is_some, Option, None}
use Rattle.bufr_walk.specs.Content.{Taken, missing, ShownValue, Coding, step_of, increments, increased, FieldSpec, Content, answer_of, plain_field, found, FieldRead, packed_field, answer_first}
use Rattle.bufr_walk.specs.Reading.{Item, plain, answers_in, Read, course_of, max_values, items_at_once, Data, Values, apart, together, each_subset, ShowFault, Call, item_call, view_of, Timed, item_calls, Shows, View, PackedValues}
use Rattle.bufr_walk.specs.Pass.{DataPass, Place, read_pass, reading_of, values_read}
use Rattle.bufr_walk.specs.Steps.{CountedCourse, uncounted, ticked}
use Rattle.std.proofs.Common.{ap}
use Rattle.bufr_tables.specs.Prelude.{Row, Tree, is_character}
use Rattle.bufr_walk.specs.declared.plain.ShowStop.{ShowStop}
use Rattle.bufr_walk.specs.declared.plain.ShowStop.TheVariants as show_stop
use Rattle.std.specs.List.{list_all}
use Rattle.bufr_bits.specs.Prelude.{bits_of, number_of}
pub use Rattle.bufr_walk.specs.declared.item_index.IndexedItem.{IndexedItem}
use Rattle.bufr_walk.specs.declared.fault.DataFault.{DataFault}
use Rattle.bufr_walk.specs.declared.fault.DataFault.TheVariants as data_fault
use Rattle.bufr_walk.specs.declared.compressed.ItemBits.{ItemBits}
use Rattle.bufr_walk.specs.declared.reading.StoredItems.{StoredItems}
use Rattle.bufr_walk.specs.declared.reading.StoredItems.TheVariants as stored

-- a `Data` record for the given octets; the next three definitions create `Read`, `View` and
-- `Place` records
abbrev pub data_in : (compressed : Bool) → (subsets : ℕ) → (octets : List ℕ) → Data
data_in compressed subsets octets =
    record { compressed = compressed; subsets = subsets; bits = bits_of octets }

abbrev pub read_by : List Row → Tree → Data → (bits held : ℕ) → Read
read_by table template source bits held =
    record { table = table; template = template; source = source; bits = bits; held = held }

abbrev pub view : (fxy : ℕ) → Option Row → ShownValue → View
view fxy entry value = record { fxy = fxy; entry = entry; value = value }

abbrev pub place_at : ℕ → List Bool → Place
place_at items left = record { items = items; left = left }

-- the content of an item in the given subset (counted from 0)
abbrev pub content_at : (subset : ℕ) → List Content → Content
content_at j contents = get_or contents j missing

-- the items of each pass
abbrev pub items_by_pass : {C : Type 0} → List (DataPass C) → List (List (Item C))
items_by_pass passes = map (λ p. p.items) passes

-- the items of the first pass, or an empty list if there is none; compressed data are read in at
-- most one pass
abbrev pub first_items : {C : Type 0} → List (List (Item C)) → List (Item C)
first_items passes = get_or passes 0 []

-- a reader that has read the first `at` bits of plain data
pub record Cursor : Type 0 where
  pub bits : List Bool
  pub at : ℕ

-- the bits that the reader has not read yet
abbrev pub rest_of : Cursor → List Bool
rest_of s = drop s.at s.bits

-- the reader after it has read a field with the given specification
abbrev pub past : Cursor → FieldSpec → Cursor
past s spec = record { bits = s.bits; at = s.at + spec.width }

-- The remaining bits begin with a field that has the given specification. The field's answer is t,
-- and s' is the reader after the field.
pub record IsTaken (s : Cursor) (spec : FieldSpec) (t : Taken) (s' : Cursor) : Type 0 where
  pub content : Content
  pub some : 1 ≤ spec.width
  pub field : plain_field spec (rest_of s) ≡ Ok (found content (rest_of s'))
  pub gives : t ≡ answer_of spec content
  pub next : s' ≡ past s spec

-- A call read a field or failed because the data end too early. A call that fails changes nothing.
abbrev pub PlainTakes : Cursor → FieldSpec → Result Taken DataFault → Cursor → Type 0
PlainTakes s spec (Ok t) s' = IsTaken s spec t s'
PlainTakes s spec (Err e) s' = (plain_field spec (rest_of s) ≡ Err e) × (s' ≡ s)

-- the state while items are being shown (the reader, the visitor, Table B, and the ghost names of
-- the reader and the visitor)
pub record Stage (V : Type 0) : Type 0 where
  pub cursor : Cursor
  pub visitor : V
  pub table : List Row
  pub names : ℕ × ℕ

-- a `Stage` with the given reader, visitor, table and ghost names
abbrev pub stage : {V : Type 0} → Cursor → V → List Row → ℕ → ℕ → Stage V
stage cursor visitor table a b =
    record { cursor = cursor; visitor = visitor; table = table; names = (a, b) }

-- A field was read, and the visitor accepted it.
pub record IsShown {V E : Type 0} (sees : V → Call → Result (Unit {0}) E → V → Type 0) (s : Stage V)
    (spec : FieldSpec) (t : Taken) (s' : Stage V) : Type 0 where
  pub is_taken : IsTaken s.cursor spec t s'.cursor
  pub call : sees s.visitor (item_call (view_of s.table spec is_taken.content)) (Ok tt) s'.visitor
  pub table : s'.table ≡ s.table
  pub names : s'.names ≡ s.names

-- A field was read, but the visitor refused it. The reader is unchanged.
pub record IsUnshown {V E : Type 0} (sees : V → Call → Result (Unit {0}) E → V → Type 0)
    (s : Stage V) (spec : FieldSpec) (e : E) (s' : Stage V) : Type 0 where
  pub answer : Taken
  pub is_taken : IsTaken s.cursor spec answer (past s.cursor spec)
  pub call : sees s.visitor (item_call (view_of s.table spec is_taken.content)) (Err e) s'.visitor
  pub cursor : s'.cursor ≡ s.cursor
  pub names : s'.names ≡ s.names

-- A call either showed a field or failed. It fails if the data end inside the field or if the
-- visitor refuses the field.
abbrev pub ShowingTakes : {V E : Type 0} → (V → Call → Result (Unit {0}) E → V → Type 0) → Stage V
    → FieldSpec → Result Taken (ShowStop E) → Stage V → Type 0
ShowingTakes sees s spec (Ok t) s' = IsShown sees s spec t s'
ShowingTakes sees s spec (Err show_stop.DataEnd) s' =
    (plain_field spec (rest_of s.cursor) ≡ Err (data_fault.DataEnd spec.fxy)) × (s' ≡ s)
ShowingTakes sees s spec (Err (show_stop.Visitor e)) s' = IsUnshown sees s spec e s'

-- A call that fails does not advance the reader.
pub refusal_keeps : {V E : Type 0} (sees : V → Call → Result (Unit {0}) E → V → Type 0)
    (s : Stage V) (spec : FieldSpec) (e : ShowStop E) (s' : Stage V)
    → ShowingTakes sees s spec (Err e) s' → s'.cursor.at ≡ s.cursor.at
refusal_keeps sees s spec show_stop.DataEnd s' h = ap (λ x. x.cursor.at) h.1
refusal_keeps sees s spec (show_stop.Visitor e) s' h = ap (λ c. c.at) h.cursor

-- None of the calls before `rest` returned a fault, so the calls in `rest` determine the overall
-- result.
pub record Sofar {S E : Type 0} (sees : S → Call → Result (Unit {0}) E → S → Type 0) (s : S)
    (calls : List Timed) (s1 : S) (rest : List Timed) : Type 0 where
  pub on : (turns : ℕ) (r : Result (Unit {0}) (ShowFault E)) (s' : S) (steps : ℕ)
      → Shows sees s1 rest turns r s' steps → Shows sees s calls turns r s' steps

-- All items of a pass were shown. Other calls may follow.
pub record IsAllShown {S E : Type 0} (sees : S → Call → Result (Unit {0}) E → S → Type 0)
    (table : List Row) (course : CountedCourse) (s : S) (steps : ℕ) (p : DataPass Content)
    (c' : Cursor) (s' : S) (steps' : ℕ) : Type 0 where
  pub shown : (before : ℕ) (more : List Timed)
      → Sofar sees s (item_calls table before course p.items ++ more) s' more
  pub left : rest_of c' ≡ p.state.left
  pub ticks : steps' ≡ ticked steps (course (answers_in answer_of p.items)).turns

-- All items of the next subset were shown, or only those before a fault.
abbrev pub ItemsGo : {S E : Type 0} → (S → Call → Result (Unit {0}) E → S → Type 0) → List Row
    → CountedCourse → Cursor → S → ℕ → Result (Unit {0}) (ShowFault E) → Cursor → S → ℕ → Type 0
ItemsGo sees table course c s steps (Ok _) c' s' steps' =
    IsAllShown sees table course s steps
    (read_pass plain (λ items. false) (uncounted course) (rest_of c)) c' s' steps'
ItemsGo sees table course c s steps (Err why) c' s' steps' =
    let p = read_pass plain (λ items. false) (uncounted course) (rest_of c) in
    (before : ℕ) (more : List Timed) (turns : ℕ) → steps ≡ ticked 0 before
    → Shows sees s (item_calls table before course p.items ++ more) turns (Err why) s' steps'

-- a reader that has read the first `at` bits of compressed data; `items` contains the items that it
-- has read
pub record PackedCursor : Type 0 where
  pub bits : List Bool
  pub at : ℕ
  pub subsets : ℕ
  pub items : List (Item (List Content))

-- a reader of compressed data that has not read anything yet
abbrev pub new_packed_in : (bits : List Bool) (subsets : ℕ) → PackedCursor
new_packed_in bits n = record { bits = bits; at = 0; subsets = n; items = [] }

-- the bits that the reader has not read yet
abbrev pub remaining_bits : PackedCursor → List Bool
remaining_bits s = drop s.at s.bits

-- the content of an item in each subset, or an empty list if the item is invalid
abbrev pub contents_found : Result (FieldRead (List Content)) DataFault → List Content
contents_found (Ok f) = f.content
contents_found (Err why) = []

-- whether an item was read without a fault
abbrev pub was_found : Result (FieldRead (List Content)) DataFault → Bool
was_found (Ok f) = true
was_found (Err why) = false

-- the bit position of an item, which its index entry stores as two numbers
abbrev pub start_of : IndexedItem → ℕ
start_of e = 2 ^ 32 * e.at_high + e.at_low

-- the item that an index entry describes
abbrev pub item_at : (bits : List Bool) (subsets : ℕ) → IndexedItem → Item (List Content)
item_at bits n e = record {
  spec = e.spec;
  content = contents_found (packed_field n e.spec (drop (start_of e) bits));
}

-- the items that the given index entries describe
abbrev pub items_at : (bits : List Bool) (subsets : ℕ) → List IndexedItem
    → List (Item (List Content))
items_at bits n [] = []
items_at bits n (e ∷ kept) = item_at bits n e ∷ items_at bits n kept

-- whether the base in an index entry matches the data; the bases of strings are not compared
abbrev pub has_base : (bits : List Bool) → IndexedItem → Bool
has_base bits e =
    is_character e.spec.kind || (e.base == number_of (take e.spec.width (drop (start_of e) bits)))

-- whether every increment of an item is valid
abbrev pub are_valid : Coding → (k subsets : ℕ) → (base suffix : List Bool) → Bool
are_valid c k n base suffix =
    list_all (λ i. is_some (increased c k base i)) (increments n (step_of c k) suffix)

-- whether an index entry describes a valid item and matches the item's k and base
abbrev pub fits_at : (bits : List Bool) (subsets : ℕ) → IndexedItem → Bool
fits_at bits n e =
    was_found (packed_field n e.spec (drop (start_of e) bits))
    && ((e.step == number_of (take 6 (drop (start_of e + e.spec.width) bits))) && has_base bits e)

-- the `PackedValues` with the items in the given index
abbrev pub packed_values : List Row → (bits : List Bool) (subsets : ℕ) → List IndexedItem
    → PackedValues
packed_values table bits n kept =
    record { table = table; subsets = n; items = items_at bits n kept }

-- a reader of compressed data that has read the items in the given index
abbrev pub packed_view : (bits : List Bool) (at subsets : ℕ) → List IndexedItem → PackedCursor
packed_view bits at n kept =
    record { bits = bits; at = at; subsets = n; items = items_at bits n kept }

-- The invariant of a reader of compressed data. Each item has at least 7 bits (one for the base and
-- six for k) and at most 2,550 bits for each subset.
pub record IsPackedIn (bits : List Bool) (at subsets : ℕ) (kept : List IndexedItem) : Type 0 where
  pub within : at ≤ length bits
  pub some : 1 ≤ subsets
  pub few : length kept * subsets ≤ max_values
  pub held : 7 * length kept ≤ at
  pub near : at ≤ 2550 * (length kept * subsets)
  pub fit : list_all (fits_at bits subsets) kept ≡ true

-- The remaining bits begin with an item for the given field, and t is the item's answer. The item
-- was added to the reader's items.
pub record IsPackedTaken (s : PackedCursor) (spec : FieldSpec) (t : Taken)
    (s' : PackedCursor) : Type 0 where
  pub contents : List Content
  pub few : (length s.items + 1) * s.subsets ≤ max_values
  pub field : packed_field s.subsets spec (remaining_bits s)
      ≡ Ok (found contents (remaining_bits s'))
  pub gives : t ≡ answer_first spec contents
  pub bits : s'.bits ≡ s.bits
  pub subsets : s'.subsets ≡ s.subsets
  pub items : s'.items ≡ s.items ++ record { spec = spec; content = contents } ∷ []
  pub forth : s.at + 7 ≤ s'.at

-- The item that begins at the given bit is invalid, and e is its fault.
abbrev pub IsUnseen : List Bool → (at n : ℕ) → FieldSpec → DataFault → Type 0
IsUnseen bits at n spec e = packed_field n spec (drop at bits) ≡ Err e

-- A call either read and stored an item or failed. It fails if the data would contain too many
-- values, if the item is invalid, or if memory runs out. A call that fails changes nothing.
abbrev pub PackedTakes : PackedCursor → FieldSpec → Result Taken DataFault → PackedCursor → Type 0
PackedTakes s spec (Ok t) s' = IsPackedTaken s spec t s'
PackedTakes s spec (Err (data_fault.TooManyValues fxy)) s' =
    (fxy ≡ spec.fxy) × (max_values < (length s.items + 1) * s.subsets) × (s' ≡ s)
PackedTakes s spec (Err data_fault.Memory) s' = (s' ≡ s) × (length s.items % items_at_once ≡ 0)
PackedTakes s spec (Err e) s' =
    IsUnseen s.bits s.at s.subsets spec e × (s' ≡ s)
    × ((length s.items + 1) * s.subsets ≤ max_values)

-- A call that fails changes nothing.
pub refuses_packed : (s : PackedCursor) (spec : FieldSpec) (e : DataFault) (s' : PackedCursor)
    → PackedTakes s spec (Err e) s' → s' ≡ s
refuses_packed s spec (data_fault.TooManyValues fxy) s' h = h.2
refuses_packed s spec data_fault.Memory s' h = h.0
refuses_packed s spec (data_fault.DataEnd fxy) s' h = h.1
refuses_packed s spec (data_fault.Increment fxy) s' h = h.1
refuses_packed s spec (data_fault.UnequalFactor fxy) s' h = h.1

-- The item that begins at the given bit was read. `s` contains the item's answer, its k, its base
-- (except for strings), and the position of the bit after the item.
pub record IsSeen (bits : List Bool) (at n : ℕ) (spec : FieldSpec) (s : ItemBits) : Type 0 where
  pub contents : List Content
  pub field : packed_field n spec (drop at bits) ≡ Ok (found contents (drop s.end bits))
  pub gives : s.answer ≡ answer_first spec contents
  pub step : s.step ≡ number_of (take 6 (drop (at + spec.width) bits))
  pub base : is_character spec.kind ≡ false → s.base ≡ number_of (take spec.width (drop at bits))
  pub within : s.end ≤ length bits
  pub least : at + 7 ≤ s.end

-- The index has one entry for each item of compressed data, and each entry matches its item.
abbrev pub AreStored : Data → List IndexedItem → List (Item (List Content)) → Type 0
AreStored d entries items =
    (items_at d.bits d.subsets entries ≡ items)
    × (list_all (fits_at d.bits d.subsets) entries ≡ true)

-- the content of a stored item in the given subset (counted from 0)
abbrev pub stored_content : (bits : List Bool) (subsets : ℕ) → IndexedItem → (subset : ℕ) → Content
stored_content bits n e j =
    content_at j (contents_found (packed_field n e.spec (drop (start_of e) bits)))

-- the call that shows a stored item in the given subset (counted from 0)
abbrev pub stored_call : List Row → (bits : List Bool) (subsets : ℕ) → IndexedItem → (subset : ℕ)
    → Call
stored_call table bits n e j = item_call (view_of table e.spec (stored_content bits n e j))

-- the number of stored items
abbrev pub held_of : StoredItems → ℕ
held_of stored.Apart = 0
held_of (stored.Together entries) = length entries

-- For plain data, nothing is stored. For compressed data, an index entry is stored for each item.
abbrev pub KeepsValues : StoredItems → Data → Values → Type 0
KeepsValues stored.Apart d (apart subsets) = Unit {0}
KeepsValues stored.Apart d (together items) = ⊥
KeepsValues (stored.Together entries) d (apart subsets) = ⊥
KeepsValues (stored.Together entries) d (together items) = AreStored d entries items

-- the total number of items in all subsets
abbrev pub items_in : List (List (Item Content)) → ℕ
items_in [] = 0
items_in (items ∷ subsets) = length items + items_in subsets

-- Plain data have at least as many bits as items, because each item has at least one bit.
abbrev pub PaysBits : Values → (used : ℕ) → Type 0
PaysBits (apart subsets) used = items_in subsets ≤ used
PaysBits (together items) used = Unit {0}

-- All items were read without a fault, and those of compressed data are stored (see `KeepsValues`).
-- Each stored item has at least 7 bits.
pub record IsStoredReading (r : Read) (k : StoredItems) : Type 0 where
  pub none : (reading_of (course_of r) r.source).stop ≡ None
  pub keeps : KeepsValues k r.source (values_read r)
  pub few : 7 * held_of k ≤ r.bits
  pub pays : PaysBits (values_read r) r.bits
  pub most : items_in (each_subset r.source.subsets (values_read r)) ≤ max_values

-- ---- The index of the items in compressed data.

-- The capacity of the index is at least the number of entries, rounded up to a multiple of 64,
-- because memory is allocated for 64 entries at a time. The capacity is at most twice the number of
-- entries, plus 64.
pub record HasRoom (entries room : ℕ) : Type 0 where
  pub enough : (entries + (items_at_once - 1)) / items_at_once * items_at_once ≤ room
  pub most : room ≤ 2 * entries + items_at_once
