-- The items and faults in the data of a message, and the visitor calls that show the items. (FM 94
-- BUFR, sections 3 and 4)
-- Cited by public contracts.
use Rattle.std.specs.Prelude.{ℕ, zero, suc, ◌≡◌, ◌+◌, ◌*◌, Bool, List, [], ◌∷◌, length, drop, take, ◌<◌, Result, Ok, ◌⊎◌, nat_lt, Option, None, Err, codes, decimal, if◌then◌else◌, ◌++◌, option_map, map, get_or}
use Rattle.bufr_walk.specs.Content.{Taken, FieldSpec, Content, answer_of, FieldRead, found, plain_field, packed_field, answer_first, ShownValue, shown, missing, shown_number, shown_text, shown_missing, shown_reference}
use Rattle.bufr_walk.specs.Course.{Course, take_next, at_end, next_item}
use Rattle.bufr_walk.specs.Steps.{CountedCourse, counted_item, ticked}
use Rattle.bufr_walk.specs.declared.fault.DataFault.{DataFault}
use Rattle.bufr_walk.specs.declared.fault.DataFault.TheVariants as data_fault
use Rattle.bufr_walk.specs.declared.walker.WalkStop.{WalkStop}
use Rattle.bufr_walk.specs.declared.walker.WalkStop.TheVariants as stops
use Rattle.bufr_walk.specs.declared.fault.Spot.{Spot}
pub use Rattle.bufr_walk.specs.declared.fault.WalkFault.{WalkFault}
use Rattle.bufr_bits.specs.Prelude.{bits_of}
use Rattle.bufr_frame.specs.Prelude.{Sections}
use Rattle.bufr_tables.specs.Prelude.{Row, Tree, fxy_text, entry_of, row_of_entry}
use Rattle.bufr_walk.specs.declared.fault.WalkFault.TheVariants as walk_fault
pub use Rattle.bufr_walk.specs.declared.fault.ShowFault.{ShowFault}
use Rattle.bufr_walk.specs.declared.visitor.Value.{Value}
use Rattle.bufr_walk.specs.declared.visitor.ItemView.{ItemView}
use Rattle.bufr_walk.specs.declared.fault.ShowFault.TheVariants as show_fault
use Rattle.bufr_walk.specs.declared.visitor.Value.TheVariants as item_value

-- the specification of an item, and its content in one subset or in all subsets
pub record Item (C : Type 0) : Type 0 where
  pub spec : FieldSpec
  pub content : C

-- How data are coded. For plain data, C is `Content`; for compressed data, C is `List Content`.
-- (`Coding` describes how a single field is coded.)
pub record DataCoding (C : Type 0) : Type 0 where
  -- the item at the beginning of the given bits, or its fault
  pub field : FieldSpec → List Bool → Result (FieldRead C) DataFault
  -- the answer of an item (the part of its content that affects the walk)
  pub gives : FieldSpec → C → Taken

abbrev pub plain : DataCoding Content
plain = record { field = plain_field; gives = answer_of }

abbrev pub packed : ℕ → DataCoding (List Content)
packed n = record { field = packed_field n; gives = answer_first }

-- the answers of the given items
abbrev pub answers_in : {C : Type 0} → (FieldSpec → C → Taken) → List (Item C) → List Taken
answers_in gives items = map (λ i. gives i.spec i.content) items

-- the rest of a `Course` or `CountedCourse` after one more item
abbrev pub after : {C N : Type 0} → DataCoding C → (List Taken → N) → Item C → List Taken → N
after form course i answers = course (form.gives i.spec i.content ∷ answers)

-- The items are in the order of the fields in the `Course`, and each item begins where the
-- preceding one ends. `suffix` contains the bits after the last item.
abbrev pub ReadsItems : {C : Type 0} → DataCoding C → Course → List (Item C)
    → (bits suffix : List Bool) → Type 0
ReadsItems form course [] bits suffix = bits ≡ suffix
ReadsItems form course (i ∷ items) bits suffix =
    (mid : List Bool) × (course [] ≡ take_next i.spec)
    × (form.field i.spec bits ≡ Ok (found i.content mid))
    × ReadsItems form (after form course i) items mid suffix

-- the maximum number of values in compressed data, which is 2^27 (our choice)
-- rule: too-many-values
abbrev pub max_values : ℕ
max_values = 134217728

-- the minimum number of compressed items for which memory is reserved at a time (our choice)
abbrev pub items_at_once : ℕ
items_at_once = 64

-- the data of a message, the number of subsets, and whether the data are compressed
pub record Data : Type 0 where
  pub compressed : Bool
  pub subsets : ℕ
  pub bits : List Bool

-- the items in the data (for plain data, one list for each subset; for compressed data, a single
-- list)
pub data Values : Type 0 where
  apart : (subsets : List (List (Item Content))) → Values
  together : (items : List (Item (List Content))) → Values

-- the items of compressed data, with their content in the given subset (counted from 0)
abbrev pub items_of_subset : (subset : ℕ) → List (Item (List Content)) → List (Item Content)
items_of_subset j items =
    map (λ i. record { spec = i.spec; content = get_or i.content j missing }) items

-- the items of `left` consecutive subsets of compressed data, beginning with subset number `subset`
-- (counted from 0)
abbrev pub subsets_from : (left subset : ℕ) → List (Item (List Content))
    → List (List (Item Content))
subsets_from zero j items = []
subsets_from (suc left) j items = items_of_subset j items ∷ subsets_from left (suc j) items

-- the items of each subset, whether the data are plain or compressed
abbrev pub each_subset : (subsets : ℕ) → Values → List (List (Item Content))
each_subset n (apart subsets) = subsets
each_subset n (together items) = subsets_from n 0 items

-- the number of items that are stored when data are read (all items of compressed data, but none of
-- plain data)
abbrev pub stored_count : Values → ℕ
stored_count (apart subsets) = 0
stored_count (together items) = length items

-- The reason why reading stops. The walk refuses a step, a field cannot be read, or, in the code,
-- memory runs out. A `TurnRefusal` or a `DataFault` becomes a `WalkStop`, and adding the location
-- to a `WalkStop` gives a `WalkFault`.
abbrev pub Stop : Type 0
Stop = WalkStop DataFault

-- whether one more item would raise the number of values above the maximum
-- rule: too-many-values
abbrev pub would_be_many : (subsets items_before : ℕ) → Bool
would_be_many subsets items_before = nat_lt max_values ((items_before + 1) * subsets)

-- ---- The faults in the data, given the reason why reading stops. (The fault numbers are our
-- choice.)

abbrev pub spot : (subset fxy bit : ℕ) → Spot
spot subset fxy bit = record { subset = subset; fxy = fxy; bit = bit }

-- the fault in the data, given the reason why reading stopped, the subset, and the number of bits
-- before the fault
-- rule: stream-fault-place
abbrev pub fault_at : WalkStop DataFault → (subset bit : ℕ) → WalkFault
fault_at (stops.Width fxy) subset bit = walk_fault.Width (spot subset fxy bit)
fault_at (stops.Defining fxy) subset bit = walk_fault.Defining (spot subset fxy bit)
fault_at (stops.Field (data_fault.DataEnd fxy)) subset bit =
    walk_fault.DataEnd (spot subset fxy bit)
fault_at (stops.Field (data_fault.Increment fxy)) subset bit =
    walk_fault.Increment (spot subset fxy bit)
fault_at (stops.Field (data_fault.UnequalFactor f)) subset bit =
    walk_fault.UnequalFactor (spot subset f bit)
fault_at (stops.Field (data_fault.TooManyValues f)) subset bit =
    walk_fault.TooManyValues (spot subset f bit)
fault_at (stops.Field data_fault.Memory) subset bit = walk_fault.Memory
fault_at stops.Memory subset bit = walk_fault.Memory

-- the number of bits before the fault, or `all` if memory ran out
abbrev pub bits_before : WalkFault → (all : ℕ) → ℕ
bits_before (walk_fault.DataEnd s) all = s.bit
bits_before (walk_fault.Width s) all = s.bit
bits_before (walk_fault.Defining s) all = s.bit
bits_before (walk_fault.UnequalFactor s) all = s.bit
bits_before (walk_fault.Increment s) all = s.bit
bits_before (walk_fault.TooManyValues s) all = s.bit
bits_before walk_fault.Memory all = all

-- the text of a fault, as a list of parts that begins with the fault's name and ends with the
-- location of the item
-- rule: stream-fault-place
abbrev pub spot_text : List ℕ → Spot → List (List ℕ)
spot_text name s =
    name ∷ codes " at subset " ∷ decimal s.subset ∷ codes " descriptor " ∷ fxy_text s.fxy
    ∷ codes " bit " ∷ decimal s.bit ∷ []

-- the number and the text of a fault in the data
-- rule: fault-30, fault-31, fault-32, fault-33, fault-34, fault-35
abbrev pub data_report : WalkFault → ℕ × List (List ℕ)
-- The data end inside an item.
data_report (walk_fault.DataEnd s) = (30, spot_text (codes "data end") s)
-- The width of a non-text field is 0 bits or more than 63 bits.
data_report (walk_fault.Width s) = (31, spot_text (codes "width") s)
-- The descriptor is not allowed while 2 03 Y redefines reference values.
data_report (walk_fault.Defining s) = (32, spot_text (codes "defining") s)
-- A replication factor differs between subsets.
data_report (walk_fault.UnequalFactor s) = (33, spot_text (codes "unequal factor") s)
-- An increment is invalid (see `increased`).
data_report (walk_fault.Increment s) = (34, spot_text (codes "increment") s)
-- The compressed data contain more than 134,217,728 values.
data_report (walk_fault.TooManyValues s) = (35, spot_text (codes "too many values") s)
data_report walk_fault.Memory = (73, [])

-- ---- The result of reading a message.

abbrev pub data_of : Sections → Data
data_of m = record { compressed = m.compressed; subsets = m.subsets; bits = bits_of m.payload }

-- the result of reading a message (the table, the template, the data, the number of bits that the
-- items occupy, and the number of stored items)
pub record Read : Type 0 where
  pub table : List Row
  pub template : Tree
  pub source : Data
  pub bits : ℕ
  pub held : ℕ

-- the `Course` of the template that was used to read a message
abbrev pub course_of : Read → Course
course_of r = next_item r.table r.template

-- ---- The number of steps needed to read a message. (Only contracts need this number.)

-- a version of `course_of` that also counts steps
abbrev pub counted_course_of : Read → CountedCourse
counted_course_of r = counted_item r.table r.template

-- the total number of steps in several passes, given the items of each pass; each pass is counted
-- up to the point where it ends
abbrev pub turns_in : {C : Type 0} → (FieldSpec → C → Taken) → CountedCourse
    → List (List (Item C)) → ℕ
turns_in gives course [] = 0
turns_in gives course (items ∷ more) =
    (course (answers_in gives items)).turns + turns_in gives course more

-- ---- The visitor calls that show the items read from a message, if the visitor accepts them all.

-- the descriptor of an item to be shown, its row in Table B (if the item was read according to that
-- row), and its value
pub record View : Type 0 where
  pub fxy : ℕ
  pub entry : Option Row
  pub value : ShownValue

-- a visitor call, which either begins a subset or shows an item
pub data Call : Type 0 where
  subset_call : (number : ℕ) → Call
  item_call : (item : View) → Call

abbrev pub view_of : List Row → FieldSpec → Content → View
view_of table spec c =
    record {
      fxy = spec.fxy;
      entry = if spec.listed then entry_of table spec.fxy else None;
      value = shown spec c;
    }

-- a call and the number of steps that the walk takes before it
pub record Timed : Type 0 where
  pub turns : ℕ
  pub call : Call

-- a call with the given number of steps before it
abbrev pub timed : ℕ → Call → Timed
timed turns call = record { turns = turns; call = call }

-- the calls for the items of one subset, which begins after `before` steps of the walk
abbrev pub item_calls : List Row → (before : ℕ) → CountedCourse → List (Item Content)
    → List Timed
item_calls table before course [] = []
item_calls table before course (i ∷ items) =
    timed (before + (course []).turns) (item_call (view_of table i.spec i.content))
    ∷ item_calls table before (after plain course i) items

-- the calls for consecutive subsets; the first subset begins after `before` steps of the walk, and
-- `number` is its number (counted from 1)
abbrev pub subset_calls : List Row → CountedCourse → (before number : ℕ)
    → List (List (Item Content)) → List Timed
subset_calls table course before number [] = []
subset_calls table course before number (items ∷ subsets) =
    timed before (subset_call number) ∷ item_calls table before course items
    ++ subset_calls table course (before + (course (answers_in answer_of items)).turns) (number + 1)
    subsets

-- the `CountedCourse` for showing compressed data; it counts no steps because no walk is needed
abbrev pub without_turns : CountedCourse
without_turns answers = record { turns = 0; next = at_end }

-- the information needed to show compressed data (the table, the number of subsets, and all items)
pub record PackedValues : Type 0 where
  pub table : List Row
  pub subsets : ℕ
  pub items : List (Item (List Content))

-- the items with indices `from..to` in the given subset (counted from 0)
abbrev pub items_between : PackedValues → (subset from to : ℕ) → List (Item Content)
items_between p j from to = items_of_subset j (drop from (take to p.items))

-- The item at the given index is the same in all subsets.
abbrev pub IsSameInAll : PackedValues → (index : ℕ) → Type 0
IsSameInAll p i = (j : ℕ) → j < p.subsets
    → items_between p j i (i + 1) ≡ items_between p 0 i (i + 1)

-- the calls that show the items with indices `from..to` in the given subset (counted from 0)
abbrev pub range_calls : PackedValues → (subset from to : ℕ) → List Timed
range_calls p j from to = item_calls p.table 0 without_turns (items_between p j from to)

-- the calls that show all subsets of compressed data
abbrev pub packed_calls : PackedValues → List Timed
packed_calls p = subset_calls p.table without_turns 0 1 (subsets_from p.subsets 0 p.items)

-- the `CountedCourse` for showing the items read from a message
abbrev pub walk_shown : Read → Values → CountedCourse
walk_shown r (apart subsets) = counted_course_of r
walk_shown r (together items) = without_turns

-- the visitor calls that show the items read from a message
abbrev pub calls_for : Read → Values → List Timed
calls_for r values =
    subset_calls r.table (walk_shown r values) 0 1 (each_subset r.source.subsets values)

-- the number of steps needed to show the items read from a message
abbrev pub turns_for : Read → Values → ℕ
turns_for r values =
    turns_in answer_of (walk_shown r values) (each_subset r.source.subsets values)

-- 1 if the call shows an item, or 0 if it begins a subset
abbrev pub item_or_not : Call → ℕ
item_or_not (subset_call number) = 0
item_or_not (item_call item) = 1

-- the number of calls that show items
abbrev pub items_called : List Timed → ℕ
items_called [] = 0
items_called (t ∷ calls) = item_or_not t.call + items_called calls

-- ---- The calls up to the first fault, and the number of steps.

-- The value is a redefined reference value, which is the only kind of value that the walk stores.
abbrev pub IsReferenceValue : ShownValue → Type 0
IsReferenceValue (shown_number value scale) = ⊥
IsReferenceValue (shown_text octets) = ⊥
IsReferenceValue shown_missing = ⊥
IsReferenceValue (shown_reference value) = Unit {0}

-- Memory may run out before the given call because the walk must store the item's value.
abbrev pub NeedsMemory : Call → Type 0
NeedsMemory (subset_call number) = ⊥
NeedsMemory (item_call item) = IsReferenceValue item.value

-- No further calls are made because the visitor refused the given call or memory ran out before it.
abbrev pub EndsAt : {S E : Type 0} → (S → Call → Result (Unit {0}) E → S → Type 0) → S → Call
    → ShowFault E → S → Type 0
EndsAt sees s call (show_fault.Visitor e) s' = sees s call (Err e) s'
EndsAt sees s call show_fault.Memory s' = (s' ≡ s) × NeedsMemory call

-- If the result is `Ok`, all calls were made. Otherwise, only the calls up to the fault were made.
-- `steps` is the number of steps up to the end or the fault.
abbrev pub Shows : {S E : Type 0} → (S → Call → Result (Unit {0}) E → S → Type 0) → S → List Timed
    → (turns : ℕ) → Result (Unit {0}) (ShowFault E) → S → (steps : ℕ) → Type 0
Shows sees s [] turns (Ok _) s' steps = (s' ≡ s) × (steps ≡ ticked 0 turns)
Shows sees s [] turns (Err why) s' steps = ⊥
Shows {S} sees s (t ∷ calls) turns (Ok _) s' steps =
    (mid : S) × sees s t.call (Ok tt) mid × Shows sees mid calls turns (Ok tt) s' steps
Shows {S} sees s (t ∷ calls) turns (Err why) s' steps =
    (EndsAt sees s t.call why s' × (steps ≡ ticked 0 t.turns))
    ⊎ ((mid : S) × sees s t.call (Ok tt) mid × Shows sees mid calls turns (Err why) s' steps)

-- ---- The model of an `ItemView`.

-- the model of a value
abbrev pub seen_value : Value → ShownValue
seen_value (item_value.Number n scale) = shown_number n scale
seen_value (item_value.Text t) = shown_text t.now
seen_value item_value.Missing = shown_missing
seen_value (item_value.Reference r) = shown_reference r

-- the model of an `ItemView`
abbrev pub seen : ItemView → View
seen v =
    record {
      fxy = v.fxy;
      entry = option_map row_of_entry v.entry;
      value = seen_value v.value;
    }
