-- One pass over a template, and how data are read in passes (one for each subset of plain data, or
-- a single pass over compressed data) (FM 94 BUFR, sections 3 and 4; the order of the checks for
-- faults is our choice).
-- Cited by public contracts.
use Rattle.std.specs.Prelude.{ℕ, zero, suc, ◌+◌, ◌-◌, Bool, true, false, List, [], ◌∷◌, length, Result, Ok, Err, Option, Some, None, option_map, map, get_or, if◌then◌else◌, ◌≡◌, ◌<◌, ◌++◌, ◌%◌, ◌⊎◌, ◌==◌, is_none, is_some}
use Rattle.bufr_walk.specs.Content.{Taken, FieldSpec, Content, FieldRead, answer_of, answer_first}
use Rattle.bufr_walk.specs.Rules.{TurnRefusal}
use Rattle.bufr_walk.specs.Course.{stop_by, Course, Next, take_next, at_end, astray, refused}
use Rattle.bufr_walk.specs.Steps.{CountedCourse, uncounted, counted_item, ticked}
use Rattle.bufr_walk.specs.declared.fault.WalkFault.TheVariants as walk_fault
use Rattle.bufr_walk.specs.declared.fault.DataFault.TheVariants as data_fault
use Rattle.bufr_walk.specs.declared.walker.WalkStop.TheVariants as stops
use Rattle.bufr_walk.specs.Reading.{DataCoding, plain, packed, would_be_many, Data, Stop, WalkFault, fault_at, Item, Values, apart, together, Read, course_of, Timed, calls_for, turns_for, PackedValues, answers_in, turns_in, items_at_once, ReadsItems}
use Rattle.bufr_walk.specs.declared.spec.Role.TheVariants as role
use Rattle.bufr_tables.specs.Prelude.{Row, Tree}
use Rattle.bufr_walk.specs.declared.fault.DataFault.{DataFault}

-- ---- A pass that reads or writes fields.

-- the content and the answer of a field that was read or written, and the state after the field
pub record Step (S C : Type 0) : Type 0 where
  pub content : C
  pub returned : Taken
  pub state : S

-- How a pass reads fields (`reading`) or writes them (`filling`). S is the type of the state
-- between two fields, and E is the type of the reason for stopping.
pub record Passing (S C E : Type 0) : Type 0 where
  -- the result of reading or writing a field, or the reason why this failed
  pub step : FieldSpec → S → Result (Step S C) E
  -- the reason for stopping if the walk refuses a step
  pub refuses : TurnRefusal → S → E
  -- the reason, if any, why the pass must not end in the given state (for example, some items have
  -- not been written)
  pub ends : S → Option E
  -- the reason for stopping if the walk is `astray` or if the bound of `pass` is reached (neither
  -- ever happens)
  pub lost : E

-- the items of a pass, the state after it, and the reason why it stopped, if any
pub record Pass (S C E : Type 0) : Type 0 where
  pub items : List (Item C)
  pub state : S
  pub stop : Option E

-- a pass without items
abbrev pub empty_pass : {S C E : Type 0} → S → Option E → Pass S C E
empty_pass state stop = record { items = []; state = state; stop = stop }

-- the pass p with an item added at its beginning
abbrev pub item_then : {S C E : Type 0} → FieldSpec → C → Pass S C E → Pass S C E
item_then spec content p =
    record p { items = record { spec = spec; content = content } ∷ p.items }

module _ {S C E : Type 0} (how : Passing S C E) where
  -- a pass that begins with a field and either stops there or continues with `rest`
  abbrev pub pass_field : FieldSpec → S → Result (Step S C) E → (Step S C → Pass S C E)
      → Pass S C E
  pass_field spec s (Err why) rest = empty_pass s (Some why)
  pass_field spec s (Ok f) rest = item_then spec f.content (rest f)

  -- a pass that begins at the given point in a walk; after a field, the pass continues with `rest`
  abbrev pub pass_next : Next → S → (Step S C → Pass S C E) → Pass S C E
  pass_next (take_next spec) s rest = pass_field spec s (how.step spec s) rest
  pass_next at_end s rest = empty_pass s (how.ends s)
  pass_next (refused why) s rest = empty_pass s (Some (how.refuses why s))
  -- The walk is never `astray` because each replication factor returns its count.
  pass_next astray s rest = empty_pass s (Some how.lost)

  -- The pass ends at the given point in the walk, either normally or for the given reason.
  abbrev pub EndsPass : Next → S → Option E → Type 0
  EndsPass (take_next spec) s None = ⊥
  EndsPass (take_next spec) s (Some why) = how.step spec s ≡ Err why
  EndsPass at_end s stop = stop ≡ how.ends s
  EndsPass (refused why) s stop = stop ≡ Some (how.refuses why s)
  EndsPass astray s stop = ⊥

  -- The pass over the fields of a `Course`. `course []` comes first. If `course []` is a field with
  -- the answer t, `course (t ∷ [])` comes next, and so on. `most` bounds the recursion. The bound
  -- is never reached, because it exceeds the number of bits to read or items to write, and each
  -- field uses at least one.
  abbrev pub pass : (most : ℕ) → Course → S → Pass S C E
  pass zero course s = empty_pass s (Some how.lost)
  pass (suc more) course s =
      pass_next (course []) s (λ f. pass more (λ answers. course (f.returned ∷ answers)) f.state)

-- ---- A pass that reads data.

-- the number of items that a pass has read so far, and the remaining bits
pub record Place : Type 0 where
  pub items : ℕ
  pub left : List Bool

-- the item that was read from a field, or the reason for stopping if the field cannot be read
abbrev pub read_field : {C : Type 0} → DataCoding C → FieldSpec → (items : ℕ)
    → Result (FieldRead C) DataFault → Result (Step Place C) Stop
read_field coding spec items (Err why) = Err (stops.Field why)
read_field coding spec items (Ok f) = Ok (record {
  content = f.content;
  returned = coding.gives spec f.content;
  state = record { items = items + 1; left = f.suffix };
})

-- How a pass reads data. `many` returns whether one more item would exceed the limit. The number of
-- items is checked after the walk accepts a field but before the field is read.
-- rule: compressed-fault-order
abbrev pub reading : {C : Type 0} → DataCoding C → (many : ℕ → Bool) → Passing Place C Stop
reading coding many = record {
  step = λ spec p. if many p.items then Err (stops.Field (data_fault.TooManyValues spec.fxy))
      else read_field coding spec p.items (coding.field spec p.left);
  refuses = λ why p. stop_by why;
  ends = λ p. None;
  lost = stops.Field (data_fault.TooManyValues 0);
}

-- one pass that reads the given bits; its bound, `suc (length bits)`, is large enough because each
-- field has at least one bit
abbrev pub read_pass : {C : Type 0} → DataCoding C → (many : ℕ → Bool) → Course → List Bool
    → Pass Place C Stop
read_pass coding many course bits =
    pass (reading coding many) (suc (length bits)) course (record { items = 0; left = bits })

-- ---- The passes that read plain or compressed data.

abbrev pub DataPass : Type 0 → Type 0
DataPass C = Pass Place C Stop

-- the passes over plain data, one for each of n subsets, up to the first fault; each pass starts at
-- the beginning of the template
-- rule: operators-end-with-subset, subsets-without-padding
abbrev pub passes_apart : Course → (n : ℕ) → List Bool → List (DataPass Content)
passes_apart course zero bits = []
passes_apart course (suc n) bits =
    let p = read_pass plain (λ items. false) course bits in
    p ∷ (if is_none p.stop then passes_apart course n p.state.left else [])

-- the single pass over compressed data with n subsets; if n is 0, there is no pass, and no bits are
-- read (our choice)
-- rule: no-subsets
abbrev pub passes_together : Course → (n : ℕ) → List Bool → List (DataPass (List Content))
passes_together course zero bits = []
passes_together course (suc n) bits =
    read_pass (packed (suc n)) (would_be_many (suc n)) course bits ∷ []

-- the reason why the first incomplete pass stopped, or `None` if all passes were completed
abbrev pub stop_of : {C : Type 0} → List (DataPass C) → Option Stop
stop_of [] = None
stop_of (p ∷ passes) = if is_some p.stop then p.stop else stop_of passes

-- the bits that remain after the given passes
abbrev pub left_after : {C : Type 0} → List Bool → List (DataPass C) → List Bool
left_after bits [] = bits
left_after bits (p ∷ passes) = left_after p.state.left passes

-- The result of reading data. `stop` is the reason why reading stopped early, if it did. `subset`
-- is the number of the subset in which reading stopped or ended (counted from 1), or 0 for
-- compressed data. `left` contains the bits after the last item.
pub record DataReading : Type 0 where
  pub values : Values
  pub stop : Option Stop
  pub subset : ℕ
  pub left : List Bool

-- the result of reading data in the given passes; `values` contains the items of these passes
abbrev pub reading_by : {C : Type 0} → Values → (subset : ℕ) → List Bool → List (DataPass C)
    → DataReading
reading_by values subset bits passes = record {
  values = values;
  stop = stop_of passes;
  subset = subset;
  left = left_after bits passes;
}

-- The result of reading the fields of a `Course`. With plain data, reading can stop only in the
-- last pass, so the number of passes identifies the subset. Compressed data are read in one pass,
-- or in none if the message has no subsets.
abbrev pub reading_in : Course → (compressed : Bool) → (subsets : ℕ) → List Bool → DataReading
reading_in course false n bits =
    let passes = passes_apart course n bits in
    reading_by (apart (map (λ p. p.items) passes)) (length passes) bits passes
reading_in course true n bits =
    let passes = passes_together course n bits in
    reading_by (together (get_or (map (λ p. p.items) passes) 0 [])) 0 bits passes

abbrev pub reading_of : Course → Data → DataReading
reading_of course d = reading_in course d.compressed d.subsets d.bits

-- the fault at which reading stopped, if any
-- rule: stream-fault-place
abbrev pub fault_of : Data → DataReading → Option WalkFault
fault_of d r =
    option_map (λ why. fault_at why r.subset (length d.bits - length r.left)) r.stop

-- ---- The items read from a message, and the visitor calls that show them.

-- the items read from a message
abbrev pub values_read : Read → Values
values_read r = (reading_of (course_of r) r.source).values

-- the visitor calls that show the items read from a message
abbrev pub calls_of : Read → List Timed
calls_of r = calls_for r (values_read r)

-- the number of steps needed to show the items read from a message
abbrev pub turns_shown : Read → ℕ
turns_shown r = turns_for r (values_read r)

-- `p` contains the table, the number of subsets, and the items that were read from compressed data.
pub record IsPackedOf (p : PackedValues) (r : Read) : Type 0 where
  pub table : p.table ≡ r.table
  pub subsets : p.subsets ≡ r.source.subsets
  pub values : values_read r ≡ together p.items

-- ---- A pass described item by item. Each item begins where the preceding one ends.

-- The pass starts at the place `from`, reads its items, and then ends.
pub record ReadsTo {C : Type 0} (form : DataCoding C) (many : ℕ → Bool) (course : Course)
    (from : Place) (p : DataPass C) : Type 0 where
  pub reads : ReadsItems form course p.items from.left p.state.left
  pub few : (j : ℕ) → j < length p.items → many (from.items + j) ≡ false
  pub count : p.state.items ≡ from.items + length p.items
  pub ends : EndsPass (reading form many) (course (answers_in form.gives p.items)) p.state p.stop

-- ---- The number of steps needed to read data.

-- the total number of steps in all passes over the data
abbrev pub turns_read_in : CountedCourse → (compressed : Bool) → (subsets : ℕ) → List Bool → ℕ
turns_read_in course false n bits =
    turns_in answer_of course (map (λ p. p.items) (passes_apart (uncounted course) n bits))
turns_read_in course true n bits =
    turns_in answer_first course (map (λ p. p.items) (passes_together (uncounted course) n bits))

abbrev pub turns_read : CountedCourse → Data → ℕ
turns_read course d = turns_read_in course d.compressed d.subsets d.bits

-- ---- Points at which memory may run out.

-- In one of the given passes, memory may run out just before a field is read. Memory may be needed
-- if the field contains a redefined reference value or if `wants` returns true for the number of
-- preceding items. `turns` is the number of steps up to that field.
pub record RunsShort {C : Type 0} (form : DataCoding C) (wants : ℕ → Bool) (course : CountedCourse)
    (passes : List (DataPass C)) (turns : ℕ) : Type 0 where
  pub done : List (DataPass C)
  pub here : DataPass C
  pub later : List (DataPass C)
  pub among : passes ≡ done ++ here ∷ later
  pub items : List (Item C)
  pub more : List (Item C)
  pub are : here.items ≡ items ++ more
  pub spec : FieldSpec
  pub next : (course (answers_in form.gives items)).next ≡ take_next spec
  pub why : (wants (length items) ≡ true) ⊎ (spec.role ≡ role.Reference)
  pub turns_are : turns ≡ turns_in form.gives course (map (λ p. p.items) done)
      + (course (answers_in form.gives items)).turns

-- Memory may run out in one of the passes over the data. For compressed data, memory is allocated
-- for 64 items at a time.
abbrev pub MayRunShort : CountedCourse → (compressed : Bool) → (subsets : ℕ) → List Bool
    → (turns : ℕ) → Type 0
MayRunShort course false n bits turns =
    RunsShort plain (λ items. false) course (passes_apart (uncounted course) n bits) turns
MayRunShort course true n bits turns =
    RunsShort (packed n) (λ items. items % items_at_once == 0) course
    (passes_together (uncounted course) n bits) turns

-- ---- The result of a call that reads data.

-- A call that reads data returns the number of bits that the items occupy, the fault at which
-- reading stopped, or `Memory` if memory ran out (see `MayRunShort`). `steps` is the number of
-- steps that the walk took.
-- rule: bits-left-over
abbrev pub ReadsData : CountedCourse → Data → Result ℕ WalkFault → (steps : ℕ) → Type 0
ReadsData course d (Ok used) steps =
    let r = reading_of (uncounted course) d in
    (r.stop ≡ None) × (used + length r.left ≡ length d.bits)
    × (steps ≡ ticked 0 (turns_read course d))
ReadsData course d (Err why) steps =
    let r = reading_of (uncounted course) d in
    ((fault_of d r ≡ Some why) × (steps ≡ ticked 0 (turns_read course d)))
    ⊎ ((why ≡ walk_fault.Memory) × (turns : ℕ)
    × MayRunShort course d.compressed d.subsets d.bits turns × (steps ≡ ticked 0 turns))

-- A call returned either a fault or a `Reading` with the given table, template and data.
abbrev pub AnswersReading : List Row → Tree → Data → Result Read WalkFault → (steps : ℕ) → Type 0
AnswersReading table template d (Ok r) steps =
    (r.table ≡ table) × (r.template ≡ template) × (r.source ≡ d)
    × ReadsData (counted_item table template) d (Ok r.bits) steps
AnswersReading table template d (Err why) steps =
    ReadsData (counted_item table template) d (Err why) steps
