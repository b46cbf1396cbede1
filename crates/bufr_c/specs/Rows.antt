-- Only contracts need this file. The rows for items and messages (not part of FM 94 BUFR).
use Rattle.std.specs.Prelude.{ℕ, ◌≡◌, ◌≤◌, ◌<◌, ◌⊎◌, ◌+◌, ◌^◌, ◌-◌, take, drop, ℤ, pos, neg_ℤ, int_lt, Bool, true, false, List, [], ◌∷◌, ◌++◌, length, nat_eq, Option, Some, None, Result, Ok, Err, if◌then◌else◌}
use Rattle.std.specs.List.{list_any}
use Rattle.std.specs.Int.{w128, to_le_bytes, cast_unsigned, from_bool}
use Rattle.bufr_frame.specs.Prelude.{Sections, StreamEvent, FrameAt, StrayAt, cause_report, section_report, sections_of}
use Rattle.bufr_frame.specs.declared.fault.SectionFault.{SectionFault}
use Rattle.bufr_tables.specs.Prelude.{Row, Sequence, Tree, tree_of, tables_of, template_report}
use Rattle.bufr_tables.specs.declared.fault.TemplateFault.{TemplateFault}
use Rattle.bufr_walk.specs.Prelude.{ShownValue, shown_number, shown_text, shown_missing, shown_reference, Call, subset_call, item_call, Timed, data_of, data_report, read_by, calls_of, reading_of, fault_of, next_item}
use Rattle.bufr_walk.specs.declared.fault.WalkFault.{WalkFault}
use Rattle.bufr_c.specs.declared.rows.ValueRow.{ValueRow}
use Rattle.bufr_c.specs.declared.rows.MessageRow.{MessageRow}
use Rattle.bufr_c.specs.declared.rows.Counts.{Counts}
use Rattle.bufr_c.specs.declared.rows.RowBuffers.{RowBuffers}
use Rattle.bufr_c.specs.Leaving.{PassesOver, events_from}

-- ---- The rows for the items in one message.

-- The item rows of a message, and the octets of its strings and of numbers wider than 64 bits. The
-- other fields are used when a row is added; they contain the wanted descriptors, the index of the
-- message's row, the index in `texts` at which its octets begin, and the subset number.
pub record Put : Type 0 where
  pub wanted : List ℕ
  pub message : ℕ
  pub base : ℕ
  pub subset : ℕ
  pub items : List ValueRow
  pub octets : List ℕ

-- the state before any row for a message is added
abbrev pub no_items : (wanted : List ℕ) → (message base : ℕ) → Put
no_items wanted message base =
    record {
      wanted = wanted;
      message = message;
      base = base;
      subset = 0;
      items = [];
      octets = [];
    }

-- the row for an item with the given descriptor and value
abbrev pub item_by : Put → (fxy kind : ℕ) → (scale value : ℤ) → (length : ℕ) → ValueRow
item_by p fxy kind scale value length =
    record {
      value = value;
      message = p.message;
      length = length;
      subset = p.subset;
      fxy = fxy;
      scale = scale;
      kind = kind;
      reserved = 0;
    }

-- the rows after adding an item whose value is stored in the row itself
abbrev pub with_item : Put → (fxy kind : ℕ) → (scale value : ℤ) → (length : ℕ) → Put
with_item p fxy kind scale value length =
    record p { items = p.items ++ item_by p fxy kind scale value length ∷ [] }

-- the rows after adding a value stored as octets; the row contains the index of the first octet
abbrev pub with_text : Put → (fxy kind : ℕ) → (scale : ℤ) → List ℕ → Put
with_text p fxy kind scale octets =
    record p {
      items = p.items
          ++ item_by p fxy kind scale (pos (p.base + length p.octets)) (length octets) ∷ [];
      octets = p.octets ++ octets;
    }

-- the rows after adding a number that does not fit in 64 bits
abbrev pub with_wide : Put → (fxy : ℕ) → (scale value : ℤ) → Put
with_wide p fxy scale n = with_text p fxy 4 scale (to_le_bytes w128 (cast_unsigned w128 n))

-- the rows after adding a number; `with_wide` adds numbers that do not fit in 64 bits
abbrev pub with_number : Put → (fxy : ℕ) → (scale value : ℤ) → Put
with_number p fxy scale n =
    if int_lt n (neg_ℤ (pos (2 ^ 63))) then with_wide p fxy scale n
    else (if int_lt (pos (2 ^ 63 - 1)) n then with_wide p fxy scale n
    else with_item p fxy 1 scale n 0)

-- the rows after adding an item with the given value
abbrev pub with_value : Put → (fxy : ℕ) → ShownValue → Put
with_value p fxy (shown_number n scale) = with_number p fxy scale n
with_value p fxy (shown_text octets) = with_text p fxy 2 (pos 0) octets
with_value p fxy shown_missing = with_item p fxy 0 (pos 0) (pos 0) 0
with_value p fxy (shown_reference n) = with_item p fxy 3 (pos 0) n 0

-- whether the caller wants items with the given descriptor; an empty list selects all items
abbrev pub is_wanted : List ℕ → (fxy : ℕ) → Bool
is_wanted [] fxy = true
is_wanted (first ∷ more) fxy = list_any (λ wanted. nat_eq wanted fxy) (first ∷ more)

-- the rows after a call to a visitor
abbrev pub with_call : Put → Call → Put
with_call p (subset_call number) = record p { subset = number }
with_call p (item_call v) =
    if is_wanted p.wanted v.fxy then with_value p v.fxy v.value else p

-- The given call to a visitor has updated the rows, unless it failed.
abbrev pub PutsCall : {E : Type 0} → Put → Call → Result (Unit {0}) E → Put → Type 0
PutsCall p call (Ok _) q = q ≡ with_call p call
PutsCall p call (Err _) q = Unit {0}

-- the rows after several calls to a visitor
abbrev pub with_calls : Put → List Timed → Put
with_calls p [] = p
with_calls p (t ∷ calls) = with_calls (with_call p t.call) calls

-- the rows after adding the items in the data, or the old rows if the data contain a fault
abbrev pub data_put : Put → List Timed → Option WalkFault → Put
data_put p calls None = with_calls p calls
data_put p calls (Some why) = p

-- the rows after adding the items of a message, given its template, or the old rows if the template
-- or the data contain a fault
abbrev pub template_put : List Row → Sections → Put → Result Tree TemplateFault → Put
template_put table s p (Ok template) =
    data_put p (calls_of (read_by table template (data_of s) 0 0))
    (fault_of (data_of s) (reading_of (next_item table template) (data_of s)))
template_put table s p (Err fault) = p

-- the rows after adding the items of a message, or the old rows if the message is rejected
abbrev pub message_put : List Row → List Sequence → Sections → Put → Put
message_put b d s p = template_put b s p (tree_of (tables_of b d) s.descriptors)

-- ---- The number of the fault in a message, or 0 if there is no fault.

abbrev pub data_fault : Option WalkFault → ℕ
data_fault None = 0
data_fault (Some why) = (data_report why).0

abbrev pub template_fault : List Row → Sections → Result Tree TemplateFault → ℕ
template_fault table s (Ok template) =
    data_fault (fault_of (data_of s) (reading_of (next_item table template) (data_of s)))
template_fault table s (Err fault) = (template_report fault).0

abbrev pub message_fault : List Row → List Sequence → Sections → ℕ
message_fault b d s = template_fault b s (tree_of (tables_of b d) s.descriptors)

-- ---- The row for a message.

-- the row for a stray `BUFR`, or for a message that cannot be split into sections
abbrev pub plain_row : (offset length first fault : ℕ) → MessageRow
plain_row offset length first fault =
    record {
      offset = offset;
      length = length;
      first = first;
      items = 0;
      centre = 0;
      subcentre = 0;
      year = 0;
      subsets = 0;
      fault = fault;
      edition = 0;
      master = 0;
      update = 0;
      category = 0;
      subcategory = 0;
      local_subcategory = 0;
      master_version = 0;
      local_version = 0;
      month = 0;
      day = 0;
      hour = 0;
      minute = 0;
      second = 0;
      observed = 0;
      compressed = 0;
      reserved = 0;
    }

-- the row for a message that can be split into sections, including the fields of its header
abbrev pub head_row : Sections → (offset first items fault : ℕ) → MessageRow
head_row s offset first items fault =
    record {
      offset = offset;
      length = s.size;
      first = first;
      items = items;
      centre = s.head.centre;
      subcentre = s.head.subcentre;
      year = s.head.year;
      subsets = s.subsets;
      fault = fault;
      edition = s.head.edition;
      master = s.head.master;
      update = s.head.update;
      category = s.head.category;
      subcategory = s.head.subcategory;
      local_subcategory = s.head.local_subcategory;
      master_version = s.head.master_version;
      local_version = s.head.local_version;
      month = s.head.month;
      day = s.head.day;
      hour = s.head.hour;
      minute = s.head.minute;
      second = s.head.second;
      observed = from_bool s.observed;
      compressed = from_bool s.compressed;
      reserved = 0;
    }

-- ---- The rows for events.

-- the item rows, the octets of strings and of numbers wider than 64 bits, and the message rows
pub record Rows : Type 0 where
  pub items : List ValueRow
  pub octets : List ℕ
  pub messages : List MessageRow

abbrev pub no_rows : Rows
no_rows = record { items = []; octets = []; messages = [] }

-- the rows for a stray `BUFR`, or for a message that cannot be split into sections
abbrev pub fault_rows : (offset length first fault : ℕ) → Rows
fault_rows offset length first fault =
    record { items = []; octets = []; messages = plain_row offset length first fault ∷ [] }

-- the rows for the items of a message, and the row for the message itself
abbrev pub put_rows : Put → Sections → (offset first fault : ℕ) → Rows
put_rows p s offset first fault =
    record {
      items = p.items;
      octets = p.octets;
      messages = head_row s offset first (length p.items) fault ∷ [];
    }

-- the indices at which the message row, the octets and the item rows of an event begin
pub record RowPlace : Type 0 where
  pub message : ℕ
  pub base : ℕ
  pub first : ℕ

-- the indices directly after the given rows
abbrev pub place_after : Rows → RowPlace
place_after before =
    record {
      message = length before.messages;
      base = length before.octets;
      first = length before.items;
    }

-- the rows for a message, given its sections or the fault that was found in them
abbrev pub sections_rows : List Row → List Sequence → (wanted : List ℕ) → RowPlace
    → (offset length : ℕ) → Result Sections SectionFault → Rows
sections_rows b d wanted place offset size (Ok s) =
    put_rows (message_put b d s (no_items wanted place.message place.base)) s offset place.first
    (message_fault b d s)
sections_rows b d wanted place offset size (Err fault) =
    fault_rows offset size place.first (section_report fault).0

-- the rows for an event
abbrev pub rows_of : List Row → List Sequence → (wanted : List ℕ) → RowPlace → StreamEvent → Rows
rows_of b d wanted place (FrameAt offset octets) =
    sections_rows b d wanted place offset (length octets) (sections_of octets)
rows_of b d wanted place (StrayAt offset cause) =
    fault_rows offset 4 place.first (cause_report cause).0

-- the concatenation of two groups of rows
abbrev pub join_rows : Rows → Rows → Rows
join_rows before more =
    record {
      items = before.items ++ more.items;
      octets = before.octets ++ more.octets;
      messages = before.messages ++ more.messages;
    }

-- the given rows, followed by the rows for the given events
abbrev pub rows_after : List Row → List Sequence → (wanted : List ℕ) → Rows → List StreamEvent
    → Rows
rows_after b d wanted before [] = before
rows_after b d wanted before (event ∷ events) =
    rows_after b d wanted (join_rows before (rows_of b d wanted (place_after before) event)) events

-- ---- The caller's buffers after a call.

-- a record with the given item rows, octets and message rows
abbrev pub three : List ValueRow → List ℕ → List MessageRow → Rows
three items octets messages = record { items = items; octets = octets; messages = messages }

-- the contents of the caller's buffers
abbrev pub rows_at : RowBuffers → Rows
rows_at buffers = three buffers.items.now buffers.texts.now buffers.messages.now

-- Both structures refer to the same buffers, and the reserved members are unchanged.
pub record SameBuffers (old new : RowBuffers) : Type 0 where
  pub items : new.items.ghost_name ≡ old.items.ghost_name
  pub texts : new.texts.ghost_name ≡ old.texts.ghost_name
  pub messages : new.messages.ghost_name ≡ old.messages.ghost_name
  pub reserved : new.reserved ≡ old.reserved

-- the rows for an event's items, and the event's own row
abbrev pub rows_in : Put → MessageRow → Rows
rows_in p row = three p.items p.octets (row ∷ [])

-- the indices at which the rows for the next event begin
abbrev pub row_place : Counts → RowPlace
row_place counts =
    record { message = counts.messages; base = counts.octets; first = counts.items }

-- The buffers begin with the given rows and octets, and `counts` contains the number of each.
pub record LeavesRows (room : Rows) (counts : Counts) (rows : Rows) : Type 0 where
  pub items : take counts.items room.items ≡ rows.items
  pub octets : take counts.octets room.octets ≡ rows.octets
  pub messages : take counts.messages room.messages ≡ rows.messages
  pub items_fit : counts.items ≤ length room.items
  pub octets_fit : counts.octets ≤ length room.octets
  pub messages_fit : counts.messages ≤ length room.messages

-- The given rows do not fit into the buffers, and `counts` contains the required numbers of rows
-- and octets.
pub record LacksRowRoom (room : Rows) (counts : Counts) (rows : Rows) : Type 0 where
  pub items_needed : counts.items_needed ≡ length rows.items
  pub octets_needed : counts.octets_needed ≡ length rows.octets
  pub messages_needed : counts.messages_needed ≡ length rows.messages
  pub lacks : (length room.items < counts.items + counts.items_needed)
      ⊎ ((length room.octets < counts.octets + counts.octets_needed)
      ⊎ (length room.messages < counts.messages + counts.messages_needed))

-- Everything after the rows in the caller's buffers is unchanged.
pub record LeavesRowsRest (before : Rows) (counts : Counts) (after : Rows) : Type 0 where
  pub items_rest : drop counts.items after.items ≡ drop counts.items before.items
  pub octets_rest : drop counts.octets after.octets ≡ drop counts.octets before.octets
  pub messages_rest : drop counts.messages after.messages ≡ drop counts.messages before.messages

-- The given rows were appended to the earlier rows.
pub record HasPutRows (rows : Rows) (old : Counts) (before : Rows) (new : Counts) (after : Rows)
    : Type 0 where
  pub leaves : LeavesRows after new (join_rows (three (take old.items before.items)
      (take old.octets before.octets) (take old.messages before.messages)) rows)
  pub rest : LeavesRowsRest before new after
  pub at : new.at ≡ old.at
  pub reserved : new.reserved ≡ old.reserved

-- The given rows did not fit into the buffers, so nothing was written.
pub record HasNoRowRoom (rows : Rows) (old : Counts) (before : Rows) (new : Counts) (after : Rows)
    : Type 0 where
  pub same : after ≡ before
  pub at : new.at ≡ old.at
  pub items : new.items ≡ old.items
  pub octets : new.octets ≡ old.octets
  pub messages : new.messages ≡ old.messages
  pub reserved : new.reserved ≡ old.reserved
  pub lacks : LacksRowRoom after new rows

-- Either the rows were appended (`true`), or they did not fit (`false`).
abbrev pub PutsRows : Rows → Counts → Rows → Counts → Rows → Bool → Type 0
PutsRows rows old before new after true = HasPutRows rows old before new after
PutsRows rows old before new after false = HasNoRowRoom rows old before new after

-- The rows for the first event do not fit into the buffers.
abbrev pub StopsBeforeRows : List Row → List Sequence → (wanted : List ℕ) → (room : Rows)
    → Counts → List StreamEvent → Type 0
StopsBeforeRows b d wanted room counts [] = ⊥
StopsBeforeRows b d wanted room counts (next ∷ more) =
    LacksRowRoom room counts (rows_of b d wanted (row_place counts) next)

-- A call wrote the rows for the events that it processed. Status 74 means that the rows for the
-- next event do not fit into the buffers.
pub record PassesRows (b : List Row) (d : List Sequence) (wanted octets : List ℕ) (from : ℕ)
    (room : Rows) (counts : Counts) (status : ℤ) : Type 0 where
  pub passed : List StreamEvent
  pub over : PassesOver octets from passed counts.at status
  pub leaves : LeavesRows room counts (rows_after b d wanted no_rows passed)
  pub stops : status ≡ pos 74
      → StopsBeforeRows b d wanted room counts (events_from counts.at octets)

-- A call wrote nothing, and the next call will begin at the same offset.
pub record WritesNoRows (from : ℕ) (before : Rows) (counts : Counts) (after : Rows) : Type 0 where
  pub at : counts.at ≡ from
  pub items : counts.items ≡ 0
  pub octets : counts.octets ≡ 0
  pub messages : counts.messages ≡ 0
  pub same : after ≡ before
