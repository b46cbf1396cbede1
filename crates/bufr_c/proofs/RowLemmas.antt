-- The rows of a message, call by call, and the rows of events.
use Rattle.std.proofs.lemmas.Grind.{common_steps}
use Rattle.std.proofs.Common.{ℕ, ◌≡◌, ◌≢◌, ◌⊎◌, inl, inr, ◌∙◌, ◌≤◌, ◌<◌, List, [], ◌∷◌, ◌++◌, length, take, sym, ap, refl, arith, Result, Ok, Err, OnOk, None, Some, ℤ, pos, true, rules}
use Rattle.std.proofs.lemmas.List.{length-take-le}
use Rattle.bufr_frame.specs.Prelude.{Sections, StreamEvent}
use Rattle.bufr_tables.specs.Prelude.{Row, Sequence, Tree, records_of, table_b_of, table_d_of, tree_of, tables_of, template_report}
use Rattle.bufr_tables.specs.declared.fault.TemplateFault.{TemplateFault}
use Rattle.bufr_walk.specs.Prelude.{View, item_call, shown_number, Timed, Shows, Read, Data, AnswersReading, calls_of, turns_shown, data_of, data_report, read_by, fault_of, reading_of, next_item}
use Rattle.bufr_walk.specs.declared.fault.WalkFault.{WalkFault}
use Rattle.bufr_walk.specs.declared.fault.WalkFault.TheVariants as fault
use Rattle.bufr_c.specs.declared.rows.Counts.{Counts}
use Rattle.bufr_c.specs.declared.rows.RowBuffers.{RowBuffers}
use Rattle.bufr_c.specs.Leaving.{ByTables, HasRun, events_from}
use Rattle.bufr_c.specs.Rows.{HasNoRowRoom, HasPutRows, LacksRowRoom, LeavesRows, LeavesRowsRest, PassesRows, Put, PutsCall, RowPlace, Rows, SameBuffers, data_fault, is_wanted, join_rows, message_fault, message_put, no_rows, WritesNoRows, place_after, row_place, rows_after, rows_at, rows_of, template_fault, template_put, three, with_calls, with_number}
use Rattle.bufr_c.proofs.EventLemmas.{Reached, apart-0-74, apart-73-0, apart-74-0, events-end, over-end, over-stopped, reached-none, reached-same, rest-next}

-- ---- The calls that show what was read.

calls_put : (E : Type 0) (p : Put) (calls : List Timed) (turns : ℕ) (q : Put) (steps : ℕ) → Shows {E = E} PutsCall p calls turns (Ok tt) q steps → q ≡ with_calls p calls
calls_put E p [] turns q steps (same, made) = same
calls_put E p (t ∷ calls) turns q steps (mid, one, more) = cc (calls_put E mid calls turns q steps more, one)

-- A number was added.
pub number-put : (E : Type 0) (r : Result (Unit {0}) E) (p q : Put) (v : View) (fxy : ℕ) (n scale : ℤ) → fxy ≡ v.fxy → v.value ≡ shown_number n scale → is_wanted p.wanted fxy ≡ true
    → OnOk r (q ≡ with_number p fxy scale n) → PutsCall p (item_call v) r q
number-put E r p q v fxy n scale same value wanted is = grind arith

abbrev calls_by : List Row → Tree → Data → List Timed
calls_by table template source = calls_of (read_by table template source 0 0)

calls_same : (r : Read) (b : List Row) (t : Tree) (source : Data) → r.table ≡ b → r.template ≡ t → r.source ≡ source → calls_of r ≡ calls_by b t source
calls_same r b t source table template same =
    ap (λ x. calls_by x r.template r.source) table ∙ (ap (λ x. calls_by b x r.source) template ∙ ap (λ x. calls_by b t x) same)

put_by_tree : (b : List Row) (d : List Sequence) (s : Sections) (p : Put) (t : Result Tree TemplateFault) → tree_of (tables_of b d) s.descriptors ≡ t → template_put b s p t ≡ message_put b d s p
put_by_tree b d s p t tree = rw tree

fault_by_tree : (b : List Row) (d : List Sequence) (s : Sections) (t : Result Tree TemplateFault) → tree_of (tables_of b d) s.descriptors ≡ t → template_fault b s t ≡ message_fault b d s
fault_by_tree b d s t tree = rw tree

-- Data that were read have no fault.
no_fault : (b : List Row) (t : Tree) (s : Sections) (r : Read) (steps : ℕ) → AnswersReading b t (data_of s) (Ok r) steps → fault_of (data_of s) (reading_of (next_item b t) (data_of s)) ≡ None
no_fault b t s r steps (table, template, source, rest) = rw (rest.0)

pub message_done : (E : Type 0) (b : List Row) (d : List Sequence) (s : Sections) (p q : Put) (t : Tree) (r : Read) (steps steps' : ℕ) → tree_of (tables_of b d) s.descriptors ≡ Ok t
    → AnswersReading b t (data_of s) (Ok r) steps → Shows {E = E} PutsCall p (calls_of r) (turns_shown r) (Ok tt) q steps' → q ≡ message_put b d s p
message_done E b d s p q t r steps steps' tree (table, template, source, rest) shown = grind (arith, common_steps, calls_put, calls_same, no_fault, put_by_tree)

pub message_done_fault : (b : List Row) (d : List Sequence) (s : Sections) (t : Tree) (r : Read) (steps : ℕ) → tree_of (tables_of b d) s.descriptors ≡ Ok t
    → AnswersReading b t (data_of s) (Ok r) steps → 0 ≡ message_fault b d s
message_done_fault b d s t r steps tree answers =
    sym (ap data_fault (no_fault b t s r steps answers)) ∙ fault_by_tree b d s (Ok t) tree

-- the fault of data that were refused for any reason other than lack of memory
its_fault : (b : List Row) (s : Sections) (t : Tree) (why : WalkFault) (steps : ℕ) → AnswersReading b t (data_of s) (Err why) steps → why ≢ fault.Memory
    → fault_of (data_of s) (reading_of (next_item b t) (data_of s)) ≡ Some why
its_fault b s t why steps (inl (is, made)) other = is
its_fault b s t why steps (inr (memory, turns, may, made)) other = absurd (other memory)

pub message_refused : (b : List Row) (d : List Sequence) (s : Sections) (p : Put) (t : Tree) (why : WalkFault) (steps : ℕ) → tree_of (tables_of b d) s.descriptors ≡ Ok t
    → AnswersReading b t (data_of s) (Err why) steps → why ≢ fault.Memory → p ≡ message_put b d s p
message_refused b d s p t why steps tree answers other = cc (its_fault b s t why steps answers other)

pub message_refused_fault : (b : List Row) (d : List Sequence) (s : Sections) (t : Tree) (why : WalkFault) (steps : ℕ) → tree_of (tables_of b d) s.descriptors ≡ Ok t
    → AnswersReading b t (data_of s) (Err why) steps → why ≢ fault.Memory → (data_report why).0 ≡ message_fault b d s
message_refused_fault b d s t why steps tree answers other =
    sym (ap data_fault (its_fault b s t why steps answers other)) ∙ fault_by_tree b d s (Ok t) tree

pub template_refused : (b : List Row) (d : List Sequence) (s : Sections) (p : Put) (why : TemplateFault) → tree_of (tables_of b d) s.descriptors ≡ Err why → p ≡ message_put b d s p
template_refused b d s p why tree = put_by_tree b d s p (Err why) tree

pub template_refused_fault : (b : List Row) (d : List Sequence) (s : Sections) (why : TemplateFault) → tree_of (tables_of b d) s.descriptors ≡ Err why → (template_report why).0 ≡ message_fault b d s
template_refused_fault b d s why tree = fault_by_tree b d s (Err why) tree

-- ---- The rows of events.

-- the rows after another event
after-next : (b : List Row) (d : List Sequence) (wanted : List ℕ) (before : Rows) (events : List StreamEvent) (event : StreamEvent)
    → rows_after b d wanted before (events ++ event ∷ [])
    ≡ join_rows (rows_after b d wanted before events) (rows_of b d wanted (place_after (rows_after b d wanted before events)) event)
after-next b d wanted before [] event = refl
after-next b d wanted before (first ∷ events) event = after-next b d wanted (join_rows before (rows_of b d wanted (place_after before) first)) events event

-- the place of the next rows, from the rows at the start of the buffers
place-left : (room : Rows) (counts : Counts) (rows : Rows) → LeavesRows room counts rows → place_after rows ≡ row_place counts
place-left room counts rows left =
    let m : length rows.messages ≡ counts.messages = sym (ap length left.messages) ∙ length-take-le counts.messages room.messages left.messages_fit in
    let o : length rows.octets ≡ counts.octets = sym (ap length left.octets) ∙ length-take-le counts.octets room.octets left.octets_fit in
    let i : length rows.items ≡ counts.items = sym (ap length left.items) ∙ length-take-le counts.items room.items left.items_fit in
    rw (m, o, i) refl

-- The rows of the events up to `counts.at` were written.
pub record RowsSoFar (b : List Row) (d : List Sequence) (wanted octets : List ℕ) (from : ℕ) (room : Rows) (counts : Counts) : Type 0 where
  pub passed : List StreamEvent
  pub reached : Reached octets from passed counts.at
  pub leaves : LeavesRows room counts (rows_after b d wanted no_rows passed)

module _ (b : List Row) (d : List Sequence) (wanted octets : List ℕ) (from : ℕ) (room : Rows) (counts : Counts) (so : RowsSoFar b d wanted octets from room counts) where
  abbrev rows : Rows
  rows = rows_after b d wanted no_rows so.passed

  before-is : three (take counts.items room.items) (take counts.octets room.octets) (take counts.messages room.messages) ≡ rows
  before-is = rw (so.leaves.items, so.leaves.octets, so.leaves.messages) refl

  -- The rows of the next event were put into the buffers.
  pub rows-put : (event : StreamEvent) (made : Rows) (mid counts' : Counts) (room' : Rows) → Reached octets from (so.passed ++ event ∷ []) counts'.at
      → made ≡ rows_of b d wanted (row_place counts) event → HasPutRows made counts room mid room'
      → counts'.items ≡ mid.items → counts'.octets ≡ mid.octets → counts'.messages ≡ mid.messages → RowsSoFar b d wanted octets from room' counts'
  rows-put event made mid counts' room' reached is put items octets' messages =
      let now = rows_after b d wanted no_rows (so.passed ++ event ∷ []) in
      let same : join_rows (three (take counts.items room.items) (take counts.octets room.octets) (take counts.messages room.messages)) made ≡ now =
      ap (λ r. join_rows r made) before-is
      ∙ ap (λ r. join_rows rows r) (is ∙ ap (λ place. rows_of b d wanted place event) (sym (place-left room counts rows so.leaves)))
      ∙ sym (after-next b d wanted no_rows so.passed event) in
      grind arith

  -- There are no more events.
  pub rows-done : length octets ≤ counts.at → PassesRows b d wanted octets from room counts (pos 0)
  rows-done past = record {
    passed = so.passed;
    over = over-end octets from so.passed counts.at so.reached counts.at (events-end octets counts.at past) past so.reached.within (λ h. so.reached.past (omega (arith, h)));
    leaves = so.leaves;
    stops = λ is. absurd (apart-0-74 is);
  }

  pub rows_stopped : PassesRows b d wanted octets from room counts (pos 73)
  rows_stopped = grind (arith, apart-73-0)

  -- After the last event, the search is at the end.
  pub rows-ended : (counts' : Counts) → counts.at < length octets → events_from counts.at octets ≡ [] → counts'.at ≡ length octets → counts'.items ≡ counts.items → counts'.octets ≡ counts.octets
      → counts'.messages ≡ counts.messages → PassesRows b d wanted octets from room counts' (pos 0)
  rows-ended counts' inside none at items octets' messages = record {
    passed = so.passed;
    over = over-end octets from so.passed counts.at so.reached counts'.at none (omega arith) (λ _. omega arith)
        (λ h. omega (arith, h, inside, so.reached.past (omega arith)));
    leaves = record {
      items = ap (λ n. take n room.items) items ∙ so.leaves.items;
      octets = ap (λ n. take n room.octets) octets' ∙ so.leaves.octets;
      messages = ap (λ n. take n room.messages) messages ∙ so.leaves.messages;
      items_fit = omega (arith, so.leaves.items_fit);
      octets_fit = omega (arith, so.leaves.octets_fit);
      messages_fit = omega (arith, so.leaves.messages_fit);
    };
    stops = λ is. absurd (apart-0-74 is);
  }

  -- There is no room for the next event.
  pub rows-full : (event : StreamEvent) (more : List StreamEvent) (made : Rows) (counts' : Counts) (room' : Rows) → events_from counts.at octets ≡ event ∷ more
      → made ≡ rows_of b d wanted (row_place counts) event → HasNoRowRoom made counts room counts' room' → PassesRows b d wanted octets from room' counts' (pos 74)
  rows-full event more made counts' room' next is none =
      let there : events_from counts'.at octets ≡ event ∷ more = rw (none.at, next) in
      let place : row_place counts ≡ row_place counts' = rw (none.messages, none.octets, none.items) refl in
      let lacks : LacksRowRoom room' counts' (rows_of b d wanted (row_place counts') event) =
      rw (← is ∙ ap (λ p. rows_of b d wanted p event) place) none.lacks in
      rw none.same (record {
        passed = so.passed;
        over = over-stopped octets from so.passed counts'.at (reached-same octets from so.passed counts.at so.reached counts'.at none.at) (pos 74) (inr (inr refl)) apart-74-0;
        leaves = record {
          items = ap (λ n. take n room.items) none.items ∙ so.leaves.items;
          octets = ap (λ n. take n room.octets) none.octets ∙ so.leaves.octets;
          messages = ap (λ n. take n room.messages) none.messages ∙ so.leaves.messages;
          items_fit = omega (arith, none.items, so.leaves.items_fit);
          octets_fit = omega (arith, none.octets, so.leaves.octets_fit);
          messages_fit = omega (arith, none.messages, so.leaves.messages_fit);
        };
        stops = λ _. rw there (rw none.same at lacks);
      })

-- Nothing was written.
pub rows-none : (b : List Row) (d : List Sequence) (wanted octets : List ℕ) (room : Rows) (counts : Counts) → counts.items ≡ 0 → counts.octets ≡ 0 → counts.messages ≡ 0
    → RowsSoFar b d wanted octets counts.at room counts
rows-none b d wanted octets room counts items octets' messages = search (rules, reached-none)

-- buffers that do not move
pub buffers_here : (buffers : RowBuffers) → SameBuffers buffers buffers
buffers_here buffers = record { items = refl; texts = refl; messages = refl; reserved = refl }

pub buffers-still : (old mid new : RowBuffers) → SameBuffers old mid → SameBuffers mid new → SameBuffers old new
buffers-still old mid new first then' = record {
  items = then'.items ∙ first.items;
  texts = then'.texts ∙ first.texts;
  messages = then'.messages ∙ first.messages;
  reserved = then'.reserved ∙ first.reserved;
}

-- The rows of another event were put into the buffers.
pub rows-rest-put : (old before : Rows) (counts : Counts) (made : Rows) (mid counts' : Counts) (after rows : Rows) → LeavesRows before counts rows → LeavesRowsRest old counts before
    → HasPutRows made counts before mid after → counts'.items ≡ mid.items → counts'.octets ≡ mid.octets → counts'.messages ≡ mid.messages → LeavesRowsRest old counts' after
rows-rest-put old before counts made mid counts' after rows left rest put items octets' messages = record {
  items_rest = rw items (rest-next old.items before.items after.items made.items counts.items mid.items left.items_fit put.leaves.items_fit put.leaves.items rest.items_rest put.rest.items_rest);
  octets_rest = rw octets' (rest-next old.octets before.octets after.octets made.octets counts.octets mid.octets left.octets_fit put.leaves.octets_fit put.leaves.octets rest.octets_rest
      put.rest.octets_rest);
  messages_rest = rw messages (rest-next old.messages before.messages after.messages made.messages counts.messages mid.messages left.messages_fit put.leaves.messages_fit put.leaves.messages
      rest.messages_rest put.rest.messages_rest);
}

-- There was no room for the rows.
pub rows-rest-full : (old before : Rows) (counts : Counts) (made : Rows) (counts' : Counts) (after : Rows) → LeavesRowsRest old counts before → HasNoRowRoom made counts before counts' after
    → LeavesRowsRest old counts' after
rows-rest-full old before counts made counts' after rest none =
    rw none.same (record {
      items_rest = rw none.items rest.items_rest;
      octets_rest = rw none.octets rest.octets_rest;
      messages_rest = rw none.messages rest.messages_rest;
    })

-- The same in a loop, which does not change the tables, the wanted descriptors or the places of the
-- buffers.
pub record RowsLoop (b : List Row) (d : List Sequence) (wanted octets : List ℕ) (from : ℕ) (old new : RowBuffers) (counts : Counts) (b' : List Row) (d' : List Sequence) (wanted' : List ℕ)
    : Type 0 where
  pub so : RowsSoFar b d wanted octets from (rows_at new) counts
  pub rest : LeavesRowsRest (rows_at old) counts (rows_at new)
  pub reserved : counts.reserved ≡ 0
  pub still : SameBuffers old new
  pub table_b : b' ≡ b
  pub table_d : d' ≡ d
  pub same : wanted' ≡ wanted

pub made-by-same : (b b' : List Row) (d d' : List Sequence) (wanted wanted' : List ℕ) (place : RowPlace) (event : StreamEvent) (made : Rows) → b' ≡ b → d' ≡ d → wanted' ≡ wanted
    → made ≡ rows_of b' d' wanted' place event → made ≡ rows_of b d wanted place event
made-by-same b b' d d' wanted wanted' place event made table_b table_d same is = grind arith

-- ---- The clause of the call.

-- a call that wrote nothing
pub unread_rows : {A : Type 0} (from : ℕ) (room : Rows) (counts : Counts) (status : ℤ) → counts.at ≡ from → counts.items ≡ 0 → counts.octets ≡ 0 → counts.messages ≡ 0 → ¬ HasRun status
    → A ⊎ ((¬ HasRun status) × WritesNoRows from room counts room)
unread_rows from room counts status at items octets' messages stopped = inr (stopped, record { at = at; items = items; octets = octets'; messages = messages; same = refl })

-- a call that read its stream with these tables
pub items_read : (table_b table_d : List ℕ) (b b' : List Row) (d d' : List Sequence) (wanted wanted' octets : List ℕ) (from from' : ℕ) (room : Rows) (counts : Counts) (status : ℤ)
    (Otherwise : Type 0) → table_b_of (records_of table_b) ≡ Ok b → table_d_of (records_of table_d) ≡ Ok d → b' ≡ b → d' ≡ d → wanted' ≡ wanted → from' ≡ from
    → PassesRows b' d' wanted' octets from' room counts status → ByTables table_b table_d status (λ b d. PassesRows b d wanted octets from room counts status) Otherwise
items_read table_b table_d b b' d d' wanted wanted' octets from from' room counts status Otherwise is_b is_d same_b same_d same at passes = grind arith
