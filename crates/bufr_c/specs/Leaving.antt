-- Only contracts need this file. The caller's buffers after a call (not part of FM 94 BUFR).
use Rattle.std.specs.Prelude.{ℕ, ◌+◌, ◌<◌, ◌≤◌, ℤ, pos, ◌≡◌, ◌⊎◌, List, [], ◌∷◌, ◌++◌, ◌-◌, Bool, true, false, codes, length, take, drop, map, flat_map, count_by, Ok, IfOk, IfErr}
use Rattle.bufr_frame.specs.Prelude.{StreamEvent, FrameAt, StrayAt, StartsWithBufr, scan_from, classify, stated_length, stream_event, candidate_len, has_word_at}
use Rattle.bufr_frame.specs.declared.fault.Cause.{Cause}
use Rattle.bufr_tables.specs.Prelude.{IsFirstCycle, Row, Sequence, records_of, table_b_of, table_d_of, table_report}
use Rattle.bufr_tables.specs.declared.fault.TableFault.{TableFault}
use Rattle.bufr_cli.specs.Prelude.{Piece, output_of, errors_of, is_accepted, is_refused}
use Rattle.bufr_c.specs.declared.events.Candidate.{Candidate}
use Rattle.bufr_c.specs.declared.events.Candidate.TheVariants.{Stray, Frame}
use Rattle.bufr_c.specs.declared.command.EventText.{EventText}
use Rattle.bufr_c.specs.declared.texts.Texts.{Texts}
use Rattle.bufr_c.specs.Commands.{IsTextOf}

-- the events found from offset `at` onward; offsets are counted from the start of the stream
abbrev pub events_from : (at : ℕ) → List ℕ → List StreamEvent
events_from at octets = scan_from 0 at (drop at octets)

-- the offset directly after an event
abbrev pub end_of : StreamEvent → ℕ
end_of (FrameAt offset octets) = offset + length octets
end_of (StrayAt offset cause) = offset + 4

-- the offset directly after the last event, or `from` if there are no events
abbrev pub end_after : (from : ℕ) → List StreamEvent → ℕ
end_after from [] = from
end_after from (event ∷ events) = end_after (end_of event) events

-- The octets m begin with a message that is n octets long.
pub record IsMessage (m : List ℕ) (n : ℕ) : Type 0 where
  pub begins : StartsWithBufr m
  pub states : n ≡ stated_length m
  pub least : 12 ≤ n
  pub within : n ≤ length m
  pub ends : has_word_at (codes "7777") (n - 4) m ≡ true

-- The octets m begin with `BUFR` but not with a message, and `cause` is the reason.
pub record IsStray (m : List ℕ) (cause : Cause) : Type 0 where
  pub event : (offset : ℕ) → stream_event offset m (classify m) ≡ StrayAt offset cause ∷ []
  pub moves : candidate_len m (classify m) ≡ 4
  pub within : 4 ≤ length m

-- The octets m begin with the given candidate, which is a message or a stray `BUFR`.
abbrev pub IsCandidate : List ℕ → Candidate → Type 0
IsCandidate m (Stray cause) = IsStray m cause
IsCandidate m (Frame n) = IsMessage m n

-- The octets m, which are at `offset` in the stream, begin with an event that satisfies `Is`. The
-- search continues directly after the event, n octets later.
pub record FindsEvent (Is : StreamEvent → Type 0) (offset : ℕ) (m : List ℕ) (n : ℕ) : Type 0 where
  pub event : StreamEvent
  pub here : stream_event offset m (classify m) ≡ event ∷ []
  pub moves : n ≡ candidate_len m (classify m)
  pub ends : end_of event ≡ offset + n
  pub some : 4 ≤ n
  pub within : n ≤ length m
  pub is : Is event

-- The octets m begin with an event, and `text` contains the text to write for it.
abbrev pub WritesEvent : (StreamEvent → Piece) → (offset : ℕ) → List ℕ → ℕ → EventText → Type 0
WritesEvent piece offset m n text = FindsEvent (λ event. IsTextOf text (piece event)) offset m n

-- The octets after the written text in the caller's buffers are unchanged.
pub record LeavesRest (output errors : List ℕ) (texts : Texts) (output' errors' : List ℕ)
    : Type 0 where
  pub output_rest : drop texts.output_length output' ≡ drop texts.output_length output
  pub errors_rest : drop texts.errors_length errors' ≡ drop texts.errors_length errors

-- The text for an event was appended to the earlier text.
pub record HasPut (text : EventText) (old : Texts) (output errors : List ℕ) (new : Texts)
    (output' errors' : List ℕ) : Type 0 where
  pub written : take new.output_length output'
      ≡ take old.output_length output ++ text.output.octets.items
  pub blamed : take new.errors_length errors'
      ≡ take old.errors_length errors ++ text.errors.octets.items
  pub output_fits : new.output_length ≤ length output'
  pub errors_fits : new.errors_length ≤ length errors'
  pub rest : LeavesRest output errors new output' errors'
  pub at : new.at ≡ old.at
  pub accepted : new.accepted ≡ old.accepted
  pub refused : new.refused ≡ old.refused
  pub reserved : new.reserved ≡ old.reserved

-- The text for an event did not fit into the buffers, so nothing was written.
pub record HasNoRoom (text : EventText) (old : Texts) (output errors : List ℕ) (new : Texts)
    (output' errors' : List ℕ) : Type 0 where
  pub same_output : output' ≡ output
  pub same_errors : errors' ≡ errors
  pub output_length : new.output_length ≡ old.output_length
  pub errors_length : new.errors_length ≡ old.errors_length
  pub at : new.at ≡ old.at
  pub accepted : new.accepted ≡ old.accepted
  pub refused : new.refused ≡ old.refused
  pub reserved : new.reserved ≡ old.reserved
  pub output_needed : new.output_needed ≡ length text.output.octets.items
  pub errors_needed : new.errors_needed ≡ length text.errors.octets.items
  pub lacks : (length output < new.output_length + new.output_needed)
      ⊎ (length errors < new.errors_length + new.errors_needed)

-- Either the text for an event was appended (`true`), or it did not fit (`false`).
abbrev pub PutsText : EventText → Texts → (output errors : List ℕ) → Texts
    → (output' errors' : List ℕ) → Bool → Type 0
PutsText text old output errors new output' errors' true =
    HasPut text old output errors new output' errors'
PutsText text old output errors new output' errors' false =
    HasNoRoom text old output errors new output' errors'

-- The buffers begin with the text of the given pieces. `texts` contains the lengths of the output
-- and the error text, and the numbers of accepted and rejected pieces.
pub record Leaves (output errors : List ℕ) (texts : Texts) (pieces : List Piece) : Type 0 where
  pub written : take texts.output_length output ≡ flat_map output_of pieces
  pub blamed : take texts.errors_length errors ≡ flat_map errors_of pieces
  pub output_fits : texts.output_length ≤ length output
  pub errors_fits : texts.errors_length ≤ length errors
  pub accepted : texts.accepted ≡ count_by is_accepted pieces
  pub refused : texts.refused ≡ count_by is_refused pieces

-- The output (`written`) or error text (`blamed`) does not fit; `texts` contains both lengths.
pub record LacksRoom (output errors : List ℕ) (texts : Texts) (written blamed : List ℕ)
    : Type 0 where
  pub output_needed : texts.output_needed ≡ length written
  pub errors_needed : texts.errors_needed ≡ length blamed
  pub lacks : (length output < texts.output_length + texts.output_needed)
      ⊎ (length errors < texts.errors_length + texts.errors_needed)

-- The text for the first event does not fit into the buffers.
abbrev pub StopsBefore : (StreamEvent → Piece) → (output errors : List ℕ) → Texts
    → List StreamEvent → Type 0
StopsBefore piece output errors texts [] = ⊥
StopsBefore piece output errors texts (next ∷ more) =
    LacksRoom output errors texts (output_of (piece next)) (errors_of (piece next))

-- The status is 0, 73 or 74, which a call can return once it has read its tables.
abbrev pub IsRunStatus : ℤ → Type 0
IsRunStatus status = (status ≡ pos 0) ⊎ ((status ≡ pos 73) ⊎ (status ≡ pos 74))

-- A call that began at offset `from` has processed the given events, and the next call continues at
-- `at`. If the status is 0, `at` is the end of the input (or `from`, if that is later). If the
-- status is 73 or 74, `at` is directly after the last processed event.
pub record PassesOver (octets : List ℕ) (from : ℕ) (passed : List StreamEvent) (at : ℕ)
    (status : ℤ) : Type 0 where
  pub ran : IsRunStatus status
  pub events : events_from from octets ≡ passed ++ events_from at octets
  pub within : from ≤ length octets → at ≤ length octets
  pub past : length octets < from → at ≡ from
  pub done : status ≡ pos 0 → (events_from at octets ≡ []) × (length octets ≤ at)
  pub stopped : (¬ (status ≡ pos 0)) → at ≡ end_after from passed

-- A call wrote the text for each event that it processed. Status 74 means that the text for the
-- next event does not fit into the buffers.
pub record Passes (piece : StreamEvent → Piece) (octets : List ℕ) (from : ℕ)
    (output errors : List ℕ) (texts : Texts) (status : ℤ) : Type 0 where
  pub passed : List StreamEvent
  pub over : PassesOver octets from passed texts.at status
  pub leaves : Leaves output errors texts (map piece passed)
  pub stops : status ≡ pos 74
      → StopsBefore piece output errors texts (events_from texts.at octets)

-- A call wrote nothing, and the next call will begin at the same offset.
pub record WritesNone (from : ℕ) (output errors : List ℕ) (texts : Texts)
    (output' errors' : List ℕ) : Type 0 where
  pub at : texts.at ≡ from
  pub output_length : texts.output_length ≡ 0
  pub errors_length : texts.errors_length ≡ 0
  pub accepted : texts.accepted ≡ 0
  pub refused : texts.refused ≡ 0
  pub same_output : output' ≡ output
  pub same_errors : errors' ≡ errors

-- The status is 143 because a sequence in Table D contains itself.
abbrev pub IsCycleStatus : List Sequence → ℤ → Type 0
IsCycleStatus table status = (status ≡ pos 143) × ((fxy : ℕ) × IsFirstCycle table fxy)

-- The status is the number of the given table fault plus `more`, or 73 if memory ran out.
abbrev pub IsTableStatus : (more : ℕ) → TableFault → ℤ → Type 0
IsTableStatus more fault status =
    (status ≡ pos (more + (table_report fault).0)) ⊎ (status ≡ pos 73)

-- The call processed all of its input (status 0), or it stopped because the next output did not fit
-- into the buffers (status 74).
abbrev pub HasRun : ℤ → Type 0
HasRun status = (status ≡ pos 0) ⊎ (status ≡ pos 74)

-- Both tables can be read, and they satisfy `Holds`.
pub record HoldsBy (table_b table_d : List ℕ) (Holds : List Row → List Sequence → Type 0)
    : Type 0 where
  pub b : List Row
  pub d : List Sequence
  pub is_b : table_b_of (records_of table_b) ≡ Ok b
  pub is_d : table_d_of (records_of table_d) ≡ Ok d
  pub holds : Holds b d

-- Either both tables can be read and satisfy `Holds`, or the status is neither 0 nor 74 and
-- `Otherwise` is true.
abbrev pub ByTables : (table_b table_d : List ℕ) → (status : ℤ)
    → (List Row → List Sequence → Type 0) → Type 0 → Type 0
ByTables table_b table_d status Holds Otherwise =
    HoldsBy table_b table_d Holds ⊎ ((¬ HasRun status) × Otherwise)

-- The status is a possible result of a call that reads tables. If a table is invalid, the status is
-- the number of its fault (plus 100 for Table D), or 73 if memory ran out.
pub record CallStatus (table_b table_d : List ℕ) (status : ℤ) : Type 0 where
  pub read : IfOk (table_b_of (records_of table_b)) (λ _.
      IfOk (table_d_of (records_of table_d)) (λ d. IsRunStatus status ⊎ IsCycleStatus d status))
  pub no_table_b : IfErr (table_b_of (records_of table_b)) (λ fault. IsTableStatus 0 fault status)
  pub no_table_d : IfOk (table_b_of (records_of table_b)) (λ _.
      IfErr (table_d_of (records_of table_d)) (λ fault. IsTableStatus 100 fault status))

-- The output for the text from offset `from` onward was written, or nothing was written because the
-- output did not fit into the buffers.
pub record Encodes (pieces : List Piece) (octets : List ℕ) (from : ℕ) (output errors : List ℕ)
    (texts : Texts) (output' errors' : List ℕ) (status : ℤ) : Type 0 where
  pub ran : HasRun status
  pub done : status ≡ pos 0 → Leaves output' errors' texts pieces × (texts.at ≡ length octets)
  pub stops : status ≡ pos 74
      → LacksRoom output' errors' texts (flat_map output_of pieces) (flat_map errors_of pieces)
      × WritesNone from output errors texts output' errors'
