-- Only contracts need this file. Defines the steps of a run, each of which either writes a piece or
-- reads octets (not part of FM 94 BUFR).
use Rattle.std.specs.Prelude.{ℕ, Bool, true, false, ◌≡◌, ◌≢◌, ◌+◌, ◌<◌, ◌≤◌, ◌^◌, max, List, [], ◌∷◌, ◌++◌, length, map, count_by, option_to_list, Option, None, Result, Ok, Err}
use Rattle.std.specs.Io.KnownBytes.{Consumes, IsAtEnd}
use Rattle.bufr_frame.specs.declared.fault.RunFault.{RunFault}
use Rattle.bufr_frame.specs.declared.fault.RunFault.TheVariants.{Read, Write, InputTooLong, Memory}
use Rattle.bufr_frame.specs.Prelude.{max_reads, MakesReads, StreamEvent, FinderModel, ReadsAndPasses, new_finder, NoEventCertain}
use Rattle.bufr_tables.specs.Prelude.{Row, Sequence}
use Rattle.bufr_text.specs.Prelude.{ParseResult, ReaderModel, ReadsLines, new_reader, has_no_feed}
use Rattle.bufr_text.specs.declared.encode.Form.{Form}
use Rattle.bufr_cli.specs.Pieces.{Piece, is_accepted, is_refused, result_piece}
use Rattle.bufr_cli.specs.Running.{Writers, WritesPieces, WritesPrefixes, RunPieces, read_pieces, document_pieces, IsUnrefused, ReadsAtMost}
use Rattle.bufr_cli.specs.declared.outcome.Tally.{Tally}
use Rattle.bufr_cli.specs.declared.outcome.Verdict.{Verdict}
use Rattle.bufr_cli.specs.declared.outcome.Verdict.TheVariants.{Accepted, Refused}
use Rattle.bufr_cli.specs.declared.run_pieces.RunStep.{RunStep}
use Rattle.bufr_cli.specs.declared.run_pieces.RunStep.TheVariants as step

-- the number (0 or 1) that a verdict adds to the count of accepted pieces; `counted_refused`
-- (below) returns the number for rejected pieces
abbrev pub counted_accepted : Verdict → ℕ
counted_accepted Accepted = 1
counted_accepted Refused = 0

abbrev pub counted_refused : Verdict → ℕ
counted_refused Accepted = 0
counted_refused Refused = 1

-- the tally after one more piece has been counted
abbrev pub tally_after : Tally → Verdict → Tally
tally_after tally verdict =
    record {
      accepted = tally.accepted + counted_accepted verdict;
      refused = tally.refused + counted_refused verdict;
    }

-- The writer that does not receive the piece is unchanged.
abbrev pub LeavesOther : (before after : Writers) → Verdict → Type 0
LeavesOther before after Accepted = after.errors ≡ before.errors
LeavesOther before after Refused = after.output ≡ before.output

-- The piece was written and counted, or a fault occurred after a prefix of it had been written.
abbrev pub LeavesPiece : (before after : Writers) → Piece → Result Verdict RunFault → Type 0
LeavesPiece before after piece (Ok verdict) =
    WritesPieces before after (piece ∷ [])
    × (counted_accepted verdict ≡ count_by is_accepted (piece ∷ []))
    × (counted_refused verdict ≡ count_by is_refused (piece ∷ []))
    × LeavesOther before after verdict
LeavesPiece before after piece (Err fault) = WritesPrefixes before after (piece ∷ [])

-- If a piece cannot be written, the fault is `Write` or, if writing may allocate memory, `Memory`.
abbrev pub StopsPiece : {X : Type 0} → (takes_memory : Bool) → Result X RunFault → Type 0
StopsPiece takes_memory (Err Read) = ⊥
StopsPiece takes_memory (Err InputTooLong) = ⊥
StopsPiece takes_memory (Err Memory) = takes_memory ≡ true
StopsPiece takes_memory result = Unit {0}

-- At most 2^32 reads were made, and fewer than that if memory ran out (unless writing a piece may
-- also allocate memory).
abbrev pub RunReads : {X : Type 0} → (takes_memory : Bool) → (reads reads' : ℕ)
    → Result X RunFault → Type 0
RunReads false reads reads' result = MakesReads reads reads' result
RunReads true reads reads' result = ReadsAtMost reads reads' result

-- the whole input of a run, its unread part, the octets read so far, and the pieces written so far
pub record Progress : Type 0 where
  pub from : Option (List ℕ)
  pub left : Option (List ℕ)
  pub octets : List ℕ
  pub pieces : List Piece

-- the progress of a run that has not read or written anything yet
abbrev pub no_progress : Option (List ℕ) → Progress
no_progress left = record { from = left; left = left; octets = []; pieces = [] }

-- the progress after one more piece has been written
abbrev pub with_piece : Progress → Piece → Progress
with_piece p piece =
    record { from = p.from; left = p.left; octets = p.octets; pieces = p.pieces ++ piece ∷ [] }

-- the progress after more octets have been read; `left` is the remaining input
abbrev pub with_octets : Progress → List ℕ → (left : Option (List ℕ)) → Progress
with_octets p bs left =
    record { from = p.from; left = left; octets = p.octets ++ bs; pieces = p.pieces }

-- All pieces that can be determined from the octets read so far have been written.
pub record IsOpen (pieces : RunPieces) (p : Progress) : Type 0 where
  pub read : Consumes p.from p.left p.octets
  pub certain : pieces.certain p.octets ≡ p.pieces
  pub accepted : IsUnrefused pieces p.pieces

-- No more pieces follow, because the run has reached the end of the input or a fault line has
-- stopped it.
pub record IsDone (pieces : RunPieces) (p : Progress) : Type 0 where
  pub ended : Bool
  pub read : Consumes p.from p.left p.octets
  pub at_end : ended ≡ true → IsAtEnd p.left
  pub all : pieces.stops ≡ false → ended ≡ true
  pub certain : read_pieces pieces ended p.octets ≡ p.pieces
  pub whole : (t : List ℕ) → (ended ≡ true → t ≡ []) → pieces.whole (p.octets ++ t) ≡ p.pieces

-- A prefix of the next piece was written, or memory ran out before the next piece was known.
pub record IsCut (pieces : RunPieces) (p : Progress) (before after : Writers) : Type 0 where
  pub ended : Bool
  pub read : Consumes p.from p.left p.octets
  pub at_end : ended ≡ true → IsAtEnd p.left
  pub next : Option Piece
  pub rest : List Piece
  pub parts : read_pieces pieces ended p.octets ≡ p.pieces ++ (option_to_list next ++ rest)
  pub prefix : WritesPrefixes before after (option_to_list next)
  pub accepted : IsUnrefused pieces p.pieces
  pub some : pieces.stops ≡ false → next ≢ None

-- The step wrote the next piece, requested a read, found that no pieces were left, or failed before
-- the piece was complete.
abbrev pub TakesStep : RunPieces → (reaches : Progress → Type 0) → Progress
    → (before after : Writers) → Result RunStep RunFault → Type 0
TakesStep pieces reaches p before after (Ok (step.Piece verdict)) =
    (piece : Piece) × reaches (with_piece p piece) × LeavesPiece before after piece (Ok verdict)
    × (length p.pieces + 1 < 2 ^ 63)
TakesStep pieces reaches p before after (Ok step.Read) =
    (after ≡ before) × reaches p × IsOpen pieces p
TakesStep pieces reaches p before after (Ok step.End) = (after ≡ before) × IsDone pieces p
TakesStep pieces reaches p before after (Err fault) = IsCut pieces p before after

-- Either octets were read, or a fault occurred and none were read. `InputTooLong` can occur only
-- after at least 2^32 octets have been read.
abbrev pub ReadsOctets : (reaches : Progress → Type 0) → Progress → (left : Option (List ℕ))
    → Result (Unit {0}) RunFault → Type 0
ReadsOctets reaches p left (Ok u) = (bs : List ℕ) × reaches (with_octets p bs left)
ReadsOctets reaches p left (Err fault) =
    Consumes p.left left [] × (fault ≡ InputTooLong → max_reads ≤ length p.octets)

-- A read succeeded, a read failed, 2^32 reads had already been made, or memory ran out earlier.
abbrev pub CountsRead : (before after : ℕ) → Result (Unit {0}) RunFault → Type 0
CountsRead before after (Ok u) = after ≡ before + 1
CountsRead before after (Err Read) = Unit {0}
CountsRead before after (Err Write) = ⊥
CountsRead before after (Err InputTooLong) = after ≡ max_reads
CountsRead before after (Err Memory) = after < max_reads

-- ---- The progress of a finder and of a document reader.

-- The pieces for all events found so far have been written.
pub record WritesEvents (piece : StreamEvent → Piece) (s : FinderModel) (so : Progress) : Type 0
  where
    pub events : List StreamEvent
    pub passes : ReadsAndPasses so.from so.left new_finder s so.octets events
    pub pieces : so.pieces ≡ map piece events
    pub sound : s.fault ≡ None
    pub few : length so.pieces ≤ s.at
    pub near : s.at < 2 ^ 63

-- More octets must be read before the next event can be determined.
pub record NeedsOctets (s : FinderModel) : Type 0 where
  pub sound : s.fault ≡ None
  pub going : s.ended ≡ false
  pub few : length s.rest < max 4096 s.longest
  pub none : (at : ℕ) → NoEventCertain at s.rest

-- The pieces for all documents read so far have been written, and no document was rejected. Before
-- the end of the input, each read returned at least one octet.
pub record WritesDocuments (piece : ParseResult → Piece) (s : ReaderModel) (so : Progress) : Type 0
  where
    pub results : List ParseResult
    pub reads : ReadsLines so.from so.left new_reader s results so.octets
    pub pieces : so.pieces ≡ map piece results
    pub accepted : count_by is_refused so.pieces ≡ 0
    pub sound : s.fault ≡ None
    pub most : s.reads ≤ max_reads
    pub each : s.ended ≡ false → s.reads ≤ length so.octets

-- Either the pieces for all documents read so far have been written, or the last document was
-- rejected and the run has stopped.
abbrev pub EncodesDocuments : Form → List Row → List Sequence → (last : Verdict) → ReaderModel
    → Progress → Type 0
EncodesDocuments form b d Accepted s so = WritesDocuments (result_piece form b d) s so
EncodesDocuments form b d Refused s so = IsDone (document_pieces form b d) so

-- More text must be read, because no document was rejected and no complete line is buffered.
pub record NeedsText (last : Verdict) (s : ReaderModel) : Type 0 where
  pub accepted : last ≡ Accepted
  pub sound : s.fault ≡ None
  pub going : s.ended ≡ false
  pub short : length s.held ≤ 4096
  pub none : has_no_feed s.held ≡ true
