-- How documents are read, and the faults in their lines (our choice).
-- Cited by public contracts.
use Rattle.std.specs.Prelude.{ℕ, ◌≡◌, ◌+◌, ◌==◌, Bool, true, false, not, List, [], ◌∷◌, ◌++◌, length, ◌⊎◌, ◌-◌, ◌*◌, ◌<◌, ◌≤◌, if◌then◌else◌, take, Option, Some, None, Result, Ok, Err, codes}
use Rattle.bufr_frame.specs.Prelude.{run_report, max_reads, read_failures_after}
use Rattle.bufr_text.specs.declared.fault.ReadFault.{ReadFault}
use Rattle.bufr_text.specs.declared.fault.ReadFault.TheVariants.{Line, Run}
use Rattle.std.specs.List.{list_all, AllByRecursion}
use Rattle.bufr_text.specs.declared.fault.TextLineFault.{TextLineFault}
use Rattle.bufr_text.specs.declared.fault.TextLineFault.TheVariants.{NotAllowed, SubsetCount, HeaderRange}
use Rattle.bufr_text.specs.Documents.{max_line, Parsing, between, ParseResult, read_line, parse_lines, parse_open_lines, lines_of, split_of, Document, Complete, Refused, adds}
use Rattle.bufr_text.specs.Dump.{text_of_lines}
use Rattle.bufr_text.specs.Line.{EndLine}
use Rattle.std.specs.Io.KnownBytes.{Consumes, IsAtEnd}
use Rattle.bufr_frame.specs.declared.fault.RunFault.TheVariants.{Read, Write, InputTooLong, Memory}

-- ---- Faults in the lines of a document, and their numbers (our choice).

-- The number and the description of a fault in a line. Fault 50 means that a line is invalid or not
-- allowed at its position. Fault 57 means that a `subset` line has the wrong number, or that an
-- `end` line comes before the last subset. Fault 61 means that a header value is out of range.
abbrev pub line_report : TextLineFault → ℕ × List (List ℕ)
line_report NotAllowed = (50, codes "line" ∷ [])
line_report SubsetCount = (57, codes "subset count" ∷ [])
line_report HeaderRange = (61, codes "header range" ∷ [])

abbrev pub number_of_read_fault : ReadFault → ℕ
number_of_read_fault (Line line fault) = (line_report fault).0
number_of_read_fault (Run fault) = (run_report fault).0

-- ---- How documents are read from input that arrives in parts (our choice).

-- whether none of the octets is a line feed
abbrev pub has_no_feed : List ℕ → Bool
has_no_feed octets = list_all (λ c. not (c == 10)) octets

-- a reader's position in the input (the number of the next line, the parser's state, the document
-- so far, the buffered octets, and whether the end of the input has been reached)
pub record ReaderPosition : Type 0 where
  pub at : ℕ
  pub parsing : Parsing
  pub held : List ℕ
  pub ended : Bool

-- the results of parsing the buffered octets and the octets t, after which the input ends
abbrev pub parse : ReaderPosition → List ℕ → List ParseResult
parse s t = parse_lines s.at s.parsing (lines_of (s.held ++ t))

-- the results of parsing the buffered octets and the octets t, after which more input may follow
abbrev pub parse_open : ReaderPosition → List ℕ → List ParseResult
parse_open s t =
    parse_open_lines s.at s.parsing (split_of (s.held ++ t)).whole (split_of (s.held ++ t)).rest

-- Parsing any remaining input from the old position yields the given results, followed by the
-- results of parsing it from the new position. At the end of the input, no input remains to be
-- read.
pub record ContinuesParse (old new : ReaderPosition) (results : List ParseResult) : Type 0 where
  pub whole : (t : List ℕ) → (new.ended ≡ true → t ≡ []) → parse old t ≡ results ++ parse new t
  pub openly : new.ended ≡ false → (t : List ℕ) → parse_open old t ≡ results ++ parse_open new t

-- Complete lines were processed. `held` consists of the processed lines, with their line feeds,
-- followed by `rest`.
pub record TakesWholeLines (at : ℕ) (held : List ℕ) (at' : ℕ) (rest : List ℕ) : Type 0 where
  pub lines : List (List ℕ)
  pub single : AllByRecursion (λ line. has_no_feed line ≡ true) lines
  pub counted : at' ≡ at + length lines
  pub octets : held ≡ text_of_lines lines ++ rest

-- Complete lines were processed. The last of them is an `end` line, and `rest` follows it.
pub record TakesEndLine (at : ℕ) (held : List ℕ) (at' : ℕ) (rest : List ℕ) : Type 0 where
  -- the line number of the `end` line
  pub line : ℕ
  pub last : List ℕ
  pub prefix : TakesWholeLines at held line (last ++ 10 ∷ rest)
  pub single : has_no_feed last ≡ true
  pub closes : read_line last ≡ EndLine
  pub counted : at' ≡ line + 1

-- the model of a document reader
pub record ReaderModel : Type 0 where
  -- the number of the next line
  pub at : ℕ
  -- the state of the parser, and the part of the document that it has read
  pub parsing : Parsing
  -- the buffered octets, which have been read but not yet processed
  pub held : List ℕ
  -- whether the end of the input has been reached
  pub ended : Bool
  -- the fault that stopped the reader, if any
  pub fault : Option ReadFault
  -- the number of reads so far
  pub reads : ℕ
  -- the capacity of the buffer, in octets
  pub room : ℕ
  -- the free space after the buffered octets, in octets
  pub free : ℕ

-- a reader that has not read anything yet
abbrev pub new_reader : ReaderModel
new_reader =
    record {
      at = 1;
      parsing = between;
      held = [];
      ended = false;
      fault = None;
      reads = 0;
      room = 0;
      free = 0;
    }

abbrev pub position_of : ReaderModel → ReaderPosition
position_of s = record { at = s.at; parsing = s.parsing; held = s.held; ended = s.ended }

-- a reader's position after the given octets are appended to its buffer
abbrev pub position_after : ReaderModel → List ℕ → ReaderPosition
position_after s bs =
    record { at = s.at; parsing = s.parsing; held = s.held ++ bs; ended = s.ended }

-- the document or line fault, if any, that a call reports
abbrev pub parse_results : Result (Option Document) ReadFault → List ParseResult
parse_results (Ok (Some document)) = Complete document ∷ []
parse_results (Err (Line line fault)) = Refused line fault ∷ []
parse_results result = []

-- `feed` is either empty or a line feed that was added because the input ended without one.
abbrev pub IsMissingFeed : (ended ended' : Bool) → List ℕ → Type 0
IsMissingFeed ended ended' feed =
    (feed ≡ []) ⊎ ((ended ≡ false) × (ended' ≡ true) × (feed ≡ 10 ∷ []))

-- The buffered octets that were read from the input. After the end of the input, the last buffered
-- octet is left out because it is the line feed that was added.
abbrev pub unfed : ReaderModel → List ℕ
unfed s = if s.ended then take (length s.held - 1) s.held else s.held

-- No octet of the input was lost. Every octet that was buffered before the call or read during it
-- has been processed or is still buffered.
abbrev pub KeepsUnread : (old new : ReaderModel) → List ℕ → Type 0
KeepsUnread old new bs = (taken : List ℕ) × (unfed old ++ bs ≡ taken ++ unfed new)

-- Octets were read and appended to the buffer. Parsing everything in the buffer yields the given
-- results, followed by the results of parsing the octets that are still buffered. Only complete
-- lines were processed.
pub record ReadsLines (left left' : Option (List ℕ)) (old new : ReaderModel)
    (results : List ParseResult) (bs : List ℕ) : Type 0 where
  pub read : Consumes left left' bs
  pub order : old.reads ≤ new.reads
  pub few : length bs ≤ max_line * (new.reads - old.reads)
  pub goes : ContinuesParse (position_after old bs) (position_of new) results
  pub lines : (feed : List ℕ) × IsMissingFeed old.ended new.ended feed
      × TakesWholeLines old.at ((old.held ++ bs) ++ feed) new.at new.held
  -- If the end of the input has just been reached and no line feed was missing, nothing is
  -- buffered.
  pub fed : old.ended ≡ false → new.ended ≡ true → lines.0 ≡ [] → new.held ≡ []
  pub kept : old.ended ≡ true → (new.ended ≡ true) × (bs ≡ []) × (new.reads ≡ old.reads)
  pub end : (old.ended ≡ true → IsAtEnd left) → new.ended ≡ true → IsAtEnd left'

-- The last processed line is an `end` line, and the buffer contains exactly the octets after it.
abbrev pub EndsAtEndLine : (old new : ReaderModel) → List ℕ → Type 0
EndsAtEndLine old new bs = (feed : List ℕ) × IsMissingFeed old.ended new.ended feed
    × TakesEndLine old.at ((old.held ++ bs) ++ feed) new.at new.held

-- Before the last read, all complete lines had been processed without yielding a document or a
-- fault, and the incomplete line had at most 4,096 octets. The read returned at most 4,096 octets.
pub record ReadsOnlyIfNoLine (left : Option (List ℕ)) (old : ReaderModel) (reads : ℕ)
    (bs : List ℕ) : Type 0 where
  pub before : List ℕ
  pub last : List ℕ
  pub octets : bs ≡ before ++ last
  pub few : length last ≤ max_line
  pub none : parse_open (position_after old before) [] ≡ []
  -- the remaining input and the reader before the last read
  pub between : Option (List ℕ)
  pub mid : ReaderModel
  pub taken : ReadsLines left between old mid [] before
  pub going : mid.ended ≡ false
  pub clean : has_no_feed mid.held ≡ true
  pub short : length mid.held ≤ max_line
  pub made : reads ≡ mid.reads + 1

-- The end of the input has not been reached, no complete line is buffered, and parsing the buffered
-- octets gives no result.
abbrev pub HasNoWholeLine : ReaderModel → Type 0
HasNoWholeLine s =
    (s.ended ≡ false) × (parse_open (position_of s) [] ≡ []) × (has_no_feed s.held ≡ true)

-- The end of the input has been reached, nothing is buffered, and there are no further results.
abbrev pub HasNoMoreLines : ReaderModel → Type 0
HasNoMoreLines s = (s.ended ≡ true) × (s.held ≡ []) × (parse (position_of s) [] ≡ [])

-- The reader can be in state `new` after a call with the given result. `None` is returned only if
-- no lines remain, and `InputTooLong` only after 2^32 reads. Memory can run out only if there has
-- been no read yet or a complete line is buffered.
abbrev pub LeavesReader : ReaderModel → Result (Option Document) ReadFault → Type 0
LeavesReader new (Ok None) = (new.fault ≡ None) × HasNoMoreLines new
LeavesReader new (Ok (Some document)) = new.fault ≡ None
LeavesReader new (Err (Run Read)) = (new.fault ≡ Some (Run Read)) × HasNoWholeLine new
LeavesReader new (Err (Run Write)) = ⊥
LeavesReader new (Err (Run InputTooLong)) =
    (new.fault ≡ Some (Run InputTooLong)) × HasNoWholeLine new × (new.reads ≡ max_reads)
LeavesReader new (Err (Run Memory)) =
    (new.fault ≡ Some (Run Memory)) × ((has_no_feed new.held ≡ false) ⊎ (new.reads ≡ 0))
LeavesReader new (Err (Line line fault)) = new.fault ≡ Some (Line line fault)

-- The buffer contains the whole next line, and processing this line extends the document.
pub record AddsNext (s : ReaderModel) : Type 0 where
  pub line : List ℕ
  pub rest : List ℕ
  pub held : s.held ≡ line ++ 10 ∷ rest
  pub single : has_no_feed line ≡ true
  pub adds_to : adds s.parsing.0 (read_line line) ≡ true

-- A call read the given octets and returned the given result. If memory ran out, no document or
-- line fault was reported, and the content of the buffer is not specified. Memory cannot run out if
-- the call begins at the end of the input with an empty buffer. After the first read, memory can
-- run out only at a line that extends the document.
abbrev pub ReadsDocument : (left left' : Option (List ℕ)) → (old new : ReaderModel)
    → Result (Option Document) ReadFault → List ℕ → Type 0
ReadsDocument left left' old new (Ok (Some document)) bs =
    ReadsLines left left' old new (parse_results (Ok (Some document))) bs × EndsAtEndLine old new bs
ReadsDocument left left' old new (Err (Run Write)) bs = ⊥
ReadsDocument left left' old new (Err (Run Memory)) bs =
    Consumes left left' bs × (length bs ≤ max_line * (new.reads - old.reads))
    × (old.ended ≡ true → 0 < length old.held)
    × ((new.reads ≡ 0) ⊎ ((mid : ReaderModel) × ReadsLines left left' old mid [] bs × AddsNext mid))
ReadsDocument left left' old new result bs = ReadsLines left left' old new (parse_results result) bs

-- A call returned the next document, or the reason why there is none.
pub record ReturnsNextDocument (left left' : Option (List ℕ)) (old new : ReaderModel)
    (result : Result (Option Document) ReadFault) : Type 0 where
  pub octets : List ℕ
  pub reads : ReadsDocument left left' old new result octets
  pub keeps : KeepsUnread old new octets
  pub waits : (new.reads ≡ old.reads) ⊎ ReadsOnlyIfNoLine left old new.reads octets
  -- `InputTooLong` is returned only if every read returned at least one octet.
  pub each : result ≡ Err (Run InputTooLong) → new.reads ≤ old.reads + length octets
  pub ends : LeavesReader new result

-- Another read is needed because no complete line is buffered and no result has been found.
pub record NeedsLine (old new : ReaderModel) : Type 0 where
  pub passes : (left : Option (List ℕ)) → ReadsLines left left old new [] []
  pub none : has_no_feed new.held ≡ true
  pub short : length new.held ≤ max_line
  pub going : new.ended ≡ false
  pub sound : new.fault ≡ None

-- If the buffered lines yield a result, the call returns it, regardless of what it has already
-- read. `None` means that another read is needed.
abbrev pub GivesHeldDocument : (old new : ReaderModel)
    → Option (Result (Option Document) ReadFault) → Type 0
GivesHeldDocument old new (Some next) =
    (left mid : Option (List ℕ)) (first : ReaderModel) (bs : List ℕ)
    → ReadsLines left mid first old [] bs
    → (old.reads ≡ first.reads) ⊎ ReadsOnlyIfNoLine left first old.reads bs
    → ReturnsNextDocument left mid first new next
GivesHeldDocument old new None = NeedsLine old new

-- the number of failed reads after a call with the given result; only `Run Read` increases it
abbrev pub failures_by : {X : Type 0} → ℕ → Result X ReadFault → ℕ
failures_by count (Err (Run fault)) = read_failures_after {X = Unit {0}} count (Err fault)
failures_by count result = count
