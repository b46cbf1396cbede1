-- Only contracts need this file. How a document is stored while it is read, and how buffered lines
-- are processed.
use Rattle.std.specs.Prelude.{◌≡◌, ◌≤◌, length, take, ◌<◌, ◌+◌, ◌==◌, ℕ, true, false, [], List, ◌∷◌, ◌++◌, drop, Bool, Option, None, Some, ◌⊎◌, ◌*◌, ◌-◌, Result, Ok, Err}
use Rattle.bufr_text.specs.declared.document.DocumentParts.TheInside.{Inside}
use Rattle.std.specs.List.{AllByRecursion}
use Rattle.bufr_fill.specs.Prelude.{HasOctets, DraftEntry, Holds, Ends, subsets_of, form_in}
use Rattle.bufr_text.specs.declared.document.ParserState.{ParserState}
use Rattle.bufr_text.specs.declared.document.ParserState.TheVariants.{Between, Heading, BeforeSubsets, Filling, Stopped}
use Rattle.bufr_text.specs.declared.document.LineEffect.{LineEffect}
use Rattle.bufr_text.specs.declared.document.LineEffect.TheVariants.{Continues, Completes, Refuses}
use Rattle.bufr_text.specs.Documents.{header_in, max_line, are_in_range, IsHeaded, adds, read_line, Document, Parsing, LineStep, parsing_after, reported_at, blank, ParseResult, Complete, Refused}
use Rattle.bufr_text.specs.Dump.{IsOctet, IsDescriptorWord}
use Rattle.bufr_text.specs.Spelling.{IsProper}
use Rattle.bufr_text.specs.declared.line.ParsedLine.{ParsedLine}
use Rattle.bufr_text.specs.Reader.{has_no_feed, ReaderPosition, ContinuesParse, TakesWholeLines, TakesEndLine, ReaderModel, position_of, AddsNext}
use Rattle.bufr_text.specs.declared.document.Progress.{Progress}
use Rattle.bufr_frame.specs.Prelude.{max_reads, InputModel, FillsInput}
use Rattle.bufr_frame.specs.declared.fault.RunFault.{RunFault}
use Rattle.bufr_frame.specs.declared.fault.RunFault.TheVariants.{Memory}
use Rattle.bufr_text.specs.declared.fault.ReadFault.{ReadFault}
use Rattle.bufr_text.specs.declared.fault.ReadFault.TheVariants.{Line, Run}
use Rattle.bufr_text.specs.Line as line
use Rattle.bufr_text.specs.declared.line.ParsedLine.TheVariants as said

abbrev pub document_model : Inside → Document
document_model d = record {
  line = d.line;
  header = take d.known d.header;
  local1 = d.local1.items;
  section2 = d.section2.items;
  descriptors = d.descriptors.items;
  entries = d.entries;
}

-- ---- The effect of a line.

-- the model of a parsed line
abbrev pub meaning : ParsedLine → line.Line
meaning said.Skipped = line.Skipped
meaning said.Message = line.MessageLine
meaning (said.Header key value) = line.Header key value
meaning (said.Local1 octets) = line.Local1 octets.now
meaning (said.Section2 octets) = line.Section2 octets.now
meaning (said.Descriptors words) = line.Descriptors words.now
meaning (said.Subset subset) = line.SubsetLine subset
meaning (said.Item fxy form) = line.ItemLine fxy (form_in form)
meaning said.End = line.EndLine
meaning said.Invalid = line.Invalid

-- At most the header of the document has been read.
pub record IsBare (d : Document) : Type 0 where
  pub local1 : d.local1 ≡ []
  pub section2 : d.section2 ≡ []
  pub descriptors : d.descriptors ≡ []
  pub entries : d.entries ≡ []

-- The octets and descriptors before the subsets are valid. Section 2 octets are present only if the
-- header declares a section 2.
pub record HasLineGroups (d : Document) : Type 0 where
  pub local1 : AllByRecursion IsOctet d.local1
  pub section2 : AllByRecursion IsOctet d.section2
  pub no_section2 : (header_in d).optional ≡ false → d.section2 ≡ []
  pub descriptors : AllByRecursion IsDescriptorWord d.descriptors

-- If the entry's value is a string, each octet of the string is less than 256.
abbrev pub EntryHasOctets : DraftEntry → Type 0
EntryHasOctets (Holds item) = HasOctets item.form
EntryHasOctets (Ends line) = Unit {0}

-- The document has `ended` complete subsets, and its strings are valid.
pub record HasSubsets (ended : ℕ) (d : Document) : Type 0 where
  pub texts : AllByRecursion EntryHasOctets d.entries
  pub counted : length (subsets_of d.entries) ≡ ended

-- The given state and document are possible before line `at` is parsed. Between documents, the
-- document is blank. The header is incomplete while the header lines are being read, and complete
-- afterwards. The number of the current subset is less than 65,536 and is one more than the number
-- of complete subsets. The number of entries is less than `at` because each entry has its own line.
-- After a fault, no more lines are processed.
abbrev pub IsParsing : (at : ℕ) → Parsing → Type 0
IsParsing at (Between, d) = d ≡ blank 0
IsParsing at (Heading, d) = (length d.header < 20)
    × (are_in_range (header_in d).head.edition 0 d.header ≡ true) × (length d.entries < at)
    × IsBare d
IsParsing at (BeforeSubsets part, d) =
    IsHeaded d × (length d.entries < at) × HasLineGroups d × (d.entries ≡ [])
IsParsing at (Filling subset, d) =
    IsHeaded d × (length d.entries < at) × (subset < 65536) × HasLineGroups d
    × ((ended : ℕ) × (subset ≡ ended + 1) × HasSubsets ended d)
IsParsing at (Stopped, d) = ⊥

-- The given effect is possible for line `at` - 1. A completed document is valid and has fewer than
-- `at` entries.
abbrev pub IsLineStep : (at : ℕ) → LineStep → Type 0
IsLineStep at (Continues state, d) = IsParsing at (state, d)
IsLineStep at (Completes, d) = IsProper d × (length d.entries < at)
IsLineStep at (Refuses fault, d) = Unit {0}

-- ---- How buffered lines are processed.

abbrev pub parsing_of : Progress → Parsing
parsing_of progress = (progress.state, progress.parts)

abbrev pub position_with : (at : ℕ) → Parsing → List ℕ → Bool → ReaderPosition
position_with at parsing held ended =
    record { at = at; parsing = parsing; held = held; ended = ended }

-- The buffered lines before `offset` were processed, and the last one had the given effect.
pub record TakesLines (old new : Progress) (held : List ℕ) (offset : ℕ)
    (effect : LineEffect) : Type 0 where
  pub goes : (ended : Bool) → ContinuesParse (position_with old.at (parsing_of old) held ended)
      (position_with new.at (parsing_after (effect, new.parts)) (drop offset held) ended)
      (reported_at (new.at - 1) (effect, new.parts))
  pub all : (state : ParserState) → effect ≡ Continues state
      → (state ≡ new.state) × (has_no_feed (drop offset held) ≡ true)
  pub within : offset ≤ length held
  pub holds : IsLineStep new.at (effect, new.parts)
  pub some : 0 < new.at
  pub near : new.at ≤ old.at + offset
  pub passes : TakesWholeLines old.at held new.at (drop offset held)
  pub closes : effect ≡ Completes → TakesEndLine old.at held new.at (drop offset held)

-- The buffered lines before `offset` were processed, and none completed a document or contained a
-- fault.
pub record IsTaking (old new : Progress) (held : List ℕ) (offset : ℕ) : Type 0 where
  pub goes : (ended : Bool) → ContinuesParse (position_with old.at (parsing_of old) held ended)
      (position_with new.at (parsing_of new) (drop offset held) ended) []
  pub within : offset ≤ length held
  pub holds : IsParsing new.at (parsing_of new)
  pub some : 0 < new.at
  pub near : new.at ≤ old.at + offset
  pub passes : TakesWholeLines old.at held new.at (drop offset held)

-- Buffered lines were processed, and none completed a document or contained a fault. The buffer
-- contains the whole next line, and processing this line extends the document.
pub record WantsAt (old : Progress) (held : List ℕ) : Type 0 where
  pub progress : Progress
  pub offset : ℕ
  pub taking : IsTaking old progress held offset
  pub line : List ℕ
  pub rest : List ℕ
  pub holds : drop offset held ≡ line ++ 10 ∷ rest
  pub single : has_no_feed line ≡ true
  pub adds_to : adds progress.state (read_line line) ≡ true

-- ---- The state of a reader, and the results of processing lines and reading octets.

-- whether the list of octets is empty or ends with a line feed
abbrev pub ends_by_feed : List ℕ → Bool
ends_by_feed [] = true
ends_by_feed (c ∷ []) = c == 10
ends_by_feed (c ∷ d ∷ more) = ends_by_feed (d ∷ more)

-- The given progress is possible for a reader without a fault. The number of reads limits the line
-- number because each line has at least one octet.
pub record IsProgress (progress : Progress) (held reads : ℕ) : Type 0 where
  pub holds : IsParsing progress.at (parsing_of progress)
  pub some : 0 < progress.at
  pub near : progress.at + held ≤ max_line * reads + 1

-- A reader buffers at most 8,192 octets. At the end of the input, the last buffered line ends with
-- a line feed. The buffer is allocated at the first read.
abbrev pub IsReader : Option ReadFault → Progress → InputModel → Type 0
IsReader fault progress input = (length input.held ≤ 2 * max_line) × (input.reads ≤ max_reads)
    × (input.ended ≡ true → ends_by_feed input.held ≡ true)
    × (fault ≡ None → IsProgress progress (length input.held) input.reads)
    × (0 < input.reads → 2 * max_line ≤ input.room)

-- Processing buffered lines produced the given results.
pub record ParsesHeldLines (old new : ReaderModel) (results : List ParseResult) : Type 0 where
  pub goes : ContinuesParse (position_of old) (position_of new) results
  pub passes : TakesWholeLines old.at old.held new.at new.held

-- Processing buffered lines produced no result, and processing the next one extends the document.
pub record WantsHere (old : ReaderModel) : Type 0 where
  pub mid : ReaderModel
  pub taken : ParsesHeldLines old mid []
  pub ended : mid.ended ≡ old.ended
  pub reads : mid.reads ≡ old.reads
  pub next : AddsNext mid

-- Processing the buffered lines produced the given result.
abbrev pub TakesHeldLines : ReaderModel → ReaderModel → Result (Option Document) ReadFault → Type 0
TakesHeldLines old new (Ok None) = ParsesHeldLines old new [] × (new.fault ≡ None)
    × (has_no_feed new.held ≡ true)
TakesHeldLines old new (Ok (Some document)) =
    ParsesHeldLines old new (Complete document ∷ []) × (new.fault ≡ None)
    × TakesEndLine old.at old.held new.at new.held
TakesHeldLines old new (Err (Run Memory)) =
    (new.fault ≡ Some (Run Memory)) × (has_no_feed old.held ≡ false)
    × (new.held ≡ old.held) × WantsHere old
TakesHeldLines old new (Err (Run fault)) = ⊥
TakesHeldLines old new (Err (Line line fault)) =
    ParsesHeldLines old new (Refused line fault ∷ []) × (new.fault ≡ Some (Line line fault))

-- a reader's input buffer with the given octets; its capacity and the gap before the octets are set
-- to 0 because neither matters here
abbrev pub text_input : ReaderModel → List ℕ → InputModel
text_input s held =
    record { held = held; ended = s.ended; reads = s.reads; room = 0; free = s.free; gap = 0 }

-- One read appended octets to the buffer or, at the end of the input, the line feed that the last
-- line lacked. Memory can run out only before the first read.
pub record ReadsMoreText (left left' : Option (List ℕ)) (old new : ReaderModel)
    (result : Result (Unit {0}) RunFault) (bs : List ℕ) : Type 0 where
  pub fills : FillsInput left left' (text_input old old.held) (text_input new (old.held ++ bs))
      (old.reads ≡ 0) result bs
  pub few : length bs ≤ max_line
  pub feed : List ℕ
  pub missing : (feed ≡ []) ⊎ ((new.ended ≡ true) × (feed ≡ 10 ∷ []) × (0 < length old.held))
  pub fed : new.ended ≡ true → feed ≡ [] → old.held ≡ []
  pub held : new.held ≡ (old.held ++ bs) ++ feed
  pub at : new.at ≡ old.at
  pub parsing : new.parsing ≡ old.parsing
  pub fault : new.fault ≡ None

-- a reader that was stopped by a fault; a fault in a line also stops the parser
abbrev pub stopped : ReaderModel → ReadFault → ReaderModel
stopped s (Run fault) = record s { fault = Some (Run fault) }
stopped s (Line line fault) =
    record s { fault = Some (Line line fault); parsing = (Stopped, s.parsing.1) }

-- One read was made, or a fault occurred. After a fault, the reader stopped.
abbrev pub FillsBuffer : (left left' : Option (List ℕ)) → ReaderModel → ReaderModel
    → Result (Unit {0}) ReadFault → List ℕ → Type 0
FillsBuffer left left' old new (Ok u) bs = ReadsMoreText left left' old new (Ok u) bs
    × (length old.held ≤ max_line)
FillsBuffer left left' old new (Err (Run fault)) bs =
    (s : ReaderModel) × ReadsMoreText left left' old s (Err fault) bs
    × (new ≡ stopped s (Run fault)) × (length old.held ≤ max_line)
FillsBuffer left left' old new (Err (Line line fault)) bs = ⊥
