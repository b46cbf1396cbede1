-- Only contracts need this file. Defines what stays the same when a stream is dumped, encoded and
-- dumped again (not part of FM 94 BUFR).
use Rattle.std.specs.Prelude.{◌≡◌, ℕ, ◌+◌, ◌≤◌, List, [], ◌∷◌, length, map, flat_map, count_by, Result, Ok, Err}
use Rattle.std.specs.List.{AllByRecursion, AllZip, concat, filter}
use Rattle.bufr_bits.specs.Prelude.{taken_of}
use Rattle.bufr_frame.specs.Prelude.{StreamEvent, FrameAt, StrayAt, scan, Sections}
use Rattle.bufr_tables.specs.Prelude.{Row, Sequence, Tree, tree_of, tables_of}
use Rattle.bufr_walk.specs.Prelude.{Values}
use Rattle.bufr_text.specs.Prelude.{IsCanonical, IsAccepted, HasSameReading, extra_octets, documents_of, Document, ParseResult, Complete, Refused, encoding_in, normal}
use Rattle.bufr_text.specs.declared.fault.DocumentFault.{DocumentFault}
use Rattle.bufr_text.specs.declared.encode.Form.TheVariants.{AsWritten}
use Rattle.bufr_cli.specs.Pieces.{dump_piece, Piece, OnOutput, OnErrors, output_of, errors_of, is_accepted, is_refused, encode_pieces}
use Rattle.bufr_cli.specs.Running.{Tallies}
use Rattle.bufr_cli.specs.declared.laws.RunInMemory.{RunInMemory}
use Rattle.bufr_cli.specs.declared.outcome.Tally.{Tally}
use Rattle.bufr_tables.specs.declared.fault.TemplateFault.{TemplateFault}
use Rattle.bufr_text.specs.declared.encode.Form.{Form}

-- the pieces that `dump` writes for a stream, one for each event; `dumped` (below) returns the
-- resulting output
abbrev pub dump_pieces : List Row → List Sequence → List ℕ → List Piece
dump_pieces b d s = map (dump_piece b d) (scan s)

abbrev pub dumped : List Row → List Sequence → List ℕ → List ℕ
dumped b d s = flat_map output_of (dump_pieces b d s)

-- the pieces that `encode` writes for the given text and form; `built` (below) returns the
-- resulting output
abbrev pub form_pieces : Form → List Row → List Sequence → (text : List ℕ) → List Piece
form_pieces form b d text = encode_pieces form b d (documents_of text)

abbrev pub built : Form → List Row → List Sequence → (text : List ℕ) → List ℕ
built form b d text = flat_map output_of (form_pieces form b d text)

-- the pieces that `encode` writes for the dump of a stream; `rebuilt` (below) returns the resulting
-- output
abbrev pub rebuilding : List Row → List Sequence → List ℕ → List Piece
rebuilding b d s = form_pieces AsWritten b d (dumped b d s)

abbrev pub rebuilt : List Row → List Sequence → List ℕ → List ℕ
rebuilt b d s = flat_map output_of (rebuilding b d s)

-- a list that contains the octets of a message; it is empty for a stray `BUFR`
abbrev pub event_octets : StreamEvent → List (List ℕ)
event_octets (FrameAt offset octets) = octets ∷ []
event_octets (StrayAt offset cause) = []

-- a list that contains the octets of an accepted message; it is empty for any other event
abbrev pub accepted_in : StreamEvent → Piece → List (List ℕ)
accepted_in here (OnOutput text) = event_octets here
accepted_in here (OnErrors text) = []

-- the accepted messages in a stream, in order
abbrev pub accepted_messages : List Row → List Sequence → List ℕ → List (List ℕ)
accepted_messages b d s = flat_map (λ here. accepted_in here (dump_piece b d here)) (scan s)

-- the maximum number of octets that re-encoding adds to the given messages, which is two for each
-- edition 3 message whose section 3 or 4 has an odd length
-- rule: encode-may-grow
abbrev pub longer_by : List (List ℕ) → ℕ
longer_by [] = 0
longer_by (m ∷ ms) = extra_octets m + longer_by ms

-- The message m is accepted, and reading `written` gives the same result as reading m. `written` is
-- no longer than m, except that in edition 3, up to two octets may be added to make the lengths of
-- sections 3 and 4 even.
pub record IsBuiltAgain (b : List Row) (d : List Sequence) (m written : List ℕ) : Type 0 where
  pub sections : Sections
  pub template : Tree
  pub values : Values
  pub used : ℕ
  pub accepted : IsAccepted b d m sections template values used
  pub same : HasSameReading b m sections template values written

-- If the message is accepted, it is canonical.
abbrev pub IsCanonicalMessage : List Row → List Sequence → List ℕ → Type 0
IsCanonicalMessage b d m =
    (sections : Sections) (template : Tree) (values : Values) (used : ℕ)
    → IsAccepted b d m sections template values used → IsCanonical m sections values used

-- Encoding the dump of a stream and dumping the resulting messages gives the same dump.
pub record RoundTrips (b : List Row) (d : List Sequence) (s : List ℕ) : Type 0 where
  -- `encode` rejects nothing and writes as many messages as `dump` accepts
  pub none_refused : count_by is_refused (rebuilding b d s) ≡ 0
  pub no_line : flat_map errors_of (rebuilding b d s) ≡ []
  pub as_many : count_by is_accepted (rebuilding b d s)
      ≡ count_by is_accepted (dump_pieces b d s)
  -- The output of `encode` consists entirely of messages that `dump` accepts, and is at most
  -- `longer_by` octets longer than the stream. Reading each encoded message gives the same result
  -- as reading the original message.
  pub messages : rebuilt b d s ≡ concat (accepted_messages b d (rebuilt b d s))
  pub no_longer : length (rebuilt b d s) ≤ length s + longer_by (accepted_messages b d s)
  pub readings : AllZip (IsBuiltAgain b d) (accepted_messages b d s)
      (accepted_messages b d (rebuilt b d s))
  -- dumping the encoded messages gives the same output as dumping the original stream, octet for
  -- octet, and no fault lines
  pub same_pieces : dump_pieces b d (rebuilt b d s)
      ≡ filter is_accepted (dump_pieces b d s)
  pub same_text : dumped b d (rebuilt b d s) ≡ dumped b d s
  pub no_fault : flat_map errors_of (dump_pieces b d (rebuilt b d s)) ≡ []
  -- dumping the encoded messages and encoding the dump gives the same messages again
  pub settled : rebuilt b d (rebuilt b d s) ≡ rebuilt b d s

-- An in-memory run wrote the given pieces and counted them.
pub record RunsInMemory (ran : RunInMemory) (pieces : List Piece) : Type 0 where
  pub output : taken_of ran.output ≡ flat_map output_of pieces
  pub errors : taken_of ran.errors ≡ flat_map errors_of pieces
  pub tallies : Tallies ran.tally pieces

-- the output, the fault lines and the counts of a run
pub record Written : Type 0 where
  pub output : List ℕ
  pub errors : List ℕ
  pub tally : Tally

-- A stream was dumped, the dump was encoded, and the resulting messages were dumped. The two dumps
-- are the same, and only the first run may have rejected anything. Reading each encoded message
-- gives the same result as reading the corresponding message in the stream.
pub record IsWholeRound (b : List Row) (d : List Sequence) (stream : List ℕ)
    (text messages again : Written) : Type 0 where
  pub same_text : again.output ≡ text.output
  pub as_many : messages.tally.accepted ≡ text.tally.accepted
  pub none_refused : messages.tally.refused ≡ 0
  pub no_line : messages.errors ≡ []
  pub none_refused_again : again.tally.refused ≡ 0
  pub no_fault : again.errors ≡ []
  -- the output of `encode` consists only of messages, and reading each one gives the same result as
  -- reading the corresponding message in the stream
  pub are_messages : messages.output ≡ concat (accepted_messages b d messages.output)
  pub readings : AllZip (IsBuiltAgain b d) (accepted_messages b d stream)
      (accepted_messages b d messages.output)
  pub no_longer :
      length messages.output ≤ length stream + longer_by (accepted_messages b d stream)
  -- if the dumped messages are canonical, `encode` writes the same messages, octet for octet
  pub canonical : AllByRecursion (IsCanonicalMessage b d) (accepted_messages b d stream)
      → messages.output ≡ concat (accepted_messages b d stream)

-- the result of an in-memory run
abbrev pub written_by : RunInMemory → Written
written_by ran =
    record { output = taken_of ran.output; errors = taken_of ran.errors; tally = ran.tally }

-- ---- Encoding text and dumping the messages gives the text in its normal spelling (not part of FM
-- 94 BUFR).

-- the text of a document in its normal spelling, or nothing if its template is invalid
abbrev pub normal_by : Form → List Row → Document → Result Tree TemplateFault → List ℕ
normal_by form b document (Ok template) = normal form b template document
normal_by form b document (Err fault) = []

abbrev pub normal_text : Form → List Row → List Sequence → Document → List ℕ
normal_text form b d document =
    normal_by form b document (tree_of (tables_of b d) document.descriptors)

-- the text of a document and the texts of the documents after it, or nothing if the document is
-- rejected
abbrev pub before_refused : Result (List ℕ) DocumentFault → (text : List ℕ)
    → (more : List (List ℕ)) → List (List ℕ)
before_refused (Ok octets) text more = text ∷ more
before_refused (Err refused) text more = []

-- the normal spelling of each document before the first rejected document or line
unfoldable pub normal_texts : Form → List Row → List Sequence → List ParseResult → List (List ℕ)
normal_texts form b d [] = []
normal_texts form b d (Complete document ∷ more) =
    before_refused (encoding_in form b d document) (normal_text form b d document)
    (normal_texts form b d more)
normal_texts form b d (Refused line fault ∷ more) = []

-- Encoding text and dumping the messages gives the normal spelling of each document before the
-- first rejected document or line.
pub record IsDumpedInOneSpelling (form : Form) (b : List Row) (d : List Sequence)
    (text : List ℕ) : Type 0 where
  -- dumping each message gives the normal spelling of its document, and nothing is rejected
  pub pieces : dump_pieces b d (built form b d text)
      ≡ map OnOutput (normal_texts form b d (documents_of text))
  pub same_text : dumped b d (built form b d text)
      ≡ concat (normal_texts form b d (documents_of text))
  pub as_many : count_by is_accepted (dump_pieces b d (built form b d text))
      ≡ count_by is_accepted (form_pieces form b d text)
  pub none_refused : count_by is_refused (dump_pieces b d (built form b d text)) ≡ 0
  pub no_fault : flat_map errors_of (dump_pieces b d (built form b d text)) ≡ []
  -- encoding the new dump in the form that each document specifies gives the same messages again,
  -- octet for octet
  pub settled : rebuilt b d (built form b d text) ≡ built form b d text
