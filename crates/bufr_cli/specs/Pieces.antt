-- Defines the pieces of output that each command writes for an input (not part of FM 94 BUFR).
-- Cited by public contracts.
use Rattle.std.specs.Prelude.{ℕ, Bool, true, false, not, List, [], ◌∷◌, map, Result, Ok, Err}
use Rattle.std.specs.Option.{option_map_or}
use Rattle.std.specs.Result.{result_map_both}
use Rattle.bufr_bits.specs.Prelude.{◌>>=◌, map_err}
use Rattle.bufr_frame.specs.Prelude.{StreamEvent, FrameAt, StrayAt, cause_report, section_report, Sections, sections_of}
use Rattle.bufr_frame.specs.declared.fault.SectionFault.{SectionFault}
use Rattle.bufr_text.specs.Prelude.{ls_line, dump_text_of, ParseResult, Complete, Refused, encoding_in, dump_items, line_report}
use Rattle.bufr_text.specs.declared.fault.DocumentFault.{DocumentFault}
use Rattle.bufr_cli.specs.FaultLine.{fault_line, document_line, refusal_line}
use Rattle.bufr_tables.specs.Prelude.{tree_of, tables_of, template_report, Row, Sequence}
use Rattle.bufr_walk.specs.Prelude.{next_item, data_report, data_of, reading_of, fault_of, DataReading}
use Rattle.bufr_text.specs.declared.encode.Form.{Form}

-- the output for one message or document, or a fault line for the error output
pub data Piece : Type 0 where
  OnOutput : (text : List ℕ) → Piece
  OnErrors : (text : List ℕ) → Piece

-- the octets that a piece adds to the output; `errors_of` (below) returns the octets that it adds
-- to the error output
abbrev pub output_of : Piece → List ℕ
output_of (OnOutput text) = text
output_of (OnErrors text) = []

abbrev pub errors_of : Piece → List ℕ
errors_of (OnOutput text) = []
errors_of (OnErrors text) = text

-- whether a piece belongs to an accepted message or document
abbrev pub is_accepted : Piece → Bool
is_accepted (OnOutput text) = true
is_accepted (OnErrors text) = false

-- whether a piece is a fault line
abbrev pub is_refused : Piece → Bool
is_refused piece = not (is_accepted piece)

-- the piece that contains the given text or, if a fault is given, its fault line
-- rule: refused-messages-write-nothing
abbrev pub text_or_fault : (offset : ℕ) → Result (List ℕ) (ℕ × List (List ℕ)) → Piece
text_or_fault offset (Ok text) = OnOutput text
text_or_fault offset (Err report) = OnErrors (fault_line offset report)

-- the piece that `ls` writes for an event (a message or a stray `BUFR`)
-- rule: one-fault-a-message
abbrev pub ls_piece : StreamEvent → Piece
ls_piece (FrameAt offset octets) =
    text_or_fault offset (result_map_both (ls_line offset) section_report (sections_of octets))
ls_piece (StrayAt offset cause) = text_or_fault offset (Err (cause_report cause))

-- The dump of a message, or a report of its first fault. The sections are checked first, then the
-- descriptor list, and finally the data.
-- rule: list-before-data
abbrev pub dump_or_report : List Row → List Sequence → Result Sections SectionFault
    → Result (List ℕ) (ℕ × List (List ℕ))
dump_or_report b d parsed = do
  s ← map_err section_report parsed
  template ← map_err template_report (tree_of (tables_of b d) s.descriptors)
  let reading : DataReading = reading_of (next_item b template) (data_of s)
  option_map_or (λ why. Err (data_report why)) (fault_of (data_of s) reading)
      (Ok (dump_text_of s (dump_items b s.subsets reading.values)))

-- the piece that `dump` writes for an event (a message or a stray `BUFR`)
-- rule: one-fault-a-message
abbrev pub dump_piece : List Row → List Sequence → StreamEvent → Piece
dump_piece b d (FrameAt offset octets) =
    text_or_fault offset (dump_or_report b d (sections_of octets))
dump_piece b d (StrayAt offset cause) = text_or_fault offset (Err (cause_report cause))

-- the piece that contains the encoded message or, if the document is rejected, a fault line
abbrev pub encoded : Result (List ℕ) DocumentFault → Piece
encoded (Ok octets) = OnOutput octets
encoded (Err why) = OnErrors (refusal_line why)

-- the piece that `encode` writes for a document or an invalid line
-- rule: document-read-first
abbrev pub result_piece : Form → List Row → List Sequence → ParseResult → Piece
result_piece form b d (Complete document) = encoded (encoding_in form b d document)
result_piece form b d (Refused line fault) = OnErrors (document_line line (line_report fault))

-- the pieces up to and including the first fault line
-- rule: first-refusal-ends
unfoldable pub up_to_refused : List Piece → List Piece
up_to_refused [] = []
up_to_refused (OnOutput text ∷ more) = OnOutput text ∷ up_to_refused more
up_to_refused (OnErrors text ∷ more) = OnErrors text ∷ []

-- the pieces that `encode` writes for documents, up to and including the first fault line
abbrev pub encode_pieces : Form → List Row → List Sequence → List ParseResult → List Piece
encode_pieces form b d results = up_to_refused (map (result_piece form b d) results)
