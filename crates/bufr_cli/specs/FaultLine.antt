-- The lines that report faults in streams, messages, and documents (not part of FM 94 BUFR).
-- Cited by public contracts.
use Rattle.std.specs.Prelude.{ℕ, List, [], ◌∷◌, ◌++◌, codes, decimal}
use Rattle.std.specs.Option.{option_map_or}
use Rattle.bufr_frame.specs.Prelude.{section_report}
use Rattle.bufr_tables.specs.Prelude.{template_report}
use Rattle.bufr_walk.specs.Prelude.{data_report}
use Rattle.bufr_text.specs.Prelude.{line_report, document_report, line_of_fault}
use Rattle.bufr_text.specs.declared.fault.DocumentFault.{DocumentFault}
use Rattle.bufr_cli.specs.declared.fault_line.StreamFault.{StreamFault}
use Rattle.bufr_cli.specs.declared.fault_line.StreamFault.TheVariants as stream
use Rattle.bufr_text.specs.declared.fault.ReadFault.{ReadFault}
use Rattle.std.specs.List.{concat}
use Rattle.bufr_text.specs.declared.fault.ReadFault.TheVariants as read

-- the number and the description of a fault in a message; `Memory` has no description
abbrev pub stream_report : StreamFault → ℕ × List (List ℕ)
stream_report (stream.Section fault) = section_report fault
stream_report (stream.Template fault) = template_report fault.now
stream_report (stream.Data fault) = data_report fault.now

-- the line that reports a fault; it consists of a prefix (`subject`), the fault number, and a
-- description
abbrev pub report_line : (subject : List (List ℕ)) → (report : ℕ × List (List ℕ)) → List ℕ
report_line subject report =
    concat (subject ++ decimal report.0 ∷ codes " " ∷ (report.1 ++ codes "\n" ∷ []))

-- the fault line for the message or stray `BUFR` at the given offset in a stream
-- rule: stream-fault-line
abbrev pub fault_line : (offset : ℕ) → (report : ℕ × List (List ℕ)) → List ℕ
fault_line offset = report_line (codes "offset " ∷ decimal offset ∷ codes ": " ∷ [])

-- the fault line for a line of a dump, given its number (counted from 1)
-- rule: fault-lines-of-reading
abbrev pub document_line : (line : ℕ) → (report : ℕ × List (List ℕ)) → List ℕ
document_line line = report_line (codes "line " ∷ decimal line ∷ codes ": " ∷ [])

-- the fault line for an invalid line of a dump; it is empty if the run stopped for another reason,
-- such as a failed read
abbrev pub line_of_read_fault : ReadFault → List ℕ
line_of_read_fault (read.Line line fault) = document_line line (line_report fault)
line_of_read_fault (read.Run fault) = []

-- the line that reports why a document is rejected; it is empty for `Memory`, which stops the run
-- rule: fault-lines-of-encoding
abbrev pub refusal_line : DocumentFault → List ℕ
refusal_line why =
    option_map_or (λ line. document_line line (document_report why)) (line_of_fault why) []
