-- The message that results from encoding a document, or the first fault (FM 94 BUFR, sections 0 to
-- 5). The order of the faults is our choice.
-- Cited by public contracts.
use Rattle.std.specs.Prelude.{Bool, true, false, ℕ, ◌+◌, ◌/◌, nat_lt, if◌then◌else◌, List, ◌++◌, length, Result, Ok, Err, ◌≡◌, Option, Some, None, ◌≤◌, [], ◌∷◌, Vec, ◌*◌, ◌≢◌, ◌⊎◌, codes, decimal}
use Rattle.bufr_text.specs.declared.encode.Form.{Form}
use Rattle.bufr_bits.specs.Prelude.{◌>>=◌, padding, bits_of, map_err}
use Rattle.bufr_tables.specs.declared.fault.TemplateFault.{TemplateFault}
use Rattle.bufr_tables.specs.Prelude.{tree_of, tables_of, template_report, Row, Sequence, Tree, places}
use Rattle.bufr_frame.specs.declared.section1.Head.{Head}
use Rattle.bufr_frame.specs.Prelude.{MessageParts, message_octets, message_size, max_octets}
use Rattle.bufr_walk.specs.Prelude.{octets_in, next_item, CountedCourse, uncounted, counted_item, ticked}
pub use Rattle.bufr_fill.specs.Encoding.{data_bits}
use Rattle.bufr_fill.specs.Prelude.{Writing, writing_of, Subset, subsets_of, item_report, walk_refused, at_line}
use Rattle.bufr_text.specs.declared.encode.Form.TheVariants.{AsWritten}
use Rattle.bufr_text.specs.Documents.{header_in, Document, section2_in}
use Rattle.bufr_text.specs.declared.fault.DocumentFault.{DocumentFault}
use Rattle.std.specs.Global.{Global}
use Rattle.bufr_walk.specs.declared.walker.WalkStop.{WalkStop}
use Rattle.bufr_fill.specs.declared.fault.DraftFault.{DraftFault}
use Rattle.bufr_text.specs.declared.encode.Form.TheVariants as form
use Rattle.bufr_walk.specs.declared.spec.TurnRefusal.TheVariants as refusal
use Rattle.bufr_text.specs.declared.fault.DocumentFault.TheVariants as document
use Rattle.bufr_fill.specs.declared.fault.DraftFault.TheVariants as draft_fault
use Rattle.bufr_walk.specs.declared.walker.WalkStop.TheVariants as stops
use Rattle.bufr_tables.specs.declared.fault.TemplateFault.TheVariants as template_fault

-- ---- Whether a document's data are written as plain or compressed data (our choice).

-- whether data in the given form are compressed; `written` is the document's compression flag
-- rule: writes-form
abbrev pub compressed_by : Form → (written : Bool) → Bool
compressed_by form.AsWritten written = written
compressed_by form.Plain written = false
compressed_by form.Compressed written = true

-- the form that a compression flag specifies
abbrev pub form_of_flag : (compressed : Bool) → Form
form_of_flag false = form.Plain
form_of_flag true = form.Compressed

-- the `DocumentFault` that corresponds to the given `DraftFault`
abbrev pub document_fault : DraftFault → DocumentFault
document_fault (draft_fault.Item line why) = document.Item line why
document_fault draft_fault.Memory = document.Memory

-- the number and the description of a fault in a document
abbrev pub document_report : DocumentFault → ℕ × List (List ℕ)
document_report (document.Item line why) = item_report why
-- The number and the description of the fault in the template follow the word `template`.
document_report (document.Template line why) =
    (56, codes "template " ∷ decimal (template_report why).0 ∷ codes " " ∷ (template_report why).1)
-- The message would have more than 16,777,215 octets.
document_report (document.TooLong line) = (60, codes "too long" ∷ [])
document_report document.Memory = (73, [])

-- the line number of a fault; `Memory` has none
abbrev pub line_of_fault : DocumentFault → Option ℕ
line_of_fault (document.Item line why) = Some line
line_of_fault (document.Template line why) = Some line
line_of_fault (document.TooLong line) = Some line
line_of_fault document.Memory = None

-- bits packed into octets and padded with zero bits at the end
-- rule: writes-section-4
abbrev pub octets_of_bits : List Bool → List ℕ
octets_of_bits bits = octets_in ((length bits + 7) / 8) (bits ++ padding (length bits))

-- rule: writes-local-use
abbrev pub parts_as : (compressed : Bool) → Document → (payload : List ℕ) → MessageParts
parts_as compressed d payload =
    record {
      local1 = d.local1;
      section2 = section2_in d;
      descriptors = d.descriptors;
      subsets = (header_in d).subsets;
      observed = (header_in d).observed;
      compressed = compressed;
      payload = payload;
    }

-- rule: form-option
abbrev pub compressed_as : Form → Document → Bool
compressed_as form d = compressed_by form (header_in d).compressed

-- the message with the given parts, or `TooLong` on the given line if the message would be too long
-- rule: fault-60
abbrev pub message_of : (line : ℕ) → Head → MessageParts → Result (List ℕ) DocumentFault
message_of line head parts =
    if nat_lt max_octets (message_size head.edition parts) then Err (document.TooLong line)
    else Ok (message_octets head parts)

-- The message that results from encoding a document, or the first fault. The template is checked
-- first, then the items, and finally the length of the message. Faults in the template or in the
-- length are reported with the line number of the `message` line.
-- rule: fault-56, fault-56-first-60-last
unfoldable pub encoding_in : Form → List Row → List Sequence → Document
    → Result (List ℕ) DocumentFault
encoding_in form table sequences d = do
  template ← map_err (document.Template d.line) (tree_of (tables_of table sequences) d.descriptors)
  bits ← map_err document_fault
      (data_bits (compressed_as form d) (next_item table template) (subsets_of d.entries))
  message_of d.line (header_in d).head (parts_as (compressed_as form d) d (octets_of_bits bits))

-- the message encoded from a document in the form that its header specifies, or the first fault
abbrev pub encoding_of : List Row → List Sequence → Document → Result (List ℕ) DocumentFault
encoding_of = encoding_in AsWritten

-- The fault is either `Memory` or the error in `defined`.
abbrev pub IsDocumentRefusal : {A : Type 0} → DocumentFault → Result A DocumentFault → Type 0
IsDocumentRefusal why defined = (why ≡ document.Memory) ⊎ (defined ≡ Err why)

-- ---- The bits and steps needed to encode a document or find its first fault (our choice).

-- the result of writing a document's data in the given form with the given template
abbrev pub writing_in : Form → List Row → Document → Tree → Writing DraftFault
writing_in form table d template =
    writing_of (compressed_as form d) (counted_item table template) (subsets_of d.entries)

-- a number computed from a template, or 0 if the template contains a fault
abbrev pub of_template : (Tree → ℕ) → Result Tree TemplateFault → ℕ
of_template counts (Ok template) = counts template
of_template counts (Err why) = 0

-- the number of cells in a document's template, or 0 if the template contains a fault
abbrev pub places_by : List Row → List Sequence → Document → ℕ
places_by table sequences d = of_template places (tree_of (tables_of table sequences) d.descriptors)

-- the number of data bits written for a document before the first fault, if any
abbrev pub bits_by : Form → List Row → List Sequence → Document → ℕ
bits_by form table sequences d =
    of_template (λ template. length (writing_in form table d template).bits)
    (tree_of (tables_of table sequences) d.descriptors)

-- The number of steps needed to encode a document or to find its first fault. The items contain the
-- counts of delayed replications (FM 94 BUFR, section 3). No steps are counted if the template
-- contains a fault.
abbrev pub turns_by : Form → List Row → List Sequence → Document → ℕ
turns_by form table sequences d =
    of_template (λ template. (writing_in form table d template).turns)
    (tree_of (tables_of table sequences) d.descriptors)

-- The step count increased by `turns` or, if memory ran out, by at most `turns`.
abbrev pub CountsSteps : (ran_out : Type 0) → (before turns after : ℕ) → Type 0
CountsSteps ran_out before turns after =
    (ran_out × (after ≤ ticked before turns)) ⊎ (after ≡ ticked before turns)

-- ---- The fault that stops the encoding of plain or compressed data.

-- the fault that is reported if encoding stops before the entry on the given line
abbrev pub stop_fault : (line : ℕ) → WalkStop DraftFault → DraftFault
stop_fault line (stops.Width fxy) = at_line line (walk_refused (refusal.Width fxy))
stop_fault line (stops.Defining fxy) = at_line line (walk_refused (refusal.Defining fxy))
stop_fault line (stops.Field why) = why
stop_fault line stops.Memory = draft_fault.Memory

-- ---- The result of writing data.

-- The octets contain the given data bits, padded with zero bits to a whole number of octets.
pub record AreOctetsOf (octets : List ℕ) (bits : List Bool) : Type 0 where
  pub same : bits_of octets ≡ bits ++ padding (length bits)
  pub count : length octets ≡ (length bits + 7) / 8

-- Writing the data took the given number of steps and produced the given octets.
pub record IsData (places : ℕ) (compressed : Bool) (course : CountedCourse) (subsets : List Subset)
    (octets : List ℕ) (steps : ℕ) : Type 0 where
  pub out : List Bool
  pub is : data_bits compressed (uncounted course) subsets ≡ Ok out
  pub octets_are : AreOctetsOf octets out
  pub made : steps ≡ ticked 0 (writing_of compressed course subsets).turns
  pub few : steps ≤ places * length (writing_of compressed course subsets).bits

-- Writing stopped after the given number of steps because an item caused the given fault or memory
-- ran out.
pub record IsNoData (places : ℕ) (compressed : Bool) (course : CountedCourse)
    (subsets : List Subset) (why : DocumentFault) (steps : ℕ) : Type 0 where
  pub refuses : IsDocumentRefusal why
      (map_err document_fault (data_bits compressed (uncounted course) subsets))
  pub made : CountsSteps (why ≡ document.Memory) 0 (writing_of compressed course subsets).turns
      steps
  pub few : steps ≤ places * (length (writing_of compressed course subsets).bits + 1)

-- Writing the data of the subsets took the given number of steps and produced the given result.
abbrev pub WritesData : (places : ℕ) (compressed : Bool) → CountedCourse → List Subset
    → Result (Vec ℕ Global) DocumentFault → (steps : ℕ) → Type 0
WritesData places compressed course subsets (Ok octets) steps =
    IsData places compressed course subsets octets.items steps
WritesData places compressed course subsets (Err why) steps =
    IsNoData places compressed course subsets why steps

-- Writing a document's data with its template took the given number of steps and produced the given
-- result. If the template contained a fault, the result was that fault, and no steps were taken.
abbrev pub WritesForm : Form → List Row → Document → Result Tree TemplateFault
    → Result (Vec ℕ Global) DocumentFault → (steps : ℕ) → Type 0
WritesForm form table d (Ok template) result steps = WritesData (places template)
    (compressed_as form d) (counted_item table template) (subsets_of d.entries) result steps
WritesForm form table d (Err why) result steps =
    (result ≡ Err (document.Template d.line why)) × (why ≢ template_fault.Memory) × (steps ≡ 0)
