-- Only contracts need this file. The order of the lines in a document, and its normal text, which
-- is formatted like a dump (our choice).
use Rattle.std.specs.Prelude.{slice_index, ◌≡◌, false, List, [], ◌∷◌, length, ◌≤◌, ◌⊎◌, ℕ, ◌+◌, ◌++◌, map, if◌then◌else◌, take, drop, codes, None, Result, Ok, Err}
use Rattle.std.specs.List.{AllByRecursion, concat}
use Rattle.bufr_fill.specs.Prelude.{AllHaveOctets, DraftEntry, Holds, Ends, subsets_of, Draft, Subset, content_of, normal_form}
use Rattle.bufr_fill.specs.declared.fault.ItemFault.{ItemFault}
use Rattle.bufr_text.specs.Documents.{header_in, Document, IsHeaded, ParseResult, Complete, Refused, most_entries, read_line}
use Rattle.bufr_text.specs.Dump.{IsOctet, IsDescriptorWord, header_lines, local1_line, section2_line, descriptors_line, form_text, comment_text, subset_line, text_of_lines}
use Rattle.bufr_text.specs.Line.{Line, Skipped, MessageLine, Header, Local1, Section2, Descriptors, SubsetLine, ItemLine, EndLine, runs_of}
use Rattle.bufr_tables.specs.Prelude.{Row, entry_of, Tree}
use Rattle.bufr_walk.specs.declared.spec.Taken.{Taken}
use Rattle.bufr_walk.specs.Prelude.{FieldSpec, Content, answer_of, Course, Next, take_next, next_item}
use Rattle.bufr_text.specs.declared.encode.Form.{Form}
use Rattle.bufr_text.specs.declared.encode.Form.TheVariants.{AsWritten, Plain, Compressed}
use Rattle.bufr_walk.specs.declared.spec.Taken.TheVariants as taken

-- ---- Which documents can be written as text (our choice).

-- The last entry, if any, ends a subset, so every item belongs to a subset.
abbrev pub AreEnded : List DraftEntry → Type 0
AreEnded (Holds item ∷ []) = ⊥
AreEnded (entry ∷ next ∷ more) = AreEnded (next ∷ more)
AreEnded entries = Unit {0}

-- The document's header values are within range, and its octets, descriptors and strings are valid.
-- Section 2 octets are present only if the header declares a section 2, and the number of subsets
-- matches the header. Every item belongs to a subset.
pub record IsProper (d : Document) : Type 0 where
  pub headed : IsHeaded d
  pub local1 : AllByRecursion IsOctet d.local1
  pub section2 : AllByRecursion IsOctet d.section2
  pub no_section2 : (header_in d).optional ≡ false → d.section2 ≡ []
  pub descriptors : AllByRecursion IsDescriptorWord d.descriptors
  pub texts : AllHaveOctets (subsets_of d.entries)
  pub counted : length (subsets_of d.entries) ≡ (header_in d).subsets
  pub ended : AreEnded d.entries

-- ---- Complete documents, and the results of parsing the input (our choice).

-- The document is valid (see `IsProper`) and has at most 2^44 entries.
pub record IsWhole (d : Document) : Type 0 where
  pub proper : IsProper d
  pub few : length d.entries ≤ most_entries

-- The result is a valid document (see `IsProper`) or a fault in a line.
abbrev pub IsProperlyReported : ParseResult → Type 0
IsProperlyReported (Complete d) = IsProper d
IsProperlyReported (Refused line fault) = Unit {0}

-- All documents in the results are valid.
abbrev pub AreProper : List ParseResult → Type 0
AreProper results = AllByRecursion IsProperlyReported results

-- a line that is neither empty nor a comment, with its line number
pub record NumberedLine : Type 0 where
  pub at : ℕ
  pub line : Line

abbrev pub numbered_line : ℕ → Line → NumberedLine
numbered_line at line = record { at = at; line = line }

-- the given lines with one more line prepended, unless that line is empty or a comment
abbrev pub prepend_line : ℕ → Line → List NumberedLine → List NumberedLine
prepend_line at Skipped more = more
prepend_line at line more = numbered_line at line ∷ more

unfoldable pub numbered_lines : (at : ℕ) → List (List ℕ) → List NumberedLine
numbered_lines at [] = []
numbered_lines at (line ∷ more) = prepend_line at (read_line line)
    (numbered_lines (at + 1) more)

-- the parsed header lines for the given values of consecutive keys, starting with `key`
abbrev pub parsed_header : (key : ℕ) → List ℕ → List Line
parsed_header key [] = []
parsed_header key (value ∷ more) = Header key value ∷ parsed_header (key + 1) more

-- the items of a subset, and the line number of its `subset` line
pub record NumberedSubset : Type 0 where
  pub at : ℕ
  pub items : List Draft

-- the `subset` line and the item lines of each given subset; the first subset has number `subset`
abbrev pub lines_of_subsets : (subset : ℕ) → List NumberedSubset → List NumberedLine
lines_of_subsets subset [] = []
lines_of_subsets subset (part ∷ more) =
    numbered_line part.at (SubsetLine subset)
    ∷ map (λ (d : Draft). numbered_line d.line (ItemLine d.fxy d.form)) part.items
    ++ lines_of_subsets (subset + 1) more

-- the number of the line that ends the previous subset (the first line of the given subsets or, if
-- there are none, line `end`)
abbrev pub first_at : List NumberedSubset → (end : ℕ) → ℕ
first_at [] end = end
first_at (part ∷ more) end = part.at

-- the entries of the given subsets; each subset ends at the first line of the next one, and the
-- last subset ends at line `end`
abbrev pub entries_of_subsets : List NumberedSubset → (end : ℕ) → List DraftEntry
entries_of_subsets [] end = []
entries_of_subsets (part ∷ more) end =
    map Holds part.items ++ Ends (first_at more end) ∷ entries_of_subsets more end

-- The given lines specify the content of document d. The lines are `message`, the header lines in
-- order, the `local1`, `section2` and `descriptors` lines, the subsets with their items, and `end`.
pub record IsDocument (d : Document) (lines : List NumberedLine) : Type 0 where
  pub header : List NumberedLine
  pub local1 : List (List ℕ)
  pub section2 : List (List ℕ)
  pub descriptors : List (List ℕ)
  pub written : List NumberedLine
  pub subsets : List NumberedSubset
  pub end : ℕ
  pub are : lines ≡ numbered_line d.line MessageLine ∷ header
      ++ (written ++ (lines_of_subsets 1 subsets ++ numbered_line end EndLine ∷ []))
  pub in_order : map (λ l. l.line) header ≡ parsed_header 0 d.header
  pub parts : map (λ l. l.line) written
      ≡ map Local1 local1 ++ (map Section2 section2 ++ map Descriptors descriptors)
  pub local1_is : d.local1 ≡ concat local1
  pub section2_is : d.section2 ≡ concat section2
  pub descriptors_are : d.descriptors ≡ concat descriptors
  pub flagged : (section2 ≡ []) ⊎ (slice_index d.header 18 ≡ 1)
  pub counted : length subsets ≡ (header_in d).subsets
  pub entries : d.entries ≡ entries_of_subsets subsets end

-- The results are the documents in the given lines, in order. If a line contains a fault, that
-- fault is the last result.
abbrev pub AreReported : List NumberedLine → List ParseResult → Type 0
AreReported lines [] = lines ≡ []
AreReported lines (Refused line fault ∷ results) = results ≡ []
AreReported lines (Complete d ∷ results) =
    (own : List NumberedLine) × (more : List NumberedLine) × (lines ≡ own ++ more)
    × IsDocument d own × AreReported more results

-- ---- The normal text of a document, which is formatted like a dump (our choice).

-- a document's header values, with the compression flag (key 17) set according to the given form
abbrev pub header_as : Form → List ℕ → List ℕ
header_as AsWritten header = header
header_as Plain header = take 17 header ++ 0 ∷ drop 18 header
header_as Compressed header = take 17 header ++ 1 ∷ drop 18 header

-- the lines before the subsets, which contain `message`, the header values, octets in upper-case
-- hexadecimal (32 per line), and descriptors (8 per line)
abbrev pub normal_head : Form → Document → List (List ℕ)
normal_head form d = codes "message" ∷ (header_lines 0 (header_as form d.header)
    ++ (map local1_line (runs_of 32 d.local1) ++ (map section2_line (runs_of 32 d.section2)
    ++ map descriptors_line (runs_of 8 d.descriptors))))

-- an item's line, with its descriptor, its value in normal form and, if the field is read using a
-- Table B row, a comment with the row's name and unit
abbrev pub normal_line : List Row → FieldSpec → Draft → List ℕ
normal_line table spec d =
    form_text d.fxy (normal_form spec d.form)
    ++ comment_text (if spec.listed then entry_of table spec.fxy else None)

-- the part of an item's content that affects how later fields are read, or `Plain` if the content
-- is invalid
abbrev pub draft_answer : FieldSpec → Result Content ItemFault → Taken
draft_answer spec (Ok c) = answer_of spec c
draft_answer spec (Err why) = taken.Plain

-- the line of the item that belongs to the next field, followed by the remaining lines
abbrev pub line_and : List Row → Next → Draft → (Taken → List (List ℕ)) → List (List ℕ)
line_and table (take_next spec) d rest =
    normal_line table spec d ∷ rest (draft_answer spec (content_of spec d))
line_and table _ d rest = []

-- the lines of a subset's items, which belong to consecutive fields of the template
abbrev pub normal_items : List Row → Course → List Draft → List (List ℕ)
normal_items table course [] = []
normal_items table course (d ∷ ds) = line_and table (course []) d
    (λ t. normal_items table (λ answer_of. course (t ∷ answer_of)) ds)

-- the lines of the given subsets; the first subset has number `subset`
abbrev pub normal_subsets : List Row → Course → (subset : ℕ) → List Subset → List (List ℕ)
normal_subsets table course n [] = []
normal_subsets table course n (s ∷ more) =
    subset_line n ∷ (normal_items table course s.items ++ normal_subsets table course (n + 1) more)

-- The normal text of a document, which does not preserve comments, empty lines, leading zeros in
-- numbers, or the way in which octets and descriptors are divided into lines.
abbrev pub normal : Form → List Row → Tree → Document → List ℕ
normal form table template d =
    text_of_lines (normal_head form d ++ (normal_subsets table (next_item table template) 1
    (subsets_of d.entries) ++ codes "end" ∷ []))
