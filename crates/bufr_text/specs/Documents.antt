-- The structure of a document (the dump of one message), and how documents are parsed (our choice).
-- Cited by public contracts.
use Rattle.std.specs.Prelude.{ℕ, List, [], slice_index, ◌+◌, ◌==◌, nat_le, nat_lt, Bool, true, false, not, ◌&&◌, if◌then◌else◌, ◌∷◌, ◌++◌, length, ◌≡◌, ◌^◌, Option, Some, None}
use Rattle.bufr_fill.specs.Prelude.{DraftEntry, draft, Holds, Ends}
use Rattle.bufr_frame.specs.Prelude.{head_by}
use Rattle.bufr_text.specs.Line.{Line, Skipped, MessageLine, Header, Local1, Section2, Descriptors, SubsetLine, ItemLine, EndLine, Invalid, leasts, mosts, line_of}
use Rattle.bufr_frame.specs.declared.section1.Head.{Head}
use Rattle.bufr_text.specs.declared.fault.TextLineFault.{TextLineFault}
use Rattle.bufr_text.specs.declared.fault.TextLineFault.TheVariants.{NotAllowed, SubsetCount, HeaderRange}
use Rattle.bufr_text.specs.declared.document.ParserState.{ParserState}
use Rattle.bufr_text.specs.declared.document.ParserState.TheVariants.{Between, Heading, BeforeSubsets, Filling, Stopped}
use Rattle.bufr_text.specs.declared.document.LineEffect.{LineEffect}
use Rattle.bufr_text.specs.declared.document.LineEffect.TheVariants.{Continues, Completes, Refuses}
use Rattle.bufr_text.specs.declared.document.LineGroup.{LineGroup}
use Rattle.bufr_text.specs.declared.document.LineGroup.TheVariants as group

-- ---- A document as parsed, before its values are interpreted (not part of FM 94 BUFR).

-- the contents of a document's lines
pub record Document : Type 0 where
  -- the line number of the `message` line
  pub line : ℕ
  -- the values of the header lines, in the order of `keys`
  pub header : List ℕ
  pub local1 : List ℕ
  pub section2 : List ℕ
  pub descriptors : List ℕ
  -- the items of all subsets in order, with an `Ends` entry after each subset
  pub entries : List DraftEntry

-- a document of which only the `message` line has been read
abbrev pub blank : (line : ℕ) → Document
blank line =
    record { line = line; header = []; local1 = []; section2 = []; descriptors = []; entries = [] }

-- the contents of the header lines
pub record DocumentHeader : Type 0 where
  pub head : Head
  pub observed : Bool
  pub compressed : Bool
  pub optional : Bool
  pub subsets : ℕ

-- The values of a document's header lines, by name. Values that have not been read yet are 0. Keys
-- 1 to 15 identify the section 1 values, which are numbered as in `head_by`.
abbrev pub header_in : Document → DocumentHeader
header_in d =
    let value : ℕ → ℕ = slice_index d.header in
    record {
      head = head_by (value 0) (λ key in_4 in_3. value key);
      observed = value 16 == 1;
      compressed = value 17 == 1;
      optional = value 18 == 1;
      subsets = value 19;
    }

-- the state of the parser, and the part of the document that it has read
abbrev pub Parsing : Type 0
Parsing = ParserState × Document

-- the state between documents, with a blank document as a placeholder
abbrev pub between : Parsing
between = (Between, blank 0)

-- the effect of a line, and the resulting document
abbrev pub LineStep : Type 0
LineStep = LineEffect × Document

-- a complete document, or the fault in a line; after a fault, the remaining input is not parsed
pub data ParseResult : Type 0 where
  Complete : Document → ParseResult
  Refused : (line : ℕ) (fault : TextLineFault) → ParseResult

abbrev pub with_entry : Document → DraftEntry → Document
with_entry d entry = record d { entries = d.entries ++ entry ∷ [] }

-- whether a value is allowed for a key in the given edition; the range of key 0 (the edition
-- itself) is the same in both editions
abbrev pub in_range : (edition key value : ℕ) → Bool
in_range edition key value = nat_le (slice_index leasts key) value
    && nat_le value (slice_index (mosts edition) key)

-- The effect of a line in the header. The line's key must be the next one in order, and its value
-- must be within the range of that key. The last key is `subsets` (key 19).
-- rule: reading-header-order, fault-61, fault-order-of-a-line
abbrev pub heading : Document → Line → LineStep
heading d (Header key value) = if not (key == length d.header) then (Refuses NotAllowed, d)
    else if not (in_range (header_in d).head.edition key value) then (Refuses HeaderRange, d) else (
      Continues (if key == 19 then BeforeSubsets group.Local1 else Heading),
      record d { header = d.header ++ value ∷ [] },
    )
heading d line = (Refuses NotAllowed, d)

-- the effect of a `subset` line after `read` subsets; its number must be `read` + 1 and must not
-- exceed the number of subsets in the header
-- rule: reading-subsets, fault-57
abbrev pub beginning : (read : ℕ) → Document → (subset : ℕ) → LineEffect
beginning read d subset = if (subset == read + 1) && nat_le subset (header_in d).subsets
    then Continues (Filling subset) else Refuses SubsetCount

-- the effect of an `end` line after `read` subsets; the header must declare exactly this number of
-- subsets
-- rule: reading-subsets, fault-57
abbrev pub closing : (read : ℕ) → Document → LineEffect
closing read d = if read == (header_in d).subsets then Completes else Refuses SubsetCount

-- The effect of a line between the header lines and the first subset. The `local1` lines, if any,
-- come first, then the `section2` lines, which are allowed only if the header declares a section 2,
-- and then the `descriptors` lines. `previous` is the group that was read last, or `Local1` after
-- the header.
-- rule: reading-section2
abbrev pub before_subsets : Document → Line → (previous : LineGroup) → LineStep
before_subsets d (Local1 octets) group.Local1 =
    (Continues (BeforeSubsets group.Local1), record d { local1 = d.local1 ++ octets })
before_subsets d (Local1 octets) _ = (Refuses NotAllowed, d)
before_subsets d (Section2 octets) group.Descriptors = (Refuses NotAllowed, d)
before_subsets d (Section2 octets) _ = if (header_in d).optional then (
  Continues (BeforeSubsets group.Section2),
  record d { section2 = d.section2 ++ octets },
) else (Refuses NotAllowed, d)
before_subsets d (Descriptors words) _ = (
  Continues (BeforeSubsets group.Descriptors),
  record d { descriptors = d.descriptors ++ words },
)
before_subsets d (SubsetLine subset) _ = (beginning 0 d subset, d)
before_subsets d EndLine _ = (closing 0 d, d)
before_subsets d _ _ = (Refuses NotAllowed, d)

-- the effect of a line within a subset; `at` is the line number
-- rule: reading-subset-end
abbrev pub in_subset : (at subset : ℕ) → Document → Line → LineStep
in_subset at subset d (ItemLine fxy form) =
    (Continues (Filling subset), with_entry d (Holds (draft at fxy form)))
in_subset at subset d (SubsetLine next) = (beginning subset d next, with_entry d (Ends at))
in_subset at subset d EndLine = (closing subset d, with_entry d (Ends at))
in_subset at subset d line = (Refuses NotAllowed, d)

-- The effect of a line on the document; `at` is the line number. Empty lines, comments, and lines
-- after an invalid line have no effect. Between documents, only `message` lines are allowed.
-- rule: reading-empty-lines, reading-between-documents, fault-50
unfoldable pub line_step : (at : ℕ) → Parsing → Line → LineStep
line_step at (state, d) Skipped = (Continues state, d)
line_step at (Between, d) MessageLine = (Continues Heading, blank at)
line_step at (Between, d) line = (Refuses NotAllowed, d)
line_step at (Heading, d) line = heading d line
line_step at (BeforeSubsets previous, d) line = before_subsets d line previous
line_step at (Filling subset, d) line = in_subset at subset d line
line_step at (Stopped, d) line = (Continues Stopped, d)

-- whether a line adds octets, descriptors or an item to the current document, or ends a subset
abbrev pub adds : ParserState → Line → Bool
adds (BeforeSubsets part) (Local1 octets) = true
adds (BeforeSubsets part) (Section2 octets) = true
adds (BeforeSubsets part) (Descriptors words) = true
adds (Filling subset) (ItemLine fxy form) = true
adds (Filling subset) (SubsetLine next) = true
adds (Filling subset) EndLine = true
adds state line = false

-- the maximum number of octets in a line, not counting the line feed
abbrev pub max_line : ℕ
max_line = 4096

-- the parsed line, or `Invalid` if the line has more than 4,096 octets
-- rule: reading-longest-line
abbrev pub read_line : List ℕ → Line
read_line line = if nat_lt max_line (length line) then Invalid else line_of line

abbrev pub parsing_after : LineStep → Parsing
parsing_after (Continues state, d) = (state, d)
parsing_after (Completes, d) = between
parsing_after (Refuses fault, d) = (Stopped, d)

-- the complete document or the fault, if any, that the parser reports after line `at`
abbrev pub reported_at : (at : ℕ) → LineStep → List ParseResult
reported_at at (Continues state, d) = []
reported_at at (Completes, d) = Complete d ∷ []
reported_at at (Refuses fault, d) = Refused at fault ∷ []

-- the fault that is reported if the input ends within a document; `at` is the number that the next
-- line would have
-- rule: fault-50, input-ends-early
abbrev pub reported_at_end : (at : ℕ) → ParserState → List ParseResult
reported_at_end at Between = []
reported_at_end at Stopped = []
reported_at_end at state = Refused at NotAllowed ∷ []

-- the documents in the input from line `at` onward, and the first fault, if any
-- rule: reading-line-numbers
unfoldable pub parse_lines : (at : ℕ) → Parsing → List (List ℕ) → List ParseResult
parse_lines at p [] = reported_at_end at p.0
parse_lines at p (line ∷ more) =
    let here = line_step at p (read_line line) in reported_at at here
    ++ parse_lines (at + 1) (parsing_after here) more

-- the input lines that end with a line feed, and the octets after the last line feed
pub record Split : Type 0 where
  pub whole : List (List ℕ)
  pub rest : List ℕ

-- the lines and `rest`, with an octet prepended to the first line or, if there is none, to `rest`
abbrev pub onto_split : ℕ → List (List ℕ) → List ℕ → Split
onto_split c [] rest = record { whole = []; rest = c ∷ rest }
onto_split c (line ∷ more) rest = record { whole = (c ∷ line) ∷ more; rest = rest }

unfoldable pub split_of : List ℕ → Split
split_of [] = record { whole = []; rest = [] }
split_of (c ∷ more) =
    let s = split_of more in
    if c == 10 then record { whole = [] ∷ s.whole; rest = s.rest } else onto_split c s.whole s.rest

-- the lines of the input, without their line feeds; the last line need not have one
-- rule: reading-last-line
unfoldable pub lines_of : List ℕ → List (List ℕ)
lines_of text =
    let s = split_of text in
    if length s.rest == 0 then s.whole else s.whole ++ s.rest ∷ []

-- the documents in the whole input, and the first fault, if any
abbrev pub documents_of : List ℕ → List ParseResult
documents_of text = parse_lines 1 between (lines_of text)

-- The documents in the input read so far, and the first fault, if any. An incomplete last line
-- (`rest`) is a fault only if it is already too long.
unfoldable pub parse_open_lines : (at : ℕ) → Parsing → List (List ℕ) → (rest : List ℕ)
    → List ParseResult
parse_open_lines at p [] rest =
    if nat_lt max_line (length rest) then reported_at at (line_step at p Invalid) else []
parse_open_lines at p (line ∷ more) rest =
    let here = line_step at p (read_line line) in reported_at at here
    ++ parse_open_lines (at + 1) (parsing_after here) more rest

-- the documents in the input read so far, and the first fault, if any
abbrev pub open_documents_of : List ℕ → List ParseResult
open_documents_of text = parse_open_lines 1 between (split_of text).whole (split_of text).rest

-- the octets of the document's section 2, if the header declares one
abbrev pub section2_in : Document → Option (List ℕ)
section2_in d = if (header_in d).optional then Some d.section2 else None

-- whether the values of consecutive keys, starting with `key`, are all within range
abbrev pub are_in_range : (edition key : ℕ) → List ℕ → Bool
are_in_range edition key [] = true
are_in_range edition key (value ∷ more) =
    in_range edition key value && are_in_range edition (key + 1) more

-- The header is complete, and all its values are within range.
pub record IsHeaded (d : Document) : Type 0 where
  pub whole : length d.header ≡ 20
  pub ranges : are_in_range (header_in d).head.edition 0 d.header ≡ true

-- an upper bound on the number of entries (the input has at most 2^32 * 4,096 = 2^44 octets)
abbrev pub most_entries : ℕ
most_entries = 2 ^ 44
