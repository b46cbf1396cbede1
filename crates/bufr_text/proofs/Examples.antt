-- Worked examples of lines and documents. Each valid example is next to a similar one that is
-- invalid.
use Rattle.std.proofs.Common.{◌≡◌, ℕ, List, [], ◌∷◌, ◌++◌, refl, codes, replicate, map, true, false, arith, drop, take, Some, None, pos, ◌+◌, inl}
use Rattle.bufr_fill.specs.Prelude.{number_token, text_form, missing_form, reference_token, draft, Holds, Ends}
use Rattle.bufr_text.specs.Prelude.{leasts, mosts, without_prefix, hex_read, fxy_read, descriptors_read, quoted_read, is_hashed, quoted, hex_text, descriptors_text, runs_after, Line, Skipped, Header, Local1, Section2, Descriptors, SubsetLine, ItemLine, Invalid, keys, value_read, worded, line_of, MessageLine, EndLine, read_line, ParseResult, Complete, Refused, NotAllowed, SubsetCount, HeaderRange, line_step, parse_lines, lines_of, documents_of, Document, open_documents_of, split_of, parse_open_lines, item_text, local1_line, descriptors_line, text_of_lines, IsDumpable, dump_text_of, header_lines, subset_lines, item_entries, subset_entries, document_of, ls_line, AreEnded, IsProper, NumberedLine, numbered_line, numbered_lines, NumberedSubset, lines_of_subsets, entries_of_subsets, IsDocument}
use Rattle.bufr_frame.specs.declared.section1.Head.{Head}
use Rattle.bufr_frame.specs.Prelude.{IsFitting, greatest_values, values_of, Sections}
use Rattle.bufr_frame.proofs.AgainLemmas.{at-most}
use Rattle.std.specs.Fmt.{digits}
use Rattle.bufr_bits.specs.Prelude.{decimal_text_of, unsigned_text}
use Rattle.bufr_text.proofs.EncodingExamples.{document, number}
use Rattle.bufr_tables.specs.Prelude.{Row}
use Rattle.bufr_tables.specs.declared.table_b.Kind.TheVariants as kind
use Rattle.bufr_walk.specs.Prelude.{View, shown_number, shown_text}

-- a text inserted by 2 05 004 with a quote, a backslash, a line feed and an octet above 127
abbrev inserted : List ℕ
inserted = 34 ∷ 92 ∷ 10 ∷ 254 ∷ []

abbrev inserted_line : List ℕ
inserted_line = codes "205004 " ++ 34 ∷ 92 ∷ 34 ∷ 92 ∷ 92 ∷ 92 ∷ codes "x0A" ++ 92 ∷ codes "xFE" ++ 34 ∷ []

abbrev all_said : List (List ℕ) → List Line
all_said lines = map read_line lines

ten : Line
ten = ItemLine 257 (number_token (codes "10"))

-- the text of a document with these `centre`, `optional` and `subsets` lines, and these lines after
-- them
abbrev document_with : (centre optional subsets : List ℕ) → (more : List (List ℕ)) → List ℕ
document_with centre optional subsets more = text_of_lines (
    codes "message" ∷ codes "edition 4" ∷ codes "master 0" ∷ centre ∷ codes "subcentre 0" ∷ codes "update 0" ∷ codes "category 0"
    ∷ codes "subcategory 0" ∷ codes "localsubcategory 0" ∷ codes "masterversion 14" ∷ codes "localversion 0" ∷ codes "year 2024" ∷ codes "month 1"
    ∷ codes "day 2" ∷ codes "hour 3" ∷ codes "minute 4" ∷ codes "second 5" ∷ codes "observed 1" ∷ codes "compressed 0" ∷ optional ∷ subsets ∷ more)

abbrev none_with : (more : List (List ℕ)) → List ParseResult
none_with more = documents_of (document_with (codes "centre 98") (codes "optional 1") (codes "subsets 0") more)

abbrev header_written : List ℕ
header_written = 4 ∷ 0 ∷ 98 ∷ 0 ∷ 0 ∷ 0 ∷ 0 ∷ 0 ∷ 14 ∷ 0 ∷ 2024 ∷ 1 ∷ 2 ∷ 3 ∷ 4 ∷ 5 ∷ 1 ∷ 0 ∷ 1 ∷ 0 ∷ []

-- the results of a document with this `centre` line and without its subset; in one line, a syntax
-- error is reported before a value out of range
abbrev centre_with : List ℕ → List ParseResult
centre_with centre = documents_of (document_with centre (codes "optional 0") (codes "subsets 1") (codes "end" ∷ []))

-- rule: reading-number, reading-reference, reading-header-number, reading-long-lists
-- rule: reading-longest-line, reading-blanks, reading-carriage-return, reading-after-a-value
-- rule: reading-hexadecimal, reading-descriptor, reading-quoted, reading-header-ranges
-- rule: fault-order-of-a-line, reading-header-order, reading-subsets, reading-line-numbers
lines_read :
    (item_text (record { fxy = 0x8504; entry = None; value = shown_text inserted }) ≡ inserted_line)
    × (all_said (
    inserted_line ∷ codes "012101 MISSING" ∷ codes "R 012101 -400" ∷ codes "005002 -0.05 #" ∷ codes "005002 -0.05  # LATITUDE [degree]" ∷ [])
    ≡ ItemLine 0x8504 (text_form inserted) ∷ ItemLine 0x0C65 missing_form ∷ ItemLine 0x0C65 (reference_token (codes "-400")) ∷ ItemLine 0x0502 (number_token (codes "-0.05"))
    ∷ ItemLine 0x0502 (number_token (codes "-0.05")) ∷ [])
    × (all_said (
    codes "001001 10 " ∷ codes "001001 10# x" ∷ codes "001001  10" ∷ codes "001001 " ∷ codes "001001 x" ∷ codes "R 012101 MISSING" ∷ codes "064001 1" ∷ codes "01001 1"
    ∷ (codes "205001 " ++ 34 ∷ 65 ∷ []) ∷ (codes "205001 " ++ 34 ∷ 92 ∷ codes "xfe" ++ 34 ∷ []) ∷ (codes "205001 " ++ 34 ∷ 9 ∷ 34 ∷ []) ∷ [])
    ≡ Invalid ∷ Invalid ∷ Invalid ∷ Invalid ∷ Invalid ∷ Invalid ∷ Invalid ∷ Invalid ∷ Invalid ∷ Invalid ∷ Invalid ∷ [])
    × (all_said (
    [] ∷ codes "#" ∷ (35 ∷ 13 ∷ []) ∷ codes "local1 abCD" ∷ codes "section2 0102" ∷ codes "descriptors 001001 363255" ∷ codes "subset 01" ∷ codes "year 99999999999999999999999" ∷ [])
    ≡ Skipped ∷ Skipped ∷ Skipped ∷ Local1 (0xAB ∷ 0xCD ∷ []) ∷ Section2 (1 ∷ 2 ∷ []) ∷ Descriptors (257 ∷ 65535 ∷ []) ∷ SubsetLine 1 ∷ Header 10 65536 ∷ [])
    × (all_said (
    (13 ∷ []) ∷ codes " " ∷ codes "message " ∷ codes "local1 ABC" ∷ codes "local1 " ∷ codes "local1" ∷ codes "descriptors" ∷ codes "descriptors  001001" ∷ codes "subset " ∷ codes "subset -1"
    ∷ codes "years 1" ∷ codes "end." ∷ [])
    ≡ Invalid ∷ Invalid ∷ Invalid ∷ Invalid ∷ Invalid ∷ Invalid ∷ Invalid ∷ Invalid ∷ Invalid ∷ Invalid ∷ Invalid ∷ Invalid ∷ [])
    -- A line has at most 32 octets, or at most 8 descriptors.
    × (all_said (local1_line (replicate 32 255) ∷ local1_line (replicate 33 255) ∷ descriptors_line (replicate 8 257) ∷ descriptors_line (replicate 9 257) ∷ [])
    ≡ Local1 (replicate 32 255) ∷ Invalid ∷ Descriptors (replicate 8 257) ∷ Invalid ∷ [])
    -- Lines have at most 4,096 octets, even comments.
    × (all_said ((35 ∷ replicate 4095 120) ∷ (35 ∷ replicate 4096 120) ∷ []) ≡ Skipped ∷ Invalid ∷ [])
    -- Exactly one space, and no tab, follows a descriptor. A line of blanks is invalid, but an
    -- empty line is skipped.
    × (all_said (codes "001001 10" ∷ (codes "001001" ++ 9 ∷ codes "10") ∷ codes "001001  10" ∷ [] ∷ codes "  " ∷ (9 ∷ []) ∷ []) ≡ ten ∷ Invalid ∷ Invalid ∷ Skipped ∷ Invalid ∷ Invalid ∷ [])
    -- A carriage return is part of the line, and is allowed only in a comment.
    × (all_said ((35 ∷ 13 ∷ []) ∷ (13 ∷ []) ∷ (codes "001001 10 #" ++ 13 ∷ []) ∷ (codes "001001 10" ++ 13 ∷ []) ∷ (codes "end" ++ 13 ∷ []) ∷ []) ≡ Skipped ∷ Invalid ∷ ten ∷ Invalid ∷ Invalid ∷ [])
    -- After a value, only a comment is allowed. At least one space comes before its `#`.
    × (all_said (codes "001001 10 #" ∷ codes "001001 10    # x" ∷ codes "001001 10#" ∷ codes "001001 10 x" ∷ codes "001001 10 " ∷ codes " # x" ∷ [])
    ≡ ten ∷ ten ∷ Invalid ∷ Invalid ∷ Invalid ∷ Invalid ∷ [])
    -- An octet has two hexadecimal digits, in upper or lower case.
    × (all_said (codes "local1 0aF9" ∷ codes "local1 0aF" ∷ codes "local1 0g" ∷ codes "section2 ff" ∷ codes "section2 f" ∷ codes "local1  0a" ∷ codes "local1 0a " ∷ [])
    ≡ Local1 (10 ∷ 249 ∷ []) ∷ Invalid ∷ Invalid ∷ Section2 (255 ∷ []) ∷ Invalid ∷ Invalid ∷ Invalid ∷ [])
    -- On every line, a descriptor has six digits, and its F, X and Y fit their bits.
    × (all_said (codes "descriptors 001001" ∷ codes "descriptors 0010010" ∷ codes "descriptors 00100" ∷ codes "descriptors 363255" ∷ codes "descriptors 364255" ∷ codes "descriptors 363256"
    ∷ codes "descriptors 463255" ∷ codes "363255 10" ∷ codes "363256 10" ∷ codes "0010010 10" ∷ [])
    ≡ Descriptors (257 ∷ []) ∷ Invalid ∷ Invalid ∷ Descriptors (65535 ∷ []) ∷ Invalid ∷ Invalid ∷ Invalid ∷ ItemLine 65535 (number_token (codes "10")) ∷ Invalid ∷ Invalid ∷ [])
    -- In a text, any octet may be written as an escape with upper-case digits, and octets that are
    -- not printed must be. The closing quote is required.
    × (all_said (
    (codes "205001 " ++ 34 ∷ 92 ∷ codes "x41" ++ 34 ∷ []) ∷ (codes "205001 " ++ 34 ∷ 92 ∷ codes "xaf" ++ 34 ∷ []) ∷ (codes "205001 " ++ 34 ∷ 92 ∷ codes "n" ++ 34 ∷ [])
    ∷ (codes "205001 " ++ 34 ∷ 126 ∷ 34 ∷ []) ∷ (codes "205001 " ++ 34 ∷ 127 ∷ 34 ∷ [])
    ∷ (codes "205001 " ++ 34 ∷ 254 ∷ 34 ∷ []) ∷ (codes "205001 " ++ 34 ∷ 65 ∷ []) ∷ (codes "205001 " ++ 34 ∷ 34 ∷ 34 ∷ []) ∷ [])
    ≡ ItemLine 0x8501 (text_form (65 ∷ [])) ∷ Invalid ∷ Invalid ∷ ItemLine 0x8501 (text_form (126 ∷ [])) ∷ Invalid ∷ Invalid ∷ Invalid ∷ Invalid ∷ [])
    -- Any line of octets or of descriptors may be short. The groups of lines have a fixed order.
    × (none_with (codes "local1 01" ∷ codes "local1 0203" ∷ codes "section2 04" ∷ codes "section2 0506" ∷ codes "descriptors 001001" ∷ codes "descriptors 012101 001001" ∷ codes "end" ∷ [])
    ≡ Complete (record { line = 1; header = header_written; local1 = 1 ∷ 2 ∷ 3 ∷ []; section2 = 4 ∷ 5 ∷ 6 ∷ []; descriptors = 257 ∷ 0x0C65 ∷ 257 ∷ []; entries = [] }) ∷ [])
    × (none_with (codes "section2 04" ∷ codes "local1 01" ∷ codes "end" ∷ []) ≡ Refused 23 NotAllowed ∷ [])
    × (none_with (codes "descriptors 001001" ∷ codes "section2 04" ∷ codes "end" ∷ []) ≡ Refused 23 NotAllowed ∷ [])
    × (centre_with (codes "centre 65535") ≡ Refused 22 SubsetCount ∷ [])
    × (centre_with (codes "centre 65536") ≡ Refused 4 HeaderRange ∷ [])
    × (centre_with (codes "centre 65536 ") ≡ Refused 4 NotAllowed ∷ [])
    × (centre_with (codes "subcentre 65536") ≡ Refused 4 NotAllowed ∷ [])
    × (none_with (codes "subset x" ∷ []) ≡ Refused 22 NotAllowed ∷ [])
    × (none_with (codes "subset 1" ∷ []) ≡ Refused 22 SubsetCount ∷ [])
    -- Line numbers continue in the next document, and comments between documents count.
    × (documents_of (document_with (codes "centre 98") (codes "optional 1") (codes "subsets 0") (codes "end" ∷ codes "# x" ∷ [])
    ++ document_with (codes "centre 98") (codes "optional 1") (codes "subsets 0") (codes "end" ∷ []))
    ≡ Complete (record { line = 1; header = header_written; local1 = []; section2 = []; descriptors = []; entries = [] })
    ∷ Complete (record { line = 24; header = header_written; local1 = []; section2 = []; descriptors = []; entries = [] }) ∷ [])
unfolding quoted line_of worded without_prefix fxy_read value_read quoted_read is_hashed keys leasts mosts hex_read descriptors_read hex_text descriptors_text ten
    parse_lines lines_of split_of line_step
lines_read = (refl, refl, refl, refl, refl, refl, refl, refl, refl, refl, refl, refl, refl, refl, refl, refl, refl, refl, refl, refl, refl, refl, refl)

-- ---- Whole documents.

abbrev the_head : Head
the_head = record {
  edition = 4;
  master = 0;
  centre = 98;
  subcentre = 0;
  update = 0;
  category = 0;
  subcategory = 0;
  local_subcategory = 0;
  master_version = 14;
  local_version = 0;
  year = 2024;
  month = 1;
  day = 2;
  hour = 3;
  minute = 4;
  second = 5;
}

abbrev one_block_number : Sections
one_block_number = record { head = the_head; local1 = []; section2 = None; descriptors = 257 ∷ []; subsets = 1; observed = true; compressed = false; payload = 0x14 ∷ []; size = 48 }

abbrev block_row : Row
block_row = record { fxy = 257; name = codes "WMO BLOCK NUMBER"; unit = codes "Numeric"; kind = kind.Numeric; scale = pos 0; reference = pos 0; width = 7 }

abbrev block_number : List (List View)
block_number = ((record { fxy = 257; entry = Some block_row; value = shown_number (pos 10) (pos 0) }) ∷ []) ∷ []

-- the lines before the first subset, with these `centre` and `subsets` lines
abbrev head_with : (centre subsets : List ℕ) → List (List ℕ)
head_with centre subsets =
    codes "message" ∷ codes "edition 4" ∷ codes "master 0" ∷ centre ∷ codes "subcentre 0" ∷ codes "update 0" ∷ codes "category 0"
    ∷ codes "subcategory 0" ∷ codes "localsubcategory 0" ∷ codes "masterversion 14" ∷ codes "localversion 0" ∷ codes "year 2024" ∷ codes "month 1"
    ∷ codes "day 2" ∷ codes "hour 3" ∷ codes "minute 4" ∷ codes "second 5" ∷ codes "observed 1" ∷ codes "compressed 0" ∷ codes "optional 0"
    ∷ subsets ∷ codes "descriptors 001001" ∷ []

abbrev head_lines : List (List ℕ)
head_lines = head_with (codes "centre 98") (codes "subsets 1")

abbrev item_lines : List (List ℕ)
item_lines = codes "subset 1" ∷ codes "001001 10  # WMO BLOCK NUMBER [Numeric]" ∷ codes "end" ∷ []

abbrev the_text : List ℕ
the_text = text_of_lines (head_lines ++ item_lines)

abbrev the_document : Document
the_document = document_of 1 one_block_number block_number

abbrev the_document_written : Document
the_document_written = record {
  line = 1;
  header = 4 ∷ 0 ∷ 98 ∷ 0 ∷ 0 ∷ 0 ∷ 0 ∷ 0 ∷ 14 ∷ 0 ∷ 2024 ∷ 1 ∷ 2 ∷ 3 ∷ 4 ∷ 5 ∷ 1 ∷ 0 ∷ 0 ∷ 1 ∷ [];
  local1 = [];
  section2 = [];
  descriptors = 257 ∷ [];
  entries = Holds (draft 24 257 (number_token (codes "10"))) ∷ Ends 25 ∷ [];
}

-- the document if an empty line and a comment line come before its subset
abbrev noted_document : Document
noted_document = record the_document_written { entries = Holds (draft 26 257 (number_token (codes "10"))) ∷ Ends 27 ∷ [] }

-- the lines before the first subset of an edition 3 document, with these `edition`, `centre` and
-- `second` lines
abbrev lines_3 : (edition centre second : List ℕ) → List (List ℕ)
lines_3 edition centre second =
    codes "message" ∷ edition ∷ codes "master 0" ∷ centre ∷ codes "subcentre 0" ∷ codes "update 0" ∷ codes "category 0"
    ∷ codes "subcategory 0" ∷ codes "localsubcategory 0" ∷ codes "masterversion 14" ∷ codes "localversion 0" ∷ codes "year 24" ∷ codes "month 1"
    ∷ codes "day 2" ∷ codes "hour 3" ∷ codes "minute 4" ∷ second ∷ codes "observed 1" ∷ codes "compressed 0" ∷ codes "optional 0"
    ∷ codes "subsets 1" ∷ codes "local1 00" ∷ codes "descriptors 001001" ∷ []

abbrev document_3 : Document
document_3 = record {
  line = 1;
  header = 3 ∷ 0 ∷ 98 ∷ 0 ∷ 0 ∷ 0 ∷ 0 ∷ 0 ∷ 14 ∷ 0 ∷ 24 ∷ 1 ∷ 2 ∷ 3 ∷ 4 ∷ 0 ∷ 1 ∷ 0 ∷ 0 ∷ 1 ∷ [];
  local1 = 0 ∷ [];
  section2 = [];
  descriptors = 257 ∷ [];
  entries = Holds (draft 25 257 (number_token (codes "10"))) ∷ Ends 26 ∷ [];
}

-- The header values fit in the octets of edition 4.
the_head_fits : IsFitting the_head
the_head_fits = record {
  edition = refl;
  fits = at-most (values_of the_head) (greatest_values 4) (
    (omega arith),
    (
      (omega arith),
      (
        (omega arith),
        (
          (omega arith),
          ((omega arith), ((omega arith), ((omega arith), ((omega arith), ((omega arith), ((omega arith), ((omega arith), ((omega arith), ((omega arith), ((omega arith), ((omega arith), tt))))))))))),
        ),
      ),
    ),
  );
}

-- The message can be dumped.
one_is_dumpable : IsDumpable one_block_number block_number
one_is_dumpable = record {
  head = the_head_fits;
  local1 = tt;
  section2 = tt;
  descriptors = (omega arith, tt);
  few = omega arith;
  counted = refl;
  items = ((record { word = omega arith; value = (omega arith, omega arith); comment = (refl, refl) }, tt), tt);
}

-- rule: reading-subset-end, reading-empty-lines, fault-50, fault-61, reading-subsets, fault-57
-- rule: input-ends-early, reading-last-line, reading-between-documents, reading-header-ranges
documents_read :
    (dump_text_of one_block_number block_number ≡ the_text)
    × (the_document ≡ the_document_written)
    × (documents_of the_text ≡ Complete the_document_written ∷ [])
    × (open_documents_of the_text ≡ Complete the_document_written ∷ [])
    × (documents_of (text_of_lines (head_lines ++ [] ∷ codes "# note" ∷ codes "subset 1" ∷ codes "001001 10" ∷ codes "end" ∷ [])) ≡ Complete noted_document ∷ [])
    × (documents_of (text_of_lines (head_lines ++ [] ∷ codes "# note" ∷ codes "subset 1" ∷ codes "001001 x" ∷ codes "end" ∷ [])) ≡ Refused 26 NotAllowed ∷ [])
    × (documents_of (text_of_lines (head_with (codes "centre 65536") (codes "subsets 1") ++ item_lines)) ≡ Refused 4 HeaderRange ∷ [])
    × (documents_of (text_of_lines (head_with (codes "centre 98") (codes "subsets 2") ++ item_lines)) ≡ Refused 25 SubsetCount ∷ [])
    × (documents_of (text_of_lines (take 24 (head_lines ++ item_lines))) ≡ Refused 25 NotAllowed ∷ [])
    × (open_documents_of (text_of_lines (take 24 (head_lines ++ item_lines))) ≡ [])
    -- The last line may lack its line feed, but only the end of input completes it.
    × (documents_of (text_of_lines (head_lines ++ take 2 item_lines) ++ codes "end") ≡ Complete the_document_written ∷ [])
    × (open_documents_of (text_of_lines (head_lines ++ take 2 item_lines) ++ codes "end") ≡ [])
    -- Between documents, a header line is not allowed.
    × (documents_of (the_text ++ text_of_lines (codes "centre 98" ∷ [])) ≡ Complete the_document_written ∷ Refused 26 NotAllowed ∷ [])
    -- edition 3: most values fit in one octet, and values that this edition lacks are 0
    × (documents_of (text_of_lines (lines_3 (codes "edition 3") (codes "centre 98") (codes "second 0") ++ item_lines)) ≡ Complete document_3 ∷ [])
    × (documents_of (text_of_lines (lines_3 (codes "edition 3") (codes "centre 256") (codes "second 0") ++ item_lines)) ≡ Refused 4 HeaderRange ∷ [])
    × (documents_of (text_of_lines (lines_3 (codes "edition 3") (codes "centre 98") (codes "second 5") ++ item_lines)) ≡ Refused 17 HeaderRange ∷ [])
    × (documents_of (text_of_lines (lines_3 (codes "edition 2") (codes "centre 98") (codes "second 0") ++ item_lines)) ≡ Refused 2 HeaderRange ∷ [])
    × (documents_of (text_of_lines (lines_3 (codes "edition 5") (codes "centre 98") (codes "second 0") ++ item_lines)) ≡ Refused 2 HeaderRange ∷ [])
    -- An edition 4 document that declares edition 3 is rejected at its year.
    × (documents_of (text_of_lines (codes "message" ∷ codes "edition 3" ∷ drop 2 head_lines ++ item_lines)) ≡ Refused 12 HeaderRange ∷ [])
unfolding header_lines subset_lines item_entries subset_entries keys leasts mosts digits runs_after hex_text descriptors_text quoted decimal_text_of unsigned_text parse_lines lines_of line_step
    line_of
    worded without_prefix descriptors_read fxy_read value_read quoted_read hex_read is_hashed parse_open_lines split_of
documents_read = (refl, refl, refl, refl, refl, refl, refl, refl, refl, refl, refl, refl, refl, refl, refl, refl, refl, refl, refl)

-- ---- The listing line of a message.

-- a message whose values are all different, so a swap of any two would be noticed
abbrev all_different : Sections
all_different = record {
  head = record {
    edition = 4;
    master = 11;
    centre = 1234;
    subcentre = 56;
    update = 7;
    category = 8;
    subcategory = 9;
    local_subcategory = 10;
    master_version = 12;
    local_version = 13;
    year = 987;
    month = 14;
    day = 15;
    hour = 232;
    minute = 6;
    second = 0;
  };
  local1 = [];
  section2 = Some [];
  descriptors = 1 ∷ 2 ∷ 3 ∷ [];
  subsets = 65535;
  observed = false;
  compressed = true;
  payload = [];
  size = 77;
}

-- rule: listing-line, listing-offset-and-length, listing-time, listing-flags
different-listed : ls_line 4294967296 all_different ≡ codes "offset=4294967296 length=77 edition=4 centre=1234/56 update=7 category=8/9/10 tables=11/12/13 time=0987-14-15T232:06:00 subsets=65535 observed=0 compressed=1 optional=1 descriptors=3\n"
unfolding digits
different-listed = refl

-- ---- Proper documents, each next to a similar one that is not proper.

one_item : IsProper (document 0 1 (257 ∷ []) (number 24 257 (codes "10") ∷ Ends 25 ∷ []))
unfolding document number keys leasts mosts
one_item = record {
  headed = record { whole = refl; ranges = refl };
  local1 = tt;
  section2 = tt;
  no_section2 = λ e. refl;
  descriptors = (omega arith, tt);
  texts = ((tt, tt), tt);
  counted = refl;
  ended = tt;
}

-- one subset fewer than the `subsets` line declares
one_of_two : IsProper (document 0 2 (257 ∷ []) (number 24 257 (codes "10") ∷ Ends 25 ∷ [])) → ⊥
unfolding document number
one_of_two h = omega (arith, h.counted)

-- an item after the end of the last subset
no_end : AreEnded (Ends 24 ∷ number 25 257 (codes "10") ∷ []) → ⊥
unfolding number
no_end h = h

-- a number among the octets for local use that is not an octet
past_an_octet : (d : Document) → IsProper (record d { local1 = 256 ∷ [] }) → ⊥
past_an_octet d h = omega (arith, h.local1.0)

some-none : (x : ℕ) (more : List ℕ) → x ∷ more ≡ [] → ⊥
some-none x more e = cc

-- octets of section 2, although `optional` is 0
no_section2 : IsProper (record (document 0 0 [] []) { section2 = 1 ∷ [] }) → ⊥
unfolding document
no_section2 h = some-none 1 [] (h.no_section2 refl)

-- ---- Numbered lines.

-- Comments and empty lines are skipped, but counted.
passed_over : numbered_lines 21 (codes "# x" ∷ [] ∷ codes "subset 1" ∷ codes "001001 10  # x" ∷ codes "end" ∷ codes "x" ∷ [])
    ≡ numbered_line 23 (SubsetLine 1) ∷ numbered_line 24 (ItemLine 257 (number_token (codes "10"))) ∷ numbered_line 25 EndLine ∷ numbered_line 26 Invalid ∷ []
unfolding numbered_lines line_of worded without_prefix fxy_read value_read is_hashed keys leasts mosts
passed_over = refl

abbrev subset_at : (at : ℕ) → NumberedSubset
subset_at at = record { at = at; items = draft (at + 1) 257 (number_token (codes "10")) ∷ [] }

-- A subset ends on the line that begins the next subset, and the last subset on the `end` line.
two_ends : entries_of_subsets (subset_at 23 ∷ subset_at 25 ∷ []) 27 ≡ number 24 257 (codes "10") ∷ Ends 25 ∷ number 26 257 (codes "10") ∷ Ends 27 ∷ []
unfolding number
two_ends = refl

-- Subsets are numbered from 1.
two_subsets : lines_of_subsets 1 (subset_at 23 ∷ subset_at 25 ∷ [])
    ≡ numbered_line 23 (SubsetLine 1) ∷ numbered_line 24 (ItemLine 257 (number_token (codes "10"))) ∷ numbered_line 25 (SubsetLine 2) ∷ numbered_line 26 (ItemLine 257 (number_token (codes "10"))) ∷ []
two_subsets = refl

-- ---- The lines of a document.

abbrev header_heard : List NumberedLine
header_heard =
    numbered_line 2 (Header 0 4) ∷ numbered_line 3 (Header 1 0) ∷ numbered_line 4 (Header 2 98) ∷ numbered_line 5 (Header 3 0) ∷ numbered_line 6 (Header 4 0)
    ∷ numbered_line 7 (Header 5 0) ∷ numbered_line 8 (Header 6 0) ∷ numbered_line 9 (Header 7 0) ∷ numbered_line 10 (Header 8 14) ∷ numbered_line 11 (Header 9 0)
    ∷ numbered_line 12 (Header 10 2024) ∷ numbered_line 13 (Header 11 1) ∷ numbered_line 14 (Header 12 2) ∷ numbered_line 15 (Header 13 3) ∷ numbered_line 16 (Header 14 4)
    ∷ numbered_line 17 (Header 15 5) ∷ numbered_line 18 (Header 16 1) ∷ numbered_line 19 (Header 17 0) ∷ numbered_line 20 (Header 18 0) ∷ numbered_line 21 (Header 19 1) ∷ []

one_document : IsDocument (document 0 1 (257 ∷ []) (number 24 257 (codes "10") ∷ Ends 25 ∷ []))
    (numbered_line 1 MessageLine ∷ header_heard ++ numbered_line 22 (Descriptors (257 ∷ [])) ∷ numbered_line 23 (SubsetLine 1) ∷ numbered_line 24 (ItemLine 257 (number_token (codes "10")))
    ∷ numbered_line 25 EndLine ∷ [])
unfolding document number
one_document = record {
  header = header_heard;
  local1 = [];
  section2 = [];
  descriptors = (257 ∷ []) ∷ [];
  written = numbered_line 22 (Descriptors (257 ∷ [])) ∷ [];
  subsets = subset_at 23 ∷ [];
  end = 25;
  are = refl;
  in_order = refl;
  parts = refl;
  local1_is = refl;
  section2_is = refl;
  descriptors_are = refl;
  flagged = inl refl;
  counted = refl;
  entries = refl;
}
