-- Worked examples of the fault that is reported for a message, document or run, and of exit
-- statuses.
use Rattle.std.proofs.Common.{◌≡◌, ◌++◌, ℕ, List, [], ◌∷◌, map, take, slice_set, replicate, refl, codes}
use Rattle.std.specs.Fmt.{digits}
use Rattle.bufr_bits.specs.Prelude.{bits_of, decimal_value_of}
use Rattle.bufr_frame.specs.Prelude.{min_section_1, FrameAt, sections_of, section_end}
use Rattle.bufr_frame.specs.declared.fault.RunFault.TheVariants.{Read, Write, InputTooLong, Memory}
use Rattle.bufr_tables.specs.Prelude.{tree_of, inner_of, level, part_of}
use Rattle.bufr_tables.specs.declared.fault.TableFault.TheVariants as table
use Rattle.bufr_walk.specs.Prelude.{next_item}
use Rattle.bufr_text.specs.Prelude.{leasts, mosts, lines_of, parse_lines, line_step, documents_of, encoding_in, without_prefix, descriptors_read, fxy_read, hex_read, is_hashed, quoted_read, keys, line_of, value_read, worded, split_of}
use Rattle.bufr_text.specs.declared.encode.Form.TheVariants.{AsWritten}
use Rattle.bufr_cli.specs.Prelude.{dump_piece, ls_piece, encode_pieces, up_to_refused, Piece, OnErrors, status_of, Tally}
use Rattle.bufr_cli.specs.declared.outcome.Outcome.TheVariants.{Ran, TableB, TableD, Run}
use Rattle.bufr_cli.proofs.Examples.{one_block_number}
use Rattle.bufr_cli.proofs.RoundTripExamples.{blocks}

-- ---- If a message has two faults, the first is reported: sections, then template, then data.

-- a message with one block number and no data, a message whose section 4 is one octet too short,
-- and the same message as edition 2
abbrev without_data : List ℕ
without_data = slice_set (take 39 one_block_number) 6 47 ++ 0 ∷ 0 ∷ 4 ∷ 0 ∷ 55 ∷ 55 ∷ 55 ∷ 55 ∷ []

abbrev past_section_4 : List ℕ
past_section_4 = slice_set one_block_number 41 4

abbrev edition_2 : List ℕ
edition_2 = slice_set past_section_4 7 2

-- Table B lacks the element, so each message also has a fault in its template, and messages without
-- data have a fault in their data. The example fails if the template is checked before the
-- sections, or the data before the template.
-- rule: one-fault-a-message, list-before-data
sections_then_template_then_data :
    map (λ octets. dump_piece [] [] (FrameAt 0 octets)) (edition_2 ∷ past_section_4 ∷ without_data ∷ [])
    ≡ OnErrors (codes "offset 0: 10 edition 2\n") ∷ OnErrors (codes "offset 0: 13 sections do not meet the end\n") ∷ OnErrors (codes "offset 0: 20 unknown element 001001\n") ∷ []
unfolding sections_of section_end min_section_1 tree_of inner_of level part_of next_item bits_of digits
sections_then_template_then_data = refl

-- If Table B has the element, the data are invalid, but the sections are checked first.
-- rule: one-fault-a-message
sections_then_data :
    map (λ octets. dump_piece blocks [] (FrameAt 0 octets)) (past_section_4 ∷ without_data ∷ [])
    ≡ OnErrors (codes "offset 0: 13 sections do not meet the end\n") ∷ OnErrors (codes "offset 0: 30 data end at subset 1 descriptor 001001 bit 0\n") ∷ []
unfolding sections_of section_end min_section_1 tree_of inner_of level part_of next_item bits_of digits
sections_then_data = refl

-- `ls` reports the same faults of sections.
-- rule: one-fault-a-message
sections_listed : map (λ octets. ls_piece (FrameAt 0 octets)) (edition_2 ∷ past_section_4 ∷ [])
    ≡ OnErrors (codes "offset 0: 10 edition 2\n") ∷ OnErrors (codes "offset 0: 13 sections do not meet the end\n") ∷ []
unfolding sections_of section_end min_section_1 digits
sections_listed = refl

-- ---- If a text has two faults, the first is reported.

-- a document of one block number, with these lines after its descriptors
abbrev document_with : List ℕ → List ℕ
document_with rest =
    codes "message\nedition 4\nmaster 0\ncentre 98\nsubcentre 0\nupdate 0\ncategory 0\nsubcategory 0\nlocalsubcategory 0\nmasterversion 14\nlocalversion 0\nyear 2024\nmonth 1\nday 2\nhour 3\nminute 4\nsecond 5\nobserved 1\ncompressed 0\noptional 0\nsubsets 1\ndescriptors 001001\n"
    ++ rest

-- the pieces that `encode` writes for a text
written : List ℕ → List Piece
unfolding up_to_refused parse_lines lines_of split_of line_step line_of worded keys leasts mosts without_prefix descriptors_read fxy_read value_read quoted_read hex_read
    is_hashed
    encoding_in tree_of level part_of inner_of next_item decimal_value_of digits
written text = encode_pieces AsWritten blocks [] (documents_of text)

-- A document is read to its end before its template and items are checked. Faults 50 and 57 on a
-- later line are reported instead of the fault of the item on line 24, except in the next document.
-- rule: document-read-first, first-refusal-ends
lines_then_items : map written (document_with (codes "subset 1\n001001 200\nend\n") ∷ document_with (codes "subset 1\n001001 200\nend \n") ∷ document_with (codes "subset 1\n001001 200\nsubset 2\n")
    ∷ document_with (codes "subset 1\n001001 200\n")
    ∷ (document_with (codes "subset 1\n001001 200\nend\n") ++ codes "end\n") ∷ [])
    ≡ (OnErrors (codes "line 24: 53 out of range\n") ∷ []) ∷ (OnErrors (codes "line 25: 50 line\n") ∷ []) ∷ (OnErrors (codes "line 25: 57 subset count\n") ∷ [])
    ∷ (OnErrors (codes "line 25: 50 line\n") ∷ [])
    ∷ (OnErrors (codes "line 24: 53 out of range\n") ∷ []) ∷ []
unfolding written
lines_then_items = refl

-- ---- The exit statuses.

abbrev tally : (accepted refused : ℕ) → Tally
tally accepted refused = record { accepted = accepted; refused = refused }

-- The status of a run depends on what was refused, however much was accepted: 0 if nothing was
-- refused, and 1 otherwise.
-- rule: status-0-and-1
status_of_runs : map status_of (Ran (tally 0 0) ∷ Ran (tally 9 0) ∷ Ran (tally 9 1) ∷ Ran (tally 0 1) ∷ Ran (tally 0 2) ∷ Ran (tally 9 65536) ∷ []) ≡ 0 ∷ 0 ∷ 1 ∷ 1 ∷ 1 ∷ 1 ∷ []
status_of_runs = refl

-- The status is 2 for every fault of a device or a table.
-- rule: status-of-table
status_of_faults :
    map status_of (Run Read ∷ Run Write ∷ Run InputTooLong ∷ Run Memory ∷ TableB table.Header ∷ TableB (table.Row 2) ∷ TableB (table.Duplicate 257) ∷ TableD (table.Cycle 49153)
    ∷ TableD table.TableSize ∷ TableD table.Csv ∷ TableD table.Memory ∷ [])
    ≡ replicate 11 2
status_of_faults = refl
