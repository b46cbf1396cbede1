-- Re-exports the names that proofs and other crates use, and declares nothing.
pub use Rattle.bufr_text.specs.Line.{runs_of, escaped, hex_pair, is_unescaped, without_space, is_number_octet, is_end_or_comment, onto_read, either_value, pair_value, QuotedToken, Closed, Octet, Nothing, upper_value, escape_of, quoting_of, quoted_on, number_read, hex_digit, Line, Skipped, MessageLine, Header, Local1, Section2, Descriptors, SubsetLine, ItemLine, EndLine, lead_of, Invalid, Describes, Unhexes, Unquotes, number_value, with_one_to, item_line, item_if_comment, short_form, is_named}
unfoldable pub use Rattle.bufr_text.specs.Line.{runs_after, descriptors_text, hex_text, quoted, without_prefix, hex_read, fxy_read, descriptors_read, quoted_read, is_hashed, keys, value_read, worded, line_of}
pub use Rattle.bufr_text.specs.Dump.{zero_padded, counts_texts, ls_line, source_texts, time_texts, local1_line, section2_line, descriptors_line, subset_line, item_text, dump_value_of, IsOctet, IsDescriptorWord, IsItem, header_of, head_lines, dump_lines, dump_text_of, document_of, lines_before, IsDumpable, items_shown, text_of_lines, dump_items, IsValue, IsComment, comment_text, form_text}
unfoldable pub use Rattle.bufr_text.specs.Dump.{header_lines, subset_lines, item_entries, subset_entries}
pub use Rattle.bufr_text.specs.Reader.{NeedsLine, GivesHeldDocument, has_no_feed, ReaderPosition, ContinuesParse, TakesWholeLines, TakesEndLine, ReaderModel, position_of, position_after, IsMissingFeed, ReadsLines, EndsAtEndLine, parse, parse_open, new_reader, HasNoMoreLines, KeepsUnread, ReadsOnlyIfNoLine, ReturnsNextDocument, HasNoWholeLine, unfed, parse_results, ReadsDocument, LeavesReader, failures_by, line_report, number_of_read_fault}
pub use Rattle.bufr_text.specs.Writing.{MovesPrefix, Writes, GrowsByPrefix, CountsWrites, LineModel, Moves, MovesOn, StaysFailed, PushesFrom, Pushes, PushesSomehow, gathered_by, Puts, Stays, Fails, CountsFaults, MakesSteps, StepsWithin, WritesPrefix, call_line, PushesCall}
pub use Rattle.bufr_text.specs.Alike.{item_lines, lines_between, PushesAlike, IsStretch, AreStretches, AreGathered}
unfoldable pub use Rattle.bufr_text.specs.Line.{leasts, mosts}
pub use Rattle.bufr_text.specs.Documents.{max_line, most_entries, Document, DocumentHeader, header_in, Parsing, between, LineStep, in_range, heading, beginning, closing, with_entry, read_line, parsing_after, reported_at, reported_at_end, documents_of, blank, Complete, ParseResult, Refused, open_documents_of, IsHeaded, section2_in, Split, onto_split, before_subsets, in_subset, are_in_range, adds}
unfoldable pub use Rattle.bufr_text.specs.Documents.{line_step, parse_lines, lines_of, parse_open_lines, split_of}
pub use Rattle.bufr_text.specs.Spelling.{NumberedLine, numbered_line, prepend_line, parsed_header, NumberedSubset, lines_of_subsets, first_at, entries_of_subsets, IsDocument, AreReported, IsProperlyReported, AreProper, IsProper, AreEnded, header_as, normal_head, normal_line, draft_answer, line_and, normal_items, normal_subsets, normal, IsWhole}
unfoldable pub use Rattle.bufr_text.specs.Spelling.{numbered_lines}
pub use Rattle.bufr_text.specs.Taking.{IsBare, IsParsing, IsLineStep, parsing_of, ParsesHeldLines, ReadsMoreText, TakesHeldLines, FillsBuffer, text_input, stopped, position_with, TakesLines, IsTaking, WantsAt, ends_by_feed, IsProgress, IsReader, WantsHere, HasLineGroups, EntryHasOctets, HasSubsets, meaning}
pub use Rattle.bufr_bits.specs.Prelude.{◌>>=◌, map_err}
pub use Rattle.bufr_text.specs.Encoding.{bits_by, places_by, WritesData, data_bits, octets_of_bits, encoding_of, parts_as, compressed_as, message_of, IsDocumentRefusal, WritesForm, document_fault, document_report, line_of_fault, compressed_by, form_of_flag, turns_by, AreOctetsOf, IsData, stop_fault, CountsSteps, IsNoData, writing_in}
unfoldable pub use Rattle.bufr_text.specs.Encoding.{encoding_in}
pub use Rattle.bufr_text.specs.RoundTrip.{IsCanonical, IsAccepted, HaveNoMinusZero, ArePacked, AreWritten, IsEncodedAgain, EncodesAgain, HasReadingIn, IsForForm, IsFormed, IsFaultIn, EncodesForm, extra_octets, SaySame, HasSameReading, AreValuesOf, IsReadAs}
pub use Rattle.bufr_text.specs.declared.encode.Form.{Form}
pub use Rattle.bufr_text.specs.declared.encode.Form.TheVariants.{AsWritten}
pub use Rattle.bufr_text.specs.declared.fault.DocumentFault.{DocumentFault}
pub use Rattle.bufr_text.specs.declared.fault.ReadFault.{ReadFault}
pub use Rattle.bufr_text.specs.declared.fault.TextLineFault.{TextLineFault}
pub use Rattle.bufr_text.specs.declared.fault.TextLineFault.TheVariants.{NotAllowed, SubsetCount, HeaderRange}
pub use Rattle.bufr_text.specs.declared.document.ParserState.{ParserState}
pub use Rattle.bufr_text.specs.declared.document.ParserState.TheVariants.{Between, Heading, BeforeSubsets, Filling, Stopped}
pub use Rattle.bufr_text.specs.declared.document.LineEffect.{LineEffect}
pub use Rattle.bufr_text.specs.declared.document.LineEffect.TheVariants.{Continues, Completes, Refuses}
