-- This file only re-exports the names that proofs and other crates use.
pub use Rattle.bufr_frame.specs.Events.{events_of, IsEvent}
pub use Rattle.bufr_frame.specs.Finder.{NeedsRead, min_held, GivesHeldEvent, ReadsMore, input_left, len_at, passed_by, IsEventAt, IsNextEvent, IsIncomplete, gone_to, FinderModel, ReadsAndPasses, Follows, new_finder, IsStatedLength, RaisesLongest, HasNoMoreEvents, held, EachReadIsNeeded, CallReadsAreNeeded, ReturnsNextEvent, LeavesFinder, events_returned, StartsWithBufr, HasNoFurtherEvent, HoldsUnread, StopsFinder, IsUndecided}
pub use Rattle.bufr_frame.specs.Input.{AddsReads, asked_by, AsksAtMost, max_reads, ReadsOnce, ReadsInput, InputEnds, FillFails, FillEnds, InputModel, FillsInput, SlidesOver, read_failures_after, MakesReads}
pub use Rattle.bufr_frame.specs.Layout.{MessageParts, message_octets, message_size, section0_octets, section1_octets, section2_octets, section3_octets, section4_octets, data_flags, sections_from, head_octets, even_size, with_even_length, with_pad_octet, is_writable, size_from, parts_of, parts_in, max_extra_octets, max_octets, IsFitting}
pub use Rattle.bufr_frame.specs.Scan.{StreamEvent, FrameAt, scan, open_scan, stream_event, candidate_len, is_decided, Advances, NoEventCertain, first_event, StrayAt, has_word_at, classify, stated_or_zero, longest_of, offset_of, stated_length}
unfoldable pub use Rattle.bufr_frame.specs.Scan.{scan_from}
pub use Rattle.bufr_frame.specs.Numbers.{run_report, cause_report, section_report}
pub use Rattle.bufr_frame.specs.Octets.{u24_at, u16_at, words, three_octets, two_octets, octets_of_words, words_left}
pub use Rattle.bufr_frame.specs.Sections.{parts, has_section2, is_long_edition_3, Sections, is_padded, parts_if_end_matches, IsPlain, section2_begins, section3_begins, section4_begins}
unfoldable pub use Rattle.bufr_frame.specs.Sections.{sections_of, section_end}
unfoldable pub use Rattle.bufr_frame.specs.Section1.{min_section_1}
pub use Rattle.bufr_frame.specs.Section1.{is_edition, edition_of, octet_at, flags_of, head_of, head_by, value_at, greatest, HeadOctets, octets_3, octets_4, values_of, greatest_values}
pub use Rattle.bufr_frame.specs.declared.finder.Candidate.{Candidate}
pub use Rattle.bufr_frame.specs.declared.section1.Head.{Head}
