-- Re-exports the names that proofs and other crates use, and declares nothing.
pub use Rattle.bufr_fill.specs.Draft.{draft, text_form, missing_form, reference_token, subset, at_line, item_too_many, too_many_values, walk_refused, number_token, Draft, DraftEntry, Holds, Ends, Subset, prepend_to_subset, subsets_of, DraftValue, ValueKind, entry_by, value_by, is_end, ends_of, has_octets_of_kind, has_octets, entry_with, entries_stored, AreOctetsInside, IsEntryInside, AreInside, octets_stored, draft_in, form_in, item_report, expected_text, refusal_parts, number_of_draft_fault, Role, FieldContent, returned, raw_limit, content_of, normal_form, raw_within, is_of, is_marked, wrong_for, content_by_form, padded_content, draft_value_of, raw_of, reference_of, text_within, IsMinusZero, decimal_again, IsContentOf, spaced}
pub use Rattle.bufr_fill.specs.declared.fault.DraftFault.{DraftFault}
pub use Rattle.bufr_fill.specs.declared.fault.ItemFault.{ItemFault}
pub use Rattle.bufr_fill.specs.declared.fault.WalkRefusal.{WalkRefusal}
pub use Rattle.bufr_bits.specs.Prelude.{◌>>=◌, map_err}
pub use Rattle.bufr_fill.specs.Encoding.{Kind, Taken, lowest, least_k, packed_bits, packed_unlike, packing, k_of, HasLeastK, first_from, item_row, pack_across, RowCell, cells_at, plain_filler, ItemRow, written_item, Filler, write_first, none_over, filling, fill_pass, with_items, bits_written, bits_of_pass, fill, with_bits_before, plain_data, packed_data, data_bits, rows, most_items, item_content, row_contents, packed_filler, first_line, WrittenItem, packing_fault, first_unlike, unlike_line, cell_line, first_item_line, has_increment, increment_for, packed_over}
pub use Rattle.bufr_fill.specs.Steps.{Writing, pass_writing, writing_then, bits_of_writing, plain_writing, packed_writing, writing_of}
pub use Rattle.bufr_fill.specs.RoundTrip.{FitsNumber, FitsText, FitsKind, FitsRole, Fits, AllFit, AllAlike, HasOctets, AllHaveOctets, IsSpecified, AreSpecified, AreOctets, AreDrafts, IsDumped, FitsReference, HasReading, IsReadBack, IsWritten, AreDumped, IsUnlike, IsTogetherOrNot, IsWrittenAgain, IsAlike, OfTemplates, WritesDrafts}
pub use Rattle.bufr_fill.specs.Writers.{line_at, PlainOutModel, plain_out_model, IsFilled, IsFaultOf, IfDraftFault, after_end, PlainFills, IsFaultNext, items_left, end_left, ReturnsRow, PutAcross, PacksItem, entry_content, entry_or_end, AreContentsOf, padded_contents, need_of, most_need, FitsIncrement, AreShort, and_end, all_at_end, IsPutWithin, trimmed, spread, need, over_of, number_or, least_number, PackedOutModel, IsPacked, PackedFills, rows_left, new_packed_out, first_line_at, IsFaultHere, EndsAllSubsets, IsRangeOf, IsPutAcross, StartsPackedOut, AreTransposed}
unfoldable pub use Rattle.bufr_fill.specs.Writers.{least_from}
pub use Rattle.bufr_walk.specs.Prelude.{same}
