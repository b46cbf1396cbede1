-- Re-exports the names that proofs and other crates use, and declares nothing.
pub use Rattle.bufr_walk.specs.Rules.{TableField, TurnRefusal, operator_width, AreOperands, IsOperatorKey, OperatorModel, IsKey, is_defining, element_spec, factor_spec, factor_field, spec_by_kind, new_reference_spec, numeric_spec, coded_spec, text_spec, text_width, local_width_spec, unsigned_field, begin, IsFieldKey, spec_key, HasOctetOperands, IsSpecKey, Dependence, by_reference, dependence, dependence_number, HasNumber, OnNothing, OnWidth, OnReference, with_all, known_of, last_of, redefined, descriptor_of, key_word, spec_of, Redefined, current_reference, with_reference, known_by, after_operator, after_field, inserted_spec, if_valid_width, defined_field, operator_model, scale_change_of, with_references, with_operator}
pub use Rattle.bufr_walk.specs.Course.{WalkStop, Course, Turns, finish, operator_turn, Rest, unroll, passes, pass_end, Next, take_next, refused, at_end, astray, ahead, asked, operated, counts_of, TakenField, Takes, oks, answers_of, StopsWalk, open_end, group, element_turn, turns_of, TakesField, stop_by, factor_turn}
pub use Rattle.bufr_walk.specs.Steps.{NextTurn, CountedCourse, uncounted, counted_item, turns_ahead, turns_asked, turns_operated, Walked, ticked}
unfoldable pub use Rattle.bufr_walk.specs.Course.{next_item}
pub use Rattle.bufr_walk.specs.Content.{increments, ones, answer_first, packed_field, FieldSpec, IsSpec, IsField, IsWithin, AreWithin, HasRole, is_reference, Content, number, missing, content_in, answer_of, answer_by_role, FieldRead, shown_number, shown_text, shown_missing, shown_reference, HasWidth, HasMissing, number_field, ShownValue, shown, found, text, octets_in, signed_by, plain_field, IsFor, IsForRole, is_plain_number, is_plain, IsPlainNumber, reference, bits_for, sign_bit, Kind, Taken, Role, Coding, numbers, texts, references, coding_by, coding_of, step_of, increased, all_there, contents_across, same, if_equal, content_by}
pub use Rattle.bufr_walk.specs.Reading.{packed, fault_at, max_values, Stop, Read, course_of, Item, plain, after, counted_course_of, turns_in, Values, apart, together, DataCoding, items_at_once, ReadsItems, Data, spot, bits_before, would_be_many, data_of, stored_count, data_report, spot_text, WalkFault, items_of_subset, subsets_from, each_subset, without_turns, PackedValues, items_between, IsSameInAll, range_calls, packed_calls, walk_shown, Call, Timed, item_calls, subset_calls, calls_for, items_called, turns_for, Shows, seen_value, item_call, view_of, timed, EndsAt, IsReferenceValue, subset_call, View, seen, ShowFault, answers_in}
pub use Rattle.bufr_walk.specs.Readers.{data_in, read_by, view, place_at, content_at, items_by_pass, first_items, Cursor, rest_of, past, IsTaken, Stage, stage, IsShown, IsUnshown, ShowingTakes, Sofar, ItemsGo, PlainTakes, stored_content, contents_found, was_found, has_base, fits_at, are_valid, IsStoredReading, PaysBits, items_in, IsSeen, IsUnseen, PackedCursor, start_of, item_at, items_at, packed_view, packed_values, IsPackedIn, IsPackedTaken, PackedTakes, remaining_bits, refuses_packed, new_packed_in, KeepsValues, stored_call, held_of, IndexedItem, IsAllShown}
pub use Rattle.bufr_walk.specs.TemplateCache.{with_room, IsSpecBy, IsSpecFor, MayStay, IsOther, Lists, IsSlotBy, IsKept, list_of, lists_of}
pub use Rattle.bufr_walk.specs.Pass.{Step, Passing, Pass, Place, DataPass, DataReading, reading_of, values_read, fault_of, calls_of, turns_shown, IsPackedOf, ReadsData, AnswersReading, passes_apart, passes_together, stop_of, left_after, turns_read, turns_read_in, read_pass, pass, reading, EndsPass, ReadsTo}
