-- This file only re-exports the names that proofs and other crates use.
pub use Rattle.bufr_tables.specs.Fxy.{only_if, f_of, x_of, y_of, fxy_of, fxy_text, mark_of, place_of, key_of, is_fxy, f_in, x_in, y_in}
pub use Rattle.bufr_tables.specs.TableB.{ExtendsBlock, IsStored, row_parsed, stored_rows, IsRowKept, stored_row, Row, entry_of, row_comment, row_line_start, IsRow, allows_width, is_name, AreRows, columns_b, table_b_of, with_row, is_character, is_printed}
unfoldable pub use Rattle.bufr_tables.specs.TableB.{natural_of, i64_of, begins_with, kind_of, element_of, plain_of, row_of, scale_of, width_of, with_record_b}
pub use Rattle.bufr_tables.specs.Records.{◌>>=◌, records_of, Record, GivesNext, IsBetween, count_of, record_given, records_after, text_left, field_of, IsOpened, records_left, field_texts, has_header, ReturnsUnlessMemory, octets_left}
unfoldable pub use Rattle.bufr_tables.specs.Records.{table_from, table_of}
pub use Rattle.bufr_tables.specs.Entry.{row_of_entry}
pub use Rattle.bufr_tables.specs.TableD.{IsFirstCycle, Leads, one, more, ReadsTableD, Sequence, table_d_of, Chain, ReachesItself, fxys_of, members_or_none, members_of, IsAbove, IsSet, IsVisited, Falls, rank_of, unset, IsMemberRange, LastEnds, run_key, stored_sequence, stored_sequences, extended, is_last, AreSequences, Member, begins_again, columns_d, members_in, with_member}
unfoldable pub use Rattle.bufr_tables.specs.TableD.{with_record_d, added, member_of}
pub use Rattle.bufr_tables.specs.Cells.{first_tree, cells_of, factor_first, prepend_cell, read_cells, trees_of_cells, AreCellsOf, IsTemplate, tree_code}
pub use Rattle.bufr_tables.specs.Growing.{builder_model}
pub use Rattle.bufr_tables.specs.Expansion.{Tables, Expansion, part, ExpandedPart, unless, with_places, body_of, sequence_part, element_part, group_part, operator_part, is_factor, begins_with_element, fixed_part, delayed_part, max_open, IsKnownAfter, IsKnown, IsLegal, is_element_first, EveryGroupConsumes, IsSound, leaves, ListsLeaves, says_nothing, says_itself, says_replication, says_sequence, tables_of}
unfoldable pub use Rattle.bufr_tables.specs.Expansion.{part_of, level, inner_of, tree_of}
pub use Rattle.bufr_tables.specs.Growth.{own_places, group_of, first_cell, factor_cells, BuilderModel, growth, places_so_far, push_tree, with_open_group, with_closed_group, PushesTree, PushesPart, IsFaultOrMemory, PushesTreeUnlessMemory, GivesPart, GivesGrowth, OpensGroup, tables_in}
pub use Rattle.bufr_tables.specs.Tree.{Tree, bare, element, operator, fixed, delayed, join, depth, consumes, is_inserted_text, gives_width, size, places, is_legal_operator, has_legal_operand}
pub use Rattle.bufr_tables.specs.FaultNumber.{template_report, table_report}
pub use Rattle.bufr_tables.specs.declared.fault.TableFault.{TableFault}
pub use Rattle.bufr_tables.specs.declared.fault.TemplateFault.{TemplateFault}
pub use Rattle.bufr_tables.specs.declared.template.Cell.{Cell}
