-- Re-exports the names that proofs and other crates use, and declares nothing itself.
pub use Rattle.bufr_cli.specs.RoundTrip.{accepted_in, accepted_messages, dump_pieces, dumped, longer_by, event_octets, rebuilding, rebuilt, IsBuiltAgain, IsWholeRound, written_by, IsCanonicalMessage, RoundTrips, Written, IsDumpedInOneSpelling, before_refused, built, form_pieces, normal_by, normal_text, RunsInMemory}
unfoldable pub use Rattle.bufr_cli.specs.RoundTrip.{normal_texts}
pub use Rattle.bufr_cli.specs.Running.{HasFlushed, IsFlushed, FlushesBoth, IsFlushedIf, FlushesIf, FlushesWritten, unflushed_after, RunPieces, WritesWhole, event_pieces, read_pieces, ReadsAndWrites, RunEnds, IsAllWritten, IsUnrefused, FlushesAtMost, FlushesByRead, FlushFails, NoFlushFails, LeavesDevices, WritesPieces, WritesPrefixes, Tallies, ReadsFewer, BlamesWriter, CountsCalls, Input, Writers, ReadsAll, WrittenInPart, holding, document_pieces, ReadsAtMost, Writer, input_of, writers_of, OnlyWrites, writer_of, HasNotFailed, HasFailed}
pub use Rattle.bufr_cli.specs.Steps.{LeavesOther, LeavesPiece, StopsPiece, RunReads, counted_accepted, counted_refused, tally_after, Progress, no_progress, with_piece, with_octets, IsOpen, IsDone, IsCut, TakesStep, ReadsOctets, CountsRead, WritesEvents, NeedsOctets, WritesDocuments, EncodesDocuments, NeedsText}
pub use Rattle.bufr_cli.specs.FaultLine.{report_line, document_line, line_of_read_fault, refusal_line, fault_line, stream_report}
pub use Rattle.bufr_cli.specs.Pieces.{Piece, output_of, errors_of, is_accepted, is_refused, dump_piece, OnOutput, OnErrors, text_or_fault, dump_or_report, encode_pieces, encoded, result_piece, ls_piece}
unfoldable pub use Rattle.bufr_cli.specs.Pieces.{up_to_refused}
pub use Rattle.bufr_cli.specs.Ending.{EndsRun, FlushesRest, WritesLine, run_line, last_line, status_of, table_line}
pub use Rattle.bufr_cli.specs.Line.{bufr_app, no_job_text, word_of, HasTables, IsWhyNoJob, SaysWhy, name_of, form_rule, table_rule, tables_app, top_app, AreNamed, GivesNoJob, IsJobOf}
pub use Rattle.bufr_cli.specs.Program.{InputName, Opens, standard_name, file_name, table_names, input_name, InPart, InWhole, WritesHelp, command_pieces, NoTableB, NoTableD, FailsToRead, IsNotOpened, IsUnread, Runs, RunsOver, RunsOverInput, WantsMemory, known_inputs, ByTables, CommandOutcome, KnownInputs, NoTables, AnswersFault, Answers, Does, RunsProgram, AreTables, AreUnread, IsClosed, RunOutcome, TableOutcome, ran_outcome}
pub use Rattle.bufr_cli.specs.declared.outcome.Tally.{Tally}
pub use Rattle.bufr_cli.specs.declared.outcome.Verdict.{Verdict}
pub use Rattle.bufr_cli.specs.Buffering.{CallsAtMost, flushes_by, CountsCall, StaysBounded, flushed_by, taken_by}
