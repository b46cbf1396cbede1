-- Defines the last flush, the last line of the error output, and the exit status of a run (not part
-- of FM 94 BUFR).
-- Cited by public contracts.
use Rattle.std.specs.Prelude.{◌≡◌, ◌⊎◌, ◌<◌, ◌≤◌, ◌-◌, ◌^◌, ℕ, true, List, Result, Ok, Err, if◌then◌else◌, ◌==◌, [], ◌∷◌, codes}
use Rattle.std.specs.Io.KnownBytes.{Appends, Keeps}
use Rattle.bufr_bits.specs.Prelude.{counted}
use Rattle.bufr_frame.specs.Prelude.{run_report}
use Rattle.bufr_frame.specs.declared.fault.RunFault.{RunFault}
use Rattle.bufr_frame.specs.declared.fault.RunFault.TheVariants.{Read, Write, Memory}
use Rattle.bufr_text.specs.Prelude.{GrowsByPrefix}
use Rattle.bufr_cli.specs.Running.{HasNotFailed, Input, LeavesDevices, Writer, Writers, RunPieces}
use Rattle.bufr_cli.specs.declared.outcome.Tally.{Tally}
use Rattle.bufr_tables.specs.Prelude.{table_report}
use Rattle.bufr_tables.specs.declared.fault.TableFault.{TableFault}
use Rattle.bufr_tables.specs.declared.fault.TableFault.TheVariants as table
use Rattle.bufr_cli.specs.declared.outcome.Outcome.{Outcome}
use Rattle.bufr_cli.specs.declared.outcome.Outcome.TheVariants.{Ran, Usage, CannotOpen, TableB, TableD, Run}
use Rattle.std.specs.List.{concat}
use Rattle.bufr_cli.specs.FaultLine.{report_line}

-- Whether the output is flushed after a run depends on the run's result (see the cases below).
abbrev pub FlushesRest : {X : Type 0} → (before after : Writer) → Result X RunFault → Type 0
-- a run that completed has already flushed the output
FlushesRest before after (Ok x) = after ≡ before
-- if a read failed, the output was unchanged or had already been flushed (see `HasFlushed`)
FlushesRest before after (Err Read) = after ≡ before
-- after a failed write, the output is not used again
FlushesRest before after (Err Write) = after ≡ before
-- After `Memory` or `InputTooLong`, the output is flushed at most once, and nothing more is written
-- to it. Either everything was flushed and no call to the writer failed, or the flush failed.
FlushesRest before after (Err fault) =
    Keeps before.taken after.taken × (after.empty_writes ≡ before.empty_writes)
    × (after.flushes.made ≤ counted before.flushes.made 1)
    × (((after.failures ≡ before.failures) × (after.flushes.failed ≡ before.flushes.failed)
    × (after.all_flushed ≡ true))
    ⊎ ((after.failures ≡ counted before.failures 1)
    × (after.flushes.failed ≡ counted before.flushes.failed 1)
    × (after.all_flushed ≡ before.all_flushed)))

-- The writer accepted a prefix of the line and was not flushed. If `failures` and `empty_writes`
-- were less than 2^64 - 1 and did not change, the writer accepted the whole line.
abbrev pub WritesLine : (before after : Writer) → (line : List ℕ) → Type 0
WritesLine before after line =
    GrowsByPrefix before.taken after.taken line
    × (before.failures < 2 ^ 64 - 1 → before.empty_writes < 2 ^ 64 - 1 → HasNotFailed before after
    → Appends before.taken after.taken line)
    × (after.flushes ≡ before.flushes)

-- A run ended, and the output was then flushed once more if necessary.
pub record EndsRun (pieces : RunPieces) (from to : Input) (before after : Writers)
    (ran : Result Tally RunFault) : Type 0 where
  -- the state of the writers between the run and the last flush
  pub between : Writers
  pub leaves : LeavesDevices pieces from to before between ran
  pub rest : FlushesRest between.output after.output ran
  pub errors : after.errors ≡ between.errors

abbrev pub run_line : RunFault → List ℕ
run_line fault = report_line (codes "bufr: " ∷ []) (run_report fault)

-- the line that reports a fault in a table or, if memory ran out, the line that a run reports
-- rule: status-of-table, fault-73
abbrev pub table_line : (name : List ℕ) → TableFault → List ℕ
table_line name table.Memory = run_line Memory
table_line name fault = report_line (name ∷ []) (table_report fault)

-- the last line of the error output, which reports a fault or contains the usage text; it is empty
-- if the run completed
-- rule: status-of-usage, status-of-open
abbrev pub last_line : Outcome → List ℕ
last_line (Ran tally) = []
last_line (Usage text) = text.now
last_line (CannotOpen name) = concat (codes "bufr: cannot open " ∷ name.now ∷ codes "\n" ∷ [])
last_line (TableB fault) = table_line (codes "table B: ") fault
last_line (TableD fault) = table_line (codes "table D: ") fault
last_line (Run fault) = run_line fault

-- the exit status, which is 0 if nothing was rejected, 1 if something was rejected, and 2 if the
-- run did not complete
-- rule: status-0-and-1, status-of-usage
abbrev pub status_of : Outcome → ℕ
status_of (Ran tally) = if tally.refused == 0 then 0 else 1
status_of outcome = 2
