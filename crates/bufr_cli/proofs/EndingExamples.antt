-- Worked examples of last lines and exit statuses, and endings that the contracts exclude.
use Rattle.std.proofs.Common.{if◌then◌else◌, ◌==◌, ◌≡◌, ◌∙◌, None, true, false, ◌∷◌, ℕ, List, [], map, refl, ap, codes, Option, Some, Result, Ok, Err, sym, subst, arith, inl, inr}
use Rattle.std.specs.Borrow.{Bor}
use Rattle.std.specs.Fmt.{digits}
use Rattle.bufr_frame.specs.declared.fault.RunFault.TheVariants.{Read, Write, InputTooLong, Memory}
use Rattle.bufr_cli.specs.Prelude.{last_line, status_of, Answers, AreUnread, ByTables, CommandOutcome, Does, InPart, InWhole, NoTables, RunsProgram, EndsRun, Input, InputName, IsNotOpened, KnownInputs, NoTableB, NoTableD, Opens, RunOutcome, ReadsAtMost, Runs, Tally, BlamesWriter, RunPieces, WantsMemory, Writer, Writers, event_pieces, holding, known_inputs, ls_piece}
use Rattle.bufr_cli.specs.declared.outcome.Outcome.TheVariants.{Ran, Usage, CannotOpen, TableB, TableD, Run}
use Rattle.bufr_bits.specs.Prelude.{counted}
use Rattle.bufr_cli.specs.declared.job.TableNames.{TableNames}
use Rattle.bufr_cli.specs.declared.job.Subcommand.{Subcommand}
use Rattle.bufr_cli.specs.declared.job.Subcommand.TheVariants.{Ls, Dump, Encode}
use Rattle.bufr_cli.specs.declared.job.LineFault.TheVariants as line
use Rattle.clap.specs.Words.{Text}
use Rattle.std.proofs.lemmas.Bool.{false≢true}
use Rattle.bufr_frame.specs.Prelude.{max_reads, read_failures_after, min_section_1, scan_from, sections_of, section_end}
use Rattle.bufr_frame.specs.declared.fault.RunFault.{RunFault}
use Rattle.std.specs.List.{concat}
use Rattle.bufr_tables.specs.declared.fault.TableFault.TheVariants as table

-- ---- The last line and the exit status of each outcome.

-- A run that completed has no last line.
ran-line : (tally : Tally) → last_line (Ran tally) ≡ []
ran-line tally = refl

statuses : map status_of (Ran (record { accepted = 3; refused = 0 }) ∷ Ran (record { accepted = 3; refused = 1 }) ∷ Run Read ∷ TableB table.Header ∷ []) ≡ 0 ∷ 1 ∷ 2 ∷ 2 ∷ []
statuses = refl

-- faults that end a run
run-lines : map last_line (Run Read ∷ Run Write ∷ Run InputTooLong ∷ Run Memory ∷ [])
    ≡ codes "bufr: 70 read failed\n" ∷ codes "bufr: 71 write failed\n" ∷ codes "bufr: 72 input too long\n" ∷ codes "bufr: 73 out of memory\n" ∷ []
unfolding digits
run-lines = refl

-- a command line that is invalid, and a file that cannot be opened
usage-line : (text : Bor (List ℕ)) → text.now ≡ codes "error: no command\n" → (last_line (Usage text) ≡ codes "error: no command\n") × (status_of (Usage text) ≡ 2)
usage-line text is = (is, refl)

closed-line : (name : Bor (List ℕ)) → name.now ≡ codes "a.bufr" → (last_line (CannotOpen name) ≡ codes "bufr: cannot open a.bufr\n") × (status_of (CannotOpen name) ≡ 2)
closed-line name is = (ap (λ octets. concat (codes "bufr: cannot open " ∷ octets ∷ codes "\n" ∷ [])) is, refl)

-- invalid tables
-- rule: status-of-table, fault-73, table-not-read
table-lines : map last_line (TableB table.Header ∷ TableB (table.Row 2) ∷ TableB (table.Duplicate 257) ∷ TableD (table.Cycle 49153) ∷ TableD table.TableSize ∷ TableB table.Csv ∷ TableD table.Memory
    ∷ [])
    ≡ codes "table B: 40 header\n"
    ∷ codes "table B: 41 row 2\n"
    ∷ codes "table B: 42 duplicate 001001\n"
    ∷ codes "table D: 43 cycle 300001\n"
    ∷ codes "table D: 44 table size\n"
    ∷ codes "table B: 45 csv\n"
    ∷ codes "bufr: 73 out of memory\n"
    ∷ []
unfolding digits
table-lines = refl

-- The run completed.
IsOk : Result Tally RunFault → Type 0
IsOk (Ok tally) = Unit {0}
IsOk (Err fault) = ⊥

ok-is-no-fault : (tally : Tally) (fault : RunFault) → Ok tally ≡ Err fault → ⊥
unfolding IsOk
ok-is-no-fault tally fault is = subst IsOk is tt

-- A listing of a single stray ends with status 1, and therefore never with 0.
a-stray-is-refused : (from to : Input) (before after : Writers) (tally : Tally) → from.left ≡ Some (codes "BUFR") → EndsRun (event_pieces ls_piece) from to before after (Ok tally)
    → status_of (Ran tally) ≡ 1
unfolding scan_from sections_of section_end min_section_1
a-stray-is-refused from to before after tally known ends = ap (λ n. if n == 0 then 0 else 1) (rw known at ends.leaves.whole).1.refused

-- Writers that counted neither a failure nor an empty write exclude the fault `Write`.
abbrev idle : Writers
idle = holding (Some []) (Some [])

zero-is-not-one : ◌≡◌ {A = ℕ} 0 1 → ⊥
zero-is-not-one is = omega arith

idle-writers-do-not-fail : (between : Writers) → idle.output ≡ between.output → idle.errors ≡ between.errors → BlamesWriter {X = Tally} idle between (Err Write) → ⊥
idle-writers-do-not-fail between output errors blames =
    let P : Writer → Writer → Type 0 = λ o e. BlamesWriter {X = Tally} idle (record { output = o; errors = e }) (Err Write) in
    none (subst (λ e. P idle.output e) (sym errors) (subst (λ o. P o between.errors) (sym output) blames))
  where
    none : BlamesWriter {X = Tally} idle idle (Err Write) → ⊥
    none (inl (inl failed, same)) = absurd (zero-is-not-one failed.0)
    none (inl (inr empty, same)) = absurd (zero-is-not-one empty.1)
    none (inr (same, inl failed)) = absurd (zero-is-not-one failed.0)
    none (inr (same, inr empty)) = absurd (zero-is-not-one empty.1)

no-write-fault : (pieces : RunPieces) (from to : Input) → EndsRun pieces from to idle idle (Err Write) → ⊥
no-write-fault pieces from to ends = idle-writers-do-not-fail ends.between ends.rest ends.errors ends.leaves.writers

-- ---- Calls of the program that the contracts exclude.

-- an input without reads or failures, and a program whose inputs are all like this one
abbrev quiet : Input
quiet = record { left = Some (codes "BUFR"); reads = 0; failures = 0 }

abbrev quiet_inputs : KnownInputs (Unit {0}) (Unit {0})
quiet_inputs = known_inputs (Some (codes "BUFR")) (λ name. Some (codes "BUFR")) (λ input. quiet) (λ file. quiet)

-- the faults that change the counts of a reader
abbrev IsOfReads : RunFault → Type 0
IsOfReads Read = Unit {0}
IsOfReads Write = ⊥
IsOfReads InputTooLong = Unit {0}
IsOfReads Memory = ⊥

few-are-not-most : ◌≡◌ {A = ℕ} 0 (counted 0 max_reads) → ⊥
few-are-not-most is = omega arith

-- On this input, no read failed, and fewer than 2^32 reads were made.
shows-neither : {X : Type 0} (fault : RunFault) → IsOfReads fault → quiet.failures ≡ read_failures_after {X = X} quiet.failures (Err fault)
    → ReadsAtMost {X = X} quiet.reads quiet.reads (Err fault) → ⊥
shows-neither Read of failures reads = zero-is-not-one failures
shows-neither Write of failures reads = absurd of
shows-neither InputTooLong of failures reads = few-are-not-most (reads.2 ∙ ap (counted 0) (reads.3 refl))
shows-neither Memory of failures reads = absurd of

no-read-fault : (pieces : RunPieces) (before after : Writers) (fault f : RunFault) → IsOfReads fault → Run fault ≡ Run f → EndsRun pieces quiet quiet before after (Err f) → ⊥
no-read-fault pieces before after fault f of is ends =
    let same : f ≡ fault = cc in
    shows-neither fault of (rw same at ends.leaves.failures) (rw same at ends.leaves.reads)

module _ (pieces : RunPieces) (before after : Writers) where
  -- Therefore, a run over it ends with neither fault 70 nor fault 72.
  run-is-not-70 : (fault : RunFault) → IsOfReads fault → (file : Option (Bor (List ℕ))) → RunOutcome pieces quiet_inputs file before after (Run fault) → ⊥
  run-is-not-70 fault of file (IsNotOpened name some (inl closed) same) = let is = closed.0 in absurd cc
  run-is-not-70 fault of file (IsNotOpened name some (inr is) same) = let memory : fault ≡ Memory = cc in subst IsOfReads memory of
  run-is-not-70 fault of file (WantsMemory none is same) = let memory : fault ≡ Memory = cc in subst IsOfReads memory of
  run-is-not-70 fault of file (Runs (Ok tally) is over) = absurd cc
  run-is-not-70 fault of None (Runs (Err f) is (from, to, left, ends)) = no-read-fault pieces before after fault f of is ends
  run-is-not-70 fault of (Some name) (Runs (Err f) is (from, to, left, ends)) = no-read-fault pieces before after fault f of is ends

  -- A run that completed has flushed its output.
  run-is-flushed : {Standard File : Type 0} (inputs : KnownInputs Standard File) (file : Option (Bor (List ℕ))) (tally : Tally) → RunOutcome pieces inputs file before after (Ran tally)
      → after.output.all_flushed ≡ true
  run-is-flushed inputs file tally (IsNotOpened name some (inl closed) same) = let is = closed.0 in absurd cc
  run-is-flushed inputs file tally (IsNotOpened name some (inr is) same) = absurd cc
  run-is-flushed inputs file tally (WantsMemory none is same) = absurd cc
  run-is-flushed inputs file tally (Runs (Err fault) is over) = absurd cc
  run-is-flushed inputs None tally (Runs (Ok tally') is (from, to, left, ends)) = ap (λ w. w.all_flushed) ends.rest ∙ ends.leaves.flushed.0
  run-is-flushed inputs (Some name) tally (Runs (Ok tally') is (from, to, left, ends)) = ap (λ w. w.all_flushed) ends.rest ∙ ends.leaves.flushed.0

-- A run cannot complete if an octet of its output is not flushed.
held-back : (pieces : RunPieces) (before after : Writers) (tally : Tally) → after.output.all_flushed ≡ false → RunOutcome pieces quiet_inputs None before after (Ran tally) → ⊥
held-back pieces before after tally held comes = false≢true (sym held ∙ run-is-flushed pieces before after quiet_inputs None tally comes)

-- Likewise, a call of the program with status 0 has flushed its output.
tables-are-read : {File : Type 0} (state_of : File → Input) (named : List ℕ → Option (List ℕ)) (tables : TableNames) (opens : List InputName → Type 0) (tally : Tally)
    → AreUnread state_of named tables opens (Ran tally) → ⊥
tables-are-read state_of named tables opens tally (NoTableB opened (inl (inl (inl closed)))) = let is = closed.0 in absurd cc
tables-are-read state_of named tables opens tally (NoTableB opened (inl (inl (inr is)))) = absurd cc
tables-are-read state_of named tables opens tally (NoTableB opened (inl (inr (fault, is, over)))) = absurd cc
tables-are-read state_of named tables opens tally (NoTableB opened (inr (fault, is, reads))) = absurd cc
tables-are-read state_of named tables opens tally (NoTableD opened b read (inl (inl (inl closed)))) = let is = closed.0 in absurd cc
tables-are-read state_of named tables opens tally (NoTableD opened b read (inl (inl (inr is)))) = absurd cc
tables-are-read state_of named tables opens tally (NoTableD opened b read (inl (inr (fault, is, over)))) = absurd cc
tables-are-read state_of named tables opens tally (NoTableD opened b read (inr (fault, is, reads))) = absurd cc

module _ {Standard File : Type 0} (inputs : KnownInputs Standard File) (before after : Writers) where
  command-is-flushed : (opens : List InputName → Type 0) (command : Subcommand) (file : Option (Bor (List ℕ))) (tally : Tally) → CommandOutcome inputs opens command file before after (Ran tally)
      → after.output.all_flushed ≡ true
  command-is-flushed opens Ls file tally (opened, ends) = run-is-flushed _ before after inputs file tally ends
  command-is-flushed opens (Dump tables) file tally (NoTables same unread) = absurd (tables-are-read inputs.of_file inputs.named tables opens tally unread)
  command-is-flushed opens (Dump tables) file tally (ByTables b d are opened ends) = run-is-flushed _ before after inputs file tally ends
  command-is-flushed opens (Encode tables form) file tally (NoTables same unread) = absurd (tables-are-read inputs.of_file inputs.named tables opens tally unread)
  command-is-flushed opens (Encode tables form) file tally (ByTables b d are opened ends) = run-is-flushed _ before after inputs file tally ends

  zero-is-not-two : ◌≡◌ {A = ℕ} 0 2 → ⊥
  zero-is-not-two is = omega arith

status-0-is-flushed : {Standard File : Type 0} (words : List Text) (inputs : KnownInputs Standard File) (opened opened' : Option (List InputName)) (before after : Writers)
    → RunsProgram words inputs opened opened' before after 0 → after.output.all_flushed ≡ true
status-0-is-flushed words inputs opened opened' before after (Does job accepted is (Ran tally) between comes same line status) =
    ap (λ w. w.all_flushed) same ∙ command-is-flushed inputs before between (Opens opened opened') job.command job.file tally comes
status-0-is-flushed words inputs opened opened' before after (Does job accepted is (Usage text) between comes same line status) = absurd (zero-is-not-two inputs before after status)
status-0-is-flushed words inputs opened opened' before after (Does job accepted is (CannotOpen name) between comes same line status) = absurd (zero-is-not-two inputs before after status)
status-0-is-flushed words inputs opened opened' before after (Does job accepted is (TableB fault) between comes same line status) = absurd (zero-is-not-two inputs before after status)
status-0-is-flushed words inputs opened opened' before after (Does job accepted is (TableD fault) between comes same line status) = absurd (zero-is-not-two inputs before after status)
status-0-is-flushed words inputs opened opened' before after (Does job accepted is (Run fault) between comes same line status) = absurd (zero-is-not-two inputs before after status)
status-0-is-flushed words inputs opened opened' before after (Answers (line.Help text) why opens (InWhole wrote flushed stays errors status)) = flushed
status-0-is-flushed words inputs opened opened' before after (Answers (line.Help text) why opens (InPart wrote failed line status)) = absurd (zero-is-not-two inputs before after status)
status-0-is-flushed words inputs opened opened' before after (Answers (line.Usage text) why opens (same, wrote, status)) = absurd (zero-is-not-two inputs before after status)
status-0-is-flushed words inputs opened opened' before after (Answers line.Memory why opens (same, wrote, status)) = absurd (zero-is-not-two inputs before after status)

-- Reading a table from such a file does not end with fault 70 or 72, either.
table-is-not-70 : (fault : RunFault) → IsOfReads fault → (named : List ℕ → Option (List ℕ)) (tables : TableNames) (opens : List InputName → Type 0)
    → AreUnread (λ (file : Unit {0}). quiet) named tables opens (Run fault) → ⊥
table-is-not-70 fault of named tables opens (NoTableB opened (inl (inl (inl closed)))) = let is = closed.0 in absurd cc
table-is-not-70 fault of named tables opens (NoTableB opened (inl (inl (inr is)))) = let memory : fault ≡ Memory = cc in subst IsOfReads memory of
table-is-not-70 fault of named tables opens (NoTableB opened (inl (inr (f, is, (from, to, left, fails))))) =
    let same : f ≡ fault = cc in
    shows-neither fault of (rw same at fails.failures) (rw same at fails.reads)
table-is-not-70 fault of named tables opens (NoTableB opened (inr (f, is, reads))) = absurd cc
table-is-not-70 fault of named tables opens (NoTableD opened b read (inl (inl (inl closed)))) = let is = closed.0 in absurd cc
table-is-not-70 fault of named tables opens (NoTableD opened b read (inl (inl (inr is)))) = let memory : fault ≡ Memory = cc in subst IsOfReads memory of
table-is-not-70 fault of named tables opens (NoTableD opened b read (inl (inr (f, is, (from, to, left, fails))))) =
    let same : f ≡ fault = cc in
    shows-neither fault of (rw same at fails.failures) (rw same at fails.reads)
table-is-not-70 fault of named tables opens (NoTableD opened b read (inr (f, is, reads))) = absurd cc
