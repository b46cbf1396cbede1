-- Defines which inputs the program opens, which tables it reads, what it writes, and how it ends
-- (not part of FM 94 BUFR).
-- Cited by public contracts.
use Rattle.std.specs.Prelude.{◌≡◌, ◌≢◌, ◌⊎◌, ℕ, List, Option, Some, None, Result, Ok, Err, IfSome, [], ◌∷◌, ◌++◌, true, string_bytes}
use Rattle.std.specs.Borrow.{Bor}
use Rattle.bufr_frame.specs.declared.fault.RunFault.{RunFault}
use Rattle.bufr_frame.specs.Prelude.{read_failures_after}
use Rattle.bufr_tables.specs.Prelude.{ReadsTableD, Record, Sequence, records_of, ReturnsUnlessMemory, Row, table_b_of}
use Rattle.bufr_tables.specs.declared.fault.TableFault.{TableFault}
use Rattle.bufr_cli.specs.Running.{Input, Writers, RunPieces, event_pieces, document_pieces, HasFailed, HasNotFailed, ReadsAtMost, ReadsFewer}
use Rattle.bufr_cli.specs.Pieces.{dump_piece, ls_piece}
use Rattle.bufr_cli.specs.Ending.{EndsRun, WritesLine, last_line, run_line, status_of}
use Rattle.bufr_cli.specs.declared.outcome.Outcome.{Outcome}
use Rattle.bufr_cli.specs.declared.outcome.Outcome.TheVariants.{Ran, CannotOpen, TableB, TableD, Run}
use Rattle.bufr_cli.specs.declared.job.Job.{Job}
use Rattle.bufr_cli.specs.declared.job.Subcommand.{Subcommand}
use Rattle.bufr_cli.specs.declared.job.Subcommand.TheVariants.{Ls, Dump, Encode}
use Rattle.bufr_cli.specs.declared.job.TableNames.{TableNames}
use Rattle.bufr_cli.specs.declared.program.Command.{Command}
use Rattle.bufr_cli.specs.declared.program.Command.TheVariants as command
use Rattle.bufr_cli.specs.declared.outcome.Tally.{Tally}
use Rattle.std.specs.Io.KnownBytes.{Appends, Consumes}
use Rattle.clap.specs.Words.{Text, fault_of, subcommand_of}
use Rattle.bufr_frame.specs.declared.fault.RunFault.TheVariants as run_fault
use Rattle.bufr_text.specs.Prelude.{GrowsByPrefix}
use Rattle.bufr_cli.specs.Line.{IsJobOf, SaysWhy, bufr_app}
use Rattle.bufr_cli.specs.declared.job.LineFault.{LineFault}
use Rattle.bufr_cli.specs.declared.job.LineFault.TheVariants.{Help, Usage, Memory}

-- an input of the program, which is either standard input or the file with the given name
pub data InputName : Type 0 where
  standard_name : InputName
  file_name : (name : List ℕ) → InputName

-- Between the two states, the program opened or tried to open exactly the inputs in `names`, in
-- that order. If it is not known which inputs were opened earlier, nothing is guaranteed.
abbrev pub Opens : (before after : Option (List InputName)) → List InputName → Type 0
Opens None after names = Unit {0}
Opens (Some before) None names = ⊥
Opens (Some before) (Some after) names = after ≡ before ++ names

-- What is known about the program's inputs. `Standard` and `File` are the types of the readers for
-- standard input and for files.
pub record KnownInputs (Standard File : Type 0) : Type 0 where
  -- the octets of standard input, if known
  pub standard : Option (List ℕ)
  -- the octets of the file with the given name, if known (see `Inputs`)
  pub named : List ℕ → Option (List ℕ)
  -- the state of standard input
  pub of_standard : Standard → Input
  -- the state of a file
  pub of_file : File → Input

abbrev pub known_inputs : {Standard File : Type 0} → (standard : Option (List ℕ))
    → (named : List ℕ → Option (List ℕ)) → (Standard → Input) → (File → Input)
    → KnownInputs Standard File
known_inputs standard named of_standard of_file =
    record { standard = standard; named = named; of_standard = of_standard; of_file = of_file }

-- the pieces that a command writes
abbrev pub command_pieces : Command → RunPieces
command_pieces command.Ls = event_pieces ls_piece
command_pieces (command.Dump b d) = event_pieces (dump_piece b.now d.now)
command_pieces (command.Encode form b d) = document_pieces form b.now d.now

-- Either the file could not be opened (in which case its octets are unknown), or memory ran out.
abbrev pub IsClosed : (named : List ℕ → Option (List ℕ)) → (name : Bor (List ℕ)) → Outcome → Type 0
IsClosed named name outcome =
    ((outcome ≡ CannotOpen name) × (named name.now ≡ None)) ⊎ (outcome ≡ Run run_fault.Memory)

abbrev pub ran_outcome : Result Tally RunFault → Outcome
ran_outcome (Ok tally) = Ran tally
ran_outcome (Err fault) = Run fault

-- A run reads an input of type `R` that contains the given octets. `state_of` returns the input's
-- state, and `run` relates the states before and after the run.
abbrev pub RunsOver : {R : Type 0} → (state_of : R → Input) → (octets : Option (List ℕ))
    → (run : (from to : Input) → Type 0) → Type 0
RunsOver {R} state_of octets run =
    (from to : R) × ((state_of from).left ≡ octets) × run (state_of from) (state_of to)

-- A run reads the file with the given name, or standard input if no name is given.
-- rule: dash-is-a-name
abbrev pub RunsOverInput : {Standard File : Type 0} → KnownInputs Standard File
    → (file : Option (Bor (List ℕ))) → (run : (from to : Input) → Type 0) → Type 0
RunsOverInput inputs None run = RunsOver inputs.of_standard inputs.standard run
RunsOverInput inputs (Some name) run = RunsOver inputs.of_file (inputs.named name.now) run

-- The possible outcomes of a run that reads the file with the given name, or standard input if no
-- name is given. Either the input is not opened and nothing is written, or the run reads it.
-- Opening standard input fails only if memory runs out.
pub data RunOutcome {Standard File : Type 0} (pieces : RunPieces)
    (inputs : KnownInputs Standard File) (file : Option (Bor (List ℕ))) (before after : Writers)
    (outcome : Outcome) : Type 0 where
  IsNotOpened : (name : Bor (List ℕ)) → file ≡ Some name → IsClosed inputs.named name outcome
      → after ≡ before → RunOutcome pieces inputs file before after outcome
  WantsMemory : file ≡ None → outcome ≡ Run run_fault.Memory → after ≡ before
      → RunOutcome pieces inputs file before after outcome
  Runs : (ran : Result Tally RunFault) → outcome ≡ ran_outcome ran
      → RunsOverInput inputs file (λ from to. EndsRun pieces from to before after ran)
      → RunOutcome pieces inputs file before after outcome

-- A file was not read completely because a read failed, because its end was not reached after 2^32
-- reads, or because memory ran out earlier.
pub record FailsToRead (fault : RunFault) (from to : Input) : Type 0 where
  pub octets : List ℕ
  pub read : Consumes from.left to.left octets
  -- the fault cannot be a failed write, because nothing is written to a file
  pub none : fault ≢ run_fault.Write
  -- if the fault is `Read`, one failed read was counted (the type X does not matter here)
  pub failures : to.failures ≡ read_failures_after {X = Unit {0}} from.failures (Err fault)
  pub reads : ReadsAtMost {X = Unit {0}} from.reads to.reads (Err fault)
  pub fewer : fault ≡ run_fault.Memory → ReadsFewer from.reads to.reads

-- The file with the given octets was not read completely, and `outcome` reports the fault.
-- rule: table-not-read
abbrev pub IsUnread : {File : Type 0} → (state_of : File → Input) → (octets : Option (List ℕ))
    → Outcome → Type 0
IsUnread state_of octets outcome =
    (fault : RunFault) × (outcome ≡ Run fault) × RunsOver state_of octets (FailsToRead fault)

-- A table is not available because its file could not be opened or read, or because the table is
-- invalid. `is_result` relates the table's records to the result of reading them, and `outcome_of`
-- returns the outcome for a fault in the table.
abbrev pub TableOutcome : {X File : Type 0} → (state_of : File → Input)
    → (is_result : List Record → Result X TableFault → Type 0) → (outcome_of : TableFault → Outcome)
    → (named : List ℕ → Option (List ℕ)) → (name : Bor (List ℕ)) → Outcome → Type 0
TableOutcome state_of is_result outcome_of named name outcome =
    (IsClosed named name outcome ⊎ IsUnread state_of (named name.now) outcome)
    ⊎ ((fault : TableFault) × (outcome ≡ outcome_of fault)
    × IfSome (named name.now) (λ text. is_result (records_of text) (Err fault)))

-- `b` and `d` are the tables in the given files, if the octets of those files are known.
pub record AreTables (named : List ℕ → Option (List ℕ)) (tables : TableNames) (b : List Row)
    (d : List Sequence) : Type 0 where
  pub table_b : IfSome (named tables.table_b.now) (λ text. table_b_of (records_of text) ≡ Ok b)
  pub table_d : IfSome (named tables.table_d.now) (λ text. ReadsTableD (records_of text) (Ok d))

-- the names of the table files, in the order in which the files are opened
abbrev pub table_names : TableNames → List InputName
table_names tables = file_name tables.table_b.now ∷ file_name tables.table_d.now ∷ []

-- One of the tables is not available. If Table B is not available, no other input was opened. If
-- Table D is not available, Table B had already been read. The list of inputs that were opened
-- satisfies `opens`.
pub data AreUnread {File : Type 0} (state_of : File → Input) (named : List ℕ → Option (List ℕ))
    (tables : TableNames) (opens : List InputName → Type 0) (outcome : Outcome) : Type 0 where
  NoTableB : opens (file_name tables.table_b.now ∷ [])
      → TableOutcome state_of (λ records. ReturnsUnlessMemory (table_b_of records)) TableB named
      tables.table_b outcome → AreUnread state_of named tables opens outcome
  NoTableD : opens (table_names tables) → (b : List Row) → IfSome (named tables.table_b.now)
      (λ text. table_b_of (records_of text) ≡ Ok b)
      → TableOutcome state_of ReadsTableD TableD named tables.table_d outcome
      → AreUnread state_of named tables opens outcome

-- the input to open, which is standard input if no file name is given
abbrev pub input_name : Option (Bor (List ℕ)) → InputName
input_name None = standard_name
input_name (Some name) = file_name name.now

-- The possible outcomes of `dump` and `encode`. Either a table is not available and nothing is
-- written, or the input is opened after both tables (see `RunOutcome`).
-- rule: tables-before-input
pub data TablesOutcome {Standard File : Type 0} (pieces : List Row → List Sequence → RunPieces)
    (inputs : KnownInputs Standard File) (tables : TableNames) (opens : List InputName → Type 0)
    (file : Option (Bor (List ℕ))) (before after : Writers) (outcome : Outcome) : Type 0 where
  NoTables : after ≡ before → AreUnread inputs.of_file inputs.named tables opens outcome
      → TablesOutcome pieces inputs tables opens file before after outcome
  ByTables : (b : List Row) (d : List Sequence) → AreTables inputs.named tables b d
      → opens (table_names tables ++ input_name file ∷ [])
      → RunOutcome (pieces b d) inputs file before after outcome
      → TablesOutcome pieces inputs tables opens file before after outcome

-- The subcommand has the given outcome, and the list of inputs that it opens satisfies `opens`.
abbrev pub CommandOutcome : {Standard File : Type 0} → KnownInputs Standard File
    → (opens : List InputName → Type 0) → Subcommand → (file : Option (Bor (List ℕ)))
    → (before after : Writers) → Outcome → Type 0
CommandOutcome inputs opens Ls file before after outcome =
    opens (input_name file ∷ [])
    × RunOutcome (event_pieces ls_piece) inputs file before after outcome
CommandOutcome inputs opens (Dump tables) file before after outcome =
    TablesOutcome (λ b d. event_pieces (dump_piece b d)) inputs tables opens file before after
    outcome
CommandOutcome inputs opens (Encode tables form) file before after outcome =
    TablesOutcome (document_pieces form) inputs tables opens file before after outcome

-- If the help text is written and flushed, the status is 0. If a write or the flush fails, the last
-- line reports the failure, and the status is 2.
pub data WritesHelp (text : List ℕ) (before after : Writers) (status : ℕ) : Type 0 where
  InWhole : Appends before.output.taken after.output.taken text
      → after.output.all_flushed ≡ true → HasNotFailed before.output after.output
      → after.errors ≡ before.errors → status ≡ 0 → WritesHelp text before after status
  InPart : GrowsByPrefix before.output.taken after.output.taken text
      → HasFailed before.output after.output
      → WritesLine before.errors after.errors (run_line run_fault.Write) → status ≡ 2
      → WritesHelp text before after status

-- The effects of running the program if the command line does not specify a job. Only help and the
-- version are written to the output.
abbrev pub AnswersFault : LineFault → (before after : Writers) → (status : ℕ) → Type 0
AnswersFault (Help text) before after status = WritesHelp (string_bytes text) before after status
AnswersFault (Usage text) before after status =
    (after.output ≡ before.output) × WritesLine before.errors after.errors (string_bytes text)
    × (status ≡ 2)
AnswersFault Memory before after status =
    (after.output ≡ before.output)
    × WritesLine before.errors after.errors (run_line run_fault.Memory) × (status ≡ 2)

-- Either the program runs the job that the command line specifies and reports the outcome, or it
-- opens no inputs and reports why there is no job.
-- rule: status-of-help
pub data RunsProgram {Standard File : Type 0} (words : List Text)
    (inputs : KnownInputs Standard File) (opened opened' : Option (List InputName))
    (before after : Writers) (status : ℕ) : Type 0 where
  Does : (job : Job) → fault_of bufr_app words ≡ []
      → IsJobOf (subcommand_of bufr_app words) job → (outcome : Outcome) → (between : Writers)
      → CommandOutcome inputs (Opens opened opened') job.command job.file before between outcome
      → after.output ≡ between.output
      → WritesLine between.errors after.errors (last_line outcome) → status ≡ status_of outcome
      → RunsProgram words inputs opened opened' before after status
  Answers : (why : LineFault) → SaysWhy (fault_of bufr_app words) (subcommand_of bufr_app words) why
      → Opens opened opened' [] → AnswersFault why before after status
      → RunsProgram words inputs opened opened' before after status
