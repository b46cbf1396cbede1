-- Describes the command line of `bufr` in terms of clap, a crate in the Rattle kit (not part of FM
-- 94 BUFR). An `App` is a command (`top`) with its subcommands, and a `Rule` describes an option or
-- an argument. A `Row` contains the values of an option or argument on a command line (`first_of`
-- returns the first value). `Kinds` lists the kinds of errors that clap reports.
-- Cited by public contracts.
use Rattle.std.specs.Prelude.{◌≡◌, ◌≢◌, ◌⊎◌, ℕ, List, ◌++◌, Option, Some, None, true, codes, option_map, string_bytes}
use Rattle.clap.specs.Words.{App, IsAmong, Kinds, Row, Rule, Text, first_of, new_app, new_rule, with_rule, with_subcommand}
use Rattle.clap.specs.declared.error.kind.ErrorKind.{ErrorKind}
use Rattle.clap.specs.declared.error.kind.ErrorKind.TheVariants.{DisplayHelp, DisplayVersion}
use Rattle.bufr_text.specs.declared.encode.Form.{Form}
use Rattle.bufr_text.specs.declared.encode.Form.TheVariants.{AsWritten, Plain, Compressed}
use Rattle.bufr_cli.specs.declared.job.Job.{Job}
use Rattle.bufr_cli.specs.declared.job.LineFault.{LineFault}
use Rattle.bufr_cli.specs.declared.job.LineFault.TheVariants.{Help, Usage, Memory}
use Rattle.bufr_cli.specs.declared.job.NoJob.{NoJob}
use Rattle.bufr_cli.specs.declared.job.NoJob.TheVariants.{UnknownCommand, MissingTable, UnknownForm}
use Rattle.bufr_cli.specs.declared.job.Subcommand.{Subcommand}
use Rattle.bufr_cli.specs.declared.job.Subcommand.TheVariants.{Ls, Dump, Encode}
use Rattle.bufr_cli.specs.declared.job.TableNames.{TableNames}

-- the required option `-B FILE` or `-D FILE` with one value; `letter` is the ASCII code of B or D
abbrev pub table_rule : (id : Text) → (letter : ℕ) → Rule
table_rule id letter =
    record (new_rule id) { short = Some letter; value_names = 1; required = true }

-- the subcommand `NAME -B FILE -D FILE [FILE]`
abbrev pub tables_app : (name : Text) → App
tables_app name =
    with_rule (with_rule (with_rule (new_app name) (table_rule (codes "B") 66))
    (table_rule (codes "D") 68)) (new_rule (codes "FILE"))

-- the option `--form WORD`
abbrev pub form_rule : Rule
form_rule = record (new_rule (codes "form")) { long = Some (codes "form"); value_names = 1 }

-- the command `bufr` without its subcommands; it supports `--version` and requires a subcommand
abbrev pub top_app : App
top_app =
    record (new_app (codes "bufr")) {
      top = record ((new_app (codes "bufr")).top)
          { has_version = true; subcommand_required = true };
    }

-- the command `bufr` with the subcommands `ls`, `dump` and `encode`; only `encode` has the option
-- `--form`
-- rule: version, one-file
abbrev pub bufr_app : App
bufr_app =
    with_subcommand (with_subcommand (with_subcommand top_app
    (with_rule (new_app (codes "ls")) (new_rule (codes "FILE"))).top)
    (tables_app (codes "dump")).top) (with_rule (tables_app (codes "encode")) form_rule).top

abbrev pub name_of : Subcommand → Text
name_of Ls = codes "ls"
name_of (Dump tables) = codes "dump"
name_of (Encode tables form) = codes "encode"

-- The names of the table files are the values of `-B` and `-D` on the command line.
abbrev pub AreNamed : List Row → TableNames → Type 0
AreNamed rows tables =
    (Some tables.table_b.now ≡ first_of (codes "B") rows)
    × (Some tables.table_d.now ≡ first_of (codes "D") rows)

-- the value of `--form` that selects a form; without the option, each document specifies its own
-- form
-- rule: form-words
abbrev pub word_of : Form → Option Text
word_of AsWritten = None
word_of Plain = Some (codes "plain")
word_of Compressed = Some (codes "compressed")

-- The subcommand uses the tables and the form that `-B`, `-D` and `--form` specify.
abbrev pub HasTables : List Row → Subcommand → Type 0
HasTables rows Ls = Unit {0}
HasTables rows (Dump tables) = AreNamed rows tables
HasTables rows (Encode tables form) =
    AreNamed rows tables × (word_of form ≡ first_of (codes "form") rows)

-- The job contains the subcommand, tables, form and input file (if any) that the command line
-- specifies.
abbrev pub IsJobOf : Option (Text × List Row) → Job → Type 0
IsJobOf None job = ⊥
IsJobOf (Some subcommand) job =
    (subcommand.0 ≡ name_of job.command) × HasTables subcommand.1 job.command
    × (option_map (λ name. name.now) job.file ≡ first_of (codes "FILE") subcommand.1)

-- The subcommand is invalid because its name is unknown, because a table is missing, or because the
-- value of `--form` is unknown.
-- rule: form-words
abbrev pub IsWhyNoJob : Text → List Row → NoJob → Type 0
IsWhyNoJob name rows UnknownCommand = (command : Subcommand) → ¬ (name ≡ name_of command)
IsWhyNoJob name rows MissingTable =
    ((name ≡ codes "dump") ⊎ (name ≡ codes "encode"))
    × ((tables : TableNames) → ¬ AreNamed rows tables)
IsWhyNoJob name rows UnknownForm =
    (name ≡ codes "encode") × ((form : Form) → ¬ (word_of form ≡ first_of (codes "form") rows))

-- the error message that explains why a subcommand is invalid
abbrev pub no_job_text : NoJob → Text
no_job_text UnknownCommand = codes "error: no command\n"
no_job_text MissingTable = codes "error: -B or -D is missing\n"
no_job_text UnknownForm =
    codes "error: invalid value for '--form <WORD>'\n"
    ++ codes "  [possible values: plain, compressed]\n\nFor more information, try '--help'.\n"

-- The subcommand is missing or invalid, and `text` is the error message that reports this.
-- rule: usage
abbrev pub GivesNoJob : Option (Text × List Row) → (text : Text) → Type 0
GivesNoJob None text = text ≡ no_job_text UnknownCommand
GivesNoJob (Some subcommand) text =
    (why : NoJob) × IsWhyNoJob subcommand.0 subcommand.1 why × (text ≡ no_job_text why)

-- The command line does not specify a job because it requests help or the version, because clap
-- reports an error, because the subcommand is missing or invalid, or because memory runs out. The
-- wording of clap's messages is not specified.
-- rule: help, usage
abbrev pub SaysWhy : Kinds → Option (Text × List Row) → LineFault → Type 0
SaysWhy kinds subcommand (Help text) = IsAmong DisplayHelp kinds ⊎ IsAmong DisplayVersion kinds
SaysWhy kinds subcommand (Usage text) =
    ((kind : ErrorKind) × IsAmong kind kinds × (kind ≢ DisplayHelp) × (kind ≢ DisplayVersion))
    ⊎ GivesNoJob subcommand (string_bytes text)
SaysWhy kinds subcommand Memory = Unit {0}
