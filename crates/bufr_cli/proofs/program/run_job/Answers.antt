use Rattle.std.proofs.Common.{◌≡◌, List, refl, sym, subst}
use Rattle.bufr_cli.specs.Prelude.{Writers, ByTables, CommandOutcome, InputName, KnownInputs, NoTables, Opens}
use Rattle.bufr_cli.specs.declared.job.Job.{Job}
use Rattle.bufr_cli.specs.declared.job.Subcommand.{Subcommand}
use Rattle.bufr_cli.specs.declared.outcome.Outcome.{Outcome}
use Rattle.bufr_cli.proofs.RunLemmas.{opens-then}
use Rattle.bufr_cli.proofs.program.run_job.Goals as goal

-- the outcome of the subcommand of a job
job-runs : {Standard File : Type 0} (inputs : KnownInputs Standard File) (opens : List InputName → Type 0) (job : Job) (command : Subcommand) (before after : Writers) (outcome : Outcome)
    → job.command ≡ command → CommandOutcome inputs opens command job.file before after outcome
    → CommandOutcome inputs opens job.command job.file before after outcome
job-runs inputs opens job command before after outcome is comes = subst (λ command. CommandOutcome inputs opens command job.file before after outcome) (sym is) comes

pub returns-in-Ls : goal.returns-in-Ls
returns-in-Ls g c =
    let opened = Opens (g.I.Inputs.opened c.args.inputs.now) (g.I.Inputs.opened c.run_input.new.inputs) in
    record { comes = job-runs _ opened c.args.job _ _ _ _ c.in-Ls.is (c.run_input.ensures.opens, c.run_input.ensures.comes) }

pub returns-in-Ok : goal.returns-in-Ok
returns-in-Ok g c =
    let b = c.in-Ok.tables.table_b in
    let d = c.in-Ok.tables.table_d in
    let opens = opens-then _ _ _ _ _ c.in-Ok.ensures.opens c.run_input-in-Ok.ensures.opens in
    let opened = Opens (g.I.Inputs.opened c.args.inputs.now) (g.I.Inputs.opened c.run_input-in-Ok.new.inputs) in
    record {
      comes = job-runs _ opened c.args.job _ _ _ _ c.in-Dump.is
          (ByTables b d c.in-Ok.ensures.tables opens (rw (c.in-Ok.ensures.files, c.in-Ok.ensures.standard) at c.run_input-in-Ok.ensures.comes));
    }

pub returns-in-Err : goal.returns-in-Err
returns-in-Err g c = record { comes = job-runs _ _ c.args.job _ _ _ _ c.in-Dump.is (NoTables refl c.in-Err.ensures.unread) }

pub returns-in-Ok-read_tables : goal.returns-in-Ok-read_tables
returns-in-Ok-read_tables g c =
    let opened = Opens (g.I.Inputs.opened c.args.inputs.now) (g.I.Inputs.opened c.run_input-in-Ok-read_tables.new.inputs) in
    record {
      comes = job-runs _ opened c.args.job _ _ _ _ c.in-Encode.is (ByTables c.in-Ok-read_tables.tables.table_b c.in-Ok-read_tables.tables.table_d c.in-Ok-read_tables.ensures.tables
          (opens-then _ _ _ _ _ c.in-Ok-read_tables.ensures.opens c.run_input-in-Ok-read_tables.ensures.opens)
          (rw (c.in-Ok-read_tables.ensures.files, c.in-Ok-read_tables.ensures.standard) at c.run_input-in-Ok-read_tables.ensures.comes));
    }

pub returns-in-Err-read_tables : goal.returns-in-Err-read_tables
returns-in-Err-read_tables g c = record { comes = job-runs _ _ c.args.job _ _ _ _ c.in-Encode.is (NoTables refl c.in-Err-read_tables.ensures.unread) }
