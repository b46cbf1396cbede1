use Rattle.std.proofs.Common.{rules, ◌≡◌, ℕ, List, refl, string_bytes, subst}
use Rattle.bufr_cli.specs.Prelude.{Answers, AnswersFault, Does, WritesHelp, writers_of}
use Rattle.bufr_cli.specs.declared.job.LineFault.TheVariants.{Help, Usage, Memory}
use Rattle.bufr_cli.proofs.RunLemmas.{help-in-part, opens-none}
use Rattle.bufr_cli.proofs.program.run.Goals as goal

pub returns-in-Ok : goal.returns-in-Ok
returns-in-Ok g c =
    Does c.in-Ok.job c.in-Ok.ensures.accepted c.in-Ok.ensures.job c.run_job-outcome.result (writers_of g.W.Sink c.run_job-outcome.new.w g.E.Sink c.run_job-outcome.new.e)
    c.run_job-outcome.ensures.comes
    refl
    (c.finish.ensures.prefix, c.finish.ensures.whole, c.finish.ensures.flushes) c.finish.ensures.status

pub returns-in-Ok-write_and_flush : goal.returns-in-Ok-write_and_flush
returns-in-Ok-write_and_flush g c =
    let help : WritesHelp (string_bytes c.in-Err-Help.text) (writers_of g.W.Sink c.args.w.now g.E.Sink c.args.e.now) (writers_of g.W.Sink c.write_and_flush.new.w g.E.Sink c.args.e.now) 0 =
    search rules in
    Answers (Help c.in-Err-Help.text) (rw c.in-Err-Help.field-0-is at c.in-Err-Help.ensures.fault) (opens-none _) help

pub returns-in-Err-Help : goal.returns-in-Err-Help
returns-in-Err-Help g c =
    let Q : List ℕ → Type 0 = λ text. WritesHelp text (writers_of g.W.Sink c.args.w.now g.E.Sink c.args.e.now) (writers_of g.W.Sink c.write_and_flush.new.w g.E.Sink c.finish-in-Err.new.e)
    c.finish-in-Err.result in
    let value : c.as_bytes.result.now ≡ string_bytes c.in-Err-Help.text = search rules in
    Answers (Help c.in-Err-Help.text) (rw c.in-Err-Help.field-0-is at c.in-Err-Help.ensures.fault) (opens-none _)
    (subst Q value
    (help-in-part c.as_bytes.result.now _ _ c.finish-in-Err.result c.in-Err.fault c.in-Err.ensures.writes c.in-Err.ensures.counts
    (c.finish-in-Err.ensures.prefix, c.finish-in-Err.ensures.whole, c.finish-in-Err.ensures.flushes)
    c.finish-in-Err.ensures.status))

pub returns-in-Err-Usage : goal.returns-in-Err-Usage
returns-in-Err-Usage g c =
    let told : AnswersFault (Usage c.in-Err-Usage.text) (writers_of g.W.Sink c.args.w.now g.E.Sink c.args.e.now) (writers_of g.W.Sink c.args.w.now g.E.Sink c.finish-in-Err-Usage.new.e)
    c.finish-in-Err-Usage.result = search rules in
    Answers (Usage c.in-Err-Usage.text) (rw c.in-Err-Usage.field-0-is at c.in-Err-Usage.ensures.fault) (opens-none _) told

pub returns : goal.returns
returns g c = Answers Memory (rw c.in-Err-Memory.field-0-is at c.in-Err-Memory.ensures.fault) (opens-none _)
    (refl, (c.finish-in-Err-Memory.ensures.prefix, c.finish-in-Err-Memory.ensures.whole, c.finish-in-Err-Memory.ensures.flushes), c.finish-in-Err-Memory.ensures.status)
