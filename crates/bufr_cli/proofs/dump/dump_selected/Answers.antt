use Rattle.std.proofs.Common.{◌≡◌, ◌∙◌, Err, ap, refl, rules}
use Rattle.std.proofs.lemmas.Result.{err_from_is_err_and}
use Rattle.bufr_walk.specs.declared.fault.WalkFault.TheVariants as walk
use Rattle.bufr_cli.proofs.DumpLemmas.{data-of, errors-reported, line-stopped, reading-stopped, reading-reported, refused-line}
use Rattle.bufr_cli.proofs.dump.dump_selected.Goals as goal

pub returns-in_err-write_dump_by-in-Ok-read_by-clause-reports : goal.returns-in_err-write_dump_by-in-Ok-read_by-clause-reports
returns-in_err-write_dump_by-in-Ok-read_by-clause-reports g c =
    let p = err_from_is_err_and c.from_residual.result c.from_residual.ensures.1 in
    let tree = (rw c.requires.list at c.answer.ensures.answer) ∙ c.in-Ok.is in
    reading-stopped _ c.args.offset c.args.message.now _ c.in-Ok-read_by.reading _ _ _ c.write_dump_by.result _ c.from_residual.result (rw c.requires.cached at c.in-Ok-read_by.ensures.reads)
    c.write_dump_by.ensures.writes refl c.in_err-write_dump_by-in-Ok-read_by.was (p.1 ∙ ap Err p.2) _ (data-of _ _ _ c.args.message.now _ tree)

pub returns-in_err-write_fault-in-Err-read_by : goal.returns-in_err-write_fault-in-Err-read_by
returns-in_err-write_fault-in-Err-read_by g c =
    let p = err_from_is_err_and c.from_residual-in_err-write_fault-in-Err-read_by.result c.from_residual-in_err-write_fault-in-Err-read_by.ensures.1 in
    let some : c.in-Err-read_by.fault ≡ walk.Memory → ⊥ = search rules in
    let tree = (rw c.requires.list at c.answer.ensures.answer) ∙ c.in-Ok.is in
    record {
      specs = search rules;
      templates = search rules;
      reports = line-stopped _ _ _ c.write_fault.result _ c.from_residual-in_err-write_fault-in-Err-read_by.result _
          (refused-line _ _ c.args.offset c.args.message.now _ c.in-Err-read_by.fault _ c.requires.cached some c.in-Err-read_by.ensures.reads _ (data-of _ _ _ c.args.message.now _ tree))
          c.write_fault.ensures.writes refl c.in_err-write_fault-in-Err-read_by.was (p.1 ∙ ap Err p.2);
      stops = search rules;
      counts = search rules;
      output_flushes = search rules;
      errors_flushes = search rules;
    }

pub returns-in_ok-write_dump_by-in-Ok-read_by-clause-reports : goal.returns-in_ok-write_dump_by-in-Ok-read_by-clause-reports
returns-in_ok-write_dump_by-in-Ok-read_by-clause-reports g c =
    let tree = (rw c.requires.list at c.answer.ensures.answer) ∙ c.in-Ok.is in
    reading-reported _ c.args.offset c.args.message.now _ c.in-Ok-read_by.reading _ _ _ (rw c.requires.cached at c.in-Ok-read_by.ensures.reads) c.in_ok-write_dump_by-in-Ok-read_by.ensures.writes refl
    _
    (data-of _ _ _ c.args.message.now _ tree)

pub returns-in_ok-write_fault-in-Err-read_by : goal.returns-in_ok-write_fault-in-Err-read_by
returns-in_ok-write_fault-in-Err-read_by g c =
    let some : c.in-Err-read_by.fault ≡ walk.Memory → ⊥ = search rules in
    let tree = (rw c.requires.list at c.answer.ensures.answer) ∙ c.in-Ok.is in
    record {
      specs = search rules;
      templates = search rules;
      reports = errors-reported _ _ _ _ (refused-line _ _ c.args.offset c.args.message.now _ c.in-Err-read_by.fault _ c.requires.cached some c.in-Err-read_by.ensures.reads _
          (data-of _ _ _ c.args.message.now _ tree)) c.in_ok-write_fault-in-Err-read_by.ensures.writes refl;
      stops = search rules;
      counts = search rules;
      output_flushes = search rules;
      errors_flushes = search rules;
    }
