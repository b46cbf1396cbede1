use Rattle.std.proofs.Common.{◌∙◌, ◌≡◌, [], Some, None, Ok, Err, ap, inl, refl, rules}
use Rattle.std.proofs.lemmas.Result.{err_from_is_err_and}
use Rattle.bufr_text.proofs.CallLemmas.{call-none}
use Rattle.bufr_cli.specs.declared.outcome.Verdict.TheVariants as verdict
use Rattle.bufr_frame.specs.declared.fault.RunFault.{RunFault}
use Rattle.bufr_text.specs.Prelude.{line_report, Complete, Refused}
use Rattle.bufr_cli.specs.Prelude.{document_line, OnErrors, writers_of}
use Rattle.bufr_cli.proofs.DumpLemmas.{errors-reported, line-stopped}
use Rattle.bufr_cli.proofs.FaultLineLemmas.{as_read}
use Rattle.bufr_text.specs.declared.fault.ReadFault.TheVariants.{Run}
use Rattle.bufr_cli.proofs.EncodeLemmas.{accepted-else, blames-none, document-cut, document-few, document-written, no-write-fault, read-refusal, text-done, text-held, text-open, text-wants}
use Rattle.bufr_cli.proofs.encode.EncodeRunPieceWriter.write_next.Goals as goal

pub returns-in-None-clause-next : goal.returns-in-None-clause-next
returns-in-None-clause-next g c = λ so reached.
    let wrote = rw (accepted-else c.args.self.now.last c.in_default.not-Refused) at reached in
    let needs = rw c.in-None.is at c.next_held.ensures.gives wrote.sound in
    rw (accepted-else c.args.self.now.last c.in_default.not-Refused) (refl, text-held _ _ _ _ so wrote _ needs c.next_held.ensures.reads, text-open _ _ _ _ so wrote _ needs c.next_held.ensures.reads)

pub returns-in-None-clause-needs : goal.returns-in-None-clause-needs
returns-in-None-clause-needs g c = λ _.
    let accepted = accepted-else c.args.self.now.last c.in_default.not-Refused in
    let wrote = rw accepted at c.requires.begun.1 in
    let needs = rw c.in-None.is at c.next_held.ensures.gives wrote.sound in
    record { accepted = accepted; sound = needs.sound; going = needs.going; short = needs.short; none = needs.none }

pub returns-in-Some-Ok-None-clause-next : goal.returns-in-Some-Ok-None-clause-next
returns-in-Some-Ok-None-clause-next g c = λ so reached.
    let here = c.in-Some-Ok-None in
    let wrote = rw (accepted-else c.args.self.now.last c.in_default.not-Refused) at reached in
    let gives = rw (here.is, here.field-0-is, here.field-0-0-is) at c.next_held.ensures.gives wrote.sound in
    (refl, text-done _ _ _ _ so wrote _ gives c.next_held.ensures.reads)

pub returns-in_err-verdict-in-Some-Ok-Some-clause-next : goal.returns-in_err-verdict-in-Some-Ok-Some-clause-next
returns-in_err-verdict-in-Some-Ok-Some-clause-next g c = λ so reached.
    let here = c.in-Some-Ok-Some in
    let p = err_from_is_err_and c.from_residual.result c.from_residual.ensures.1 in
    let wrote = rw (accepted-else c.args.self.now.last c.in_default.not-Refused) at reached in
    let gives = rw (here.is, here.field-0-is, here.field-0-0-is) at c.next_held.ensures.gives wrote.sound in
    rw (p.1 ∙ ap Err p.2) (document-cut _ _ _ _ so wrote _ (Ok (Some here.document)) gives c.next_held.ensures.reads (Complete here.document) refl _ _
    (rw c.in_err-verdict-in-Some-Ok-Some.was at c.write_document.ensures.reports))

pub returns-in-Some-Err-Run-clause-next : goal.returns-in-Some-Err-Run-clause-next
returns-in-Some-Err-Run-clause-next g c = λ so reached.
    let here = c.in-Some-Err-Run in
    let wrote = rw (accepted-else c.args.self.now.last c.in_default.not-Refused) at reached in
    let gives = rw (here.is, here.field-0-is, here.field-0-0-is) at c.next_held.ensures.gives wrote.sound in
    text-wants _ _ _ _ so wrote _ (Err (Run here.fault)) gives c.next_held.ensures.reads _

pub returns-in-Some-Err-Run-clause-counts : goal.returns-in-Some-Err-Run-clause-counts
returns-in-Some-Err-Run-clause-counts g c =
    let here = c.in-Some-Err-Run in
    let wrote = rw (accepted-else c.args.self.now.last c.in_default.not-Refused) at c.requires.begun.1 in
    blames-none (writers_of g.W.Sink c.args.w.now g.E.Sink c.args.e.now) here.fault
    (no-write-fault _ _ here.fault (rw (here.is, here.field-0-is, here.field-0-0-is) at c.next_held.ensures.gives wrote.sound))

pub returns-in_err-write_read_fault-in-Some-Err : goal.returns-in_err-write_read_fault-in-Some-Err
returns-in_err-write_read_fault-in-Some-Err g c =
    let here = c.in-Some-Err in
    let residual = c.from_residual-in_err-write_read_fault-in-Some-Err in
    let p = err_from_is_err_and residual.result residual.ensures.1 in
    let some : (run : RunFault) → here.fault ≡ Run run → ⊥ = λ run is. search rules in
    let refusal = read-refusal here.fault some in
    let fault = c.in_err-write_read_fault-in-Some-Err.field-0.0 in
    let cut = line-stopped _ _ _ c.write_read_fault.result fault (Err fault) (OnErrors (document_line refusal.0 (line_report refusal.1))) refl
    (as_read _ _ _ here.fault refusal.0 refusal.1 refusal.2 c.write_read_fault.ensures.writes) refl
    c.in_err-write_read_fault-in-Some-Err.was refl in
    record {
      next = λ so reached.
          let wrote = rw (accepted-else c.args.self.now.last c.in_default.not-Refused) at reached in
          let gives = rw (here.is, here.field-0-is) at c.next_held.ensures.gives wrote.sound in
          rw (p.1 ∙ ap Err p.2) (document-cut _ _ _ _ so wrote _ (Err here.fault) gives c.next_held.ensures.reads (Refused refusal.0 refusal.1) refusal.2 _ _ cut);
      needs = search rules;
      stops = search rules;
      unread = search rules;
      same = search rules;
      memory = search rules;
      counts = search rules;
      output_flushes = search rules;
      errors_flushes = search rules;
    }

pub returns-in_ok-verdict-in-Some-Ok-Some-clause-next : goal.returns-in_ok-verdict-in-Some-Ok-Some-clause-next
returns-in_ok-verdict-in-Some-Ok-Some-clause-next g c = λ so reached.
    let here = c.in-Some-Ok-Some in
    let wrote = rw (accepted-else c.args.self.now.last c.in_default.not-Refused) at reached in
    let gives = rw (here.is, here.field-0-is, here.field-0-0-is) at c.next_held.ensures.gives wrote.sound in
    let reports = rw c.in_ok-verdict-in-Some-Ok-Some.was at c.write_document.ensures.reports in
    let step = c.write_document.ensures in
    let written = document-written _ _ _ _ so wrote _ (Ok (Some here.document)) gives c.next_held.ensures.reads (Complete here.document) refl _ _ c.in_ok-verdict-in-Some-Ok-Some.verdict reports
    (λ _. (gives None None _ [] (call-none None _) (inl refl)).ends) in (
      _,
      rw (step.form, step.table_b, step.table_d, c.reuse.ensures ∙ step.reader) written,
      reports,
      document-few _ _ _ _ so wrote _ (Ok (Some here.document)) gives c.next_held.ensures.reads (Complete here.document) refl,
    )

pub returns-in_ok-write_read_fault-in-Some-Err : goal.returns-in_ok-write_read_fault-in-Some-Err
returns-in_ok-write_read_fault-in-Some-Err g c =
    let here = c.in-Some-Err in
    let some : (run : RunFault) → here.fault ≡ Run run → ⊥ = λ run is. search rules in
    let refusal = read-refusal here.fault some in
    let reported = errors-reported (writers_of g.W.Sink c.args.w.now g.E.Sink c.args.e.now) (writers_of g.W.Sink c.args.w.now g.E.Sink c.write_read_fault.new.e) _
    (OnErrors (document_line refusal.0 (line_report refusal.1))) refl
    (rw c.in_ok-write_read_fault-in-Some-Err.was at (as_read _ _ _ here.fault refusal.0 refusal.1 refusal.2 c.write_read_fault.ensures.writes)) refl in
    record {
      next = λ so reached.
          let wrote = rw (accepted-else c.args.self.now.last c.in_default.not-Refused) at reached in
          let gives = rw (here.is, here.field-0-is) at c.next_held.ensures.gives wrote.sound in
          let written = document-written _ _ _ _ so wrote _ (Err here.fault) gives c.next_held.ensures.reads (Refused refusal.0 refusal.1) refusal.2 _ _ verdict.Refused reported (λ is. cc) in
          (_, written, reported, document-few _ _ _ _ so wrote _ (Err here.fault) gives c.next_held.ensures.reads (Refused refusal.0 refusal.1) refusal.2);
      needs = search rules;
      stops = search rules;
      unread = search rules;
      same = search rules;
      memory = search rules;
      counts = search rules;
      output_flushes = search rules;
      errors_flushes = search rules;
    }
