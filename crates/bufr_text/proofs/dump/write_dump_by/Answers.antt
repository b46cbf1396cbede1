use Rattle.std.proofs.Common.{Err, refl, sym, ap, rules, ◌∙◌}
use Rattle.std.proofs.lemmas.Result.{err_from_is_err_and}
use Rattle.bufr_frame.specs.declared.fault.RunFault.TheVariants as run
use Rattle.bufr_text.proofs.PushLemmas.{all-written-of, all-counted-of, left-whole, left-failed, left-first, no-steps}
use Rattle.bufr_text.proofs.dump.write_dump_by.Goals as goal

pub returns-in_err-prepare-clause-steps : goal.returns-in_err-prepare-clause-steps
returns-in_err-prepare-clause-steps g c =
    let p = err_from_is_err_and c.from_residual.result c.from_residual.ensures.1 in
    rw (p.1, c.new.ensures) (no-steps c.args.reading.now)

pub returns-in-Ok : goal.returns-in-Ok
returns-in-Ok g c =
    let before = c.new-lines.ensures in
    let left = left-whole c.args.message.now c.args.reading.now c.show.new.steps before.status before.held c.push_head_lines.ensures c.status-outcome.result c.in-Ok.ensures.shown c.push.ensures
    c.flush_buf.ensures.pushes c.flush_buf.ensures.none c.status-outcome.ensures in
    record {
      same = search rules;
      writes = all-written-of c.args.message.now c.args.reading.now c.status-outcome.result left.0 before.taken (search (rules, left.0.sink));
      steps = left.1;
      counts = all-counted-of c.status-outcome.result left.0 before.failures (search (rules, left.0.sink)) before.empty (search (rules, left.0.sink));
      flushes = (search (rules, left.0.sink)) ∙ left.0.flushes ∙ before.flushes;
      bounded = search rules;
    }

pub returns-in-Err-Visitor : goal.returns-in-Err-Visitor
returns-in-Err-Visitor g c =
    let before = c.new-lines.ensures in
    let left = left-failed c.args.message.now c.args.reading.now c.show.new.steps before.status before.held c.push_head_lines.ensures c.in-Err-Visitor.fault _ c.in-Err-Visitor.field-0-is
    c.in-Err-Visitor.ensures.shown in
    record {
      same = search rules;
      writes = all-written-of c.args.message.now c.args.reading.now (Err c.in-Err-Visitor.fault) left.0 before.taken (search (rules, left.0.sink));
      steps = left.1;
      counts = all-counted-of (Err c.in-Err-Visitor.fault) left.0 before.failures (search (rules, left.0.sink)) before.empty (search (rules, left.0.sink));
      flushes = (search (rules, left.0.sink)) ∙ left.0.flushes ∙ before.flushes;
      bounded = search rules;
    }

pub returns-in_ok-first-in-Err-Memory : goal.returns-in_ok-first-in-Err-Memory
returns-in_ok-first-in-Err-Memory g c =
    let before = c.new-lines.ensures in
    let left = left-first c.args.message.now c.args.reading.now c.show.new.steps before.status before.held c.push_head_lines.ensures run.Memory (Err run.Memory) _ refl c.in-Err-Memory.field-0-is
    c.in-Err-Memory.ensures.shown (rw (sym c.status-first.ensures ∙ c.in_ok-first-in-Err-Memory.was) refl) in
    record {
      same = search rules;
      writes = all-written-of c.args.message.now c.args.reading.now (Err run.Memory) left.0 before.taken (search (rules, left.0.sink));
      steps = left.1;
      counts = all-counted-of (Err run.Memory) left.0 before.failures (search (rules, left.0.sink)) before.empty (search (rules, left.0.sink));
      flushes = (search (rules, left.0.sink)) ∙ left.0.flushes ∙ before.flushes;
      bounded = search rules;
    }

pub returns-in_err-first-in-Err-Memory : goal.returns-in_err-first-in-Err-Memory
returns-in_err-first-in-Err-Memory g c =
    let before = c.new-lines.ensures in
    let p = err_from_is_err_and c.from_residual-in_err-first-in-Err-Memory.result c.from_residual-in_err-first-in-Err-Memory.ensures.1 in
    let left = left-first c.args.message.now c.args.reading.now c.show.new.steps before.status before.held c.push_head_lines.ensures c.in_err-first-in-Err-Memory.field-0.0
    c.from_residual-in_err-first-in-Err-Memory.result _ (p.1 ∙ ap Err p.2) c.in-Err-Memory.field-0-is c.in-Err-Memory.ensures.shown
    (rw (sym c.status-first.ensures ∙ c.in_err-first-in-Err-Memory.was) refl) in
    record {
      same = search rules;
      writes = all-written-of c.args.message.now c.args.reading.now c.from_residual-in_err-first-in-Err-Memory.result left.0 before.taken (search (rules, left.0.sink));
      steps = left.1;
      counts = all-counted-of c.from_residual-in_err-first-in-Err-Memory.result left.0 before.failures (search (rules, left.0.sink)) before.empty (search (rules, left.0.sink));
      flushes = (search (rules, left.0.sink)) ∙ left.0.flushes ∙ before.flushes;
      bounded = search rules;
    }
