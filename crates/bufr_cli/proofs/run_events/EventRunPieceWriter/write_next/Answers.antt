use Rattle.std.proofs.Common.{◌∙◌, None, Err, ap, refl}
use Rattle.std.proofs.lemmas.Result.{err_from_is_err_and}
use Rattle.bufr_frame.specs.Prelude.{FrameAt, StrayAt}
use Rattle.bufr_frame.specs.declared.finder.Event.TheVariants.{Frame, Stray, Done}
use Rattle.bufr_cli.proofs.DumpLemmas.{errors-reported, line-stopped}
use Rattle.bufr_cli.proofs.EventLemmas.{event-cut, event-written, events-done, events-held, events-open, held-reads}
use Rattle.bufr_cli.proofs.run_events.EventRunPieceWriter.write_next.Goals as goal

pub returns-in-None-clause-next : goal.returns-in-None-clause-next
returns-in-None-clause-next g c = λ so wrote.
    let needs = rw c.in-None.is at c.next_held.follows.holds-at-none in
    (refl, events-held _ _ so wrote _ needs, events-open _ _ so wrote _ needs)

pub returns-in-Some-Ok-Done-clause-next : goal.returns-in-Some-Ok-Done-clause-next
returns-in-Some-Ok-Done-clause-next g c = λ so wrote.
    let gives = (rw (c.in-Some-Ok-Done.is, c.in-Some-Ok-Done.field-0-is, c.in-Some-Ok-Done.field-0-0-is) at c.next_held.follows.holds-at-none).1 in
    (refl, events-done _ _ so wrote _ gives)

pub returns-in-Some-Ok-Done-clause-unread : goal.returns-in-Some-Ok-Done-clause-unread
returns-in-Some-Ok-Done-clause-unread g c =
    held-reads _ _ Done (rw (c.in-Some-Ok-Done.is, c.in-Some-Ok-Done.field-0-is, c.in-Some-Ok-Done.field-0-0-is) at c.next_held.follows.holds-at-none).1

pub returns-in_err-write_stray-in-Some-Ok-Stray-clause-next : goal.returns-in_err-write_stray-in-Some-Ok-Stray-clause-next
returns-in_err-write_stray-in-Some-Ok-Stray-clause-next g c = λ so wrote.
    let here = c.in-Some-Ok-Stray in
    let p = err_from_is_err_and c.from_residual.result c.from_residual.ensures.1 in
    let gives = (rw (here.is, here.field-0-is, here.field-0-0-is) at c.next_held.follows.holds-at-none).1 in
    let fault = c.in_err-write_stray-in-Some-Ok-Stray.field-0.0 in
    let cut = line-stopped _ _ _ c.write_stray.result fault (Err fault) _ (g.T.MessageWriter.strays c.args.self.now.writer here.offset here.cause) c.write_stray.ensures.writes refl
    c.in_err-write_stray-in-Some-Ok-Stray.was refl in
    rw (p.1 ∙ ap Err p.2) (event-cut _ _ so wrote _ (Stray here.offset here.cause) gives (StrayAt here.offset here.cause) refl _ _ cut)

pub returns-in_err-write_stray-in-Some-Ok-Stray-clause-unread : goal.returns-in_err-write_stray-in-Some-Ok-Stray-clause-unread
returns-in_err-write_stray-in-Some-Ok-Stray-clause-unread g c =
    let here = c.in-Some-Ok-Stray in
    held-reads _ _ (Stray here.offset here.cause) (rw (here.is, here.field-0-is, here.field-0-0-is) at c.next_held.follows.holds-at-none).1

pub returns-in_ok-write_stray-in-Some-Ok-Stray-clause-next : goal.returns-in_ok-write_stray-in-Some-Ok-Stray-clause-next
returns-in_ok-write_stray-in-Some-Ok-Stray-clause-next g c = λ so wrote.
    let here = c.in-Some-Ok-Stray in
    let gives = (rw (here.is, here.field-0-is, here.field-0-0-is) at c.next_held.follows.holds-at-none).1 in
    let ends = (gives so.left 0).ends in
    let written = event-written _ _ so wrote _ (Stray here.offset here.cause) gives (StrayAt here.offset here.cause) refl ends.0 ends.1 in
    let reported = errors-reported _ _ _ _ (g.T.MessageWriter.strays c.args.self.now.writer here.offset here.cause)
    (rw c.in_ok-write_stray-in-Some-Ok-Stray.was at c.write_stray.ensures.writes) refl in
    (_, written.0, reported, written.1)

pub returns-in_ok-write_stray-in-Some-Ok-Stray-clause-unread : goal.returns-in_ok-write_stray-in-Some-Ok-Stray-clause-unread
returns-in_ok-write_stray-in-Some-Ok-Stray-clause-unread g c =
    let here = c.in-Some-Ok-Stray in
    held-reads _ _ (Stray here.offset here.cause) (rw (here.is, here.field-0-is, here.field-0-0-is) at c.next_held.follows.holds-at-none).1

pub write_message-requires : goal.write_message-requires
write_message-requires g c =
    let here = c.in-Some-Ok-Frame in
    let gives = (rw (here.is, here.field-0-is, here.field-0-0-is) at c.next_held.follows.holds-at-none).1 in
    (gives None 0).ends.2

pub returns-in_err-verdict-in-Some-Ok-Frame-clause-next : goal.returns-in_err-verdict-in-Some-Ok-Frame-clause-next
returns-in_err-verdict-in-Some-Ok-Frame-clause-next g c = λ so wrote.
    let here = c.in-Some-Ok-Frame in
    let p = err_from_is_err_and c.from_residual-in_err-verdict-in-Some-Ok-Frame.result c.from_residual-in_err-verdict-in-Some-Ok-Frame.ensures.1 in
    let gives = (rw (here.is, here.field-0-is, here.field-0-0-is) at c.next_held.follows.holds-at-none).1 in
    rw (p.1 ∙ ap Err p.2) (event-cut _ _ so wrote _ (Frame here.offset here.octets) gives (FrameAt here.offset here.octets.now) refl _ _
    (rw c.in_err-verdict-in-Some-Ok-Frame.was at c.write_message.ensures.reports))

pub returns-in_err-verdict-in-Some-Ok-Frame-clause-unread : goal.returns-in_err-verdict-in-Some-Ok-Frame-clause-unread
returns-in_err-verdict-in-Some-Ok-Frame-clause-unread g c =
    let here = c.in-Some-Ok-Frame in
    held-reads _ _ (Frame here.offset here.octets) (rw (here.is, here.field-0-is, here.field-0-0-is) at c.next_held.follows.holds-at-none).1

pub returns-in_ok-verdict-in-Some-Ok-Frame-clause-next : goal.returns-in_ok-verdict-in-Some-Ok-Frame-clause-next
returns-in_ok-verdict-in-Some-Ok-Frame-clause-next g c = λ so wrote.
    let here = c.in-Some-Ok-Frame in
    let gives = (rw (here.is, here.field-0-is, here.field-0-0-is) at c.next_held.follows.holds-at-none).1 in
    let ends = (gives so.left 0).ends in
    let written = event-written _ _ so wrote _ (Frame here.offset here.octets) gives (FrameAt here.offset here.octets.now) refl ends.0 ends.1 in
    (_, rw c.write_message.ensures.same written.0, rw c.in_ok-verdict-in-Some-Ok-Frame.was at c.write_message.ensures.reports, written.1)

pub returns-in_ok-verdict-in-Some-Ok-Frame-clause-unread : goal.returns-in_ok-verdict-in-Some-Ok-Frame-clause-unread
returns-in_ok-verdict-in-Some-Ok-Frame-clause-unread g c =
    let here = c.in-Some-Ok-Frame in
    held-reads _ _ (Frame here.offset here.octets) (rw (here.is, here.field-0-is, here.field-0-0-is) at c.next_held.follows.holds-at-none).1
