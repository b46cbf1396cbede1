use Rattle.std.proofs.Common.{◌∙◌, Ok, Err, ap, arith}
use Rattle.std.proofs.lemmas.Result.{err_from_is_err_and}
use Rattle.bufr_frame.proofs.FinderLemmas.{adds-same}
use Rattle.bufr_cli.proofs.RunLemmas.{leaves-cut, leaves-done, leaves-done-held, leaves-held, leaves-unread, nothing-left, read-needed, run-reads-unread, tally-few}
use Rattle.bufr_cli.proofs.run_pieces.run_pieces.Goals as goal

pub returns-in_err-verdict-clause-leaves : goal.returns-in_err-verdict-clause-leaves
returns-in_err-verdict-clause-leaves g c =
    let p = err_from_is_err_and c.from_residual.result c.from_residual.ensures.1 in
    let before = c.loop-verdict.invariant in
    let step = c.write_next.ensures in
    leaves-cut _ _ _ _ _ _ _ before.ran _ _ before.counts before.rare (g.P.PieceWriter.reaches c.write_next.new.self) _ _ c.write_next.result _ c.from_residual.result (rw before.same at step.next)
    step.stops
    step.counts
    step.output_flushes step.errors_flushes c.in_err-verdict.was (p.1 ∙ ap Err p.2)

pub count-requires : goal.count-requires
count-requires g c = record { few = tally-few _ _ _ _ _ _ _ c.loop-verdict.invariant.ran }

pub loop-verdict-smaller-in-Piece : goal.loop-verdict-smaller-in-Piece
loop-verdict-smaller-in-Piece g c =
    let few = tally-few _ _ _ _ _ _ _ c.loop-verdict.invariant.ran in
    omega (arith, few, c.count.ensures.one, c.write_next.ensures.unread)

pub returns-in_err-flush_before_read-in-Read-clause-leaves : goal.returns-in_err-flush_before_read-in-Read-clause-leaves
returns-in_err-flush_before_read-in-Read-clause-leaves g c =
    let p = err_from_is_err_and c.from_residual-in_err-flush_before_read-in-Read.result c.from_residual-in_err-flush_before_read-in-Read.ensures.1 in
    let before = c.loop-verdict.invariant in
    let needs = read-needed _ _ _ _ _ _ _ before.ran _ (g.P.PieceWriter.reaches c.write_next.new.self) _ c.write_next.result (rw before.same at c.write_next.ensures.next)
    (c.in_ok-verdict.was ∙ ap Ok c.in-Read.is) in
    leaves-held _ _ _ _ _ _ _ needs.0 _ _ before.counts
    (rw c.write_next.ensures.output_flushes before.rare.0, rw c.write_next.ensures.errors_flushes before.rare.1)
    _ _ _ c.flush_before_read.result _ c.from_residual-in_err-flush_before_read-in-Read.result needs.1 c.flush_before_read.ensures
    c.in_err-flush_before_read-in-Read.was (p.1 ∙ ap Err p.2)

pub returns-in_err-read_more-in-Read-clause-leaves : goal.returns-in_err-read_more-in-Read-clause-leaves
returns-in_err-read_more-in-Read-clause-leaves g c =
    let p = err_from_is_err_and c.from_residual-in_err-read_more-in-Read.result c.from_residual-in_err-read_more-in-Read.ensures.1 in
    let before = c.loop-verdict.invariant in
    let needs = read-needed _ _ _ _ _ _ _ before.ran _ (g.P.PieceWriter.reaches c.write_next.new.self) _ c.write_next.result (rw before.same at c.write_next.ensures.next)
    (c.in_ok-verdict.was ∙ ap Ok c.in-Read.is) in
    let read = c.read_more.ensures in
    leaves-unread _ _ _ _ _ _ _ needs.0 _ _ (adds-same _ _ _ _ _ before.counts c.write_next.ensures.unread)
    (rw c.write_next.ensures.unread (rw c.write_next.ensures.output_flushes before.rare.0, rw c.write_next.ensures.errors_flushes before.rare.1))
    (g.P.PieceWriter.reaches c.read_more.new.self) _ _ _ _ c.flush_before_read.result
    c.read_more.result _ _
    c.from_residual-in_err-read_more-in-Read.result needs.1 c.flush_before_read.ensures c.in_ok-flush_before_read-in-Read.was read.reads_on read.counts read.made read.failed read.sure
    c.in_err-read_more-in-Read.was (p.1 ∙ ap Err p.2)

pub returns-in_err-read_more-in-Read-clause-reads : goal.returns-in_err-read_more-in-Read-clause-reads
returns-in_err-read_more-in-Read-clause-reads g c =
    let p = err_from_is_err_and c.from_residual-in_err-read_more-in-Read.result c.from_residual-in_err-read_more-in-Read.ensures.1 in
    let before = c.loop-verdict.invariant in
    let read = c.read_more.ensures in
    run-reads-unread _ _ _ _ _ _ c.read_more.result _ c.from_residual-in_err-read_more-in-Read.result (adds-same _ _ _ _ _ before.counts c.write_next.ensures.unread) read.counts read.made
    c.in_err-read_more-in-Read.was (p.1 ∙ ap Err p.2)

pub returns-in_err-flush_both-clause-leaves : goal.returns-in_err-flush_both-clause-leaves
returns-in_err-flush_both-clause-leaves g c =
    let p = err_from_is_err_and c.from_residual-in_err-flush_both.result c.from_residual-in_err-flush_both.ensures.1 in
    let before = c.loop-verdict.invariant in
    let end = nothing-left _ _ _ _ _ _ _ before.ran _ (g.P.PieceWriter.reaches c.write_next.new.self) _ c.write_next.result (rw before.same at c.write_next.ensures.next)
    (c.in_ok-verdict.was ∙ ap Ok c.in-End.is) in
    leaves-done-held _ _ _ _ _ _ _ end.0 _ _ before.counts
    (rw c.write_next.ensures.output_flushes before.rare.0, rw c.write_next.ensures.errors_flushes before.rare.1)
    end.1 _ c.flush_both.result c.flush_both.ensures.flushed _ c.from_residual-in_err-flush_both.result c.in_err-flush_both.was (p.1 ∙ ap Err p.2)

pub returns-clause-leaves : goal.returns-clause-leaves
returns-clause-leaves g c =
    let before = c.loop-verdict.invariant in
    let end = nothing-left _ _ _ _ _ _ _ before.ran _ (g.P.PieceWriter.reaches c.write_next.new.self) _ c.write_next.result (rw before.same at c.write_next.ensures.next)
    (c.in_ok-verdict.was ∙ ap Ok c.in-End.is) in
    leaves-done _ _ _ _ _ _ _ end.0 _ _ before.counts
    (rw c.write_next.ensures.output_flushes before.rare.0, rw c.write_next.ensures.errors_flushes before.rare.1)
    end.1 _ c.flush_both.result c.flush_both.ensures.flushed c.in_ok-flush_both.was
