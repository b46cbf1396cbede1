use Rattle.std.proofs.Common.{◌+◌, Some, ap}
use Rattle.bufr_frame.proofs.FinderLemmas.{none-unless}
use Rattle.bufr_text.proofs.ReaderLemmas.{feed-at, taking-goes, taking-ends, refused-holds, wants-at, taking-more}
use Rattle.bufr_text.proofs.document.take_lines.Goals as goal

pub loop-length-preserved : goal.loop-length-preserved
loop-length-preserved c =
    rw c.in_ok-effect.ensures.at
    (taking-goes c.args.progress.now c.loop-length.progress c.args.held.now c.loop-length.from c.in-Some.length c.in-Continues.state c.take_line.new.progress.parts c.loop-length.invariant
    (rw c.suffix.ensures at (feed-at c.suffix.result.now (Some c.in-Some.length) c.in-Some.ensures))
    (rw (c.in-Continues.is, c.prefix-line.ensures, c.suffix-in-Some.ensures) at c.in_ok-effect.ensures.turns))

pub returns-in_default-effect : goal.returns-in_default-effect
returns-in_default-effect c = record {
  takes =
      taking-ends c.args.progress.now c.loop-length.progress c.args.held.now c.loop-length.from c.in-Some.length _ _ c.loop-length.invariant
      (rw c.suffix.ensures at (feed-at c.suffix.result.now (Some c.in-Some.length) c.in-Some.ensures))
      (ap (λ n. n + 1) c.in_ok-effect.ensures.at)
      c.in_default-effect.not-Continues
      (rw (c.prefix-line.ensures, c.suffix-in-Some.ensures) at c.in_ok-effect.ensures.turns);
  wants = tt;
  adds = tt;
}

pub returns-in_err-effect-clause-adds : goal.returns-in_err-effect-clause-adds
returns-in_err-effect-clause-adds c =
    let here = feed-at c.suffix.result.now (Some c.in-Some.length) c.in-Some.ensures in
    refused-holds c.from_residual.result _ (wants-at c.args.progress.now c.loop-length.progress c.args.held.now c.loop-length.from c.in-Some.length c.loop-length.invariant
    (rw c.suffix.ensures at here) (rw (c.prefix-line.ensures, c.suffix-in-Some.ensures) at c.in_err-effect.ensures.wants))

pub returns-clause-takes : goal.returns-clause-takes
returns-clause-takes c =
    taking-more c.args.progress.now c.loop-length.progress c.args.held.now c.loop-length.from c.loop-length.invariant
    (rw (none-unless c.memchr.result c.in_default.not-Some, c.suffix.ensures) at (feed-at c.suffix.result.now c.memchr.result c.memchr.ensures))
