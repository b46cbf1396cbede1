use Rattle.std.proofs.Common.{◌≡◌, ◌+◌, ◌-◌, ◌^◌}
use Rattle.bufr_frame.specs.Prelude.{max_reads, AddsReads}
use Rattle.bufr_cli.specs.Prelude.{FlushesAtMost, input_of, writers_of}
use Rattle.bufr_cli.proofs.RunLemmas.{RunSoFar}
use Rattle.bufr_cli.proofs.run_pieces.run_pieces.Given as goal

-- Pieces were written, and no device failed.
abbrev pub invariant-loop-verdict : goal.invariant-loop-verdict
invariant-loop-verdict g l = record {
  ran : RunSoFar (g.P.PieceWriter.reaches l.next) (input_of g.R.Source l.fn.r) (input_of g.R.Source l.r) (writers_of g.W.Sink l.fn.w g.E.Sink l.fn.e) (writers_of g.W.Sink l.w g.E.Sink l.e) l.tally
      l.unflushed;
  counts : AddsReads (g.R.Source.reads l.fn.r) (g.R.Source.reads l.r) 0 (g.P.PieceWriter.reads l.next);
  rare : FlushesAtMost (g.P.PieceWriter.reads l.next) (writers_of g.W.Sink l.fn.w g.E.Sink l.fn.e) (writers_of g.W.Sink l.w g.E.Sink l.e);
  same : g.P.PieceWriter.pieces l.next ≡ g.P.PieceWriter.pieces l.fn.next;
  memory : g.P.PieceWriter.takes_memory l.next ≡ g.P.PieceWriter.takes_memory l.fn.next;
}

-- Each piece raises the tally by one, and each read raises the number of reads by one.
abbrev pub decreases-loop-verdict : goal.decreases-loop-verdict
decreases-loop-verdict g l = (2 ^ 63 - (l.tally.accepted + l.tally.refused)) + (max_reads - g.P.PieceWriter.reads l.next)
