use Rattle.std.proofs.Common.{◌≡◌, ◌≤◌, ◌<◌, length}
use Rattle.bufr_bits.specs.Prelude.{counted}
use Rattle.bufr_text.specs.Prelude.{MovesPrefix}
use Rattle.bufr_text.proofs.line_writer.write_all.Given as goal

-- A prefix of the octets was written, and no call failed. As long as octets remain, no write
-- accepted all the octets that it was passed.
abbrev pub invariant-loop-rest : goal.invariant-loop-rest
invariant-loop-rest g l = record {
  so_far : MovesPrefix (g.W.Sink.taken l.fn.w) (g.W.Sink.taken l.w) l.octets l.rest;
  failures : g.W.Sink.failures l.w ≡ g.W.Sink.failures l.fn.w;
  empty : g.W.Sink.empty_writes l.w ≡ g.W.Sink.empty_writes l.fn.w;
  none : 0 < length l.rest → g.W.Sink.whole_writes l.w ≤ g.W.Sink.whole_writes l.fn.w;
  whole : g.W.Sink.whole_writes l.w ≤ counted (g.W.Sink.whole_writes l.fn.w) 1;
  flushes : g.W.Sink.flushes l.w ≡ g.W.Sink.flushes l.fn.w;
}

abbrev pub decreases-loop-rest : goal.decreases-loop-rest
decreases-loop-rest g l = length l.rest
