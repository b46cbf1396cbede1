use Rattle.std.proofs.Common.{◌≡◌, ◌<◌, ◌≤◌, length, false}
use Rattle.bufr_bits.specs.Prelude.{counted}
use Rattle.bufr_text.specs.Prelude.{MovesPrefix}
use Rattle.bufr_cli.proofs.buffered.write_out.Given as goal

-- A prefix was written, the other octets remain, and no call failed. While octets remain, no write
-- accepted all of its octets.
abbrev pub invariant-loop-rest : goal.invariant-loop-rest
invariant-loop-rest g l = record {
  so_far : MovesPrefix (g.S.Sink.taken l.fn.sink) (g.S.Sink.taken l.sink) l.octets l.rest;
  failures : g.S.Sink.failures l.sink ≡ g.S.Sink.failures l.fn.sink;
  empty : g.S.Sink.empty_writes l.sink ≡ g.S.Sink.empty_writes l.fn.sink;
  none : 0 < length l.rest → g.S.Sink.whole_writes l.sink ≤ g.S.Sink.whole_writes l.fn.sink;
  whole : g.S.Sink.whole_writes l.sink ≤ counted (g.S.Sink.whole_writes l.fn.sink) 1;
  flushes : g.S.Sink.flushes l.sink ≡ g.S.Sink.flushes l.fn.sink;
  unflushed : length l.rest < length l.octets → g.S.Sink.all_flushed l.sink ≡ false;
  same : length l.rest ≡ length l.octets → g.S.Sink.all_flushed l.sink ≡ g.S.Sink.all_flushed l.fn.sink;
}

abbrev pub decreases-loop-rest : goal.decreases-loop-rest
decreases-loop-rest g l = length l.rest
