use Rattle.std.proofs.Common.{◌≡◌, ◌≤◌, ◌-◌, ◌*◌, ◌+◌, max, length, vec_capacity}
use Rattle.bufr_bits.specs.Prelude.{counted}
use Rattle.bufr_frame.specs.Prelude.{AddsReads, max_reads}
use Rattle.bufr_frame.proofs.FinderLemmas.{ReadSoFar}
use Rattle.bufr_frame.proofs.input.read_to_end.Given as goal

-- Octets were read and buffered, at least one by each read. Reads were counted, and none failed.
abbrev pub invariant-loop-reads : goal.invariant-loop-reads
invariant-loop-reads g l = record {
  so_far : ReadSoFar (g.R.Source.left l.fn.r) (g.R.Source.left l.r) l.fn.octets.items l.octets.items;
  failed : g.R.Source.failures l.r ≡ g.R.Source.failures l.fn.r;
  counts : AddsReads (g.R.Source.reads l.fn.r) (g.R.Source.reads l.r) l.fn.reads l.reads;
  each : l.reads - l.fn.reads ≤ length l.octets.items - length l.fn.octets.items;
  asked : g.R.Source.asked l.r ≡ counted (g.R.Source.asked l.fn.r) (65536 * (l.reads - l.fn.reads));
  capacity : vec_capacity l.octets ≤ max (vec_capacity l.fn.octets) (2 * length l.octets.items + 65536);
}

abbrev pub decreases-loop-reads : goal.decreases-loop-reads
decreases-loop-reads g l = max_reads - l.reads
