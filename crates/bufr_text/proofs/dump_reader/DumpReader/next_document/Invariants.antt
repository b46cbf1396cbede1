use Rattle.std.proofs.Common.{◌≡◌, ◌≤◌, ◌⊎◌, ◌+◌, ◌-◌, ◌*◌, [], List, ℕ, None, length, false}
use Rattle.bufr_frame.specs.Prelude.{max_reads, AddsReads, AsksAtMost}
use Rattle.bufr_text.specs.Prelude.{ReadsLines, ReadsOnlyIfNoLine}
use Rattle.bufr_text.proofs.dump_reader.DumpReader.next_document.Given as goal

-- What this call has done so far. It read octets, but only when no whole line was buffered, and
-- nothing was reported yet.
abbrev pub invariant-loop-next : goal.invariant-loop-next
invariant-loop-next g l = record {
  octets : List ℕ;
  call : ReadsLines (g.R.Source.left l.fn.r) (g.R.Source.left l.r) l.fn.self l.self [] octets;
  waits : (l.self.reads ≡ l.fn.self.reads) ⊎ ReadsOnlyIfNoLine (g.R.Source.left l.fn.r) l.fn.self l.self.reads octets;
  each : l.self.ended ≡ false → l.self.reads ≤ l.fn.self.reads + length octets;
  counts : AddsReads (g.R.Source.reads l.fn.r) (g.R.Source.reads l.r) l.fn.self.reads l.self.reads;
  asked : AsksAtMost (g.R.Source.asked l.fn.r) (g.R.Source.asked l.r) (4096 * (l.self.reads - l.fn.self.reads));
  failed : g.R.Source.failures l.r ≡ g.R.Source.failures l.fn.r;
  sound : l.self.fault ≡ None;
}

abbrev pub decreases-loop-next : goal.decreases-loop-next
decreases-loop-next g l = max_reads - l.self.reads
