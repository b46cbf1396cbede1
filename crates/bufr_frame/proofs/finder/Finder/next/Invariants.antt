use Rattle.std.proofs.Common.{◌≡◌, ◌-◌, ◌≤◌}
use Rattle.bufr_frame.specs.Prelude.{max_reads}
use Rattle.bufr_frame.proofs.FinderLemmas.{ReadingOn}
use Rattle.bufr_frame.proofs.finder.Finder.next.Given as goal

-- Octets were read, and no event was passed.
abbrev pub invariant-loop-self : goal.invariant-loop-self
invariant-loop-self g l = record {
  on : ReadingOn (g.R.Source.left l.fn.r) (g.R.Source.left l.r) (g.R.Source.reads l.fn.r) (g.R.Source.reads l.r) l.fn.self l.self;
  failed : g.R.Source.failures l.r ≡ g.R.Source.failures l.fn.r;
  room : l.fn.self.room ≤ l.self.room;
}

abbrev pub decreases-loop-self : goal.decreases-loop-self
decreases-loop-self g l = max_reads - l.self.reads
