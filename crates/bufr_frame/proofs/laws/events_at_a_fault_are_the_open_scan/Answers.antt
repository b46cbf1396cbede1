use Rattle.bufr_frame.proofs.FinderLemmas.{events-are-open}
use Rattle.bufr_frame.proofs.laws.events_at_a_fault_are_the_open_scan.Goals as goal

pub returns : goal.returns
returns c = events-are-open
