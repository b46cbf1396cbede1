use Rattle.bufr_frame.proofs.FinderLemmas.{events-are-scan}
use Rattle.bufr_frame.proofs.laws.events_to_the_end_are_the_scan.Goals as goal

pub returns : goal.returns
returns c = events-are-scan
