use Rattle.bufr_frame.proofs.FinderLemmas.{events-are-certain}
use Rattle.bufr_frame.proofs.laws.events_before_the_end_are_certain.Goals as goal

pub returns : goal.returns
returns c = events-are-certain
