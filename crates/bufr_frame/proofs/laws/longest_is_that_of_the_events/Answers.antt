use Rattle.bufr_frame.proofs.FinderLemmas.{longest-events}
use Rattle.bufr_frame.proofs.laws.longest_is_that_of_the_events.Goals as goal

pub returns : goal.returns
returns c = longest-events
