use Rattle.bufr_frame.proofs.FinderLemmas.{steps-compose}
use Rattle.bufr_frame.proofs.laws.steps_compose.Goals as goal

pub returns : goal.returns
returns c = steps-compose
