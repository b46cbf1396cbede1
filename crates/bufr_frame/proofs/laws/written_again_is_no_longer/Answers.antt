use Rattle.bufr_frame.proofs.AgainLemmas.{no-longer}
use Rattle.bufr_frame.proofs.laws.written_again_is_no_longer.Goals as goal

pub returns : goal.returns
returns c = no-longer
