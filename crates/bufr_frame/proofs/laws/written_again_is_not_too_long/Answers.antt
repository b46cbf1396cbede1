use Rattle.bufr_frame.proofs.AgainLemmas.{not-too-long}
use Rattle.bufr_frame.proofs.laws.written_again_is_not_too_long.Goals as goal

pub returns : goal.returns
returns c = not-too-long
