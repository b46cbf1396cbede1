use Rattle.bufr_frame.proofs.AgainLemmas.{heads-fit, fitting-writable}
use Rattle.bufr_frame.proofs.laws.heads_of_messages_can_be_written.Goals as goal

pub returns : goal.returns
returns c = λ m s small is. let fits = heads-fit m s small is in (fits, fitting-writable s.head fits)
