use Rattle.bufr_frame.proofs.AgainLemmas.{written-again}
use Rattle.bufr_frame.proofs.laws.plain_messages_are_written_again.Goals as goal

pub returns : goal.returns
returns c = written-again
