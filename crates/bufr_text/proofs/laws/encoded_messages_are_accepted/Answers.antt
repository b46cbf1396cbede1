use Rattle.bufr_text.proofs.RoundTripLemmas.{same_text}
use Rattle.bufr_text.proofs.laws.encoded_messages_are_accepted.Goals as goal

pub returns-clause-same_text : goal.returns-clause-same_text
returns-clause-same_text c = same_text
