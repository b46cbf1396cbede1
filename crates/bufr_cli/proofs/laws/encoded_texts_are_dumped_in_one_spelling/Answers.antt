use Rattle.bufr_cli.proofs.RoundTripLemmas.{one-spelling}
use Rattle.bufr_cli.proofs.laws.encoded_texts_are_dumped_in_one_spelling.Goals as goal

pub returns : goal.returns
returns c = λ form records table_b table_d text rows. one-spelling form records table_b table_d rows text
