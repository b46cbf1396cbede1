use Rattle.bufr_walk.proofs.NextField.{table_read}
use Rattle.bufr_fill.proofs.WholeLaws.{written_again}
use Rattle.bufr_fill.proofs.laws.data_round_trip.Goals as goal

pub returns : goal.returns
returns c = λ records table template rows legal. written_again table template (table_read records table rows) legal
