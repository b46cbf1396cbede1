use Rattle.bufr_walk.proofs.NextField.{table_read}
use Rattle.bufr_fill.proofs.BackLaws.{read_back}
use Rattle.bufr_fill.proofs.laws.written_data_are_read.Goals as goal

pub returns : goal.returns
returns c = λ records table template rows legal. read_back table template (table_read records table rows) legal
