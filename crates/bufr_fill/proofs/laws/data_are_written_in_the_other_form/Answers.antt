use Rattle.bufr_walk.proofs.NextField.{table_read}
use Rattle.bufr_fill.proofs.WholeLaws.{written_apart, written_together}
use Rattle.bufr_fill.proofs.laws.data_are_written_in_the_other_form.Goals as goal

pub returns-clause-apart : goal.returns-clause-apart
returns-clause-apart c = λ records table template rows legal. written_apart table template (table_read records table rows) legal

pub returns-clause-together : goal.returns-clause-together
returns-clause-together c = λ records table template rows legal. written_together table template (table_read records table rows) legal
