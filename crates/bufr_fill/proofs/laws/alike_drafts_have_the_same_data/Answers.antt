use Rattle.bufr_walk.proofs.NextField.{table_read}
use Rattle.bufr_fill.proofs.WholeLaws.{written_alike}
use Rattle.bufr_fill.proofs.laws.alike_drafts_have_the_same_data.Goals as goal

pub returns : goal.returns
returns c = λ records table template rows legal. written_alike table template (table_read records table rows) legal
