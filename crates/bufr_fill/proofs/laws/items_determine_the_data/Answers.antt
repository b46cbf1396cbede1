use Rattle.bufr_walk.proofs.NextField.{table_read}
use Rattle.bufr_fill.proofs.WholeLaws.{said_alike}
use Rattle.bufr_fill.proofs.laws.items_determine_the_data.Goals as goal

pub returns : goal.returns
returns c = λ records table template rows legal. said_alike table template (table_read records table rows) legal
