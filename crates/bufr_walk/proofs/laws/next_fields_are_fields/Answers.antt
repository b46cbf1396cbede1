use Rattle.bufr_walk.proofs.NextField.{table_read, next_field}
use Rattle.bufr_walk.proofs.laws.next_fields_are_fields.Goals as goal

pub returns : goal.returns
returns c = λ records table template answers spec rows legal within e. next_field table template (table_read records table rows) legal answers spec within e
