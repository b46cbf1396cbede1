use Rattle.bufr_tables.proofs.SoundLemmas.{tree_fine}
use Rattle.bufr_tables.specs.Prelude.{tables_of}
use Rattle.bufr_text.proofs.FormLemmas.{formed, answered}
use Rattle.bufr_walk.proofs.NextField.{table_read}
use Rattle.bufr_text.proofs.laws.dumped_messages_are_encoded_in_each_form.Goals as goal

pub returns : goal.returns
returns c = λ records table sequences m s template values used at form rows a.
    let is = formed form table sequences m s template values used at (table_read records table rows) (tree_fine (tables_of table sequences) s.descriptors template a.expands).legal a in
    (is, λ why refuses. answered form table s template values _ why is refuses)
