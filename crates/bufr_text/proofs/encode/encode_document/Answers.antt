use Rattle.std.proofs.Common.{subst, sym}
use Rattle.bufr_tables.proofs.SoundLemmas.{tree_fine}
use Rattle.bufr_tables.specs.Prelude.{tables_of}
use Rattle.bufr_walk.proofs.NextField.{table_read}
use Rattle.bufr_text.specs.Prelude.{Document, IsEncodedAgain}
use Rattle.bufr_text.proofs.RoundTripLemmas.{encoded_again}
use Rattle.bufr_text.proofs.FormLemmas.{again_so}
use Rattle.bufr_text.proofs.encode.encode_document.Goals as goal

pub returns-clause-again : goal.returns-clause-again
returns-clause-again c = λ records m s template values used at rows a same.
    let table = c.args.table_b.now in
    let sequences = c.args.table_d.now in
    let legal = (tree_fine (tables_of table sequences) s.descriptors template a.expands).legal in
    let E : Document → Type 0 = λ d. IsEncodedAgain table sequences m s template values d in
    again_so table sequences m s template values c.args.document.now c.encode_form.result c.encode_form.ensures.octets c.encode_form.ensures.fault
    (subst E (sym same) (encoded_again table sequences m s template values used at (table_read records table rows) legal a))
