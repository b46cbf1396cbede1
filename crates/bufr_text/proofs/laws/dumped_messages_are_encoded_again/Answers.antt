use Rattle.bufr_text.proofs.FormLemmas.{memory_alone}
use Rattle.bufr_tables.proofs.SoundLemmas.{tree_fine}
use Rattle.std.proofs.Common.{ℕ}
use Rattle.bufr_tables.specs.Prelude.{tables_of}
use Rattle.bufr_text.specs.Prelude.{dump_items, IsEncodedAgain, document_of}
use Rattle.bufr_text.proofs.DumpableLemmas.{dumpable}
use Rattle.bufr_walk.proofs.NextField.{table_read}
use Rattle.bufr_text.proofs.RoundTripLemmas.{encoded_again}
use Rattle.bufr_text.proofs.DumpTextLemmas.{one-document}
use Rattle.bufr_text.proofs.laws.dumped_messages_are_encoded_again.Goals as goal

pub returns : goal.returns
returns c = λ records table sequences m s template values used rows a.
    let legal = (tree_fine (tables_of table sequences) s.descriptors template a.expands).legal in
    let read = table_read records table rows in
    let items = dump_items table s.subsets values in
    let dumps = dumpable table sequences m s template values used read legal a in
    let again : (at : ℕ) → IsEncodedAgain table sequences m s template values (document_of at s items) = λ at. encoded_again table sequences m s template values used at read legal a in
    (dumps, one-document s items dumps, again, λ at why refuses. memory_alone why _ (again at).octets (again at).is refuses)
