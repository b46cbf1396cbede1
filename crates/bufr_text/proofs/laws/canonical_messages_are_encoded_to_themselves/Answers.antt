use Rattle.bufr_tables.proofs.SoundLemmas.{tree_fine}
use Rattle.bufr_tables.specs.Prelude.{tables_of}
use Rattle.bufr_text.proofs.FormLemmas.{canonical_back, canonical_encoded}
use Rattle.bufr_walk.proofs.NextField.{table_read}
use Rattle.bufr_text.proofs.laws.canonical_messages_are_encoded_to_themselves.Goals as goal

pub returns : goal.returns
returns c = λ records table sequences m s template values used at rows a canonical.
    let good = table_read records table rows in
    let legal = (tree_fine (tables_of table sequences) s.descriptors template a.expands).legal in (
      canonical_encoded table sequences m s template values used at good legal a canonical,
      λ form octets again. canonical_back form table sequences m s template values used at octets good legal a canonical again,
    )
