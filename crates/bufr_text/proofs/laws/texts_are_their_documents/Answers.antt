use Rattle.bufr_text.proofs.LawLemmas.{text-reported}
use Rattle.bufr_text.proofs.ReaderLemmas.{open-prefix}
use Rattle.bufr_text.proofs.laws.texts_are_their_documents.Goals as goal

pub returns-clause-lines : goal.returns-clause-lines
returns-clause-lines c = text-reported

pub returns-clause-prefix : goal.returns-clause-prefix
returns-clause-prefix c = open-prefix
