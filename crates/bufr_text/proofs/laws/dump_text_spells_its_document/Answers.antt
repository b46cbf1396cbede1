use Rattle.bufr_text.proofs.DumpTextLemmas.{one-document, text-spells}
use Rattle.bufr_text.proofs.laws.dump_text_spells_its_document.Goals as goal

pub returns : goal.returns
returns c = λ s subsets given. (λ at t. text-spells s subsets at t given, one-document s subsets given)
