use Rattle.bufr_text.proofs.ItemLemmas.{word-is}
use Rattle.bufr_text.proofs.line.without_prefix.Goals as goal

pub returns-clause-value : goal.returns-clause-value
returns-clause-value c = word-is c.args.word.now c.args.text.now c.strip_prefix.result c.strip_prefix.ensures.cases
