use Rattle.bufr_text.proofs.HeaderLemmas.{word_there}
use Rattle.bufr_text.proofs.header.word_at.Goals as goal

pub returns-in-len1-up-clause-word : goal.returns-in-len1-up-clause-word
returns-in-len1-up-clause-word c =
    let there = c.in_ok-get.ensures.lookup in
    word_there (λ key. key.0.now) c.keys.result.now c.args.index c.in_ok-get.field-0.now c.keys.ensures.leads (there.3.0) (there.1)
