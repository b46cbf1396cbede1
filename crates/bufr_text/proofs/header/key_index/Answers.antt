use Rattle.std.proofs.Common.{◌∙◌}
use Rattle.bufr_text.proofs.HeaderLemmas.{key_index-is}
use Rattle.bufr_text.proofs.header.key_index.Goals as goal

pub returns-clause-value : goal.returns-clause-value
returns-clause-value c =
    c.position.ensures ∙ key_index-is (λ key. key.0.now) c.args.name.now c.keys.result.now c.keys.ensures.leads
