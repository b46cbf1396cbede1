use Rattle.std.proofs.Common.{sym, ◌∙◌}
use Rattle.bufr_text.proofs.ItemLemmas.{token-on, token-stop, token-end}
use Rattle.bufr_text.proofs.line.token.Goals as goal

pub loop-at-preserved : goal.loop-at-preserved
loop-at-preserved c = token-on c.args.text.now c.loop-at.at c.loop-at.invariant c.loop-at-test.true (sym c.is_number_octet.ensures ∙ c.if-is_number_octet.true)

pub returns-else-is_number_octet-clause-count : goal.returns-else-is_number_octet-clause-count
returns-else-is_number_octet-clause-count c = token-stop c.args.text.now c.loop-at.at c.loop-at.invariant c.loop-at-test.true (sym c.is_number_octet.ensures ∙ c.if-is_number_octet.false)

pub returns-after-loop-at-clause-count : goal.returns-after-loop-at-clause-count
returns-after-loop-at-clause-count c = token-end c.args.text.now c.loop-at.at c.loop-at.invariant c.loop-at-test.false
