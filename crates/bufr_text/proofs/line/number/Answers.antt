use Rattle.std.proofs.Common.{sym, ◌∙◌}
use Rattle.bufr_text.proofs.NumberLemmas.{number-on}
use Rattle.bufr_text.proofs.line.number.Goals as goal

pub loop-octet-preserved : goal.loop-octet-preserved
loop-octet-preserved c = number-on c.args.text.now c.loop-octet.octet-index c.loop-octet.number c.min-number.result c.loop-octet.invariant c.loop-octet-test.true
    (sym c.is_ascii_digit.ensures.value ∙ c.if-not-is_ascii_digit.false) (rw c.from.ensures at c.min-number.ensures)
