use Rattle.std.proofs.Common.{◌∙◌, sym, arith}
use Rattle.bufr_bits.proofs.ShortLemmas.{quotient_stops, quotient_goes_on}
use Rattle.bufr_bits.proofs.decimal.by_ten.Goals as goal

pub returns-then-value-ne0 : goal.returns-then-value-ne0
returns-then-value-ne0 c =
    sym (c.loop-turn.invariant ∙ quotient_stops c.loop-turn.value c.loop-turn._turn c.args.times c.loop-turn-test.true (omega (arith, c.if-value-ne0.true)))

pub loop-turn-preserved : goal.loop-turn-preserved
loop-turn-preserved c =
    c.loop-turn.invariant ∙ quotient_goes_on c.loop-turn.value c.loop-turn._turn c.args.times c.loop-turn-test.true c.if-value-ne0.false
