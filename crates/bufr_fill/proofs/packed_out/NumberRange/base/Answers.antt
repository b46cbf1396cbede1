use Rattle.std.proofs.Common.{◌≤◌, ◌∙◌, rules, arith}
use Rattle.bufr_fill.proofs.LeastLemmas.{base_some, base_none}
use Rattle.bufr_fill.proofs.packed_out.NumberRange.base.Goals as goal

pub returns-then-self : goal.returns-then-self
returns-then-self c = λ count contents range.
    let fits : c.args.self.greatest ≤ 18446744073709551615 = search rules in
    range.least ∙ base_some count contents (omega (arith, range.greatest, fits)) (omega (arith, range.least, range.greatest, c.if-self.true))

pub returns-else-self : goal.returns-else-self
returns-else-self c = λ count contents range.
    let fits : c.args.self.greatest ≤ 18446744073709551615 = search rules in
    base_none count contents (omega (arith, range.greatest, fits)) (omega (arith, range.least, range.greatest, c.if-self.false))
