use Rattle.std.proofs.Common.{sym, ◌∙◌, arith}
use Rattle.bufr_bits.proofs.ShortLemmas.{minus_text, plain_text}
use Rattle.bufr_bits.proofs.decimal.ShortDecimal.prefix.Goals as goal

pub returns-then-not-negative-clause-text : goal.returns-then-not-negative-clause-text
returns-then-not-negative-clause-text c =
    let sign = sym c.if-not-negative.true ∙ c.without_sign-negative.ensures.sign in
    rw c.if-not-negative.true (plain_text c.args.text.now _ c.in_ok-digits.count c.in_ok-digits.digits c.in_ok-digits.places sign c.without_sign-negative.ensures.body c.in_ok-digits.ensures.plain)

pub returns-clause-text : goal.returns-clause-text
returns-clause-text c =
    let sign = sym c.if-not-negative.false ∙ c.without_sign-negative.ensures.sign in
    rw c.if-not-negative.false (minus_text c.args.text.now _ c.in_ok-digits.count c.in_ok-digits.digits c.in_ok-digits.places sign c.without_sign-negative.ensures.body c.in_ok-digits.ensures.plain
    (omega (arith, c.if-digits-eq0.false)))
