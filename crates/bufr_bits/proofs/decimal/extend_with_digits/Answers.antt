use Rattle.std.proofs.Common.{ℕ, ◌+◌, ◌*◌, ap, ◌∙◌, sym, take}
use Rattle.std.specs.Str.Parse.{digits_value_after}
use Rattle.bufr_bits.proofs.DecimalLemmas.{value_after-more, capped_step}
use Rattle.bufr_bits.proofs.decimal.extend_with_digits.Goals as goal

pub loop-digit-preserved : goal.loop-digit-preserved
loop-digit-preserved c = λ n e.
    let more = value_after-more n c.args.digits.now c.loop-digit.digit-index c.requires c.loop-digit-test.true in
    let next = more ∙ ap (λ (d : ℕ). digits_value_after 10 n (take c.loop-digit.digit-index c.args.digits.now) * 10 + d) (sym c.from.ensures) in
    capped_step _ _ c.loop-digit.value c.saturating_mul.result _ c.from.result (c.loop-digit.invariant n e) c.saturating_mul.ensures c.saturating_add-value.ensures next
