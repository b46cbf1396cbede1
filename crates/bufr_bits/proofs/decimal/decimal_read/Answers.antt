use Rattle.std.proofs.Common.{ap, ◌∙◌, Err, to_z-of_z}
use Rattle.std.proofs.lemmas.Result.{err_from_is_err_and}
use Rattle.bufr_bits.specs.Prelude.{positive_scale, negative_scale}
use Rattle.bufr_bits.proofs.DecimalLemmas.{read_syntax, read_fault, read_found}
use Rattle.bufr_bits.proofs.decimal.decimal_read.Goals as goal

pub returns-in_default : goal.returns-in_default
returns-in_default c = read_syntax c.args.text.now _ c.args.scale c.without_sign-negative.ensures.body c.in_default.ensures

pub returns-in_err-number : goal.returns-in_err-number
returns-in_err-number c =
    let passed = err_from_is_err_and c.from_residual.result c.from_residual.ensures.1 in
    read_fault c.args.text.now _ c.in-Some.whole.now c.in-Some.fraction.now c.args.scale _ _ c.in_err-number.field-0.0 _ c.without_sign-negative.ensures.body c.in-Some.ensures
    (c.powers_of-up.ensures.up ∙ ap positive_scale (to_z-of_z c.ranges.scale)) (c.powers_of-up.ensures.down ∙ ap negative_scale (to_z-of_z c.ranges.scale)) c.in_err-number.ensures
    (passed.1 ∙ ap Err passed.2)

pub returns : goal.returns
returns c = read_found c.args.text.now _ c.in-Some.whole.now c.in-Some.fraction.now c.args.scale _ _ c.in_ok-number.number _ c.apply_sign.result c.without_sign-negative.ensures.body c.in-Some.ensures
    (c.powers_of-up.ensures.up ∙ ap positive_scale (to_z-of_z c.ranges.scale)) (c.powers_of-up.ensures.down ∙ ap negative_scale (to_z-of_z c.ranges.scale)) c.without_sign-negative.ensures.sign
    c.in_ok-number.ensures c.apply_sign.ensures
