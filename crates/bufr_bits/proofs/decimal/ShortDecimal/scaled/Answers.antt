use Rattle.std.proofs.Common.{◌≡◌, pos, Ok, Err, ◌∙◌, sym, ap, arith, to_z, to_z-of_z}
use Rattle.std.specs.Int.{w16, w128}
use Rattle.std.proofs.lemmas.Result.{err_from_is_err_and}
use Rattle.bufr_bits.specs.Prelude.{positive_scale, negative_scale}
use Rattle.bufr_bits.proofs.ShortLemmas.{value_own, value_up, value_down}
use Rattle.bufr_bits.proofs.decimal.ShortDecimal.scaled.Goals as goal

pub returns-then-from-scale : goal.returns-then-from-scale
returns-then-from-scale c =
    let d = c.args.self in
    let places : c.args.scale ≡ pos d.places = sym (to_z-of_z c.ranges.scale) ∙ ap (to_z w16) (sym c.if-from-scale.true) ∙ to_z-of_z {w = w16} {z = c.from.result} (record { sfits = c.from.type_inv })
    ∙ c.from.ensures in
    ap Ok (to_z-of_z {w = w128} {z = c.short_signed.result} (record { sfits = c.short_signed.type_inv })) ∙ c.short_signed.ensures
    ∙ sym (value_own d.negative d.digits d.places c.args.scale (omega (arith, c.from-digits.ensures, c.from-digits.type_inv)) places)

pub returns-then-less-up : goal.returns-then-less-up
returns-then-less-up c =
    let d = c.args.self in
    let up = c.powers_of-up.ensures.up ∙ ap positive_scale (to_z-of_z c.ranges.scale) in
    let down = c.powers_of-up.ensures.down ∙ ap negative_scale (to_z-of_z c.ranges.scale) in
    let number = c.times_ten.ensures d.digits (omega (arith, c.from-digits.ensures, c.from-digits.type_inv)) in
    value_up d.negative d.digits d.places c.args.scale (omega (arith, c.from-digits.ensures, c.from-digits.type_inv)) _ _ c.apply_sign.result up down
    (omega (arith, c.if-less-up.true, c.from-2.ensures)) (rw c.from-2.ensures at (c.apply_sign.ensures _ number))

pub returns-in_err-size : goal.returns-in_err-size
returns-in_err-size c =
    let d = c.args.self in
    let up = c.powers_of-up.ensures.up ∙ ap positive_scale (to_z-of_z c.ranges.scale) in
    let down = c.powers_of-up.ensures.down ∙ ap negative_scale (to_z-of_z c.ranges.scale) in
    let passed = err_from_is_err_and c.from_residual.result c.from_residual.ensures.1 in
    passed.1 ∙ ap Err passed.2 ∙ value_down d.negative d.digits d.places c.args.scale (omega (arith, c.from-digits.ensures, c.from-digits.type_inv)) _ _ (Err c.in_err-size.field-0.0) up down
    (omega (arith, c.if-less-up.false, c.from-2.ensures)) (rw c.from-2.ensures at c.in_err-size.ensures)

pub returns : goal.returns
returns c =
    let d = c.args.self in
    let up = c.powers_of-up.ensures.up ∙ ap positive_scale (to_z-of_z c.ranges.scale) in
    let down = c.powers_of-up.ensures.down ∙ ap negative_scale (to_z-of_z c.ranges.scale) in
    let signed = c.short_signed-2 in
    ap Ok (to_z-of_z {w = w128} {z = signed.result} (record { sfits = signed.type_inv })) ∙ signed.ensures
    ∙ value_down d.negative d.digits d.places c.args.scale (omega (arith, c.from-digits.ensures, c.from-digits.type_inv)) _ _ (Ok c.in_ok-size.size) up down
    (omega (arith, c.if-less-up.false, c.from-2.ensures)) (rw c.from-2.ensures at c.in_ok-size.ensures)
