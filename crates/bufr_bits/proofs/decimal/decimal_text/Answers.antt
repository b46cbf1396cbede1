use Rattle.std.proofs.Common.{sym, ap, ◌∙◌, append-nil, to_z-of_z, unsigned_abs}
use Rattle.bufr_bits.specs.Prelude.{positive_scale, negative_scale}
use Rattle.bufr_bits.proofs.DecimalLemmas.{text_pointed, text_plain, some_zeros, no_zeros}
use Rattle.bufr_bits.proofs.decimal.decimal_text.Goals as goal

pub returns-then-places-gt0-clause-ok : goal.returns-then-places-gt0-clause-ok
returns-then-places-gt0-clause-ok c =
    text_pointed c.args.out.now.items _ _ _ _ c.args.v c.args.scale _ _ c.if-places-gt0.true (c.powers_of-places.ensures.up ∙ ap positive_scale (to_z-of_z c.ranges.scale))
    (c.unsigned_abs-size.ensures.value ∙ ap unsigned_abs (to_z-of_z c.ranges.v)) (c.as_bytes-digits.ensures.value ∙ c.format.ensures.text) (rw (to_z-of_z c.ranges.v) at c.push_sign.ensures.items)
    c.in_ok-reserve.ensures.items c.push_with_point.ensures

pub returns-then-size-gt0-clause-ok : goal.returns-then-size-gt0-clause-ok
returns-then-size-gt0-clause-ok c =
    let scale = to_z-of_z c.ranges.scale in
    text_plain c.args.out.now.items _ _ _ _ _ c.args.v c.args.scale _ _ _ _ c.if-places-gt0.false (c.powers_of-places.ensures.up ∙ ap positive_scale scale)
    (c.powers_of-places.ensures.down ∙ ap negative_scale scale) (c.unsigned_abs-size.ensures.value ∙ ap unsigned_abs (to_z-of_z c.ranges.v))
    (c.as_bytes-digits.ensures.value ∙ c.format.ensures.text) (some_zeros _ _ c.if-size-gt0.true) (rw (to_z-of_z c.ranges.v) at c.push_sign.ensures.items) c.in_ok-reserve.ensures.items
    c.put.ensures.items c.put_zero_digits.ensures.items

pub returns-else-size-gt0-clause-ok : goal.returns-else-size-gt0-clause-ok
returns-else-size-gt0-clause-ok c =
    let scale = to_z-of_z c.ranges.scale in
    text_plain c.args.out.now.items _ _ _ _ _ c.args.v c.args.scale _ _ _ 0 c.if-places-gt0.false (c.powers_of-places.ensures.up ∙ ap positive_scale scale)
    (c.powers_of-places.ensures.down ∙ ap negative_scale scale) (c.unsigned_abs-size.ensures.value ∙ ap unsigned_abs (to_z-of_z c.ranges.v))
    (c.as_bytes-digits.ensures.value ∙ c.format.ensures.text) (no_zeros _ _ c.if-size-gt0.false) (rw (to_z-of_z c.ranges.v) at c.push_sign.ensures.items) c.in_ok-reserve.ensures.items
    c.put.ensures.items (sym (append-nil _))
