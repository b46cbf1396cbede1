use Rattle.std.proofs.Common.{◌≡◌, ◌⊎◌, inl, inr, ◌≤◌, ◌+◌, ℕ, length-take, take, arith}
use Rattle.bufr_bits.proofs.ShortLemmas.{fraction_fits, rest_is, prefix_alone, prefix_pointed}
use Rattle.bufr_bits.proofs.decimal.unsigned_prefix.Goals as goal

-- A zero that comes first is the only digit before the point.
first_zero : (d count : ℕ) → ((d ≡ 48) × (count ≤ 1)) ⊎ (d ≡ 48 → ⊥) → d ≡ 48 → count ≤ 1
first_zero d count (inl h) e = h.1
first_zero d count (inr h) e = absurd (h e)

pub read_digits-number-requires : goal.read_digits-number-requires
read_digits-number-requires c =
    let window = take c.min.result c.args.body.now in
    let count = c.read_digits-whole.result.1 in
    fraction_fits window _ count _ (omega (arith, length-take c.min.result c.args.body.now, c.min.ensures)) (omega (arith, c.read_digits-whole.ensures.count, c.if-count-window.false))
    (rest_is window (count + 1)) c.read_digits-whole.ensures.digits c.read_digits-whole.ensures.value

pub returns-then-count-window-clause-plain : goal.returns-then-count-window-clause-plain
returns-then-count-window-clause-plain c =
    let whole = c.read_digits-whole in
    prefix_alone c.args.body.now c.min.result whole.result.1 whole.result.0 (omega (arith, c.min.ensures)) whole.ensures.count (omega (arith, c.if-count-eq0.false))
    (first_zero _ whole.result.1 c.else-window-eq48.either) whole.ensures.digits whole.ensures.value

pub returns-then-window-count-ne46-clause-plain : goal.returns-then-window-count-ne46-clause-plain
returns-then-window-count-ne46-clause-plain c =
    let whole = c.read_digits-whole in
    prefix_alone c.args.body.now c.min.result whole.result.1 whole.result.0 (omega (arith, c.min.ensures)) whole.ensures.count (omega (arith, c.if-count-eq0.false))
    (first_zero _ whole.result.1 c.else-window-eq48.either) whole.ensures.digits whole.ensures.value

pub returns-clause-plain : goal.returns-clause-plain
returns-clause-plain c =
    let whole = c.read_digits-whole in
    let after = c.read_digits-number in
    let window = take c.min.result c.args.body.now in
    prefix_pointed c.args.body.now _ c.min.result whole.result.1 after.result.1 whole.result.0 after.result.0 (omega (arith, c.min.ensures))
    (omega (arith, whole.ensures.count, c.if-count-window.false)) (omega (arith, c.if-count-eq0.false)) (first_zero _ whole.result.1 c.else-window-eq48.either) c.if-window-count-ne46.false
    (rest_is window (whole.result.1 + 1)) (omega (arith, c.if-places-eq0.false)) after.ensures.count whole.ensures.digits whole.ensures.value after.ensures.digits after.ensures.value
