use Rattle.std.proofs.Common.{◌∙◌, sym, arith, get_or}
use Rattle.bufr_bits.proofs.ShortLemmas.{digits_more, prefix_more, prefix_fits, digit_few}
use Rattle.bufr_bits.proofs.decimal.read_digits.Goals as goal

pub overflow_mul-value : goal.overflow_mul-value
overflow_mul-value c =
    omega (
      arith,
      prefix_fits c.args.number c.loop-octet.value c.loop-octet.octet-index 0 c.args.text.now c.loop-octet.invariant.1 c.loop-octet.invariant.2 c.loop-octet-test.true c.requires
          (omega arith),
    )

pub overflow_add-value : goal.overflow_add-value
overflow_add-value c =
    let octet = get_or c.args.text.now c.loop-octet.octet-index 0 in
    let few = digit_few octet (sym c.is_ascii_digit.ensures.value ∙ c.if-not-is_ascii_digit.false) in
    omega (
      arith,
      c.from.ensures,
      prefix_fits c.args.number c.loop-octet.value c.loop-octet.octet-index _ c.args.text.now c.loop-octet.invariant.1 c.loop-octet.invariant.2 c.loop-octet-test.true
          c.requires few.1,
    )

pub loop-octet-preserved : goal.loop-octet-preserved
loop-octet-preserved c =
    let digit = sym c.is_ascii_digit.ensures.value ∙ c.if-not-is_ascii_digit.false in
    let h = c.loop-octet.invariant in
    let more = prefix_more c.args.number c.args.text.now c.loop-octet.octet-index c.loop-octet-test.true digit in
    (omega arith, digits_more c.args.text.now c.loop-octet.octet-index h.1 c.loop-octet-test.true digit, omega (arith, more, h.2, c.from.ensures))
