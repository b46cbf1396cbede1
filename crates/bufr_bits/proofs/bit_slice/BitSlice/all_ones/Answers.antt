use Rattle.std.proofs.Common.{◌≡◌, ◌+◌, ◌-◌, ◌^◌, ◌*◌, ◌%◌, ℕ, Bool, true, false, eqb, arith, sym, ap, ◌∙◌, ◌&&◌}
use Rattle.std.proofs.lemmas.Bool.Decides.{nat_tests}
use Rattle.bufr_bits.specs.Prelude.{are_all_ones, bits_at}
use Rattle.bufr_bits.proofs.BitLemmas.{ones_by_first}
use Rattle.bufr_bits.proofs.bit_slice.BitSlice.all_ones.Goals as goal

pub returns-then-number-some : goal.returns-then-number-some
returns-then-number-some c =
    let loop = c.loop-left in
    let some = c.min-some in
    let rest = are_all_ones (bits_at c.args.self.now.octets.now (loop.from + some.result) (loop.left - some.result)) in
    let other : eqb c.number.result (1 * 2 ^ some.result % 18446744073709551616 - 1) ≡ false = let no = c.if-number-some.true in grind (arith, nat_tests, no) in
    let first = ones_by_first c.args.self.now.octets.now loop.from some.result loop.left c.number.result some.ensures loop.invariant.inside c.number.ensures.value in
    (omega (arith, c.len_bits-len.ensures, c.if-at-len.false, c.if-from-len.false, c.from.ensures), sym (loop.invariant.so_far ∙ first ∙ ap (λ (b : Bool). b && rest) other))

pub loop-left-preserved : goal.loop-left-preserved
loop-left-preserved c =
    let loop = c.loop-left in
    let some = c.min-some in
    let octets = c.args.self.now.octets.now in
    let ones : eqb c.number.result (1 * 2 ^ some.result % 18446744073709551616 - 1) ≡ true = let yes = c.if-number-some.false in grind (arith, nat_tests, yes) in
    let first = ones_by_first octets loop.from some.result loop.left c.number.result some.ensures loop.invariant.inside c.number.ensures.value in
    let rest = ap (λ (b : Bool). b && are_all_ones (bits_at octets (loop.from + some.result) (loop.left - some.result))) ones in
    let inside = loop.invariant.inside in
    record {
      inside = omega (arith, c.from-from.ensures, some.ensures);
      so_far = loop.invariant.so_far ∙ first ∙ rest ∙ ap (λ (k : ℕ). are_all_ones (bits_at octets (loop.from + k) (loop.left - some.result))) (sym c.from-from.ensures);
    }
