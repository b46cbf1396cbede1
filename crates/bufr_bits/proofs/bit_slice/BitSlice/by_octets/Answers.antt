use Rattle.std.proofs.Common.{arith, ℕ, ap, ◌≤◌, ◌-◌, ◌∙◌, ◌≡◌, ◌+◌, ◌/◌, ◌*◌, ◌%◌, ◌^◌, ◌<◌, get_or}
use Rattle.bufr_bits.specs.Prelude.{number_of, bits_at}
use Rattle.bufr_bits.proofs.BitLemmas.{field_in, window_from, next_part, power_fits, fits_in_63}
use Rattle.bufr_bits.proofs.bit_slice.BitSlice.by_octets.Goals as goal

next_value : (c : goal.After-from-in-loop-done) → c.loop-done.value * 2 ^ c.min-taken.result % 18446744073709551616 + c.from-in-loop-done.result % (1 * 2 ^ c.min-taken.result % 18446744073709551616)
    ≡ number_of (bits_at c.args.self.now.octets.now c.args.at (c.loop-done.done + c.min-taken.result))
next_value c =
    let done = c.from.ensures in
    let small : get_or c.args.self.now.octets.now ((c.args.at + c.from.result) / 8) 0 < 256 = omega arith in
    next_part c.args.self.now.octets.now c.args.at c.args.width c.loop-done.done c.min-taken.result c.loop-done.value
    (c.from-in-loop-done.result % (1 * 2 ^ c.min-taken.result % 18446744073709551616)) (omega arith) (omega arith) (omega arith) (omega arith) c.loop-done.invariant.so_far (rw done at small)
    (ap (λ p. c.from-in-loop-done.result % p) (power_fits c.min-taken.result (omega arith)) ∙ ap (λ n. n % 2 ^ c.min-taken.result) (rw done at c.from-in-loop-done.ensures))

pub returns-in-Some : goal.returns-in-Some
returns-in-Some c =
    let octets = c.args.self.now.octets.now in
    let first = c.saturating_sub-first.result in
    let window = window_from octets first c.in-Some.window c.in-Some.ensures in
    let some = window.within in
    let is = c.saturating_sub-first.ensures in
    let from = c.args.at - 8 * first in
    let place : 8 * first + from ≡ c.args.at = omega arith in
    let fits : from + c.args.width ≤ 64 = omega (arith, c.requires.within) in
    field_in octets c.args.at first from c.args.width c.in-Some.window window place fits c.requires.few

pub overflow_add-value : goal.overflow_add-value
overflow_add-value c =
    let fits = fits_in_63 c.args.self.now.octets.now c.args.at (c.loop-done.done + c.min-taken.result) _ (omega arith) (omega arith) (next_value c) in
    omega arith

pub loop-done-preserved : goal.loop-done-preserved
loop-done-preserved c = record { within = omega arith; inside = omega arith; so_far = next_value c }

pub returns : goal.returns
returns c =
    let done : c.loop-done.done ≡ c.args.width = omega arith in
    c.loop-done.invariant.so_far ∙ ap (λ (m : ℕ). number_of (bits_at c.args.self.now.octets.now c.args.at m)) done
