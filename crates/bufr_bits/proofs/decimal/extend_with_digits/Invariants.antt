use Rattle.std.proofs.Common.{◌≡◌, ℕ, take}
use Rattle.std.specs.Str.Parse.{digits_value_after}
use Rattle.bufr_bits.specs.Prelude.{capped}
use Rattle.bufr_bits.proofs.decimal.extend_with_digits.Given as goal

abbrev pub invariant-loop-digit : goal.invariant-loop-digit
invariant-loop-digit l = (n : ℕ) → l.number ≡ capped n → l.value ≡ capped (digits_value_after 10 n (take l.digit-index l.digits))
