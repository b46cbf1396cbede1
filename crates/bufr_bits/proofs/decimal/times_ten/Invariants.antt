use Rattle.std.proofs.Common.{◌≡◌, ℕ, ◌*◌, ◌^◌}
use Rattle.bufr_bits.specs.Prelude.{capped}
use Rattle.bufr_bits.proofs.decimal.times_ten.Given as goal

abbrev pub invariant-turns : goal.invariant-turns
invariant-turns l = (n : ℕ) → l.number ≡ capped n → l.value ≡ capped (n * 10 ^ l._turn)
