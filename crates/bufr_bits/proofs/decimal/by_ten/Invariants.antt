use Rattle.std.proofs.Common.{◌≡◌, ◌-◌, ◌^◌}
use Rattle.bufr_bits.specs.Prelude.{whole_quotient}
use Rattle.bufr_bits.proofs.decimal.by_ten.Given as goal

abbrev pub invariant-loop-turn : goal.invariant-loop-turn
invariant-loop-turn l = whole_quotient l.number (10 ^ l.times) ≡ whole_quotient l.value (10 ^ (l.times - l._turn))
