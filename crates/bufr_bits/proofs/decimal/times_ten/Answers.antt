use Rattle.bufr_bits.proofs.DecimalLemmas.{capped_ten, ten_more}
use Rattle.bufr_bits.proofs.decimal.times_ten.Goals as goal

pub turns-preserved : goal.turns-preserved
turns-preserved c = λ n e. capped_ten _ _ c.turns.value c.saturating_mul-value.result (c.turns.invariant n e) c.saturating_mul-value.ensures (ten_more n c.turns._turn)
