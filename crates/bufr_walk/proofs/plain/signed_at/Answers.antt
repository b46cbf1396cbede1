use Rattle.std.proofs.Common.{arith, ◌-◌}
use Rattle.bufr_walk.proofs.PlainLemmas.{small_power}
use Rattle.bufr_walk.proofs.plain.signed_at.Goals as goal

pub signed-requires : goal.signed-requires
signed-requires c = small_power (c.args.width - 1) _ (omega (arith, c.requires.few)) c.number_at-size.ensures.below
