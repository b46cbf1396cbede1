use Rattle.bufr_walk.proofs.CacheLemmas.{spec_got_plain}
use Rattle.bufr_walk.proofs.walker.take_field.Goals as goal

pub take_other-requires : goal.take_other-requires
take_other-requires g c = spec_got_plain c.args.cache.now c.args.in_force.now c.args.field c.key-operators.result c.in-Some.spec.now c.key-operators.ensures c.in-Some.ensures
