use Rattle.std.proofs.Common.{sym}
use Rattle.bufr_walk.proofs.CacheLemmas.{spec_cached}
use Rattle.bufr_walk.proofs.walker.find_and_take.Goals as goal

pub insert-requires : goal.insert-requires
insert-requires g c =
    spec_cached c.args.cache.now c.args.in_force.now c.args.field c.args.key c.in_ok-spec.spec c.requires.key c.requires.few (sym (rw c.cache.view_is at c.in_ok-spec.ensures))
