use Rattle.std.proofs.Common.{subst}
use Rattle.std.specs.List.{All}
use Rattle.bufr_walk.specs.Prelude.{Lists, MayStay}
use Rattle.bufr_walk.proofs.CacheLemmas.{all_stay}
use Rattle.bufr_walk.proofs.lists.TemplateCache.others.Goals as goal

pub returns-clause-stay : goal.returns-clause-stay
returns-clause-stay c =
    subst (λ (v : Lists). All (MayStay v.table_b v.table_d) v.others) c.self.view_is (all_stay _ _ c.self.inside.others.items c.self.invariant.others)
