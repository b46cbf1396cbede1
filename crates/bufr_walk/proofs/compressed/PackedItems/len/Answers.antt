use Rattle.std.proofs.Common.{◌≡◌, ◌∙◌, length, subst}
use Rattle.bufr_walk.proofs.PackedShowing.{length-items_at}
use Rattle.bufr_walk.proofs.compressed.PackedItems.len.Goals as goal

pub returns : goal.returns
returns c = subst (λ p. c.len.result ≡ length p.items) c.self.view_is (c.len.ensures ∙ length-items_at _ _ _)
