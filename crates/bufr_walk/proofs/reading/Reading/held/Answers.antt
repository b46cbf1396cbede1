use Rattle.std.proofs.Common.{◌≡◌, length, subst, sym, ap, ◌∙◌, arith}
use Rattle.bufr_walk.specs.Prelude.{held_of, stored_count, values_read}
use Rattle.bufr_walk.proofs.PackedShowing.{all_kept}
use Rattle.bufr_walk.proofs.reading.Reading.held.Goals as goal

pub returns-in-Apart-clause-items : goal.returns-in-Apart-clause-items
returns-in-Apart-clause-items c = subst (λ r. 0 ≡ stored_count (values_read r)) c.self.view_is (ap held_of (sym c.in-Apart.is) ∙ all_kept _ c.self.inside.kept c.self.invariant)

pub returns-in-Together-clause-items : goal.returns-in-Together-clause-items
returns-in-Together-clause-items c =
    let count : c.len.result ≡ length c.in-Together.items = omega (arith, c.len.ensures) in
    subst (λ r. c.len.result ≡ stored_count (values_read r)) c.self.view_is (count ∙ ap held_of (sym c.in-Together.is) ∙ all_kept _ c.self.inside.kept c.self.invariant)
