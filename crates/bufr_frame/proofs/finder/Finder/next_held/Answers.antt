use Rattle.std.proofs.Common.{◌∙◌, ap, sym, refl, rules}
use Rattle.bufr_frame.proofs.FinderLemmas.{held-done, held-found}
use Rattle.bufr_frame.proofs.finder.Finder.next_held.Goals as goal

pub returns-in-Some : goal.returns-in-Some
returns-in-Some c =
    ((refl, (λ _. tt), (sym (ap (λ x. x.fault) c.self.view_is) ∙ c.in-Some.is, refl)), search rules)

pub returns-in-End : goal.returns-in-End
returns-in-End c =
    let sound = sym (ap (λ x. x.fault) c.self.view_is) ∙ c.in_default.is in
    ((refl, (λ _. tt), held-done _ _ sound (rw c.in-End.is at c.pass.ensures.shows) (rw c.in-End.is at c.pass.ensures.gone) c.pass.ensures.near c.pass.ensures.bound c.pass.ensures.most), search rules)

pub returns-in-Found : goal.returns-in-Found
returns-in-Found c =
    let sound = sym (ap (λ x. x.fault) c.self.view_is) ∙ c.in_default.is in (
      (
        refl,
        (λ _. tt),
        held-found _ _ _ _ _ _ sound (rw c.in-Found.is at c.pass.ensures.shows) (rw c.in-Found.is at c.pass.ensures.gone) c.pass.ensures.near c.pass.ensures.bound c.pass.ensures.most
            c.passed_event.ensures,
      ),
      search rules,
    )
