use Rattle.std.proofs.Common.{◌≡◌, ◌∙◌, Ok, ap, arith, refl}
use Rattle.std.proofs.lemmas.Bool.Decides.{nat_tests}
use Rattle.std.proofs.lemmas.Grind.{common_steps}
use Rattle.bufr_text.proofs.PushLemmas.{pushed_through}
use Rattle.bufr_text.proofs.line_writer.LineWriter.push_through.Goals as goal

pub returns-then-is_ok-clause-pushes : goal.returns-then-is_ok-clause-pushes
returns-then-is_ok-clause-pushes g c =
    let is = c.self.view_is in
    let ok : c.self.inside.status ≡ Ok tt = grind (arith, nat_tests, common_steps, c.is_ok.ensures, c.if-is_ok.ensures) in
    pushed_through c.flush_buf.ensures.pushes is c.flush_buf.ensures.none ok c.write_all-self-inside.ensures.writes c.write_all-self-inside.ensures.counts
    (ap (λ x. x.held) is ∙ c.flush_buf.ensures.none)
    c.write_all-self-inside.ensures.flushes refl refl
