use Rattle.std.proofs.Common.{◌∙◌, ◌++◌, ap, arith, sym}
use Rattle.std.proofs.lemmas.Bool.Decides.{nat_tests}
use Rattle.bufr_text.specs.Prelude.{quoted}
use Rattle.bufr_text.proofs.PushLemmas.{so_far_on, so_far_last}
use Rattle.bufr_text.proofs.NumberLemmas.{quoted_end, quoted_step}
use Rattle.bufr_text.proofs.line_writer.LineWriter.push_quoted.Goals as goal

pub loop-rest-preserved-in-Some : goal.loop-rest-preserved-in-Some
loop-rest-preserved-in-Some g c =
    let start = c.push_start.ensures.pushes in
    let so_far = so_far_on c.loop-rest.invariant (start.1.1 ∙ ap (λ l. start.0 ++ quoted l) (sym c.suffix-rest.ensures)) start.1.0 in
    so_far_on so_far (quoted_step _ _ _ c.in-Some.ensures.cases.0) c.push_escaped.ensures

pub loop-rest-preserved : goal.loop-rest-preserved
loop-rest-preserved g c =
    let start = c.push_start.ensures.pushes in
    so_far_on c.loop-rest.invariant (start.1.1 ∙ ap (λ l. start.0 ++ quoted l) (sym c.suffix-rest.ensures)) start.1.0

pub returns : goal.returns
returns g c = so_far_last c.loop-rest.invariant (quoted_end _ (grind (arith, nat_tests, c.loop-rest-test.ensures))) c.push.ensures
