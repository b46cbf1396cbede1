use Rattle.std.proofs.Common.{append-nil, ◌<◌, ◌++◌, List, ℕ, length, arith}
use Rattle.std.proofs.lemmas.Bool.Decides.{nat_tests}
use Rattle.bufr_text.specs.Prelude.{hex_text}
use Rattle.bufr_text.proofs.PushLemmas.{◌⨾◌, octet-lines-next, lines-none, so_far_on, so_far_end}
use Rattle.bufr_text.proofs.dump.push_octet_lines.Goals as goal
use Rattle.std.proofs.lemmas.Grind.{common_steps}

pub loop-rest-preserved : goal.loop-rest-preserved
loop-rest-preserved g c =
    let f = λ (run : List ℕ). c.args.word.now ++ hex_text run in
    let some : 0 < length c.loop-rest.rest.now = grind (arith, nat_tests, c.loop-rest-test.ensures) in
    let next = octet-lines-next f 31 c.min.result c.loop-rest.rest.now c.split_at.result.0.now c.split_at.result.1.now some c.min.ensures c.split_at.ensures.front c.split_at.ensures.back in
    so_far_on c.loop-rest.invariant next (rw append-nil at (c.push.ensures ⨾ c.push_hex.ensures ⨾ c.push-in-loop-rest.ensures ⨾ c.end_line.ensures.pushes))

pub returns : goal.returns
returns g c = grind (arith, common_steps, so_far_end, lines-none)
