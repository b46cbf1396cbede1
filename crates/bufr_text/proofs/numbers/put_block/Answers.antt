use Rattle.std.proofs.Common.{◌∙◌, ◌≤◌, ap, arith, length, take, take-take}
use Rattle.bufr_text.proofs.PushLemmas.{puts_from}
use Rattle.bufr_text.proofs.numbers.put_block.Goals as goal

pub returns : goal.returns
returns g c =
    let block = c.copy_from_slice.ensures.after ∙ c.in_ok-block.ensures.cases.0 in
    let long : c.args.len ≤ length c.copy_from_slice.new.self = omega (arith, c.copy_from_slice.ensures.len) in
    puts_from _ _ _ _ _ (omega arith) long (ap (take c.args.len) block ∙ take-take c.args.len g.row.N c.args.text.now (omega arith))
