use Rattle.std.proofs.Common.{◌∙◌, ◌≤◌, ap, arith, length, take}
use Rattle.bufr_text.proofs.PushLemmas.{puts_from}
use Rattle.bufr_text.proofs.line_writer.put_escaped.Goals as goal

pub returns : goal.returns
returns c =
    let count = c.escape-count.result.1 in
    let long : count ≤ length c.copy_from_slice.new.self = omega (arith, c.copy_from_slice.ensures.len) in
    puts_from _ _ _ _ _ (omega arith) long (ap (take count) c.copy_from_slice.ensures.after ∙ c.escape-count.ensures.text)
