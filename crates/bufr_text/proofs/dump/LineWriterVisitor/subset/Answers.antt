use Rattle.std.proofs.Common.{append-nil}
use Rattle.bufr_text.proofs.PushLemmas.{◌⨾◌}
use Rattle.bufr_text.proofs.dump.LineWriterVisitor.subset.Goals as goal

pub returns : goal.returns
returns g c =
    let pushed = rw append-nil at (c.push_named.ensures ⨾ c.push.ensures ⨾ c.end_line.ensures.pushes) in
    record { pushes = rw c.from.ensures at pushed; status = c.status.ensures }
