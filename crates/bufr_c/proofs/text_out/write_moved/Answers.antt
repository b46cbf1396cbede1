use Rattle.std.proofs.Common.{rules}
use Rattle.bufr_text.proofs.PushLemmas.{◌⨾◌, all_written, retold}
use Rattle.bufr_c.proofs.EventLemmas.{moved-parts}
use Rattle.bufr_c.proofs.text_out.write_moved.Goals as goal

pub returns : goal.returns
returns g c =
    let before = c.new-writer.ensures in
    all_written tt (retold (c.push_named.ensures ⨾ c.push.ensures) (moved-parts c.args.offset c.args.line.now c.if-line-lt8.false)) c.flush_buf.ensures.pushes before.status
    before.held c.flush_buf.ensures.none before.taken (search rules) c.status-outcome.ensures
