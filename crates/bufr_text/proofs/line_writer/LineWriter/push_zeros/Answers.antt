use Rattle.bufr_text.proofs.PushLemmas.{◌⨾◌, retold, zeros_more}
use Rattle.bufr_text.proofs.line_writer.LineWriter.push_zeros.Goals as goal

pub loop-done-preserved : goal.loop-done-preserved
loop-done-preserved g c = retold (c.loop-done.invariant ⨾ c.push.ensures) (zeros_more c.loop-done._done)
