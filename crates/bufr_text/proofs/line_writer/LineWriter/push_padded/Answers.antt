use Rattle.std.proofs.Common.{refl}
use Rattle.bufr_text.proofs.PushLemmas.{◌⨾◌, retold}
use Rattle.bufr_text.proofs.line_writer.LineWriter.push_padded.Goals as goal

pub returns : goal.returns
returns g c = retold (c.push_zeros.ensures ⨾ c.push.ensures) (rw (c.saturating_sub.ensures, c.as_bytes-text.ensures.value, c.format.ensures.text) refl)
