use Rattle.std.proofs.Common.{refl}
use Rattle.bufr_text.proofs.PushLemmas.{◌⨾◌, retold}
use Rattle.bufr_text.proofs.line_writer.LineWriter.push_named_parts.Goals as goal

pub returns : goal.returns
returns g c = retold (c.push.ensures ⨾ c.push-2.ensures) (rw (c.as_bytes.ensures.value, c.format.ensures.text) refl)
