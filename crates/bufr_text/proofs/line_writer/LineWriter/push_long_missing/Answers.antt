use Rattle.std.proofs.Common.{codes, refl}
use Rattle.bufr_text.proofs.PushLemmas.{◌⨾◌, retold}
use Rattle.bufr_text.proofs.NumberLemmas.{parts_same}
use Rattle.bufr_text.proofs.line_writer.LineWriter.push_long_missing.Goals as goal

pub returns : goal.returns
returns g c = retold (c.push.ensures ⨾ (c.push-2.ensures ⨾ c.push-3.ensures))
    (parts_same _ _ _ _ (codes "MISSING") (codes "MISSING") c.line_start.ensures refl c.comment.ensures)
