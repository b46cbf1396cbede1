use Rattle.std.proofs.Common.{rules}
use Rattle.bufr_bits.specs.Prelude.{decimal_text_of}
use Rattle.bufr_text.proofs.PushLemmas.{◌⨾◌, retold}
use Rattle.bufr_text.proofs.NumberLemmas.{parts_same}
use Rattle.bufr_text.proofs.line_writer.LineWriter.push_long_line.Goals as goal

pub returns : goal.returns
returns g c = retold (c.push.ensures ⨾ (c.push_scaled.ensures ⨾ c.push-2.ensures))
    (parts_same _ _ _ _ _ (decimal_text_of c.args.number c.args.scale) c.line_start.ensures (search rules) c.comment.ensures)
