use Rattle.bufr_text.proofs.PushLemmas.{so_far_on, so_far_end}
use Rattle.bufr_text.proofs.NumberLemmas.{hex_next, hex_none}
use Rattle.bufr_text.proofs.line_writer.LineWriter.push_hex.Goals as goal

pub loop-octet-preserved : goal.loop-octet-preserved
loop-octet-preserved g c = so_far_on c.loop-octet.invariant (hex_next c.args.octets.now _ c.loop-octet-test.true) (rw (c.hex_digit.ensures, c.hex_digit-in-loop-octet.ensures) at c.push.ensures)

pub returns : goal.returns
returns g c = so_far_end c.loop-octet.invariant (hex_none c.args.octets.now _ c.loop-octet-test.false)
