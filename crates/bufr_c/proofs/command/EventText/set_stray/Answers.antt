use Rattle.std.proofs.Common.{refl}
use Rattle.bufr_c.proofs.EventLemmas.{stray-text}
use Rattle.bufr_c.proofs.command.EventText.set_stray.Goals as goal

pub returns : goal.returns
returns c =
    stray-text c.write_moved.result _ c.args.offset c.args.cause c.stray_line.result.now c.write_moved.new.out.octets.items c.stray_line.ensures (rw c.clear.ensures.errors at c.write_moved.ensures)
    c.clear.ensures.output refl c.clear.ensures.accepted
