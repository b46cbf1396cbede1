use Rattle.std.proofs.Common.{arith}
use Rattle.bufr_fill.proofs.RowLemmas.{most_some}
use Rattle.bufr_fill.proofs.packed_out.octets_needed.Goals as goal

pub loop-content-init : goal.loop-content-init
loop-content-init c = (omega (arith, most_some c.args.contents.now), omega arith)
