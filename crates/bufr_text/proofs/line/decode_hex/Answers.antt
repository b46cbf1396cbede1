use Rattle.std.proofs.Common.{arith}
use Rattle.std.proofs.lemmas.Grind.{common_steps}
use Rattle.bufr_text.proofs.ItemLemmas.{unhexing-on}
use Rattle.bufr_text.proofs.line.decode_hex.Goals as goal

pub loop-count-preserved : goal.loop-count-preserved
loop-count-preserved c = grind (arith, common_steps, unhexing-on)
