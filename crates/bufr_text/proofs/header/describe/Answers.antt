use Rattle.std.proofs.Common.{arith}
use Rattle.std.proofs.lemmas.Grind.{common_steps}
use Rattle.bufr_text.proofs.ItemLemmas.{describing-on}
use Rattle.bufr_text.proofs.header.describe.Goals as goal

pub loop-count-preserved : goal.loop-count-preserved
loop-count-preserved c = grind (arith, common_steps, describing-on)
