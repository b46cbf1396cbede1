use Rattle.std.proofs.Common.{arith}
use Rattle.bufr_text.proofs.PushLemmas.{puts_from}
use Rattle.bufr_text.proofs.numbers.put_decimal.Goals as goal

pub returns : goal.returns
returns c = puts_from _ _ _ _ _ (omega arith) c.in_ok-fill_long.ensures.0 c.in_ok-fill_long.ensures.1
