use Rattle.std.proofs.Common.{refl}
use Rattle.bufr_text.proofs.PushLemmas.{retold}
use Rattle.bufr_cli.proofs.fault_line.push_expected.Goals as goal

pub returns-in-Reference : goal.returns-in-Reference
returns-in-Reference g c = rw c.in-Reference.is (retold c.push_descriptor-in-Reference.ensures refl)

pub returns-in-EndOfSubset : goal.returns-in-EndOfSubset
returns-in-EndOfSubset g c = rw c.in-EndOfSubset.is (retold c.push.ensures refl)
