use Rattle.bufr_text.proofs.PushLemmas.{nothing_pushed}
use Rattle.bufr_cli.proofs.fault_line.push_template_fault.Goals as goal

pub returns-in-Memory : goal.returns-in-Memory
returns-in-Memory g c = rw c.in-Memory.is nothing_pushed
