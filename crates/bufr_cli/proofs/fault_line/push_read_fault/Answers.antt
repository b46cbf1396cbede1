use Rattle.bufr_text.proofs.PushLemmas.{nothing_pushed}
use Rattle.bufr_cli.proofs.fault_line.push_read_fault.Goals as goal

pub returns-in-Run : goal.returns-in-Run
returns-in-Run g c = rw c.in-Run.is nothing_pushed
