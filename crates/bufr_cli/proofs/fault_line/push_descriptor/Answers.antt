use Rattle.bufr_text.proofs.PushLemmas.{◌⨾◌}
use Rattle.bufr_cli.proofs.fault_line.push_descriptor.Goals as goal

pub returns : goal.returns
returns g c = rw (← c.text.ensures.value) (c.push.ensures ⨾ c.push-2.ensures)
