use Rattle.bufr_text.proofs.PushLemmas.{◌⨾◌, nothing_pushed}
use Rattle.bufr_cli.proofs.fault_line.push_number.Goals as goal

pub returns : goal.returns
returns g c = rw (← c.from.ensures) (c.push_named.ensures ⨾ (c.push.ensures ⨾ nothing_pushed))
