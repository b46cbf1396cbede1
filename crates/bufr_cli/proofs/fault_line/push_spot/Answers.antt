use Rattle.bufr_text.proofs.PushLemmas.{◌⨾◌, nothing_pushed}
use Rattle.bufr_cli.proofs.fault_line.push_spot.Goals as goal

pub returns : goal.returns
returns g c =
    rw (← c.from.ensures)
    (c.push.ensures ⨾ (c.push_named.ensures ⨾ (c.push_descriptor.ensures ⨾ (c.push_named-2.ensures ⨾ nothing_pushed))))
