use Rattle.bufr_text.proofs.PushLemmas.{◌⨾◌, nothing_pushed}
use Rattle.bufr_cli.proofs.outcome.push_last.Goals as goal

pub returns-in-CannotOpen : goal.returns-in-CannotOpen
returns-in-CannotOpen g c =
    let name = rw c.as_bytes-in-CannotOpen.ensures.value at c.push-in-CannotOpen-2.ensures in
    rw c.in-CannotOpen.is (c.push-in-CannotOpen.ensures ⨾ (name ⨾ (c.push-in-CannotOpen-3.ensures ⨾ nothing_pushed)))
