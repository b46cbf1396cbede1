use Rattle.std.proofs.Common.{rules}
use Rattle.bufr_text.proofs.PushLemmas.{◌⨾◌, retold}
use Rattle.bufr_text.proofs.dump.push_descriptor.Goals as goal

pub returns-in_default : goal.returns-in_default
returns-in_default g c = retold (c.push-in_default.ensures ⨾ c.push-in_default-2.ensures) (search rules)
