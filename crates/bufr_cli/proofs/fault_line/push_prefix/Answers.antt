use Rattle.std.proofs.Common.{append_assoc, decimal}
use Rattle.bufr_text.proofs.PushLemmas.{◌⨾◌, retold}
use Rattle.bufr_cli.proofs.fault_line.push_prefix.Goals as goal

pub returns : goal.returns
returns g c = retold (c.push_named.ensures ⨾ c.push_number.ensures) (append_assoc c.args.word.now (decimal c.args.position) _)
