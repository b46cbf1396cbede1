use Rattle.std.proofs.Common.{◌∷◌, [], codes}
use Rattle.bufr_cli.proofs.FaultLineLemmas.{line_pushed, one_text}
use Rattle.bufr_cli.proofs.fault_line.push_line.Goals as goal

pub returns : goal.returns
returns g c =
    line_pushed (codes "line ") c.args.position c.args.number (c.args.text.now ∷ []) c.push_prefix.ensures (one_text c.push.ensures) c.push-2.ensures
