use Rattle.std.proofs.Common.{rules, refl}
use Rattle.bufr_text.proofs.PushLemmas.{all_written}
use Rattle.bufr_cli.proofs.FaultLineLemmas.{prefix_written}
use Rattle.bufr_cli.proofs.outcome.finish.Goals as goal

pub returns-clause-prefix : goal.returns-clause-prefix
returns-clause-prefix g c =
    let before = c.new-line.ensures in
    prefix_written _ _ c.flush_buf.new.self.status
    (all_written tt c.push_last.ensures c.flush_buf.ensures.pushes before.status before.held c.flush_buf.ensures.none before.taken (search rules) refl)
