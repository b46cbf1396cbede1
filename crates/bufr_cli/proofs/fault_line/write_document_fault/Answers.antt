use Rattle.std.proofs.Common.{rules}
use Rattle.bufr_text.proofs.PushLemmas.{all_written}
use Rattle.bufr_cli.proofs.fault_line.write_document_fault.Goals as goal

pub returns-clause-writes : goal.returns-clause-writes
returns-clause-writes g c =
    let before = c.new-line.ensures in
    all_written tt c.push_document_fault.ensures c.flush_buf.ensures.pushes before.status before.held c.flush_buf.ensures.none before.taken (search rules) c.status-outcome.ensures
