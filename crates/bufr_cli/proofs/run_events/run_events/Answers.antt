use Rattle.bufr_cli.proofs.EventLemmas.{no-events}
use Rattle.bufr_cli.proofs.run_events.run_events.Goals as goal

pub run_pieces-requires-clause-fresh : goal.run_pieces-requires-clause-fresh
run_pieces-requires-clause-fresh g c = no-events _ _ c.new.result c.new.ensures
