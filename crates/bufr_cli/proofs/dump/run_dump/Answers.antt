use Rattle.bufr_cli.proofs.dump.run_dump.Goals as goal

pub returns : goal.returns
returns g c = rw c.new.ensures at c.run_events.ensures.leaves
