use Rattle.bufr_cli.proofs.RoundTripLemmas.{three-runs}
use Rattle.bufr_cli.proofs.laws.runs_close_the_round.Goals as goal

pub returns : goal.returns
returns c = three-runs
