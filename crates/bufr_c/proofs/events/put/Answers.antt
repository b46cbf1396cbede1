use Rattle.std.proofs.Common.{ap, length}
use Rattle.bufr_c.proofs.EventLemmas.{put-rest}
use Rattle.bufr_c.proofs.events.put.Goals as goal

pub returns-clause-rest : goal.returns-clause-rest
returns-clause-rest g c = put-rest c.args.at (length c.args.values.now) c.args.to.now c.copy_from_slice.new.self (ap length c.copy_from_slice.ensures.after) c.requires
