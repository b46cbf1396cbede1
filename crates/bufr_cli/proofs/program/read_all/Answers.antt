use Rattle.std.proofs.Common.{arith}
use Rattle.bufr_cli.proofs.program.read_all.Goals as goal

pub returns-clause-each : goal.returns-clause-each
returns-clause-each g c =
    let read = c.read_to_end.ensures in
    (_, omega (arith, read.each), read.made, read.asked)
