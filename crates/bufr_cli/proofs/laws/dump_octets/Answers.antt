use Rattle.std.proofs.Common.{rules}
use Rattle.bufr_cli.proofs.laws.dump_octets.Goals as goal

pub returns : goal.returns
returns c =
    let whole = c.run_dump.ensures.whole in
    search rules
