use Rattle.std.proofs.Common.{refl}
use Rattle.bufr_cli.specs.Prelude.{command_pieces}
use Rattle.bufr_cli.proofs.RunLemmas.{ends-run}
use Rattle.bufr_cli.proofs.program.run_source.Goals as goal

pub returns : goal.returns
returns g c =
    ends-run (command_pieces c.args.command) _ _ _ _ _ c.run_command-ran.result c.flush_rest.result c.run_command-ran.ensures c.flush_rest.ensures.same c.flush_rest.ensures.rest refl
