use Rattle.std.proofs.Common.{sym, subst}
use Rattle.bufr_cli.specs.Prelude.{LeavesDevices, command_pieces, input_of, writers_of}
use Rattle.bufr_cli.specs.declared.program.Command.{Command}
use Rattle.bufr_cli.proofs.program.run_command.Goals as goal

pub returns-in-Dump : goal.returns-in-Dump
returns-in-Dump g c =
    subst (λ (command : Command). LeavesDevices (command_pieces command) (input_of g.R.Source c.args.r.now) (input_of g.R.Source c.run_dump.new.r)
    (writers_of g.W.Sink c.args.w.now g.E.Sink c.args.e.now) (writers_of g.W.Sink c.run_dump.new.w g.E.Sink c.run_dump.new.e) c.run_dump.result)
    (sym c.in-Dump.is) c.run_dump.ensures
