use Rattle.std.proofs.Common.{refl}
use Rattle.bufr_cli.specs.Prelude.{IsNotOpened, Runs}
use Rattle.bufr_cli.proofs.RunLemmas.{runs-file, runs-standard}
use Rattle.bufr_cli.proofs.program.run_input.Goals as goal

pub returns-in-Ok-clause-comes : goal.returns-in-Ok-clause-comes
returns-in-Ok-clause-comes g c = Runs c.run_source.result c.outcome_of.ensures (runs-standard _ _ _ c.in-None.is (_, _, c.in-Ok.ensures.octets, c.run_source.ensures))

pub returns-in-Ok-open_file-clause-comes : goal.returns-in-Ok-open_file-clause-comes
returns-in-Ok-open_file-clause-comes g c =
    Runs c.run_source-in-Ok-open_file.result c.outcome_of-in-Ok-open_file.ensures
    (runs-file _ _ c.in-Some.name _ c.in-Some.is (_, _, c.in-Ok-open_file.ensures.file, c.run_source-in-Ok-open_file.ensures))

pub returns-in-Err-open_file-clause-comes : goal.returns-in-Err-open_file-clause-comes
returns-in-Err-open_file-clause-comes g c = IsNotOpened c.in-Some.name c.in-Some.is c.in-Err-open_file.ensures.closed refl
