use Rattle.std.proofs.lemmas.Result.{err_from_is_err_and}
use Rattle.bufr_cli.proofs.DumpLemmas.{nothing-written}
use Rattle.bufr_cli.proofs.dump.DumpRunMessageWriter.write_message.Goals as goal

pub returns-in_err-set_descriptors-in-Ok-clause-reports : goal.returns-in_err-set_descriptors-in-Ok-clause-reports
returns-in_err-set_descriptors-in-Ok-clause-reports g c =
    let p = err_from_is_err_and c.from_residual.result c.from_residual.ensures.1 in
    nothing-written _ _ c.from_residual.result _ p.1

pub returns-in_err-select-in-Ok-clause-reports : goal.returns-in_err-select-in-Ok-clause-reports
returns-in_err-select-in-Ok-clause-reports g c =
    let p = err_from_is_err_and c.from_residual-in_err-select-in-Ok.result c.from_residual-in_err-select-in-Ok.ensures.1 in
    nothing-written _ _ c.from_residual-in_err-select-in-Ok.result _ p.1
