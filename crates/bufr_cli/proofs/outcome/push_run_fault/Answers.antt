use Rattle.std.proofs.Common.{◌∙◌, ap}
use Rattle.bufr_frame.specs.Prelude.{run_report}
use Rattle.bufr_cli.proofs.outcome.push_run_fault.Goals as goal

pub returns-in-Memory : goal.returns-in-Memory
returns-in-Memory g c =
    let number = c.number-number.ensures ∙ ap (λ f. (run_report f).0) c.in-Memory.is in
    rw c.in-Memory.is (rw number at c.push_numbered-in-Memory.ensures)

pub returns-in-InputTooLong : goal.returns-in-InputTooLong
returns-in-InputTooLong g c =
    let number = c.number-number.ensures ∙ ap (λ f. (run_report f).0) c.in-InputTooLong.is in
    rw c.in-InputTooLong.is (rw number at c.push_numbered-in-InputTooLong.ensures)
