use Rattle.std.proofs.Common.{length, ◌-◌}
use Rattle.bufr_text.specs.Prelude.{IsTaking}
use Rattle.bufr_text.proofs.document.take_lines.Given as goal

abbrev pub invariant-loop-length : goal.invariant-loop-length
invariant-loop-length l = IsTaking l.initial.progress l.progress l.held l.from

abbrev pub decreases-loop-length : goal.decreases-loop-length
decreases-loop-length l = length l.held - l.from
