use Rattle.std.proofs.Common.{replicate}
use Rattle.bufr_text.specs.Prelude.{Pushes}
use Rattle.bufr_text.proofs.line_writer.LineWriter.push_zeros.Given as goal

-- This number of zeros was pushed.
abbrev pub invariant-loop-done : goal.invariant-loop-done
invariant-loop-done g l = Pushes l.fn.self (replicate l._done 48) l.self
