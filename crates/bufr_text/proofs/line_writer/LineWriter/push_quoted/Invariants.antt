use Rattle.std.proofs.Common.{length}
use Rattle.bufr_text.specs.Prelude.{quoted}
use Rattle.bufr_text.proofs.PushLemmas.{PushedSoFar}
use Rattle.bufr_text.proofs.line_writer.LineWriter.push_quoted.Given as goal

-- The octets before the remaining ones were pushed.
abbrev pub invariant-loop-rest : goal.invariant-loop-rest
invariant-loop-rest g l = PushedSoFar l.fn.self l.self (quoted l.octets) (quoted l.rest)

abbrev pub decreases-loop-rest : goal.decreases-loop-rest
decreases-loop-rest g l = length l.rest
