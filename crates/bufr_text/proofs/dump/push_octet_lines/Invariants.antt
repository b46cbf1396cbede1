use Rattle.std.proofs.Common.{◌++◌, length, map}
use Rattle.bufr_text.specs.Prelude.{text_of_lines, hex_text, runs_of}
use Rattle.bufr_text.proofs.PushLemmas.{PushedSoFar}
use Rattle.bufr_text.proofs.dump.push_octet_lines.Given as goal

-- All lines were pushed, except those of the remaining octets.
abbrev pub invariant-loop-rest : goal.invariant-loop-rest
invariant-loop-rest g l =
    PushedSoFar l.fn.lines l.lines (text_of_lines (map (λ run. l.fn.word ++ hex_text run) (runs_of 32 l.fn.octets)))
    (text_of_lines (map (λ run. l.fn.word ++ hex_text run) (runs_of 32 l.rest)))

abbrev pub decreases-loop-rest : goal.decreases-loop-rest
decreases-loop-rest g l = length l.rest
