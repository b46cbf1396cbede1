use Rattle.std.proofs.Common.{map, length}
use Rattle.bufr_frame.specs.Prelude.{words_left}
use Rattle.bufr_text.specs.Prelude.{descriptors_line, text_of_lines, runs_of}
use Rattle.bufr_text.proofs.PushLemmas.{PushedSoFar}
use Rattle.bufr_text.proofs.dump.push_descriptor_lines.Given as goal

-- All lines were pushed, except those of the remaining descriptors.
abbrev pub invariant-loop-words : goal.invariant-loop-words
invariant-loop-words g l =
    PushedSoFar l.fn.lines l.lines (text_of_lines (map descriptors_line (runs_of 8 l.message.descriptors)))
    (text_of_lines (map descriptors_line (runs_of 8 (words_left l.words))))

abbrev pub decreases-loop-words : goal.decreases-loop-words
decreases-loop-words g l = length (words_left l.words)
