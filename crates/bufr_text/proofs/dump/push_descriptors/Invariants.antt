use Rattle.std.proofs.Common.{◌≡◌, ◌-◌, drop, take}
use Rattle.bufr_frame.specs.Prelude.{words_left}
use Rattle.bufr_text.specs.Prelude.{descriptors_text}
use Rattle.bufr_text.proofs.PushLemmas.{PushedSoFar}
use Rattle.bufr_text.proofs.dump.push_descriptors.Given as goal

-- The first descriptors of the line were pushed. A line has at most eight.
abbrev pub invariant-words : goal.invariant-words
invariant-words g l = record {
  so_far : PushedSoFar l.fn.lines l.lines (descriptors_text (take 8 (words_left l.fn.words))) (descriptors_text (take (8 - l._done) (words_left l.words)));
  left : drop (8 - l._done) (words_left l.words) ≡ drop 8 (words_left l.fn.words);
}
