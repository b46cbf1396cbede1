use Rattle.std.proofs.Common.{◌≡◌, ◌++◌, drop}
use Rattle.bufr_text.proofs.encode.descriptors_of.Given as goal

-- The words before the current index were appended.
abbrev pub invariant-loop-word : goal.invariant-loop-word
invariant-loop-word l = l.descriptors.items ++ drop l.word-index l.words ≡ l.words
