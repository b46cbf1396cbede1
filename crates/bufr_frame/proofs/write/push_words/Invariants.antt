use Rattle.std.proofs.Common.{◌≡◌, ◌++◌, drop}
use Rattle.bufr_frame.specs.Prelude.{octets_of_words}
use Rattle.bufr_frame.proofs.write.push_words.Given as goal

-- Together with the remaining words, these are all the octets.
abbrev pub invariant-loop-word : goal.invariant-loop-word
invariant-loop-word l = l.octets.items ++ octets_of_words (drop l.word-index l.words) ≡ l.fn.octets.items ++ octets_of_words l.words
