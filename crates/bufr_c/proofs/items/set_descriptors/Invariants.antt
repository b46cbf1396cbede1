use Rattle.std.proofs.Common.{◌≡◌, ◌++◌}
use Rattle.bufr_frame.specs.Prelude.{words_left}
use Rattle.bufr_c.proofs.items.set_descriptors.Given as goal

-- The words so far were appended, and the others remain.
abbrev pub invariant-loop-word : goal.invariant-loop-word
invariant-loop-word l = l.message.descriptors ≡ l.list.items ++ words_left l.word-iterator
