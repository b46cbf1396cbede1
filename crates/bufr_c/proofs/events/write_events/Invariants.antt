use Rattle.std.proofs.Common.{◌-◌, length}
use Rattle.bufr_c.specs.Commands.{piece_by}
use Rattle.bufr_c.proofs.EventLemmas.{TextsLoop}
use Rattle.bufr_c.proofs.events.write_events.Given as goal

-- The texts of the events so far were written, and the octets after them are unchanged.
abbrev pub invariant-loop-texts : goal.invariant-loop-texts
invariant-loop-texts l = TextsLoop (piece_by l.run.command) l.octets l.fn.texts.at l.fn.output l.fn.errors l.output l.errors l.texts

-- the remaining octets
abbrev pub decreases-loop-texts : goal.decreases-loop-texts
decreases-loop-texts l = length l.octets - l.texts.at
