use Rattle.std.proofs.Common.{◌≡◌, drop}
use Rattle.bufr_walk.specs.Prelude.{last_of}
use Rattle.bufr_walk.proofs.references.last_of.Given as goal

-- The reference found so far counts, unless one of the remaining references is for the same
-- element.
abbrev pub invariant-loop-new : goal.invariant-loop-new
invariant-loop-new l = last_of (drop l.new-index l.recent) l.word l.found ≡ last_of l.recent l.word l.fn.before
