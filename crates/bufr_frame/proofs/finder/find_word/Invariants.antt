use Rattle.std.proofs.Common.{codes}
use Rattle.memchr.specs.Find.{Nowhere, OccursAt}
use Rattle.bufr_frame.proofs.finder.find_word.Given as goal

-- `BUFR` is at none of the indices so far.
abbrev pub invariant-places : goal.invariant-places
invariant-places l = Nowhere (OccursAt l.rest (codes "BUFR")) 0 l.place
