use Rattle.std.proofs.Common.{◌≡◌, drop}
use Rattle.bufr_walk.specs.Prelude.{known_by, with_all}
use Rattle.bufr_walk.proofs.references.sort.Given as goal

-- The sorted references and the remaining ones are all the references.
abbrev pub invariant-loop-new : goal.invariant-loop-new
invariant-loop-new l = with_all (drop l.new-index l.recent) (known_by l.sorted.entries) ≡ with_all l.recent (known_by l.fn.sorted.entries)
