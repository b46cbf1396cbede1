use Rattle.std.proofs.Common.{drop}
use Rattle.bufr_text.proofs.AlikeLemmas.{SubsetSoFar}
use Rattle.bufr_text.proofs.alike.AlikeLines.show_subset.Given as goal

abbrev pub invariant-stretches : goal.invariant-stretches
invariant-stretches g l = SubsetSoFar l.items l.self.text.items l.subset l.fn.lines l.lines l.at (drop l.index l.self.stretches.items)
