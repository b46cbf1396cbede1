use Rattle.bufr_fill.proofs.WalkLemmas.{walk_of_items}
use Rattle.bufr_fill.proofs.PackedWalks.{walk_of_rows}
use Rattle.bufr_fill.proofs.laws.walks_write_as_defined.Goals as goal

pub returns-clause-plain : goal.returns-clause-plain
returns-clause-plain c end course s items s' h = (walk_of_items end course s items s' h).1

pub returns-clause-packed : goal.returns-clause-packed
returns-clause-packed c end many course s items s' h = (walk_of_rows end many course s items s' h).1
