use Rattle.std.proofs.Common.{◌+◌, ◌*◌, length}
use Rattle.bufr_tables.specs.Prelude.{inner_of, tables_in, builder_model}
use Rattle.bufr_tables.proofs.ExpansionLemmas.{Came}
use Rattle.bufr_tables.proofs.expand.Expander.+expansion.Given as goal

abbrev pub decreases-list : goal.decreases-list
decreases-list l = 5 * l.self.now.room + 4

abbrev pub decreases-part : goal.decreases-part
decreases-part l = 5 * l.self.now.room + 3

abbrev pub decreases-group : goal.decreases-group
decreases-group l = 5 * l.self.now.room + 2

abbrev pub decreases-group_of : goal.decreases-group_of
decreases-group_of l = 5 * l.self.now.room

abbrev pub invariant-list-loop-fxy : goal.invariant-list-loop-fxy
invariant-list-loop-fxy l = Came (tables_in l.self) (inner_of (tables_in l.self) l.self.room) l.list (builder_model l.initial.growing) l.width_given l.rest (builder_model l.growing)

abbrev pub decreases-list-loop-fxy : goal.decreases-list-loop-fxy
decreases-list-loop-fxy l = length l.rest
