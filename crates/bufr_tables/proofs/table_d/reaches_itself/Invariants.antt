use Rattle.std.proofs.Common.{◌+◌, ◌-◌, length}
use Rattle.bufr_tables.specs.Prelude.{unset}
use Rattle.bufr_tables.proofs.CycleLemmas.{IsSearched}
use Rattle.bufr_tables.proofs.table_d.reaches_itself.Given as goal

abbrev pub invariant-loop-next : goal.invariant-loop-next
invariant-loop-next l = IsSearched l.table l.sequence l.seen.items l.queue.items l.next

abbrev pub decreases-loop-next : goal.decreases-loop-next
decreases-loop-next l = unset l.seen.items + (length l.queue.items - l.next)
