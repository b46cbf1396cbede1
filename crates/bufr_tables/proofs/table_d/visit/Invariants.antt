use Rattle.bufr_tables.specs.Prelude.{IsVisited}
use Rattle.bufr_tables.proofs.table_d.visit.Given as goal

abbrev pub invariant-loop-member : goal.invariant-loop-member
invariant-loop-member l = IsVisited l.table l.fn.sequence l.member-index l.fn.seen l.fn.queue.items l.seen l.queue.items
