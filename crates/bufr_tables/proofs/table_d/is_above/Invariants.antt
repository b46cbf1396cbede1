use Rattle.bufr_tables.proofs.CycleLemmas.{IsAboveFirst}
use Rattle.bufr_tables.proofs.table_d.is_above.Given as goal

abbrev pub invariant-loop-member : goal.invariant-loop-member
invariant-loop-member l = IsAboveFirst l.table l.ranks l.member-items l.fn.limit l.member-index
