use Rattle.bufr_tables.proofs.CycleLemmas.{FallsFirst}
use Rattle.bufr_tables.proofs.table_d.falls.Given as goal

abbrev pub invariant-loop-place : goal.invariant-loop-place
invariant-loop-place l = FallsFirst l.table l.ranks l.place
