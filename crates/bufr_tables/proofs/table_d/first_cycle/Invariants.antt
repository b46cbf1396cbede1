use Rattle.bufr_tables.proofs.CycleLemmas.{IsPassed}
use Rattle.bufr_tables.proofs.table_d.first_cycle.Given as goal

abbrev pub invariant-loop-place : goal.invariant-loop-place
invariant-loop-place l = IsPassed l.table l.place
