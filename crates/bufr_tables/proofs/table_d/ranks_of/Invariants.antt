use Rattle.std.proofs.Common.{◌≡◌, vec_len}
use Rattle.bufr_tables.proofs.table_d.ranks_of.Given as goal

abbrev pub invariant-loop : goal.invariant-loop
invariant-loop l = vec_len l.ranks ≡ 16384

abbrev pub invariant-loop-2 : goal.invariant-loop-2
invariant-loop-2 l = vec_len l.ranks ≡ 16384
