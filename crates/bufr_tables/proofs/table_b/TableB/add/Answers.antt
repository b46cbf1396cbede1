use Rattle.std.proofs.Common.{sym}
use Rattle.bufr_tables.proofs.TableBLemmas.{row-limits}
use Rattle.bufr_tables.proofs.table_b.TableB.add.Goals as goal

pub push-requires-clause-limits : goal.push-requires-clause-limits
push-requires-clause-limits c = row-limits _ _ (sym c.in-Some.ensures.value)
