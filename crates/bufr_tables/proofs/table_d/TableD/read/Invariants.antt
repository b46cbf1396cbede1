use Rattle.std.proofs.Common.{◌≡◌, ◌+◌}
use Rattle.bufr_tables.specs.Prelude.{IsBetween, octets_left, records_left, records_of, table_from, table_d_of, with_record_d}
use Rattle.bufr_tables.proofs.table_d.TableD.read.Given as goal

abbrev pub invariant-loop-table : goal.invariant-loop-table
invariant-loop-table l = record {
  between : IsBetween l.records;
  same : table_d_of (records_of l.fn.text) ≡ table_from with_record_d (l.records.number + 1) l.table (records_left l.records);
}

abbrev pub decreases-loop-table : goal.decreases-loop-table
decreases-loop-table l = octets_left l.records
