use Rattle.std.proofs.Common.{◌/◌}
use Rattle.bufr_fill.specs.Prelude.{cells_at, subsets_of, IsRangeOf}
use Rattle.bufr_fill.proofs.RowLemmas.{IsGathering}
use Rattle.bufr_fill.proofs.packed_out.read_row.Given as goal

abbrev pub invariant-loop-subset : goal.invariant-loop-subset
invariant-loop-subset l = record {
  gathered : IsGathering (l.spec.width / 8) l.spec (cells_at l.row.index (subsets_of l.row.entries.now)) l.subset l.contents.items;
  range : IsRangeOf l.range l.contents.items;
}
