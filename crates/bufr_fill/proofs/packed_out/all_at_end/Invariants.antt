use Rattle.std.proofs.Common.{◌≡◌, drop}
use Rattle.bufr_fill.specs.Prelude.{cells_at, subsets_of, all_at_end}
use Rattle.bufr_fill.proofs.packed_out.all_at_end.Given as goal

abbrev pub invariant-loop-subset : goal.invariant-loop-subset
invariant-loop-subset l = all_at_end (cells_at l.row.index (subsets_of l.row.entries.now)) ≡ all_at_end (drop l.subset (cells_at l.row.index (subsets_of l.row.entries.now)))
