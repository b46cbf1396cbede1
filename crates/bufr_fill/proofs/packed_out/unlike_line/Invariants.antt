use Rattle.std.proofs.Common.{◌≡◌, ◌/◌, drop}
use Rattle.bufr_fill.specs.Prelude.{cells_at, unlike_line, subsets_of, padded_contents}
use Rattle.bufr_fill.proofs.RowLemmas.{unlike_from}
use Rattle.bufr_fill.proofs.packed_out.unlike_line.Given as goal

abbrev pub invariant-loop-subset : goal.invariant-loop-subset
invariant-loop-subset l =
    unlike_line (padded_contents (l.spec.width / 8) l.contents) (cells_at l.row.index (subsets_of l.row.entries.now))
    ≡ unlike_from (padded_contents (l.spec.width / 8) l.contents) (padded_contents (l.spec.width / 8) (drop l.subset l.contents)) (drop l.subset (cells_at l.row.index (subsets_of l.row.entries.now)))
