use Rattle.std.proofs.Common.{◌≡◌, ◌*◌, length}
use Rattle.bufr_fill.proofs.TransposeLemmas.{AreTransposedTo}
use Rattle.bufr_fill.proofs.packed_out.transpose.Given as goal

abbrev pub invariant-loop-subset : goal.invariant-loop-subset
invariant-loop-subset l = record {
  len : length l.transposed.items ≡ l.rows * l.subsets;
  transposed : AreTransposedTo l.row.entries.now l.row.index l.subsets l.subset 0 l.transposed.items;
}

abbrev pub invariant-loop-ahead : goal.invariant-loop-ahead
invariant-loop-ahead l = record {
  len : length l.transposed.items ≡ l.rows * l.subsets;
  transposed : AreTransposedTo l.row.entries.now l.row.index l.subsets l.subset l.ahead l.transposed.items;
}
