use Rattle.std.proofs.Common.{arith}
use Rattle.bufr_fill.specs.Prelude.{cells_at, subsets_of}
use Rattle.bufr_fill.proofs.EntryLemmas.{count_cells}
use Rattle.bufr_fill.proofs.RowLemmas.{first_is}
use Rattle.bufr_fill.proofs.packed_out.Row.first_line.Goals as goal

pub returns : goal.returns
returns c =
    first_is (cells_at c.args.self.index (subsets_of c.args.self.entries.now)) c.line_of.result
    (omega (arith, c.args.self.some, count_cells c.args.self.index c.args.self.entries.now c.args.self.ends.now c.args.self.ends_are)) c.line_of.ensures
