use Rattle.std.proofs.Common.{◌∙◌, sym, Err, arith, ap}
use Rattle.bufr_fill.specs.Prelude.{cells_at, subsets_of, at_line, item_too_many, entry_with}
use Rattle.bufr_fill.proofs.EntryLemmas.{line-is, count_cells}
use Rattle.bufr_fill.proofs.RowLemmas.{end_item, end_more, end_done}
use Rattle.bufr_fill.proofs.packed_out.all_at_end.Goals as goal

pub returns-then-not-is_end : goal.returns-then-not-is_end
returns-then-not-is_end c =
    let octets = c.find-entry.result.1.now in
    let e = entry_with c.find-entry.result.0 octets in
    end_item (cells_at c.args.row.index (subsets_of c.args.row.entries.now)) c.loop-subset.subset e
    (omega (arith, c.loop-subset-test.true, count_cells c.args.row.index c.args.row.entries.now c.args.row.ends.now c.args.row.ends_are)) c.find-entry.ensures
    (sym (c.is_end.ensures octets) ∙ c.if-not-is_end.true) c.loop-subset.invariant
    ∙ ap (λ line. Err (at_line line item_too_many)) (line-is c.find-entry.result.0 octets)

pub loop-subset-preserved : goal.loop-subset-preserved
loop-subset-preserved c =
    let octets = c.find-entry.result.1.now in
    end_more (cells_at c.args.row.index (subsets_of c.args.row.entries.now)) c.loop-subset.subset (entry_with c.find-entry.result.0 octets)
    (omega (arith, c.loop-subset-test.true, count_cells c.args.row.index c.args.row.entries.now c.args.row.ends.now c.args.row.ends_are)) c.find-entry.ensures
    (sym (c.is_end.ensures octets) ∙ c.if-not-is_end.false) c.loop-subset.invariant

pub returns : goal.returns
returns c =
    end_done (cells_at c.args.row.index (subsets_of c.args.row.entries.now)) c.loop-subset.subset
    (omega (arith, c.loop-subset-test.false, count_cells c.args.row.index c.args.row.entries.now c.args.row.ends.now c.args.row.ends_are)) c.loop-subset.invariant
