use Rattle.std.proofs.Common.{◌+◌, ◌/◌, Err, sym, ap, ◌∙◌, subst, arith}
use Rattle.std.proofs.lemmas.Result.{err_from_is_err_and}
use Rattle.bufr_fill.specs.Prelude.{cells_at, subsets_of, entry_with, IsRangeOf}
use Rattle.bufr_fill.proofs.RowLemmas.{IsGathering, gather_fault, gather_more, gathered}
use Rattle.bufr_fill.proofs.EntryLemmas.{count_cells}
use Rattle.bufr_fill.proofs.packed_out.read_row.Goals as goal

pub returns-in_err-content : goal.returns-in_err-content
returns-in_err-content c =
    let passed = err_from_is_err_and c.from_residual-in_err-content.result c.from_residual-in_err-content.ensures.1 in
    let row = c.args.row in
    let many = count_cells row.index row.entries.now row.ends.now c.args.row.ends_are in
    let cells = cells_at row.index (subsets_of row.entries.now) in
    rw (passed.1 ∙ ap Err passed.2)
    (gather_fault (c.args.spec.now.width / 8) c.args.spec.now cells c.loop-subset.subset c.loop-subset.contents.items (entry_with c.find_transposed-entry.result.0 c.find_transposed-entry.result.1.now)
    c.loop-subset.invariant.gathered (omega (arith, c.loop-subset-test.true, many)) c.find_transposed-entry.ensures
    c.in_err-content.field-0.0 c.in_err-content.ensures.is)

pub loop-subset-preserved : goal.loop-subset-preserved
loop-subset-preserved c =
    let row = c.args.row in
    let cells = cells_at row.index (subsets_of row.entries.now) in
    let many = count_cells row.index row.entries.now row.ends.now c.args.row.ends_are in
    let entry = entry_with c.find_transposed-entry.result.0 c.find_transposed-entry.result.1.now in
    record {
      gathered = subst (IsGathering (c.args.spec.now.width / 8) c.args.spec.now cells (c.loop-subset.subset + 1)) (sym c.push_reserved.ensures.items)
          (gather_more (c.args.spec.now.width / 8) c.args.spec.now cells c.loop-subset.subset c.loop-subset.contents.items entry
          c.loop-subset.invariant.gathered (omega (arith, c.loop-subset-test.true, many)) c.find_transposed-entry.ensures
          c.in_ok-content.content c.in_ok-content.ensures.is c.in_ok-content.ensures.content);
      range = subst (IsRangeOf c.with-range.result) (sym c.push_reserved.ensures.items) (c.with-range.ensures c.loop-subset.contents.items c.loop-subset.invariant.range);
    }

pub returns : goal.returns
returns c =
    let row = c.args.row in
    let cells = cells_at row.index (subsets_of row.entries.now) in
    let many = count_cells row.index row.entries.now row.ends.now c.args.row.ends_are in
    let done = c.loop-subset.invariant.gathered in (
      gathered (c.args.spec.now.width / 8) c.args.spec.now cells c.loop-subset.subset c.loop-subset.contents.items done (omega (arith, c.loop-subset-test.false, many)),
      done.all,
      omega (arith, done.many, c.loop-subset.auto.subset-end, c.loop-subset-test.false, many),
      c.loop-subset.invariant.range,
    )
