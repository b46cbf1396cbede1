use Rattle.std.proofs.Common.{◌<◌, ◌*◌, ◌+◌, ◌∙◌, arith, length}
use Rattle.std.proofs.lemmas.List.{length-set}
use Rattle.std.proofs.Math.Nat.{mul-le-mul_right}
use Rattle.bufr_fill.proofs.EntryLemmas.{count_cells, end_within}
use Rattle.bufr_fill.proofs.TransposeLemmas.{transpose_more, transposed, is_copy, next_subset}
use Rattle.bufr_fill.proofs.packed_out.transpose.Goals as goal

pub invariant_of-next-clause-near : goal.invariant_of-next-clause-near
invariant_of-next-clause-near c =
    let row = c.args.row in
    omega (arith, c.if-items-row.false, c.loop-ahead-test.true, end_within row.entries.now row.ends.now 0 row.ends_are row.some, row.few)

pub loop-ahead-preserved : goal.loop-ahead-preserved
loop-ahead-preserved c =
    let row = c.args.row in
    let place = c.loop-ahead.ahead * length row.ends.now + c.loop-subset.subset in
    let before = mul-le-mul_right {m = c.loop-ahead.ahead + 1} {n = c.min-rows.result} (length row.ends.now) (omega (arith, c.loop-ahead-test.true)) in
    let room : place < length c.loop-ahead.transposed.items = omega (arith, before, c.loop-subset-test.true, c.loop-ahead.invariant.len) in
    record {
      len = length-set c.loop-ahead.transposed.items place c.find-entry.result.0 ∙ c.loop-ahead.invariant.len;
      transposed = transpose_more row.entries.now row.index (length row.ends.now) c.loop-subset.subset c.loop-ahead.ahead c.loop-ahead.transposed.items c.find-entry.result.0
          (omega (arith, c.loop-subset-test.true)) room c.loop-ahead.invariant.transposed
          (is_copy row.entries.now (row.index + c.loop-ahead.ahead) c.loop-subset.subset c.find-entry.result.0 c.find-entry.result.1.now c.find-entry.ensures);
    }

pub loop-subset-preserved : goal.loop-subset-preserved
loop-subset-preserved c =
    let row = c.args.row in
    record {
      len = c.loop-ahead.invariant.len;
      transposed = next_subset row.entries.now row.index (length row.ends.now) c.loop-subset.subset c.loop-ahead.ahead c.min-rows.result c.loop-ahead.transposed.items
          c.loop-ahead.invariant.len (omega (arith, c.loop-ahead-test.false)) c.loop-ahead.invariant.transposed;
    }

pub returns : goal.returns
returns c = transposed c.args.row.entries.now c.args.row.index (length c.args.row.ends.now) c.loop-subset.subset c.loop-subset.transposed.items
    (λ row. count_cells row c.args.row.entries.now c.args.row.ends.now c.args.row.ends_are) (omega (arith, c.loop-subset-test.false)) c.loop-subset.invariant.transposed
