use Rattle.std.proofs.Common.{◌+◌, ◌≤◌, get_or, arith}
use Rattle.bufr_tables.proofs.CycleLemmas.{falls-all, falls-more}
use Rattle.bufr_tables.proofs.table_d.falls.Goals as goal

pub loop-place-preserved : goal.loop-place-preserved
loop-place-preserved c =
    let most : c.saturating_add-limit.result ≤ get_or c.args.ranks.now c.key.result 0 + 1 = omega (arith, c.saturating_add-limit.ensures) in
    falls-more c.args.table.now c.args.ranks.now c.loop-place.place c.sequence_at-sequence.result c.saturating_add-limit.result c.loop-place.invariant c.sequence_at-sequence.ensures
    (c.is_above.ensures c.if-not-is_above.false) (rw c.key.ensures.value at most)

pub returns : goal.returns
returns c = λ _. falls-all c.args.table.now c.args.ranks.now c.loop-place.place c.loop-place.invariant (omega arith)
