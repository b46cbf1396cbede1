use Rattle.std.proofs.Common.{sym, arith, ◌∙◌}
use Rattle.std.proofs.lemmas.Bool.{false≢true}
use Rattle.std.proofs.lemmas.List.{get_or_read}
use Rattle.bufr_tables.proofs.CycleLemmas.{falls-none, passed-all, passed-first, passed-more}
use Rattle.bufr_tables.proofs.table_d.first_cycle.Goals as goal

pub loop-place-preserved : goal.loop-place-preserved
loop-place-preserved c =
    passed-more c.args.table.now c.loop-place.place c.loop-place.invariant c.sequence_at-sequence.result c.sequence_at-sequence.ensures
    (λ chain. false≢true (sym c.if-branch.false ∙ c.in_ok-reaches_itself.ensures.1 chain))

pub loop-place-preserved-then-is_above : goal.loop-place-preserved-then-is_above
loop-place-preserved-then-is_above c =
    let falls = rw c.deref.ensures.value at (c.falls-falls.ensures c.if-falls.true) in
    let rank = get_or_read c.in_ok-ranks.ranks.items c.key.result _ (omega (arith, c.in_ok-ranks.ensures, c.key.ensures.most)) c.index.ensures 0 in
    let above = rw (c.deref-then-falls.ensures.value, rank, c.key.ensures.value) at (c.is_above.ensures c.if-is_above.true) in
    passed-more c.args.table.now c.loop-place.place c.loop-place.invariant c.sequence_at-sequence.result c.sequence_at-sequence.ensures (falls-none c.args.table.now _ _ falls above)

pub returns-then-branch : goal.returns-then-branch
returns-then-branch c =
    passed-first c.args.table.now c.loop-place.place c.loop-place.invariant _ c.sequence_at-sequence.ensures (omega arith) (c.in_ok-reaches_itself.ensures.0 c.if-branch.true)

pub returns : goal.returns
returns c = passed-all c.args.table.now c.loop-place.place c.loop-place.invariant (omega arith)
