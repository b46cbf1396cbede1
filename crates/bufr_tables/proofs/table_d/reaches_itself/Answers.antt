use Rattle.std.proofs.Common.{◌≡◌, Bool, ◌<◌, false, length, replicate, get_or, sym, ◌∙◌, arith, slice_index}
use Rattle.std.proofs.lemmas.List.{take_at, get_or_read, length-replicate}
use Rattle.bufr_tables.proofs.CycleLemmas.{none-set, searched-chain, searched-end, searched-more, searched-start}
use Rattle.bufr_tables.proofs.table_d.reaches_itself.Goals as goal

pub loop-next-init : goal.loop-next-init
loop-next-init c =
    let none : c.in_ok-seen.seen.items ≡ replicate 65536 false = c.in_ok-seen.ensures.items_if_clones_equal (λ y same. same) in
    let size : length c.in_ok-seen.seen.items ≡ 65536 = rw none (length-replicate {A = Bool} 65536 false) in
    let v = rw (c.deref_mut.ensures.value, c.new-queue.ensures.items) at c.in_ok-visit.ensures in
    rw (take_at c.visit.new.seen _ c.in_ok-seen.seen.len (omega (arith, v.flags)))
    (searched-start c.args.table.now c.args.sequence c.in_ok-seen.seen.items c.visit.new.seen c.visit.new.queue.items size (λ to is. none-set 65536 to (rw none at is)) v)

pub loop-next-preserved : goal.loop-next-preserved
loop-next-preserved c =
    let seen = c.loop-next.seen.items in
    let queue = c.loop-next.queue.items in
    let next = c.loop-next.next in
    let below : next < length queue = omega arith in
    let at : c.index-member.result.now ≡ slice_index queue next = get_or_read queue next _ below c.index-member.ensures 0 in
    let v = rw (c.deref_mut-in-loop-next.ensures.value, at) at c.in_ok-visit-2.ensures in
    rw (take_at c.visit-in-loop-next.new.seen _ c.loop-next.seen.len (omega (arith, v.flags)))
    (searched-more c.args.table.now c.args.sequence seen c.visit-in-loop-next.new.seen queue c.visit-in-loop-next.new.queue.items next c.loop-next.invariant below v)

pub returns : goal.returns
returns c =
    let s = c.loop-next.invariant in
    let start = c.args.sequence in
    let seen = c.loop-next.seen.items in
    let word = c.from.ensures ∙ c.word.ensures in
    let read : c.index.result.now ≡ get_or seen start false = rw word at (get_or_read seen c.from.result _ (omega (arith, s.flags)) c.index.ensures false) in (
      (λ yes. searched-chain c.args.table.now start seen c.loop-next.queue.items c.loop-next.next s (omega arith) (sym read ∙ yes)),
      (λ chain. read ∙ searched-end c.args.table.now start seen c.loop-next.queue.items c.loop-next.next s (omega arith) chain),
    )
