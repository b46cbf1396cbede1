use Rattle.std.proofs.Common.{◌≡◌, ◌∙◌, ◌<◌, length, sym, arith, slice_index}
use Rattle.std.proofs.lemmas.Bool.{false≢true}
use Rattle.std.proofs.lemmas.List.{get_or_read}
use Rattle.bufr_tables.specs.Prelude.{members_or_none}
use Rattle.bufr_tables.proofs.CycleLemmas.{visited-pass, visited-push}
use Rattle.bufr_tables.proofs.table_d.visit.Goals as goal
use Rattle.bufr_tables.proofs.table_d.visit.Goals.{then-is_sequence+then-not-seen-word+in_ok-push, else-is_sequence, else-is_sequence-via-then-is_sequence+else-not-seen-word, else-is_sequence-via-else-is_sequence}

pub loop-member-preserved : goal.loop-member-preserved
loop-member-preserved c =
    let table = c.args.table.now in
    let i = c.loop-member.member-index in
    let word = c.from-word.result in
    let inside : i < length c.members_or_none-member-items.result.now = omega arith in
    let at : word ≡ slice_index (members_or_none table c.args.sequence) i =
    c.from-word.ensures ∙ c.word.ensures ∙ rw (← c.members_or_none-member-items.ensures) (get_or_read c.members_or_none-member-items.result.now i c.member-item.result inside c.member-item.is 0) in
    let same = c.from-word.ensures ∙ c.word.ensures in
    let was = c.loop-member.invariant in
    elim c.if-is_sequence.branch [
      | then-is_sequence+then-not-seen-word+in_ok-push w ↦
          let sequence = rw (← same) at (sym c.is_sequence.ensures ∙ w.if-is_sequence.true) in
          rw (w.seen-is, w.queue-is, w.in_ok-push.ensures.items, ← same)
          (visited-push table c.args.sequence c.args.seen.now c.args.queue.now.items i _ _ was word at (rw (← c.members_or_none-member-items.ensures) inside) sequence w.if-not-seen-word.true
          (omega (arith, was.flags, c.requires)))
      | else-is_sequence w ↦ rw (w.seen-is, w.queue-is) (elim w.else-is_sequence.branch [
        | else-is_sequence-via-then-is_sequence+else-not-seen-word v ↦
            visited-pass table c.args.sequence c.args.seen.now c.args.queue.now.items i _ _ was (λ _ _. rw (← at) v.if-not-seen-word.false)
        | else-is_sequence-via-else-is_sequence v ↦
            visited-pass table c.args.sequence c.args.seen.now c.args.queue.now.items i _ _ was
            (λ _ some. absurd (false≢true (sym (rw (← same) at (sym c.is_sequence.ensures ∙ v.if-is_sequence.false)) ∙ rw (← at) at some)))
      ])
    ]
