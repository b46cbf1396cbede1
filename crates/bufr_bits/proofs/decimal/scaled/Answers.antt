use Rattle.std.proofs.Common.{refl, sym, ◌∙◌, arith}
use Rattle.bufr_bits.proofs.BitLemmas.{and_false}
use Rattle.bufr_bits.proofs.DecimalLemmas.{are_kept, answer_ok, answer_inexact}
use Rattle.bufr_bits.proofs.decimal.scaled.Goals as goal

pub returns-then-not-are_zeros : goal.returns-then-not-are_zeros
returns-then-not-are_zeros c =
    let whole = c.args.whole.now in
    let fraction = c.args.fraction.now in
    let kept = are_kept whole fraction c.args.up c.args.down _ _ _ _ _ _ c.saturating_sub.ensures c.min.ensures c.split_at.ensures.front c.split_at.ensures.back c.split_at-2.ensures.front
    c.split_at-2.ensures.back in
    let no_zeros = sym c.are_zeros.ensures ∙ c.if-not-are_zeros.true in
    answer_inexact whole fraction c.args.up c.args.down _ _ _ _ c.requires.whole c.requires.fraction c.requires.one kept (rw no_zeros refl)

pub returns-then-not-are_zeros-2 : goal.returns-then-not-are_zeros-2
returns-then-not-are_zeros-2 c =
    let whole = c.args.whole.now in
    let fraction = c.args.fraction.now in
    let kept = are_kept whole fraction c.args.up c.args.down _ _ _ _ _ _ c.saturating_sub.ensures c.min.ensures c.split_at.ensures.front c.split_at.ensures.back c.split_at-2.ensures.front
    c.split_at-2.ensures.back in
    let no_zeros = sym c.are_zeros-2.ensures ∙ c.if-not-are_zeros-2.true in
    answer_inexact whole fraction c.args.up c.args.down _ _ _ _ c.requires.whole c.requires.fraction c.requires.one kept (rw no_zeros (and_false _))

pub returns : goal.returns
returns c =
    let whole = c.args.whole.now in
    let fraction = c.args.fraction.now in
    let kept = are_kept whole fraction c.args.up c.args.down _ _ _ _ _ _ c.saturating_sub.ensures c.min.ensures c.split_at.ensures.front c.split_at.ensures.back c.split_at-2.ensures.front
    c.split_at-2.ensures.back in
    let zero_cut = sym c.are_zeros.ensures ∙ c.if-not-are_zeros.false in
    let zero_left = sym c.are_zeros-2.ensures ∙ c.if-not-are_zeros-2.false in
    let prefix = c.split_at-2.ensures.front_len in
    let few = c.min.ensures in
    let number = c.times_ten.ensures _ (c.extend_with_digits-number.ensures _ (c.extend_with_digits.ensures 0 refl)) in
    answer_ok whole fraction c.args.up c.args.down _ _ _ _ _ c.times_ten.result c.requires.whole c.requires.fraction c.requires.one kept zero_cut zero_left (omega arith) number
