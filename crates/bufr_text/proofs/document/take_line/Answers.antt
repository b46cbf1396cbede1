use Rattle.bufr_text.proofs.ReaderLemmas.{item-taken}
use Rattle.bufr_text.proofs.document.take_line.Goals as goal

pub returns-in_default-clause-turns : goal.returns-in_default-clause-turns
returns-in_default-clause-turns c =
    item-taken c.args.progress.now _ c.args.line.now c.push_item.new.self c.in-Filling.field-0 _ _ c.progress.view_is c.in-Filling.is c.if-line-le-MAX_LINE.true
    (rw c.in_default.is at c.in-Some.ensures) c.in_ok-push_item.ensures.item

pub returns-clause-turns : goal.returns-clause-turns
returns-clause-turns c =
    item-taken c.args.progress.now _ c.args.line.now c.push_decimal.new.self c.in-Filling.field-0 _ _ c.progress.view_is c.in-Filling.is c.if-line-le-MAX_LINE.true
    (rw c.in-Some-number.is at c.in-Some.ensures) c.in_ok-push_decimal.ensures.item
