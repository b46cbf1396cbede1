use Rattle.std.proofs.Common.{arith}
use Rattle.bufr_text.proofs.ItemLemmas.{spaced-item}
use Rattle.bufr_text.proofs.line.spaced_fxy.Goals as goal

pub returns-clause-value : goal.returns-clause-value
returns-clause-value c =
    spaced-item c.args.line.now c.from-6.result c.from.result c.from-2.result c.from-3.result c.from-4.result c.from-5.result c.from_word.result c.in-len8-up.len_at_least
    (λ i. let fits = c.type_inv.line i in omega arith) c.if-not-a-b.false c.from-6.ensures c.from.ensures c.from-2.ensures c.from-3.ensures c.from-4.ensures
    c.from-5.ensures c.if-x-gt63.false c.if-y-gt255.false c.from_word.ensures
