use Rattle.std.proofs.Common.{rules, sym, ◌∙◌}
use Rattle.std.proofs.lemmas.List.{take_rest}
use Rattle.bufr_tables.proofs.RecordLemmas.{i64_of-negative, i64_of-positive}
use Rattle.bufr_tables.proofs.rows.integer.Goals as goal

pub returns-then-is_negative : goal.returns-then-is_negative
returns-then-is_negative c = i64_of-negative c.args.text.now _ c.in_ok-size.size _ (sym c.is_negative.ensures ∙ c.if-is_negative.true) (take_rest c.args.text.now 1) c.in_ok-size.ensures (search rules)

pub returns : goal.returns
returns c = i64_of-positive c.args.text.now c.in_ok-size-2.size _ (sym c.is_negative.ensures ∙ c.if-is_negative.false) c.in_ok-size-2.ensures (search rules)
