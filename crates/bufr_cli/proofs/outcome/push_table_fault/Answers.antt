use Rattle.std.proofs.Common.{◌∙◌, ◌∷◌, [], ap, codes, decimal}
use Rattle.bufr_tables.specs.Prelude.{fxy_text, table_report}
use Rattle.bufr_text.proofs.PushLemmas.{◌⨾◌, nothing_pushed, joined_then}
use Rattle.bufr_cli.proofs.outcome.push_table_fault.Goals as goal

pub returns-in-Row : goal.returns-in-Row
returns-in-Row g c =
    let number = c.number-number.ensures ∙ ap (λ f. (table_report f).0) c.in-Row.is in
    rw c.in-Row.is
    (joined_then (c.args.table.now ∷ decimal 41 ∷ codes " " ∷ codes "row " ∷ []) (decimal c.in-Row.record ∷ codes "\n" ∷ []) (rw number at c.push_numbered-in-Row.ensures)
    (c.push_decimal.ensures ⨾ (c.push.ensures ⨾ nothing_pushed)))

pub returns-in-Duplicate : goal.returns-in-Duplicate
returns-in-Duplicate g c =
    let number = c.number-number.ensures ∙ ap (λ f. (table_report f).0) c.in-Duplicate.is in
    rw c.in-Duplicate.is
    (joined_then (c.args.table.now ∷ decimal 42 ∷ codes " " ∷ codes "duplicate " ∷ []) (fxy_text c.in-Duplicate.fxy ∷ codes "\n" ∷ []) (rw number at c.push_numbered-in-Duplicate.ensures)
    (rw c.text.ensures.value at c.push-in-Duplicate.ensures ⨾ (c.push-in-Duplicate-2.ensures ⨾ nothing_pushed)))

pub returns-in-Cycle : goal.returns-in-Cycle
returns-in-Cycle g c =
    let number = c.number-number.ensures ∙ ap (λ f. (table_report f).0) c.in-Cycle.is in
    rw c.in-Cycle.is
    (joined_then (c.args.table.now ∷ decimal 43 ∷ codes " " ∷ codes "cycle " ∷ []) (fxy_text c.in-Cycle.fxy ∷ codes "\n" ∷ []) (rw number at c.push_numbered-in-Cycle.ensures)
    (rw c.text-in-Cycle.ensures.value at c.push-in-Cycle.ensures ⨾ (c.push-in-Cycle-2.ensures ⨾ nothing_pushed)))
