use Rattle.std.proofs.Common.{◌∙◌, ◌∷◌, [], ap, codes, decimal}
use Rattle.bufr_tables.specs.Prelude.{template_report}
use Rattle.bufr_fill.specs.Prelude.{item_report}
use Rattle.bufr_text.specs.Prelude.{document_report}
use Rattle.bufr_text.specs.declared.fault.DocumentFault.{DocumentFault}
use Rattle.bufr_text.proofs.PushLemmas.{◌⨾◌, nothing_pushed, joined_then}
use Rattle.bufr_cli.proofs.FaultLineLemmas.{line_pushed}
use Rattle.bufr_cli.proofs.fault_line.push_document_fault.Goals as goal

pub returns-in-Item : goal.returns-in-Item
returns-in-Item g c =
    let number = c.number-number.ensures ∙ ap (λ (f : DocumentFault). (document_report f).0) c.in-Item.is in
    let prefix = rw number at c.push_prefix.ensures in
    rw c.in-Item.is (line_pushed (codes "line ") c.in-Item.position (item_report c.in-Item.why).0 (item_report c.in-Item.why).1 prefix c.push_item_fault.ensures c.push.ensures)

pub returns-in-Template : goal.returns-in-Template
returns-in-Template g c =
    let number = c.number-number.ensures ∙ ap (λ (f : DocumentFault). (document_report f).0) c.in-Template.is in
    let prefix = rw number at c.push_prefix-in-Template.ensures in
    let named = rw (c.from.ensures, c.number.ensures) at c.push_named.ensures in
    let why = c.in-Template.why in
    let first = codes "template " ∷ decimal (template_report why).0 ∷ codes " " ∷ [] in
    let text = joined_then first (template_report why).1 (named ⨾ (c.push-in-Template.ensures ⨾ nothing_pushed)) c.push_template_fault.ensures in
    rw c.in-Template.is
    (line_pushed (codes "line ") c.in-Template.position 56 (codes "template " ∷ decimal (template_report why).0 ∷ codes " " ∷ (template_report why).1) prefix text c.push-in-Template-2.ensures)

pub returns-in-Memory : goal.returns-in-Memory
returns-in-Memory g c = rw c.in-Memory.is nothing_pushed
