use Rattle.std.proofs.Common.{◌∙◌, true, false, sym, ap, Err}
use Rattle.bufr_fill.specs.Prelude.{draft, value_by, map_err, at_line}
use Rattle.bufr_fill.proofs.FieldLemmas.{marks, entry_is}
use Rattle.bufr_fill.proofs.field_value.field_content.Goals as goal

pub content_by_form-requires : goal.content_by_form-requires
content_by_form-requires c =
    let e = c.args.entry.now in
    let octets = c.args.octets.now in
    record { mark = marks c.args.spec.now (draft e.line e.fxy (value_by c.in-Some.kind e.start octets)) (sym (c.is_of.ensures e.line e.start octets) ∙ c.if-not-is_of.false) }

pub returns-then-not-is_of-clause-is : goal.returns-then-not-is_of-clause-is
returns-then-not-is_of-clause-is c =
    let e = c.args.entry.now in
    let octets = c.args.octets.now in
    ap Err c.wrong_item-then-not-is_of.ensures
    ∙ sym (entry_is c.args.spec.now e octets c.in-Some.kind false c.in-Some.is (sym (c.is_of.ensures e.line e.start octets) ∙ c.if-not-is_of.true))

pub returns-in-Ok-clause-is : goal.returns-in-Ok-clause-is
returns-in-Ok-clause-is c =
    let e = c.args.entry.now in
    let octets = c.args.octets.now in
    ap (map_err (at_line e.line)) c.in-Ok.ensures.is
    ∙ sym (entry_is c.args.spec.now e octets c.in-Some.kind true c.in-Some.is (sym (c.is_of.ensures e.line e.start octets) ∙ c.if-not-is_of.false))

pub returns-in-Err-clause-is : goal.returns-in-Err-clause-is
returns-in-Err-clause-is c =
    let e = c.args.entry.now in
    let octets = c.args.octets.now in
    ap (map_err (at_line e.line)) c.in-Err.ensures.is
    ∙ sym (entry_is c.args.spec.now e octets c.in-Some.kind true c.in-Some.is (sym (c.is_of.ensures e.line e.start octets) ∙ c.if-not-is_of.false))
