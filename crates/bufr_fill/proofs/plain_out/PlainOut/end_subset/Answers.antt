use Rattle.std.proofs.Common.{◌≡◌, ◌∙◌, Err, sym, ap, refl}
use Rattle.bufr_fill.specs.Prelude.{at_line, item_too_many, entry_with, PlainOutModel, line_at, after_end}
use Rattle.bufr_fill.proofs.EntryLemmas.{end_next, item_next, none_next}
use Rattle.bufr_fill.proofs.plain_out.PlainOut.end_subset.Goals as goal
use Rattle.bufr_fill.proofs.plain_out.PlainOut.end_subset.Goals.{in-Some+else-is_end, in_default}

pub returns-then-is_end : goal.returns-then-is_end
returns-then-is_end c =
    let d = c.self.inside in
    let octets = c.in-Some.field-0-1.now in (
      end_next d.entries.now d.index d.out.bits c.args.self.now (entry_with c.in-Some.entry octets) c.self.view_is c.in-Some.ensures (sym (c.is_end.ensures octets) ∙ c.if-is_end.true),
      ap (λ (p : PlainOutModel). p.bits) c.self.view_is,
    )

pub returns : goal.returns
returns c =
    let d = c.self.inside in
    let s = c.args.self.now in
    let next : after_end s.left ≡ Err (at_line (line_at s.left) item_too_many) = elim c.match-get.branch [
      | in-Some+else-is_end w ↦
          item_next d.entries.now d.index d.out.bits s (entry_with w.in-Some.entry w.in-Some.field-0-1.now) c.self.view_is w.in-Some.ensures
          (sym (w.is_end.ensures w.in-Some.field-0-1.now) ∙ w.if-is_end.false)
      | in_default w ↦ none_next d.entries.now d.index d.out.bits s c.self.view_is w.in_default.ensures
    ] in (
      next ∙ ap (λ line. Err (at_line line item_too_many)) (sym c.line-line.ensures),
      refl,
    )
