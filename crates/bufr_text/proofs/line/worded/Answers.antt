use Rattle.std.proofs.Common.{sym, ◌∙◌}
use Rattle.bufr_text.specs.Prelude.{Local1, Section2}
use Rattle.bufr_text.proofs.ItemLemmas.{local1-worded, section2-worded}
use Rattle.bufr_text.proofs.line.worded.Goals as goal

pub returns-in_err-octets : goal.returns-in_err-octets
returns-in_err-octets c =
    rw c.from_residual.ensures (c.in_err-octets.ensures Local1
    ∙ sym (local1-worded c.args.word.now c.args.rest.now (sym c.is.ensures ∙ c.if-is.false) (sym c.is-2.ensures ∙ c.if-is-2.true)))

pub returns-then-is-2 : goal.returns-then-is-2
returns-then-is-2 c =
    c.in_ok-octets.ensures Local1
    ∙ sym (local1-worded c.args.word.now c.args.rest.now (sym c.is.ensures ∙ c.if-is.false) (sym c.is-2.ensures ∙ c.if-is-2.true))

pub returns-in_err-octets-2 : goal.returns-in_err-octets-2
returns-in_err-octets-2 c =
    rw c.from_residual-in_err-octets-2.ensures (c.in_err-octets-2.ensures Section2
    ∙ sym (section2-worded c.args.word.now c.args.rest.now (sym c.is.ensures ∙ c.if-is.false) (sym c.is-2.ensures ∙ c.if-is-2.false) (sym c.is-3.ensures ∙ c.if-is-3.true)))

pub returns-then-is-3 : goal.returns-then-is-3
returns-then-is-3 c =
    c.in_ok-octets-2.ensures Section2
    ∙ sym (section2-worded c.args.word.now c.args.rest.now (sym c.is.ensures ∙ c.if-is.false) (sym c.is-2.ensures ∙ c.if-is-2.false) (sym c.is-3.ensures ∙ c.if-is-3.true))
