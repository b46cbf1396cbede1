use Rattle.std.proofs.Common.{◌∙◌, ap, sym, arith, slice_get, Some}
use Rattle.bufr_frame.proofs.LayoutLemmas.{words-none, words-some}
use Rattle.bufr_frame.proofs.message.Message.descriptor.Goals as goal

pub returns-then-i-self : goal.returns-then-i-self
returns-then-i-self c =
    sym (words-none c.self.inside.descriptors.now c.args.i (omega (arith, c.if-i-self.true)))
    ∙ ap (λ s. slice_get s.descriptors c.args.i) c.self.view_is

pub returns : goal.returns
returns c =
    ap Some c.u16_at.ensures
    ∙ sym (words-some c.self.inside.descriptors.now c.args.i (omega (arith, c.if-i-self.false)))
    ∙ ap (λ s. slice_get s.descriptors c.args.i) c.self.view_is
