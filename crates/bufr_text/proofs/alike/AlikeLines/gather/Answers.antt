use Rattle.std.proofs.Common.{subst}
use Rattle.bufr_text.specs.Prelude.{AreStretches}
use Rattle.bufr_text.proofs.AlikeLemmas.{same-packed}
use Rattle.bufr_text.proofs.alike.AlikeLines.gather.Goals as goal

pub returns-else-not-gather_items-clause-gathered : goal.returns-else-not-gather_items-clause-gathered
returns-else-not-gather_items-clause-gathered c p is some =
    subst (λ q. AreStretches q c.gather_items.new.self.text.items 0 0 c.gather_items.new.self.stretches.items) (same-packed c.in-Some.items p c.args.reading.now c.in-Some.ensures.items is)
    (c.gather_items.ensures.stretches c.if-not-gather_items.false)
