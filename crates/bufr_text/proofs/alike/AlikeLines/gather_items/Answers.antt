use Rattle.std.proofs.Common.{◌∙◌, arith, sym}
use Rattle.bufr_text.proofs.AlikeLemmas.{appended, gathered-all}
use Rattle.bufr_text.proofs.alike.AlikeLines.gather_items.Goals as goal

pub returns-then-text-le-TEXT-clause-stretches : goal.returns-then-text-le-TEXT-clause-stretches
returns-then-text-le-TEXT-clause-stretches c ok =
    gathered-all c.args.items.now c.stretches.lines c.stretches.at c.stretches.self.stretches.items _ c.stretches.invariant.gathered (omega (arith, c.stretches-test.false, c.len-len.ensures))
    (appended _ c.stretches.self.text.items c.held-text.result.now _ _ c.extend_from_slice.ensures.items (sym c.is_ok.ensures.value ∙ ok) c.stretches.invariant.text c.held-text.ensures.held)
