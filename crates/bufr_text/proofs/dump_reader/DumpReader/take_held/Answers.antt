use Rattle.std.proofs.Common.{◌∙◌, ◌∷◌, [], drop, refl, sym, ap, subst, arith, Some}
use Rattle.bufr_frame.specs.Prelude.{InputModel}
use Rattle.bufr_text.specs.Prelude.{Between, Stopped, Continues, Completes, Refuses, Complete, Document, Parsing, ReaderModel, has_no_feed, TakesEndLine, IsReader, ParsesHeldLines, TakesLines}
use Rattle.bufr_text.specs.declared.document.Progress.{Progress}
use Rattle.bufr_text.proofs.ReaderLemmas.{reader, wants-here, taken-held, reader-skips, progress-more, progress-between}
use Rattle.bufr_text.proofs.dump_reader.DumpReader.take_held.Goals as goal
use Rattle.std.proofs.lemmas.Grind.{common_steps}

pub invariant_of-self-in-Continues : goal.invariant_of-self-in-Continues
invariant_of-self-in-Continues c =
    let v = c.self.inside in
    let n = c.take_lines.new.progress in
    let takes = subst (λ h. TakesLines v.progress n h c.in-Ok.len (Continues c.in-Continues.field-0)) c.held-held.ensures (rw c.in-Continues.is at c.in-Ok.ensures.takes) in
    subst (IsReader v.fault n) (sym c.skip.ensures)
    (reader-skips v.fault v.fault v.progress n v.input c.in-Ok.len (λ e. progress-more v.progress n v.input.held c.in-Ok.len v.input.reads c.in-Continues.field-0 takes (c.self.invariant.3 e))
    c.self.invariant)

pub invariant_of-self-in-Refuses : goal.invariant_of-self-in-Refuses
invariant_of-self-in-Refuses c =
    let v = c.self.inside in
    let n = c.take_lines.new.progress in
    let d : Progress = record { state = Stopped; at = n.at; parts = n.parts } in
    subst (IsReader _ d) (sym c.skip.ensures) (reader-skips v.fault (Some _) v.progress d v.input c.in-Ok.len (λ e. absurd cc) c.self.invariant)

pub returns-in-Continues-clause-went : goal.returns-in-Continues-clause-went
returns-in-Continues-clause-went c =
    let v = c.self.inside in
    let n = c.take_lines.new.progress in
    let takes = subst (λ h. TakesLines v.progress n h c.in-Ok.len (Continues c.in-Continues.field-0)) c.held-held.ensures (rw c.in-Continues.is at c.in-Ok.ensures.takes) in
    let all = takes.all c.in-Continues.field-0 refl in (
      taken-held v.progress n c.args.self.now v.fault v.fault v.input _ c.in-Ok.len (Continues c.in-Continues.field-0) _ c.self.view_is takes (ap (λ s. (s, n.parts)) (sym all.0)) c.skip.ensures,
      ap (λ s. s.fault) c.self.view_is ∙ c.requires.sound,
      ap (λ i. has_no_feed i.held) c.skip.ensures ∙ all.1,
    )

pub returns-in-Refuses-clause-went : goal.returns-in-Refuses-clause-went
returns-in-Refuses-clause-went c =
    let v = c.self.inside in
    let n = c.take_lines.new.progress in
    let effect = Refuses c.in-Refuses.fault in
    let takes = subst (λ h. TakesLines v.progress n h c.in-Ok.len effect) c.held-held.ensures (rw c.in-Refuses.is at c.in-Ok.ensures.takes) in
    (taken-held v.progress n c.args.self.now v.fault _ v.input _ c.in-Ok.len effect (Stopped, n.parts) c.self.view_is takes refl c.skip.ensures, refl)

pub returns-in_default-clause-went : goal.returns-in_default-clause-went
returns-in_default-clause-went c = grind (arith, common_steps, wants-here)

pub invariant_of-self-in-Completes : goal.invariant_of-self-in-Completes
invariant_of-self-in-Completes c =
    let v = c.self.inside in
    let n = c.take_lines.new.progress in
    let d : Progress = record { state = Between; at = n.at; parts = c.replace-parts.new.dest } in
    let takes = subst (λ h. TakesLines v.progress n h c.in-Ok.len Completes) c.held-held.ensures (rw c.in-Completes.is at c.in-Ok.ensures.takes) in
    let none = c.replace-parts.ensures.after ∙ c.blank-blank.ensures in
    subst (IsReader v.fault d) (sym c.skip.ensures)
    (reader-skips v.fault v.fault v.progress d v.input c.in-Ok.len (λ e. progress-between v.progress n d v.input.held c.in-Ok.len v.input.reads Completes takes (c.self.invariant.3 e) refl refl none)
    c.self.invariant)

pub returns-in-Completes-clause-went : goal.returns-in-Completes-clause-went
returns-in-Completes-clause-went c =
    let v = c.self.inside in
    let n = c.take_lines.new.progress in
    let p : Parsing = (Between, c.replace-parts.new.dest) in
    let takes = subst (λ h. TakesLines v.progress n h c.in-Ok.len Completes) c.held-held.ensures (rw c.in-Completes.is at c.in-Ok.ensures.takes) in
    let none = c.replace-parts.ensures.after ∙ c.blank-blank.ensures in
    let i = c.skip.new.self in
    let D : Document → Type 0 = λ x. ParsesHeldLines c.args.self.now (reader n.at p i.held i.ended v.fault i.reads i.room i.free) (Complete x ∷ []) in
    let E : ReaderModel → Type 0 = λ s. TakesEndLine s.at s.held n.at (drop c.in-Ok.len v.input.held) in
    let H : InputModel → Type 0 = λ i. TakesEndLine c.args.self.now.at c.args.self.now.held n.at i.held in (
      subst D (sym c.replace-parts.ensures.value)
          (taken-held v.progress n c.args.self.now v.fault v.fault v.input i c.in-Ok.len Completes p c.self.view_is takes (ap (λ d. (Between, d)) none) c.skip.ensures),
      ap (λ s. s.fault) c.self.view_is ∙ c.requires.sound,
      subst H (sym c.skip.ensures) (subst E c.self.view_is (takes.closes refl)),
    )
