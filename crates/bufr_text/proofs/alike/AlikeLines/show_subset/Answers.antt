use Rattle.std.proofs.Common.{◌<◌, ◌-◌, ◌∙◌, length, take, drop, ap, arith, subst}
use Rattle.std.proofs.lemmas.Result.{err_from_is_err_and}
use Rattle.bufr_walk.specs.Prelude.{items_between}
use Rattle.bufr_text.proofs.AlikeLemmas.{SubsetSoFar, next-stretch, stop-items, stop-made, subset-go}
use Rattle.bufr_text.proofs.alike.AlikeLines.show_subset.Goals as goal

pub returns-in_err-push_made : goal.returns-in_err-push_made
returns-in_err-push_made g c =
    let s = c.index-stretch.result.now in
    let p = c.args.items.now in
    let below : c.stretches.index < length c.args.self.now.stretches.items = omega (arith, c.stretches-test.true, c.len-index-end.ensures) in
    let h = subst (SubsetSoFar p c.args.self.now.text.items c.args.subset c.args.lines.now c.stretches.lines c.stretches.at)
    (next-stretch c.args.self.now.stretches.items c.stretches.index s below c.index-stretch.ensures) c.stretches.invariant in
    let made = ap (λ t. take (s.end - c.stretches.at) (drop c.stretches.at t)) c.as_slice-text.ensures.value ∙ h.left.0.alike c.args.subset c.requires.subset in
    let e = err_from_is_err_and c.from_residual.result c.from_residual.ensures.1 in
    rw (e.1, e.2) (stop-made p c.args.self.now.text.items c.args.subset c.args.lines.now c.stretches.lines c.stretches.at s _ h c.push_made.new.lines _
    (c.in_err-push_made.ensures p.table (items_between p c.args.subset h.index s.from) made))

pub returns-in_err-show : goal.returns-in_err-show
returns-in_err-show g c =
    let s = c.index-stretch.result.now in
    let p = c.args.items.now in
    let below : c.stretches.index < length c.args.self.now.stretches.items = omega (arith, c.stretches-test.true, c.len-index-end.ensures) in
    let h = subst (SubsetSoFar p c.args.self.now.text.items c.args.subset c.args.lines.now c.stretches.lines c.stretches.at)
    (next-stretch c.args.self.now.stretches.items c.stretches.index s below c.index-stretch.ensures) c.stretches.invariant in
    let made = ap (λ t. take (s.end - c.stretches.at) (drop c.stretches.at t)) c.as_slice-text.ensures.value ∙ h.left.0.alike c.args.subset c.requires.subset in
    let e = err_from_is_err_and c.from_residual-in_err-show.result c.from_residual-in_err-show.ensures.1 in
    rw (e.1, e.2) (stop-items p c.args.self.now.text.items c.args.subset c.args.lines.now c.stretches.lines c.stretches.at s _ h c.push_made.new.lines c.show.new.visitor _
    (c.in_ok-push_made.ensures p.table (items_between p c.args.subset h.index s.from) made) c.in_err-show.ensures)

pub stretches-preserved : goal.stretches-preserved
stretches-preserved g c =
    let s = c.index-stretch.result.now in
    let p = c.args.items.now in
    let below : c.stretches.index < length c.args.self.now.stretches.items = omega (arith, c.stretches-test.true, c.len-index-end.ensures) in
    let h = subst (SubsetSoFar p c.args.self.now.text.items c.args.subset c.args.lines.now c.stretches.lines c.stretches.at)
    (next-stretch c.args.self.now.stretches.items c.stretches.index s below c.index-stretch.ensures) c.stretches.invariant in
    let made = ap (λ t. take (s.end - c.stretches.at) (drop c.stretches.at t)) c.as_slice-text.ensures.value ∙ h.left.0.alike c.args.subset c.requires.subset in
    subset-go p c.args.self.now.text.items c.args.subset c.args.lines.now c.stretches.lines c.stretches.at s _ h c.push_made.new.lines c.show.new.visitor
    (c.in_ok-push_made.ensures p.table (items_between p c.args.subset h.index s.from) made) c.in_ok-show.ensures
