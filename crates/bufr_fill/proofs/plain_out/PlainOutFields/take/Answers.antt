use Rattle.std.proofs.Common.{ap, ◌+◌, ◌∙◌, drop, sym, arith, refl, Err}
use Rattle.std.proofs.lemmas.Option.{slice_get_within}
use Rattle.std.proofs.lemmas.Result.{err_from_is_err_and}
use Rattle.bufr_fill.specs.Prelude.{entry_with}
use Rattle.bufr_fill.proofs.EntryLemmas.{filled_here, left_there, left_none, item_fault}
use Rattle.bufr_fill.proofs.plain_out.PlainOutFields.take.Goals as goal

pub invariant_of-self : goal.invariant_of-self
invariant_of-self c =
    let within = slice_get_within c.self.inside.entries.now c.self.inside.index (entry_with c.in-Some.found.0 c.in-Some.found.1.now) (sym c.in-Some.ensures) in
    record { within = omega (arith, within); few = c.self.invariant.few; room = omega (arith, c.self.invariant.room, c.in-Ok.ensures.most) }

pub returns-in-Ok-clause-step : goal.returns-in-Ok-clause-step
returns-in-Ok-clause-step c =
    filled_here c.self.inside.entries.now c.self.inside.index (entry_with c.in-Some.found.0 c.in-Some.found.1.now) c.args.spec.now c.in_ok-content.content c.taken_of.result c.self.inside.out.bits
    c.push_content.new.out.bits c.args.self.now
    c.self.view_is (sym c.in-Some.ensures) c.in_ok-content.ensures.is c.taken_of.ensures.gives c.in-Ok.ensures.ok c.in-Ok.ensures.some

pub returns-in-None-clause-step : goal.returns-in-None-clause-step
returns-in-None-clause-step c =
    let d = c.self.inside in
    (rw (c.wrong_item.ensures, left_none d.entries.now d.index d.out.bits c.args.self.now c.self.view_is c.in-None.ensures) refl, refl)

pub returns-in_err-content-clause-step : goal.returns-in_err-content-clause-step
returns-in_err-content-clause-step c =
    let d = c.self.inside in
    let e = entry_with c.in-Some.found.0 c.in-Some.found.1.now in
    let passed = err_from_is_err_and c.from_residual.result c.from_residual.ensures.1 in
    let left = left_there d.entries.now d.index d.out.bits c.args.self.now e c.self.view_is c.in-Some.ensures in
    rw (passed.1 ∙ ap Err passed.2) (rw left (item_fault c.args.spec.now (drop (d.index + 1) d.entries.now) c.in_err-content.field-0.0 e c.in_err-content.ensures.is), refl)
