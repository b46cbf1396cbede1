use Rattle.std.proofs.Common.{◌≡◌, ◌∙◌, ℕ, ap, refl}
use Rattle.bufr_walk.specs.Prelude.{past}
use Rattle.bufr_walk.specs.Readers.{Cursor}
use Rattle.bufr_walk.proofs.ShownLemmas.{shown_here, unshown_here}
use Rattle.bufr_walk.proofs.plain.ShowFieldsFields.take.Goals as goal

pub returns-in-Ok-show_field-clause-step : goal.returns-in-Ok-show_field-clause-step
returns-in-Ok-show_field-clause-step g c =
    let width : c.from.result ≡ c.args.spec.now.width = c.from.ensures ∙ c.width.ensures.value in
    let passed = ap (λ (s : Cursor). past s (record c.args.spec.now { width = c.from.result })) c.input.view_is
    ∙ ap (λ (k : ℕ). past c.args.self.now.input.now (record c.args.spec.now { width = k })) width in
    shown_here g.V.Visitor.sees c.args.self.now.input.now _ c.args.self.now.visitor.now c.show_field.new.visitor c.args.self.now.table.now c.args.self.now.input.ghost_name
    c.args.self.now.visitor.ghost_name c.args.spec.now c.in-Ok.answer passed c.in-Ok.ensures.found c.in-Ok-show_field.ensures

pub returns-in-Err-show_field-clause-step : goal.returns-in-Err-show_field-clause-step
returns-in-Err-show_field-clause-step g c =
    unshown_here g.V.Visitor.sees c.args.self.now.input.now c.args.self.now.input.now c.args.self.now.visitor.now c.show_field.new.visitor c.args.self.now.table.now c.args.self.now.input.ghost_name
    c.args.self.now.visitor.ghost_name c.args.spec.now c.in-Ok.answer c.in-Err-show_field.fault refl c.in-Ok.ensures.found c.in-Err-show_field.ensures
