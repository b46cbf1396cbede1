use Rattle.std.proofs.Common.{ap, subst, rules, Err}
use Rattle.bufr_walk.specs.Prelude.{stage, counted_item, ItemsGo}
use Rattle.bufr_walk.specs.declared.walker.WalkStop.TheVariants as stops
use Rattle.bufr_walk.proofs.ShownLemmas.{IsEnd, all_shown, all_ended}
use Rattle.bufr_walk.proofs.plain.walk_showing.Goals as goal

pub returns-in-Ok-clause-input : goal.returns-in-Ok-clause-input
returns-in-Ok-clause-input g c = ap (λ p. p.0) (all_shown g.V.Visitor.sees c.args.cache.now (counted_item c.args.cache.now c.args.template.now)
    (λ s. stage s.input.now s.visitor.now s.table.now s.input.ghost_name s.visitor.ghost_name)
    c.args.fields.now c.args.steps.now c.walk_with.new.fields c.walk_with.new.steps c.requires.same c.in-Ok.ensures.walked).0

pub returns-in-Ok-clause-visitor : goal.returns-in-Ok-clause-visitor
returns-in-Ok-clause-visitor g c = ap (λ p. p.1) (all_shown g.V.Visitor.sees c.args.cache.now (counted_item c.args.cache.now c.args.template.now)
    (λ s. stage s.input.now s.visitor.now s.table.now s.input.ghost_name s.visitor.ghost_name)
    c.args.fields.now c.args.steps.now c.walk_with.new.fields c.walk_with.new.steps c.requires.same c.in-Ok.ensures.walked).0

pub returns-in-Field-Visitor-clause-input : goal.returns-in-Field-Visitor-clause-input
returns-in-Field-Visitor-clause-input g c = ap (λ p. p.0) (all_ended g.V.Visitor.sees c.args.cache.now (counted_item c.args.cache.now c.args.template.now)
    (λ s. stage s.input.now s.visitor.now s.table.now s.input.ghost_name s.visitor.ghost_name)
    c.args.fields.now c.args.steps.now c.walk_with.new.fields c.walk_with.new.steps c.requires.same c.in-Err.why c.requires.readable c.in-Err.ensures.walked).0

pub returns-in-Field-Visitor-clause-visitor : goal.returns-in-Field-Visitor-clause-visitor
returns-in-Field-Visitor-clause-visitor g c = ap (λ p. p.1) (all_ended g.V.Visitor.sees c.args.cache.now (counted_item c.args.cache.now c.args.template.now)
    (λ s. stage s.input.now s.visitor.now s.table.now s.input.ghost_name s.visitor.ghost_name)
    c.args.fields.now c.args.steps.now c.walk_with.new.fields c.walk_with.new.steps c.requires.same c.in-Err.why c.requires.readable c.in-Err.ensures.walked).0

pub returns-in-Memory-clause-input : goal.returns-in-Memory-clause-input
returns-in-Memory-clause-input g c = ap (λ p. p.0) (all_ended g.V.Visitor.sees c.args.cache.now (counted_item c.args.cache.now c.args.template.now)
    (λ s. stage s.input.now s.visitor.now s.table.now s.input.ghost_name s.visitor.ghost_name)
    c.args.fields.now c.args.steps.now c.walk_with.new.fields c.walk_with.new.steps c.requires.same c.in-Err.why c.requires.readable c.in-Err.ensures.walked).0

pub returns-in-Memory-clause-visitor : goal.returns-in-Memory-clause-visitor
returns-in-Memory-clause-visitor g c = ap (λ p. p.1) (all_ended g.V.Visitor.sees c.args.cache.now (counted_item c.args.cache.now c.args.template.now)
    (λ s. stage s.input.now s.visitor.now s.table.now s.input.ghost_name s.visitor.ghost_name)
    c.args.fields.now c.args.steps.now c.walk_with.new.fields c.walk_with.new.steps c.requires.same c.in-Err.why c.requires.readable c.in-Err.ensures.walked).0

pub returns-in-Ok-clause-shown : goal.returns-in-Ok-clause-shown
returns-in-Ok-clause-shown g c =
    (all_shown g.V.Visitor.sees c.args.cache.now (counted_item c.args.cache.now c.args.template.now) (λ s. stage s.input.now s.visitor.now s.table.now s.input.ghost_name s.visitor.ghost_name)
    c.args.fields.now c.args.steps.now c.walk_with.new.fields c.walk_with.new.steps c.requires.same c.in-Ok.ensures.walked).1

pub returns-in-Field-Visitor-clause-shown : goal.returns-in-Field-Visitor-clause-shown
returns-in-Field-Visitor-clause-shown g c =
    let r = (all_ended g.V.Visitor.sees c.args.cache.now (counted_item c.args.cache.now c.args.template.now) (λ s. stage s.input.now s.visitor.now s.table.now s.input.ghost_name s.visitor.ghost_name)
    c.args.fields.now c.args.steps.now c.walk_with.new.fields c.walk_with.new.steps c.requires.same (stops.Field c.in-Field-Visitor.field-0) c.requires.readable
    (rw c.in-Field-Visitor.is at c.in-Err.ensures.walked)) in
    subst (λ e. ItemsGo g.V.Visitor.sees c.args.cache.now (counted_item c.args.cache.now c.args.template.now) c.args.fields.now.input.now c.args.fields.now.visitor.now c.args.steps.now (Err e)
    c.walk_with.new.fields.input.now c.walk_with.new.fields.visitor.now c.walk_with.new.steps)
    (subst (λ e. IsEnd (stops.Field e) r.1) c.in-Field-Visitor.field-0-is r.2) r.3

pub returns-in-Memory-clause-shown : goal.returns-in-Memory-clause-shown
returns-in-Memory-clause-shown g c =
    let r = (all_ended g.V.Visitor.sees c.args.cache.now (counted_item c.args.cache.now c.args.template.now) (λ s. stage s.input.now s.visitor.now s.table.now s.input.ghost_name s.visitor.ghost_name)
    c.args.fields.now c.args.steps.now c.walk_with.new.fields c.walk_with.new.steps c.requires.same stops.Memory c.requires.readable (rw c.in-Memory.is at c.in-Err.ensures.walked)) in
    subst (λ e. ItemsGo g.V.Visitor.sees c.args.cache.now (counted_item c.args.cache.now c.args.template.now) c.args.fields.now.input.now c.args.fields.now.visitor.now c.args.steps.now (Err e)
    c.walk_with.new.fields.input.now c.walk_with.new.fields.visitor.now c.walk_with.new.steps) r.2 r.3

pub unreachable-requires : goal.unreachable-requires
unreachable-requires g c =
    let may = (all_ended g.V.Visitor.sees c.args.cache.now (counted_item c.args.cache.now c.args.template.now)
    (λ s. stage s.input.now s.visitor.now s.table.now s.input.ghost_name s.visitor.ghost_name)
    c.args.fields.now c.args.steps.now c.walk_with.new.fields c.walk_with.new.steps c.requires.same c.in-Err.why c.requires.readable c.in-Err.ensures.walked).2 in
    search (rules, may)
