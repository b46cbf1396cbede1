use Rattle.std.proofs.Common.{refl, sym, ◌∙◌, arith, None}
use Rattle.std.proofs.lemmas.Result.{err_from_is_err_and}
use Rattle.bufr_walk.specs.Prelude.{unroll}
use Rattle.bufr_walk.proofs.WalkLemmas.{five_is, five_is_not, in_range, met, turn_element, fail_element, operator_legal, turn_inserted, fail_inserted, turn_operator, fail_operator, fixed_room, delayed_room, factor_next, turn_fixed, turn_delayed, fail_delayed, innermost, pass_end_open, turn_pass_end, turn_finish, came_then, fits_first, led_out, led_off, came_begun}
use Rattle.bufr_walk.proofs.BoundLemmas.{steps_ok, steps_err}
use Rattle.bufr_tables.specs.declared.template.Cell.TheVariants as cell
use Rattle.bufr_walk.proofs.walker.walk_with.Goals as goal

pub turns-init : goal.turns-init
turns-init g c = (
  refl,
  (
    unroll c.args.template.now,
    fits_first c.cells-cells.result.now c.args.template.now c.clear.new.self.items c.cells-cells.ensures.flattened c.clear.ensures,
    came_begun g.S.Fields.takes c.args.cache.now c.cells-cells.result.now c.args.template.now _ _ _ c.new-in_force.ensures,
  ),
  in_range c.cells-cells.result.now 0 c.clear.new.self.items (unroll c.args.template.now)
      (fits_first c.cells-cells.result.now c.args.template.now c.clear.new.self.items c.cells-cells.ensures.flattened c.clear.ensures),
)

pub returns-in_err-take_field-in-Element-clause-walked : goal.returns-in_err-take_field-in-Element-clause-walked
returns-in_err-take_field-in-Element-clause-walked g c =
    let p = err_from_is_err_and c.from_residual.result c.from_residual.ensures.1 in
    rw (← c.turns.invariant.0, p.1, p.2) (led_off g.S.Fields.takes c.turns.cache c.cells-cells.result.now c.args.template.now c.turns.invariant.1.0 _ _ _ _ _ _ _ _
    (rw (← c.turns.invariant.0) at c.turns.invariant.1.2) (fail_element g.S.Fields.takes c.turns.cache c.cells-cells.result.now c.turns.index c.turns.open_groups.items c.turns.invariant.1.0 _
    c.in-Element.fxy c.turns.in_force _ _ _ _ _ _ c.turns.invariant.1.1 (sym c.index-cells-index.is ∙ c.in-Element.is) refl c.in_err-take_field-in-Element.ensures.took c.tick.ensures))

pub returns-in_err-take_field-in-Element-clause-refused : goal.returns-in_err-take_field-in-Element-clause-refused
returns-in_err-take_field-in-Element-clause-refused g c =
    let p = err_from_is_err_and c.from_residual.result c.from_residual.ensures.1 in
    rw p.1 (steps_err g.S.Fields.takes g.S.Fields.used g.met.S.Fields.advances g.met.S.Fields.refuses c.turns.cache c.args.template.now _ _ _ _ _ c.cells-cells.ensures.flattened.sound
    (led_off g.S.Fields.takes c.turns.cache c.cells-cells.result.now c.args.template.now c.turns.invariant.1.0 _ _ _ _ _ _ _ _ (rw (← c.turns.invariant.0) at c.turns.invariant.1.2)
    (fail_element g.S.Fields.takes c.turns.cache c.cells-cells.result.now c.turns.index c.turns.open_groups.items c.turns.invariant.1.0 _ c.in-Element.fxy c.turns.in_force _ _ _ _ _ _
    c.turns.invariant.1.1 (sym c.index-cells-index.is ∙ c.in-Element.is) refl c.in_err-take_field-in-Element.ensures.took c.tick.ensures)))

pub turns-smaller-in-Element : goal.turns-smaller-in-Element
turns-smaller-in-Element g c = (turn_element g.S.Fields.takes c.turns.cache c.cells-cells.result.now c.turns.index c.turns.open_groups.items c.turns.invariant.1.0 _ c.in-Element.fxy c.turns.in_force
    c.take_field.new.in_force c.turns.fields c.take_field.new.fields c.turns.steps _ _ _ c.turns.invariant.1.1 (sym c.index-cells-index.is ∙ c.in-Element.is) refl
    c.in_ok-take_field-in-Element.ensures.took c.tick.ensures c.in_ok-take_field-in-Element.ensures.kept).3

pub turns-preserved-in-Element : goal.turns-preserved-in-Element
turns-preserved-in-Element g c =
    let t = turn_element g.S.Fields.takes c.turns.cache c.cells-cells.result.now c.turns.index c.turns.open_groups.items c.turns.invariant.1.0 _ c.in-Element.fxy c.turns.in_force
    c.take_field.new.in_force c.turns.fields c.take_field.new.fields c.turns.steps _ _ _ c.turns.invariant.1.1 (sym c.index-cells-index.is ∙ c.in-Element.is) refl
    c.in_ok-take_field-in-Element.ensures.took c.tick.ensures c.in_ok-take_field-in-Element.ensures.kept in (
      c.in_ok-take_field-in-Element.ensures.same ∙ c.turns.invariant.0,
      (t.0, t.1, rw (← c.turns.invariant.0) (came_then g.S.Fields.takes c.turns.cache (rw (← c.turns.invariant.0) at c.turns.invariant.1.2) t.2)),
      in_range c.cells-cells.result.now _ _ t.0 t.1,
    )

pub take_inserted-requires-clause-legal : goal.take_inserted-requires-clause-legal
take_inserted-requires-clause-legal g c = operator_legal g.S.Fields.takes c.turns.cache c.cells-cells.result.now c.turns.index c.turns.open_groups.items c.turns.invariant.1.0 _ c.in-Operator.fxy
    c.turns.invariant.1.1 (sym c.index-cells-index.is ∙ c.in-Operator.is)

pub returns-in_err-take_inserted-in-Operator-clause-walked : goal.returns-in_err-take_inserted-in-Operator-clause-walked
returns-in_err-take_inserted-in-Operator-clause-walked g c =
    let p = err_from_is_err_and c.from_residual-in_err-take_inserted-in-Operator.result c.from_residual-in_err-take_inserted-in-Operator.ensures.1 in
    rw (← c.turns.invariant.0, p.1, p.2) (led_off g.S.Fields.takes c.turns.cache c.cells-cells.result.now c.args.template.now c.turns.invariant.1.0 _ _ _ _ _ _ _ _
    (rw (← c.turns.invariant.0) at c.turns.invariant.1.2) (fail_inserted g.S.Fields.takes c.turns.cache c.cells-cells.result.now c.turns.index c.turns.open_groups.items c.turns.invariant.1.0 _
    c.in-Operator.fxy c.turns.in_force _ _ _ _ _ _ c.turns.invariant.1.1 (sym c.index-cells-index.is ∙ c.in-Operator.is) (five_is c.in-Operator.fxy _ c.x.ensures.value c.if-x-eq5.true) refl
    c.in_err-take_inserted-in-Operator.ensures.took c.tick.ensures))

pub returns-in_err-take_inserted-in-Operator-clause-refused : goal.returns-in_err-take_inserted-in-Operator-clause-refused
returns-in_err-take_inserted-in-Operator-clause-refused g c =
    let p = err_from_is_err_and c.from_residual-in_err-take_inserted-in-Operator.result c.from_residual-in_err-take_inserted-in-Operator.ensures.1 in
    rw p.1 (steps_err g.S.Fields.takes g.S.Fields.used g.met.S.Fields.advances g.met.S.Fields.refuses c.turns.cache c.args.template.now _ _ _ _ _ c.cells-cells.ensures.flattened.sound
    (led_off g.S.Fields.takes c.turns.cache c.cells-cells.result.now c.args.template.now c.turns.invariant.1.0 _ _ _ _ _ _ _ _ (rw (← c.turns.invariant.0) at c.turns.invariant.1.2)
    (fail_inserted g.S.Fields.takes c.turns.cache c.cells-cells.result.now c.turns.index c.turns.open_groups.items c.turns.invariant.1.0 _ c.in-Operator.fxy c.turns.in_force _ _ _ _ _ _
    c.turns.invariant.1.1 (sym c.index-cells-index.is ∙ c.in-Operator.is) (five_is c.in-Operator.fxy _ c.x.ensures.value c.if-x-eq5.true) refl c.in_err-take_inserted-in-Operator.ensures.took
    c.tick.ensures)))

pub turns-smaller-then-x-eq5 : goal.turns-smaller-then-x-eq5
turns-smaller-then-x-eq5 g c = (turn_inserted g.S.Fields.takes c.turns.cache c.cells-cells.result.now c.turns.index c.turns.open_groups.items c.turns.invariant.1.0 _ c.in-Operator.fxy
    c.turns.in_force c.take_inserted.new.self c.turns.fields c.take_inserted.new.fields c.turns.steps _ _ _ c.turns.invariant.1.1 (sym c.index-cells-index.is ∙ c.in-Operator.is)
    (five_is c.in-Operator.fxy _ c.x.ensures.value c.if-x-eq5.true) refl c.in_ok-take_inserted-in-Operator.ensures.took c.tick.ensures c.in_ok-take_inserted-in-Operator.ensures.kept).3

pub turns-preserved-then-x-eq5 : goal.turns-preserved-then-x-eq5
turns-preserved-then-x-eq5 g c =
    let t = turn_inserted g.S.Fields.takes c.turns.cache c.cells-cells.result.now c.turns.index c.turns.open_groups.items c.turns.invariant.1.0 _ c.in-Operator.fxy c.turns.in_force
    c.take_inserted.new.self c.turns.fields c.take_inserted.new.fields c.turns.steps _ _ _ c.turns.invariant.1.1 (sym c.index-cells-index.is ∙ c.in-Operator.is)
    (five_is c.in-Operator.fxy _ c.x.ensures.value c.if-x-eq5.true) refl c.in_ok-take_inserted-in-Operator.ensures.took c.tick.ensures c.in_ok-take_inserted-in-Operator.ensures.kept in (
      c.turns.invariant.0,
      (t.0, t.1, rw (← c.turns.invariant.0) (came_then g.S.Fields.takes c.turns.cache (rw (← c.turns.invariant.0) at c.turns.invariant.1.2) t.2)),
      in_range c.cells-cells.result.now _ _ t.0 t.1,
    )

pub apply-requires : goal.apply-requires
apply-requires g c = operator_legal g.S.Fields.takes c.turns.cache c.cells-cells.result.now c.turns.index c.turns.open_groups.items c.turns.invariant.1.0 _ c.in-Operator.fxy c.turns.invariant.1.1
    (sym c.index-cells-index.is ∙ c.in-Operator.is)

pub returns-in_err-apply-in-Operator-clause-walked : goal.returns-in_err-apply-in-Operator-clause-walked
returns-in_err-apply-in-Operator-clause-walked g c =
    let p = err_from_is_err_and c.from_residual-in_err-apply-in-Operator.result c.from_residual-in_err-apply-in-Operator.ensures.1 in
    rw (← c.turns.invariant.0, p.1, p.2) (led_off g.S.Fields.takes c.turns.cache c.cells-cells.result.now c.args.template.now c.turns.invariant.1.0 _ _ _ _ _ _ _ _
    (rw (← c.turns.invariant.0) at c.turns.invariant.1.2) (fail_operator g.S.Fields.takes c.turns.cache c.cells-cells.result.now c.turns.index c.turns.open_groups.items c.turns.invariant.1.0 _
    c.in-Operator.fxy c.turns.in_force _ _ _ c.in_err-apply-in-Operator.field-0.0 c.turns.invariant.1.1 (sym c.index-cells-index.is ∙ c.in-Operator.is)
    (five_is_not c.in-Operator.fxy _ c.x.ensures.value c.if-x-eq5.false) c.in_err-apply-in-Operator.ensures.err c.tick.ensures))

pub returns-in_err-apply-in-Operator-clause-refused : goal.returns-in_err-apply-in-Operator-clause-refused
returns-in_err-apply-in-Operator-clause-refused g c =
    let p = err_from_is_err_and c.from_residual-in_err-apply-in-Operator.result c.from_residual-in_err-apply-in-Operator.ensures.1 in
    rw p.1 (steps_err g.S.Fields.takes g.S.Fields.used g.met.S.Fields.advances g.met.S.Fields.refuses c.turns.cache c.args.template.now _ _ _ _ _ c.cells-cells.ensures.flattened.sound
    (led_off g.S.Fields.takes c.turns.cache c.cells-cells.result.now c.args.template.now c.turns.invariant.1.0 _ _ _ _ _ _ _ _ (rw (← c.turns.invariant.0) at c.turns.invariant.1.2)
    (fail_operator g.S.Fields.takes c.turns.cache c.cells-cells.result.now c.turns.index c.turns.open_groups.items c.turns.invariant.1.0 _ c.in-Operator.fxy c.turns.in_force _ _ _
    c.in_err-apply-in-Operator.field-0.0 c.turns.invariant.1.1 (sym c.index-cells-index.is ∙ c.in-Operator.is) (five_is_not c.in-Operator.fxy _ c.x.ensures.value c.if-x-eq5.false)
    c.in_err-apply-in-Operator.ensures.err c.tick.ensures)))

pub turns-smaller-in-Operator : goal.turns-smaller-in-Operator
turns-smaller-in-Operator g c = (turn_operator g.S.Fields.takes c.turns.cache c.cells-cells.result.now c.turns.index c.turns.open_groups.items c.turns.invariant.1.0 _ c.in-Operator.fxy
    c.turns.in_force c.apply.new.self c.turns.fields c.turns.steps _ c.turns.invariant.1.1 (sym c.index-cells-index.is ∙ c.in-Operator.is)
    (five_is_not c.in-Operator.fxy _ c.x.ensures.value c.if-x-eq5.false) c.in_ok-apply-in-Operator.ensures.ok c.tick.ensures).3

pub turns-preserved-in-Operator : goal.turns-preserved-in-Operator
turns-preserved-in-Operator g c =
    let t = turn_operator g.S.Fields.takes c.turns.cache c.cells-cells.result.now c.turns.index c.turns.open_groups.items c.turns.invariant.1.0 _ c.in-Operator.fxy c.turns.in_force c.apply.new.self
    c.turns.fields c.turns.steps _ c.turns.invariant.1.1 (sym c.index-cells-index.is ∙ c.in-Operator.is) (five_is_not c.in-Operator.fxy _ c.x.ensures.value c.if-x-eq5.false)
    c.in_ok-apply-in-Operator.ensures.ok c.tick.ensures in (
      c.turns.invariant.0,
      (t.0, t.1, rw (← c.turns.invariant.0) (came_then g.S.Fields.takes c.turns.cache (rw (← c.turns.invariant.0) at c.turns.invariant.1.2) t.2)),
      in_range c.cells-cells.result.now _ _ t.0 t.1,
    )

pub open_group-index-requires : goal.open_group-index-requires
open_group-index-requires g c = fixed_room g.S.Fields.takes c.turns.cache c.cells-cells.result.now c.turns.index c.turns.open_groups.items c.turns.invariant.1.0 _ c.in-Fixed.count c.in-Fixed.after
    c.turns.invariant.1.1 (sym c.index-cells-index.is ∙ c.in-Fixed.is)

pub turns-smaller-in-Fixed : goal.turns-smaller-in-Fixed
turns-smaller-in-Fixed g c = (turn_fixed g.S.Fields.takes c.turns.cache c.cells-cells.result.now c.turns.index c.turns.open_groups.items c.turns.invariant.1.0 _ c.in-Fixed.count c.in-Fixed.after _ _
    c.turns.in_force c.turns.fields c.turns.steps _ c.turns.invariant.1.1 (sym c.index-cells-index.is ∙ c.in-Fixed.is) (rw c.from.ensures at c.open_group-index.ensures.none)
    (rw c.from.ensures at c.open_group-index.ensures.some) c.tick.ensures).3

pub turns-preserved-in-Fixed : goal.turns-preserved-in-Fixed
turns-preserved-in-Fixed g c =
    let t = turn_fixed g.S.Fields.takes c.turns.cache c.cells-cells.result.now c.turns.index c.turns.open_groups.items c.turns.invariant.1.0 _ c.in-Fixed.count c.in-Fixed.after _ _ c.turns.in_force
    c.turns.fields c.turns.steps _ c.turns.invariant.1.1 (sym c.index-cells-index.is ∙ c.in-Fixed.is) (rw c.from.ensures at c.open_group-index.ensures.none)
    (rw c.from.ensures at c.open_group-index.ensures.some) c.tick.ensures in (
      c.turns.invariant.0,
      (t.0, t.1, rw (← c.turns.invariant.0) (came_then g.S.Fields.takes c.turns.cache (rw (← c.turns.invariant.0) at c.turns.invariant.1.2) t.2)),
      in_range c.cells-cells.result.now _ _ t.0 t.1,
    )

pub bounds-cells-place : goal.bounds-cells-place
bounds-cells-place g c = (factor_next g.S.Fields.takes c.turns.cache c.cells-cells.result.now c.turns.index c.turns.open_groups.items c.turns.invariant.1.0 _ c.in-Delayed.after c.turns.invariant.1.1
    (sym c.index-cells-index.is ∙ c.in-Delayed.is)).0

pub unreachable-requires : goal.unreachable-requires
unreachable-requires g c =
    let n = (factor_next g.S.Fields.takes c.turns.cache c.cells-cells.result.now c.turns.index c.turns.open_groups.items c.turns.invariant.1.0 _ c.in-Delayed.after c.turns.invariant.1.1
    (sym c.index-cells-index.is ∙ c.in-Delayed.is)) in
    c.in_default.not-Factor _ (c.index-cells-place.is ∙ n.2 c.index-cells-place.result)

pub returns-in_err-answer-in-Delayed-clause-walked : goal.returns-in_err-answer-in-Delayed-clause-walked
returns-in_err-answer-in-Delayed-clause-walked g c =
    let p = err_from_is_err_and c.from_residual-in_err-answer-in-Delayed.result c.from_residual-in_err-answer-in-Delayed.ensures.1 in
    rw (← c.turns.invariant.0, p.1, p.2) (led_off g.S.Fields.takes c.turns.cache c.cells-cells.result.now c.args.template.now c.turns.invariant.1.0 _ _ _ _ _ _ _ _
    (rw (← c.turns.invariant.0) at c.turns.invariant.1.2) (fail_delayed g.S.Fields.takes c.turns.cache c.cells-cells.result.now c.turns.index c.turns.open_groups.items c.turns.invariant.1.0 _ _
    c.in-Delayed.after c.in-Factor-next.fxy c.turns.in_force _ _ _ _ _ _ _ c.turns.invariant.1.1 (sym c.index-cells-index.is ∙ c.in-Delayed.is) (sym c.index-cells-place.is ∙ c.in-Factor-next.is)
    refl c.in_err-answer-in-Delayed.ensures.took c.tick.ensures c.tick-in-Delayed.ensures))

pub returns-in_err-answer-in-Delayed-clause-refused : goal.returns-in_err-answer-in-Delayed-clause-refused
returns-in_err-answer-in-Delayed-clause-refused g c =
    let p = err_from_is_err_and c.from_residual-in_err-answer-in-Delayed.result c.from_residual-in_err-answer-in-Delayed.ensures.1 in
    rw p.1 (steps_err g.S.Fields.takes g.S.Fields.used g.met.S.Fields.advances g.met.S.Fields.refuses c.turns.cache c.args.template.now _ _ _ _ _ c.cells-cells.ensures.flattened.sound
    (led_off g.S.Fields.takes c.turns.cache c.cells-cells.result.now c.args.template.now c.turns.invariant.1.0 _ _ _ _ _ _ _ _ (rw (← c.turns.invariant.0) at c.turns.invariant.1.2)
    (fail_delayed g.S.Fields.takes c.turns.cache c.cells-cells.result.now c.turns.index c.turns.open_groups.items c.turns.invariant.1.0 _ _ c.in-Delayed.after c.in-Factor-next.fxy
    c.turns.in_force _ _ _ _ _ _ _ c.turns.invariant.1.1 (sym c.index-cells-index.is ∙ c.in-Delayed.is) (sym c.index-cells-place.is ∙ c.in-Factor-next.is) refl
    c.in_err-answer-in-Delayed.ensures.took c.tick.ensures c.tick-in-Delayed.ensures)))

pub overflow_add-index-in-Count : goal.overflow_add-index-in-Count
overflow_add-index-in-Count g c = omega (
  arith,
  (factor_next g.S.Fields.takes c.turns.cache c.cells-cells.result.now c.turns.index c.turns.open_groups.items c.turns.invariant.1.0 _ c.in-Delayed.after
      c.turns.invariant.1.1 (sym c.index-cells-index.is ∙ c.in-Delayed.is)).0,
  c.cells-cells.ensures.count,
  c.cells-cells.ensures.flattened.within,
)

pub open_group-index-requires-in-Count : goal.open_group-index-requires-in-Count
open_group-index-requires-in-Count g c = delayed_room g.S.Fields.takes c.turns.cache c.cells-cells.result.now c.turns.index c.turns.open_groups.items c.turns.invariant.1.0 _ c.in-Delayed.after
    c.turns.invariant.1.1 (sym c.index-cells-index.is ∙ c.in-Delayed.is)

pub turns-smaller-in-Count : goal.turns-smaller-in-Count
turns-smaller-in-Count g c = (turn_delayed g.S.Fields.takes c.turns.cache c.cells-cells.result.now c.turns.index c.turns.open_groups.items c.turns.invariant.1.0 _ _ c.in-Delayed.after
    c.in-Count.count _ c.in-Factor-next.fxy _ c.turns.in_force _ _ _ _ _ _ _ c.in_ok-answer-in-Delayed.answer c.turns.invariant.1.1 (sym c.index-cells-index.is ∙ c.in-Delayed.is)
    (sym c.index-cells-place.is ∙ c.in-Factor-next.is) refl c.in_ok-answer-in-Delayed.ensures.took c.in-Count.is c.in_ok-answer-in-Delayed.ensures.kept
    (omega (arith, c.open_group-index-in-Count.ensures.fits)) c.open_group-index-in-Count.ensures.none c.open_group-index-in-Count.ensures.some c.tick.ensures c.tick-in-Delayed.ensures).3

pub turns-preserved-in-Count : goal.turns-preserved-in-Count
turns-preserved-in-Count g c =
    let t = turn_delayed g.S.Fields.takes c.turns.cache c.cells-cells.result.now c.turns.index c.turns.open_groups.items c.turns.invariant.1.0 _ _ c.in-Delayed.after c.in-Count.count _
    c.in-Factor-next.fxy _ c.turns.in_force _ _ _ _ _ _ _ c.in_ok-answer-in-Delayed.answer c.turns.invariant.1.1 (sym c.index-cells-index.is ∙ c.in-Delayed.is)
    (sym c.index-cells-place.is ∙ c.in-Factor-next.is) refl c.in_ok-answer-in-Delayed.ensures.took c.in-Count.is c.in_ok-answer-in-Delayed.ensures.kept
    (omega (arith, c.open_group-index-in-Count.ensures.fits)) c.open_group-index-in-Count.ensures.none c.open_group-index-in-Count.ensures.some c.tick.ensures c.tick-in-Delayed.ensures in (
      c.in_ok-answer-in-Delayed.ensures.same ∙ c.turns.invariant.0,
      (t.0, t.1, rw (← c.turns.invariant.0) (came_then g.S.Fields.takes c.turns.cache (rw (← c.turns.invariant.0) at c.turns.invariant.1.2) t.2)),
      in_range c.cells-cells.result.now _ _ t.0 t.1,
    )

pub unreachable-requires-in-Factor : goal.unreachable-requires-in-Factor
unreachable-requires-in-Factor g c = met c.cells-cells.result.now c.turns.index c.turns.open_groups.items c.turns.invariant.1.0 _ (cell.Factor c.in-Factor.field-0) c.turns.invariant.1.1
    (sym c.index-cells-index.is ∙ c.in-Factor.is)

pub end_pass-index-requires : goal.end_pass-index-requires
end_pass-index-requires g c =
    let o = pass_end_open g.S.Fields.takes c.turns.cache c.cells-cells.result.now c.turns.index c.turns.open_groups.items c.turns.invariant.1.0 _ c.turns.invariant.1.1
    (sym c.index-cells-index.is ∙ c.in-PassEnd.is) in
    o.0

pub turns-smaller : goal.turns-smaller
turns-smaller g c =
    let t = let o = pass_end_open g.S.Fields.takes c.turns.cache c.cells-cells.result.now c.turns.index c.turns.open_groups.items c.turns.invariant.1.0 _ c.turns.invariant.1.1
    (sym c.index-cells-index.is ∙ c.in-PassEnd.is) in
    let p = innermost c.turns.open_groups.items o.0 in
    turn_pass_end g.S.Fields.takes c.turns.cache c.cells-cells.result.now c.turns.index c.turns.open_groups.items c.turns.invariant.1.0 _ p.1 p.0 _ _ c.turns.in_force c.turns.fields c.turns.steps _
    c.turns.invariant.1.1 (sym c.index-cells-index.is ∙ c.in-PassEnd.is) p.2 (c.end_pass-index.ensures.last p.0 p.1 p.2) (c.end_pass-index.ensures.more p.0 p.1 p.2) c.tick.ensures in
    t.3

pub turns-preserved : goal.turns-preserved
turns-preserved g c =
    let t = let o = pass_end_open g.S.Fields.takes c.turns.cache c.cells-cells.result.now c.turns.index c.turns.open_groups.items c.turns.invariant.1.0 _ c.turns.invariant.1.1
    (sym c.index-cells-index.is ∙ c.in-PassEnd.is) in
    let p = innermost c.turns.open_groups.items o.0 in
    turn_pass_end g.S.Fields.takes c.turns.cache c.cells-cells.result.now c.turns.index c.turns.open_groups.items c.turns.invariant.1.0 _ p.1 p.0 _ _ c.turns.in_force c.turns.fields c.turns.steps _
    c.turns.invariant.1.1 (sym c.index-cells-index.is ∙ c.in-PassEnd.is) p.2 (c.end_pass-index.ensures.last p.0 p.1 p.2) (c.end_pass-index.ensures.more p.0 p.1 p.2) c.tick.ensures in (
      c.turns.invariant.0,
      (t.0, t.1, rw (← c.turns.invariant.0) (came_then g.S.Fields.takes c.turns.cache (rw (← c.turns.invariant.0) at c.turns.invariant.1.2) t.2)),
      in_range c.cells-cells.result.now _ _ t.0 t.1,
    )

pub returns-in-Finish-clause-walked : goal.returns-in-Finish-clause-walked
returns-in-Finish-clause-walked g c = rw (← c.turns.invariant.0) (led_out g.S.Fields.takes c.turns.cache c.cells-cells.result.now c.args.template.now c.turns.invariant.1.0 c.turns.index
    c.turns.open_groups.items c.turns.in_force _ c.turns.fields _ c.turns.steps None c.turns.open_groups.items c.turns.in_force c.turns.fields _ (λ next e. cc)
    (rw (← c.turns.invariant.0) at c.turns.invariant.1.2) (turn_finish g.S.Fields.takes c.turns.cache c.cells-cells.result.now c.turns.index c.turns.open_groups.items c.turns.invariant.1.0 _
    c.turns.in_force c.turns.fields c.turns.steps _ c.turns.invariant.1.1 (sym c.index-cells-index.is ∙ c.in-Finish.is) c.tick.ensures))

pub returns-in-Finish-clause-accepted : goal.returns-in-Finish-clause-accepted
returns-in-Finish-clause-accepted g c =
    steps_ok g.S.Fields.takes g.S.Fields.used g.met.S.Fields.advances g.met.S.Fields.refuses c.args.cache.now c.args.template.now _ _ _ _ c.cells-cells.ensures.flattened.sound
    (returns-in-Finish-clause-walked g c)
