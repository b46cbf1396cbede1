use Rattle.std.proofs.Common.{◌≡◌, ◌≤◌, ◌<◌, ◌+◌, ◌*◌, ◌∙◌, Err, length, ap, sym, subst, refl, arith}
use Rattle.std.proofs.lemmas.Result.{err_from_is_err_and}
use Rattle.bufr_walk.specs.Prelude.{max_values}
use Rattle.bufr_fill.specs.Prelude.{PackedOutModel, subsets_of, cells_at, at_line, too_many_values, IfDraftFault, pack_across, item_row}
use Rattle.bufr_fill.proofs.EntryLemmas.{ends_few, count_cells}
use Rattle.bufr_fill.proofs.RowLemmas.{many_fault, put_fault}
use Rattle.bufr_fill.proofs.packed_out.PackedOutFields.take.Goals as goal
use Rattle.bufr_fill.proofs.packed_out.PackedOutFields.take.Goals.{then-row-eq0+in_ok-transpose, else-row-eq0}

pub pack_row-requires-clause-room : goal.pack_row-requires-clause-room
pack_row-requires-clause-room c =
    let few = ends_few 0 c.self.inside.entries.now in
    elim c.if-row-eq0.branch [
      | then-row-eq0+in_ok-transpose w ↦
          omega (arith, ap (λ s. length s.out.bits) w.self-inside-is, c.self.invariant.room, c.self.invariant.values, c.self.invariant.few, few, ap length c.self.invariant.ends_are)
      | else-row-eq0 w ↦
          omega (arith, ap (λ s. length s.out.bits) w.self-inside-is, c.self.invariant.room, c.self.invariant.values, c.self.invariant.few, few, ap length c.self.invariant.ends_are)
    ]

pub pack_row-requires-clause-many : goal.pack_row-requires-clause-many
pack_row-requires-clause-many c =
    let d = c.self.inside in
    omega (arith, ap length c.deref.ensures.value, c.in_ok-range.ensures.2, count_cells d.index d.entries.now d.ends.now c.self.invariant.ends_are)

pub returns-then-row-gt-MAX_VALUES-clause-step : goal.returns-then-row-gt-MAX_VALUES-clause-step
returns-then-row-gt-MAX_VALUES-clause-step c =
    let d = c.self.inside in
    let many : length d.ends.now ≡ length (cells_at d.index (subsets_of d.entries.now)) = sym (count_cells d.index d.entries.now d.ends.now c.self.invariant.ends_are) in (
      subst (λ (s : PackedOutModel). pack_across c.args.spec.now (item_row s.index s.subsets) ≡ Err (at_line c.first_line.result (too_many_values c.fxy.result))) c.self.view_is
          (many_fault c.args.spec.now d.index (subsets_of d.entries.now) (subst (λ n. max_values < (d.index + 1) * n) many c.if-row-gt-MAX_VALUES.true)
          ∙ ap (λ n. Err (at_line n (too_many_values c.args.spec.now.fxy))) (sym c.first_line.ensures)
          ∙ ap (λ f. Err (at_line c.first_line.result (too_many_values f))) (sym c.fxy.ensures)),
      refl,
    )

pub returns-in_err-range-clause-step : goal.returns-in_err-range-clause-step
returns-in_err-range-clause-step c =
    let d = c.self.inside in
    let passed = err_from_is_err_and c.from_residual-in_err-range.result c.from_residual-in_err-range.ensures.1 in
    let many : length d.ends.now ≡ length (cells_at d.index (subsets_of d.entries.now)) = sym (count_cells d.index d.entries.now d.ends.now c.self.invariant.ends_are) in
    let few = subst (λ n. (d.index + 1) * n ≤ max_values) many c.if-row-gt-MAX_VALUES.false in
    let why = c.in_err-range.field-0.0 in
    rw (passed.1 ∙ ap Err passed.2) (
      subst (λ (s : PackedOutModel). IfDraftFault why (λ f. pack_across c.args.spec.now (item_row s.index s.subsets) ≡ Err f)) c.self.view_is
          (put_fault c.args.spec.now d.index (subsets_of d.entries.now) few why c.in_err-range.ensures),
      (elim c.if-row-eq0.branch [ then-row-eq0+in_ok-transpose w ↦ rw w.self-inside-is c.self.view_is | else-row-eq0 w ↦ rw w.self-inside-is c.self.view_is ]),
    )
