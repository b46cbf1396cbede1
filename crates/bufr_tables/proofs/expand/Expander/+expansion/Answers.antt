use Rattle.std.proofs.Common.{rules, ◌≢◌, ℕ, List, refl, sym, ◌∙◌, subst, arith}
use Rattle.std.proofs.lemmas.List.{take_rest}
use Rattle.std.proofs.lemmas.Result.{err_from_is_err_and}
use Rattle.bufr_tables.specs.Prelude.{inner_of, tables_in, places_so_far, builder_model}
use Rattle.bufr_tables.proofs.ExpansionLemmas.{Came, came_part, came_fault, came_end, gives_same, puts_same, part-element, part-group, part-operator, part-sequence, group-depth, group-places, group-list-fault, group-list-empty, group-closed, group-fixed-fault, group-delayed, sequence-depth, sequence-fault, sequence-ok}
use Rattle.bufr_tables.proofs.expand.Expander.+expansion.Goals as goal

pub list-loop-fxy-preserved : goal.list-loop-fxy-preserved
list-loop-fxy-preserved t c =
    let came = subst (λ (l : List ℕ). Came (tables_in c.args.self.now) (inner_of (tables_in c.args.self.now) c.args.self.now.room) c.args.list.now (builder_model c.args.growing.now)
    c.loop-fxy.width_given l (builder_model c.loop-fxy.growing)) c.in-Some.ensures.cases.0 c.loop-fxy.invariant in
    rw (c.gives_width-width_given.ensures, take_rest c.in-Some.after.now c.in_ok-taken.taken) (came_part _ _ _ _ _ _ _ _ _ _ came c.in_ok-taken.ensures.gives)

pub list-returns : goal.list-returns
list-returns t c = came_end _ _ _ _ _ _ _ c.in_default.ensures.cases c.loop-fxy.invariant

pub list-returns-in_err-taken : goal.list-returns-in_err-taken
list-returns-in_err-taken t c =
    let came = subst (λ (l : List ℕ). Came (tables_in c.args.self.now) (inner_of (tables_in c.args.self.now) c.args.self.now.room) c.args.list.now (builder_model c.args.growing.now)
    c.loop-fxy.width_given l (builder_model c.loop-fxy.growing)) c.in-Some.ensures.cases.0 c.loop-fxy.invariant in
    let p = err_from_is_err_and c.from_residual.result c.from_residual.ensures.1 in
    rw (p.1, p.2) (came_fault _ _ _ _ _ _ _ _ _ came c.in_err-taken.ensures.gives)

pub part-returns-then-not-knows-clause-gives : goal.part-returns-then-not-knows-clause-gives
part-returns-then-not-knows-clause-gives t c = λ _. sym (part-element _ _ _ _ _ _ _ c.f.ensures.value c.in-0.is) ∙ (search rules)

pub part-returns-in_err-push_element-in-0-clause-gives : goal.part-returns-in_err-push_element-in-0-clause-gives
part-returns-in_err-push_element-in-0-clause-gives t c = gives_same _ _ _ _ _ (part-element _ _ _ _ _ _ _ c.f.ensures.value c.in-0.is) (search rules)

pub part-returns-in_ok-push_element-in-0-clause-gives : goal.part-returns-in_ok-push_element-in-0-clause-gives
part-returns-in_ok-push_element-in-0-clause-gives t c = puts_same _ _ _ _ _ (part-element _ _ _ _ _ _ _ c.f.ensures.value c.in-0.is) (search rules)

pub part-returns-in-1-clause-gives : goal.part-returns-in-1-clause-gives
part-returns-in-1-clause-gives t c = gives_same _ _ _ _ _ (part-group _ _ _ _ _ _ _ c.f.ensures.value c.in-1.is) c.group.ensures.gives

pub part-returns-then-not-is_legal_operator-clause-gives : goal.part-returns-then-not-is_legal_operator-clause-gives
part-returns-then-not-is_legal_operator-clause-gives t c = λ _. sym (part-operator _ _ _ _ _ _ _ c.f.ensures.value c.in-2.is) ∙ (search rules)

pub part-returns-then-not-begins_with_element-clause-gives : goal.part-returns-then-not-begins_with_element-clause-gives
part-returns-then-not-begins_with_element-clause-gives t c = λ _. sym (part-operator _ _ _ _ _ _ _ c.f.ensures.value c.in-2.is) ∙ (search rules)

pub part-returns-in_err-push_operator-in-2-clause-gives : goal.part-returns-in_err-push_operator-in-2-clause-gives
part-returns-in_err-push_operator-in-2-clause-gives t c = gives_same _ _ _ _ _ (part-operator _ _ _ _ _ _ _ c.f.ensures.value c.in-2.is) (search rules)

pub part-returns-in_ok-push_operator-in-2-clause-gives : goal.part-returns-in_ok-push_operator-in-2-clause-gives
part-returns-in_ok-push_operator-in-2-clause-gives t c = puts_same _ _ _ _ _ (part-operator _ _ _ _ _ _ _ c.f.ensures.value c.in-2.is) (search rules)

pub part-returns-in_default-members-clause-gives : goal.part-returns-in_default-members-clause-gives
part-returns-in_default-members-clause-gives t c =
    let other : (c.f.result ≢ 0) × (c.f.result ≢ 1) × (c.f.result ≢ 2) = (omega arith, omega arith, omega arith) in
    λ _. sym (part-sequence _ _ _ _ _ _ _ c.f.ensures.value other.0 other.1 other.2) ∙ (search rules)

pub part-returns-then-self-eq0-clause-gives : goal.part-returns-then-self-eq0-clause-gives
part-returns-then-self-eq0-clause-gives t c =
    let other : (c.f.result ≢ 0) × (c.f.result ≢ 1) × (c.f.result ≢ 2) = (omega arith, omega arith, omega arith) in
    λ _. sym (part-sequence _ _ _ _ _ _ _ c.f.ensures.value other.0 other.1 other.2)
    ∙ sequence-depth (tables_in c.args.self.now) c.args.self.now.room (places_so_far (builder_model c.args.growing.now)) c.args.fxy c.in-Some.members.now c.if-self-eq0.true (sym c.in-Some.ensures)

pub part-returns-in_err-list-in_default-clause-gives : goal.part-returns-in_err-list-in_default-clause-gives
part-returns-in_err-list-in_default-clause-gives t c =
    let p = err_from_is_err_and c.from_residual-in_err-list-in_default.result c.from_residual-in_err-list-in_default.ensures.1 in
    let other : (c.f.result ≢ 0) × (c.f.result ≢ 1) × (c.f.result ≢ 2) = (omega arith, omega arith, omega arith) in
    gives_same _ _ _ _ _ (part-sequence _ _ _ _ _ _ _ c.f.ensures.value other.0 other.1 other.2)
    (rw (p.1, p.2) (sequence-fault (tables_in c.args.self.now) c.args.self.now.room (places_so_far (builder_model c.args.growing.now)) c.args.fxy c.in-Some.members.now _ (omega arith)
    (sym c.in-Some.ensures) c.in_err-list-in_default.ensures))

pub part-returns-in_ok-list-in_default-clause-gives : goal.part-returns-in_ok-list-in_default-clause-gives
part-returns-in_ok-list-in_default-clause-gives t c =
    let other : (c.f.result ≢ 0) × (c.f.result ≢ 1) × (c.f.result ≢ 2) = (omega arith, omega arith, omega arith) in
    puts_same _ _ _ _ _ (part-sequence _ _ _ _ _ _ _ c.f.ensures.value other.0 other.1 other.2)
    (sequence-ok (tables_in c.args.self.now) c.args.self.now.room c.args.fxy c.in-Some.members.now (builder_model c.args.growing.now) (builder_model c.list.new.growing) (omega arith)
    (sym c.in-Some.ensures) c.in_ok-list-in_default.ensures)

pub group_of-returns-then-self-eq0-clause-gives : goal.group_of-returns-then-self-eq0-clause-gives
group_of-returns-then-self-eq0-clause-gives t c = λ other.
    group-depth (tables_in c.args.self.now) c.args.self.now.room c.args.passes.now (places_so_far (builder_model c.args.growing.now)) c.args.fxy c.args.after.now c.if-self-eq0.true (omega arith)

pub group_of-returns-in_err-place-clause-gives : goal.group_of-returns-in_err-place-clause-gives
group_of-returns-in_err-place-clause-gives t c =
    let p = err_from_is_err_and c.from_residual.result c.from_residual.ensures.1 in
    rw (p.1, p.2) (group-places (tables_in c.args.self.now) c.args.self.now.room c.args.passes.now (places_so_far (builder_model c.args.growing.now)) c.args.fxy c.args.after.now _ (omega arith)
    (omega arith) c.in_err-place.ensures)

pub group_of-returns-in_err-list-clause-gives : goal.group_of-returns-in_err-list-clause-gives
group_of-returns-in_err-list-clause-gives t c =
    let p = err_from_is_err_and c.from_residual-in_err-list.result c.from_residual-in_err-list.ensures.1 in
    rw (p.1, p.2) (group-list-fault (tables_in c.args.self.now) c.args.self.now.room c.args.passes.now c.args.fxy c.in_ok-place.place c.args.after.now (builder_model c.args.growing.now)
    (builder_model c.open.new.self) _ _ _ _ (omega arith) (omega arith) c.in_ok-place.ensures refl c.from-count.ensures c.x.ensures.value c.in_err-list.ensures)

pub group_of-returns-then-not-growing-clause-gives : goal.group_of-returns-then-not-growing-clause-gives
group_of-returns-then-not-growing-clause-gives t c = λ other.
    group-list-empty (tables_in c.args.self.now) c.args.self.now.room c.args.passes.now c.args.fxy c.in_ok-place.place c.args.after.now (builder_model c.args.growing.now)
    (builder_model c.open.new.self) (builder_model c.list.new.growing) _ _ _ (omega arith) (omega arith) c.in_ok-place.ensures refl c.from-count.ensures c.x.ensures.value c.in_ok-list.ensures
    c.if-not-growing.true

pub group_of-returns-clause-gives : goal.group_of-returns-clause-gives
group_of-returns-clause-gives t c =
    group-closed (tables_in c.args.self.now) c.args.self.now.room c.args.passes.now c.args.fxy c.in_ok-place.place c.args.after.now (builder_model c.args.growing.now) (builder_model c.open.new.self)
    (builder_model c.list.new.growing) (builder_model c.close.new.self) _ _ _ c.close.result (omega arith) (omega arith) c.in_ok-place.ensures refl c.from-count.ensures c.x.ensures.value
    c.in_ok-list.ensures c.if-not-growing.false c.close.ensures

pub group-returns-in_err-group_of-clause-gives : goal.group-returns-in_err-group_of-clause-gives
group-returns-in_err-group_of-clause-gives t c =
    let p = err_from_is_err_and c.from_residual.result c.from_residual.ensures.1 in
    rw (p.1, p.2) (λ other. group-fixed-fault (tables_in c.args.self.now) (inner_of (tables_in c.args.self.now) c.args.self.now.room) (places_so_far (builder_model c.args.growing.now)) c.args.fxy _
    c.args.after.now _ (omega (arith, c.x.ensures.value, c.if-x-eq0.false)) (omega (arith, c.y.ensures, c.if-y-gt0.true)) (c.in_err-group_of.ensures.gives other))

pub group-returns-in_err-group_of-2-clause-gives : goal.group-returns-in_err-group_of-2-clause-gives
group-returns-in_err-group_of-2-clause-gives t c =
    gives_same _ _ _ _ _ (group-delayed (tables_in c.args.self.now) (inner_of (tables_in c.args.self.now) c.args.self.now.room) (places_so_far (builder_model c.args.growing.now)) c.args.fxy _ _
    c.args.after.now c.x.ensures.value (omega (arith, c.if-x-eq0.false)) c.y.ensures c.if-y-gt0.false) (search rules)
