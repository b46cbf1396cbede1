use Rattle.std.proofs.Common.{◌≡◌, ℕ, ◌≤◌, ◌<◌, ◌∙◌, List, [], Result, Err, Some, ap, arith, true, false, nat_lt, refl, sym, w16, w64, ℤ, if◌then◌else◌, ◌==◌}
use Rattle.std.specs.Int.{w128}
use Rattle.std.proofs.Math.Facts.{to_z-of_z}
use Rattle.std.proofs.lemmas.Bool.Decides.{nat_tests}
use Rattle.bufr_tables.specs.Prelude.{row_of_entry, Row, entry_of}
use Rattle.bufr_walk.specs.Prelude.{TurnRefusal, FieldSpec, OperatorModel, begin, element_spec, factor_spec, local_width_spec, new_reference_spec, spec_by_kind, known_of, operator_model, if_valid_width, unsigned_field, number_field}
use Rattle.bufr_walk.specs.declared.spec.TurnRefusal.TheVariants as refusal
use Rattle.bufr_tables.specs.declared.table_b.Kind.TheVariants as kind
use Rattle.bufr_walk.specs.declared.spec.Role.TheVariants as role
use Rattle.bufr_walk.proofs.operators.OperatorState.spec.Goals as goal
use Rattle.bufr_walk.proofs.SpecLemmas.{listed_by, factor_by}

none : (n : ℕ) → n ≤ 0 → nat_lt 0 n ≡ false
none n few = let e : n ≡ 0 = omega (arith, few) in rw e refl

some : (n : ℕ) → 0 < n → nat_lt 0 n ≡ true
some n h = grind (arith, nat_tests)

same : (a b : ℕ) → a ≡ b → (a == b) ≡ true
same a b h = grind (arith, nat_tests)

listed : (table : List Row) (s : OperatorModel) (fxy : ℕ) (row : Row) (r : Result FieldSpec TurnRefusal) → Some row ≡ entry_of table fxy → s.local_width ≤ 0 → s.new_reference_width ≤ 0
    → r ≡ spec_by_kind row.kind s row → r ≡ element_spec table s fxy
listed table s fxy row r found local defining is =
    is
    ∙ sym (ap (λ b. if b then local_width_spec (entry_of table fxy) s fxy else listed_by (entry_of table fxy) s fxy) (none s.local_width local)
    ∙ ap (λ o. listed_by o s fxy) (sym found)
    ∙ ap (λ b. if b then new_reference_spec row.kind s fxy else spec_by_kind row.kind s row) (none s.new_reference_width defining))

-- the spec of an element if 2 06 Y gives the width of its row
given : (table : List Row) (s : OperatorModel) (fxy : ℕ) (row : Row) (r : Result FieldSpec TurnRefusal) → Some row ≡ entry_of table fxy → 0 < s.local_width → row.width ≡ s.local_width
    → r ≡ spec_by_kind row.kind begin row → r ≡ element_spec table s fxy
given table s fxy row r found local width is =
    is
    ∙ sym (ap (λ b. if b then local_width_spec (entry_of table fxy) s fxy else listed_by (entry_of table fxy) s fxy) (some s.local_width local)
    ∙ ap (λ o. local_width_spec o s fxy) (sym found)
    ∙ ap (λ b. if b then spec_by_kind row.kind begin row else if_valid_width (unsigned_field fxy s.local_width)) (same row.width s.local_width width))

-- the spec of a factor, from its row
counted : (table : List Row) (s : OperatorModel) (fxy : ℕ) (row : Row) (r : Result FieldSpec TurnRefusal) → Some row ≡ entry_of table fxy → s.new_reference_width ≤ 0
    → r ≡ factor_by (Some row) fxy → r ≡ factor_spec table s fxy
counted table s fxy row r found defining is =
    is
    ∙ sym (ap (λ b. if b then (let e : Result FieldSpec TurnRefusal = Err (refusal.Defining fxy) in e) else factor_by (entry_of table fxy) fxy) (none s.new_reference_width defining)
    ∙ ap (λ o. factor_by o fxy) (sym found))

-- the same spec, from its parts
counted_number : (row : Row) (fxy w : ℕ) (scale reference : ℤ) → w ≡ row.width → scale ≡ row.scale → reference ≡ row.reference
    → if_valid_width (number_field fxy role.Factor (record { kind = kind.Numeric; width = w; scale = scale; reference = reference; may_be_missing = false; listed = true })) ≡ factor_by (Some row) fxy
counted_number row fxy w scale reference width scaled is = rw (width, scaled, is) refl

pub returns-then-width-from : goal.returns-then-width-from
returns-then-width-from c =
    let known = known_of c.self.inside.new_references in
    rw (← c.self.view_is, c.in-Element.is) (given c.args.table.now (operator_model c.self.inside.operands known) c.in-Element.fxy (row_of_entry c.in-Some.entry) c.spec_by_kind.result
    c.in-Some.ensures.value c.if-operands-gt0.true (sym c.width.ensures ∙ c.if-width-from.true ∙ c.from.ensures)
    (c.spec_by_kind.ensures [] (to_z-of_z {w = w64} {z = c.reference.result} (record { sfits = c.reference.type_inv }) ∙ c.reference.ensures)))

pub returns-in-Some-3 : goal.returns-in-Some-3
returns-in-Some-3 c =
    let known = known_of c.self.inside.new_references in
    rw (← c.self.view_is, c.in-Element.is) (listed c.args.table.now (operator_model c.self.inside.operands known) c.in-Element.fxy (row_of_entry c.in-Some.entry) c.spec_by_kind-in-Some-3.result
    c.in-Some.ensures.value c.if-operands-gt0.false c.if-operands-gt0-2.false
    (c.spec_by_kind-in-Some-3.ensures known (to_z-of_z {w = w64} {z = c.reference_of-reference.result} (record { sfits = c.reference_of-reference.type_inv }) ∙ c.reference_of-reference.ensures)))

pub returns-in-Some-get : goal.returns-in-Some-get
returns-in-Some-get c =
    let known = known_of c.self.inside.new_references in
    rw (← c.self.view_is, c.in-Factor-2.is) (counted c.args.table.now (operator_model c.self.inside.operands known) c.in-Factor-2.fxy (row_of_entry c.in-Some-get.entry) c.number.result
    c.in-Some-get.ensures.value c.if-operands-gt0-4.false
    (c.number.ensures ∙ counted_number (row_of_entry c.in-Some-get.entry) c.in-Factor-2.fxy _ _ _ c.width-in-Some-get.ensures
    (to_z-of_z {w = w16} {z = c.scale.result} (record { sfits = c.scale.type_inv }) ∙ c.scale.ensures)
    (to_z-of_z {w = w128} {z = c.from-in-Some-get.result} (record { sfits = c.from-in-Some-get.type_inv }) ∙ c.from-in-Some-get.ensures
    ∙ to_z-of_z {w = w64} {z = c.reference-in-Some-get.result} (record { sfits = c.reference-in-Some-get.type_inv }) ∙ c.reference-in-Some-get.ensures)))
