use Rattle.std.proofs.Common.{arith, ℕ, zero, suc, [], ◌∷◌, ◌⊎◌, inl, inr, ◌≢◌, ◌==◌, ◌/◌, nat_le, nat_lt, not, replicate, Bool, List, ◌≤◌, ◌≡◌, ◌+◌, ◌*◌, take, drop, refl, ap, ◌∙◌, sym, true, false, Some}
use Rattle.bufr_bits.specs.Prelude.{bits_of, number_of, octets_of}
use Rattle.std.specs.Prelude.{is_some}
use Rattle.std.specs.List.{list_all}
use Rattle.std.proofs.lemmas.Bool.{ne_eqb, le-ltb, lt-ltb, leb-true, leb-false}
use Rattle.bufr_walk.specs.Prelude.{FieldSpec, Content, Role, answer_by_role, answer_of, answer_first, content_in, coding_of, contents_across, if_equal, increments, is_reference, Kind}
use Rattle.bufr_walk.proofs.PlainLemmas.{bits_length, is_reference_role}
use Rattle.bufr_walk.proofs.PackedLemmas.{copied, copies_equal, reference_none, text_valid, number_valid, is_there, is_none, factor_across}
use Rattle.bufr_walk.proofs.PackedReading.{ends_first, ends_after, seen_here, invalid_here, unequal_here, size_same}
use Rattle.bufr_tables.specs.Prelude.{is_character, only_if}
use Rattle.bufr_tables.specs.declared.table_b.Kind.TheVariants as kind
use Rattle.bufr_walk.specs.declared.spec.Role.TheVariants as role
use Rattle.bufr_walk.specs.declared.spec.Taken.TheVariants as taken
use Rattle.bufr_walk.proofs.compressed.valid_item_at.Goals as goal
use Rattle.bufr_walk.proofs.compressed.valid_item_at.Goals.{in-Character, in-Coded, then-is_text, else-is_text, then-k-eq0, else-k-eq0+else-reference+else-not-valid+in-Factor+else-not-equal, else-k-eq0+else-reference+else-not-valid+in-Element}

nonzero : (k : ℕ) → k ≢ 0 → (k == 0) ≡ false
nonzero k h = ne_eqb k 0 h

-- Without increments, the answer comes from the base.
first_base : (a : FieldSpec) (n : ℕ) (base : List Bool) → 1 ≤ n → answer_of a (content_in a base) ≡ answer_first a (replicate n (content_in a base))
first_base a zero base some = absurd (omega (arith, some))
first_base a (suc n) base some = refl

number_kind : (k a : Kind) → k ≡ a → (k ≡ kind.Coded) ⊎ (k ≡ kind.Numeric) → is_character a ≡ false
number_kind k a is (inl e) = ap is_character (sym is ∙ e)
number_kind k a is (inr e) = ap is_character (sym is ∙ e)

at_most : (a b : ℕ) → nat_le a b ≡ not (nat_lt b a)
at_most a b = by (nat_le a b) refl
  where
    by : (t : Bool) → nat_le a b ≡ t → t ≡ not (nat_lt b a)
    by true e = sym (ap not (le-ltb b a (leb-true a b e)))
    by false e = sym (ap not (lt-ltb b a (leb-false a b e)))

plain_equal : (r a : Role) (cs : List Content) → r ≡ a → (r ≡ role.Element) ⊎ (r ≡ role.Inserted) → if_equal a cs ≡ Some cs
plain_equal r a cs is (inl e) = ap (λ x. if_equal x cs) (sym is ∙ e)
plain_equal r a cs is (inr e) = ap (λ x. if_equal x cs) (sym is ∙ e)

first_plain : (a : FieldSpec) (cs : List Content) (r : Role) → r ≡ a.role → (r ≡ role.Element) ⊎ (r ≡ role.Inserted) → taken.Plain ≡ answer_first a cs
first_plain a [] r is e = refl
first_plain a (c ∷ cs) r is (inl e) = ap (λ x. answer_by_role x c) (sym e ∙ is)
first_plain a (c ∷ cs) r is (inr e) = ap (λ x. answer_by_role x c) (sym e ∙ is)

pub returns-then-left-width-clause-seen : goal.returns-then-left-width-clause-seen
returns-then-left-width-clause-seen c =
    let all = bits_length (octets_of c.args.bits.now) in
    let wide : c.from-width.result ≡ c.args.spec.now.width = c.from-width.ensures ∙ c.width.ensures.value in
    ends_first (bits_of (octets_of c.args.bits.now)) c.args.at c.args.subsets c.args.spec.now _ c.fxy.ensures (omega (arith, all, c.requires.within))
    (omega (arith, all, wide, c.len_bits.ensures, c.if-left-width.true, c.requires.within))

pub returns-then-left-size-clause-seen : goal.returns-then-left-size-clause-seen
returns-then-left-size-clause-seen c =
    let bits = bits_of (octets_of c.args.bits.now) in
    let all = bits_length (octets_of c.args.bits.now) in
    let wide : c.from-width.result ≡ c.args.spec.now.width = c.from-width.ensures ∙ c.width.ensures.value in
    let size = c.from-width.result + 6 + c.from.result * c.from-2.result in
    ends_after bits c.args.at c.args.subsets c.args.spec.now c.number_at-k.result size _ c.fxy-then-left-size.ensures
    (omega (arith, all, wide, c.len_bits.ensures, c.if-left-width.false, c.requires.within)) (omega (arith, all, c.len_bits.ensures, c.if-left-size.true, c.requires.within))
    (c.number_at-k.ensures.value ∙ ap (λ w. number_of (take 6 (drop (c.args.at + w) bits))) wide)
    (size_same _ _ _ _ _ _ wide c.from.ensures (c.from-2.ensures ∙ c.increment_bits_of.ensures.value))

pub returns-clause-seen : goal.returns-clause-seen
returns-clause-seen c =
    let bits = bits_of (octets_of c.args.bits.now) in
    let all = bits_length (octets_of c.args.bits.now) in
    let wide : c.from-width.result ≡ c.args.spec.now.width = c.from-width.ensures ∙ c.width.ensures.value in
    let based : is_character c.args.spec.now.kind ≡ false → c.if-is_text.result ≡ number_of (take c.args.spec.now.width (drop c.args.at bits)) =
    λ number. elim c.if-is_text.branch [
      | then-is_text w ↦ let no : false ≡ true = sym number ∙ sym c.is_text.ensures ∙ w.if-is_text.true in absurd cc
      | else-is_text w ↦ w.result-is ∙ w.number_at-else-is_text.ensures.value ∙ ap (λ x. number_of (take x (drop c.args.at bits))) w.width-else-is_text.ensures.value
    ] in
    let base = take c.args.spec.now.width (drop c.args.at bits) in
    let suffix = drop (c.args.at + (c.args.spec.now.width + 6)) bits in
    let seen = λ (cs : List Content). seen_here bits c.args.at c.args.subsets c.args.spec.now
    (record { answer = c.if-k-eq0.answer; step = c.number_at-k.result; base = c.if-is_text.result; end = c.args.at + (c.from-width.result + 6 + c.from.result * c.from-2.result) })
    (c.from-width.result + 6 + c.from.result * c.from-2.result) cs c.width.ensures.some refl
    (omega (arith, all, c.len_bits.ensures, c.if-left-size.false, c.requires.within))
    (c.number_at-k.ensures.value ∙ ap (λ w. number_of (take 6 (drop (c.args.at + w) bits))) wide)
    (size_same _ _ _ _ _ _ wide c.from.ensures (c.from-2.ensures ∙ c.increment_bits_of.ensures.value)) in
    elim c.if-k-eq0.branch [
      | then-k-eq0 w ↦ seen (replicate c.args.subsets (content_in c.args.spec.now base)) (copied (coding_of c.args.spec.now) c.number_at-k.result c.args.subsets base suffix w.if-k-eq0.true)
          (copies_equal c.args.spec.now.role (content_in c.args.spec.now base) c.args.subsets)
          (w.answer-is ∙ w.answer_at-answer.ensures.value ∙ first_base c.args.spec.now c.args.subsets base c.requires.subsets) based
      | else-k-eq0+else-reference+else-not-valid+in-Factor+else-not-equal w ↦
          let some = nonzero c.number_at-k.result w.if-k-eq0.false in
          let element : is_reference c.args.spec.now.role ≡ false = sym w.is_reference-reference.ensures ∙ w.if-reference.false in
          let valid : is_some (contents_across (coding_of c.args.spec.now) c.number_at-k.result c.args.subsets base suffix) ≡ w.match-kind.valid =
          elim w.match-kind.branch [
            | in-Character v ↦ text_valid c.args.spec.now c.number_at-k.result c.args.subsets base suffix some c.requires.subsets element (ap is_character (sym w.kind.ensures ∙ v.in-Character.is))
                ∙ sym (at_most c.number_at-k.result (c.args.spec.now.width / 8)) ∙ ap (λ x. nat_le c.number_at-k.result (x / 8)) (sym v.width-in-Character.ensures.value) ∙ sym v.valid-is
            | in-Coded v ↦ number_valid c.args.spec.now c.number_at-k.result c.args.subsets base suffix some element (number_kind w.kind.result c.args.spec.now.kind w.kind.ensures v.in-Coded.is)
                ∙ sym v.are_number_increments_valid-valid.ensures ∙ sym v.valid-is
          ] in
          let there = is_there (contents_across (coding_of c.args.spec.now) c.number_at-k.result c.args.subsets base suffix) (valid ∙ w.if-not-valid.false) in
          let factor = factor_across c.args.spec.now c.number_at-k.result c.args.subsets base suffix there.0 w.number_at.result w.number_at-first.result c.width.ensures.spec
          (sym w.role.ensures ∙ w.in-Factor.is) some c.requires.subsets there.1 (w.number_at.ensures.value ∙ ap (λ x. number_of (take x (drop c.args.at bits))) w.width-in-Factor.ensures.value)
          (w.number_at-first.ensures.value ∙ ap (λ x. number_of (take c.number_at-k.result (drop (c.args.at + (x + 6)) bits))) wide) in
          let equal = sym (w.are_equal-equal.ensures
          ∙ ap (λ x. list_all (λ i. number_of i == w.number_at-first.result) (increments c.args.subsets c.number_at-k.result (drop (c.args.at + (x + 6)) bits))) wide) in
          seen there.0 there.1 (factor.0 ∙ ap (λ b. only_if b there.0) (equal ∙ w.if-not-equal.false)) (w.answer-is ∙ factor.1) based
      | else-k-eq0+else-reference+else-not-valid+in-Element w ↦
          let some = nonzero c.number_at-k.result w.if-k-eq0.false in
          let element : is_reference c.args.spec.now.role ≡ false = sym w.is_reference-reference.ensures ∙ w.if-reference.false in
          let valid : is_some (contents_across (coding_of c.args.spec.now) c.number_at-k.result c.args.subsets base suffix) ≡ w.match-kind.valid =
          elim w.match-kind.branch [
            | in-Character v ↦ text_valid c.args.spec.now c.number_at-k.result c.args.subsets base suffix some c.requires.subsets element (ap is_character (sym w.kind.ensures ∙ v.in-Character.is))
                ∙ sym (at_most c.number_at-k.result (c.args.spec.now.width / 8)) ∙ ap (λ x. nat_le c.number_at-k.result (x / 8)) (sym v.width-in-Character.ensures.value) ∙ sym v.valid-is
            | in-Coded v ↦ number_valid c.args.spec.now c.number_at-k.result c.args.subsets base suffix some element (number_kind w.kind.result c.args.spec.now.kind w.kind.ensures v.in-Coded.is)
                ∙ sym v.are_number_increments_valid-valid.ensures ∙ sym v.valid-is
          ] in
          let there = is_there (contents_across (coding_of c.args.spec.now) c.number_at-k.result c.args.subsets base suffix) (valid ∙ w.if-not-valid.false) in
          seen there.0 there.1 (plain_equal w.role.result c.args.spec.now.role there.0 w.role.ensures w.in-Element.is)
          (w.answer-is ∙ first_plain c.args.spec.now there.0 w.role.result w.role.ensures w.in-Element.is) based
    ]

pub returns-then-reference-clause-seen : goal.returns-then-reference-clause-seen
returns-then-reference-clause-seen c =
    let bits = bits_of (octets_of c.args.bits.now) in
    let all = bits_length (octets_of c.args.bits.now) in
    let wide : c.from-width.result ≡ c.args.spec.now.width = c.from-width.ensures ∙ c.width.ensures.value in
    invalid_here bits c.args.at c.args.subsets c.args.spec.now c.number_at-k.result (c.from-width.result + 6 + c.from.result * c.from-2.result) _ c.fxy-then-reference.ensures
    (omega (arith, all, c.len_bits.ensures, c.if-left-size.false, c.requires.within))
    (c.number_at-k.ensures.value ∙ ap (λ w. number_of (take 6 (drop (c.args.at + w) bits))) wide)
    (size_same _ _ _ _ _ _ wide c.from.ensures (c.from-2.ensures ∙ c.increment_bits_of.ensures.value))
    (reference_none c.args.spec.now c.number_at-k.result c.args.subsets _ _ (nonzero c.number_at-k.result c.if-k-eq0.false) c.requires.subsets
    (is_reference_role c.args.spec.now.role (sym c.is_reference-reference.ensures ∙ c.if-reference.true)))

pub returns-then-not-valid-clause-seen : goal.returns-then-not-valid-clause-seen
returns-then-not-valid-clause-seen c =
    let bits = bits_of (octets_of c.args.bits.now) in
    let all = bits_length (octets_of c.args.bits.now) in
    let wide : c.from-width.result ≡ c.args.spec.now.width = c.from-width.ensures ∙ c.width.ensures.value in
    let base = take c.args.spec.now.width (drop c.args.at bits) in
    let suffix = drop (c.args.at + (c.args.spec.now.width + 6)) bits in
    let some = nonzero c.number_at-k.result c.if-k-eq0.false in
    let element : is_reference c.args.spec.now.role ≡ false = sym c.is_reference-reference.ensures ∙ c.if-reference.false in
    let valid : is_some (contents_across (coding_of c.args.spec.now) c.number_at-k.result c.args.subsets base suffix) ≡ c.match-kind.valid =
    elim c.match-kind.branch [
      | in-Character v ↦ text_valid c.args.spec.now c.number_at-k.result c.args.subsets base suffix some c.requires.subsets element (ap is_character (sym c.kind.ensures ∙ v.in-Character.is))
          ∙ sym (at_most c.number_at-k.result (c.args.spec.now.width / 8)) ∙ ap (λ x. nat_le c.number_at-k.result (x / 8)) (sym v.width-in-Character.ensures.value) ∙ sym v.valid-is
      | in-Coded v ↦ number_valid c.args.spec.now c.number_at-k.result c.args.subsets base suffix some element (number_kind c.kind.result c.args.spec.now.kind c.kind.ensures v.in-Coded.is)
          ∙ sym v.are_number_increments_valid-valid.ensures ∙ sym v.valid-is
    ] in
    invalid_here bits c.args.at c.args.subsets c.args.spec.now c.number_at-k.result (c.from-width.result + 6 + c.from.result * c.from-2.result) _ c.fxy-then-not-valid.ensures
    (omega (arith, all, c.len_bits.ensures, c.if-left-size.false, c.requires.within))
    (c.number_at-k.ensures.value ∙ ap (λ w. number_of (take 6 (drop (c.args.at + w) bits))) wide)
    (size_same _ _ _ _ _ _ wide c.from.ensures (c.from-2.ensures ∙ c.increment_bits_of.ensures.value))
    (is_none (contents_across (coding_of c.args.spec.now) c.number_at-k.result c.args.subsets base suffix) (valid ∙ c.if-not-valid.true))

pub returns-then-not-equal-clause-seen : goal.returns-then-not-equal-clause-seen
returns-then-not-equal-clause-seen c =
    let bits = bits_of (octets_of c.args.bits.now) in
    let all = bits_length (octets_of c.args.bits.now) in
    let wide : c.from-width.result ≡ c.args.spec.now.width = c.from-width.ensures ∙ c.width.ensures.value in
    let base = take c.args.spec.now.width (drop c.args.at bits) in
    let suffix = drop (c.args.at + (c.args.spec.now.width + 6)) bits in
    let some = nonzero c.number_at-k.result c.if-k-eq0.false in
    let element : is_reference c.args.spec.now.role ≡ false = sym c.is_reference-reference.ensures ∙ c.if-reference.false in
    let valid : is_some (contents_across (coding_of c.args.spec.now) c.number_at-k.result c.args.subsets base suffix) ≡ c.match-kind.valid =
    elim c.match-kind.branch [
      | in-Character v ↦ text_valid c.args.spec.now c.number_at-k.result c.args.subsets base suffix some c.requires.subsets element (ap is_character (sym c.kind.ensures ∙ v.in-Character.is))
          ∙ sym (at_most c.number_at-k.result (c.args.spec.now.width / 8)) ∙ ap (λ x. nat_le c.number_at-k.result (x / 8)) (sym v.width-in-Character.ensures.value) ∙ sym v.valid-is
      | in-Coded v ↦ number_valid c.args.spec.now c.number_at-k.result c.args.subsets base suffix some element (number_kind c.kind.result c.args.spec.now.kind c.kind.ensures v.in-Coded.is)
          ∙ sym v.are_number_increments_valid-valid.ensures ∙ sym v.valid-is
    ] in
    let there = is_there (contents_across (coding_of c.args.spec.now) c.number_at-k.result c.args.subsets base suffix) (valid ∙ c.if-not-valid.false) in
    let factor = factor_across c.args.spec.now c.number_at-k.result c.args.subsets base suffix there.0 (number_of base) c.number_at-first.result c.width.ensures.spec
    (sym c.role.ensures ∙ c.in-Factor.is) some c.requires.subsets there.1 (refl)
    (c.number_at-first.ensures.value ∙ ap (λ x. number_of (take c.number_at-k.result (drop (c.args.at + (x + 6)) bits))) wide) in
    let equal = sym (c.are_equal-equal.ensures
    ∙ ap (λ x. list_all (λ i. number_of i == c.number_at-first.result) (increments c.args.subsets c.number_at-k.result (drop (c.args.at + (x + 6)) bits))) wide) in
    unequal_here bits c.args.at c.args.subsets c.args.spec.now c.number_at-k.result (c.from-width.result + 6 + c.from.result * c.from-2.result) _ there.0 c.fxy-then-not-equal.ensures
    (omega (arith, all, c.len_bits.ensures, c.if-left-size.false, c.requires.within))
    (c.number_at-k.ensures.value ∙ ap (λ w. number_of (take 6 (drop (c.args.at + w) bits))) wide)
    (size_same _ _ _ _ _ _ wide c.from.ensures (c.from-2.ensures ∙ c.increment_bits_of.ensures.value)) there.1
    (factor.0 ∙ ap (λ b. only_if b there.0) (equal ∙ c.if-not-equal.true))
