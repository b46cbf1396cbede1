use Rattle.std.proofs.Common.{◌≡◌, ℕ, ◌+◌, ◌*◌, ◌^◌, ◌<◌, ◌≤◌, List, false, true, length, arith, sym, ◌∙◌, ap}
use Rattle.bufr_bits.specs.Prelude.{bits_of, octets_of}
use Rattle.bufr_tables.specs.Prelude.{is_character}
use Rattle.bufr_walk.specs.Prelude.{IndexedItem, start_of, fits_at}
use Rattle.std.proofs.Math.Nat.{pow-le-pow_right}
use Rattle.bufr_walk.proofs.PackedLemmas.{number_within, kept_number, step_small, increment_at, all_ones}
use Rattle.bufr_walk.proofs.PlainLemmas.{bits_length}
use Rattle.bufr_walk.proofs.PackedNumbers.{base_missing, base_number, kept_last, kept_whole, kept_never, kept_some}
use Rattle.bufr_walk.proofs.compressed.number_of.Goals as goal
use Rattle.bufr_walk.proofs.compressed.number_of.Goals.{then-increment-k-via-then-increment-k, then-increment-k-via-else-increment-k+then-sum-width, else-may_be_missing-via-then-may_be_missing+else-item-width, else-may_be_missing-via-else-may_be_missing}

-- The increment is inside the data, at the bit that the code computes with 64-bit numbers.
reach : (octets : List ℕ) (n : ℕ) (e : IndexedItem) (at j wide subset step k : ℕ) → fits_at (bits_of octets) n e ≡ true → 1 ≤ e.step → j < n → is_character e.spec.kind ≡ false → at ≡ start_of e
    → wide ≡ e.spec.width
    → subset ≡ j → step ≡ k → k ≡ e.step
    → at + (wide + 6) + subset * step + k ≤ 8 * length octets
reach octets n e at j wide subset step k h some below c ea ew es e8 ek =
    let room = number_within (bits_of octets) n e j h some below c in
    let one : (j + 1) * e.step ≡ j * e.step + e.step = omega arith in
    let there : subset * step ≡ j * e.step = ap (λ x. x * step) es ∙ ap (λ x. j * x) (e8 ∙ ek) in
    omega (arith, room, one, there, ea, ew, ek, bits_length octets)

pub returns-then-item-width-clause-value : goal.returns-then-item-width-clause-value
returns-then-item-width-clause-value c =
    base_missing (octets_of c.args.pack.now.bits) c.args.pack.now.subsets c.args.item.now c.args.subset c.requires.fits c.if-item-eq0.true c.requires.subset c.requires.number c.requires.value
    (sym c.may_be_missing-may_be_missing.ensures ∙ c.if-may_be_missing.true)
    (c.if-item-width.true ∙ all_ones _ _ c.width-width.ensures.value (c.width-width.ensures.narrow c.requires.number))

pub returns-then-item-eq0-clause-value : goal.returns-then-item-eq0-clause-value
returns-then-item-eq0-clause-value c =
    base_number (octets_of c.args.pack.now.bits) c.args.pack.now.subsets c.args.item.now c.args.subset c.requires.fits c.if-item-eq0.true c.requires.subset c.requires.number c.requires.value
    (λ m full. elim c.else-may_be_missing.branch [
      | else-may_be_missing-via-then-may_be_missing+else-item-width w ↦ w.if-item-width.false (full ∙ sym (all_ones _ _ c.width-width.ensures.value (c.width-width.ensures.narrow c.requires.number)))
      | else-may_be_missing-via-else-may_be_missing w ↦ let no : false ≡ true = sym w.if-may_be_missing.false ∙ c.may_be_missing-may_be_missing.ensures ∙ m in absurd cc
    ])

pub returns-then-item-eq0-clause-below : goal.returns-then-item-eq0-clause-below
returns-then-item-eq0-clause-below c = (kept_number (octets_of c.args.pack.now.bits) c.args.pack.now.subsets c.args.item.now c.requires.fits c.requires.number).1

pub overflow_add-increment_at-2 : goal.overflow_add-increment_at-2
overflow_add-increment_at-2 c =
    let room = number_within (bits_of (octets_of c.args.pack.now.bits)) c.args.pack.now.subsets c.args.item.now c.args.subset c.requires.fits (omega (arith, c.if-item-eq0.false)) c.requires.subset
    c.requires.number in
    omega (arith, room, bits_length (octets_of c.args.pack.now.bits), c.at.ensures, c.from.ensures, c.width-width.ensures.value)

pub overflow_add-increment_at-3 : goal.overflow_add-increment_at-3
overflow_add-increment_at-3 c =
    omega (
      arith,
      reach (octets_of c.args.pack.now.bits) c.args.pack.now.subsets c.args.item.now _ c.args.subset _ _ _ _ c.requires.fits (omega (arith, c.if-item-eq0.false)) c.requires.subset
          c.requires.number c.at.ensures (c.from.ensures ∙ c.width-width.ensures.value) c.from-2.ensures c.from-3.ensures c.from-k.ensures,
    )

pub number_at-increment-requires-clause-within : goal.number_at-increment-requires-clause-within
number_at-increment-requires-clause-within c =
    reach (octets_of c.args.pack.now.bits) c.args.pack.now.subsets c.args.item.now _ c.args.subset _ _ _ _ c.requires.fits (omega (arith, c.if-item-eq0.false)) c.requires.subset c.requires.number
    c.at.ensures
    (c.from.ensures ∙ c.width-width.ensures.value) c.from-2.ensures c.from-3.ensures c.from-k.ensures

pub overflow_add-sum : goal.overflow_add-sum
overflow_add-sum c =
    let low = (kept_number (octets_of c.args.pack.now.bits) c.args.pack.now.subsets c.args.item.now c.requires.fits c.requires.number).1 in
    let few = step_small (bits_of (octets_of c.args.pack.now.bits)) c.args.pack.now.subsets c.args.item.now c.requires.fits in
    let small : c.from-k.result ≤ 63 = omega (arith, few, c.from-k.ensures) in
    let narrow : c.args.item.now.spec.width ≤ 63 = c.width-width.ensures.narrow c.requires.number in
    let wide : 2 ^ c.args.item.now.spec.width ≤ 2 ^ 63 = pow-le-pow_right {n = 2} (omega arith) narrow in
    let tall : 2 ^ c.from-k.result ≤ 2 ^ 63 = pow-le-pow_right {n = 2} (omega arith) small in
    omega (arith, low, wide, tall, c.number_at-increment.ensures.below)

pub returns-then-not-may_be_missing-clause-value : goal.returns-then-not-may_be_missing-clause-value
returns-then-not-may_be_missing-clause-value c =
    let octets = octets_of c.args.pack.now.bits in
    let item = c.args.item.now in
    let some : 1 ≤ item.step = omega (arith, c.if-item-eq0.false) in
    let more = increment_at octets (start_of item) _ item.spec.width c.from-k.result item.step c.args.subset _ _ _ c.number_at-increment.result c.at.ensures
    (c.from.ensures ∙ c.width-width.ensures.value) c.from-2.ensures
    c.from-3.ensures c.from-k.ensures c.number_at-increment.ensures.value in
    (kept_never octets c.args.pack.now.subsets item c.args.subset c.number_at-increment.result c.requires.fits some c.requires.subset c.requires.number more
    (sym c.may_be_missing-may_be_missing.ensures ∙ c.if-not-may_be_missing.true)).0

pub returns-then-not-may_be_missing-clause-below : goal.returns-then-not-may_be_missing-clause-below
returns-then-not-may_be_missing-clause-below c =
    let octets = octets_of c.args.pack.now.bits in
    let item = c.args.item.now in
    let some : 1 ≤ item.step = omega (arith, c.if-item-eq0.false) in
    let more = increment_at octets (start_of item) _ item.spec.width c.from-k.result item.step c.args.subset _ _ _ c.number_at-increment.result c.at.ensures
    (c.from.ensures ∙ c.width-width.ensures.value) c.from-2.ensures
    c.from-3.ensures c.from-k.ensures c.number_at-increment.ensures.value in
    let most = (kept_never octets c.args.pack.now.subsets item c.args.subset c.number_at-increment.result c.requires.fits some c.requires.subset c.requires.number more
    (sym c.may_be_missing-may_be_missing.ensures ∙ c.if-not-may_be_missing.true)).1 in
    let low = (kept_number octets c.args.pack.now.subsets item c.requires.fits c.requires.number).1 in
    omega (arith, most, low)

pub returns-then-increment-k-clause-value : goal.returns-then-increment-k-clause-value
returns-then-increment-k-clause-value c =
    let octets = octets_of c.args.pack.now.bits in
    let item = c.args.item.now in
    let some : 1 ≤ item.step = omega (arith, c.if-item-eq0.false) in
    let more = increment_at octets (start_of item) _ item.spec.width c.from-k.result item.step c.args.subset _ _ _ c.number_at-increment.result c.at.ensures
    (c.from.ensures ∙ c.width-width.ensures.value) c.from-2.ensures
    c.from-3.ensures c.from-k.ensures c.number_at-increment.ensures.value in
    let all = all_ones _ _ c.width-width.ensures.value (c.width-width.ensures.narrow c.requires.number) in
    elim c.then-increment-k.branch [
      | then-increment-k-via-then-increment-k w ↦ kept_last octets c.args.pack.now.subsets item c.args.subset c.number_at-increment.result c.requires.fits some c.requires.subset c.requires.number
          more (sym c.may_be_missing-may_be_missing.ensures ∙ c.if-not-may_be_missing.false)
          (w.if-increment-k.true ∙ all_ones _ _ c.from-k.ensures (step_small (bits_of octets) c.args.pack.now.subsets item c.requires.fits))
      | then-increment-k-via-else-increment-k+then-sum-width w ↦ kept_whole octets c.args.pack.now.subsets item c.args.subset c.number_at-increment.result c.requires.fits some c.requires.subset
          c.requires.number more (sym c.may_be_missing-may_be_missing.ensures ∙ c.if-not-may_be_missing.false) (omega (arith, w.if-sum-width.true, all))
    ]

pub returns-clause-value : goal.returns-clause-value
returns-clause-value c =
    let octets = octets_of c.args.pack.now.bits in
    let item = c.args.item.now in
    let some : 1 ≤ item.step = omega (arith, c.if-item-eq0.false) in
    let more = increment_at octets (start_of item) _ item.spec.width c.from-k.result item.step c.args.subset _ _ _ c.number_at-increment.result c.at.ensures
    (c.from.ensures ∙ c.width-width.ensures.value) c.from-2.ensures
    c.from-3.ensures c.from-k.ensures c.number_at-increment.ensures.value in
    let all = all_ones _ _ c.width-width.ensures.value (c.width-width.ensures.narrow c.requires.number) in
    kept_some octets c.args.pack.now.subsets item c.args.subset c.number_at-increment.result c.requires.fits some c.requires.subset c.requires.number more
    (λ e. c.if-increment-k.false (e ∙ sym (all_ones _ _ c.from-k.ensures (step_small (bits_of octets) c.args.pack.now.subsets item c.requires.fits)))) (omega (arith, c.if-sum-width.false, all))
