use Rattle.std.proofs.Common.{ℕ, ◌≡◌, ◌≤◌, ◌-◌, Bool, List, false, ◌/◌, ◌++◌, ◌<◌, ◌^◌, ap, ◌∙◌, sym, arith, subst, length, unwrap_or}
use Rattle.std.specs.List.{flat_map}
use Rattle.bufr_bits.specs.Prelude.{bits_in}
use Rattle.bufr_fill.specs.Prelude.{padded_contents, increment_for, packed_bits, lowest, FieldContent, AreContentsOf, AreShort, IsRangeOf, spread, least_from}
use Rattle.bufr_tables.specs.Prelude.{is_character}
use Rattle.bufr_walk.specs.Prelude.{FieldSpec, is_reference, numbers}
use Rattle.bufr_fill.specs.declared.packed_out.NumberRange.{NumberRange}
use Rattle.bufr_fill.proofs.LeastLemmas.{base_under, numbers_packed, parts_put, parts_length, k_narrow, k_short, spread_over}
use Rattle.bufr_fill.proofs.RowLemmas.{few_bits}
use Rattle.bufr_fill.proofs.packed_out.pack_numbers.Goals as goal

record IsIncrementWidth (spec : FieldSpec) (base : ℕ) (contents : List FieldContent) (k : ℕ) : Type 0 where
  value : k ≡ least_from spec.may_be_missing (spread base contents) 1
  narrow : k ≤ 63
  short : AreShort base k contents

-- the k that was found writes the increments of these contents over the least of them
is_width : (spec : FieldSpec) (range : NumberRange) (ds : List FieldContent) (base most k : ℕ) (missing : Bool) → is_character spec.kind ≡ false → is_reference spec.role ≡ false → 1 ≤ spec.width
    → spec.width ≤ 63 → AreContentsOf spec ds → IsRangeOf range ds
    → base ≡ unwrap_or (lowest (padded_contents 0 ds)) 0 → most ≡ range.greatest - base → missing ≡ spec.may_be_missing → k ≡ least_from missing most 1 → IsIncrementWidth spec base ds k
is_width spec range ds base most k missing c r some narrow all range_is b m q h =
    let low = unwrap_or (lowest (padded_contents 0 ds)) 0 in
    let over : most ≡ spread low ds = omega (arith, m, b, range_is.greatest, spread_over low ds) in
    let is : k ≡ least_from spec.may_be_missing (spread low ds) 1 = h ∙ ap (λ x. least_from x most 1) q ∙ ap (λ s. least_from spec.may_be_missing s 1) over in
    subst (λ x. IsIncrementWidth spec x ds k) (sym b) (record { value = is; narrow = k_narrow spec c r low ds _ some narrow all is; short = k_short spec c r low ds _ some narrow all is })

pub overflow_mul-contents : goal.overflow_mul-contents
overflow_mul-contents c =
    let few = few_bits (length c.args.contents.now) c.from-2.result 63
    (omega (
      arith,
      c.from-2.ensures,
      (is_width c.args.spec.now c.args.range c.args.contents.now _ _ _ _ c.requires.number c.requires.element c.width-width.ensures.some
          (c.width-width.ensures.narrow c.requires.number) c.requires.contents c.requires.range (c.base-base.ensures 0 c.args.contents.now c.requires.range) c.saturating_sub.ensures
          c.may_be_missing.ensures
          c.least_bits-k.ensures).narrow,
    )) in
    omega (arith, few, c.requires.room)

pub overflow_add-from-2 : goal.overflow_add-from-2
overflow_add-from-2 c =
    let few = few_bits (length c.args.contents.now) c.from-2.result 63
    (omega (
      arith,
      c.from-2.ensures,
      (is_width c.args.spec.now c.args.range c.args.contents.now _ _ _ _ c.requires.number c.requires.element c.width-width.ensures.some
          (c.width-width.ensures.narrow c.requires.number) c.requires.contents c.requires.range (c.base-base.ensures 0 c.args.contents.now c.requires.range) c.saturating_sub.ensures
          c.may_be_missing.ensures
          c.least_bits-k.ensures).narrow,
    )) in
    let narrow = c.width-width.ensures.narrow c.requires.number in
    omega (arith, few, c.from.ensures, narrow, c.requires.room)

pub reserve-requires : goal.reserve-requires
reserve-requires c =
    let few = few_bits (length c.args.contents.now) c.from-2.result 63
    (omega (
      arith,
      c.from-2.ensures,
      (is_width c.args.spec.now c.args.range c.args.contents.now _ _ _ _ c.requires.number c.requires.element c.width-width.ensures.some
          (c.width-width.ensures.narrow c.requires.number) c.requires.contents c.requires.range (c.base-base.ensures 0 c.args.contents.now c.requires.range) c.saturating_sub.ensures
          c.may_be_missing.ensures
          c.least_bits-k.ensures).narrow,
    )) in
    let narrow = c.width-width.ensures.narrow c.requires.number in
    omega (arith, few, c.from.ensures, narrow, c.requires.room)

pub put-requires-clause-value : goal.put-requires-clause-value
put-requires-clause-value c =
    subst (λ n. n < 2 ^ c.width-width.result) (sym (c.base-base.ensures (c.args.spec.now.width / 8) c.args.contents.now c.requires.range))
    (subst (λ w. unwrap_or (lowest (padded_contents (c.args.spec.now.width / 8) c.args.contents.now)) 0 < 2 ^ w) (sym c.width-width.ensures.value)
    (base_under c.args.spec.now c.requires.number c.requires.element (c.args.spec.now.width / 8) c.args.contents.now c.width-width.ensures.some c.requires.contents))

pub put-requires-2-clause-value : goal.put-requires-2-clause-value
put-requires-2-clause-value c = omega (
  arith,
  c.from-3.ensures,
  (is_width c.args.spec.now c.args.range c.args.contents.now _ _ _ _ c.requires.number c.requires.element c.width-width.ensures.some
      (c.width-width.ensures.narrow c.requires.number) c.requires.contents c.requires.range (c.base-base.ensures 0 c.args.contents.now c.requires.range) c.saturating_sub.ensures
      c.may_be_missing.ensures
      c.least_bits-k.ensures).narrow,
)

pub put_increments-requires-clause-narrow : goal.put_increments-requires-clause-narrow
put_increments-requires-clause-narrow c = (is_width c.args.spec.now c.args.range c.args.contents.now _ _ _ _ c.requires.number c.requires.element c.width-width.ensures.some
    (c.width-width.ensures.narrow c.requires.number) c.requires.contents c.requires.range (c.base-base.ensures 0 c.args.contents.now c.requires.range) c.saturating_sub.ensures c.may_be_missing.ensures
    c.least_bits-k.ensures).narrow

pub put_increments-requires-clause-short : goal.put_increments-requires-clause-short
put_increments-requires-clause-short c = (is_width c.args.spec.now c.args.range c.args.contents.now _ _ _ _ c.requires.number c.requires.element c.width-width.ensures.some
    (c.width-width.ensures.narrow c.requires.number) c.requires.contents c.requires.range (c.base-base.ensures 0 c.args.contents.now c.requires.range) c.saturating_sub.ensures c.may_be_missing.ensures
    c.least_bits-k.ensures).short

pub returns : goal.returns
returns c =
    let count = c.args.spec.now.width / 8 in
    let base = c.base-base.result in
    let k = c.least_bits-k.result in
    let put = parts_put c.args.out.now.bits c.put.new.self.bits c.put-2.new.self.bits c.put_increments.new.out.bits (bits_in base c.args.spec.now.width) (bits_in k 6)
    (flat_map (increment_for (numbers c.args.spec.now.width c.args.spec.now.may_be_missing) base k) (padded_contents count c.args.contents.now))
    (c.put.ensures.bits ∙ ap (λ bits. bits ++ bits_in base c.width-width.result) c.in_ok-reserve.ensures.bits ∙ ap (λ w. c.args.out.now.bits ++ bits_in base w) c.width-width.ensures.value)
    (c.put-2.ensures.bits ∙ ap (λ n. c.put.new.self.bits ++ bits_in n 6) c.from-3.ensures)
    (c.put_increments.ensures.bits c.args.spec.now.width count c.args.spec.now.may_be_missing) in
    let narrow = c.width-width.ensures.narrow c.requires.number in
    let packing = is_width c.args.spec.now c.args.range c.args.contents.now _ _ _ _ c.requires.number c.requires.element c.width-width.ensures.some
    (c.width-width.ensures.narrow c.requires.number) c.requires.contents c.requires.range (c.base-base.ensures 0 c.args.contents.now c.requires.range) c.saturating_sub.ensures c.may_be_missing.ensures
    c.least_bits-k.ensures in
    let few = few_bits (length c.args.contents.now) k 63 packing.narrow in (
      packed_bits (bits_in base c.args.spec.now.width) k (flat_map (increment_for (numbers c.args.spec.now.width c.args.spec.now.may_be_missing) base k) (padded_contents count c.args.contents.now)),
      numbers_packed c.args.spec.now count c.args.contents.now base k c.requires.number c.requires.element (c.base-base.ensures count c.args.contents.now c.requires.range)
          packing.value packing.narrow,
      put,
      parts_length c.args.out.now.bits c.put_increments.new.out.bits _ _ put
          (omega (arith, ap length c.in_ok-reserve.ensures.bits, c.put.ensures.len, c.put-2.ensures.len, c.put_increments.ensures.len, narrow, few)),
      omega (arith, ap length c.in_ok-reserve.ensures.bits, c.put.ensures.len, c.put-2.ensures.len, c.put_increments.ensures.len),
    )
