use Rattle.std.proofs.Common.{Bool, List, ℕ, true, false, length, take, ◌*◌, ◌<◌, ◌&&◌, drop, ◌≡◌, ◌∙◌, ◌-◌, ◌+◌, ◌≤◌, refl, sym, ap, arith}
use Rattle.std.specs.Prelude.{is_some}
use Rattle.std.proofs.lemmas.List.{length-take-le, length-drop}
use Rattle.bufr_bits.specs.Prelude.{bits_of, bits_at, number_of, are_all_ones, octets_of}
use Rattle.bufr_walk.specs.Prelude.{ones, numbers, increased}
use Rattle.bufr_walk.proofs.PlainLemmas.{bits_length}
use Rattle.bufr_walk.proofs.PackedLemmas.{passes_next, fails_next, stays_here, missing_valid, all_fit, all_ones, reaches}
use Rattle.bufr_walk.proofs.compressed.are_number_increments_valid.Goals as goal
use Rattle.bufr_walk.proofs.compressed.are_number_increments_valid.Goals.{then-base, else-base}

never : (b m : Bool) → m ≡ false → (b && m) ≡ false
never true m e = e
never false m e = refl

-- All bits of an increment are present.
long_here : (octets : List ℕ) (at w n k j place : ℕ) → at + (w + 6) + n * k ≤ 8 * length octets → j < n → place ≡ at + (w + 6) + j * k → length (take k (drop place (bits_of octets))) ≡ k
long_here octets at w n k j place within below is =
    let more : (j + 1) * k ≡ j * k + k = omega arith in
    length-take-le k (drop place (bits_of octets)) (omega (arith, within, more, reaches n j k below, length-drop place (bits_of octets), bits_length octets))

pub returns-then-missing : goal.returns-then-missing
returns-then-missing c =
    let spec = c.args.spec.now in
    let octets = octets_of c.args.bits.now in
    let base = bits_at octets c.args.at spec.width in
    let full : (are_all_ones base && spec.may_be_missing) ≡ true =
    elim c.if-base.branch [
      | then-base w ↦ ap (λ b. b && spec.may_be_missing) (ap (λ v. are_all_ones (bits_at octets c.args.at v)) (sym c.width-width.ensures.value) ∙ sym c.raw_at-base.ensures.ones ∙ w.if-base.true)
          ∙ sym w.may_be_missing-missing.ensures ∙ sym w.missing-is ∙ c.if-missing.true
      | else-base w ↦ let no : false ≡ true = sym w.if-base.false ∙ sym w.missing-is ∙ c.if-missing.true in absurd cc
    ] in
    sym (missing_valid spec.width c.args.k c.args.subsets spec.may_be_missing base (drop (c.args.at + (spec.width + 6)) (bits_of octets)) full)

pub returns-then-base-k : goal.returns-then-base-k
returns-then-base-k c =
    let spec = c.args.spec.now in
    let octets = octets_of c.args.bits.now in
    let base = bits_at octets c.args.at spec.width in
    let greatest = all_ones c.width-width.result spec.width c.width-width.ensures.value (c.width-width.ensures.narrow c.requires.number) in
    let last = all_ones c.args.k c.args.k refl c.requires.increment in
    let is : c.raw_at-base.result.number ≡ number_of base = c.raw_at-base.ensures.number ∙ ap (λ w. number_of (bits_at octets c.args.at w)) c.width-width.ensures.value in
    let fit : number_of base + ones c.args.k ≤ ones spec.width = omega (arith, is, c.if-base-k.true, greatest, last) in
    sym (all_fit spec.width c.args.k c.args.subsets spec.may_be_missing base (drop (c.args.at + (spec.width + 6)) (bits_of octets)) fit)

pub returns-then-not-stays : goal.returns-then-not-stays
returns-then-not-stays c =
    let spec = c.args.spec.now in
    let octets = octets_of c.args.bits.now in
    let base = bits_at octets c.args.at spec.width in
    let none : (are_all_ones base && spec.may_be_missing) ≡ false =
    elim c.if-base.branch [
      | then-base w ↦ never (are_all_ones base) spec.may_be_missing (sym w.may_be_missing-missing.ensures ∙ sym w.missing-is ∙ c.if-missing.false)
      | else-base w ↦ ap (λ b. b && spec.may_be_missing) (ap (λ v. are_all_ones (bits_at octets c.args.at v)) (sym c.width-width.ensures.value) ∙ sym c.raw_at-base.ensures.ones ∙ w.if-base.false)
    ] in
    let is : c.raw_at-base.result.number ≡ number_of base = c.raw_at-base.ensures.number ∙ ap (λ w. number_of (bits_at octets c.args.at w)) c.width-width.ensures.value in
    sym (fails_next (λ i. is_some (increased (numbers spec.width spec.may_be_missing) c.args.k base i)) (c.args.subsets - c.loop-subset.subset)
    (c.args.subsets - (c.loop-subset.subset + 1)) c.args.k c.loop-subset.increment_at (bits_of octets) _ (omega arith) c.loop-subset.invariant.sofar
    (stays_here spec.width c.args.k spec.may_be_missing base (take c.args.k (drop c.loop-subset.increment_at (bits_of octets))) c.raw_at-base.result.number _ _ _
    (long_here octets c.args.at spec.width c.args.subsets c.args.k c.loop-subset.subset c.loop-subset.increment_at c.requires.within (omega arith) c.loop-subset.invariant.increment_at)
    is c.number_at-increment.ensures.value none c.stays_within-stays.ensures c.if-not-stays.true))

pub loop-subset-preserved : goal.loop-subset-preserved
loop-subset-preserved c =
    let spec = c.args.spec.now in
    let octets = octets_of c.args.bits.now in
    let base = bits_at octets c.args.at spec.width in
    let none : (are_all_ones base && spec.may_be_missing) ≡ false =
    elim c.if-base.branch [
      | then-base w ↦ never (are_all_ones base) spec.may_be_missing (sym w.may_be_missing-missing.ensures ∙ sym w.missing-is ∙ c.if-missing.false)
      | else-base w ↦ ap (λ b. b && spec.may_be_missing) (ap (λ v. are_all_ones (bits_at octets c.args.at v)) (sym c.width-width.ensures.value) ∙ sym c.raw_at-base.ensures.ones ∙ w.if-base.false)
    ] in
    let is : c.raw_at-base.result.number ≡ number_of base = c.raw_at-base.ensures.number ∙ ap (λ w. number_of (bits_at octets c.args.at w)) c.width-width.ensures.value in
    record {
      increment_at = omega arith;
      sofar = passes_next (λ i. is_some (increased (numbers spec.width spec.may_be_missing) c.args.k base i)) (c.args.subsets - c.loop-subset.subset)
          (c.args.subsets - (c.loop-subset.subset + 1)) c.args.k c.loop-subset.increment_at _ (bits_of octets) _ (omega arith) (omega arith) c.loop-subset.invariant.sofar
          (stays_here spec.width c.args.k spec.may_be_missing base (take c.args.k (drop c.loop-subset.increment_at (bits_of octets))) c.raw_at-base.result.number _ _ _
          (long_here octets c.args.at spec.width c.args.subsets c.args.k c.loop-subset.subset c.loop-subset.increment_at c.requires.within (omega arith) c.loop-subset.invariant.increment_at)
          is c.number_at-increment.ensures.value none c.stays_within-stays.ensures c.if-not-stays.false);
    }
