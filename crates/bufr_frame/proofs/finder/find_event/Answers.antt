use Rattle.std.proofs.Common.{◌≡◌, ◌∙◌, ℕ, ◌-◌, ◌<◌, ◌≤◌, ◌^◌, take, List, length, drop, arith, ap, sym, subst, lit≤}
use Rattle.std.proofs.lemmas.List.{take_rest}
use Rattle.bufr_frame.specs.Prelude.{IsIncomplete, IsStatedLength, stated_or_zero, stated_length, StartsWithBufr}
use Rattle.bufr_frame.proofs.ScanLemmas.{none-so, none-stated, end-so, found-at-end, found-whole, holds-there, length-eight, open-so, short-here}
use Rattle.bufr_frame.proofs.finder.find_event.Goals.{then-m-lt-SECTION_0, else-m-lt-SECTION_0, else-not-ended-via-then-not-ended+else-m-max, else-not-ended-via-else-not-ended}
use Rattle.bufr_frame.proofs.finder.find_event.Goals as goal

-- the declared length
short : (s : List ℕ) (place size : ℕ) → length (take (length s - place) (drop place s)) < 8 → size ≡ 0 → IsStatedLength (drop place s) size
short s place size few is = (is ∙ sym (short-here (drop place s) (omega (arith, few, ap length (take_rest s place)))), omega (arith, is))

long : (s : List ℕ) (place size : ℕ) → 8 ≤ length (take (length s - place) (drop place s)) → size ≡ stated_length (take (length s - place) (drop place s)) → size < 2 ^ 24
    → IsStatedLength (drop place s) size
long s place size enough is most = (is ∙ ap stated_length (take_rest s place) ∙ sym (length-eight (drop place s) (omega (arith, enough, ap length (take_rest s place)))), most)

pub classify-requires : goal.classify-requires
classify-requires c =
    subst StartsWithBufr (sym (take_rest c.args.rest.now c.in-Some.place)) (holds-there c.args.rest.now c.in-Some.place c.in-Some.ensures.1)

pub returns-then-ended : goal.returns-then-ended
returns-then-ended c = (c.if-ended.true, end-so c.args.rest.now c.in_default.ensures)

pub returns-in_default : goal.returns-in_default
returns-in_default c =
    let found = c.in_default.ensures in
    let K : ℕ → Type 0 = λ k. IsIncomplete c.args.rest.now (length c.args.rest.now - k) 0 in
    let Z : ℕ → Type 0 = λ k. 0 ≡ stated_or_zero (drop (length c.args.rest.now - k) c.args.rest.now) in
    (c.if-ended.false, subst K (sym c.min.ensures) (none-so c.args.rest.now found), (subst Z (sym c.min.ensures) (none-stated c.args.rest.now), lit≤ tt))

pub returns-then-m-max : goal.returns-then-m-max
returns-then-m-max c =
    let is : IsStatedLength (drop c.in-Some.place c.args.rest.now) c.if-m-lt-SECTION_0.stated_length = elim c.if-m-lt-SECTION_0.branch [
      | then-m-lt-SECTION_0 w ↦ short c.args.rest.now c.in-Some.place _ w.if-m-lt-SECTION_0.true w.stated_length-is
      | else-m-lt-SECTION_0 w ↦ long c.args.rest.now c.in-Some.place _ w.if-m-lt-SECTION_0.false (w.stated_length-is ∙ w.u24_at-stated_length.ensures.value)
          (omega (arith, w.stated_length-is, w.u24_at-stated_length.ensures.most))
    ] in
    (c.if-not-ended.true, open-so _ _ _ c.in-Some.ensures is.0 (omega (arith, c.if-m-max.true, c.max.ensures, ap length (take_rest c.args.rest.now c.in-Some.place))), is)

pub returns : goal.returns
returns c =
    let is : IsStatedLength (drop c.in-Some.place c.args.rest.now) c.if-m-lt-SECTION_0.stated_length = elim c.if-m-lt-SECTION_0.branch [
      | then-m-lt-SECTION_0 w ↦ short c.args.rest.now c.in-Some.place _ w.if-m-lt-SECTION_0.true w.stated_length-is
      | else-m-lt-SECTION_0 w ↦ long c.args.rest.now c.in-Some.place _ w.if-m-lt-SECTION_0.false (w.stated_length-is ∙ w.u24_at-stated_length.ensures.value)
          (omega (arith, w.stated_length-is, w.u24_at-stated_length.ensures.most))
    ] in
    let same = take_rest c.args.rest.now c.in-Some.place in (
      elim c.else-not-ended.branch [
        | else-not-ended-via-then-not-ended+else-m-max w ↦ found-whole _ _ _ _ _ _ c.in-Some.ensures (is.0 ∙ ap stated_or_zero (sym same)) (omega (arith, w.if-m-max.false, w.max.ensures))
            (omega (arith, w.if-m-max.false, w.max.ensures)) same (sym c.classify.ensures)
        | else-not-ended-via-else-not-ended w ↦ found-at-end _ _ _ _ _ c.in-Some.ensures w.if-not-ended.false same (sym c.classify.ensures)
      ],
      is,
    )
