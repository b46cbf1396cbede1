use Rattle.std.proofs.Common.{◌≡◌, ◌∙◌, ◌==◌, ap, refl, arith, false, to_z-of_z, true, unsigned_abs, if◌then◌else◌}
use Rattle.std.proofs.lemmas.Bool.Decides.{nat_tests}
use Rattle.bufr_bits.specs.Prelude.{pointed, sign_of, unsigned_text, decimal_text_of}
use Rattle.bufr_text.specs.Prelude.{Pushes, LineModel}
use Rattle.bufr_text.proofs.PushLemmas.{◌⨾◌, retold}
use Rattle.bufr_text.proofs.NumberLemmas.{pointed_few, pointed_many, unsigned_pointed, unsigned_plain, signed_text, sign-below, sign-none}
use Rattle.bufr_text.proofs.line_writer.LineWriter.push_scaled.Given.{Over}
use Rattle.bufr_text.proofs.line_writer.LineWriter.push_scaled.Goals.{After-push, else-size-eq0, then-size-eq0, then-value-lt0, else-value-lt0}
use Rattle.bufr_text.proofs.line_writer.LineWriter.push_scaled.Goals as goal

-- The sign was pushed, and then the unsigned number.
signed : (g : Over) (c : After-push g) {d : LineModel} → Pushes c.push.new.self (unsigned_text c.unsigned_abs-size.result c.args.scale) d
    → Pushes c.args.self.now (decimal_text_of c.args.value c.args.scale) d
signed g c rest =
    let sign : c.if-value-lt0.sign.now ≡ sign_of c.args.value =
    elim c.if-value-lt0.branch [
      | then-value-lt0 w ↦ ap (λ s. s.now) w.sign-is ∙ sign-below c.args.value (rw (to_z-of_z c.ranges.value) at w.if-value-lt0.true)
      | else-value-lt0 w ↦ ap (λ s. s.now) w.sign-is ∙ sign-none c.args.value (rw (to_z-of_z c.ranges.value) at w.if-value-lt0.false)
    ] in
    let value = to_z-of_z c.ranges.value in
    retold (rw sign at c.push.ensures ⨾ rest) (signed_text c.args.value c.args.scale _ (c.unsigned_abs-size.ensures.value ∙ ap unsigned_abs value))

pub returns-then-digits-places : goal.returns-then-digits-places
returns-then-digits-places g c =
    let scale = to_z-of_z c.ranges.scale in
    let places = c.from-places.ensures ∙ c.unsigned_abs.ensures.value ∙ ap unsigned_abs scale in
    signed g (goal.at.returns-then-digits-places g c).After-push (retold (c.push-then-digits-places.ensures ⨾ c.push_zeros.ensures ⨾ c.push-then-digits-places-2.ensures)
    (pointed_few c.as_bytes-digits.result.now _ c.from-places.result _ c.if-digits-places.true refl refl
    ∙ ap (pointed c.from-places.result) (c.as_bytes-digits.ensures.value ∙ c.format.ensures.text)
    ∙ unsigned_pointed c.unsigned_abs-size.result c.args.scale c.from-places.result (rw scale at c.if-scale-gt0.true) places))

pub returns-then-scale-gt0 : goal.returns-then-scale-gt0
returns-then-scale-gt0 g c =
    let scale = to_z-of_z c.ranges.scale in
    let places = c.from-places.ensures ∙ c.unsigned_abs.ensures.value ∙ ap unsigned_abs scale in
    signed g (goal.at.returns-then-scale-gt0 g c).After-push (retold (c.push-then-scale-gt0.ensures ⨾ (c.push-then-scale-gt0-2.ensures ⨾ c.push-then-scale-gt0-3.ensures))
    (pointed_many c.as_bytes-digits.result.now _ _ c.from-places.result c.if-digits-places.false c.split_at.ensures.front c.split_at.ensures.back
    ∙ ap (pointed c.from-places.result) (c.as_bytes-digits.ensures.value ∙ c.format.ensures.text)
    ∙ unsigned_pointed c.unsigned_abs-size.result c.args.scale c.from-places.result (rw scale at c.if-scale-gt0.true) places))

pub returns : goal.returns
returns g c =
    let scale = to_z-of_z c.ranges.scale in
    let places = c.from-places.ensures ∙ c.unsigned_abs.ensures.value ∙ ap unsigned_abs scale in
    let zeros : c.if-size-eq0.push_zeros ≡ (if c.unsigned_abs-size.result == 0 then 0 else c.from-places.result) =
    elim c.if-size-eq0.branch [
      | then-size-eq0 w ↦ let is : (c.unsigned_abs-size.result == 0) ≡ true = grind (arith, nat_tests, w.if-size-eq0) in rw is w.push_zeros-is
      | else-size-eq0 w ↦ let not : (c.unsigned_abs-size.result == 0) ≡ false = grind (arith, nat_tests, w.if-size-eq0) in rw not w.push_zeros-is
    ] in
    signed g (goal.at.returns g c).After-push (retold ((rw (c.as_bytes-digits.ensures.value, c.format.ensures.text) at c.push-2.ensures) ⨾ c.push_zeros-2.ensures)
    (unsigned_plain c.unsigned_abs-size.result c.args.scale c.from-places.result _ (rw scale at c.if-scale-gt0.false) places zeros))
