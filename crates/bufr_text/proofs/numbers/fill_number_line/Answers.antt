use Rattle.std.proofs.Common.{◌∙◌, Some, ap, append-nil, rules, sym, take, to_z, to_z-of_z, w16}
use Rattle.bufr_bits.specs.Prelude.{sign_of, unsigned_text}
use Rattle.bufr_text.specs.Prelude.{Puts}
use Rattle.bufr_text.proofs.PushLemmas.{puts_from, puts_retold}
use Rattle.bufr_text.proofs.NumberLemmas.{number_steps, sign-below, sign-none, unsigned_places, unsigned_whole}
use Rattle.bufr_text.proofs.numbers.fill_number_line.Goals.{then-number-lt0+in_ok-at-2, else-number-lt0, then-scale-eq0+then-size-lt10000+in_ok-at-3, else-scale-eq0+then-scale-eq1+then-size-lt100000+in_ok-at-4, else-scale-eq0+else-scale-eq1+then-scale-eq2+then-size-lt1000000+in_ok-at-5, else-scale-eq0+else-scale-eq1+else-scale-eq2+in_ok-at-6}
use Rattle.bufr_text.proofs.numbers.fill_number_line.Goals as goal

pub returns : goal.returns
returns c =
    let size = c.unsigned_abs-size.result in
    let scale = sym (to_z-of_z c.ranges.scale) in
    let line = c.put_block.new.free in
    let start = c.in_ok-at.at in
    let signed : Puts line start (sign_of c.args.number) c.if-number-lt0.free (Some c.if-number-lt0.at) = elim c.if-number-lt0.branch [
      | then-number-lt0+in_ok-at-2 w ↦ rw (w.free-is, w.at-is) (puts_retold line _ start (Some _) w.in_ok-at-2.ensures
          (sign-below c.args.number (rw (to_z-of_z c.ranges.number) at w.if-number-lt0.true)))
      | else-number-lt0 w ↦ rw (w.free-is, w.at-is) (puts_retold line line start (Some start) (c.in_ok-at.ensures.0, sym (append-nil (take start line)))
          (sign-none c.args.number (rw (to_z-of_z c.ranges.number) at w.if-number-lt0.false)))
    ] in
    let old = c.if-number-lt0.free in
    let at = c.if-number-lt0.at in
    let put : Puts old at (unsigned_text size c.args.scale) c.if-scale-eq0.free (Some c.if-scale-eq0.at) = elim c.if-scale-eq0.branch [
      | then-scale-eq0+then-size-lt10000+in_ok-at-3 w ↦ rw (w.free-is, w.at-is)
          (puts_retold old _ at (Some _) w.in_ok-at-3.ensures (unsigned_whole size c.args.scale (scale ∙ ap (to_z w16) w.if-scale-eq0.true)))
      | else-scale-eq0+then-scale-eq1+then-size-lt100000+in_ok-at-4 w ↦ rw (w.free-is, w.at-is)
          (puts_retold old _ at (Some _) w.in_ok-at-4.ensures (unsigned_places size 0 c.args.scale (scale ∙ ap (to_z w16) w.if-scale-eq1.true)))
      | else-scale-eq0+else-scale-eq1+then-scale-eq2+then-size-lt1000000+in_ok-at-5 w ↦ rw (w.free-is, w.at-is)
          (puts_retold old _ at (Some _) w.in_ok-at-5.ensures (unsigned_places size 1 c.args.scale (scale ∙ ap (to_z w16) w.if-scale-eq2.true)))
      | else-scale-eq0+else-scale-eq1+else-scale-eq2+in_ok-at-6 w ↦ rw (w.free-is, w.at-is)
          (puts_from old _ at _ _ signed.0 w.in_ok-at-6.ensures.0 (rw (to_z-of_z c.ranges.scale) at w.in_ok-at-6.ensures.1))
    ] in
    search (rules, number_steps, signed, put)
