use Rattle.std.proofs.Common.{◌≤◌, ◌+◌, ◌++◌, ◌∙◌, ap, arith, drop, length, length-drop, sym, take}
use Rattle.bufr_frame.proofs.ScanLemmas.{drop-twice}
use Rattle.bufr_text.specs.Prelude.{quoted}
use Rattle.bufr_text.proofs.NumberLemmas.{quoted_next}
use Rattle.bufr_text.proofs.PushLemmas.{puts_from, text_put_on}
use Rattle.bufr_text.proofs.line_writer.fill_text.Goals as goal

pub loop-taken-preserved-then-is_unescaped : goal.loop-taken-preserved-then-is_unescaped
loop-taken-preserved-then-is_unescaped c =
    let octets = c.args.octets.now in
    let taken = c.loop-taken.taken in
    let old = c.put_escaped-len.new.free in
    let at = c.put_escaped-len.result in
    let run = c.fill_run-run.result in
    let within : taken + 1 + run ≤ length octets = omega (arith, c.fill_run-run.ensures.within, ap length c.suffix.ensures, length-drop (taken + 1) octets) in
    let one = text_put_on _ _ _ _ _ _ _ _ c.loop-taken.invariant.text c.put_escaped-len.ensures (quoted_next octets taken (omega arith)) in
    let fills = puts_from old c.fill_run-run.new.free at run _ c.put_escaped-len.ensures.0 c.fill_run-run.ensures.fills.0 c.fill_run-run.ensures.fills.1 in
    let rest = c.suffix.result.now in
    let more = sym (ap quoted c.suffix.ensures) ∙ c.fill_run-run.ensures.text ∙ ap (λ l. take run rest ++ quoted l) (ap (drop run) c.suffix.ensures ∙ drop-twice run (taken + 1) octets) in
    record {
      within = within;
      room = fills.0;
      text = text_put_on _ _ _ _ _ _ _ _ one fills more;
    }

pub loop-taken-preserved : goal.loop-taken-preserved
loop-taken-preserved c = record {
  within = omega arith;
  room = c.put_escaped-len.ensures.0;
  text = text_put_on _ _ _ _ _ _ _ _ c.loop-taken.invariant.text c.put_escaped-len.ensures (quoted_next c.args.octets.now c.loop-taken.taken (omega arith));
}
