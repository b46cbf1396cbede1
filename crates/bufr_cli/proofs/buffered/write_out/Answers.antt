use Rattle.std.proofs.Common.{◌≡◌, ◌∙◌, ◌<◌, ◌≤◌, ℕ, List, subst, ◌-◌, ◌++◌, length, drop, Ok, ap, refl, arith, rules, length-take, length-drop, length-append}
use Rattle.bufr_bits.proofs.CountLemmas.{counted-from, empty_writes_after-some, whole_writes_after-most, whole_writes_after-part}
use Rattle.bufr_bits.specs.Prelude.{whole_writes_after}
use Rattle.bufr_bits.specs.declared.device.Failed.{Failed}
use Rattle.bufr_text.proofs.PushLemmas.{write_steps}
use Rattle.bufr_cli.proofs.BufferingLemmas.{unflushed-some}
use Rattle.bufr_cli.proofs.buffered.write_out.Goals as goal
use Rattle.std.proofs.lemmas.Grind.{common_steps}
use Rattle.std.proofs.Math.Nat.{le_trans}

-- A write that did not take all octets was not a complete write.
part-whole : (a b c : ℕ) (rest : List ℕ) (n : ℕ) → b ≤ a → c ≤ whole_writes_after {E = Failed} b rest (Ok n) → n < length rest → c ≤ a
part-whole a b c rest n few is part = omega (arith, few, subst (λ x. c ≤ x) (whole_writes_after-part {E = Failed} b rest (Ok n) n refl part) is)

pub loop-rest-preserved : goal.loop-rest-preserved
loop-rest-preserved g c =
    let before = c.loop-rest.invariant in
    let wrote = c.in-Ok.ensures in
    let n = c.in-Ok.n in
    let rest = c.loop-rest.rest.now in
    let some : 0 < n = search rules in
    let full : 0 < length rest = omega (arith, some, wrote.bound) in
    let long : length c.args.octets.now ≡ length (before.so_far.prefix ++ rest) = ap length before.so_far.parts in
    record {
      so_far = grind (arith, common_steps, write_steps);
      failures = wrote.failed ∙ before.failures;
      empty = wrote.empty ∙ empty_writes_after-some {E = Failed} _ rest (Ok n) n refl some ∙ before.empty;
      none = λ left. part-whole _ _ _ rest n (before.none full) wrote.whole (omega (arith, left, length-drop n rest));
      whole = counted-from _ _ 1 _ (before.none full) (le_trans wrote.whole (whole_writes_after-most {E = Failed} _ rest (Ok n)));
      flushes = wrote.flushed ∙ before.flushes;
      unflushed = λ _. unflushed-some _ _ n some wrote.handed;
      same = λ same. absurd (omega (arith, same, long, length-append before.so_far.prefix rest, length-take (length rest - n) (drop n rest), length-drop n rest, wrote.bound, some));
    }
