use Rattle.std.proofs.Common.{◌≡◌, ◌+◌, ◌-◌, length, take, drop, ap, ◌∙◌, arith, rules, length-drop, take_all}
use lib.Seq.{paste}
use Rattle.std.proofs.lemmas.List.Edits.{take-paste}
use Rattle.bufr_cli.proofs.buffered.remove_front.Goals as goal

pub returns-clause-items : goal.returns-clause-items
returns-clause-items c =
    let all = c.args.octets.now.items in
    let left = c.args.left in
    let from = c.len-len.result - left in
    let long : length all ≡ c.len-len.result = search rules in
    let size : c.len-len.result - from ≡ left = omega (arith, c.requires, c.len-len.ensures) in
    let rest : length (drop from all) ≡ left = omega (arith, length-drop from all, long, size) in
    let same : left ≡ 0 + left = omega arith in
    c.truncate.ensures.items ∙ ap (take left) c.copy_within.ensures.items ∙ ap (λ n. take left (paste all 0 (drop from all) n)) size
    ∙ ap (λ k. take k (paste all 0 (drop from all) left)) same ∙ take-paste all 0 (drop from all) left (omega arith) (omega (arith, rest))
    ∙ take_all left (drop from all) (omega (arith, rest)) ∙ ap (λ n. drop (n - left) all) c.len-len.ensures
