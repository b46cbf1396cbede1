use Rattle.std.proofs.Common.{◌≡◌, ◌-◌, ◌*◌, ◌%◌, ◌^◌, ◌∙◌, arith, ap, nat_eq}
use Rattle.std.proofs.lemmas.Nat.{shl_whole}
use Rattle.bufr_bits.specs.Prelude.{octets_of}
use Rattle.bufr_walk.proofs.PlainLemmas.{ones_by_number}
use Rattle.bufr_walk.proofs.plain.raw_at.Goals as goal

pub returns-clause-ones : goal.returns-clause-ones
returns-clause-ones c =
    let most : 1 * 2 ^ c.args.width % 18446744073709551616 - 1 ≡ 2 ^ c.args.width - 1 = omega (arith, shl_whole 1 1 c.args.width 64 (omega arith) (omega arith)) in
    ap (nat_eq c.number-number.result) most ∙ ones_by_number (octets_of c.args.bits.now) c.args.at c.args.width c.number-number.result c.requires.within c.number-number.ensures.value
