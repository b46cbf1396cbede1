use Rattle.std.proofs.Common.{arith, refl}
use Rattle.bufr_bits.specs.Prelude.{bits_of, octets_of}
use Rattle.bufr_bits.proofs.BitLemmas.{length-bits_of}
use Rattle.bufr_walk.proofs.PlainLemmas.{octet_put, four_put}
use Rattle.bufr_walk.proofs.plain.copy_octets.Goals as goal

pub octets-preserved : goal.octets-preserved
octets-preserved c =
    octet_put (bits_of (octets_of c.args.bits.now)) c.args.at c.octets.index _ c.octets.text (omega (arith, c.octets-test.true, c.requires.few)) c.octets.invariant c.number.ensures.value

pub fours-preserved : goal.fours-preserved
fours-preserved c =
    let octets = octets_of c.args.bits.now in (
      omega (arith, c.fours-test.true),
      four_put (bits_of octets) c.args.at c.fours.copied c.number-word.result _ _ _ _ c.fours.text (omega arith) (omega (arith, length-bits_of octets, c.fours-test.true, c.requires.within))
          c.fours.invariant.1 c.number-word.ensures.value (omega (arith, c.number-word.ensures.below)) refl refl (omega arith),
    )
