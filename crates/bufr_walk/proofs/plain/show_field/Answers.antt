use Rattle.std.proofs.Common.{◌+◌, ◌≤◌, length, sym, subst, arith}
use Rattle.bufr_bits.specs.Prelude.{bits_of, octets_of}
use Rattle.bufr_walk.specs.Prelude.{Cursor}
use Rattle.bufr_walk.proofs.PlainLemmas.{bits_length, small_power}
use Rattle.bufr_walk.proofs.plain.show_field.Goals as goal

pub raw_at-raw-requires-clause-within : goal.raw_at-raw-requires-clause-within
raw_at-raw-requires-clause-within g c =
    let fit : c.input.inside.at + c.args.spec.now.width ≤ length (bits_of (octets_of c.input.inside.bits)) =
    subst (λ (s : Cursor). s.at + c.args.spec.now.width ≤ length s.bits) (sym c.input.view_is) c.requires in
    omega (arith, fit, bits_length (octets_of c.input.inside.bits), c.width.ensures.value)

pub plain_number-requires-clause-below : goal.plain_number-requires-clause-below
plain_number-requires-clause-below g c =
    small_power c.width.result c.raw_at-raw.result.number (omega (arith, c.width.ensures.value, (c.is_plain.ensures c.if-is_plain.true).width)) c.raw_at-raw.ensures.below
