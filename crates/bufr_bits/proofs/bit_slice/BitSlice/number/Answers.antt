use Rattle.std.proofs.Common.{◌/◌}
use Rattle.bufr_bits.proofs.BitLemmas.{below_width, window_from, field_within}
use Rattle.bufr_bits.proofs.bit_slice.BitSlice.number.Goals as goal

pub returns-in-Some-clause-value : goal.returns-in-Some-clause-value
returns-in-Some-clause-value c =
    field_within c.args.self.now.octets.now c.args.at c.args.width c.in-Some.window (window_from c.args.self.now.octets.now (c.args.at / 8) c.in-Some.window c.in-Some.ensures)
    c.if-from-width-le64.true c.requires.few

pub returns-in_default-clause-below : goal.returns-in_default-clause-below
returns-in_default-clause-below c = below_width c.args.self.now.octets.now c.args.at c.args.width c.by_octets.result c.requires.within c.by_octets.ensures
