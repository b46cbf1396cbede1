use Rattle.std.proofs.Common.{◌++◌, arith, ap, ◌∙◌}
use Rattle.bufr_bits.specs.Prelude.{bits_in, BitWriterModel}
use Rattle.bufr_bits.proofs.BitLemmas.{length-put, both_fit, both_low, both_bits}
use Rattle.bufr_bits.proofs.bit_writer.BitWriter.put.Goals as goal

pub overflow_add-self : goal.overflow_add-self
overflow_add-self c =
    let few = c.self.invariant.few in
    let free = c.if-width-self.false in
    let fits = both_fit c.self.inside.last c.self.inside.count c.args.value c.args.width (omega arith) c.self.invariant.low c.requires.value in
    omega (arith, fits)

pub invariant_of-self : goal.invariant_of-self
invariant_of-self c =
    let few = c.self.invariant.few in
    let free = c.if-width-self.false in
    let room = c.self.invariant.room in
    let left = ap (λ (w : BitWriterModel). w.room) c.self.view_is in
    record {
      few = omega arith;
      low = both_low c.self.inside.last c.self.inside.count c.args.value c.args.width (omega arith) c.self.invariant.low c.requires.value;
      fits = omega (arith, left, c.requires.room, c.self.invariant.fits);
      room = omega arith;
    }

pub returns-else-width-self-clause-bits : goal.returns-else-width-self-clause-bits
returns-else-width-self-clause-bits c =
    let few = c.self.invariant.few in
    let free = c.if-width-self.false in
    both_bits c.self.inside.octets.items c.self.inside.last c.self.inside.count c.args.value c.args.width (omega arith) c.self.invariant.low c.requires.value
    ∙ ap (λ (w : BitWriterModel). w.bits ++ bits_in c.args.value c.args.width) c.self.view_is

pub returns-else-width-self-clause-len : goal.returns-else-width-self-clause-len
returns-else-width-self-clause-len c = length-put c.args.self.now.bits _ c.args.value c.args.width (returns-else-width-self-clause-bits c)
