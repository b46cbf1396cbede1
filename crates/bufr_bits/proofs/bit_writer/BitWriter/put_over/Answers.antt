use Rattle.std.proofs.Common.{◌-◌, ◌++◌, arith, ap, ◌∙◌}
use Rattle.bufr_bits.specs.Prelude.{bits_in, BitWriterModel}
use Rattle.bufr_bits.proofs.BitLemmas.{both_fit, both_low, both_bits, full_fits, full_bits, length-put}
use Rattle.bufr_bits.proofs.bit_writer.BitWriter.put_over.Goals as goal

pub overflow_add-self : goal.overflow_add-self
overflow_add-self c =
    let few = c.if-width-free.true in
    let fits = both_fit c.self.inside.last c.self.inside.count c.args.value c.args.width (omega (arith, few, c.self.invariant.few)) c.self.invariant.low c.requires.value in
    omega (arith, fits)

pub returns-then-width-free-clause-bits : goal.returns-then-width-free-clause-bits
returns-then-width-free-clause-bits c =
    let few = c.if-width-free.true in
    both_bits c.self.inside.octets.items c.self.inside.last c.self.inside.count c.args.value c.args.width (omega (arith, few, c.self.invariant.few)) c.self.invariant.low c.requires.value
    ∙ ap (λ (w : BitWriterModel). w.bits ++ bits_in c.args.value c.args.width) c.self.view_is

pub returns-then-width-free-clause-len : goal.returns-then-width-free-clause-len
returns-then-width-free-clause-len c = length-put c.args.self.now.bits _ c.args.value c.args.width (returns-then-width-free-clause-bits c)

pub invariant_of-self : goal.invariant_of-self
invariant_of-self c =
    let few = c.if-width-free.true in
    let left = ap (λ (w : BitWriterModel). w.room) c.self.view_is in
    let free = c.free_after-self-inside.ensures in
    record {
      few = free.few;
      low = both_low c.self.inside.last c.self.inside.count c.args.value c.args.width (omega (arith, few, c.self.invariant.few)) c.self.invariant.low c.requires.value;
      fits = omega (arith, left, c.requires.room, c.self.invariant.fits);
      room = free.room;
    }

pub overflow_add-full : goal.overflow_add-full
overflow_add-full c =
    let many = c.if-width-free.false in
    let few = c.self.invariant.few in
    let fits = full_fits c.self.inside.last c.self.inside.count c.args.value c.args.width (64 - c.self.inside.count) (c.args.width - (64 - c.self.inside.count)) (omega arith) (omega arith)
    c.self.invariant.low c.requires.value in
    omega (arith, fits)

pub returns-clause-bits : goal.returns-clause-bits
returns-clause-bits c =
    let many = c.if-width-free.false in
    let few = c.self.invariant.few in
    let narrow = c.requires.width in
    full_bits c.self.inside.octets.items c.put.new.out.items _ c.self.inside.last c.self.inside.count c.args.value c.args.width (64 - c.self.inside.count) (c.args.width - (64 - c.self.inside.count))
    (omega arith) (omega arith) (omega arith) c.self.invariant.low c.requires.value c.to_be_bytes.ensures c.put.ensures.items
    ∙ ap (λ (w : BitWriterModel). w.bits ++ bits_in c.args.value c.args.width) c.self.view_is

pub returns-clause-len : goal.returns-clause-len
returns-clause-len c = length-put c.args.self.now.bits _ c.args.value c.args.width (returns-clause-bits c)
