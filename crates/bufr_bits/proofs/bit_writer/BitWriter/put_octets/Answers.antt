use Rattle.std.proofs.Common.{◌≡◌, ◌<◌, get_or, arith, ap, take}
use Rattle.bufr_bits.specs.Prelude.{BitWriterModel}
use Rattle.bufr_bits.proofs.BitLemmas.{length-put_octets, appended_whole, octet_after, no_octet_after}
use Rattle.std.proofs.lemmas.List.{take_all}
use Rattle.bufr_bits.proofs.bit_writer.BitWriter.put_octets.Goals as goal

pub returns-then-self-eq0-clause-bits : goal.returns-then-self-eq0-clause-bits
returns-then-self-eq0-clause-bits c = appended_whole c.self.inside.octets.items c.put_last.new.out.items c.put.new.out.items c.args.octets.now c.self.inside.last c.self.inside.count
    c.args.self.now.bits c.if-self-eq0.true (ap (λ (w : BitWriterModel). w.bits) c.self.view_is) c.put_last.ensures.bits c.put.ensures.items

pub returns-then-self-eq0-clause-len : goal.returns-then-self-eq0-clause-len
returns-then-self-eq0-clause-len c = length-put_octets c.args.self.now.bits _ c.args.octets.now (returns-then-self-eq0-clause-bits c)

pub loop-octet-init : goal.loop-octet-init
loop-octet-init c = record { bits = no_octet_after c.args.self.now.bits; room = omega arith }

pub loop-octet-preserved : goal.loop-octet-preserved
loop-octet-preserved c =
    let octet = c.from.ensures in
    let small : get_or c.args.octets.now c.loop-octet.octet-index 0 < 256 = let fits = c.type_inv.octets c.loop-octet.octet-index in omega arith in
    let room = c.put-in-loop-octet.ensures.room in
    record {
      bits = octet_after c.args.octets.now c.args.self.now.bits c.loop-octet.self.bits c.put-in-loop-octet.new.self.bits c.loop-octet.octet-index c.loop-octet-test.true small
          c.loop-octet.invariant.bits (rw octet at c.put-in-loop-octet.ensures.bits);
      room = omega arith;
    }

pub returns-after-loop-octet-clause-len : goal.returns-after-loop-octet-clause-len
returns-after-loop-octet-clause-len c =
    let all : take c.loop-octet.octet-index c.args.octets.now ≡ c.args.octets.now = take_all c.loop-octet.octet-index c.args.octets.now c.loop-octet-test.false in
    length-put_octets c.args.self.now.bits c.loop-octet.self.bits c.args.octets.now (rw all at c.loop-octet.invariant.bits)
