use Rattle.std.proofs.lemmas.Grind.{common_steps}
use Rattle.std.proofs.Common.{◌≡◌, inl, ◌+◌, ◌*◌, arith, length, vec_len, vec_capacity, ap, sym, ◌∙◌}
use Rattle.bufr_bits.specs.Prelude.{BitWriterModel}
use Rattle.bufr_bits.proofs.BitLemmas.{length-written, room_most, room_grows}
use Rattle.bufr_bits.proofs.bit_writer.BitWriter.reserve.Goals.{then-count-capacity+in_ok-grow, else-count-capacity}
use Rattle.bufr_bits.proofs.bit_writer.BitWriter.reserve.Goals as goal

pub returns-then-bits-from-clause-room : goal.returns-then-bits-from-clause-room
returns-then-bits-from-clause-room c = grind (arith, common_steps, length-written)

pub returns-in_err-grow-clause-most : goal.returns-in_err-grow-clause-most
returns-in_err-grow-clause-most c =
    let long : length c.args.self.now.bits ≡ 8 * length c.self.inside.octets.items + c.self.inside.count =
    ap length (sym (ap (λ (w : BitWriterModel). w.bits) c.self.view_is)) ∙ length-written c.self.inside.octets.items c.self.inside.last c.self.inside.count in
    let room = ap (λ (w : BitWriterModel). w.room) c.self.view_is in
    let full : length c.args.self.now.bits ≡ 8 * vec_len c.self.inside.octets + c.self.inside.count = omega (arith, long, c.self.inside.octets.ok.0) in
    rw c.grow.ensures.len (room_most (vec_len c.self.inside.octets) (vec_capacity c.self.inside.octets) (vec_capacity c.grow.new.out) c.self.inside.count c.args.bits _ _ c.grow.ensures.most room full)

pub returns-in_err-grow-clause-grows : goal.returns-in_err-grow-clause-grows
returns-in_err-grow-clause-grows c =
    let long : length c.args.self.now.bits ≡ 8 * length c.self.inside.octets.items + c.self.inside.count =
    ap length (sym (ap (λ (w : BitWriterModel). w.bits) c.self.view_is)) ∙ length-written c.self.inside.octets.items c.self.inside.last c.self.inside.count in
    let room = ap (λ (w : BitWriterModel). w.room) c.self.view_is in
    let full : length c.args.self.now.bits ≡ 8 * vec_len c.self.inside.octets + c.self.inside.count = omega (arith, long, c.self.inside.octets.ok.0) in
    rw c.grow.ensures.len (room_grows (vec_len c.self.inside.octets) (vec_capacity c.self.inside.octets) (vec_capacity c.grow.new.out) c.self.inside.count _ _ c.grow.ensures.grows
    (omega (arith, c.self.invariant.few)) (omega (arith, c.self.invariant.room)) room full)

pub returns-clause-room : goal.returns-clause-room
returns-clause-room c = grind (arith, common_steps, length-written, then-count-capacity+in_ok-grow, else-count-capacity)

pub returns-clause-most : goal.returns-clause-most
returns-clause-most c = grind (arith, length-written, then-count-capacity+in_ok-grow, room_most, else-count-capacity)

pub returns-clause-grows : goal.returns-clause-grows
returns-clause-grows c =
    let long : length c.args.self.now.bits ≡ 8 * length c.self.inside.octets.items + c.self.inside.count =
    ap length (sym (ap (λ (w : BitWriterModel). w.bits) c.self.view_is)) ∙ length-written c.self.inside.octets.items c.self.inside.last c.self.inside.count in
    let room = ap (λ (w : BitWriterModel). w.room) c.self.view_is in
    let full : length c.args.self.now.bits ≡ 8 * vec_len c.self.inside.octets + c.self.inside.count = omega (arith, long, c.self.inside.octets.ok.0) in
    elim c.if-count-capacity.branch [
      | then-count-capacity+in_ok-grow w ↦ rw (w.self-inside-is, w.grow.ensures.len)
          (room_grows (vec_len c.self.inside.octets) (vec_capacity c.self.inside.octets) (vec_capacity w.grow.new.out) c.self.inside.count _ _ w.grow.ensures.grows
          (omega (arith, c.self.invariant.few)) (omega (arith, c.self.invariant.room)) room full)
      | else-count-capacity w ↦ rw w.self-inside-is (inl room)
    ]
