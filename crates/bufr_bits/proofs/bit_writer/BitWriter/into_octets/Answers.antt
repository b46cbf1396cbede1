use Rattle.std.proofs.Common.{◌≡◌, ◌+◌, ◌*◌, arith, length, ap, sym, ◌∙◌}
use Rattle.bufr_bits.specs.Prelude.{BitWriterModel}
use Rattle.bufr_bits.proofs.BitLemmas.{length-written, padded}
use Rattle.bufr_bits.proofs.bit_writer.BitWriter.into_octets.Goals as goal

pub returns-clause-bits : goal.returns-clause-bits
returns-clause-bits c = padded c.self.inside.octets.items _ c.self.inside.last c.self.inside.count c.args.self.bits c.put_last.ensures.bits (ap (λ (w : BitWriterModel). w.bits) c.self.view_is)

pub returns-clause-len : goal.returns-clause-len
returns-clause-len c =
    let long : length c.args.self.bits ≡ 8 * length c.self.inside.octets.items + c.self.inside.count =
    ap length (sym (ap (λ (w : BitWriterModel). w.bits) c.self.view_is)) ∙ length-written c.self.inside.octets.items c.self.inside.last c.self.inside.count in
    let put = c.put_last.ensures.len in
    omega (arith, c.self.inside.octets.ok.0)
