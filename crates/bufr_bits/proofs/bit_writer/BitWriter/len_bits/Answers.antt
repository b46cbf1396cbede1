use Rattle.std.proofs.Common.{◌≡◌, ◌+◌, ◌*◌, arith, length, ap, sym, ◌∙◌}
use Rattle.bufr_bits.specs.Prelude.{BitWriterModel}
use Rattle.bufr_bits.proofs.BitLemmas.{length-written}
use Rattle.bufr_bits.proofs.bit_writer.BitWriter.len_bits.Goals as goal

pub returns : goal.returns
returns c =
    let long : length c.args.self.now.bits ≡ 8 * length c.self.inside.octets.items + c.self.inside.count =
    ap length (sym (ap (λ (w : BitWriterModel). w.bits) c.self.view_is)) ∙ length-written c.self.inside.octets.items c.self.inside.last c.self.inside.count in
    omega (arith, c.self.inside.octets.ok.0)
