use Rattle.std.proofs.Common.{rules, ◌≡◌, ◌≤◌, ◌==◌, length, take}
use Rattle.std.specs.Io.Buffered.{reader_buffer, reader_capacity}
use Rattle.bufr_bits.proofs.BufferedLemmas.{held-consumes}
use Rattle.bufr_bits.proofs.device.BufferedDeviceSource.read.Goals as goal

pub returns-then-not-is_empty-clause-octets : goal.returns-then-not-is_empty-clause-octets
returns-then-not-is_empty-clause-octets g c =
    let inner = c.args.self.now.device.inner in
    let few : c.min-n.result ≤ length (reader_buffer inner) = search rules in
    let same : c.copy_from_slice.new.self ≡ take c.min-n.result (reader_buffer inner) = search rules in
    (held-consumes (reader_capacity inner == 0) (g.T.Read.remaining inner.inner) (reader_buffer inner) _ _ c.min-n.result _ same few c.consume.ensures.bytes, search rules)
