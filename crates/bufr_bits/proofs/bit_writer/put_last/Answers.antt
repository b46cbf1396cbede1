use Rattle.bufr_bits.proofs.BitLemmas.{last_octets, no_octets}
use Rattle.bufr_bits.proofs.bit_writer.put_last.Goals as goal

pub returns-then-count-gt0-clause-bits : goal.returns-then-count-gt0-clause-bits
returns-then-count-gt0-clause-bits c = last_octets c.args.out.now.items c.put.new.out.items _ c.args.last c.args.count c.if-count-gt0.true c.requires.few c.requires.low c.to_be_bytes.ensures
    c.put.ensures.items

pub returns-else-count-gt0-clause-bits : goal.returns-else-count-gt0-clause-bits
returns-else-count-gt0-clause-bits c = no_octets c.args.out.now.items c.args.last c.args.count c.if-count-gt0.false
