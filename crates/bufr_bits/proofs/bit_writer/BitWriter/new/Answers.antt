use Rattle.bufr_bits.proofs.BitLemmas.{nothing_written}
use Rattle.bufr_bits.proofs.bit_writer.BitWriter.new.Goals as goal

pub returns-clause-bits : goal.returns-clause-bits
returns-clause-bits c = nothing_written c.new.result.items c.new.ensures.items
