use Rattle.bufr_bits.proofs.BitLemmas.{found_between}
use Rattle.bufr_bits.proofs.bit_writer.pushed_reads_back.Goals as goal

pub returns : goal.returns
returns c = λ before after octets e. found_between before after octets c.args.value c.args.width c.requires e
