use Rattle.bufr_bits.proofs.DecimalLemmas.{reads_back}
use Rattle.bufr_bits.proofs.decimal.decimal_reads_back.Goals as goal

pub returns : goal.returns
returns c = reads_back c.args.v c.args.scale c.ranges.v.sfits
