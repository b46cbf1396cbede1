use Rattle.bufr_text.proofs.NumberLemmas.{unescaped_below}
use Rattle.bufr_text.proofs.line.is_unescaped.Goals as goal

pub returns : goal.returns
returns c = unescaped_below 256 c.args.octet tt c.ranges.octet.fits
