use Rattle.bufr_frame.proofs.AgainLemmas.{least-when-even}
use Rattle.bufr_frame.proofs.laws.even_sections_are_written_no_longer.Goals as goal

pub returns : goal.returns
returns c = least-when-even
