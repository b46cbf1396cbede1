use Rattle.bufr_frame.proofs.FinderLemmas.{longest-stopped}
use Rattle.bufr_frame.proofs.laws.longest_at_a_fault_counts_the_open_word.Goals as goal

pub returns : goal.returns
returns c = longest-stopped
