use Rattle.bufr_frame.proofs.ScanLemmas.{open-prefix}
use Rattle.bufr_frame.proofs.laws.open_scan_is_prefix.Goals as goal

pub returns : goal.returns
returns c = open-prefix
