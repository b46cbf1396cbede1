use Rattle.bufr_text.proofs.CallLemmas.{call-then}
use Rattle.bufr_text.proofs.laws.calls_compose.Goals as goal

pub returns : goal.returns
returns c = λ left mid left' old s s' results results' bs bs' one two. call-then left mid left' old s s' results results' bs bs' one two
