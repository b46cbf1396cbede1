use Rattle.bufr_text.proofs.NumberLemmas.{IsNumberTo}
use Rattle.bufr_text.proofs.line.number.Given as goal

abbrev pub invariant-loop-octet : goal.invariant-loop-octet
invariant-loop-octet l = IsNumberTo l.text l.octet-index l.number
