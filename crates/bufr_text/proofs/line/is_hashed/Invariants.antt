use Rattle.std.proofs.Common.{◌≡◌, drop}
use Rattle.bufr_text.specs.Prelude.{is_hashed}
use Rattle.bufr_text.proofs.line.is_hashed.Given as goal

abbrev pub invariant-loop-octet : goal.invariant-loop-octet
invariant-loop-octet l = is_hashed l.text ≡ is_hashed (drop l.octet-index l.text)
