use Rattle.std.proofs.Common.{drop}
use Rattle.bufr_text.specs.Prelude.{hex_text}
use Rattle.bufr_text.proofs.PushLemmas.{PushedSoFar}
use Rattle.bufr_text.proofs.line_writer.LineWriter.push_hex.Given as goal

-- The digits of the octets before the current index were pushed.
abbrev pub invariant-loop-octet : goal.invariant-loop-octet
invariant-loop-octet g l = PushedSoFar l.fn.self l.self (hex_text l.octets) (hex_text (drop l.octet-index l.octets))
