use Rattle.std.proofs.Common.{◌≡◌, ◌≤◌, drop, max}
use Rattle.bufr_fill.specs.Prelude.{most_need}
use Rattle.bufr_fill.proofs.packed_out.octets_needed.Given as goal

abbrev pub invariant-loop-content : goal.invariant-loop-content
invariant-loop-content l = (max l.most (most_need (drop l.content-index l.contents)) ≡ most_need l.contents) × (1 ≤ l.most)
