use Rattle.std.proofs.Common.{◌≡◌, ◌≤◌, ◌+◌, ◌*◌, ◌/◌, ◌++◌, length, drop}
use Rattle.std.specs.List.{flat_map}
use Rattle.bufr_walk.specs.Prelude.{texts}
use Rattle.bufr_fill.specs.Prelude.{padded_contents, increment_for}
use Rattle.bufr_fill.proofs.packed_out.put_prefixes.Given as goal

abbrev pub invariant-loop-content : goal.invariant-loop-content
invariant-loop-content l = record {
  bits : l.out.bits ++ flat_map (increment_for (texts (l.spec.width / 8)) 0 l.k) (padded_contents (l.spec.width / 8) (drop l.content-index l.contents))
      ≡ l.initial.out.bits ++ flat_map (increment_for (texts (l.spec.width / 8)) 0 l.k) (padded_contents (l.spec.width / 8) l.contents);
  len : length l.out.bits ≡ length l.initial.out.bits + l.content-index * (8 * l.k);
  room : length l.contents * (8 * l.k) ≤ l.out.room + l.content-index * (8 * l.k);
}
