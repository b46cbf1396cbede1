use Rattle.std.proofs.Common.{◌≡◌, ◌≤◌, ◌+◌, ◌*◌, ◌++◌, ℕ, Bool, length, drop}
use Rattle.std.specs.List.{flat_map}
use Rattle.bufr_walk.specs.Prelude.{numbers}
use Rattle.bufr_fill.specs.Prelude.{padded_contents, increment_for}
use Rattle.bufr_fill.proofs.packed_out.put_increments.Given as goal

abbrev pub invariant-loop-content : goal.invariant-loop-content
invariant-loop-content l = record {
  bits : (width count : ℕ) (m : Bool) → l.out.bits ++ flat_map (increment_for (numbers width m) l.base l.k) (padded_contents count (drop l.content-index l.contents))
      ≡ l.initial.out.bits ++ flat_map (increment_for (numbers width m) l.base l.k) (padded_contents count l.contents);
  len : length l.out.bits ≡ length l.initial.out.bits + l.content-index * l.k;
  room : length l.contents * l.k ≤ l.out.room + l.content-index * l.k;
}
