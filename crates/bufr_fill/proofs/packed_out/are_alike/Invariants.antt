use Rattle.std.proofs.Common.{◌≡◌, ◌/◌, drop}
use Rattle.bufr_fill.specs.Prelude.{padded_content, padded_contents}
use Rattle.std.specs.List.{list_all}
use Rattle.bufr_walk.specs.Prelude.{same}
use Rattle.bufr_fill.proofs.packed_out.are_alike.Given as goal

abbrev pub invariant-loop-other : goal.invariant-loop-other
invariant-loop-other l =
    list_all (same (padded_content (l.spec.width / 8) l.first)) (padded_contents (l.spec.width / 8) l.contents)
    ≡ list_all (same (padded_content (l.spec.width / 8) l.first)) (padded_contents (l.spec.width / 8) (drop l.other-index l.contents))
