use Rattle.std.proofs.Common.{◌≡◌}
use Rattle.bufr_tables.specs.Prelude.{places}
use Rattle.bufr_walk.specs.Prelude.{counted_item}
use Rattle.bufr_fill.specs.Prelude.{subsets_of}
use Rattle.bufr_text.proofs.EncodeLemmas.{PlainSoFar}
use Rattle.bufr_text.proofs.encode.write_plain.Given as goal

abbrev pub invariant-subsets : goal.invariant-subsets
invariant-subsets l = (l.cache ≡ l.fn.cache) × PlainSoFar (places l.template) (counted_item l.fn.cache l.template) (subsets_of l.entries) l.done l.out.left l.out.bits l.steps
