use Rattle.std.proofs.Common.{◌≡◌}
use Rattle.bufr_bits.specs.Prelude.{bits_of, octets_of}
use Rattle.bufr_walk.specs.Prelude.{counted_item}
use Rattle.bufr_walk.proofs.ShownLemmas.{SubsetsShown}
use Rattle.bufr_walk.proofs.plain.show_plain.Given as goal

abbrev pub invariant-subsets : goal.invariant-subsets
invariant-subsets g l =
    (l.cache ≡ l.fn.cache) × SubsetsShown g.V.Visitor.sees l.fn.cache (counted_item l.fn.cache l.given.template.now) l.given.subsets (bits_of (octets_of l.given.bits)) l.done
    l.fn.visitor l.walks.input l.visitor l.steps
