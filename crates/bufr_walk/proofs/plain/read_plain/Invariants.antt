use Rattle.std.proofs.Common.{◌≡◌}
use Rattle.bufr_bits.specs.Prelude.{bits_of, octets_of}
use Rattle.bufr_tables.specs.Prelude.{places}
use Rattle.bufr_walk.specs.Prelude.{counted_item}
use Rattle.bufr_walk.proofs.PlainReading.{SubsetsRead}
use Rattle.bufr_walk.proofs.plain.read_plain.Given as goal

abbrev pub invariant-subsets : goal.invariant-subsets
invariant-subsets l = (l.cache ≡ l.fn.cache) × SubsetsRead (places l.template) (counted_item l.fn.cache l.template) (bits_of (octets_of l.bits)) l.done l.fields l.steps
