use Rattle.std.proofs.Common.{◌≡◌, ◌≤◌, ◌-◌, take, drop}
use Rattle.bufr_bits.specs.Prelude.{bits_of, octets_of}
use Rattle.bufr_walk.specs.Prelude.{octets_in}
use Rattle.bufr_walk.proofs.plain.copy_octets.Given as goal

abbrev pub invariant-octets : goal.invariant-octets
invariant-octets l = take l.index l.text ≡ octets_in l.index (drop l.at (bits_of (octets_of l.bits)))

abbrev pub invariant-fours : goal.invariant-fours
invariant-fours l = (l.copied ≤ l.count) × (take l.copied l.text ≡ octets_in l.copied (drop l.at (bits_of (octets_of l.bits))))

abbrev pub decreases-fours : goal.decreases-fours
decreases-fours l = l.count - l.copied
