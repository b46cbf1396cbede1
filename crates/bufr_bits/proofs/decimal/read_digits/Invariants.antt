use Rattle.std.proofs.Common.{◌≡◌, true, take}
use Rattle.std.specs.Str.Parse.{digits_value_after}
use Rattle.bufr_bits.specs.Prelude.{all_digits}
use Rattle.bufr_bits.proofs.decimal.read_digits.Given as goal

abbrev pub invariant-loop-octet : goal.invariant-loop-octet
invariant-loop-octet l =
    (l.count ≡ l.octet-index) × (all_digits (take l.octet-index l.text) ≡ true) × (l.value ≡ digits_value_after 10 l.number (take l.octet-index l.text))
