-- Counts that are raised more than once.
use Rattle.std.proofs.lemmas.Bool.Decides.{nat_tests}
use Rattle.std.proofs.lemmas.Grind.{common_steps}
use Rattle.std.proofs.Common.{◌≡◌, ℕ, ◌+◌, ◌-◌, ◌^◌, ◌<◌, ◌≤◌, List, Ok, arith, length, min, max, Result, refl, zero, suc, Err, Bool, true, false, if◌then◌else◌, nat_eq}
use Rattle.bufr_bits.specs.Prelude.{counted, empty_writes_after, whole_writes_after}

twice : (count a b most : ℕ) → max (max count (min (count + a) most)) (min (max count (min (count + a) most) + b) most) ≡ max count (min (count + (a + b)) most)
twice count a b most = omega arith

pub counted-counted : (count a b : ℕ) → counted (counted count a) b ≡ counted count (a + b)
counted-counted count a b = twice count a b (2 ^ 64 - 1)

none : (count most : ℕ) → max count (min (count + 0) most) ≡ count
none count most = omega arith

pub counted-none : (count : ℕ) → counted count 0 ≡ count
counted-none count = none count (2 ^ 64 - 1)

-- A write that accepted octets is not an empty write.
pub empty_writes_after-some : {E : Type 0} (count : ℕ) (octets : List ℕ) (r : Result ℕ E) (n : ℕ) → r ≡ Ok n → 0 < n → empty_writes_after {E = E} count octets r ≡ count
empty_writes_after-some {E} count octets r n is some = rw is (at n some)
  where
    at : (n : ℕ) → 0 < n → (let x : Result ℕ E = Ok n in empty_writes_after count octets x ≡ count)
    at zero some = absurd (omega arith)
    at (suc n) some = refl

more : (a b n count most : ℕ) → a ≤ b → count ≤ max a (min (a + n) most) → count ≤ max b (min (b + n) most)
more a b n count most small is = omega arith

-- A greater initial count gives a greater upper bound.
pub counted-from : (a b n count : ℕ) → a ≤ b → count ≤ counted a n → count ≤ counted b n
counted-from a b n count small is = omega arith

least : (count n most : ℕ) → count ≤ max count (min (count + n) most)
least count n most = omega arith

pub counted-least : (count n : ℕ) → count ≤ counted count n
counted-least count n = least count n (2 ^ 64 - 1)

-- A write adds at most one to the number of complete writes.
pub whole_writes_after-most : {E : Type 0} (count : ℕ) (octets : List ℕ) (r : Result ℕ E) → whole_writes_after {E = E} count octets r ≤ counted count 1
whole_writes_after-most count octets (Err e) = counted-least count 1
whole_writes_after-most count octets (Ok n) = at (nat_eq n (length octets))
  where
    at : (whole : Bool) → (if whole then counted count 1 else count) ≤ counted count 1
    at true = omega arith
    at false = counted-least count 1

-- A write that left octets over is not a complete write.
pub whole_writes_after-part : {E : Type 0} (count : ℕ) (octets : List ℕ) (r : Result ℕ E) (n : ℕ) → r ≡ Ok n → n < length octets → whole_writes_after {E = E} count octets r ≡ count
whole_writes_after-part {E} count octets r n is part = rw is (at (nat_eq n (length octets)) refl)
  where
    at : (whole : Bool) → nat_eq n (length octets) ≡ whole → (if nat_eq n (length octets) then counted count 1 else count) ≡ count
    at true e = absurd (grind (arith, nat_tests, common_steps))
    at false e = rw e refl

more-then : (a b c n m most : ℕ) → b ≤ max a (min (a + n) most) → c ≤ max b (min (b + m) most) → c ≤ max a (min (a + (n + m)) most)
more-then a b c n m most first second = omega arith

-- The bounds of two successive raises add up.
pub counted-then : (a b c n m : ℕ) → b ≤ counted a n → c ≤ counted b m → c ≤ counted a (n + m)
counted-then a b c n m first second = omega (arith, more-then)

up : (a b n m most : ℕ) → n ≤ m → b ≤ max a (min (a + n) most) → b ≤ max a (min (a + m) most)
up a b n m most more is = omega arith

-- A greater raise gives a greater upper bound.
pub counted-up : (a b n m : ℕ) → n ≤ m → b ≤ counted a n → b ≤ counted a m
counted-up a b n m more is = omega arith
