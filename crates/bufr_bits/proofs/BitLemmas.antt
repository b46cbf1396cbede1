-- Bits as numbers and as octets: in parts, all ones, in windows, and as a writer appends them.
use Rattle.std.proofs.lemmas.Grind.{common_steps}
use Rattle.std.proofs.Common.{◌≡◌, ℕ, ◌⊎◌, zero, suc, min, max, ◌+◌, ◌-◌, ◌*◌, ◌/◌, ◌%◌, ◌^◌, ◌<◌, ◌≤◌, ◌==◌, Bool, true, false, if◌then◌else◌, List, [], ◌∷◌, ◌++◌, length, take, drop, get_or, refl, sym, ap, ◌∙◌, subst, arith, length-drop, take-append-drop, length-take-le, take-add, drop-drop, pow-add, pow_mono, ◌&&◌, eqb, replicate, append_assoc, mod-eq_of_lt, append-nil, length-append, rules, inl, inr}
use Rattle.std.proofs.lemmas.Nat.{shr_high, mod_low, shl_whole, mod-pow-add, shr_split, shr_le, mod_below, shr-shr, pow_pos, shr_below, be_bytes_8}
use Rattle.std.proofs.lemmas.List.{drop-append-le, take-append-le, take_all, drop_more, drop_all, take_at, drop_at, take_more, length-replicate}
use Rattle.std.proofs.Math.Nat.{pow-suc, mul-le-mul_right}
use Rattle.bufr_bits.specs.Prelude.{bits_of_octet, bits_of, number_after_bits, number_of, bits_at, are_all_ones, bits_in, padding, IsWindow, room_after}
use Rattle.std.specs.List.{list_all}
use Rattle.std.specs.Int.{bytes_high_first, byte_at, from_be_bytes, w64}

-- the value of one bit
abbrev pub bit : Bool → ℕ
bit b = if b then 1 else 0

shift_once : (n b p q r : ℕ) → q ≡ p * 2 → (2 * n + b) * p + r ≡ n * q + ((2 * 0 + b) * p + r)
shift_once n b p q r e = rw e (omega arith)

-- When bits follow a number, the number shifts left by as many places.
pub number_after_bits-is : (n : ℕ) (xs : List Bool) → number_after_bits n xs ≡ n * 2 ^ length xs + number_of xs
number_after_bits-is n [] = omega arith
number_after_bits-is n (x ∷ xs) =
    cc (number_after_bits-is (2 * n + bit x) xs, shift_once n (bit x) (2 ^ length xs) (2 ^ suc (length xs)) (number_of xs) (pow-suc 2 (length xs)), number_after_bits-is (2 * 0 + bit x) xs)

pub number_after_bits-append : (n : ℕ) (xs ys : List Bool) → number_after_bits n (xs ++ ys) ≡ number_after_bits (number_after_bits n xs) ys
number_after_bits-append n [] ys = refl
number_after_bits-append n (x ∷ xs) ys = number_after_bits-append (2 * n + bit x) xs ys

pub number_of-append : (xs ys : List Bool) → number_of (xs ++ ys) ≡ number_of xs * 2 ^ length ys + number_of ys
number_of-append xs ys = number_after_bits-append 0 xs ys ∙ number_after_bits-is (number_of xs) ys

pub number_of-below : (xs : List Bool) → number_of xs < 2 ^ length xs
number_of-below [] = omega arith
number_of-below (x ∷ xs) = grind (arith, number_of-below xs, number_after_bits-is)

pub bit_of_test : (n : ℕ) → bit (n % 2 == 1) ≡ n % 2
bit_of_test n = grind arith

-- A number is twice its half plus its last bit.
halved : (n h : ℕ) → h ≡ n / 2 → n ≡ 2 * h + bit (n % 2 == 1)
halved n h e = let t = bit_of_test n in omega (arith, t)

-- The eight bits of an octet represent the octet.
pub number-bits_of_octet : (x : ℕ) → x < 256 → number_of (bits_of_octet x) ≡ x
number-bits_of_octet x h = search (rules, halved)

-- the middle one of three parts of a number
middle_of : (a b c n w k : ℕ) → b < 2 ^ w → c < 2 ^ k → n ≡ a * 2 ^ (w + k) + (b * 2 ^ k + c) → n / 2 ^ k % 2 ^ w ≡ b
middle_of a b c n w k hb hc e =
    let whole : n ≡ (a * 2 ^ w + b) * 2 ^ k + c = rw (e, pow-add) (omega arith) in
    rw (whole, shr_high, mod_low)

-- The middle bits of a list represent the middle part of the number that the list represents.
pub number_of_middle : (xs : List Bool) (n from width : ℕ) → length xs ≡ n → from + width ≤ n → number_of (take width (drop from xs)) ≡ number_of xs / 2 ^ (n - from - width) % 2 ^ width
number_of_middle xs n from width l h =
    let prefix = take from xs in
    let mid = take width (drop from xs) in
    let back = drop width (drop from xs) in
    let length_mid : length mid ≡ width = length-take-le width (drop from xs) (omega (arith, length-drop from xs)) in
    let length_back : length back ≡ n - from - width = omega (arith, length-drop from xs, length-drop width (drop from xs)) in
    let k = n - from - width in
    let halves : number_of (drop from xs) ≡ number_of mid * 2 ^ length back + number_of back = ap number_of (sym (take-append-drop width (drop from xs))) ∙ number_of-append mid back in
    let thirds : number_of xs ≡ number_of prefix * 2 ^ length (drop from xs) + number_of (drop from xs) = ap number_of (sym (take-append-drop from xs)) ∙ number_of-append prefix (drop from xs) in
    let below_mid : number_of mid < 2 ^ width = subst (λ (m : ℕ). number_of mid < 2 ^ m) length_mid (number_of-below mid) in
    let below_back : number_of back < 2 ^ k = subst (λ (m : ℕ). number_of back < 2 ^ m) length_back (number_of-below back) in
    let rest : length (drop from xs) ≡ width + k = omega (arith, length-drop from xs) in
    let after : number_of (drop from xs) ≡ number_of mid * 2 ^ k + number_of back = halves ∙ ap (λ (m : ℕ). number_of mid * 2 ^ m + number_of back) length_back in
    let all : number_of xs ≡ number_of prefix * 2 ^ (width + k) + (number_of mid * 2 ^ k + number_of back) =
    thirds ∙ ap (λ (m : ℕ). number_of prefix * 2 ^ m + number_of (drop from xs)) rest ∙ ap (λ (m : ℕ). number_of prefix * 2 ^ (width + k) + m) after in
    sym (middle_of (number_of prefix) (number_of mid) (number_of back) (number_of xs) width k below_mid below_back all)

-- the bits of a list of octets, octet by octet
pub length-bits_of : (xs : List ℕ) → length (bits_of xs) ≡ 8 * length xs
unfolding bits_of
length-bits_of [] = refl
length-bits_of (x ∷ xs) = let e = length-bits_of xs in omega arith

pub drop-bits_of : (i : ℕ) (xs : List ℕ) → drop (8 * i) (bits_of xs) ≡ bits_of (drop i xs)
unfolding bits_of
drop-bits_of zero xs = refl
drop-bits_of (suc i) [] = drop_all (8 * suc i) [] (omega arith)
drop-bits_of (suc i) (x ∷ xs) =
    let e : 8 * suc i ≡ 8 + 8 * i = omega arith in
    rw (e, ← drop-drop (8 * i) 8 (bits_of (x ∷ xs))) (drop-bits_of i xs)

pub take-bits_of : (i : ℕ) (xs : List ℕ) → take (8 * i) (bits_of xs) ≡ bits_of (take i xs)
unfolding bits_of
take-bits_of zero xs = refl
take-bits_of (suc i) [] = take_all (8 * suc i) [] (omega arith)
take-bits_of (suc i) (x ∷ xs) =
    let e : 8 * suc i ≡ 8 + 8 * i = omega arith in
    rw (e, take-add 8 (8 * i) (bits_of (x ∷ xs))) (ap (λ (ys : List Bool). bits_of_octet x ++ ys) (take-bits_of i xs))

-- Bits within one octet represent a part of this octet.
pub number_of_part : (xs : List ℕ) (i from width : ℕ) → i < length xs → get_or xs i 0 < 256 → from + width ≤ 8
    → number_of (bits_at xs (8 * i + from) width) ≡ get_or xs i 0 / 2 ^ (8 - from - width) % 2 ^ width
unfolding bits_of
number_of_part xs i from width h small fits =
    let octet = get_or xs i 0 in
    let bits = bits_of_octet octet in
    let there : drop (8 * i + from) (bits_of xs) ≡ drop from (bits_of (drop i xs)) = sym (drop-drop from (8 * i) (bits_of xs)) ∙ ap (drop from) (drop-bits_of i xs) in
    let first : drop from (bits_of (drop i xs)) ≡ drop from (bits ++ bits_of (drop (i + 1) xs)) = ap (λ (ys : List ℕ). drop from (bits_of ys)) (drop_more xs i 0 h) in
    let within : drop from (bits ++ bits_of (drop (i + 1) xs)) ≡ drop from bits ++ bits_of (drop (i + 1) xs) = drop-append-le from bits _ (omega arith) in
    let prefix : take width (drop from bits ++ bits_of (drop (i + 1) xs)) ≡ take width (drop from bits) = take-append-le width (drop from bits) _ (omega (arith, length-drop from bits)) in
    ap (λ (ys : List Bool). number_of (take width ys)) (there ∙ first ∙ within) ∙ ap number_of prefix ∙ number_of_middle bits 8 from width refl fits
    ∙ ap (λ (m : ℕ). m / 2 ^ (8 - from - width) % 2 ^ width) (number-bits_of_octet octet small)

-- A field that lies inside the octets has its full width.
pub length-bits_at : (xs : List ℕ) (at width : ℕ) → at + width ≤ 8 * length xs → length (bits_at xs at width) ≡ width
length-bits_at xs at width h = grind (arith, common_steps, length-bits_of)

-- A field in two parts: its number is that of the first bits, shifted, plus that of the others.
pub number_of_more : (xs : List ℕ) (at done more : ℕ) → at + done + more ≤ 8 * length xs
    → number_of (bits_at xs at (done + more)) ≡ number_of (bits_at xs at done) * 2 ^ more + number_of (bits_at xs (at + done) more)
number_of_more xs at done more h = simp (take-add, drop-drop, length-bits_at, number_of-append)

-- the upper bound of a number that is read from `width` bits
pub bits_at-below : (xs : List ℕ) (at width : ℕ) → at + width ≤ 8 * length xs → number_of (bits_at xs at width) < 2 ^ width
bits_at-below xs at width h = grind (arith, length-bits_at, number_of-below)

-- The number read so far, extended by bits of one more octet, is that of the longer field.
pub next_part : (xs : List ℕ) (at width done taken value part : ℕ) → at + width ≤ 8 * length xs → width ≤ 63 → done < width → taken ≡ min (8 - (at + done) % 8) (width - done)
    → value ≡ number_of (bits_at xs at done) → get_or xs ((at + done) / 8) 0 < 256 → part ≡ get_or xs ((at + done) / 8) 0 / 2 ^ (8 - (at + done) % 8 - taken) % 2 ^ taken
    → value * 2 ^ taken % 18446744073709551616 + part ≡ number_of (bits_at xs at (done + taken))
next_part xs at width done taken value part inside short more taken_is value_is small part_is =
    let i = (at + done) / 8 in
    let from = (at + done) % 8 in
    let place : 8 * i + from ≡ at + done = omega arith in
    let below : number_of (bits_at xs at done) < 2 ^ done = bits_at-below xs at done (omega arith) in
    let value_below : value < 2 ^ done = subst (λ (m : ℕ). m < 2 ^ done) (sym value_is) below in
    let shifted : value * 2 ^ taken % 18446744073709551616 ≡ value * 2 ^ taken = shl_whole value done taken 64 value_below (omega arith) in
    let part_there : part ≡ number_of (bits_at xs (at + done) taken) =
    part_is ∙ sym (number_of_part xs i from taken (omega arith) small (omega arith)) ∙ ap (λ (p : ℕ). number_of (bits_at xs p taken)) place in
    let more_bits = number_of_more xs at done taken (omega arith) in
    ap (λ (m : ℕ). m + part) (shifted ∙ ap (λ (m : ℕ). m * 2 ^ taken) value_is) ∙ ap (λ (m : ℕ). number_of (bits_at xs at done) * 2 ^ taken + m) part_there ∙ sym more_bits

pub fits_in_63 : (xs : List ℕ) (at width n : ℕ) → at + width ≤ 8 * length xs → width ≤ 63 → n ≡ number_of (bits_at xs at width) → n < 2 ^ 64
fits_in_63 xs at width n inside short e = search (rules, bits_at-below)

pub below_width : (xs : List ℕ) (at width n : ℕ) → at + width ≤ 8 * length xs → n ≡ number_of (bits_at xs at width) → n < 2 ^ width
below_width xs at width n inside e = omega (arith, bits_at-below)

-- ---- Bits that are all ones: of a list in parts, of a number, and of whole octets.

and_assoc : (a b c : Bool) → (a && (b && c)) ≡ (a && b && c)
and_assoc true b c = refl
and_assoc false b c = refl

pub list_all-append : {X : Type 0} (p : X → Bool) (xs ys : List X) → list_all p (xs ++ ys) ≡ (list_all p xs && list_all p ys)
list_all-append p xs ys = grind (arith, common_steps)

greatest_ahead : (n p : ℕ) → n < p → eqb (1 * p + n) (p * 2 - 1) ≡ eqb n (p - 1)
greatest_ahead n p h = grind arith

-- Bits are all ones if and only if they represent the greatest number of their width.
pub are_all_ones-number : (xs : List Bool) → eqb (number_of xs) (2 ^ length xs - 1) ≡ are_all_ones xs
are_all_ones-number [] = cc
are_all_ones-number (true ∷ xs) = cc (number_after_bits-is 1 xs, pow-suc 2 (length xs), greatest_ahead (number_of xs) (2 ^ length xs) (number_of-below xs), are_all_ones-number xs)
are_all_ones-number (false ∷ xs) = grind (arith, eqb, number_of-below)

-- The bits of octets are all ones if and only if each octet is 255.
pub are_all_ones-bits_of : (xs : List ℕ) → ((k : ℕ) → get_or xs k 0 < 256) → list_all (λ octet. octet == 255) xs ≡ are_all_ones (bits_of xs)
unfolding bits_of
are_all_ones-bits_of [] h = refl
are_all_ones-bits_of (x ∷ xs) h =
    let here : eqb x 255 ≡ are_all_ones (bits_of_octet x) = ap (λ (m : ℕ). eqb m 255) (sym (number-bits_of_octet x (h 0))) ∙ are_all_ones-number (bits_of_octet x) in
    let rest : list_all (λ octet. octet == 255) xs ≡ are_all_ones (bits_of xs) = are_all_ones-bits_of xs (λ k. h (suc k)) in
    ap (λ (b : Bool). b && list_all (λ octet. octet == 255) xs) here ∙ ap (λ (b : Bool). are_all_ones (bits_of_octet x) && b) rest
    ∙ sym (list_all-append (λ (b : Bool). b) (bits_of_octet x) (bits_of xs))

pub are_all_ones-more : (xs : List ℕ) (at leading rest : ℕ) → are_all_ones (bits_at xs at (leading + rest)) ≡ (are_all_ones (bits_at xs at leading) && are_all_ones (bits_at xs (at + leading) rest))
are_all_ones-more xs at leading rest = simp (drop-drop, take-add, list_all-append)

-- A field is all ones if and only if its number is the greatest of its width.
pub ones_in_number : (xs : List ℕ) (at width n most : ℕ) → at + width ≤ 8 * length xs → n ≡ number_of (bits_at xs at width) → most ≡ 2 ^ width - 1 → eqb n most ≡ are_all_ones (bits_at xs at width)
ones_in_number xs at width n most h e m = grind (arith, common_steps, eqb, length-bits_at, are_all_ones-number)

-- The first bits, at most 56 of them, are compared as a number, then the others.
pub ones_by_first : (xs : List ℕ) (at first width n : ℕ) → first ≡ min width 56 → at + width ≤ 8 * length xs → n ≡ number_of (bits_at xs at first)
    → are_all_ones (bits_at xs at width) ≡ (eqb n (1 * 2 ^ first % 18446744073709551616 - 1) && are_all_ones (bits_at xs (at + first) (width - first)))
ones_by_first xs at first width n few inside e =
    let parts : width ≡ first + (width - first) = omega arith in
    search (rules, are_all_ones-more, ones_in_number)

pub and_false : (a : Bool) → (a && false) ≡ false
and_false true = refl
and_false false = refl

-- ---- The bits of a number, in parts and by octets.

pub length-bits_in : (v w : ℕ) → length (bits_in v w) ≡ w
unfolding bits_in
length-bits_in v zero = refl
length-bits_in v (suc w) = ap suc (length-bits_in v w)

pub bits_in-none : (v : ℕ) → bits_in v 0 ≡ []
unfolding bits_in
bits_in-none v = refl

-- the high bits, then the low bits
pub bits_in-split : (v a b : ℕ) → bits_in v (a + b) ≡ bits_in (v / 2 ^ b) a ++ bits_in v b
unfolding bits_in
bits_in-split v zero b = grind arith
bits_in-split v (suc a) b =
    let e : suc a + b ≡ suc (a + b) = omega arith in
    let here : v / 2 ^ (a + b) ≡ v / 2 ^ b / 2 ^ a = grind (arith, shr-shr) in
    rw (e, here, bits_in-split v a b) refl

pub quotient-above : (x v k : ℕ) → (x * 2 ^ k + v) / 2 ^ k ≡ x + v / 2 ^ k
quotient-above x v k = grind (arith, shr_high (x + v / 2 ^ k) k (v % 2 ^ k) (mod_below v (2 ^ k) (pow_pos k)))

-- The bits of a number in a width do not depend on what is above this width.
pub bits_in-above : (a v w : ℕ) → bits_in (a * 2 ^ w + v) w ≡ bits_in v w
unfolding bits_in
bits_in-above a v zero = refl
bits_in-above a v (suc w) =
    let twice : a * 2 ^ suc w ≡ 2 * a * 2 ^ w = ap (λ (p : ℕ). a * p) (pow-suc 2 w) ∙ omega arith in
    let same : a * 2 ^ suc w + v ≡ 2 * a * 2 ^ w + v = ap (λ (n : ℕ). n + v) twice in
    let first : (a * 2 ^ suc w + v) / 2 ^ w % 2 ≡ v / 2 ^ w % 2 = ap (λ (n : ℕ). n / 2 ^ w % 2) same ∙ ap (λ (n : ℕ). n % 2) (quotient-above (2 * a) v w) ∙ omega arith in
    let rest : bits_in (a * 2 ^ suc w + v) w ≡ bits_in v w = ap (λ (n : ℕ). bits_in n w) same ∙ bits_in-above (2 * a) v w in
    cc

-- the bits of two numbers, one after the other
pub bits_in-join : (a v c w : ℕ) → v < 2 ^ w → bits_in a c ++ bits_in v w ≡ bits_in (a * 2 ^ w + v) (c + w)
bits_in-join a v c w h = simp (bits_in-split, shr_high, bits_in-above)

-- The bits of 0 are all zeros.
pub bits_in-zero : (w : ℕ) → bits_in 0 w ≡ replicate w false
unfolding bits_in
bits_in-zero zero = cc
bits_in-zero (suc w) =
    let none : 0 / 2 ^ w ≡ 0 = omega (arith, shr_le 0 w) in
    let rest = bits_in-zero w in
    cc

-- Eight bits of a number are those of its last octet.
pub bits_in-octet : (v : ℕ) → bits_in v 8 ≡ bits_of_octet (v % 256)
unfolding bits_in
bits_in-octet v =
    let a7 : v / 128 % 2 ≡ v % 256 / 128 % 2 = omega arith in
    let a6 : v / 64 % 2 ≡ v % 256 / 64 % 2 = omega arith in
    let a5 : v / 32 % 2 ≡ v % 256 / 32 % 2 = omega arith in
    let a4 : v / 16 % 2 ≡ v % 256 / 16 % 2 = omega arith in
    let a3 : v / 8 % 2 ≡ v % 256 / 8 % 2 = omega arith in
    let a2 : v / 4 % 2 ≡ v % 256 / 4 % 2 = omega arith in
    let a1 : v / 2 % 2 ≡ v % 256 / 2 % 2 = omega arith in
    let a0 : v / 1 % 2 ≡ v % 256 % 2 = omega arith in
    cc

power_of_octets : (k : ℕ) → 256 ^ k ≡ 2 ^ (8 * k)
power_of_octets zero = cc
power_of_octets (suc k) =
    let more : 2 ^ (8 * suc k) ≡ 2 ^ (8 * k) * 256 = ap (λ (m : ℕ). 2 ^ m) (omega arith) ∙ pow-add 2 (8 * k) 8 in
    omega (arith, power_of_octets k)

byte_at-is : (k n : ℕ) → byte_at k n ≡ n / 2 ^ (8 * k) % 256
byte_at-is zero n = omega arith
byte_at-is (suc k) n = simp power_of_octets

-- the octets of a number, most significant first
pub bits_of-bytes : (k n : ℕ) → bits_of (bytes_high_first k n) ≡ bits_in n (8 * k)
unfolding bits_of
bits_of-bytes zero n = sym (bits_in-none n)
bits_of-bytes (suc k) n =
    let e : 8 * suc k ≡ 8 + 8 * k = omega arith in
    let first : bits_of_octet (byte_at k n) ≡ bits_in (n / 2 ^ (8 * k)) 8 = ap bits_of_octet (byte_at-is k n) ∙ sym (bits_in-octet (n / 2 ^ (8 * k))) in
    let whole : bits_in n (8 * suc k) ≡ bits_in (n / 2 ^ (8 * k)) 8 ++ bits_in n (8 * k) = ap (bits_in n) e ∙ bits_in-split n 8 (8 * k) in
    ap (λ (xs : List Bool). xs ++ bits_of (bytes_high_first k n)) first ∙ ap (λ (xs : List Bool). bits_in (n / 2 ^ (8 * k)) 8 ++ xs) (bits_of-bytes k n) ∙ sym whole

-- The bits of a number in a width represent the number modulo a power of two.
pub number_of-bits_in : (v w : ℕ) → number_of (bits_in v w) ≡ v % 2 ^ w
unfolding bits_in
number_of-bits_in v zero = omega arith
number_of-bits_in v (suc w) =
    let first = v / 2 ^ w % 2 in
    let after : number_of (bits_in v (suc w)) ≡ bit (first == 1) * 2 ^ length (bits_in v w) + number_of (bits_in v w) =
    number_after_bits-is (0 + bit (first == 1)) (bits_in v w) ∙ ap (λ (m : ℕ). m * 2 ^ length (bits_in v w) + number_of (bits_in v w)) (omega arith) in
    let one : suc w ≡ 1 + w = omega arith in
    cc (bit_of_test (v / 2 ^ w), length-bits_in v w, number_of-bits_in v w, mod-pow-add v 1 w)

-- The bits of a number are found at their index among other bits.
pub found_between : (before after : List Bool) (octets : List ℕ) (v w : ℕ) → v < 2 ^ w → bits_of octets ≡ before ++ bits_in v w ++ after → number_of (bits_at octets (length before) w) ≡ v
found_between before after octets v w h e = grind (arith, common_steps, append_assoc, drop_at, take_at, length-bits_in, number_of-bits_in, mod-eq_of_lt)

module _ (before after : List Bool) (among xs : List ℕ) (e : bits_of among ≡ before ++ bits_of xs ++ after) where
  -- the bits after `before`
  there : drop (length before) (bits_of among) ≡ bits_of xs ++ after
  there = grind (arith, common_steps)

  -- The bits of octets are found at their index among other bits.
  pub bits_between : bits_at among (length before) (8 * length xs) ≡ bits_of xs
  bits_between = simp (there, take_at, length-bits_of)

  -- Each octet is found there as well.
  pub octet_between : (k : ℕ) → k < length xs → get_or xs k 0 < 256 → number_of (bits_at among (length before + 8 * k) 8) ≡ get_or xs k 0
  unfolding bits_of
  octet_between k h small =
      let past : drop (length before + 8 * k) (bits_of among) ≡ drop (8 * k) (bits_of xs ++ after) = sym (drop-drop (8 * k) (length before) (bits_of among)) ∙ ap (drop (8 * k)) there in
      let inside : drop (8 * k) (bits_of xs ++ after) ≡ bits_of (drop k xs) ++ after =
      drop-append-le (8 * k) (bits_of xs) after (omega (arith, length-bits_of xs)) ∙ ap (λ (ys : List Bool). ys ++ after) (drop-bits_of k xs) in
      let first : bits_of (drop k xs) ≡ bits_of_octet (get_or xs k 0) ++ bits_of (drop (k + 1) xs) = ap bits_of (drop_more xs k 0 h) in
      ap (λ (ys : List Bool). number_of (take 8 ys)) (past ∙ inside ∙ ap (λ (ys : List Bool). ys ++ after) first) ∙ number-bits_of_octet (get_or xs k 0) small

-- ---- The bits of a writer after each of its calls.

pub length-written : (xs : List ℕ) (last count : ℕ) → length (bits_of xs ++ bits_in last count) ≡ 8 * length xs + count
length-written xs last count = simp (length-append, length-bits_of, length-bits_in)

pub nothing_written : (xs : List ℕ) → xs ≡ [] → bits_of xs ++ bits_in 0 0 ≡ []
unfolding bits_of bits_in
nothing_written xs e = rw e refl

pub bits_of-append : (xs ys : List ℕ) → bits_of (xs ++ ys) ≡ bits_of xs ++ bits_of ys
unfolding bits_of
bits_of-append [] ys = cc
bits_of-append (x ∷ xs) ys = cc (bits_of-append xs ys)

-- the octet of the low eight bits of any number
bits_of-one : (n : ℕ) → bits_of (n % 256 ∷ []) ≡ bits_in n 8
unfolding bits_of
bits_of-one n = sym (bits_in-octet n)

-- ---- The pending bits, padded with zeros to the next octet.
-- a prefix of a number that was shifted left, ending within the zeros after its bits
zeros_after : (last count pad rest : ℕ) → take (count + pad) (bits_in (last * 2 ^ (pad + rest)) (count + (pad + rest))) ≡ bits_in last count ++ replicate pad false
zeros_after last count pad rest =
    let free = pad + rest in
    let sum : last * 2 ^ free ≡ last * 2 ^ free + 0 = omega arith in
    let none : 0 / 2 ^ rest ≡ 0 = omega (arith, shr_le 0 rest) in
    let zeros : bits_in 0 free ≡ replicate pad false ++ bits_in 0 rest =
    bits_in-split 0 pad rest ∙ ap (λ (n : ℕ). bits_in n pad ++ bits_in 0 rest) none ∙ ap (λ (bs : List Bool). bs ++ bits_in 0 rest) (bits_in-zero pad) in
    let parts : bits_in (last * 2 ^ free) (count + free) ≡ bits_in last count ++ replicate pad false ++ bits_in 0 rest =
    ap (λ (n : ℕ). bits_in n (count + free)) sum ∙ sym (bits_in-join last 0 count free (pow_pos free)) ∙ ap (λ (bs : List Bool). bits_in last count ++ bs) zeros
    ∙ sym (append_assoc (bits_in last count) (replicate pad false) (bits_in 0 rest)) in
    let long : length (bits_in last count ++ replicate pad false) ≡ count + pad =
    length-append (bits_in last count) (replicate pad false) ∙ ap (λ (m : ℕ). m + length (replicate pad false)) (length-bits_in last count)
    ∙ ap (λ (m : ℕ). count + m) (length-replicate pad false) in
    ap (take (count + pad)) parts ∙ take_at (bits_in last count ++ replicate pad false) (bits_in 0 rest) (count + pad) long

pub last_octets : (xs ys bytes : List ℕ) (last count : ℕ) → 0 < count → count < 64 → last < 2 ^ count → bytes ≡ bytes_high_first 8 (last * 2 ^ (64 - count) % 18446744073709551616)
    → ys ≡ xs ++ take ((count + 7) / 8) bytes → bits_of ys ≡ bits_of xs ++ (bits_in last count ++ padding count)
last_octets xs ys bytes last count some few low b e =
    let whole = (count + 7) / 8 in
    let pad = (8 - count % 8) % 8 in
    let rest = 64 - 8 * whole in
    let number = last * 2 ^ (64 - count) % 18446744073709551616 in
    let parts : 64 - count ≡ pad + rest = omega arith in
    let filled : 8 * whole ≡ count + pad = omega arith in
    let all : 64 ≡ count + (pad + rest) = omega arith in
    let same : number ≡ last * 2 ^ (pad + rest) = shl_whole last count (64 - count) 64 low (omega arith) ∙ ap (λ (k : ℕ). last * 2 ^ k) parts in
    let bits : bits_of bytes ≡ bits_in (last * 2 ^ (pad + rest)) (count + (pad + rest)) =
    ap bits_of b ∙ bits_of-bytes 8 number ∙ ap (λ (n : ℕ). bits_in n 64) same ∙ ap (bits_in (last * 2 ^ (pad + rest))) all in
    let first : bits_of (take whole bytes) ≡ bits_in last count ++ padding count =
    sym (take-bits_of whole bytes) ∙ ap (λ (k : ℕ). take k (bits_of bytes)) filled ∙ ap (take (count + pad)) bits ∙ zeros_after last count pad rest in
    ap bits_of e ∙ bits_of-append xs (take whole bytes) ∙ ap (λ (bs : List Bool). bits_of xs ++ bs) first

-- If no bits are pending, there is nothing to write.
pub no_octets : (xs : List ℕ) (last count : ℕ) → count ≤ 0 → bits_of xs ≡ bits_of xs ++ (bits_in last count ++ padding count)
no_octets xs last count none = search (rules, bits_in-none)

pub padded : (xs ys : List ℕ) (last count : ℕ) (bits : List Bool) → bits_of ys ≡ bits_of xs ++ (bits_in last count ++ padding count) → bits_of xs ++ bits_in last count ≡ bits
    → bits_of ys ≡ bits ++ padding (length bits)
padded xs ys last count bits e v = grind (arith, common_steps, length-written, append_assoc)

-- octets appended after whole octets
pub appended_whole : (xs ys zs octets : List ℕ) (last count : ℕ) (bits : List Bool) → count % 8 ≡ 0 → bits_of xs ++ bits_in last count ≡ bits
    → bits_of ys ≡ bits_of xs ++ (bits_in last count ++ padding count) → zs ≡ ys ++ octets → bits_of zs ++ bits_in 0 0 ≡ bits ++ bits_of octets
appended_whole xs ys zs octets last count bits whole v y z = search (rules, bits_in-none, bits_of-append)

-- ---- The number formed by the pending bits and the new bits.
small_sum : (last count value width : ℕ) → last < 2 ^ count → value < 2 ^ width → last * 2 ^ width + value < 2 ^ (count + width)
small_sum last count value width hl hv = grind (arith, common_steps, mul-le-mul_right, pow-add)

-- If there are fewer than 64 bits, they all stay in the number.
both_are : (last count value width : ℕ) → count + width < 64 → last < 2 ^ count → last * 2 ^ width % 18446744073709551616 + value ≡ last * 2 ^ width + value
both_are last count value width few hl = cc (shl_whole last count width 64 hl (omega arith))

pub both_low : (last count value width : ℕ) → count + width < 64 → last < 2 ^ count → value < 2 ^ width → last * 2 ^ width % 18446744073709551616 + value < 2 ^ (count + width)
both_low last count value width few hl hv = grind (arith, small_sum)

pub both_fit : (last count value width : ℕ) → count + width < 64 → last < 2 ^ count → value < 2 ^ width → last * 2 ^ width % 18446744073709551616 + value < 2 ^ 64
both_fit last count value width few hl hv =
    let below = both_low last count value width few hl hv in
    let most : 2 ^ (count + width) ≤ 2 ^ 63 = pow_mono {i = count + width} {j = 63} (omega arith) in
    omega arith

pub both_bits : (xs : List ℕ) (last count value width : ℕ) → count + width < 64 → last < 2 ^ count → value < 2 ^ width
    → bits_of xs ++ bits_in (last * 2 ^ width % 18446744073709551616 + value) (count + width) ≡ bits_of xs ++ bits_in last count ++ bits_in value width
both_bits xs last count value width few hl hv = cc (
  both_are last count value width few hl,
  bits_in-join last value count width hv,
  append_assoc (bits_of xs) (bits_in last count) (bits_in value width),
)

-- 64 bits or more: the first 64 bits, and the bits after them
two_powers : (last width shift kept value : ℕ) → width ≡ shift + kept → last * 2 ^ width + value ≡ last * 2 ^ shift * 2 ^ kept + value
two_powers last width shift kept value e = grind (arith, pow-add)

full_is : (last count value shift kept : ℕ) → count + shift ≡ 64 → last < 2 ^ count → last * 2 ^ shift % 18446744073709551616 + value / 2 ^ kept ≡ last * 2 ^ shift + value / 2 ^ kept
full_is last count value shift kept all hl = cc (shl_whole last count shift 64 hl (omega arith))

pub full_fits : (last count value width shift kept : ℕ) → count + shift ≡ 64 → width ≡ shift + kept → last < 2 ^ count → value < 2 ^ width
    → last * 2 ^ shift % 18446744073709551616 + value / 2 ^ kept < 2 ^ 64
full_fits last count value width shift kept all parts hl hv =
    let below : last * 2 ^ shift + value / 2 ^ kept < 2 ^ 64 = rw all at (small_sum last count (value / 2 ^ kept) shift hl (grind (arith, shr_below))) in
    omega arith

rest_above : (x v k : ℕ) → (x * 2 ^ k + v) % 2 ^ k ≡ v % 2 ^ k
rest_above x v k = grind (arith, mod_low (x + v / 2 ^ k) k (v % 2 ^ k) (mod_below v (2 ^ k) (pow_pos k)))

pub power_fits : (k : ℕ) → k < 64 → 1 * 2 ^ k % 18446744073709551616 ≡ 2 ^ k
power_fits k few = shl_whole 1 1 k 64 (omega arith) (omega arith) ∙ omega arith

-- ---- Bits written as octets, and the bits that remain pending.
pub bits_in-rest : (n k : ℕ) → bits_in (n % 2 ^ k) k ≡ bits_in n k
bits_in-rest n k = sym (ap (λ (m : ℕ). bits_in m k) (sym (shr_split n k)) ∙ bits_in-above (n / 2 ^ k) (n % 2 ^ k) k)

pub written : (xs ys bytes : List ℕ) (last count value width head tail whole kept : ℕ) (bits : List Bool) → bits_of xs ++ bits_in last count ≡ bits → value < 2 ^ width
    → count + width ≡ 8 * whole + kept → head ≡ (last * 2 ^ width + value) / 2 ^ kept → tail ≡ (last * 2 ^ width + value) % 2 ^ kept → bytes ≡ bytes_high_first whole head → ys ≡ xs ++ bytes
    → bits_of ys ++ bits_in tail kept ≡ bits ++ bits_in value width
written xs ys bytes last count value width head tail whole kept bits v hv total h t b e =
    grind (arith, common_steps, bits_of-bytes, bits_in-rest, bits_in-split, bits_in-join, bits_of-append, append_assoc)

-- Eight octets are written out.
pub full_bits : (xs ys bytes : List ℕ) (last count value width shift kept : ℕ) → count + shift ≡ 64 → width ≡ shift + kept → kept < 63 → last < 2 ^ count → value < 2 ^ width
    → bytes ≡ bytes_high_first 8 (last * 2 ^ shift % 18446744073709551616 + value / 2 ^ kept) → ys ≡ xs ++ bytes
    → bits_of ys ++ bits_in (value % (1 * 2 ^ kept % 18446744073709551616)) kept ≡ bits_of xs ++ bits_in last count ++ bits_in value width
full_bits xs ys bytes last count value width shift kept all parts few hl hv b e =
    let n = last * 2 ^ width + value in
    let split : n ≡ last * 2 ^ shift * 2 ^ kept + value = two_powers last width shift kept value parts in
    let head : last * 2 ^ shift % 18446744073709551616 + value / 2 ^ kept ≡ n / 2 ^ kept =
    full_is last count value shift kept all hl ∙ sym (ap (λ (m : ℕ). m / 2 ^ kept) split ∙ quotient-above (last * 2 ^ shift) value kept) in
    let tail : value % (1 * 2 ^ kept % 18446744073709551616) ≡ n % 2 ^ kept =
    ap (λ (m : ℕ). value % m) (power_fits kept (omega arith)) ∙ sym (ap (λ (m : ℕ). m % 2 ^ kept) split ∙ rest_above (last * 2 ^ shift) value kept) in
    written xs ys bytes last count value width _ _ 8 kept (bits_of xs ++ bits_in last count) refl hv (omega arith) head tail b e

-- ---- Octets appended after bits, one after another.
pub octet_after : (octets : List ℕ) (before bits more : List Bool) (i : ℕ) → i < length octets → get_or octets i 0 < 256 → bits ≡ before ++ bits_of (take i octets)
    → more ≡ bits ++ bits_in (get_or octets i 0) 8 → more ≡ before ++ bits_of (take (i + 1) octets)
octet_after octets before bits more i inside small so_far e =
    let octet = get_or octets i 0 in
    let same : octet ≡ octet % 256 = omega arith in
    let one : bits_in octet 8 ≡ bits_of (octet ∷ []) = sym (ap (λ (m : ℕ). bits_of (m ∷ [])) same ∙ bits_of-one octet) in
    let whole : bits_of (take (i + 1) octets) ≡ bits_of (take i octets) ++ bits_of (octet ∷ []) = ap bits_of (take_more octets i 0 inside) ∙ bits_of-append (take i octets) (octet ∷ []) in
    e ∙ ap (λ (bs : List Bool). bits ++ bs) one ∙ ap (λ (bs : List Bool). bs ++ bits_of (octet ∷ [])) so_far ∙ append_assoc before (bits_of (take i octets)) (bits_of (octet ∷ []))
    ∙ ap (λ (bs : List Bool). before ++ bs) (sym whole)

pub no_octet_after : (before : List Bool) → before ≡ before ++ bits_of []
unfolding bits_of
no_octet_after before = sym (append-nil before)

-- the number of bits after more bits are appended
pub length-put : (before after : List Bool) (value width : ℕ) → after ≡ before ++ bits_in value width → length after ≡ length before + width
length-put before after value width e = rw (e, length-append, length-bits_in)

pub length-put_octets : (before after : List Bool) (octets : List ℕ) → after ≡ before ++ bits_of octets → length after ≡ length before + 8 * length octets
length-put_octets before after octets e = rw (e, length-append, length-bits_of)

-- ---- Bits that are read from the number that eight octets represent.

take_small : (xs : List ℕ) (k i : ℕ) → ((j : ℕ) → get_or xs j 0 < 256) → get_or (take k xs) i 0 < 256
take_small xs k i h = grind (arith, common_steps)

-- The first eight octets are a window.
pub window_is : (xs chunk : List ℕ) (n : ℕ) → 8 ≤ length xs → chunk ≡ take 8 xs → ((i : ℕ) → get_or xs i 0 < 256) → n < 2 ^ 64 → n ≡ from_be_bytes w64 chunk → IsWindow n 0 xs
window_is xs chunk n h e small below value =
    record {
      within = h;
      small = below;
      bits = ap bits_of (sym e ∙ sym (be_bytes_8 chunk n (ap length e ∙ length-take-le 8 xs h) (λ i. rw e (take_small xs 8 i small)) value)) ∙ bits_of-bytes 8 n;
    }

-- A window of the octets after `first` is a window of all octets.
pub window_from : (xs : List ℕ) (first n : ℕ) → IsWindow n 0 (take (length xs - first) (drop first xs)) → IsWindow n first xs
window_from xs first n w = grind (arith, common_steps)

-- the bits that follow an index in a window
bits_in_window : (xs : List ℕ) (first from n : ℕ) → IsWindow n first xs → drop (8 * first + from) (bits_of xs) ≡ drop from (bits_in n 64 ++ bits_of (drop 8 (drop first xs)))
bits_in_window xs first from n h =
    let ys = drop first xs in
    let parts : bits_of ys ≡ bits_in n 64 ++ bits_of (drop 8 ys) =
    ap bits_of (sym (take-append-drop 8 ys)) ∙ bits_of-append (take 8 ys) (drop 8 ys) ∙ ap (λ (bs : List Bool). bs ++ bits_of (drop 8 ys)) h.bits in
    sym (drop-drop from (8 * first) (bits_of xs)) ∙ ap (drop from) (drop-bits_of first xs ∙ parts)

-- the number that bits within a window represent
pub number_of_window : (xs : List ℕ) (first from width n : ℕ) → IsWindow n first xs → from + width ≤ 64 → number_of (bits_at xs (8 * first + from) width) ≡ n / 2 ^ (64 - from - width) % 2 ^ width
number_of_window xs first from width n h fits =
    let word = bits_in n 64 in
    let long : length word ≡ 64 = length-bits_in n 64 in
    let rest = bits_of (drop 8 (drop first xs)) in
    let dropped : drop from (word ++ rest) ≡ drop from word ++ rest = drop-append-le from word rest (omega arith) in
    let value : number_of word ≡ n = number_of-bits_in n 64 ∙ mod-eq_of_lt h.small in
    grind (arith, common_steps, bits_in_window, number_of_middle)

-- a field inside a window that begins at any octet
pub field_in : (xs : List ℕ) (at first from width n : ℕ) → IsWindow n first xs → 8 * first + from ≡ at → from + width ≤ 64 → width ≤ 63
    → n / 2 ^ (64 - from - width) % (1 * 2 ^ width % 18446744073709551616) ≡ number_of (bits_at xs at width)
field_in xs at first from width n h place fits few = grind (arith, common_steps, shl_whole, number_of_window)

-- a field inside the window that begins at the field's first octet
pub field_within : (xs : List ℕ) (at width n : ℕ) → IsWindow n (at / 8) xs → at % 8 + width ≤ 64 → width ≤ 63
    → n / 2 ^ (64 - at % 8 - width) % (1 * 2 ^ width % 18446744073709551616) ≡ number_of (bits_at xs at width)
field_within xs at width n h fits few = grind (arith, field_in)

-- upper bound of the free bits, if the octets grew by at most their old capacity, or as requested
pub room_most : (len capacity capacity' count bits room written : ℕ) → capacity' ≤ len + max (bits / 8 + 16) capacity → room_after len capacity count ≡ room → written ≡ 8 * len + count
    → room_after len capacity' count ≤ max (bits + 128) (written + room)
room_most len capacity capacity' count bits room written most old size = omega arith

-- lower bound of the free bits, if the octets did not grow, or grew by at least their old capacity
pub room_grows : (len capacity capacity' count room written : ℕ) → (capacity' ≡ capacity) ⊎ (len + capacity ≤ capacity') → count < 64 → 8 * len + count ≤ 8 * capacity
    → room_after len capacity count ≡ room → written ≡ 8 * len + count
    → (room_after len capacity' count ≡ room) ⊎ (min (written + room) (2 ^ 63 - written) ≤ room_after len capacity' count + 64)
room_grows len capacity capacity' count room written (inl same) few fits old size = inl (rw same old)
room_grows len capacity capacity' count room written (inr doubles) few fits old size = inr (omega arith)
