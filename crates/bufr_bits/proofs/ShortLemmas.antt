-- Short decimal texts: their digits, their parts, and their number at a scale.
use Rattle.std.proofs.lemmas.Grind.{common_steps}
use Rattle.std.proofs.Common.{◌≡◌, ℕ, suc, ◌+◌, ◌-◌, ◌*◌, ◌/◌, ◌%◌, ◌^◌, ◌<◌, ◌≤◌, ◌==◌, ◌&&◌, Bool, true, false, if◌then◌else◌, List, [], ◌∷◌, length, take, drop, get_or, Ok, Err, refl, sym, ap, ◌∙◌, subst, arith, length-drop, length-take-le, zero, ◌++◌, replicate, Result, ℤ, pos, length-append, length-take, rules, take-append-drop}
use Rattle.std.specs.Int.{IsInRange}
use Rattle.std.specs.Char.{is_ascii_digit}
use Rattle.std.specs.Str.Parse.{digits_value_after, digits_value, starts_with_minus}
use Rattle.std.proofs.lemmas.Nat.{div-add-mod', mod_below}
use Rattle.std.proofs.lemmas.List.{drop_more}
use Rattle.std.proofs.Math.Nat.{pow-suc, mul-le-mul_right, pow-le-pow_right}
use Rattle.bufr_bits.specs.Prelude.{all_digits, whole_quotient, decimal_text_of, unsigned_text, pointed, decimal_value_of, positive_scale, negative_scale, signed, ◌>>=◌, unsigned_part, signed_number, is_decimal_octet, IsPlainDecimal}
use Rattle.bufr_bits.specs.declared.decimal.NumberFault.TheVariants.{Inexact}
use Rattle.bufr_bits.proofs.BitLemmas.{list_all-append}
use Rattle.bufr_bits.proofs.DecimalLemmas.{value_after-is, value_after-append, value-below, quotient_is, ten_pos, ten_split, product_zero, sum_zero, and_first, and_second, own, unsigned_is_decimal, read_alone, read_after_minus, number_at, number_at_own}
use Rattle.std.specs.List.{list_all}
use Rattle.std.specs.Fmt.{decimal}
use Rattle.std.proofs.lemmas.Fmt.{decimal-digits_value}
use Rattle.bufr_bits.specs.declared.decimal.NumberFault.{NumberFault}

-- one more digit
digit_range : (c : ℕ) → is_ascii_digit c ≡ true → IsInRange 48 57 c
digit_range c h = grind (arith, common_steps)

pub digits_more : (ds : List ℕ) (i : ℕ) → all_digits (take i ds) ≡ true → i < length ds → is_ascii_digit (get_or ds i 0) ≡ true → all_digits (take (i + 1) ds) ≡ true
digits_more ds i h lt d = grind (arith, common_steps)

pub prefix_more : (n : ℕ) (ds : List ℕ) (i : ℕ) → i < length ds → is_ascii_digit (get_or ds i 0) ≡ true
    → digits_value_after 10 n (take (i + 1) ds) ≡ digits_value_after 10 n (take i ds) * 10 + (get_or ds i 0 - 48)
prefix_more n ds i lt d = grind (arith, common_steps, digit_range, value_after-append)

-- A number with digits after it stays below the next number with as many digits after it.
pub value_after-below : (n : ℕ) (ds : List ℕ) → all_digits ds ≡ true → digits_value_after 10 n ds < (n + 1) * 10 ^ length ds
value_after-below n ds h = omega (arith, value_after-is, value-below)

-- The number with one more digit fits.
digit_fits_product : (n value p q ten d most : ℕ) → ten ≡ p * 10 → ten * (n + 1) ≤ q * (n + 1) → value < (n + 1) * p → (n + 1) * q ≤ most → d ≤ 9 → value * 10 + d < most
digit_fits_product n value p q ten d most e product below fits few = omega (arith, rw e at product)

digit_fits : (n value i len d most : ℕ) → value < (n + 1) * 10 ^ i → i < len → (n + 1) * 10 ^ len ≤ most → d ≤ 9 → value * 10 + d < most
digit_fits n value i len d most below lt fits few =
    let more : 10 ^ suc i ≤ 10 ^ len = pow-le-pow_right (omega arith) (omega arith) in
    digit_fits_product n value (10 ^ i) (10 ^ len) (10 ^ suc i) d most (pow-suc 10 i) (mul-le-mul_right (n + 1) more) below fits few

pub prefix_fits : (n value i d : ℕ) (ds : List ℕ) → all_digits (take i ds) ≡ true → value ≡ digits_value_after 10 n (take i ds) → i < length ds → (n + 1) * 10 ^ length ds ≤ 2 ^ 64 → d ≤ 9
    → value * 10 + d < 2 ^ 64
prefix_fits n value i d ds h e lt fits few =
    let prefix : length (take i ds) ≡ i = length-take-le i ds (omega arith) in
    let below : value < (n + 1) * 10 ^ i = subst (λ (k : ℕ). value < (n + 1) * 10 ^ k) prefix (rw (← e) at (value_after-below n (take i ds) h)) in
    search (rules, digit_fits)

pub digit_few : (c : ℕ) → is_ascii_digit c ≡ true → (48 ≤ c) × (c - 48 ≤ 9)
digit_few c h = omega (arith, digit_range)

-- A division by a power of ten is done one ten at a time.
if_both : {A : Type 0} (a b : Bool) (x y : A) → (if a && b then x else y) ≡ (if b then (if a then x else y) else y)
if_both a b x y = grind (arith, common_steps)

more_parts : (n q p ten s m r : ℕ) → ten ≡ p * 10 → m * 10 + r ≡ n → q * p + s ≡ m → n ≡ q * ten + (s * 10 + r)
more_parts n q p ten s m r e whole part = rw (e, ← whole, ← part) (omega arith)

pub quotient_more : (n k : ℕ) → whole_quotient n (10 ^ suc k) ≡ (if n % 10 == 0 then whole_quotient (n / 10) (10 ^ k) else Err Inexact)
quotient_more n k =
    let m = n / 10 in
    let r = n % 10 in
    let p = 10 ^ k in
    let ten : 10 ^ suc k ≡ p * 10 = pow-suc 10 k in
    let few : r < 10 = mod_below n 10 (omega arith) in
    let less : m % p < p = mod_below m p (ten_pos k) in
    let parts = more_parts n (m / p) p (10 ^ suc k) (m % p) m r ten (div-add-mod' n 10) (div-add-mod' m p) in
    let small : m % p * 10 + r < 10 ^ suc k = omega (arith, ten, few, less) in
    quotient_is n (10 ^ suc k) (m / p) (m % p * 10 + r) parts small ∙ ap (λ (b : Bool). if b then Ok (m / p) else Err Inexact) (sum_zero (m % p) 10 r (omega arith))
    ∙ if_both (m % p == 0) (r == 0) (Ok (m / p)) (Err Inexact)

quotient_next : (v i times : ℕ) → i < times → whole_quotient v (10 ^ (times - i)) ≡ (if v % 10 == 0 then whole_quotient (v / 10) (10 ^ (times - (i + 1))) else Err Inexact)
quotient_next v i times lt = grind (arith, quotient_more v (times - (i + 1)))

pub quotient_goes_on : (v i times : ℕ) → i < times → v % 10 ≡ 0 → whole_quotient v (10 ^ (times - i)) ≡ whole_quotient (v / 10) (10 ^ (times - (i + 1)))
quotient_goes_on v i times lt e = grind (arith, common_steps, quotient_next)

pub quotient_stops : (v i times : ℕ) → i < times → 0 < v % 10 → whole_quotient v (10 ^ (times - i)) ≡ Err Inexact
quotient_stops v i times lt some = search (rules, quotient_next)

-- Powers of ten in both directions cancel, and leave a multiplication or a division.
pub scaled_by_times : (n up less : ℕ) → less ≤ up → Ok (n * 10 ^ (up - less)) ≡ whole_quotient (n * 10 ^ up) (10 ^ less)
scaled_by_times n up less le =
    let split : 10 ^ up ≡ 10 ^ (up - less) * 10 ^ less = ten_split up (up - less) less (omega arith) in
    let product : n * 10 ^ up ≡ n * 10 ^ (up - less) * 10 ^ less + 0 = rw split (omega arith) in
    sym (quotient_is (n * 10 ^ up) (10 ^ less) (n * 10 ^ (up - less)) 0 product (ten_pos less))

product_parts : (n q p r u d : ℕ) → q * p + r ≡ n → d ≡ p * u → n * u ≡ q * d + r * u
product_parts n q p r u d whole e = rw (e, ← whole) (omega arith)

pub scaled_by_quotient : (n up less : ℕ) → up < less → whole_quotient n (10 ^ (less - up)) ≡ whole_quotient (n * 10 ^ up) (10 ^ less)
scaled_by_quotient n up less lt =
    let p = 10 ^ (less - up) in
    let u = 10 ^ up in
    let q = n / p in
    let r = n % p in
    let split : 10 ^ less ≡ p * u = ten_split less (less - up) up (omega arith) in
    let below : r < p = mod_below n p (ten_pos (less - up)) in
    let most = mul-le-mul_right u below in
    let some = ten_pos up in
    let small : r * u < 10 ^ less = omega (arith, split, most, some) in
    let parts = product_parts n q p r u (10 ^ less) (div-add-mod' n p) split in
    sym (quotient_is (n * u) (10 ^ less) q (r * u) parts small ∙ ap (λ (b : Bool). if b then Ok q else Err Inexact) (product_zero r u some))

-- The number fits after digits of the fraction are added, because a text has at most 19 octets.
pub fraction_fits : (text fraction : List ℕ) (count m : ℕ) → length text ≤ 19 → count < length text → fraction ≡ drop (count + 1) text → all_digits (take count text) ≡ true
    → m ≡ digits_value_after 10 0 (take count text) → (m + 1) * 10 ^ length fraction ≤ 2 ^ 64
fraction_fits text fraction count m few lt f h e =
    let whole : length (take count text) ≡ count = length-take-le count text (omega arith) in
    let after : length fraction ≡ length text - (count + 1) = ap length f ∙ length-drop (count + 1) text in
    let below : m < (0 + 1) * 10 ^ count = subst (λ (k : ℕ). m < (0 + 1) * 10 ^ k) whole
    (subst (λ (k : ℕ). k < (0 + 1) * 10 ^ length (take count text)) (sym e) (value_after-below 0 (take count text) h)) in
    let upto : m + 1 ≤ 10 ^ count = omega (arith, below) in
    let product = mul-le-mul_right (10 ^ length fraction) upto in
    let split : 10 ^ (count + length fraction) ≡ 10 ^ count * 10 ^ length fraction = ten_split (count + length fraction) count (length fraction) refl in
    let short : count + length fraction ≤ 19 = omega (arith, after) in
    let most : 10 ^ (count + length fraction) ≤ 10 ^ 19 = pow-le-pow_right (omega arith) short in
    let literal : 10 ^ 19 ≤ 2 ^ 64 = omega arith in
    omega (arith, product, split, most, literal)

pub rest_is : (text : List ℕ) (i : ℕ) → take (length text - i) (drop i text) ≡ drop i text
rest_is text i = grind (arith, common_steps)

-- ---- The text of a short decimal: its digits, and its number at a scale.

digit_octet : (c : ℕ) → is_ascii_digit c ≡ true → is_decimal_octet c ≡ true
digit_octet c h = rw h refl

pub digits_octets : (ds : List ℕ) → all_digits ds ≡ true → list_all is_decimal_octet ds ≡ true
digits_octets [] h = refl
digits_octets (d ∷ ds) h =
    rw (digit_octet d (and_first (is_ascii_digit d) (all_digits ds) h)) (digits_octets ds (and_second (is_ascii_digit d) (all_digits ds) h))

-- Digits are the digits of their number, after leading zeros.
more_zeros : (k len : ℕ) (xs ds : List ℕ) → k ≤ len → replicate (len - k) 48 ++ xs ≡ ds → replicate (suc len - k) 48 ++ xs ≡ 48 ∷ ds
more_zeros k len xs ds le h = grind (arith, common_steps)

padded_least : (k : ℕ) (xs ds : List ℕ) → length xs ≡ k → replicate (length ds - k) 48 ++ xs ≡ ds → k ≤ length ds
padded_least k xs ds e h = grind (arith, common_steps)

zero_first : (d : ℕ) (ds : List ℕ) → d ≡ 48 → digits_value 10 (d ∷ ds) ≡ digits_value 10 ds
zero_first d ds e = rw e refl

other_first : (d : ℕ) → (d == 48) ≡ false → d ≡ 48 → (n : ℕ) → n ≡ 1
other_first d h e n = cc

same_first : (d : ℕ) → (d == 48) ≡ true → d ≡ 48
same_first d h = grind arith

padded_back : (ds : List ℕ) → all_digits ds ≡ true → 0 < length ds → digits_value 10 ds < 2 ^ 64 → replicate (length ds - length (decimal (digits_value 10 ds))) 48 ++ decimal (digits_value 10 ds) ≡ ds
padded_back [] h some small = absurd (omega arith)
padded_back (d ∷ []) h some small =
    let same : decimal (digits_value 10 (d ∷ [])) ≡ d ∷ [] = decimal-digits_value own (d ∷ []) h (omega arith) (λ _. refl) small in
    rw same refl
padded_back (d ∷ e ∷ more) h some small = by (padded_back (e ∷ more) (and_second (is_ascii_digit d) (all_digits (e ∷ more)) h) (omega arith)) (d == 48) refl
  where
    ds : List ℕ
    ds = d ∷ e ∷ more

    by : (digits_value 10 (e ∷ more) < 2 ^ 64 → replicate (length (e ∷ more) - length (decimal (digits_value 10 (e ∷ more)))) 48 ++ decimal (digits_value 10 (e ∷ more)) ≡ e ∷ more) → (b : Bool)
        → (d == 48) ≡ b → replicate (length ds - length (decimal (digits_value 10 ds))) 48 ++ decimal (digits_value 10 ds) ≡ ds
    by next true q =
        let is = same_first d q in
        let value = zero_first d (e ∷ more) is in
        let rest = next (omega (arith, value, small)) in
        let n = digits_value 10 (e ∷ more) in
        ap (λ (m : ℕ). replicate (length ds - length (decimal m)) 48 ++ decimal m) value
        ∙ more_zeros (length (decimal n)) (length (e ∷ more)) (decimal n) (e ∷ more) (padded_least _ (decimal n) (e ∷ more) refl rest) rest
        ∙ ap (λ (c : ℕ). c ∷ e ∷ more) (sym is)
    by next false q =
        let same : decimal (digits_value 10 ds) ≡ ds = decimal-digits_value own ds h (omega arith) (λ z. other_first d q z _) small in
        let none : length ds - length ds ≡ 0 = omega arith in
        rw same (rw none refl)

padded_is : (ds : List ℕ) (k : ℕ) → all_digits ds ≡ true → 0 < k → k ≤ length ds → (get_or ds 0 0 ≡ 48 → length ds ≡ k) → digits_value 10 ds < 2 ^ 64
    → replicate (k - length (decimal (digits_value 10 ds))) 48 ++ decimal (digits_value 10 ds) ≡ ds
padded_is ds k h some le first small = by (get_or ds 0 0 == 48) refl
  where
    n : ℕ
    n = digits_value 10 ds

    by : (b : Bool) → (get_or ds 0 0 == 48) ≡ b → replicate (k - length (decimal n)) 48 ++ decimal n ≡ ds
    by true q =
        let same = first (same_first (get_or ds 0 0) q) in
        ap (λ (m : ℕ). replicate (m - length (decimal n)) 48 ++ decimal n) (sym same) ∙ padded_back ds h (omega arith) small
    by false q =
        let same : decimal n ≡ ds = decimal-digits_value own ds h (omega arith) (λ z. other_first (get_or ds 0 0) q z _) small in
        let none : k - length ds ≡ 0 = omega arith in
        rw same (rw none refl)

-- a number without a point
pub plain_alone : (ds : List ℕ) (n : ℕ) → all_digits ds ≡ true → 0 < length ds → (get_or ds 0 0 ≡ 48 → length ds ≡ 1) → n ≡ digits_value_after 10 0 ds → n < 2 ^ 64 → IsPlainDecimal ds n 0
unfolding unsigned_text
plain_alone ds n h some first value small =
    record {
      is = sym (ap decimal value ∙ decimal-digits_value own ds h some first (omega arith));
      octets = digits_octets ds h;
    }

-- a number with a point
pointed_is : (ds whole fraction : List ℕ) (places : ℕ) (digits : List ℕ) → replicate (places + 1 - length digits) 48 ++ digits ≡ ds → ds ≡ whole ++ fraction → length fraction ≡ places
    → whole ++ 46 ∷ fraction ≡ pointed places digits
pointed_is ds whole fraction places digits padded e len = grind (arith, common_steps)

first_of : (whole fraction : List ℕ) → 0 < length whole → get_or (whole ++ fraction) 0 0 ≡ get_or whole 0 0
first_of [] fraction h = absurd (omega arith)
first_of (d ∷ whole) fraction h = refl

pub plain_pointed : (whole fraction : List ℕ) (m n places : ℕ) → all_digits whole ≡ true → all_digits fraction ≡ true → 0 < length whole → 0 < places → places ≡ length fraction
    → (get_or whole 0 0 ≡ 48 → length whole ≡ 1) → m ≡ digits_value_after 10 0 whole → n ≡ digits_value_after 10 m fraction → n < 2 ^ 64 → IsPlainDecimal (whole ++ 46 ∷ fraction) n places
unfolding unsigned_text
plain_pointed whole fraction m n zero hw hf sw sf len first hm hn small = absurd (omega arith)
plain_pointed whole fraction m n (suc p) hw hf sw sf len first hm hn small =
    let ds = whole ++ fraction in
    let value : n ≡ digits_value 10 ds = hn ∙ ap (λ (k : ℕ). digits_value_after 10 k fraction) hm ∙ sym (value_after-append 0 whole fraction) in
    let digits : all_digits ds ≡ true = list_all-append is_ascii_digit whole fraction ∙ rw (hw, hf) refl in
    let size = length-append whole fraction in
    let padded = padded_is ds (suc p + 1) digits (omega arith) (omega (arith, size)) (λ z. omega (arith, size, first (sym (first_of whole fraction sw) ∙ z))) (omega (arith, value)) in
    record {
      is = pointed_is ds whole fraction (suc p) (decimal n) (ap (λ (k : ℕ). replicate (suc p + 1 - length (decimal k)) 48 ++ decimal k) value ∙ padded) refl (sym len);
      octets = list_all-append is_decimal_octet whole (46 ∷ fraction) ∙ rw (digits_octets whole hw, digits_octets fraction hf) refl;
    }

zero_number : (places : ℕ) (scale : ℤ) → number_at false 0 places scale ≡ number_at true 0 places scale
zero_number places scale = grind (arith, common_steps)

-- The text of a number is read as its digits.
short_number_at : (negative : Bool) (n places : ℕ) (scale : ℤ) → n < 10 ^ 64 → decimal_value_of (decimal_text_of (signed_number negative n) (pos places)) scale ≡ number_at negative n places scale
unfolding decimal_text_of
short_number_at false n places scale h = read_alone (unsigned_text n (pos places)) n places scale (unsigned_is_decimal n places h)
short_number_at true zero places scale h = read_alone (unsigned_text 0 (pos places)) 0 places scale (unsigned_is_decimal 0 places h) ∙ zero_number places scale
short_number_at true (suc n) places scale h = search (rules, read_after_minus, unsigned_is_decimal)

-- the number of its text at a scale: its digits at its own scale, otherwise multiplied or divided
abbrev value_at : (negative : Bool) (n places : ℕ) (scale : ℤ) → Result ℤ NumberFault
value_at negative n places scale = decimal_value_of (decimal_text_of (signed_number negative n) (pos places)) scale

module _ (negative : Bool) (n places : ℕ) (scale : ℤ) (small : n < 2 ^ 128) where
  value_is : value_at negative n places scale ≡ number_at negative n places scale
  value_is = omega (arith, short_number_at)

  pub value_own : scale ≡ pos places → value_at negative n places scale ≡ signed negative n
  value_own e = cc (value_is, e, number_at_own negative n places)

  pub value_up : (up down : ℕ) (r : Result ℤ NumberFault) → up ≡ positive_scale scale → down ≡ negative_scale scale → places + down ≤ up → r ≡ signed negative (n * 10 ^ (up - (places + down)))
      → r ≡ value_at negative n places scale
  value_up up down r u d le e = search (rules, scaled_by_times, value_is)

  pub value_down : (up down : ℕ) (q : Result ℕ NumberFault) → up ≡ positive_scale scale → down ≡ negative_scale scale → up < places + down → q ≡ whole_quotient n (10 ^ (places + down - up))
      → (q >>= (signed negative)) ≡ value_at negative n places scale
  value_down up down q u d lt e = search (rules, scaled_by_quotient, value_is)

-- Digits at the start of a window are those at the start of the text. A zero that comes first is
-- the only digit before the point.
pub take_window : (text : List ℕ) (most count : ℕ) → count ≤ most → take count (take most text) ≡ take count text
take_window text most count le = grind (arith, common_steps)

pub first_taken : (text : List ℕ) (count : ℕ) → 0 < count → get_or (take count text) 0 0 ≡ get_or text 0 0
first_taken text count h = grind arith

-- A number of at most 19 digits fits.
small_value : (n : ℕ) (ds : List ℕ) → all_digits ds ≡ true → n ≡ digits_value_after 10 0 ds → length ds ≤ 19 → n < 2 ^ 64
small_value n ds h e few = search (rules, value-below)

pub prefix_alone : (text : List ℕ) (most count n : ℕ) → most ≤ 19 → count ≤ length (take most text) → 0 < count → (get_or (take most text) 0 0 ≡ 48 → count ≤ 1)
    → all_digits (take count (take most text)) ≡ true → n ≡ digits_value_after 10 0 (take count (take most text)) → IsPlainDecimal (take count text) n 0
prefix_alone text most count n few le some first h e =
    let window = take most text in
    let within : count ≤ most = omega (arith, length-take most text) in
    let ds = take count window in
    let size : length ds ≡ count = length-take-le count window le in
    subst (λ (t : List ℕ). IsPlainDecimal t n 0) (take_window text most count within)
    (plain_alone ds n h (omega arith) (λ z. omega (arith, size, first (sym (first_taken window count some) ∙ z))) e (small_value n ds h e (omega arith)))

pub prefix_pointed : (text fraction : List ℕ) (most count places m n : ℕ) → most ≤ 19 → count < length (take most text) → 0 < count → (get_or (take most text) 0 0 ≡ 48 → count ≤ 1)
    → get_or (take most text) count 0 ≡ 46 → fraction ≡ drop (count + 1) (take most text) → 0 < places → places ≤ length fraction → all_digits (take count (take most text)) ≡ true
    → m ≡ digits_value_after 10 0 (take count (take most text)) → all_digits (take places fraction) ≡ true → n ≡ digits_value_after 10 m (take places fraction)
    → IsPlainDecimal (take (count + 1 + places) text) n places
prefix_pointed text fraction most count places m n few lt some first point f sf le hw hm hf hn =
    let window = take most text in
    let whole = take count window in
    let part = take places fraction in
    let size : length whole ≡ count = length-take-le count window (omega arith) in
    let part_size : length part ≡ places = length-take-le places fraction le in
    let after : length fraction ≡ length window - (count + 1) = ap length f ∙ length-drop (count + 1) window in
    let within : count + 1 + places ≤ most = omega (arith, length-take most text) in
    let rest : drop count window ≡ 46 ∷ fraction = drop_more window count 0 lt ∙ rw (point, ← f) refl in
    let split : window ≡ whole ++ 46 ∷ fraction = sym (ap (λ (t : List ℕ). whole ++ t) (sym rest) ∙ take-append-drop count window) in
    let taken : take (count + 1 + places) window ≡ whole ++ 46 ∷ part = ap (take (count + 1 + places)) split ∙ take_both whole fraction count places (sym size) in
    let digits : all_digits (whole ++ part) ≡ true = list_all-append is_ascii_digit whole part ∙ rw (hw, hf) refl in
    let value : n ≡ digits_value_after 10 0 (whole ++ part) = hn ∙ ap (λ (k : ℕ). digits_value_after 10 k part) hm ∙ sym (value_after-append 0 whole part) in
    let small = small_value n (whole ++ part) digits value (omega (arith, length-append whole part)) in
    subst (λ (t : List ℕ). IsPlainDecimal t n places) (sym taken ∙ take_window text most (count + 1 + places) within)
    (plain_pointed whole part m n places hw hf (omega arith) sf (sym part_size) (λ z. omega (arith, size, first (sym (first_taken window count some) ∙ z))) hm hn small)
  where
    take_both : (xs ys : List ℕ) (count places : ℕ) → count ≡ length xs → take (count + 1 + places) (xs ++ 46 ∷ ys) ≡ xs ++ 46 ∷ take places ys
    take_both [] ys zero places e = let n : 0 + 1 + places ≡ suc places = omega arith in rw n refl
    take_both [] ys (suc count) places e = absurd (omega arith)
    take_both (x ∷ xs) ys zero places e = absurd (omega arith)
    take_both (x ∷ xs) ys (suc count) places e =
        let n : suc count + 1 + places ≡ suc (count + 1 + places) = omega arith in
        rw n (ap (λ (t : List ℕ). x ∷ t) (take_both xs ys count places (omega arith)))

-- a text with a minus sign, given the text after it
minus_then : (text body : List ℕ) (count : ℕ) → true ≡ starts_with_minus text → body ≡ unsigned_part text → take (count + 1) text ≡ 45 ∷ take count body
minus_then [] body count h e = absurd cc
minus_then (c ∷ text) body count h e = grind (arith, common_steps)

pub minus_text : (text body : List ℕ) (count n places : ℕ) → true ≡ starts_with_minus text → body ≡ unsigned_part text → IsPlainDecimal (take count body) n places → 0 < n
    → take (count + 1) text ≡ decimal_text_of (signed_number true n) (pos places)
unfolding decimal_text_of
minus_text text body count zero places h e d some = absurd (omega arith)
minus_text text body count (suc n) places h e d some = minus_then text body count h e ∙ ap (λ (t : List ℕ). 45 ∷ t) d.is

pub plain_text : (text body : List ℕ) (count n places : ℕ) → false ≡ starts_with_minus text → body ≡ unsigned_part text → IsPlainDecimal (take count body) n places
    → take count text ≡ decimal_text_of (signed_number false n) (pos places)
unfolding decimal_text_of
plain_text text body count n places h e d = grind (arith, common_steps)
