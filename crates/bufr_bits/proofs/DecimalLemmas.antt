-- Decimal texts by their parts, at a scale, and read back.
use Rattle.std.proofs.lemmas.Grind.{common_steps}
use Rattle.std.proofs.Common.{◌≡◌, ℕ, zero, suc, min, ◌+◌, ◌-◌, ◌*◌, ◌^◌, ◌<◌, ◌≤◌, ◌==◌, ◌&&◌, Bool, true, if◌then◌else◌, List, [], ◌∷◌, ◌++◌, length, take, get_or, Ok, Err, refl, sym, ap, ◌∙◌, subst, ⊎_elim, rules, arith, false, drop, Result, ℤ, length-drop, length-take-le, take-append-drop, replicate, pos, negsuc, length-append, drop-drop, lt-ltb, le-leb, append-nil, length-take, append_assoc, unsigned_abs}
use Rattle.std.specs.List.{list_all, position_or_len}
use Rattle.std.specs.Char.{digit_value, is_ascii_digit}
use Rattle.std.specs.Str.Parse.{digits_value, digits_value_after, starts_with_minus}
use Rattle.std.proofs.lemmas.Str.Parse.{IsNumeralModel, numerals_by_value, IsDigitsTest, digits_value_short}
use Rattle.std.proofs.lemmas.Nat.{pow-add}
use Rattle.std.proofs.lemmas.Bool.{cases_lt}
use Rattle.std.proofs.lemmas.Bool.Decides.{nat_tests}
use Rattle.std.proofs.Math.Nat.{pow-suc, one-le-pow, mul-le-mul_right, pow-le-pow_right}
use Rattle.std.proofs.lemmas.List.{take_all, drop_all, take_at, drop_at, length-replicate}
use Rattle.bufr_bits.specs.Prelude.{capped, capped_ok, all_digits, whole_quotient, scaled, signed, ◌>>=◌, IsParts, is_unsigned, unsigned_part, decimal_value_of, positive_scale, negative_scale, decimal_text_of, unsigned_text, pointed, whole_part, fraction_part, sign_of}
use Rattle.bufr_bits.specs.declared.decimal.NumberFault.TheVariants.{Inexact, Syntax}
use Rattle.bufr_bits.specs.declared.decimal.NumberFault.{NumberFault}
use Rattle.bufr_bits.proofs.BitLemmas.{list_all-append}
use lib.Signed.{mag}
use Rattle.std.specs.Fmt.{decimal}
use Rattle.std.proofs.lemmas.Fmt.{decimal_is_IsNumeral_wide}

-- When digits follow a number, the number moves up by as many decimal places.
move_up : (n d p q r : ℕ) → q ≡ p * 10 → (n * 10 + d) * p + r ≡ n * q + ((0 * 10 + d) * p + r)
move_up n d p q r e = rw e (omega arith)

pub value_after-is : (n : ℕ) (ds : List ℕ) → digits_value_after 10 n ds ≡ n * 10 ^ length ds + digits_value 10 ds
value_after-is n [] = omega arith
value_after-is n (d ∷ ds) =
    cc (
      value_after-is (n * 10 + digit_value d) ds,
      move_up n (digit_value d) (10 ^ length ds) (10 ^ suc (length ds)) (digits_value 10 ds) (pow-suc 10 (length ds)),
      value_after-is (0 * 10 + digit_value d) ds,
    )

pub value_after-append : (n : ℕ) (xs ys : List ℕ) → digits_value_after 10 n (xs ++ ys) ≡ digits_value_after 10 (digits_value_after 10 n xs) ys
value_after-append n [] ys = refl
value_after-append n (x ∷ xs) ys = value_after-append (n * 10 + digit_value x) xs ys

pub value-append : (xs ys : List ℕ) → digits_value 10 (xs ++ ys) ≡ digits_value 10 xs * 10 ^ length ys + digits_value 10 ys
value-append xs ys = rw (value_after-append, value_after-is)

digits_hold : IsDigitsTest (λ ds. all_digits ds ≡ true)
digits_hold = search rules

-- Lists of digits and their values form a numeral model of std.
pub own : IsNumeralModel (λ ds. all_digits ds ≡ true) (digits_value 10)
own = numerals_by_value (λ ds. all_digits ds ≡ true) digits_hold

pub value-below : (ds : List ℕ) → all_digits ds ≡ true → digits_value 10 ds < 10 ^ length ds
value-below ds h = digits_value_short own ds (length ds) h (omega arith)

-- a whole quotient, given its remainder
pub quotient_is : (n d q r : ℕ) → n ≡ q * d + r → r < d → whole_quotient n d ≡ (if r == 0 then Ok q else Err Inexact)
quotient_is n d q r e h = grind (arith, common_steps)

-- At a positive scale, the point moves right past digits of the fraction, then past zeros.
up_product : (a c d p q u : ℕ) → (a * (p * q) + (c * p + d)) * (u * q) ≡ (a * q + c) * u * (p * q) + d * (u * q)
up_product a c d p q u = omega arith

pub ten_pos : (k : ℕ) → 0 < 10 ^ k
ten_pos k = one-le-pow k 10 (omega arith)

pub product_zero : (d p : ℕ) → 0 < p → (d * p == 0) ≡ (d == 0)
product_zero zero p h = let none : 0 * p ≡ 0 = omega arith in grind (arith, nat_tests, none)
product_zero (suc d) p h = let some : 0 < suc d * p = omega arith in grind (arith, nat_tests, some)

pub sum_zero : (b p d : ℕ) → 0 < p → (b * p + d == 0) ≡ ((b == 0) && (d == 0))
sum_zero zero p d h = let none : 0 * p + d ≡ d = omega arith in ap (λ (m : ℕ). m == 0) none
sum_zero (suc b) p d h = let some : 0 < suc b * p + d = omega arith in grind (arith, nat_tests, some)

pub ten_split : (m i j : ℕ) → m ≡ i + j → 10 ^ m ≡ 10 ^ i * 10 ^ j
ten_split m i j e = rw (e, pow-add)

-- The remainder is small: digits remain after the point only if no zeros are appended.
left_small : (d f k up : ℕ) → k ≡ min up f → d < 10 ^ (f - k) → d * 10 ^ up < 10 ^ f
left_small d f k up e h =
    ⊎_elim
    (λ (many : f < up).
    let none : f - k ≡ 0 = omega arith in
    let below : d < 10 ^ 0 = subst (λ (m : ℕ). d < 10 ^ m) none h in
    let zero_left : d ≡ 0 = omega arith in
    let some = ten_pos f in
    let product : d * 10 ^ up ≡ 0 = rw zero_left (omega arith) in
    omega (arith, product, some))
    (λ (few : up ≤ f).
    let same : k ≡ up = omega arith in
    let below : d < 10 ^ (f - up) = subst (λ (m : ℕ). d < 10 ^ (f - m)) same h in
    let most = mul-le-mul_right (10 ^ up) below in
    let some = ten_pos up in
    let whole : 10 ^ f ≡ 10 ^ (f - up) * 10 ^ up = ten_split f (f - up) up (omega arith) in
    omega (arith, most, some, whole))
    (cases_lt f up)

pub exact_up : (a c d f k up : ℕ) → k ≡ min up f → d < 10 ^ (f - k)
    → whole_quotient ((a * 10 ^ f + (c * 10 ^ (f - k) + d)) * 10 ^ up) (10 ^ (f + 0)) ≡ (if d == 0 then Ok ((a * 10 ^ k + c) * 10 ^ (up - k)) else Err Inexact)
exact_up a c d f k up e h =
    let p = 10 ^ (f - k) in
    let q = 10 ^ k in
    let u = 10 ^ (up - k) in
    let ten_f : 10 ^ f ≡ p * q = ten_split f (f - k) k (omega arith) in
    let ten_f0 : 10 ^ (f + 0) ≡ p * q = ten_split (f + 0) (f - k) k (omega arith) in
    let ten_up : 10 ^ up ≡ u * q = ten_split up (up - k) k (omega arith) in
    let small : d * (u * q) < p * q = subst (λ (m : ℕ). d * m < p * q) ten_up (subst (λ (m : ℕ). d * 10 ^ up < m) ten_f (left_small d f k up e h)) in
    let product : (a * 10 ^ f + (c * p + d)) * 10 ^ up ≡ (a * q + c) * u * (p * q) + d * (u * q) = rw (ten_f, ten_up) (up_product a c d p q u) in
    ap (λ (m : ℕ). whole_quotient m (10 ^ (f + 0))) product ∙ ap (whole_quotient ((a * q + c) * u * (p * q) + d * (u * q))) ten_f0 ∙ quotient_is _ (p * q) ((a * q + c) * u) (d * (u * q)) refl small
    ∙ ap (λ (b : Bool). if b then Ok ((a * q + c) * u) else Err Inexact) (product_zero d (u * q) (subst (λ (m : ℕ). 0 < m) ten_up (ten_pos up)))

down_whole : (a b d w m f : ℕ) → (0 < m → a ≡ 0) → ((a * 10 ^ w + b) * 10 ^ f + d) * 1 ≡ a * 10 ^ (f + (w + m)) + (b * 10 ^ f + d)
down_whole a b d w zero f h =
    let split : 10 ^ (f + (w + 0)) ≡ 10 ^ f * 10 ^ w = ten_split (f + (w + 0)) f w (omega arith) in
    rw split (omega arith)
down_whole a b d w (suc m) f h = let none : a ≡ 0 = h (omega arith) in rw none (omega arith)

pub exact_down : (a b d w m f : ℕ) → b < 10 ^ w → d < 10 ^ f → (0 < m → a ≡ 0)
    → whole_quotient (((a * 10 ^ w + b) * 10 ^ f + d) * 1) (10 ^ (f + (w + m))) ≡ (if (b == 0) && (d == 0) then Ok a else Err Inexact)
exact_down a b d w m f hb hd ha =
    let rest = b * 10 ^ f + d in
    let more : 10 ^ (f + w) ≤ 10 ^ (f + (w + m)) = search (rules, pow-le-pow_right) in
    let small : rest < 10 ^ (f + (w + m)) = omega (arith, mul-le-mul_right (10 ^ f) hb, ten_split (f + w) w f (omega arith)) in
    cc ((down_whole a b d w m f ha), quotient_is _ (10 ^ (f + (w + m))) a rest refl small, sum_zero b (10 ^ f) d (ten_pos f))

-- Digits represent 0 if and only if they are all zeros.
pub zero_value : (ds : List ℕ) → all_digits ds ≡ true → (digits_value 10 ds == 0) ≡ list_all (λ d. d == 48) ds
zero_value [] h = cc
zero_value (d ∷ ds) h =
    let parts = digits_hold.parts d ds h in
    let here : (0 * 10 + digit_value d == 0) ≡ (d == 48) = grind (arith, nat_tests) in
    let moved = value_after-is (0 * 10 + digit_value d) ds in
    cc (sum_zero (0 * 10 + digit_value d) (10 ^ length ds) (digits_value 10 ds) (ten_pos (length ds)), here, zero_value ds parts.1)

pub value_after-more : (n : ℕ) (ds : List ℕ) (i : ℕ) → all_digits ds ≡ true → i < length ds
    → digits_value_after 10 n (take (i + 1) ds) ≡ digits_value_after 10 n (take i ds) * 10 + (get_or ds i 0 - 48)
value_after-more n ds i h lt = grind (arith, common_steps, value_after-append)

pub capped_step : (a b value product sum d : ℕ) → value ≡ capped a → product ≡ min (value * 10) (2 ^ 128 - 1) → sum ≡ min (product + d) (2 ^ 128 - 1) → b ≡ a * 10 + d → sum ≡ capped b
capped_step a b value product sum d ha hp hs hb = omega arith

pub capped_ten : (a b value product : ℕ) → value ≡ capped a → product ≡ min (value * 10) (2 ^ 128 - 1) → b ≡ a * 10 → product ≡ capped b
capped_ten a b value product ha hp hb = omega arith

pub ten_more : (n i : ℕ) → n * 10 ^ (i + 1) ≡ n * 10 ^ i * 10
ten_more n i = rw (ten_split (i + 1) i 1 refl) (omega arith)

-- The number of a decimal text at a scale, by the digits that are kept and those that are removed.

pub and_first : (a b : Bool) → (a && b) ≡ true → a ≡ true
and_first true b h = refl
and_first false b h = h

pub and_second : (a b : Bool) → (a && b) ≡ true → b ≡ true
and_second true b h = h
and_second false b h = absurd cc

pub all_digits-take : (n : ℕ) (ds : List ℕ) → all_digits ds ≡ true → all_digits (take n ds) ≡ true
all_digits-take n ds h = and_first (all_digits (take n ds)) (all_digits (drop n ds)) (sym (list_all-append is_ascii_digit (take n ds) (drop n ds)) ∙ ap all_digits (take-append-drop n ds) ∙ h)

pub all_digits-drop : (n : ℕ) (ds : List ℕ) → all_digits ds ≡ true → all_digits (drop n ds) ≡ true
all_digits-drop n ds h = and_second (all_digits (take n ds)) (all_digits (drop n ds)) (sym (list_all-append is_ascii_digit (take n ds) (drop n ds)) ∙ ap all_digits (take-append-drop n ds) ∙ h)

-- the number of digits that are cut in two
pub value_cut : (n : ℕ) (ds : List ℕ) → digits_value 10 ds ≡ digits_value 10 (take n ds) * 10 ^ (length ds - n) + digits_value 10 (drop n ds)
value_cut n ds = cc (take-append-drop n ds, value-append (take n ds) (drop n ds), length-drop n ds)

below_cut : (n : ℕ) (ds : List ℕ) → all_digits ds ≡ true → digits_value 10 (drop n ds) < 10 ^ (length ds - n)
below_cut n ds h = grind (arith, length-drop, value-below, all_digits-drop)

-- the number of the kept digits, or `Inexact` unless all removed digits are zeros
abbrev pub kept_or_inexact : (kept cut moved left : List ℕ) (zeros : ℕ) → Result ℕ NumberFault
kept_or_inexact kept cut moved left zeros =
    if list_all (λ d. d == 48) cut && list_all (λ d. d == 48) left then Ok (digits_value_after 10 (digits_value 10 kept) moved * 10 ^ zeros) else Err Inexact

-- the same, from the parts of a text and two powers of ten
abbrev pub kept_of : (whole fraction : List ℕ) (up down : ℕ) → Result ℕ NumberFault
kept_of whole fraction up down = kept_or_inexact (take (length whole - down) whole) (drop (length whole - down) whole) (take (min up (length fraction)) fraction)
    (drop (min up (length fraction)) fraction) (up - min up (length fraction))

scaled_up : (whole fraction : List ℕ) (up : ℕ) → all_digits whole ≡ true → all_digits fraction ≡ true
    → whole_quotient (digits_value 10 (whole ++ fraction) * 10 ^ up) (10 ^ (length fraction + 0)) ≡ kept_of whole fraction up 0
scaled_up whole fraction up hw hf =
    let f = length fraction in
    let k = min up f in
    let moved = take k fraction in
    let left = drop k fraction in
    let a = digits_value 10 whole in
    let c = digits_value 10 moved in
    let d = digits_value 10 left in
    let all : digits_value 10 (whole ++ fraction) ≡ a * 10 ^ f + (c * 10 ^ (f - k) + d) = value-append whole fraction ∙ ap (λ (m : ℕ). a * 10 ^ f + m) (value_cut k fraction) in
    let length_moved : length moved ≡ k = length-take-le k fraction (omega arith) in
    let after : a * 10 ^ k + c ≡ digits_value_after 10 a moved = ap (λ (m : ℕ). a * 10 ^ m + c) (sym length_moved) ∙ sym (value_after-is a moved) in
    let zeros : (d == 0) ≡ list_all (λ d. d == 48) left = zero_value left (all_digits-drop k fraction hf) in
    let none_cut : drop (length whole - 0) whole ≡ [] = drop_all (length whole - 0) whole (omega arith) in
    let all_kept : take (length whole - 0) whole ≡ whole = take_all (length whole - 0) whole (omega arith) in
    ap (λ (m : ℕ). whole_quotient (m * 10 ^ up) (10 ^ (f + 0))) all ∙ exact_up a c d f k up refl (below_cut k fraction hf)
    ∙ ap (λ (t : Bool). if t then Ok ((a * 10 ^ k + c) * 10 ^ (up - k)) else Err Inexact) zeros
    ∙ ap (λ (v : ℕ). if list_all (λ d. d == 48) left then Ok (v * 10 ^ (up - k)) else Err Inexact) after ∙ ap (λ (ds : List ℕ). kept_or_inexact ds [] moved left (up - k)) (sym all_kept)
    ∙ ap (λ (ds : List ℕ). kept_or_inexact (take (length whole - 0) whole) ds moved left (up - k)) (sym none_cut)

scaled_down : (whole fraction : List ℕ) (down : ℕ) → all_digits whole ≡ true → all_digits fraction ≡ true
    → whole_quotient (digits_value 10 (whole ++ fraction) * 10 ^ 0) (10 ^ (length fraction + down)) ≡ kept_of whole fraction 0 down
scaled_down whole fraction down hw hf =
    let f = length fraction in
    let n = length whole - down in
    let kept = take n whole in
    let cut = drop n whole in
    let a = digits_value 10 kept in
    let b = digits_value 10 cut in
    let d = digits_value 10 fraction in
    let w = length whole - n in
    let all : digits_value 10 (whole ++ fraction) ≡ (a * 10 ^ w + b) * 10 ^ f + d = value-append whole fraction ∙ ap (λ (m : ℕ). m * 10 ^ f + d) (value_cut n whole) in
    let zeros_cut : (b == 0) ≡ list_all (λ d. d == 48) cut = zero_value cut (all_digits-drop n whole hw) in
    let zeros_left : (d == 0) ≡ list_all (λ d. d == 48) fraction = zero_value fraction hf in
    let split : f + down ≡ f + (w + (down - w)) = omega arith in
    let none_kept : 0 < down - w → a ≡ 0 = λ (h : 0 < down - w). let none : n ≡ 0 = omega arith in ap (λ (m : ℕ). digits_value 10 (take m whole)) none in
    let value : a ≡ a * 1 = omega arith in
    let no_zeros : 0 - min 0 f ≡ 0 = omega arith in
    let none_moved : min 0 f ≡ 0 = omega arith in
    ap (λ (m : ℕ). whole_quotient (m * 1) (10 ^ (f + down))) all ∙ ap (λ (m : ℕ). whole_quotient (((a * 10 ^ w + b) * 10 ^ f + d) * 1) (10 ^ m)) split
    ∙ exact_down a b d w (down - w) f (below_cut n whole hw) (value-below fraction hf) none_kept ∙ ap (λ (t : Bool). if t && (d == 0) then Ok a else Err Inexact) zeros_cut
    ∙ ap (λ (t : Bool). if list_all (λ d. d == 48) cut && t then Ok a else Err Inexact) zeros_left
    ∙ ap (λ (v : ℕ). if list_all (λ d. d == 48) cut && list_all (λ d. d == 48) fraction then Ok v else Err Inexact) value
    ∙ ap (λ (m : ℕ). kept_or_inexact kept cut (take m fraction) (drop m fraction) (0 - m)) (sym none_moved)

pub scaled_by_parts : (whole fraction : List ℕ) (up down : ℕ) → all_digits whole ≡ true → all_digits fraction ≡ true → (0 < down → up ≡ 0)
    → whole_quotient (digits_value 10 (whole ++ fraction) * 10 ^ up) (10 ^ (length fraction + down)) ≡ kept_of whole fraction up down
scaled_by_parts whole fraction up zero hw hf h = search (rules, scaled_up)
scaled_by_parts whole fraction up (suc less) hw hf h = grind (arith, scaled_down)

-- the parts of a text, as the code computes them
pub record AreKept (whole fraction : List ℕ) (up down : ℕ) (kept cut moved left : List ℕ) : Type 0 where
  pub kept_is : kept ≡ take (length whole - down) whole
  pub cut_is : cut ≡ drop (length whole - down) whole
  pub moved_is : moved ≡ take (min up (length fraction)) fraction
  pub left_is : left ≡ drop (min up (length fraction)) fraction

pub answer_by_parts : (whole fraction : List ℕ) (up down : ℕ) (kept cut moved left : List ℕ) → all_digits whole ≡ true → all_digits fraction ≡ true → (0 < down → up ≡ 0)
    → AreKept whole fraction up down kept cut moved left → whole_quotient (digits_value 10 (whole ++ fraction) * 10 ^ up) (10 ^ (length fraction + down))
    ≡ kept_or_inexact kept cut moved left (up - min up (length fraction))
answer_by_parts whole fraction up down kept cut moved left hw hf one h = grind (arith, common_steps, scaled_by_parts)

pub answer_ok : (whole fraction : List ℕ) (up down : ℕ) (kept cut moved left : List ℕ) (times r : ℕ) → all_digits whole ≡ true → all_digits fraction ≡ true → (0 < down → up ≡ 0)
    → AreKept whole fraction up down kept cut moved left → list_all (λ d. d == 48) cut ≡ true → list_all (λ d. d == 48) left ≡ true → times ≡ up - min up (length fraction)
    → r ≡ capped (digits_value_after 10 (digits_value 10 kept) moved * 10 ^ times) → Ok r ≡ capped_ok (whole_quotient (digits_value 10 (whole ++ fraction) * 10 ^ up) (10 ^ (length fraction + down)))
answer_ok whole fraction up down kept cut moved left times r hw hf one h zero_cut zero_left t e =
    let answer = answer_by_parts whole fraction up down kept cut moved left hw hf one h in
    let value = digits_value_after 10 (digits_value 10 kept) moved in
    let found : kept_or_inexact kept cut moved left (up - min up (length fraction)) ≡ Ok (value * 10 ^ (up - min up (length fraction))) = cc in
    cc

pub answer_inexact : (whole fraction : List ℕ) (up down : ℕ) (kept cut moved left : List ℕ) → all_digits whole ≡ true → all_digits fraction ≡ true → (0 < down → up ≡ 0)
    → AreKept whole fraction up down kept cut moved left → (list_all (λ d. d == 48) cut && list_all (λ d. d == 48) left) ≡ false
    → Err Inexact ≡ capped_ok (whole_quotient (digits_value 10 (whole ++ fraction) * 10 ^ up) (10 ^ (length fraction + down)))
answer_inexact whole fraction up down kept cut moved left hw hf one h none =
    let answer = answer_by_parts whole fraction up down kept cut moved left hw hf one h in
    let found : kept_or_inexact kept cut moved left (up - min up (length fraction)) ≡ Err Inexact = cc in
    cc

pub are_kept : (whole fraction : List ℕ) (up down n m : ℕ) (kept cut moved left : List ℕ) → n ≡ length whole - down → m ≡ min up (length fraction) → kept ≡ take n whole → cut ≡ drop n whole
    → moved ≡ take m fraction → left ≡ drop m fraction → AreKept whole fraction up down kept cut moved left
are_kept whole fraction up down n m kept cut moved left hn hm a b c d = record {
  kept_is = a ∙ ap (λ (k : ℕ). take k whole) hn;
  cut_is = b ∙ ap (λ (k : ℕ). drop k whole) hn;
  moved_is = c ∙ ap (λ (k : ℕ). take k fraction) hm;
  left_is = d ∙ ap (λ (k : ℕ). drop k fraction) hm;
}

capped_err : (q : Result ℕ NumberFault) (fault : NumberFault) → Err fault ≡ capped_ok q → q ≡ Err fault
capped_err (Ok m) fault e = absurd cc
capped_err (Err f) fault e = sym e

capped_found : (q : Result ℕ NumberFault) (n : ℕ) → Ok n ≡ capped_ok q → (m : ℕ) × (q ≡ Ok m) × (n ≡ capped m)
capped_found (Ok m) n e = (m, refl, cc)
capped_found (Err f) n e = absurd cc

-- the result of reading a text, by what the code found
pub read_syntax : (text body : List ℕ) (scale : ℤ) → body ≡ unsigned_part text → is_unsigned body ≡ false → Err Syntax ≡ decimal_value_of text scale
unfolding decimal_value_of
read_syntax text body scale b h = cc

value_by_parts : (text body whole fraction : List ℕ) (scale : ℤ) → body ≡ unsigned_part text → IsParts body whole fraction
    → decimal_value_of text scale ≡ ((scaled (whole ++ fraction) (length fraction) scale) >>= (signed (starts_with_minus text)))
unfolding decimal_value_of
value_by_parts text body whole fraction scale b h = cc

-- the quotient by the powers of ten that the code uses
abbrev quotient_of : (whole fraction : List ℕ) (up down : ℕ) → Result ℕ NumberFault
quotient_of whole fraction up down = whole_quotient (digits_value 10 (whole ++ fraction) * 10 ^ up) (10 ^ (length fraction + down))

value_by_powers : (text body whole fraction : List ℕ) (scale : ℤ) (up down : ℕ) → body ≡ unsigned_part text → IsParts body whole fraction → up ≡ positive_scale scale → down ≡ negative_scale scale
    → decimal_value_of text scale ≡ ((quotient_of whole fraction up down) >>= (signed (starts_with_minus text)))
value_by_powers text body whole fraction scale up down b h hu hd = grind (arith, common_steps, value_by_parts)

pub read_fault : (text body whole fraction : List ℕ) (scale : ℤ) (up down : ℕ) (fault : NumberFault) (r : Result ℤ NumberFault) → body ≡ unsigned_part text → IsParts body whole fraction
    → up ≡ positive_scale scale → down ≡ negative_scale scale → Err fault ≡ capped_ok (whole_quotient (digits_value 10 (whole ++ fraction) * 10 ^ up) (10 ^ (length fraction + down))) → r ≡ Err fault
    → r ≡ decimal_value_of text scale
read_fault text body whole fraction scale up down fault r b h hu hd e result =
    let quotient = capped_err (quotient_of whole fraction up down) fault e in
    let value = value_by_powers text body whole fraction scale up down b h hu hd in
    cc

pub read_found : (text body whole fraction : List ℕ) (scale : ℤ) (up down n : ℕ) (negative : Bool) (r : Result ℤ NumberFault) → body ≡ unsigned_part text → IsParts body whole fraction
    → up ≡ positive_scale scale → down ≡ negative_scale scale → negative ≡ starts_with_minus text
    → Ok n ≡ capped_ok (whole_quotient (digits_value 10 (whole ++ fraction) * 10 ^ up) (10 ^ (length fraction + down))) → ((m : ℕ) → n ≡ capped m → r ≡ signed negative m)
    → r ≡ decimal_value_of text scale
read_found text body whole fraction scale up down n negative r b h hu hd hn e result =
    let found = capped_found (quotient_of whole fraction up down) n e in
    let value = value_by_powers text body whole fraction scale up down b h hu hd in
    let whole_value = value ∙ ap (λ (q : Result ℕ NumberFault). (q >>= (signed (starts_with_minus text)))) found.1 in
    result found.0 found.2 ∙ ap (λ (s : Bool). signed s found.0) hn ∙ sym whole_value

-- ---- A decimal text is read back at the same scale.

-- A digit is neither a point nor a minus sign.
digit_no_point : (c : ℕ) → is_ascii_digit c ≡ true → (c == 46) ≡ false
digit_no_point c h = grind arith

digit_no_minus : (c : ℕ) → is_ascii_digit c ≡ true → (c == 45) ≡ false
digit_no_minus c h = grind arith

-- the index of the first point
pub point_after : (whole fraction : List ℕ) → all_digits whole ≡ true → position_or_len (λ c. c == 46) (whole ++ 46 ∷ fraction) ≡ length whole
point_after [] fraction h = refl
point_after (d ∷ whole) fraction h =
    let digit = digit_no_point d (and_first (is_ascii_digit d) (all_digits whole) h) in
    let rest = point_after whole fraction (and_second (is_ascii_digit d) (all_digits whole) h) in
    rw digit (omega (arith, rest))

pub point_nowhere : (whole : List ℕ) → all_digits whole ≡ true → position_or_len (λ c. c == 46) whole ≡ length whole
point_nowhere [] h = cc
point_nowhere (d ∷ whole) h =
    let rest = point_nowhere whole (and_second (is_ascii_digit d) (all_digits whole) h) in
    grind arith

-- leading zeros
pub zeros_digits : (k : ℕ) → all_digits (replicate k 48) ≡ true
zeros_digits zero = refl
zeros_digits (suc k) = zeros_digits k

pub zeros_value : (k : ℕ) → digits_value 10 (replicate k 48) ≡ 0
zeros_value zero = refl
zeros_value (suc k) = zeros_value k

-- the parts of a text with a point
pub whole_with_point : (whole fraction : List ℕ) → all_digits whole ≡ true → whole_part (whole ++ 46 ∷ fraction) ≡ whole
whole_with_point whole fraction h = rw (point_after, take_at)

pub fraction_with_point : (whole fraction : List ℕ) → all_digits whole ≡ true → fraction_part (whole ++ 46 ∷ fraction) ≡ fraction
fraction_with_point whole fraction h = cc (point_after whole fraction h, drop-drop 1 (length whole) (whole ++ 46 ∷ fraction), drop_at whole (46 ∷ fraction) (length whole) refl)

-- the parts of a text of digits only
pub whole_alone : (whole : List ℕ) → all_digits whole ≡ true → whole_part whole ≡ whole
whole_alone whole h = grind (arith, point_nowhere, take_all)

pub fraction_alone : (whole : List ℕ) → all_digits whole ≡ true → fraction_part whole ≡ []
fraction_alone whole h = omega (arith, point_nowhere, drop_all)

pub form_alone : (whole : List ℕ) → 0 < length whole → all_digits whole ≡ true → is_unsigned whole ≡ true
form_alone whole sw hw = search (rules, whole_alone)

exact_quotient : (n k m : ℕ) → m ≡ k → whole_quotient (n * 10 ^ k) (10 ^ m) ≡ Ok n
exact_quotient n k m e = quotient_is (n * 10 ^ k) (10 ^ m) n 0 (rw e (omega arith)) (ten_pos m)

first_digit : (ds more : List ℕ) → 0 < length ds → all_digits ds ≡ true → is_ascii_digit (get_or (ds ++ more) 0 0) ≡ true
first_digit ds more h all = grind (arith, common_steps)

-- an unsigned text, by the number that its digits represent and the number of decimal places
pub record IsDecimalOf (text : List ℕ) (n places : ℕ) : Type 0 where
  pub form : is_unsigned text ≡ true
  pub value : digits_value 10 (whole_part text ++ fraction_part text) ≡ n
  pub after : length (fraction_part text) ≡ places
  pub first : is_ascii_digit (get_or text 0 0) ≡ true

decimal_with_point : (whole fraction : List ℕ) (n places : ℕ) → 0 < length whole → 0 < length fraction → all_digits whole ≡ true → all_digits fraction ≡ true → length fraction ≡ places
    → digits_value 10 (whole ++ fraction) ≡ n → IsDecimalOf (whole ++ 46 ∷ fraction) n places
decimal_with_point whole fraction n places sw sf hw hf len e = search (rules, fraction_with_point, whole_with_point, first_digit)

decimal_alone : (whole : List ℕ) (n : ℕ) → 0 < length whole → all_digits whole ≡ true → digits_value 10 whole ≡ n → IsDecimalOf whole n 0
decimal_alone whole n sw hw e =
    let f = fraction_alone whole hw in
    record {
      form = form_alone whole sw hw;
      value = rw (whole_alone whole hw, f, append-nil whole) e;
      after = ap length f;
      first = rw append-nil at (first_digit whole [] sw hw);
    }

decimal_digits : (n : ℕ) → n < 10 ^ 64 → all_digits (decimal n) ≡ true
decimal_digits n h = own.from (decimal n) (decimal_is_IsNumeral_wide n h).0.1

decimal_some : (n : ℕ) → n < 10 ^ 64 → 0 < length (decimal n)
decimal_some n h = (decimal_is_IsNumeral_wide n h).0.0

decimal_value : (n : ℕ) → n < 10 ^ 64 → digits_value 10 (decimal n) ≡ n
decimal_value n h = (decimal_is_IsNumeral_wide n h).1

pub padded_value : (count : ℕ) (d : List ℕ) (n : ℕ) → digits_value 10 d ≡ n → digits_value 10 (replicate count 48 ++ d) ≡ n
padded_value count d n e = grind (arith, common_steps, zeros_value, value-append)

zeros_after_value : (count : ℕ) (d : List ℕ) (n : ℕ) → digits_value 10 d ≡ n → digits_value 10 (d ++ replicate count 48) ≡ n * 10 ^ count
zeros_after_value count d n e = grind (arith, common_steps, value-append, zeros_value, length-replicate)

pointed_is_decimal : (n places : ℕ) → n < 10 ^ 64 → IsDecimalOf (pointed (suc places) (decimal n)) n (suc places)
pointed_is_decimal n places h =
    let d = decimal n in
    let count = suc places + 1 - length d in
    let padded = replicate count 48 ++ d in
    let w = length padded - suc places in
    let long = length-append (replicate count 48) d in
    let zeros_long : length (replicate {A = ℕ} count 48) ≡ count = length-replicate count 48 in
    let all : all_digits padded ≡ true = list_all-append is_ascii_digit (replicate count 48) d ∙ ap (λ (t : Bool). t && all_digits d) (zeros_digits count) ∙ decimal_digits n h in
    let value : digits_value 10 padded ≡ n = padded_value count d n (decimal_value n h) in
    let both : digits_value 10 (take w padded ++ drop w padded) ≡ n = ap (digits_value 10) (take-append-drop w padded) ∙ value in
    decimal_with_point (take w padded) (drop w padded) n (suc places) (omega (arith, length-take w padded)) (omega (arith, length-drop w padded)) (all_digits-take w padded all)
    (all_digits-drop w padded all) (omega (arith, length-drop w padded)) both

-- The text of a number is read as this number, with as many decimal places as its scale.
pub unsigned_is_decimal : (n places : ℕ) → n < 10 ^ 64 → IsDecimalOf (unsigned_text n (pos places)) n places
unfolding unsigned_text
unsigned_is_decimal n zero h = decimal_alone (decimal n) n (decimal_some n h) (decimal_digits n h) (decimal_value n h)
unsigned_is_decimal n (suc places) h = pointed_is_decimal n places h

zeros_are_decimal : (n less : ℕ) → n < 10 ^ 64 → IsDecimalOf (unsigned_text n (negsuc less)) (n * 10 ^ suc less) 0
unfolding unsigned_text
zeros_are_decimal zero less h = decimal_alone (decimal 0) (0 * 10 ^ suc less) (decimal_some 0 h) (decimal_digits 0 h) (decimal_value 0 h ∙ omega arith)
zeros_are_decimal (suc n) less h =
    let d = decimal (suc n) in
    let zeros = replicate {A = ℕ} (suc less) 48 in
    decimal_alone (d ++ zeros) (suc n * 10 ^ suc less) (omega (arith, length-append d zeros))
    (list_all-append is_ascii_digit d zeros ∙ ap (λ (t : Bool). t && all_digits zeros) (decimal_digits (suc n) h) ∙ zeros_digits (suc less))
    (zeros_after_value (suc less) d (suc n) (decimal_value (suc n) h))

no_sign : (text : List ℕ) → is_ascii_digit (get_or text 0 0) ≡ true → starts_with_minus text ≡ false
no_sign text h = digit_no_minus (get_or text 0 0) h

-- the number that digits represent at a scale, or a fault
abbrev pub number_at : (negative : Bool) (n places : ℕ) (scale : ℤ) → Result ℤ NumberFault
number_at negative n places scale = ((whole_quotient (n * 10 ^ positive_scale scale) (10 ^ (places + negative_scale scale))) >>= (signed negative))

-- A text is read as its digits, with or without a minus sign.
pub read_after_minus : (text : List ℕ) (n places : ℕ) (scale : ℤ) → IsDecimalOf text n places → decimal_value_of (45 ∷ text) scale ≡ number_at true n places scale
unfolding decimal_value_of
read_after_minus text n places scale h = rw (h.form, h.value, h.after) refl

pub read_alone : (text : List ℕ) (n places : ℕ) (scale : ℤ) → IsDecimalOf text n places → decimal_value_of text scale ≡ number_at false n places scale
unfolding decimal_value_of
read_alone text n places scale h = rw (no_sign text h.first, h.form, h.value, h.after) refl

-- At its own scale, the number is that of its digits.
pub number_at_own : (negative : Bool) (n places : ℕ) → number_at negative n places (pos places) ≡ signed negative n
number_at_own negative n places = search (rules, exact_quotient)

number_at_zeros : (negative : Bool) (n less : ℕ) → number_at negative (n * 10 ^ suc less) 0 (negsuc less) ≡ signed negative n
number_at_zeros negative n less = grind (arith, exact_quotient n (suc less) (0 + (less + 1)) (omega arith))

fits_signed : (n : ℕ) → n < 2 ^ 127 → signed false n ≡ Ok (pos n)
fits_signed n h = simp lt-ltb

fits_minus : (n : ℕ) → n < 2 ^ 127 → signed true (suc n) ≡ Ok (negsuc n)
fits_minus n h = simp le-leb

-- A written decimal text is read back as the same number.
pub reads_back : (v scale : ℤ) → mag v < 2 ^ 127 → decimal_value_of (decimal_text_of v scale) scale ≡ Ok v
unfolding decimal_text_of
reads_back (pos n) (pos places) h = read_alone (unsigned_text n (pos places)) n places (pos places) (unsigned_is_decimal n places (omega arith)) ∙ number_at_own false n places ∙ fits_signed n h
reads_back (pos n) (negsuc less) h = read_alone (unsigned_text n (negsuc less)) (n * 10 ^ suc less) 0 (negsuc less) (zeros_are_decimal n less (omega arith)) ∙ number_at_zeros false n less
    ∙ fits_signed n h
reads_back (negsuc n) (pos places) h = read_after_minus (unsigned_text (suc n) (pos places)) (suc n) places (pos places) (unsigned_is_decimal (suc n) places (omega arith))
    ∙ number_at_own true (suc n) places ∙ fits_minus n h
reads_back (negsuc n) (negsuc less) h = read_after_minus (unsigned_text (suc n) (negsuc less)) (suc n * 10 ^ suc less) 0 (negsuc less) (zeros_are_decimal (suc n) less (omega arith))
    ∙ number_at_zeros true (suc n) less ∙ fits_minus n h

-- ---- Decimal text, as it is written in parts.

-- the text after the sign, with a point
unsigned_pointed : (n : ℕ) (scale : ℤ) (places : ℕ) → 0 < places → places ≡ positive_scale scale → pointed places (decimal n) ≡ unsigned_text n scale
unfolding unsigned_text
unsigned_pointed n (pos zero) places h e = absurd (omega arith)
unsigned_pointed n (pos (suc m)) places h e = ap (λ (k : ℕ). pointed k (decimal n)) e
unsigned_pointed n (negsuc m) places h e = absurd (omega arith)

not_zero : (n : ℕ) → (suc n == 0) ≡ false
not_zero n = grind arith

-- the zeros that follow a number; 0 has none
pub some_zeros : (size power : ℕ) → 0 < size → power ≡ (if size == 0 then 0 else power)
some_zeros zero power h = absurd (omega arith)
some_zeros (suc n) power h = rw (not_zero n) refl

pub no_zeros : (size power : ℕ) → size ≤ 0 → 0 ≡ (if size == 0 then 0 else power)
no_zeros zero power h = refl
no_zeros (suc n) power h = absurd (omega arith)

-- the text after the sign, without a point, and with zeros after its digits
unsigned_plain : (n : ℕ) (scale : ℤ) (places power count : ℕ) → places ≤ 0 → places ≡ positive_scale scale → power ≡ negative_scale scale → count ≡ (if n == 0 then 0 else power)
    → decimal n ++ replicate count 48 ≡ unsigned_text n scale
unfolding unsigned_text
unsigned_plain zero (pos zero) places power count h u d z = rw z (append-nil (decimal 0))
unsigned_plain (suc n) (pos zero) places power count h u d z = rw (z, not_zero n, d) (append-nil (decimal (suc n)))
unsigned_plain n (pos (suc m)) places power count h u d z = absurd (omega arith)
unsigned_plain zero (negsuc m) places power count h u d z = rw z (append-nil (decimal 0))
unsigned_plain (suc n) (negsuc m) places power count h u d z = grind (arith, common_steps)

pub text_pointed : (old kept after new digits : List ℕ) (v scale : ℤ) (size places : ℕ) → 0 < places → places ≡ positive_scale scale → size ≡ unsigned_abs v → digits ≡ decimal size
    → after ≡ kept ++ sign_of v → kept ≡ old → new ≡ after ++ pointed places digits → new ≡ old ++ decimal_text_of v scale
unfolding decimal_text_of
text_pointed old kept after new digits v scale size places h u s d a k e = grind (arith, common_steps, unsigned_pointed, append_assoc)

pub text_plain : (old kept after before new digits : List ℕ) (v scale : ℤ) (size places power count : ℕ) → places ≤ 0 → places ≡ positive_scale scale → power ≡ negative_scale scale
    → size ≡ unsigned_abs v → digits ≡ decimal size → count ≡ (if size == 0 then 0 else power) → after ≡ kept ++ sign_of v → kept ≡ old → before ≡ after ++ digits → new ≡ before ++ replicate count 48
    → new ≡ old ++ decimal_text_of v scale
unfolding decimal_text_of
text_plain old kept after before new digits v scale size places power count h u p s d z a k b e = grind (arith, common_steps, unsigned_plain, append_assoc)
