-- The decimal text of numbers, digit by digit and at a scale, and the texts of octets.
use Rattle.std.proofs.Common.{◌≡◌, ℕ, ◌≤◌, List, ◌++◌, length, take, drop, ◌∙◌, ap, Option, None, Some, Ok, Err, append_assoc, ◌+◌, zero, suc, [], ◌∷◌, replicate, refl, subst, arith, append-nil, length-append, map, inl, inr, codes, ◌-◌, ◌<◌, Bool, true, false, ◌*◌, ◌/◌, ◌%◌, ◌^◌, ◌&&◌, T, eqb, eqb→eq, eq-zero-or-pos, get_or, length-drop, int_lt, ◌==◌, if◌then◌else◌, not, ℤ, pos, negsuc, min, option_map, Result, flat_map, decimal, unwrap_or, IsTrue, ◌↔◌, is_some, unsigned_abs, slice_index}
use Rattle.std.proofs.lemmas.List.{take_rest, take-append-drop, length-take-le, take_all, length-replicate, at_drop_more, at_drop_all, take_more, length-set, take_more_set}
use Rattle.bufr_text.specs.Prelude.{zero_padded, escaped, hex_pair, hex_text, is_unescaped, quoted}
use Rattle.std.proofs.lemmas.Grind.{common_steps}
use Rattle.bufr_tables.specs.Prelude.{places}
use Rattle.std.specs.Int.{from_bool}
use Rattle.std.proofs.lemmas.Bool.{cases_lt}
use lib.Ieee.Fits.{and_l, and_r}
use Rattle.itoa.proofs.Decimal.{decimal_pair, decimal_two}
use Rattle.bufr_text.specs.declared.numbers.TheConstants.{PAIRS}
use Rattle.bufr_text.specs.declared.line.TheConstants.{UNESCAPED}
use Rattle.bufr_bits.specs.Prelude.{pointed, decimal_text_of, unsigned_text, sign_of}
use Rattle.std.proofs.lemmas.Fmt.{decimal_digit, decimal_step, decimal_nonempty}
use Rattle.std.proofs.lemmas.Bool.Decides.{nat_tests}
use Rattle.std.specs.Char.{is_ascii_digit}
use Rattle.std.specs.Fmt.{digits}
use Rattle.std.specs.Str.Parse.{digits_value}
use Rattle.std.specs.List.{list_all}
use Rattle.bufr_bits.proofs.DecimalLemmas.{value-append}
use Rattle.bufr_text.proofs.PushLemmas.{puts_retold, puts_then, puts_first}

-- The first `at` octets are digits, and n is the number that they represent, at most 65,536.
pub record IsNumberTo (text : List ℕ) (at n : ℕ) : Type 0 where
  pub digits : list_all is_ascii_digit (take at text) ≡ true
  pub value : n ≡ min (digits_value 10 (take at text)) 65536

step_long : (m n : ℕ) → 10 ≤ n → n < 2 ^ 64 → zero_padded (m + 1) n ≡ zero_padded m (n / 10) ++ (48 + n % 10) ∷ []
step_long m n h1 h2 = grind (arith, common_steps, decimal_step)

step_short : (k n : ℕ) → n < 10 → zero_padded (suc k + 1) n ≡ zero_padded (suc k) (n / 10) ++ (48 + n % 10) ∷ []
step_short k n h1 = grind (arith, common_steps, decimal_digit)

-- If a number is padded to at least two digits, its last digit follows the others.
zero_padded_step : (m n : ℕ) → 1 ≤ m → n < 2 ^ 64 → zero_padded (m + 1) n ≡ zero_padded m (n / 10) ++ (48 + n % 10) ∷ []
zero_padded_step zero n some fits = absurd (omega arith)
zero_padded_step (suc k) n some fits = elim (cases_lt n 10) [ inl few ↦ step_short k n few | inr long ↦ step_long (suc k) n long fits ]

-- A number that is padded to one digit has no leading zero.
zero_padded_one : (n : ℕ) → n < 2 ^ 64 → zero_padded 1 n ≡ decimal n
zero_padded_one n h1 = grind (arith, decimal_nonempty)

-- the length of a number with leading zeros
pub length_zero_padded : (digits n : ℕ) → length (zero_padded digits n) ≡ digits - length (decimal n) + length (decimal n)
length_zero_padded digits n = rw (length-append, length-replicate)

-- a point before the last `places` octets
point_before : (whole fraction all : List ℕ) (places : ℕ) → whole ++ fraction ≡ all → length fraction ≡ places
    → whole ++ 46 ∷ fraction ≡ take (length all - places) all ++ 46 ∷ drop (length all - places) all
point_before whole fraction all places h1 h2 = grind (arith, common_steps)

-- whether `PAIRS` contains the two digits of each number below this one
abbrev are_pairs : ℕ → Bool
are_pairs zero = true
are_pairs (suc p) = (eqb (get_or PAIRS (p * 2) 0) (48 + p / 10) && eqb (get_or PAIRS (p * 2 + 1) 0) (48 + p % 10)) && are_pairs p

pub pairs_below : (n p : ℕ) → T (are_pairs n) → p < n → (get_or PAIRS (p * 2) 0 ≡ 48 + p / 10) × (get_or PAIRS (p * 2 + 1) 0 ≡ 48 + p % 10)
pairs_below zero p t h = absurd (omega arith)
pairs_below (suc n) p t h =
    elim (eq-zero-or-pos (n - p)) [
      | inl z ↦ let e : p ≡ n = omega arith in let a = and_l _ (are_pairs n) t in rw e (eqb→eq _ _ (and_l _ _ a), eqb→eq _ _ (and_r _ _ a))
      | inr g ↦ pairs_below n p (and_r _ (are_pairs n) t) (omega arith)
    ]

-- The digits of n / 100 are those of n / 10,000, followed by two more.
pub decimal_hundreds : (n : ℕ) → 10000 ≤ n → n < 2 ^ 64 → decimal (n / 10000) ++ (48 + n / 100 % 100 / 10) ∷ (48 + n / 100 % 100 % 10) ∷ [] ≡ decimal (n / 100)
decimal_hundreds n h1 h2 = grind (arith, decimal_pair)

-- The last two digits of a padded number follow its other digits.
padded_pair : (m n : ℕ) → 1 ≤ m → n < 2 ^ 64 → zero_padded (m + 2) n ≡ zero_padded m (n / 100) ++ (48 + n % 100 / 10) ∷ (48 + n % 100 % 10) ∷ []
padded_pair m n some fits =
    let ten : List ℕ = (48 + n / 10 % 10) ∷ [] in
    let one : List ℕ = (48 + n % 10) ∷ [] in
    let a : n / 10 / 10 ≡ n / 100 = omega arith in
    let b : n / 10 % 10 ≡ n % 100 / 10 = omega arith in
    let c : n % 10 ≡ n % 100 % 10 = omega arith in
    let e : m + 2 ≡ m + 1 + 1 = omega arith in
    cc (e, zero_padded_step (m + 1) n (omega arith) fits, zero_padded_step m (n / 10) some (omega arith), append_assoc (zero_padded m (n / 10 / 10)) ten one, b, c)

-- numbers that are padded to two digits, and to four
pub padded_two : (n : ℕ) → n < 100 → zero_padded 2 n ≡ (48 + n / 10) ∷ (48 + n % 10) ∷ []
padded_two n few =
    zero_padded_step 1 n (omega arith) (omega arith) ∙ ap (λ t. t ++ (48 + n % 10) ∷ []) (zero_padded_one (n / 10) (omega arith) ∙ decimal_digit (n / 10) (omega arith))

pub padded_four : (n : ℕ) → n < 10000 → zero_padded 4 n ≡ (48 + n / 100 / 10) ∷ (48 + n / 100 % 10) ∷ (48 + n % 100 / 10) ∷ (48 + n % 100 % 10) ∷ []
padded_four n few = cc (padded_pair 2 n (omega arith) (omega arith), padded_two (n / 100) (omega arith))

-- numbers with one digit after the point, and with two
pub tenths_put : (n : ℕ) → n < 2 ^ 64 → decimal (n / 10) ++ 46 ∷ (48 + n % 10) ∷ [] ≡ pointed 1 (decimal n)
tenths_put n fits =
    let last : List ℕ = (48 + n % 10) ∷ [] in
    let split : decimal (n / 10) ++ last ≡ zero_padded (1 + 1) n = cc (zero_padded_one (n / 10) (omega arith), zero_padded_step 1 n (omega arith) fits) in
    point_before (decimal (n / 10)) last (zero_padded (1 + 1) n) 1 split refl

pub hundredths_put : (n : ℕ) → n < 2 ^ 64 → decimal (n / 100) ++ 46 ∷ (48 + n % 100 / 10) ∷ (48 + n % 100 % 10) ∷ [] ≡ pointed 2 (decimal n)
hundredths_put n fits =
    let last : List ℕ = (48 + n % 100 / 10) ∷ (48 + n % 100 % 10) ∷ [] in
    let split : decimal (n / 100) ++ last ≡ zero_padded (2 + 1) n = cc (zero_padded_one (n / 100) (omega arith), padded_pair 1 n (omega arith) fits) in
    point_before (decimal (n / 100)) last (zero_padded (2 + 1) n) 2 split refl

-- two more digits after the point
pub pointed_pair : (p n : ℕ) → n < 2 ^ 64 → pointed p (decimal (n / 100)) ++ (48 + n % 100 / 10) ∷ (48 + n % 100 % 10) ∷ [] ≡ pointed (p + 2) (decimal n)
pointed_pair p n fits =
    let pair : List ℕ = (48 + n % 100 / 10) ∷ (48 + n % 100 % 10) ∷ [] in
    let short = zero_padded (p + 1) (n / 100) in
    let k = length short - p in
    let long : p + 1 ≤ length short = omega (arith, length_zero_padded) in
    let size : length (drop k short) ≡ p = omega (arith, length-drop k short, long) in
    let more : length (drop k short ++ pair) ≡ p + 2 = omega (arith, length-append (drop k short) pair, size) in
    let e : p + 2 + 1 ≡ p + 1 + 2 = omega arith in
    let split : short ++ pair ≡ zero_padded (p + 2 + 1) n = cc (padded_pair (p + 1) n (omega arith) fits, e) in
    let whole : take k short ++ (drop k short ++ pair) ≡ zero_padded (p + 2 + 1) n = cc (append_assoc (take k short) (drop k short) pair, take-append-drop k short) in
    append_assoc (take k short) (46 ∷ drop k short) pair ∙ point_before (take k short) (drop k short ++ pair) (zero_padded (p + 2 + 1) n) (p + 2) whole more

-- a number with five digits after the point
pub five_places : (n : ℕ) → n < 2 ^ 64 → decimal (n / 100000) ++ 46 ∷ (48 + n / 10000 % 10) ∷ (48 + n / 100 % 100 / 10) ∷ (48 + n / 100 % 100 % 10) ∷ (48 + n % 100 / 10) ∷ (48 + n % 100 % 10) ∷ []
    ≡ pointed 5 (decimal n)
five_places n fits =
    let whole : n / 100000 ≡ n / 10000 / 10 = omega arith in
    let same : n / 10000 ≡ n / 100 / 100 = omega arith in
    let middle : List ℕ = (48 + n / 100 % 100 / 10) ∷ (48 + n / 100 % 100 % 10) ∷ [] in
    let last : List ℕ = (48 + n % 100 / 10) ∷ (48 + n % 100 % 10) ∷ [] in
    let first : List ℕ = 46 ∷ (48 + n / 10000 % 10) ∷ [] in
    cc (
      append_assoc (decimal (n / 100000)) first (middle ++ last),
      append_assoc (decimal (n / 100000) ++ first) middle last,
      whole,
      tenths_put (n / 10000) (omega arith),
      same,
      pointed_pair 1 (n / 100) (omega arith),
      pointed_pair 3 n fits,
    )

-- ---- A number at a scale, part by part.

-- an unsigned number at a positive scale
pub unsigned_pointed : (n : ℕ) (scale : ℤ) (places : ℕ) → int_lt (pos 0) scale ≡ true → places ≡ unsigned_abs scale → pointed places (decimal n) ≡ unsigned_text n scale
unfolding unsigned_text
unsigned_pointed n (pos (suc m)) places h e = cc (e)
unsigned_pointed n scale places h e = absurd cc

-- an unsigned number at scale 0 or a negative scale
pub unsigned_plain : (n : ℕ) (scale : ℤ) (places count : ℕ) → int_lt (pos 0) scale ≡ false → places ≡ unsigned_abs scale → count ≡ (if n == 0 then 0 else places)
    → decimal n ++ replicate count 48 ≡ unsigned_text n scale
unfolding unsigned_text
unsigned_plain n scale places count h1 h2 h3 = grind (arith, common_steps)

pub sign-below : (v : ℤ) → int_lt v (pos 0) ≡ true → 45 ∷ [] ≡ sign_of v
sign-below (pos n) h = let none : suc n ≤ 0 = grind arith in absurd (omega (arith, none))
sign-below (negsuc n) h = refl

pub sign-none : (v : ℤ) → int_lt v (pos 0) ≡ false → [] ≡ sign_of v
sign-none (pos n) h = refl
sign-none (negsuc n) h = absurd cc

pub signed_text : (v scale : ℤ) (size : ℕ) → size ≡ unsigned_abs v → sign_of v ++ unsigned_text size scale ≡ decimal_text_of v scale
unfolding decimal_text_of
signed_text v scale size e = rw e

-- digits with a point before the last `places` of them; if there are too few, zeros come first
pub pointed_few : (digits zeros : List ℕ) (places count : ℕ) → length digits ≤ places → count ≡ places - length digits → zeros ≡ replicate count 48
    → 48 ∷ 46 ∷ (zeros ++ digits) ≡ pointed places digits
pointed_few digits zeros places count h1 h2 h3 = grind (arith, common_steps)

pub pointed_many : (digits whole fraction : List ℕ) (places : ℕ) → places < length digits → whole ≡ take (length digits - places) digits → fraction ≡ drop (length digits - places) digits
    → whole ++ 46 ∷ fraction ≡ pointed places digits
pointed_many digits whole fraction places h1 h2 h3 = grind arith

-- an unsigned number at scale 0, at scale -1, and at a positive scale
pub unsigned_whole : (n : ℕ) (scale : ℤ) → scale ≡ pos 0 → decimal n ≡ unsigned_text n scale
unfolding unsigned_text
unsigned_whole n scale is = rw is refl

pub unsigned_ten : (n : ℕ) (scale : ℤ) → scale ≡ negsuc 0 → 0 < n → decimal n ++ 48 ∷ [] ≡ unsigned_text n scale
unfolding unsigned_text
unsigned_ten zero scale is some = absurd (omega arith)
unsigned_ten (suc n) scale is some = rw is refl

pub unsigned_places : (n places : ℕ) (scale : ℤ) → scale ≡ pos (suc places) → pointed (suc places) (decimal n) ≡ unsigned_text n scale
unfolding unsigned_text
unsigned_places n places scale is = rw is refl

pub parts_same : (start start' comment comment' text text' : List ℕ) → start ≡ start' → text ≡ text' → comment ≡ comment' → start ++ (text ++ comment) ≡ start' ++ (text' ++ comment')
parts_same start start' comment comment' text text' a b c = rw (a, b, c)

digit-of : (c : ℕ) → is_ascii_digit c ≡ true → digits_value 10 (c ∷ []) ≡ c - 48
digit-of c h = grind (arith, nat_tests)

pub one-taken : (text : List ℕ) (at : ℕ) → at < length text → take (at + 1) text ≡ take at text ++ slice_index text at ∷ []
one-taken text at h = grind (arith, common_steps)

value-on : (text : List ℕ) (at : ℕ) → at < length text → is_ascii_digit (slice_index text at) ≡ true
    → digits_value 10 (take (at + 1) text) ≡ digits_value 10 (take at text) * 10 + (slice_index text at - 48)
value-on text at h e = simp (one-taken, value-append, digit-of)

pub number-on : (text : List ℕ) (at n m : ℕ) → IsNumberTo text at n → at < length text → is_ascii_digit (slice_index text at) ≡ true → m ≡ min (10 * n + (slice_index text at - 48)) 65536
    → IsNumberTo text (at + 1) m
number-on text at n m h1 h2 h3 h4 = grind (arith, common_steps, value-on)

-- ---- Octets as hexadecimal digits and as quoted text, octet by octet.

pub hex_next : (octets : List ℕ) (i : ℕ) → i < length octets → hex_text (drop i octets) ≡ hex_pair (get_or octets i 0) ++ hex_text (drop (i + 1) octets)
unfolding hex_text
hex_next octets i within = at_drop_more hex_text octets i 0 within

pub hex_none : (octets : List ℕ) (i : ℕ) → length octets ≤ i → hex_text (drop i octets) ≡ []
unfolding hex_text
hex_none octets i end = at_drop_all hex_text octets i end

pub quoted_next : (octets : List ℕ) (i : ℕ) → i < length octets → quoted (drop i octets) ≡ escaped (get_or octets i 0) ++ quoted (drop (i + 1) octets)
unfolding quoted
quoted_next octets i within = at_drop_more quoted octets i 0 within

-- the first octet of a quoted text, and the end of the text
pub quoted_step : (rest more : List ℕ) (octet : ℕ) → rest ≡ octet ∷ more → quoted rest ≡ escaped octet ++ quoted more
unfolding quoted
quoted_step rest more octet is = rw is refl

pub quoted_end : (rest : List ℕ) → length rest ≤ 0 → quoted rest ≡ 34 ∷ []
unfolding quoted
quoted_end [] none = refl
quoted_end (octet ∷ more) none = absurd (omega arith)

-- one more octet that needs no escape
pub quoted_more : (octets : List ℕ) (i : ℕ) → i < length octets → is_unescaped (get_or octets i 0) ≡ true → quoted octets ≡ take i octets ++ quoted (drop i octets)
    → quoted octets ≡ take (i + 1) octets ++ quoted (drop (i + 1) octets)
quoted_more octets i h1 h2 h3 = grind (arith, common_steps, quoted_next)

-- A flag is written as the digit 1 or 0.
pub flag_digit : (on : Bool) (n : ℕ) → n ≡ from_bool on → decimal (from_bool on) ≡ (48 + n) ∷ []
unfolding digits
flag_digit true n is = rw is refl
flag_digit false n is = rw is refl

-- ---- The table `UNESCAPED` marks the octets that need no escape.

abbrev same : Bool → Bool → Bool
same true b = b
same false b = not b

same→eq : (a b : Bool) → T (same a b) → a ≡ b
same→eq a b h1 = grind arith

abbrev are_told : ℕ → Bool
are_told zero = true
are_told (suc c) = same (eqb (get_or UNESCAPED c 0) 49) (is_unescaped c) && are_told c

pub unescaped_below : (n c : ℕ) → T (are_told n) → c < n → (eqb (get_or UNESCAPED c 0) 49) ≡ is_unescaped c
unescaped_below zero c t h = absurd (omega arith)
unescaped_below (suc n) c t h =
    elim (eq-zero-or-pos (n - c)) [
      | inl z ↦ let e : c ≡ n = omega arith in rw e (same→eq _ _ (and_l _ (are_told n) t))
      | inr g ↦ unescaped_below n c (and_r _ (are_told n) t) (omega arith)
    ]

-- rules for the goals of single functions, and for those of the functions in `numbers`
pub ruleset run_steps = (length-set, take_more_set, take_more, quoted_more)

pub ruleset number_steps = (
  puts_then,
  puts_retold,
  puts_first,
  decimal_hundreds,
  decimal_pair,
  decimal_digit,
  decimal_two,
  signed_text,
  unsigned_whole,
  unsigned_places,
  unsigned_ten,
  five_places,
  hundredths_put,
  tenths_put,
  pairs_below,
  append_assoc,
  take_all,
  length-drop,
)
