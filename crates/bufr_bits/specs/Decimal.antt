-- Decimal strings. The number v at scale s is written as v / 10^s (our choice).
-- Cited by public contracts.
use Rattle.std.specs.Prelude.{ℕ, zero, suc, ◌+◌, ◌-◌, List, [], ◌∷◌, ◌++◌, length, take, drop, replicate, ℤ, pos, negsuc, unsigned_abs, ◌≡◌, ◌*◌, ◌/◌, ◌%◌, ◌^◌, ◌==◌, nat_lt, nat_le, Bool, true, false, ◌&&◌, if◌then◌else◌, Result, Ok, Err, neg_ℤ, is_some, ◌||◌}
use Rattle.std.specs.Fmt.{decimal}
use Rattle.std.specs.List.{list_all, position, before_first, after_first}
use Rattle.std.specs.Char.{is_ascii_digit}
use Rattle.std.specs.Str.Parse.{digits_value, starts_with_minus}
use Rattle.bufr_bits.specs.declared.decimal.NumberFault.{NumberFault}
use Rattle.bufr_bits.specs.declared.decimal.NumberFault.TheVariants.{Syntax, Inexact, Large}
use Rattle.bufr_bits.specs.declared.decimal.ShortDecimal.{ShortDecimal}

-- the digits with a decimal point before the last `decimals` digits; leading zeros are added if
-- necessary, so that at least one digit precedes the point
-- rule: decimal-point
abbrev pub pointed : (decimals : ℕ) (digits : List ℕ) → List ℕ
pointed decimals digits =
    let padded = replicate (decimals + 1 - length digits) 48 ++ digits in
    let whole = length padded - decimals in
    take whole padded ++ 46 ∷ drop whole padded

-- the decimal string of an unsigned number at a given scale; a positive scale inserts a decimal
-- point, and a negative scale appends zeros unless the number is 0
-- rule: decimal-zeros-after
unfoldable pub unsigned_text : (n : ℕ) (scale : ℤ) → List ℕ
unsigned_text n (pos zero) = decimal n
unsigned_text n (pos (suc decimals)) = pointed (suc decimals) (decimal n)
unsigned_text zero (negsuc less) = decimal 0
unsigned_text (suc n) (negsuc less) = decimal (suc n) ++ replicate (suc less) 48

-- a minus sign if the number is negative; otherwise, an empty string
-- rule: decimal-sign
abbrev pub sign_of : ℤ → List ℕ
sign_of (pos n) = []
sign_of (negsuc n) = 45 ∷ []

-- the decimal string of a number at a given scale
unfoldable pub decimal_text_of : (v scale : ℤ) → List ℕ
decimal_text_of v scale = sign_of v ++ unsigned_text (unsigned_abs v) scale

-- ---- Reading decimal strings. At scale s, a string that represents x is read as x * 10^s (not
-- part of FM 94 BUFR).

-- the part of a string after an optional minus sign
abbrev pub unsigned_part : List ℕ → List ℕ
unsigned_part text = if starts_with_minus text then drop 1 text else text

-- the part of a string before the decimal point, or the whole string if there is no decimal point
abbrev pub whole_part : List ℕ → List ℕ
whole_part text = before_first (λ c. c == 46) text

-- the part of a string after the decimal point, or an empty string if there is no decimal point
abbrev pub fraction_part : List ℕ → List ℕ
fraction_part text = after_first (λ c. c == 46) text

abbrev pub all_digits : List ℕ → Bool
all_digits text = list_all is_ascii_digit text

-- whether a string consists of one or more digits
abbrev pub is_digits : List ℕ → Bool
is_digits text = nat_lt 0 (length text) && all_digits text

-- whether a string consists of one or more digits, optionally followed by a decimal point and one
-- or more digits
-- rule: decimal-form
abbrev pub is_unsigned : List ℕ → Bool
is_unsigned text =
    is_digits (whole_part text)
    && (if is_some (position (λ c. c == 46) text) then is_digits (fraction_part text) else true)

-- the scale if it is positive; otherwise, 0
abbrev pub positive_scale : ℤ → ℕ
positive_scale (pos n) = n
positive_scale (negsuc n) = 0

-- `-scale` if the scale is negative; otherwise, 0
abbrev pub negative_scale : ℤ → ℕ
negative_scale (pos n) = 0
negative_scale (negsuc n) = n + 1

-- n / d, or the fault `Inexact` if the result is not a whole number
abbrev pub whole_quotient : (n d : ℕ) → Result ℕ NumberFault
whole_quotient n d = if n % d == 0 then Ok (n / d) else Err Inexact

-- A number multiplied by 10^scale, or the fault `Inexact` if the result is not a whole number. The
-- last `decimals` digits of the number follow the decimal point.
abbrev pub scaled : (digits : List ℕ) (decimals : ℕ) (scale : ℤ) → Result ℕ NumberFault
scaled digits decimals scale =
    whole_quotient (digits_value 10 digits * 10 ^ positive_scale scale)
    (10 ^ (decimals + negative_scale scale))

-- a number with the given sign, or the fault `Large` if it does not fit in an `i128`
abbrev pub signed : (negative : Bool) → ℕ → Result ℤ NumberFault
signed false n = if nat_lt n (2 ^ 127) then Ok (pos n) else Err Large
signed true n = if nat_le n (2 ^ 127) then Ok (neg_ℤ (pos n)) else Err Large

-- the result of passing x to `next`, or the fault if the first step failed
infixl 10 ◌>>=◌
abbrev pub ◌>>=◌ : {E A B : Type 0} → Result A E → (A → Result B E) → Result B E
(Ok x) >>= next = next x
(Err fault) >>= next = Err fault

-- a result in which `form` has been applied to the fault, if any
abbrev pub map_err : {E F A : Type 0} → (E → F) → Result A E → Result A F
map_err form (Ok x) = Ok x
map_err form (Err fault) = Err (form fault)

-- The number that a string represents, multiplied by 10^scale, or the first fault. The syntax must
-- be valid, the result must be a whole number, and it must fit in an `i128`. These requirements are
-- checked in this order.
-- rule: inexact-before-too-large
unfoldable pub decimal_value_of : (text : List ℕ) (scale : ℤ) → Result ℤ NumberFault
decimal_value_of text scale =
    let body = unsigned_part text in
    let digits = whole_part body ++ fraction_part body in
    if is_unsigned body
    then scaled digits (length (fraction_part body)) scale >>= signed (starts_with_minus text)
    else Err Syntax

-- The string is an unsigned decimal, with `whole` before the decimal point and `fraction` after it.
pub record IsParts (text whole fraction : List ℕ) : Type 0 where
  pub form : is_unsigned text ≡ true
  pub before : whole ≡ whole_part text
  pub after : fraction ≡ fraction_part text

-- ---- Short decimals, each stored as a sign, the integer formed by all its digits, and the number
-- of digits after the decimal point (not part of FM 94 BUFR).

-- the number with the given sign
abbrev pub signed_number : (negative : Bool) → ℕ → ℤ
signed_number false n = pos n
signed_number true n = neg_ℤ (pos n)

-- the string that represents a short decimal
abbrev pub short_text : ShortDecimal → List ℕ
short_text d = decimal_text_of (signed_number d.negative d.digits) (pos d.places)

-- whether an octet can occur in a decimal string (a digit, a minus sign or a decimal point)
abbrev pub is_decimal_octet : ℕ → Bool
is_decimal_octet c = is_ascii_digit c || (c == 45) || (c == 46)

-- whether an octet can continue a number with `places` digits after the decimal point; it must be a
-- digit, or a decimal point if `places` is 0
abbrev pub continues_number : (places octet : ℕ) → Bool
continues_number places octet = is_ascii_digit octet || ((places == 0) && (octet == 46))

-- the maximum number of octets that are examined to find a short decimal at the start of a string
-- (19, or 20 if the string starts with a minus sign)
abbrev pub searched_octets : List ℕ → ℕ
searched_octets text = if starts_with_minus text then 20 else 19

-- The string is the unsigned decimal form of `number` at scale `places`.
pub record IsPlainDecimal (text : List ℕ) (number places : ℕ) : Type 0 where
  pub is : text ≡ unsigned_text number (pos places)
  pub octets : list_all is_decimal_octet text ≡ true
