-- Descriptors, represented as 16-bit numbers (2 bits for F, 6 for X and 8 for Y) or as strings of
-- six digits (one for F, two for X and three for Y) (FM 94 BUFR, section 3, descriptors).
-- Cited by public contracts.
use Rattle.std.specs.Prelude.{ℕ, ◌+◌, ◌-◌, ◌*◌, ◌/◌, ◌%◌, ◌==◌, ◌&&◌, Bool, nat_le, if◌then◌else◌, List, [], ◌∷◌, length, slice_index, Option, Some, None, ◌≡◌, suc, ◌<◌, ◌≤◌, nat_eq, vec_capacity, option_and_then, option_map}
use Rattle.std.specs.Char.{is_ascii_digit}
use Rattle.std.specs.List.{list_all, AllByRecursion, IsDistinct}
use Rattle.bufr_tables.specs.declared.index.FxyIndex.TheInside.{Inside}

-- a descriptor's F, which determines its kind
abbrev pub f_of : ℕ → ℕ
f_of word = word / 16384

-- a descriptor's X, which is the class of an element, the category of a sequence, the number of
-- descriptors that a replication repeats, or the kind of an operator
abbrev pub x_of : ℕ → ℕ
x_of word = word / 256 % 64

-- a descriptor's Y, which is the number of an element or sequence within its class or category, the
-- count of a replication, or the operand of an operator
abbrev pub y_of : ℕ → ℕ
y_of word = word % 256

-- a descriptor's X and Y as one number, which is unique among descriptors with the same F
abbrev pub key_of : ℕ → ℕ
key_of word = word % 16384

-- Whether a descriptor is a replication factor (0 31 000, 0 31 001 or 0 31 002). The repetition
-- factors 0 31 011 and 0 31 012 are not supported (our choice).
abbrev pub is_factor : ℕ → Bool
is_factor word = f_of word == 0 && (x_of word == 31 && nat_le (y_of word) 2)

-- the six digits of a descriptor, in ASCII
-- rule: descriptor-fxy
abbrev pub fxy_text : ℕ → List ℕ
fxy_text word =
    (48 + f_of word) ∷ (48 + x_of word / 10) ∷ (48 + x_of word % 10)
    ∷ (48 + y_of word / 100) ∷ (48 + y_of word / 10 % 10) ∷ (48 + y_of word % 10) ∷ []

-- the value of the digit at the given index in a string
abbrev pub number_at : List ℕ → ℕ → ℕ
number_at text place = slice_index text place - 48

-- the F, X and Y of a six-digit descriptor
abbrev pub f_in : List ℕ → ℕ
f_in text = number_at text 0

abbrev pub x_in : List ℕ → ℕ
x_in text = 10 * number_at text 1 + number_at text 2

abbrev pub y_in : List ℕ → ℕ
y_in text = 100 * number_at text 3 + 10 * number_at text 4 + number_at text 5

-- whether a string is a six-digit descriptor whose F, X and Y fit in 2, 6 and 8 bits, respectively
-- rule: reading-descriptor
abbrev pub is_fxy : List ℕ → Bool
is_fxy text =
    (length text == 6) && list_all is_ascii_digit text && nat_le (f_in text) 3
    && nat_le (x_in text) 63 && nat_le (y_in text) 255

-- the descriptor that a string represents, if any
-- rule: descriptor-fxy
abbrev pub fxy_of : List ℕ → Option ℕ
fxy_of text = if is_fxy text then Some (16384 * f_in text + 256 * x_in text + y_in text) else None

-- ---- Functions for chaining steps that may return `None`.

-- the result of passing the value in o to f, or `None` if o is `None`
infixl 10 ◌>>=◌
abbrev pub ◌>>=◌ : {A B : Type 0} → Option A → (A → Option B) → Option B
o >>= f = option_and_then f o

-- `Some x` if the test passes; otherwise, `None`
abbrev pub only_if : {A : Type 0} → Bool → A → Option A
only_if test x = if test then Some x else None

-- ---- The position of a number in a list (used only by contracts of private functions).

-- the position (counted from 0) at which a number first occurs in a list, or `None` if the list
-- does not contain it
abbrev pub place_of : List ℕ → ℕ → Option ℕ
place_of [] n = None
place_of (first ∷ rest) n = if first == n then Some 0 else option_map suc (place_of rest n)

-- the number that the index stores for a position (the position plus 1, or 0 for `None`)
abbrev pub mark_of : Option ℕ → ℕ
mark_of None = 0
mark_of (Some place) = place + 1

-- For each possible key, `marks` contains the position of the key in the list of keys (see
-- `mark_of`). The list contains each key at most once and has enough capacity for all possible
-- keys.
pub record IsDirectory (a : Inside) : Type 0 where
  pub room : 16384 ≤ vec_capacity a.keys
  pub size : length a.marks.items ≡ 16384
  pub marks : (key : ℕ) → key < 16384
      → slice_index a.marks.items key ≡ mark_of (place_of a.keys.items key)
  pub below : AllByRecursion (λ key. key < 16384) a.keys.items
  pub distinct : IsDistinct nat_eq a.keys.items
