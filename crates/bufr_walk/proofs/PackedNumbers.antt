-- How the code computes the number of one subset of compressed data.
use Rattle.std.proofs.lemmas.Grind.{common_steps}
use Rattle.std.proofs.Common.{◌≡◌, ℕ, ◌+◌, ◌-◌, ◌*◌, ◌^◌, ◌<◌, ◌≤◌, false, Bool, List, length, drop, refl, sym, ◌∙◌, ap, arith, ◌&&◌, true, take, ◌==◌, ◌||◌, nat_lt, if◌then◌else◌, Option, Some, None, rules}
use Rattle.std.proofs.lemmas.Bool.{eqb-true, ne_eqb}
use Rattle.bufr_bits.specs.Prelude.{bits_of, number_of, are_all_ones, bits_at}
use Rattle.bufr_walk.specs.Prelude.{start_of, numbers, increased, Content, number, missing, is_reference, ones, stored_content, fits_at, IndexedItem}
use Rattle.bufr_tables.specs.Prelude.{is_character}
use Rattle.std.proofs.lemmas.Bool.Decides.{nat_tests}
use Rattle.bufr_walk.proofs.PackedLemmas.{base_content, kept_base, kept_ones, kept_parts, number_content, number_within, ones_same, some_same}
use Rattle.bufr_walk.proofs.PlainLemmas.{number_said}
use Rattle.std.proofs.lemmas.List.{length-take-le, length-drop}

-- Without increments, the content is the base, or missing.
base_content_is : (octets : List ℕ) (n : ℕ) (e : IndexedItem) (j : ℕ) → fits_at (bits_of octets) n e ≡ true → e.step ≡ 0 → j < n → is_character e.spec.kind ≡ false → is_reference e.spec.role ≡ false
    → (b : Bool) → (e.base == 2 ^ e.spec.width - 1) ≡ b → (if b && e.spec.may_be_missing then missing else number e.base) ≡ stored_content (bits_of octets) n e j
base_content_is octets n e j h none below k r b is =
    let base = bits_at octets (start_of e) e.spec.width in
    ap (λ x. if x && e.spec.may_be_missing then missing else number e.base) (sym is ∙ kept_ones octets n e h k)
    ∙ ap (λ x. if are_all_ones base && e.spec.may_be_missing then missing else x) (ap number (kept_base (bits_of octets) n e h k))
    ∙ sym (number_said e.spec base k r) ∙ sym (base_content (bits_of octets) n e j h none below)

pub base_missing : (octets : List ℕ) (n : ℕ) (e : IndexedItem) (j : ℕ) → fits_at (bits_of octets) n e ≡ true → e.step ≡ 0 → j < n → is_character e.spec.kind ≡ false → is_reference e.spec.role ≡ false
    → e.spec.may_be_missing ≡ true → e.base ≡ 2 ^ e.spec.width - 1 → missing ≡ stored_content (bits_of octets) n e j
base_missing octets n e j h none below k r m full =
    let is : (e.base == 2 ^ e.spec.width - 1) ≡ true = grind arith in
    cc (m, base_content_is octets n e j h none below k r true is)

pub base_number : (octets : List ℕ) (n : ℕ) (e : IndexedItem) (j : ℕ) → fits_at (bits_of octets) n e ≡ true → e.step ≡ 0 → j < n → is_character e.spec.kind ≡ false → is_reference e.spec.role ≡ false
    → (e.spec.may_be_missing ≡ true → e.base ≡ 2 ^ e.spec.width - 1 → ⊥) → number e.base ≡ stored_content (bits_of octets) n e j
base_number octets n e j h none below k r not = by e.spec.may_be_missing refl (e.base == 2 ^ e.spec.width - 1) refl
  where
    whole : (b : Bool) → (e.base == 2 ^ e.spec.width - 1) ≡ b → (if b && e.spec.may_be_missing then missing else number e.base) ≡ stored_content (bits_of octets) n e j
    whole b is = base_content_is octets n e j h none below k r b is

    by : (m : Bool) → e.spec.may_be_missing ≡ m → (b : Bool) → (e.base == 2 ^ e.spec.width - 1) ≡ b → number e.base ≡ stored_content (bits_of octets) n e j
    by true q true is = absurd (not q (eqb-true e.base (2 ^ e.spec.width - 1) is))
    by true q false is = whole false is
    by false q true is = sym (ap (λ x. if true && x then missing else number e.base) q) ∙ whole true is
    by false q false is = whole false is

-- The content of a number with an increment. The flags state whether the number may be missing,
-- whether the base and the increment are all ones, whether the sum exceeds the width, and whether
-- it is all ones.
abbrev sum_by : (m full last past whole : Bool) → Content → Option Content
sum_by m full last past whole x = if m && (full || last || whole) then Some missing else if past then None else Some x

last_is : (full past whole : Bool) (x c : Content) → sum_by true full true past whole x ≡ Some c → missing ≡ c
last_is true past whole x c e = some_same missing c e
last_is false past whole x c e = some_same missing c e

whole_is : (full last past whole : Bool) (x c : Content) → (past || whole) ≡ true → sum_by true full last past whole x ≡ Some c → missing ≡ c
whole_is full last past whole x c h e = search (rules, some_same)

never_is : (full last past whole : Bool) (x c : Content) → sum_by false full last past whole x ≡ Some c → (x ≡ c) × (past ≡ false)
never_is full last true whole x c e = absurd cc
never_is full last false whole x c e = (some_same x c e, refl)

some_is : (m past : Bool) (x c : Content) → sum_by m false false past false x ≡ Some c → x ≡ c
some_is true true x c e = absurd cc
some_is true false x c e = some_same x c e
some_is false true x c e = absurd cc
some_is false false x c e = some_same x c e

module _ (w k b i : ℕ) (m : Bool) (base incr : List Bool) (c : Content) (low : b ≡ number_of base) (more : i ≡ number_of incr) (wide : length base ≡ w) (long : length incr ≡ k)
    (is : increased (numbers w m) k base incr ≡ Some c) where
  by_tests : sum_by m (b == ones w) (i == ones k) (nat_lt (ones w) (b + i)) (b + i == ones w) (number (b + i)) ≡ Some c
  by_tests =
      ap (λ x. sum_by m (x == ones w) (i == ones k) (nat_lt (ones w) (x + i)) (x + i == ones w) (number (x + i))) low
      ∙ ap (λ x. sum_by m (number_of base == ones w) (x == ones k) (nat_lt (ones w) (number_of base + x)) (number_of base + x == ones w) (number (number_of base + x))) more
      ∙ ap (λ x. sum_by m x (number_of incr == ones k) (nat_lt (ones w) (number_of base + number_of incr)) (number_of base + number_of incr == ones w) (number (number_of base + number_of incr)))
      (sym (ones_same w base wide))
      ∙ ap (λ x. sum_by m (are_all_ones base) x (nat_lt (ones w) (number_of base + number_of incr)) (number_of base + number_of incr == ones w) (number (number_of base + number_of incr)))
      (sym (ones_same k incr long))
      ∙ is

  sum_last : m ≡ true → i ≡ ones k → missing ≡ c
  sum_last e last = grind (arith, common_steps, nat_tests, last_is, by_tests)

  sum_whole : m ≡ true → ones w ≤ b + i → missing ≡ c
  sum_whole e far = grind (arith, nat_tests)

  sum_never : m ≡ false → (number (b + i) ≡ c) × (b + i ≤ ones w)
  sum_never e =
      let p = never_is (b == ones w) (i == ones k) (nat_lt (ones w) (b + i)) (b + i == ones w) (number (b + i)) c
      (sym (ap (λ x. sum_by x (b == ones w) (i == ones k) (nat_lt (ones w) (b + i)) (b + i == ones w) (number (b + i))) e) ∙ by_tests) in
      (p.0, at_most (b + i) (ones w) p.1)
    where
      at_most : (x y : ℕ) → nat_lt y x ≡ false → x ≤ y
      at_most x y h = grind arith

  sum_some : (i ≡ ones k → ⊥) → b + i < ones w → number (b + i) ≡ c
  sum_some last far =
      let none : (b == ones w) ≡ false = differ b (ones w) (omega (arith, far)) in
      let other : (i == ones k) ≡ false = ne_eqb i (ones k) last in
      let short : (b + i == ones w) ≡ false = differ (b + i) (ones w) far in
      some_is m (nat_lt (ones w) (b + i)) (number (b + i)) c
      (sym (ap (λ x. sum_by m x (i == ones k) (nat_lt (ones w) (b + i)) (b + i == ones w) (number (b + i))) none
      ∙ ap (λ x. sum_by m false x (nat_lt (ones w) (b + i)) (b + i == ones w) (number (b + i))) other
      ∙ ap (λ x. sum_by m false false (nat_lt (ones w) (b + i)) x (number (b + i))) short) ∙ by_tests)
    where
      differ : (x y : ℕ) → x < y → (x == y) ≡ false
      differ x y h = grind (arith, nat_tests)

-- the number of a stored item with increments
module _ (octets : List ℕ) (n : ℕ) (e : IndexedItem) (j i : ℕ) (h : fits_at (bits_of octets) n e ≡ true) (some : 1 ≤ e.step) (below : j < n) (c : is_character e.spec.kind ≡ false)
    (more : i ≡ number_of (take e.step (drop (j * e.step) (drop (start_of e + (e.spec.width + 6)) (bits_of octets))))) where
  abbrev kept_incr : List Bool
  kept_incr = take e.step (drop (j * e.step) (drop (start_of e + (e.spec.width + 6)) (bits_of octets)))

  kept_wide : length (bits_at octets (start_of e) e.spec.width) ≡ e.spec.width
  kept_wide = length-take-le e.spec.width (drop (start_of e) (bits_of octets)) (omega (arith, (kept_parts (bits_of octets) n e h).within, length-drop (start_of e) (bits_of octets)))

  kept_long : length kept_incr ≡ e.step
  kept_long =
      let room = number_within (bits_of octets) n e j h some below c in
      let one : (j + 1) * e.step ≡ j * e.step + e.step = omega arith in
      grind (arith, common_steps, room)

  pub kept_last : e.spec.may_be_missing ≡ true → i ≡ ones e.step → missing ≡ stored_content (bits_of octets) n e j
  kept_last = sum_last e.spec.width e.step e.base i e.spec.may_be_missing (bits_at octets (start_of e) e.spec.width) kept_incr (stored_content (bits_of octets) n e j)
      (kept_base (bits_of octets) n e h c) more kept_wide kept_long (number_content (bits_of octets) n e j h some below c)

  pub kept_whole : e.spec.may_be_missing ≡ true → ones e.spec.width ≤ e.base + i → missing ≡ stored_content (bits_of octets) n e j
  kept_whole = sum_whole e.spec.width e.step e.base i e.spec.may_be_missing (bits_at octets (start_of e) e.spec.width) kept_incr (stored_content (bits_of octets) n e j)
      (kept_base (bits_of octets) n e h c) more kept_wide kept_long (number_content (bits_of octets) n e j h some below c)

  pub kept_never : e.spec.may_be_missing ≡ false → (number (e.base + i) ≡ stored_content (bits_of octets) n e j) × (e.base + i ≤ ones e.spec.width)
  kept_never = sum_never e.spec.width e.step e.base i e.spec.may_be_missing (bits_at octets (start_of e) e.spec.width) kept_incr (stored_content (bits_of octets) n e j)
      (kept_base (bits_of octets) n e h c) more kept_wide kept_long (number_content (bits_of octets) n e j h some below c)

  pub kept_some : (i ≡ ones e.step → ⊥) → e.base + i < ones e.spec.width → number (e.base + i) ≡ stored_content (bits_of octets) n e j
  kept_some = sum_some e.spec.width e.step e.base i e.spec.may_be_missing (bits_at octets (start_of e) e.spec.width) kept_incr (stored_content (bits_of octets) n e j)
      (kept_base (bits_of octets) n e h c) more kept_wide kept_long (number_content (bits_of octets) n e j h some below c)
