-- The bits of a packed item read back as its contents.
use Rattle.std.proofs.lemmas.Grind.{common_steps}
use Rattle.std.proofs.Common.{◌≡◌, ℕ, zero, suc, ◌+◌, ◌-◌, ◌*◌, ◌^◌, ◌<◌, ◌≤◌, ◌≢◌, ◌&&◌, ◌||◌, Bool, true, false, not, List, [], ◌∷◌, ◌++◌, length, take, drop, map, replicate, Option, Some, None, refl, sym, ◌∙◌, ap, arith, append_assoc, subst, pow_mono, ◌==◌, nat_lt, if◌then◌else◌, rules}
use Rattle.std.proofs.lemmas.Bool.{le-ltb, lt-ltb, ltb-false, ne_eqb}
use Rattle.std.specs.List.{list_all, flat_map, AllByRecursion}
use Rattle.std.proofs.lemmas.List.{take_at, drop_at, length-append, length-replicate, length-take-le, length-drop}
use Rattle.bufr_bits.specs.Prelude.{bits_of, bits_in, number_of, are_all_ones}
use Rattle.bufr_bits.proofs.BitLemmas.{length-bits_of, length-bits_in, number_of-below}
use Rattle.bufr_bits.proofs.DecimalLemmas.{and_first, and_second}
use Rattle.bufr_walk.specs.Prelude.{Content, number, text, missing, reference, numbers, texts, increased, all_there, octets_in, ones, increments}
use Rattle.bufr_walk.proofs.PackedLemmas.{ones_same, some_same, next_there, padded_text}
use Rattle.std.specs.Str.{bytes_eq}
use Rattle.bufr_fill.specs.Prelude.{raw_limit, has_increment, increment_for, AreOctets, FitsNumber, FitsText}
use Rattle.bufr_fill.proofs.FieldLemmas.{number_again, number_back, ones_set, octets_again, full_test, length-octets_in, octets_in-are, octet_bits_again}
use Rattle.bufr_fill.proofs.LeastLemmas.{AreNumbers, IsOver, AreOver, octets_same, octets_self}

-- The bits of each item in the list have length k.
abbrev pub AreLong : {X : Type 0} → (X → List Bool) → ℕ → List X → Type 0
AreLong {X} f k xs = AllByRecursion (λ (x : X). length (f x) ≡ k) xs

module _ {X : Type 0} (f : X → List Bool) (k : ℕ) where
  pub pieces_length : (xs : List X) → AreLong f k xs → length (flat_map f xs) ≡ length xs * k
  pieces_length [] long = omega arith
  pieces_length (x ∷ xs) long = omega (arith, length-append (f x) (flat_map f xs), long.0, pieces_length xs long.1)

  -- These bits are read back, item by item.
  pub pieces_found : (xs : List X) (more : List Bool) → AreLong f k xs → increments (length xs) k (flat_map f xs ++ more) ≡ map f xs
  pieces_found [] more long = refl
  pieces_found (x ∷ xs) more long = grind (arith, pieces_found xs more long.1, append_assoc, take_at, drop_at)

-- how a number is read from its increment
not_both : (m : Bool) (a b : ℕ) → (m ≡ true → a ≢ b) → (m && (a == b)) ≡ false
not_both true a b h = ne_eqb a b (h refl)
not_both false a b h = refl

top_ones : (m : Bool) (k v : ℕ) → v < raw_limit m k → m ≡ true → v < ones k
top_ones true k v h e = h
top_ones false k v h e = absurd cc

-- If a content and all contents after it are present, all are present.
there_more : (o : Option Content) (os : List (Option Content)) (c : Content) (cs : List Content) → o ≡ Some c → all_there os ≡ Some cs → all_there (o ∷ os) ≡ Some (c ∷ cs)
there_more o os c cs e f = rw (e, f)

any_not : (m full last whole : Bool) → (full && m) ≡ false → (m && last) ≡ false → (m && whole) ≡ false → (m && (full || last || whole)) ≡ false
any_not m full last whole h g i = grind arith

any_last : (m full whole : Bool) → m ≡ true → (m && (full || true || whole)) ≡ true
any_last m full whole e = grind arith

module _ (m : Bool) (w base k : ℕ) (fits : base < raw_limit m w) where
  number_increased : (n : ℕ) → base ≤ n → n < raw_limit m w → n - base < raw_limit m k → increased (numbers w m) k (bits_in base w) (bits_in (n - base) k) ≡ Some (number n)
  number_increased n increment_over below short = grind (arith, not_both, top_ones, any_not, number_back, number_again)

  missing_increased : m ≡ true → increased (numbers w m) k (bits_in base w) (replicate k true) ≡ Some missing
  missing_increased e = rw (ones_set, any_last)

  one_increased : (c : Content) → FitsNumber m w c → IsOver base c → has_increment (numbers w m) base k c ≡ true
      → increased (numbers w m) k (bits_in base w) (increment_for (numbers w m) base k c) ≡ Some c
  one_increased c h o p = search (rules, number_increased, missing_increased)

  -- Numbers at or above a base are read back from their increments.
  pub numbers_back : (cs : List Content) → AreNumbers m w cs → AreOver base cs → list_all (has_increment (numbers w m) base k) cs ≡ true
      → all_there (map (increased (numbers w m) k (bits_in base w)) (map (increment_for (numbers w m) base k) cs)) ≡ Some cs
  numbers_back [] h o p = refl
  numbers_back (c ∷ cs) h o p =
      there_more (increased (numbers w m) k (bits_in base w) (increment_for (numbers w m) base k c))
      (map (increased (numbers w m) k (bits_in base w)) (map (increment_for (numbers w m) base k) cs)) c cs
      (one_increased c h.0 o.0 (and_first (has_increment (numbers w m) base k c) (list_all (has_increment (numbers w m) base k) cs) p))
      (numbers_back cs h.1 o.1 (and_second (has_increment (numbers w m) base k c) (list_all (has_increment (numbers w m) base k) cs) p))

module _ (m : Bool) (w base k : ℕ) where
  pub increment_length : (c : Content) → length (increment_for (numbers w m) base k c) ≡ k
  increment_length (number n) = length-bits_in (n - base) k
  increment_length c = length-replicate k true

  pub increments_long : (cs : List Content) → AreLong (increment_for (numbers w m) base k) k cs
  increments_long [] = tt
  increments_long (c ∷ cs) = (increment_length c, increments_long cs)

-- Each content is a text of this length, or missing.
abbrev pub AreTexts : ℕ → List Content → Type 0
AreTexts count cs = AllByRecursion (λ (c : Content). FitsText count c) cs

pub not_true : (b : Bool) → not b ≡ true → b ≡ false
not_true true h = cc
not_true false h = refl

AreOctets-take : (k : ℕ) (os : List ℕ) → AreOctets os → AreOctets (take k os)
AreOctets-take zero os h = tt
AreOctets-take (suc k) [] h = tt
AreOctets-take (suc k) (o ∷ os) h = (h.0, AreOctets-take k os h.1)

module _ (count k : ℕ) (short : k ≤ count) where
  pub octets_length : (c : Content) → FitsText count c → length (increment_for (texts count) 0 k c) ≡ 8 * k
  octets_length c h = grind (arith, common_steps, length-bits_of, length-take-le, length-replicate)

  pub octets_long : (cs : List Content) → AreTexts count cs → AreLong (increment_for (texts count) 0 k) (8 * k) cs
  octets_long [] h = tt
  octets_long (c ∷ cs) h = (octets_length c h.0, octets_long cs h.1)

  one_text : (c : Content) → FitsText count c → has_increment (texts count) 0 k c ≡ true → padded_text count k (increment_for (texts count) 0 k c) ≡ c
  one_text (number n) h p = absurd h
  one_text (reference v) h p = absurd h
  one_text missing h p = ap (λ b. if b then missing else text (octets_in k (replicate (8 * k) true) ++ replicate (count - k) 32)) (ones_set (8 * k))
  one_text (text os) h p =
      let prefix = take k os in
      let l : length prefix ≡ k = length-take-le k os (omega (arith, h.0)) in
      let are : AreOctets prefix = AreOctets-take k os h.1 in
      let some : are_all_ones (bits_of prefix) ≡ false = full_test prefix are
      ∙ not_true (list_all (λ octet. octet == 255) prefix) (and_second (bytes_eq (prefix ++ replicate (length os - k) 32) os) (not (list_all (λ octet. octet == 255) prefix)) p) in
      let whole : prefix ++ replicate (length os - k) 32 ≡ os = octets_same (prefix ++ replicate (length os - k) 32) os
      (and_first (bytes_eq (prefix ++ replicate (length os - k) 32) os) (not (list_all (λ octet. octet == 255) prefix)) p) in
      cc (some, l, octets_again prefix are, h.0, whole)

  -- Texts are read back from their octets.
  pub texts_back : (base : List Bool) (cs : List Content) → AreTexts count cs → list_all (has_increment (texts count) 0 k) cs ≡ true
      → all_there (map (increased (texts count) k base) (map (increment_for (texts count) 0 k) cs)) ≡ Some cs
  texts_back base [] h p = refl
  texts_back base (c ∷ cs) h p =
      there_more (increased (texts count) k base (increment_for (texts count) 0 k c)) (map (increased (texts count) k base) (map (increment_for (texts count) 0 k) cs)) c cs
      (ap (λ b. if b then None else Some (padded_text count k (increment_for (texts count) 0 k c))) (le-ltb count k short)
      ∙ ap Some (one_text c h.0 (and_first (has_increment (texts count) 0 k c) (list_all (has_increment (texts count) 0 k) cs) p)))
      (texts_back base cs h.1 (and_second (has_increment (texts count) 0 k c) (list_all (has_increment (texts count) 0 k) cs) p))

-- ---- Contents that were read, given their k.

-- Each list of bits has length k.
abbrev pub AllLong : ℕ → List (List Bool) → Type 0
AllLong k is = AllByRecursion (λ (i : List Bool). length i ≡ k) is

pub increments_all : (n k : ℕ) (bits : List Bool) → n * k ≤ length bits → AllLong k (increments n k bits) × (length (increments n k bits) ≡ n)
increments_all zero k bits h = (tt, refl)
increments_all (suc n) k bits h =
    let enough : k ≤ length bits = omega arith in
    let rest = increments_all n k (drop k bits) (omega (arith, length-drop k bits)) in
    ((length-take-le k bits enough, rest.0), ap suc rest.1)

-- If the content is a number, its increment over a base fits into k bits.
abbrev pub IsShort : Bool → (base k : ℕ) → Content → Type 0
IsShort m base k (number n) = n - base < raw_limit m k
IsShort m base k _ = Unit {0}

abbrev pub AreShort : Bool → (base k : ℕ) → List Content → Type 0
AreShort m base k cs = AllByRecursion (λ (c : Content). IsShort m base k c) cs

-- A content that was read from an increment fits the field. If it is a number, it is at least the
-- base, and its increment fits into k bits.
pub record IsIncreased (m : Bool) (w base k : ℕ) (c : Content) : Type 0 where
  pub fits : FitsNumber m w c
  pub increment_over : IsOver base c
  pub short : IsShort m base k c

top_from : (m : Bool) (w v : ℕ) → v < 2 ^ w → (m ≡ true → v ≢ ones w) → v < raw_limit m w
top_from true w v h e = let a : v ≢ ones w = e refl in omega arith
top_from false w v h e = h

power_pos : (w : ℕ) → 0 < 2 ^ w
power_pos w = let p : 2 ^ 0 ≤ 2 ^ w = pow_mono (zero_least w) in omega arith
  where
    zero_least : (w : ℕ) → 0 ≤ w
    zero_least w = omega arith

number_read : (m : Bool) (w base k i : ℕ) → i < 2 ^ k → nat_lt (ones w) (base + i) ≡ false → (m ≡ true → i ≢ ones k) → (m ≡ true → base + i ≢ ones w) → IsIncreased m w base k (number (base + i))
number_read m w base k i small q last whole = search (rules, ltb-false, power_pos, top_from)

missing_read : (w base k : ℕ) → IsIncreased true w base k missing
missing_read w base k = record { fits = refl; increment_over = tt; short = tt }

differ : (a b : ℕ) → (a == b) ≡ false → a ≢ b
differ a b h = grind arith

-- A content that was read from an increment, given the tests: whether the number may be missing,
-- whether the base and the increment are all ones, whether their sum exceeds the width, and whether
-- it is all ones.
read_by_tests : (m full last past whole : Bool) (w base k i : ℕ) (c : Content) → i < 2 ^ k → (i == ones k) ≡ last → nat_lt (ones w) (base + i) ≡ past → (base + i == ones w) ≡ whole
    → (if m && (full || last || whole) then Some missing else if past then None else Some (number (base + i))) ≡ Some c → IsIncreased m w base k c
read_by_tests m full last past whole w base k i c small p q r e = search rules

read_one : (m : Bool) (w k : ℕ) (base i : List Bool) (c : Content) → length i ≡ k → increased (numbers w m) k base i ≡ Some c → IsIncreased m w (number_of base) k c
read_one m w k base i c long e =
    read_by_tests m (are_all_ones base) (are_all_ones i) (nat_lt (ones w) (number_of base + number_of i)) (number_of base + number_of i == ones w) w (number_of base) k (number_of i) c
    (rw long at (number_of-below i)) (sym (ones_same k i long)) refl refl e

-- the same for all contents
pub record AreIncreased (m : Bool) (w base k : ℕ) (cs : List Content) : Type 0 where
  pub fits : AreNumbers m w cs
  pub increment_over : AreOver base cs
  pub short : AreShort m base k cs

pub numbers_read : (m : Bool) (w k : ℕ) (base : List Bool) (is : List (List Bool)) (cs : List Content) → AllLong k is → all_there (map (increased (numbers w m) k base) is) ≡ Some cs
    → AreIncreased m w (number_of base) k cs
numbers_read m w k base [] cs long e = grind (arith, common_steps, some_same)
numbers_read m w k base (i ∷ is) cs long e =
    let t = next_there (increased (numbers w m) k base i) (map (increased (numbers w m) k base) is) cs e in
    let a = read_one m w k base i t.0 long.0 t.2 in
    let b = numbers_read m w k base is t.1 long.1 t.3 in
    subst (AreIncreased m w (number_of base) k) t.4 (record { fits = (a.fits, b.fits); increment_over = (a.increment_over, b.increment_over); short = (a.short, b.short) })

-- An increment over a greater base is not longer.
has_over : (m : Bool) (w base low k : ℕ) (c : Content) → base ≤ low → IsShort m base k c → has_increment (numbers w m) low k c ≡ true
has_over m w base low k (number n) h s = omega (arith, lt-ltb)
has_over m w base low k c h s = refl

pub all_over : (m : Bool) (w base low k : ℕ) (cs : List Content) → base ≤ low → AreShort m base k cs → list_all (has_increment (numbers w m) low k) cs ≡ true
all_over m w base low k [] h s = refl
all_over m w base low k (c ∷ cs) h s = cc (has_over m w base low k c h s.0, all_over m w base low k cs h s.1)

-- how a text is read from its octets
pub AreOctets-append : (xs ys : List ℕ) → AreOctets xs → AreOctets ys → AreOctets (xs ++ ys)
AreOctets-append [] ys h g = g
AreOctets-append (x ∷ xs) ys h g = (h.0, AreOctets-append xs ys h.1 g)

pub AreOctets-spaces : (n : ℕ) → AreOctets (replicate n 32)
AreOctets-spaces zero = tt
AreOctets-spaces (suc n) = (omega arith, AreOctets-spaces n)

and_false : (a b : Bool) → a ≡ false → (a && b) ≡ false
and_false a b e = ap (λ x. x && b) e

-- A text that was read from k octets fits the field, and its first k octets determine it.
pub record IsFromOctets (count k : ℕ) (c : Content) : Type 0 where
  pub fits : FitsText count c
  pub again : has_increment (texts count) 0 k c ≡ true

text_read : (count k : ℕ) (i : List Bool) (b : Bool) → k ≤ count → length i ≡ 8 * k → are_all_ones i ≡ b
    → IsFromOctets count k (if b then missing else text (octets_in k i ++ replicate (count - k) 32))
text_read count k i b short long e = grind (
  arith,
  common_steps,
  length-octets_in,
  octets_in-are,
  full_test,
  octet_bits_again,
  AreOctets-append,
  AreOctets-spaces,
  octets_self,
)

-- the same for all texts
pub record AreFromOctets (count k : ℕ) (cs : List Content) : Type 0 where
  pub fits : AreTexts count cs
  pub again : list_all (has_increment (texts count) 0 k) cs ≡ true

text_there : (past : Bool) (a c : Content) → (if past then None else Some a) ≡ Some c → (past ≡ false) × (a ≡ c)
text_there true a c e = absurd cc
text_there false a c e = (refl, some_same a c e)

pub texts_read : (count k : ℕ) (base : List Bool) (is : List (List Bool)) (cs : List Content) → AllLong (8 * k) is → all_there (map (increased (texts count) k base) is) ≡ Some cs
    → AreFromOctets count k cs
texts_read count k base [] cs long e = grind (arith, some_same)
texts_read count k base (i ∷ is) cs long e =
    let t = next_there (increased (texts count) k base i) (map (increased (texts count) k base) is) cs e in
    let one = text_there (nat_lt count k) (padded_text count k i) t.0 t.2 in
    let a = subst (IsFromOctets count k) one.1 (text_read count k i (are_all_ones i) (ltb-false count k one.0) long.0 refl) in
    let b = texts_read count k base is t.1 long.1 t.3 in
    subst (AreFromOctets count k) t.4 (record { fits = (a.fits, b.fits); again = ap (λ x. x && list_all (has_increment (texts count) 0 k) t.1) a.again ∙ b.again })

pub texts_short : (count k : ℕ) (base : List Bool) (is : List (List Bool)) (c : Content) (cs : List Content) → all_there (map (increased (texts count) k base) is) ≡ Some (c ∷ cs) → k ≤ count
texts_short count k base [] c cs e = let none = some_same [] (c ∷ cs) e in absurd cc
texts_short count k base (i ∷ is) c cs e =
    let t = next_there (increased (texts count) k base i) (map (increased (texts count) k base) is) (c ∷ cs) e in
    ltb-false count k (text_there (nat_lt count k) (padded_text count k i) t.0 t.2).0
