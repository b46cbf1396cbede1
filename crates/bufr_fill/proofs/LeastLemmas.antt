-- The least base and the least k of numbers, and the least k of texts.
use Rattle.std.proofs.lemmas.Grind.{common_steps}
use Rattle.std.proofs.Common.{Result, ◌≡◌, ℕ, zero, suc, ◌+◌, ◌<◌, ◌≤◌, ◌≢◌, ◌&&◌, min, Bool, true, false, List, [], ◌∷◌, Option, Some, None, refl, sym, ◌∙◌, ap, arith, ◌-◌, ◌^◌, max, ◌++◌, length, Ok, pow_mono, append_assoc, ◌/◌, not, take, replicate, Err, ◌==◌, if◌then◌else◌, nat_lt, unwrap_or, nat_le, rules}
use Rattle.std.proofs.lemmas.Bool.{false≢true, eqb-true, le-leb, leb-false, leb-true, lt-leb, lt-ltb, ltb-true, eq-eqb}
use Rattle.bufr_bits.proofs.DecimalLemmas.{and_first, and_second}
use Rattle.bufr_walk.specs.Prelude.{Coding, numbers, texts, coding_of, Content, number, text, missing, reference, FieldSpec, is_reference}
use Rattle.bufr_walk.proofs.PlainLemmas.{number_coding, text_coding}
use Rattle.bufr_bits.proofs.BitLemmas.{bits_in-zero}
use Rattle.std.specs.Str.{bytes_eq}
use Rattle.std.proofs.lemmas.Slice.Eq.{bytes_eq-Decides}
use Rattle.std.proofs.lemmas.Bool.Decides.{Decides-int_eq}
use Rattle.bufr_fill.specs.Prelude.{raw_limit, spaced, padded_content, same, lowest, first_from, has_increment, least_k, increment_for, packed_bits, packed_over, FitsNumber, FieldContent, AreContentsOf, padded_contents, spread, least_from, AreShort, trimmed, need, most_need, over_of, number_or, least_number, ItemFault}
use Rattle.std.specs.List.{list_all, flat_map, AllByRecursion}
use Rattle.std.proofs.lemmas.List.{length-append, take_all}
use Rattle.bufr_bits.specs.Prelude.{bits_in}
use Rattle.bufr_tables.specs.Prelude.{is_character}
use Rattle.std.specs.Option.{option_map_or}
use Rattle.bufr_fill.specs.declared.field_value.FieldContent.TheVariants as field_content
use Rattle.bufr_fill.specs.declared.fault.ItemFault.TheVariants as wrong

-- The first number that passes is not greater than any other that passes.
first_step : (b : Bool) (from k x : ℕ) → from ≤ k → (b ≡ false → x ≤ k) → (if b then from else x) ≤ k
first_step true from k x h g = h
first_step false from k x h g = g refl

pub first_least : (p : ℕ → Bool) (fuel from k : ℕ) → from ≤ k → p k ≡ true → first_from p fuel from ≤ k
first_least p zero from k h e = h
first_least p (suc fuel) from k h e = first_step (p from) from k (first_from p fuel (from + 1)) h (λ q.
    first_least p fuel (from + 1) k (let apart : from ≢ k = (λ g. false≢true (sym q ∙ ap p g ∙ e)) in omega arith) e)

-- If a number passes, the first one that passes is found, and is not below the start.
passes_step : (p : ℕ → Bool) (b : Bool) (from x : ℕ) → p from ≡ b → (b ≡ false → p x ≡ true) → p (if b then from else x) ≡ true
passes_step p true from x e g = e
passes_step p false from x e g = g refl

pub first_passes : (p : ℕ → Bool) (fuel from k : ℕ) → from ≤ k → k < from + fuel → p k ≡ true → p (first_from p fuel from) ≡ true
first_passes p zero from k h l e = absurd (omega arith)
first_passes p (suc fuel) from k h l e = passes_step p (p from) from (first_from p fuel (from + 1)) refl (λ q.
    first_passes p fuel (from + 1) k (let apart : from ≢ k = (λ g. false≢true (sym q ∙ ap p g ∙ e)) in omega arith) (omega arith) e)

from_step : (b : Bool) (from x : ℕ) → from ≤ x → from ≤ (if b then from else x)
from_step true from x h = omega arith
from_step false from x h = h

pub first_from_start : (p : ℕ → Bool) (fuel from : ℕ) → from ≤ first_from p fuel from
first_from_start p zero from = omega arith
first_from_start p (suc fuel) from = from_step (p from) from (first_from p fuel (from + 1)) (omega (arith, first_from_start p fuel (from + 1)))

-- Contents that are the same are equal.
pub octets_same : (a b : List ℕ) → bytes_eq a b ≡ true → a ≡ b
octets_same a b h = (bytes_eq-Decides a b).0 h

pub content_same : (c d : Content) → same c d ≡ true → c ≡ d
content_same c d h = search rules

pub octets_self : (a : List ℕ) → bytes_eq a a ≡ true
octets_self a = (bytes_eq-Decides a a).1 refl

pub content_self : (c : Content) → same c c ≡ true
content_self (number a) = eq-eqb a a refl
content_self (text a) = octets_self a
content_self missing = refl
content_self (reference a) = (Decides-int_eq a a).1 refl

-- Copies of a content are all the same.
pub are_same_copies : (c : Content) (n : ℕ) → list_all (same c) (replicate n c) ≡ true
are_same_copies c zero = refl
are_same_copies c (suc n) = cc (content_self c, are_same_copies c n)

-- If the content is a number, it is at least m.
abbrev pub IsOver : ℕ → Content → Type 0
IsOver m (number n) = m ≤ n
IsOver m _ = Unit {0}

abbrev pub AreOver : ℕ → List Content → Type 0
AreOver m cs = AllByRecursion (λ (c : Content). IsOver m c) cs

abbrev pub AreNumbers : Bool → ℕ → List Content → Type 0
AreNumbers m w cs = AllByRecursion (λ (c : Content). FitsNumber m w c) cs

over_less : (a b : ℕ) (cs : List Content) → a ≤ b → AreOver b cs → AreOver a cs
over_less a b [] h g = tt
over_less a b (number n ∷ cs) h g = (omega (arith, g.0), over_less a b cs h g.1)
over_less a b (c ∷ cs) h g = (tt, over_less a b cs h g.1)

-- If there are no numbers, none is below or above a bound.
pub none_over : (cs : List Content) (b : ℕ) → lowest cs ≡ None → AreOver b cs
none_over [] b e = tt
none_over (number n ∷ cs) b e = absurd cc
none_over (c ∷ cs) b e = (tt, none_over cs b e)

pub lowest_over : (cs : List Content) (m : ℕ) → lowest cs ≡ Some m → AreOver m cs
lowest_over [] m e = absurd cc
lowest_over (number n ∷ cs) m e = by_rest n m cs (lowest cs) refl e (λ l q. lowest_over cs l q)
  where
    by_rest : (n m : ℕ) (cs : List Content) (o : Option ℕ) → lowest cs ≡ o → Some (option_map_or (min n) o n) ≡ Some m → ((l : ℕ) → lowest cs ≡ Some l → AreOver l cs) → (m ≤ n) × AreOver m cs
    by_rest n m cs None q e h = let s : n ≡ m = cc in (omega arith, none_over cs m q)
    by_rest n m cs (Some l) q e h = let s : min n l ≡ m = cc in (omega arith, over_less m l cs (omega arith) (h l q))
lowest_over (c ∷ cs) m e = (tt, lowest_over cs m e)

-- The least number fits the width, because each number does.
pub lowest_fits : (may : Bool) (w : ℕ) (cs : List Content) (m : ℕ) → AreNumbers may w cs → lowest cs ≡ Some m → m < raw_limit may w
lowest_fits may w [] m h e = absurd cc
lowest_fits may w (number n ∷ cs) m h e = grind arith
lowest_fits may w (missing ∷ cs) m h e = lowest_fits may w cs m h.1 e
lowest_fits may w (c ∷ cs) m h e = absurd h.0

-- If all numbers are at least b, so is the least one.
pub under_lowest : (cs : List Content) (b m : ℕ) → AreOver b cs → lowest cs ≡ Some m → b ≤ m
under_lowest [] b m h e = absurd cc
under_lowest (number n ∷ cs) b m h e = by_rest (lowest cs) refl e (λ l q. under_lowest cs b l h.1 q)
  where
    by_rest : (o : Option ℕ) → lowest cs ≡ o → Some (option_map_or (min n) o n) ≡ Some m → ((l : ℕ) → lowest cs ≡ Some l → b ≤ l) → b ≤ m
    by_rest None q s g = let t : n ≡ m = cc in omega (arith, h.0)
    by_rest (Some l) q s g = let t : min n l ≡ m = cc in omega (arith, h.0, g l q)
under_lowest (c ∷ cs) b m h e = under_lowest cs b m h.1 e

-- If the contents of a numeric field include no number, all of them are missing.
pub all_missing : (may : Bool) (w : ℕ) (cs : List Content) → AreNumbers may w cs → lowest cs ≡ None → list_all (same missing) cs ≡ true
all_missing may w [] h e = refl
all_missing may w (number n ∷ cs) h e = absurd cc
all_missing may w (missing ∷ cs) h e = all_missing may w cs h.1 e
all_missing may w (c ∷ cs) h e = absurd h.0

-- ---- Numbers are packed with the least base and the least k.

true_false : (b : Bool) → b ≡ true → b ≡ false → ⊥
true_false true e f = cc
true_false false e f = cc

pub top_some : (m : Bool) (w : ℕ) → 1 ≤ w → 1 ≤ raw_limit m w
top_some true w h = let p : 2 ^ 1 ≤ 2 ^ w = pow_mono h in omega (arith, p)
top_some false w h = let p : 2 ^ 1 ≤ 2 ^ w = pow_mono h in omega (arith, p)

top_below : (m : Bool) (w : ℕ) → raw_limit m w ≤ 2 ^ w
top_below true w = omega arith
top_below false w = omega arith

module _ (spec : FieldSpec) (numeric : is_character spec.kind ≡ false) (element : is_reference spec.role ≡ false) where
  pub numbers_fit : (count : ℕ) (ds : List FieldContent) → AreContentsOf spec ds → AreNumbers spec.may_be_missing spec.width (padded_contents count ds)
  numbers_fit count [] all = tt
  numbers_fit count (field_content.Number n ∷ ds) all = (all.0.2, numbers_fit count ds all.1)
  numbers_fit count (field_content.Text t ∷ ds) all = absurd (true_false (is_character spec.kind) all.0.0 numeric)
  numbers_fit count (field_content.Missing ∷ ds) all = (all.0.1, numbers_fit count ds all.1)
  numbers_fit count (field_content.Reference v ∷ ds) all = absurd (true_false (is_reference spec.role) all.0.0 element)

  -- No increment is wider than the field.
  pub spread_under : (base : ℕ) (ds : List FieldContent) → 1 ≤ spec.width → AreContentsOf spec ds → spread base ds < raw_limit spec.may_be_missing spec.width
  spread_under base [] some all = omega (arith, top_some spec.may_be_missing spec.width some)
  spread_under base (field_content.Number n ∷ ds) some all = omega (arith, all.0.2, spread_under base ds some all.1)
  spread_under base (field_content.Text t ∷ ds) some all = absurd (true_false (is_character spec.kind) all.0.0 numeric)
  spread_under base (field_content.Missing ∷ ds) some all = omega (arith, spread_under base ds some all.1)
  spread_under base (field_content.Reference v ∷ ds) some all = absurd (true_false (is_reference spec.role) all.0.0 element)

  -- The least number fits the width of the field.
  pub base_under : (count : ℕ) (ds : List FieldContent) → 1 ≤ spec.width → AreContentsOf spec ds → unwrap_or (lowest (padded_contents count ds)) 0 < 2 ^ spec.width
  base_under count ds some all = by (lowest (padded_contents count ds)) refl
    where
      by : (o : Option ℕ) → lowest (padded_contents count ds) ≡ o → unwrap_or o 0 < 2 ^ spec.width
      by None e = omega (arith, top_some false spec.width some)
      by (Some n) e = omega (arith, lowest_fits spec.may_be_missing spec.width (padded_contents count ds) n (numbers_fit count ds all) e, top_below)

-- The least k is one that passes, and is at most any width that does.
pub least_most : (m : Bool) (s w : ℕ) → 1 ≤ w → w ≤ 63 → s < raw_limit m w → least_from m s 1 ≤ w
unfolding least_from
least_most m s w some most h = first_least (λ k. nat_lt s (raw_limit m k)) (64 - 1) 1 w some (lt-ltb s (raw_limit m w) h)

pub least_fits : (m : Bool) (s w : ℕ) → 1 ≤ w → w ≤ 63 → s < raw_limit m w → s < raw_limit m (least_from m s 1)
unfolding least_from
least_fits m s w some most h = ltb-true s (raw_limit m (first_from (λ k. nat_lt s (raw_limit m k)) (64 - 1) 1))
    (first_passes (λ k. nat_lt s (raw_limit m k)) (64 - 1) 1 w some (omega arith) (lt-ltb s (raw_limit m w) h))

pub all_short : (m : Bool) (base k : ℕ) (ds : List FieldContent) → spread base ds < raw_limit m k → AreShort base k ds
all_short m base k [] h = tt
all_short m base k (field_content.Number n ∷ ds) h = (omega (arith, top_below), all_short m base k ds (omega arith))
all_short m base k (d ∷ ds) h = (tt, all_short m base k ds (omega arith))

-- All increments fit into k bits if the greatest one does.
max_test : (a b t : ℕ) → nat_lt (max a b) t ≡ (nat_lt a t && nat_lt b t)
max_test a b t = grind arith

zero_max : (s t : ℕ) → nat_lt s t ≡ nat_lt (max 0 s) t
zero_max s t = grind arith

all_have : (w : ℕ) (m : Bool) (base k count : ℕ) (ds : List FieldContent) → 1 ≤ k
    → list_all (has_increment (numbers w m) base k) (padded_contents count ds) ≡ nat_lt (spread base ds) (raw_limit m k)
all_have w m base k count [] h = simp (lt-ltb, top_some)
all_have w m base k count (field_content.Number n ∷ ds) h =
    ap (λ b. nat_lt (n - base) (raw_limit m k) && b) (all_have w m base k count ds h) ∙ sym (max_test (n - base) (spread base ds) (raw_limit m k))
all_have w m base k count (d ∷ ds) h = all_have w m base k count ds h ∙ zero_max (spread base ds) (raw_limit m k)

pub first_same : (p q : ℕ → Bool) (fuel from : ℕ) → ((k : ℕ) → from ≤ k → p k ≡ q k) → first_from p fuel from ≡ first_from q fuel from
first_same p q zero from h = refl
first_same p q (suc fuel) from h = cc (h from (omega arith), first_same p q fuel (from + 1) (λ k g. h k (omega arith)))

pub least_is : (w : ℕ) (m : Bool) (base count : ℕ) (ds : List FieldContent) → least_k (has_increment (numbers w m) base) (padded_contents count ds) ≡ least_from m (spread base ds) 1
unfolding least_from
least_is w m base count ds = search (rules, first_same, all_have)

-- For numbers, the least k is at most 63, and each increment fits into k bits.
pub k_narrow : (spec : FieldSpec) → is_character spec.kind ≡ false → is_reference spec.role ≡ false → (base : ℕ) (ds : List FieldContent) (k : ℕ) → 1 ≤ spec.width → spec.width ≤ 63
    → AreContentsOf spec ds
    → k ≡ least_from spec.may_be_missing (spread base ds) 1 → k ≤ 63
k_narrow spec numeric element base ds k some narrow all e = omega (
  arith,
  e,
  narrow,
  least_most spec.may_be_missing (spread base ds) spec.width some narrow (spread_under spec numeric element base ds some all),
)

pub k_short : (spec : FieldSpec) → is_character spec.kind ≡ false → is_reference spec.role ≡ false → (base : ℕ) (ds : List FieldContent) (k : ℕ) → 1 ≤ spec.width → spec.width ≤ 63
    → AreContentsOf spec ds
    → k ≡ least_from spec.may_be_missing (spread base ds) 1 → AreShort base k ds
k_short spec numeric element base ds k some narrow all e =
    rw e (all_short spec.may_be_missing base (least_from spec.may_be_missing (spread base ds) 1) ds
    (least_fits spec.may_be_missing (spread base ds) spec.width some narrow (spread_under spec numeric element base ds some all)))

-- contents that differ, packed with this base and this k
abbrev pub over_at : FieldSpec → List Content → Coding → (base k : ℕ) → Result (List Bool) ItemFault
over_at spec cs c base k = if nat_le k 63 then Ok (packed_bits (bits_in base spec.width) k (flat_map (increment_for c base k) cs)) else Err wrong.Increment

pub over_is : (spec : FieldSpec) (cs : List Content) (c : Coding) (base k : ℕ) → coding_of spec ≡ c → unwrap_or (lowest cs) 0 ≡ base → least_k (has_increment c base) cs ≡ k
    → packed_over spec cs ≡ over_at spec cs c base k
over_is spec cs c base k e b l = cc (e)

pub over_written : (spec : FieldSpec) (cs : List Content) (c : Coding) (base k : ℕ) → coding_of spec ≡ c → unwrap_or (lowest cs) 0 ≡ base → least_k (has_increment c base) cs ≡ k → k ≤ 63
    → packed_over spec cs ≡ Ok (packed_bits (bits_in base spec.width) k (flat_map (increment_for c base k) cs))
over_written spec cs c base k e b l small = cc (le-leb k 63 small)

-- the bits of packed numbers
pub numbers_packed : (spec : FieldSpec) (count : ℕ) (ds : List FieldContent) (base k : ℕ) → is_character spec.kind ≡ false → is_reference spec.role ≡ false
    → base ≡ unwrap_or (lowest (padded_contents count ds)) 0 → k ≡ least_from spec.may_be_missing (spread base ds) 1 → k ≤ 63
    → packed_over spec (padded_contents count ds)
    ≡ Ok (packed_bits (bits_in base spec.width) k (flat_map (increment_for (numbers spec.width spec.may_be_missing) base k) (padded_contents count ds)))
numbers_packed spec count ds base k numeric element b l small =
    over_written spec (padded_contents count ds) (numbers spec.width spec.may_be_missing) base k (number_coding spec numeric element) (sym b)
    (least_is spec.width spec.may_be_missing base count ds ∙ sym l) small

-- the base, k and the increments, in the order in which they were appended
pub parts_put : (old one two three base k rest : List Bool) → one ≡ old ++ base → two ≡ one ++ k → three ≡ two ++ rest → three ≡ old ++ (base ++ (k ++ rest))
parts_put old one two three base k rest a b c = grind (arith, append_assoc)

pub parts_length : (old new more : List Bool) (n : ℕ) → new ≡ old ++ more → length new ≤ length old + n → length more ≤ n
parts_length old new more n e h = omega (arith, ap length e, length-append old more)

-- ---- Texts are packed with the least k.

le_same : (a b x y : ℕ) → (a ≤ b → x ≤ y) → (x ≤ y → a ≤ b) → nat_le a b ≡ nat_le x y
le_same a b x y f g = grind arith

-- whether a text consists of its first k octets, followed by spaces only
abbrev again : ℕ → List ℕ → Bool
again k os = bytes_eq (take k os ++ replicate (length os - k) 32) os

suc_le : (a b : ℕ) → nat_le (suc a) (suc b) ≡ nat_le a b
suc_le a b = le_same (suc a) (suc b) a b (λ h. omega (arith, h)) (λ h. omega (arith, h))

again_more : (t : Bool) (o k : ℕ) (os : List ℕ) → ((trimmed os == 0) && (o == 32)) ≡ t → again k os ≡ nat_le (trimmed os) k
    → again (suc k) (o ∷ os) ≡ nat_le (if t then 0 else suc (trimmed os)) (suc k)
again_more true o k os e h = grind arith
again_more false o k os e h = grind arith

same_32 : (o : ℕ) (b : Bool) → (o == 32) ≡ b → (32 == o) ≡ b
same_32 o true e = ap (λ x. 32 == x) (eqb-true o 32 e)
same_32 o false e = grind arith

again_none : (o : ℕ) (os : List ℕ) (x y : Bool) → (trimmed os == 0) ≡ x → (o == 32) ≡ y → again 0 os ≡ nat_le (trimmed os) 0 → again 0 (o ∷ os) ≡ nat_le (if x && y then 0 else suc (trimmed os)) 0
again_none o os x y p q h = search (rules, same_32, le-leb, lt-leb)

again_is : (k : ℕ) (os : List ℕ) → again k os ≡ nat_le (trimmed os) k
again_is k [] = grind (arith, common_steps, nat_le, le-leb)
again_is zero (o ∷ os) = again_none o os (trimmed os == 0) (o == 32) refl refl (again_is zero os)
again_is (suc k) (o ∷ os) = again_more ((trimmed os == 0) && (o == 32)) o k os refl (again_is k os)

-- whether a text consists of octets of 255 only, and therefore reads as missing
abbrev full : List ℕ → Bool
full os = list_all (λ octet. octet == 255) os

not_full_none : (o : ℕ) (os : List ℕ) → trimmed (o ∷ os) ≤ 0 → false ≡ nat_le (need (o ∷ os)) 0
not_full_none o os h = search (rules, lt-leb)

not_full_other : (o k : ℕ) (os : List ℕ) (t : Bool) → (o == 255) ≡ false → ((trimmed os == 0) && (o == 32)) ≡ t → trimmed (o ∷ os) ≤ suc k
    → not (full (take (suc k) (o ∷ os))) ≡ nat_le (need (o ∷ os)) (suc k)
not_full_other o k os t e s h = search (rules, le-leb)

need_suc : (b : Bool) (n k : ℕ) → nat_le (if b then suc n else n) k ≡ nat_le (if b then suc (suc n) else suc n) (suc k)
need_suc true n k = sym (suc_le (suc n) k)
need_suc false n k = sym (suc_le n k)

not_full_one : (o k : ℕ) (os : List ℕ) → (o == 255) ≡ true → trimmed (o ∷ os) ≤ suc k → (trimmed os ≤ k → not (full (take k os)) ≡ nat_le (need os) k)
    → not (full (take (suc k) (o ∷ os))) ≡ nat_le (need (o ∷ os)) (suc k)
not_full_one o k os e h go = grind arith

not_full : (os : List ℕ) (k : ℕ) → full os ≡ false → trimmed os ≤ k → not (full (take k os)) ≡ nat_le (need os) k
not_full [] k f h = absurd cc
not_full (o ∷ os) zero f h = not_full_none o os h
not_full (o ∷ os) (suc k) f h = by (o == 255) refl f (λ g l. not_full os k g l)
  where
    by : (b : Bool) → (o == 255) ≡ b → (b && full os) ≡ false → (full os ≡ false → trimmed os ≤ k → not (full (take k os)) ≡ nat_le (need os) k)
        → not (full (take (suc k) (o ∷ os))) ≡ nat_le (need (o ∷ os)) (suc k)
    by true e f go = not_full_one o k os e h (go f)
    by false e f go = not_full_other o k os ((trimmed os == 0) && (o == 32)) e refl h

need_least : (os : List ℕ) → trimmed os ≤ need os
need_least os = grind arith

gives_is : (count : ℕ) (os : List ℕ) (k : ℕ) → full os ≡ false → has_increment (texts count) 0 k (text os) ≡ nat_le (need os) k
gives_is count os k f = search (rules, again_is, not_full)

-- Spaces after a text do not count.
trimmed_none : (n : ℕ) → trimmed (replicate n 32) ≡ 0
trimmed_none zero = refl
trimmed_none (suc n) = cc (trimmed_none n)

trimmed_spaced : (os : List ℕ) (n : ℕ) → trimmed (os ++ replicate n 32) ≡ trimmed os
trimmed_spaced [] n = trimmed_none n
trimmed_spaced (o ∷ os) n = rw (trimmed_spaced os n) refl

trimmed_within : (os : List ℕ) → trimmed os ≤ length os
trimmed_within [] = omega arith
trimmed_within (o ∷ os) = by ((trimmed os == 0) && (o == 32)) (trimmed_within os)
  where
    by : (b : Bool) → trimmed os ≤ length os → (if b then 0 else suc (trimmed os)) ≤ suc (length os)
    by true h = omega arith
    by false h = omega arith

take_prefix : (n : ℕ) (os r : List ℕ) → n ≤ length os → take n (os ++ r) ≡ take n os
take_prefix zero os r h = refl
take_prefix (suc n) [] r h = absurd (omega arith)
take_prefix (suc n) (o ∷ os) r h = grind (arith, common_steps)

need_spaced : (count : ℕ) (os : List ℕ) → need (spaced count os) ≡ need os
need_spaced count os = simp (trimmed_spaced, take_prefix, trimmed_within)

-- The octets that determine a text fit into the field.
need_room : (count : ℕ) (os : List ℕ) → (length os ≤ count) × (list_all (λ octet. octet == 255) (spaced count os) ≡ false) → need os ≤ count
need_room count os h = search (rules, trimmed_within, take_all)

pub most_room : (spec : FieldSpec) (ds : List FieldContent) → 1 ≤ spec.width / 8 → AreContentsOf spec ds → most_need ds ≤ spec.width / 8
most_room spec [] some all = some
most_room spec (field_content.Text t ∷ ds) some all = omega (arith, need_room (spec.width / 8) t.now all.0.2, most_room spec ds some all.1)
most_room spec (d ∷ ds) some all = omega (arith, most_room spec ds some all.1)

-- The greatest number of octets that a text needs is enough for all texts.
max_le : (a b k : ℕ) → nat_le (max a b) k ≡ (nat_le a k && nat_le b k)
max_le a b k = grind arith

one_le : (s k : ℕ) → 1 ≤ k → nat_le s k ≡ nat_le (max 1 s) k
one_le s k h = simp (max_le, le-leb)

texts_pass : (spec : FieldSpec) (ds : List FieldContent) (k : ℕ) → 1 ≤ k → AreContentsOf spec ds
    → list_all (has_increment (texts (spec.width / 8)) 0 k) (padded_contents (spec.width / 8) ds) ≡ nat_le (most_need ds) k
texts_pass spec [] k h all = sym (le-leb 1 k h)
texts_pass spec (field_content.Text t ∷ ds) k h all = grind (
  arith,
  gives_is (spec.width / 8) (spaced (spec.width / 8) t.now) k all.0.2.1 ∙ ap (λ n. nat_le n k) (need_spaced (spec.width / 8) t.now),
  texts_pass spec ds k h all.1,
  max_le (need t.now) (most_need ds) k,
)
texts_pass spec (d ∷ ds) k h all = texts_pass spec ds k h all.1 ∙ one_le (most_need ds) k h

first_at : (m fuel from : ℕ) → from ≤ m → first_from (λ k. nat_le m k) fuel from ≡ min m (from + fuel)
first_at m zero from h = omega arith
first_at m (suc fuel) from h = by (nat_le m from) refl (λ g. first_at m fuel (from + 1) g)
  where
    by : (b : Bool) → nat_le m from ≡ b → (from + 1 ≤ m → first_from (λ k. nat_le m k) fuel (from + 1) ≡ min m (from + 1 + fuel))
        → (if nat_le m from then from else first_from (λ k. nat_le m k) fuel (from + 1)) ≡ min m (from + suc fuel)
    by true e go = ap (λ b. if b then from else first_from (λ k. nat_le m k) fuel (from + 1)) e ∙ (let q : from ≡ min m (from + suc fuel) = omega (arith, leb-true) in q)
    by false e go = ap (λ b. if b then from else first_from (λ k. nat_le m k) fuel (from + 1)) e ∙ go (omega (arith, leb-false))
        ∙ (let q : min m (from + 1 + fuel) ≡ min m (from + suc fuel) = omega arith in q)

least_of : (p q : ℕ → Bool) (fuel m : ℕ) → ((k : ℕ) → 1 ≤ k → p k ≡ q k) → (first_from q fuel 1 ≡ min m (1 + fuel)) → first_from p fuel 1 ≡ min m (1 + fuel)
least_of p q fuel m h e = first_same p q fuel 1 h ∙ e

pub texts_least : (spec : FieldSpec) (ds : List FieldContent) → 1 ≤ most_need ds → AreContentsOf spec ds
    → least_k (has_increment (texts (spec.width / 8)) 0) (padded_contents (spec.width / 8) ds) ≡ min (most_need ds) 64
texts_least spec ds some all =
    least_of (λ k. list_all (has_increment (texts (spec.width / 8)) 0 k) (padded_contents (spec.width / 8) ds)) (λ k. nat_le (most_need ds) k) 63 (most_need ds)
    (λ k h. texts_pass spec ds k h all) (first_at (most_need ds) 63 1 some)

-- Texts have no least number.
texts_lowest : (spec : FieldSpec) (count : ℕ) (ds : List FieldContent) → is_character spec.kind ≡ true → AreContentsOf spec ds → lowest (padded_contents count ds) ≡ None
texts_lowest spec count [] e all = refl
texts_lowest spec count (field_content.Number n ∷ ds) e all = let no : true ≡ false = sym e ∙ all.0.0 in absurd cc
texts_lowest spec count (field_content.Text t ∷ ds) e all = texts_lowest spec count ds e all.1
texts_lowest spec count (field_content.Missing ∷ ds) e all = texts_lowest spec count ds e all.1
texts_lowest spec count (field_content.Reference v ∷ ds) e all = texts_lowest spec count ds e all.1

pub texts_packed : (spec : FieldSpec) (ds : List FieldContent) (k : ℕ) → is_character spec.kind ≡ true → is_reference spec.role ≡ false → 1 ≤ most_need ds → AreContentsOf spec ds → k ≡ most_need ds
    → k ≤ 63
    → packed_over spec (padded_contents (spec.width / 8) ds)
    ≡ Ok (packed_bits (replicate spec.width false) k (flat_map (increment_for (texts (spec.width / 8)) 0 k) (padded_contents (spec.width / 8) ds)))
texts_packed spec ds k char element some all is few =
    let same_k : min (most_need ds) 64 ≡ k = omega (arith, is, few) in
    cc (
      over_written spec (padded_contents (spec.width / 8) ds) (texts (spec.width / 8)) 0 k (text_coding spec char element) (ap (λ o. unwrap_or o 0) (texts_lowest spec (spec.width / 8) ds char all))
          (texts_least spec ds some all ∙ same_k) few,
      bits_in-zero spec.width,
    )

pub texts_apart : (spec : FieldSpec) (ds : List FieldContent) (k : ℕ) → is_character spec.kind ≡ true → is_reference spec.role ≡ false → 1 ≤ most_need ds → AreContentsOf spec ds → k ≡ most_need ds
    → 63 < k → packed_over spec (padded_contents (spec.width / 8) ds) ≡ Err wrong.Increment
texts_apart spec ds k char element some all is many =
    let greatest : min (most_need ds) 64 ≡ 64 = omega (arith, is, many) in
    over_is spec (padded_contents (spec.width / 8) ds) (texts (spec.width / 8)) 0 64 (text_coding spec char element) (ap (λ o. unwrap_or o 0) (texts_lowest spec (spec.width / 8) ds char all))
    (texts_least spec ds some all ∙ greatest)

-- ---- The least and the greatest number of an item, updated content by content.

-- the least number after one more content
pub least_with : (ds : List FieldContent) (d : FieldContent) → least_number (ds ++ d ∷ []) ≡ min (number_or 18446744073709551615 d) (least_number ds)
least_with [] d = refl
least_with (x ∷ ds) d = omega (arith, least_with ds d)

least_is_u64 : (ds : List FieldContent) → least_number ds ≤ 18446744073709551615
least_is_u64 [] = omega arith
least_is_u64 (d ∷ ds) = omega (arith, least_is_u64 ds)

-- The least number, if there is one, is `least`, and it is at most `most`.
abbrev IsLowest : Option ℕ → (least most : ℕ) → Type 0
IsLowest None least most = (least ≡ 18446744073709551615) × (most ≡ 0)
IsLowest (Some n) least most = (least ≡ n) × (n ≤ most)

lowest_same : (o : Option ℕ) (least most : ℕ) → least ≤ 18446744073709551615 → IsLowest o least most → IsLowest o (min 18446744073709551615 least) (max 0 most)
lowest_same None least most h g = (omega (arith, g.0), omega (arith, g.1))
lowest_same (Some n) least most h g = (omega (arith, g.0, h), omega (arith, g.1))

lowest_more : (m : ℕ) (o : Option ℕ) (least most : ℕ) → max (m - 0) most ≤ 18446744073709551615 → IsLowest o least most → IsLowest (Some (option_map_or (min m) o m)) (min m least) (max (m - 0) most)
lowest_more m None least most h g = (omega (arith, g.0, h), omega arith)
lowest_more m (Some n) least most h g = (omega (arith, g.0), omega (arith, g.1))

lowest_is : (count : ℕ) (ds : List FieldContent) → spread 0 ds ≤ 18446744073709551615 → IsLowest (lowest (padded_contents count ds)) (least_number ds) (spread 0 ds)
lowest_is count [] h = (refl, refl)
lowest_is count (field_content.Number m ∷ ds) h = lowest_more m (lowest (padded_contents count ds)) (least_number ds) (spread 0 ds) h (lowest_is count ds (omega arith))
lowest_is count (d ∷ ds) h = lowest_same (lowest (padded_contents count ds)) (least_number ds) (spread 0 ds) (least_is_u64 ds) (lowest_is count ds (omega arith))

-- the base of an item, given the least and the greatest number
pub base_some : (count : ℕ) (ds : List FieldContent) → spread 0 ds ≤ 18446744073709551615 → least_number ds ≤ spread 0 ds → least_number ds ≡ unwrap_or (lowest (padded_contents count ds)) 0
base_some count ds h g = by (lowest (padded_contents count ds)) (lowest_is count ds h)
  where
    by : (o : Option ℕ) → IsLowest o (least_number ds) (spread 0 ds) → least_number ds ≡ unwrap_or o 0
    by None q = absurd (omega (arith, q.0, q.1))
    by (Some n) q = q.0

pub base_none : (count : ℕ) (ds : List FieldContent) → spread 0 ds ≤ 18446744073709551615 → spread 0 ds < least_number ds → 0 ≡ unwrap_or (lowest (padded_contents count ds)) 0
base_none count ds h g = by (lowest (padded_contents count ds)) (lowest_is count ds h)
  where
    by : (o : Option ℕ) → IsLowest o (least_number ds) (spread 0 ds) → 0 ≡ unwrap_or o 0
    by None q = refl
    by (Some n) q = absurd (omega (arith, q.0, q.1))

-- the greatest number after one more content
pub most_with : (ds : List FieldContent) (d : FieldContent) → spread 0 (ds ++ d ∷ []) ≡ max (over_of 0 d) (spread 0 ds)
most_with [] d = refl
most_with (x ∷ ds) d = omega (arith, most_with ds d)

pub number_is : (d : FieldContent) → number_or 0 d ≡ over_of 0 d
number_is (field_content.Number n) = omega arith
number_is d = refl

-- The greatest increment is that of the greatest number.
pub spread_over : (base : ℕ) (ds : List FieldContent) → spread base ds ≡ spread 0 ds - base
spread_over base [] = omega arith
spread_over base (field_content.Number n ∷ ds) = omega (arith, spread_over base ds)
spread_over base (d ∷ ds) = omega (arith, spread_over base ds)

smaller_least : (a n : ℕ) (o : Option ℕ) → a ≡ n → option_map_or (min a) o a ≡ a → option_map_or (min n) o n ≡ a
smaller_least a n o e h = cc (e)

-- contents that are all the same number
all_one : (count a : ℕ) (ds : List FieldContent) → list_all (same (number a)) (padded_contents count ds) ≡ true → (option_map_or (min a) (lowest (padded_contents count ds)) a ≡ a)
    × (max a (spread 0 ds) ≡ a)
all_one count a [] h = (refl, omega arith)
all_one count a (field_content.Number n ∷ ds) h =
    let e = eqb-true a n (and_first (a == n) (list_all (same (number a)) (padded_contents count ds)) h) in
    let rest = all_one count a ds (and_second (a == n) (list_all (same (number a)) (padded_contents count ds)) h) in
    let least = smaller_least a n (lowest (padded_contents count ds)) e rest.0 in (
      omega (arith, least),
      omega (arith, e, rest.1),
    )
all_one count a (d ∷ ds) h = absurd cc

-- contents that are all the same, but not a number
all_none : (count : ℕ) (c : Content) (ds : List FieldContent) → ((n : ℕ) → same c (number n) ≡ false) → list_all (same c) (padded_contents count ds) ≡ true
    → (lowest (padded_contents count ds) ≡ None) × (spread 0 ds ≡ 0)
all_none count c [] differs h = (refl, refl)
all_none count c (field_content.Number n ∷ ds) differs h = absurd (true_false (same c (number n)) (and_first (same c (number n)) (list_all (same c) (padded_contents count ds)) h) (differs n))
all_none count c (field_content.Text t ∷ ds) differs h = let rest =
    all_none count c ds differs (and_second (same c (padded_content count (field_content.Text t))) (list_all (same c) (padded_contents count ds)) h) in
    (rest.0, omega (arith, rest.1))
all_none count c (field_content.Missing ∷ ds) differs h = let rest =
    all_none count c ds differs (and_second (same c missing) (list_all (same c) (padded_contents count ds)) h) in (rest.0, omega (arith, rest.1))
all_none count c (field_content.Reference v ∷ ds) differs h = let rest = all_none count c ds differs (and_second (same c (reference v)) (list_all (same c) (padded_contents count ds)) h) in
    (rest.0, omega (arith, rest.1))

no_range : (count : ℕ) (ds : List FieldContent) → (lowest (padded_contents count ds) ≡ None) × (spread 0 ds ≡ 0) → unwrap_or (lowest (padded_contents count ds)) 0 ≡ spread 0 ds
no_range count ds h = rw (h.0, h.1)

-- If contents are all the same, their least and their greatest number are equal.
pub range_of_same : (count : ℕ) (c : Content) (ds : List FieldContent) → list_all (same c) (padded_contents count ds) ≡ true → unwrap_or (lowest (padded_contents count ds)) 0 ≡ spread 0 ds
range_of_same count (number a) [] h = refl
range_of_same count (number a) (field_content.Number n ∷ ds) h = grind (arith, common_steps, eqb-true, and_first, all_one, and_second, smaller_least)
range_of_same count (number a) (d ∷ ds) h = absurd cc
range_of_same count (text t) ds h = no_range count ds (all_none count (text t) ds (λ n. refl) h)
range_of_same count missing ds h = no_range count ds (all_none count missing ds (λ n. refl) h)
range_of_same count (reference v) ds h = no_range count ds (all_none count (reference v) ds (λ n. refl) h)

-- If the least and the greatest number differ, the contents are not all the same.
pub not_alike : (count : ℕ) (c : Content) (ds : List FieldContent) → (unwrap_or (lowest (padded_contents count ds)) 0 ≡ spread 0 ds → ⊥) → false ≡ list_all (same c) (padded_contents count ds)
not_alike count c ds h = grind (arith, range_of_same)
