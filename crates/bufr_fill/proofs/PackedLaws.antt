-- An item of compressed data that was read is packed and read back, in no more bits.
use Rattle.std.proofs.Common.{◌≡◌, ℕ, ◌+◌, ◌*◌, ◌/◌, ◌^◌, ◌<◌, ◌≤◌, Bool, true, false, List, [], ◌∷◌, ◌++◌, length, take, drop, map, replicate, Option, Some, None, Result, Ok, Err, refl, sym, ◌∙◌, ap, subst, arith, append_assoc, pow_mono, zero, suc, ◌==◌, nat_lt, nat_le, if◌then◌else◌, unwrap_or, ◌||◌, rules}
use Rattle.std.proofs.lemmas.Bool.{le-ltb, leb-true, lt-ltb, ltb-false, eqb-true}
use Rattle.std.specs.List.{list_all, flat_map, AllByRecursion}
use Rattle.std.proofs.lemmas.List.{take_at, drop_at, drop-drop, length-append, length-replicate, length-take, length-take-le, length-drop, append-nil, take_all}
use Rattle.std.proofs.Math.Nat.{mul-le-mul_left, le_of_mul-le-mul_left}
use Rattle.bufr_bits.specs.Prelude.{bits_in, number_of}
use Rattle.bufr_bits.proofs.BitLemmas.{number_of-below, length-bits_in}
use Rattle.bufr_bits.proofs.DecimalLemmas.{and_first, and_second}
use Rattle.bufr_tables.specs.declared.table_b.Kind.{Kind}
use Rattle.bufr_walk.specs.declared.spec.Role.{Role}
use Rattle.bufr_walk.specs.Prelude.{Coding, numbers, texts, references, coding_by, coding_of, step_of, increased, all_there, contents_across, if_equal, content_by, is_reference, FieldSpec, IsSpec, HasWidth, Content, number, text, missing, content_in, bits_for, FieldRead, found, increments, packed_field}
use Rattle.bufr_walk.proofs.PackedLemmas.{item_by, item_parts, neither, varied, copied, copies_equal, next_there, some_same}
use Rattle.bufr_fill.specs.Prelude.{raw_limit, same, lowest, has_increment, increment_for, least_k, packed_bits, packed_over, packed_unlike, packing, k_of, HasLeastK, first_from, FitsNumber, FitsText, FitsKind, FitsRole, Fits, AllFit, Role, Kind}
use Rattle.bufr_fill.proofs.FieldLemmas.{coded, coding_is, number_again, same_ok}
use Rattle.bufr_fill.proofs.LeastLemmas.{first_least, first_passes, first_from_start, content_same, are_same_copies, AreNumbers, AreOver, none_over, lowest_over, lowest_fits, under_lowest, octets_self, top_some, over_at, over_is, over_written}
use Rattle.bufr_fill.proofs.PackedBack.{pieces_length, pieces_found, numbers_back, increments_long, AreTexts, octets_long, texts_back, AllLong, increments_all, numbers_read, all_over, texts_read, texts_short}
use Rattle.bufr_fill.proofs.PlainLaws.{content_back, content_length, content_fits}
use Rattle.bufr_tables.specs.declared.table_b.Kind.TheVariants as kind
use Rattle.bufr_walk.specs.declared.spec.Role.TheVariants as role
use Rattle.bufr_fill.specs.declared.fault.ItemFault.TheVariants as wrong
use Rattle.bufr_walk.specs.declared.fault.DataFault.{DataFault}
use Rattle.bufr_tables.specs.Prelude.{only_if}

-- ---- The parts of bits that were read.

pub record IsUnpacked (n : ℕ) (spec : FieldSpec) (bits : List Bool) (cs : List Content) (mid : List Bool) (k : ℕ) : Type 0 where
  pub small : k ≤ 63
  pub base : length (take spec.width bits) ≡ spec.width
  pub enough : n * step_of (coding_of spec) k ≤ length (drop (spec.width + 6) bits)
  pub across : contents_across (coding_of spec) k n (take spec.width bits) (drop (spec.width + 6) bits) ≡ Some cs
  pub equal : if_equal spec.role cs ≡ Some cs
  pub used : spec.width + 6 + n * step_of (coding_of spec) k + length mid ≡ length bits

module _ (n : ℕ) (spec : FieldSpec) where
  k_small : (bits : List Bool) → number_of (take 6 bits) ≤ 63
  k_small bits =
      let l : length (take 6 bits) ≤ 6 = omega (arith, length-take 6 bits) in
      let p : 2 ^ length (take 6 bits) ≤ 2 ^ 6 = pow_mono l in
      omega (arith, p, number_of-below)

  pub unpacked : (bits : List Bool) (cs : List Content) (mid : List Bool) → packed_field n spec bits ≡ Ok (found cs mid) → IsUnpacked n spec bits cs mid (number_of (take 6 (drop spec.width bits)))
  unpacked bits cs mid e =
      let k = number_of (take 6 (drop spec.width bits)) in
      let suffix = drop (spec.width + 6) bits in
      let used = n * step_of (coding_of spec) k in
      let t = item_parts spec.fxy spec.role (nat_lt (length bits) (spec.width + 6) || nat_lt (length suffix) used) (contents_across (coding_of spec) k n (take spec.width bits) suffix)
      (drop used suffix) cs mid e in
      let ends = neither (nat_lt (length bits) (spec.width + 6)) (nat_lt (length suffix) used) t.0 in
      let long : spec.width + 6 ≤ length bits = omega (arith, ltb-false) in
      let enough : used ≤ length suffix = ltb-false (length suffix) used ends.1 in
      record {
        small = k_small (drop spec.width bits);
        base = length-take-le spec.width bits (omega arith);
        enough = enough;
        across = t.1;
        equal = t.2;
        used = omega (arith, length-drop (spec.width + 6) bits, length-drop used suffix, ap length t.3);
      }

  -- ---- How packed bits are read, part by part.
  abbrev by_parts : (bits : List Bool) (k : ℕ) (base suffix : List Bool) → Result (FieldRead (List Content)) DataFault
  by_parts bits k base suffix = item_by spec.fxy spec.role (nat_lt (length bits) (spec.width + 6) || nat_lt (length suffix) (n * step_of (coding_of spec) k))
      (contents_across (coding_of spec) k n base suffix) (drop (n * step_of (coding_of spec) k) suffix)

  pub packed_reads : (base : List Bool) (k : ℕ) (pieces more : List Bool) (cs : List Content) → length base ≡ spec.width → k ≤ 63 → length pieces ≡ n * step_of (coding_of spec) k
      → contents_across (coding_of spec) k n base (pieces ++ more) ≡ Some cs → if_equal spec.role cs ≡ Some cs
      → packed_field n spec (packed_bits base k pieces ++ more) ≡ Ok (found cs more)
  packed_reads base k pieces more cs lb small lp across equal =
      let w = spec.width in
      let used = n * step_of (coding_of spec) k in
      let all = packed_bits base k pieces ++ more in
      let turned : all ≡ base ++ (bits_in k 6 ++ (pieces ++ more)) = append_assoc base (bits_in k 6 ++ pieces) more ∙ ap (λ x. base ++ x) (append_assoc (bits_in k 6) pieces more) in
      let first : take w all ≡ base = ap (take w) turned ∙ take_at base (bits_in k 6 ++ (pieces ++ more)) w lb in
      let rest : drop w all ≡ bits_in k 6 ++ (pieces ++ more) = ap (drop w) turned ∙ drop_at base (bits_in k 6 ++ (pieces ++ more)) w lb in
      let six : take 6 (drop w all) ≡ bits_in k 6 = ap (take 6) rest ∙ take_at (bits_in k 6) (pieces ++ more) 6 (length-bits_in k 6) in
      let is_k : number_of (take 6 (drop w all)) ≡ k = ap number_of six ∙ number_again k 6 (omega arith) in
      let suffix : drop (w + 6) all ≡ pieces ++ more = sym (drop-drop 6 w all) ∙ ap (drop 6) rest ∙ drop_at (bits_in k 6) (pieces ++ more) 6 (length-bits_in k 6) in
      let size : length all ≡ w + 6 + (length pieces + length more) =
      omega (arith, ap length turned, length-append base (bits_in k 6 ++ (pieces ++ more)), length-append (bits_in k 6) (pieces ++ more), length-append pieces more, lb, length-bits_in k 6) in
      let none : nat_lt (length all) (w + 6) ≡ false = le-ltb (length all) (w + 6) (omega (arith, size)) in
      let enough : nat_lt (length (pieces ++ more)) used ≡ false = le-ltb (length (pieces ++ more)) used (omega (arith, length-append pieces more, lp)) in
      rw (is_k, first, suffix, none, enough, across, equal, drop_at)

-- ---- Contents that differ.

-- The contents were read with k above 0. They fit the field, and k bits or octets of each are
-- enough.
abbrev pub IsVaried : Kind → Bool → (w k : ℕ) → List Content → Type 0
IsVaried kind.Character m w k cs = AreTexts (w / 8) cs × (list_all (has_increment (texts (w / 8)) 0 k) cs ≡ true) × (k ≤ w / 8)
IsVaried kd m w k cs = AreNumbers m w cs × ((low : ℕ) → lowest cs ≡ Some low → list_all (has_increment (numbers w m) low k) cs ≡ true)

numbers_varied : (m : Bool) (w k : ℕ) (base : List Bool) (is : List (List Bool)) (cs : List Content) → AllLong k is → all_there (map (increased (numbers w m) k base) is) ≡ Some cs
    → IsVaried kind.Numeric m w k cs
numbers_varied m w k base is cs long e =
    let r = numbers_read m w k base is cs long e in
    (r.fits, λ low q. all_over m w (number_of base) low k cs (under_lowest cs (number_of base) low r.increment_over q) r.short)

varied_by_kind : (kd : Kind) (m : Bool) (w k : ℕ) (base : List Bool) (is : List (List Bool)) (c : Content) (cs : List Content) → AllLong (step_of (coded kd w m) k) is
    → all_there (map (increased (coded kd w m) k base) is) ≡ Some (c ∷ cs) → IsVaried kd m w k (c ∷ cs)
varied_by_kind kind.Character m w k base is c cs long e =
    let r = texts_read (w / 8) k base is (c ∷ cs) long e in (r.fits, r.again, texts_short (w / 8) k base is c cs e)
varied_by_kind kind.Coded m w k base is c cs long e = numbers_varied m w k base is (c ∷ cs) long e
varied_by_kind kind.Numeric m w k base is c cs long e = numbers_varied m w k base is (c ∷ cs) long e

-- ---- Contents that differ are written.

none_has : (w : ℕ) (m : Bool) (low k : ℕ) (cs : List Content) → lowest cs ≡ None → list_all (has_increment (numbers w m) low k) cs ≡ true
none_has w m low k [] e = refl
none_has w m low k (number n ∷ cs) e = absurd cc
none_has w m low k (c ∷ cs) e = none_has w m low k cs e

-- Contents that differ are packed as a base, a k of at most `most`, and increments, and are read
-- back from them.
pub record IsWritten (d : Coding) (spec : FieldSpec) (cs : List Content) (most : ℕ) : Type 0 where
  pub base : List Bool
  pub k : ℕ
  pub pieces : List Bool
  pub is : packed_over spec cs ≡ Ok (packed_bits base k pieces)
  pub long : length base ≡ spec.width
  pub some : 1 ≤ k
  pub small : k ≤ 63
  pub least : k ≤ most
  pub size : length pieces ≡ length cs * step_of d k
  pub across : (more : List Bool) → all_there (map (increased d k base) (increments (length cs) (step_of d k) (pieces ++ more))) ≡ Some cs

-- Texts have no least number.
texts_none : (count : ℕ) (cs : List Content) → AreTexts count cs → lowest cs ≡ None
texts_none count [] h = refl
texts_none count (text os ∷ cs) h = texts_none count cs h.1
texts_none count (missing ∷ cs) h = texts_none count cs h.1
texts_none count (number n ∷ cs) h = absurd h.0
texts_none count (c ∷ cs) h = absurd h.0

module _ (spec : FieldSpec) (cs : List Content) (most : ℕ) (some : 1 ≤ most) (small : most ≤ 63) where
  -- the least k that passes
  module _ (passes : ℕ → Content → Bool) (pass : list_all (passes most) cs ≡ true) where
    least_some : 1 ≤ least_k passes cs
    least_some = first_from_start (λ k. list_all (passes k) cs) 63 1

    least_most : least_k passes cs ≤ most
    least_most = first_least (λ k. list_all (passes k) cs) 63 1 most some pass

    least_passes : list_all (passes (least_k passes cs)) cs ≡ true
    least_passes = first_passes (λ k. list_all (passes k) cs) 63 1 most some (omega arith) pass

  -- numbers that are at least the base
  number_item : (base : ℕ) → coding_of spec ≡ numbers spec.width spec.may_be_missing → base < raw_limit spec.may_be_missing spec.width → AreNumbers spec.may_be_missing spec.width cs → AreOver base cs
      → (pass : list_all (has_increment (numbers spec.width spec.may_be_missing) base most) cs ≡ true) → unwrap_or (lowest cs) 0 ≡ base
      → IsWritten (numbers spec.width spec.may_be_missing) spec cs most
  number_item base coding fits are increment_over pass e =
      let m = spec.may_be_missing in
      let d = numbers spec.width m in
      let k = least_k (has_increment d base) cs in
      let least : k ≤ most = least_most (has_increment d base) pass in
      let long = increments_long m spec.width base k cs in
      record {
        base = bits_in base spec.width;
        k = k;
        pieces = flat_map (increment_for d base k) cs;
        is = over_written spec cs d base k coding e refl (omega (arith, least));
        long = length-bits_in base spec.width;
        some = least_some (has_increment d base) pass;
        small = omega (arith, least);
        least = least;
        size = pieces_length (increment_for d base k) k cs long;
        across = λ more. ap (λ is. all_there (map (increased d k (bits_in base spec.width)) is)) (pieces_found (increment_for d base k) k cs more long)
            ∙ numbers_back m spec.width base k fits cs are increment_over (least_passes (has_increment d base) pass);
      }

  number_item_of : (o : Option ℕ) → lowest cs ≡ o → 1 ≤ spec.width → coding_of spec ≡ numbers spec.width spec.may_be_missing → IsVaried kind.Numeric spec.may_be_missing spec.width most cs
      → IsWritten (numbers spec.width spec.may_be_missing) spec cs most
  number_item_of None e h coding v =
      number_item 0 coding (top_some spec.may_be_missing spec.width h) v.0 (none_over cs 0 e) (none_has spec.width spec.may_be_missing 0 most cs e) (ap (λ o. unwrap_or o 0) e)
  number_item_of (Some low) e h coding v =
      number_item low coding (lowest_fits spec.may_be_missing spec.width cs low v.0 e) v.0 (lowest_over cs low e) (v.1 low e) (ap (λ o. unwrap_or o 0) e)

  text_item : coding_of spec ≡ texts (spec.width / 8) → IsVaried kind.Character spec.may_be_missing spec.width most cs → IsWritten (texts (spec.width / 8)) spec cs most
  text_item coding v =
      let d = texts (spec.width / 8) in
      let k = least_k (has_increment d 0) cs in
      let least : k ≤ most = least_most (has_increment d 0) v.1 in
      let short : k ≤ spec.width / 8 = omega (arith, least, v.2) in
      let long = octets_long (spec.width / 8) k short cs v.0 in
      record {
        base = bits_in 0 spec.width;
        k = k;
        pieces = flat_map (increment_for d 0 k) cs;
        is = over_written spec cs d 0 k coding (ap (λ o. unwrap_or o 0) (texts_none (spec.width / 8) cs v.0)) refl (omega (arith, least));
        long = length-bits_in 0 spec.width;
        some = least_some (has_increment d 0) v.1;
        small = omega (arith, least);
        least = least;
        size = pieces_length (increment_for d 0 k) (8 * k) cs long;
        across = λ more. ap (λ is. all_there (map (increased d k (bits_in 0 spec.width)) is)) (pieces_found (increment_for d 0 k) (8 * k) cs more long)
            ∙ texts_back (spec.width / 8) k short (bits_in 0 spec.width) cs v.0 (least_passes (has_increment d 0) v.1);
      }

  pub item_written : (kd : Kind) → HasWidth kd spec.width → coding_of spec ≡ coded kd spec.width spec.may_be_missing → IsVaried kd spec.may_be_missing spec.width most cs
      → IsWritten (coded kd spec.width spec.may_be_missing) spec cs most
  item_written kind.Character h e v = text_item e v
  item_written kind.Coded h e v = number_item_of (lowest cs) refl h.0 e v
  item_written kind.Numeric h e v = number_item_of (lowest cs) refl h.0 e v

-- ---- The whole item.

-- Contents are packed into at most `most` bits, and read back from them.
pub record PacksWithin (n : ℕ) (spec : FieldSpec) (cs : List Content) (most : ℕ) : Type 0 where
  pub out : List Bool
  pub is : packing spec cs ≡ Ok out
  pub again : (more : List Bool) → packed_field n spec (out ++ more) ≡ Ok (found cs more)
  pub short : length out ≤ most
  pub fits : AllFit spec cs

copies_fit : (spec : FieldSpec) (c : Content) (n : ℕ) → Fits spec c → AllFit spec (replicate n c)
copies_fit spec c zero h = tt
copies_fit spec c (suc n) h = (h, copies_fit spec c n h)

all_map : {A : Type 0} {P Q : A → Type 0} (xs : List A) → ((x : A) → P x → Q x) → AllByRecursion P xs → AllByRecursion Q xs
all_map [] f h = tt
all_map (x ∷ xs) f h = (f x h.0, all_map xs f h.1)

varied_fit : (spec : FieldSpec) (kd : Kind) (m : Bool) (w k : ℕ) (cs : List Content) → ((c : Content) → FitsKind kd m w c → Fits spec c) → IsVaried kd m w k cs → AllFit spec cs
varied_fit spec kind.Character m w k cs h v = all_map cs h v.0
varied_fit spec kd m w k cs h v = all_map cs h v.0

same_copies : (c : Content) (cs : List Content) → list_all (same c) cs ≡ true → cs ≡ replicate (length cs) c
same_copies c [] h = refl
same_copies c (d ∷ cs) h = cc (content_same c d (and_first (same c d) (list_all (same c) cs) h), same_copies c cs (and_second (same c d) (list_all (same c) cs) h))

-- In a list of copies of x, the first content is x, and all are the same.
copies_are : (n : ℕ) (x c : Content) (cs : List Content) → replicate n x ≡ c ∷ cs → (x ≡ c) × (list_all (same c) cs ≡ true)
copies_are n x c cs h = search (rules, are_same_copies)

step_none : (d : Coding) → step_of d 0 ≡ 0
step_none (numbers w m) = refl
step_none (texts count) = refl
step_none references = refl

increments_count : (n k : ℕ) (bits : List Bool) → length (increments n k bits) ≡ n
increments_count zero k bits = refl
increments_count (suc n) k bits = ap suc (increments_count n k (drop k bits))

-- There are as many contents as increments.
count_there : (f : List Bool → Option Content) (is : List (List Bool)) (cs : List Content) → all_there (map f is) ≡ Some cs → length cs ≡ length is
count_there f [] cs e = ap length (sym (some_same [] cs e))
count_there f (i ∷ is) cs e = let t = next_there (f i) (map f is) cs e in ap length (sym t.4) ∙ ap suc (count_there f is t.1 t.3)

count_across : (d : Coding) (k n : ℕ) (base suffix : List Bool) (cs : List Content) → contents_across d k n base suffix ≡ Some cs → length cs ≡ n
count_across d k n base suffix cs e = by (k == 0) e
  where
    by : (b : Bool) → (if b then Some (replicate n (content_by d base)) else all_there (map (increased d k base) (increments n (step_of d k) suffix))) ≡ Some cs → length cs ≡ n
    by true e = ap length (sym (some_same (replicate n (content_by d base)) cs e)) ∙ length-replicate n (content_by d base)
    by false e = count_there (increased d k base) (increments n (step_of d k) suffix) cs e ∙ increments_count n (step_of d k) suffix

-- The k of a redefined reference is 0.
no_k : (k n : ℕ) (base suffix : List Bool) (cs : List Content) → 1 ≤ n → contents_across references k n base suffix ≡ Some cs → k ≡ 0
no_k k n base suffix cs some e = grind arith

-- The field is an element or an inserted text.
record IsOpen (spec : FieldSpec) : Type 0 where
  coding : coding_of spec ≡ coded spec.kind spec.width spec.may_be_missing
  equal : (cs : List Content) → if_equal spec.role cs ≡ Some cs
  packings : (cs : List Content) → packed_unlike spec.role spec cs ≡ packed_over spec cs
  fit : (c : Content) → FitsKind spec.kind spec.may_be_missing spec.width c → Fits spec c

open_element : (spec : FieldSpec) → spec.role ≡ role.Element → IsOpen spec
open_element spec e = record {
  coding = coding_is spec.role spec.kind spec (ap is_reference e);
  equal = λ cs. ap (λ r. if_equal r cs) e;
  packings = λ cs. ap (λ r. packed_unlike r spec cs) e;
  fit = λ c f. rw e f;
}

open_inserted : (spec : FieldSpec) → spec.role ≡ role.Inserted → IsOpen spec
open_inserted spec e = record {
  coding = coding_is spec.role spec.kind spec (ap is_reference e);
  equal = λ cs. ap (λ r. if_equal r cs) e;
  packings = λ cs. ap (λ r. packed_unlike r spec cs) e;
  fit = λ c f. rw e f;
}

zero_or_some : (k : ℕ) (b : Bool) → (k == 0) ≡ b → b ≡ false → 1 ≤ k
zero_or_some k b p q = grind arith

not_zero : (k : ℕ) → 1 ≤ k → (k == 0) ≡ false
not_zero k h = grind arith

module _ (n : ℕ) (spec : FieldSpec) (good : IsSpec spec) where
  -- contents that are all the same
  pub uniform : (c : Content) (cs : List Content) (most : ℕ) → Fits spec c → list_all (same c) cs ≡ true → length (c ∷ cs) ≡ n → spec.width + 6 ≤ most → PacksWithin n spec (c ∷ cs) most
  uniform c cs most fits same_all count room =
      let base = bits_for spec.width c in
      let lb : length base ≡ spec.width = content_length spec good c fits in
      let none : n * step_of (coding_of spec) 0 ≡ 0 = ap (λ s. n * s) (step_none (coding_of spec)) ∙ omega arith in
      let copies : replicate n c ≡ c ∷ cs = cc (count, same_copies c cs same_all) in
      record {
        out = packed_bits base 0 [];
        is = ap (λ b. if b then Ok (packed_bits base 0 []) else packed_unlike spec.role spec (c ∷ cs)) same_all;
        again = λ more. packed_reads n spec base 0 [] more (c ∷ cs) lb (omega arith) (omega (arith, none))
            (copied (coding_of spec) 0 n base ([] ++ more) refl ∙ ap Some (ap (replicate n) (content_back spec good c fits) ∙ copies))
            (rw copies at (copies_equal spec.role c n));
        short = omega (arith, lb, length-append base (bits_in 0 6 ++ []), length-append (bits_in 0 6) [], length-bits_in);
        fits = (fits, subst (AllFit spec) (sym (same_copies c cs same_all)) (copies_fit spec c (length cs) fits));
      }

  -- contents of an element that differ
  differing : IsOpen spec → (c : Content) (cs : List Content) (k most : ℕ) → 1 ≤ k → k ≤ 63 → IsVaried spec.kind spec.may_be_missing spec.width k (c ∷ cs) → list_all (same c) cs ≡ false
      → length (c ∷ cs) ≡ n → spec.width + 6 + n * step_of (coding_of spec) k ≤ most → PacksWithin n spec (c ∷ cs) most
  differing o c cs k most some small varies unlike count room =
      let w = item_written spec (c ∷ cs) k some small spec.kind good.width o.coding varies in
      let d = coded spec.kind spec.width spec.may_be_missing in
      let size : length w.pieces ≡ n * step_of (coding_of spec) w.k = rw (w.size, count, o.coding) in
      record {
        out = packed_bits w.base w.k w.pieces;
        is = ap (λ b. if b then Ok (packed_bits (bits_for spec.width c) 0 []) else packed_unlike spec.role spec (c ∷ cs)) unlike ∙ o.packings (c ∷ cs) ∙ w.is;
        again = λ more. packed_reads n spec w.base w.k w.pieces more (c ∷ cs) w.long w.small size
            (ap (λ x. contents_across x w.k n w.base (w.pieces ++ more)) o.coding ∙ varied d w.k n w.base (w.pieces ++ more) (not_zero w.k w.some)
            ∙ ap (λ j. all_there (map (increased d w.k w.base) (increments j (step_of d w.k) (w.pieces ++ more)))) (sym count) ∙ w.across more)
            (o.equal (c ∷ cs));
        short =
            let grows : n * step_of (coding_of spec) w.k ≤ n * step_of (coding_of spec) k = mul-le-mul_left n (step_grows (coding_of spec) w.k k w.least) in
            omega (arith, grows, size, w.long, length-append w.base (bits_in w.k 6 ++ w.pieces), length-append (bits_in w.k 6) w.pieces, length-bits_in);
        fits = varied_fit spec spec.kind spec.may_be_missing spec.width k (c ∷ cs) o.fit varies;
      }
    where
      step_grows : (d : Coding) (a b : ℕ) → a ≤ b → step_of d a ≤ step_of d b
      step_grows (numbers w m) a b h = h
      step_grows (texts count) a b h = omega arith
      step_grows references a b h = omega arith

  first_fits_kind : (kd : Kind) (k : ℕ) (c : Content) (cs : List Content) → IsVaried kd spec.may_be_missing spec.width k (c ∷ cs) → FitsKind kd spec.may_be_missing spec.width c
  first_fits_kind kind.Character k c cs v = v.0.0
  first_fits_kind kd k c cs v = v.0.0

  -- contents of an element, whether or not they differ
  of_element : IsOpen spec → (c : Content) (cs : List Content) (k most : ℕ) (b : Bool) → list_all (same c) cs ≡ b → 1 ≤ k → k ≤ 63 → IsVaried spec.kind spec.may_be_missing spec.width k (c ∷ cs)
      → length (c ∷ cs) ≡ n → spec.width + 6 + n * step_of (coding_of spec) k ≤ most → PacksWithin n spec (c ∷ cs) most
  of_element o c cs k most true e some small varies count room = uniform c cs most (o.fit c (first_fits_kind spec.kind k c cs varies)) e count (omega (arith, room))
  of_element o c cs k most false e some small varies count room = differing o c cs k most some small varies e count room

  module _ (c : Content) (cs : List Content) (k : ℕ) (base suffix : List Bool) (some : 1 ≤ k) (small : k ≤ 63) (enough : n * step_of (coding_of spec) k ≤ length suffix)
      (across : contents_across (coding_of spec) k n base suffix ≡ Some (c ∷ cs)) where
    count_is : length (c ∷ cs) ≡ n
    count_is = count_across (coding_of spec) k n base suffix (c ∷ cs) across

    varies_so : coding_of spec ≡ coded spec.kind spec.width spec.may_be_missing → IsVaried spec.kind spec.may_be_missing spec.width k (c ∷ cs)
    varies_so coding =
        let d = coded spec.kind spec.width spec.may_be_missing in
        varied_by_kind spec.kind spec.may_be_missing spec.width k base (increments n (step_of d k) suffix) c cs
        (increments_all n (step_of d k) suffix (subst (λ x. n * step_of x k ≤ length suffix) coding enough)).0
        (sym (varied d k n base suffix (not_zero k some)) ∙ ap (λ x. contents_across x k n base suffix) (sym coding) ∙ across)

    of_open : IsOpen spec → PacksWithin n spec (c ∷ cs) (spec.width + 6 + n * step_of (coding_of spec) k)
    of_open o = of_element o c cs k (spec.width + 6 + n * step_of (coding_of spec) k) (list_all (same c) cs) refl some small (varies_so o.coding) count_is (omega arith)

    -- contents that were read with k above 0, by the role of the field
    by_role : (r : Role) → spec.role ≡ r → if_equal spec.role (c ∷ cs) ≡ Some (c ∷ cs) → PacksWithin n spec (c ∷ cs) (spec.width + 6 + n * step_of (coding_of spec) k)
    by_role role.Element er q = of_open (open_element spec er)
    by_role role.Inserted er q = of_open (open_inserted spec er)
    by_role role.Reference er q =
        let none : k ≡ 0 = no_k k n base suffix (c ∷ cs) (omega (arith, count_is)) (ap (λ r. contents_across (coding_by r spec.kind spec) k n base suffix) (sym er) ∙ across) in
        absurd (omega (arith, none, some))
    by_role role.Factor er q =
        let v = varies_so (coding_is spec.role spec.kind spec (ap is_reference er)) in
        uniform c cs _ (subst (λ r. FitsRole r spec c) (sym er) (first_fits_kind spec.kind k c cs v))
        (same_of (list_all (same c) cs) (ap (λ r. if_equal r (c ∷ cs)) (sym er) ∙ q)) count_is (omega arith)
      where
        same_of : (b : Bool) → only_if b (c ∷ cs) ≡ Some (c ∷ cs) → b ≡ true
        same_of true e = refl
        same_of false e = absurd cc

  -- contents that were read with any k
  by_k : (b : Bool) (k : ℕ) → (k == 0) ≡ b → (c : Content) (cs : List Content) (base suffix : List Bool) → length base ≡ spec.width → k ≤ 63
      → n * step_of (coding_of spec) k ≤ length suffix → contents_across (coding_of spec) k n base suffix ≡ Some (c ∷ cs) → if_equal spec.role (c ∷ cs) ≡ Some (c ∷ cs)
      → PacksWithin n spec (c ∷ cs) (spec.width + 6 + n * step_of (coding_of spec) k)
  by_k true k p c cs base suffix lb small enough e q =
      let copies = some_same (replicate n (content_in spec base)) (c ∷ cs) (sym (copied (coding_of spec) k n base suffix (eqb-true k 0 p)) ∙ e) in
      let f = copies_are n (content_in spec base) c cs copies in
      uniform c cs _ (subst (Fits spec) f.0 (content_fits spec good base lb)) f.1 (count_across (coding_of spec) k n base suffix (c ∷ cs) e) (omega arith)
  by_k false k p c cs base suffix lb small enough e q = by_role c cs k base suffix (zero_or_some k false p refl) small enough e spec.role refl q

  -- An item that was read is packed and read back, in no more bits.
  pub packed_again : (c : Content) (cs : List Content) (bits mid : List Bool) → packed_field n spec bits ≡ Ok (found (c ∷ cs) mid)
      → (most : ℕ) × (most + length mid ≤ length bits) × PacksWithin n spec (c ∷ cs) most
  packed_again c cs bits mid e =
      let k = number_of (take 6 (drop spec.width bits)) in
      let u = unpacked n spec bits (c ∷ cs) mid e in (
        spec.width + 6 + n * step_of (coding_of spec) k,
        omega (arith, u.used),
        by_k (k == 0) k refl c cs (take spec.width bits) (drop (spec.width + 6) bits) u.base u.small u.enough u.across u.equal,
      )

  -- An item has one content for each subset.
  pub packed_count : (cs : List Content) (bits mid : List Bool) → packed_field n spec bits ≡ Ok (found cs mid) → length cs ≡ n
  packed_count cs bits mid e =
      let k = number_of (take 6 (drop spec.width bits)) in
      count_across (coding_of spec) k n (take spec.width bits) (drop (spec.width + 6) bits) cs (unpacked n spec bits cs mid e).across

-- An item is packed with the least k from which its contents can be read. If two items have the
-- same contents, their lengths differ only because of their k. Therefore, no item with these
-- contents is shorter than the packed one.

module _ (n : ℕ) (spec : FieldSpec) (some : 1 ≤ n) where
  -- If the increments are not longer, k is not greater. The k of a redefined reference is 0.
  lesser_k : (d : Coding) (k j : ℕ) (base suffix : List Bool) (cs : List Content) → contents_across d k n base suffix ≡ Some cs → n * step_of d k ≤ n * step_of d j → k ≤ j
  lesser_k d k j base suffix cs e h = search (rules, le_of_mul-le-mul_left, no_k)

  -- If two items have the same contents, the one that is not longer does not have a greater k.
  shorter : IsSpec spec → (out bits : List Bool) (cs : List Content) (suffix : List Bool) → packed_field n spec out ≡ Ok (found cs []) → packed_field n spec bits ≡ Ok (found cs suffix)
      → length out + length suffix ≤ length bits → k_of spec out ≤ k_of spec bits
  shorter good out bits cs suffix e f h =
      let a = unpacked n spec out cs [] e in
      let b = unpacked n spec bits cs suffix f in
      lesser_k (coding_of spec) (k_of spec out) (k_of spec bits) _ _ cs a.across (omega (arith, a.used, b.used))

  module _ (good : IsSpec spec) where
    -- The bits that are packed depend only on the contents, not on the bits that were read.
    no_longer : (c : Content) (cs : List Content) (out bits suffix : List Bool) → packing spec (c ∷ cs) ≡ Ok out → packed_field n spec bits ≡ Ok (found (c ∷ cs) suffix)
        → length out + length suffix ≤ length bits
    no_longer c cs out bits suffix is e =
        let p = packed_again n spec good c cs bits suffix e in
        omega (arith, p.1, p.2.short, ap length (same_ok _ _ (sym is ∙ p.2.is)))

    by_contents : (cs : List Content) (bits suffix : List Bool) → packed_field n spec bits ≡ Ok (found cs suffix) → HasLeastK n spec cs
    by_contents [] bits suffix e = absurd (omega (arith, some, packed_count n spec good [] bits suffix e))
    by_contents (c ∷ cs) bits suffix e =
        let p = (packed_again n spec good c cs bits suffix e).2 in
        let alone : packed_field n spec p.out ≡ Ok (found (c ∷ cs) []) = subst (λ xs. packed_field n spec xs ≡ Ok (found (c ∷ cs) [])) (append-nil p.out) (p.again []) in
        record {
          out = p.out;
          is = p.is;
          again = p.again;
          least = λ bs mid f. shorter good p.out bs (c ∷ cs) mid alone f (no_longer c cs p.out bs mid p.is f);
          short = λ bs mid f. no_longer c cs p.out bs mid p.is f;
        }

pub least_k_packed : (n : ℕ) (spec : FieldSpec) (contents : List Content) (bits suffix : List Bool) → 1 ≤ n → IsSpec spec → packed_field n spec bits ≡ Ok (found contents suffix)
    → HasLeastK n spec contents
least_k_packed n spec contents bits suffix some good e = by_contents n spec some good contents bits suffix e

-- ---- Contents that fit a field are read back from their bits, if they can be packed.

-- ---- The k that is found passes.

found_step : (p : ℕ → Bool) (b : Bool) (from x most : ℕ) → p from ≡ b → (if b then from else x) < most → (b ≡ false → x < most → p x ≡ true) → p (if b then from else x) ≡ true
found_step p true from x most e h g = e
found_step p false from x most e h g = g refl h

found_from : (p : ℕ → Bool) (fuel from : ℕ) → first_from p fuel from < from + fuel → p (first_from p fuel from) ≡ true
found_from p zero from h = absurd (omega arith)
found_from p (suc fuel) from h = found_step p (p from) from (first_from p fuel (from + 1)) (from + suc fuel) refl h (λ q l. found_from p fuel (from + 1) (omega arith))

-- ---- Numbers.

-- The width of the field is enough for an increment.
number_has : (m : Bool) (w low : ℕ) (c : Content) → FitsNumber m w c → has_increment (numbers w m) low w c ≡ true
number_has m w low (number n) h = omega (arith, lt-ltb)
number_has m w low missing h = refl
number_has m w low c h = absurd h

numbers_have : (m : Bool) (w low : ℕ) (cs : List Content) → AreNumbers m w cs → list_all (has_increment (numbers w m) low w) cs ≡ true
numbers_have m w low [] h = refl
numbers_have m w low (c ∷ cs) h = cc (number_has m w low c h.0, numbers_have m w low cs h.1)

-- ---- Texts.

-- All octets of a text are enough.
whole_again : (count : ℕ) (os : List ℕ) → length os ≡ count → list_all (λ octet. octet == 255) os ≡ false → has_increment (texts count) 0 count (text os) ≡ true
whole_again count os l none = grind (arith, take_all, append-nil, octets_self)

text_has : (count : ℕ) (c : Content) → FitsText count c → has_increment (texts count) 0 count c ≡ true
text_has count (text os) h = whole_again count os h.0 h.2
text_has count missing h = refl
text_has count c h = absurd h

texts_have : (count : ℕ) (cs : List Content) → AreTexts count cs → list_all (has_increment (texts count) 0 count) cs ≡ true
texts_have count [] h = refl
texts_have count (c ∷ cs) h = cc (text_has count c h.0, texts_have count cs h.1)

-- ---- Contents that differ.

abbrev AllKind : Kind → Bool → ℕ → List Content → Type 0
AllKind k m w cs = AllByRecursion (λ (c : Content). FitsKind k m w c) cs

-- The contents can be written with some k.
abbrev Varies : Kind → Bool → ℕ → List Content → Type 0
Varies kd m w cs = (k : ℕ) × (1 ≤ k) × (k ≤ 63) × IsVaried kd m w k cs

text_varies : (b : Bool) (spec : FieldSpec) (cs : List Content) (out : List Bool) → 8 ≤ spec.width → AreTexts (spec.width / 8) cs
    → nat_le (least_k (has_increment (texts (spec.width / 8)) 0) cs) 63 ≡ b
    → over_at spec cs (texts (spec.width / 8)) 0 (least_k (has_increment (texts (spec.width / 8)) 0) cs) ≡ Ok out → Varies kind.Character spec.may_be_missing spec.width cs
text_varies b spec cs out wide are q e =
    let count = spec.width / 8 in
    let passes = has_increment (texts count) 0 in
    let k = least_k passes cs in
    let few : k ≤ 63 = leb-true k 63 (q ∙ written b (packed_bits (bits_in 0 spec.width) k (flat_map (increment_for (texts count) 0 k) cs))
    (sym (ap (λ t. if t then Ok (packed_bits (bits_in 0 spec.width) k (flat_map (increment_for (texts count) 0 k) cs)) else Err wrong.Increment) q) ∙ e)) in
    let some : 1 ≤ count = omega arith in
    let pass : list_all (passes k) cs ≡ true = found_from (λ k. list_all (passes k) cs) 63 1 (omega (arith, few)) in
    let least : k ≤ count = first_least (λ k. list_all (passes k) cs) 63 1 count some (texts_have count cs are) in
    (k, first_from_start (λ k. list_all (passes k) cs) 63 1, few, (are, pass, least))
  where
    written : (b : Bool) (x : List Bool) → (if b then Ok x else Err wrong.Increment) ≡ Ok out → b ≡ true
    written true x e = refl
    written false x e = absurd cc

kind_varies : (kd : Kind) (spec : FieldSpec) (cs : List Content) (out : List Bool) → HasWidth kd spec.width → coding_of spec ≡ coded kd spec.width spec.may_be_missing
    → AllKind kd spec.may_be_missing spec.width cs → packed_over spec cs ≡ Ok out → Varies kd spec.may_be_missing spec.width cs
kind_varies kind.Character spec cs out hw coding h e =
    let d = texts (spec.width / 8) in
    text_varies (nat_le (least_k (has_increment d 0) cs) 63) spec cs out hw.0 h refl
    (sym (over_is spec cs d 0 (least_k (has_increment d 0) cs) coding (ap (λ o. unwrap_or o 0) (texts_none (spec.width / 8) cs h)) refl) ∙ e)
kind_varies kind.Coded spec cs out hw coding h e =
    (spec.width, hw.0, hw.1, (h, λ low q. numbers_have spec.may_be_missing spec.width low cs h))
kind_varies kind.Numeric spec cs out hw coding h e =
    (spec.width, hw.0, hw.1, (h, λ low q. numbers_have spec.may_be_missing spec.width low cs h))

-- ---- The item.

module _ (n : ℕ) (spec : FieldSpec) (good : IsSpec spec) where
  kinds_of : (r : Role) → spec.role ≡ r → ((x : Content) → FitsRole r spec x → FitsKind spec.kind spec.may_be_missing spec.width x) → (cs : List Content) → AllFit spec cs
      → AllKind spec.kind spec.may_be_missing spec.width cs
  kinds_of r er f cs h = all_map cs (λ x g. f x (subst (λ r. FitsRole r spec x) er g)) h

  unlike_open : IsOpen spec → (c : Content) (cs : List Content) (out : List Bool) → AllKind spec.kind spec.may_be_missing spec.width (c ∷ cs) → length (c ∷ cs) ≡ n → list_all (same c) cs ≡ false
      → packed_unlike spec.role spec (c ∷ cs) ≡ Ok out → (most : ℕ) × PacksWithin n spec (c ∷ cs) most
  unlike_open o c cs out fits count unlike e =
      let v = kind_varies spec.kind spec (c ∷ cs) out good.width o.coding fits (sym (o.packings (c ∷ cs)) ∙ e) in
      let most = spec.width + 6 + n * step_of (coding_of spec) v.0 in
      (most, differing n spec good o c cs v.0 most v.1 v.2 v.3 unlike count (omega arith))

  unlike_by_role : (r : Role) → spec.role ≡ r → (c : Content) (cs : List Content) (out : List Bool) → AllFit spec (c ∷ cs) → length (c ∷ cs) ≡ n → list_all (same c) cs ≡ false
      → packed_unlike r spec (c ∷ cs) ≡ Ok out → (most : ℕ) × PacksWithin n spec (c ∷ cs) most
  unlike_by_role role.Element er c cs out fits count unlike e = unlike_open (open_element spec er) c cs out (kinds_of role.Element er (λ x f. f) (c ∷ cs) fits) count unlike
      (ap (λ r. packed_unlike r spec (c ∷ cs)) er ∙ e)
  unlike_by_role role.Inserted er c cs out fits count unlike e = unlike_open (open_inserted spec er) c cs out (kinds_of role.Inserted er (λ x f. f) (c ∷ cs) fits) count unlike
      (ap (λ r. packed_unlike r spec (c ∷ cs)) er ∙ e)
  unlike_by_role r er c cs out fits count unlike e = absurd cc

  by_same : (b : Bool) (c : Content) (cs : List Content) (out : List Bool) → AllFit spec (c ∷ cs) → length (c ∷ cs) ≡ n → list_all (same c) cs ≡ b
      → (if b then Ok (packed_bits (bits_for spec.width c) 0 []) else packed_unlike spec.role spec (c ∷ cs)) ≡ Ok out
      → (most : ℕ) × PacksWithin n spec (c ∷ cs) most
  by_same true c cs out fits count q e = (spec.width + 6, uniform n spec good c cs (spec.width + 6) fits.0 q count (omega arith))
  by_same false c cs out fits count q e = unlike_by_role spec.role refl c cs out fits count q e

  -- Contents that fit are read back, if they can be packed.
  pub fitting_again : (c : Content) (cs : List Content) (out more : List Bool) → AllFit spec (c ∷ cs) → length (c ∷ cs) ≡ n → packing spec (c ∷ cs) ≡ Ok out
      → packed_field n spec (out ++ more) ≡ Ok (found (c ∷ cs) more)
  fitting_again c cs out more fits count e =
      let p = by_same (list_all (same c) cs) c cs out fits count refl e in
      let is : out ≡ p.1.out = same_ok out p.1.out (sym e ∙ p.1.is) in
      rw (is, p.1.again)

-- They are packed with the least k.
pub fitting_least_k : (n : ℕ) (spec : FieldSpec) (contents : List Content) (out : List Bool) → 1 ≤ n → IsSpec spec → AllFit spec contents → length contents ≡ n → packing spec contents ≡ Ok out
    → HasLeastK n spec contents
fitting_least_k n spec [] out some good fits count e = absurd (omega (arith, some, count))
fitting_least_k n spec (c ∷ cs) out some good fits count e = least_k_packed n spec (c ∷ cs) (out ++ []) [] some good (fitting_again n spec good c cs out [] fits count e)
