-- The contents of an item of compressed data, given its base and its increments.
use Rattle.std.proofs.lemmas.Grind.{common_steps}
use Rattle.std.proofs.Common.{◌≡◌, ℕ, zero, suc, ◌+◌, ◌^◌, ◌<◌, ◌≤◌, ◌&&◌, ◌||◌, ◌%◌, Bool, true, false, List, [], ◌∷◌, length, take, drop, refl, sym, ◌∙◌, ap, arith, ◌*◌, map, Option, Some, None, option_map, Result, Ok, Err, ◌-◌, ◌==◌, nat_lt, not, ◌/◌, if◌then◌else◌, replicate, ◌++◌, rules}
use Rattle.std.specs.Prelude.{is_some, ok_or}
use Rattle.std.proofs.lemmas.Bool.{eq-eqb, le-ltb, ltb-false, ne_eqb}
use Rattle.std.specs.List.{list_all}
use Rattle.std.proofs.lemmas.Nat.{shl_whole}
use Rattle.std.proofs.lemmas.List.{drop-drop, length-take}
use Rattle.std.proofs.Math.Nat.{pow-le-pow_right, mul-le-mul_right}
use Rattle.std.proofs.lemmas.Bool.Decides.{Decides-int_eq}
use Rattle.std.proofs.lemmas.Slice.Eq.{bytes_eq-Decides}
use Rattle.bufr_bits.specs.Prelude.{number_of, are_all_ones, bits_of, bits_at, ◌>>=◌}
use Rattle.bufr_bits.proofs.BitLemmas.{number_of-below, are_all_ones-number}
use Rattle.bufr_walk.specs.Prelude.{start_of, numbers, texts, Coding, coding_of, coding_by, content_by, step_of, increased, all_there, contents_across, same, if_equal, are_valid, increments, ones, octets_in, packed_field, FieldSpec, IsSpec, HasRole, Content, number, text, missing, reference, content_in, answer_by_role, answer_first, FieldRead, found, is_reference, stored_content, contents_found, was_found, fits_at, Role, IndexedItem, content_at}
use Rattle.bufr_bits.proofs.DecimalLemmas.{and_first, and_second}
use Rattle.bufr_tables.specs.Prelude.{is_character, only_if}
use Rattle.bufr_walk.proofs.PlainLemmas.{bits_length, ones_by_number, number_coding, text_coding}
use Rattle.bufr_walk.specs.declared.spec.Role.TheVariants as role
use Rattle.bufr_walk.specs.declared.spec.Taken.TheVariants as taken
use Rattle.bufr_walk.specs.declared.fault.DataFault.{DataFault}
use Rattle.bufr_walk.specs.declared.fault.DataFault.TheVariants as wrong

-- The code computes the greatest w-bit number.
pub all_ones : (w v : ℕ) → w ≡ v → v ≤ 63 → 1 * 2 ^ w % 18446744073709551616 - 1 ≡ 2 ^ v - 1
all_ones w v e h = omega (arith, shl_whole 1 1 w 64 (omega arith) (omega (arith, h, e))) ∙ ap (λ x. 2 ^ x - 1) e

-- The increments are the first one and those after it.
pub increments_next : (left left' k at at' : ℕ) (bits : List Bool) → left ≡ suc left' → at' ≡ at + k → increments left k (drop at bits) ≡ take k (drop at bits) ∷ increments left' k (drop at' bits)
increments_next left left' k at at' bits e f = grind (arith, drop-drop)

-- If the first increment passes the test, the others decide whether all pass.
pub passes_next : (p : List Bool → Bool) (left left' k at at' : ℕ) (bits : List Bool) (whole : Bool) → left ≡ suc left' → at' ≡ at + k → whole ≡ list_all p (increments left k (drop at bits))
    → p (take k (drop at bits)) ≡ true → whole ≡ list_all p (increments left' k (drop at' bits))
passes_next p left left' k at at' bits whole e f h t = grind (arith, increments_next)

-- If the first increment fails the test, not all of them pass.
pub fails_next : (p : List Bool → Bool) (left left' k at : ℕ) (bits : List Bool) (whole : Bool) → left ≡ suc left' → whole ≡ list_all p (increments left k (drop at bits))
    → p (take k (drop at bits)) ≡ false → whole ≡ false
fails_next p left left' k at bits whole e h t = cc

-- comparisons of an increment with the first one
pub is_other : (n first m : ℕ) → n ≡ m → (n ≡ first → ⊥) → (m == first) ≡ false
is_other n first m e h = omega (arith, ne_eqb)

pub is_first : (n first m : ℕ) → n ≡ m → n ≡ first → (m == first) ≡ true
is_first n first m e h = eq-eqb m first (sym e ∙ h)

-- ---- Which increments are valid.

pub ones_same : (k : ℕ) (i : List Bool) → length i ≡ k → are_all_ones i ≡ (number_of i == ones k)
ones_same k i h = sym (ap (λ n. number_of i == ones n) (sym h) ∙ are_all_ones-number i)

-- An increment is valid if the number may be missing and the base or the increment is all ones, or
-- if the sum does not exceed the width.
valid_by : (m full last whole past : Bool) (c : Content) → (whole ≡ true → past ≡ false)
    → is_some (if m && (full || last || whole) then Some missing else if past then None else Some c) ≡ (full && m || (m && last || not past))
valid_by m full last whole past c h = grind arith

pub stays_here : (w k : ℕ) (m : Bool) (base i : List Bool) (low more : ℕ) (stays b : Bool) → length i ≡ k → low ≡ number_of base → more ≡ number_of i → (are_all_ones base && m) ≡ false
    → stays ≡ (m && (more == ones k) || not (nat_lt (ones w) (low + more))) → stays ≡ b → is_some (increased (numbers w m) k base i) ≡ b
stays_here w k m base i low more stays b long l r none is e = search (rules, ones_same, valid_by)

-- If the base means missing, all increments are valid.
pub missing_valid : (w k n : ℕ) (m : Bool) (base suffix : List Bool) → (are_all_ones base && m) ≡ true → are_valid (numbers w m) k n base suffix ≡ true
missing_valid w k zero m base suffix h = refl
missing_valid w k (suc n) m base suffix h =
    ap (λ b. b && are_valid (numbers w m) k n base (drop k suffix)) (one m (are_all_ones base) (are_all_ones (take k suffix)) (number_of base + number_of (take k suffix) == ones w)
    (if nat_lt (ones w) (number_of base + number_of (take k suffix)) then None else Some (number (number_of base + number_of (take k suffix)))) h)
    ∙ missing_valid w k n m base (drop k suffix) h
  where
    one : (m full last whole : Bool) (o : Option Content) → (full && m) ≡ true → is_some (if m && (full || last || whole) then Some missing else o) ≡ true
    one true true last whole o h = refl
    one false true last whole o h = absurd cc
    one m false last whole o h = absurd cc

-- If the greatest increment fits, all increments are valid.
pub all_fit : (w k n : ℕ) (m : Bool) (base suffix : List Bool) → number_of base + ones k ≤ ones w → are_valid (numbers w m) k n base suffix ≡ true
all_fit w k zero m base suffix h = refl
all_fit w k (suc n) m base suffix h =
    let sum = number_of base + number_of (take k suffix) in
    let low : number_of (take k suffix) < 2 ^ k = below_pow k suffix in
    ap (λ b. b && are_valid (numbers w m) k n base (drop k suffix)) (fits (m && (are_all_ones base || are_all_ones (take k suffix) || sum == ones w)) (nat_lt (ones w) sum) (number sum)
    (le-ltb (ones w) sum (omega (arith, h, low))))
    ∙ all_fit w k n m base (drop k suffix) h
  where
    below_pow : (k : ℕ) (bits : List Bool) → number_of (take k bits) < 2 ^ k
    below_pow k bits =
        let short : length (take k bits) ≤ k = omega (arith, length-take k bits) in
        let top : 2 ^ length (take k bits) ≤ 2 ^ k = pow-le-pow_right {n = 2} (omega arith) short in
        omega (arith, number_of-below, top)

    fits : (any past : Bool) (c : Content) → past ≡ false → is_some (if any then Some missing else if past then None else Some c) ≡ true
    fits true past c e = refl
    fits false true c e = absurd cc
    fits false false c e = refl

-- The increments of a text are valid if k does not exceed its length.
texts_valid : (octets k n : ℕ) (base suffix : List Bool) → 1 ≤ n → are_valid (texts octets) k n base suffix ≡ not (nat_lt octets k)
texts_valid octets k n base suffix some = by (nat_lt octets k) (λ i. if are_all_ones i then missing else text (octets_in k i ++ replicate (octets - k) 32)) n suffix some
  where
    all : (f : List Bool → Content) (n : ℕ) (suffix : List Bool) → list_all (λ i. is_some (Some (f i))) (increments n (8 * k) suffix) ≡ true
    all f zero suffix = refl
    all f (suc n) suffix = all f n (drop (8 * k) suffix)

    by : (past : Bool) (f : List Bool → Content) (n : ℕ) (suffix : List Bool) → 1 ≤ n → list_all (λ i. is_some (if past then None else Some (f i))) (increments n (8 * k) suffix) ≡ not past
    by past f zero suffix some = absurd (omega arith)
    by true f (suc n) suffix some = refl
    by false f (suc n) suffix some = all f n (drop (8 * k) suffix)

-- ---- All contents are present.

pub some_same : {A : Type 0} (a b : A) → ◌≡◌ {A = Option A} (Some a) (Some b) → a ≡ b
some_same a b e = cc

mapped : (c : Content) (r : Option (List Content)) → is_some (option_map (λ others. c ∷ others) r) ≡ is_some r
mapped c None = refl
mapped c (Some cs) = refl

there_by : (o : Option Content) (os : List (Option Content)) (rest : Bool) → is_some (all_there os) ≡ rest → is_some (all_there (o ∷ os)) ≡ (is_some o && rest)
there_by None os rest e = refl
there_by (Some c) os rest e = mapped c (all_there os) ∙ e

there_all : (f : List Bool → Option Content) (is : List (List Bool)) → is_some (all_there (map f is)) ≡ list_all (λ i. is_some (f i)) is
there_all f [] = refl
there_all f (i ∷ is) = there_by (f i) (map f is) (list_all (λ i. is_some (f i)) is) (there_all f is)

rest_there : (c : Content) (r : Option (List Content)) (os : List (Option Content)) (cs : List Content) → all_there os ≡ r → option_map (λ others. c ∷ others) r ≡ Some cs
    → (d : Content) × (ds : List Content) × (◌≡◌ {A = Option Content} (Some c) (Some d)) × (all_there os ≡ Some ds) × (d ∷ ds ≡ cs)
rest_there c None os cs q e = absurd cc
rest_there c (Some ds) os cs q e = (c, ds, refl, q, some_same (c ∷ ds) cs e)

-- If all contents are present, so are the first one and those after it.
pub next_there : (o : Option Content) (os : List (Option Content)) (cs : List Content) → all_there (o ∷ os) ≡ Some cs
    → (c : Content) × (ds : List Content) × (o ≡ Some c) × (all_there os ≡ Some ds) × (c ∷ ds ≡ cs)
next_there None os cs e = absurd cc
next_there (Some c) os cs e = rest_there c (all_there os) os cs refl e

pub not_zero : (k : ℕ) → 1 ≤ k → (k == 0) ≡ false
not_zero k h = grind arith

-- If k is not 0, each increment gives a content.
pub varied : (c : Coding) (k n : ℕ) (base suffix : List Bool) → (k == 0) ≡ false → contents_across c k n base suffix ≡ all_there (map (increased c k base) (increments n (step_of c k) suffix))
varied c k n base suffix some = cc

pub copied : (c : Coding) (k n : ℕ) (base suffix : List Bool) → k ≡ 0 → contents_across c k n base suffix ≡ Some (replicate n (content_by c base))
copied c k n base suffix none = cc

-- An item with increments has contents if all of its increments are valid.
each_valid : (c : Coding) (k n : ℕ) (base suffix : List Bool) → (k == 0) ≡ false → is_some (contents_across c k n base suffix) ≡ are_valid c k n base suffix
each_valid c k n base suffix nonzero = rw (varied, there_all)

pub text_valid : (a : FieldSpec) (k n : ℕ) (base suffix : List Bool) → (k == 0) ≡ false → 1 ≤ n → is_reference a.role ≡ false → is_character a.kind ≡ true
    → is_some (contents_across (coding_of a) k n base suffix) ≡ not (nat_lt (a.width / 8) k)
text_valid a k n base suffix nonzero some r e = rw (text_coding, each_valid, texts_valid)

pub number_valid : (a : FieldSpec) (k n : ℕ) (base suffix : List Bool) → (k == 0) ≡ false → is_reference a.role ≡ false → is_character a.kind ≡ false
    → is_some (contents_across (coding_of a) k n base suffix) ≡ are_valid (numbers a.width a.may_be_missing) k n base suffix
number_valid a k n base suffix nonzero r e = rw (number_coding, each_valid)

-- A redefined reference with increments has no contents.
pub reference_none : (a : FieldSpec) (k n : ℕ) (base suffix : List Bool) → (k == 0) ≡ false → 1 ≤ n → a.role ≡ role.Reference → contents_across (coding_of a) k n base suffix ≡ None
reference_none a k n base suffix nonzero some e = search rules

pub is_there : {A : Type 0} (o : Option A) → is_some o ≡ true → (a : A) × (o ≡ Some a)
is_there None e = absurd cc
is_there (Some a) e = (a, refl)

pub is_none : {A : Type 0} (o : Option A) → is_some o ≡ false → o ≡ None
is_none None e = refl
is_none (Some a) e = absurd cc

-- If there are subsets, there are contents.
pub some_across : (c : Coding) (k n : ℕ) (base suffix : List Bool) → contents_across c k (suc n) base suffix ≡ Some [] → ⊥
some_across c k n base suffix e = grind arith

-- ---- Factors.

is_self : (n : ℕ) → (n == n) ≡ true
is_self n = grind arith

content_self : (c : Content) → same c c ≡ true
content_self (number n) = is_self n
content_self (text os) = (bytes_eq-Decides os os).1 refl
content_self missing = refl
content_self (reference v) = (Decides-int_eq v v).1 refl

copies_same : (c : Content) (n : ℕ) → list_all (same c) (replicate n c) ≡ true
copies_same c zero = refl
copies_same c (suc n) = cc (content_self c, copies_same c n)

pub copies_equal : (r : Role) (c : Content) (n : ℕ) → if_equal r (replicate n c) ≡ Some (replicate n c)
copies_equal role.Factor c zero = refl
copies_equal role.Factor c (suc n) = cc (copies_same c n)
copies_equal role.Element c n = refl
copies_equal role.Inserted c n = refl
copies_equal role.Reference c n = refl

-- Contents that pass the test of a factor are unchanged.
pub equal_is : (r : Role) (cs ds : List Content) → if_equal r cs ≡ Some ds → cs ≡ ds
equal_is r cs ds e = grind arith

-- the content of a number that cannot be missing, given its sum
abbrev sum_of : (width sum : ℕ) → Option Content
sum_of width sum = if nat_lt (ones width) sum then None else Some (number sum)

-- If a number cannot be missing, each content is the sum of the base and an increment.
counts_are : (w base : ℕ) (is : List (List Bool)) (cs : List Content) → all_there (map (λ i. sum_of w (base + number_of i)) is) ≡ Some cs → cs ≡ map (λ i. number (base + number_of i)) is
counts_are w base [] cs e = cc
counts_are w base (i ∷ is) cs e =
    let t = next_there (sum_of w (base + number_of i)) (map (λ i. sum_of w (base + number_of i)) is) cs e in
    sym t.4 ∙ ap (λ c. c ∷ t.1) (sym (sum_is (nat_lt (ones w) (base + number_of i)) t.0 t.2)) ∙ ap (λ ds. number (base + number_of i) ∷ ds) (counts_are w base is t.1 t.3)
  where
    sum_is : (past : Bool) (c : Content) → (if past then None else Some (number (base + number_of i))) ≡ Some c → number (base + number_of i) ≡ c
    sum_is true c e = absurd cc
    sum_is false c e = some_same (number (base + number_of i)) c e

sum_test : (b x y : ℕ) → (b + x == b + y) ≡ (y == x)
sum_test b x y = grind arith

same_counts : (base first : ℕ) (is : List (List Bool)) → list_all (same (number (base + first))) (map (λ i. number (base + number_of i)) is) ≡ list_all (λ i. number_of i == first) is
same_counts base first [] = refl
same_counts base first (i ∷ is) =
    ap (λ b. b && list_all (same (number (base + first))) (map (λ i. number (base + number_of i)) is)) (sum_test base first (number_of i))
    ∙ ap (λ b. (number_of i == first) && b) (same_counts base first is)

counts_equal : (base : ℕ) (i : List Bool) (is : List (List Bool))
    → if_equal role.Factor (map (λ i. number (base + number_of i)) (i ∷ is)) ≡ only_if (list_all (λ x. number_of x == number_of i) (i ∷ is)) (map (λ i. number (base + number_of i)) (i ∷ is))
counts_equal base i is = search (rules, same_counts, is_self)

-- The counts of a factor are equal if its increments are, and its answer is the first count.
pub factor_across : (a : FieldSpec) (k n : ℕ) (base suffix : List Bool) (cs : List Content) (low first : ℕ) → IsSpec a → a.role ≡ role.Factor → (k == 0) ≡ false → 1 ≤ n
    → contents_across (coding_of a) k n base suffix ≡ Some cs → low ≡ number_of base → first ≡ number_of (take k suffix)
    → (if_equal a.role cs ≡ only_if (list_all (λ i. number_of i == first) (increments n k suffix)) cs) × (taken.Count (low + first) ≡ answer_first a cs)
factor_across a k zero base suffix cs low first good e nonzero some is l f = absurd (omega arith)
factor_across a k (suc n) base suffix cs low first good e nonzero some is l f =
    let has : HasRole role.Factor a.kind a.may_be_missing = rw e at good.role in
    let coding : coding_of a ≡ numbers a.width false = cc in
    let counts = map (λ i. number (number_of base + number_of i)) (increments (suc n) k suffix) in
    let are : cs ≡ counts = counts_are a.width (number_of base) (increments (suc n) k suffix) cs
    (sym (ap (λ c. contents_across c k (suc n) base suffix) coding ∙ varied (numbers a.width false) k (suc n) base suffix nonzero) ∙ is) in (
      ap (λ r. if_equal r cs) e ∙ ap (if_equal role.Factor) are ∙ counts_equal (number_of base) (take k suffix) (increments n k (drop k suffix))
          ∙ ap (λ x. only_if (list_all (λ i. number_of i == x) (increments (suc n) k suffix)) counts) (sym f)
          ∙ ap (only_if (list_all (λ i. number_of i == first) (increments (suc n) k suffix))) (sym are),
      ap (λ x. taken.Count (x + first)) l ∙ ap (λ x. taken.Count (number_of base + x)) f ∙ ap (λ r. answer_by_role r (number (number_of base + (number_of (take k suffix))))) (sym e)
          ∙ ap (answer_first a) (sym are),
    )

-- ---- An item of compressed data, given its parts.

abbrev pub item_by : (fxy : ℕ) → Role → (ends : Bool) → Option (List Content) → List Bool → Result (FieldRead (List Content)) DataFault
item_by fxy r ends contents suffix =
    if ends then Err (wrong.DataEnd fxy) else (ok_or contents (wrong.Increment fxy) >>= λ x. ok_or (if_equal r x) (wrong.UnequalFactor fxy) >>= λ y. Ok (found y suffix))

-- The fault is `DataEnd`, `Increment` or `UnequalFactor`.
abbrev pub IsOfItem : DataFault → Type 0
IsOfItem (wrong.TooManyValues fxy) = ⊥
IsOfItem wrong.Memory = ⊥
IsOfItem e = Unit {0}

pub of_item : (fxy : ℕ) (r : Role) (ends : Bool) (contents : Option (List Content)) (suffix : List Bool) (e : DataFault) → item_by fxy r ends contents suffix ≡ Err e → IsOfItem e
of_item fxy r true contents suffix e is = grind arith
of_item fxy r false None suffix e is = grind arith
of_item fxy r false (Some x) suffix e is = by (if_equal r x) is
  where
    by : (o : Option (List Content)) → (ok_or o (wrong.UnequalFactor fxy) >>= λ y. Ok (found y suffix)) ≡ Err e → IsOfItem e
    by None is = grind arith
    by (Some y) is = cc is

-- If an item is read, its bits are present, and its contents are valid.
pub item_parts : (fxy : ℕ) (r : Role) (ends : Bool) (c : Option (List Content)) (suffix : List Bool) (ds : List Content) (mid : List Bool) → item_by fxy r ends c suffix ≡ Ok (found ds mid)
    → (ends ≡ false) × (c ≡ Some ds) × (if_equal r ds ≡ Some ds) × (suffix ≡ mid)
item_parts fxy r ends c suffix ds mid e = search rules

-- The item at this bit is inside the data and has these contents.
pub record IsAt (bits : List Bool) (at n : ℕ) (a : FieldSpec) (k : ℕ) (cs : List Content) : Type 0 where
  pub within : at + (a.width + 6 + n * step_of (coding_of a) k) ≤ length bits
  pub are : contents_across (coding_of a) k n (take a.width (drop at bits)) (drop (at + (a.width + 6)) bits) ≡ Some cs

found_by : (r : Result (FieldRead (List Content)) DataFault) → was_found r ≡ true → (mid : List Bool) × (r ≡ Ok (found (contents_found r) mid))
found_by (Ok f) h = (f.suffix, refl)
found_by (Err why) h = absurd cc

pub neither : (a b : Bool) → (a || b) ≡ false → (a ≡ false) × (b ≡ false)
neither true b h = absurd cc
neither false b h = (refl, h)

pub parts : (bits : List Bool) (at n : ℕ) (a : FieldSpec) (k : ℕ) → was_found (packed_field n a (drop at bits)) ≡ true → k ≡ number_of (take 6 (drop (at + a.width) bits))
    → IsAt bits at n a k (contents_found (packed_field n a (drop at bits)))
parts bits at n a k h is =
    let here = drop at bits in
    let c = coding_of a in
    let read = number_of (take 6 (drop a.width here)) in
    let suffix = drop (a.width + 6) here in
    let there = found_by (packed_field n a here) h in
    let t = item_parts a.fxy a.role (nat_lt (length here) (a.width + 6) || nat_lt (length suffix) (n * step_of c read)) (contents_across c read n (take a.width here) suffix)
    (drop (n * step_of c read) suffix)
    (contents_found (packed_field n a here)) there.0 there.1 in
    grind (arith, common_steps)

kept_step : (bits : List Bool) (n : ℕ) (e : IndexedItem) → fits_at bits n e ≡ true → e.step ≡ number_of (take 6 (drop (start_of e + e.spec.width) bits))
kept_step bits n e h = grind (arith, and_first)

-- If a stored item is a number, its entry has the base that is in the bits.
pub kept_base : (bits : List Bool) (n : ℕ) (e : IndexedItem) → fits_at bits n e ≡ true → is_character e.spec.kind ≡ false → e.base ≡ number_of (take e.spec.width (drop (start_of e) bits))
kept_base bits n e h k = grind (arith, and_second)

-- A stored item is inside the data and has valid contents.
pub kept_parts : (bits : List Bool) (n : ℕ) (e : IndexedItem) → fits_at bits n e ≡ true → IsAt bits (start_of e) n e.spec e.step (contents_found (packed_field n e.spec (drop (start_of e) bits)))
kept_parts bits n e h = search (rules, parts, and_first, kept_step)

-- the text of one subset: k octets, followed by spaces up to its width
abbrev pub padded_text : (octets k : ℕ) → List Bool → Content
padded_text octets k bits = if are_all_ones bits then missing else text (octets_in k bits ++ replicate (octets - k) 32)

-- The content of each subset is that of its increment.
at_there : (f : List Bool → Option Content) (n s j : ℕ) (bits : List Bool) (cs : List Content) → j < n → all_there (map f (increments n s bits)) ≡ Some cs
    → f (take s (drop (j * s) bits)) ≡ Some (content_at j cs)
at_there f zero s j bits cs h e = absurd (omega arith)
at_there f (suc n) s zero bits cs h e =
    let t = next_there (f (take s bits)) (map f (increments n s (drop s bits))) cs e in
    grind arith
at_there f (suc n) s (suc j) bits cs h e =
    let t = next_there (f (take s bits)) (map f (increments n s (drop s bits))) cs e in
    ap (λ x. f (take s x)) (ap (λ m. drop m bits) (next s j) ∙ sym (drop-drop (j * s) s bits)) ∙ at_there f n s j (drop s bits) t.1 (omega arith) t.3 ∙ ap (λ xs. Some (content_at (suc j) xs)) t.4
  where
    next : (s j : ℕ) → suc j * s ≡ s + j * s
    next s j = omega arith

-- The increment of a subset ends no later than the last increment.
pub reaches : (n j s : ℕ) → j < n → (j + 1) * s ≤ n * s
reaches n j s h = mul-le-mul_right s (omega arith)

pub step_small : (bits : List Bool) (n : ℕ) (e : IndexedItem) → fits_at bits n e ≡ true → e.step ≤ 63
step_small bits n e h = grind (arith, common_steps, kept_step, number_of-below, pow-le-pow_right, length-take)

-- If k is 0, the content of each subset is that of the base.
pub base_content : (bits : List Bool) (n : ℕ) (e : IndexedItem) (j : ℕ) → fits_at bits n e ≡ true → e.step ≡ 0 → j < n
    → stored_content bits n e j ≡ content_in e.spec (take e.spec.width (drop (start_of e) bits))
base_content bits n e j h none below =
    let base = take e.spec.width (drop (start_of e) bits) in
    let suffix = drop (start_of e + (e.spec.width + 6)) bits in
    let is = some_same (replicate n (content_in e.spec base)) (contents_found (packed_field n e.spec (drop (start_of e) bits)))
    (sym (copied (coding_of e.spec) e.step n base suffix none) ∙ (kept_parts bits n e h).are) in
    ap (content_at j) (sym is) ∙ all n j below
  where
    all : (n j : ℕ) → j < n → content_at j (replicate n (content_in e.spec (take e.spec.width (drop (start_of e) bits)))) ≡ content_in e.spec (take e.spec.width (drop (start_of e) bits))
    all zero j h = absurd (omega arith)
    all (suc n) zero h = refl
    all (suc n) (suc j) h = all n j (omega arith)

module _ (bits : List Bool) (n : ℕ) (e : IndexedItem) (j : ℕ) (h : fits_at bits n e ≡ true) (some : 1 ≤ e.step) (below : j < n) where
  -- The increment of this subset is inside the data and gives its content.
  coded : (c : Coding) → coding_of e.spec ≡ c
      → (increased c e.step (take e.spec.width (drop (start_of e) bits)) (take (step_of c e.step) (drop (j * step_of c e.step) (drop (start_of e + (e.spec.width + 6)) bits)))
      ≡ Some (stored_content bits n e j))
      × (start_of e + (e.spec.width + 6) + (j + 1) * step_of c e.step ≤ length bits)
  coded c is =
      let p = kept_parts bits n e h in
      grind (arith, common_steps, at_there, not_zero)

  -- The item is not a redefined reference, because it has increments.
  no_reference : is_reference e.spec.role ≡ false
  no_reference = by e.spec.role refl
    where
      by : (r : Role) → e.spec.role ≡ r → is_reference r ≡ false
      by role.Element is = refl
      by role.Inserted is = refl
      by role.Factor is = refl
      by role.Reference is = let t = coded (coding_by role.Reference e.spec.kind e.spec) (ap (λ r. coding_by r e.spec.kind e.spec) is) in absurd (none (stored_content bits n e j) t.0)
        where
          none : (c : Content) → ◌≡◌ {A = Option Content} None (Some c) → ⊥
          none c e = cc

  -- the content of a number
  pub number_content : is_character e.spec.kind ≡ false
      → increased (numbers e.spec.width e.spec.may_be_missing) e.step (take e.spec.width (drop (start_of e) bits)) (take e.step (drop (j * e.step) (drop (start_of e + (e.spec.width + 6)) bits)))
      ≡ Some (stored_content bits n e j)
  number_content c = (coded (numbers e.spec.width e.spec.may_be_missing) (number_coding e.spec c no_reference)).0

  pub number_within : is_character e.spec.kind ≡ false → start_of e + (e.spec.width + 6) + (j + 1) * e.step ≤ length bits
  number_within c = (coded (numbers e.spec.width e.spec.may_be_missing) (number_coding e.spec c no_reference)).1

  -- the content of a text
  pub text_content : is_character e.spec.kind ≡ true
      → padded_text (e.spec.width / 8) e.step (take (8 * e.step) (drop (j * (8 * e.step)) (drop (start_of e + (e.spec.width + 6)) bits))) ≡ stored_content bits n e j
  text_content c =
      there (nat_lt (e.spec.width / 8) e.step) (padded_text (e.spec.width / 8) e.step (take (8 * e.step) (drop (j * (8 * e.step)) (drop (start_of e + (e.spec.width + 6)) bits))))
      (stored_content bits n e j)
      (coded (texts (e.spec.width / 8)) (text_coding e.spec c no_reference)).0
    where
      there : (past : Bool) (a b : Content) → (if past then None else Some a) ≡ Some b → a ≡ b
      there true a b e = absurd cc
      there false a b e = some_same a b e

  pub text_short : is_character e.spec.kind ≡ true → e.step ≤ e.spec.width / 8
  text_short c = ltb-false (e.spec.width / 8) e.step
      (there (nat_lt (e.spec.width / 8) e.step) (padded_text (e.spec.width / 8) e.step (take (8 * e.step) (drop (j * (8 * e.step)) (drop (start_of e + (e.spec.width + 6)) bits))))
      (coded (texts (e.spec.width / 8)) (text_coding e.spec c no_reference)).0)
    where
      there : (past : Bool) (a : Content) → (if past then None else Some a) ≡ Some (stored_content bits n e j) → past ≡ false
      there true a e = absurd cc
      there false a e = refl

  pub text_within : is_character e.spec.kind ≡ true → start_of e + (e.spec.width + 6) + (j + 1) * (8 * e.step) ≤ length bits
  text_within c = (coded (texts (e.spec.width / 8)) (text_coding e.spec c no_reference)).1

-- The stored base of a number is the greatest number of its width if, and only if, its bits are all
-- ones.
pub kept_ones : (octets : List ℕ) (n : ℕ) (e : IndexedItem) → fits_at (bits_of octets) n e ≡ true → is_character e.spec.kind ≡ false
    → (e.base == 2 ^ e.spec.width - 1) ≡ are_all_ones (bits_at octets (start_of e) e.spec.width)
kept_ones octets n e h k = grind (arith, common_steps, ones_by_number, bits_length, kept_base)

-- The stored base is the number in these bits.
pub kept_number : (octets : List ℕ) (n : ℕ) (e : IndexedItem) → fits_at (bits_of octets) n e ≡ true → is_character e.spec.kind ≡ false
    → (e.base ≡ number_of (bits_at octets (start_of e) e.spec.width)) × (e.base < 2 ^ e.spec.width)
kept_number octets n e h k = grind (arith, common_steps, kept_base, number_of-below)

-- The number that the code reads, at a bit that it computes in 64 bits, is the increment of the
-- subset.
pub increment_at : (octets : List ℕ) (start at w k size j width subset step raw : ℕ) → at ≡ start → width ≡ w → subset ≡ j → step ≡ k → k ≡ size
    → raw ≡ number_of (bits_at octets (at + (width + 6) + subset * step) k)
    → raw ≡ number_of (take size (drop (j * size) (drop (start + (w + 6)) (bits_of octets))))
increment_at octets start at w k size j width subset step raw h a b c e is = grind (arith, drop-drop)
