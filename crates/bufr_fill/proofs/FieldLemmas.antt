-- How an item becomes the content of its field, and the bits of this content.
use Rattle.std.proofs.lemmas.Grind.{common_steps}
use Rattle.std.proofs.Common.{Result, Ok, ◌≡◌, ℕ, zero, suc, ◌+◌, ◌-◌, ◌*◌, ◌/◌, ◌%◌, ◌^◌, ◌<◌, ◌≤◌, ◌&&◌, eqb, Bool, true, false, List, [], ◌∷◌, ◌++◌, length, take, drop, replicate, get_or, refl, sym, ◌∙◌, ap, subst, arith, ℤ, pos, negsuc, neg_ℤ, nat_abs, mod-eq_of_lt, Ok, Err, pow_mono, ◌<ℤ◌, ◌≤ℤ◌, ◌==◌, if◌then◌else◌, nat_lt, unsigned_abs, Some, rules}
use Rattle.std.specs.List.{list_all}
use Rattle.bufr_fill.specs.declared.draft.StoredEntry.{StoredEntry}
use Rattle.bufr_bits.proofs.DecimalLemmas.{and_second}
use Rattle.std.proofs.lemmas.List.{nil_from_length, take-append-drop, length-replicate, length-take-le, length-drop, take-replicate, drop-replicate}
use Rattle.std.proofs.lemmas.Bool.Decides.{nat_tests}
use Rattle.std.proofs.lemmas.Nat.{shr_high}
use Rattle.bufr_bits.specs.Prelude.{bits_of, bits_of_octet, bits_in, number_after_bits, number_of, are_all_ones}
use Rattle.bufr_bits.proofs.BitLemmas.{are_all_ones-bits_of, bit, number_after_bits-is, number_of-below, number-bits_of_octet, length-bits_of, bits_in-above, bits_in-octet, length-bits_in, number_of-bits_in, are_all_ones-number, and_false}
use Rattle.bufr_walk.specs.Prelude.{reference, HasWidth, FieldSpec, is_reference, Content, number, text, missing, octets_in, signed_by, content_by, Coding, coding_by, numbers, texts, sign_bit, bits_for, answer_of, answer_by_role}
use Rattle.bufr_fill.specs.Prelude.{Role, Kind, AreOctets, FitsKind, FitsNumber, FitsText, raw_limit, is_of, is_marked, wrong_for, content_by_form, Draft, draft, ValueKind, value_by, entry_with, entry_content, map_err, at_line}
use Rattle.std.proofs.lemmas.Int.{ints}
use Rattle.std.proofs.lemmas.Bool.{eq-eqb, eqb-true}
use Rattle.bufr_tables.specs.declared.table_b.Kind.TheVariants as kind
use Rattle.bufr_walk.specs.declared.spec.Role.TheVariants as role
use Rattle.bufr_walk.specs.declared.spec.Taken.TheVariants as taken

-- the coding of a number or a text, by its kind
abbrev pub coded : Kind → ℕ → Bool → Coding
coded kind.Character w m = texts (w / 8)
coded _ w m = numbers w m

pub coding_is : (r : Role) (k : Kind) (spec : FieldSpec) → is_reference r ≡ false → coding_by r k spec ≡ coded k spec.width spec.may_be_missing
coding_is role.Reference k spec h = absurd cc
coding_is _ kind.Character spec h = refl
coding_is _ kind.Coded spec h = refl
coding_is _ kind.Numeric spec h = refl

-- A number that fits a width is read back from its bits.
pub number_again : (v w : ℕ) → v < 2 ^ w → number_of (bits_in v w) ≡ v
number_again v w h = number_of-bits_in v w ∙ mod-eq_of_lt h

pub ones_test : (xs : List Bool) (w : ℕ) → length xs ≡ w → eqb (number_of xs) (2 ^ w - 1) ≡ are_all_ones xs
ones_test xs w e = grind (arith, are_all_ones-number)

pub same_ok : {A E : Type 0} (a b : A) → ◌≡◌ {A = Result A E} (Ok a) (Ok b) → a ≡ b
same_ok a b e = cc

pub top_below : (m : Bool) (w v : ℕ) → v < raw_limit m w → v < 2 ^ w
top_below true w v h = omega arith
top_below false w v h = h

not_ones : (v w : ℕ) → v < 2 ^ w - 1 → eqb v (2 ^ w - 1) ≡ false
not_ones v w h = grind arith

-- A number below the limit does not read as missing.
not_missing : (m : Bool) (w v : ℕ) (b : Bool) → v < raw_limit m w → (m ≡ true → b ≡ eqb v (2 ^ w - 1)) → (b && m) ≡ false
not_missing true w v b h e = ap (λ x. x && true) (e refl ∙ not_ones v w h)
not_missing false w v true h e = refl
not_missing false w v false h e = refl

pub ones_set : (w : ℕ) → are_all_ones (replicate w true) ≡ true
ones_set zero = refl
ones_set (suc w) = ones_set w

-- If bits do not read as missing, their number is below the limit.
below_top : (m : Bool) (xs : List Bool) (w : ℕ) → length xs ≡ w → (are_all_ones xs && m) ≡ false → number_of xs < raw_limit m w
below_top false xs w e h = subst (λ n. number_of xs < 2 ^ n) e (number_of-below xs)
below_top true xs w e h =
    let below : number_of xs < 2 ^ w = subst (λ n. number_of xs < 2 ^ n) e (number_of-below xs) in
    let test : eqb (number_of xs) (2 ^ w - 1) ≡ are_all_ones xs = ones_test xs w e in
    apart_below (number_of xs) (2 ^ w) (are_all_ones xs) below test h
  where
    apart_below : (v p : ℕ) (b : Bool) → v < p → eqb v (p - 1) ≡ b → (b && true) ≡ false → v < p - 1
    apart_below v p true h e f = cc
    apart_below v p false h e f = grind (arith, nat_tests)

-- Octets are read back from their bits.
pub octets_again : (octets : List ℕ) → AreOctets octets → octets_in (length octets) (bits_of octets) ≡ octets
unfolding bits_of
octets_again [] h = refl
octets_again (x ∷ xs) h = grind (arith, octets_again xs h.1, number-bits_of_octet)

pub length-octets_in : (n : ℕ) (bits : List Bool) → length (octets_in n bits) ≡ n
length-octets_in zero bits = refl
length-octets_in (suc n) bits = ap suc (length-octets_in n (drop 8 bits))

pub octets_in-are : (n : ℕ) (bits : List Bool) → length bits ≡ 8 * n → AreOctets (octets_in n bits)
octets_in-are zero bits h = tt
octets_in-are (suc n) bits h =
    let l : length (take 8 bits) ≡ 8 = length-take-le 8 bits (omega arith) in
    (rw l at (number_of-below (take 8 bits)), octets_in-are n (drop 8 bits) (omega (arith, length-drop 8 bits)))

octet_at : (xs : List ℕ) → AreOctets xs → (k : ℕ) → get_or xs k 0 < 256
octet_at [] h k = omega arith
octet_at (x ∷ xs) h zero = h.0
octet_at (x ∷ xs) h (suc k) = octet_at xs h.1 k

pub full_test : (octets : List ℕ) → AreOctets octets → are_all_ones (bits_of octets) ≡ list_all (λ octet. octet == 255) octets
full_test octets h = sym (are_all_ones-bits_of octets (octet_at octets h))

bit_test : (b : Bool) → eqb (bit b % 2) 1 ≡ b
bit_test true = refl
bit_test false = refl

pub first_bit : (b : Bool) (v k : ℕ) → v < 2 ^ k → eqb ((bit b * 2 ^ k + v) / 2 ^ k % 2) 1 ≡ b
first_bit b v k h = rw (shr_high, bit_test)

-- The bits of the number that is read from bits are these bits.
pub bits_again : (xs : List Bool) → bits_in (number_of xs) (length xs) ≡ xs
unfolding bits_in
bits_again [] = refl
bits_again (x ∷ xs) =
    let e : number_of (x ∷ xs) ≡ bit x * 2 ^ length xs + number_of xs = ap (λ n. number_after_bits n xs) (omega arith) ∙ number_after_bits-is (bit x) xs in
    grind (arith, first_bit x (number_of xs) (length xs) (number_of-below xs), bits_in-above (bit x) (number_of xs) (length xs) ∙ bits_again xs)

octet_again : (xs : List Bool) → length xs ≡ 8 → bits_of_octet (number_of xs) ≡ xs
octet_again xs e =
    let below : number_of xs < 256 = rw e at (number_of-below xs) in
    cc (mod-eq_of_lt below, bits_in-octet (number_of xs), bits_again xs)

-- The bits of the octets that are read from bits are these bits.
pub octet_bits_again : (n : ℕ) (bits : List Bool) → length bits ≡ 8 * n → bits_of (octets_in n bits) ≡ bits
unfolding bits_of
octet_bits_again zero bits h = sym (nil_from_length bits (omega arith))
octet_bits_again (suc n) bits h =
    let l : length (take 8 bits) ≡ 8 = length-take-le 8 bits (omega arith) in
    cc (octet_again (take 8 bits) l, octet_bits_again n (drop 8 bits) (omega (arith, length-drop 8 bits)), take-append-drop 8 bits)

module _ (w : ℕ) where
  pub number_back : (m : Bool) (raw : ℕ) → raw < raw_limit m w → (are_all_ones (bits_in raw w) && m) ≡ false
  number_back m raw h = not_missing m w raw (are_all_ones (bits_in raw w)) h
      (λ e. sym (ones_test (bits_in raw w) w (length-bits_in raw w)) ∙ ap (λ n. eqb n (2 ^ w - 1)) (number_again raw w (top_below m w raw h)))

  -- A missing value is read back as missing.
  missing_back : (m : Bool) → m ≡ true → (are_all_ones (replicate w true) && m) ≡ true
  missing_back m e = ap (λ b. b && m) (ones_set w) ∙ e

  by_test : (b : Bool) (c d : Content) → b ≡ false → (if b then missing else c) ≡ d → (if b then missing else c) ≡ d
  by_test b c d e h = h

  chosen_no : (b : Bool) (c d : Content) → b ≡ false → c ≡ d → (if b then missing else c) ≡ d
  chosen_no b c d e h = cc (e)

  chosen_yes : (b : Bool) (c : Content) → b ≡ true → (if b then missing else c) ≡ missing
  chosen_yes b c e = rw e

  -- A content that fits is read back from its bits, whatever its kind is.
  pub kind_back : (k : Kind) (m : Bool) (c : Content) → HasWidth k w → FitsKind k m w c → content_by (coded k w m) (bits_for w c) ≡ c
  kind_back kind.Character m missing hw h = chosen_yes (are_all_ones (replicate w true)) _ (ones_set w)
  kind_back kind.Character m (text octets) hw h = search (rules, chosen_no, full_test, octets_again)
  kind_back kind.Character m c hw h = absurd h
  kind_back k m (number raw) hw h = chosen_no (are_all_ones (bits_in raw w) && m) (number (number_of (bits_in raw w))) (number raw) (number_back m raw h)
      (ap number (number_again raw w (top_below m w raw h)))
  kind_back k m missing hw h = chosen_yes (are_all_ones (replicate w true) && m) _ (missing_back m h)
  kind_back k m c hw h = absurd h

  eighths : w % 8 ≡ 0 → 8 * (w / 8) ≡ w
  eighths h = omega arith

  pub kind_length : (k : Kind) (m : Bool) (c : Content) → HasWidth k w → FitsKind k m w c → length (bits_for w c) ≡ w
  kind_length k m c hw h = search (rules, length-replicate, length-bits_of, length-bits_in)

  text_fits : (b : Bool) (bits : List Bool) → length bits ≡ w → w % 8 ≡ 0 → are_all_ones bits ≡ b → FitsText (w / 8) (if b then missing else text (octets_in (w / 8) bits))
  text_fits true bits l whole e = tt
  text_fits false bits l whole e =
      let long : length bits ≡ 8 * (w / 8) = l ∙ sym (eighths whole) in
      let are : AreOctets (octets_in (w / 8) bits) = octets_in-are (w / 8) bits long in
      (length-octets_in (w / 8) bits, are, sym (full_test (octets_in (w / 8) bits) are) ∙ ap are_all_ones (octet_bits_again (w / 8) bits long) ∙ e)

  number_fits : (b m : Bool) (bits : List Bool) → length bits ≡ w → (are_all_ones bits && m) ≡ b → FitsNumber m w (if b then missing else number (number_of bits))
  number_fits true m bits l e = and_second (are_all_ones bits) m e
  number_fits false m bits l e = below_top m bits w l e

  -- The content of any bits of this width fits the field.
  pub kind_fits : (k : Kind) (m : Bool) (bits : List Bool) → length bits ≡ w → HasWidth k w → FitsKind k m w (content_by (coded k w m) bits)
  kind_fits k m bits l hw = search (rules, text_fits, number_fits)

-- A redefined reference is read back from its sign and its magnitude.
pub signed_back : (v : ℤ) (w : ℕ) → nat_abs v < 2 ^ (w - 1) → signed_by (sign_bit v ∷ bits_in (nat_abs v) (w - 1)) ≡ v
signed_back (pos n) w h = ap pos (number_again n (w - 1) h)
signed_back (negsuc n) w h = rw number_again

abs_neg : (n : ℕ) → nat_abs (neg_ℤ (pos n)) ≡ n
abs_neg zero = refl
abs_neg (suc n) = refl

pub signed_below : (bits : List Bool) (w : ℕ) → length bits ≡ w → 1 ≤ w → nat_abs (signed_by bits) < 2 ^ (w - 1)
signed_below bits w e h = search (rules, number_of-below)

by_order : (b : Bool) (a c : ℕ) → nat_lt a c ≡ b → (a < c → ⊥) → c ≤ a
by_order b a c e h = omega arith

ones_is : (w : ℕ) → number_of (replicate w true) ≡ 2 ^ w - 1
ones_is w =
    let t : eqb (number_of (replicate w true)) (2 ^ w - 1) ≡ true = ones_test (replicate w true) w (length-replicate w true) ∙ ones_set w in
    grind arith

-- The greatest w-bit number, as the code computes it, consists of ones only.
pub ones_bits : (w : ℕ) → w ≤ 63 → bits_in (1 * 2 ^ w % 18446744073709551616 - 1) w ≡ replicate w true
ones_bits w h =
    let p : 2 ^ w ≤ 2 ^ 63 = pow_mono h in
    let e : 1 * 2 ^ w % 18446744073709551616 - 1 ≡ number_of (replicate w true) = omega (arith, p, ones_is) in
    cc (e, length-replicate w true, bits_again (replicate w true))

-- ---- Texts and references as the code writes them.

pub spaced_prefix : (octets : List ℕ) (count : ℕ) → length octets ≤ count → count ≤ 255 → take count (octets ++ replicate (255 - length octets) 32) ≡ octets ++ replicate (count - length octets) 32
spaced_prefix octets count h g = by octets count (255 - length octets) (omega (arith, h, g)) h
  where
    by : (octets : List ℕ) (count n : ℕ) → count ≤ length octets + n → length octets ≤ count → take count (octets ++ replicate n 32) ≡ octets ++ replicate (count - length octets) 32
    by [] count n h g = let space : ℕ = 32 in let none : count ≡ count - 0 = omega arith in take-replicate {X = ℕ} count n space (omega arith) ∙ ap (λ j. replicate j space) none
    by (o ∷ os) zero n h g = absurd (omega arith)
    by (o ∷ os) (suc count) n h g =
        let e : suc count - suc (length os) ≡ count - length os = omega arith in
        ap (λ xs. o ∷ xs) (by os count n (omega arith) (omega arith)) ∙ ap (λ j. o ∷ os ++ replicate j 32) (sym e)

pub spaced_whole : (octets written : List ℕ) → written ≡ octets → written ++ drop (length octets) (replicate 255 32) ≡ octets ++ replicate (255 - length octets) 32
spaced_whole octets written e = rw (e, drop-replicate)

-- The bits of a sign and a magnitude are the sign bit and the bits of the magnitude.
signed_in : (b : Bool) (k size : ℕ) → size < 2 ^ k → bits_in (bit b * 2 ^ k + size) (suc k) ≡ b ∷ bits_in size k
unfolding bits_in
signed_in b k size h = cc (first_bit b size k h, bits_in-above (bit b) size k)

at_width : (b : Bool) (w size : ℕ) → 1 ≤ w → size < 2 ^ (w - 1) → bits_in (bit b * 2 ^ (w - 1) + size) w ≡ b ∷ bits_in size (w - 1)
at_width b w size some h = let e : w ≡ suc (w - 1) = omega arith in cc (e, signed_in b (w - 1) size h)

pub negative_bits : (v : ℤ) (w size : ℕ) → v <ℤ pos 0 → 1 ≤ w → w ≤ 63 → size ≡ unsigned_abs v → unsigned_abs v < 2 ^ (w - 1)
    → bits_in (1 * 2 ^ (w - 1) % 18446744073709551616 + size) w ≡ sign_bit v ∷ bits_in (unsigned_abs v) (w - 1)
negative_bits (pos n) w size neg some narrow e h = absurd (omega (arith, ints))
negative_bits (negsuc n) w size neg some narrow e h =
    let short : w - 1 ≤ 62 = omega arith in
    let p : 2 ^ (w - 1) ≤ 2 ^ 62 = pow_mono short in
    let q : 1 * 2 ^ (w - 1) % 18446744073709551616 + size ≡ 1 * 2 ^ (w - 1) + suc n = omega (arith, p) in
    ap (λ x. bits_in x w) q ∙ at_width true w (suc n) some h

pub positive_bits : (v : ℤ) (w size : ℕ) → pos 0 ≤ℤ v → 1 ≤ w → size ≡ unsigned_abs v → unsigned_abs v < 2 ^ (w - 1) → bits_in size w ≡ sign_bit v ∷ bits_in (unsigned_abs v) (w - 1)
positive_bits (pos n) w size pos_v some e h = ap (λ x. bits_in x w) (let q : size ≡ 0 * 2 ^ (w - 1) + n = omega arith in q) ∙ at_width false w n some h
positive_bits (negsuc n) w size pos_v some e h = absurd (omega (arith, ints, pos_v))

-- A padded text consists of octets of 255 only if it is full and its own octets are all 255.
pub all_of_spaced : (octets : List ℕ) (count : ℕ) (full : Bool) → length octets ≤ count → full ≡ list_all (λ octet. octet == 255) octets
    → ((length octets == count) && full) ≡ list_all (λ octet. octet == 255) (octets ++ replicate (count - length octets) 32)
all_of_spaced octets count full h e = grind (arith, common_steps, and_false, eq-eqb, eqb-true)

-- Octets of 255 consist of ones only.
all_ones : (n : ℕ) → bits_of (replicate n 255) ≡ replicate (8 * n) true
unfolding bits_of
all_ones zero = refl
all_ones (suc n) = ap (λ bs. true ∷ true ∷ true ∷ true ∷ true ∷ true ∷ true ∷ true ∷ bs) (all_ones n)
    ∙ (let q : suc (suc (suc (suc (suc (suc (suc (suc (8 * n)))))))) ≡ 8 * suc n = omega arith in ap (λ k. replicate k true) q)

pub full_bits : (count : ℕ) → count ≤ 255 → bits_of (take count (replicate 255 255)) ≡ replicate (8 * count) true
full_bits count h = let full : ℕ = 255 in ap bits_of (take-replicate {X = ℕ} count 255 full h) ∙ all_ones count

pub eighths_ones : (w : ℕ) → w % 8 ≡ 0 → replicate (8 * (w / 8)) true ≡ replicate w true
eighths_ones w h = grind arith

-- ---- How the code converts an item to the content of its field.

-- If an item is that of a field, it has the mark that the field requires.
pub marks : (spec : FieldSpec) (d : Draft) → is_of spec d ≡ true → is_reference spec.role ≡ is_marked d.form
marks spec d h = grind arith

-- An item has the content of its value, or a fault if it is not that of the field.
pub entry_is : (spec : FieldSpec) (e : StoredEntry) (octets : List ℕ) (k : ValueKind) (b : Bool) → e.kind ≡ Some k → is_of spec (draft e.line e.fxy (value_by k e.start octets)) ≡ b
    → entry_content spec (entry_with e octets) ≡ map_err (at_line e.line) (if b then content_by_form (value_by k e.start octets) spec else Err (wrong_for spec))
entry_is spec e octets k b is of = cc (is)

-- the answer of a field, by its role
pub answer_element : (spec : FieldSpec) (c : Content) → spec.role ≡ role.Element → taken.Plain ≡ answer_of spec c
answer_element spec c e = rw e

pub answer_inserted : (spec : FieldSpec) (c : Content) → spec.role ≡ role.Inserted → taken.Plain ≡ answer_of spec c
answer_inserted spec c e = rw e

-- the count in the content of a factor
abbrev pub count_in : Content → ℕ
count_in (number raw) = raw
count_in _ = 0

-- the value in the content of a redefined reference value
abbrev pub reference_in : Content → ℤ
reference_in (reference value) = value
reference_in _ = pos 0

counted_is : (c : Content) → taken.Count (count_in c) ≡ answer_by_role role.Factor c
counted_is (number raw) = refl
counted_is (text octets) = refl
counted_is missing = refl
counted_is (reference value) = refl

referred_is : (c : Content) → taken.Reference (reference_in c) ≡ answer_by_role role.Reference c
referred_is (number raw) = refl
referred_is (text octets) = refl
referred_is missing = refl
referred_is (reference value) = refl

pub answer_count : (spec : FieldSpec) (c : Content) (n : ℕ) → spec.role ≡ role.Factor → n ≡ count_in c → taken.Count n ≡ answer_of spec c
answer_count spec c n e h = ap taken.Count h ∙ counted_is c ∙ sym (ap (λ r. answer_by_role r c) e)

pub answer_reference : (spec : FieldSpec) (c : Content) (v : ℤ) → spec.role ≡ role.Reference → v ≡ reference_in c → taken.Reference v ≡ answer_of spec c
answer_reference spec c v e h = ap taken.Reference h ∙ referred_is c ∙ sym (ap (λ r. answer_by_role r c) e)
