-- A parsed message is written again from its parts.
use Rattle.std.proofs.lemmas.Grind.{common_steps}
use Rattle.std.proofs.Common.{inl, inr, ◌≡◌, ◌==◌, ◌∙◌, ℕ, zero, suc, ◌+◌, ◌-◌, ◌*◌, ◌/◌, ◌%◌, ◌<◌, ◌≤◌, Bool, true, false, List, [], ◌∷◌, ◌++◌, length, take, drop, refl, ap, sym, subst, arith, Some, None, Ok, Err, get_or, codes, length-take, length-drop, Result, if◌then◌else◌, nat_lt, nat_le, not, is_some, slice_range, All, ◌&&◌, slice_index, rules}
use Rattle.std.proofs.Math.Seq.{drop-cons, take-add}
use Rattle.std.proofs.lemmas.Bool.Decides.{nat_tests}
use Rattle.std.proofs.lemmas.Bool.{true≢false, cases_Bool}
use Rattle.std.proofs.lemmas.List.{take-append-drop, get_or-take, get_or-drop}
use Rattle.bufr_frame.specs.declared.fault.SectionFault.{SectionFault}
use Rattle.bufr_frame.specs.declared.fault.SectionFault.TheVariants.{SectionShort, SectionPast}
use Rattle.bufr_frame.specs.Prelude.{u24_at, u16_at, words, three_octets, two_octets, octets_of_words, is_edition, min_section_1, head_of, head_by, value_at, flags_of, octet_at, octets_3, octets_4, values_of, greatest_values, head_by, Sections, sections_of, section_end, parts, edition_of, has_section2, is_long_edition_3, parts_if_end_matches, IsPlain, section2_begins, section3_begins, section4_begins, parts_in, message_size, message_octets, section0_octets, section1_octets, section2_octets, section3_octets, section4_octets, head_octets, data_flags, even_size, size_from, with_even_length, max_extra_octets, max_octets, IsFitting, is_writable, Head}
use Rattle.bufr_bits.specs.Prelude.{◌>>=◌}
use Rattle.bufr_frame.proofs.LayoutLemmas.{least-section-1, message_size_is, length-octets_of_words, even-3, length-words}
use Rattle.std.proofs.lemmas.List.Folds.{drop_split}
use Rattle.bufr_frame.proofs.ScanLemmas.{drop-twice}
use Rattle.std.specs.List.{AllByRecursion}

-- the head, as read by the layout of section 1 in this edition
abbrev head_in : (edition : ℕ) → List ℕ → Head
head_in edition m = head_by (edition_of m) (λ key in_4 in_3. value_at m (if edition == 3 then in_3 else in_4))

-- A number that is accepted passed all three tests.
passed-all : (a b c : Bool) (e1 e2 e3 : SectionFault) (n q : ℕ) → (if a then Err e1 else if b then Err e2 else if c then Err e3 else Ok n) ≡ Ok q
    → (a ≡ false) × (b ≡ false) × (c ≡ false) × (n ≡ q)
passed-all a b c e1 e2 e3 n q is = grind arith

-- The section at `p` ends at `q`, inside the message.
pub record EndsAt (m : List ℕ) (least p q : ℕ) : Type 0 where
  pub least_long : p + least ≤ q
  pub long : q ≡ p + u24_at m p
  pub three_long : p + 3 ≤ length m - 4
  pub within : q ≤ length m - 4

section-ended : (m : List ℕ) (k least p q : ℕ) → section_end m k least p ≡ Ok q → EndsAt m least p q
unfolding section_end
section-ended m k least p q is =
    let all = passed-all (nat_lt (length m - 4) (p + 3)) (nat_lt (u24_at m p) least) (nat_lt (length m - 4) (p + u24_at m p)) (SectionPast k) (SectionShort k) (SectionPast k) (p + u24_at m p) q is in
    let a : p + 3 ≤ length m - 4 = grind (arith, nat_tests, all.0) in
    let b : least ≤ u24_at m p = grind (arith, nat_tests, all.1) in
    let c : p + u24_at m p ≤ length m - 4 = grind (arith, nat_tests, all.2) in
    record { least_long = omega (arith, b, all.3); long = sym all.3; three_long = a; within = omega (arith, c, all.3) }

then-ok : {A B : Type 0} (r : Result A SectionFault) (f : A → Result B SectionFault) (y : B) → (r >>= f) ≡ Ok y → (x : A) × (r ≡ Ok x) × (f x ≡ Ok y)
then-ok (Ok x) f y is = (x, refl, is)
then-ok (Err e) f y is = absurd (cc)

unless-ok : {B : Type 0} (b : Bool) (e : SectionFault) (r : Result B SectionFault) (y : B) → (if not b then Err e else r) ≡ Ok y → (b ≡ true) × (r ≡ Ok y)
unless-ok true e r y is = (refl, is)
unless-ok false e r y is = cc

met-ok : (m : List ℕ) (p1 p2 p3 p4 : ℕ) (y : Sections) → parts_if_end_matches m p1 p2 p3 p4 ≡ Ok y → (p4 ≡ length m - 4) × (is_long_edition_3 m p2 p3 p4 ≡ false) × (parts m p1 p2 p3 p4 ≡ y)
met-ok m p1 p2 p3 p4 y is = grind arith

-- the ends of the sections of a message
pub record Ended (m : List ℕ) (s : Sections) : Type 0 where
  pub p1 : ℕ
  pub p2 : ℕ
  pub p3 : ℕ
  pub p4 : ℕ
  pub edition : is_edition (edition_of m) ≡ true
  pub first : EndsAt m (min_section_1 (edition_of m)) 8 p1
  pub second : has_section2 m ≡ true → EndsAt m 4 p1 p2
  pub no_second : has_section2 m ≡ false → p2 ≡ p1
  pub third : EndsAt m 7 p2 p3
  pub fourth : EndsAt m 4 p3 p4
  pub last : p4 ≡ length m - 4
  pub short : is_long_edition_3 m p2 p3 p4 ≡ false
  pub is : s ≡ parts m p1 p2 p3 p4

second-ended : (m : List ℕ) (p q : ℕ) (b : Bool) → (if b then section_end m 2 4 p else Ok p) ≡ Ok q → (b ≡ true → EndsAt m 4 p q) × (b ≡ false → q ≡ p)
second-ended m p q true is = (λ _. section-ended m 2 4 p q is, λ no. absurd (true≢false no))
second-ended m p q false is = (λ yes. absurd (true≢false (sym yes)), λ _. cc)

pub sections-ended : (m : List ℕ) (s : Sections) → sections_of m ≡ Ok s → Ended m s
unfolding sections_of
sections-ended m s is =
    let e = unless-ok (is_edition (edition_of m)) _ _ s is in
    let one' = then-ok (section_end m 1 (min_section_1 (edition_of m)) 8) _ s e.1 in
    let two' = then-ok (if has_section2 m then section_end m 2 4 one'.0 else Ok one'.0) _ s one'.2 in
    let three' = then-ok (section_end m 3 7 two'.0) _ s two'.2 in
    let four = then-ok (section_end m 4 4 three'.0) _ s three'.2 in
    let last = met-ok m one'.0 two'.0 three'.0 four.0 s four.2 in
    let second = second-ended m one'.0 two'.0 (has_section2 m) two'.1 in
    record {
      p1 = one'.0;
      p2 = two'.0;
      p3 = three'.0;
      p4 = four.0;
      edition = e.0;
      first = section-ended m 1 (min_section_1 (edition_of m)) 8 one'.0 one'.1;
      second = second.0;
      no_second = second.1;
      third = section-ended m 3 7 two'.0 three'.0 three'.1;
      fourth = section-ended m 4 4 three'.0 four.0 four.1;
      last = last.0;
      short = last.1;
      is = sym last.2;
    }

-- A message is of edition 3 or 4.
pub edition-cases : {P : Type 0} (edition : ℕ) → is_edition edition ≡ true → (edition ≡ 3 → P) → (edition ≡ 4 → P) → P
edition-cases {P = P} edition is of_3 of_4 = search (rules, nat_tests)

slice-long : (m : List ℕ) (a b : ℕ) → b ≤ length m → length (slice_range m a b) ≡ b - a
slice-long m a b within = omega (arith, length-take (b - a) (drop a m), length-drop a m)

second-size : (b : Bool) (m : List ℕ) (p q : ℕ) → q ≤ length m → (b ≡ true → p + 4 ≤ q) → (b ≡ false → q ≡ p)
    → p + length (section2_octets (if b then Some (slice_range m (p + 4) q) else None)) ≡ q
second-size true m p q within there absent = omega (arith, slice-long m (p + 4) q within, there refl)
second-size false m p q within there absent = omega (arith, absent refl)

-- The length of the rewritten message: sections 3 and 4 are made even, and an octet left over in
-- section 3 is dropped.
sizes : (m : List ℕ) (s : Sections) (e : Ended m s)
    → message_size (edition_of m) (parts_in (parts m e.p1 e.p2 e.p3 e.p4))
    ≡ e.p2 + even_size (edition_of m) (7 + 2 * ((e.p3 - (e.p2 + 7)) / 2)) + even_size (edition_of m) (e.p4 - e.p3) + 4
sizes m s e =
    let p = parts_in (parts m e.p1 e.p2 e.p3 e.p4) in
    let by : size_from (edition_of m) (length p.local1) p.section2 (length p.descriptors) (length p.payload)
    ≡ e.p2 + even_size (edition_of m) (7 + 2 * ((e.p3 - (e.p2 + 7)) / 2)) + even_size (edition_of m) (e.p4 - e.p3) + 4 = grind (arith, common_steps, second-size, slice-long, length-words) in
    message_size_is (edition_of m) p ∙ by

-- the length in edition 4
sizes-4 : (m : List ℕ) (s : Sections) (e : Ended m s) → edition_of m ≡ 4 → message_size (edition_of m) (parts_in (parts m e.p1 e.p2 e.p3 e.p4)) + (e.p3 - (e.p2 + 7)) % 2 ≡ length m
sizes-4 m s e is =
    let same = ap (λ n. e.p2 + even_size n (7 + 2 * ((e.p3 - (e.p2 + 7)) / 2)) + even_size n (e.p4 - e.p3) + 4) is in
    let all : message_size (edition_of m) (parts_in (parts m e.p1 e.p2 e.p3 e.p4)) ≡ e.p2 + (7 + 2 * ((e.p3 - (e.p2 + 7)) / 2)) + (e.p4 - e.p3) + 4 = sizes m s e ∙ same in
    omega (arith, all, e.third.least_long, e.fourth.least_long, e.fourth.three_long, e.last)

-- the length in edition 3
sizes-3 : (m : List ℕ) (s : Sections) (e : Ended m s) → edition_of m ≡ 3 → message_size (edition_of m) (parts_in (parts m e.p1 e.p2 e.p3 e.p4)) ≡ length m + (e.p3 - e.p2) % 2 + (e.p4 - e.p3) % 2
sizes-3 m s e is =
    let d = (e.p3 - (e.p2 + 7)) / 2 in
    let k = e.p4 - e.p3 in
    let all : message_size (edition_of m) (parts_in (parts m e.p1 e.p2 e.p3 e.p4)) ≡ e.p2 + (7 + 2 * d + (7 + 2 * d) % 2) + (k + k % 2) + 4 =
    sizes m s e ∙ ap (λ n. e.p2 + even_size n (7 + 2 * d) + even_size n k + 4) is
    ∙ ap (λ n. e.p2 + n + even_size 3 k + 4) (even-3 (7 + 2 * d)) ∙ ap (λ n. e.p2 + (7 + 2 * d + (7 + 2 * d) % 2) + n + 4) (even-3 k) in
    let odd : 7 + 2 * d + (7 + 2 * d) % 2 ≡ (e.p3 - e.p2) + (e.p3 - e.p2) % 2 = omega (arith, e.third.least_long) in
    omega (arith, all, odd, e.third.least_long, e.fourth.least_long, e.fourth.three_long, e.last)

-- A rewritten message is no longer than the original, except for the octets that make its sections
-- even.
pub no-longer : (m : List ℕ) (s : Sections) → sections_of m ≡ Ok s → message_size s.head.edition (parts_in s) ≤ length m + max_extra_octets s.head.edition
no-longer m s is =
    let e = sections-ended m s is in
    rw e.is (edition-cases (edition_of m) e.edition
    (λ is. let l : max_extra_octets (edition_of m) ≡ 2 = cc in omega (arith, sizes-3 m s e is, l))
    (λ is. omega (arith, sizes-4 m s e is)))

-- The rewritten message is not too long, either.
no-odd : (m : List ℕ) (p2 p3 p4 : ℕ) → edition_of m ≡ 3 → is_long_edition_3 m p2 p3 p4 ≡ false → length m ≤ max_octets → length m + (p3 - p2) % 2 + (p4 - p3) % 2 ≤ max_octets
no-odd m p2 p3 p4 is short few = grind arith

pub not-too-long : (m : List ℕ) (s : Sections) → sections_of m ≡ Ok s → length m ≤ max_octets → message_size s.head.edition (parts_in s) ≤ max_octets
not-too-long m s is few =
    let e = sections-ended m s is in
    rw e.is (edition-cases (edition_of m) e.edition
    (λ is. omega (arith, sizes-3 m s e is, no-odd m e.p2 e.p3 e.p4 is e.short few))
    (λ is. omega (arith, sizes-4 m s e is)))

-- n octets from index `a` on
octets_from : ℕ → ℕ → List ℕ → List ℕ
octets_from zero a m = []
octets_from (suc n) a m = get_or m a 0 ∷ octets_from n (a + 1) m

slice-octets : (n a : ℕ) (m : List ℕ) → a + n ≤ length m → take n (drop a m) ≡ octets_from n a m
unfolding octets_from
slice-octets zero a m within = refl
slice-octets (suc n) a m within =
    let e : drop a m ≡ get_or m a 0 ∷ drop (suc a) m = drop-cons m a 0 (omega arith) in
    let s : suc a ≡ a + 1 = omega arith in
    ap (take (suc n)) e ∙ ap (λ l. get_or m a 0 ∷ l) (ap (λ k. take n (drop k m)) s ∙ slice-octets n (a + 1) m (omega arith))

slice-parts : (m : List ℕ) (a b c : ℕ) → a ≤ b → b ≤ c → slice_range m a c ≡ slice_range m a b ++ slice_range m b c
slice-parts m a b c low high =
    let e : c - a ≡ (b - a) + (c - b) = omega arith in
    search (rules, take-add, drop-twice)

-- the first n octets of a slice, and the others
slice-begins : (n : ℕ) (m : List ℕ) (a c : ℕ) → a + n ≤ c → c ≤ length m → slice_range m a c ≡ octets_from n a m ++ slice_range m (a + n) c
slice-begins n m a c fits within =
    let e : a + n - a ≡ n = omega arith in
    cc (slice-parts m a (a + n) c (omega arith) fits, slice-octets n a m (omega arith))

-- A number that was read from three octets, or from two, is written as these octets.
three-back : (a b c : ℕ) → a < 256 → b < 256 → c < 256 → three_octets (65536 * a + 256 * b + c) ≡ a ∷ b ∷ c ∷ []
three-back a b c la lb lc = grind arith

two-back : (a b : ℕ) → b < 256 → two_octets (256 * a + b) ≡ a ∷ b ∷ []
two-back a b lb = grind arith

words-back : (m : List ℕ) → All (λ octet. octet < 256) m → length m % 2 ≡ 0 → octets_of_words (words m) ≡ m
words-back [] small even = refl
words-back (a ∷ []) small even = absurd (omega (arith, even))
words-back (a ∷ b ∷ m) small even =
    let lb : b < 256 = small 1 0 (omega arith) in
    let x : (256 * a + b) / 256 ≡ a = omega arith in
    let y : (256 * a + b) % 256 ≡ b = omega arith in
    rw (x, y) (ap (λ l. a ∷ b ∷ l) (words-back m (λ k d within. small (suc (suc k)) d (omega (arith, within))) (omega (arith, even))))

-- the same, with a zero octet left over
words-back-odd : (m : List ℕ) → All (λ octet. octet < 256) m → length m % 2 ≡ 1 → get_or m (length m - 1) 0 ≡ 0 → octets_of_words (words m) ++ 0 ∷ [] ≡ m
words-back-odd [] small odd last = absurd (omega (arith, odd))
words-back-odd (a ∷ []) small odd last = cc
words-back-odd (a ∷ b ∷ m) small odd last =
    let lb : b < 256 = small 1 0 (omega arith) in
    let x : (256 * a + b) / 256 ≡ a = omega arith in
    let y : (256 * a + b) % 256 ≡ b = omega arith in
    let some : 1 ≤ length m = omega (arith, odd) in
    let n : length (a ∷ b ∷ m) - 1 ≡ suc (suc (length m - 1)) = omega (arith, some) in
    let end : get_or m (length m - 1) 0 ≡ 0 = sym (ap (λ i. get_or (a ∷ b ∷ m) i 0) n) ∙ last in
    rw (x, y) (ap (λ l. a ∷ b ∷ l) (words-back-odd m (λ k d within. small (suc (suc k)) d (omega (arith, within))) (omega (arith, odd)) end))

flag-back : (b : Bool) (n : ℕ) → nat_le 128 n ≡ b → n < 256 → n % 128 ≡ 0 → (if b then 128 else 0) ≡ n
flag-back true n is small zero' = let h : 128 ≤ n = grind (arith, nat_tests, is) in omega arith
flag-back false n is small zero' = let h : n < 128 = grind (arith, nat_tests, is) in omega arith

flags-back : (o c : Bool) (n : ℕ) → nat_le 128 n ≡ o → nat_le 64 (n % 128) ≡ c → n < 256 → n % 64 ≡ 0 → data_flags o c ≡ n
flags-back o c n io ic small zero' = search rules

three-at : (m : List ℕ) (p : ℕ) → octets_from 3 p m ≡ get_or m p 0 ∷ get_or m (p + 1) 0 ∷ get_or m (p + 2) 0 ∷ []
unfolding octets_from
three-at m p = let e : p + 1 + 1 ≡ p + 2 = omega arith in cc

four-at : (m : List ℕ) (p : ℕ) → octets_from 4 p m ≡ get_or m p 0 ∷ get_or m (p + 1) 0 ∷ get_or m (p + 2) 0 ∷ get_or m (p + 3) 0 ∷ []
unfolding octets_from
four-at m p = let e : p + 1 + 1 ≡ p + 2 = omega arith in let f : p + 1 + 1 + 1 ≡ p + 3 = omega arith in cc

seven-at : (m : List ℕ) (p : ℕ) → octets_from 7 p m
    ≡ get_or m p 0 ∷ get_or m (p + 1) 0 ∷ get_or m (p + 2) 0 ∷ get_or m (p + 3) 0 ∷ get_or m (p + 4) 0 ∷ get_or m (p + 4 + 1) 0 ∷ get_or m (p + 6) 0 ∷ []
unfolding octets_from
seven-at m p = grind arith

module _ (m : List ℕ) (small : All (λ octet. octet < 256) m) where
  -- the octets of a declared length
  length-back : (p n : ℕ) → p + 3 ≤ length m → n ≡ u24_at m p → three_octets n ≡ get_or m p 0 ∷ get_or m (p + 1) 0 ∷ get_or m (p + 2) 0 ∷ []
  length-back p n within is =
      ap three_octets is ∙ three-back (get_or m p 0) (get_or m (p + 1) 0) (get_or m (p + 2) 0) (small p 0 (omega arith)) (small (p + 1) 0 (omega arith)) (small (p + 2) 0 (omega arith))

  word-back : (p : ℕ) → p + 2 ≤ length m → two_octets (u16_at m p) ≡ get_or m p 0 ∷ get_or m (p + 1) 0 ∷ []
  word-back p within = omega (arith, two-back)

  -- a section that consists of its length, a reserved octet and its content
  content-back : (p q : ℕ) → p + 4 ≤ q → q ≤ length m → q ≡ p + u24_at m p → get_or m (p + 3) 0 ≡ 0 → section4_octets (slice_range m (p + 4) q) ≡ slice_range m p q
  content-back p q fits within long reserved = grind (arith, common_steps, reserved, four-at m p, slice-begins 4 m p q fits within)

  second-back : (b : Bool) (p q : ℕ) → q ≤ length m → (b ≡ true → (p + 4 ≤ q) × (q ≡ p + u24_at m p) × (get_or m (p + 3) 0 ≡ 0)) → (b ≡ false → q ≡ p)
      → section2_octets (if b then Some (slice_range m (p + 4) q) else None) ≡ slice_range m p q
  second-back b p q within there absent = search (rules, content-back)

  some-back : (b : Bool) (x : List ℕ) → is_some (if b then Some x else None) ≡ b
  some-back true x = refl
  some-back false x = refl

  -- section 1 after its length
  written : (centre subcentre year : List ℕ) (flag : ℕ) → List ℕ
  written centre subcentre year flag = get_or m 11 0 ∷ centre ++ subcentre ++ get_or m 16 0 ∷ flag ∷ get_or m 18 0 ∷ get_or m 19 0 ∷ get_or m 20 0 ∷ get_or m 21 0 ∷ get_or m 22 0 ∷ year
      ++ get_or m 25 0 ∷ get_or m 26 0 ∷ get_or m 27 0 ∷ get_or m 28 0 ∷ get_or m 29 0 ∷ []

  head-written : (b : Bool) → octets_4 (head_in 4 m) (if b then 128 else 0) ≡ written (two_octets (u16_at m 12)) (two_octets (u16_at m 14)) (two_octets (u16_at m 23)) (if b then 128 else 0)
  unfolding written
  head-written b = refl

  octets-written : octets_from 19 11 m ≡ written (get_or m 12 0 ∷ get_or m 13 0 ∷ []) (get_or m 14 0 ∷ get_or m 15 0 ∷ []) (get_or m 23 0 ∷ get_or m 24 0 ∷ []) (get_or m 17 0)
  unfolding written octets_from
  octets-written = refl

  head-back-4 : (b : Bool) → 30 ≤ length m → nat_le 128 (get_or m 17 0) ≡ b → get_or m 17 0 % 128 ≡ 0 → octets_4 (head_in 4 m) (if b then 128 else 0) ≡ octets_from 19 11 m
  head-back-4 b long is reserved = search (rules, word-back, head-written, octets-written)

  written-3 : (flag : ℕ) → List ℕ
  written-3 flag = get_or m 11 0 ∷ get_or m 12 0 ∷ get_or m 13 0 ∷ get_or m 14 0 ∷ flag ∷ get_or m 16 0 ∷ get_or m 17 0 ∷ get_or m 18 0 ∷ get_or m 19 0 ∷ get_or m 20 0
      ∷ get_or m 21 0 ∷ get_or m 22 0 ∷ get_or m 23 0 ∷ get_or m 24 0 ∷ []

  head-written-3 : (b : Bool) → octets_3 (head_in 3 m) (if b then 128 else 0) ≡ written-3 (if b then 128 else 0)
  unfolding written-3
  head-written-3 b = refl

  octets-written-3 : octets_from 14 11 m ≡ written-3 (get_or m 15 0)
  unfolding written-3 octets_from
  octets-written-3 = refl

  head-back-3 : (b : Bool) → 25 ≤ length m → nat_le 128 (get_or m 15 0) ≡ b → get_or m 15 0 % 128 ≡ 0 → octets_3 (head_in 3 m) (if b then 128 else 0) ≡ octets_from 14 11 m
  head-back-3 b long is reserved =
      head-written-3 b ∙ ap written-3 (flag-back b (get_or m 15 0) is (small 15 0 (omega arith)) reserved) ∙ sym octets-written-3

  head-back : (b : Bool) → is_edition (edition_of m) ≡ true → 8 + min_section_1 (edition_of m) ≤ length m → has_section2 m ≡ b → flags_of m % 128 ≡ 0
      → head_octets (head_of m) b ≡ octets_from (min_section_1 (edition_of m) - 3) 11 m
  unfolding min_section_1
  head-back b known long is reserved =
      let flags = if b then 128 else 0 in
      let F : ℕ → ℕ = λ n. octet_at m (if n == 3 then 8 else 10) in
      let H : ℕ → Head = λ n. head_in n m in
      let P : ℕ → Type 0 = λ n. 8 + min_section_1 n ≤ length m → nat_le 128 (F n) ≡ b → F n % 128 ≡ 0
      → (if n == 3 then octets_3 (H n) flags else octets_4 (H n) flags) ≡ octets_from (min_section_1 n - 3) 11 m in
      edition-cases (edition_of m) known
      (λ e. subst P (sym e) (head-back-3 b) long is reserved)
      (λ e. subst P (sym e) (head-back-4 b) long is reserved)

  first-back : (b : Bool) (p : ℕ) → is_edition (edition_of m) ≡ true → 8 + min_section_1 (edition_of m) ≤ p → p ≤ length m → p ≡ 8 + u24_at m 8 → has_section2 m ≡ b → flags_of m % 128 ≡ 0
      → section1_octets (head_of m) (slice_range m (8 + min_section_1 (edition_of m)) p) b ≡ slice_range m 8 p
  first-back b p known fits within long is reserved =
      let k = min_section_1 (edition_of m) - 3 in
      let some = least-section-1 (edition_of m) in
      let from = 8 + min_section_1 (edition_of m) in
      let x = slice_range m from p in
      let n : min_section_1 (edition_of m) + length x ≡ u24_at m 8 = omega (arith, slice-long m from p within, long) in
      let width : from - 11 ≡ k = omega (arith, some) in
      let part : slice_range m 11 from ≡ octets_from k 11 m = ap (λ j. take j (drop 11 m)) width ∙ slice-octets k 11 m (omega (arith, some)) in
      cc (
        length-back 8 (min_section_1 (edition_of m) + length x) (omega arith) n ∙ sym (three-at m 8),
        head-back b known (omega arith) is reserved,
        slice-octets 3 8 m (omega (arith, some)),
        part,
        slice-parts m 11 from p (omega (arith, some)) fits,
        slice-parts m 8 11 p (omega arith) (omega (arith, some)),
      )

  -- the octets of the descriptors, and in edition 3 the octet left over
  content-words : (p q : ℕ) → is_edition (edition_of m) ≡ true → p + 7 ≤ q → q ≤ length m → q ≡ p + u24_at m p → (edition_of m ≡ 4 → u24_at m p % 2 ≡ 1) → (edition_of m ≡ 3 → u24_at m p % 2 ≡ 0)
      → (edition_of m ≡ 3 → get_or m (q - 1) 0 ≡ 0) → with_even_length (edition_of m) 7 (octets_of_words (words (slice_range m (p + 7) q))) ≡ slice_range m (p + 7) q
  content-words p q known fits within long odd even left_over =
      let x = slice_range m (p + 7) q in
      let lx = slice-long m (p + 7) q within in
      let small_x : All (λ octet. octet < 256) x = grind (arith, common_steps) in
      let w = octets_of_words (words x) in
      let P : ℕ → Type 0 = λ n. with_even_length n 7 w ≡ x in
      edition-cases (edition_of m) known
      (λ e.
      let odd_x : length x % 2 ≡ 1 = omega (arith, lx, long, even e, fits) in
      let lw : length w ≡ 2 * (length x / 2) = length-octets_of_words (words x) ∙ ap (λ n. 2 * n) (length-words x) in
      let more : ((7 + length w) % 2 == 1) ≡ true = ap (λ n. n == 1) (by-odd (length w) (length x / 2) lw) in
      let last : get_or x (length x - 1) 0 ≡ 0 = last-of (p + 7) q (omega (arith, lx, odd_x)) within ∙ left_over e in
      subst P (sym e) (ap (λ b. if b then w ++ 0 ∷ [] else w) more ∙ words-back-odd x small_x odd_x last))
      (λ e. subst P (sym e) (words-back x small_x (omega (arith, lx, long, odd e, fits))))
    where
      by-odd : (n k : ℕ) → n ≡ 2 * k → (7 + n) % 2 ≡ 1
      by-odd n k is = omega (arith, is)

      last-of : (a b : ℕ) → a < b → b ≤ length m → get_or (slice_range m a b) (length (slice_range m a b) - 1) 0 ≡ get_or m (b - 1) 0
      last-of a b some within =
          let i = b - a - 1 in
          let l : length (slice_range m a b) - 1 ≡ i = ap (λ n. n - 1) (slice-long m a b within) in
          let k : a + i ≡ b - 1 = omega (arith, some) in
          ap (λ n. get_or (slice_range m a b) n 0) l ∙ get_or-take (b - a) (drop a m) i 0 (omega (arith, some)) ∙ get_or-drop a m i 0 ∙ ap (λ n. get_or m n 0) k

  third-back : (content : List ℕ) (p q : ℕ) → p + 7 ≤ q → q ≤ length m → q ≡ p + u24_at m p → content ≡ slice_range m (p + 7) q → get_or m (p + 3) 0 ≡ 0 → get_or m (p + 6) 0 % 64 ≡ 0
      → section3_octets content (u16_at m (p + 4)) (data_flags (nat_le 128 (get_or m (p + 6) 0)) (nat_le 64 (get_or m (p + 6) 0 % 128))) ≡ slice_range m p q
  third-back content p q fits within long is reserved flags =
      let lx = slice-long m (p + 7) q within in
      let n : 7 + length content ≡ u24_at m p = omega (arith, lx, long, ap length is) in
      let f = flags-back (nat_le 128 (get_or m (p + 6) 0)) (nat_le 64 (get_or m (p + 6) 0 % 128)) (get_or m (p + 6) 0) refl refl (small (p + 6) 0 (omega arith)) flags in
      cc (length-back p (7 + length content) (omega arith) n, reserved, word-back (p + 4) (omega arith), f, is, seven-at m p, slice-begins 7 m p q fits within)

-- the first eight octets
prefix-back : (m : List ℕ) → All (λ octet. octet < 256) m → 8 ≤ length m → take 4 m ≡ codes "BUFR" → (n : ℕ) → n ≡ u24_at m 4 → section0_octets n (get_or m 7 0) ≡ take 8 m
prefix-back m small long word n is = grind arith

-- the start of sections 2, 3 and 4
module _ (m : List ℕ) (s : Sections) (e : Ended m s) where
  begins2 : e.p1 ≡ section2_begins m
  begins2 = e.first.long

  starts_with_bufr : (b : Bool) → has_section2 m ≡ b → e.p2 ≡ (if b then section2_begins m + u24_at m (section2_begins m) else section2_begins m)
  starts_with_bufr true is = (e.second is).long ∙ ap (λ p. p + u24_at m p) begins2
  starts_with_bufr false is = e.no_second is ∙ begins2

  begins3 : e.p2 ≡ section3_begins m
  begins3 = starts_with_bufr (has_section2 m) refl

  begins4 : e.p3 ≡ section4_begins m
  begins4 = rw (e.third.long, begins3)

-- A plain message, written again, has the same octets.
module _ (m : List ℕ) (plain : IsPlain m) (s : Sections) (e : Ended m s) where
  place2 : e.p1 ≡ section2_begins m
  place2 = begins2 m s e

  at3 : e.p2 ≡ section3_begins m
  at3 = begins3 m s e

  at4 : e.p3 ≡ section4_begins m
  at4 = begins4 m s e

  known : is_edition (edition_of m) ≡ true
  known = e.edition

  order : (8 ≤ e.p1) × (e.p1 ≤ e.p2) × (e.p2 + 7 ≤ e.p3) × (e.p3 + 4 ≤ e.p4) × (e.p4 + 4 ≡ length m)
  order =
      let second : e.p1 ≤ e.p2 = elim (cases_Bool (has_section2 m)) [ inl there ↦ omega (arith, (e.second there).least_long) | inr absent ↦ omega (arith, e.no_second absent) ] in
      (omega (arith, e.first.least_long), second, e.third.least_long, e.fourth.least_long, omega (arith, e.fourth.three_long, e.last))

  size : message_size (edition_of m) (parts_in (parts m e.p1 e.p2 e.p3 e.p4)) ≡ u24_at m 4
  size =
      edition-cases (edition_of m) known
      (λ is.
      let P : ℕ → Type 0 = λ p. u24_at m p % 2 ≡ 0 in
      let even3 : u24_at m e.p2 % 2 ≡ 0 = subst P (sym at3) (plain.even3 is) in
      let even4 : u24_at m e.p3 % 2 ≡ 0 = subst P (sym at4) (plain.even4 is) in
      omega (arith, even3, even4, e.third.long, e.fourth.long, sizes-3 m s e is, plain.size))
      (λ is.
      let odd : u24_at m e.p2 % 2 ≡ 1 = rw at3 (plain.whole is) in
      omega (arith, sizes-4 m s e is, plain.size))

  -- In edition 3, section 4 is even.
  payload : with_even_length (edition_of m) 4 (slice_range m (e.p3 + 4) e.p4) ≡ slice_range m (e.p3 + 4) e.p4
  payload =
      let x = slice_range m (e.p3 + 4) e.p4 in
      let P : ℕ → Type 0 = λ n. with_even_length n 4 x ≡ x in
      edition-cases (edition_of m) known
      (λ is.
      let even4 : u24_at m e.p3 % 2 ≡ 0 = rw at4 (plain.even4 is) in
      let n : (4 + length x) % 2 ≡ 0 = omega (arith, even4, e.fourth.long, slice-long m (e.p3 + 4) e.p4 (omega (arith, order)), order) in
      subst P (sym is) (ap (λ k. if k == 1 then x ++ 0 ∷ [] else x) n))
      (λ is. subst P (sym is) refl)

  pub again : message_octets (head_of m) (parts_in (parts m e.p1 e.p2 e.p3 e.p4)) ≡ m
  again =
      let b = has_section2 m in
      let o = order in
      let small = plain.octets in
      let w = words (slice_range m (e.p2 + 7) e.p3) in
      let R : ℕ → Type 0 = λ p. get_or m (p + 3) 0 ≡ 0 in
      let odd : edition_of m ≡ 4 → u24_at m e.p2 % 2 ≡ 1 = λ is. subst (λ p. u24_at m p % 2 ≡ 1) (sym at3) (plain.whole is) in
      let even : edition_of m ≡ 3 → u24_at m e.p2 % 2 ≡ 0 = search (rules, at3) in
      let s0 = prefix-back m small (omega (arith, o)) plain.word (message_size (edition_of m) (parts_in (parts m e.p1 e.p2 e.p3 e.p4))) size in
      let s1 = first-back m small b e.p1 known (omega (arith, e.first.least_long)) (omega (arith, o)) e.first.long refl plain.flags in
      let s2 = second-back m small b e.p1 e.p2 (omega (arith, o)) (λ there. ((e.second there).least_long, (e.second there).long, subst R (sym place2) (plain.section2 there))) e.no_second in
      let c3 = with_even_length (edition_of m) 7 (octets_of_words w) in
      let content = content-words m small e.p2 e.p3 known o.2 (omega (arith, o)) e.third.long odd even (λ is. rw at4 (plain.left_over is)) in
      let s3 = third-back m small c3 e.p2 e.p3 o.2 (omega (arith, o)) e.third.long content (subst R (sym at3) plain.section3) (rw at3 plain.data_flags) in
      let s4 = ap section4_octets payload ∙ content-back m small e.p3 e.p4 o.3 (omega (arith, o)) e.fourth.long (subst R (sym at4) plain.section4) in
      let end : drop e.p4 m ≡ codes "7777" = ap (λ n. drop n m) e.last ∙ plain.end in
      let h = some-back m small b (slice_range m (e.p1 + 4) e.p2) in
      let t3 = section3_octets c3 (u16_at m (e.p2 + 4)) (data_flags (nat_le 128 (get_or m (e.p2 + 6) 0)) (nat_le 64 (get_or m (e.p2 + 6) 0 % 128))) in
      let t4 = section4_octets (with_even_length (edition_of m) 4 (slice_range m (e.p3 + 4) e.p4)) in
      let t2 = section2_octets (if b then Some (slice_range m (e.p1 + 4) e.p2) else None) in
      let t1 : Bool → List ℕ = λ x. section1_octets (head_of m) (slice_range m (8 + min_section_1 (edition_of m)) e.p1) x in
      let back : t1 (is_some (if b then Some (slice_range m (e.p1 + 4) e.p2) else None)) ++ (t2 ++ (t3 ++ (t4 ++ codes "7777"))) ≡ drop 8 m =
      ap (λ x. t1 x ++ (t2 ++ (t3 ++ (t4 ++ codes "7777")))) h
      ∙ ap (λ l. l ++ (t2 ++ (t3 ++ (t4 ++ codes "7777")))) s1
      ∙ ap (λ l. slice_range m 8 e.p1 ++ (l ++ (t3 ++ (t4 ++ codes "7777")))) s2
      ∙ ap (λ l. slice_range m 8 e.p1 ++ (slice_range m e.p1 e.p2 ++ (l ++ (t4 ++ codes "7777")))) s3
      ∙ ap (λ l. slice_range m 8 e.p1 ++ (slice_range m e.p1 e.p2 ++ (slice_range m e.p2 e.p3 ++ (l ++ codes "7777")))) s4
      ∙ ap (λ l. slice_range m 8 e.p1 ++ (slice_range m e.p1 e.p2 ++ (slice_range m e.p2 e.p3 ++ (slice_range m e.p3 e.p4 ++ l)))) (sym end)
      ∙ ap (λ l. slice_range m 8 e.p1 ++ (slice_range m e.p1 e.p2 ++ (slice_range m e.p2 e.p3 ++ l))) (sym (drop_split m e.p3 e.p4 (omega (arith, o))))
      ∙ ap (λ l. slice_range m 8 e.p1 ++ (slice_range m e.p1 e.p2 ++ l)) (sym (drop_split m e.p2 e.p3 (omega (arith, o))))
      ∙ ap (λ l. slice_range m 8 e.p1 ++ l) (sym (drop_split m e.p1 e.p2 (omega (arith, o))))
      ∙ sym (drop_split m 8 e.p1 (omega (arith, o))) in
      grind (arith, common_steps, s0, back, take-append-drop 8 m)

-- If sections 3 and 4 are even, rewriting does not lengthen an edition 3 message, either.
pub least-when-even : (m : List ℕ) (s : Sections) → sections_of m ≡ Ok s → edition_of m ≡ 3 → u24_at m (section3_begins m) % 2 ≡ 0 → u24_at m (section4_begins m) % 2 ≡ 0
    → message_size s.head.edition (parts_in s) ≤ length m
least-when-even m s is edition even3 even4 =
    let e = sections-ended m s is in
    let third : u24_at m e.p2 % 2 ≡ 0 = rw (begins3, even3) in
    let fourth : u24_at m e.p3 % 2 ≡ 0 = ap (λ p. u24_at m p % 2) (begins4 m s e) ∙ even4 in
    rw e.is (omega (arith, third, fourth, e.third.long, e.fourth.long, sizes-3 m s e edition))

pub written-again : (m : List ℕ) (s : Sections) → IsPlain m → sections_of m ≡ Ok s → message_octets s.head (parts_in s) ≡ m
written-again m s plain is =
    let e = sections-ended m s is in
    rw e.is (again m plain s e)

-- ---- The values of a head, and the octets of its edition.

both : (a b : Bool) → a ≡ true → b ≡ true → (a && b) ≡ true
both a b h k = rw (h, k) refl

up : (a b : ℕ) → a ≤ b → nat_le a b ≡ true
up a b h = grind arith

-- ---- Heads that can be written.

pub writable-4 : (h : Head) → h.edition ≡ 4 → is_writable h ≡ true
writable-4 h e = cc

pub writable-3 : (h : Head) → h.edition ≡ 3 → h.centre ≤ 255 → h.subcentre ≤ 255 → h.year ≤ 255 → h.local_subcategory ≤ 0 → h.second ≤ 0 → is_writable h ≡ true
writable-3 h e c s y l z = grind arith

pub fitting-writable : (h : Head) → IsFitting h → is_writable h ≡ true
fitting-writable h fits =
    let bound : (i : ℕ) → h.edition ≡ 3 → slice_index (values_of h) i ≤ slice_index (greatest_values 3) i =
    λ i is. subst (λ n. slice_index (values_of h) i ≤ slice_index (greatest_values n) i) is (fits.fits i) in
    edition-cases h.edition fits.edition
    (λ is. writable-3 h is (bound 1 is) (bound 2 is) (bound 9 is) (bound 6 is) (bound 14 is))
    (λ is. writable-4 h is)

-- A property of the greatest values of both editions holds for any edition number.
pub by-third : (P : List ℕ → Type 0) (e : ℕ) → P (greatest_values 3) → P (greatest_values 4) → P (greatest_values e)
by-third P e of_3 of_4 = grind arith

-- ---- The head of a message.

-- Each number is at most the one at the same index.
abbrev pub AreAtMost : List ℕ → List ℕ → Type 0
AreAtMost [] ys = Unit {0}
AreAtMost (x ∷ xs) [] = ⊥
AreAtMost (x ∷ xs) (y ∷ ys) = (x ≤ y) × AreAtMost xs ys

pub at-most : (xs ys : List ℕ) → AreAtMost xs ys → (i : ℕ) → slice_index xs i ≤ slice_index ys i
at-most [] ys all i = omega arith
at-most (x ∷ xs) [] all i = absurd all
at-most (x ∷ xs) (y ∷ ys) all zero = all.0
at-most (x ∷ xs) (y ∷ ys) all (suc i) = at-most xs ys all.1 i

module _ (m : List ℕ) (small : (i : ℕ) → slice_index m i < 256) where
  byte : (i : ℕ) → slice_index m i ≤ 255
  byte i = omega arith

  two : (i : ℕ) → u16_at m i ≤ 65535
  two i = omega (arith, small i, small (i + 1))

  head-3-fits : AreAtMost (values_of (head_in 3 m)) (greatest_values 3)
  head-3-fits = omega arith

  head-4-fits : AreAtMost (values_of (head_in 4 m)) (greatest_values 4)
  head-4-fits = omega arith

  head-of-fits : is_edition (edition_of m) ≡ true → IsFitting (head_of m)
  head-of-fits known =
      edition-cases (edition_of m) known
      (λ e. let h : head_of m ≡ head_in 3 m = ap (λ n. head_in n m) e in
      subst IsFitting (sym h) (record {
        edition = known;
        fits = λ i. subst (λ n. slice_index (values_of (head_in 3 m)) i ≤ slice_index (greatest_values n) i) (sym e)
            (at-most (values_of (head_in 3 m)) (greatest_values 3) head-3-fits i);
      }))
      (λ e. subst IsFitting (sym (ap (λ n. head_in n m) e)) (record {
        edition = known;
        fits = λ i. subst (λ n. slice_index (values_of (head_in 4 m)) i ≤ slice_index (greatest_values n) i) (sym e)
            (at-most (values_of (head_in 4 m)) (greatest_values 4) head-4-fits i);
      }))

pub heads-fit : (m : List ℕ) (s : Sections) → ((i : ℕ) → slice_index m i < 256) → sections_of m ≡ Ok s → IsFitting s.head
heads-fit m s small is = let e = sections-ended m s is in rw (e.is) (head-of-fits m small e.edition)

-- ---- The octets of a head.

flag-small : (b : Bool) → (if b then 128 else 0) < 256
flag-small true = omega arith
flag-small false = omega arith

head-3 : (h : Head) (b : Bool) → ((i : ℕ) → slice_index (values_of h) i ≤ slice_index (greatest_values 3) i) → AllByRecursion (λ octet. octet < 256) (octets_3 h (if b then 128 else 0))
head-3 h b fits =
    let f0 = fits 0 in let f1 = fits 1 in let f2 = fits 2 in let f3 = fits 3 in let f4 = fits 4 in let f5 = fits 5 in let f6 = fits 7 in let f7 = fits 8 in let f8 = fits 9 in let f9 =
    fits 10 in let f10 = fits 11 in let f11 = fits 12 in let f12 = fits 13 in grind (arith, common_steps)

head-4 : (h : Head) (b : Bool) → ((i : ℕ) → slice_index (values_of h) i ≤ slice_index (greatest_values 4) i) → AllByRecursion (λ octet. octet < 256) (octets_4 h (if b then 128 else 0))
head-4 h b fits =
    let f0 = fits 0 in let f1 = fits 1 in let f2 = fits 2 in let f3 = fits 3 in let f4 = fits 4 in let f5 = fits 5 in let f6 = fits 6 in let f7 = fits 7 in let f8 = fits 8 in let f9 =
    fits 9 in let f10 = fits 10 in let f11 = fits 11 in let f12 = fits 12 in let f13 = fits 13 in let f14 = fits 14 in grind (arith, common_steps)

pub head-small : (h : Head) (b : Bool) → IsFitting h → AllByRecursion (λ octet. octet < 256) (head_octets h b)
head-small h b g =
    let flags = if b then 128 else 0 in
    let P : ℕ → Type 0 = λ n. ((i : ℕ) → slice_index (values_of h) i ≤ slice_index (greatest_values n) i)
    → AllByRecursion (λ octet. octet < 256) (if n == 3 then octets_3 h flags else octets_4 h flags) in
    edition-cases h.edition g.edition (λ e. subst P (sym e) (head-3 h b) g.fits) (λ e. subst P (sym e) (head-4 h b) g.fits)
