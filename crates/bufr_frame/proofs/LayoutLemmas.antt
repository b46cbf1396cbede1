-- A written message is read back, section by section.
use Rattle.std.proofs.lemmas.Grind.{common_steps}
use Rattle.std.proofs.Common.{◌≡◌, ◌==◌, ◌-◌, ℕ, true, false, List, Ok, length, refl, ◌∙◌, ◌+◌, ◌*◌, ◌/◌, ◌%◌, ◌≤◌, Bool, [], ◌∷◌, ◌++◌, ap, sym, subst, arith, Option, Some, None, get_or, codes, append_assoc, length-append, Err, append-nil, zero, suc, ◌<◌, slice_get, if◌then◌else◌, nat_lt, nat_le, is_some, slice_range, ◌&&◌, ◌||◌, Result, OnOk, option_map, rules}
use Rattle.bufr_frame.specs.Prelude.{is_edition, min_section_1, flags_of, octets_3, octets_4, head_octets, sections_of, section_end, parts, edition_of, has_section2, is_long_edition_3, head_of, Sections, is_padded, u24_at, u16_at, words, three_octets, two_octets, octets_of_words, MessageParts, message_octets, message_size, section0_octets, section1_octets, section2_octets, section3_octets, section4_octets, data_flags, sections_from, head_octets, even_size, with_even_length, with_pad_octet, is_writable, size_from, parts_of, Head}
use Rattle.std.proofs.lemmas.Bool.Decides.{nat_tests}
use Rattle.bufr_bits.specs.Prelude.{bits_of}

-- ---- The sections of a message, one after another.

-- the sections, if every step succeeds
pub sections-are : (m : List ℕ) (p1 p2 p3 p4 : ℕ) → is_edition (edition_of m) ≡ true → section_end m 1 (min_section_1 (edition_of m)) 8 ≡ Ok p1
    → (if has_section2 m then section_end m 2 4 p1 else Ok p1) ≡ Ok p2
    → section_end m 3 7 p2 ≡ Ok p3 → section_end m 4 4 p3 ≡ Ok p4 → p4 ≡ length m - 4 → is_long_edition_3 m p2 p3 p4 ≡ false → sections_of m ≡ Ok (parts m p1 p2 p3 p4)
unfolding sections_of
sections-are m p1 p2 p3 p4 edition a b c d last short = grind arith

-- The octets of a number represent it.
pub two-number : (n : ℕ) → 256 * (n / 256) + n % 256 ≡ n
two-number n = omega arith

div-div : (n : ℕ) → n / 65536 ≡ n / 256 / 256
div-div n = omega arith

pub three-number : (n : ℕ) → 65536 * (n / 65536) + 256 * (n / 256 % 256) + n % 256 ≡ n
three-number n = rw (div-div n) (omega arith)

pub words-octets : (ws : List ℕ) → words (octets_of_words ws) ≡ ws
words-octets [] = refl
words-octets (w ∷ ws) = rw (two-number w, words-octets ws) refl

pub length-octets_of_words : (ws : List ℕ) → length (octets_of_words ws) ≡ 2 * length ws
length-octets_of_words [] = refl
length-octets_of_words (w ∷ ws) = omega (arith, length-octets_of_words ws)

words-left-over : (ws : List ℕ) → words (octets_of_words ws ++ 0 ∷ []) ≡ ws
words-left-over [] = refl
words-left-over (w ∷ ws) = rw (two-number w, words-left-over ws) refl

-- A pad octet does not change the words of a section.
words-if : (b : Bool) (ws : List ℕ) → words (if b then octets_of_words ws ++ 0 ∷ [] else octets_of_words ws) ≡ ws
words-if true ws = words-left-over ws
words-if false ws = words-octets ws

pub words-evened : (edition prefix : ℕ) (ws : List ℕ) → words (with_even_length edition prefix (octets_of_words ws)) ≡ ws
words-evened edition prefix ws = words-if (is_padded edition (prefix + length (octets_of_words ws))) ws

-- the length of padded octets
length-padded : (b : Bool) (prefix : ℕ) (octets : List ℕ) → prefix + length (with_pad_octet b octets) ≡ (if b then prefix + length octets + 1 else prefix + length octets)
length-padded true prefix octets = omega (arith, length-append octets (0 ∷ []))
length-padded false prefix octets = refl

pub length-evened : (edition prefix : ℕ) (octets : List ℕ) → prefix + length (with_even_length edition prefix octets) ≡ even_size edition (prefix + length octets)
length-evened edition prefix octets = omega (arith, length-padded)

-- In edition 3, the remainder of the length divided by 2 is added.
pub even-3 : (n : ℕ) → even_size 3 n ≡ n + n % 2
even-3 n = grind arith

-- A length that was made even is not padded again.
pub even-stays : (edition n : ℕ) → is_padded edition (even_size edition n) ≡ false
even-stays edition n = search (rules, nat_tests)

-- Section 1 has at least 17 octets.
pub least-section-1 : (edition : ℕ) → 17 ≤ min_section_1 edition
unfolding min_section_1
least-section-1 edition = grind arith

-- the length of section 1, without local use
length-head : (h : Head) (optional : Bool) → 3 + length (head_octets h optional) ≡ min_section_1 h.edition
unfolding min_section_1
length-head h optional = grind arith

-- an index after a prefix
pub index-after : (prefix rest : List ℕ) (p k : ℕ) → p ≡ length prefix → get_or (prefix ++ rest) (p + k) 0 ≡ get_or rest k 0
index-after prefix rest p k is = grind (arith, common_steps)

pub range-after : (prefix x rest : List ℕ) (i j : ℕ) → i ≡ length prefix → j ≡ i + length x → slice_range (prefix ++ (x ++ rest)) i j ≡ x
range-after prefix x rest i j is to = grind (arith, common_steps)

-- the end of a section that declares its length
pub section-at : (m prefix rest : List ℕ) (k least p n : ℕ) → m ≡ prefix ++ (three_octets n ++ rest) → p ≡ length prefix → least ≤ n → 3 ≤ n → p + n + 4 ≤ length m
    → section_end m k least p ≡ Ok (p + n)
unfolding section_end
section-at m prefix rest k least p n is at least_n three_n within = grind (arith, common_steps)

second-at : (m prefix rest : List ℕ) (optional : Option (List ℕ)) (p : ℕ) → m ≡ prefix ++ (section2_octets optional ++ rest) → p ≡ length prefix → has_section2 m ≡ is_some optional
    → p + length (section2_octets optional) + 4 ≤ length m → (if has_section2 m then section_end m 2 4 p else Ok p) ≡ Ok (p + length (section2_octets optional))
second-at m prefix rest optional p is at has within = search (rules, section-at)

flag-test : (b : Bool) → nat_le 128 (if b then 128 else 0) ≡ b
flag-test true = refl
flag-test false = refl

-- the conditions under which a head can be written
or-by : {P : Type 0} (a b : Bool) → (a || b) ≡ true → (a ≡ true → P) → (b ≡ true → P) → P
or-by true b is first second = first refl
or-by false b is first second = second is

and-both : (a b : Bool) → (a && b) ≡ true → (a ≡ true) × (b ≡ true)
and-both true b is = (refl, is)
and-both false b is = absurd (cc)

equal : (a b : ℕ) → (a == b) ≡ true → a ≡ b
equal a b is = grind arith

none-fits : (n : ℕ) → nat_le n 0 ≡ true → n ≡ 0
none-fits n is = grind arith

-- A head that can be written is of edition 4, or of edition 3 without the values that edition 3
-- lacks.
pub by-edition : {P : Type 0} (h : Head) → is_writable h ≡ true → (h.edition ≡ 4 → P) → (h.edition ≡ 3 → h.local_subcategory ≡ 0 → h.second ≡ 0 → P) → P
by-edition h is four u24_at = grind (arith, or-by)

pub writable-edition : (h : Head) → is_writable h ≡ true → is_edition h.edition ≡ true
writable-edition h is = by-edition h is (λ e. ap is_edition e) (λ e l s. ap is_edition e)

observed-test : (o c : Bool) → nat_le 128 (data_flags o c) ≡ o
observed-test true true = refl
observed-test true false = refl
observed-test false true = refl
observed-test false false = refl

compressed-test : (o c : Bool) → nat_le 64 (data_flags o c % 128) ≡ c
compressed-test true true = refl
compressed-test true false = refl
compressed-test false true = refl
compressed-test false false = refl

-- the length of a message, from the lengths of its parts
pub message_size_is : (edition : ℕ) (p : MessageParts) → message_size edition p ≡ size_from edition (length p.local1) p.section2 (length p.descriptors) (length p.payload)
message_size_is edition p =
    let third = length-evened edition 7 (octets_of_words p.descriptors) ∙ ap (λ n. even_size edition (7 + n)) (length-octets_of_words p.descriptors) in
    omega (arith, third, length-evened edition 4 p.payload)

-- section 1, split after its length
first-split : (n : ℕ) (head local1 rest : List ℕ) → ((three_octets n ++ head) ++ local1) ++ rest ≡ three_octets n ++ ((head ++ local1) ++ rest)
first-split n head local1 rest = refl

-- Section 2 is read back.
second-part : (m prefix rest : List ℕ) (optional : Option (List ℕ)) (p q : ℕ) → m ≡ prefix ++ (section2_octets optional ++ rest) → p ≡ length prefix → q ≡ p + length (section2_octets optional)
    → has_section2 m ≡ is_some optional
    → (if has_section2 m then Some (slice_range m (p + 4) q) else None) ≡ optional
second-part m prefix rest None p q is at to has = rw has refl
second-part m prefix rest (Some octets) p q is at to has =
    let head = three_octets (4 + length octets) ++ 0 ∷ [] in
    let same : m ≡ (prefix ++ head) ++ (octets ++ rest) = simp (is, append_assoc) in
    let begin : p + 4 ≡ length (prefix ++ head) = omega (arith, length-append prefix head) in
    rw has (ap Some (ap (λ l. slice_range l (p + 4) q) same ∙ range-after (prefix ++ head) octets rest (p + 4) q begin (omega arith)))

-- Section 1 is read back.
module _ (h : Head) (optional : Bool) (size n : ℕ) (local1 rest : List ℕ) where
  abbrev flags : ℕ
  flags = if optional then 128 else 0

  -- the message, by its edition
  abbrev of_edition : (edition : ℕ) → List ℕ
  of_edition edition = section0_octets size edition ++ ((three_octets n ++ (if edition == 3 then octets_3 h flags else octets_4 h flags) ++ local1) ++ rest)

  flags-back : (is_writable h ≡ true) → flags_of (of_edition h.edition) ≡ flags
  flags-back is =
      let P : ℕ → Type 0 = λ e. flags_of (of_edition e) ≡ flags in
      by-edition h is (λ e. subst P (sym e) refl) (λ e l s. subst P (sym e) refl)

  head-same : (c s y : ℕ) → c ≡ h.centre → s ≡ h.subcentre → y ≡ h.year → (record h { centre = c; subcentre = s; year = y }) ≡ h
  head-same c s y a b d = rw (a, b, d)

  head-lacking : (l s : ℕ) → l ≡ h.local_subcategory → s ≡ h.second → (record h { local_subcategory = l; second = s }) ≡ h
  head-lacking l s a b = rw (a, b)

  pub head-back : (is_writable h ≡ true) → head_of (of_edition h.edition) ≡ h
  head-back is =
      let P : ℕ → Type 0 = λ e. head_of (of_edition e) ≡ (record h { edition = e }) in
      by-edition h is
      (λ e. subst P (sym e) (ap (λ (x : Head). record x { edition = 4 }) (head-same _ _ _ (two-number h.centre) (two-number h.subcentre) (two-number h.year))))
      (λ e l s. subst P (sym e) (ap (λ (x : Head). record x { edition = 3 }) (head-lacking 0 0 (sym l) (sym s))))

make : Head → List ℕ → Option (List ℕ) → List ℕ → ℕ → Bool → Bool → List ℕ → ℕ → Sections
make head local1 second descriptors subsets observed compressed payload size = record {
  head = head;
  local1 = local1;
  section2 = second;
  descriptors = descriptors;
  subsets = subsets;
  observed = observed;
  compressed = compressed;
  payload = payload;
  size = size;
}

make-same : (h h' : Head) (l l' : List ℕ) (o o' : Option (List ℕ)) (d d' : List ℕ) (n n' : ℕ) (b b' c c' : Bool) (p p' : List ℕ) (s s' : ℕ)
    → h ≡ h' → l ≡ l' → o ≡ o' → d ≡ d' → n ≡ n' → b ≡ b' → c ≡ c' → p ≡ p' → s ≡ s' → make h l o d n b c p s ≡ make h' l' o' d' n' b' c' p' s'
make-same h h' l l' o o' d d' n n' b b' c c' p p' s s' e1 e2 e3 e4 e5 e6 e7 e8 e9 = cc

parts-make : (m : List ℕ) (p1 p2 p3 p4 : ℕ) → parts m p1 p2 p3 p4 ≡ make (head_of m) (slice_range m (8 + min_section_1 (edition_of m)) p1)
    (if has_section2 m then Some (slice_range m (p1 + 4) p2) else None)
    (words (slice_range m (p2 + 7) p3)) (u16_at m (p2 + 4)) (nat_le 128 (get_or m (p2 + 6) 0)) (nat_le 64 (get_or m (p2 + 6) 0 % 128)) (slice_range m (p3 + 4) p4) (length m)
unfolding make
parts-make m p1 p2 p3 p4 = refl

made-sections : (h : Head) (p : MessageParts) → make h p.local1 p.section2 p.descriptors p.subsets p.observed p.compressed (with_even_length h.edition 4 p.payload) (message_size h.edition p)
    ≡ sections_from h p
unfolding make
made-sections h p = refl

-- A message with even sections is not too long.
not-long : (long third fourth : Bool) → third ≡ false → fourth ≡ false → (long && (third || fourth)) ≡ false
not-long false third fourth u24_at four = refl
not-long true third fourth u24_at four = rw (u24_at, four) refl

-- A message that is written from these parts has these sections.
pub read-back : (h : Head) (p : MessageParts) → is_writable h ≡ true → sections_of (message_octets h p) ≡ Ok (sections_from h p)
read-back h p writable =
    let m = message_octets h p in
    let edition = h.edition in
    let s0 = section0_octets (message_size edition p) edition in
    let s1 = section1_octets h p.local1 (is_some p.section2) in
    let s2 = section2_octets p.section2 in
    let flags = data_flags p.observed p.compressed in
    let c3 = with_even_length edition 7 (octets_of_words p.descriptors) in
    let c4 = with_even_length edition 4 p.payload in
    let s3 = section3_octets c3 p.subsets flags in
    let s4 = section4_octets c4 in
    let end = codes "7777" in
    let f2 = s0 ++ s1 in
    let f3 = f2 ++ s2 in
    let f4 = f3 ++ s3 in
    let at2 : m ≡ f2 ++ (s2 ++ (s3 ++ (s4 ++ end))) = sym (append_assoc s0 s1 (s2 ++ (s3 ++ (s4 ++ end)))) in
    let at3 : m ≡ f3 ++ (s3 ++ (s4 ++ end)) = at2 ∙ sym (append_assoc f2 s2 (s3 ++ (s4 ++ end))) in
    let at4 : m ≡ f4 ++ (s4 ++ end) = at3 ∙ sym (append_assoc f3 s3 (s4 ++ end)) in
    let least = min_section_1 edition in
    let ho = head_octets h (is_some p.section2) in
    let lh = length-head h (is_some p.section2) in
    let n1 = least + length p.local1 in
    let n2 = length (section2_octets p.section2) in
    let n3 = 7 + length c3 in
    let n4 = 4 + length c4 in
    let l0 : length s0 ≡ 8 = refl in
    let l1 : length s1 ≡ n1 = omega (arith, lh, length-append (three_octets n1 ++ ho) p.local1, length-append (three_octets n1) ho) in
    let l2 : length s2 ≡ n2 = refl in
    let l3 : length s3 ≡ n3 = omega arith in
    let l4 : length s4 ≡ n4 = omega arith in
    let k2 : 8 + n1 ≡ length f2 = omega (arith, length-append s0 s1, l1) in
    let k3 : 8 + n1 + n2 ≡ length f3 = omega (arith, length-append f2 s2, l2, k2) in
    let k4 : 8 + n1 + n2 + n3 ≡ length f4 = omega (arith, length-append f3 s3, l3, k3) in
    let lm : length m ≡ 8 + n1 + n2 + n3 + n4 + 4 = ap length at4 ∙ length-append f4 (s4 ++ end) ∙ omega (arith, length-append s4 end, k4, l4) in
    let p1 = 8 + n1 in
    let p2 = p1 + n2 in
    let p3 = p2 + n3 in
    let p4 = p3 + n4 in
    let known : is_edition (edition_of m) ≡ true = writable-edition h writable in
    let has : has_section2 m ≡ is_some p.section2 = rw (flags-back, flag-test) in
    let e1 : section_end m 1 (min_section_1 (edition_of m)) 8 ≡ Ok p1 =
    section-at m s0 ((ho ++ p.local1) ++ (s2 ++ (s3 ++ (s4 ++ end)))) 1 least 8 n1 (ap (λ l. s0 ++ l) (first-split n1 ho p.local1 (s2 ++ (s3 ++ (s4 ++ end))))) refl (omega arith) (omega (arith, lh))
    (omega (arith, lm)) in
    let e2 = second-at m f2 (s3 ++ (s4 ++ end)) p.section2 p1 at2 k2 has (omega (arith, lm)) in
    let e3 : section_end m 3 7 p2 ≡ Ok p3 = section-at m f3 ((0 ∷ two_octets p.subsets ++ flags ∷ c3) ++ (s4 ++ end)) 3 7 p2 n3 at3 k3 (omega arith) (omega arith) (omega (arith, lm)) in
    let e4 : section_end m 4 4 p3 ≡ Ok p4 = section-at m f4 ((0 ∷ c4) ++ end) 4 4 p3 n4 at4 k4 (omega arith) (omega arith) (omega (arith, lm)) in
    let last : p4 ≡ length m - 4 = omega (arith, lm) in
    let size3 : n3 ≡ even_size edition (7 + 2 * length p.descriptors) =
    length-evened edition 7 (octets_of_words p.descriptors) ∙ ap (λ n. even_size edition (7 + n)) (length-octets_of_words p.descriptors) in
    let size4 : n4 ≡ even_size edition (4 + length p.payload) = length-evened edition 4 p.payload in
    let third : p3 - p2 ≡ n3 = omega arith in
    let fourth : p4 - p3 ≡ n4 = omega arith in
    let short : is_long_edition_3 m p2 p3 p4 ≡ false = not-long (nat_lt 16777213 (length m)) (is_padded edition (p3 - p2)) (is_padded edition (p4 - p3))
    (ap (is_padded edition) (third ∙ size3) ∙ even-stays edition (7 + 2 * length p.descriptors))
    (ap (is_padded edition) (fourth ∙ size4) ∙ even-stays edition (4 + length p.payload)) in
    let front1 = s0 ++ (three_octets n1 ++ ho) in
    let same1 : m ≡ front1 ++ (p.local1 ++ (s2 ++ (s3 ++ (s4 ++ end)))) =
    ap (λ l. s0 ++ l) (append_assoc (three_octets n1 ++ ho) p.local1 (s2 ++ (s3 ++ (s4 ++ end)))) ∙ sym (append_assoc s0 (three_octets n1 ++ ho) (p.local1 ++ (s2 ++ (s3 ++ (s4 ++ end))))) in
    let begin1 : 8 + least ≡ length front1 = omega (arith, lh, length-append s0 (three_octets n1 ++ ho), length-append (three_octets n1) ho) in
    let local1 : slice_range m (8 + least) p1 ≡ p.local1 = ap (λ l. slice_range l (8 + least) p1) same1 ∙ range-after front1 p.local1 (s2 ++ (s3 ++ (s4 ++ end))) (8 + least) p1 begin1 (omega arith) in
    let head3 = three_octets n3 ++ 0 ∷ two_octets p.subsets ++ flags ∷ [] in
    let same3 : m ≡ (f3 ++ head3) ++ (c3 ++ (s4 ++ end)) = at3 ∙ sym (append_assoc f3 head3 (c3 ++ (s4 ++ end))) in
    let descriptors : slice_range m (p2 + 7) p3 ≡ c3 =
    ap (λ l. slice_range l (p2 + 7) p3) same3 ∙ range-after (f3 ++ head3) c3 (s4 ++ end) (p2 + 7) p3 (omega (arith, length-append f3 head3, k3)) (omega arith) in
    let behind3 : (k : ℕ) → get_or m (p2 + k) 0 ≡ get_or (s3 ++ (s4 ++ end)) k 0 = λ k. ap (λ l. get_or l (p2 + k) 0) at3 ∙ index-after f3 (s3 ++ (s4 ++ end)) p2 k k3 in
    let five : p2 + 4 + 1 ≡ p2 + 5 = omega arith in
    let subsets : u16_at m (p2 + 4) ≡ p.subsets = rw (five, behind3 4, behind3 5) (two-number p.subsets) in
    let head4 = three_octets n4 ++ 0 ∷ [] in
    let same4 : m ≡ (f4 ++ head4) ++ (c4 ++ end) = at4 ∙ sym (append_assoc f4 head4 (c4 ++ end)) in
    let payload : slice_range m (p3 + 4) p4 ≡ c4 =
    ap (λ l. slice_range l (p3 + 4) p4) same4 ∙ range-after (f4 ++ head4) c4 end (p3 + 4) p4 (omega (arith, length-append f4 head4, k4)) (omega arith) in
    let size : length m ≡ message_size edition p = omega (arith, lm, l2) in
    sections-are m p1 p2 p3 p4 known e1 e2 e3 e4 last short
    ∙ ap Ok (parts-make m p1 p2 p3 p4
    ∙ make-same (head_of m) h (slice_range m (8 + least) p1) p.local1 _ p.section2 (words (slice_range m (p2 + 7) p3)) p.descriptors (u16_at m (p2 + 4)) p.subsets _ p.observed _ p.compressed
    (slice_range m (p3 + 4) p4) c4 (length m) (message_size edition p)
    (head-back h (is_some p.section2) (message_size edition p) n1 p.local1 (s2 ++ (s3 ++ (s4 ++ end))) writable) local1 (second-part m f2 (s3 ++ (s4 ++ end)) p.section2 p1 p2 at2 k2 refl has)
    (ap words descriptors ∙ words-evened edition 7 p.descriptors) subsets (ap (nat_le 128) (behind3 6) ∙ observed-test p.observed p.compressed)
    (ap (λ n. nat_le 64 (n % 128)) (behind3 6) ∙ compressed-test p.observed p.compressed) payload size
    ∙ made-sections h p)

-- ---- Octets appended, part by part.

pub six-parts : (a b c d e f u v w x y z : List ℕ) → u ≡ a → v ≡ u ++ b → w ≡ v ++ c → x ≡ w ++ d → y ≡ x ++ e → z ≡ y ++ f → z ≡ a ++ (b ++ (c ++ (d ++ (e ++ f))))
six-parts a b c d e f u v w x y z hu hv hw hx hy hz = grind (arith, common_steps)

pub is_some-map : {X Y : Type 0} (f : X → Y) (o : Option X) → is_some o ≡ is_some (option_map f o)
is_some-map f (Some x) = refl
is_some-map f None = refl

-- the pad octet of octets that follow a prefix
padded-after : (b : Bool) (prefix octets : List ℕ) → with_pad_octet b (prefix ++ octets) ≡ prefix ++ with_pad_octet b octets
padded-after true prefix octets = append_assoc prefix octets (0 ∷ [])
padded-after false prefix octets = refl

-- section 3, as the code writes it
pub third : {X E : Type 0} (r : Result X E) (edition : ℕ) (words : List ℕ) (subsets flags n : ℕ) (b : Bool) (old one u16_at new : List ℕ)
    → n ≡ even_size edition (7 + 2 * length words) → b ≡ is_padded edition (7 + 2 * length words)
    → one ≡ old ++ three_octets n → u16_at ≡ (one ++ (0 ∷ two_octets subsets ++ flags ∷ [])) ++ octets_of_words words
    → OnOk r (new ≡ with_pad_octet b u16_at) → OnOk r (new ≡ old ++ section3_octets (with_even_length edition 7 (octets_of_words words)) subsets flags)
third (Err e) edition words subsets flags n b old one u16_at new size is p q last = tt
third (Ok x) edition words subsets flags n b old one u16_at new size is p q last = grind (arith, length-octets_of_words, length-evened, append_assoc)

-- ---- Sections that are made even.

-- ---- Their sizes.

least-by : (b : Bool) (n : ℕ) → n ≤ (if b then n + 1 else n)
least-by true n = omega arith
least-by false n = omega arith

pub even-least : (edition n : ℕ) → n ≤ even_size edition n
even-least edition n = least-by (is_padded edition n) n

pub even-mono : (edition n k : ℕ) → n ≤ k → even_size edition n ≤ even_size edition k
even-mono edition n k h = grind arith

-- A shorter payload does not make the message longer.
pub size-least : (edition : ℕ) (local1 : ℕ) (section2 : Option (List ℕ)) (descriptors n k most : ℕ) → n ≤ k → size_from edition local1 section2 descriptors k ≤ most
    → size_from edition local1 section2 descriptors n ≤ most
size-least edition local1 section2 descriptors n k most h g = omega (arith, even-mono edition (4 + n) (4 + k) (omega arith))

-- ---- Their octets.

-- A payload that is already even is written like the payload that it was made from.
pub written-even : (h : Head) (local1 : List ℕ) (section2 : Option (List ℕ)) (descriptors : List ℕ) (subsets : ℕ) (observed compressed : Bool) (payload : List ℕ)
    → message_octets h (parts_of local1 section2 descriptors subsets observed compressed (with_even_length h.edition 4 payload))
    ≡ message_octets h (parts_of local1 section2 descriptors subsets observed compressed payload)
written-even h local1 section2 descriptors subsets observed compressed payload = grind (arith, common_steps)

bits-append : (xs ys : List ℕ) → bits_of (xs ++ ys) ≡ bits_of xs ++ bits_of ys
unfolding bits_of
bits-append [] ys = refl
bits-append (x ∷ xs) ys = cc (bits-append xs ys)

-- The bits of a payload come before those of its pad octet.
bits-by : (b : Bool) (octets : List ℕ) → (tail : List Bool) × (bits_of (with_pad_octet b octets) ≡ bits_of octets ++ tail)
bits-by true octets = (bits_of (0 ∷ []), bits-append octets (0 ∷ []))
bits-by false octets = ([], sym (append-nil (bits_of octets)))

pub evened-bits : (edition prefix : ℕ) (octets : List ℕ) → (tail : List Bool) × (bits_of (with_even_length edition prefix octets) ≡ bits_of octets ++ tail)
evened-bits edition prefix octets = bits-by (is_padded edition (prefix + length octets)) octets

-- ---- The words of octets, one by one.

two-after : (a b i : ℕ) (m : List ℕ) → u16_at (a ∷ b ∷ m) (2 * suc i) ≡ u16_at m (2 * i)
two-after a b i m = grind arith

-- There is no word after the last whole one.
pub words-none : (m : List ℕ) (i : ℕ) → length m < 2 * i + 2 → slice_get (words m) i ≡ None
words-none [] i past = refl
words-none (a ∷ []) i past = refl
words-none (a ∷ b ∷ m) zero past = absurd (omega arith)
words-none (a ∷ b ∷ m) (suc i) past = words-none m i (omega arith)

-- Word i consists of octets 2 * i and 2 * i + 1.
pub words-some : (m : List ℕ) (i : ℕ) → 2 * i + 2 ≤ length m → slice_get (words m) i ≡ Some (u16_at m (2 * i))
words-some [] i within = absurd (omega arith)
words-some (a ∷ []) i within = absurd (omega arith)
words-some (a ∷ b ∷ m) zero within = refl
words-some (a ∷ b ∷ m) (suc i) within = words-some m i (omega arith) ∙ ap Some (sym (two-after a b i m))

-- Each word has two octets.
pub length-words : (m : List ℕ) → length (words m) ≡ length m / 2
length-words [] = refl
length-words (a ∷ []) = refl
length-words (a ∷ b ∷ m) = omega (arith, length-words m)
