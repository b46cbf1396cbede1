-- Fields and texts that are read from bits, and readings of plain data.
use Rattle.std.proofs.lemmas.Grind.{common_steps}
use Rattle.std.proofs.Common.{◌≡◌, ℕ, suc, ◌+◌, ◌-◌, ◌*◌, ◌^◌, ◌<◌, ◌≤◌, Bool, true, false, List, ◌∷◌, length, take, drop, Ok, Err, refl, sym, ◌∙◌, ap, subst, arith, ℤ, pos, neg_ℤ, zero, ◌/◌, ◌%◌, ◌++◌, set, add-one, ◌==◌, if◌then◌else◌, slice_index, slice_range, Option, Some, None, option_map, SomeIff, IfSome, [], rules}
use Rattle.std.proofs.lemmas.Bool.{le-ltb}
use Rattle.std.proofs.lemmas.List.{length-drop, drop-drop, drop-take, take-take, length-set, length-take-le, take_more_set}
use Rattle.std.proofs.Math.Nat.{pow-le-pow_right}
use Rattle.bufr_bits.specs.Prelude.{bits_of, bits_at, number_of, are_all_ones}
use Rattle.bufr_bits.proofs.BitLemmas.{length-bits_of, length-bits_at, are_all_ones-number, drop-bits_of, take-bits_of, number_of_middle, number-bits_of_octet}
use Rattle.bufr_tables.specs.Prelude.{is_character}
use Rattle.std.proofs.Common.{◌&&◌}
use Rattle.bufr_walk.specs.Prelude.{number, uncounted, counted_item, PaysBits}
use Rattle.bufr_walk.specs.Prelude.{plain, Kind, Taken, Role, is_reference, FieldSpec, IsSpec, HasRole, HasWidth, answer_of, content_in, signed_by, plain_field, octets_in, Cursor, rest_of, past, IsTaken, data_in, data_of, read_by, Read, course_of, max_values, IsStoredReading, coding_of, numbers, texts, missing, text, reference}
use Rattle.bufr_walk.specs.Pass.{passes_apart, stop_of, ReadsData, AnswersReading, reading_of}
use Rattle.bufr_frame.specs.Prelude.{Sections}
use Rattle.bufr_tables.specs.Prelude.{Row, Tree}
use Rattle.bufr_tables.specs.declared.table_b.Kind.TheVariants as kind
use Rattle.bufr_walk.specs.declared.spec.Role.TheVariants as role
use Rattle.bufr_walk.specs.declared.spec.Taken.TheVariants as taken
use Rattle.bufr_walk.specs.declared.reading.StoredItems.TheVariants as kept
use Rattle.bufr_walk.specs.declared.fault.DataFault.TheVariants as wrong

pub numeric_width : (k : Kind) (w : ℕ) → k ≡ kind.Numeric → HasWidth k w → w ≤ 63
numeric_width kind.Character w e h = absurd cc
numeric_width kind.Coded w e h = h.1
numeric_width kind.Numeric w e h = h.1

pub some_width : (a : FieldSpec) → IsSpec a → 1 ≤ a.width
some_width a h = grind arith

pub factor_width : (a : FieldSpec) → IsSpec a → a.role ≡ role.Factor → a.width ≤ 63
factor_width a h e = let r : HasRole role.Factor a.kind a.may_be_missing = subst (λ x. HasRole x a.kind a.may_be_missing) e h.role in numeric_width a.kind a.width r.0 h.width

pub reference_width : (a : FieldSpec) → IsSpec a → a.role ≡ role.Reference → a.width ≤ 63
reference_width a h e = let r : HasRole role.Reference a.kind a.may_be_missing = subst (λ x. HasRole x a.kind a.may_be_missing) e h.role in numeric_width a.kind a.width r.0 h.width

pub is_reference_role : (r : Role) → is_reference r ≡ true → r ≡ role.Reference
is_reference_role role.Element e = absurd cc
is_reference_role role.Inserted e = absurd cc
is_reference_role role.Factor e = absurd cc
is_reference_role role.Reference e = refl

-- the coding of a number, and of a text
pub number_coding : (a : FieldSpec) → is_character a.kind ≡ false → is_reference a.role ≡ false → coding_of a ≡ numbers a.width a.may_be_missing
number_coding a e h = grind arith

pub text_coding : (a : FieldSpec) → is_character a.kind ≡ true → is_reference a.role ≡ false → coding_of a ≡ texts (a.width / 8)
text_coding a e h = grind arith

-- the content of a number, a text, and a redefined reference
pub number_said : (a : FieldSpec) (bits : List Bool) → is_character a.kind ≡ false → is_reference a.role ≡ false
    → content_in a bits ≡ (if are_all_ones bits && a.may_be_missing then missing else number (number_of bits))
number_said a bits e h = rw number_coding

pub text_said : (a : FieldSpec) (bits : List Bool) → is_character a.kind ≡ true → is_reference a.role ≡ false
    → content_in a bits ≡ (if are_all_ones bits then missing else text (octets_in (a.width / 8) bits))
text_said a bits e h = rw text_coding

pub reference_said : (a : FieldSpec) (bits : List Bool) → a.role ≡ role.Reference → content_in a bits ≡ reference (signed_by bits)
reference_said a bits e = rw e

pub answer_element : (a : FieldSpec) (bits : List Bool) → a.role ≡ role.Element → taken.Plain ≡ answer_of a (content_in a bits)
answer_element a bits e = rw e

pub answer_inserted : (a : FieldSpec) (bits : List Bool) → a.role ≡ role.Inserted → taken.Plain ≡ answer_of a (content_in a bits)
answer_inserted a bits e = rw e

never : (b : Bool) → (b && false) ≡ false
never true = refl
never false = refl

-- The answer of a factor is its number.
pub answer_factor : (a : FieldSpec) (bits : List Bool) (n : ℕ) → IsSpec a → a.role ≡ role.Factor → n ≡ number_of bits → taken.Count n ≡ answer_of a (content_in a bits)
answer_factor a bits n h e is =
    let has : HasRole role.Factor a.kind a.may_be_missing = subst (λ r. HasRole r a.kind a.may_be_missing) e h.role in
    let c : content_in a bits ≡ number (number_of bits) = number_said a bits (ap is_character has.0) (ap is_reference e)
    ∙ ap (λ m. if are_all_ones bits && m then missing else number (number_of bits)) has.1 ∙ ap (λ b. if b then missing else number (number_of bits)) (never (are_all_ones bits)) in
    rw (is, c, e)

pub answer_reference : (a : FieldSpec) (bits : List Bool) (z : ℤ) → a.role ≡ role.Reference → z ≡ signed_by bits → taken.Reference z ≡ answer_of a (content_in a bits)
answer_reference a bits z e is = grind arith

-- A redefined reference is read as a sign and a magnitude.
pub signed_parts : (octets : List ℕ) (at width k sign size : ℕ) → width ≡ suc k → at + width ≤ 8 * length octets → sign ≡ number_of (bits_at octets at 1)
    → size ≡ number_of (bits_at octets (at + 1) k) → (if sign == 1 then neg_ℤ (pos size) else pos size) ≡ signed_by (bits_at octets at width)
signed_parts octets at width k sign size w within s z =
    ap (λ n. if n == 1 then neg_ℤ (pos size) else pos size) s
    ∙ ap (λ n. if number_of (take 1 (drop at (bits_of octets))) == 1 then neg_ℤ (pos n) else pos n) (z ∙ ap (λ bs. number_of (take k bs)) (sym (drop-drop 1 at (bits_of octets))))
    ∙ by (drop at (bits_of octets)) (omega (arith, length-drop at (bits_of octets), length-bits_of))
    ∙ ap (λ j. signed_by (take j (drop at (bits_of octets)))) (sym w)
  where
    by : (bits : List Bool) → 1 ≤ length bits → (if number_of (take 1 bits) == 1 then neg_ℤ (pos (number_of (take k (drop 1 bits)))) else pos (number_of (take k (drop 1 bits))))
        ≡ signed_by (take (suc k) bits)
    by [] h = absurd (omega arith)
    by (true ∷ bits) h = refl
    by (false ∷ bits) h = refl

pub small_power : (k n : ℕ) → k ≤ 62 → n < 2 ^ k → n < 2 ^ 62
small_power k n h g = let p : 2 ^ k ≤ 2 ^ 62 = pow-le-pow_right {n = 2} (omega arith) h in omega (arith, p)

-- If all bits of a field are present, it is read.
pub taken_here : (s : Cursor) (octets : List ℕ) (spec : FieldSpec) (t : Taken) → s.bits ≡ bits_of octets → IsSpec spec → s.at + spec.width ≤ 8 * length octets
    → t ≡ answer_of spec (content_in spec (bits_at octets s.at spec.width)) → IsTaken s spec t (past s spec)
taken_here s octets spec t e h within is = search (rules, some_width, le-ltb, length-drop, length-bits_of, drop-drop)

pub ends_here : (s : Cursor) (octets : List ℕ) (spec : FieldSpec) → s.bits ≡ bits_of octets → 8 * length octets < s.at + spec.width → s.at ≤ 8 * length octets
    → plain_field spec (rest_of s) ≡ Err (wrong.DataEnd spec.fxy)
ends_here s octets spec e short within = search (rules, length-drop, length-bits_of)

pub bits_length : (octets : List ℕ) → length (bits_of octets) ≡ 8 * length octets
bits_length octets = length-bits_of octets

-- Bits are all ones if, and only if, their number is the greatest one of their width.
pub ones_by_number : (octets : List ℕ) (at width raw : ℕ) → at + width ≤ 8 * length octets → raw ≡ number_of (bits_at octets at width) → (raw == 2 ^ width - 1) ≡ are_all_ones (bits_at octets at width)
ones_by_number octets at width raw within is = grind (arith, common_steps, length-bits_at, are_all_ones-number)

-- ---- Octets and texts that are read from bits.

-- The first n + 1 octets are the first n octets and the next one.
octets_next : (n : ℕ) (bits : List Bool) → octets_in (suc n) bits ≡ octets_in n bits ++ number_of (take 8 (drop (8 * n) bits)) ∷ []
octets_next zero bits = refl
octets_next (suc n) bits =
    ap (λ os. number_of (take 8 bits) ∷ os) (octets_next n (drop 8 bits)
    ∙ ap (λ bs. octets_in n (drop 8 bits) ++ number_of (take 8 bs) ∷ []) (drop-drop (8 * n) 8 bits ∙ ap (λ k. drop k bits) (eight n)))
  where
    eight : (n : ℕ) → 8 + 8 * n ≡ 8 * suc n
    eight n = omega arith

octets_more : (n : ℕ) (bits : List Bool) → octets_in (n + 1) bits ≡ octets_in n bits ++ number_of (take 8 (drop (8 * n) bits)) ∷ []
octets_more n bits = rw (add-one, octets_next)

pub octet_put : (bits : List Bool) (at i octet : ℕ) (kept : List ℕ) → i < length kept → take i kept ≡ octets_in i (drop at bits) → octet ≡ number_of (take 8 (drop (at + 8 * i) bits))
    → take (i + 1) (set kept i octet) ≡ octets_in (i + 1) (drop at bits)
octet_put bits at i octet kept h so is = grind (arith, common_steps, take_more_set, drop-drop, octets_more)

-- The four octets of a 32-bit word are the next four octets of the bits.
pub octet_of_word : (bits : List Bool) (at i j word octet : ℕ) → at + 8 * (i + 4) ≤ length bits → j ≤ 3 → word ≡ number_of (take 32 (drop (at + 8 * i) bits)) → octet ≡ word / 2 ^ (24 - 8 * j) % 2 ^ 8
    → octet ≡ number_of (take 8 (drop (at + 8 * (i + j)) bits))
octet_of_word bits at i j word octet h few e is =
    let from = at + 8 * i in
    let rest = drop from bits in
    let four = take 32 rest in
    let long : length four ≡ 32 = length-take-le 32 rest (omega (arith, length-drop from bits)) in
    let exponent : 24 - 8 * j ≡ 32 - 8 * j - 8 = omega arith in
    let whole : 32 ≡ 8 * j + (32 - 8 * j) = omega arith in
    let inner : drop (8 * j) four ≡ take (32 - 8 * j) (drop (8 * j) rest) = ap (λ k. drop (8 * j) (take k rest)) whole ∙ drop-take (8 * j) (32 - 8 * j) rest in
    let there : from + 8 * j ≡ at + 8 * (i + j) = omega arith in
    grind (arith, common_steps, e, exponent, number_of_middle four 32 (8 * j) 8 long (omega arith), inner, take-take 8 (32 - 8 * j) (drop (8 * j) rest) (omega arith))

-- The four octets of a word are stored after those before them.
pub four_put : (bits : List Bool) (at i word a b c d : ℕ) (kept : List ℕ) → i + 4 ≤ length kept → at + 8 * (i + 4) ≤ length bits → take i kept ≡ octets_in i (drop at bits)
    → word ≡ number_of (take 32 (drop (at + 8 * i) bits)) → a ≡ word / 2 ^ 24 % 2 ^ 8 → b ≡ word / 2 ^ 16 % 2 ^ 8 → c ≡ word / 2 ^ 8 % 2 ^ 8 → d ≡ word / 2 ^ 0 % 2 ^ 8
    → take (i + 4) (set (set (set (set kept i a) (i + 1) b) (i + 2) c) (i + 3) d) ≡ octets_in (i + 4) (drop at bits)
four_put bits at i word a b c d kept h within so e ea eb ec ed =
    let one = set kept i a in
    let second = set one (i + 1) b in
    let third = set second (i + 2) c in
    let long1 : length one ≡ length kept = length-set kept i a in
    let long2 : length second ≡ length kept = length-set one (i + 1) b ∙ long1 in
    let long3 : length third ≡ length kept = length-set second (i + 2) c ∙ long2 in
    let first : a ≡ number_of (take 8 (drop (at + 8 * i) bits)) = cc (octet_of_word bits at i 0 word a within (omega arith) e ea, zero_more i) in
    let s1 : take (i + 1) one ≡ octets_in (i + 1) (drop at bits) = octet_put bits at i a kept (omega arith) so first in
    let s2 : take (i + 1 + 1) second ≡ octets_in (i + 1 + 1) (drop at bits) = octet_put bits at (i + 1) b one (omega arith) s1 (octet_of_word bits at i 1 word b within (omega arith) e eb) in
    let s3 : take (i + 2 + 1) third ≡ octets_in (i + 2 + 1) (drop at bits) =
    octet_put bits at (i + 2) c second (omega arith) (step (i + 1) (i + 2) second (omega arith) s2) (octet_of_word bits at i 2 word c within (omega arith) e ec) in
    let s4 = octet_put bits at (i + 3) d third (omega arith) (step (i + 2) (i + 3) third (omega arith) s3) (octet_of_word bits at i 3 word d within (omega arith) e ed) in
    step (i + 3) (i + 4) (set third (i + 3) d) (omega arith) s4
  where
    zero_more : (i : ℕ) → i + 0 ≡ i
    zero_more i = omega arith

    step : (k n : ℕ) (ys : List ℕ) → k + 1 ≡ n → take (k + 1) ys ≡ octets_in (k + 1) (drop at bits) → take n ys ≡ octets_in n (drop at bits)
    step k n ys same h = subst (λ (m : ℕ). take m ys ≡ octets_in m (drop at bits)) same h

pub two : (a b : ℕ) (xs ys : List ℕ) → a ≡ b → xs ≡ ys → a ∷ xs ≡ b ∷ ys
two a b xs ys p q = ap (λ x. x ∷ xs) p ∙ ap (λ zs. b ∷ zs) q

pub octets_prefix : (n : ℕ) (bits : List Bool) → octets_in n (take (8 * n) bits) ≡ octets_in n bits
octets_prefix zero bits = refl
octets_prefix (suc n) bits =
    ap (λ k. octets_in (suc n) (take k bits)) (eight n)
    ∙ two _ _ _ _ (ap number_of (take-take 8 (8 + 8 * n) bits (omega arith))) (ap (octets_in n) (drop-take 8 (8 * n) bits) ∙ octets_prefix n (drop 8 bits))
  where
    eight : (n : ℕ) → 8 * suc n ≡ 8 + 8 * n
    eight n = omega arith

-- If a field consists of whole octets, the bits after it do not affect them.
pub text_prefix : (spec : FieldSpec) (bits : List Bool) → spec.width % 8 ≡ 0 → octets_in (spec.width / 8) (take spec.width bits) ≡ octets_in (spec.width / 8) bits
text_prefix spec bits e = ap (λ w. octets_in (spec.width / 8) (take w bits)) (whole spec.width e) ∙ octets_prefix (spec.width / 8) bits
  where
    whole : (w : ℕ) → w % 8 ≡ 0 → w ≡ 8 * (w / 8)
    whole w e = omega arith

-- The octets that are read from the bits of octets are these octets.
octets_of_bits : (xs : List ℕ) → ((k : ℕ) → slice_index xs k < 256) → octets_in (length xs) (bits_of xs) ≡ xs
unfolding bits_of
octets_of_bits [] h = refl
octets_of_bits (x ∷ xs) h = two _ _ _ _ (number-bits_of_octet x (h 0)) (octets_of_bits xs (λ k. h (suc k)))

-- If a text begins with the first bit of an octet, it is a slice of the octets.
pub borrowed : (octets : List ℕ) (at count : ℕ) (xs : List ℕ) → at % 8 ≡ 0 → at + 8 * count ≤ 8 * length octets → xs ≡ slice_range octets (at / 8) (at / 8 + count)
    → ((k : ℕ) → slice_index xs k < 256) → xs ≡ octets_in count (drop at (bits_of octets))
borrowed octets at count xs whole within is small =
    let first = at / 8 in
    let place : 8 * first ≡ at = omega (arith, whole) in
    let same : xs ≡ take count (drop first octets) = is ∙ ap (λ n. take n (drop first octets)) (omega arith) in
    let long : length xs ≡ count = ap length same ∙ length-take-le count (drop first octets) (omega (arith, length-drop first octets, within)) in
    let bits : bits_of xs ≡ take (8 * count) (drop at (bits_of octets)) =
    ap bits_of same ∙ sym (take-bits_of count (drop first octets)) ∙ ap (take (8 * count)) (sym (drop-bits_of first octets) ∙ ap (λ p. drop p (bits_of octets)) place) in
    cc (octets_of_bits xs small, long, bits, octets_prefix count (drop at (bits_of octets)))

pub borrowed_some : {S : Type 0} (now : S → List ℕ) (r : Option S) (octets want : List ℕ) (at count : ℕ)
    → SomeIff (option_map now r) ((at % 8 ≡ 0) × (at + 8 * count ≤ 8 * length octets)) (slice_range octets (at / 8) (at / 8 + count)) → IfSome r (λ s. (k : ℕ) → slice_index (now s) k < 256)
    → octets_in count (drop at (bits_of octets)) ≡ want → IfSome r (λ s. now s ≡ want)
borrowed_some now None octets want at count h small e = tt
borrowed_some now (Some s) octets want at count h small e = borrowed octets at count (now s) h.0.0 h.0.1 h.1 small ∙ e

-- ---- The parts of a reading.

-- The bits that were read are no more than a message may have.
pub used_most : (octets : List ℕ) (used : ℕ) → length octets < 2 ^ 24 → used ≤ length (bits_of octets) → used ≤ max_values
used_most octets used h w = omega (arith, h, w, bits_length)

pub plain_held : (table : List Row) (template : Tree) (subsets : ℕ) (octets : List ℕ) (used steps : ℕ) → length octets < 2 ^ 24
    → ReadsData (counted_item table template) (data_in false subsets octets) (Ok used) steps
    → PaysBits (reading_of (uncounted (counted_item table template)) (data_in false subsets octets)).values used
    → IsStoredReading (read_by table template (data_in false subsets octets) used 0) kept.Apart
plain_held table template subsets octets used steps short h pays =
    record { none = h.0; keeps = tt; few = omega arith; pays = pays; most = omega (arith, used_most octets used short (omega (arith, h.1))) }

-- The data that are read are those of a plain message.
pub same_data : (m : Sections) (subsets : ℕ) (octets : List ℕ) → m.compressed ≡ false → subsets ≡ m.subsets → octets ≡ m.payload → data_in false subsets octets ≡ data_of m
same_data m subsets octets plain e f = grind arith

pub plain_is : (table : List Row) (template : Tree) (m : Sections) (subsets : ℕ) (octets : List ℕ) (used steps : ℕ) → data_in false subsets octets ≡ data_of m
    → ReadsData (counted_item table template) (data_in false subsets octets) (Ok used) steps
    → AnswersReading table template (data_of m) (Ok (read_by table template (data_in false subsets octets) used 0)) steps
plain_is table template m subsets octets used steps e h = (refl, refl, e, subst (λ d. ReadsData (counted_item table template) d (Ok used) steps) e h)

-- No pass over plain data stops if the data were read before.
pub readable_of : (r : Read) → IsStoredReading r kept.Apart → stop_of (passes_apart (course_of r) r.source.subsets r.source.bits) ≡ None
readable_of r h = grind arith
