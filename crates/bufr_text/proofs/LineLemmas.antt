-- Each line of a dump text is read as what it was written for. It has no line feed, and is short.
use Rattle.std.proofs.Common.{get_or, ◌≡◌, ℕ, ◌+◌, ◌-◌, ◌*◌, ◌/◌, ◌%◌, ◌<◌, nat_le, true, refl, ap, arith, Some, ◌==◌, nat_lt, Bool, false, not, List, [], ◌∷◌, ◌++◌, length, ◌∙◌, if◌then◌else◌, append_assoc, zero, suc, ◌^◌, ◌≤◌, ◌&&◌, take, drop, replicate, ℤ, pos, negsuc, length-append, length-take, length-drop, sym, Option, None, codes, ◌||◌, option_map, unsigned_abs, IfSome, rules}
use Rattle.std.specs.Char.{is_ascii_digit}
use Rattle.std.specs.List.{list_all, AllByRecursion, concat, prefix_len, onto_first}
use Rattle.std.proofs.lemmas.Bool.Decides.{nat_tests}
use Rattle.bufr_tables.specs.Prelude.{fxy_of, fxy_text, f_of, x_of, y_of, f_in, x_in, y_in, is_printed, Row, places, is_name}
use Rattle.std.specs.Fmt.{decimal}
use Rattle.std.proofs.lemmas.Fmt.{decimal_is_IsNumeral_wide, length-decimal-le_wide}
use Rattle.bufr_bits.proofs.DecimalLemmas.{own, and_first, and_second, all_digits-take, all_digits-drop, zeros_digits}
use Rattle.bufr_text.specs.Prelude.{hex_digit, upper_value, either_value, pair_value, hex_pair, hex_text, hex_read, fxy_read, descriptors_text, descriptors_read, number_read, is_unescaped, escaped, quoted, quoted_read, is_number_octet, without_prefix, is_hashed, is_end_or_comment, runs_after, IsOctet, IsDescriptorWord, local1_line, section2_line, descriptors_line, subset_line, comment_text, dump_value_of, form_text, item_text, IsValue, IsComment, IsItem, text_of_lines, MessageLine, Header, Local1, Section2, Descriptors, SubsetLine, ItemLine, EndLine, keys, number_value, value_read, worded, line_of, Line, lines_of, split_of, Split, onto_split, Invalid}
use Rattle.std.proofs.lemmas.List.{length-replicate, take-append-drop}
use Rattle.std.proofs.lemmas.List.Folds.{list_all-append}
use Rattle.bufr_bits.specs.Prelude.{decimal_text_of, unsigned_text, pointed}
use Rattle.bufr_fill.specs.Prelude.{DraftValue, number_token, text_form, missing_form, reference_token}
use Rattle.std.proofs.Math.Seq.{drop-nil, drop-append_seam}
use Rattle.std.proofs.lemmas.Grind.{common_steps}
use Rattle.bufr_walk.specs.Prelude.{View, ShownValue, shown_number, shown_text, shown_missing, shown_reference}
use Rattle.std.specs.Option.{unwrap_or}
use Rattle.bufr_tables.specs.Fxy.{◌>>=◌}

-- ---- A descriptor is written as six digits, and read back.

digit : (n : ℕ) → n < 10 → is_ascii_digit (48 + n) ≡ true
digit n h = grind arith

back : (n : ℕ) → 48 + n - 48 ≡ n
back n = omega arith

fits-f : (w : ℕ) → w < 65536 → nat_le (f_in (fxy_text w)) 3 ≡ true
fits-f w h = grind arith

fits-x : (w : ℕ) → w < 65536 → nat_le (x_in (fxy_text w)) 63 ≡ true
fits-x w h = grind arith

fits-y : (w : ℕ) → w < 65536 → nat_le (y_in (fxy_text w)) 255 ≡ true
fits-y w h = grind arith

all-digits : (w : ℕ) → w < 65536 → list_all is_ascii_digit (fxy_text w) ≡ true
all-digits w h = rw (
  digit (f_of w) (omega arith),
  digit (x_of w / 10) (omega arith),
  digit (x_of w % 10) (omega arith),
  digit (y_of w / 100) (omega arith),
  digit (y_of w / 10 % 10) (omega arith),
  digit (y_of w % 10) (omega arith),
) refl

word-back : (w : ℕ) → w < 65536 → 16384 * f_in (fxy_text w) + 256 * x_in (fxy_text w) + y_in (fxy_text w) ≡ w
word-back w h = omega arith

pub fxy_back : (w : ℕ) → w < 65536 → fxy_of (fxy_text w) ≡ Some w
fxy_back w h = simp (all-digits, fits-f, fits-x, fits-y, word-back)

-- ---- Words and values are written, and read back.

-- whether a text is empty or begins with an octet that fails the test
abbrev pub stops : (ℕ → Bool) → List ℕ → Bool
stops test [] = true
stops test (c ∷ more) = not (test c)

pub prefix-of : (test : ℕ → Bool) (a b : List ℕ) → list_all test a ≡ true → stops test b ≡ true → prefix_len test (a ++ b) ≡ length a
prefix-of test [] [] h s = refl
prefix-of test [] (c ∷ b) h s = grind arith
prefix-of test (c ∷ a) b h s =
    let rest = prefix-of test a b (and_second (test c) (list_all test a) h) s in
    ap (λ x. if x then 1 + prefix_len test (a ++ b) else 0) (and_first (test c) (list_all test a) h) ∙ omega (arith, rest)

-- A number is read back, up to an octet that cannot be part of it.
number-there : (form : List ℕ → DraftValue) (c : ℕ) (more rest : List ℕ) → list_all is_number_octet (c ∷ more) ≡ true → stops is_number_octet rest ≡ true
    → number_value form ((c ∷ more) ++ rest) ≡ Some (form (c ∷ more), rest)
number-there form c more rest octets s = grind (arith, common_steps, and_first, prefix-of, drop-append_seam, prefix-of is_number_octet (c ∷ more) rest octets s)

-- ---- Hexadecimal digits.

upper-back : (n : ℕ) → n < 16 → upper_value (hex_digit n) ≡ Some n
upper-back n h = grind arith

either-back : (n : ℕ) → n < 16 → either_value (hex_digit n) ≡ Some n
either-back n h = grind arith

halves : (c : ℕ) → 16 * (c / 16) + c % 16 ≡ c
halves c = omega arith

either-pair : (c : ℕ) → c < 256 → pair_value (either_value (hex_digit (c / 16))) (either_value (hex_digit (c % 16))) ≡ Some c
either-pair c h = rw (either-back (c / 16) (omega arith), either-back (c % 16) (omega arith)) (ap Some (halves c))

pub hex_back : (xs : List ℕ) → AllByRecursion IsOctet xs → hex_read (hex_text xs) ≡ Some xs
unfolding hex_read hex_text
hex_back [] all = refl
hex_back (c ∷ xs) (octet, all) = rw (either-pair c octet, hex_back xs all) refl

-- ---- Descriptors.

pub fxy_read_back : (w : ℕ) (rest : List ℕ) → w < 65536 → fxy_read (fxy_text w ++ rest) ≡ Some (w, rest)
unfolding fxy_read
fxy_read_back w rest h = rw fxy_back

pub descriptors_back : (ws : List ℕ) → AllByRecursion IsDescriptorWord ws → descriptors_read (descriptors_text ws) ≡ Some ws
unfolding descriptors_read descriptors_text
descriptors_back [] all = refl
descriptors_back (w ∷ ws) (word, all) = rw (fxy_back w word, descriptors_back ws all) refl

-- ---- Numbers and quoted texts.

pub number_back : (n : ℕ) → n < 65536 → number_read (decimal n) ≡ Some n
number_back n h1 = grind (arith, decimal_is_IsNumeral_wide, own)

-- prepends an octet to the result of reading; a failure stays
abbrev pub octet_onto : ℕ → Option (List ℕ × List ℕ) → Option (List ℕ × List ℕ)
octet_onto octet read = option_map (λ r. (octet ∷ r.0, r.1)) read

read-plain : (c : ℕ) (rest : List ℕ) → is_unescaped c ≡ true → quoted_read 0 (c ∷ rest) ≡ octet_onto c (quoted_read 0 rest)
unfolding quoted_read
read-plain c rest h1 = grind arith

by-marks : (c : ℕ) (rest : List ℕ) (q b : Bool) → (c == 34) ≡ q → (c == 92) ≡ b → c < 256
    → quoted_read 0 ((if q || b then 92 ∷ c ∷ [] else 92 ∷ 120 ∷ hex_pair c) ++ rest) ≡ octet_onto c (quoted_read 0 rest)
unfolding quoted_read
by-marks c rest q b h1 h2 h3 = grind (arith, nat_tests)

by-plain : (c : ℕ) (rest : List ℕ) (p : Bool) → is_unescaped c ≡ p → c < 256
    → quoted_read 0 ((if p then c ∷ [] else if (c == 34) || (c == 92) then 92 ∷ c ∷ [] else 92 ∷ 120 ∷ hex_pair c) ++ rest) ≡ octet_onto c (quoted_read 0 rest)
by-plain c rest true e h = read-plain c rest e
by-plain c rest false e h = by-marks c rest (c == 34) (c == 92) refl refl h

close : (rest : List ℕ) → quoted_read 0 (34 ∷ rest) ≡ Some ([], rest)
unfolding quoted_read
close rest = refl

pub quoted_back : (xs rest : List ℕ) → AllByRecursion IsOctet xs → quoted_read 0 (quoted xs ++ rest) ≡ Some (xs, rest)
unfolding quoted
quoted_back [] rest all = close rest
quoted_back (c ∷ xs) rest (octet, all) = grind (arith, quoted_back xs rest all, append_assoc, by-plain)

-- ---- Decimal texts are number tokens.

-- a token of at most the given number of octets
pub record IsToken (token : List ℕ) (most : ℕ) : Type 0 where
  pub octets : list_all is_number_octet token ≡ true
  pub some : 0 < length token
  pub short : length token ≤ most

pub both : (a b : Bool) → a ≡ true → b ≡ true → (a && b) ≡ true
both a b h k = rw (h, k) refl

digits-are : (ds : List ℕ) → list_all is_ascii_digit ds ≡ true → list_all is_number_octet ds ≡ true
digits-are [] h = refl
digits-are (c ∷ ds) h = rw (and_first (is_ascii_digit c) (list_all is_ascii_digit ds) h) (digits-are ds (and_second (is_ascii_digit c) (list_all is_ascii_digit ds) h))

all-of : (a b : List ℕ) → list_all is_number_octet a ≡ true → list_all is_number_octet b ≡ true → list_all is_number_octet (a ++ b) ≡ true
all-of a b h k = list_all-append is_number_octet a b ∙ both _ _ h k

decimal-digits : (n : ℕ) → n < 10 ^ 64 → list_all is_ascii_digit (decimal n) ≡ true
decimal-digits n h = own.from (decimal n) (decimal_is_IsNumeral_wide n h).0.1

decimal-some : (n : ℕ) → n < 10 ^ 64 → 0 < length (decimal n)
decimal-some n h = (decimal_is_IsNumeral_wide n h).0.0

pointed-token : (n places : ℕ) → n < 10 ^ 39 → places ≤ 300 → IsToken (pointed places (decimal n)) 399
pointed-token n places h few =
    let d = decimal n in
    let count = places + 1 - length d in
    let zeros : length (replicate {A = ℕ} count 48) ≡ count = length-replicate count 48 in
    let padded = replicate count 48 ++ d in
    let w = length padded - places in
    let all : list_all is_ascii_digit padded ≡ true = list_all-append is_ascii_digit (replicate count 48) d ∙ both _ _ (zeros_digits count) (decimal-digits n (omega arith)) in
    let short = length-decimal-le_wide 39 n (omega arith) h (omega arith) in
    let long = length-append (replicate count 48) d in
    let whole : length (take w padded ++ 46 ∷ drop w padded) ≡ length padded + 1 = length-append (take w padded) (46 ∷ drop w padded) ∙ omega (arith, length-take w padded, length-drop w padded) in
    grind (arith, common_steps, all-of, digits-are, all_digits-take, all_digits-drop, whole, long, zeros, short)

zeros-token : (n less : ℕ) → n < 10 ^ 39 → less ≤ 300 → IsToken (decimal n ++ replicate less 48) 399
zeros-token n less h few =
    let d = decimal n in
    let zeros : length (replicate {A = ℕ} less 48) ≡ less = length-replicate less 48 in
    let long = length-append d (replicate less 48) in
    let short = length-decimal-le_wide 39 n (omega arith) h (omega arith) in
    grind (arith, common_steps, all-of, digits-are, decimal-digits, zeros_digits, decimal-some, long, decimal-some n (omega arith), zeros, short)

zeros-none : (n : ℕ) → n < 10 ^ 39 → IsToken (decimal n) 399
zeros-none n h = search (rules, digits-are, decimal-digits, decimal-some, length-decimal-le_wide)

unsigned-token : (n : ℕ) (scale : ℤ) → n < 10 ^ 39 → unsigned_abs scale ≤ 300 → IsToken (unsigned_text n scale) 399
unfolding unsigned_text
unsigned-token n (pos zero) h few = zeros-none n h
unsigned-token n (pos (suc places)) h few = pointed-token n (suc places) h few
unsigned-token zero (negsuc less) h few = zeros-none 0 h
unsigned-token (suc n) (negsuc less) h few = zeros-token (suc n) (suc less) h few

pub number-token : (v scale : ℤ) → unsigned_abs v < 10 ^ 39 → unsigned_abs scale ≤ 300 → IsToken (decimal_text_of v scale) 400
unfolding decimal_text_of
number-token (pos n) scale h few = let t = unsigned-token n scale h few in record { octets = t.octets; some = t.some; short = omega (arith, t.short) }
number-token (negsuc n) scale h few = let t = unsigned-token (suc n) scale h few in record { octets = t.octets; some = omega arith; short = omega (arith, t.short) }

in_bounds : (xs : List ℕ) (most : ℕ) → 0 < length xs → length xs ≤ most → (nat_lt 0 (length xs) && nat_le (length xs) most) ≡ true
in_bounds xs most some few = grind arith

pub local1-says : (xs : List ℕ) → AllByRecursion IsOctet xs → 0 < length xs → length xs ≤ 32 → line_of (local1_line xs) ≡ Local1 xs
unfolding line_of worded without_prefix
local1-says xs all some few = simp (hex_back, in_bounds)

pub section2-says : (xs : List ℕ) → AllByRecursion IsOctet xs → 0 < length xs → length xs ≤ 32 → line_of (section2_line xs) ≡ Section2 xs
unfolding line_of worded without_prefix
section2-says xs all some few = simp (hex_back, in_bounds)

-- The text after the word `descriptors` begins with a space, which ends the word.
pub descriptors-says : (ws : List ℕ) → AllByRecursion IsDescriptorWord ws → 0 < length ws → length ws ≤ 8 → line_of (descriptors_line ws) ≡ Descriptors ws
unfolding line_of worded without_prefix descriptors_text
descriptors-says [] all some few = absurd (omega arith)
descriptors-says (w ∷ ws) all some few = simp (descriptors_back, in_bounds)

pub subset-says : (n : ℕ) → n < 65536 → line_of (subset_line n) ≡ SubsetLine n
unfolding line_of worded without_prefix
subset-says n h = rw (number_back n h) refl

pub message-says : line_of (codes "message") ≡ MessageLine
unfolding line_of worded
message-says = refl

pub end-says : line_of (codes "end") ≡ EndLine
unfolding line_of worded
end-says = refl

-- ---- Header lines.

pub key-says : (k : ℕ) (rest : List ℕ) → k < 20 → line_of (get_or keys k [] ++ 32 ∷ rest) ≡ unwrap_or (number_read rest >>= λ value. Some (Header k value)) Invalid
unfolding line_of worded without_prefix keys
key-says k rest h1 = grind arith

suffix_is : (word text rest : List ℕ) → without_prefix word text ≡ Some rest → text ≡ word ++ rest
unfolding without_prefix
suffix_is [] text rest h = cc
suffix_is (w ∷ word) [] rest h = absurd cc h
suffix_is (w ∷ word) (c ∷ text) rest h = grind (arith, suffix_is word text rest)

-- The text after a key and one space is the value of the key.
pub value_there : (k : ℕ) (word line rest : List ℕ) (r : Option ℕ) → k < 20 → word ≡ get_or keys k [] ++ 32 ∷ [] → Some rest ≡ without_prefix word line → r ≡ number_read rest
    → IfSome r (λ v. line_of line ≡ Header k v)
value_there k word line rest None few is there read = tt
value_there k word line rest (Some v) few is there read =
    let name : List ℕ = get_or keys k [] in
    let whole : line ≡ name ++ 32 ∷ rest = suffix_is word line rest (sym there) ∙ ap (λ w. w ++ rest) is ∙ append_assoc name (32 ∷ []) rest in
    ap line_of whole ∙ key-says k rest few ∙ ap (λ o. unwrap_or (o >>= λ value. Some (Header k value)) Invalid) (sym read)

-- ---- Items.

pub value-number : (token rest : List ℕ) (most : ℕ) → IsToken token most → stops is_number_octet rest ≡ true → value_read (token ++ rest) ≡ Some (number_token token, rest)
unfolding value_read
value-number [] rest most token s = absurd (omega (arith, token.some))
value-number (c ∷ more) rest most token s =
    let one : is_number_octet c ≡ true = and_first (is_number_octet c) (list_all is_number_octet more) token.octets in
    let no_quote : (c == 34) ≡ false = grind arith in
    let text : List ℕ = (c ∷ more) ++ rest in
    rw no_quote (ap (λ b. if b then number_value number_token text else option_map (λ rest. (missing_form, rest)) (without_prefix (codes "MISSING") text)) one
    ∙ number-there number_token c more rest token.octets s)

pub value-text : (octets rest : List ℕ) → AllByRecursion IsOctet octets → value_read (34 ∷ quoted octets ++ rest) ≡ Some (text_form octets, rest)
unfolding value_read
value-text octets rest all = rw (quoted_back octets rest all) refl

pub value-missing : (rest : List ℕ) → value_read (codes "MISSING" ++ rest) ≡ Some (missing_form, rest)
unfolding value_read without_prefix
value-missing rest = refl

first-digit : (w : ℕ) → w < 65536 → is_ascii_digit (48 + f_of w) ≡ true
first-digit w h = grind arith

no-hash : (w : ℕ) → w < 65536 → (48 + f_of w == 35) ≡ false
no-hash w h = grind arith

pub item-of : (fxy : ℕ) (text rest : List ℕ) (form : DraftValue) → fxy < 65536 → value_read text ≡ Some (form, rest) → is_end_or_comment rest ≡ true
    → line_of (fxy_text fxy ++ 32 ∷ text) ≡ ItemLine fxy form
unfolding line_of without_prefix
item-of fxy text rest form h read passed = rw (no-hash fxy h, first-digit fxy h, fxy_read_back fxy (32 ∷ text) h, read, passed) refl

pub comment-passed : (comment : Option Row) → is_end_or_comment (comment_text comment) ≡ true
unfolding is_hashed
comment-passed None = refl
comment-passed (Some comment) = refl

pub comment-stops : (comment : Option Row) → stops is_number_octet (comment_text comment) ≡ true
comment-stops None = refl
comment-stops (Some comment) = refl

pub reference-value : (token rest : List ℕ) (most : ℕ) → IsToken token most → stops is_number_octet rest ≡ true → number_value reference_token (token ++ rest) ≡ Some (reference_token token, rest)
reference-value [] rest most token s = absurd (omega (arith, token.some))
reference-value (c ∷ more) rest most token s = number-there reference_token c more rest token.octets s

pub reference-of : (fxy : ℕ) (text rest : List ℕ) (form : DraftValue) → fxy < 65536 → number_value reference_token text ≡ Some (form, rest) → is_end_or_comment rest ≡ true
    → line_of (codes "R " ++ fxy_text fxy ++ 32 ∷ text) ≡ ItemLine fxy form
unfolding line_of worded without_prefix
reference-of fxy text rest form h read passed = rw (fxy_read_back fxy (32 ∷ text) h, read, passed) refl

-- ---- Lines of a dump text have no line feed and at most 4,096 octets.

-- whether an octet is not a control character, and so not a line feed
abbrev pub is_above : ℕ → Bool
is_above c = nat_le 32 c

-- The line has this meaning, contains no control characters, and is not too long to be read.
pub record IsLineOf (line : List ℕ) (meaning : Line) : Type 0 where
  pub says : line_of line ≡ meaning
  pub clean : list_all is_above line ≡ true
  pub short : length line ≤ 4096

-- The text contains no control characters, and has at most the given number of octets.
record IsClean (text : List ℕ) (most : ℕ) : Type 0 where
  clean : list_all is_above text ≡ true
  short : length text ≤ most

joined-two : (a b : List ℕ) (m n k : ℕ) → IsClean a m → IsClean b n → m + n ≤ k → IsClean (a ++ b) k
joined-two a b m n k x y h = record { clean = list_all-append is_above a b ∙ both _ _ x.clean y.clean; short = omega (arith, length-append a b, x.short, y.short) }

one-more : (c : ℕ) (a : List ℕ) (m k : ℕ) → 32 ≤ c → IsClean a m → m + 1 ≤ k → IsClean (c ∷ a) k
one-more c a m k above x h = record { clean = both _ _ (grind arith) x.clean; short = omega (arith, x.short) }

within : (a : List ℕ) (m k : ℕ) → IsClean a m → m ≤ k → IsClean a k
within a m k x h = record { clean = x.clean; short = omega (arith, x.short) }

weaker : (p q : ℕ → Bool) → ((c : ℕ) → p c ≡ true → q c ≡ true) → (xs : List ℕ) → list_all p xs ≡ true → list_all q xs ≡ true
weaker p q implies [] h = refl
weaker p q implies (c ∷ xs) h = both _ _ (implies c (and_first (p c) (list_all p xs) h)) (weaker p q implies xs (and_second (p c) (list_all p xs) h))

decimal-clean : (n k : ℕ) → 0 < k → n < 10 ^ k → n < 10 ^ 64 → IsClean (decimal n) k
decimal-clean n k some h wide = record {
  clean = weaker is_ascii_digit is_above (λ c h. grind arith) (decimal n) (own.from (decimal n) (decimal_is_IsNumeral_wide n wide).0.1);
  short = length-decimal-le_wide k n some h wide;
}

token-clean : (token : List ℕ) (most : ℕ) → IsToken token most → IsClean token most
token-clean token most t = record { clean = weaker is_number_octet is_above (λ c h. grind arith) token t.octets; short = t.short }

name-clean : (name : List ℕ) → is_name name ≡ true → IsClean name 512
name-clean name n =
    let printed : list_all is_printed name ≡ true = grind arith in
    let short : length name ≤ 512 = grind arith in
    record { clean = weaker is_printed is_above (λ c. and_first (is_above c) (not (c == 127))) name printed; short = short }

digit-of-above : (n : ℕ) → is_above (48 + n) ≡ true
digit-of-above n = grind arith

fxy-clean : (w : ℕ) → IsClean (fxy_text w) 6
fxy-clean w = search (rules, digit-of-above)

-- ---- Hexadecimal digits, and the descriptors of a line.

hex-above : (n : ℕ) → is_above (hex_digit n) ≡ true
hex-above n = grind arith

hex-clean : (xs : List ℕ) → IsClean (hex_text xs) (2 * length xs)
unfolding hex_text
hex-clean [] = record { clean = refl; short = omega arith }
hex-clean (c ∷ xs) = let rest = hex-clean xs in record { clean = rw (hex-above (c / 16), hex-above (c % 16)) rest.clean; short = omega (arith, rest.short) }

descriptors-clean : (ws : List ℕ) → IsClean (descriptors_text ws) (7 * length ws)
unfolding descriptors_text
descriptors-clean [] = record { clean = refl; short = omega arith }
descriptors-clean (w ∷ ws) = grind (arith, descriptors-clean ws, fxy-clean)

-- ---- Quoted texts.

plain-clean : (c : ℕ) → is_unescaped c ≡ true → IsClean (c ∷ []) 4
plain-clean c h = record { clean = both _ _ (grind arith) refl; short = omega arith }

marks-clean : (c : ℕ) (m : Bool) → ((c == 34) || (c == 92)) ≡ m → IsClean (if m then 92 ∷ c ∷ [] else 92 ∷ 120 ∷ hex_pair c) 4
marks-clean c m e = grind arith

escaped-by : (c : ℕ) (p : Bool) → is_unescaped c ≡ p → IsClean (if p then c ∷ [] else if (c == 34) || (c == 92) then 92 ∷ c ∷ [] else 92 ∷ 120 ∷ hex_pair c) 4
escaped-by c true e = plain-clean c e
escaped-by c false e = marks-clean c ((c == 34) || (c == 92)) refl

quoted-clean : (xs : List ℕ) → IsClean (quoted xs) (4 * length xs + 1)
unfolding quoted
quoted-clean [] = record { clean = refl; short = omega arith }
quoted-clean (c ∷ xs) = joined-two (escaped c) (quoted xs) 4 (4 * length xs + 1) (4 * suc (length xs) + 1) (escaped-by c (is_unescaped c) refl) (quoted-clean xs) (omega arith)

-- ---- Comments.

literal : (text : List ℕ) (most : ℕ) → list_all is_above text ≡ true → length text ≤ most → IsClean text most
literal text most h k = record { clean = h; short = k }

comment-clean : (comment : Option Row) → IsComment comment → IsClean (comment_text comment) 1040
comment-clean comment h1 = grind (arith, common_steps, name-clean)

-- ---- Whole lines.

pub message-line : IsLineOf (codes "message") MessageLine
message-line = record { says = message-says; clean = refl; short = omega arith }

pub end-line : IsLineOf (codes "end") EndLine
end-line = record { says = end-says; clean = refl; short = omega arith }

line-from : (line : List ℕ) (meaning : Line) (most : ℕ) → line_of line ≡ meaning → IsClean line most → most ≤ 4096 → IsLineOf line meaning
line-from line meaning most s c h = record { says = s; clean = c.clean; short = omega (arith, c.short) }

pub local1-line : (xs : List ℕ) → AllByRecursion IsOctet xs → 0 < length xs → length xs ≤ 32 → IsLineOf (local1_line xs) (Local1 xs)
local1-line xs all some few = search (rules, line-from, local1-says, hex-clean)

pub section2-line : (xs : List ℕ) → AllByRecursion IsOctet xs → 0 < length xs → length xs ≤ 32 → IsLineOf (section2_line xs) (Section2 xs)
section2-line xs all some few = grind (arith, line-from, section2-says, hex-clean)

pub descriptors-line : (ws : List ℕ) → AllByRecursion IsDescriptorWord ws → 0 < length ws → length ws ≤ 8 → IsLineOf (descriptors_line ws) (Descriptors ws)
descriptors-line ws all some few = search (rules, line-from, descriptors-says, joined-two, literal, descriptors-clean)

pub subset-line : (n : ℕ) → n < 65536 → IsLineOf (subset_line n) (SubsetLine n)
subset-line n h = line-from (subset_line n) (SubsetLine n) 12 (subset-says n (omega arith))
    (joined-two (codes "subset ") (decimal n) 7 5 12 (literal (codes "subset ") 7 refl (omega arith)) (decimal-clean n 5 (omega arith) (omega arith) (omega arith)) (omega arith)) (omega arith)

-- ---- The names of keys.

abbrev key-passes : List ℕ → Bool
key-passes k = nat_le (length k) 16 && list_all is_above k

keys-pass : list_all key-passes keys ≡ true
unfolding keys
keys-pass = refl

keys-length : length keys ≡ 20
unfolding keys
keys-length = refl

key-passes-at : (ks : List (List ℕ)) (i : ℕ) → list_all key-passes ks ≡ true → i < length ks → key-passes (get_or ks i []) ≡ true
key-passes-at ks i h below = grind (arith, common_steps)

key-clean : (k : List ℕ) → key-passes k ≡ true → IsClean k 16
key-clean k h1 = grind arith

pub header-line : (k v : ℕ) → k < 20 → v < 65536 → IsLineOf (get_or keys k [] ++ 32 ∷ decimal v) (Header k v)
header-line k v h n =
    let name = key-clean (get_or keys k []) (key-passes-at keys k keys-pass (omega (arith, keys-length))) in
    line-from (get_or keys k [] ++ 32 ∷ decimal v) (Header k v) 22 (key-says k (decimal v) h ∙ ap (λ o. unwrap_or (o >>= λ value. Some (Header k value)) Invalid) (number_back v (omega arith)))
    (joined-two (get_or keys k []) (32 ∷ decimal v) 16 6 22 name (one-more 32 (decimal v) 5 6 (omega arith) (decimal-clean v 5 (omega arith) (omega arith) (omega arith)) (omega arith)) (omega arith))
    (omega arith)

-- ---- Items.

form-line : (fxy : ℕ) (text : List ℕ) (form : DraftValue) (comment : Option Row) (most : ℕ) → fxy < 65536 → IsComment comment
    → value_read (text ++ comment_text comment) ≡ Some (form, comment_text comment) → IsClean text most → most ≤ 2000
    → IsLineOf ((fxy_text fxy ++ 32 ∷ text) ++ comment_text comment) (ItemLine fxy form)
form-line fxy text form comment most word given read c h =
    line-from ((fxy_text fxy ++ 32 ∷ text) ++ comment_text comment) (ItemLine fxy form) 3047 (item-of fxy (text ++ comment_text comment) (comment_text comment) form word read (comment-passed comment))
    (joined-two (fxy_text fxy ++ 32 ∷ text) (comment_text comment) 2007 1040 3047
    (joined-two (fxy_text fxy) (32 ∷ text) 6 2001 2007 (fxy-clean fxy) (one-more 32 text most 2001 (omega arith) c (omega arith)) (omega arith)) (comment-clean comment given) (omega arith))
    (omega arith)

by-value : (fxy : ℕ) (comment : Option Row) (value : ShownValue) → fxy < 65536 → IsComment comment → IsValue value
    → IsLineOf (form_text fxy (dump_value_of value) ++ comment_text comment) (ItemLine fxy (dump_value_of value))
by-value fxy comment (shown_number v scale) word c (small, few) =
    let token = number-token v scale small few in
    form-line fxy (decimal_text_of v scale) (number_token (decimal_text_of v scale)) comment 400 word c
    (value-number (decimal_text_of v scale) (comment_text comment) 400 token (comment-stops comment)) (token-clean (decimal_text_of v scale) 400 token) (omega arith)
by-value fxy comment (shown_text octets) word c (all, few) =
    form-line fxy (34 ∷ quoted octets) (text_form octets) comment 1022 word c (value-text octets (comment_text comment) all)
    (one-more 34 (quoted octets) (4 * length octets + 1) 1022 (omega arith) (quoted-clean octets) (omega arith)) (omega arith)
by-value fxy comment shown_missing word c given =
    form-line fxy (codes "MISSING") missing_form comment 7 word c (value-missing (comment_text comment)) (literal (codes "MISSING") 7 refl (omega arith)) (omega arith)
by-value fxy comment (shown_reference v) word c small =
    let token = number-token v (pos 0) small (omega arith) in
    let text = decimal_text_of v (pos 0) in
    line-from ((codes "R " ++ fxy_text fxy ++ 32 ∷ text) ++ comment_text comment) (ItemLine fxy (reference_token text)) 1449
    (reference-of fxy (text ++ comment_text comment) (comment_text comment) (reference_token text) word (reference-value text (comment_text comment) 400 token (comment-stops comment))
    (comment-passed comment))
    (joined-two (codes "R " ++ fxy_text fxy ++ 32 ∷ text) (comment_text comment) 409 1040 1449
    (joined-two (codes "R " ++ fxy_text fxy) (32 ∷ text) 8 401 409 (joined-two (codes "R ") (fxy_text fxy) 2 6 8 (literal (codes "R ") 2 refl (omega arith)) (fxy-clean fxy) (omega arith))
    (one-more 32 text 400 401 (omega arith) (token-clean text 400 token) (omega arith)) (omega arith)) (comment-clean comment c) (omega arith)) (omega arith)

pub item-line : (item : View) → IsItem item → IsLineOf (item_text item) (ItemLine item.fxy (dump_value_of item.value))
item-line item given = by-value item.fxy item.entry item.value given.word given.comment given.value

-- ---- A text that was written line by line has these lines.

abbrev pub IsAbove : List ℕ → Type 0
IsAbove line = list_all is_above line ≡ true

no-feed : (c : ℕ) → is_above c ≡ true → (c == 10) ≡ false
no-feed c h = grind arith

-- the lines of a text that was split
joined : Split → List (List ℕ)
joined s = if length s.rest == 0 then s.whole else s.whole ++ s.rest ∷ []

joined-by : (c : ℕ) (feed : Bool) (whole : List (List ℕ)) (rest : List ℕ)
    → joined (if feed then record { whole = [] ∷ whole; rest = rest } else onto_split c whole rest)
    ≡ (if feed then [] ∷ joined (record { whole = whole; rest = rest }) else onto_first c (joined (record { whole = whole; rest = rest })))
unfolding joined
joined-by c feed whole rest = grind (arith, common_steps)

pub lines-cons : (c : ℕ) (more : List ℕ) → lines_of (c ∷ more) ≡ (if c == 10 then [] ∷ lines_of more else onto_first c (lines_of more))
unfolding lines_of split_of joined
lines-cons c more = joined-by c (c == 10) (split_of more).whole (split_of more).rest

pub lines-none : lines_of [] ≡ []
unfolding lines_of split_of
lines-none = refl

pub first-line : (line t : List ℕ) → IsAbove line → lines_of (line ++ 10 ∷ t) ≡ line ∷ lines_of t
first-line [] t h = lines-cons 10 t
first-line (c ∷ line) t h =
    rw (lines-cons c (line ++ 10 ∷ t), no-feed c (and_first (is_above c) (list_all is_above line) h), first-line line t (and_second (is_above c) (list_all is_above line) h)) refl

pub lines-back : (ls : List (List ℕ)) (t : List ℕ) → AllByRecursion IsAbove ls → lines_of (text_of_lines ls ++ t) ≡ ls ++ lines_of t
lines-back [] t all = refl
lines-back (line ∷ ls) t (here, all) = grind (arith, lines-back ls t all, append_assoc, first-line)

-- ---- Lists that are cut into runs.

pub concat-after : (skip less : ℕ) (xs : List ℕ) → concat (runs_after skip (suc less) xs) ≡ drop skip xs
unfolding runs_after
concat-after skip less [] = rw drop-nil refl
concat-after (suc skip) less (x ∷ xs) = concat-after skip less xs
concat-after zero less (x ∷ xs) =
    let e : suc less - 1 ≡ less = omega arith in
    rw e (ap (λ (t : List ℕ). x ∷ (take less xs ++ t)) (concat-after less less xs) ∙ ap (λ (t : List ℕ). x ∷ t) (take-append-drop less xs))

-- The run is not empty, has at most `most` elements, and all of them have the property.
pub record IsRun (P : ℕ → Type 0) (most : ℕ) (run : List ℕ) : Type 0 where
  pub all : AllByRecursion P run
  pub some : 0 < length run
  pub few : length run ≤ most

all-take : (P : ℕ → Type 0) (n : ℕ) (xs : List ℕ) → AllByRecursion P xs → AllByRecursion P (take n xs)
all-take P zero xs all = tt
all-take P (suc n) [] all = tt
all-take P (suc n) (x ∷ xs) (here, all) = (here, all-take P n xs all)

pub runs-after : (P : ℕ → Type 0) (skip less : ℕ) (xs : List ℕ) → AllByRecursion P xs → AllByRecursion (IsRun P (suc less)) (runs_after skip (suc less) xs)
unfolding runs_after
runs-after P skip less [] all = tt
runs-after P (suc skip) less (x ∷ xs) (here, all) = runs-after P skip less xs all
runs-after P zero less (x ∷ xs) (here, all) =
    let e : suc less - 1 ≡ less = omega arith in
    (record { all = (here, all-take P less xs all); some = omega arith; few = omega (arith, length-take less xs) }, rw e (runs-after P less less xs all))
