-- How a line is split into its word, descriptors, hexadecimal digits and quoted texts.
use Rattle.std.proofs.lemmas.List.Sums.{prefix_len-drop_yes, prefix_len-drop_no, prefix_len-drop_all}
use Rattle.std.proofs.Common.{◌≡◌, ℕ, zero, suc, ◌+◌, ◌-◌, ◌<◌, ◌≤◌, ◌==◌, Bool, true, false, List, [], ◌∷◌, ◌++◌, length, take, drop, refl, sym, ap, ◌∙◌, arith, Option, Some, None, append-nil, append_assoc, if◌then◌else◌, ◌&&◌, not, codes, ◌*◌, ◌%◌, nat_le, nat_lt, length-drop, length-set, length-take, subst, slice_index, option_map, MatchOption, slice_set, unwrap_or, ◌||◌}
use Rattle.std.specs.Borrow.{Bor}
use Rattle.std.specs.List.{list_all, prefix_len, position_or_len}
use Rattle.std.specs.Str.{bytes_eq}
use Rattle.std.proofs.lemmas.Bool.Decides.{nat_tests}
use Rattle.std.proofs.lemmas.Grind.{common_steps}
use Rattle.std.proofs.lemmas.List.{drop_all, drop-drop}
use Rattle.bufr_bits.proofs.DecimalLemmas.{and_first, and_second}
use Rattle.bufr_tables.specs.Prelude.{fxy_of, is_fxy, f_in, x_in, y_in}
use Rattle.bufr_text.specs.Prelude.{without_space, without_prefix, fxy_read, is_number_octet, is_hashed, is_end_or_comment, hex_read, onto_read, descriptors_read, either_value, pair_value, QuotedToken, Closed, Octet, Nothing, is_unescaped, upper_value, escape_of, quoting_of, quoted_on, quoted_read, Describes, Unhexes, Unquotes, value_read, number_value, Skipped, ItemLine, Local1, Section2, with_one_to, item_line, item_if_comment, worded, line_of, Descriptors, Invalid}
use Rattle.bufr_fill.specs.Prelude.{number_token, reference_token, DraftValue, text_form, missing_form}
use Rattle.memchr.specs.Find.{IsFirstByte, is_byte}
use Rattle.std.specs.Char.{is_ascii_digit}
use Rattle.std.proofs.Math.Seq.{drop-nil}
use Rattle.bufr_text.proofs.LineLemmas.{octet_onto}
use Rattle.std.specs.Option.{option_map_or}
use Rattle.bufr_tables.specs.Fxy.{◌>>=◌}

-- The first `count` descriptors of the text were read into `out`.
pub record IsDescribing (text out : List ℕ) (count : ℕ) : Type 0 where
  pub within : 7 * count ≤ length text
  pub some : 0 < length text
  pub short : length text ≤ 56
  pub room : length out ≡ 8
  pub read : descriptors_read text ≡ option_map (λ more. take count out ++ more) (descriptors_read (drop (7 * count) text))

-- The first `count` octets that the text represents were read into `out`.
pub record IsUnhexing (text out : List ℕ) (count : ℕ) : Type 0 where
  pub within : 2 * count ≤ length text
  pub room : length text ≤ 2 * length out
  pub read : hex_read text ≡ option_map (λ more. take count out ++ more) (hex_read (drop (2 * count) text))

-- prepends octets to the result of reading; a failure stays
abbrev pub octets_onto : List ℕ → Option (List ℕ × List ℕ) → Option (List ℕ × List ℕ)
octets_onto octets None = None
octets_onto octets (Some read) = Some (octets ++ read.0, read.1)

-- The first `count` octets of a quoted text were read into `out`; the next octet is at index `at`.
pub record IsUnquoting (text out : List ℕ) (count at : ℕ) : Type 0 where
  pub few : count ≤ at
  pub within : at ≤ length text
  pub room : length text ≤ length out
  pub read : quoted_read 0 text ≡ octets_onto (take count out) (quoted_read 0 (drop at text))

-- The octets before index `at` are part of the token.
pub record IsTokenTo (text : List ℕ) (at : ℕ) : Type 0 where
  pub within : at ≤ length text
  pub ahead : prefix_len is_number_octet text ≡ at + prefix_len is_number_octet (drop at text)

pub fxy-six : (text : List ℕ) → 6 ≤ length text → fxy_read text ≡ option_map (λ fxy. (fxy, drop 6 text)) (fxy_of (take 6 text))
unfolding fxy_read
fxy-six (a ∷ b ∷ c ∷ d ∷ e ∷ g ∷ more) h = refl
fxy-six text h = absurd (omega arith)

pub fxy-few : (text : List ℕ) → length text < 6 → fxy_read text ≡ None
unfolding fxy_read
fxy-few text h1 = grind arith

pub ruleset by_six = (fxy-six, fxy-few)

-- ---- Words.

pub word-there : (word text : List ℕ) → bytes_eq (take (length word) text) word ≡ true → without_prefix word text ≡ Some (drop (length word) text)
unfolding without_prefix
word-there [] text h = refl
word-there (w ∷ word) [] h = absurd cc
word-there (w ∷ word) (c ∷ text) h =
    rw (and_first (c == w) (bytes_eq (take (length word) text) word) h) (word-there word text (and_second (c == w) (bytes_eq (take (length word) text) word) h))

first-else : (a b : Bool) → (a && b) ≡ false → a ≡ true → b ≡ false
first-else true b h e = h
first-else false b h e = absurd cc

absent-by : (b : Bool) (rest : Option (List ℕ)) → (b ≡ true → rest ≡ None) → (if b then rest else None) ≡ None
absent-by true rest none = none refl
absent-by false rest none = refl

pub word-absent : (word text : List ℕ) → bytes_eq (take (length word) text) word ≡ false → without_prefix word text ≡ None
unfolding without_prefix
word-absent [] text h = absurd cc
word-absent (w ∷ word) [] h = refl
word-absent (w ∷ word) (c ∷ text) h =
    absent-by (c == w) (without_prefix word text) (λ e. word-absent word text (first-else (c == w) (bytes_eq (take (length word) text) word) h e))

-- ---- Tokens.

one-on : (text : List ℕ) (at : ℕ) → at < length text → drop at text ≡ slice_index text at ∷ drop (at + 1) text
one-on text at h = grind (arith, common_steps)

pub token-on : (text : List ℕ) (at : ℕ) → IsTokenTo text at → at < length text → is_number_octet (slice_index text at) ≡ true → IsTokenTo text (at + 1)
token-on text at h some is = record { within = omega (arith, some); ahead = omega (arith, h.ahead, prefix_len-drop_yes is_number_octet text at 0 some is) }

pub token-stop : (text : List ℕ) (at : ℕ) → IsTokenTo text at → at < length text → is_number_octet (slice_index text at) ≡ false → at ≡ prefix_len is_number_octet text
token-stop text at h some is = omega (arith, h.ahead, prefix_len-drop_no is_number_octet text at 0 some is)

pub token-end : (text : List ℕ) (at : ℕ) → IsTokenTo text at → length text ≤ at → at ≡ prefix_len is_number_octet text
token-end text at h past = omega (arith, h.ahead, prefix_len-drop_all)

-- ---- Values.

abbrev text_value : List ℕ → Option (DraftValue × List ℕ)
text_value text = option_map (λ read. (text_form (read.0), read.1)) (quoted_read 0 text)

abbrev missing_value : List ℕ → Option (DraftValue × List ℕ)
missing_value text = option_map (λ rest. (missing_form, rest)) (without_prefix (codes "MISSING") text)

pub value-quote : (text : List ℕ) → slice_index text 0 ≡ 34 → value_read text ≡ text_value (drop 1 text)
unfolding value_read
value-quote [] e = absurd (omega arith)
value-quote (c ∷ more) e = let q : (c == 34) ≡ true = grind arith in rw q refl

pub value-token : (text : List ℕ) → is_number_octet (slice_index text 0) ≡ true
    → value_read text ≡ Some (number_token (take (prefix_len is_number_octet text) text), drop (prefix_len is_number_octet text) text)
unfolding value_read
value-token text h1 = grind arith

pub value-word : (text : List ℕ) → (slice_index text 0 ≡ 34 → ⊥) → is_number_octet (slice_index text 0) ≡ false → value_read text ≡ missing_value text
unfolding value_read without_prefix
value-word text h1 h2 = grind arith

-- the value of a missing item, and the text after the word `MISSING`
pub value-missing : (text rest : List ℕ) → Some rest ≡ without_prefix (codes "MISSING") text → value_read text ≡ Some (missing_form, rest)
unfolding value_read without_prefix
value-missing text rest h = grind (arith, h)

pub word-is : (word text : List ℕ) (r : Option (Bor (List ℕ))) → MatchOption r (bytes_eq (take (length word) text) word ≡ false)
    (λ x. (bytes_eq (take (length word) text) word ≡ true) × (x.now ≡ drop (length word) text) × (length x.now + length word ≡ length text)) → option_map (λ s. s.now) r ≡ without_prefix word text
word-is word text None h = sym (word-absent word text h)
word-is word text (Some x) h = ap Some h.1 ∙ sym (word-there word text h.0)

-- A token ends before the first octet that cannot be part of a number.
octets-while : (text : List ℕ) (count : ℕ) → count ≤ length text → list_all is_number_octet (take count text) ≡ true → is_number_octet (slice_index (drop count text) 0) ≡ false
    → prefix_len is_number_octet text ≡ count
octets-while [] zero le all stop = refl
octets-while [] (suc count) le all stop = absurd (omega arith)
octets-while (c ∷ text) zero le all stop = rw stop
octets-while (c ∷ text) (suc count) le all stop =
    let one = and_first (is_number_octet c) (list_all is_number_octet (take count text)) all in
    let rest = octets-while text count (omega arith) (and_second (is_number_octet c) (list_all is_number_octet (take count text)) all) stop in
    ap (λ b. if b then 1 + prefix_len is_number_octet text else 0) one ∙ omega (arith, rest)

octet-first : (text : List ℕ) (count : ℕ) → 0 < count → count ≤ length text → list_all is_number_octet (take count text) ≡ true → is_number_octet (slice_index text 0) ≡ true
octet-first text count h1 h2 h3 = grind arith

pub value-decimal : (text token : List ℕ) (count : ℕ) → 0 < count → count ≤ length text → take count text ≡ token → list_all is_number_octet (take count text) ≡ true
    → is_number_octet (slice_index (drop count text) 0) ≡ false → value_read text ≡ Some (number_token token, drop count text)
value-decimal text token count some le is all stop = cc (value-token text (octet-first text count some le all), octets-while text count le all stop)

-- ---- One space.

pub space-none : (text : List ℕ) → length text ≡ 0 → without_space text ≡ None
unfolding without_prefix
space-none [] h = refl
space-none (c ∷ more) h = absurd (omega arith)

pub space-there : (text : List ℕ) → slice_index text 0 ≡ 32 → without_space text ≡ Some (drop 1 text)
unfolding without_prefix
space-there [] e = absurd (omega arith)
space-there (c ∷ more) e = let q : (c == 32) ≡ true = grind arith in rw q refl

pub space-absent : (text : List ℕ) → (slice_index text 0 ≡ 32 → ⊥) → without_space text ≡ None
unfolding without_prefix
space-absent [] e = refl
space-absent (c ∷ more) e = let q : (c == 32) ≡ false = grind arith in rw q refl

pub ruleset space_steps = (space-none, space-there, space-absent)

pub ruleset value_steps = (value-quote, value-token, value-word)

-- ---- Comments.

hashed-one : (c : ℕ) (more : List ℕ) → c ≡ 32 → is_hashed (c ∷ more) ≡ is_hashed more
unfolding is_hashed
hashed-one c more e = let q : (c == 32) ≡ true = grind arith in rw q refl

hashed-stop : (c : ℕ) (more : List ℕ) → (c ≡ 32 → ⊥) → is_hashed (c ∷ more) ≡ (c == 35)
unfolding is_hashed
hashed-stop c more e = let q : (c == 32) ≡ false = grind arith in rw q refl

pub hashed-space : (text : List ℕ) (at : ℕ) → at < length text → slice_index text at ≡ 32 → is_hashed (drop at text) ≡ is_hashed (drop (at + 1) text)
hashed-space text at h e = ap is_hashed (one-on text at h) ∙ hashed-one (slice_index text at) (drop (at + 1) text) e

pub hashed-other : (text : List ℕ) (at : ℕ) → at < length text → (slice_index text at ≡ 32 → ⊥) → is_hashed (drop at text) ≡ (slice_index text at == 35)
hashed-other text at h e = ap is_hashed (one-on text at h) ∙ hashed-stop (slice_index text at) (drop (at + 1) text) e

pub hashed-end : (text : List ℕ) (at : ℕ) → length text ≤ at → is_hashed (drop at text) ≡ false
unfolding is_hashed
hashed-end text at h = ap is_hashed (drop_all at text h)

pub passed-space : (text : List ℕ) → slice_index text 0 ≡ 32 → is_end_or_comment text ≡ is_hashed text
passed-space [] e = absurd (omega arith)
passed-space (c ∷ more) e = let q : (c == 32) ≡ true = grind arith in rw q (sym (hashed-one c more e))

pub passed-other : (text : List ℕ) → 0 < length text → (slice_index text 0 ≡ 32 → ⊥) → is_end_or_comment text ≡ false
passed-other [] some e = absurd (omega arith)
passed-other (c ∷ more) some e = let q : (c == 32) ≡ false = grind arith in rw q refl

pub passed-none : (text : List ℕ) → length text ≡ 0 → is_end_or_comment text ≡ true
passed-none [] e = refl
passed-none (c ∷ more) e = absurd (omega arith)

pub passed-comment : (text : List ℕ) → 3 ≤ length text → slice_index text 0 ≡ 32 → slice_index text 1 ≡ 32 → slice_index text 2 ≡ 35 → is_end_or_comment text ≡ true
unfolding is_hashed
passed-comment text h1 h2 h3 h4 = grind (arith, common_steps)

pub ruleset hash_steps = (hashed-space, hashed-other, hashed-end, passed-space, passed-other, passed-none, passed-comment)

-- ---- References.

pub reference-some : (text : List ℕ) → is_number_octet (slice_index text 0) ≡ true
    → number_value reference_token text ≡ Some (reference_token (take (prefix_len is_number_octet text) text), drop (prefix_len is_number_octet text) text)
reference-some text e = grind arith

pub reference-none : (text : List ℕ) → is_number_octet (slice_index text 0) ≡ false → number_value reference_token text ≡ None
reference-none [] e = refl
reference-none (c ∷ more) e = rw e refl

pub ruleset reference_steps = (reference-some, reference-none)

-- ---- The first word of a line.

abbrev pub word_len : List ℕ → ℕ
word_len line = position_or_len (λ octet. octet == 32) line

no-space : (c : ℕ) → ((c == 32) ≡ true → ⊥) → not (c == 32) ≡ true
no-space c h1 = grind arith

pub word-whole : (line : List ℕ) → ((k : ℕ) → 0 ≤ k → k < length line → (slice_index line k == 32) ≡ true → ⊥) → length line ≡ word_len line
word-whole [] none = refl
word-whole (c ∷ line) none =
    let rest = word-whole line (λ k low below. none (suc k) (omega arith) (omega arith)) in
    omega (arith, rest) ∙ sym (ap (λ b. if b then 1 + word_len line else 0) (no-space c (none 0 (omega arith) (omega arith))))

pub word-to : (line : List ℕ) (n : ℕ) → n < length line → ((k : ℕ) → 0 ≤ k → k < n → (slice_index line k == 32) ≡ true → ⊥) → (slice_index line n == 32) ≡ true → n ≡ word_len line
word-to [] n h none e = absurd (omega arith)
word-to (c ∷ line) zero h none e = rw e
word-to (c ∷ line) (suc n) h none e =
    let rest = word-to line n (omega arith) (λ k low below. none (suc k) (omega arith) (omega arith)) e in
    omega (arith, rest) ∙ sym (ap (λ b. if b then 1 + word_len line else 0) (no-space c (none 0 (omega arith) (omega arith))))

pub word-at : (line : List ℕ) (r : Option ℕ) (n : ℕ) → IsFirstByte (is_byte 32) line r → n ≡ unwrap_or r (length line) → n ≡ word_len line
word-at line None n h is = is ∙ word-whole line h
word-at line (Some m) n h is = is ∙ word-to line m h.0.high h.0.before h.1

-- ---- A line, by its first octet.

pub line-none : (line : List ℕ) → length line ≡ 0 → line_of line ≡ Skipped
unfolding line_of
line-none [] e = refl
line-none (c ∷ line) e = absurd (omega arith)

pub line-note : (line : List ℕ) → slice_index line 0 ≡ 35 → line_of line ≡ Skipped
unfolding line_of
line-note [] e = refl
line-note (c ∷ line) e = let q : (c == 35) ≡ true = grind arith in rw q refl

pub line-item : (line : List ℕ) → (slice_index line 0 ≡ 35 → ⊥) → is_ascii_digit (slice_index line 0) ≡ true
    → line_of line ≡ unwrap_or (item_line value_read line) Invalid
unfolding line_of
line-item [] e d = absurd cc
line-item (c ∷ line) e d = let q : (c == 35) ≡ false = grind arith in rw (q, d) refl

pub line-word : (line : List ℕ) → 0 < length line → (slice_index line 0 ≡ 35 → ⊥) → is_ascii_digit (slice_index line 0) ≡ false
    → line_of line ≡ unwrap_or (worded (take (word_len line) line) (drop (word_len line) line)) Invalid
unfolding line_of
line-word [] some e d = absurd (omega arith)
line-word (c ∷ line) some e d = let q : (c == 35) ≡ false = grind arith in rw (q, d) refl

-- ---- An item line, by its parts.

is-fxy : (text : List ℕ) (fxy : ℕ) → Some fxy ≡ fxy_of text → is_fxy text ≡ true
is-fxy text fxy h = by (is_fxy text) h
  where
    by : (b : Bool) → Some fxy ≡ (if b then Some (16384 * f_in text + 256 * x_in text + y_in text) else None) → b ≡ true
    by true h = refl
    by false h = absurd cc

begins-by-digit : (line : List ℕ) (fxy : ℕ) → 6 ≤ length line → Some fxy ≡ fxy_of (take 6 line) → is_ascii_digit (slice_index line 0) ≡ true
begins-by-digit [] fxy h is = absurd (omega arith)
begins-by-digit (c ∷ more) fxy h is = grind (arith, nat_tests, is-fxy (take 6 (c ∷ more)) fxy is)

-- An item line says the value after its descriptor and one space.
pub item-line : (line text : List ℕ) (fxy : ℕ) → 6 ≤ length line → Some text ≡ without_space (drop 6 line) → Some fxy ≡ fxy_of (take 6 line)
    → line_of line ≡ unwrap_or (value_read text >>= item_if_comment fxy) Invalid
item-line line text fxy h space is =
    let digit = begins-by-digit line fxy h is in
    line-item line (λ (e : slice_index line 0 ≡ 35). absurd (grind (arith, nat_tests, digit))) digit
    ∙ rw (fxy-six line h, sym is, sym space) refl

-- Six digits are a descriptor if F, X and Y are not too large.
fits-fxy : (text : List ℕ) (fxy : ℕ) → length text ≡ 6 → list_all is_ascii_digit text ≡ true → f_in text ≤ 3 → x_in text ≤ 63 → y_in text ≤ 255
    → fxy ≡ f_in text * 16384 + x_in text * 256 + y_in text → Some fxy ≡ fxy_of text
fits-fxy text fxy h1 h2 h3 h4 h5 h6 = grind arith

spaced-line : (line : List ℕ) (f x y fxy : ℕ) → 7 ≤ length line → slice_index line 6 ≡ 32 → list_all is_ascii_digit (take 6 line) ≡ true → f ≤ 3 → x ≤ 63 → y ≤ 255
    → f ≡ f_in line → x ≡ x_in line → y ≡ y_in line → fxy ≡ f * 16384 + x * 256 + y
    → line_of line ≡ unwrap_or (value_read (drop 7 line) >>= item_if_comment fxy) Invalid
spaced-line line f x y fxy long space digits h_f_most h_x_most h_y_most h_f_is h_x_is h_y_is is = grind (arith, common_steps, item-line, space-there, fits-fxy)

-- the difference of an octet and `0`, with wrapping
abbrev pub wrapped : List ℕ → ℕ → ℕ
wrapped line at = (slice_index line at + 208) % 256

-- whether a line begins with a digit up to 3, five digits and a space
abbrev pub is_spaced : List ℕ → Bool
is_spaced line =
    nat_lt (wrapped line 0) 4 && nat_lt (wrapped line 1) 10 && nat_lt (wrapped line 2) 10 && nat_lt (wrapped line 3) 10 && nat_lt (wrapped line 4) 10 && nat_lt (wrapped line 5) 10
    && (slice_index line 6 == 32)

seven-tests : (a b c d e g s : ℕ) → (nat_lt a 4 && nat_lt b 10 && nat_lt c 10 && nat_lt d 10 && nat_lt e 10 && nat_lt g 10 && (s == 32)) ≡ true
    → (a < 4) × (b < 10) × (c < 10) × (d < 10) × (e < 10) × (g < 10) × (s ≡ 32)
seven-tests a b c d e g s h1 = grind arith

-- An octet is a digit if this difference is less than 10.
unwrapped : (line : List ℕ) (at : ℕ) → slice_index line at < 256 → wrapped line at < 10 → slice_index line at ≡ 48 + wrapped line at
unwrapped line at h1 h2 = omega arith

at-most : (f n : ℕ) → f ≡ n → n < 4 → f ≤ 3
at-most f n h1 h2 = omega arith

digit-is : (f n octet : ℕ) → f ≡ n → octet ≡ 48 + n → f ≡ octet - 48
digit-is f n octet h1 h2 = omega arith

x-is : (line : List ℕ) (b c m n : ℕ) → b ≡ m → c ≡ n → slice_index line 1 ≡ 48 + m → slice_index line 2 ≡ 48 + n → 10 * b + c ≡ x_in line
x-is line b c m n h1 h2 h3 h4 = omega arith

y-is : (line : List ℕ) (d e g m n o : ℕ) → d ≡ m → e ≡ n → g ≡ o → slice_index line 3 ≡ 48 + m → slice_index line 4 ≡ 48 + n → slice_index line 5 ≡ 48 + o → 100 * d + 10 * e + g ≡ y_in line
y-is line d e g m n o h1 h2 h3 h4 h5 h6 = omega arith

is-digit : (c n : ℕ) → c ≡ 48 + n → n < 10 → is_ascii_digit c ≡ true
is-digit c n h1 h2 = grind arith

all-digits : (line : List ℕ) → 7 ≤ length line → is_ascii_digit (slice_index line 0) ≡ true → is_ascii_digit (slice_index line 1) ≡ true → is_ascii_digit (slice_index line 2) ≡ true
    → is_ascii_digit (slice_index line 3) ≡ true → is_ascii_digit (slice_index line 4) ≡ true → is_ascii_digit (slice_index line 5) ≡ true → list_all is_ascii_digit (take 6 line) ≡ true
all-digits (a ∷ b ∷ c ∷ d ∷ e ∷ g ∷ more) long h1 h2 h3 h4 h5 h6 = rw (h1, h2, h3, h4, h5, h6) refl
all-digits line long h1 h2 h3 h4 h5 h6 = absurd (omega arith)

-- A line that passes the tests is an item line.
pub spaced-item : (line : List ℕ) (f b c d e g fxy : ℕ) → 8 ≤ length line → ((i : ℕ) → slice_index line i < 256) → is_spaced line ≡ true → f ≡ wrapped line 0 → b ≡ wrapped line 1 → c ≡ wrapped line 2
    → d ≡ wrapped line 3 → e ≡ wrapped line 4 → g ≡ wrapped line 5 → 10 * b + c ≤ 63 → 100 * d + 10 * e + g ≤ 255 → fxy ≡ f * 16384 + (10 * b + c) * 256 + (100 * d + 10 * e + g)
    → line_of line ≡ unwrap_or (value_read (drop 7 line) >>= item_if_comment fxy) Invalid
spaced-item line f b c d e g fxy long fits tests f-is b-is c-is d-is e-is g-is x-few y-few is =
    let (f-few, b-few, c-few, d-few, e-few, g-few, space) =
    seven-tests (wrapped line 0) (wrapped line 1) (wrapped line 2) (wrapped line 3) (wrapped line 4) (wrapped line 5) (slice_index line 6) tests in
    let first = unwrapped line 0 (fits 0) (omega arith) in
    let second = unwrapped line 1 (fits 1) b-few in
    let third = unwrapped line 2 (fits 2) c-few in
    let fourth = unwrapped line 3 (fits 3) d-few in
    let fifth = unwrapped line 4 (fits 4) e-few in
    let sixth = unwrapped line 5 (fits 5) g-few in
    let digits =
    all-digits line (omega arith) (is-digit _ _ first (omega arith)) (is-digit _ _ second b-few) (is-digit _ _ third c-few) (is-digit _ _ fourth d-few)
    (is-digit _ _ fifth e-few) (is-digit _ _ sixth g-few) in
    spaced-line line f (10 * b + c) (100 * d + 10 * e + g) fxy (omega arith) space digits (at-most f _ f-is f-few) x-few y-few (digit-is f _ _ f-is first)
    (x-is line b c _ _ b-is c-is second third) (y-is line d e g _ _ _ d-is e-is g-is fourth fifth sixth) is

pub item-read : (text rest : List ℕ) (fxy : ℕ) (form : DraftValue) → value_read text ≡ Some (form, rest) → is_end_or_comment rest ≡ true
    → unwrap_or (value_read text >>= item_if_comment fxy) Invalid ≡ ItemLine fxy form
item-read text rest fxy form value passed = rw (value, passed) refl

pub ruleset read_steps = (line-none, line-note, line-item, line-word)

-- ---- Lines of octets.

pub local1-worded : (word rest : List ℕ) → bytes_eq word (codes "message") ≡ false → bytes_eq word (codes "local1") ≡ true
    → worded word rest ≡ (without_space rest >>= hex_read >>= with_one_to 32 Local1)
unfolding worded
local1-worded word rest a b = rw (a, b) refl

pub section2-worded : (word rest : List ℕ) → bytes_eq word (codes "message") ≡ false → bytes_eq word (codes "local1") ≡ false → bytes_eq word (codes "section2") ≡ true
    → worded word rest ≡ (without_space rest >>= hex_read >>= with_one_to 32 Section2)
unfolding worded
section2-worded word rest a b d = rw (a, b, d) refl

-- ---- The descriptors of a line are read one at a time.

one-set : (out : List ℕ) (count word : ℕ) → count < length out → take (count + 1) (slice_set out count word) ≡ take count out ++ word ∷ []
one-set out count word h = grind (arith, common_steps)

-- a descriptor after a space
first-on : (t : List ℕ) → 7 ≤ length t → descriptors_read t ≡ (if slice_index t 0 == 32 then onto_read (fxy_of (take 6 (drop 1 t))) (descriptors_read (drop 7 t)) else None)
unfolding descriptors_read
first-on (s ∷ a ∷ b ∷ c ∷ d ∷ e ∷ g ∷ more) h = refl
first-on t h = absurd (omega arith)

few-none : (t : List ℕ) → 0 < length t → length t < 7 → descriptors_read t ≡ None
unfolding descriptors_read
few-none t h1 h2 = grind arith

no-space-on : (t : List ℕ) → 7 ≤ length t → (slice_index t 0 ≡ 32 → ⊥) → descriptors_read t ≡ None
no-space-on t h e =
    let q : (slice_index t 0 == 32) ≡ false = grind arith in
    first-on t h ∙ rw q refl

no-fxy-on : (t : List ℕ) → 7 ≤ length t → slice_index t 0 ≡ 32 → fxy_of (take 6 (drop 1 t)) ≡ None → descriptors_read t ≡ None
no-fxy-on t h1 h2 h3 = grind (arith, first-on)

fxy-on : (t : List ℕ) (word : ℕ) → 7 ≤ length t → slice_index t 0 ≡ 32 → fxy_of (take 6 (drop 1 t)) ≡ Some word → descriptors_read t ≡ onto_read (Some word) (descriptors_read (drop 7 t))
fxy-on t word h1 h2 h3 = grind (arith, first-on)

onto-more : (xs : List ℕ) (word : ℕ) (read : Option (List ℕ)) → option_map (λ more. xs ++ more) (onto_read (Some word) read) ≡ option_map (λ more. (xs ++ word ∷ []) ++ more) read
onto-more xs word None = refl
onto-more xs word (Some read) = ap Some (sym (append_assoc xs (word ∷ []) read))

wrong : (text : List ℕ) → descriptors_read text ≡ None → (descriptors_read text >>= with_one_to 8 Descriptors) ≡ None
wrong text e = rw e

module _ (text out : List ℕ) (count : ℕ) (is : IsDescribing text out count) where
  none-after : descriptors_read (drop (7 * count) text) ≡ None → Describes text out None
  none-after e = wrong text (is.read ∙ ap (option_map (λ more. take count out ++ more)) e)

  pub describing-short : 7 * count < length text → length (drop (7 * count) text) < 7 → Describes text out None
  describing-short h few = none-after (few-none (drop (7 * count) text) (omega (arith, length-drop (7 * count) text)) few)

  pub describing-no-space : 7 ≤ length (drop (7 * count) text) → (slice_index (drop (7 * count) text) 0 ≡ 32 → ⊥) → Describes text out None
  describing-no-space long e = none-after (no-space-on (drop (7 * count) text) long e)

  pub describing-no-fxy : 7 ≤ length (drop (7 * count) text) → slice_index (drop (7 * count) text) 0 ≡ 32 → fxy_of (take 6 (drop 1 (drop (7 * count) text))) ≡ None → Describes text out None
  describing-no-fxy long e f = none-after (no-fxy-on (drop (7 * count) text) long e f)

  pub describing-on : (word : ℕ) → 7 ≤ length (drop (7 * count) text) → slice_index (drop (7 * count) text) 0 ≡ 32 → fxy_of (take 6 (drop 1 (drop (7 * count) text))) ≡ Some word
      → IsDescribing text (slice_set out count word) (count + 1)
  describing-on word long e f =
      let long' = length-drop (7 * count) text in
      let next : 7 * count + 7 ≡ 7 * (count + 1) = omega arith in
      record {
        within = omega (arith, long, long', is.within);
        some = is.some;
        short = is.short;
        room = omega (arith, is.room, length-set out count word);
        read = is.read
            ∙ ap (option_map (λ more. take count out ++ more)) (fxy-on (drop (7 * count) text) word long e f)
            ∙ ap (λ (s : List ℕ). option_map (λ more. take count out ++ more) (onto_read (Some word) (descriptors_read s))) (drop-drop 7 (7 * count) text)
            ∙ onto-more (take count out) word (descriptors_read (drop (7 * count + 7) text))
            ∙ ap (λ (s : List ℕ). option_map (λ more. s ++ more) (descriptors_read (drop (7 * count + 7) text))) (sym (one-set out count word (omega (arith, is.room, is.short, long, long'))))
            ∙ ap (λ (k : ℕ). option_map (λ more. take (count + 1) (slice_set out count word) ++ more) (descriptors_read (drop k text))) next;
      }

  pub describing-whole : length text ≤ 7 * count → Describes text out (Some count)
  unfolding descriptors_read
  describing-whole done =
      let some : 0 < count = omega (arith, is.some, done) in
      let few : count ≤ 8 = omega (arith, is.within, is.short) in
      let long : length (take count out) ≡ count = omega (arith, length-take count out, is.room, few) in
      let read : descriptors_read text ≡ Some (take count out) = rw (is.read, drop_all, append-nil) in
      let bounds : (nat_lt 0 (length (take count out)) && nat_le (length (take count out)) 8) ≡ true = grind (arith, nat_tests, long, some, few) in
      (omega (arith, is.room, few), ap (λ o. o >>= with_one_to 8 Descriptors) read ∙ rw bounds refl)

-- If a text has no descriptors, or more than eight, the line is invalid.
some-same : (a b : List ℕ) → Some a ≡ Some b → a ≡ b
some-same a b e = cc (e)

onto-some : (b : Bool) (w : Option ℕ) (r : Option (List ℕ)) (xs : List ℕ) → (if b then onto_read w r else None) ≡ Some xs → (word : ℕ) × (ys : List ℕ) × (r ≡ Some ys) × (xs ≡ word ∷ ys)
onto-some b w r xs h1 = grind (arith, nat_tests, common_steps)

length-read : (t xs : List ℕ) → descriptors_read t ≡ Some xs → length t ≡ 7 * length xs
unfolding descriptors_read
length-read [] xs e = omega (arith, ap length (some-same [] xs e))
length-read (s ∷ a ∷ b ∷ c ∷ d ∷ f ∷ g ∷ more) xs e =
    let (word, ys, r, same) = onto-some (s == 32) (fxy_of (a ∷ b ∷ c ∷ d ∷ f ∷ g ∷ [])) (descriptors_read more) xs e in
    omega (arith, length-read more ys r, ap length same)
length-read t xs e = absurd cc

pub describing-long : (text out : List ℕ) → 56 < length text → Describes text out None
describing-long text out h1 = grind (arith, length-read)

pub describing-none : (text out : List ℕ) → length text ≡ 0 → Describes text out None
unfolding descriptors_read
describing-none [] out e = refl
describing-none (x ∷ text) out e = absurd (omega arith)

-- ---- The octets of a line are read one at a time.

two-on : (text : List ℕ) (at : ℕ) → at + 1 < length text → drop at text ≡ slice_index text at ∷ slice_index text (at + 1) ∷ drop (at + 2) text
two-on text at h = grind (arith, common_steps)

hex-two : (a b : ℕ) (more : List ℕ) → hex_read (a ∷ b ∷ more) ≡ onto_read (pair_value (either_value a) (either_value b)) (hex_read more)
unfolding hex_read
hex-two a b more = refl

pub unhexing-on : (text out : List ℕ) (count high low : ℕ) → IsUnhexing text out count → 2 * count + 1 < length text → Some high ≡ either_value (slice_index text (2 * count))
    → Some low ≡ either_value (slice_index text (2 * count + 1))
    → IsUnhexing text (slice_set out count (16 * high + low)) (count + 1)
unhexing-on text out count high low h1 h2 h3 h4 = grind (arith, common_steps, hex-two)

none-left : (v : Option ℕ) → pair_value v None ≡ None
none-left (Some x) = refl
none-left None = refl

none-read : (read : Option (List ℕ)) (v : Option ℕ) → v ≡ None → onto_read v read ≡ None
none-read read v e = rw e

pub unhexing-wrong : (text out : List ℕ) (count : ℕ) → IsUnhexing text out count → 2 * count + 1 < length text
    → pair_value (either_value (slice_index text (2 * count))) (either_value (slice_index text (2 * count + 1))) ≡ None → hex_read text ≡ None
unhexing-wrong text out count h1 h2 h3 = grind (arith, two-on, hex-two)

pub high-wrong : (text : List ℕ) (count : ℕ) → None ≡ either_value (slice_index text (2 * count))
    → pair_value (either_value (slice_index text (2 * count))) (either_value (slice_index text (2 * count + 1))) ≡ None
high-wrong text count e = cc (e)

pub low-wrong : (text : List ℕ) (count : ℕ) → None ≡ either_value (slice_index text (2 * count + 1))
    → pair_value (either_value (slice_index text (2 * count))) (either_value (slice_index text (2 * count + 1))) ≡ None
low-wrong text count e = cc (e, none-left (either_value (slice_index text (2 * count))))

pub unhexing-whole : (text out : List ℕ) (count : ℕ) → IsUnhexing text out count → 2 * count ≡ length text → Unhexes text out (Some count)
unfolding hex_read
unhexing-whole text out count is h = grind (arith, common_steps, is.room)

odd : (rest : List ℕ) → length rest ≡ 1 → hex_read rest ≡ None
unfolding hex_read
odd rest h1 = grind arith

pub unhexing-odd : (text out : List ℕ) (count : ℕ) → IsUnhexing text out count → length text ≤ 2 * count + 1 → (2 * count ≡ length text → ⊥) → hex_read text ≡ None
unhexing-odd text out count is h e = cc (is.read, odd (drop (2 * count) text) (omega (arith, is.within, length-drop (2 * count) text)))

-- ---- The octets of a quoted text are read one at a time.

-- Skipping octets gives the same result as dropping them.
pub quoted-skip : (k : ℕ) (text : List ℕ) → quoted_read k text ≡ quoted_read 0 (drop k text)
unfolding quoted_read
quoted-skip k [] = rw drop-nil refl
quoted-skip zero (c ∷ text) = refl
quoted-skip (suc k) (c ∷ text) = quoted-skip k text

written-in : QuotedToken → ℕ
written-in (Octet octet written) = written
written-in other = 1

within : (xs : List ℕ) (i : ℕ) → 0 < slice_index xs i → i < length xs
within [] i h = absurd (omega arith)
within (x ∷ xs) zero h = omega arith
within (x ∷ xs) (suc i) h = omega (arith, within xs i h)

IsIn : List ℕ → QuotedToken → Type 0
IsIn text q = (1 ≤ written-in q) × (0 < length text → written-in q ≤ length text)

pair-in : (text : List ℕ) (high : Option ℕ) (c : ℕ) → c ≡ slice_index text 3 → IsIn text (option_map_or (λ octet. Octet octet 4) (pair_value high (upper_value c)) Nothing)
unfolding IsIn written-in
pair-in text high c h1 = grind (arith, common_steps)

escape-by : (text : List ℕ) (a b : Bool) → ((slice_index text 1 == 34) || (slice_index text 1 == 92)) ≡ a → (slice_index text 1 == 120) ≡ b
    → IsIn text (if a then Octet (slice_index text 1) 2 else if b then option_map_or (λ octet. Octet octet 4) (pair_value (upper_value (slice_index text 2)) (upper_value (slice_index text 3)))
    Nothing else Nothing)
unfolding IsIn written-in
escape-by text true b e f =
    let there : 0 < slice_index text 1 = grind (arith, nat_tests, e) in
    (omega arith, λ some. omega (arith, within text 1 there))
escape-by text false true e f = pair-in text (upper_value (slice_index text 2)) (slice_index text 3) refl
escape-by text false false e f = (omega arith, λ some. omega arith)

quoting-by : (text : List ℕ) (a b c : Bool)
    → IsIn text (if a then Closed else if b then escape_of text else if c then Octet (slice_index text 0) 1 else Nothing)
unfolding IsIn written-in
quoting-by text true b c = (omega arith, λ some. omega arith)
quoting-by text false true c = escape-by text ((slice_index text 1 == 34) || (slice_index text 1 == 92)) (slice_index text 1 == 120) refl refl
quoting-by text false false true = (omega arith, λ some. omega arith)
quoting-by text false false false = (omega arith, λ some. omega arith)

pub says-in : (text : List ℕ) (octet written : ℕ) → Octet octet written ≡ quoting_of text → 0 < length text → (1 ≤ written) × (written ≤ length text)
unfolding IsIn written-in
says-in text octet written e some =
    let q : IsIn text (Octet octet written) = subst (IsIn text) (sym e) (quoting-by text (slice_index text 0 == 34) (slice_index text 0 == 92) (is_unescaped (slice_index text 0))) in
    (q.0, q.1 some)

-- what is read after an octet of the text
pub says-on : (text : List ℕ) (octet written : ℕ) → Octet octet written ≡ quoting_of text → 0 < length text → quoted_read 0 text
    ≡ octet_onto octet (quoted_read 0 (drop written text))
unfolding quoted_read
says-on [] octet written e some = absurd (omega arith)
says-on (c ∷ more) octet zero e some = absurd (omega (arith, (says-in (c ∷ more) octet zero e some).0))
says-on (c ∷ more) octet (suc k) e some =
    let one : suc k - 1 ≡ k = omega arith in
    ap (λ (q : QuotedToken). quoted_on q more (λ skip. quoted_read skip more)) (sym e)
    ∙ ap (octet_onto octet) (ap (λ (n : ℕ). quoted_read n more) one ∙ quoted-skip k more)

pub closed-on : (text : List ℕ) → Closed ≡ quoting_of text → 0 < length text → quoted_read 0 text ≡ Some ([], drop 1 text)
unfolding quoted_read
closed-on [] e some = absurd (omega arith)
closed-on (c ∷ more) e some = cc (e)

pub nothing-on : (text : List ℕ) → Nothing ≡ quoting_of text → 0 < length text → quoted_read 0 text ≡ None
unfolding quoted_read
nothing-on [] e some = absurd (omega arith)
nothing-on (c ∷ more) e some = cc (e)

pub onto-one-more : (xs : List ℕ) (octet : ℕ) (read : Option (List ℕ × List ℕ)) → octets_onto xs (octet_onto octet read) ≡ octets_onto (xs ++ octet ∷ []) read
onto-one-more xs octet None = refl
onto-one-more xs octet (Some read) = rw append_assoc

left-some : (text : List ℕ) (at : ℕ) → at < length text → 0 < length (drop at text)
left-some text at h = omega (arith, length-drop at text)

pub unquoting-within : (text : List ℕ) (at octet written : ℕ) → at < length text → Octet octet written ≡ quoting_of (drop at text) → (1 ≤ written) × (at + written ≤ length text)
unquoting-within text at octet written h e =
    let is = says-in (drop at text) octet written e (left-some text at h) in
    (is.0, omega (arith, is.1, length-drop at text))

pub unquoting-says : (text out : List ℕ) (count at octet written : ℕ) → IsUnquoting text out count at → at < length text → Octet octet written ≡ quoting_of (drop at text)
    → IsUnquoting text (slice_set out count octet) (count + 1) (at + written)
unquoting-says text out count at octet written is h e =
    let w = unquoting-within text at octet written h e in
    record {
      few = omega (arith, is.few, w.0);
      within = w.1;
      room = omega (arith, is.room, length-set out count octet);
      read = is.read ∙ ap (octets_onto (take count out)) (says-on (drop at text) octet written e (left-some text at h)
          ∙ ap (λ (t : List ℕ). octet_onto octet (quoted_read 0 t)) (drop-drop written at text))
          ∙ onto-one-more (take count out) octet (quoted_read 0 (drop (at + written) text))
          ∙ ap (λ (t : List ℕ). octets_onto t (quoted_read 0 (drop (at + written) text))) (sym (one-set out count octet (omega (arith, is.few, is.room, h))));
    }

pub unquoting-closed : (text out : List ℕ) (count at : ℕ) → IsUnquoting text out count at → at < length text → Closed ≡ quoting_of (drop at text) → Unquotes text out (Some (count, at + 1))
unquoting-closed text out count at is h e = (
  omega (arith, is.few, is.room, h),
  omega arith,
  is.read ∙ ap (octets_onto (take count out)) (closed-on (drop at text) e (left-some text at h) ∙ ap (λ (t : List ℕ). Some ([], t)) (drop-drop 1 at text))
      ∙ ap (λ (t : List ℕ). Some (t, drop (at + 1) text)) (append-nil (take count out)),
)

pub unquoting-nothing : (text out : List ℕ) (count at : ℕ) → IsUnquoting text out count at → at < length text → Nothing ≡ quoting_of (drop at text) → quoted_read 0 text ≡ None
unquoting-nothing text out count at is h e = cc (is.read, nothing-on (drop at text) e (left-some text at h))

pub unquoting-end : (text out : List ℕ) (count at : ℕ) → IsUnquoting text out count at → length text ≤ at → quoted_read 0 text ≡ None
unfolding quoted_read
unquoting-end text out count at is h = rw (is.read, drop_all)

-- rules for the goals of single functions
pub ruleset describing_steps = (describing-none, describing-long, describing-short, describing-no-space, describing-no-fxy, describing-on, describing-whole)

pub ruleset unhexing_steps = (unhexing-wrong, high-wrong, low-wrong, unhexing-on, unhexing-whole, unhexing-odd)
