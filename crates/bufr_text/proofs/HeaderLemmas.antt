-- The contents of a line are octets and descriptors. The header values fit in section 1. The state
-- of the parser is valid after every line.
use Rattle.bufr_text.proofs.LineLemmas.{both}
use Rattle.bufr_fill.proofs.EntryLemmas.{length-prepended}
use Rattle.std.proofs.Common.{◌≡◌, ℕ, ◌+◌, List, [], ◌∷◌, ◌++◌, length, refl, ap, ◌∙◌, subst, sym, arith, zero, suc, ◌-◌, ◌*◌, ◌<◌, ◌≤◌, ◌==◌, nat_le, nat_lt, Bool, true, false, Option, Some, None, codes, if◌then◌else◌, length-append, cond, map, take, drop, get_or, ◌&&◌, not, IfSome, slice_index, option_map, position, rules}
use Rattle.std.specs.Char.{is_ascii_digit}
use Rattle.std.specs.List.{AllByRecursion, position_from}
use Rattle.bufr_fill.specs.Prelude.{Draft, DraftEntry, Holds, Ends, Subset, prepend_to_subset, subsets_of, DraftValue, number_token, text_form, missing_form, reference_token, draft, HasOctets, AllHaveOctets, AreOctets}
use Rattle.bufr_text.specs.Prelude.{header_in, Document, read_line, Between, Heading, BeforeSubsets, Filling, Stopped, LineEffect, Parsing, LineStep, IsLineStep, in_range, heading, before_subsets, in_subset, beginning, closing, with_entry, line_step, are_in_range, IsHeaded, IsOctet, IsDescriptorWord, AreEnded, IsBare, HasLineGroups, EntryHasOctets, HasSubsets, IsParsing, without_space, either_value, pair_value, onto_read, hex_read, fxy_read, descriptors_read, number_read, QuotedToken, Octet, quoting_of, quoted_on, quoted_read, is_end_or_comment, Line, Skipped, MessageLine, Header, Local1, Section2, Descriptors, SubsetLine, ItemLine, EndLine, Invalid, keys, with_one_to, item_if_comment, number_value, value_read, item_line, worded, line_of, leasts, mosts, is_named, lead_of}
use Rattle.bufr_text.specs.declared.document.LineGroup.{LineGroup}
use Rattle.bufr_text.specs.declared.document.LineGroup.TheVariants as group
use Rattle.std.specs.Str.{bytes_eq}
use Rattle.std.proofs.lemmas.Bool.Decides.{nat_tests}
use Rattle.bufr_bits.proofs.DecimalLemmas.{and_first, and_second}
use Rattle.bufr_tables.specs.Prelude.{fxy_of, is_fxy, f_in, x_in, y_in}
use Rattle.bufr_frame.specs.Prelude.{IsFitting, is_edition, greatest_values, values_of}
use Rattle.bufr_frame.proofs.AgainLemmas.{at-most, by-third}
use Rattle.std.proofs.lemmas.Iterator.Adapters.{position_from-zero}
use Rattle.std.proofs.lemmas.Grind.{common_steps}
use Rattle.std.specs.Option.{unwrap_or}
use Rattle.bufr_tables.specs.Fxy.{◌>>=◌, only_if}

-- a document to which a header value, octets or descriptors are appended
abbrev pub with_value : Document → ℕ → Document
with_value d value = record d { header = d.header ++ value ∷ [] }

abbrev pub with_local1 : Document → List ℕ → Document
with_local1 d octets = record d { local1 = d.local1 ++ octets }

abbrev pub with_section2 : Document → List ℕ → Document
with_section2 d octets = record d { section2 = d.section2 ++ octets }

abbrev pub with_descriptors : Document → List ℕ → Document
with_descriptors d words = record d { descriptors = d.descriptors ++ words }

-- ---- The entries of a document, and its subsets.

pub all-more : {X : Type 0} (P : X → Type 0) (a b : List X) → AllByRecursion P a → AllByRecursion P b → AllByRecursion P (a ++ b)
all-more P [] b x y = y
all-more P (first ∷ a) b x y = (x.0, all-more P a b x.1 y)

-- An item ends no subset. An end ends one subset.
pub item-ends-none : (es : List DraftEntry) (item : Draft) → length (subsets_of (es ++ Holds item ∷ [])) ≡ length (subsets_of es)
item-ends-none [] item = refl
item-ends-none (Holds first ∷ es) item = length-prepended first (subsets_of (es ++ Holds item ∷ [])) ∙ item-ends-none es item ∙ sym (length-prepended first (subsets_of es))
item-ends-none (Ends line ∷ es) item = omega (arith, item-ends-none es item)

pub end-ends-one : (es : List DraftEntry) (at : ℕ) → length (subsets_of (es ++ Ends at ∷ [])) ≡ length (subsets_of es) + 1
end-ends-one [] at = refl
end-ends-one (Holds first ∷ es) at = length-prepended first (subsets_of (es ++ Ends at ∷ [])) ∙ end-ends-one es at ∙ ap (λ (n : ℕ). n + 1) (sym (length-prepended first (subsets_of es)))
end-ends-one (Ends line ∷ es) at = omega (arith, end-ends-one es at)

pub ends-last : (es : List DraftEntry) (at : ℕ) → AreEnded (es ++ Ends at ∷ [])
ends-last (Holds item ∷ next ∷ more) at = ends-last (next ∷ more) at
ends-last (Ends line ∷ next ∷ more) at = ends-last (next ∷ more) at
ends-last es at = tt

-- If every text in the entries consists of octets, so does every text in the subsets.
onto-octets : (item : Draft) (ss : List Subset) → HasOctets item.form → AllHaveOctets ss → AllHaveOctets (prepend_to_subset item ss)
onto-octets item [] h all = tt
onto-octets item (s ∷ ss) h (first, all) = ((h, first), all)

pub drafts-octets : (es : List DraftEntry) → AllByRecursion EntryHasOctets es → AllHaveOctets (subsets_of es)
drafts-octets [] all = tt
drafts-octets (Holds item ∷ es) (h, all) = onto-octets item (subsets_of es) h (drafts-octets es all)
drafts-octets (Ends line ∷ es) (h, all) = (tt, drafts-octets es all)

-- If nothing was read after the header, the groups of lines are valid.
pub written-bare : (d : Document) → IsBare d → HasLineGroups d
written-bare d h1 = grind arith

-- ---- The contents of a line are octets and descriptors.

-- The contents of the line are octets, descriptors or a text that consists of octets.
abbrev pub IsSound : Line → Type 0
IsSound (Local1 octets) = AllByRecursion IsOctet octets
IsSound (Section2 octets) = AllByRecursion IsOctet octets
IsSound (Descriptors words) = AllByRecursion IsDescriptorWord words
IsSound (ItemLine fxy form) = HasOctets form
IsSound other = Unit {0}

if-some : {X : Type 0} (P : X → Type 0) (b : Bool) (x y : Option X) → (b ≡ true → IfSome x P) → (b ≡ false → IfSome y P) → IfSome (if b then x else y) P
if-some P true x y p q = p refl
if-some P false x y p q = q refl

either-digit : (c : ℕ) → IfSome (either_value c) (λ n. n < 16)
either-digit c = grind (arith, nat_tests)

pair-octet : (high low : Option ℕ) → IfSome high (λ n. n < 16) → IfSome low (λ n. n < 16) → IfSome (pair_value high low) IsOctet
pair-octet high low h1 h2 = grind arith

onto-all : (P : ℕ → Type 0) (x : Option ℕ) (xs : Option (List ℕ)) → IfSome x P → IfSome xs (λ l. AllByRecursion P l) → IfSome (onto_read x xs) (λ l. AllByRecursion P l)
onto-all P x xs h1 h2 = grind arith

hex-octets : (text : List ℕ) → IfSome (hex_read text) (λ l. AllByRecursion IsOctet l)
unfolding hex_read
hex-octets (high ∷ low ∷ more) = onto-all IsOctet (pair_value (either_value high) (either_value low)) (hex_read more)
    (pair-octet (either_value high) (either_value low) (either-digit high) (either-digit low)) (hex-octets more)
hex-octets text = tt

-- ---- Descriptors.

fxy-fits : (text : List ℕ) → is_fxy text ≡ true → 16384 * f_in text + 256 * x_in text + y_in text < 65536
fxy-fits text h1 = grind arith

descriptors-words : (text : List ℕ) → IfSome (descriptors_read text) (λ l. AllByRecursion IsDescriptorWord l)
unfolding descriptors_read
descriptors-words (s ∷ a ∷ b ∷ c ∷ d ∷ e ∷ g ∷ more) =
    let word = a ∷ b ∷ c ∷ d ∷ e ∷ g ∷ [] in
    if-some (λ l. AllByRecursion IsDescriptorWord l) (s == 32) (onto_read (fxy_of word) (descriptors_read more)) None
    (λ _. onto-all IsDescriptorWord (fxy_of word) (descriptors_read more)
    (if-some IsDescriptorWord (is_fxy word) (Some (16384 * f_in word + 256 * x_in word + y_in word)) None (fxy-fits word) (λ _. tt)) (descriptors-words more)) (λ _. tt)
descriptors-words text = tt

-- ---- Quoted texts.

abbrev SaysOctet : QuotedToken → Type 0
SaysOctet (Octet octet written) = octet < 256
SaysOctet other = Unit {0}

quoting-says : (text : List ℕ) → SaysOctet (quoting_of text)
quoting-says text = grind (arith, nat_tests)

quoted-on : (q : QuotedToken) (closed : List ℕ) (more : ℕ → Option (List ℕ × List ℕ)) → SaysOctet q → ((skip : ℕ) → IfSome (more skip) (λ r. AreOctets (r.0)))
    → IfSome (quoted_on q closed more) (λ r. AreOctets (r.0))
quoted-on q closed more h1 h2 = grind arith

quoted-octets : (skip : ℕ) (text : List ℕ) → IfSome (quoted_read skip text) (λ r. AreOctets (r.0))
unfolding quoted_read
quoted-octets skip [] = tt
quoted-octets (suc skip) (c ∷ more) = quoted-octets skip more
quoted-octets zero (c ∷ more) = quoted-on (quoting_of (c ∷ more)) more (λ skip. quoted_read skip more) (quoting-says (c ∷ more)) (λ skip. quoted-octets skip more)

-- ---- Values.

text-sound : (read : Option (List ℕ × List ℕ)) → IfSome read (λ r. AreOctets (r.0)) → IfSome {T = DraftValue × List ℕ} (option_map (λ read. (text_form (read.0), read.1)) read) (λ r. HasOctets (r.0))
text-sound (Some read) h = h
text-sound None h = tt

missing-sound : (read : Option (List ℕ)) → IfSome {T = DraftValue × List ℕ} (option_map (λ rest. (missing_form, rest)) read) (λ r. HasOctets (r.0))
missing-sound (Some rest) = tt
missing-sound None = tt

number-sound : (text : List ℕ) → IfSome (number_value number_token text) (λ r. HasOctets (r.0))
number-sound text = grind (arith, common_steps, if-some)

reference-sound : (text : List ℕ) → IfSome (number_value reference_token text) (λ r. HasOctets (r.0))
reference-sound text = grind (arith, common_steps)

value-sound : (text : List ℕ) → IfSome (value_read text) (λ r. HasOctets (r.0))
unfolding value_read
value-sound text = grind (arith, text-sound, quoted-octets)

-- ---- Whole lines.

if-line : (b : Bool) (x y : Line) → IsSound x → IsSound y → IsSound (if b then x else y)
if-line true x y p q = p
if-line false x y p q = q

or-wrong : (r : Option Line) → IfSome r IsSound → IsSound (unwrap_or r Invalid)
or-wrong (Some line) h = h
or-wrong None h = tt

if-sound : (b : Bool) (x y : Option Line) → IfSome x IsSound → IfSome y IsSound → IfSome (if b then x else y) IsSound
if-sound true x y p q = p
if-sound false x y p q = q

only-sound : (b : Bool) (line : Line) → IsSound line → IfSome (only_if b line) IsSound
only-sound true line h = h
only-sound false line h = tt

then-sound : {X : Type 0} (read : Option X) (line : X → Option Line) → ((x : X) → IfSome (line x) IsSound) → IfSome (read >>= line) IsSound
then-sound (Some x) line h = h x
then-sound None line h = tt

item-sound : (fxy : ℕ) (r : Option (DraftValue × List ℕ)) → IfSome r (λ r. HasOctets (r.0)) → IfSome (r >>= item_if_comment fxy) IsSound
item-sound fxy (Some (form, rest)) h = only-sound (is_end_or_comment rest) (ItemLine fxy form) h
item-sound fxy None h = tt

item-line-sound : (read : List ℕ → Option (DraftValue × List ℕ)) (text : List ℕ) → ((text : List ℕ) → IfSome (read text) (λ r. HasOctets (r.0))) → IfSome (item_line read text) IsSound
item-line-sound read text h =
    then-sound (fxy_read text) _ (λ fxy. then-sound (without_space fxy.1) _ (λ rest. item-sound fxy.0 (read rest) (h rest)))

octets-after : (text : Option (List ℕ)) → IfSome (text >>= hex_read) (λ l. AllByRecursion IsOctet l)
octets-after (Some text) = hex-octets text
octets-after None = tt

listed-sound : (most : ℕ) (line : List ℕ → Line) (xs : Option (List ℕ)) → IfSome xs (λ xs. IsSound (line xs)) → IfSome (xs >>= with_one_to most line) IsSound
listed-sound most line (Some xs) h = only-sound (nat_lt 0 (length xs) && nat_le (length xs) most) (line xs) h
listed-sound most line None h = tt

subset-sound : (subset : Option ℕ) → IfSome (option_map SubsetLine subset) IsSound
subset-sound (Some n) = tt
subset-sound None = tt

worded-sound : (word rest : List ℕ) → IfSome (worded word rest) IsSound
unfolding worded
worded-sound word rest =
    if-sound (bytes_eq word (codes "message")) _ _ (only-sound (length rest == 0) MessageLine tt)
    (if-sound (bytes_eq word (codes "local1")) _ _ (listed-sound 32 Local1 (without_space rest >>= hex_read) (octets-after (without_space rest)))
    (if-sound (bytes_eq word (codes "section2")) _ _ (listed-sound 32 Section2 (without_space rest >>= hex_read) (octets-after (without_space rest)))
    (if-sound (bytes_eq word (codes "descriptors")) _ _ (listed-sound 8 Descriptors (descriptors_read rest) (descriptors-words rest))
    (if-sound (bytes_eq word (codes "subset")) _ _ (subset-sound (without_space rest >>= number_read))
    (if-sound (bytes_eq word (codes "R")) _ _
    (then-sound (without_space rest) (item_line (number_value reference_token)) (λ text. item-line-sound (number_value reference_token) text reference-sound))
    (if-sound (bytes_eq word (codes "end")) _ _ (only-sound (length rest == 0) EndLine tt)
    (then-sound (position_from (bytes_eq word) 0 keys) _ (λ key. then-sound (without_space rest >>= number_read) _ (λ value. tt)))))))))

line-sound : (line : List ℕ) → IsSound (line_of line)
unfolding line_of
line-sound [] = tt
line-sound (c ∷ more) =
    if-line (c == 35) Skipped _ tt
    (or-wrong _ (if-sound (is_ascii_digit c) _ _ (item-line-sound value_read (c ∷ more) value-sound) (worded-sound _ _)))

pub said-sound : (line : List ℕ) → IsSound (read_line line)
said-sound line = if-line (nat_lt 4096 (length line)) Invalid (line_of line) tt (line-sound line)

-- ---- A header value is at most the greatest value of its key.

below : (a b c : ℕ) → (nat_le a b && nat_le b c) ≡ true → b ≤ c
below a b c h = grind arith

value-most : (e k i : ℕ) (xs : List ℕ) → are_in_range e k xs ≡ true → slice_index xs i ≤ slice_index (mosts e) (k + i)
value-most e k i [] h = omega arith
value-most e k zero (x ∷ xs) h =
    let same : k + 0 ≡ k = omega arith in
    subst (λ (n : ℕ). x ≤ slice_index (mosts e) n) (sym same) (below (slice_index leasts k) x (slice_index (mosts e) k) (and_first (in_range e k x) (are_in_range e (k + 1) xs) h))
value-most e k (suc i) (x ∷ xs) h =
    let same : k + 1 + i ≡ k + suc i = omega arith in
    subst (λ (n : ℕ). slice_index xs i ≤ slice_index (mosts e) n) same (value-most e (k + 1) i xs (and_second (in_range e k x) (are_in_range e (k + 1) xs) h))

pub header-most : (d : Document) (i : ℕ) → IsHeaded d → slice_index d.header i ≤ slice_index (mosts (header_in d).head.edition) i
header-most d i h =
    let same : 0 + i ≡ i = omega arith in
    search (rules, value-most)

pub subsets-few : (d : Document) → IsHeaded d → (header_in d).subsets < 65536
unfolding mosts
subsets-few d h = omega (arith, header-most)

-- No greatest value of edition 3 is above that of edition 4.
none-above : List ℕ → List ℕ → Bool
none-above [] bs = true
none-above (a ∷ xs) [] = false
none-above (a ∷ xs) (b ∷ bs) = nat_le a b && none-above xs bs

no-wider : (xs bs : List ℕ) (i : ℕ) → none-above xs bs ≡ true → slice_index xs i ≤ slice_index bs i
unfolding none-above
no-wider [] bs i h = omega arith
no-wider (a ∷ xs) [] i h = absurd cc
no-wider (a ∷ xs) (b ∷ bs) zero h = grind arith
no-wider (a ∷ xs) (b ∷ bs) (suc i) h = no-wider xs bs i (and_second (nat_le a b) (none-above xs bs) h)

widest : (e i : ℕ) → slice_index (mosts e) i ≤ slice_index (mosts 4) i
unfolding none-above mosts
widest e i = by-third (λ l. slice_index (4 ∷ l ++ 1 ∷ 1 ∷ 1 ∷ 65535 ∷ []) i ≤ slice_index (mosts 4) i) e (no-wider (mosts 3) (mosts 4) i refl) (omega arith)

-- Any edition other than 3 has the greatest values of edition 4.
pub mosts-of-4 : (e : ℕ) → (e ≡ 3 → ⊥) → mosts e ≡ mosts 4
unfolding mosts
mosts-of-4 e other = grind (arith, common_steps)

pub header-widest : (d : Document) (i : ℕ) → IsHeaded d → slice_index d.header i ≤ slice_index (mosts 4) i
header-widest d i h = omega (arith, header-most d i h, widest (header_in d).head.edition i)

-- ---- The header values fit in section 1.

value-least : (e : ℕ) (xs : List ℕ) → 0 < length xs → are_in_range e 0 xs ≡ true → in_range e 0 (slice_index xs 0) ≡ true
value-least e [] some h = absurd (omega arith)
value-least e (x ∷ xs) some h = and_first (in_range e 0 x) (are_in_range e 1 xs) h

known : (n : ℕ) → (nat_le 3 n && nat_le n 4) ≡ true → is_edition n ≡ true
known n h1 = grind arith

pub headed-fits : (d : Document) → IsHeaded d → IsFitting (header_in d).head
unfolding leasts mosts
headed-fits d h = record {
  edition = known (header_in d).head.edition (value-least (header_in d).head.edition d.header (omega (arith, h.whole)) h.ranges);
  fits = at-most (values_of (header_in d).head) (greatest_values (header_in d).head.edition) (
    header-most d 1 h,
    (
      header-most d 2 h,
      (
        header-most d 3 h,
        (
          header-most d 4 h,
          (
            header-most d 5 h,
            (
              header-most d 6 h,
              (
                header-most d 7 h,
                (header-most d 8 h, (header-most d 9 h, (header-most d 10 h, (header-most d 11 h, (header-most d 12 h, (header-most d 13 h, (header-most d 14 h, (header-most d 15 h, tt)))))))),
              ),
            ),
          ),
        ),
      ),
    ),
  );
}

-- ---- The state of the parser after a line.

-- A list of values in their ranges can be extended by a value in the range of the next key.
ranges-more : (e k : ℕ) (xs : List ℕ) (v : ℕ) → are_in_range e k xs ≡ true → in_range e (k + length xs) v ≡ true → are_in_range e k (xs ++ v ∷ []) ≡ true
ranges-more e k [] v h g =
    let same : k + 0 ≡ k = omega arith in
    both (in_range e k v) true (ap (λ (n : ℕ). in_range e n v) (sym same) ∙ g) refl
ranges-more e k (x ∷ xs) v h g =
    let same : k + 1 + length xs ≡ k + suc (length xs) = omega arith in
    both (in_range e k x) (are_in_range e (k + 1) (xs ++ v ∷ [])) (and_first (in_range e k x) (are_in_range e (k + 1) xs) h)
    (ranges-more e (k + 1) xs v (and_second (in_range e k x) (are_in_range e (k + 1) xs) h) (ap (λ (n : ℕ). in_range e n v) same ∙ g))

-- The range of the edition is the same in every edition.
pub any-edition : (a b v : ℕ) → in_range a 0 v ≡ in_range b 0 v
unfolding mosts
any-edition a b v = refl

ranges-again : (xs : List ℕ) (v : ℕ) → are_in_range (slice_index xs 0) 0 xs ≡ true → in_range (slice_index xs 0) (length xs) v ≡ true
    → are_in_range (slice_index (xs ++ v ∷ []) 0) 0 (xs ++ v ∷ []) ≡ true
ranges-again [] v h g = both (in_range v 0 v) true (any-edition v 0 v ∙ g) refl
ranges-again (x ∷ xs) v h g =
    let same : length (x ∷ xs) ≡ 0 + length (x ∷ xs) = omega arith in
    ranges-more x 0 (x ∷ xs) v h (ap (λ (n : ℕ). in_range x n v) (sym same) ∙ g)

pub later : (at : ℕ) (parsing : Parsing) → IsParsing at parsing → IsParsing (at + 1) parsing
later at parsing h1 = grind arith

if-so : (at : ℕ) (b : Bool) (x y : LineStep) → (b ≡ true → IsLineStep at x) → (b ≡ false → IsLineStep at y) → IsLineStep at (if b then x else y)
if-so at true x y p q = p refl
if-so at false x y p q = q refl

if-effect : (at : ℕ) (b : Bool) (x y : LineEffect) (d : Document) → (b ≡ true → IsLineStep at (x, d)) → (b ≡ false → IsLineStep at (y, d)) → IsLineStep at (if b then x else y, d)
if-effect at true x y d p q = p refl
if-effect at false x y d p q = q refl

same-key : (key n : ℕ) → not (key == n) ≡ false → key ≡ n
same-key key n h1 = grind arith

not-false : (b : Bool) → not b ≡ false → b ≡ true
not-false true e = refl
not-false false e = absurd cc

still-bare : (d : Document) (value : ℕ) → IsBare d → IsBare (with_value d value)
still-bare d value bare = record { local1 = bare.local1; section2 = bare.section2; descriptors = bare.descriptors; entries = bare.entries }

value-so : (at key value : ℕ) (d : Document) (b : Bool) → (key == 19) ≡ b → length d.header < 20 → are_in_range (header_in d).head.edition 0 d.header ≡ true → length d.entries < at
    → key ≡ length d.header
    → in_range (header_in d).head.edition key value ≡ true → IsBare d
    → IsParsing (at + 1) (if b then BeforeSubsets group.Local1 else Heading, with_value d value)
value-so at key value d b h1 h2 h3 h4 h5 h6 h7 = grind (arith, length-append, ranges-again)

heading-so : (at key value : ℕ) (d : Document) → length d.header < 20 → are_in_range (header_in d).head.edition 0 d.header ≡ true → length d.entries < at → IsBare d
    → IsLineStep (at + 1) (heading d (Header key value))
heading-so at key value d h1 h2 h3 h4 = grind (arith, value-so)

subset-few : (a b n : ℕ) → ((a == b) && nat_le a n) ≡ true → a ≤ n
subset-few a b n h = grind arith

same-number : (a b n : ℕ) → ((a == b) && nat_le a n) ≡ true → a ≡ b
same-number a b n h = grind arith

beginning-so : (at read subset : ℕ) (d : Document) → IsHeaded d → length d.entries < at + 1 → HasLineGroups d → HasSubsets read d → IsLineStep (at + 1) (beginning read d subset, d)
beginning-so at read subset d h1 h2 h3 h4 = grind (arith, subsets-few)

pub equal : (a b : ℕ) → (a == b) ≡ true → a ≡ b
equal a b e = grind arith

closing-so : (at read : ℕ) (d : Document) → IsHeaded d → length d.entries ≤ at → HasLineGroups d → HasSubsets read d → AreEnded d.entries → IsLineStep (at + 1) (closing read d, d)
closing-so at read d h1 h2 h3 h4 h5 = grind (arith, drafts-octets)

before_subsets-so : (at : ℕ) (part : LineGroup) (d : Document) (line : Line) → IsSound line → IsHeaded d → length d.entries < at → HasLineGroups d → d.entries ≡ []
    → IsLineStep (at + 1) (before_subsets d line part)
before_subsets-so at part d line h1 h2 h3 h4 h5 = grind (arith, common_steps)

one-entry : (d : Document) (entry : DraftEntry) → length (with_entry d entry).entries ≡ length d.entries + 1
one-entry d entry = simp length-append

-- Another entry does not change the other parts of a document.
still-headed : (d : Document) (entry : DraftEntry) → IsHeaded d → IsHeaded (with_entry d entry)
still-headed d entry h = record { whole = h.whole; ranges = h.ranges }

still-written : (d : Document) (entry : DraftEntry) → HasLineGroups d → HasLineGroups (with_entry d entry)
still-written d entry written = record { local1 = written.local1; section2 = written.section2; no_section2 = written.no_section2; descriptors = written.descriptors }

one-more : (at ended : ℕ) (d : Document) → HasSubsets ended d → HasSubsets (ended + 1) (with_entry d (Ends at))
one-more at ended d h1 = grind (arith, all-more, end-ends-one)

by-number : (subset ended : ℕ) (d : Document) → subset ≡ ended + 1 → HasSubsets (ended + 1) d → HasSubsets subset d
by-number subset ended d is has = rw is has

in_subset-so : (at subset : ℕ) (d : Document) (line : Line) → IsSound line → IsHeaded d → length d.entries < at → subset < 65536 → HasLineGroups d
    → ((ended : ℕ) × (subset ≡ ended + 1) × HasSubsets ended d) → IsLineStep (at + 1) (in_subset at subset d line)
in_subset-so at subset d (SubsetLine next) sound h lines few written (ended, is, has) =
    beginning-so at subset next (with_entry d (Ends at)) (still-headed d (Ends at) h) (omega (arith, one-entry)) (still-written d (Ends at) written)
    (by-number subset ended (with_entry d (Ends at)) is (one-more at ended d has))
in_subset-so at subset d (ItemLine fxy form) sound h lines few written (ended, is, has) = (
  still-headed d (Holds (draft at fxy form)) h,
  omega (arith, one-entry),
  few,
  still-written d (Holds (draft at fxy form)) written,
  (
    ended,
    is,
    record {
      texts = all-more EntryHasOctets d.entries (Holds (draft at fxy form) ∷ []) has.texts (sound, tt);
      counted = item-ends-none d.entries (draft at fxy form) ∙ has.counted;
    },
  ),
)
in_subset-so at subset d EndLine sound h lines few written (ended, is, has) =
    closing-so at subset (with_entry d (Ends at)) (still-headed d (Ends at) h) (omega (arith, lines, one-entry d (Ends at))) (still-written d (Ends at) written)
    (by-number subset ended (with_entry d (Ends at)) is (one-more at ended d has)) (ends-last d.entries at)
in_subset-so at subset d line sound h lines few written has = tt

-- If the state of the parser is valid before a line, it is valid after this line, too.
pub line_step-holds : (at : ℕ) (parsing : Parsing) (line : Line) → 0 < at → IsSound line → IsParsing at parsing → IsLineStep (at + 1) (line_step at parsing line)
unfolding line_step
line_step-holds at (Between, d) Skipped some sound s = s
line_step-holds at (Between, d) MessageLine some sound s = (omega arith, refl, omega arith, record { local1 = refl; section2 = refl; descriptors = refl; entries = refl })
line_step-holds at (Heading, d) Skipped some sound s = later at (Heading, d) s
line_step-holds at (Heading, d) (Header key value) some sound s = heading-so at key value d s.0 s.1 s.2 s.3
line_step-holds at (BeforeSubsets part, d) Skipped some sound s = later at (BeforeSubsets part, d) s
line_step-holds at (BeforeSubsets part, d) line some sound s = before_subsets-so at part d line sound s.0 s.1 s.2 s.3
line_step-holds at (Filling subset, d) Skipped some sound s = later at (Filling subset, d) s
line_step-holds at (Filling subset, d) line some sound s = in_subset-so at subset d line sound s.0 s.1 s.2 s.3 s.4
line_step-holds at (Stopped, d) line some sound s = absurd s
line_step-holds at parsing line some sound s = tt

-- ---- The code's table of header keys matches the definition.

-- The lead of a key contains the name of this key.
named : (key : List ℕ) (name : List ℕ) → is_named (lead_of key) name ≡ bytes_eq name key
named key name = grind (arith, common_steps)

-- A key has the same index in the code's table as in the definition.
module _ {Row : Type 0} (lead : Row → List ℕ) (name : List ℕ) where
  places : (at : ℕ) (rows : List Row) (ks : List (List ℕ)) → map lead rows ≡ map lead_of ks → position_from (λ row. is_named (lead row) name) at rows ≡ position_from (bytes_eq name) at ks
  places at [] [] same = refl
  places at [] (k ∷ ks) same = cc
  places at (row ∷ rows) [] same = cc
  places at (row ∷ rows) (k ∷ ks) same =
      let here : lead row ≡ lead_of k = cc in
      let there : map lead rows ≡ map lead_of ks = cc in
      let rest : Option ℕ = position_from (λ row. is_named (lead row) name) (at + 1) rows in
      ap (λ (b : Bool). cond b (Some at) rest) (ap (λ (l : List ℕ). is_named l name) here ∙ named k name)
      ∙ ap (λ (o : Option ℕ). cond (bytes_eq name k) (Some at) o) (places (at + 1) rows ks there)

  pub key_index-is : (rows : List Row) → map lead rows ≡ map lead_of keys → position (λ row. is_named (lead row) name) rows ≡ position_from (bytes_eq name) 0 keys
  key_index-is rows same = position_from-zero (λ row. is_named (lead row) name) rows ∙ places 0 rows keys same

-- The lead of a key, without its first octet, is the key's name and a space.
module _ {Row : Type 0} (lead : Row → List ℕ) where
  lead_at : (rows : List Row) (ks : List (List ℕ)) (i : ℕ) (d : Row) → map lead rows ≡ map lead_of ks → i < length rows → lead (get_or rows i d) ≡ lead_of (get_or ks i [])
  lead_at [] ks i d same below = absurd (omega arith)
  lead_at (row ∷ rows) [] i d same below = absurd cc same
  lead_at (row ∷ rows) (k ∷ ks) zero d same below = cc
  lead_at (row ∷ rows) (k ∷ ks) (suc i) d same below =
      let rest : map lead rows ≡ map lead_of ks = cc in
      lead_at rows ks i d rest (omega arith)

  take_all : (xs : List ℕ) → take (length xs) xs ≡ xs
  take_all [] = refl
  take_all (x ∷ xs) = cc (take_all xs)

  pub word_there : (rows : List Row) (i : ℕ) (row : Row) → map lead rows ≡ map lead_of keys → i < length rows → row ≡ get_or rows i row
      → take (length (lead row) - 1) (drop 1 (lead row)) ≡ get_or keys i [] ++ 32 ∷ []
  word_there rows i row same below is =
      let is_lead : lead row ≡ lead_of (get_or keys i []) = ap lead is ∙ lead_at rows keys i row same below in
      let word : List ℕ = get_or keys i [] ++ 32 ∷ [] in
      let count : length (10 ∷ word) - 1 ≡ length word = omega arith in
      cc (is_lead, count, take_all word)

pub ruleset octet_steps = (header-widest)

-- a value from a row of the table
pub at-key : {X : Type 0} (f : X → ℕ) (rows : List X) (k : ℕ) (none : X) → k < length rows → f (get_or rows k none) ≡ slice_index (map f rows) k
at-key f [] k none h = absurd (omega arith)
at-key f (x ∷ rows) zero none h = refl
at-key f (x ∷ rows) (suc k) none h = at-key f rows k none (omega arith)
