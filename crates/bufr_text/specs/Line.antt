-- The lines and values of a dump, and how they are written and parsed (our choice).
-- Cited by public contracts.
use Rattle.std.specs.Prelude.{ℕ, zero, suc, ◌+◌, ◌==◌, nat_le, nat_lt, Bool, not, ◌&&◌, if◌then◌else◌, List, [], ◌∷◌, Option, Some, None, option_map, codes, length, replicate, ◌-◌, ◌++◌, take, drop, ◌≡◌, ◌*◌, ◌≤◌, ◌/◌, ◌%◌, min, true, false, ◌||◌, slice_index}
use Rattle.std.specs.List.{position_from, position_or_len, prefix_len}
use Rattle.std.specs.Char.{is_ascii_digit}
use Rattle.std.specs.Str.Parse.{digits_value}
use Rattle.bufr_bits.specs.Prelude.{is_digits, short_text}
use Rattle.bufr_bits.specs.declared.decimal.ShortDecimal.{ShortDecimal}
use Rattle.bufr_tables.specs.Prelude.{fxy_of, fxy_text, only_if}
use Rattle.bufr_tables.specs.Fxy.{◌>>=◌}
pub use Rattle.bufr_text.specs.declared.line.QuotedToken.{QuotedToken}
pub use Rattle.bufr_text.specs.declared.line.QuotedToken.TheVariants.{Closed, Octet, Nothing}
use Rattle.std.specs.Str.{bytes_eq}
use Rattle.bufr_frame.specs.Prelude.{greatest_values}
use Rattle.bufr_fill.specs.Prelude.{DraftValue, number_token, text_form, missing_form, reference_token}
use Rattle.std.specs.Option.{option_map_or, option_zip, unwrap_or}

-- the text after the given word, if the text begins with that word
unfoldable pub without_prefix : (word text : List ℕ) → Option (List ℕ)
without_prefix [] text = Some text
without_prefix (w ∷ word) [] = None
without_prefix (w ∷ word) (c ∷ text) = if c == w then without_prefix word text else None

-- the text after its leading space, or `None` if there is no leading space
abbrev pub without_space : List ℕ → Option (List ℕ)
without_space text = without_prefix (32 ∷ []) text

-- The elements, split into runs of `most` elements each. The last run may be shorter. The first
-- `skip` elements are left out because they belong to the previous run.
unfoldable pub runs_after : (skip most : ℕ) → List ℕ → List (List ℕ)
runs_after skip most [] = []
runs_after (suc skip) most (x ∷ more) = runs_after skip most more
runs_after zero most (x ∷ more) = take most (x ∷ more) ∷ runs_after (most - 1) most more

abbrev pub runs_of : (most : ℕ) → List ℕ → List (List ℕ)
runs_of most xs = runs_after 0 most xs

-- the upper-case hexadecimal digit for a number below 16
abbrev pub hex_digit : ℕ → ℕ
hex_digit n = if nat_lt n 10 then 48 + n else 55 + n

-- the value of an upper-case hexadecimal digit
abbrev pub upper_value : ℕ → Option ℕ
upper_value c = if is_ascii_digit c then Some (c - 48) else if nat_le 65 c && nat_le c 70
    then Some (c - 55) else None

-- the value of a hexadecimal digit in upper or lower case
-- rule: reading-hexadecimal
abbrev pub either_value : ℕ → Option ℕ
either_value c = if nat_le 97 c && nat_le c 102 then Some (c - 87) else upper_value c

-- the octet given by the values of its two hexadecimal digits
abbrev pub pair_value : Option ℕ → Option ℕ → Option ℕ
pair_value high low = option_map (λ both. 16 * both.0 + both.1) (option_zip high low)

abbrev pub hex_pair : ℕ → List ℕ
hex_pair octet = hex_digit (octet / 16) ∷ hex_digit (octet % 16) ∷ []

-- octets in hexadecimal, with two digits per octet
-- rule: text-hexadecimal
unfoldable pub hex_text : List ℕ → List ℕ
hex_text [] = []
hex_text (octet ∷ more) = hex_pair octet ++ hex_text more

-- the list with an element prepended, or `None` if either could not be parsed
abbrev pub onto_read : {X : Type 0} → Option X → Option (List X) → Option (List X)
onto_read x xs = option_map (λ both. both.0 ∷ both.1) (option_zip x xs)

-- the octets represented by pairs of hexadecimal digits in upper or lower case
unfoldable pub hex_read : List ℕ → Option (List ℕ)
hex_read [] = Some []
hex_read (high ∷ []) = None
hex_read (high ∷ low ∷ more) =
    onto_read (pair_value (either_value high) (either_value low)) (hex_read more)

-- the descriptor in the first six octets, and the remaining octets
unfoldable pub fxy_read : List ℕ → Option (ℕ × List ℕ)
fxy_read (a ∷ b ∷ c ∷ d ∷ e ∷ g ∷ more) =
    option_map (λ fxy. (fxy, more)) (fxy_of (a ∷ b ∷ c ∷ d ∷ e ∷ g ∷ []))
fxy_read text = None

-- the text of a descriptor list, with a space before each descriptor
unfoldable pub descriptors_text : List ℕ → List ℕ
descriptors_text [] = []
descriptors_text (fxy ∷ more) = 32 ∷ fxy_text fxy ++ descriptors_text more

-- rule: reading-descriptor
unfoldable pub descriptors_read : List ℕ → Option (List ℕ)
descriptors_read [] = Some []
descriptors_read (s ∷ a ∷ b ∷ c ∷ d ∷ e ∷ g ∷ more) = if s == 32
    then onto_read (fxy_of (a ∷ b ∷ c ∷ d ∷ e ∷ g ∷ [])) (descriptors_read more) else None
descriptors_read text = None

-- The unsigned number that the decimal digits represent. Numbers greater than 65,535 are read as
-- 65,536, which is too large for any header line or subset number.
-- rule: reading-header-number
abbrev pub number_read : List ℕ → Option ℕ
number_read text = only_if (is_digits text) (min (digits_value 10 text) 65536)

-- whether an octet is a printable ASCII character other than `"` and `\`; only such octets are
-- written without an escape in a quoted string
abbrev pub is_unescaped : ℕ → Bool
is_unescaped c = nat_le 32 c && nat_le c 126 && not (c == 34) && not (c == 92)

-- an octet as written in a quoted string; `"` and `\` are preceded by a backslash, and octets that
-- are not printable ASCII characters are written as `\xHH`
-- rule: text-escapes
abbrev pub escaped : ℕ → List ℕ
escaped octet = if is_unescaped octet then octet ∷ []
    else if (octet == 34) || (octet == 92) then 92 ∷ octet ∷ [] else 92 ∷ 120 ∷ hex_pair octet

-- octets as written in a quoted string, with the closing quote but without the opening one
unfoldable pub quoted : List ℕ → List ℕ
quoted [] = 34 ∷ []
quoted (octet ∷ more) = escaped octet ++ quoted more

-- The token `\"`, `\\` or `\xHH` at the beginning of the text, or `Nothing`. HH must be upper-case
-- hexadecimal digits. Octets beyond the end of the text are read as 0, which no token contains.
abbrev pub escape_of : List ℕ → QuotedToken
escape_of text =
    let c = slice_index text 1 in
    let pair = pair_value (upper_value (slice_index text 2)) (upper_value (slice_index text 3)) in
    if (c == 34) || (c == 92) then Octet c 2
    else if c == 120 then option_map_or (λ octet. Octet octet 4) pair Nothing else Nothing

-- rule: reading-quoted
abbrev pub quoting_of : List ℕ → QuotedToken
quoting_of text = if slice_index text 0 == 34 then Closed
    else if slice_index text 0 == 92 then escape_of text
    else if is_unescaped (slice_index text 0) then Octet (slice_index text 0) 1 else Nothing

-- The result of `quoted_read` (below) for text that begins with the given token. `closed` is the
-- text after the closing quote. `more` parses the text after the token; its argument is the number
-- of octets in the token after the first.
abbrev pub quoted_on : QuotedToken → (closed : List ℕ) → (more : ℕ → Option (List ℕ × List ℕ))
    → Option (List ℕ × List ℕ)
quoted_on Closed closed more = Some ([], closed)
quoted_on (Octet octet written) closed more =
    option_map (λ read. (octet ∷ read.0, read.1)) (more (written - 1))
quoted_on Nothing closed more = None

-- The octets that a quoted string represents, and the text after its closing quote. The first
-- `skip` octets are ignored because they belong to the previous token.
unfoldable pub quoted_read : (skip : ℕ) → List ℕ → Option (List ℕ × List ℕ)
quoted_read skip [] = None
quoted_read (suc skip) (c ∷ more) = quoted_read skip more
quoted_read zero (c ∷ more) = quoted_on (quoting_of (c ∷ more)) more (λ skip. quoted_read skip more)

-- whether an octet is a digit, `-` or `.`, and can therefore be part of a number
-- rule: reading-number
abbrev pub is_number_octet : ℕ → Bool
is_number_octet c = is_ascii_digit c || (c == 45) || (c == 46)

-- whether the first octet that is not a space is `#`
unfoldable pub is_hashed : List ℕ → Bool
is_hashed [] = false
is_hashed (c ∷ more) = if c == 32 then is_hashed more else (c == 35)

-- whether the text after a value is empty or consists of one or more spaces and a comment
-- rule: reading-after-a-value
abbrev pub is_end_or_comment : List ℕ → Bool
is_end_or_comment [] = true
is_end_or_comment (c ∷ more) = (c == 32) && is_hashed more

-- ---- Lines, parsed without regard to their position.

-- A parsed line of a dump. `Skipped` is an empty line or a comment, and `Invalid` is any invalid
-- line. `Header` contains the index of the line's key in `keys`.
pub data Line : Type 0 where
  Skipped : Line
  MessageLine : Line
  Header : (key value : ℕ) → Line
  Local1 : (octets : List ℕ) → Line
  Section2 : (octets : List ℕ) → Line
  Descriptors : (words : List ℕ) → Line
  SubsetLine : (subset : ℕ) → Line
  ItemLine : (fxy : ℕ) (form : DraftValue) → Line
  EndLine : Line
  Invalid : Line

-- the keys of the header lines, in order; `optional` is 1 if section 2 is present
-- rule: text-header
unfoldable pub keys : List (List ℕ)
keys =
    codes "edition" ∷ codes "master" ∷ codes "centre" ∷ codes "subcentre" ∷ codes "update"
    ∷ codes "category" ∷ codes "subcategory" ∷ codes "localsubcategory" ∷ codes "masterversion"
    ∷ codes "localversion" ∷ codes "year" ∷ codes "month" ∷ codes "day" ∷ codes "hour"
    ∷ codes "minute" ∷ codes "second" ∷ codes "observed" ∷ codes "compressed"
    ∷ codes "optional" ∷ codes "subsets" ∷ []

-- the minimum value of each key, which is 3 for the edition and 0 for all other keys
-- rule: reading-header-ranges
unfoldable pub leasts : List ℕ
leasts = 3 ∷ replicate 19 0

-- The maximum value of each key in the given edition. A section 1 value must fit in its octets, and
-- the number of subsets must fit in 16 bits.
unfoldable pub mosts : (edition : ℕ) → List ℕ
mosts edition = 4 ∷ greatest_values edition ++ 1 ∷ 1 ∷ 1 ∷ 65535 ∷ []

-- the line with the given list, or `None` if the list is empty or has more than `most` elements
-- rule: reading-long-lists
abbrev pub with_one_to : (most : ℕ) → (List ℕ → Line) → List ℕ → Option Line
with_one_to most line xs = only_if (nat_lt 0 (length xs) && nat_le (length xs) most) (line xs)

-- the number at the beginning of the text, converted to a value by `form`, and the remaining text
abbrev pub number_value : (List ℕ → DraftValue) → List ℕ → Option (DraftValue × List ℕ)
number_value form [] = None
number_value form (c ∷ more) =
    let n = prefix_len is_number_octet (c ∷ more) in
    if is_number_octet c then Some (form (take n (c ∷ more)), drop n (c ∷ more)) else None

-- the quoted string, number or `MISSING` at the beginning of the text, and the remaining text
unfoldable pub value_read : List ℕ → Option (DraftValue × List ℕ)
value_read [] = None
value_read (c ∷ more) =
    if c == 34 then option_map (λ read. (text_form (read.0), read.1)) (quoted_read 0 more)
    else if is_number_octet c then number_value number_token (c ∷ more)
    else option_map (λ rest. (missing_form, rest)) (without_prefix (codes "MISSING") (c ∷ more))

-- an item line, or `None` if anything other than a comment follows the value
abbrev pub item_if_comment : (fxy : ℕ) → DraftValue × List ℕ → Option Line
item_if_comment fxy (form, rest) = only_if (is_end_or_comment rest) (ItemLine fxy form)

-- the item line in the text, or `None`; a descriptor, a space and a value must come first, and only
-- a comment may follow; `read` parses the value
abbrev pub item_line : (List ℕ → Option (DraftValue × List ℕ)) → List ℕ → Option Line
item_line read text = do
  first ← fxy_read text
  rest ← without_space first.1
  value ← read rest
  item_if_comment first.0 value

-- The line with the given first word and remaining text, or `None` if that text is not valid after
-- the word. Any word not listed below must be the key of a header line.
-- rule: reading-reference
unfoldable pub worded : (word rest : List ℕ) → Option Line
worded word rest =
    if bytes_eq word (codes "message") then only_if (length rest == 0) MessageLine
    else if bytes_eq word (codes "local1")
    then without_space rest >>= hex_read >>= with_one_to 32 Local1
    else if bytes_eq word (codes "section2")
    then without_space rest >>= hex_read >>= with_one_to 32 Section2
    else if bytes_eq word (codes "descriptors")
    then descriptors_read rest >>= with_one_to 8 Descriptors
    else if bytes_eq word (codes "subset")
    then option_map SubsetLine (without_space rest >>= number_read)
    else if bytes_eq word (codes "R")
    then without_space rest >>= item_line (number_value reference_token)
    else if bytes_eq word (codes "end") then only_if (length rest == 0) EndLine
    else do
      key ← position_from (bytes_eq word) 0 keys
      value ← without_space rest >>= number_read
      Some (Header key value)

-- The line that the octets represent, or `Invalid` if the line is not valid. A line that begins with
-- `#` is a comment, and a line that begins with a digit is an item line. Any other line begins with
-- a word, which ends before the first space.
-- rule: reading-empty-lines, reading-carriage-return, reading-blanks
unfoldable pub line_of : List ℕ → Line
line_of [] = Skipped
line_of (c ∷ more) =
    let n = position_or_len (λ octet. octet == 32) (c ∷ more) in
    if c == 35 then Skipped
    else unwrap_or (if is_ascii_digit c then item_line value_read (c ∷ more)
    else worded (take n (c ∷ more)) (drop n (c ∷ more))) Invalid

-- ---- The keys of the header, as the code stores them.

-- the octets that precede a key's value (a line feed, the key's name, and a space)
abbrev pub lead_of : (key : List ℕ) → List ℕ
lead_of key = 10 ∷ (key ++ 32 ∷ [])

-- whether `lead` consists of one octet, the given name, and one more octet
abbrev pub is_named : (lead name : List ℕ) → Bool
is_named lead name = nat_le 2 (length lead) && bytes_eq name (take (length lead - 2) (drop 1 lead))

-- ---- The results of private functions that parse descriptors, hexadecimal digits and quoted
-- strings.

-- the item value for a short decimal, or `MISSING` if there is none
abbrev pub short_form : Option ShortDecimal → DraftValue
short_form (Some number) = number_token (short_text number)
short_form None = missing_form

-- The descriptors in the text were written to the beginning of `out`, and their number was
-- returned. If the text is not valid in a `descriptors` line, the result is `None`.
abbrev pub Describes : (text out : List ℕ) → Option ℕ → Type 0
Describes text out None = (descriptors_read text >>= with_one_to 8 Descriptors) ≡ None
Describes text out (Some count) = (count ≤ length out)
    × ((descriptors_read text >>= with_one_to 8 Descriptors) ≡ Some (Descriptors (take count out)))

-- The octets that the text represents (one for every two digits) were written to the beginning of
-- `out`, and their number was returned. If the text is invalid, the result is `None`.
abbrev pub Unhexes : (text out : List ℕ) → Option ℕ → Type 0
Unhexes text out None = hex_read text ≡ None
Unhexes text out (Some count) =
    (2 * count ≡ length text) × (count ≤ length out) × (hex_read text ≡ Some (take count out))

-- The octets of the quoted string were written to the beginning of `out`. Their number and the
-- index after the closing quote were returned. If the text is invalid, the result is `None`.
abbrev pub Unquotes : (text out : List ℕ) → Option (ℕ × ℕ) → Type 0
Unquotes text out None = quoted_read 0 text ≡ None
Unquotes text out (Some (count, at)) = (count ≤ length out) × (at ≤ length text)
    × (quoted_read 0 text ≡ Some (take count out, drop at text))
