-- Steps of a record reader, its rows and its numbers.
use Rattle.std.proofs.lemmas.Grind.{common_steps}
use Rattle.std.proofs.Common.{negsuc, ◌≡◌, ℕ, neg_ℤ, ◌+◌, ◌^◌, ◌<◌, ◌≤◌, Bool, true, false, List, [], ◌∷◌, length, Option, Some, None, refl, ap, ◌∙◌, add-one, arith, suc, zero, Bor, sym, drop, get_or, Result, Ok, Err, ◌≢◌, ◌-◌, ◌*◌, min, take, ℤ, pos, option_map, IsSome, if◌then◌else◌, ◌==◌, ◌&&◌, not, option_and_then, rules, nat_lt, nat_le}
use Rattle.std.proofs.lemmas.Bool.{cases_Bool}
use Rattle.std.proofs.lemmas.Option.{same_Some}
use Rattle.std.proofs.lemmas.Bool.Decides.{nat_tests}
use Rattle.std.proofs.lemmas.List.Folds.{list_all_at}
use Rattle.std.proofs.lemmas.Int.Digits.{digits_value_more}
use Rattle.std.proofs.lemmas.Str.{digit_value_digit}
use Rattle.std.specs.Char.{digit_value, is_ascii_digit}
use Rattle.std.specs.List.{list_all}
use Rattle.std.specs.Str.Parse.{digits_value}
use Rattle.csv.specs.Machine.{Read, ends_at_end, fields_after, field_after, is_end, next_record, step, is_byte, in_field, start_field, start_record, ends_with, after_end}
use Rattle.csv.specs.Reading.{NextIs, ReadRecord, ReadsNext, records_from, pending_of, default_config, is_flexible, reader_state, strip_bom, took_first}
use Rattle.csv.specs.declared.parser.Config.{Config}
use Rattle.csv.specs.declared.parser.State.{State}
use Rattle.csv.specs.declared.parser.Terminator.{Terminator}
use Rattle.csv.specs.declared.parser.Action.{Action}
use Rattle.csv.specs.declared.reader.Reader.{Reader}
use Rattle.bufr_tables.specs.Prelude.{◌>>=◌, Record, GivesNext, IsBetween, count_of, record_given, records_after, text_left, field_of, IsOpened, records_left, field_texts, has_header, table_from, table_of, ReturnsUnlessMemory, only_if, i64_of, natural_of, TableFault, ReadsTableD, Sequence, table_d_of, with_record_d}
use Rattle.bufr_tables.specs.declared.rows.RecordReader.{RecordReader}
use Rattle.std.specs.Str.{bytes_eq}
use Rattle.std.specs.Cmp.Lexicographic.{pointwise}
use Rattle.std.proofs.lemmas.Slice.Eq.{bytes_eq-Decides, slice_eq-Decides}
use Rattle.csv.specs.Records.{field_at}
use Rattle.bufr_tables.specs.declared.fault.TableFault.TheVariants.{Header, Cycle, Memory}
use Rattle.csv.specs.declared.parser.Terminator.TheVariants as term

-- After the octet that ends a record, no record has begun.
after_end-between : (t : Terminator) (c : ℕ) → ends_at_end (after_end t c) ≡ false
after_end-between term.CRLF c = grind (arith, common_steps, cases_Bool)
after_end-between (term.Any t) c = refl

-- After an action that ends the record, no record has begun.
abbrev Ends : State × Action → Type 0
Ends move = is_end move.1 ≡ true → ends_at_end move.0 ≡ false

Ends-cond : (b : Bool) (p q : State × Action) → Ends p → Ends q → Ends (if b then p else q)
Ends-cond true p q a b = a
Ends-cond false p q a b = b

in_field-between : (cfg : Config) (c : ℕ) → Ends (in_field cfg c)
in_field-between cfg c = search (rules, Ends-cond, after_end-between)

start_field-between : (cfg : Config) (c : ℕ) → Ends (start_field cfg c)
start_field-between cfg c = Ends-cond (cfg.quoting && (c == cfg.quote)) _ _ (λ e. cc e) (in_field-between cfg c)

start_record-between : (cfg : Config) (c : ℕ) → Ends (start_record cfg c)
start_record-between cfg c =
    Ends-cond (ends_with cfg.terminator c) _ _ (λ e. cc e) (Ends-cond (is_byte cfg.comment c) _ _ (λ e. cc e) (start_field-between cfg c))

step-between : (cfg : Config) (s : State) (c : ℕ) → Ends (step cfg s c)
step-between cfg s c = search (rules, start_record-between, in_field-between, Ends-cond)

-- A read record leaves the reader between two records. If the reader was between two records
-- before, fewer octets remain.
pub record Leaves (s : State) (xs : List ℕ) (read : Read) : Type 0 where
  pub between : ends_at_end read.1 ≡ false
  pub most : length read.2 ≤ length xs
  pub fewer : ends_at_end s ≡ false → length read.2 < length xs

pub next_record-leaves : (cfg : Config) (s : State) (fields : List (List ℕ)) (field xs : List ℕ) (read : Read) → next_record cfg s fields field xs ≡ Some read → Leaves s xs read
unfolding next_record
next_record-leaves cfg s fields field [] read is = search (rules, same_Some)
next_record-leaves cfg s fields field (c ∷ xs) read is =
    by (is_end (step cfg s c).1) refl is (next_record-leaves cfg (step cfg s c).0 (fields_after (step cfg s c).1 fields field) (field_after (step cfg s c).1 c field) xs read)
  where
    by : (b : Bool) → is_end (step cfg s c).1 ≡ b
        → (if b then Some (fields_after (step cfg s c).1 fields field, (step cfg s c).0, xs) else next_record cfg (step cfg s c).0 (fields_after (step cfg s c).1 fields field)
        (field_after (step cfg s c).1 c field) xs) ≡ Some read
        → (next_record cfg (step cfg s c).0 (fields_after (step cfg s c).1 fields field) (field_after (step cfg s c).1 c field) xs ≡ Some read → Leaves (step cfg s c).0 xs read)
        → Leaves s (c ∷ xs) read
    by true e is more = rw (← (same_Some _ _ is)) (record { between = step-between cfg s c e; most = omega arith; fewer = λ _. omega arith })
    by false e is more = let h = more is in record { between = h.between; most = omega (arith, h.most); fewer = λ _. omega (arith, h.most) }

-- If there are more turns than octets, their number makes no difference.
pub records_from-enough : (cfg : Config) (n m : ℕ) (s : State) (xs : List ℕ) → ends_at_end s ≡ false → length xs < n → length xs < m
    → records_from cfg n s xs ≡ records_from cfg m s xs
unfolding records_from
records_from-enough cfg zero m s xs between a b = absurd (omega arith)
records_from-enough cfg (suc n) zero s xs between a b = absurd (omega arith)
records_from-enough cfg (suc n) (suc m) s xs between a b = grind (arith, records_from-enough cfg n m, next_record-leaves)

-- the effects of a read that found a record
pub record Found (a : State) (before : Option (List ℕ)) (b : State) (after : Option (List ℕ)) (fields : Record) : Type 0 where
  pub records : records_after a before ≡ fields ∷ records_after b after
  pub known : IsSome after
  pub between : ends_at_end b ≡ false
  pub fewer : count_of after < count_of before

found-next : (a b : State) (xs ys : List ℕ) (fields : Record) → ends_at_end a ≡ false → NextIs (next_record default_config a [] [] xs) true fields b ys
    → Found a (Some xs) b (Some ys) fields
unfolding records_from
found-next a b xs ys fields between next = by (next_record default_config a [] [] xs) refl next
  where
    by : (o : Option Read) → next_record default_config a [] [] xs ≡ o → NextIs o true fields b ys → Found a (Some xs) b (Some ys) fields
    by None e next = cc next
    by (Some read) e next =
        let left = next_record-leaves default_config a [] [] xs read e in
        let less : length read.2 < length xs = left.fewer between in
        rw (next.1, next.2, next.3) (record {
          records = rw (add-one, e) (ap (λ (rest : List Record). read.0 ∷ rest)
              (records_from-enough default_config (length xs) (length read.2 + 1) read.1 read.2 left.between (omega arith) (omega arith)));
          known = refl;
          between = left.between;
          fewer = less;
        })

pub found-record : (a b : State) (before after : Option (List ℕ)) (fields : Record) → ends_at_end a ≡ false → IsSome before
    → ReadsNext default_config a before after true fields b → Found a before b after fields
found-record a b before after fields between known read = search (rules, found-next)

-- a read that found no record
found-no_more : (a b : State) (xs ys : List ℕ) (fields : Record) → NextIs (next_record default_config a [] [] xs) false fields b ys → records_after a (Some xs) ≡ []
unfolding records_from
found-no_more a b xs ys fields next = grind arith

pub found-end : (a b : State) (before after : Option (List ℕ)) (fields : Record) → IsSome before
    → ReadsNext default_config a before after false fields b → records_after a before ≡ []
found-end a b None after fields known read = refl
found-end a b (Some xs) None fields known read = absurd read
found-end a b (Some xs) (Some ys) fields known read = found-no_more a b xs ys fields read

-- A text without its byte order mark is no longer than with it.
pub stripped-count : (text : List ℕ) (m : ℕ) → length text < m → 0 + length (strip_bom text) < m
unfolding strip_bom
stripped-count [] m h = omega arith
stripped-count (a ∷ []) m h = omega arith
stripped-count (a ∷ b ∷ []) m h = omega arith
stripped-count (a ∷ b ∷ c ∷ rest) m h = grind arith

-- After the check for a byte order mark, the reader reads from its buffer.
pending-is : (reader : Reader (Bor (List ℕ))) → reader.bom_checked ≡ true → text_left reader ≡ pending_of (Some reader.rdr.now) reader
pending-is reader with_open_group = rw with_open_group refl

-- the effects on the record reader, if a record was found
module _ (old new : RecordReader) (was : IsBetween old) (read : ReadRecord (λ s. Some s.now) old.reader new.reader true (record_given new)) where
  pub reader-found : Found (reader_state old.reader) (text_left old.reader) (reader_state new.reader) (text_left new.reader) (record_given new)
  reader-found =
      rw (pending-is new.reader read.1) (found-record _ _ _ _ _ was.between was.known (rw was.config at read.0))

  pub number-fits : old.number + 1 < 2 ^ 64
  number-fits = omega (arith, was.counted, reader-found.fewer)

  pub gives-found : took_first new.reader ≡ true → is_flexible new.reader ≡ is_flexible old.reader → new.number ≡ old.number + 1 → GivesNext old new true
  gives-found first flexible number = grind (arith, reader-found)

-- the effects on the record reader, if no record was found
pub gives-end : (old new : RecordReader) (fields : Record) → IsBetween old → ReadRecord (λ s. Some s.now) old.reader new.reader false fields → GivesNext old new false
gives-end old new fields was read = record {
  next = found-end _ (reader_state new.reader) _ _ fields was.known (rw was.config at read.0);
  number = λ e. cc e;
  between = λ e. cc e;
  fewer = λ e. cc e;
}

-- ---- The rows of a table, one record after another.

-- A record with another number of fields does not match the names.
pub other-length : (names : List (Bor (List ℕ))) (r : Record) → (length r ≡ length names → ⊥) → pointwise bytes_eq r (field_texts names) ≡ false
other-length names r other = grind (arith, common_steps)

-- Fields that match the names one by one are equal to the names.
pub names-are : (r : Record) (names : List (List ℕ)) → pointwise bytes_eq r names ≡ true → r ≡ names
names-are r names e = (slice_eq-Decides bytes_eq-Decides r names true (sym e)).0 refl

-- The fields from an index on match if the first of them matches and the others match.
fields-at : (names : List (Bor (List ℕ))) (r : Record) (place : ℕ) (d : Bor (List ℕ)) → length r ≡ length names → place < length names
    → pointwise bytes_eq (drop place r) (drop place (field_texts names))
    ≡ (bytes_eq (field_of r place) (get_or names place d).now && pointwise bytes_eq (drop (suc place) r) (drop (suc place) (field_texts names)))
unfolding field_at
fields-at [] r place d same inside = absurd (omega arith)
fields-at (name ∷ names) [] place d same inside = absurd (omega arith)
fields-at (name ∷ names) (field ∷ fields) zero d same inside = refl
fields-at (name ∷ names) (field ∷ fields) (suc place) d same inside = fields-at names fields place d (omega arith) (omega arith)

-- one field, which was compared with its name
module _ (names : List (Bor (List ℕ))) (r : Record) (place : ℕ) (d : Bor (List ℕ)) (field : List ℕ) (differs : Bool) (same : length r ≡ length names) (inside : place < length names)
    (is : field ≡ field_of r place) (reported : differs ≡ not (bytes_eq field (get_or names place d).now))
    (so_far : pointwise bytes_eq r (field_texts names) ≡ pointwise bytes_eq (drop place r) (drop place (field_texts names))) where
  pub fields-other : differs ≡ true → false ≡ pointwise bytes_eq r (field_texts names)
  fields-other apart = by (bytes_eq field (get_or names place d).now) refl (sym reported ∙ apart)
    where
      by : (b : Bool) → bytes_eq field (get_or names place d).now ≡ b → not b ≡ true → false ≡ pointwise bytes_eq r (field_texts names)
      by true e is_not = cc is_not
      by false e is_not = sym (so_far ∙ fields-at names r place d same inside ∙ rw (← is, e) refl)

  pub fields-more : differs ≡ false → pointwise bytes_eq r (field_texts names) ≡ pointwise bytes_eq (drop (place + 1) r) (drop (place + 1) (field_texts names))
  fields-more alike = rw add-one (by (bytes_eq field (get_or names place d).now) refl (sym reported ∙ alike))
    where
      by : (b : Bool) → bytes_eq field (get_or names place d).now ≡ b → not b ≡ false
          → pointwise bytes_eq r (field_texts names) ≡ pointwise bytes_eq (drop (suc place) r) (drop (suc place) (field_texts names))
      by true e is_not = so_far ∙ fields-at names r place d same inside ∙ rw (← is, e) refl
      by false e is_not = cc is_not

module _ (A : Type 0) (names : List (List ℕ)) (with_record : ℕ → A → Record → Result A TableFault) (none : A) (records : List Record) where
  -- The header was read.
  pub table-opened : (r : RecordReader) → IsOpened names records r → table_of names with_record none records ≡ table_from with_record (r.number + 1) none (records_left r)
  unfolding table_of
  table-opened r is = rw (is.header, is.number, is.rest) refl

  -- There is no valid header.
  pub table-closed : has_header names records ≡ false → table_of names with_record none records ≡ Err Header
  unfolding table_of
  table-closed is = rw is refl

module _ (A : Type 0) (with_record : ℕ → A → Record → Result A TableFault) (old new : RecordReader) (found : Bool) (step : GivesNext old new found)
    (answer : Result A TableFault) (table : A) (so_far : answer ≡ table_from with_record (old.number + 1) table (records_left old)) where
  -- Another record is added.
  pub table-more : (more : A) → found ≡ true → with_record new.number table (record_given new) ≡ Ok more → answer ≡ table_from with_record (new.number + 1) more (records_left new)
  unfolding table_from
  table-more more is row = so_far ∙ rw step.next (rw (is, ← step.number is, row) refl)

  -- A record is invalid.
  pub table-fault : (fault : TableFault) → found ≡ true → with_record new.number table (record_given new) ≡ Err fault → answer ≡ Err fault
  unfolding table_from
  table-fault fault is row = so_far ∙ rw step.next (rw (is, ← step.number is, row) refl)

  -- There are no more records.
  pub table-end : found ≡ false → answer ≡ Ok table
  unfolding table_from
  table-end is = so_far ∙ rw step.next (rw is refl)

-- ---- The result of a call that may run out of memory.

-- The fault is the expected one, unless it is `Memory`.
pub gives-fault : (A : Type 0) (expected answer : Result A TableFault) (fault : TableFault) → answer ≡ Err fault → (fault ≢ Memory → expected ≡ Err fault) → ReturnsUnlessMemory expected answer
gives-fault A expected answer fault is same = rw is same

record-no_cycle : (n : ℕ) (table : List Sequence) (r : Record) (fxy : ℕ) → with_record_d n table r ≡ Err (Cycle fxy) → ⊥
unfolding with_record_d
record-no_cycle n table r fxy e = grind arith

rows-no_cycle : (n : ℕ) (table : List Sequence) (rs : List Record) (fxy : ℕ) → table_from with_record_d n table rs ≡ Err (Cycle fxy) → ⊥
unfolding table_from
rows-no_cycle n table [] fxy e = cc e
rows-no_cycle n table (r ∷ rs) fxy e = by (with_record_d n table r) refl e (λ longer. rows-no_cycle (n + 1) longer rs fxy)
  where
    by : (row : Result (List Sequence) TableFault) → with_record_d n table r ≡ row → (row >>= (λ longer. table_from with_record_d (n + 1) longer rs)) ≡ Err (Cycle fxy)
        → ((longer : List Sequence) → table_from with_record_d (n + 1) longer rs ≡ Err (Cycle fxy) → ⊥) → ⊥
    by (Ok longer) is e on = on longer e
    by (Err fault) is e on = record-no_cycle n table r fxy (is ∙ e)

table-no_cycle : (records : List Record) (fxy : ℕ) → table_d_of records ≡ Err (Cycle fxy) → ⊥
unfolding table_of
table-no_cycle [] fxy e = cc e
table-no_cycle (first ∷ rest) fxy e = grind (arith, rows-no_cycle)

-- The same for a read of Table D, which looks for cycles only after all records.
pub reads-fault : (records : List Record) (answer : Result (List Sequence) TableFault) (fault : TableFault) → answer ≡ Err fault → (fault ≢ Memory → table_d_of records ≡ Err fault)
    → ReadsTableD records answer
reads-fault records answer fault is given = search (rules, table-no_cycle)

-- ---- Digits one after another, and numbers that do not fit.

digit_at : (digits : List ℕ) (i : ℕ) → list_all is_ascii_digit digits ≡ true → i < length digits → is_ascii_digit (get_or digits i 0) ≡ true
digit_at digits i all inside = by (is_ascii_digit (get_or digits i 0)) refl
  where
    by : (b : Bool) → is_ascii_digit (get_or digits i 0) ≡ b → is_ascii_digit (get_or digits i 0) ≡ true
    by true e = e
    by false e = cc (all, list_all_at is_ascii_digit digits i 0 inside e)

-- the number so far, capped at m
pub number_more : (digits : List ℕ) (i number m tens digit more : ℕ) → i < length digits → list_all is_ascii_digit digits ≡ true
    → number ≡ min (digits_value 10 (take i digits)) m
    → tens ≡ min (number * 10) m → digit ≡ get_or digits i 0 - 48 → more ≡ min (tens + digit) m
    → more ≡ min (digits_value 10 (take (i + 1) digits)) m
number_more digits i number m tens digit more inside all is by_ten last sum =
    let d = get_or digits i 0 in
    let is_digit = digit_at digits i all inside in
    let own : digit_value d + 48 ≡ d = digit_value_digit d (grind arith, grind (arith, nat_tests)) in
    omega (arith, own, is, by_ten, last, sum, digits_value_more)

-- ---- The number, if it fits in 64 bits.

abbrev pub negated : ℕ → ℤ
negated n = neg_ℤ (pos n)

abbrev fits_i64 : ℤ → Bool
fits_i64 (pos n) = nat_lt n (2 ^ 63)
fits_i64 (negsuc n) = nat_lt n (2 ^ 63)

abbrev pub if_i64 : ℤ → Option ℤ
if_i64 z = only_if (fits_i64 z) z

-- A magnitude that does not fit in 64 bits does not fit in an `i64`, even if it is capped.
capped-positive : (n : ℕ) → if_i64 (pos (min n (2 ^ 64 - 1))) ≡ only_if (nat_lt n (2 ^ 63)) (pos n)
capped-positive n = grind arith

negated-fits : (n : ℕ) → if_i64 (negated n) ≡ only_if (nat_le n (2 ^ 63)) (negated n)
negated-fits zero = grind arith
negated-fits (suc n) = grind arith

capped-negative : (n : ℕ) → if_i64 (negated (min n (2 ^ 64 - 1))) ≡ only_if (nat_le n (2 ^ 63)) (negated n)
capped-negative n = grind (arith, negated-fits (min n (2 ^ 64 - 1)))

-- the value of a function of a number, if there is a number, from the capped number
capped_then : (o : Option ℕ) (f g : ℕ → Option ℤ) (m : ℕ) → ((n : ℕ) → f (min n (2 ^ 64 - 1)) ≡ g n)
    → Some m ≡ option_map (λ n. min n (2 ^ 64 - 1)) o → f m ≡ option_and_then g o
capped_then None f g m same is = cc is
capped_then (Some n) f g m same is = grind arith

-- the `i64` of a text, from a magnitude that is capped at the greatest `u64`
pub i64_of-negative : (text digits : List ℕ) (m : ℕ) (result : Option ℤ) → (get_or text 0 0 == 45) ≡ true → digits ≡ drop 1 text
    → Some m ≡ option_map (λ n. min n (2 ^ 64 - 1)) (natural_of digits) → result ≡ if_i64 (negated m) → result ≡ i64_of text
unfolding i64_of
i64_of-negative text digits m result minus rest is so =
    rw minus (so ∙ capped_then (natural_of (drop 1 text)) (λ n. if_i64 (negated n)) (λ n. only_if (nat_le n (2 ^ 63)) (negated n)) m capped-negative (rw (← rest) is))

pub i64_of-positive : (text : List ℕ) (m : ℕ) (result : Option ℤ) → (get_or text 0 0 == 45) ≡ false
    → Some m ≡ option_map (λ n. min n (2 ^ 64 - 1)) (natural_of text) → result ≡ if_i64 (pos m) → result ≡ i64_of text
unfolding i64_of
i64_of-positive text m result plus is so =
    rw plus (so ∙ capped_then (natural_of text) (λ n. if_i64 (pos n)) (λ n. only_if (nat_lt n (2 ^ 63)) (pos n)) m capped-positive is)
