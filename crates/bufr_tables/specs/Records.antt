-- How a table file is divided into records (our choice). `records`, which is defined in the crate
-- `csv`, allows any number of fields in a record and does not trim spaces. The header is record 1.
-- Cited by public contracts.
use Rattle.std.specs.Prelude.{ℕ, ◌+◌, ◌^◌, Bool, if◌then◌else◌, List, [], ◌∷◌, length, drop, Option, Some, None, unwrap_or, ◌≡◌, ◌≢◌, Result, Ok, Err, true, false, ◌<◌, map, IsSome}
use Rattle.csv.specs.Reading.{default_config, records, strip_bom, Ready, is_flexible, reader_config, reader_state, reader_trim, records_from, source_of}
use Rattle.csv.specs.Records.{field_at, fields_of}
use Rattle.bufr_tables.specs.declared.fault.TableFault.{TableFault}
use Rattle.bufr_tables.specs.declared.fault.TableFault.TheVariants.{Header, Memory}
use Rattle.std.specs.Str.{bytes_eq}
use Rattle.std.specs.Cmp.Lexicographic.{pointwise}
use Rattle.std.specs.Borrow.{Bor}
use Rattle.csv.specs.Machine.{ends_at_end}
use Rattle.csv.specs.declared.parser.State.{State}
use Rattle.csv.specs.declared.reader.Reader.{Reader}
use Rattle.bufr_tables.specs.declared.rows.RecordReader.{RecordReader}
use Rattle.csv.specs.declared.reader.Trim.TheVariants as trim

-- a record, represented as the list of its fields
abbrev pub Record : Type 0
Record = List (List ℕ)

-- The records in a file with the given contents. A byte order mark at the beginning is ignored,
-- empty lines are skipped, and a quoted field without a closing quote extends to the end of the
-- file.
abbrev pub records_of : List ℕ → List Record
records_of text = records default_config (strip_bom text)

-- a record's field at index `place` (counted from 0), or an empty string if there is no such field
abbrev pub field_of : Record → ℕ → List ℕ
field_of record' place = unwrap_or (field_at record' place) []

-- ---- Steps that may fail, and calls that may run out of memory.

-- the result of passing x to `next`, or the fault if the first step failed
infixl 10 ◌>>=◌
abbrev pub ◌>>=◌ : {E A B : Type 0} → Result A E → (A → Result B E) → Result B E
(Ok x) >>= next = next x
(Err fault) >>= next = Err fault

-- A call returned the expected result, unless memory ran out.
abbrev pub ReturnsUnlessMemory : {A : Type 0} → Result A TableFault → Result A TableFault → Type 0
ReturnsUnlessMemory expected (Ok x) = expected ≡ Ok x
ReturnsUnlessMemory expected (Err fault) = fault ≢ Memory → expected ≡ Err fault

-- ---- Tables, in which the first record is the header and every other record is a row (not part of
-- FM 94 BUFR).

-- whether the first record is the given header
-- rule: fault-40
abbrev pub has_header : List (List ℕ) → List Record → Bool
has_header header [] = false
has_header header (first ∷ rest) = pointwise bytes_eq first header

-- The table after adding the given records one by one, or the first fault. `with_record` adds a
-- single record, and n is the number of the first record.
-- rule: first-record-decides
unfoldable pub table_from : {A : Type 0} → (with_record : ℕ → A → Record → Result A TableFault) → ℕ
    → A → List Record → Result A TableFault
table_from with_record n table [] = Ok table
table_from with_record n table (r ∷ rs) =
    with_record n table r >>= λ more. table_from with_record (n + 1) more rs

-- The table defined by the records, or the first fault. The header is checked first, and then the
-- rows are added to the empty table `none`.
unfoldable pub table_of : {A : Type 0} → (header : List (List ℕ)) → (with_record : ℕ → A → Record
    → Result A TableFault) → (none : A) → List Record → Result A TableFault
table_of header with_record none records =
    if has_header header records then table_from with_record 2 none (drop 1 records) else Err Header

-- ---- The records that a reader has not returned yet.

-- the octets that follow the records read so far
abbrev pub text_left : Reader (Bor (List ℕ)) → Option (List ℕ)
text_left reader = source_of (λ s. Some s.now) reader

-- the records that a reader in the given state can still read from the remaining octets, or an
-- empty list if these octets are unknown
abbrev pub records_after : State → Option (List ℕ) → List Record
records_after state None = []
records_after state (Some text) = records_from default_config (length text + 1) state text

abbrev pub records_left : RecordReader → List Record
records_left r = records_after (reader_state r.reader) (text_left r.reader)

-- the number of octets in an optional list, or 0 for `None`
abbrev pub count_of : Option (List ℕ) → ℕ
count_of None = 0
count_of (Some text) = length text

abbrev pub octets_left : RecordReader → ℕ
octets_left r = count_of (text_left r.reader)

-- The reader has the expected configuration and is not in the middle of a record.
pub record IsBetween (r : RecordReader) : Type 0 where
  pub config : reader_config r.reader ≡ default_config
  pub trim : reader_trim r.reader ≡ trim.None
  pub ready : Ready r.reader
  pub flexible : is_flexible r.reader ≡ true
  pub known : IsSome (text_left r.reader)
  pub between : ends_at_end (reader_state r.reader) ≡ false
  pub counted : r.number + octets_left r < 2 ^ 64

-- the fields of the most recently read record
abbrev pub record_given : RecordReader → Record
record_given r = fields_of r.row

-- The reader either read and counted the next record, or found no more records.
pub record GivesNext (old new : RecordReader) (found : Bool) : Type 0 where
  pub next : records_left old ≡ (if found then record_given new ∷ records_left new else [])
  pub number : found ≡ true → new.number ≡ old.number + 1
  pub between : found ≡ true → IsBetween new
  pub fewer : found ≡ true → octets_left new < octets_left old

-- The reader has read only the header, which is record 1.
pub record IsOpened (names : List (List ℕ)) (records : List Record)
    (r : RecordReader) : Type 0 where
  pub between : IsBetween r
  pub number : r.number ≡ 1
  pub header : has_header names records ≡ true
  pub rest : records_left r ≡ drop 1 records

-- the contents of a list of borrowed strings
abbrev pub field_texts : List (Bor (List ℕ)) → List (List ℕ)
field_texts texts = map (λ text. text.now) texts
