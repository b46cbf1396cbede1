-- The sequences of Table D, and chains in which each sequence contains the next (FM 94 BUFR, Table
-- D; the format of the file, the limits and the faults are our choice).
-- Cited by public contracts.
use Rattle.std.specs.Prelude.{◌≡◌, ◌≢◌, ℕ, ◌-◌, ◌==◌, ◌&&◌, Bool, true, false, not, nat_le, if◌then◌else◌, List, [], ◌∷◌, ◌++◌, length, map, codes, Option, Some, None, is_some, option_map, unwrap_or, Result, Ok, Err, IsSome, Contains, All, take_while, ⊤, ◌≤◌, ◌<◌, slice_range, ◌+◌, ◌⊎◌, slice_index, slice_index_or}
use Rattle.std.specs.List.{find, AllByRecursion}
use Rattle.bufr_tables.specs.declared.fault.TableFault.{TableFault}
use Rattle.bufr_tables.specs.declared.fault.TableFault.TheVariants as table
use Rattle.bufr_tables.specs.declared.fault.TableFault.TheVariants.{Cycle, Memory}
use Rattle.bufr_tables.specs.Fxy.{◌>>=◌, only_if, f_of, fxy_of, key_of}
use Rattle.bufr_tables.specs.Records.{Record, field_of, table_of}
use Rattle.bufr_tables.specs.declared.table_d.MemberRange.{MemberRange}
use Rattle.bufr_tables.specs.declared.table_d.TableD.TheInside.{Inside}

-- a sequence, represented by its descriptor and the list of its members
pub record Sequence : Type 0 where
  pub fxy : ℕ
  pub members : List ℕ

-- a row of a Table D file, which consists of a sequence and one of its members
pub record Member : Type 0 where
  pub sequence : ℕ
  pub fxy : ℕ

-- rule: fault-40
abbrev pub columns_d : List (List ℕ)
columns_d = codes "fxy" ∷ codes "member" ∷ []

-- the sequence descriptor that a string represents, or `None` for any other string
unfoldable pub sequence_of : List ℕ → Option ℕ
sequence_of text = fxy_of text >>= λ fxy. only_if (f_of fxy == 3) fxy

-- the row that a record contains, or `None` if either field is invalid
-- rule: fault-41-of-table-d
unfoldable pub member_of : Record → Option Member
member_of r = do
  sequence ← sequence_of (field_of r 0)
  fxy ← fxy_of (field_of r 1)
  Some (record { sequence = sequence; fxy = fxy })

-- the descriptors of the sequences, in file order
abbrev pub fxys_of : List Sequence → List ℕ
fxys_of table = map (λ s. s.fxy) table

-- the members of a sequence, or `None` if the table does not contain it
abbrev pub members_of : List Sequence → ℕ → Option (List ℕ)
members_of table fxy = option_map (λ s. s.members) (find (λ s. s.fxy == fxy) table)

-- the members of a sequence, or an empty list if the table does not contain it
abbrev pub members_or_none : List Sequence → ℕ → List ℕ
members_or_none table fxy = unwrap_or (members_of table fxy) []

-- whether the last sequence so far has the given descriptor
abbrev pub is_last : List Sequence → ℕ → Bool
is_last [] fxy = false
is_last (s ∷ []) fxy = s.fxy == fxy
is_last (s ∷ t ∷ rest) fxy = is_last (t ∷ rest) fxy

-- the sequences after appending a member to the last one
abbrev pub extended : List Sequence → ℕ → List Sequence
extended [] member = []
extended (s ∷ []) member = record { fxy = s.fxy; members = s.members ++ member ∷ [] } ∷ []
extended (s ∷ t ∷ rest) member = s ∷ extended (t ∷ rest) member

-- the sequences after adding one more row, which extends the last sequence or begins a new one
unfoldable pub added : List Sequence → Member → List Sequence
added table row =
    if is_last table row.sequence then extended table row.fxy
    else table ++ record { fxy = row.sequence; members = row.fxy ∷ [] } ∷ []

-- whether a row belongs to a sequence that precedes the last one
-- rule: fault-42
abbrev pub begins_again : List Sequence → Member → Bool
begins_again table row = not (is_last table row.sequence) && is_some (members_of table row.sequence)

-- The sequences after adding the row in record n, or the fault in that record. Since record 1 is
-- the header, n - 2 rows precede record n. A table has at most 65,536 rows.
-- rule: fault-44, order-in-a-record
abbrev pub with_member : ℕ → List Sequence → Option Member → Result (List Sequence) TableFault
with_member n sequences None = Err (table.Row n)
with_member n sequences (Some row) =
    if begins_again sequences row then Err (table.Duplicate row.sequence)
    else if nat_le 65536 (n - 2) then Err table.TableSize else Ok (added sequences row)

-- the sequences after adding the row in record n, or the fault in that record; a record must have
-- two fields
-- rule: fault-45, order-in-a-record
unfoldable pub with_record_d : ℕ → List Sequence → Record → Result (List Sequence) TableFault
with_record_d n sequences r =
    if length r == 2 then with_member n sequences (member_of r) else Err table.Csv

-- the Table D sequences defined by the records, or the first fault; cycles are detected later
abbrev pub table_d_of : List Record → Result (List Sequence) TableFault
table_d_of records = table_of columns_d with_record_d [] records

-- the members of a sequence, taken from the given rows in order
abbrev pub members_in : List Member → ℕ → List ℕ
members_in [] fxy = []
members_in (row ∷ rows) fxy =
    if row.sequence == fxy then row.fxy ∷ members_in rows fxy else members_in rows fxy

-- The members of each sequence are those listed in the records after the header, in the same order.
pub record AreSequences (records : List Record) (table : List Sequence) : Type 0 where
  pub rest : List Record
  pub split : records ≡ columns_d ∷ rest
  pub rows : List Member
  pub written : map member_of rest ≡ map Some rows
  pub members : (fxy : ℕ) → members_or_none table fxy ≡ members_in rows fxy

-- ---- Chains of members. A sequence that contains itself cannot be expanded (FM 94 BUFR, Table D;
-- the fault is our choice).

-- Sequence `from` has the member `to`, which is also a sequence in the table.
abbrev pub Leads : List Sequence → (from to : ℕ) → Type 0
Leads table from to = Contains (members_or_none table from) to × IsSome (members_of table to)

-- One sequence contains another, directly or through other sequences.
pub data Chain (table : List Sequence) : ℕ → ℕ → Type 0 where
  one : {from to : ℕ} → Leads table from to → Chain table from to
  more : {from by to : ℕ} → Leads table from by → Chain table by to → Chain table from to

-- A sequence contains itself, directly or through other sequences.
abbrev pub ReachesItself : List Sequence → ℕ → Type 0
ReachesItself table fxy = Chain table fxy fxy

-- The given sequence is the first one in the file that contains itself.
-- rule: fault-43
abbrev pub IsFirstCycle : List Sequence → (fxy : ℕ) → Type 0
IsFirstCycle table fxy =
    ReachesItself table fxy
    × All (λ s. ¬ ReachesItself table s.fxy) (take_while (λ s. not (s.fxy == fxy)) table)

-- Reading Table D returns the table or the first fault. A sequence that contains itself is reported
-- only if the records contain no other fault.
-- rule: fault-43-last
abbrev pub ReadsTableD : List Record → Result (List Sequence) TableFault → Type 0
ReadsTableD records (Ok table) =
    (table_d_of records ≡ Ok table) × ((fxy : ℕ) → ¬ ReachesItself table fxy)
ReadsTableD records (Err (Cycle fxy)) =
    (table : List Sequence) × (table_d_of records ≡ Ok table) × IsFirstCycle table fxy
ReadsTableD records (Err fault) = fault ≢ Memory → table_d_of records ≡ Err fault

-- ---- How Table D is stored. A single list contains the members of all sequences, and each
-- sequence is stored as a range of indices in that list.

-- the sequence whose members are in the given range
abbrev pub stored_sequence : List ℕ → MemberRange → Sequence
stored_sequence members run =
    record { fxy = run.fxy; members = slice_range members run.start run.end }

abbrev pub stored_sequences : List ℕ → List MemberRange → List Sequence
stored_sequences members runs = map (stored_sequence members) runs

-- The range is not empty and lies within the list of all members.
abbrev pub IsMemberRange : ℕ → MemberRange → Type 0
IsMemberRange size run = (run.start < run.end) × (run.end ≤ size)

-- a sequence's X and Y, as one number
abbrev pub run_key : MemberRange → ℕ
run_key run = key_of run.fxy

-- The last range extends to the end of the list of members.
abbrev pub LastEnds : ℕ → List MemberRange → Type 0
LastEnds size [] = ⊤
LastEnds size (run ∷ []) = run.end ≡ size
LastEnds size (run ∷ next ∷ rest) = LastEnds size (next ∷ rest)

-- Every range lies within the list of members and has a sequence descriptor. The last range extends
-- to the end of the list, and the index contains the X and Y of each sequence.
pub record IsTableD (a : Inside) : Type 0 where
  pub inside : AllByRecursion (IsMemberRange (length a.members.items)) a.runs.items
  pub sequences : AllByRecursion (λ run. (49152 ≤ run.fxy) × (run.fxy < 65536)) a.runs.items
  pub members_or_none : a.directory ≡ map run_key a.runs.items
  pub last : LastEnds (length a.members.items) a.runs.items

abbrev pub table_d_rows : Inside → List Sequence
table_d_rows a = stored_sequences a.members.items a.runs.items

-- ---- The state of the search for cycles. The flags are indexed by 16-bit descriptor numbers.

-- the rank of a sequence; `ranks` is indexed by X and Y as one number (see `key_of`)
abbrev pub rank_of : List ℕ → ℕ → ℕ
rank_of ranks fxy = slice_index ranks (key_of fxy)

-- Each member of the given sequence that is itself a sequence has a rank below `limit`.
abbrev pub IsAbove : List Sequence → List ℕ → ℕ → ℕ → Type 0
IsAbove table ranks fxy limit = (to : ℕ) → Leads table fxy to → rank_of ranks to < limit

-- No member of a sequence has a higher rank than the sequence itself.
abbrev pub Falls : List Sequence → List ℕ → Type 0
Falls table ranks = (fxy : ℕ) → IsAbove table ranks fxy (rank_of ranks fxy + 1)

-- The given descriptor's flag is set.
abbrev pub IsSet : List Bool → ℕ → Type 0
IsSet flags fxy = slice_index_or flags fxy false ≡ true

-- the number of flags that are not set
abbrev pub unset : List Bool → ℕ
unset [] = 0
unset (flag ∷ flags) = (if flag then 0 else 1) + unset flags

-- The first `count` members of a sequence were visited. Members that are sequences were flagged,
-- and those flagged for the first time were appended to the queue.
pub record IsVisited (table : List Sequence) (fxy count : ℕ) (old : List Bool) (queue : List ℕ)
    (new : List Bool) (longer : List ℕ) : Type 0 where
  pub more : List ℕ
  pub queued : longer ≡ queue ++ more
  pub flags : length new ≡ length old
  pub leads : (to : ℕ) → Contains more to → Leads table fxy to
  pub kept : (to : ℕ) → IsSet old to → IsSet new to
  pub news : (to : ℕ) → IsSet new to → IsSet old to ⊎ Contains more to
  pub balance : unset new + length more ≡ unset old
  pub seen : (k : ℕ) → k < count → k < length (members_or_none table fxy)
      → IsSome (members_of table (slice_index (members_or_none table fxy) k))
      → IsSet new (slice_index (members_or_none table fxy) k)
