-- The sequences of Table D, and their members.
use Rattle.std.proofs.lemmas.Grind.{common_steps}
use Rattle.std.proofs.Common.{◌≡◌, ◌≢◌, ℕ, ◌+◌, ◌-◌, ◌/◌, ◌<◌, ◌≤◌, false, List, [], ◌∷◌, ◌++◌, length, map, set, Option, Some, None, refl, ap, ◌∙◌, arith, suc, zero, get_or, option_map, rules, Bool, true, sym, Result, Ok, Err, ◌==◌, slice_index, slice_range, ◌&&◌, cond, if◌then◌else◌, is_some, nat_eq, not, unwrap_or}
use Rattle.std.specs.Str.{bytes_eq}
use Rattle.bufr_tables.proofs.RecordLemmas.{names-are}
use Rattle.std.specs.Cmp.Lexicographic.{pointwise}
use Rattle.std.specs.List.{AllByRecursion, IsDistinct, find}
use Rattle.std.proofs.lemmas.List.{drop_at, map-append, append-nil, append_assoc, map-id}
use Rattle.bufr_tables.proofs.TableBLemmas.{find-absent, find-found, place-absent, range-append, distinct-added, distinct-none}
use Rattle.bufr_tables.specs.Prelude.{◌>>=◌, place_of, f_of, key_of, IsMemberRange, LastEnds, run_key, stored_sequence, stored_sequences, Sequence, extended, fxys_of, is_last, members_of, AreSequences, Member, added, begins_again, columns_d, members_or_none, member_of, members_in, table_d_of, with_record_d, Record, table_from, table_of, TableFault}
use Rattle.bufr_tables.specs.declared.table_d.MemberRange.{MemberRange}
use Rattle.std.proofs.lemmas.Bool.{eqb-true}
use Rattle.bufr_tables.specs.declared.fault.TableFault.TheVariants.{Header}

abbrev pub IsSequence : MemberRange → Type 0
IsSequence run = (49152 ≤ run.fxy) × (run.fxy < 65536)

-- Descriptors of sequences differ in X and Y only.
key-is : (a : ℕ) → 49152 ≤ a → a < 65536 → key_of a ≡ a - 49152
key-is a low high = omega arith

same-difference : (a b : ℕ) → 49152 ≤ a → 49152 ≤ b → (a == b) ≡ (a - 49152 == b - 49152)
same-difference a b low high = grind arith

same-key : (a b : ℕ) → 49152 ≤ a → a < 65536 → 49152 ≤ b → b < 65536 → (a == b) ≡ (key_of a == key_of b)
same-key a b a_low a_high b_low b_high = rw (key-is a a_low a_high, key-is b b_low b_high) (same-difference a b a_low b_low)

all-same : (members : List ℕ) (fxy : ℕ) (runs : List MemberRange) → 49152 ≤ fxy → fxy < 65536 → AllByRecursion IsSequence runs
    → AllByRecursion (λ run. ((stored_sequence members run).fxy == fxy) ≡ (run_key run == key_of fxy)) runs
all-same members fxy [] low high all = tt
all-same members fxy (run ∷ runs) low high all = (same-key run.fxy fxy all.0.0 all.0.1 low high, all-same members fxy runs low high all.1)

-- The directory contains a descriptor if and only if the table does.
module _ (members : List ℕ) (runs : List MemberRange) (fxy : ℕ) (all : AllByRecursion IsSequence runs) where
  pub members-absent : 49152 ≤ fxy → fxy < 65536 → place_of (map run_key runs) (key_of fxy) ≡ None → members_of (stored_sequences members runs) fxy ≡ None
  members-absent low high absent =
      ap (λ (o : Option Sequence). option_map (λ s. s.members) o)
      (find-absent MemberRange Sequence (stored_sequence members) (λ s. s.fxy == fxy) run_key (key_of fxy) runs (all-same members fxy runs low high all) absent)

  pub place-lacking : 49152 ≤ fxy → fxy < 65536 → members_of (stored_sequences members runs) fxy ≡ None → place_of (map run_key runs) (key_of fxy) ≡ None
  place-lacking low high absent =
      place-absent MemberRange Sequence (stored_sequence members) (λ s. s.fxy == fxy) run_key (key_of fxy) runs (all-same members fxy runs low high all) (none _ absent)
    where
      none : (o : Option Sequence) → option_map (λ s. s.members) o ≡ None → o ≡ None
      none None e = refl
      none (Some s) e = cc e

  pub members-found : (place : ℕ) (run : MemberRange) → 49152 ≤ fxy → fxy < 65536 → place_of (map run_key runs) (key_of fxy) ≡ Some place → run ≡ get_or runs place run
      → Some (slice_range members run.start run.end) ≡ members_of (stored_sequences members runs) fxy
  members-found place run low high found at =
      let row = find-found MemberRange Sequence (stored_sequence members) (λ s. s.fxy == fxy) run_key (key_of fxy) runs place run (all-same members fxy runs low high all) found in
      rw (row, ← at) refl

-- A descriptor that is not a sequence has no members.
unlike : (a b : ℕ) → 49152 ≤ a → a < 65536 → b / 16384 ≢ 3 → (a == b) ≡ false
unlike a b low high other = grind arith

pub members-other : (members : List ℕ) (runs : List MemberRange) (fxy : ℕ) → AllByRecursion IsSequence runs → f_of fxy ≢ 3 → members_of (stored_sequences members runs) fxy ≡ None
members-other members [] fxy all other = refl
members-other members (run ∷ runs) fxy all other = rw (unlike run.fxy fxy all.0.0 all.0.1 other) (members-other members runs fxy all.1 other)

-- the last sequence
pub is_last-at : (members : List ℕ) (runs : List MemberRange) (i fxy : ℕ) (run : MemberRange) → i + 1 ≡ length runs → run ≡ get_or runs i run
    → is_last (stored_sequences members runs) fxy ≡ (run.fxy == fxy)
is_last-at members [] i fxy run last at = absurd (omega arith)
is_last-at members (r ∷ []) zero fxy run last at = rw at refl
is_last-at members (r ∷ []) (suc i) fxy run last at = absurd (omega arith)
is_last-at members (r ∷ t ∷ runs) zero fxy run last at = absurd (omega arith)
is_last-at members (r ∷ t ∷ runs) (suc i) fxy run last at = is_last-at members (t ∷ runs) i fxy run (omega arith) at

-- a range with one more member
abbrev pub longer : MemberRange → MemberRange
longer run = record { fxy = run.fxy; start = run.start; end = run.end + 1 }

range-push : (xs : List ℕ) (x i j : ℕ) → i ≤ j → j ≡ length xs → slice_range (xs ++ x ∷ []) i (j + 1) ≡ slice_range xs i j ++ x ∷ []
range-push xs x i j before end = grind (arith, common_steps)

abbrev pub alone : ℕ → List ℕ → List Sequence
alone fxy ms = record { fxy = fxy; members = ms } ∷ []

module _ (members : List ℕ) (member : ℕ) where
  pub stored_sequences-extended : (runs : List MemberRange) (i : ℕ) (run : MemberRange) → i + 1 ≡ length runs → run ≡ get_or runs i run → AllByRecursion (IsMemberRange (length members)) runs
      → LastEnds (length members) runs
      → stored_sequences (members ++ member ∷ []) (set runs i (longer run)) ≡ extended (stored_sequences members runs) member
  stored_sequences-extended [] i run last at inside end = absurd (omega arith)
  stored_sequences-extended (r ∷ []) zero run last at inside end =
      rw at (ap (alone r.fxy) (range-push members member r.start r.end (omega (arith, inside.0.0)) end))
  stored_sequences-extended (r ∷ []) (suc i) run last at inside end = absurd (omega arith)
  stored_sequences-extended (r ∷ t ∷ runs) zero run last at inside end = absurd (omega arith)
  stored_sequences-extended (r ∷ t ∷ runs) (suc i) run last at inside end =
      let here = range-append members (member ∷ []) r.start r.end (omega (arith, inside.0.0)) inside.0.1 in
      let rest = stored_sequences-extended (t ∷ runs) i run (omega arith) at inside.1 end in
      cc

pub stored_sequences-append : (members more : List ℕ) (runs : List MemberRange) → AllByRecursion (IsMemberRange (length members)) runs
    → stored_sequences (members ++ more) runs ≡ stored_sequences members runs
stored_sequences-append members more [] inside = refl
stored_sequences-append members more (r ∷ runs) inside =
    let here = range-append members more r.start r.end (omega (arith, inside.0.0)) inside.0.1 in
    let rest = stored_sequences-append members more runs inside.1 in
    cc

-- properties of the ranges that hold after the last range grows
pub runs-more : (n m : ℕ) (runs : List MemberRange) → n ≤ m → AllByRecursion (IsMemberRange n) runs → AllByRecursion (IsMemberRange m) runs
runs-more n m [] more inside = tt
runs-more n m (r ∷ runs) more inside = ((inside.0.0, omega (arith, inside.0.1)), runs-more n m runs more inside.1)

pub all-set : (P : MemberRange → Type 0) (runs : List MemberRange) (i : ℕ) (run : MemberRange) → AllByRecursion P runs → P run → AllByRecursion P (set runs i run)
all-set P [] i run all here = tt
all-set P (r ∷ runs) zero run all here = (here, all.1)
all-set P (r ∷ runs) (suc i) run all here = (all.0, all-set P runs i run all.1 here)

pub all-push : (P : MemberRange → Type 0) (runs : List MemberRange) (run : MemberRange) → AllByRecursion P runs → P run → AllByRecursion P (runs ++ run ∷ [])
all-push P [] run all here = (here, tt)
all-push P (r ∷ runs) run all here = (all.0, all-push P runs run all.1 here)

pub all-at : (P : MemberRange → Type 0) (runs : List MemberRange) (i : ℕ) (run : MemberRange) → AllByRecursion P runs → i < length runs → run ≡ get_or runs i run → P run
all-at P [] i run all inside at = absurd (omega arith)
all-at P (r ∷ runs) zero run all inside at = rw at all.0
all-at P (r ∷ runs) (suc i) run all inside at = all-at P runs i run all.1 (omega arith) at

pub keys-set : (runs : List MemberRange) (i : ℕ) (run : MemberRange) → run ≡ get_or runs i run → map run_key (set runs i (longer run)) ≡ map run_key runs
keys-set [] i run at = refl
keys-set (r ∷ runs) zero run at = rw at refl
keys-set (r ∷ runs) (suc i) run at = cc (keys-set runs i run at)

pub last-set : (n : ℕ) (runs : List MemberRange) (i : ℕ) (run : MemberRange) → i + 1 ≡ length runs → run.end ≡ n → LastEnds n (set runs i run)
last-set n [] i run last end = tt
last-set n (r ∷ []) zero run last end = end
last-set n (r ∷ []) (suc i) run last end = absurd (omega arith)
last-set n (r ∷ t ∷ runs) zero run last end = absurd (omega arith)
last-set n (r ∷ t ∷ runs) (suc zero) run last end = grind arith
last-set n (r ∷ t ∷ runs) (suc (suc i)) run last end = last-set n (t ∷ runs) (suc i) run (omega arith) end

pub last-push : (n : ℕ) (runs : List MemberRange) (run : MemberRange) → run.end ≡ n → LastEnds n (runs ++ run ∷ [])
last-push n [] run end = end
last-push n (r ∷ []) run end = end
last-push n (r ∷ t ∷ runs) run end = last-push n (t ∷ runs) run end

pub last-end : (n : ℕ) (runs : List MemberRange) (i : ℕ) (run : MemberRange) → LastEnds n runs → i + 1 ≡ length runs → run ≡ get_or runs i run → run.end ≡ n
last-end n [] i run ends last at = absurd (omega arith)
last-end n (r ∷ []) zero run ends last at = rw at ends
last-end n (r ∷ []) (suc i) run ends last at = absurd (omega arith)
last-end n (r ∷ t ∷ runs) zero run ends last at = absurd (omega arith)
last-end n (r ∷ t ∷ runs) (suc i) run ends last at = last-end n (t ∷ runs) i run ends (omega arith) at

-- a new sequence with its first member
pub stored_sequences-begun : (members : List ℕ) (member : ℕ) (runs : List MemberRange) (run : MemberRange) (fxy : ℕ) → AllByRecursion (IsMemberRange (length members)) runs
    → run ≡ record { fxy = fxy; start = length members; end = length members + 1 }
    → stored_sequences (members ++ member ∷ []) (runs ++ run ∷ []) ≡ stored_sequences members runs ++ record { fxy = fxy; members = member ∷ [] } ∷ []
stored_sequences-begun members member runs run fxy inside is = grind (arith, drop_at, map-append, stored_sequences-append)

pub some-runs : (members : List ℕ) (runs : List MemberRange) → stored_sequences members runs ≢ [] → 0 < length runs
some-runs members [] some = absurd (some refl)
some-runs members (run ∷ runs) some = omega arith

-- the descriptor at an index
pub fxy-at : (members : List ℕ) (runs : List MemberRange) (place : ℕ) (run : MemberRange) → place < length (stored_sequences members runs) → run ≡ get_or runs place run
    → run.fxy ≡ slice_index (fxys_of (stored_sequences members runs)) place
fxy-at members [] place run inside at = absurd (omega arith)
fxy-at members (r ∷ runs) zero run inside at = rw at
fxy-at members (r ∷ runs) (suc place) run inside at = fxy-at members runs place run (omega arith) at

-- ---- The members of a sequence are those that the rows give it.

-- the members that one sequence contributes to a descriptor
abbrev only : ℕ → List ℕ → ℕ → List ℕ
only sequence members fxy = if sequence == fxy then members else []

same-tests : (a b c : ℕ) → (a == c) ≡ true → (b == c) ≡ (b == a)
same-tests a b c e = rw (eqb-true a c e) refl

flip-tests : (a b : ℕ) → (a == b) ≡ false → (b == a) ≡ false
flip-tests a b e = search rules

-- If a search finds nothing, the first sequence is not the one, and neither are the others.
record Lacks (s : Sequence) (table : List Sequence) (fxy : ℕ) : Type 0 where
  first : (s.fxy == fxy) ≡ false
  rest : members_of table fxy ≡ None

lacks : (s : Sequence) (table : List Sequence) (fxy : ℕ) → members_of (s ∷ table) fxy ≡ None → Lacks s table fxy
lacks s table fxy absent = by (s.fxy == fxy) refl absent
  where
    by : (b : Bool) → (s.fxy == fxy) ≡ b → option_map (λ (q : Sequence). q.members) (cond b (Some s) (find (λ q. q.fxy == fxy) table)) ≡ None → Lacks s table fxy
    by true e absent = cc absent
    by false e absent = record { first = e; rest = absent }

-- a sequence that is appended to a table without it
begun-listed : (table : List Sequence) (new : Sequence) (fxy : ℕ) → members_of table new.fxy ≡ None
    → members_or_none (table ++ new ∷ []) fxy ≡ members_or_none table fxy ++ only new.fxy new.members fxy
begun-listed [] new fxy absent = grind arith
begun-listed (s ∷ table) new fxy absent =
    let parts = lacks s table new.fxy absent in
    by (s.fxy == fxy) refl parts.first (begun-listed table new fxy parts.rest)
  where
    by : (b : Bool) → (s.fxy == fxy) ≡ b → (s.fxy == new.fxy) ≡ false → members_or_none (table ++ new ∷ []) fxy ≡ members_or_none table fxy ++ only new.fxy new.members fxy
        → unwrap_or (option_map (λ (q : Sequence). q.members) (cond b (Some s) (find (λ q. q.fxy == fxy) (table ++ new ∷ [])))) []
        ≡ unwrap_or (option_map (λ (q : Sequence). q.members) (cond b (Some s) (find (λ q. q.fxy == fxy) table))) [] ++ only new.fxy new.members fxy
    by true e other on =
        let differs : (new.fxy == fxy) ≡ false = same-tests s.fxy new.fxy fxy e ∙ flip-tests s.fxy new.fxy other in
        rw differs (sym (append-nil s.members))
    by false e other on = on

-- A descriptor that differs from all those of the table differs from the last one.
last-differs : (table : List Sequence) (fxy sequence : ℕ) → is_last table sequence ≡ true → AllByRecursion (λ y. nat_eq fxy y ≡ false) (fxys_of table) → (fxy == sequence) ≡ false
last-differs [] fxy sequence last apart = cc last
last-differs (s ∷ []) fxy sequence last apart = rw (← eqb-true s.fxy sequence last) apart.0
last-differs (s ∷ t ∷ table) fxy sequence last apart = last-differs (t ∷ table) fxy sequence last apart.1

-- The last sequence gets another member.
extended-listed : (table : List Sequence) (sequence member fxy : ℕ) → is_last table sequence ≡ true → IsDistinct nat_eq (fxys_of table)
    → members_or_none (extended table member) fxy ≡ members_or_none table fxy ++ only sequence (member ∷ []) fxy
unfolding IsDistinct
extended-listed [] sequence member fxy last distinct = cc last
extended-listed (s ∷ []) sequence member fxy last distinct = grind arith
extended-listed (s ∷ t ∷ table) sequence member fxy last distinct =
    by (s.fxy == fxy) refl (last-differs (t ∷ table) s.fxy sequence last distinct.0) (extended-listed (t ∷ table) sequence member fxy last distinct.1)
  where
    by : (b : Bool) → (s.fxy == fxy) ≡ b → (s.fxy == sequence) ≡ false
        → members_or_none (extended (t ∷ table) member) fxy ≡ members_or_none (t ∷ table) fxy ++ only sequence (member ∷ []) fxy
        → unwrap_or (option_map (λ (q : Sequence). q.members) (cond b (Some s) (find (λ q. q.fxy == fxy) (extended (t ∷ table) member)))) []
        ≡ unwrap_or (option_map (λ (q : Sequence). q.members) (cond b (Some s) (find (λ q. q.fxy == fxy) (t ∷ table)))) [] ++ only sequence (member ∷ []) fxy
    by true e other on =
        let differs : (sequence == fxy) ≡ false = same-tests s.fxy sequence fxy e ∙ flip-tests s.fxy sequence other in
        rw differs (sym (append-nil s.members))
    by false e other on = on

extended-fxys : (table : List Sequence) (member : ℕ) → fxys_of (extended table member) ≡ fxys_of table
extended-fxys [] member = refl
extended-fxys (s ∷ []) member = refl
extended-fxys (s ∷ t ∷ table) member = cc (extended-fxys (t ∷ table) member)

-- a row that does not begin a second run of a sequence
record Added (table : List Sequence) (row : Member) : Type 0 where
  members : (fxy : ℕ) → members_or_none (added table row) fxy ≡ members_or_none table fxy ++ only row.sequence (row.fxy ∷ []) fxy
  distinct : IsDistinct nat_eq (fxys_of (added table row))

same-keys : (fxy : ℕ) (table : List Sequence) → AllByRecursion (λ s. (s.fxy == fxy) ≡ (s.fxy == fxy)) table
same-keys fxy [] = tt
same-keys fxy (s ∷ table) = (refl, same-keys fxy table)

row-added : (table : List Sequence) (row : Member) → IsDistinct nat_eq (fxys_of table) → begins_again table row ≡ false → Added table row
unfolding added
row-added table row distinct fresh = by (is_last table row.sequence) refl (members_of table row.sequence) refl fresh
  where
    new : Sequence
    new = record { fxy = row.sequence; members = row.fxy ∷ [] }

    gone : (o : Option Sequence) → option_map (λ (q : Sequence). q.members) o ≡ None → o ≡ None
    gone None e = refl
    gone (Some q) e = cc e

    by : (b : Bool) → is_last table row.sequence ≡ b → (o : Option (List ℕ)) → members_of table row.sequence ≡ o → (not b && is_some o) ≡ false → Added table row
    by true e o m fresh = record {
      members = λ fxy. rw e (extended-listed table row.sequence row.fxy fxy e distinct);
      distinct = rw (e, extended-fxys table row.fxy) distinct;
    }
    by false e None m fresh = record {
      members = λ fxy. rw e (begun-listed table (record { fxy = row.sequence; members = row.fxy ∷ [] }) fxy m);
      distinct =
          let absent = place-absent Sequence Sequence (λ s. s) (λ s. s.fxy == row.sequence) (λ s. s.fxy) row.sequence table (same-keys row.sequence table) (rw map-id (gone _ m)) in
          rw (e, map-append) (distinct-added (fxys_of table) row.sequence distinct absent);
    }
    by false e (Some members) m fresh = cc fresh

-- The record adds a row.
record AddsRow (table : List Sequence) (r : Record) (longer : List Sequence) : Type 0 where
  row : Member
  written : member_of r ≡ Some row
  added' : longer ≡ added table row
  fresh : begins_again table row ≡ false

same_Ok : (x y : List Sequence) → ◌≡◌ {A = Result (List Sequence) TableFault} (Ok x) (Ok y) → x ≡ y
same_Ok x y e = cc e

record-adds : (n : ℕ) (table : List Sequence) (r : Record) (longer : List Sequence) → with_record_d n table r ≡ Ok longer → AddsRow table r longer
unfolding with_record_d
record-adds n table r longer is = search (rules, same_Ok)

-- the rows that the remaining records add
record AddRows (before : List Sequence) (rs : List Record) (table : List Sequence) : Type 0 where
  rows : List Member
  written : map member_of rs ≡ map Some rows
  members : (fxy : ℕ) → members_or_none table fxy ≡ members_or_none before fxy ++ members_in rows fxy

only-more : (row : Member) (rows : List Member) (fxy : ℕ) → only row.sequence (row.fxy ∷ []) fxy ++ members_in rows fxy ≡ members_in (row ∷ rows) fxy
only-more row rows fxy = grind arith

rows-add : (n : ℕ) (before : List Sequence) (rs : List Record) (table : List Sequence) → table_from with_record_d n before rs ≡ Ok table → IsDistinct nat_eq (fxys_of before) → AddRows before rs table
unfolding table_from
rows-add n before [] table is distinct =
    let same : before ≡ table = same_Ok _ _ is in
    record { rows = []; written = refl; members = λ fxy. rw (← same) (sym (append-nil (members_or_none before fxy))) }
rows-add n before (r ∷ rs) table is distinct = by (with_record_d n before r) refl is (λ longer. rows-add (n + 1) longer rs table)
  where
    by : (o : Result (List Sequence) TableFault) → with_record_d n before r ≡ o → (o >>= (λ longer. table_from with_record_d (n + 1) longer rs)) ≡ Ok table
        → ((longer : List Sequence) → table_from with_record_d (n + 1) longer rs ≡ Ok table → IsDistinct nat_eq (fxys_of longer) → AddRows longer rs table)
        → AddRows before (r ∷ rs) table
    by (Err fault) e is on = cc is
    by (Ok longer) e is on =
        let adds = record-adds n before r longer e in
        let more = row-added before adds.row distinct adds.fresh in
        let apart : IsDistinct nat_eq (fxys_of longer) = rw adds.added' more.distinct in
        let rest = on longer is apart in
        record {
          rows = adds.row ∷ rest.rows;
          written = rw adds.written (ap (λ (os : List (Option Member)). Some adds.row ∷ os) rest.written);
          members = λ fxy.
              rest.members fxy
              ∙ ap (λ (q : List Sequence). members_or_none q fxy ++ members_in rest.rows fxy) adds.added'
              ∙ ap (λ (ms : List ℕ). ms ++ members_in rest.rows fxy) (more.members fxy)
              ∙ append_assoc (members_or_none before fxy) (only adds.row.sequence (adds.row.fxy ∷ []) fxy) (members_in rest.rows fxy)
              ∙ ap (λ (ms : List ℕ). members_or_none before fxy ++ ms) (only-more adds.row rest.rows fxy);
        }

pub sequences-law : (records : List Record) (table : List Sequence) → table_d_of records ≡ Ok table → AreSequences records table
unfolding table_of
sequences-law [] table is = cc is
sequences-law (first ∷ rest) table is = by (pointwise bytes_eq first columns_d) refl is
  where
    by : (b : Bool) → pointwise bytes_eq first columns_d ≡ b → (if b then table_from with_record_d 2 [] rest else Err Header) ≡ Ok table → AreSequences (first ∷ rest) table
    by false e is = cc is
    by true e is =
        let add = rows-add 2 [] rest table is distinct-none in
        record { rest = rest; split = ap (λ fields. fields ∷ rest) (names-are first _ e); rows = add.rows; written = add.written; members = add.members }
