-- How an input is read and buffered, with at most 2^32 reads (our choice).
-- Cited by public contracts.
use Rattle.std.specs.Prelude.{◌≡◌, ℕ, ◌-◌, ◌*◌, min, ◌<◌, ◌≤◌, ◌^◌, nat_lt, nat_le, ◌&&◌, if◌then◌else◌, Result, Ok, Err, ◌+◌, Bool, true, false, List, [], ◌++◌, length, Option, MatchResult}
use Rattle.bufr_bits.specs.Prelude.{counted}
use Rattle.bufr_frame.specs.declared.fault.RunFault.{RunFault}
use Rattle.bufr_frame.specs.declared.fault.RunFault.TheVariants.{Read, Write, InputTooLong, Memory}
use Rattle.std.specs.Io.KnownBytes.{Consumes, IsAtEnd}

-- ---- The counters of a reader after a call (not part of FM 94 BUFR).

-- the number of failed reads after a call, which grows by one only if the result is `Err Read`
abbrev pub read_failures_after : {X : Type 0} → ℕ → Result X RunFault → ℕ
read_failures_after count (Err Read) = counted count 1
read_failures_after count _ = count

abbrev pub max_reads : ℕ
max_reads = 2 ^ 32

-- The reader made `after - before` reads, and `after` is at most 2^32.
pub record AddsReads (reads reads' before after : ℕ) : Type 0 where
  pub made : reads' ≡ counted reads (after - before)
  pub order : before ≤ after
  pub most : after ≤ max_reads

-- At most 2^32 reads were made. If the input was too long, exactly 2^32 reads were made; if memory
-- ran out, fewer were made.
abbrev pub MakesReads : {X : Type 0} → (reads reads' : ℕ) → Result X RunFault → Type 0
MakesReads reads reads' result =
    (n : ℕ) × (n ≤ max_reads) × (reads' ≡ counted reads n)
    × (result ≡ Err InputTooLong → n ≡ max_reads) × (result ≡ Err Memory → n < max_reads)

-- the model of an input buffer
pub record InputModel : Type 0 where
  -- the buffered octets, which have been read but not yet skipped
  pub held : List ℕ
  -- whether the end of the input has been reached
  pub ended : Bool
  -- the number of reads made so far
  pub reads : ℕ
  -- the buffer's capacity, in octets
  pub room : ℕ
  -- the number of free octets after the buffered ones
  pub free : ℕ
  -- the number of skipped octets that precede the buffered ones in memory
  pub gap : ℕ

-- an input buffer before the first read
abbrev pub new_input : InputModel
new_input = record { held = []; ended = false; reads = 0; room = 0; free = 0; gap = 0 }

-- No octets were read, because the read failed, 2^32 reads had already been made, or memory ran
-- out. Memory can run out only if `refused` is true.
abbrev pub FillFails : (refused : Type 0) → InputModel → InputModel → RunFault → Type 0
FillFails refused old new Read = new.reads ≡ old.reads + 1
FillFails refused old new Write = ⊥
FillFails refused old new InputTooLong = (new.reads ≡ old.reads) × (new.reads ≡ max_reads)
FillFails refused old new Memory = (new.reads ≡ old.reads) × (new.reads < max_reads) × refused

-- A read returned octets or reached the end of the input, or a fault occurred.
abbrev pub FillEnds : (refused : Type 0) → InputModel → InputModel → List ℕ
    → Result (Unit {0}) RunFault → Type 0
FillEnds refused old new bs (Ok u) =
    (new.reads ≡ old.reads + 1) × (new.ended ≡ true → bs ≡ []) × (bs ≡ [] → new.ended ≡ true)
FillEnds refused old new bs (Err fault) =
    (bs ≡ []) × (new.ended ≡ false) × FillFails refused old new fault

-- If a read was made and the buffer contained at least as many skipped octets as buffered ones, the
-- buffered octets were moved to the start of the buffer. Otherwise, the buffered octets were not
-- moved.
abbrev pub SlidesOver : (old new : InputModel) → Type 0
SlidesOver old new =
    new.gap ≡ (if nat_lt old.reads new.reads && nat_le (length old.held) old.gap then 0
    else old.gap)

-- The number of octets that a call requested from the reader, which is 0 if the call made no read.
-- Otherwise, the call requested enough octets to fill the buffer, but at most `most`.
abbrev pub asked_by : (most : ℕ) → InputModel → InputModel → ℕ
asked_by most old new =
    (new.reads - old.reads) * min most (new.free + length new.held - length old.held)

-- The number of requested octets has grown by at most `most`.
abbrev pub AsksAtMost : (asked asked' most : ℕ) → Type 0
AsksAtMost asked asked' most = asked' ≤ counted asked most

-- A read appended octets to the buffered ones or reached the end of the input, or a fault occurred.
-- Memory can run out only if `refused` is true.
pub record FillsInput (left left' : Option (List ℕ)) (old new : InputModel) (refused : Type 0)
    (result : Result (Unit {0}) RunFault) (bs : List ℕ) : Type 0 where
  pub read : Consumes left left' bs
  pub held : new.held ≡ old.held ++ bs
  pub end : new.ended ≡ true → IsAtEnd left'
  pub room : old.room ≤ new.room
  pub ends : FillEnds refused old new bs result

-- A read appended octets to those read earlier. If the read succeeded but returned no octets, it
-- reached the end of the input.
pub record ReadsOnce (left left' : Option (List ℕ)) (old new : List ℕ) (result : Result ℕ RunFault)
    (bs : List ℕ) : Type 0 where
  pub read : Consumes left left' bs
  pub held : new ≡ old ++ bs
  pub outcome : MatchResult result (λ n. (n ≡ length bs) × (n ≡ 0 → IsAtEnd left'))
      (λ fault. (fault ≡ Read) × (bs ≡ []))

-- Reading stopped at the end of the input or because of a fault. If the fault is `InputTooLong`,
-- 2^32 reads were made; if it is `Memory`, fewer were made.
abbrev pub InputEnds : {X : Type 0} → (left : Option (List ℕ)) → (reads : ℕ)
    → Result X RunFault → Type 0
InputEnds left reads (Ok x) = IsAtEnd left
InputEnds left reads (Err Read) = Unit {0}
InputEnds left reads (Err Write) = ⊥
InputEnds left reads (Err InputTooLong) = reads ≡ max_reads
InputEnds left reads (Err Memory) = reads < max_reads

-- The call appended the octets that it read to those read earlier. Unless a fault occurred, the
-- call read the input to its end.
pub record ReadsInput {X : Type 0} (left left' : Option (List ℕ)) (old new : List ℕ) (reads : ℕ)
    (result : Result X RunFault) (bs : List ℕ) : Type 0 where
  pub read : Consumes left left' bs
  pub held : new ≡ old ++ bs
  pub ends : InputEnds left' reads result
