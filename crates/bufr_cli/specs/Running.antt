-- Defines what a run reads and writes, when it flushes, and which input or writer causes a fault
-- (not part of FM 94 BUFR). Counts stop at 2^64 - 1 (see `counted`). What the comments say about
-- numbers of calls applies while every count is below that.
-- Cited by public contracts.
use Rattle.std.specs.Prelude.{if◌then◌else◌, ◌+◌, ℕ, Bool, true, OnOk, IfErr, IfOk, ◌≢◌, List, Option, ◌≡◌, ◌⊎◌, Result, Ok, Err, ◌<◌, ◌≤◌, false, ◌++◌, None, flat_map, count_by, option_to_list, map, [], IfSome, Vec, length}
use Rattle.bufr_frame.specs.declared.fault.RunFault.{RunFault}
use Rattle.bufr_frame.specs.declared.fault.RunFault.TheVariants.{Read, Write, InputTooLong, Memory}
use Rattle.bufr_text.specs.Prelude.{CountsWrites, GrowsByPrefix, documents_of, open_documents_of}
use Rattle.std.specs.Io.KnownBytes.{Consumes, Appends, IsAtEnd, Keeps}
use Rattle.bufr_bits.specs.Prelude.{Flushes, counted}
use Rattle.bufr_frame.specs.Prelude.{max_reads, StreamEvent, scan, open_scan, read_failures_after}
use Rattle.bufr_cli.specs.Pieces.{Piece, output_of, errors_of, is_accepted, is_refused, encode_pieces}
use Rattle.bufr_cli.specs.declared.outcome.Tally.{Tally}
use Rattle.bufr_cli.specs.declared.outcome.Verdict.{Verdict}
use Rattle.bufr_cli.specs.declared.outcome.Verdict.TheVariants.{Accepted, Refused}
use Rattle.bufr_cli.specs.declared.run_pieces.Unflushed.{Unflushed}
use Rattle.bufr_tables.specs.Prelude.{Row, Sequence}
use Rattle.bufr_text.specs.declared.encode.Form.{Form}
use Rattle.std.specs.Global.{Global}
use Rattle.bufr_bits.specs.declared.device.Sink as sink
use Rattle.bufr_bits.specs.declared.device.Source as source

-- ---- Inputs and writers, their counts, and the writer that failed (not part of FM 94 BUFR).

-- the state of an input, as described by the ghost items of `Source`
pub record Input : Type 0 where
  pub left : Option (List ℕ)
  pub reads : ℕ
  pub failures : ℕ

-- the state of a writer, as described by the ghost items of `Sink`
pub record Writer : Type 0 where
  pub taken : Option (List ℕ)
  pub failures : ℕ
  pub empty_writes : ℕ
  pub flushes : Flushes
  pub all_flushed : Bool

pub record Writers : Type 0 where
  pub output : Writer
  pub errors : Writer

-- the state of a reader, according to its ghost items
abbrev pub input_of : {R : Type 0} → source.Ghosts R → R → Input
input_of ghosts r =
    record { left = ghosts.left r; reads = ghosts.reads r; failures = ghosts.failures r }

-- the state of a writer, according to its ghost items
abbrev pub writer_of : {W : Type 0} → sink.Ghosts W → W → Writer
writer_of ghosts w =
    record {
      taken = ghosts.taken w;
      failures = ghosts.failures w;
      empty_writes = ghosts.empty_writes w;
      flushes = ghosts.flushes w;
      all_flushed = ghosts.all_flushed w;
    }

abbrev pub writers_of : {W E : Type 0} → sink.Ghosts W → W → sink.Ghosts E → E → Writers
writers_of output w errors e =
    record { output = writer_of output w; errors = writer_of errors e }

-- two writers that have accepted the given octets (if known) and whose counts are all 0
abbrev pub holding : (output errors : Option (List ℕ)) → Writers
holding output errors =
    record {
      output = record {
        taken = output;
        failures = 0;
        empty_writes = 0;
        flushes = record { made = 0; failed = 0 };
        all_flushed = true;
      };
      errors = record {
        taken = errors;
        failures = 0;
        empty_writes = 0;
        flushes = record { made = 0; failed = 0 };
        all_flushed = true;
      };
    }

-- If the call failed, the writer counted one failed call or one nonempty write that returned 0; if
-- it succeeded, both counts are unchanged.
abbrev pub CountsCalls : {X : Type 0} → (before after : Writer) → Result X RunFault → Type 0
CountsCalls before after result =
    CountsWrites before.failures after.failures before.empty_writes after.empty_writes result

-- If the call failed, the writer counted one failed call or one nonempty write that returned 0. The
-- writer was not flushed.
abbrev pub OnlyWrites : {X : Type 0} → (before after : Writer) → Result X RunFault → Type 0
OnlyWrites before after result =
    CountsCalls before after result × (after.flushes ≡ before.flushes)

-- Between the two states, no call to the writer failed, and no nonempty write returned 0.
abbrev pub HasNotFailed : (before after : Writer) → Type 0
HasNotFailed before after =
    (after.failures ≡ before.failures) × (after.empty_writes ≡ before.empty_writes)

-- Between the two states, exactly one call to the writer failed, or exactly one nonempty write
-- returned 0.
abbrev pub HasFailed : (before after : Writer) → Type 0
HasFailed before after =
    ((after.failures ≡ counted before.failures 1) × (after.empty_writes ≡ before.empty_writes))
    ⊎ ((after.failures ≡ before.failures)
    × (after.empty_writes ≡ counted before.empty_writes 1))

-- If the result is the fault `Write`, exactly one of the writers failed. Otherwise, neither failed.
-- rule: fault-71
abbrev pub BlamesWriter : {X : Type 0} → (before after : Writers) → Result X RunFault → Type 0
BlamesWriter before after (Err Write) =
    (HasFailed before.output after.output × HasNotFailed before.errors after.errors)
    ⊎ (HasNotFailed before.output after.output × HasFailed before.errors after.errors)
BlamesWriter before after result =
    HasNotFailed before.output after.output × HasNotFailed before.errors after.errors

-- All pieces were written in order, each to its writer.
-- rule: output-in-order
pub record WritesPieces (before after : Writers) (pieces : List Piece) : Type 0 where
  pub output : Appends before.output.taken after.output.taken (flat_map output_of pieces)
  pub errors : Appends before.errors.taken after.errors.taken (flat_map errors_of pieces)

-- Each writer accepted a prefix of the octets that the pieces contain for it.
pub record WritesPrefixes (before after : Writers) (pieces : List Piece) : Type 0 where
  pub output : GrowsByPrefix before.output.taken after.output.taken (flat_map output_of pieces)
  pub errors : GrowsByPrefix before.errors.taken after.errors.taken (flat_map errors_of pieces)

-- Writing stopped after zero or more complete pieces, possibly in the middle of the next one.
pub record WrittenInPart (before after : Writers) (pieces : List Piece) : Type 0 where
  -- the pieces that were completely written
  pub given : List Piece
  -- the next piece, if any; a prefix of it (possibly empty) was written
  pub next : Option Piece
  -- the pieces that were not written
  pub rest : List Piece
  pub parts : pieces ≡ given ++ (option_to_list next ++ rest)
  -- the state of the writers after the pieces in `given` were written
  pub between : Writers
  pub whole : WritesPieces before between given
  pub prefix : WritesPrefixes between after (option_to_list next)

abbrev pub IsAllWritten : {before after : Writers} → {pieces : List Piece}
    → WrittenInPart before after pieces → Type 0
IsAllWritten part = (part.next ≡ None) × (part.rest ≡ [])

pub record Tallies (tally : Tally) (pieces : List Piece) : Type 0 where
  pub accepted : tally.accepted ≡ count_by is_accepted pieces
  pub refused : tally.refused ≡ count_by is_refused pieces

-- The pieces of output that a command writes for an input.
pub record RunPieces : Type 0 where
  -- the pieces for an input that consists of the given octets
  pub whole : List ℕ → List Piece
  -- the pieces that can be determined from the given octets; later input cannot change them
  pub certain : List ℕ → List Piece
  -- whether the run stops after the first fault line, as `encode` does
  pub stops : Bool

-- the pieces for a stream; `piece` returns the piece for an event
-- rule: input-without-bufr
abbrev pub event_pieces : (StreamEvent → Piece) → RunPieces
event_pieces piece =
    record {
      whole = λ s. map piece (scan s);
      certain = λ s. map piece (open_scan s);
      stops = false;
    }

-- the pieces for the documents in the input
abbrev pub document_pieces : Form → List Row → List Sequence → RunPieces
document_pieces form b d =
    record {
      whole = λ s. encode_pieces form b d (documents_of s);
      certain = λ s. encode_pieces form b d (open_documents_of s);
      stops = true;
    }

-- the pieces for the octets read so far; before the end of the input, only those that cannot change
abbrev pub read_pieces : RunPieces → (ended : Bool) → List ℕ → List Piece
read_pieces pieces ended bs = if ended then pieces.whole bs else pieces.certain bs

-- Either the writer is unchanged, or everything that it accepted was flushed.
abbrev pub IsFlushed : (before after : Writer) → Type 0
IsFlushed before after = (after ≡ before) ⊎ (after.all_flushed ≡ true)

-- What a run has flushed depends on its result (see the cases below).
-- rule: output-held-back
abbrev pub HasFlushed : {X : Type 0} → (before after : Writers) → Result X RunFault → Type 0
-- a run that completed has flushed everything
HasFlushed before after (Ok x) =
    (after.output.all_flushed ≡ true) × (after.errors.all_flushed ≡ true)
-- before the read that failed, everything that the run had written was flushed
HasFlushed before after (Err Read) =
    IsFlushed before.output after.output × IsFlushed before.errors after.errors
-- after any other fault, some output may still be unflushed (see `FlushesRest`)
HasFlushed before after (Err fault) = Unit {0}

-- Between the two states, a flush of the writer failed.
abbrev pub FlushFails : (before after : Writer) → Type 0
FlushFails before after = after.flushes.failed ≢ before.flushes.failed

abbrev pub FlushesAtMost : (n : ℕ) → (before after : Writers) → Type 0
FlushesAtMost n before after =
    (after.output.flushes.made ≤ counted before.output.flushes.made n)
    × (after.errors.flushes.made ≤ counted before.errors.flushes.made n)

-- No flush of either writer failed.
abbrev pub NoFlushFails : (before after : Writers) → Type 0
NoFlushFails before after =
    (after.output.flushes.failed ≡ before.output.flushes.failed)
    × (after.errors.flushes.failed ≡ before.errors.flushes.failed)

-- Either both writers were flushed (the output first), or a flush failed. Neither writer accepted
-- any more octets.
pub record FlushesBoth {X : Type 0} (before after : Writers) (result : Result X RunFault) : Type 0
  where
    pub output : Keeps before.output.taken after.output.taken
    pub errors : Keeps before.errors.taken after.errors.taken
    pub flushed : OnOk result
        ((after.output.all_flushed ≡ true) × (after.errors.all_flushed ≡ true))
    pub none : OnOk result (NoFlushFails before after)
    pub order : FlushFails before.errors after.errors → after.output.all_flushed ≡ true
    pub once : FlushesAtMost 1 before after
    pub fault : IfErr result (λ fault. fault ≡ Write)
    pub counts : BlamesWriter before after result

-- If something had been written to the writer, it was flushed; otherwise, it is unchanged.
abbrev pub IsFlushedIf : (written : Bool) → (before after : Writer) → Type 0
IsFlushedIf true before after = after.all_flushed ≡ true
IsFlushedIf false before after = after ≡ before

-- If something had been written to the writer, it was flushed or the flush failed; otherwise, it is
-- unchanged. The writer accepted no more octets.
pub record FlushesIf (written : Bool) (before after : Writer)
    (result : Result (Unit {0}) RunFault) : Type 0 where
  pub keeps : Keeps before.taken after.taken
  pub flushed : OnOk result (IsFlushedIf written before after)
  pub none : OnOk result (after.flushes.failed ≡ before.flushes.failed)
  pub once : after.flushes.made ≤ counted before.flushes.made 1
  pub fault : IfErr result (λ fault. fault ≡ Write)
  pub counts : CountsCalls before after result

-- Before a read, each writer with unflushed output was flushed (`output` first), or a flush failed.
-- If the read can neither block nor fail, the writers may instead be left unchanged.
pub record FlushesWritten (waits : Bool) (unflushed unflushed' : Unflushed)
    (before after : Writers) (result : Result (Unit {0}) RunFault) : Type 0 where
  pub output : Keeps before.output.taken after.output.taken
  pub errors : Keeps before.errors.taken after.errors.taken
  pub flushed : OnOk result ((IsFlushedIf unflushed.output before.output after.output
      × IsFlushedIf unflushed.errors before.errors after.errors)
      ⊎ ((waits ≡ false) × (unflushed' ≡ unflushed) × (after ≡ before)))
  pub none : OnOk result (NoFlushFails before after)
  pub order : FlushFails before.errors after.errors
      → IsFlushedIf unflushed.output before.output after.output
  pub once : FlushesAtMost 1 before after
  pub fault : IfErr result (λ fault. fault ≡ Write)
  pub counts : BlamesWriter before after result

-- which writers need to be flushed after one more piece has been written
abbrev pub unflushed_after : Unflushed → Verdict → Unflushed
unflushed_after unflushed Accepted = record unflushed { output = true }
unflushed_after unflushed Refused = record unflushed { errors = true }

-- Fewer than 2^32 reads were made.
abbrev pub ReadsFewer : (reads reads' : ℕ) → Type 0
ReadsFewer reads reads' = (n : ℕ) × (n < max_reads) × (reads' ≡ counted reads n)

-- At most 2^32 reads were made (exactly 2^32 if the result is `InputTooLong`).
-- rule: fault-72
abbrev pub ReadsAtMost : {X : Type 0} → (reads reads' : ℕ) → Result X RunFault → Type 0
ReadsAtMost reads reads' result =
    (n : ℕ) × (n ≤ max_reads) × (reads' ≡ counted reads n)
    × (result ≡ Err InputTooLong → n ≡ max_reads)

-- Each writer was flushed at most once before each read and at most once at the end.
abbrev pub FlushesByRead : (reads reads' : ℕ) → (before after : Writers) → Type 0
FlushesByRead reads reads' before after =
    (n : ℕ) × (reads' ≡ counted reads n) × FlushesAtMost (n + 1) before after

-- All pieces for an input that consists of the given octets were written and counted.
abbrev pub WritesWhole : RunPieces → (before after : Writers) → Tally → (octets : List ℕ) → Type 0
WritesWhole pieces before after tally octets =
    WritesPieces before after (pieces.whole octets) × Tallies tally (pieces.whole octets)

-- A run read some octets and wrote the pieces for them, either completely or in part.
pub record ReadsAndWrites (pieces : RunPieces) (from to : Input) (before after : Writers) : Type 0
  where
    pub octets : List ℕ
    -- whether the run reached the end of the input
    pub ended : Bool
    pub read : Consumes from.left to.left octets
    pub at_end : ended ≡ true → IsAtEnd to.left
    pub written : WrittenInPart before after (read_pieces pieces ended octets)

-- The given pieces contain no fault line that stops the run.
abbrev pub IsUnrefused : RunPieces → List Piece → Type 0
IsUnrefused pieces given = pieces.stops ≡ true → count_by is_refused given ≡ 0

-- The run ended with the given result (see the cases below).
-- rule: input-not-read, fault-line-not-written, reader-gone, fault-70
abbrev pub RunEnds : {pieces : RunPieces} → {from to : Input} → {before after : Writers}
    → ReadsAndWrites pieces from to before after → Result Tally RunFault → Type 0
-- The run completed, either at the end of the input or after a fault line that stopped it. The
-- pieces for the whole input were written and counted; the unread octets (`t`) cannot add any.
RunEnds {pieces} {from} {to} {before} {after} so (Ok tally) =
    (pieces.stops ≡ false → so.ended ≡ true) × IsAllWritten so.written
    × ((t : List ℕ) → (so.ended ≡ true → t ≡ [])
    → WritesWhole pieces before after tally (so.octets ++ t))
-- A write or a flush failed. If a flush failed, the pieces for all octets read so far had been
-- written.
RunEnds {pieces} {from} {to} {before} {after} so (Err Write) =
    FlushFails before.output after.output ⊎ FlushFails before.errors after.errors
    → IsAllWritten so.written
-- Memory ran out before a fault line stopped the run. If the run continues after fault lines,
-- memory ran out either while a piece (`next`) was being written or after fewer than 2^32 reads.
RunEnds {pieces} {from} {to} {before} {after} so (Err Memory) =
    IsUnrefused pieces so.written.given
    × (pieces.stops ≡ false → so.written.next ≡ None → ReadsFewer from.reads to.reads)
-- A read failed, or the input did not end within 2^32 reads of at least one octet each. All pieces
-- that could be determined were written, and none of them is a fault line that stops the run.
RunEnds {pieces} {from} {to} {before} {after} so (Err fault) =
    (so.ended ≡ false) × IsAllWritten so.written × IsUnrefused pieces so.written.given
    × (fault ≡ InputTooLong → max_reads ≤ length so.octets)

-- The effects of a run on its input and its writers, given the pieces of its command.
pub record LeavesDevices (pieces : RunPieces) (from to : Input) (before after : Writers)
    (result : Result Tally RunFault) : Type 0 where
  -- what the run read and wrote
  pub ran : ReadsAndWrites pieces from to before after
  -- what the result implies about the run
  pub ends : RunEnds ran result
  -- if the run completed and the whole input is known, the pieces for the whole input were written
  -- and counted (this follows from `ran` and `ends`)
  pub whole : IfOk result (λ tally. IfSome from.left (WritesWhole pieces before after tally))
  -- if a flush of the error output failed, the output was unchanged or had been flushed
  pub order : FlushFails before.errors after.errors → IsFlushed before.output after.output
  pub flushed : HasFlushed before after result
  -- if the result is the fault `Read`, one failed read was counted
  pub failures : to.failures ≡ read_failures_after from.failures result
  pub reads : ReadsAtMost from.reads to.reads result
  pub flushes : FlushesByRead from.reads to.reads before after
  -- if the result is the fault `Write`, exactly one of the writers failed
  pub writers : BlamesWriter before after result

-- The given octets were read, either up to the end of the input or up to a fault other than
-- `Write`.
abbrev pub ReadsAll : (left left' : Option (List ℕ))
    → Result (Vec ℕ Global) RunFault → List ℕ → Type 0
ReadsAll left left' (Ok octets) bs = Consumes left left' bs × IsAtEnd left' × (octets.items ≡ bs)
ReadsAll left left' (Err Write) bs = ⊥
ReadsAll left left' (Err fault) bs = Consumes left left' bs
