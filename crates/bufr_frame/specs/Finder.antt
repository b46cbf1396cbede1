-- Only contracts need this file. A mathematical model of `Finder` and its functions.
use Rattle.std.specs.Prelude.{◌≡◌, ◌≢◌, ℕ, ◌+◌, ◌*◌, ◌<◌, ◌≤◌, max, Bool, true, false, List, [], ◌∷◌, ◌++◌, Option, Some, None, length, drop, ◌-◌, Result, Ok, Err, take, ◌⊎◌, ◌^◌, codes, IfSome}
use Rattle.std.specs.List.{concat}
use Rattle.std.specs.Io.KnownBytes.{Consumes, IsAtEnd}
use Rattle.bufr_frame.specs.Scan.{StreamEvent, scan_from, Advances, NoEventCertain, longest_of, classify, stream_event, candidate_len, stated_length, has_word_at, first_event, stated_or_zero}
use Rattle.bufr_frame.specs.Input.{AddsReads, InputModel, FillsInput, max_reads}
use Rattle.std.specs.Result.{MatchResult}
use Rattle.bufr_frame.specs.declared.fault.RunFault.{RunFault}
use Rattle.bufr_frame.specs.declared.fault.RunFault.TheVariants.{Read, Write, InputTooLong, Memory}
use Rattle.bufr_frame.specs.declared.finder.Candidate.{Candidate}
use Rattle.bufr_frame.specs.declared.finder.Candidate.TheVariants.{Stray, Frame}
use Rattle.bufr_frame.specs.declared.finder.SearchResult.{SearchResult}
use Rattle.bufr_frame.specs.declared.finder.SearchResult.TheVariants.{Found, NeedsMore, End}
use Rattle.bufr_frame.specs.declared.finder.Finder.TheInside.{Inside}
use Rattle.bufr_frame.specs.Events.{events_of}
use Rattle.bufr_frame.specs.declared.finder.Event.{Event}
use Rattle.bufr_frame.specs.declared.finder.Event.TheVariants.{Frame, Stray, Done}

-- the number of octets that a finder may buffer if no message has declared a greater length
abbrev pub min_held : ℕ
min_held = 4096

pub record FinderModel : Type 0 where
  -- the buffered octets that have already been searched
  pub before : List ℕ
  -- the remaining octets, which have been read but not yet searched
  pub rest : List ℕ
  -- the stream offset of the first remaining octet
  pub at : ℕ
  -- whether the end of the stream has been reached
  pub ended : Bool
  -- the fault that stopped the finder, if any
  pub fault : Option RunFault
  -- the number of reads made so far
  pub reads : ℕ
  -- the greatest message length declared so far
  pub longest : ℕ
  -- the buffer's capacity, in octets
  pub room : ℕ
  -- the number of free octets after the buffered ones
  pub free : ℕ

-- the number of buffered octets
abbrev pub held : FinderModel → ℕ
held s = length s.before + length s.rest

-- a finder that has not read anything yet
abbrev pub new_finder : FinderModel
new_finder =
    record {
      before = [];
      rest = [];
      at = 0;
      ended = false;
      fault = None;
      reads = 0;
      longest = 0;
      room = 0;
      free = 0;
    }

-- The list s begins at offset `at`, and its suffix `rest` begins at offset `at'`.
pub record Follows (at : ℕ) (s : List ℕ) (at' : ℕ) (rest : List ℕ) : Type 0 where
  pub passed : ℕ
  pub within : passed ≤ length s
  pub offset : at' ≡ at + passed
  pub left : rest ≡ drop passed s

-- A call read the octets bs and found the given events. If the end of the stream had already been
-- reached, the call read nothing.
pub record ReadsAndPasses (left left' : Option (List ℕ)) (old new : FinderModel) (bs : List ℕ)
    (events : List StreamEvent) : Type 0 where
  pub read : Consumes left left' bs
  pub advances : Advances new.ended old.at (old.rest ++ bs) events new.at new.rest
  pub follows : Follows old.at (old.rest ++ bs) new.at new.rest
  pub kept : old.ended ≡ true → (new.ended ≡ true) × (bs ≡ []) × (new.reads ≡ old.reads)
  pub end : (old.ended ≡ true → IsAtEnd left) → new.ended ≡ true → IsAtEnd left'

-- `longest` is now the maximum of its old value and the declared lengths of the events in `seen`.
abbrev pub RaisesLongest : FinderModel → FinderModel → List ℕ → List StreamEvent → Type 0
RaisesLongest old new bs seen = new.longest
    ≡ max old.longest (longest_of old.at (old.rest ++ bs) seen)

-- The end of the stream has been reached, and no event begins in the remaining octets.
abbrev pub HasNoMoreEvents : FinderModel → Type 0
HasNoMoreEvents s = (s.ended ≡ true) × ((at : ℕ) → scan_from 0 at s.rest ≡ [])

-- The given fault stopped the finder before it reached the end of the stream, and the remaining
-- octets do not determine the next event.
abbrev pub IsUndecided : FinderModel → RunFault → Type 0
IsUndecided s fault = (s.fault ≡ Some fault) × (s.ended ≡ false)
    × ((at : ℕ) → NoEventCertain at s.rest)

-- The finder stopped with a fault other than `Write`. If the fault is `InputTooLong`, 2^32 reads
-- were made, and each returned at least one octet. If the fault is `Memory`, fewer reads were made,
-- and the old capacity was less than twice the number of octets that the finder may buffer.
abbrev pub StopsFinder : (old new : FinderModel) → RunFault → Type 0
StopsFinder old new Read = IsUndecided new Read
StopsFinder old new Write = ⊥
StopsFinder old new InputTooLong =
    IsUndecided new InputTooLong × (new.reads ≡ max_reads) × (max_reads ≤ new.at + length new.rest)
StopsFinder old new Memory =
    IsUndecided new Memory × (new.reads < max_reads) × (old.room < 2 * max min_held new.longest)

-- Consecutive reads returned the lists of octets in `given`, and no read returned more than `most`
-- octets. Before each read, more octets were needed to determine the next event.
abbrev pub EachReadIsNeeded : (most at : ℕ) (left : List ℕ) (given : List (List ℕ)) → Type 0
EachReadIsNeeded most at left [] = Unit {0}
EachReadIsNeeded most at left (octets ∷ more) =
    NoEventCertain at left × (length octets ≤ most) × EachReadIsNeeded most at (left ++ octets) more

-- Together, the reads in a call returned the octets bs. Each read was needed and returned no more
-- octets than the finder may buffer.
pub record CallReadsAreNeeded (old new : FinderModel) (bs : List ℕ) : Type 0 where
  pub given : List (List ℕ)
  pub octets : bs ≡ concat given
  pub made : new.reads ≡ old.reads + length given
  pub waited : EachReadIsNeeded (max min_held new.longest) old.at old.rest given

-- A call read octets only as needed and found the given events. Unless a fault had occurred
-- earlier, `longest` was updated with the declared lengths of the events in `seen`.
abbrev pub ReadsOn : (left left' : Option (List ℕ)) → (old new : FinderModel)
    → (events seen : List StreamEvent) → Type 0
ReadsOn left left' old new events seen =
    (bs : List ℕ) × ReadsAndPasses left left' old new bs events
    × (old.fault ≡ None → RaisesLongest old new bs seen) × CallReadsAreNeeded old new bs

-- ---- The result of searching the remaining octets. More octets may follow.

-- the first event in the remaining octets, if any; after a fault, its declared length counts toward
-- `longest`
abbrev pub first_left : FinderModel → List StreamEvent
first_left s = first_event (scan_from 0 s.at s.rest)

-- the finder after it has searched n more octets and updated `longest`
abbrev pub gone_to : FinderModel → (n stated_length : ℕ) → FinderModel
gone_to s n stated_length =
    record s {
      before = s.before ++ take n s.rest;
      rest = drop n s.rest;
      at = s.at + n;
      longest = max s.longest stated_length;
    }

-- the length of a candidate, which is the declared length for a message and 4 for a stray `BUFR`
abbrev pub len_at : Candidate → (stated_length : ℕ) → ℕ
len_at (Stray cause) stated_length = 4
len_at Frame stated_length = stated_length

-- the finder after a search with the given result
abbrev pub passed_by : FinderModel → SearchResult → FinderModel
passed_by s (Found place here stated_length) =
    gone_to s (place + len_at here stated_length) stated_length
passed_by s (NeedsMore place stated_length) = gone_to s place stated_length
passed_by s End = s

-- The event matches the candidate and ends where the remaining octets begin.
abbrev pub IsEventAt : FinderModel → Candidate → (stated_length : ℕ) → Event → Type 0
IsEventAt s (Stray cause) n (Frame offset octets) = ⊥
IsEventAt s (Stray cause) n (Stray offset why) = (offset + 4 ≡ s.at) × (why ≡ cause)
IsEventAt s (Stray cause) n Done = ⊥
IsEventAt s Frame n (Frame offset octets) =
    (offset + n ≡ s.at) × (octets.now ≡ drop (length s.before - n) s.before)
IsEventAt s Frame n (Stray offset why) = ⊥
IsEventAt s Frame n Done = ⊥

-- The octets begin with `BUFR`.
abbrev pub StartsWithBufr : List ℕ → Type 0
StartsWithBufr m = has_word_at (codes "BUFR") 0 m ≡ true

-- The next event is certain and begins at index `place` in the remaining octets.
pub record IsNextEvent (ended : Bool) (rest : List ℕ) (place : ℕ)
    (here : Option Candidate) : Type 0 where
  pub is : here ≡ classify (drop place rest)
  pub frame : here ≡ Some Frame → 12 ≤ stated_length (drop place rest)
  pub moves : 4 ≤ candidate_len (drop place rest) here
  pub within : place + candidate_len (drop place rest) here ≤ length rest
  pub first : StartsWithBufr rest → place ≡ 0
  pub advances : (at : ℕ) → Advances ended at rest
      (stream_event (at + place) (drop place rest) here)
      (at + place + candidate_len (drop place rest) here)
      (drop (place + candidate_len (drop place rest) here) rest)

-- No event begins before index `place`, and more octets are needed to determine the next event. If
-- at least four octets are left from index `place` on, they begin with `BUFR`.
pub record IsIncomplete (rest : List ℕ) (place stated_length : ℕ) : Type 0 where
  pub within : place ≤ length rest
  pub first : StartsWithBufr rest → place ≡ 0
  pub few : length (drop place rest) < max 8 stated_length
  pub here : (length (drop place rest) < 4) ⊎ StartsWithBufr (drop place rest)
  pub advances : (at : ℕ) → Advances false at rest [] (at + place) (drop place rest)
  pub none : (at : ℕ) → NoEventCertain at (drop place rest)

-- No event begins in the given octets.
pub record HasNoFurtherEvent (rest : List ℕ) : Type 0 where
  pub scan : (at : ℕ) → scan_from 0 at rest ≡ []
  pub word : StartsWithBufr rest → ⊥

-- `stated_length` is the length declared in octets 5 to 7, or 0 if there are fewer than eight
-- octets.
abbrev pub IsStatedLength : List ℕ → ℕ → Type 0
IsStatedLength m stated_length = (stated_length ≡ stated_or_zero m) × (stated_length < 2 ^ 24)

-- Searching `rest` yields the given result. More octets may follow unless `ended` is true.
abbrev pub IsSearchResult : Bool → List ℕ → SearchResult → Type 0
IsSearchResult ended rest (Found place here stated_length) =
    IsNextEvent ended rest place (Some here) × IsStatedLength (drop place rest) stated_length
IsSearchResult ended rest (NeedsMore place stated_length) =
    (ended ≡ false) × IsIncomplete rest place stated_length
    × IsStatedLength (drop place rest) stated_length
IsSearchResult ended rest End = (ended ≡ true) × HasNoFurtherEvent rest

-- ---- The buffer of a finder, which contains searched octets followed by the remaining octets.

-- The counters of a finder do not overflow, and the finder does not buffer more octets than
-- allowed. A finder that has reached the end of the stream has no fault. Each read before a fault
-- or the end of the stream returned at least one octet.
abbrev pub IsFinder : Inside → Type 0
IsFinder f =
    (f.passed ≤ length f.input.held)
    × (f.offset + (length f.input.held - f.passed) ≤ f.input.reads * 2 ^ 24)
    × (f.input.reads ≤ max_reads) × (length f.input.held ≤ max min_held f.longest)
    × (f.longest < 2 ^ 24)
    × (f.word ≡ codes "BUFR") × ((f.fault ≡ None) ⊎ (f.input.ended ≡ false))
    × (0 < f.input.reads → 2 * min_held ≤ f.input.room)
    × (f.fault ≡ None → f.input.ended ≡ false
    → f.input.reads ≤ f.offset + (length f.input.held - f.passed))

-- ---- The result of a call to `Finder::next`.

-- the events in a result, or `failed` if the result is a fault
abbrev pub events_returned : List StreamEvent → Result Event RunFault → List StreamEvent
events_returned failed (Ok event) = events_of event
events_returned failed (Err fault) = failed

-- A call with the given result changed the finder from `old` to `new`. A returned frame is still
-- buffered, directly before the remaining octets.
abbrev pub LeavesFinder : FinderModel → FinderModel → Result Event RunFault → Type 0
LeavesFinder old new (Ok (Frame offset octets)) =
    (new.fault ≡ None) × (old.at < new.at) × (12 ≤ length octets.now)
    × (new.at ≡ offset + length octets.now) × (length octets.now ≤ length new.before)
LeavesFinder old new (Ok (Stray offset cause)) =
    (new.fault ≡ None) × (old.at < new.at) × (new.at ≡ offset + 4)
LeavesFinder old new (Ok Done) = (new.fault ≡ None) × HasNoMoreEvents new
LeavesFinder old new (Err fault) =
    (old.ended ≡ false) × (old.fault ≡ None → StopsFinder old new fault)

-- A call read only until the next event could be determined, and returned this event or a fault.
pub record ReturnsNextEvent (left left' : Option (List ℕ)) (reads reads' : ℕ)
    (old new : FinderModel)
    (result : Result Event RunFault) : Type 0 where
  pub steps : ReadsOn left left' old new (events_returned [] result)
      (events_returned (first_left new) result)
  pub ends : LeavesFinder old new result
  -- The reader and the finder counted the same number of reads.
  pub counts : AddsReads reads reads' old.reads new.reads
  -- The call made a read only if it could not determine the next event without one.
  pub waits : old.reads ≢ new.reads → NoEventCertain old.at old.rest
  pub near : new.at < 2 ^ 63
  -- The number of buffered octets is at most 4,096 or the greatest message length declared so far,
  -- whichever is greater.
  pub bound : held new ≤ max min_held new.longest
  -- If a fault had occurred earlier, the call changed nothing.
  pub again : IfSome old.fault (λ _. new ≡ old)

-- No event was returned, because more octets are needed to determine the next one. The length
-- declared in the remaining octets became the new `longest` if it was greater.
pub record NeedsRead (old new : FinderModel) : Type 0 where
  pub sound : old.fault ≡ None
  pub passes : (left : Option (List ℕ)) → ReadsAndPasses left left old new [] []
  pub none : (at : ℕ) → NoEventCertain at new.rest
  pub going : new.ended ≡ false
  pub fault : new.fault ≡ None
  pub reads : new.reads ≡ old.reads
  pub near : new.at < 2 ^ 63
  pub few : length new.rest < max min_held new.longest
  pub longest : new.longest ≡ max old.longest (stated_or_zero new.rest)

-- The call returned the next event without reading, or `None` if it needs to read first. If a fault
-- had occurred earlier, the call returned this fault again.
abbrev pub GivesHeldEvent : FinderModel → FinderModel → Option (Result Event RunFault) → Type 0
GivesHeldEvent old new (Some (Ok event)) =
    (old.fault ≡ None) × ((left : Option (List ℕ)) (reads : ℕ)
    → ReturnsNextEvent left left reads reads old new (Ok event))
GivesHeldEvent old new (Some (Err fault)) = (old.fault ≡ Some fault) × (new ≡ old)
GivesHeldEvent old new None = NeedsRead old new

-- the input buffer of a finder, without the searched octets; for simplicity, `gap` is 0
abbrev pub input_left : FinderModel → InputModel
input_left s =
    record {
      held = s.rest;
      ended = s.ended;
      reads = s.reads;
      room = s.room;
      free = s.free;
      gap = 0;
    }

-- A read appended octets to the remaining ones or reached the end of the stream, or a fault stopped
-- the finder.
pub record ReadsMore (left left' : Option (List ℕ)) (old new : FinderModel)
    (result : Result (Unit {0}) RunFault) (bs : List ℕ) : Type 0 where
  pub fills : FillsInput left left' (input_left old) (input_left new)
      (old.room < 2 * max min_held old.longest) result bs
  pub at : new.at ≡ old.at
  pub fault : MatchResult result (λ _. new.fault ≡ None) (λ fault. new.fault ≡ Some fault)
  pub long : result ≡ Err InputTooLong → max_reads ≤ new.at + length new.rest
  pub longest : new.longest ≡ old.longest

-- The number of buffered octets is at least `end` minus the offset at which the returned message
-- begins or the returned stray `BUFR` ends.
abbrev pub HoldsUnread : (end : ℕ) → FinderModel → Result Event RunFault → Type 0
HoldsUnread end new (Ok (Frame offset octets)) = end ≤ offset + held new
HoldsUnread end new (Ok (Stray offset cause)) = end ≤ offset + 4 + held new
HoldsUnread end new (Ok Done) = Unit {0}
HoldsUnread end new (Err fault) = Unit {0}
