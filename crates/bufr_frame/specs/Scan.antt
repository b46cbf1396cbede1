-- The events of a stream, which are messages and stray `BUFR`s (FM 94 BUFR, section 0). A `BUFR` is
-- stray if no message begins there. The rules for finding messages are our choice.
-- Cited by public contracts.
use Rattle.std.specs.Prelude.{Option, Some, None, ℕ, zero, suc, ◌+◌, ◌-◌, Bool, true, false, not, nat_lt, List, [], ◌∷◌, ◌++◌, length, take, drop, codes, if◌then◌else◌, take_while, max, ◌≡◌}
use Rattle.std.specs.Str.{bytes_eq}
use Rattle.bufr_frame.specs.Octets.{u24_at}
use Rattle.bufr_frame.specs.declared.fault.Cause.{Cause}
use Rattle.bufr_frame.specs.declared.fault.Cause.TheVariants.{Cut, ShortLength, NoEnd}
use Rattle.bufr_frame.specs.declared.finder.Candidate.{Candidate}
use Rattle.bufr_frame.specs.declared.finder.Candidate.TheVariants.{Stray, Frame}
use Rattle.std.specs.List.{list_all}

-- an event, which is a message with its octets or a stray `BUFR` with its cause; offsets are
-- counted from 0
pub data StreamEvent : Type 0 where
  FrameAt : (offset : ℕ) (octets : List ℕ) → StreamEvent
  StrayAt : (offset : ℕ) (cause : Cause) → StreamEvent

-- whether the four octets at index p are equal to `word`
abbrev pub has_word_at : List ℕ → ℕ → List ℕ → Bool
has_word_at word p m = bytes_eq (take 4 (drop p m)) word

-- the length declared in octets 5 to 7 of a message
-- rule: section-0
abbrev pub stated_length : List ℕ → ℕ
stated_length m = u24_at m 4

-- The message or stray `BUFR` that begins at the first remaining octet, if any. Section 0 has 8
-- octets, and sections 0 and 5 together have 12. If the stream ends before the message does, the
-- cause is `Cut`, even if the declared length is less than 12.
-- rule: stray-cut, stray-short-length, stray-no-end, input-ends-early, order-of-causes
abbrev pub classify : List ℕ → Option Candidate
classify m =
    if not (has_word_at (codes "BUFR") 0 m) then None
    else if nat_lt (length m) 8 then Some (Stray Cut)
    else if nat_lt (length m) (stated_length m) then Some (Stray Cut)
    else if nat_lt (stated_length m) 12 then Some (Stray ShortLength)
    else if not (has_word_at (codes "7777") (stated_length m - 4) m) then Some (Stray NoEnd)
    else Some Frame

-- the event that begins at offset `at`, if any
-- rule: frame
abbrev pub stream_event : ℕ → List ℕ → Option Candidate → List StreamEvent
stream_event at m None = []
stream_event at m (Some (Stray cause)) = StrayAt at cause ∷ []
stream_event at m (Some Frame) = FrameAt at (take (stated_length m) m) ∷ []

-- the number of octets by which the search moves forward
-- rule: frame, after-a-stray
abbrev pub candidate_len : List ℕ → Option Candidate → ℕ
candidate_len m None = 1
candidate_len m (Some (Stray cause)) = 4
candidate_len m (Some Frame) = stated_length m

-- the events in the remaining octets, which begin at offset `at`; the first `skip` octets are
-- skipped
-- rule: first-bufr
unfoldable pub scan_from : (skip at : ℕ) → List ℕ → List StreamEvent
scan_from skip at [] = []
scan_from (suc skip) at (octet ∷ m) = scan_from skip (at + 1) m
scan_from zero at (octet ∷ m) =
    let here = classify (octet ∷ m) in
    stream_event at (octet ∷ m) here ++ scan_from (candidate_len (octet ∷ m) here - 1) (at + 1) m

-- the events of a whole stream
abbrev pub scan : List ℕ → List StreamEvent
scan s = scan_from 0 0 s

-- whether an event is certain no matter which octets follow; a `Cut` stray is not, because it may
-- become a message or another kind of stray
abbrev pub is_decided : StreamEvent → Bool
is_decided (StrayAt offset Cut) = false
is_decided _ = true

-- the events before the first `Cut` stray, all of which are certain
abbrev pub open_scan : List ℕ → List StreamEvent
open_scan s = take_while is_decided (scan s)

-- ---- The greatest declared message length (not part of FM 94 BUFR).

-- the length declared in octets 5 to 7, or 0 if there are fewer than eight octets
abbrev pub stated_or_zero : List ℕ → ℕ
stated_or_zero m = if nat_lt (length m) 8 then 0 else stated_length m

-- the offset at which an event begins
abbrev pub offset_of : StreamEvent → ℕ
offset_of (FrameAt offset octets) = offset
offset_of (StrayAt offset cause) = offset

-- the greatest length declared by the given events in the octets s, which begin at offset `at`
abbrev pub longest_of : (at : ℕ) → List ℕ → List StreamEvent → ℕ
longest_of at s [] = 0
longest_of at s (event ∷ more) =
    max (stated_or_zero (drop (offset_of event - at) s)) (longest_of at s more)

-- the first event as a one-element list, or an empty list if there are no events
abbrev pub first_event : List StreamEvent → List StreamEvent
first_event [] = []
first_event (event ∷ more) = event ∷ []

-- ---- How a scan continues after its first events (not part of FM 94 BUFR).

-- No matter which octets follow, a scan of `rest` first finds `events` and then the events in
-- `rest'`. If `ended` is true, no octets follow.
pub record Advances (ended : Bool) (at : ℕ) (rest : List ℕ) (events : List StreamEvent) (at' : ℕ)
    (rest' : List ℕ) : Type 0 where
  pub whole : (t : List ℕ) → (ended ≡ true → t ≡ [])
      → scan_from 0 at (rest ++ t) ≡ events ++ scan_from 0 at' (rest' ++ t)
  -- If more octets may follow, they cannot change these events.
  pub decided : ended ≡ false → list_all is_decided events ≡ true

-- No event in the given octets is certain yet.
-- rule: output-waits
abbrev pub NoEventCertain : ℕ → List ℕ → Type 0
NoEventCertain at rest = take_while is_decided (scan_from 0 at rest) ≡ []
