-- Only contracts need this file. How `Event` values correspond to the events in a stream.
use Rattle.std.specs.Prelude.{List, [], ◌∷◌, ◌≤◌, length}
use Rattle.bufr_frame.specs.Scan.{StreamEvent, FrameAt, StrayAt}
use Rattle.bufr_frame.specs.declared.finder.Event.{Event}
use Rattle.bufr_frame.specs.declared.finder.Event.TheVariants.{Frame, Stray, Done}

-- the event as a one-element list, or an empty list at the end of the stream
abbrev pub events_of : Event → List StreamEvent
events_of (Frame offset octets) = FrameAt offset octets.now ∷ []
events_of (Stray offset cause) = StrayAt offset cause ∷ []
events_of Done = []

-- The event is either a message of at least 12 octets or a stray `BUFR`.
abbrev pub IsEvent : Event → Type 0
IsEvent (Frame offset octets) = 12 ≤ length octets.now
IsEvent (Stray offset cause) = Unit {0}
IsEvent Done = ⊥
