-- Only contracts need this file. Describes the state of a buffered writer and its calls to the
-- underlying sink (not part of FM 94 BUFR).
use Rattle.std.specs.Prelude.{◌≡◌, ◌≤◌, Bool, ℕ, List, length, max, Option, Result, Ok, Err, nat_eq, vec_len, vec_capacity, ◌&&◌}
use Rattle.std.specs.Io.KnownBytes.{append_known}
use Rattle.bufr_bits.specs.Prelude.{Flushes, counted}
use Rattle.bufr_bits.specs.declared.device.Failed.{Failed}
use Rattle.bufr_bits.specs.declared.device.Sink as sink
use Rattle.bufr_text.specs.Prelude.{Fails, Stays}
use Rattle.bufr_cli.specs.declared.buffered.Buffered.{Buffered}

-- the octets that a buffered writer has accepted, including those that are still in its buffer
abbrev pub taken_by : {S : Type 0} → (S → Option (List ℕ)) → Buffered S → Option (List ℕ)
taken_by taken b = append_known (taken b.sink) b.held.items

-- whether the buffer is empty and the sink has flushed everything that it accepted
abbrev pub flushed_by : {S : Type 0} → (S → Bool) → Buffered S → Bool
flushed_by flushed b = nat_eq (length b.held.items) 0 && flushed b.sink

-- the number of times a buffered writer was flushed, and the number of those flushes that failed
abbrev pub flushes_by : {S : Type 0} → Buffered S → Flushes
flushes_by b = record { made = b.flushes; failed = b.failed_flushes }

-- Between the two states, the sink accepted all octets of at most `writes` writes and was flushed
-- at most `flushes` times.
abbrev pub CallsAtMost : {S : Type 0} → sink.Ghosts S → (writes flushes : ℕ) → (before after : S)
    → Type 0
CallsAtMost ghosts writes flushes before after =
    (ghosts.whole_writes after ≤ counted (ghosts.whole_writes before) writes)
    × ((ghosts.flushes after).made ≤ counted (ghosts.flushes before).made flushes)

-- If the call to the writer succeeded, no call to the sink failed, and no nonempty write returned
-- 0. Otherwise, exactly one call to the sink failed, or exactly one nonempty write returned 0.
abbrev pub CountsCall : {S X : Type 0} → sink.Ghosts S → (before after : S) → Result X Failed
    → Type 0
CountsCall ghosts before after (Ok x) =
    Stays (ghosts.failures before) (ghosts.failures after) (ghosts.empty_writes before)
    (ghosts.empty_writes after)
CountsCall ghosts before after (Err failed) =
    Fails (ghosts.failures before) (ghosts.failures after) (ghosts.empty_writes before)
    (ghosts.empty_writes after)

-- The capacity is unchanged, and the number of buffered octets does not grow beyond it. The memory
-- allocated for the buffer does not shrink.
pub record StaysBounded {S : Type 0} (before after : Buffered S) : Type 0 where
  pub capacity : after.capacity ≡ before.capacity
  pub held : vec_len after.held ≤ max (vec_len before.held) before.capacity
  pub room : vec_capacity before.held ≤ vec_capacity after.held
