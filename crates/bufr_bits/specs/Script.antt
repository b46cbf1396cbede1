-- Only contracts need this file. The behavior of the in-memory test devices (not part of FM 94
-- BUFR).
use Rattle.std.specs.Prelude.{ℕ, zero, suc, ◌-◌, min, List, Option, None, Some, option_map, Result, Ok, Err, vec_len}
use Rattle.bufr_bits.specs.Device.{Flushes}
use Rattle.bufr_bits.specs.declared.device.Failed.{Failed}
use Rattle.bufr_bits.specs.declared.script.ScriptOut.{ScriptOut}
use Rattle.bufr_bits.specs.declared.script.End.{End}
use Rattle.bufr_bits.specs.declared.script.End.TheVariants.{Zero, Fail, Flush}

-- the result of a read into a `room`-octet buffer with `held` octets remaining; the last argument
-- is the number of octets to return before the next planned failure, if any
abbrev pub read_answer : (step room held : ℕ) → Option ℕ → Result ℕ Failed
read_answer step room held None = Ok (min (min step room) held)
read_answer step room held (Some zero) = Err (record {})
read_answer step room held (Some (suc before)) = Ok (min (min (min step room) held) (suc before))

-- the number of octets read or accepted by a call with the given result
abbrev pub octets_moved : Result ℕ Failed → ℕ
octets_moved (Ok n) = n
octets_moved (Err e) = 0

-- the number of octets left before the next planned failure, if any, once `n` more octets have been
-- returned
abbrev pub failure_after : Option ℕ → ℕ → Option ℕ
failure_after place n = option_map (λ before. before - n) place

-- the octets that a writer has accepted
abbrev pub taken_of : ScriptOut → List ℕ
taken_of s = s.taken.items

-- the number of times a writer was flushed, and the number of failed flushes
abbrev pub flushes_of : ScriptOut → Flushes
flushes_of s = record { made = s.flushes; failed = s.failed_flushes }

-- the number of octets that a writer can still accept
abbrev pub left_of : ScriptOut → ℕ
left_of s = s.room - vec_len s.taken

-- the result of writing `asked` octets to a writer that can accept `left` more
abbrev pub write_answer : End → (step left asked : ℕ) → Result ℕ Failed
write_answer end step (suc left) asked = Ok (min (min step asked) (suc left))
write_answer Zero step zero asked = Ok 0
write_answer Fail step zero asked = Err (record {})
write_answer Flush step zero asked = Err (record {})

-- the result of a flush, which does not depend on the accepted octets
abbrev pub flush_answer : End → Result Unit Failed
flush_answer Zero = Ok tt
flush_answer Fail = Ok tt
flush_answer Flush = Err (record {})
