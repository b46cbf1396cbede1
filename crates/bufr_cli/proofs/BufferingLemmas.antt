-- What a buffered writer accepted, after its sink took a part of the buffer.
use Rattle.std.proofs.Common.{◌≡◌, ◌<◌, ℕ, zero, suc, Bool, false, Ok, arith}
use Rattle.bufr_bits.specs.Device.{all_flushed_after_write}
use Rattle.bufr_bits.specs.declared.device.Failed.{Failed}

-- A write that accepted octets leaves octets that are not flushed.
pub unflushed-some : (before after : Bool) (n : ℕ) → 0 < n → after ≡ all_flushed_after_write {E = Failed} before (Ok n) → after ≡ false
unflushed-some before after zero some is = absurd (omega arith)
unflushed-some before after (suc n) some is = is
