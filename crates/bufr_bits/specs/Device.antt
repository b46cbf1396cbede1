-- A device that counts calls, requested octets and failures. Each count is limited to 2^64 - 1
-- (`u64::MAX`).
-- Cited by public contracts.
use Rattle.std.specs.Prelude.{true, ℕ, zero, suc, ◌+◌, ◌-◌, ◌^◌, min, max, Bool, false, List, [], ◌∷◌, Result, Ok, Err, if◌then◌else◌, length, nat_eq}
use Rattle.bufr_bits.specs.declared.device.Device.{Device}

-- a device that has not been called yet
abbrev pub fresh_device : {T : Type 0} → T → Device T
fresh_device inner =
    record {
      inner = inner;
      failures = 0;
      reads = 0;
      asked = 0;
      empty_writes = 0;
      whole_writes = 0;
      flushes = 0;
      failed_flushes = 0;
      all_flushed = true;
    }

-- ---- The counts of a device after a call (not part of FM 94 BUFR).

-- `count + by`, but at most 2^64 - 1; a count that already exceeds this limit is unchanged
abbrev pub counted : (count by : ℕ) → ℕ
counted count by = max count (min (count + by) (2 ^ 64 - 1))

-- the count of failures after a call with the given result; an `Err` adds one
abbrev pub failures_after : {A E : Type 0} → ℕ → Result A E → ℕ
failures_after count (Ok x) = count
failures_after count (Err e) = counted count 1

-- the count of empty writes after one more write; a write is empty if it offers octets but none are
-- accepted
abbrev pub empty_writes_after : {E : Type 0} → ℕ → List ℕ → Result ℕ E → ℕ
empty_writes_after count octets (Err e) = count
empty_writes_after count octets (Ok (suc taken)) = count
empty_writes_after count [] (Ok zero) = count
empty_writes_after count (octet ∷ more) (Ok zero) = counted count 1

-- The count of complete writes after one more write. A write is complete if all of its octets are
-- accepted. The contract of the buffered writer limits this count, but the contract of `run` does
-- not mention it.
abbrev pub whole_writes_after : {E : Type 0} → ℕ → List ℕ → Result ℕ E → ℕ
whole_writes_after count octets (Err e) = count
whole_writes_after count octets (Ok taken) =
    if nat_eq taken (length octets) then counted count 1 else count

-- the number of flushes and the number of failed flushes
pub record Flushes : Type 0 where
  pub made : ℕ
  pub failed : ℕ

-- the flush counts after one more flush with the given result
abbrev pub flushes_after : {A E : Type 0} → Flushes → Result A E → Flushes
flushes_after flushes result =
    record { made = counted flushes.made 1; failed = failures_after flushes.failed result }

-- Whether a device has no unflushed octets after a write. The result is false if octets were
-- accepted; otherwise, it is the same as before the write.
abbrev pub all_flushed_after_write : {E : Type 0} → Bool → Result ℕ E → Bool
all_flushed_after_write before (Err e) = before
all_flushed_after_write before (Ok zero) = before
all_flushed_after_write before (Ok (suc taken)) = false

-- Whether a device has no unflushed octets after a flush. The result is true if the flush
-- succeeded; otherwise, it is the same as before the flush.
abbrev pub all_flushed_after_flush : {A E : Type 0} → Bool → Result A E → Bool
all_flushed_after_flush before (Ok x) = true
all_flushed_after_flush before (Err e) = before

-- ---- Numbers that are capped at `u128::MAX` while their digits are read (not part of FM 94 BUFR).

-- a number, capped at `u128::MAX`
abbrev pub capped : ℕ → ℕ
capped n = min n (2 ^ 128 - 1)

-- a result whose number, if any, is capped at `u128::MAX`
abbrev pub capped_ok : {E : Type 0} → Result ℕ E → Result ℕ E
capped_ok (Ok n) = Ok (capped n)
capped_ok (Err fault) = Err fault
