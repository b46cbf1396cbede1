-- What a read of a buffered reader consumes, if it copies buffered octets.
use Rattle.std.proofs.Common.{◌≡◌, ◌∙◌, ◌≤◌, ℕ, Bool, true, false, List, ◌++◌, length, take, drop, Option, Some, None, if◌then◌else◌, arith, ap, sym, length-take}
use Rattle.std.specs.Io.KnownBytes.{Consumes, prepend_known}
use Rattle.std.specs.Io.BufRead.{DropsConsumable}
use Rattle.std.proofs.lemmas.List.{take-append-drop, take-append-le, take-take}

-- The copied octets are the first of the remaining input.
parts : (n : ℕ) (buffer xs copied tail : List ℕ) → copied ≡ take n buffer → n ≤ length buffer → buffer ++ xs ≡ take n (copied ++ tail) ++ drop n (buffer ++ xs)
parts n buffer xs copied tail same few =
    let long : n ≤ length copied = omega (arith, ap length same, length-take n buffer, few) in
    let first : take n (copied ++ tail) ≡ take n (buffer ++ xs) =
    take-append-le n copied tail long ∙ ap (take n) same ∙ take-take n n buffer (omega arith) ∙ sym (take-append-le n buffer xs few) in
    sym (take-append-drop n (buffer ++ xs)) ∙ ap (λ l. l ++ drop n (buffer ++ xs)) (sym first)

pub held-consumes : (none : Bool) (inner : Option (List ℕ)) (buffer copied tail : List ℕ) (n : ℕ) (new : Option (List ℕ)) → copied ≡ take n buffer → n ≤ length buffer
    → DropsConsumable (if none then None else prepend_known buffer inner) new (Some (length buffer)) n → Consumes (if none then None else prepend_known buffer inner) new (take n (copied ++ tail))
held-consumes true inner buffer copied tail n new same few drops = tt
held-consumes false None buffer copied tail n new same few drops = tt
held-consumes false (Some xs) buffer copied tail n new same few drops = rw (drops few) (parts n buffer xs copied tail same few)
