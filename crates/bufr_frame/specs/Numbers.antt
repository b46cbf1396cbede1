-- The number and the text of each fault (our choice). The text is a list of parts that are
-- concatenated.
-- Cited by public contracts.
use Rattle.std.specs.Prelude.{ℕ, List, [], ◌∷◌, codes, decimal}
use Rattle.bufr_frame.specs.declared.fault.Cause.{Cause}
use Rattle.bufr_frame.specs.declared.fault.Cause.TheVariants as cause
use Rattle.bufr_frame.specs.declared.fault.SectionFault.{SectionFault}
use Rattle.bufr_frame.specs.declared.fault.SectionFault.TheVariants as section
use Rattle.bufr_frame.specs.declared.fault.RunFault.{RunFault}
use Rattle.bufr_frame.specs.declared.fault.RunFault.TheVariants as run_fault
use Rattle.bufr_frame.specs.declared.fault.WriteFault.{WriteFault}
use Rattle.bufr_frame.specs.declared.fault.WriteFault.TheVariants as write

-- The number and the text of the fault reported for a stray `BUFR`. Possible causes are a stream
-- that ends before the message does, a declared length of less than 12, and a missing `7777`.
-- rule: fault-1, fault-2, fault-3
abbrev pub cause_report : Cause → ℕ × List (List ℕ)
cause_report cause.Cut = (1, codes "cut" ∷ [])
cause_report cause.ShortLength = (2, codes "short length" ∷ [])
cause_report cause.NoEnd = (3, codes "no end" ∷ [])

-- the number and the text of a fault in the sections of a message
-- rule: fault-10, fault-11, fault-12, fault-13, fault-14
abbrev pub section_report : SectionFault → ℕ × List (List ℕ)
-- The edition is neither 3 nor 4.
section_report (section.Edition edition) = (10, codes "edition " ∷ decimal edition ∷ [])
-- Section k is shorter than allowed.
section_report (section.SectionShort k) = (11, codes "section " ∷ decimal k ∷ codes " short" ∷ [])
-- Section k extends into section 5.
section_report (section.SectionPast k) =
    (12, codes "section " ∷ decimal k ∷ codes " past the end" ∷ [])
-- Section 4 ends before section 5 begins.
section_report section.SectionsEnd = (13, codes "sections do not meet the end" ∷ [])
-- An edition 3 message is too long (see `is_long_edition_3`).
section_report section.Edition3Long = (14, codes "edition 3 length" ∷ [])

-- The number and the text of a fault that stops a run. Possible causes are a failed read or write,
-- an input that does not end within 2^32 reads, and insufficient memory.
-- rule: fault-70, fault-71, fault-72, fault-73
abbrev pub run_report : RunFault → ℕ × List (List ℕ)
run_report run_fault.Read = (70, codes "read failed" ∷ [])
run_report run_fault.Write = (71, codes "write failed" ∷ [])
run_report run_fault.InputTooLong = (72, codes "input too long" ∷ [])
run_report run_fault.Memory = (73, codes "out of memory" ∷ [])

-- the number of a fault that prevents a message from being written
abbrev pub number_of_write_fault : WriteFault → ℕ
number_of_write_fault write.TooLong = 60
number_of_write_fault write.Memory = 73
