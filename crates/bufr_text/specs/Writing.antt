-- How much of the written text a writer accepts (our choice).
-- Cited by public contracts.
use Rattle.std.specs.Prelude.{◌≡◌, ◌≤◌, ◌+◌, ◌*◌, ◌⊎◌, min, ℕ, List, [], ◌∷◌, ◌++◌, Option, Result, Ok, Err, IfSome, length, take}
use Rattle.std.specs.Io.KnownBytes.{Appends}
use Rattle.bufr_bits.specs.Prelude.{Flushes, counted}
use Rattle.bufr_frame.specs.declared.fault.RunFault.{RunFault}
use Rattle.bufr_frame.specs.declared.fault.RunFault.TheVariants.{Write, Read, InputTooLong}
use Rattle.bufr_walk.specs.Prelude.{Timed, Call, subset_call, item_call, ticked}
use Rattle.bufr_text.specs.Dump.{subset_line, item_text}

-- If the octets accepted by the writer are known, a prefix of the given text was appended to them.
pub record GrowsByPrefix (old new : Option (List ℕ)) (text : List ℕ) : Type 0 where
  pub prefix : List ℕ
  pub back : List ℕ
  pub parts : text ≡ prefix ++ back
  pub gains : Appends old new prefix

-- The whole text was written, or only a prefix of it because the writer failed.
abbrev pub Writes : {X : Type 0} → Option (List ℕ) → Option (List ℕ) → List ℕ
    → Result X RunFault → Type 0
Writes old new text (Ok x) = Appends old new text
Writes old new text (Err fault) = (fault ≡ Write) × GrowsByPrefix old new text

-- No call to the writer failed, and no attempt to write octets returned 0.
abbrev pub Stays : (failures failures' empty empty' : ℕ) → Type 0
Stays failures failures' empty empty' = (failures' ≡ failures) × (empty' ≡ empty)

-- One call to the writer failed, or one attempt to write octets returned 0.
abbrev pub Fails : (failures failures' empty empty' : ℕ) → Type 0
Fails failures failures' empty empty' = ((failures' ≡ counted failures 1) × (empty' ≡ empty))
    ⊎ ((failures' ≡ failures) × (empty' ≡ counted empty 1))

-- If there was a fault, either the count of failed calls or the count of writes that returned 0
-- increased by one; otherwise, both counts are unchanged.
abbrev pub CountsWrites : {X : Type 0} → (failures failures' empty empty' : ℕ)
    → Result X RunFault → Type 0
CountsWrites failures failures' empty empty' (Ok x) = Stays failures failures' empty empty'
CountsWrites failures failures' empty empty' (Err fault) = Fails failures failures' empty empty'

-- The text was copied into a buffer at index `at`, and the result is the index after the text. If
-- the buffer was too small, the result is `None` and the content of the buffer is not specified.
abbrev pub Puts : (old : List ℕ) (at : ℕ) (text new : List ℕ) → Option ℕ → Type 0
Puts old at text new result =
    IfSome result (λ end. (end ≤ length new) × (take end new ≡ take at old ++ text))

-- ---- The model of a line writer, and how text is appended to it (our choice).

-- The model of a line writer, which buffers text in a block and writes it to a sink. `taken`
-- contains the octets that the sink accepted, `held` contains the octets in the block, and `size`
-- is the size of the block. `sink` is a number that identifies the sink.
pub record LineModel : Type 0 where
  pub taken : Option (List ℕ)
  pub failures : ℕ
  pub empty_writes : ℕ
  pub whole_writes : ℕ
  pub flushes : Flushes
  pub held : List ℕ
  pub size : ℕ
  pub status : Result Unit RunFault
  pub sink : ℕ

-- A prefix of the text was written, and the remaining text is buffered.
pub record MovesPrefix (before after : Option (List ℕ)) (text held : List ℕ) : Type 0 where
  pub prefix : List ℕ
  pub parts : text ≡ prefix ++ held
  pub gains : Appends before after prefix

-- A prefix of the text was written. The remaining text is buffered or, if the sink failed, lost.
-- The text includes the octets that were buffered before.
abbrev pub Moves : {X : Type 0} → (before after : Option (List ℕ)) → (text held : List ℕ)
    → Result X RunFault → Type 0
Moves before after text held (Ok x) = MovesPrefix before after text held
Moves before after text held (Err fault) = (fault ≡ Write) × GrowsByPrefix before after text

-- The text was appended to the buffered octets, and a prefix of the result was written. The octets
-- after this prefix are buffered or, if the sink failed, lost.
pub record MovesOn (before : LineModel) (text : List ℕ) (after : LineModel) : Type 0 where
  pub moves : Moves before.taken after.taken (before.held ++ text) after.held after.status
  pub counts : CountsWrites before.failures after.failures before.empty_writes after.empty_writes
      after.status

-- An earlier write had failed, so nothing more was written.
pub record StaysFailed (fault : RunFault) (before after : LineModel) : Type 0 where
  pub status : after.status ≡ Err fault
  pub taken : after.taken ≡ before.taken
  pub failures : after.failures ≡ before.failures
  pub empty_writes : after.empty_writes ≡ before.empty_writes

-- The text was appended, or nothing was done because an earlier write had failed.
abbrev pub PushesFrom : Result Unit RunFault → (before : LineModel) → List ℕ
    → (after : LineModel) → Type 0
PushesFrom (Ok x) before text after = MovesOn before text after
PushesFrom (Err fault) before text after = StaysFailed fault before after

-- The text was appended, no matter how many writes this took.
pub record PushesSomehow (before : LineModel) (text : List ℕ) (after : LineModel) : Type 0 where
  pub from : PushesFrom before.status before text after
  pub flushes : after.flushes ≡ before.flushes
  pub sink : after.sink ≡ before.sink
  pub size : after.size ≡ before.size

-- the size of the block, but at most 131,072 octets (twice `PAGE`); at most two complete writes are
-- made for every run of this many octets
abbrev pub gathered_by : (size : ℕ) → ℕ
gathered_by size = min size 131072

-- The text was appended. Because lines are collected before they are written, at most two complete
-- writes are made for every `gathered_by` octets.
pub record Pushes (before : LineModel) (text : List ℕ) (after : LineModel) : Type 0 where
  pub somehow : PushesSomehow before text after
  pub few : after.whole_writes * gathered_by before.size + 2 * length after.held
      ≤ before.whole_writes * gathered_by before.size + 2 * length (before.held ++ text)

-- ---- What a dump writes, and how many steps it takes.

-- The whole text was written, or only a prefix of it because the writer failed or memory ran out.
abbrev pub WritesPrefix : {X : Type 0} → (old new : Option (List ℕ)) → List ℕ
    → Result X RunFault → Type 0
WritesPrefix old new text (Ok x) = Appends old new text
WritesPrefix old new text (Err fault) = GrowsByPrefix old new text

-- If a write failed, either the count of failed calls or the count of writes that returned 0
-- increased by one; otherwise, both counts are unchanged. Any fault is `Write` or `Memory`.
abbrev pub CountsFaults : {X : Type 0} → (failures failures' empty empty' : ℕ)
    → Result X RunFault → Type 0
CountsFaults failures failures' empty empty' (Err Write) = Fails failures failures' empty empty'
CountsFaults failures failures' empty empty' (Err Read) = ⊥
CountsFaults failures failures' empty empty' (Err InputTooLong) = ⊥
CountsFaults failures failures' empty empty' result = Stays failures failures' empty empty'

-- The number of steps is either `turns` or the number taken before one of the calls.
abbrev pub StepsWithin : List Timed → (turns steps : ℕ) → Type 0
StepsWithin [] turns steps = steps ≡ ticked 0 turns
StepsWithin (t ∷ calls) turns steps = (steps ≡ ticked 0 t.turns) ⊎ StepsWithin calls turns steps

-- Showing the data took `turns` steps or, if a fault occurred, only the steps up to the fault.
abbrev pub MakesSteps : {X E : Type 0} → List Timed → (turns : ℕ) → Result X E → (steps : ℕ)
    → Type 0
MakesSteps calls turns (Ok x) steps = steps ≡ ticked 0 turns
MakesSteps calls turns (Err fault) steps = StepsWithin calls turns steps

-- ---- What each call appends to a line writer when data are shown.

-- the line that a call appends
abbrev pub call_line : Call → List ℕ
call_line (subset_call number) = subset_line number
call_line (item_call v) = item_text v

-- The call appended its line and a line feed, and it returned the writer's status.
pub record PushesCall (before : LineModel) (call : Call) (answer : Result Unit RunFault)
    (after : LineModel) : Type 0 where
  pub pushes : Pushes before (call_line call ++ 10 ∷ []) after
  pub status : answer ≡ after.status
