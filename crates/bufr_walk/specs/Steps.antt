-- Only contracts need this file. How the steps of a walk are counted (our choice).
use Rattle.std.specs.Prelude.{ℕ, List, [], ◌∷◌, ◌+◌, Result, Ok, Err, if◌then◌else◌, ◌-◌, ◌^◌, min, max, ◌≡◌}
use Rattle.bufr_tables.specs.Prelude.{Tree, is_inserted_text, Row}
use Rattle.bufr_walk.specs.Content.{Taken, FieldSpec}
use Rattle.bufr_walk.specs.Rules.{TurnRefusal, OperatorModel, begin, after_operator, after_field, element_spec, factor_spec, inserted_spec}
use Rattle.bufr_walk.specs.Course.{WalkStop, Turns, finish, open_end, group, pass_end, factor_turn, element_turn, operator_turn, turns_of, counts_of, Next, at_end, Course, next_item, TakenField, Takes, oks, answers_of, StopsWalk}

-- ---- The number of steps up to the next field or the end of a walk.

-- the number of steps from a field to the first unprocessed field or the end of the walk, inclusive
abbrev pub turns_asked : Result FieldSpec TurnRefusal → (Taken → List Taken → ℕ) → List Taken → ℕ
turns_asked (Err why) go answers = 1
turns_asked (Ok spec) go [] = 1
turns_asked (Ok spec) go (t ∷ answers) = 1 + go t answers

-- the number of steps from an operator to the next unprocessed field or the end of the walk,
-- inclusive
abbrev pub turns_operated : Result OperatorModel TurnRefusal → (OperatorModel → ℕ) → ℕ
turns_operated (Err why) go = 1
turns_operated (Ok settings) go = 1 + go settings

-- the number of steps up to and including the next unprocessed field or the end of the walk
abbrev pub turns_ahead : List Row → Turns → OperatorModel → List Taken → ℕ
turns_ahead table finish s answers = 1
turns_ahead table open_end s answers = 1
turns_ahead table (group next) s answers = 1 + turns_ahead table next s answers
turns_ahead table (pass_end next) s answers = 1 + turns_ahead table next s answers
turns_ahead table (factor_turn fxy next) s answers =
    turns_asked (factor_spec table s fxy)
    (λ t more. turns_ahead table next (after_field s fxy t) more) answers
turns_ahead table (element_turn fxy next) s answers =
    turns_asked (element_spec table s fxy)
    (λ t more. turns_ahead table next (after_field s fxy t) more) answers
turns_ahead table (operator_turn fxy next) s answers =
    if is_inserted_text fxy
    then turns_asked (inserted_spec s fxy)
    (λ t more. turns_ahead table next (after_field s fxy t) more) answers
    else turns_operated (after_operator s fxy) (λ s'. turns_ahead table next s' answers)

-- what comes next in a walk, and the number of steps up to and including it
pub record NextTurn : Type 0 where
  pub turns : ℕ
  pub next : Next

-- a `Course` that also counts the steps to the next field or to the end of the walk
abbrev pub CountedCourse : Type 0
CountedCourse = List Taken → NextTurn

-- a `CountedCourse` without its step counts
abbrev pub uncounted : CountedCourse → Course
uncounted course answers = (course answers).next

-- a version of `next_item` that also counts steps
abbrev pub counted_item : List Row → Tree → CountedCourse
counted_item table template answers = record {
  turns = turns_ahead table (turns_of template (counts_of answers)) begin answers;
  next = next_item table template answers;
}

-- ---- The step counter of a walk.

-- the value of a counter after n more steps; the counter stops at 2^64 - 1 (`u64::MAX`)
abbrev pub ticked : ℕ → ℕ → ℕ
ticked count n = max count (min (count + n) (2 ^ 64 - 1))

-- A walk read or wrote the fields of a `Course`, in order. If the result is `Ok`, the walk reached
-- the end of the template. Otherwise, the walk stopped for the given reason (see `StopsWalk`).
-- Every step of the walk was counted.
abbrev pub Walked : {S E : Type 0} → (S → FieldSpec → Result Taken E → S → Type 0) → CountedCourse
    → S → ℕ → Result (Unit {0}) (WalkStop E) → S → ℕ → Type 0
Walked takes n s steps (Ok _) s' steps' =
    (items : List TakenField) × Takes (oks takes) (uncounted n) s items s'
    × ((n (answers_of items)).next ≡ at_end)
    × (steps' ≡ ticked steps (n (answers_of items)).turns)
Walked {S} takes n s steps (Err why) s' steps' =
    (items : List TakenField) × (mid : S) × Takes (oks takes) (uncounted n) s items mid
    × StopsWalk takes (n (answers_of items)).next mid why s'
    × (steps' ≡ ticked steps (n (answers_of items)).turns)
