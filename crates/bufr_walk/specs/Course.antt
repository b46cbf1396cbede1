-- The steps of a walk over a template, and how the preceding fields determine the next step. (FM 94
-- BUFR, sections 3 and 4; the steps are our choice)
-- Cited by public contracts.
use Rattle.std.specs.Prelude.{ℕ, zero, suc, List, [], ◌∷◌, Result, Ok, Err, if◌then◌else◌, ◌≡◌}
use Rattle.bufr_tables.specs.Prelude.{Tree, bare, element, operator, fixed, delayed, is_inserted_text, Row}
use Rattle.bufr_walk.specs.Content.{Taken, FieldSpec, IsFor}
use Rattle.bufr_walk.specs.Rules.{TurnRefusal, OperatorModel, begin, after_operator, after_field, element_spec, factor_spec, inserted_spec}
use Rattle.bufr_walk.specs.declared.spec.Taken.TheVariants as taken
pub use Rattle.bufr_walk.specs.declared.walker.WalkStop.{WalkStop}
use Rattle.bufr_walk.specs.declared.spec.TurnRefusal.TheVariants as refusal
use Rattle.bufr_walk.specs.declared.walker.WalkStop.TheVariants as stops
use Rattle.bufr_walk.specs.declared.spec.Role.TheVariants as role

-- ---- The steps of a walk over a template (FM 94 BUFR, section 3).

-- The steps of a walk, in order. A turn is one step of a walk. `group` begins a group, and
-- `pass_end` ends one pass over a group. Nothing is read or written at `group` and `pass_end`, but
-- both count as steps. `finish` is the end of the template. `open_end` comes after a replication
-- factor whose count is not known yet. For example, if the count is 2, the template 1 02 000, 0 31
-- 001, A, B has the steps group, factor, A, B, pass_end, A, B, pass_end and finish. Before the
-- count is known, the steps are group, factor and open_end.
pub data Turns : Type 0 where
  finish : Turns
  open_end : Turns
  group : (next : Turns) → Turns
  pass_end : (next : Turns) → Turns
  factor_turn : (fxy : ℕ) → (next : Turns) → Turns
  element_turn : (fxy : ℕ) → (next : Turns) → Turns
  operator_turn : (fxy : ℕ) → (next : Turns) → Turns

-- a function that returns the remaining steps of a walk, given the remaining replication counts
abbrev pub Rest : Type 0
Rest = List ℕ → Turns

-- The steps of n passes over the body of a group, followed by the steps of `rest`. Each pass
-- consists of the steps of the body, followed by `pass_end`; `body after` gives the steps of the
-- body, followed by those of `after`. `counts` contains the known counts for the passes, followed
-- by those for `rest`.
-- rule: passes-by-count
abbrev pub passes : ℕ → (Rest → Rest) → Rest → Rest
passes zero body rest counts = rest counts
passes (suc n) body rest counts = body (λ left. pass_end (passes n body rest left)) counts

-- The steps of a template's nodes, followed by the steps of `rest`. Each replication factor uses
-- the next count in the list, and the remaining counts are passed to `rest`. If the counts run out,
-- `open_end` comes after the next replication factor.
abbrev pub unroll : Tree → Rest → Rest
unroll bare rest counts = rest counts
unroll (element fxy more) rest counts = element_turn fxy (unroll more rest counts)
unroll (operator fxy more) rest counts = operator_turn fxy (unroll more rest counts)
unroll (fixed n body more) rest counts = group (passes n (unroll body) (unroll more rest) counts)
unroll (delayed fxy body more) rest [] = group (factor_turn fxy open_end)
unroll (delayed fxy body more) rest (n ∷ counts) =
    group (factor_turn fxy (passes n (unroll body) (unroll more rest) counts))

-- the steps of a walk over a whole template, given the replication counts that are known so far
abbrev pub turns_of : Tree → Rest
turns_of template = unroll template (λ _. finish)

-- the counts of the preceding replication factors, given the answers of all preceding fields
abbrev pub counts_of : List Taken → List ℕ
counts_of [] = []
counts_of (taken.Count n ∷ answers) = n ∷ counts_of answers
counts_of (_ ∷ answers) = counts_of answers

-- what comes next in a walk (a field to read or write, the end of the template, or a refused step)
pub data Next : Type 0 where
  take_next : (spec : FieldSpec) → Next
  at_end : Next
  -- The counts do not match the replication factors. This never happens.
  astray : Next
  refused : (why : TurnRefusal) → Next

-- What comes next when a walk reaches a field. If no answers are left, the field itself comes next.
-- Otherwise, the first answer belongs to the field, and `go` continues with the remaining answers.
abbrev pub asked : Result FieldSpec TurnRefusal → (Taken → List Taken → Next) → List Taken → Next
asked (Err why) go answers = refused why
asked (Ok spec) go [] = take_next spec
asked (Ok spec) go (t ∷ answers) = go t answers

-- What comes next when a walk reaches an operator. Unless the walk refuses the operator, `go`
-- continues with the operators that are then in effect.
abbrev pub operated : Result OperatorModel TurnRefusal → (OperatorModel → Next) → Next
operated (Err why) go = refused why
operated (Ok settings) go = go settings

-- What comes next in a list of steps, given the answers of the fields that have already been read
-- or written. `s` contains the operators in effect at the first step, and `after_field` returns
-- those in effect after a field.
-- rule: defining-fixed-groups, 2-03-255-alone
abbrev pub ahead : List Row → Turns → OperatorModel → List Taken → Next
ahead table finish s answers = at_end
ahead table open_end s answers = astray
ahead table (group next) s answers = ahead table next s answers
ahead table (pass_end next) s answers = ahead table next s answers
ahead table (factor_turn fxy next) s answers =
    asked (factor_spec table s fxy) (λ t more. ahead table next (after_field s fxy t) more) answers
ahead table (element_turn fxy next) s answers =
    asked (element_spec table s fxy) (λ t more. ahead table next (after_field s fxy t) more) answers
ahead table (operator_turn fxy next) s answers =
    if is_inserted_text fxy
    then asked (inserted_spec s fxy) (λ t more. ahead table next (after_field s fxy t) more) answers
    else operated (after_operator s fxy) (λ s'. ahead table next s' answers)

-- a function that returns what comes next in a walk, given the answers of the preceding fields
abbrev pub Course : Type 0
Course = List Taken → Next

-- what comes next in a walk over a whole template
unfoldable pub next_item : List Row → Tree → Course
next_item table template answers = ahead table (turns_of template (counts_of answers)) begin answers

-- ---- A walk that stops because a step is refused.

-- the `WalkStop` for a refused step
abbrev pub stop_by : {E : Type 0} → TurnRefusal → WalkStop E
stop_by (refusal.Width fxy) = stops.Width fxy
stop_by (refusal.Defining fxy) = stops.Defining fxy

-- ---- The fields that a walk reads or writes, in order.

-- a field that was read or written, and its answer
pub record TakenField : Type 0 where
  pub spec : FieldSpec
  pub taken : Taken

-- A walk read or wrote the given fields in the order given by its `Course`, and the state changed
-- from s to s'.
abbrev pub Takes : {S : Type 0} → (S → FieldSpec → Taken → S → Type 0) → Course → S
    → List TakenField → S → Type 0
Takes takes course s [] s' = s' ≡ s
Takes {S} takes course s (i ∷ items) s' =
    (mid : S) × (course [] ≡ take_next i.spec) × takes s i.spec i.taken mid
    × Takes takes (λ answers. course (i.taken ∷ answers)) mid items s'

-- ---- How a walk ends.

-- A field was read or written without a fault.
abbrev pub oks : {S E : Type 0} → (S → FieldSpec → Result Taken E → S → Type 0) → S → FieldSpec
    → Taken → S → Type 0
oks takes s spec t s' = takes s spec (Ok t) s'

-- the answers of the fields that were read or written
abbrev pub answers_of : List TakenField → List Taken
answers_of [] = []
answers_of (i ∷ items) = i.taken ∷ answers_of items

-- The walk stopped because the next field could not be read or written, because memory for a
-- redefined reference value ran out, or because the next step was refused.
abbrev pub StopsWalk : {S E : Type 0} → (S → FieldSpec → Result Taken E → S → Type 0) → Next → S
    → WalkStop E → S → Type 0
StopsWalk takes (take_next spec) s (stops.Field e) s' = takes s spec (Err e) s'
StopsWalk takes (take_next spec) s stops.Memory s' = (spec.role ≡ role.Reference) × (s' ≡ s)
StopsWalk takes (refused why) s w s' = (w ≡ stop_by why) × (s' ≡ s)
StopsWalk takes _ s _ s' = ⊥

-- A field was read or written, or the walk stopped. The walk stops if the field is refused, if it
-- cannot be read or written, or if memory for a redefined reference value runs out.
abbrev pub TakesField : {S E : Type 0} → (S → FieldSpec → Result Taken E → S → Type 0)
    → Result FieldSpec TurnRefusal
    → S → Result Taken (WalkStop E) → S → Type 0
TakesField takes (Ok spec) s (Ok t) s' = takes s spec (Ok t) s' × IsFor spec t
TakesField takes (Ok spec) s (Err (stops.Field e)) s' = takes s spec (Err e) s'
TakesField takes (Ok spec) s (Err stops.Memory) s' = (spec.role ≡ role.Reference) × (s' ≡ s)
TakesField takes (Err why) s (Err w) s' = (w ≡ stop_by why) × (s' ≡ s)
TakesField takes _ s _ s' = ⊥
