-- The progress of a walk over the cells of a template, and how many turns are left.
use Rattle.std.specs.Prelude.{Bool, if◌then◌else◌, ℕ, List, [], ◌∷◌, ◌++◌, ◌+◌, ◌-◌, ◌*◌, ◌^◌, ◌<◌, ◌≤◌, ◌≡◌, Result, Ok, Err, Option, Some, None, length, drop, slice_index}
use Rattle.bufr_tables.specs.Prelude.{Tree, depth, Row, IsLegal, cells_of}
use Rattle.bufr_walk.specs.Prelude.{Taken, FieldSpec, OperatorModel, Rest, counts_of, unroll, passes, pass_end, TakenField, Takes, oks, answers_of, StopsWalk, ticked, WalkStop, Turns, asked, operated, turns_ahead, turns_asked, turns_operated, Next, NextTurn, TurnRefusal, ahead, CountedCourse, uncounted}
use Rattle.bufr_tables.specs.declared.template.Cell.{Cell}
use Rattle.bufr_walk.specs.declared.walker.Frame.{Frame}
use Rattle.bufr_tables.specs.declared.template.Cell.TheVariants as cell

-- ---- What comes next, and the turns up to it.

-- what comes next, after n more turns
abbrev pub later : ℕ → NextTurn → NextTurn
later n a = record { turns = n + a.turns; next = a.next }

-- what comes next, after a single turn
abbrev pub in_one_turn : Next → NextTurn
in_one_turn next = record { turns = 1; next = next }

abbrev pub counted_asked : Result FieldSpec TurnRefusal → (Taken → List Taken → NextTurn) → List Taken → NextTurn
counted_asked r go answers = record {
  turns = turns_asked r (λ t more. (go t more).turns) answers;
  next = asked r (λ t more. (go t more).next) answers;
}

abbrev pub counted_operated : Result OperatorModel TurnRefusal → (OperatorModel → NextTurn) → NextTurn
counted_operated r go = record { turns = turns_operated r (λ s. (go s).turns); next = operated r (λ s. (go s).next) }

abbrev pub counted_ahead : List Row → Turns → OperatorModel → List Taken → NextTurn
counted_ahead table turns s answers = record { turns = turns_ahead table turns s answers; next = ahead table turns s answers }

-- one of two, chosen by a condition
abbrev pub counted_either : Bool → NextTurn → NextTurn → NextTurn
counted_either b x y = record {
  turns = if b then x.turns else y.turns;
  next = if b then x.next else y.next;
}

-- the course of these turns; the answers include the counts of their factors
abbrev pub course : List Row → Rest → OperatorModel → CountedCourse
course table rest s answers = counted_ahead table (rest (counts_of answers)) s answers

-- A walk goes from one course and state to another, in t turns.
pub record WalkGoes {S E : Type 0} (takes : S → FieldSpec → Result Taken E → S → Type 0)
    (n : CountedCourse)
    (s : S) (t : ℕ) (n' : CountedCourse) (s' : S) : Type 0 where
  pub items : List TakenField
  pub taken : Takes (oks takes) (uncounted n) s items s'
  pub leads : (more : List Taken) → n (answers_of items ++ more) ≡ later t (n' more)

-- A walk stops t turns after this course and state.
pub record Stops {S E : Type 0} (takes : S → FieldSpec → Result Taken E → S → Type 0) (n : CountedCourse)
    (s : S) (t : ℕ) (stop : WalkStop E) (s' : S) : Type 0 where
  pub items : List TakenField
  pub mid : S
  pub taken : Takes (oks takes) (uncounted n) s items mid
  pub stops : StopsWalk takes (n (answers_of items)).next mid stop s'
  pub turns : (n (answers_of items)).turns ≡ t

-- A walk began with the turns in `over`, and those in `left` remain.
pub record HasWalked {S E : Type 0} (takes : S → FieldSpec → Result Taken E → S → Type 0)
    (table : List Row)
    (over left : Rest → Rest) (s : OperatorModel) (f : S) (c : ℕ) (s' : OperatorModel) (f' : S)
    (c' : ℕ) : Type 0 where
  pub turns : ℕ
  pub ticks : c' ≡ ticked c turns
  pub way : (rest : Rest)
      → WalkGoes takes (course table (over rest) s) f turns (course table (left rest) s') f'

-- A walk that began with the turns in `over` stopped.
pub record StopsIn {S E : Type 0} (takes : S → FieldSpec → Result Taken E → S → Type 0)
    (table : List Row) (over : Rest → Rest) (s : OperatorModel) (f : S) (c : ℕ) (why : WalkStop E)
    (f' : S) (c' : ℕ) : Type 0 where
  pub turns : ℕ
  pub ticks : c' ≡ ticked c turns
  pub way : (rest : Rest) → Stops takes (course table (over rest) s) f turns why f'

-- ---- The state of a walk in the cells of a template.

-- an open group: its frame, its body and the nodes after it
pub record OpenGroup : Type 0 where
  pub frame : Frame
  pub body : Tree
  pub more : Tree

-- the frames of open groups; the frames begin with the outermost group, the groups with the
-- innermost
abbrev pub frames_of : List OpenGroup → List Frame
frames_of [] = []
frames_of (s ∷ outer) = frames_of outer ++ s.frame ∷ []

-- the turns from the end of the current pass of the innermost group on
abbrev pub turns_after_pass : List OpenGroup → Rest → Rest
turns_after_pass [] k counts = k counts
turns_after_pass (s ∷ outer) k counts =
    pass_end (passes s.frame.left (unroll s.body) (unroll s.more (turns_after_pass outer k)) counts)

-- the cells from the end of the current pass of the innermost group on
abbrev pub tail_of : List OpenGroup → List Cell
tail_of [] = cell.Finish ∷ []
tail_of (s ∷ outer) = cell.PassEnd ∷ cells_of s.more s.frame.after (tail_of outer)

-- The cells contain each open group, at a depth of at most 32.
abbrev pub AllGroupsFit : List Cell → List OpenGroup → Type 0
AllGroupsFit cells [] = Unit {0}
AllGroupsFit cells (s ∷ outer) =
    (drop s.frame.start cells ≡ cells_of s.body s.frame.start (tail_of (s ∷ outer)))
    × (drop s.frame.after cells ≡ cells_of s.more s.frame.after (tail_of outer))
    × (length outer + 1 + depth s.body ≤ 32) × (length outer + depth s.more ≤ 32)
    × IsLegal s.body × IsLegal s.more × AllGroupsFit cells outer

-- A walk is at a place before these nodes, inside these open groups, and `left` is its remaining
-- turns.
pub record IsAtNodes (cells : List Cell) (place : ℕ) (stack : List Frame) (left : Rest → Rest)
    (more : Tree) (groups : List OpenGroup) : Type 0 where
  pub frames : stack ≡ frames_of groups
  pub here : drop place cells ≡ cells_of more place (tail_of groups)
  pub deep : length groups + depth more ≤ 32
  pub legal : IsLegal more
  pub outer : AllGroupsFit cells groups
  pub left_is : (k : Rest) (counts : List ℕ) → left k counts
      ≡ unroll more (turns_after_pass groups k) counts

-- A walk is at this place, with this stack of open groups.
abbrev pub IsAtCell : List Cell → ℕ → List Frame → (Rest → Rest) → Type 0
IsAtCell cells place stack left =
    (more : Tree) × (groups : List OpenGroup) × IsAtNodes cells place stack left more groups

-- the maximum number of turns from a cell to the end of its pass, given that from each later cell
abbrev pub cost_of : Cell → ℕ → List ℕ → ℕ
cost_of (cell.Element f) at later = 1 + slice_index later 0
cost_of (cell.Operator f) at later = 1 + slice_index later 0
cost_of (cell.Fixed n after) at later =
    1 + n * (1 + slice_index later 0) + slice_index later (after - (at + 1))
cost_of (cell.Delayed after) at later =
    2 + 2 ^ 64 * (1 + slice_index later 1) + slice_index later (after - (at + 1))
cost_of (cell.Factor f) at later = 0
cost_of cell.PassEnd at later = 0
cost_of cell.Finish at later = 0

-- the maximum number of turns from each cell to the end of its pass
abbrev pub costs : List Cell → ℕ → List ℕ
costs [] at = []
costs (c ∷ cells) at = cost_of c at (costs cells (at + 1)) ∷ costs cells (at + 1)

-- the maximum number of turns in the open groups after their current passes
abbrev pub owed : List ℕ → List Frame → ℕ
owed cost [] = 0
owed cost (f ∷ frames) =
    1 + f.left * (1 + slice_index cost f.start) + slice_index cost f.after + owed cost frames

-- the maximum number of turns that are left
abbrev pub weight : List Cell → ℕ → List Frame → ℕ
weight cells place stack = slice_index (costs cells 0) place + owed (costs cells 0) stack

-- the result of a turn
abbrev pub Turned : {S E : Type 0} → (S → FieldSpec → Result Taken E → S → Type 0) → List Row
    → List Cell → (Rest → Rest) → ℕ → List Frame → OperatorModel → S → ℕ
    → Result (Option ℕ) (WalkStop E)
    → List Frame → OperatorModel → S → ℕ → Type 0
Turned takes table cells left place stack s f c (Ok None) stack' s' f' c' =
    ((k : Rest) (counts : List ℕ) → left k counts ≡ k counts) × (s' ≡ s) × (f' ≡ f)
    × (c' ≡ ticked c 1)
Turned takes table cells left place stack s f c (Ok (Some next)) stack' s' f' c' =
    (left' : Rest → Rest) × IsAtCell cells next stack' left'
    × HasWalked takes table left left' s f c s' f' c'
    × (weight cells next stack' < weight cells place stack)
Turned takes table cells left place stack s f c (Err why) stack' s' f' c' =
    StopsIn takes table left s f c why f' c'
