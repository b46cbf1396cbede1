-- The table of the worked examples, and readings by this table: a pass over a template, with
-- everything that it shows, and how it ended. They are computed by the definitions that the
-- contracts use.
use Rattle.std.proofs.Common.{ℕ, ◌+◌, ◌*◌, List, [], ◌∷◌, length, map, ℤ, pos, negsuc, Option, Some, None}
use Rattle.bufr_bits.specs.Prelude.{bits_of}
use Rattle.bufr_tables.specs.declared.table_b.Kind.TheVariants as kind
use Rattle.bufr_tables.specs.Prelude.{Row, Tree}
use Rattle.bufr_walk.specs.Prelude.{Kind, TurnRefusal, FieldSpec, ShownValue, shown, next_item, counted_item, CountedCourse, DataCoding, plain, packed, answers_in, Stop, stop_by}
use Rattle.bufr_walk.specs.declared.walker.WalkStop.TheVariants as stops
use Rattle.bufr_walk.specs.Pass.{Pass as DataPass, Place, passes_apart, passes_together}
use Rattle.bufr_walk.specs.declared.fault.DataFault.{DataFault}

-- the descriptor with this F, X and Y
unfoldable pub fxy : (f x y : ℕ) → ℕ
fxy f x y = f * 16384 + (x * 256 + y)

-- an element of the table, without a name or a unit
listed : (f x y : ℕ) → Kind → (scale reference : ℤ) → (width : ℕ) → Row
unfolding fxy
listed f x y k s r w = record { fxy = fxy f x y; name = []; unit = []; kind = k; scale = s; reference = r; width = w }

-- a block number, a name, a latitude, a temperature, two elements of code tables (the second one
-- has a scale and a reference), and class 31: three factors, an element of a code table, and a
-- letter
unfoldable pub table : List Row
unfolding listed
table =
    listed 0 1 1 kind.Numeric (pos 0) (pos 0) 7
    ∷ listed 0 1 15 kind.Character (pos 0) (pos 0) 160
    ∷ listed 0 5 2 kind.Numeric (pos 2) (negsuc 8999) 15
    ∷ listed 0 12 101 kind.Numeric (pos 2) (pos 0) 16
    ∷ listed 0 20 3 kind.Coded (pos 0) (pos 0) 9
    ∷ listed 0 20 4 kind.Coded (pos 1) (negsuc 2) 6
    ∷ listed 0 31 0 kind.Numeric (pos 0) (pos 0) 1
    ∷ listed 0 31 1 kind.Numeric (pos 0) (pos 0) 8
    ∷ listed 0 31 2 kind.Numeric (pos 0) (pos 0) 16
    ∷ listed 0 31 21 kind.Coded (pos 0) (pos 0) 6
    ∷ listed 0 31 250 kind.Character (pos 0) (pos 0) 8
    ∷ []

-- how a pass ended: at the end of the template or at a fault, with how many bits left, and after
-- how many turns
pub data Ending : Type 0 where
  done : (left turns : ℕ) → Ending
  stopped : (why : Stop) (left turns : ℕ) → Ending
  unknown : Ending

-- a pass that stopped at a refused turn, or at the fault of a field
abbrev pub walk_fault : TurnRefusal → (left turns : ℕ) → Ending
walk_fault why left turns = stopped (stop_by why) left turns

abbrev pub field_fault : (fxy : ℕ) → (ℕ → DataFault) → (left turns : ℕ) → Ending
field_fault fxy why left turns = stopped (stops.Field (why fxy)) left turns

-- a pass: the descriptor of each item and what it shows, and how the pass ended
pub record Pass (C : Type 0) : Type 0 where
  pub items : List (ℕ × C)
  pub ending : Ending

-- how a pass ended, by the definitions
ending_of : Option Stop → ℕ → ℕ → Ending
ending_of None left turns = done left turns
ending_of (Some stop) left turns = stopped stop left turns

-- what a pass shows, by the definitions
seen : {C V : Type 0} → DataCoding C → CountedCourse → (FieldSpec → C → V) → DataPass Place C Stop → Pass V
unfolding ending_of
seen form course shows p = record { items = map (λ i. (i.spec.fxy, shows i.spec i.content)) p.items; ending = ending_of p.stop (length p.state.left) (course (answers_in form.gives p.items)).turns }

first : {V : Type 0} → List (Pass V) → Pass V
first [] = record { items = []; ending = unknown }
first (p ∷ passes) = p

-- one subset of plain data
unfoldable pub one : Tree → List ℕ → Pass ShownValue
unfolding table seen first next_item bits_of
one tree octets = first (map (seen plain (counted_item table tree) shown) (passes_apart (next_item table tree) 1 (bits_of octets)))

-- all n subsets of compressed data
unfoldable pub together : ℕ → Tree → List ℕ → Pass (List ShownValue)
unfolding table seen first next_item bits_of
together n tree octets = first (map (seen (packed n) (counted_item table tree) (λ spec cs. map (shown spec) cs)) (passes_together (next_item table tree) n (bits_of octets)))

-- two subsets of plain data, each from the beginning of the template; nothing is read after a fault
unfoldable pub two : Tree → List ℕ → List (Pass ShownValue)
unfolding table seen next_item bits_of
two tree octets = map (seen plain (counted_item table tree) shown) (passes_apart (next_item table tree) 2 (bits_of octets))

-- the expected pass
unfoldable pub gives : {V : Type 0} → List (ℕ × V) → Ending → Pass V
gives items ending = record { items = items; ending = ending }
