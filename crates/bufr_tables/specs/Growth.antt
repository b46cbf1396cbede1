-- Only contracts need this file. A template that is being built, and the cells appended to it.
use Rattle.std.specs.Prelude.{ℕ, ◌+◌, ◌-◌, ◌≡◌, ◌≢◌, max, Bool, false, ◌||◌, List, [], ◌∷◌, ◌++◌, length, slice_set, Result, Ok, Err, Option}
use Rattle.bufr_tables.specs.declared.template.Cell.{Cell}
use Rattle.bufr_tables.specs.declared.template.Cell.TheVariants as cell
use Rattle.bufr_tables.specs.declared.expand.Passes.{Passes}
use Rattle.bufr_tables.specs.declared.fault.TemplateFault.{TemplateFault}
use Rattle.bufr_tables.specs.declared.fault.TemplateFault.TheVariants as template
use Rattle.bufr_tables.specs.Tree.{Tree, depth, consumes, bare, fixed, delayed}
use Rattle.bufr_tables.specs.Cells.{cells_of}
use Rattle.bufr_tables.specs.Records.{◌>>=◌}
use Rattle.bufr_tables.specs.Expansion.{ExpandedPart, part, with_places, Tables, Expansion, body_of, inner_of, level, tables_of}
use Rattle.bufr_tables.specs.declared.expand.Passes.TheVariants as passes
use Rattle.bufr_tables.specs.declared.expand.Expander.{Expander}

-- the number of cells in a group, not counting those in its body
abbrev pub own_places : Passes → ℕ
own_places (passes.Fixed count) = 2
own_places (passes.Delayed factor) = 3

-- the node for a group with the given body
abbrev pub group_of : Passes → Tree → Tree
group_of (passes.Fixed count) body = fixed count body bare
group_of (passes.Delayed factor) body = delayed factor body bare

-- the first cell of a group; `after` is the index of the cell after the group
abbrev pub first_cell : Passes → ℕ → Cell
first_cell (passes.Fixed count) after = cell.Fixed count after
first_cell (passes.Delayed factor) after = cell.Delayed after

-- the cells for a group's factor (one if the group is delayed, none if it is fixed)
abbrev pub factor_cells : Passes → List Cell
factor_cells (passes.Fixed count) = []
factor_cells (passes.Delayed factor) = cell.Factor factor ∷ []

-- The state of a template that is being built. `groups` is the number of open groups, and `deep` is
-- the highest value of `groups` so far. `full` is true if the body of the innermost open group (or
-- the template, if no group is open) already consumes data bits.
pub record BuilderModel : Type 0 where
  pub cells : List Cell
  pub groups : ℕ
  pub deep : ℕ
  pub full : Bool

abbrev pub growth : List Cell → (groups deep : ℕ) → Bool → BuilderModel
growth cells groups deep full = record { cells = cells; groups = groups; deep = deep; full = full }

-- the number of cells so far, plus one for the end of each open group and one for the end of the
-- template
abbrev pub places_so_far : BuilderModel → ℕ
places_so_far g = length g.cells + g.groups + 1

-- the builder after appending the cells of a tree
abbrev pub push_tree : BuilderModel → Tree → BuilderModel
push_tree g tree =
    growth (g.cells ++ cells_of tree (length g.cells) []) g.groups
    (max g.deep (g.groups + depth tree))
    (g.full || consumes tree)

-- the builder after appending an element or operator, or a fault that names descriptor d if the
-- template is full
abbrev pub with_cell : BuilderModel → ℕ → Tree → Result BuilderModel TemplateFault
with_cell g d node = with_places (places_so_far g) 1 d >>= λ _. Ok (push_tree g node)

-- the builder after opening a group; the index of the cell after the group is not known yet, so 0
-- is stored instead
abbrev pub with_open_group : BuilderModel → Passes → BuilderModel
with_open_group g passes =
    growth (g.cells ++ first_cell passes 0 ∷ factor_cells passes) (g.groups + 1)
    (max g.deep (g.groups + 1)) false

-- the builder after closing the innermost open group, whose first cell has index `place`
abbrev pub with_closed_group : BuilderModel → ℕ → Passes → BuilderModel
with_closed_group g place passes =
    growth (slice_set (g.cells ++ cell.PassEnd ∷ []) place (first_cell passes (length g.cells + 1)))
    (g.groups - 1) g.deep g.full

-- The expected result `defined` is the fault `why`, unless memory ran out.
abbrev pub IsFaultOrMemory : {A : Type 0} → Result A TemplateFault → TemplateFault → Type 0
IsFaultOrMemory defined why = why ≢ template.Memory → defined ≡ Err why

-- The expected result `defined` is a tree, and the cells of this tree were appended.
pub record PushesTree (old : BuilderModel) (defined : Result Tree TemplateFault)
    (new : BuilderModel) : Type 0 where
  pub tree : Tree
  pub is_defined : defined ≡ Ok tree
  pub is_put : new ≡ push_tree old tree

abbrev pub PushesTreeUnlessMemory : BuilderModel → Result Tree TemplateFault
    → Result (Unit {0}) TemplateFault → BuilderModel → Type 0
PushesTreeUnlessMemory old defined (Ok done) new = PushesTree old defined new
PushesTreeUnlessMemory old defined (Err why) new = IsFaultOrMemory defined why

-- The expected result `defined` is a part of the template, and the cells of this part were
-- appended. The next `taken` descriptors in the list belong to this part.
pub record PushesPart (old : BuilderModel) (defined : Result ExpandedPart TemplateFault) (taken : ℕ)
    (new : BuilderModel) : Type 0 where
  pub tree : Tree
  pub is_defined : defined ≡ Ok (part tree taken)
  pub is_put : new ≡ push_tree old tree

abbrev pub GivesPart : BuilderModel → Result ExpandedPart TemplateFault → Result ℕ TemplateFault
    → BuilderModel → Type 0
GivesPart old defined (Ok taken) new = PushesPart old defined taken new
GivesPart old defined (Err why) new = IsFaultOrMemory defined why

-- If the call succeeded, the expected result `defined` is the builder `new`. If the call failed,
-- `defined` is the fault that was returned, unless memory ran out.
abbrev pub GivesGrowth : Result BuilderModel TemplateFault
    → Result (Unit {0}) TemplateFault → BuilderModel → Type 0
GivesGrowth defined (Ok done) new = defined ≡ Ok new
GivesGrowth defined (Err why) new = IsFaultOrMemory defined why

-- A group was opened, and the template does not exceed its maximum size. The group's first cell has
-- index `place`.
pub record OpensGroup (old : BuilderModel) (passes : Passes) (d place : ℕ)
    (new : BuilderModel) : Type 0 where
  pub is_left : with_places (places_so_far old) (own_places passes) d ≡ Ok tt
  pub is_begun : new ≡ with_open_group old passes
  pub is_at : place ≡ length old.cells

abbrev pub GivesPlace : BuilderModel → Passes → ℕ → Result ℕ TemplateFault → BuilderModel → Type 0
GivesPlace old passes d (Ok place) new = OpensGroup old passes d place new
GivesPlace old passes d (Err why) new =
    IsFaultOrMemory (with_places (places_so_far old) (own_places passes) d) why

abbrev pub tables_in : Expander → Tables
tables_in expander = tables_of expander.table_b.now expander.table_d.now

-- the function that an expander uses to expand the list inside a group or sequence
abbrev pub inner_in : Expander → Option Expansion
inner_in expander = inner_of (tables_in expander) expander.room

-- the function that an expander uses to expand a list
abbrev pub list_in : Expander → Expansion
list_in expander = level (tables_in expander) (inner_in expander) false 0

-- the group for replication d, or the first fault; `after` contains the descriptors that follow d
-- (or its factor, if d is delayed)
abbrev pub group_in : Expander → Passes → (places d : ℕ) → List ℕ → Result Tree TemplateFault
group_in expander passes places d after =
    body_of (inner_in expander) places (own_places passes) d after >>= λ body.
    Ok (group_of passes body)
