-- The template for a descriptor list, or the first fault in the list (FM 94 BUFR, section 3,
-- replications, Tables C and D; the faults, their order and the limits are our choice).
-- Cited by public contracts.
use Rattle.std.specs.Prelude.{ℕ, zero, suc, ◌+◌, ◌==◌, nat_lt, nat_le, not, ◌||◌, Bool, true, false, List, [], ◌∷◌, length, take, Option, Some, None, Result, Ok, Err, ok_or, is_some, ◌≡◌, ◌≤◌, ◌⊎◌, ◌++◌, ◌<◌, slice_index, if◌then◌else◌}
use Rattle.bufr_tables.specs.Records.{◌>>=◌}
use Rattle.bufr_tables.specs.declared.fault.TemplateFault.{TemplateFault}
use Rattle.bufr_tables.specs.Fxy.{f_of, x_of, y_of}
pub use Rattle.bufr_tables.specs.Fxy.{is_factor}
use Rattle.bufr_tables.specs.Tree.{is_legal_operator, gives_width, Tree, bare, element, operator, fixed, delayed, join, size, consumes}
use Rattle.bufr_tables.specs.TableB.{Row, entry_of}
use Rattle.bufr_tables.specs.TableD.{Sequence, members_of}
use Rattle.bufr_tables.specs.declared.fault.TemplateFault.TheVariants as template

-- the table lookups needed for expansion (whether an element is in Table B, and the members of a
-- sequence in Table D)
pub record Tables : Type 0 where
  pub known : ℕ → Bool
  pub members : ℕ → Option (List ℕ)

-- the maximum nesting depth of groups and sequences
abbrev pub max_open : ℕ
max_open = 32

-- `Ok` if the test passes; otherwise, the fault `why`
abbrev pub unless : Bool → TemplateFault → Result (Unit {0}) TemplateFault
unless true why = Ok tt
unless false why = Err why

-- `Ok` if `places + more` is at most 65,535; otherwise, a fault that names descriptor d
-- rule: fault-27
abbrev pub with_places : (places more d : ℕ) → Result (Unit {0}) TemplateFault
with_places places more d = unless (nat_le (places + more) 65535) (template.TemplateSize d)

-- A function that expands a descriptor list; `places` is the number of template cells already in
-- use. Below, an argument of type `Option Expansion` is the function that expands the list inside a
-- group or sequence, or `None` at the maximum nesting depth. `inner_of` defines this argument.
abbrev pub Expansion : Type 0
Expansion = (places : ℕ) → List ℕ → Result Tree TemplateFault

-- the nodes for one descriptor, and the number of subsequent descriptors that belong to it (the
-- factor and the body of a replication)
pub record ExpandedPart : Type 0 where
  pub tree : Tree
  pub taken : ℕ

abbrev pub part : Tree → ℕ → ExpandedPart
part tree taken = record { tree = tree; taken = taken }

-- whether a list begins with an element
abbrev pub begins_with_element : List ℕ → Bool
begins_with_element [] = false
begins_with_element (d ∷ after) = f_of d == 0

-- the node for an element, which must be in Table B unless the operator 2 06 Y sets its data width
-- rule: 2-06-y-unknown-element, fault-20, order-at-an-element
abbrev pub element_part : Tables → Bool → ℕ → ℕ → Result ExpandedPart TemplateFault
element_part tables width_given places d = do
  _ ← unless (width_given || tables.known d) (template.UnknownElement d)
  _ ← with_places places 1 d
  Ok (part (element d bare) 0)

-- the node for an operator; 2 06 Y must be directly followed by an element in the same list (our
-- choice)
-- rule: 2-06-y-before-an-element, fault-22, fault-28, order-at-an-operator
abbrev pub operator_part : ℕ → ℕ → List ℕ → Result ExpandedPart TemplateFault
operator_part places d after = do
  _ ← unless (is_legal_operator d) (template.Operator d)
  _ ← unless (not (gives_width d) || begins_with_element after) (template.LocalShape d)
  _ ← with_places places 1 d
  Ok (part (operator d bare) 0)

-- The body of the group that begins with replication d, expanded from the first X descriptors of
-- `after`. It is a fault (our choice) if `after` has fewer than X descriptors, if the group is
-- nested too deeply, or if the body consumes no data bits. `own_places` is the number of cells in
-- the group, not counting those in the body (see `size`).
-- rule: replication-before-expansion, replication-nested, replication-in-one-list, fault-23
-- rule: fault-26, order-at-a-replication
abbrev pub body_of : Option Expansion → (places own_places d : ℕ) → List ℕ
    → Result Tree TemplateFault
body_of inner places own_places d after = do
  _ ← unless (nat_le (x_of d) (length after)) (template.GroupShape d)
  expand ← ok_or inner (template.Depth d)
  _ ← with_places places own_places d
  body ← expand (places + own_places) (take (x_of d) after)
  _ ← unless (consumes body) (template.EmptyGroup d)
  Ok body

-- the node for a fixed replication, which repeats the next X descriptors Y times
-- rule: fixed-replication
abbrev pub fixed_part : Option Expansion → ℕ → ℕ → List ℕ → Result ExpandedPart TemplateFault
fixed_part inner places d after = do
  body ← body_of inner places 2 d after
  Ok (part (fixed (y_of d) body bare) (x_of d))

-- the node for a delayed replication, which is followed by its factor and then by the X descriptors
-- that it repeats
-- rule: delayed-replication, fault-24, order-at-a-replication
abbrev pub delayed_part : Tables → Option Expansion → ℕ → ℕ → List ℕ
    → Result ExpandedPart TemplateFault
delayed_part tables inner places d [] = Err (template.NoFactor d)
delayed_part tables inner places d (factor ∷ after) = do
  _ ← unless (is_factor factor) (template.NoFactor d)
  _ ← unless (tables.known factor) (template.UnknownElement factor)
  body ← body_of inner places 3 d after
  Ok (part (delayed factor body bare) (1 + x_of d))

-- the node for a replication of X descriptors, which is delayed if Y is 0 and fixed otherwise
-- rule: fault-23, order-at-a-replication
abbrev pub group_part : Tables → Option Expansion → ℕ → ℕ → List ℕ
    → Result ExpandedPart TemplateFault
group_part tables inner places d after = do
  _ ← unless (nat_lt 0 (x_of d)) (template.GroupShape d)
  if y_of d == 0 then delayed_part tables inner places d after else fixed_part inner places d after

-- the nodes for a sequence, which must be in Table D and must not be nested too deeply
-- rule: fault-21, fault-26, order-at-a-sequence
abbrev pub sequence_part : Tables → Option Expansion → ℕ → ℕ → Result ExpandedPart TemplateFault
sequence_part tables inner places d = do
  members ← ok_or (tables.members d) (template.UnknownSequence d)
  expand ← ok_or inner (template.Depth d)
  tree ← expand places members
  Ok (part tree 0)

-- the nodes for one descriptor, expanded according to its F; `width_given` is true if 2 06 Y
-- directly precedes the descriptor
-- rule: descriptor-kinds
unfoldable pub part_of : Tables → Option Expansion → Bool → ℕ → ℕ → List ℕ
    → Result ExpandedPart TemplateFault
part_of tables inner width_given places d after =
    if f_of d == 0 then element_part tables width_given places d
    else if f_of d == 1 then group_part tables inner places d after
    else if f_of d == 2 then operator_part places d after
    else sequence_part tables inner places d

-- The nodes for a descriptor list, which is expanded from left to right, or the first fault. The
-- first `skip` descriptors are skipped because they belong to the preceding replication.
-- `width_given` is true if 2 06 Y directly precedes the list.
-- rule: first-descriptor-decides
unfoldable pub level : Tables → Option Expansion → (width_given : Bool) → (skip places : ℕ)
    → List ℕ → Result Tree TemplateFault
level tables inner width_given skip places [] = Ok bare
level tables inner width_given (suc skip) places (d ∷ after) =
    level tables inner width_given skip places after
level tables inner width_given zero places (d ∷ after) = do
  first ← part_of tables inner width_given places d after
  rest ← level tables inner (gives_width d) first.taken (places + size first.tree) after
  Ok (join first.tree rest)

-- the function that expands the list inside a group or sequence, or `None` if `room` (the number of
-- nesting levels that are still allowed) is 0
unfoldable pub inner_of : Tables → ℕ → Option Expansion
inner_of tables zero = None
inner_of tables (suc room) = Some (level tables (inner_of tables room) false 0)

-- The template for the descriptor list in section 3. The count of cells starts at 1, because the
-- end of the template also needs a cell. The template must consume data bits (our choice);
-- otherwise, the fault names the first descriptor, or 000000 if the list is empty.
-- rule: groups-take-bits, fault-25
unfoldable pub tree_of : Tables → List ℕ → Result Tree TemplateFault
tree_of tables list = do
  tree ← level tables (inner_of tables max_open) false 0 1 list
  _ ← unless (consumes tree) (template.EmptyGroup (slice_index list 0))
  Ok tree

-- ---- The tables that expansion uses.

-- the table lookups for the given rows of Table B and sequences of Table D
abbrev pub tables_of : List Row → List Sequence → Tables
tables_of b d = record { known = λ fxy. is_some (entry_of b fxy); members = members_of d }

-- ---- The kinds of descriptors in a template (FM 94 BUFR, section 3, Table C).

-- whether the first node of a tree is an element
abbrev pub is_element_first : Tree → Bool
is_element_first (element fxy rest) = true
is_element_first _ = false

-- Each descriptor is of the right kind for its node, and every operator is supported. Every 2 06 Y
-- is directly followed by an element.
abbrev pub IsLegal : Tree → Type 0
IsLegal bare = Unit {0}
IsLegal (element fxy rest) = (f_of fxy ≡ 0) × IsLegal rest
IsLegal (operator fxy rest) =
    (f_of fxy ≡ 2) × ((is_legal_operator fxy ≡ true)
    × ((gives_width fxy ≡ true → is_element_first rest ≡ true) × IsLegal rest))
IsLegal (fixed count body rest) = IsLegal body × IsLegal rest
IsLegal (delayed factor body rest) = (is_factor factor ≡ true) × (IsLegal body × IsLegal rest)

-- ---- The elements and operators in a list, with each sequence replaced by its members. (FM 94
-- BUFR, Table D)

-- the elements, operators and factors in a tree, in order
abbrev pub leaves : Tree → List ℕ
leaves bare = []
leaves (element fxy rest) = fxy ∷ leaves rest
leaves (operator fxy rest) = fxy ∷ leaves rest
leaves (fixed count body rest) = leaves body ++ leaves rest
leaves (delayed factor body rest) = factor ∷ (leaves body ++ leaves rest)

-- The second list contains the leaves of the first, in order. An element or operator adds itself, a
-- sequence adds the leaves of its members, and a replication adds nothing.
pub data ListsLeaves (members : ℕ → Option (List ℕ)) : List ℕ → List ℕ → Type 0 where
  says_nothing : ListsLeaves members [] []
  says_itself : (d : ℕ) (after said : List ℕ) → (f_of d ≡ 0) ⊎ (f_of d ≡ 2)
      → ListsLeaves members after said → ListsLeaves members (d ∷ after) (d ∷ said)
  says_replication : (d : ℕ) (after said : List ℕ) → f_of d ≡ 1 → ListsLeaves members after said
      → ListsLeaves members (d ∷ after) said
  says_sequence : (d : ℕ) (inner after inside said : List ℕ) → 3 ≤ f_of d → members d ≡ Some inner
      → ListsLeaves members inner inside → ListsLeaves members after said
      → ListsLeaves members (d ∷ after) (inside ++ said)

-- ---- Templates and groups must consume data bits (not part of FM 94 BUFR).

-- The body of every group consumes data bits, and no fixed replication has a count of 0.
abbrev pub EveryGroupConsumes : Tree → Type 0
EveryGroupConsumes bare = Unit {0}
EveryGroupConsumes (element fxy rest) = EveryGroupConsumes rest
EveryGroupConsumes (operator fxy rest) = EveryGroupConsumes rest
EveryGroupConsumes (fixed count body rest) =
    (0 < count) × ((consumes body ≡ true) × (EveryGroupConsumes body × EveryGroupConsumes rest))
EveryGroupConsumes (delayed factor body rest) =
    (consumes body ≡ true) × (EveryGroupConsumes body × EveryGroupConsumes rest)

-- The body of every group consumes data bits, and so does the template as a whole.
abbrev pub IsSound : Tree → Type 0
IsSound tree = EveryGroupConsumes tree × (consumes tree ≡ true)

-- ---- Elements that Table B must contain (FM 94 BUFR, Tables B and C).

-- Table B contains every factor, and every element that does not directly follow 2 06 Y.
-- `width_given` is true if 2 06 Y directly precedes the first node.
abbrev pub IsKnownAfter : (known : ℕ → Bool) → (width_given : Bool) → Tree → Type 0
IsKnownAfter known width_given bare = Unit {0}
IsKnownAfter known width_given (element fxy rest) =
    ((width_given || known fxy) ≡ true) × IsKnownAfter known false rest
IsKnownAfter known width_given (operator fxy rest) = IsKnownAfter known (gives_width fxy) rest
IsKnownAfter known width_given (fixed count body rest) =
    IsKnownAfter known false body × IsKnownAfter known false rest
IsKnownAfter known width_given (delayed factor body rest) =
    (known factor ≡ true) × (IsKnownAfter known false body × IsKnownAfter known false rest)

-- Table B contains every factor, and every element that does not directly follow 2 06 Y.
abbrev pub IsKnown : (known : ℕ → Bool) → Tree → Type 0
IsKnown known tree = IsKnownAfter known false tree
