-- Steps of the expansion: trees, cells that are converted back to trees, and one part at a time.
use Rattle.std.proofs.lemmas.Grind.{common_steps}
use Rattle.std.proofs.Common.{◌≡◌, max, Bool, true, false, ◌||◌, refl, ◌∙◌, ap, arith, ℕ, zero, suc, ◌+◌, ◌-◌, ◌<◌, List, [], ◌∷◌, drop, Option, Some, None, Result, Ok, Err, sym, sub-one, ◌++◌, length, subst, append_assoc, ◌≤◌, set, ◌≢◌, take, if◌then◌else◌, ◌==◌, ok_or, rules}
use Rattle.bufr_tables.specs.Prelude.{Tree, bare, element, operator, fixed, delayed, join, depth, consumes, is_inserted_text, gives_width, size, places, TemplateFault, Tables, Expansion, part, ◌>>=◌, part_of, level, inner_of, ExpandedPart, unless, with_places, body_of, sequence_part, element_part, group_part, operator_part, delayed_part, Cell, first_tree, cells_of, read_cells, trees_of_cells, AreCellsOf, IsTemplate, own_places, group_of, first_cell, factor_cells, BuilderModel, growth, places_so_far, push_tree, with_open_group, with_closed_group, PushesTree, PushesPart, IsFaultOrMemory, PushesTreeUnlessMemory, GivesPart, GivesGrowth, OpensGroup, f_of, x_of, y_of}
use Rattle.std.proofs.lemmas.List.{append-nil, length-append}
use Rattle.std.proofs.lemmas.Bool.Decides.{nat_tests}
use Rattle.std.proofs.Math.Seq.{set-append_seam}
use Rattle.bufr_tables.specs.declared.expand.Passes.{Passes}
use Rattle.bufr_tables.specs.declared.template.Cell.TheVariants as cell
use Rattle.bufr_tables.specs.declared.expand.Passes.TheVariants as passes
use Rattle.bufr_tables.specs.declared.fault.TemplateFault.TheVariants as fault

-- ---- Trees, one after another.

pub join_assoc : (a b c : Tree) → join (join a b) c ≡ join a (join b c)
join_assoc bare b c = refl
join_assoc (element fxy rest) b c = cc (join_assoc rest b c)
join_assoc (operator fxy rest) b c = cc (join_assoc rest b c)
join_assoc (fixed count body rest) b c = cc (join_assoc rest b c)
join_assoc (delayed factor body rest) b c = cc (join_assoc rest b c)

pub join-bare : (a : Tree) → join a bare ≡ a
join-bare bare = refl
join-bare (element fxy rest) = rw (join-bare rest) refl
join-bare (operator fxy rest) = cc (join-bare rest)
join-bare (fixed count body rest) = cc (join-bare rest)
join-bare (delayed factor body rest) = cc (join-bare rest)

pub depth-join : (a b : Tree) → depth (join a b) ≡ max (depth a) (depth b)
depth-join bare b = omega arith
depth-join (element fxy rest) b = depth-join rest b
depth-join (operator fxy rest) b = depth-join rest b
depth-join (fixed count body rest) b = omega (arith, depth-join rest b)
depth-join (delayed factor body rest) b = omega (arith, depth-join rest b)

pub or_assoc : (a b c : Bool) → (a || (b || c)) ≡ ((a || b) || c)
or_assoc true b c = refl
or_assoc false b c = refl

pub consumes-join : (a b : Tree) → consumes (join a b) ≡ (consumes a || consumes b)
consumes-join bare b = refl
consumes-join (element fxy rest) b = refl
consumes-join (operator fxy rest) b = ap (λ r. is_inserted_text fxy || r) (consumes-join rest b) ∙ or_assoc (is_inserted_text fxy) (consumes rest) (consumes b)
consumes-join (fixed count body rest) b = ap (λ r. consumes body || r) (consumes-join rest b) ∙ or_assoc (consumes body) (consumes rest) (consumes b)
consumes-join (delayed factor body rest) b = refl

-- a defined tree, after the nodes of another tree
abbrev pub prefixed : Tree → Result Tree TemplateFault → Result Tree TemplateFault
prefixed tree rest = rest >>= λ more. Ok (join tree more)

pub prefixed-prefixed : (a b : Tree) (rest : Result Tree TemplateFault) → prefixed a (prefixed b rest) ≡ prefixed (join a b) rest
prefixed-prefixed a b (Ok more) = ap Ok (sym (join_assoc a b more))
prefixed-prefixed a b (Err why) = refl

pub prefixed-bare : (rest : Result Tree TemplateFault) → prefixed bare rest ≡ rest
prefixed-bare (Ok more) = refl
prefixed-bare (Err why) = refl

pub level-skip : (tables : Tables) (inner : Option Expansion) (given : Bool) (skip places : ℕ) (list : List ℕ)
    → level tables inner given skip places list ≡ level tables inner given 0 places (drop skip list)
unfolding level
level-skip tables inner given zero places [] = refl
level-skip tables inner given (suc skip) places [] = refl
level-skip tables inner given zero places (d ∷ after) = refl
level-skip tables inner given (suc skip) places (d ∷ after) = level-skip tables inner given skip places after

-- a list whose first part is defined, and the remaining parts
pub level-part : (tables : Tables) (inner : Option Expansion) (given : Bool) (places d : ℕ) (after : List ℕ) (tree : Tree) (taken : ℕ)
    → part_of tables inner given places d after ≡ Ok (part tree taken)
    → level tables inner given 0 places (d ∷ after) ≡ prefixed tree (level tables inner (gives_width d) 0 (places + size tree) (drop taken after))
unfolding level
level-part tables inner given places d after tree taken h = grind (arith, level-skip)

pub level-fault : (tables : Tables) (inner : Option Expansion) (given : Bool) (places d : ℕ) (after : List ℕ) (why : TemplateFault) → part_of tables inner given places d after ≡ Err why
    → level tables inner given 0 places (d ∷ after) ≡ Err why
unfolding level
level-fault tables inner given places d after why h = cc

pub inner_of-room : (tables : Tables) (room : ℕ) → 0 < room → inner_of tables room ≡ Some (level tables (inner_of tables (room - 1)) false 0)
unfolding inner_of
inner_of-room tables zero h = absurd (omega arith)
inner_of-room tables (suc room) h = simp sub-one

pub inner_of-none : (tables : Tables) (room : ℕ) → room ≡ 0 → inner_of tables room ≡ None
unfolding inner_of
inner_of-none tables room h = cc

-- ---- Cells are converted back to the tree that they represent.

read_flattened : (t : Tree) (at : ℕ) (tail : List Cell) (x : Tree) (xs : List Tree) → read_cells tail ≡ x ∷ xs → read_cells (cells_of t at tail) ≡ join t x ∷ xs
read_flattened bare at tail x xs h = h
read_flattened (element fxy more) at tail x xs h = cc (read_flattened more (at + 1) tail x xs h)
read_flattened (operator fxy more) at tail x xs h = cc (read_flattened more (at + 1) tail x xs h)
read_flattened (fixed n body more) at tail x xs h =
    let suffix : List Cell = cell.PassEnd ∷ cells_of more (at + 2 + size body) tail in
    grind (arith, read_flattened body (at + 1) suffix bare (join more x ∷ xs) (ap (λ ts. bare ∷ ts) (read_flattened more (at + 2 + size body) tail x xs h)), join-bare)
read_flattened (delayed fxy body more) at tail x xs h =
    let suffix : List Cell = cell.PassEnd ∷ cells_of more (at + 3 + size body) tail in
    grind (arith, read_flattened body (at + 2) suffix bare (join more x ∷ xs) (ap (λ ts. bare ∷ ts) (read_flattened more (at + 3 + size body) tail x xs h)), join-bare)

pub raised_cells : (t : Tree) → trees_of_cells (cells_of t 0 (cell.Finish ∷ [])) ≡ t
raised_cells t = ap first_tree (read_flattened t 0 (cell.Finish ∷ []) bare [] refl) ∙ join-bare t

pub raised_flattened : (cells : List Cell) (t : Tree) → AreCellsOf cells t → trees_of_cells cells ≡ t
raised_flattened cells t h = ap trees_of_cells h.flattened ∙ raised_cells t

pub kept_raised : (cells : List Cell) (depth_reported : ℕ) (t : Tree) → IsTemplate cells depth_reported t → IsTemplate cells depth_reported (trees_of_cells cells)
kept_raised cells depth_reported t h = grind (arith, raised_flattened)

pub length-cells : (t : Tree) (at : ℕ) (tail : List Cell) → length (cells_of t at tail) ≡ size t + length tail
length-cells bare at tail = omega arith
length-cells (element fxy more) at tail = omega (arith, length-cells more (at + 1) tail)
length-cells (operator fxy more) at tail = omega (arith, length-cells more (at + 1) tail)
length-cells (fixed n body more) at tail =
    omega (arith, length-cells body (at + 1) (cell.PassEnd ∷ cells_of more (at + 2 + size body) tail), length-cells more (at + 2 + size body) tail)
length-cells (delayed fxy body more) at tail =
    omega (arith, length-cells body (at + 2) (cell.PassEnd ∷ cells_of more (at + 3 + size body) tail), length-cells more (at + 3 + size body) tail)

pub length-flattened : (cells : List Cell) (t : Tree) → AreCellsOf cells t → length cells ≡ places t
length-flattened cells t h = omega (arith, ap length h.flattened, length-cells t 0 (cell.Finish ∷ []))

pub length-kept : (cells : List Cell) (depth_reported : ℕ) (t : Tree) → IsTemplate cells depth_reported t → length cells ≡ places t
length-kept cells depth_reported t h = length-flattened cells t h.is_flattened

-- The tail comes after the cells of the group's body and of what follows the group.
cells_group : (body : Tree) (at : ℕ) (rest tail suffix : List Cell) → ((t : List Cell) → cells_of body at t ≡ cells_of body at [] ++ t) → suffix ≡ rest ++ tail
    → cells_of body at (cell.PassEnd ∷ suffix) ≡ cells_of body at (cell.PassEnd ∷ rest) ++ tail
cells_group body at rest tail suffix h e = grind (arith, common_steps)

pub cells-tail : (t : Tree) (at : ℕ) (tail : List Cell) → cells_of t at tail ≡ cells_of t at [] ++ tail
cells-tail bare at tail = refl
cells-tail (element fxy more) at tail = ap (λ l. cell.Element fxy ∷ l) (cells-tail more (at + 1) tail)
cells-tail (operator fxy more) at tail = ap (λ l. cell.Operator fxy ∷ l) (cells-tail more (at + 1) tail)
cells-tail (fixed n body more) at tail = cc (cells_group body (at + 1) (cells_of more (at + 2 + size body) []) tail (cells_of more (at + 2 + size body) tail) (cells-tail body (at + 1))
    (cells-tail more (at + 2 + size body) tail))
cells-tail (delayed fxy body more) at tail = cc (cells_group body (at + 2) (cells_of more (at + 3 + size body) []) tail (cells_of more (at + 3 + size body) tail) (cells-tail body (at + 2))
    (cells-tail more (at + 3 + size body) tail))

pub cells-join : (a b : Tree) (at : ℕ) (tail : List Cell) → cells_of (join a b) at tail ≡ cells_of a at (cells_of b (at + size a) tail)
cells-join bare b at tail = ap (λ k. cells_of b k tail) (omega arith)
cells-join (element fxy more) b at tail = ap (λ l. cell.Element fxy ∷ l) (cells-join more b (at + 1) tail ∙ ap (λ k. cells_of more (at + 1) (cells_of b k tail)) (omega arith))
cells-join (operator fxy more) b at tail = ap (λ l. cell.Operator fxy ∷ l) (cells-join more b (at + 1) tail ∙ ap (λ k. cells_of more (at + 1) (cells_of b k tail)) (omega arith))
cells-join (fixed n body more) b at tail =
    ap (λ l. cell.Fixed n (at + 2 + size body) ∷ cells_of body (at + 1) (cell.PassEnd ∷ l))
    (cells-join more b (at + 2 + size body) tail ∙ ap (λ k. cells_of more (at + 2 + size body) (cells_of b k tail)) (omega arith))
cells-join (delayed fxy body more) b at tail =
    ap (λ l. cell.Delayed (at + 3 + size body) ∷ cell.Factor fxy ∷ cells_of body (at + 2) (cell.PassEnd ∷ l))
    (cells-join more b (at + 3 + size body) tail ∙ ap (λ k. cells_of more (at + 3 + size body) (cells_of b k tail)) (omega arith))

-- ---- Cells that are followed by more cells.

pub same_growth : (c c' : List Cell) (n n' d d' : ℕ) (f f' : Bool) → c ≡ c' → n ≡ n' → d ≡ d' → f ≡ f' → growth c n d f ≡ growth c' n' d' f'
same_growth c c' n n' d d' f f' p q r s = cc

or_false : (a : Bool) → a ≡ (a || false)
or_false true = refl
or_false false = refl

or_true : (a : Bool) → true ≡ (a || true)
or_true true = refl
or_true false = refl

pub length-grow : (g : BuilderModel) (t : Tree) → length (push_tree g t).cells ≡ length g.cells + size t
length-grow g t = omega (arith, length-append g.cells (cells_of t (length g.cells) []), length-cells t (length g.cells) [])

pub places_of-grow : (g : BuilderModel) (t : Tree) → places_so_far (push_tree g t) ≡ places_so_far g + size t
places_of-grow g t = omega (arith, length-grow)

pub grow-bare : (g : BuilderModel) → g.groups ≤ g.deep → g ≡ push_tree g bare
grow-bare g h = search (rules, same_growth, append-nil, or_false)

pub grow-grow : (g : BuilderModel) (a b : Tree) → push_tree (push_tree g a) b ≡ push_tree g (join a b)
grow-grow g a b = grind (arith, append_assoc, length-grow, cells-tail, cells-join, depth-join, consumes-join)

-- The code's cells for a group, of which the first is set last, are those of the definition.
group_cells : (cells : List Cell) (p : Passes) (body : Tree) (place : ℕ) → place ≡ length cells
    → set (((cells ++ first_cell p 0 ∷ factor_cells p) ++ cells_of body (length (cells ++ first_cell p 0 ∷ factor_cells p)) []) ++ cell.PassEnd ∷ []) place
    (first_cell p (length cells + own_places p + size body))
    ≡ cells ++ cells_of (group_of p body) (length cells) []
group_cells cells p body place e = search (rules, length-append, append_assoc, set-append_seam, cells-tail)

pub length-begun : (g : BuilderModel) (p : Passes) → length (with_open_group g p).cells + 1 ≡ length g.cells + own_places p
length-begun g p = grind (arith, common_steps)

group_depth : (p : Passes) (body : Tree) → depth (group_of p body) ≡ 1 + depth body
group_depth (passes.Fixed count) body = omega arith
group_depth (passes.Delayed factor) body = omega arith

group_consumes : (p : Passes) (body : Tree) → consumes body ≡ true → true ≡ consumes (group_of p body)
group_consumes (passes.Fixed count) body h = cc
group_consumes (passes.Delayed factor) body h = refl

-- A group is opened, its body takes bits, and the group is closed.
pub ended-begun : (g : BuilderModel) (p : Passes) (body : Tree) (place : ℕ) → place ≡ length g.cells → consumes body ≡ true
    → with_closed_group (push_tree (with_open_group g p) body) place p ≡ push_tree g (group_of p body)
ended-begun g p body place e full =
    same_growth (with_closed_group (push_tree (with_open_group g p) body) place p).cells (push_tree g (group_of p body)).cells
    (with_closed_group (push_tree (with_open_group g p) body) place p).groups g.groups (with_closed_group (push_tree (with_open_group g p) body) place p).deep (push_tree g (group_of p body)).deep
    (with_closed_group (push_tree (with_open_group g p) body) place p).full (push_tree g (group_of p body)).full
    (ap (λ k. set ((push_tree (with_open_group g p) body).cells ++ cell.PassEnd ∷ []) place (first_cell p k))
    ((omega (arith, length-grow, length-begun)))
    ∙ group_cells g.cells p body place e)
    (omega arith)
    (omega (arith, group_depth))
    (full ∙ or_true g.full ∙ ap (λ c. g.full || c) (group_consumes p body full))

-- ---- The definition of one part, given what the code has found out.

-- Equal definitions of a part can replace each other.
pub gives_same : (g : BuilderModel) (a b : Result ExpandedPart TemplateFault) (answer : Result ℕ TemplateFault) (new : BuilderModel) → a ≡ b → GivesPart g a answer new → GivesPart g b answer new
gives_same g a b answer new e = subst (λ z. GivesPart g z answer new) e

pub puts_same : (old : BuilderModel) (a b : Result ExpandedPart TemplateFault) (taken : ℕ) (new : BuilderModel) → a ≡ b → PushesPart old a taken new → PushesPart old b taken new
puts_same old a b taken new e = subst (λ z. PushesPart old z taken new) e

-- one part, by the F of its descriptor
abbrev by_f : Tables → Option Expansion → Bool → (places d : ℕ) → List ℕ → (f : ℕ) → Result ExpandedPart TemplateFault
by_f tables inner given places d after f =
    if f == 0 then element_part tables given places d
    else if f == 1 then group_part tables inner places d after
    else if f == 2 then operator_part places d after
    else sequence_part tables inner places d

pub part-element : (tables : Tables) (inner : Option Expansion) (given : Bool) (places d : ℕ) (after : List ℕ) (f : ℕ) → f ≡ f_of d → f ≡ 0
    → element_part tables given places d ≡ part_of tables inner given places d after
unfolding part_of
part-element tables inner given places d after f e h = cc

pub part-group : (tables : Tables) (inner : Option Expansion) (given : Bool) (places d : ℕ) (after : List ℕ) (f : ℕ) → f ≡ f_of d → f ≡ 1
    → group_part tables inner places d after ≡ part_of tables inner given places d after
unfolding part_of
part-group tables inner given places d after f e h = cc

pub part-operator : (tables : Tables) (inner : Option Expansion) (given : Bool) (places d : ℕ) (after : List ℕ) (f : ℕ) → f ≡ f_of d → f ≡ 2
    → operator_part places d after ≡ part_of tables inner given places d after
unfolding part_of
part-operator tables inner given places d after f e h = cc

other_part : (tables : Tables) (inner : Option Expansion) (given : Bool) (places d : ℕ) (after : List ℕ) (f : ℕ) → f ≢ 0 → f ≢ 1 → f ≢ 2
    → sequence_part tables inner places d ≡ by_f tables inner given places d after f
other_part tables inner given places d after f h0 h1 h2 =
    let not_0 : (f == 0) ≡ false = grind (arith, nat_tests) in
    let not_1 : (f == 1) ≡ false = grind (arith, nat_tests) in
    let not_2 : (f == 2) ≡ false = grind (arith, nat_tests) in
    rw (not_0, not_1, not_2) refl

pub part-sequence : (tables : Tables) (inner : Option Expansion) (given : Bool) (places d : ℕ) (after : List ℕ) (f : ℕ) → f ≡ f_of d → f ≢ 0 → f ≢ 1 → f ≢ 2
    → sequence_part tables inner places d ≡ part_of tables inner given places d after
unfolding part_of
part-sequence tables inner given places d after f e h0 h1 h2 = cc (other_part tables inner given places d after f h0 h1 h2, e)

-- the remaining steps for a body, once its depth is known to be allowed
abbrev pub opened_body : Expansion → (places own d : ℕ) → List ℕ → Result Tree TemplateFault
opened_body expand places own d after =
    with_places places own d >>= λ _. expand (places + own) (take (x_of d) after) >>= λ body. unless (consumes body) (fault.EmptyGroup d) >>= λ _. Ok body

body_fits : (inner : Option Expansion) (places own d : ℕ) (after : List ℕ) → x_of d ≤ length after
    → body_of inner places own d after ≡ (ok_or inner (fault.Depth d) >>= λ expand. opened_body expand places own d after)
body_fits inner places own d after h = grind arith

-- the expansion of a body, if `room` allows another level
abbrev pub within : Tables → ℕ → Expansion
within tables room = level tables (inner_of tables (room - 1)) false 0

body_open : (tables : Tables) (room places own d : ℕ) (after : List ℕ) → 0 < room → x_of d ≤ length after
    → body_of (inner_of tables room) places own d after ≡ opened_body (within tables room) places own d after
body_open tables room places own d after r h = simp (body_fits, inner_of-room)

pub body-depth : (tables : Tables) (room places own d : ℕ) (after : List ℕ) → room ≡ 0 → x_of d ≤ length after → body_of (inner_of tables room) places own d after ≡ Err (fault.Depth d)
body-depth tables room places own d after r h = simp (body_fits, inner_of-none)

pub body-places : (tables : Tables) (room places own d : ℕ) (after : List ℕ) (why : TemplateFault) → 0 < room → x_of d ≤ length after → with_places places own d ≡ Err why
    → body_of (inner_of tables room) places own d after ≡ Err why
body-places tables room places own d after why r h e = grind (arith, body_open)

body_room : (tables : Tables) (room places own d : ℕ) (after : List ℕ) → 0 < room → x_of d ≤ length after → with_places places own d ≡ Ok tt
    → body_of (inner_of tables room) places own d after ≡ (within tables room (places + own) (take (x_of d) after) >>= λ body. unless (consumes body) (fault.EmptyGroup d) >>= λ _. Ok body)
body_room tables room places own d after r h e = grind (arith, body_open)

pub body-fault : (tables : Tables) (room places own d : ℕ) (after : List ℕ) (why : TemplateFault) → 0 < room → x_of d ≤ length after → with_places places own d ≡ Ok tt
    → within tables room (places + own) (take (x_of d) after) ≡ Err why → body_of (inner_of tables room) places own d after ≡ Err why
body-fault tables room places own d after why r h e f = grind (arith, body_room)

pub body-empty : (tables : Tables) (room places own d : ℕ) (after : List ℕ) (tree : Tree) → 0 < room → x_of d ≤ length after → with_places places own d ≡ Ok tt
    → within tables room (places + own) (take (x_of d) after) ≡ Ok tree → consumes tree ≡ false → body_of (inner_of tables room) places own d after ≡ Err (fault.EmptyGroup d)
body-empty tables room places own d after tree r h e f empty = grind (arith, body_room)

pub body-ok : (tables : Tables) (room places own d : ℕ) (after : List ℕ) (tree : Tree) → 0 < room → x_of d ≤ length after → with_places places own d ≡ Ok tt
    → within tables room (places + own) (take (x_of d) after) ≡ Ok tree → consumes tree ≡ true → body_of (inner_of tables room) places own d after ≡ Ok tree
body-ok tables room places own d after tree r h e f full = grind (arith, body_room)

sequence_listed : (tables : Tables) (inner : Option Expansion) (places d : ℕ) (members : List ℕ) → tables.members d ≡ Some members
    → sequence_part tables inner places d ≡ (ok_or inner (fault.Depth d) >>= λ expand. expand places members >>= λ tree. Ok (part tree 0))
sequence_listed tables inner places d members e = cc

pub sequence-depth : (tables : Tables) (room places d : ℕ) (members : List ℕ) → room ≡ 0 → tables.members d ≡ Some members → sequence_part tables (inner_of tables room) places d ≡ Err (fault.Depth d)
sequence-depth tables room places d members r e = grind (arith, inner_of-none)

sequence_open : (tables : Tables) (room places d : ℕ) (members : List ℕ) → 0 < room → tables.members d ≡ Some members
    → sequence_part tables (inner_of tables room) places d ≡ (within tables room places members >>= λ tree. Ok (part tree 0))
sequence_open tables room places d members r e = grind (arith, inner_of-room)

pub sequence-fault : (tables : Tables) (room places d : ℕ) (members : List ℕ) (why : TemplateFault) → 0 < room → tables.members d ≡ Some members
    → IsFaultOrMemory (within tables room places members) why → IsFaultOrMemory (sequence_part tables (inner_of tables room) places d) why
sequence-fault tables room places d members why r e refuses other = cc (sequence_open tables room places d members r e, refuses other)

pub sequence-ok : (tables : Tables) (room d : ℕ) (members : List ℕ) (old new : BuilderModel) → 0 < room → tables.members d ≡ Some members
    → PushesTree old (within tables room (places_so_far old) members) new → PushesPart old (sequence_part tables (inner_of tables room) (places_so_far old) d) 0 new
sequence-ok tables room d members old new r e puts = record {
  tree = puts.tree;
  is_defined = sequence_open tables room (places_so_far old) d members r e ∙ ap (λ z. z >>= λ tree. Ok (part tree 0)) puts.is_defined;
  is_put = puts.is_put;
}

-- the tree of a group, from the expansion of its body
abbrev pub grouped : Tables → ℕ → Passes → (places d : ℕ) → List ℕ → Result Tree TemplateFault
grouped tables room p places d after = body_of (inner_of tables room) places (own_places p) d after >>= λ body. Ok (group_of p body)

pub group-depth : (tables : Tables) (room : ℕ) (p : Passes) (places d : ℕ) (after : List ℕ) → room ≡ 0 → x_of d ≤ length after → grouped tables room p places d after ≡ Err (fault.Depth d)
group-depth tables room p places d after r h = grind (arith, body-depth)

pub group-places : (tables : Tables) (room : ℕ) (p : Passes) (places d : ℕ) (after : List ℕ) (why : TemplateFault) → 0 < room → x_of d ≤ length after
    → IsFaultOrMemory (with_places places (own_places p) d) why → IsFaultOrMemory (grouped tables room p places d after) why
group-places tables room p places d after why r h refuses other = cc (body-places tables room places (own_places p) d after why r h (refuses other))

-- The code expands the same body list as the definition.
same_list : (tables : Tables) (room : ℕ) (p : Passes) (d place : ℕ) (after : List ℕ) (old begun_one : BuilderModel) (count x : ℕ) (list : List ℕ) → OpensGroup old p d place begun_one
    → list ≡ take count after → count ≡ x → x ≡ x_of d → level tables (inner_of tables (room - 1)) false 0 (places_so_far begun_one) list
    ≡ within tables room (places_so_far old + own_places p) (take (x_of d) after)
same_list tables room p d place after old begun_one count x list begins el ec ex = grind (arith, common_steps)

pub group-list-fault : (tables : Tables) (room : ℕ) (p : Passes) (d place : ℕ) (after : List ℕ) (old begun_one : BuilderModel) (why : TemplateFault) (count x : ℕ) (list : List ℕ) → 0 < room
    → x_of d ≤ length after → OpensGroup old p d place begun_one → list ≡ take count after → count ≡ x → x ≡ x_of d
    → IsFaultOrMemory (level tables (inner_of tables (room - 1)) false 0 (places_so_far begun_one) list) why → IsFaultOrMemory (grouped tables room p (places_so_far old) d after) why
group-list-fault tables room p d place after old begun_one why count x list r h begins el ec ex refuses other =
    cc (body-fault tables room (places_so_far old) (own_places p) d after why r h begins.is_left
    (sym (same_list tables room p d place after old begun_one count x list begins el ec ex) ∙ refuses other))

-- The code and the definition agree on whether the body takes bits.
same_full : (old begun_one new : BuilderModel) (p : Passes) (d place : ℕ) (tree : Tree) → OpensGroup old p d place begun_one → new ≡ push_tree begun_one tree → new.full ≡ consumes tree
same_full old begun_one new p d place tree begins e = rw (e, begins.is_begun)

pub group-list-empty : (tables : Tables) (room : ℕ) (p : Passes) (d place : ℕ) (after : List ℕ) (old begun_one new : BuilderModel) (count x : ℕ) (list : List ℕ) → 0 < room → x_of d ≤ length after
    → OpensGroup old p d place begun_one → list ≡ take count after → count ≡ x → x ≡ x_of d
    → PushesTree begun_one (level tables (inner_of tables (room - 1)) false 0 (places_so_far begun_one) list) new → new.full ≡ false
    → grouped tables room p (places_so_far old) d after ≡ Err (fault.EmptyGroup d)
group-list-empty tables room p d place after old begun_one new count x list r h begins el ec ex puts empty = grind (arith, body-empty, same_list)

same_ok : (a b : BuilderModel) → ◌≡◌ {A = Result BuilderModel TemplateFault} (Ok a) (Ok b) → a ≡ b
same_ok a b h = cc

group-list-ok : (tables : Tables) (room : ℕ) (p : Passes) (d place : ℕ) (after : List ℕ) (old begun_one new last : BuilderModel) (count x : ℕ) (list : List ℕ) → 0 < room → x_of d ≤ length after
    → OpensGroup old p d place begun_one → list ≡ take count after → count ≡ x → x ≡ x_of d
    → PushesTree begun_one (level tables (inner_of tables (room - 1)) false 0 (places_so_far begun_one) list) new → new.full ≡ true → with_closed_group new place p ≡ last
    → PushesTree old (grouped tables room p (places_so_far old) d after) last
group-list-ok tables room p d place after old begun_one new last count x list r h begins el ec ex puts full is_ended =
    let takes_bits = sym (same_full old begun_one new p d place puts.tree begins puts.is_put) ∙ full in
    record {
      tree = group_of p puts.tree;
      is_defined = ap (λ z. z >>= λ body. Ok (group_of p body)) (body-ok tables room (places_so_far old) (own_places p) d after puts.tree r h begins.is_left
          (sym (same_list tables room p d place after old begun_one count x list begins el ec ex) ∙ puts.is_defined) takes_bits);
      is_put = sym is_ended ∙ ap (λ (g : BuilderModel). with_closed_group g place p) puts.is_put ∙ ap (λ (g : BuilderModel). with_closed_group (push_tree g puts.tree) place p) begins.is_begun
          ∙ ended-begun old p puts.tree place begins.is_at takes_bits;
    }

-- The result of a group is that of its last step.
pub group-closed : (tables : Tables) (room : ℕ) (p : Passes) (d place : ℕ) (after : List ℕ) (old begun_one new last : BuilderModel) (count x : ℕ) (list : List ℕ)
    (answer : Result (Unit {0}) TemplateFault) → 0 < room → x_of d ≤ length after → OpensGroup old p d place begun_one → list ≡ take count after → count ≡ x → x ≡ x_of d
    → PushesTree begun_one (level tables (inner_of tables (room - 1)) false 0 (places_so_far begun_one) list) new → new.full ≡ true → GivesGrowth (Ok (with_closed_group new place p)) answer last
    → PushesTreeUnlessMemory old (grouped tables room p (places_so_far old) d after) answer last
group-closed tables room p d place after old begun_one new last count x list (Ok done) r h begins el ec ex puts full is_ended = search (rules, group-list-ok, same_ok)
group-closed tables room p d place after old begun_one new last count x list (Err why) r h begins el ec ex puts full refuses = λ other. absurd (let e = refuses other in cc)

-- A replication with Y = 0 is a delayed one.
pub group-delayed : (tables : Tables) (inner : Option Expansion) (places d x y : ℕ) (after : List ℕ) → x ≡ x_of d → 0 < x → y ≡ y_of d → y ≤ 0
    → delayed_part tables inner places d after ≡ group_part tables inner places d after
group-delayed tables inner places d x y after ex some ey none = search (rules, nat_tests)

pub group-fixed-fault : (tables : Tables) (inner : Option Expansion) (places d y : ℕ) (after : List ℕ) (why : TemplateFault) → 0 < x_of d → 0 < y_of d
    → (body_of inner places 2 d after >>= λ body. Ok (group_of (passes.Fixed y) body)) ≡ Err why → group_part tables inner places d after ≡ Err why
group-fixed-fault tables inner places d y after why some more e = grind arith

-- ---- The progress of the expansion of one list.

-- Some nodes were pushed. The tree of the whole list is these nodes, followed by the tree of the
-- remaining list.
pub record Came (tables : Tables) (inner : Option Expansion) (list : List ℕ) (start : BuilderModel) (given : Bool) (rest : List ℕ) (now : BuilderModel) : Type 0 where
  pub tree : Tree
  pub is_put : now ≡ push_tree start tree
  pub leads : level tables inner false 0 (places_so_far start) list ≡ prefixed tree (level tables inner given 0 (places_so_far now) rest)

pub came_none : (tables : Tables) (inner : Option Expansion) (list : List ℕ) (start : BuilderModel) → start.groups ≤ start.deep → Came tables inner list start false list start
came_none tables inner list start h = record { tree = bare; is_put = grow-bare start h; leads = sym (prefixed-bare _) }

pub came_part : (tables : Tables) (inner : Option Expansion) (list : List ℕ) (start : BuilderModel) (given : Bool) (d : ℕ) (after : List ℕ) (now : BuilderModel) (taken : ℕ) (next : BuilderModel)
    → Came tables inner list start given (d ∷ after) now → PushesPart now (part_of tables inner given (places_so_far now) d after) taken next
    → Came tables inner list start (gives_width d) (drop taken after) next
came_part tables inner list start given d after now taken next came puts = record {
  tree = join came.tree puts.tree;
  is_put = puts.is_put ∙ ap (λ g. push_tree g puts.tree) came.is_put ∙ grow-grow start came.tree puts.tree;
  leads = came.leads ∙ ap (prefixed came.tree) (level-part tables inner given (places_so_far now) d after puts.tree taken puts.is_defined)
      ∙ prefixed-prefixed came.tree puts.tree (level tables inner (gives_width d) 0 (places_so_far now + size puts.tree) (drop taken after))
      ∙ ap (λ k. prefixed (join came.tree puts.tree) (level tables inner (gives_width d) 0 k (drop taken after)))
      (sym (ap (λ (g : BuilderModel). places_so_far g) puts.is_put ∙ places_of-grow now puts.tree));
}

pub came_fault : (tables : Tables) (inner : Option Expansion) (list : List ℕ) (start : BuilderModel) (given : Bool) (d : ℕ) (after : List ℕ) (now : BuilderModel) (why : TemplateFault)
    → Came tables inner list start given (d ∷ after) now → IsFaultOrMemory (part_of tables inner given (places_so_far now) d after) why
    → IsFaultOrMemory (level tables inner false 0 (places_so_far start) list) why
came_fault tables inner list start given d after now why came refuses other = cc (came.leads, level-fault tables inner given (places_so_far now) d after why (refuses other))

no_rest : (rest : List ℕ) → length rest ≡ 0 → rest ≡ []
no_rest [] h = refl
no_rest (d ∷ after) h = absurd (omega arith)

end_level : (tables : Tables) (inner : Option Expansion) (given : Bool) (places : ℕ) (rest : List ℕ) → length rest ≡ 0 → level tables inner given 0 places rest ≡ Ok bare
unfolding level
end_level tables inner given places rest h = cc (no_rest rest h)

pub came_end : (tables : Tables) (inner : Option Expansion) (list : List ℕ) (start : BuilderModel) (given : Bool) (rest : List ℕ) (now : BuilderModel) → length rest ≡ 0
    → Came tables inner list start given rest now → PushesTree start (level tables inner false 0 (places_so_far start) list) now
came_end tables inner list start given rest now h came = record {
  tree = came.tree;
  is_defined = came.leads ∙ ap (prefixed came.tree) (end_level tables inner given (places_so_far now) rest h) ∙ ap Ok (join-bare came.tree);
  is_put = came.is_put;
}
