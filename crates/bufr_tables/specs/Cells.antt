-- Only contracts need this file. The cells that store a template, and the conversion of these cells
-- back into a tree (not part of FM 94 BUFR).
use Rattle.std.specs.Prelude.{◌≡◌, ℕ, zero, suc, List, [], ◌∷◌, refl, ◌+◌, ◌≤◌}
use Rattle.std.proofs.Common.{◌∙◌, ap}
use Rattle.std.specs.Coded.{Coded, code_by, coded×, coded_ℕ, coded_list}
use Rattle.bufr_tables.specs.Tree.{Tree, bare, element, operator, fixed, delayed, size, places, depth}
use Rattle.bufr_tables.specs.declared.template.Cell.{Cell}
use Rattle.bufr_tables.specs.Expansion.{IsLegal, IsSound}
use Rattle.bufr_tables.specs.declared.template.Cell.TheVariants as cell

-- ---- The encoding of a tree as a list of pairs of numbers. The checker needs this encoding
-- because some contracts refer to trees.

-- The pairs that encode a tree, followed by the pairs in `more`. The pair for a group is followed
-- by the pairs for its body.
abbrev pub tree_code_onto : Tree → List (ℕ × ℕ) → List (ℕ × ℕ)
tree_code_onto bare more = (0, 0) ∷ more
tree_code_onto (element fxy rest) more = (1, fxy) ∷ tree_code_onto rest more
tree_code_onto (operator fxy rest) more = (2, fxy) ∷ tree_code_onto rest more
tree_code_onto (fixed count body rest) more = (3, count)
    ∷ tree_code_onto body (tree_code_onto rest more)
tree_code_onto (delayed factor body rest) more = (4, factor)
    ∷ tree_code_onto body (tree_code_onto rest more)

-- the stack of trees after pushing a node with the given kind and number; the node's body and
-- `rest` are popped first
abbrev pub put : ℕ → ℕ → List Tree → List Tree
put zero n trees = bare ∷ trees
put (suc zero) n (rest ∷ trees) = element n rest ∷ trees
put (suc (suc zero)) n (rest ∷ trees) = operator n rest ∷ trees
put (suc (suc (suc zero))) n (body ∷ rest ∷ trees) = fixed n body rest ∷ trees
put (suc (suc (suc (suc k)))) n (body ∷ rest ∷ trees) = delayed n body rest ∷ trees
put _ n trees = trees

-- the stack of trees after reading the pairs from last to first
abbrev pub read : List (ℕ × ℕ) → List Tree
read [] = []
read (node ∷ nodes) = put node.0 node.1 (read nodes)

pub read-written : (tree : Tree) (more : List (ℕ × ℕ)) → read (tree_code_onto tree more) ≡ tree
    ∷ read more
read-written bare more = refl
read-written (element fxy rest) more = ap (put 1 fxy) (read-written rest more)
read-written (operator fxy rest) more = ap (put 2 fxy) (read-written rest more)
read-written (fixed count body rest) more =
    ap (put 3 count)
    (read-written body (tree_code_onto rest more) ∙ ap (λ trees. body ∷ trees)
    (read-written rest more))
read-written (delayed factor body rest) more =
    ap (put 4 factor)
    (read-written body (tree_code_onto rest more) ∙ ap (λ trees. body ∷ trees)
    (read-written rest more))

abbrev pub first_tree : List Tree → Tree
first_tree [] = bare
first_tree (tree ∷ trees) = tree

abbrev pub tree_code : Coded Tree
tree_code =
    code_by (List (ℕ × ℕ)) (coded_list (coded× coded_ℕ coded_ℕ)) (λ tree. tree_code_onto tree [])
    (λ nodes. first_tree (read nodes)) (λ tree. ap first_tree (read-written tree []))

-- the cells of a tree whose first cell has index `at`, followed by the cells in `tail`
abbrev pub cells_of : Tree → ℕ → List Cell → List Cell
cells_of bare at tail = tail
cells_of (element fxy more) at tail = cell.Element fxy ∷ cells_of more (at + 1) tail
cells_of (operator fxy more) at tail = cell.Operator fxy ∷ cells_of more (at + 1) tail
cells_of (fixed n body more) at tail =
    cell.Fixed n (at + 2 + size body)
    ∷ cells_of body (at + 1) (cell.PassEnd ∷ cells_of more (at + 2 + size body) tail)
cells_of (delayed fxy body more) at tail =
    cell.Delayed (at + 3 + size body) ∷ cell.Factor fxy
    ∷ cells_of body (at + 2) (cell.PassEnd ∷ cells_of more (at + 3 + size body) tail)

-- the replication factor in the first cell, or 0 if the list does not begin with a factor
abbrev pub factor_first : List Cell → ℕ
factor_first (cell.Factor fxy ∷ cells) = fxy
factor_first _ = 0

-- the stack of trees after reading one more cell; `factor` is the replication factor in the
-- following cell, or 0 if no factor follows
abbrev pub prepend_cell : Cell → ℕ → List Tree → List Tree
prepend_cell cell.Finish factor trees = bare ∷ []
prepend_cell cell.PassEnd factor trees = bare ∷ trees
prepend_cell (cell.Element fxy) factor (rest ∷ trees) = element fxy rest ∷ trees
prepend_cell (cell.Operator fxy) factor (rest ∷ trees) = operator fxy rest ∷ trees
prepend_cell (cell.Fixed count after) factor (body ∷ rest ∷ trees) = fixed count body rest ∷ trees
prepend_cell (cell.Delayed after) factor (body ∷ rest ∷ trees) = delayed factor body rest ∷ trees
prepend_cell _ factor trees = trees

-- the stack of trees after reading the cells from last to first
abbrev pub read_cells : List Cell → List Tree
read_cells [] = []
read_cells (c ∷ cells) = prepend_cell c (factor_first cells) (read_cells cells)

-- the tree that the cells represent
abbrev pub trees_of_cells : List Cell → Tree
trees_of_cells cells = first_tree (read_cells cells)

-- The cells store the given tree, which is valid and does not exceed the limits for templates.
pub record AreCellsOf (cells : List Cell) (tree : Tree) : Type 0 where
  pub flattened : cells ≡ cells_of tree 0 (cell.Finish ∷ [])
  pub within : places tree ≤ 65535
  pub shallow : depth tree ≤ 32
  pub sound : IsSound tree
  pub legal : IsLegal tree

-- The cells store the given tree, and `depth_reported` is the tree's depth.
pub record IsTemplate (cells : List Cell) (depth_reported : ℕ) (tree : Tree) : Type 0 where
  pub is_flattened : AreCellsOf cells tree
  pub depth_is : depth_reported ≡ depth tree
