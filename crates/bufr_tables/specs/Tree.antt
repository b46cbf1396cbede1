-- A template, which is the tree that results from expanding a descriptor list (FM 94 BUFR, section
-- 3, Table C; the tree is our choice).
-- Cited by public contracts.
use Rattle.std.specs.Prelude.{ℕ, ◌+◌, ◌==◌, Bool, true, false, ◌||◌, max, nat_le, ◌&&◌, if◌then◌else◌}
use Rattle.bufr_tables.specs.Fxy.{x_of, f_of, y_of}

-- A list of nodes. `bare` is the empty list, and every other constructor puts a node before the
-- list `rest`. A fixed replication repeats its body `count` times. For a delayed replication, the
-- value of `factor` in the data is the number of repetitions.
pub data Tree : Type 0 where
  bare : Tree
  element : (fxy : ℕ) → (rest : Tree) → Tree
  operator : (fxy : ℕ) → (rest : Tree) → Tree
  fixed : (count : ℕ) → (body rest : Tree) → Tree
  delayed : (factor : ℕ) → (body rest : Tree) → Tree

-- the nodes of the first list, followed by those of the second list
abbrev pub join : Tree → Tree → Tree
join bare more = more
join (element fxy rest) more = element fxy (join rest more)
join (operator fxy rest) more = operator fxy (join rest more)
join (fixed count body rest) more = fixed count body (join rest more)
join (delayed factor body rest) more = delayed factor body (join rest more)

-- The number of cells needed to store the given nodes. Each element, operator, factor, group start
-- and group end needs one cell. A group is a replication with its body.
abbrev pub size : Tree → ℕ
size bare = 0
size (element fxy rest) = 1 + size rest
size (operator fxy rest) = 1 + size rest
size (fixed count body rest) = 2 + size body + size rest
size (delayed factor body rest) = 3 + size body + size rest

-- the number of cells in a whole template, including the one for its end
abbrev pub places : Tree → ℕ
places tree = 1 + size tree

-- the maximum nesting depth of groups
abbrev pub depth : Tree → ℕ
depth bare = 0
depth (element fxy rest) = depth rest
depth (operator fxy rest) = depth rest
depth (fixed count body rest) = max (1 + depth body) (depth rest)
depth (delayed factor body rest) = max (1 + depth body) (depth rest)

-- whether an operator is 2 05 Y, the only operator that inserts text (Y characters) into the data
abbrev pub is_inserted_text : ℕ → Bool
is_inserted_text fxy = x_of fxy == 5

-- Whether any of the nodes consumes data bits. Elements, inserted text and delayed groups (because
-- of their factors) consume data bits. A fixed group consumes data bits if its body does.
-- rule: groups-take-bits
abbrev pub consumes : Tree → Bool
consumes bare = false
consumes (element fxy rest) = true
consumes (operator fxy rest) = is_inserted_text fxy || consumes rest
consumes (fixed count body rest) = consumes body || consumes rest
consumes (delayed factor body rest) = true

-- ---- The operators that a template may contain, and their operands (FM 94 BUFR, Table C; the
-- seven operators and the bounds are our choice).

-- Whether the operator 2 X Y is supported. If X is 1, 2 or 8, Y can have any value. If X is 3, Y is
-- 1 to 63 (the width of redefined reference values), 255 (end) or 0 (cancel). If X is 5 or 6, Y is
-- at least 1. If X is 7, Y is at most 18 (our choice), because 2 07 019 alone would add 64 bits,
-- and a quantity can have at most 63. Other operators of Table C, such as 2 04, are rejected (our
-- choice).
-- rule: operators-known
abbrev pub has_legal_operand : ℕ → ℕ → Bool
has_legal_operand x y =
    if x == 3 then nat_le y 63 || y == 255
    else (if x == 5 || x == 6 then nat_le 1 y
    else (if x == 7 then nat_le y 18
    else (x == 1 || (x == 2 || x == 8))))

abbrev pub is_legal_operator : ℕ → Bool
is_legal_operator fxy = has_legal_operand (x_of fxy) (y_of fxy)

-- whether a descriptor is 2 06 Y, which specifies the data width of the next element
abbrev pub gives_width : ℕ → Bool
gives_width fxy = f_of fxy == 2 && x_of fxy == 6
