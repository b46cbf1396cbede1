-- Worked examples of the expansion, computed from the definitions.
use Rattle.std.proofs.Common.{◌≡◌, ℕ, Option, zero, suc, ◌+◌, ◌*◌, ◌==◌, ◌||◌, Bool, false, cond, List, [], ◌∷◌, length, Some, None, Result, Ok, Err, refl}
use Rattle.bufr_tables.specs.Prelude.{TemplateFault, Cell, f_of, y_of, cells_of, trees_of_cells, Tree, bare, element, operator, fixed, delayed, places, depth, Tables, tree_of, inner_of, level, part_of, ◌>>=◌}
use Rattle.bufr_tables.specs.declared.fault.TemplateFault.TheVariants as fault
use Rattle.bufr_tables.specs.declared.template.Cell.TheVariants as cell

-- the descriptor with this F, X and Y
abbrev fxy : ℕ → ℕ → ℕ → ℕ
fxy f x y = f * 16384 + (x * 256 + y)

is_one_of : List ℕ → ℕ → Bool
is_one_of [] d = false
is_one_of (e ∷ es) d = d == e || is_one_of es d

-- tables with a few elements and the sequence 3 60 192
tables : Tables
unfolding is_one_of
tables = record {
  known = is_one_of (fxy 0 1 1 ∷ fxy 0 1 15 ∷ fxy 0 5 2 ∷ fxy 0 12 101 ∷ fxy 0 20 3 ∷ fxy 0 31 0 ∷ fxy 0 31 1 ∷ fxy 0 31 2 ∷ []);
  members = λ d. cond (d == fxy 3 60 192) (Some (fxy 0 1 1 ∷ fxy 0 12 101 ∷ [])) None;
}

given : List ℕ → Result Tree TemplateFault
unfolding tables tree_of inner_of level part_of is_one_of
given list = tree_of tables list

-- the number of places, and the greatest number of groups around a node
measured : Result Tree TemplateFault → Result (ℕ × ℕ) TemplateFault
measured tree = tree >>= λ t. Ok (places t, depth t)

flattened : Result Tree TemplateFault → Result (List Cell) TemplateFault
flattened tree = tree >>= λ t. Ok (cells_of t 0 (cell.Finish ∷ []))

-- n replications, each of which passes once over all the descriptors after it, and an element
nested : ℕ → List ℕ
nested zero = fxy 0 1 1 ∷ []
nested (suc n) = fxy 1 (n + 1) 1 ∷ nested n

-- rule: delayed-replication, 2-06-y-unknown-element, descriptor-kinds, fixed-replication
-- rule: replication-before-expansion
trees :
    (given (fxy 0 1 1 ∷ []) ≡ Ok (element (fxy 0 1 1) bare))
    × (given (fxy 1 1 0 ∷ fxy 0 31 1 ∷ fxy 0 1 1 ∷ []) ≡ Ok (delayed (fxy 0 31 1) (element (fxy 0 1 1) bare) bare))
    × (given (fxy 1 1 0 ∷ fxy 0 31 0 ∷ fxy 0 1 1 ∷ []) ≡ Ok (delayed (fxy 0 31 0) (element (fxy 0 1 1) bare) bare))
    × (given (fxy 3 60 192 ∷ []) ≡ Ok (element (fxy 0 1 1) (element (fxy 0 12 101) bare)))
    × (given (fxy 2 6 12 ∷ fxy 0 63 255 ∷ []) ≡ Ok (operator (fxy 2 6 12) (element (fxy 0 63 255) bare)))
    × (given (fxy 1 1 2 ∷ fxy 3 60 192 ∷ fxy 0 20 3 ∷ []) ≡ Ok (fixed 2 (element (fxy 0 1 1) (element (fxy 0 12 101) bare)) (element (fxy 0 20 3) bare)))
unfolding given
trees = (refl, refl, refl, refl, refl, refl)

-- rule: delayed-replication, 2-06-y-before-an-element, operators-known, groups-take-bits
-- rule: replication-in-one-list
faults :
    (given (fxy 1 1 255 ∷ fxy 2 1 0 ∷ []) ≡ Err (fault.EmptyGroup (fxy 1 1 255)))
    × (given (fxy 2 1 0 ∷ []) ≡ Err (fault.EmptyGroup (fxy 2 1 0)))
    × (given [] ≡ Err (fault.EmptyGroup 0))
    × (given (fxy 0 63 255 ∷ []) ≡ Err (fault.UnknownElement (fxy 0 63 255)))
    × (given (nested 33) ≡ Err (fault.Depth (fxy 1 1 1)))
    × (given (fxy 1 2 2 ∷ fxy 0 1 1 ∷ []) ≡ Err (fault.GroupShape (fxy 1 2 2)))
    × (given (fxy 1 1 2 ∷ fxy 1 1 2 ∷ fxy 0 1 1 ∷ []) ≡ Err (fault.GroupShape (fxy 1 1 2)))
    × (given (fxy 1 1 0 ∷ fxy 0 1 1 ∷ []) ≡ Err (fault.NoFactor (fxy 1 1 0)))
    × (given (fxy 2 6 12 ∷ fxy 2 1 0 ∷ []) ≡ Err (fault.LocalShape (fxy 2 6 12)))
    × (given (fxy 1 1 2 ∷ fxy 2 6 12 ∷ fxy 0 63 255 ∷ []) ≡ Err (fault.LocalShape (fxy 2 6 12)))
    × (given (fxy 2 4 1 ∷ []) ≡ Err (fault.Operator (fxy 2 4 1)))
    × (given (fxy 3 0 1 ∷ []) ≡ Err (fault.UnknownSequence (fxy 3 0 1)))
unfolding given nested
faults = (refl, refl, refl, refl, refl, refl, refl, refl, refl, refl, refl, refl)

measures :
    (measured (given (fxy 1 1 0 ∷ fxy 0 31 1 ∷ fxy 0 1 1 ∷ [])) ≡ Ok (5, 1))
    × (measured (given (fxy 3 60 192 ∷ [])) ≡ Ok (3, 0))
    × (measured (given (fxy 1 3 0 ∷ fxy 0 31 1 ∷ fxy 1 1 0 ∷ fxy 0 31 1 ∷ fxy 0 1 1 ∷ [])) ≡ Ok (8, 2))
    × (measured (given (fxy 1 1 2 ∷ fxy 2 5 4 ∷ [])) ≡ Ok (4, 1))
    × (measured (given (nested 32)) ≡ Ok (66, 32))
    × ((flattened (given (nested 32)) >>= λ cells. Ok (length cells)) ≡ Ok 66)
unfolding given measured flattened nested
measures = (refl, refl, refl, refl, refl, refl)

-- a chain of seventeen sequences, each of which contains the next one twice; the last one contains
-- an element twice
doubled : ℕ → Option (List ℕ)
doubled d = cond (f_of d == 3) (cond (y_of d == 17) (Some (fxy 0 1 1 ∷ fxy 0 1 1 ∷ [])) (Some ((d + 1) ∷ (d + 1) ∷ []))) None

doubling_sequences : tree_of (record { known = λ d. d == fxy 0 1 1; members = doubled }) (fxy 3 0 1 ∷ []) ≡ Err (fault.TemplateSize (fxy 0 1 1))
unfolding doubled tree_of inner_of level part_of
doubling_sequences = refl

-- rule: replication-nested
cells :
    (flattened (given (fxy 0 1 1 ∷ [])) ≡ Ok (cell.Element (fxy 0 1 1) ∷ cell.Finish ∷ []))
    × (flattened (given (fxy 1 1 0 ∷ fxy 0 31 1 ∷ fxy 0 1 1 ∷ [])) ≡ Ok (cell.Delayed 4 ∷ cell.Factor (fxy 0 31 1) ∷ cell.Element (fxy 0 1 1) ∷ cell.PassEnd ∷ cell.Finish ∷ []))
    × (trees_of_cells (cell.Delayed 4 ∷ cell.Factor (fxy 0 31 1) ∷ cell.Element (fxy 0 1 1) ∷ cell.PassEnd ∷ cell.Finish ∷ []) ≡ delayed (fxy 0 31 1) (element (fxy 0 1 1) bare) bare)
    × (flattened (given (fxy 1 3 0 ∷ fxy 0 31 1 ∷ fxy 1 1 0 ∷ fxy 0 31 1 ∷ fxy 0 1 1 ∷ []))
    ≡ Ok (cell.Delayed 7 ∷ cell.Factor (fxy 0 31 1) ∷ cell.Delayed 6 ∷ cell.Factor (fxy 0 31 1) ∷ cell.Element (fxy 0 1 1) ∷ cell.PassEnd ∷ cell.PassEnd ∷ cell.Finish ∷ []))
    × (flattened (given (fxy 1 1 2 ∷ fxy 3 60 192 ∷ fxy 0 20 3 ∷ []))
    ≡ Ok (cell.Fixed 2 4 ∷ cell.Element (fxy 0 1 1) ∷ cell.Element (fxy 0 12 101) ∷ cell.PassEnd ∷ cell.Element (fxy 0 20 3) ∷ cell.Finish ∷ []))
    × (flattened (given (fxy 2 6 12 ∷ fxy 0 63 255 ∷ [])) ≡ Ok (cell.Operator (fxy 2 6 12) ∷ cell.Element (fxy 0 63 255) ∷ cell.Finish ∷ []))
unfolding given flattened
cells = (refl, refl, refl, refl, refl, refl)
