-- Worked examples of the lines that are the same in every subset, computed from the definitions.
use Rattle.std.proofs.Common.{◌≡◌, ◌<◌, ℕ, zero, suc, List, [], ◌∷◌, Ok, Some, arith, codes, refl}
use Rattle.bufr_walk.specs.Prelude.{PackedValues, Read, missing, number, unsigned_field}
use Rattle.bufr_text.specs.Prelude.{LineModel, PushesAlike, AreStretches, AreGathered, item_lines, lines_between}
use Rattle.bufr_text.proofs.PushLemmas.{holds_pushes}

-- two items: the first is missing in both subsets, the second only in the second subset
abbrev two_items : PackedValues
two_items = record {
  table = [];
  subsets = 2;
  items = record { spec = unsigned_field 257 7; content = missing ∷ missing ∷ [] } ∷ record { spec = unsigned_field 258 7; content = number 3 ∷ missing ∷ [] } ∷ [];
}

-- fails if a line lacks its line feed or has the wrong descriptor
lines_of_items : (item_lines [] (record { spec = unsigned_field 257 7; content = missing } ∷ []) ≡ codes "001001 MISSING\n") × (lines_between two_items 1 1 2 ≡ codes "001002 MISSING\n")
    × (lines_between two_items 1 1 1 ≡ [])
lines_of_items = (refl, refl, refl)

alike : (j : ℕ) → j < 2 → codes "001001 MISSING\n" ≡ lines_between two_items j 0 1
alike zero below = refl
alike (suc zero) below = refl
alike (suc (suc j)) below = absurd (omega (arith, below))

-- fails if the second item is left out, or if its lines count as shared
stretch_of_one : AreStretches two_items (codes "001001 MISSING\n") 0 0 (record { end = 15; from = 1; to = 2 } ∷ [])
stretch_of_one = (record { first = omega arith; order = omega arith; within = omega arith; start = omega arith; ends = omega arith; alike = alike }, omega arith)

-- The stretches of a reading cover all items.
stretch_too_short : AreStretches two_items (codes "001001 MISSING\n") 0 0 (record { end = 15; from = 1; to = 1 } ∷ []) → ⊥
stretch_too_short h = omega (arith, h.1)

-- Without stretches, the text does not matter.
none_gathered : (r : Read) (text : List ℕ) → AreGathered r text []
none_gathered r text p is some = absurd (omega (arith, some))

-- a writer of lines that has buffered a text
abbrev holding : List ℕ → LineModel
holding text = record { taken = Some []; failures = 0; empty_writes = 0; whole_writes = 0; flushes = record { made = 0; failed = 0 }; held = text; size = 0; status = Ok tt; sink = 0 }

-- fails if an item that differs between the subsets is pushed
pushes_one : PushesAlike two_items 0 1 (holding []) (holding (codes "001001 MISSING\n"))
pushes_one = record { order = omega arith; within = omega arith; pushes = holds_pushes refl refl refl refl refl refl refl refl refl; status = refl; alike = λ j below. same j below }
  where
    same : (j : ℕ) → j < 2 → lines_between two_items j 0 1 ≡ lines_between two_items 0 0 1
    same zero below = refl
    same (suc zero) below = refl
    same (suc (suc j)) below = absurd (omega (arith, below))
