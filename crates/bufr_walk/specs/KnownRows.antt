-- Only laws need this file. Table B contains every row that a walk needs (FM 94 BUFR, section 3).
use Rattle.std.specs.Prelude.{◌≡◌, true, false, List, [], ◌∷◌, Result, Ok, Err, is_some}
use Rattle.bufr_tables.specs.Prelude.{Row, entry_of, is_inserted_text}
use Rattle.bufr_walk.specs.Content.{Taken, FieldSpec}
use Rattle.bufr_walk.specs.Rules.{TurnRefusal, OperatorModel, after_operator, after_field, element_spec, factor_spec, inserted_spec}
use Rattle.bufr_walk.specs.Course.{Turns, finish, open_end, group, pass_end, factor_turn, element_turn, operator_turn}

-- If the field has already been read or written, its answer and the following answers satisfy
-- `holds`.
abbrev pub IfTaken : Result FieldSpec TurnRefusal → (Taken → List Taken → Type 0) → List Taken
    → Type 0
IfTaken (Err why) holds answers = Unit {0}
IfTaken (Ok spec) holds [] = Unit {0}
IfTaken (Ok spec) holds (t ∷ answers) = holds t answers

-- If the operator is not refused, the operators that are then in effect satisfy `holds`.
abbrev pub IfApplied : Result OperatorModel TurnRefusal → (OperatorModel → Type 0) → Type 0
IfApplied (Err why) holds = Unit {0}
IfApplied (Ok settings) holds = holds settings

-- Table B has a row for every replication factor and element that a walk reaches, given its steps
-- and answers. An element after 2 06 Y does not need a row.
abbrev pub HasRows : List Row → Turns → OperatorModel → List Taken → Type 0
HasRows table finish s answers = Unit {0}
HasRows table open_end s answers = Unit {0}
HasRows table (group next) s answers = HasRows table next s answers
HasRows table (pass_end next) s answers = HasRows table next s answers
HasRows table (factor_turn fxy next) s answers =
    (is_some (entry_of table fxy) ≡ true)
    × IfTaken (factor_spec table s fxy)
    (λ t more. HasRows table next (after_field s fxy t) more) answers
HasRows table (element_turn fxy next) s answers =
    (s.local_width ≡ 0 → is_some (entry_of table fxy) ≡ true)
    × IfTaken (element_spec table s fxy)
    (λ t more. HasRows table next (after_field s fxy t) more) answers
HasRows table (operator_turn fxy next) s answers =
    (is_inserted_text fxy ≡ true → IfTaken (inserted_spec s fxy)
    (λ t more. HasRows table next (after_field s fxy t) more) answers)
    × (is_inserted_text fxy ≡ false → IfApplied (after_operator s fxy)
    (λ s'. HasRows table next s' answers))
