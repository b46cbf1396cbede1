-- Properties of every tree that the expansion returns.
use Rattle.std.proofs.lemmas.Grind.{common_steps}
use Rattle.std.proofs.lemmas.Bool.Decides.{nat_tests}
use Rattle.std.proofs.Common.{◌≡◌, ◌≢◌, ℕ, zero, suc, ◌+◌, ◌<◌, ◌≤◌, ◌==◌, Bool, true, false, not, ◌&&◌, ◌||◌, List, [], ◌∷◌, length, take, Option, Some, None, Result, Ok, Err, refl, sym, ◌∙◌, ap, subst, arith, inl, inr, ◌++◌, drop, append_assoc, nat_le, nat_lt, ok_or, slice_index, if◌then◌else◌, rules}
use Rattle.std.proofs.lemmas.Bool.{ne_eqb, eqb-true}
use Rattle.bufr_tables.specs.Prelude.{TemplateFault, f_of, x_of, y_of, is_legal_operator, gives_width, Tree, bare, element, operator, fixed, delayed, join, size, depth, consumes, Tables, Expansion, ExpandedPart, part, ◌>>=◌, unless, with_places, is_factor, begins_with_element, element_part, operator_part, body_of, fixed_part, delayed_part, group_part, sequence_part, part_of, level, inner_of, tree_of, max_open, IsKnownAfter, IsKnown, IsLegal, is_element_first, EveryGroupConsumes, IsSound, leaves, ListsLeaves, says_nothing, says_itself, says_replication, says_sequence, Cell, cells_of, trees_of_cells, AreCellsOf, IsTemplate, BuilderModel, growth, places_so_far, push_tree, PushesTree, IsFaultOrMemory}
use Rattle.bufr_tables.proofs.ExpansionLemmas.{depth-join, part-element, cells-tail, length-cells, raised_flattened, part-group, part-operator, part-sequence}
use Rattle.std.proofs.lemmas.List.{append-nil, take-append-drop}
use Rattle.bufr_tables.specs.declared.fault.TemplateFault.TheVariants as fault
use Rattle.bufr_tables.specs.declared.template.Cell.TheVariants as cell

-- both steps of a sequence that succeeded
pub record Steps {A B : Type 0} (first : Result A TemplateFault) (next : A → Result B TemplateFault) (last : B) : Type 0 where
  pub middle : A
  pub first_is : first ≡ Ok middle
  pub then_is : next middle ≡ Ok last

pub steps : {A B : Type 0} (first : Result A TemplateFault) (next : A → Result B TemplateFault) (last : B) → (first >>= next) ≡ Ok last → Steps first next last
steps (Ok a) next last h = record { middle = a; first_is = refl; then_is = h }
steps (Err why) next last h = absurd cc

-- the same, if the first step is a test
pub record Tested {B : Type 0} (test : Bool) (next : Result B TemplateFault) (last : B) : Type 0 where
  pub met : test ≡ true
  pub then_is : next ≡ Ok last

pub tested : {B : Type 0} (test : Bool) (why : TemplateFault) (next : Result B TemplateFault) (last : B) → (unless test why >>= λ _. next) ≡ Ok last → Tested test next last
tested true why next last h = record { met = refl; then_is = h }
tested false why next last h = absurd cc

-- the properties of a tree with at most `room` groups around any node
pub record IsFine (known : ℕ → Bool) (room : ℕ) (given : Bool) (tree : Tree) : Type 0 where
  pub groups : EveryGroupConsumes tree
  pub is_known : IsKnownAfter known given tree
  pub legal : IsLegal tree
  pub shallow : depth tree ≤ room

fine-bare : (known : ℕ → Bool) (room : ℕ) (given : Bool) → IsFine known room given bare
fine-bare known room given = record { groups = tt; is_known = tt; legal = tt; shallow = omega arith }

or_true : (a : Bool) → a ≡ true → (given : Bool) → (given || a) ≡ true
or_true a h true = refl
or_true a h false = h

-- If the elements are known, they are also known after an operator that gives a width.
known_given : (known : ℕ → Bool) (given : Bool) (tree : Tree) → IsKnownAfter known false tree → IsKnownAfter known given tree
known_given known given bare h = tt
known_given known given (element fxy rest) h = (or_true (known fxy) h.0 given, h.1)
known_given known given (operator fxy rest) h = h
known_given known given (fixed count body rest) h = h
known_given known given (delayed factor body rest) h = h

known-join : (known : ℕ → Bool) (given : Bool) (a b : Tree) → IsKnownAfter known given a → IsKnownAfter known false b → IsKnownAfter known given (join a b)
known-join known given bare b h more = known_given known given b more
known-join known given (element fxy rest) b h more = (h.0, known-join known false rest b h.1 more)
known-join known given (operator fxy rest) b h more = known-join known (gives_width fxy) rest b h more
known-join known given (fixed count body rest) b h more = (h.0, known-join known false rest b h.1 more)
known-join known given (delayed factor body rest) b h more = (h.0, (h.1.0, known-join known false rest b h.1.1 more))

groups-join : (a b : Tree) → EveryGroupConsumes a → EveryGroupConsumes b → EveryGroupConsumes (join a b)
groups-join bare b h more = more
groups-join (element fxy rest) b h more = groups-join rest b h more
groups-join (operator fxy rest) b h more = groups-join rest b h more
groups-join (fixed count body rest) b h more = (h.0, (h.1.0, (h.1.1.0, groups-join rest b h.1.1.1 more)))
groups-join (delayed factor body rest) b h more = (h.0, (h.1.0, groups-join rest b h.1.1 more))

begins-join : (a b : Tree) → is_element_first a ≡ true → is_element_first (join a b) ≡ true
begins-join a b h = grind arith

legal-join : (a b : Tree) → IsLegal a → IsLegal b → IsLegal (join a b)
legal-join bare b h more = more
legal-join (element fxy rest) b h more = (h.0, legal-join rest b h.1 more)
legal-join (operator fxy rest) b h more = (h.0, (h.1.0, (λ given. begins-join rest b (h.1.1.0 given), legal-join rest b h.1.1.1 more)))
legal-join (fixed count body rest) b h more = (h.0, legal-join rest b h.1 more)
legal-join (delayed factor body rest) b h more = (h.0, (h.1.0, legal-join rest b h.1.1 more))

fine-join : (known : ℕ → Bool) (room : ℕ) (given : Bool) (a b : Tree) → IsFine known room given a → IsFine known room false b → IsFine known room given (join a b)
fine-join known room given a b h more = grind (arith, groups-join, known-join, legal-join, depth-join)

-- The inner expansion returns trees with these properties, and with less room.
abbrev pub IsInnerFine : (ℕ → Bool) → ℕ → Option Expansion → Type 0
IsInnerFine known room None = Unit {0}
IsInnerFine known room (Some expand) = (room' : ℕ) × (room' < room) × ((places : ℕ) (list : List ℕ) (tree : Tree) → expand places list ≡ Ok tree → IsFine known room' false tree)

no_width : (d f : ℕ) → f ≡ f_of d → f ≢ 2 → gives_width d ≡ false
no_width d f e h = cc (ne_eqb (f_of d) 2 (λ two. h (e ∙ two)))

fine_plainly : (known : ℕ → Bool) (room : ℕ) (given : Bool) (rest : Tree) → given ≡ false → IsFine known room given rest → IsFine known room false rest
fine_plainly known room given rest e = subst (λ g. IsFine known room g rest) e

pub part_is : (a b : ExpandedPart) → ◌≡◌ {A = Result ExpandedPart TemplateFault} (Ok a) (Ok b) → a ≡ b
part_is a b h = cc

-- an element, followed by the remaining list
element_joins : (tables : Tables) (room : ℕ) (given : Bool) (places d : ℕ) (first : ExpandedPart) (rest : Tree) → f_of d ≡ 0 → element_part tables given places d ≡ Ok first
    → IsFine tables.known room (gives_width d) rest → IsFine tables.known room given (join first.tree rest)
element_joins tables room given places d first rest f h fine =
    let known = tested (given || tables.known d) (fault.UnknownElement d) (with_places places 1 d >>= λ _. Ok (part (element d bare) 0)) first h in
    let sized = tested (nat_le (places + 1) 65535) (fault.TemplateSize d) (Ok (part (element d bare) 0)) first known.then_is in
    let e = part_is (part (element d bare) 0) first sized.then_is in
    let plain = fine_plainly tables.known room (gives_width d) rest (no_width d 0 (sym f) (omega arith)) fine in
    subst (λ (p : ExpandedPart). IsFine tables.known room given (join p.tree rest)) e
    (record { groups = plain.groups; is_known = (known.met, plain.is_known); legal = (f, plain.legal); shallow = plain.shallow })

or_met : (gives begins : Bool) → (not gives || begins) ≡ true → gives ≡ true → begins ≡ true
or_met gives begins h e = cc

-- an operator, followed by the remaining list
operator_joins : (known : ℕ → Bool) (room : ℕ) (given : Bool) (places d : ℕ) (after : List ℕ) (first : ExpandedPart) (rest : Tree) → f_of d ≡ 2 → operator_part places d after ≡ Ok first
    → (begins_with_element after ≡ true → first.taken ≡ 0 → is_element_first rest ≡ true) → IsFine known room (gives_width d) rest → IsFine known room given (join first.tree rest)
operator_joins known room given places d after first rest f h begins fine =
    let legal = tested (is_legal_operator d) (fault.Operator d) (unless (not (gives_width d) || begins_with_element after) (fault.LocalShape d) >>= λ _. with_places places 1 d >>= λ _. Ok
    (part (operator d bare) 0)) first h in
    let shaped = tested (not (gives_width d) || begins_with_element after) (fault.LocalShape d) (with_places places 1 d >>= λ _. Ok (part (operator d bare) 0)) first legal.then_is in
    let sized = tested (nat_le (places + 1) 65535) (fault.TemplateSize d) (Ok (part (operator d bare) 0)) first shaped.then_is in
    let e = part_is (part (operator d bare) 0) first sized.then_is in
    let begin : gives_width d ≡ true → is_element_first rest ≡ true =
    λ gives. begins (or_met (gives_width d) (begins_with_element after) shaped.met gives) (ap (λ (p : ExpandedPart). p.taken) (sym e)) in
    grind arith

-- the properties of a group's body
pub record IsFineBody (known : ℕ → Bool) (room : ℕ) (body : Tree) : Type 0 where
  pub fine : IsFine known room false body
  pub deeper : 1 + depth body ≤ room
  pub full : consumes body ≡ true

pub tree_is : (a b : Tree) → ◌≡◌ {A = Result Tree TemplateFault} (Ok a) (Ok b) → a ≡ b
tree_is a b h = cc

body_fine : (known : ℕ → Bool) (room : ℕ) (inner : Option Expansion) → IsInnerFine known room inner → (places own d : ℕ) (after : List ℕ) (body : Tree) → body_of inner places own d after ≡ Ok body
    → IsFineBody known room body
body_fine known room None fine places own d after body h = absurd (let t = (tested (nat_le (x_of d) (length after)) (fault.GroupShape d) (Err (fault.Depth d)) body h) in cc)
body_fine known room (Some expand) fine places own d after body h =
    let k : Tree → Result Tree TemplateFault = λ body. unless (consumes body) (fault.EmptyGroup d) >>= λ _. Ok body in
    let shaped = tested (nat_le (x_of d) (length after)) (fault.GroupShape d) (with_places places own d >>= λ _. expand (places + own) (take (x_of d) after) >>= k) body h in
    let sized = tested (nat_le (places + own) 65535) (fault.TemplateSize d) (expand (places + own) (take (x_of d) after) >>= k) body shaped.then_is in
    let two = steps (expand (places + own) (take (x_of d) after)) k body sized.then_is in
    let inside = fine.2 (places + own) (take (x_of d) after) two.middle two.first_is in
    grind arith

-- a fixed group, followed by the remaining list
fixed_joins : (known : ℕ → Bool) (room : ℕ) (inner : Option Expansion) → IsInnerFine known room inner → (given : Bool) (places d : ℕ) (after : List ℕ) (first : ExpandedPart) (rest : Tree)
    → 0 < y_of d → fixed_part inner places d after ≡ Ok first → IsFine known room false rest → IsFine known room given (join first.tree rest)
fixed_joins known room inner fine given places d after first rest y h plain =
    let two = steps (body_of inner places 2 d after) (λ body. Ok (part (fixed (y_of d) body bare) (x_of d))) first h in
    let body = body_fine known room inner fine places 2 d after two.middle two.first_is in
    grind arith

-- a delayed group, followed by the remaining list
delayed_joins : (tables : Tables) (room : ℕ) (inner : Option Expansion) → IsInnerFine tables.known room inner → (given : Bool) (places d : ℕ) (after : List ℕ) (first : ExpandedPart) (rest : Tree)
    → delayed_part tables inner places d after ≡ Ok first → IsFine tables.known room false rest → IsFine tables.known room given (join first.tree rest)
delayed_joins tables room inner fine given places d [] first rest h plain = absurd cc
delayed_joins tables room inner fine given places d (factor ∷ after) first rest h plain =
    let k : Tree → Result ExpandedPart TemplateFault = λ body. Ok (part (delayed factor body bare) (1 + x_of d)) in
    let factored = tested (is_factor factor) (fault.NoFactor d) (unless (tables.known factor) (fault.UnknownElement factor) >>= λ _. body_of inner places 3 d after >>= k) first h in
    let known = tested (tables.known factor) (fault.UnknownElement factor) (body_of inner places 3 d after >>= k) first factored.then_is in
    let two = steps (body_of inner places 3 d after) k first known.then_is in
    let body = body_fine tables.known room inner fine places 3 d after two.middle two.first_is in
    grind arith

by_y_joins : (y : ℕ) (tables : Tables) (room : ℕ) (inner : Option Expansion) → IsInnerFine tables.known room inner
    → (given : Bool) (places d : ℕ) (after : List ℕ) (first : ExpandedPart) (rest : Tree)
    → y ≡ y_of d → (if y == 0 then delayed_part tables inner places d after else fixed_part inner places d after) ≡ Ok first → IsFine tables.known room false rest
    → IsFine tables.known room given (join first.tree rest)
by_y_joins zero tables room inner fine given places d after first rest e h plain = delayed_joins tables room inner fine given places d after first rest h plain
by_y_joins (suc count) tables room inner fine given places d after first rest e h plain =
    let some : (suc count == 0) ≡ false = grind (arith, nat_tests) in
    fixed_joins tables.known room inner fine given places d after first rest (subst (λ n. 0 < n) e (omega arith)) (rw some at h) plain

-- a group of either kind, followed by the remaining list
group_joins : (tables : Tables) (room : ℕ) (inner : Option Expansion) → IsInnerFine tables.known room inner → (given : Bool) (places d : ℕ) (after : List ℕ) (first : ExpandedPart) (rest : Tree)
    → group_part tables inner places d after ≡ Ok first → IsFine tables.known room false rest → IsFine tables.known room given (join first.tree rest)
group_joins tables room inner fine given places d after first rest h plain =
    let shaped = tested (nat_lt 0 (x_of d)) (fault.GroupShape d) (if y_of d == 0 then delayed_part tables inner places d after else fixed_part inner places d after) first h in
    search (rules, by_y_joins)

-- a sequence, followed by the remaining list
sequence_joins : (tables : Tables) (room : ℕ) (inner : Option Expansion) → IsInnerFine tables.known room inner → (given : Bool) (places d : ℕ) (first : ExpandedPart) (rest : Tree)
    → sequence_part tables inner places d ≡ Ok first → IsFine tables.known room false rest → IsFine tables.known room given (join first.tree rest)
sequence_joins tables room None fine given places d first rest h plain =
    let two = steps (ok_or (tables.members d) (fault.UnknownSequence d)) (λ members. Err (fault.Depth d)) first h in
    absurd (let t = two.then_is in cc)
sequence_joins tables room (Some expand) fine given places d first rest h plain =
    let k : Tree → Result ExpandedPart TemplateFault = λ tree. Ok (part tree 0) in
    let members_or_none = steps (ok_or (tables.members d) (fault.UnknownSequence d)) (λ members. expand places members >>= k) first h in
    let two = steps (expand places members_or_none.middle) k first members_or_none.then_is in
    let e = part_is (part two.middle 0) first two.then_is in
    let inside = fine.2 places members_or_none.middle two.middle two.first_is in
    let own : IsFine tables.known room given two.middle = record {
      groups = inside.groups;
      is_known = known_given tables.known given two.middle inside.is_known;
      legal = inside.legal;
      shallow = omega (arith, inside.shallow, fine.1);
    } in
    subst (λ (p : ExpandedPart). IsFine tables.known room given (join p.tree rest)) e (fine-join tables.known room given two.middle rest own plain)

part_joins : (tables : Tables) (room : ℕ) (inner : Option Expansion) → IsInnerFine tables.known room inner
    → (given : Bool) (places d : ℕ) (after : List ℕ) (first : ExpandedPart) (rest : Tree) → part_of tables inner given places d after ≡ Ok first
    → (begins_with_element after ≡ true → first.taken ≡ 0 → is_element_first rest ≡ true) → IsFine tables.known room (gives_width d) rest → IsFine tables.known room given (join first.tree rest)
part_joins tables room inner fine given places d after first rest h begins more = by (f_of d) refl
  where
    by : (f : ℕ) → f ≡ f_of d → IsFine tables.known room given (join first.tree rest)
    by zero e = element_joins tables room given places d first rest (sym e) (part-element tables inner given places d after zero e refl ∙ h) more
    by (suc zero) e =
        group_joins tables room inner fine given places d after first rest (part-group tables inner given places d after 1 e refl ∙ h)
        (fine_plainly tables.known room (gives_width d) rest (no_width d 1 e (omega arith)) more)
    by (suc (suc zero)) e = operator_joins tables.known room given places d after first rest (sym e) (part-operator tables inner given places d after 2 e refl ∙ h) begins more
    by (suc (suc (suc f))) e =
        sequence_joins tables room inner fine given places d first rest
        (part-sequence tables inner given places d after (suc (suc (suc f))) e (λ x. omega arith) (λ x. omega arith) (λ x. omega arith) ∙ h)
        (fine_plainly tables.known room (gives_width d) rest (no_width d (suc (suc (suc f))) e (omega arith)) more)

-- A list that begins with an element has a tree that begins with an element.
level_begins : (tables : Tables) (inner : Option Expansion) (given : Bool) (places : ℕ) (after : List ℕ) (rest : Tree) → begins_with_element after ≡ true
    → level tables inner given 0 places after ≡ Ok rest → is_element_first rest ≡ true
unfolding level
level_begins tables inner given places [] rest b h = absurd cc
level_begins tables inner given places (d ∷ after) rest b h = grind (arith, common_steps, steps, part-element, eqb-true, tested, part_is, tree_is)

-- The tree of a list has these properties.
level_fine : (tables : Tables) (room : ℕ) (inner : Option Expansion) → IsInnerFine tables.known room inner → (given : Bool) (skip places : ℕ) (list : List ℕ) (tree : Tree)
    → level tables inner given skip places list ≡ Ok tree → IsFine tables.known room given tree
unfolding level
level_fine tables room inner fine given skip places [] tree h = subst (IsFine tables.known room given) (tree_is bare tree h) (fine-bare tables.known room given)
level_fine tables room inner fine given (suc skip) places (d ∷ after) tree h = level_fine tables room inner fine given skip places after tree h
level_fine tables room inner fine given zero places (d ∷ after) tree h =
    let k : ExpandedPart → Result Tree TemplateFault = λ first. level tables inner (gives_width d) first.taken (places + size first.tree) after >>= λ rest. Ok (join first.tree rest) in
    let one = steps (part_of tables inner given places d after) k tree h in
    let two = steps (level tables inner (gives_width d) one.middle.taken (places + size one.middle.tree) after) (λ rest. Ok (join one.middle.tree rest)) tree one.then_is in
    let more = level_fine tables room inner fine (gives_width d) one.middle.taken (places + size one.middle.tree) after two.middle two.first_is in
    let begins : begins_with_element after ≡ true → one.middle.taken ≡ 0 → is_element_first two.middle ≡ true =
    λ b none. level_begins tables inner (gives_width d) (places + size one.middle.tree) after two.middle b
    (ap (λ k. level tables inner (gives_width d) k (places + size one.middle.tree) after) (sym none) ∙ two.first_is) in
    subst (IsFine tables.known room given) (tree_is (join one.middle.tree two.middle) tree two.then_is)
    (part_joins tables room inner fine given places d after one.middle two.middle one.first_is begins more)

inner_fine : (tables : Tables) (room : ℕ) → IsInnerFine tables.known room (inner_of tables room)
unfolding inner_of
inner_fine tables zero = tt
inner_fine tables (suc room) = (room, omega arith, λ places list tree h. level_fine tables room (inner_of tables room) (inner_fine tables room) false 0 places list tree h)

-- the properties of the tree of a whole list, which also takes bits
pub record IsFineWhole (known : ℕ → Bool) (tree : Tree) : Type 0 where
  pub sound : IsSound tree
  pub is_known : IsKnown known tree
  pub legal : IsLegal tree
  pub shallow : depth tree ≤ 32

pub tree_fine : (tables : Tables) (list : List ℕ) (tree : Tree) → tree_of tables list ≡ Ok tree → IsFineWhole tables.known tree
unfolding tree_of
tree_fine tables list tree h =
    let k : Tree → Result Tree TemplateFault = λ tree. unless (consumes tree) (fault.EmptyGroup (slice_index list 0)) >>= λ _. Ok tree in
    let one = steps (level tables (inner_of tables max_open) false 0 1 list) k tree h in
    let fine = level_fine tables max_open (inner_of tables max_open) (inner_fine tables max_open) false 0 1 list one.middle one.first_is in
    grind arith

-- ---- The leaves of the expanded tree are those that the list describes.

pub leaves-join : (a b : Tree) → leaves (join a b) ≡ leaves a ++ leaves b
leaves-join bare b = refl
leaves-join (element fxy rest) b = ap (λ l. fxy ∷ l) (leaves-join rest b)
leaves-join (operator fxy rest) b = ap (λ l. fxy ∷ l) (leaves-join rest b)
leaves-join (fixed count body rest) b = ap (λ l. leaves body ++ l) (leaves-join rest b) ∙ sym (append_assoc (leaves body) (leaves rest) (leaves b))
leaves-join (delayed factor body rest) b = ap (λ l. factor ∷ l) (ap (λ l. leaves body ++ l) (leaves-join rest b) ∙ sym (append_assoc (leaves body) (leaves rest) (leaves b)))

-- two lists, one after the other
says-append : (members : ℕ → Option (List ℕ)) (a b said more : List ℕ) → ListsLeaves members a said → ListsLeaves members b more → ListsLeaves members (a ++ b) (said ++ more)
says-append members a b said more says_nothing h = h
says-append members a b said more (says_itself d after rest f s) h = says_itself d (after ++ b) (rest ++ more) f (says-append members after b rest more s h)
says-append members a b said more (says_replication d after rest f s) h = says_replication d (after ++ b) (rest ++ more) f (says-append members after b rest more s h)
says-append members a b said more (says_sequence d inner after inside rest f m i s) h =
    subst (ListsLeaves members (d ∷ (after ++ b))) (sym (append_assoc inside rest more))
    (says_sequence d inner (after ++ b) inside (rest ++ more) f m i (says-append members after b rest more s h))

-- The inner expansion returns a tree with the leaves of its list.
abbrev pub InnerSays : (ℕ → Option (List ℕ)) → Option Expansion → Type 0
InnerSays members None = Unit {0}
InnerSays members (Some expand) = (places : ℕ) (list : List ℕ) (tree : Tree) → expand places list ≡ Ok tree → ListsLeaves members list (leaves tree)

-- A part has the leaves of its descriptors.
abbrev PartSays : (ℕ → Option (List ℕ)) → ℕ → List ℕ → ExpandedPart → Type 0
PartSays members d after p = ListsLeaves members (d ∷ take p.taken after) (leaves p.tree)

element_says : (tables : Tables) (given : Bool) (places d : ℕ) (after : List ℕ) (first : ExpandedPart) → f_of d ≡ 0 → element_part tables given places d ≡ Ok first
    → PartSays tables.members d after first
element_says tables given places d after first f h =
    let known = tested (given || tables.known d) (fault.UnknownElement d) (with_places places 1 d >>= λ _. Ok (part (element d bare) 0)) first h in
    let sized = tested (nat_le (places + 1) 65535) (fault.TemplateSize d) (Ok (part (element d bare) 0)) first known.then_is in
    subst (PartSays tables.members d after) (part_is (part (element d bare) 0) first sized.then_is) (says_itself d [] [] (inl f) says_nothing)

operator_says : (members : ℕ → Option (List ℕ)) (places d : ℕ) (after : List ℕ) (first : ExpandedPart) → f_of d ≡ 2 → operator_part places d after ≡ Ok first → PartSays members d after first
operator_says members places d after first f h =
    let legal = tested (is_legal_operator d) (fault.Operator d) (unless (not (gives_width d) || begins_with_element after) (fault.LocalShape d) >>= λ _. with_places places 1 d >>= λ _. Ok
    (part (operator d bare) 0)) first h in
    let shaped = tested (not (gives_width d) || begins_with_element after) (fault.LocalShape d) (with_places places 1 d >>= λ _. Ok (part (operator d bare) 0)) first legal.then_is in
    let sized = tested (nat_le (places + 1) 65535) (fault.TemplateSize d) (Ok (part (operator d bare) 0)) first shaped.then_is in
    subst (PartSays members d after) (part_is (part (operator d bare) 0) first sized.then_is) (says_itself d [] [] (inr f) says_nothing)

body_says : (members : ℕ → Option (List ℕ)) (inner : Option Expansion) → InnerSays members inner → (places own d : ℕ) (after : List ℕ) (body : Tree) → body_of inner places own d after ≡ Ok body
    → ListsLeaves members (take (x_of d) after) (leaves body)
body_says members inner says places own d after body h = grind arith

fixed_says : (members : ℕ → Option (List ℕ)) (inner : Option Expansion) → InnerSays members inner → (places d : ℕ) (after : List ℕ) (first : ExpandedPart) → f_of d ≡ 1
    → fixed_part inner places d after ≡ Ok first → PartSays members d after first
fixed_says members inner says places d after first f h =
    let two = steps (body_of inner places 2 d after) (λ body. Ok (part (fixed (y_of d) body bare) (x_of d))) first h in
    subst (PartSays members d after) (part_is (part (fixed (y_of d) two.middle bare) (x_of d)) first two.then_is)
    (subst (ListsLeaves members (d ∷ take (x_of d) after)) (sym (append-nil (leaves two.middle)))
    (says_replication d (take (x_of d) after) (leaves two.middle) f (body_says members inner says places 2 d after two.middle two.first_is)))

first_of_and : (a b : Bool) → (a && b) ≡ true → a ≡ true
first_of_and true b h = refl
first_of_and false b h = h

take_factor : (factor n : ℕ) (after : List ℕ) → take (1 + n) (factor ∷ after) ≡ factor ∷ take n after
take_factor factor n after = grind arith

delayed_says : (tables : Tables) (inner : Option Expansion) → InnerSays tables.members inner → (places d : ℕ) (after : List ℕ) (first : ExpandedPart) → f_of d ≡ 1
    → delayed_part tables inner places d after ≡ Ok first → PartSays tables.members d after first
delayed_says tables inner says places d [] first f h = absurd cc
delayed_says tables inner says places d (factor ∷ after) first f h =
    let k : Tree → Result ExpandedPart TemplateFault = λ body. Ok (part (delayed factor body bare) (1 + x_of d)) in
    let factored = tested (is_factor factor) (fault.NoFactor d) (unless (tables.known factor) (fault.UnknownElement factor) >>= λ _. body_of inner places 3 d after >>= k) first h in
    let known = tested (tables.known factor) (fault.UnknownElement factor) (body_of inner places 3 d after >>= k) first factored.then_is in
    let two = steps (body_of inner places 3 d after) k first known.then_is in
    let is_element = eqb-true (f_of factor) 0 (first_of_and (f_of factor == 0) (x_of factor == 31 && nat_le (y_of factor) 2) factored.met) in
    let own = says_itself factor (take (x_of d) after) (leaves two.middle) (inl is_element) (body_says tables.members inner says places 3 d after two.middle two.first_is) in
    subst (PartSays tables.members d (factor ∷ after)) (part_is (part (delayed factor two.middle bare) (1 + x_of d)) first two.then_is)
    (subst (λ l. ListsLeaves tables.members (d ∷ l) (factor ∷ (leaves two.middle ++ []))) (sym (take_factor factor (x_of d) after))
    (subst (λ l. ListsLeaves tables.members (d ∷ (factor ∷ take (x_of d) after)) (factor ∷ l)) (sym (append-nil (leaves two.middle)))
    (says_replication d (factor ∷ take (x_of d) after) (factor ∷ leaves two.middle) f own)))

by_y_says : (y : ℕ) (tables : Tables) (inner : Option Expansion) → InnerSays tables.members inner → (places d : ℕ) (after : List ℕ) (first : ExpandedPart) → f_of d ≡ 1
    → (if y == 0 then delayed_part tables inner places d after else fixed_part inner places d after) ≡ Ok first → PartSays tables.members d after first
by_y_says y tables inner says places d after first f h = search (rules, delayed_says, fixed_says)

group_says : (tables : Tables) (inner : Option Expansion) → InnerSays tables.members inner → (places d : ℕ) (after : List ℕ) (first : ExpandedPart) → f_of d ≡ 1
    → group_part tables inner places d after ≡ Ok first → PartSays tables.members d after first
group_says tables inner says places d after first f h =
    let shaped = tested (nat_lt 0 (x_of d)) (fault.GroupShape d) (if y_of d == 0 then delayed_part tables inner places d after else fixed_part inner places d after) first h in
    by_y_says (y_of d) tables inner says places d after first f shaped.then_is

listed_is : (o : Option (List ℕ)) (d : ℕ) (members : List ℕ) → ok_or o (fault.UnknownSequence d) ≡ Ok members → o ≡ Some members
listed_is (Some list) d members h = cc
listed_is None d members h = absurd cc

sequence_says : (tables : Tables) (inner : Option Expansion) → InnerSays tables.members inner → (places d : ℕ) (after : List ℕ) (first : ExpandedPart) → 3 ≤ f_of d
    → sequence_part tables inner places d ≡ Ok first → PartSays tables.members d after first
sequence_says tables None says places d after first f h =
    let two = steps (ok_or (tables.members d) (fault.UnknownSequence d)) (λ members. Err (fault.Depth d)) first h in
    absurd (let t = two.then_is in cc)
sequence_says tables (Some expand) says places d after first f h =
    let k : Tree → Result ExpandedPart TemplateFault = λ tree. Ok (part tree 0) in
    let members_or_none = steps (ok_or (tables.members d) (fault.UnknownSequence d)) (λ members. expand places members >>= k) first h in
    let two = steps (expand places members_or_none.middle) k first members_or_none.then_is in
    subst (PartSays tables.members d after) (part_is (part two.middle 0) first two.then_is)
    (subst (ListsLeaves tables.members (d ∷ [])) (append-nil (leaves two.middle))
    (says_sequence d members_or_none.middle [] (leaves two.middle) [] f (listed_is (tables.members d) d members_or_none.middle members_or_none.first_is)
    (says places members_or_none.middle two.middle two.first_is) says_nothing))

part_says : (tables : Tables) (inner : Option Expansion) → InnerSays tables.members inner → (given : Bool) (places d : ℕ) (after : List ℕ) (first : ExpandedPart)
    → part_of tables inner given places d after ≡ Ok first → PartSays tables.members d after first
part_says tables inner says given places d after first h = by (f_of d) refl
  where
    by : (f : ℕ) → f ≡ f_of d → PartSays tables.members d after first
    by zero e = element_says tables given places d after first (sym e) (part-element tables inner given places d after zero e refl ∙ h)
    by (suc zero) e = group_says tables inner says places d after first (sym e) (part-group tables inner given places d after 1 e refl ∙ h)
    by (suc (suc zero)) e = operator_says tables.members places d after first (sym e) (part-operator tables inner given places d after 2 e refl ∙ h)
    by (suc (suc (suc f))) e =
        sequence_says tables inner says places d after first (rw (← e) (omega arith))
        (part-sequence tables inner given places d after (suc (suc (suc f))) e (λ x. omega arith) (λ x. omega arith) (λ x. omega arith) ∙ h)

level_says : (tables : Tables) (inner : Option Expansion) → InnerSays tables.members inner → (given : Bool) (skip places : ℕ) (list : List ℕ) (tree : Tree)
    → level tables inner given skip places list ≡ Ok tree → ListsLeaves tables.members (drop skip list) (leaves tree)
unfolding level
level_says tables inner says given zero places [] tree h = subst (λ t. ListsLeaves tables.members [] (leaves t)) (tree_is bare tree h) says_nothing
level_says tables inner says given (suc skip) places [] tree h = subst (λ t. ListsLeaves tables.members [] (leaves t)) (tree_is bare tree h) says_nothing
level_says tables inner says given (suc skip) places (d ∷ after) tree h = level_says tables inner says given skip places after tree h
level_says tables inner says given zero places (d ∷ after) tree h =
    let k : ExpandedPart → Result Tree TemplateFault = λ first. level tables inner (gives_width d) first.taken (places + size first.tree) after >>= λ rest. Ok (join first.tree rest) in
    let one = steps (part_of tables inner given places d after) k tree h in
    let two = steps (level tables inner (gives_width d) one.middle.taken (places + size one.middle.tree) after) (λ rest. Ok (join one.middle.tree rest)) tree one.then_is in
    let here = part_says tables inner says given places d after one.middle one.first_is in
    let more = level_says tables inner says (gives_width d) one.middle.taken (places + size one.middle.tree) after two.middle two.first_is in
    let both = says-append tables.members (d ∷ take one.middle.taken after) (drop one.middle.taken after) (leaves one.middle.tree) (leaves two.middle) here more in
    grind (arith, common_steps, tree_is, leaves-join, take-append-drop)

inner_says : (tables : Tables) (room : ℕ) → InnerSays tables.members (inner_of tables room)
unfolding inner_of
inner_says tables zero = tt
inner_says tables (suc room) = λ places list tree h. level_says tables (inner_of tables room) (inner_says tables room) false 0 places list tree h

-- The tree of a whole list has the leaves of the list.
pub tree_says : (tables : Tables) (list : List ℕ) (tree : Tree) → tree_of tables list ≡ Ok tree → ListsLeaves tables.members list (leaves tree)
unfolding tree_of
tree_says tables list tree h =
    let k : Tree → Result Tree TemplateFault = λ tree. unless (consumes tree) (fault.EmptyGroup (slice_index list 0)) >>= λ _. Ok tree in
    let one = steps (level tables (inner_of tables max_open) false 0 1 list) k tree h in
    let full = tested (consumes one.middle) (fault.EmptyGroup (slice_index list 0)) (Ok one.middle) tree one.then_is in
    subst (λ t. ListsLeaves tables.members list (leaves t)) (tree_is one.middle tree full.then_is)
    (level_says tables (inner_of tables max_open) (inner_says tables max_open) false 0 1 list one.middle one.first_is)

-- An empty list has the same fault with every table set.
pub nothing-answered : (tables : Tables) → tree_of tables [] ≡ Err (fault.EmptyGroup 0)
unfolding tree_of level
nothing-answered tables = refl

-- ---- The expansion of a whole list.

-- the check of the definition that follows the expansion of the list
after_list : List ℕ → Result Tree TemplateFault → Result Tree TemplateFault
after_list list expanded = expanded >>= λ tree. unless (consumes tree) (fault.EmptyGroup (slice_index list 0)) >>= λ _. Ok tree

-- The code starts the list with the same number of places as the definition.
same_start : (tables : Tables) (list : List ℕ) (start : BuilderModel) → start ≡ growth [] 0 0 false
    → level tables (inner_of tables max_open) false 0 1 list ≡ level tables (inner_of tables max_open) false 0 (places_so_far start) list
same_start tables list start e = cc

pub whole-fault : (tables : Tables) (list : List ℕ) (start : BuilderModel) (why : TemplateFault) → start ≡ growth [] 0 0 false
    → IsFaultOrMemory (level tables (inner_of tables max_open) false 0 (places_so_far start) list) why → IsFaultOrMemory (tree_of tables list) why
unfolding tree_of after_list
whole-fault tables list start why e refuses other = ap (after_list list) (same_start tables list start e ∙ refuses other)

-- the builder after a tree is pushed onto an empty one
put_tree : (start new : BuilderModel) (tree : Tree) → start ≡ growth [] 0 0 false → new ≡ push_tree start tree → new ≡ growth (cells_of tree 0 []) 0 (depth tree) (consumes tree)
put_tree start new tree es e = grind arith

pub whole-empty : (tables : Tables) (list : List ℕ) (start new : BuilderModel) (first : ℕ) → start ≡ growth [] 0 0 false
    → PushesTree start (level tables (inner_of tables max_open) false 0 (places_so_far start) list) new → new.full ≡ false → first ≡ slice_index list 0
    → tree_of tables list ≡ Err (fault.EmptyGroup first)
unfolding tree_of after_list
whole-empty tables list start new first es puts empty ef = cc

-- The tree of the list is defined, and the builder has its cells.
pub record IsWhole (tables : Tables) (list : List ℕ) (new : BuilderModel) : Type 0 where
  pub tree : Tree
  pub is_defined : tree_of tables list ≡ Ok tree
  pub cells_are : new.cells ≡ cells_of tree 0 []
  pub groups_are : new.groups ≡ 0
  pub depth_is : new.deep ≡ depth tree

pub whole-ok : (tables : Tables) (list : List ℕ) (start new : BuilderModel) → start ≡ growth [] 0 0 false
    → PushesTree start (level tables (inner_of tables max_open) false 0 (places_so_far start) list) new → new.full ≡ true → IsWhole tables list new
unfolding tree_of after_list
whole-ok tables list start new es puts full =
    let tree_is = put_tree start new puts.tree es puts.is_put in
    record {
      tree = puts.tree;
      is_defined = ap (after_list list) (same_start tables list start es ∙ puts.is_defined)
          ∙ ap (λ b. unless b (fault.EmptyGroup (slice_index list 0)) >>= λ _. Ok puts.tree) (ap (λ (g : BuilderModel). g.full) (sym tree_is) ∙ full);
      cells_are = ap (λ (g : BuilderModel). g.cells) tree_is;
      groups_are = ap (λ (g : BuilderModel). g.groups) tree_is;
      depth_is = ap (λ (g : BuilderModel). g.deep) tree_is;
    }

whole-flattened : (tables : Tables) (list : List ℕ) (new : BuilderModel) (cells : List Cell) (whole : IsWhole tables list new) → cells ≡ new.cells ++ cell.Finish ∷ []
    → length new.cells + new.groups < 65535 → AreCellsOf cells whole.tree
whole-flattened tables list new cells whole e within =
    let fine = tree_fine tables list whole.tree whole.is_defined in
    search (rules, cells-tail, length-cells)

-- The cells are a template, and their tree is the one defined for the list.
pub record IsBuilt (tables : Tables) (list : List ℕ) (cells : List Cell) (depth_reported : ℕ) : Type 0 where
  pub is_kept : IsTemplate cells depth_reported (trees_of_cells cells)
  pub is_defined : tree_of tables list ≡ Ok (trees_of_cells cells)

-- The end of the template is appended to the cells.
pub whole-built : (tables : Tables) (list : List ℕ) (new : BuilderModel) (cells : List Cell) → IsWhole tables list new → cells ≡ new.cells ++ cell.Finish ∷ [] → length new.cells + new.groups < 65535
    → IsBuilt tables list cells new.deep
whole-built tables list new cells whole e within =
    let flattened = whole-flattened tables list new cells whole e within in
    grind (arith, raised_flattened)
