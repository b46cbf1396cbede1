-- Each field that comes next in a legal template has a valid spec and a 16-bit descriptor.
use Rattle.std.proofs.lemmas.Grind.{common_steps}
use Rattle.bufr_walk.proofs.SpecLemmas.{listed_by, factor_by, text_good, product_small, inserted_width}
use Rattle.bufr_tables.proofs.TableBLemmas.{row-limits}
use Rattle.std.proofs.lemmas.Bool.{eqb-true, leb-true}
use Rattle.bufr_tables.specs.Prelude.{f_of, fxy_of, is_factor, IsRow, Row, allows_width, entry_of, kind_of, AreRows, element_of, plain_of, row_of, scale_of, width_of, is_legal_operator, has_legal_operand, Tree, bare, element, operator, fixed, delayed, is_inserted_text, x_of, y_of, IsLegal, i64_of, Record, field_of, only_if, natural_of}
use Rattle.bufr_walk.specs.declared.spec.Taken.{Taken}
use Rattle.bufr_walk.specs.Prelude.{OperatorModel, Redefined, current_reference, is_defining, if_valid_width, scale_change_of, numeric_spec, coded_spec, spec_by_kind, new_reference_spec, unsigned_field, begin, local_width_spec, element_spec, factor_field, factor_spec, with_references, with_operator, after_operator, after_field, with_reference, inserted_spec, Turns, finish, open_end, group, pass_end, factor_turn, element_turn, operator_turn, Rest, passes, unroll, turns_of, take_next, asked, operated, ahead, next_item, counts_of, FieldSpec, IsSpec, HasWidth, Course, IsField, IsWithin, AreWithin, Next}
use Rattle.std.proofs.Common.{ℕ, suc, ◌+◌, ◌*◌, ◌%◌, ◌&&◌, Bool, false, Option, Some, None, Result, Ok, Err, refl, subst, arith, ℤ, pos, ◌+ℤ◌, zero, not, map, ◌≡◌, ◌≤◌, ◌<◌, ◌/◌, ◌^◌, true, List, [], ◌∷◌, unsigned_abs, ◌==◌, nat_le, nat_lt, if◌then◌else◌, rules, neg_ℤ, option_and_then, drop, slice_index}
use Rattle.std.specs.List.{find, AllByRecursion}
use Rattle.bufr_bits.proofs.DecimalLemmas.{and_first, and_second}
use Rattle.bufr_tables.specs.declared.table_b.Kind.{Kind}
use Rattle.bufr_walk.specs.declared.spec.TurnRefusal.{TurnRefusal}
use Rattle.std.proofs.lemmas.Option.{option_and_then_some}
use Rattle.bufr_tables.specs.declared.table_b.Kind.TheVariants as kind
use Rattle.bufr_walk.specs.declared.spec.TurnRefusal.TheVariants as refusal

-- A row is within the limits of Table B, and of the numbers that are computed from it.
pub record IsRead (row : Row) : Type 0 where
  pub listed : IsRow row
  pub scale : unsigned_abs row.scale ≤ 127
  pub reference : unsigned_abs row.reference ≤ 2 ^ 63
  pub element : row.fxy < 16384

abbrev pub AreRead : List Row → Type 0
AreRead rows = AllByRecursion (λ (row : Row). IsRead row) rows

-- A descriptor has 16 bits.
abbrev IsWord : ℕ → Type 0
IsWord fxy = fxy < 65536

abbrev pub AreRedefined : List Redefined → Type 0
AreRedefined more = AllByRecursion (λ (r : Redefined). unsigned_abs r.reference ≤ 2 ^ 63) more

-- The operands in effect are those of legal operators.
pub record IsSettings (s : OperatorModel) : Type 0 where
  pub width_change : s.width_change ≤ 255
  pub scale_change : s.scale_change ≤ 255
  pub new_reference_width : s.new_reference_width ≤ 63
  pub precision_increase : s.precision_increase ≤ 18
  pub character_octets : s.character_octets ≤ 255
  pub local_width : s.local_width ≤ 255
  pub new_references : AreRedefined s.new_references

-- A template may contain each of these descriptors.
abbrev pub AreLegal : Turns → Type 0
AreLegal finish = Unit {0}
AreLegal open_end = Unit {0}
AreLegal (group next) = AreLegal next
AreLegal (pass_end next) = AreLegal next
AreLegal (factor_turn fxy next) = IsWord fxy × AreLegal next
AreLegal (element_turn fxy next) = IsWord fxy × AreLegal next
AreLegal (operator_turn fxy next) = IsWord fxy × (is_legal_operator fxy ≡ true) × AreLegal next

-- ---- Each spec that the rules give is valid.

same_ok : (a b : FieldSpec) → ◌≡◌ {A = Result FieldSpec TurnRefusal} (Ok a) (Ok b) → a ≡ b
same_ok a b e = cc

-- bounds on the magnitudes of sums and products
abs_sum : (a b : ℤ) → unsigned_abs (a +ℤ b) ≤ unsigned_abs a + unsigned_abs b
abs_sum a b = grind arith

change_small : (y : ℕ) → y ≤ 255 → unsigned_abs (scale_change_of y) ≤ 128
change_small y h = grind arith

reference_small : (rs : List Redefined) (fxy : ℕ) (listed : ℤ) → AreRedefined rs → unsigned_abs listed ≤ 2 ^ 63 → unsigned_abs (current_reference rs fxy listed) ≤ 2 ^ 63
reference_small [] fxy listed h g = g
reference_small (r ∷ rs) fxy listed h g = by (r.fxy == fxy) h.0 (reference_small rs fxy listed h.1 g)
  where
    by : (b : Bool) → unsigned_abs r.reference ≤ 2 ^ 63 → unsigned_abs (current_reference rs fxy listed) ≤ 2 ^ 63 → unsigned_abs (if b then r.reference else current_reference rs fxy listed) ≤ 2 ^ 63
    by true x y = x
    by false x y = y

-- If all rows of a table are within the limits, so is each row that is found in it.
pub row_found : (table : List Row) (fxy : ℕ) (row : Row) → AreRead table → entry_of table fxy ≡ Some row → IsRead row
row_found [] fxy row h e = absurd cc
row_found (r ∷ rows) fxy row h e = by (r.fxy == fxy) (λ q. row_found rows fxy row h.1 q) e
  where
    by : (b : Bool) → (find (λ x. x.fxy == fxy) rows ≡ Some row → IsRead row) → (if b then Some r else find (λ x. x.fxy == fxy) rows) ≡ Some row → IsRead row
    by true g q = let is : r ≡ row = cc in subst IsRead is h.0
    by false g q = g q

as_field : (a : FieldSpec) → IsWord a.fxy → IsSpec a → IsField a
as_field a word spec = record { spec = spec; word = word }

-- If the width of a field is accepted, its spec is valid.
fitted : (a : FieldSpec) (b : FieldSpec) → if_valid_width a ≡ Ok b → IsWord a.fxy → ((1 ≤ a.width) × (a.width ≤ 63) → IsSpec a) → IsField b
fitted a b e word h = by (nat_le 1 a.width && nat_le a.width 63) refl e
  where
    by : (t : Bool) → (nat_le 1 a.width && nat_le a.width 63) ≡ t → (if t then Ok a else Err (refusal.Width a.fxy)) ≡ Ok b → IsField b
    by true p q = let is : a ≡ b = cc in subst IsField is (as_field a word
        (h (leb-true 1 a.width (and_first (nat_le 1 a.width) (nat_le a.width 63) p), leb-true a.width 63 (and_second (nat_le 1 a.width) (nat_le a.width 63) p))))
    by false p q = absurd cc

character_width : (w : ℕ) → allows_width kind.Character w ≡ true → HasWidth kind.Character w
character_width w h = (
  leb-true 8 w (and_first (nat_le 8 w) (nat_le w 2040) (and_first (nat_le 8 w && nat_le w 2040) (w % 8 == 0) h)),
  leb-true w 2040 (and_second (nat_le 8 w) (nat_le w 2040) (and_first (nat_le 8 w && nat_le w 2040) (w % 8 == 0) h)),
  eqb-true (w % 8) 0 (and_second (nat_le 8 w && nat_le w 2040) (w % 8 == 0) h),
)

letters_width : (y w : ℕ) → y ≤ 255 → HasWidth kind.Character w → HasWidth kind.Character (if y == 0 then w else 8 * y)
letters_width y w h g = grind (arith, common_steps)

module _ (s : OperatorModel) (set : IsSettings s) where
  quantity_good : (row : Row) → IsRead row → (1 ≤ (numeric_spec s row).width) × ((numeric_spec s row).width ≤ 63) → IsSpec (numeric_spec s row)
  quantity_good row good w = omega (arith, good.scale, set.precision_increase, abs_sum, change_small, product_small, reference_small)

  figure_good : (row : Row) → IsRead row → (1 ≤ (coded_spec s row).width) × ((coded_spec s row).width ≤ 63) → IsSpec (coded_spec s row)
  figure_good row good w = omega (arith, reference_small)

  kind_good : (kd : Kind) (row : Row) (spec : FieldSpec) → kd ≡ row.kind → IsRead row → spec_by_kind kd s row ≡ Ok spec → IsField spec
  kind_good kind.Numeric row spec q good e = fitted (numeric_spec s row) spec e (omega (arith, good.element)) (quantity_good row good)
  kind_good kind.Coded row spec q good e = fitted (coded_spec s row) spec e (omega (arith, good.element)) (figure_good row good)
  kind_good kind.Character row spec q good e = grind (arith, same_ok, as_field, text_good, letters_width, character_width, good.element)

  defined_good : (kd : Kind) (fxy : ℕ) (spec : FieldSpec) → IsWord fxy → new_reference_spec kd s fxy ≡ Ok spec → IsField spec
  defined_good kd fxy spec word e = grind arith

  unsigned_good : (fxy w : ℕ) (spec : FieldSpec) → IsWord fxy → if_valid_width (unsigned_field fxy w) ≡ Ok spec → IsField spec
  unsigned_good fxy w spec word e = fitted (unsigned_field fxy w) spec e word (λ h. record { width = h; role = tt; missing = tt; scale = omega arith; reference = omega arith })

begin_good : IsSettings begin
begin_good = omega arith

module _ (table : List Row) (rows : AreRead table) (s : OperatorModel) (set : IsSettings s) where
  element_good : (fxy : ℕ) (spec : FieldSpec) → IsWord fxy → element_spec table s fxy ≡ Ok spec → IsField spec
  element_good fxy spec word e = by_given (nat_lt 0 s.local_width) (entry_of table fxy) refl e
    where
      by_defining : (b : Bool) (row : Row) → IsRead row → (if b then new_reference_spec row.kind s fxy else spec_by_kind row.kind s row) ≡ Ok spec → IsField spec
      by_defining true row good q = defined_good s set row.kind fxy spec word q
      by_defining false row good q = kind_good s set row.kind row spec refl good q

      by_width : (b : Bool) (row : Row) → IsRead row → (if b then spec_by_kind row.kind begin row else if_valid_width (unsigned_field fxy s.local_width)) ≡ Ok spec → IsField spec
      by_width true row good q = kind_good begin begin_good row.kind row spec refl good q
      by_width false row good q = unsigned_good s set fxy s.local_width spec word q

      by_given : (b : Bool) (o : Option Row) → entry_of table fxy ≡ o → (if b then local_width_spec o s fxy else listed_by o s fxy) ≡ Ok spec → IsField spec
      by_given true None p q = unsigned_good s set fxy s.local_width spec word q
      by_given false None p q = absurd cc
      by_given true (Some row) p q = by_width (row.width == s.local_width) row (row_found table fxy row rows p) q
      by_given false (Some row) p q = by_defining (is_defining s) row (row_found table fxy row rows p) q

  factor_good : (fxy : ℕ) (spec : FieldSpec) → IsWord fxy → factor_spec table s fxy ≡ Ok spec → IsField spec
  factor_good fxy spec word e = by (is_defining s) (entry_of table fxy) refl e
    where
      by : (b : Bool) (o : Option Row) → entry_of table fxy ≡ o → (if b then Err (refusal.Defining fxy) else factor_by o fxy) ≡ Ok spec → IsField spec
      by true o p q = absurd cc
      by false None p q = absurd cc
      by false (Some row) p q =
          let good = row_found table fxy row rows p in
          fitted (factor_field row fxy) spec q word (λ w. record { width = w; role = (refl, refl); missing = tt; scale = omega (arith, good.scale); reference = omega (arith, good.reference) })

-- ---- Each field that comes next in a template is valid.

-- the bounds on the operands of legal operators
operand_three : (x y : ℕ) → (x == 3) ≡ true → has_legal_operand x y ≡ true → (y == 255) ≡ false → y ≤ 63
operand_three x y e h g = search (rules, eqb-true, leb-true)

operand_seven : (x y : ℕ) → (x == 7) ≡ true → has_legal_operand x y ≡ true → y ≤ 18
operand_seven x y e h = leb-true y 18 (subst (λ z. has_legal_operand z y ≡ true) (eqb-true x 7 e) h)

operand_most : (fxy : ℕ) → y_of fxy ≤ 255
operand_most fxy = omega arith

inserted_good : (s : OperatorModel) (fxy : ℕ) (spec : FieldSpec) → is_inserted_text fxy ≡ true → is_legal_operator fxy ≡ true → IsWord fxy → inserted_spec s fxy ≡ Ok spec → IsField spec
inserted_good s fxy spec x legal word e = search (rules, as_field, text_good, inserted_width)

-- The operands in effect are still legal after another operator, and after a field.
references_good : (s : OperatorModel) (y : ℕ) → IsSettings s → ((y == 255) ≡ false → y ≤ 63) → IsSettings (with_references y s)
references_good s y set h = by (y == 255) (y == 0) refl
  where
    by : (a b : Bool) → (y == 255) ≡ a → IsSettings (if a then record s { new_reference_width = 0 } else if b then record s { new_references = [] } else record s { new_reference_width = y })
    by true b q = record {
      width_change = set.width_change;
      scale_change = set.scale_change;
      new_reference_width = omega arith;
      precision_increase = set.precision_increase;
      character_octets = set.character_octets;
      local_width = set.local_width;
      new_references = set.new_references;
    }
    by false true q = record {
      width_change = set.width_change;
      scale_change = set.scale_change;
      new_reference_width = set.new_reference_width;
      precision_increase = set.precision_increase;
      character_octets = set.character_octets;
      local_width = set.local_width;
      new_references = tt;
    }
    by false false q = record {
      width_change = set.width_change;
      scale_change = set.scale_change;
      new_reference_width = h q;
      precision_increase = set.precision_increase;
      character_octets = set.character_octets;
      local_width = set.local_width;
      new_references = set.new_references;
    }

operator_good : (s : OperatorModel) (x y : ℕ) → IsSettings s → y ≤ 255 → has_legal_operand x y ≡ true → IsSettings (with_operator x y s)
operator_good s x y set most legal = by (x == 1) (x == 2) (x == 3) (x == 6) (x == 7) (x == 8) refl refl
  where
    by : (a b c d e f : Bool) → (x == 3) ≡ c → (x == 7) ≡ e
        → IsSettings (if a then record s { width_change = y } else if b then record s { scale_change = y } else if c then with_references y s else if d then record s { local_width = y } else if e
        then record s { precision_increase = y } else if f then record s { character_octets = y } else s)
    by true b c d e f p q = record {
      width_change = most;
      scale_change = set.scale_change;
      new_reference_width = set.new_reference_width;
      precision_increase = set.precision_increase;
      character_octets = set.character_octets;
      local_width = set.local_width;
      new_references = set.new_references;
    }
    by false true c d e f p q = record {
      width_change = set.width_change;
      scale_change = most;
      new_reference_width = set.new_reference_width;
      precision_increase = set.precision_increase;
      character_octets = set.character_octets;
      local_width = set.local_width;
      new_references = set.new_references;
    }
    by false false true d e f p q = references_good s y set (λ r. operand_three x y p legal r)
    by false false false true e f p q = record {
      width_change = set.width_change;
      scale_change = set.scale_change;
      new_reference_width = set.new_reference_width;
      precision_increase = set.precision_increase;
      character_octets = set.character_octets;
      local_width = most;
      new_references = set.new_references;
    }
    by false false false false true f p q = record {
      width_change = set.width_change;
      scale_change = set.scale_change;
      new_reference_width = set.new_reference_width;
      precision_increase = operand_seven x y q legal;
      character_octets = set.character_octets;
      local_width = set.local_width;
      new_references = set.new_references;
    }
    by false false false false false true p q = record {
      width_change = set.width_change;
      scale_change = set.scale_change;
      new_reference_width = set.new_reference_width;
      precision_increase = set.precision_increase;
      character_octets = most;
      local_width = set.local_width;
      new_references = set.new_references;
    }
    by false false false false false false p q = set

-- Adding a redefined reference keeps all of them within the limits.
references_kept : (fxy : ℕ) (reference : ℤ) (known : List Redefined) → unsigned_abs reference ≤ 2 ^ 63 → AreRedefined known → AreRedefined (with_reference fxy reference known)
references_kept fxy reference [] answers h = (answers, h)
references_kept fxy reference (r ∷ more) answers h = grind (arith, common_steps, references_kept fxy reference more answers h.1)

field_good : (s : OperatorModel) (fxy : ℕ) (t : Taken) → IsSettings s → IsWithin t → IsSettings (after_field s fxy t)
field_good s fxy t set h = grind (arith, references_kept)

-- The descriptors of a legal template have 16 bits.
class_word : (fxy k : ℕ) → f_of fxy ≡ k → k < 4 → IsWord fxy
class_word fxy k e h = omega (arith, e, h)

factor_class : (fxy : ℕ) → is_factor fxy ≡ true → IsWord fxy
factor_class fxy h1 = grind arith

module _ (table : List Row) (rows : AreRead table) where
  asked_good : (r : Result FieldSpec TurnRefusal) (go : Taken → List Taken → Next) (answers : List Taken) (spec : FieldSpec) → AreWithin answers → ((x : FieldSpec) → r ≡ Ok x → IsField x)
      → ((t : Taken) (more : List Taken) → IsWithin t → AreWithin more → go t more ≡ take_next spec → IsField spec) → asked r go answers ≡ take_next spec → IsField spec
  asked_good (Err why) go answers spec w h g e = absurd cc
  asked_good (Ok x) go [] spec w h g e = let is : x ≡ spec = cc in subst IsField is (h x refl)
  asked_good (Ok x) go (t ∷ answers) spec w h g e = g t answers w.0 w.1 e

  operated_good : (r : Result OperatorModel TurnRefusal) (go : OperatorModel → Next) (spec : FieldSpec) → ((s : OperatorModel) → r ≡ Ok s → go s ≡ take_next spec → IsField spec)
      → operated r go ≡ take_next spec → IsField spec
  operated_good (Err why) go spec g e = absurd cc
  operated_good (Ok s) go spec g e = g s refl e

  after_good : (s : OperatorModel) (fxy : ℕ) (s' : OperatorModel) → IsSettings s → is_legal_operator fxy ≡ true → after_operator s fxy ≡ Ok s' → IsSettings s'
  after_good s fxy s' set legal e = by (is_defining s && not (x_of fxy == 3 && y_of fxy == 255)) e
    where
      by : (b : Bool) → (if b then Err (refusal.Defining fxy) else Ok (with_operator (x_of fxy) (y_of fxy) s)) ≡ Ok s' → IsSettings s'
      by true q = absurd cc
      by false q = let is : with_operator (x_of fxy) (y_of fxy) s ≡ s' = cc in subst IsSettings is (operator_good s (x_of fxy) (y_of fxy) set (operand_most fxy) legal)

  ahead_good : (turns : Turns) (s : OperatorModel) (answers : List Taken) (spec : FieldSpec) → AreLegal turns → IsSettings s → AreWithin answers → ahead table turns s answers ≡ take_next spec
      → IsField spec
  ahead_good finish s answers spec legal set w e = absurd cc
  ahead_good open_end s answers spec legal set w e = absurd cc
  ahead_good (group next) s answers spec legal set w e = ahead_good next s answers spec legal set w e
  ahead_good (pass_end next) s answers spec legal set w e = ahead_good next s answers spec legal set w e
  ahead_good (factor_turn fxy next) s answers spec legal set w e =
      asked_good (factor_spec table s fxy) (λ t more. ahead table next (after_field s fxy t) more) answers spec w (λ x q. factor_good table rows s set fxy x legal.0 q)
      (λ t more h g q. ahead_good next (after_field s fxy t) more spec legal.1 (field_good s fxy t set h) g q) e
  ahead_good (element_turn fxy next) s answers spec legal set w e =
      asked_good (element_spec table s fxy) (λ t more. ahead table next (after_field s fxy t) more) answers spec w (λ x q. element_good table rows s set fxy x legal.0 q)
      (λ t more h g q. ahead_good next (after_field s fxy t) more spec legal.1 (field_good s fxy t set h) g q) e
  ahead_good (operator_turn fxy next) s answers spec legal set w e =
      by (is_inserted_text fxy) refl e (λ t more h g q. ahead_good next (after_field s fxy t) more spec legal.2 (field_good s fxy t set h) g q)
      (λ s' p q. ahead_good next s' answers spec legal.2 (after_good s fxy s' set legal.1 p) w q)
    where
      by : (b : Bool) → is_inserted_text fxy ≡ b → (if b then asked (inserted_spec s fxy) (λ t more. ahead table next (after_field s fxy t) more) answers else operated (after_operator s fxy)
          (λ s'. ahead table next s' answers)) ≡ take_next spec
          → ((t : Taken) (more : List Taken) → IsWithin t → AreWithin more → ahead table next (after_field s fxy t) more ≡ take_next spec → IsField spec)
          → ((s' : OperatorModel) → after_operator s fxy ≡ Ok s' → ahead table next s' answers ≡ take_next spec → IsField spec) → IsField spec
      by true p q f g = asked_good (inserted_spec s fxy) (λ t more. ahead table next (after_field s fxy t) more) answers spec w (λ x r. inserted_good s fxy x p legal.1 legal.0 r) f q
      by false p q f g = operated_good (after_operator s fxy) (λ s'. ahead table next s' answers) spec g q

  passes_legal : (n : ℕ) (body : Rest → Rest) (rest : Rest) → ((r : Rest) → ((counts : List ℕ) → AreLegal (r counts)) → (counts : List ℕ) → AreLegal (body r counts))
      → ((counts : List ℕ) → AreLegal (rest counts)) → (counts : List ℕ) → AreLegal (passes n body rest counts)
  passes_legal zero body rest h g counts = g counts
  passes_legal (suc n) body rest h g counts = h (λ later. pass_end (passes n body rest later)) (λ later. passes_legal n body rest h g later) counts

  unroll_legal : (tree : Tree) (rest : Rest) → IsLegal tree → ((counts : List ℕ) → AreLegal (rest counts)) → (counts : List ℕ) → AreLegal (unroll tree rest counts)
  unroll_legal bare rest legal g counts = g counts
  unroll_legal (element fxy more) rest legal g counts = (class_word fxy 0 legal.0 (omega arith), unroll_legal more rest legal.1 g counts)
  unroll_legal (operator fxy more) rest legal g counts = (class_word fxy 2 legal.0 (omega arith), legal.1.0, unroll_legal more rest legal.1.1.1 g counts)
  unroll_legal (fixed n body more) rest legal g counts = passes_legal n (unroll body) (unroll more rest) (λ r h c. unroll_legal body r legal.0 h c) (unroll_legal more rest legal.1 g) counts
  unroll_legal (delayed fxy body more) rest legal g [] = (factor_class fxy legal.0, tt)
  unroll_legal (delayed fxy body more) rest legal g (n ∷ counts) =
      (factor_class fxy legal.0, passes_legal n (unroll body) (unroll more rest) (λ r h c. unroll_legal body r legal.1.0 h c) (unroll_legal more rest legal.1.1 g) counts)

-- Each field that comes next on this course is valid.
abbrev pub IsGoodCourse : Course → Type 0
IsGoodCourse course = (answers : List Taken) (spec : FieldSpec) → AreWithin answers → course answers ≡ take_next spec → IsField spec

pub next_field : (table : List Row) (tree : Tree) → AreRead table → IsLegal tree → IsGoodCourse (next_item table tree)
unfolding next_item
next_field table tree rows legal answers spec w e = ahead_good table rows (turns_of tree (counts_of answers)) begin answers spec
    (unroll_legal table rows tree (λ _. finish) legal (λ c. tt) (counts_of answers)) begin_good w e

-- ---- The rows of a table file are within the limits.

passed : {A P : Type 0} (test : Bool) (x y : A) → only_if test x ≡ Some y → (test ≡ true → x ≡ y → P) → P
passed true x y is go = go refl (cc is)
passed false x y is go = absurd (cc is)

negative_within : (n : ℕ) (r : ℤ) → only_if (nat_le n (2 ^ 63)) (neg_ℤ (pos n)) ≡ Some r → unsigned_abs r ≤ 2 ^ 63
negative_within zero r is = grind arith
negative_within (suc n) r is = grind arith

positive_within : (n : ℕ) (r : ℤ) → only_if (nat_lt n (2 ^ 63)) (pos n) ≡ Some r → unsigned_abs r ≤ 2 ^ 63
positive_within n r is = grind arith

reference_within : (text : List ℕ) (r : ℤ) → i64_of text ≡ Some r → unsigned_abs r ≤ 2 ^ 63
unfolding i64_of
reference_within text r is = by (slice_index text 0 == 45) is
  where
    by : (b : Bool) → (if b then option_and_then (λ n. only_if (nat_le n (2 ^ 63)) (neg_ℤ (pos n))) (natural_of (drop 1 text)) else option_and_then (λ n. only_if (nat_lt n (2 ^ 63)) (pos n))
        (natural_of text)) ≡ Some r
        → unsigned_abs r ≤ 2 ^ 63
    by true is = option_and_then_some _ (natural_of (drop 1 text)) r is (λ n read is. negative_within n r is)
    by false is = option_and_then_some _ (natural_of text) r is (λ n read is. positive_within n r is)

scale_within : (text : List ℕ) (scale : ℤ) → scale_of text ≡ Some scale → unsigned_abs scale ≤ 127
unfolding scale_of
scale_within text scale is = grind arith

element_below : (cell : List ℕ) (fxy : ℕ) → element_of cell ≡ Some fxy → fxy < 16384
unfolding element_of
element_below cell fxy is =
    option_and_then_some _ (fxy_of cell) fxy is (λ z read is. passed _ z fxy is (λ test same. rw same at (first z test)))
  where
    first : (z : ℕ) → (z / 16384 == 0) ≡ true → z < 16384
    first z test = let e : z / 16384 ≡ 0 = grind arith in omega (arith, e)

written_row : (r : Record) (row : Row) → row_of r ≡ Some row → IsRow row → IsRead row
unfolding row_of
written_row r row is listed =
    option_and_then_some _ (element_of (field_of r 0)) row is (λ fxy fxy_is is.
    option_and_then_some _ (plain_of (field_of r 1)) row is (λ name name_is is.
    option_and_then_some _ (plain_of (field_of r 2)) row is (λ unit unit_is is.
    option_and_then_some _ (scale_of (field_of r 3)) row is (λ scale scale_is is.
    option_and_then_some _ (i64_of (field_of r 4)) row is (λ reference reference_is is.
    option_and_then_some _ (width_of (kind_of unit) (field_of r 5)) row is (λ width width_is is.
    passed _ _ row is (λ test same. subst (λ z. IsRow z → IsRead z) same (λ limits. record {
      listed = limits;
      scale = scale_within (field_of r 3) scale scale_is;
      reference = reference_within (field_of r 4) reference reference_is;
      element = element_below (field_of r 0) fxy fxy_is;
    }) listed)))))))

rows_read : (records : List Record) (table : List Row) → map row_of records ≡ map Some table → AreRead table
rows_read records [] e = tt
rows_read [] (first ∷ table) e = absurd cc
rows_read (r ∷ records) (first ∷ table) e =
    let here = prefix (row_of r) (map row_of records) first (map Some table) e in
    (written_row r first here (row-limits r first here), rows_read records table (others (row_of r) (map row_of records) first (map Some table) e))
  where
    prefix : (o : Option Row) (os : List (Option Row)) (x : Row) (xs : List (Option Row)) → ◌≡◌ {A = List (Option Row)} (o ∷ os) (Some x ∷ xs) → o ≡ Some x
    prefix o os x xs e = cc

    others : (o : Option Row) (os : List (Option Row)) (x : Row) (xs : List (Option Row)) → ◌≡◌ {A = List (Option Row)} (o ∷ os) (Some x ∷ xs) → os ≡ xs
    others o os x xs e = cc

-- The rows of a table that was read are within the limits.
pub table_read : (records : List Record) (table : List Row) → AreRows records table → AreRead table
table_read records table h = rows_read h.rest table h.rows
