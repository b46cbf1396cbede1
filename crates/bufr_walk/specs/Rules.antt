-- The operators in effect, and how they determine the specification of a field (FM 94 BUFR, Tables
-- B and C; details that the tables leave open are our choice).
-- Cited by public contracts.
use Rattle.std.specs.Prelude.{ℕ, ◌==◌, ◌&&◌, not, nat_lt, Bool, if◌then◌else◌, List, [], ◌∷◌, ℤ, Result, Ok, Err, ◌+◌, ◌-◌, ◌*◌, ◌/◌, ◌^◌, nat_le, true, false, pos, ◌+ℤ◌, ◌-ℤ◌, ◌*ℤ◌, Option, Some, None, ◌≤◌, ◌≡◌, ◌<◌, ok_or}
use Rattle.bufr_tables.specs.Prelude.{x_of, y_of, Row, entry_of}
pub use Rattle.bufr_walk.specs.declared.spec.TurnRefusal.{TurnRefusal}
use Rattle.bufr_walk.specs.Content.{Taken, Role, Kind, FieldSpec}
use Rattle.bufr_walk.specs.declared.operators.OperatorOperands.{OperatorOperands}
use Rattle.bufr_walk.specs.declared.references.NewReference.{NewReference}
use Rattle.bufr_walk.specs.declared.references.References.{References}
use Rattle.bufr_walk.specs.declared.spec_cache.SpecKey.{SpecKey}
pub use Rattle.bufr_walk.specs.declared.operators.TableField.{TableField}
use Rattle.bufr_walk.specs.declared.spec.TurnRefusal.TheVariants as refusal
use Rattle.bufr_walk.specs.declared.spec.Taken.TheVariants as taken
use Rattle.bufr_tables.specs.declared.table_b.Kind.TheVariants as kind
use Rattle.bufr_walk.specs.declared.spec.Role.TheVariants as role
use Rattle.bufr_walk.specs.declared.operators.TableField.TheVariants as field
use Rattle.bufr_bits.specs.Prelude.{◌>>=◌}

-- ---- The operators in effect in one subset (FM 94 BUFR, Table C).

-- an element's descriptor and its redefined reference value
pub record Redefined : Type 0 where
  pub fxy : ℕ
  pub reference : ℤ

-- The operators in effect, and the redefined reference values. Each operator is represented by its
-- operand Y, or by 0 if it is not in effect. An operand of 0 cancels 2 01, 2 02, 2 07 and 2 08.
-- 2 03 000 cancels all redefined reference values, and 2 06 000 is rejected. Each operator except
-- 2 06 Y stays in effect until it is canceled, until another operator with the same X replaces it
-- (our choice), or until the subset ends.
pub record OperatorModel : Type 0 where
  -- 2 01 Y, which adds Y - 128 to the data width of quantities
  pub width_change : ℕ
  -- 2 02 Y, which adds Y - 128 to the scale of quantities
  pub scale_change : ℕ
  -- 2 03 Y, which is followed by Y-bit redefined reference values (stored as 0 after 2 03 255)
  pub new_reference_width : ℕ
  -- 2 07 Y, which increases the precision of quantities by Y decimal digits
  pub precision_increase : ℕ
  -- 2 08 Y, which makes text elements Y octets long
  pub character_octets : ℕ
  -- 2 06 Y, which makes the next element Y bits wide
  pub local_width : ℕ
  -- the redefined reference values, at most one for each element, sorted by descriptor
  pub new_references : List Redefined

-- the state at the beginning of a subset, when no operator is in effect
-- rule: operators-end-with-subset
abbrev pub begin : OperatorModel
begin =
    record {
      width_change = 0;
      scale_change = 0;
      new_reference_width = 0;
      precision_increase = 0;
      character_octets = 0;
      local_width = 0;
      new_references = [];
    }

-- whether reference values are being redefined
abbrev pub is_defining : OperatorModel → Bool
is_defining s = nat_lt 0 s.new_reference_width

-- The operators in effect after 2 03 Y. Y = 255 ends the redefinition of reference values, Y = 0
-- cancels all redefined reference values, and any other Y begins a redefinition.
-- rule: 2-03-y, 2-03-000, 2-03-y-again, 2-03-255-alone
abbrev pub with_references : ℕ → OperatorModel → OperatorModel
with_references y s =
    if y == 255 then record s { new_reference_width = 0 }
    else if y == 0 then record s { new_references = [] }
    else record s { new_reference_width = y }

-- the operators in effect after 2 X Y (2 05 Y does not change them)
-- rule: later-operator-replaces
abbrev pub with_operator : (x y : ℕ) → OperatorModel → OperatorModel
with_operator x y s =
    if x == 1 then record s { width_change = y }
    else if x == 2 then record s { scale_change = y }
    else if x == 3 then with_references y s
    else if x == 6 then record s { local_width = y }
    else if x == 7 then record s { precision_increase = y }
    else if x == 8 then record s { character_octets = y }
    else s

-- the operators in effect after one more operator, which must be 2 03 255 while reference values
-- are being redefined (our choice)
-- rule: defining-no-other-operator, fault-32-before-31
abbrev pub after_operator : OperatorModel → ℕ → Result OperatorModel TurnRefusal
after_operator s fxy =
    if is_defining s && not (x_of fxy == 3 && y_of fxy == 255) then Err (refusal.Defining fxy)
    else Ok (with_operator (x_of fxy) (y_of fxy) s)

-- The redefined reference values, including a new one. A new value replaces an earlier one for the
-- same element (our choice). The values are sorted by descriptor, as in the code.
-- rule: last-reference-counts
abbrev pub with_reference : (fxy : ℕ) → (reference : ℤ) → List Redefined → List Redefined
with_reference fxy reference [] = record { fxy = fxy; reference = reference } ∷ []
with_reference fxy reference (r ∷ more) =
    if nat_lt fxy r.fxy then record { fxy = fxy; reference = reference } ∷ r ∷ more
    else if fxy == r.fxy then record r { reference = reference } ∷ more
    else r ∷ with_reference fxy reference more

-- The operators in effect after a field. The field ends the effect of 2 06 Y. If the field contains
-- a redefined reference value, the value is stored.
-- rule: 2-06-y-used-up
abbrev pub after_field : OperatorModel → ℕ → Taken → OperatorModel
after_field s fxy (taken.Reference r) =
    record s { local_width = 0; new_references = with_reference fxy r s.new_references }
after_field s fxy _ = record s { local_width = 0 }

-- the redefined reference value of an element, or `listed` (the value in Table B) if the value has
-- not been redefined
abbrev pub current_reference : List Redefined → ℕ → ℤ → ℤ
current_reference [] fxy listed = listed
current_reference (r ∷ more) fxy listed =
    if r.fxy == fxy then r.reference else current_reference more fxy listed

-- the given specification of a non-text field, which is rejected unless its data width is 1 to 63
-- bits (our choice)
-- rule: widths
abbrev pub if_valid_width : FieldSpec → Result FieldSpec TurnRefusal
if_valid_width a = if nat_le 1 a.width && nat_le a.width 63 then Ok a else Err (refusal.Width a.fxy)

-- the number that 2 02 Y adds to a scale (Y - 128, or 0 if the operator is not in effect)
-- rule: 2-02-y, cancel-2-01-and-2-02
abbrev pub scale_change_of : ℕ → ℤ
scale_change_of y = if y == 0 then pos 0 else pos y -ℤ pos 128

-- The data width of a quantity. First, 2 07 Y adds (10 Y + 2) / 3, rounded down, and then 2 01 Y
-- adds Y - 128. A negative result becomes 0, and a width of 0 is rejected.
-- rule: 2-01-y, 2-07-y, cancel-2-01-and-2-02, cancel-2-07-and-2-08
abbrev pub operator_width : (width precision change : ℕ) → ℕ
operator_width width precision change =
    let wider = width + (10 * precision + 2) / 3 in
    if change == 0 then wider else (wider + change) - 128

-- The specification of an unsigned number with the given data width, a scale of 0 and a reference
-- value of 0. In class 31, which contains the replication factors, a number is not missing even if
-- all its bits are ones (our choice).
-- rule: 2-06-y-of-class-31, class-31-never-missing
abbrev pub unsigned_field : (fxy width : ℕ) → FieldSpec
unsigned_field fxy width =
    record {
      fxy = fxy;
      role = role.Element;
      kind = kind.Numeric;
      width = width;
      scale = pos 0;
      reference = pos 0;
      may_be_missing = not (x_of fxy == 31);
      listed = false;
    }

-- The specification of a code table or flag table element. By Table C, 2 01 Y, 2 02 Y and 2 07 Y do
-- not apply to code and flag tables. Redefined reference values do (our choice).
-- rule: new-reference-of-figures, figures-unchanged
abbrev pub coded_spec : OperatorModel → Row → FieldSpec
coded_spec s row = record (unsigned_field row.fxy row.width) {
  kind = kind.Coded;
  scale = row.scale;
  reference = current_reference s.new_references row.fxy row.reference;
  listed = true;
}

-- The specification of a quantity, to which 2 01 Y, 2 02 Y, 2 03 Y and 2 07 Y apply. Parts that are
-- not set here are the same as in `coded_spec`. If several operators are in effect, their changes
-- add up (our choice). 2 07 Y also multiplies a redefined reference value by 10^Y (our choice).
-- rule: 2-07-y, 2-01-2-02-2-07-add-up, 2-07-y-of-a-new-reference, new-reference-of-quantities
abbrev pub numeric_spec : OperatorModel → Row → FieldSpec
numeric_spec s row = record (coded_spec s row) {
  kind = kind.Numeric;
  width = operator_width row.width s.precision_increase s.width_change;
  scale = (row.scale +ℤ scale_change_of s.scale_change) +ℤ pos s.precision_increase;
  reference = current_reference s.new_references row.fxy row.reference *ℤ pos
      (10 ^ s.precision_increase);
}

-- the specification of a text field that is `width` bits wide and may be missing; the last argument
-- is the value of `listed`
abbrev pub text_spec : Role → (fxy width : ℕ) → Bool → FieldSpec
text_spec r fxy width listed = record (unsigned_field fxy width)
    { role = r; kind = kind.Character; may_be_missing = true; listed = listed }

-- the data width of a text element (the width in its row, or Y octets if 2 08 Y is in effect)
-- rule: 2-08-y, cancel-2-07-and-2-08
abbrev pub text_width : OperatorModel → ℕ → ℕ
text_width s width = if s.character_octets == 0 then width else 8 * s.character_octets

-- the specification of an element, given its kind, the operators in effect and its row
abbrev pub spec_by_kind : Kind → OperatorModel → Row → Result FieldSpec TurnRefusal
spec_by_kind kind.Numeric s row = if_valid_width (numeric_spec s row)
spec_by_kind kind.Coded s row = if_valid_width (coded_spec s row)
spec_by_kind kind.Character s row = Ok
    (text_spec role.Element row.fxy (text_width s row.width) true)

-- the specification of a redefined reference value, with the data width that 2 03 Y specifies; the
-- kind does not affect the coding because `coding_by` checks the role first
abbrev pub defined_field : OperatorModel → ℕ → FieldSpec
defined_field s fxy = record (unsigned_field fxy s.new_reference_width)
    { role = role.Reference; may_be_missing = false }

-- the specification of an element's redefined reference value; text elements are rejected because
-- they have no reference value (our choice)
-- rule: defining-no-text
abbrev pub new_reference_spec : Kind → OperatorModel → ℕ → Result FieldSpec TurnRefusal
new_reference_spec kind.Character s fxy = Err (refusal.Defining fxy)
new_reference_spec _ s fxy = if_valid_width (defined_field s fxy)

-- The specification of an element that follows 2 06 Y. If the element is Y bits wide in Table B, it
-- is read according to its row alone, and no other operator applies (our choice). Otherwise, the
-- element is read as an unsigned Y-bit number (our choice). Numbers with more than 63 bits are
-- rejected (our choice), so 2 06 Y cannot be used to skip unknown elements of 64 to 255 bits.
-- rule: 2-06-y, 2-06-y-width-of-table-b, 2-06-y-other-width
abbrev pub local_width_spec : Option Row → OperatorModel → ℕ → Result FieldSpec TurnRefusal
local_width_spec None s fxy = if_valid_width (unsigned_field fxy s.local_width)
local_width_spec (Some row) s fxy =
    if row.width == s.local_width then spec_by_kind row.kind begin row
    else if_valid_width (unsigned_field fxy s.local_width)

-- The specification of an element. Directly after 2 06 Y, `local_width_spec` applies. Every other
-- element has a row (see the law `elements_have_their_rows`), so the fault for a missing row never
-- occurs. While reference values are being redefined, the field contains a new reference value.
-- rule: fault-32-before-31
abbrev pub element_spec : List Row → OperatorModel → ℕ → Result FieldSpec TurnRefusal
element_spec table s fxy =
    if nat_lt 0 s.local_width then local_width_spec (entry_of table fxy) s fxy
    else do
      row ← ok_or (entry_of table fxy) (refusal.Width fxy)
      if is_defining s then new_reference_spec row.kind s fxy else spec_by_kind row.kind s row

-- The specification of a replication factor, as defined by its row. No operator applies to a
-- replication factor (our choice). A replication factor is read as a number even if all its bits
-- are ones (our choice). It is treated as a quantity, whatever its unit.
abbrev pub factor_field : Row → ℕ → FieldSpec
factor_field row fxy = record (coded_spec begin row)
    { fxy = fxy; role = role.Factor; kind = kind.Numeric; may_be_missing = false }

-- the specification of a replication factor, which is rejected while reference values are being
-- redefined (our choice); a replication factor always has a row (see `elements_have_their_rows`),
-- so the fault for a missing row never occurs
-- rule: factor-by-entry, defining-no-delayed-group
abbrev pub factor_spec : List Row → OperatorModel → ℕ → Result FieldSpec TurnRefusal
factor_spec table s fxy =
    if is_defining s then Err (refusal.Defining fxy)
    else do
      row ← ok_or (entry_of table fxy) (refusal.Width fxy)
      if_valid_width (factor_field row fxy)

-- the specification of the Y characters that 2 05 Y inserts; the operator is rejected while
-- reference values are being redefined (our choice)
-- rule: 2-05-y, defining-no-inserted-text
abbrev pub inserted_spec : OperatorModel → ℕ → Result FieldSpec TurnRefusal
inserted_spec s fxy =
    if is_defining s then Err (refusal.Defining fxy)
    else Ok (text_spec role.Inserted fxy (8 * y_of fxy) false)

-- ---- The operators in effect, as the walk stores them.

-- the redefined reference values in a list of (descriptor, reference value) pairs
abbrev pub known_by : List (ℕ × ℤ) → List Redefined
known_by [] = []
known_by (e ∷ more) = record { fxy = e.0; reference = e.1 } ∷ known_by more

-- the list `known` after the given reference values have been added one by one
abbrev pub with_all : List NewReference → List Redefined → List Redefined
with_all [] known = known
with_all (n ∷ more) known = with_all more (with_reference n.word n.reference known)

-- the redefined reference values that the walk stores (those in `sorted`, updated with those in
-- `recent`)
abbrev pub known_of : References → List Redefined
known_of r = with_all r.recent.items (known_by r.sorted.entries)

-- the last redefined reference value for the descriptor `word` in a list, or `before` if the list
-- contains none
abbrev pub last_of : List NewReference → ℕ → Option ℤ → Option ℤ
last_of [] word before = before
last_of (n ∷ more) word before =
    last_of more word (if n.word == word then Some n.reference else before)

-- the redefined reference value of an element, if any
abbrev pub redefined : List Redefined → ℕ → Option ℤ
redefined [] fxy = None
redefined (r ∷ more) fxy = if r.fxy == fxy then Some r.reference else redefined more fxy

-- the operators in effect, given their operands and the redefined reference values
abbrev pub operator_model : OperatorOperands → List Redefined → OperatorModel
operator_model o known = record {
  width_change = o.width_change;
  scale_change = o.scale_change;
  new_reference_width = o.new_reference_width;
  precision_increase = o.precision_increase;
  character_octets = o.character_octets;
  local_width = o.local_width;
  new_references = known;
}

-- The operands of 2 03 Y and 2 07 Y do not exceed their limits.
pub record AreOperands (o : OperatorOperands) : Type 0 where
  pub new_reference_width : o.new_reference_width ≤ 63
  pub precision_increase : o.precision_increase ≤ 18

-- ---- The key under which a specification is cached. The key combines the operators in effect and
-- a descriptor into one number.

-- a number that contains the operands of the operators other than 2 03 Y in its low 40 bits and the
-- given word (see `key_word`) in its higher bits
abbrev pub spec_key : OperatorModel → ℕ → ℕ
spec_key s word =
    s.width_change + 256 * s.scale_change + 65536 * s.precision_increase + 16777216
    * s.character_octets
    + 4294967296 * s.local_width + 1099511627776 * word

-- Each operand in the key fits in an octet.
pub record HasOctetOperands (s : OperatorModel) : Type 0 where
  pub width_change : s.width_change < 256
  pub scale_change : s.scale_change < 256
  pub precision_increase : s.precision_increase < 256
  pub character_octets : s.character_octets < 256
  pub local_width : s.local_width < 256

-- `key` is the key for the given operators and the given word. No reference value is being
-- redefined, and none has been redefined.
pub record IsKey (s : OperatorModel) (word key : ℕ) : Type 0 where
  pub is : key ≡ spec_key s word
  pub new_reference_width : s.new_reference_width ≡ 0
  pub new_references : s.new_references ≡ []
  pub octets : HasOctetOperands s

-- `key` is the key for the given operators and the word 0, or 2^62 if there is no such key.
pub record IsOperatorKey (s : OperatorModel) (key : ℕ) : Type 0 where
  pub most : key ≤ 2 ^ 62
  pub is : key < 2 ^ 62 → IsKey s 0 key

-- the descriptor of a field
abbrev pub descriptor_of : TableField → ℕ
descriptor_of (field.Element fxy) = fxy
descriptor_of (field.Factor fxy) = fxy

-- the part of a key that identifies the field
abbrev pub key_word : TableField → ℕ
key_word (field.Element fxy) = fxy
key_word (field.Factor fxy) = fxy + 65536

-- the specification of a field
abbrev pub spec_of : List Row → OperatorModel → TableField → Result FieldSpec TurnRefusal
spec_of table s (field.Element fxy) = element_spec table s fxy
spec_of table s (field.Factor fxy) = factor_spec table s fxy

-- `key` is the field's key or, if the field has no key, a number of at least 2^62.
pub record IsFieldKey (s : OperatorModel) (f : TableField) (key : ℕ) : Type 0 where
  pub most : key < 2 ^ 63
  pub word : descriptor_of f < 65536
  pub is : key < 2 ^ 62 → IsKey s (key_word f) key

-- what a field's specification depends on besides the descriptor and the operands in its key
-- (nothing, the data width that 2 03 Y specifies, or a redefined reference value)
pub data Dependence : Type 0 where
  OnNothing : Dependence
  OnWidth : (width : ℕ) → Dependence
  OnReference : (reference : ℤ) → Dependence

abbrev pub by_reference : Option ℤ → Dependence
by_reference None = OnNothing
by_reference (Some reference) = OnReference reference

-- the `Dependence` of a field's specification, given the field's descriptor
abbrev pub dependence : OperatorModel → ℕ → Dependence
dependence s fxy =
    if is_defining s then OnWidth s.new_reference_width
    else by_reference (redefined s.new_references fxy)

-- the number in the key that represents the kind of `Dependence`
abbrev pub dependence_number : Dependence → ℕ
dependence_number OnNothing = 0
dependence_number (OnWidth width) = 1
dependence_number (OnReference reference) = 2

-- If the specification depends on a data width or a reference value, `number` is that width or
-- value.
abbrev pub HasNumber : Dependence → ℤ → Type 0
HasNumber OnNothing number = Unit {0}
HasNumber (OnWidth width) number = number ≡ pos width
HasNumber (OnReference reference) number = number ≡ reference

-- `key` is the complete key of the field. The key identifies the field, the operands of the
-- operators in effect, and the `Dependence` of the field's specification.
pub record IsSpecKey (s : OperatorModel) (f : TableField) (key : SpecKey) : Type 0 where
  pub word : descriptor_of f < 65536
  pub is : key.operators ≡ spec_key s
      (key_word f + 131072 * dependence_number (dependence s (descriptor_of f)))
  pub number : HasNumber (dependence s (descriptor_of f)) key.number
  pub octets : HasOctetOperands s
