-- How fields are specified, how they are read from plain or compressed data, and how their values
-- are shown (FM 94 BUFR, section 4 and Tables B and C; details that the compression rules leave
-- open are our choice).
-- Cited by public contracts.
use Rattle.std.specs.Prelude.{ℕ, ◌≡◌, ◌≤◌, ◌^◌, ◌%◌, Bool, ℤ, unsigned_abs, ◌<◌, ◌&&◌, ◌||◌, nat_le, nat_lt, not, true, false, zero, suc, ◌-◌, ◌/◌, if◌then◌else◌, List, [], ◌∷◌, take, drop, replicate, pos, negsuc, neg_ℤ, nat_abs, ◌+ℤ◌, length, Result, Ok, Err, ◌+◌, ◌*◌, ◌==◌, ◌++◌, map}
use Rattle.bufr_tables.specs.declared.table_b.Kind.{Kind}
use Rattle.bufr_walk.specs.declared.spec.Role.{Role}
use Rattle.bufr_walk.specs.declared.spec.Taken.{Taken}
pub use Rattle.bufr_tables.specs.declared.table_b.Kind.{Kind}
pub use Rattle.bufr_walk.specs.declared.spec.Role.{Role}
pub use Rattle.bufr_walk.specs.declared.spec.Taken.{Taken}
use Rattle.bufr_tables.specs.Prelude.{is_character, only_if}
use Rattle.bufr_walk.specs.declared.fault.DataFault.{DataFault}
use Rattle.bufr_walk.specs.declared.fault.DataFault.TheVariants as data_fault
use Rattle.bufr_walk.specs.declared.spec.NumberParts.{NumberParts}
use Rattle.bufr_tables.specs.declared.table_b.Kind.TheVariants as kind
use Rattle.bufr_walk.specs.declared.spec.Role.TheVariants as role
use Rattle.bufr_walk.specs.declared.spec.Taken.TheVariants as taken
use Rattle.bufr_bits.specs.Prelude.{bits_of, bits_in, number_of, are_all_ones, ◌>>=◌}
use Rattle.std.specs.Prelude.{Option, Some, None, ok_or, option_map}
use Rattle.std.specs.Str.{bytes_eq}
use Rattle.std.specs.Ordering.{int_eq}
use Rattle.std.specs.List.{list_all, AllByRecursion}

-- How one field of the data is encoded. The data width is in bits.
pub record FieldSpec : Type 0 where
  pub fxy : ℕ
  pub role : Role
  pub kind : Kind
  pub width : ℕ
  pub scale : ℤ
  pub reference : ℤ
  -- whether a number is missing if all its bits are ones (a string with such bits always is)
  pub may_be_missing : Bool
  -- whether the field contains the value of an element in Table B, so that a dump shows its name and
  -- unit (false if 2 06 Y specifies a width other than that of the element)
  pub listed : Bool

-- The data width is valid for a field of the given kind. A text field is a whole number of octets
-- wide (1 to 255), and any other field is 1 to 63 bits wide.
abbrev pub HasWidth : Kind → ℕ → Type 0
HasWidth kind.Character width = (8 ≤ width) × (width ≤ 2040) × (width % 8 ≡ 0)
HasWidth kind.Coded width = (1 ≤ width) × (width ≤ 63)
HasWidth kind.Numeric width = (1 ≤ width) × (width ≤ 63)

-- The kind and the `may_be_missing` flag are valid for the given role. Inserted characters are
-- text. Replication factors and redefined reference values are numeric and never missing.
abbrev pub HasRole : Role → Kind → Bool → Type 0
HasRole role.Element k m = Unit {0}
HasRole role.Inserted k m = k ≡ kind.Character
HasRole role.Factor k m = (k ≡ kind.Numeric) × (m ≡ Bool.false)
HasRole role.Reference k m = (k ≡ kind.Numeric) × (m ≡ Bool.false)

-- The `may_be_missing` flag is valid for the given kind. For text, it must be true.
abbrev pub HasMissing : Kind → Bool → Type 0
HasMissing kind.Character m = m ≡ Bool.true
HasMissing kind.Coded m = Unit {0}
HasMissing kind.Numeric m = Unit {0}

-- The specification of the field is valid.
pub record IsSpec (a : FieldSpec) : Type 0 where
  pub width : HasWidth a.kind a.width
  pub role : HasRole a.role a.kind a.may_be_missing
  pub missing : HasMissing a.kind a.may_be_missing
  pub scale : unsigned_abs a.scale ≤ 300
  pub reference : unsigned_abs a.reference ≤ 2 ^ 125

-- The specification is valid, and its descriptor fits in 16 bits.
pub record IsField (a : FieldSpec) : Type 0 where
  pub spec : IsSpec a
  pub word : a.fxy < 2 ^ 16

-- If the answer is a redefined reference value, its magnitude is at most 2^63.
abbrev pub IsWithin : Taken → Type 0
IsWithin taken.Plain = Unit {0}
IsWithin (taken.Count n) = Unit {0}
IsWithin (taken.Reference r) = unsigned_abs r ≤ 2 ^ 63

abbrev pub AreWithin : List Taken → Type 0
AreWithin answers = AllByRecursion (λ (t : Taken). IsWithin t) answers

-- A field's answer (the part of its content that affects the walk) matches the field's role. The
-- answer is `Count` for a replication factor, `Reference` for a redefined reference value, and
-- `Plain` for any other field.
abbrev pub IsForRole : Role → Taken → Type 0
IsForRole role.Element taken.Plain = Unit {0}
IsForRole role.Inserted taken.Plain = Unit {0}
IsForRole role.Factor (taken.Count n) = Unit {0}
IsForRole role.Reference (taken.Reference r) = Unit {0}
IsForRole _ _ = ⊥

-- The answer matches the role in the field's specification.
abbrev pub IsFor : FieldSpec → Taken → Type 0
IsFor spec t = IsForRole spec.role t

abbrev pub is_reference : Role → Bool
is_reference role.Reference = Bool.true
is_reference _ = Bool.false

-- ---- Fields that are not text.

-- the specification of a non-text field with the given descriptor, role and `NumberParts`
abbrev pub number_field : (fxy : ℕ) → Role → NumberParts → FieldSpec
number_field fxy role n =
    record {
      fxy = fxy;
      role = role;
      kind = n.kind;
      width = n.width;
      scale = n.scale;
      reference = n.reference;
      may_be_missing = n.may_be_missing;
      listed = n.listed;
    }

-- Whether a non-text field is a plain number. A plain number is an element that is read according
-- to its row in Table B. It has at most 62 bits and a reference value of magnitude less than 2^62.
abbrev pub is_plain_number : Role → (width : ℕ) → (reference : ℤ) → (listed : Bool) → Bool
is_plain_number role.Element width r listed =
    listed && (nat_le width 62 && nat_lt (unsigned_abs r) (2 ^ 62))
is_plain_number _ width r listed = false

-- whether a field is a plain number
abbrev pub is_plain : FieldSpec → Bool
is_plain a = not (is_character a.kind) && is_plain_number a.role a.width a.reference a.listed

-- The field meets every condition for a plain number (see `is_plain`).
pub record IsPlainNumber (a : FieldSpec) : Type 0 where
  pub kind : is_character a.kind ≡ false
  pub role : a.role ≡ role.Element
  pub listed : a.listed ≡ true
  pub width : a.width ≤ 62
  pub reference : unsigned_abs a.reference < 2 ^ 62

-- The specification is valid, and `plain` is true if and only if the field is a plain number.
pub record IsSpecWith (plain : Bool) (a : FieldSpec) : Type 0 where
  pub spec : IsSpec a
  pub same : is_plain a ≡ plain

-- the content of a field (a number before the reference value is added, a string, a missing value,
-- or a redefined reference value)
pub data Content : Type 0 where
  number : (raw : ℕ) → Content
  text : (octets : List ℕ) → Content
  missing : Content
  reference : (value : ℤ) → Content

-- the first n octets of the given bits
abbrev pub octets_in : ℕ → List Bool → List ℕ
octets_in zero bits = []
octets_in (suc n) bits = number_of (take 8 bits) ∷ octets_in n (drop 8 bits)

-- the signed number in the given bits; the first bit is the sign, and the other bits are the
-- magnitude
-- rule: new-reference, reads-minus-zero
abbrev pub signed_by : List Bool → ℤ
signed_by [] = pos 0
signed_by (sign ∷ bits) = if sign then neg_ℤ (pos (number_of bits)) else pos (number_of bits)

-- how a field is coded (as a number, a string of the given length, or a redefined reference value)
pub data Coding : Type 0 where
  numbers : (width : ℕ) → (may_be_missing : Bool) → Coding
  texts : (octets : ℕ) → Coding
  references : Coding

-- the coding of a field; a redefined reference value is recognized by its role, and a string by its
-- kind
abbrev pub coding_by : Role → Kind → FieldSpec → Coding
coding_by role.Reference _ spec = references
coding_by _ kind.Character spec = texts (spec.width / 8)
coding_by _ _ spec = numbers spec.width spec.may_be_missing

abbrev pub coding_of : FieldSpec → Coding
coding_of spec = coding_by spec.role spec.kind spec

-- The content of a field with the given bits. If all bits are ones, a string is missing, as is a
-- number if `may_be_missing` is true. Text inserted by 2 05 Y can also be missing (our choice).
-- rule: missing, missing-inserted-text
abbrev pub content_by : Coding → List Bool → Content
content_by (numbers width m) bits =
    if are_all_ones bits && m then missing else number (number_of bits)
content_by (texts octets) bits = if are_all_ones bits then missing else text (octets_in octets bits)
content_by references bits = reference (signed_by bits)

abbrev pub content_in : FieldSpec → List Bool → Content
content_in spec bits = content_by (coding_of spec) bits

-- the sign bit of a number (true if the number is negative)
abbrev pub sign_bit : ℤ → Bool
sign_bit (pos n) = false
sign_bit (negsuc n) = true

-- the bits that represent a field's content in the given data width; a redefined reference value of
-- zero is written with the sign bit 0
-- rule: writes-plus-zero
abbrev pub bits_for : ℕ → Content → List Bool
bits_for width (number raw) = bits_in raw width
bits_for width (text octets) = bits_of octets
bits_for width missing = replicate width true
bits_for width (reference value) = sign_bit value ∷ bits_in (nat_abs value) (width - 1)

-- the answer of a field with the given role and content; a replication factor always contains a
-- number, and a field that redefines a reference value always contains a reference value, so the
-- equations that return 0 never apply
abbrev pub answer_by_role : Role → Content → Taken
answer_by_role role.Factor (number raw) = taken.Count raw
answer_by_role role.Factor _ = taken.Count 0
answer_by_role role.Reference (reference value) = taken.Reference value
answer_by_role role.Reference _ = taken.Reference (pos 0)
answer_by_role _ _ = taken.Plain

abbrev pub answer_of : FieldSpec → Content → Taken
answer_of spec c = answer_by_role spec.role c

-- the value shown for an item (a number equal to value / 10^scale, a string, a missing value, or a
-- redefined reference value)
pub data ShownValue : Type 0 where
  shown_number : (value scale : ℤ) → ShownValue
  shown_text : (octets : List ℕ) → ShownValue
  shown_missing : ShownValue
  shown_reference : (value : ℤ) → ShownValue

-- the value shown for a field's content; if the content is a number, the reference value is added
-- rule: value
abbrev pub shown : FieldSpec → Content → ShownValue
shown spec (number raw) = shown_number (pos raw +ℤ spec.reference) spec.scale
shown spec (text octets) = shown_text octets
shown spec missing = shown_missing
shown spec (reference value) = shown_reference value

-- ---- One field of plain data.

-- the content of a field that was read, and the bits after the field
pub record FieldRead (C : Type 0) : Type 0 where
  pub content : C
  pub suffix : List Bool

abbrev pub found : {C : Type 0} → C → List Bool → FieldRead C
found content suffix = record { content = content; suffix = suffix }

-- the field at the beginning of the given plain data, or fault 30 if the data end inside the field
-- rule: field-past-end
abbrev pub plain_field : FieldSpec → List Bool → Result (FieldRead Content) DataFault
plain_field spec bits =
    if nat_lt (length bits) spec.width then Err (data_fault.DataEnd spec.fxy)
    else Ok (found (content_in spec (take spec.width bits)) (drop spec.width bits))

-- ---- One item of compressed data. An item consists of a base (the minimum value), a six-bit
-- increment width k and, unless k is 0, one increment for each subset.

-- the k-bit number whose bits are all ones
abbrev pub ones : ℕ → ℕ
ones k = 2 ^ k - 1

-- the first `count` increments, each of which is k bits wide
abbrev pub increments : (count k : ℕ) → List Bool → List (List Bool)
increments zero k bits = []
increments (suc n) k bits = take k bits ∷ increments n k (drop k bits)

-- the width of an increment in bits; for a string, k is the width in octets
-- rule: compressed-references
abbrev pub step_of : Coding → ℕ → ℕ
step_of (numbers width m) k = k
step_of (texts octets) k = 8 * k
step_of references k = 0

-- The content of an item with increments (k > 0) in one subset, or `None` if the increment is
-- invalid (fault 34). A number that may be missing is missing if all bits of its base (our choice),
-- of its increment, or of the sum of both (our choice) are ones. Otherwise, it is the sum, which
-- must fit in the data width. A string consists of the k octets of its increment, followed by
-- spaces (our choice). It is missing if all k octets are 255, and invalid if k exceeds the field's
-- length in octets (both our choice). The base of a string is ignored (our choice). A redefined
-- reference value must not have increments (our choice).
-- rule: compressed-past-width, compressed-class-31, compressed-sum-of-ones
-- rule: compressed-all-missing, compressed-missing-increment, compressed-text
-- rule: compressed-text-missing, compressed-text-past-width, compressed-text-base
-- rule: compressed-references
abbrev pub increased : Coding → (k : ℕ) → (base increment : List Bool) → Option Content
increased (numbers width m) k base i =
    let sum = number_of base + number_of i in
    if m && (are_all_ones base || are_all_ones i || sum == ones width) then Some missing
    else if nat_lt (ones width) sum then None else Some (number sum)
increased (texts octets) k base i =
    if nat_lt octets k then None
    else Some (if are_all_ones i then missing
    else text (octets_in k i ++ replicate (octets - k) 32))
increased references k base i = None

-- the values in a list of options, or `None` if any of them is `None`
abbrev pub all_there : {A : Type 0} → List (Option A) → Option (List A)
all_there [] = Some []
all_there (None ∷ more) = None
all_there (Some a ∷ more) = option_map (λ others. a ∷ others) (all_there more)

-- The content of an item in each of n subsets, or `None` if an increment is invalid (fault 34). If
-- k is 0, the base encodes the content for every subset.
-- rule: compressed-equal
abbrev pub contents_across : Coding → (k subsets : ℕ) → (base suffix : List Bool)
    → Option (List Content)
contents_across c k n base suffix =
    if k == 0 then Some (replicate n (content_by c base))
    else all_there (map (increased c k base) (increments n (step_of c k) suffix))

abbrev pub same : Content → Content → Bool
same (number a) (number b) = a == b
same (text a) (text b) = bytes_eq a b
same missing missing = true
same (reference a) (reference b) = int_eq a b
same _ _ = false

-- the content of an item in each subset, or `None` if the item is a replication factor that differs
-- between subsets (fault 33; our choice)
-- rule: compressed-factors
abbrev pub if_equal : Role → List Content → Option (List Content)
if_equal role.Factor (c ∷ cs) = only_if (list_all (same c) cs) (c ∷ cs)
if_equal _ cs = Some cs

-- The first item in compressed data with n subsets, or its fault (30, 34 or 33, checked in this
-- order). An item consists of a base, six bits for k and, if k is not 0, n increments.
-- rule: compressed-item, compressed-increments-there, fault-30-before-34, fault-34-before-33
abbrev pub packed_field : (subsets : ℕ) → FieldSpec → List Bool
    → Result (FieldRead (List Content)) DataFault
packed_field n spec bits =
    let c = coding_of spec in
    let base = take spec.width bits in
    let k = number_of (take 6 (drop spec.width bits)) in
    let suffix = drop (spec.width + 6) bits in
    let used = n * step_of c k in
    if nat_lt (length bits) (spec.width + 6) || nat_lt (length suffix) used
    then Err (data_fault.DataEnd spec.fxy)
    else do
      contents ← ok_or (contents_across c k n base suffix) (data_fault.Increment spec.fxy)
      equal ← ok_or (if_equal spec.role contents) (data_fault.UnequalFactor spec.fxy)
      Ok (found equal (drop used suffix))

-- the answer of an item, taken from the first subset because replication factors and redefined
-- reference values are the same in all subsets
abbrev pub answer_first : FieldSpec → List Content → Taken
answer_first spec [] = taken.Plain
answer_first spec (c ∷ cs) = answer_of spec c
