-- The items of a dump, the contents of their fields, and the faults in items (our choice).
-- Cited by public contracts.
use Rattle.std.specs.Prelude.{ℕ, List, [], ◌∷◌, Bool, true, false, ◌+◌, ◌-◌, ◌/◌, ◌^◌, ◌==◌, ◌&&◌, nat_lt, not, if◌then◌else◌, ◌++◌, length, replicate, ℤ, pos, negsuc, nat_abs, ◌+ℤ◌, ◌-ℤ◌, Result, Ok, Err, ◌≡◌, ◌≤◌, ◌<◌, unsigned_abs, map, slice_range, codes, decimal, Option, Some, None, IfSome}
pub use Rattle.bufr_walk.specs.declared.spec.TurnRefusal.{TurnRefusal}
use Rattle.bufr_fill.specs.declared.fault.Expected.{Expected}
pub use Rattle.bufr_fill.specs.declared.fault.DraftFault.{DraftFault}
use Rattle.bufr_fill.specs.declared.fault.Expected.TheVariants as expected
use Rattle.bufr_fill.specs.declared.fault.DraftFault.TheVariants as draft_fault
pub use Rattle.bufr_fill.specs.declared.fault.ItemFault.{ItemFault}
use Rattle.bufr_fill.specs.declared.fault.ItemFault.TheVariants as item_fault
pub use Rattle.bufr_fill.specs.declared.fault.WalkRefusal.{WalkRefusal}
use Rattle.bufr_fill.specs.declared.fault.WalkRefusal.TheVariants as walk_refusal
use Rattle.bufr_walk.specs.declared.spec.TurnRefusal.TheVariants as refusal
use Rattle.std.specs.List.{list_all, AllByRecursion, sum_by}
use Rattle.std.specs.Option.{option_map_or}
use Rattle.bufr_bits.specs.Prelude.{decimal_text_of, decimal_value_of, short_text}
use Rattle.bufr_bits.specs.declared.decimal.NumberFault.{NumberFault}
use Rattle.bufr_bits.specs.declared.decimal.NumberFault.TheVariants.{Large}
use Rattle.bufr_tables.specs.Prelude.{is_character, fxy_text}
pub use Rattle.bufr_walk.specs.declared.spec.Role.{Role}
use Rattle.bufr_walk.specs.Prelude.{FieldSpec, is_reference, Content, number, text, missing, reference, ones}
pub use Rattle.bufr_fill.specs.declared.field_value.FieldContent.{FieldContent}
use Rattle.bufr_fill.specs.declared.field_value.FieldContent.TheVariants as field_content
use Rattle.bufr_walk.specs.declared.spec.Role.TheVariants as role
pub use Rattle.bufr_fill.specs.declared.draft.ValueKind.{ValueKind}
use Rattle.bufr_fill.specs.declared.draft.ValueKind.TheVariants as value_kind
use Rattle.bufr_fill.specs.declared.draft.StoredEntry.{StoredEntry}
use Rattle.bufr_fill.specs.declared.draft.DraftValue as given
use Rattle.bufr_fill.specs.declared.draft.DraftValue.TheVariants as item_value
use Rattle.bufr_fill.specs.declared.draft.DraftItem.{DraftItem}

-- the value on an item's line; numbers and redefined reference values are represented by their
-- characters (digits, `-` and `.`)
pub data DraftValue : Type 0 where
  number_token : (digits : List ℕ) → DraftValue
  text_form : (octets : List ℕ) → DraftValue
  missing_form : DraftValue
  reference_token : (digits : List ℕ) → DraftValue

-- an item of a dump, with its line number
pub record Draft : Type 0 where
  pub line : ℕ
  pub fxy : ℕ
  pub form : DraftValue

abbrev pub draft : (line fxy : ℕ) → DraftValue → Draft
draft line fxy form = record { line = line; fxy = fxy; form = form }

-- An entry of a document, which is an item or the end of a subset. A subset ends on the `subset`
-- line of the next subset or on the `end` line.
pub data DraftEntry : Type 0 where
  Holds : (item : Draft) → DraftEntry
  Ends : (line : ℕ) → DraftEntry

-- the items of one subset, and the number of the line on which it ends
pub record Subset : Type 0 where
  pub items : List Draft
  pub end_line : ℕ

-- a subset with the given items and end line
abbrev pub subset : List Draft → ℕ → Subset
subset items end_line = record { items = items; end_line = end_line }

-- the given subsets, with an item added at the start of the first one; if there are none, the item
-- is dropped because no entry ends its subset
abbrev pub prepend_to_subset : Draft → List Subset → List Subset
prepend_to_subset item [] = []
prepend_to_subset item (s ∷ subsets) = record s { items = item ∷ s.items } ∷ subsets

-- the subsets of a document, given its entries
abbrev pub subsets_of : List DraftEntry → List Subset
subsets_of [] = []
subsets_of (Holds item ∷ more) = prepend_to_subset item (subsets_of more)
subsets_of (Ends line ∷ more) = record { items = []; end_line = line } ∷ subsets_of more

abbrev pub at_line : ℕ → ItemFault → DraftFault
at_line line fault = draft_fault.Item line fault

-- the fault in an item that follows the last field of its subset
abbrev pub item_too_many : ItemFault
item_too_many = item_fault.WrongDescriptor expected.EndOfSubset

-- the fault that is reported if the walk rejects a descriptor
abbrev pub walk_refused : TurnRefusal → ItemFault
walk_refused (refusal.Width fxy) = item_fault.Walk (walk_refusal.Width fxy)
walk_refused (refusal.Defining fxy) = item_fault.Walk (walk_refusal.Defining fxy)

-- the fault in an item that would exceed the maximum number of values in compressed data
abbrev pub too_many_values : (fxy : ℕ) → ItemFault
too_many_values fxy = item_fault.Walk (walk_refusal.TooManyValues fxy)

-- the number of the fault that `dump` would report in the same case, and the rejected descriptor
abbrev pub refusal_parts : WalkRefusal → ℕ × ℕ
refusal_parts (walk_refusal.Width fxy) = (31, fxy)
refusal_parts (walk_refusal.Defining fxy) = (32, fxy)
refusal_parts (walk_refusal.TooManyValues fxy) = (35, fxy)

abbrev pub expected_text : Expected → List (List ℕ)
expected_text (expected.Item fxy) = fxy_text fxy ∷ []
expected_text (expected.Reference fxy) = codes "R " ∷ fxy_text fxy ∷ []
expected_text expected.EndOfSubset = codes "end of subset" ∷ []

-- the number and the description of a fault in an item
abbrev pub item_report : ItemFault → ℕ × List (List ℕ)
-- An item is unexpected or missing.
item_report (item_fault.WrongDescriptor e) = (51, codes "expected " ∷ expected_text e)
-- The value is not a decimal number, is not an integer after scaling, or does not match the field's
-- kind.
item_report item_fault.Number = (52, codes "number" ∷ [])
-- The number does not fit in the field, or the value would be read as missing.
item_report item_fault.OutOfRange = (53, codes "out of range" ∷ [])
-- The string is longer than the field.
item_report item_fault.TextLong = (54, codes "text long" ∷ [])
-- The field cannot be missing.
item_report item_fault.MissingForbidden = (55, codes "missing forbidden" ∷ [])
-- A replication factor differs between subsets.
item_report item_fault.UnequalFactor = (58, codes "unequal factor" ∷ [])
-- A redefined reference value differs between subsets, or a string would need an increment of more
-- than 63 octets.
item_report item_fault.Increment = (59, codes "increment" ∷ [])
-- The encoded message would have fault 31, 32 or 35 at the given descriptor.
item_report (item_fault.Walk why) =
    let refused = refusal_parts why in
    (62, codes "walk " ∷ decimal refused.0 ∷ codes " descriptor " ∷ fxy_text refused.1 ∷ [])

-- the number of a fault, or 73 if memory ran out; fault 62 is replaced by the fault that `dump`
-- would report (31, 32 or 35)
abbrev pub number_of_draft_fault : DraftFault → ℕ
number_of_draft_fault (draft_fault.Item line (item_fault.Walk why)) = (refusal_parts why).0
number_of_draft_fault (draft_fault.Item line fault) = (item_report fault).0
number_of_draft_fault draft_fault.Memory = 73

-- whether a value is marked with `R` as a redefined reference value
abbrev pub is_marked : DraftValue → Bool
is_marked (reference_token digits) = true
is_marked _ = false

-- the fault if a value cannot be read as a number at the field's scale; it is `OutOfRange` if the
-- number is too large, and `Number` otherwise
-- rule: fault-52
abbrev pub number_fault : NumberFault → ItemFault
number_fault Large = item_fault.OutOfRange
number_fault _ = item_fault.Number

-- the exclusive upper limit for numbers in a field of `width` bits; if the field may be missing,
-- the number with all bits set is excluded because it represents a missing value
-- rule: packs-class-31
abbrev pub raw_limit : (may_be_missing : Bool) (width : ℕ) → ℕ
raw_limit m width = if m then ones width else 2 ^ width

-- the content of a field with the given raw value, or a fault if the raw value does not fit in the
-- data width or would be read as missing
-- rule: fault-53
abbrev pub raw_within : Bool → ℕ → ℤ → Result Content ItemFault
raw_within m width (pos raw) =
    if nat_lt raw (raw_limit m width) then Ok (number raw) else Err item_fault.OutOfRange
raw_within m width (negsuc n) = Err item_fault.OutOfRange

-- the raw value of a number, which is the number minus the reference value (FM 94, Table B)
abbrev pub raw_of : FieldSpec → Result ℤ NumberFault → Result Content ItemFault
raw_of spec (Ok value) = raw_within spec.may_be_missing spec.width (value -ℤ spec.reference)
raw_of spec (Err why) = Err (number_fault why)

-- the content of a field that redefines a reference value, or a fault if the magnitude of the new
-- value does not fit in the bits after the sign bit
abbrev pub reference_of : FieldSpec → Result ℤ NumberFault → Result Content ItemFault
reference_of spec (Ok value) =
    if nat_lt (nat_abs value) (2 ^ (spec.width - 1)) then Ok (reference value)
    else Err item_fault.OutOfRange
reference_of spec (Err why) = Err (number_fault why)

-- a string, padded with spaces to `count` octets, or a fault if the string is too long or would be
-- read as missing because all its octets are 255
-- rule: fault-53, fault-54
abbrev pub text_within : ℕ → List ℕ → Result Content ItemFault
text_within count octets =
    if nat_lt count (length octets) then Err item_fault.TextLong
    else let whole = octets ++ replicate (count - length octets) 32 in
    if list_all (λ octet. octet == 255) whole then Err item_fault.OutOfRange else Ok (text whole)

-- The content of a field, given the value of its item. A number in a character field causes the
-- fault `Number`, and so does a string in any other field.
-- rule: fault-52, fault-55, fault-order-of-an-item
abbrev pub content_by_form : DraftValue → FieldSpec → Result Content ItemFault
content_by_form (number_token digits) spec =
    if is_character spec.kind then Err item_fault.Number
    else raw_of spec (decimal_value_of digits spec.scale)
content_by_form (text_form octets) spec =
    if is_character spec.kind then text_within (spec.width / 8) octets else Err item_fault.Number
content_by_form missing_form spec =
    if spec.may_be_missing then Ok missing else Err item_fault.MissingForbidden
content_by_form (reference_token digits) spec = reference_of spec (decimal_value_of digits (pos 0))

-- whether an item has the field's descriptor and the correct mark (`R` if the field redefines a
-- reference value, and none otherwise)
-- rule: fault-51
abbrev pub is_of : FieldSpec → Draft → Bool
is_of spec d =
    (d.fxy == spec.fxy)
    && (if is_reference spec.role then is_marked d.form else not (is_marked d.form))

-- the fault in an item that does not belong to the field
abbrev pub wrong_for : FieldSpec → ItemFault
wrong_for spec = item_fault.WrongDescriptor
    (if is_reference spec.role then expected.Reference spec.fxy else expected.Item spec.fxy)

-- The content of a field, given its item. The item's descriptor and mark are checked first, then
-- the kind of its value, and finally whether the value fits.
-- rule: fault-order-of-an-item
abbrev pub content_of : FieldSpec → Draft → Result Content ItemFault
content_of spec d = if is_of spec d then content_by_form d.form spec else Err (wrong_for spec)

-- the value that a dump writes for a field with the given content
abbrev pub draft_value_of : FieldSpec → Content → DraftValue
draft_value_of spec (number raw) = number_token
    (decimal_text_of (pos raw +ℤ spec.reference) spec.scale)
draft_value_of spec (text octets) = text_form octets
draft_value_of spec missing = missing_form
draft_value_of spec (reference value) = reference_token (decimal_text_of value (pos 0))

-- ---- The content of a field, as the code represents it.

-- the result of a call, with the returned value converted to the content of a field
abbrev pub returned : {A E : Type 0} → (A → Content) → Result A E → Result Content E
returned content (Ok a) = Ok (content a)
returned content (Err e) = Err e

-- a string, padded with spaces to `count` octets
abbrev pub spaced : (count : ℕ) → List ℕ → List ℕ
spaced count octets = octets ++ replicate (count - length octets) 32

-- the content of a field; a string is padded with spaces to `count` octets
abbrev pub padded_content : (count : ℕ) → FieldContent → Content
padded_content count (field_content.Number raw) = number raw
padded_content count (field_content.Text octets) = text (spaced count octets.now)
padded_content count field_content.Missing = missing
padded_content count (field_content.Reference value) = reference value

-- The content is valid for the field. A string must fit in the field and must not be read as
-- missing.
abbrev pub IsContentOf : FieldSpec → FieldContent → Type 0
IsContentOf spec (field_content.Number raw) =
    (is_character spec.kind ≡ false) × (is_reference spec.role ≡ false)
    × (raw < raw_limit spec.may_be_missing spec.width)
IsContentOf spec (field_content.Text octets) =
    (is_character spec.kind ≡ true) × (is_reference spec.role ≡ false)
    × ((length octets.now ≤ spec.width / 8)
    × (list_all (λ octet. octet == 255) (spaced (spec.width / 8) octets.now) ≡ false))
IsContentOf spec field_content.Missing =
    (is_reference spec.role ≡ false) × (spec.may_be_missing ≡ true)
IsContentOf spec (field_content.Reference value) =
    (is_reference spec.role ≡ true) × (unsigned_abs value < 2 ^ (spec.width - 1))

-- The bits of a redefined reference value represent minus zero (only the sign bit is set). Minus
-- zero is never written (our choice).
abbrev pub IsMinusZero : Role → List Bool → Type 0
IsMinusZero role.Reference bits = bits ≡ true ∷ replicate (length bits - 1) false
IsMinusZero _ bits = ⊥

-- ---- The normal form of an item, as a dump writes it (not part of FM 94 BUFR).

-- the digits that a dump writes for a number at the given scale; if the given digits cannot be read
-- as a number at that scale, they are left unchanged
abbrev pub decimal_again : List ℕ → ℤ → Result ℤ NumberFault → List ℕ
decimal_again digits scale (Ok value) = decimal_text_of value scale
decimal_again digits scale (Err why) = digits

-- The normal form of a value. A number is written as a decimal at the field's scale, and a string
-- is padded with spaces to the field's length.
abbrev pub normal_form : FieldSpec → DraftValue → DraftValue
normal_form spec (number_token digits) =
    number_token (decimal_again digits spec.scale (decimal_value_of digits spec.scale))
normal_form spec (text_form octets) =
    text_form (octets ++ replicate (spec.width / 8 - length octets) 32)
normal_form spec missing_form = missing_form
normal_form spec (reference_token digits) =
    reference_token (decimal_again digits (pos 0) (decimal_value_of digits (pos 0)))

-- a value of the given kind with the given digits or octets
abbrev pub value_by : ValueKind → (digits : ℕ) → List ℕ → DraftValue
value_by (value_kind.Decimal places negative) digits octets = number_token
    (short_text (record { digits = digits; places = places; negative = negative }))
value_by value_kind.Number digits octets = number_token octets
value_by value_kind.Text digits octets = text_form octets
value_by value_kind.Missing digits octets = missing_form
value_by value_kind.Reference digits octets = reference_token octets

-- an item with a value of the given kind, or the end of a subset if no kind is given
abbrev pub entry_by : Option ValueKind → (line fxy digits : ℕ) → List ℕ → DraftEntry
entry_by None line fxy digits octets = Ends line
entry_by (Some k) line fxy digits octets = Holds (draft line fxy (value_by k digits octets))

-- an entry of a document, given the stored entry and its octets
abbrev pub entry_with : StoredEntry → List ℕ → DraftEntry
entry_with e octets = entry_by e.kind e.line e.fxy e.start octets

-- the entries of a document, given the stored entries and the block that contains their octets
abbrev pub entries_stored : List ℕ → List StoredEntry → List DraftEntry
entries_stored block kept = map (λ e. entry_with e (slice_range block e.start e.end)) kept

-- whether an entry is the end of a subset
abbrev pub is_end : DraftEntry → Bool
is_end (Holds d) = false
is_end (Ends line) = true

-- the indices of the entries that end a subset; the first entry has index `from`
abbrev pub ends_of : (from : ℕ) → List DraftEntry → List ℕ
ends_of from [] = []
ends_of from (Holds d ∷ more) = ends_of (from + 1) more
ends_of from (Ends line ∷ more) = from ∷ ends_of (from + 1) more

-- whether values of the given kind are stored in the shared block
abbrev pub has_octets_of_kind : ValueKind → Bool
has_octets_of_kind (value_kind.Decimal places negative) = false
has_octets_of_kind value_kind.Missing = false
has_octets_of_kind _ = true

-- whether the value of a stored entry is in the shared block
abbrev pub has_octets : StoredEntry → Bool
has_octets e = option_map_or has_octets_of_kind e.kind false

-- `start..end` is a valid range in a block of the given size, unless the value is a short decimal.
abbrev pub AreOctetsInside : ValueKind → (size start end : ℕ) → Type 0
AreOctetsInside (value_kind.Decimal places negative) size start end = Unit {0}
AreOctetsInside _ size start end = (start ≤ end) × (end ≤ size)

-- The octets of the stored entry are within a block of the given size.
abbrev pub IsEntryInside : ℕ → StoredEntry → Type 0
IsEntryInside size e = IfSome e.kind (λ k. AreOctetsInside k size e.start e.end)

-- The octets of all stored entries are within a block of the given size.
abbrev pub AreInside : ℕ → List StoredEntry → Type 0
AreInside size kept = AllByRecursion (IsEntryInside size) kept

-- the total length of the ranges `start..end` of all stored entries
abbrev pub octets_stored : List StoredEntry → ℕ
octets_stored kept = sum_by (λ e. e.end - e.start) kept

-- the mathematical model of an item's value
abbrev pub form_in : given.DraftValue → DraftValue
form_in (item_value.Number digits) = number_token digits.now
form_in (item_value.Text octets) = text_form octets.now
form_in item_value.Missing = missing_form
form_in (item_value.Reference digits) = reference_token digits.now

-- the mathematical model of an item
abbrev pub draft_in : DraftItem → Draft
draft_in item = draft item.line item.fxy (form_in item.form)
