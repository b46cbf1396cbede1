-- Only contracts need this file. Written data are read back as the same contents, whether the
-- contents came from a message or from a document (FM 94 BUFR, section 4).
use Rattle.std.specs.Prelude.{ℕ, ◌≡◌, ◌<◌, ◌-◌, ◌/◌, ◌^◌, ◌==◌, Bool, true, false, List, length, nat_abs, ◌≤◌, ◌++◌, Ok, ◌⊎◌, Err, drop, None}
use Rattle.std.specs.List.{list_all, AllByRecursion, AllZip}
use Rattle.bufr_walk.specs.declared.spec.Role.TheVariants as role
use Rattle.bufr_walk.specs.Prelude.{FieldSpec, Content, number, text, missing, reference, Course, next_item, TakenField, answers_of, answers_in, subsets_from, Item, Data, Values, together, each_subset, reading_of}
use Rattle.bufr_fill.specs.Draft.{at_line, Role, raw_limit, draft_value_of, content_of, Draft, Subset, DraftValue, number_token, text_form, missing_form, reference_token, ItemFault}
use Rattle.bufr_fill.specs.declared.fault.ItemFault.TheVariants as item_fault
use Rattle.bufr_fill.specs.Encoding.{Kind, packed_data, data_bits, Filler, WrittenItem, fill_pass, bits_written, with_items}
use Rattle.bufr_tables.specs.Prelude.{IsLegal, Record, Row, AreRows, Tree}
use Rattle.bufr_tables.specs.declared.table_b.Kind.TheVariants as kind

-- Each number is less than 256.
abbrev pub AreOctets : List ℕ → Type 0
AreOctets xs = AllByRecursion (λ (x : ℕ). x < 256) xs

-- The content is a number that fits in the data width and is not read as missing, or it is missing
-- and the field may be missing (m).
abbrev pub FitsNumber : Bool → ℕ → Content → Type 0
FitsNumber m width (number raw) = raw < raw_limit m width
FitsNumber m width missing = m ≡ true
FitsNumber m width _ = ⊥

-- The content is a missing value, or a string of `count` octets that is not read as missing.
abbrev pub FitsText : ℕ → Content → Type 0
FitsText count (text octets) =
    (length octets ≡ count) × AreOctets octets × (list_all (λ octet. octet == 255) octets ≡ false)
FitsText count missing = Unit {0}
FitsText count _ = ⊥

-- The content is a redefined reference value whose magnitude fits in the bits after the sign bit.
abbrev pub FitsReference : ℕ → Content → Type 0
FitsReference width (reference value) = nat_abs value < 2 ^ (width - 1)
FitsReference width _ = ⊥

-- The content fits a field of the given kind.
abbrev pub FitsKind : Kind → Bool → ℕ → Content → Type 0
FitsKind kind.Character m width c = FitsText (width / 8) c
FitsKind kind.Coded m width c = FitsNumber m width c
FitsKind kind.Numeric m width c = FitsNumber m width c

-- The content fits a field of the given role.
abbrev pub FitsRole : Role → FieldSpec → Content → Type 0
FitsRole role.Reference spec c = FitsReference spec.width c
FitsRole _ spec c = FitsKind spec.kind spec.may_be_missing spec.width c

-- The content is valid for the field.
abbrev pub Fits : FieldSpec → Content → Type 0
Fits spec c = FitsRole spec.role spec c

-- All of the contents are valid for the field.
abbrev pub AllFit : FieldSpec → List Content → Type 0
AllFit spec cs = AllByRecursion (λ (c : Content). Fits spec c) cs

-- The draft has the descriptor and the value that a dump writes for the item.
abbrev pub IsDumped : Item Content → Draft → Type 0
IsDumped i d = (d.fxy ≡ i.spec.fxy) × (d.form ≡ draft_value_of i.spec i.content)

-- Both lists have the same length, and `of_item` holds for each item and the draft at the same
-- index.
abbrev pub AreDrafts : {C D : Type 0} → (Item C → D → Type 0) → List (Item C) → List D → Type 0
AreDrafts of_item items ds = AllZip of_item items ds

-- The drafts have the descriptors and the values that a dump writes for the items of each subset.
abbrev pub AreDumped : List (List (Item Content)) → List Subset → Type 0
AreDumped = AllZip (λ (items : List (Item Content)) (s : Subset). AreDrafts IsDumped items s.items)

-- The data can be read, and their first `used` bits contain the given values.
pub record HasReading (course : Course) (d : Data) (values : Values) (used : ℕ) : Type 0 where
  pub none : (reading_of course d).stop ≡ None
  pub values_are : (reading_of course d).values ≡ values
  pub left : (reading_of course d).left ≡ drop used d.bits
  pub within : used ≤ length d.bits

-- Encoding the drafts gives bits that are read back as the given values for n subsets, even if
-- other bits follow.
pub record IsWritten (course : Course) (compressed : Bool) (n : ℕ) (values : Values)
    (drafts : List Subset) : Type 0 where
  pub out : List Bool
  pub is : data_bits compressed course drafts ≡ Ok out
  pub again : (more : List Bool) → HasReading course
      (record { compressed = compressed; subsets = n; bits = out ++ more }) values (length out)

-- Encoding the drafts gives at most `used` bits, which are read back as the given values.
abbrev pub IsWrittenAgain : Course → Data → Values → (used : ℕ) → List Subset → Type 0
IsWrittenAgain course d values used drafts =
    (w : IsWritten course d.compressed d.subsets values drafts) × (length w.out ≤ used)

-- The fault means that compressed data cannot represent the items.
abbrev pub IsUnlike : ItemFault → Type 0
IsUnlike item_fault.UnequalFactor = Unit {0}
IsUnlike item_fault.Increment = Unit {0}
IsUnlike _ = ⊥

-- Encoding the drafts as compressed data either gives bits that are read back as the items of the
-- given subsets or fails because compressed data cannot represent these items.
abbrev pub IsTogetherOrNot : Course → List (List (Item Content)) → List Subset → Type 0
IsTogetherOrNot course subsets drafts =
    ((items : List (Item (List Content))) × (subsets_from (length subsets) 0 items ≡ subsets)
    × IsWritten course true (length subsets) (together items) drafts)
    ⊎ ((line : ℕ) × (why : ItemFault) × (packed_data course drafts ≡ Err (at_line line why))
    × IsUnlike why)

-- ---- Reading data that were written from drafts (not part of FM 94 BUFR).

-- If the value is a string, each of its octets is less than 256.
abbrev pub HasOctets : DraftValue → Type 0
HasOctets (number_token digits) = Unit {0}
HasOctets (text_form octets) = AreOctets octets
HasOctets missing_form = Unit {0}
HasOctets (reference_token digits) = Unit {0}

-- Every octet of every string in the drafts is less than 256.
abbrev pub AllHaveOctets : List Subset → Type 0
AllHaveOctets ss =
    AllByRecursion (λ (s : Subset). AllByRecursion (λ (d : Draft). HasOctets d.form) s.items) ss

-- The item has the content that the draft specifies for its field.
abbrev pub IsSpecified : Item Content → Draft → Type 0
IsSpecified i d = content_of i.spec d ≡ Ok i.content

-- Each item has the content that is specified by the draft at the same index in the same subset.
abbrev pub AreSpecified : List (List (Item Content)) → List Subset → Type 0
AreSpecified =
    AllZip (λ (items : List (Item Content)) (s : Subset). AreDrafts IsSpecified items s.items)

-- The bits are read back as the contents that the drafts specify, even if other bits follow.
pub record IsReadBack (course : Course) (compressed : Bool) (drafts : List Subset)
    (bits : List Bool) : Type 0 where
  pub values : Values
  pub said : AreSpecified (each_subset (length drafts) values) drafts
  pub read : (suffix : List Bool) → HasReading course
      (record { compressed = compressed; subsets = length drafts; bits = bits ++ suffix }) values
      (length bits)

-- ---- Drafts that specify the same contents, even if they are spelled differently (not part of FM
-- 94 BUFR).

-- Both drafts specify the same content, or have the same fault, for every field.
abbrev pub IsAlike : Draft → Draft → Type 0
IsAlike a b = (spec : FieldSpec) → content_of spec a ≡ content_of spec b

-- Drafts at corresponding positions specify the same content, or have the same fault, for every
-- field. The line numbers may differ.
abbrev pub AllAlike : List Subset → List Subset → Type 0
AllAlike ss ts = AllZip (λ (s t : Subset). AllZip IsAlike s.items t.items) ss ts

-- ---- Definitions shared by the theorems about writing.

-- The statement `law` holds for the walk over any legal template with any valid Table B.
abbrev pub OfTemplates : (Course → Type 0) → Type 0
OfTemplates law =
    (records : List Record) (table : List Row) (template : Tree) → AreRows records table
    → IsLegal template → law (next_item table template)

-- A walk wrote the bits of all drafts except those in `left`. `fill_pass` writes the same items and
-- then continues with the drafts in `left`.
pub record WritesDrafts {D C E : Type 0} (filler : Filler D C E) (course : Course)
    (walked : List TakenField) (old new : List Bool) (drafts left : List D) : Type 0 where
  pub items : List (Item (WrittenItem C))
  pub bits : new ≡ old ++ bits_written items
  pub answers : answers_in (λ spec w. filler.gives spec w.content) items ≡ answers_of walked
  pub is : fill_pass filler course drafts
      ≡ with_items items (fill_pass filler (λ more. course (answers_of walked ++ more)) left)
