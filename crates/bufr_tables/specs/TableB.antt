-- The rows of Table B, the limits on their fields, and the kinds of elements (FM 94 BUFR, Table B;
-- the format of the file, the limits, the faults and the kinds are our choice).
-- Cited by public contracts.
use Rattle.std.specs.Prelude.{ℕ, Bool, if◌then◌else◌, ◌||◌, List, length, take, codes, ◌≡◌, ◌%◌, ◌==◌, ◌&&◌, true, false, not, nat_le, ℤ, [], ◌∷◌, ◌++◌, map, nat_eq, Option, Some, None, is_some, Result, Ok, Err, ◌+◌, ◌-◌, ◌≤◌, slice_range, ◌<◌, slice_index, drop, pos, neg_ℤ, nat_lt, ◌^◌}
use Rattle.std.specs.Str.{str_eq_ignore_ascii_case}
use Rattle.bufr_tables.specs.declared.table_b.Kind.{Kind}
use Rattle.bufr_tables.specs.declared.table_b.Kind.TheVariants.{Character, Coded, Numeric}
use Rattle.std.specs.List.{IsDistinct, find, list_all, AllByRecursion}
use Rattle.std.specs.Int.RustNames.{unsigned_abs}
use Rattle.bufr_tables.specs.declared.fault.TableFault.{TableFault}
use Rattle.bufr_tables.specs.declared.fault.TableFault.TheVariants as table
use Rattle.bufr_tables.specs.Fxy.{◌>>=◌, only_if, f_of, fxy_of, fxy_text, is_factor, y_of}
use Rattle.bufr_tables.specs.Records.{Record, field_of, table_of}
use Rattle.bufr_tables.specs.declared.table_b.Stored.{Stored}
use Rattle.bufr_tables.specs.declared.table_b.ParsedRow.{ParsedRow}
use Rattle.bufr_tables.specs.declared.table_b.TableB.TheInside.{Inside}
use Rattle.std.specs.Char.{is_ascii_digit}
use Rattle.std.specs.Str.Parse.{digits_value}

-- ---- The numbers in the fields of a row (not part of FM 94 BUFR).

-- the number represented by a string of one or more digits, or `None` for any other string
unfoldable pub natural_of : List ℕ → Option ℕ
natural_of text =
    only_if (nat_lt 0 (length text) && list_all is_ascii_digit text) (digits_value 10 text)

-- the integer that a string represents (one or more digits after an optional `-`), or `None` if the
-- string does not represent an integer from -2^63 to 2^63 - 1
unfoldable pub i64_of : List ℕ → Option ℤ
i64_of text =
    if slice_index text 0 == 45
    then (natural_of (drop 1 text) >>= λ n. only_if (nat_le n (2 ^ 63)) (neg_ℤ (pos n)))
    else natural_of text >>= λ n. only_if (nat_lt n (2 ^ 63)) (pos n)

-- ---- The kind of an element, which depends on its unit. Letter case is ignored (not part of FM 94
-- BUFR).

-- whether a string begins with the given words, ignoring ASCII case
unfoldable pub begins_with : List ℕ → List ℕ → Bool
begins_with text words = str_eq_ignore_ascii_case (take (length words) text) words

-- the kind of an element with the given unit
-- rule: kind-by-unit
unfoldable pub kind_of : List ℕ → Kind
kind_of unit =
    if str_eq_ignore_ascii_case unit (codes "CCITT IA5") then Character
    else if begins_with unit (codes "Code table") || begins_with unit (codes "Common code table")
    || begins_with unit (codes "Flag table") then Coded else Numeric

-- a row of Table B, which describes one element; the data width is in bits
pub record Row : Type 0 where
  pub fxy : ℕ
  pub name : List ℕ
  pub unit : List ℕ
  pub kind : Kind
  pub scale : ℤ
  pub reference : ℤ
  pub width : ℕ

-- the six-digit descriptor and the space at the start of an item's line in a dump
abbrev pub row_line_start : Row → List ℕ
row_line_start row = fxy_text row.fxy ++ codes " "

-- the comment at the end of an item's line in a dump (`  # NAME [UNIT]` and a line feed)
abbrev pub row_comment : Row → List ℕ
row_comment row = codes "  # " ++ row.name ++ codes " [" ++ row.unit ++ codes "]\n"

-- the header of a Table B file
-- rule: fault-40
abbrev pub columns_b : List (List ℕ)
columns_b =
    codes "fxy" ∷ codes "name" ∷ codes "unit" ∷ codes "scale" ∷ codes "reference"
    ∷ codes "width" ∷ []

-- the element descriptor that a string represents, or `None` for any other string
unfoldable pub element_of : List ℕ → Option ℕ
element_of text = fxy_of text >>= λ fxy. only_if (f_of fxy == 0) fxy

-- whether an octet is not an ASCII control character
abbrev pub is_printed : ℕ → Bool
is_printed octet = nat_le 32 octet && not (octet == 127)

-- whether a string is a valid name or unit, which has at most 512 octets and contains no control
-- characters
abbrev pub is_name : List ℕ → Bool
is_name text = nat_le (length text) 512 && list_all is_printed text

unfoldable pub plain_of : List ℕ → Option (List ℕ)
plain_of text = only_if (is_name text) text

-- the scale that a string represents, or `None` if it is not an integer from -127 to 127
unfoldable pub scale_of : List ℕ → Option ℤ
scale_of text = i64_of text >>= λ scale. only_if (nat_le (unsigned_abs scale) 127) scale

-- Whether a data width in bits is valid for elements of the given kind (our choice). A text element
-- is 1 to 255 whole octets wide, since 2 08 Y can set a width of at most 255 octets. Other elements
-- are 1 to 63 bits wide.
abbrev pub allows_width : Kind → ℕ → Bool
allows_width Character width = nat_le 8 width && nat_le width 2040 && (width % 8 == 0)
allows_width _ width = nat_le 1 width && nat_le width 63

-- the data width that a string represents, or `None` if it is invalid for the given kind of element
unfoldable pub width_of : Kind → List ℕ → Option ℕ
width_of kind text = natural_of text >>= λ width. only_if (allows_width kind width) width

abbrev pub is_character : Kind → Bool
is_character Character = true
is_character _ = false

-- Whether a row passes the checks for replication factors; rows of other elements always pass. A
-- factor must be 1, 8 or 16 bits wide, depending on its Y, must have scale 0 and reference value 0,
-- and must not be text.
unfoldable pub is_valid_factor : Row → Bool
is_valid_factor row =
    let width = if y_of row.fxy == 0 then 1 else if y_of row.fxy == 1 then 8 else 16 in
    not (is_factor row.fxy) || ((row.width == width) && (unsigned_abs row.scale == 0)
    && (unsigned_abs row.reference == 0) && not (is_character row.kind))

-- the row that a record contains, or `None` if any field is invalid
-- rule: fault-41-of-table-b
unfoldable pub row_of : Record → Option Row
row_of r = do
  fxy ← element_of (field_of r 0)
  name ← plain_of (field_of r 1)
  unit ← plain_of (field_of r 2)
  scale ← scale_of (field_of r 3)
  reference ← i64_of (field_of r 4)
  width ← width_of (kind_of unit) (field_of r 5)
  let row : Row =
      record {
        fxy = fxy;
        name = name;
        unit = unit;
        kind = kind_of unit;
        scale = scale;
        reference = reference;
        width = width;
      }
  only_if (is_valid_factor row) row

-- The row is valid. The row's unit determines its kind, and its data width is valid for that kind.
-- If the element is a replication factor, the row also satisfies `is_valid_factor`.
pub record IsRow (row : Row) : Type 0 where
  pub name : is_name row.name ≡ true
  pub unit : is_name row.unit ≡ true
  pub kind : row.kind ≡ kind_of row.unit
  pub scale : nat_le (unsigned_abs row.scale) 127 ≡ true
  pub width : allows_width row.kind row.width ≡ true
  pub factor : is_valid_factor row ≡ true

-- the row for an element, or `None` if the table has no such row
abbrev pub entry_of : List Row → ℕ → Option Row
entry_of rows fxy = find (λ row. row.fxy == fxy) rows

-- The rows so far, followed by the row in record n. If record n contains no valid row, or if an
-- earlier row describes the same element, the result is a fault instead.
-- rule: fault-42
abbrev pub with_row : ℕ → List Row → Option Row → Result (List Row) TableFault
with_row n rows None = Err (table.Row n)
with_row n rows (Some row) =
    if is_some (entry_of rows row.fxy) then Err (table.Duplicate row.fxy) else Ok (rows ++ row ∷ [])

-- the rows so far and the row in record n, or the fault in that record; a record must have six
-- fields
-- rule: fault-45, order-in-a-record
unfoldable pub with_record_b : ℕ → List Row → Record → Result (List Row) TableFault
with_record_b n rows r = if length r == 6 then with_row n rows (row_of r) else Err table.Csv

-- the Table B rows defined by the records, or the first fault
abbrev pub table_b_of : List Record → Result (List Row) TableFault
table_b_of records = table_of columns_b with_record_b [] records

-- The records after the header contain the rows of the table, in order, and no two rows describe
-- the same element.
pub record AreRows (records : List Record) (table : List Row) : Type 0 where
  pub rest : List Record
  pub split : records ≡ columns_b ∷ rest
  pub rows : map row_of rest ≡ map Some table
  pub distinct : IsDistinct nat_eq (map (λ row. row.fxy) table)

-- ---- How Table B is stored. A single block of octets contains the names and units of all rows.

-- The row of a stored element. In the block, the element's name comes after `FXXYYY   # `, and its
-- unit is between ` [` and `]`.
abbrev pub stored_row : List ℕ → Stored → Row
stored_row octets s =
    record {
      fxy = s.fxy;
      name = slice_range octets (s.start + 11) s.middle;
      unit = slice_range octets (s.middle + 2) (s.end - 2);
      kind = s.kind;
      scale = s.scale;
      reference = s.reference;
      width = s.width;
    }

-- The indices in a stored element are in ascending order and within the block. The octets from
-- `start` to `end` are the beginning and the final comment of the element's line in a dump.
pub record IsRowKept (octets : List ℕ) (s : Stored) : Type 0 where
  pub name : s.start + 11 ≤ s.middle
  pub unit : s.middle + 4 ≤ s.end
  pub inside : s.end ≤ length octets
  pub line_start : slice_range octets s.start (s.start + 7) ≡ row_line_start (stored_row octets s)
  pub comment : slice_range octets (s.start + 7) s.end ≡ row_comment (stored_row octets s)

-- the row that was parsed from a record of the file
abbrev pub row_parsed : ParsedRow → Row
row_parsed r =
    record {
      fxy = r.fxy;
      name = r.name.now;
      unit = r.unit.now;
      kind = r.kind;
      scale = r.scale;
      reference = r.reference;
      width = r.width;
    }

abbrev pub stored_rows : List ℕ → List Stored → List Row
stored_rows octets stored = map (stored_row octets) stored

-- The new block begins with the old block.
abbrev pub ExtendsBlock : List ℕ → List ℕ → Type 0
ExtendsBlock old new = (more : List ℕ) × (new ≡ old ++ more)

-- The stored element represents the parsed row, and its octets are in the block.
pub record IsStored (octets : List ℕ) (row : ParsedRow) (s : Stored) : Type 0 where
  pub same : stored_row octets s ≡ row_parsed row
  pub kept : IsRowKept octets s

-- Every element is stored in the block and has a valid row, and the index contains the descriptors
-- of all elements.
pub record IsTableB (a : Inside) : Type 0 where
  pub kept : AllByRecursion (IsRowKept a.octets.items) a.stored.items
  pub elements : AllByRecursion (λ s. s.fxy < 16384) a.stored.items
  pub members_or_none : a.directory ≡ map (λ s. s.fxy) a.stored.items
  pub limits : AllByRecursion IsRow (stored_rows a.octets.items a.stored.items)

abbrev pub table_b_rows : Inside → List Row
table_b_rows a = stored_rows a.octets.items a.stored.items
