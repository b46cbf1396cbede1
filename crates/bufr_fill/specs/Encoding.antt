-- The data bits of a document, and how its items are written as plain or compressed data (FM 94
-- BUFR, section 4). The order of the checks, and the base and k (increment size) of each item, are
-- our choice.
-- Cited by public contracts.
use Rattle.std.specs.Prelude.{Bool, List, [], ◌∷◌, ◌++◌, Result, Ok, Err, ℕ, zero, suc, ◌+◌, ◌-◌, ◌==◌, ◌&&◌, nat_lt, nat_le, min, not, true, false, if◌then◌else◌, take, replicate, length, Option, Some, None, unwrap_or, ◌≡◌, ◌≤◌, drop, max, map, slice_get}
pub use Rattle.bufr_walk.specs.declared.spec.Taken.{Taken}
use Rattle.bufr_walk.specs.Prelude.{Coding, numbers, texts, coding_of, step_of, same, FieldSpec, Content, number, text, bits_for, found, answer_of, packed_field, answer_first, Course, Item, Step, Passing, Pass, pass, would_be_many}
use Rattle.std.specs.List.{list_all, flat_map}
use Rattle.std.specs.Option.{option_map_or}
use Rattle.std.specs.Result.{result_map_both}
use Rattle.std.specs.Str.{bytes_eq}
use Rattle.bufr_bits.specs.Prelude.{◌>>=◌, bits_of, bits_in, number_of, map_err}
pub use Rattle.bufr_tables.specs.declared.table_b.Kind.{Kind}
use Rattle.bufr_walk.specs.declared.spec.Role.TheVariants as role
use Rattle.bufr_fill.specs.Draft.{TurnRefusal, Draft, Subset, DraftFault, at_line, item_too_many, walk_refused, too_many_values, Role, content_of, wrong_for, raw_limit, ItemFault}
use Rattle.bufr_fill.specs.declared.fault.ItemFault.TheVariants as item_fault

-- an item that was written, with its content and its bits
pub record WrittenItem (C : Type 0) : Type 0 where
  pub content : C
  pub bits : List Bool

abbrev pub written_item : {C : Type 0} → C → List Bool → WrittenItem C
written_item content bits = record { content = content; bits = bits }

-- How a list of items is written, with one item for each field. D is the type of the input for one
-- field, which is an item or, in compressed data, a row with the items of all subsets. C is the
-- type of the field's content, and E is the type of a fault.
pub record Filler (D C E : Type 0) : Type 0 where
  -- the result of writing an item into a field
  pub fills : FieldSpec → D → Result (WrittenItem C) E
  -- the part of a field's content that affects the walk
  pub gives : FieldSpec → C → Taken
  -- the fault if another field follows but no items remain
  pub none_left : FieldSpec → E
  -- the fault if the template ends before the given item
  pub left_over : D → E
  -- the fault if the walk rejects a descriptor before it reaches the given item
  pub refused_at : D → TurnRefusal → E
  -- the fault if the walk rejects a descriptor after the last item
  pub refused_at_end : TurnRefusal → E
  -- a fault that never occurs (see `Passing`)
  pub lost : E

module _ {D C E : Type 0} (filler : Filler D C E) where
  -- the given bits followed by those of the result or, if the result is a fault, that fault
  abbrev pub with_bits_before : List Bool → Result (List Bool) E → Result (List Bool) E
  with_bits_before bits (Err why) = Err why
  with_bits_before bits (Ok suffix) = Ok (bits ++ suffix)

  -- the step that writes the next item into the given field
  abbrev pub write_first : FieldSpec → List D → Result (Step (List D) (WrittenItem C)) E
  write_first spec [] = Err (filler.none_left spec)
  write_first spec (d ∷ left) = do
    w ← filler.fills spec d
    Ok (record { content = w; returned = filler.gives spec w.content; state = left })

  -- the fault if the walk rejects a descriptor before the next item or after the last item
  abbrev pub refused_first : TurnRefusal → List D → E
  refused_first why [] = filler.refused_at_end why
  refused_first why (d ∷ left) = filler.refused_at d why

  -- the fault if items remain at the end of the template
  abbrev pub none_over : List D → Option E
  none_over [] = None
  none_over (d ∷ left) = Some (filler.left_over d)

  -- how a pass over the template writes items; its state is the list of remaining items
  -- rule: fault-62-first
  abbrev pub filling : Passing (List D) (WrittenItem C) E
  filling = record {
    step = write_first;
    refuses = refused_first;
    ends = none_over;
    lost = filler.lost;
  }

  -- the pass that writes the given items; the bound `suc (length drafts)` is large enough because
  -- each field uses one item
  abbrev pub fill_pass : Course → List D → Pass (List D) (WrittenItem C) E
  fill_pass course drafts = pass filling (suc (length drafts)) course drafts

abbrev pub bits_written : {C : Type 0} → List (Item (WrittenItem C)) → List Bool
bits_written {C} items = flat_map (λ (i : Item (WrittenItem C)). i.content.bits) items

-- a pass with the given items added before its own
abbrev pub with_items : {S C E : Type 0} → List (Item C) → Pass S C E → Pass S C E
with_items items p = record p { items = items ++ p.items }

-- the bits that a pass wrote, or the fault that stopped the pass
abbrev pub bits_of_pass : {S C E : Type 0} → Pass S (WrittenItem C) E → Result (List Bool) E
bits_of_pass p = option_map_or (λ why. Err why) p.stop (Ok (bits_written p.items))

-- the bits written for the given items, or the fault that stopped writing
abbrev pub fill : {D C E : Type 0} → Filler D C E → Course → List D → Result (List Bool) E
fill filler course drafts = bits_of_pass (fill_pass filler course drafts)

-- the least number that a field contains in any subset, or `None` if it contains no numbers
-- rule: packs-numbers
abbrev pub lowest : List Content → Option ℕ
lowest [] = None
lowest (number n ∷ cs) = Some (option_map_or (min n) (lowest cs) n)
lowest (_ ∷ cs) = lowest cs

-- Whether the content of a field can be read back from an increment with the given k, provided that
-- no number is less than `base` and no string is shorter than k octets. The increment of a number
-- must fit in k bits and, if the field may be missing, must not have all bits set. The first k
-- octets of a string must not all be 255, and all later octets must be spaces. A missing value can
-- always be represented by an increment with all bits set.
-- rule: packs-numbers, packs-texts-not-missing
abbrev pub has_increment : Coding → (base k : ℕ) → Content → Bool
has_increment (numbers width m) base k (number n) = nat_lt (n - base) (raw_limit m k)
has_increment (texts count) base k (text octets) =
    bytes_eq (take k octets ++ replicate (length octets - k) 32) octets
    && not (list_all (λ octet. octet == 255) (take k octets))
has_increment c base k _ = true

-- the first number from k to k + `fuel` - 1 that passes the test, or k + `fuel` if none does
abbrev pub first_from : (ℕ → Bool) → ℕ → ℕ → ℕ
first_from p zero k = k
first_from p (suc fuel) k = if p k then k else first_from p fuel (k + 1)

-- the least k from 1 to 63 for which the test succeeds for all contents, or 64 if there is none; k
-- is written in six bits
-- rule: packs-numbers
abbrev pub least_k : (ℕ → Content → Bool) → List Content → ℕ
least_k passes cs = first_from (λ k. list_all (passes k) cs) 63 1

-- the increment that represents the content of a field; if the content is missing, all bits of the
-- increment are set
abbrev pub increment_for : Coding → (base k : ℕ) → Content → List Bool
increment_for (numbers width m) base k (number n) = bits_in (n - base) k
increment_for (texts count) base k (text octets) = bits_of (take k octets)
increment_for c base k _ = replicate (step_of c k) true

-- the bits of a packed item, which consist of the base, k (in six bits), and the increments
abbrev pub packed_bits : (base : List Bool) (k : ℕ) (more : List Bool) → List Bool
packed_bits base k more = base ++ (bits_in k 6 ++ more)

-- The bits of an item whose content differs between subsets. The base is the least number, or 0 for
-- strings. If a string would need a k greater than 63, the result is fault 59.
-- rule: packs-numbers, packs-texts, fault-59
abbrev pub packed_over : FieldSpec → List Content → Result (List Bool) ItemFault
packed_over spec cs =
    let c = coding_of spec in
    let base = unwrap_or (lowest cs) 0 in
    let k = least_k (has_increment c base) cs in
    let increments = flat_map (increment_for c base k) cs in
    if nat_le k 63 then Ok (packed_bits (bits_in base spec.width) k increments)
    else Err item_fault.Increment

-- the bits of an item that differs between subsets, or a fault; replication factors and redefined
-- reference values must not differ
-- rule: packs-factors-and-references, fault-59
abbrev pub packed_unlike : Role → FieldSpec → List Content → Result (List Bool) ItemFault
packed_unlike role.Factor spec cs = Err item_fault.UnequalFactor
packed_unlike role.Reference spec cs = Err item_fault.Increment
packed_unlike _ spec cs = packed_over spec cs

-- the bits of one item, given its content in each subset; if the content is the same in every
-- subset, it is written as the base, and k is 0
-- rule: packs-equal, packs-all-missing
abbrev pub packing : FieldSpec → List Content → Result (List Bool) ItemFault
packing spec [] = Ok []
packing spec (c ∷ cs) =
    if list_all (same c) cs then Ok (packed_bits (bits_for spec.width c) 0 [])
    else packed_unlike spec.role spec (c ∷ cs)

-- the k of an item, which is the number in the six bits after the base
abbrev pub k_of : FieldSpec → List Bool → ℕ
k_of spec bits = number_of (take 6 (drop spec.width bits))

-- The contents of an item can be packed into bits, which are read back as the same contents. No
-- other encoding of these contents has a smaller k or fewer bits.
pub record HasLeastK (n : ℕ) (spec : FieldSpec) (contents : List Content) : Type 0 where
  pub out : List Bool
  pub is : packing spec contents ≡ Ok out
  pub again : (more : List Bool) → packed_field n spec (out ++ more) ≡ Ok (found contents more)
  pub least : (bits suffix : List Bool) → packed_field n spec bits ≡ Ok (found contents suffix)
      → k_of spec out ≤ k_of spec bits
  pub short : (bits suffix : List Bool) → packed_field n spec bits ≡ Ok (found contents suffix)
      → length out + length suffix ≤ length bits

-- the content that an item specifies, or a fault; if the subset has no more items, the fault is
-- reported for line `end_line`, which ends the subset
-- rule: fault-51
abbrev pub item_content : FieldSpec → Option Draft → (end_line : ℕ) → Result Content DraftFault
item_content spec None end_line = Err (at_line end_line (wrong_for spec))
item_content spec (Some d) end_line = map_err (at_line d.line) (content_of spec d)

-- How the items of one subset are written as plain data. The subset ends on line `end_line`.
-- rule: fault-51, fault-62
abbrev pub plain_filler : (end_line : ℕ) → Filler Draft Content DraftFault
plain_filler end_line = record {
  fills = λ spec d.
      item_content spec (Some d) end_line >>= λ c. Ok (written_item c (bits_for spec.width c));
  gives = answer_of;
  none_left = λ spec. at_line end_line (wrong_for spec);
  left_over = λ d. at_line d.line item_too_many;
  refused_at = λ d why. at_line d.line (walk_refused why);
  refused_at_end = λ why. at_line end_line (walk_refused why);
  lost = at_line end_line item_too_many;
}

-- The bits of plain data, or the first fault. The subsets are written one after another, and the
-- template is processed again for each subset.
abbrev pub plain_data : Course → List Subset → Result (List Bool) DraftFault
plain_data course [] = Ok []
plain_data course (s ∷ subsets) = do
  first ← fill (plain_filler s.end_line) course s.items
  rest ← plain_data course subsets
  Ok (first ++ rest)

-- ---- How compressed data are written.

-- a cell of a row, with the item of one subset (`None` if the subset has no more items) and the
-- number of the line that ends the subset
pub record RowCell : Type 0 where
  pub draft : Option Draft
  pub end_line : ℕ

-- the items with the same index (counted from 0) in all subsets, which are written as one item of
-- compressed data
pub record ItemRow : Type 0 where
  pub index : ℕ
  pub cells : List RowCell

-- the number of the line with a cell's item or, if there is none, with the end of the subset
abbrev pub cell_line : RowCell → ℕ
cell_line c = option_map_or (λ (d : Draft). d.line) c.draft c.end_line

-- the cells of the row at the given index
abbrev pub cells_at : ℕ → List Subset → List RowCell
cells_at index subsets =
    map (λ (s : Subset). record { draft = slice_get s.items index; end_line = s.end_line }) subsets

abbrev pub item_row : ℕ → List Subset → ItemRow
item_row index subsets = record { index = index; cells = cells_at index subsets }

-- `count` rows, starting with the row at index `from`
abbrev pub rows : (count from : ℕ) → List Subset → List ItemRow
rows zero from subsets = []
rows (suc n) from subsets = item_row from subsets ∷ rows n (from + 1) subsets

-- the number of items in the longest subset
abbrev pub most_items : List Subset → ℕ
most_items [] = 0
most_items (s ∷ subsets) = max (length s.items) (most_items subsets)

-- the line number of the first cell in a row, or 0 if there are no subsets
abbrev pub first_line : List RowCell → ℕ
first_line [] = 0
first_line (c ∷ cs) = cell_line c

-- the line number of the first item in a row; cells without an item are skipped
abbrev pub first_item_line : List RowCell → ℕ
first_item_line [] = 0
first_item_line (c ∷ cs) = option_map_or (λ (d : Draft). d.line) c.draft (first_item_line cs)

-- the contents that the cells of a row specify, or the fault in the first invalid cell
abbrev pub row_contents : FieldSpec → List RowCell → Result (List Content) DraftFault
row_contents spec [] = Ok []
row_contents spec (c ∷ cs) = do
  first ← item_content spec c.draft c.end_line
  rest ← row_contents spec cs
  Ok (first ∷ rest)

-- the line number of the first cell whose content differs from c
abbrev pub first_unlike : Content → List Content → List RowCell → ℕ
first_unlike c [] cells = 0
first_unlike c (d ∷ ds) [] = 0
first_unlike c (d ∷ ds) (cell ∷ cells) = if same c d then first_unlike c ds cells
    else cell_line cell

-- the line number of the first item whose content differs from that in subset 1
-- rule: fault-58
abbrev pub unlike_line : List Content → List RowCell → ℕ
unlike_line [] cells = 0
unlike_line (c ∷ cs) cells = first_unlike c (c ∷ cs) cells

-- the fault in a row that cannot be packed; `UnequalFactor` is reported for the first item that
-- differs from that of subset 1, and any other fault for the item of subset 1
-- rule: fault-58
abbrev pub packing_fault : List Content → List RowCell → ItemFault → DraftFault
packing_fault cs cells item_fault.UnequalFactor =
    at_line (unlike_line cs cells) item_fault.UnequalFactor
packing_fault cs cells why = at_line (first_line cells) why

-- The item that is written for a row, or the first fault. The number of values is checked first,
-- and then the item of each subset; finally, the contents are packed. `result_map_both` applies its
-- first function to the value in `Ok`, or its second function to the fault in `Err`.
-- rule: fault-order-of-subsets
abbrev pub pack_across : FieldSpec → ItemRow → Result (WrittenItem (List Content)) DraftFault
pack_across spec a =
    if would_be_many (length a.cells) a.index
    then Err (at_line (first_line a.cells) (too_many_values spec.fxy))
    else do
      cs ← row_contents spec a.cells
      result_map_both (written_item cs) (packing_fault cs a.cells) (packing spec cs)

-- How the rows of compressed data are written. `many` is true if one more row would exceed the
-- maximum number of values. If `many` is true, a field after the last row is reported as too many
-- values, not as a missing item. Faults after the last row are reported for the line that ends the
-- first subset (`end_line`).
-- rule: fault-62
abbrev pub packed_filler : (end_line : ℕ) (many : Bool) → Filler ItemRow (List Content) DraftFault
packed_filler end_line many = record {
  fills = pack_across;
  gives = answer_first;
  none_left = λ spec. if many then at_line end_line (too_many_values spec.fxy)
      else at_line end_line (wrong_for spec);
  left_over = λ a. at_line (first_item_line a.cells) item_too_many;
  refused_at = λ a why. at_line (first_line a.cells) (walk_refused why);
  refused_at_end = λ why. at_line end_line (walk_refused why);
  lost = at_line end_line item_too_many;
}

-- The bits of compressed data, or the first fault. A single pass over the template writes the rows
-- of all subsets. If there are no subsets, nothing is written.
abbrev pub packed_data : Course → List Subset → Result (List Bool) DraftFault
packed_data course [] = Ok []
packed_data course (s ∷ subsets) =
    let most = most_items (s ∷ subsets) in
    let filler = packed_filler s.end_line (would_be_many (length (s ∷ subsets)) most) in
    fill filler course (rows most 0 (s ∷ subsets))

-- the data bits of a document's subsets, or the first fault
abbrev pub data_bits : (compressed : Bool) → Course → List Subset → Result (List Bool) DraftFault
data_bits true course subsets = packed_data course subsets
data_bits false course subsets = plain_data course subsets
