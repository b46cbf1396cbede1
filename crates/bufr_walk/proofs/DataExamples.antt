-- Worked examples of whole readings: why and where they stop, and how many turns they take.
use Rattle.std.proofs.Common.{◌≡◌, ℕ, Bool, true, false, List, [], ◌∷◌, length, Option, Some, None, refl, zero, suc, ◌+◌, ◌-◌, Result, Ok, Err, if◌then◌else◌, option_map, take, drop, arith, nat_lt}
use Rattle.bufr_bits.specs.Prelude.{bits_of}
use Rattle.bufr_tables.specs.Prelude.{Tree, bare, element, operator, fixed}
use Rattle.bufr_walk.specs.Prelude.{next_item, counted_item, turns_read, Stop, data_in, Course, DataCoding, plain, packed, Content, FieldSpec, FieldRead, Next, take_next, at_end, astray, refused, would_be_many, fault_at, Data, fault_of, found, content_in}
use Rattle.bufr_walk.specs.Pass.{reading_of, reading_in, Pass, Place, Step, DataPass, pass, pass_next, pass_field, read_field, reading, read_pass, stop_of, passes_apart}
use Rattle.bufr_walk.specs.Readers.{place_at}
use Rattle.bufr_walk.specs.declared.walker.WalkStop.TheVariants as stops
use Rattle.bufr_walk.specs.declared.fault.DataFault.TheVariants as wrong
use Rattle.bufr_walk.specs.declared.fault.WalkFault.TheVariants as fault
use Rattle.bufr_walk.specs.declared.spec.TurnRefusal.TheVariants as turn
use Rattle.bufr_walk.proofs.ExampleTables.{fxy, table}
use Rattle.std.specs.Prelude.{is_none, is_some}
use Rattle.bufr_walk.specs.declared.fault.DataFault.{DataFault}
use Rattle.bufr_walk.proofs.PackedLemmas.{IsOfItem, of_item}

-- how a reading of n subsets ends: why it stopped, in which subset, how many bits are left, and how
-- many turns were made
unfoldable pub ends : (compressed : Bool) → ℕ → Tree → List ℕ → Option Stop × ℕ × ℕ × ℕ
unfolding table next_item bits_of
ends compressed n tree octets =
    let r = reading_of (next_item table tree) (data_in compressed n octets) in
    (r.stop, r.subset, length r.left, turns_read (counted_item table tree) (data_in compressed n octets))

block : Tree
unfolding fxy
block = element (fxy 0 1 1) bare

-- There are no bits between subsets, and the turns of all subsets are added up. Bits may be left.
two_subsets : ends false 2 block (20 ∷ 44 ∷ []) ≡ (None, 2, 2, 4)
unfolding ends block
two_subsets = refl

-- The second subset is refused, and no third one is read. The example fails if the number of the
-- subset does not increase.
-- rule: stream-fault-place
second_subset_refused : ends false 3 block (20 ∷ []) ≡ (Some (stops.Field (wrong.DataEnd 257)), 2, 1, 3)
unfolding ends block
second_subset_refused = refl

-- In compressed data, the refused subset has the number 0, even at the second item.
-- rule: stream-fault-place
together_refused : ends true 2 (element (fxy 0 1 1) block) (20 ∷ 0 ∷ []) ≡ (Some (stops.Field (wrong.DataEnd 257)), 0, 3, 2)
unfolding ends block fxy
together_refused = refl

-- If there are no subsets, nothing is read, whether or not the data are compressed.
-- rule: no-subsets
no_subsets : (ends false 0 block (252 ∷ []) ≡ (None, 0, 8, 0)) × (ends true 0 block (252 ∷ []) ≡ (None, 0, 8, 0))
unfolding ends block
no_subsets = (refl, refl)

-- The items before a refused one are read first. The example fails if the width of the second item
-- is refused at once, even if the data end in the first item.
width_after_an_item : Tree
unfolding fxy
width_after_an_item = element (fxy 0 1 1) (operator (fxy 2 1 121) (element (fxy 0 1 1) bare))

items_first : (ends false 1 width_after_an_item (20 ∷ []) ≡ (Some (stops.Width 257), 1, 1, 3)) × (ends false 1 width_after_an_item [] ≡ (Some (stops.Field (wrong.DataEnd 257)), 1, 0, 1))
unfolding ends width_after_an_item
items_first = (refl, refl)

-- There are as many items as bits, or one more. The example fails if a reading stops as soon as it
-- has read as many items as there are bits.
eight_or_nine : ℕ → Tree
unfolding fxy
eight_or_nine n = fixed n (element (fxy 0 31 0) bare) bare

as_many_items_as_bits : (ends false 1 (eight_or_nine 8) (255 ∷ []) ≡ (None, 1, 0, 18)) × (ends false 1 (eight_or_nine 9) (255 ∷ []) ≡ (Some (stops.Field (wrong.DataEnd 7936)), 1, 0, 18))
unfolding ends eight_or_nine
as_many_items_as_bits = (refl, refl)

-- An item is refused at its first bit. The example fails if the bits of its base are counted as
-- well.
refused_at_its_item : ends true 2 block (252 ∷ 17 ∷ 0 ∷ []) ≡ (Some (stops.Field (wrong.Increment 257)), 0, 24, 1)
unfolding ends block
refused_at_its_item = refl

-- Too many values are refused before the end of the data is reported. The example fails if the
-- limit is different.
-- rule: too-many-values
too_many_values : (ends true 134217729 block [] ≡ (Some (stops.Field (wrong.TooManyValues 257)), 0, 0, 1)) × (ends true 134217728 block [] ≡ (Some (stops.Field (wrong.DataEnd 257)), 0, 0, 1))
unfolding ends block
too_many_values = (refl, refl)

-- If there are no subsets, nothing is refused, whatever the template and the bits are.
-- rule: no-subsets
never_refused : (course : Course) (bits : List Bool) → ((reading_in course false 0 bits).stop ≡ None) × ((reading_in course true 0 bits).stop ≡ None)
never_refused course bits = (refl, refl)

-- ---- In the definitions, memory never runs out. `ReadsData` treats this case separately.

-- The reason why a reading stopped is not that memory ran out.
abbrev IsOther : Stop → Type 0
IsOther (stops.Width fxy) = Unit {0}
IsOther (stops.Defining fxy) = Unit {0}
IsOther (stops.Field (wrong.DataEnd fxy)) = Unit {0}
IsOther (stops.Field (wrong.Increment fxy)) = Unit {0}
IsOther (stops.Field (wrong.UnequalFactor fxy)) = Unit {0}
IsOther (stops.Field (wrong.TooManyValues fxy)) = Unit {0}
IsOther (stops.Field wrong.Memory) = ⊥
IsOther stops.Memory = ⊥

abbrev IsNoneOrOther : Option Stop → Type 0
IsNoneOrOther None = Unit {0}
IsNoneOrOther (Some why) = IsOther why

-- The data end in each item that cannot be read, or its increments or its factor are invalid.
abbrev AreOfItems : {C : Type 0} → DataCoding C → Type 0
AreOfItems form = (spec : FieldSpec) (bits : List Bool) (e : DataFault) → form.field spec bits ≡ Err e → IsOfItem e

pass_stop : {C : Type 0} (form : DataCoding C) (own : AreOfItems form) (many : ℕ → Bool) (most : ℕ) (course : Course) (s : Place) → IsNoneOrOther (pass (reading form many) most course s).stop
pass_stop form own many zero course s = tt
pass_stop {C} form own many (suc more) course s = by (course []) (pass_stop form own many more)
  where
    other : (e : DataFault) → IsOfItem e → IsOther (stops.Field e)
    other (wrong.DataEnd fxy) h = tt
    other (wrong.Increment fxy) h = tt
    other (wrong.UnequalFactor fxy) h = tt
    other (wrong.TooManyValues fxy) h = tt
    other wrong.Memory h = h

    go : Step Place C → Pass Place C Stop
    go f = pass (reading form many) more (λ answers. course (f.returned ∷ answers)) f.state

    field : (spec : FieldSpec) (b : Bool) (r : Result (FieldRead C) DataFault) → ((e : DataFault) → r ≡ Err e → IsOfItem e)
        → ((course : Course) (s : Place) → IsNoneOrOther (pass (reading form many) more course s).stop)
        → IsNoneOrOther (pass_field (reading form many) spec s (if b then Err (stops.Field (wrong.TooManyValues spec.fxy)) else read_field form spec s.items r) go).stop
    field spec true r own rest = tt
    field spec false (Err why) own rest = other why (own why refl)
    field spec false (Ok f) own rest = rest (λ answers. course (form.gives spec f.content ∷ answers)) (place_at (s.items + 1) f.suffix)

    by : (next : Next) → ((course : Course) (s : Place) → IsNoneOrOther (pass (reading form many) more course s).stop)
        → IsNoneOrOther (pass_next (reading form many) next s go).stop
    by (take_next spec) rest = field spec (many s.items) (form.field spec s.left) (own spec s.left) rest
    by at_end rest = tt
    by astray rest = tt
    by (refused (turn.Width fxy)) rest = tt
    by (refused (turn.Defining fxy)) rest = tt

first_of : (first later : Option Stop) → IsNoneOrOther first → IsNoneOrOther later → IsNoneOrOther (if is_some first then first else later)
first_of None later h g = g
first_of (Some why) later h g = h

plain_own : AreOfItems plain
plain_own spec bits e is = by (nat_lt (length bits) spec.width) is
  where
    by : (b : Bool) → (if b then Err (wrong.DataEnd spec.fxy) else Ok (found (content_in spec (take spec.width bits)) (drop spec.width bits))) ≡ Err e → IsOfItem e
    by true is = grind arith
    by false is = absurd cc

packed_own : (n : ℕ) → AreOfItems (packed n)
packed_own n spec bits e is = of_item spec.fxy spec.role _ _ _ e is

apart_stop : (course : Course) (n : ℕ) (bits : List Bool) → IsNoneOrOther (stop_of (passes_apart course n bits))
apart_stop course zero bits = tt
apart_stop course (suc n) bits =
    let p = read_pass plain (λ items. false) course bits in
    first_of p.stop _ (pass_stop plain plain_own (λ items. false) (suc (length bits)) course (place_at 0 bits)) (unless p.stop (passes_apart course n p.state.left) (apart_stop course n p.state.left))
  where
    unless : (o : Option Stop) (passes : List (DataPass Content)) → IsNoneOrOther (stop_of passes) → IsNoneOrOther (stop_of (if is_none o then passes else []))
    unless None passes h = h
    unless (Some why) passes h = tt

reading_stop : (course : Course) (compressed : Bool) (n : ℕ) (bits : List Bool) → IsNoneOrOther (reading_in course compressed n bits).stop
reading_stop course false n bits = apart_stop course n bits
reading_stop course true zero bits = tt
reading_stop course true (suc n) bits = first_of _ None (pass_stop (packed (suc n)) (packed_own (suc n)) (would_be_many (suc n)) (suc (length bits)) course (place_at 0 bits)) tt

never_for_memory : (course : Course) (d : Data) → fault_of d (reading_of course d) ≡ Some fault.Memory → ⊥
never_for_memory course d = by (reading_of course d).stop (reading_stop course d.compressed d.subsets d.bits)
  where
    by : (o : Option Stop) → IsNoneOrOther o
        → option_map (λ why. fault_at why (reading_of course d).subset (length d.bits - length (reading_of course d).left)) o ≡ Some fault.Memory → ⊥
    by None h e = cc
    by (Some (stops.Width fxy)) h e = cc
    by (Some (stops.Defining fxy)) h e = cc
    by (Some (stops.Field (wrong.DataEnd fxy))) h e = cc
    by (Some (stops.Field (wrong.Increment fxy))) h e = cc
    by (Some (stops.Field (wrong.UnequalFactor fxy))) h e = cc
    by (Some (stops.Field (wrong.TooManyValues fxy))) h e = cc
    by (Some (stops.Field wrong.Memory)) h e = h
    by (Some stops.Memory) h e = h
