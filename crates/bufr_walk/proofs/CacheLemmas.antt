-- What is cached: specs by their keys, and descriptor lists in slots.
use Rattle.std.proofs.lemmas.Grind.{common_steps}
use Rattle.std.proofs.Common.{◌==◌, ℤ, Bool, true, Option, Some, None, IfSome, if◌then◌else◌, ◌≡◌, ◌≢◌, ℕ, zero, suc, inl, inr, Contains, slice_set, get_or, refl, ◌⊎◌, ◌∙◌, ◌-◌, ◌+◌, ◌*◌, ◌<◌, arith, sym, ◌^◌, false, List, Ok, ap, ◌≤◌, [], ◌∷◌, ◌++◌, length, length-append, nat_lt, rules}
use Rattle.bufr_walk.specs.Prelude.{Lists, with_room, IsKept, MayStay, list_of, lists_of, OperatorModel, IsKey, is_defining, element_spec, factor_spec, unsigned_field, IsFieldKey, descriptor_of, key_word, spec_of, FieldSpec, is_reference, IsSpecBy, IsOther, TableField, IsSpecFor, IsSpecKey, spec_key, HasOctetOperands, Dependence, OnNothing, OnWidth, OnReference, by_reference, dependence, dependence_number, HasNumber, Redefined, redefined, current_reference, Kind, spec_by_kind, new_reference_spec, local_width_spec}
use Rattle.std.proofs.lemmas.Bool.{eqb-true}
use Rattle.bufr_tables.specs.Prelude.{Row, Sequence, entry_of}
use Rattle.bufr_tables.specs.declared.table_b.Kind.TheVariants as kind
use Rattle.bufr_walk.specs.declared.spec_cache.SpecKey.{SpecKey}
use Rattle.bufr_walk.proofs.WalkLemmas.{fitted_role, element_cases, kind_role}
use Rattle.std.specs.List.{All, remove}
use Rattle.std.proofs.lemmas.List.{map-append, drop-map, length-map, length-drop}
use Rattle.std.proofs.lemmas.List.Elements.{All-append, All-drop, All-cons, All-head, All-tail, All-nil}
use Rattle.bufr_walk.specs.declared.lists.Slot.{Slot}
use Rattle.bufr_walk.specs.declared.operators.TableField.TheVariants as field
use Rattle.bufr_walk.proofs.SpecLemmas.{listed_by}

-- The word of a field can be added to the key of the operators.
pub with_word : (s : OperatorModel) (key word : ℕ) → IsKey s 0 key → IsKey s word (key + 1099511627776 * word)
with_word s key word h = record {
  is = omega (arith, h.is);
  new_reference_width = h.new_reference_width;
  new_references = h.new_references;
  octets = h.octets;
}

-- If two numbers are equal, so are their lowest octets, and what is above these.
last_octet : (a b x y : ℕ) → a < 256 → b < 256 → a + 256 * x ≡ b + 256 * y → (a ≡ b) × (x ≡ y)
last_octet a b x y p q e = (omega arith, omega arith)

-- the same for the five lowest octets
five_octets : (a b c d e v : ℕ) (a' b' c' d' e' w : ℕ) → a < 256 → b < 256 → c < 256 → d < 256 → e < 256 → a' < 256 → b' < 256 → c' < 256 → d' < 256 → e' < 256
    → a + 256 * b + 65536 * c + 16777216 * d + 4294967296 * e + 1099511627776 * v ≡ a' + 256 * b' + 65536 * c' + 16777216 * d' + 4294967296 * e' + 1099511627776 * w
    → (a ≡ a') × (b ≡ b') × (c ≡ c') × (d ≡ d') × (e ≡ e') × (v ≡ w)
five_octets a b c d e v a' b' c' d' e' w ha hb hc hd he ga gb gc gd ge same =
    let one = last_octet a a' (b + 256 * (c + 256 * (d + 256 * (e + 256 * v)))) (b' + 256 * (c' + 256 * (d' + 256 * (e' + 256 * w)))) ha ga (omega (arith, same)) in
    let two = last_octet b b' (c + 256 * (d + 256 * (e + 256 * v))) (c' + 256 * (d' + 256 * (e' + 256 * w))) hb gb one.1 in
    let three = last_octet c c' (d + 256 * (e + 256 * v)) (d' + 256 * (e' + 256 * w)) hc gc two.1 in
    let four = last_octet d d' (e + 256 * v) (e' + 256 * w) hd gd three.1 in
    let five = last_octet e e' v w he ge four.1 in
    (one.0, two.0, three.0, four.0, five.0, five.1)

-- the same for the lowest 17 bits, which are the word of a field
last_word : (v w m n : ℕ) → v < 131072 → w < 131072 → v + 131072 * m ≡ w + 131072 * n → (v ≡ w) × (m ≡ n)
last_word v w m n p q e = (omega arith, omega arith)

word_small : (f : TableField) → descriptor_of f < 65536 → key_word f < 131072
word_small (field.Element fxy) h = omega arith
word_small (field.Factor fxy) h = omega arith

-- Fields with the same word are the same.
same_field : (f g : TableField) → descriptor_of f < 65536 → descriptor_of g < 65536 → key_word f ≡ key_word g → f ≡ g
same_field f g p q e = grind arith

-- Dependences with the same kind and the same number are the same.
same_dependence : (d e : Dependence) (number : ℤ) → dependence_number d ≡ dependence_number e → HasNumber d number → HasNumber e number → d ≡ e
same_dependence d e number h_dependence_number_is p q = grind arith

-- Two operator states agree on everything that the spec of this field depends on.
record AreSameFor (a b : OperatorModel) (f : TableField) : Type 0 where
  width_change : a.width_change ≡ b.width_change
  scale_change : a.scale_change ≡ b.scale_change
  precision_increase : a.precision_increase ≡ b.precision_increase
  character_octets : a.character_octets ≡ b.character_octets
  local_width : a.local_width ≡ b.local_width
  dependence : dependence a (descriptor_of f) ≡ dependence b (descriptor_of f)

-- If two fields have the same key, they are the same field, and their operator states agree for it.
same_key : (a b : OperatorModel) (f g : TableField) (key : SpecKey) → IsSpecKey a f key → IsSpecKey b g key → (f ≡ g) × AreSameFor a b f
same_key a b f g key h k =
    let m = dependence_number (dependence a (descriptor_of f)) in
    let n = dependence_number (dependence b (descriptor_of g)) in
    let six = five_octets a.width_change a.scale_change a.precision_increase a.character_octets a.local_width (key_word f + 131072 * m)
    b.width_change b.scale_change b.precision_increase b.character_octets b.local_width (key_word g + 131072 * n)
    h.octets.width_change h.octets.scale_change h.octets.precision_increase h.octets.character_octets h.octets.local_width
    k.octets.width_change k.octets.scale_change k.octets.precision_increase k.octets.character_octets k.octets.local_width (sym h.is ∙ k.is) in
    let word = last_word (key_word f) (key_word g) m n (word_small f h.word) (word_small g k.word) six.5 in
    let field : f ≡ g = same_field f g h.word k.word word.0 in
    let number : HasNumber (dependence b (descriptor_of f)) key.number = rw field k.number in
    grind (arith, common_steps)

-- ---- What the spec of a field depends on.

none_defining : (n : ℕ) → n ≡ 0 → nat_lt 0 n ≡ false
none_defining n h = grind arith

some_defining : (n : ℕ) → 0 < n → nat_lt 0 n ≡ true
some_defining n h = grind arith

not_defining : (n : ℕ) → nat_lt 0 n ≡ false → n ≡ 0
not_defining n h = grind arith

same_is : (n : ℕ) → (n == n) ≡ true
same_is n = grind arith

-- the redefined references that the spec of a field depends on
abbrev alone : ℕ → Dependence → List Redefined
alone fxy OnNothing = []
alone fxy (OnWidth width) = []
alone fxy (OnReference reference) = record { fxy = fxy; reference = reference } ∷ []

-- the width with which references are being redefined, or 0
abbrev width_in : Dependence → ℕ
width_in OnNothing = 0
width_in (OnWidth width) = width
width_in (OnReference reference) = 0

current_alone : (known : List Redefined) (fxy : ℕ) (listed : ℤ) → current_reference known fxy listed ≡ current_reference (alone fxy (by_reference (redefined known fxy))) fxy listed
current_alone [] fxy listed = refl
current_alone (r ∷ known) fxy listed = grind (arith, current_alone known fxy listed)

width_alone : (s : OperatorModel) (fxy : ℕ) → s.new_reference_width ≡ width_in (dependence s fxy)
width_alone s fxy = grind arith

-- The spec of a value depends on no redefined reference but that of its element.
kind_alone : (k : Kind) (s : OperatorModel) (row : Row) (known : List Redefined) → current_reference s.new_references row.fxy row.reference ≡ current_reference known row.fxy row.reference
    → spec_by_kind k s row ≡ spec_by_kind k (record s { new_references = known }) row
kind_alone kind.Character s row known e = refl
kind_alone kind.Coded s row known e = rw e refl
kind_alone kind.Numeric s row known e = rw e refl

defined_alone : (k : Kind) (s : OperatorModel) (fxy : ℕ) (known : List Redefined) → new_reference_spec k s fxy ≡ new_reference_spec k (record s { new_references = known }) fxy
defined_alone kind.Character s fxy known = refl
defined_alone kind.Coded s fxy known = refl
defined_alone kind.Numeric s fxy known = refl

local_alone : (o : Option Row) (s : OperatorModel) (fxy : ℕ) (known : List Redefined) → local_width_spec o s fxy ≡ local_width_spec o (record s { new_references = known }) fxy
local_alone None s fxy known = refl
local_alone (Some row) s fxy known = refl

listed_alone : (o : Option Row) (s : OperatorModel) (fxy : ℕ) → IfSome o (λ row. row.fxy ≡ fxy) → listed_by o s fxy ≡ listed_by o (record s { new_references = alone fxy (dependence s fxy) }) fxy
listed_alone o s fxy is = grind (arith, current_alone)

-- The row that is found for a descriptor has this descriptor.
row_found : (table : List Row) (fxy : ℕ) → IfSome (entry_of table fxy) (λ row. row.fxy ≡ fxy)
row_found [] fxy = tt
row_found (row ∷ table) fxy = by (row.fxy == fxy) (eqb-true row.fxy fxy) (row_found table fxy)
  where
    by : (b : Bool) → (b ≡ true → row.fxy ≡ fxy) → IfSome (entry_of table fxy) (λ r. r.fxy ≡ fxy) → IfSome (if b then Some row else entry_of table fxy) (λ r. r.fxy ≡ fxy)
    by true is more = is refl
    by false is more = more

spec_alone : (table : List Row) (s : OperatorModel) (f : TableField) → spec_of table s f ≡ spec_of table (record s { new_references = alone (descriptor_of f) (dependence s (descriptor_of f)) }) f
spec_alone table s f = search (rules, local_alone, listed_alone, row_found)

abbrev operators : (width scale precision octets local new : ℕ) (known : List Redefined) → OperatorModel
operators width scale precision octets local new known = record {
  width_change = width;
  scale_change = scale;
  new_reference_width = new;
  precision_increase = precision;
  character_octets = octets;
  local_width = local;
  new_references = known;
}

-- If two operator states agree for a field, they give it the same spec.
same_spec : (table : List Row) (a b : OperatorModel) (f : TableField) → AreSameFor a b f → spec_of table a f ≡ spec_of table b f
same_spec table a b f h =
    let fxy = descriptor_of f in
    let width : a.new_reference_width ≡ b.new_reference_width = width_alone a fxy ∙ ap width_in h.dependence ∙ sym (width_alone b fxy) in
    let known : alone fxy (dependence a fxy) ≡ alone fxy (dependence b fxy) = ap (alone fxy) h.dependence in
    let all : operators a.width_change a.scale_change a.precision_increase a.character_octets a.local_width a.new_reference_width (alone fxy (dependence a fxy))
    ≡ operators b.width_change b.scale_change b.precision_increase b.character_octets b.local_width b.new_reference_width (alone fxy (dependence b fxy)) =
    rw (known, h.width_change, h.scale_change, h.precision_increase, h.character_octets, h.local_width, width) refl in
    spec_alone table a f ∙ ap (λ s. spec_of table s f) all ∙ sym (spec_alone table b f)

-- ---- Cached specs and their keys.

-- A spec that is cached under the key of a field is the spec of this field.
pub spec_got : (table : List Row) (s : OperatorModel) (f : TableField) (key : ℕ) (spec : FieldSpec) → IsFieldKey s f key → IsSpecBy table key spec → spec_of table s f ≡ Ok spec
spec_got table s f key spec h g = g.is s f h.word (h.is g.few)

-- The spec of a field may be cached under its key.
pub spec_cached : (table : List Row) (s : OperatorModel) (f : TableField) (key : SpecKey) (spec : FieldSpec) → IsSpecKey s f key → key.operators < 2 ^ 62 → spec_of table s f ≡ Ok spec
    → IsSpecFor table key spec
spec_cached table s f key spec h few found = record {
  few = few;
  is = λ t g k.
      let same = same_key s t f g key h k in
      rw (← same.0) (sym (same_spec table s t f same.1) ∙ found);
}

-- the same for the whole key of a field
pub spec_got_by : (table : List Row) (s : OperatorModel) (f : TableField) (key : SpecKey) (spec : FieldSpec) → IsSpecKey s f key → IsSpecFor table key spec → spec_of table s f ≡ Ok spec
spec_got_by table s f key spec h g = g.is s f h

-- the whole key of a field, from its parts
pub with_dependence : (s : OperatorModel) (f : TableField) (d : Dependence) (key : SpecKey) → HasOctetOperands s → descriptor_of f < 65536 → dependence s (descriptor_of f) ≡ d
    → key.operators ≡ spec_key s 0 + 1099511627776 * key_word f + 144115188075855872 * dependence_number d → HasNumber d key.number → IsSpecKey s f key
with_dependence s f d key octets word is key_is number = record {
  word = word;
  is = omega (arith, ap dependence_number is);
  number = rw is number;
  octets = octets;
}

pub width_dependence : (s : OperatorModel) (fxy : ℕ) → 0 < s.new_reference_width → dependence s fxy ≡ OnWidth s.new_reference_width
width_dependence s fxy some = rw some_defining

pub other_dependence : (s : OperatorModel) (fxy : ℕ) (o : Option ℤ) → s.new_reference_width ≤ 0 → o ≡ redefined s.new_references fxy → dependence s fxy ≡ by_reference o
other_dependence s fxy o none is = grind arith

plain_dependence : (s : OperatorModel) (fxy : ℕ) → s.new_reference_width ≡ 0 → s.new_references ≡ [] → dependence s fxy ≡ OnNothing
plain_dependence s fxy none empty = rw (none_defining, empty)

-- If no references are redefined, the operands and the word of the field are the whole key.
pub plain_key : (s : OperatorModel) (f : TableField) (key : SpecKey) → descriptor_of f < 65536 → IsKey s (key_word f) key.operators → IsSpecKey s f key
plain_key s f key word h = grind (arith, common_steps, plain_dependence)

pub plain_spec : (table : List Row) (key : SpecKey) (operators : ℕ) (spec : FieldSpec) → key.operators ≡ operators → IsSpecFor table key spec → IsSpecBy table operators spec
plain_spec table key operators spec e h = record {
  few = rw (← e) h.few;
  is = λ s f word k. h.is s f (plain_key s f key word (rw e k));
}

-- Unless references are being redefined, the spec of an element is not that of a redefined
-- reference.
element_plain : (table : List Row) (s : OperatorModel) (fxy : ℕ) (spec : FieldSpec) → s.new_reference_width ≡ 0 → element_spec table s fxy ≡ Ok spec → is_reference spec.role ≡ false
element_plain table s fxy spec none e =
    let none_is : is_defining s ≡ false = none_defining s.new_reference_width none in
    element_cases (is_reference spec.role ≡ false) table s fxy spec (λ z row p q. ap is_reference (sym (kind_role row.kind z row spec q)))
    (λ q. ap is_reference (sym (fitted_role (unsigned_field fxy s.local_width) spec q))) (λ row d q. absurd cc) e

-- The spec of a factor is never that of a redefined reference.
factor_plain : (table : List Row) (s : OperatorModel) (fxy : ℕ) (spec : FieldSpec) → factor_spec table s fxy ≡ Ok spec → is_reference spec.role ≡ false
factor_plain table s fxy spec e = grind arith

-- A spec that is cached under such a key is not that of a redefined reference.
pub spec_got_plain : (table : List Row) (s : OperatorModel) (f : TableField) (key : ℕ) (spec : FieldSpec) → IsFieldKey s f key → IsSpecBy table key spec → is_reference spec.role ≡ false
spec_got_plain table s (field.Element fxy) key spec h g = element_plain table s fxy spec (h.is g.few).new_reference_width (spec_got table s (field.Element fxy) key spec h g)
spec_got_plain table s (field.Factor fxy) key spec h g = factor_plain table s fxy spec (spec_got table s (field.Factor fxy) key spec h g)

-- ---- The slots of cached descriptor lists.

-- The lists of all slots other than the last one may stay in the cache.
pub all_stay : (b : List Row) (d : List Sequence) (slots : List Slot) → All (IsOther b d) slots → All (MayStay b d) (lists_of slots)
all_stay b d [] h = All-nil (MayStay b d)
all_stay b d (s ∷ slots) h = All-cons (MayStay b d) (list_of s) (lists_of slots) (All-head (IsOther b d) s slots h).stays (all_stay b d slots (All-tail (IsOther b d) s slots h))

-- A slot can be added to the others, once there is room for it.
pub others_more : (b : List Row) (d : List Sequence) (slots more : List Slot) (s : Slot) → All (IsOther b d) slots → more ≡ with_room slots → IsOther b d s → All (IsOther b d) (more ++ s ∷ [])
others_more b d slots more s h is p =
    All-append (IsOther b d) more (s ∷ []) (rw is (All-drop (IsOther b d) (length slots - 126) slots h)) (All-cons (IsOther b d) s [] p (All-nil (IsOther b d)))

pub few_more : (slots more : List Slot) (s : Slot) → length slots ≤ 127 → more ≡ with_room slots → length (more ++ s ∷ []) ≤ 127
few_more slots more s few is = omega (arith, length-append more (s ∷ []), ap length is, length-drop (length slots - 126) slots)

pub lists_more : (slots more : List Slot) (s : Slot) → more ≡ with_room slots → lists_of (more ++ s ∷ []) ≡ with_room (lists_of slots) ++ list_of s ∷ []
lists_more slots more s is = search (rules, map-append, drop-map, length-map)

-- If a slot has this list, the list is among those of the slots.
pub slot_contains : (slots : List Slot) (i : ℕ) (list : List ℕ) → i < length slots → ((s : Slot) → s ≡ get_or slots i s → list_of s ≡ list) → Contains (lists_of slots) list
slot_contains [] i list h is = absurd (omega arith)
slot_contains (s ∷ slots) zero list h is = (0, omega arith, is s refl)
slot_contains (s ∷ slots) (suc i) list h is =
    let more = slot_contains slots i list (omega arith) is in
    (suc more.0, omega (arith, more.1), more.2)

-- The list of the last slot is among those of all slots.
pub last_kept : (slots : List Slot) (s : Slot) → Contains (lists_of (slots ++ s ∷ [])) (list_of s)
last_kept [] s = (0, omega arith, refl)
last_kept (t ∷ slots) s =
    let more = last_kept slots s in
    (suc more.0, omega (arith, more.1), more.2)

-- If a slot is replaced by one with this list, the list is among those of the slots.
pub set_contains : (slots : List Slot) (i : ℕ) (s : Slot) (list : List ℕ) → i < length slots → list_of s ≡ list → Contains (lists_of (slice_set slots i s)) list
set_contains [] i s list h e = absurd (omega arith)
set_contains (t ∷ slots) zero s list h e = (0, omega arith, e)
set_contains (t ∷ slots) (suc i) s list h e =
    let more = set_contains slots i s list (omega arith) e in
    (suc more.0, omega (arith, more.1), more.2)

-- If no slot has a list, the list is not among those of the slots.
none_contains : (slots : List Slot) (list : List ℕ) → All (λ s. list_of s ≢ list) slots → Contains (lists_of slots) list → ⊥
none_contains [] list h (k, few, is) = omega arith
none_contains (s ∷ slots) list h (zero, few, is) = All-head (λ (s : Slot). list_of s ≢ list) s slots h is
none_contains (s ∷ slots) list h (suc k, few, is) = none_contains slots list (All-tail (λ (s : Slot). list_of s ≢ list) s slots h) (k, omega arith, is)

pub none_kept : (l : Lists) (slots : List Slot) (list : List ℕ) → l.others ≡ lists_of slots → l.list ≢ list → All (λ s. list_of s ≢ list) slots → IsKept l list → ⊥
none_kept l slots list are last others (inl is) = last is
none_kept l slots list are last others (inr is) = none_contains slots list others (rw are at is)

-- If the slot with the wanted list is replaced or removed, each list is either the wanted one or
-- still among those of the slots.
pub set_stays : (slots : List Slot) (i : ℕ) (t : Slot) (wanted list : List ℕ) → i < length slots → ((s : Slot) → s ≡ get_or slots i s → list_of s ≡ wanted) → Contains (lists_of slots) list
    → (wanted ≡ list) ⊎ Contains (lists_of (slice_set slots i t)) list
set_stays [] i t wanted list h is c = absurd (omega arith)
set_stays (s ∷ slots) zero t wanted list h is (zero, few, e) = inl (sym (is s refl) ∙ e)
set_stays (s ∷ slots) zero t wanted list h is (suc k, few, e) = inr (suc k, omega arith, e)
set_stays (s ∷ slots) (suc i) t wanted list h is (zero, few, e) = inr (0, omega arith, e)
set_stays (s ∷ slots) (suc i) t wanted list h is (suc k, few, e) = later (set_stays slots i t wanted list (omega arith) is (k, omega arith, e))
  where
    later : (wanted ≡ list) ⊎ Contains (lists_of (slice_set slots i t)) list → (wanted ≡ list) ⊎ Contains (lists_of (s ∷ slice_set slots i t)) list
    later (inl e) = inl e
    later (inr (k, few, e)) = inr (suc k, omega arith, e)

pub remove_stays : (slots : List Slot) (i : ℕ) (wanted list : List ℕ) → i < length slots → ((s : Slot) → s ≡ get_or slots i s → list_of s ≡ wanted) → Contains (lists_of slots) list
    → (wanted ≡ list) ⊎ Contains (lists_of (remove slots i)) list
remove_stays [] i wanted list h is c = absurd (omega arith)
remove_stays (s ∷ slots) zero wanted list h is (zero, few, e) = inl (sym (is s refl) ∙ e)
remove_stays (s ∷ slots) zero wanted list h is (suc k, few, e) = inr (k, omega arith, e)
remove_stays (s ∷ slots) (suc i) wanted list h is (zero, few, e) = inr (0, omega arith, e)
remove_stays (s ∷ slots) (suc i) wanted list h is (suc k, few, e) = later (remove_stays slots i wanted list (omega arith) is (k, omega arith, e))
  where
    later : (wanted ≡ list) ⊎ Contains (lists_of (remove slots i)) list → (wanted ≡ list) ⊎ Contains (lists_of (s ∷ remove slots i)) list
    later (inl e) = inl e
    later (inr (k, few, e)) = inr (suc k, omega arith, e)

-- Each list is that of the selected slot, or is among those of the others.
pub kept_beside : (x : Slot) (wanted list : List ℕ) (more : List Slot) → list_of x ≡ wanted → (wanted ≡ list) ⊎ Contains (lists_of more) list → (list_of x ≡ list) ⊎ Contains (lists_of more) list
kept_beside x wanted list more e (inl f) = inl (e ∙ f)
kept_beside x wanted list more e (inr c) = inr c
