-- Every accepted message can be dumped.
use Rattle.std.proofs.Common.{◌≡◌, ℕ, suc, ◌<◌, ◌≤◌, ◌^◌, Bool, true, false, ℤ, pos, negsuc, List, [], ◌∷◌, map, Option, Some, None, refl, subst, arith, zero, Ok, ◌+◌, ◌-◌, length, take, drop, sym, ◌∙◌, nat_abs, pow_mono, if◌then◌else◌, unsigned_abs, slice_index, slice_range, unwrap_or}
use Rattle.std.specs.List.{AllByRecursion}
use Rattle.std.proofs.lemmas.Bool.Decides.{nat_tests}
use Rattle.bufr_tables.specs.declared.table_b.Kind.{Kind}
use Rattle.bufr_tables.specs.Prelude.{Row, entry_of, IsLegal, Tree, Sequence}
use Rattle.bufr_walk.proofs.NextField.{AreRead, row_found}
use Rattle.bufr_walk.specs.Prelude.{FieldSpec, IsSpec, HasWidth, HasRole, Content, number, text, missing, reference, shown, found, packed_field, Course, next_item, view_of, content_at, data_of, Item, plain, packed, ReadsItems, Values, apart, together, after, subsets_from, items_of_subset, each_subset}
use Rattle.bufr_text.specs.Prelude.{IsDescriptorWord, IsOctet, IsValue, IsComment, IsItem, IsDumpable, IsAccepted, items_shown, dump_items}
use Rattle.std.proofs.lemmas.List.{length-map}
use Rattle.bufr_frame.specs.Prelude.{u16_at, words, Sections, sections_of, parts, edition_of, head_of, has_section2, IsFitting, min_section_1}
use Rattle.bufr_frame.proofs.AgainLemmas.{sections-ended, heads-fit}
use Rattle.bufr_walk.specs.declared.spec.Role.{Role}
use Rattle.bufr_fill.specs.Prelude.{HasReading, AreOctets, FitsKind, FitsRole, Fits, AllFit}
use Rattle.bufr_fill.proofs.PlainLaws.{AllFields, plain_read}
use Rattle.bufr_fill.proofs.FieldLemmas.{top_below}
use Rattle.bufr_fill.proofs.PackedLaws.{packed_again}
use Rattle.bufr_tables.specs.declared.table_b.Kind.TheVariants as kind
use Rattle.bufr_walk.specs.declared.spec.Role.TheVariants as role
use Rattle.std.proofs.lemmas.Grind.{common_steps}
use Rattle.bufr_fill.proofs.ReadsLemmas.{of_apart, of_together}
use Rattle.bufr_fill.proofs.WholeLaws.{each_count}

-- ---- The sections.

octet_at : (m : List ℕ) (i : ℕ) → AllByRecursion IsOctet m → slice_index m i < 256
octet_at [] i h = omega arith
octet_at (c ∷ m) zero h = h.0
octet_at (c ∷ m) (suc i) h = octet_at m i h.1

word_at : (m : List ℕ) (i : ℕ) → AllByRecursion IsOctet m → u16_at m i < 65536
word_at m i h = omega (arith, octet_at m i h, octet_at m (i + 1) h)

all_take : (n : ℕ) (m : List ℕ) → AllByRecursion IsOctet m → AllByRecursion IsOctet (take n m)
all_take zero m h = tt
all_take (suc n) [] h = tt
all_take (suc n) (c ∷ m) h = (h.0, all_take n m h.1)

all_drop : (n : ℕ) (m : List ℕ) → AllByRecursion IsOctet m → AllByRecursion IsOctet (drop n m)
all_drop zero m h = h
all_drop (suc n) [] h = tt
all_drop (suc n) (c ∷ m) h = all_drop n m h.1

all_range : (m : List ℕ) (i j : ℕ) → AllByRecursion IsOctet m → AllByRecursion IsOctet (slice_range m i j)
all_range m i j h = all_take (j - i) (drop i m) (all_drop i m h)

all_words : (m : List ℕ) → AllByRecursion IsOctet m → AllByRecursion IsDescriptorWord (words m)
all_words (a ∷ b ∷ more) h = (omega (arith, h.0, h.1.0), all_words more h.1.1)
all_words m h = tt

-- The contents of these sections can be dumped.
pub record AreGiven (s : Sections) : Type 0 where
  pub head : IsFitting s.head
  pub local1 : AllByRecursion IsOctet s.local1
  pub section2 : AllByRecursion IsOctet (unwrap_or s.section2 [])
  pub descriptors : AllByRecursion IsDescriptorWord s.descriptors
  pub few : s.subsets < 65536

pub optional_octets : (b : Bool) (octets : List ℕ) → AllByRecursion IsOctet octets → AllByRecursion IsOctet (unwrap_or (if b then Some octets else None) [])
optional_octets true octets h = h
optional_octets false octets h = tt

parts_given : (m : List ℕ) (p1 p2 p3 p4 : ℕ) → AllByRecursion IsOctet m → IsFitting (head_of m) → AreGiven (parts m p1 p2 p3 p4)
parts_given m p1 p2 p3 p4 h head = record {
  head = head;
  local1 = all_range m (8 + min_section_1 (edition_of m)) p1 h;
  section2 = optional_octets (has_section2 m) (slice_range m (p1 + 4) p2) (all_range m (p1 + 4) p2 h);
  descriptors = all_words (slice_range m (p2 + 7) p3) (all_range m (p2 + 7) p3 h);
  few = word_at m (p2 + 4) h;
}

pub sections_given : (m : List ℕ) (s : Sections) → AllByRecursion IsOctet m → sections_of m ≡ Ok s → AreGiven s
sections_given m s h e = let f = sections-ended m s e in subst AreGiven (sym f.is)
    (parts_given m f.p1 f.p2 f.p3 f.p4 h (subst (λ (x : Sections). IsFitting x.head) f.is (heads-fit m s (λ i. octet_at m i h) e)))

-- ---- One item.

pub octets_are : (octets : List ℕ) → AreOctets octets → AllByRecursion IsOctet octets
octets_are [] h = tt
octets_are (c ∷ octets) h = (h.0, octets_are octets h.1)

module _ (spec : FieldSpec) (good : IsSpec spec) where
  number_value : (raw : ℕ) → spec.width ≤ 63 → raw < 2 ^ spec.width → IsValue (shown spec (number raw))
  number_value raw narrow h = let p : 2 ^ spec.width ≤ 2 ^ 63 = pow_mono narrow in (grind (arith, nat_tests, common_steps, p, good.reference), good.scale)

  kind_value : (k : Kind) (m : Bool) (c : Content) → HasWidth k spec.width → FitsKind k m spec.width c → IsValue (shown spec c)
  kind_value kind.Character m (text octets) w h = (octets_are octets h.1, omega (arith, h.0, w.1))
  kind_value kind.Character m missing w h = tt
  kind_value kind.Character m c w h = absurd h
  kind_value k m (number raw) w h = number_value raw w.1 (top_below m spec.width raw h)
  kind_value k m missing w h = tt
  kind_value k m c w h = absurd h

  numeric_most : (k : Kind) → HasWidth k spec.width → k ≡ kind.Numeric → spec.width ≤ 63
  numeric_most kind.Character h e = absurd cc
  numeric_most k h e = h.1

  reference_value : (v : ℤ) → spec.width ≤ 63 → nat_abs v < 2 ^ (spec.width - 1) → unsigned_abs v < 10 ^ 39
  reference_value v narrow h = let few : spec.width - 1 ≤ 63 = omega (arith, narrow) in let p : 2 ^ (spec.width - 1) ≤ 2 ^ 63 = pow_mono few in by v (omega (arith, h, p))
    where
      by : (v : ℤ) → nat_abs v < 2 ^ 63 → unsigned_abs v < 10 ^ 39
      by (pos n) h = omega (arith, h)
      by (negsuc n) h = omega (arith, h)

  role_value : (r : Role) (c : Content) → HasRole r spec.kind spec.may_be_missing → FitsRole r spec c → IsValue (shown spec c)
  role_value role.Reference (reference v) hr h = reference_value v (numeric_most spec.kind good.width hr.0) h
  role_value role.Reference c hr h = absurd h
  role_value r c hr h = kind_value spec.kind spec.may_be_missing c good.width h

  value_fits : (c : Content) → Fits spec c → IsValue (shown spec c)
  value_fits c h = role_value spec.role c good.role h

  value_at : (j : ℕ) (cs : List Content) → AllFit spec cs → IsValue (shown spec (content_at j cs))
  value_at zero [] h = tt
  value_at (suc j) [] h = tt
  value_at zero (c ∷ cs) h = value_fits c h.0
  value_at (suc j) (c ∷ cs) h = value_at j cs h.1

module _ (table : List Row) (all : AreRead table) where
  comment_fits : (listed : Bool) (fxy : ℕ) → IsComment (if listed then entry_of table fxy else None)
  comment_fits false fxy = tt
  comment_fits true fxy = by (entry_of table fxy) refl
    where
      by : (o : Option Row) → entry_of table fxy ≡ o → IsComment o
      by None e = tt
      by (Some row) e = let r = row_found table fxy row all e in (r.listed.name, r.listed.unit)

  item_fits : (spec : FieldSpec) (c : Content) → IsDescriptorWord spec.fxy → IsValue (shown spec c) → IsItem (view_of table spec c)
  item_fits spec c w v = record { word = w; value = v; comment = comment_fits spec.listed spec.fxy }

  -- ---- The items of all subsets.

  items_fit : (course : Course) (items : List (Item Content)) (bits suffix : List Bool) → AllFields items → ReadsItems plain course items bits suffix → AllByRecursion IsItem (items_shown table items)
  items_fit course [] bits suffix fields h = tt
  items_fit course (i ∷ items) bits suffix fields h = (
    item_fits i.spec i.content fields.0.word (value_fits i.spec fields.0.spec i.content (plain_read i.spec fields.0.spec bits h.0 i.content h.2).0),
    items_fit (after plain course i) items h.0 suffix fields.1 h.3,
  )

  packed_fits : (n : ℕ) (spec : FieldSpec) (cs : List Content) (bits mid : List Bool) → IsSpec spec → packed_field n spec bits ≡ Ok (found cs mid) → AllFit spec cs
  packed_fits n spec [] bits mid good e = tt
  packed_fits n spec (c ∷ cs) bits mid good e = (packed_again n spec good c cs bits mid e).2.fits

  packed_items_fit : (n j : ℕ) (course : Course) (items : List (Item (List Content))) (bits suffix : List Bool) → AllFields items → ReadsItems (packed n) course items bits suffix
      → AllByRecursion IsItem (items_shown table (items_of_subset j items))
  packed_items_fit n j course [] bits suffix fields h = tt
  packed_items_fit n j course (i ∷ items) bits suffix fields h = (
    item_fits i.spec (content_at j i.content) fields.0.word (value_at i.spec fields.0.spec j i.content (packed_fits n i.spec i.content bits h.0 fields.0.spec h.2)),
    packed_items_fit n j (after (packed n) course i) items h.0 suffix fields.1 h.3,
  )

  together_fit : (left j : ℕ) (items : List (Item (List Content))) → ((j : ℕ) → AllByRecursion IsItem (items_shown table (items_of_subset j items)))
      → AllByRecursion (λ items. AllByRecursion IsItem items) (map (items_shown table) (subsets_from left j items))
  together_fit zero j items h = tt
  together_fit (suc left) j items h = (h j, together_fit left (suc j) items h)

-- ---- The whole message.

counted : (table : List Row) (n : ℕ) (values : Values) → length (dump_items table n values) ≡ length (each_subset n values)
counted table n (apart subsets) = length-map subsets (items_shown table)
counted table n (together items) = length-map (subsets_from n 0 items) (items_shown table)

all_fit : (table : List Row) (template : Tree) (s : Sections) (values : Values) (used : ℕ) → AreRead table → IsLegal template → HasReading (next_item table template) (data_of s) values used
    → AllByRecursion (λ items. AllByRecursion IsItem items) (dump_items table s.subsets values)
all_fit table template s (apart subsets) used all legal h =
    of_apart table template all legal (λ n subsets bits left. AllByRecursion (λ items. AllByRecursion IsItem items) (map (items_shown table) subsets)) (λ bits. tt)
    (λ n items subsets bits mid left fields r end rest. (items_fit table all (next_item table template) items bits mid fields r, rest)) (data_of s) subsets used h
all_fit table template s (together items) used all legal h =
    of_together table template all legal (λ n items bits left. AllByRecursion (λ items. AllByRecursion IsItem items) (map (items_shown table) (subsets_from n 0 items))) (λ bits. tt)
    (λ n items bits left fields r end few. together_fit table all (suc n) 0 items (λ j. packed_items_fit table all (suc n) j (next_item table template) items bits left fields r))
    (data_of s) items used h

pub dumpable : (table : List Row) (sequences : List Sequence) (m : List ℕ) (s : Sections) (template : Tree) (values : Values) (used : ℕ) → AreRead table → IsLegal template
    → IsAccepted table sequences m s template values used → IsDumpable s (dump_items table s.subsets values)
dumpable table sequences m s template values used all legal a =
    let given = sections_given m s a.octets a.sections in
    record {
      head = given.head;
      local1 = given.local1;
      section2 = given.section2;
      descriptors = given.descriptors;
      few = given.few;
      counted = counted table s.subsets values ∙ each_count table template all legal (data_of s) values used a.read;
      items = all_fit table template s values used all legal a.read;
    }
