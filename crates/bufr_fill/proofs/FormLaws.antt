-- Items that were read as plain data are written as compressed data and read back, and vice versa.
use Rattle.std.proofs.lemmas.Grind.{common_steps}
use Rattle.std.proofs.lemmas.Slice.Zip.{AllZip-long}
use Rattle.std.proofs.Common.{◌≡◌, ℕ, ◌+◌, ◌*◌, ◌≤◌, Bool, false, List, [], ◌∷◌, length, Ok, Err, refl, sym, ◌∙◌, ap, subst, arith, zero, suc, ◌<◌, true, ◌++◌, Result, append_assoc, ◌⊎◌, inl, inr, max, drop, if◌then◌else◌, slice_get, flat_map, rules}
use Rattle.std.specs.List.{list_all, AllByRecursion, AllZip}
use Rattle.std.proofs.lemmas.Bool.{le-ltb}
use Rattle.bufr_walk.specs.Prelude.{FieldSpec, IsSpec, Content, found, bits_for, answer_by_role, answer_of, missing, packed_field, answer_first, max_values, Item, packed, plain, after, apart, ReadsItems, answers_in, content_at, Course, take_next, at_end, subsets_from, items_of_subset, would_be_many}
use Rattle.bufr_walk.proofs.CourseLemmas.{IsSane}
use Rattle.bufr_fill.proofs.ReadsLemmas.{AreReadAs, subset_then, items_read, none_read, none_read_together}
use Rattle.bufr_fill.specs.Prelude.{ItemFault, Taken, Role, packing, same, packed_bits, packed_unlike, written_item, fill, with_bits_before, plain_filler, RowCell, ItemRow, map_err, item_content, row_contents, pack_across, packed_filler, first_line, unlike_line, ◌>>=◌, plain_data, item_row, cells_at, rows, most_items, packing_fault, packed_data, Fits, AllFit, IsDumped, AreDrafts, AreDumped, IsSpecified, AreSpecified, IsUnlike, IsTogetherOrNot, Draft, Subset, at_line, content_of}
use Rattle.bufr_fill.proofs.FillSteps.{filled, fill_more, fill_end, plain_both}
use Rattle.bufr_fill.proofs.PlainLaws.{IsSaidRow, item_bits, join, IsRewritten, draft_again, same_draft, AllFields, plain_again, width_least, plain_read, content_length}
use Rattle.bufr_fill.proofs.PackedLaws.{packed_again, packed_count, fitting_again}
use Rattle.bufr_bits.proofs.DecimalLemmas.{and_first, and_second}
use Rattle.bufr_fill.proofs.LeastLemmas.{content_same}
use Rattle.std.specs.Result.{result_map_both}
use Rattle.bufr_fill.specs.declared.fault.ItemFault.TheVariants as wrong
use Rattle.bufr_walk.specs.declared.spec.Role.TheVariants as role

-- Unless there are too many values, the contents of a row are packed.
pub across : (spec : FieldSpec) (cs : List Content) (a : ItemRow) → row_contents spec a.cells ≡ Ok cs → (a.index + 1) * length a.cells ≤ max_values
    → pack_across spec a ≡ result_map_both (written_item cs) (packing_fault cs a.cells) (packing spec cs)
across spec cs a contents few = rw (le-ltb, contents)

abbrev pub bits_or_none : Result (List Bool) ItemFault → List Bool
bits_or_none (Ok bits) = bits
bits_or_none (Err why) = []

-- the bits of an item of compressed data
abbrev pub row_bits : Item (List Content) → List Bool
row_bits i = bits_or_none (packing i.spec i.content)

-- An item of compressed data that was read is written so that it reads back the same, in no more
-- bits.
pub packed_rewritten : (n : ℕ) (end_line : ℕ) (many : Bool) → 1 ≤ n → (i : Item (List Content)) (a : ItemRow) (bits mid : List Bool) → IsSpec i.spec → IsSaidRow i a
    → packed_field n i.spec bits ≡ Ok (found i.content mid) → IsRewritten (packed n) (packed_filler end_line many) i a (row_bits i) bits mid
packed_rewritten n end_line many some i a bits mid good row e = let r = by i.content e in record {
  fills = across i.spec i.content a row.contents row.few ∙ r.0;
  again = r.1;
  short = r.2;
}
  where
    by : (cs : List Content) → packed_field n i.spec bits ≡ Ok (found cs mid)
        → (result_map_both (written_item cs) (packing_fault cs a.cells) (packing i.spec cs) ≡ Ok (written_item cs (bits_or_none (packing i.spec cs))))
        × ((more : List Bool) → packed_field n i.spec (bits_or_none (packing i.spec cs) ++ more) ≡ Ok (found cs more))
        × (length (bits_or_none (packing i.spec cs)) + length mid ≤ length bits)
    by [] q = absurd (omega (arith, packed_count n i.spec good [] bits mid q))
    by (c ∷ cs) q =
        let p = packed_again n i.spec good c cs bits mid q in
        rw p.2.is (refl, p.2.again, omega (arith, p.1, p.2.short))

-- Items that fit their fields are written as plain data that read back the same. This is also true
-- of the items of compressed data.

-- ---- A single subset.

-- Each item comes next after those before it, and fits its field. The template ends after the last
-- one.
abbrev pub Follows : Course → List (Item Content) → Type 0
Follows course [] = course [] ≡ at_end
Follows course (i ∷ items) = (course [] ≡ take_next i.spec) × IsSpec i.spec × Fits i.spec i.content × Follows (after plain course i) items

-- Drafts with the contents of these items are written as plain data and read back.
pub record ArePlain (end_line : ℕ) (course : Course) (items : List (Item Content)) (ds : List Draft) : Type 0 where
  pub fills : fill (plain_filler end_line) course ds ≡ Ok (flat_map item_bits items)
  pub again : (more : List Bool) → ReadsItems plain course items (flat_map item_bits items ++ more) more
  pub end : course (answers_in answer_of items) ≡ at_end

pub plain_subset : (end_line : ℕ) (course : Course) (items : List (Item Content)) (ds : List Draft) → Follows course items → AreDrafts IsSpecified items ds → ArePlain end_line course items ds
plain_subset end_line course [] [] h said = record { fills = fill_end (plain_filler end_line) course h; again = λ more. refl; end = h }
plain_subset end_line course (i ∷ items) (d ∷ ds) h said =
    let first = item_bits i in
    let others = flat_map item_bits items in
    let rest = plain_subset end_line (after plain course i) items ds h.3 said.1 in
    record {
      fills = join plain (plain_filler end_line) (λ spec c. refl) course i d ds first others h.0
          (ap (λ r. map_err (at_line d.line) r >>= λ c. Ok (written_item c (bits_for i.spec.width c))) said.0) rest.fills;
      again = λ more. (
        others ++ more,
        h.0,
        rw (append_assoc first others more) (plain_again i.spec h.1 i.content h.2 (others ++ more)),
        rest.again more,
      );
      end = rest.end;
    }
plain_subset end_line course items ds h said = absurd said

-- ---- All subsets.

abbrev pub AllFollow : Course → List (List (Item Content)) → Type 0
AllFollow course subsets = AllByRecursion (λ (items : List (Item Content)). Follows course items) subsets

abbrev pub subset_bits : List (List (Item Content)) → List Bool
subset_bits subsets = flat_map (flat_map item_bits) subsets

pub record AreAllPlain (course : Course) (subsets : List (List (Item Content))) (drafts : List Subset) : Type 0 where
  pub is : plain_data course drafts ≡ Ok (subset_bits subsets)
  pub again : AreReadAs course false (length subsets) (apart subsets) (subset_bits subsets)

pub plain_subsets : (course : Course) → ((m : ℕ) → IsSane m course) → (subsets : List (List (Item Content))) (drafts : List Subset) → AllFollow course subsets → AreSpecified subsets drafts
    → AreAllPlain course subsets drafts
plain_subsets course sane [] [] h said = record { is = refl; again = none_read course }
plain_subsets course sane (items ∷ subsets) (s ∷ ss) h said =
    let bits = flat_map item_bits items in
    let others = subset_bits subsets in
    let first = plain_subset s.end_line course items s.items h.0 said.0 in
    let rest = plain_subsets course sane subsets ss h.1 said.1 in
    record {
      is = plain_both course s ss bits others first.fills rest.is;
      again = subset_then course sane (length subsets) items (apart subsets) bits others first.again first.end rest.again;
    }
plain_subsets course sane subsets ss h said = absurd said

-- ---- The drafts in the dump of items have the contents of these items.

items_said : (course : Course) (items : List (Item Content)) (ds : List Draft) → Follows course items → AreDrafts IsDumped items ds → AreDrafts IsSpecified items ds
items_said course [] [] f h = tt
items_said course (i ∷ items) (d ∷ ds) f h = (
  ap (content_of i.spec) (same_draft i.spec i.content d h.0) ∙ draft_again i.spec f.1 d.line i.content f.2,
  items_said (after plain course i) items ds f.3 h.1,
)
items_said course items ds f h = absurd h

pub subsets_said : (course : Course) (subsets : List (List (Item Content))) (ss : List Subset) → AllFollow course subsets → AreDumped subsets ss → AreSpecified subsets ss
subsets_said course [] [] f h = tt
subsets_said course (items ∷ subsets) (s ∷ ss) f h = (items_said course items s.items f.0 h.0, subsets_said course subsets ss f.1 h.1)
subsets_said course subsets ss f h = absurd h

-- ---- The items of compressed data.

-- If an item can be packed, it has the same answer in all subsets.
same_at : (c : Content) (cs : List Content) (j : ℕ) → list_all (same c) cs ≡ true → j < length cs → content_at j cs ≡ c
same_at c [] j e h = absurd (omega arith)
same_at c (d ∷ cs) zero e h = sym (content_same c d (and_first (same c d) (list_all (same c) cs) e))
same_at c (d ∷ cs) (suc j) e h = same_at c cs j (and_second (same c d) (list_all (same c) cs) e) (omega arith)

abbrev packed_or : Bool → Role → FieldSpec → Content → List Content → Result (List Bool) ItemFault
packed_or b r spec c cs = if b then Ok (packed_bits (bits_for spec.width c) 0 []) else packed_unlike r spec (c ∷ cs)

alike : (b : Bool) (r : Role) (spec : FieldSpec) (c : Content) (cs : List Content) (out : List Bool) (j : ℕ) → list_all (same c) cs ≡ b → packed_or b r spec c cs ≡ Ok out → j < length cs
    → answer_by_role r (content_at j cs) ≡ answer_by_role r c
alike b r spec c cs out j q e h = search (rules, same_at)

pub packed_alike : (spec : FieldSpec) (c : Content) (cs : List Content) (out : List Bool) (j : ℕ) → packing spec (c ∷ cs) ≡ Ok out → j < length (c ∷ cs)
    → answer_of spec (content_at j (c ∷ cs)) ≡ answer_of spec c
packed_alike spec c cs out zero e h = refl
packed_alike spec c cs out (suc j) e h = alike (list_all (same c) cs) spec.role spec c cs out j refl e (omega arith)

fit_at : (spec : FieldSpec) (cs : List Content) (j : ℕ) → AllFit spec cs → j < length cs → Fits spec (content_at j cs)
fit_at spec [] j f h = absurd (omega arith)
fit_at spec (c ∷ cs) zero f h = f.0
fit_at spec (c ∷ cs) (suc j) f h = fit_at spec cs j f.1 (omega arith)

-- The content of one subset fits the field, and its answer is that of the item.
record IsOneOf (spec : FieldSpec) (cs : List Content) (j : ℕ) : Type 0 where
  fits : Fits spec (content_at j cs)
  gives : answer_of spec (content_at j cs) ≡ answer_first spec cs

one_of : (n : ℕ) (spec : FieldSpec) (cs : List Content) (j : ℕ) (bits mid : List Bool) → IsSpec spec → j < n → packed_field n spec bits ≡ Ok (found cs mid) → IsOneOf spec cs j
one_of n spec [] j bits mid good h e = absurd (omega (arith, packed_count n spec good [] bits mid e))
one_of n spec (c ∷ cs) j bits mid good h e =
    let p = packed_again n spec good c cs bits mid e in
    let within : j < length (c ∷ cs) = omega (arith, packed_count n spec good (c ∷ cs) bits mid e) in
    record { fits = fit_at spec (c ∷ cs) j p.2.fits within; gives = packed_alike spec c cs p.2.out j p.2.is within }

-- The items of one subset satisfy `Follows`.
follows_packed : (n j : ℕ) (course : Course) (items : List (Item (List Content))) (bits suffix : List Bool) → j < n → AllFields items → ReadsItems (packed n) course items bits suffix
    → course (answers_in answer_first items) ≡ at_end → Follows course (items_of_subset j items)
follows_packed n j course [] bits suffix h fields r end = end
follows_packed n j course (i ∷ items) bits suffix h fields r end =
    let one = one_of n i.spec i.content j bits r.0 fields.0.spec h r.2 in
    let rest = follows_packed n j (after (packed n) course i) items r.0 suffix h fields.1 r.3 end in
    (r.1, fields.0.spec, one.fits, subst (λ (t : Taken). Follows (λ answer_of. course (t ∷ answer_of)) (items_of_subset j items)) (sym one.gives) rest)

pub all_follow : (n j left : ℕ) (course : Course) (items : List (Item (List Content))) (bits suffix : List Bool) → j + left ≤ n → AllFields items → ReadsItems (packed n) course items bits suffix
    → course (answers_in answer_first items) ≡ at_end → AllFollow course (subsets_from left j items)
all_follow n j zero course items bits suffix h fields r end = tt
all_follow n j (suc left) course items bits suffix h fields r end =
    (follows_packed n j course items bits suffix (omega arith) fields r end, all_follow n (suc j) left course items bits suffix (omega arith) fields r end)

pub length-subsets_from : (n j : ℕ) (items : List (Item (List Content))) → length (subsets_from n j items) ≡ n
length-subsets_from zero j items = refl
length-subsets_from (suc n) j items = ap suc (length-subsets_from n (suc j) items)

-- There are n subsets of drafts.
pub subset_count : (R : List (Item Content) → Subset → Type 0) (n : ℕ) (items : List (Item (List Content))) (ss : List Subset) → AllZip R (subsets_from n 0 items) ss → length ss ≡ n
subset_count R n items ss h = AllZip-long R (subsets_from n 0 items) ss h ∙ length-subsets_from n 0 items

-- ---- Items that were read as plain data are written as compressed data and read back, unless
-- their factors differ or no increments can represent their contents.

-- ---- The remaining items of each subset.

abbrev first_content : List (Item Content) → Content
first_content [] = missing
first_content (i ∷ items) = i.content

abbrev firsts : List (List (Item Content)) → List Content
firsts [] = []
firsts (r ∷ rs) = first_content r ∷ firsts rs

abbrev tail : List (Item Content) → List (Item Content)
tail [] = []
tail (i ∷ items) = items

abbrev tails : List (List (Item Content)) → List (List (Item Content))
tails [] = []
tails (r ∷ rs) = tail r ∷ tails rs

-- the number of remaining items in all subsets
abbrev total : List (List (Item Content)) → ℕ
total [] = 0
total (r ∷ rs) = length r + total rs

abbrev longest_left : List (List (Item Content)) → ℕ
longest_left [] = 0
longest_left (r ∷ rs) = max (length r) (longest_left rs)

-- The drafts from index p on have the contents of the remaining items.
abbrev SaidAt : ℕ → List (List (Item Content)) → List Subset → Type 0
SaidAt p rs ss = AllZip (λ (r : List (Item Content)) (s : Subset). AreDrafts IsSpecified r (drop p s.items)) rs ss

-- The next item of the subset has this field, and fits it.
abbrev IsHeaded : FieldSpec → List (Item Content) → Type 0
IsHeaded spec [] = ⊥
IsHeaded spec (i ∷ items) = (i.spec ≡ spec) × Fits spec i.content

abbrev AreHeaded : FieldSpec → List (List (Item Content)) → Type 0
AreHeaded spec rs = AllByRecursion (λ (r : List (Item Content)). IsHeaded spec r) rs

one_headed : (course : Course) (spec : FieldSpec) (r : List (Item Content)) → course [] ≡ take_next spec → Follows course r → IsHeaded spec r
one_headed course spec r e h = grind arith

headed : (course : Course) (spec : FieldSpec) (rs : List (List (Item Content))) → course [] ≡ take_next spec → AllFollow course rs → AreHeaded spec rs
headed course spec [] e h = tt
headed course spec (r ∷ rs) e h = (one_headed course spec r e h.0, headed course spec rs e h.1)

all_fit : (spec : FieldSpec) (rs : List (List (Item Content))) → AreHeaded spec rs → AllFit spec (firsts rs)
all_fit spec [] h = tt
all_fit spec ([] ∷ rs) h = absurd h.0
all_fit spec ((i ∷ items) ∷ rs) h = (h.0.1, all_fit spec rs h.1)

length-firsts : (rs : List (List (Item Content))) → length (firsts rs) ≡ length rs
length-firsts [] = refl
length-firsts (r ∷ rs) = ap suc (length-firsts rs)

length-tails : (rs : List (List (Item Content))) → length (tails rs) ≡ length rs
length-tails [] = refl
length-tails (r ∷ rs) = ap suc (length-tails rs)

total_tails : (spec : FieldSpec) (rs : List (List (Item Content))) → AreHeaded spec rs → total rs ≡ length rs + total (tails rs)
total_tails spec [] h = refl
total_tails spec ([] ∷ rs) h = absurd h.0
total_tails spec ((i ∷ items) ∷ rs) h = omega (arith, total_tails spec rs h.1)

longest_tails : (spec : FieldSpec) (r : List (Item Content)) (rs : List (List (Item Content))) → AreHeaded spec (r ∷ rs) → longest_left (r ∷ rs) ≡ suc (longest_left (tails (r ∷ rs)))
longest_tails spec [] rs h = absurd h.0
longest_tails spec (i ∷ items) [] h = omega arith
longest_tails spec (i ∷ items) (q ∷ rs) h = omega (arith, longest_tails spec q rs h.1)

-- ---- The cells at an index.

content_there : (p : ℕ) (ds : List Draft) (end_line : ℕ) (i : Item Content) (items : List (Item Content)) → AreDrafts IsSpecified (i ∷ items) (drop p ds)
    → item_content i.spec (slice_get ds p) end_line ≡ Ok i.content
content_there zero [] end_line i items h = absurd h
content_there zero (d ∷ ds) end_line i items h = rw (h.0)
content_there (suc p) [] end_line i items h = absurd h
content_there (suc p) (d ∷ ds) end_line i items h = content_there p ds end_line i items h

draft_next : (p : ℕ) (ds : List Draft) (i : Item Content) (items : List (Item Content)) → AreDrafts IsSpecified (i ∷ items) (drop p ds) → AreDrafts IsSpecified items (drop (suc p) ds)
draft_next zero [] i items h = absurd h
draft_next zero (d ∷ ds) i items h = h.1
draft_next (suc p) [] i items h = absurd h
draft_next (suc p) (d ∷ ds) i items h = draft_next p ds i items h

contents_there : (spec : FieldSpec) (p : ℕ) (rs : List (List (Item Content))) (ss : List Subset) → AreHeaded spec rs → SaidAt p rs ss → row_contents spec (cells_at p ss) ≡ Ok (firsts rs)
contents_there spec p [] [] h d = refl
contents_there spec p ([] ∷ rs) (s ∷ ss) h d = absurd h.0
contents_there spec p ((i ∷ items) ∷ rs) (s ∷ ss) h d = cc (
  rw (h.0.0) at (content_there p s.items s.end_line i items d.0),
  contents_there spec p rs ss h.1 d.1,
)
contents_there spec p rs ss h d = absurd d

said_next : (spec : FieldSpec) (p : ℕ) (rs : List (List (Item Content))) (ss : List Subset) → AreHeaded spec rs → SaidAt p rs ss → SaidAt (suc p) (tails rs) ss
said_next spec p [] [] h d = tt
said_next spec p ([] ∷ rs) (s ∷ ss) h d = absurd h.0
said_next spec p ((i ∷ items) ∷ rs) (s ∷ ss) h d = (draft_next p s.items i items d.0, said_next spec p rs ss h.1 d.1)
said_next spec p rs ss h d = absurd d

length-said : (p : ℕ) (rs : List (List (Item Content))) (ss : List Subset) → SaidAt p rs ss → length (cells_at p ss) ≡ length rs
length-said p [] [] d = refl
length-said p (r ∷ rs) (s ∷ ss) d = ap suc (length-said p rs ss d.1)
length-said p rs ss d = absurd d

-- The next items of all subsets can be written together if their contents can be packed.
across_gives : (spec : FieldSpec) (p : ℕ) (rs : List (List (Item Content))) (ss : List Subset) → AreHeaded spec rs → SaidAt p rs ss → (p + 1) * length rs ≤ max_values
    → pack_across spec (item_row p ss) ≡ result_map_both (written_item (firsts rs)) (packing_fault (firsts rs) (cells_at p ss)) (packing spec (firsts rs))
across_gives spec p rs ss h d few = across spec (firsts rs) (item_row p ss) (contents_there spec p rs ss h d) (rw (length-said p rs ss d) few)

-- ---- The course continues in the same way for all subsets.

abbrev AllAnswer : FieldSpec → Taken → List Content → Type 0
AllAnswer spec t cs = AllByRecursion (λ (c : Content). answer_of spec c ≡ t) cs

all_answer : (spec : FieldSpec) (t : Taken) (cs : List Content) → ((j : ℕ) → j < length cs → answer_of spec (content_at j cs) ≡ t) → AllAnswer spec t cs
all_answer spec t [] h = tt
all_answer spec t (c ∷ cs) h = (h 0 (omega arith), all_answer spec t cs (λ j l. h (suc j) (omega arith)))

follow_next : (course : Course) (spec : FieldSpec) (t : Taken) (rs : List (List (Item Content))) → AreHeaded spec rs → AllAnswer spec t (firsts rs) → AllFollow course rs
    → AllFollow (λ answer_of. course (t ∷ answer_of)) (tails rs)
follow_next course spec t [] h a f = tt
follow_next course spec t ([] ∷ rs) h a f = absurd h.0
follow_next course spec t ((i ∷ items) ∷ rs) h a f =
    let same : answer_of i.spec i.content ≡ t = rw (h.0.0, a.0) in
    (rw (← same) f.0.3, follow_next course spec t rs h.1 a.1 f.1)

-- ---- The items of compressed data consist of those of each subset.

abbrev AreParts : ℕ → List (Item (List Content)) → List (List (Item Content)) → Type 0
AreParts j items [] = Unit {0}
AreParts j items (r ∷ rs) = (items_of_subset j items ≡ r) × AreParts (suc j) items rs

parts_subsets : (j : ℕ) (items : List (Item (List Content))) (rs : List (List (Item Content))) → AreParts j items rs → subsets_from (length rs) j items ≡ rs
parts_subsets j items [] h = refl
parts_subsets j items (r ∷ rs) h = cc (h.0, parts_subsets (suc j) items rs h.1)

at_drop : (j : ℕ) (cs : List Content) (c : Content) (rest : List Content) → drop j cs ≡ c ∷ rest → (content_at j cs ≡ c) × (drop (suc j) cs ≡ rest)
at_drop zero [] c rest e = absurd cc
at_drop zero (x ∷ cs) c rest e = (cc, cc)
at_drop (suc j) [] c rest e = absurd cc
at_drop (suc j) (x ∷ cs) c rest e = at_drop j cs c rest e

no_parts : (course : Course) (j : ℕ) (rs : List (List (Item Content))) → course [] ≡ at_end → AllFollow course rs → AreParts j [] rs × (longest_left rs ≡ 0)
no_parts course j [] e f = (tt, refl)
no_parts course j ([] ∷ rs) e f = let rest = no_parts course (suc j) rs e f.1 in ((refl, rest.0), omega (arith, rest.1))
no_parts course j ((i ∷ items) ∷ rs) e f = let x : take_next i.spec ≡ at_end = sym f.0.0 ∙ e in absurd cc

more_parts : (j : ℕ) (spec : FieldSpec) (cs : List Content) (items : List (Item (List Content))) (rs : List (List (Item Content))) → drop j cs ≡ firsts rs → AreHeaded spec rs
    → AreParts j items (tails rs) → AreParts j (record { spec = spec; content = cs } ∷ items) rs
more_parts j spec cs items [] e h a = tt
more_parts j spec cs items ([] ∷ rs) e h a = absurd h.0
more_parts j spec cs items ((i ∷ r) ∷ rs) e h a =
    let at = at_drop j cs i.content (firsts rs) e in
    let same : items_of_subset j (record { spec = spec; content = cs } ∷ items) ≡ i ∷ r = grind arith in
    (same, more_parts (suc j) spec cs items rs at.1 h.1 a.1)

-- ---- Successive rows.

record IsTogether (n : ℕ) (course : Course) (rests : List (List (Item Content))) (drafts : List ItemRow) (end_line : ℕ) (many : Bool) : Type 0 where
  items : List (Item (List Content))
  parts : AreParts 0 items rests
  out : List Bool
  fills : fill (packed_filler end_line many) course drafts ≡ Ok out
  again : (more : List Bool) → ReadsItems (packed n) course items (out ++ more) more
  end : course (answers_in answer_first items) ≡ at_end
  few : length items * n ≤ total rests

record IsNot (course : Course) (drafts : List ItemRow) (end_line : ℕ) (many : Bool) : Type 0 where
  line : ℕ
  why : ItemFault
  is : fill (packed_filler end_line many) course drafts ≡ Err (at_line line why)
  unlike : IsUnlike why

abbrev Either : (n : ℕ) → Course → List (List (Item Content)) → List ItemRow → (end_line : ℕ) → (many : Bool) → Type 0
Either n course rests drafts end_line many = IsTogether n course rests drafts end_line many ⊎ IsNot course drafts end_line many

-- The fault of contents that cannot be packed is `UnequalFactor` or `Increment`.
refused_unlike : (spec : FieldSpec) (cs : List Content) (why : ItemFault) → packing spec cs ≡ Err why → IsUnlike why
refused_unlike spec [] why e = cc
refused_unlike spec (c ∷ cs) why e = by (list_all (same c) cs) spec.role e
  where
    over : (b : Bool) (bits : List Bool) → (if b then Ok bits else Err wrong.Increment) ≡ Err why → IsUnlike why
    over true bits e = cc
    over false bits e = grind arith

    by : (b : Bool) (r : Role) → packed_or b r spec c cs ≡ Err why → IsUnlike why
    by true r e = cc
    by false role.Factor e = grind arith
    by false role.Reference e = grind arith
    by false role.Element e = over _ _ e
    by false role.Inserted e = over _ _ e

module _ (end_line : ℕ) (many : Bool) where
  fill_first : (course : Course) (spec : FieldSpec) (a : ItemRow) (more : List ItemRow) (r : Result (List Bool) ItemFault) (cs : List Content) → course [] ≡ take_next spec
      → pack_across spec a ≡ result_map_both (written_item cs) (packing_fault cs a.cells) r
      → fill (packed_filler end_line many) course (a ∷ more) ≡ filled (packed_filler end_line many) spec (result_map_both (written_item cs) (packing_fault cs a.cells) r)
      (λ t. fill (packed_filler end_line many) (λ answer_of. course (t ∷ answer_of)) more)
  fill_first course spec a more r cs next gives = search (rules, fill_more)

  not_packed : (course : Course) (drafts : List ItemRow) (cs : List Content) (cells : List RowCell) (why : ItemFault) → IsUnlike why
      → fill (packed_filler end_line many) course drafts ≡ Err (packing_fault cs cells why) → IsNot course drafts end_line many
  not_packed course drafts cs cells wrong.UnequalFactor unlike e = record { line = unlike_line cs cells; why = wrong.UnequalFactor; is = e; unlike = tt }
  not_packed course drafts cs cells why unlike e = record { line = first_line cells; why = why; is = e; unlike = unlike }

  -- the first row, followed by the others
  onto : (n : ℕ) (course : Course) (spec : FieldSpec) (c : Content) (cs : List Content) (rs : List (List (Item Content))) (a : ItemRow) (more : List ItemRow) → IsSpec spec
      → course [] ≡ take_next spec → AreHeaded spec rs → firsts rs ≡ c ∷ cs → length rs ≡ n
      → (r : Result (List Bool) ItemFault) → packing spec (c ∷ cs) ≡ r → pack_across spec a ≡ result_map_both (written_item (c ∷ cs)) (packing_fault (c ∷ cs) a.cells) r
      → ((out : List Bool) → packing spec (c ∷ cs) ≡ Ok out → Either n (λ answer_so. course (answer_of spec c ∷ answer_so)) (tails rs) more end_line many)
      → Either n course rs (a ∷ more) end_line many
  onto n course spec c cs rs a more good next h f count (Err why) p gives rest =
      inr (not_packed course (a ∷ more) (c ∷ cs) a.cells why (refused_unlike spec (c ∷ cs) why p) (fill_first course spec a more (Err why) (c ∷ cs) next gives))
  onto n course spec c cs rs a more good next h f count (Ok w) p gives rest = by (rest w p)
    where
      by : Either n (λ answer_so. course (answer_of spec c ∷ answer_so)) (tails rs) more end_line many → Either n course rs (a ∷ more) end_line many
      by (inr x) = inr (record {
        line = x.line;
        why = x.why;
        is = fill_first course spec a more (Ok w) (c ∷ cs) next gives ∙ ap (with_bits_before (packed_filler end_line many) w) x.is;
        unlike = x.unlike;
      })
      by (inl x) =
          let long : length (c ∷ cs) ≡ n = ap length (sym f) ∙ length-firsts rs ∙ count in
          let fits : AllFit spec (c ∷ cs) = subst (AllFit spec) f (all_fit spec rs h) in
          inl (record {
            items = record { spec = spec; content = c ∷ cs } ∷ x.items;
            parts = more_parts 0 spec (c ∷ cs) x.items rs (sym f) h x.parts;
            out = w ++ x.out;
            fills = fill_first course spec a more (Ok w) (c ∷ cs) next gives ∙ ap (with_bits_before (packed_filler end_line many) w) x.fills;
            again = λ bits. (
              x.out ++ bits,
              next,
              ap (packed_field n spec) (append_assoc w x.out bits) ∙ fitting_again n spec good c cs w (x.out ++ bits) fits long p,
              x.again bits,
            );
            end = x.end;
            few = omega (arith, x.few, count, total_tails);
          })

  -- all rows from an index on
  from_index : (course : Course) (r : List (Item Content)) (rs : List (List (Item Content))) (ss : List Subset) (p : ℕ) → AllFollow course (r ∷ rs) → SaidAt p (r ∷ rs) ss
      → p * suc (length rs) + total (r ∷ rs) ≤ max_values
      → Either (suc (length rs)) course (r ∷ rs) (rows (longest_left (r ∷ rs)) p ss) end_line many
  from_index course [] rs ss p f d few =
      let none = no_parts course 0 ([] ∷ rs) f.0 f in
      grind arith
  from_index course (i ∷ items) rs ss p f d few =
      let n = suc (length rs) in
      let all = (i ∷ items) ∷ rs in
      let spec = i.spec in
      let h = headed course spec all f.0.0 f in
      let cs = firsts rs in
      let more = rows (longest_left (tails all)) (p + 1) ss in
      let tot : total all ≡ n + total (tails all) = total_tails spec all h in
      let within : (p + 1) * n ≤ max_values = omega (arith, few, tot) in
      let gives = across_gives spec p all ss h d within in
      let forth : suc p ≡ p + 1 = omega arith in
      subst (λ k. Either n course all (rows k p ss) end_line many) (sym (longest_tails spec (i ∷ items) rs h))
      (onto n course spec i.content cs all (item_row p ss) more f.0.1 f.0.0 h refl refl (packing spec (i.content ∷ cs)) refl gives (λ w q.
      let gives = all_answer spec (answer_of spec i.content) cs (λ j l. packed_alike spec i.content cs w (suc j) q (omega (arith, l))) in
      let d' = subst (λ k. SaidAt k (tails all) ss) forth (said_next spec p all ss h d) in
      let f' = follow_next course spec (answer_of spec i.content) all h (refl, gives) f in
      let same : length (tails rs) ≡ length rs = length-tails rs in
      subst (λ k. Either (suc k) (λ answer_so. course (answer_of spec i.content ∷ answer_so)) (tails all) more end_line many) same
      (from_index (λ answer_so. course (answer_of spec i.content ∷ answer_so)) items (tails rs) ss (p + 1) f' d' (
      let e : (p + 1) * suc (length (tails rs)) ≡ (p + 1) * n = rw same in omega (arith, few, tot, e)))))

-- ---- Data that were read.

-- The items satisfy `Follows`, and take no more bits than were read, but at least one bit each.
record AreFollowed (course : Course) (items : List (Item Content)) (bits suffix : List Bool) : Type 0 where
  follow : Follows course items
  short : length (flat_map item_bits items) + length suffix ≤ length bits
  least : length items ≤ length (flat_map item_bits items)

followed : (course : Course) (items : List (Item Content)) (bits suffix : List Bool) → AllFields items → ReadsItems plain course items bits suffix → course (answers_in answer_of items) ≡ at_end
    → AreFollowed course items bits suffix
followed course [] bits suffix fields r end = record { follow = end; short = omega (arith, ap length r); least = omega arith }
followed course (i ∷ items) bits suffix fields r end =
    let rest = followed (after plain course i) items r.0 suffix fields.1 r.3 end in
    let read = plain_read i.spec fields.0.spec bits r.0 i.content r.2 in
    let long = content_length i.spec fields.0.spec i.content read.0 in
    grind (arith, common_steps, width_least, rest.short, read.1, long, rest.least)

pub record AreAllFollowed (course : Course) (n : ℕ) (subsets : List (List (Item Content))) (bits suffix : List Bool) : Type 0 where
  pub follow : AllFollow course subsets
  pub short : length (subset_bits subsets) + length suffix ≤ length bits
  pub least : total subsets ≤ length (subset_bits subsets)
  pub count : length subsets ≡ n

pub none_followed : (course : Course) (bits : List Bool) → AreAllFollowed course 0 [] bits bits
none_followed course bits = record { follow = tt; short = omega arith; least = omega arith; count = refl }

pub more_followed : (course : Course) (n : ℕ) (items : List (Item Content)) (subsets : List (List (Item Content))) (bits mid suffix : List Bool) → AllFields items
    → ReadsItems plain course items bits mid → course (answers_in answer_of items) ≡ at_end → AreAllFollowed course n subsets mid suffix → AreAllFollowed course (suc n) (items ∷ subsets) bits suffix
more_followed course n items subsets bits mid suffix fields r end rest = grind (arith, common_steps, followed)

said_from : (subsets : List (List (Item Content))) (ss : List Subset) → AreSpecified subsets ss → SaidAt 0 subsets ss × (most_items ss ≡ longest_left subsets)
said_from [] [] h = (tt, refl)
said_from (items ∷ subsets) (s ∷ ss) h =
    let rest = said_from subsets ss h.1 in
    ((h.0, rest.0), omega (arith, rest.1, AllZip-long IsSpecified items s.items h.0))
said_from subsets ss h = absurd h

-- Plain data that were read are written as compressed data, if these can represent their contents.
pub together : (course : Course) → ((m : ℕ) → IsSane m course) → (n : ℕ) (subsets : List (List (Item Content))) (drafts : List Subset) (bits suffix : List Bool) → length bits ≤ max_values
    → AreDumped subsets drafts → AreAllFollowed course n subsets bits suffix → IsTogetherOrNot course subsets drafts
together course sane n [] [] bits suffix few dumped all = inl ([], refl, record { out = []; is = refl; again = none_read_together course })
together course sane n (items ∷ subsets) (s ∷ ss) bits suffix few dumped all =
    by (from_index s.end_line many course items subsets (s ∷ ss) 0 all.follow at.0 (omega (arith, all.short, all.least, few)))
  where
    many : Bool
    many = would_be_many (length (s ∷ ss)) (most_items (s ∷ ss))

    at : SaidAt 0 (items ∷ subsets) (s ∷ ss) × (most_items (s ∷ ss) ≡ longest_left (items ∷ subsets))
    at = said_from (items ∷ subsets) (s ∷ ss) (subsets_said course (items ∷ subsets) (s ∷ ss) all.follow dumped)

    data_are : packed_data course (s ∷ ss) ≡ fill (packed_filler s.end_line many) course (rows (longest_left (items ∷ subsets)) 0 (s ∷ ss))
    data_are = ap (λ k. fill (packed_filler s.end_line many) course (rows k 0 (s ∷ ss))) at.1

    by : Either (suc (length subsets)) course (items ∷ subsets) (rows (longest_left (items ∷ subsets)) 0 (s ∷ ss)) s.end_line many → IsTogetherOrNot course (items ∷ subsets) (s ∷ ss)
    by (inr x) = inr (x.line, x.why, data_are ∙ x.is, x.unlike)
    by (inl x) = inl (
      x.items,
      parts_subsets 0 x.items (items ∷ subsets) x.parts,
      record {
        out = x.out;
        is = data_are ∙ x.fills;
        again = items_read course sane (length subsets) x.items x.out x.again x.end (omega (arith, x.few, all.short, all.least, few));
      },
    )
together course sane n subsets ss bits suffix few dumped all = absurd dumped
