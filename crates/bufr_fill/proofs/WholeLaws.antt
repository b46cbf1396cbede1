-- The round trip of all data.
use Rattle.std.proofs.lemmas.Grind.{common_steps}
use Rattle.std.proofs.lemmas.Slice.Zip.{AllZip-long}
use Rattle.std.proofs.Common.{◌≡◌, ℕ, zero, suc, ◌+◌, ◌*◌, ◌<◌, ◌≤◌, List, [], ◌∷◌, length, drop, refl, sym, ◌∙◌, ap, subst, arith, Bool, true, false, ◌++◌, Ok, length-drop, slice_get, flat_map, rules}
use Rattle.bufr_fill.proofs.EntryLemmas.{length-cells}
use Rattle.bufr_walk.specs.Prelude.{Content, max_values, Item, packed, ReadsItems, answers_in, answer_first, at_end, after, Data, Values, apart, together, each_subset, content_at, Course, next_item, items_of_subset, subsets_from, would_be_many}
use Rattle.bufr_fill.specs.Prelude.{IsAlike, Draft, Subset, cells_at, rows, most_items, packed_filler, item_content, row_contents, packed_data, AreDrafts, AreDumped, HasReading, IsWritten, IsWrittenAgain, IsTogetherOrNot, data_bits, IsSpecified, AreSpecified, AllAlike, AllHaveOctets}
use Rattle.bufr_fill.proofs.PlainLaws.{IsSaidRow, HaveContents, AllFields, rewritten}
use Rattle.std.specs.List.{AllZip}
use Rattle.bufr_tables.specs.Prelude.{Row, Tree, IsLegal}
use Rattle.bufr_walk.proofs.NextField.{AreRead}
use Rattle.bufr_walk.proofs.CourseLemmas.{IsSane}
use Rattle.bufr_walk.proofs.PassLemmas.{legal_sane}
use Rattle.bufr_fill.proofs.PackedLaws.{packed_count}
use Rattle.bufr_fill.proofs.FormLaws.{subset_count, packed_rewritten, together as all_together, AreAllFollowed, none_followed, more_followed, AllFollow, all_follow, plain_subsets, subsets_said, subset_bits, row_bits, length-subsets_from}
use Rattle.bufr_fill.proofs.BackLaws.{read_back}
use Rattle.bufr_fill.proofs.ReadsLemmas.{AreReadAs, form_is, of_apart, of_together, items_read, none_read_together}
use Rattle.bufr_walk.proofs.PackedReading.{length-items_of}

-- ---- The drafts of all subsets have the rows of the items of compressed data.

drop-items_of : (j p : ℕ) (items : List (Item (List Content))) → drop p (items_of_subset j items) ≡ items_of_subset j (drop p items)
drop-items_of j zero items = refl
drop-items_of j (suc p) [] = refl
drop-items_of j (suc p) (i ∷ items) = drop-items_of j p items

content_more : (j : ℕ) (cs : List Content) → j < length cs → drop j cs ≡ content_at j cs ∷ drop (suc j) cs
content_more j [] h = absurd (omega arith)
content_more zero (c ∷ cs) h = refl
content_more (suc j) (c ∷ cs) h = content_more j cs (omega arith)

content_none : (j : ℕ) (cs : List Content) → length cs ≡ j → drop j cs ≡ []
content_none j cs h = grind (arith, common_steps)

drop_next : (items : List (Item (List Content))) (p : ℕ) (i : Item (List Content)) (rest : List (Item (List Content))) → drop p items ≡ i ∷ rest → drop (p + 1) items ≡ rest
drop_next [] zero i rest e = absurd cc
drop_next [] (suc p) i rest e = absurd cc
drop_next (x ∷ items) zero i rest e = cc
drop_next (x ∷ items) (suc p) i rest e = let q : suc p + 1 ≡ suc (p + 1) = omega arith in cc (q, drop_next items p i rest e)

-- The draft at an index has the content of the item there.
said_at : (end_line : ℕ) (items : List (Item Content)) (ds : List Draft) (p : ℕ) (i : Item Content) (rest : List (Item Content)) → AreDrafts IsSpecified items ds → drop p items ≡ i ∷ rest
    → item_content i.spec (slice_get ds p) end_line ≡ Ok i.content
said_at end_line [] [] zero i rest h e = absurd cc
said_at end_line [] [] (suc p) i rest h e = absurd cc
said_at end_line (x ∷ items) (d ∷ ds) zero i rest h e = grind arith
said_at end_line (x ∷ items) (d ∷ ds) (suc p) i rest h e = said_at end_line items ds p i rest h.1 e
said_at end_line items ds p i rest h e = absurd h

-- The cells at an index have the contents of the item there.
contents_said : (items : List (Item (List Content))) (p : ℕ) (i : Item (List Content)) (rest : List (Item (List Content))) (j : ℕ) (ss : List Subset) → drop p items ≡ i ∷ rest
    → j + length ss ≡ length i.content → AreSpecified (subsets_from (length ss) j items) ss → row_contents i.spec (cells_at p ss) ≡ Ok (drop j i.content)
contents_said items p i rest j [] e n h = ap Ok (sym (content_none j i.content (omega arith)))
contents_said items p i rest j (s ∷ ss) e n h =
    let here : drop p (items_of_subset j items) ≡ record { spec = i.spec; content = content_at j i.content } ∷ items_of_subset j rest = drop-items_of j p items ∙ ap (items_of_subset j) e in
    cc (
      said_at s.end_line (items_of_subset j items) s.items p (record { spec = i.spec; content = content_at j i.content }) (items_of_subset j rest) h.0 here,
      contents_said items p i rest (suc j) ss e (omega (arith, n)) h.1,
      content_more j i.content (omega (arith, n)),
    )

-- the rows from an index on
rows_said : (items : List (Item (List Content))) (ss : List Subset) (rest : List (Item (List Content))) (p : ℕ) → HaveContents (length ss) rest → AreSpecified (subsets_from (length ss) 0 items) ss
    → drop p items ≡ rest → (p + length rest) * length ss ≤ max_values → AreDrafts IsSaidRow rest (rows (length rest) p ss)
rows_said items ss [] p have h e few = tt
rows_said items ss (i ∷ rest) p have h e few =
    let q : p + 1 + length rest ≡ p + length (i ∷ rest) = omega arith in (
      record {
        contents = contents_said items p i rest 0 ss e (omega arith) h;
        few = rw (length-cells p ss) (omega arith);
      },
      rows_said items ss rest (p + 1) have.1 h (drop_next items p i rest e) (rw q few),
    )

longest_said : (j : ℕ) (items : List (Item (List Content))) (ss : List Subset) → AreSpecified (subsets_from (length ss) j items) ss → most_items ss ≤ length items
longest_said j items [] h = omega arith
longest_said j items (s ∷ ss) h = omega (arith, AllZip-long IsSpecified (items_of_subset j items) s.items h.0, length-items_of, longest_said (suc j) items ss h.1)

all_rows_said : (n : ℕ) (items : List (Item (List Content))) (s : Subset) (ss : List Subset) → HaveContents n items → AreSpecified (subsets_from n 0 items) (s ∷ ss)
    → length items * n ≤ max_values → AreDrafts IsSaidRow items (rows (most_items (s ∷ ss)) 0 (s ∷ ss))
all_rows_said n items s ss have said few =
    let same = sym (subset_count _ n items (s ∷ ss) said) in
    let h = subst (λ k. AreSpecified (subsets_from k 0 items) (s ∷ ss)) same said in
    let l : most_items (s ∷ ss) ≡ length items = omega (arith, AllZip-long IsSpecified (items_of_subset 0 items) s.items h.0, length-items_of, longest_said 1 items ss h.1) in
    search (rules, rows_said)

have_contents : (n : ℕ) (course : Course) (items : List (Item (List Content))) (bits suffix : List Bool) → AllFields items → ReadsItems (packed n) course items bits suffix → HaveContents n items
have_contents n course [] bits suffix fields h = tt
have_contents n course (i ∷ items) bits suffix fields h = (packed_count n i.spec fields.0.spec i.content bits h.0 h.2, have_contents n (after (packed n) course i) items h.0 suffix fields.1 h.3)

-- Drafts with the contents of items that were read are packed and read back, in no more bits.
pub record ArePackedRows (n : ℕ) (course : Course) (items : List (Item (List Content))) (drafts : List Subset) (bits suffix : List Bool) : Type 0 where
  pub is : packed_data course drafts ≡ Ok (flat_map row_bits items)
  pub again : AreReadAs course true n (together items) (flat_map row_bits items)
  pub short : length (flat_map row_bits items) + length suffix ≤ length bits

no_rows : (course : Course) (drafts : List Subset) (bits : List Bool) → AreSpecified [] drafts → ArePackedRows 0 course [] drafts bits bits
no_rows course [] bits said = record { is = refl; again = none_read_together course; short = omega arith }
no_rows course (s ∷ ss) bits said = absurd said

packed_rows : (course : Course) → ((m : ℕ) → IsSane m course) → (n : ℕ) (items : List (Item (List Content))) (drafts : List Subset) (bits suffix : List Bool) → AllFields items
    → AreSpecified (subsets_from (suc n) 0 items) drafts → ReadsItems (packed (suc n)) course items bits suffix → course (answers_in answer_first items) ≡ at_end → length items * suc n ≤ max_values
    → ArePackedRows (suc n) course items drafts bits suffix
packed_rows course sane n items [] bits suffix fields said r end few = absurd said
packed_rows course sane n items (s ∷ ss) bits suffix fields said r end few =
    let many = would_be_many (length (s ∷ ss)) (most_items (s ∷ ss)) in
    let w = rewritten (packed (suc n)) (packed_filler s.end_line many) IsSaidRow row_bits (λ spec c. refl) (packed_rewritten (suc n) s.end_line many (omega arith)) course items
    (rows (most_items (s ∷ ss)) 0 (s ∷ ss)) bits suffix fields (all_rows_said (suc n) items s ss (have_contents (suc n) course items bits suffix fields r) said few) r end in
    record { is = w.fills; again = items_read course sane n items (flat_map row_bits items) w.again end few; short = w.short }

-- the bits that are written for values
abbrev pub bits_again : Values → List Bool
bits_again (apart subsets) = subset_bits subsets
bits_again (together items) = flat_map row_bits items

-- ---- The same for a legal template. Nothing is required of the specs.

module _ (table : List Row) (template : Tree) (rows : AreRead table) (legal : IsLegal template) (d : Data) where
  abbrev course : Course
  course = next_item table template

  sane : (m : ℕ) → IsSane m course
  sane m = legal_sane table template rows legal m

  -- the properties of items that were read, from plain data or from compressed data
  plain_all : (subsets : List (List (Item Content))) (used : ℕ) → HasReading course d (apart subsets) used → AreAllFollowed course d.subsets subsets d.bits (drop used d.bits)
  plain_all subsets used h =
      of_apart table template rows legal (AreAllFollowed course) (none_followed course) (more_followed course) d subsets used h

  packed_all : (items : List (Item (List Content))) (drafts : List Subset) (used : ℕ) → AreSpecified (subsets_from d.subsets 0 items) drafts → HasReading course d (together items) used
      → ArePackedRows d.subsets course items drafts d.bits (drop used d.bits)
  packed_all items drafts used said h =
      of_together table template rows legal (λ n items bits left. AreSpecified (subsets_from n 0 items) drafts → ArePackedRows n course items drafts bits left)
      (λ bits said. no_rows course drafts bits said) (λ n items bits left fields r end few said. packed_rows course sane n items drafts bits left fields said r end few) d items used h said

  -- There are as many lists of items as subsets.
  pub each_count : (values : Values) (used : ℕ) → HasReading course d values used → length (each_subset d.subsets values) ≡ d.subsets
  each_count (apart subsets) used h = (plain_all subsets used h).count
  each_count (together items) used h = length-subsets_from d.subsets 0 items

  pub follows : (values : Values) (used : ℕ) → HasReading course d values used → AllFollow course (each_subset d.subsets values)
  follows (apart subsets) used h = (plain_all subsets used h).follow
  follows (together items) used h =
      of_together table template rows legal (λ n items bits left. AllFollow course (subsets_from n 0 items)) (λ bits. tt)
      (λ n items bits left fields r end few. all_follow (suc n) 0 (suc n) course items bits left (omega arith) fields r end) d items used h

  -- Drafts with the contents that were read are written so that they read back the same.
  pub said_again : (values : Values) (used : ℕ) (drafts : List Subset) → HasReading course d values used → AreSpecified (each_subset d.subsets values) drafts
      → (w : IsWrittenAgain course d values used drafts) × (w.0.out ≡ bits_again values)
  said_again (apart subsets) used drafts h said =
      let form = form_is course d (apart subsets) used h in
      let all = plain_all subsets used h in
      let w = plain_subsets course sane subsets drafts all.follow said in (
        (
          record {
            out = subset_bits subsets;
            is = ap (λ b. data_bits b course drafts) form ∙ w.is;
            again = subst (λ b. AreReadAs course b d.subsets (apart subsets) (subset_bits subsets)) (sym form)
                (rw (← all.count) w.again);
          },
          omega (arith, all.short, h.within, length-drop used d.bits),
        ),
        refl,
      )
  said_again (together items) used drafts h said =
      let form = form_is course d (together items) used h in
      let w = packed_all items drafts used said h in (
        (
          record {
            out = flat_map row_bits items;
            is = ap (λ b. data_bits b course drafts) form ∙ w.is;
            again = rw form w.again;
          },
          omega (arith, w.short, h.within, length-drop used d.bits),
        ),
        refl,
      )

  pub written_again : (values : Values) (used : ℕ) (drafts : List Subset) → HasReading course d values used → AreDumped (each_subset d.subsets values) drafts
      → IsWrittenAgain course d values used drafts
  written_again values used drafts h dumped = (said_again values used drafts h (subsets_said course (each_subset d.subsets values) drafts (follows values used h) dumped)).0

  -- The contents of drafts determine the bits that are written.
  pub said_alike : (values : Values) (used : ℕ) (drafts others : List Subset) → HasReading course d values used → AreSpecified (each_subset d.subsets values) drafts
      → AreSpecified (each_subset d.subsets values) others → data_bits d.compressed course drafts ≡ data_bits d.compressed course others
  said_alike values used drafts others h said also =
      let a = said_again values used drafts h said in
      let b = said_again values used others h also in
      a.0.0.is ∙ ap Ok (a.1 ∙ sym b.1) ∙ sym b.0.0.is

  -- Compressed data are written as plain data.
  pub written_apart : (items : List (Item (List Content))) (used : ℕ) (drafts : List Subset) → HasReading course d (together items) used
      → AreDumped (subsets_from d.subsets 0 items) drafts → IsWritten course false d.subsets (apart (subsets_from d.subsets 0 items)) drafts
  written_apart items used drafts h dumped =
      let subsets = subsets_from d.subsets 0 items in
      let follow = follows (together items) used h in
      let w = plain_subsets course sane subsets drafts follow (subsets_said course subsets drafts follow dumped) in
      grind (arith, length-subsets_from)

  -- Plain data are written as compressed data, if these can represent their contents.
  pub written_together : (subsets : List (List (Item Content))) (used : ℕ) (drafts : List Subset) → length d.bits ≤ max_values → HasReading course d (apart subsets) used
      → AreDumped subsets drafts → IsTogetherOrNot course subsets drafts
  written_together subsets used drafts few h dumped = all_together course sane d.subsets subsets drafts d.bits (drop used d.bits) few dumped (plain_all subsets used h)

-- ---- Drafts with the same contents are written as the same bits.

items_alike : (items : List (Item Content)) (ds es : List Draft) → AllZip IsAlike ds es → AreDrafts IsSpecified items ds → AreDrafts IsSpecified items es
items_alike [] [] [] a h = tt
items_alike [] [] (e ∷ es) a h = absurd a
items_alike (i ∷ items) (d ∷ ds) [] a h = absurd a
items_alike (i ∷ items) (d ∷ ds) (e ∷ es) a h = (sym (a.0 i.spec) ∙ h.0, items_alike items ds es a.1 h.1)
items_alike items ds es a h = absurd h

subsets_alike : (subsets : List (List (Item Content))) (ss ts : List Subset) → AllAlike ss ts → AreSpecified subsets ss → AreSpecified subsets ts
subsets_alike [] [] [] a h = tt
subsets_alike [] [] (t ∷ ts) a h = absurd a
subsets_alike (items ∷ subsets) (s ∷ ss) [] a h = absurd a
subsets_alike (items ∷ subsets) (s ∷ ss) (t ∷ ts) a h = (items_alike items s.items t.items a.0 h.0, subsets_alike subsets ss ts a.1 h.1)
subsets_alike subsets ss ts a h = absurd h

pub written_alike : (table : List Row) (template : Tree) → AreRead table → IsLegal template → (compressed : Bool) (drafts others : List Subset) (bits : List Bool) → AllHaveOctets drafts
    → AllAlike drafts others → data_bits compressed (next_item table template) drafts ≡ Ok bits → data_bits compressed (next_item table template) others ≡ Ok bits
written_alike table template rows legal compressed drafts others bits texts alike e =
    let w = read_back table template rows legal compressed drafts bits texts e in
    sym (said_alike table template rows legal (record { compressed = compressed; subsets = length drafts; bits = bits ++ [] }) w.values (length bits) drafts others (w.read []) w.said
    (subsets_alike (each_subset (length drafts) w.values) drafts others alike w.said))
    ∙ e
