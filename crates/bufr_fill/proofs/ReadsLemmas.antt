-- Properties of data that are read without a fault, and of bits that read as given values.
use Rattle.std.proofs.Common.{◌≡◌, ℕ, zero, suc, ◌*◌, ◌≤◌, Bool, true, false, List, [], ◌∷◌, ◌++◌, length, drop, Option, Some, None, refl, sym, ◌∙◌, ap, subst, arith, append_assoc, length-append, if◌then◌else◌, rules}
use Rattle.std.proofs.Math.Seq.{drop-append_seam}
use Rattle.std.specs.Prelude.{is_none, is_some}
use Rattle.bufr_tables.specs.Prelude.{Row, Tree, IsLegal}
use Rattle.bufr_walk.proofs.NextField.{AreRead, next_field}
use Rattle.bufr_fill.proofs.PlainLaws.{AllFields}
use Rattle.bufr_fill.proofs.GoodReads.{fields_of_reads, plain_gives, packed_gives}
use Rattle.bufr_walk.specs.Prelude.{Content, Item, Course, next_item, at_end, Data, Values, apart, together, each_subset, reading_of, ReadsItems, plain, packed, answers_in, answer_of, answer_first, max_values, would_be_many, Stop, DataPass, read_pass, passes_apart, passes_together, stop_of, left_after, items_by_pass, first_items, place_at}
use Rattle.bufr_walk.proofs.CourseLemmas.{IsSane, plain_forth, packed_forth}
use Rattle.bufr_walk.proofs.PassLemmas.{legal_sane, pass_reads, pass_whole, pass_at_end, next_pass, few_values, few_all, reading_left}
use Rattle.bufr_fill.specs.Prelude.{HasReading}

abbrev pub is_together : Values → Bool
is_together (apart subsets) = false
is_together (together items) = true

-- The values have the form of the data: plain or compressed.
pub form_is : (course : Course) (d : Data) (values : Values) (used : ℕ) → HasReading course d values used → d.compressed ≡ is_together values
form_is course d values used h = grind arith

-- ---- Bits that read as given values.

-- The bits read as these values, whatever follows them.
abbrev pub AreReadAs : Course → (compressed : Bool) → (subsets : ℕ) → Values → (out : List Bool) → Type 0
AreReadAs course compressed n values out = (more : List Bool) → HasReading course (record { compressed = compressed; subsets = n; bits = out ++ more }) values (length out)

module _ (course : Course) (sane : (m : ℕ) → IsSane m course) where
  -- Bits that read as one subset, and bits that read as those after it, together read as all of
  -- them.
  pub subset_then : (n : ℕ) (items : List (Item Content)) (values : Values) (first others : List Bool)
      → ((more : List Bool) → ReadsItems plain course items (first ++ more) more) → course (answers_in answer_of items) ≡ at_end
      → AreReadAs course false n values others → AreReadAs course false (suc n) (apart (items ∷ each_subset n values)) (first ++ others)
  subset_then n items values first others reads end rest more =
      let bits = first ++ (others ++ more) in
      let h = rest more in
      let w = subst (λ (p : DataPass Content). let ps = p ∷ (if is_none p.stop then passes_apart course n p.state.left else []) in
      (stop_of ps ≡ None) × (apart (items_by_pass ps) ≡ apart (items ∷ each_subset n values)) × (left_after bits ps ≡ more))
      (sym (pass_whole plain plain_forth (λ items. false) course sane bits items (others ++ more) (reads (others ++ more)) (λ j l. refl) end))
      (h.none, ap (λ v. apart (items ∷ each_subset n v)) h.values_are, h.left ∙ drop-append_seam others more) in
      subst (λ bits. HasReading course (record { compressed = false; subsets = suc n; bits = bits }) (apart (items ∷ each_subset n values)) (length (first ++ others)))
      (sym (append_assoc first others more))
      (record {
        none = w.0;
        values_are = w.1;
        left = w.2 ∙ sym (drop-append_seam (first ++ others) more) ∙ ap (drop (length (first ++ others))) (append_assoc first others more);
        within = omega (arith, length-append first others, length-append first (others ++ more));
      })

  -- Bits that read as the items of a pass over compressed data read as these values.
  pub items_read : (n : ℕ) (items : List (Item (List Content))) (out : List Bool)
      → ((more : List Bool) → ReadsItems (packed (suc n)) course items (out ++ more) more) → course (answers_in answer_first items) ≡ at_end → length items * suc n ≤ max_values
      → AreReadAs course true (suc n) (together items) out
  items_read n items out reads end few more =
      let e = pass_whole (packed (suc n)) (packed_forth n) (would_be_many (suc n)) course sane (out ++ more) items more (reads more) (λ j l. few_values (suc n) (length items) j few l) end in
      search (rules, drop-append_seam, length-append)

-- If there are no subsets, no bits are read.
pub none_read : (course : Course) → AreReadAs course false 0 (apart []) []
none_read course more = record { none = refl; values_are = refl; left = refl; within = omega arith }

pub none_read_together : (course : Course) → AreReadAs course true 0 (together []) []
none_read_together course more = record { none = refl; values_are = refl; left = refl; within = omega arith }

-- ---- Data of a legal template that were read.

module _ (table : List Row) (template : Tree) (rows : AreRead table) (legal : IsLegal template) where
  abbrev course : Course
  course = next_item table template

  sane : (m : ℕ) → IsSane m course
  sane m = legal_sane table template rows legal m

  -- If a reading does not stop, its values take a number of bits at the beginning.
  pub reads_as : (d : Data) → (reading_of course d).stop ≡ None → (used : ℕ) × HasReading course d (reading_of course d).values used
  reads_as d none = let s = reading_left course sane d in (s.0, record { none = none; values_are = refl; left = s.2; within = s.1 })

  -- Induction over the subsets of plain data. P is true of no subsets, and of one more subset if it
  -- is true of those after it. Therefore, it is true of all data that were read.
  module _ (P : ℕ → List (List (Item Content)) → (bits left : List Bool) → Type 0) (none : (bits : List Bool) → P 0 [] bits bits)
      (more : (n : ℕ) (items : List (Item Content)) (subsets : List (List (Item Content))) (bits mid left : List Bool) → AllFields items
      → ReadsItems plain course items bits mid → course (answers_in answer_of items) ≡ at_end → P n subsets mid left → P (suc n) (items ∷ subsets) bits left) where
    of_passes : (n : ℕ) (bits : List Bool) → stop_of (passes_apart course n bits) ≡ None → P n (items_by_pass (passes_apart course n bits)) bits (left_after bits (passes_apart course n bits))
    of_passes zero bits h = none bits
    of_passes (suc n) bits h =
        let k = next_pass course (suc n) n bits refl h in
        let p = read_pass plain (λ items. false) course bits in
        let reads = (pass_reads plain plain_forth (λ items. false) course sane bits).0.reads in
        subst (λ ps. P (suc n) (items_by_pass ps) bits (left_after bits ps)) (sym k.1)
        (more n p.items _ bits p.state.left _ (fields_of_reads plain plain_gives course p.items bits p.state.left (next_field table template rows legal) reads) reads
        (pass_at_end plain (λ items. false) (suc (length bits)) course (place_at 0 bits) k.0) (of_passes n p.state.left k.2))

    pub of_apart : (d : Data) (subsets : List (List (Item Content))) (used : ℕ) → HasReading course d (apart subsets) used → P d.subsets subsets d.bits (drop used d.bits)
    of_apart d subsets used read =
        let h = subst (λ b. HasReading course (record d { compressed = b }) (apart subsets) used) (form_is course d (apart subsets) used read) read in
        subst (λ (q : List (List (Item Content)) × List Bool). P d.subsets q.0 d.bits q.1) (λ j. (each_subset 0 (h.values_are j), h.left j)) (of_passes d.subsets d.bits h.none)

  -- The same for compressed data. P is true of no items if there are no subsets, and of the items
  -- of a pass. Therefore, it is true of all data that were read.
  module _ (P : ℕ → List (Item (List Content)) → (bits left : List Bool) → Type 0) (none : (bits : List Bool) → P 0 [] bits bits)
      (some : (n : ℕ) (items : List (Item (List Content))) (bits left : List Bool) → AllFields items → ReadsItems (packed (suc n)) course items bits left
      → course (answers_in answer_first items) ≡ at_end → length items * suc n ≤ max_values → P (suc n) items bits left) where
    of_pass : (n : ℕ) (bits : List Bool) → stop_of (passes_together course n bits) ≡ None
        → P n (first_items (items_by_pass (passes_together course n bits))) bits (left_after bits (passes_together course n bits))
    of_pass zero bits h = none bits
    of_pass (suc n) bits h =
        let p = read_pass (packed (suc n)) (would_be_many (suc n)) course bits in
        let so = (pass_reads (packed (suc n)) (packed_forth n) (would_be_many (suc n)) course sane bits).0 in
        some n p.items bits p.state.left (fields_of_reads (packed (suc n)) (packed_gives (suc n)) course p.items bits p.state.left (next_field table template rows legal) so.reads) so.reads
        (pass_at_end (packed (suc n)) (would_be_many (suc n)) (suc (length bits)) course (place_at 0 bits) (only p.stop h)) (few_all (suc n) (length p.items) so.few)
      where
        only : (o : Option Stop) → (if is_some o then o else None) ≡ None → o ≡ None
        only None e = refl
        only (Some why) e = absurd cc

    pub of_together : (d : Data) (items : List (Item (List Content))) (used : ℕ) → HasReading course d (together items) used → P d.subsets items d.bits (drop used d.bits)
    of_together d items used read =
        let h = subst (λ b. HasReading course (record d { compressed = b }) (together items) used) (form_is course d (together items) used read) read in
        subst (λ (q : List (Item (List Content)) × List Bool). P d.subsets q.0 d.bits q.1) (λ j. (items_in_all (h.values_are j), h.left j)) (of_pass d.subsets d.bits h.none)
      where
        items_in_all : Values → List (Item (List Content))
        items_in_all (apart subsets) = []
        items_in_all (together items) = items
