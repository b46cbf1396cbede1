-- The bits that a walk over the items of a document writes, and the turns that it takes.
use Rattle.std.proofs.Common.{inl, inr, ◌≡◌, ◌+◌, ℕ, suc, Bool, List, [], ◌∷◌, ◌++◌, length, length-append, Option, Some, None, Result, Ok, Err, refl, sym, ◌∙◌, ap, subst, arith, ◌<◌, get_or, true, false, ◌⊎◌, ◌≤◌, zero, ◌-◌, ◌*◌, append_assoc, if◌then◌else◌, rules}
use Rattle.bufr_walk.specs.declared.spec.Taken.{Taken}
use Rattle.bufr_walk.specs.Prelude.{FieldSpec, octets_in, Course, Next, at_end, counts_of, Turns, finish, open_end, group, pass_end, factor_turn, element_turn, operator_turn, Rest, passes, unroll, TakenField, Takes, Item, answers_in, ticked, answers_of, oks, StopsWalk, Walked, element_spec, factor_spec, inserted_spec, OperatorModel, after_operator, after_field, CountedCourse, uncounted, counted_item, turns_ahead, turns_asked, turns_operated}
use Rattle.bufr_fill.specs.Prelude.{IfDraftFault, at_line, DraftEntry, Holds, Ends, Subset, subset, subsets_of, WrittenItem, Filler, fill_pass, bits_written, Writing, pass_writing, writing_then, bits_of_writing, WritesDrafts, filling, writing_of, plain_filler, plain_writing, cells_at, rows, most_items, AreOctets, PlainOutModel, PlainFills, IsFaultNext, after_end, line_at, items_left, end_left, ends_of, PackedOutModel, new_packed_out, PackedFills, IsFaultHere, all_at_end, first_line_at, rows_left}
use Rattle.bufr_fill.specs.declared.fault.DraftFault.{DraftFault}
use Rattle.bufr_fill.proofs.FillSteps.{plain_written}
use Rattle.bufr_fill.proofs.WalkLemmas.{left_after, walk_of_items, stops_at}
use Rattle.bufr_text.specs.Prelude.{document_fault, octets_of_bits, message_of, stop_fault, AreOctetsOf, IsData, IsNoData, data_bits, DocumentFault}
use Rattle.bufr_bits.specs.Prelude.{padding, bits_of}
use Rattle.bufr_fill.proofs.FieldLemmas.{octets_again}
use Rattle.bufr_frame.specs.declared.section1.Head.{Head}
use Rattle.bufr_frame.specs.Prelude.{MessageParts, message_octets, message_size, max_octets}
use Rattle.bufr_tables.specs.Prelude.{Row, Tree, bare, element, operator, fixed, delayed, is_inserted_text}
use Rattle.bufr_walk.specs.declared.spec.TurnRefusal.{TurnRefusal}
use Rattle.std.proofs.lemmas.List.{map-append}
use Rattle.bufr_walk.specs.declared.walker.WalkStop.{WalkStop}
use Rattle.bufr_walk.specs.Pass.{EndsPass}
use Rattle.bufr_walk.proofs.PlainReading.{ticked_more}
use Rattle.bufr_fill.proofs.EntryLemmas.{length-subsets, length-prepended}
use Rattle.bufr_fill.proofs.PackedWalks.{filler, came, walk_of_rows, stops_across, ends_across}
use Rattle.bufr_fill.specs.declared.fault.DraftFault.TheVariants as draft_fault
use Rattle.bufr_text.specs.declared.fault.DocumentFault.TheVariants as document
use Rattle.bufr_walk.specs.declared.spec.Taken.TheVariants as taken
use Rattle.std.proofs.lemmas.Grind.{common_steps, flat_map-append}

-- Octets that contain the data bits are the octets that the definition specifies.
pub octets_are_bits : (xs : List ℕ) (bits : List Bool) → ((k : ℕ) → get_or xs k 0 < 256) → AreOctetsOf xs bits → xs ≡ octets_of_bits bits
octets_are_bits xs bits small h =
    sym (octets_again xs (all xs small)) ∙ ap (λ b. octets_in (length xs) b) h.same ∙ ap (λ n. octets_in n (bits ++ padding (length bits))) h.count
  where
    all : (xs : List ℕ) → ((k : ℕ) → get_or xs k 0 < 256) → AreOctets xs
    all [] g = tt
    all (x ∷ xs) g = (g 0, all xs (λ k. g (suc k)))

-- A message is built if it is not too long.
pub message-made : (line : ℕ) (head : Head) (parts : MessageParts) (octets : List ℕ) → (max_octets < message_size head.edition parts → ⊥) → octets ≡ message_octets head parts
    → message_of line head parts ≡ Ok octets
message-made line head parts octets h1 h2 = grind arith

-- ---- A walk with more answers takes at least as many turns.

-- The turns are the same up to the point where the first ones lack a count.
abbrev Extends : Turns → Turns → Type 0
Extends finish u = u ≡ finish
Extends open_end u = Unit {0}
Extends (group t) u = (next : Turns) × (u ≡ group next) × Extends t next
Extends (pass_end t) u = (next : Turns) × (u ≡ pass_end next) × Extends t next
Extends (factor_turn fxy t) u = (next : Turns) × (u ≡ factor_turn fxy next) × Extends t next
Extends (element_turn fxy t) u = (next : Turns) × (u ≡ element_turn fxy next) × Extends t next
Extends (operator_turn fxy t) u = (next : Turns) × (u ≡ operator_turn fxy next) × Extends t next

abbrev Extending : Rest → Type 0
Extending rest = (counts more : List ℕ) → Extends (rest counts) (rest (counts ++ more))

passes_extend : (n : ℕ) (body : Rest → Rest) (rest : Rest) → ((r : Rest) → Extending r → Extending (body r)) → Extending rest → Extending (passes n body rest)
passes_extend zero body rest b g = λ counts more. g counts more
passes_extend (suc n) body rest b g = λ counts more. b (λ later. pass_end (passes n body rest later)) (λ c m. (passes n body rest (c ++ m), refl, passes_extend n body rest b g c m)) counts more

unroll_extends : (t : Tree) (rest : Rest) → Extending rest → Extending (unroll t rest)
unroll_extends bare rest g counts more = g counts more
unroll_extends (element fxy t) rest g counts more = (unroll t rest (counts ++ more), refl, unroll_extends t rest g counts more)
unroll_extends (operator fxy t) rest g counts more = (unroll t rest (counts ++ more), refl, unroll_extends t rest g counts more)
unroll_extends (fixed n body t) rest g counts more =
    (passes n (unroll body) (unroll t rest) (counts ++ more), refl, passes_extend n (unroll body) (unroll t rest) (λ r h. unroll_extends body r h) (unroll_extends t rest g) counts more)
unroll_extends (delayed fxy body t) rest g [] [] = (factor_turn fxy open_end, refl, (open_end, refl, tt))
unroll_extends (delayed fxy body t) rest g [] (n ∷ more) =
    (factor_turn fxy (passes n (unroll body) (unroll t rest) more), refl, (passes n (unroll body) (unroll t rest) more, refl, tt))
unroll_extends (delayed fxy body t) rest g (n ∷ counts) more = (
  factor_turn fxy (passes n (unroll body) (unroll t rest) (counts ++ more)),
  refl,
  (passes n (unroll body) (unroll t rest) (counts ++ more), refl, passes_extend n (unroll body) (unroll t rest) (λ r h. unroll_extends body r h) (unroll_extends t rest g) counts more),
)

-- Whatever the next field is, it takes a turn.
asked_some : (r : Result FieldSpec TurnRefusal) (go : Taken → List Taken → ℕ) (results : List Taken) → 1 ≤ turns_asked r go results
asked_some r go results = grind arith

operated_some : (r : Result OperatorModel TurnRefusal) (go : OperatorModel → ℕ) → 1 ≤ turns_operated r go
operated_some (Err why) go = omega arith
operated_some (Ok s) go = omega arith

ahead_some : (table : List Row) (u : Turns) (s : OperatorModel) (results : List Taken) → 1 ≤ turns_ahead table u s results
ahead_some table finish s results = omega arith
ahead_some table open_end s results = omega arith
ahead_some table (group t) s results = omega arith
ahead_some table (pass_end t) s results = omega arith
ahead_some table (factor_turn fxy t) s results = omega (arith, asked_some)
ahead_some table (element_turn fxy t) s results = omega (arith, asked_some)
ahead_some table (operator_turn fxy t) s results = by (is_inserted_text fxy)
  where
    by : (b : Bool) → 1 ≤ (if b then turns_asked (inserted_spec s fxy) (λ x more. turns_ahead table t (after_field s fxy x) more) results else turns_operated (after_operator s fxy)
        (λ s'. turns_ahead table t s' results))
    by true = asked_some (inserted_spec s fxy) (λ x more. turns_ahead table t (after_field s fxy x) more) results
    by false = operated_some (after_operator s fxy) (λ s'. turns_ahead table t s' results)

asked_grows : (r : Result FieldSpec TurnRefusal) (go go' : Taken → List Taken → ℕ) (results more : List Taken) → ((t : Taken) (l : List Taken) → go t l ≤ go' t (l ++ more))
    → turns_asked r go results ≤ turns_asked r go' (results ++ more)
asked_grows r go go' results more h1 = grind arith

operated_grows : (r : Result OperatorModel TurnRefusal) (go go' : OperatorModel → ℕ) → ((s : OperatorModel) → go s ≤ go' s) → turns_operated r go ≤ turns_operated r go'
operated_grows (Err why) go go' g = omega arith
operated_grows (Ok s) go go' g = omega arith

ahead_grows : (table : List Row) (u u' : Turns) (s : OperatorModel) (results more : List Taken) → Extends u u' → turns_ahead table u s results ≤ turns_ahead table u' s (results ++ more)
ahead_grows table finish u' s results more h = grind arith
ahead_grows table open_end u' s results more h = ahead_some table u' s (results ++ more)
ahead_grows table (group t) u' s results more h = grind (arith, ahead_grows table t h.0 s results more h.2)
ahead_grows table (pass_end t) u' s results more h = grind (arith, ahead_grows table t h.0 s results more h.2)
ahead_grows table (factor_turn fxy t) u' s results more h =
    subst (λ x. turns_ahead table (factor_turn fxy t) s results ≤ turns_ahead table x s (results ++ more)) (sym h.1)
    (asked_grows (factor_spec table s fxy) (λ x l. turns_ahead table t (after_field s fxy x) l) (λ x l. turns_ahead table h.0 (after_field s fxy x) l) results more
    (λ x l. ahead_grows table t h.0 (after_field s fxy x) l more h.2))
ahead_grows table (element_turn fxy t) u' s results more h =
    subst (λ x. turns_ahead table (element_turn fxy t) s results ≤ turns_ahead table x s (results ++ more)) (sym h.1)
    (asked_grows (element_spec table s fxy) (λ x l. turns_ahead table t (after_field s fxy x) l) (λ x l. turns_ahead table h.0 (after_field s fxy x) l) results more
    (λ x l. ahead_grows table t h.0 (after_field s fxy x) l more h.2))
ahead_grows table (operator_turn fxy t) u' s results more h =
    subst (λ x. turns_ahead table (operator_turn fxy t) s results ≤ turns_ahead table x s (results ++ more)) (sym h.1)
    (by (is_inserted_text fxy) (λ x l. ahead_grows table t h.0 (after_field s fxy x) l more h.2) (λ s'. ahead_grows table t h.0 s' results more h.2))
  where
    by : (b : Bool) → ((x : Taken) (l : List Taken) → turns_ahead table t (after_field s fxy x) l ≤ turns_ahead table h.0 (after_field s fxy x) (l ++ more))
        → ((s' : OperatorModel) → turns_ahead table t s' results ≤ turns_ahead table h.0 s' (results ++ more))
        → (if b then turns_asked (inserted_spec s fxy) (λ x l. turns_ahead table t (after_field s fxy x) l) results else turns_operated (after_operator s fxy) (λ s'. turns_ahead table t s' results))
        ≤ (if b then turns_asked (inserted_spec s fxy) (λ x l. turns_ahead table h.0 (after_field s fxy x) l) (results ++ more) else turns_operated (after_operator s fxy)
        (λ s'. turns_ahead table h.0 s' (results ++ more)))
    by true f g = asked_grows (inserted_spec s fxy) (λ x l. turns_ahead table t (after_field s fxy x) l) (λ x l. turns_ahead table h.0 (after_field s fxy x) l) results more f
    by false f g = operated_grows (after_operator s fxy) (λ s'. turns_ahead table t s' results) (λ s'. turns_ahead table h.0 s' (results ++ more)) g

counts_append : (results more : List Taken) → counts_of (results ++ more) ≡ counts_of results ++ counts_of more
counts_append [] more = refl
counts_append (taken.Plain ∷ results) more = counts_append results more
counts_append (taken.Count n ∷ results) more = cc (counts_append results more)
counts_append (taken.Reference r ∷ results) more = counts_append results more

-- With more answers, there are at least as many turns.
abbrev pub AddsTurns : CountedCourse → Type 0
AddsTurns course = (results more : List Taken) → (course results).turns ≤ (course (results ++ more)).turns

pub template_adds : (table : List Row) (template : Tree) → AddsTurns (counted_item table template)
template_adds table template = grind (arith, ahead_grows, counts_append, unroll_extends)

-- ---- What a walk writes.

pub ticked_at_most : (before turns all : ℕ) → turns ≤ all → ticked before turns ≤ ticked before all
ticked_at_most before turns all h1 = omega arith

-- ---- Products.

split : (n a d : ℕ) → n * (a + d) ≡ n * a + n * d
split n a d = grind arith

pub mul_most : (n a b : ℕ) → a ≤ b → n * a ≤ n * b
mul_most n a b h1 = grind arith

-- The data could not be written because of this fault, or because memory ran out, and these are the
-- steps before and after.
pub record IsRefused (places : ℕ) (w : Writing DraftFault) (why : DocumentFault) (before after : ℕ) : Type 0 where
  pub how : ((why ≡ document.Memory) × (after ≤ ticked before w.turns))
      ⊎ ((f : DraftFault) × (w.stop ≡ Some f) × (why ≡ document_fault f) × (after ≡ ticked before w.turns))
  pub few : after ≤ before + places * (length w.bits + 1)

pub no_data : (n : ℕ) (compressed : Bool) (course : CountedCourse) (ss : List Subset) (why : DocumentFault) (steps : ℕ)
    → data_bits compressed (uncounted course) ss ≡ bits_of_writing (writing_of compressed course ss) → IsRefused n (writing_of compressed course ss) why 0 steps
    → IsNoData n compressed course ss why steps
no_data n compressed course ss why steps e p = grind (arith, p.few)

module _ {D C : Type 0} (filler : Filler D C DraftFault) (course : CountedCourse) (walked : List TakenField) (old new : List Bool) (drafts left : List D)
    (w : WritesDrafts filler (uncounted course) walked old new drafts left) where
  -- After these items, the pass ends or stops at a fault.
  abbrev pub StopsHere : Option DraftFault → Type 0
  StopsHere stop = EndsPass (filling filler) (course (answers_of walked)).next left stop

  abbrev all : Writing DraftFault
  all = pass_writing filler course drafts

  -- If so, the walk has written everything.
  pub walk_writing : (stop : Option DraftFault) → StopsHere stop → all ≡ record { bits = bits_written w.items; stop = stop; turns = (course (answers_of walked)).turns }
  walk_writing stop h = search (rules, filler)

  -- the items that may be written after these
  abbrev later : List (Item (WrittenItem C))
  later = (fill_pass filler (λ more. (course (answers_of walked ++ more)).next) left).items

  no_fewer : length new ≤ length old + length all.bits
  no_fewer =
      let here : length all.bits ≡ length (bits_written (w.items ++ later)) = rw (w.is) in
      let parts : length (bits_written (w.items ++ later)) ≡ length (bits_written w.items ++ bits_written later) =
      ap length (flat_map-append (λ (i : Item (WrittenItem C)). i.content.bits) w.items later) in
      omega (arith, here, parts, ap length w.bits, length-append old (bits_written w.items), length-append (bits_written w.items) (bits_written later))

  no_less : AddsTurns course → (course (answers_of walked)).turns ≤ all.turns
  no_less g =
      let gives : FieldSpec → WrittenItem C → Taken = λ spec w. filler.gives spec w.content in
      let here : all.turns ≡ (course (answers_in gives (w.items ++ later))).turns = rw (w.is) in
      let answers : answers_in gives (w.items ++ later) ≡ answers_of walked ++ answers_in gives later =
      map-append (λ (i : Item (WrittenItem C)). gives i.spec i.content) w.items later ∙ ap (λ a. a ++ answers_in gives later) w.answers in
      omega (arith, here, ap (λ a. (course a).turns) answers)

  pub is_refused : (n : ℕ) (o : DraftFault) (why : DocumentFault) (before after : ℕ) → AddsTurns course → IfDraftFault o (λ f. StopsHere (Some f)) → why ≡ document_fault o
      → after ≡ ticked before (course (answers_of walked)).turns → after ≤ before + n * (length new - length old + 1) → IsRefused n all why before after
  is_refused n o why before after g h r made few = record {
    how = by o h r;
    few = omega (arith, mul_most n (length new - length old + 1) (length all.bits + 1) (omega (arith, no_fewer)));
  }
    where
      by : (o : DraftFault) → IfDraftFault o (λ f. StopsHere (Some f)) → why ≡ document_fault o
          → ((why ≡ document.Memory) × (after ≤ ticked before all.turns)) ⊎ ((f : DraftFault) × (all.stop ≡ Some f) × (why ≡ document_fault f) × (after ≡ ticked before all.turns))
      by draft_fault.Memory h r = inl (r, omega (arith, ticked_at_most before (course (answers_of walked)).turns all.turns (no_less g)))
      by (draft_fault.Item line f) h r =
          let e = walk_writing (Some (at_line line f)) h in inr (at_line line f, ap (λ w. w.stop) e, r, made ∙ ap (λ w. ticked before w.turns) (sym e))

-- ---- The subsets of a document, written subset by subset.

-- ---- One subset.

-- what is written of the next subset
abbrev pub next_writing : CountedCourse → List DraftEntry → Writing DraftFault
next_writing course left = pass_writing (plain_filler (end_left left)) course (items_left left)

-- bits that were written in this number of turns, without a fault
abbrev pub wrote : List Bool → ℕ → Writing DraftFault
wrote bits turns = record { bits = bits; stop = None; turns = turns }

pub record IsSubset (places : ℕ) (course : CountedCourse) (s : PlainOutModel) (steps : ℕ)
    (s' : PlainOutModel) (steps' : ℕ) : Type 0 where
  pub bits : List Bool
  pub turns : ℕ
  pub is : next_writing course s.left ≡ wrote bits turns
  pub written : s'.bits ≡ s.bits ++ bits
  pub left : s'.left ≡ left_after s.left
  pub made : steps' ≡ ticked steps turns
  pub few : steps' ≤ steps + places * length bits

-- If the subset ends at the end of the template, the pass has no fault.
at_end_none : (end : ℕ) (left more : List DraftEntry) → after_end left ≡ Ok more → EndsPass (filling (plain_filler end)) at_end (items_left left) None × (left_after left ≡ more)
at_end_none end [] more h = absurd cc h
at_end_none end (Ends line ∷ left) more h = let same : left ≡ more = cc in (refl, same)
at_end_none end (Holds d ∷ left) more h = absurd cc h

-- The next subset was written.
pub subset_written : (n : ℕ) (course : CountedCourse) (s : PlainOutModel) (c : ℕ) (mid : PlainOutModel) (c' : ℕ) (s' : PlainOutModel) → Walked PlainFills course s c (Ok tt) mid c'
    → after_end mid.left ≡ Ok s'.left → s'.bits ≡ mid.bits → c' ≤ c + n * (length mid.bits - length s.bits)
    → IsSubset n course s c s' c'
subset_written n course s c mid c' s' w passed same few =
    let end = end_left s.left in
    let k = walk_of_items end (uncounted course) s w.0 mid w.1 in
    let none = at_end_none end mid.left s'.left passed in
    let bits = bits_written k.1.items in
    let e : length mid.bits - length s.bits ≡ length bits = omega (arith, ap length k.1.bits, length-append s.bits bits) in
    record {
      bits = bits;
      turns = (course (answers_of w.0)).turns;
      is = walk_writing (plain_filler end) course w.0 s.bits mid.bits (items_left s.left) (items_left mid.left) k.1 None
          (rw (w.2) none.0);
      written = same ∙ k.1.bits;
      left = sym none.1 ∙ k.0.suffix;
      made = w.3;
      few = rw e at few;
    }

some_left : (left : List DraftEntry) → 1 ≤ length (subsets_of left) → 1 ≤ length left
some_left [] h = absurd (omega arith)
some_left (e ∷ left) h = omega arith

if_fault : {P Q : DraftFault → Type 0} (o : DraftFault) → IfDraftFault o P → ((f : DraftFault) → P f → Q f) → IfDraftFault o Q
if_fault draft_fault.Memory h g = tt
if_fault (draft_fault.Item line why) h g = g (at_line line why) h

if_is : (P : DraftFault → Type 0) (o : DraftFault) → P o → IfDraftFault o P
if_is P draft_fault.Memory h = tt
if_is P (draft_fault.Item line why) h = h

-- The walk stopped at its fault, or because memory ran out.
stopped_at : (n : ℕ) (course : CountedCourse) (s : PlainOutModel) (walked : List TakenField) (mid : PlainOutModel) (o : DraftFault) (why : DocumentFault) (c c' : ℕ) → AddsTurns course
    → Takes (oks PlainFills) (uncounted course) s walked mid
    → IfDraftFault o (IsFaultNext (course (answers_of walked)).next mid.left) → why ≡ document_fault o → c' ≡ ticked c (course (answers_of walked)).turns
    → c' ≤ c + n * (length mid.bits - length s.bits + 1) → IsRefused n (next_writing course s.left) why c c'
stopped_at n course s walked mid o why c c' g h fault results made few =
    let k = walk_of_items (end_left s.left) (uncounted course) s walked mid h in
    is_refused (plain_filler (end_left s.left)) course walked s.bits mid.bits (items_left s.left) (items_left mid.left) k.1 n o why c c' g
    (if_fault o fault (λ f x. subst (λ end. EndsPass (filling (plain_filler end)) (course (answers_of walked)).next (items_left mid.left) (Some f)) k.0.end
    (stops_at (course (answers_of walked)).next mid.left f x)))
    results
    made
    few

-- An item remains after the end of the template.
pub subset_over : (n : ℕ) (course : CountedCourse) (s : PlainOutModel) (c : ℕ) (mid : PlainOutModel) (c' : ℕ) (e : DraftFault) (why : DocumentFault) → AddsTurns course
    → Walked PlainFills course s c (Ok tt) mid c' → 1 ≤ length (subsets_of s.left) → after_end mid.left ≡ Err e → why ≡ document_fault e
    → c' ≤ c + n * (length mid.bits - length s.bits) → IsRefused n (next_writing course s.left) why c c'
subset_over n course s c mid c' e why g w some fault results few =
    let k = walk_of_items 0 (uncounted course) s w.0 mid w.1 in
    let here : IsFaultNext at_end mid.left e = (some_left mid.left (omega arith), fault) in
    stopped_at n course s w.0 mid e why c c' g w.1 (if_is (IsFaultNext (course (answers_of w.0)).next mid.left) e (rw (w.2) here)) results w.3
    (omega arith)

-- The reason why a walk stopped is the fault of the next entry, or memory ran out.
reported_next : (line : ℕ) (next : Next) (mid : PlainOutModel) (stop : WalkStop DraftFault) (s' : PlainOutModel) → StopsWalk PlainFills next mid stop s' → line ≡ line_at s'.left
    → IfDraftFault (stop_fault line stop) (IsFaultNext next mid.left)
reported_next line next mid stop s' h1 h2 = grind arith

-- A walk that stops does not write anything more.
still : (next : Next) (mid : PlainOutModel) (stop : WalkStop DraftFault) (s' : PlainOutModel) → StopsWalk PlainFills next mid stop s' → s' ≡ mid
still next mid stop s' h1 = grind arith

-- The walk stopped.
pub subset_stopped : (n : ℕ) (course : CountedCourse) (s : PlainOutModel) (c : ℕ) (s' : PlainOutModel) (c' line : ℕ) (stop : WalkStop DraftFault) (why : DocumentFault) → AddsTurns course
    → Walked PlainFills course s c (Err stop) s' c' → line ≡ line_at s'.left
    → why ≡ document_fault (stop_fault line stop) → c' ≤ c + n * (length s'.bits - length s.bits + 1) → IsRefused n (next_writing course s.left) why c c'
subset_stopped n course s c s' c' line stop why g w at results few =
    let next = (course (answers_of w.0)).next in
    stopped_at n course s w.0 w.1 (stop_fault line stop) why c c' g w.2 (reported_next line next w.1 stop s' w.3 at) results w.4
    (rw (← still next w.1 stop s' w.3) few)

-- ---- All subsets.

pub record PlainSoFar (places : ℕ) (course : CountedCourse) (all : List Subset) (done : ℕ) (left : List DraftEntry) (bits : List Bool) (steps : ℕ) : Type 0 where
  pub made : ℕ
  pub is : plain_writing course all ≡ writing_then (wrote bits made) None (plain_writing course (subsets_of left))
  pub ticks : steps ≡ ticked 0 made
  pub few : steps ≤ places * length bits
  pub rest : done + length (subsets_of left) ≡ length all

cut : (left : List DraftEntry) → 1 ≤ length (subsets_of left) → subsets_of left ≡ subset (items_left left) (end_left left) ∷ subsets_of (left_after left)
cut [] h = absurd (omega arith)
cut (Ends line ∷ more) h = refl
cut (Holds d ∷ more) h = cc (cut more (omega (arith, length-prepended)))

pub none_written : (n : ℕ) (course : CountedCourse) (all : List DraftEntry) (s : PlainOutModel) (steps : ℕ) → s.left ≡ all → s.bits ≡ [] → steps ≡ 0
    → PlainSoFar n course (subsets_of all) 0 s.left s.bits steps
none_written n course all s steps left none start = grind (arith, start)

module _ (n : ℕ) (course : CountedCourse) (all : List Subset) (done : ℕ) (s : PlainOutModel) (steps : ℕ) (h : PlainSoFar n course all done s.left s.bits steps)
    (some : 1 ≤ length (subsets_of s.left)) where
  -- what is written of the subsets after the next one
  abbrev rest : Writing DraftFault
  rest = plain_writing course (subsets_of (left_after s.left))

  -- what is written of the next subset, and of those after it
  abbrev next_then : Writing DraftFault
  next_then = writing_then (next_writing course s.left) (next_writing course s.left).stop rest

  by_next : plain_writing course all ≡ writing_then (wrote s.bits h.made) None next_then
  by_next = rw (h.is, cut)

  pub one_more : (s' : PlainOutModel) (steps' : ℕ) → IsSubset n course s steps s' steps' → PlainSoFar n course all (done + 1) s'.left s'.bits steps'
  one_more s' steps' p =
      let suffix : subsets_of (left_after s.left) ≡ subsets_of s'.left = ap subsets_of (sym p.left) in
      let long = ap length p.written ∙ length-append s.bits p.bits in
      grind (arith, by_next, ticked_more, cut, append_assoc, h.few, p.few, ap (λ x. n * x) long, h.rest, ap length (cut s.left some))

  pub stopped : (why : DocumentFault) (steps' : ℕ) → IsRefused n (next_writing course s.left) why steps steps' → IsNoData n false course all why steps'
  stopped why steps' p =
      no_data n false course all why steps' (plain_written course all)
      (rw by_next (after (next_writing course s.left) p (next_writing course s.left).stop refl))
    where
      after : (w : Writing DraftFault) → IsRefused n w why steps steps' → (stop : Option DraftFault) → w.stop ≡ stop
          → IsRefused n (writing_then (wrote s.bits h.made) None (writing_then w stop rest)) why 0 steps'
      after w p stop e = record { how = how p.how stop e; few = few stop }
        where
          ticks : ticked steps w.turns ≡ ticked 0 (h.made + w.turns)
          ticks = ap (λ x. ticked x w.turns) h.ticks ∙ ticked_more h.made w.turns

          how : ((why ≡ document.Memory) × (steps' ≤ ticked steps w.turns)) ⊎ ((f : DraftFault) × (w.stop ≡ Some f) × (why ≡ document_fault f) × (steps' ≡ ticked steps w.turns))
              → (stop : Option DraftFault) → w.stop ≡ stop
              → ((why ≡ document.Memory) × (steps' ≤ ticked 0 (h.made + (writing_then w stop rest).turns)))
              ⊎ ((f : DraftFault) × ((writing_then w stop rest).stop ≡ Some f) × (why ≡ document_fault f) × (steps' ≡ ticked 0 (h.made + (writing_then w stop rest).turns)))
          how (inl m) None e = inl (m.0, omega arith)
          how (inl m) (Some f) e = inl (m.0, omega (arith, m.1, ticks))
          how (inr m) None e = absurd cc (sym e ∙ m.1)
          how (inr m) (Some f) e = inr (m.0, m.1, m.2, m.3 ∙ ticks)

          longer : (stop : Option DraftFault) → length w.bits ≤ length (writing_then w stop rest).bits
          longer None = omega (arith, length-append w.bits rest.bits)
          longer (Some f) = omega arith

          few : (stop : Option DraftFault) → steps' ≤ 0 + n * (length (s.bits ++ (writing_then w stop rest).bits) + 1)
          few stop = omega (
            arith,
            h.few,
            p.few,
            split n (length s.bits) (length w.bits + 1),
            mul_most n (length s.bits + (length w.bits + 1)) (length (s.bits ++ (writing_then w stop rest).bits) + 1)
                (omega (arith, length-append s.bits (writing_then w stop rest).bits, longer stop)),
          )

pub all_written : (n : ℕ) (course : CountedCourse) (all : List Subset) (done : ℕ) (s : PlainOutModel) (steps : ℕ) (octets : List ℕ) → PlainSoFar n course all done s.left s.bits steps
    → done ≡ length all
    → AreOctetsOf octets s.bits → IsData n false course all octets steps
all_written n course all done s steps octets h end o = grind (arith, common_steps, plain_written)

-- ---- The subsets of a document, written together.

-- The reason why a walk stopped is the fault of the current items, or memory ran out. The walk does
-- not write anything more.
reported_here : (line : ℕ) (next : Next) (mid : PackedOutModel) (stop : WalkStop DraftFault) (s' : PackedOutModel) → StopsWalk PackedFills next mid stop s'
    → line ≡ first_line_at s'.index s'.subsets → IfDraftFault (stop_fault line stop) (IsFaultHere next mid)
reported_here line next mid stop s' h1 h2 = grind arith

packed_still : (next : Next) (mid : PackedOutModel) (stop : WalkStop DraftFault) (s' : PackedOutModel) → StopsWalk PackedFills next mid stop s' → s' ≡ mid
packed_still next mid stop s' h1 = grind arith

-- The walk stopped at its fault, or because memory ran out.
packed_stopped_at : (n : ℕ) (course : CountedCourse) (ss : List Subset) (walked : List TakenField) (mid : PackedOutModel) (o : DraftFault) (why : DocumentFault) (c' : ℕ) → AddsTurns course
    → 1 ≤ length ss → Takes (oks PackedFills) (uncounted course) (new_packed_out ss) walked mid → IfDraftFault o (IsFaultHere (course (answers_of walked)).next mid) → why ≡ document_fault o
    → c' ≡ ticked 0 (course (answers_of walked)).turns → c' ≤ n * (length mid.bits + 1) → IsNoData n true course ss why c'
packed_stopped_at n course [] walked mid o why c' g some h fault results made few = absurd (omega arith)
packed_stopped_at n course (s ∷ more) walked mid o why c' g some h fault results made few =
    let k = came s more (uncounted course) walked mid h in
    no_data n true course (s ∷ more) why c' refl
    (is_refused (filler s more) course walked [] mid.bits (rows (most_items (s ∷ more)) 0 (s ∷ more)) (rows_left mid) k.1 n o why 0 c' g
    (if_fault o fault (λ f x. stops_across s more (course (answers_of walked)).next mid f k.0 x))
    results
    made
    (omega (arith, mul_most n (length mid.bits + 1) (length mid.bits - 0 + 1) (omega arith))))

-- The data were written.
pub packed_written : (n : ℕ) (course : CountedCourse) (ss : List Subset) (start : PackedOutModel) (c : ℕ) (mid : PackedOutModel) (c' : ℕ) (octets : List ℕ) → start ≡ new_packed_out ss → 1 ≤ length ss
    → c ≡ 0 → Walked PackedFills course start c (Ok tt) mid c'
    → all_at_end (cells_at mid.index mid.subsets) ≡ Ok tt → c' ≤ c + n * (length mid.bits - length start.bits) → AreOctetsOf octets mid.bits → IsData n true course ss octets c'
packed_written n course [] start c mid c' octets at some z w e few o = absurd (omega arith)
packed_written n course (s ∷ more) start c mid c' octets at some z w e few o =
    let k = came s more (uncounted course) w.0 mid (rw (← at) w.1) in
    let is = walk_writing (filler s more) course w.0 [] mid.bits (rows (most_items (s ∷ more)) 0 (s ∷ more)) (rows_left mid) k.1 None
    (subst (λ next. EndsPass (filling (filler s more)) next (rows_left mid) None) (sym w.2) (ends_across s more mid e)) in
    grind arith

-- An item remains after the end of the template.
pub packed_over : (n : ℕ) (course : CountedCourse) (ss : List Subset) (start : PackedOutModel) (c : ℕ) (mid : PackedOutModel) (c' : ℕ) (e : DraftFault) (why : DocumentFault) → AddsTurns course
    → start ≡ new_packed_out ss → 1 ≤ length ss → c ≡ 0 → Walked PackedFills course start c (Ok tt) mid c'
    → all_at_end (cells_at mid.index mid.subsets) ≡ Err e → why ≡ document_fault e → c' ≤ c + n * (length mid.bits - length start.bits) → IsNoData n true course ss why c'
packed_over n course ss start c mid c' e why g at some z w fault results few =
    packed_stopped_at n course ss w.0 mid e why c' g some (rw at at w.1)
    (if_is (IsFaultHere (course (answers_of w.0)).next mid) e (rw (w.2) fault)) results
    (w.3 ∙ ap (λ x. ticked x (course (answers_of w.0)).turns) z)
    (omega (arith, z, few, mul_most n (length mid.bits - length start.bits) (length mid.bits + 1) (omega arith)))

-- The walk stopped.
pub packed_stopped : (n : ℕ) (course : CountedCourse) (ss : List Subset) (start : PackedOutModel) (c : ℕ) (s' : PackedOutModel) (c' line : ℕ) (stop : WalkStop DraftFault) (why : DocumentFault)
    → AddsTurns course → start ≡ new_packed_out ss → 1 ≤ length ss → c ≡ 0 → Walked PackedFills course start c (Err stop) s' c'
    → line ≡ first_line_at s'.index s'.subsets → why ≡ document_fault (stop_fault line stop) → c' ≤ c + n * (length s'.bits - length start.bits + 1)
    → IsNoData n true course ss why c'
packed_stopped n course ss start c s' c' line stop why g at some z w l results few =
    let next = (course (answers_of w.0)).next in
    packed_stopped_at n course ss w.0 w.1 (stop_fault line stop) why c' g some (rw at at w.2)
    (reported_here line next w.1 stop s' w.3 l) results
    (w.4 ∙ ap (λ x. ticked x (course (answers_of w.0)).turns) z)
    (omega (arith, z, few, mul_most n (length s'.bits - length start.bits + 1) (length w.1.bits + 1) (omega (arith, ap (λ (p : PackedOutModel). length p.bits) (packed_still next w.1 stop s' w.3)))))

-- Without subsets, there are no data.
pub none_packed : (n : ℕ) (course : CountedCourse) (ss : List Subset) (steps : ℕ) (octets : List ℕ) → ss ≡ [] → octets ≡ [] → steps ≡ 0 → IsData n true course ss octets steps
unfolding bits_of
none_packed n course ss steps octets h1 h2 h3 = grind arith

-- A walk does not change its subsets.
stays : (course : Course) (s : PackedOutModel) (walked : List TakenField) (s' : PackedOutModel) → Takes (oks PackedFills) course s walked s' → s'.subsets ≡ s.subsets
stays course s walked s' h = (walk_of_rows 0 false course s walked s' h).0.subsets

pub some_before : (course : CountedCourse) (ss : List Subset) (start : PackedOutModel) (c : ℕ) (r : Result (Unit {0}) (WalkStop DraftFault)) (s' : PackedOutModel) (c' : ℕ)
    → Walked PackedFills course start c r s' c' → start ≡ new_packed_out ss → 1 ≤ length s'.subsets → 1 ≤ length ss
some_before course ss start c r s' c' h1 h2 h3 = grind (arith, stays)

pub some_ends : (xs : List DraftEntry) (ends : List ℕ) (n : ℕ) → ends ≡ ends_of 0 xs → 1 ≤ length ends → n ≡ length (subsets_of xs) → 1 ≤ n
some_ends xs ends n e some is = omega (arith, some, ap length e, is, length-subsets)
