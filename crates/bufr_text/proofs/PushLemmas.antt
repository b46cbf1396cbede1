-- Texts that are pushed to a writer of lines, and the calls that show a reading.
use Rattle.std.proofs.Common.{get_or, ◌≡◌, ℕ, ◌≤◌, ◌*◌, List, ◌++◌, length, take, drop, sym, ◌∙◌, ap, Option, None, Some, Ok, Err, append_assoc, ◌+◌, zero, suc, [], ◌∷◌, replicate, refl, subst, arith, append-nil, length-append, map, inl, inr, codes, ◌-◌, ◌<◌, Bool, true, false, ℤ, min, option_map, Result, flat_map, decimal, unwrap_or, IsTrue, ◌↔◌, is_some}
use Rattle.std.specs.Io.KnownBytes.{Appends}
use Rattle.std.proofs.KnownBytes.{Appends-trans}
use Rattle.std.proofs.Math.Nat.{mul-le-mul_right}
use Rattle.std.proofs.lemmas.List.{take_rest, take-append-drop, take_all, length-replicate, at_drop_more, at_drop_all, take_more, length-set, take_more_set}
use Rattle.bufr_frame.specs.declared.fault.RunFault.{RunFault}
use Rattle.bufr_text.specs.Prelude.{keys, MovesPrefix, Writes, GrowsByPrefix, CountsWrites, LineModel, Moves, MovesOn, StaysFailed, PushesFrom, Pushes, PushesSomehow, gathered_by, Puts, item_text, comment_text, subset_line, subset_lines, text_of_lines, head_lines, dump_text_of, header_of, header_lines, local1_line, section2_line, descriptors_line, CountsFaults, MakesSteps, StepsWithin, WritesPrefix, call_line, PushesCall, descriptors_text, runs_after, runs_of, lead_of, counts_texts, ls_line, source_texts, time_texts, items_shown, dump_items}
use Rattle.std.proofs.Math.Seq.{take-append_seam}
use borrow.Rule.Slice.PartMut.{put_mid, post_of}
use Rattle.std.proofs.lemmas.Grind.{common_steps}
use Rattle.bufr_frame.specs.Prelude.{Sections}
use Rattle.bufr_frame.specs.declared.fault.RunFault.TheVariants.{Write, Memory}
use Rattle.bufr_tables.specs.Prelude.{Row, fxy_text, row_comment, row_line_start}
use Rattle.bufr_walk.specs.declared.fault.ShowFault.{ShowFault}
use Rattle.bufr_walk.specs.Prelude.{Timed, View, shown_missing, shown_number, item_calls, subset_calls, calls_for, calls_of, turns_shown, values_read, Shows, EndsAt, Content, ticked, Item, Values, plain, answers_in, walk_shown, each_subset, turns_in, CountedCourse, after, answer_of}
use Rattle.bufr_bits.specs.Prelude.{decimal_text_of}
use Rattle.bufr_walk.specs.declared.fault.ShowFault.TheVariants as show
use Rattle.bufr_walk.specs.Reading as outcome
use Rattle.bufr_bits.proofs.CountLemmas.{empty_writes_after-some}
use Rattle.std.specs.List.{concat}

-- Another write extends the prefix that was written.
pub more-written : (a b c : Option (List ℕ)) (octets rest rest' : List ℕ) (n : ℕ) → MovesPrefix a b octets rest → n ≤ length rest → Appends b c (take n rest) → rest' ≡ drop n rest
    → MovesPrefix a c octets rest'
more-written a b c octets rest rest' n before within more is = record {
  prefix = before.prefix ++ take n rest;
  parts = before.parts ∙ ap (λ l. before.prefix ++ l) (sym (take-append-drop n rest) ∙ ap (λ l. take n rest ++ l) (sym is)) ∙ sym (append_assoc before.prefix (take n rest) rest');
  gains = Appends-trans a b c before.prefix (take n rest) before.gains more;
}

parts_then : (held s t p q held1 held2 : List ℕ) → held ++ s ≡ p ++ held1 → held1 ++ t ≡ q ++ held2 → held ++ (s ++ t) ≡ (p ++ q) ++ held2
parts_then held s t p q held1 held2 first second = cc (append_assoc held s t, append_assoc p held1 t, append_assoc p q held2)

module _ (a b c : LineModel) (s t : List ℕ) where
  moves_then : {X : Type 0} (r : Result X RunFault) → MovesPrefix a.taken b.taken (a.held ++ s) b.held → Moves b.taken c.taken (b.held ++ t) c.held r
      → Moves a.taken c.taken (a.held ++ (s ++ t)) c.held r
  moves_then (Ok y) first second = record {
    prefix = first.prefix ++ second.prefix;
    parts = parts_then a.held s t first.prefix second.prefix b.held c.held first.parts second.parts;
    gains = Appends-trans a.taken b.taken c.taken first.prefix second.prefix first.gains second.gains;
  }
  moves_then (Err f) first second = (
    second.0,
    record {
      prefix = first.prefix ++ second.1.prefix;
      back = second.1.back;
      parts = parts_then a.held s t first.prefix second.1.prefix b.held second.1.back first.parts second.1.parts;
      gains = Appends-trans a.taken b.taken c.taken first.prefix second.1.prefix first.gains second.1.gains;
    },
  )

  -- The sink failed while the first text was pushed.
  stops : (f : RunFault) → b.status ≡ Err f → MovesOn a s b → StaysFailed f b c → MovesOn a (s ++ t) c
  stops f is first second =
      let moves = rw is at first.moves in
      let counts = rw is at first.counts in
      record {
        moves = rw (second.status, second.taken) (
          moves.0,
          record {
            prefix = moves.1.prefix;
            back = moves.1.back ++ t;
            parts = sym (append_assoc a.held s t) ∙ ap (λ l. l ++ t) moves.1.parts ∙ append_assoc moves.1.prefix moves.1.back t;
            gains = moves.1.gains;
          },
        );
        counts = rw (second.status, second.failures, second.empty_writes) counts;
      }

  stays : (f g : RunFault) → StaysFailed f a b → b.status ≡ Err g → StaysFailed g b c → StaysFailed f a c
  stays f g first is second = record {
    status = second.status ∙ sym is ∙ first.status;
    taken = second.taken ∙ first.taken;
    failures = second.failures ∙ first.failures;
    empty_writes = second.empty_writes ∙ first.empty_writes;
  }

  goes : (r q : Result Unit RunFault) → b.status ≡ q → PushesFrom r a s b → PushesFrom q b t c → PushesFrom r a (s ++ t) c
  goes (Ok x) (Ok y) is first second =
      let moves = rw is at first.moves in
      let counts = rw is at first.counts in
      record {
        moves = moves_then c.status moves second.moves;
        counts = rw (sym counts.0, sym counts.1) second.counts;
      }
  goes (Ok x) (Err f) is first second = stops f is first second
  goes (Err f) (Ok y) is first second = absurd (cc)
  goes (Err f) (Err g) is first second = stays f g first is second

-- If two texts are pushed in turn, their concatenation is pushed.
pub somehow_then : {a b c : LineModel} {s t : List ℕ} → PushesSomehow a s b → PushesSomehow b t c → PushesSomehow a (s ++ t) c
somehow_then {a = a} {b = b} {c = c} {s = s} {t = t} first second = grind (arith, goes)

few_then : (x y z h s g t k : ℕ) → y + 2 * g ≤ x + 2 * (h + s) → z + 2 * k ≤ y + 2 * (g + t) → z + 2 * k ≤ x + 2 * (h + (s + t))
few_then x y z h s g t k first second = omega arith

infixl 20 ◌⨾◌
pub ◌⨾◌ : {a b c : LineModel} {s t : List ℕ} → Pushes a s b → Pushes b t c → Pushes a (s ++ t) c
◌⨾◌ {a = a} {b = b} {c = c} {s = s} {t = t} first second = record {
  somehow = somehow_then first.somehow second.somehow;
  few = rw (length-append a.held (s ++ t), length-append s t)
      (few_then (a.whole_writes * gathered_by a.size) (b.whole_writes * gathered_by a.size) (c.whole_writes * gathered_by a.size) (length a.held) (length s) (length b.held) (length t) (length c.held)
      (rw (length-append a.held s) at first.few) (rw (length-append b.held t, first.somehow.size) at second.few));
}

pub holds_pushes : {a b : LineModel} {text : List ℕ} → b.status ≡ a.status → b.taken ≡ a.taken → b.failures ≡ a.failures → b.empty_writes ≡ a.empty_writes → b.flushes ≡ a.flushes
    → b.sink ≡ a.sink → b.size ≡ a.size → b.whole_writes ≡ a.whole_writes
    → b.held ≡ a.held ++ text → Pushes a text b
holds_pushes {a = a} {b = b} {text = text} h1 h2 h3 h4 h5 h6 h7 h8 h9 = record { somehow = grind (arith, common_steps); few = rw (h8, h9) (omega arith) }

pub nothing_pushed : {a : LineModel} → Pushes a [] a
nothing_pushed {a = a} = holds_pushes refl refl refl refl refl refl refl refl (sym (append-nil a.held))

-- A text that does not fit in the block causes at most two complete writes, and a page of buffered
-- octets at most one.
few_through : (x y g size h k : ℕ) → y ≤ x + 2 → g ≤ size → size < h → k ≡ 0 → y * g + 2 * k ≤ x * g + 2 * h
few_through x y g size h k few least past none =
    let most : y * g ≤ (x + 2) * g = mul-le-mul_right g few in
    omega (arith, most)

pub through_pushes : {a b : LineModel} {text : List ℕ} → PushesSomehow a text b → b.held ≡ [] → b.whole_writes ≤ a.whole_writes + 2 → a.size < length (a.held ++ text) → Pushes a text b
through_pushes {a = a} {b = b} {text = text} somehow none few past = record {
  somehow = somehow;
  few = few_through a.whole_writes b.whole_writes (gathered_by a.size) a.size (length (a.held ++ text)) (length b.held) few (omega arith) past (ap length none);
}

few_page : (x y g h k : ℕ) → y ≤ x + 1 → g ≤ 131072 → 65536 ≤ h → k ≡ 0 → y * g + 2 * k ≤ x * g + 2 * h
few_page x y g h k few short page none =
    let most : y * g ≤ (x + 1) * g = mul-le-mul_right g few in
    omega (arith, most)

pub page_pushes : {a b : LineModel} → PushesSomehow a [] b → b.held ≡ [] → b.whole_writes ≤ a.whole_writes + 1 → 65536 ≤ length a.held → Pushes a [] b
page_pushes {a = a} {b = b} somehow none few page = grind (arith, few_page, append-nil)

pub retold_somehow : {a b : LineModel} {s t : List ℕ} → PushesSomehow a s b → s ≡ t → PushesSomehow a t b
retold_somehow {a = a} {b = b} h is = rw is at h

-- A push of a text is also a push of any equal text.
pub retold : {a b : LineModel} {s t : List ℕ} → Pushes a s b → s ≡ t → Pushes a t b
retold h1 h2 = grind arith

-- `row_comment` is the comment of a row, with its line feed.
pub comment_line : (row : Row) → comment_text (Some row) ++ 10 ∷ [] ≡ row_comment row
comment_line row = simp append_assoc

-- the line of a number that was read by a row of Table B
pub number_line : (item : View) (row : Row) (n scale : ℤ) → item.fxy ≡ row.fxy → item.entry ≡ Some row → item.value ≡ shown_number n scale
    → row_line_start row ++ (decimal_text_of n scale ++ row_comment row) ≡ item_text item ++ 10 ∷ []
number_line item row n scale fxy entry value =
    let text = decimal_text_of n scale in
    rw (fxy, entry, value)
    (ap (λ l. row_line_start row ++ l) (ap (λ l. text ++ l) (sym (comment_line row)) ∙ sym (append_assoc text (comment_text (Some row)) (10 ∷ []))))

-- the line of a missing value that was read by a row of Table B
pub missing_line : (item : View) (row : Row) → item.fxy ≡ row.fxy → item.entry ≡ Some row → item.value ≡ shown_missing
    → row_line_start row ++ (codes "MISSING" ++ row_comment row) ≡ item_text item ++ 10 ∷ []
missing_line item row fxy entry value =
    let text = codes "MISSING" in
    rw (fxy, entry, value)
    (ap (λ l. row_line_start row ++ l) (ap (λ l. text ++ l) (sym (comment_line row)) ∙ sym (append_assoc text (comment_text (Some row)) (10 ∷ []))))

moved_all : (r : Result Unit RunFault) (old new : Option (List ℕ)) (text held : List ℕ) → held ≡ [] → Moves old new text held r → Writes old new text r
moved_all (Ok x) old new text held none moves = rw (moves.parts ∙ ap (λ h. moves.prefix ++ h) none ∙ append-nil moves.prefix) moves.gains
moved_all (Err f) old new text held none moves = moves

pub all_written : {a b c : LineModel} {text : List ℕ} {r : Result Unit RunFault} {old new : Option (List ℕ)} (x : Unit) → Pushes a text b → PushesSomehow b [] c → a.status ≡ Ok x → a.held ≡ []
    → c.held ≡ []
    → a.taken ≡ old → new ≡ c.taken → r ≡ c.status → Writes old new text r
all_written {a = a} {c = c} {text = text} x first handed ok none empty h6 h7 h8 =
    let all = somehow_then first.somehow handed in
    let from = rw ok at all.from in
    rw (h8, ← h6, h7) (moved_all c.status a.taken c.taken text c.held empty (rw (none, append-nil text) at from.moves))

-- the buffered octets after a prefix of the free octets is filled with a text
pub held_filled : (octets free text : List ℕ) (len n k : ℕ) → len ≤ length octets → n ≤ length free → take n free ≡ text → take (len + n) (put_mid len k octets free) ≡ take len octets ++ text
held_filled octets free text len n k within fits is =
    let rest = post_of len k octets in
    let split : put_mid len k octets free ≡ (take len octets ++ take n free) ++ (drop n free ++ rest) =
    ap (λ l. take len octets ++ (l ++ rest)) (sym (take-append-drop n free)) ∙ ap (λ l. take len octets ++ l) (append_assoc (take n free) (drop n free) rest)
    ∙ sym (append_assoc (take len octets) (take n free) (drop n free ++ rest)) in
    grind (arith, common_steps)

-- A copy of a text is also a copy of any equal text.
pub puts_retold : (old new : List ℕ) (at : ℕ) (r : Option ℕ) {s t : List ℕ} → Puts old at s new r → s ≡ t → Puts old at t new r
puts_retold old new at r h1 h2 = grind arith

-- If two texts are copied in turn, their concatenation is copied.
pub puts_then : (old mid new : List ℕ) (at end : ℕ) (r : Option ℕ) (s t : List ℕ) {all : List ℕ} → Puts old at s mid (Some end) → Puts mid end t new r → s ++ t ≡ all → Puts old at all new r
puts_then old mid new at end r s t h1 h2 h3 = grind (arith, common_steps)

-- After another part of a text is copied, the buffer contains a longer prefix of the text.
pub text_put_on : (text rest here more old new : List ℕ) (at end : ℕ) → text ≡ take at old ++ rest → Puts old at here new (Some end) → rest ≡ here ++ more → text ≡ take end new ++ more
text_put_on text rest here more old new at end so next is = simp (so, is, append_assoc, next.1)

-- A buffer that begins with a text contains a copy of it at index 0.
pub puts_first : (s rest first : List ℕ) → first ≡ s → (length s ≤ length (first ++ rest)) × (take (length s) (first ++ rest) ≡ s)
puts_first s rest first is = rw is (omega (arith, length-append s rest), take-append_seam s rest)

-- A text fills a prefix of the octets from an index on.
pub puts_from : (free part : List ℕ) (at n k : ℕ) {text : List ℕ} → at ≤ length free → n ≤ length part → take n part ≡ text → Puts free at text (put_mid at k free part) (Some (at + n))
puts_from free part at n k h1 h2 h3 = grind (arith, common_steps, held_filled)

-- zeros, with one more zero at the end
pub zeros_suc : (count : ℕ) → replicate {A = ℕ} count 48 ++ 48 ∷ [] ≡ replicate (suc count) 48
zeros_suc zero = refl
zeros_suc (suc count) = cc (zeros_suc count)

pub zeros_more : (done : ℕ) → replicate {A = ℕ} done 48 ++ 48 ∷ [] ≡ replicate (done + 1) 48
zeros_more done = zeros_suc done ∙ ap (λ n. replicate n 48) (let on : suc done ≡ done + 1 = omega arith in on)

-- A prefix of a text was pushed, and `rest` is the remaining text.
pub record PushedSoFar (before after : LineModel) (text rest : List ℕ) : Type 0 where
  pub prefix : List ℕ
  pub parts : text ≡ prefix ++ rest
  pub pushes : Pushes before prefix after

pub so_far_on : {a b c : LineModel} {text rest here more : List ℕ} → PushedSoFar a b text rest → rest ≡ here ++ more → Pushes b here c → PushedSoFar a c text more
so_far_on {here = here} {more = more} before next pushes = record {
  prefix = before.prefix ++ here;
  parts = before.parts ∙ ap (λ l. before.prefix ++ l) next ∙ sym (append_assoc before.prefix here more);
  pushes = before.pushes ⨾ pushes;
}

-- The remaining text was pushed, too.
pub so_far_last : {a b c : LineModel} {text rest last : List ℕ} → PushedSoFar a b text rest → rest ≡ last → Pushes b last c → Pushes a text c
so_far_last before is pushes = retold (before.pushes ⨾ pushes) (sym (before.parts ∙ ap (λ l. before.prefix ++ l) is))

-- No text remains.
pub so_far_end : {a b : LineModel} {text rest : List ℕ} → PushedSoFar a b text rest → rest ≡ [] → Pushes a text b
so_far_end before none = so_far_last before none nothing_pushed

-- ---- The calls that show a reading, and what they push.

-- the lines that calls push, as one text
abbrev pub calls_text : List Timed → List ℕ
calls_text calls = flat_map (λ t. call_line t.call ++ 10 ∷ []) calls

-- The calls for the items of a subset push the lines of these items.
pub items-text : (table : List Row) (before : ℕ) (course : CountedCourse) (items : List (Item Content))
    → calls_text (item_calls table before course items) ≡ text_of_lines (map item_text (items_shown table items))
items-text table before course [] = refl
items-text table before course (i ∷ items) = grind (arith, common_steps, items-text table before (after plain course i) items)

-- The calls for a subset, and those for later subsets, push the lines of these subsets.
subset-text : (number : ℕ) (calls more : List Timed) (lines suffix : List (List ℕ)) → calls_text calls ≡ text_of_lines lines → calls_text more ≡ text_of_lines suffix
    → (subset_line number ++ 10 ∷ []) ++ calls_text (calls ++ more) ≡ text_of_lines (subset_line number ∷ (lines ++ suffix))
subset-text number calls more lines suffix h1 h2 = grind (arith, common_steps)

subsets-text : (table : List Row) (course : CountedCourse) (before number : ℕ) (subsets : List (List (Item Content)))
    → calls_text (subset_calls table course before number subsets) ≡ text_of_lines (subset_lines number (map (items_shown table) subsets))
unfolding subset_lines
subsets-text table course before number [] = refl
subsets-text table course before number (items ∷ subsets) =
    subset-text number (item_calls table before course items) (subset_calls table course (before + (course (answers_in answer_of items)).turns) (number + 1) subsets)
    (map item_text (items_shown table items)) (subset_lines (number + 1) (map (items_shown table) subsets))
    (items-text table before course items) (subsets-text table course (before + (course (answers_in answer_of items)).turns) (number + 1) subsets)

-- The calls for a reading push the lines of all subsets.
pub reading-text : (r : outcome.Read) (values : Values) → calls_text (calls_for r values) ≡ text_of_lines (subset_lines 1 (dump_items r.table r.source.subsets values))
reading-text r values = subsets-text r.table (walk_shown r values) 0 1 (each_subset r.source.subsets values)

-- A text was written while nothing was buffered.
moved : (r : Result Unit RunFault) (old new : Option (List ℕ)) (octets held held' : List ℕ) → held ≡ [] → held' ≡ [] → Writes old new octets r → Moves old new (held ++ octets) held' r
moved (Ok x) old new octets held held' e f writes = rw (e, f) (record { prefix = octets; parts = sym (append-nil octets); gains = writes })
moved (Err why) old new octets held held' e f writes = rw e writes

written_through : {b c : LineModel} {octets : List ℕ} → b.status ≡ Ok tt → b.held ≡ [] → c.held ≡ [] → Writes b.taken c.taken octets c.status
    → CountsWrites b.failures c.failures b.empty_writes c.empty_writes c.status → c.flushes ≡ b.flushes → c.sink ≡ b.sink → c.size ≡ b.size → PushesSomehow b octets c
written_through {b = b} {c = c} {octets = octets} ok none none' writes counts flushes sink size = grind (arith, common_steps, moved)

pub pushed_through : {a b mid c : LineModel} {octets : List ℕ} → PushesSomehow a [] mid → b ≡ mid → mid.held ≡ [] → b.status ≡ Ok tt → Writes b.taken c.taken octets c.status
    → CountsWrites b.failures c.failures b.empty_writes c.empty_writes c.status → c.held ≡ [] → c.flushes ≡ b.flushes → c.sink ≡ b.sink → c.size ≡ b.size → PushesSomehow a octets c
pushed_through {b = b} {c = c} {octets = octets} first is none ok writes counts none' flushes sink size =
    let B : LineModel → Type 0 = λ b. PushesSomehow b octets c in
    somehow_then first (subst B is (written_through ok (ap (λ x. x.held) is ∙ none) none' writes counts flushes sink size))

pub fails_pushes : {a b : LineModel} {s : List ℕ} (t : List ℕ) (f : RunFault) → Pushes a s b → b.status ≡ Err f → Pushes a (s ++ t) b
fails_pushes t f h1 h2 = grind (arith, common_steps)

-- A prefix of a text was pushed.
pub record PushesPrefix (before : LineModel) (text : List ℕ) (after : LineModel) : Type 0 where
  pub prefix : List ℕ
  pub suffix : List ℕ
  pub parts : text ≡ prefix ++ suffix
  pub pushes : PushesSomehow before prefix after

-- The fault is that of the writer if there is one, and otherwise `Memory`.
abbrev pub IsFirstFault : Result Unit RunFault → RunFault → Type 0
IsFirstFault (Ok x) fault = fault ≡ Memory
IsFirstFault (Err first) fault = fault ≡ first

-- What the calls that show a reading push: all of their lines, or a prefix if memory ran out.
abbrev pub PushesCalls : LineModel → List ℕ → Result (Unit {0}) (ShowFault RunFault) → LineModel → Type 0
PushesCalls a text (Ok x) b = Pushes a text b
PushesCalls a text (Err (show.Visitor f)) b = Pushes a text b × (b.status ≡ Err f)
PushesCalls a text (Err show.Memory) b = PushesPrefix a text b

-- A call pushes its line before the lines of later calls.
calls-on : (a mid b : LineModel) (line text : List ℕ) (r : Result (Unit {0}) (ShowFault RunFault)) → Pushes a line mid → PushesCalls mid text r b → PushesCalls a (line ++ text) r b
calls-on a mid b line text (Ok x) one more = one ⨾ more
calls-on a mid b line text (Err (show.Visitor f)) one more = (one ⨾ more.0, more.1)
calls-on a mid b line text (Err show.Memory) one more = record {
  prefix = line ++ more.prefix;
  suffix = more.suffix;
  parts = ap (λ l. line ++ l) more.parts ∙ sym (append_assoc line more.prefix more.suffix);
  pushes = somehow_then one.somehow more.pushes;
}

-- The showing stops at this call.
calls-end : (a b : LineModel) (t : Timed) (text : List ℕ) (why : ShowFault RunFault) → EndsAt PushesCall a t.call why b → PushesCalls a ((call_line t.call ++ 10 ∷ []) ++ text) (Err why) b
calls-end a b t text (show.Visitor f) here = (fails_pushes text f here.pushes (sym here.status), sym here.status)
calls-end a b t text show.Memory here = rw here.0 (record { prefix = []; suffix = (call_line t.call ++ 10 ∷ []) ++ text; parts = refl; pushes = nothing_pushed.somehow })

pub calls-pushed : (a : LineModel) (calls : List Timed) (turns : ℕ) (r : Result (Unit {0}) (ShowFault RunFault)) (b : LineModel) (steps : ℕ) → Shows PushesCall a calls turns r b steps
    → PushesCalls a (calls_text calls) r b
calls-pushed a [] turns (Ok x) b steps (same, made) =
    rw same nothing_pushed
calls-pushed a [] turns (Err why) b steps none = absurd none
calls-pushed a (t ∷ calls) turns (Ok x) b steps (mid, one, more) =
    calls-on a mid b (call_line t.call ++ 10 ∷ []) (calls_text calls) (Ok x) one.pushes (calls-pushed mid calls turns (Ok x) b steps more)
calls-pushed a (t ∷ calls) turns (Err why) b steps (inl (here, made)) = calls-end a b t (calls_text calls) why here
calls-pushed a (t ∷ calls) turns (Err why) b steps (inr (mid, one, more)) =
    calls-on a mid b (call_line t.call ++ 10 ∷ []) (calls_text calls) (Err why) one.pushes (calls-pushed mid calls turns (Err why) b steps more)

-- A showing makes the steps of all turns, or if it stops early, the steps up to that point.
pub calls-steps : (a : LineModel) (calls : List Timed) (turns : ℕ) (r : Result (Unit {0}) (ShowFault RunFault)) (b : LineModel) (steps : ℕ) → Shows PushesCall a calls turns r b steps
    → MakesSteps calls turns r steps
calls-steps a [] turns (Ok x) b steps (same, made) = made
calls-steps a [] turns (Err why) b steps none = absurd none
calls-steps a (t ∷ calls) turns (Ok x) b steps (mid, one, more) = calls-steps mid calls turns (Ok x) b steps more
calls-steps a (t ∷ calls) turns (Err why) b steps (inl (here, made)) = inl made
calls-steps a (t ∷ calls) turns (Err why) b steps (inr (mid, one, more)) = inr (calls-steps mid calls turns (Err why) b steps more)

-- The steps of all turns are also possible for a showing that stops early.
pub all-steps : (calls : List Timed) (turns steps : ℕ) → steps ≡ ticked 0 turns → StepsWithin calls turns steps
all-steps [] turns steps made = made
all-steps (t ∷ calls) turns steps made = inr (all-steps calls turns steps made)

pub steps-of : {X E : Type 0} (calls : List Timed) (turns steps : ℕ) (r : Result X E) → steps ≡ ticked 0 turns → MakesSteps calls turns r steps
steps-of calls turns steps (Ok x) made = made
steps-of calls turns steps (Err fault) made = all-steps calls turns steps made

-- A showing that stops early may have made no steps.
pub no-steps : (r : outcome.Read) → StepsWithin (calls_of r) (turns_shown r) 0
no-steps r = by (each_subset r.source.subsets (values_read r))
  where
    course : CountedCourse
    course = walk_shown r (values_read r)

    by : (subsets : List (List (Item Content))) → StepsWithin (subset_calls r.table course 0 1 subsets) (turns_in answer_of course subsets) 0
    by [] = refl
    by (items ∷ subsets) = inl refl

-- A prefix of a text is also a prefix of any longer text.
prefix-longer : {a b : LineModel} {s : List ℕ} (t : List ℕ) → PushesPrefix a s b → PushesPrefix a (s ++ t) b
prefix-longer t h1 = grind (arith, common_steps)

whole-prefix : {a b : LineModel} (s : List ℕ) → PushesSomehow a s b → PushesPrefix a s b
whole-prefix s all = record { prefix = s; suffix = []; parts = sym (append-nil s); pushes = all }

-- The sink took a prefix of what was buffered and pushed.
prefix-moved : (a b : LineModel) (text : List ℕ) (r : Result Unit RunFault) → Moves a.taken b.taken (a.held ++ text) b.held r → GrowsByPrefix a.taken b.taken (a.held ++ text)
prefix-moved a b text (Ok x) moves = record { prefix = moves.prefix; back = b.held; parts = moves.parts; gains = moves.gains }
prefix-moved a b text (Err f) moves = moves.1

-- the effect of a dump on the sink of a writer of lines
pub record LeavesSink {X : Type 0} (a : LineModel) (text : List ℕ) (r : Result X RunFault) (c : LineModel) : Type 0 where
  pub writes : WritesPrefix a.taken c.taken text r
  pub counts : CountsFaults a.failures c.failures a.empty_writes c.empty_writes r
  pub flushes : c.flushes ≡ a.flushes
  pub sink : c.sink ≡ a.sink

counts-fault : (f f' e e' : ℕ) (status : Result Unit RunFault) (fault : RunFault) → IsFirstFault status fault → ((g : RunFault) → status ≡ Err g → g ≡ Write) → CountsWrites f f' e e' status
    → CountsFaults {X = Unit} f f' e e' (Err fault)
counts-fault f f' e e' (Ok x) fault is only counts = rw is counts
counts-fault f f' e e' (Err g) fault is only counts = rw (is, only g refl) counts

only-write : (a b : LineModel) (text held : List ℕ) (r : Result Unit RunFault) → Moves a.taken b.taken text held r → (g : RunFault) → r ≡ Err g → g ≡ Write
only-write a b text held (Ok x) moves g is = absurd (cc)
only-write a b text held (Err f) moves g is = cc (moves.0)

module _ {a b c : LineModel} {head : List ℕ} (rest : List ℕ) (ok : a.status ≡ Ok tt) (none : a.held ≡ []) (first : Pushes a head b) where
  leaves-prefix : (fault : RunFault) → PushesPrefix b rest c → IsFirstFault c.status fault → LeavesSink {X = Unit} a (head ++ rest) (Err fault) c
  leaves-prefix fault more is =
      let whole = somehow_then first.somehow more.pushes in
      let from = rw ok at whole.from in
      let grown = rw none at (prefix-moved a c (head ++ more.prefix) c.status from.moves) in
      let parts : head ++ rest ≡ (head ++ more.prefix) ++ more.suffix = rw (more.parts, append_assoc) in
      record {
        writes = record {
          prefix = grown.prefix;
          back = grown.back ++ more.suffix;
          parts = parts ∙ ap (λ l. l ++ more.suffix) grown.parts ∙ append_assoc grown.prefix grown.back more.suffix;
          gains = grown.gains;
        };
        counts = counts-fault a.failures c.failures a.empty_writes c.empty_writes c.status fault is (only-write a c (a.held ++ (head ++ more.prefix)) c.held c.status from.moves) from.counts;
        flushes = whole.flushes;
        sink = whole.sink;
      }

  leaves-end : (r : Result Unit RunFault) → PushesSomehow b rest c → c.held ≡ [] → r ≡ c.status → LeavesSink a (head ++ rest) r c
  leaves-end (Ok x) more empty is =
      let whole = somehow_then first.somehow more in
      let from = rw ok at whole.from in
      grind (arith, common_steps)
  leaves-end (Err fault) more empty is = leaves-prefix fault (whole-prefix rest more) (rw (sym is) refl)

-- A reading was shown, with this effect on the sink.
abbrev pub Shown : outcome.Read → LineModel → Result (Unit {0}) (ShowFault RunFault) → LineModel → ℕ → Type 0
Shown r b o c steps = Shows PushesCall b (calls_of r) (turns_shown r) o c steps

abbrev pub Left : Sections → outcome.Read → LineModel → Result Unit RunFault → LineModel → ℕ → Type 0
Left s r a q c steps =
    LeavesSink a (text_of_lines (head_lines s) ++ (calls_text (calls_of r) ++ codes "end\n")) q c × MakesSteps (calls_of r) (turns_shown r) q steps

-- The lines before the subsets were pushed, and then the lines of the calls: all of them and the
-- `end` line, or those up to a failed write, or those up to the point where memory ran out.
module _ {a b c : LineModel} (s : Sections) (r : outcome.Read) (steps : ℕ) (ok : a.status ≡ Ok tt) (none : a.held ≡ []) (head : Pushes a (text_of_lines (head_lines s)) b) where
  pub left-whole : {d e : LineModel} (q : Result Unit RunFault) → Shown r b (Ok tt) c steps → Pushes c (codes "end\n") d → PushesSomehow d [] e → e.held ≡ [] → q ≡ e.status → Left s r a q e steps
  left-whole q shown last handed empty is =
      let calls = calls_of r in
      let turns = turns_shown r in
      let all = somehow_then (calls-pushed b calls turns (Ok tt) c steps shown ⨾ last).somehow handed in (
        leaves-end (calls_text calls ++ codes "end\n") ok none head q (retold_somehow all (append-nil (calls_text calls ++ codes "end\n"))) empty is,
        steps-of calls turns steps q (calls-steps b calls turns (Ok tt) c steps shown),
      )

  pub left-failed : (fault : RunFault) (why : ShowFault RunFault) → why ≡ show.Visitor fault → Shown r b (Err why) c steps → Left s r a (Err fault) c steps
  left-failed fault why is shown =
      let calls = calls_of r in
      let here = rw is at shown in
      let all = calls-pushed b calls (turns_shown r) (Err (show.Visitor fault)) c steps here in (
        leaves-prefix (calls_text calls ++ codes "end\n") ok none head fault (prefix-longer (codes "end\n") (whole-prefix (calls_text calls) all.0.somehow)) (rw all.1 refl),
        calls-steps b calls (turns_shown r) (Err (show.Visitor fault)) c steps here,
      )

  pub left-first : (first : RunFault) (q : Result Unit RunFault) (why : ShowFault RunFault) → q ≡ Err first → why ≡ show.Memory → Shown r b (Err why) c steps → IsFirstFault c.status first
      → Left s r a q c steps
  left-first first q why fails is shown of =
      let calls = calls_of r in
      let here = rw is at shown in
      rw fails (
        leaves-prefix (calls_text calls ++ codes "end\n") ok none head first (prefix-longer (codes "end\n") (calls-pushed b calls (turns_shown r) (Err show.Memory) c steps here)) of,
        calls-steps b calls (turns_shown r) (Err show.Memory) c steps here,
      )

pub all-counted-of : {a c : LineModel} {text : List ℕ} {f f' e e' : ℕ} (r : Result Unit RunFault) → LeavesSink a text r c → a.failures ≡ f → f' ≡ c.failures → a.empty_writes ≡ e → e' ≡ c.empty_writes
    → CountsFaults f f' e e' r
all-counted-of r h h1 h2 h3 h4 = rw (sym h1, h2, sym h3, h4) h.counts

-- A dump writes the dump text of its message, or a prefix of it.
pub all-written-of : {a c : LineModel} {old new : Option (List ℕ)} (s : Sections) (read : outcome.Read) (r : Result Unit RunFault)
    → LeavesSink a (text_of_lines (head_lines s) ++ (calls_text (calls_of read) ++ codes "end\n")) r c → a.taken ≡ old → new ≡ c.taken
    → WritesPrefix old new (dump_text_of s (dump_items read.table read.source.subsets (values_read read))) r
all-written-of {a = a} {c = c} s read r h1 h2 h3 = grind (arith, common_steps, reading-text)

-- ---- The listing line, and the lines of a dump before its subsets.

key-on : (name value more : List ℕ) → name ++ (32 ∷ (value ++ (more ++ 10 ∷ []))) ≡ ((name ++ 32 ∷ []) ++ (value ++ more)) ++ 10 ∷ []
key-on name value more = grind (arith, common_steps)

-- the text of header values, each after the lead of its key; the first value has this key
unfoldable pub header_text : (key : ℕ) → List ℕ → List ℕ
header_text key [] = []
header_text key (value ∷ more) =
    lead_of (get_or keys key []) ++ (decimal value ++ header_text (key + 1) more)

-- Header lines end with line feeds. In `header_text`, each line begins with its line feed instead.
pub header-lines : (key : ℕ) (values : List ℕ) → 10 ∷ text_of_lines (header_lines key values) ≡ header_text key values ++ 10 ∷ []
unfolding header_lines header_text
header-lines key [] = refl
header-lines key (value ∷ more) =
    let name : List ℕ = get_or keys key [] in
    let lines = text_of_lines (header_lines (key + 1) more) in
    cc (append_assoc (name ++ 32 ∷ decimal value) (10 ∷ []) lines ∙ append_assoc name (32 ∷ decimal value) (10 ∷ lines) ∙ ap (λ l. name ++ (32 ∷ (decimal value ++ l))) (header-lines (key + 1) more)
    ∙ key-on name (decimal value) (header_text (key + 1) more))

-- An absent section 2 has no octets.
pub section2-or : {X : Type 0} (f : X → List ℕ) (o : Option X) (none r : X) (section2 : Option (List ℕ)) → option_map f o ≡ section2 → r ≡ unwrap_or o none → f none ≡ [] → f r ≡ unwrap_or section2 []
section2-or f (Some x) none r section2 h is empty = rw (is, ← h) refl
section2-or f None none r section2 h is empty = rw (is, ← h) empty

-- another descriptor on a line of at most eight
pub descriptors-next : (left left' : List ℕ) (done w : ℕ) → done < 8 → left ≡ w ∷ left' → descriptors_text (take (8 - done) left) ≡ (32 ∷ fxy_text w) ++ descriptors_text (take (8 - (done + 1)) left')
unfolding descriptors_text
descriptors-next left left' done w h1 h2 = grind arith

pub left-next : (left left' all : List ℕ) (done w : ℕ) → done < 8 → left ≡ w ∷ left' → drop (8 - done) left ≡ all → drop (8 - (done + 1)) left' ≡ all
left-next left left' all done w few is whole =
    let e : 8 - done ≡ suc (8 - (done + 1)) = omega arith in
    cc (e)

-- No descriptors remain, or the line is full.
pub descriptors-none : (n : ℕ) (left : List ℕ) → left ≡ [] → descriptors_text (take n left) ≡ []
unfolding descriptors_text
descriptors-none n left h1 = grind arith

pub descriptors-full : (n : ℕ) (left : List ℕ) → n ≡ 0 → descriptors_text (take n left) ≡ []
unfolding descriptors_text
descriptors-full n left full = rw full

-- the lines before the subsets, group by group
pub head-is : (s : Sections)
    → text_of_lines (codes "message" ∷ header_lines 0 (header_of s)) ++ (text_of_lines (map local1_line (runs_of 32 s.local1))
    ++ (text_of_lines (map section2_line (runs_of 32 (unwrap_or s.section2 []))) ++ text_of_lines (map descriptors_line (runs_of 8 s.descriptors))))
    ≡ text_of_lines (head_lines s)
head-is s = grind (arith, common_steps)

-- ---- The lines of octets and of descriptors, line by line.

-- The runs of a list are its first run and the runs of the other elements.
runs-skip : (skip less : ℕ) (xs : List ℕ) → runs_after skip (suc less) xs ≡ runs_after 0 (suc less) (drop skip xs)
unfolding runs_after
runs-skip zero less xs = refl
runs-skip (suc skip) less [] = refl
runs-skip (suc skip) less (x ∷ xs) = runs-skip skip less xs

pub runs-next : (less : ℕ) (xs : List ℕ) → 0 < length xs → runs_of (suc less) xs ≡ take (suc less) xs ∷ runs_of (suc less) (drop (suc less) xs)
unfolding runs_after
runs-next less xs h1 = grind (arith, runs-skip)

-- The lines of runs are the line of the first run and the lines of the others.
pub lines-next : (f : List ℕ → List ℕ) (less : ℕ) (xs : List ℕ) → 0 < length xs
    → text_of_lines (map f (runs_of (suc less) xs)) ≡ (f (take (suc less) xs) ++ 10 ∷ []) ++ text_of_lines (map f (runs_of (suc less) (drop (suc less) xs)))
lines-next f less xs some = rw runs-next

pub lines-none : (f : List ℕ → List ℕ) (most : ℕ) (xs : List ℕ) → length xs ≤ 0 → text_of_lines (map f (runs_of most xs)) ≡ []
unfolding runs_after
lines-none f most [] none = refl
lines-none f most (x ∷ xs) none = absurd (omega arith)

-- Limiting a run to the length of the list does not change it.
cut-run : (n m : ℕ) (xs : List ℕ) → m ≡ min (length xs) n → (take m xs ≡ take n xs) × (drop m xs ≡ drop n xs)
cut-run n m xs h1 = grind (arith, common_steps)

-- the same for a run that is limited to the length of the list
pub octet-lines-next : (f : List ℕ → List ℕ) (less m : ℕ) (rest run suffix : List ℕ) → 0 < length rest → m ≡ min (length rest) (suc less) → run ≡ take m rest → suffix ≡ drop m rest
    → text_of_lines (map f (runs_of (suc less) rest)) ≡ (f run ++ 10 ∷ []) ++ text_of_lines (map f (runs_of (suc less) suffix))
octet-lines-next f less m rest run suffix some is prefix back =
    let cut = cut-run (suc less) m rest is in
    grind (arith, common_steps, lines-next)

-- whether any elements remain
pub some-left : (b : Bool) (xs : List ℕ) → IsTrue b ↔ (xs ≡ []) → b ≡ false → 0 < length xs
some-left b xs h1 h2 = grind (arith, common_steps)

pub none-left : (b : Bool) (xs : List ℕ) → IsTrue b ↔ (xs ≡ []) → b ≡ true → length xs ≤ 0
none-left true xs is e = let none : length xs ≡ 0 = ap length (is.0 refl) in omega (arith, none)
none-left false xs is e = absurd cc

-- ---- The listing line, from the values that a message returns.

pub is_some-map : {X Y : Type 0} (f : X → Y) (o : Option X) → is_some (option_map f o) ≡ is_some o
is_some-map f (Some x) = refl
is_some-map f None = refl

pub joined-append : (xs ys : List (List ℕ)) → concat xs ++ concat ys ≡ concat (xs ++ ys)
joined-append [] ys = refl
joined-append (x ∷ xs) ys = append_assoc x (concat xs) (concat ys) ∙ ap (λ l. x ++ l) (joined-append xs ys)

-- If two lists of texts are pushed in turn, all of their texts are pushed.
pub joined_then : {a b c : LineModel} (xs ys : List (List ℕ)) → Pushes a (concat xs) b → Pushes b (concat ys) c → Pushes a (concat (xs ++ ys)) c
joined_then xs ys first second = retold (first ⨾ second) (joined-append xs ys)

-- The parts of a listing line are pushed in turn.
pub line-pushed : {a one two b : LineModel} (offset : ℕ) (s : Sections) → Pushes a (concat (source_texts offset s.size s.head)) one → Pushes one (concat (time_texts s.head)) two
    → Pushes two (concat (counts_texts s.subsets s.observed s.compressed (is_some s.section2) (length s.descriptors))) b → Pushes a (ls_line offset s) b
line-pushed offset s source time counts =
    let C = counts_texts s.subsets s.observed s.compressed (is_some s.section2) (length s.descriptors) in
    joined_then (source_texts offset s.size s.head) (time_texts s.head ++ C) source (joined_then (time_texts s.head) C time counts)

-- rules for the goals of single functions
pub ruleset held_steps = (holds_pushes, held_filled)

pub ruleset write_steps = (more-written, empty_writes_after-some, take_rest)
