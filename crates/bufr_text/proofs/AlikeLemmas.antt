-- The lines that are the same in every subset of compressed data: the code formats them once, and
-- pushes them for each subset.
use Rattle.std.proofs.lemmas.Grind.{common_steps}
use Rattle.std.proofs.Common.{◌≡◌, ◌≤◌, ◌<◌, ◌+◌, ◌⊎◌, ℕ, zero, suc, List, [], ◌∷◌, ◌++◌, length, take, drop, Result, Ok, Err, Option, Some, inl, inr, refl, sym, ap, ◌∙◌, subst, arith, append_assoc, append-nil, length-append, length-take-le, get_or, add-one, Bool, true, if◌then◌else◌, rules}
use Rattle.std.proofs.lemmas.List.{drop_all}
use Rattle.std.proofs.Math.Seq.{drop-cons}
use Rattle.bufr_frame.specs.declared.fault.RunFault.{RunFault}
use Rattle.bufr_tables.specs.Prelude.{Row}
use Rattle.bufr_walk.specs.declared.fault.ShowFault.{ShowFault}
use Rattle.bufr_walk.specs.declared.fault.ShowFault.TheVariants as show
use Rattle.bufr_walk.specs.Prelude.{Content, Item, Timed, PackedValues, IsPackedOf, Read, IsSameInAll, Shows, Sofar, item_calls, items_between, items_of_subset, range_calls, without_turns, view_of}
use Rattle.bufr_walk.proofs.PackedShowing.{shows_before, sofar_all}
use Rattle.bufr_walk.proofs.ShownLemmas.{sofar_then}
use Rattle.bufr_text.specs.Prelude.{LineModel, MovesOn, MovesPrefix, Moves, Pushes, PushesFrom, PushesCall, item_text, item_lines, lines_between, PushesAlike, AreStretches}
use Rattle.bufr_text.specs.declared.alike.Stretch.{Stretch}
use Rattle.bufr_text.proofs.PushLemmas.{◌⨾◌, calls-pushed, calls_text, holds_pushes, items-text, retold}

-- ---- Items from one index to another, in parts.

between : {X : Type 0} (xs : List X) (from mid to : ℕ) → from ≤ mid → mid ≤ to → drop from (take to xs) ≡ drop from (take mid xs) ++ drop mid (take to xs)
between [] zero zero to a b = refl
between [] zero (suc mid) (suc to) a b = refl
between [] (suc from) (suc mid) (suc to) a b = refl
between [] from (suc mid) zero a b = absurd (omega arith)
between [] (suc from) zero to a b = absurd (omega arith)
between (x ∷ xs) zero zero to a b = refl
between (x ∷ xs) zero (suc mid) zero a b = absurd (omega arith)
between (x ∷ xs) zero (suc mid) (suc to) a b = ap (λ ys. x ∷ ys) (first xs to ∙ between xs 0 mid to (omega arith) (omega arith) ∙ ap (λ ys. ys ++ drop mid (take to xs)) (sym (first xs mid)))
  where
    first : {X : Type 0} (xs : List X) (n : ℕ) → take n xs ≡ drop 0 (take n xs)
    first [] zero = refl
    first [] (suc n) = refl
    first (x ∷ xs) zero = refl
    first (x ∷ xs) (suc n) = refl
between (x ∷ xs) (suc from) zero to a b = absurd (omega arith)
between (x ∷ xs) (suc from) (suc mid) zero a b = absurd (omega arith)
between (x ∷ xs) (suc from) (suc mid) (suc to) a b = between xs from mid to (omega arith) (omega arith)

items-parts : (j : ℕ) (a b : List (Item (List Content))) → items_of_subset j (a ++ b) ≡ items_of_subset j a ++ items_of_subset j b
items-parts j [] b = refl
items-parts j (i ∷ a) b = cc (items-parts j a b)

calls-parts : (table : List Row) (a b : List (Item Content)) → item_calls table 0 without_turns (a ++ b) ≡ item_calls table 0 without_turns a ++ item_calls table 0 without_turns b
calls-parts table [] b = refl
calls-parts table (i ∷ a) b = rw (calls-parts table a b) refl

lines-parts : (table : List Row) (a b : List (Item Content)) → item_lines table (a ++ b) ≡ item_lines table a ++ item_lines table b
lines-parts table a b = grind (arith, common_steps)

module _ (p : PackedValues) (j from mid to : ℕ) (first : from ≤ mid) (last : mid ≤ to) where
  items-at : items_between p j from to ≡ items_between p j from mid ++ items_between p j mid to
  items-at = cc (between p.items from mid to first last, items-parts j (drop from (take mid p.items)) (drop mid (take to p.items)))

  pub range-at : range_calls p j from to ≡ range_calls p j from mid ++ range_calls p j mid to
  range-at = rw (items-at, calls-parts)

  pub lines-at : lines_between p j from to ≡ lines_between p j from mid ++ lines_between p j mid to
  lines-at = cc (items-at, lines-parts p.table (items_between p j from mid) (items_between p j mid to))

-- There are no lines from an index to the same index.
pub lines-none : (p : PackedValues) (j from : ℕ) → from ≤ length p.items → lines_between p j from from ≡ []
lines-none p j from within =
    let none : drop from (take from p.items) ≡ [] = drop_all from (take from p.items) (omega (arith, length-take-le from p.items within)) in ap (λ items. item_lines p.table (items_of_subset j items))
    none

-- ---- Pushing lines that were gathered has the effect of the calls that show their items.

-- the writer with more text in its block
abbrev holding : LineModel → List ℕ → LineModel
holding a text = record {
  taken = a.taken;
  failures = a.failures;
  empty_writes = a.empty_writes;
  whole_writes = a.whole_writes;
  flushes = a.flushes;
  held = a.held ++ text;
  size = a.size;
  status = a.status;
  sink = a.sink;
}

-- the effect of a push if no write has failed
moves-of : (a b : LineModel) (t : List ℕ) (q : Result Unit RunFault) → q ≡ Ok tt → PushesFrom q a t b → MovesOn a t b
moves-of a b t (Ok x) is from = from
moves-of a b t (Err f) is from = absurd (cc)

pushes-of : (a b : LineModel) (t : List ℕ) (q : Result Unit RunFault) → q ≡ Ok tt → MovesOn a t b → PushesFrom q a t b
pushes-of a b t (Ok x) is moves = moves
pushes-of a b t (Err f) is moves = absurd (cc)

prefix-of : (old new : Option (List ℕ)) (text held : List ℕ) (r : Result Unit RunFault) → r ≡ Ok tt → Moves old new text held r → MovesPrefix old new text held
prefix-of old new text held (Ok x) is moves = moves
prefix-of old new text held (Err f) is moves = absurd (cc)

-- If a text was pushed, its second part was pushed after its first part.
pushed-after : {a b : LineModel} (s t : List ℕ) → a.status ≡ Ok tt → Pushes a (s ++ t) b → Pushes (holding a s) t b
pushed-after {a = a} {b = b} s t ok pushes =
    let from = moves-of a b (s ++ t) a.status ok pushes.somehow.from in
    let on : MovesOn (holding a s) t b = record { moves = rw (← append_assoc a.held s t) at from.moves; counts = from.counts } in
    grind (arith, pushes-of, append_assoc)

-- the result of a showing, given the status of the writer
abbrev answered : Result Unit RunFault → Result Unit (ShowFault RunFault)
answered (Ok x) = Ok tt
answered (Err f) = Err (show.Visitor f)

made-on : (table : List Row) (i : Item Content) (items : List (Item Content)) (a b : LineModel) (r : Result Unit RunFault) → a.status ≡ Ok tt → Pushes a (item_lines table (i ∷ items)) b
    → b.status ≡ r → Shows PushesCall a (item_calls table 0 without_turns (i ∷ items)) 0 (answered r) b 0
made-on table i [] a b (Ok x) ok pushes is = (b, record { pushes = retold pushes (append-nil _); status = sym is }, (refl, refl))
made-on table i [] a b (Err f) ok pushes is = inl (record { pushes = retold pushes (append-nil _); status = sym is }, refl)
made-on table i (k ∷ items) a b (Ok x) ok pushes is =
    let line : List ℕ = item_text (view_of table i.spec i.content) ++ 10 ∷ [] in (
      holding a line,
      record { pushes = holds_pushes refl refl refl refl refl refl refl refl refl; status = sym ok },
      made-on table k items (holding a line) b (Ok x) ok (pushed-after line (item_lines table (k ∷ items)) ok pushes) is,
    )
made-on table i (k ∷ items) a b (Err f) ok pushes is =
    let line : List ℕ = item_text (view_of table i.spec i.content) ++ 10 ∷ [] in inr (
      holding a line,
      record { pushes = holds_pushes refl refl refl refl refl refl refl refl refl; status = sym ok },
      made-on table k items (holding a line) b (Err f) ok (pushed-after line (item_lines table (k ∷ items)) ok pushes) is,
    )

-- If there is an item, its line is not empty.
no-lines : (table : List Row) (i : Item Content) (items : List (Item Content)) → 1 ≤ length (item_lines table (i ∷ items))
no-lines table i items =
    let line : List ℕ = item_text (view_of table i.spec i.content) in
    omega (arith, length-append (line ++ 10 ∷ []) (item_lines table items), length-append line (10 ∷ []))

pub made-none : (text : List ℕ) (a : LineModel) → length text ≤ 0 → (table : List Row) (items : List (Item Content)) → text ≡ item_lines table items
    → Shows PushesCall a (item_calls table 0 without_turns items) 0 (Ok tt) a 0
made-none text a none table [] is = (refl, refl)
made-none text a none table (i ∷ items) is = absurd (omega (arith, no-lines, ap length is))

pub made-shown : (text : List ℕ) (a b : LineModel) (r : Result Unit RunFault) → 1 ≤ length text → a.status ≡ Ok tt → Pushes a text b → b.status ≡ r → (table : List Row) (items : List (Item Content))
    → text ≡ item_lines table items → Shows PushesCall a (item_calls table 0 without_turns items) 0 (answered r) b 0
made-shown text a b r some ok pushes at table [] is = absurd (omega (arith, ap length is))
made-shown text a b r some ok pushes at table (i ∷ items) is = made-on table i items a b r ok (retold pushes is) at

-- If all calls succeeded, no write has failed.
pub shown-status : (a : LineModel) (calls : List Timed) (b : LineModel) → a.status ≡ Ok tt → Shows PushesCall a calls 0 (Ok tt) b 0 → b.status ≡ Ok tt
shown-status a [] b ok (same, made) = rw same ok
shown-status a (t ∷ calls) b ok (mid, one, more) = shown-status mid calls b (sym one.status) more

-- ---- One subset, stretch by stretch.

-- The calls for the items of a subset before `index` were made. `rest` are the stretches after
-- these items.
pub record SubsetSoFar (p : PackedValues) (text : List ℕ) (j : ℕ) (a b : LineModel) (at : ℕ) (rest : List Stretch) : Type 0 where
  pub index : ℕ
  pub calls : Sofar PushesCall a (range_calls p j 0 (length p.items)) b (range_calls p j index (length p.items))
  pub status : b.status ≡ Ok tt
  pub left : AreStretches p text index at rest

module _ (p : PackedValues) (j from to : ℕ) (a b c : LineModel) (order : from ≤ to) (within : to ≤ length p.items)
    (calls : Sofar PushesCall a (range_calls p j 0 (length p.items)) b (range_calls p j from (length p.items))) where
  parted : Sofar PushesCall a (range_calls p j 0 (length p.items)) b (range_calls p j from to ++ range_calls p j to (length p.items))
  parted = subst (Sofar PushesCall a (range_calls p j 0 (length p.items)) b) (range-at p j from to (length p.items) order within) calls

  calls-go : Shows PushesCall b (range_calls p j from to) 0 (Ok tt) c 0 → Sofar PushesCall a (range_calls p j 0 (length p.items)) c (range_calls p j to (length p.items))
  calls-go shows = search (rules, sofar_then, parted, sofar_all)

  calls-stop : (e : ShowFault RunFault) → Shows PushesCall b (range_calls p j from to) 0 (Err e) c 0 → Shows PushesCall a (range_calls p j 0 (length p.items)) 0 (Err e) c 0
  calls-stop e shows = parted.on 0 (Err e) c 0 (shows_before PushesCall b c (range_calls p j from to) (range_calls p j to (length p.items)) e shows)

module _ (p : PackedValues) (text : List ℕ) (j : ℕ) (a b : LineModel) (at : ℕ) (s : Stretch) (more : List Stretch) (h : SubsetSoFar p text j a b at (s ∷ more)) where
  pub stop-made : (c : LineModel) (e : ShowFault RunFault) → Shows PushesCall b (range_calls p j h.index s.from) 0 (Err e) c 0 → Shows PushesCall a (range_calls p j 0 (length p.items)) 0 (Err e) c 0
  stop-made c e shows = grind (arith, calls-stop)

  made-go : (c : LineModel) → Shows PushesCall b (range_calls p j h.index s.from) 0 (Ok tt) c 0 → Sofar PushesCall a (range_calls p j 0 (length p.items)) c (range_calls p j s.from (length p.items))
  made-go c shows = calls-go p j h.index s.from a b c h.left.0.first (omega (arith, h.left.0.order, h.left.0.within)) h.calls shows

  pub stop-items : (c d : LineModel) (e : ShowFault RunFault) → Shows PushesCall b (range_calls p j h.index s.from) 0 (Ok tt) c 0 → Shows PushesCall c (range_calls p j s.from s.to) 0 (Err e) d 0
      → Shows PushesCall a (range_calls p j 0 (length p.items)) 0 (Err e) d 0
  stop-items c d e made shows = calls-stop p j s.from s.to a c d h.left.0.order h.left.0.within (made-go c made) e shows

  pub subset-go : (c d : LineModel) → Shows PushesCall b (range_calls p j h.index s.from) 0 (Ok tt) c 0 → Shows PushesCall c (range_calls p j s.from s.to) 0 (Ok tt) d 0
      → SubsetSoFar p text j a d s.end more
  subset-go c d made shows = record {
    index = s.to;
    calls = calls-go p j s.from s.to a c d h.left.0.order h.left.0.within (made-go c made) shows;
    status = shown-status c (range_calls p j s.from s.to) d (shown-status b (range_calls p j h.index s.from) c h.status made) shows;
    left = h.left.1;
  }

-- the next stretch
pub next-stretch : (stretches : List Stretch) (i : ℕ) (s : Stretch) → i < length stretches → s ≡ get_or stretches i s → drop i stretches ≡ s ∷ drop (i + 1) stretches
next-stretch stretches i s below is = cc (drop-cons stretches i s below, add-one i)

-- ---- The lines are gathered.

-- another item whose line is the same in every subset
pub alike-more : (p : PackedValues) (from to : ℕ) (a b c : LineModel) → 0 < p.subsets → to < length p.items → PushesAlike p from to a b → IsSameInAll p to
    → Shows PushesCall b (range_calls p 0 to (to + 1)) 0 (Ok tt) c 0 → PushesAlike p from (to + 1) a c
alike-more p from to a b c some below h same shows =
    let join = λ (j : ℕ). lines-at p j from to (to + 1) h.order (omega arith) in
    let text : calls_text (range_calls p 0 to (to + 1)) ≡ lines_between p 0 to (to + 1) = items-text p.table 0 without_turns (items_between p 0 to (to + 1)) in
    record {
      order = omega (arith, h.order);
      within = omega arith;
      pushes = retold (h.pushes ⨾ retold (calls-pushed b (range_calls p 0 to (to + 1)) 0 (Ok tt) c 0 shows) text) (sym (join 0));
      status = shown-status b (range_calls p 0 to (to + 1)) c h.status shows;
      alike = λ j less. join j ∙ ap (λ l. l ++ lines_between p j to (to + 1)) (h.alike j less) ∙ ap (λ l. lines_between p 0 from to ++ l) (ap (item_lines p.table) (same j less)) ∙ sym (join 0);
    }

-- What was gathered so far: stretches for the items before `index`, and their lines in the block.
pub record GatheredSoFar (p : PackedValues) (lines : LineModel) (index : ℕ) (stretches : List Stretch) : Type 0 where
  pub taken : lines.taken ≡ Some []
  pub status : lines.status ≡ Ok tt
  pub within : index ≤ length p.items
  pub few : (length stretches ≤ 1024) ⊎ ((length stretches ≤ 1025) × (length p.items ≤ index))
  pub on : (more : List Stretch) (back : List ℕ) → AreStretches p (lines.held ++ back) index (length lines.held) more → AreStretches p (lines.held ++ back) 0 0 (stretches ++ more)

-- The stretches cover all items.
pub gathered-all : (p : PackedValues) (lines : LineModel) (index : ℕ) (stretches : List Stretch) (text : List ℕ) → GatheredSoFar p lines index stretches → length p.items ≤ index → text ≡ lines.held
    → AreStretches p text 0 0 stretches
gathered-all p lines index stretches text h ended is =
    rw (← append-nil lines.held ∙ sym is) (rw (← append-nil stretches) (h.on [] [] ended))

-- The buffered octets were appended to an empty text.
pub appended : (all text held back : List ℕ) (done : Bool) → all ≡ (if done then text ++ held else text) → done ≡ true → text ≡ [] → held ≡ back → all ≡ back
appended all text held back done is ok none same = cc (is)

-- A reading of compressed data is shown in only one way.
pub same-packed : (p q : PackedValues) (r : Read) → IsPackedOf p r → IsPackedOf q r → p ≡ q
same-packed p q r a b = grind (arith, common_steps, a.table ∙ sym b.table)
