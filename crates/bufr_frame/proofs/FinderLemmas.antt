-- Steps and calls of a finder, and the reads that they make.
use Rattle.std.proofs.Common.{min, rules, if◌then◌else◌, nat_lt, nat_le, ◌&&◌, ◌*◌, ◌≡◌, ◌≢◌, ◌^◌, ℕ, ◌+◌, ◌-◌, ◌<◌, ◌≤◌, List, [], ◌++◌, sym, ◌∙◌, ap, subst, arith, Option, Ok, Err, append_assoc, append-nil, ◌∷◌, length, take, drop, refl, length-take, length-drop, inl, inr, Bool, true, false, length-append, ◌⊎◌, ◌*◌, zero, suc, codes, Result, slice_range, take_while, Some, None, max}
use Rattle.std.specs.Io.KnownBytes.{Consumes, IsAtEnd}
use Rattle.std.proofs.KnownBytes.{Consumes-trans}
use Rattle.bufr_bits.specs.Prelude.{counted}
use Rattle.bufr_bits.proofs.CountLemmas.{counted-counted, counted-none}
use Rattle.bufr_frame.specs.Prelude.{read_failures_after, StopsFinder, IsUndecided, AddsReads, max_reads, ReadsOnce, FillFails, FillEnds, Candidate, StreamEvent, FrameAt, scan, scan_from, open_scan, stream_event, candidate_len, is_decided, Advances, NoEventCertain, first_event, StrayAt, has_word_at, classify, stated_or_zero, longest_of, offset_of, IsNextEvent, IsIncomplete, HasNoFurtherEvent, gone_to, stated_length, StartsWithBufr, FinderModel, ReadsAndPasses, Follows, new_finder, IsStatedLength, RaisesLongest, held, EachReadIsNeeded, CallReadsAreNeeded, ReturnsNextEvent, LeavesFinder, events_returned}
use Rattle.bufr_frame.specs.declared.fault.RunFault.{RunFault}
use Rattle.bufr_frame.specs.declared.fault.RunFault.TheVariants.{Read, Write, InputTooLong, Memory}
use Rattle.std.proofs.lemmas.List.{drop-take, take-take, take-append-le, drop-append-le}
use Rattle.std.proofs.Math.Seq.{take-add, take-append-add}
use Rattle.bufr_frame.proofs.ScanLemmas.{all-then, scan-on, Raised, found-sees, drop-twice, take_while-all, open-sees, raised-open, raised-read, scan_from-nil, scan_from-here, scan_from-nothing, verdict-nothing, taken-bounds, cut-so, length-eight, stated-prefix}
use Rattle.std.specs.List.{AllByRecursion, list_all, concat}
use Rattle.std.proofs.lemmas.Bool.{true≢false, cases_Bool, false≢true, cases_lt, and_parts}
use Rattle.std.proofs.lemmas.Grind.{common_steps}
use Rattle.bufr_frame.specs.declared.finder.Candidate.TheVariants.{Stray, Frame}
use Rattle.bufr_frame.specs.declared.fault.Cause.TheVariants.{Cut}
use Rattle.bufr_frame.specs.declared.finder.Event.{Event}
use Rattle.bufr_frame.specs.declared.finder.SearchResult.{SearchResult}
use Rattle.bufr_frame.specs.Finder.{IsSearchResult, ReadsOn, first_left, GivesHeldEvent, ReadsMore, input_left, len_at, IsEventAt}
use Rattle.std.specs.Option.{IfSome}
use Rattle.std.proofs.lemmas.List.Folds.{concat-append, list_all-append}
use Rattle.bufr_frame.specs.declared.finder.Event.TheVariants as event

-- Octets were read, and appended to the buffered ones.
pub record ReadSoFar (left mid : Option (List ℕ)) (old now : List ℕ) : Type 0 where
  pub octets : List ℕ
  pub read : Consumes left mid octets
  pub held : now ≡ old ++ octets

-- One read requests the octets that fit between `filled` and `len`, but at most `most`.
pub asks-once : (most reads reads' held held' free filled len n to : ℕ) → reads' ≡ reads → held' ≡ held + n → free + (filled + n) ≡ len → to ≡ min len (filled + most)
    → to - filled ≡ (reads' + 1 - reads) * min most (free + held' - held)
asks-once most reads reads' held held' free filled len n to made grown fits is =
    let one : reads' + 1 - reads ≡ 1 = omega arith in
    rw one (omega arith)

-- Without a read, no octets are requested.
pub asks-none : (asked reads reads' n : ℕ) → reads' ≡ reads → asked ≡ counted asked ((reads' - reads) * n)
asks-none asked reads reads' n same =
    let none : reads' - reads ≡ 0 = omega arith in
    let nothing : (reads' - reads) * n ≡ 0 = rw none (omega arith) in
    omega arith

-- the gap after a read, and without a read
pub slides-once : (reads reads' held long gap start slid : ℕ) → reads' ≡ reads + 1 → held ≡ long → gap ≡ start → slid ≡ (if nat_le long start then start else 0)
    → start - slid ≡ (if nat_lt reads reads' && nat_le held gap then 0 else gap)
slides-once reads reads' held long gap start slid made same is by =
    let more : nat_lt reads reads' ≡ true = search rules in
    rw (more, same, is, by) (at_once (nat_le long start))
  where
    at_once : (b : Bool) → start - (if b then start else 0) ≡ (if true && b then 0 else start)
    at_once true = omega arith
    at_once false = omega arith

pub slides-none : (reads reads' held gap gap' : ℕ) → reads' ≡ reads → gap' ≡ gap → gap' ≡ (if nat_lt reads reads' && nat_le held gap then 0 else gap)
slides-none reads reads' held gap gap' made same =
    let no_more : nat_lt reads reads' ≡ false = search rules in
    rw no_more same

-- no read, an equal count of reads, and the reads of successive steps
pub adds-none : (reads made : ℕ) → made ≤ max_reads → AddsReads reads reads made made
adds-none reads made most = record { made = (let e : made - made ≡ 0 = omega arith in rw e (sym (counted-none reads))); order = omega arith; most = most }

pub adds-same : (reads reads' before after after' : ℕ) → AddsReads reads reads' before after → after' ≡ after → AddsReads reads reads' before after'
adds-same reads reads' before after after' adds same = grind arith

pub adds-then : (a b c before made after : ℕ) → AddsReads a b before made → AddsReads b c made after → AddsReads a c before after
adds-then a b c before made after one more = record {
  made = more.made ∙ ap (λ n. counted n (after - made)) one.made ∙ counted-counted a (made - before) (after - made)
      ∙ (let e : made - before + (after - made) ≡ after - before = omega (arith, one.order, more.order) in ap (counted a) e);
  order = omega (arith, one.order, more.order);
  most = more.most;
}

-- ---- Parts of a buffer.

-- A part is the end of a prefix.
pub part-prefix : (s : List ℕ) (a b : ℕ) → a ≤ b → slice_range s a b ≡ drop a (take b s)
part-prefix s a b order =
    let e : a + (b - a) ≡ b = omega arith in
    cc (drop-take a (b - a) s)

pub part-drop : (s : List ℕ) (b c n : ℕ) → n ≤ c - b → drop n (slice_range s b c) ≡ slice_range s (b + n) c
part-drop s b c n order =
    let e : c - b ≡ n + (c - (b + n)) = omega arith in
    rw (e, drop-take, drop-twice)

pub part-length : (s : List ℕ) (a b : ℕ) → b ≤ length s → length (slice_range s a b) ≡ b - a
part-length s a b within = omega (arith, length-take (b - a) (drop a s), length-drop a s)

-- A part of the first n octets is unchanged after octets are appended.
pub part-same : (old new : List ℕ) (n a b : ℕ) → take n new ≡ old → a ≤ b → b ≤ n → slice_range new a b ≡ slice_range old a b
part-same old new n a b is order within =
    let same : a + (n - a) ≡ n = omega arith in
    let cut : drop a old ≡ take (n - a) (drop a new) = ap (drop a) (sym is ∙ ap (λ k. take k new) (sym same)) ∙ drop-take a (n - a) new in
    sym (ap (take (b - a)) cut ∙ take-take (b - a) (n - a) (drop a new) (omega arith))

-- A read into a part of the buffer appends its octets to those that were there.
pub after-read : (a b : Option (List ℕ)) (items lent buf post more : List ℕ) (filled to size n : ℕ) → lent ≡ items → size ≡ length items → length buf ≡ length (take (to - filled) (drop filled lent))
    → n ≤ length buf → filled < to → to ≤ size → Consumes a b (take n buf) → (n ≡ 0 → 0 < length buf → IsAtEnd b)
    → (bs : List ℕ) × ReadsOnce a b (take filled items) (take (filled + length bs) (take size (take filled lent ++ (buf ++ post) ++ more))) (Ok n) bs
after-read a b items lent buf post more filled to size n same sizes long fits order within read end =
    let some : length buf ≡ to - filled = omega (arith, long, length-take (to - filled) (drop filled lent), length-drop filled lent, ap length same) in
    let count : n ≡ length (take n buf) = omega (arith, length-take n buf) in
    let start : length (take filled lent) ≡ filled = omega (arith, length-take filled lent, ap length same) in
    let whole = take filled lent ++ (buf ++ post) ++ more in
    let seam : take (filled + n) whole ≡ take filled lent ++ take n (buf ++ (post ++ more)) =
    ap (take (filled + n)) (append_assoc (take filled lent) (buf ++ post) more ∙ ap (λ l. take filled lent ++ l) (append_assoc buf post more))
    ∙ (let at = take-append-add (take filled lent) (buf ++ (post ++ more)) n in rw start at at) in (
      take n buf,
      record {
        read = read;
        held = ap (λ k. take (filled + k) (take size whole)) (sym count)
            ∙ take-take (filled + n) size whole (omega (arith, some)) ∙ seam
            ∙ ap (λ l. take filled lent ++ l) (take-append-le n buf (post ++ more) fits) ∙ ap (λ l. take filled l ++ take n buf) same;
        outcome = (count, λ none. end none (omega (arith, some)));
      },
    )

-- a part that is extended by the octets after it
pub part-append : (s s' bs : List ℕ) (a b n : ℕ) → a ≤ b → b ≤ length s → take (b + n) s' ≡ take b s ++ bs → slice_range s' a (b + n) ≡ slice_range s a b ++ bs
part-append s s' bs a b n order within same = grind (arith, common_steps, part-prefix)

pub empty-of : (l : List ℕ) → length l ≡ 0 → l ≡ []
empty-of [] none = refl
empty-of (x ∷ l) none = absurd (omega arith)

-- ---- Steps of a finder, one after another.

-- two successive steps
pub Advances-then : (e e' : Bool) (at at' at'' : ℕ) (r r' r'' bs : List ℕ) (es es' : List StreamEvent)
    → (e ≡ true → (e' ≡ true) × (bs ≡ []))
    → Advances e at r es at' r' → Advances e' at' (r' ++ bs) es' at'' r'' → Advances e' at (r ++ bs) (es ++ es') at'' r''
Advances-then e e' at at' at'' r r' r'' bs es es' kept one u16_at = search (rules, append_assoc, list_all-append)

pub Advances-none : (e : Bool) (at : ℕ) (r : List ℕ) → Advances e at r [] at r
Advances-none e at r = record { whole = λ t _. refl; decided = λ _. refl }

-- the same, for the octets that each step leaves
pub Follows-then : (at at' at'' : ℕ) (r r' r'' bs : List ℕ) → Follows at r at' r' → Follows at' (r' ++ bs) at'' r'' → Follows at (r ++ bs) at'' r''
Follows-then at at' at'' r r' r'' bs one u16_at =
    let long : length r' ≡ length r - one.passed = ap length one.left ∙ length-drop one.passed r in
    record {
      passed = one.passed + u16_at.passed;
      within = omega (arith, one.within, u16_at.within, long, length-append r bs, length-append r' bs);
      offset = omega (arith, one.offset, u16_at.offset);
      left = u16_at.left ∙ ap (λ l. drop u16_at.passed (l ++ bs)) one.left
          ∙ ap (drop u16_at.passed) (sym (drop-append-le one.passed r bs one.within)) ∙ drop-twice u16_at.passed one.passed (r ++ bs);
    }

pub Follows-none : (at : ℕ) (r : List ℕ) → Follows at r at r
Follows-none at r = record { passed = 0; within = omega arith; offset = omega arith; left = refl }

pub step-none : (left : Option (List ℕ)) (s : FinderModel) → ReadsAndPasses left left s s [] []
step-none left s = grind (arith, append-nil)

module _ (left mid : Option (List ℕ)) (old s s' : FinderModel) (bs : List ℕ) (es : List StreamEvent) where
  -- Events are passed, and nothing is read.
  pub pass-step : (es' : List StreamEvent) → ReadsAndPasses left mid old s bs es → s'.ended ≡ s.ended → s'.reads ≡ s.reads → Advances s'.ended s.at s.rest es' s'.at s'.rest
      → Follows s.at s.rest s'.at s'.rest → ReadsAndPasses left mid old s' bs (es ++ es')
  pass-step es' step same reads goes suffix =
      record {
        read = step.read;
        advances = rw same (rw (append-nil (old.rest ++ bs)) at (Advances-then s.ended s.ended old.at s.at s'.at (old.rest ++ bs) s.rest s'.rest [] es es' (λ end. (end, refl)) step.advances
            (rw (append-nil s.rest) (rw same at goes))));
        follows = rw (append-nil (old.rest ++ bs)) at (Follows-then old.at s.at s'.at (old.rest ++ bs) s.rest s'.rest [] step.follows (rw (append-nil s.rest) suffix));
        kept = λ end. (same ∙ (step.kept end).0, (step.kept end).1, reads ∙ (step.kept end).2);
        end = λ before ended. step.end before (sym same ∙ ended);
      }

  -- Octets are read, and no event is passed.
  pub read-step : (left' : Option (List ℕ)) (result : Result (Unit {0}) RunFault) (bs' : List ℕ) → ReadsAndPasses left mid old s bs es → s.ended ≡ false → ReadsMore mid left' s s' result bs'
      → ReadsAndPasses left left' old s' (bs ++ bs') es
  read-step left' result bs' step going next = grind (arith, common_steps, next.at)

-- the octets that were appended last
event-octets : (before m : List ℕ) (len : ℕ) → len ≤ length m → drop (length (before ++ take len m) - len) (before ++ take len m) ≡ take len m
event-octets before m len within = grind (arith, common_steps)

-- The result of a search carries over to equal octets.
pub shows : (ended ended' : Bool) (rest rest' : List ℕ) (result : SearchResult) → ended ≡ ended' → rest ≡ rest' → IsSearchResult ended rest result → IsSearchResult ended' rest' result
shows ended ended' rest rest' result end same is = rw (sym end) (rw (sym same) is)

-- the length of the octets of an event, as the code computes it
takes-len : (ended : Bool) (rest : List ℕ) (place n : ℕ) (here : Candidate) → IsNextEvent ended rest place (Some here) → IsStatedLength (drop place rest) n
    → len_at here n ≡ candidate_len (drop place rest) (Some here)
takes-len ended rest place n (Stray cause) found stated = refl
takes-len ended rest place n Frame found stated =
    stated.0 ∙ length-eight (drop place rest) (omega (arith, found.frame refl, found.within, length-drop place rest))

module _ (left mid : Option (List ℕ)) (old s s' : FinderModel) (bs : List ℕ) (step : ReadsAndPasses left mid old s bs []) where
  -- A turn that needs more octets passes those in which no event begins.
  pub turn-pass : (place size : ℕ) → s.ended ≡ false → IsIncomplete s.rest place size → s' ≡ gone_to s place size → ReadsAndPasses left mid old s' bs []
  turn-pass place size going open' is =
      pass-step left mid old s s' bs [] [] step (ap (λ x. x.ended) is) (ap (λ x. x.reads) is) (rw is (rw going (open'.advances s.at)))
      (rw is (record { passed = place; within = open'.within; offset = refl; left = refl }))

pub whole-scan : (ended : Bool) (s rest : List ℕ) (events : List StreamEvent) (at : ℕ) → Advances ended 0 s events at rest → scan s ≡ events ++ scan_from 0 at rest
whole-scan ended s rest events at = scan-on ended 0 at s rest events

pub events-are-scan : (s rest : List ℕ) (events : List StreamEvent) (at : ℕ) → Advances true 0 s events at rest → scan_from 0 at rest ≡ [] → scan s ≡ events
events-are-scan s rest events at advances none = whole-scan true s rest events at advances ∙ ap (λ l. events ++ l) none ∙ append-nil events

pub events-are-certain : (s rest : List ℕ) (events : List StreamEvent) (at : ℕ) → Advances false 0 s events at rest → (more : List StreamEvent) × (open_scan s ≡ events ++ more)
events-are-certain s rest events at advances = (
  take_while is_decided (scan_from 0 at rest),
  ap (take_while is_decided) (whole-scan false s rest events at advances) ∙ take_while-all events (scan_from 0 at rest) (advances.decided refl),
)

-- successive steps of a finder
pub steps-compose : (left mid left' : Option (List ℕ)) (old s s' : FinderModel) (bs bs' : List ℕ) (events es : List StreamEvent)
    → ReadsAndPasses left mid old s bs events → ReadsAndPasses mid left' s s' bs' es → ReadsAndPasses left left' old s' (bs ++ bs') (events ++ es)
steps-compose left mid left' old s s' bs bs' events es one u16_at =
    let whole : (old.rest ++ bs) ++ bs' ≡ old.rest ++ (bs ++ bs') = append_assoc old.rest bs bs' in
    record {
      read = Consumes-trans left mid left' bs bs' one.read u16_at.read;
      advances = rw whole at (Advances-then s.ended s'.ended old.at s.at s'.at (old.rest ++ bs) s.rest s'.rest bs' events es (λ end. ((u16_at.kept end).0, (u16_at.kept end).1)) one.advances
          u16_at.advances);
      follows = rw whole at (Follows-then old.at s.at s'.at (old.rest ++ bs) s.rest s'.rest bs' one.follows u16_at.follows);
      kept = λ end.
          let a = one.kept end in
          let b = u16_at.kept a.0 in
          (b.0, ap (λ l. l ++ bs') a.1 ∙ b.1, b.2 ∙ a.2);
      end = λ before. u16_at.end (one.end before);
    }

-- the same, from a new finder
pub ReadsAndPasses-then : (left mid left' : Option (List ℕ)) (s s' : FinderModel) (bs bs' : List ℕ) (events es : List StreamEvent)
    → ReadsAndPasses left mid new_finder s bs events → ReadsAndPasses mid left' s s' bs' es → ReadsAndPasses left left' new_finder s' (bs ++ bs') (events ++ es)
ReadsAndPasses-then left mid left' = steps-compose left mid left' new_finder

-- ---- How a finder advances, turn by turn.

pub none-unless : {A : Type 0} → (x : Option A) → ((a : A) → x ≡ Some a → ⊥) → x ≡ None
none-unless None not = refl
none-unless (Some a) not = absurd (not a refl)

pub some-none : {A : Type 0} → (x : Option A) (a : A) → x ≡ Some a → x ≡ None → ⊥
some-none x a some none = cc

pub waits-open : (old s : FinderModel) (place size : ℕ) → ((s ≡ old) ⊎ NoEventCertain old.at old.rest) → IsIncomplete s.rest place size → NoEventCertain old.at old.rest
waits-open old s place size (inr none) open' = none
waits-open old s place size (inl same) open' =
    rw same at (ap (take_while is_decided) (scan-on false s.at (s.at + place) s.rest (drop place s.rest) [] (open'.advances s.at)) ∙ open'.none (s.at + place))

module _ (left mid : Option (List ℕ)) (old s s1 : FinderModel) (place size : ℕ) (steps : (bs : List ℕ) × ReadsAndPasses left mid old s bs []) (raised : Raised old.longest s.longest s.rest)
    (looks : (s.ended ≡ false) × IsIncomplete s.rest place size × IsStatedLength (drop place s.rest) size) (is : s1 ≡ gone_to s place size) where
  going : s1.ended ≡ false
  going = ap (λ x. x.ended) is ∙ looks.0

  there : ReadsAndPasses left mid old s1 steps.0 []
  there = turn-pass left mid old s s1 steps.0 steps.1 place size looks.0 looks.1 is

  module _ (left' : Option (List ℕ)) (s2 : FinderModel) (result : Result (Unit {0}) RunFault) (next : (bs : List ℕ) × ReadsMore mid left' s1 s2 result bs) where
    -- More octets were read, or the end of the stream was found, or a fault occurred.
    pub turn-on : ReadsAndPasses left left' old s2 (steps.0 ++ next.0) []
    turn-on = read-step left mid old s1 s2 steps.0 [] left' result next.0 there going next.1

    pub raised-on : Raised old.longest s2.longest s2.rest
    raised-on =
        rw next.1.fills.held (rw next.1.longest (raised-read old.longest s1.longest s1.rest next.0 (rw is (raised-open old.longest s.longest place size s.rest raised looks.1 looks.2.0))))

    -- A fault occurred.
    module _ (fault : RunFault) (same : result ≡ Err fault) where
      none-read : (next.0 ≡ []) × (s2.ended ≡ false) × FillFails (s1.room < 2 * max 4096 s1.longest) (input_left s1) (input_left s2) fault
      none-read = rw same at next.1.fills.ends

      rest-is : s2.rest ≡ drop place s.rest
      rest-is = next.1.fills.held ∙ ap (λ l. s1.rest ++ l) none-read.0 ∙ append-nil s1.rest ∙ ap (λ x. x.rest) is

      pub stop-raises : RaisesLongest old s2 (steps.0 ++ next.0) (first_event (scan_from 0 s2.at s2.rest))
      stop-raises =
          rw (ap (λ l. steps.0 ++ l) none-read.0 ∙ append-nil steps.0)
          (open-sees old s s2 steps.0 place size steps.1.follows raised looks.1 looks.2.0 (next.1.at ∙ ap (λ x. x.at) is) rest-is (next.1.longest ∙ ap (λ x. x.longest) is))

-- ---- Several calls of a finder together.

-- No event in the remaining octets is certain, so the events are those of the open scan.
pub events-are-open : (s rest : List ℕ) (events : List StreamEvent) (at : ℕ) → Advances false 0 s events at rest → NoEventCertain at rest → open_scan s ≡ events
events-are-open s rest events at advances none = grind (arith, whole-scan, take_while-all, append-nil)

-- The offset of the event is inside these octets. If the event is certain, eight octets are there.
abbrev Placed : ℕ → List ℕ → StreamEvent → Type 0
Placed at s e = (at ≤ offset_of e) × (is_decided e ≡ true → offset_of e + 8 ≤ at + length s)

abbrev AllPlaced : ℕ → List ℕ → List StreamEvent → Type 0
AllPlaced at s = AllByRecursion (Placed at s)

placed-wider : (at at' : ℕ) (s s' : List ℕ) (es : List StreamEvent) → at ≤ at' → at' + length s' ≤ at + length s → AllPlaced at' s' es → AllPlaced at s es
placed-wider at at' s s' [] low high all = tt
placed-wider at at' s s' (e ∷ es) low high all = ((omega (arith, all.0.0), λ yes. omega arith), placed-wider at at' s s' es low high all.1)

placed-prefix : (at : ℕ) (s : List ℕ) (xs ys : List StreamEvent) → AllPlaced at s (xs ++ ys) → AllPlaced at s xs
placed-prefix at s [] ys all = tt
placed-prefix at s (x ∷ xs) ys all = (all.0, placed-prefix at s xs ys all.1)

placed-first : (at : ℕ) (s : List ℕ) (xs : List StreamEvent) → AllPlaced at s xs → AllPlaced at s (first_event xs)
placed-first at s [] all = tt
placed-first at s (x ∷ xs) all = (all.0, tt)

placed-here : (at : ℕ) (m : List ℕ) (v : Option Candidate) → 8 ≤ length m → AllPlaced at m (stream_event at m v)
placed-here at m v long = grind arith

placed-cut : (at : ℕ) (m : List ℕ) (v : Option Candidate) → v ≡ Some (Stray Cut) → AllPlaced at m (stream_event at m v)
placed-cut at m v is =
    rw is ((omega arith, λ yes. absurd (false≢true yes)), tt)

scan-placed : (n at : ℕ) (s : List ℕ) → length s ≤ n → AllPlaced at s (scan_from 0 at s)
scan-placed n at [] within = search (rules, scan_from-nil)
scan-placed zero at (x ∷ m) within = absurd (omega arith)
scan-placed (suc n) at (x ∷ m) within =
    let s = x ∷ m in
    let P : List StreamEvent → Type 0 = λ l. AllPlaced at s l in
    elim (cases_Bool (has_word_at (codes "BUFR") 0 s)) [
      | inr absent ↦ subst P (sym (scan_from-nothing at x m (verdict-nothing s absent)))
          (placed-wider at (at + 1) s m (scan_from 0 (at + 1) m) (omega arith) (omega arith) (scan-placed n (at + 1) m (omega arith)))
      | inl here ↦
          let k = candidate_len s (classify s) in
          let bounds = taken-bounds s here in
          let more : AllPlaced at s (scan_from 0 (at + k) (drop k s)) =
          placed-wider at (at + k) s (drop k s) (scan_from 0 (at + k) (drop k s)) (omega arith) (omega (arith, length-drop k s, bounds.1))
          (scan-placed n (at + k) (drop k s) (omega (arith, length-drop k s, bounds.0))) in
          let first : AllPlaced at s (stream_event at s (classify s)) = elim (cases_lt (length s) 8) [
            | inl short ↦ placed-cut at s (classify s) (cut-so s here (inl short))
            | inr long ↦ placed-here at s (classify s) long
          ] in
          subst P (sym (scan_from-here at s (omega arith) (omega (arith, bounds.0)))) (all-then (Placed at s) (stream_event at s (classify s)) (scan_from 0 (at + k) (drop k s)) first more)
    ]

-- Octets that follow do not change the length that is declared at a certain event.
here-prefix : (m t : List ℕ) → 8 ≤ length m → stated_or_zero (m ++ t) ≡ stated_or_zero m
here-prefix m t long = length-eight (m ++ t) (omega (arith, length-append m t)) ∙ stated-prefix m t long ∙ sym (length-eight m long)

longest-prefix : (s t : List ℕ) (es : List StreamEvent) → AllPlaced 0 s es → list_all is_decided es ≡ true → longest_of 0 (s ++ t) es ≡ longest_of 0 s es
longest-prefix s t [] all sure = refl
longest-prefix s t (e ∷ es) all sure =
    let both = and_parts (is_decided e) (list_all is_decided es) sure in
    let o = offset_of e - 0 in
    let one : stated_or_zero (drop o (s ++ t)) ≡ stated_or_zero (drop o s) = ap stated_or_zero (drop-append-le o s t (omega arith)) ∙ here-prefix (drop o s) t (omega (arith, length-drop o s)) in
    cc (one, longest-prefix s t es all.1 both.1)

longest-append : (at : ℕ) (s : List ℕ) (xs ys : List StreamEvent) → longest_of at s (xs ++ ys) ≡ max (longest_of at s xs) (longest_of at s ys)
longest-append at s [] ys = omega arith
longest-append at s (x ∷ xs) ys = omega (arith, longest-append at s xs ys)

-- the greatest length for the same events, computed from the first octet on
longest-back : (s : List ℕ) (at : ℕ) (t : List ℕ) (es : List StreamEvent) → AllPlaced at t es → t ≡ drop at s → longest_of at t es ≡ longest_of 0 s es
longest-back s at t [] all is = refl
longest-back s at t (e ∷ es) all is =
    let o = offset_of e in
    let k : at + (o - at) ≡ o - 0 = omega (arith, all.0.0) in
    let one : stated_or_zero (drop (o - at) t) ≡ stated_or_zero (drop (o - 0) s) = cc (is, drop-twice (o - at) at s ∙ ap (λ n. drop n s) k) in
    cc (one, longest-back s at t es all.1 is)

-- the greatest length after another call
more-longest : (s s' : FinderModel) (bs bs' : List ℕ) (events seen : List StreamEvent) (left mid : Option (List ℕ)) → ReadsAndPasses left mid new_finder s bs events
    → s.longest ≡ longest_of 0 bs events
    → (s.ended ≡ true → bs' ≡ []) → AllPlaced s.at (s.rest ++ bs') seen → RaisesLongest s s' bs' seen → s'.longest ≡ longest_of 0 (bs ++ bs') (events ++ seen)
more-longest s s' bs bs' events seen left mid one known kept placed grown =
    grind (arith, common_steps, whole-scan, scan-placed, longest-prefix, placed-prefix, longest-back, longest-append)

pub longest-events : (left mid left' : Option (List ℕ)) (s s' : FinderModel) (bs bs' : List ℕ) (events es : List StreamEvent)
    → ReadsAndPasses left mid new_finder s bs events → s.longest ≡ longest_of 0 bs events → ReadsAndPasses mid left' s s' bs' es → RaisesLongest s s' bs' es
    → s'.longest ≡ longest_of 0 (bs ++ bs') (events ++ es)
longest-events left mid left' s s' bs bs' events es one known u16_at grown =
    let whole = scan-on s'.ended s.at s'.at (s.rest ++ bs') s'.rest es u16_at.advances in
    more-longest s s' bs bs' events es left mid one known (λ end. (u16_at.kept end).1)
    (placed-prefix s.at (s.rest ++ bs') es (scan_from 0 s'.at s'.rest) (rw whole at (scan-placed (length (s.rest ++ bs')) s.at (s.rest ++ bs') (omega arith)))) grown

pub longest-stopped : (left mid left' : Option (List ℕ)) (s s' : FinderModel) (bs bs' : List ℕ) (events : List StreamEvent)
    → ReadsAndPasses left mid new_finder s bs events → s.longest ≡ longest_of 0 bs events → ReadsAndPasses mid left' s s' bs' [] → RaisesLongest s s' bs' (first_event (scan_from 0 s'.at s'.rest))
    → s'.longest ≡ longest_of 0 (bs ++ bs') (events ++ first_event (scan_from 0 s'.at s'.rest))
longest-stopped left mid left' s s' bs bs' events one known u16_at grown =
    let f = u16_at.follows in
    let es = first_event (scan_from 0 s'.at s'.rest) in
    more-longest s s' bs bs' events es left mid one known (λ end. (u16_at.kept end).1)
    (placed-wider s.at s'.at (s.rest ++ bs') s'.rest es (omega (arith, f.offset)) (omega (arith, f.offset, f.within, ap length f.left, length-drop f.passed (s.rest ++ bs')))
    (placed-first s'.at s'.rest (scan_from 0 s'.at s'.rest) (scan-placed (length s'.rest) s'.at s'.rest (omega arith)))) grown

-- ---- The reads of a call, and what was certain before each of them.

wider : (most most' at : ℕ) (left : List ℕ) (given : List (List ℕ)) → most ≤ most' → EachReadIsNeeded most at left given → EachReadIsNeeded most' at left given
wider most most' at left [] more all = tt
wider most most' at left (octets ∷ given) more all = (all.0, omega (arith, all.1), wider most most' at (left ++ octets) given more all.2)

one-more : (most at : ℕ) (left : List ℕ) (given : List (List ℕ)) (last : List ℕ) → EachReadIsNeeded most at left given → NoEventCertain at (left ++ concat given) → length last ≤ most
    → EachReadIsNeeded most at left (given ++ last ∷ [])
one-more most at left [] last all none few = let N : List ℕ → Type 0 = λ l. NoEventCertain at l in (subst N (append-nil left) none, few, tt)
one-more most at left (octets ∷ given) last all none few =
    (all.0, all.1, one-more most at (left ++ octets) given last all.2 (rw (append_assoc left octets (concat given)) none) few)

-- before the first read
pub none-waited : (s : FinderModel) → CallReadsAreNeeded s s []
none-waited s = record { given = []; octets = refl; made = omega arith; waited = tt }

-- No more reads were made.
pub waits-still : (old s s' : FinderModel) (bs : List ℕ) → CallReadsAreNeeded old s bs → s'.reads ≡ s.reads → s.longest ≤ s'.longest → CallReadsAreNeeded old s' bs
waits-still old s s' bs each reads longer = grind (arith, common_steps, wider)

-- If the remaining octets decide no event, neither do the initial octets with all that was read.
none-in-all : (left mid : Option (List ℕ)) (old s : FinderModel) (bs : List ℕ) (place size : ℕ) → ReadsAndPasses left mid old s bs [] → s.ended ≡ false → IsIncomplete s.rest place size
    → NoEventCertain old.at (old.rest ++ bs)
none-in-all left mid old s bs place size step going open' = cc (
  scan-on s.ended old.at s.at (old.rest ++ bs) s.rest [] step.advances
      ∙ scan-on false s.at (s.at + place) s.rest (drop place s.rest) [] (open'.advances s.at),
  open'.none (s.at + place),
)

module _ (left mid : Option (List ℕ)) (old s s1 s2 : FinderModel) (place size : ℕ) (bs : List ℕ) (each : CallReadsAreNeeded old s bs) (step : ReadsAndPasses left mid old s bs [])
    (going : s.ended ≡ false) (open' : IsIncomplete s.rest place size) (is : s1 ≡ gone_to s place size) (bound : held s2 ≤ max 4096 s2.longest)
    (left' : Option (List ℕ)) (result : Result (Unit {0}) RunFault) (bs' : List ℕ) (read : ReadsMore mid left' s1 s2 result bs') where
  longer : s.longest ≤ s2.longest
  longer = omega (arith, ap (λ x. x.longest) is, read.longest)

  -- A read was made.
  waits-more : s2.reads ≡ s1.reads + 1 → CallReadsAreNeeded old s2 (bs ++ bs')
  waits-more reads =
      let most = max 4096 s2.longest in
      record {
        given = each.given ++ bs' ∷ [];
        octets = ap (λ l. l ++ bs') each.octets ∙ ap (λ l. concat each.given ++ l) (sym (append-nil bs')) ∙ sym (concat-append each.given (bs' ∷ []));
        made = omega (arith, ap (λ x. x.reads) is, each.made, length-append each.given (bs' ∷ []));
        waited = one-more most old.at old.rest each.given bs' (wider (max 4096 s.longest) most old.at old.rest each.given (omega (arith, longer)) each.waited)
            (rw each.octets at (none-in-all left mid old s bs place size step going open'))
            (omega (arith, ap length read.fills.held, length-append s1.rest bs'));
      }

  -- The read returned octets, or it failed, or it was not made.
  pub waits-read : CallReadsAreNeeded old s2 (bs ++ bs')
  waits-read = by result read.fills.ends
    where
      none : bs' ≡ [] → s2.reads ≡ s1.reads → CallReadsAreNeeded old s2 (bs ++ bs')
      none nothing same =
          rw (ap (λ l. bs ++ l) nothing ∙ append-nil bs) (waits-still old s s2 bs each (same ∙ ap (λ x. x.reads) is) longer)

      by : (r : Result (Unit {0}) RunFault) → FillEnds (s1.room < 2 * max 4096 s1.longest) (input_left s1) (input_left s2) bs' r → CallReadsAreNeeded old s2 (bs ++ bs')
      by (Ok u) ends = waits-more ends.0
      by (Err Read) ends = waits-more ends.2
      by (Err Write) ends = absurd ends.2
      by (Err InputTooLong) ends = none ends.0 ends.2.0
      by (Err Memory) ends = none ends.0 ends.2.0

-- ---- What a call returns.

-- the event that the finder passes
module _ (old s' : FinderModel) (offset place len size : ℕ) (here : Option Candidate) (found : IsNextEvent old.ended old.rest place here)
    (takes : len ≡ candidate_len (drop place old.rest) here) (at : offset ≡ old.at + place) (is : s' ≡ gone_to old (place + len) size) where
  found-step : Advances s'.ended old.at old.rest (stream_event offset (drop place old.rest) here) s'.at s'.rest
  found-step =
      let k = candidate_len (drop place old.rest) here in
      let far : old.at + place + k ≡ old.at + (place + k) = omega arith in
      rw is (rw takes (rw at (rw far at (found.advances old.at))))

  found-follows : Follows old.at old.rest s'.at s'.rest
  found-follows = rw is (record { passed = place + len; within = omega (arith, found.within); offset = refl; left = refl })

  -- A message that was passed is buffered, before the remaining octets.
  pub found-octets : here ≡ Some Frame → drop (length s'.before - len) s'.before ≡ take (stated_length (drop place old.rest)) (drop place old.rest)
  found-octets whole =
      let m = drop place old.rest in
      let size_is : len ≡ stated_length m = takes ∙ ap (candidate_len m) whole in
      let before : s'.before ≡ old.before ++ take place old.rest ++ take len m =
      ap (λ x. x.before) is ∙ ap (λ l. old.before ++ l) (take-add place len old.rest) ∙ sym (append_assoc old.before (take place old.rest) (take len m)) in
      rw before (event-octets (old.before ++ take place old.rest) m len (omega (arith, found.within, length-drop place old.rest)) ∙ ap (λ n. take n m) size_is)

  -- the reads of the call that passes the event
  pub found-reads : here ≢ None → (left left' : Option (List ℕ)) (first : FinderModel) (bs : List ℕ) → ReadsAndPasses left left' first old bs [] → CallReadsAreNeeded first old bs
      → Raised first.longest old.longest old.rest → size ≡ stated_or_zero (drop place old.rest)
      → ReadsOn left left' first s' (stream_event offset (drop place old.rest) here) (stream_event offset (drop place old.rest) here)
  found-reads some left left' first bs steps each raised stated = (
    bs,
    pass-step left left' first old s' bs [] _ steps (ap (λ x. x.ended) is) (ap (λ x. x.reads) is) found-step found-follows,
    λ _. found-sees first old s' bs offset place size here some steps.follows raised found stated at (ap (λ x. x.longest) is),
    waits-still first old s' bs each (ap (λ x. x.reads) is) (omega (arith, ap (λ x. x.longest) is)),
  )

-- A read was made only if no event was certain.
pub waits-only : (old s s' : FinderModel) → (s ≡ old) ⊎ NoEventCertain old.at old.rest → s'.reads ≡ s.reads → (old.reads ≢ s'.reads → NoEventCertain old.at old.rest)
waits-only old s s' (inl same) reads differ = absurd (differ (sym (reads ∙ ap (λ x. x.reads) same)))
waits-only old s s' (inr none) reads differ = none

-- a call that made the reads, without an earlier fault
pub returns-next : (left left' : Option (List ℕ)) (reads reads' : ℕ) (old new : FinderModel) (result : Result Event RunFault) → old.fault ≡ None
    → ReadsOn left left' old new (events_returned [] result) (events_returned (first_left new) result) → LeavesFinder old new result → AddsReads reads reads' old.reads new.reads
    → (old.reads ≢ new.reads → NoEventCertain old.at old.rest)
    → new.at < 2 ^ 63 → held new ≤ max 4096 new.longest → ReturnsNextEvent left left' reads reads' old new result
returns-next left left' reads reads' old new result sound steps ends counts waits near bound =
    let A : Option RunFault → Type 0 = λ o. IfSome o (λ _. new ≡ old) in
    record { steps = steps; ends = ends; counts = counts; waits = waits; near = near; bound = bound; again = subst A (sym sound) tt }

-- a call after a fault
pub returns-again : (left : Option (List ℕ)) (reads : ℕ) (s : FinderModel) (fault : RunFault) → s.fault ≡ Some fault → s.ended ≡ false → s.reads ≤ max_reads → s.at < 2 ^ 63
    → held s ≤ max 4096 s.longest
    → ReturnsNextEvent left left reads reads s s (Err fault)
returns-again left reads s fault is open' most near bound =
    grind (arith, common_steps, step-none, some-none, adds-none)

-- At the end of the stream, no event remains.
pub raises-none : (old s : FinderModel) (bs : List ℕ) → Raised old.longest s.longest s.rest → (StartsWithBufr s.rest → ⊥) → RaisesLongest old s bs []
raises-none old s bs (inl same) none = omega arith
raises-none old s bs (inr (word, long, grown)) none = absurd (none word)

-- ---- A call of a finder, from its progress so far.

-- Octets were read, no event was passed, and only a `BUFR` at the start may have raised the
-- greatest length.
pub record ReadingOn (left mid : Option (List ℕ)) (reads reads' : ℕ) (first s : FinderModel) : Type 0 where
  pub steps : (bs : List ℕ) × ReadsAndPasses left mid first s bs []
  pub each : CallReadsAreNeeded first s steps.0
  pub counts : AddsReads reads reads' first.reads s.reads
  pub sound : s.fault ≡ None
  pub waits : (s ≡ first) ⊎ NoEventCertain first.at first.rest
  pub raised : Raised first.longest s.longest s.rest

pub reading-fresh : (left : Option (List ℕ)) (reads : ℕ) (s : FinderModel) → s.fault ≡ None → s.reads ≤ max_reads → ReadingOn left left reads reads s s
reading-fresh left reads s sound most = record {
  steps = ([], step-none left s);
  each = none-waited s;
  counts = adds-none reads s.reads most;
  sound = sound;
  waits = inl refl;
  raised = inl refl;
}

module _ (left mid : Option (List ℕ)) (reads reads' : ℕ) (first s : FinderModel) (sound : first.fault ≡ None) (on : ReadingOn left mid reads reads' first s) where
  -- The end of the stream was found.
  pub reading-done : (looks : (s.ended ≡ true) × HasNoFurtherEvent s.rest) → s.at < 2 ^ 63 → held s ≤ max 4096 s.longest → ReturnsNextEvent left mid reads reads' first s (Ok event.Done)
  reading-done looks near bound = search (rules, returns-next, raises-none, waits-only)

  -- the same, for an equal finder
  pub reading-ends : (s' : FinderModel) (looks : (s.ended ≡ true) × HasNoFurtherEvent s.rest) → s' ≡ s → s'.at < 2 ^ 63 → held s' ≤ max 4096 s'.longest
      → ReturnsNextEvent left mid reads reads' first s' (Ok event.Done)
  reading-ends s' looks same near bound = rw same (reading-done looks (rw same at near) (rw same at bound))

  module _ (s' : FinderModel) (place n : ℕ) (here : Candidate) (looks : IsNextEvent s.ended s.rest place (Some here) × IsStatedLength (drop place s.rest) n)
      (gone : s' ≡ gone_to s (place + len_at here n) n)
      (near : s'.at < 2 ^ 63) (bound : held s' ≤ max 4096 s'.longest) where
    abbrev m : List ℕ
    m = drop place s.rest

    takes : len_at here n ≡ candidate_len m (Some here)
    takes = takes-len s.ended s.rest place n here looks.0 looks.1

    abbrev offset : ℕ
    offset = s.at + place

    steps : ReadsOn left mid first s' (stream_event offset m (Some here)) (stream_event offset m (Some here))
    steps = found-reads s s' offset place (len_at here n) n (Some here) looks.0 takes refl gone (λ e. cc) left mid first on.steps.0 on.steps.1 on.each on.raised looks.1.0

    counts : AddsReads reads reads' first.reads s'.reads
    counts = adds-same _ _ _ _ _ on.counts (ap (λ x. x.reads) gone)

    waits : first.reads ≢ s'.reads → NoEventCertain first.at first.rest
    waits = waits-only first s s' on.waits (ap (λ x. x.reads) gone)

    -- The next event is certain.
    pub reading-found : (e : Event) → IsEventAt s' here n e → ReturnsNextEvent left mid reads reads' first s' (Ok e)
    reading-found e is = by here e refl is
      where
        by : (h : Candidate) (e : Event) → here ≡ h → IsEventAt s' h n e → ReturnsNextEvent left mid reads reads' first s' (Ok e)
        by (Stray cause) (event.Frame o octets) is at = absurd at
        by (Stray cause) event.Done is at = absurd at
        by Frame (event.Stray o why) is at = absurd at
        by Frame event.Done is at = absurd at
        by (Stray cause) (event.Stray o why) is at =
            let four = ap (λ h. candidate_len m (Some h)) is in
            let o_is : o ≡ offset = omega (arith, at.0, takes, four, ap (λ x. x.at) gone) in
            let E : List StreamEvent → Type 0 = λ es. ReadsOn left mid first s' es es in
            let steps' = subst E (ap (λ h. stream_event offset m (Some h)) is ∙ ap (λ k. StrayAt k cause ∷ []) (sym o_is) ∙ ap (λ w. StrayAt o w ∷ []) (sym at.1)) steps in
            returns-next left mid reads reads' first s' (Ok (event.Stray o why)) sound steps'
            (ap (λ x. x.fault) gone ∙ on.sound, omega (arith, on.steps.1.follows.offset, looks.0.moves, takes, ap (λ x. x.at) gone), omega (arith, at.0)) counts waits near bound
        by Frame (event.Frame o octets) is at =
            let whole = ap (λ h. candidate_len m (Some h)) is in
            let long = ap (λ h. len_at h n) is in
            let o_is : o ≡ offset = omega (arith, at.0, takes, long, ap (λ x. x.at) gone) in
            let value = ap (λ k. drop (length s'.before - k) s'.before) (sym long) ∙ found-octets s s' offset place (len_at here n) n (Some here) looks.0 takes refl gone (ap Some is) in
            let octets_is : octets.now ≡ take (stated_length m) m = at.1 ∙ value in
            let E : List StreamEvent → Type 0 = λ es. ReadsOn left mid first s' es es in
            let steps' = subst E (ap (λ h. stream_event offset m (Some h)) is ∙ ap (λ k. FrameAt k (take (stated_length m) m) ∷ []) (sym o_is) ∙ ap (λ l. FrameAt o l ∷ []) (sym octets_is)) steps in
            let size = ap length octets_is in
            let short = length-take (stated_length m) m in
            let rest = length-drop place s.rest in
            returns-next left mid reads reads' first s' (Ok (event.Frame o octets)) sound steps' (
              ap (λ x. x.fault) gone ∙ on.sound,
              omega (arith, on.steps.1.follows.offset, looks.0.moves, takes, ap (λ x. x.at) gone),
              omega (arith, size, short, takes, whole, looks.0.within, rest, looks.0.frame (ap Some is)),
              omega (arith, size, short, takes, whole, looks.0.within, rest, at.0, long),
              omega (
                arith,
                size,
                short,
                takes,
                whole,
                looks.0.within,
                rest,
                ap (λ x. length x.before) gone,
                length-append s.before (take (place + len_at here n) s.rest),
                length-take (place + len_at here n) s.rest,
              ),
            ) counts waits near bound

  module _ (s1 : FinderModel) (place n : ℕ) (looks : (s.ended ≡ false) × IsIncomplete s.rest place n × IsStatedLength (drop place s.rest) n) (is : s1 ≡ gone_to s place n) where
    module _ (left' : Option (List ℕ)) (reads2 : ℕ) (s2 : FinderModel) (result : Result (Unit {0}) RunFault) (bs : List ℕ) (more : ReadsMore mid left' s1 s2 result bs)
        (made : AddsReads reads' reads2 s1.reads s2.reads)
        (bound : held s2 ≤ max 4096 s2.longest) where
      adds : AddsReads reads reads2 first.reads s2.reads
      adds = adds-then _ _ _ _ _ _ (adds-same _ _ _ _ _ on.counts (ap (λ x. x.reads) is)) made

      -- More octets were read.
      pub reading-on : (u : Unit {0}) → result ≡ Ok u → ReadingOn left left' reads reads2 first s2
      reading-on u ok = record {
        steps = (on.steps.0 ++ bs, turn-on left mid first s s1 place n on.steps on.raised looks is left' s2 result (bs, more));
        each = waits-read left mid first s s1 s2 place n on.steps.0 on.each on.steps.1 looks.0 looks.1 is bound left' result bs more;
        counts = adds;
        sound = rw ok at more.fault;
        waits = inr (waits-open first s place n on.waits looks.1);
        raised = raised-on left mid first s s1 place n on.steps on.raised looks is left' s2 result (bs, more);
      }

      -- The read failed, or none was made.
      module _ (f : RunFault) (fails : result ≡ Err f) (near : s2.at < 2 ^ 63) (room : first.room ≤ s.room) where
        ends : (bs ≡ []) × (s2.ended ≡ false) × FillFails (s1.room < 2 * max 4096 s1.longest) (input_left s1) (input_left s2) f
        ends = rw fails at more.fills.ends

        undecided : IsUndecided s2 f
        undecided =
            let rest : s2.rest ≡ drop place s.rest = more.fills.held ∙ ap (λ l. s1.rest ++ l) ends.0 ∙ append-nil s1.rest ∙ ap (λ x. x.rest) is in
            ((rw fails at more.fault), ends.1, rw rest looks.1.none)

        stops : StopsFinder first s2 f
        stops = by f refl undecided ends.2
          where
            by : (g : RunFault) → f ≡ g → IsUndecided s2 g → FillFails (s1.room < 2 * max 4096 s1.longest) (input_left s1) (input_left s2) g → StopsFinder first s2 g
            by Read is' so e = so
            by Write is' so e = absurd e
            by InputTooLong is' so e = (so, e.1, more.long (fails ∙ ap Err is'))
            by Memory is' so e = (so, e.1, omega (arith, e.2, room, ap (λ x. x.room) is, more.longest))

        open-before : first.ended ≡ false
        open-before = elim (cases_Bool first.ended) [ inl e ↦ absurd (true≢false (sym (on.steps.1.kept e).0 ∙ looks.0)) | inr o ↦ o ]

        pub reading-stops : ReturnsNextEvent left left' reads reads2 first s2 (Err f)
        reading-stops =
            returns-next left left' reads reads2 first s2 (Err f) sound (
              on.steps.0 ++ bs,
              turn-on left mid first s s1 place n on.steps on.raised looks is left' s2 result (bs, more),
              (λ _. stop-raises left mid first s s1 place n on.steps on.raised looks is left' s2 result (bs, more) f fails),
              waits-read left mid first s s1 s2 place n on.steps.0 on.each on.steps.1 looks.0 looks.1 is bound left' result bs more,
            ) (open-before, λ _. stops) adds (λ _. waits-open first s place n on.waits looks.1) near bound

-- The count of failures depends on the fault only, not on what a successful call returns.
pub failures-as : {X Y : Type 0} (a b c : ℕ) (r : Result X RunFault) (r' : Result Y RunFault) (f : RunFault) → r ≡ Err f → r' ≡ Err f → a ≡ read_failures_after b r → b ≡ c
    → a ≡ read_failures_after c r'
failures-as {X} {Y} a b c r r' f is is' e same = rw is' (subst (λ n. a ≡ read_failures_after {X = Y} n (Err f)) same (by f (rw is at e)))
  where
    by : (g : RunFault) → a ≡ read_failures_after {X = X} b (Err g) → a ≡ read_failures_after {X = Y} b (Err g)
    by Read e = e
    by Write e = e
    by InputTooLong e = e
    by Memory e = e

-- ---- What the buffered octets give, without a read.

pub held-done : (old new : FinderModel) → old.fault ≡ None → (old.ended ≡ true) × HasNoFurtherEvent old.rest → new ≡ old → new.at < 2 ^ 63 → held new ≤ max 4096 new.longest → old.reads ≤ max_reads
    → GivesHeldEvent old new (Some (Ok event.Done))
held-done old new sound looks same near bound most = search (rules, reading-ends, reading-fresh)

pub held-found : (old new : FinderModel) (place n : ℕ) (here : Candidate) (e : Event) → old.fault ≡ None → IsNextEvent old.ended old.rest place (Some here) × IsStatedLength (drop place old.rest) n
    → new ≡ gone_to old (place + len_at here n) n
    → new.at < 2 ^ 63 → held new ≤ max 4096 new.longest → old.reads ≤ max_reads → IsEventAt new here n e → GivesHeldEvent old new (Some (Ok e))
held-found old new place n here e sound looks gone near bound most is = (
  sound,
  λ left reads.
      reading-found left left reads reads old old sound (reading-fresh left reads old sound most) new place n here looks gone near bound e is,
)
