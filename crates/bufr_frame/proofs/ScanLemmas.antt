-- How a scan continues, and what the octets that follow cannot change.
use Rattle.std.proofs.Common.{◌≡◌, ℕ, zero, suc, ◌+◌, ◌-◌, ◌<◌, ◌≤◌, Bool, true, false, List, [], ◌∷◌, ◌++◌, length, take, drop, codes, refl, sym, ◌∙◌, ap, subst, arith, add-zero, length-take, length-drop, Option, Some, None, ◌⊎◌, inl, inr, append_assoc, length-append, get_or, append-nil, below_more, MatchOption, nat_lt, not, ◌≢◌, if◌then◌else◌, take_while, min, max, slice_index, rules}
use Rattle.std.proofs.Math.Seq.{drop-nil, drop-length}
use Rattle.std.proofs.lemmas.Bool.{false_from_ne_true, true≢false, cases_Bool, cases_lt, and_parts}
use Rattle.std.proofs.lemmas.Slice.Eq.{bytes_eq-Decides}
use Rattle.std.proofs.lemmas.Grind.{common_steps}
use Rattle.memchr.specs.Find.{OccursAt, FindsNeedle, Nowhere}
use Rattle.memchr.proofs.lemmas.MatchLemmas.{OccursAt-from_part, OccursAt-part}
use Rattle.bufr_frame.specs.Prelude.{Candidate, scan_from, classify, has_word_at, stated_length, stream_event, candidate_len, StreamEvent, scan, open_scan, is_decided, Advances, NoEventCertain, stated_or_zero, longest_of, first_event, FrameAt, StrayAt, StartsWithBufr, IsNextEvent, IsIncomplete, HasNoFurtherEvent, FinderModel, Follows, RaisesLongest, max_octets}
use Rattle.bufr_frame.specs.declared.finder.Candidate.TheVariants.{Stray, Frame}
use Rattle.bufr_frame.specs.declared.fault.Cause.TheVariants.{Cut, ShortLength, NoEnd}
use Rattle.std.specs.List.{list_all, prefix_len, AllByRecursion}
use Rattle.std.proofs.lemmas.Bool.Decides.{nat_tests}
use Rattle.std.proofs.lemmas.List.{get_or-drop, get_or_append_left, take-append-le, drop-append-le}
use Rattle.std.proofs.lemmas.List.Folds.{list_all-append}

pub scan_from-nil : (k at : ℕ) → scan_from k at [] ≡ []
unfolding scan_from
scan_from-nil k at = refl

-- Octets that are skipped are dropped.
pub scan_from-skip : (k at : ℕ) (m : List ℕ) → scan_from k at m ≡ scan_from 0 (at + k) (drop k m)
unfolding scan_from
scan_from-skip k at [] = rw drop-nil refl
scan_from-skip zero at (x ∷ m) = rw add-zero refl
scan_from-skip (suc k) at (x ∷ m) = scan_from-skip k (at + 1) m ∙ ap (λ n. scan_from 0 n (drop k m)) (omega arith)

one-on : (k at x : ℕ) (m : List ℕ) → 0 < k → scan_from 0 (at + 1 + (k - 1)) (drop (k - 1) m) ≡ scan_from 0 (at + k) (drop k (x ∷ m))
one-on zero at x m goes = absurd (omega arith)
one-on (suc k) at x m goes = let e : suc k - 1 ≡ k = omega arith in rw e (ap (λ n. scan_from 0 n (drop k m)) (omega arith))

-- the first event, and the scan after it
pub scan_from-here : (at : ℕ) (m : List ℕ) → 0 < length m → 0 < candidate_len m (classify m)
    → scan_from 0 at m ≡ stream_event at m (classify m) ++ scan_from 0 (at + candidate_len m (classify m)) (drop (candidate_len m (classify m)) m)
unfolding scan_from
scan_from-here at [] some _ = absurd (omega arith)
scan_from-here at (x ∷ m) some goes = grind (arith, scan_from-skip, one-on)

-- If no event begins here, the scan continues at the next octet.
pub scan_from-nothing : (at x : ℕ) (m : List ℕ) → classify (x ∷ m) ≡ None → scan_from 0 at (x ∷ m) ≡ scan_from 0 (at + 1) m
unfolding scan_from
scan_from-nothing at x m nothing = grind arith

-- No event begins at the first k indices.
pub scan_from-past : (k at : ℕ) (m : List ℕ) → k ≤ length m → ((j : ℕ) → j < k → classify (drop j m) ≡ None) → scan_from 0 at m ≡ scan_from 0 (at + k) (drop k m)
scan_from-past zero at m within none = rw add-zero refl
scan_from-past (suc k) at [] within none = absurd (omega arith)
scan_from-past (suc k) at (x ∷ m) within none =
    scan_from-nothing at x m (none 0 (omega arith))
    ∙ scan_from-past k (at + 1) m (omega arith) (λ j below. none (suc j) (omega arith))
    ∙ ap (λ n. scan_from 0 n (drop k m)) (omega arith)

-- Without `BUFR`, no event begins.
pub verdict-nothing : (m : List ℕ) → has_word_at (codes "BUFR") 0 m ≡ false → classify m ≡ None
verdict-nothing m absent = rw absent refl

pub verdict-elsewhere : (s : List ℕ) (j : ℕ) → (OccursAt s (codes "BUFR") j → ⊥) → classify (drop j s) ≡ None
verdict-elsewhere s j absent = verdict-nothing (drop j s) (false_from_ne_true _ (λ yes.
    let same : take 4 (drop j s) ≡ codes "BUFR" = (bytes_eq-Decides (take 4 (drop j s)) (codes "BUFR")).0 yes in
    absent (OccursAt-from_part s (codes "BUFR") j (omega (arith, length-take {A = ℕ}, length-drop {A = ℕ}, ap length same)) same)))

pub drop-twice : (a b : ℕ) (s : List ℕ) → drop a (drop b s) ≡ drop (b + a) s
drop-twice a b s = grind (arith, common_steps)

-- what a search for `BUFR` implies for the scan
pub scan_from-found : (s : List ℕ) (r : Option ℕ) → FindsNeedle s (codes "BUFR") 0 r → (at : ℕ) → MatchOption r (scan_from 0 at s ≡ []) (λ k. scan_from 0 at s ≡ scan_from 0 (at + k) (drop k s))
scan_from-found s None found at =
    scan_from-past (length s) at s (omega arith) (λ j below. verdict-elsewhere s j (found j (omega arith) (omega arith)))
    ∙ rw drop-length (scan_from-nil 0 (at + length s))
scan_from-found s (Some k) found at =
    scan_from-past k at s (omega (arith, found.1.fits)) (λ j below. verdict-elsewhere s j (found.0.before j (omega arith) below))

-- the event at an index, and the scan after it
pub scan_from-prefix : (s : List ℕ) (at place k : ℕ) → place < length s → k ≡ candidate_len (drop place s) (classify (drop place s)) → 0 < k
    → scan_from 0 at (drop place s) ≡ stream_event at (drop place s) (classify (drop place s)) ++ scan_from 0 (at + k) (drop (place + k) s)
scan_from-prefix s at place k within is goes = grind (arith, scan_from-here, length-drop, drop-twice)

-- ---- Octets that follow do not change what was certain.

pub holds-prefix : (text : List ℕ) (p : ℕ) (m t : List ℕ) → p + 4 ≤ length m → has_word_at text p (m ++ t) ≡ has_word_at text p m
holds-prefix text p m t long = grind (arith, common_steps, drop-append-le, take-append-le, length-drop)

pub stated-prefix : (m t : List ℕ) → 8 ≤ length m → stated_length (m ++ t) ≡ stated_length m
stated-prefix m t long = grind (arith, common_steps, get_or_append_left)

-- A certain result is the same, whatever octets follow.
verdict-prefix : (m t : List ℕ) → 8 ≤ length m → stated_length m ≤ length m → classify (m ++ t) ≡ classify m
verdict-prefix m t long whole =
    let a : has_word_at (codes "BUFR") 0 (m ++ t) ≡ has_word_at (codes "BUFR") 0 m = omega (arith, holds-prefix) in
    let l : stated_length (m ++ t) ≡ stated_length m = stated-prefix m t long in
    let b : nat_lt (length (m ++ t)) 8 ≡ nat_lt (length m) 8 = grind (arith, length-append) in
    let c : nat_lt (length (m ++ t)) (stated_length m) ≡ nat_lt (length m) (stated_length m) = grind (arith, length-append) in
    let d : has_word_at (codes "7777") (stated_length m - 4) (m ++ t) ≡ has_word_at (codes "7777") (stated_length m - 4) m = omega (arith, holds-prefix) in
    cc

nothing-prefix : (m t : List ℕ) (j : ℕ) → j + 4 ≤ length m → (OccursAt m (codes "BUFR") j → ⊥) → classify (drop j (m ++ t)) ≡ None
nothing-prefix m t j long absent =
    verdict-elsewhere (m ++ t) j (λ occurs. absent (record {
      fits = long;
      reads = λ i below. sym (get_or_append_left m t 0 (j + i) (omega arith)) ∙ occurs.reads i below;
    }))

-- No event begins at the first k indices, whatever octets follow.
past-prefix : (k : ℕ) (m t : List ℕ) → ((j : ℕ) → j < k → j + 4 ≤ length m) → k ≤ length m → ((j : ℕ) → j < k → OccursAt m (codes "BUFR") j → ⊥)
    → (at : ℕ) → scan_from 0 at (m ++ t) ≡ scan_from 0 (at + k) (drop k m ++ t)
past-prefix k m t long within absent at = cc (
  scan_from-past k at (m ++ t) (omega (arith, length-append m t)) (λ j below. nothing-prefix m t j (long j below) (absent j below)),
  drop-append-le k m t within,
)

chain : (a b c d : Bool) → Option Candidate
chain a b c d = if a then Some (Stray Cut) else if b then Some (Stray Cut) else if c then Some (Stray ShortLength) else if d then Some (Stray NoEnd) else Some Frame

chain-bounds : (a b c d : Bool) (m : List ℕ) → 4 ≤ length m → (b ≡ false → stated_length m ≤ length m) → (c ≡ false → 12 ≤ stated_length m)
    → (4 ≤ candidate_len m (chain a b c d)) × (candidate_len m (chain a b c d) ≤ length m)
unfolding chain
chain-bounds a b c d m four whole least = grind arith

chain-decided : (c d : Bool) (at : ℕ) (m : List ℕ) → list_all is_decided (stream_event at m (chain false false c d)) ≡ true
unfolding chain
chain-decided true d at m = refl
chain-decided false true at m = refl
chain-decided false false at m = refl

chain-cut : (b c d : Bool) → chain true b c d ≡ Some (Stray Cut)
unfolding chain
chain-cut b c d = refl

chain-cut-second : (a c d : Bool) → chain a true c d ≡ Some (Stray Cut)
unfolding chain
chain-cut-second true c d = refl
chain-cut-second false c d = refl

is-chain : (m : List ℕ) → has_word_at (codes "BUFR") 0 m ≡ true → classify m
    ≡ chain (nat_lt (length m) 8) (nat_lt (length m) (stated_length m)) (nat_lt (stated_length m) 12) (not (has_word_at (codes "7777") (stated_length m - 4) m))
unfolding chain
is-chain m here = rw here refl

pub four-long : (m : List ℕ) → has_word_at (codes "BUFR") 0 m ≡ true → 4 ≤ length m
four-long m here = grind arith

pub taken-bounds : (m : List ℕ) → has_word_at (codes "BUFR") 0 m ≡ true → (4 ≤ candidate_len m (classify m)) × (candidate_len m (classify m) ≤ length m)
taken-bounds m here = grind arith

chain-frame : (a b c d : Bool) → chain a b c d ≡ Some Frame → c ≡ false
unfolding chain
chain-frame true b c d is = cc
chain-frame false true c d is = cc
chain-frame false false true d is = cc
chain-frame false false false d is = refl

-- A message has at least 12 octets.
frame-long : (m : List ℕ) → has_word_at (codes "BUFR") 0 m ≡ true → classify m ≡ Some Frame → 12 ≤ stated_length m
frame-long m here is = grind arith

pub certain : (m : List ℕ) (at : ℕ) → has_word_at (codes "BUFR") 0 m ≡ true → 8 ≤ length m → stated_length m ≤ length m → list_all is_decided (stream_event at m (classify m)) ≡ true
certain m at here long whole = grind arith

happening-prefix : (at : ℕ) (m t : List ℕ) (v : Option Candidate) → 8 ≤ length m → stated_length m ≤ length m → stream_event at (m ++ t) v ≡ stream_event at m v
happening-prefix at m t v long whole = search (rules, stated-prefix, take-append-le)

taken-prefix : (m t : List ℕ) (v : Option Candidate) → 8 ≤ length m → candidate_len (m ++ t) v ≡ candidate_len m v
taken-prefix m t None long = refl
taken-prefix m t (Some (Stray cause)) long = refl
taken-prefix m t (Some Frame) long = stated-prefix m t long

-- the first event, whatever octets follow
pub found-prefix : (m t : List ℕ) (at : ℕ) → has_word_at (codes "BUFR") 0 m ≡ true → 8 ≤ length m → stated_length m ≤ length m
    → scan_from 0 at (m ++ t) ≡ stream_event at m (classify m) ++ scan_from 0 (at + candidate_len m (classify m)) (drop (candidate_len m (classify m)) m ++ t)
found-prefix m t at here long whole =
    let bounds = taken-bounds m here in
    let v : classify (m ++ t) ≡ classify m = verdict-prefix m t long whole in
    let k : candidate_len (m ++ t) (classify (m ++ t)) ≡ candidate_len m (classify m) = ap (candidate_len (m ++ t)) v ∙ taken-prefix m t (classify m) long in
    let h : stream_event at (m ++ t) (classify (m ++ t)) ≡ stream_event at m (classify m) = ap (stream_event at (m ++ t)) v ∙ happening-prefix at m t (classify m) long whole in
    cc (scan_from-here at (m ++ t) (omega (arith, length-append m t)) (rw k (omega (arith, bounds.0))), h, k, drop-append-le (candidate_len m (classify m)) m t bounds.1)

pub holds-there : (s : List ℕ) (j : ℕ) → OccursAt s (codes "BUFR") j → has_word_at (codes "BUFR") 0 (drop j s) ≡ true
holds-there s j occurs = (bytes_eq-Decides (take 4 (drop j s)) (codes "BUFR")).1 (OccursAt-part s (codes "BUFR") j occurs)

-- The code's comparison shows that `BUFR` is not at this index.
pub absent-there : (s m : List ℕ) (place : ℕ) (b : Bool) → m ≡ drop place s → b ≡ has_word_at (codes "BUFR") 0 m → b ≡ false → OccursAt s (codes "BUFR") place → ⊥
absent-there s m place b is so differs occurs = true≢false (sym (so ∙ ap (has_word_at (codes "BUFR") 0) is ∙ holds-there s place occurs) ∙ differs)

-- `BUFR` is at this index, and not before it.
pub first-there : (s : List ℕ) (place : ℕ) → Nowhere (OccursAt s (codes "BUFR")) 0 place → has_word_at (codes "BUFR") 0 (drop place s) ≡ true → FindsNeedle s (codes "BUFR") 0 (Some place)
first-there s place before here =
    let same : take 4 (drop place s) ≡ codes "BUFR" = (bytes_eq-Decides (take 4 (drop place s)) (codes "BUFR")).0 here in
    let occurs = OccursAt-from_part s (codes "BUFR") place (omega (arith, length-take {A = ℕ}, length-drop {A = ℕ}, ap length same)) same in
    (record { low = omega arith; high = omega (arith, occurs.fits); before = before }, occurs)

-- `BUFR` is not at this index, and not before it.
pub nowhere-more : (s : List ℕ) (place : ℕ) → Nowhere (OccursAt s (codes "BUFR")) 0 place → (OccursAt s (codes "BUFR") place → ⊥) → Nowhere (OccursAt s (codes "BUFR")) 0 (place + 1)
nowhere-more s place before here k low below = below_more (λ j. OccursAt s (codes "BUFR") j → ⊥) place (λ j less. before j (omega arith) less) here k below

-- an index after `near`, counted from there and from 0
occurs-after : (s : List ℕ) (near k : ℕ) → OccursAt s (codes "BUFR") (near + k) → OccursAt (drop near s) (codes "BUFR") k
occurs-after s near k occurs = record {
  fits = omega (arith, occurs.fits, length-drop near s);
  reads = λ j below. get_or-drop near s (k + j) 0 ∙ ap (λ n. get_or s n 0) (omega arith) ∙ occurs.reads j below;
}

occurs-before : (s : List ℕ) (near k : ℕ) → OccursAt (drop near s) (codes "BUFR") k → OccursAt s (codes "BUFR") (near + k)
occurs-before s near k occurs = record {
  fits = omega (arith, occurs.fits, length-drop near s);
  reads = λ j below. ap (λ n. get_or s n 0) (omega arith) ∙ sym (get_or-drop near s (k + j) 0) ∙ occurs.reads j below;
}

-- `BUFR` is not at the first `near` indices, nor at the `far` indices after them.
nowhere-after : (s : List ℕ) (near far : ℕ) → Nowhere (OccursAt s (codes "BUFR")) 0 near → Nowhere (OccursAt (drop near s) (codes "BUFR")) 0 far → Nowhere (OccursAt s (codes "BUFR")) 0 (near + far)
nowhere-after s near far before suffix k low below occurs = elim (cases_lt k near) [
  | inl less ↦ before k (omega arith) less occurs
  | inr more ↦
      suffix (k - near) (omega arith) (omega arith) (occurs-after s near (k - near) (subst (OccursAt s (codes "BUFR")) (omega arith) occurs))
]

pub found-after : (s m : List ℕ) (near k : ℕ) → m ≡ drop near s → Nowhere (OccursAt s (codes "BUFR")) 0 near → FindsNeedle m (codes "BUFR") 0 (Some k)
    → FindsNeedle s (codes "BUFR") 0 (Some (near + k))
found-after s m near k is before found =
    let there = rw is at found in
    let here = occurs-before s near k there.1 in
    (record { low = omega arith; high = omega (arith, here.fits); before = nowhere-after s near k before there.0.before }, here)

pub none-after : (s m : List ℕ) (near : ℕ) → m ≡ drop near s → near ≤ length s → Nowhere (OccursAt s (codes "BUFR")) 0 near → FindsNeedle m (codes "BUFR") 0 None → FindsNeedle s (codes "BUFR") 0 None
none-after s m near is within before none =
    let N : ℕ → Type 0 = λ n. Nowhere (OccursAt s (codes "BUFR")) 0 n in
    subst N (omega (arith, length-drop near s)) (nowhere-after s near (length (drop near s) + 1) before (rw is at none))

-- the indices before the first `BUFR`
to-first : (s : List ℕ) (place : ℕ) → FindsNeedle s (codes "BUFR") 0 (Some place) → (t : List ℕ) (at : ℕ) → scan_from 0 at (s ++ t) ≡ scan_from 0 (at + place) (drop place s ++ t)
to-first s place found t at =
    past-prefix place s t (λ j below. omega (arith, found.1.fits)) (omega (arith, found.1.fits)) (λ j below. found.0.before j (omega arith) below) at

-- The octets begin with `BUFR`, in terms of the code's search.
pub word-occurs : (s : List ℕ) → StartsWithBufr s → OccursAt s (codes "BUFR") 0
word-occurs s here =
    let same : take 4 (drop 0 s) ≡ codes "BUFR" = (bytes_eq-Decides (take 4 (drop 0 s)) (codes "BUFR")).0 here in
    OccursAt-from_part s (codes "BUFR") 0 (omega (arith, length-take {A = ℕ}, ap length same)) same

-- If the octets begin with `BUFR`, its first index is 0.
first-prefix : (s : List ℕ) (place : ℕ) → FindsNeedle s (codes "BUFR") 0 (Some place) → StartsWithBufr s → place ≡ 0
first-prefix s zero found here = refl
first-prefix s (suc k) found here = absurd (found.0.before 0 (omega arith) (omega arith) (word-occurs s here))

-- The next event is at the first `BUFR`, if the scan advances past it.
next-so : (ended : Bool) (s : List ℕ) (place : ℕ) → FindsNeedle s (codes "BUFR") 0 (Some place)
    → ((at : ℕ) → Advances ended at s (stream_event (at + place) (drop place s) (classify (drop place s))) (at + place + candidate_len (drop place s) (classify (drop place s)))
    (drop (place + candidate_len (drop place s) (classify (drop place s))) s))
    → IsNextEvent ended s place (classify (drop place s))
next-so ended s place found advances =
    let here = holds-there s place found.1 in
    let bounds = taken-bounds (drop place s) here in
    record {
      is = refl;
      frame = frame-long (drop place s) here;
      moves = bounds.0;
      within = omega (arith, found.1.fits, bounds.1, length-drop place s);
      first = first-prefix s place found;
      advances = advances;
    }

pub found-so : (ended : Bool) (s : List ℕ) (place : ℕ) → FindsNeedle s (codes "BUFR") 0 (Some place)
    → 8 ≤ length (drop place s) → stated_length (drop place s) ≤ length (drop place s) → IsNextEvent ended s place (classify (drop place s))
found-so ended s place found long whole =
    let m = drop place s in
    let here = holds-there s place found.1 in
    next-so ended s place found (λ at. record {
      whole = λ t _. to-first s place found t at ∙ found-prefix m t (at + place) here long whole
          ∙ ap (λ l. stream_event (at + place) m (classify m) ++ scan_from 0 (at + place + candidate_len m (classify m)) (l ++ t)) (drop-twice (candidate_len m (classify m)) place s);
      decided = λ _. certain m (at + place) here long whole;
    })

-- At the end of the stream, no octets follow.
pub found-so-end : (s : List ℕ) (place : ℕ) → FindsNeedle s (codes "BUFR") 0 (Some place) → IsNextEvent true s place (classify (drop place s))
found-so-end s place found =
    let bounds = taken-bounds (drop place s) (holds-there s place found.1) in
    next-so true s place found (λ at. record {
      whole = λ t none.
          rw (none refl) (rw (append-nil, append-nil) (scan_from-found s (Some place) found at ∙ scan_from-prefix s (at + place) place (candidate_len (drop place s) (classify (drop place s)))
          (omega (arith, found.1.fits)) refl (omega (arith, bounds.0))));
      decided = λ going. absurd (true≢false going);
    })

none-cut : (at : ℕ) (m : List ℕ) → 0 < length m → classify m ≡ Some (Stray Cut) → NoEventCertain at m
none-cut at m some cut =
    let goes : 0 < candidate_len m (Some (Stray Cut)) = omega arith in
    ap (take_while is_decided) (scan_from-here at m some (rw cut goes)) ∙ rw cut refl

pub cut-so : (m : List ℕ) → has_word_at (codes "BUFR") 0 m ≡ true → ((length m < 8) ⊎ (length m < stated_length m)) → classify m ≡ Some (Stray Cut)
cut-so m here (inl short) = grind arith
cut-so m here (inr short) = grind arith

pub length-eight : (m : List ℕ) → 8 ≤ length m → stated_or_zero m ≡ stated_length m
length-eight m long = let a : nat_lt (length m) 8 ≡ false = grind arith in rw a refl

-- `BUFR`, with too few octets after it
pub cut-here : (m : List ℕ) (size : ℕ) → StartsWithBufr m → size ≡ stated_or_zero m → length m < max 8 size → classify m ≡ Some (Stray Cut)
cut-here m size here is few = grind arith

-- More octets are needed after the first `BUFR`.
pub open-so : (s : List ℕ) (place size : ℕ) → FindsNeedle s (codes "BUFR") 0 (Some place) → size ≡ stated_or_zero (drop place s) → length (drop place s) < max 8 size → IsIncomplete s place size
open-so s place size found is few =
    let m = drop place s in
    let here = holds-there s place found.1 in
    record {
      within = omega (arith, found.1.fits);
      first = first-prefix s place found;
      few = few;
      here = inr here;
      advances = λ at. record { whole = λ t _. to-first s place found t at; decided = λ _. refl };
      none = λ at. none-cut at m (omega (arith, found.1.fits, length-drop place s)) (cut-here m size here is few);
    }

-- There is no `BUFR` yet, but the last three octets may begin one.
pub none-so : (s : List ℕ) → FindsNeedle s (codes "BUFR") 0 None → IsIncomplete s (length s - min (length s) 3) 0
none-so s found =
    let k = length s - min (length s) 3 in
    let moved : (t : List ℕ) (at : ℕ) → scan_from 0 at (s ++ t) ≡ scan_from 0 (at + k) (drop k s ++ t) =
    λ t at. past-prefix k s t (λ j below. omega arith) (omega arith) (λ j below. found j (omega arith) (omega arith)) at in
    let short : length (drop k s) < 4 = omega (arith, length-drop k s) in
    record {
      within = omega arith;
      first = λ here. absurd (found 0 (omega arith) (omega arith) (word-occurs s here));
      few = omega (arith, short);
      here = inl short;
      advances = λ at. record { whole = λ t _. moved t at; decided = λ _. refl };
      none = λ at. ap (take_while is_decided) (scan_from-found (drop k s) None (λ j _ _ occurs. absurd (omega (arith, occurs.fits))) at);
    }

-- The last three octets declare no length.
pub none-stated : (s : List ℕ) → 0 ≡ stated_or_zero (drop (length s - min (length s) 3) s)
none-stated s = grind (arith, common_steps, length-drop, nat_tests)

pub end-so : (s : List ℕ) → FindsNeedle s (codes "BUFR") 0 None → HasNoFurtherEvent s
end-so s found = record {
  scan = scan_from-found s None found;
  word = λ here. found 0 (omega arith) (omega arith) (word-occurs s here);
}

-- the same, as the code computes it
pub found-at-end : (ended : Bool) (s m : List ℕ) (place : ℕ) (v : Option Candidate) → FindsNeedle s (codes "BUFR") 0 (Some place) → ended ≡ true
    → m ≡ drop place s → v ≡ classify m → IsNextEvent ended s place v
found-at-end ended s m place v found end is here =
    rw end (rw (here ∙ ap classify is) (found-so-end s place found))

pub found-whole : (ended : Bool) (s m : List ℕ) (place size : ℕ) (v : Option Candidate) → FindsNeedle s (codes "BUFR") 0 (Some place)
    → size ≡ stated_or_zero m → 8 ≤ length m → size ≤ length m → m ≡ drop place s → v ≡ classify m → IsNextEvent ended s place v
found-whole ended s m place size v found states long whole is here =
    let size_is : size ≡ stated_length m = states ∙ length-eight m long in
    rw (here ∙ ap classify is) (found-so ended s place found (rw is at long) (rw is at (rw size_is at whole)))

-- the certain events of a stream, and where they end
pub record Certain (at : ℕ) (s : List ℕ) : Type 0 where
  pub events : List StreamEvent
  pub at' : ℕ
  pub rest : List ℕ
  pub advances : Advances false at s events at' rest
  pub none : NoEventCertain at' rest

-- Fewer than four octets contain no `BUFR`.
short-none : (at : ℕ) (s : List ℕ) → length s < 4 → NoEventCertain at s
short-none at s short = cc (scan_from-found s None (λ j _ _ occurs. absurd (omega (arith, occurs.fits))) at)

stays : (at : ℕ) (s : List ℕ) → NoEventCertain at s → Certain at s
stays at s none = record { events = []; at' = at; rest = s; advances = record { whole = λ t _. refl; decided = λ _. refl }; none = none }

-- events, followed by the certain events of the remaining octets
after : (at at1 : ℕ) (s s1 : List ℕ) (es : List StreamEvent) → Advances false at s es at1 s1 → Certain at1 s1 → Certain at s
after at at1 s s1 es one c = record {
  events = es ++ c.events;
  at' = c.at';
  rest = c.rest;
  advances = record {
    whole = λ t none. one.whole t none ∙ ap (λ l. es ++ l) (c.advances.whole t none) ∙ sym (append_assoc es c.events (scan_from 0 c.at' (c.rest ++ t)));
    decided = λ going. list_all-append is_decided es c.events ∙ rw (one.decided going, c.advances.decided going) refl;
  };
  none = c.none;
}

certain-within : (n at : ℕ) (s : List ℕ) → length s ≤ n → Certain at s
certain-within zero at s within = stays at s (short-none at s (omega arith))
certain-within (suc n) at [] within = stays at [] (short-none at [] (omega arith))
certain-within (suc n) at (x ∷ m) within =
    elim (cases_lt (length (x ∷ m)) 4) [
      | inl short ↦ stays at (x ∷ m) (short-none at (x ∷ m) short)
      | inr long ↦ elim (cases_Bool (has_word_at (codes "BUFR") 0 (x ∷ m))) [
        | inr absent ↦ after at (at + 1) (x ∷ m) m [] (record {
          whole = λ t _. scan_from-nothing at x (m ++ t) (verdict-nothing (x ∷ (m ++ t)) (holds-prefix (codes "BUFR") 0 (x ∷ m) t long ∙ absent));
          decided = λ _. refl;
        }) (certain-within n (at + 1) m (omega arith))
        | inl here ↦ elim (cases_lt (length (x ∷ m)) 8) [
          | inl short ↦ stays at (x ∷ m) (none-cut at (x ∷ m) (omega arith) (cut-so (x ∷ m) here (inl short)))
          | inr eight ↦ elim (cases_lt (length (x ∷ m)) (stated_length (x ∷ m))) [
            | inl short ↦ stays at (x ∷ m) (none-cut at (x ∷ m) (omega arith) (cut-so (x ∷ m) here (inr short)))
            | inr whole ↦ after at (at + candidate_len (x ∷ m) (classify (x ∷ m))) (x ∷ m) (drop (candidate_len (x ∷ m) (classify (x ∷ m))) (x ∷ m)) (stream_event at (x ∷ m) (classify (x ∷ m)))
                (record {
                  whole = λ t _. found-prefix (x ∷ m) t at here eight whole;
                  decided = λ _. certain (x ∷ m) at here eight whole;
                }) (certain-within n (at + candidate_len (x ∷ m) (classify (x ∷ m))) (drop (candidate_len (x ∷ m) (classify (x ∷ m))) (x ∷ m))
                (omega (arith, length-drop (candidate_len (x ∷ m) (classify (x ∷ m))) (x ∷ m), (taken-bounds (x ∷ m) here).0)))
          ]
        ]
      ]
    ]

-- A scan gives the events that were passed, then those of the remaining octets.
pub scan-on : (ended : Bool) (at at' : ℕ) (s rest : List ℕ) (events : List StreamEvent) → Advances ended at s events at' rest → scan_from 0 at s ≡ events ++ scan_from 0 at' rest
scan-on ended at at' s rest events advances = cc (append-nil s, advances.whole [] (λ _. refl), append-nil rest)

pub take_while-all : (xs ys : List StreamEvent) → list_all is_decided xs ≡ true → take_while is_decided (xs ++ ys) ≡ xs ++ take_while is_decided ys
take_while-all [] ys all = refl
take_while-all (x ∷ xs) ys all =
    let both : (is_decided x ≡ true) × (list_all is_decided xs ≡ true) = and_parts (is_decided x) (list_all is_decided xs) all in
    let one : 1 + prefix_len is_decided (xs ++ ys) ≡ suc (prefix_len is_decided (xs ++ ys)) = omega arith in
    rw (both.0, one) (ap (λ l. x ∷ l) (take_while-all xs ys both.1))

-- The certain events are a prefix of the scan, whatever octets follow.
pub open-prefix : (s t : List ℕ) → (more : List StreamEvent) × (scan (s ++ t) ≡ open_scan s ++ more)
open-prefix s t =
    let c = certain-within (length s) 0 s (omega arith) in
    let whole : scan s ≡ c.events ++ scan_from 0 c.at' c.rest = scan-on false 0 c.at' s c.rest c.events c.advances in
    let open' : open_scan s ≡ c.events = ap (take_while is_decided) whole ∙ take_while-all c.events (scan_from 0 c.at' c.rest) (c.advances.decided refl) ∙ ap (λ l. c.events ++ l) c.none
    ∙ append-nil c.events in
    (scan_from 0 c.at' (c.rest ++ t), c.advances.whole t (λ end. absurd (true≢false (sym end))) ∙ ap (λ l. l ++ scan_from 0 c.at' (c.rest ++ t)) (sym open'))

-- ---- The greatest declared length.

max-none : (n : ℕ) → max n 0 ≡ n
max-none n = omega arith

-- The greatest length is still `old`, or it was raised by the length that a `BUFR` at the start
-- declares.
abbrev pub Raised : (old now : ℕ) → List ℕ → Type 0
Raised old now rest = (now ≡ old) ⊎ (StartsWithBufr rest × (8 ≤ length rest) × (now ≡ max old (stated_length rest)))

-- If the length at the first `BUFR` is taken into account, an earlier raise makes no difference.
pub raise : (a b place size : ℕ) (rest : List ℕ) → Raised a b rest → (StartsWithBufr rest → place ≡ 0) → size ≡ stated_or_zero (drop place rest) → max b size ≡ max a size
raise a b place size rest (inl same) first is = ap (λ n. max n size) same
raise a b place size rest (inr (word, long, grown)) first is = grind arith

-- This still holds after octets are appended.
pub raised-read : (a b : ℕ) (rest bs : List ℕ) → Raised a b rest → Raised a b (rest ++ bs)
raised-read a b rest bs (inl same) = inl same
raised-read a b rest bs (inr (word, long, grown)) = inr (
  holds-prefix (codes "BUFR") 0 rest bs (omega arith) ∙ word,
  omega (arith, length-append rest bs),
  grown ∙ ap (max a) (sym (stated-prefix rest bs long)),
)

pub short-here : (m : List ℕ) → length m < 8 → stated_or_zero m ≡ 0
short-here m short = let a : nat_lt (length m) 8 ≡ true = grind arith in rw a refl

-- It still holds after the finder advances to where more octets are needed.
pub raised-open : (a b place size : ℕ) (rest : List ℕ) → Raised a b rest → IsIncomplete rest place size → size ≡ stated_or_zero (drop place rest) → Raised a (max b size) (drop place rest)
raised-open a b place size rest before open' is =
    let m = drop place rest in
    let grown : max b size ≡ max a size = raise a b place size rest before open'.first is in
    elim (cases_lt (length m) 8) [
      | inl short ↦ inl (grown ∙ (let z : size ≡ 0 = is ∙ short-here m short in omega (arith, z)))
      | inr long ↦ elim open'.here [
        | inl four ↦ absurd (omega (arith, four, long))
        | inr word ↦ inr (word, long, grown ∙ ap (max a) (is ∙ length-eight m long))
      ]
    ]

-- the greatest length of a single event
longest-event : (at : ℕ) (s : List ℕ) (m : List ℕ) (offset : ℕ) (here : Option Candidate) → here ≢ None → longest_of at s (stream_event offset m here) ≡ stated_or_zero (drop (offset - at) s)
longest-event at s m offset here some = search (rules, max-none)

-- an index in the remaining octets, as an index in all octets
place-in : (at at' place offset : ℕ) (s rest : List ℕ) → Follows at s at' rest → offset ≡ at' + place → drop (offset - at) s ≡ drop place rest
place-in at at' place offset s rest follows is = grind (arith, drop-twice)

-- An event is passed.
pub found-sees : (old s s' : FinderModel) (bs : List ℕ) (offset place size : ℕ) (here : Option Candidate) → here ≢ None → Follows old.at (old.rest ++ bs) s.at s.rest
    → Raised old.longest s.longest s.rest
    → IsNextEvent s.ended s.rest place here → size ≡ stated_or_zero (drop place s.rest) → offset ≡ s.at + place → s'.longest ≡ max s.longest size
    → RaisesLongest old s' bs (stream_event offset (drop place s.rest) here)
found-sees old s s' bs offset place size here some follows raised found is at grown =
    cc (
      grown,
      raise old.longest s.longest place size s.rest raised found.first is,
      is ∙ ap stated_or_zero (sym (place-in old.at s.at place offset (old.rest ++ bs) s.rest follows at)) ∙ sym (longest-event old.at (old.rest ++ bs) (drop place s.rest) offset here some),
    )

-- The first remaining event is not certain.
first-open : (at old_at size : ℕ) (m s : List ℕ) → drop (at - old_at) s ≡ m → ((length m < 4) ⊎ StartsWithBufr m) → size ≡ stated_or_zero m → length m < max 8 size
    → longest_of old_at s (first_event (scan_from 0 at m)) ≡ size
first-open at old_at size m s there (inl short) is few =
    let none : scan_from 0 at m ≡ [] = scan_from-found m None (λ j _ _ occurs. absurd (omega (arith, occurs.fits))) at in
    ap (λ l. longest_of old_at s (first_event l)) none ∙ sym (is ∙ short-here m (omega arith))
first-open at old_at size m s there (inr word) is few = grind (arith, cut-here, four-long, scan_from-here, max-none, four-long m word)

-- The finder stops where the first remaining event is not certain.
pub open-sees : (old s s' : FinderModel) (bs : List ℕ) (place size : ℕ) → Follows old.at (old.rest ++ bs) s.at s.rest → Raised old.longest s.longest s.rest
    → IsIncomplete s.rest place size → size ≡ stated_or_zero (drop place s.rest) → s'.at ≡ s.at + place → s'.rest ≡ drop place s.rest → s'.longest ≡ max s.longest size
    → RaisesLongest old s' bs (first_event (scan_from 0 s'.at s'.rest))
open-sees old s s' bs place size follows raised open' is at left grown =
    grown ∙ raise old.longest s.longest place size s.rest raised open'.first is
    ∙ ap (max old.longest) (sym (rw left (first-open s'.at old.at size (drop place s.rest) (old.rest ++ bs) (place-in old.at s.at place s'.at (old.rest ++ bs) s.rest follows at) open'.here is
    open'.few)))

-- ---- The octets of the frames of a stream.

abbrev pub IsOctet : ℕ → Type 0
IsOctet c = c < 256

-- A message consists of octets, no more than its length can declare.
abbrev pub IsSmall : StreamEvent → Type 0
IsSmall (FrameAt offset octets) = AllByRecursion IsOctet octets × (length octets ≤ max_octets)
IsSmall (StrayAt offset cause) = Unit {0}

octet-at : (m : List ℕ) (i : ℕ) → AllByRecursion IsOctet m → slice_index m i < 256
octet-at [] i all = omega arith
octet-at (c ∷ m) zero all = all.0
octet-at (c ∷ m) (suc i) all = octet-at m i all.1

all-take : (n : ℕ) (m : List ℕ) → AllByRecursion IsOctet m → AllByRecursion IsOctet (take n m)
all-take zero m all = tt
all-take (suc n) [] all = tt
all-take (suc n) (c ∷ m) all = (all.0, all-take n m all.1)

pub all-then : {X : Type 0} (P : X → Type 0) (xs ys : List X) → AllByRecursion P xs → AllByRecursion P ys → AllByRecursion P (xs ++ ys)
all-then P [] ys one two = two
all-then P (x ∷ xs) ys one two = (one.0, all-then P xs ys one.1 two)

small-here : (at : ℕ) (m : List ℕ) (v : Option Candidate) → AllByRecursion IsOctet m → AllByRecursion IsSmall (stream_event at m v)
small-here at m v all = grind (arith, common_steps)

-- Each message in a stream of octets satisfies `IsSmall`.
pub small-frames : (skip at : ℕ) (m : List ℕ) → AllByRecursion IsOctet m → AllByRecursion IsSmall (scan_from skip at m)
unfolding scan_from
small-frames skip at [] all = tt
small-frames (suc skip) at (c ∷ m) all = small-frames skip (at + 1) m all.1
small-frames zero at (c ∷ m) all =
    let v = classify (c ∷ m) in
    all-then IsSmall (stream_event at (c ∷ m) v) (scan_from (candidate_len (c ∷ m) v - 1) (at + 1) m) (small-here at (c ∷ m) v all) (small-frames (candidate_len (c ∷ m) v - 1) (at + 1) m all.1)

-- the total length of all messages among these events
abbrev pub framed_octets : List StreamEvent → ℕ
framed_octets [] = 0
framed_octets (FrameAt offset octets ∷ more) = length octets + framed_octets more
framed_octets (StrayAt offset cause ∷ more) = framed_octets more

framed-then : (es more : List StreamEvent) → framed_octets (es ++ more) ≡ framed_octets es + framed_octets more
framed-then [] more = omega arith
framed-then (FrameAt offset octets ∷ es) more = omega (arith, framed-then es more)
framed-then (StrayAt offset cause ∷ es) more = framed-then es more

framed-here : (at : ℕ) (m : List ℕ) (v : Option Candidate) → framed_octets (stream_event at m v) ≤ candidate_len m v
framed-here at m None = omega arith
framed-here at m (Some (Stray cause)) = omega arith
framed-here at m (Some Frame) = omega (arith, length-take (stated_length m) m)

-- At least one octet is taken, and no more than there are.
taken-within : (c : ℕ) (m : List ℕ) → (0 < candidate_len (c ∷ m) (classify (c ∷ m))) × (candidate_len (c ∷ m) (classify (c ∷ m)) ≤ length (c ∷ m))
taken-within c m = by (has_word_at (codes "BUFR") 0 (c ∷ m)) refl
  where
    P : Option Candidate → Type 0
    P v = (0 < candidate_len (c ∷ m) v) × (candidate_len (c ∷ m) v ≤ length (c ∷ m))

    by : (b : Bool) → has_word_at (codes "BUFR") 0 (c ∷ m) ≡ b → P (classify (c ∷ m))
    by true here = let bounds = taken-bounds (c ∷ m) here in (omega (arith, bounds.0), bounds.1)
    by false absent = subst P (sym (verdict-nothing (c ∷ m) absent)) (omega arith, omega arith)

-- Together, the messages of a stream are no longer than the stream.
pub frames-within : (skip at : ℕ) (m : List ℕ) → framed_octets (scan_from skip at m) ≤ length m - skip
unfolding scan_from
frames-within skip at [] = omega arith
frames-within (suc skip) at (c ∷ m) = omega (arith, frames-within skip (at + 1) m)
frames-within zero at (c ∷ m) =
    let v = classify (c ∷ m) in
    let bounds = taken-within c m in
    omega (arith, bounds.0, bounds.1, framed-then, framed-here, frames-within ((candidate_len (c ∷ m) v) - 1) (at + 1) m)
