-- Worked examples of a `BUFR` that does not begin a message. Each bound is shown from both sides.
-- If two causes meet, the example shows which one is reported.
use Rattle.std.proofs.Common.{◌≡◌, ℕ, ◌-◌, List, [], ◌∷◌, ◌++◌, refl, take, replicate, codes, slice_set}
use Rattle.bufr_frame.specs.Prelude.{StreamEvent, FrameAt, StrayAt, scan, scan_from, stated_or_zero}
use Rattle.bufr_frame.specs.declared.fault.Cause.TheVariants.{Cut, ShortLength, NoEnd}

-- section 0 with a declared length under 256
section_0 : ℕ → List ℕ
section_0 stated = codes "BUFR" ++ 0 ∷ 0 ∷ stated ∷ 4 ∷ []

-- octets with a declared length, the last four of which are `7777`
frame : (stated octets : ℕ) → List ℕ
unfolding section_0
frame stated octets = section_0 stated ++ replicate (octets - 12) 0 ++ codes "7777"

-- the events of a stream
events : List ℕ → List StreamEvent
unfolding scan_from
events s = scan s

-- All four octets of `BUFR` must match.
-- rule: first-bufr
words-found :
    (events (codes "BUF") ≡ [])
    × (events (codes "BUFR") ≡ StrayAt 0 Cut ∷ [])
    × (events (codes "BUFr") ≡ [])
    × (events (codes "bUFR") ≡ [])
    × (events (codes "BUBUFR") ≡ StrayAt 2 Cut ∷ [])
unfolding events
words-found = (refl, refl, refl, refl, refl)

-- From `BUFR` on, there must be eight octets, and as many as the length declares.
-- rule: stray-cut
cut-octets :
    (events (take 7 (section_0 8)) ≡ StrayAt 0 Cut ∷ [])
    × (events (take 7 (section_0 7)) ≡ StrayAt 0 Cut ∷ [])
    × (events (section_0 8) ≡ StrayAt 0 ShortLength ∷ [])
    × (events (frame 20 20) ≡ FrameAt 0 (frame 20 20) ∷ [])
    × (events (frame 21 20) ≡ StrayAt 0 Cut ∷ [])
    × (events (codes "x" ++ frame 20 20) ≡ FrameAt 1 (frame 20 20) ∷ [])
    × (events (codes "x" ++ frame 21 20) ≡ StrayAt 1 Cut ∷ [])
unfolding events section_0 frame
cut-octets = (refl, refl, refl, refl, refl, refl, refl)

-- 12 octets are enough. 11 are not, even if they end with `7777`.
-- rule: stray-short-length
least-message :
    (events (frame 12 12) ≡ FrameAt 0 (frame 12 12) ∷ [])
    × (events (codes "BUFR" ++ 0 ∷ 0 ∷ 11 ∷ codes "7777") ≡ StrayAt 0 ShortLength ∷ [])
    × (events (section_0 0) ≡ StrayAt 0 ShortLength ∷ [])
unfolding events section_0 frame
least-message = (refl, refl, refl)

-- Each octet of `7777` must match, in its place.
-- rule: stray-no-end
ends :
    (events (slice_set (frame 20 20) 16 54) ≡ StrayAt 0 NoEnd ∷ [])
    × (events (slice_set (frame 20 20) 17 54) ≡ StrayAt 0 NoEnd ∷ [])
    × (events (slice_set (frame 20 20) 18 56) ≡ StrayAt 0 NoEnd ∷ [])
    × (events (slice_set (frame 20 20) 19 56) ≡ StrayAt 0 NoEnd ∷ [])
    × (events (frame 20 21) ≡ StrayAt 0 NoEnd ∷ [])
    × (events (frame 20 20 ++ codes "7") ≡ FrameAt 0 (frame 20 20) ∷ [])
    × (events (frame 21 20 ++ codes "7") ≡ FrameAt 0 (frame 21 20 ++ codes "7") ∷ [])
unfolding events section_0 frame
ends = (refl, refl, refl, refl, refl, refl, refl)

-- A length is declared only if all eight octets are there.
lengths-stated :
    (stated_or_zero (take 7 (section_0 8)) ≡ 0)
    × (stated_or_zero (section_0 8) ≡ 8)
unfolding section_0
lengths-stated = (refl, refl)

-- ---- Two causes: cut, then short length, then no end.

-- rule: order-of-causes
cut-before-short-length :
    (events (take 7 (section_0 7)) ≡ StrayAt 0 Cut ∷ [])
    × (events (section_0 11 ++ codes "ab") ≡ StrayAt 0 Cut ∷ [])
unfolding events section_0
cut-before-short-length = (refl, refl)

-- rule: order-of-causes
cut-before-no-end :
    (events (section_0 13 ++ codes "7776") ≡ StrayAt 0 Cut ∷ [])
    × (events (section_0 12 ++ codes "7776") ≡ StrayAt 0 NoEnd ∷ [])
unfolding events section_0
cut-before-no-end = (refl, refl)

-- rule: order-of-causes
short-length-before-no-end :
    (events (section_0 11 ++ codes "abcd") ≡ StrayAt 0 ShortLength ∷ [])
    × (events (section_0 12 ++ codes "abcd") ≡ StrayAt 0 NoEnd ∷ [])
unfolding events section_0
short-length-before-no-end = (refl, refl)

-- ---- The search continues four octets after the start of a stray, and after the end of a frame.

-- A `BUFR` can begin within the first eight octets of a stray.
-- rule: after-a-stray
search-after-strays :
    (events (codes "BUFRBUFR") ≡ StrayAt 0 Cut ∷ StrayAt 4 Cut ∷ [])
    × (events (codes "BUFR" ++ 0 ∷ 0 ∷ 5 ∷ codes "BUFR") ≡ StrayAt 0 ShortLength ∷ StrayAt 7 Cut ∷ [])
    × (events (codes "BUFR" ++ 0 ∷ 0 ∷ 12 ∷ codes "BUFRx") ≡ StrayAt 0 NoEnd ∷ StrayAt 7 Cut ∷ [])
unfolding events
search-after-strays = (refl, refl, refl)

-- rule: after-a-stray, frame
search-goes-on :
    -- A `BUFR` is found inside the declared length of a stray, but not inside a frame.
    (events (section_0 20 ++ section_0 8) ≡ StrayAt 0 Cut ∷ StrayAt 8 ShortLength ∷ [])
    × (events (section_0 20 ++ section_0 8 ++ codes "7777") ≡ FrameAt 0 (section_0 20 ++ section_0 8 ++ codes "7777") ∷ [])
    × (events (frame 12 12 ++ frame 12 12) ≡ FrameAt 0 (frame 12 12) ∷ FrameAt 12 (frame 12 12) ∷ [])
unfolding events section_0 frame
search-goes-on = (refl, refl, refl)
