-- How a text is parsed from line feed to line feed, and the effects of the steps of a reader.
use Rattle.bufr_text.proofs.LineLemmas.{both, lines-cons, lines-none}
use Rattle.std.proofs.Common.{◌≡◌, ℕ, ◌+◌, ◌<◌, ◌≤◌, ◌==◌, nat_lt, not, Bool, true, false, List, [], ◌∷◌, ◌++◌, length, refl, sym, ap, ◌∙◌, arith, append_assoc, append-nil, length-append, subst, if◌then◌else◌, ◌⊎◌, inl, inr, zero, suc, ◌&&◌, take, drop, Option, Some, None, ◌-◌, length-drop, Result, Ok, Err, OnErr, slice_index}
use Rattle.std.proofs.lemmas.Bool.Decides.{nat_tests}
use Rattle.bufr_bits.proofs.DecimalLemmas.{and_first, and_second}
use Rattle.bufr_text.specs.Prelude.{blank, Line, Skipped, ItemLine, EndLine, Invalid, line_of, ParserState, Between, Heading, BeforeSubsets, Filling, Stopped, LineEffect, Continues, Completes, Refuses, Parsing, LineStep, between, ParseResult, Refused, NotAllowed, line_step, read_line, parse_lines, parsing_after, reported_at, reported_at_end, lines_of, Split, onto_split, split_of, parse_open_lines, documents_of, open_documents_of, Document, with_entry, has_no_feed, ReaderPosition, parse, parse_open, ContinuesParse, ReaderModel, KeepsUnread, IsMissingFeed, ReadsLines, TakesWholeLines, position_of, parsing_of, IsParsing, IsLineStep, position_with, TakesLines, IsTaking, WantsAt, adds, ends_by_feed, IsProgress, IsReader, ParsesHeldLines, WantsHere, stopped, text_of_lines, ReadFault}
use Rattle.std.proofs.lemmas.Bool.{true≢false}
use Rattle.memchr.specs.Find.{IsFirstByte, is_byte}
use Rattle.std.proofs.lemmas.List.{take_at, drop-drop}
use Rattle.bufr_fill.specs.Prelude.{DraftValue, DraftEntry, draft, Holds}
use Rattle.std.specs.List.{onto_first, AllByRecursion}
use Rattle.std.proofs.lemmas.Grind.{common_steps, flat_map-append}
use Rattle.bufr_text.specs.declared.document.Progress.{Progress}
use Rattle.bufr_text.proofs.HeaderLemmas.{line_step-holds, said-sound}
use Rattle.bufr_frame.specs.Prelude.{InputModel}
use Rattle.bufr_text.specs.declared.fault.ReadFault.TheVariants as fault

-- This is the index of the first line feed, or there is no line feed.
abbrev pub FeedAt : List ℕ → Option ℕ → Type 0
FeedAt held None = has_no_feed held ≡ true
FeedAt held (Some parsing) = (parsing < length held) × (has_no_feed (take parsing held) ≡ true)
    × (held ≡ take parsing held ++ 10 ∷ drop (parsing + 1) held)

-- The effect of the end of input if no line is buffered.
abbrev pub HandlesEnd : ReaderModel → ReaderModel → Result (Option Document) ReadFault → Type 0
HandlesEnd old new (Ok None) = (new ≡ old) × (new.held ≡ []) × (parse (position_of new) [] ≡ [])
HandlesEnd old new (Err (fault.Line line why)) =
    ParsesHeldLines old new (Refused line why ∷ [])
    × (new.fault ≡ Some (fault.Line line why)) × (new.ended ≡ old.ended) × (new.reads ≡ old.reads)
HandlesEnd old new result = ⊥

-- After a fault, nothing is reported.
stays-stopped : (at : ℕ) (d : Document) (meaning : Line) → line_step at (Stopped, d) meaning ≡ (Continues Stopped, d)
unfolding line_step
stays-stopped at d Skipped = refl
stays-stopped at d meaning = refl

pub stopped-reports : (at : ℕ) (d : Document) (lines : List (List ℕ)) → parse_lines at (Stopped, d) lines ≡ []
unfolding parse_lines
stopped-reports at d [] = refl
stopped-reports at d (line ∷ lines) = rw (stays-stopped at d (read_line line)) (stopped-reports (at + 1) d lines)

pub stopped-reports-openly : (at : ℕ) (d : Document) (lines : List (List ℕ)) (rest : List ℕ) → parse_open_lines at (Stopped, d) lines rest ≡ []
unfolding parse_open_lines
stopped-reports-openly at d [] rest = by-length (nat_lt 4096 (length rest))
  where
    by-length : (b : Bool) → (if b then reported_at at (line_step at (Stopped, d) Invalid) else []) ≡ []
    by-length true = ap (reported_at at) (stays-stopped at d Invalid)
    by-length false = refl
stopped-reports-openly at d (line ∷ lines) rest = rw (stays-stopped at d (read_line line)) (stopped-reports-openly (at + 1) d lines rest)

-- ---- Lines that are buffered with their line feeds.

no-feed-first : (c : ℕ) → not (c == 10) ≡ true → (c == 10) ≡ false
no-feed-first c h = grind arith

pub line-held : (line t : List ℕ) → has_no_feed line ≡ true → lines_of (line ++ 10 ∷ t) ≡ line ∷ lines_of t
line-held [] t h = lines-cons 10 t
line-held (c ∷ line) t h =
    rw (lines-cons c (line ++ 10 ∷ t), no-feed-first c (and_first (not (c == 10)) (has_no_feed line) h), line-held line t (and_second (not (c == 10)) (has_no_feed line) h)) refl

split-octet : (c : ℕ) (t : List ℕ) (s : Split) → (c == 10) ≡ false → split_of t ≡ s → split_of (c ∷ t) ≡ onto_split c s.whole s.rest
unfolding split_of
split-octet c t s h e = cc (e)

pub line-split : (line t : List ℕ) → has_no_feed line ≡ true → split_of (line ++ 10 ∷ t) ≡ record { whole = line ∷ (split_of t).whole; rest = (split_of t).rest }
unfolding split_of
line-split [] t h = refl
line-split (c ∷ line) t h =
    split-octet c (line ++ 10 ∷ t) (record { whole = line ∷ (split_of t).whole; rest = (split_of t).rest }) (no-feed-first c (and_first (not (c == 10)) (has_no_feed line) h))
    (line-split line t (and_second (not (c == 10)) (has_no_feed line) h))

abbrev openly-from : ℕ → Parsing → Split → List ParseResult
openly-from at parsing s = parse_open_lines at parsing s.whole s.rest

pub takes-line : (at : ℕ) (parsing : Parsing) (line rest : List ℕ) (ended : Bool) → has_no_feed line ≡ true
    → let here = line_step at parsing (read_line line) in
    ContinuesParse (record { at = at; parsing = parsing; held = line ++ 10 ∷ rest; ended = ended }) (record { at = at + 1; parsing = parsing_after here; held = rest; ended = ended })
    (reported_at at here)
unfolding parse_lines parse_open_lines
takes-line at parsing line rest ended h1 = grind (arith, append_assoc, line-held, line-split)

still-open : (b c : Bool) → (b ≡ true → c ≡ true) → c ≡ false → b ≡ false
still-open true c kept unended = sym (kept refl) ∙ unended
still-open false c kept unended = refl

-- If parsing continues in two steps, the results of both are reported.
pub goes-further : (a b c : ReaderPosition) (x y : List ParseResult) → (b.ended ≡ true → c.ended ≡ true) → ContinuesParse a b x → ContinuesParse b c y → ContinuesParse a c (x ++ y)
goes-further a b c x y h1 h2 h3 = grind (arith, common_steps)

pub stays : (a : ReaderPosition) → ContinuesParse a a []
stays a = record { whole = λ t none. refl; openly = λ unended t. refl }

-- ---- A line that is too long is rejected before its end is known.

onto-some : (c : ℕ) (ls : List (List ℕ)) → (more : List ℕ) × (rest : List (List ℕ)) × (onto_first c ls ≡ (c ∷ more) ∷ rest)
onto-some c [] = ([], [], refl)
onto-some c (line ∷ ls) = (line, ls, refl)

onto-line : (c : ℕ) (t : List ℕ) → (c == 10) ≡ false → lines_of (c ∷ t) ≡ onto_first c (lines_of t)
onto-line c t h = rw (lines-cons c t, h) refl

long-first : (held t : List ℕ) → has_no_feed held ≡ true → 0 < length held → (more : List ℕ) × (rest : List (List ℕ)) × (lines_of (held ++ t) ≡ (held ++ more) ∷ rest)
long-first [] t h some = absurd (omega arith)
long-first (c ∷ []) t h some =
    let (more, rest, e) = onto-some c (lines_of t) in
    (more, rest, onto-line c t (no-feed-first c (and_first (not (c == 10)) true h)) ∙ e)
long-first (c ∷ d ∷ held) t h some =
    let (more, rest, e) = long-first (d ∷ held) t (and_second (not (c == 10)) (has_no_feed (d ∷ held)) h) (omega arith) in
    (more, rest, onto-line c ((d ∷ held) ++ t) (no-feed-first c (and_first (not (c == 10)) (has_no_feed (d ∷ held)) h)) ∙ ap (onto_first c) e)

-- The parser has not stopped at a fault.
abbrev pub Reads : ParserState → Type 0
Reads Stopped = ⊥
Reads other = Unit {0}

pub wrong-faults : (at : ℕ) (parsing : Parsing) → Reads parsing.0 → line_step at parsing Invalid ≡ (Refuses NotAllowed, parsing.1)
unfolding line_step
wrong-faults at (Stopped, d) r = absurd r
wrong-faults at parsing r = refl

-- The first line begins with these octets. If there is no whole line, the incomplete line does.
LongSplit : List ℕ → Split → Type 0
LongSplit held s = (more : List ℕ) × (rest : List ℕ) × (lines : List (List ℕ)) × ((s ≡ record { whole = (held ++ more) ∷ lines; rest = rest }) ⊎ (s ≡ record { whole = []; rest = held ++ more }))

onto-long : (c : ℕ) (s : Split) → LongSplit (c ∷ []) (onto_split c s.whole s.rest)
unfolding LongSplit
onto-long c s = by-whole s.whole s.rest
  where
    by-whole : (whole : List (List ℕ)) (rest : List ℕ) → LongSplit (c ∷ []) (onto_split c whole rest)
    by-whole [] rest = (rest, rest, [], inr refl)
    by-whole (line ∷ lines) rest = (line, rest, lines, inl refl)

long-onto : (c : ℕ) (held : List ℕ) (s : Split) → LongSplit held s → LongSplit (c ∷ held) (onto_split c s.whole s.rest)
unfolding LongSplit
long-onto c held s h_long_split = grind arith

long-split : (held t : List ℕ) → has_no_feed held ≡ true → 0 < length held → LongSplit held (split_of (held ++ t))
long-split [] t h some = absurd (omega arith)
long-split (c ∷ []) t h some =
    subst (LongSplit (c ∷ [])) (sym (split-octet c t (split_of t) (no-feed-first c (and_first (not (c == 10)) true h)) refl)) (onto-long c (split_of t))
long-split (c ∷ d ∷ held) t h some =
    let rest = long-split (d ∷ held) t (and_second (not (c == 10)) (has_no_feed (d ∷ held)) h) (omega arith) in
    grind (arith, common_steps, split-octet, no-feed-first, and_first, long-onto)

openly-long : (at : ℕ) (parsing : Parsing) (held : List ℕ) (s : Split) → Reads parsing.0 → 4096 < length held → LongSplit held s → openly-from at parsing s ≡ Refused at NotAllowed ∷ []
unfolding LongSplit parse_open_lines
openly-long at parsing held s h1 h2 h3 = grind (arith, nat_tests, common_steps, LongSplit, length-append, wrong-faults, stopped-reports-openly)

pub refuses-long : (at : ℕ) (parsing : Parsing) (held : List ℕ) (ended : Bool) → Reads parsing.0 → has_no_feed held ≡ true → 4096 < length held
    → ContinuesParse (record { at = at; parsing = parsing; held = held; ended = ended }) (record { at = at; parsing = (Stopped, parsing.1); held = held; ended = ended }) (Refused at NotAllowed ∷ [])
unfolding parse_lines
refuses-long at parsing held ended r h long = record {
  openly = λ unended t. grind (arith, nat_tests, openly-long, long-split, stopped-reports-openly);
  whole = λ t none.
      let (more, rest, e) = long-first held t h (omega (arith, long)) in
      let over : nat_lt 4096 (length (held ++ more)) ≡ true = grind (arith, nat_tests, length-append held more, long) in
      ap (parse_lines at parsing) e
      ∙ rw (over, wrong-faults at parsing r) (ap (λ (z : List ParseResult). Refused at NotAllowed ∷ z) (stopped-reports (at + 1) parsing.1 rest))
      ∙ ap (λ (z : List ParseResult). Refused at NotAllowed ∷ z) (sym (stopped-reports at parsing.1 (lines_of (held ++ t))));
}

-- At the end of input, the last line may lack its line feed.
pub one-line : (held : List ℕ) → has_no_feed held ≡ true → 0 < length held → lines_of held ≡ held ∷ []
one-line [] h some = absurd (omega arith)
one-line (c ∷ []) h some = onto-line c [] (no-feed-first c (and_first (not (c == 10)) true h)) ∙ ap (onto_first c) lines-none
one-line (c ∷ d ∷ held) h some =
    onto-line c (d ∷ held) (no-feed-first c (and_first (not (c == 10)) (has_no_feed (d ∷ held)) h))
    ∙ ap (onto_first c) (one-line (d ∷ held) (and_second (not (c == 10)) (has_no_feed (d ∷ held)) h) (omega arith))

pub ends-inside : (at : ℕ) (parsing : Parsing)
    → ContinuesParse (record { at = at; parsing = parsing; held = []; ended = true }) (record { at = at; parsing = (Stopped, parsing.1); held = []; ended = true }) (reported_at_end at parsing.0)
unfolding parse_lines lines_of split_of
ends-inside at parsing = grind arith

-- If no whole line is buffered, and the incomplete line is not too long, nothing is reported before
-- the end of input.
rest-alone : (held : List ℕ) → has_no_feed held ≡ true → split_of held ≡ record { whole = []; rest = held }
unfolding split_of
rest-alone [] h = refl
rest-alone (c ∷ held) h = split-octet c held (record { whole = []; rest = held }) (no-feed-first c (and_first (not (c == 10)) (has_no_feed held) h))
    (rest-alone held (and_second (not (c == 10)) (has_no_feed held) h))

pub nothing-yet : (at : ℕ) (parsing : Parsing) (held : List ℕ) (ended : Bool) → has_no_feed held ≡ true → length held ≤ 4096
    → parse_open (record { at = at; parsing = parsing; held = held; ended = ended }) [] ≡ []
unfolding parse_open_lines
nothing-yet at parsing held ended h1 h2 = grind (arith, append-nil, rest-alone)

-- ---- The first line feed.

no-feed : (c : ℕ) → ((c == 10) ≡ true → ⊥) → not (c == 10) ≡ true
no-feed c h1 = grind arith

nowhere : (held : List ℕ) → ((k : ℕ) → 0 ≤ k → k < length held → (slice_index held k == 10) ≡ true → ⊥) → has_no_feed held ≡ true
nowhere [] h = refl
nowhere (c ∷ held) h = both (not (c == 10)) (has_no_feed held) (no-feed c (h 0 (omega arith) (omega arith))) (nowhere held (λ k low below. h (suc k) (omega arith) (omega arith)))

before : (held : List ℕ) (n : ℕ) → n < length held → ((k : ℕ) → 0 ≤ k → k < n → (slice_index held k == 10) ≡ true → ⊥) → has_no_feed (take n held) ≡ true
before held zero h none = refl
before [] (suc n) h none = absurd (omega arith)
before (c ∷ held) (suc n) h none = both (not (c == 10)) (has_no_feed (take n held)) (no-feed c (none 0 (omega arith) (omega arith)))
    (before held n (omega arith) (λ k low below. none (suc k) (omega arith) (omega arith)))

at-feed : (held : List ℕ) (n : ℕ) → n < length held → (slice_index held n == 10) ≡ true → held ≡ take n held ++ 10 ∷ drop (n + 1) held
at-feed held n h e = grind (arith, common_steps)

pub feed-at : (held : List ℕ) (r : Option ℕ) → IsFirstByte (is_byte 10) held r → FeedAt held r
feed-at held None h = nowhere held h
feed-at held (Some n) h = (h.0.high, before held n h.0.high h.0.before, at-feed held n h.0.high h.1)

-- Octets that contain a line feed are not empty.
pub some-held : (held : List ℕ) → has_no_feed held ≡ false → 0 < length held
some-held [] e = absurd (true≢false e)
some-held (c ∷ held) e = omega arith

-- A fact that is always true is also true after an error.
pub refused-holds : {X E : Type 0} (r : Result X E) (P : Type 0) → P → OnErr r P
refused-holds (Ok x) P p = tt
refused-holds (Err e) P p = p

-- ---- Octets that end with a line feed.

ends-tail : (c : ℕ) (xs : List ℕ) → ends_by_feed (c ∷ xs) ≡ true → ends_by_feed xs ≡ true
ends-tail c [] e = refl
ends-tail c (d ∷ more) e = e

pub ends-drop : (n : ℕ) (xs : List ℕ) → ends_by_feed xs ≡ true → ends_by_feed (drop n xs) ≡ true
ends-drop zero xs e = e
ends-drop (suc n) [] e = refl
ends-drop (suc n) (x ∷ xs) e = ends-drop n xs (ends-tail x xs e)

pub ends-append : (xs : List ℕ) → ends_by_feed (xs ++ 10 ∷ []) ≡ true
ends-append (c ∷ d ∷ more) = ends-append (d ∷ more)
ends-append xs = refl

not-both : (b : Bool) → b ≡ true → not b ≡ true → ⊥
not-both true e f = cc
not-both false e f = cc

pub ends-none : (xs : List ℕ) → ends_by_feed xs ≡ true → has_no_feed xs ≡ true → xs ≡ []
ends-none [] e f = refl
ends-none (c ∷ []) e f = absurd (not-both (c == 10) e (and_first (not (c == 10)) true f))
ends-none (c ∷ d ∷ more) e f =
    let none : d ∷ more ≡ [] = ends-none (d ∷ more) e (and_second (not (c == 10)) (has_no_feed (d ∷ more)) f) in
    absurd (omega (arith, ap length none))

-- ---- The results before the end of input are the first results of the whole text.

-- The lines of a text are the whole lines of its first part, and then those that begin with the
-- incomplete line of this part.
split-octet-before : (c : ℕ) (s t : List ℕ) (b : Bool) → (c == 10) ≡ b → lines_of (s ++ t) ≡ (split_of s).whole ++ lines_of ((split_of s).rest ++ t)
    → lines_of (c ∷ (s ++ t)) ≡ (split_of (c ∷ s)).whole ++ lines_of ((split_of (c ∷ s)).rest ++ t)
unfolding split_of
split-octet-before c s t b h1 h2 = grind (arith, lines-cons)

lines-split : (s t : List ℕ) → lines_of (s ++ t) ≡ (split_of s).whole ++ lines_of ((split_of s).rest ++ t)
unfolding split_of
lines-split [] t = refl
lines-split (c ∷ s) t = split-octet-before c s t (c == 10) refl (lines-split s t)

rest-octet : (c : ℕ) (s : List ℕ) (b : Bool) → (c == 10) ≡ b → has_no_feed (split_of s).rest ≡ true → has_no_feed (split_of (c ∷ s)).rest ≡ true
unfolding split_of
rest-octet c s b h1 h2 = grind arith

rest-clean : (s : List ℕ) → has_no_feed (split_of s).rest ≡ true
unfolding split_of
rest-clean [] = refl
rest-clean (c ∷ s) = rest-octet c s (c == 10) refl (rest-clean s)

abbrev IsPrefix : List ParseResult → List ParseResult → Type 0
IsPrefix results all = (more : List ParseResult) × (all ≡ results ++ more)

prefix-more : (x results all : List ParseResult) → IsPrefix results all → IsPrefix (x ++ results) (x ++ all)
prefix-more x results all (more, e) = (more, ap (λ (z : List ParseResult). x ++ z) e ∙ sym (append_assoc x results more))

-- An incomplete line that is short reports nothing. One that is too long is rejected, whatever
-- follows it.
rest-prefix : (at : ℕ) (parsing : Parsing) (rest t : List ℕ) (b : Bool) → nat_lt 4096 (length rest) ≡ b → Reads parsing.0 → has_no_feed rest ≡ true
    → IsPrefix (parse_open_lines at parsing [] rest) (parse_lines at parsing (lines_of (rest ++ t)))
unfolding parse_open_lines
rest-prefix at parsing rest t true h r clean =
    let long : 4096 < length rest = grind arith in
    (parse_lines at (Stopped, parsing.1) (lines_of (rest ++ t)), rw (h, wrong-faults at parsing r) ((refuses-long at parsing rest false r clean long).whole t (λ e. absurd cc)))
rest-prefix at parsing rest t false h r clean = (parse_lines at parsing (lines_of (rest ++ t)), rw h refl)

any-prefix : (at : ℕ) (parsing : Parsing) (rest t : List ℕ) → has_no_feed rest ≡ true → IsPrefix (parse_open_lines at parsing [] rest) (parse_lines at parsing (lines_of (rest ++ t)))
any-prefix at (Between, d) rest t clean = rest-prefix at (Between, d) rest t (nat_lt 4096 (length rest)) refl tt clean
any-prefix at (Heading, d) rest t clean = rest-prefix at (Heading, d) rest t (nat_lt 4096 (length rest)) refl tt clean
any-prefix at (BeforeSubsets part, d) rest t clean = rest-prefix at (BeforeSubsets part, d) rest t (nat_lt 4096 (length rest)) refl tt clean
any-prefix at (Filling subset, d) rest t clean = rest-prefix at (Filling subset, d) rest t (nat_lt 4096 (length rest)) refl tt clean
any-prefix at (Stopped, d) rest t clean = (
  parse_lines at (Stopped, d) (lines_of (rest ++ t)),
  ap (λ (z : List ParseResult). z ++ parse_lines at (Stopped, d) (lines_of (rest ++ t))) (sym (stopped-reports-openly at d [] rest)),
)

lines-prefix : (lines : List (List ℕ)) (at : ℕ) (parsing : Parsing) (rest t : List ℕ) → has_no_feed rest ≡ true
    → IsPrefix (parse_open_lines at parsing lines rest) (parse_lines at parsing (lines ++ lines_of (rest ++ t)))
unfolding parse_lines parse_open_lines
lines-prefix [] at parsing rest t clean = any-prefix at parsing rest t clean
lines-prefix (line ∷ lines) at parsing rest t clean =
    prefix-more (reported_at at (line_step at parsing (read_line line))) _ _ (lines-prefix lines (at + 1) (parsing_after (line_step at parsing (read_line line))) rest t clean)

-- The results that are reported before the end of input are the first results of the whole text,
-- whatever follows.
pub open-prefix : (s t : List ℕ) → IsPrefix (open_documents_of s) (documents_of (s ++ t))
open-prefix s t =
    let (more, e) = lines-prefix (split_of s).whole 1 between (split_of s).rest t (rest-clean s) in
    (more, ap (parse_lines 1 between) (lines-split s t) ∙ e)

-- ---- The buffered octets of the text itself.

abbrev cut : List ℕ → List ℕ
cut xs = take (length xs - 1) xs

cut-prefix : (xs : List ℕ) (y : ℕ) (ys : List ℕ) → cut (xs ++ y ∷ ys) ≡ xs ++ cut (y ∷ ys)
cut-prefix [] y ys = refl
cut-prefix (x ∷ xs) y ys =
    let n : length (x ∷ xs ++ y ∷ ys) - 1 ≡ suc (length (xs ++ y ∷ ys) - 1) = omega (arith, length-append xs (y ∷ ys)) in
    cc (n, cut-prefix xs y ys)

none-kept : (b : Bool) → (if b then cut [] else []) ≡ []
none-kept true = refl
none-kept false = refl

-- Only the line feed that was added is cut off.
keeps-by : (a b : Bool) (h bs feed t k : List ℕ) → IsMissingFeed a b feed → (a ≡ true → (b ≡ true) × (bs ≡ [])) → (a ≡ false → b ≡ true → feed ≡ [] → k ≡ []) → (h ++ bs) ++ feed ≡ t ++ k
    → (taken : List ℕ) × ((if a then cut h else h) ++ bs ≡ taken ++ (if b then cut k else k))
keeps-by a b h bs feed t [] missing kept fed same = (
  (if a then cut h else h) ++ bs,
  sym (ap (λ (z : List ℕ). ((if a then cut h else h) ++ bs) ++ z) (none-kept b) ∙ append-nil ((if a then cut h else h) ++ bs)),
)
keeps-by true b h bs feed t (k ∷ more) (inr (open', ended, e)) kept fed same = absurd (true≢false open')
keeps-by true false h bs feed t (k ∷ more) (inl none) kept fed same = absurd (true≢false (sym (kept refl).0))
keeps-by true true h bs feed t (k ∷ more) (inl none) kept fed same =
    let nothing = (kept refl).1 in
    let is : h ≡ t ++ k ∷ more = sym (ap (λ (z : List ℕ). (h ++ bs) ++ z) none ∙ append-nil (h ++ bs) ∙ ap (λ (z : List ℕ). h ++ z) nothing ∙ append-nil h) ∙ same in
    (t, ap (λ (z : List ℕ). cut h ++ z) nothing ∙ append-nil (cut h) ∙ ap (λ (z : List ℕ). cut z) is ∙ cut-prefix t k more)
keeps-by false false h bs feed t (k ∷ more) (inl none) kept fed same = (t, sym (ap (λ (z : List ℕ). (h ++ bs) ++ z) none ∙ append-nil (h ++ bs)) ∙ same)
keeps-by false false h bs feed t (k ∷ more) (inr (open', ended, e)) kept fed same = absurd (true≢false (sym ended))
keeps-by false true h bs feed t (k ∷ more) (inl none) kept fed same = absurd (omega (arith, ap length (fed refl refl none)))
keeps-by false true h bs feed t (k ∷ more) (inr (open', ended, e)) kept fed same = (
  t,
  sym (take_at (h ++ bs) (10 ∷ []) (length ((h ++ bs) ++ 10 ∷ []) - 1) (omega (arith, length-append (h ++ bs) (10 ∷ [])))) ∙ ap (λ (z : List ℕ). cut ((h ++ bs) ++ z)) (sym e)
      ∙ ap (λ (z : List ℕ). cut z) same ∙ cut-prefix t k more,
)

pub call-keeps : (left left' : Option (List ℕ)) (old new : ReaderModel) (results : List ParseResult) (bs : List ℕ) → ReadsLines left left' old new results bs → KeepsUnread old new bs
call-keeps left left' old new results bs call =
    keeps-by old.ended new.ended old.held bs call.lines.0 (text_of_lines call.lines.2.lines) new.held call.lines.1 (λ e. ((call.kept e).0, (call.kept e).1)) call.fed call.lines.2.octets

-- A step that does not change the buffer loses no octets.
pub keeps-same : (old s new : ReaderModel) (bs : List ℕ) → KeepsUnread old s bs → new.held ≡ s.held → new.ended ≡ s.ended → KeepsUnread old new bs
keeps-same old s new bs (taken, same) held ended = grind arith

-- ---- Only an `end` line completes a document.

-- If the line completes a document, it is an `end` line.
abbrev IsByEnd : Line → LineStep → Type 0
IsByEnd line (Continues state, d) = Unit {0}
IsByEnd line (Completes, d) = line ≡ EndLine
IsByEnd line (Refuses fault, d) = Unit {0}

line_step-end : (at : ℕ) (parsing : Parsing) (line : Line) → IsByEnd line (line_step at parsing line)
unfolding line_step
line_step-end at parsing line = grind arith

completes-end : (at : ℕ) (parsing : Parsing) (line : Line) (effect : LineEffect) (d : Document) → effect ≡ Completes → (effect, d) ≡ line_step at parsing line → line ≡ EndLine
completes-end at parsing line effect d is e = subst (IsByEnd line) (sym e ∙ ap (λ (x : LineEffect). (x, d)) is) (line_step-end at parsing line)

-- ---- The lines that are taken, line by line.

-- the step of an item line in a subset
item-line_step : (at subset : ℕ) (line : List ℕ) (d new : Document) (fxy : ℕ) (form : DraftValue) → length line ≤ 4096 → line_of line ≡ ItemLine fxy form
    → new ≡ with_entry d (Holds (draft at fxy form))
    → (Continues (Filling subset), new) ≡ line_step at (Filling subset, d) (read_line line)
unfolding line_step
item-line_step at subset line d new fxy form h1 h2 h3 = grind arith

pub item-taken : (old p : Progress) (line : List ℕ) (entries : List DraftEntry) (subset fxy : ℕ) (form : DraftValue) → p ≡ old → p.state ≡ Filling subset → length line ≤ 4096
    → line_of line ≡ ItemLine fxy form → entries ≡ p.parts.entries ++ Holds (draft p.at fxy form) ∷ []
    → (Continues p.state, record p.parts { entries = entries }) ≡ line_step old.at (parsing_of old) (read_line line)
item-taken old p line entries subset fxy form same inside short says more =
    let T : Progress → Type 0 = λ x. (Continues x.state, record x.parts { entries = entries }) ≡ line_step old.at (parsing_of old) (read_line line) in
    let E : Progress → Type 0 = λ x. entries ≡ x.parts.entries ++ Holds (draft x.at fxy form) ∷ [] in
    let here : T old = rw (sym (ap (λ x. x.state) same) ∙ inside) (item-line_step old.at subset line old.parts (record old.parts { entries = entries }) fxy form short says
    (ap (λ es. record old.parts { entries = es }) (subst E same more))) in
    subst T (sym same) here

-- One line is taken.
line-taken : (new : Progress) (held : List ℕ) (from n : ℕ) (t : LineStep) (ended : Bool) → FeedAt (drop from held) (Some n)
    → t ≡ line_step new.at (parsing_of new) (read_line (take n (drop from held)))
    → ContinuesParse (position_with new.at (parsing_of new) (drop from held) ended) (position_with (new.at + 1) (parsing_after t) (drop (from + (n + 1)) held) ended) (reported_at new.at t)
line-taken new held from n t ended h1 h2 = grind (arith, takes-line, drop-drop)

pub all-append : (P : List ℕ → Type 0) (a b : List (List ℕ)) → AllByRecursion P a → AllByRecursion P b → AllByRecursion P (a ++ b)
all-append P [] b x y = y
all-append P (line ∷ a) b x y = (x.0, all-append P a b x.1 y)

pub passes-none : (at : ℕ) (held : List ℕ) → TakesWholeLines at held at held
passes-none at held = record { lines = []; single = tt; counted = omega arith; octets = refl }

pub passes-line : (at at' : ℕ) (held rest line more : List ℕ) → TakesWholeLines at held at' rest → has_no_feed line ≡ true → rest ≡ line ++ 10 ∷ more → TakesWholeLines at held (at' + 1) more
passes-line at at' held rest line more p clean e = record {
  lines = p.lines ++ line ∷ [];
  single = all-append (λ line. has_no_feed line ≡ true) p.lines (line ∷ []) p.single (clean, tt);
  counted = omega (arith, p.counted, length-append p.lines (line ∷ []));
  octets = p.octets ∙ ap (λ (t : List ℕ). text_of_lines p.lines ++ t) e
      ∙ ap (λ (t : List ℕ). text_of_lines p.lines ++ t) (sym (append_assoc line (10 ∷ []) more))
      ∙ sym (append_assoc (text_of_lines p.lines) (line ++ 10 ∷ []) more)
      ∙ ap (λ (t : List ℕ). t ++ more) (ap (λ (t : List ℕ). text_of_lines p.lines ++ t) (one-line line) ∙ sym (flat_map-append (λ (line : List ℕ). line ++ 10 ∷ []) p.lines (line ∷ [])));
}
  where
    one-line : (line : List ℕ) → line ++ 10 ∷ [] ≡ text_of_lines (line ∷ [])
    one-line line = sym (append-nil (line ++ 10 ∷ []))

passes-feed : (at at' : ℕ) (held : List ℕ) (from n : ℕ) → TakesWholeLines at held at' (drop from held) → FeedAt (drop from held) (Some n)
    → TakesWholeLines at held (at' + 1) (drop (from + (n + 1)) held)
passes-feed at at' held from n h1 h2 = grind (arith, drop-drop, passes-line)

-- The state of the parser is valid after every line.
holds-after : (new : Progress) (t : LineStep) (line : List ℕ) → IsParsing new.at (parsing_of new) → 0 < new.at → t ≡ line_step new.at (parsing_of new) (read_line line) → IsLineStep (new.at + 1) t
holds-after new t line s some e = grind (arith, line_step-holds, said-sound)

further : (a b c : ReaderPosition) (x : List ParseResult) → b.ended ≡ c.ended → ContinuesParse a b [] → ContinuesParse b c x → ContinuesParse a c x
further a b c x same f g = goes-further a b c [] x (λ e. sym same ∙ e) f g

-- After the lines that were taken, another one is taken.
one-further : (old new : Progress) (held : List ℕ) (from n : ℕ) (t : LineStep) (ended : Bool) → IsTaking old new held from → FeedAt (drop from held) (Some n)
    → t ≡ line_step new.at (parsing_of new) (read_line (take n (drop from held)))
    → ContinuesParse (position_with old.at (parsing_of old) held ended) (position_with (new.at + 1) (parsing_after t) (drop (from + (n + 1)) held) ended) (reported_at new.at t)
one-further old new held from n t ended is feed e =
    further (position_with old.at (parsing_of old) held ended) (position_with new.at (parsing_of new) (drop from held) ended)
    (position_with (new.at + 1) (parsing_after t) (drop (from + (n + 1)) held) ended) (reported_at new.at t) refl (is.goes ended) (line-taken new held from n t ended feed e)

pub taking-goes : (old new : Progress) (held : List ℕ) (from n : ℕ) (state : ParserState) (d : Document) → IsTaking old new held from → FeedAt (drop from held) (Some n)
    → (Continues state, d) ≡ line_step new.at (parsing_of new) (read_line (take n (drop from held)))
    → IsTaking old (record { state = state; at = new.at + 1; parts = d }) held (from + (n + 1))
taking-goes old new held from n state d is feed e = record {
  goes = λ ended. one-further old new held from n (Continues state, d) ended is feed e;
  within = omega (arith, feed.0, length-drop from held);
  holds = holds-after new (Continues state, d) (take n (drop from held)) is.holds is.some e;
  some = omega arith;
  near = omega (arith, is.near);
  passes = passes-feed old.at new.at held from n is.passes feed;
}

-- A line that completes a document, or is invalid, is the last one that is taken.
pub taking-ends : (old new : Progress) (held : List ℕ) (from n : ℕ) (effect : LineEffect) (last : Progress) → IsTaking old new held from → FeedAt (drop from held) (Some n) → last.at ≡ new.at + 1
    → ((state : ParserState) → effect ≡ Continues state → ⊥) → (effect, last.parts) ≡ line_step new.at (parsing_of new) (read_line (take n (drop from held)))
    → TakesLines old last held (from + (n + 1)) effect
taking-ends old new held from n effect last is feed at ends e =
    let t : LineStep = (effect, last.parts) in
    let here : new.at ≡ last.at - 1 = omega arith in
    record {
      goes = λ ended.
          let old' = position_with old.at (parsing_of old) held ended in
          subst (λ (k : ℕ). ContinuesParse old' (position_with last.at (parsing_after t) (drop (from + (n + 1)) held) ended) (reported_at k t)) here
          (rw at (one-further old new held from n t ended is feed e));
      all = λ state goes. absurd (ends state goes);
      within = omega (arith, feed.0, length-drop from held);
      holds = subst (λ (k : ℕ). IsLineStep k t) (sym at) (holds-after new t (take n (drop from held)) is.holds is.some e);
      some = omega arith;
      near = omega (arith, is.near);
      passes = rw at (passes-feed old.at new.at held from n is.passes feed);
      closes = λ whole. record {
        line = new.at;
        last = take n (drop from held);
        prefix = (let P : List ℕ → Type 0 = λ t. TakesWholeLines old.at held new.at (take n (drop from held) ++ 10 ∷ t) in let Q : List ℕ
            → Type 0 = λ t. TakesWholeLines old.at held new.at t in subst P (drop-drop (n + 1) from held) (subst Q feed.2 is.passes));
        single = feed.1;
        closes = completes-end new.at (parsing_of new) (read_line (take n (drop from held))) effect last.parts whole e;
        counted = at;
      };
    }

abbrev state_of : ParserState → LineEffect → ParserState
state_of other (Continues state) = state
state_of other Completes = other
state_of other (Refuses fault) = other

-- No whole line remains.
pub taking-more : (old new : Progress) (held : List ℕ) (from : ℕ) → IsTaking old new held from → has_no_feed (drop from held) ≡ true → TakesLines old new held from (Continues new.state)
taking-more old new held from is none = record {
  goes = is.goes;
  all = λ state same. (same-state new.state state same, none);
  within = is.within;
  holds = is.holds;
  some = is.some;
  near = is.near;
  passes = is.passes;
  closes = λ whole. absurd cc;
}
  where
    same-state : (a b : ParserState) → ◌≡◌ {A = LineEffect} (Continues a) (Continues b) → b ≡ a
    same-state a b e = ap (λ (x : LineEffect). state_of b x) (sym e)

-- Memory ran out at the next line, which adds to the document.
pub wants-at : (old new : Progress) (held : List ℕ) (from n : ℕ) → IsTaking old new held from → FeedAt (drop from held) (Some n)
    → adds new.state (read_line (take n (drop from held))) ≡ true → WantsAt old held
wants-at old new held from n is feed more = record {
  progress = new;
  offset = from;
  taking = is;
  line = take n (drop from held);
  rest = drop (n + 1) (drop from held);
  holds = feed.2;
  single = feed.1;
  adds_to = more;
}

-- ---- The steps of a reader of dump texts.

abbrev pub reader : (at : ℕ) → Parsing → List ℕ → Bool → Option ReadFault → (reads room free : ℕ) → ReaderModel
reader at parsing held ended fault reads room free = record { at = at; parsing = parsing; held = held; ended = ended; fault = fault; reads = reads; room = room; free = free }

-- the results of the lines that were taken
pub takes-reports : (old new : Progress) (f f' : Option ReadFault) (held : List ℕ) (len : ℕ) (ended : Bool) (reads room free : ℕ) (effect : LineEffect) (p : Parsing)
    → TakesLines old new held len effect → p ≡ parsing_after (effect, new.parts)
    → ParsesHeldLines (reader old.at (parsing_of old) held ended f reads room free) (reader new.at p (drop len held) ended f' reads room free) (reported_at (new.at - 1) (effect, new.parts))
takes-reports old new f f' held len ended reads room free effect p h1 h2 = grind arith

-- The lines that were taken are removed from the input buffer.
pub taken-held : (old new : Progress) (before : ReaderModel) (f f' : Option ReadFault) (input input' : InputModel) (len : ℕ) (effect : LineEffect) (p : Parsing)
    → reader old.at (parsing_of old) input.held input.ended f input.reads input.room input.free ≡ before → TakesLines old new input.held len effect → p ≡ parsing_after (effect, new.parts)
    → input' ≡ record input { held = drop len input.held; gap = input.gap + len }
    → ParsesHeldLines before (reader new.at p input'.held input'.ended f' input'.reads input'.room input'.free) (reported_at (new.at - 1) (effect, new.parts))
taken-held old new before f f' input input' len effect p is takes after skip = grind (arith, common_steps, before)

-- The reader ran out of memory at the next line.
pub wants-here : (old : Progress) (f : Option ReadFault) (held : List ℕ) (ended : Bool) (reads room free : ℕ) → WantsAt old held
    → WantsHere (reader old.at (parsing_of old) held ended f reads room free)
wants-here old f held ended reads room free w =
    let n = w.progress in
    record {
      mid = reader n.at (parsing_of n) (drop w.offset held) ended None reads room free;
      taken = record { goes = w.taking.goes ended; passes = w.taking.passes };
      ended = refl;
      reads = refl;
      next = record { line = w.line; rest = w.rest; held = w.holds; single = w.single; adds_to = w.adds_to };
    }

-- The invariant of a reader remains true after octets are skipped.
pub reader-skips : (f f' : Option ReadFault) (old new : Progress) (input : InputModel) (len : ℕ) → (f' ≡ None → IsProgress new (length (drop len input.held)) input.reads) → IsReader f old input
    → IsReader f' new (record input { held = drop len input.held; gap = input.gap + len })
reader-skips f f' old new input len progress is = (omega (arith, is.0, length-drop len input.held), is.1, λ ended. ends-drop len input.held (is.2 ended), progress, is.4)

-- the progress of a reader that can take more lines
pub progress-more : (old new : Progress) (held : List ℕ) (len reads : ℕ) (state : ParserState) → TakesLines old new held len (Continues state) → IsProgress old (length held) reads
    → IsProgress new (length (drop len held)) reads
progress-more old new held len reads state h1 h2 = grind (arith, common_steps)

pub progress-between : (old new d : Progress) (held : List ℕ) (len reads : ℕ) (effect : LineEffect) → TakesLines old new held len effect → IsProgress old (length held) reads → d.at ≡ new.at
    → d.state ≡ Between → d.parts ≡ blank 0 → IsProgress d (length (drop len held)) reads
progress-between old new d held len reads effect h1 h2 h3 h4 h5 = grind (arith, common_steps)

-- ---- The results at the end of input.

pub reported-inside : (state : ParserState) (at : ℕ) → Reads state → (state ≡ Between → ⊥) → reported_at_end at state ≡ Refused at NotAllowed ∷ []
reported-inside Between at reads inside = absurd (inside refl)
reported-inside Stopped at reads inside = absurd reads
reported-inside state at reads inside = refl

pub done-between : (s : ReaderModel) → s.parsing.0 ≡ Between → s.held ≡ [] → parse (position_of s) [] ≡ []
unfolding parse_lines lines_of split_of
done-between s parsing held = cc (held)

pub end-reports : (s : ReaderModel) → s.ended ≡ true → s.held ≡ [] → reported_at_end s.at s.parsing.0 ≡ Refused s.at NotAllowed ∷ []
    → ParsesHeldLines s (stopped s (fault.Line s.at NotAllowed)) (Refused s.at NotAllowed ∷ [])
end-reports s h1 h2 h3 = grind (arith, ends-inside)

-- If the end of input is inside a document, the reader stops.
pub end-inside : (s s' : ReaderModel) (line : ℕ) (f : ReadFault) → s.ended ≡ true → s.held ≡ [] → reported_at_end s.at s.parsing.0 ≡ Refused s.at NotAllowed ∷ [] → line ≡ s.at
    → s' ≡ stopped s (fault.Line line NotAllowed) → f ≡ fault.Line line NotAllowed → HandlesEnd s s' (Err f)
end-inside s s' line f ended held reports at new is = grind (arith, end-reports)

-- As long as lines are taken, the parser has not stopped.
pub parsing-reads : (at : ℕ) (parsing : Parsing) → IsParsing at parsing → Reads parsing.0
parsing-reads at parsing is = grind arith

-- A line that is too long stops the reader.
pub long-reports : (s : ReaderModel) → Reads s.parsing.0 → has_no_feed s.held ≡ true → 4096 < length s.held
    → ParsesHeldLines s (stopped s (fault.Line s.at NotAllowed)) (Refused s.at NotAllowed ∷ [])
long-reports s reads clean long = record { goes = refuses-long s.at s.parsing s.held s.ended reads clean long; passes = passes-none s.at s.held }

-- the progress of a reader after another read
pub progress-read : (d : Progress) (held held' reads : ℕ) → IsProgress d held reads → held' ≤ held + 4096 → IsProgress d held' (reads + 1)
progress-read d held held' reads is few = record { holds = is.holds; some = is.some; near = omega (arith, is.near) }

-- The buffer is allocated at the first read.
pub room-made : (reads reads' room room' : ℕ) → (0 < reads → 8192 ≤ room) → room ≤ room' → (reads ≡ 0 → 0 < reads' → 8192 ≤ room') → 0 < reads' → 8192 ≤ room'
room-made zero reads' room room' made order first some = first refl some
room-made (suc reads) reads' room room' made order first some = omega arith

-- Each line reports at most one document or fault, and so does the end of input.
reported-few : (at : ℕ) (t : LineStep) → length (reported_at at t) ≤ 1
reported-few at (Continues state, d) = omega arith
reported-few at (Completes, d) = omega arith
reported-few at (Refuses fault, d) = omega arith

end-few : (at : ℕ) (state : ParserState) → length (reported_at_end at state) ≤ 1
end-few at Between = omega arith
end-few at Heading = omega arith
end-few at (BeforeSubsets part) = omega arith
end-few at (Filling subset) = omega arith
end-few at Stopped = omega arith

pub spelled-few : (lines : List (List ℕ)) (at : ℕ) (parsing : Parsing) → length (parse_lines at parsing lines) ≤ length lines + 1
unfolding parse_lines
spelled-few [] at parsing = end-few at parsing.0
spelled-few (line ∷ more) at parsing =
    let here = line_step at parsing (read_line line) in
    omega (arith, reported-few, spelled-few more (at + 1) (parsing_after here), length-append (reported_at at here) (parse_lines (at + 1) (parsing_after here) more))

-- rules for the goals of single functions
pub ruleset more_steps = (length-append, ends-append, progress-read, room-made)
