-- The effects of a run on its devices, derived from its steps, and the outcome of a job.
use Rattle.bufr_frame.specs.Prelude.{max_reads, read_failures_after, AddsReads}
use Rattle.std.proofs.Common.{◌≡◌, ◌≢◌, ◌⊎◌, ◌∙◌, ◌<◌, ◌≤◌, ◌^◌, ℕ, ◌+◌, ◌-◌, Bool, true, false, List, [], ◌∷◌, ◌++◌, length, refl, sym, ap, subst, arith, Option, None, Ok, Err, append-nil, Some, inl, inr, Result, flat_map, map, count_by, IfSome}
use Rattle.std.specs.Io.KnownBytes.{Consumes, IsAtEnd, Keeps}
use Rattle.std.proofs.KnownBytes.{Appends-nil, Appends-kept, Consumes-trans}
use Rattle.std.proofs.lemmas.Bool.{false≢true}
use Rattle.std.proofs.lemmas.Grind.{common_steps}
use Rattle.bufr_bits.specs.Prelude.{counted}
use Rattle.bufr_bits.proofs.CountLemmas.{counted-then, counted-up}
use Rattle.bufr_frame.proofs.FinderLemmas.{adds-then}
use Rattle.bufr_frame.specs.declared.fault.RunFault.{RunFault}
use Rattle.bufr_frame.specs.declared.fault.RunFault.TheVariants.{Read, Write, InputTooLong, Memory}
use Rattle.bufr_text.specs.Prelude.{GrowsByPrefix, Stays, Fails, Writes}
use Rattle.bufr_cli.specs.Prelude.{BlamesWriter, CountsCalls, CountsRead, EndsRun, FlushesRest, TakesStep, HasFlushed, FlushesBoth, FlushesWritten, IsFlushedIf, IsFlushed, Writer, Input, IsCut, IsDone, InputName, IsOpen, Opens, HasNotFailed, InPart, KnownInputs, LeavesDevices, FlushesAtMost, FlushesByRead, FlushFails, NoFlushFails, OnErrors, OnOutput, Piece, Progress, ReadsAndWrites, ReadsAtMost, ReadsFewer, ReadsOctets, RunPieces, RunReads, RunsOver, RunsOverInput, StopsPiece, Tallies, Tally, Writers, WritesHelp, WritesLine, WritesPieces, WritesPrefixes, WrittenInPart, errors_of, is_accepted, is_refused, output_of, run_line}
use Rattle.bufr_cli.specs.declared.run_pieces.RunStep.{RunStep}
use Rattle.bufr_cli.specs.declared.run_pieces.Unflushed.{Unflushed}
use Rattle.bufr_cli.specs.declared.run_pieces.RunStep.TheVariants as step
use Rattle.std.specs.Borrow.{Bor}

-- ---- Pieces that were written.

Written-nil : (w : Writers) → WritesPieces w w []
Written-nil w = record { output = Appends-nil w.output.taken; errors = Appends-nil w.errors.taken }

grows-nil : (w : Option (List ℕ)) → GrowsByPrefix w w []
grows-nil w = record { prefix = []; back = []; parts = refl; gains = Appends-nil w }

pub prefixes-nil : (w : Writers) → WritesPrefixes w w []
prefixes-nil w = record { output = grows-nil w.output.taken; errors = grows-nil w.errors.taken }

-- A flush does not change which pieces were written.
written-kept : (before mid after : Writers) (pieces : List Piece) → Keeps mid.output.taken after.output.taken → Keeps mid.errors.taken after.errors.taken → WritesPieces before mid pieces
    → WritesPieces before after pieces
written-kept before mid after pieces kept_w kept_e written = record {
  output = Appends-kept before.output.taken mid.output.taken after.output.taken (flat_map output_of pieces) written.output kept_w;
  errors = Appends-kept before.errors.taken mid.errors.taken after.errors.taken (flat_map errors_of pieces) written.errors kept_e;
}

-- All of the pieces were written, and then a flush followed.
abbrev all-written : (before mid after : Writers) (pieces given : List Piece) → pieces ≡ given → Keeps mid.output.taken after.output.taken → Keeps mid.errors.taken after.errors.taken
    → WritesPieces before mid given → WrittenInPart before after pieces
all-written before mid after pieces given same kept_w kept_e written = record {
  given = given;
  next = None;
  rest = [];
  parts = same ∙ sym (append-nil given);
  between = after;
  whole = written-kept before mid after given kept_w kept_e written;
  prefix = prefixes-nil after;
}

pub map-append : {X : Type 0} (piece : X → Piece) (xs ys : List X) → map piece (xs ++ ys) ≡ map piece xs ++ map piece ys
map-append piece xs ys = grind (arith, common_steps)

pub count-append : (p : Piece → Bool) (xs ys : List Piece) → count_by p (xs ++ ys) ≡ count_by p xs + count_by p ys
count-append p xs ys = grind (arith, common_steps)

-- Each piece is counted once, as accepted or as refused.
counted-all : (pieces : List Piece) → count_by is_accepted pieces + count_by is_refused pieces ≡ length pieces
counted-all [] = refl
counted-all (OnOutput text ∷ more) =
    let a : count_by is_accepted (OnOutput text ∷ more) ≡ 1 + count_by is_accepted more = count-append is_accepted (OnOutput text ∷ []) more in
    let r : count_by is_refused (OnOutput text ∷ more) ≡ 0 + count_by is_refused more = count-append is_refused (OnOutput text ∷ []) more in
    omega (arith, a, r, counted-all more)
counted-all (OnErrors text ∷ more) =
    let a : count_by is_accepted (OnErrors text ∷ more) ≡ 0 + count_by is_accepted more = count-append is_accepted (OnErrors text ∷ []) more in
    let r : count_by is_refused (OnErrors text ∷ more) ≡ 1 + count_by is_refused more = count-append is_refused (OnErrors text ∷ []) more in
    omega (arith, a, r, counted-all more)

-- ---- The counts of the writers and of the input.

same-then : (f f1 f2 n n1 n2 : ℕ) → Stays f f1 n n1 → Stays f1 f2 n1 n2 → Stays f f2 n n2
same-then f f1 f2 n n1 n2 before more = (more.0 ∙ before.0, more.1 ∙ before.1)

fails-then : (f f1 f2 n n1 n2 : ℕ) → Stays f f1 n n1 → Fails f1 f2 n1 n2 → Fails f f2 n n2
fails-then f f1 f2 n n1 n2 before h_fails = grind arith

-- If no writer failed before `mid`, the blame from `mid` on is the blame for the whole run.
blames-then : (X Y : Type 0) (before mid after : Writers) (f : RunFault) → HasNotFailed before.output mid.output × HasNotFailed before.errors mid.errors → BlamesWriter {X = X} mid after (Err f)
    → BlamesWriter {X = Y} before after (Err f)
blames-then X Y before mid after f (out, err) blames = grind (arith, same-then, fails-then)

-- the number of reads in a run that made n reads
abbrev reads-at-most : {X : Type 0} (reads reads' n : ℕ) (r : Result X RunFault) → AddsReads reads reads' 0 n → (r ≡ Err InputTooLong → n ≡ max_reads) → ReadsAtMost reads reads' r
reads-at-most reads reads' n r counts long =
    let e : n - 0 ≡ n = omega arith in
    (n, counts.most, counts.made ∙ ap (counted reads) e, long)

-- ---- The number of times that the writers were flushed.

-- at most n flushes, followed by at most m flushes
pub flushes-then : (n m : ℕ) (before mid after : Writers) → FlushesAtMost n before mid → FlushesAtMost m mid after → FlushesAtMost (n + m) before after
flushes-then n m before mid after first second = (
  counted-then before.output.flushes.made mid.output.flushes.made after.output.flushes.made n m first.0 second.0,
  counted-then before.errors.flushes.made mid.errors.flushes.made after.errors.flushes.made n m first.1 second.1,
)

-- A bound on the number of flushes may be raised.
pub flushes-up : (n m : ℕ) (before after : Writers) → n ≤ m → FlushesAtMost n before after → FlushesAtMost m before after
flushes-up n m before after more is = omega (arith, counted-up)

-- Writing does not flush.
pub flushes-kept : (n : ℕ) (before mid after : Writers) → after.output.flushes ≡ mid.output.flushes → after.errors.flushes ≡ mid.errors.flushes → FlushesAtMost n before mid
    → FlushesAtMost n before after
flushes-kept n before mid after output errors is = (rw output is.0, rw errors is.1)

-- at most one flush for each read, and one more
flushes-by : (reads reads' n : ℕ) (before after : Writers) → AddsReads reads reads' 0 n → FlushesAtMost (n + 1) before after → FlushesByRead reads reads' before after
flushes-by reads reads' n before after counts is = let e : n - 0 ≡ n = omega arith in (n, counts.made ∙ ap (counted reads) e, is)

-- `NoFlushFails` and `FlushFails` exclude each other.
none-fails : (before after : Writers) → NoFlushFails before after → FlushFails before.output after.output ⊎ FlushFails before.errors after.errors → ⊥
none-fails before after none h_flush_fails = omega arith

-- ---- The progress of a run.

-- the progress of a run that has read these octets and written these pieces
abbrev pub progress : (from to : Input) (octets : List ℕ) (pieces : List Piece) → Progress
progress from to octets pieces = record { from = from.left; left = to.left; octets = octets; pieces = pieces }

-- A writer without unflushed octets was flushed.
abbrev pub IsAllFlushed : Unflushed → (before after : Writers) → Type 0
IsAllFlushed unflushed before after =
    (unflushed.output ≡ false → IsFlushed before.output after.output) × (unflushed.errors ≡ false → IsFlushed before.errors after.errors)

pub record RunSoFar (reaches : Progress → Type 0) (from to : Input) (before after : Writers) (tally : Tally) (unflushed : Unflushed) : Type 0 where
  pub octets : List ℕ
  pub pieces : List Piece
  pub reached : reaches (progress from to octets pieces)
  pub written : WritesPieces before after pieces
  pub tallies : Tallies tally pieces
  pub few : length pieces < 2 ^ 63
  pub failures : to.failures ≡ from.failures
  pub flushes : NoFlushFails before after
  pub handed : IsAllFlushed unflushed before after
  pub same : HasNotFailed before.output after.output × HasNotFailed before.errors after.errors

-- Nothing has been done yet.
pub so-far-none : (reaches : Progress → Type 0) (from : Input) (before : Writers) (tally : Tally) (unflushed : Unflushed) → reaches (progress from from [] []) → tally.accepted ≡ 0
    → tally.refused ≡ 0 → RunSoFar reaches from from before before tally unflushed
so-far-none reaches from before tally unflushed reached accepted refused = record {
  octets = [];
  pieces = [];
  reached = reached;
  written = Written-nil before;
  tallies = record { accepted = accepted; refused = refused };
  few = omega arith;
  failures = refl;
  flushes = (refl, refl);
  handed = ((λ none. inl refl), (λ none. inl refl));
  same = ((refl, refl), (refl, refl));
}

-- `IsFlushedIf` implies `IsFlushed`.
flushed-handed : (written : Bool) (before mid after : Writer) → (written ≡ false → IsFlushed before mid) → IsFlushedIf written mid after → IsFlushed before after
flushed-handed true before mid after handed flushed = inr flushed
flushed-handed false before mid after handed flushed = let H : Writer → Type 0 = λ w. IsFlushed before w in subst H (sym flushed) (handed refl)

module _ (reaches : Progress → Type 0) (from to : Input) (before mid : Writers) (tally : Tally) (unflushed : Unflushed) (ran : RunSoFar reaches from to before mid tally unflushed) where
  -- There are fewer than 2^63 pieces.
  pub tally-few : tally.accepted + tally.refused < 2 ^ 63
  tally-few = omega (arith, ran.tallies.accepted, ran.tallies.refused, counted-all ran.pieces, ran.few)

  -- A read is needed.
  pub read-needed : (pieces : RunPieces) (on : Progress → Type 0) (after : Writers) (r : Result RunStep RunFault)
      → ((so : Progress) → reaches so → TakesStep pieces on so mid after r) → r ≡ Ok step.Read
      → (now : RunSoFar on from to before after tally unflushed) × IsOpen pieces (progress from to now.octets now.pieces)
  read-needed pieces on after r gives is =
      let one = rw is at gives (progress from to ran.octets ran.pieces) ran.reached in
      rw one.0 (
        record {
          octets = ran.octets;
          pieces = ran.pieces;
          reached = one.1;
          written = ran.written;
          tallies = ran.tallies;
          few = ran.few;
          failures = ran.failures;
          flushes = ran.flushes;
          handed = ran.handed;
          same = ran.same;
        },
        one.2,
      )

  -- There are no more pieces.
  pub nothing-left : (pieces : RunPieces) (on : Progress → Type 0) (after : Writers) (r : Result RunStep RunFault)
      → ((so : Progress) → reaches so → TakesStep pieces on so mid after r) → r ≡ Ok step.End
      → (now : RunSoFar reaches from to before after tally unflushed) × IsDone pieces (progress from to now.octets now.pieces)
  nothing-left pieces on after r gives is =
      let one = rw is at gives (progress from to ran.octets ran.pieces) ran.reached in
      rw one.0 (ran, one.1)

-- ---- The effects of a run on its devices, for each way in which it can end.

-- If a property is true of the octets that were read, followed by any further input, it is true of
-- a known input.
known-whole : (left left' : Option (List ℕ)) (octets : List ℕ) (ended : Bool) (P : List ℕ → Type 0) → Consumes left left' octets → (ended ≡ true → IsAtEnd left')
    → ((t : List ℕ) → (ended ≡ true → t ≡ []) → P (octets ++ t)) → IfSome left P
known-whole None left' octets ended P read at_end whole = tt
known-whole (Some s) None octets ended P read at_end whole = absurd read
known-whole (Some s) (Some t) octets ended P read at_end whole = subst P (sym read) (whole t at_end)

module _ (reaches : Progress → Type 0) (from to : Input) (before mid : Writers) (tally : Tally) (unflushed : Unflushed) (ran : RunSoFar reaches from to before mid tally unflushed) (pieces : RunPieces)
    (n : ℕ)
    (counts : AddsReads from.reads to.reads 0 n)
    (rare : FlushesAtMost n before mid) where
  abbrev pub so : Progress
  so = progress from to ran.octets ran.pieces

  -- A prefix of a piece was written.
  pub leaves-cut : (on : Progress → Type 0) (after : Writers) (takes : Bool) (r : Result RunStep RunFault) (f : RunFault) (result : Result Tally RunFault)
      → ((so : Progress) → reaches so → TakesStep pieces on so mid after r) → StopsPiece takes r → BlamesWriter mid after r
      → after.output.flushes ≡ mid.output.flushes → after.errors.flushes ≡ mid.errors.flushes → r ≡ Err f → result ≡ Err f
      → LeavesDevices pieces from to before after result
  leaves-cut on after takes r f result gives stops blames output errors is same =
      rw same (by f (rw is at stops) (rw is at blames))
    where
      cut : IsCut pieces so mid after
      cut = rw is at gives so ran.reached

      none : NoFlushFails before after
      none = (ap (λ f. f.failed) output ∙ ran.flushes.0, ap (λ f. f.failed) errors ∙ ran.flushes.1)

      rarely : FlushesByRead from.reads to.reads before after
      rarely = flushes-by from.reads to.reads n before after counts (flushes-up n (n + 1) before after (omega arith) (flushes-kept n before mid after output errors rare))

      all : ReadsAndWrites pieces from to before after
      all = record {
        octets = ran.octets;
        ended = cut.ended;
        read = cut.read;
        at_end = cut.at_end;
        written = record { given = ran.pieces; next = cut.next; rest = cut.rest; parts = cut.parts; between = mid; whole = ran.written; prefix = cut.prefix };
      }

      by : (g : RunFault) → StopsPiece {X = RunStep} takes (Err g) → BlamesWriter {X = RunStep} mid after (Err g) → LeavesDevices pieces from to before after (Err g)
      by Read stops' blames' = absurd stops'
      by InputTooLong stops' blames' = absurd stops'
      by Write stops' blames' = record {
        ran = all;
        ends = λ fails. absurd (none-fails before after none fails);
        whole = tt;
        order = λ fails. absurd (fails none.1);
        flushed = tt;
        failures = ran.failures;
        reads = reads-at-most from.reads to.reads n (Err Write) counts (λ long. cc);
        flushes = rarely;
        writers = blames-then RunStep Tally before mid after Write ran.same blames';
      }
      by Memory stops' blames' = record {
        ran = all;
        ends = (cut.accepted, λ going none'. absurd (cut.some going none'));
        whole = tt;
        order = λ fails. absurd (fails none.1);
        flushed = tt;
        failures = ran.failures;
        reads = reads-at-most from.reads to.reads n (Err Memory) counts (λ long. cc);
        flushes = rarely;
        writers = blames-then RunStep Tally before mid after Memory ran.same blames';
      }

  -- A flush before a read failed.
  pub leaves-held : (waits : Bool) (unflushed' : Unflushed) (after : Writers) (handed : Result (Unit {0}) RunFault) (f : RunFault) (result : Result Tally RunFault)
      → IsOpen pieces so → FlushesWritten waits unflushed unflushed' mid after handed → handed ≡ Err f → result ≡ Err f
      → LeavesDevices pieces from to before after result
  leaves-held waits unflushed' after handed f result open' hands is same =
      let write : f ≡ Write = rw is at hands.fault in
      rw (same ∙ ap Err write) (record {
        ran = record {
          octets = ran.octets;
          ended = false;
          read = open'.read;
          at_end = λ end. absurd (false≢true end);
          written = all-written before mid after _ ran.pieces open'.certain hands.output hands.errors ran.written;
        };
        ends = λ fails. (refl, refl);
        whole = tt;
        order = λ fails. flushed-handed unflushed.output before.output mid.output after.output ran.handed.0 (hands.order (λ none. fails (none ∙ ran.flushes.1)));
        flushed = tt;
        failures = ran.failures;
        reads = reads-at-most from.reads to.reads n (Err Write) counts (λ long. cc);
        flushes = flushes-by from.reads to.reads n before after counts (flushes-then n 1 before mid after rare hands.once);
        writers = blames-then (Unit {0}) Tally before mid after Write ran.same (rw (is ∙ ap Err write) at hands.counts);
      })

  -- A read failed, or was not made.
  pub leaves-unread : (on : Progress → Type 0) (waits : Bool) (unflushed' : Unflushed) (to' : Input) (after : Writers) (handed : Result (Unit {0}) RunFault) (r : Result (Unit {0}) RunFault) (n' : ℕ)
      (f : RunFault)
      (result : Result Tally RunFault)
      → IsOpen pieces so → FlushesWritten waits unflushed unflushed' mid after handed → handed ≡ Ok tt
      → ((so : Progress) → so.left ≡ to.left → reaches so → ReadsOctets on so to'.left r) → AddsReads to.reads to'.reads n n' → CountsRead n n' r
      → to'.failures ≡ read_failures_after to.failures r → (waits ≡ false → r ≢ Err Read) → r ≡ Err f → result ≡ Err f
      → LeavesDevices pieces from to' before after result
  leaves-unread on waits unflushed' to' after handed r n' f result open' hands well reads more made failures sure is same =
      rw same (by f is (rw is at made) (rw is at failures))
    where
      stays : HasNotFailed mid.output after.output × HasNotFailed mid.errors after.errors
      stays = rw well at hands.counts

      flushes : NoFlushFails mid after
      flushes = rw well at hands.none

      none : NoFlushFails before after
      none = (flushes.0 ∙ ran.flushes.0, flushes.1 ∙ ran.flushes.1)

      writers : HasNotFailed before.output after.output × HasNotFailed before.errors after.errors
      writers = (same-then _ _ _ _ _ _ ran.same.0 stays.0, same-then _ _ _ _ _ _ ran.same.1 stays.1)

      all-counts : AddsReads from.reads to'.reads 0 n'
      all-counts = adds-then from.reads to.reads to'.reads 0 n n' counts more

      rarely : FlushesByRead from.reads to'.reads before after
      rarely =
          let order : n + 1 ≤ n' + 1 = omega (arith, more.order) in
          flushes-by from.reads to'.reads n' before after all-counts (flushes-up (n + 1) (n' + 1) before after order (flushes-then n 1 before mid after rare hands.once))

      all : ReadsAndWrites pieces from to' before after
      all = record {
        octets = ran.octets;
        ended = false;
        read = subst (λ bs. Consumes from.left to'.left bs) (append-nil ran.octets)
            (Consumes-trans from.left to.left to'.left ran.octets [] open'.read (rw is at reads so refl ran.reached).0);
        at_end = λ end. absurd (false≢true end);
        written = all-written before mid after _ ran.pieces open'.certain hands.output hands.errors ran.written;
      }

      on-hand : r ≡ Err Read → HasFlushed {X = Tally} before after (Err Read)
      on-hand read =
          elim (rw well at hands.flushed) [
            | inl flushed ↦ (
              flushed-handed unflushed.output before.output mid.output after.output ran.handed.0 flushed.0,
              flushed-handed unflushed.errors before.errors mid.errors after.errors ran.handed.1 flushed.1,
            )
            | inr still ↦ absurd (sure still.0 read)
          ]

      fewer : n' < max_reads → ReadsFewer from.reads to'.reads
      fewer few = let e : n' - 0 ≡ n' = omega arith in (n', few, all-counts.made ∙ ap (counted from.reads) e)

      by : (g : RunFault) → r ≡ Err g → CountsRead n n' (Err g) → to'.failures ≡ read_failures_after {X = Unit {0}} to.failures (Err g) → LeavesDevices pieces from to' before after (Err g)
      by Read is' made' failures' = record {
        ran = all;
        ends = (refl, (refl, refl), open'.accepted, λ long. cc);
        whole = tt;
        order = λ fails. absurd (fails none.1);
        flushed = on-hand is';
        failures = failures' ∙ ap (λ k. read_failures_after {X = Unit {0}} k (Err Read)) ran.failures;
        reads = reads-at-most from.reads to'.reads n' (Err Read) all-counts (λ long. cc);
        flushes = rarely;
        writers = writers;
      }
      by Write is' made' failures' = absurd made'
      by InputTooLong is' made' failures' = record {
        ran = all;
        ends = (refl, (refl, refl), open'.accepted, (rw is' at reads so refl ran.reached).1);
        whole = tt;
        order = λ fails. absurd (fails none.1);
        flushed = tt;
        failures = failures' ∙ ap (λ k. read_failures_after {X = Unit {0}} k (Err InputTooLong)) ran.failures;
        reads = reads-at-most from.reads to'.reads n' (Err InputTooLong) all-counts (λ long. made');
        flushes = rarely;
        writers = writers;
      }
      by Memory is' made' failures' = record {
        ran = all;
        ends = (open'.accepted, λ _ _. fewer made');
        whole = tt;
        order = λ fails. absurd (fails none.1);
        flushed = tt;
        failures = failures' ∙ ap (λ k. read_failures_after {X = Unit {0}} k (Err Memory)) ran.failures;
        reads = reads-at-most from.reads to'.reads n' (Err Memory) all-counts (λ long. cc);
        flushes = rarely;
        writers = writers;
      }

  -- There are no more pieces.
  module _ (done : IsDone pieces so) (after : Writers) (handed : Result (Unit {0}) RunFault) (hands : FlushesBoth mid after handed) where
    abbrev all : ReadsAndWrites pieces from to before after
    all = record {
      octets = ran.octets;
      ended = done.ended;
      read = done.read;
      at_end = done.at_end;
      written = all-written before mid after _ ran.pieces done.certain hands.output hands.errors ran.written;
    }

    -- A flush failed.
    pub leaves-done-held : (f : RunFault) (result : Result Tally RunFault) → handed ≡ Err f → result ≡ Err f → LeavesDevices pieces from to before after result
    leaves-done-held f result is same =
        let write : f ≡ Write = rw is at hands.fault in
        rw (same ∙ ap Err write) (record {
          ran = all;
          ends = λ fails. (refl, refl);
          whole = tt;
          order = λ fails. inr (hands.order (λ none. fails (none ∙ ran.flushes.1)));
          flushed = tt;
          failures = ran.failures;
          reads = reads-at-most from.reads to.reads n (Err Write) counts (λ long. cc);
          flushes = flushes-by from.reads to.reads n before after counts (flushes-then n 1 before mid after rare hands.once);
          writers = blames-then (Unit {0}) Tally before mid after Write ran.same (rw (is ∙ ap Err write) at hands.counts);
        })

    -- Everything was flushed.
    pub leaves-done : handed ≡ Ok tt → LeavesDevices pieces from to before after (Ok tally)
    leaves-done well =
        let stays = rw well at hands.counts in
        let flushes = rw well at hands.none in
        let W : List Piece → Type 0 = λ ps. WritesPieces before after ps × Tallies tally ps in
        let whole : (t : List ℕ) → (done.ended ≡ true → t ≡ []) → W (pieces.whole (ran.octets ++ t)) = λ t none.
        subst W (sym (done.whole t none)) (written-kept before mid after ran.pieces hands.output hands.errors ran.written, ran.tallies) in
        record {
          ran = all;
          ends = (done.all, (refl, refl), whole);
          whole = known-whole from.left to.left ran.octets done.ended (λ s. W (pieces.whole s)) done.read done.at_end whole;
          order = λ fails. absurd (fails (flushes.1 ∙ ran.flushes.1));
          flushed = rw well at hands.flushed;
          failures = ran.failures;
          reads = reads-at-most from.reads to.reads n (Ok tally) counts (λ long. cc);
          flushes = flushes-by from.reads to.reads n before after counts (flushes-then n 1 before mid after rare hands.once);
          writers = (same-then _ _ _ _ _ _ ran.same.0 stays.0, same-then _ _ _ _ _ _ ran.same.1 stays.1);
        }

-- ---- The reads of a run that does not allocate memory for its pieces.

-- the number of reads in a run that made n reads
run-reads : {X : Type 0} (takes : Bool) (reads reads' n : ℕ) (r : Result X RunFault) → AddsReads reads reads' 0 n → (r ≡ Err InputTooLong → n ≡ max_reads)
    → (takes ≡ false → r ≡ Err Memory → n < max_reads) → RunReads takes reads reads' r
run-reads takes reads reads' n r counts long wanted = grind arith

-- A read failed, or was not made.
pub run-reads-unread : (takes : Bool) (a b c n n' : ℕ) (r : Result (Unit {0}) RunFault) (f : RunFault) (result : Result Tally RunFault) → AddsReads a b 0 n → AddsReads b c n n' → CountsRead n n' r
    → r ≡ Err f → result ≡ Err f → RunReads takes a c result
run-reads-unread takes a b c n n' r f result counts more made is same = rw same (by f (rw is at made))
  where
    by : (g : RunFault) → CountsRead n n' (Err g) → RunReads {X = Tally} takes a c (Err g)
    by Read made' = run-reads takes a c n' (Err Read) (adds-then a b c 0 n n' counts more) (λ long. cc) (λ none wanted. cc)
    by Write made' = absurd made'
    by InputTooLong made' = run-reads takes a c n' (Err InputTooLong) (adds-then a b c 0 n n' counts more) (λ long. made') (λ none wanted. cc)
    by Memory made' = run-reads takes a c n' (Err Memory) (adds-then a b c 0 n n' counts more) (λ long. cc) (λ none wanted. made')

-- ---- The outcome of a job, from the result of its run.

-- a run over its input, and then the flush of the remaining output
pub ends-run : (pieces : RunPieces) (from to : Input) (before between after : Writers) (ran ran' : Result Tally RunFault)
    → LeavesDevices pieces from to before between ran → ran' ≡ ran → FlushesRest between.output after.output ran → after.errors ≡ between.errors
    → EndsRun pieces from to before after ran'
ends-run pieces from to before between after ran ran' leaves same rest errors = rw same (record { between = between; leaves = leaves; rest = rest; errors = errors })

-- The run read standard input.
pub runs-standard : {Standard File : Type 0} (inputs : KnownInputs Standard File) (file : Option (Bor (List ℕ))) (run : (from to : Input) → Type 0) → file ≡ None
    → RunsOver inputs.of_standard inputs.standard run → RunsOverInput inputs file run
runs-standard inputs file run none runs = rw none runs

-- The run read a file.
pub runs-file : {Standard File : Type 0} (inputs : KnownInputs Standard File) (file : Option (Bor (List ℕ))) (name : Bor (List ℕ)) (run : (from to : Input) → Type 0) → file ≡ Some name
    → RunsOver inputs.of_file (inputs.named name.now) run → RunsOverInput inputs file run
runs-file inputs file name run some runs = rw some runs

-- If only a part of the help was written, the line of the write fault follows.
pub help-in-part : (text : List ℕ) (before after : Writers) (status : ℕ) (fault : RunFault) → Writes {X = Unit {0}} before.output.taken after.output.taken text (Err fault)
    → CountsCalls {X = Unit {0}} before.output after.output (Err fault)
    → WritesLine before.errors after.errors (run_line fault) → status ≡ 2 → WritesHelp text before after status
help-in-part text before after status fault writes counts line is =
    InPart writes.1 counts (rw writes.0 at line) is

-- ---- The inputs that were opened.

pub opens-none : (before : Option (List InputName)) → Opens before before []
opens-none None = tt
opens-none (Some names) = sym (append-nil names)

pub opens-then : (before mid after : Option (List InputName)) (names more : List InputName) → Opens before mid names → Opens mid after more → Opens before after (names ++ more)
opens-then before mid after names more one two = grind (arith, common_steps)
