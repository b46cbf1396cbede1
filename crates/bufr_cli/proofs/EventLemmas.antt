-- The progress of a run over the events of a stream, and the effect of each further step.
use Rattle.bufr_frame.specs.Prelude.{Advances, FinderModel, NeedsRead, ReadsAndPasses, ReturnsNextEvent, StreamEvent, events_of, new_finder, open_scan, scan, scan_from}
use Rattle.std.proofs.Common.{◌≡◌, ◌∙◌, ◌≤◌, ◌<◌, ◌^◌, ℕ, ◌+◌, ◌-◌, Bool, true, false, List, [], ◌∷◌, ◌++◌, length, length-append, refl, sym, ap, subst, arith, Option, Some, None, Ok, append-nil, append_assoc, map}
use Rattle.std.specs.List.{concat}
use Rattle.std.specs.Io.KnownBytes.{IsAtEnd}
use Rattle.std.proofs.KnownBytes.{Consumes-nil}
use Rattle.std.proofs.lemmas.Bool.{false≢true}
use Rattle.bufr_frame.specs.declared.finder.Event.{Event}
use Rattle.bufr_frame.specs.declared.finder.Event.TheVariants.{Done}
use Rattle.bufr_bits.specs.Prelude.{counted}
use Rattle.bufr_frame.proofs.FinderLemmas.{events-are-open, Advances-none, Follows-none, ReadsAndPasses-then, whole-scan, events-are-certain}
use Rattle.bufr_cli.specs.Prelude.{IsCut, IsDone, IsOpen, Piece, Progress, Writers, WritesEvents, WritesPrefixes, event_pieces, no_progress, read_pieces, with_piece}
use Rattle.bufr_cli.proofs.RunLemmas.{map-append}

-- Nothing has been read or written yet.
pub no-events : (piece : StreamEvent → Piece) (left : Option (List ℕ)) (s : FinderModel) → s ≡ new_finder → WritesEvents piece s (no_progress left)
no-events piece left s is =
    rw is (record {
      events = [];
      passes = record {
        read = Consumes-nil left;
        advances = Advances-none false 0 [];
        follows = Follows-none 0 [];
        kept = λ end. absurd (false≢true end);
        end = λ _ end. absurd (false≢true end);
      };
      pieces = refl;
      sound = refl;
      few = omega arith;
      near = omega arith;
    })

-- If a count is unchanged, no read was made.
none-counted : (a b : ℕ) → a ≤ b → 0 ≡ counted 0 (b - a) → b ≡ a
none-counted a b order made = omega (arith, order, made)

no-lists : (given : List (List ℕ)) → length given ≡ 0 → concat given ≡ []
no-lists [] none = refl
no-lists (octets ∷ more) none = absurd (omega (arith, none))

-- The event is returned without a read, whatever the remaining input and the number of reads are.
abbrev Gives : (s s' : FinderModel) → Event → Type 0
Gives s s' event = (left : Option (List ℕ)) (reads : ℕ) → ReturnsNextEvent left left reads reads s s' (Ok event)

pub held-reads : (s s' : FinderModel) (event : Event) → Gives s s' event → s'.reads ≡ s.reads
held-reads s s' event gives = let next = gives None 0 in none-counted s.reads s'.reads next.counts.order next.counts.made

module _ (piece : StreamEvent → Piece) (s : FinderModel) (so : Progress) (wrote : WritesEvents piece s so) where
  -- A read is needed.
  module _ (s1 : FinderModel) (needs : NeedsRead s s1) where
    passed : ReadsAndPasses so.from so.left new_finder s1 so.octets wrote.events
    passed =
        let A : List ℕ → List StreamEvent → Type 0 = λ bs es. ReadsAndPasses so.from so.left new_finder s1 bs es in
        let B : List ℕ → Type 0 = λ bs. A bs wrote.events in
        let C : List StreamEvent → Type 0 = λ es. A (so.octets ++ []) es in
        subst B (append-nil so.octets)
        (subst C (append-nil wrote.events) (ReadsAndPasses-then so.from so.left so.left s s1 so.octets [] wrote.events [] wrote.passes (needs.passes so.left)))

    pub events-held : WritesEvents piece s1 so
    events-held = record {
      events = wrote.events;
      passes = passed;
      pieces = wrote.pieces;
      sound = needs.fault;
      few = omega (arith, wrote.few, (needs.passes so.left).follows.offset);
      near = needs.near;
    }

    pub events-open : IsOpen (event_pieces piece) so
    events-open = record {
      read = wrote.passes.read;
      certain = ap (map piece) (events-are-open so.octets s1.rest wrote.events s1.at (rw needs.going at passed.advances) (needs.none s1.at)) ∙ sym wrote.pieces;
      accepted = λ stops. absurd (false≢true stops);
    }

  -- An event is returned.
  module _ (s' : FinderModel) (event : Event) (gives : Gives s s' event) where
    abbrev given : ReturnsNextEvent so.left so.left 0 0 s s' (Ok event)
    given = gives so.left 0

    no-octets : given.steps.0 ≡ []
    no-octets =
        let needed = given.steps.3 in
        needed.octets ∙ no-lists needed.given (omega (arith, needed.made, held-reads s s' event gives))

    passes : ReadsAndPasses so.from so.left new_finder s' so.octets (wrote.events ++ events_of event)
    passes =
        let es = wrote.events ++ events_of event in
        let A : List ℕ → Type 0 = λ bs. ReadsAndPasses so.from so.left new_finder s' bs es in
        subst A (ap (λ bs. so.octets ++ bs) no-octets ∙ append-nil so.octets)
        (ReadsAndPasses-then so.from so.left so.left s s' so.octets given.steps.0 wrote.events (events_of event) wrote.passes given.steps.1)

    at-end : s'.ended ≡ true → IsAtEnd so.left
    at-end = passes.end (λ end. absurd (false≢true end))

    module _ (here : StreamEvent) (is : events_of event ≡ here ∷ []) where
      -- The piece of the event was written.
      pub event-written : s'.fault ≡ None → s.at < s'.at → WritesEvents piece s' (with_piece so (piece here)) × (length so.pieces + 1 < 2 ^ 63)
      event-written sound on = (
        record {
          events = wrote.events ++ here ∷ [];
          passes = rw is at passes;
          pieces = ap (λ l. l ++ piece here ∷ []) wrote.pieces ∙ sym (map-append piece wrote.events (here ∷ []));
          sound = sound;
          few = omega (arith, wrote.few, on, length-append so.pieces (piece here ∷ []));
          near = given.near;
        },
        omega (arith, wrote.few, on, given.near),
      )

      -- A prefix of the piece was written.
      pub event-cut : (before after : Writers) → WritesPrefixes before after (piece here ∷ []) → IsCut (event_pieces piece) so before after
      event-cut before after prefix =
          let more = read-prefix s'.ended so.octets s'.rest (wrote.events ++ here ∷ []) s'.at (rw is at passes.advances) in
          record {
            ended = s'.ended;
            read = wrote.passes.read;
            at_end = at-end;
            next = Some (piece here);
            rest = map piece more.0;
            parts = read-pieces s'.ended so.octets ∙ ap (map piece) more.1 ∙ map-append piece (wrote.events ++ here ∷ []) more.0
                ∙ ap (λ l. l ++ map piece more.0) (map-append piece wrote.events (here ∷ []))
                ∙ append_assoc (map piece wrote.events) (piece here ∷ []) (map piece more.0)
                ∙ ap (λ l. l ++ piece here ∷ map piece more.0) (sym wrote.pieces);
            prefix = prefix;
            accepted = λ stops. absurd (false≢true stops);
            some = λ _ none. some-none (piece here) none;
          }
        where
          -- the events of the octets that were read
          read_events : (ended : Bool) → List ℕ → List StreamEvent
          read_events true bs = scan bs
          read_events false bs = open_scan bs

          read-pieces : (ended : Bool) (bs : List ℕ) → read_pieces (event_pieces piece) ended bs ≡ map piece (read_events ended bs)
          read-pieces true bs = refl
          read-pieces false bs = refl

          -- The events so far are a prefix of the events of the octets that were read.
          read-prefix : (ended : Bool) (octets rest : List ℕ) (events : List StreamEvent) (at : ℕ) → Advances ended 0 octets events at rest
              → (more : List StreamEvent) × (read_events ended octets ≡ events ++ more)
          read-prefix true octets rest events at advances = (scan_from 0 at rest, whole-scan true octets rest events at advances)
          read-prefix false octets rest events at advances = events-are-certain octets rest events at advances

          some-none : (p : Piece) → Some p ≡ None → ⊥
          some-none p none = cc

  -- There are no more events.
  pub events-done : (s' : FinderModel) → Gives s s' Done → IsDone (event_pieces piece) so
  events-done s' gives =
      let on = passes s' Done gives in
      let ends = (gives so.left 0).ends.1 in
      let all : scan so.octets ≡ wrote.events = whole-scan s'.ended so.octets s'.rest (wrote.events ++ []) s'.at on.advances ∙ ap (λ l. (wrote.events ++ []) ++ l) (ends.1 s'.at)
      ∙ append-nil (wrote.events ++ []) ∙ append-nil wrote.events in
      let pieces : map piece (scan so.octets) ≡ so.pieces = ap (map piece) all ∙ sym wrote.pieces in
      record {
        ended = true;
        read = wrote.passes.read;
        at_end = λ _. at-end s' Done gives ends.0;
        all = λ _. refl;
        certain = pieces;
        whole = λ t none. ap (λ bs. map piece (scan (so.octets ++ bs))) (none refl) ∙ ap (λ bs. map piece (scan bs)) (append-nil so.octets) ∙ pieces;
      }
