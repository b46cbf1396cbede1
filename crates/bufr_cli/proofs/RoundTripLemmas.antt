-- The dump text of a stream is encoded to messages that have the same dump text. A text that was
-- written by hand is encoded to messages that have its normal text.
use Rattle.std.proofs.Common.{subst, ◌-◌, None, option_map, ◌≡◌, ◌∙◌, ◌⊎◌, ℕ, suc, ◌+◌, ◌<◌, ◌≤◌, List, [], ◌∷◌, ◌++◌, length, map, Option, Some, Result, Ok, Err, refl, sym, ap, arith, inl, inr, length-append, flat_map, count_by, slice_index, rules}
use Rattle.std.specs.List.{AllByRecursion, AllZip, concat, filter}
use Rattle.std.proofs.lemmas.List.Sums.{length-filter}
use Rattle.bufr_tables.specs.Prelude.{tree_of, tables_of, Record, Row, AreRows, Sequence, Tree}
use Rattle.bufr_tables.specs.declared.fault.TemplateFault.{TemplateFault}
use Rattle.bufr_tables.proofs.SoundLemmas.{tree_fine}
use Rattle.bufr_frame.specs.Prelude.{max_octets, StreamEvent, FrameAt, StrayAt, scan, scan_from, Sections, sections_of}
use Rattle.bufr_frame.specs.declared.fault.SectionFault.{SectionFault}
use Rattle.bufr_frame.proofs.ScanLemmas.{IsSmall, framed_octets, frames-within, small-frames, scan_from-nil}
use Rattle.bufr_walk.specs.Prelude.{Values, View, next_item, data_of, reading_of, fault_at, Stop}
use Rattle.bufr_text.specs.Prelude.{between, lines_of, parse_lines, Document, ParseResult, Complete, Refused, documents_of, dump_lines, dump_text_of, IsOctet, IsAccepted, HasSameReading, dump_items, IsReadAs, encoding_in, IsProper, AreProper, split_of}
use Rattle.bufr_text.specs.declared.fault.DocumentFault.{DocumentFault}
use Rattle.bufr_text.proofs.FormLemmas.{canonical_encoded}
use Rattle.bufr_text.proofs.DumpableLemmas.{dumpable}
use Rattle.bufr_walk.proofs.NextField.{table_read}
use Rattle.bufr_text.proofs.RoundTripLemmas.{accepted_again, encoded_again, same_text}
use Rattle.bufr_text.proofs.LawLemmas.{spelled-proper}
use Rattle.bufr_text.proofs.DumpTextLemmas.{text-spells}
use Rattle.bufr_cli.specs.Prelude.{text_or_fault, dump_or_report, dump_piece, Piece, OnOutput, OnErrors, output_of, errors_of, is_accepted, is_refused, encoded, result_piece, up_to_refused, accepted_in, accepted_messages, dump_pieces, dumped, longer_by, rebuilding, rebuilt, IsBuiltAgain, IsWholeRound, IsCanonicalMessage, RoundTrips, Written, IsDumpedInOneSpelling, before_refused, built, form_pieces, normal_by, normal_text, normal_texts, holding, Tallies, WritesWhole, document_pieces, event_pieces}
use Rattle.bufr_text.specs.declared.encode.Form.TheVariants.{AsWritten}
use Rattle.bufr_cli.proofs.DumpLemmas.{data_or_report, data_piece, piece-by-template, read-piece, template_piece}
use Rattle.std.proofs.lemmas.List.{length-map}
use Rattle.bufr_text.specs.declared.encode.Form.{Form}
use Rattle.bufr_text.proofs.NormalLemmas.{dump_is_normal, encoded_again_same, encoded_read}
use Rattle.bufr_fill.proofs.ReadsLemmas.{reads_as}

-- A list with elements below 256 consists of octets.
pub octets-all : (s : List ℕ) → ((i : ℕ) → slice_index s i < 256) → AllByRecursion IsOctet s
octets-all [] small = tt
octets-all (c ∷ s) small = (small 0, octets-all s (λ i. small (suc i)))

-- ---- Lists of pieces.

-- If every piece goes to the output, all of them are written.
pub outputs-whole : (ms : List (List ℕ)) → up_to_refused (map OnOutput ms) ≡ map OnOutput ms
unfolding up_to_refused
outputs-whole [] = refl
outputs-whole (m ∷ ms) = cc (outputs-whole ms)

pub outputs-octets : (ms : List (List ℕ)) → flat_map output_of (map OnOutput ms) ≡ concat ms
outputs-octets [] = refl
outputs-octets (m ∷ ms) = cc (outputs-octets ms)

pub outputs-silent : (ms : List (List ℕ)) → flat_map errors_of (map OnOutput ms) ≡ []
outputs-silent [] = refl
outputs-silent (m ∷ ms) = outputs-silent ms

pub outputs-refused : (ms : List (List ℕ)) → filter is_refused (map OnOutput ms) ≡ []
outputs-refused [] = refl
outputs-refused (m ∷ ms) = outputs-refused ms

pub outputs-accepted : (ms : List (List ℕ)) → length (filter is_accepted (map OnOutput ms)) ≡ length ms
outputs-accepted [] = refl
outputs-accepted (m ∷ ms) = ap suc (outputs-accepted ms)

-- The accepted pieces contain all of the output.
accepted-output : (ps : List Piece) → flat_map output_of (filter is_accepted ps) ≡ flat_map output_of ps
accepted-output [] = refl
accepted-output (OnOutput text ∷ ps) = cc (accepted-output ps)
accepted-output (OnErrors text ∷ ps) = accepted-output ps

accepted-silent : (ps : List Piece) → flat_map errors_of (filter is_accepted ps) ≡ []
accepted-silent [] = refl
accepted-silent (OnOutput text ∷ ps) = accepted-silent ps
accepted-silent (OnErrors text ∷ ps) = accepted-silent ps

accepted-refused : (ps : List Piece) → filter is_refused (filter is_accepted ps) ≡ []
accepted-refused [] = refl
accepted-refused (OnOutput text ∷ ps) = accepted-refused ps
accepted-refused (OnErrors text ∷ ps) = accepted-refused ps

accepted-count : (ps : List Piece) → count_by is_refused (filter is_accepted ps) ≡ 0
accepted-count ps = sym (length-filter is_refused (filter is_accepted ps)) ∙ ap length (accepted-refused ps)

-- An empty text contains no document.
pub nothing-spelled : (line : ℕ) → parse_lines line between (lines_of []) ≡ []
unfolding parse_lines lines_of split_of
nothing-spelled line = refl

-- ---- One event.

-- The message of the event is accepted, and its piece is the dump text of the message.
record IsDumped (b : List Row) (d : List Sequence) (here : StreamEvent) (p : Piece) : Type 0 where
  offset : ℕ
  octets : List ℕ
  sections : Sections
  template : Tree
  values : Values
  used : ℕ
  is : here ≡ FrameAt offset octets
  accepted : IsAccepted b d octets sections template values used
  text : p ≡ OnOutput (dump_text_of sections (dump_items b sections.subsets values))

abbrev IsFault : Piece → Type 0
IsFault p = (text : List ℕ) × (p ≡ OnErrors text)

module _ (records : List Record) (b : List Row) (d : List Sequence) (rows : AreRows records b) where
  -- The piece of an accepted message is its dump text, at any offset.
  pub accepted-piece : (m : List ℕ) (s : Sections) (template : Tree) (values : Values) (used offset : ℕ) → IsAccepted b d m s template values used
      → dump_piece b d (FrameAt offset m) ≡ OnOutput (dump_text_of s (dump_items b s.subsets values))
  accepted-piece m s template values used offset a = cc (a.sections)

  module _ (offset : ℕ) (m : List ℕ) (small : AllByRecursion IsOctet m × (length m ≤ max_octets)) where
    data-kind : (s : Sections) (template : Tree) → sections_of m ≡ Ok s → tree_of (tables_of b d) s.descriptors ≡ Ok template
        → IsFault (data_piece b offset s template) ⊎ IsDumped b d (FrameAt offset m) (data_piece b offset s template)
    data-kind s template sections expands = by (reading_of (next_item b template) (data_of s)).stop refl
      where
        by : (o : Option Stop) → (reading_of (next_item b template) (data_of s)).stop ≡ o → IsFault (data_piece b offset s template) ⊎ IsDumped b d (FrameAt offset m) (data_piece b offset s template)
        by None none =
            let reads = reads_as b template (table_read records b rows) (tree_fine (tables_of b d) s.descriptors template expands).legal (data_of s) none in
            inr (record {
              offset = offset;
              octets = m;
              sections = s;
              template = template;
              values = (reading_of (next_item b template) (data_of s)).values;
              used = reads.0;
              is = refl;
              accepted = record { octets = small.0; few = small.1; sections = sections; expands = expands; read = reads.1 };
              text = read-piece b offset s template none;
            })
        by (Some why) stops =
            let r = reading_of (next_item b template) (data_of s) in
            inl (
              _,
              ap (λ o. text_or_fault offset (data_or_report (option_map (λ why. fault_at why r.subset (length (data_of s).bits - length r.left)) o)
                  (dump_text_of s (dump_items b s.subsets r.values)))) stops,
            )

    template-kind : (s : Sections) (made : Result Tree TemplateFault) → sections_of m ≡ Ok s → tree_of (tables_of b d) s.descriptors ≡ made
        → IsFault (template_piece b offset s made) ⊎ IsDumped b d (FrameAt offset m) (template_piece b offset s made)
    template-kind s (Ok template) sections expands = data-kind s template sections expands
    template-kind s (Err fault) sections expands = inl (_, refl)

    message-kind : (parsed : Result Sections SectionFault) → sections_of m ≡ parsed
        → IsFault (text_or_fault offset (dump_or_report b d parsed)) ⊎ IsDumped b d (FrameAt offset m) (text_or_fault offset (dump_or_report b d parsed))
    message-kind (Ok s) sections =
        subst (λ piece. IsFault piece ⊎ IsDumped b d (FrameAt offset m) piece) (sym (piece-by-template b d offset s))
        (template-kind s (tree_of (tables_of b d) s.descriptors) sections refl)
    message-kind (Err fault) sections = inl (_, refl)

  -- An event has a fault, or its message is accepted.
  event-kind : (here : StreamEvent) → IsSmall here → IsFault (dump_piece b d here) ⊎ IsDumped b d here (dump_piece b d here)
  event-kind (FrameAt offset m) small = message-kind offset m small (sections_of m) refl
  event-kind (StrayAt offset cause) small = inl (_, refl)

abbrev octets_or_none : Result (List ℕ) DocumentFault → List ℕ
octets_or_none (Ok octets) = octets
octets_or_none (Err refused) = []

-- ---- The messages of a stream.

-- consecutive messages, from an offset on
abbrev pub placed : (at : ℕ) → List (List ℕ) → List StreamEvent
placed at [] = []
placed at (m ∷ ms) = FrameAt at m ∷ placed (at + length m) ms

pub placed-count : (piece : StreamEvent → Piece) (at : ℕ) (ms : List (List ℕ)) → length (map piece (placed at ms)) ≡ length ms
placed-count piece at [] = refl
placed-count piece at (m ∷ ms) = ap suc (placed-count piece (at + length m) ms)

-- the accepted messages among events
abbrev accepted_of : (StreamEvent → Piece) → List StreamEvent → List (List ℕ)
accepted_of piece es = flat_map (λ here. accepted_in here (piece here)) es

-- The results of events: their pieces, the dump text and the accepted messages in these pieces, and
-- the number of octets in the frames.
record Events : Type 0 where
  text : List ℕ
  accepted : List (List ℕ)
  pieces : List Piece
  most : ℕ

-- If the text of the events begins on this line, it is encoded to as many messages, with the same
-- readings. In a stream, these messages are framed one by one and have the same pieces.
record Built (b : List Row) (d : List Sequence) (events : Events) (line : ℕ) : Type 0 where
  messages : List (List ℕ)
  readings : AllZip (IsBuiltAgain b d) events.accepted messages
  results : map (result_piece AsWritten b d) (parse_lines line between (lines_of events.text)) ≡ map OnOutput messages
  no_longer : length (concat messages) ≤ events.most + longer_by events.accepted
  scanned : (at : ℕ) → scan_from 0 at (concat messages) ≡ placed at messages
  again : (at : ℕ) → map (dump_piece b d) (placed at messages) ≡ filter is_accepted events.pieces
  listed : (at : ℕ) → accepted_of (dump_piece b d) (placed at messages) ≡ messages
  kept : AllByRecursion (IsCanonicalMessage b d) events.accepted → messages ≡ events.accepted

framed-more : (here : StreamEvent) (es : List StreamEvent) → framed_octets es ≤ framed_octets (here ∷ es)
framed-more (FrameAt offset m) es = omega arith
framed-more (StrayAt offset cause) es = omega arith

module _ (b : List Row) (d : List Sequence) where
  abbrev piece : StreamEvent → Piece
  piece = dump_piece b d

  -- The piece of a rebuilt message is the text of the original message.
  same-piece : (records : List Record) → AreRows records b → (m : List ℕ) (s : Sections) (template : Tree) (values : Values) (used at : ℕ) (octets : List ℕ) → IsAccepted b d m s template values used
      → HasSameReading b m s template values octets
      → piece (FrameAt at octets) ≡ OnOutput (dump_text_of s (dump_items b s.subsets values))
  same-piece records rows m s template values used at octets a same =
      accepted-piece records b d rows octets same.sections template values same.used at (accepted_again b d m s template values used octets a same)
      ∙ ap OnOutput (same_text b m s template values octets same)

  -- An event with a fault contributes nothing.
  built-fault : (here : StreamEvent) (text' : List ℕ) (text : List ℕ) (accepted : List (List ℕ)) (pieces : List Piece) (most more line : ℕ) → most ≤ more
      → Built b d (record { text = text; accepted = accepted; pieces = pieces; most = most }) line
      → Built b d (record { text = text; accepted = accepted; pieces = OnErrors text' ∷ pieces; most = more }) line
  built-fault here text' text accepted pieces most more line le r = grind (arith, r.no_longer)

  -- An accepted message is rebuilt.
  built-message : (m : List ℕ) (s : Sections) (template : Tree) (values : Values) (used : ℕ) (records : List Record) (text : List ℕ) (accepted : List (List ℕ)) (pieces : List Piece) (most line : ℕ)
      → AreRows records b → IsAccepted b d m s template values used
      → Built b d (record { text = text; accepted = accepted; pieces = pieces; most = most }) (line + length (dump_lines s (dump_items b s.subsets values)))
      → Built b d (record {
        text = dump_text_of s (dump_items b s.subsets values) ++ text;
        accepted = m ∷ accepted;
        pieces = OnOutput (dump_text_of s (dump_items b s.subsets values)) ∷ pieces;
        most = length m + most;
      }) line
  built-message m s template values used records text accepted pieces most line rows a r =
      let items = dump_items b s.subsets values in
      let read = table_read records b rows in
      let legal = (tree_fine (tables_of b d) s.descriptors template a.expands).legal in
      let w = encoded_again b d m s template values used line read legal a in
      let here : (at : ℕ) → piece (FrameAt at w.octets) ≡ OnOutput (dump_text_of s items) = λ at. same-piece records rows m s template values used at w.octets a w.same in
      let rest = map (result_piece AsWritten b d) (parse_lines (line + length (dump_lines s items)) between (lines_of text)) in
      record {
        messages = w.octets ∷ r.messages;
        readings = (record { sections = s; template = template; values = values; used = used; accepted = a; same = w.same }, r.readings);
        results = ap (map (result_piece AsWritten b d)) (text-spells s items line text (dumpable b d m s template values used read legal a))
            ∙ ap (λ x. encoded x ∷ rest) w.is ∙ ap (λ l. OnOutput w.octets ∷ l) r.results;
        no_longer = omega (arith, length-append w.octets (concat r.messages), w.same.no_longer, r.no_longer);
        scanned = λ at. w.same.framed at (concat r.messages) ∙ ap (λ l. FrameAt at w.octets ∷ l) (r.scanned (at + length w.octets));
        again = λ at. ap (λ p. p ∷ map piece (placed (at + length w.octets) r.messages)) (here at) ∙ ap (λ l. OnOutput (dump_text_of s items) ∷ l) (r.again (at + length w.octets));
        listed = λ at. ap (λ p. accepted_in (FrameAt at w.octets) p ++ accepted_of piece (placed (at + length w.octets) r.messages)) (here at)
            ∙ ap (λ l. w.octets ∷ l) (r.listed (at + length w.octets));
        kept = λ all.
            let same : w.octets ≡ m = ap octets_or_none (sym w.is ∙ canonical_encoded b d m s template values used line read legal a (all.0 s template values used a)) in
            ap (λ l. l ∷ r.messages) same ∙ ap (λ l. m ∷ l) (r.kept all.1);
      }

  abbrev BuiltOf : List StreamEvent → (line : ℕ) → Type 0
  BuiltOf es line = Built b d (record { text = flat_map output_of (map piece es); accepted = accepted_of piece es; pieces = map piece es; most = framed_octets es }) line

  built-more : (records : List Record) (here : StreamEvent) (es : List StreamEvent) (line : ℕ) → AreRows records b → IsFault (piece here) ⊎ IsDumped b d here (piece here) → ((at : ℕ) → BuiltOf es at)
      → BuiltOf (here ∷ es) line
  built-more records here es line rows (inl (text, is)) rest =
      rw is (built-fault here text (flat_map output_of (map piece es)) (accepted_of piece es) (map piece es) (framed_octets es) (framed_octets (here ∷ es)) line (framed-more here es) (rest line))
  built-more records here es line rows (inr x) rest =
      rw x.text (rw x.is
      (built-message x.octets x.sections x.template x.values x.used records (flat_map output_of (map piece es)) (accepted_of piece es) (map piece es) (framed_octets es) line rows x.accepted
      (rest (line + length (dump_lines x.sections (dump_items b x.sections.subsets x.values))))))

  built_from : (records : List Record) (es : List StreamEvent) (line : ℕ) → AreRows records b → AllByRecursion IsSmall es → BuiltOf es line
  built_from records [] line rows small = record {
    messages = [];
    readings = tt;
    results = ap (map (result_piece AsWritten b d)) (nothing-spelled line);
    no_longer = omega arith;
    scanned = λ at. scan_from-nil 0 at;
    again = λ at. refl;
    listed = λ at. refl;
    kept = λ all. refl;
  }
  built_from records (here ∷ es) line rows small =
      built-more records here es line rows (event-kind records b d rows here small.0) (λ at. built_from records es at rows small.1)

  -- dump, encode, dump
  pub round-trips : (records : List Record) (s : List ℕ) → AreRows records b → AllByRecursion IsOctet s → RoundTrips b d s
  round-trips records s rows octets =
      let r = built_from records (scan s) 1 rows (small-frames 0 0 s octets) in
      let ms = r.messages in
      let pieces : rebuilding b d s ≡ map OnOutput ms = ap up_to_refused r.results ∙ outputs-whole ms in
      let are : rebuilt b d s ≡ concat ms = rw (pieces, outputs-octets) in
      let events : scan (rebuilt b d s) ≡ placed 0 ms = ap scan are ∙ r.scanned 0 in
      let texts : dump_pieces b d (rebuilt b d s) ≡ filter is_accepted (dump_pieces b d s) = ap (map piece) events ∙ r.again 0 in
      let listed : accepted_messages b d (rebuilt b d s) ≡ ms = rw (events, r.listed) in
      let many : length ms ≡ length (filter is_accepted (dump_pieces b d s)) = sym (placed-count piece 0 ms) ∙ ap length (r.again 0) in
      record {
        none_refused = ap (count_by is_refused) pieces ∙ sym (length-filter is_refused (map OnOutput ms)) ∙ ap length (outputs-refused ms);
        no_line = ap (flat_map errors_of) pieces ∙ outputs-silent ms;
        as_many = ap (count_by is_accepted) pieces ∙ sym (length-filter is_accepted (map OnOutput ms)) ∙ outputs-accepted ms ∙ many ∙ length-filter is_accepted (dump_pieces b d s);
        messages = are ∙ ap concat (sym listed);
        no_longer = omega (arith, ap length are, r.no_longer, frames-within);
        readings = rw listed r.readings;
        same_pieces = texts;
        same_text = ap (flat_map output_of) texts ∙ accepted-output (dump_pieces b d s);
        no_fault = ap (flat_map errors_of) texts ∙ accepted-silent (dump_pieces b d s);
        settled = ap (λ text. flat_map output_of (form_pieces AsWritten b d text)) (ap (flat_map output_of) texts ∙ accepted-output (dump_pieces b d s));
      }

  -- Messages that are already in canonical form are unchanged.
  pub canonical-kept : (records : List Record) (s : List ℕ) → AreRows records b → AllByRecursion IsOctet s → AllByRecursion (IsCanonicalMessage b d) (accepted_messages b d s)
      → rebuilt b d s ≡ concat (accepted_messages b d s)
  canonical-kept records s rows octets all =
      let r = built_from records (scan s) 1 rows (small-frames 0 0 s octets) in
      ap (flat_map output_of) (ap up_to_refused r.results ∙ outputs-whole r.messages) ∙ outputs-octets r.messages ∙ ap concat (r.kept all)

  -- ---- Three runs.

  -- The first run dumps a stream, the second encodes the output of the first, and the third dumps
  -- the output of the second.
  pub whole-round : (records : List Record) (stream : List ℕ) (text messages again : Written) → AreRows records b → AllByRecursion IsOctet stream
      → text.output ≡ dumped b d stream → Tallies text.tally (dump_pieces b d stream)
      → messages.output ≡ flat_map output_of (form_pieces AsWritten b d text.output) → messages.errors ≡ flat_map errors_of (form_pieces AsWritten b d text.output)
      → Tallies messages.tally (form_pieces AsWritten b d text.output)
      → again.output ≡ dumped b d messages.output → again.errors ≡ flat_map errors_of (dump_pieces b d messages.output) → Tallies again.tally (dump_pieces b d messages.output)
      → IsWholeRound b d stream text messages again
  whole-round records stream text messages again rows octets is_text first_counts is_messages is_lines second_counts is_again is_faults third_counts =
      let t = round-trips records stream rows octets in
      let built_from : form_pieces AsWritten b d text.output ≡ rebuilding b d stream = rw is_text in
      let are : messages.output ≡ rebuilt b d stream = cc (is_messages) in
      let pieces : dump_pieces b d messages.output ≡ filter is_accepted (dump_pieces b d stream) = ap (dump_pieces b d) are ∙ t.same_pieces in
      record {
        same_text = is_again ∙ ap (flat_map output_of) pieces ∙ accepted-output (dump_pieces b d stream) ∙ sym is_text;
        as_many = second_counts.accepted ∙ ap (count_by is_accepted) built_from ∙ t.as_many ∙ sym first_counts.accepted;
        none_refused = second_counts.refused ∙ ap (count_by is_refused) built_from ∙ t.none_refused;
        no_line = is_lines ∙ ap (flat_map errors_of) built_from ∙ t.no_line;
        none_refused_again = third_counts.refused ∙ ap (count_by is_refused) pieces ∙ accepted-count (dump_pieces b d stream);
        no_fault = is_faults ∙ ap (flat_map errors_of) pieces ∙ accepted-silent (dump_pieces b d stream);
        are_messages = are ∙ t.messages ∙ ap (λ l. concat (accepted_messages b d l)) (sym are);
        readings = rw are t.readings;
        no_longer = omega (arith, ap length are, t.no_longer);
        canonical = λ all. are ∙ canonical-kept records stream rows octets all;
      }

-- three runs of the program
pub three-runs : (records : List Record) (b : List Row) (d : List Sequence) (stream : List ℕ) (text messages again : Written) (e e' : Option (List ℕ)) → AreRows records b
    → AllByRecursion IsOctet stream
    → WritesWhole (event_pieces (dump_piece b d)) (holding (Some []) e) (holding (Some text.output) e') text.tally stream
    → WritesWhole (document_pieces AsWritten b d) (holding (Some []) (Some [])) (holding (Some messages.output) (Some messages.errors)) messages.tally text.output
    → WritesWhole (event_pieces (dump_piece b d)) (holding (Some []) (Some [])) (holding (Some again.output) (Some again.errors)) again.tally messages.output
    → IsWholeRound b d stream text messages again
three-runs records b d stream text messages again e e' rows octets (wrote, counts) (encodes, counted) (dumps, counts') = search (rules, whole-round)

-- ---- A text that is encoded and dumped has the normal spelling.

-- The results of documents, and their texts. The messages on the output are framed one by one and
-- have these texts. The texts are encoded to the same messages, from any line number on.
record AreBuilt (b : List Row) (d : List Sequence) (piece : StreamEvent → Piece) (pieces : List Piece) (texts : List (List ℕ)) : Type 0 where
  messages : List (List ℕ)
  written : flat_map output_of (up_to_refused pieces) ≡ concat messages
  as_many : length (filter is_accepted (up_to_refused pieces)) ≡ length messages
  scanned : (at : ℕ) → scan_from 0 at (concat messages) ≡ placed at messages
  results : (at : ℕ) → map piece (placed at messages) ≡ map OnOutput texts
  again : (line : ℕ) → map (result_piece AsWritten b d) (parse_lines line between (lines_of (concat texts))) ≡ map OnOutput messages

-- If no piece is written before the first refusal, no messages are built.
none-built : (b : List Row) (d : List Sequence) (piece : StreamEvent → Piece) (pieces : List Piece) → flat_map output_of (up_to_refused pieces) ≡ [] → filter is_accepted (up_to_refused pieces) ≡ []
    → AreBuilt b d piece pieces []
none-built b d piece pieces silent none = search (rules, scan_from-nil, nothing-spelled)

module _ (form : Form) (records : List Record) (b : List Row) (d : List Sequence) (rows : AreRows records b) where
  abbrev piece_of : StreamEvent → Piece
  piece_of = dump_piece b d

  -- another message, from a document that is encoded
  module _ (document : Document) (octets : List ℕ) (proper : IsProper document) (is : encoding_in form b d document ≡ Ok octets) (read : IsReadAs form b d document octets) where
    abbrev items : List (List View)
    items = dump_items b read.sections.subsets read.values

    abbrev text : List ℕ
    text = dump_text_of read.sections items

    text-is : text ≡ normal_text form b d document
    text-is =
        dump_is_normal form records b d rows document octets read proper
        ∙ sym (ap (normal_by form b document) (ap (tree_of (tables_of b d)) (sym read.descriptors) ∙ read.accepted.expands))

    piece-is : (at : ℕ) → piece_of (FrameAt at octets) ≡ OnOutput (normal_text form b d document)
    piece-is at =
        accepted-piece records b d rows octets read.sections read.template read.values read.used at read.accepted ∙ ap OnOutput text-is

    -- After the text of the message, reading continues.
    spells : (line : ℕ) (more : List ℕ) → map (result_piece AsWritten b d) (parse_lines line between (lines_of (normal_text form b d document ++ more)))
        ≡ OnOutput octets ∷ map (result_piece AsWritten b d) (parse_lines (line + length (dump_lines read.sections items)) between (lines_of more))
    spells line more =
        let legal = (tree_fine (tables_of b d) read.sections.descriptors read.template read.accepted.expands).legal in
        ap (λ t. map (result_piece AsWritten b d) (parse_lines line between (lines_of (t ++ more)))) (sym text-is)
        ∙ ap (map (result_piece AsWritten b d)) (text-spells read.sections items line more
        (dumpable b d octets read.sections read.template read.values read.used (table_read records b rows) legal read.accepted))
        ∙ ap (λ x. encoded x ∷ map (result_piece AsWritten b d) (parse_lines (line + length (dump_lines read.sections items)) between (lines_of more)))
        (encoded_again_same form records b d rows document octets read line proper is)

    one-more : (pieces : List Piece) (texts : List (List ℕ)) → AreBuilt b d piece_of pieces texts → AreBuilt b d piece_of (OnOutput octets ∷ pieces) (normal_text form b d document ∷ texts)
    unfolding up_to_refused
    one-more pieces texts r = record {
      messages = octets ∷ r.messages;
      written = ap (λ l. octets ++ l) r.written;
      as_many = ap suc r.as_many;
      scanned = λ at. read.framed at (concat r.messages) ∙ ap (λ l. FrameAt at octets ∷ l) (r.scanned (at + length octets));
      results = λ at. ap (λ p. p ∷ map piece_of (placed (at + length octets) r.messages)) (piece-is at) ∙ ap (λ l. OnOutput (normal_text form b d document) ∷ l) (r.results (at + length octets));
      again = λ line. spells line (concat texts) ∙ ap (λ l. OnOutput octets ∷ l) (r.again (line + length (dump_lines read.sections items)));
    }

  -- A document is encoded, or it is refused.
  document-more : (document : Document) (made : Result (List ℕ) DocumentFault) (pieces : List Piece) (texts : List (List ℕ)) → IsProper document → encoding_in form b d document ≡ made
      → AreBuilt b d piece_of pieces texts
      → AreBuilt b d piece_of (encoded made ∷ pieces) (before_refused made (normal_text form b d document) texts)
  unfolding up_to_refused
  document-more document (Ok octets) pieces texts proper is r = one-more document octets proper is (encoded_read form records b d rows document proper octets is) pieces texts r
  document-more document (Err refused) pieces texts proper is r = none-built b d piece_of _ refl refl

  are-built : (results : List ParseResult) → AreProper results → AreBuilt b d piece_of (map (result_piece form b d) results) (normal_texts form b d results)
  unfolding normal_texts up_to_refused
  are-built [] proper = none-built b d piece_of [] refl refl
  are-built (Complete document ∷ more) proper =
      document-more document (encoding_in form b d document) (map (result_piece form b d) more) (normal_texts form b d more) proper.0 refl (are-built more proper.1)
  are-built (Refused line fault ∷ more) proper = none-built b d piece_of _ refl refl

  -- Any text that is encoded and dumped has the normal spelling.
  pub one-spelling : (text : List ℕ) → IsDumpedInOneSpelling form b d text
  one-spelling text =
      let texts = normal_texts form b d (documents_of text) in
      let r = are-built (documents_of text) (spelled-proper 1 between (lines_of text) (omega arith) refl) in
      let pieces : dump_pieces b d (built form b d text) ≡ map OnOutput texts = ap (map piece_of) (ap scan r.written ∙ r.scanned 0) ∙ r.results 0 in
      let same_text : dumped b d (built form b d text) ≡ concat texts = ap (flat_map output_of) pieces ∙ outputs-octets texts in
      let many : length r.messages ≡ length texts = sym (placed-count piece_of 0 r.messages) ∙ ap length (r.results 0) ∙ length-map texts OnOutput in
      record {
        pieces = pieces;
        same_text = same_text;
        as_many = ap (count_by is_accepted) pieces ∙ sym (length-filter is_accepted (map OnOutput texts)) ∙ outputs-accepted texts ∙ sym many
            ∙ sym r.as_many ∙ length-filter is_accepted (form_pieces form b d text);
        none_refused = ap (count_by is_refused) pieces ∙ sym (length-filter is_refused (map OnOutput texts)) ∙ ap length (outputs-refused texts);
        no_fault = ap (flat_map errors_of) pieces ∙ outputs-silent texts;
        settled = ap (λ t. flat_map output_of (form_pieces AsWritten b d t)) same_text ∙ ap (λ ps. flat_map output_of (up_to_refused ps)) (r.again 1)
            ∙ ap (flat_map output_of) (outputs-whole r.messages) ∙ outputs-octets r.messages ∙ sym r.written;
      }
