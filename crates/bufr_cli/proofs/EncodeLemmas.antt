-- The progress of a run of `encode`, and the effect of each further step.
use Rattle.bufr_text.proofs.LineLemmas.{lines-cons, lines-none}
use Rattle.std.proofs.Common.{◌≡◌, ◌∙◌, ℕ, ◌+◌, ◌-◌, ◌*◌, ◌==◌, ◌≤◌, ◌<◌, ◌^◌, Bool, false, if◌then◌else◌, length-append, List, [], ◌∷◌, ◌++◌, length, None, arith, append_assoc, append-nil, Option, Result, Ok, Err, refl, sym, ap, subst, inl, true, Some, map, count_by}
use Rattle.std.proofs.lemmas.Bool.{false≢true}
use Rattle.std.proofs.lemmas.List.{length-map}
use Rattle.bufr_tables.specs.Prelude.{Row, Sequence}
use Rattle.bufr_frame.specs.Prelude.{max_reads}
use Rattle.bufr_frame.specs.declared.fault.RunFault.{RunFault}
use Rattle.bufr_frame.specs.declared.fault.RunFault.TheVariants.{Write}
use Rattle.bufr_text.specs.declared.fault.TextLineFault.{TextLineFault}
use Rattle.bufr_text.proofs.ReaderLemmas.{nothing-yet, spelled-few}
use Rattle.bufr_text.specs.Prelude.{Document, ParseResult, Refused, lines_of, documents_of, open_documents_of, parse, parse_open, ReaderModel, new_reader, position_of, parse_results, ReadsLines, ReadsDocument, ReturnsNextDocument, GivesHeldDocument, NeedsLine, FillsBuffer, HasNoWholeLine}
use Rattle.bufr_text.specs.declared.fault.ReadFault.{ReadFault}
use Rattle.bufr_text.specs.declared.encode.Form.{Form}
use Rattle.bufr_text.specs.declared.fault.ReadFault.TheVariants.{Line, Run}
use Rattle.bufr_cli.specs.declared.run_pieces.RunStep.{RunStep}
use Rattle.bufr_cli.specs.Prelude.{BlamesWriter, EncodesDocuments, IsCut, IsDone, IsOpen, LeavesPiece, NeedsText, OnErrors, OnOutput, Piece, Progress, ReadsOctets, Verdict, Writers, WritesDocuments, WritesPrefixes, counted_refused, document_pieces, encode_pieces, is_refused, no_progress, read_pieces, result_piece, up_to_refused, with_octets, with_piece}
use Rattle.bufr_cli.specs.declared.outcome.Verdict.TheVariants as verdict
use Rattle.bufr_text.proofs.CallLemmas.{call-none, call-then, fill-call, reported-first, reported-first-openly, reported-at-end, reported-at-fault}
use Rattle.bufr_cli.proofs.RunLemmas.{count-append, map-append, prefixes-nil}
use Rattle.std.specs.List.{onto_first}

-- the report of a fault in the text
pub read-refusal : (fault : ReadFault) → ((run : RunFault) → fault ≡ Run run → ⊥) → (line : ℕ) × (why : TextLineFault) × (parse_results (Err fault) ≡ Refused line why ∷ [])
read-refusal (Line line why) some = (line, why, refl)
read-refusal (Run run) some = absurd (some run refl)

-- ---- The pieces of a run before and after the first refusal.

-- If none of these pieces is a refusal, the run continues with the pieces after them.
up-to-more : (pieces more : List Piece) → count_by is_refused pieces ≡ 0 → up_to_refused (pieces ++ more) ≡ pieces ++ up_to_refused more
unfolding up_to_refused
up-to-more [] more none = refl
up-to-more (OnOutput text ∷ pieces) more none =
    let r : count_by is_refused (OnOutput text ∷ pieces) ≡ 0 + count_by is_refused pieces = omega arith in
    cc (up-to-more pieces more (omega (arith, r)))
up-to-more (OnErrors text ∷ pieces) more none =
    let r : count_by is_refused (OnErrors text ∷ pieces) ≡ 1 + count_by is_refused pieces = count-append is_refused (OnErrors text ∷ []) pieces in
    absurd (omega (arith, r))

up-to-all : (pieces : List Piece) → count_by is_refused pieces ≡ 0 → up_to_refused pieces ≡ pieces
unfolding up_to_refused
up-to-all pieces none = ap up_to_refused (sym (append-nil pieces)) ∙ up-to-more pieces [] none ∙ append-nil pieces

-- A refusal is the last piece of a run.
up-to-refusal : (pieces more : List Piece) (p : Piece) → count_by is_refused pieces ≡ 0 → counted_refused verdict.Refused ≡ count_by is_refused (p ∷ [])
    → up_to_refused (pieces ++ p ∷ more) ≡ pieces ++ p ∷ []
unfolding up_to_refused
up-to-refusal pieces more (OnOutput text) none one = absurd (omega arith)
up-to-refusal pieces more (OnErrors text) none one = up-to-more pieces (OnErrors text ∷ more) none

-- The first piece is always part of the run.
next-piece : (p : Piece) (more : List Piece) → (rest : List Piece) × (up_to_refused (p ∷ more) ≡ p ∷ rest)
unfolding up_to_refused
next-piece (OnOutput text) more = (up_to_refused more, refl)
next-piece (OnErrors text) more = ([], refl)

-- an upper bound of the number of documents in a text
onto-few : (c : ℕ) (lines : List (List ℕ)) → length (onto_first c lines) ≤ length lines + 1
onto-few c [] = omega arith
onto-few c (line ∷ more) = omega arith

-- A line feed begins a line. Any other octet is added to the first line.
line-more : (c : ℕ) (more : List ℕ) (feed : Bool) (lines : List (List ℕ)) → length lines ≤ length more → length (if feed then [] ∷ lines else onto_first c lines) ≤ length (c ∷ more)
line-more c more true lines few = omega arith
line-more c more false lines few = omega (arith, onto-few)

lines-few : (text : List ℕ) → length (lines_of text) ≤ length text
lines-few [] = omega (arith, ap length lines-none)
lines-few (c ∷ more) = rw (lines-cons c more) (line-more c more (c == 10) (lines_of more) (lines-few more))

documents-few : (text : List ℕ) → length (documents_of text) ≤ length text + 1
documents-few text = omega (arith, spelled-few, lines-few)

-- ---- The progress of a run.

-- the documents in the octets that were read
abbrev read_documents : (ended : Bool) → List ℕ → List ParseResult
read_documents true bs = documents_of bs
read_documents false bs = open_documents_of bs

read-pieces : (form : Form) (b : List Row) (d : List Sequence) (ended : Bool) (bs : List ℕ) → read_pieces (document_pieces form b d) ended bs ≡ encode_pieces form b d (read_documents ended bs)
read-pieces form b d true bs = refl
read-pieces form b d false bs = refl

-- The results so far are a prefix of those of the octets that were read.
read-prefix : (left left' : Option (List ℕ)) (s : ReaderModel) (results : List ParseResult) (bs : List ℕ) → ReadsLines left left' new_reader s results bs
    → (more : List ParseResult) × (read_documents s.ended bs ≡ results ++ more)
read-prefix left left' s results bs call = by s.ended refl
  where
    by : (ended : Bool) → s.ended ≡ ended → (more : List ParseResult) × (read_documents ended bs ≡ results ++ more)
    by true is = (parse (position_of s) [], ap documents_of (sym (append-nil bs)) ∙ reported-first left left' s results bs [] call (λ ended. refl))
    by false is = (parse_open (position_of s) [], ap open_documents_of (sym (append-nil bs)) ∙ reported-first-openly left left' s results bs [] call is)

-- Nothing has been read or written yet.
pub no-documents : (piece : ParseResult → Piece) (left : Option (List ℕ)) (s : ReaderModel) → s ≡ new_reader → WritesDocuments piece s (no_progress left)
no-documents piece left s is =
    rw is (record {
      results = [];
      reads = call-none left new_reader;
      pieces = refl;
      accepted = refl;
      sound = refl;
      most = omega arith;
      each = λ going. omega arith;
    })

-- If the end of input has not been reached now, it had not been reached before.
going-before : (before after : Bool) → (before ≡ true → after ≡ true) → after ≡ false → before ≡ false
going-before false after kept going = refl
going-before true after kept going = absurd (false≢true (sym going ∙ kept refl))

-- a read that returned octets
more-octets : (bs : List ℕ) (reads reads' : ℕ) (octets : List ℕ) → reads ≤ length octets → reads' ≡ reads + 1 → (bs ≡ [] → ⊥) → reads' ≤ length (octets ++ bs)
more-octets [] reads reads' octets each made some = absurd (some refl)
more-octets (c ∷ bs) reads reads' octets each made some = omega (arith, each, made, length-append octets (c ∷ bs))

none-read : (bs : List ℕ) (before after : ℕ) → length bs ≤ 4096 * (after - before) → after ≡ before → bs ≡ []
none-read [] before after few same = refl
none-read (c ∷ bs) before after few same = absurd (omega (arith, few, same))

module _ (form : Form) (b : List Row) (d : List Sequence) (s : ReaderModel) (so : Progress) (wrote : WritesDocuments (result_piece form b d) s so) where
  abbrev pub piece : ParseResult → Piece
  piece = result_piece form b d

  pieces-of : (results more : List ParseResult) → up_to_refused (map piece (results ++ more)) ≡ up_to_refused (map piece results ++ map piece more)
  pieces-of results more = ap up_to_refused (map-append piece results more)

  -- The lines that were taken give further results.
  lines-taken : (s' : ReaderModel) (results : List ParseResult) (bs : List ℕ) → ReadsLines so.left so.left s s' results bs → bs ≡ []
      → ReadsLines so.from so.left new_reader s' (wrote.results ++ results) so.octets
  lines-taken s' results bs reads none =
      let R : List ℕ → Type 0 = λ octets. ReadsLines so.from so.left new_reader s' (wrote.results ++ results) octets in
      subst R (ap (λ l. so.octets ++ l) none ∙ append-nil so.octets) (call-then so.from so.left so.left new_reader s s' wrote.results results so.octets bs wrote.reads reads)

  none-refused : count_by is_refused (map piece wrote.results) ≡ 0
  none-refused = cc (wrote.pieces)

  -- A read is needed.
  module _ (s1 : ReaderModel) (needs : NeedsLine s s1) (same : s1.reads ≡ s.reads) where
    held : ReadsLines so.from so.left new_reader s1 wrote.results so.octets
    held = rw (append-nil wrote.results) at (lines-taken s1 [] [] (needs.passes so.left) refl)

    pub text-held : WritesDocuments piece s1 so
    text-held = record {
      results = wrote.results;
      reads = held;
      pieces = wrote.pieces;
      accepted = wrote.accepted;
      sound = needs.sound;
      most = omega (arith, wrote.most, same);
      each = λ open'. omega (arith, same, wrote.each (going-before s.ended s1.ended (λ ended. ((needs.passes so.left).kept ended).0) open'));
    }

    pub text-open : IsOpen (document_pieces form b d) so
    text-open =
        let no_line : HasNoWholeLine s1 = (needs.going, nothing-yet s1.at s1.parsing s1.held s1.ended needs.none needs.short, needs.none) in
        record {
          read = wrote.reads.read;
          certain = ap (encode_pieces form b d) (reported-at-fault so.from so.left s1 wrote.results so.octets held no_line) ∙ up-to-all (map piece wrote.results) none-refused ∙ sym wrote.pieces;
          accepted = λ _. wrote.accepted;
        }

  -- the end of the text
  pub text-done : (s' : ReaderModel) → GivesHeldDocument s s' (Some (Ok None)) → s'.reads ≡ s.reads → IsDone (document_pieces form b d) so
  text-done s' gives same =
      let given = gives so.left so.left s [] (call-none so.left s) (inl refl) in
      let reads : ReadsLines so.left so.left s s' [] given.octets = given.reads in
      let call = lines-taken s' [] given.octets reads (none-read given.octets s.reads s'.reads reads.few same) in
      let ends = given.ends.1 in
      let all : documents_of so.octets ≡ wrote.results = reported-at-end so.from so.left s' (wrote.results ++ []) so.octets call ends ∙ append-nil wrote.results in
      let pieces : encode_pieces form b d (documents_of so.octets) ≡ so.pieces = cc (all, up-to-all (map piece wrote.results) none-refused) in
      record {
        ended = true;
        read = wrote.reads.read;
        at_end = λ _. call.end (λ end. absurd (false≢true end)) ends.0;
        all = λ _. refl;
        certain = pieces;
        whole = λ t none. ap (λ bs. encode_pieces form b d (documents_of (so.octets ++ bs))) (none refl) ∙ ap (λ bs. encode_pieces form b d (documents_of bs)) (append-nil so.octets) ∙ pieces;
      }

  -- The buffered octets give a result.
  module _ (s' : ReaderModel) (next : Result (Option Document) ReadFault) (gives : GivesHeldDocument s s' (Some next)) (same : s'.reads ≡ s.reads) where
    given : ReturnsNextDocument so.left so.left s s' next
    given = gives so.left so.left s [] (call-none so.left s) (inl refl)

    -- Memory ran out.
    pub text-wants : (w : Writers) → IsCut (document_pieces form b d) so w w
    text-wants w =
        let more = read-prefix so.from so.left s wrote.results so.octets wrote.reads in
        record {
          ended = s.ended;
          read = wrote.reads.read;
          at_end = wrote.reads.end (λ end. absurd (false≢true end));
          next = None;
          rest = up_to_refused (map piece more.0);
          parts = read-pieces form b d s.ended so.octets ∙ ap (encode_pieces form b d) more.1 ∙ pieces-of wrote.results more.0
              ∙ up-to-more (map piece wrote.results) (map piece more.0) none-refused ∙ ap (λ l. l ++ up_to_refused (map piece more.0)) (sym wrote.pieces);
          prefix = prefixes-nil w;
          accepted = λ _. wrote.accepted;
          some = λ going. absurd (false≢true (sym going));
        }

    -- The result is a document or an invalid line.
    module _ (x : ParseResult) (is : parse_results next ≡ x ∷ []) where
      abbrev pub results : List ParseResult
      results = wrote.results ++ x ∷ []

      call : ReadsLines so.from so.left new_reader s' results so.octets
      call = by next is given.octets given.reads
        where
          taken : (bs : List ℕ) (xs : List ParseResult) → xs ≡ x ∷ [] → ReadsLines so.left so.left s s' xs bs → ReadsLines so.from so.left new_reader s' results so.octets
          taken bs xs is reads =
              let call = lines-taken s' xs bs reads (none-read bs s.reads s'.reads reads.few same) in
              let R : List ParseResult → Type 0 = λ l. ReadsLines so.from so.left new_reader s' (wrote.results ++ l) so.octets in
              subst R is call

          by : (next : Result (Option Document) ReadFault) → parse_results next ≡ x ∷ [] → (bs : List ℕ) → ReadsDocument so.left so.left s s' next bs
              → ReadsLines so.from so.left new_reader s' results so.octets
          by (Ok None) is bs reads = absurd (omega (arith, ap length is))
          by (Ok (Some document)) is bs reads = taken bs _ is reads.0
          by (Err (Line line why)) is bs reads = taken bs _ is reads
          by (Err (Run run)) is bs reads = absurd (omega (arith, ap length is))

      -- The end of input had not been reached before, either.
      going : s'.ended ≡ false → s.ended ≡ false
      going open' = by next is given.octets given.reads
        where
          by : (next : Result (Option Document) ReadFault) → parse_results next ≡ x ∷ [] → (bs : List ℕ) → ReadsDocument so.left so.left s s' next bs → s.ended ≡ false
          by (Ok None) is bs reads = absurd (omega (arith, ap length is))
          by (Ok (Some document)) is bs reads = going-before s.ended s'.ended (λ ended. (reads.0.kept ended).0) open'
          by (Err (Line line why)) is bs reads = going-before s.ended s'.ended (λ ended. (reads.kept ended).0) open'
          by (Err (Run run)) is bs reads = absurd (omega (arith, ap length is))

      abbrev pub p : Piece
      p = piece x

      next-pieces : so.pieces ++ p ∷ [] ≡ map piece results
      next-pieces = ap (λ l. l ++ p ∷ []) wrote.pieces ∙ sym (map-append piece wrote.results (x ∷ []))

      -- Its piece comes next, after the pieces so far.
      begins : (more : List ParseResult) → map piece (results ++ more) ≡ so.pieces ++ p ∷ map piece more
      begins more = map-append piece results more ∙ ap (λ l. l ++ map piece more) (sym next-pieces) ∙ append_assoc so.pieces (p ∷ []) (map piece more)

      -- There are fewer than 2^63 pieces.
      pub document-few : length so.pieces + 1 < 2 ^ 63
      document-few =
          let all : documents_of so.octets ≡ results ++ parse (position_of s') [] =
          ap documents_of (sym (append-nil so.octets)) ∙ reported-first so.from so.left s' results so.octets [] call (λ ended. refl) in
          omega (
            arith,
            ap length wrote.pieces,
            length-map wrote.results piece,
            length-append wrote.results (x ∷ []),
            ap length all,
            length-append results (parse (position_of s') []),
            documents-few so.octets,
            call.few,
            wrote.most,
            same,
          )

      -- The document was accepted.
      pub document-accepted : s'.fault ≡ None → counted_refused verdict.Accepted ≡ count_by is_refused (p ∷ []) → WritesDocuments piece s' (with_piece so p)
      document-accepted sound none = record {
        results = results;
        reads = call;
        pieces = next-pieces;
        accepted = omega (arith, count-append is_refused so.pieces (p ∷ []), wrote.accepted, none);
        sound = sound;
        most = omega (arith, wrote.most, same);
        each = λ open'. omega (arith, same, wrote.each (going open'));
      }

      -- The document was refused, which ends the run.
      pub document-refused : counted_refused verdict.Refused ≡ count_by is_refused (p ∷ []) → IsDone (document_pieces form b d) (with_piece so p)
      document-refused one =
          let ends : (all more : List ParseResult) → all ≡ results ++ more → encode_pieces form b d all ≡ so.pieces ++ p ∷ [] = λ all more parts.
          ap (encode_pieces form b d) parts ∙ ap up_to_refused (begins more) ∙ up-to-refusal so.pieces (map piece more) p wrote.accepted one in
          let prefix = read-prefix so.from so.left s' results so.octets call in
          record {
            ended = s'.ended;
            read = call.read;
            at_end = call.end (λ end. absurd (false≢true end));
            all = λ going. absurd (false≢true (sym going));
            certain = read-pieces form b d s'.ended so.octets ∙ ends (read_documents s'.ended so.octets) prefix.0 prefix.1;
            whole = λ t none. ends (documents_of (so.octets ++ t)) (parse (position_of s') t) (reported-first so.from so.left s' results so.octets t call none);
          }

      -- Its piece was written.
      pub document-written : (before after : Writers) (v : Verdict) → LeavesPiece before after p (Ok v) → (v ≡ verdict.Accepted → s'.fault ≡ None) → EncodesDocuments form b d v s' (with_piece so p)
      document-written before after verdict.Accepted leaves sound = document-accepted (sound refl) leaves.2
      document-written before after verdict.Refused leaves sound = document-refused leaves.2

      -- A prefix of its piece was written.
      pub document-cut : (before after : Writers) → WritesPrefixes before after (p ∷ []) → IsCut (document_pieces form b d) so before after
      document-cut before after cut =
          let prefix = read-prefix so.from so.left s' results so.octets call in
          let following = next-piece p (map piece prefix.0) in
          record {
            ended = s'.ended;
            read = call.read;
            at_end = call.end (λ end. absurd (false≢true end));
            next = Some p;
            rest = following.0;
            parts = read-pieces form b d s'.ended so.octets ∙ ap (encode_pieces form b d) prefix.1 ∙ ap up_to_refused (begins prefix.0)
                ∙ up-to-more so.pieces (p ∷ map piece prefix.0) wrote.accepted ∙ ap (λ l. so.pieces ++ l) following.1;
            prefix = cut;
            accepted = λ _. wrote.accepted;
            some = λ going. absurd (false≢true (sym going));
          }

  -- Octets were read.
  pub text-read : (s' : ReaderModel) (left' : Option (List ℕ)) (bs : List ℕ) → NeedsText verdict.Accepted s → FillsBuffer so.left left' s s' (Ok tt) bs → s'.reads ≤ max_reads
      → WritesDocuments piece s' (with_octets so bs left')
  text-read s' left' bs needs filled most =
      let more = fill-call so.left so.left left' s s s' [] bs (call-none so.left s) (inl refl) needs.going needs.none filled in
      record {
        results = wrote.results;
        reads = rw (append-nil wrote.results) at (call-then so.from so.left left' new_reader s s' wrote.results [] so.octets bs wrote.reads more);
        pieces = wrote.pieces;
        accepted = wrote.accepted;
        sound = filled.0.fault;
        most = most;
        each = λ open'. more-octets bs s.reads s'.reads so.octets (wrote.each needs.going) filled.0.fills.ends.0 (λ none. false≢true (sym open' ∙ filled.0.fills.ends.2 none));
      }

  -- A fault occurred, and no octets were read.
  pub text-unread : (s' : ReaderModel) (left' : Option (List ℕ)) (f : RunFault) (bs : List ℕ) → NeedsText verdict.Accepted s → FillsBuffer so.left left' s s' (Err (Run f)) bs
      → ReadsOctets (λ _. ⊥) so left' (Err f)
  text-unread s' left' f bs needs (x, reads, is, short) = grind arith

-- A verdict other than `Refused` is `Accepted`.
pub accepted-else : (v : Verdict) → (v ≡ verdict.Refused → ⊥) → v ≡ verdict.Accepted
accepted-else verdict.Accepted some = refl
accepted-else verdict.Refused some = absurd (some refl)

-- Buffered octets never give the fault `Write`.
pub no-write-fault : (s s' : ReaderModel) (f : RunFault) → GivesHeldDocument s s' (Some (Err (Run f))) → f ≡ Write → ⊥
no-write-fault s s' f gives is =
    let G : RunFault → Type 0 = λ g. GivesHeldDocument s s' (Some (Err (Run g))) in
    (subst G is gives None None s [] (call-none None s) (inl refl)).ends

-- Therefore, no writer is blamed.
pub blames-none : (w : Writers) (f : RunFault) → (f ≡ Write → ⊥) → BlamesWriter {X = RunStep} w w (Err f)
blames-none w f none = grind arith
