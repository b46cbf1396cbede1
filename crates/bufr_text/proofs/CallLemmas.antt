-- What a call of a reader of dump texts reads and reports.
use Rattle.std.proofs.Common.{◌-◌, ◌*◌, ◌^◌, min, max, inl, inr, ◌⊎◌, ◌≡◌, ℕ, ◌<◌, Bool, true, false, List, [], ◌∷◌, ◌++◌, length, refl, sym, ap, subst, ◌∙◌, arith, append_assoc, append-nil, length-append, ◌+◌, ◌≤◌, Option, Ok, Some, None, Result, Err, IfOk, IfSome, rules}
use Rattle.std.proofs.Math.Nat.{mul-le-mul_left}
use Rattle.bufr_bits.specs.Prelude.{counted}
use Rattle.std.proofs.KnownBytes.{Consumes-trans}
use Rattle.std.proofs.lemmas.Bool.{true≢false, cases_Bool}
use Rattle.std.proofs.lemmas.List.{nil_from_length}
use Rattle.bufr_text.specs.Prelude.{NeedsLine, failures_by, Parsing, ParseResult, parse_lines, parse_open_lines, lines_of, split_of, Document, Complete, documents_of, open_documents_of, has_no_feed, ReaderPosition, ContinuesParse, TakesWholeLines, TakesEndLine, ReaderModel, position_of, position_after, IsMissingFeed, ReadsLines, EndsAtEndLine, parse, parse_open, new_reader, HasNoMoreLines, KeepsUnread, ReadsOnlyIfNoLine, ReturnsNextDocument, HasNoWholeLine, ParsesHeldLines, ReadsMoreText, TakesHeldLines, FillsBuffer, text_input, stopped, IsProper, ReadFault}
use Rattle.bufr_text.proofs.ReaderLemmas.{goes-further, line-held, one-line, nothing-yet, some-held, call-keeps, keeps-same, passes-none, HandlesEnd}
use Rattle.std.specs.Io.KnownBytes.{Consumes}
use Rattle.bufr_frame.specs.Prelude.{FillEnds, FillFails, AsksAtMost}
use Rattle.bufr_frame.specs.declared.fault.RunFault.{RunFault}
use Rattle.bufr_frame.specs.declared.fault.RunFault.TheVariants.{Read, Write, InputTooLong, Memory}
use Rattle.bufr_text.specs.declared.fault.ReadFault.TheVariants.{Line, Run}
use Rattle.std.proofs.lemmas.Bool.Decides.{nat_tests}
use Rattle.std.proofs.lemmas.Grind.{common_steps}

-- whole lines, followed by more whole lines
pub passes-then : (at at' at'' : ℕ) (held rest rest' : List ℕ) → TakesWholeLines at held at' rest → TakesWholeLines at' rest at'' rest' → TakesWholeLines at held at'' rest'
passes-then at at' at'' held rest rest' h1 h2 = grind (arith, common_steps)

-- whole lines, followed by lines up to an `end` line
passes-end : (at at' at'' : ℕ) (held rest rest' : List ℕ) → TakesWholeLines at held at' rest → TakesEndLine at' rest at'' rest' → TakesEndLine at held at'' rest'
passes-end at at' at'' held rest rest' p q = record {
  line = q.line;
  last = q.last;
  prefix = passes-then at at' q.line held rest (q.last ++ 10 ∷ rest') p q.prefix;
  single = q.single;
  closes = q.closes;
  counted = q.counted;
}

pub closes-then : (left left' : Option (List ℕ)) (old s s' : ReaderModel) (results : List ParseResult) (bs : List ℕ) → ReadsLines left left' old s results bs → TakesEndLine s.at s.held s'.at s'.held
    → s'.ended ≡ s.ended → EndsAtEndLine old s' bs
closes-then left left' old s s' results bs call end ended =
    let feed = call.lines.0 in
    (feed, rw ended call.lines.1, passes-end old.at s.at s'.at ((old.held ++ bs) ++ feed) s.held s'.held call.lines.2 end)

pub passes-more : (at at' : ℕ) (held rest more : List ℕ) → TakesWholeLines at held at' rest → TakesWholeLines at (held ++ more) at' (rest ++ more)
passes-more at at' held rest more h1 = grind (arith, common_steps)

-- Appending the same octets to both buffers does not change the results.
goes-more : (a b : ReaderPosition) (x : List ParseResult) (bs : List ℕ) (e : Bool) → ContinuesParse a b x → (b.ended ≡ true → (e ≡ true) × (bs ≡ []))
    → ContinuesParse (record a { held = a.held ++ bs }) (record b { held = b.held ++ bs; ended = e }) x
goes-more a b x bs e h1 h2 = grind (arith, common_steps)

-- Two parts of a call are combined. At most one of them adds a missing line feed.
module _ (left mid left' : Option (List ℕ)) (old s s' : ReaderModel) (results results' : List ParseResult) (bs bs' : List ℕ) (one : ReadsLines left mid old s results bs)
    (two : ReadsLines mid left' s s' results' bs') where
  whole : old.held ++ (bs ++ bs') ≡ (old.held ++ bs) ++ bs'
  whole = sym (append_assoc old.held bs bs')

  goes : ContinuesParse (position_after old (bs ++ bs')) (position_of s') (results ++ results')
  goes =
      rw whole
      (goes-further (record { at = old.at; parsing = old.parsing; held = (old.held ++ bs) ++ bs'; ended = old.ended }) (position_after s bs') (position_of s') results results' (λ e. (two.kept e).0)
      (goes-more (position_after old bs) (position_of s) results bs' s.ended one.goes (λ e. (e, (two.kept e).1))) two.goes)

  -- The first part adds no line feed.
  lines-open : one.lines.0 ≡ [] → (feed : List ℕ) × IsMissingFeed old.ended s'.ended feed × TakesWholeLines old.at ((old.held ++ (bs ++ bs')) ++ feed) s'.at s'.held
  lines-open none =
      let first : TakesWholeLines old.at (old.held ++ bs) s.at s.held = rw (append-nil (old.held ++ bs)) at (rw none at one.lines.2) in
      let more = passes-more old.at s.at ((old.held ++ bs) ++ bs') (s.held ++ bs') two.lines.0 (passes-more old.at s.at (old.held ++ bs) s.held bs' first) in
      (two.lines.0, missing two.lines.1, rw whole (passes-then old.at s.at s'.at (((old.held ++ bs) ++ bs') ++ two.lines.0) ((s.held ++ bs') ++ two.lines.0) s'.held more two.lines.2))
    where
      kept-open : (b : Bool) → old.ended ≡ b → s.ended ≡ false → old.ended ≡ false
      kept-open true e f = absurd (true≢false (sym (one.kept e).0 ∙ f))
      kept-open false e f = e

      missing : IsMissingFeed s.ended s'.ended two.lines.0 → IsMissingFeed old.ended s'.ended two.lines.0
      missing (inl e) = inl e
      missing (inr (a, b, e)) = inr (kept-open old.ended refl a, b, e)

  lines-ended : (old.ended ≡ false) × (s.ended ≡ true) × (one.lines.0 ≡ 10 ∷ [])
      → (feed : List ℕ) × IsMissingFeed old.ended s'.ended feed × TakesWholeLines old.at ((old.held ++ (bs ++ bs')) ++ feed) s'.at s'.held
  lines-ended (a, b, e) =
      let nothing = (two.kept b).1 in
      let first : TakesWholeLines old.at ((old.held ++ (bs ++ bs')) ++ one.lines.0) s.at s.held =
      rw (whole ∙ ap (λ (z : List ℕ). (old.held ++ bs) ++ z) nothing ∙ append-nil (old.held ++ bs)) one.lines.2 in
      let second : TakesWholeLines s.at s.held s'.at s'.held = rw (ap (λ (z : List ℕ). (s.held ++ z) ++ two.lines.0) nothing ∙ ap (λ (z : List ℕ). z ++ two.lines.0) (append-nil s.held)
      ∙ ap (λ (z : List ℕ). s.held ++ z) (none two.lines.1) ∙ append-nil s.held) at two.lines.2 in
      (one.lines.0, inr (a, (two.kept b).0, e), passes-then old.at s.at s'.at ((old.held ++ (bs ++ bs')) ++ one.lines.0) s.held s'.held first second)
    where
      none : IsMissingFeed s.ended s'.ended two.lines.0 → two.lines.0 ≡ []
      none (inl e) = e
      none (inr (c, d, e)) = absurd (true≢false (sym b ∙ c))

  lines : IsMissingFeed old.ended s.ended one.lines.0 → (feed : List ℕ) × IsMissingFeed old.ended s'.ended feed × TakesWholeLines old.at ((old.held ++ (bs ++ bs')) ++ feed) s'.at s'.held
  lines (inl e) = lines-open e
  lines (inr both) = lines-ended both

  fed-open : one.lines.0 ≡ [] → old.ended ≡ false → s'.ended ≡ true → two.lines.0 ≡ [] → s'.held ≡ []
  fed-open e before ended none = search (rules, nil_from_length, length-append)

  fed : (feed : IsMissingFeed old.ended s.ended one.lines.0) → old.ended ≡ false → s'.ended ≡ true → (lines feed).0 ≡ [] → s'.held ≡ []
  unfolding lines lines-open lines-ended
  fed feed before ended none = grind (arith, common_steps, fed-open)

  pub call-then : ReadsLines left left' old s' (results ++ results') (bs ++ bs')
  call-then = record {
    read = Consumes-trans left mid left' bs bs' one.read two.read;
    order = omega (arith, one.order, two.order);
    few = omega (arith, one.order, two.order, one.few, two.few, length-append bs bs');
    goes = goes;
    lines = lines one.lines.1;
    kept = λ e.
        let a = one.kept e in
        let b = two.kept a.0 in
        (b.0, ap (λ (z : List ℕ). z ++ bs') a.1 ∙ b.1, b.2 ∙ a.2);
    end = λ before. two.end (one.end before);
    fed = fed one.lines.1;
  }

pub call-none : (left : Option (List ℕ)) (s : ReaderModel) → ReadsLines left left s s [] []
call-none left s = grind (arith, common_steps)

-- Taking buffered lines reads no octets.
pub takes-call : (left : Option (List ℕ)) (s s' : ReaderModel) (results : List ParseResult) → ParsesHeldLines s s' results → s'.ended ≡ s.ended → s'.reads ≡ s.reads
    → ReadsLines left left s s' results []
takes-call left s s' results h1 h2 h3 = grind (arith, nat_tests, common_steps)

module _ (left left' : Option (List ℕ)) (s s' : ReaderModel) (bs : List ℕ) (read : ReadsMoreText left left' s s' (Ok tt) bs) (open' : s.ended ≡ false) (clean : has_no_feed s.held ≡ true) where
  same-hold : (h : List ℕ) (t : List ℕ) → parse_lines s.at s.parsing (lines_of (h ++ t)) ≡ parse_lines s'.at s'.parsing (lines_of (h ++ t))
  same-hold h t = cc (read.at)

  -- Adding the missing line feed does not change the lines.
  held-lines : (t : List ℕ) → (s'.ended ≡ true → t ≡ []) → ((read.feed ≡ []) ⊎ ((s'.ended ≡ true) × (read.feed ≡ 10 ∷ []) × (0 < length s.held)))
      → lines_of ((s.held ++ bs) ++ t) ≡ lines_of (((s.held ++ bs) ++ read.feed) ++ t)
  unfolding lines_of split_of
  held-lines t none h_read_is = search (rules, one-line, line-held)

  no-feed-open : s'.ended ≡ false → ((read.feed ≡ []) ⊎ ((s'.ended ≡ true) × (read.feed ≡ 10 ∷ []) × (0 < length s.held))) → s.held ++ bs ≡ s'.held
  no-feed-open unended (inl e) = sym (read.held ∙ ap (λ (z : List ℕ). (s.held ++ bs) ++ z) e ∙ append-nil (s.held ++ bs))
  no-feed-open unended (inr (ended, e, some)) = absurd (true≢false (sym ended ∙ unended))

  feed-missing : ((read.feed ≡ []) ⊎ ((s'.ended ≡ true) × (read.feed ≡ 10 ∷ []) × (0 < length s.held))) → IsMissingFeed s.ended s'.ended read.feed
  feed-missing (inl e) = inl e
  feed-missing (inr (ended, e, some)) = inr (open', ended, e)

  pub read-call : ReadsLines left left' s s' [] bs
  read-call =
      let P : List ℕ → Type 0 = λ h. TakesWholeLines s.at h s'.at s'.held in
      let A : ℕ → Type 0 = λ k. TakesWholeLines s.at s'.held k s'.held in
      record {
        read = read.fills.read;
        order = omega (arith, read.fills.ends.0);
        few = omega (arith, read.few, read.fills.ends.0);
        goes = record {
          whole = λ t none. ap (parse_lines s.at s.parsing) (held-lines t none read.missing) ∙ ap (λ (z : List ℕ). parse_lines s.at s.parsing (lines_of (z ++ t))) (sym read.held)
              ∙ same-hold s'.held t;
          openly = λ unended t.
              ap (λ (z : List ℕ). parse_open_lines s.at s.parsing (split_of (z ++ t)).whole (split_of (z ++ t)).rest) (no-feed-open unended read.missing)
              ∙ ap (λ (k : ℕ). parse_open_lines k s.parsing (split_of (s'.held ++ t)).whole (split_of (s'.held ++ t)).rest) (sym read.at)
              ∙ ap (λ (p : Parsing). parse_open_lines s'.at p (split_of (s'.held ++ t)).whole (split_of (s'.held ++ t)).rest) (sym read.parsing);
        };
        lines = (read.feed, feed-missing read.missing, subst P read.held (subst A (sym read.at) (passes-none s.at s'.held)));
        kept = λ e. absurd (true≢false (sym e ∙ open'));
        end = λ _. read.fills.end;
        fed = λ before ended none.
            read.held ∙ ap (λ (z : List ℕ). (s.held ++ bs) ++ z) none ∙ append-nil (s.held ++ bs) ∙ ap (λ (z : List ℕ). z ++ bs) (read.fed ended none) ∙ read.fills.ends.1 ended;
      }

-- ---- What a call returns.

pub waits-same : (left : Option (List ℕ)) (old s s' : ReaderModel) (bs bs' : List ℕ) → ((s.reads ≡ old.reads) ⊎ ReadsOnlyIfNoLine left old s.reads bs) → s'.reads ≡ s.reads → bs ≡ bs'
    → (s'.reads ≡ old.reads) ⊎ ReadsOnlyIfNoLine left old s'.reads bs'
waits-same left old s s' bs bs' h_s_is same is = grind arith

pub call-takes : (left mid : Option (List ℕ)) (old s s' : ReaderModel) (bs : List ℕ) (results : List ParseResult) → ReadsLines left mid old s [] bs → ParsesHeldLines s s' results → s'.ended ≡ s.ended
    → s'.reads ≡ s.reads → ReadsLines left mid old s' results bs
call-takes left mid old s s' bs results call reports ended reads =
    rw (append-nil bs) at (call-then left mid mid old s s' [] results bs [] call (takes-call mid s s' results reports ended reads))

-- If a read is needed, the buffered lines report nothing.
pub call-needs : (left mid : Option (List ℕ)) (old s s' : ReaderModel) (bs : List ℕ) → ReadsLines left mid old s [] bs → NeedsLine s s' → ReadsLines left mid old s' [] bs
call-needs left mid old s s' bs call needs = rw (append-nil bs) at (call-then left mid mid old s s' [] [] bs [] call (needs.passes mid))

-- A read is needed only if the end of input has not been reached.
pub needs-going : (old new : ReaderModel) → NeedsLine old new → old.ended ≡ false
needs-going old new needs = elim (cases_Bool old.ended) [ inl e ↦ absurd (true≢false (sym ((needs.passes None).kept e).0 ∙ needs.going)) | inr going ↦ going ]

-- A read that does not reach the end of input returns at least one octet.
pub gives-some : (bs : List ℕ) (ended : Bool) → (bs ≡ [] → ended ≡ true) → ended ≡ false → 0 < length bs
gives-some [] ended noticed going = absurd (true≢false (sym (noticed refl) ∙ going))
gives-some (octet ∷ bs) ended noticed going = omega arith

-- Only the result `Run Read` changes the count of failed reads.
pub failures-kept : (count : ℕ) (next : Result (Option Document) ReadFault) → (next ≡ Err (Run Read) → ⊥) → failures_by count next ≡ count
failures-kept count next unread = grind arith

-- If the end of input was reached before a call that leaves octets in the buffer, there were octets
-- in the buffer before the call, too.
held-before : (left mid : Option (List ℕ)) (old s : ReaderModel) (bs : List ℕ) (results : List ParseResult) → ReadsLines left mid old s results bs → old.ended ≡ true → 0 < length s.held
    → 0 < length old.held
held-before left mid old s bs results h1 h2 h3 = grind (arith, common_steps)

module _ (left mid : Option (List ℕ)) (old s s' : ReaderModel) (bs : List ℕ) (call : ReadsLines left mid old s [] bs) (waits : (s.reads ≡ old.reads) ⊎ ReadsOnlyIfNoLine left old s.reads bs)
    (ended : s'.ended ≡ s.ended) (reads : s'.reads ≡ s.reads) where
  -- A document is complete.
  pub went-document : (d : Document) → TakesHeldLines s s' (Ok (Some d)) → ReturnsNextDocument left mid old s' (Ok (Some d))
  went-document d went = record {
    octets = bs;
    keeps = call-keeps left mid old s' (Complete d ∷ []) bs (call-takes left mid old s s' bs (Complete d ∷ []) call went.0 ended reads);
    reads = (call-takes left mid old s s' bs (Complete d ∷ []) call went.0 ended reads, closes-then left mid old s s' [] bs call went.2 ended);
    waits = waits-same left old s s' bs bs waits reads refl;
    each = λ e. cc;
    ends = went.1;
  }

  -- A line is invalid, or memory runs out.
  pub went-fault : (f : ReadFault) → TakesHeldLines s s' (Err f) → ReturnsNextDocument left mid old s' (Err f)
  went-fault (Run Read) went = absurd went
  went-fault (Run Write) went = absurd went
  went-fault (Run InputTooLong) went = absurd went
  went-fault (Run Memory) went = record {
    octets = bs;
    keeps = keeps-same old s s' bs (call-keeps left mid old s [] bs call) went.2 ended;
    reads = (
      call.read,
      omega (arith, call.few),
      λ e. held-before left mid old s bs [] call e (some-held s.held went.1),
      inr (went.3.mid, call-takes left mid old s went.3.mid bs [] call went.3.taken went.3.ended went.3.reads, went.3.next),
    );
    waits = waits-same left old s s' bs bs waits reads refl;
    each = λ e. cc;
    ends = (went.0, inl (ap has_no_feed went.2 ∙ went.1));
  }
  went-fault (Line line fault) went = record {
    octets = bs;
    reads = call-takes left mid old s s' bs _ call went.0 ended reads;
    keeps = call-keeps left mid old s' _ bs (call-takes left mid old s s' bs _ call went.0 ended reads);
    waits = waits-same left old s s' bs bs waits reads refl;
    each = λ e. cc;
    ends = went.1;
  }

-- The end of input was reached.
module _ (left mid : Option (List ℕ)) (old s s' : ReaderModel) (bs : List ℕ) (call : ReadsLines left mid old s [] bs) (waits : (s.reads ≡ old.reads) ⊎ ReadsOnlyIfNoLine left old s.reads bs)
    (sound : s.fault ≡ None) (ended : s.ended ≡ true) where
  pub end-next : (result : Result (Option Document) ReadFault) → HandlesEnd s s' result → ReturnsNextDocument left mid old s' result
  end-next (Ok None) so =
      let C : ReaderModel → Type 0 = λ x. ReadsLines left mid old x [] bs in record {
        octets = bs;
        reads = subst C (sym so.0) call;
        keeps = keeps-same old s s' bs (call-keeps left mid old s [] bs call) (ap (λ x. x.held) so.0) (ap (λ x. x.ended) so.0);
        waits = waits-same left old s s' bs bs waits (ap (λ x. x.reads) so.0) refl;
        each = λ e. cc;
        ends = (ap (λ x. x.fault) so.0 ∙ sound, (ap (λ x. x.ended) so.0 ∙ ended, so.1, so.2));
      }
  end-next (Err (Line line fault)) so = record {
    octets = bs;
    reads = call-takes left mid old s s' bs _ call so.0 so.2 so.3;
    keeps = call-keeps left mid old s' _ bs (call-takes left mid old s s' bs _ call so.0 so.2 so.3);
    waits = waits-same left old s s' bs bs waits so.3 refl;
    each = λ e. cc;
    ends = so.1;
  }
  end-next result so = absurd so

-- The end of input completes no document.
pub end-proper : (s s' : ReaderModel) (result : Result (Option Document) ReadFault) → HandlesEnd s s' result → IfOk result (λ found. IfSome found (λ document. IsProper document))
end-proper s s' (Ok (Some d)) so = absurd so
end-proper s s' result so = tt

-- No octets were read, and the end of input was not reached.
open-call : (left left' : Option (List ℕ)) (s s' : ReaderModel) (results : List ParseResult) (bs : List ℕ) → bs ≡ [] → Consumes left left' bs → ParsesHeldLines s s' results → s.ended ≡ false
    → s'.ended ≡ false → s.reads ≤ s'.reads → ReadsLines left left' s s' results bs
open-call left left' s s' results bs h1 h2 h3 h4 h5 h6 = grind (arith, common_steps)

-- another read in the same call
module _ (left mid left' : Option (List ℕ)) (old s s' : ReaderModel) (bs bs' : List ℕ) (call : ReadsLines left mid old s [] bs) (waits : (s.reads ≡ old.reads) ⊎ ReadsOnlyIfNoLine left old s.reads bs)
    (open' : s.ended ≡ false) (clean : has_no_feed s.held ≡ true) where
  waited : (reads : ℕ) → reads ≡ s.reads + 1 → length s.held ≤ 4096 → length bs' ≤ 4096 → ReadsOnlyIfNoLine left old reads (bs ++ bs')
  waited reads made short few = record {
    before = bs;
    last = bs';
    octets = refl;
    few = few;
    none = call.goes.openly open' [] ∙ nothing-yet s.at s.parsing s.held s.ended clean short;
    between = mid;
    mid = s;
    taken = call;
    going = open';
    clean = clean;
    short = short;
    made = made;
  }

  pub fill-call : FillsBuffer mid left' s s' (Ok tt) bs' → ReadsLines left left' old s' [] (bs ++ bs')
  fill-call so = call-then left mid left' old s s' [] [] bs bs' call (read-call mid left' s s' bs' so.0 open' clean)

  pub fill-waits : FillsBuffer mid left' s s' (Ok tt) bs' → (s'.reads ≡ old.reads) ⊎ ReadsOnlyIfNoLine left old s'.reads (bs ++ bs')
  fill-waits so = inr (waited s'.reads so.0.fills.ends.0 so.1 so.0.few)

  no-feed : (x : ReaderModel) (feed : List ℕ) → x.ended ≡ false → ((feed ≡ []) ⊎ ((x.ended ≡ true) × (feed ≡ 10 ∷ []) × (0 < length s.held))) → feed ≡ []
  no-feed x feed unended (inl e) = e
  no-feed x feed unended (inr (ended, e, some)) = absurd (true≢false (sym ended ∙ unended))

  same-held : (x : ReaderModel) (feed : List ℕ) → bs' ≡ [] → feed ≡ [] → x.held ≡ (s.held ++ bs') ++ feed → x.held ≡ s.held
  same-held x feed none nofeed is = simp (is, nofeed, append-nil, none)

  nothing : bs' ≡ [] → bs ≡ bs ++ bs'
  nothing none = sym (ap (λ (l : List ℕ). bs ++ l) none ∙ append-nil bs)

  still-open : (x : ReaderModel) → x.ended ≡ false → x.held ≡ s.held → length s.held ≤ 4096 → HasNoWholeLine x
  still-open x ended held short =
      let clean' = ap has_no_feed held ∙ clean in
      (ended, nothing-yet x.at x.parsing x.held x.ended clean' (omega (arith, ap length held, short)), clean')

  quiet-call : (x : ReaderModel) → bs' ≡ [] → Consumes mid left' bs' → x.at ≡ s.at → x.parsing ≡ s.parsing → x.held ≡ s.held → x.ended ≡ false → s.reads ≤ x.reads
      → ReadsLines left left' old x [] (bs ++ bs')
  quiet-call x none read at parsing held ended order =
      call-then left mid left' old s x [] [] bs bs' call (open-call mid left' s x [] bs' none read (grind arith) open' ended order)

  pub fill-fault : (f : ReadFault) → s.reads ≤ old.reads + length bs → FillsBuffer mid left' s s' (Err f) bs' → ReturnsNextDocument left left' old s' (Err f)
  fill-fault (Run f) some (x, read, is, short) = let N : ReaderModel → Type 0 = λ n. ReturnsNextDocument left left' old n (Err (Run f)) in subst N (sym is) (by f read.fills.ends)
    where
      by : (f : RunFault) → FillEnds (s.reads ≡ 0) (text_input s s.held) (text_input x (s.held ++ bs')) bs' (Err f) → ReturnsNextDocument left left' old (stopped x (Run f)) (Err (Run f))
      by f (none, unended, fails) = ends f fails
        where
          held : x.held ≡ s.held
          held = same-held x read.feed none (no-feed x read.feed unended read.missing) read.held

          quiet : (f : RunFault) → s.reads ≤ x.reads → ReadsLines left left' old (stopped x (Run f)) [] (bs ++ bs')
          quiet f = quiet-call (stopped x (Run f)) none read.fills.read read.at read.parsing held unended

          keeps : (f : RunFault) → s.reads ≤ x.reads → KeepsUnread old (stopped x (Run f)) (bs ++ bs')
          keeps f order = call-keeps left left' old (stopped x (Run f)) [] (bs ++ bs') (quiet f order)

          same : x.reads ≡ s.reads → (x.reads ≡ old.reads) ⊎ ReadsOnlyIfNoLine left old x.reads (bs ++ bs')
          same reads = waits-same left old s x bs (bs ++ bs') waits reads (nothing none)

          ends : (f : RunFault) → FillFails (s.reads ≡ 0) (text_input s s.held) (text_input x (s.held ++ bs')) f → ReturnsNextDocument left left' old (stopped x (Run f)) (Err (Run f))
          ends Read made = record {
            octets = bs ++ bs';
            reads = quiet Read (omega arith);
            keeps = keeps Read (omega arith);
            waits = inr (waited x.reads made short read.few);
            each = λ e. cc;
            ends = (refl, still-open x unended held short);
          }
          ends Write fails = absurd fails
          ends InputTooLong fails = record {
            octets = bs ++ bs';
            reads = quiet InputTooLong (omega (arith, fails.0));
            keeps = keeps InputTooLong (omega (arith, fails.0));
            waits = same fails.0;
            each = λ _. omega (arith, fails.0, length-append bs bs');
            ends = (refl, still-open x unended held short, fails.1);
          }
          ends Memory fails =
              let first : x.reads ≡ 0 = fails.0 ∙ fails.2 in record {
                octets = bs ++ bs';
                reads = (
                  Consumes-trans left mid left' bs bs' call.read read.fills.read,
                  omega (arith, call.few, ap length none, length-append bs bs', fails.0),
                  λ e. absurd (true≢false (sym (call.kept e).0 ∙ open')),
                  inl first,
                );
                keeps = keeps Memory (omega (arith, fails.0));
                waits = same fails.0;
                each = λ e. cc;
                ends = (refl, inr first);
              }
  fill-fault f some so = absurd so

some-none : (x : ParseResult) → x ∷ [] ≡ [] → ⊥
some-none x e = omega (arith, ap length e)

-- the results of all calls so far
pub reported-first : (left left' : Option (List ℕ)) (s : ReaderModel) (results : List ParseResult) (bs t : List ℕ) → ReadsLines left left' new_reader s results bs → (s.ended ≡ true → t ≡ [])
    → documents_of (bs ++ t) ≡ results ++ parse (position_of s) t
reported-first left left' s results bs t call none = call.goes.whole t none

pub reported-first-openly : (left left' : Option (List ℕ)) (s : ReaderModel) (results : List ParseResult) (bs t : List ℕ) → ReadsLines left left' new_reader s results bs → s.ended ≡ false
    → open_documents_of (bs ++ t) ≡ results ++ parse_open (position_of s) t
reported-first-openly left left' s results bs t call unended = call.goes.openly unended t

pub reported-at-end : (left left' : Option (List ℕ)) (s : ReaderModel) (results : List ParseResult) (bs : List ℕ) → ReadsLines left left' new_reader s results bs → HasNoMoreLines s
    → documents_of bs ≡ results
reported-at-end left left' s results bs call done = ap documents_of (sym (append-nil bs)) ∙ call.goes.whole [] (λ e. refl) ∙ ap (λ (l : List ParseResult). results ++ l) done.2 ∙ append-nil results

pub reported-at-fault : (left left' : Option (List ℕ)) (s : ReaderModel) (results : List ParseResult) (bs : List ℕ) → ReadsLines left left' new_reader s results bs → HasNoWholeLine s
    → open_documents_of bs ≡ results
reported-at-fault left left' s results bs call open' = search (rules, append-nil)

-- Without reads, no octets are requested. The octets that two parts of a call request add up, with
-- at most 4,096 octets for each read.
pub asks-nothing : (asked reads : ℕ) → AsksAtMost asked asked (4096 * (reads - reads))
asks-nothing asked reads = omega arith

asks-more : (a b c x y most : ℕ) → b ≤ max a (min (a + x) most) → c ≤ max b (min (b + y) most) → c ≤ max a (min (a + (x + y)) most)
asks-more a b c x y most one two = omega arith

pub asks-then : (a b c before made made' after : ℕ) → before ≤ made → made' ≤ after → made' ≡ made → AsksAtMost a b (4096 * (made - before))
    → AsksAtMost b c (4096 * (after - made')) → AsksAtMost a c (4096 * (after - before))
asks-then a b c before made made' after order more same one two =
    let sum : 4096 * (made - before) + 4096 * (after - made') ≡ 4096 * (after - before) = omega arith in
    let A : ℕ → Type 0 = λ n. AsksAtMost a c n in
    subst A sum (asks-more a b c _ _ (2 ^ 64 - 1) one two)

-- Each read requests at most 4,096 octets.
pub asks-exactly : (asked asked' reads n : ℕ) → asked' ≡ counted asked (reads * min 4096 n) → AsksAtMost asked asked' (4096 * reads)
asks-exactly asked asked' reads n is =
    let few : reads * min 4096 n ≤ reads * 4096 = mul-le-mul_left reads (omega arith) in
    omega (arith, few)
