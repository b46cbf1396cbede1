use Rattle.std.proofs.Common.{◌≡◌, ◌∙◌, ◌<◌, [], ◌∷◌, length, refl, ap, sym, subst, arith, Ok, Err, None}
use Rattle.bufr_frame.proofs.FinderLemmas.{none-unless}
use Rattle.bufr_text.specs.Prelude.{ReadFault, reported_at_end, Refused, NotAllowed, ReaderModel, TakesHeldLines, has_no_feed, parsing_of, stopped}
use Rattle.bufr_text.specs.declared.fault.ReadFault.TheVariants as fault
use Rattle.bufr_text.proofs.CallLemmas.{waits-same, call-takes, went-document, went-fault, end-next}
use Rattle.bufr_text.proofs.dump_reader.DumpReader.next_held.Goals as goal
use Rattle.bufr_text.proofs.ReaderLemmas.{Reads, ends-none, done-between, long-reports, parsing-reads, reported-inside, end-inside, reader, HandlesEnd}

pub returns-in-Err-clause-gives : goal.returns-in-Err-clause-gives
returns-in-Err-clause-gives c = λ sound left mid first bs call waits.
    went-fault left mid first c.args.self.now c.take_held.new.self bs call waits c.take_held.ensures.ended c.take_held.ensures.reads _ (rw c.in-Err.is at c.take_held.ensures.went)

pub returns-in-Ok-Some-clause-gives : goal.returns-in-Ok-Some-clause-gives
returns-in-Ok-Some-clause-gives c = λ sound left mid first bs call waits.
    went-document left mid first c.args.self.now c.take_held.new.self bs call waits c.take_held.ensures.ended c.take_held.ensures.reads c.in-Ok-Some.document
    (rw (c.in-Ok-Some.is, c.in-Ok-Some.field-0-is) at c.take_held.ensures.went)

pub returns-in-Between-clause-gives : goal.returns-in-Between-clause-gives
returns-in-Between-clause-gives c = λ sound left mid first bs before waited.
    let v = c.self-2.inside in
    let s = c.take_held.new.self in
    let is = c.self-2.view_is in
    let went = rw (c.in-Ok-None.is, c.in-Ok-None.field-0-is) at c.take_held.ensures.went in
    let call = call-takes left mid first c.args.self.now s bs [] before went.0 c.take_held.ensures.ended c.take_held.ensures.reads in
    let waits = waits-same left first c.args.self.now s bs bs waited c.take_held.ensures.reads refl in
    let ended = sym c.ended.ensures ∙ c.if-ended.true in
    let held = ends-none v.input.held (c.self-2.invariant.2 ended) (ap (λ x. has_no_feed x.held) is ∙ went.2) in
    let R : ReaderModel → Type 0 = λ s. HandlesEnd s s (Ok None) in
    let end = subst R is (
      refl,
      held,
      done-between (reader v.progress.at (parsing_of v.progress) v.input.held v.input.ended v.fault v.input.reads v.input.room v.input.free) c.in-Between.is held,
    ) in
    end-next left mid first s s bs call waits went.1 (sym (ap (λ x. x.ended) is) ∙ ended) (Ok None) end

pub returns-then-ended : goal.returns-then-ended
returns-then-ended c =
    let v = c.self-2.inside in
    let s = c.take_held.new.self in
    let is = c.self-2.view_is in
    let went = rw (c.in-Ok-None.is, c.in-Ok-None.field-0-is) at c.take_held.ensures.went in
    let ended = sym c.ended.ensures ∙ c.if-ended.true in
    let held = ends-none v.input.held (c.self-2.invariant.2 ended) (ap (λ x. has_no_feed x.held) is ∙ went.2) in
    let none = sym (ap (λ s. s.fault) c.self.view_is) ∙ none-unless c.self.inside.fault c.in_default.not-Some in
    let progress = c.self-2.invariant.3 (ap (λ x. x.fault) is ∙ went.1) in
    let R : ReaderModel → Type 0 = λ x. reported_at_end x.at x.parsing.0 ≡ Refused x.at NotAllowed ∷ [] in
    let reports = subst R is (reported-inside v.progress.state v.progress.at (parsing-reads v.progress.at (parsing_of v.progress) progress.holds) c.in_default-state.not-Between) in
    let end = end-inside s c.stop.new.self v.progress.at c.stop.result (sym (ap (λ x. x.ended) is) ∙ ended) (sym (ap (λ x. x.held) is) ∙ held) reports (ap (λ x. x.at) is) c.stop.ensures.new
    c.stop.ensures.value in
    record {
      gives = λ sound left mid first bs before waited.
          let call = call-takes left mid first c.args.self.now s bs [] before went.0 c.take_held.ensures.ended c.take_held.ensures.reads in
          let waits = waits-same left first c.args.self.now s bs bs waited c.take_held.ensures.reads refl in
          end-next left mid first s c.stop.new.self bs call waits went.1 (sym (ap (λ x. x.ended) is) ∙ ended) (Err c.stop.result) end;
      proper = tt;
      reads = ap (λ x. x.reads) c.stop.ensures.new ∙ c.take_held.ensures.reads;
      unread = λ sound is. let line = c.stop.ensures.value in cc;
      short = λ sound is. let line = c.stop.ensures.value in cc;
      held = c.stop.ensures.bound;
      again = rw none tt;
      same_self = rw none tt;
    }

pub returns-then-held-gt-MAX_LINE-clause-gives : goal.returns-then-held-gt-MAX_LINE-clause-gives
returns-then-held-gt-MAX_LINE-clause-gives c = λ sound left mid first bs before waited.
    let v = c.self-2.inside in
    let s = c.take_held.new.self in
    let is = c.self-2.view_is in
    let went = rw (c.in-Ok-None.is, c.in-Ok-None.field-0-is) at c.take_held.ensures.went in
    let call = call-takes left mid first c.args.self.now s bs [] before went.0 c.take_held.ensures.ended c.take_held.ensures.reads in
    let waits = waits-same left first c.args.self.now s bs bs waited c.take_held.ensures.reads refl in
    let progress = c.self-2.invariant.3 (ap (λ x. x.fault) is ∙ went.1) in
    let R : ReaderModel → Type 0 = λ x. Reads x.parsing.0 in
    let long : 4096 < length s.held = omega (arith, c.if-held-gt-MAX_LINE.true, ap length c.held.ensures, ap (λ s. length s.held) is) in
    let reports = long-reports s (subst R is (parsing-reads v.progress.at (parsing_of v.progress) progress.holds)) went.2 long in
    let stop = c.stop-then-held-gt-MAX_LINE in
    let F : ReadFault → Type 0 = λ f. TakesHeldLines s stop.new.self (Err f) in
    let same = stop.ensures.new ∙ ap (λ n. stopped s (fault.Line n NotAllowed)) (ap (λ s. s.at) is) in
    let line = stop.ensures.value ∙ ap (λ n. fault.Line n NotAllowed) (ap (λ s. s.at) is) in
    let N : ReaderModel → Type 0 = λ n. TakesHeldLines s n (Err (fault.Line s.at NotAllowed)) in
    let took = subst F (sym line) (subst N (sym same) (reports, refl)) in
    went-fault left mid first s stop.new.self bs call waits (ap (λ x. x.ended) same) (ap (λ x. x.reads) same) stop.result took
