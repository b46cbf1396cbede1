use Rattle.std.proofs.Common.{inl, ◌∙◌, ◌<◌, ◌++◌, [], length, length-append, ap, sym, subst, arith, refl, Err, Some, Result, Option}
use Rattle.std.proofs.lemmas.Result.{err_from_is_err_and}
use Rattle.bufr_frame.proofs.FinderLemmas.{adds-none, adds-same, adds-then, none-unless}
use Rattle.bufr_text.specs.Prelude.{Document, ReturnsNextDocument, ReadFault}
use Rattle.bufr_text.proofs.CallLemmas.{asks-exactly, asks-nothing, asks-then, call-none, call-needs, failures-kept, fill-call, fill-waits, fill-fault, gives-some, needs-going, waits-same}
use Rattle.bufr_text.proofs.dump_reader.DumpReader.next_document.Goals as goal

pub loop-next-init : goal.loop-next-init
loop-next-init g c = record {
  octets = [];
  call = call-none _ c.args.self.now;
  waits = inl refl;
  each = λ _. omega arith;
  counts = adds-none _ _ (omega (arith, c.self.invariant, ap (λ s. s.reads) c.self.view_is));
  asked = asks-nothing _ _;
  failed = refl;
  sound = sym (ap (λ s. s.fault) c.self.view_is) ∙ none-unless c.self.inside.fault c.in_default.not-Some;
}

pub returns-in-Some-next_held-clause-next : goal.returns-in-Some-next_held-clause-next
returns-in-Some-next_held-clause-next g c = λ sound.
    let before = c.loop-next.invariant in
    (rw c.in-Some-next_held.is at c.next_held.ensures.gives before.sound) _ _ c.args.self.now before.octets before.call before.waits

pub returns-in-Some-next_held-clause-failed : goal.returns-in-Some-next_held-clause-failed
returns-in-Some-next_held-clause-failed g c = λ sound.
    let before = c.loop-next.invariant in
    before.failed ∙ sym (failures-kept _ c.in-Some-next_held.next (λ is. c.next_held.ensures.unread before.sound (c.in-Some-next_held.is ∙ ap Some is)))

pub loop-next-preserved : goal.loop-next-preserved
loop-next-preserved g c =
    let before = c.loop-next.invariant in
    let s = c.next_held.new.self in
    let needs = rw c.in-None.is at c.next_held.ensures.gives before.sound in
    let call = call-needs _ _ c.args.self.now c.loop-next.self s before.octets before.call needs in
    let waits = waits-same _ c.args.self.now c.loop-next.self s before.octets before.octets before.waits c.next_held.ensures.reads refl in
    let read = c.read_more.ensures.read needs.sound in
    let filled = rw c.in_ok-read_more-in-None.was at read.1 in record {
      octets = before.octets ++ read.0;
      call = fill-call _ _ _ c.args.self.now s c.read_more.new.self before.octets read.0 call waits needs.going needs.none filled;
      waits = fill-waits _ _ _ c.args.self.now s c.read_more.new.self before.octets read.0 call waits needs.going needs.none filled;
      each = λ going.
          let some : 0 < length read.0 = gives-some read.0 c.read_more.new.self.ended filled.0.fills.ends.2 going in
          omega (arith, before.each (needs-going c.loop-next.self s needs), c.next_held.ensures.reads, filled.0.fills.ends.0, some, length-append before.octets read.0);
      counts = adds-then _ _ _ _ _ _ (adds-same _ _ _ _ _ before.counts c.next_held.ensures.reads) c.read_more.ensures.counts;
      asked = asks-then _ _ _ _ _ _ _ before.counts.order c.read_more.ensures.counts.order c.next_held.ensures.reads before.asked (asks-exactly _ _ _ _ c.read_more.ensures.asked);
      failed = (rw c.in_ok-read_more-in-None.was at c.read_more.ensures.failed needs.sound) ∙ before.failed;
      sound = filled.0.fault;
    }

pub returns-in_err-read_more-in-None-clause-next : goal.returns-in_err-read_more-in-None-clause-next
returns-in_err-read_more-in-None-clause-next g c = λ sound.
    let before = c.loop-next.invariant in
    let s = c.next_held.new.self in
    let needs = rw c.in-None.is at c.next_held.ensures.gives before.sound in
    let call = call-needs _ _ c.args.self.now c.loop-next.self s before.octets before.call needs in
    let waits = waits-same _ c.args.self.now c.loop-next.self s before.octets before.octets before.waits c.next_held.ensures.reads refl in
    let read = c.read_more.ensures.read needs.sound in
    let p = err_from_is_err_and c.from_residual.result c.from_residual.ensures.1 in
    let N : Result (Option Document) ReadFault → Type 0 = λ r. ReturnsNextDocument (g.R.Source.left c.args.r.now) (g.R.Source.left c.read_more.new.r) c.args.self.now c.read_more.new.self r in
    subst N (sym (p.1 ∙ ap Err p.2)) (fill-fault _ _ _ c.args.self.now s c.read_more.new.self before.octets read.0 call waits needs.going needs.none _
    (omega (arith, before.each (needs-going c.loop-next.self s needs), c.next_held.ensures.reads)) (rw c.in_err-read_more-in-None.was at read.1))
