use Rattle.std.proofs.Common.{rules, ◌∙◌, ◌≤◌, ap, sym, refl, arith, max, Err, length-take, length-drop}
use Rattle.std.proofs.lemmas.Result.{err_from_is_err_and}
use Rattle.bufr_frame.specs.Prelude.{held}
use Rattle.bufr_frame.proofs.FinderLemmas.{failures-as, reading-ends, reading-found, reading-fresh, reading-on, reading-stops, returns-again}
use Rattle.bufr_frame.proofs.finder.Finder.next.Goals as goal

pub returns-in-Some : goal.returns-in-Some
returns-in-Some g c =
    let s = c.args.self.now in
    let is = sym (ap (λ x. x.fault) c.self.view_is) ∙ c.in-Some.is in
    let bound : held s ≤ max 4096 s.longest = omega (
      arith,
      c.self.invariant,
      ap held c.self.view_is,
      ap (λ x. x.longest) c.self.view_is,
      length-take c.self.inside.passed c.self.inside.input.held,
      length-drop c.self.inside.passed c.self.inside.input.held,
    ) in
    ((refl, (λ _. tt), returns-again _ _ s c.in-Some.fault is (search rules) (omega (arith, c.self.invariant, ap (λ x. x.reads) c.self.view_is)) (search rules) bound), search rules)

pub loop-self-init : goal.loop-self-init
loop-self-init g c = record {
  on = reading-fresh _ _ c.args.self.now (sym (ap (λ x. x.fault) c.self.view_is) ∙ c.in_default.is) (omega (arith, c.self.invariant, ap (λ x. x.reads) c.self.view_is));
  failed = refl;
  room = omega arith;
}

pub returns-in-End : goal.returns-in-End
returns-in-End g c =
    let sound = sym (ap (λ x. x.fault) c.self.view_is) ∙ c.in_default.is in
    let before = c.loop-self.invariant in (
      (
        refl,
        (λ _. tt),
        reading-ends _ _ _ _ c.args.self.now c.loop-self.self sound before.on _ (rw c.in-End.is at c.pass.ensures.shows) (rw c.in-End.is at c.pass.ensures.gone) c.pass.ensures.near
            c.pass.ensures.bound,
      ),
      search rules,
    )

pub returns-in-Found : goal.returns-in-Found
returns-in-Found g c =
    let sound = sym (ap (λ x. x.fault) c.self.view_is) ∙ c.in_default.is in
    let before = c.loop-self.invariant in (
      (
        refl,
        (λ _. tt),
        reading-found _ _ _ _ c.args.self.now c.loop-self.self sound before.on _ _ _ _ (rw c.in-Found.is at c.pass.ensures.shows) (rw c.in-Found.is at c.pass.ensures.gone)
            c.pass.ensures.near c.pass.ensures.bound _ c.passed_event.ensures,
      ),
      search rules,
    )

pub loop-self-smaller : goal.loop-self-smaller
loop-self-smaller g c =
    let gone = rw c.in-NeedsMore.is at c.pass.ensures.gone in
    let ends = rw c.in_ok-read_more-in-NeedsMore.was at (c.read_more.ensures.read (ap (λ x. x.fault) gone ∙ c.loop-self.invariant.on.sound)).1.fills.ends in
    omega (arith, ends.0, c.read_more.ensures.counts.most, ap (λ x. x.reads) gone)

pub loop-self-preserved : goal.loop-self-preserved
loop-self-preserved g c =
    let sound = sym (ap (λ x. x.fault) c.self.view_is) ∙ c.in_default.is in
    let before = c.loop-self.invariant in
    let ok = c.in_ok-read_more-in-NeedsMore.was in
    let gone = rw c.in-NeedsMore.is at c.pass.ensures.gone in
    let here = ap (λ x. x.fault) gone ∙ before.on.sound in
    let read = c.read_more.ensures.read here in
    record {
      on = reading-on _ _ _ _ c.args.self.now c.loop-self.self sound before.on _ _ _ (rw c.in-NeedsMore.is at c.pass.ensures.shows) gone _ _ c.read_more.new.self c.read_more.result read.0 read.1
          c.read_more.ensures.counts c.read_more.ensures.bound _ ok;
      failed = (rw ok at c.read_more.ensures.failed here) ∙ before.failed;
      room = omega (arith, before.room, read.1.fills.room, ap (λ x. x.room) gone);
    }

pub returns-in_err-read_more-in-NeedsMore : goal.returns-in_err-read_more-in-NeedsMore
returns-in_err-read_more-in-NeedsMore g c =
    let sound = sym (ap (λ x. x.fault) c.self.view_is) ∙ c.in_default.is in
    let before = c.loop-self.invariant in
    let was = c.in_err-read_more-in-NeedsMore.was in
    let p = err_from_is_err_and c.from_residual.result c.from_residual.ensures.1 in
    let same = p.1 ∙ ap Err p.2 in
    let gone = rw c.in-NeedsMore.is at c.pass.ensures.gone in
    let here = ap (λ x. x.fault) gone ∙ before.on.sound in
    let read = c.read_more.ensures.read here in
    let stops = reading-stops _ _ _ _ c.args.self.now c.loop-self.self sound before.on _ _ _ (rw c.in-NeedsMore.is at c.pass.ensures.shows) gone _ _ c.read_more.new.self c.read_more.result read.0
    read.1 c.read_more.ensures.counts c.read_more.ensures.bound _ was (omega (arith, c.pass.ensures.near, read.1.at)) before.room in (
      (refl, (λ _. tt), rw same stops),
      record {
        failed = λ _. failures-as _ _ _ c.read_more.result c.from_residual.result _ was same (c.read_more.ensures.failed here) before.failed;
        again = rw sound tt;
        same = rw sound tt;
        next = tt;
      },
    )
