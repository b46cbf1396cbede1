use Rattle.std.proofs.Common.{◌≡◌, ◌∙◌, ◌+◌, ◌-◌, ap, drop, false, length, refl, rules, subst, take}
use Rattle.std.proofs.lemmas.List.{take_rest}
use Rattle.bufr_c.specs.Commands.{piece_by}
use Rattle.bufr_c.specs.Leaving.{HasNoRoom}
use Rattle.bufr_c.proofs.EventLemmas.{SoFar, event-next, rest-no-room, rest-put, events-absent, so-far-done, so-far-ended, so-far-no-room, so-far-none, so-far-put, starts-there}
use Rattle.bufr_c.proofs.events.write_events.Goals as goal

pub loop-texts-init : goal.loop-texts-init
loop-texts-init c =
    let piece = piece_by c.args.run.now.command in
    let zero' = c.at.ensures in
    record {
      so = subst (λ n. SoFar piece c.args.octets.now n c.args.output.now c.args.errors.now c.at.result) zero'.at
          (so-far-none piece c.args.octets.now c.args.output.now c.args.errors.now c.at.result zero'.output zero'.errors zero'.accepted zero'.refused);
      rest = record { output_rest = refl; errors_rest = refl };
      reserved = zero'.reserved;
    }

pub returns-in_default-clause-texts : goal.returns-in_default-clause-texts
returns-in_default-clause-texts c =
    let octets = c.args.octets.now in
    let at = c.loop-texts.texts.at in
    let none = events-absent octets (take (length octets - at) (drop at octets)) _ at (take_rest octets at) c.new-word.ensures c.in_default.ensures in
    so-far-ended _ octets _ _ _ c.loop-texts.texts c.loop-texts.invariant.so _ c.loop-texts-test.true none refl refl refl refl refl

pub set_event-requires : goal.set_event-requires
set_event-requires c =
    let octets = c.args.octets.now in
    let at = c.loop-texts.texts.at in
    let begin = at + c.in-Some.place in
    starts-there octets _ _ _ at c.in-Some.place (take_rest octets at) (take_rest octets begin) c.new-word.ensures c.in-Some.ensures

pub returns-then-not-write_text-clause-texts : goal.returns-then-not-write_text-clause-texts
returns-then-not-write_text-clause-texts c =
    let octets = c.args.octets.now in
    let at = c.loop-texts.texts.at in
    let begin = at + c.in-Some.place in
    let full : c.write_text.result ≡ false = search rules in
    let w = c.in-Ok.ensures in
    so-far-no-room _ octets _ _ _ c.loop-texts.texts _ c.in-Some.place c.in-Ok.moves _ c.set_event.new.text _ _ c.loop-texts.invariant.so w
    (event-next _ octets _ _ _ at c.in-Some.place c.in-Ok.moves (take_rest octets at) (take_rest octets begin) c.new-word.ensures c.in-Some.ensures w)
    (rw full at c.write_text.ensures)

pub returns-then-not-write_text-clause-rest : goal.returns-then-not-write_text-clause-rest
returns-then-not-write_text-clause-rest c =
    let full : c.write_text.result ≡ false = search rules in
    rest-no-room _ _ _ _ c.loop-texts.texts c.set_event.new.text _ _ _ c.loop-texts.invariant.rest (rw full at c.write_text.ensures)

pub returns-then-not-write_text-clause-reserved : goal.returns-then-not-write_text-clause-reserved
returns-then-not-write_text-clause-reserved c =
    let full : c.write_text.result ≡ false = search rules in
    let none : HasNoRoom c.set_event.new.text c.loop-texts.texts _ _ _ _ _ = rw full at c.write_text.ensures in
    none.reserved ∙ c.loop-texts.invariant.reserved

pub loop-texts-preserved : goal.loop-texts-preserved
loop-texts-preserved c =
    let octets = c.args.octets.now in
    let at = c.loop-texts.texts.at in
    let begin = at + c.in-Some.place in
    let w = c.in-Ok.ensures in
    let mid = c.write_text.new.texts in
    let inv = c.loop-texts.invariant in
    record {
      so = so-far-put _ octets _ _ _ c.loop-texts.texts inv.so c.in-Some.place c.in-Ok.moves _ c.set_event.new.text mid _ _ _ w (take_rest octets begin)
          (event-next _ octets _ _ _ at c.in-Some.place c.in-Ok.moves (take_rest octets at) (take_rest octets begin) c.new-word.ensures c.in-Some.ensures w)
          c.if-not-write_text.ensures refl refl refl (ap (λ n. mid.accepted + n) c.from.ensures) (ap (λ n. mid.refused + n) c.from-in-loop-texts.ensures);
      rest = rest-put _ _ _ _ c.loop-texts.texts c.set_event.new.text mid _ _ _ inv.so.leaves.output_fits inv.so.leaves.errors_fits inv.rest c.if-not-write_text.ensures refl refl;
      reserved = c.if-not-write_text.ensures.reserved ∙ inv.reserved;
    }

pub returns-clause-texts : goal.returns-clause-texts
returns-clause-texts c = so-far-done _ _ _ _ _ _ c.loop-texts.invariant.so c.loop-texts-test.false
