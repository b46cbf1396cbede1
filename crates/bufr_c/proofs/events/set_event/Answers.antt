use Rattle.std.proofs.Common.{◌+◌, ◌∙◌, ◌∷◌, [], ap, arith, refl, subst, sym, take}
use Rattle.std.proofs.lemmas.List.{length-take-le}
use Rattle.bufr_frame.specs.Prelude.{FrameAt, StrayAt}
use Rattle.bufr_c.specs.Commands.{IsTextOf}
use Rattle.bufr_c.proofs.EventLemmas.{message-alone, message-here, message-moves, stray-by}
use Rattle.bufr_c.proofs.events.set_event.Goals as goal

pub set_message-requires : goal.set_message-requires
set_message-requires c = message-alone c.args.m.now c.in-Frame.len c.in-Frame.ensures

pub returns-in_ok-set_stray-in-Stray : goal.returns-in_ok-set_stray-in-Stray
returns-in_ok-set_stray-in-Stray c =
    let stray = c.in-Stray.ensures in
    record {
      event = StrayAt c.args.offset c.in-Stray.cause;
      here = stray.event c.args.offset;
      moves = sym stray.moves;
      ends = refl;
      some = omega arith;
      within = stray.within;
      is = subst (λ p. IsTextOf c.set_stray.new.self p) (stray-by c.args.command.now c.args.offset c.in-Stray.cause) c.in_ok-set_stray-in-Stray.ensures;
    }

pub returns-in_ok-set_message-in-Frame : goal.returns-in_ok-set_message-in-Frame
returns-in_ok-set_message-in-Frame c =
    let m = c.args.m.now in
    let is = c.in-Frame.ensures in
    record {
      event = FrameAt c.args.offset (take c.in-Frame.len m);
      here = message-here m c.in-Frame.len is c.args.offset ∙ ap (λ k. FrameAt c.args.offset (take k m) ∷ []) (sym is.states);
      moves = is.states ∙ sym (message-moves m c.in-Frame.len is);
      ends = ap (λ k. c.args.offset + k) (length-take-le c.in-Frame.len m is.within);
      some = omega (arith, is.least);
      within = is.within;
      is = c.in_ok-set_message-in-Frame.ensures;
    }
