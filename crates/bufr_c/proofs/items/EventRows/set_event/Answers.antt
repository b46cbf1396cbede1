use Rattle.std.proofs.Common.{◌+◌, ◌∙◌, ◌∷◌, [], ap, arith, refl, sym, take}
use Rattle.std.proofs.lemmas.List.{length-take-le}
use Rattle.bufr_frame.specs.Prelude.{FrameAt, StrayAt}
use Rattle.bufr_c.proofs.EventLemmas.{message-here, message-moves}
use Rattle.bufr_c.proofs.items.EventRows.set_event.Goals as goal

pub returns-in-Stray-clause-rows : goal.returns-in-Stray-clause-rows
returns-in-Stray-clause-rows c =
    let stray = c.in-Stray.ensures in
    record {
      event = StrayAt c.args.offset c.in-Stray.cause;
      here = stray.event c.args.offset;
      moves = sym stray.moves;
      ends = refl;
      some = omega arith;
      within = stray.within;
      is = rw (c.restart.ensures, c.plain-self.ensures, c.number.ensures) refl;
    }

pub returns-in_ok-set_message-in-Frame-clause-rows : goal.returns-in_ok-set_message-in-Frame-clause-rows
returns-in_ok-set_message-in-Frame-clause-rows c =
    let m = c.args.m.now in
    let is = c.in-Frame.ensures in
    record {
      event = FrameAt c.args.offset (take c.in-Frame.len m);
      here = message-here m c.in-Frame.len is c.args.offset ∙ ap (λ k. FrameAt c.args.offset (take k m) ∷ []) (sym is.states);
      moves = is.states ∙ sym (message-moves m c.in-Frame.len is);
      ends = ap (λ k. c.args.offset + k) (length-take-le c.in-Frame.len m is.within);
      some = omega (arith, is.least);
      within = is.within;
      is = c.in_ok-set_message-in-Frame.ensures.rows;
    }
