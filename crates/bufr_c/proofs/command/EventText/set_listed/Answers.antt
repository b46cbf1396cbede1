use Rattle.std.proofs.Common.{◌∙◌, ◌++◌, Some, ap, refl}
use Rattle.bufr_cli.specs.Prelude.{ls_piece}
use Rattle.bufr_frame.specs.Prelude.{FrameAt}
use Rattle.bufr_c.specs.Moving.{moved}
use Rattle.bufr_c.proofs.EventLemmas.{listed, message-text, one-piece}
use Rattle.bufr_c.proofs.command.EventText.set_listed.Goals as goal

pub returns : goal.returns
returns c =
    let octets = c.args.octets.now in
    let n = c.args.offset in
    let is = listed n octets in
    let wrote = one-piece ls_piece octets _ _ c.in_ok-tally.tally c.run_ls.new.w.octets.items c.run_ls.new.e.octets.items (rw c.new-r.ensures at c.in_ok-tally.ensures.leaves.whole) c.requires
    (ap Some c.clear.ensures.lines) (ap Some c.clear.ensures.faults) refl refl in
    message-text c.write_moved-2.result _ n (ls_piece (FrameAt 0 octets)) (ls_piece (FrameAt n octets)) c.in_ok-tally.tally c.run_ls.new.w.octets.items c.run_ls.new.e.octets.items
    c.write_moved-2.new.out.octets.items wrote
    (c.in_ok-write_moved.ensures ∙ ap (λ l. l ++ moved n c.as_slice.result.now) c.clear.ensures.output ∙ ap (moved n) (c.as_slice.ensures.value ∙ wrote.output_is) ∙ is.output) is.errors is.accepted
    (rw (c.clear.ensures.errors, c.as_slice-2.ensures.value) at c.write_moved-2.ensures) refl refl
