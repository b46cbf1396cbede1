use Rattle.std.proofs.Common.{◌∙◌, Some, ap, refl}
use Rattle.bufr_cli.specs.Prelude.{dump_piece}
use Rattle.bufr_frame.specs.Prelude.{FrameAt}
use Rattle.bufr_c.proofs.EventLemmas.{dumped, message-text, one-piece}
use Rattle.bufr_c.proofs.command.EventText.set_dumped.Goals as goal

pub returns : goal.returns
returns c =
    let octets = c.args.octets.now in
    let n = c.args.offset in
    let piece = dump_piece c.args.b.now c.args.d.now in
    let is = dumped n c.args.b.now c.args.d.now octets in
    let wrote = one-piece piece octets _ _ c.in_ok-tally.tally c.run_dump.new.w.octets.items c.run_dump.new.e.octets.items (rw c.new-r.ensures at c.in_ok-tally.ensures.whole) c.requires
    (ap Some c.clear.ensures.output) (ap Some c.clear.ensures.faults) refl refl in
    message-text c.write_moved.result _ n (piece (FrameAt 0 octets)) (piece (FrameAt n octets)) c.in_ok-tally.tally c.run_dump.new.w.octets.items c.run_dump.new.e.octets.items
    c.write_moved.new.out.octets.items wrote (wrote.output_is ∙ is.output) is.errors is.accepted
    (rw (c.clear.ensures.errors, c.as_slice.ensures.value) at c.write_moved.ensures) refl refl
