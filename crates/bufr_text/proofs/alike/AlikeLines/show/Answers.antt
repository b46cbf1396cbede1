use Rattle.bufr_walk.proofs.PackedShowing.{packed_shown}
use Rattle.bufr_text.specs.Prelude.{PushesCall}
use Rattle.bufr_text.proofs.alike.AlikeLines.show.Goals as goal

pub returns-clause-shown : goal.returns-clause-shown
returns-clause-shown g c =
    packed_shown PushesCall c.in-Some.items c.args.reading.now c.args.lines.now c.show_all.new.lines c.show_all.result c.new.result c.in-Some.ensures.items c.new.ensures c.show_all.ensures
