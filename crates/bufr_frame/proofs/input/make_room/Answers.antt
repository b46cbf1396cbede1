use Rattle.std.proofs.Common.{◌≡◌, ◌∙◌, ◌-◌, arith}
use Rattle.bufr_frame.proofs.FinderLemmas.{part-same}
use Rattle.bufr_frame.proofs.input.make_room.Goals as goal

pub returns-clause-held : goal.returns-clause-held
returns-clause-held c =
    let start : c.args.start - 0 ≡ c.args.start = omega arith in
    let filled : c.args.filled - 0 ≡ c.args.filled = omega arith in
    rw (start, filled) (part-same _ _ _ c.args.start c.args.filled (c.fill_up.ensures.before ∙ c.reserve_exact.ensures.items) c.requires.order
    (omega (arith, c.requires.within, c.reserve_exact.ensures.len)))
