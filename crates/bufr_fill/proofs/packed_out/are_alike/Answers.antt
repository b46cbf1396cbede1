use Rattle.std.proofs.Common.{◌/◌, ◌∙◌, sym}
use Rattle.bufr_fill.specs.Prelude.{padded_content}
use Rattle.bufr_fill.proofs.LeastLemmas.{not_alike}
use Rattle.bufr_fill.proofs.packed_out.are_alike.Goals as goal

pub returns-then-base-range : goal.returns-then-base-range
returns-then-base-range c =
    let count = c.args.spec.now.width / 8 in
    not_alike count (padded_content count c.args.first) c.args.contents.now
    (λ e. c.if-base-range.true (c.base.ensures count c.args.contents.now c.requires.range ∙ e ∙ sym c.requires.range.greatest))
