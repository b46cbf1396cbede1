use Rattle.std.proofs.Common.{◌<◌, length, arith}
use Rattle.bufr_text.proofs.AlikeLemmas.{alike-more}
use Rattle.bufr_text.proofs.alike.push_alike.Goals as goal

pub items-preserved : goal.items-preserved
items-preserved c =
    let below : c.items.to < length c.args.items.now.items = omega (arith, c.items-test.true, c.len.ensures) in
    alike-more c.args.items.now c.args.from c.items.to c.args.lines.now c.items.lines c.show.new.visitor c.requires.some below c.items.invariant (c.is_alike.ensures c.if-is_alike.true)
    c.in_ok-show.ensures
