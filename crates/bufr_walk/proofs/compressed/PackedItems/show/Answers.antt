use Rattle.std.proofs.Common.{Ok, Err, arith}
use Rattle.bufr_walk.proofs.PackedShowing.{entry_goes, entry_there, fit_from}
use Rattle.bufr_walk.proofs.compressed.PackedItems.show.Goals as goal

pub show_item-requires-clause-index : goal.show_item-requires-clause-index
show_item-requires-clause-index g c = entry_there _ _ _ c.self.inside.kept.now c.args.self.now c.items.index c.self.view_is (omega (arith, c.items-test.true, c.requires.within))

pub show_item-requires-clause-fit : goal.show_item-requires-clause-fit
show_item-requires-clause-fit g c = fit_from _ _ c.items.index c.self.inside.kept.now c.self.invariant

pub returns-in-Err : goal.returns-in-Err
returns-in-Err g c =
    entry_goes g.V.Visitor.sees _ _ _ c.self.inside.kept.now c.args.self.now c.args.subset c.args.to c.args.from c.items.index c.args.visitor.now c.items.visitor c.show_item.new.visitor
    (Err c.in-Err.fault)
    c.self.view_is c.items-test.true c.requires.within c.items.invariant c.in-Err.ensures

pub items-preserved : goal.items-preserved
items-preserved g c =
    entry_goes g.V.Visitor.sees _ _ _ c.self.inside.kept.now c.args.self.now c.args.subset c.args.to c.args.from c.items.index c.args.visitor.now c.items.visitor c.show_item.new.visitor (Ok tt)
    c.self.view_is c.items-test.true c.requires.within c.items.invariant c.in-Ok.ensures
