use Rattle.std.proofs.Common.{rules, pos, ◌∙◌}
use Rattle.bufr_walk.specs.declared.references.NewReference.{NewReference}
use Rattle.bufr_walk.proofs.SpecLemmas.{sorted_more}
use Rattle.bufr_walk.proofs.references.sort.Goals as goal

pub loop-new-preserved : goal.loop-new-preserved
loop-new-preserved c =
    let none : NewReference = record { word = 0; reference = pos 0 } in
    sorted_more c.args.recent.now c.loop-new.new-index none c.loop-new.sorted.entries c.insert.new.self.entries c.loop-new-test.true (search rules) ∙ c.loop-new.invariant
