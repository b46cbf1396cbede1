use Rattle.std.proofs.Common.{subst, rules}
use Rattle.bufr_tables.specs.Prelude.{IsSound}
use Rattle.bufr_walk.specs.Prelude.{IsStoredReading}
use Rattle.bufr_walk.proofs.BoundLemmas.{few_items, steps_within}
use Rattle.bufr_walk.proofs.PlainLemmas.{readable_of}
use Rattle.bufr_walk.proofs.reading.Reading.show_by.Goals as goal

shown : goal.returns-clause-shown
shown g c = search (rules, readable_of)

pub returns-clause-shown : goal.returns-clause-shown
returns-clause-shown g c = shown g c

pub returns-clause-few : goal.returns-clause-few
returns-clause-few g c = few_items c.args.self.now c.self.inside.kept (subst (λ r. IsStoredReading r c.self.inside.kept) c.self.view_is c.self.invariant)

pub returns-in-Some-clause-few : goal.returns-in-Some-clause-few
returns-in-Some-clause-few g c = few_items c.args.self.now c.self.inside.kept (subst (λ r. IsStoredReading r c.self.inside.kept) c.self.view_is c.self.invariant)

pub returns-clause-bounded : goal.returns-clause-bounded
returns-clause-bounded g c =
    steps_within g.V.Visitor.sees c.args.self.now c.self.inside.kept c.args.visitor.now c.show_plain.new.visitor c.show_plain.result c.show_plain.new.steps
    (subst (λ r. IsSound r.template) c.self.view_is c.cells.ensures.flattened.sound) (subst (λ r. IsStoredReading r c.self.inside.kept) c.self.view_is c.self.invariant) (shown g c)
