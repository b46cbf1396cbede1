use Rattle.std.proofs.Common.{length, ap, arith}
use Rattle.bufr_tables.specs.Prelude.{places as places_of}
use Rattle.bufr_tables.proofs.ExpansionLemmas.{length-kept}
use Rattle.bufr_tables.proofs.template.Template.cells.Goals as goal

pub returns-clause-count : goal.returns-clause-count
returns-clause-count c = omega (arith, ap length c.as_slice.ensures.value, length-kept _ _ _ c.self.invariant, ap places_of c.self.view_is)
