use Rattle.std.proofs.Common.{ap, arith}
use Rattle.bufr_tables.specs.Prelude.{places as places_of}
use Rattle.bufr_tables.proofs.ExpansionLemmas.{length-kept}
use Rattle.bufr_tables.proofs.template.Template.places.Goals as goal

pub overflow_cast-result : goal.overflow_cast-result
overflow_cast-result c = omega (arith, c.len.ensures, length-kept _ _ _ c.self.invariant, c.self.invariant.is_flattened.within)

pub returns-clause-value : goal.returns-clause-value
returns-clause-value c = omega (arith, c.len.ensures, length-kept _ _ _ c.self.invariant, ap places_of c.self.view_is)

pub returns-clause-most : goal.returns-clause-most
returns-clause-most c = omega (arith, c.len.ensures, length-kept _ _ _ c.self.invariant, c.self.invariant.is_flattened.within)
