use Rattle.std.proofs.Common.{refl}
use Rattle.bufr_text.specs.Prelude.{keys, leasts, mosts}
use Rattle.bufr_text.proofs.header.keys.Goals as goal

pub returns-clause-leads : goal.returns-clause-leads
unfolding keys
returns-clause-leads c = refl

pub returns-clause-leasts : goal.returns-clause-leasts
unfolding leasts
returns-clause-leasts c = refl

pub returns-clause-mosts_3 : goal.returns-clause-mosts_3
unfolding mosts
returns-clause-mosts_3 c = refl

pub returns-clause-mosts_4 : goal.returns-clause-mosts_4
unfolding mosts
returns-clause-mosts_4 c = refl
