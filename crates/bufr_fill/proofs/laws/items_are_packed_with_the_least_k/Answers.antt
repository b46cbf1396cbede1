use Rattle.bufr_fill.proofs.PackedLaws.{fitting_least_k, least_k_packed}
use Rattle.bufr_fill.proofs.laws.items_are_packed_with_the_least_k.Goals as goal

pub returns-clause-read : goal.returns-clause-read
returns-clause-read c = least_k_packed

pub returns-clause-fitting : goal.returns-clause-fitting
returns-clause-fitting c = fitting_least_k
