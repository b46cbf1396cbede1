use Rattle.std.proofs.Common.{arith}
use Rattle.bufr_fill.proofs.LeastLemmas.{least_with, most_with, number_is}
use Rattle.bufr_fill.proofs.packed_out.NumberRange.with.Goals as goal

pub returns : goal.returns
returns c = λ contents range. record {
  least = omega (arith, c.min.ensures, c.number_or.ensures, range.least, least_with contents c.args.content);
  greatest = omega (arith, c.max.ensures, c.number_or-2.ensures, number_is c.args.content, range.greatest, most_with contents c.args.content);
}
