use Rattle.std.proofs.Common.{arith, sym, ◌∙◌}
use Rattle.bufr_tables.proofs.RecordLemmas.{number_more}
use Rattle.bufr_tables.proofs.rows.magnitude.Goals as goal

pub loop-octet-preserved : goal.loop-octet-preserved
loop-octet-preserved c =
    number_more c.args.digits.now c.loop-octet.octet-index _ _ _ _ _ (omega arith) (sym c.are_digits.ensures ∙ c.if-not-are_digits.false)
    c.loop-octet.invariant c.saturating_mul.ensures c.from.ensures c.saturating_add-number.ensures
