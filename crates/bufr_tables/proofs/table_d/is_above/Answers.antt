use Rattle.std.proofs.Common.{arith}
use Rattle.bufr_tables.proofs.CycleLemmas.{above-all}
use Rattle.bufr_tables.proofs.table_d.is_above.Goals as goal

pub returns : goal.returns
returns c = λ _. above-all c.args.table.now c.args.ranks.now c.args.sequence c.args.limit c.loop-member.member-index c.members_or_none-member-items.result.now c.members_or_none-member-items.ensures
    c.loop-member.invariant (omega arith)
