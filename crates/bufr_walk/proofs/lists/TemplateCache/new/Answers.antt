use Rattle.std.proofs.Common.{arith}
use Rattle.std.proofs.lemmas.List.Elements.{All-nil}
use Rattle.bufr_walk.specs.Prelude.{IsOther}
use Rattle.bufr_walk.proofs.lists.TemplateCache.new.Goals as goal

pub invariant_of-result : goal.invariant_of-result
invariant_of-result c = record {
  last = c.new.ensures.slot c.args.table_d.now;
  others = rw c.new-2.ensures.items (All-nil (IsOther c.args.table_b.now c.args.table_d.now));
  few = rw c.new-2.ensures.items (omega arith);
}
