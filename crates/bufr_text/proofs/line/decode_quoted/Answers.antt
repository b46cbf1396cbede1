use Rattle.std.proofs.Common.{arith}
use Rattle.bufr_text.proofs.ItemLemmas.{unquoting-says, unquoting-within, unquoting-closed, unquoting-nothing, unquoting-end}
use Rattle.bufr_text.proofs.line.decode_quoted.Goals as goal
use Rattle.std.proofs.lemmas.Grind.{common_steps}

pub returns-in-Closed : goal.returns-in-Closed
returns-in-Closed c = unquoting-closed c.args.text.now c.loop-at.out c.loop-at.count c.loop-at.at c.loop-at.invariant c.loop-at-test.true (rw c.suffix.ensures at c.in-Closed.ensures)

pub overflow_add-at : goal.overflow_add-at
overflow_add-at c = grind (arith, common_steps, unquoting-within)

pub loop-at-smaller : goal.loop-at-smaller
loop-at-smaller c = grind (arith, common_steps, unquoting-within)

pub loop-at-preserved : goal.loop-at-preserved
loop-at-preserved c = unquoting-says c.args.text.now c.loop-at.out c.loop-at.count c.loop-at.at c.in-Octet.octet c.in-Octet.written c.loop-at.invariant c.loop-at-test.true
    (rw c.suffix.ensures at c.in-Octet.ensures)

pub returns-in-Nothing : goal.returns-in-Nothing
returns-in-Nothing c = unquoting-nothing c.args.text.now c.loop-at.out c.loop-at.count c.loop-at.at c.loop-at.invariant c.loop-at-test.true (rw c.suffix.ensures at c.in-Nothing.ensures)

pub returns : goal.returns
returns c = unquoting-end c.args.text.now c.loop-at.out c.loop-at.count c.loop-at.at c.loop-at.invariant c.loop-at-test.false
