use Rattle.std.proofs.Common.{rules, Err, ap, ◌∙◌}
use Rattle.std.proofs.lemmas.Result.{err_from_is_err_and}
use Rattle.bufr_tables.proofs.TableDLemmas.{sequences-law}
use Rattle.bufr_tables.proofs.RecordLemmas.{reads-fault, table-closed, table-end, table-fault, table-more, table-opened}
use Rattle.bufr_tables.proofs.table_d.TableD.read.Goals as goal

pub returns-in_err-records-clause-read : goal.returns-in_err-records-clause-read
returns-in_err-records-clause-read c =
    let p = err_from_is_err_and c.from_residual.result c.from_residual.ensures.1 in
    reads-fault _ _ c.in_err-records.field-0.0 (p.1 ∙ ap Err p.2)
    (λ other. let closed = c.in_err-records.ensures.err other in rw closed.0 (table-closed _ _ _ _ _ closed.1))

pub loop-table-init : goal.loop-table-init
loop-table-init c =
    let opened = c.in_ok-records.ensures.ok in
    record {
      between = opened.between;
      same = rw c.new-2.ensures.items (table-opened _ _ _ _ _ _ opened);
    }

pub loop-table-preserved : goal.loop-table-preserved
loop-table-preserved c =
    let step = c.in_ok-advance.ensures.next in
    let found = c.if-branch.true in
    let row = c.in_ok-add.ensures.ok in
    record {
      between = step.between found;
      same = table-more _ _ _ _ _ step _ c.loop-table.table c.loop-table.invariant.same c.add.new.self found row;
    }

pub returns-in_err-add-clause-read : goal.returns-in_err-add-clause-read
returns-in_err-add-clause-read c =
    let p = err_from_is_err_and c.from_residual-in_err-add.result c.from_residual-in_err-add.ensures.1 in
    let step = c.in_ok-advance.ensures.next in
    reads-fault _ _ c.in_err-add.field-0.0 (p.1 ∙ ap Err p.2)
    (λ other. table-fault _ _ _ _ _ step _ c.loop-table.table c.loop-table.invariant.same _ c.if-branch.true (c.in_err-add.ensures.err other))

pub returns-in-Some-clause-read : goal.returns-in-Some-clause-read
returns-in-Some-clause-read c =
    let whole = table-end _ _ _ _ _ c.in_ok-advance.ensures.next _ c.loop-table.table c.loop-table.invariant.same c.if-branch.false in
    search rules

pub returns-clause-read : goal.returns-clause-read
returns-clause-read c =
    let whole = table-end _ _ _ _ _ c.in_ok-advance.ensures.next _ c.loop-table.table c.loop-table.invariant.same c.if-branch.false in
    search rules

pub returns-clause-rows : goal.returns-clause-rows
returns-clause-rows c = sequences-law _ c.loop-table.table (table-end _ _ _ _ _ c.in_ok-advance.ensures.next _ c.loop-table.table c.loop-table.invariant.same c.if-branch.false)
