use Rattle.std.proofs.Common.{◌-◌, length}
use Rattle.bufr_c.proofs.RowLemmas.{RowsLoop}
use Rattle.bufr_c.proofs.row_events.write_rows.Given as goal

-- The rows of the events so far were written, and the buffers did not move.
abbrev pub invariant-loop-counts : goal.invariant-loop-counts
invariant-loop-counts l =
    RowsLoop l.fn.event.templates.table_b l.fn.event.templates.table_d l.fn.event.wanted.now l.octets l.fn.counts.at l.fn.rows l.rows l.counts l.event.templates.table_b
    l.event.templates.table_d l.event.wanted.now

-- the remaining octets
abbrev pub decreases-loop-counts : goal.decreases-loop-counts
decreases-loop-counts l = length l.octets - l.counts.at
