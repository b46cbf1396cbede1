use Rattle.std.proofs.Common.{sym, ap, ◌∙◌}
use Rattle.bufr_fill.proofs.EntryLemmas.{entry_line, line-is}
use Rattle.bufr_fill.proofs.RowLemmas.{line_same}
use Rattle.bufr_fill.proofs.packed_out.Row.line_of.Goals as goal

pub returns : goal.returns
returns c = λ cell there.
    sym (line-is c.find-entry.result.0 c.find-entry.result.1.now) ∙ ap entry_line (c.find-entry.ensures cell there) ∙ line_same cell.draft cell.end_line
