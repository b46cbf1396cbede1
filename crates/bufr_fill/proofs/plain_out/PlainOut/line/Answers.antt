use Rattle.std.proofs.Common.{sym, ap, ◌∙◌, drop, ◌+◌}
use Rattle.bufr_fill.specs.Prelude.{entry_with, line_at}
use Rattle.bufr_fill.proofs.EntryLemmas.{line-with, left_there, left_none}
use Rattle.bufr_fill.proofs.plain_out.PlainOut.line.Goals as goal

pub returns-in-Some : goal.returns-in-Some
returns-in-Some c =
    let d = c.self.inside in
    let octets = c.in-Some.field-0-1.now in
    sym (ap line_at (left_there d.entries.now d.index d.out.bits c.args.self.now (entry_with c.in-Some.entry octets) c.self.view_is c.in-Some.ensures)
    ∙ line-with c.in-Some.entry octets (drop (d.index + 1) d.entries.now))

pub returns-in-None : goal.returns-in-None
returns-in-None c =
    let d = c.self.inside in
    sym (ap line_at (left_none d.entries.now d.index d.out.bits c.args.self.now c.self.view_is c.in-None.ensures))
