use Rattle.std.proofs.Common.{◌-◌, ◌∙◌, length, arith, sym}
use Rattle.std.proofs.lemmas.Option.{slice_get_within, get_or_from_slice_get}
use Rattle.bufr_tables.proofs.TableDLemmas.{is_last-at}
use Rattle.bufr_tables.proofs.table_d.TableD.is_last.Goals as goal

pub returns-in-Some : goal.returns-in-Some
returns-in-Some c =
    let runs = c.self.inside.runs.items in
    let run = c.in-Some.run'.now in
    let read = sym (rw c.deref.ensures.value at c.in-Some.ensures.value) in
    let inside = slice_get_within runs (length runs - 1) run read in
    let at = sym (get_or_from_slice_get runs (length runs - 1) run run read) in
    rw (← c.self.view_is) (c.eq.ensures ∙ sym (is_last-at c.self.inside.members.items runs (length runs - 1) c.args.sequence run (omega arith) at))
