use Rattle.std.proofs.Common.{codes}
use Rattle.bufr_text.proofs.PushLemmas.{◌⨾◌}
use Rattle.bufr_frame.specs.Prelude.{section_report}
use Rattle.bufr_tables.specs.Prelude.{template_report}
use Rattle.bufr_walk.specs.Prelude.{data_report}
use Rattle.bufr_cli.proofs.FaultLineLemmas.{line_pushed}
use Rattle.bufr_cli.proofs.fault_line.push_fault.Goals as goal

pub returns-in-Section : goal.returns-in-Section
returns-in-Section g c =
    let number = rw c.number.ensures at c.push_number.ensures in
    rw c.in-Section.is (line_pushed (codes "offset ") c.args.offset _ (section_report c.in-Section.fault).1 (c.push_named.ensures ⨾ number) c.push_section_fault.ensures c.push.ensures)

pub returns-in-Template : goal.returns-in-Template
returns-in-Template g c =
    let number = rw c.number-in-Template.ensures at c.push_number-in-Template.ensures in
    rw c.in-Template.is (line_pushed (codes "offset ") c.args.offset _ (template_report c.in-Template.fault.now).1 (c.push_named.ensures ⨾ number) c.push_template_fault.ensures
    c.push-in-Template.ensures)

pub returns-in-Data : goal.returns-in-Data
returns-in-Data g c =
    let number = rw c.number-in-Data.ensures at c.push_number-in-Data.ensures in
    rw c.in-Data.is (line_pushed (codes "offset ") c.args.offset _ (data_report c.in-Data.fault.now).1 (c.push_named.ensures ⨾ number) c.push_walk_fault.ensures c.push-in-Data.ensures)
