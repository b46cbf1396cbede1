use Rattle.bufr_text.proofs.PushLemmas.{◌⨾◌, nothing_pushed}
use Rattle.bufr_cli.proofs.fault_line.push_section_fault.Goals as goal

pub returns-in-SectionShort : goal.returns-in-SectionShort
returns-in-SectionShort g c =
    rw c.in-SectionShort.is
    (rw (← c.from-in-SectionShort.ensures) (c.push_named-in-SectionShort.ensures ⨾ (c.push.ensures ⨾ nothing_pushed)))

pub returns-in-SectionPast : goal.returns-in-SectionPast
returns-in-SectionPast g c =
    rw c.in-SectionPast.is
    (rw (← c.from-in-SectionPast.ensures) (c.push_named-in-SectionPast.ensures ⨾ (c.push-in-SectionPast.ensures ⨾ nothing_pushed)))
