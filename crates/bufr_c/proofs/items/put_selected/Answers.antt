use Rattle.std.proofs.Common.{◌∙◌, rules}
use Rattle.bufr_c.proofs.RowLemmas.{message_done, message_done_fault, message_refused, message_refused_fault}
use Rattle.bufr_c.proofs.items.put_selected.Goals as goal

pub returns-in-Ok-show_by-clause-puts : goal.returns-in-Ok-show_by-clause-puts
returns-in-Ok-show_by-clause-puts c =
    let answers = rw c.requires.cached at c.in-Ok-read_by.ensures.reads in
    message_done _ c.args.templates.now.table_b c.args.templates.now.table_d c.args.message.now c.args.out.now c.show_by.new.visitor c.in-Ok.template c.in-Ok-read_by.reading c.read_by.new.steps
    c.show_by.new.steps (search rules) answers c.in-Ok-show_by.ensures.shown

pub returns-in-Ok-show_by-clause-fault : goal.returns-in-Ok-show_by-clause-fault
returns-in-Ok-show_by-clause-fault c =
    let answers = rw c.requires.cached at c.in-Ok-read_by.ensures.reads in
    message_done_fault c.args.templates.now.table_b c.args.templates.now.table_d c.args.message.now c.in-Ok.template c.in-Ok-read_by.reading c.read_by.new.steps (search rules) answers

pub returns-in-Ok-clause-puts : goal.returns-in-Ok-clause-puts
returns-in-Ok-clause-puts c =
    let answers = rw c.requires.cached at c.in-Err-read_by.ensures.reads in
    message_refused c.args.templates.now.table_b c.args.templates.now.table_d c.args.message.now c.args.out.now c.in-Ok.template c.in-Err-read_by.why c.read_by.new.steps (search rules) answers
    (search rules)

pub returns-in-Ok-clause-fault : goal.returns-in-Ok-clause-fault
returns-in-Ok-clause-fault c =
    let answers = rw c.requires.cached at c.in-Err-read_by.ensures.reads in
    c.number.ensures
    ∙ message_refused_fault c.args.templates.now.table_b c.args.templates.now.table_d c.args.message.now c.in-Ok.template c.in-Err-read_by.why c.read_by.new.steps (search rules) answers
    (search rules)
