use Rattle.std.proofs.Common.{◌≤◌, Ok, Err, append-nil, length, rules, sym, ◌∙◌}
use Rattle.bufr_text.specs.Prelude.{Pushes}
use Rattle.bufr_text.proofs.PushLemmas.{◌⨾◌, retold}
use Rattle.bufr_text.proofs.AlikeLemmas.{made-none, made-shown}
use Rattle.bufr_text.proofs.alike.push_made.Goals as goal

pub returns-then-is_empty : goal.returns-then-is_empty
returns-then-is_empty g c =
    let none : length c.args.text.now ≤ 0 = search rules in
    made-none c.args.text.now c.args.lines.now none

pub returns-in-Ok : goal.returns-in-Ok
returns-in-Ok g c =
    let some : 1 ≤ length c.args.text.now = search rules in
    let all : Pushes c.args.lines.now c.args.text.now c.end_line.new.self = retold (c.push.ensures ⨾ c.end_line.ensures.pushes) (append-nil c.args.text.now) in
    made-shown c.args.text.now c.args.lines.now c.end_line.new.self (Ok tt) some c.requires all (sym c.status.ensures ∙ c.in-Ok.is)

pub returns-in-Err : goal.returns-in-Err
returns-in-Err g c =
    let some : 1 ≤ length c.args.text.now = search rules in
    let all : Pushes c.args.lines.now c.args.text.now c.end_line.new.self = retold (c.push.ensures ⨾ c.end_line.ensures.pushes) (append-nil c.args.text.now) in
    made-shown c.args.text.now c.args.lines.now c.end_line.new.self (Err c.in-Err.fault) some c.requires all (sym c.status.ensures ∙ c.in-Err.is)
