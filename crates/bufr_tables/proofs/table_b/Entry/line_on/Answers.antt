use Rattle.std.proofs.Common.{◌∙◌, ◌+◌, ◌-◌, ap, arith, drop, length, take}
use Rattle.std.proofs.lemmas.List.{drop-drop, length-drop, take_all}
use Rattle.bufr_tables.proofs.table_b.Entry.line_on.Goals as goal

pub returns-clause-comment : goal.returns-clause-comment
returns-clause-comment c =
    let octets = c.args.self.now.octets.now in
    let s = c.args.self.now.stored.now in
    let whole = take_all (length octets - s.start) (drop s.start octets) (omega (arith, length-drop s.start octets)) in
    ap (λ l. take (s.end - (s.start + 7)) (drop 7 l)) whole ∙ ap (take (s.end - (s.start + 7))) (drop-drop 7 s.start octets) ∙ c.args.self.now.kept.comment
