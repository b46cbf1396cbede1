use Rattle.std.proofs.Common.{◌≡◌, OnOk, ap, of_z, rules, subst, to_z, true, w16, ℤ}
use Rattle.std.specs.Int.{w128}
use Rattle.bufr_walk.specs.Prelude.{seen, seen_value}
use Rattle.bufr_c.specs.Rows.{is_wanted, with_number}
use Rattle.bufr_c.proofs.RowLemmas.{number-put}
use Rattle.bufr_c.proofs.items.ItemsOutVisitor.item.Goals as goal

pub returns-in-Number : goal.returns-in-Number
returns-in-Number c =
    let wanted : is_wanted c.args.self.now.wanted c.word-fxy.result ≡ true = search rules in
    let scale : to_z w16 (of_z w16 c.in-Number.scale) ≡ c.in-Number.scale = search rules in
    let number : to_z w128 (of_z w128 c.in-Number.number) ≡ c.in-Number.number = search rules in
    number-put _ c.put_number.result c.args.self.now c.put_number.new.self (seen c.args.item.now) c.word-fxy.result c.in-Number.number c.in-Number.scale c.word-fxy.ensures
    (ap seen_value c.in-Number.is) wanted
    (subst (λ (n : ℤ). OnOk c.put_number.result (c.put_number.new.self ≡ with_number c.args.self.now c.word-fxy.result c.in-Number.scale n)) number
    (subst (λ (z : ℤ). OnOk c.put_number.result (c.put_number.new.self ≡ with_number c.args.self.now c.word-fxy.result z (to_z w128 (of_z w128 c.in-Number.number)))) scale c.put_number.ensures))
