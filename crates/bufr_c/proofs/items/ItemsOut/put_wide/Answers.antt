use Rattle.std.proofs.Common.{ℕ, ℤ, List, rules, subst, OnOk, ◌≡◌, to_z, of_z, w16}
use Rattle.std.specs.Int.{w128, to_le_bytes}
use Rattle.bufr_c.specs.Rows.{with_text}
use Rattle.bufr_c.proofs.items.ItemsOut.put_wide.Goals as goal

pub returns : goal.returns
returns c =
    let scale : to_z w16 (of_z w16 c.args.scale) ≡ c.args.scale = search rules in
    let number : to_z w128 (of_z w128 c.args.number) ≡ c.args.number = search rules in
    subst (λ (n : ℤ). OnOk c.put_text.result (c.put_text.new.self ≡ with_text c.args.self.now c.args.fxy 4 c.args.scale (to_le_bytes w128 (of_z w128 n)))) number
    (subst (λ (o : List ℕ). OnOk c.put_text.result (c.put_text.new.self ≡ with_text c.args.self.now c.args.fxy 4 c.args.scale o)) c.to_le_bytes-octets.ensures
    (subst (λ (z : ℤ). OnOk c.put_text.result (c.put_text.new.self ≡ with_text c.args.self.now c.args.fxy 4 z c.to_le_bytes-octets.result)) scale c.put_text.ensures))
