use Rattle.std.proofs.Common.{◌∷◌, [], codes, decimal}
use Rattle.bufr_tables.specs.Prelude.{fxy_text}
use Rattle.bufr_fill.specs.Prelude.{refusal_parts}
use Rattle.bufr_text.proofs.PushLemmas.{◌⨾◌, nothing_pushed, joined_then}
use Rattle.bufr_cli.proofs.fault_line.push_walk.Goals as goal

pub returns : goal.returns
returns g c =
    let why = c.args.refusal.now in
    let named = rw (c.from.ensures, c.number.ensures) at c.push_named.ensures in
    let descriptor = rw c.fxy.ensures at c.push_descriptor.ensures in
    joined_then (codes "walk " ∷ decimal (refusal_parts why).0 ∷ []) (codes " descriptor " ∷ fxy_text (refusal_parts why).1 ∷ []) (named ⨾ nothing_pushed) descriptor
