use Rattle.std.proofs.Common.{◌≡◌, ◌∙◌, ◌+◌, ◌-◌, ◌<◌, List, ℕ, [], ◌∷◌, ◌++◌, ap, subst, arith, slice_range, slice_set, vec_len, vec_capacity}
use Rattle.std.proofs.lemmas.List.{take_more_set}
use Rattle.bufr_frame.specs.Prelude.{InputModel}
use Rattle.bufr_frame.proofs.FinderLemmas.{part-append}
use Rattle.bufr_frame.proofs.input.InputBuffer.push.Goals as goal

pub returns : goal.returns
returns c =
    let v = c.self.inside in
    let items = v.octets.items in
    let pushed = slice_set items v.filled c.args.octet in
    let state : List ℕ → ℕ → InputModel = λ held free. record { gap = v.start; held = held; ended = v.ended; reads = v.reads; room = vec_capacity v.octets; free = free } in
    let P : InputModel → Type 0 = λ o. state (slice_range pushed v.start (v.filled + 1)) (vec_len v.octets - (v.filled + 1)) ≡ record o { held = o.held ++ c.args.octet ∷ []; free = o.free - 1 } in
    let within : v.filled < vec_len v.octets = omega (arith, c.requires, ap (λ s. s.free) c.self.view_is) in
    let less : vec_len v.octets - (v.filled + 1) ≡ vec_len v.octets - v.filled - 1 = omega arith in
    subst P c.self.view_is
    (ap (λ l. state l (vec_len v.octets - (v.filled + 1))) (part-append items pushed (c.args.octet ∷ []) v.start v.filled 1 (omega (arith, c.self.invariant)) (omega (arith, within, v.octets.ok.0))
    (take_more_set items v.filled c.args.octet (omega (arith, within, v.octets.ok.0))))
    ∙ ap (state (slice_range items v.start v.filled ++ c.args.octet ∷ [])) less)
