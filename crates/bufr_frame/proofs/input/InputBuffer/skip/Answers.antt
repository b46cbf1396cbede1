use Rattle.std.proofs.Common.{◌≡◌, ◌∙◌, ◌+◌, ◌-◌, List, ℕ, length, drop, ap, sym, subst, arith, slice_range, vec_len, vec_capacity}
use Rattle.bufr_frame.specs.Prelude.{InputModel}
use Rattle.bufr_frame.proofs.FinderLemmas.{part-drop, part-length}
use Rattle.bufr_frame.proofs.input.InputBuffer.skip.Goals as goal

pub returns : goal.returns
returns c =
    let v = c.self.inside in
    let state : List ℕ → InputModel = λ held. record { gap = v.start + c.args.n; held = held; ended = v.ended; reads = v.reads; room = vec_capacity v.octets; free = vec_len v.octets - v.filled } in
    let P : InputModel → Type 0 = λ o. state (slice_range v.octets.items (v.start + c.args.n) v.filled) ≡ record o { held = drop c.args.n o.held; gap = o.gap + c.args.n } in
    let long : length c.args.self.now.held ≡ v.filled - v.start = sym (ap (λ s. length s.held) c.self.view_is)
    ∙ part-length v.octets.items v.start v.filled (omega (arith, c.self.invariant, v.octets.ok.0)) in
    subst P c.self.view_is (ap state (sym (part-drop v.octets.items v.start v.filled c.args.n (omega (arith, c.requires, long)))))
