use Rattle.std.proofs.Common.{◌≡◌, ◌+◌, ℕ, List, ◌++◌, take, drop, ap, sym, subst, ◌∙◌}
use Rattle.std.proofs.Math.Seq.{take-add}
use Rattle.bufr_frame.specs.Prelude.{FinderModel, gone_to}
use Rattle.bufr_frame.proofs.ScanLemmas.{drop-twice}
use Rattle.bufr_frame.proofs.finder.Finder.advance_to.Goals as goal

pub returns-clause-gone : goal.returns-clause-gone
returns-clause-gone c =
    let v = c.self.inside in
    let held = v.input.held in
    let n = c.args.n in
    let state : (before rest : List ℕ) (longest : ℕ) → FinderModel =
    λ before rest longest. record {
      before = before;
      rest = rest;
      at = v.offset + n;
      ended = v.input.ended;
      fault = v.fault;
      reads = v.input.reads;
      longest = longest;
      room = v.input.room;
      free = v.input.free;
    } in
    let P : FinderModel → Type 0 = λ o. state (take (v.passed + n) held) (drop (v.passed + n) held) c.max-self-inside.result ≡ gone_to o n c.args.stated_length in
    subst P c.self.view_is
    (ap (λ l. state l (drop (v.passed + n) held) c.max-self-inside.result) (take-add v.passed n held)
    ∙ ap (λ l. state (take v.passed held ++ take n (drop v.passed held)) l c.max-self-inside.result) (sym (drop-twice n v.passed held))
    ∙ ap (state (take v.passed held ++ take n (drop v.passed held)) (drop n (drop v.passed held))) c.max-self-inside.ensures)
