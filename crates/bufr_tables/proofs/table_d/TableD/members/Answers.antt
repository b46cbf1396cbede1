use Rattle.std.proofs.Common.{◌≡◌, ◌≤◌, ◌<◌, None, Some, map, arith, sym}
use Rattle.bufr_tables.specs.Prelude.{place_of, key_of, run_key}
use Rattle.bufr_tables.proofs.TableDLemmas.{members-absent, members-found, members-other}
use Rattle.bufr_tables.proofs.table_d.TableD.members.Goals as goal

pub returns-then-f-ne3 : goal.returns-then-f-ne3
returns-then-f-ne3 c =
    let other = rw c.f.ensures.value at c.if-f-ne3.true in
    rw (← c.self.view_is) (sym (members-other c.self.inside.members.items c.self.inside.runs.items c.args.fxy c.self.invariant.sequences other))

pub returns-in_err-place : goal.returns-in_err-place
returns-in_err-place c =
    let kept = c.self.invariant in
    let low : 49152 ≤ c.args.fxy = omega arith in
    let high : c.args.fxy < 65536 = omega arith in
    let absent : place_of (map run_key c.self.inside.runs.items) (key_of c.args.fxy) ≡ None = rw (← kept.members_or_none) (sym (rw c.key.ensures.value at c.in_err-place.ensures.value)) in
    rw (← c.self.view_is, c.from_residual.ensures) (sym (members-absent c.self.inside.members.items c.self.inside.runs.items c.args.fxy kept.sequences low high absent))

pub returns : goal.returns
returns c =
    let kept = c.self.invariant in
    let low : 49152 ≤ c.args.fxy = omega arith in
    let high : c.args.fxy < 65536 = omega arith in
    let found : place_of (map run_key c.self.inside.runs.items) (key_of c.args.fxy) ≡ Some c.in_ok-place.place =
    rw (← kept.members_or_none) (sym (rw c.key.ensures.value at c.in_ok-place.ensures.value)) in
    rw (← c.self.view_is, c.deref.ensures.value) (members-found c.self.inside.members.items c.self.inside.runs.items c.args.fxy kept.sequences c.in_ok-place.place c.index-run.result.now low high
    found c.index-run.ensures)
