use Rattle.std.proofs.Common.{arith, inl, inr, refl}
use Rattle.std.proofs.lemmas.Result.{err_from_is_err_and}
use Rattle.bufr_walk.specs.declared.fault.ShowFault.TheVariants as fault
use Rattle.bufr_walk.proofs.PackedShowing.{subsets_go, subsets_end}
use Rattle.bufr_text.specs.Prelude.{PushesCall}
use Rattle.bufr_text.proofs.alike.AlikeLines.show_all.Goals as goal

pub returns-in-Err : goal.returns-in-Err
returns-in-Err g c =
    subsets_end PushesCall c.args.items.now c.args.lines.now c.subsets.lines c.subset.new.self c.subsets.subset (fault.Visitor c.in-Err.fault)
    (omega (arith, c.subsets-test.true, c.subsets-subset-end.ensures))
    c.subsets.invariant (inl (c.in-Err.ensures, refl))

pub returns-in_err-show_subset-in-Ok : goal.returns-in_err-show_subset-in-Ok
returns-in_err-show_subset-in-Ok g c =
    let p = err_from_is_err_and c.from_residual.result c.from_residual.ensures.1 in
    rw (p.1, p.2) (subsets_end PushesCall c.args.items.now c.args.lines.now c.subsets.lines c.show_subset.new.lines c.subsets.subset _
    (omega (arith, c.subsets-test.true, c.subsets-subset-end.ensures))
    c.subsets.invariant (inr (c.subset.new.self, c.in-Ok.ensures, c.in_err-show_subset-in-Ok.ensures)))

pub subsets-preserved : goal.subsets-preserved
subsets-preserved g c =
    subsets_go PushesCall c.args.items.now c.args.lines.now c.subsets.lines c.show_subset.new.lines c.subsets.subset (omega (arith, c.subsets-test.true, c.subsets-subset-end.ensures))
    c.subsets.invariant (c.subset.new.self, c.in-Ok.ensures, c.in_ok-show_subset-in-Ok.ensures)
