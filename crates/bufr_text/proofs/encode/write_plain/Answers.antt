use Rattle.std.proofs.Common.{◌≤◌, ◌∙◌, length, arith, ap, refl, Err}
use Rattle.std.proofs.lemmas.Result.{err_from_is_err_and}
use Rattle.bufr_text.specs.Prelude.{document_fault}
use Rattle.bufr_tables.specs.Prelude.{places}
use Rattle.bufr_walk.specs.Prelude.{counted_item}
use Rattle.bufr_fill.specs.Prelude.{subsets_of}
use Rattle.bufr_text.proofs.EncodeLemmas.{none_written, one_more, all_written, stopped, subset_written, subset_over, subset_stopped, template_adds}
use Rattle.bufr_text.proofs.encode.write_plain.Goals as goal
use Rattle.std.proofs.lemmas.Grind.{common_steps}

pub subsets-init : goal.subsets-init
subsets-init c = (
  refl,
  none_written (places c.args.template.now) (counted_item c.args.cache.now c.args.template.now) c.args.entries.now c.new-out.result c.args.steps.now
      (ap (λ p. p.left) c.new-out.ensures) (ap (λ p. p.bits) c.new-out.ensures) c.requires.none,
)

pub returns-in_err-end_subset-in-Ok-clause-written : goal.returns-in_err-end_subset-in-Ok-clause-written
returns-in_err-end_subset-in-Ok-clause-written c =
    let n = places c.args.template.now in
    let course = counted_item c.args.cache.now c.args.template.now in
    let some : 1 ≤ length (subsets_of c.subsets.out.left) = omega (arith, c.subsets.invariant.1.rest, c.subsets-test.true, c.requires.many) in
    let residual = c.from_residual in
    let passed = err_from_is_err_and residual.result residual.ensures.1 in
    rw (passed.1 ∙ ap Err passed.2)
    (stopped n course (subsets_of c.args.entries.now) c.subsets.done c.subsets.out c.subsets.steps c.subsets.invariant.1 some _ c.walk_by.new.steps
    (subset_over n course c.subsets.out c.subsets.steps c.walk_by.new.fields c.walk_by.new.steps c.in_err-end_subset-in-Ok.field-0.0 _ (template_adds c.args.cache.now c.args.template.now)
    (rw c.subsets.invariant.0 at c.in-Ok.ensures.walked) some
    c.in_err-end_subset-in-Ok.ensures.0 refl c.in-Ok.ensures.accepted))

pub returns-in-Err-clause-written : goal.returns-in-Err-clause-written
returns-in-Err-clause-written c =
    let n = places c.args.template.now in
    let course = counted_item c.args.cache.now c.args.template.now in
    let some : 1 ≤ length (subsets_of c.subsets.out.left) = omega (arith, c.subsets.invariant.1.rest, c.subsets-test.true, c.requires.many) in
    stopped n course (subsets_of c.args.entries.now) c.subsets.done c.subsets.out c.subsets.steps c.subsets.invariant.1 some _ c.walk_by.new.steps
    (subset_stopped n course c.subsets.out c.subsets.steps c.walk_by.new.fields c.walk_by.new.steps c.line.result c.in-Err.why c.into.result (template_adds c.args.cache.now c.args.template.now)
    (rw c.subsets.invariant.0 at c.in-Err.ensures.walked) c.line.ensures (c.into.ensures ∙ ap document_fault c.of_stop.ensures) c.in-Err.ensures.refused)

pub subsets-preserved : goal.subsets-preserved
subsets-preserved c = grind (arith, common_steps, one_more, subset_written)

pub returns-clause-written : goal.returns-clause-written
returns-clause-written c =
    all_written (places c.args.template.now) (counted_item c.args.cache.now c.args.template.now) (subsets_of c.args.entries.now) c.subsets.done c.subsets.out c.subsets.steps c.into_octets.result.items
    c.subsets.invariant.1
    (omega (arith, c.subsets-test.false, c.subsets.auto.done-end, c.requires.many))
    (record { same = c.into_octets.ensures.bits; count = omega (arith, c.into_octets.ensures.len, c.into_octets.result.ok.0) })
