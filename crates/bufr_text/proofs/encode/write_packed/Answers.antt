use Rattle.std.proofs.Common.{◌∙◌, length, arith, ap, refl, sym, subst, Ok, Err}
use Rattle.std.proofs.lemmas.Result.{err_from_is_err_and}
use Rattle.bufr_text.specs.Prelude.{document_fault}
use Rattle.bufr_tables.specs.Prelude.{places}
use Rattle.bufr_walk.specs.Prelude.{counted_item}
use Rattle.bufr_fill.specs.Prelude.{subsets_of, PackedOutModel, StartsPackedOut}
use Rattle.bufr_text.proofs.EncodeLemmas.{none_packed, packed_written, packed_over, packed_stopped, some_before, some_ends, template_adds}
use Rattle.bufr_text.proofs.encode.write_packed.Goals as goal
use Rattle.std.proofs.lemmas.Grind.{common_steps}

pub returns-in-None-clause-written : goal.returns-in-None-clause-written
returns-in-None-clause-written c = grind (arith, common_steps, none_packed)

pub returns-in_ok-end-in-Ok-clause-written : goal.returns-in_ok-end-in-Ok-clause-written
returns-in_ok-end-in-Ok-clause-written c =
    let ss = subsets_of c.args.entries.now in
    let course = counted_item c.args.cache.now c.args.template.now in
    let at = subst (StartsPackedOut ss) c.in-Some.is c.in_ok-out.ensures in
    let after = some_ends c.out.inside.entries.now c.out.inside.ends.now (length c.walk_by.new.fields.subsets) c.out.invariant.ends_are c.out.invariant.some
    (ap (λ (p : PackedOutModel). length p.subsets) (sym c.out.view_is)) in
    packed_written (places c.args.template.now) course ss c.in-Some.out c.args.steps.now c.walk_by.new.fields c.walk_by.new.steps
    c.into_octets.result.items at (some_before course ss c.in-Some.out c.args.steps.now (Ok tt) c.walk_by.new.fields c.walk_by.new.steps c.in-Ok.ensures.walked at after) c.requires.none
    c.in-Ok.ensures.walked c.in_ok-end-in-Ok.ensures c.in-Ok.ensures.accepted
    (record { same = c.into_octets.ensures.bits; count = omega (arith, c.into_octets.ensures.len, c.into_octets.result.ok.0) })

pub returns-in_err-end-in-Ok-clause-written : goal.returns-in_err-end-in-Ok-clause-written
returns-in_err-end-in-Ok-clause-written c =
    let ss = subsets_of c.args.entries.now in
    let course = counted_item c.args.cache.now c.args.template.now in
    let at = subst (StartsPackedOut ss) c.in-Some.is c.in_ok-out.ensures in
    let after = some_ends c.out.inside.entries.now c.out.inside.ends.now (length c.walk_by.new.fields.subsets) c.out.invariant.ends_are c.out.invariant.some
    (ap (λ (p : PackedOutModel). length p.subsets) (sym c.out.view_is)) in
    let residual = c.from_residual-in_err-end-in-Ok in
    let passed = err_from_is_err_and residual.result residual.ensures.1 in
    rw (passed.1 ∙ ap Err passed.2)
    (packed_over (places c.args.template.now) course ss c.in-Some.out c.args.steps.now c.walk_by.new.fields c.walk_by.new.steps c.in_err-end-in-Ok.field-0.0
    _ (template_adds c.args.cache.now c.args.template.now) at (some_before course ss c.in-Some.out c.args.steps.now (Ok tt) c.walk_by.new.fields c.walk_by.new.steps c.in-Ok.ensures.walked at after)
    c.requires.none
    c.in-Ok.ensures.walked c.in_err-end-in-Ok.ensures refl c.in-Ok.ensures.accepted)

pub returns-in-Err-clause-written : goal.returns-in-Err-clause-written
returns-in-Err-clause-written c =
    let ss = subsets_of c.args.entries.now in
    let course = counted_item c.args.cache.now c.args.template.now in
    let at = subst (StartsPackedOut ss) c.in-Some.is c.in_ok-out.ensures in
    let after = some_ends c.out-in-Err.inside.entries.now c.out-in-Err.inside.ends.now (length c.walk_by.new.fields.subsets) c.out-in-Err.invariant.ends_are c.out-in-Err.invariant.some
    (ap (λ (p : PackedOutModel). length p.subsets) (sym c.out-in-Err.view_is)) in
    packed_stopped (places c.args.template.now) course ss c.in-Some.out c.args.steps.now c.walk_by.new.fields c.walk_by.new.steps c.line.result c.in-Err.why c.into.result
    (template_adds c.args.cache.now c.args.template.now) at (some_before course ss c.in-Some.out c.args.steps.now (Err c.in-Err.why) c.walk_by.new.fields c.walk_by.new.steps
    c.in-Err.ensures.walked at after) c.requires.none c.in-Err.ensures.walked c.line.ensures (c.into.ensures ∙ ap document_fault c.of_stop.ensures) c.in-Err.ensures.refused
