use Rattle.std.proofs.Common.{◌∙◌, refl}
use Rattle.std.proofs.lemmas.Result.{err_from_is_err_and}
use Rattle.bufr_bits.specs.Prelude.{bits_of, octets_of}
use Rattle.bufr_walk.specs.Prelude.{counted_item}
use Rattle.bufr_walk.proofs.ShownLemmas.{none_shown, next_reads, one_shown, ended_so, refused_so, all_subsets}
use Rattle.bufr_walk.proofs.plain.show_plain.Goals as goal

pub subsets-init : goal.subsets-init
subsets-init g c = (
  refl,
  none_shown g.V.Visitor.sees c.args.cache.now (counted_item c.args.cache.now c.args.given.now.template.now) c.args.given.now.subsets (bits_of (octets_of c.args.given.now.bits))
      c.args.visitor.now c.new.result c.args.steps.now c.new.ensures c.requires.steps c.requires.readable,
)

pub show_items-requires : goal.show_items-requires
show_items-requires g c =
    rw c.subsets.invariant.0 (next_reads g.V.Visitor.sees c.args.cache.now (counted_item c.args.cache.now c.args.given.now.template.now) c.args.given.now.subsets
    (bits_of (octets_of c.args.given.now.bits))
    c.subsets.done c.args.visitor.now c.subsets.walks.input c.subsets.visitor c.subsets.steps c.subsets.invariant.1 c.subsets-test.true)

pub subsets-preserved : goal.subsets-preserved
subsets-preserved g c = (
  c.in_ok-show_items-in-Ok.ensures.same ∙ c.subsets.invariant.0,
  one_shown g.V.Visitor.sees c.args.cache.now (counted_item c.args.cache.now c.args.given.now.template.now) c.args.given.now.subsets (bits_of (octets_of c.args.given.now.bits))
      c.subsets.done c.args.visitor.now c.subsets.walks.input c.subsets.visitor c.subsets.steps c.subsets.invariant.1 c.subsets-test.true
      c.subset.new.self c.show_items.new.visitor c.show_items.new.walks.input c.show_items.new.steps c.in-Ok.ensures (rw c.subsets.invariant.0 at c.in_ok-show_items-in-Ok.ensures.shown),
)

pub returns-in_err-show_items-in-Ok-clause-shown : goal.returns-in_err-show_items-in-Ok-clause-shown
returns-in_err-show_items-in-Ok-clause-shown g c =
    let p = err_from_is_err_and c.from_residual.result c.from_residual.ensures.1 in
    rw (p.1, p.2) (ended_so g.V.Visitor.sees c.args.cache.now (counted_item c.args.cache.now c.args.given.now.template.now) c.args.given.now.subsets (bits_of (octets_of c.args.given.now.bits))
    c.subsets.done c.args.visitor.now c.subsets.walks.input c.subsets.visitor c.subsets.steps c.subsets.invariant.1 c.subsets-test.true
    c.subset.new.self c.show_items.new.visitor c.show_items.new.walks.input c.show_items.new.steps _ c.in-Ok.ensures (rw c.subsets.invariant.0 at c.in_err-show_items-in-Ok.ensures.shown))

pub returns-in-Err-clause-shown : goal.returns-in-Err-clause-shown
returns-in-Err-clause-shown g c =
    refused_so g.V.Visitor.sees c.args.cache.now (counted_item c.args.cache.now c.args.given.now.template.now) c.args.given.now.subsets (bits_of (octets_of c.args.given.now.bits))
    c.subsets.done c.args.visitor.now c.subsets.walks.input c.subsets.visitor c.subsets.steps c.subsets.invariant.1 c.subsets-test.true
    c.subset.new.self c.in-Err.fault c.in-Err.ensures

pub returns-clause-shown : goal.returns-clause-shown
returns-clause-shown g c =
    all_subsets g.V.Visitor.sees c.args.cache.now (counted_item c.args.cache.now c.args.given.now.template.now) c.args.given.now.subsets (bits_of (octets_of c.args.given.now.bits))
    c.subsets.done c.args.visitor.now c.subsets.visitor c.subsets.walks.input c.subsets.steps c.subsets.invariant.1 c.subsets-test.false
