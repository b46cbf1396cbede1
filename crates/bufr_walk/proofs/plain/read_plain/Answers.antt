use Rattle.std.proofs.Common.{◌≤◌, ◌+◌, ◌∙◌, length, ap, subst, sym, refl, arith, Ok, false}
use Rattle.bufr_bits.specs.Prelude.{bits_of, octets_of}
use Rattle.bufr_tables.specs.Prelude.{places}
use Rattle.bufr_walk.specs.Prelude.{Cursor, data_in, PaysBits, reading_of, ReadsData, uncounted, counted_item}
use Rattle.bufr_walk.proofs.PlainReading.{one_more, stopped_there, few_stopped, none_yet, all_read, all_paid}
use Rattle.bufr_walk.proofs.plain.read_plain.Goals as goal

pub subsets-preserved : goal.subsets-preserved
subsets-preserved c = (
  c.in-Ok.ensures.same ∙ c.subsets.invariant.0,
  one_more (places c.args.template.now) (counted_item c.args.cache.now c.args.template.now) (bits_of (octets_of c.args.bits)) c.subsets.done c.subsets.fields c.walk_with-outcome.new.fields
      c.subsets.steps c.walk_with-outcome.new.steps c.subsets.invariant.1 (subst (λ (s : Cursor). s.at ≤ length s.bits) c.fields.view_is c.fields.invariant)
      (rw c.subsets.invariant.0 at c.in-Ok.ensures.walked) c.in-Ok.ensures.accepted,
)

pub returns-in-Err-clause-reads : goal.returns-in-Err-clause-reads
returns-in-Err-clause-reads c =
    rw (c.fault_at.ensures, ap (λ (s : Cursor). s.at) c.fields.view_is) (stopped_there (places c.args.template.now) (counted_item c.args.cache.now c.args.template.now) (octets_of c.args.bits)
    c.args.subsets c.subsets.done c.subsets.fields c.walk_with-outcome.new.fields c.subsets.steps c.walk_with-outcome.new.steps c.in-Err.why c.subsets.invariant.1
    (subst (λ (s : Cursor). s.at ≤ length s.bits) c.fields.view_is c.fields.invariant) c.subsets-test.true (rw c.subsets.invariant.0 at c.in-Err.ensures.walked))

pub returns-in-Err-clause-refused : goal.returns-in-Err-clause-refused
returns-in-Err-clause-refused c =
    rw (c.fault_at.ensures, ap (λ (s : Cursor). s.at) c.fields.view_is) (few_stopped (places c.args.template.now) (counted_item c.args.cache.now c.args.template.now) (bits_of (octets_of c.args.bits))
    c.subsets.done c.subsets.fields c.walk_with-outcome.new.fields c.subsets.steps c.walk_with-outcome.new.steps c.subsets.invariant.1
    (subst (λ (s : Cursor). s.at ≤ length s.bits) c.fields.view_is c.fields.invariant) (c.subsets.done + 1) c.in-Err.why (rw c.subsets.invariant.0 at c.in-Err.ensures.walked) c.in-Err.ensures.refused)

pub subsets-init : goal.subsets-init
subsets-init c = (
  refl,
  none_yet (places c.args.template.now) (counted_item c.args.cache.now c.args.template.now) (bits_of (octets_of c.args.bits)) c.new-fields.result c.args.steps.now
      c.new-fields.ensures c.requires,
)

pub returns-clause-reads : goal.returns-clause-reads
returns-clause-reads c =
    let course = counted_item c.args.cache.now c.args.template.now in
    let d = data_in false c.args.subsets (octets_of c.args.bits) in
    subst (λ n. ReadsData course d (Ok n) c.subsets.steps) (sym (ap (λ (s : Cursor). s.at) c.fields-2.view_is))
    (all_read (places c.args.template.now) course (octets_of c.args.bits) c.args.subsets c.subsets.done c.subsets.fields c.subsets.steps c.subsets.invariant.1 (omega arith))

pub returns-clause-paid : goal.returns-clause-paid
returns-clause-paid c =
    let course = counted_item c.args.cache.now c.args.template.now in
    let d = data_in false c.args.subsets (octets_of c.args.bits) in
    subst (λ n. PaysBits (reading_of (uncounted course) d).values n) (sym (ap (λ (s : Cursor). s.at) c.fields-2.view_is))
    (all_paid (places c.args.template.now) course (octets_of c.args.bits) c.args.subsets c.subsets.done c.subsets.fields c.subsets.steps c.subsets.invariant.1 (omega arith))
