use Rattle.std.proofs.Common.{sym, subst, arith, ◌/◌, ◌%◌, ◌^◌}
use Rattle.std.proofs.lemmas.Result.{err_from_is_err_and}
use Rattle.bufr_bits.specs.Prelude.{bits_of, octets_of}
use Rattle.bufr_walk.specs.Prelude.{IndexedItem, IsPackedTaken, packed_view}
use Rattle.bufr_walk.proofs.PlainLemmas.{bits_length}
use Rattle.bufr_walk.proofs.PackedReading.{takes_one, no_room, too_many_here, few_here, fault_here}
use Rattle.bufr_walk.proofs.compressed.PackedInFields.take.Goals as goal

pub returns-then-items-from-gt-MAX_VALUES-clause-step : goal.returns-then-items-from-gt-MAX_VALUES-clause-step
returns-then-items-from-gt-MAX_VALUES-clause-step c =
    too_many_here c.args.self.now c.args.spec.now (bits_of (octets_of c.self.inside.bits)) c.self.inside.at c.self.inside.subsets c.self.inside.kept c.len.result c.from.result _ c.fxy.ensures
    (sym c.self.view_is) (omega arith) c.from.ensures c.if-items-from-gt-MAX_VALUES.true

pub valid_item_at-requires-clause-within : goal.valid_item_at-requires-clause-within
valid_item_at-requires-clause-within c = omega (arith, bits_length (octets_of c.self.inside.bits), c.self.invariant.within)

pub returns-in_err-seen-clause-step : goal.returns-in_err-seen-clause-step
returns-in_err-seen-clause-step c =
    let p = err_from_is_err_and c.from_residual.result c.from_residual.ensures.1 in
    let few = few_here (bits_of (octets_of c.self.inside.bits)) c.self.inside.subsets c.self.inside.kept c.len.result c.from.result (omega arith) c.from.ensures c.if-items-from-gt-MAX_VALUES.false in
    rw (p.1, p.2) (fault_here c.args.self.now c.args.spec.now (bits_of (octets_of c.self.inside.bits)) c.self.inside.at c.self.inside.subsets c.self.inside.kept _ (sym c.self.view_is) few
    c.in_err-seen.ensures.seen)

pub returns-in_err-keep-clause-step : goal.returns-in_err-keep-clause-step
returns-in_err-keep-clause-step c =
    let p = err_from_is_err_and c.from_residual-in_err-keep.result c.from_residual-in_err-keep.ensures.1 in
    rw (p.1, p.2) (no_room c.args.self.now c.args.spec.now (bits_of (octets_of c.self.inside.bits)) c.self.inside.at c.self.inside.subsets c.self.inside.kept c.keep.new.self _ c.self.view_is
    c.in_err-keep.ensures.same c.in_err-keep.ensures.fault c.in_err-keep.ensures.full)

pub returns-clause-step : goal.returns-clause-step
returns-clause-step c =
    let bits = bits_of (octets_of c.self.inside.bits) in
    let entry : IndexedItem =
    record { spec = c.args.spec.now; base = c.in_ok-seen.seen.base; at_low = c.self.inside.at % 2 ^ 32; at_high = c.self.inside.at / 2 ^ 32; step = c.in_ok-seen.seen.step } in
    let few = few_here bits c.self.inside.subsets c.self.inside.kept c.len.result c.from.result (omega arith) c.from.ensures c.if-items-from-gt-MAX_VALUES.false in
    subst (λ s. IsPackedTaken s c.args.spec.now c.in_ok-seen.seen.answer (packed_view bits c.in_ok-seen.seen.end c.self.inside.subsets c.keep.new.self)) c.self.view_is
    (takes_one bits c.self.inside.at c.self.inside.subsets c.self.inside.kept c.keep.new.self entry c.in_ok-seen.seen (omega arith) few c.in_ok-seen.ensures.seen c.in_ok-keep.ensures.kept)
