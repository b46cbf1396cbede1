use Rattle.std.proofs.Common.{◌≡◌, rules, ◌<◌, ◌≤◌, ◌^◌, ◌∙◌, ◌*◌, ◌+◌, true, arith, ap, length, subst, sym, Err}
use Rattle.bufr_bits.specs.Prelude.{bits_of, octets_of}
use Rattle.bufr_tables.specs.Prelude.{places}
use Rattle.bufr_walk.specs.Prelude.{PackedCursor, data_in, ReadsData, bits_before, Data, counted_item}
use Rattle.bufr_walk.proofs.PackedReading.{IsReadAndKept, none_read, whole_read, walk_stops, stopped_within, few_stopped, packed_held, packed_is, packed_data_same}
use Rattle.bufr_walk.proofs.PlainLemmas.{plain_held, plain_is, same_data}
use Rattle.bufr_walk.proofs.reading.read_by.Goals as goal

pub invariant_of-result : goal.invariant_of-result
invariant_of-result c =
    let zero : IsReadAndKept (counted_item c.cache.inside.table.now c.args.template.now) (data_in true c.subsets-subsets.result (octets_of c.payload-bits.result)) c.new-then-subsets-eq0.result 0 0 =
    rw (c.if-subsets-eq0.true, c.new-then-subsets-eq0.ensures) (none_read (counted_item c.cache.inside.table.now c.args.template.now) (bits_of (octets_of c.payload-bits.result))) in
    packed_held c.cache.inside.table.now c.args.template.now c.subsets-subsets.result (octets_of c.payload-bits.result) 0 0 c.new-then-subsets-eq0.result zero
    (rw c.new-then-subsets-eq0.ensures (omega arith))

pub returns-then-subsets-eq0-clause-reads : goal.returns-then-subsets-eq0-clause-reads
returns-then-subsets-eq0-clause-reads c =
    let zero : IsReadAndKept (counted_item c.cache.inside.table.now c.args.template.now) (data_in true c.subsets-subsets.result (octets_of c.payload-bits.result)) c.new-then-subsets-eq0.result 0
    c.new.result = rw (c.if-subsets-eq0.true, c.new-then-subsets-eq0.ensures, c.new.ensures)
    (none_read (counted_item c.cache.inside.table.now c.args.template.now) (bits_of (octets_of c.payload-bits.result))) in
    rw (← c.cache.view_is) (packed_is c.cache.inside.table.now c.args.template.now c.args.message.now c.subsets-subsets.result (octets_of c.payload-bits.result) 0
    (length c.new-then-subsets-eq0.result) c.new.result c.new-then-subsets-eq0.result
    (packed_data_same c.args.message.now c.subsets-subsets.result (octets_of c.payload-bits.result) (sym c.compressed.ensures ∙ c.if-compressed.true) c.subsets-subsets.ensures
    c.payload-bits.ensures.value) zero)

pub invariant_of-result-then-compressed : goal.invariant_of-result-then-compressed
invariant_of-result-then-compressed c =
    let f = c.fields.inside in
    packed_held c.cache.inside.table.now c.args.template.now c.subsets-subsets.result (octets_of c.payload-bits.result) f.at c.walk_by.new.steps f.kept
    (whole_read c.subsets-subsets.result (counted_item c.cache.inside.table.now c.args.template.now) (bits_of (octets_of c.payload-bits.result)) c.new-fields.result c.new-fields.ensures
    (omega (arith, c.if-subsets-eq0.false)) c.walk_by.new.fields c.new.result c.walk_by.new.steps c.new.ensures
    (subst (λ (s : PackedCursor). s.at ≤ length s.bits) c.fields.view_is c.fields.invariant.within) (bits_of (octets_of f.bits)) f.at f.subsets f.kept c.fields.view_is
    (rw (← c.cache.view_is) at c.in-Ok.ensures.walked) c.fields.invariant.few c.fields.invariant.fit) c.fields.invariant.held

pub returns-then-compressed-clause-reads : goal.returns-then-compressed-clause-reads
returns-then-compressed-clause-reads c =
    let f = c.fields.inside in
    rw (← c.cache.view_is) (packed_is c.cache.inside.table.now c.args.template.now c.args.message.now c.subsets-subsets.result (octets_of c.payload-bits.result) f.at (length f.kept)
    c.walk_by.new.steps f.kept (packed_data_same c.args.message.now c.subsets-subsets.result (octets_of c.payload-bits.result) (sym c.compressed.ensures ∙ c.if-compressed.true)
    c.subsets-subsets.ensures c.payload-bits.ensures.value)
    (whole_read c.subsets-subsets.result (counted_item c.cache.inside.table.now c.args.template.now) (bits_of (octets_of c.payload-bits.result)) c.new-fields.result c.new-fields.ensures
    (omega (arith, c.if-subsets-eq0.false)) c.walk_by.new.fields c.new.result c.walk_by.new.steps c.new.ensures
    (subst (λ (s : PackedCursor). s.at ≤ length s.bits) c.fields.view_is c.fields.invariant.within) (bits_of (octets_of f.bits)) f.at f.subsets f.kept c.fields.view_is
    (rw (← c.cache.view_is) at c.in-Ok.ensures.walked) c.fields.invariant.few c.fields.invariant.fit))

pub returns-in-Err-clause-reads : goal.returns-in-Err-clause-reads
returns-in-Err-clause-reads c =
    let f = c.fields.inside in
    let v = c.fields.view_is in
    subst (λ (d : Data). ReadsData (counted_item c.args.cache.now c.args.template.now) d (Err c.fault_at.result) c.walk_by.new.steps)
    (packed_data_same c.args.message.now c.subsets-subsets.result (octets_of c.payload-bits.result) (sym c.compressed.ensures ∙ c.if-compressed.true) c.subsets-subsets.ensures
    c.payload-bits.ensures.value)
    (rw (c.fault_at.ensures) (walk_stops c.subsets-subsets.result (counted_item c.args.cache.now c.args.template.now) (bits_of (octets_of c.payload-bits.result)) c.new-fields.result
    c.new-fields.ensures (omega (arith, c.if-subsets-eq0.false)) c.walk_by.new.fields c.new.result c.walk_by.new.steps c.new.ensures
    (subst (λ (s : PackedCursor). s.at ≤ length s.bits) v c.fields.invariant.within) c.in-Err.why c.in-Err.ensures.walked f.at (ap (λ (s : PackedCursor). s.at) v)))

pub returns-in-Err-clause-refused : goal.returns-in-Err-clause-refused
returns-in-Err-clause-refused c =
    let bits = (bits_of (octets_of c.payload-bits.result)) in
    let f = c.fields.inside in
    let v = c.fields.view_is in
    subst (λ (d : Data). c.walk_by.new.steps ≤ places c.args.template.now * (bits_before c.fault_at.result (length d.bits) + 1))
    (packed_data_same c.args.message.now c.subsets-subsets.result (octets_of c.payload-bits.result) (sym c.compressed.ensures ∙ c.if-compressed.true) c.subsets-subsets.ensures
    c.payload-bits.ensures.value)
    (rw (c.fault_at.ensures) (few_stopped (places c.args.template.now) c.new.result c.walk_by.new.steps c.walk_by.new.fields.at f.at (length bits) c.new-fields.result bits c.subsets-subsets.result
    c.in-Err.why c.new-fields.ensures c.new.ensures c.in-Err.ensures.refused (ap (λ (s : PackedCursor). s.at) v)
    (stopped_within c.subsets-subsets.result (counted_item c.args.cache.now c.args.template.now) bits c.new-fields.result c.new-fields.ensures (omega (arith, c.if-subsets-eq0.false))
    c.walk_by.new.fields c.new.result c.walk_by.new.steps c.new.ensures (subst (λ (s : PackedCursor). s.at ≤ length s.bits) v c.fields.invariant.within) c.in-Err.why c.in-Err.ensures.walked)))

pub invariant_of-result-2 : goal.invariant_of-result-2
invariant_of-result-2 c =
    plain_held c.cache.inside.table.now c.args.template.now c.subsets-subsets.result (octets_of c.payload-bits.result) c.in_ok-used.used c.read_plain.new.steps
    (subst (λ octets. length octets < 2 ^ 24) (sym c.payload-bits.ensures.value) c.payload-bits.ensures.short) (rw (← c.cache.view_is) at c.in_ok-used.ensures.reads)
    (rw (← c.cache.view_is) at c.in_ok-used.ensures.paid)

pub returns-clause-reads : goal.returns-clause-reads
returns-clause-reads c = rw (← c.cache.view_is) (
    plain_is c.cache.inside.table.now c.args.template.now c.args.message.now c.subsets-subsets.result (octets_of c.payload-bits.result) c.in_ok-used.used c.read_plain.new.steps
    (same_data c.args.message.now c.subsets-subsets.result (octets_of c.payload-bits.result) (sym c.compressed.ensures ∙ c.if-compressed.false) c.subsets-subsets.ensures c.payload-bits.ensures.value)
    (rw (← c.cache.view_is) at c.in_ok-used.ensures.reads))

pub returns-in_err-used-clause-reads : goal.returns-in_err-used-clause-reads
returns-in_err-used-clause-reads c =
    let e : c.from_residual.result ≡ Err c.in_err-used.field-0.0 = search rules in
    rw e (subst (λ (d : Data). ReadsData (counted_item c.args.cache.now c.args.template.now) d (Err c.in_err-used.field-0.0) c.read_plain.new.steps)
    (same_data c.args.message.now c.subsets-subsets.result (octets_of c.payload-bits.result) (sym c.compressed.ensures ∙ c.if-compressed.false) c.subsets-subsets.ensures
    c.payload-bits.ensures.value) c.in_err-used.ensures.reads)
