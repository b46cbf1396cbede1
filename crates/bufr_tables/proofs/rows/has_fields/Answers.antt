use Rattle.std.proofs.Common.{◌≡◌, ◌∙◌, arith, length, sym}
use Rattle.csv.specs.Records.{fields_of}
use Rattle.bufr_tables.proofs.RecordLemmas.{fields-more, fields-other, other-length}
use Rattle.bufr_tables.proofs.rows.has_fields.Goals as goal

pub returns-then-len-names : goal.returns-then-len-names
returns-then-len-names c = sym (other-length c.args.names.now (fields_of c.args.fields.now) (λ same. c.if-len-names.true (c.len.ensures ∙ same)))

pub returns-then-ne : goal.returns-then-ne
returns-then-ne c =
    let same : length (fields_of c.args.fields.now) ≡ length c.args.names.now = omega arith in
    fields-other c.args.names.now _ c.loop-place.place _ _ _ same c.loop-place-test.true c.field.ensures c.ne.ensures c.loop-place.invariant c.if-ne.true

pub loop-place-preserved : goal.loop-place-preserved
loop-place-preserved c =
    let same : length (fields_of c.args.fields.now) ≡ length c.args.names.now = omega arith in
    fields-more c.args.names.now _ c.loop-place.place _ _ _ same c.loop-place-test.true c.field.ensures c.ne.ensures c.loop-place.invariant c.if-ne.false
