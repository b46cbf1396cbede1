use Rattle.std.proofs.Common.{◌≡◌, refl}
use Rattle.std.proofs.lemmas.Result.{err_from_is_err_and}
use Rattle.bufr_tables.specs.Prelude.{places}
use Rattle.bufr_text.proofs.RoundTripLemmas.{if_ok_so, if_err_so, whole, not_whole, refused_form, written_form}
use Rattle.bufr_text.proofs.encode.encode_by.Goals as goal

pub returns-in_err-payload-clause-fault : goal.returns-in_err-payload-clause-fault
returns-in_err-payload-clause-fault c =
    let by = c.args.templates.now in
    let written = rw (c.take_specs-cache.ensures.same, c.select.ensures.table_b, c.select.ensures.table_d) at c.in_err-payload.ensures.written in
    let p = err_from_is_err_and c.from_residual-in_err-payload.result c.from_residual-in_err-payload.ensures.1 in
    rw (p.1, p.2) (refused_form c.args.form by.table_b by.table_d c.args.document.now _ _ _ refl written)

pub returns-clause-octets : goal.returns-clause-octets
returns-clause-octets c =
    let by = c.args.templates.now in
    let d = c.args.document.now in
    let written = rw (c.take_specs-cache.ensures.same, c.select.ensures.table_b, c.select.ensures.table_d) at c.in_ok-payload.ensures.written in
    let h = written_form c.args.form by.table_b by.table_d d _ c.in_ok-payload.field-0 _ refl written in
    let same : c.deref-2.result.now ≡ c.in_ok-payload.field-0.items = c.deref-2.ensures.value in
    if_ok_so c.write_whole.result c.write_whole.ensures.octets (λ octets m. whole c.args.form by.table_b by.table_d d (places h.template) h.template c.deref-2.result.now octets.items
    c.write_data-payload.new.steps h.is (rw same h.written) c.write_whole.ensures.payload m)

pub returns-clause-fault : goal.returns-clause-fault
returns-clause-fault c =
    let by = c.args.templates.now in
    let d = c.args.document.now in
    let written = rw (c.take_specs-cache.ensures.same, c.select.ensures.table_b, c.select.ensures.table_d) at c.in_ok-payload.ensures.written in
    let h = written_form c.args.form by.table_b by.table_d d _ c.in_ok-payload.field-0 _ refl written in
    let same : c.deref-2.result.now ≡ c.in_ok-payload.field-0.items = c.deref-2.ensures.value in
    if_err_so c.write_whole.result c.write_whole.ensures.fault (λ why m. not_whole c.args.form by.table_b by.table_d d (places h.template) h.template c.deref-2.result.now
    c.write_data-payload.new.steps why h.is (rw same h.written) c.write_whole.ensures.payload m)
