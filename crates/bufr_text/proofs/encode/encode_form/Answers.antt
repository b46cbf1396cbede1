use Rattle.bufr_text.specs.Prelude.{encoding_in}
use Rattle.bufr_text.proofs.FormLemmas.{formed_of, form_so}
use Rattle.bufr_text.proofs.encode.encode_form.Goals as goal

pub returns-clause-again : goal.returns-clause-again
returns-clause-again c = λ records m s template values used at rows a same.
    let table = c.args.table_b.now in
    let sequences = c.args.table_d.now in
    let d = c.args.document.now in
    let octets = rw c.new-templates.ensures at c.encode_by.ensures.octets in
    let fault = rw c.new-templates.ensures at c.encode_by.ensures.fault in
    form_so c.args.form table s template values (encoding_in c.args.form table sequences d) c.encode_by.result octets fault
    (formed_of c.args.form records table sequences m s template values used at d rows a same)
