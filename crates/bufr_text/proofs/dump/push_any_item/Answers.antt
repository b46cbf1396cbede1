use Rattle.std.proofs.Common.{◌∙◌, ℕ, List, [], ◌∷◌, ◌++◌, Some, ap, append_assoc, sym}
use Rattle.bufr_tables.specs.Prelude.{row_of_entry}
use Rattle.bufr_walk.specs.Prelude.{seen_value}
use Rattle.bufr_text.proofs.PushLemmas.{◌⨾◌, comment_line, retold}
use Rattle.bufr_text.specs.Prelude.{comment_text, dump_value_of, form_text}
use Rattle.bufr_text.proofs.dump.push_any_item.Goals as goal

pub returns-in-Some : goal.returns-in-Some
returns-in-Some g c =
    let form = form_text c.args.fxy (dump_value_of (seen_value c.args.value)) in
    let row = row_of_entry c.in-Some.entry in
    let comment = comment_text (Some row) in
    rw c.in-Some.is
    (retold (c.push_any_form.ensures ⨾ rw c.comment.ensures at c.push.ensures) (ap (λ (xs : List ℕ). form ++ xs) (sym (comment_line row)) ∙ sym (append_assoc form comment (10 ∷ []))))

pub returns-in-None : goal.returns-in-None
returns-in-None g c =
    let form = form_text c.args.fxy (dump_value_of (seen_value c.args.value)) in
    rw c.in-None.is (retold (c.push_any_form.ensures ⨾ c.push-in-None.ensures) (sym (append_assoc form [] (10 ∷ []))))
