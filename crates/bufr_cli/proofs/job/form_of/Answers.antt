use Rattle.std.proofs.Common.{◌≡◌, ◌∙◌, Some, sym, ap, subst, codes, IfNone, IfSome, option_map}
use Rattle.clap.specs.Words.{first_of, found_of, rows_of}
use Rattle.clap.proofs.WalkLemmas.{first_value-rows}
use Rattle.bufr_text.specs.declared.encode.Form.{Form}
use Rattle.bufr_cli.specs.Prelude.{word_of}
use Rattle.bufr_cli.proofs.job.form_of.Goals as goal

pub returns-in-None-clause-named : goal.returns-in-None-clause-named
returns-in-None-clause-named c = ap (option_map (λ s. s.now)) (sym c.in-None.is) ∙ c.get_str.ensures ∙ first_value-rows (found_of c.args.found.now) (codes "form")

pub returns-in-Some-clause-named : goal.returns-in-Some-clause-named
returns-in-Some-clause-named c =
    let at : Some c.in-Some.word.now ≡ first_of (codes "form") (rows_of (found_of c.args.found.now)) =
    ap (option_map (λ s. s.now)) (sym c.in-Some.is) ∙ c.get_str.ensures ∙ first_value-rows (found_of c.args.found.now) (codes "form") in
    subst (λ word. IfSome c.form_named.result (λ form. word_of form ≡ word)) at c.form_named.ensures.named

pub returns-in-Some-clause-lacks : goal.returns-in-Some-clause-lacks
returns-in-Some-clause-lacks c =
    let at : Some c.in-Some.word.now ≡ first_of (codes "form") (rows_of (found_of c.args.found.now)) =
    ap (option_map (λ s. s.now)) (sym c.in-Some.is) ∙ c.get_str.ensures ∙ first_value-rows (found_of c.args.found.now) (codes "form") in
    subst (λ word. IfNone c.form_named.result ((form : Form) → ¬ (word_of form ≡ word))) at c.form_named.ensures.lacks
