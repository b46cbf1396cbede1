use Rattle.std.proofs.Common.{◌∙◌, sym, ap, codes, option_map}
use Rattle.clap.specs.Words.{found_of, rows_of}
use Rattle.clap.proofs.WalkLemmas.{first_value-rows}
use Rattle.bufr_cli.specs.Prelude.{AreNamed}
use Rattle.bufr_cli.specs.declared.job.TableNames.{TableNames}
use Rattle.bufr_cli.proofs.LineLemmas.{if-none, no-some}
use Rattle.bufr_cli.proofs.job.tables_of.Goals as goal

pub returns-clause-names : goal.returns-clause-names
returns-clause-names c = (
  ap (option_map (λ s. s.now)) (sym c.in_ok-table_b.was) ∙ c.get_str.ensures ∙ first_value-rows (found_of c.args.found.now) (codes "B"),
  ap (option_map (λ s. s.now)) (sym c.in_ok-table_d.was) ∙ c.get_str-2.ensures ∙ first_value-rows (found_of c.args.found.now) (codes "D"),
)

pub returns-in_err-table_b-clause-lacks : goal.returns-in_err-table_b-clause-lacks
returns-in_err-table_b-clause-lacks c = if-none c.from_residual.result ((tables : TableNames) → ¬ AreNamed (rows_of (found_of c.args.found.now)) tables) (λ tables named.
    no-some tables.table_b.now (named.0 ∙ sym (first_value-rows (found_of c.args.found.now) (codes "B")) ∙ sym c.get_str.ensures ∙ ap (option_map (λ s. s.now)) c.in_err-table_b.was))

pub returns-in_err-table_d-clause-lacks : goal.returns-in_err-table_d-clause-lacks
returns-in_err-table_d-clause-lacks c = if-none c.from_residual-in_err-table_d.result ((tables : TableNames) → ¬ AreNamed (rows_of (found_of c.args.found.now)) tables) (λ tables named.
    no-some tables.table_d.now (named.1 ∙ sym (first_value-rows (found_of c.args.found.now) (codes "D")) ∙ sym c.get_str-2.ensures ∙ ap (option_map (λ s. s.now)) c.in_err-table_d.was))
