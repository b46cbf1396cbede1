use Rattle.std.proofs.Common.{rules, codes, List, Option, ◌∙◌, ◌≡◌, [], inr, map, string_bytes, true, Some, refl, subst}
use Rattle.clap.specs.Values.{kind_of}
use Rattle.bufr_cli.specs.declared.job.LineFault.TheVariants.{Help, Usage}
use Rattle.clap.proofs.WalkLemmas.{first_value-rows}
use Rattle.clap.specs.Words.{App, Row, Text, HasKind, fault_of, found_of, is_simple_and_free, rows_of, subcommand_of}
use Rattle.bufr_cli.specs.Prelude.{GivesNoJob, IsJobOf, bufr_app}
use Rattle.bufr_cli.proofs.LineLemmas.{ReportsKind, reported-why}
use Rattle.bufr_cli.proofs.job.parse_line.Goals as goal

pub returns-then-use_stderr-clause-fault : goal.returns-then-use_stderr-clause-fault
returns-then-use_stderr-clause-fault g c =
    let words = map g.S.AsStr.text c.args.words.now in
    let P : App → Type 0 = λ app. is_simple_and_free app ≡ true → HasKind (fault_of app words) c.in-Err.error in
    let told : ReportsKind (kind_of c.in-Err.error) (Usage c.in_ok-text-in-Err.text) = search rules in
    reported-why (fault_of bufr_app words) c.in-Err.error (subcommand_of bufr_app words) (Usage c.in_ok-text-in-Err.text) (subst P c.in_ok-command.ensures c.in-Err.ensures.kinds refl) told

pub returns-in-Err-clause-fault : goal.returns-in-Err-clause-fault
returns-in-Err-clause-fault g c =
    let words = map g.S.AsStr.text c.args.words.now in
    let P : App → Type 0 = λ app. is_simple_and_free app ≡ true → HasKind (fault_of app words) c.in-Err.error in
    let told : ReportsKind (kind_of c.in-Err.error) (Help c.in_ok-text-in-Err.text) = search rules in
    reported-why (fault_of bufr_app words) c.in-Err.error (subcommand_of bufr_app words) (Help c.in_ok-text-in-Err.text) (subst P c.in_ok-command.ensures c.in-Err.ensures.kinds refl) told

pub returns-in-Some-clause-fault : goal.returns-in-Some-clause-fault
returns-in-Some-clause-fault g c =
    let met : Some (c.in-Some.name.now, rows_of (found_of c.in-Some.found.now)) ≡ subcommand_of bufr_app (map g.S.AsStr.text c.args.words.now) = search rules in
    let G : Option (Text × List Row) → Type 0 = λ subcommand. GivesNoJob subcommand (string_bytes c.in_ok-from_str-in-Err-command_of.field-0) in
    inr (subst G met (c.in-Err-command_of.why, c.in-Err-command_of.ensures.lacks, search rules))

pub returns-in-Ok-command_of-clause-job : goal.returns-in-Ok-command_of-clause-job
returns-in-Ok-command_of-clause-job g c =
    let met : Some (c.in-Some.name.now, rows_of (found_of c.in-Some.found.now)) ≡ subcommand_of bufr_app (map g.S.AsStr.text c.args.words.now) = search rules in
    let J : Option (Text × List Row) → Type 0 = λ subcommand. IsJobOf subcommand (record { command = c.in-Ok-command_of.command; file = c.get_str.result }) in
    subst J met (c.in-Ok-command_of.ensures.name, c.in-Ok-command_of.ensures.tables, c.get_str.ensures ∙ first_value-rows (found_of c.in-Some.found.now) (codes "FILE"))

pub returns-in-Ok-command_of-clause-accepted : goal.returns-in-Ok-command_of-clause-accepted
returns-in-Ok-command_of-clause-accepted g c =
    let words = map g.S.AsStr.text c.args.words.now in
    let P : App → Type 0 = λ app. is_simple_and_free app ≡ true → fault_of app words ≡ [] in
    subst P c.in_ok-command.ensures c.in-Ok.ensures.kinds refl
