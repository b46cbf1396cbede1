use Rattle.std.proofs.Common.{◌≡◌, rules}
use Rattle.bufr_tables.proofs.TableBLemmas.{named, row-stored, row_pushed}
use Rattle.bufr_tables.specs.Prelude.{fxy_text}
use Rattle.bufr_tables.proofs.table_b.store.Goals as goal

pub returns-clause-ok : goal.returns-clause-ok
returns-clause-ok c =
    let old = c.args.octets.now.items in
    let row = c.args.row.now in
    let name : c.extend_from_slice-4.new.self.items ≡ named old (fxy_text row.fxy) row.name.now row.unit.now = search rules in
    let block : c.extend_from_slice-7.new.self.items ≡ row_pushed old (fxy_text row.fxy) row.name.now row.unit.now = search (rules, name) in
    row-stored old row _ _ block (search rules) (search (rules, name)) (search rules) (λ name unit. search (rules, name, unit))
