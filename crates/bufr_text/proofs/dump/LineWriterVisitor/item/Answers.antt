use Rattle.std.proofs.Common.{◌++◌, ◌∷◌, [], ap, append-nil, option_map, rules}
use Rattle.bufr_tables.specs.Prelude.{row_of_entry}
use Rattle.bufr_text.specs.Prelude.{Pushes, item_text}
use Rattle.bufr_walk.specs.Prelude.{seen}
use Rattle.bufr_text.proofs.PushLemmas.{◌⨾◌, missing_line, number_line, retold}
use Rattle.bufr_text.proofs.dump.LineWriterVisitor.item.Goals.{in-Number+in-Some+then-eq+in-Ok, in_default+in-Missing+in-Some-entry+then-eq-2, in_default+in_default-2}
use Rattle.bufr_text.proofs.dump.LineWriterVisitor.item.Goals as goal

pub returns : goal.returns
returns g c =
    let pushed : Pushes c.args.self.now (item_text (seen c.args.item.now) ++ 10 ∷ []) _ = elim c.match-value.branch [
      | in-Number+in-Some+then-eq+in-Ok w ↦ rw w.self-is (retold w.push_number_line.ensures
          (number_line (seen c.args.item.now) (row_of_entry w.in-Some.entry) _ _ (search rules) (ap (option_map row_of_entry) w.in-Some.is) (search rules)))
      | in_default+in-Missing+in-Some-entry+then-eq-2 w ↦ rw w.self-is (retold w.push_missing_line.ensures
          (missing_line (seen c.args.item.now) (row_of_entry w.in-Some-entry.entry) (search rules) (ap (option_map row_of_entry) w.in-Some-entry.is) (search rules)))
      | in_default+in_default-2 w ↦ rw w.self-is w.push_any_item.ensures
    ] in
    record { pushes = rw append-nil at (pushed ⨾ c.end_line.ensures.pushes); status = c.status.ensures }
