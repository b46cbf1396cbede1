use Rattle.bufr_tables.proofs.TableDLemmas.{fxy-at}
use Rattle.bufr_tables.proofs.table_d.TableD.sequence_at.Goals as goal

pub returns : goal.returns
returns c = rw (← c.self.view_is) (fxy-at c.self.inside.members.items c.self.inside.runs.items c.args.place _ (rw c.self.view_is c.requires) c.index.ensures)
