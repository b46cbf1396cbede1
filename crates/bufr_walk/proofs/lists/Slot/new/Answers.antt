use Rattle.bufr_tables.specs.Prelude.{tables_of}
use Rattle.bufr_tables.proofs.SoundLemmas.{nothing-answered}
use Rattle.bufr_walk.proofs.lists.Slot.new.Goals as goal

pub returns-clause-slot : goal.returns-clause-slot
returns-clause-slot c d = record { answer = rw (c.new.ensures.items, c.from_word.ensures) (nothing-answered (tables_of c.args.table_b.now d)); reported = λ e. cc; specs = c.new-2.ensures }
