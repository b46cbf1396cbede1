use Rattle.std.proofs.Common.{◌+◌, arith, refl}
use Rattle.bufr_tables.specs.declared.rows.RecordReader.{RecordReader}
use Rattle.bufr_tables.proofs.RecordLemmas.{gives-end, gives-found, number-fits}
use Rattle.bufr_tables.proofs.rows.RecordReader.advance.Goals as goal
use Rattle.bufr_tables.proofs.rows.RecordReader.advance.Goals.{in-Ok-true, in-Ok-false, in-Err}

pub overflow_add-self : goal.overflow_add-self
overflow_add-self c =
    let read = rw c.in-Ok-true.field-0-test at (c.in-Ok-true.ensures.reads c.requires.trim c.requires.ready) in
    let new : RecordReader = record { reader = c.read_byte_record.new.self; row = c.read_byte_record.new.row; number = 0 } in
    omega (arith, number-fits c.args.self.now new c.requires read)

pub returns-clause-next : goal.returns-clause-next
returns-clause-next c = elim c.match-read_byte_record.branch [
  | in-Ok-true w ↦
      let read = rw w.in-Ok-true.field-0-test at (w.in-Ok-true.ensures.reads c.requires.trim c.requires.ready) in
      let new : RecordReader = record { reader = c.read_byte_record.new.self; row = c.read_byte_record.new.row; number = c.args.self.now.number + 1 } in
      rw (w.self-is, w.result-is) (gives-found c.args.self.now new c.requires read (w.in-Ok-true.ensures.ready c.requires.trim) w.in-Ok-true.ensures.flexible refl)
  | in-Ok-false w ↦
      let read = rw w.in-Ok-false.field-0-test at (w.in-Ok-false.ensures.reads c.requires.trim c.requires.ready) in
      rw (w.self-is, w.result-is) (gives-end c.args.self.now _ _ c.requires read)
  | in-Err w ↦ rw w.result-is tt
]
