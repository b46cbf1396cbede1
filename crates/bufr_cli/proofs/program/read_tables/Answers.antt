use Rattle.std.proofs.Common.{◌≡◌, IfSome, Err, Ok, inl, inr, refl, rules}
use Rattle.bufr_tables.specs.Prelude.{ReadsTableD, records_of, table_b_of}
use Rattle.bufr_cli.specs.Prelude.{NoTableD}
use Rattle.bufr_cli.proofs.RunLemmas.{opens-then}
use Rattle.bufr_cli.proofs.program.read_tables.Goals as goal

pub returns-in-Err-read_file-clause-unread : goal.returns-in-Err-read_file-clause-unread
returns-in-Err-read_file-clause-unread g c =
    let b : IfSome (g.I.Inputs.file_octets c.args.inputs.now c.args.names.table_b.now) (λ text. table_b_of (records_of text) ≡ Ok c.in-Ok-read.table) = search rules in
    NoTableD (opens-then _ _ _ _ _ c.in-Ok.ensures.opens c.in-Err-read_file.ensures.opens) c.in-Ok-read.table b (inl (rw c.in-Ok.ensures.files at c.in-Err-read_file.ensures.unread))

pub returns-in-Err-read-2-clause-unread : goal.returns-in-Err-read-2-clause-unread
returns-in-Err-read-2-clause-unread g c =
    let named = g.I.Inputs.file_octets c.args.inputs.now in
    let b : IfSome (named c.args.names.table_b.now) (λ text. table_b_of (records_of text) ≡ Ok c.in-Ok-read.table) = search rules in
    let d : IfSome (named c.args.names.table_d.now) (λ text. ReadsTableD (records_of text) (Err c.in-Err-read-2.fault)) = search rules in
    NoTableD (opens-then _ _ _ _ _ c.in-Ok.ensures.opens c.in-Ok-read_file.ensures.opens) c.in-Ok-read.table b (inr (c.in-Err-read-2.fault, refl, d))

pub returns-clause-opens : goal.returns-clause-opens
returns-clause-opens g c = opens-then _ _ _ _ _ c.in-Ok.ensures.opens c.in-Ok-read_file.ensures.opens
