use Rattle.std.proofs.Common.{sym}
use Rattle.bufr_cli.proofs.EncodeLemmas.{text-read, text-unread}
use Rattle.bufr_cli.proofs.encode.EncodeRunPieceWriter.read_more.Goals as goal

pub returns-in-Err-Run-clause-reads_on : goal.returns-in-Err-Run-clause-reads_on
returns-in-Err-Run-clause-reads_on g c = λ so left reached.
    let here = c.in-Err-Run in
    let needs = rw c.requires.accepted at c.requires in
    let wrote = rw c.requires.accepted at reached in
    let read = c.read_more.ensures.read c.requires.sound in
    let filled = rw (here.is, here.field-0-is) at read.1 in
    text-unread _ _ _ _ so wrote _ _ here.fault read.0 needs (rw (sym left) at filled)

pub returns-in_default-2-clause-reads_on : goal.returns-in_default-2-clause-reads_on
returns-in_default-2-clause-reads_on g c = λ so left reached.
    let needs = rw c.requires.accepted at c.requires in
    let wrote = rw c.requires.accepted at reached in
    let read = c.read_more.ensures.read c.requires.sound in
    let filled = rw c.in_default.is at read.1 in
    rw c.requires.accepted (read.0, text-read _ _ _ _ so wrote _ _ read.0 needs (rw (sym left) at filled) c.read_more.ensures.counts.most)
