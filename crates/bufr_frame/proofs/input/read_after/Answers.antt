use Rattle.bufr_frame.proofs.FinderLemmas.{after-read}
use Rattle.bufr_frame.proofs.input.read_after.Goals as goal

pub returns-in-Ok-clause-read : goal.returns-in-Ok-clause-read
returns-in-Ok-clause-read g c =
    after-read _ _ c.args.buffer.now.items c.deref_mut.result.now c.read.new.buf _ _ c.args.filled c.args.to c.args.buffer.now.len c.in-Ok.n
    c.deref_mut.ensures.value c.args.buffer.now.ok.0 c.read.auto.buf c.in-Ok.ensures.bound c.requires.order c.requires.within c.in-Ok.ensures.octets.0 c.in-Ok.ensures.octets.1
