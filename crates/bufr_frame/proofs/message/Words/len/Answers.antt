use Rattle.std.proofs.Common.{sym}
use Rattle.bufr_frame.proofs.LayoutLemmas.{length-words}
use Rattle.bufr_frame.proofs.message.Words.len.Goals as goal

pub returns : goal.returns
returns c = sym (length-words c.args.self.now.octets.now)
