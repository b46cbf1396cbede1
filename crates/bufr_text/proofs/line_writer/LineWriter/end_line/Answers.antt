use Rattle.std.proofs.Common.{◌≤◌, arith, length, length-take-le, subst, take}
use Rattle.bufr_text.specs.Prelude.{LineModel}
use Rattle.bufr_text.proofs.PushLemmas.{page_pushes}
use Rattle.bufr_text.proofs.line_writer.LineWriter.end_line.Goals as goal

pub returns-then-self-ge-PAGE-clause-pushes : goal.returns-then-self-ge-PAGE-clause-pushes
returns-then-self-ge-PAGE-clause-pushes g c =
    let block = c.self.inside.octets.now in
    let page : 65536 ≤ length (take c.self.inside.len block) = omega (arith, length-take-le c.self.inside.len block c.self.invariant, c.if-self-ge-PAGE.true) in
    page_pushes c.flush_buf.ensures.pushes c.flush_buf.ensures.none c.flush_buf.ensures.whole (subst (λ (s : LineModel). 65536 ≤ length s.held) c.self.view_is page)
