use Rattle.std.proofs.Common.{◌<◌, ◌++◌, arith, length, length-append, length-take-le, subst, take}
use Rattle.bufr_text.specs.Prelude.{LineModel}
use Rattle.bufr_text.proofs.PushLemmas.{through_pushes}
use Rattle.bufr_text.proofs.line_writer.LineWriter.push.Goals as goal

pub returns-else-octets-self : goal.returns-else-octets-self
returns-else-octets-self g c =
    let block = c.self.inside.octets.now in
    let held = take c.self.inside.len block in
    let past : length block < length (held ++ c.args.octets.now) =
    omega (arith, length-append held c.args.octets.now, length-take-le c.self.inside.len block c.self.invariant, c.if-octets-self.false) in
    through_pushes c.push_through.ensures.pushes c.push_through.ensures.none c.push_through.ensures.whole (subst (λ (s : LineModel). s.size < length (s.held ++ c.args.octets.now)) c.self.view_is past)
