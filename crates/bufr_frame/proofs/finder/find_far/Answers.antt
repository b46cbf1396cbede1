use Rattle.std.proofs.Common.{ℕ, List, subst}
use Rattle.memchr.specs.Find.{FindsNeedle}
use Rattle.bufr_frame.proofs.finder.find_far.Goals as goal

pub returns : goal.returns
returns c =
    let F : List ℕ → Type 0 = λ w. FindsNeedle c.args.rest.now w 0 c.find.result in
    subst F c.requires c.find.ensures
