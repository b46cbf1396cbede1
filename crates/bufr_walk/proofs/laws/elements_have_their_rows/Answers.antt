use Rattle.std.proofs.Common.{false}
use Rattle.bufr_walk.specs.Prelude.{finish, counts_of}
use Rattle.bufr_walk.specs.Rules.{begin}
use Rattle.bufr_walk.proofs.RowLemmas.{unroll-rows}
use Rattle.bufr_walk.proofs.laws.elements_have_their_rows.Goals as goal

pub returns : goal.returns
returns c = λ table template answers legal known. unroll-rows table template false (λ _. finish) legal known (λ counts s more. tt) (counts_of answers) begin answers (λ q. absurd cc)
