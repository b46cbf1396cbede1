use Rattle.bufr_cli.proofs.RoundTripLemmas.{canonical-kept, round-trips}
use Rattle.bufr_cli.proofs.laws.dumped_streams_are_built_again.Goals as goal

pub returns : goal.returns
returns c = λ records table_b table_d s rows octets.
    (round-trips table_b table_d records s rows octets, canonical-kept table_b table_d records s rows octets)
