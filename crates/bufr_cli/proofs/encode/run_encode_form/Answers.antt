use Rattle.bufr_cli.proofs.EncodeLemmas.{no-documents}
use Rattle.bufr_cli.proofs.encode.run_encode_form.Goals as goal

pub run_pieces-requires-clause-fresh : goal.run_pieces-requires-clause-fresh
run_pieces-requires-clause-fresh g c = no-documents _ _ c.new.result c.new.ensures
