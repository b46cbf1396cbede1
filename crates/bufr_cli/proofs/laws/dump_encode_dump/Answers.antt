use Rattle.bufr_text.specs.declared.encode.Form.TheVariants.{AsWritten}
use Rattle.std.proofs.Common.{rules, ◌<◌, ℕ, arith, slice_index}
use Rattle.bufr_bits.specs.Prelude.{taken_of}
use Rattle.bufr_cli.specs.Prelude.{RunsInMemory, form_pieces}
use Rattle.bufr_cli.proofs.RoundTripLemmas.{octets-all, whole-round}
use Rattle.bufr_cli.proofs.laws.dump_encode_dump.Goals as goal

pub returns-clause-encode : goal.returns-clause-encode
returns-clause-encode c =
    let written = c.run_encode.ensures.whole in
    search rules

pub returns-clause-round : goal.returns-clause-round
returns-clause-round c = λ records rows.
    let small : (i : ℕ) → slice_index c.args.stream.now i < 256 = λ i. let fits = c.type_inv.stream i in omega arith in
    let text = c.in_ok-text.ensures in
    let written = c.run_encode.ensures.whole in
    let messages : RunsInMemory (record { output = c.run_encode.new.w; errors = c.run_encode.new.e; tally = c.in_ok-tally.tally })
    (form_pieces AsWritten c.args.table_b.now c.args.table_d.now (taken_of c.in_ok-text.text.output)) = search rules in
    let again = rw c.taken-2.ensures at c.in_ok-again.ensures in
    whole-round c.args.table_b.now c.args.table_d.now records c.args.stream.now _ _ _ rows (octets-all c.args.stream.now small)
    text.output text.tallies messages.output messages.errors messages.tallies again.output again.errors again.tallies
