use Rattle.std.proofs.lemmas.Grind.{common_steps}
use Rattle.std.proofs.Common.{◌≡◌, ◌∙◌, arith}
use Rattle.bufr_bits.specs.Prelude.{bits_of, octets_of}
use Rattle.bufr_tables.specs.Prelude.{row_of_entry}
use Rattle.bufr_walk.proofs.PackedShowing.{entry_fxy, fit_here}
use Rattle.bufr_walk.proofs.PlainLemmas.{small_power}
use Rattle.bufr_walk.proofs.compressed.show_item.Goals as goal

pub number_of-requires-clause-fits : goal.number_of-requires-clause-fits
number_of-requires-clause-fits g c =
    fit_here (bits_of (octets_of c.args.pack.now.bits)) c.args.pack.now.subsets c.args.kept.now c.args.index c.item-item.result c.requires.index c.item-item.ensures c.requires.fit

pub plain_number-requires-clause-below : goal.plain_number-requires-clause-below
plain_number-requires-clause-below g c =
    small_power c.item-item.result.spec.width c.in-Some-number_of.raw (c.is_plain.ensures c.if-is_plain.true).width c.in-Some-number_of.ensures.below

pub returns : goal.returns
returns g c item is =
    let same : c.fxy.result ≡ c.fxy-fxy.result = c.fxy.ensures ∙ entry_fxy c.args.pack.now.table.now c.fxy-fxy.result (row_of_entry c.in-Some.entry) c.in-Some.ensures.value in
    let told = rw same at c.item.ensures in
    grind (arith, common_steps)
