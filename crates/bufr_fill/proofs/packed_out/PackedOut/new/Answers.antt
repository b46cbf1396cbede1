use Rattle.std.proofs.Common.{Bool, List, rules, sym, ap, ◌∙◌}
use Rattle.bufr_fill.specs.Prelude.{Subset, subsets_of, PackedOutModel}
use Rattle.bufr_fill.proofs.EntryLemmas.{none_end, empty_is}
use Rattle.bufr_fill.proofs.packed_out.PackedOut.new.Goals as goal

abbrev at_start : List Subset → List Bool → PackedOutModel
at_start subsets bits = record { subsets = subsets; index = 0; bits = bits }

pub returns-then-is_empty : goal.returns-then-is_empty
returns-then-is_empty c =
    none_end c.args.entries.now (sym c.ends-ends.ensures ∙ empty_is c.ends-ends.result.now _ (search rules) (sym c.is_empty.ensures ∙ c.if-is_empty.true))

pub returns : goal.returns
returns c = ap (at_start (subsets_of c.args.entries.now)) c.new-3.ensures.bits
