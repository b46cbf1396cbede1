use Rattle.std.proofs.Common.{◌/◌, sym, arith, ◌∙◌}
use Rattle.bufr_fill.specs.declared.field_value.FieldContent.TheVariants as field_content
use Rattle.bufr_fill.specs.Prelude.{cells_at, subsets_of}
use Rattle.bufr_fill.proofs.EntryLemmas.{count_cells}
use Rattle.bufr_fill.proofs.RowLemmas.{is_content_at, unlike_here, unlike_more}
use Rattle.bufr_fill.proofs.packed_out.unlike_line.Goals as goal

pub is_same-requires-clause-other : goal.is_same-requires-clause-other
is_same-requires-clause-other c = is_content_at c.args.spec.now c.args.contents.now c.loop-subset.subset (field_content.Number 0) (omega (arith, c.loop-subset-test.true, c.requires.many))
    c.requires.all

pub returns-then-not-is_same : goal.returns-then-not-is_same
returns-then-not-is_same c =
    unlike_here (c.args.spec.now.width / 8) c.args.contents.now (cells_at c.args.row.index (subsets_of c.args.row.entries.now)) c.loop-subset.subset (field_content.Number 0)
    (omega (arith, c.loop-subset-test.true, c.requires.many))
    (count_cells c.args.row.index c.args.row.entries.now c.args.row.ends.now c.args.row.ends_are ∙ sym c.requires.many) c.loop-subset.invariant (sym c.is_same.ensures ∙ c.if-not-is_same.true)
    c.line_of.result c.line_of.ensures

pub loop-subset-preserved : goal.loop-subset-preserved
loop-subset-preserved c =
    unlike_more (c.args.spec.now.width / 8) c.args.contents.now (cells_at c.args.row.index (subsets_of c.args.row.entries.now)) c.loop-subset.subset (field_content.Number 0)
    (omega (arith, c.loop-subset-test.true, c.requires.many))
    (count_cells c.args.row.index c.args.row.entries.now c.args.row.ends.now c.args.row.ends_are ∙ sym c.requires.many) c.loop-subset.invariant (sym c.is_same.ensures ∙ c.if-not-is_same.false)
