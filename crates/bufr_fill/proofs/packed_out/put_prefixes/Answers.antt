use Rattle.bufr_fill.specs.declared.field_value.FieldContent.TheVariants as field_content
use Rattle.bufr_fill.proofs.RowLemmas.{is_content_at}
use Rattle.bufr_fill.proofs.packed_out.put_prefixes.Goals as goal

pub put_prefix-requires-clause-content : goal.put_prefix-requires-clause-content
put_prefix-requires-clause-content c = is_content_at c.args.spec.now c.args.contents.now c.loop-content.content-index (field_content.Number 0) c.loop-content-test.true c.requires.contents
