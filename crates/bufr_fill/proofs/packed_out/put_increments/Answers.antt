use Rattle.std.proofs.Common.{◌++◌, ◌∙◌, ap, arith, length}
use Rattle.bufr_fill.specs.declared.field_value.FieldContent.TheVariants as field_content
use Rattle.bufr_walk.specs.Prelude.{numbers}
use Rattle.bufr_fill.specs.Prelude.{increment_for}
use Rattle.bufr_fill.proofs.RowLemmas.{flat_more, room_next}
use Rattle.bufr_fill.proofs.packed_out.put_increments.Goals as goal

pub loop-content-preserved : goal.loop-content-preserved
loop-content-preserved c = record {
  bits = λ width count m. flat_more (increment_for (numbers width m) c.args.base c.args.k) count c.args.out.now.bits c.loop-content.out.bits c.put.new.self.bits c.args.contents.now
      c.loop-content.content-index
      (field_content.Number 0) c.loop-content-test.true
      (c.loop-content.invariant.bits width count m)
      (c.put.ensures.bits ∙ ap (λ b. c.loop-content.out.bits ++ b) (c.increment_of.ensures.bits width count m));
  len = omega (arith, c.put.ensures.len, c.loop-content.invariant.len);
  room = room_next (length c.args.contents.now) c.loop-content.content-index c.args.k c.loop-content.out.room c.put.new.self.room c.loop-content.invariant.room c.put.ensures.room;
}
