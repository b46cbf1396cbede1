use Rattle.std.proofs.Common.{append-nil, refl, rules, sym, ◌∙◌, to_z-of_z}
use borrow.Rule.Slice.PartMut.{same_len_mid, take_put}
use Rattle.bufr_text.proofs.PushLemmas.{holds_pushes, held_filled, ◌⨾◌}
use Rattle.bufr_text.proofs.line_writer.LineWriter.push_number_line.Goals as goal

pub returns-in-Some : goal.returns-in-Some
returns-in-Some g c =
    let text = rw (to_z-of_z c.ranges.number, to_z-of_z c.ranges.scale) at c.in-Some.ensures.1 in
    rw (← c.self.view_is) (holds_pushes refl refl refl refl refl refl (same_len_mid c.self.inside.len _ c.self.inside.octets.now c.fill_number_line.new.free (search rules)) refl
    (held_filled c.self.inside.octets.now c.fill_number_line.new.free _ _ _ _ c.self.invariant c.in-Some.ensures.0 text))

pub returns-in-None : goal.returns-in-None
returns-in-None g c =
    let long = rw (to_z-of_z c.ranges.number, to_z-of_z c.ranges.scale) at c.push_long_line.ensures in
    rw (← c.self.view_is) (holds_pushes refl refl refl refl refl refl (same_len_mid c.self.inside.len _ c.self.inside.octets.now c.fill_number_line.new.free (search rules)) refl
    (take_put c.self.inside.len _ c.self.inside.octets.now c.fill_number_line.new.free c.self.invariant ∙ sym (append-nil _)) ⨾ long)
