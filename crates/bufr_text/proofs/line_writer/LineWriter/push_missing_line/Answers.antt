use Rattle.std.proofs.Common.{append-nil, refl, rules, sym, ◌∙◌}
use borrow.Rule.Slice.PartMut.{same_len_mid, take_put}
use Rattle.bufr_text.proofs.PushLemmas.{holds_pushes, held_filled, ◌⨾◌}
use Rattle.bufr_text.proofs.line_writer.LineWriter.push_missing_line.Goals as goal

pub returns-in-Some : goal.returns-in-Some
returns-in-Some g c =
    rw (← c.self.view_is) (holds_pushes refl refl refl refl refl refl (same_len_mid c.self.inside.len _ c.self.inside.octets.now c.fill_missing_line.new.free (search rules)) refl
    (held_filled c.self.inside.octets.now c.fill_missing_line.new.free _ _ _ _ c.self.invariant c.in-Some.ensures.0 c.in-Some.ensures.1))

pub returns-in-None : goal.returns-in-None
returns-in-None g c =
    rw (← c.self.view_is) (holds_pushes refl refl refl refl refl refl (same_len_mid c.self.inside.len _ c.self.inside.octets.now c.fill_missing_line.new.free (search rules)) refl
    (take_put c.self.inside.len _ c.self.inside.octets.now c.fill_missing_line.new.free c.self.invariant ∙ sym (append-nil _)) ⨾ c.push_long_missing.ensures)
