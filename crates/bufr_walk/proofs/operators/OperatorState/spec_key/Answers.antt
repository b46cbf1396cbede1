use Rattle.std.proofs.Common.{rules, ap, arith, sym, ◌∙◌, Some, None, w64}
use Rattle.std.proofs.Math.Facts.{to_z-of_z}
use Rattle.bufr_walk.specs.Prelude.{operator_model, known_of, redefined, descriptor_of, OnNothing, OnWidth, OnReference}
use Rattle.bufr_walk.proofs.CacheLemmas.{with_dependence, width_dependence, other_dependence}
use Rattle.bufr_walk.proofs.operators.OperatorState.spec_key.Goals as goal

pub returns-then-width-gt0-clause-is : goal.returns-then-width-gt0-clause-is
returns-then-width-gt0-clause-is c =
    let known = known_of c.self.inside.new_references in
    let s = operator_model c.self.inside.operands known in
    rw (← c.self.view_is) (with_dependence s c.args.field.now (OnWidth s.new_reference_width) _ (c.operand_key.ensures.octets known) c.key_word.ensures.word
    (width_dependence s (descriptor_of c.args.field.now) c.if-width-gt0.true) (omega (arith, c.operand_key.ensures.value known, c.key_word.ensures.value))
    (to_z-of_z {w = w64} {z = c.from.result} (record { sfits = c.from.type_inv }) ∙ c.from.ensures))

pub returns-in-Some-clause-is : goal.returns-in-Some-clause-is
returns-in-Some-clause-is c =
    let known = known_of c.self.inside.new_references in
    let s = operator_model c.self.inside.operands known in
    rw (← c.self.view_is) (with_dependence s c.args.field.now (OnReference c.in-Some.reference) _ (c.operand_key.ensures.octets known) c.key_word.ensures.word
    (other_dependence s (descriptor_of c.args.field.now) (Some c.in-Some.reference) c.if-width-gt0.false (sym c.in-Some.is ∙ c.get.ensures ∙ ap (redefined known) (c.word.ensures ∙ c.fxy.ensures)))
    (omega (arith, c.operand_key.ensures.value known, c.key_word.ensures.value))
    (search rules))

pub returns-in-None-clause-is : goal.returns-in-None-clause-is
returns-in-None-clause-is c =
    let known = known_of c.self.inside.new_references in
    let s = operator_model c.self.inside.operands known in
    rw (← c.self.view_is) (with_dependence s c.args.field.now OnNothing _ (c.operand_key.ensures.octets known) c.key_word.ensures.word
    (other_dependence s (descriptor_of c.args.field.now) None c.if-width-gt0.false (sym c.in-None.is ∙ c.get.ensures ∙ ap (redefined known) (c.word.ensures ∙ c.fxy.ensures)))
    (omega (arith, c.operand_key.ensures.value known, c.key_word.ensures.value)) tt)
