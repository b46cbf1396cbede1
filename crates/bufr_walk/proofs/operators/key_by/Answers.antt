use Rattle.std.proofs.Common.{arith}
use Rattle.bufr_walk.specs.Prelude.{known_of}
use Rattle.bufr_walk.proofs.operators.key_by.Goals as goal

pub returns : goal.returns
returns c =
    let known = known_of c.args.new_references.now in
    record {
      most = omega (arith, c.operand_key.ensures.few);
      is = λ few. record {
        is = c.operand_key.ensures.value known;
        new_reference_width = omega (arith, c.if-operands-gt0.false);
        new_references = c.is_empty.ensures c.if-not-is_empty.false;
        octets = c.operand_key.ensures.octets known;
      };
    }
