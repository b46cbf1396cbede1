use Rattle.std.proofs.Common.{refl, arith}
use Rattle.std.proofs.lemmas.Fmt.{decimal_digit}
use Rattle.bufr_c.proofs.command.stray_line.Goals as goal

pub returns-in-Cut : goal.returns-in-Cut
returns-in-Cut c = rw (c.in-Cut.is, decimal_digit 0 (omega arith), decimal_digit 1 (omega arith)) refl

pub returns-in-ShortLength : goal.returns-in-ShortLength
returns-in-ShortLength c = rw (c.in-ShortLength.is, decimal_digit 0 (omega arith), decimal_digit 2 (omega arith)) refl

pub returns-in-NoEnd : goal.returns-in-NoEnd
returns-in-NoEnd c = rw (c.in-NoEnd.is, decimal_digit 0 (omega arith), decimal_digit 3 (omega arith)) refl
