use Rattle.std.proofs.Common.{arith}
use Rattle.std.proofs.lemmas.Fmt.{decimal_digit}
use Rattle.bufr_cli.proofs.fault_line.push_stray.Goals as goal

pub returns-in-Cut : goal.returns-in-Cut
returns-in-Cut g c = rw (c.in-Cut.is, decimal_digit 1 (omega arith)) c.push.ensures

pub returns-in-ShortLength : goal.returns-in-ShortLength
returns-in-ShortLength g c = rw (c.in-ShortLength.is, decimal_digit 2 (omega arith)) c.push-in-ShortLength.ensures

pub returns-in-NoEnd : goal.returns-in-NoEnd
returns-in-NoEnd g c = rw (c.in-NoEnd.is, decimal_digit 3 (omega arith)) c.push-in-NoEnd.ensures
