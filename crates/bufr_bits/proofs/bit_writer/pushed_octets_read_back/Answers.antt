use Rattle.std.proofs.Common.{arith}
use Rattle.bufr_bits.proofs.BitLemmas.{bits_between, octet_between}
use Rattle.bufr_bits.proofs.bit_writer.pushed_octets_read_back.Goals as goal

pub returns-clause-bits : goal.returns-clause-bits
returns-clause-bits c = λ before after among e. bits_between before after among c.args.octets.now e

pub returns-clause-octets : goal.returns-clause-octets
returns-clause-octets c = λ before after among e k h. octet_between before after among c.args.octets.now e k h (let fits = c.type_inv.octets k in omega arith)
