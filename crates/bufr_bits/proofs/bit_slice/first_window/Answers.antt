use Rattle.std.proofs.Common.{ℕ, ◌<◌, get_or, arith}
use Rattle.bufr_bits.proofs.BitLemmas.{window_is}
use Rattle.bufr_bits.proofs.bit_slice.first_window.Goals as goal

pub returns-in-Some : goal.returns-in-Some
returns-in-Some c =
    let chunk = c.in-Some.ensures.cases in
    let small : (i : ℕ) → get_or c.args.octets.now i 0 < 256 = λ i. let fits = c.type_inv.octets i in omega arith in
    window_is c.args.octets.now _ c.from_be_bytes.result chunk.enough chunk.same small c.from_be_bytes.type_inv c.from_be_bytes.ensures
