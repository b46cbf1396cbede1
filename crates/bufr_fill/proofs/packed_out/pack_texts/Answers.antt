use Rattle.std.proofs.Common.{◌≡◌, ◌*◌, ◌/◌, ◌+◌, ◌++◌, false, arith, length, replicate, rules}
use Rattle.std.specs.List.{flat_map}
use Rattle.bufr_bits.specs.Prelude.{bits_in}
use Rattle.bufr_walk.specs.Prelude.{texts}
use Rattle.bufr_fill.specs.Prelude.{padded_contents, increment_for, packed_bits}
use Rattle.bufr_fill.proofs.LeastLemmas.{parts_put, parts_length, most_room, texts_packed}
use Rattle.bufr_fill.proofs.RowLemmas.{few_bits, most_some, zero_bits}
use Rattle.bufr_fill.proofs.packed_out.pack_texts.Goals as goal

pub put_prefixes-requires-clause-few : goal.put_prefixes-requires-clause-few
put_prefixes-requires-clause-few c = omega (
  arith,
  c.requires.k,
  most_room c.args.spec.now c.args.contents.now (omega (arith, c.width-width.ensures.some, c.width-width.ensures.whole c.requires.text))
      c.requires.contents,
)

pub returns : goal.returns
returns c =
    let count = c.args.spec.now.width / 8 in
    let k = c.args.k in
    let zeros : c.put_octets.new.self.bits ≡ c.args.out.now.bits ++ replicate c.args.spec.now.width false = search (rules, zero_bits) in
    let len : length c.put_octets.new.self.bits ≡ length c.args.out.now.bits + c.args.spec.now.width = search (rules, zero_bits) in
    let put = parts_put c.args.out.now.bits c.put_octets.new.self.bits c.put.new.self.bits c.put_prefixes.new.out.bits (replicate c.args.spec.now.width false) (bits_in k 6)
    (flat_map (increment_for (texts count) 0 k) (padded_contents count c.args.contents.now))
    zeros c.put.ensures.bits c.put_prefixes.ensures.bits in
    let few = few_bits (length c.args.contents.now) (8 * k) 504 (omega (arith, c.requires.short)) in (
      packed_bits (replicate c.args.spec.now.width false) k (flat_map (increment_for (texts count) 0 k) (padded_contents count c.args.contents.now)),
      texts_packed c.args.spec.now c.args.contents.now k c.requires.text c.requires.element (most_some c.args.contents.now) c.requires.contents c.requires.k c.requires.short,
      put,
      parts_length c.args.out.now.bits c.put_prefixes.new.out.bits _ _ put (omega (arith, len, c.put.ensures.len, c.put_prefixes.ensures.len, c.width-width.ensures.most, few)),
      omega (arith, len, c.put.ensures.len, c.put_prefixes.ensures.len),
    )
