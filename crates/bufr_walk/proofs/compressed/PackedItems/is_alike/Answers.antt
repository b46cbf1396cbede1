use Rattle.std.proofs.Common.{subst}
use Rattle.std.proofs.lemmas.Bool.{eqb-true}
use Rattle.bufr_bits.specs.Prelude.{bits_of, octets_of}
use Rattle.bufr_walk.specs.Prelude.{IsSameInAll}
use Rattle.bufr_walk.proofs.PackedShowing.{alike_entry, entry_there}
use Rattle.bufr_walk.proofs.compressed.PackedItems.is_alike.Goals as goal

pub item-requires : goal.item-requires
item-requires c = entry_there _ _ _ c.self.inside.kept.now c.args.self.now c.args.index c.self.view_is c.requires

pub returns : goal.returns
returns c none = subst (λ p. IsSameInAll p c.args.index) c.self.view_is
    (λ j below. alike_entry (bits_of (octets_of c.self.inside.data.bits)) c.self.inside.data.subsets c.self.inside.kept.now c.args.index j c.item.result c.self.invariant
    (entry_there _ _ _ c.self.inside.kept.now c.args.self.now c.args.index c.self.view_is c.requires) c.item.ensures (eqb-true _ _ none) below)
