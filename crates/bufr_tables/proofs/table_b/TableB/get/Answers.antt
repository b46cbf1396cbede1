use Rattle.std.proofs.Common.{◌≡◌, ◌<◌, None, Some, arith, sym}
use Rattle.bufr_tables.specs.Prelude.{place_of, stored_rows}
use Rattle.bufr_tables.proofs.TableBLemmas.{element-key, entry-absent, entry-not_element, entry-row, fxys_of, found-limits}
use Rattle.bufr_tables.proofs.table_b.TableB.get.Goals as goal

pub returns-then-f-ne0-clause-value : goal.returns-then-f-ne0-clause-value
returns-then-f-ne0-clause-value c =
    let other = rw c.f.ensures.value at c.if-f-ne0.true in
    rw (← c.self.view_is) (sym (entry-not_element c.self.inside.octets.items c.self.inside.stored.items c.args.fxy c.self.invariant.elements other))

pub returns-in_err-place-clause-value : goal.returns-in_err-place-clause-value
returns-in_err-place-clause-value c =
    let stored = c.self.inside.stored.items in
    let small : c.args.fxy < 16384 = omega arith in
    let absent : place_of (fxys_of stored) c.args.fxy ≡ None = rw (← c.self.invariant.members_or_none) (sym (rw (c.key.ensures.value, element-key c.args.fxy small) at c.in_err-place.ensures.value)) in
    rw (← c.self.view_is, c.from_residual.ensures) (sym (entry-absent c.self.inside.octets.items stored c.args.fxy absent))

pub returns-clause-value : goal.returns-clause-value
returns-clause-value c =
    let stored = c.self.inside.stored.items in
    let small : c.args.fxy < 16384 = omega arith in
    let found : place_of (fxys_of stored) c.args.fxy ≡ Some c.in_ok-place.place =
    rw (← c.self.invariant.members_or_none) (sym (rw (c.key.ensures.value, element-key c.args.fxy small) at c.in_ok-place.ensures.value)) in
    rw (← c.self.view_is, c.as_slice-octets.ensures.value) (entry-row c.self.inside.octets.items stored c.args.fxy c.in_ok-place.place c.index-stored.result.now found c.index-stored.ensures)

pub returns-clause-limits : goal.returns-clause-limits
returns-clause-limits c =
    let stored = c.self.inside.stored.items in
    let small : c.args.fxy < 16384 = omega arith in
    let found : place_of (fxys_of stored) c.args.fxy ≡ Some c.in_ok-place.place =
    rw (← c.self.invariant.members_or_none) (sym (rw (c.key.ensures.value, element-key c.args.fxy small) at c.in_ok-place.ensures.value)) in
    found-limits (stored_rows c.self.inside.octets.items stored) c.args.fxy _ c.self.invariant.limits
    (sym (rw c.as_slice-octets.ensures.value (entry-row c.self.inside.octets.items stored c.args.fxy c.in_ok-place.place c.index-stored.result.now found c.index-stored.ensures)))
