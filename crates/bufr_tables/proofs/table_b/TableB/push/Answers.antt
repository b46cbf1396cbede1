use Rattle.std.proofs.Common.{◌<◌, ap, refl}
use Rattle.std.proofs.lemmas.List.{map-append}
use Rattle.bufr_tables.proofs.TableBLemmas.{element-key, kept-grown, all-push, place-lacking, stored_rows-push, limits-grown, rows-push}
use Rattle.bufr_tables.specs.Prelude.{row_parsed, stored_rows, Row}
use Rattle.bufr_tables.proofs.table_b.TableB.push.Goals as goal

pub add-requires-clause-absent : goal.add-requires-clause-absent
add-requires-clause-absent c =
    let old = c.self.inside in
    rw (c.key.ensures.value, element-key c.args.row.now.fxy c.requires.element, c.self.invariant.members_or_none)
    (place-lacking old.octets.items old.stored.items c.args.row.now.fxy (rw c.self.view_is c.requires.absent))

pub invariant_of-self : goal.invariant_of-self
invariant_of-self c =
    let old = c.self.inside in
    let kept = c.self.invariant in
    let grows = c.in_err-stored.ensures.grows in
    record {
      kept = kept-grown _ _ old.stored.items kept.kept grows;
      elements = kept.elements;
      members_or_none = kept.members_or_none;
      limits = limits-grown _ _ old.stored.items kept.kept grows kept.limits;
    }

pub invariant_of-self-in_err-push : goal.invariant_of-self-in_err-push
invariant_of-self-in_err-push c =
    let old = c.self.inside in
    let kept = c.self.invariant in
    let grows = c.in_ok-stored.ensures.grows in
    let items = c.in_err-push.ensures.items in
    record {
      kept = rw items (kept-grown _ _ old.stored.items kept.kept grows);
      elements = rw items kept.elements;
      members_or_none = rw items kept.members_or_none;
      limits = rw items (limits-grown _ _ old.stored.items kept.kept grows kept.limits);
    }

pub invariant_of-self-2 : goal.invariant_of-self-2
invariant_of-self-2 c =
    let old = c.self.inside in
    let kept = c.self.invariant in
    let made = c.in_ok-stored.ensures in
    let items = c.in_ok-push.ensures.items in
    record {
      kept = rw items (all-push _ old.stored.items c.in_ok-stored.stored (kept-grown _ _ old.stored.items kept.kept made.grows) made.ok.kept);
      elements = rw items (all-push (λ s. s.fxy < 16384) old.stored.items c.in_ok-stored.stored kept.elements (rw (ap (λ (row : Row). row.fxy) made.ok.same) c.requires.element));
      limits = rw (items, stored_rows-push old.octets.items _ old.stored.items c.in_ok-stored.stored c.args.row.now kept.kept made.grows made.ok)
          (rows-push (stored_rows old.octets.items old.stored.items) (row_parsed c.args.row.now) kept.limits c.requires.limits);
      members_or_none = rw (items, c.add.ensures, c.key.ensures.value, element-key c.args.row.now.fxy c.requires.element, kept.members_or_none)
          (rw (map-append, (ap (λ (row : Row). row.fxy) made.ok.same)) refl);
    }

pub returns : goal.returns
returns c =
    let old = c.self.inside in
    let made = c.in_ok-stored.ensures in
    rw (c.in_ok-push.ensures.items, ← c.self.view_is) (record {
      ok = stored_rows-push old.octets.items _ old.stored.items c.in_ok-stored.stored c.args.row.now c.self.invariant.kept made.grows made.ok;
    })
