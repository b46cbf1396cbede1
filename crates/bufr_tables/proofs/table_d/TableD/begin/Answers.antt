use Rattle.std.proofs.Common.{◌≡◌, ◌∷◌, [], arith, length, length-append, refl}
use Rattle.std.proofs.lemmas.List.{map-append}
use Rattle.bufr_tables.proofs.TableDLemmas.{IsSequence, all-push, last-push, place-lacking, runs-more, stored_sequences-begun}
use Rattle.bufr_tables.proofs.table_d.TableD.begin.Goals as goal

pub add-requires-clause-absent : goal.add-requires-clause-absent
add-requires-clause-absent c =
    let old = c.self.inside in
    rw (c.key.ensures.value, c.self.invariant.members_or_none) (place-lacking old.members.items old.runs.items c.args.sequence c.self.invariant.sequences c.requires.low c.requires.high
    (rw c.self.view_is c.requires.absent))

pub invariant_of-self-2 : goal.invariant_of-self-2
invariant_of-self-2 c =
    let kept = c.self.invariant in
    let old = c.self.inside.members.items in
    let runs = c.self.inside.runs.items in
    let items = c.in_ok-push.ensures.items in
    let pushed = rw (c.unwrap.ensures, c.in_ok-reserve.ensures.items) at c.push-2.ensures.items in
    let size = length-append old (c.args.member ∷ []) in
    let start : c.len-start.result ≡ length old = omega arith in
    record {
      inside = rw (items, pushed) (all-push _ runs _ (runs-more (length old) _ runs (omega arith) kept.inside) (omega arith, omega arith));
      sequences = rw pushed (all-push IsSequence runs _ kept.sequences (c.requires.low, c.requires.high));
      members_or_none = rw (c.add.ensures, c.key.ensures.value, kept.members_or_none, pushed) (rw map-append refl);
      last = rw (items, pushed) (last-push _ runs _ (omega arith));
    }

pub returns : goal.returns
returns c =
    let old = c.self.inside.members.items in
    let runs = c.self.inside.runs.items in
    let pushed = rw (c.unwrap.ensures, c.in_ok-reserve.ensures.items) at c.push-2.ensures.items in
    let start : c.len-start.result ≡ length old = omega arith in
    rw (c.in_ok-push.ensures.items, pushed, ← c.self.view_is)
    (record { ok = stored_sequences-begun old c.args.member runs _ c.args.sequence c.self.invariant.inside (rw start refl) })
