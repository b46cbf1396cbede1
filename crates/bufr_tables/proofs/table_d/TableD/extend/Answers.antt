use Rattle.std.proofs.Common.{◌≡◌, ◌+◌, ◌-◌, ◌∷◌, ◌<◌, [], ◌∙◌, arith, length, length-append, sym}
use Rattle.bufr_tables.specs.Prelude.{IsMemberRange}
use Rattle.bufr_tables.proofs.TableDLemmas.{IsSequence, all-at, all-set, keys-set, last-end, last-set, longer, runs-more, stored_sequences-extended, some-runs}
use Rattle.bufr_tables.proofs.table_d.TableD.extend.Goals as goal

pub invariant_of-self-2 : goal.invariant_of-self-2
invariant_of-self-2 c =
    let kept = c.self.invariant in
    let old = c.self.inside.members.items in
    let runs = c.self.inside.runs.items in
    let run = c.index_mut.result.now in
    let i = c.len-last.result - 1 in
    let items = c.in_ok-push.ensures.items in
    let some : 0 < length runs = some-runs c.self.inside.members.items runs (rw c.self.view_is c.requires) in
    let last : i + 1 ≡ length runs = omega arith in
    let size = length-append old (c.args.member ∷ []) in
    let end = last-end (length old) runs i run kept.last last c.index_mut.ensures.value in
    let here = all-at (IsMemberRange (length old)) runs i run kept.inside (omega arith) c.index_mut.ensures.value in
    record {
      inside = rw items (all-set _ runs i (longer run) (runs-more (length old) _ runs (omega arith) kept.inside) (omega arith, omega arith));
      sequences = all-set IsSequence runs i (longer run) kept.sequences (all-at IsSequence runs i run kept.sequences (omega arith) c.index_mut.ensures.value);
      members_or_none = kept.members_or_none ∙ sym (keys-set runs i run c.index_mut.ensures.value);
      last = rw items (last-set _ runs i (longer run) last (omega arith));
    }

pub returns : goal.returns
returns c =
    let kept = c.self.invariant in
    let runs = c.self.inside.runs.items in
    let some : 0 < length runs = some-runs c.self.inside.members.items runs (rw c.self.view_is c.requires) in
    let last : c.len-last.result - 1 + 1 ≡ length runs = omega arith in
    rw (c.in_ok-push.ensures.items, ← c.self.view_is)
    (record { ok = stored_sequences-extended c.self.inside.members.items c.args.member runs (c.len-last.result - 1) c.index_mut.result.now last c.index_mut.ensures.value kept.inside kept.last })
