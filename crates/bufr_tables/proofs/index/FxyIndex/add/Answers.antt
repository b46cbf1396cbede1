use Rattle.std.proofs.Common.{true, vec_len, ◌≡◌, ◌<◌, length, arith, None, vec_capacity}
use Rattle.std.proofs.lemmas.List.{length-set}
use Rattle.std.specs.Result.{is_ok}
use Rattle.bufr_tables.specs.Prelude.{place_of}
use Rattle.bufr_tables.proofs.TableBLemmas.{below-added, count-added, distinct-added, marks-added}
use Rattle.bufr_tables.proofs.index.FxyIndex.add.Goals as goal

pub overflow_cast-mark : goal.overflow_cast-mark
overflow_cast-mark c =
    let dir = c.self.invariant in
    let keys = c.self.inside.keys.items in
    let small : length keys < 16384 = count-added keys c.args.key 16384 dir.below dir.distinct c.requires.small (rw c.self.view_is c.requires.absent) in
    omega arith

pub overflow_add-mark : goal.overflow_add-mark
overflow_add-mark c =
    let dir = c.self.invariant in
    let keys = c.self.inside.keys.items in
    let small : length keys < 16384 = count-added keys c.args.key 16384 dir.below dir.distinct c.requires.small (rw c.self.view_is c.requires.absent) in
    omega arith

pub unwrap-requires : goal.unwrap-requires
unwrap-requires c =
    let dir = c.self.invariant in
    let keys = c.self.inside.keys.items in
    let small : length keys < 16384 = count-added keys c.args.key 16384 dir.below dir.distinct c.requires.small (rw c.self.view_is c.requires.absent) in
    c.push.ensures.succeeds (omega (arith, dir.room))

pub invariant_of-self : goal.invariant_of-self
invariant_of-self c =
    let dir = c.self.invariant in
    let keys = c.self.inside.keys.items in
    let absent : place_of keys c.args.key ≡ None = rw c.self.view_is c.requires.absent in
    let room : vec_len c.self.inside.keys < vec_capacity c.self.inside.keys = omega (arith, dir.room, count-added keys c.args.key 16384 dir.below dir.distinct c.requires.small absent) in
    let pushed : is_ok c.push.result ≡ true = c.push.ensures.succeeds room in
    let items = rw pushed at c.push.ensures.items in
    let count : c.len.result ≡ length keys = omega arith in
    record {
      room = omega (arith, dir.room, c.push.ensures.capacity);
      size = rw length-set dir.size;
      marks = rw (items, count) (marks-added keys c.args.key c.self.inside.marks.items 16384 dir.size c.requires.small absent dir.marks);
      below = rw items (below-added keys c.args.key 16384 dir.below c.requires.small);
      distinct = rw items (distinct-added keys c.args.key dir.distinct absent);
    }
