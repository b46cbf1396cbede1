use Rattle.std.proofs.Common.{◌≡◌, ℕ, replicate}
use Rattle.std.proofs.lemmas.List.{get_or-replicate, length-replicate}
use Rattle.bufr_tables.proofs.TableBLemmas.{distinct-none}
use Rattle.bufr_tables.proofs.index.FxyIndex.new.Goals as goal

pub invariant_of-result : goal.invariant_of-result
invariant_of-result c =
    let items : c.in_ok-marks.marks.items ≡ replicate 16384 0 = c.in_ok-marks.ensures.items_if_clones_equal (λ y same. same) in
    record {
      room = c.in_ok-with_capacity.ensures.capacity;
      size = rw items (length-replicate {A = ℕ} 16384 0);
      marks = λ key inside. rw (items, c.in_ok-with_capacity.ensures.items) (get_or-replicate 16384 key 0 0 inside);
      below = rw c.in_ok-with_capacity.ensures.items tt;
      distinct = rw c.in_ok-with_capacity.ensures.items distinct-none;
    }
