use Rattle.std.proofs.Common.{◌≡◌, ◌≤◌, ◌-◌, vec_len, vec_capacity, take}
use Rattle.bufr_frame.proofs.input.fill_up.Given as goal

-- The existing octets and the capacity are unchanged, and there are at most `len` octets.
abbrev pub invariant-places : goal.invariant-places
invariant-places l = record {
  before : take (vec_len l.fn.octets) l.grown.items ≡ l.fn.octets.items;
  least : vec_len l.fn.octets ≤ vec_len l.grown;
  long : vec_len l.grown ≤ l.len;
  room : vec_capacity l.grown ≡ vec_capacity l.fn.octets;
}

abbrev pub decreases-places : goal.decreases-places
decreases-places l = l.len - vec_len l.grown
