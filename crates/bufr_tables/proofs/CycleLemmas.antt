-- Chains of members, and what the search for a cycle has established.
use Rattle.std.proofs.lemmas.Grind.{common_steps}
use Rattle.std.proofs.Common.{◌≡◌, ℕ, ◌+◌, ◌<◌, ◌≤◌, ◌⊎◌, inl, inr, Bool, true, false, List, [], ◌∷◌, ◌++◌, length, set, take, Option, Some, None, refl, ◌∙◌, arith, suc, zero, get_or, length-append, replicate, ◌==◌, cond, option_map, slice_index, IsSome, Contains}
use Rattle.std.proofs.lemmas.Bool.{eqb-true}
use Rattle.std.proofs.lemmas.List.{append_assoc, get_or_append_left, get_or-set_same, get_or_default, length-set, get_or-map, get_or-take, length-take}
use Rattle.std.proofs.lemmas.List.Elements.{Contains-append_cases, Contains-append_left, Contains-append_right, Contains-push, Contains-push_cases, Contains-get_or}
use Rattle.std.specs.List.{find, prefix_len}
use Rattle.std.specs.Prelude.{not, unwrap_or}
use Rattle.std.proofs.lemmas.List.Sums.{prefix_len_passes}
use borrow.Author.Count.{below_more}
use Rattle.bufr_tables.specs.Prelude.{Chain, IsFirstCycle, Leads, ReachesItself, one, more, Sequence, fxys_of, members_or_none, members_of, IsAbove, IsSet, IsVisited, Falls, rank_of, unset}

-- Every member of the sequence that is itself a sequence was seen.
abbrev pub AreSeen : List Sequence → List Bool → ℕ → Type 0
AreSeen table seen fxy = (to : ℕ) → Leads table fxy to → IsSet seen to

-- Everything in the queue is reached from `start` by a chain, and everything that was seen is in
-- the queue. The members of `start` and of the first `next` entries of the queue were seen.
pub record IsSearched (table : List Sequence) (start : ℕ) (seen : List Bool) (queue : List ℕ) (next : ℕ) : Type 0 where
  pub flags : length seen ≡ 65536
  pub inside : next ≤ length queue
  pub chains : (to : ℕ) → Contains queue to → Chain table start to
  pub queued : (to : ℕ) → IsSet seen to → Contains queue to
  pub first : AreSeen table seen start
  pub visited : (k : ℕ) → k < next → AreSeen table seen (slice_index queue k)

-- None of the first `count` sequences of the file reaches itself.
abbrev pub IsPassed : List Sequence → ℕ → Type 0
IsPassed table count = (k : ℕ) → k < count → k < length table → ReachesItself table (slice_index (fxys_of table) k) → ⊥

pub chain-append : {table : List Sequence} {a b c : ℕ} → Chain table a b → Chain table b c → Chain table a c
chain-append (one l) d = more l d
chain-append (more l rest) d = more l (chain-append rest d)

-- Setting a flag never clears another one.
pub set-keeps : (flags : List Bool) (x y : ℕ) → IsSet flags y → IsSet (set flags x true) y
set-keeps [] x y is = is
set-keeps (flag ∷ flags) zero zero is = refl
set-keeps (flag ∷ flags) zero (suc y) is = is
set-keeps (flag ∷ flags) (suc x) zero is = is
set-keeps (flag ∷ flags) (suc x) (suc y) is = set-keeps flags x y is

pub set-is : (flags : List Bool) (x : ℕ) → x < length flags → IsSet (set flags x true) x
set-is flags x inside = get_or-set_same flags x true false inside

pub set-cases : (flags : List Bool) (x y : ℕ) → IsSet (set flags x true) y → (y ≡ x) ⊎ IsSet flags y
set-cases flags x y is = grind (arith, common_steps)

pub unset-set : (flags : List Bool) (x : ℕ) → x < length flags → get_or flags x false ≡ false → unset (set flags x true) + 1 ≡ unset flags
unset-set [] x inside is = absurd (omega arith)
unset-set (flag ∷ flags) zero inside is = rw is (omega arith)
unset-set (flag ∷ flags) (suc x) inside is = omega (arith, unset-set flags x (omega arith) is)

-- A member that is a sequence has an index in the list of members.
pub record Listed (table : List Sequence) (from to : ℕ) : Type 0 where
  pub place : ℕ
  pub inside : place < length (members_or_none table from)
  pub at : slice_index (members_or_none table from) place ≡ to
  pub sequence : IsSome (members_of table to)

pub listed-leads : (table : List Sequence) (from to : ℕ) → Leads table from to → Listed table from to
listed-leads table from to l = grind (arith, common_steps, get_or_default)

pub leads-listed : (table : List Sequence) (from k : ℕ) → k < length (members_or_none table from) → IsSome (members_of table (slice_index (members_or_none table from) k))
    → Leads table from (slice_index (members_or_none table from) k)
leads-listed table from k inside sequence = (Contains-get_or (members_or_none table from) k 0 inside, sequence)

-- Ranks do not rise along a chain.
pub chain-falls : (table : List Sequence) (ranks : List ℕ) → Falls table ranks → {a b : ℕ} → Chain table a b → rank_of ranks b ≤ rank_of ranks a
chain-falls table ranks falls (one l) = omega (arith, falls _ _ l)
chain-falls table ranks falls (more l rest) = omega (arith, falls _ _ l, chain-falls table ranks falls rest)

-- A sequence whose rank is above the ranks of its members does not reach itself.
pub falls-none : (table : List Sequence) (ranks : List ℕ) (fxy : ℕ) → Falls table ranks → IsAbove table ranks fxy (rank_of ranks fxy) → ReachesItself table fxy → ⊥
falls-none table ranks fxy falls above (one l) = absurd (omega (arith, above _ l))
falls-none table ranks fxy falls above (more l rest) = absurd (omega (arith, chain-falls table ranks falls rest))

-- The ranks of the first `count` members of a sequence are below a limit. `FallsFirst` says this of
-- all members of the first sequences of the file.
abbrev pub IsAboveFirst : List Sequence → List ℕ → List ℕ → ℕ → ℕ → Type 0
IsAboveFirst table ranks members limit count = (k : ℕ) → k < count → k < length members → IsSome (members_of table (slice_index members k)) → rank_of ranks (slice_index members k) < limit

pub above-all : (table : List Sequence) (ranks : List ℕ) (fxy rank count : ℕ) (members : List ℕ) → members ≡ members_or_none table fxy → IsAboveFirst table ranks members rank count
    → length members ≤ count → IsAbove table ranks fxy rank
above-all table ranks fxy rank count members same above all to l =
    let listed = listed-leads table fxy to l in
    let inside : listed.place < length members = rw same listed.inside in
    let at : slice_index members listed.place ≡ to = rw same listed.at in
    rw at at (above listed.place (omega (arith, inside)) inside (rw at listed.sequence))

abbrev pub FallsFirst : List Sequence → List ℕ → ℕ → Type 0
FallsFirst table ranks count = (k : ℕ) → k < count → k < length table → IsAbove table ranks (slice_index (fxys_of table) k) (rank_of ranks (slice_index (fxys_of table) k) + 1)

-- the visit of one sequence
module _ (table : List Sequence) (fxy : ℕ) (old : List Bool) (queue : List ℕ) where
  module _ (i : ℕ) (new : List Bool) (longer : List ℕ) (was : IsVisited table fxy i old queue new longer) where
    -- The member at this index was seen, if it is a sequence.
    abbrev pub SeenAt : List Bool → ℕ → Type 0
    SeenAt flags k = k < length (members_or_none table fxy) → IsSome (members_of table (slice_index (members_or_none table fxy) k))
        → IsSet flags (slice_index (members_or_none table fxy) k)

    -- The next member is not a sequence, or it was already seen.
    pub visited-pass : SeenAt new i → IsVisited table fxy (i + 1) old queue new longer
    visited-pass here = record {
      more = was.more;
      queued = was.queued;
      flags = was.flags;
      leads = was.leads;
      kept = was.kept;
      news = was.news;
      balance = was.balance;
      seen = below_more (SeenAt new) i was.seen here;
    }

    -- The next member is a new sequence, and is appended to the queue.
    pub visited-push : (x : ℕ) → x ≡ slice_index (members_or_none table fxy) i → i < length (members_or_none table fxy) → IsSome (members_of table x) → get_or new x false ≡ false → x < length new
        → IsVisited table fxy (i + 1) old queue (set new x true) (longer ++ x ∷ [])
    visited-push x at inside sequence unseen small = record {
      more = was.more ++ x ∷ [];
      queued = rw was.queued (append_assoc queue was.more (x ∷ []));
      flags = length-set new x true ∙ was.flags;
      leads = λ to has. leads to (Contains-push_cases was.more x to has);
      kept = λ to is. set-keeps new x to (was.kept to is);
      news = λ to is. news to (set-cases new x to is);
      balance = omega (arith, unset-set new x small unseen, was.balance, length-append was.more (x ∷ []));
      seen = below_more (SeenAt (set new x true)) i (λ k below inside sequence. set-keeps new x _ (was.seen k below inside sequence)) (λ inside sequence. rw (← at) (set-is new x small));
    }
      where
        leads : (to : ℕ) → Contains was.more to ⊎ (x ≡ to) → Leads table fxy to
        leads to (inl has) = was.leads to has
        leads to (inr e) = rw (← e, at) (leads-listed table fxy i inside (rw (← at) sequence))

        news : (to : ℕ) → (to ≡ x) ⊎ IsSet new to → IsSet old to ⊎ Contains (was.more ++ x ∷ []) to
        news to (inl e) = inr (rw e (Contains-push was.more x))
        news to (inr is) = wider to (was.news to is)
          where
            wider : (to : ℕ) → IsSet old to ⊎ Contains was.more to → IsSet old to ⊎ Contains (was.more ++ x ∷ []) to
            wider to (inl is) = inl is
            wider to (inr has) = inr (Contains-append_left was.more (x ∷ []) to has)

  -- All members of the sequence were visited.
  pub visited-all : (new : List Bool) (longer : List ℕ) → IsVisited table fxy (length (members_or_none table fxy)) old queue new longer → AreSeen table new fxy
  visited-all new longer v to l =
      let at = listed-leads table fxy to l in
      rw at.at at (v.seen at.place at.inside at.inside (rw at.at at.sequence))

pub seen-kept : (table : List Sequence) (old new : List Bool) (fxy : ℕ) → ((to : ℕ) → IsSet old to → IsSet new to) → AreSeen table old fxy → AreSeen table new fxy
seen-kept table old new fxy kept seen to l = kept to (seen to l)

-- the search from one sequence
module _ (table : List Sequence) (start : ℕ) where
  pub searched-start : (none seen : List Bool) (queue : List ℕ) → length none ≡ 65536 → ((to : ℕ) → IsSet none to → ⊥)
      → IsVisited table start (length (members_or_none table start)) none [] seen queue → IsSearched table start seen queue 0
  searched-start none seen queue size empty v = record {
    flags = v.flags ∙ size;
    inside = omega arith;
    chains = λ to has. one (v.leads to (rw v.queued at has));
    queued = λ to is. queued to (v.news to is);
    first = visited-all table start none [] seen queue v;
    visited = λ k below. absurd (omega arith);
  }
    where
      queued : (to : ℕ) → IsSet none to ⊎ Contains v.more to → Contains queue to
      queued to (inl is) = absurd (empty to is)
      queued to (inr has) = rw v.queued has

  module _ (old new : List Bool) (queue longer : List ℕ) (next : ℕ) (was : IsSearched table start old queue next) (below : next < length queue)
      (v : IsVisited table (slice_index queue next) (length (members_or_none table (slice_index queue next))) old queue new longer) where
    next-chain : (to : ℕ) → Contains queue to ⊎ Contains v.more to → Chain table start to
    next-chain to (inl has) = was.chains to has
    next-chain to (inr has) = chain-append (was.chains (slice_index queue next) (Contains-get_or queue next 0 below)) (one (v.leads to has))

    next-queued : (to : ℕ) → IsSet old to ⊎ Contains v.more to → Contains (queue ++ v.more) to
    next-queued to (inl is) = Contains-append_left queue v.more to (was.queued to is)
    next-queued to (inr has) = Contains-append_right queue v.more to has

    pub searched-more : IsSearched table start new longer (next + 1)
    searched-more = record {
      flags = v.flags ∙ was.flags;
      inside = rw v.queued (omega (arith, length-append queue v.more));
      chains = λ to has. next-chain to (Contains-append_cases queue v.more to (rw v.queued at has));
      queued = λ to is. rw v.queued (next-queued to (v.news to is));
      first = seen-kept table old new start v.kept was.first;
      visited = below_more (λ k. AreSeen table new (slice_index longer k)) next
          (λ k under. rw (v.queued, get_or_append_left queue v.more 0 k (omega arith)) (seen-kept table old new (slice_index queue k) v.kept (was.visited k under)))
          (rw (v.queued, get_or_append_left queue v.more 0 next below) (visited-all table (slice_index queue next) old queue new longer v));
    }

  module _ (seen : List Bool) (queue : List ℕ) (next : ℕ) (s : IsSearched table start seen queue next) (all : length queue ≤ next) where
    -- If a sequence was seen, its members were seen, too.
    all-seen : (x : ℕ) → IsSet seen x → AreSeen table seen x
    all-seen x is =
        let (k, inside, at) = s.queued x is in
        rw (get_or_default queue k 0 x inside ∙ at) at (s.visited k (omega arith))

    -- A chain from a sequence whose members were seen leads only to sequences that were seen.
    walk : {x y : ℕ} → AreSeen table seen x → Chain table x y → IsSet seen y
    walk here (one l) = here _ l
    walk here (more l rest) = walk (all-seen _ (here _ l)) rest

    pub searched-end : ReachesItself table start → IsSet seen start
    searched-end chain = walk s.first chain

    pub searched-chain : IsSet seen start → ReachesItself table start
    searched-chain is = s.chains start (s.queued start is)

-- At first, no flag is set.
pub none-set : (n fxy : ℕ) → IsSet (replicate n false) fxy → ⊥
none-set zero fxy is = cc is
none-set (suc n) zero is = cc is
none-set (suc n) (suc fxy) is = none-set n fxy is

-- A sequence that has a member is in the table.
has-members : (o : Option (List ℕ)) (to : ℕ) → Contains (unwrap_or o []) to → IsSome o
has-members None to (k, inside, at) = absurd (omega (arith, inside))
has-members (Some members) to has = refl

-- A chain begins with a sequence of the table.
chain-sequence : (table : List Sequence) → {a b : ℕ} → Chain table a b → IsSome (members_of table a)
chain-sequence table {a} (one {to = to} l) = has-members (members_of table a) to l.0
chain-sequence table {a} (more {by = by} l rest) = has-members (members_of table a) by l.0

-- A sequence of the table has an index in the file.
place-in : (table : List Sequence) (fxy : ℕ) → IsSome (members_of table fxy) → (k : ℕ) × (k < length table) × (slice_index (fxys_of table) k ≡ fxy)
place-in [] fxy some = cc some
place-in (s ∷ table) fxy some = by (s.fxy == fxy) refl some (place-in table fxy)
  where
    later : (k : ℕ) × (k < length table) × (slice_index (fxys_of table) k ≡ fxy) → (k : ℕ) × (k < suc (length table)) × (slice_index (fxys_of (s ∷ table)) k ≡ fxy)
    later found = (suc found.0, omega (arith, found.1), found.2)

    by : (b : Bool) → (s.fxy == fxy) ≡ b → IsSome (option_map (λ (q : Sequence). q.members) (cond b (Some s) (find (λ q. q.fxy == fxy) table)))
        → (IsSome (members_of table fxy) → (k : ℕ) × (k < length table) × (slice_index (fxys_of table) k ≡ fxy))
        → (k : ℕ) × (k < suc (length table)) × (slice_index (fxys_of (s ∷ table)) k ≡ fxy)
    by true e some on = (0, omega arith, eqb-true s.fxy fxy e)
    by false e some on = later (on some)

-- All sequences of the file were checked.
pub falls-all : (table : List Sequence) (ranks : List ℕ) (count : ℕ) → FallsFirst table ranks count → length table ≤ count → Falls table ranks
falls-all table ranks count falls all fxy to l =
    let (k, inside, at) = place-in table fxy (chain-sequence table (one l)) in
    (rw at at (falls k (omega arith) inside)) to l

-- whether a sequence has another descriptor
abbrev differs : (fxy : ℕ) → Sequence → Bool
differs fxy s = not (s.fxy == fxy)

-- the sequences before index `place`, none of which reaches itself
module _ (table : List Sequence) (place : ℕ) (was : IsPassed table place) where
  -- The next sequence does not reach itself either.
  pub passed-more : (fxy : ℕ) → fxy ≡ slice_index (fxys_of table) place → (ReachesItself table fxy → ⊥) → IsPassed table (place + 1)
  passed-more fxy at none = below_more (λ k. k < length table → ReachesItself table (slice_index (fxys_of table) k) → ⊥) place was (λ inside. rw (← at) none)

  -- The next sequence is the first that reaches itself.
  pub passed-first : (fxy : ℕ) → fxy ≡ slice_index (fxys_of table) place → place < length table → ReachesItself table fxy → IsFirstCycle table fxy
  passed-first fxy at inside chain =
      let d : Sequence = record { fxy = fxy; members = [] } in
      let here : differs fxy (get_or table place d) ≡ false = grind (arith, get_or-map (λ (s : Sequence). s.fxy) table place d 0 inside) in
      let most : prefix_len (differs fxy) table ≤ place = grind (arith, prefix_len_passes (differs fxy) table place d) in
      (chain, λ k e under. earlier k e (omega (arith, length-take (prefix_len (differs fxy) table) table, under)) most)
    where
      earlier : (k : ℕ) (e : Sequence) → k < prefix_len (differs fxy) table → prefix_len (differs fxy) table ≤ place
          → ReachesItself table (get_or (take (prefix_len (differs fxy) table) table) k e).fxy → ⊥
      earlier k e under most again =
          was k (omega (arith, under, most)) (omega (arith, under, most, inside))
          (rw (get_or-map (λ (s : Sequence). s.fxy) table k e 0 (omega (arith, under, most, inside)), ← get_or-take (prefix_len (differs fxy) table) table k e under) again)

  -- No sequence reaches itself.
  pub passed-all : length table ≤ place → (fxy : ℕ) → ¬ ReachesItself table fxy
  passed-all all fxy chain = grind (arith, place-in, chain-sequence)

-- The members of the next sequence have no greater rank than the sequence.
pub falls-more : (table : List Sequence) (ranks : List ℕ) (place fxy limit : ℕ) → FallsFirst table ranks place → fxy ≡ slice_index (fxys_of table) place
    → IsAbove table ranks fxy limit → limit ≤ rank_of ranks fxy + 1 → FallsFirst table ranks (place + 1)
falls-more table ranks place fxy limit falls at above most =
    below_more (λ k. k < length table → IsAbove table ranks (slice_index (fxys_of table) k) (rank_of ranks (slice_index (fxys_of table) k) + 1)) place falls
    (λ inside. rw (← at) (λ to l. omega arith))
