use Rattle.std.proofs.Common.{◌≡◌, ◌≢◌, ◌<◌, ◌++◌, ◌∷◌, ◌⊎◌, ℕ, [], Contains, List, ap, arith, get_or, inr, length, slice_set, subst, sym, ◌∙◌}
use Rattle.std.specs.List.{All}
use Rattle.bufr_walk.specs.Prelude.{Lists, IsKept, IsSlotBy, IsOther, list_of, lists_of, with_room}
use Rattle.bufr_walk.specs.declared.lists.Slot.{Slot}
use Rattle.bufr_walk.proofs.CacheLemmas.{none_kept, set_contains, set_stays, remove_stays, kept_beside, slot_contains, last_kept, lists_more, others_more, few_more}
use Rattle.bufr_walk.proofs.lists.TemplateCache.select.Goals as goal

-- If a slot has this list, the list is cached.
found : (now : Lists) (slots seen : List Slot) (i : ℕ) (list : List ℕ) → seen ≡ slots → lists_of slots ≡ now.others → i < length seen → ((s : Slot) → s ≡ get_or seen i s → list_of s ≡ list)
    → IsKept now list
found now slots seen i list same others h is = inr (subst (λ xs. Contains xs list) (ap lists_of same ∙ others) (slot_contains seen i list h is))

pub returns-then-may_stay-clause-before : goal.returns-then-may_stay-clause-before
returns-then-may_stay-clause-before c stays =
    inr (set_contains c.self.inside.others.items c.in-Some.index c.swap.new.y c.args.self.now.list (omega (arith, c.in-Some.ensures.inside, ap length c.deref.ensures.value))
    (ap list_of c.swap.ensures.y_after ∙ ap (λ (v : Lists). v.list) c.self.view_is))

pub returns-then-may_stay-clause-stay : goal.returns-then-may_stay-clause-stay
returns-then-may_stay-clause-stay c kept list has =
    let slots = c.self.inside.others.items in
    let wanted = c.args.descriptors.now in
    let there = subst (λ (xs : List Slot). (s : Slot) → s ≡ get_or xs c.in-Some.index s → list_of s ≡ wanted) c.deref.ensures.value c.in-Some.ensures.there in
    kept_beside c.swap.new.x wanted list (slice_set slots c.in-Some.index c.swap.new.y) (ap list_of c.swap.ensures.x_after ∙ there c.index_mut.result.now c.index_mut.ensures.value)
    (set_stays slots c.in-Some.index c.swap.new.y wanted list (omega (arith, c.in-Some.ensures.inside, ap length c.deref.ensures.value)) there
    (subst (λ xs. Contains xs list) (sym (ap (λ (v : Lists). v.others) c.self.view_is)) has))

pub returns-then-may_stay-clause-added : goal.returns-then-may_stay-clause-added
returns-then-may_stay-clause-added c fresh stays =
    absurd (fresh (found c.args.self.now c.self.inside.others.items c.deref.result.now c.in-Some.index c.args.descriptors.now c.deref.ensures.value (ap (λ (v : Lists). v.others) c.self.view_is)
    c.in-Some.ensures.inside c.in-Some.ensures.there))

pub returns-else-may_stay-clause-stay : goal.returns-else-may_stay-clause-stay
returns-else-may_stay-clause-stay c kept list has =
    let slots = c.self.inside.others.items in
    let wanted = c.args.descriptors.now in
    let there = subst (λ (xs : List Slot). (s : Slot) → s ≡ get_or xs c.in-Some.index s → list_of s ≡ wanted) c.deref.ensures.value c.in-Some.ensures.there in
    kept_beside c.remove.result wanted list c.remove.new.self.items (there c.remove.result c.remove.ensures.value)
    (subst (λ (xs : List Slot). (wanted ≡ list) ⊎ Contains (lists_of xs) list) (sym c.remove.ensures.items)
    (remove_stays slots c.in-Some.index wanted list (omega (arith, c.in-Some.ensures.inside, ap length c.deref.ensures.value)) there
    (subst (λ xs. Contains xs list) (sym (ap (λ (v : Lists). v.others) c.self.view_is)) has)))

pub returns-else-may_stay-clause-others : goal.returns-else-may_stay-clause-others
returns-else-may_stay-clause-others c fresh goes =
    absurd (fresh (found c.args.self.now c.self.inside.others.items c.deref.result.now c.in-Some.index c.args.descriptors.now c.deref.ensures.value (ap (λ (v : Lists). v.others) c.self.view_is)
    c.in-Some.ensures.inside c.in-Some.ensures.there))

-- If neither the last slot nor any other slot has this list, the list is not cached.
lost : (now : Lists) (slots seen : List Slot) (last : Slot) (list : List ℕ) → seen ≡ slots → lists_of slots ≡ now.others → list_of last ≡ now.list → list_of last ≢ list
    → All (λ (s : Slot). list_of s ≢ list) seen → IsKept now list → ⊥
lost now slots seen last list same others is differ none kept =
    none_kept now seen list (sym (ap lists_of same ∙ others)) (λ e. differ (is ∙ e)) none kept

pub returns-in_err-slot-clause-found : goal.returns-in_err-slot-clause-found
returns-in_err-slot-clause-found c kept =
    absurd (lost c.args.self.now c.self.inside.others.items c.deref.result.now c.self.inside.last c.args.descriptors.now c.deref.ensures.value (ap (λ (v : Lists). v.others) c.self.view_is)
    (ap (λ (v : Lists). v.list) c.self.view_is) (c.has.ensures.other c.if-has.false) c.in_default.ensures.none kept)

pub returns-in_err-reserve-clause-found : goal.returns-in_err-reserve-clause-found
returns-in_err-reserve-clause-found c kept =
    absurd (lost c.args.self.now c.self.inside.others.items c.deref.result.now c.self.inside.last c.args.descriptors.now c.deref.ensures.value (ap (λ (v : Lists). v.others) c.self.view_is)
    (ap (λ (v : Lists). v.list) c.self.view_is) (c.has.ensures.other c.if-has.false) c.in_default.ensures.none kept)

pub invariant_of-self-2 : goal.invariant_of-self-2
invariant_of-self-2 c =
    let b = c.self.inside.table_b.now in
    let d = c.self.inside.table_d.now in
    let slots = c.self.inside.others.items in
    let room = c.drop_first.ensures.items ∙ ap (λ (xs : List Slot). with_room xs) c.in_ok-reserve.ensures.items in
    let other : IsOther b d c.self.inside.last = record { slot = c.self.invariant.last; stays = c.may_stay-2.ensures.stays c.if-not-may_stay.false b d c.self.invariant.last } in
    record {
      last = subst (λ (s : Slot). IsSlotBy b d s) (sym c.replace-before.ensures.after) c.in_ok-slot.ensures.slot;
      others = rw c.push_reserved.ensures.items (others_more b d slots c.drop_first.new.slots.items c.replace-before.result c.self.invariant.others room
          (subst (λ (s : Slot). IsOther b d s) (sym c.replace-before.ensures.value) other));
      few = rw c.push_reserved.ensures.items (few_more slots c.drop_first.new.slots.items c.replace-before.result c.self.invariant.few room);
    }

pub returns-clause-before : goal.returns-clause-before
returns-clause-before c stays =
    inr (subst (λ (xs : List Slot). Contains (lists_of xs) c.args.self.now.list) (sym c.push_reserved.ensures.items)
    (subst (λ list. Contains (lists_of (c.drop_first.new.slots.items ++ c.replace-before.result ∷ [])) list)
    (ap list_of c.replace-before.ensures.value ∙ ap (λ (v : Lists). v.list) c.self.view_is) (last_kept c.drop_first.new.slots.items c.replace-before.result)))

pub returns-clause-stay : goal.returns-clause-stay
returns-clause-stay c kept =
    absurd (lost c.args.self.now c.self.inside.others.items c.deref.result.now c.self.inside.last c.args.descriptors.now c.deref.ensures.value (ap (λ (v : Lists). v.others) c.self.view_is)
    (ap (λ (v : Lists). v.list) c.self.view_is) (c.has.ensures.other c.if-has.false) c.in_default.ensures.none kept)

pub returns-clause-added : goal.returns-clause-added
returns-clause-added c fresh stays =
    let slots = c.self.inside.others.items in
    let room = c.drop_first.ensures.items ∙ ap (λ (xs : List Slot). with_room xs) c.in_ok-reserve.ensures.items in
    ap lists_of c.push_reserved.ensures.items ∙ lists_more slots c.drop_first.new.slots.items c.replace-before.result room
    ∙ ap (λ list. with_room (lists_of slots) ++ list ∷ []) (ap list_of c.replace-before.ensures.value ∙ ap (λ (v : Lists). v.list) c.self.view_is)
    ∙ ap (λ others. with_room others ++ c.args.self.now.list ∷ []) (ap (λ (v : Lists). v.others) c.self.view_is)
