use Rattle.std.proofs.Common.{◌≡◌, ℕ, ◌+◌, ◌-◌, ◌*◌, ◌<◌, ◌≤◌, List, true, length, take, drop, replicate, ◌++◌, arith, sym, ◌∙◌, ap, ◌/◌}
use Rattle.bufr_bits.specs.Prelude.{bits_at, bits_of, octets_of}
use Rattle.bufr_tables.specs.Prelude.{is_character}
use Rattle.bufr_walk.specs.Prelude.{IndexedItem, content_in, start_of, shown, fits_at}
use Rattle.bufr_walk.proofs.PackedShowing.{span_within, span_text, missing_text, whole_text, base_within}
use Rattle.bufr_walk.proofs.PackedLemmas.{base_content, padded_text, text_short}
use Rattle.bufr_walk.proofs.compressed.value_of.Goals as goal

pub value_at-requires : goal.value_at-requires
value_at-requires c = omega (arith, c.at.ensures, base_within (octets_of c.args.pack.now.bits) c.args.pack.now.subsets c.args.item.now c.requires.fits)

pub returns-then-item-eq0 : goal.returns-then-item-eq0
returns-then-item-eq0 c =
    c.value_at.ensures ∙ ap (λ p. shown c.args.item.now.spec (content_in c.args.item.now.spec (bits_at (octets_of c.args.pack.now.bits) p c.args.item.now.spec.width))) c.at.ensures
    ∙ ap (shown c.args.item.now.spec) (sym (base_content (bits_of (octets_of c.args.pack.now.bits)) c.args.pack.now.subsets c.args.item.now c.args.subset c.requires.fits
    c.if-item-eq0.true c.requires.subset))

-- The text is inside the data, at the bit that the code computes with 64-bit numbers.
reach : (octets : List ℕ) (n : ℕ) (e : IndexedItem) (at j wide subset eight k : ℕ) → fits_at (bits_of octets) n e ≡ true → 1 ≤ e.step → j < n → is_character e.spec.kind ≡ true → at ≡ start_of e
    → wide ≡ e.spec.width
    → subset ≡ j → eight ≡ 8 * k → k ≡ e.step
    → (at + (wide + 6) + subset * eight + 8 * k ≤ 8 * length octets) × (at + (wide + 6) + subset * eight ≡ start_of e + (e.spec.width + 6) + j * (8 * e.step))
reach octets n e at j wide subset eight k h some below c ea ew es e8 ek =
    let room = span_within octets n e j h some below c in
    let one : (j + 1) * (8 * e.step) ≡ j * (8 * e.step) + 8 * e.step = omega arith in
    let there : subset * eight ≡ j * (8 * e.step) = ap (λ x. x * eight) es ∙ ap (λ x. j * x) (e8 ∙ ap (λ x. 8 * x) ek) in
    (omega (arith, room, one, there, ea, ew, ek), omega (arith, there, ea, ew))

pub overflow_add-increment_at-2 : goal.overflow_add-increment_at-2
overflow_add-increment_at-2 c =
    let room = span_within (octets_of c.args.pack.now.bits) c.args.pack.now.subsets c.args.item.now c.args.subset c.requires.fits (omega (arith, c.if-item-eq0.false)) c.requires.subset
    (sym c.is_text.ensures ∙ c.if-not-is_text.false) in
    omega (arith, room, c.at-2.ensures, c.from-2.ensures, c.width-width.ensures.value)

pub overflow_add-increment_at-3 : goal.overflow_add-increment_at-3
overflow_add-increment_at-3 c =
    let r = reach (octets_of c.args.pack.now.bits) c.args.pack.now.subsets c.args.item.now _ c.args.subset _ _ _ _ c.requires.fits (omega (arith, c.if-item-eq0.false)) c.requires.subset
    (sym c.is_text.ensures ∙ c.if-not-is_text.false) c.at-2.ensures (c.from-2.ensures ∙ c.width-width.ensures.value) c.from-3.ensures c.from-4.ensures c.from-k.ensures in
    omega (arith, r.0)

pub ones_at-missing-requires : goal.ones_at-missing-requires
ones_at-missing-requires c =
    (reach (octets_of c.args.pack.now.bits) c.args.pack.now.subsets c.args.item.now _ c.args.subset _ _ _ _ c.requires.fits (omega (arith, c.if-item-eq0.false)) c.requires.subset
    (sym c.is_text.ensures ∙ c.if-not-is_text.false) c.at-2.ensures (c.from-2.ensures ∙ c.width-width.ensures.value) c.from-3.ensures c.from-4.ensures c.from-k.ensures).0

pub copy_octets-requires-clause-within : goal.copy_octets-requires-clause-within
copy_octets-requires-clause-within c =
    (reach (octets_of c.args.pack.now.bits) c.args.pack.now.subsets c.args.item.now _ c.args.subset _ _ _ _ c.requires.fits (omega (arith, c.if-item-eq0.false)) c.requires.subset
    (sym c.is_text.ensures ∙ c.if-not-is_text.false) c.at-2.ensures (c.from-2.ensures ∙ c.width-width.ensures.value) c.from-3.ensures c.from-4.ensures c.from-k.ensures).0

pub pad-requires-clause-order : goal.pad-requires-clause-order
pad-requires-clause-order c =
    let least = text_short (bits_of (octets_of c.args.pack.now.bits)) c.args.pack.now.subsets c.args.item.now c.args.subset c.requires.fits (omega (arith, c.if-item-eq0.false)) c.requires.subset
    (sym c.is_text.ensures ∙ c.if-not-is_text.false) in
    let wide : c.width-width.result / 8 ≡ c.args.item.now.spec.width / 8 = ap (λ w. w / 8) c.width-width.ensures.value in
    omega (arith, least, wide, c.from-k.ensures)

pub returns-then-missing : goal.returns-then-missing
returns-then-missing c =
    let item = c.args.item.now in
    let octets = octets_of c.args.pack.now.bits in
    let bits = bits_of octets in
    let place = c.at-2.result + (c.from-2.result + 6) + c.from-3.result * c.from-4.result in
    let r = reach octets c.args.pack.now.subsets item _ c.args.subset _ _ _ _ c.requires.fits (omega (arith, c.if-item-eq0.false)) c.requires.subset (sym c.is_text.ensures ∙ c.if-not-is_text.false)
    c.at-2.ensures (c.from-2.ensures ∙ c.width-width.ensures.value) c.from-3.ensures c.from-4.ensures c.from-k.ensures in
    missing_text item.spec (item.spec.width / 8) c.from-k.result (drop place bits) (sym c.ones_at-missing.ensures ∙ c.if-missing.true)
    ∙ ap (shown item.spec) (ap (λ k. padded_text (item.spec.width / 8) k (take (8 * k) (drop place bits))) c.from-k.ensures
    ∙ span_text bits c.args.pack.now.subsets item c.args.subset place c.requires.fits (omega (arith, c.if-item-eq0.false)) c.requires.subset (sym c.is_text.ensures ∙ c.if-not-is_text.false) r.1)

pub returns : goal.returns
returns c =
    let item = c.args.item.now in
    let octets = octets_of c.args.pack.now.bits in
    let bits = bits_of octets in
    let k = c.from-k.result in
    let count = c.width-width.result / 8 in
    let place = c.at-2.result + (c.from-2.result + 6) + c.from-3.result * c.from-4.result in
    let r = reach octets c.args.pack.now.subsets item _ c.args.subset _ _ _ _ c.requires.fits (omega (arith, c.if-item-eq0.false)) c.requires.subset (sym c.is_text.ensures ∙ c.if-not-is_text.false)
    c.at-2.ensures (c.from-2.ensures ∙ c.width-width.ensures.value) c.from-3.ensures c.from-4.ensures c.from-k.ensures in
    whole_text item.spec count k (drop place bits) (take count c.pad.new.text) (sym c.ones_at-missing.ensures ∙ c.if-missing.false)
    (c.pad.ensures ∙ ap (λ xs. xs ++ replicate (count - k) 32) c.copy_octets.ensures)
    ∙ ap (shown item.spec) (ap (λ w. padded_text (w / 8) k (take (8 * k) (drop place bits))) c.width-width.ensures.value
    ∙ ap (λ n. padded_text (item.spec.width / 8) n (take (8 * n) (drop place bits))) c.from-k.ensures
    ∙ span_text bits c.args.pack.now.subsets item c.args.subset place c.requires.fits (omega (arith, c.if-item-eq0.false)) c.requires.subset (sym c.is_text.ensures ∙ c.if-not-is_text.false) r.1)
