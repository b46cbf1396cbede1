use Rattle.std.proofs.Common.{rules, eqb, take, drop, ◌-◌, ◌≡◌, ◌∙◌, ℕ, List, Option, arith, ap, codes, length, subst, sym}
use Rattle.std.proofs.lemmas.List.{take_rest}
use Rattle.std.specs.List.{starts_with}
use Rattle.memchr.specs.Find.{FindsNeedle}
use Rattle.bufr_frame.specs.Prelude.{has_word_at}
use Rattle.bufr_frame.proofs.ScanLemmas.{absent-there, first-there, found-after, none-after, nowhere-more}
use Rattle.bufr_frame.proofs.finder.find_word.Goals as goal

-- the octets from an index on, and how the code compares them
abbrev rest-from : (s : List ℕ) (place : ℕ) → List ℕ
rest-from s place = take (length s - place) (drop place s)

begins : (m : List ℕ) → starts_with eqb m (codes "BUFR") ≡ has_word_at (codes "BUFR") 0 m
begins m = search rules

pub returns-then-starts_with : goal.returns-then-starts_with
returns-then-starts_with c =
    first-there c.args.rest.now c.places.place c.places.invariant
    (sym (ap (has_word_at (codes "BUFR") 0) (take_rest c.args.rest.now c.places.place)) ∙ sym (begins (rest-from c.args.rest.now c.places.place)) ∙ sym c.starts_with.ensures.value
    ∙ c.if-starts_with.true)

pub places-preserved : goal.places-preserved
places-preserved c =
    nowhere-more c.args.rest.now c.places.place c.places.invariant
    (absent-there c.args.rest.now (rest-from c.args.rest.now c.places.place) c.places.place c.starts_with.result (take_rest c.args.rest.now c.places.place)
    (c.starts_with.ensures.value ∙ begins (rest-from c.args.rest.now c.places.place)) c.if-starts_with.false)

pub returns-in_err-place : goal.returns-in_err-place
returns-in_err-place c =
    let R : Option ℕ → Type 0 = λ r. FindsNeedle c.args.rest.now (codes "BUFR") 0 r in
    subst R (sym c.from_residual.ensures)
    (none-after c.args.rest.now (rest-from c.args.rest.now c.min-near.result) c.min-near.result (take_rest c.args.rest.now c.min-near.result) (omega (arith, c.min-near.ensures))
    (λ k low below. c.places.invariant k low (omega (arith, c.places-test.false)))
    c.in_err-place.ensures)

pub returns : goal.returns
returns c =
    found-after c.args.rest.now (rest-from c.args.rest.now c.min-near.result) c.min-near.result c.in_ok-place.place (take_rest c.args.rest.now c.min-near.result)
    (λ k low below. c.places.invariant k low (omega (arith, c.places-test.false)))
    c.in_ok-place.ensures
