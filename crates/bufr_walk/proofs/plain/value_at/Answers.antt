use Rattle.std.proofs.Common.{take, drop, sym, ◌∙◌, ap, Some, ◌/◌}
use Rattle.bufr_bits.specs.Prelude.{bits_of, bits_at, are_all_ones, octets_of}
use Rattle.bufr_walk.specs.Prelude.{octets_in}
use Rattle.bufr_walk.proofs.PlainLemmas.{borrowed_some, text_prefix}
use Rattle.bufr_walk.proofs.ShownLemmas.{text_shown}
use Rattle.bufr_walk.proofs.plain.value_at.Goals as goal

pub returns-in-Some : goal.returns-in-Some
returns-in-Some c =
    let spec = c.args.spec.now in
    let octets = octets_of c.args.bits.now in
    let rest = drop c.args.at (bits_of octets) in
    let text = sym c.is_text.ensures ∙ c.if-is_text.true in
    text_shown spec (bits_at octets c.args.at spec.width) c.in-Some.octets.now c.width-width.ensures.spec text
    (sym (c.ones_at-missing.ensures ∙ ap (λ w. are_all_ones (bits_at octets c.args.at w)) c.width-width.ensures.value) ∙ c.if-missing.false)
    (borrowed_some (λ s. s.now) (Some c.in-Some.octets) octets (octets_in (spec.width / 8) (take spec.width rest)) c.args.at (c.width-width.result / 8) c.in-Some.ensures.value c.in-Some.ensures.octets
    (ap (λ w. octets_in (w / 8) rest) c.width-width.ensures.value ∙ sym (text_prefix spec rest (c.width-width.ensures.whole text))))

pub returns-then-is_text : goal.returns-then-is_text
returns-then-is_text c =
    let spec = c.args.spec.now in
    let octets = octets_of c.args.bits.now in
    let rest = drop c.args.at (bits_of octets) in
    let text = sym c.is_text.ensures ∙ c.if-is_text.true in
    text_shown spec (bits_at octets c.args.at spec.width) (take (c.width-width.result / 8) c.copy_octets.new.text) c.width-width.ensures.spec text
    (sym (c.ones_at-missing.ensures ∙ ap (λ w. are_all_ones (bits_at octets c.args.at w)) c.width-width.ensures.value) ∙ c.if-missing.false)
    (c.copy_octets.ensures ∙ ap (λ w. octets_in (w / 8) rest) c.width-width.ensures.value ∙ sym (text_prefix spec rest (c.width-width.ensures.whole text)))
