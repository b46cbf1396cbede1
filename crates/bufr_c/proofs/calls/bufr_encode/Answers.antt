use Rattle.std.proofs.Common.{◌≡◌, ◌∙◌, ap, drop, false, refl, rules}
use Rattle.bufr_c.proofs.EventLemmas.{encode_read, encodes_all, encodes_none, rest-encoded, wrote_none}
use Rattle.bufr_c.proofs.calls.bufr_encode.Goals as goal

pub returns-then-not-write_text-clause-texts : goal.returns-then-not-write_text-clause-texts
returns-then-not-write_text-clause-texts c =
    let octets = c.args.input.now.octets.now in
    let at = c.at.ensures in
    let full : c.write_text.result ≡ false = search rules in
    let none = wrote_none c.args.texts.now.at c.args.messages.now c.args.faults.now c.at.result at.at at.output at.errors at.accepted at.refused in
    let made = rest-encoded _ _ _ _ _ _ _ (c.rest_of-octets.ensures ∙ ap (λ n. drop n octets) at.at) c.in-Ok-set_encoded.ensures in
    encode_read c.args.input.now.form c.in-Some.form _ _ _ _ octets c.args.texts.now.at _ _ _ _ _ _ c.in-Some.ensures c.in-Ok.ensures.b c.in-Ok.ensures.d
    (encodes_none _ octets _ _ _ _ _ _ c.write_text.new.texts _ _ c.in-Ok-set_encoded.tally made none (rw full at c.write_text.ensures))

pub returns-clause-texts : goal.returns-clause-texts
returns-clause-texts c =
    let octets = c.args.input.now.octets.now in
    let at = c.at.ensures in
    let none = wrote_none c.args.texts.now.at c.args.messages.now c.args.faults.now c.at.result at.at at.output at.errors at.accepted at.refused in
    let made = rest-encoded _ _ _ _ _ _ _ (c.rest_of-octets.ensures ∙ ap (λ n. drop n octets) at.at) c.in-Ok-set_encoded.ensures in
    encode_read c.args.input.now.form c.in-Some.form _ _ _ _ octets c.args.texts.now.at _ _ _ _ _ _ c.in-Some.ensures c.in-Ok.ensures.b c.in-Ok.ensures.d
    (encodes_all _ octets _ _ _ _ _ _ c.write_text.new.texts _ _ c.in-Ok-set_encoded.tally made none c.if-not-write_text.ensures refl refl refl refl refl)
