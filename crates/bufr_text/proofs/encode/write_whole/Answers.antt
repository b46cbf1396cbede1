use Rattle.std.proofs.Common.{◌≡◌, ◌∙◌, sym, arith, ap}
use Rattle.bufr_frame.specs.Prelude.{parts_of}
use Rattle.bufr_text.specs.Prelude.{header_in, compressed_as, message_of, parts_as, compressed_by}
use Rattle.bufr_text.proofs.EncodeLemmas.{message-made, octets_are_bits}
use Rattle.bufr_text.proofs.encode.write_whole.Goals as goal

pub returns-in-Ok-clause-payload : goal.returns-in-Ok-clause-payload
returns-in-Ok-clause-payload c = λ bits h. octets_are_bits c.args.payload.now bits (λ k. let fits = c.type_inv.payload k in omega arith) h

pub returns-in-Err-TooLong-clause-payload : goal.returns-in-Err-TooLong-clause-payload
returns-in-Err-TooLong-clause-payload c = λ bits h. octets_are_bits c.args.payload.now bits (λ k. let fits = c.type_inv.payload k in omega arith) h

pub returns-in-Err-Memory-clause-payload : goal.returns-in-Err-Memory-clause-payload
returns-in-Err-Memory-clause-payload c = λ bits h. octets_are_bits c.args.payload.now bits (λ k. let fits = c.type_inv.payload k in omega arith) h

pub returns-in-Ok-clause-octets : goal.returns-in-Ok-clause-octets
returns-in-Ok-clause-octets c =
    let d = c.args.document.now in
    let payload = c.args.payload.now in
    let parts : parts_of _ _ _ _ _ _ payload ≡ parts_as (compressed_as c.args.form d) d payload =
    λ j. parts_of (c.local1.ensures j) (c.section2.ensures j) (c.descriptors.ensures j) (c.subsets.ensures j) (c.observed.ensures j)
    ((c.is_compressed.ensures ∙ ap (compressed_by c.args.form) c.compressed.ensures) j) payload in
    let head : c.head.result ≡ (header_in d).head = c.head.ensures.value in
    let whole : message_of d.line c.head.result _ ≡ message_of d.line (header_in d).head (parts_as (compressed_as c.args.form d) d payload) = λ j. message_of d.line (head j) (parts j) in
    sym whole
    ∙ message-made d.line c.head.result _ c.in-Ok.octets.items (λ long. absurd (let e = c.in-Ok.ensures.too_long.1 long in cc)) c.in-Ok.ensures.layout
