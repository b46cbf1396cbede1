use Rattle.std.proofs.Common.{◌≡◌, ◌∙◌, ap, false, slice_index, sym}
use Rattle.bufr_bits.specs.Prelude.{short_text}
use Rattle.bufr_fill.specs.Prelude.{number_token}
use Rattle.bufr_text.specs.Prelude.{is_number_octet}
use Rattle.bufr_text.proofs.ItemLemmas.{item-read, value-decimal, value-missing}
use Rattle.bufr_text.proofs.line.short_item.Goals as goal

pub returns-then-octet_at-eq77 : goal.returns-then-octet_at-eq77
returns-then-octet_at-eq77 c =
    let text = c.suffix-text.result.now in
    let rest = c.in_ok-rest.rest.now in
    let said =
    item-read text rest c.in_ok-fxy.fxy _ (value-missing text rest c.in_ok-rest.ensures.value) (sym c.is_end_or_comment.ensures ∙ c.if-not-is_end_or_comment.false) in
    c.in_ok-fxy.ensures.value ∙ (rw c.suffix-text.ensures at said)

pub returns : goal.returns
returns c =
    let text = c.suffix-text.result.now in
    let rest = c.suffix-rest.result.now in
    let found = c.in_ok-number.ensures in
    let stop : is_number_octet (slice_index rest 0) ≡ false =
    ap is_number_octet (sym c.octet_at-3.ensures) ∙ sym c.is_number_octet.ensures ∙ c.if-is_number_octet.false in
    let value = value-decimal text _ c.in_ok-number.count found.some found.within found.text found.octets (rw c.suffix-rest.ensures at stop) in
    let said =
    item-read text rest c.in_ok-fxy.fxy (number_token (short_text c.in_ok-number.number)) (rw c.suffix-rest.ensures value) (sym c.is_end_or_comment-2.ensures ∙ c.if-not-is_end_or_comment-2.false) in
    c.in_ok-fxy.ensures.value ∙ (rw c.suffix-text.ensures at said)
