use Rattle.std.proofs.Common.{◌≡◌, ◌∙◌, ap, ◌++◌, ◌/◌, [], ◌∷◌}
use Rattle.bufr_frame.specs.Prelude.{two_octets, octets_of_words}
use Rattle.bufr_frame.proofs.LayoutLemmas.{third}
use Rattle.bufr_frame.proofs.write.push_section3.Goals as goal

pub returns : goal.returns
returns c =
    let words = c.args.descriptors.now in
    let before = c.push_three.new.octets.items in
    let four : c.extend_from_slice.new.self.items ≡ before ++ (0 ∷ two_octets c.args.subsets ++ c.args.flags ∷ []) =
    c.in_ok-extend_from_slice.ensures.items ∙ ap (λ h. before ++ (0 ∷ h ∷ c.low_octet.result ∷ c.args.flags ∷ [])) c.high_octet.ensures
    ∙ ap (λ l. before ++ (0 ∷ c.args.subsets / 256 ∷ l ∷ c.args.flags ∷ [])) c.low_octet.ensures in
    third c.push_padding.result c.args.edition words c.args.subsets c.args.flags c.even_len.result c.is_padded.result
    c.args.octets.now.items c.push_three.new.octets.items c.push_words.new.octets.items c.push_padding.new.octets.items
    c.even_len.ensures c.is_padded.ensures c.in_ok-push_three.ensures
    (c.in_ok-push_words.ensures ∙ ap (λ l. l ++ octets_of_words words) four) c.push_padding.ensures
