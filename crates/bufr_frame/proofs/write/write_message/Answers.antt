use Rattle.std.proofs.lemmas.Grind.{common_steps}
use Rattle.std.proofs.Common.{ℕ, List, length, Bool, true, false, arith, ◌+◌, ◌*◌, ◌≡◌, ◌∙◌, ◌++◌, [], ◌∷◌, ap, codes, is_some, option_map}
use mir.Val.{bool_byte}
use Rattle.bufr_frame.specs.Prelude.{sections_of, MessageParts, parts_of, message_size, three_octets, min_section_1, head_octets, section0_octets, section1_octets, section2_octets, section3_octets, section4_octets, data_flags, with_even_length, with_pad_octet, octets_of_words}
use Rattle.bufr_frame.proofs.LayoutLemmas.{read-back, six-parts, is_some-map}
use Rattle.bufr_frame.proofs.write.write_message.Goals as goal

flags-are : (observed compressed : Bool) (a b : ℕ) → a ≡ bool_byte observed → b ≡ bool_byte compressed → 128 * a + 64 * b ≡ data_flags observed compressed
flags-are true true a b x y = omega (arith, x, y)
flags-are true false a b x y = omega (arith, x, y)
flags-are false true a b x y = omega (arith, x, y)
flags-are false false a b x y = omega (arith, x, y)

first-section : (before three head local1 a b c : List ℕ) → a ≡ before ++ three → b ≡ a ++ head → c ≡ b ++ local1 → c ≡ before ++ (three ++ head ++ local1)
first-section before three head local1 a b c ha hb hc = grind (arith, common_steps)

pub returns-clause-layout : goal.returns-clause-layout
returns-clause-layout c =
    let h = c.args.head.now in
    let p : MessageParts = parts_of c.args.local1.now (option_map (λ s. s.now) c.args.section2) c.args.descriptors.now c.args.subsets c.args.observed c.args.compressed c.args.payload.now in
    let size : c.in-Some.size ≡ message_size h.edition p = c.in-Some.ensures.size.1 in
    let flags : 128 * c.from.result + 64 * c.from-2.result ≡ data_flags c.args.observed c.args.compressed =
    flags-are c.args.observed c.args.compressed c.from.result c.from-2.result c.from.ensures c.from-2.ensures in
    let optional = c.is_some.ensures ∙ is_some-map (λ s. s.now) c.args.section2 in
    six-parts (section0_octets (message_size h.edition p) h.edition) (section1_octets h p.local1 (is_some p.section2)) (section2_octets p.section2)
    (section3_octets (with_even_length h.edition 7 (octets_of_words p.descriptors)) p.subsets (data_flags p.observed p.compressed)) (section4_octets (with_even_length h.edition 4 p.payload))
    (codes "7777")
    c.extend_from_slice-2.new.self.items c.extend_from_slice-3.new.self.items c.push_section2.new.octets.items c.push_section3.new.octets.items c.push_plain.new.octets.items
    c.extend_from_slice-4.new.self.items
    (c.in_ok-extend_from_slice-2.ensures.items ∙ ap (λ l. l ++ h.edition ∷ [])
    (c.in_ok-push_three.ensures ∙ ap (λ l. l ++ three_octets c.in-Some.size) (c.in_ok-extend_from_slice.ensures.items ∙ ap (λ l. l ++ codes "BUFR") c.in_ok-octets.ensures.items))
    ∙ ap (λ n. section0_octets n h.edition) size)
    (first-section c.extend_from_slice-2.new.self.items (three_octets (min_section_1 h.edition + length p.local1)) (head_octets h (is_some p.section2)) p.local1 _ _ _
    (c.in_ok-push_three-2.ensures ∙ ap (λ n. c.extend_from_slice-2.new.self.items ++ three_octets (n + length p.local1)) c.min_section_1.ensures.value)
    (c.in_ok-push_head.ensures ∙ ap (λ b. c.push_three-2.new.octets.items ++ head_octets h b) optional) c.in_ok-extend_from_slice-3.ensures.items)
    c.in_ok-push_section2.ensures
    (c.in_ok-push_section3.ensures ∙ ap (λ n. c.push_section2.new.octets.items ++ section3_octets (with_even_length h.edition 7 (octets_of_words p.descriptors)) p.subsets n) flags)
    (c.in_ok-push_plain.ensures ∙ ap (λ b. c.push_section3.new.octets.items ++ section4_octets (with_pad_octet b p.payload)) c.is_padded-pads.ensures)
    c.in_ok-extend_from_slice-4.ensures.items

pub returns-clause-read_back : goal.returns-clause-read_back
returns-clause-read_back c =
    let p : MessageParts = parts_of c.args.local1.now (option_map (λ s. s.now) c.args.section2) c.args.descriptors.now c.args.subsets c.args.observed c.args.compressed c.args.payload.now in
    ap sections_of (returns-clause-layout c) ∙ read-back c.args.head.now p c.requires
