-- The document of an accepted message is encoded to a message with the same reading.
use Rattle.std.proofs.Common.{inl, inr, ◌≡◌, ℕ, ◌/◌, ◌<◌, ◌≤◌, ◌^◌, Bool, true, false, List, [], ◌∷◌, map, Option, Some, None, refl, subst, arith, ◌*◌, ◌&&◌, Result, Ok, Err, ◌+◌, ◌-◌, length, drop, sym, ◌∙◌, ap, ◌%◌, ◌++◌, codes, append_assoc, length-append, ◌≢◌, ◌==◌, nat_lt, if◌then◌else◌, unwrap_or, is_some, ◌||◌, IfOk, IfErr, Vec, rules}
use Rattle.std.specs.List.{AllByRecursion}
use Rattle.std.proofs.lemmas.Bool.Decides.{nat_tests}
use Rattle.bufr_tables.specs.Prelude.{Row, IsLegal, tree_of, tables_of, Tree, Sequence, places}
use Rattle.bufr_walk.proofs.NextField.{AreRead}
use Rattle.bufr_walk.specs.Prelude.{FieldSpec, Content, shown, Course, next_item, data_of, Item, Values, apart, together, View, subsets_from, counted_item, each_subset}
use Rattle.bufr_text.specs.Prelude.{header_in, IsDescriptorWord, items_shown, IsOctet, dump_value_of, item_entries, subset_entries, document_of, dump_text_of, lines_before, IsAccepted, dump_items, extra_octets, SaySame, HasSameReading, IsEncodedAgain, Document, map_err, data_bits, octets_of_bits, message_of, encoding_in, encoding_of, compressed_as, parts_as, AreOctetsOf, IsData, IsDocumentRefusal, Form, WritesForm, DocumentFault, document_fault}
use Rattle.std.proofs.lemmas.List.{take_at, drop_at, length-replicate}
use Rattle.bufr_bits.specs.Prelude.{bits_of, padding}
use Rattle.bufr_frame.specs.Prelude.{three_octets, octets_of_words, u24_at, Sections, sections_of, edition_of, section3_begins, section4_begins, IsFitting, MessageParts, with_even_length, message_octets, message_size, max_octets, section0_octets, section1_octets, section2_octets, section3_octets, section4_octets, data_flags, head_octets, max_extra_octets, parts_in, parts_of, sections_from, min_section_1, FrameAt, has_word_at, stated_length, classify, scan_from}
use Rattle.bufr_frame.proofs.AgainLemmas.{sections-ended, edition-cases, head-small, least-when-even, no-longer, not-too-long, fitting-writable}
use Rattle.bufr_fill.specs.Prelude.{IsDumped, AreDrafts, AreDumped, Draft, draft, DraftEntry, Ends, Subset, subset, subsets_of, HasReading}
use Rattle.bufr_fill.proofs.FieldLemmas.{octet_bits_again, octets_in-are, length-octets_in}
use Rattle.bufr_frame.specs.declared.section1.Head.{Head}
use Rattle.bufr_frame.proofs.LayoutLemmas.{three-number, message_size_is, read-back, evened-bits, size-least}
use Rattle.bufr_frame.proofs.ScanLemmas.{scan_from-here}
use Rattle.bufr_bits.proofs.BitLemmas.{length-bits_of}
use Rattle.bufr_fill.proofs.WholeLaws.{written_again}
use Rattle.bufr_text.specs.declared.encode.Form.TheVariants.{AsWritten}
use Rattle.bufr_tables.specs.declared.fault.TemplateFault.{TemplateFault}
use Rattle.bufr_text.specs.declared.fault.DocumentFault.TheVariants as fault
use Rattle.std.specs.Global.{Global}
use Rattle.bufr_frame.specs.Layout as layout
use Rattle.bufr_walk.specs.Reading as reading
use Rattle.bufr_fill.specs.Draft as fill
use Rattle.std.proofs.lemmas.Grind.{common_steps}
use Rattle.bufr_text.proofs.DumpableLemmas.{sections_given, octets_are}
use Rattle.std.specs.Int.{from_bool}

abbrev pub parts_of_document : Document → (payload : List ℕ) → MessageParts
parts_of_document d payload = parts_as (header_in d).compressed d payload

-- ---- A written message consists of octets, and is found in a stream, whatever follows it.

-- ---- Octets.

both : (a b : List ℕ) → AllByRecursion IsOctet a → AllByRecursion IsOctet b → AllByRecursion IsOctet (a ++ b)
both [] b h g = g
both (c ∷ a) b h g = (h.0, both a b h.1 g)

three_small : (n : ℕ) → n < 2 ^ 24 → AllByRecursion IsOctet (three_octets n)
three_small n h = (omega (arith, h), (omega (arith, h), (omega (arith, h), tt)))

high_small : (w : ℕ) → w < 65536 → w / 256 < 256
high_small w h = omega arith

low_small : (w : ℕ) → w % 256 < 256
low_small w = omega arith

words_small : (ws : List ℕ) → AllByRecursion IsDescriptorWord ws → AllByRecursion IsOctet (octets_of_words ws)
words_small [] h = tt
words_small (w ∷ ws) h = (high_small w h.0, (low_small w, words_small ws h.1))

flags_small : (o c : Bool) → data_flags o c < 256
flags_small o c = grind arith

evened_small : (edition prefix : ℕ) (octets : List ℕ) → AllByRecursion IsOctet octets → AllByRecursion IsOctet (with_even_length edition prefix octets)
evened_small edition prefix octets h1 = grind (arith, common_steps)

plain_small : (octets : List ℕ) → 4 + length octets < 2 ^ 24 → AllByRecursion IsOctet octets → AllByRecursion IsOctet (section4_octets octets)
plain_small octets h g = grind (arith, common_steps, both, three_small)

section2_small : (section2 : Option (List ℕ)) (n : ℕ) → n < 2 ^ 24 → length (section2_octets section2) ≤ n → AllByRecursion IsOctet (unwrap_or section2 [])
    → AllByRecursion IsOctet (section2_octets section2)
section2_small None n few h g = tt
section2_small (Some octets) n few h g = plain_small octets (omega (arith, few, h)) g

section2_least : (edition : ℕ) (p : MessageParts) → length (section2_octets p.section2) ≤ message_size edition p
section2_least edition p = omega arith

pub octets_small : (h : Head) (p : MessageParts) → IsFitting h → AllByRecursion IsOctet p.local1 → AllByRecursion IsOctet (unwrap_or p.section2 []) → AllByRecursion IsDescriptorWord p.descriptors
    → p.subsets < 65536 → AllByRecursion IsOctet p.payload → message_size h.edition p ≤ max_octets
    → AllByRecursion IsOctet (message_octets h p)
octets_small h p head local1 section2 descriptors subsets payload few =
    let e = h.edition in
    let n = message_size e p in
    let least = min_section_1 e in
    let words = octets_of_words p.descriptors in
    let third = with_even_length e 7 words in
    let fourth = with_even_length e 4 p.payload in
    let s1 = section1_octets h p.local1 (is_some p.section2) in
    let s2 = section2_octets p.section2 in
    let flags = data_flags p.observed p.compressed in
    let s3 = section3_octets third p.subsets flags in
    let s4 = section4_octets fourth in
    let end = codes "7777" in
    let edition_small : e < 256 = edition-cases e head.edition (λ is. omega (arith, is)) (λ is. omega (arith, is)) in
    both (section0_octets n e) (s1 ++ (s2 ++ (s3 ++ (s4 ++ end)))) (let t = three_small n (omega (arith, few)) in
    (omega arith, (omega arith, (omega arith, (omega arith, (t.0, (t.1.0, (t.1.1.0, (edition_small, tt)))))))))
    (both s1 (s2 ++ (s3 ++ (s4 ++ end)))
    (both (three_octets (least + length p.local1) ++ head_octets h (is_some p.section2)) p.local1
    (both (three_octets (least + length p.local1)) (head_octets h (is_some p.section2)) (three_small (least + length p.local1) (omega (arith, few))) (head-small h (is_some p.section2) head)) local1)
    (both s2 (s3 ++ (s4 ++ end)) (section2_small p.section2 n (omega (arith, few)) (section2_least e p) section2)
    (both s3 (s4 ++ end) (section3_small third p.subsets flags (omega (arith, few)) subsets (flags_small p.observed p.compressed)
    (evened_small e 7 words (words_small p.descriptors descriptors)))
    (both s4 end (plain_small fourth (omega (arith, few)) (evened_small e 4 p.payload payload)) (omega arith, (omega arith, (omega arith, (omega arith, tt))))))))
  where
    section3_small : (content : List ℕ) (subsets flags : ℕ) → 7 + length content < 2 ^ 24 → subsets < 65536 → flags < 256 → AllByRecursion IsOctet content
        → AllByRecursion IsOctet (section3_octets content subsets flags)
    section3_small content subsets flags h g f w =
        let t = three_small (7 + length content) h in
        (t.0, (t.1.0, (t.1.1.0, (omega arith, (high_small subsets g, (low_small subsets, (f, w)))))))

-- ---- The scan.

-- the shortest message
least_message : List ℕ
least_message = codes "BUFR" ++ 0 ∷ 0 ∷ 12 ∷ 4 ∷ codes "7777"

verdict_frame : (m : List ℕ) → has_word_at (codes "BUFR") 0 m ≡ true → nat_lt (length m) 8 ≡ false → nat_lt (length m) (stated_length m) ≡ false → nat_lt (stated_length m) 12 ≡ false
    → has_word_at (codes "7777") (stated_length m - 4) m ≡ true → classify m ≡ classify least_message
unfolding least_message
verdict_frame m a b c d e = rw (a, b, c, d, e) refl

at_least : (a b : ℕ) → b ≤ a → nat_lt a b ≡ false
at_least a b h = grind arith

-- a message that states its length n, followed by the octets t
module _ (m t : List ℕ) (n : ℕ) (is : stated_length (m ++ t) ≡ n) (long : length m ≡ n) where
  framed_by : (at : ℕ) → 12 ≤ n → classify (m ++ t) ≡ classify least_message → scan_from 0 at (m ++ t) ≡ FrameAt at m ∷ scan_from 0 (at + length m) t
  unfolding least_message
  framed_by at least frame = search (rules, length-append, scan_from-here, take_at, drop_at)

ends_with : (prefix t : List ℕ) (k : ℕ) → length prefix ≡ k → has_word_at (codes "7777") k ((prefix ++ codes "7777") ++ t) ≡ true
ends_with prefix t k h1 = grind (arith, common_steps)

pub framed : (h : Head) (p : MessageParts) (at : ℕ) (t : List ℕ) → length (message_octets h p) ≡ message_size h.edition p
    → scan_from 0 at (message_octets h p ++ t) ≡ FrameAt at (message_octets h p) ∷ scan_from 0 (at + length (message_octets h p)) t
framed h p at t long =
    let n = message_size h.edition p in
    let m = message_octets h p in
    let s0 = section0_octets n h.edition in
    let s1 = section1_octets h p.local1 (is_some p.section2) in
    let s2 = section2_octets p.section2 in
    let s3 = section3_octets (with_even_length h.edition 7 (octets_of_words p.descriptors)) p.subsets (data_flags p.observed p.compressed) in
    let s4 = section4_octets (with_even_length h.edition 4 p.payload) in
    let end = codes "7777" in
    let prefix = s0 ++ (s1 ++ (s2 ++ (s3 ++ s4))) in
    let split : m ≡ prefix ++ end =
    ap (λ x. s0 ++ (s1 ++ (s2 ++ x))) (sym (append_assoc s3 s4 end)) ∙ ap (λ x. s0 ++ (s1 ++ x)) (sym (append_assoc s2 (s3 ++ s4) end))
    ∙ ap (λ x. s0 ++ x) (sym (append_assoc s1 (s2 ++ (s3 ++ s4)) end)) ∙ sym (append_assoc s0 (s1 ++ (s2 ++ (s3 ++ s4))) end) in
    let is : stated_length (m ++ t) ≡ n = three-number n in
    let at_end : length prefix ≡ n - 4 = omega (arith, long, ap length split, length-append prefix end) in
    let whole : length (m ++ t) ≡ n + length t = length-append m t ∙ ap (λ k. k + length t) long in
    let last : has_word_at end (stated_length (m ++ t) - 4) (m ++ t) ≡ true =
    ap (λ k. has_word_at end (k - 4) (m ++ t)) is ∙ ap (λ x. has_word_at end (n - 4) (x ++ t)) split ∙ ends_with prefix t (n - 4) at_end in
    framed_by m t n is long at (omega arith) (verdict_frame (m ++ t) refl
    (at_least (length (m ++ t)) 8 (omega (arith, whole)))
    (at_least (length (m ++ t)) (stated_length (m ++ t)) (omega (arith, whole, is)))
    (at_least (stated_length (m ++ t)) 12 (omega (arith, is))) last)

-- ---- The dump text.

text_same : (a b : Sections) (items items' : List (List View)) → SaySame AsWritten a b → items' ≡ items → dump_text_of b items' ≡ dump_text_of a items
text_same a b items items' h1 h2 = grind (arith, common_steps)

pub same_text : (table : List Row) (m : List ℕ) (s : Sections) (template : Tree) (values : Values) (octets : List ℕ) → (h : HasSameReading table m s template values octets)
    → dump_text_of h.sections (dump_items table h.sections.subsets values) ≡ dump_text_of s (dump_items table s.subsets values)
same_text table m s template values octets h = search (rules, text_same)

-- ---- The drafts of a dump.

abbrev drafts_from : (at : ℕ) → List View → List Draft
drafts_from at [] = []
drafts_from at (item ∷ more) = draft at item.fxy (dump_value_of item.value) ∷ drafts_from (at + 1) more

items_drafted : (at line : ℕ) (items : List View) (more : List DraftEntry) → subsets_of (item_entries at items ++ (Ends line ∷ more)) ≡ subset (drafts_from at items) line ∷ subsets_of more
unfolding item_entries
items_drafted at line [] more = refl
items_drafted at line (item ∷ items) more = cc (items_drafted (at + 1) line items more)

pub same_form : (spec : FieldSpec) (c : Content) → dump_value_of (shown spec c) ≡ fill.draft_value_of spec c
same_form spec c = grind arith

apart_drafted : (table : List Row) (at : ℕ) (items : List (reading.Item Content)) → AreDrafts IsDumped items (drafts_from at (items_shown table items))
apart_drafted table at [] = tt
apart_drafted table at (i ∷ items) = ((refl, same_form i.spec i.content), apart_drafted table (at + 1) items)

pub all_apart : (table : List Row) (at : ℕ) (subsets : List (List (reading.Item Content))) → AreDumped subsets (subsets_of (subset_entries at (map (items_shown table) subsets)))
unfolding subset_entries
all_apart table at [] = tt
all_apart table at (items ∷ subsets) =
    let here = items_shown table items in
    let line = at + 1 + length here in
    subst (AreDumped (items ∷ subsets)) (sym (items_drafted (at + 1) line here (subset_entries line (map (items_shown table) subsets))))
    (apart_drafted table (at + 1) items, all_apart table line subsets)

-- ---- The octets of the data.

pub padded : (bits : List Bool) → length (bits ++ padding (length bits)) ≡ 8 * ((length bits + 7) / 8)
padded bits = omega (arith, length-append bits (padding (length bits)), length-replicate ((8 - length bits % 8) % 8) false)

pub payload_bits : (bits : List Bool) → bits_of (octets_of_bits bits) ≡ bits ++ padding (length bits)
payload_bits bits = omega (arith, octet_bits_again, padded)

-- ---- The encoding of a document.

within : (a b : ℕ) → a ≤ b → nat_lt b a ≡ false
within a b h = grind arith

pub encoded_to : (table : List Row) (sequences : List Sequence) (d : Document) (template : Tree) (bits : List Bool)
    → tree_of (tables_of table sequences) d.descriptors ≡ Ok template → data_bits (header_in d).compressed (next_item table template) (subsets_of d.entries) ≡ Ok bits
    → message_size (header_in d).head.edition (parts_of_document d (octets_of_bits bits)) ≤ max_octets
    → encoding_of table sequences d ≡ Ok (message_octets (header_in d).head (parts_of_document d (octets_of_bits bits)))
unfolding encoding_in
encoded_to table sequences d template bits h1 h2 h3 = grind arith

-- ---- The values in the document of a message.

pub bit_back : (b : Bool) → (from_bool b == 1) ≡ b
bit_back true = refl
bit_back false = refl

pub section2_back : (section2 : Option (List ℕ)) → (if from_bool (is_some section2) == 1 then Some (unwrap_or section2 []) else None) ≡ section2
section2_back None = refl
section2_back (Some octets) = refl

unfoldable pub parts_with : Sections → List ℕ → MessageParts
parts_with s payload = parts_of s.local1 s.section2 s.descriptors s.subsets s.observed s.compressed payload

pub parts_back : (at : ℕ) (s : Sections) (items : List (List View)) (payload : List ℕ) → parts_of_document (document_of at s items) payload ≡ parts_with s payload
unfolding parts_with
parts_back at s items payload = search (rules, section2_back, bit_back)

pub size_least : (s : Sections) (payload : List ℕ) (n : ℕ) → length payload ≤ length s.payload → message_size s.head.edition (layout.parts_in s) ≤ n
    → message_size s.head.edition (parts_with s payload) ≤ n
unfolding parts_with
size_least s payload n h g =
    let e = s.head.edition in
    let made = message_size_is e (parts_with s payload) in
    let least = message_size_is e (layout.parts_in s) in
    omega (arith, made, size-least e (length s.local1) s.section2 (length s.descriptors) (length payload) (length s.payload) n h (omega (arith, least, g)))

pub size_is : (m : List ℕ) (s : Sections) → sections_of m ≡ Ok s → s.size ≡ length m
size_is m s e = cc ((sections-ended m s e).is)

-- the bits that are written for a message's values; reading these bits gives the same values
pub record IsFilled (table : List Row) (template : Tree) (s : Sections) (values : Values) (entries : List DraftEntry) : Type 0 where
  pub out : List Bool
  pub fills : data_bits s.compressed (next_item table template) (subsets_of entries) ≡ Ok out
  pub short : length out ≤ length (bits_of s.payload)
  pub read : (octets : List ℕ) (tail : List Bool) → bits_of octets ≡ out ++ tail
      → HasReading (next_item table template) (record { compressed = s.compressed; subsets = s.subsets; bits = bits_of octets }) values (length out)

pub enough : (out octets : List Bool) (bits : List Bool) → bits ≡ out ++ octets → length out ≤ length bits
enough out octets bits e = omega (arith, ap length e, length-append out octets)

pub suffix : (out more bits : List Bool) → bits ≡ out ++ more → drop (length out) bits ≡ more
suffix out more bits e = rw (e, drop_at)

pub fills_as : (b c : Bool) (course : Course) (drafts : List Subset) (out : List Bool) → b ≡ c → data_bits c course drafts ≡ Ok out → data_bits b course drafts ≡ Ok out
fills_as b c course drafts out e h = rw (e, h)

-- Octets that begin with these bits are read as the same values.
pub reads_octets : (course : Course) (compressed : Bool) (n : ℕ) (values : Values) (out : List Bool)
    → ((more : List Bool) → HasReading course (record { compressed = compressed; subsets = n; bits = out ++ more }) values (length out))
    → (octets : List ℕ) (more : List Bool) → bits_of octets ≡ out ++ more → HasReading course (record { compressed = compressed; subsets = n; bits = bits_of octets }) values (length out)
reads_octets course compressed n values out again octets more e =
    rw e (again more)

-- The drafts of a dump are those of the items.
pub all_dumped : (table : List Row) (at n : ℕ) (values : Values) → AreDumped (each_subset n values) (subsets_of (subset_entries at (dump_items table n values)))
all_dumped table at n (apart subsets) = all_apart table at subsets
all_dumped table at n (together items) = all_apart table at (subsets_from n 0 items)

pub filled : (table : List Row) (template : Tree) (s : Sections) (values : Values) (used at : ℕ) → AreRead table → IsLegal template
    → HasReading (next_item table template) (data_of s) values used → IsFilled table template s values (subset_entries at (dump_items table s.subsets values))
filled table template s values used at rows legal read =
    let w = written_again table template rows legal (data_of s) values used (subsets_of (subset_entries at (dump_items table s.subsets values))) read (all_dumped table at s.subsets values) in
    grind (arith, common_steps, w.1, read.within)

-- ---- The whole message.

-- A message that is written again grows only if an odd section is made even.
at-most-even : (m : List ℕ) (s : Sections) → sections_of m ≡ Ok s → message_size s.head.edition (parts_in s) ≤ length m + extra_octets m
at-most-even m s is = by (edition_of m == 3) (u24_at m (section3_begins m) % 2 == 1) (u24_at m (section4_begins m) % 2 == 1) refl refl refl
  where
    edition : s.head.edition ≡ edition_of m
    edition = ap (λ (x : Sections). x.head.edition) (sections-ended m s is).is

    two : (edition_of m == 3) ≡ true → message_size s.head.edition (parts_in s) ≤ length m + 2
    two f =
        let most : max_extra_octets s.head.edition ≡ 2 = ap max_extra_octets edition ∙ ap (λ x. if x then 2 else 0) f in
        omega (arith, no-longer m s is, most)

    by : (a b c : Bool) → (edition_of m == 3) ≡ a → (u24_at m (section3_begins m) % 2 == 1) ≡ b → (u24_at m (section4_begins m) % 2 == 1) ≡ c
        → message_size s.head.edition (parts_in s) ≤ length m + (if a && (b || c) then 2 else 0)
    by false b c f g h =
        let none : max_extra_octets s.head.edition ≡ 0 = ap max_extra_octets edition ∙ ap (λ x. if x then 2 else 0) f in
        omega (arith, no-longer m s is, none)
    by true false false f g h =
        let third : u24_at m (section3_begins m) % 2 ≢ 1 = grind arith in
        let fourth : u24_at m (section4_begins m) % 2 ≢ 1 = grind (arith, nat_tests, h) in
        let three : edition_of m ≡ 3 = grind (arith, nat_tests, f) in
        omega (arith, least-when-even m s is three (omega (arith, third)) (omega (arith, fourth)))
    by true true c f g h = two f
    by true false true f g h = two f

-- A message that is built from these parts consists of octets, is found in a stream, and has these
-- data bits.
pub record IsMessageOf (h : Head) (p : MessageParts) (out : List Bool) : Type 0 where
  pub octets : AllByRecursion IsOctet (message_octets h p)
  pub framed : (at : ℕ) (suffix : List ℕ) → scan_from 0 at (message_octets h p ++ suffix) ≡ FrameAt at (message_octets h p) ∷ scan_from 0 (at + length (message_octets h p)) suffix
  pub are : sections_of (message_octets h p) ≡ Ok (sections_from h p)
  pub long : length (message_octets h p) ≡ message_size h.edition p
  pub tail : List Bool
  pub bits : bits_of (with_even_length h.edition 4 (octets_of_bits out)) ≡ out ++ tail

pub is_message : (h : Head) (p : MessageParts) (out : List Bool) → IsFitting h → AllByRecursion IsOctet p.local1 → AllByRecursion IsOctet (unwrap_or p.section2 [])
    → AllByRecursion IsDescriptorWord p.descriptors → p.subsets < 65536 → p.payload ≡ octets_of_bits out → message_size h.edition p ≤ max_octets → IsMessageOf h p out
is_message h p out fits local1 section2 descriptors subsets payload few =
    let back = read-back h p (fitting-writable h fits) in
    let long : length (message_octets h p) ≡ message_size h.edition p = omega (arith, size_is) in
    let even = evened-bits h.edition 4 (octets_of_bits out) in
    record {
      octets = octets_small h p fits local1 section2 descriptors subsets
          (subst (AllByRecursion IsOctet) (sym payload) (octets_are (octets_of_bits out) (octets_in-are ((length out + 7) / 8) (out ++ padding (length out)) (padded out)))) few;
      framed = λ at suffix. framed h p at suffix long;
      are = back;
      long = long;
      tail = padding (length out) ++ even.0;
      bits = even.1 ∙ ap (λ (b : List Bool). b ++ even.0) (payload_bits out) ∙ append_assoc out (padding (length out)) even.0;
    }

pub encoded_again : (table : List Row) (sequences : List Sequence) (m : List ℕ) (s : Sections) (template : Tree) (values : Values) (used at : ℕ) → AreRead table → IsLegal template
    → IsAccepted table sequences m s template values used → IsEncodedAgain table sequences m s template values (document_of at s (dump_items table s.subsets values))
unfolding parts_with
encoded_again table sequences m s template values used at rows legal a =
    let items = dump_items table s.subsets values in
    let d = document_of at s items in
    let f = filled table template s values used (at + lines_before s) rows legal a.read in
    let payload = octets_of_bits f.out in
    let parts = parts_with s payload in
    let same = parts_back at s items payload in
    let edition = s.head.edition in
    let short : length payload ≤ length s.payload = omega (arith, f.short, length-bits_of s.payload, length-octets_in ((length f.out + 7) / 8) (f.out ++ padding (length f.out))) in
    let least : message_size edition parts ≤ length m + extra_octets m = size_least s payload (length m + extra_octets m) short (at-most-even m s a.sections) in
    let most : message_size edition parts ≤ max_octets = size_least s payload max_octets short (not-too-long m s a.sections a.few) in
    let few : message_size edition (parts_of_document d payload) ≤ max_octets = grind (arith, common_steps) in
    let fills : data_bits (header_in d).compressed (next_item table template) (subsets_of d.entries) ≡ Ok f.out =
    fills_as (header_in d).compressed s.compressed (next_item table template) (subsets_of d.entries) f.out (bit_back s.compressed) f.fills in
    let given = sections_given m s a.octets a.sections in
    let w = is_message s.head parts f.out given.head given.local1 given.section2 given.descriptors given.few refl most in
    record {
      octets = message_octets s.head parts;
      is = encoded_to table sequences d template f.out a.expands fills few ∙ ap (λ (p : MessageParts). Ok (message_octets s.head p)) same;
      same = record {
        no_longer = omega (arith, least, w.long);
        few = omega (arith, most, w.long);
        octets = w.octets;
        framed = w.framed;
        sections = sections_from s.head parts;
        are = w.are;
        same = record { head = refl; local1 = refl; section2 = refl; descriptors = refl; subsets = refl; observed = refl; compressed = refl };
        used = length f.out;
        read = f.read (with_even_length edition 4 payload) w.tail w.bits;
      };
    }

pub accepted_again : (table : List Row) (sequences : List Sequence) (m : List ℕ) (s : Sections) (template : Tree) (values : Values) (used : ℕ) (octets : List ℕ)
    → IsAccepted table sequences m s template values used → (again : HasSameReading table m s template values octets) → IsAccepted table sequences octets again.sections template values again.used
accepted_again table sequences m s template values used octets h1 again = grind arith

-- ---- The encoding of a document from its parts.

pub if_ok_so : {A B : Type 0} {P Q : A → Type 0} (r : Result A B) → IfOk r P → ((x : A) → P x → Q x) → IfOk r Q
if_ok_so (Ok x) h f = f x h
if_ok_so (Err e) h f = h

pub if_err_so : {A B : Type 0} {P Q : B → Type 0} (r : Result A B) → IfErr r P → ((x : B) → P x → Q x) → IfErr r Q
if_err_so (Ok x) h f = h
if_err_so (Err e) h f = f e h

module _ (form : Form) (table : List Row) (sequences : List Sequence) (d : Document) where
  -- If its template and data have no fault, a document is encoded to the message of its data bits,
  -- unless this message is too long.
  pub as_written : (template : Tree) (bits : List Bool) (payload : List ℕ) → tree_of (tables_of table sequences) d.descriptors ≡ Ok template
      → data_bits (compressed_as form d) (next_item table template) (subsets_of d.entries) ≡ Ok bits → payload ≡ octets_of_bits bits
      → encoding_in form table sequences d ≡ message_of d.line (header_in d).head (parts_as (compressed_as form d) d payload)
  unfolding encoding_in
  as_written template bits payload e f p = cc (e)

  pub whole : (n : ℕ) (template : Tree) (payload octets : List ℕ) (steps : ℕ) → tree_of (tables_of table sequences) d.descriptors ≡ Ok template
      → (h : IsData n (compressed_as form d) (counted_item table template) (subsets_of d.entries) payload steps) → ((bits : List Bool) → AreOctetsOf payload bits → payload ≡ octets_of_bits bits)
      → message_of d.line (header_in d).head (parts_as (compressed_as form d) d payload) ≡ Ok octets → encoding_in form table sequences d ≡ Ok octets
  whole n template payload octets steps e h p m = as_written template h.out payload e h.is (p h.out h.octets_are) ∙ m

  pub not_whole : (n : ℕ) (template : Tree) (payload : List ℕ) (steps : ℕ) (o : DocumentFault) → tree_of (tables_of table sequences) d.descriptors ≡ Ok template
      → (h : IsData n (compressed_as form d) (counted_item table template) (subsets_of d.entries) payload steps) → ((bits : List Bool) → AreOctetsOf payload bits → payload ≡ octets_of_bits bits)
      → IsDocumentRefusal o (message_of d.line (header_in d).head (parts_as (compressed_as form d) d payload)) → IsDocumentRefusal o (encoding_in form table sequences d)
  not_whole n template payload steps o e h p m = rw (as_written template h.out payload e h.is (p h.out h.octets_are)) m

  pub data_refused : (template : Tree) (why : DocumentFault) → tree_of (tables_of table sequences) d.descriptors ≡ Ok template
      → map_err document_fault (data_bits (compressed_as form d) (next_item table template) (subsets_of d.entries)) ≡ Err why → encoding_in form table sequences d ≡ Err why
  unfolding encoding_in
  data_refused template why e h = rw (e, h)

  pub no_data : (template : Tree) (o : DocumentFault) → tree_of (tables_of table sequences) d.descriptors ≡ Ok template
      → IsDocumentRefusal o (map_err document_fault (data_bits (compressed_as form d) (next_item table template) (subsets_of d.entries))) → IsDocumentRefusal o (encoding_in form table sequences d)
  no_data template o e (inl out) = inl out
  no_data template o e (inr h) = inr (data_refused template o e h)

  pub no_template : (o : DocumentFault) → IsDocumentRefusal o (map_err (fault.Template d.line) (tree_of (tables_of table sequences) d.descriptors))
      → IsDocumentRefusal o (encoding_in form table sequences d)
  unfolding encoding_in
  no_template o h_is_document_refusal = grind arith

  -- A document whose data cannot be written is rejected.
  pub refused_form : (made : Result Tree TemplateFault) (why : DocumentFault) (steps : ℕ) → tree_of (tables_of table sequences) d.descriptors ≡ made → WritesForm form table d made (Err why) steps
      → IsDocumentRefusal why (encoding_in form table sequences d)
  refused_form (Ok template) why steps e h = no_data template why e h.refuses
  refused_form (Err why) w steps e h =
      let R : DocumentFault → Type 0 = λ w. IsDocumentRefusal w (encoding_in form table sequences d) in
      subst R (sym (same_fault w (fault.Template d.line why) h.0)) (no_template (fault.Template d.line why) (inr (ap (map_err (fault.Template d.line)) e)))
    where
      same_fault : (a b : DocumentFault) → ◌≡◌ {A = Result (Vec ℕ Global) DocumentFault} (Err a) (Err b) → a ≡ b
      same_fault a b e = cc

  -- The data of the document were written as these octets.
  pub record IsWrittenForm (octets : List ℕ) (steps : ℕ) : Type 0 where
    pub template : Tree
    pub is : tree_of (tables_of table sequences) d.descriptors ≡ Ok template
    pub written : IsData (places template) (compressed_as form d) (counted_item table template) (subsets_of d.entries) octets steps

  pub written_form : (made : Result Tree TemplateFault) (octets : Vec ℕ Global) (steps : ℕ) → tree_of (tables_of table sequences) d.descriptors ≡ made → WritesForm form table d made (Ok octets) steps
      → IsWrittenForm octets.items steps
  written_form (Ok template) octets steps e h = record { template = template; is = e; written = h }
  written_form (Err why) octets steps e h = absurd (cc h.0)
