-- Worked examples of documents and the messages that they are encoded to.
use Rattle.std.proofs.Common.{◌≡◌, ℕ, List, [], ◌∷◌, ◌++◌, replicate, Result, Ok, Err, refl, codes, ℤ, pos}
use Rattle.bufr_frame.specs.Prelude.{min_section_1}
use Rattle.bufr_bits.specs.Prelude.{bits_of, bits_in, decimal_value_of}
use Rattle.bufr_tables.specs.declared.table_b.Kind.{Kind}
use Rattle.bufr_tables.specs.Prelude.{part_of, level, inner_of, tree_of, Row}
use Rattle.bufr_walk.specs.Prelude.{next_item}
use Rattle.bufr_fill.specs.Prelude.{draft, number_token, text_form, missing_form, DraftEntry, Holds, Ends, reference_token, item_too_many, walk_refused}
use Rattle.bufr_fill.specs.declared.fault.Expected.TheVariants as expected
use Rattle.bufr_fill.specs.declared.fault.ItemFault.TheVariants as wrong
use Rattle.bufr_text.specs.declared.fault.DocumentFault.TheVariants as fault
use Rattle.bufr_text.specs.Prelude.{Document, DocumentFault, encoding_in, encoding_of, turns_by, Form}
use Rattle.bufr_text.specs.declared.encode.Form.TheVariants.{AsWritten, Plain, Compressed}
use Rattle.bufr_tables.specs.declared.table_b.Kind.TheVariants as kind
use Rattle.bufr_tables.specs.declared.fault.TemplateFault.TheVariants as template
use Rattle.bufr_walk.specs.declared.spec.TurnRefusal.TheVariants as walk

unfoldable pub listed : (fxy : ℕ) → Kind → (scale reference : ℤ) → (width : ℕ) → Row
listed fxy k s r w = record { fxy = fxy; name = []; unit = []; kind = k; scale = s; reference = r; width = w }

-- a table with a block number, a name, a temperature and a factor
unfoldable pub table : List Row
table = listed 0x0101 kind.Numeric (pos 0) (pos 0) 7 ∷ listed 0x010F kind.Character (pos 0) (pos 0) 160 ∷ listed 0x0C65 kind.Numeric (pos 2) (pos 0) 16 ∷ listed 0x1F01 kind.Numeric (pos 0) (pos 0) 8
    ∷ []

-- a document that begins on line 1, with observed data and no octets for local use
unfoldable pub document : (compressed subsets : ℕ) → List ℕ → List DraftEntry → Document
document compressed subsets descriptors entries = record {
  line = 1;
  header = 4 ∷ 0 ∷ 98 ∷ 0 ∷ 0 ∷ 0 ∷ 0 ∷ 0 ∷ 14 ∷ 0 ∷ 2024 ∷ 1 ∷ 2 ∷ 3 ∷ 4 ∷ 5 ∷ 1 ∷ compressed ∷ 0 ∷ subsets ∷ [];
  local1 = [];
  section2 = [];
  descriptors = descriptors;
  entries = entries;
}

unfoldable pub number : (line fxy : ℕ) → List ℕ → DraftEntry
number line fxy digits = Holds (draft line fxy (number_token digits))

unfoldable pub missing : (line fxy : ℕ) → DraftEntry
missing line fxy = Holds (draft line fxy missing_form)

text : (line fxy : ℕ) → List ℕ → DraftEntry
text line fxy octets = Holds (draft line fxy (text_form octets))

encoded : Document → Result (List ℕ) DocumentFault
encoded d = encoding_of table [] d

-- the edition 4 message of this size, with these octets as sections 3 and 4
message : (size : ℕ) → List ℕ → Result (List ℕ) DocumentFault
message size sections = Ok (codes "BUFR" ++ 0 ∷ 0 ∷ size ∷ 4
    ∷ 0 ∷ 0 ∷ 0x16 ∷ 0 ∷ 0 ∷ 0x62 ∷ 0 ∷ 0 ∷ 0 ∷ 0 ∷ 0 ∷ 0 ∷ 0 ∷ 0x0E ∷ 0 ∷ 0x07 ∷ 0xE8 ∷ 1 ∷ 2 ∷ 3 ∷ 4 ∷ 5
    ∷ sections ++ codes "7777")

-- rule: writes-section-4, writes-local-use, fault-56, fault-56-first-60-last, writes-even-sections
documents_encoded :
    (encoded (document 0 1 (0x0101 ∷ []) (number 24 0x0101 (codes "10") ∷ Ends 25 ∷ []))
    ≡ message 48 (0 ∷ 0 ∷ 9 ∷ 0 ∷ 0 ∷ 1 ∷ 0x80 ∷ 1 ∷ 1 ∷ 0 ∷ 0 ∷ 5 ∷ 0 ∷ 0x14 ∷ []))
    × (encoded (document 0 1 (0x4100 ∷ 0x1F01 ∷ 0x0101 ∷ []) (number 24 0x1F01 (codes "2") ∷ number 25 0x0101 (codes "10") ∷ number 26 0x0101 (codes "11") ∷ Ends 27 ∷ []))
    ≡ message 54 (0 ∷ 0 ∷ 0x0D ∷ 0 ∷ 0 ∷ 1 ∷ 0x80 ∷ 0x41 ∷ 0 ∷ 0x1F ∷ 1 ∷ 1 ∷ 1 ∷ 0 ∷ 0 ∷ 7 ∷ 0 ∷ 2 ∷ 0x14 ∷ 0x2C ∷ []))
    × (encoded (document 1 2 (0x0C65 ∷ []) (number 24 0x0C65 (codes "288.15") ∷ Ends 25 ∷ missing 26 0x0C65 ∷ Ends 27 ∷ []))
    ≡ message 50 (0 ∷ 0 ∷ 9 ∷ 0 ∷ 0 ∷ 2 ∷ 0xC0 ∷ 0x0C ∷ 0x65 ∷ 0 ∷ 0 ∷ 7 ∷ 0 ∷ 0x70 ∷ 0x8F ∷ 5 ∷ []))
    -- If there are no subsets, the template is still checked.
    × (encoded (document 0 0 (0x0101 ∷ []) []) ≡ message 47 (0 ∷ 0 ∷ 9 ∷ 0 ∷ 0 ∷ 0 ∷ 0x80 ∷ 1 ∷ 1 ∷ 0 ∷ 0 ∷ 4 ∷ 0 ∷ []))
    × (encoded (document 0 0 (0x0102 ∷ []) []) ≡ Err (fault.Template 1 (template.UnknownElement 0x0102)))
    × (encoded (record {
      line = 1;
      header = 4 ∷ 0 ∷ 98 ∷ 0 ∷ 0 ∷ 0 ∷ 0 ∷ 0 ∷ 14 ∷ 0 ∷ 2024 ∷ 1 ∷ 2 ∷ 3 ∷ 4 ∷ 5 ∷ 1 ∷ 0 ∷ 1 ∷ 1 ∷ [];
      local1 = 0xAB ∷ 0xCD ∷ [];
      section2 = 1 ∷ 2 ∷ [];
      descriptors = 0x0101 ∷ [];
      entries = number 26 0x0101 (codes "10") ∷ Ends 27 ∷ [];
    })
    ≡ Ok (codes "BUFR" ++ 0 ∷ 0 ∷ 56 ∷ 4 ∷ 0 ∷ 0 ∷ 0x18 ∷ 0 ∷ 0 ∷ 0x62 ∷ 0 ∷ 0 ∷ 0 ∷ 0x80 ∷ 0 ∷ 0 ∷ 0 ∷ 0x0E ∷ 0 ∷ 0x07 ∷ 0xE8 ∷ 1 ∷ 2 ∷ 3 ∷ 4 ∷ 5 ∷ 0xAB ∷ 0xCD
    ∷ 0 ∷ 0 ∷ 6 ∷ 0 ∷ 1 ∷ 2 ∷ 0 ∷ 0 ∷ 9 ∷ 0 ∷ 0 ∷ 1 ∷ 0x80 ∷ 1 ∷ 1 ∷ 0 ∷ 0 ∷ 5 ∷ 0 ∷ 0x14 ∷ codes "7777"))
    -- the greatest number of an element, and numbers that the element cannot represent
    × (encoded (document 0 1 (0x0C65 ∷ []) (number 24 0x0C65 (codes "655.34") ∷ Ends 25 ∷ []))
    ≡ message 49 (0 ∷ 0 ∷ 9 ∷ 0 ∷ 0 ∷ 1 ∷ 0x80 ∷ 0x0C ∷ 0x65 ∷ 0 ∷ 0 ∷ 6 ∷ 0 ∷ 0xFF ∷ 0xFE ∷ []))
    × (encoded (document 0 1 (0x0C65 ∷ []) (number 24 0x0C65 (codes "655.35") ∷ Ends 25 ∷ [])) ≡ Err (fault.Item 24 wrong.OutOfRange))
    × (encoded (document 0 1 (0x0C65 ∷ []) (number 24 0x0C65 (codes "288.155") ∷ Ends 25 ∷ [])) ≡ Err (fault.Item 24 wrong.Number))
    -- items that do not match the template
    × (encoded (document 0 1 (0x0101 ∷ []) (number 24 0x0C65 (codes "5") ∷ Ends 25 ∷ [])) ≡ Err (fault.Item 24 ((wrong.WrongDescriptor (expected.Item 0x0101)))))
    × (encoded (document 0 1 (0x0101 ∷ []) (Ends 24 ∷ [])) ≡ Err (fault.Item 24 ((wrong.WrongDescriptor (expected.Item 0x0101)))))
    × (encoded (document 0 1 (0x0101 ∷ []) (number 24 0x0101 (codes "10") ∷ number 25 0x0101 (codes "10") ∷ Ends 26 ∷ [])) ≡ Err (fault.Item 25 item_too_many))
    × (encoded (document 0 1 (0x4100 ∷ 0x1F01 ∷ 0x0101 ∷ []) (missing 24 0x1F01 ∷ Ends 25 ∷ [])) ≡ Err (fault.Item 24 wrong.MissingForbidden))
    × (encoded (document 0 1 (0x010F ∷ []) (text 24 0x010F (replicate 21 65) ∷ Ends 25 ∷ [])) ≡ Err (fault.Item 24 wrong.TextLong))
    -- items that compressed data cannot represent
    × (encoded (document 1 2 (0x4100 ∷ 0x1F01 ∷ 0x0101 ∷ []) (number 24 0x1F01 (codes "1") ∷ number 25 0x0101 (codes "10") ∷ Ends 26 ∷ number 27 0x1F01 (codes "2") ∷ number 28 0x0101 (codes "10")
    ∷ number 29 0x0101 (codes "11") ∷ Ends 30 ∷ []))
    ≡ Err (fault.Item 27 wrong.UnequalFactor))
    × (encoded (document 1 2 (0x8540 ∷ []) (text 24 0x8540 (replicate 64 65) ∷ Ends 25 ∷ text 26 0x8540 (replicate 63 65 ++ 66 ∷ []) ∷ Ends 27 ∷ [])) ≡ Err (fault.Item 24 wrong.Increment))
    -- faults in the template, and in the walk over it
    × (encoded (document 0 1 (0x8100 ∷ []) (Ends 24 ∷ [])) ≡ Err (fault.Template 1 (template.EmptyGroup 0x8100)))
    × (encoded (document 0 1 (0x8179 ∷ 0x0101 ∷ []) (number 24 0x0101 (codes "0") ∷ Ends 25 ∷ [])) ≡ Err (fault.Item 24 ((walk_refused (walk.Width 0x0101)))))
    -- A fault in the template is reported before a fault in the items.
    × (encoded (document 0 1 (0x0101 ∷ 0x0102 ∷ []) (number 24 0x0C65 (codes "5") ∷ Ends 25 ∷ [])) ≡ Err (fault.Template 1 (template.UnknownElement 0x0102)))
    -- edition 3: with one octet for local use, section 1 is even; an octet is added to sections 3
    -- and 4
    × (encoded (record {
      line = 1;
      header = 3 ∷ 0 ∷ 98 ∷ 0 ∷ 0 ∷ 0 ∷ 0 ∷ 0 ∷ 14 ∷ 0 ∷ 24 ∷ 1 ∷ 2 ∷ 3 ∷ 4 ∷ 0 ∷ 1 ∷ 0 ∷ 0 ∷ 1 ∷ [];
      local1 = 0 ∷ [];
      section2 = [];
      descriptors = 0x0101 ∷ [];
      entries = number 25 0x0101 (codes "10") ∷ Ends 26 ∷ [];
    })
    ≡ Ok (codes "BUFR" ++ 0 ∷ 0 ∷ 0x2E ∷ 3 ∷ 0 ∷ 0 ∷ 0x12 ∷ 0 ∷ 0 ∷ 0x62 ∷ 0 ∷ 0 ∷ 0 ∷ 0 ∷ 0x0E ∷ 0 ∷ 0x18 ∷ 1 ∷ 2 ∷ 3 ∷ 4 ∷ 0
    ∷ 0 ∷ 0 ∷ 0x0A ∷ 0 ∷ 0 ∷ 1 ∷ 0x80 ∷ 1 ∷ 1 ∷ 0 ∷ 0 ∷ 0 ∷ 6 ∷ 0 ∷ 0x14 ∷ 0 ∷ codes "7777"))
unfolding listed table document number encoded message encoding_in tree_of level part_of inner_of next_item decimal_value_of bits_in bits_of missing text min_section_1
documents_encoded = (refl, refl, refl, refl, refl, refl, refl, refl, refl, refl, refl, refl, refl, refl, refl, refl, refl, refl, refl, refl)

-- ---- The number of turns in the encoding of a document, computed from the definitions.

turns : Document → ℕ
turns d = turns_by AsWritten table [] d

block : (line : ℕ) → List ℕ → DraftEntry
block line digits = number line 0x0101 digits

factor : (line : ℕ) → List ℕ → DraftEntry
factor line digits = number line 0x1F01 digits

turns_made :
    -- an element and the end of the template: fails if the end is not a turn
    (turns (document 0 1 (0x0101 ∷ []) (block 24 (codes "10") ∷ Ends 25 ∷ [])) ≡ 2)
    -- a group, its factor, two passes with an element and an end each, and the end of the template:
    -- fails if the ends of passes are not turns
    × (turns (document 0 1 (0x4100 ∷ 0x1F01 ∷ 0x0101 ∷ []) (factor 24 (codes "2") ∷ block 25 (codes "10") ∷ block 26 (codes "11") ∷ Ends 27 ∷ [])) ≡ 7)
    -- a group in a group, with one pass and then with two: fails if one count is used for all
    -- passes
    × (turns (document 0 1 (0x4300 ∷ 0x1F01 ∷ 0x4100 ∷ 0x1F01 ∷ 0x0101 ∷ [])
    (factor 24 (codes "2") ∷ factor 25 (codes "1") ∷ block 26 (codes "10") ∷ factor 27 (codes "2") ∷ block 28 (codes "11") ∷ block 29 (codes "12") ∷ Ends 30 ∷ [])) ≡ 15)
    -- an operator, and a field that a walk rejects, with or without an item: fails if one of them
    -- is not a turn
    × (turns (document 0 1 (0x8179 ∷ 0x0101 ∷ []) (block 24 (codes "0") ∷ Ends 25 ∷ [])) ≡ 2)
    × (turns (document 0 1 (0x8179 ∷ 0x0101 ∷ []) (Ends 24 ∷ [])) ≡ 2)
    -- an item that is rejected, whose turn is the last: fails if any of the template or the items
    -- after it counts
    × (turns (document 0 1 (0x4100 ∷ 0x1F01 ∷ 0x0101 ∷ []) (factor 24 (codes "3") ∷ block 25 (codes "10") ∷ block 26 (codes "1000") ∷ block 27 (codes "12") ∷ Ends 28 ∷ [])) ≡ 5)
    × (turns (document 0 1 (0x4100 ∷ 0x1F01 ∷ 0x0101 ∷ []) (factor 24 (codes "3") ∷ block 25 (codes "10") ∷ Ends 26 ∷ [])) ≡ 5)
    × (turns (document 0 1 (0x4100 ∷ 0x1F01 ∷ 0x0101 ∷ []) (missing 24 0x1F01 ∷ Ends 25 ∷ [])) ≡ 2)
    × (turns (document 0 1 (0x0101 ∷ 0x0101 ∷ []) (number 24 0x0C65 (codes "5") ∷ block 25 (codes "5") ∷ Ends 26 ∷ [])) ≡ 1)
    -- An item beyond the last one is rejected after the end of the template.
    × (turns (document 0 1 (0x0101 ∷ []) (block 24 (codes "10") ∷ block 25 (codes "10") ∷ Ends 26 ∷ [])) ≡ 2)
    -- a pass for each subset: fails if the turns of the first subset count again in the second, or
    -- if subsets after a rejected one count
    × (turns (document 0 2 (0x4100 ∷ 0x1F01 ∷ 0x0101 ∷ []) (factor 24 (codes "1") ∷ block 25 (codes "10") ∷ Ends 26 ∷ factor 27 (codes "0") ∷ Ends 28 ∷ [])) ≡ 8)
    × (turns (document 0 3 (0x0101 ∷ []) (block 24 (codes "10") ∷ Ends 25 ∷ block 26 (codes "x") ∷ Ends 27 ∷ block 28 (codes "10") ∷ Ends 29 ∷ [])) ≡ 3)
    -- one pass for all subsets of compressed data: fails if each subset is a pass
    × (turns (document 1 2 (0x0C65 ∷ []) (number 24 0x0C65 (codes "288.15") ∷ Ends 25 ∷ missing 26 0x0C65 ∷ Ends 27 ∷ [])) ≡ 2)
    × (turns (document 1 2 (0x4100 ∷ 0x1F01 ∷ 0x0101 ∷ []) (factor 24 (codes "1") ∷ block 25 (codes "10") ∷ Ends 26 ∷ factor 27 (codes "2") ∷ block 28 (codes "10") ∷ block 29 (codes "11") ∷ Ends 30
    ∷ [])) ≡ 2)
    × (turns (document 1 2 (0x0101 ∷ []) (block 24 (codes "10") ∷ Ends 25 ∷ block 26 (codes "10") ∷ block 27 (codes "11") ∷ Ends 28 ∷ [])) ≡ 2)
    -- There is no pass without a subset, and none without a template.
    × (turns (document 0 0 (0x0101 ∷ []) []) ≡ 0)
    × (turns (document 1 0 (0x0101 ∷ []) []) ≡ 0)
    × (turns (document 0 1 (0x0101 ∷ 0x0102 ∷ []) (block 24 (codes "10") ∷ Ends 25 ∷ [])) ≡ 0)
unfolding turns block listed table document number tree_of level part_of inner_of next_item decimal_value_of bits_in factor missing min_section_1
turns_made = (refl, refl, refl, refl, refl, refl, refl, refl, refl, refl, refl, refl, refl, refl, refl, refl, refl, refl)

-- ---- Documents that are encoded in a form other than the one they specify.

formed : Form → Document → Result (List ℕ) DocumentFault
formed form d = encoding_in form table [] d

-- plain data that are compressed, and compressed data that are written plain
-- rule: writes-form, form-option
documents_formed :
    (formed Compressed (document 0 1 (0x4100 ∷ 0x1F01 ∷ 0x0101 ∷ []) (number 24 0x1F01 (codes "2") ∷ number 25 0x0101 (codes "10") ∷ number 26 0x0101 (codes "11") ∷ Ends 27 ∷ []))
    ≡ message 56 (0 ∷ 0 ∷ 0x0D ∷ 0 ∷ 0 ∷ 1 ∷ 0xC0 ∷ 0x41 ∷ 0 ∷ 0x1F ∷ 1 ∷ 1 ∷ 1 ∷ 0 ∷ 0 ∷ 9 ∷ 0 ∷ 2 ∷ 0 ∷ 0x50 ∷ 2 ∷ 0xC0 ∷ []))
    × (formed Plain (document 1 2 (0x0C65 ∷ []) (number 24 0x0C65 (codes "288.15") ∷ Ends 25 ∷ missing 26 0x0C65 ∷ Ends 27 ∷ []))
    ≡ message 51 (0 ∷ 0 ∷ 9 ∷ 0 ∷ 0 ∷ 2 ∷ 0x80 ∷ 0x0C ∷ 0x65 ∷ 0 ∷ 0 ∷ 8 ∷ 0 ∷ 0x70 ∷ 0x8F ∷ 0xFF ∷ 0xFF ∷ []))
    -- the same data, compressed again
    × (formed Compressed (document 0 2 (0x0C65 ∷ []) (number 24 0x0C65 (codes "288.15") ∷ Ends 25 ∷ missing 26 0x0C65 ∷ Ends 27 ∷ []))
    ≡ message 50 (0 ∷ 0 ∷ 9 ∷ 0 ∷ 0 ∷ 2 ∷ 0xC0 ∷ 0x0C ∷ 0x65 ∷ 0 ∷ 0 ∷ 7 ∷ 0 ∷ 0x70 ∷ 0x8F ∷ 5 ∷ []))
    × (formed Compressed (document 0 0 (0x0101 ∷ []) []) ≡ message 47 (0 ∷ 0 ∷ 9 ∷ 0 ∷ 0 ∷ 0 ∷ 0xC0 ∷ 1 ∷ 1 ∷ 0 ∷ 0 ∷ 4 ∷ 0 ∷ []))
    × (formed Compressed (document 0 2 (0x4100 ∷ 0x1F01 ∷ 0x0101 ∷ [])
    (number 24 0x1F01 (codes "1") ∷ number 25 0x0101 (codes "10") ∷ Ends 26 ∷ number 27 0x1F01 (codes "2") ∷ number 28 0x0101 (codes "10") ∷ number 29 0x0101 (codes "11") ∷ Ends 30 ∷ []))
    ≡ Err (fault.Item 27 wrong.UnequalFactor))
    -- 2 03 010, 0 12 101, 2 03 255: reference values that differ between the subsets
    × (formed Compressed (document 0 2 (0x830A ∷ 0x0C65 ∷ 0x83FF ∷ [])
    (Holds (draft 24 0x0C65 (reference_token (codes "-400"))) ∷ Ends 25 ∷ Holds (draft 26 0x0C65 (reference_token (codes "-401"))) ∷ Ends 27 ∷ []))
    ≡ Err (fault.Item 24 wrong.Increment))
unfolding listed table document number formed message encoding_in tree_of level part_of inner_of next_item decimal_value_of bits_in bits_of missing min_section_1
documents_formed = (refl, refl, refl, refl, refl, refl)
