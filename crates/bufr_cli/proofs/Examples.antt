-- Listing lines and fault lines, computed on worked examples.
use Rattle.std.proofs.Common.{◌≡◌, ℕ, List, [], ◌∷◌, ◌++◌, refl, codes, map, slice_set}
use Rattle.std.specs.Fmt.{digits}
use Rattle.bufr_frame.specs.Prelude.{min_section_1, scan, scan_from, sections_of, section_end, cause_report, section_report}
use Rattle.bufr_frame.specs.declared.fault.Cause.TheVariants.{Cut, ShortLength, NoEnd}
use Rattle.bufr_frame.specs.declared.fault.SectionFault.TheVariants.{Edition, SectionShort, SectionPast, SectionsEnd, Edition3Long}
use Rattle.bufr_tables.specs.Prelude.{template_report}
use Rattle.bufr_tables.specs.declared.fault.TemplateFault.TheVariants as template
use Rattle.bufr_walk.specs.Prelude.{data_report, spot}
use Rattle.bufr_walk.specs.declared.fault.WalkFault.TheVariants as walk
use Rattle.bufr_walk.specs.declared.spec.TurnRefusal.TheVariants as turn
use Rattle.bufr_fill.specs.Prelude.{item_too_many, walk_refused, too_many_values}
use Rattle.bufr_fill.specs.declared.fault.Expected.TheVariants as expected
use Rattle.bufr_fill.specs.declared.fault.ItemFault.TheVariants as wrong
use Rattle.bufr_text.specs.declared.fault.DocumentFault.TheVariants as document
use Rattle.bufr_text.specs.Prelude.{line_report, Refused}
use Rattle.bufr_text.specs.declared.fault.TextLineFault.TheVariants.{NotAllowed, SubsetCount, HeaderRange}
use Rattle.bufr_text.specs.declared.encode.Form.TheVariants.{AsWritten}
use Rattle.bufr_cli.specs.Prelude.{document_line, fault_line, refusal_line, OnOutput, OnErrors, ls_piece, encode_pieces, up_to_refused}

-- a message with one block number, 48 octets
abbrev pub one_block_number : List ℕ
one_block_number = 0x42 ∷ 0x55 ∷ 0x46 ∷ 0x52 ∷ 0x00 ∷ 0x00 ∷ 0x30 ∷ 0x04 ∷
    0x00 ∷ 0x00 ∷ 0x16 ∷ 0x00 ∷ 0x00 ∷ 0x62 ∷ 0x00 ∷ 0x00 ∷ 0x00 ∷ 0x00 ∷ 0x00 ∷ 0x00 ∷ 0x00 ∷ 0x0E ∷ 0x00 ∷ 0x07 ∷ 0xE8 ∷ 0x01 ∷ 0x02 ∷ 0x03 ∷ 0x04 ∷ 0x05 ∷
    0x00 ∷ 0x00 ∷ 0x09 ∷ 0x00 ∷ 0x00 ∷ 0x01 ∷ 0x80 ∷ 0x01 ∷ 0x01 ∷
    0x00 ∷ 0x00 ∷ 0x05 ∷ 0x00 ∷ 0x14 ∷
    0x37 ∷ 0x37 ∷ 0x37 ∷ 0x37 ∷ []

-- the line of this message in a listing
one-listed : map ls_piece (scan one_block_number)
    ≡ OnOutput (codes "offset=0 length=48 edition=4 centre=98/0 update=0 category=0/0/0 tables=0/14/0 time=2024-01-02T03:04:05 subsets=1 observed=1 compressed=0 optional=0 descriptors=1\n") ∷ []
unfolding scan_from sections_of section_end min_section_1 digits
one-listed = refl

-- the fault lines of strays
-- rule: stream-fault-line, fault-1, fault-2, fault-3
stray-lines : map (λ cause. fault_line 12 (cause_report cause)) (Cut ∷ ShortLength ∷ NoEnd ∷ [])
    ≡ codes "offset 12: 1 cut\n" ∷ codes "offset 12: 2 short length\n" ∷ codes "offset 12: 3 no end\n" ∷ []
unfolding digits
stray-lines = refl

-- the fault lines of sections
-- rule: fault-10, fault-11, fault-12, fault-13, fault-14
section-lines : map (λ fault. fault_line 0 (section_report fault)) (Edition 2 ∷ SectionShort 1 ∷ SectionPast 4 ∷ SectionsEnd ∷ Edition3Long ∷ [])
    ≡ codes "offset 0: 10 edition 2\n"
    ∷ codes "offset 0: 11 section 1 short\n"
    ∷ codes "offset 0: 12 section 4 past the end\n"
    ∷ codes "offset 0: 13 sections do not meet the end\n"
    ∷ codes "offset 0: 14 edition 3 length\n"
    ∷ []
unfolding digits
section-lines = refl

-- the fault lines of templates
-- rule: fault-20, fault-21, fault-22, fault-23, fault-24, fault-25, fault-26, fault-27, fault-28
template-lines : map (λ fault. fault_line 48 (template_report fault))
    (template.UnknownElement 16383 ∷ template.UnknownSequence 64705 ∷ template.Operator 33800 ∷ template.GroupShape 16386 ∷ template.NoFactor 16640 ∷ template.EmptyGroup 0 ∷ template.Depth 16641
    ∷ template.TemplateSize 257 ∷ template.LocalShape 34312 ∷ [])
    ≡ codes "offset 48: 20 unknown element 063255\n"
    ∷ codes "offset 48: 21 unknown sequence 360193\n"
    ∷ codes "offset 48: 22 operator 204008\n"
    ∷ codes "offset 48: 23 group shape 100002\n"
    ∷ codes "offset 48: 24 no factor 101000\n"
    ∷ codes "offset 48: 25 empty group 000000\n"
    ∷ codes "offset 48: 26 depth 101001\n"
    ∷ codes "offset 48: 27 template size 001001\n"
    ∷ codes "offset 48: 28 local shape 206008\n"
    ∷ []
unfolding digits
template-lines = refl

-- the fault lines of data: the subset, the descriptor and the number of bits before the item
-- rule: stream-fault-place, fault-30, fault-31, fault-32, fault-33, fault-34, fault-35
data-lines : map (λ fault. fault_line 0 (data_report fault)) (walk.DataEnd (spot 1 257 22) ∷ walk.Width (spot 2 257 0) ∷ walk.Defining (spot 1 271 0) ∷ walk.UnequalFactor (spot 0 7937 0)
    ∷ walk.Increment (spot 0 257 0) ∷ walk.TooManyValues (spot 0 257 14336) ∷ [])
    ≡ codes "offset 0: 30 data end at subset 1 descriptor 001001 bit 22\n"
    ∷ codes "offset 0: 31 width at subset 2 descriptor 001001 bit 0\n"
    ∷ codes "offset 0: 32 defining at subset 1 descriptor 001015 bit 0\n"
    ∷ codes "offset 0: 33 unequal factor at subset 0 descriptor 031001 bit 0\n"
    ∷ codes "offset 0: 34 increment at subset 0 descriptor 001001 bit 0\n"
    ∷ codes "offset 0: 35 too many values at subset 0 descriptor 001001 bit 14336\n"
    ∷ []
unfolding digits
data-lines = refl

-- the fault lines of invalid lines in a text
-- rule: fault-lines-of-reading
refused-lines : map (λ fault. document_line 26 (line_report fault)) (NotAllowed ∷ SubsetCount ∷ HeaderRange ∷ [])
    ≡ codes "line 26: 50 line\n" ∷ codes "line 26: 57 subset count\n" ∷ codes "line 26: 61 header range\n" ∷ []
unfolding digits
refused-lines = refl

-- the fault lines of documents
-- rule: fault-lines-of-encoding
document-lines : map refusal_line (document.Template 24 (template.EmptyGroup 0x8100) ∷ document.TooLong 24 ∷ [])
    ≡ codes "line 24: 56 template 25 empty group 201000\n" ∷ codes "line 24: 60 too long\n" ∷ []
unfolding digits
document-lines = refl

-- the fault lines of items in documents
-- rule: fault-lines-of-encoding
item-lines : map (λ why. refusal_line (document.Item 24 why)) (wrong.WrongDescriptor (expected.Item 0x0101) ∷ wrong.WrongDescriptor (expected.Reference 0x0C65) ∷ item_too_many
    ∷ wrong.Number ∷ wrong.OutOfRange ∷ wrong.TextLong ∷ wrong.MissingForbidden ∷ wrong.UnequalFactor ∷ wrong.Increment
    ∷ walk_refused (turn.Width 0x0101) ∷ walk_refused (turn.Defining 0x010F) ∷ too_many_values 0x0101 ∷ [])
    ≡ codes "line 24: 51 expected 001001\n"
    ∷ codes "line 24: 51 expected R 012101\n"
    ∷ codes "line 24: 51 expected end of subset\n"
    ∷ codes "line 24: 52 number\n"
    ∷ codes "line 24: 53 out of range\n"
    ∷ codes "line 24: 54 text long\n"
    ∷ codes "line 24: 55 missing forbidden\n"
    ∷ codes "line 24: 58 unequal factor\n"
    ∷ codes "line 24: 59 increment\n"
    ∷ codes "line 24: 62 walk 31 descriptor 001001\n"
    ∷ codes "line 24: 62 walk 32 descriptor 001015\n"
    ∷ codes "line 24: 62 walk 35 descriptor 001001\n"
    ∷ []
unfolding digits
item-lines = refl

-- the same octets, declared to be edition 3: the table versions and the year are read as the month,
-- day, hour and minute
edition-3-listed : map ls_piece (scan (slice_set one_block_number 7 3))
    ≡ OnOutput (codes "offset=0 length=48 edition=3 centre=98/0 update=0 category=0/0/0 tables=0/0/0 time=0000-14-00T07:232:00 subsets=1 observed=1 compressed=0 optional=0 descriptors=1\n") ∷ []
unfolding scan_from sections_of section_end min_section_1 digits
edition-3-listed = refl

-- an edition 3 message with one block number, 46 octets
abbrev pub edition_3 : List ℕ
edition_3 = 0x42 ∷ 0x55 ∷ 0x46 ∷ 0x52 ∷ 0x00 ∷ 0x00 ∷ 0x2E ∷ 0x03 ∷
    0x00 ∷ 0x00 ∷ 0x12 ∷ 0x00 ∷ 0x00 ∷ 0x62 ∷ 0x00 ∷ 0x00 ∷ 0x00 ∷ 0x00 ∷ 0x0E ∷ 0x00 ∷ 0x18 ∷ 0x01 ∷ 0x02 ∷ 0x03 ∷ 0x04 ∷ 0x00 ∷
    0x00 ∷ 0x00 ∷ 0x0A ∷ 0x00 ∷ 0x00 ∷ 0x01 ∷ 0x80 ∷ 0x01 ∷ 0x01 ∷ 0x00 ∷
    0x00 ∷ 0x00 ∷ 0x06 ∷ 0x00 ∷ 0x14 ∷ 0x00 ∷
    0x37 ∷ 0x37 ∷ 0x37 ∷ 0x37 ∷ []

-- rule: listing-of-edition-3
edition-3-line : map ls_piece (scan edition_3) ≡ OnOutput (codes "offset=0 length=46 edition=3 centre=98/0 update=0 category=0/0/0 tables=0/14/0 time=0024-01-02T03:04:00 subsets=1 observed=1 compressed=0 optional=0 descriptors=1\n") ∷ []
unfolding scan_from sections_of section_end min_section_1 digits
edition-3-line = refl

-- a stray, and then a message of another edition
-- rule: one-fault-a-message
stray-listed : map ls_piece (scan (codes "BUFR" ++ 0 ∷ 0 ∷ 64 ∷ 4 ∷ (slice_set one_block_number 7 2 ++ 0 ∷ 0 ∷ 0 ∷ 0 ∷ 0 ∷ 0 ∷ 0 ∷ 0 ∷ [])))
    ≡ OnErrors (codes "offset 0: 3 no end\n") ∷ OnErrors (codes "offset 8: 10 edition 2\n") ∷ []
unfolding scan_from sections_of section_end min_section_1 digits
stray-listed = refl

-- Nothing is written after the first fault.
-- rule: first-refusal-ends
first-fault : up_to_refused (OnOutput (1 ∷ []) ∷ OnErrors (2 ∷ []) ∷ OnOutput (3 ∷ []) ∷ OnErrors (4 ∷ []) ∷ []) ≡ OnOutput (1 ∷ []) ∷ OnErrors (2 ∷ []) ∷ []
unfolding up_to_refused
first-fault = refl

nothing : encode_pieces AsWritten [] [] [] ≡ []
unfolding up_to_refused
nothing = refl

a-line-is-refused : encode_pieces AsWritten [] [] (Refused 3 NotAllowed ∷ []) ≡ OnErrors (codes "line 3: 50 line\n") ∷ []
unfolding up_to_refused digits
a-line-is-refused = refl
