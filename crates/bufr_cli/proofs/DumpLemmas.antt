-- What `dump` writes for a message, given the results of its calls.
use Rattle.std.proofs.Common.{◌≡◌, ◌∙◌, ◌-◌, ℕ, List, [], length, Option, Some, None, option_map, Result, Ok, Err, refl, sym, subst, ap, append-nil, inl, inr}
use Rattle.std.specs.Io.KnownBytes.{Appends}
use Rattle.std.proofs.KnownBytes.{Appends-nil}
use Rattle.bufr_frame.specs.Prelude.{Sections}
use Rattle.bufr_frame.specs.declared.fault.RunFault.{RunFault}
use Rattle.bufr_tables.specs.Prelude.{tree_of, tables_of, Row, Sequence, Tree}
use Rattle.std.specs.Option.{option_map_or}
use Rattle.bufr_bits.specs.Prelude.{◌>>=◌, map_err}
use Rattle.bufr_tables.specs.Prelude.{template_report}
use Rattle.bufr_tables.specs.declared.fault.TemplateFault.{TemplateFault}
use Rattle.bufr_walk.specs.Prelude.{next_item, counted_item, data_report, Read, data_of, Data, AnswersReading, ReadsData, reading_of, values_read, fault_of, fault_at}
use Rattle.bufr_walk.specs.declared.fault.WalkFault.{WalkFault}
use Rattle.bufr_walk.specs.declared.fault.WalkFault.TheVariants as walk
use Rattle.bufr_text.specs.Prelude.{dump_text_of, WritesPrefix, GrowsByPrefix, Writes, dump_items}
use Rattle.bufr_cli.specs.Prelude.{text_or_fault, dump_or_report, Piece, OnOutput, OnErrors, fault_line, LeavesPiece, Verdict, Writers}
use Rattle.bufr_cli.specs.declared.outcome.Verdict.TheVariants.{Accepted, Refused}

-- Nothing of the text was written.
grows-none : (w : Option (List ℕ)) (text : List ℕ) → GrowsByPrefix w w text
grows-none w text = record { prefix = []; back = text; parts = refl; gains = Appends-nil w }

-- a call that stopped before it wrote anything
pub nothing-written : (w : Writers) (piece : Piece) (r : Result Verdict RunFault) (f : RunFault) → r ≡ Err f → LeavesPiece w w piece r
nothing-written w piece r f is = rw is (record { output = grows-none w.output.taken _; errors = grows-none w.errors.taken _ })

-- A text was written to the output, or a prefix of it.
output-reported : (before after : Writers) (text : List ℕ) (piece : Piece) → piece ≡ OnOutput text → Appends before.output.taken after.output.taken text → after.errors ≡ before.errors
    → LeavesPiece before after piece (Ok Accepted)
output-reported before after text piece is writes same =
    rw is (record { output = rw (append-nil text) writes; errors = rw same (Appends-nil before.errors.taken) }, refl, refl, same)

pub output-stopped : (before after : Writers) (text : List ℕ) (piece : Piece) (f : RunFault) → piece ≡ OnOutput text → GrowsByPrefix before.output.taken after.output.taken text
    → after.errors ≡ before.errors → LeavesPiece before after piece (Err f)
output-stopped before after text piece f is writes same =
    rw is (record { output = rw (append-nil text) writes; errors = rw same (grows-none before.errors.taken []) })

-- A line was written to the errors, or a prefix of it.
pub errors-reported : (before after : Writers) (text : List ℕ) (piece : Piece) → piece ≡ OnErrors text → Appends before.errors.taken after.errors.taken text → after.output ≡ before.output
    → LeavesPiece before after piece (Ok Refused)
errors-reported before after text piece is writes same =
    rw is (record { output = rw same (Appends-nil before.output.taken); errors = rw (append-nil text) writes }, refl, refl, same)

errors-stopped : (before after : Writers) (text : List ℕ) (piece : Piece) (f : RunFault) → piece ≡ OnErrors text → GrowsByPrefix before.errors.taken after.errors.taken text
    → after.output ≡ before.output → LeavesPiece before after piece (Err f)
errors-stopped before after text piece f is writes same =
    rw is (record { output = rw same (grows-none before.output.taken []); errors = rw (append-nil text) writes })

-- a text, or the report of the fault in its data
abbrev pub data_or_report : Option WalkFault → (text : List ℕ) → Result (List ℕ) (ℕ × List (List ℕ))
data_or_report fault text = option_map_or (λ why. Err (data_report why)) fault (Ok text)

-- the piece of a message whose data are read with a template
abbrev pub data_piece : List Row → ℕ → Sections → Tree → Piece
data_piece table offset s template =
    let r = reading_of (next_item table template) (data_of s) in
    text_or_fault offset (data_or_report (fault_of (data_of s) r) (dump_text_of s (dump_items table s.subsets r.values)))

-- the piece of a message, from the template of its descriptors, or from their fault
abbrev pub template_piece : List Row → ℕ → Sections → Result Tree TemplateFault → Piece
template_piece table offset s (Ok template) = data_piece table offset s template
template_piece table offset s (Err fault) = OnErrors (fault_line offset (template_report fault))

-- the same, as the definition gives it
abbrev piece_by : List Row → ℕ → Sections → Result Tree TemplateFault → Piece
piece_by b offset s made = text_or_fault offset (map_err template_report made >>= λ template.
    let r = reading_of (next_item b template) (data_of s) in data_or_report (fault_of (data_of s) r) (dump_text_of s (dump_items b s.subsets r.values)))

piece-by : (b : List Row) (offset : ℕ) (s : Sections) (made : Result Tree TemplateFault) → piece_by b offset s made ≡ template_piece b offset s made
piece-by b offset s (Ok template) = refl
piece-by b offset s (Err fault) = refl

pub piece-by-template : (b : List Row) (d : List Sequence) (offset : ℕ) (s : Sections)
    → text_or_fault offset (dump_or_report b d (Ok s)) ≡ template_piece b offset s (tree_of (tables_of b d) s.descriptors)
piece-by-template b d offset s = piece-by b offset s (tree_of (tables_of b d) s.descriptors)

-- If the data can be read, the piece is their text.
pub read-piece : (table : List Row) (offset : ℕ) (s : Sections) (template : Tree) → (reading_of (next_item table template) (data_of s)).stop ≡ None
    → data_piece table offset s template ≡ OnOutput (dump_text_of s (dump_items table s.subsets (reading_of (next_item table template) (data_of s)).values))
read-piece table offset s template none =
    let r = reading_of (next_item table template) (data_of s) in
    ap (λ o. text_or_fault offset (data_or_report (option_map (λ why. fault_at why r.subset (length (data_of s).bits - length r.left)) o) (dump_text_of s (dump_items table s.subsets r.values)))) none

-- the same, in terms of what was read
text-piece : (table : List Row) (offset : ℕ) (s : Sections) (template : Tree) (r : Read) (steps : ℕ) → AnswersReading table template (data_of s) (Ok r) steps
    → data_piece table offset s template ≡ OnOutput (dump_text_of s (dump_items r.table r.source.subsets (values_read r)))
text-piece table offset s template r steps (is_table, is_template, is_source, reads) =
    read-piece table offset s template reads.0
    ∙ ap (λ t. OnOutput (dump_text_of s (dump_items t s.subsets (reading_of (next_item t template) (data_of s)).values))) (sym is_table)
    ∙ ap (λ t. OnOutput (dump_text_of s (dump_items r.table s.subsets (reading_of (next_item r.table t) (data_of s)).values))) (sym is_template)
    ∙ ap (λ (d : Data). OnOutput (dump_text_of s (dump_items r.table d.subsets (reading_of (next_item r.table r.template) d).values))) (sym is_source)

-- The text of what was read was written, or a prefix of it.
pub reading-reported : (table : List Row) (offset : ℕ) (s : Sections) (template : Tree) (r : Read) (steps : ℕ) (before after : Writers) → AnswersReading table template (data_of s) (Ok r) steps
    → Appends before.output.taken after.output.taken (dump_text_of s (dump_items r.table r.source.subsets (values_read r))) → after.errors ≡ before.errors
    → (piece : Piece) → piece ≡ data_piece table offset s template → LeavesPiece before after piece (Ok Accepted)
reading-reported table offset s template r steps before after so writes same piece is =
    output-reported before after (dump_text_of s (dump_items r.table r.source.subsets (values_read r))) piece (is ∙ text-piece table offset s template r steps so) writes same

pub reading-stopped : {X : Type 0} (table : List Row) (offset : ℕ) (s : Sections) (template : Tree) (r : Read) (steps : ℕ) (before after : Writers) (first : Result X RunFault) (f : RunFault)
    (result : Result Verdict RunFault) → AnswersReading table template (data_of s) (Ok r) steps
    → WritesPrefix before.output.taken after.output.taken (dump_text_of s (dump_items r.table r.source.subsets (values_read r))) first → after.errors ≡ before.errors → first ≡ Err f → result ≡ Err f
    → (piece : Piece) → piece ≡ data_piece table offset s template → LeavesPiece before after piece result
reading-stopped {X = X} table offset s template r steps before after first f result so writes same fails is' piece is =
    let text = dump_text_of s (dump_items r.table r.source.subsets (values_read r)) in
    rw is' (output-stopped before after text piece f (is ∙ text-piece table offset s template r steps so) (rw fails at writes) same)

-- A prefix of a fault line was written.
pub line-stopped : {X : Type 0} (before after : Writers) (text : List ℕ) (first : Result X RunFault) (f : RunFault) (result : Result Verdict RunFault) (piece : Piece) → piece ≡ OnErrors text
    → Writes before.errors.taken after.errors.taken text first → after.output ≡ before.output → first ≡ Err f → result ≡ Err f
    → LeavesPiece before after piece result
line-stopped {X = X} before after text first f result piece is writes same fails is' =
    rw is' (errors-stopped before after text piece f is (rw fails at writes).1 same)

-- the fault line of data that are refused
pub refused-line : (specs table : List Row) (offset : ℕ) (s : Sections) (template : Tree) (why : WalkFault) (steps : ℕ) → specs ≡ table → (why ≡ walk.Memory → ⊥)
    → AnswersReading specs template (data_of s) (Err why) steps
    → (piece : Piece) → piece ≡ data_piece table offset s template → piece ≡ OnErrors (fault_line offset (data_report why))
refused-line specs table offset s template why steps cached some so piece is =
    let course = next_item table template in
    let reads : ReadsData (counted_item table template) (data_of s) (Err why) steps = subst (λ t. ReadsData (counted_item t template) (data_of s) (Err why) steps) cached so in
    let fault : fault_of (data_of s) (reading_of course (data_of s)) ≡ Some why =
    elim reads as (λ _. fault_of (data_of s) (reading_of course (data_of s)) ≡ Some why) [ inl x ↦ x.0 | inr y ↦ absurd (some y.0) ] in
    is ∙ ap (λ o. text_or_fault offset (data_or_report o (dump_text_of s (dump_items table s.subsets (reading_of course (data_of s)).values)))) fault

-- the piece of a message, from the template that its descriptors define
pub data-of : (table : List Row) (d : List Sequence) (offset : ℕ) (s : Sections) (template : Tree) → tree_of (tables_of table d) s.descriptors ≡ Ok template
    → text_or_fault offset (dump_or_report table d (Ok s)) ≡ data_piece table offset s template
data-of table d offset s template is = piece-by-template table d offset s ∙ ap (template_piece table offset s) is
