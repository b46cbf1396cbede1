-- The number and text of each fault (our choice). Each text is given as a list of parts. `Memory`
-- has no text here, because `run_line` defines the message that is printed when memory runs out.
-- Cited by public contracts.
use Rattle.std.specs.Prelude.{ℕ, List, [], ◌∷◌, codes, decimal}
use Rattle.bufr_tables.specs.Fxy.{fxy_text}
use Rattle.bufr_tables.specs.declared.fault.TableFault.{TableFault}
use Rattle.bufr_tables.specs.declared.fault.TableFault.TheVariants as table
use Rattle.bufr_tables.specs.declared.fault.TemplateFault.{TemplateFault}
use Rattle.bufr_tables.specs.declared.fault.TemplateFault.TheVariants as template

-- the number and text of a fault in a table file
abbrev pub table_report : TableFault → ℕ × List (List ℕ)
-- The file does not begin with the expected header.
table_report table.Header = (40, codes "header" ∷ [])
-- Record n has an invalid field.
table_report (table.Row n) = (41, codes "row " ∷ decimal n ∷ [])
-- An element has two rows, or the rows of a sequence are not consecutive.
table_report (table.Duplicate fxy) = (42, codes "duplicate " ∷ fxy_text fxy ∷ [])
-- A sequence contains itself.
table_report (table.Cycle fxy) = (43, codes "cycle " ∷ fxy_text fxy ∷ [])
-- Table D has more than 65,536 rows.
table_report table.TableSize = (44, codes "table size" ∷ [])
-- A record does not have the same number of fields as the header.
table_report table.Csv = (45, codes "csv" ∷ [])
table_report table.Memory = (73, [])

-- The number and text of a fault in a descriptor list. The text names the descriptor that caused
-- the fault. A group is a replication together with the descriptors that it repeats (its body).
-- rule: fault-20, fault-21, fault-22, fault-23, fault-24, fault-25, fault-26, fault-27, fault-28
abbrev pub template_report : TemplateFault → ℕ × List (List ℕ)
-- Table B does not contain the element.
template_report (template.UnknownElement fxy) = (20, codes "unknown element " ∷ fxy_text fxy ∷ [])
-- Table D does not contain the sequence.
template_report (template.UnknownSequence fxy) = (21, codes "unknown sequence " ∷ fxy_text fxy ∷ [])
-- The operator or its operand is not supported.
template_report (template.Operator fxy) = (22, codes "operator " ∷ fxy_text fxy ∷ [])
-- A replication has an X of 0, or there are fewer than X descriptors for it to repeat.
template_report (template.GroupShape fxy) = (23, codes "group shape " ∷ fxy_text fxy ∷ [])
-- A delayed replication is not followed by a supported factor (see `is_factor`).
template_report (template.NoFactor fxy) = (24, codes "no factor " ∷ fxy_text fxy ∷ [])
-- The body of a group, or the whole template, consumes no data bits.
template_report (template.EmptyGroup fxy) = (25, codes "empty group " ∷ fxy_text fxy ∷ [])
-- Groups and sequences are nested more than 32 levels deep.
template_report (template.Depth fxy) = (26, codes "depth " ∷ fxy_text fxy ∷ [])
-- The template has more than 65,535 cells (see `size`), including one for its end.
template_report (template.TemplateSize fxy) = (27, codes "template size " ∷ fxy_text fxy ∷ [])
-- 2 06 Y is not directly followed by an element.
template_report (template.LocalShape fxy) = (28, codes "local shape " ∷ fxy_text fxy ∷ [])
template_report template.Memory = (73, [])
