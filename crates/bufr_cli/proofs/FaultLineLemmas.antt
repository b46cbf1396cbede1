-- Fault lines that are pushed, and what their sink contains afterwards.
use Rattle.std.proofs.Common.{decimal, ◌≡◌, ◌∙◌, ℕ, List, [], ◌∷◌, ◌++◌, Option, Ok, Err, codes, ap, refl, sym, subst, append-nil, Result}
use Rattle.bufr_frame.specs.declared.fault.RunFault.{RunFault}
use Rattle.bufr_text.specs.declared.fault.TextLineFault.{TextLineFault}
use Rattle.bufr_text.specs.Prelude.{line_report, ParseResult, Complete, Refused, LineModel, Pushes, GrowsByPrefix, Writes, parse_results}
use Rattle.bufr_text.specs.declared.fault.ReadFault.{ReadFault}
use Rattle.bufr_text.specs.declared.fault.ReadFault.TheVariants as read
use Rattle.bufr_text.proofs.PushLemmas.{retold, joined_then}
use Rattle.bufr_cli.specs.Prelude.{report_line, document_line, line_of_read_fault}
use Rattle.std.specs.List.{concat}

-- a single text
pub one_text : {a b : LineModel} {text : List ℕ} → Pushes a text b → Pushes a (concat (text ∷ [])) b
one_text {text = text} pushes = retold pushes (sym (append-nil text))

-- a line that consists of a position, a text and a line feed
pub line_pushed : {a b c d : LineModel} (word : List ℕ) (position number : ℕ) (text : List (List ℕ))
    → Pushes a (concat (word ∷ decimal position ∷ codes ": " ∷ decimal number ∷ codes " " ∷ [])) b → Pushes b (concat text) c → Pushes c (codes "\n") d
    → Pushes a (report_line (word ∷ decimal position ∷ codes ": " ∷ []) (number, text)) d
line_pushed word position number text first second third =
    joined_then (word ∷ decimal position ∷ codes ": " ∷ decimal number ∷ codes " " ∷ []) (text ++ codes "\n" ∷ []) first (joined_then text (codes "\n" ∷ []) second third)

-- the fault line of the first result, if this result is an invalid line
abbrev first_line : List ParseResult → List ℕ
first_line [] = []
first_line (Complete document ∷ rest) = []
first_line (Refused line why ∷ rest) = document_line line (line_report why)

-- The fault line of a read fault is that of the invalid line.
line_of_parsed : (fault : ReadFault) → line_of_read_fault fault ≡ first_line (parse_results (Err fault))
line_of_parsed (read.Line line why) = refl
line_of_parsed (read.Run fault) = refl

module _ {X : Type 0} (old new : Option (List ℕ)) (r : Result X RunFault) where
  -- the fault line of an invalid line
  pub as_read : (fault : ReadFault) (line : ℕ) (why : TextLineFault) → parse_results (Err fault) ≡ Refused line why ∷ [] → Writes old new (line_of_read_fault fault) r
      → Writes old new (document_line line (line_report why)) r
  as_read fault line why is writes =
      let P : List ℕ → Type 0 = λ text. Writes old new text r in
      subst P (line_of_parsed fault ∙ ap first_line is) writes

  -- A prefix of the text was written, whatever the result.
  pub prefix_written : {text : List ℕ} → Writes old new text r → GrowsByPrefix old new text
  prefix_written {text = text} writes = at r writes
    where
      at : (r : Result X RunFault) → Writes old new text r → GrowsByPrefix old new text
      at (Ok x) writes = record { prefix = text; back = []; parts = sym (append-nil text); gains = writes }
      at (Err fault) writes = writes.1
