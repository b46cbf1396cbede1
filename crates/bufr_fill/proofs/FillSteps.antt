-- The steps of a pass that writes.
use Rattle.std.proofs.Common.{Result, Ok, Err, Option, Some, None, Bool, List, [], ◌∷◌, ◌++◌, ◌≡◌, refl, sym, ◌∙◌, ap, suc, length}
use Rattle.bufr_walk.specs.Prelude.{FieldSpec, Course, CountedCourse, uncounted, Next, take_next, at_end, Pass, pass}
use Rattle.bufr_walk.specs.Pass.{pass_next, pass_field}
use Rattle.bufr_fill.specs.Prelude.{Taken, WrittenItem, Filler, filling, fill_pass, bits_written, bits_of_pass, fill, with_bits_before, Subset, DraftFault, Writing, bits_of_writing, writing_then, pass_writing, plain_filler, plain_writing, plain_data, ◌>>=◌}
use Rattle.std.specs.Option.{option_map_or}

module _ {D C E : Type 0} (filler : Filler D C E) where
  -- the bits of one item, followed by those of the others
  abbrev pub filled : FieldSpec → Result (WrittenItem C) E → (Taken → Result (List Bool) E) → Result (List Bool) E
  filled spec (Err why) rest = Err why
  filled spec (Ok w) rest = with_bits_before filler w.bits (rest (filler.gives spec w.content))

  -- the pass over drafts, given what comes next
  abbrev pub pass_at : Course → List D → Next → Pass (List D) (WrittenItem C) E
  pass_at course ds n = pass_next (filling filler) n ds (λ f. pass (filling filler) (length ds) (λ answers. course (f.returned ∷ answers)) f.state)

  -- the pass if a field comes next, given the result for the first draft
  abbrev pub pass_with : Course → D → List D → FieldSpec → Result (WrittenItem C) E → Pass (List D) (WrittenItem C) E
  pass_with course d ds spec r =
      pass_field (filling filler) spec (d ∷ ds) (r >>= λ w. Ok (record { content = w; returned = filler.gives spec w.content; state = ds }))
      (λ f. pass (filling filler) (suc (length ds)) (λ answers. course (f.returned ∷ answers)) f.state)

  before : (w bits : List Bool) (o : Option E) → option_map_or (λ why. Err why) o (Ok (w ++ bits)) ≡ with_bits_before filler w (option_map_or (λ why. Err why) o (Ok bits))
  before w bits None = refl
  before w bits (Some why) = refl

  module _ (course : Course) (d : D) (ds : List D) (spec : FieldSpec) where
    pub bits_with : (r : Result (WrittenItem C) E) → bits_of_pass (pass_with course d ds spec r) ≡ filled spec r (λ t. fill filler (λ answers. course (t ∷ answers)) ds)
    bits_with (Err why) = refl
    bits_with (Ok w) = let p = fill_pass filler (λ answers. course (filler.gives spec w.content ∷ answers)) ds in before w.bits (bits_written p.items) p.stop

    -- the pass if a field comes next
    pass_more : (r : Result (WrittenItem C) E) → course [] ≡ take_next spec → filler.fills spec d ≡ r → fill_pass filler course (d ∷ ds) ≡ pass_with course d ds spec r
    pass_more r next e = ap (pass_at course (d ∷ ds)) next ∙ ap (pass_with course d ds spec) e

    -- The bits of all drafts are those of the first one, followed by those of the others.
    pub fill_more : (r : Result (WrittenItem C) E) → course [] ≡ take_next spec → filler.fills spec d ≡ r
        → fill filler course (d ∷ ds) ≡ filled spec r (λ t. fill filler (λ answers. course (t ∷ answers)) ds)
    fill_more r next e = ap bits_of_pass (pass_more r next e) ∙ bits_with r

  -- the bits of drafts, given what comes next
  abbrev pub fill_at : Course → List D → Next → Result (List Bool) E
  fill_at course ds n = bits_of_pass (pass_at course ds n)

  -- At the end of the template, no bits are written.
  pub fill_end : (course : Course) → course [] ≡ at_end → fill filler course [] ≡ Ok []
  fill_end course h = ap (fill_at course []) h

-- ---- Successive subsets.

bits_both : (a b : List Bool) (stop : Option DraftFault) → option_map_or (λ why. Err why) stop (Ok (a ++ b)) ≡ (option_map_or (λ why. Err why) stop (Ok b) >>= λ y. Ok (a ++ y))
bits_both a b None = refl
bits_both a b (Some why) = refl

written_both : (w rest : Writing DraftFault) (stop : Option DraftFault) → w.stop ≡ stop
    → bits_of_writing (writing_then w stop rest) ≡ (bits_of_writing w >>= λ x. bits_of_writing rest >>= λ y. Ok (x ++ y))
written_both w rest None e = bits_both w.bits rest.bits rest.stop ∙ sym (ap (λ o. option_map_or (λ why. Err why) o (Ok w.bits) >>= λ x. bits_of_writing rest >>= λ y. Ok (x ++ y)) e)
written_both w rest (Some why) e = ap (λ (o : Option DraftFault). option_map_or (λ why. Err why) o (Ok w.bits)) e ∙ sym (ap (λ o. option_map_or (λ why. Err why) o (Ok w.bits)
    >>= λ x. bits_of_writing rest >>= λ y. Ok (x ++ y)) e)

-- The bits of plain data are those that are written.
pub plain_written : (course : CountedCourse) (ss : List Subset) → plain_data (uncounted course) ss ≡ bits_of_writing (plain_writing course ss)
plain_written course [] = refl
plain_written course (s ∷ ss) =
    let w = pass_writing (plain_filler s.end_line) course s.items in
    ap (λ r. bits_of_writing w >>= λ x. r >>= λ y. Ok (x ++ y)) (plain_written course ss) ∙ sym (written_both w (plain_writing course ss) w.stop refl)

pub plain_both : (course : Course) (s : Subset) (ss : List Subset) (x y : List Bool) → fill (plain_filler s.end_line) course s.items ≡ Ok x → plain_data course ss ≡ Ok y
    → plain_data course (s ∷ ss) ≡ Ok (x ++ y)
plain_both course s ss x y first rest =
    ap (λ r. r >>= λ x. plain_data course ss >>= λ y. Ok (x ++ y)) first ∙ ap (λ r. r >>= λ y. Ok (x ++ y)) rest
