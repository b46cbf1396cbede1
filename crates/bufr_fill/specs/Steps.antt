-- Only contracts need this file. The bits written and the number of steps taken up to the first
-- fault (our choice).
use Rattle.std.specs.Prelude.{Bool, List, [], ◌∷◌, ◌++◌, Result, Ok, Err, ℕ, ◌+◌, true, false, length, Option, Some, None}
use Rattle.bufr_walk.specs.Prelude.{CountedCourse, uncounted, answers_in, would_be_many}
use Rattle.std.specs.Option.{option_map_or}
use Rattle.bufr_fill.specs.Draft.{Subset, DraftFault}
use Rattle.bufr_fill.specs.Encoding.{Filler, fill_pass, bits_written, plain_filler, packed_filler, most_items, rows}

-- the result of writing, with the bits before the first fault, the fault (if any), and the number
-- of steps
pub record Writing (E : Type 0) : Type 0 where
  pub bits : List Bool
  pub stop : Option E
  pub turns : ℕ

-- the result of writing in one pass
abbrev pub pass_writing : {D C E : Type 0} → Filler D C E → CountedCourse → List D → Writing E
pass_writing filler course drafts =
    let p = fill_pass filler (uncounted course) drafts in
    record {
      bits = bits_written p.items;
      stop = p.stop;
      turns = (course (answers_in (λ spec w. filler.gives spec w.content) p.items)).turns;
    }

-- w followed by `rest`, or only w if it contains a fault; the second argument is `w.stop`
abbrev pub writing_then : {E : Type 0} → Writing E → Option E → Writing E → Writing E
writing_then w (Some why) rest = w
writing_then w None rest =
    record { bits = w.bits ++ rest.bits; stop = rest.stop; turns = w.turns + rest.turns }

-- the bits that were written, or the fault that stopped writing
abbrev pub bits_of_writing : {E : Type 0} → Writing E → Result (List Bool) E
bits_of_writing w = option_map_or (λ why. Err why) w.stop (Ok w.bits)

-- the result of writing plain data, one subset after another
abbrev pub plain_writing : CountedCourse → List Subset → Writing DraftFault
plain_writing course [] = record { bits = []; stop = None; turns = 0 }
plain_writing course (s ∷ subsets) =
    let w = pass_writing (plain_filler s.end_line) course s.items in
    writing_then w w.stop (plain_writing course subsets)

-- the result of writing compressed data, in one pass over the rows of all subsets
abbrev pub packed_writing : CountedCourse → List Subset → Writing DraftFault
packed_writing course [] = record { bits = []; stop = None; turns = 0 }
packed_writing course (s ∷ subsets) =
    let most = most_items (s ∷ subsets) in
    let filler = packed_filler s.end_line (would_be_many (length (s ∷ subsets)) most) in
    pass_writing filler course (rows most 0 (s ∷ subsets))

-- the result of writing the data of a document, either plain or compressed
abbrev pub writing_of : (compressed : Bool) → CountedCourse → List Subset → Writing DraftFault
writing_of true course subsets = packed_writing course subsets
writing_of false course subsets = plain_writing course subsets
