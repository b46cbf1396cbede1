-- A walk over drafts writes them as defined.
use Rattle.bufr_walk.specs.Prelude.{FieldSpec, bits_for, answer_of, Course, take_next, Next, at_end, astray, refused, TakenField, Takes, answers_of, oks, Item, pass}
use Rattle.bufr_walk.specs.Pass.{empty_pass, EndsPass}
use Rattle.bufr_walk.proofs.WalkPass.{at_last, IsStep, walk_passes}
use Rattle.bufr_fill.specs.Prelude.{Taken, WrittenItem, Filler, write_first, filling, fill_pass, with_items, bits_written, fill, bits_of_pass, WritesDrafts, written_item, plain_filler, DraftEntry, Holds, Ends, DraftFault, at_line, item_too_many, PlainOutModel, PlainFills, IsFaultNext, items_left, end_left, map_err, ◌>>=◌, subsets_of}
use Rattle.bufr_fill.proofs.EntryLemmas.{length-prepended}
use Rattle.std.proofs.Common.{Option, Some, refl, sym, ◌∙◌, ap, append_assoc, ℕ, ◌+◌, suc, length, length-append, arith, ◌≡◌, Bool, List, [], ◌∷◌, ◌++◌, Result, Ok, Err}
use Rattle.std.proofs.lemmas.List.{append-nil}
use Rattle.std.proofs.lemmas.List.Concat.{flat_map-append}

-- ---- A walk over drafts writes them as defined.

-- The first of the remaining drafts was written as this field.
pub record HasFilled {D C E : Type 0} (filler : Filler D C E) (left : List D) (out : List Bool) (spec : FieldSpec) (t : Taken) (left' : List D) (out' : List Bool) : Type 0 where
  pub draft : D
  pub item : WrittenItem C
  pub here : left ≡ draft ∷ left'
  pub fills : filler.fills spec draft ≡ Ok item
  pub gives : t ≡ filler.gives spec item.content
  pub bits : out' ≡ out ++ item.bits

module _ {D C E F S : Type 0} (filler : Filler D C E) (left : S → List D) (out : S → List Bool) (takes : S → FieldSpec → Result Taken F → S → Type 0) (Keeps : S → Type 0)
    (fills : (s : S) (spec : FieldSpec) (t : Taken) (s' : S) → takes s spec (Ok t) s' → Keeps s → HasFilled filler (left s) (out s) spec t (left s') (out s') × Keeps s') where
  abbrev gives : FieldSpec → WrittenItem C → Taken
  gives spec w = filler.gives spec w.content

  module _ (first : S) where
    -- After these items, the walk has these drafts left, and has written the bits of the items.
    record Meets (items : List (Item (WrittenItem C))) (s : S) (drafts : List D) : Type 0 where
      here : left s ≡ drafts
      bits : out s ≡ out first ++ bits_written items
      count : length (left first) ≡ length items + length drafts
      keeps : Keeps s

    meets_next : (items : List (Item (WrittenItem C))) (s : S) (spec : FieldSpec) (t : Taken) (s' : S) (drafts : List D) → Meets items s drafts → takes s spec (Ok t) s'
        → IsStep takes (filling filler) gives Meets items spec t s' drafts
    meets_next items s spec t s' drafts m h =
        let f = fills s spec t s' h m.keeps in
        let there : drafts ≡ f.0.draft ∷ left s' = sym m.here ∙ f.0.here in
        let x : Item (WrittenItem C) = record { spec = spec; content = f.0.item } in
        record {
          content = f.0.item;
          state = left s';
          step = ap (write_first filler spec) there ∙ ap (λ r. r >>= λ w. Ok (record { content = w; returned = gives spec w; state = left s' })) f.0.fills
              ∙ ap (λ t. Ok (record { content = f.0.item; returned = t; state = left s' })) (sym f.0.gives);
          answer = f.0.gives;
          meets = record {
            here = refl;
            bits = f.0.bits ∙ ap (λ b. b ++ f.0.item.bits) m.bits ∙ append_assoc (out first) (bits_written items) f.0.item.bits
                ∙ ap (λ b. out first ++ b) (sym (flat_map-append (λ (i : Item (WrittenItem C)). i.content.bits) items (x ∷ []) ∙ ap (λ b. bits_written items ++ b) (append-nil f.0.item.bits)));
            count = omega (arith, m.count, ap length there, length-append items (x ∷ []));
            keeps = f.1;
          };
        }

    pub walk_writes : (course : Course) (walked : List TakenField) (s' : S) → Keeps first → Takes (oks takes) course first walked s'
        → Keeps s' × WritesDrafts filler course walked (out first) (out s') (left first) (left s')
    walk_writes course walked s' k h =
        let start : Meets [] first (left first) = record { here = refl; bits = sym (append-nil (out first)); count = omega arith; keeps = k } in
        let r = walk_passes takes (filling filler) gives Meets meets_next [] course first walked s' (left first) start h in (
          r.3.keeps,
          record {
            items = r.0;
            bits = r.3.bits;
            answers = sym r.2;
            is = r.4 (suc (length (left first))) (suc (length (left s'))) (omega (arith, r.3.count, ap length r.3.here))
                ∙ ap (λ ds. with_items r.0 (pass (filling filler) (suc (length (left s'))) (λ more. course (answers_of walked ++ more)) ds)) (sym r.3.here);
          },
        )

module _ {D C E : Type 0} (filler : Filler D C E) where
  pub fill_ends : (course : Course) (ds : List D) (stop : Option E) → EndsPass (filling filler) (course []) ds stop → fill_pass filler course ds ≡ empty_pass ds stop
  fill_ends course ds stop h = at_last (filling filler) (course []) ds stop _ h

  -- If what comes next ends the pass, the walk has written all that the pass writes.
  pub walk_ends : (course : Course) (walked : List TakenField) (old new : List Bool) (drafts left : List D) (stop : Option E) → (w : WritesDrafts filler course walked old new drafts left)
      → EndsPass (filling filler) (course (answers_of walked)) left stop
      → fill_pass filler course drafts ≡ record { items = w.items; state = left; stop = stop }
  walk_ends course walked old new drafts left stop w h = cc (
    w.is,
    fill_ends (λ more. course (answers_of walked ++ more)) left stop (rw (append-nil (answers_of walked)) h),
    append-nil w.items,
  )

-- ---- A walk over the items of one subset writes them as defined.

-- the entries after the end of the next subset
abbrev pub left_after : List DraftEntry → List DraftEntry
left_after [] = []
left_after (Holds d ∷ more) = left_after more
left_after (Ends line ∷ more) = more

-- The walk stays in its subset.
pub record Keeps (s s' : PlainOutModel) : Type 0 where
  pub suffix : left_after s'.left ≡ left_after s.left
  pub end : end_left s'.left ≡ end_left s.left
  pub count : length (subsets_of s'.left) ≡ length (subsets_of s.left)

pub walk_of_items : (end : ℕ) (course : Course) (s : PlainOutModel) (walked : List TakenField) (s' : PlainOutModel) → Takes (oks PlainFills) course s walked s'
    → Keeps s s' × WritesDrafts (plain_filler end) course walked s.bits s'.bits (items_left s.left) (items_left s'.left)
walk_of_items end course first walked last h =
    walk_writes (plain_filler end) (λ (p : PlainOutModel). items_left p.left) (λ (p : PlainOutModel). p.bits) PlainFills (Keeps first) fills first course walked last
    (record { suffix = refl; end = refl; count = refl })
    h
  where
    fills : (s : PlainOutModel) (spec : FieldSpec) (t : Taken) (s' : PlainOutModel) → PlainFills s spec (Ok t) s' → Keeps first s
        → HasFilled (plain_filler end) (items_left s.left) s.bits spec t (items_left s'.left) s'.bits × Keeps first s'
    fills s spec t s' h k = (
      record {
        draft = h.draft;
        item = written_item h.content (bits_for spec.width h.content);
        here = ap items_left h.here;
        fills = ap (λ r. map_err (at_line h.draft.line) r >>= λ c. Ok (written_item c (bits_for spec.width c))) h.is;
        gives = h.gives;
        bits = h.bits;
      },
      record {
        suffix = sym (ap left_after h.here) ∙ k.suffix;
        end = sym (ap end_left h.here) ∙ k.end;
        count = sym (ap (λ x. length (subsets_of x)) h.here ∙ length-prepended h.draft (subsets_of s'.left)) ∙ k.count;
      },
    )

-- The fault at which a walk stops is the one that is defined.
pub stops_at : (next : Next) (left : List DraftEntry) (f : DraftFault) → IsFaultNext next left f → EndsPass (filling (plain_filler (end_left left))) next (items_left left) (Some f)
stops_at (take_next spec) [] f h = ap Err (sym h)
stops_at (take_next spec) (Ends line ∷ left) f h = ap Err (sym h)
stops_at (take_next spec) (Holds d ∷ left) f h =
    ap (λ r. (map_err (at_line d.line) r >>= λ c. Ok (written_item c (bits_for spec.width c))) >>= λ w. Ok (record { content = w; returned = answer_of spec w.content; state = items_left left })) h.1
    ∙ ap Err (sym h.2)
stops_at (refused why) [] f h = ap Some h
stops_at (refused why) (Ends line ∷ left) f h = ap Some h
stops_at (refused why) (Holds d ∷ left) f h = ap Some h
stops_at at_end [] f h = absurd (omega (arith, h.0))
stops_at at_end (Ends line ∷ left) f h = absurd cc h.1
stops_at at_end (Holds d ∷ left) f h = let same : at_line d.line item_too_many ≡ f = cc h.1 in ap Some (sym same)
stops_at astray left f h = absurd h

pub fault_as_defined : (course : Course) (left : List DraftEntry) (f : DraftFault) → IsFaultNext (course []) left f → fill (plain_filler (end_left left)) course (items_left left) ≡ Err f
fault_as_defined course left f h = ap bits_of_pass (fill_ends (plain_filler (end_left left)) course (items_left left) (Some f) (stops_at (course []) left f h))
