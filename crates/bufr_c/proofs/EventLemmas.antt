-- The events of a stream in memory, and their texts.
use Rattle.std.proofs.Common.{rules, min, ◌≡◌, ◌≢◌, ◌⊎◌, inl, inr, ◌∙◌, ◌<◌, ◌≤◌, ◌+◌, ◌-◌, ℕ, Bool, true, false, List, [], ◌∷◌, ◌++◌, length, take, drop, map, flat_map, count_by, codes, decimal, refl, sym, ap, subst, arith, Option, Some, None, Result, Ok, Err, IfErr, IfNone, IfOk, IfSome, OnOk, ℤ, pos, append-nil, append_assoc, length-take, length-drop, nat_lt, not}
use Rattle.std.specs.Int.{from_bool}
use Rattle.std.proofs.lemmas.Slice.Eq.{bytes_eq-Decides}
use Rattle.std.proofs.lemmas.Fmt.{decimal_digit}
use Rattle.std.proofs.lemmas.Grind.{common_steps}
use Rattle.std.proofs.lemmas.List.{drop-drop, drop_min, length-append, length-take-le, take-append-drop, take_rest}
use Rattle.std.proofs.Math.Seq.{take-length, drop-length}
use Rattle.std.proofs.Math.ListN.{drop_of_length-le}
use Rattle.memchr.specs.Find.{FindsNeedle}
use Rattle.bufr_frame.specs.Prelude.{Sections, StreamEvent, FrameAt, StrayAt, StartsWithBufr, cause_report, section_report, scan, classify, stated_length, stream_event, candidate_len, has_word_at, sections_of}
use Rattle.bufr_frame.specs.declared.fault.SectionFault.{SectionFault}
use Rattle.bufr_frame.proofs.ScanLemmas.{holds-prefix, holds-there, stated-prefix, scan_from-here, scan_from-nil, scan_from-found, drop-twice}
use Rattle.bufr_tables.specs.Prelude.{ReadsTableD, Record, Row, Sequence, records_of, table_b_of, table_d_of, table_report}
use Rattle.bufr_tables.specs.declared.fault.TableFault.{TableFault}
use Rattle.bufr_tables.specs.declared.fault.TableFault.TheVariants as tables
use Rattle.std.specs.Result.{result_map_both}
use Rattle.bufr_frame.specs.declared.fault.RunFault.{RunFault}
use Rattle.bufr_frame.specs.declared.fault.Cause.{Cause}
use Rattle.bufr_text.specs.Prelude.{Writes, ls_line}
use Rattle.bufr_text.specs.Prelude.{documents_of}
use Rattle.bufr_text.specs.declared.encode.Form.{Form}
use Rattle.bufr_cli.specs.Prelude.{encode_pieces, WritesPieces, Tallies, Piece, OnOutput, OnErrors, output_of, errors_of, is_accepted, is_refused, fault_line, ls_piece, dump_piece, dump_or_report, text_or_fault, Writers, WritesWhole, event_pieces}
use Rattle.bufr_cli.specs.declared.outcome.Tally.{Tally}
use Rattle.bufr_c.specs.Moving.{moved}
use Rattle.bufr_c.specs.Leaving.{HasNoRoom, HasPut, IsCycleStatus, IsMessage, IsRunStatus, IsTableStatus, LacksRoom, Leaves, LeavesRest, Passes, PassesOver, WritesEvent, WritesNone, FindsEvent, ByTables, CallStatus, HasRun, Encodes, end_after, end_of, events_from}
use Rattle.bufr_c.specs.Commands.{IsTextOf, IsTextOfAll, form_by, piece_by}
use Rattle.bufr_c.specs.declared.command.Command.{Command}
use Rattle.bufr_c.specs.declared.command.Command.TheVariants as commands
use Rattle.bufr_c.specs.declared.command.EventText.{EventText}
use Rattle.bufr_c.specs.declared.texts.Texts.{Texts}

-- ---- A line that reports another offset.

at_least : (a b : ℕ) → b ≤ a → nat_lt a b ≡ false
at_least a b h = grind arith

below : (a b : ℕ) → a < b → nat_lt a b ≡ true
below a b h = grind arith

moved-long : (n : ℕ) (line : List ℕ) → 8 ≤ length line → moved n line ≡ (take 7 line ++ decimal n) ++ drop 8 line
moved-long n line long = rw at_least

-- the slices that the code takes
pub moved-parts : (n : ℕ) (line : List ℕ) → 8 ≤ length line → (take 7 line ++ decimal n) ++ take (length line - 8) (drop 8 line) ≡ moved n line
moved-parts n line long = rw (take_rest, moved-long)

-- a line that begins with seven octets and offset 0
moved-word : (n a b c d e f g : ℕ) (rest : List ℕ) → moved n (a ∷ b ∷ c ∷ d ∷ e ∷ f ∷ g ∷ (decimal 0 ++ rest)) ≡ a ∷ b ∷ c ∷ d ∷ e ∷ f ∷ g ∷ (decimal n ++ rest)
moved-word n a b c d e f g rest = grind (arith, decimal_digit)

pub moved-fault : (n : ℕ) (report : ℕ × List (List ℕ)) → moved n (fault_line 0 report) ≡ fault_line n report
moved-fault n report = moved-word n 111 102 102 115 101 116 32 _

moved-line : (n : ℕ) (s : Sections) → moved n (ls_line 0 s) ≡ ls_line n s
moved-line n s = moved-word n 111 102 102 115 101 116 61 _

-- Piece q is piece p with another offset in its lines.
pub record IsMoved (n : ℕ) (p q : Piece) : Type 0 where
  pub output : moved n (output_of p) ≡ output_of q
  pub errors : moved n (errors_of p) ≡ errors_of q
  pub accepted : is_accepted p ≡ is_accepted q

listed-by : (n : ℕ) (r : Result Sections SectionFault)
    → IsMoved n (text_or_fault 0 (result_map_both (ls_line 0) section_report r)) (text_or_fault n (result_map_both (ls_line n) section_report r))
listed-by n (Ok s) = record { output = moved-line n s; errors = refl; accepted = refl }
listed-by n (Err fault) = record { output = refl; errors = moved-fault n (section_report fault); accepted = refl }

pub listed : (n : ℕ) (octets : List ℕ) → IsMoved n (ls_piece (FrameAt 0 octets)) (ls_piece (FrameAt n octets))
listed n octets = listed-by n (sections_of octets)

-- Piece q is piece p with another offset in its fault line.
pub record HasMovedFault (n : ℕ) (p q : Piece) : Type 0 where
  pub output : output_of p ≡ output_of q
  pub errors : moved n (errors_of p) ≡ errors_of q
  pub accepted : is_accepted p ≡ is_accepted q

text-moved : (n : ℕ) (r : Result (List ℕ) (ℕ × List (List ℕ))) → HasMovedFault n (text_or_fault 0 r) (text_or_fault n r)
text-moved n (Ok text) = record { output = refl; errors = refl; accepted = refl }
text-moved n (Err report) = record { output = refl; errors = moved-fault n report; accepted = refl }

pub dumped : (n : ℕ) (b : List Row) (d : List Sequence) (octets : List ℕ) → HasMovedFault n (dump_piece b d (FrameAt 0 octets)) (dump_piece b d (FrameAt n octets))
dumped n b d octets = text-moved n (dump_or_report b d (sections_of octets))

-- ---- A run over the octets of one message.

-- What a run wrote, if nothing was written before.
pub record WritesPiece (p : Piece) (tally : Tally) (output errors : List ℕ) : Type 0 where
  pub output_is : output ≡ output_of p
  pub errors_is : errors ≡ errors_of p
  pub accepted : nat_lt 0 tally.accepted ≡ is_accepted p

counts-piece : (p : Piece) → nat_lt 0 (count_by is_accepted (p ∷ [])) ≡ is_accepted p
counts-piece (OnOutput text) = refl
counts-piece (OnErrors text) = refl

pub one-piece : (piece : StreamEvent → Piece) (octets : List ℕ) (before after : Writers) (tally : Tally) (output errors : List ℕ) → WritesWhole (event_pieces piece) before after tally octets
    → scan octets ≡ FrameAt 0 octets ∷ [] → before.output.taken ≡ Some [] → before.errors.taken ≡ Some [] → after.output.taken ≡ Some output → after.errors.taken ≡ Some errors
    → WritesPiece (piece (FrameAt 0 octets)) tally output errors
one-piece piece octets before after tally output errors (writes, tallies) one b_output b_errors a_output a_errors = search (rules, append-nil)

-- ---- A message of a stream, on its own.

-- ---- The text of an event.

-- the line of a stray `BUFR`
pub stray-text : {X : Type 0} (r : Result X RunFault) (text : EventText) (offset : ℕ) (cause : Cause) (line new : List ℕ) → line ≡ fault_line 0 (cause_report cause)
    → Writes (Some []) (Some new) (moved offset line) r → text.output.octets.items ≡ [] → text.errors.octets.items ≡ new → text.accepted ≡ false
    → OnOk r (IsTextOf text (OnErrors (fault_line offset (cause_report cause))))
stray-text r text offset cause line new is writes output errors accepted = search (rules, moved-fault)

pub stray-by : (command : Command) (offset : ℕ) (cause : Cause) → OnErrors (fault_line offset (cause_report cause)) ≡ piece_by command (StrayAt offset cause)
stray-by commands.List offset cause = refl
stray-by (commands.Dump b d) offset cause = refl

-- the text of a message, from the piece that a run wrote for the message alone
pub message-text : {X : Type 0} (r : Result X RunFault) (text : EventText) (offset : ℕ) (p q : Piece) (tally : Tally) (output errors new : List ℕ) → WritesPiece p tally output errors
    → text.output.octets.items ≡ output_of q → moved offset (errors_of p) ≡ errors_of q → is_accepted p ≡ is_accepted q
    → Writes (Some []) (Some new) (moved offset errors) r → text.errors.octets.items ≡ new → text.accepted ≡ nat_lt 0 tally.accepted
    → OnOk r (IsTextOf text q)
message-text r text offset p q tally output errors new wrote is moves same writes ends accepted = grind arith

-- ---- What begins at a `BUFR`.

pub four-long : (m : List ℕ) → StartsWithBufr m → 4 ≤ length m
four-long m here =
    let same : take 4 m ≡ codes "BUFR" = (bytes_eq-Decides (take 4 m) (codes "BUFR")).0 here in
    omega (arith, ap length same, length-take 4 m)

-- the tests that a message passes, one by one
tests : (m : List ℕ) (n : ℕ) → IsMessage m n
    → (has_word_at (codes "BUFR") 0 m ≡ true) × (nat_lt (length m) 8 ≡ false) × (nat_lt (length m) (stated_length m) ≡ false) × (nat_lt (stated_length m) 12 ≡ false)
    × (has_word_at (codes "7777") (stated_length m - 4) m ≡ true)
tests m n is = search (rules, at_least)

-- the event at the start of a message
pub message-here : (m : List ℕ) (n : ℕ) → IsMessage m n → (offset : ℕ) → stream_event offset m (classify m) ≡ FrameAt offset (take (stated_length m) m) ∷ []
message-here m n is offset = let (a, b, c, d, e) = tests m n is in rw (a, b, c, d, e) refl

pub message-moves : (m : List ℕ) (n : ℕ) → IsMessage m n → candidate_len m (classify m) ≡ stated_length m
message-moves m n is = search (rules, tests)

-- The octets of a message are also a message on their own.
alone : (f t : List ℕ) (n : ℕ) → length f ≡ n → IsMessage (f ++ t) n → IsMessage f n
alone f t n long is =
    let least = is.least in
    record {
      begins = sym (holds-prefix (codes "BUFR") 0 f t (omega (arith, least))) ∙ is.begins;
      states = is.states ∙ stated-prefix f t (omega (arith, least));
      least = least;
      within = omega arith;
      ends = sym (holds-prefix (codes "7777") (n - 4) f t (omega (arith, least))) ∙ is.ends;
    }

-- octets that are exactly one message
one-message : (f : List ℕ) → IsMessage f (length f) → scan f ≡ FrameAt 0 f ∷ []
one-message f is =
    let size : stated_length f ≡ length f = sym is.states in
    grind (arith, common_steps, scan_from-here, scan_from-nil, message-here f (length f) is 0, (message-moves f (length f) is) ∙ size, take-length f, drop-length f)

pub message-alone : (m : List ℕ) (n : ℕ) → IsMessage m n → scan (take n m) ≡ FrameAt 0 (take n m) ∷ []
message-alone m n is =
    let f = take n m in
    let long : length f ≡ n = length-take-le n m is.within in
    let whole : IsMessage (f ++ drop n m) n = rw (take-append-drop n m) is in
    one-message f (rw long (alone f (drop n m) n long whole))

-- ---- The events of a stream from an index on.

pub events-found : (octets : List ℕ) (at place moves : ℕ) (event : StreamEvent) → FindsNeedle (drop at octets) (codes "BUFR") 0 (Some place)
    → stream_event (at + place) (drop (at + place) octets) (classify (drop (at + place) octets)) ≡ event ∷ []
    → moves ≡ candidate_len (drop (at + place) octets) (classify (drop (at + place) octets)) → 4 ≤ moves → moves ≤ length (drop (at + place) octets)
    → events_from at octets ≡ event ∷ events_from (at + place + moves) octets
events-found octets at place moves event finds here is some within =
    cc (
      scan_from-found (drop at octets) (Some place) finds at,
      drop-twice place at octets,
      scan_from-here (at + place) (drop (at + place) octets) (omega (arith, some, within)) (omega (arith, some, is)),
      drop-twice moves (at + place) octets,
    )

pub events-none : (octets : List ℕ) (at : ℕ) → FindsNeedle (drop at octets) (codes "BUFR") 0 None → events_from at octets ≡ []
events-none octets at finds = scan_from-found (drop at octets) None finds at

-- the same, for the slice that the code takes
pub events-absent : (octets rest word : List ℕ) (at : ℕ) → rest ≡ drop at octets → word ≡ codes "BUFR" → FindsNeedle rest word 0 None → events_from at octets ≡ []
events-absent octets rest word at rest_is word_is finds = events-none octets at (rw (rest_is, word_is) at finds)

pub events-end : (octets : List ℕ) (at : ℕ) → length octets ≤ at → events_from at octets ≡ []
events-end octets at past = rw (drop_of_length-le, scan_from-nil)

-- the same, for the slices that the code takes
pub starts-there : (octets rest m word : List ℕ) (at place : ℕ) → rest ≡ drop at octets → m ≡ drop (at + place) octets → word ≡ codes "BUFR" → FindsNeedle rest word 0 (Some place) → StartsWithBufr m
starts-there octets rest m word at place rest_is m_is word_is finds =
    let here = rw (rest_is, word_is) at finds in
    rw m_is (ap (has_word_at (codes "BUFR") 0) (sym (drop-twice place at octets)) ∙ holds-there (drop at octets) place here.1)

pub event-next : (Is : StreamEvent → Type 0) (octets rest m word : List ℕ) (at place moves : ℕ) → rest ≡ drop at octets → m ≡ drop (at + place) octets → word ≡ codes "BUFR"
    → FindsNeedle rest word 0 (Some place) → (w : FindsEvent Is (at + place) m moves) → events_from at octets ≡ w.event ∷ events_from (at + place + moves) octets
event-next Is octets rest m word at place moves rest_is m_is word_is finds w =
    let S : List ℕ → Type 0 = λ l. stream_event (at + place) l (classify l) ≡ w.event ∷ [] in
    let M : List ℕ → Type 0 = λ l. moves ≡ candidate_len l (classify l) in
    events-found octets at place moves w.event (rw (rest_is, word_is) at finds) (subst S m_is w.here) (subst M m_is w.moves) w.some (omega (arith, w.within, ap length m_is))

-- The events up to `at` were passed.
pub record Reached (octets : List ℕ) (from : ℕ) (passed : List StreamEvent) (at : ℕ) : Type 0 where
  pub events : events_from from octets ≡ passed ++ events_from at octets
  pub within : from ≤ length octets → at ≤ length octets
  pub past : length octets ≤ from → at ≡ from
  pub ends : at ≡ end_after from passed

ends-next : (from : ℕ) (passed : List StreamEvent) (event : StreamEvent) → end_after from (passed ++ event ∷ []) ≡ end_of event
ends-next from [] event = refl
ends-next from (first ∷ passed) event = ends-next (end_of first) passed event

pub reached-none : (octets : List ℕ) (from : ℕ) → Reached octets from [] from
reached-none octets from = record { events = refl; within = λ h. h; past = λ _. refl; ends = refl }

module _ (octets : List ℕ) (from : ℕ) (passed : List StreamEvent) (at : ℕ) (so : Reached octets from passed at) where
  -- Another event was passed.
  pub reached-next : (Is : StreamEvent → Type 0) (m : List ℕ) (begin moves at' : ℕ) (w : FindsEvent Is begin m moves) → m ≡ drop begin octets
      → events_from at octets ≡ w.event ∷ events_from (begin + moves) octets → at' ≡ begin + moves → Reached octets from (passed ++ w.event ∷ []) at'
  reached-next Is m begin moves at' w m_is next is = record {
    events = so.events ∙ ap (λ es. passed ++ es) (next ∙ ap (λ n. w.event ∷ events_from n octets) (sym is)) ∙ sym (append_assoc passed (w.event ∷ []) (events_from at' octets));
    within = λ h. omega (arith, w.some, w.within, ap length m_is, length-drop begin octets);
    past = λ h. omega (arith, ap length (sym (events-end octets at (omega (arith, so.past h))) ∙ next));
    ends = is ∙ (sym w.ends ∙ sym (ends-next from passed w.event));
  }

  pub reached-same : (at' : ℕ) → at' ≡ at → Reached octets from passed at'
  reached-same at' is = rw is so

  -- There are no more events.
  pub over-end : (at' : ℕ) → events_from at octets ≡ [] → length octets ≤ at' → (from ≤ length octets → at' ≤ length octets)
      → (length octets < from → at' ≡ from) → PassesOver octets from passed at' (pos 0)
  over-end at' none past within stays =
      let end = events-end octets at' past in
      grind (arith, common_steps)

  -- The call stopped before the end.
  pub over-stopped : (status : ℤ) → IsRunStatus status → ¬ (status ≡ pos 0) → PassesOver octets from passed at status
  over-stopped status ran other = record { ran = ran; events = so.events; within = so.within; past = λ h. so.past (omega arith); done = λ is. absurd (other is); stopped = λ _. so.ends }

-- ---- The caller's buffers, after the elements that were written.

-- If everything after n elements is unchanged, so is everything after more elements.
rest-after : {X : Type 0} (old mid new : List X) (n m : ℕ) → n ≤ m → drop n mid ≡ drop n old → drop m new ≡ drop m mid → drop m new ≡ drop m old
rest-after old mid new n m few first more =
    let at : n + (m - n) ≡ m = omega arith in
    more ∙ (sym (ap (λ k. drop k mid) at) ∙ (sym (drop-drop (m - n) n mid) ∙ (ap (drop (m - n)) first ∙ (drop-drop (m - n) n old ∙ ap (λ k. drop k old) at))))

-- The number of written elements does not decrease.
pub written-more : {X : Type 0} (n m : ℕ) (before after more : List X) → n ≤ length before → m ≤ length after → take m after ≡ take n before ++ more → n ≤ m
written-more n m before after more fits fits' written =
    omega (arith, ap length written, length-append (take n before) more, length-take-le n before fits, length-take-le m after fits')

-- the elements after a part of a buffer into which the code writes
pub put-rest : {X : Type 0} (at n : ℕ) (to part : List X) → length part ≡ n → at + n ≤ length to → drop (at + n) (take at to ++ (part ++ drop (at + n - at) (drop at to))) ≡ drop (at + n) to
put-rest at n to part long room = grind (arith, common_steps, length-append (take at to) part)

-- the same, after another part
pub rest-next : {X : Type 0} (old before after more : List X) (n m : ℕ) → n ≤ length before → m ≤ length after → take m after ≡ take n before ++ more → drop n before ≡ drop n old
    → drop m after ≡ drop m before → drop m after ≡ drop m old
rest-next old before after more n m fits fits' written first rest = rest-after old before after n m (written-more n m before after more fits fits' written) first rest

-- The texts of the events up to `texts.at` were written.
pub record SoFar (piece : StreamEvent → Piece) (octets : List ℕ) (from : ℕ) (output errors : List ℕ) (texts : Texts) : Type 0 where
  pub passed : List StreamEvent
  pub reached : Reached octets from passed texts.at
  pub leaves : Leaves output errors texts (map piece passed)
  pub few : texts.accepted + texts.refused ≤ texts.at

-- another text
flat-next : (f : Piece → List ℕ) (piece : StreamEvent → Piece) (passed : List StreamEvent) (event : StreamEvent)
    → flat_map f (map piece (passed ++ event ∷ [])) ≡ flat_map f (map piece passed) ++ f (piece event)
flat-next f piece passed event = grind (arith, common_steps)

count-next : (f : Piece → Bool) (piece : StreamEvent → Piece) (passed : List StreamEvent) (event : StreamEvent)
    → count_by f (map piece (passed ++ event ∷ [])) ≡ count_by f (map piece passed) + from_bool (f (piece event))
count-next f piece [] event = grind arith
count-next f piece (first ∷ passed) event = grind (arith, common_steps)

refused-else : (p : Piece) → is_refused p ≡ not (is_accepted p)
refused-else (OnOutput text) = refl
refused-else (OnErrors text) = refl

one-counted : (b : Bool) → from_bool b + from_bool (not b) ≡ 1
one-counted true = refl
one-counted false = refl

-- The statuses differ from each other.
same-numbers : (a b : ℕ) → pos a ≡ pos b → a ≡ b
same-numbers a b is = cc

pub apart-0-74 : pos 0 ≡ pos 74 → ⊥
apart-0-74 is = omega (arith, same-numbers)

pub apart-74-0 : pos 74 ≡ pos 0 → ⊥
apart-74-0 is = omega (arith, same-numbers)

pub apart-73-0 : pos 73 ≡ pos 0 → ⊥
apart-73-0 is = omega (arith, same-numbers)

pub apart-73-74 : pos 73 ≡ pos 74 → ⊥
apart-73-74 is = omega (arith, same-numbers)

module _ (piece : StreamEvent → Piece) (octets : List ℕ) (from : ℕ) (output errors : List ℕ) (texts : Texts) (so : SoFar piece octets from output errors texts) where
  pub so-far-next : (event : StreamEvent) (output' errors' : List ℕ) (texts' : Texts) → Reached octets from (so.passed ++ event ∷ []) texts'.at → texts.at + 1 ≤ texts'.at
      → take texts'.output_length output' ≡ take texts.output_length output ++ output_of (piece event) → take texts'.errors_length errors' ≡ take texts.errors_length errors ++ errors_of (piece event)
      → texts'.output_length ≤ length output' → texts'.errors_length ≤ length errors'
      → texts'.accepted ≡ texts.accepted + from_bool (is_accepted (piece event)) → texts'.refused ≡ texts.refused + from_bool (not (is_accepted (piece event)))
      → SoFar piece octets from output' errors' texts'
  so-far-next event output' errors' texts' reached moves written blamed output_fits errors_fits accepted refused = grind (arith, flat-next, count-next)

  pub so-far-same : (texts' : Texts) → texts'.at ≡ texts.at → texts'.output_length ≡ texts.output_length → texts'.errors_length ≡ texts.errors_length → texts'.accepted ≡ texts.accepted
      → texts'.refused ≡ texts.refused → SoFar piece octets from output errors texts'
  so-far-same texts' at output_length errors_length accepted refused = search (rules, reached-same)

  -- The text of the next event was put into the buffers.
  pub so-far-put : (place moves : ℕ) (m : List ℕ) (text : EventText) (mid texts' : Texts) (output' errors' : List ℕ) → (w : WritesEvent piece (texts.at + place) m moves text)
      → m ≡ drop (texts.at + place) octets → events_from texts.at octets ≡ w.event ∷ events_from (texts.at + place + moves) octets → HasPut text texts output errors mid output' errors'
      → texts'.at ≡ texts.at + place + moves → texts'.output_length ≡ mid.output_length → texts'.errors_length ≡ mid.errors_length
      → texts'.accepted ≡ mid.accepted + from_bool text.accepted → texts'.refused ≡ mid.refused + from_bool (not text.accepted)
      → SoFar piece octets from output' errors' texts'
  so-far-put place moves m text mid texts' output' errors' w m_is next put at output_length errors_length accepted refused =
      so-far-next w.event output' errors' texts'
      (reached-next octets from so.passed texts.at so.reached (λ event. IsTextOf text (piece event)) m (texts.at + place) moves texts'.at w m_is next at) (omega (arith, w.some))
      (ap (λ n. take n output') output_length ∙ put.written ∙ ap (λ l. take texts.output_length output ++ l) w.is.output)
      (ap (λ n. take n errors') errors_length ∙ put.blamed ∙ ap (λ l. take texts.errors_length errors ++ l) w.is.errors)
      (omega (arith, put.output_fits)) (omega (arith, put.errors_fits))
      (accepted ∙ ap (λ n. n + from_bool text.accepted) put.accepted ∙ ap (λ b. texts.accepted + from_bool b) w.is.accepted)
      (refused ∙ ap (λ n. n + from_bool (not text.accepted)) put.refused ∙ ap (λ b. texts.refused + from_bool (not b)) w.is.accepted)

  -- There are no more events.
  pub so-far-done : length octets ≤ texts.at → Passes piece octets from output errors texts (pos 0)
  so-far-done past = record {
    passed = so.passed;
    over = over-end octets from so.passed texts.at so.reached texts.at (events-end octets texts.at past) past so.reached.within (λ h. so.reached.past (omega arith));
    leaves = so.leaves;
    stops = λ is. absurd (apart-0-74 is);
  }

  -- After the last event, the search is at the end.
  pub so-far-ended : (texts' : Texts) → texts.at < length octets → events_from texts.at octets ≡ [] → texts'.at ≡ length octets → texts'.output_length ≡ texts.output_length
      → texts'.errors_length ≡ texts.errors_length
      → texts'.accepted ≡ texts.accepted → texts'.refused ≡ texts.refused → Passes piece octets from output errors texts' (pos 0)
  so-far-ended texts' inside none at output_length errors_length accepted refused = record {
    passed = so.passed;
    over = over-end octets from so.passed texts.at so.reached texts'.at none (omega arith) (λ _. omega arith)
        (λ h. omega (arith, h, inside, so.reached.past (omega arith)));
    leaves = record {
      written = ap (λ n. take n output) output_length ∙ so.leaves.written;
      blamed = ap (λ n. take n errors) errors_length ∙ so.leaves.blamed;
      output_fits = omega (arith, so.leaves.output_fits);
      errors_fits = omega (arith, so.leaves.errors_fits);
      accepted = accepted ∙ so.leaves.accepted;
      refused = refused ∙ so.leaves.refused;
    };
    stops = λ is. absurd (apart-0-74 is);
  }

  pub so_far_stopped : Passes piece octets from output errors texts (pos 73)
  so_far_stopped = record {
    passed = so.passed;
    over = over-stopped octets from so.passed texts.at so.reached (pos 73) (inr (inl refl)) apart-73-0;
    leaves = so.leaves;
    stops = λ is. absurd (apart-73-74 is);
  }

  -- There is no room for the next event.
  pub so-far-full : (event : StreamEvent) (more : List StreamEvent) → events_from texts.at octets ≡ event ∷ more → LacksRoom output errors texts (output_of (piece event)) (errors_of (piece event))
      → Passes piece octets from output errors texts (pos 74)
  so-far-full event more next lacks = record {
    passed = so.passed;
    over = over-stopped octets from so.passed texts.at so.reached (pos 74) (inr (inr refl)) apart-74-0;
    leaves = so.leaves;
    stops = λ is. rw next lacks;
  }

-- There is no room for the text of the next event.
pub so-far-no-room : (piece : StreamEvent → Piece) (octets : List ℕ) (from : ℕ) (output errors : List ℕ) (texts texts' : Texts) (place moves : ℕ) (m : List ℕ) (text : EventText)
    (output' errors' : List ℕ)
    → SoFar piece octets from output errors texts → (w : WritesEvent piece (texts.at + place) m moves text) → events_from texts.at octets ≡ w.event ∷ events_from (texts.at + place + moves) octets
    → HasNoRoom text texts output errors texts' output' errors' → Passes piece octets from output' errors' texts' (pos 74)
so-far-no-room piece octets from output errors texts texts' place moves m text output' errors' so w next none =
    let so' : SoFar piece octets from output errors texts' = search (rules, so-far-same) in
    let lacks : LacksRoom output errors texts' (output_of (piece w.event)) (errors_of (piece w.event)) = record {
      output_needed = none.output_needed ∙ ap length w.is.output;
      errors_needed = none.errors_needed ∙ ap length w.is.errors;
      lacks = none.lacks;
    } in
    rw (none.same_output, none.same_errors) (so-far-full piece octets from output errors texts' so' w.event (events_from (texts.at + place + moves) octets) (ap (λ n. events_from n
    octets) none.at ∙ next) lacks)

-- The same in a loop, which does not change the buffers after these texts.
pub record TextsLoop (piece : StreamEvent → Piece) (octets : List ℕ) (from : ℕ) (old_output old_errors output errors : List ℕ) (texts : Texts) : Type 0 where
  pub so : SoFar piece octets from output errors texts
  pub rest : LeavesRest old_output old_errors texts output errors
  pub reserved : texts.reserved ≡ 0

-- The text of another event was put into the buffers.
pub rest-put : (old_output old_errors output errors : List ℕ) (texts : Texts) (text : EventText) (mid texts' : Texts) (output' errors' : List ℕ) → texts.output_length ≤ length output
    → texts.errors_length ≤ length errors → LeavesRest old_output old_errors texts output errors → HasPut text texts output errors mid output' errors'
    → texts'.output_length ≡ mid.output_length → texts'.errors_length ≡ mid.errors_length → LeavesRest old_output old_errors texts' output' errors'
rest-put old_output old_errors output errors texts text mid texts' output' errors' output_fits errors_fits rest put output_length errors_length = search (rules, rest-next)

-- There was no room for the text.
pub rest-no-room : (old_output old_errors output errors : List ℕ) (texts : Texts) (text : EventText) (texts' : Texts) (output' errors' : List ℕ) → LeavesRest old_output old_errors texts output errors
    → HasNoRoom text texts output errors texts' output' errors' → LeavesRest old_output old_errors texts' output' errors'
rest-no-room old_output old_errors output errors texts text texts' output' errors' rest none =
    record { output_rest = rw (none.output_length, none.same_output) rest.output_rest; errors_rest = rw (none.errors_length, none.same_errors) rest.errors_rest }

-- Nothing was written.
pub so-far-none : (piece : StreamEvent → Piece) (octets : List ℕ) (output errors : List ℕ) (texts : Texts) → texts.output_length ≡ 0 → texts.errors_length ≡ 0 → texts.accepted ≡ 0 → texts.refused ≡ 0
    → SoFar piece octets texts.at output errors texts
so-far-none piece octets output errors texts output_length errors_length accepted refused = search (rules, reached-none)

-- ---- A call that reads tables.

-- Nothing was written.
pub wrote_none : (from : ℕ) (output errors : List ℕ) (texts : Texts) → texts.at ≡ from → texts.output_length ≡ 0 → texts.errors_length ≡ 0 → texts.accepted ≡ 0 → texts.refused ≡ 0
    → WritesNone from output errors texts output errors
wrote_none from output errors texts at output_length errors_length accepted refused =
    record { at = at; output_length = output_length; errors_length = errors_length; accepted = accepted; refused = refused; same_output = refl; same_errors = refl }

-- a call that stopped before it read its input
pub unread : {A : Type 0} (from : ℕ) (output errors : List ℕ) (texts : Texts) (status : ℤ) → texts.at ≡ from → texts.output_length ≡ 0 → texts.errors_length ≡ 0 → texts.accepted ≡ 0
    → texts.refused ≡ 0 → ¬ HasRun status → A ⊎ ((¬ HasRun status) × WritesNone from output errors texts output errors)
unread from output errors texts status at output_length errors_length accepted refused stopped = search (rules, wrote_none)

-- Both tables were read.
pub by_both_tables : (table_b table_d : List ℕ) (b : List Row) (d : List Sequence) (status : ℤ) (Holds : List Row → List Sequence → Type 0) (Otherwise : Type 0)
    → table_b_of (records_of table_b) ≡ Ok b → table_d_of (records_of table_d) ≡ Ok d → Holds b d → ByTables table_b table_d status Holds Otherwise
by_both_tables table_b table_d b d status Holds Otherwise is_b is_d holds = inl (record { b = b; d = d; is_b = is_b; is_d = is_d; holds = holds })

-- the status of a call that read its tables
pub ran_status : (table_b table_d : List ℕ) (b : List Row) (d : List Sequence) (status : ℤ) → table_b_of (records_of table_b) ≡ Ok b → table_d_of (records_of table_d) ≡ Ok d
    → IsRunStatus status → CallStatus table_b table_d status
ran_status table_b table_d b d status is_b is_d ran = record {
  read = rw (is_b, is_d) (inl ran);
  no_table_b = rw is_b tt;
  no_table_d = rw (is_b, is_d) tt;
}

all-faults : {A : Type 0} (r : Result A TableFault) (P : TableFault → Type 0) → ((fault : TableFault) → P fault) → IfErr r P
all-faults (Ok a) P all = tt
all-faults (Err fault) P all = all fault

all-values : {A : Type 0} (r : Result A TableFault) (P : A → Type 0) → ((a : A) → P a) → IfOk r P
all-values (Ok a) P all = all a
all-values (Err fault) P all = tt

-- Memory ran out before the tables were read.
pub memory_status : (table_b table_d : List ℕ) → CallStatus table_b table_d (pos 73)
memory_status table_b table_d = record {
  read = all-values (table_b_of (records_of table_b)) (λ b. IfOk (table_d_of (records_of table_d)) (λ d. IsRunStatus (pos 73) ⊎ IsCycleStatus d (pos 73)))
      (λ b. all-values (table_d_of (records_of table_d)) (λ d. IsRunStatus (pos 73) ⊎ IsCycleStatus d (pos 73)) (λ d. inl (inr (inl refl))));
  no_table_b = all-faults (table_b_of (records_of table_b)) (λ fault. IsTableStatus 0 fault (pos 73)) (λ fault. inr refl);
  no_table_d = all-values (table_b_of (records_of table_b)) (λ b. IfErr (table_d_of (records_of table_d)) (λ fault. IsTableStatus 100 fault (pos 73)))
      (λ b. all-faults (table_d_of (records_of table_d)) (λ fault. IsTableStatus 100 fault (pos 73)) (λ fault. inr refl));
}

zero-first : (n : ℕ) → n ≡ 0 + n
zero-first n = omega arith

-- Table B cannot be read.
pub table_b_status : (table_b table_d : List ℕ) (fault : TableFault) (status : ℤ) → table_b_of (records_of table_b) ≡ Err fault → status ≡ pos (table_report fault).0
    → CallStatus table_b table_d status
table_b_status table_b table_d fault status is number =
    record { read = rw is tt; no_table_b = rw is (inl (number ∙ ap pos (zero-first (table_report fault).0))); no_table_d = rw is tt }

-- the numbers of the faults of tables
number-bounds : (fault : TableFault) → (40 ≤ (table_report fault).0) × ((table_report fault).0 ≤ 73)
number-bounds fault = grind arith

stopped-at : (n : ℕ) → (n ≡ 0 → ⊥) → (n ≡ 74 → ⊥) → ¬ HasRun (pos n)
stopped-at n some other (inl is) = some (same-numbers n 0 is)
stopped-at n some other (inr is) = other (same-numbers n 74 is)

pub stopped_73 : ¬ HasRun (pos 73)
stopped_73 = stopped-at 73 (λ is. omega arith) (λ is. omega arith)

pub stopped_by_b : (fault : TableFault) → ¬ HasRun (pos (table_report fault).0)
stopped_by_b fault = search (rules, stopped-at)

pub stopped_by_d : (fault : TableFault) → ¬ HasRun (pos (100 + (table_report fault).0))
stopped_by_d fault = stopped-at (100 + (table_report fault).0) (λ is. omega arith) (λ is. omega arith)

-- the status of a call whose Table D cannot be read
table-d-fault : (records : List Record) (fault : TableFault) (status : ℤ) → ReadsTableD records (Err fault) → fault ≢ tables.Memory → status ≡ pos (100 + (table_report fault).0)
    → IfErr (table_d_of records) (λ why. IsTableStatus 100 why status) × IfOk (table_d_of records) (λ d. IsRunStatus status ⊎ IsCycleStatus d status)
table-d-fault records fault status reads some is = grind arith

pub table_d_status : (table_b table_d : List ℕ) (b : List Row) (fault : TableFault) (status : ℤ) → table_b_of (records_of table_b) ≡ Ok b → ReadsTableD (records_of table_d) (Err fault)
    → fault ≢ tables.Memory → status ≡ pos (100 + (table_report fault).0) → CallStatus table_b table_d status
table_d_status table_b table_d b fault status is reads some number =
    let found = table-d-fault (records_of table_d) fault status reads some number in
    record { read = rw is found.1; no_table_b = rw is tt; no_table_d = rw is found.0 }

-- ---- The text of all documents.

-- the slice that the code takes
pub rest_from : (octets : List ℕ) (at from : ℕ) → from ≡ min at (length octets) → take (length octets - from) (drop from octets) ≡ drop at octets
rest_from octets at from is = take_rest octets from ∙ (ap (λ n. drop n octets) is ∙ drop_min at octets)

pub all_encoded : (pieces : List Piece) (before after : Writers) (text : EventText) (tally : Tally) → WritesPieces before after pieces × Tallies tally pieces
    → before.output.taken ≡ Some [] → before.errors.taken ≡ Some [] → after.output.taken ≡ Some text.output.octets.items → after.errors.taken ≡ Some text.errors.octets.items
    → IsTextOfAll pieces text tally
all_encoded pieces before after text tally (writes, tallies) b_output b_errors a_output a_errors =
    record { output = rw (b_output, a_output) at writes.output; errors = rw (b_errors, a_errors) at writes.errors; tallies = tallies }

no-start : (n : ℕ) (l : List ℕ) → n ≡ 0 → take n l ≡ []
no-start n l is = ap (λ k. take k l) is

-- the text from an index on
pub rest-encoded : (form : Form) (b : List Row) (d : List Sequence) (rest rest' : List ℕ) (text : EventText) (tally : Tally) → rest ≡ rest'
    → IsTextOfAll (encode_pieces form b d (documents_of rest)) text tally → IsTextOfAll (encode_pieces form b d (documents_of rest')) text tally
rest-encoded form b d rest rest' text tally same made = grind arith

module _ (pieces : List Piece) (octets : List ℕ) (from : ℕ) (output errors output' errors' : List ℕ) (old mid texts : Texts) (text : EventText) (tally : Tally)
    (is : IsTextOfAll pieces text tally) (none : WritesNone from output errors old output errors) where
  -- There is room for the text.
  pub encodes_all : HasPut text old output errors mid output' errors' → texts.output_length ≡ mid.output_length → texts.errors_length ≡ mid.errors_length → texts.at ≡ length octets
      → texts.accepted ≡ tally.accepted → texts.refused ≡ tally.refused → Encodes pieces octets from output errors texts output' errors' (pos 0)
  encodes_all put output_length errors_length at accepted refused = search (rules, no-start, apart-0-74)

  -- There is no room for the text.
  pub encodes_none : HasNoRoom text old output errors texts output' errors' → Encodes pieces octets from output errors texts output' errors' (pos 74)
  encodes_none full = grind (arith, apart-74-0)

-- ---- The clauses of the calls.

-- a call that read its stream with these tables
pub dump_read : (table_b table_d : List ℕ) (b : List Row) (d : List Sequence) (octets : List ℕ) (from from' : ℕ) (output errors : List ℕ) (texts : Texts) (status : ℤ) (Otherwise : Type 0)
    → table_b_of (records_of table_b) ≡ Ok b → table_d_of (records_of table_d) ≡ Ok d → from' ≡ from → Passes (dump_piece b d) octets from' output errors texts status
    → ByTables table_b table_d status (λ b d. Passes (dump_piece b d) octets from output errors texts status) Otherwise
dump_read table_b table_d b d octets from from' output errors texts status Otherwise is_b is_d at passes = grind arith

-- a property of a form that is known
if-known : {X : Type 0} (o : Option X) (x : X) (Holds : X → Type 0) → Some x ≡ o → Holds x → IfSome o Holds
if-known o x Holds is holds = rw (← is) holds

-- the status of a call whose form is known
pub known_status : (number : ℕ) (form : Form) (table_b table_d : List ℕ) (status : ℤ) → Some form ≡ form_by number → CallStatus table_b table_d status
    → IfSome (form_by number) (λ form'. CallStatus table_b table_d status)
known_status number form table_b table_d status known is = if-known (form_by number) form (λ form'. CallStatus table_b table_d status) known is

pub known_form : (X : Type 0) (number : ℕ) (form : Form) → Some form ≡ form_by number → IfNone (form_by number) X
known_form X number form known = rw (← known) tt

any-form : (X : Type 0) (o : Option Form) → X → IfNone o X
any-form X None x = x
any-form X (Some form) x = tt

pub unknown_form : (number from : ℕ) (output errors : List ℕ) (texts : Texts) → texts.at ≡ from → texts.output_length ≡ 0 → texts.errors_length ≡ 0 → texts.accepted ≡ 0 → texts.refused ≡ 0
    → IfNone (form_by number) ((pos 75 ≡ pos 75) × WritesNone from output errors texts output errors)
unknown_form number from output errors texts at output_length errors_length accepted refused = search (rules, any-form)

-- a call that stopped before it read its text
pub encode_unread : (number : ℕ) (form : Form) (table_b table_d octets : List ℕ) (from : ℕ) (output errors : List ℕ) (texts : Texts) (status : ℤ) → Some form ≡ form_by number → texts.at ≡ from
    → texts.output_length ≡ 0 → texts.errors_length ≡ 0 → texts.accepted ≡ 0 → texts.refused ≡ 0 → ¬ HasRun status
    → IfSome (form_by number) (λ form. ByTables table_b table_d status
    (λ b d. Encodes (encode_pieces form b d (documents_of (drop from octets))) octets from output errors texts output errors status) (WritesNone from output errors texts output errors))
encode_unread number form table_b table_d octets from output errors texts status known at output_length errors_length accepted refused stopped =
    if-known (form_by number) form (λ form. ByTables table_b table_d status
    (λ b d. Encodes (encode_pieces form b d (documents_of (drop from octets))) octets from output errors texts output errors status) (WritesNone from output errors texts output errors)) known
    (unread from output errors texts status at output_length errors_length accepted refused stopped)

-- a call that read its text with these tables
pub encode_read : (number : ℕ) (form : Form) (table_b table_d : List ℕ) (b : List Row) (d : List Sequence) (octets : List ℕ) (from : ℕ) (output errors : List ℕ) (texts : Texts)
    (output' errors' : List ℕ) (status : ℤ) → Some form ≡ form_by number → table_b_of (records_of table_b) ≡ Ok b → table_d_of (records_of table_d) ≡ Ok d
    → Encodes (encode_pieces form b d (documents_of (drop from octets))) octets from output errors texts output' errors' status
    → IfSome (form_by number) (λ form. ByTables table_b table_d status
    (λ b d. Encodes (encode_pieces form b d (documents_of (drop from octets))) octets from output errors texts output' errors' status) (WritesNone from output errors texts output' errors'))
encode_read number form table_b table_d b d octets from output errors texts output' errors' status known is_b is_d encodes = search (rules, if-known, by_both_tables)
