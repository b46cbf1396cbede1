use Rattle.std.proofs.Common.{append-nil, ◌∙◌, ◌≡◌, ◌-◌, ◌++◌, ◌∷◌, [], length, map, sym, arith, take, length-drop, ap}
use Rattle.bufr_frame.specs.Prelude.{words_left}
use Rattle.bufr_text.specs.Prelude.{descriptors_line, text_of_lines, runs_of}
use Rattle.bufr_text.proofs.PushLemmas.{◌⨾◌, lines-next, lines-none, some-left, none-left, so_far_on, so_far_end}
use Rattle.bufr_text.proofs.dump.push_descriptor_lines.Goals as goal
use Rattle.std.proofs.lemmas.Grind.{common_steps}

pub loop-words-smaller : goal.loop-words-smaller
loop-words-smaller g c =
    let some = some-left c.is_empty.result (words_left c.loop-words.words) c.is_empty.ensures c.loop-words-test.true in
    let left : length (words_left c.push_descriptors.new.words) ≡ length (words_left c.loop-words.words) - 8 =
    ap length c.push_descriptors.ensures.words ∙ length-drop 8 (words_left c.loop-words.words) in
    omega (arith, some, left)

pub loop-words-preserved : goal.loop-words-preserved
loop-words-preserved g c =
    let some = some-left c.is_empty.result (words_left c.loop-words.words) c.is_empty.ensures c.loop-words-test.true in
    let next = lines-next descriptors_line 7 (words_left c.loop-words.words) some
    ∙ ap (λ l. (descriptors_line (take 8 (words_left c.loop-words.words)) ++ 10 ∷ []) ++ text_of_lines (map descriptors_line (runs_of 8 l))) (sym c.push_descriptors.ensures.words) in
    so_far_on c.loop-words.invariant next (rw append-nil at (c.push.ensures ⨾ c.push_descriptors.ensures.pushes ⨾ c.push-in-loop-words.ensures ⨾ c.end_line.ensures.pushes))

pub returns : goal.returns
returns g c = grind (arith, common_steps, none-left, so_far_end, lines-none)
