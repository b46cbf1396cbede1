use Rattle.std.proofs.Common.{◌-◌, drop, arith}
use Rattle.bufr_frame.specs.Prelude.{words_left}
use Rattle.bufr_text.proofs.PushLemmas.{descriptors-next, descriptors-none, descriptors-full, left-next, ◌⨾◌, so_far_on, so_far_end}
use Rattle.bufr_text.proofs.dump.push_descriptors.Goals as goal

pub words-preserved : goal.words-preserved
words-preserved g c =
    let before = c.words.invariant in
    record {
      so_far = so_far_on before.so_far (descriptors-next (words_left c.words.words) (words_left c.next.new.self) c.words._done c.in-Some.word c.words-test.true c.in-Some.ensures.steps)
          (rw (c.text.ensures.value, c.from_word.ensures) at (c.push.ensures ⨾ c.push-in-words.ensures));
      left = left-next (words_left c.words.words) (words_left c.next.new.self) (drop 8 (words_left c.args.words.now)) c.words._done c.in-Some.word c.words-test.true c.in-Some.ensures.steps
          before.left;
    }

pub returns-in_default-clause-pushes : goal.returns-in_default-clause-pushes
returns-in_default-clause-pushes g c = so_far_end c.words.invariant.so_far (descriptors-none (8 - c.words._done) (words_left c.words.words) c.in_default.ensures.steps.0)

pub returns-clause-pushes : goal.returns-clause-pushes
returns-clause-pushes g c = so_far_end c.words.invariant.so_far (descriptors-full (8 - c.words._done) (words_left c.words.words) (omega (arith, c.words-test.false)))
