use Rattle.std.proofs.Common.{[], refl}
use Rattle.std.proofs.lemmas.List.{append-nil}
use Rattle.bufr_text.specs.Prelude.{new_reader}
use Rattle.bufr_text.proofs.ReaderLemmas.{call-keeps}
use Rattle.bufr_text.proofs.laws.documents_reported_are_the_first.Goals as goal

pub returns : goal.returns
returns c = λ left left' s results bs call. (
  call.goes.whole,
  λ t going. call.goes.openly going t,
  λ done. rw (append-nil bs, done.2, append-nil results) at (call.goes.whole [] (λ ended. refl)),
  λ none. rw (append-nil bs, none.1, append-nil results) at (call.goes.openly none.0 []),
  (call.lines.0, call.lines.1, call.lines.2, call-keeps left left' new_reader s results bs call),
)
