use Rattle.std.proofs.Common.{◌≡◌, ◌∙◌, ◌<◌, ap, sym, arith, length, slice_index}
use Rattle.std.proofs.lemmas.Bool.Decides.{nat_tests}
use Rattle.bufr_text.specs.Prelude.{leasts, mosts}
use Rattle.bufr_text.proofs.HeaderLemmas.{at-key, mosts-of-4}
use Rattle.bufr_text.proofs.header.in_range.Goals.{then-edition-eq3, else-edition-eq3}
use Rattle.bufr_text.proofs.header.in_range.Goals as goal

pub returns-then-from-value-clause-value : goal.returns-then-from-value-clause-value
returns-then-from-value-clause-value c =
    let within : c.args.key < length c.keys.result.now = omega (arith, c.keys.ensures.count, c.requires) in
    let least : c.from.result ≡ slice_index leasts c.args.key = c.from.ensures ∙ at-key (λ key. key.1) c.keys.result.now c.args.key _ within
    ∙ ap (λ xs. slice_index xs c.args.key) c.keys.ensures.leasts in
    let most : c.if-edition-eq3.most ≡ slice_index (mosts c.args.edition) c.args.key =
    elim c.if-edition-eq3.branch [
      | then-edition-eq3 w ↦ let same : mosts 3 ≡ mosts c.args.edition =
          ap mosts (sym w.if-edition-eq3.true) in w.most-is ∙ at-key (λ key. key.2) c.keys.result.now c.args.key _ within ∙ ap (λ xs. slice_index xs c.args.key) c.keys.ensures.mosts_3
          ∙ ap (λ xs. slice_index xs c.args.key) same
      | else-edition-eq3 w ↦ let same : mosts 4 ≡ mosts c.args.edition =
          sym (mosts-of-4 c.args.edition w.if-edition-eq3.false) in w.most-is ∙ at-key (λ key. key.3) c.keys.result.now c.args.key _ within
          ∙ ap (λ xs. slice_index xs c.args.key) c.keys.ensures.mosts_4 ∙ ap (λ xs. slice_index xs c.args.key) same
    ] in
    grind (arith, nat_tests, least, most, c.from-then-from-value.ensures, c.if-from-value.true)

pub returns-else-from-value-clause-value : goal.returns-else-from-value-clause-value
returns-else-from-value-clause-value c =
    let least : c.from.result ≡ slice_index leasts c.args.key = c.from.ensures ∙ at-key (λ key. key.1) c.keys.result.now c.args.key _ (omega (arith, c.keys.ensures.count, c.requires))
    ∙ ap (λ xs. slice_index xs c.args.key) c.keys.ensures.leasts in
    grind (arith, nat_tests, least, c.if-from-value.false)
