use Rattle.std.proofs.Common.{sym, ◌∙◌, rules, Some, ap}
use Rattle.bufr_text.proofs.ItemLemmas.{line-word, word-at}
use Rattle.bufr_text.proofs.LineLemmas.{value_there}
use Rattle.bufr_text.proofs.line.line_of.Goals as goal
use Rattle.std.specs.Option.{unwrap_or}
use Rattle.bufr_text.specs.Prelude.{Invalid}

pub returns : goal.returns
returns c =
    sym (value_there c.args.next c.in-Some.word.now c.args.line.now c.in-Some-without_prefix.rest.now (Some c.in-Some-number.value) c.in-Some.ensures.few c.in-Some.ensures.word
    c.in-Some-without_prefix.ensures.value c.in-Some-number.ensures)

pub returns-2 : goal.returns-2
returns-2 c =
    let word = word-at c.args.line.now c.memchr.result _ c.memchr.ensures c.unwrap_or-len.ensures in
    ap (λ o. unwrap_or o Invalid) c.worded.ensures ∙ rw (c.prefix.ensures, c.suffix.ensures, word)
    (sym (line-word c.args.line.now (search rules) (search rules) (search rules)))
