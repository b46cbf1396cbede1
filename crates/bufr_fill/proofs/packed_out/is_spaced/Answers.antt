use Rattle.std.proofs.Common.{◌≡◌, ◌==◌, ◌&&◌, ◌∙◌, ap, false, sym, true}
use Rattle.std.specs.List.{list_all}
use Rattle.std.specs.Str.{bytes_eq}
use Rattle.bufr_fill.proofs.RowLemmas.{spaced_start}
use Rattle.bufr_fill.proofs.packed_out.is_spaced.Goals as goal

pub returns-then-eq : goal.returns-then-eq
returns-then-eq c count few =
    let start = c.split_at.result.0.now in
    let rest = c.split_at.result.1.now in
    let same : true ≡ bytes_eq start c.args.text.now = sym c.if-eq.true ∙ c.eq.ensures in
    c.are_spaces.ensures ∙ ap (λ b. b && list_all (λ octet. octet == 32) rest) same
    ∙ spaced_start count c.args.longer.now start c.args.text.now rest c.split_at.ensures.by_index.0 c.split_at.ensures.front_len few

pub returns-else-eq : goal.returns-else-eq
returns-else-eq c count few =
    let start = c.split_at.result.0.now in
    let rest = c.split_at.result.1.now in
    let other : false ≡ bytes_eq start c.args.text.now = sym c.if-eq.false ∙ c.eq.ensures in
    c.if-eq.false ∙ ap (λ b. b && list_all (λ octet. octet == 32) rest) other
    ∙ spaced_start count c.args.longer.now start c.args.text.now rest c.split_at.ensures.by_index.0 c.split_at.ensures.front_len few
