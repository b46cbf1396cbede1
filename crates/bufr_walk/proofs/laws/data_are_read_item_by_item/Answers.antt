use Rattle.std.proofs.Common.{ℕ, zero, suc, ◌≤◌, List, arith, false}
use Rattle.bufr_tables.specs.Prelude.{Record, Row, Tree, IsLegal, AreRows}
use Rattle.bufr_walk.specs.Prelude.{next_item, plain, packed, would_be_many}
use Rattle.bufr_walk.proofs.NextField.{table_read}
use Rattle.bufr_walk.proofs.CourseLemmas.{IsSane, plain_forth, packed_forth}
use Rattle.bufr_walk.proofs.PassLemmas.{GoesForth, legal_sane, pass_reads, pass_only, reading_left}
use Rattle.bufr_walk.proofs.laws.data_are_read_item_by_item.Goals as goal

some_forth : (n : ℕ) → 1 ≤ n → GoesForth (packed n)
some_forth zero some = absurd (omega (arith, some))
some_forth (suc n) some = packed_forth n

sane : (records : List Record) (table : List Row) (template : Tree) → AreRows records table → IsLegal template → (m : ℕ) → IsSane m (next_item table template)
sane records table template rows legal = legal_sane table template (table_read records table rows) legal

pub returns-clause-plain : goal.returns-clause-plain
returns-clause-plain c = λ records table template bits rows legal. (pass_reads plain plain_forth (λ items. false) (next_item table template) (sane records table template rows legal) bits).0

pub returns-clause-only_plain : goal.returns-clause-only_plain
returns-clause-only_plain c = λ records table template bits p rows legal h. pass_only plain plain_forth (λ items. false) (next_item table template) (sane records table template rows legal) bits p h

pub returns-clause-packed : goal.returns-clause-packed
returns-clause-packed c = λ records table template n bits rows legal some.
    (pass_reads (packed n) (some_forth n some) (would_be_many n) (next_item table template) (sane records table template rows legal) bits).0

pub returns-clause-only_packed : goal.returns-clause-only_packed
returns-clause-only_packed c = λ records table template n bits p rows legal some h.
    pass_only (packed n) (some_forth n some) (would_be_many n) (next_item table template) (sane records table template rows legal) bits p h

pub returns-clause-left : goal.returns-clause-left
returns-clause-left c = λ records table template d rows legal. reading_left (next_item table template) (sane records table template rows legal) d
