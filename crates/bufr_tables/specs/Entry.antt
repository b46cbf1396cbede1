-- Only contracts need this file. How an entry is converted to a row, and how two rows are compared.
use Rattle.std.specs.Prelude.{◌==◌, ◌&&◌, Bool}
use Rattle.std.specs.Cmp.{IsEquivalence, and_equiv, int_eq_equiv, nat_eq_equiv, on_equiv}
use Rattle.std.specs.Cmp.Lexicographic.{nat_list_eq_equiv}
use Rattle.std.specs.Ordering.{int_eq}
use Rattle.std.specs.Str.{bytes_eq}
use Rattle.bufr_tables.specs.TableB.{stored_row, Row}
use Rattle.bufr_tables.specs.contracts.table_b.KindEq.TheImpl.Laws as kind_law
use Rattle.bufr_tables.specs.contracts.table_b.KindPartialEq.TheImpl as kind
use Rattle.bufr_tables.specs.declared.table_b.Entry.{Entry}

abbrev pub row_of_entry : Entry → Row
row_of_entry e = stored_row e.octets.now e.stored.now

abbrev pub is_same_row : Row → Row → Bool
is_same_row a b =
    bytes_eq a.name b.name && bytes_eq a.unit b.unit && (kind.ghosts).eq a.kind b.kind
    && (a.fxy == b.fxy) && int_eq a.scale b.scale && int_eq a.reference b.reference
    && (a.width == b.width)

pub same_row_equiv : IsEquivalence is_same_row
same_row_equiv =
    let texts =
    and_equiv
    (on_equiv (λ (row : Row). row.name) nat_list_eq_equiv)
    (on_equiv (λ (row : Row). row.unit) nat_list_eq_equiv) in
    let kinds = and_equiv texts (on_equiv (λ (row : Row). row.kind) kind_law.laws-law) in
    let fxys = and_equiv kinds (on_equiv (λ (row : Row). row.fxy) nat_eq_equiv) in
    let scales = and_equiv fxys (on_equiv (λ (row : Row). row.scale) int_eq_equiv) in
    let references = and_equiv scales (on_equiv (λ (row : Row). row.reference) int_eq_equiv) in
    and_equiv references (on_equiv (λ (row : Row). row.width) nat_eq_equiv)
