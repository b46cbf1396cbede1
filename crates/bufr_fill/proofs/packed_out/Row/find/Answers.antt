use Rattle.std.proofs.Common.{sym, ap, ◌∙◌, ◌≡◌, ◌≤◌, ◌-◌, ◌^◌, rules, arith, slice_get}
use Rattle.bufr_fill.specs.Prelude.{entry_with}
use Rattle.bufr_fill.proofs.EntryLemmas.{begin_of, begin_more, end_within, found_entry}
use Rattle.bufr_fill.proofs.packed_out.Row.find.Goals as goal
use Rattle.bufr_fill.proofs.packed_out.Row.find.Goals.{then-subset-eq0, else-subset-eq0}

pub overflow_add-start : goal.overflow_add-start
overflow_add-start c =
    omega (arith, end_within c.args.self.entries.now c.args.self.ends.now (c.args.subset - 1) c.args.self.ends_are (omega (arith, c.requires)), c.args.self.few)

pub overflow_add-start-2 : goal.overflow_add-start-2
overflow_add-start-2 c =
    let few : c.if-subset-eq0.start ≤ 2 ^ 45 =
    elim c.if-subset-eq0.branch [
      | then-subset-eq0 w ↦ omega (arith, w.start-is)
      | else-subset-eq0 w ↦ omega (arith, w.start-is, end_within c.args.self.entries.now c.args.self.ends.now (c.args.subset - 1) c.args.self.ends_are (omega (arith, c.requires)), c.args.self.few)
    ] in
    omega (arith, few, c.args.self.near)

pub entry_at-requires : goal.entry_at-requires
entry_at-requires c = omega (arith, c.min.ensures, end_within c.args.self.entries.now c.args.self.ends.now c.args.subset c.args.self.ends_are c.requires)

pub returns : goal.returns
returns c =
    let ends = c.args.self.ends.now in
    let begin : c.if-subset-eq0.start ≡ begin_of 0 ends c.args.subset =
    elim c.if-subset-eq0.branch [
      | then-subset-eq0 w ↦ w.start-is ∙ ap (begin_of 0 ends) (sym w.if-subset-eq0.true)
      | else-subset-eq0 w ↦ search (rules, begin_more)
    ] in
    found_entry c.args.self.index c.args.subset c.args.self.entries.now c.args.self.ends.now 0 c.if-subset-eq0.start (entry_with c.entry_at.result.0 c.entry_at.result.1.now) c.args.self.ends_are
    c.requires begin
    (ap (slice_get c.args.self.entries.now) (sym c.min.ensures) ∙ sym c.entry_at.ensures)
