use Rattle.std.proofs.Common.{rules, false}
use Rattle.std.proofs.lemmas.Result.{err_from_is_err_and}
use Rattle.bufr_tables.specs.Prelude.{trees_of_cells, tables_of, builder_model, growth}
use Rattle.bufr_tables.proofs.SoundLemmas.{tree_says, tree_fine, whole-fault, whole-empty, whole-ok, whole-built, IsBuilt}
use Rattle.bufr_tables.proofs.template.Template.build.Goals as goal

pub returns-in_err-list-clause-fault : goal.returns-in_err-list-clause-fault
returns-in_err-list-clause-fault c =
    let p = err_from_is_err_and c.from_residual-in_err-list.result c.from_residual-in_err-list.ensures.1 in
    rw (p.1, p.2) (whole-fault (tables_of c.args.table_b.now c.args.table_d.now) c.args.descriptors.now (growth c.in_ok-cells.cells.items 0 0 false) _ (search rules) c.in_err-list.ensures)

pub returns-then-not-growing-clause-fault : goal.returns-then-not-growing-clause-fault
returns-then-not-growing-clause-fault c = λ other.
    whole-empty (tables_of c.args.table_b.now c.args.table_d.now) c.args.descriptors.now (growth c.in_ok-cells.cells.items 0 0 false) (builder_model c.list.new.growing) _ (search rules)
    c.in_ok-list.ensures c.if-not-growing.true (search rules)

-- The cells that the code returns are a template for the list.
built : (c : goal.In_ok-push_cell) → IsBuilt (tables_of c.args.table_b.now c.args.table_d.now) c.args.descriptors.now c.push_cell.new.cells.items c.list.new.growing.depth
built c =
    whole-built (tables_of c.args.table_b.now c.args.table_d.now) c.args.descriptors.now (builder_model c.list.new.growing) c.push_cell.new.cells.items
    (whole-ok (tables_of c.args.table_b.now c.args.table_d.now) c.args.descriptors.now (growth c.in_ok-cells.cells.items 0 0 false) (builder_model c.list.new.growing) (search rules)
    c.in_ok-list.ensures c.if-not-growing.false)
    c.in_ok-push_cell.ensures.ok c.list.new.growing.within

pub invariant_of-result : goal.invariant_of-result
invariant_of-result c = (built c).is_kept

pub returns-clause-tree : goal.returns-clause-tree
returns-clause-tree c = (built c).is_defined

pub returns-clause-leaves : goal.returns-clause-leaves
returns-clause-leaves c = tree_says (tables_of c.args.table_b.now c.args.table_d.now) c.args.descriptors.now (trees_of_cells c.push_cell.new.cells.items) (built c).is_defined

pub returns-clause-known : goal.returns-clause-known
returns-clause-known c = (tree_fine (tables_of c.args.table_b.now c.args.table_d.now) c.args.descriptors.now (trees_of_cells c.push_cell.new.cells.items) (built c).is_defined).is_known

pub returns-clause-sound : goal.returns-clause-sound
returns-clause-sound c = (built c).is_kept.is_flattened.sound

pub returns-clause-legal : goal.returns-clause-legal
returns-clause-legal c = (built c).is_kept.is_flattened.legal

pub returns-clause-within : goal.returns-clause-within
returns-clause-within c = (built c).is_kept.is_flattened.within

pub returns-clause-shallow : goal.returns-clause-shallow
returns-clause-shallow c = (built c).is_kept.is_flattened.shallow
