use Rattle.std.proofs.Common.{rules, ◌∙◌, ◌≤◌, ◌<◌, ◌++◌, List, ◌∷◌, [], length, map, ap, sym, arith}
use Rattle.std.proofs.lemmas.List.{take_all}
use Rattle.arr_export.specs.ValueColumns.{tree_of}
use Rattle.data_types.specs.promise.TypedView.{typed_of}
use Rattle.layout_rules.specs.promise.Values.{rows_of}
use Rattle.raw_array.specs.promise.Members.{ArrayTree}
use Rattle.raw_array.specs.Members.{cost_of_all}
use Rattle.tree_model.specs.promise.TreeData.{trees}
use Rattle.list_cols.specs.promise.Exploded.{blocks_in, exploded_kinds}
use Rattle.list_cols.specs.Exploded.{exploded_columns}
use Rattle.list_cols.specs.promise.Nested.{Explode}
use Rattle.list_cols.proofs.Chunks.{many-kinds}
use Rattle.list_cols.proofs.NewColumns.{blocks-next, column-at, cost-push, many-columns, own_blocks, trees-next}
use Rattle.list_cols.proofs.columns.new_columns.Goals as goal

pub loop-k-init : goal.loop-k-init
loop-k-init c =
    let items = c.in-Ok.ensures.items in
    record {
      columns = items;
      count = search rules;
      room = search rules;
      units = rw items (omega arith);
      cost = rw items (omega arith);
      blocks = omega (arith, c.args.pass.now.most_blocks);
      nodes = omega (arith, c.args.pass.now.most_nodes);
    }

pub new_column-requires-clause-inside : goal.new_column-requires-clause-inside
new_column-requires-clause-inside c = omega (arith, c.loop-k-test.true, c.child_count-count.ensures)

pub new_column-requires-clause-fits : goal.new_column-requires-clause-fits
new_column-requires-clause-fits c = c.requires.fits c.loop-k.k (omega (arith, c.loop-k-test.true, c.child_count-count.ensures))

pub new_column-requires-clause-units : goal.new_column-requires-clause-units
new_column-requires-clause-units c =
    let before = c.loop-k.invariant in
    omega (arith, before.units, before.cost, c.requires.units, c.loop-k-test.true, c.child_count-count.ensures)

pub loop-k-preserved : goal.loop-k-preserved
loop-k-preserved c =
    let t = typed_of c.args.typed.now in
    let column = c.args.column in
    let array = c.args.array.now in
    let k = c.loop-k.k in
    let kinds = exploded_kinds column t in
    let rows = Explode column (rows_of t array) in
    let columns = exploded_columns column t array in
    let before = c.loop-k.invariant in
    let made = c.in-Ok-new_column.made in
    let one = c.in-Ok-new_column.ensures in
    let items = c.push_reserved.ensures.items in
    let inside : k < length kinds = omega (arith, c.loop-k-test.true, c.child_count-count.ensures, many-kinds column t) in
    let lt : k < length columns = omega (arith, inside, many-columns kinds 0 rows) in
    let at = column-at kinds k rows inside in
    let cost = ap (λ (xs : List ArrayTree). cost_of_all (trees xs)) items ∙ cost-push c.loop-k.columns.items made in
    record {
      columns = items ∙ (λ j. before.columns j ++ (one.made ∙ sym (ap tree_of at)) j ∷ []) ∙ sym (trees-next columns k lt);
      count = omega (arith, c.push_reserved.ensures.len, before.count);
      room = omega (arith, before.room, c.push_reserved.ensures.capacity);
      units = omega (arith, cost, before.units, one.units);
      cost = omega (arith, cost, before.cost, one.cost);
      blocks = omega (arith, one.blocks, before.blocks, blocks-next columns k lt, ap own_blocks at);
      nodes = omega (arith, one.nodes, before.nodes);
    }

pub release_all-requires : goal.release_all-requires
release_all-requires c = omega (arith, c.loop-k.invariant.units, c.in-Err.ensures.units, c.args.pass.now.supply)

pub returns-clause-columns : goal.returns-clause-columns
returns-clause-columns c =
    let t = typed_of c.args.typed.now in
    let column = c.args.column in
    let rows = Explode column (rows_of t c.args.array.now) in
    let columns = exploded_columns column t c.args.array.now in
    let most : length columns ≤ c.loop-k.k =
    omega (arith, c.loop-k-test.false, c.child_count-count.ensures, many-columns (exploded_kinds column t) 0 rows, many-kinds column t) in
    c.loop-k.invariant.columns ∙ ap (map tree_of) (take_all c.loop-k.k columns most)

pub returns-clause-blocks : goal.returns-clause-blocks
returns-clause-blocks c =
    let t = typed_of c.args.typed.now in
    let column = c.args.column in
    let rows = Explode column (rows_of t c.args.array.now) in
    let columns = exploded_columns column t c.args.array.now in
    let most : length columns ≤ c.loop-k.k =
    omega (arith, c.loop-k-test.false, c.child_count-count.ensures, many-columns (exploded_kinds column t) 0 rows, many-kinds column t) in
    omega (arith, c.loop-k.invariant.blocks, ap blocks_in (take_all c.loop-k.k columns most))
